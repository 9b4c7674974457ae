use Rattle.std.proofs.Common.{List, ◌∙◌, ap}
use Rattle.sector_disk.specs.MemDisk.{State as DiskState}
use Rattle.host_io.specs.declared.named.Named.{Named}
use Rattle.host_io.specs.Places.{lent, with_place}
use Rattle.host_io.specs.Named.{places_of}
use Rattle.host_io.proofs.mem_host.lend_or_make.Goals as goal

pub returns-in_ok-lend_new-in-None-clause-ok : goal.returns-in_ok-lend_new-in-None-clause-ok
returns-in_ok-lend_new-in-None-clause-ok c =
    c.in_ok-lend_new-in-None.ensures.ok ∙ ap (λ (es : List (Named DiskState)). with_place (places_of es) c.args.name.now lent) c.in-None.ensures.none
