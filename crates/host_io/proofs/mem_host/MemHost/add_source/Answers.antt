use Rattle.host_io.specs.Places.{lent, here}
use Rattle.host_io.specs.Named.{places_of}
use Rattle.host_io.specs.MemSource.{new_state}
use Rattle.host_io.proofs.NamedLemmas.{with_place-name, with_place-twice}
use Rattle.host_io.proofs.mem_host.MemHost.add_source.Goals as goal

pub give_back-requires : goal.give_back-requires
give_back-requires c =
    rw (c.as_bytes-2.ensures.value, c.in_ok-lend_new.ensures.ok, c.as_bytes.ensures.value) (with_place-name (places_of c.self.inside.sources.items) c.args.name.now lent)

pub returns-clause-ok : goal.returns-clause-ok
returns-clause-ok c =
    rw (← c.self.view_is, c.give_back.ensures, c.in_ok-lend_new.ensures.ok, c.as_bytes-2.ensures.value, c.as_bytes.ensures.value, c.in_ok-source.ensures) (with_place-twice (places_of c.self.inside.sources.items) c.args.name.now lent (here (new_state c.args.bytes.now)))
