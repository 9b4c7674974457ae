use Rattle.std.proofs.Common.{◌≡◌, refl}
use Rattle.sector_disk.specs.MemDisk.{told_of as disk_told}
use Rattle.host_io.specs.MemSink.{told_of as sink_told}
use Rattle.host_io.specs.MemSource.{told_of as source_told}
use Rattle.host_io.specs.Places.{lent, here, place_map}
use Rattle.host_io.specs.Named.{places_of}
use Rattle.host_io.proofs.HostTold.{told_lent, outside_with-disk}
use Rattle.host_io.proofs.mem_host.MemHostHost.give_disk.Goals as goal

pub give_back-requires : goal.give_back-requires
give_back-requires c =
    let is : places_of c.args.self.now.disks c.args.name.now ≡ lent = told_lent disk_told _ (c.requires _ refl) in
    rw c.as_bytes.ensures.value (rw (← c.self.view_is) at is)

pub returns-clause-held : goal.returns-clause-held
returns-clause-held c = rw (← c.self.view_is, ← c.as_bytes.ensures.value) c.give_back.ensures

pub returns-clause-told : goal.returns-clause-told
returns-clause-told c =
    let s = c.self.inside in
    rw (← c.self.view_is, ← c.as_bytes.ensures.value)
    (outside_with-disk s.moment s.faults s.absent s.asks.items _ refl c.as_bytes.result.now (places_of c.give_back.new.entries.items) (places_of s.disks.items) (λ q. place_map source_told (places_of s.sources.items q)) (λ q. place_map sink_told (places_of s.sinks.items q)) (here c.args.disk) c.give_back.ensures)
