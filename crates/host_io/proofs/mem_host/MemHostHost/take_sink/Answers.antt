use Rattle.sector_disk.specs.MemDisk.{told_of as disk_told}
use Rattle.host_io.specs.MemSource.{told_of as source_told}
use Rattle.host_io.specs.Named.{places_of}
use Rattle.host_io.specs.Places.{place_map}
use Rattle.host_io.proofs.HostTold.{asked_sink}
use Rattle.host_io.proofs.mem_host.MemHostHost.take_sink.Goals as goal

-- the call is the one that was looked up
pub returns-clause-only_named : goal.returns-clause-only_named
returns-clause-only_named c =
    rw (← c.self.view_is, ← c.deref.ensures.value, ← c.saturating_add-self-inside.ensures) (λ is. c.is_named-is_to_fail.ensures.0 (c.lend_sink-given.ensures.only_named is))

pub returns-clause-after : goal.returns-clause-after
returns-clause-after c =
    let s = c.self.inside in
    rw (← c.self.view_is, c.note.ensures.asks, c.note.ensures.faults, c.note.ensures.absent, c.answer_of.ensures, c.make_room.ensures.same, c.in_ok-kept.ensures.name) (asked_sink s.moment s.faults s.absent s.asks.items c.args.name.now c.lend_sink-given.result c.lend_sink-given.new.sinks.items s.sinks.items (λ q. place_map disk_told (places_of s.disks.items q)) (λ q. place_map source_told (places_of s.sources.items q)) c.lend_sink-given.ensures.ok c.lend_sink-given.ensures.err)
