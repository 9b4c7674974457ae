use Rattle.sector_disk.specs.MemDisk.{told_of as disk_told}
use Rattle.host_io.specs.MemSink.{told_of as sink_told}
use Rattle.host_io.specs.Named.{places_of}
use Rattle.host_io.specs.Places.{place_map}
use Rattle.host_io.proofs.HostTold.{asked_source}
use Rattle.host_io.proofs.mem_host.MemHostHost.take_source.Goals as goal

-- the call is the one that was looked up
pub returns-clause-only_named : goal.returns-clause-only_named
returns-clause-only_named c =
    rw (← c.self.view_is, ← c.deref.ensures.value, ← c.saturating_add-self-inside.ensures) (λ is. c.is_named-is_to_fail.ensures.0 (c.lend_source-given.ensures.only_named is))

pub returns-clause-after : goal.returns-clause-after
returns-clause-after c =
    let s = c.self.inside in
    rw (← c.self.view_is, c.note.ensures.asks, c.note.ensures.faults, c.note.ensures.absent, c.answer_of.ensures, c.make_room.ensures.same, c.in_ok-kept.ensures.name) (asked_source s.moment s.faults s.absent s.asks.items c.args.name.now c.lend_source-given.result c.lend_source-given.new.sources.items s.sources.items (λ q. place_map disk_told (places_of s.disks.items q)) (λ q. place_map sink_told (places_of s.sinks.items q)) c.lend_source-given.ensures.ok c.lend_source-given.ensures.err)
