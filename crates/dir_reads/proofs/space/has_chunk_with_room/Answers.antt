use Rattle.std.proofs.Common.{true, List, [], unwrap_or, is_some, ap}
use Rattle.std.specs.List.{list_any}
use Rattle.std.specs.Option.{option_map}
use Rattle.volume_model.specs.declared.directory.Slot.{Slot}
use Rattle.volume_model.specs.Format.{room_in}
use Rattle.sector_disk.proofs.MadeCalls.{none_then}
use Rattle.meta_store.specs.Changes.{changed}
use Rattle.meta_draft.specs.Drafted.{drafted}
use Rattle.dir_reads.proofs.StoreSteps.{unchanged_then, kept_then, held_still}
use Rattle.dir_reads.proofs.ChunksTold.{says_on, says_there}
use Rattle.dir_reads.proofs.FoundSlots.{any_here, none_here}
use Rattle.dir_reads.proofs.space.has_chunk_with_room.Goals as goal

pub returns-then-has_room-clause-value : goal.returns-then-has_room-clause-value
returns-then-has_room-clause-value g c =
    let change = c.args.draft.now.change in
    let l = c.loop-k in
    let chunk = c.in_ok-chunk.chunk in
    let has_room = λ (slots : List Slot). is_some (room_in slots c.args.name.now) in
    says_there (list_any has_room) (drafted change (g.S.MetaRead.store c.args.store.now)).content (drafted change (g.S.MetaRead.store l.store)).content
    c.args.directory.now.numbers.items c.args.directory.now.count l.k chunk true
    (ap (option_map (changed change)) l.invariant.unchanged.content) c.loop-k-test.true c.in_ok-chunk.ensures.value
    (λ rest. any_here has_room (unwrap_or chunk []) c.has_room.result c.has_room.ensures c.if-has_room.true rest) l.invariant.says

pub loop-k-preserved : goal.loop-k-preserved
loop-k-preserved g c =
    let change = c.args.draft.now.change in
    let l = c.loop-k in
    let chunk = c.in_ok-chunk.chunk in
    let here = (drafted change (g.S.MetaRead.store l.store)).content in
    let next = (drafted change (g.S.MetaRead.store c.chunk.new.store)).content in
    let has_room = λ (slots : List Slot). is_some (room_in slots c.args.name.now) in
    record {
      held = held_still here next c.chunk.new.window.number c.chunk.new.window.bytes (ap (option_map (changed change)) c.in_ok-chunk.ensures.unchanged.content) c.in_ok-chunk.ensures.held;
      says = says_on (list_any has_room) (drafted change (g.S.MetaRead.store c.args.store.now)).content
          here c.args.directory.now.numbers.items c.args.directory.now.count l.k chunk
          (ap (option_map (changed change)) l.invariant.unchanged.content) c.loop-k-test.true c.in_ok-chunk.ensures.value
          (λ rest. none_here has_room (unwrap_or chunk []) c.has_room.result c.has_room.ensures c.if-has_room.false rest) l.invariant.says;
      unchanged = unchanged_then l.invariant.unchanged c.in_ok-chunk.ensures.unchanged;
      kept = kept_then l.invariant.kept c.in_ok-chunk.ensures.kept;
      none_failed = none_then l.invariant.none_failed (c.in_ok-chunk.ensures.failure.none (λ other. absurd (cc)));
    }
