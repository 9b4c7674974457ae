use Rattle.std.proofs.Common.{◌≡◌, List, [], Some, None, unwrap_or, ap}
use Rattle.std.specs.Option.{option_map}
use Rattle.lufs_base.specs.declared.Ino.{Ino}
use Rattle.volume_model.specs.declared.directory.Slot.{Slot}
use Rattle.sector_disk.proofs.MadeCalls.{none_then}
use Rattle.meta_store.specs.Changes.{changed}
use Rattle.meta_draft.specs.Drafted.{drafted}
use Rattle.dir_reads.specs.Chunks.{slots_in, first_inode}
use Rattle.dir_reads.proofs.StoreSteps.{unchanged_then, kept_then, held_still}
use Rattle.dir_reads.proofs.ChunksTold.{says_on, says_there}
use Rattle.dir_reads.proofs.FoundSlots.{not_here, found_here}
use Rattle.dir_reads.proofs.search.find_among.Goals as goal

pub returns-in-Some-clause-value : goal.returns-in-Some-clause-value
returns-in-Some-clause-value g c =
    let change = c.args.draft.now.change in
    let l = c.loop-k in
    let name = c.args.name.now in
    let chunk = c.in_ok-chunk.chunk in
    let found = option_map (λ (i : Ino). i.0) c.find_in.result in
    let is : found ≡ Some c.in-Some.i.0 = ap (option_map (λ (i : Ino). i.0)) c.in-Some.is in
    says_there (λ (chunks : List (List Slot)). first_inode name (slots_in chunks)) (drafted change (g.S.MetaRead.store c.args.store.now)).content
    (drafted change (g.S.MetaRead.store l.store)).content c.args.directory.now.numbers.items c.args.directory.now.count l.k chunk (Some c.in-Some.i.0)
    (ap (option_map (changed change)) l.invariant.unchanged.content) c.loop-k-test.true c.in_ok-chunk.ensures.value
    (λ rest. found_here name (unwrap_or chunk []) found c.in-Some.i.0 c.find_in.ensures is rest) l.invariant.says

pub loop-k-preserved : goal.loop-k-preserved
loop-k-preserved g c =
    let change = c.args.draft.now.change in
    let l = c.loop-k in
    let name = c.args.name.now in
    let chunk = c.in_ok-chunk.chunk in
    let found = option_map (λ (i : Ino). i.0) c.find_in.result in
    let none : found ≡ None = ap (option_map (λ (i : Ino). i.0)) c.in_default.is in
    let here = (drafted change (g.S.MetaRead.store l.store)).content in
    let next = (drafted change (g.S.MetaRead.store c.chunk.new.store)).content in
    record {
      held = held_still here next c.chunk.new.window.number c.chunk.new.window.bytes (ap (option_map (changed change)) c.in_ok-chunk.ensures.unchanged.content) c.in_ok-chunk.ensures.held;
      says = says_on (λ (chunks : List (List Slot)). first_inode name (slots_in chunks)) (drafted change (g.S.MetaRead.store c.args.store.now)).content
          here c.args.directory.now.numbers.items c.args.directory.now.count l.k chunk
          (ap (option_map (changed change)) l.invariant.unchanged.content) c.loop-k-test.true c.in_ok-chunk.ensures.value
          (λ rest. not_here name (unwrap_or chunk []) found c.find_in.ensures none rest) l.invariant.says;
      unchanged = unchanged_then l.invariant.unchanged c.in_ok-chunk.ensures.unchanged;
      kept = kept_then l.invariant.kept c.in_ok-chunk.ensures.kept;
      none_failed = none_then l.invariant.none_failed (c.in_ok-chunk.ensures.failure.none (λ other. absurd (cc)));
    }
