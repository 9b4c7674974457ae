use Rattle.std.proofs.Common.{◌≡◌, ◌∷◌, ℕ, List, [], Option, Some, None, unwrap_or, sym, ap, ◌∙◌}
use Rattle.std.specs.Option.{option_map}
use Rattle.sector_disk.proofs.MadeCalls.{none_then}
use Rattle.meta_store.specs.Changes.{changed}
use Rattle.meta_draft.specs.Drafted.{drafted}
use Rattle.dir_reads.specs.Directories.{serves}
use Rattle.dir_reads.proofs.StoreSteps.{unchanged_then, kept_then, held_still, nothing_held}
use Rattle.dir_reads.proofs.FirstChunks.{none_begun, none_on, first_found}
use Rattle.dir_reads.proofs.directory.Directory.find.Goals as goal

pub returns-in-Some-clause-value : goal.returns-in-Some-clause-value
returns-in-Some-clause-value g c =
    let change = c.args.draft.now.change in
    let l = c.loop-place in
    first_found (serves c.args.wanted c.args.name.now) (drafted change (g.S.MetaRead.store c.args.store.now)).content (drafted change (g.S.MetaRead.store l.store)).content
    c.args.self.now.opened.numbers.items c.in_ok-chunk.chunk (record { place = l.place; chunk = c.in-Some.chunk })
    (ap (option_map (changed change)) l.invariant.unchanged.content) c.in_ok-chunk.ensures.value c.in-Some.ensures.some l.invariant.none

pub loop-place-preserved : goal.loop-place-preserved
loop-place-preserved g c =
    let change = c.args.draft.now.change in
    let l = c.loop-place in
    let here = (drafted change (g.S.MetaRead.store l.store)).content in
    let next = (drafted change (g.S.MetaRead.store c.chunk.new.store)).content in
    record {
      held = held_still here next c.chunk.new.window.number c.chunk.new.window.bytes (ap (option_map (changed change)) c.in_ok-chunk.ensures.unchanged.content) c.in_ok-chunk.ensures.held;
      none = none_on (serves c.args.wanted c.args.name.now) (drafted change (g.S.MetaRead.store c.args.store.now)).content
          here c.args.self.now.opened.numbers.items l.place c.in_ok-chunk.chunk
          (ap (option_map (changed change)) l.invariant.unchanged.content) c.in_ok-chunk.ensures.value (rw c.in_default.is at c.serving.ensures.none) l.invariant.none;
      unchanged = unchanged_then l.invariant.unchanged c.in_ok-chunk.ensures.unchanged;
      kept = kept_then l.invariant.kept c.in_ok-chunk.ensures.kept;
      none_failed = none_then l.invariant.none_failed (c.in_ok-chunk.ensures.failure.none (λ other. absurd (cc)));
    }
