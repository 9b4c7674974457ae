use Rattle.std.proofs.Common.{◌≡◌, ◌+◌, ◌-◌, ◌≤◌, ℕ, List, Option, ap, arith}
use Rattle.std.specs.Option.{option_map}
use Rattle.sector_disk.proofs.MadeCalls.{none_then}
use Rattle.meta_store.specs.Changes.{changed}
use Rattle.meta_draft.specs.Drafted.{drafted}
use Rattle.dir_reads.proofs.StoreSteps.{unchanged_then, kept_then, held_still}
use Rattle.dir_reads.proofs.NamesInOrder.{first_more}
use Rattle.dir_reads.proofs.listing.first_among.Goals as goal

pub loop-k-preserved : goal.loop-k-preserved
loop-k-preserved g c =
    let change = c.args.draft.now.change in
    let l = c.loop-k in
    let here = (drafted change (g.S.MetaRead.store l.store)).content in
    let next = (drafted change (g.S.MetaRead.store c.chunk.new.store)).content in
    let after : Option (List ℕ) = option_map (λ n. n.now) c.args.after in
    let one_more : l.k - 1 + 1 ≡ l.k = omega arith in
    let below : l.k ≤ c.args.directory.now.count = l.invariant.within in
    record {
      within = omega arith;
      held = held_still here next c.chunk.new.window.number c.chunk.new.window.bytes (ap (option_map (changed change)) c.in_ok-chunk.ensures.unchanged.content) c.in_ok-chunk.ensures.held;
      names = first_more (drafted change (g.S.MetaRead.store c.args.store.now)).content here c.args.directory.now.numbers.items c.args.directory.now.count (l.k - 1) l.k after c.args.most
          c.in_ok-chunk.chunk l.names.items c.put_chunk.new.names.items (ap (option_map (changed change)) l.invariant.unchanged.content) one_more below c.in_ok-chunk.ensures.value
          c.in_ok-put_chunk.ensures l.invariant.names;
      unchanged = unchanged_then l.invariant.unchanged c.in_ok-chunk.ensures.unchanged;
      kept = kept_then l.invariant.kept c.in_ok-chunk.ensures.kept;
      none_failed = none_then l.invariant.none_failed (c.in_ok-chunk.ensures.failure.none (λ other. absurd (cc)));
    }
