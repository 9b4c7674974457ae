use Rattle.std.proofs.Common.{◌≡◌, ℕ, ◌≤◌, ◌+◌, ◌*◌, ◌/◌, List, ◌++◌, length, map, true, ap, sym, subst, ◌∙◌, arith}
use Rattle.std.proofs.lemmas.List.Elements.{All-same, All-weaker}
use Rattle.lufs_base.specs.declared.delta.Delta.{Delta}
use Rattle.volume_model.specs.Format.{Image}
use Rattle.volume_model.specs.Log.{AreLoggable, may_be_logged}
use Rattle.volume_model.specs.Crash.{image_after}
use Rattle.meta_store.specs.declared.change.Freed.{Freed}
use Rattle.meta_store.specs.declared.change.RawWrite.{RawWrite}
use Rattle.meta_store.specs.Laid.{IsWithinBlock, laid_over}
use Rattle.meta_store.specs.LaidSize.{length-laid_over}
use Rattle.meta_store.specs.Merged.{all_merged}
use Rattle.meta_store.specs.Changes.{writes_of, deltas_on}
use Rattle.meta_store.proofs.MergedTable.{each_loggable, all_within}
use Rattle.meta_store.proofs.MergedOrder.{all_merged_are_loggable}
use Rattle.meta_store.specs.Conditions.{IsInBlock}
use Rattle.lufs_base.specs.Layout.{blocks_of}
use Rattle.meta_store.proofs.PlainSteps.{applied, logged_inside, raw_fits, raw_size}
use Rattle.meta_store.proofs.plain.PlainStoreMetaStore.apply.Goals as goal

pub all_merged-requires-clause-deltas : goal.all_merged-requires-clause-deltas
all_merged-requires-clause-deltas c =
    let s = c.args.self.now in All-same IsWithinBlock _ s.held.items c.as_slice.ensures.value (all_within s.geometry s.held.items s.loggable)

pub all_merged-requires-clause-more : goal.all_merged-requires-clause-more
all_merged-requires-clause-more c =
    let g = c.args.self.now.geometry in
    let deltas : List Delta = c.args.change.now.deltas in
    All-same IsWithinBlock _ deltas c.as_slice-2.ensures (all_within g deltas c.requires.may.deltas)

pub lay_all-requires : goal.lay_all-requires
lay_all-requires c =
    let s = c.args.self.now in
    let g = s.geometry in
    let old : Image = s.image.items in
    let deltas : List Delta = c.args.change.now.deltas in
    let raw : List RawWrite = c.args.change.now.raw in
    let whole : 4096 * blocks_of g ≤ length old = omega (arith, s.whole) in
    let size : length c.write_raw.new.image.items ≡ length old =
    ap length (c.write_raw.ensures ∙ ap (λ (ws : List RawWrite). image_after old (writes_of ws)) c.as_slice-7.ensures)
    ∙ raw_size old raw (All-weaker (IsInBlock g) (λ w. 512 * w.first + length w.bytes ≤ length old) (λ w in_block. raw_fits g old w whole in_block) raw c.requires.may.raw) in
    All-same (λ d. 4096 * (d.home / 4096) + 4096 ≤ length c.write_raw.new.image.items) _ deltas c.as_slice-8.ensures
    (All-weaker (λ d. may_be_logged g d.kind d.home d.len ≡ true) (λ d. 4096 * (d.home / 4096) + 4096 ≤ length c.write_raw.new.image.items)
    (λ d is. omega (arith, logged_inside g d.kind d.home d.len is, size, whole)) deltas c.requires.may.deltas.table)

pub invariant_of-self : goal.invariant_of-self
invariant_of-self c =
    let s = c.args.self.now in
    let g = s.geometry in
    let old : Image = s.image.items in
    let deltas : List Delta = c.args.change.now.deltas in
    let raw : List RawWrite = c.args.change.now.raw in
    let room : 4096 * blocks_of g ≤ length old = omega (arith, s.whole) in
    let size : length c.lay_all.new.image.items ≡ length old =
    ap length c.lay_all.ensures
    ∙ length-laid_over (deltas_on c.as_slice-8.result.now) c.write_raw.new.image.items
    ∙ ap length (c.write_raw.ensures ∙ ap (λ (ws : List RawWrite). image_after old (writes_of ws)) c.as_slice-7.ensures)
    ∙ raw_size old raw (All-weaker (IsInBlock g) (λ w. 512 * w.first + length w.bytes ≤ length old) (λ w in_block. raw_fits g old w room in_block) raw c.requires.may.raw) in
    let merged_is : c.in_ok-held.held.items ≡ all_merged s.held.items deltas = c.in_ok-held.ensures ∙ ap (λ (l : List Delta). all_merged l c.as_slice-2.result.now) c.as_slice.ensures.value ∙ ap (all_merged s.held.items) c.as_slice-2.ensures in
    record {
      in_range = s.in_range;
      whole = omega (arith, s.whole, size);
      loggable = subst (λ (l : List Delta). AreLoggable g l) (sym merged_is) (all_merged_are_loggable g s.held.items deltas s.loggable (each_loggable g deltas c.requires.may.deltas));
    }

pub returns-clause-ok : goal.returns-clause-ok
returns-clause-ok c =
    let s = c.args.self.now in
    let old : Image = s.image.items in
    let change = c.args.change.now in
    applied s.geometry old c.lay_all.new.image.items s.held.items c.in_ok-held.held.items s.taken.items c.in_ok-taken.taken.items s.freed.items c.in_ok-freed.freed.items change s.in_range c.requires.may
    (c.lay_all.ensures
    ∙ ap (λ (ds : List Delta). laid_over (deltas_on ds) c.write_raw.new.image.items) c.as_slice-8.ensures
    ∙ ap (λ (image : Image). laid_over (deltas_on change.deltas) image) (c.write_raw.ensures ∙ ap (λ (ws : List RawWrite). image_after old (writes_of ws)) c.as_slice-7.ensures))
    (c.in_ok-held.ensures ∙ ap (λ (l : List Delta). all_merged l c.as_slice-2.result.now) c.as_slice.ensures.value ∙ ap (all_merged s.held.items) c.as_slice-2.ensures)
    (c.in_ok-taken.ensures ∙ ap (λ (l : List ℕ). l ++ c.as_slice-4.result.now) c.as_slice-3.ensures.value ∙ ap (λ (l : List ℕ). s.taken.items ++ l) c.as_slice-4.ensures)
    (c.in_ok-freed.ensures ∙ ap (λ (l : List ℕ). l ++ map (λ f. f.block.0) c.as_slice-6.result.now) c.as_slice-5.ensures.value ∙ ap (λ (l : List Freed). s.freed.items ++ map (λ f. f.block.0) l) c.as_slice-6.ensures)
