-- The content that a store has after a change without raw writes is what the deltas make of the one before.
use Rattle.std.proofs.Common.{◌≡◌, ◌<◌, ◌≤◌, inl, inr, ℕ, ◌+◌, ◌*◌, ◌/◌, ◌%◌, eqb, true, not, List, length, slice_index, Option, None, sym, ap, ◌∙◌, arith}
use Rattle.std.specs.Prelude.{nat_lt, unwrap_or}
use Rattle.std.specs.List.{last_or}
use Rattle.std.proofs.lemmas.Bool.{cases_lt, eqb-true, ltb-true, and_parts}
use Rattle.std.proofs.lemmas.List.{get_or_past}
use Rattle.std.proofs.lemmas.List.Elements.{All-contains, recursion_from_All}
use Rattle.lufs_base.specs.Layout.{blocks_of, region_of}
use Rattle.lufs_base.specs.declared.geometry.Geometry.{Geometry}
use Rattle.lufs_base.specs.declared.delta.Delta.{Delta}
use Rattle.volume_model.specs.Format.{Image}
use Rattle.volume_model.specs.Log.{AreLoggable, may_be_logged, is_cancel, is_home_of, lays_on}
use Rattle.meta_store.specs.LaidSize.{length-laid_over}
use Rattle.meta_store.specs.Laid.{IsWithinBlock, laid_over}
use Rattle.meta_store.specs.Changes.{deltas_on}
use Rattle.meta_store.proofs.LaidBlocks.{laid_over_at}
use Rattle.meta_store.proofs.LogLaid.{given_by_block}
use Rattle.meta_store.proofs.MergedTable.{table_parts, all_within}
use Rattle.draft_laws.proofs.ClaimUses.{some_passes}
use Rattle.journal_model.specs.LaidBlocks.{given_by}
use Rattle.journal_laws.proofs.MergedDeltas.{table_lies, given_is_laid}
use Rattle.history_laws.specs.Applied.{IsMadeBy}
use Rattle.store_laws.proofs.MergedAll.{no_value}

-- deltas give no byte past the volume
none_past : (g : Geometry) (deltas : List Delta) (a : ℕ) → AreLoggable g deltas → 4096 * blocks_of g ≤ a → given_by deltas a ≡ None
none_past g deltas a are past =
    no_value (given_by deltas a) (λ some.
    let found = some_passes (lays_on (a / 4096)) deltas (given_is_laid deltas a (table_lies g deltas are.table) some) in
    let d = found.0 in
    let at = eqb-true (d.home / 4096) (a / 4096) (and_parts (eqb (d.home / 4096) (a / 4096)) (not (is_cancel d.kind)) found.2).0 in
    let may = All-contains (λ d. may_be_logged g d.kind d.home d.len ≡ true) deltas d are.table found.1 in
    let low = ltb-true (d.home / 4096) (blocks_of g) (and_parts (nat_lt (d.home / 4096) (blocks_of g)) (is_home_of d.kind (region_of g (d.home / 4096))) (table_parts g d.kind d.home d.len may).0).0 in
    omega (arith, at, low, past))

pub laid_is_made : (g : Geometry) (deltas : List Delta) (image : Image) → AreLoggable g deltas → 4096 * blocks_of g ≤ length image → IsMadeBy deltas image (laid_over (deltas_on deltas) image)
laid_is_made g deltas image are size = record {
  size = length-laid_over (deltas_on deltas) image;
  bytes = λ a kept. elim (cases_lt a (length image)) [
    | inl inside ↦
        let low : a % 4096 < 4096 = omega arith in
        let is : a ≡ 4096 * (a / 4096) + a % 4096 = omega arith in
        laid_over_at (deltas_on deltas) image a inside
        ∙ ap (λ (l : List ℕ). unwrap_or (last_or None l) (slice_index image a)) (given_by_block (a / 4096) (a % 4096) a deltas low is (recursion_from_All IsWithinBlock deltas (all_within g deltas are)))
    | inr past ↦
        let after : slice_index (laid_over (deltas_on deltas) image) a ≡ 0 = get_or_past (laid_over (deltas_on deltas) image) a 0 (omega (arith, past, length-laid_over (deltas_on deltas) image)) in
        let before : slice_index image a ≡ 0 = get_or_past image a 0 past in
        after ∙ sym (ap (λ (o : Option ℕ). unwrap_or o (slice_index image a)) (none_past g deltas a are (omega (arith, past, size))) ∙ before)
  ];
}
