-- An image with merged deltas laid over it.
use Rattle.std.proofs.Common.{◌≡◌, ◌<◌, ℕ, ◌+◌, ◌*◌, ◌/◌, ◌%◌, true, false, List, [], ◌∷◌, length, slice_index, Option, Some, None, refl, sym, ap, ◌∙◌, arith}
use Rattle.std.specs.Prelude.{All}
use Rattle.std.specs.Option.{unwrap_or}
use Rattle.std.specs.List.{last_or}
use Rattle.std.proofs.lemmas.Bool.{true≢false}
use Rattle.std.proofs.lemmas.List.{ext_get_or}
use Rattle.std.proofs.lemmas.List.Elements.{recursion_from_All, All-cons, All-nil}
use Rattle.lufs_base.specs.declared.geometry.Geometry.{Geometry}
use Rattle.lufs_base.specs.declared.delta.Delta.{Delta}
use Rattle.volume_model.specs.Format.{Image}
use Rattle.volume_model.specs.Log.{AreLoggable, is_cancel, given_at}
use Rattle.meta_store.specs.Laid.{IsWithinBlock, laid_over}
use Rattle.meta_store.specs.LaidSize.{length-laid_over}
use Rattle.meta_store.specs.Changes.{deltas_on}
use Rattle.meta_store.specs.Merged.{stands_beside, merged}
use Rattle.meta_store.proofs.LaidBlocks.{laid_over_at}
use Rattle.meta_store.proofs.LogLaid.{given_by_block, logged_within}
use Rattle.meta_store.proofs.MergedTable.{IsLoggable, each_loggable, all_within}
use Rattle.meta_store.proofs.MergedOrder.{merged_are_loggable}
use Rattle.meta_draft.proofs.Later.{later, given_first}
use Rattle.meta_draft.proofs.MergedLays.{last_at, merged_gives}

-- a byte of an image with deltas laid over it
byte_laid : (deltas : List Delta) (image : Image) (i : ℕ) → All IsWithinBlock deltas → i < length image → slice_index (laid_over (deltas_on deltas) image) i ≡ unwrap_or (last_at i deltas) (slice_index image i)
byte_laid deltas image i within inside =
    laid_over_at (deltas_on deltas) image i inside
    ∙ ap (λ (l : List ℕ). unwrap_or (last_or None l) (slice_index image i))
    (given_by_block (i / 4096) (i % 4096) i deltas (omega arith) (let parts : i ≡ 4096 * (i / 4096) + i % 4096 = omega arith in parts) (recursion_from_All IsWithinBlock deltas within))

unwrap_later : (o p : Option ℕ) (x : ℕ) → unwrap_or (later o p) x ≡ unwrap_or o (unwrap_or p x)
unwrap_later (Some y) p x = refl
unwrap_later None p x = refl

byte_of_merged : (g : Geometry) (deltas : List Delta) (d : Delta) (image : Image) (i : ℕ) → AreLoggable g deltas → AreLoggable g (merged deltas d) → IsLoggable g d → All (λ older. stands_beside d older ≡ true) deltas
    → (is_cancel d.kind ≡ true → d.home / 4096 ≡ i / 4096 → ⊥) → i < length image
    → slice_index (laid_over (deltas_on (merged deltas d)) image) i ≡ slice_index (laid_over (deltas_on (d ∷ [])) (laid_over (deltas_on deltas) image)) i
byte_of_merged g deltas d image i are merged_are own beside away inside =
    let under = laid_over (deltas_on deltas) image in
    let size = length-laid_over (deltas_on deltas) image in
    let x = slice_index image i in
    let one_within : All IsWithinBlock (d ∷ []) = All-cons IsWithinBlock d [] (logged_within g d.kind d.home d.len own.table) (All-nil IsWithinBlock) in
    byte_laid (merged deltas d) image i (all_within g (merged deltas d) merged_are) inside
    ∙ ap (λ (o : Option ℕ). unwrap_or o x) (merged_gives g i deltas d (each_loggable g deltas are) own are.order merged_are.order beside away)
    ∙ unwrap_later (given_at i d) (last_at i deltas) x
    ∙ sym (byte_laid (d ∷ []) under i one_within (omega (arith, size, inside))
    ∙ ap (λ (o : Option ℕ). unwrap_or o (slice_index under i)) (given_first (λ e. given_at i e) d [])
    ∙ ap (λ (y : ℕ). unwrap_or (given_at i d) y) (byte_laid deltas image i (all_within g deltas are) inside))

pub laid_together : (g : Geometry) (deltas : List Delta) (d : Delta) (image : Image) → AreLoggable g deltas → IsLoggable g d → All (λ older. stands_beside d older ≡ true) deltas → is_cancel d.kind ≡ false
    → laid_over (deltas_on (merged deltas d)) image ≡ laid_over (deltas_on (d ∷ [])) (laid_over (deltas_on deltas) image)
laid_together g deltas d image are own beside lays =
    let merged_are = merged_are_loggable g deltas d are own in
    let under = laid_over (deltas_on deltas) image in
    let all = length-laid_over (deltas_on (merged deltas d)) image in
    let size = length-laid_over (deltas_on deltas) image in
    let over = length-laid_over (deltas_on (d ∷ [])) under in
    ext_get_or 0 (laid_over (deltas_on (merged deltas d)) image) (laid_over (deltas_on (d ∷ [])) under) (all ∙ sym (over ∙ size)) (λ i below.
    byte_of_merged g deltas d image i are merged_are own beside (λ cancel same. true≢false (sym cancel ∙ lays)) (omega (arith, below, all)))
