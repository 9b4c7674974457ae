-- What deltas lay over blocks, one after the other.
use Rattle.std.proofs.Common.{◌≡◌, ◌≤◌, inl, inr, ℕ, ◌*◌, ◌/◌, ◌%◌, eqb, true, false, not, cond, List, [], ◌∷◌, length, sym, ap, ◌∙◌, arith}
use Rattle.std.specs.Prelude.{All}
use Rattle.std.specs.List.{filter}
use Rattle.std.proofs.lemmas.Bool.{cases_Bool, cond-true, cond-false, and_right}
use Rattle.std.proofs.lemmas.List.Elements.{All-head, All-tail}
use Rattle.lufs_base.specs.Fields.{put_at}
use Rattle.lufs_base.specs.Layout.{blocks_of}
use Rattle.lufs_base.specs.declared.geometry.Geometry.{Geometry}
use Rattle.lufs_base.specs.declared.delta.Delta.{Delta}
use Rattle.volume_model.specs.Format.{Image, Blocks, block}
use Rattle.volume_model.specs.Log.{is_cancel, lays_on}
use Rattle.meta_store.specs.LaidSize.{length-laid_over}
use Rattle.meta_store.specs.Laid.{laid_over}
use Rattle.meta_store.specs.Changes.{deltas_on}
use Rattle.meta_store.proofs.ImageLaid.{nothing_over, laid_over_append}
use Rattle.meta_store.proofs.MergedTable.{IsLoggable}
use Rattle.draft_laws.specs.Laying.{bytes_laid, with_laid}
use Rattle.draft_laws.proofs.OneLaid.{blocks_with}

abbrev pub one_laid : Blocks → Delta → Blocks
one_laid blocks d = cond (is_cancel d.kind) blocks (with_laid blocks d)

abbrev pub laid_each : Blocks → List Delta → Blocks
laid_each blocks [] = blocks
laid_each blocks (d ∷ more) = laid_each (one_laid blocks d) more

no_deltas : (d : Delta) → is_cancel d.kind ≡ true → deltas_on (d ∷ []) ≡ deltas_on []
no_deltas d cancel = λ t b. on_block b t
  where
    on_block : (b : ℕ) → filter (lays_on b) (d ∷ []) ≡ []
    on_block b = cond-false (lays_on b d) (d ∷ []) [] (and_right (eqb (d.home / 4096) b) (not (is_cancel d.kind)) (ap not cancel))

one_over : (g : Geometry) (d : Delta) (image : Image) → 4096 * blocks_of g ≤ length image → IsLoggable g d → block (laid_over (deltas_on (d ∷ [])) image) ≡ one_laid (block image) d
one_over g d image room own = elim (cases_Bool (is_cancel d.kind)) [
  | inl cancel ↦ ap (λ (f : ℕ → List Delta). block (laid_over f image)) (no_deltas d cancel) ∙ ap (λ (i : Image). block i) (nothing_over image) ∙ sym (cond-true (is_cancel d.kind) (block image) (with_laid (block image) d) cancel)
  | inr lays ↦ blocks_with g image d room own lays ∙ sym (cond-false (is_cancel d.kind) (block image) (with_laid (block image) d) lays)
]

pub each_laid : (g : Geometry) (ds : List Delta) (image : Image) → 4096 * blocks_of g ≤ length image → All (IsLoggable g) ds → block (laid_over (deltas_on ds) image) ≡ laid_each (block image) ds
each_laid g [] image room own = ap (λ (i : Image). block i) (nothing_over image)
each_laid g (d ∷ ds) image room own =
    let first = laid_over (deltas_on (d ∷ [])) image in
    ap (λ (i : Image). block i) (sym (laid_over_append (d ∷ []) ds image))
    ∙ each_laid g ds first (omega (arith, room, length-laid_over (deltas_on (d ∷ [])) image)) (All-tail (IsLoggable g) d ds own)
    ∙ ap (λ (x : Blocks). laid_each x ds) (one_over g d image room (All-head (IsLoggable g) d ds own))

one_same : (x y : Blocks) (d : Delta) (b : ℕ) → x b ≡ y b → one_laid x d b ≡ one_laid y d b
one_same x y d b same = elim (is_cancel d.kind) as (λ c. (cond c x (with_laid x d)) b ≡ (cond c y (with_laid y d)) b) [
  | true ↦ same
  | false ↦ ap (λ (bytes : List ℕ). elim (eqb b (d.home / 4096)) [ true ↦ put_at bytes (d.home % 4096) (bytes_laid d) | false ↦ bytes ]) same
]

-- each block by itself
pub same_laid : (x y : Blocks) (ds : List Delta) (b : ℕ) → x b ≡ y b → laid_each x ds b ≡ laid_each y ds b
same_laid x y [] b same = same
same_laid x y (d ∷ ds) b same = same_laid (one_laid x d) (one_laid y d) ds b (one_same x y d b same)
