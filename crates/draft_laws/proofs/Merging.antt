-- One more delta of a change, where all of them fit a reading.
use Rattle.std.proofs.Common.{◌≡◌, ◌<◌, ◌≤◌, ◌⊎◌, inl, inr, ℕ, ◌+◌, ◌*◌, ◌/◌, ◌%◌, Bool, true, false, ◌||◌, List, [], ◌∷◌, length, refl, sym, ap, ◌∙◌, subst, arith}
use Rattle.std.specs.Prelude.{All}
use Rattle.std.specs.List.{Contains, AllByRecursion}
use Rattle.std.proofs.lemmas.Bool.{true≢false, or_right, both_ways}
use Rattle.std.proofs.lemmas.List.Elements.{All-weaker}
use Rattle.lufs_base.specs.Layout.{blocks_of}
use Rattle.lufs_base.specs.declared.geometry.Geometry.{Geometry}
use Rattle.lufs_base.specs.declared.delta.Delta.{Delta}
use Rattle.lufs_base.specs.declared.delta.DeltaKind.{DeltaKind}
use Rattle.volume_model.specs.Format.{Image, Blocks, block, sectors_of, is_body}
use Rattle.volume_model.specs.Crash.{image_after}
use Rattle.volume_model.specs.Log.{is_cancel}
use Rattle.volume_model.specs.Sound.{Reading, reading_of, is_claimed, IsLaid}
use Rattle.volume_laws.proofs.Members.{Contains_cases}
use Rattle.meta_store.specs.declared.change.Change.{Change}
use Rattle.meta_store.specs.Changes.{writes_of, changed}
use Rattle.meta_store.specs.Conditions.{is_given}
use Rattle.meta_store.proofs.MergedTable.{IsLoggable}
use Rattle.meta_store.specs.Merged.{replaces, replacing, stands_beside, merged}
use Rattle.meta_store.specs.Suited.{suits_block, suits}
use Rattle.meta_draft.specs.Drafted.{drafted_blocks, with_delta}
use Rattle.draft_laws.specs.Laying.{with_laid}
use Rattle.draft_laws.specs.Drafts.{IsRecorded}
use Rattle.meta_store.proofs.MergeSteps.{merged_all}
use Rattle.meta_store.proofs.MergedOrder.{merged_are_loggable}
use Rattle.meta_draft.proofs.LaidTogether.{laid_together}
use Rattle.draft_laws.proofs.OneLaid.{blocks_with, length-changed}
use Rattle.draft_laws.proofs.Given.{given_still, given_new}
use Rattle.draft_laws.proofs.Cancels.{kind_replacing, block_replacing, cancels_kept}
use Rattle.draft_laws.proofs.SuitedBeside.{suited_beside, no_cancel_there, Suitable}

-- the deltas of the change may be logged, fit the reading, and suit it but on loose blocks
pub record FitsIn (g : Geometry) (before s : Reading) (loose : ℕ → Bool) (change : Change) : Type 0 where
  pub recorded : IsRecorded g change
  pub fits : All (Suitable g s) change.deltas
  pub suited : All (λ e. loose (e.home / 4096) ≡ false → suits g s e ≡ true) change.deltas
  pub loosened : All (λ e. loose (e.home / 4096) ≡ true → suits g before e ≡ true) change.deltas
  -- no delta may lie on a loose block
  pub tight : (b : ℕ) (kind : DeltaKind) → suits_block g s kind b ≡ true → loose b ≡ false

-- what one more delta does
pub record OneMore (g : Geometry) (base : Image) (s : Reading) (loose : ℕ → Bool) (change : Change) (d : Delta) : Type 0 where
  pub next : FitsIn g (reading_of g (block base)) s loose (with_delta change d)
  pub laid : drafted_blocks (with_delta change d) base ≡ with_laid (drafted_blocks change base) d
  pub still : (b place : ℕ) → place < 4096 → is_given change.deltas b place ≡ true → is_given (merged change.deltas d) b place ≡ true
  pub new : (place : ℕ) → d.home % 4096 ≤ place → place < d.home % 4096 + d.len → place < 4096 → is_given (merged change.deltas d) (d.home / 4096) place ≡ true

-- what holds by kind and block of a delta holds of what replaces an older one
pub by_place : (P : DeltaKind → ℕ → Type 0) (d older : Delta) → replaces d older ≡ true → P d.kind (d.home / 4096) → P (replacing d older).kind ((replacing d older).home / 4096)
by_place P d older is holds =
    subst (λ (b : ℕ). P (replacing d older).kind b) (sym (block_replacing d older is)) (subst (λ (k : DeltaKind). P k (d.home / 4096)) (sym (kind_replacing d older)) holds)

abbrev pub FitsAt : Geometry → Reading → DeltaKind → ℕ → Type 0
FitsAt g s kind b = (suits_block g s kind b ≡ true) ⊎ ((is_body g b ≡ true) × (is_claimed s b ≡ false))

abbrev SuitedAt : Geometry → Reading → (ℕ → Bool) → DeltaKind → ℕ → Type 0
SuitedAt g before loose kind b = loose b ≡ true → (is_cancel kind || suits_block g before kind b) ≡ true

abbrev SuitsAt : Geometry → Reading → (ℕ → Bool) → DeltaKind → ℕ → Type 0
SuitsAt g s loose kind b = loose b ≡ false → (is_cancel kind || suits_block g s kind b) ≡ true

pub one_more : (g : Geometry) (base : Image) (s : Reading) (loose : ℕ → Bool) (change : Change) (d : Delta) → 8 * blocks_of g ≤ sectors_of base → IsLaid g s → FitsIn g (reading_of g (block base)) s loose change
    → IsLoggable g d → is_cancel d.kind ≡ false → suits_block g s d.kind (d.home / 4096) ≡ true → OneMore g base s loose change d
one_more g base s loose change d room laid fit own lays fitting =
    let before = reading_of g (block base) in
    let whole : 4096 * blocks_of g ≤ length base = omega (arith, room) in
    let size = length-changed g base change whole fit.recorded.raw in
    let beside : All (λ older. stands_beside d older ≡ true) change.deltas =
    All-weaker (Suitable g s) (λ older. stands_beside d older ≡ true) (λ older its. suited_beside g s d older laid fitting its) change.deltas fit.fits in
    let apart : All (λ e. is_cancel e.kind ≡ true → e.home / 4096 ≡ d.home / 4096 → ⊥) change.deltas =
    All-weaker (Suitable g s) (λ e. is_cancel e.kind ≡ true → e.home / 4096 ≡ d.home / 4096 → ⊥) (λ e its. no_cancel_there g s d e laid fitting its) change.deltas fit.fits in
    record {
      next = record {
        recorded = record {
          deltas = merged_are_loggable g change.deltas d fit.recorded.deltas own;
          cancels = λ b. cancels_kept change.deltas d b lays apart ∙ fit.recorded.cancels b;
          raw = fit.recorded.raw;
        };
        fits = merged_all (Suitable g s) (λ x older is its _. by_place (FitsAt g s) x older is its) change.deltas d fit.fits (inl fitting);
        suited = merged_all (λ e. loose (e.home / 4096) ≡ false → suits g s e ≡ true) (λ x older is its _. by_place (SuitsAt g s loose) x older is its) change.deltas d fit.suited
            (λ _. or_right (is_cancel d.kind) (suits_block g s d.kind (d.home / 4096)) fitting);
        loosened = merged_all (λ e. loose (e.home / 4096) ≡ true → suits g before e ≡ true) (λ x older is its _. by_place (SuitedAt g before loose) x older is its) change.deltas d fit.loosened
            (λ is_loose. absurd (both_ways (loose (d.home / 4096)) (fit.tight (d.home / 4096) d.kind fitting) is_loose));
        tight = fit.tight;
      };
      laid = ap (λ (image : Image). block image) (laid_together g change.deltas d (image_after base (writes_of change.raw)) fit.recorded.deltas own beside lays)
          ∙ blocks_with g (changed change base) d (omega (arith, whole, size)) own lays;
      still = λ b place low given. given_still g change.deltas d fit.recorded.deltas own beside b place (λ cancel same. true≢false (sym cancel ∙ lays)) low given;
      new = λ place from below low. given_new g change.deltas d fit.recorded.deltas own beside (d.home / 4096) place lays refl from below low;
    }

-- more deltas, one after the other
abbrev pub all_laid_in : List Delta → List Delta → List Delta
all_laid_in deltas [] = deltas
all_laid_in deltas (d ∷ more) = all_laid_in (merged deltas d) more

abbrev pub laid_all : Blocks → List Delta → Blocks
laid_all blocks [] = blocks
laid_all blocks (d ∷ more) = laid_all (with_laid blocks d) more

abbrev pub with_all : Change → List Delta → Change
with_all change more = record change { deltas = all_laid_in change.deltas more }

-- a delta that may come next
pub record MayLie (g : Geometry) (s : Reading) (d : Delta) : Type 0 where
  pub own : IsLoggable g d
  pub lays : is_cancel d.kind ≡ false
  pub fitting : suits_block g s d.kind (d.home / 4096) ≡ true

pub record ManyMore (g : Geometry) (base : Image) (s : Reading) (loose : ℕ → Bool) (change : Change) (more : List Delta) : Type 0 where
  pub next : FitsIn g (reading_of g (block base)) s loose (with_all change more)
  pub laid : drafted_blocks (with_all change more) base ≡ laid_all (drafted_blocks change base) more
  pub still : (b place : ℕ) → place < 4096 → is_given change.deltas b place ≡ true → is_given (all_laid_in change.deltas more) b place ≡ true
  pub new : (d : Delta) → Contains more d → (place : ℕ) → d.home % 4096 ≤ place → place < d.home % 4096 + d.len → place < 4096
      → is_given (all_laid_in change.deltas more) (d.home / 4096) place ≡ true

pub many_more : (g : Geometry) (base : Image) (s : Reading) (loose : ℕ → Bool) (change : Change) (more : List Delta) → 8 * blocks_of g ≤ sectors_of base → IsLaid g s → FitsIn g (reading_of g (block base)) s loose change
    → AllByRecursion (MayLie g s) more → ManyMore g base s loose change more
many_more g base s loose change [] room laid fit all = record {
  next = fit;
  laid = refl;
  still = λ b place low given. given;
  new = λ d here. absurd (omega (arith, here.1));
}
many_more g base s loose change (d ∷ more) room laid fit all =
    let first = one_more g base s loose change d room laid fit all.0.own all.0.lays all.0.fitting in
    let rest = many_more g base s loose (with_delta change d) more room laid first.next all.1 in
    record {
      next = rest.next;
      laid = rest.laid ∙ ap (λ (x : Blocks). laid_all x more) first.laid;
      still = λ b place low given. rest.still b place low (first.still b place low given);
      new = λ e here place from below low. elim (Contains_cases d more e here) [
        | inl same ↦
            let given = first.new place (subst (λ (x : Delta). x.home % 4096 ≤ place) (sym same) from) (subst (λ (x : Delta). place < x.home % 4096 + x.len) (sym same) below) low in
            rest.still (e.home / 4096) place low (subst (λ (x : Delta). is_given (merged change.deltas d) (x.home / 4096) place ≡ true) same given)
        | inr behind ↦ rest.new e behind place from below low
      ];
    }
