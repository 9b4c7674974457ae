-- Blocks are freed, one after the other: what stays of the deltas, and that the change is recorded.
use Rattle.std.proofs.Common.{◌≡◌, ◌≢◌, ◌<◌, ◌⊎◌, inl, inr, ℕ, ◌*◌, ◌/◌, eqb, Bool, true, false, ◌&&◌, ◌||◌, cond, List, [], ◌∷◌, ◌++◌, map, refl, sym, ap, ◌∙◌, subst, arith}
use Rattle.std.specs.Prelude.{All, nat_lt}
use Rattle.std.specs.List.{list_any}
use Rattle.std.proofs.lemmas.Bool.{cases_Bool, cases_eq, both_ways, or_left, or_right, and_left, and_right, and_from, eq-eqb, ne_eqb, lt-ltb}
use Rattle.std.proofs.lemmas.List.{append_assoc, append-nil}
use Rattle.std.proofs.lemmas.List.Folds.{list_any-append}
use Rattle.std.proofs.lemmas.List.Elements.{All-nil, All-cons, All-head, All-tail, All-weaker}
use Rattle.lufs_base.specs.declared.geometry.Geometry.{Geometry}
use Rattle.lufs_base.specs.declared.delta.Delta.{Delta}
use Rattle.lufs_base.specs.declared.delta.DeltaKind.{DeltaKind}
use Rattle.lufs_base.specs.declared.delta.DeltaKind.TheVariants.{Cancel}
use Rattle.volume_model.specs.Format.{Image, block, is_body}
use Rattle.volume_model.specs.Crash.{image_after}
use Rattle.volume_model.specs.Log.{is_cancel}
use Rattle.volume_model.specs.Sound.{Reading, is_claimed, is_among, metadata_length}
use Rattle.meta_store.specs.declared.change.Change.{Change}
use Rattle.meta_store.specs.declared.change.Freed.{Freed}
use Rattle.meta_store.specs.Laid.{laid_block}
use Rattle.meta_store.specs.Changes.{writes_of, deltas_on, frees_metadata}
use Rattle.meta_store.specs.Conditions.{is_given}
use Rattle.meta_store.specs.Merged.{merged}
use Rattle.meta_store.specs.Suited.{suits_block, suits}
use Rattle.meta_store.proofs.LaidBlocks.{block_laid_over}
use Rattle.meta_store.proofs.MergedTable.{IsLoggable}
use Rattle.meta_store.proofs.MergedOrder.{merged_are_loggable}
use Rattle.meta_store.proofs.MergeSteps.{merged_all}
use Rattle.meta_store.specs.Deltas.{cancel_delta}
use Rattle.meta_draft.specs.Drafted.{drafted_blocks, with_freed}
use Rattle.draft_laws.specs.Freeing.{with_all_freed}
use Rattle.draft_laws.specs.Drafts.{IsRecorded}
use Rattle.draft_laws.proofs.Cancels.{cancels_at, cancels_beside, cancels_there}
use Rattle.draft_laws.proofs.Given.{given_still}
use Rattle.draft_laws.proofs.MergedElsewhere.{merged_elsewhere, merged_whole, each_beside}
use Rattle.draft_laws.proofs.RecordDeltas.{body_table}
use Rattle.draft_laws.proofs.Merging.{by_place, FitsAt}
use Rattle.draft_laws.proofs.SuitedBeside.{Suitable}

cancel_own : (g : Geometry) (b : ℕ) → is_body g b ≡ true → IsLoggable g (cancel_delta b)
cancel_own g b body = record { table = body_table g Cancel (4096 * b) b 0 4096 refl body (omega arith) (omega arith) refl; bytes = refl }

cancel_at : (b : ℕ) → (cancel_delta b).home / 4096 ≡ b
cancel_at b = omega arith

-- of the blocks that are still to be freed deltas suit what these were
abbrev pub IsWell : Geometry → (before s : Reading) → (loose : ℕ → Bool) → List ℕ → Delta → Type 0
IsWell g before s loose rest e =
    (suits g s e ≡ true) ⊎ (((is_among (e.home / 4096) rest || loose (e.home / 4096)) ≡ true) × (suits g before e ≡ true))

-- a block that may be freed now
pub record MayFree (g : Geometry) (before s : Reading) (f : Freed) : Type 0 where
  pub body : is_body g f.block.0 ≡ true
  pub free : is_claimed s f.block.0 ≡ false
  pub metadata : f.meta ≡ nat_lt 0 (metadata_length g before f.block.0)

pub record WellSoFar (g : Geometry) (before s : Reading) (loose : ℕ → Bool) (rest : List ℕ) (change : Change) : Type 0 where
  pub recorded : IsRecorded g change
  pub fits : All (Suitable g s) change.deltas
  pub well : All (IsWell g before s loose rest) change.deltas

-- what freeing leaves
pub record LeavesOthers (base : Image) (old new : Change) (more : List Freed) : Type 0 where
  pub content : (b : ℕ) → All (λ f. b ≢ f.block.0) more → drafted_blocks new base b ≡ drafted_blocks old base b
  pub given : (b place : ℕ) → All (λ f. b ≢ f.block.0) more → place < 4096 → is_given old.deltas b place ≡ true → is_given new.deltas b place ≡ true
  pub raw : new.raw ≡ old.raw
  pub taken : new.taken ≡ old.taken
  pub freed : new.freed ≡ old.freed ++ more

or_none : (x y : Bool) → y ≡ false → (x || (y || false)) ≡ x
or_none true y none = refl
or_none false y none = ap (λ (t : Bool). t || false) none

-- with other deltas that lay the same on a block
same_block : (base : Image) (change : Change) (deltas : List Delta) (b : ℕ) → deltas_on deltas b ≡ deltas_on change.deltas b
    → drafted_blocks (record change { deltas = deltas }) base b ≡ drafted_blocks change base b
same_block base change deltas b same =
    let image = image_after base (writes_of change.raw) in
    sym (block_laid_over (deltas_on deltas) image b) ∙ ap (λ (l : List Delta). laid_block l (block image b)) same ∙ block_laid_over (deltas_on change.deltas) image b

tail_well : (g : Geometry) (before s : Reading) (loose : ℕ → Bool) (b : ℕ) (rest : List ℕ) (e : Delta) → (e.home / 4096 ≡ b → ⊥) → IsWell g before s loose (b ∷ rest) e → IsWell g before s loose rest e
tail_well g before s loose b rest e away (inl fitting) = inl fitting
tail_well g before s loose b rest e away (inr old) =
    let c = e.home / 4096 in
    let other : eqb b c ≡ false = ne_eqb b c (λ same. away (sym same)) in
    inr (sym (ap (λ (t : Bool). (t || is_among c rest) || loose c) other) ∙ old.0, old.1)

module _ (g : Geometry) (base : Image) (before s : Reading) (loose : ℕ → Bool) (some : (b : ℕ) (kind : DeltaKind) → suits_block g before kind b ≡ true → 0 < metadata_length g before b) where
  -- in a block that held no metadata only cancels lie
  none_there : (rest : List ℕ) (f : Freed) (e : Delta) → MayFree g before s f → f.meta ≡ false → IsWell g before s loose (f.block.0 ∷ rest) e → IsWell g before s loose rest e
  none_there rest f e may plain well = elim (cases_eq (e.home / 4096) f.block.0) [
    | inr away ↦ tail_well g before s loose f.block.0 rest e away well
    | inl same ↦ elim well [
      | inl fitting ↦ inl fitting
      | inr old ↦ elim (cases_Bool (is_cancel e.kind)) [
        | inl cancel ↦ inl (or_left (is_cancel e.kind) (suits_block g s e.kind (e.home / 4096)) cancel)
        | inr lays ↦
            let fitting : suits_block g before e.kind (e.home / 4096) ≡ true = ap (λ (t : Bool). t || suits_block g before e.kind (e.home / 4096)) (sym lays) ∙ old.1 in
            let enough = some (e.home / 4096) e.kind fitting in
            let none : nat_lt 0 (metadata_length g before (e.home / 4096)) ≡ false = ap (λ (b : ℕ). nat_lt 0 (metadata_length g before b)) same ∙ sym may.metadata ∙ plain in
            absurd (both_ways (nat_lt 0 (metadata_length g before (e.home / 4096))) none (lt-ltb 0 (metadata_length g before (e.home / 4096)) enough))
      ]
    ]
  ]

  module _ (rest : List ℕ) (change : Change) (f : Freed) (so : WellSoFar g before s loose (f.block.0 ∷ rest) change) (may : MayFree g before s f) where
    abbrev b : ℕ
    b = f.block.0

    abbrev d : Delta
    d = cancel_delta b

    abbrev HoldsAfter : Change → Type 0
    HoldsAfter next = WellSoFar g before s loose rest next × LeavesOthers base change next (f ∷ [])

    own : IsLoggable g d
    own = cancel_own g b may.body

    counted : (c : ℕ) → list_any (λ h. eqb h.block.0 c && h.meta) (change.freed ++ f ∷ []) ≡ (frees_metadata change c || ((eqb b c && f.meta) || false))
    counted c = list_any-append (λ (h : Freed). eqb h.block.0 c && h.meta) change.freed (f ∷ [])

    -- a block that held metadata is cancelled
    module _ (meta : f.meta ≡ true) where
      abbrev cancelled : Change
      cancelled = record change { deltas = merged change.deltas d; freed = change.freed ++ f ∷ [] }

      cancels_now : (c : ℕ) → list_any (cancels_at c) (merged change.deltas d) ≡ frees_metadata cancelled c
      cancels_now c = elim (cases_eq b c) [
        | inl same ↦
            let there : list_any (cancels_at c) (merged change.deltas d) ≡ true =
            subst (λ (x : ℕ). list_any (cancels_at x) (merged change.deltas d) ≡ true) (cancel_at b ∙ same) (cancels_there change.deltas d refl refl) in
            let here : (eqb b c && f.meta) ≡ true = and_from (eqb b c) f.meta (eq-eqb b c same) meta in
            there ∙ sym (counted c ∙ or_right (frees_metadata change c) ((eqb b c && f.meta) || false) (or_left (eqb b c && f.meta) false here))
        | inr away ↦
            cancels_beside change.deltas d c (λ same. away (sym (cancel_at b) ∙ same)) ∙ so.recorded.cancels c
            ∙ sym (counted c ∙ or_none (frees_metadata change c) (eqb b c && f.meta) (and_left (eqb b c) f.meta (ne_eqb b c away)))
      ]

      as_metadata : HoldsAfter cancelled
      as_metadata =
          let there : FitsAt g s Cancel ((4096 * b) / 4096) = subst (λ (c : ℕ). FitsAt g s Cancel c) (sym (cancel_at b)) (inr (may.body, may.free)) in (
            record {
              recorded = record { deltas = merged_are_loggable g change.deltas d so.recorded.deltas own; cancels = cancels_now; raw = so.recorded.raw };
              fits = merged_all (Suitable g s) (λ x older is its _. by_place (FitsAt g s) x older is its) change.deltas d so.fits there;
              well = merged_whole (IsWell g before s loose rest) d refl (inl refl) change.deltas so.recorded.deltas.order
                  (All-weaker (IsWell g before s loose (b ∷ rest)) (λ e. (e.home / 4096 ≡ d.home / 4096 → ⊥) → IsWell g before s loose rest e)
                  (λ e its away. tail_well g before s loose b rest e (λ same. away (same ∙ sym (cancel_at b))) its) change.deltas so.well);
            },
            record {
              content = λ c others. same_block base change (merged change.deltas d) c (merged_elsewhere change.deltas d c (λ same. All-head (λ (h : Freed). c ≢ h.block.0) f [] others (sym same ∙ cancel_at b)));
              given = λ c place others low given. given_still g change.deltas d so.recorded.deltas own (each_beside d change.deltas refl) c place
                  (λ cancel same. All-head (λ (h : Freed). c ≢ h.block.0) f [] others (sym same ∙ cancel_at b)) low given;
              raw = refl;
              taken = refl;
              freed = refl;
            },
          )

    -- of a block that held none nothing is to be cancelled
    module _ (plain : f.meta ≡ false) where
      abbrev kept : Change
      kept = record change { deltas = change.deltas; freed = change.freed ++ f ∷ [] }

      plainly : HoldsAfter kept
      plainly = (
        record {
          recorded = record {
            deltas = so.recorded.deltas;
            cancels = λ c. so.recorded.cancels c ∙ sym (counted c ∙ or_none (frees_metadata change c) (eqb b c && f.meta) (and_right (eqb b c) f.meta plain));
            raw = so.recorded.raw;
          };
          fits = so.fits;
          well = All-weaker (IsWell g before s loose (b ∷ rest)) (IsWell g before s loose rest) (λ e its. none_there rest f e may plain its) change.deltas so.well;
        },
        record { content = λ c others. refl; given = λ c place others low given. given; raw = refl; taken = refl; freed = refl },
      )

    pub one_freed : HoldsAfter (with_freed change f)
    one_freed = elim (cases_Bool f.meta) [
      | inl meta ↦
          let deltas : cond f.meta (merged change.deltas d) change.deltas ≡ merged change.deltas d = ap (λ (t : Bool). cond t (merged change.deltas d) change.deltas) meta in
          subst HoldsAfter (sym (λ t. record change { deltas = deltas t; freed = change.freed ++ f ∷ [] })) (as_metadata meta)
      | inr plain ↦
          let deltas : cond f.meta (merged change.deltas d) change.deltas ≡ change.deltas = ap (λ (t : Bool). cond t (merged change.deltas d) change.deltas) plain in
          subst HoldsAfter (sym (λ t. record change { deltas = deltas t; freed = change.freed ++ f ∷ [] })) (plainly plain)
    ]

  pub all_freed : (freed : List Freed) (change : Change) → WellSoFar g before s loose (map (λ f. f.block.0) freed) change → All (MayFree g before s) freed
      → WellSoFar g before s loose [] (with_all_freed change freed) × LeavesOthers base change (with_all_freed change freed) freed
  all_freed [] change so may =
      (so, record { content = λ c others. refl; given = λ c place others low given. given; raw = refl; taken = refl; freed = sym (append-nil change.freed) })
  all_freed (f ∷ freed) change so may =
      let first = one_freed (map (λ h. h.block.0) freed) change f so (All-head (MayFree g before s) f freed may) in
      let rest = all_freed freed (with_freed change f) first.0 (All-tail (MayFree g before s) f freed may) in (
        rest.0,
        record {
          content = λ c others.
              let tail = All-tail (λ (h : Freed). c ≢ h.block.0) f freed others in
              let head : All (λ h. c ≢ h.block.0) (f ∷ []) = All-cons (λ (h : Freed). c ≢ h.block.0) f [] (All-head (λ (h : Freed). c ≢ h.block.0) f freed others) (All-nil (λ (h : Freed). c ≢ h.block.0)) in
              rest.1.content c tail ∙ first.1.content c head;
          given = λ c place others low given.
              let tail = All-tail (λ (h : Freed). c ≢ h.block.0) f freed others in
              let head : All (λ h. c ≢ h.block.0) (f ∷ []) = All-cons (λ (h : Freed). c ≢ h.block.0) f [] (All-head (λ (h : Freed). c ≢ h.block.0) f freed others) (All-nil (λ (h : Freed). c ≢ h.block.0)) in
              rest.1.given c place tail low (first.1.given c place head low given);
          raw = rest.1.raw ∙ first.1.raw;
          taken = rest.1.taken ∙ first.1.taken;
          freed = rest.1.freed ∙ ap (λ (l : List Freed). l ++ freed) first.1.freed ∙ append_assoc change.freed (f ∷ []) freed;
        },
      )
