-- Which blocks deltas cancel, with one more merged into them.
use Rattle.std.proofs.Common.{◌≡◌, inl, inr, ℕ, ◌/◌, eqb, ltb, Bool, true, false, not, ◌&&◌, ◌||◌, cond, List, [], ◌∷◌, refl, sym, ap, ◌∙◌, arith}
use Rattle.std.specs.Prelude.{All, slice_index_or}
use Rattle.std.specs.List.{filter, list_any}
use Rattle.std.proofs.lemmas.Bool.{cases_Bool, true≢false, and_from, and_left, and_right, or_right, ne_eqb, eq-eqb, eqb-true, cond-true, cond-false}
use Rattle.std.proofs.lemmas.List.Elements.{All-head, All-tail, All-weaker, All-filter}
use Rattle.lufs_base.specs.declared.delta.Delta.{Delta}
use Rattle.volume_model.specs.Log.{is_cancel, is_zero_block}
use Rattle.meta_store.specs.Merged.{is_whole_block, is_same_kind, replaces, replacing, joined, stands_beside, placed, merged}
use Rattle.meta_store.proofs.MergeSteps.{placed_last, placed_replaced, placed_before, placed_after, merged_is, replaced_in_block}

-- the delta cancels block b
abbrev pub cancels_at : (b : ℕ) → Delta → Bool
cancels_at b d = is_cancel d.kind && eqb (d.home / 4096) b

-- what stands in the place of an older delta has the kind and the block of the new one
pub kind_replacing : (d older : Delta) → (replacing d older).kind ≡ d.kind
kind_replacing d older = elim (is_whole_block d.kind) as (λ whole. (cond whole d (joined d older)).kind ≡ d.kind) [ true ↦ refl | false ↦ refl ]

joined_block : (d older : Delta) → d.home / 4096 ≡ older.home / 4096 → (joined d older).home / 4096 ≡ d.home / 4096
joined_block d older same = omega (arith, same)

pub block_replacing : (d older : Delta) → replaces d older ≡ true → (replacing d older).home / 4096 ≡ d.home / 4096
block_replacing d older is =
    let same = replaced_in_block d older is in
    elim (is_whole_block d.kind) as (λ whole. (cond whole d (joined d older)).home / 4096 ≡ d.home / 4096) [ true ↦ refl | false ↦ joined_block d older same ]

-- a test that nothing in the block of the new delta passes
any_placed : (q : Delta → Bool) (deltas : List Delta) (d : Delta) → ((e : Delta) → e.kind ≡ d.kind → e.home / 4096 ≡ d.home / 4096 → q e ≡ false)
    → All (λ e. e.home / 4096 ≡ d.home / 4096 → q e ≡ false) deltas → list_any q (placed deltas d) ≡ list_any q deltas
any_placed q [] d own all = ap (list_any q) (placed_last d) ∙ ap (λ (t : Bool). t || false) (own d refl refl)
any_placed q (older ∷ deltas) d own all =
    let head = All-head (λ e. e.home / 4096 ≡ d.home / 4096 → q e ≡ false) older deltas all in
    let tail = All-tail (λ e. e.home / 4096 ≡ d.home / 4096 → q e ≡ false) older deltas all in
    elim (cases_Bool (replaces d older)) [
      | inl is ↦
          let block = block_replacing d older is in
          ap (list_any q) (placed_replaced d older deltas is)
          ∙ any_placed q deltas (replacing d older) (λ e kind same. own e (kind ∙ kind_replacing d older) (same ∙ block))
          (All-weaker (λ e. e.home / 4096 ≡ d.home / 4096 → q e ≡ false) (λ e. e.home / 4096 ≡ (replacing d older).home / 4096 → q e ≡ false) (λ e none same. none (same ∙ block)) deltas tail)
          ∙ sym (ap (λ (t : Bool). t || list_any q deltas) (head (sym (replaced_in_block d older is))))
      | inr other ↦ elim (cases_Bool (ltb d.home older.home)) [
        | inl before ↦ ap (list_any q) (placed_before d older deltas other before) ∙ ap (λ (t : Bool). t || list_any q (older ∷ deltas)) (own d refl refl)
        | inr after ↦ ap (list_any q) (placed_after d older deltas other after) ∙ ap (λ (t : Bool). q older || t) (any_placed q deltas d own tail)
      ]
    ]

pub beside_apart : (d older : Delta) → eqb (d.home / 4096) (older.home / 4096) ≡ false → stands_beside d older ≡ true
beside_apart d older apart =
    ap not (ap (λ (t : Bool). not (is_whole_block d.kind) && t && not (is_same_kind d.kind older.kind) && not (is_zero_block older.kind)) apart
    ∙ and_left (not (is_whole_block d.kind) && false && not (is_same_kind d.kind older.kind)) (not (is_zero_block older.kind))
    (and_left (not (is_whole_block d.kind) && false) (not (is_same_kind d.kind older.kind)) (and_right (not (is_whole_block d.kind)) false refl)))

-- what is left out shares the block
pub beside_away : (d older : Delta) → stands_beside d older ≡ false → older.home / 4096 ≡ d.home / 4096
beside_away d older out = elim (cases_Bool (eqb (d.home / 4096) (older.home / 4096))) [
  | inl same ↦ sym (eqb-true (d.home / 4096) (older.home / 4096) same)
  | inr apart ↦ absurd (true≢false (sym (beside_apart d older apart) ∙ out))
]

any_filtered : (q p : Delta → Bool) (deltas : List Delta) → All (λ e. p e ≡ false → q e ≡ false) deltas → list_any q (filter p deltas) ≡ list_any q deltas
any_filtered q p [] all = refl
any_filtered q p (e ∷ deltas) all =
    let head = All-head (λ e. p e ≡ false → q e ≡ false) e deltas all in
    let rest = any_filtered q p deltas (All-tail (λ e. p e ≡ false → q e ≡ false) e deltas all) in
    elim (cases_Bool (p e)) [
      | inl kept ↦ ap (list_any q) (cond-true (p e) (e ∷ filter p deltas) (filter p deltas) kept) ∙ ap (λ (t : Bool). q e || t) rest
      | inr out ↦ ap (list_any q) (cond-false (p e) (e ∷ filter p deltas) (filter p deltas) out) ∙ rest ∙ sym (ap (λ (t : Bool). t || list_any q deltas) (head out))
    ]

any_merged : (q : Delta → Bool) (deltas : List Delta) (d : Delta) → ((e : Delta) → e.kind ≡ d.kind → e.home / 4096 ≡ d.home / 4096 → q e ≡ false)
    → All (λ e. e.home / 4096 ≡ d.home / 4096 → q e ≡ false) deltas → list_any q (merged deltas d) ≡ list_any q deltas
any_merged q deltas d own all =
    ap (list_any q) (merged_is deltas d)
    ∙ any_placed q (filter (stands_beside d) deltas) d own (All-filter (stands_beside d) (λ e. e.home / 4096 ≡ d.home / 4096 → q e ≡ false) deltas all)
    ∙ any_filtered q (stands_beside d) deltas (All-weaker (λ e. e.home / 4096 ≡ d.home / 4096 → q e ≡ false) (λ e. stands_beside d e ≡ false → q e ≡ false) (λ e none out. none (beside_away d e out)) deltas all)

-- a delta that lays bytes, in whose block none is cancelled, leaves what is cancelled
pub cancels_kept : (deltas : List Delta) (d : Delta) (b : ℕ) → is_cancel d.kind ≡ false → All (λ e. is_cancel e.kind ≡ true → e.home / 4096 ≡ d.home / 4096 → ⊥) deltas
    → list_any (cancels_at b) (merged deltas d) ≡ list_any (cancels_at b) deltas
cancels_kept deltas d b lays none =
    any_merged (cancels_at b) deltas d
    (λ e kind same. and_left (is_cancel e.kind) (eqb (e.home / 4096) b) (ap is_cancel kind ∙ lays))
    (All-weaker (λ e. is_cancel e.kind ≡ true → e.home / 4096 ≡ d.home / 4096 → ⊥) (λ e. e.home / 4096 ≡ d.home / 4096 → cancels_at b e ≡ false) (λ e no same. elim (cases_Bool (is_cancel e.kind)) [
      | inl cancel ↦ absurd (no cancel same)
      | inr not_so ↦ and_left (is_cancel e.kind) (eqb (e.home / 4096) b) not_so
    ]) deltas none)

All-of : {X : Type 0} (P : X → Type 0) → ((x : X) → P x) → (xs : List X) → All P xs
All-of P each xs k d inside = each (slice_index_or xs k d)

-- a cancel adds its block, and leaves the others
pub cancels_beside : (deltas : List Delta) (d : Delta) (b : ℕ) → (d.home / 4096 ≡ b → ⊥) → list_any (cancels_at b) (merged deltas d) ≡ list_any (cancels_at b) deltas
cancels_beside deltas d b away =
    let out : (e : Delta) → e.home / 4096 ≡ d.home / 4096 → cancels_at b e ≡ false = λ e same. and_right (is_cancel e.kind) (eqb (e.home / 4096) b) (ne_eqb (e.home / 4096) b (λ here. away (sym same ∙ here))) in
    any_merged (cancels_at b) deltas d (λ e kind same. out e same) (All-of (λ e. e.home / 4096 ≡ d.home / 4096 → cancels_at b e ≡ false) out deltas)

any_there : (q : Delta → Bool) (deltas : List Delta) (d : Delta) → is_whole_block d.kind ≡ true → q d ≡ true → list_any q (placed deltas d) ≡ true
any_there q [] d whole here = ap (list_any q) (placed_last d) ∙ ap (λ (t : Bool). t || false) here
any_there q (older ∷ deltas) d whole here = elim (cases_Bool (replaces d older)) [
  | inl is ↦
      let same : replacing d older ≡ d = ap (λ (t : Bool). cond t d (joined d older)) whole in
      ap (list_any q) (placed_replaced d older deltas is ∙ ap (placed deltas) same) ∙ any_there q deltas d whole here
  | inr other ↦ elim (cases_Bool (ltb d.home older.home)) [
    | inl before ↦ ap (list_any q) (placed_before d older deltas other before) ∙ ap (λ (t : Bool). t || list_any q (older ∷ deltas)) here
    | inr after ↦ ap (list_any q) (placed_after d older deltas other after) ∙ or_right (q older) (list_any q (placed deltas d)) (any_there q deltas d whole here)
  ]
]

pub cancels_there : (deltas : List Delta) (d : Delta) → is_cancel d.kind ≡ true → is_whole_block d.kind ≡ true → list_any (cancels_at (d.home / 4096)) (merged deltas d) ≡ true
cancels_there deltas d cancel whole =
    ap (list_any (cancels_at (d.home / 4096))) (merged_is deltas d)
    ∙ any_there (cancels_at (d.home / 4096)) (filter (stands_beside d) deltas) d whole (and_from (is_cancel d.kind) (eqb (d.home / 4096) (d.home / 4096)) cancel (eq-eqb (d.home / 4096) (d.home / 4096) refl))
