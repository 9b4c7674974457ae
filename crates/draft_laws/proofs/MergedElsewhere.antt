-- What merging one more delta leaves of the other blocks, and of the whole block that it is of.
use Rattle.std.proofs.Common.{◌≡◌, ◌≤◌, inl, inr, ℕ, suc, ◌/◌, eqb, ltb, Bool, true, false, not, cond, List, [], ◌∷◌, refl, sym, ap, ◌∙◌, subst, arith}
use Rattle.std.specs.Prelude.{All, AllPairs, slice_index_or}
use Rattle.std.specs.List.{filter}
use Rattle.std.proofs.lemmas.Bool.{cases_Bool, true≢false, cond-true, cond-false, and_left, ne_eqb, eq-eqb, ltb-true}
use Rattle.std.proofs.lemmas.List.Elements.{All-nil, All-cons, All-head, All-tail}
use Rattle.lufs_base.specs.declared.delta.Delta.{Delta}
use Rattle.volume_model.specs.Log.{may_precede, is_cancel, lays_on}
use Rattle.meta_store.specs.Merged.{is_whole_block, share_block, meets, replaces, replacing, joined, stands_beside, placed, merged}
use Rattle.meta_store.proofs.MergeSteps.{placed_last, placed_replaced, placed_before, placed_after, merged_is, replaced_in_block}
use Rattle.meta_store.proofs.MergedOrder.{homes_rise}
use Rattle.draft_laws.proofs.SuitedBeside.{not_excluded}
use Rattle.draft_laws.proofs.Cancels.{block_replacing, beside_away}

not_on : (d : Delta) (b : ℕ) → (d.home / 4096 ≡ b → ⊥) → lays_on b d ≡ false
not_on d b away = and_left (eqb (d.home / 4096) b) (not (is_cancel d.kind)) (ne_eqb (d.home / 4096) b away)

left_out : (p : Delta → Bool) (d : Delta) (deltas : List Delta) → p d ≡ false → filter p (d ∷ deltas) ≡ filter p deltas
left_out p d deltas out = cond-false (p d) (d ∷ filter p deltas) (filter p deltas) out

placed_elsewhere : (deltas : List Delta) (d : Delta) (b : ℕ) → (d.home / 4096 ≡ b → ⊥) → filter (lays_on b) (placed deltas d) ≡ filter (lays_on b) deltas
placed_elsewhere [] d b away = ap (filter (lays_on b)) (placed_last d) ∙ left_out (lays_on b) d [] (not_on d b away)
placed_elsewhere (older ∷ deltas) d b away = elim (cases_Bool (replaces d older)) [
  | inl is ↦
      ap (filter (lays_on b)) (placed_replaced d older deltas is)
      ∙ placed_elsewhere deltas (replacing d older) b (λ same. away (sym (block_replacing d older is) ∙ same))
      ∙ sym (left_out (lays_on b) older deltas (not_on older b (λ same. away (replaced_in_block d older is ∙ same))))
  | inr other ↦ elim (cases_Bool (ltb d.home older.home)) [
    | inl before ↦ ap (filter (lays_on b)) (placed_before d older deltas other before) ∙ left_out (lays_on b) d (older ∷ deltas) (not_on d b away)
    | inr after ↦
        ap (filter (lays_on b)) (placed_after d older deltas other after)
        ∙ ap (λ (l : List Delta). cond (lays_on b older) (older ∷ l) l) (placed_elsewhere deltas d b away)
  ]
]

beside_elsewhere : (deltas : List Delta) (d : Delta) (b : ℕ) → (d.home / 4096 ≡ b → ⊥) → filter (lays_on b) (filter (stands_beside d) deltas) ≡ filter (lays_on b) deltas
beside_elsewhere [] d b away = refl
beside_elsewhere (older ∷ deltas) d b away =
    let rest = beside_elsewhere deltas d b away in
    elim (cases_Bool (stands_beside d older)) [
      | inl kept ↦
          ap (filter (lays_on b)) (cond-true (stands_beside d older) (older ∷ filter (stands_beside d) deltas) (filter (stands_beside d) deltas) kept)
          ∙ ap (λ (l : List Delta). cond (lays_on b older) (older ∷ l) l) rest
      | inr out ↦
          ap (filter (lays_on b)) (left_out (stands_beside d) older deltas out) ∙ rest
          ∙ sym (left_out (lays_on b) older deltas (not_on older b (λ same. away (sym (beside_away d older out) ∙ same))))
    ]

-- what is laid on other blocks stays
pub merged_elsewhere : (deltas : List Delta) (d : Delta) (b : ℕ) → (d.home / 4096 ≡ b → ⊥) → filter (lays_on b) (merged deltas d) ≡ filter (lays_on b) deltas
merged_elsewhere deltas d b away =
    ap (filter (lays_on b)) (merged_is deltas d) ∙ placed_elsewhere (filter (stands_beside d) deltas) d b away ∙ beside_elsewhere deltas d b away

rest_rises : (older : Delta) (deltas : List Delta) → AllPairs (λ e next. e.home ≤ next.home) (older ∷ deltas) → AllPairs (λ e next. e.home ≤ next.home) deltas
rest_rises older deltas rising = λ i j e before inside. rising (suc i) (suc j) e (omega (arith, before)) (omega (arith, inside))

whole_beside : (d older : Delta) → is_whole_block d.kind ≡ true → stands_beside d older ≡ true
whole_beside d older whole = not_excluded d older (inl whole)

-- beside a delta of a whole block all stand
pub all_beside : (d : Delta) (deltas : List Delta) → is_whole_block d.kind ≡ true → filter (stands_beside d) deltas ≡ deltas
all_beside d [] whole = refl
all_beside d (older ∷ deltas) whole =
    cond-true (stands_beside d older) (older ∷ filter (stands_beside d) deltas) (filter (stands_beside d) deltas) (whole_beside d older whole)
    ∙ ap (λ (l : List Delta). older ∷ l) (all_beside d deltas whole)

pub each_beside : (d : Delta) (deltas : List Delta) → is_whole_block d.kind ≡ true → All (λ older. stands_beside d older ≡ true) deltas
each_beside d deltas whole k e inside = whole_beside d (slice_index_or deltas k e) whole

-- a delta of a whole block is all that is left of that block
module _ (P : Delta → Type 0) (d : Delta) (whole : is_whole_block d.kind ≡ true) (own : P d) where
  Q : Delta → Type 0
  Q e = (e.home / 4096 ≡ d.home / 4096 → ⊥) → P e

  shares : (older : Delta) → replaces d older ≡ share_block d older
  shares older = cond-true (is_whole_block d.kind) (share_block d older) (meets d older) whole

  placed_whole : (deltas : List Delta) → AllPairs (λ e next. e.home ≤ next.home) deltas → All Q deltas → All P (placed deltas d)
  unfolding Q
  placed_whole [] rising all = subst (λ (l : List Delta). All P l) (sym (placed_last d)) (All-cons P d [] own (All-nil P))
  placed_whole (older ∷ deltas) rising all =
      let tail = All-tail Q older deltas all in
      let rest = placed_whole deltas (rest_rises older deltas rising) tail in
      elim (cases_Bool (replaces d older)) [
        | inl is ↦
            let same : replacing d older ≡ d = cond-true (is_whole_block d.kind) d (joined d older) whole in
            subst (λ (l : List Delta). All P l) (sym (placed_replaced d older deltas is ∙ ap (placed deltas) same)) rest
        | inr other ↦
            let apart : older.home / 4096 ≡ d.home / 4096 → ⊥ = λ same. true≢false (sym (eq-eqb (d.home / 4096) (older.home / 4096) (sym same)) ∙ sym (shares older) ∙ other) in
            let first : P older = All-head Q older deltas all apart in
            elim (cases_Bool (ltb d.home older.home)) [
              | inl before ↦
                  let below = ltb-true d.home older.home before in
                  let after_it : All P deltas = λ k e inside.
                  tail k e inside (λ same. let up = rising 0 (suc k) e (omega arith) (omega (arith, inside)) in apart (omega (arith, same, up, below))) in
                  subst (λ (l : List Delta). All P l) (sym (placed_before d older deltas other before)) (All-cons P d (older ∷ deltas) own (All-cons P older deltas first after_it))
              | inr after ↦ subst (λ (l : List Delta). All P l) (sym (placed_after d older deltas other after)) (All-cons P older (placed deltas d) first rest)
            ]
      ]

  pub merged_whole : (deltas : List Delta) → AllPairs (λ e next. may_precede e next.kind next.home ≡ true) deltas → All (λ e. (e.home / 4096 ≡ d.home / 4096 → ⊥) → P e) deltas → All P (merged deltas d)
  unfolding Q
  merged_whole deltas order all =
      let kept : filter (stands_beside d) deltas ≡ deltas = all_beside d deltas whole in
      subst (λ (l : List Delta). All P l) (sym (merged_is deltas d ∙ ap (λ (l : List Delta). placed l d) kept))
      (placed_whole deltas (λ i j e before inside. homes_rise (slice_index_or deltas i e) (slice_index_or deltas j e).kind (slice_index_or deltas j e).home (order i j e before inside)) all)
