-- Who owns a block after a change, and once a transaction is published.
use Rattle.std.proofs.Common.{◌≡◌, ◌⊎◌, inl, inr, ℕ, eqb, true, false, not, refl, sym, ap, ◌∙◌}
use Rattle.std.proofs.lemmas.Bool.{cases_Bool, cond-true, cond-false, eqb-true, eqb-false, true≢false, false≢true, and_parts}
use Rattle.lufs_base.specs.declared.geometry.Geometry.{Geometry}
use Rattle.volume_model.specs.Sound.{is_among}
use Rattle.journal_model.specs.Journals.{Owner, Live, Released, Freed, Journal}
use Rattle.journal_model.specs.Versions.{next_header}
use Rattle.journal_model.specs.Batches.{is_held, is_released, is_released_owner, is_freed_owner}
use Rattle.journal_model.specs.Changes.{Change, owner_after}
use Rattle.journal_model.specs.Steps.{published_owner}

-- the transaction that freed the block
abbrev pub freed_by : Owner → ℕ
freed_by Live = 0
freed_by Released = 0
freed_by (Freed tid) = tid

-- Who owns a block once a transaction is published: who did before, or none any more, if that transaction freed it.
pub owner_cases : (tid : ℕ) (owner : Owner) → ((published_owner tid owner ≡ owner) × (owner ≡ Freed tid → ⊥)) ⊎ ((owner ≡ Freed tid) × (published_owner tid owner ≡ Released))
owner_cases tid Live = inl (refl, λ is. false≢true (ap is_freed_owner is))
owner_cases tid Released = inl (refl, λ is. false≢true (ap is_freed_owner is))
owner_cases tid (Freed by) = elim (cases_Bool (eqb by tid)) [
  | inl same ↦ inr (ap (λ (n : ℕ). Freed n) (eqb-true by tid same), cond-true (eqb by tid) Released (Freed by) same)
  | inr other ↦ inl (cond-false (eqb by tid) Released (Freed by) other, λ is. eqb-false by tid other (ap freed_by is))
]

-- the four cases of a change
module _ (g : Geometry) (j : Journal) (change : Change) (b : ℕ) where
  pub owner_freed : is_among b change.freed ≡ true → owner_after g j change b ≡ Freed (next_header g j).tid
  owner_freed is = cond-true (is_among b change.freed) _ _ is

  pub owner_taken : is_among b change.freed ≡ false → is_among b change.taken ≡ true → owner_after g j change b ≡ Live
  owner_taken none is = cond-false (is_among b change.freed) _ _ none ∙ cond-true (is_among b change.taken) _ _ is

  pub owner_given : is_among b change.freed ≡ false → is_among b change.taken ≡ false → is_among b change.given_back ≡ true → owner_after g j change b ≡ Released
  owner_given none out is = cond-false (is_among b change.freed) _ _ none ∙ cond-false (is_among b change.taken) _ _ out ∙ cond-true (is_among b change.given_back) _ _ is

  pub owner_same : is_among b change.freed ≡ false → is_among b change.taken ≡ false → is_among b change.given_back ≡ false → owner_after g j change b ≡ j.owners b
  owner_same none out back = cond-false (is_among b change.freed) _ _ none ∙ cond-false (is_among b change.taken) _ _ out ∙ cond-false (is_among b change.given_back) _ _ back

pub released_no_live : Released ≡ Live → ⊥
released_no_live same = true≢false (ap is_released_owner same)

pub live_no_freed : (tid : ℕ) → Live ≡ Freed tid → ⊥
live_no_freed tid same = false≢true (ap is_freed_owner same)

pub released_no_freed : (tid : ℕ) → Released ≡ Freed tid → ⊥
released_no_freed tid same = false≢true (ap is_freed_owner same)

-- what may be given out isn't live or freed
pub released_owner : (j : Journal) (b : ℕ) (owner : Owner) → is_released_owner owner ≡ false → is_released j b ≡ true → j.owners b ≡ owner → ⊥
released_owner j b owner other is same =
    false≢true (sym other ∙ ap is_released_owner (sym same) ∙ (and_parts (is_released_owner (j.owners b)) (not (is_held j b)) is).0)
