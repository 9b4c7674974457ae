-- The numbers and the entries are compared.
use Rattle.std.proofs.Common.{◌≡◌, ◌≤◌, ◌<◌, ◌⊎◌, ℕ, zero, suc, true, false, [], ◌∷◌, Option, refl, ap, inl, inr, lit≤, lit<, arith}
use Rattle.std.specs.Prelude.{IfSome, unwrap_or}
use Rattle.history_model.specs.Histories.{entry_at}
use Rattle.worked_history.specs.Histories.{made, synced}
use Rattle.worked_history.proofs.histories.commits_and_rolls.Goals as goal

-- one number isn't two
two_numbers : (n m : ℕ) → n ≡ m → (n < m) ⊎ (m < n) → ⊥
two_numbers n m same (inl less) = omega arith
two_numbers n m same (inr more) = omega arith

-- no entry before the second one is synchronous
none_before : (k : ℕ) → 0 < k → k < 2 → IfSome (entry_at (made ∷ (synced ∷ [])) k) (λ e. e.sync ≡ false)
none_before zero low high = absurd (omega arith)
none_before (suc zero) low high = refl
none_before (suc (suc k)) low high = absurd (omega arith)

pub returns-clause-commits : goal.returns-clause-commits
returns-clause-commits c = record {
  rise = (lit< tt, lit≤ tt, tt);
  causes = (record { past = lit< tt; within = lit≤ tt; sync = refl; first = none_before }, tt);
  places = λ i j d below within. absurd (omega arith);
}

pub returns-clause-rolls : goal.returns-clause-rolls
returns-clause-rolls c = record {
  rise = (lit< tt, lit≤ tt, tt);
  causes = (inl refl, tt);
  places = λ i j d below within. absurd (omega arith);
}

pub returns-clause-asynchronous : goal.returns-clause-asynchronous
returns-clause-asynchronous c = λ right. let e : false ≡ true = right.causes.0.sync in cc

pub returns-clause-without_entry : goal.returns-clause-without_entry
returns-clause-without_entry c = λ right. let h : 2 < 2 = right.rise.2.0 in omega arith

pub returns-clause-past_the_end : goal.returns-clause-past_the_end
returns-clause-past_the_end c = λ right. let h : 3 ≤ 2 = right.rise.1 in omega arith

pub returns-clause-early_end : goal.returns-clause-early_end
returns-clause-early_end c = λ right. two_numbers 1 2 right.causes.0 (inl (lit< tt))

pub returns-clause-half_is_no_cause : goal.returns-clause-half_is_no_cause
returns-clause-half_is_no_cause c = λ right. right.causes.0

pub returns-clause-full : goal.returns-clause-full
returns-clause-full c = (refl, refl, λ fits. let h : 256 ≤ 255 = fits in omega arith)

pub returns-clause-not_full : goal.returns-clause-not_full
returns-clause-not_full c = λ full. full.2 (lit≤ tt)

pub returns-clause-other_need : goal.returns-clause-other_need
returns-clause-other_need c = λ full. two_numbers 8431 8432 full.0 (inl (lit< tt))

pub returns-clause-unreleased : goal.returns-clause-unreleased
returns-clause-unreleased c = (lit< tt, lit≤ tt)

pub returns-clause-no_blocks : goal.returns-clause-no_blocks
returns-clause-no_blocks c = λ unreleased. let h : 2 ≤ 1 = unreleased.1 in omega arith

pub returns-clause-asked : goal.returns-clause-asked
returns-clause-asked c = refl

pub returns-clause-not_asked : goal.returns-clause-not_asked
returns-clause-not_asked c = λ asked. two_numbers 114 99 (ap (λ (o : Option ℕ). unwrap_or o 0) asked) (inr (lit< tt))

pub returns-clause-asked_twice : goal.returns-clause-asked_twice
returns-clause-asked_twice c = λ apart. apart 0 1 0 (lit< tt) (lit< tt) refl
