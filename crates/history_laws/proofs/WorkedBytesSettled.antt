-- When the bytes of the worked session's file are settled.
use Rattle.std.proofs.Common.{◌≡◌, ◌≤◌, ◌<◌, ℕ, zero, suc, true, false, Option, Some, None, refl, sym, subst, inl, inr, ◌∙◌, lit<, arith}
use Rattle.std.specs.Prelude.{IfSome, IsSomeAnd, codes}
use Rattle.tree_types.specs.declared.call.Call.TheVariants as call
use Rattle.volume_model.specs.Sound.{free_blocks_of, free_inodes_of}
use Rattle.volume_model.specs.Worked.{smallest}
use Rattle.history_model.specs.Places.{links_in}
use Rattle.history_model.specs.Walk.{walk_of}
use Rattle.history_model.specs.Ends.{ends_of}
use Rattle.history_model.specs.Refusals.{decision_at}
use Rattle.history_model.specs.Edits.{edited}
use Rattle.history_model.specs.Replies.{reply_of, tree_after}
use Rattle.history_model.specs.Histories.{entry_at, replay_of}
use Rattle.history_model.specs.Touched.{touches_byte, tree_before, is_fsync_of, IsSettledSince, Settled}
use Rattle.history_model.specs.WorkedTrees.{new_tree}
use Rattle.history_laws.specs.WorkedSession.{Times, entry_during, letters, five_entries}

-- nothing comes after the fsync
after_sync : (when : ℕ → Times) (n p i : ℕ) → 5 < i
    → IfSome (entry_at (five_entries when) i) (λ e. e.start < n → touches_byte (tree_before smallest 1000 new_tree (five_entries when) i) e 3 p ≡ false)
after_sync when n p zero past = absurd (omega arith)
after_sync when n p (suc zero) past = absurd (omega arith)
after_sync when n p (suc (suc zero)) past = absurd (omega arith)
after_sync when n p (suc (suc (suc zero))) past = absurd (omega arith)
after_sync when n p (suc (suc (suc (suc zero)))) past = absurd (omega arith)
after_sync when n p (suc (suc (suc (suc (suc zero))))) past = absurd (omega arith)
after_sync when n p (suc (suc (suc (suc (suc (suc i)))))) past = tt

of_the_file : (when : ℕ → Times) → is_fsync_of (tree_before smallest 1000 new_tree (five_entries when) 5) (entry_during (when 5) 5 None true (call.Fsync (codes "/f"))).cred (Some (call.Fsync (codes "/f"))) 3 ≡ true
unfolding free_blocks_of links_in free_inodes_of walk_of ends_of decision_at edited reply_of tree_after replay_of
of_the_file when = refl

pub once_told : (when : ℕ → Times) (told n p : ℕ) → (when 5).told ≡ Some told → told ≤ n → Settled smallest 1000 new_tree (five_entries when) n 3 p
once_told when told n p is low = (
  5,
  record {
    acknowledged = inr (record { call = of_the_file when; reply = refl; told = subst (λ (o : Option ℕ). IsSomeAnd o (λ t. t ≤ n)) (sym is) low });
    untouched = after_sync when n p;
  },
)

written_here : (when : ℕ → Times) (p : ℕ) → p < 3
    → touches_byte (tree_before smallest 1000 new_tree (five_entries when) 4) (entry_during (when 4) 4 None false (call.Write (codes "/f") 0 letters)) 3 p ≡ true
unfolding free_blocks_of links_in free_inodes_of walk_of ends_of decision_at edited reply_of tree_after replay_of
written_here when zero less = refl
written_here when (suc zero) less = refl
written_here when (suc (suc zero)) less = refl
written_here when (suc (suc (suc p))) less = absurd (omega arith)

not_told : (o : Option ℕ) (n : ℕ) → IsSomeAnd o (λ t. t ≤ n) → IfSome o (λ t. n < t) → ⊥
not_told None n is later = is
not_told (Some t) n is later = let low : t ≤ n = is in let high : n < t = later in omega (arith, low, high)

not_zero : (k : ℕ) → suc k ≡ 0 → ⊥
not_zero k same = omega arith

pub before_that : (when : ℕ → Times) (n p j : ℕ) → (when 4).start < n → IfSome (when 5).told (λ told. n < told) → p < 3
    → IsSettledSince smallest 1000 new_tree (five_entries when) n 3 p j → ⊥
before_that when n p zero began later less since = let e : true ≡ false = sym (written_here when p less) ∙ since.untouched 4 (lit< tt) began in cc
before_that when n p (suc zero) began later less since = let e : true ≡ false = sym (written_here when p less) ∙ since.untouched 4 (lit< tt) began in cc
before_that when n p (suc (suc zero)) began later less since = let e : true ≡ false = sym (written_here when p less) ∙ since.untouched 4 (lit< tt) began in cc
before_that when n p (suc (suc (suc zero))) began later less since = let e : true ≡ false = sym (written_here when p less) ∙ since.untouched 4 (lit< tt) began in cc
before_that when n p (suc (suc (suc (suc zero)))) began later less since = elim since.acknowledged [ inl same ↦ not_zero 3 same | inr told ↦ let e : false ≡ true = told.call in cc ]
before_that when n p (suc (suc (suc (suc (suc zero))))) began later less since = elim since.acknowledged [ inl same ↦ not_zero 4 same | inr told ↦ not_told (when 5).told n told.told later ]
before_that when n p (suc (suc (suc (suc (suc (suc j)))))) began later less since = elim since.acknowledged [ inl same ↦ not_zero (suc (suc (suc (suc (suc j))))) same | inr told ↦ told ]
