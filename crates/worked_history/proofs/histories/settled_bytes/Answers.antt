-- By the few entries that there are.
use Rattle.std.proofs.Common.{◌≡◌, ◌≤◌, ◌<◌, ℕ, zero, suc, true, false, List, [], ◌∷◌, ◌++◌, Some, refl, inl, inr, lit≤, lit<, arith}
use Rattle.std.specs.Prelude.{IfSome}
use Rattle.tree_types.specs.declared.history.Entry.{Entry}
use Rattle.volume_model.specs.Sound.{free_blocks_of, free_inodes_of}
use Rattle.volume_model.specs.Worked.{smallest}
use Rattle.history_model.specs.Places.{links_in}
use Rattle.history_model.specs.Walk.{walk_of}
use Rattle.history_model.specs.Ends.{ends_of}
use Rattle.history_model.specs.Refusals.{decision_at}
use Rattle.history_model.specs.Edits.{edited}
use Rattle.history_model.specs.Replies.{reply_of, tree_after}
use Rattle.history_model.specs.Histories.{entry_at, replay_of}
use Rattle.history_model.specs.Touched.{touches_byte, tree_before, IsSettledSince}
use Rattle.history_model.specs.WorkedTrees.{new_tree}
use Rattle.worked_history.specs.Histories.{written_once, written_and_synced, synced}
use Rattle.worked_history.proofs.histories.settled_bytes.Goals as goal

abbrev IsUntouchedBy : List Entry → (n i : ℕ) → Type 0
IsUntouchedBy entries n i = IfSome (entry_at entries i) (λ e. e.start < n → touches_byte (tree_before smallest 1000 new_tree entries i) e 3 0 ≡ false)

-- nothing comes after the fsync
after_sync : (i : ℕ) → 3 < i → IsUntouchedBy written_and_synced 3 i
after_sync zero past = absurd (omega arith)
after_sync (suc zero) past = absurd (omega arith)
after_sync (suc (suc zero)) past = absurd (omega arith)
after_sync (suc (suc (suc zero))) past = absurd (omega arith)
after_sync (suc (suc (suc (suc i)))) past = tt

-- no entry began before the third call
none_began : (i : ℕ) → 0 < i → IsUntouchedBy written_once 3 i
none_began zero past = absurd (omega arith)
none_began (suc zero) past = λ began. absurd (let less : 3 < 3 = began in omega arith)
none_began (suc (suc zero)) past = λ began. absurd (let less : 3 < 3 = began in omega arith)
none_began (suc (suc (suc i))) past = tt

pub returns-clause-synced : goal.returns-clause-synced
unfolding free_blocks_of links_in free_inodes_of walk_of ends_of decision_at edited reply_of tree_after replay_of
returns-clause-synced c = (3, record { acknowledged = inr (record { call = refl; reply = refl; told = lit≤ tt }); untouched = after_sync })

pub returns-clause-before_the_write : goal.returns-clause-before_the_write
returns-clause-before_the_write c = (0, record { acknowledged = inl refl; untouched = none_began })

pub returns-clause-touched : goal.returns-clause-touched
unfolding free_blocks_of links_in free_inodes_of walk_of ends_of decision_at edited reply_of tree_after replay_of
returns-clause-touched c = refl

-- the write is past j where j is one of the first two, and there is no fsync further on
abbrev Since : List Entry → ℕ → Type 0
Since entries j = IsSettledSince smallest 1000 new_tree entries 4 3 0 j

not_zero : (k : ℕ) → suc k ≡ 0 → ⊥
not_zero k same = omega arith

never_written : (j : ℕ) → Since written_once j → ⊥
unfolding free_blocks_of links_in free_inodes_of walk_of ends_of decision_at edited reply_of tree_after replay_of
never_written zero since = let e : true ≡ false = since.untouched 2 (lit< tt) (lit< tt) in cc
never_written (suc zero) since = let e : true ≡ false = since.untouched 2 (lit< tt) (lit< tt) in cc
never_written (suc (suc zero)) since = elim since.acknowledged [ inl same ↦ not_zero 1 same | inr told ↦ let e : false ≡ true = told.call in cc ]
never_written (suc (suc (suc j))) since = elim since.acknowledged [ inl same ↦ not_zero (suc (suc j)) same | inr told ↦ told ]

pub returns-clause-written : goal.returns-clause-written
returns-clause-written c = λ settled. never_written settled.0 settled.1

never_told : (j : ℕ) → Since (written_once ++ record synced { told = Some 5 } ∷ []) j → ⊥
unfolding free_blocks_of links_in free_inodes_of walk_of ends_of decision_at edited reply_of tree_after replay_of
never_told zero since = let e : true ≡ false = since.untouched 2 (lit< tt) (lit< tt) in cc
never_told (suc zero) since = let e : true ≡ false = since.untouched 2 (lit< tt) (lit< tt) in cc
never_told (suc (suc zero)) since = elim since.acknowledged [ inl same ↦ not_zero 1 same | inr told ↦ let e : false ≡ true = told.call in cc ]
never_told (suc (suc (suc zero))) since = elim since.acknowledged [ inl same ↦ not_zero 2 same | inr told ↦ let late : 5 ≤ 4 = told.told in omega arith ]
never_told (suc (suc (suc (suc j)))) since = elim since.acknowledged [ inl same ↦ not_zero (suc (suc (suc j))) same | inr told ↦ told ]

pub returns-clause-not_told : goal.returns-clause-not_told
returns-clause-not_told c = λ settled. never_told settled.0 settled.1
