-- Entries that are the same but for their replies, and others after them.
use Rattle.std.proofs.Common.{◌≡◌, ◌≤◌, ◌<◌, ℕ, zero, suc, List, [], ◌∷◌, length, take, slice_get, arith}
use Rattle.std.specs.Prelude.{IfSome, IsSomeAnd}
use Rattle.lufs_base.specs.declared.geometry.Geometry.{Geometry}
use Rattle.tree_types.specs.declared.history.Entry.{Entry}
use Rattle.volume_model.specs.Sound.{Tree}
use Rattle.history_model.specs.Histories.{replayed_on}
use Rattle.history_laws.specs.Additions.{IsUntold, IsSameEntry, AreMoreEntries}
use Rattle.history_laws.proofs.LikeEntries.{AreLike, replayed_like}

module _ (n : ℕ) where
  more_like : (old new : List Entry) → AreMoreEntries n old new → AreLike old new
  more_like [] new more = tt
  more_like (e ∷ old) [] more = absurd more
  more_like (e ∷ old) (f ∷ new) more = (more.0.same, more_like old new more.1)

  pub replayed_same : (g : Geometry) (moment : ℕ) (tree : Tree) (old new : List Entry) (b : ℕ) → AreMoreEntries n old new → b ≤ length old
      → replayed_on g moment tree (take b new) ≡ replayed_on g moment tree (take b old)
  replayed_same g moment tree old new b more within = replayed_like g moment tree old new b (more_like old new more) within

  -- what holds of an old entry at a place, and what follows for the new one there
  pub new_holds : (P Q : Entry → Type 0) (old new : List Entry) (i : ℕ) → AreMoreEntries n old new → ((e f : Entry) → IsSameEntry n e f → P e → Q f)
      → ((f : Entry) → IsUntold n f → Q f) → IfSome (slice_get old i) P → IfSome (slice_get new i) Q
  new_holds P Q [] [] i more step late holds = tt
  new_holds P Q [] (f ∷ new) zero more step late holds = late f more.0
  new_holds P Q [] (f ∷ new) (suc i) more step late holds = new_holds P Q [] new i more.1 step late tt
  new_holds P Q (e ∷ old) [] i more step late holds = absurd more
  new_holds P Q (e ∷ old) (f ∷ new) zero more step late holds = step e f more.0 holds
  new_holds P Q (e ∷ old) (f ∷ new) (suc i) more step late holds = new_holds P Q old new i more.1 step late holds

  -- and the other way round
  pub old_holds : (P Q : Entry → Type 0) (old new : List Entry) (i : ℕ) → AreMoreEntries n old new → (i < length old → (e f : Entry) → IsSameEntry n e f → Q f → P e)
      → IfSome (slice_get new i) Q → IfSome (slice_get old i) P
  old_holds P Q [] new i more step holds = tt
  old_holds P Q (e ∷ old) [] i more step holds = absurd more
  old_holds P Q (e ∷ old) (f ∷ new) zero more step holds = step (omega arith) e f more.0 holds
  old_holds P Q (e ∷ old) (f ∷ new) (suc i) more step holds = old_holds P Q old new i more.1 (λ within. step (omega (arith, within))) holds

  -- an entry whose reply was given by then is an old one
  pub old_is : (P Q : Entry → Type 0) (old new : List Entry) (i : ℕ) → AreMoreEntries n old new → (i < length old → (e f : Entry) → IsSameEntry n e f → Q f → P e)
      → ((f : Entry) → IsUntold n f → Q f → ⊥) → IsSomeAnd (slice_get new i) Q → (i < length old) × IsSomeAnd (slice_get old i) P
  old_is P Q [] [] i more step late holds = absurd holds
  old_is P Q [] (f ∷ new) zero more step late holds = absurd (late f more.0 holds)
  old_is P Q [] (f ∷ new) (suc i) more step late holds = absurd ((old_is P Q [] new i more.1 (λ within e f same holds. absurd (omega (arith, within))) late holds).1)
  old_is P Q (e ∷ old) [] i more step late holds = absurd more
  old_is P Q (e ∷ old) (f ∷ new) zero more step late holds = (omega arith, step (omega arith) e f more.0 holds)
  old_is P Q (e ∷ old) (f ∷ new) (suc i) more step late holds =
      let rest = old_is P Q old new i more.1 (λ within. step (omega (arith, within))) late holds in
      (omega (arith, rest.0), rest.1)
