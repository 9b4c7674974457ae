-- What a step adds to a history, seen from an earlier moment.
use Rattle.std.specs.Prelude.{◌≡◌, ◌≤◌, ◌<◌, ◌⊎◌, ℕ, List, [], ◌∷◌, ◌++◌, length, None, IfSome, IsSomeAnd}
use Rattle.std.specs.List.{AllByRecursion}
use Rattle.tree_types.specs.declared.history.Entry.{Entry}
use Rattle.tree_types.specs.declared.history.Commit.{Commit}
use Rattle.history_model.specs.Histories.{History}

-- the entry's reply wasn't given after n listed calls or fewer
abbrev pub IsUntold : (n : ℕ) → Entry → Type 0
IsUntold n e = IfSome e.told (λ told. n < told)

-- The same entry. Its reply may have been given since, after more than n listed calls.
pub record IsSameEntry (n : ℕ) (old new : Entry) : Type 0 where
  pub same : new ≡ record old { told = new.told }
  pub told : (new.told ≡ old.told) ⊎ ((old.told ≡ None) × IsSomeAnd new.told (λ told. n < told))

-- the new entries are the old ones, and then others, whose replies weren't given by then
abbrev pub AreMoreEntries : (n : ℕ) → (old new : List Entry) → Type 0
AreMoreEntries n [] new = AllByRecursion (IsUntold n) new
AreMoreEntries n (e ∷ old) [] = ⊥
AreMoreEntries n (e ∷ old) (f ∷ new) = IsSameEntry n e f × AreMoreEntries n old new

-- The second history is the first one with what happened since: entries, replies and commits. The commits that were there
-- are of entries that were there.
pub record AddsAfter (n : ℕ) (h k : History) : Type 0 where
  pub entries : AreMoreEntries n h.entries k.entries
  pub commits : (more : List Commit) × (k.commits ≡ h.commits ++ more)
  pub within : AllByRecursion (λ c. c.boundary ≤ length h.entries) h.commits
