-- What a store that changes tells of itself besides what is read.
use Rattle.std.specs.Prelude.{◌≡◌, ℕ, Bool, false, List, [], Option, None}
use Rattle.lufs_base.specs.declared.delta.Delta.{Delta}
use Rattle.meta_store.specs.Store.{StoreTold, IsUnchanged}

-- What may be given out, and what the running transaction holds: that of the changes since the last commit.
pub record Changing : Type 0 where
  -- the body blocks that may be given out now
  pub is_released : ℕ → Bool
  -- its deltas, in the order in which they are logged
  pub held : List Delta
  -- the blocks taken and freed in it
  pub is_taken : ℕ → Bool
  pub is_freed : ℕ → Bool
  -- how many more bytes of deltas it has room for; None where they are never counted
  pub room : Option ℕ

-- what a store tells that takes no changes
abbrev pub no_changes : Changing
no_changes = record { is_released = λ b. false; held = []; is_taken = λ b. false; is_freed = λ b. false; room = None }

-- all of it is as it was
pub record IsKept (old new : Changing) : Type 0 where
  pub released : (b : ℕ) → new.is_released b ≡ old.is_released b
  pub held : new.held ≡ old.held
  pub taken : (b : ℕ) → new.is_taken b ≡ old.is_taken b
  pub freed : (b : ℕ) → new.is_freed b ≡ old.is_freed b
  pub room : new.room ≡ old.room

-- All that a changing store tells of itself at one moment.
pub record AllTold : Type 0 where
  pub read : StoreTold
  pub changing : Changing

abbrev pub all_told : StoreTold → Changing → AllTold
all_told read changing = record { read = read; changing = changing }

-- The blocks and all else are as they were, and the disk under them was not written.
pub record IsAsBefore (old new : AllTold) : Type 0 where
  pub read : IsUnchanged old.read new.read
  pub changing : IsKept old.changing new.changing
