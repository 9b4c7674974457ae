-- A change of the running transaction: the deltas that are laid over it, and the blocks that change hands.
use Rattle.std.specs.Prelude.{◌≡◌, ◌<◌, ◌≤◌, ℕ, ◌+◌, ◌*◌, ◌/◌, true, false, ◌&&◌, ◌||◌, if◌then◌else◌, List, ◌++◌, None, All, IsSome}
use Rattle.lufs_base.specs.declared.geometry.Geometry.{Geometry}
use Rattle.lufs_base.specs.declared.delta.Delta.{Delta}
use Rattle.volume_model.specs.Format.{is_body}
use Rattle.volume_model.specs.Log.{AreLoggable, delta_bytes, is_cancel, may_be_logged}
use Rattle.volume_model.specs.Sound.{is_among}
use Rattle.journal_model.specs.Journals.{Owner, Live, Released, Freed, Journal}
use Rattle.journal_model.specs.Versions.{Running, next_header}
use Rattle.journal_model.specs.LaidBlocks.{given_by, is_cancelled_in}
use Rattle.journal_model.specs.BlockRoles.{Role, Metadata, Roles, is_metadata, is_claimed}
use Rattle.journal_model.specs.Batches.{is_released}
use Rattle.journal_model.specs.Room.{pending_bytes}

pub record Change : Type 0 where
  pub deltas : List Delta
  -- the blocks whose bits it sets; those that it frees; and those that it gives back from a hand
  pub taken : List ℕ
  pub freed : List ℕ
  pub given_back : List ℕ

-- `all` is these deltas with more laid over them: each byte has the last value, but on a block that is cancelled there is none.
pub record IsMerged (g : Geometry) (deltas more all : List Delta) : Type 0 where
  pub loggable : AreLoggable g all
  pub cancels : (b : ℕ) → is_cancelled_in all b ≡ (is_cancelled_in deltas b || is_cancelled_in more b)
  pub void : (address : ℕ) → is_cancelled_in more (address / 4096) ≡ true → given_by all address ≡ None
  pub last : (address : ℕ) → is_cancelled_in more (address / 4096) ≡ false → given_by all address ≡ given_by (deltas ++ more) address

-- the owner of block b after the change
abbrev pub owner_after : Geometry → Journal → Change → ℕ → Owner
owner_after g j change b =
    if is_among b change.freed then Freed (next_header g j).tid
    else (if is_among b change.taken then Live else (if is_among b change.given_back then Released else j.owners b))

-- The running version gets these roles: what is freed is claimed no more, what is taken is given out, and what becomes
-- metadata gets all its bytes.
pub record MovesRoles (g : Geometry) (roles : Roles) (j : Journal) (change : Change) (to : ℕ → Role) : Type 0 where
  pub taken : (b : ℕ) → is_among b change.taken ≡ true → is_released j b ≡ true
  pub given_back : (b : ℕ) → is_among b change.given_back ≡ true → (j.owners b ≡ Live) × (is_claimed (roles Running b) ≡ false) × (is_claimed (to b) ≡ false)
  pub freed : (b : ℕ) → is_among b change.freed ≡ true → (is_claimed (roles Running b) ≡ true) × (is_claimed (to b) ≡ false)
  pub kept : (b : ℕ) → is_claimed (roles Running b) ≡ true → is_among b change.freed ≡ false → to b ≡ roles Running b
  pub claimed : (b : ℕ) → is_claimed (roles Running b) ≡ false → is_claimed (to b) ≡ true → (is_body g b ≡ true) × (owner_after g j change b ≡ Live)
  pub covered : (b n i : ℕ) → is_claimed (roles Running b) ≡ false → to b ≡ Metadata n → i < n → IsSome (given_by change.deltas (4096 * b + i))
  pub sizes : (b n : ℕ) → to b ≡ Metadata n → n ≤ 4096

-- The deltas lie on metadata, or cancel just the metadata blocks that are freed; with them the running ones are these.
pub record MovesDeltas (g : Geometry) (roles : Roles) (j : Journal) (change : Change) (to : ℕ → Role) (running : List Delta) : Type 0 where
  pub merged : IsMerged g j.running change.deltas running
  pub table : All (λ d. may_be_logged g d.kind d.home d.len ≡ true) change.deltas
  pub laid : All (λ d. is_cancel d.kind ≡ false → is_metadata (to (d.home / 4096)) ≡ true) change.deltas
  pub cancels : (b : ℕ) → is_cancelled_in change.deltas b ≡ (is_among b change.freed && is_metadata (roles Running b))
  pub room : delta_bytes running ≤ pending_bytes j
