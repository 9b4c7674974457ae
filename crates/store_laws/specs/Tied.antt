-- What ties a store that takes changes to the running version of a journal.
use Rattle.std.specs.Prelude.{◌≡◌, ◌≤◌, ◌<◌, ℕ, suc, ◌-◌, ◌*◌, Bool, true, false, not, ◌&&◌, if◌then◌else◌, List, [], ◌∷◌, map, Some, IsSomeAnd, All}
use Rattle.lufs_base.specs.Layout.{group_start}
use Rattle.lufs_base.specs.declared.geometry.Geometry.{Geometry}
use Rattle.lufs_base.specs.declared.numbers.BlockNo.{BlockNo}
use Rattle.volume_model.specs.Format.{Image, Blocks, block, is_body}
use Rattle.volume_model.specs.declared.hand.Hand.{Hand}
use Rattle.volume_model.specs.declared.device_call.DeviceCall.{DeviceCall}
use Rattle.volume_model.specs.Crash.{Record, with_calls, present_of}
use Rattle.volume_model.specs.Log.{delta_bytes}
use Rattle.volume_model.specs.Sound.{Reading, reading_of, block_bit, Sound}
use Rattle.journal_model.specs.Journals.{Owner, Live, Released, Freed, Journal}
use Rattle.journal_model.specs.Versions.{Running, content_of}
use Rattle.journal_model.specs.BlockRoles.{Role, Roles, Changes, moved}
use Rattle.journal_model.specs.Batches.{is_released}
use Rattle.journal_model.specs.Changes.{Change, owner_after}
use Rattle.history_laws.specs.Applied.{with_running}
use Rattle.history_laws.specs.Published.{reading_in}
use Rattle.history_laws.specs.VolumeRoles.{role_of}
use Rattle.history_laws.specs.Volumes.{Volume}
use Rattle.meta_store.specs.declared.change.Change.{Change as StoreChange}
use Rattle.meta_store.specs.Suited.{suits}
use Rattle.meta_store.specs.Changing.{AllTold}
use Rattle.meta_store.specs.Conditions.{MayApply, MayAmend}
use Rattle.meta_store.specs.Changes.{numbers_in, with_part, amended}
use Rattle.meta_store.specs.Merged.{all_merged}
use Rattle.meta_store.specs.Deltas.{group_delta}
use Rattle.meta_draft.specs.Drafted.{drafted_blocks}

abbrev pub is_live : Owner → Bool
is_live Live = true
is_live Released = false
is_live (Freed tid) = false

-- the owners with which a volume that reads so is opened: body blocks whose bits are clear may be given out
abbrev pub owners_by_bits : Geometry → Reading → ℕ → Owner
owners_by_bits g r b = if is_body g b && not (block_bit g r b) then Released else Live

-- The running version's blocks have just the roles that its records give them, the owners call live just the body blocks whose
-- bits are set, and each running delta suits what its block is.
pub record IsRead (g : Geometry) (roles : Roles) (home : Image) (j : Journal) : Type 0 where
  pub claimed : (b : ℕ) → roles Running b ≡ role_of g (reading_in g j home Running) b
  pub owners : (b : ℕ) → is_body g b ≡ true → is_live (j.owners b) ≡ block_bit g (reading_in g j home Running) b
  pub suited : All (λ d. suits g (reading_in g j home Running) d ≡ true) j.running

-- A store tells the running version: it has its content and its deltas, and gives out only what the journal may give out, and
-- no more room than the calls inside have reserved.
pub record TellsRunning (g : Geometry) (home : Image) (j : Journal) (told : AllTold) : Type 0 where
  pub geometry : told.read.geometry ≡ g
  pub content : told.read.content ≡ Some (content_of g j Running home)
  pub held : told.changing.held ≡ j.running
  pub released : (b : ℕ) → told.changing.is_released b ≡ true → is_released j b ≡ true
  pub room : IsSomeAnd told.changing.room (λ room. room ≤ j.unspent)

-- the content of the running version, and with this change made to it
abbrev pub running_image : Geometry → Record → Journal → Image
running_image g r j = content_of g j Running (present_of r)

abbrev pub running_with : Geometry → Record → Journal → StoreChange → Blocks
running_with g r j change = drafted_blocks change (running_image g r j)

-- a change of a store as the journal sees it; it gives nothing back from a hand
abbrev pub as_applied : StoreChange → Change
as_applied change = record { deltas = change.deltas; taken = change.taken; freed = map (λ f. f.block.0) change.freed; given_back = [] }

-- the journal with this change applied
abbrev pub journal_after : Geometry → Journal → StoreChange → Journal
journal_after g j change = record j {
  running = all_merged j.running change.deltas;
  owners = owner_after g j (as_applied change);
  unspent = j.unspent - (delta_bytes (all_merged j.running change.deltas) - delta_bytes j.running);
}

-- A store that tells the running version takes this change. It leads from a content that is sound while the first hands are
-- held to one that is sound while the others are.
pub record MayChange (g : Geometry) (roles : Roles) (r : Record) (j : Journal) (hands : List Hand) (told : AllTold) (change : StoreChange) (after : List Hand) : Type 0 where
  pub read : IsRead g roles (present_of r) j
  pub tells : TellsRunning g (present_of r) j told
  pub takes : MayApply change told
  pub sound : Sound g (block (running_image g r j)) hands
  pub sound_after : Sound g (running_with g r j change) after

-- the roles of the running version's blocks with the change
abbrev pub roles_with : Geometry → Record → Journal → StoreChange → ℕ → Role
roles_with g r j change = role_of g (reading_of g (running_with g r j change))

-- the volume with this change made for the next entry of its history, or for the hands alone
abbrev pub with_entry : Geometry → Volume → StoreChange → List Hand → Volume
with_entry g v change after = record v {
  j = journal_after g v.j change;
  roles = moved (Changes (roles_with g v.r v.j change)) v.roles;
  held = with_running v.held (suc (v.held Running));
  hands = after;
}

abbrev pub with_hands : Geometry → Volume → StoreChange → List Hand → Volume
with_hands g v change after = record v { j = journal_after g v.j change; roles = moved (Changes (roles_with g v.r v.j change)) v.roles; hands = after }

-- the store once the disk has these calls, too
abbrev pub told_with : Geometry → Record → Journal → List DeviceCall → AllTold → AllTold
told_with g r j calls told = record told { read = record told.read { content = Some (running_image g (with_calls r calls) j) } }

-- a group record that gets other bytes among the held deltas, and blocks that go back from a hand, as the journal sees it
abbrev pub as_amended : Geometry → (n : ℕ) → (bytes : List ℕ) → (returned : List BlockNo) → Change
as_amended g n bytes returned = record { deltas = group_delta g n bytes ∷ []; taken = []; freed = []; given_back = numbers_in returned }

abbrev pub journal_amended : Geometry → Journal → (n : ℕ) → (bytes : List ℕ) → (returned : List BlockNo) → Journal
journal_amended g j n bytes returned = record j {
  running = map (amended (4096 * group_start g n) bytes) j.running;
  owners = owner_after g j (as_amended g n bytes returned);
  unspent = j.unspent - (delta_bytes (map (amended (4096 * group_start g n) bytes) j.running) - delta_bytes j.running);
}

-- the blocks of the running version with that record
abbrev pub blocks_amended : Geometry → Record → Journal → (n : ℕ) → (bytes : List ℕ) → Blocks
blocks_amended g r j n bytes = with_part (block (running_image g r j)) (group_start g n) 0 bytes

-- A store that tells the running version amends the record of group n so.
pub record MayGiveBack (g : Geometry) (roles : Roles) (r : Record) (j : Journal) (hands : List Hand) (told : AllTold) (n : ℕ) (bytes : List ℕ) (returned : List BlockNo) (after : List Hand) : Type 0 where
  pub read : IsRead g roles (present_of r) j
  pub tells : TellsRunning g (present_of r) j told
  pub within : n < g.groups
  pub amends : MayAmend (4096 * group_start g n) bytes returned told
  pub sound : Sound g (block (running_image g r j)) hands
  pub sound_after : Sound g (blocks_amended g r j n bytes) after

abbrev pub roles_amended : Geometry → Record → Journal → (n : ℕ) → (bytes : List ℕ) → ℕ → Role
roles_amended g r j n bytes = role_of g (reading_of g (blocks_amended g r j n bytes))

abbrev pub with_returned : Geometry → Volume → (n : ℕ) → (bytes : List ℕ) → (returned : List BlockNo) → List Hand → Volume
with_returned g v n bytes returned after = record v { j = journal_amended g v.j n bytes returned; roles = moved (Changes (roles_amended g v.r v.j n bytes)) v.roles; hands = after }
