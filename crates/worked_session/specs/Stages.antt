-- Where a session of the worked new volume has come to, between two of its steps.
use Rattle.std.specs.Prelude.{◌≡◌, ℕ, true, List, []}
use Rattle.volume_model.specs.Format.{Blocks, block}
use Rattle.volume_model.specs.Crash.{Record, present_of}
use Rattle.volume_model.specs.Sound.{is_among}
use Rattle.volume_model.specs.Worked.{smallest}
use Rattle.history_model.specs.Histories.{History}
use Rattle.history_model.specs.WorkedTrees.{new_tree}
use Rattle.journal_model.specs.Journals.{Journal}
use Rattle.journal_model.specs.Versions.{Version, Running}
use Rattle.journal_model.specs.BlockRoles.{Metadata, Roles}
use Rattle.history_laws.specs.Volumes.{Volume}
use Rattle.history_laws.specs.VolumeSteps.{VolumeStep}
use Rattle.history_laws.specs.Sessions.{Session}
use Rattle.history_laws.specs.WorkedSession.{new_disk}
use Rattle.store_laws.specs.Tied.{IsRead, running_image}

abbrev pub at_volume : Record → Journal → Roles → History → (Version → ℕ) → Volume
at_volume r j roles h held = record { r = r; j = j; roles = roles; h = h; held = held; hands = [] }

-- steps of the volume lead from one to another
pub data Leads (from : Volume) : Volume → Type 0 where
  Here : Leads from from
  Goes : (v w : Volume) → Leads from v → VolumeStep smallest 1000 new_tree v w → Leads from w

-- A session has come to a volume with this journal and this history, by way of another one, while nothing is in hand. In the running
-- version these blocks have the bytes of the map, and are metadata.
pub record Stage (from : Volume) (j : Journal) (h : History) (held : Version → ℕ) (map_of : Blocks) (those : List ℕ) : Type 0 where
  pub r : Record
  pub roles : Roles
  pub session : Session smallest 1000 new_tree new_disk (at_volume r j roles h held)
  pub since : Leads from (at_volume r j roles h held)
  pub read : IsRead smallest roles (present_of r) j
  pub blocks : (b : ℕ) → is_among b those ≡ true → block (running_image smallest r j) b ≡ map_of b
  pub metadata : (b : ℕ) → is_among b those ≡ true → roles Running b ≡ Metadata 4096
