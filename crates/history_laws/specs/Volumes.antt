-- All that a mounted volume is at a moment, and what it keeps.
use Rattle.std.specs.Prelude.{◌≡◌, ◌≤◌, ◌<◌, ℕ, List, [], length, Some}
use Rattle.std.specs.List.{AllByRecursion}
use Rattle.lufs_base.specs.declared.geometry.Geometry.{Geometry}
use Rattle.volume_model.specs.declared.hand.Hand.{Hand}
use Rattle.volume_model.specs.Format.{Image, block, geometry_of}
use Rattle.volume_model.specs.Crash.{Record, Outcome, present_of}
use Rattle.volume_model.specs.Sound.{Reading, Sound, Tree, tree_of, shape_of}
use Rattle.history_model.specs.Histories.{History, replay_of, Legal}
use Rattle.history_model.specs.CrashSafety.{IsCrashSafeAt}
use Rattle.journal_model.specs.Journals.{Journal}
use Rattle.journal_model.specs.Versions.{Version, Published, Running, content_of}
use Rattle.journal_model.specs.BlockRoles.{Roles}
use Rattle.journal_model.specs.Safety.{IsSafe}
use Rattle.history_laws.specs.KeptBytes.{AreBytesKept, AreToldPublished}
use Rattle.history_laws.specs.Published.{AreRolesOf, reading_in, IsPublishedAs, IsSealedBefore}

pub record Volume : Type 0 where
  -- the disk: how it stood, and its listed calls
  pub r : Record
  pub j : Journal
  pub roles : Roles
  pub h : History
  -- by version, how many entries it holds
  pub held : Version → ℕ
  -- what the calls that are inside have taken and not used
  pub hands : List Hand

-- what the records of each version say
abbrev pub readings_of : Geometry → Volume → Version → Reading
readings_of g v = reading_in g v.j (present_of v.r)

-- The running version is sound while these are in hand, its tree has this shape, and its blocks have the roles of what is
-- read of it.
pub record IsRunningAs (g : Geometry) (roles : Roles) (home : Image) (j : Journal) (hands : List Hand) (shape : Tree) : Type 0 where
  pub sound : Sound g (block (content_of g j Running home)) hands
  pub has : shape_of (tree_of g (block (content_of g j Running home))) ≡ shape
  pub read : AreRolesOf g (roles Running) (reading_in g j home Running)

-- What a volume keeps, in a session that began after the first so many listed calls, on this tree.
pub record KeepsHistory (g : Geometry) (moment : ℕ) (opening : Tree) (first : ℕ) (v : Volume) : Type 0 where
  -- the journal is safe
  pub safe : IsSafe g v.roles v.r v.j
  -- the versions stand for trees of the history
  pub versions : IsPublishedAs g moment opening v.h v.roles (present_of v.r) v.j v.held
  pub running : IsRunningAs g v.roles (present_of v.r) v.j v.hands (shape_of (replay_of g moment opening v.h.entries (v.held Running)))
  -- and keep the bytes of files
  pub bytes : AreBytesKept g moment opening v.h.entries v.r (readings_of g v) v.held
  -- what was told of synchronous entries is published
  pub told : AreToldPublished v.h.entries (v.held Published)
  pub sealed : IsSealedBefore v.h.entries (length v.r.calls) v.held v.j.sealed
  -- nothing is in hand while no call is inside
  pub idle : v.j.members ≡ 0 → v.hands ≡ []
  -- the history is legal, and its commits are of entries that it has
  pub legal : Legal g moment opening v.h.entries
  pub within : AllByRecursion (λ c. c.boundary ≤ length v.h.entries) v.h.commits
  -- each earlier moment of the session is crash safe, and what a crash then leaves has the geometry
  pub earlier : (n : ℕ) → first ≤ n → n < length v.r.calls → IsCrashSafeAt g moment opening v.h v.r n
  pub geometry : (n : ℕ) (image : Image) → first ≤ n → n < length v.r.calls → Outcome v.r n image → geometry_of image ≡ Some g
