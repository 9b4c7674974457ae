-- What a new volume is: on the disk, and as a tree, which has the root alone.
use Rattle.std.specs.Prelude.{◌≤◌, ℕ, ◌*◌, ◌==◌, if◌then◌else◌, [], ◌∷◌, Some, None, IfSome}
use Rattle.lufs_base.specs.Layout.{blocks_of}
use Rattle.lufs_base.specs.declared.geometry.Geometry.{Geometry}
use Rattle.volume_model.specs.Format.{new_directory}
use Rattle.volume_model.specs.MkfsImage.{IsMkfsImage}
use Rattle.volume_model.specs.Sound.{Opens, Node, Directory, Tree}
use Rattle.volume_model.specs.Crash.{IsSettled}
use Rattle.sector_disk.specs.Disk.{DiskTold}

-- The disk has room for the volume and holds what a new one, made at this moment, makes of what it held, which opens;
-- nothing is pending.
pub record HoldsNewVolume (g : Geometry) (moment : ℕ) (old new : DiskTold) : Type 0 where
  pub room : 8 * blocks_of g ≤ new.sectors
  pub made : IfSome old.present (λ before. IfSome new.present (IsMkfsImage g moment before))
  pub opens : IfSome new.present Opens
  pub settled : IfSome new.listed IsSettled

-- a directory of mode 755 whose one chunk names itself, twice, made at this moment
abbrev pub new_root : ℕ → Node
new_root moment = Directory (record { attributes = record { rights = 0x1ed; uid = 0; gid = 0; mtime = moment }; chunks = new_directory 2 2 ∷ [] })

-- inode 2 is the root, and no other is in use
abbrev pub new_tree : ℕ → Tree
new_tree moment i = if i == 2 then Some (new_root moment) else None
