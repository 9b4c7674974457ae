-- The records that are read of a content that is told.
use Rattle.std.proofs.Common.{◌≡◌, ◌<◌, ℕ, ◌/◌, ◌%◌, List, take, drop, Option, Some, None, IfSome, option_map, sym, ap, subst, ◌∙◌}
use Rattle.std.specs.Option.{option_flatten}
use Rattle.lufs_base.specs.Layout.{IsGeometry, group_start, inode_address, blocks_of}
use Rattle.lufs_base.specs.declared.geometry.Geometry.{Geometry}
use Rattle.volume_model.specs.declared.inode.Dinode.{Dinode}
use Rattle.volume_model.specs.Format.{Image, block, inodes_of, group_of, dinode_of}
use Rattle.volume_model.specs.Sound.{group_at, inode_at}
use Rattle.volume_laws.proofs.SameReading.{inode_record_block}
use Rattle.cyl_groups.specs.declared.group.Group.{Group}
use Rattle.cyl_groups.specs.Group.{record_of}

-- the record that was read of inode i
pub inode_told : (g read : Geometry) (content : Option Image) (i place size : ℕ) (bytes : List ℕ) (found : Option Dinode) → read ≡ g → place ≡ inode_address read i
    → IfSome content (λ image. bytes ≡ block image (place / 4096)) → size ≡ 128 → found ≡ option_flatten (dinode_of read.version (take size (drop (place % 4096) bytes)))
    → IfSome content (λ image. found ≡ option_flatten (inode_at g (block image) i))
inode_told g read None i place size bytes found geometry at told long value = tt
inode_told g read (Some image) i place size bytes found geometry at told long value =
    value
    ∙ ap (λ (n : ℕ). option_flatten (dinode_of read.version (take n (drop (place % 4096) bytes)))) long
    ∙ ap (λ (xs : List ℕ). option_flatten (dinode_of read.version (take 128 (drop (place % 4096) xs)))) told
    ∙ ap (λ (p : ℕ). option_flatten (dinode_of read.version (take 128 (drop (p % 4096) (block image (p / 4096)))))) at
    ∙ ap (λ (h : Geometry). option_flatten (inode_at h (block image) i)) geometry

-- the block of an inode's record is one of the volume
pub inode_inside : (g read : Geometry) (i place : ℕ) → read ≡ g → IsGeometry g → i < inodes_of g → place ≡ inode_address read i → place / 4096 < blocks_of g
inode_inside g read i place geometry ok within at =
    subst (λ (p : ℕ). p / 4096 < blocks_of g) (sym (at ∙ ap (λ (h : Geometry). inode_address h i) geometry)) (inode_record_block g i ok within).0

-- the record that was read of group n
pub group_told : (g read : Geometry) (content : Option Image) (n b : ℕ) (bytes : List ℕ) (found : Option Group) → read ≡ g → b ≡ group_start read n
    → IfSome content (λ image. bytes ≡ block image b) → option_map record_of found ≡ group_of read n (take 416 bytes)
    → IfSome content (λ image. option_map record_of found ≡ group_at g (block image) n)
group_told g read None n b bytes found geometry place told value = tt
group_told g read (Some image) n b bytes found geometry place told value =
    value
    ∙ ap (λ (xs : List ℕ). group_of read n (take 416 xs)) (told ∙ ap (block image) place)
    ∙ ap (λ (h : Geometry). group_at h (block image) n) geometry
