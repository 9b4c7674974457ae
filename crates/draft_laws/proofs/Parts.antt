-- What inodes with the same claims, type and sizes keep.
use Rattle.std.proofs.Common.{◌≡◌, ℕ, ◌-◌, ◌*◌, ◌/◌, min, Bool, cond, length, refl, arith}
use Rattle.std.specs.List.{Contains}
use Rattle.lufs_base.specs.declared.delta.DeltaKind.{DeltaKind}
use Rattle.lufs_base.specs.declared.delta.DeltaKind.TheVariants.{Group, Inode, Chunk, Pointers, Zero, LinkText, Cancel}
use Rattle.volume_model.specs.Sound.{UsedInode, Part, AtIndex, AtPointer, Claim, claims_in}
use Rattle.change_laws.proofs.InodeRights.{same_file, same_directory, same_link}
use Rattle.meta_store.specs.Suited.{suits_part}
use Rattle.draft_laws.proofs.MetadataLengths.{metadata_of_part}
use Rattle.draft_laws.proofs.OneInodeStep.{KeepsPart}

-- deltas of the same kinds may lie on the parts of inodes of one type
pub same_kinds : (u v : UsedInode) → v.inode.mode / 512 ≡ u.inode.mode / 512 → (part : Part) (kind : DeltaKind) → suits_part kind v part ≡ suits_part kind u part
same_kinds u v type part Group = refl
same_kinds u v type part Inode = refl
same_kinds u v type (AtIndex index) Chunk = same_directory v.inode.mode u.inode.mode type
same_kinds u v type (AtPointer name) Chunk = refl
same_kinds u v type (AtIndex index) Pointers = refl
same_kinds u v type (AtPointer name) Pointers = refl
same_kinds u v type (AtIndex index) Zero = same_directory v.inode.mode u.inode.mode type
same_kinds u v type (AtPointer name) Zero = refl
same_kinds u v type (AtIndex index) LinkText = same_link v.inode.mode u.inode.mode type
same_kinds u v type (AtPointer name) LinkText = refl
same_kinds u v type part Cancel = refl

-- how many bytes of a part are metadata, by type and sizes
abbrev length_by : (file directory : Bool) → (chunks size index : ℕ) → ℕ
length_by file directory chunks size index = cond file 0 (cond file 4096 (cond directory (512 * min 8 (chunks - 8 * index)) (size - 4096 * index)))

pub same_length : (u v : UsedInode) → v.inode.mode / 512 ≡ u.inode.mode / 512 → length v.chunks ≡ length u.chunks → v.inode.size ≡ u.inode.size → (part : Part)
    → metadata_of_part v part ≡ metadata_of_part u part
same_length u v type chunks size (AtIndex index) =
    (λ t. length_by (same_file v.inode.mode u.inode.mode type t) (same_directory v.inode.mode u.inode.mode type t) (chunks t) (size t) index)
same_length u v type chunks size (AtPointer name) = refl

pub same_part : (i : ℕ) (u v : UsedInode) (claim : Claim) → Contains (claims_in i v) claim → v.inode.mode / 512 ≡ u.inode.mode / 512 → length v.chunks ≡ length u.chunks → v.inode.size ≡ u.inode.size
    → KeepsPart i u v claim
same_part i u v claim there type chunks size =
    let is = same_length u v type chunks size claim.part in
    record { there = there; kinds = same_kinds u v type claim.part; longer = omega (arith, is); same = λ _. is }
