-- What the delta of a record writes.
use Rattle.std.proofs.Common.{◌≡◌, ◌<◌, ℕ, ◌/◌, ◌%◌, take, Option, Some, None, refl, ap, ◌∙◌}
use Rattle.lufs_base.specs.Layout.{IsGeometry, inode_address}
use Rattle.lufs_base.specs.declared.geometry.Geometry.{Geometry}
use Rattle.volume_model.specs.declared.inode.Dinode.{Dinode}
use Rattle.volume_model.specs.Format.{Blocks, inodes_of, dinode_of, dinode_bytes}
use Rattle.volume_model.specs.Sound.{reading_of, read_length}
use Rattle.volume_laws.proofs.InodeRecords.{inode_back, free_back}
use Rattle.change_laws.specs.Plans.{WritesRecord}
use Rattle.meta_store.specs.Deltas.{inode_delta}
use Rattle.draft_laws.specs.Laying.{with_laid}
use Rattle.draft_laws.proofs.Contents.{AreSized, agree_but, agree_through, there}
use Rattle.draft_laws.proofs.RecordDeltas.{IsRecord, inode_loggable}

pub record_back : (g : Geometry) (d : Option Dinode) → IsRecord g d → dinode_of g.version (dinode_bytes d) ≡ Some d
record_back g None is = free_back g.version
record_back g (Some d) is = inode_back g.version d is

-- over blocks that agree with the first ones where these are read
pub writes_over : (g : Geometry) (blocks middle : Blocks) (i : ℕ) (d : Option Dinode) → IsGeometry g → i < inodes_of g → IsRecord g d → AreSized g middle
    → ((c : ℕ) → take (read_length g (reading_of g blocks) c) (middle c) ≡ take (read_length g (reading_of g blocks) c) (blocks c))
    → WritesRecord g blocks (with_laid middle (inode_delta g i (dinode_bytes d))) i d
writes_over g blocks middle i d ok within is sized unread =
    let delta = inode_delta g i (dinode_bytes d) in
    let own = inode_loggable g i d ok within is in
    record {
      within = within;
      agree = agree_through (read_length g (reading_of g blocks)) blocks middle (with_laid middle delta) (inode_address g i / 4096) (inode_address g i % 4096) 128 unread
          (agree_but g middle delta sized own refl (read_length g (reading_of g blocks)));
      there = ap (dinode_of g.version) (there g middle delta sized own refl) ∙ record_back g d is;
    }

pub writes_it : (g : Geometry) (blocks : Blocks) (i : ℕ) (d : Option Dinode) → IsGeometry g → i < inodes_of g → IsRecord g d → AreSized g blocks
    → WritesRecord g blocks (with_laid blocks (inode_delta g i (dinode_bytes d))) i d
writes_it g blocks i d ok within is sized = writes_over g blocks blocks i d ok within is sized (λ c. refl)
