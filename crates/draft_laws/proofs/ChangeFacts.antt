-- The steps of plans as changes of one inode.
use Rattle.std.proofs.Common.{◌≡◌, ◌<◌, ◌≤◌, ℕ, ◌*◌, ◌/◌, ◌%◌, true, List, [], ◌∷◌, length, take, slice_index, Some, None}
use Rattle.std.specs.Prelude.{slice_set}
use Rattle.lufs_base.specs.Layout.{IsGeometry}
use Rattle.lufs_base.specs.declared.geometry.Geometry.{Geometry}
use Rattle.volume_model.specs.declared.hand.Hand.{Hand}
use Rattle.volume_model.specs.declared.inode.Dinode.{Dinode}
use Rattle.volume_model.specs.declared.directory.Slot.{Slot}
use Rattle.volume_model.specs.Format.{Blocks, is_file, is_directory, is_link, chunk_of}
use Rattle.volume_model.specs.Sound.{UsedInode, InUse, Unused, reading_of, used_inode, IsStored, chunk_at, DirectoryNode, Node, File, Directory, Link, attributes_of}
use Rattle.volume_laws.specs.Changes.{AgreeWhereReadBut, with_chunk}
use Rattle.change_laws.specs.Exchange.{claimed_blocks}
use Rattle.change_laws.specs.Plans.{HasInode, ChangesInode, WritesRecord, KeepsBlocks, HasJustBlocks, HoldMore, with_attributes}
use Rattle.change_laws.proofs.AttributeSteps.{set_reading, set_stored, set_tree}
use Rattle.change_laws.proofs.ChunkSteps.{chunk_reading, chunk_stored, chunk_tree}
use Rattle.change_laws.proofs.NewNodes.{made_reading, file_stored, file_tree, directory_stored, directory_tree, link_stored, link_tree, freed_reading, freed_stored, freed_tree}

pub attributes_set : (g : Geometry) (blocks others : Blocks) (i : ℕ) (u : UsedInode) (d : Dinode) (node : Node) (hands : List Hand) → HasInode g blocks hands i u node
    → WritesRecord g blocks others i (Some d) → KeepsBlocks u.inode d
    → ChangesInode g blocks others i (InUse (record u { inode = d })) (Some (with_attributes (attributes_of d) node)) hands
attributes_set g blocks others i u d node hands has writes keeps = record {
  reading = set_reading g blocks others i u d hands has.geometry has.stored has.used writes keeps;
  stored = set_stored g blocks others i u d hands has.geometry has.stored has.used writes keeps;
  tree = set_tree g blocks others i u d hands has.geometry has.stored has.used writes keeps node has.stands;
}

pub chunk_replaced : (g : Geometry) (blocks others : Blocks) (i k : ℕ) (u : UsedInode) (directory : DirectoryNode) (slots : List Slot) (hands : List Hand)
    → HasInode g blocks hands i u (Directory directory) → k < length directory.chunks
    → AgreeWhereReadBut g blocks others (slice_index u.numbers (k / 8)) (512 * (k % 8)) 512 → chunk_at others u.numbers k ≡ Some slots
    → ChangesInode g blocks others i (InUse (with_chunk u k (Some slots))) (Some (Directory (record directory { chunks = slice_set directory.chunks k slots }))) hands
chunk_replaced g blocks others i k u directory slots hands has below agree there = record {
  reading = chunk_reading g blocks others i k u directory slots hands has.geometry has.stored has.used has.stands below agree there;
  stored = chunk_stored g blocks others i k u directory slots hands has.geometry has.stored has.used has.stands below agree there;
  tree = chunk_tree g blocks others i k u directory slots hands has.geometry has.stored has.used has.stands below agree there;
}

pub file_made : (g : Geometry) (blocks others : Blocks) (i : ℕ) (d : Dinode) (hands after : List Hand) → IsGeometry g → IsStored g (reading_of g blocks) hands
    → HoldMore hands after (i ∷ []) [] → WritesRecord g blocks others i (Some d) → HasJustBlocks d [] → is_file d.mode ≡ true → d.size ≡ 0
    → ChangesInode g blocks others i (InUse (used_inode others d)) (Some (File (record { attributes = attributes_of d; size = 0; blocks = []; pointers = [] }))) after
file_made g blocks others i d hands after ok stored more writes just file size = record {
  reading = made_reading g blocks others i d hands ok stored writes;
  stored = file_stored g blocks others i d hands after ok stored more writes just file size;
  tree = file_tree g blocks others i d hands after ok stored more writes just file size;
}

pub directory_made : (g : Geometry) (blocks others : Blocks) (i b : ℕ) (d : Dinode) (slots : List Slot) (hands after : List Hand) → IsGeometry g → IsStored g (reading_of g blocks) hands
    → HoldMore hands after (i ∷ []) (b ∷ []) → WritesRecord g blocks others i (Some d) → HasJustBlocks d (b ∷ []) → is_directory d.mode ≡ true → d.size ≡ 512
    → chunk_of (take 512 (others b)) ≡ Some slots
    → ChangesInode g blocks others i (InUse (used_inode others d)) (Some (Directory (record { attributes = attributes_of d; chunks = slots ∷ [] }))) after
directory_made g blocks others i b d slots hands after ok stored more writes just directory size there = record {
  reading = made_reading g blocks others i d hands ok stored writes;
  stored = directory_stored g blocks others i b d hands after ok stored more writes just slots directory size there;
  tree = directory_tree g blocks others i b d hands after ok stored more writes just slots directory size there;
}

pub link_made : (g : Geometry) (blocks others : Blocks) (i b : ℕ) (d : Dinode) (hands after : List Hand) → IsGeometry g → IsStored g (reading_of g blocks) hands
    → HoldMore hands after (i ∷ []) (b ∷ []) → WritesRecord g blocks others i (Some d) → HasJustBlocks d (b ∷ []) → is_link d.mode ≡ true → 1 ≤ d.size → d.size ≤ 1024
    → ChangesInode g blocks others i (InUse (used_inode others d)) (Some (Link (record { attributes = attributes_of d; text = take d.size (others b) }))) after
link_made g blocks others i b d hands after ok stored more writes just link some few = record {
  reading = made_reading g blocks others i d hands ok stored writes;
  stored = link_stored g blocks others i b d hands after ok stored more writes just link some few;
  tree = link_tree g blocks others i b d hands after ok stored more writes just link some few;
}

pub inode_freed : (g : Geometry) (blocks others : Blocks) (i : ℕ) (u : UsedInode) (node : Node) (hands after : List Hand) → HasInode g blocks hands i u node
    → WritesRecord g blocks others i None → HoldMore after hands (i ∷ []) (claimed_blocks i (Some u)) → ChangesInode g blocks others i Unused None after
inode_freed g blocks others i u node hands after has writes more = record {
  reading = freed_reading g blocks others i hands has.geometry has.stored writes;
  stored = freed_stored g blocks others i hands has.geometry has.stored writes u after has.used more;
  tree = freed_tree g blocks others i hands has.geometry has.stored writes;
}
