-- A file has a block at a direct index.
use Rattle.std.proofs.Common.{◌<◌, ℕ, ◌^◌, List, take, Some, refl, sym, ap, subst}
use Rattle.lufs_base.specs.declared.geometry.Geometry.{Geometry}
use Rattle.std.proofs.Common.{Bool}
use Rattle.volume_model.specs.declared.hand.Hand.{Hand}
use Rattle.volume_model.specs.declared.inode.Dinode.{Dinode}
use Rattle.volume_model.specs.Format.{Image}
use Rattle.volume_model.specs.Sound.{used_inode, size_in_blocks, FileNode, File, attributes_of}
use Rattle.volume_laws.specs.Changes.{with_block}
use Rattle.meta_store.specs.declared.change.Change.{Change}
use Rattle.meta_draft.specs.Drafted.{drafted_blocks}
use Rattle.draft_laws.specs.Drafts.{IsDraft, Draws, links_at}
use Rattle.draft_laws.proofs.FileAttached.{file_block_attached}
use Rattle.file_map.specs.Attached.{with_direct, with_block_put, with_block_at, HasPlaceFor}
use Rattle.file_map.proofs.OpenedFiles.{IsOpened}
use Rattle.file_map.proofs.AttachedRecords.{counted, direct_dinode}
use Rattle.file_map.proofs.AttachedNumbers.{hole_number}
use Rattle.file_map.proofs.AttachedNodes.{drawn_as, block_as, low_pointers}

pub direct_attached : (g : Geometry) (base : Image) (taken : ℕ → Bool) (old : Change) (hands after : List Hand) (i index b : ℕ) (d : Dinode) (file : FileNode) → IsDraft g base taken old hands
    → IsOpened g (drafted_blocks old base) hands i d file → HasPlaceFor g base taken old i index b hands after file → b < 2 ^ 32 → index < 12
    → Draws g base taken old (with_block_put g old i d index b) i (Some (File (with_block_at file index (take 4096 (drafted_blocks old base b))))) (links_at g (drafted_blocks old base) i) after
direct_attached g base taken old hands after i index b d file draft opened place small low =
    let blocks = drafted_blocks old base in
    let u = used_inode blocks d in
    let bytes = take 4096 (blocks b) in
    let hole = hole_number blocks u index file opened.fields.none_past opened.is.same place.hole in
    let below : index < size_in_blocks d.size = subst (λ (n : ℕ). index < size_in_blocks n) (ap (λ (f : FileNode). f.size) opened.is.same) place.below in
    let drawn = file_block_attached g base taken old hands after i u (with_direct d index b) file draft opened.has (direct_dinode g.version index b d opened.dinode opened.few low small) refl refl
    index b refl refl (counted d.blocks opened.few) low below hole place.held place.new in
    drawn_as g base taken old (with_block_put g old i d index b) i (with_block (record file { attributes = attributes_of d }) index (Some bytes)) (with_block_at file index bytes)
    (Some d.links) (links_at g blocks i) after
    (block_as file index bytes (attributes_of d) (sym (ap (λ (f : FileNode). f.attributes) opened.is.same)) (low_pointers index file.pointers low)) opened.links drawn
