-- A file has a block at an index of its pointer block.
use Rattle.std.proofs.Common.{◌<◌, ◌≤◌, ℕ, ◌+◌, Bool, List, take, Some, refl, sym, ap, subst, arith}
use Rattle.lufs_base.specs.declared.geometry.Geometry.{Geometry}
use Rattle.volume_model.specs.declared.hand.Hand.{Hand}
use Rattle.volume_model.specs.declared.inode.Dinode.{Dinode}
use Rattle.volume_model.specs.Format.{Image}
use Rattle.volume_model.specs.Sound.{used_inode, size_in_blocks, FileNode, File, attributes_of}
use Rattle.volume_laws.specs.Changes.{with_block}
use Rattle.meta_store.specs.declared.change.Change.{Change}
use Rattle.meta_draft.specs.Drafted.{drafted_blocks}
use Rattle.draft_laws.specs.Drafts.{IsDraft, Draws, links_at}
use Rattle.draft_laws.proofs.FileAttached.{file_block_attached_by_pointer}
use Rattle.file_map.specs.Attached.{with_one_more, with_entry_put, with_block_at, HasPlaceFor}
use Rattle.file_map.proofs.OpenedFiles.{IsOpened}
use Rattle.file_map.proofs.AttachedRecords.{counted, one_more_dinode}
use Rattle.file_map.proofs.AttachedNumbers.{hole_number, some_number}
use Rattle.file_map.proofs.AttachedNodes.{drawn_as, block_as, high_pointers}

pub entry_attached : (g : Geometry) (base : Image) (taken : ℕ → Bool) (old : Change) (hands after : List Hand) (i entry b : ℕ) (d : Dinode) (file : FileNode) → IsDraft g base taken old hands
    → IsOpened g (drafted_blocks old base) hands i d file → HasPlaceFor g base taken old i (12 + entry) b hands after file
    → Draws g base taken old (with_entry_put g old i d entry b) i (Some (File (with_block_at file (12 + entry) (take 4096 (drafted_blocks old base b))))) (links_at g (drafted_blocks old base) i) after
entry_attached g base taken old hands after i entry b d file draft opened place =
    let blocks = drafted_blocks old base in
    let u = used_inode blocks d in
    let bytes = take 4096 (blocks b) in
    let high : 12 ≤ 12 + entry = omega arith in
    let its = place.pointers high in
    let hole = hole_number blocks u (12 + entry) file opened.fields.none_past opened.is.same place.hole in
    let below : 12 + entry < size_in_blocks d.size = subst (λ (n : ℕ). 12 + entry < size_in_blocks n) (ap (λ (f : FileNode). f.size) opened.is.same) place.below in
    let drawn = file_block_attached_by_pointer g base taken old hands after i u (with_one_more d) file draft opened.has (one_more_dinode g.version d opened.dinode opened.few) refl refl
    entry b refl refl (counted d.blocks opened.few) (some_number blocks d file opened.is.same its) below hole place.held place.new in
    drawn_as g base taken old (with_entry_put g old i d entry b) i (with_block (record file { attributes = attributes_of d }) (12 + entry) (Some bytes)) (with_block_at file (12 + entry) bytes)
    (Some d.links) (links_at g blocks i) after
    (block_as file (12 + entry) bytes (attributes_of d) (sym (ap (λ (f : FileNode). f.attributes) opened.is.same)) (high_pointers (12 + entry) file.pointers high its)) opened.links drawn
