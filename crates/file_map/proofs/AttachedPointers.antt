-- A file has a pointer block.
use Rattle.std.proofs.Common.{◌≡◌, ◌<◌, ℕ, ◌*◌, ◌/◌, ◌^◌, Bool, List, [], ◌∷◌, set, slice_index, Some, refl, sym, ap, subst, ◌∙◌, arith}
use Rattle.std.proofs.lemmas.List.{get_or-set_same}
use Rattle.lufs_base.specs.Layout.{inode_address}
use Rattle.lufs_base.specs.declared.geometry.Geometry.{Geometry}
use Rattle.volume_model.specs.declared.hand.Hand.{Hand}
use Rattle.volume_model.specs.declared.inode.Dinode.{Dinode}
use Rattle.volume_model.specs.Format.{Image, dinode_bytes}
use Rattle.volume_model.specs.Sound.{Single, used_inode, size_in_blocks, Attributes, FileNode, File, attributes_of}
use Rattle.meta_store.specs.declared.change.Change.{Change}
use Rattle.meta_store.specs.Deltas.{zero_delta, inode_delta}
use Rattle.meta_draft.specs.Drafted.{drafted_blocks, with_delta}
use Rattle.draft_laws.specs.Drafts.{IsDraft, Draws, links_at}
use Rattle.draft_laws.proofs.FileAttached.{file_pointer_attached}
use Rattle.file_map.specs.Attached.{with_pointers, with_pointers_put, LacksPointers, LeavesAllBut}
use Rattle.file_map.proofs.OpenedFiles.{IsOpened}
use Rattle.file_map.proofs.AttachedRecords.{counted, pointers_dinode}
use Rattle.file_map.proofs.AttachedNumbers.{no_number, drafted_elsewhere}
use Rattle.file_map.proofs.AttachedNodes.{drawn_as}

pub pointers_attached : (g : Geometry) (base : Image) (taken : ℕ → Bool) (old : Change) (hands after : List Hand) (i p : ℕ) (d : Dinode) (file : FileNode) → IsDraft g base taken old hands
    → IsOpened g (drafted_blocks old base) hands i d file → LacksPointers g base taken old i p hands after file → p < 2 ^ 32
    → Draws g base taken old (with_pointers_put g old i d p) i (Some (File (record file { pointers = Single ∷ [] }))) (links_at g (drafted_blocks old base) i) after
pointers_attached g base taken old hands after i p d file draft opened lacks small =
    let blocks = drafted_blocks old base in
    let u = used_inode blocks d in
    let none = no_number blocks d file opened.is.same lacks.none in
    let there : slice_index (set d.indirect 0 p) 0 ≡ p = get_or-set_same d.indirect 0 p 0 (omega (arith, opened.dinode.indirect_size)) in
    let above : 12 < size_in_blocks d.size = subst (λ (n : ℕ). 12 < size_in_blocks n) (ap (λ (f : FileNode). f.size) opened.is.same) lacks.above in
    let drawn = file_pointer_attached g base taken old hands after i u (with_pointers d p) file draft opened.has (pointers_dinode g.version p d opened.dinode opened.few small) refl refl
    p refl none there (counted d.blocks opened.few) above lacks.held lacks.new in
    drawn_as g base taken old (with_pointers_put g old i d p) i (record file { attributes = attributes_of d; pointers = Single ∷ [] }) (record file { pointers = Single ∷ [] })
    (Some d.links) (links_at g blocks i) after
    (ap (λ (a : Attributes). record file { attributes = a; pointers = Single ∷ [] }) (sym (ap (λ (f : FileNode). f.attributes) opened.is.same))) opened.links drawn

-- it leaves all other blocks
pub pointers_elsewhere : (g : Geometry) (old new : Change) (i p : ℕ) (d : Dinode) → new ≡ with_pointers_put g old i d p → LeavesAllBut p (inode_address g i / 4096) old new
pointers_elsewhere g old new i p d put base e away beside =
    let zeros = zero_delta p in
    let at : (4096 * p) / 4096 ≡ p = omega arith in
    ap (λ (c : Change). drafted_blocks c base e) put
    ∙ drafted_elsewhere (with_delta old zeros) (inode_delta g i (dinode_bytes (Some (with_pointers d p)))) base e beside
    ∙ drafted_elsewhere old zeros base e (λ same. away (same ∙ at))
