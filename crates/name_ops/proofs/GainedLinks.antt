-- What a draft is after an inode got a link in its record.
use Rattle.std.proofs.Common.{◌≡◌, ◌<◌, ◌≤◌, ◌+◌, ℕ, Bool, false, List, Option, Some, None, IfSome, refl, sym, ap, ◌∙◌, subst, arith}
use Rattle.std.specs.Prelude.{nat_lt}
use Rattle.std.specs.Option.{option_map, option_and_then, option_flatten}
use Rattle.std.proofs.lemmas.Bool.{ltb-false}
use Rattle.std.proofs.lemmas.Option.{slice_get_past}
use Rattle.lufs_base.specs.declared.geometry.Geometry.{Geometry}
use Rattle.volume_model.specs.declared.hand.Hand.{Hand}
use Rattle.volume_model.specs.declared.inode.Dinode.{Dinode}
use Rattle.volume_model.specs.Format.{Blocks, Image, inodes_of, IsDinode, dinode_bytes}
use Rattle.volume_model.specs.Sound.{UsedInode, InodeState, used_of, reading_of, inode_at, used_inode, used_at, Attributes, Node, with_node, attributes_of, node_of, tree_of}
use Rattle.volume_laws.specs.Nodes.{attributes_of_node}
use Rattle.volume_laws.proofs.ClaimFacts.{length-inodes, used_in_volume}
use Rattle.volume_laws.proofs.SameReading.{used_from_record}
use Rattle.volume_laws.proofs.NodeFacts.{node_in_tree}
use Rattle.volume_laws.proofs.NodeFields.{attributes_of_its_node}
use Rattle.change_laws.specs.Plans.{HasInode, KeepsBlocks, with_attributes}
use Rattle.meta_store.specs.declared.change.Change.{Change}
use Rattle.meta_store.specs.Deltas.{inode_delta}
use Rattle.meta_draft.specs.Drafted.{drafted_blocks, with_delta}
use Rattle.draft_laws.specs.Drafts.{IsDraft, links_at}
use Rattle.draft_laws.proofs.RecordSteps.{attributes_drawn}
use Rattle.name_ops.specs.GainedNames.{HasLinkMore}
use Rattle.name_ops.proofs.LostLinks.{no_record, its_record, same_attributes, same_tree, IsRecordRead}

abbrev pub more : Dinode → Dinode
more d = record d { links = d.links + 1 }

more_dinode : (version : ℕ) (d : Dinode) → IsDinode version d → d.links + 1 < 65536 → IsDinode version (more d)
more_dinode version d is room = record {
  mode = is.mode;
  links_fits = omega (arith, room);
  uid_fits = is.uid_fits;
  gid_fits = is.gid_fits;
  size_fits = is.size_fits;
  mtime_fits = is.mtime_fits;
  direct_size = is.direct_size;
  direct_fits = is.direct_fits;
  indirect_size = is.indirect_size;
  indirect_fits = is.indirect_fits;
  blocks_fits = is.blocks_fits;
  indirect_in_version = is.indirect_in_version;
}

module _ (g : Geometry) (base : Image) (taken : ℕ → Bool) (old : Change) (hands : List Hand) (i : ℕ) (draft : IsDraft g base taken old hands) where
  abbrev blocks : Blocks
  blocks = drafted_blocks old base

  unused_more : used_at (reading_of g blocks) i ≡ None → HasLinkMore g base taken old old i hands
  unused_more unused = record {
    draft = draft;
    tree = refl;
    own_links = ap (option_map (λ u. u.inode.links)) unused ∙ sym (ap (λ (o : Option UsedInode). option_map (λ links. links + 1) (option_map (λ u. u.inode.links) o)) unused);
    others = λ k other. refl;
  }

  past_more : inodes_of g ≤ i → HasLinkMore g base taken old old i hands
  past_more past =
      unused_more (ap (λ (o : Option InodeState). option_and_then used_of o) (slice_get_past (reading_of g blocks).inodes i (omega (arith, past, length-inodes g blocks))))

  none_more : i < inodes_of g → None ≡ option_flatten (inode_at g blocks i) → HasLinkMore g base taken old old i hands
  none_more within none = unused_more (used_in_volume g blocks i within ∙ no_record blocks (inode_at g blocks i) none)

  module _ (d : Dinode) (within : i < inodes_of g) (read : Some d ≡ option_flatten (inode_at g blocks i)) where
    used : used_at (reading_of g blocks) i ≡ Some (used_inode blocks d)
    used = used_from_record g blocks i d within (its_record (inode_at g blocks i) d read)

    pub links_are : links_at g blocks i ≡ Some d.links
    links_are = ap (option_map (λ u. u.inode.links)) used

    record_more : IsDinode g.version (more d) → HasLinkMore g base taken old (with_delta old (inode_delta g i (dinode_bytes (Some (more d))))) i hands
    record_more is =
        let u = used_inode blocks d in
        let node = node_of blocks u in
        let stands = node_in_tree g blocks i u used in
        let inode : HasInode g blocks hands i u node = record { geometry = draft.geometry; stored = draft.stored; used = used; stands = stands } in
        let keeps : KeepsBlocks d (more d) = record { type = refl; size = refl; direct = refl; indirect = refl; blocks = refl } in
        let draws = attributes_drawn g base taken old hands i u (more d) node draft inode is keeps in
        let own : attributes_of d ≡ attributes_of_node node = attributes_of_its_node g blocks i u node used stands in
        let same : with_attributes (attributes_of d) node ≡ node = ap (λ (a : Attributes). with_attributes a node) own ∙ same_attributes node in
        record {
          draft = draws.draft;
          tree = draws.tree ∙ ap (λ (n : Node). with_node (tree_of g blocks) i (Some n)) same ∙ same_tree (tree_of g blocks) i (Some node) stands;
          own_links = draws.own_links ∙ sym (ap (option_map (λ links. links + 1)) links_are);
          others = draws.others;
        }

-- of each draft of the content that is told, in which the record has room for a link
abbrev pub GainsInDrafts : Option Image → Geometry → (old new : Change) → (i : ℕ) → Type 0
GainsInDrafts content g old new i = IfSome content (λ base. (taken : ℕ → Bool) (hands : List Hand) → IsDraft g base taken old hands
    → IfSome (links_at g (drafted_blocks old base) i) (λ links. links + 1 < 65536) → HasLinkMore g base taken old new i hands)

pub told_past : (content : Option Image) (g : Geometry) (old : Change) (i : ℕ) → nat_lt i (inodes_of g) ≡ false → GainsInDrafts content g old old i
told_past None g old i past = tt
told_past (Some base) g old i past = λ taken hands draft room. past_more g base taken old hands i draft (ltb-false i (inodes_of g) past)

pub told_unused : (content : Option Image) (g : Geometry) (old : Change) (i : ℕ) → i < inodes_of g → IsRecordRead content g old i None → GainsInDrafts content g old old i
told_unused None g old i within read = tt
told_unused (Some base) g old i within read = λ taken hands draft room. none_more g base taken old hands i draft within read

pub told_full : (content : Option Image) (g : Geometry) (old : Change) (i : ℕ) (d : Dinode) → i < inodes_of g → IsRecordRead content g old i (Some d) → d.links ≡ 65535 → GainsInDrafts content g old old i
told_full None g old i d within read full = tt
told_full (Some base) g old i d within read full = λ taken hands draft room.
    let left : d.links + 1 < 65536 = subst (λ (o : Option ℕ). IfSome o (λ links. links + 1 < 65536)) (links_are g base taken old hands i draft d within read) room in
    absurd (omega (arith, left, full))

pub told_more : (content : Option Image) (g h : Geometry) (old new : Change) (i : ℕ) (d : Dinode) → h ≡ g → i < inodes_of g → IsRecordRead content g old i (Some d) → IsDinode g.version d
    → new ≡ with_delta old (inode_delta h i (dinode_bytes (Some (more d)))) → GainsInDrafts content g old new i
told_more None g h old new i d same within read is put = tt
told_more (Some base) g h old new i d same within read is put = λ taken hands draft room.
    let left : d.links + 1 < 65536 = subst (λ (o : Option ℕ). IfSome o (λ links. links + 1 < 65536)) (links_are g base taken old hands i draft d within read) room in
    subst (λ (c : Change). HasLinkMore g base taken old c i hands) (sym (put ∙ ap (λ (k : Geometry). with_delta old (inode_delta k i (dinode_bytes (Some (more d))))) same))
    (record_more g base taken old hands i draft d within read (more_dinode g.version d is left))
