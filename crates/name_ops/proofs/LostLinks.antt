-- What a draft is after an inode lost a link in its record.
use Rattle.std.proofs.Common.{◌≡◌, ◌<◌, ◌≤◌, ◌+◌, ◌-◌, inl, inr, ℕ, Bool, false, List, Option, Some, None, IfSome, refl, sym, ap, ◌∙◌, subst, arith}
use Rattle.std.specs.Prelude.{nat_lt}
use Rattle.std.specs.Option.{option_map, option_and_then, option_flatten}
use Rattle.std.proofs.lemmas.Bool.{cases_eq, ltb-false}
use Rattle.std.proofs.lemmas.Option.{slice_get_past}
use Rattle.lufs_base.specs.declared.geometry.Geometry.{Geometry}
use Rattle.volume_model.specs.declared.hand.Hand.{Hand}
use Rattle.volume_model.specs.declared.inode.Dinode.{Dinode}
use Rattle.volume_model.specs.Format.{Blocks, Image, block, inodes_of, IsDinode, dinode_bytes}
use Rattle.volume_model.specs.Sound.{UsedInode, InodeState, used_of, state_of, reading_of, inode_at, used_inode, used_at, Attributes, Node, File, Directory, Link, Tree, with_node, attributes_of, node_of, tree_of}
use Rattle.volume_laws.specs.Nodes.{attributes_of_node}
use Rattle.volume_laws.proofs.ClaimFacts.{length-inodes, used_in_volume}
use Rattle.volume_laws.proofs.SameReading.{used_from_record}
use Rattle.volume_laws.proofs.NodeFacts.{node_in_tree}
use Rattle.volume_laws.proofs.NodeFields.{attributes_of_its_node}
use Rattle.history_rules.proofs.NodeLaws.{with_node-here, with_node-other}
use Rattle.change_laws.specs.Plans.{HasInode, KeepsBlocks, with_attributes}
use Rattle.meta_store.specs.declared.change.Change.{Change}
use Rattle.meta_store.specs.Changes.{changed}
use Rattle.meta_store.specs.Deltas.{inode_delta}
use Rattle.meta_draft.specs.Drafted.{drafted_blocks, with_delta}
use Rattle.draft_laws.specs.Drafts.{IsDraft}
use Rattle.draft_laws.proofs.RecordSteps.{attributes_drawn}
use Rattle.name_ops.specs.LostNames.{HasLinkLess}

pub no_record : (blocks : Blocks) (o : Option (Option Dinode)) → None ≡ option_flatten o → used_of (state_of blocks o) ≡ None
no_record blocks None is = refl
no_record blocks (Some None) is = refl
no_record blocks (Some (Some d)) is = absurd (let e : None ≡ Some d = is in cc)

pub its_record : (o : Option (Option Dinode)) (d : Dinode) → Some d ≡ option_flatten o → o ≡ Some (Some d)
its_record None d is = absurd (let e : Some d ≡ None = is in cc)
its_record (Some None) d is = absurd (let e : Some d ≡ None = is in cc)
its_record (Some (Some e)) d is = ap (λ (o : Option Dinode). Some o) (sym is)

-- a node with its own attributes, and a tree with its own node
pub same_attributes : (node : Node) → with_attributes (attributes_of_node node) node ≡ node
same_attributes (File file) = refl
same_attributes (Directory directory) = refl
same_attributes (Link link) = refl

pub same_tree : (tree : Tree) (i : ℕ) (node : Option Node) → tree i ≡ node → with_node tree i node ≡ tree
same_tree tree i node is = λ t k. at k t
  where
    at : (k : ℕ) → with_node tree i node k ≡ tree k
    at k = elim (cases_eq k i) [
      | inl same ↦ ap (with_node tree i node) same ∙ with_node-here tree i node ∙ sym is ∙ ap tree (sym same)
      | inr other ↦ with_node-other tree i k node other
    ]

abbrev pub less : Dinode → Dinode
less d = record d { links = d.links - 1 }

less_dinode : (version : ℕ) (d : Dinode) → IsDinode version d → IsDinode version (less d)
less_dinode version d is = record {
  mode = is.mode;
  links_fits = omega (arith, is.links_fits);
  uid_fits = is.uid_fits;
  gid_fits = is.gid_fits;
  size_fits = is.size_fits;
  mtime_fits = is.mtime_fits;
  direct_size = is.direct_size;
  direct_fits = is.direct_fits;
  indirect_size = is.indirect_size;
  indirect_fits = is.indirect_fits;
  blocks_fits = is.blocks_fits;
  indirect_in_version = is.indirect_in_version;
}

module _ (g : Geometry) (base : Image) (taken : ℕ → Bool) (old : Change) (hands : List Hand) (i : ℕ) (draft : IsDraft g base taken old hands) where
  abbrev blocks : Blocks
  blocks = drafted_blocks old base

  unused_less : used_at (reading_of g blocks) i ≡ None → HasLinkLess g base taken old old i hands
  unused_less unused = record {
    draft = draft;
    tree = refl;
    own_links = ap (option_map (λ u. u.inode.links)) unused ∙ sym (ap (λ (o : Option UsedInode). option_map (λ links. links - 1) (option_map (λ u. u.inode.links) o)) unused);
    others = λ k other. refl;
  }

  past_less : inodes_of g ≤ i → HasLinkLess g base taken old old i hands
  past_less past =
      unused_less (ap (λ (o : Option InodeState). option_and_then used_of o) (slice_get_past (reading_of g blocks).inodes i (omega (arith, past, length-inodes g blocks))))

  none_less : i < inodes_of g → None ≡ option_flatten (inode_at g blocks i) → HasLinkLess g base taken old old i hands
  none_less within none = unused_less (used_in_volume g blocks i within ∙ no_record blocks (inode_at g blocks i) none)

  record_less : (d : Dinode) → i < inodes_of g → Some d ≡ option_flatten (inode_at g blocks i) → IsDinode g.version (less d)
      → HasLinkLess g base taken old (with_delta old (inode_delta g i (dinode_bytes (Some (less d))))) i hands
  record_less d within read is =
      let u = used_inode blocks d in
      let node = node_of blocks u in
      let used = used_from_record g blocks i d within (its_record (inode_at g blocks i) d read) in
      let stands = node_in_tree g blocks i u used in
      let inode : HasInode g blocks hands i u node = record { geometry = draft.geometry; stored = draft.stored; used = used; stands = stands } in
      let keeps : KeepsBlocks d (less d) = record { type = refl; size = refl; direct = refl; indirect = refl; blocks = refl } in
      let draws = attributes_drawn g base taken old hands i u (less d) node draft inode is keeps in
      let own : attributes_of d ≡ attributes_of_node node = attributes_of_its_node g blocks i u node used stands in
      let same : with_attributes (attributes_of d) node ≡ node = ap (λ (a : Attributes). with_attributes a node) own ∙ same_attributes node in
      record {
        draft = draws.draft;
        tree = draws.tree ∙ ap (λ (n : Node). with_node (tree_of g blocks) i (Some n)) same ∙ same_tree (tree_of g blocks) i (Some node) stands;
        own_links = draws.own_links ∙ sym (ap (λ (o : Option UsedInode). option_map (λ links. links - 1) (option_map (λ v. v.inode.links) o)) used);
        others = draws.others;
      }

-- the links of a record with one less
pub one_less : (o : Option ℕ) (before now : ℕ) → now + 1 ≡ before → IfSome o (λ links. links ≡ before) → IfSome (option_map (λ links. links - 1) o) (λ links. links ≡ now)
one_less None before now is links = tt
one_less (Some n) before now is links = omega (arith, is, links)

-- of each draft of the content that is told
abbrev pub LosesInDrafts : Option Image → Geometry → (old new : Change) → (i : ℕ) → Type 0
LosesInDrafts content g old new i = IfSome content (λ base. (taken : ℕ → Bool) (hands : List Hand) → IsDraft g base taken old hands → HasLinkLess g base taken old new i hands)

-- what is read of the content with the change
abbrev pub IsRecordRead : Option Image → Geometry → Change → (i : ℕ) → Option Dinode → Type 0
IsRecordRead content g change i found = IfSome (option_map (changed change) content) (λ image. found ≡ option_flatten (inode_at g (block image) i))

pub told_past : (content : Option Image) (g : Geometry) (old : Change) (i : ℕ) → nat_lt i (inodes_of g) ≡ false → LosesInDrafts content g old old i
told_past None g old i past = tt
told_past (Some base) g old i past = λ taken hands draft. past_less g base taken old hands i draft (ltb-false i (inodes_of g) past)

pub told_unused : (content : Option Image) (g : Geometry) (old : Change) (i : ℕ) → i < inodes_of g → IsRecordRead content g old i None → LosesInDrafts content g old old i
told_unused None g old i within read = tt
told_unused (Some base) g old i within read = λ taken hands draft. none_less g base taken old hands i draft within read

pub told_less : (content : Option Image) (g h : Geometry) (old new : Change) (i : ℕ) (d : Dinode) → h ≡ g → i < inodes_of g → IsRecordRead content g old i (Some d) → IsDinode g.version d
    → new ≡ with_delta old (inode_delta h i (dinode_bytes (Some (less d)))) → LosesInDrafts content g old new i
told_less None g h old new i d same within read is put = tt
told_less (Some base) g h old new i d same within read is put = λ taken hands draft.
    subst (λ (c : Change). HasLinkLess g base taken old c i hands) (sym (put ∙ ap (λ (k : Geometry). with_delta old (inode_delta k i (dinode_bytes (Some (less d))))) same))
    (record_less g base taken old hands i draft d within read (less_dinode g.version d is))
