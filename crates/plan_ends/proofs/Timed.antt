-- What a draft's tree is after the time of an inode was set.
use Rattle.std.proofs.Common.{◌≡◌, ◌<◌, ◌≤◌, ℕ, ◌^◌, Bool, false, List, Option, Some, None, IfSome, refl, sym, ap, ◌∙◌, subst, arith}
use Rattle.std.specs.Prelude.{nat_lt}
use Rattle.std.specs.Option.{option_map, option_and_then, option_flatten}
use Rattle.std.proofs.lemmas.Bool.{ltb-false}
use Rattle.std.proofs.lemmas.Option.{slice_get_past}
use Rattle.lufs_base.specs.declared.geometry.Geometry.{Geometry}
use Rattle.volume_model.specs.declared.hand.Hand.{Hand}
use Rattle.volume_model.specs.declared.inode.Dinode.{Dinode}
use Rattle.volume_model.specs.Format.{Blocks, Image, block, inodes_of, IsDinode, dinode_bytes}
use Rattle.volume_model.specs.Sound.{UsedInode, InodeState, used_of, state_of, reading_of, inode_at, used_inode, used_at, Attributes, Node, File, Directory, Link, Tree, with_node, attributes_of, node_of, tree_of}
use Rattle.volume_laws.specs.Nodes.{attributes_of_node}
use Rattle.volume_laws.proofs.ClaimFacts.{length-inodes, used_in_volume}
use Rattle.volume_laws.proofs.SameReading.{used_from_record}
use Rattle.volume_laws.proofs.NodeFacts.{node_in_tree}
use Rattle.volume_laws.proofs.NodeFields.{attributes_of_its_node}
use Rattle.history_model.specs.Places.{attributes_in}
use Rattle.history_model.specs.Edits.{SetTime, with_time, on_node, edited}
use Rattle.change_laws.specs.Plans.{HasInode, KeepsBlocks, with_attributes}
use Rattle.meta_store.specs.declared.change.Change.{Change}
use Rattle.meta_store.specs.Changes.{changed}
use Rattle.meta_store.specs.Deltas.{inode_delta}
use Rattle.meta_draft.specs.Drafted.{drafted_blocks, with_delta}
use Rattle.draft_laws.specs.Drafts.{IsDraft, Draws}
use Rattle.draft_laws.proofs.RecordSteps.{attributes_drawn}
use Rattle.dir_ops.specs.Edits.{DrawsTree}
use Rattle.dir_ops.proofs.EditedTrees.{drawn_tree, same_tree, on_node_some}
use Rattle.dir_ops.proofs.ToldEdits.{EditsDrafts}

-- an inode that isn't in use stays so
free_timed : (i moment : ℕ) (tree : Tree) → tree i ≡ None → edited (SetTime i moment) tree ≡ tree
unfolding edited
free_timed i moment tree free = ap (λ (o : Option Node). elim o [ None ↦ tree | Some node ↦ with_node tree i (Some (with_time moment node)) ]) free

tree_unused : (g : Geometry) (blocks : Blocks) (i : ℕ) → used_at (reading_of g blocks) i ≡ None → tree_of g blocks i ≡ None
unfolding tree_of
tree_unused g blocks i unused = ap (option_map (node_of blocks)) unused

no_record : (blocks : Blocks) (o : Option (Option Dinode)) → None ≡ option_flatten o → used_of (state_of blocks o) ≡ None
no_record blocks None is = refl
no_record blocks (Some None) is = refl
no_record blocks (Some (Some d)) is = absurd (let e : None ≡ Some d = is in cc)

its_record : (o : Option (Option Dinode)) (d : Dinode) → Some d ≡ option_flatten o → o ≡ Some (Some d)
its_record None d is = absurd (let e : Some d ≡ None = is in cc)
its_record (Some None) d is = absurd (let e : Some d ≡ None = is in cc)
its_record (Some (Some e)) d is = ap (λ (o : Option Dinode). Some o) (sym is)

-- the node with another time, by the record
timed_node : (moment : ℕ) (d : Dinode) (node : Node) → attributes_of d ≡ attributes_of_node node
    → with_time moment node ≡ with_attributes (attributes_of (record d { mtime = moment })) node
timed_node moment d (File file) is = ap (λ (a : Attributes). File (record file { attributes = record a { mtime = moment } })) (sym is)
timed_node moment d (Directory directory) is = ap (λ (a : Attributes). Directory (record directory { attributes = record a { mtime = moment } })) (sym is)
timed_node moment d (Link link) is = ap (λ (a : Attributes). Link (record link { attributes = record a { mtime = moment } })) (sym is)

timed_dinode : (version : ℕ) (d : Dinode) (moment : ℕ) → IsDinode version d → moment < 2 ^ 64 → IsDinode version (record d { mtime = moment })
timed_dinode version d moment is fits = record {
  mode = is.mode;
  links_fits = is.links_fits;
  uid_fits = is.uid_fits;
  gid_fits = is.gid_fits;
  size_fits = is.size_fits;
  mtime_fits = fits;
  direct_size = is.direct_size;
  direct_fits = is.direct_fits;
  indirect_size = is.indirect_size;
  indirect_fits = is.indirect_fits;
  blocks_fits = is.blocks_fits;
  indirect_in_version = is.indirect_in_version;
}

module _ (g : Geometry) (base : Image) (taken : ℕ → Bool) (old : Change) (hands : List Hand) (i moment : ℕ) (draft : IsDraft g base taken old hands) where
  abbrev blocks : Blocks
  blocks = drafted_blocks old base

  unused_timed : used_at (reading_of g blocks) i ≡ None → DrawsTree g base taken old old i (edited (SetTime i moment)) hands
  unused_timed unused = same_tree g base taken old hands i (edited (SetTime i moment)) draft (free_timed i moment (tree_of g blocks) (tree_unused g blocks i unused))

  past_timed : inodes_of g ≤ i → DrawsTree g base taken old old i (edited (SetTime i moment)) hands
  past_timed past =
      unused_timed (ap (λ (o : Option InodeState). option_and_then used_of o) (slice_get_past (reading_of g blocks).inodes i (omega (arith, past, length-inodes g blocks))))

  none_timed : i < inodes_of g → None ≡ option_flatten (inode_at g blocks i) → DrawsTree g base taken old old i (edited (SetTime i moment)) hands
  none_timed within none = unused_timed (used_in_volume g blocks i within ∙ no_record blocks (inode_at g blocks i) none)

  record_timed : (d : Dinode) → i < inodes_of g → Some d ≡ option_flatten (inode_at g blocks i) → IsDinode g.version (record d { mtime = moment })
      → DrawsTree g base taken old (with_delta old (inode_delta g i (dinode_bytes (Some (record d { mtime = moment }))))) i (edited (SetTime i moment)) hands
  unfolding edited
  record_timed d within read is =
      let e : Dinode = record d { mtime = moment } in
      let u = used_inode blocks d in
      let node = node_of blocks u in
      let used = used_from_record g blocks i d within (its_record (inode_at g blocks i) d read) in
      let stands = node_in_tree g blocks i u used in
      let inode : HasInode g blocks hands i u node = record { geometry = draft.geometry; stored = draft.stored; used = used; stands = stands } in
      let keeps : KeepsBlocks d e = record { type = refl; size = refl; direct = refl; indirect = refl; blocks = refl } in
      let draws = attributes_drawn g base taken old hands i u e node draft inode is keeps in
      drawn_tree g base taken old (with_delta old (inode_delta g i (dinode_bytes (Some e)))) i (Some (with_attributes (attributes_of e) node)) (Some e.links) hands (on_node i (with_time moment)) draws
      (ap (option_map (λ v. v.inode.links)) used)
      (on_node_some i (with_time moment) (tree_of g blocks) node stands
      ∙ ap (λ (n : Node). with_node (tree_of g blocks) i (Some n)) (timed_node moment d node (attributes_of_its_node g blocks i u node used stands)))

-- what is read of the content with the change
abbrev pub IsRecordRead : Option Image → Geometry → Change → (i : ℕ) → Option Dinode → Type 0
IsRecordRead content g change i found = IfSome (option_map (changed change) content) (λ image. found ≡ option_flatten (inode_at g (block image) i))

pub told_past : (content : Option Image) (g : Geometry) (old : Change) (i moment : ℕ) → nat_lt i (inodes_of g) ≡ false → EditsDrafts content g old old i (edited (SetTime i moment))
told_past None g old i moment past = tt
told_past (Some base) g old i moment past = λ taken hands draft. past_timed g base taken old hands i moment draft (ltb-false i (inodes_of g) past)

pub told_unused : (content : Option Image) (g : Geometry) (old : Change) (i moment : ℕ) → i < inodes_of g → IsRecordRead content g old i None → EditsDrafts content g old old i (edited (SetTime i moment))
told_unused None g old i moment within read = tt
told_unused (Some base) g old i moment within read = λ taken hands draft. none_timed g base taken old hands i moment draft within read

pub told_timed : (content : Option Image) (g h : Geometry) (old new : Change) (i moment : ℕ) (d : Dinode) → h ≡ g → i < inodes_of g → IsRecordRead content g old i (Some d) → IsDinode g.version d → moment < 2 ^ 64
    → new ≡ with_delta old (inode_delta h i (dinode_bytes (Some (record d { mtime = moment })))) → EditsDrafts content g old new i (edited (SetTime i moment))
told_timed None g h old new i moment d same within read is fits put = tt
told_timed (Some base) g h old new i moment d same within read is fits put = λ taken hands draft.
    subst (λ (c : Change). DrawsTree g base taken old c i (edited (SetTime i moment)) hands)
    (sym (put ∙ ap (λ (k : Geometry). with_delta old (inode_delta k i (dinode_bytes (Some (record d { mtime = moment }))))) same))
    (record_timed g base taken old hands i moment draft d within read (timed_dinode g.version d moment is fits))
