-- What a draft's tree is after one chunk of a directory was put into it, and where nothing was put.
use Rattle.std.proofs.Common.{◌≡◌, ◌≢◌, ◌<◌, ◌≤◌, inl, inr, ℕ, ◌+◌, ◌/◌, ◌%◌, eqb, Bool, true, false, not, List, [], ◌∷◌, ◌++◌, map, length, slice_index, unwrap_or, Option, Some, None, IfSome, refl, sym, ap, subst, ◌∙◌, arith}
use Rattle.std.specs.Prelude.{slice_set, is_some}
use Rattle.std.specs.List.{range_with_len}
use Rattle.std.specs.Option.{option_map, option_map_or, option_and_then}
use Rattle.std.proofs.Math.Path.{fun_ext}
use Rattle.std.proofs.lemmas.Bool.{cases_eq, cases_lt, eq-eqb, ne_eqb}
use Rattle.std.proofs.lemmas.Option.{slice_get_past}
use Rattle.std.proofs.lemmas.List.FromFn.{length-map-range_with_len}
use Rattle.lufs_base.specs.declared.geometry.Geometry.{Geometry}
use Rattle.volume_model.specs.declared.hand.Hand.{Hand}
use Rattle.volume_model.specs.declared.directory.Slot.{Slot}
use Rattle.volume_model.specs.Format.{Blocks, Image, inodes_of, found_at, IsChunk, chunk_bytes}
use Rattle.volume_model.specs.Sound.{UsedInode, InodeState, used_of, Reading, reading_of, inodes_in, used_at, used_inode, numbers_of, chunk_at, has_right_numbers, has_bad_numbers, IsStored, DirectoryNode, Node, File, Directory, Link, Tree, with_node, attributes_of, tree_of}
use Rattle.volume_laws.proofs.NodeFacts.{node_of_directory, node_in_tree}
use Rattle.volume_laws.proofs.SameReading.{used_from_record}
use Rattle.history_model.specs.Edits.{changed_in, on_chunks, on_node}
use Rattle.history_model.specs.Places.{is_directory_node, is_directory_in}
use Rattle.change_laws.specs.Plans.{HasInode}
use Rattle.meta_store.specs.declared.change.Change.{Change}
use Rattle.meta_store.specs.Deltas.{chunk_delta}
use Rattle.meta_draft.specs.Drafted.{drafted_blocks, with_delta}
use Rattle.draft_laws.specs.Drafts.{IsDraft, Draws, links_at}
use Rattle.dir_reads.specs.Chunks.{slots_of_chunk, chunks_of}
use Rattle.dir_reads.specs.Directories.{HasDirectory, IsFirstAt, serves}
use Rattle.dir_ops.specs.Slots.{chunk_of_directory, PutsChunk, PutsSlot}
use Rattle.dir_ops.specs.Edits.{DrawsTree, slot_changed, with_slot_changed}
use Rattle.dir_reads.specs.declared.directory.Directory.{Directory as Opened_directory}
use Rattle.dir_reads.specs.declared.directory.Found.{Found}
use Rattle.dir_reads.specs.declared.directory.Wanted.TheVariants.{Named}
use Rattle.dir_ops.proofs.ChangedSlots.{none_of, none_changed, one_changed}
use Rattle.draft_laws.proofs.ChunkStep.{chunk_drawn}

abbrev pick : Tree → ℕ → Option Node → ℕ → Bool → Option Node
pick tree i node k b = elim b [ true ↦ node | false ↦ tree k ]

-- the tree with a node that it has
with_its_own : (tree : Tree) (i : ℕ) → with_node tree i (tree i) ≡ tree
with_its_own tree i = fun_ext (λ k. elim (cases_eq k i) [
  | inl same ↦ ap (pick tree i (tree i) k) (eq-eqb k i same) ∙ ap tree (sym same)
  | inr other ↦ ap (pick tree i (tree i) k) (ne_eqb k i other)
])

on_node_with : (i : ℕ) (f : Node → Node) (tree : Tree) (o : Option Node) → tree i ≡ o → ((node : Node) → o ≡ Some node → f node ≡ node)
    → elim o [ None ↦ tree | Some node ↦ with_node tree i (Some (f node)) ] ≡ tree
on_node_with i f tree None is same = refl
on_node_with i f tree (Some node) is same =
    ap (λ (n : Node). with_node tree i (Some n)) (same node refl) ∙ ap (with_node tree i) (sym is) ∙ with_its_own tree i

-- a node that stays as it is
pub on_node_same : (i : ℕ) (f : Node → Node) (tree : Tree) → ((node : Node) → tree i ≡ Some node → f node ≡ node) → on_node i f tree ≡ tree
on_node_same i f tree same = on_node_with i f tree (tree i) refl same

pub on_node_some : (i : ℕ) (f : Node → Node) (tree : Tree) (node : Node) → tree i ≡ Some node → on_node i f tree ≡ with_node tree i (Some (f node))
on_node_some i f tree node is = ap (λ (o : Option Node). elim o [ None ↦ tree | Some node ↦ with_node tree i (Some (f node)) ]) is

plain_same : (f : List (List Slot) → List (List Slot)) (node : Node) → is_directory_node node ≡ false → on_chunks f node ≡ node
plain_same f (File file) plain = refl
plain_same f (Directory directory) plain = absurd (cc)
plain_same f (Link link) plain = refl

-- what is no directory stays as it is
pub no_directory_same : (i : ℕ) (f : List (List Slot) → List (List Slot)) (tree : Tree) → is_directory_in tree i ≡ false → on_node i (on_chunks f) tree ≡ tree
no_directory_same i f tree none =
    on_node_same i (on_chunks f) tree (λ node is. plain_same f node (ap (λ (o : Option Node). option_map_or is_directory_node o false) (sym is) ∙ none))

-- a directory whose chunks stay as they are
pub directory_same : (i : ℕ) (f : List (List Slot) → List (List Slot)) (tree : Tree) (directory : DirectoryNode) → tree i ≡ Some (Directory directory) → f directory.chunks ≡ directory.chunks
    → on_node i (on_chunks f) tree ≡ tree
directory_same i f tree directory stands same =
    on_node_some i (on_chunks f) tree (Directory directory) stands
    ∙ ap (λ (chunks : List (List Slot)). with_node tree i (Some (Directory (record directory { chunks = chunks })))) same
    ∙ ap (with_node tree i) (sym stands) ∙ with_its_own tree i

-- the node of a directory that was opened
abbrev pub node_opened : Blocks → Opened_directory → DirectoryNode
node_opened blocks directory = record { attributes = attributes_of directory.dinode; chunks = chunks_of blocks directory.opened }

pub has_inode : (g : Geometry) (base : Image) (taken : ℕ → Bool) (change : Change) (hands : List Hand) (i : ℕ) (directory : Opened_directory) → IsDraft g base taken change hands → i < inodes_of g
    → HasDirectory g (drafted_blocks change base) i directory
    → HasInode g (drafted_blocks change base) hands i (used_inode (drafted_blocks change base) directory.dinode) (Directory (node_opened (drafted_blocks change base) directory))
has_inode g base taken change hands i directory draft within has =
    let blocks = drafted_blocks change base in
    let used = used_from_record g blocks i directory.dinode within has.there in
    let is = node_of_directory blocks (used_inode blocks directory.dinode) has.mode in
    record {
      geometry = draft.geometry;
      stored = draft.stored;
      used = used;
      stands = node_in_tree g blocks i (used_inode blocks directory.dinode) used
          ∙ (λ t. Some (is t))
          ∙ ap (λ (chunks : List (List Slot)). Some (Directory (record { attributes = attributes_of directory.dinode; chunks = chunks }))) has.chunks;
    }

-- What was drawn of one inode with its links is an edit of the tree.
pub drawn_tree : (g : Geometry) (base : Image) (taken : ℕ → Bool) (old new : Change) (i : ℕ) (drawn : Option Node) (links : Option ℕ) (after : List Hand) (edit : Tree → Tree)
    → Draws g base taken old new i drawn links after → links_at g (drafted_blocks old base) i ≡ links
    → edit (tree_of g (drafted_blocks old base)) ≡ with_node (tree_of g (drafted_blocks old base)) i drawn → DrawsTree g base taken old new i edit after
drawn_tree g base taken old new i drawn links after edit draws its is = record {
  draft = draws.draft;
  tree = draws.tree ∙ sym is;
  links = λ k. elim (cases_eq k i) [
    | inl same ↦ ap (links_at g (drafted_blocks new base)) same ∙ draws.own_links ∙ sym its ∙ ap (links_at g (drafted_blocks old base)) (sym same)
    | inr other ↦ ap (option_map (λ u. u.inode.links)) (draws.others k other)
  ];
  others = draws.others;
}

-- Nothing was put, and the edit changes nothing.
pub same_tree : (g : Geometry) (base : Image) (taken : ℕ → Bool) (change : Change) (hands : List Hand) (i : ℕ) (edit : Tree → Tree) → IsDraft g base taken change hands
    → edit (tree_of g (drafted_blocks change base)) ≡ tree_of g (drafted_blocks change base) → DrawsTree g base taken change change i edit hands
same_tree g base taken change hands i edit draft same = record { draft = draft; tree = sym same; links = λ k. refl; others = λ k other. refl }

pub count_opened : (blocks : Blocks) (directory : Opened_directory) → length (chunks_of blocks directory.opened) ≡ directory.opened.count
count_opened blocks directory = length-map-range_with_len (slots_of_chunk blocks directory.opened.numbers.items) 0 directory.opened.count

module _ (g : Geometry) (base : Image) (taken : ℕ → Bool) (old : Change) (hands : List Hand) (i : ℕ) (directory : Opened_directory) (draft : IsDraft g base taken old hands) (within : i < inodes_of g)
    (has : HasDirectory g (drafted_blocks old base) i directory) where
  abbrev blocks : Blocks
  blocks = drafted_blocks old base

  abbrev tree : Tree
  tree = tree_of g blocks

  abbrev h : ℕ → List Slot
  h = slots_of_chunk blocks directory.opened.numbers.items

  abbrev n : ℕ
  n = directory.opened.count

  -- One chunk was put in the place of another one.
  pub chunk_edited : (new : Change) (k : ℕ) (slots : List Slot) (f : List (List Slot) → List (List Slot)) → k < n → IsChunk slots → new ≡ with_delta old (chunk_of_directory directory k slots)
      → f (map h (range_with_len 0 n)) ≡ slice_set (map h (range_with_len 0 n)) k slots → DrawsTree g base taken old new i (on_node i (on_chunks f)) hands
  chunk_edited new k slots f below is put changed =
      let u = used_inode blocks directory.dinode in
      let inode = has_inode g base taken old hands i directory draft within has in
      let node = node_opened blocks directory in
      let count = count_opened blocks directory in
      let drawn = chunk_drawn g base taken old hands i k u node slots draft inode (omega (arith, below, count)) is in
      let its : with_delta old (chunk_delta (slice_index u.numbers (k / 8)) (k % 8) (chunk_bytes slots)) ≡ new =
      sym (put ∙ ap (λ (b : ℕ). with_delta old (chunk_delta b (k % 8) (chunk_bytes slots))) (has.numbers (k / 8))) in
      drawn_tree g base taken old new i (Some (Directory (record node { chunks = slice_set node.chunks k slots }))) (Some u.inode.links) hands (on_node i (on_chunks f))
      (subst (λ (c : Change). Draws g base taken old c i (Some (Directory (record node { chunks = slice_set node.chunks k slots }))) (Some u.inode.links) hands)
      its drawn)
      (ap (option_map (λ u. u.inode.links)) inode.used)
      (on_node_some i (on_chunks f) tree (Directory node) inode.stands
      ∙ ap (λ (chunks : List (List Slot)). with_node tree i (Some (Directory (record node { chunks = chunks })))) changed)

  -- no chunk has the name
  pub none_edited : (name : List ℕ) (to : Option ℕ) → ((k : ℕ) → k < n → serves Named name (h k) ≡ false) → DrawsTree g base taken old old i (with_slot_changed i name to) hands
  none_edited name to none =
      let inode = has_inode g base taken old hands i directory draft within has in
      same_tree g base taken old hands i (with_slot_changed i name to) draft
      (directory_same i (λ chunks. changed_in (slot_changed to) chunks name) tree (node_opened blocks directory) inode.stands
      (none_changed (slot_changed to) name h 0 n (λ k from below. none k (omega (arith, below)))))

  named_at : (o : Option ℕ) → is_some o ≡ true → (place : ℕ) × (o ≡ Some place)
  named_at None some = absurd (cc)
  named_at (Some place) some = (place, refl)

  -- the first chunk with the name
  pub slot_edited : (new : Change) (found : Found) (name : List ℕ) (to : Option ℕ) → IsFirstAt (serves Named name) blocks directory.opened.numbers.items found → found.place < n
      → serves Named name found.chunk ≡ true → PutsSlot directory found name to old new → DrawsTree g base taken old new i (with_slot_changed i name to) hands
  slot_edited new found name to first below serving puts =
      let at = named_at (found_at found.chunk name) serving in
      let put = subst (λ (o : Option ℕ). IfSome o (λ place. PutsChunk directory found (slot_changed to found.chunk place) old new)) at.1 puts in
      let none : 0 + found.place ≡ found.place = omega arith in
      let here : h (0 + found.place) ≡ found.chunk = ap h none ∙ ap (λ (o : Option (List Slot)). unwrap_or o []) (sym first.chunk) in
      let changed = one_changed (slot_changed to) name h 0 n found.place at.0 below (λ k from low. first.before k (omega (arith, low)))
      (ap (λ (chunk : List Slot). found_at chunk name) here ∙ at.1) in
      chunk_edited new found.place (slot_changed to found.chunk at.0) (λ chunks. changed_in (slot_changed to) chunks name) below put.chunk put.put
      (changed ∙ ap (λ (chunk : List Slot). slice_set (map h (range_with_len 0 n)) found.place (slot_changed to chunk at.0)) here)
