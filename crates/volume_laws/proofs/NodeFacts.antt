-- The node of an inode in use, by its type; and a tree with a node that it has.
use Rattle.std.proofs.Common.{◌≡◌, inl, inr, ℕ, leb, Bool, true, false, cond, [], map, Option, Some, refl, sym, ap, ◌∙◌, arith}
use Rattle.std.specs.Option.{option_map, unwrap_or}
use Rattle.std.proofs.lemmas.Bool.{cases_eq, and_parts, and_right, cond-true, cond-false, lt-leb, leb-true}
use Rattle.lufs_base.specs.declared.geometry.Geometry.{Geometry}
use Rattle.volume_model.specs.Format.{Blocks, is_file, is_directory, is_link}
use Rattle.volume_model.specs.Sound.{UsedInode, reading_of, used_at, FileNode, DirectoryNode, LinkNode, Node, File, Directory, Link, Tree, with_node, shape_of, shape_of_node, attributes_of, file_blocks, pointer_names, link_text, node_of, tree_of}
use Rattle.volume_laws.proofs.SameReading.{not_file}
use Rattle.volume_laws.proofs.OneEntry.{node_there, other_node}

abbrev pub as_file : Blocks → UsedInode → Node
as_file blocks u = File (record { attributes = attributes_of u.inode; size = u.inode.size; blocks = file_blocks blocks u; pointers = pointer_names u })

abbrev pub as_directory : UsedInode → Node
as_directory u = Directory (record { attributes = attributes_of u.inode; chunks = map (λ chunk. unwrap_or chunk []) u.chunks })

abbrev pub as_link : Blocks → UsedInode → Node
as_link blocks u = Link (record { attributes = attributes_of u.inode; text = link_text blocks u })

pub node_of_file : (blocks : Blocks) (u : UsedInode) → is_file u.inode.mode ≡ true → node_of blocks u ≡ as_file blocks u
node_of_file blocks u file = cond-true (is_file u.inode.mode) (as_file blocks u) (cond (is_directory u.inode.mode) (as_directory u) (as_link blocks u)) file

pub node_of_directory : (blocks : Blocks) (u : UsedInode) → is_directory u.inode.mode ≡ true → node_of blocks u ≡ as_directory u
node_of_directory blocks u directory =
    cond-false (is_file u.inode.mode) (as_file blocks u) (cond (is_directory u.inode.mode) (as_directory u) (as_link blocks u)) (not_file u.inode.mode directory)
    ∙ cond-true (is_directory u.inode.mode) (as_directory u) (as_link blocks u) directory

pub node_of_other : (blocks : Blocks) (u : UsedInode) → is_file u.inode.mode ≡ false → is_directory u.inode.mode ≡ false → node_of blocks u ≡ as_link blocks u
node_of_other blocks u no_file plain =
    cond-false (is_file u.inode.mode) (as_file blocks u) (cond (is_directory u.inode.mode) (as_directory u) (as_link blocks u)) no_file
    ∙ cond-false (is_directory u.inode.mode) (as_directory u) (as_link blocks u) plain

-- a mode has one type
pub link_is_other : (mode : ℕ) → is_link mode ≡ true → (is_file mode ≡ false) × (is_directory mode ≡ false)
link_is_other mode link =
    let low = leb-true 0xa000 mode (and_parts (leb 0xa000 mode) (leb mode 0xa1ff) link).0 in (
      and_right (leb 0x8000 mode) (leb mode 0x81ff) (lt-leb mode 0x81ff (omega (arith, low))),
      and_right (leb 0x4000 mode) (leb mode 0x41ff) (lt-leb mode 0x41ff (omega (arith, low))),
    )

pub file_is_no_directory : (mode : ℕ) → is_file mode ≡ true → is_directory mode ≡ false
file_is_no_directory mode file =
    let low = leb-true 0x8000 mode (and_parts (leb 0x8000 mode) (leb mode 0x81ff) file).0 in
    and_right (leb 0x4000 mode) (leb mode 0x41ff) (lt-leb mode 0x41ff (omega (arith, low)))

-- the tree has the node of each inode in use
pub node_in_tree : (g : Geometry) (blocks : Blocks) (i : ℕ) (u : UsedInode) → used_at (reading_of g blocks) i ≡ Some u → tree_of g blocks i ≡ Some (node_of blocks u)
unfolding tree_of
node_in_tree g blocks i u used = ap (option_map (node_of blocks)) used

pub shape_in_tree : (g : Geometry) (blocks : Blocks) (i : ℕ) (u : UsedInode) → used_at (reading_of g blocks) i ≡ Some u
    → shape_of (tree_of g blocks) i ≡ Some (shape_of_node (node_of blocks u))
unfolding shape_of
shape_in_tree g blocks i u used = ap (option_map shape_of_node) (node_in_tree g blocks i u used)

-- the node that the tree has
pub node_is : (g : Geometry) (blocks : Blocks) (i : ℕ) (u : UsedInode) (node : Node) → used_at (reading_of g blocks) i ≡ Some u → tree_of g blocks i ≡ Some node
    → node_of blocks u ≡ node
node_is g blocks i u node used stands =
    let both : ◌≡◌ {A = Option Node} (Some (node_of blocks u)) (Some node) = sym (node_in_tree g blocks i u used) ∙ stands in
    cc

file_test : (t s : Bool) (f : FileNode) (chunks : DirectoryNode) (link : LinkNode) (file : FileNode)
    → cond t (File f) (cond s (Directory chunks) (Link link)) ≡ File file → t ≡ true
file_test true s f chunks link file is = refl
file_test false true f chunks link file is = absurd (cc)
file_test false false f chunks link file is = absurd (cc)

-- what is a file there is one by its mode
pub file_by_node : (g : Geometry) (blocks : Blocks) (i : ℕ) (u : UsedInode) (file : FileNode) → used_at (reading_of g blocks) i ≡ Some u
    → tree_of g blocks i ≡ Some (File file) → is_file u.inode.mode ≡ true
file_by_node g blocks i u file used stands =
    file_test (is_file u.inode.mode) (is_directory u.inode.mode) _ _ _ file (node_is g blocks i u (File file) used stands)

directory_test : (t s : Bool) (f : FileNode) (chunks : DirectoryNode) (link : LinkNode) (directory : DirectoryNode)
    → cond t (File f) (cond s (Directory chunks) (Link link)) ≡ Directory directory → (s ≡ true) × (directory ≡ chunks)
directory_test true s f chunks link directory is = absurd (cc)
directory_test false true f chunks link directory is = (refl, cc)
directory_test false false f chunks link directory is = absurd (cc)

-- and what is a directory, with its chunks
pub directory_by_node : (g : Geometry) (blocks : Blocks) (i : ℕ) (u : UsedInode) (directory : DirectoryNode) → used_at (reading_of g blocks) i ≡ Some u
    → tree_of g blocks i ≡ Some (Directory directory)
    → (is_directory u.inode.mode ≡ true) × (directory ≡ (record { attributes = attributes_of u.inode; chunks = map (λ chunk. unwrap_or chunk []) u.chunks }))
directory_by_node g blocks i u directory used stands =
    directory_test (is_file u.inode.mode) (is_directory u.inode.mode) _ _ _ directory (node_is g blocks i u (Directory directory) used stands)

link_test : (t s : Bool) (f : FileNode) (chunks : DirectoryNode) (link : LinkNode) (other : LinkNode)
    → cond t (File f) (cond s (Directory chunks) (Link link)) ≡ Link other → (t ≡ false) × (s ≡ false)
link_test true s f chunks link other is = absurd (cc)
link_test false true f chunks link other is = absurd (cc)
link_test false false f chunks link other is = (refl, refl)

pub other_by_node : (g : Geometry) (blocks : Blocks) (i : ℕ) (u : UsedInode) (link : LinkNode) → used_at (reading_of g blocks) i ≡ Some u
    → tree_of g blocks i ≡ Some (Link link) → (is_file u.inode.mode ≡ false) × (is_directory u.inode.mode ≡ false)
other_by_node g blocks i u link used stands =
    link_test (is_file u.inode.mode) (is_directory u.inode.mode) _ _ _ link (node_is g blocks i u (Link link) used stands)

-- with a node that it has, a tree is the same
pub with_its_node : (tree : Tree) (i : ℕ) (node : Option Node) → tree i ≡ node → with_node tree i node ≡ tree
with_its_node tree i node is =
    let each : (k : ℕ) → with_node tree i node k ≡ tree k = λ k. elim (cases_eq k i) [
      | inl here ↦ node_there tree i node k here ∙ sym is ∙ ap tree (sym here)
      | inr away ↦ other_node tree i node k away
    ] in
    λ t k. each k t
