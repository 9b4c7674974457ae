-- What is opened to be changed is the directory of the tree, or it is none.
use Rattle.std.proofs.Common.{◌≡◌, ◌<◌, ◌≤◌, inl, inr, ℕ, ◌+◌, ◌*◌, ◌/◌, min, Bool, true, false, not, if◌then◌else◌, List, [], map, slice_index, Option, Some, None, Result, Ok, Err, IfSome, IfOk, refl, sym, ap, subst, ◌∙◌, arith}
use Rattle.std.specs.Prelude.{nat_lt}
use Rattle.std.specs.List.{list_all}
use Rattle.std.specs.Option.{option_map, option_map_or, option_and_then, option_flatten}
use Rattle.std.proofs.lemmas.Option.{slice_get_past}
use Rattle.std.proofs.lemmas.Bool.{cases_Bool, not-false, false≢true}
use Rattle.lufs_base.specs.Layout.{blocks_of}
use Rattle.lufs_base.specs.declared.geometry.Geometry.{Geometry}
use Rattle.volume_model.specs.declared.inode.Dinode.{Dinode}
use Rattle.volume_model.specs.Format.{Blocks, Image, block, inodes_of, is_file, is_directory}
use Rattle.volume_model.specs.Sound.{UsedInode, InodeState, used_of, state_of, used_at, used_inode, reading_of, inode_at, state_at, numbers_of, has_right_numbers, has_bad_numbers, Node, File, Directory, Link, node_of, tree_of}
use Rattle.volume_laws.proofs.ClaimFacts.{length-inodes, used_in_volume}
use Rattle.volume_laws.proofs.NodeFacts.{node_of_file, node_of_directory, node_of_other, file_is_no_directory}
use Rattle.volume_laws.proofs.SameReading.{used_from_record}
use Rattle.history_model.specs.Places.{is_directory_node, is_directory_in, chunks_of_node}
use Rattle.meta_store.specs.declared.error.StoreError.{StoreError}
use Rattle.dir_reads.specs.Chunks.{only_directory, directory_at, chunks_from, IsOpened}
use Rattle.dir_reads.specs.Directories.{IsThisDirectory, IsRightRecord, IsOfRecord, IsDirectoryRead}
use Rattle.dir_reads.specs.declared.directory.Directory.{Directory as OpenedDirectory}
use Rattle.dir_reads.specs.declared.chunk_list.Opened.{Opened}
use Rattle.dir_reads.proofs.OpenedTrees.{slots_at, chunks_in_tree, from_record, record_opened}
use Rattle.block_numbers.proofs.RightNumbers.{numbers_inside, pointer_inside}
use Rattle.dir_reads.proofs.RightNumbers.{size_of_directory, test_from_inside}

by_mode : (blocks : Blocks) (u : UsedInode) → is_directory_node (node_of blocks u) ≡ is_directory u.inode.mode
by_mode blocks u = elim (cases_Bool (is_file u.inode.mode)) [
  | inl file ↦ ap is_directory_node (node_of_file blocks u file) ∙ sym (file_is_no_directory u.inode.mode file)
  | inr other ↦ elim (cases_Bool (is_directory u.inode.mode)) [
    | inl so ↦ ap is_directory_node (node_of_directory blocks u so) ∙ sym so
    | inr plain ↦ ap is_directory_node (node_of_other blocks u other plain) ∙ sym plain
  ]
]

not_picked : (b : Bool) (d : Dinode) → ◌≡◌ {A = Option Dinode} (if b then Some d else None) None → b ≡ false
not_picked true d is = absurd (cc)
not_picked false d is = refl

of_state : (blocks : Blocks) (o : Option (Option Dinode)) → only_directory (option_flatten o) ≡ None
    → option_map_or is_directory_node (option_map (node_of blocks) (used_of (state_of blocks o))) false ≡ false
of_state blocks None none = refl
of_state blocks (Some None) none = refl
of_state blocks (Some (Some d)) none = by_mode blocks (used_inode blocks d) ∙ not_picked (is_directory d.mode) d none

no_directory : (g : Geometry) (blocks : Blocks) (i : ℕ) → i < inodes_of g → directory_at g blocks i ≡ None → is_directory_in (tree_of g blocks) i ≡ false
unfolding tree_of
no_directory g blocks i within none =
    ap (λ (o : Option UsedInode). option_map_or is_directory_node (option_map (node_of blocks) o) false) (used_in_volume g blocks i within)
    ∙ of_state blocks (inode_at g blocks i) none

past_end : (g : Geometry) (blocks : Blocks) (i : ℕ) → inodes_of g ≤ i → is_directory_in (tree_of g blocks) i ≡ false
unfolding tree_of
past_end g blocks i past =
    ap (λ (o : Option InodeState). option_map_or is_directory_node (option_map (node_of blocks) (option_and_then used_of o)) false)
    (slice_get_past (reading_of g blocks).inodes i (omega (arith, past, length-inodes g blocks)))

-- an inode that the volume doesn't have is none
pub none_past : (content : Option Image) (g : Geometry) (i : ℕ) → inodes_of g ≤ i → IfSome content (λ image. IsDirectoryRead g (block image) i None)
none_past None g i past = tt
none_past (Some image) g i past = λ right. past_end g (block image) i past

-- so is what is no directory
pub none_there : (content : Option Image) (g : Geometry) (i : ℕ) (found : Option Dinode) → i < inodes_of g → found ≡ None
    → IfSome content (λ image. found ≡ directory_at g (block image) i) → IfSome content (λ image. IsDirectoryRead g (block image) i None)
none_there None g i found within none told = tt
none_there (Some image) g i found within none told = λ right. no_directory g (block image) i within (sym told ∙ none)

right_record : (g : Geometry) (blocks : Blocks) (i : ℕ) (d : Dinode) → i < inodes_of g → directory_at g blocks i ≡ Some d → has_bad_numbers g (reading_of g blocks) i ≡ false → IsRightRecord g blocks i d
right_record g blocks i d within is right =
    let record_is = from_record (inode_at g blocks i) d is in
    let used = used_from_record g blocks i d within record_is.0 in
    record {
      there = record_is.0;
      mode = record_is.1;
      right = not-false (has_right_numbers g i (used_inode blocks d)) (subst (λ (o : Option UsedInode). option_map_or (λ u. not (has_right_numbers g i u)) o false ≡ false) used right);
    }

-- the numbers of a record that were read
abbrev pub AreNumbersOf : Geometry → Option Image → Dinode → List ℕ → Type 0
AreNumbersOf g content d numbers = IfSome content (λ image. slice_index d.indirect 0 < blocks_of g → (k : ℕ) → slice_index numbers k ≡ slice_index (numbers_of (block image) d) k)

-- By a record with right numbers there is a directory.
pub none_outside : (content : Option Image) (g : Geometry) (d : Dinode) (numbers : List ℕ) → 0 < blocks_of g → AreNumbersOf g content d numbers
    → list_all (λ n. nat_lt n (blocks_of g)) numbers ≡ false → IfSome content (λ image. IsOfRecord g (block image) d None)
none_outside None g d numbers some read not_so = tt
none_outside (Some image) g d numbers some read not_so = λ i known.
    let blocks = block image in
    let here = read (pointer_inside g i blocks d known.right some) in
    let inside : (k : ℕ) → slice_index numbers k < blocks_of g = λ k.
    subst (λ (n : ℕ). n < blocks_of g) (sym (here k)) (numbers_inside g i (used_inode blocks d) known.right some k) in
    absurd (false≢true (sym not_so ∙ test_from_inside (blocks_of g) numbers inside))

-- a directory is opened with its record
pub some_there : (content : Option Image) (g : Geometry) (directory : OpenedDirectory) → 0 < blocks_of g → AreNumbersOf g content directory.dinode directory.opened.numbers.items
    → directory.opened.count ≡ min (directory.dinode.size / 512) 2048 → IfSome content (λ image. IsOfRecord g (block image) directory.dinode (Some directory))
some_there None g directory some read count = tt
some_there (Some image) g directory some read count = λ i known.
    let blocks = block image in
    let d = directory.dinode in
    let size = size_of_directory g i (used_inode blocks d) known.right known.mode in
    record {
      there = known.there;
      mode = known.mode;
      count = omega (arith, count, size);
      chunks = record_opened (Some image) g d directory.opened some count read i known.mode known.right;
      numbers = read (pointer_inside g i blocks d known.right some);
    }

-- the directory of the record of inode i is directory i
pub of_record : (content now : Option Image) (g h : Geometry) (i : ℕ) (found : Option Dinode) (d : Dinode) (result : Result (Option OpenedDirectory) StoreError) → i < inodes_of g → found ≡ Some d → h ≡ g
    → now ≡ content → IfSome content (λ image. found ≡ directory_at g (block image) i) → IfSome now (λ image. IfOk result (IsOfRecord h (block image) d))
    → IfSome content (λ image. IfOk result (IsDirectoryRead g (block image) i))
of_record None now g h i found d result within is geometry same told read = tt
of_record (Some image) now g h i found d (Err error) within is geometry same told read = tt
of_record (Some image) now g h i found d (Ok directory) within is geometry same told read = λ right.
    let here = subst (λ (o : Option Image). IfSome o (λ image. IsOfRecord h (block image) d directory)) same read in
    let there = subst (λ (k : Geometry). IsOfRecord k (block image) d directory) geometry here in
    there i (right_record g (block image) i d within (sym told ∙ is) right)

-- its chunks are those of the tree
pub chunks_there : (content : Option Image) (g : Geometry) (i : ℕ) (found : Option OpenedDirectory) (directory : OpenedDirectory) → found ≡ Some directory → i < inodes_of g
    → IfSome content (λ image. IsDirectoryRead g (block image) i found) → IfSome content (λ image. IsOpened g (block image) i directory.opened)
chunks_there None g i found directory is within read = tt
chunks_there (Some image) g i found directory is within read = λ right.
    let blocks = block image in
    let d = directory.dinode in
    let has = subst (λ (o : Option OpenedDirectory). IsThisDirectory g blocks i o) is (read right) in
    let record_is : directory_at g blocks i ≡ Some d =
    ap (λ (o : Option (Option Dinode)). only_directory (option_flatten o)) has.there ∙ ap (λ (b : Bool). if b then Some d else None) has.mode in
    chunks_in_tree g blocks i within ∙ ap (λ (o : Option Dinode). option_map_or (slots_at blocks) o []) record_is ∙ has.chunks

no_chunks : (o : Option Node) → option_map_or is_directory_node o false ≡ false → option_map_or chunks_of_node o [] ≡ []
no_chunks None none = refl
no_chunks (Some (File file)) none = refl
no_chunks (Some (Directory directory)) none = absurd (cc)
no_chunks (Some (Link link)) none = refl

-- what is no directory has none
pub none_to_open : (content : Option Image) (g : Geometry) (i : ℕ) (found : Option OpenedDirectory) (opened : Opened) → found ≡ None → opened.count ≡ 0
    → IfSome content (λ image. IsDirectoryRead g (block image) i found) → IfSome content (λ image. IsOpened g (block image) i opened)
none_to_open None g i found opened is count read = tt
none_to_open (Some image) g i found opened is count read = λ right.
    let blocks = block image in
    let none = subst (λ (o : Option OpenedDirectory). IsThisDirectory g blocks i o) is (read right) in
    no_chunks (tree_of g blocks i) none ∙ sym (ap (λ (n : ℕ). chunks_from blocks opened.numbers.items 0 n) count)
