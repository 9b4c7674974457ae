-- The text of a link by the record that was read.
use Rattle.std.proofs.Common.{◌≡◌, ◌<◌, inl, inr, ℕ, Bool, true, false, not, ◌||◌, List, length, take, slice_index, Option, Some, None, IfSome, refl, sym, ap, subst, ◌∙◌, arith}
use Rattle.std.specs.List.{flat_map}
use Rattle.std.specs.Option.{option_map, option_map_or}
use Rattle.std.proofs.lemmas.Bool.{cases_Bool, not-false, false≢true}
use Rattle.std.proofs.lemmas.List.{get_or_append_left}
use Rattle.lufs_base.specs.Layout.{blocks_of}
use Rattle.lufs_base.specs.declared.geometry.Geometry.{Geometry}
use Rattle.volume_model.specs.declared.inode.Dinode.{Dinode}
use Rattle.volume_model.specs.declared.hand.Hand.{Hand}
use Rattle.volume_model.specs.Format.{Blocks, Image, block, is_file, is_directory, is_link, IsDinode}
use Rattle.volume_model.specs.Sound.{UsedInode, used_inode, reading_of, used_at, numbers_of, named_pointers, pointers_at, block_numbered, has_right_numbers, has_bad_numbers, Node, Tree, node_of, StandsFor}
use Rattle.volume_laws.proofs.NodeFacts.{node_of_file, node_of_directory, node_of_other, link_is_other}
use Rattle.volume_laws.proofs.NodeFields.{mode_in_use}
use Rattle.block_numbers.proofs.RightNumbers.{numbers_inside}
use Rattle.path_walk.specs.Steps.{text_of_node, text_at}
use Rattle.path_walk.proofs.TreeFacts.{OfTree, right_numbers}
use Rattle.path_walk.proofs.FoundNodes.{node_read, node_of_read}

-- this record was read, if inode i is in use
abbrev pub IsRead : Option Image → Geometry → (i : ℕ) → Option Dinode → Type 0
IsRead content g i found = IfSome content (λ image. option_map (used_inode (block image)) found ≡ used_at (reading_of g (block image)) i)

text_of_read : (g : Geometry) (blocks : Blocks) (tree : Tree) (hands : List Hand) (i : ℕ) (found : Option Dinode) → StandsFor g blocks tree hands
    → option_map (used_inode blocks) found ≡ used_at (reading_of g blocks) i → text_at tree i ≡ option_map_or text_of_node (node_read blocks found) None
text_of_read g blocks tree hands i found stands read =
    ap (λ (o : Option Node). option_map_or text_of_node o None) (sym (ap (λ (t : Tree). t i) stands.stands) ∙ node_of_read g blocks i found read)

-- what isn't in use has no text
pub no_inode : (content : Option Image) (g : Geometry) (i : ℕ) (found : Option Dinode) → found ≡ None → IsRead content g i found
    → OfTree content g (λ tree. ◌≡◌ {A = Option (List ℕ)} None (text_at tree i))
no_inode None g i found none read = tt
no_inode (Some image) g i found none read = λ tree hands stands.
    sym (text_of_read g (block image) tree hands i found stands read
    ∙ ap (λ (o : Option Dinode). option_map_or text_of_node (node_read (block image) o) None) none)

textless : (blocks : Blocks) (u : UsedInode) → (is_file u.inode.mode ≡ false → is_directory u.inode.mode ≡ true) → text_of_node (node_of blocks u) ≡ None
textless blocks u other = elim (cases_Bool (is_file u.inode.mode)) [
  | inl file ↦ ap text_of_node (node_of_file blocks u file)
  | inr no_file ↦ ap text_of_node (node_of_directory blocks u (other no_file))
]

third : (a b c : Bool) → (a || b || c) ≡ true → c ≡ false → a ≡ false → b ≡ true
third true b c any no_c no_a = absurd (false≢true (sym no_a))
third false true c any no_c no_a = refl
third false false c any no_c no_a = absurd (false≢true (sym no_c ∙ any))

-- what is no link has none
pub no_link : (content : Option Image) (g : Geometry) (i : ℕ) (found : Option Dinode) (d : Dinode) → found ≡ Some d → is_link d.mode ≡ false → IsRead content g i found
    → OfTree content g (λ tree. ◌≡◌ {A = Option (List ℕ)} None (text_at tree i))
no_link None g i found d some plain read = tt
no_link (Some image) g i found d some plain read = λ tree hands stands.
    let blocks = block image in
    let u = used_inode blocks d in
    let used : used_at (reading_of g blocks) i ≡ Some u = sym read ∙ ap (option_map (used_inode blocks)) some in
    let mode = mode_in_use g blocks i u used in
    sym (text_of_read g blocks tree hands i found stands read
    ∙ ap (λ (o : Option Dinode). option_map_or text_of_node (node_read blocks o) None) some
    ∙ textless blocks u (third (is_file d.mode) (is_directory d.mode) (is_link d.mode) mode plain))

-- the numbers of an inode in use, where none is wrong
numbers_right : (g : Geometry) (blocks : Blocks) (i : ℕ) (u : UsedInode) → used_at (reading_of g blocks) i ≡ Some u → has_bad_numbers g (reading_of g blocks) i ≡ false
    → has_right_numbers g i u ≡ true
numbers_right g blocks i u used right =
    not-false (has_right_numbers g i u) (subst (λ (o : Option UsedInode). option_map_or (λ v. not (has_right_numbers g i v)) o false ≡ false) used right)

-- the first number of an inode is its first direct one
first_number : (blocks : Blocks) (d : Dinode) → length d.direct ≡ 12 → slice_index (numbers_of blocks d) 0 ≡ slice_index d.direct 0
first_number blocks d size = get_or_append_left d.direct (flat_map (λ p. pointers_at blocks p.block) (named_pointers d)) 0 0 (omega (arith, size))

-- a link has the text that its block begins with
pub a_link : (content now : Option Image) (g h : Geometry) (i version : ℕ) (found : Option Dinode) (d : Dinode) (text : List ℕ) → found ≡ Some d → is_link d.mode ≡ true
    → IfSome found (IsDinode version) → now ≡ content → h ≡ g → IsRead content g i found
    → IfSome now (λ image. slice_index d.direct 0 < blocks_of h → text ≡ take d.size (block_numbered (block image) (slice_index d.direct 0)))
    → OfTree content g (λ tree. Some text ≡ text_at tree i)
a_link None now g h i version found d text is link dinode same geometry read told = tt
a_link (Some image) now g h i version found d text is link dinode same geometry read told = λ tree hands stands.
    let blocks = block image in
    let u = used_inode blocks d in
    let used : used_at (reading_of g blocks) i ≡ Some u = sym read ∙ ap (option_map (used_inode blocks)) is in
    let types = link_is_other d.mode link in
    let number = first_number blocks d (subst (λ (o : Option Dinode). IfSome o (IsDinode version)) is dinode).direct_size in
    let some : 0 < blocks_of g = omega arith in
    let right = numbers_right g blocks i u used (right_numbers g blocks tree hands i stands) in
    let inside : slice_index d.direct 0 < blocks_of h =
    subst (λ (k : Geometry). slice_index d.direct 0 < blocks_of k) (sym geometry) (subst (λ (n : ℕ). n < blocks_of g) number (numbers_inside g i u right some 0)) in
    let here = subst (λ (o : Option Image). IfSome o (λ image. slice_index d.direct 0 < blocks_of h → text ≡ take d.size (block_numbered (block image) (slice_index d.direct 0)))) same told in
    ap (λ (l : List ℕ). Some l) (here inside ∙ ap (λ (n : ℕ). take d.size (block_numbered blocks n)) (sym number))
    ∙ sym (text_of_read g blocks tree hands i found stands read
    ∙ ap (λ (o : Option Dinode). option_map_or text_of_node (node_read blocks o) None) is
    ∙ ap text_of_node (node_of_other blocks u types.0 types.1))
