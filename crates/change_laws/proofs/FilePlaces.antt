-- A file with more claims: its places are right, what is stored stays right, and its node is read again.
use Rattle.std.proofs.Common.{◌≡◌, ◌<◌, ◌≤◌, inl, inr, ℕ, ◌+◌, ◌*◌, ◌/◌, ◌%◌, Bool, true, ◌&&◌, ◌||◌, List, [], length, map, drop, set, Some, sym, ap, ◌∙◌, subst, arith}
use Rattle.std.specs.Prelude.{◌==◌, nat_le, nat_lt, is_some}
use Rattle.std.specs.List.{list_all, range_with_len}
use Rattle.std.specs.Option.{option_map}
use Rattle.std.proofs.lemmas.Bool.{and_parts, and_from, or_left, or_cases, cond-false, le-leb, leb-true, both_ways}
use Rattle.std.proofs.lemmas.List.{length-set, get_or-set_other}
use Rattle.std.proofs.lemmas.Grind.{get_or_default_zero}
use Rattle.lufs_base.specs.Fields.{are_zeros}
use Rattle.lufs_base.specs.declared.geometry.Geometry.{Geometry}
use Rattle.volume_model.specs.declared.inode.Dinode.{Dinode}
use Rattle.volume_model.specs.declared.hand.Hand.{Hand}
use Rattle.volume_model.specs.Format.{Blocks, is_file, is_directory, is_link}
use Rattle.volume_model.specs.Sound.{UsedInode, InodeState, InUse, reading_of, state_at, used_of, used_at, used_inode, numbers_of, chunk_at, chunks_at, size_in_blocks, first_index, most_blocks, has_right_size, IsStored, FileNode, Node, File, with_node, attributes_of, file_blocks, pointer_names, node_of, tree_of}
use Rattle.volume_laws.proofs.NodeFacts.{node_of_file, link_is_other, file_is_no_directory}
use Rattle.change_laws.specs.Exchange.{Exchanges}
use Rattle.change_laws.specs.Plans.{OnlyInodeChanges, HoldMore}
use Rattle.change_laws.proofs.InodeWrites.{stored_after}
use Rattle.change_laws.proofs.Extended.{ClaimsMore, HasRightPlaces, zero_at, zeros_from, exchange_with_more}

-- what is no directory has no chunks
pub no_chunks : (blocks : Blocks) (d : Dinode) → is_file d.mode ≡ true → list_all is_some (chunks_at blocks d) ≡ true
no_chunks blocks d file =
    ap (list_all is_some) (cond-false (is_directory d.mode) (map (chunk_at blocks (numbers_of blocks d)) (range_with_len 0 (d.size / 512))) [] (file_is_no_directory d.mode file))

-- the places of a file
pub file_places : (g : Geometry) (v : UsedInode) → is_file v.inode.mode ≡ true → v.inode.size ≤ 4096 * most_blocks g
    → are_zeros (drop (size_in_blocks v.inode.size) v.numbers) ≡ true
    → list_all (λ p. p.block == 0 || nat_lt (first_index p.name) (size_in_blocks v.inode.size)) v.pointers ≡ true → HasRightPlaces g v
file_places g v file few past pointers = record {
  size = or_left _ _ (or_left _ _ (and_from (is_file v.inode.mode) (nat_le v.inode.size (4096 * most_blocks g)) file (le-leb v.inode.size (4096 * most_blocks g) few)));
  none_past = past;
  pointers = pointers;
  no_hole = or_left (is_file v.inode.mode) _ file;
}

abbrev sized_as_file : Geometry → Dinode → Bool
sized_as_file g d = is_file d.mode && nat_le d.size (4096 * most_blocks g)

abbrev sized_as_directory : Dinode → Bool
sized_as_directory d = is_directory d.mode && d.size % 512 == 0 && nat_le 512 d.size && nat_le d.size (4096 * 256)

abbrev sized_as_link : Dinode → Bool
sized_as_link d = is_link d.mode && nat_le 1 d.size && nat_le d.size 1024

-- a file is no larger than its numbers reach
pub file_fits : (g : Geometry) (d : Dinode) → is_file d.mode ≡ true → has_right_size g d ≡ true → d.size ≤ 4096 * most_blocks g
file_fits g d file right = elim (or_cases (sized_as_file g d || sized_as_directory d) (sized_as_link d) right) [
  | inl most ↦ elim (or_cases (sized_as_file g d) (sized_as_directory d) most) [
    | inl both ↦ leb-true d.size (4096 * most_blocks g) (and_parts (is_file d.mode) (nat_le d.size (4096 * most_blocks g)) both).1
    | inr directory ↦
        let is : is_directory d.mode ≡ true =
        (and_parts (is_directory d.mode) (d.size % 512 == 0) (and_parts (is_directory d.mode && d.size % 512 == 0) (nat_le 512 d.size)
        (and_parts (is_directory d.mode && d.size % 512 == 0 && nat_le 512 d.size) (nat_le d.size (4096 * 256)) directory).0).0).0 in
        absurd (both_ways (is_directory d.mode) (file_is_no_directory d.mode file) is)
  ]
  | inr link ↦
      let is : is_link d.mode ≡ true = (and_parts (is_link d.mode) (nat_le 1 d.size) (and_parts (is_link d.mode && nat_le 1 d.size) (nat_le d.size 1024) link).0).0 in
      absurd (both_ways (is_file d.mode) (link_is_other d.mode is).0 file)
]

-- a number below the size in the place of 0 leaves those past it
pub past_attached : (numbers : List ℕ) (s k b : ℕ) → k < s → are_zeros (drop s numbers) ≡ true → are_zeros (drop s (set numbers k b)) ≡ true
past_attached numbers s k b below zeros = zeros_from (set numbers k b) s (λ j high inside d.
    get_or-set_other numbers k j b d (λ same. omega (arith, same, high, below))
    ∙ get_or_default_zero numbers j d (omega (arith, inside, length-set numbers k b)) ∙ zero_at numbers s j zeros high)

-- and larger sizes too
pub past_larger : (numbers : List ℕ) (s t : ℕ) → s ≤ t → are_zeros (drop s numbers) ≡ true → are_zeros (drop t numbers) ≡ true
past_larger numbers s t more zeros = zeros_from numbers t (λ j high inside d.
    get_or_default_zero numbers j d inside ∙ zero_at numbers s j zeros (omega (arith, high, more)))

module _ (g : Geometry) (blocks others : Blocks) (i : ℕ) (u : UsedInode) (d : Dinode) (taken : List ℕ) (hands after : List Hand)
    (stored : IsStored g (reading_of g blocks) hands) (used : used_at (reading_of g blocks) i ≡ Some u) (only : OnlyInodeChanges g blocks others i)
    (state : state_at g others i ≡ InUse (used_inode others d)) (file : is_file d.mode ≡ true) where
  pub file_stored_with : ClaimsMore i u (used_inode others d) taken → HasRightPlaces g (used_inode others d) → d.blocks ≡ u.inode.blocks + length taken
      → HoldMore hands after [] taken → IsStored g (reading_of g others) after
  file_stored_with more places count held =
      let r = reading_of g blocks in
      let v = used_inode others d in
      let exchange = exchange_with_more g r i u v taken hands after stored used more held places count (no_chunks others d file) in
      stored_after g blocks others i hands after stored only (subst (λ (s : InodeState). Exchanges g r i s hands after) (sym state) exchange)

  pub file_tree_with : (node : FileNode) → file_blocks others (used_inode others d) ≡ node.blocks → pointer_names (used_inode others d) ≡ node.pointers
      → tree_of g others ≡ with_node (tree_of g blocks) i (Some (File (record { attributes = attributes_of d; size = d.size; blocks = node.blocks; pointers = node.pointers })))
  file_tree_with node same names =
      only.tree ∙ ap (λ (s : InodeState). with_node (tree_of g blocks) i (option_map (node_of others) (used_of s))) state
      ∙ ap (λ (n : Node). with_node (tree_of g blocks) i (Some n))
      (node_of_file others (used_inode others d) file ∙ (λ t. File (record { attributes = attributes_of d; size = d.size; blocks = same t; pointers = names t })))
