-- What the image of the worked volume with one file mounts as.
use Rattle.std.proofs.Common.{◌≡◌, ◌≤◌, ◌<◌, ◌⊎◌, ℕ, zero, suc, ◌+◌, ◌*◌, ◌/◌, ◌%◌, Bool, true, false, List, [], ◌∷◌, length, take, drop, Option, Some, None, refl, sym, ap, subst, inl, inr, ◌∙◌, arith}
use Rattle.std.specs.Prelude.{nat_lt, nat_le, not, ◌==◌, codes, map, slice_index, option_map, option_and_then, IsSomeAnd}
use Rattle.std.specs.List.{list_any, flat_map, range_with_len}
use Rattle.std.proofs.lemmas.Bool.{cases_eq, cases_lt, not-false, eqb-true, leb-true, lt-ltb, le-ltb}
use Rattle.std.proofs.lemmas.List.Elements.{All-nil}
use Rattle.std.proofs.lemmas.Option.{slice_get_past}
use Rattle.lufs_base.specs.Fields.{number_in}
use Rattle.lufs_base.specs.declared.geometry.Geometry.{Geometry}
use Rattle.lufs_base.specs.Layout.{header_sector, ring_place, superblock_sector}
use Rattle.volume_model.specs.Format.{Blocks, Image, sector, sectors_of, block, geometry_of, super_bytes, super_of, group_bytes, dinode_bytes, clear_bits, group_of, dinode_of, numbers_in, slots_in}
use Rattle.volume_model.specs.MkfsImage.{made_block, made_header}
use Rattle.volume_model.specs.Log.{recovered, log_with, transactions_from, WithHeader, Listed, header_bytes, header_of, trailer_of, run_after, front_of}
use Rattle.volume_model.specs.Sound.{Reading, InodeState, Tree, AreApart, HasShape, MountsAs, HasNoLaterIdent, finding_of, reading_of, claims_of, used_of, used_at, node_of, tree_of, shape_of}
use Rattle.volume_model.specs.Worked.{smallest}
use Rattle.volume_model.proofs.ReplayLaws.{nothing_replayed}
use Rattle.history_model.specs.CrashSafety.{HasKept}
use Rattle.history_model.specs.WorkedTrees.{directory_of, first_chunk, slot}
use Rattle.worked_history.specs.Images.{file_volume, file_image, file_of, tree_of_file, first_letters}
use Rattle.history_rules.proofs.StepsLaws.{none_in_range}
use Rattle.history_rules.proofs.SmallTreeLaws.{past_nodes}
use Rattle.history_rules.proofs.BlockImageLaws.{length-blocks, block_of_blocks, block_past, sector_of_block}

-- the blocks and the sectors of the image
abbrev blocks_there : Blocks
blocks_there b = elim (nat_lt b 99) [ true ↦ file_volume b | false ↦ [] ]

abbrev sectors_there : ℕ → List ℕ
sectors_there k = take 512 (drop (512 * (k % 8)) (blocks_there (k / 8)))

no_odd_block : list_any (λ b. not (length (file_volume b) == 4096)) (range_with_len 0 99) ≡ false
unfolding made_block super_bytes header_bytes group_bytes dinode_bytes
no_odd_block = refl

all_whole : (b : ℕ) → b < 99 → length (file_volume (0 + b)) ≡ 4096
all_whole b less =
    let at : 0 + b ≡ b = omega arith in
    ap (λ (k : ℕ). length (file_volume k)) at
    ∙ eqb-true (length (file_volume b)) 4096 (not-false (length (file_volume b) == 4096) (none_in_range (λ k. not (length (file_volume k) == 4096)) 99 no_odd_block b less))

nothing_found : finding_of smallest (reading_of smallest blocks_there) [] ≡ None
unfolding number_in made_block super_bytes header_bytes clear_bits group_bytes group_of dinode_bytes dinode_of numbers_in slots_in reading_of claims_of finding_of
nothing_found = refl

super_there : super_of (sectors_there superblock_sector) 792 ≡ Some smallest
unfolding number_in made_block super_bytes header_bytes group_bytes dinode_bytes super_of
super_there = refl

log_there : log_with smallest (sectors_there (header_sector smallest)) (λ place. sectors_there (ring_place smallest place)) ≡ WithHeader made_header (Listed [])
unfolding number_in made_block super_bytes header_bytes group_bytes dinode_bytes header_of log_with transactions_from run_after front_of
log_there = refl

header_there : header_of smallest (sectors_there (header_sector smallest)) ≡ Some made_header
unfolding number_in made_block super_bytes header_bytes group_bytes dinode_bytes header_of
header_there = refl

no_later_ident : list_any (λ place. not (nat_le (trailer_of (sectors_there (ring_place smallest place))).ident 1)) (range_with_len 0 255) ≡ false
unfolding number_in made_block super_bytes header_bytes group_bytes dinode_bytes
no_later_ident = refl

letters_there : blocks_there 38 ≡ first_letters
unfolding made_block super_bytes header_bytes group_bytes dinode_bytes
letters_there = refl

number_there : IsSomeAnd (used_at (reading_of smallest blocks_there) 3) (λ u. slice_index u.numbers 0 ≡ 38)
unfolding number_in made_block super_bytes header_bytes clear_bits group_bytes group_of dinode_bytes dinode_of numbers_in slots_in reading_of
number_there = refl

few_inodes : length (reading_of smallest blocks_there).inodes ≡ 32
unfolding number_in made_block super_bytes header_bytes clear_bits group_bytes group_of dinode_bytes dinode_of numbers_in slots_in reading_of
few_inodes = refl

first_nodes : map (tree_of smallest blocks_there) (range_with_len 0 32) ≡ map (tree_of_file first_letters) (range_with_len 0 32)
unfolding number_in made_block super_bytes header_bytes clear_bits group_bytes group_of dinode_bytes dinode_of numbers_in slots_in reading_of tree_of
first_nodes = refl

-- what two functions give, number by number
same_at : {X : Type 0} (f h : ℕ → Option X) (len a i : ℕ) → map f (range_with_len a len) ≡ map h (range_with_len a len) → a ≤ i → i < a + len → f i ≡ h i
same_at f h zero a i same low high = absurd (omega arith)
same_at f h (suc len) a i same low high = elim (cases_eq a i) [
  | inl at ↦ let first : f a ≡ h a = cc in ap f (sym at) ∙ first ∙ ap h at
  | inr apart ↦ let rest : map f (range_with_len (a + 1) len) ≡ map h (range_with_len (a + 1) len) = cc in same_at f h len (a + 1) i rest (omega arith) (omega arith)
]

tree_there : tree_of smallest blocks_there ≡ tree_of_file first_letters
unfolding tree_of
tree_there = λ t i. at_inode i (cases_lt i 32) t where
  at_inode : (i : ℕ) → (i < 32) ⊎ (32 ≤ i) → tree_of smallest blocks_there i ≡ tree_of_file first_letters i
  at_inode i (inl less) = same_at (tree_of smallest blocks_there) (tree_of_file first_letters) 32 0 i first_nodes (omega arith) (omega arith)
  at_inode i (inr past) =
      ap (λ (o : Option InodeState). option_map (node_of blocks_there) (option_and_then used_of o)) (slice_get_past (reading_of smallest blocks_there).inodes i (omega (arith, few_inodes)))
      ∙ sym (past_nodes (directory_of (first_chunk 2 2 (slot 3 488 (codes "a") ∷ []) ∷ []) ∷ (file_of first_letters ∷ [])) i (omega arith))

-- the image is made of these blocks
pub length_there : length file_image ≡ 405504
unfolding file_image
length_there = length-blocks file_volume 0 99 all_whole

block_there : block file_image ≡ blocks_there
unfolding file_image
block_there = λ t b. at_block b (cases_lt b 99) t where
  at_block : (b : ℕ) → (b < 99) ⊎ (99 ≤ b) → block (flat_map file_volume (range_with_len 0 99)) b ≡ blocks_there b
  at_block b (inl less) =
      let at : 0 + b ≡ b = omega arith in
      block_of_blocks file_volume 0 99 b all_whole less ∙ ap file_volume at
      ∙ sym (ap (λ (low : Bool). let bytes : List ℕ = elim low [ true ↦ file_volume b | false ↦ [] ] in bytes) (lt-ltb b 99 less))
  at_block b (inr past) =
      block_past (flat_map file_volume (range_with_len 0 99)) b (omega (arith, length-blocks file_volume 0 99 all_whole))
      ∙ sym (ap (λ (low : Bool). let bytes : List ℕ = elim low [ true ↦ file_volume b | false ↦ [] ] in bytes) (le-ltb b 99 past))

sector_there : sector file_image ≡ sectors_there
sector_there = λ t k. (sector_of_block file_image k ∙ ap (λ (blocks : Blocks). take 512 (drop (512 * (k % 8)) (blocks (k / 8)))) block_there) t

geometry_there : geometry_of file_image ≡ Some smallest
geometry_there =
    let sectors : sectors_of file_image ≡ 792 = ap (λ (n : ℕ). n / 512) length_there in
    (λ t. super_of (sector_there t superblock_sector) (sectors t)) ∙ super_there

pub recovered_there : recovered smallest file_image ≡ Some file_image
recovered_there = nothing_replayed smallest file_image made_header ((λ t. log_with smallest (sector_there t (header_sector smallest)) (λ place. sector_there t (ring_place smallest place))) ∙ log_there)

none_held : (g : Geometry) (r : Reading) → AreApart g r []
none_held g r = record {
  inodes = λ i j d before inside. absurd (omega arith);
  blocks = λ i j d before inside. absurd (omega arith);
  inodes_usable = All-nil _;
  inodes_free = All-nil _;
  blocks_body = All-nil _;
  blocks_free = All-nil _;
}

pub mounts_there : MountsAs file_image (shape_of (tree_of_file first_letters))
mounts_there =
    let shape : Tree = shape_of (tree_of_file first_letters) in
    let has : HasShape smallest file_image shape = record {
      sound = record { rules = ap (λ (blocks : Blocks). finding_of smallest (reading_of smallest blocks) []) block_there ∙ nothing_found; apart = none_held smallest (reading_of smallest (block file_image)) };
      has = ap (λ (blocks : Blocks). shape_of (tree_of smallest blocks)) block_there ∙ ap shape_of tree_there;
    } in
    subst (λ (o : Option Geometry). IsSomeAnd o (λ g. IsSomeAnd (recovered g file_image) (λ content. HasShape g content shape))) (sym geometry_there)
    (subst (λ (o : Option Image). IsSomeAnd o (λ content. HasShape smallest content shape)) (sym recovered_there) has)

pub idents_there : HasNoLaterIdent smallest file_image
idents_there = record {
  header = made_header;
  reads = ap (λ (s : List ℕ). header_of smallest s) (λ t. sector_there t (header_sector smallest)) ∙ header_there;
  idents = λ place less.
      let low : nat_le (trailer_of (sectors_there (ring_place smallest place))).ident 1 ≡ true =
      not-false (nat_le (trailer_of (sectors_there (ring_place smallest place))).ident 1)
      (none_in_range (λ k. not (nat_le (trailer_of (sectors_there (ring_place smallest k))).ident 1)) 255 no_later_ident place less) in
      subst (λ (s : ℕ → List ℕ). (trailer_of (s (ring_place smallest place))).ident ≤ 1) (sym sector_there)
      (leb-true (trailer_of (sectors_there (ring_place smallest place))).ident 1 low);
}

map_some : {X : Type 0} {P Q : X → Type 0} (o : Option X) → IsSomeAnd o P → ((x : X) → P x → Q x) → IsSomeAnd o Q
map_some None is keeps = absurd is
map_some (Some x) is keeps = keeps x is

-- a byte of the file, in its one block
pub byte_there : (p : ℕ) → p < 4096 → HasKept smallest file_image 3 p (slice_index first_letters (p % 4096))
byte_there p less =
    let first : p / 4096 ≡ 0 = omega arith in
    subst (λ (blocks : Blocks). IsSomeAnd (used_at (reading_of smallest blocks) 3) (λ u. slice_index (blocks (slice_index u.numbers (p / 4096))) (p % 4096) ≡ slice_index first_letters (p % 4096))) (sym block_there)
    (map_some (used_at (reading_of smallest blocks_there) 3) number_there (λ u number.
    ap (λ (k : ℕ). slice_index (blocks_there (slice_index u.numbers k)) (p % 4096)) first ∙ ap (λ (b : ℕ). slice_index (blocks_there b) (p % 4096)) number
    ∙ ap (λ (bytes : List ℕ). slice_index bytes (p % 4096)) letters_there))
