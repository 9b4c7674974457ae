-- What the image of the worked new volume mounts as.
use Rattle.std.proofs.Common.{◌≡◌, ◌≤◌, ◌<◌, ◌⊎◌, ℕ, zero, suc, ◌+◌, ◌*◌, ◌/◌, ◌%◌, Bool, true, false, List, [], ◌∷◌, length, take, drop, Option, Some, None, refl, sym, ap, subst, inl, inr, ◌∙◌, arith}
use Rattle.std.specs.Prelude.{nat_lt, nat_le, not, ◌==◌, map, option_map, option_and_then}
use Rattle.std.specs.List.{list_any, flat_map, range_with_len}
use Rattle.std.proofs.lemmas.Bool.{cases_eq, cases_lt, not-false, eqb-true, leb-true, lt-ltb, le-ltb}
use Rattle.std.proofs.lemmas.List.Elements.{All-nil}
use Rattle.std.proofs.lemmas.Option.{slice_get_past}
use Rattle.lufs_base.specs.Fields.{number_in}
use Rattle.lufs_base.specs.declared.geometry.Geometry.{Geometry}
use Rattle.lufs_base.specs.Layout.{header_sector, ring_place, superblock_sector}
use Rattle.volume_model.specs.Format.{Blocks, sector, sectors_of, block, geometry_of, super_bytes, super_of, group_bytes, dinode_bytes, clear_bits, group_of, dinode_of, numbers_in, slots_in, new_directory}
use Rattle.volume_model.specs.MkfsImage.{made_block, made_header}
use Rattle.volume_model.specs.Log.{log_of, log_with, transactions_from, WithHeader, Listed, header_bytes, header_of, trailer_of, run_after, front_of}
use Rattle.volume_model.specs.Sound.{Reading, InodeState, AreApart, finding_of, reading_of, claims_of, used_of, node_of, tree_of, StandsFor}
use Rattle.volume_model.specs.Worked.{smallest}
use Rattle.history_model.specs.WorkedTrees.{directory_of, new_tree}
use Rattle.history_rules.proofs.StepsLaws.{none_in_range}
use Rattle.history_rules.proofs.BlockImageLaws.{length-blocks, block_of_blocks, block_past, sector_of_block}
use Rattle.history_rules.proofs.SmallTreeLaws.{past_nodes}
use Rattle.history_laws.specs.WorkedSession.{volume_as_made, new_image}

-- the blocks and the sectors of the image
abbrev pub blocks_there : Blocks
blocks_there b = elim (nat_lt b 99) [ true ↦ volume_as_made b | false ↦ [] ]

abbrev sectors_there : ℕ → List ℕ
sectors_there k = take 512 (drop (512 * (k % 8)) (blocks_there (k / 8)))

no_odd_block : list_any (λ b. not (length (volume_as_made b) == 4096)) (range_with_len 0 99) ≡ false
unfolding made_block super_bytes header_bytes group_bytes dinode_bytes
no_odd_block = refl

all_whole : (b : ℕ) → b < 99 → length (volume_as_made (0 + b)) ≡ 4096
all_whole b less =
    let at : 0 + b ≡ b = omega arith in
    ap (λ (k : ℕ). length (volume_as_made k)) at
    ∙ eqb-true (length (volume_as_made b)) 4096 (not-false (length (volume_as_made b) == 4096) (none_in_range (λ k. not (length (volume_as_made k) == 4096)) 99 no_odd_block b less))

nothing_found : finding_of smallest (reading_of smallest blocks_there) [] ≡ None
unfolding number_in made_block super_bytes header_bytes clear_bits group_bytes group_of dinode_bytes dinode_of numbers_in slots_in reading_of claims_of finding_of
nothing_found = refl

super_there : super_of (sectors_there superblock_sector) 792 ≡ Some smallest
unfolding number_in made_block super_bytes header_bytes group_bytes dinode_bytes super_of
super_there = refl

log_there : log_with smallest (sectors_there (header_sector smallest)) (λ place. sectors_there (ring_place smallest place)) ≡ WithHeader made_header (Listed [])
unfolding number_in made_block super_bytes header_bytes group_bytes dinode_bytes header_of log_with transactions_from run_after front_of
log_there = refl

no_later_ident : list_any (λ place. not (nat_le (trailer_of (sectors_there (ring_place smallest place))).ident 1)) (range_with_len 0 255) ≡ false
unfolding number_in made_block super_bytes header_bytes group_bytes dinode_bytes
no_later_ident = refl

few_inodes : length (reading_of smallest blocks_there).inodes ≡ 32
unfolding number_in made_block super_bytes header_bytes clear_bits group_bytes group_of dinode_bytes dinode_of numbers_in slots_in reading_of
few_inodes = refl

first_nodes : map (tree_of smallest blocks_there) (range_with_len 0 32) ≡ map new_tree (range_with_len 0 32)
unfolding number_in made_block super_bytes header_bytes clear_bits group_bytes group_of dinode_bytes dinode_of numbers_in slots_in reading_of tree_of
first_nodes = refl

-- what two functions give, number by number
same_at : {X : Type 0} (f h : ℕ → Option X) (len a i : ℕ) → map f (range_with_len a len) ≡ map h (range_with_len a len) → a ≤ i → i < a + len → f i ≡ h i
same_at f h zero a i same low high = absurd (omega arith)
same_at f h (suc len) a i same low high = elim (cases_eq a i) [
  | inl at ↦ let first : f a ≡ h a = cc in ap f (sym at) ∙ first ∙ ap h at
  | inr apart ↦ let rest : map f (range_with_len (a + 1) len) ≡ map h (range_with_len (a + 1) len) = cc in same_at f h len (a + 1) i rest (omega arith) (omega arith)
]

tree_there : tree_of smallest blocks_there ≡ new_tree
unfolding tree_of
tree_there = λ t i. at_inode i (cases_lt i 32) t where
  at_inode : (i : ℕ) → (i < 32) ⊎ (32 ≤ i) → tree_of smallest blocks_there i ≡ new_tree i
  at_inode i (inl less) = same_at (tree_of smallest blocks_there) new_tree 32 0 i first_nodes (omega arith) (omega arith)
  at_inode i (inr past) =
      ap (λ (o : Option InodeState). option_map (node_of blocks_there) (option_and_then used_of o)) (slice_get_past (reading_of smallest blocks_there).inodes i (omega (arith, few_inodes)))
      ∙ sym (past_nodes (directory_of (new_directory 2 2 ∷ []) ∷ []) i (omega arith))

-- the image is made of these blocks
pub length_there : length new_image ≡ 405504
unfolding new_image
length_there = length-blocks volume_as_made 0 99 all_whole

pub block_there : block new_image ≡ blocks_there
unfolding new_image
block_there = λ t b. at_block b (cases_lt b 99) t where
  at_block : (b : ℕ) → (b < 99) ⊎ (99 ≤ b) → block (flat_map volume_as_made (range_with_len 0 99)) b ≡ blocks_there b
  at_block b (inl less) =
      let at : 0 + b ≡ b = omega arith in
      block_of_blocks volume_as_made 0 99 b all_whole less ∙ ap volume_as_made at
      ∙ sym (ap (λ (low : Bool). let bytes : List ℕ = elim low [ true ↦ volume_as_made b | false ↦ [] ] in bytes) (lt-ltb b 99 less))
  at_block b (inr past) =
      block_past (flat_map volume_as_made (range_with_len 0 99)) b (omega (arith, length-blocks volume_as_made 0 99 all_whole))
      ∙ sym (ap (λ (low : Bool). let bytes : List ℕ = elim low [ true ↦ volume_as_made b | false ↦ [] ] in bytes) (le-ltb b 99 past))

sector_there : sector new_image ≡ sectors_there
sector_there = λ t k. (sector_of_block new_image k ∙ ap (λ (blocks : Blocks). take 512 (drop (512 * (k % 8)) (blocks (k / 8)))) block_there) t

pub geometry_there : geometry_of new_image ≡ Some smallest
geometry_there =
    let sectors : sectors_of new_image ≡ 792 = ap (λ (n : ℕ). n / 512) length_there in
    (λ t. super_of (sector_there t superblock_sector) (sectors t)) ∙ super_there

pub empty_log : log_of smallest new_image ≡ WithHeader made_header (Listed [])
empty_log = (λ t. log_with smallest (sector_there t (header_sector smallest)) (λ place. sector_there t (ring_place smallest place))) ∙ log_there

pub idents_there : (place : ℕ) → place < 255 → (trailer_of (sector new_image (ring_place smallest place))).ident ≤ 1
idents_there place less =
    let low : nat_le (trailer_of (sectors_there (ring_place smallest place))).ident 1 ≡ true =
    not-false (nat_le (trailer_of (sectors_there (ring_place smallest place))).ident 1)
    (none_in_range (λ k. not (nat_le (trailer_of (sectors_there (ring_place smallest k))).ident 1)) 255 no_later_ident place less) in
    subst (λ (s : ℕ → List ℕ). (trailer_of (s (ring_place smallest place))).ident ≤ 1) (sym sector_there)
    (leb-true (trailer_of (sectors_there (ring_place smallest place))).ident 1 low)

none_held : (g : Geometry) (r : Reading) → AreApart g r []
none_held g r = record {
  inodes = λ i j d before inside. absurd (omega arith);
  blocks = λ i j d before inside. absurd (omega arith);
  inodes_usable = All-nil _;
  inodes_free = All-nil _;
  blocks_body = All-nil _;
  blocks_free = All-nil _;
}

pub stands_there : StandsFor smallest (block new_image) new_tree []
stands_there = record {
  sound = record { rules = ap (λ (blocks : Blocks). finding_of smallest (reading_of smallest blocks) []) block_there ∙ nothing_found; apart = none_held smallest (reading_of smallest (block new_image)) };
  stands = ap (λ (blocks : Blocks). tree_of smallest blocks) block_there ∙ tree_there;
}
