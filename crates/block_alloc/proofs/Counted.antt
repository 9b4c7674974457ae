-- The clear bits of group records, counted, and the free inodes and blocks of the tree.
use Rattle.std.proofs.Common.{◌≡◌, ◌≤◌, ◌<◌, ℕ, zero, suc, ◌+◌, ◌-◌, ◌*◌, ◌/◌, ◌^◌, true, false, not, cond, List, [], ◌∷◌, length, Option, Some, None, IfSome, option_map, refl, sym, ap, ◌∙◌, arith}
use Rattle.std.specs.Prelude.{sum_by, min, is_some, if◌then◌else◌}
use Rattle.std.specs.List.{count_by, cons_option, range_with_len}
use Rattle.std.specs.Option.{option_map_or}
use Rattle.std.proofs.Math.Nat.{mul-le-mul_right}
use Rattle.std.proofs.lemmas.List.{length-append}
use Rattle.std.proofs.lemmas.List.Sums.{sum_by-cons}
use Rattle.lufs_base.specs.Layout.{IsGeometry}
use Rattle.lufs_base.specs.declared.geometry.Geometry.{Geometry}
use Rattle.volume_model.specs.declared.finding.Kind.TheVariants.{Fields}
use Rattle.volume_model.specs.declared.hand.Hand.{Hand}
use Rattle.volume_model.specs.Format.{Image, Blocks, GroupRecord, block, bit_at, clear_bits}
use Rattle.volume_model.specs.Sound.{reading_of, record_at, group_at, inodes_in, claims_of, held_inodes, held_blocks, clear_in, clear_blocks_of, clear_inodes_in, clear_inodes_of, Sound, Tree, tree_of, claimed_in_tree, free_inodes_of, free_blocks_of, StandsFor}
use Rattle.volume_laws.proofs.Counting.{one_if, total, total_same, sum_of_range, sum_of_map}
use Rattle.volume_laws.proofs.Members.{Contains_range}
use Rattle.volume_laws.proofs.SoundRules.{rule_kept}
use Rattle.volume_laws.proofs.ClaimFacts.{length-inodes}
use Rattle.volume_laws.proofs.TreeClaims.{claims_of_tree}
use Rattle.volume_laws.proofs.FreeBits.{clear_counted, record_in_volume, clear_and_taken}
use Rattle.volume_laws.proofs.FreeInodes.{clear_and_used}
use Rattle.cyl_groups.specs.declared.group.Group.{Group}
use Rattle.cyl_groups.specs.Group.{record_of}
use Rattle.block_alloc.specs.Records.{AreRecords, AreClear, clear_inodes_in_record, clear_blocks_in_record, clear_inodes_among, clear_blocks_among}
use Rattle.block_alloc.specs.Taking.{AreFree}

-- the clear bits, counted over the numbers of the bits
pub clear_over_range : (bits : List ℕ) (n : ℕ) → count_by (λ i. not (bit_at bits i)) (range_with_len 0 n) ≡ clear_bits bits n
clear_over_range bits n = sum_of_range (λ i. one_if (not (bit_at bits i))) n ∙ sym (clear_counted bits n)

-- no more of the first n bits are clear than there are
pub clear_at_most : (bits : List ℕ) (n : ℕ) → clear_bits bits n ≤ n
unfolding clear_bits
clear_at_most bits zero = omega arith
clear_at_most bits (suc n) = elim (bit_at bits n) as (λ b. clear_bits bits n + (if b then 0 else 1) ≤ suc n) [
  | true ↦ omega (arith, clear_at_most bits n)
  | false ↦ omega (arith, clear_at_most bits n)
]

pub most_clear : (count n : ℕ) (bits : List ℕ) (most : ℕ) → count ≡ clear_bits bits n → n ≤ most → count ≤ most
most_clear count n bits most is few = omega (arith, is, clear_at_most bits n, few)

-- one more is kept where there is one
length-cons_option : {X : Type 0} (o : Option X) (xs : List X) → length (cons_option o xs) ≡ cond (is_some o) 1 0 + length xs
length-cons_option None xs = omega arith
length-cons_option (Some x) xs = omega arith

-- the inodes and the blocks that are in hand, hand by hand
pub inodes_by_hand : (hands : List Hand) → length (held_inodes hands) ≡ count_by (λ hand. is_some hand.inode) hands
inodes_by_hand [] = refl
inodes_by_hand (hand ∷ hands) =
    omega (arith, length-cons_option hand.inode (held_inodes hands), inodes_by_hand hands, sum_by-cons (λ (h : Hand). cond (is_some h.inode) 1 0) hand hands)

pub blocks_by_hand : (hands : List Hand) → length (held_blocks hands) ≡ sum_by (λ hand. length hand.blocks) hands
blocks_by_hand [] = refl
blocks_by_hand (hand ∷ hands) =
    omega (arith, length-append hand.blocks (held_blocks hands), blocks_by_hand hands, sum_by-cons (λ (h : Hand). length h.blocks) hand hands)

sum_alike : {X : Type 0} (f h : X → ℕ) (xs : List X) → ((x : X) → f x ≡ h x) → sum_by f xs ≡ sum_by h xs
sum_alike f h [] same = refl
sum_alike f h (x ∷ xs) same = omega (arith, sum_by-cons f x xs, sum_by-cons h x xs, same x, sum_alike f h xs same)

inodes_in_record : (g : Geometry) (x : Option Group) → clear_inodes_in_record g x ≡ option_map_or (λ group. clear_bits group.inode_bits g.ipg) (option_map record_of x) 0
inodes_in_record g None = refl
inodes_in_record g (Some x) = refl

blocks_in_record : (g : Geometry) (x : Option Group) → clear_blocks_in_record g x ≡ option_map_or (λ group. clear_bits group.block_bits g.bpg) (option_map record_of x) 0
blocks_in_record g None = refl
blocks_in_record g (Some x) = refl

-- the clear bits of the records are those of the reading
pub inodes_of_records : (g : Geometry) (blocks : Blocks) (records : List (Option Group)) → AreRecords (reading_of g blocks) records
    → clear_inodes_among g records ≡ clear_inodes_of g (reading_of g blocks)
unfolding reading_of
inodes_of_records g blocks records so =
    let r = reading_of g blocks in
    let h : Option GroupRecord → ℕ = λ x. option_map_or (λ group. clear_bits group.inode_bits g.ipg) x 0 in
    sum_alike (clear_inodes_in_record g) (λ x. h (option_map record_of x)) records (inodes_in_record g)
    ∙ sym (sum_of_map h (λ x. option_map record_of x) records)
    ∙ ap (sum_by h) so
    ∙ sum_of_map h (group_at g blocks) (range_with_len 0 g.groups)
    ∙ sum_of_range (λ n. h (group_at g blocks n)) g.groups
    ∙ total_same (λ n. h (group_at g blocks n)) (clear_inodes_in g r) g.groups (λ n below. ap h (sym (record_in_volume g blocks n below)))
    ∙ sym (sum_of_range (clear_inodes_in g r) g.groups)

pub blocks_of_records : (g : Geometry) (blocks : Blocks) (records : List (Option Group)) → AreRecords (reading_of g blocks) records
    → clear_blocks_among g records ≡ clear_blocks_of g (reading_of g blocks)
unfolding reading_of
blocks_of_records g blocks records so =
    let r = reading_of g blocks in
    let h : Option GroupRecord → ℕ = λ x. option_map_or (λ group. clear_bits group.block_bits g.bpg) x 0 in
    sum_alike (clear_blocks_in_record g) (λ x. h (option_map record_of x)) records (blocks_in_record g)
    ∙ sym (sum_of_map h (λ x. option_map record_of x) records)
    ∙ ap (sum_by h) so
    ∙ sum_of_map h (group_at g blocks) (range_with_len 0 g.groups)
    ∙ sum_of_range (λ n. h (group_at g blocks n)) g.groups
    ∙ total_same (λ n. h (group_at g blocks n)) (clear_in g r) g.groups (λ n below. ap h (sym (record_in_volume g blocks n below)))
    ∙ sym (sum_of_range (clear_in g r) g.groups)

-- what is free of a tree: the clear bits and what is in hand
pub free_inodes_are : (g : Geometry) (blocks : Blocks) (tree : Tree) (hands : List Hand) (records : List (Option Group)) → IsGeometry g
    → StandsFor g blocks tree hands → AreRecords (reading_of g blocks) records
    → clear_inodes_among g records + length (held_inodes hands) ≡ free_inodes_of g tree
free_inodes_are g blocks tree hands records ok stands so =
    ap (λ (n : ℕ). n + length (held_inodes hands)) (inodes_of_records g blocks records so)
    ∙ clear_and_used g blocks hands stands.sound ok ∙ ap (free_inodes_of g) stands.stands

claims_of_sound : (g : Geometry) (blocks : Blocks) (hands : List Hand) → Sound g blocks hands
    → length (claims_of (reading_of g blocks)) ≡ claimed_in_tree g (tree_of g blocks)
claims_of_sound g blocks hands sound =
    claims_of_tree g blocks (λ i below. rule_kept sound Fields i (Contains_range (inodes_in (reading_of g blocks)) i (omega (arith, below, length-inodes g blocks))))

left_in_tree : (g : Geometry) (blocks : Blocks) (hands : List Hand) → IsGeometry g → Sound g blocks hands
    → clear_blocks_of g (reading_of g blocks) + length (held_blocks hands) ≡ free_blocks_of g (tree_of g blocks)
unfolding free_blocks_of
left_in_tree g blocks hands ok sound = omega (arith, clear_and_taken g blocks hands sound ok, claims_of_sound g blocks hands sound)

pub free_blocks_are : (g : Geometry) (blocks : Blocks) (tree : Tree) (hands : List Hand) (records : List (Option Group)) → IsGeometry g
    → StandsFor g blocks tree hands → AreRecords (reading_of g blocks) records
    → clear_blocks_among g records + length (held_blocks hands) ≡ free_blocks_of g tree
free_blocks_are g blocks tree hands records ok stands so =
    ap (λ (n : ℕ). n + length (held_blocks hands)) (blocks_of_records g blocks records so)
    ∙ left_in_tree g blocks hands ok stands.sound ∙ ap (free_blocks_of g) stands.stands

-- they are few
pub inodes_at_most : (g : Geometry) (tree : Tree) → IsGeometry g → free_inodes_of g tree ≤ 65536
unfolding free_inodes_of
inodes_at_most g tree ok =
    let most : g.groups * g.ipg ≤ 64 * g.ipg = mul-le-mul_right g.ipg ok.groups_high in
    omega (arith, most, ok.ipg_high)

pub blocks_at_most : (g : Geometry) (tree : Tree) → IsGeometry g → free_blocks_of g tree ≤ 131072
unfolding free_blocks_of
blocks_at_most g tree ok =
    let each = g.bpg - (1 + g.ipg / 32) in
    let most : g.groups * each ≤ 64 * each = mul-le-mul_right each ok.groups_high in
    let few : each ≤ 2048 = omega (arith, ok.bpg_high) in
    omega (arith, most, few)

-- the bits that are clear in the first n groups, where the content is told
abbrev pub AreClearTo : Geometry → Option Image → (n inodes blocks : ℕ) → Type 0
AreClearTo g content n inodes blocks = IfSome content (λ image.
    (inodes ≡ total (clear_inodes_in g (reading_of g (block image))) n) × (blocks ≡ total (clear_in g (reading_of g (block image))) n))

pub none_clear : (g : Geometry) (content : Option Image) → AreClearTo g content 0 0 0
none_clear g None = tt
none_clear g (Some image) = (refl, refl)

-- those of one group more
pub one_group_clear : (g read : Geometry) (content now : Option Image) (n inodes blocks more_inodes more_blocks : ℕ) (found : Option Group) → n < g.groups → read ≡ g → now ≡ content
    → IfSome now (λ image. option_map record_of found ≡ group_at read (block image) n)
    → more_inodes ≡ clear_inodes_in_record g found → more_blocks ≡ clear_blocks_in_record g found
    → AreClearTo g content n inodes blocks → AreClearTo g content (n + 1) (inodes + more_inodes) (blocks + more_blocks)
one_group_clear g read None now n inodes blocks more_inodes more_blocks found within geometry same told inodes_are blocks_are before = tt
one_group_clear g read (Some image) now n inodes blocks more_inodes more_blocks found within geometry same told inodes_are blocks_are before =
    let r = reading_of g (block image) in
    let here : option_map record_of found ≡ group_at read (block image) n = rw same at told in
    let is : option_map record_of found ≡ record_at r n =
    here ∙ ap (λ (k : Geometry). group_at k (block image) n) geometry ∙ sym (record_in_volume g (block image) n within) in
    let of_inodes : Option GroupRecord → ℕ = λ o. option_map_or (λ group. clear_bits group.inode_bits g.ipg) o 0 in
    let of_blocks : Option GroupRecord → ℕ = λ o. option_map_or (λ group. clear_bits group.block_bits g.bpg) o 0 in
    let next : n + 1 ≡ suc n = omega arith in (
      omega (arith, before.0, inodes_are, inodes_in_record g found, ap of_inodes is, ap (total (clear_inodes_in g r)) next),
      omega (arith, before.1, blocks_are, blocks_in_record g found, ap of_blocks is, ap (total (clear_in g r)) next),
    )

pub all_clear : (g : Geometry) (content : Option Image) (n inodes blocks : ℕ) → n ≡ g.groups → AreClearTo g content n inodes blocks
    → IfSome content (λ image. AreClear g (block image) inodes blocks)
all_clear g None n inodes blocks end before = tt
all_clear g (Some image) n inodes blocks end before =
    let r = reading_of g (block image) in (
      before.0 ∙ ap (total (clear_inodes_in g r)) end ∙ sym (sum_of_range (clear_inodes_in g r) g.groups),
      before.1 ∙ ap (total (clear_in g r)) end ∙ sym (sum_of_range (clear_in g r) g.groups),
    )

-- what was counted is what is free
pub free_counted : (g : Geometry) (content : Option Image) (tree : Tree) (hands : List Hand) (clear_inodes clear_blocks inodes blocks : ℕ) → IsGeometry g
    → IfSome content (λ image. AreClear g (block image) clear_inodes clear_blocks)
    → inodes ≡ min (clear_inodes + count_by (λ hand. is_some hand.inode) hands) (2 ^ 32 - 1)
    → blocks ≡ min (clear_blocks + min (sum_by (λ hand. length hand.blocks) hands) (2 ^ 64 - 1)) (2 ^ 32 - 1)
    → IfSome content (λ image. StandsFor g (block image) tree hands → AreFree g tree inodes blocks)
free_counted g None tree hands clear_inodes clear_blocks inodes blocks ok clear is_inodes is_blocks = tt
free_counted g (Some image) tree hands clear_inodes clear_blocks inodes blocks ok clear is_inodes is_blocks = λ stands.
    let free : clear_inodes + length (held_inodes hands) ≡ free_inodes_of g tree =
    ap (λ (n : ℕ). n + length (held_inodes hands)) clear.0 ∙ clear_and_used g (block image) hands stands.sound ok ∙ ap (free_inodes_of g) stands.stands in
    let left : clear_blocks + length (held_blocks hands) ≡ free_blocks_of g tree =
    ap (λ (n : ℕ). n + length (held_blocks hands)) clear.1 ∙ left_in_tree g (block image) hands ok stands.sound ∙ ap (free_blocks_of g) stands.stands in
    record {
      inodes = omega (arith, is_inodes, free, inodes_by_hand hands, inodes_at_most g tree ok);
      blocks = omega (arith, is_blocks, left, blocks_by_hand hands, blocks_at_most g tree ok);
    }
