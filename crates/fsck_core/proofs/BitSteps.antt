-- The bits of groups and their counts, by the records that a check keeps.
use Rattle.std.proofs.Common.{◌≡◌, ◌<◌, ◌≤◌, inl, inr, ℕ, ◌+◌, ◌-◌, ◌*◌, ◌/◌, ◌%◌, zero, suc, Bool, true, false, not, ◌&&◌, ◌||◌, cond, List, [], ◌∷◌, length, map, Option, Some, None, IfSome, refl, sym, ap, subst, ◌∙◌, arith}
use Rattle.std.specs.Prelude.{slice_get, option_map, is_some, sum_by}
use Rattle.std.specs.List.{count_by, range_with_len}
use Rattle.std.specs.Option.{option_flatten, option_map_or}
use Rattle.std.proofs.Math.Bool.{beq}
use Rattle.std.proofs.Math.Nat.{div-lt_iff_lt-mul, div-add-mod', mod-lt}
use Rattle.std.proofs.lemmas.Bool.{cases_Bool, cases_lt, le-leb, ltb-true, true≢false}
use Rattle.std.proofs.lemmas.List.Sums.{sum_by-cons}
use Rattle.std.proofs.lemmas.Option.{slice_get_cases}
use Rattle.lufs_base.specs.Layout.{IsGeometry, group_start, blocks_of}
use Rattle.lufs_base.specs.declared.geometry.Geometry.{Geometry}
use Rattle.volume_model.specs.declared.finding.Counts.{Counts}
use Rattle.volume_model.specs.declared.inode.Dinode.{Dinode}
use Rattle.volume_model.specs.Format.{Blocks, GroupRecord, inodes_of, body_blocks_of, bit_at, clear_bits, is_body}
use Rattle.volume_model.specs.Sound.{Reading, UsedInode, reading_of, inode_at, state_of, state_at, used_of, used_at, used_inode, is_claimed, claims_of, inode_bit, block_bit, differ, has_bad_inode_bit, has_bad_block_bit, has_bad_count, has_right_counts, counts_of}
use Rattle.volume_laws.proofs.BodyBlocks.{none_before, body_at}
use Rattle.volume_laws.proofs.Counting.{one_if, sum_of_range, sum_of_map}
use Rattle.volume_laws.proofs.FreeBits.{clear_counted}
use Rattle.cyl_groups.specs.declared.group.Group.{Group}
use Rattle.cyl_groups.specs.Group.{record_of}
use Rattle.fsck_core.specs.declared.claims.Claims.{Claims}
use Rattle.fsck_core.specs.declared.inodes.Brief.{Brief}
use Rattle.fsck_core.specs.Bits.{block_bit_among, has_other_bit, BlocksAgree}
use Rattle.fsck_core.specs.Claimed.{HasClaimed}
use Rattle.fsck_core.specs.Inodes.{brief_of, AreBriefs}
use Rattle.fsck_core.specs.Tables.{AreGroups, AreInodes}
use Rattle.fsck_core.proofs.ClaimBridges.{bit_of_claims}
use Rattle.fsck_core.proofs.KeptInodes.{briefs_size, brief_at}
use Rattle.fsck_core.proofs.RecordSteps.{record_in, used_by_records}

-- an inode, and a block from the first group on, lies in a group
pub group_of_inode : (g : Geometry) (i : ℕ) → IsGeometry g → i < inodes_of g → i / g.ipg < g.groups
group_of_inode g i ok inside = (div-lt_iff_lt-mul {k = g.ipg} (omega (arith, ok.ipg_low))).1 inside

pub group_of_block : (g : Geometry) (b : ℕ) → IsGeometry g → group_start g 0 ≤ b → b < blocks_of g → (b - group_start g 0) / g.bpg < g.groups
group_of_block g b ok low inside =
    let below : b - group_start g 0 < g.groups * g.bpg = omega (arith, low, inside) in
    (div-lt_iff_lt-mul {k = g.bpg} (omega (arith, ok.bpg_low))).1 below

-- the bits of an inode and of a block, in the record of the group
pub inode_bit_in : (g : Geometry) (blocks : Blocks) (groups : List Group) (i : ℕ) (x : Group) → AreGroups g blocks groups → length groups ≡ g.groups
    → slice_get groups (i / g.ipg) ≡ Some x → bit_at x.inode_bits (i % g.ipg) ≡ inode_bit g (reading_of g blocks) i
inode_bit_in g blocks groups i x so size here =
    sym (ap (λ (o : Option GroupRecord). option_map_or (λ group. bit_at group.inode_bits (i % g.ipg)) o false) (record_in g blocks groups (i / g.ipg) x so size here))

pub block_bit_in : (g : Geometry) (blocks : Blocks) (groups : List Group) (b : ℕ) → AreGroups g blocks groups → length groups ≡ g.groups
    → (b - group_start g 0) / g.bpg < g.groups → block_bit_among g groups b ≡ block_bit g (reading_of g blocks) b
block_bit_in g blocks groups b so size within =
    let at = b - group_start g 0 in
    elim (slice_get_cases groups (at / g.bpg)).1 [
      | inl here ↦
          ap (λ (o : Option Group). option_map_or (λ x. bit_at x.block_bits (at % g.bpg)) o false) here.2
          ∙ sym (ap (λ (o : Option GroupRecord). option_map_or (λ group. bit_at group.block_bits (at % g.bpg)) o false) (record_in g blocks groups (at / g.bpg) here.0 so size here.2))
      | inr past ↦ absurd (omega (arith, past.0, size, within))
    ]

-- whether two tests give different answers
apart : (p q : Bool) → not (beq p q) ≡ differ p q
apart true true = refl
apart true false = refl
apart false true = refl
apart false false = refl

or_nothing : (p : Bool) → (p || false) ≡ p
or_nothing true = refl
or_nothing false = refl

used_of_map : (blocks : Blocks) (d : Option Dinode) → is_some (option_map (used_inode blocks) d) ≡ is_some d
used_of_map blocks None = refl
used_of_map blocks (Some u) = refl

used_brief : (d : Option Dinode) → is_some (brief_of d) ≡ is_some d
used_brief None = refl
used_brief (Some u) = refl

-- the test of an inode's bit, where its number is not 0 or 1
pub bad_inode_bit : (g : Geometry) (blocks : Blocks) (briefs : List (Option Brief)) (i : ℕ) (brief : Option Brief) (bit used : Bool) → AreBriefs g blocks briefs → length briefs ≡ inodes_of g
    → slice_get briefs i ≡ Some brief → 2 ≤ i → bit ≡ inode_bit g (reading_of g blocks) i → used ≡ is_some brief
    → not (beq bit used) ≡ has_bad_inode_bit g (reading_of g blocks) [] i
bad_inode_bit g blocks briefs i brief bit used are size here high is_bit is_used =
    let r = reading_of g blocks in
    let d = option_flatten (slice_get are.inodes i) in
    let same : brief ≡ brief_of d = ap (λ (o : Option (Option Brief)). option_flatten o) (sym here) ∙ brief_at g blocks briefs i are in
    let there = used_by_records g blocks are.inodes i are.records (briefs_size g blocks briefs are ∙ size) in
    let known : used ≡ is_some (used_at r i) =
    is_used ∙ ap (λ (o : Option Brief). is_some o) same ∙ used_brief d ∙ sym (used_of_map blocks d) ∙ sym (ap (λ (o : Option UsedInode). is_some o) there) in
    apart bit used ∙ ap (λ (p : Bool). differ p used) is_bit ∙ ap (differ (inode_bit g r i)) (known ∙ sym (or_nothing (is_some (used_at r i))))
    ∙ ap (λ (t : Bool). t && differ (inode_bit g r i) (is_some (used_at r i) || false)) (sym (le-leb 2 i high))

pub other_bit : (g : Geometry) (groups : List Group) (claims : Claims) (b : ℕ) (bit claimed : Bool) → is_body g b ≡ true → bit ≡ block_bit_among g groups b
    → claimed ≡ bit_at claims.bits.items b → not (beq bit claimed) ≡ has_other_bit g groups claims b
unfolding has_other_bit
other_bit g groups claims b bit claimed body is_bit is_claimed =
    apart bit claimed ∙ ap (λ (p : Bool). differ p claimed) is_bit ∙ ap (differ (block_bit_among g groups b)) is_claimed
    ∙ ap (λ (t : Bool). t && differ (block_bit_among g groups b) (bit_at claims.bits.items b)) (sym body)

pub no_other_bit : (g : Geometry) (groups : List Group) (claims : Claims) (b : ℕ) → is_body g b ≡ false → false ≡ has_other_bit g groups claims b
unfolding has_other_bit
no_other_bit g groups claims b no_body = ap (λ (t : Bool). t && differ (block_bit_among g groups b) (bit_at claims.bits.items b)) (sym no_body)

from_first_group : (g : Geometry) (b : ℕ) → IsGeometry g → is_body g b ≡ true → group_start g 0 ≤ b
from_first_group g b ok body = elim (cases_lt b (group_start g 0)) [
  | inl before ↦ absurd (true≢false (sym body ∙ none_before g ok b before))
  | inr past ↦ past
]

-- the test of the bit of a block, by what a check keeps
pub bad_block_bit : (g : Geometry) (blocks : Blocks) (groups : List Group) (claims : Claims) (b : ℕ) → IsGeometry g → AreGroups g blocks groups → length groups ≡ g.groups
    → HasClaimed (blocks_of g) (map (λ claim. claim.block) (claims_of (reading_of g blocks))) claims → b < blocks_of g
    → has_bad_block_bit g (reading_of g blocks) [] b ≡ has_other_bit g groups claims b
unfolding has_other_bit
bad_block_bit g blocks groups claims b ok so size has inside =
    let r = reading_of g blocks in
    elim (cases_Bool (is_body g b)) [
      | inl body ↦
          let bit = block_bit_in g blocks groups b so size (group_of_block g b ok (from_first_group g b ok body) inside) in
          let claimed = bit_of_claims r (blocks_of g) b claims has inside in
          ap (λ (t : Bool). is_body g b && differ (block_bit g r b) t) (or_nothing (is_claimed r b) ∙ sym claimed)
          ∙ ap (λ (t : Bool). is_body g b && differ t (bit_at claims.bits.items b)) (sym bit)
      | inr no_body ↦
          ap (λ (t : Bool). t && differ (block_bit g r b) (is_claimed r b || false)) no_body
          ∙ sym (ap (λ (t : Bool). t && differ (block_bit_among g groups b) (bit_at claims.bits.items b)) no_body)
    ]

differ_none : (p q : Bool) → p ≡ q → differ p q ≡ false
differ_none true q same = ap (differ true) (sym same)
differ_none false q same = ap (differ false) (sym same)

-- where the bits of a group agree, those of its body blocks say whether they are claimed
agreed_at : (g : Geometry) (groups : List Group) (claims : Claims) (n k b : ℕ) → IfSome (slice_get groups n) (λ x. BlocksAgree g n x claims g.bpg) → n < length groups
    → g.ipg / 32 < k → k < g.bpg → b ≡ group_start g n + k
    → option_map_or (λ x. bit_at x.block_bits k) (slice_get groups n) false ≡ bit_at claims.bits.items b
agreed_at g groups claims n k b agree within past below place = of_case (slice_get groups n) agree (λ none. slice_get_there groups n within none)
  where
    of_case : (o : Option Group) → IfSome o (λ x. BlocksAgree g n x claims g.bpg) → (o ≡ None → ⊥) → option_map_or (λ x. bit_at x.block_bits k) o false ≡ bit_at claims.bits.items b
    of_case None agree there = absurd (there refl)
    of_case (Some x) agree there = agree k past below ∙ ap (λ (c : ℕ). bit_at claims.bits.items c) (sym place)

    slice_get_there : (xs : List Group) (i : ℕ) → i < length xs → slice_get xs i ≡ None → ⊥
    slice_get_there [] i below none = omega (arith, below)
    slice_get_there (x ∷ xs) zero below none = cc
    slice_get_there (x ∷ xs) (suc i) below none = slice_get_there xs i (omega (arith, below)) none

start_of : (g : Geometry) (n : ℕ) → group_start g n ≡ group_start g 0 + n * g.bpg
start_of g n = omega arith

placed : (start first product k at b : ℕ) → start ≡ first + product → at ≡ b - first → first ≤ b → product + k ≡ at → b ≡ start + k
placed start first product k at b is away low sum = omega (arith, is, away, low, sum)

-- where those of each group agree, no block has another bit
pub agreed : (g : Geometry) (groups : List Group) (claims : Claims) (b : ℕ) → IsGeometry g → length groups ≡ g.groups
    → ((n : ℕ) → n < g.groups → IfSome (slice_get groups n) (λ x. BlocksAgree g n x claims g.bpg)) → b < blocks_of g → has_other_bit g groups claims b ≡ false
unfolding has_other_bit
agreed g groups claims b ok size agree inside = by_test (is_body g b) refl
  where
    by_test : (body : Bool) → is_body g b ≡ body → (is_body g b && differ (block_bit_among g groups b) (bit_at claims.bits.items b)) ≡ false
    by_test false body = ap (λ (t : Bool). t && differ (block_bit_among g groups b) (bit_at claims.bits.items b)) body
    by_test true body =
        ap (λ (t : Bool). t && differ (block_bit_among g groups b) (bit_at claims.bits.items b)) body
        ∙ differ_none (block_bit_among g groups b) (bit_at claims.bits.items b) (in_group (b - group_start g 0) refl (from_first_group g b ok body))
      where
        in_group : (at : ℕ) → at ≡ b - group_start g 0 → group_start g 0 ≤ b
            → option_map_or (λ x. bit_at x.block_bits (at % g.bpg)) (slice_get groups (at / g.bpg)) false ≡ bit_at claims.bits.items b
        in_group at away low = with_place (at / g.bpg) (at % g.bpg) within (mod-lt at some) (placed (group_start g (at / g.bpg)) (group_start g 0) (at / g.bpg * g.bpg) (at % g.bpg) at b
            (start_of g (at / g.bpg)) away low (div-add-mod' at g.bpg))
          where
            some : 0 < g.bpg
            some = omega (arith, ok.bpg_low)

            within : at / g.bpg < g.groups
            within = subst (λ (k : ℕ). k / g.bpg < g.groups) (sym away) (group_of_block g b ok low inside)

            with_place : (n k : ℕ) → n < g.groups → k < g.bpg → b ≡ group_start g n + k
                → option_map_or (λ x. bit_at x.block_bits k) (slice_get groups n) false ≡ bit_at claims.bits.items b
            with_place n k within below place =
                agreed_at g groups claims n k b (agree n within) (omega (arith, size, within))
                (ltb-true (g.ipg / 32) k (sym (body_at g ok n k within below) ∙ ap (is_body g) (sym place) ∙ body)) below place

-- the test of a group's counts
pub bad_count_in : (g : Geometry) (blocks : Blocks) (groups : List Group) (n : ℕ) (x : Group) → AreGroups g blocks groups → length groups ≡ g.groups
    → slice_get groups n ≡ Some x → not (has_right_counts g (record_of x)) ≡ has_bad_count g (reading_of g blocks) n
bad_count_in g blocks groups n x so size here =
    sym (ap (λ (o : Option GroupRecord). option_map_or (λ group. not (has_right_counts g group)) o false) (record_in g blocks groups n x so size here))

-- the clear bits, counted over the numbers of the bits
pub clear_over_range : (bits : List ℕ) (n : ℕ) → count_by (λ i. not (bit_at bits i)) (range_with_len 0 n) ≡ clear_bits bits n
clear_over_range bits n = sum_of_range (λ i. one_if (not (bit_at bits i))) n ∙ sym (clear_counted bits n)

counted_alike : {X : Type 0} (p q : X → Bool) (xs : List X) → ((x : X) → p x ≡ q x) → count_by p xs ≡ count_by q xs
counted_alike p q [] same = refl
counted_alike p q (x ∷ xs) same =
    sum_by-cons (λ y. cond (p y) 1 0) x xs ∙ ap (λ (t : Bool). cond t 1 0 + count_by p xs) (same x)
    ∙ ap (λ (n : ℕ). cond (q x) 1 0 + n) (counted_alike p q xs same) ∙ sym (sum_by-cons (λ y. cond (q y) 1 0) x xs)

used_state : (blocks : Blocks) (d : Option Dinode) → is_some (used_of (state_of blocks (Some d))) ≡ is_some d
used_state blocks None = refl
used_state blocks (Some u) = refl

-- the inodes in use, counted over their records
records_counted : (g : Geometry) (blocks : Blocks) (inodes : List (Option Dinode)) → AreInodes g blocks inodes → length inodes ≡ inodes_of g
    → count_by (λ d. is_some d) inodes ≡ count_by (λ state. is_some (used_of state)) (reading_of g blocks).inodes
unfolding reading_of
records_counted g blocks inodes so size =
    let of_record : Option (Option Dinode) → ℕ = λ o. cond (is_some (used_of (state_of blocks o))) 1 0 in
    sym (counted_alike (λ d. is_some (used_of (state_of blocks (Some d)))) (λ d. is_some d) inodes (used_state blocks))
    ∙ sym (sum_of_map of_record (λ d. Some d) inodes)
    ∙ sym (ap (sum_by of_record) so.records)
    ∙ ap (λ (n : ℕ). sum_by of_record (map (inode_at g blocks) (range_with_len 0 n))) size
    ∙ sum_of_map of_record (inode_at g blocks) (range_with_len 0 (inodes_of g))
    ∙ sym (sum_of_map (λ state. cond (is_some (used_of state)) 1 0) (state_at g blocks) (range_with_len 0 (inodes_of g)))

pub used_counted : (g : Geometry) (blocks : Blocks) (briefs : List (Option Brief)) → AreBriefs g blocks briefs → length briefs ≡ inodes_of g
    → count_by (λ b. is_some b) briefs ≡ count_by (λ state. is_some (used_of state)) (reading_of g blocks).inodes
used_counted g blocks briefs are size =
    ap (count_by (λ b. is_some b)) are.are ∙ sum_of_map (λ b. cond (is_some b) 1 0) brief_of are.inodes
    ∙ counted_alike (λ d. is_some (brief_of d)) (λ d. is_some d) are.inodes used_brief
    ∙ records_counted g blocks are.inodes are.records (briefs_size g blocks briefs are ∙ size)

-- the counts of a reading
pub counts_are : (g : Geometry) (r : Reading) (inodes blocks free : ℕ) → inodes ≡ count_by (λ state. is_some (used_of state)) r.inodes
    → blocks ≡ length (claims_of r) → free ≡ body_blocks_of g - blocks → record { inodes = inodes; blocks = blocks; free = free } ≡ counts_of g r
counts_are g r inodes blocks free of_inodes of_blocks of_free =
    let Made : ℕ → ℕ → ℕ → Counts = λ a b c. record { inodes = a; blocks = b; free = c } in
    let claims = length (claims_of r) in
    ap (λ (a : ℕ). Made a blocks free) of_inodes ∙ ap (λ (b : ℕ). Made (count_by (λ state. is_some (used_of state)) r.inodes) b free) of_blocks
    ∙ ap (λ (c : ℕ). Made (count_by (λ state. is_some (used_of state)) r.inodes) claims c) (of_free ∙ ap (λ (b : ℕ). body_blocks_of g - b) of_blocks)
