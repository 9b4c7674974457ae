-- The claims of a reading, as the blocks that are claimed.
use Rattle.std.proofs.Common.{◌≡◌, ℕ, zero, suc, ◌+◌, ◌<◌, nat_lt, nat_le, Bool, true, false, not, ◌==◌, ◌||◌, cond, List, [], ◌∷◌, ◌++◌, length, map, Option, Some, None, refl, sym, ap, ◌∙◌, arith}
use Rattle.std.proofs.lemmas.List.{append-nil, length-map, map-append}
use Rattle.std.proofs.lemmas.List.Concat.{flat_map-append}
use Rattle.std.proofs.lemmas.List.Sums.{sum_by-cons}
use Rattle.std.proofs.lemmas.List.Elements.{All-weaker}
use Rattle.std.proofs.lemmas.Bool.{and_parts, ltb-true}
use Rattle.std.specs.List.{All, find, count_by, filter, flat_map, list_any, range_with_len}
use Rattle.std.specs.Option.{option_map_or}
use Rattle.volume_model.specs.declared.inode.Dinode.{Dinode}
use Rattle.volume_model.specs.declared.directory.Slot.{Slot}
use Rattle.lufs_base.specs.Layout.{blocks_of, region_of}
use Rattle.lufs_base.specs.declared.geometry.Geometry.{Geometry}
use Rattle.volume_model.specs.Format.{Blocks, bit_at, is_body, is_body_region}
use Rattle.volume_model.specs.Sound.{Reading, Claim, used_at, used_inode, numbers_of, chunks_at, named_pointers, pointer_claim, index_claims, inodes_in, claims_in, claims_at, claims_of, is_claimed, is_claimed_twice}
use Rattle.fsck_core.specs.declared.claims.Claims.{Claims}
use Rattle.fsck_core.specs.Claimed.{used_with, blocks_claimed, times, HasClaimed}
use Rattle.fsck_core.proofs.FirstTwice.{find_alike}

-- the blocks of these claims
abbrev pub blocks_in : List Claim → List ℕ
blocks_in claims = map (λ claim. claim.block) claims

kept_one : (test : Bool) (claim : Claim) (claims : List Claim) (blocks : List ℕ) → blocks_in claims ≡ blocks
    → blocks_in (cond test (claim ∷ claims) claims) ≡ cond test (claim.block ∷ blocks) blocks
kept_one true claim claims blocks same = ap (λ (l : List ℕ). claim.block ∷ l) same
kept_one false claim claims blocks same = same

blocks_kept : (claims : List Claim) → blocks_in (filter (λ claim. not (claim.block == 0)) claims) ≡ filter (λ b. not (b == 0)) (blocks_in claims)
blocks_kept [] = refl
blocks_kept (claim ∷ claims) = kept_one (not (claim.block == 0)) claim _ _ (blocks_kept claims)

index_blocks : (i index : ℕ) (numbers : List ℕ) → blocks_in (index_claims i index numbers) ≡ numbers
index_blocks i index [] = refl
index_blocks i index (number ∷ numbers) = ap (λ (l : List ℕ). number ∷ l) (index_blocks i (index + 1) numbers)

-- what an inode with these numbers claims
pub blocks-claims_in : (i : ℕ) (d : Dinode) (numbers : List ℕ) (chunks : List (Option (List Slot)))
    → map (λ claim. claim.block) (claims_in i (used_with d numbers chunks)) ≡ blocks_claimed d numbers
blocks-claims_in i d numbers chunks =
    blocks_kept (map (pointer_claim i) (named_pointers d) ++ index_claims i 0 numbers)
    ∙ ap (blocks_claimed d) (index_blocks i 0 numbers)

-- what the inode of a number claims, which is in use
pub blocks-claims_at : (blocks : Blocks) (r : Reading) (i : ℕ) (d : Dinode) → used_at r i ≡ Some (used_inode blocks d)
    → map (λ claim. claim.block) (claims_at r i) ≡ blocks_claimed d (numbers_of blocks d)
blocks-claims_at blocks r i d used =
    ap (λ (o : Option _). blocks_in (option_map_or (claims_in i) o [])) used ∙ blocks-claims_in i d (numbers_of blocks d) (chunks_at blocks d)

-- and which isn't
pub no_blocks-claims_at : (r : Reading) (i : ℕ) → used_at r i ≡ None → map (λ claim. claim.block) (claims_at r i) ≡ []
no_blocks-claims_at r i none = ap (λ (o : Option _). blocks_in (option_map_or (claims_in i) o [])) none

times_by_blocks : (b : ℕ) (claims : List Claim) → count_by (λ claim. claim.block == b) claims ≡ times b (blocks_in claims)
times_by_blocks b [] = refl
times_by_blocks b (claim ∷ claims) =
    sum_by-cons (λ claim. cond (claim.block == b) 1 0) claim claims ∙ ap (λ (n : ℕ). cond (claim.block == b) 1 0 + n) (times_by_blocks b claims)
    ∙ sym (sum_by-cons (λ c. cond (c == b) 1 0) claim.block (blocks_in claims))

any_by_blocks : (b : ℕ) (claims : List Claim) → list_any (λ claim. claim.block == b) claims ≡ list_any (λ a. a == b) (blocks_in claims)
any_by_blocks b [] = refl
any_by_blocks b (claim ∷ claims) = ap (λ (t : Bool). (claim.block == b) || t) (any_by_blocks b claims)

-- whether a block is claimed, and whether twice, by the blocks that are
pub is_claimed_twice-blocks : (r : Reading) (b : ℕ) → is_claimed_twice r b ≡ nat_le 2 (times b (map (λ claim. claim.block) (claims_of r)))
is_claimed_twice-blocks r b = ap (nat_le 2) (times_by_blocks b (claims_of r))

pub is_claimed-blocks : (r : Reading) (b : ℕ) → is_claimed r b ≡ list_any (λ a. a == b) (map (λ claim. claim.block) (claims_of r))
is_claimed-blocks r b = any_by_blocks b (claims_of r)

pub length-claims_of : (r : Reading) → length (claims_of r) ≡ length (map (λ claim. claim.block) (claims_of r))
length-claims_of r = sym (length-map (claims_of r) (λ claim. claim.block))

-- the blocks that the first n inodes claim
abbrev pub blocks_before : Reading → ℕ → List ℕ
blocks_before r n = map (λ claim. claim.block) (flat_map (claims_at r) (range_with_len 0 n))

range_more : (a n : ℕ) → range_with_len a (suc n) ≡ range_with_len a n ++ (a + n) ∷ []
range_more a zero = let same : a ≡ a + 0 = omega arith in ap (λ (k : ℕ). k ∷ []) same
range_more a (suc n) =
    let same : a + 1 + n ≡ a + suc n = omega arith in
    ap (λ (l : List ℕ). a ∷ l) (range_more (a + 1) n ∙ ap (λ (k : ℕ). range_with_len (a + 1) n ++ k ∷ []) same)

-- the claims of the first inodes, one more
pub claims_of_one_more : (r : Reading) (i : ℕ) → flat_map (claims_at r) (range_with_len 0 (suc i)) ≡ flat_map (claims_at r) (range_with_len 0 i) ++ claims_at r i
claims_of_one_more r i =
    let place : 0 + i ≡ i = omega arith in
    ap (flat_map (claims_at r)) (range_more 0 i ∙ ap (λ (k : ℕ). range_with_len 0 i ++ k ∷ []) place)
    ∙ flat_map-append (claims_at r) (range_with_len 0 i) (i ∷ [])
    ∙ ap (λ (l : List Claim). flat_map (claims_at r) (range_with_len 0 i) ++ l) (append-nil (claims_at r i))

pub blocks_before-more : (r : Reading) (i : ℕ) → blocks_before r (suc i) ≡ blocks_before r i ++ map (λ claim. claim.block) (claims_at r i)
blocks_before-more r i =
    ap blocks_in (claims_of_one_more r i) ∙ map-append (λ claim. claim.block) (flat_map (claims_at r) (range_with_len 0 i)) (claims_at r i)

-- the claims of all inodes are those of a reading
pub blocks_before-all : (r : Reading) → blocks_before r (inodes_in r) ≡ map (λ claim. claim.block) (claims_of r)
unfolding claims_of
blocks_before-all r = refl

-- what a check keeps of all claims, as the rules of a sound volume ask
pub bit_of_claims : (r : Reading) (total b : ℕ) (c : Claims) → HasClaimed total (map (λ claim. claim.block) (claims_of r)) c → b < total
    → bit_at c.bits.items b ≡ is_claimed r b
bit_of_claims r total b c has within = has.each b within ∙ sym (is_claimed-blocks r b)

pub count_of_claims : (r : Reading) (total : ℕ) (c : Claims) → HasClaimed total (map (λ claim. claim.block) (claims_of r)) c → c.count ≡ length (claims_of r)
count_of_claims r total c has = has.count ∙ sym (length-claims_of r)

pub twice_of_claims : (r : Reading) (total : ℕ) (c : Claims) → HasClaimed total (map (λ claim. claim.block) (claims_of r)) c
    → c.twice ≡ find (λ b. is_claimed_twice r b) (range_with_len 0 total)
twice_of_claims r total c has =
    has.twice ∙ find_alike (λ b. is_claimed_twice r b) (λ b. nat_le 2 (times b (map (λ claim. claim.block) (claims_of r)))) (range_with_len 0 total)
    (λ b. sym (is_claimed_twice-blocks r b))

-- body blocks are blocks of the volume
pub within_of_bodies : (g : Geometry) (blocks : List ℕ) → All (λ b. is_body g b ≡ true) blocks → All (λ b. b < blocks_of g) blocks
within_of_bodies g blocks bodies =
    All-weaker (λ b. is_body g b ≡ true) (λ b. b < blocks_of g)
    (λ b body. ltb-true b (blocks_of g) (and_parts (nat_lt b (blocks_of g)) (is_body_region (region_of g b)) body).0) blocks bodies
