-- A change that takes block 38 of the smallest volume, where that has no inodes and just its reserved blocks are in use.
use Rattle.std.proofs.Common.{◌≡◌, ◌<◌, ◌≤◌, ℕ, zero, suc, ◌+◌, ◌-◌, ◌/◌, ◌%◌, eqb, Bool, true, false, not, ◌&&◌, List, [], ◌∷◌, length, take, drop, map, max, replicate, slice_index, Option, Some, None, refl, sym, ap, ◌∙◌, arith, length-take, length-drop}
use Rattle.std.specs.Prelude.{All, nat_lt, unwrap_or}
use Rattle.std.specs.List.{list_any, range_with_len}
use Rattle.std.proofs.lemmas.Bool.{false≢true, both_ways, and_parts, and_from, ltb-true, agree_below_at}
use Rattle.std.proofs.lemmas.List.{ext_get_or, get_or-take}
use Rattle.std.proofs.lemmas.List.Elements.{All-cons, All-nil, All-head, All-tail}
use Rattle.std.proofs.lemmas.List.FromFn.{length-range_with_len, get_or-range_with_len}
use Rattle.lufs_base.specs.Fields.{are_zeros, number_in}
use Rattle.lufs_base.specs.Layout.{region_of, inode_address}
use Rattle.lufs_base.specs.declared.delta.Delta.{Delta}
use Rattle.lufs_base.specs.declared.delta.DeltaKind.TheVariants.{Group}
use Rattle.volume_model.specs.Format.{Blocks, Image, block, is_body, is_body_region, GroupRecord, named_group, group_of, dinode_of}
use Rattle.volume_model.specs.Log.{AreLoggable, may_be_logged, logged_len, is_cancel, byte_of}
use Rattle.volume_model.specs.Sound.{InodeState, Unused, Reading, reading_of, state_at, state_of, claims_of, is_claimed, block_bit, is_among, length_of_records, greatest_on, metadata_claim_length, metadata_length}
use Rattle.volume_model.specs.Worked.{smallest}
use Rattle.meta_store.specs.Laid.{laid_block}
use Rattle.meta_store.specs.Changes.{changed, deltas_on, frees}
use Rattle.meta_store.specs.Suited.{suits}
use Rattle.meta_store.specs.Conditions.{HasBitsOf, MayFollow, MayApply}
use Rattle.meta_store.specs.Plain.{is_free}
use Rattle.meta_store.specs.Worked.{record_with, new_record, taking}
use Rattle.meta_store.proofs.LaidBlocks.{length-laid_block, laid_block_at, nothing_laid, block_laid_over}
use Rattle.meta_store.proofs.LaidParts.{inside}
use Rattle.meta_store.proofs.PlainSteps.{told_of}

abbrev reading_from : Option GroupRecord → List InodeState → Reading
reading_from group inodes = record { groups = group ∷ []; inodes = inodes }

abbrev reading_with : ℕ → Reading
reading_with first = reading_from (Some (named_group (record_with first))) (replicate 32 Unused)

same_for_all : {X : Type 0} (f : ℕ → X) (x : X) (numbers : List ℕ) → All (λ i. f i ≡ x) numbers → map f numbers ≡ replicate (length numbers) x
same_for_all f x [] all = refl
same_for_all f x (i ∷ numbers) all =
    ap (λ y. y ∷ map f numbers) (All-head (λ i. f i ≡ x) i numbers all) ∙ ap (λ l. x ∷ l) (same_for_all f x numbers (All-tail (λ i. f i ≡ x) i numbers all))

zeros_taken : (n : ℕ) (bytes : List ℕ) → are_zeros bytes ≡ true → are_zeros (take n bytes) ≡ true
zeros_taken zero bytes is = refl
zeros_taken (suc n) [] is = refl
zeros_taken (suc n) (b ∷ bytes) is =
    let both = and_parts (eqb b 0) (are_zeros bytes) is in and_from (eqb b 0) (are_zeros (take n bytes)) both.0 (zeros_taken n bytes both.1)

zeros_left : (n : ℕ) (bytes : List ℕ) → are_zeros bytes ≡ true → are_zeros (drop n bytes) ≡ true
zeros_left zero bytes is = is
zeros_left (suc n) [] is = refl
zeros_left (suc n) (b ∷ bytes) is = zeros_left n bytes (and_parts (eqb b 0) (are_zeros bytes) is).1

free_record : (bytes : List ℕ) → are_zeros bytes ≡ true → dinode_of 1 bytes ≡ Some None
unfolding dinode_of
free_record bytes is = rw is refl

unused_at : (blocks : Blocks) → are_zeros (blocks 36) ≡ true → (i : ℕ) → i < 32 → state_at smallest blocks i ≡ Unused
unused_at blocks zeros i below =
    let place : inode_address smallest i / 4096 ≡ 36 = omega (arith, below) in
    let at = inode_address smallest i % 4096 in
    ap (λ (b : ℕ). state_of blocks (dinode_of 1 (take 128 (drop at (blocks b))))) place
    ∙ ap (state_of blocks) (free_record (take 128 (drop at (blocks 36))) (zeros_taken 128 (drop at (blocks 36)) (zeros_left at (blocks 36) zeros)))

all_unused : (blocks : Blocks) → are_zeros (blocks 36) ≡ true → All (λ i. state_at smallest blocks i ≡ Unused) (range_with_len 0 32)
all_unused blocks zeros = λ k i inside.
    let below : k < 32 = omega (arith, inside, length-range_with_len 0 32) in
    ap (state_at smallest blocks) (get_or-range_with_len 0 32 k i below) ∙ unused_at blocks zeros (0 + k) (omega (arith, below))

-- what is read where the inode blocks are zeros and this is the group's record
reads : (blocks : Blocks) (first : ℕ) → are_zeros (blocks 36) ≡ true → take 416 (blocks 35) ≡ record_with first → group_of smallest 0 (record_with first) ≡ Some (named_group (record_with first))
    → reading_of smallest blocks ≡ reading_with first
unfolding reading_of
reads blocks first zeros bytes is =
    let all : List InodeState = map (state_at smallest blocks) (range_with_len 0 32) in
    ap (λ group. reading_from group all) (ap (group_of smallest 0) bytes ∙ is)
    ∙ ap (reading_from (Some (named_group (record_with first)))) (same_for_all (state_at smallest blocks) Unused (range_with_len 0 32) (all_unused blocks zeros))

is_old : group_of smallest 0 (record_with 7) ≡ Some (named_group (record_with 7))
unfolding group_of number_in
is_old = refl

is_new : group_of smallest 0 (record_with 15) ≡ Some (named_group (record_with 15))
unfolding group_of number_in
is_new = refl

no_claims : (first : ℕ) → claims_of (reading_with first) ≡ []
unfolding claims_of
no_claims first = refl

unclaimed : (first b : ℕ) → is_claimed (reading_with first) b ≡ false
unclaimed first b = ap (list_any (λ claim. eqb claim.block b)) (no_claims first)

records_alone : (first b : ℕ) → metadata_length smallest (reading_with first) b ≡ length_of_records smallest b
unfolding metadata_length
records_alone first b =
    ap (λ claims. max (length_of_records smallest b) (greatest_on (metadata_claim_length (reading_with first)) claims b)) (no_claims first) ∙ omega arith

same_bit : (b : ℕ) → is_body smallest b ≡ true → b < 99
same_bit b body = ltb-true b 99 (and_parts (nat_lt b 99) (is_body_region (region_of smallest b)) body).0

-- just the bit of block 38 is set
one_bit : HasBitsOf smallest (λ b. is_among b (38 ∷ [])) (frees taking) (reading_with 7) (reading_with 15)
one_bit =
    record {
      set = λ b body. agree_below_at (λ b. not (block_bit smallest (reading_with 7) b) && block_bit smallest (reading_with 15) b) (λ b. is_among b (38 ∷ [])) 99 b refl (same_bit b body);
      cleared = λ b body. agree_below_at (λ b. block_bit smallest (reading_with 7) b && not (block_bit smallest (reading_with 15) b)) (frees taking) 99 b refl (same_bit b body);
    }

all_one : {X : Type 0} (P : X → Type 0) (x : X) → P x → All P (x ∷ [])
all_one P x its = All-cons P x [] its (All-nil P)

follows : (taken : ℕ → Bool) → MayFollow smallest taking taken (reading_with 7) (reading_with 15)
follows taken =
    record {
      raw_before = λ k w inside. absurd (omega (arith, inside));
      raw_after = λ k w inside. absurd (omega (arith, inside));
      deltas = all_one (λ d. is_cancel d.kind ≡ false → 0 < metadata_length smallest (reading_with 15) (d.home / 4096)) new_record (λ lays. omega (arith, records_alone 15 35));
      suited = all_one (λ d. suits smallest (reading_with 15) d ≡ true) new_record refl;
      kept = λ b kept. omega (arith, records_alone 7 b, records_alone 15 b);
      given = λ b place from below. absurd (omega (arith, from, below, records_alone 7 b, records_alone 15 b));
      fresh = λ b none some. absurd (omega (arith, none, some, records_alone 7 b, records_alone 15 b));
      stays = λ b is kept. absurd (both_ways (is_claimed (reading_with 7) b) (unclaimed 7 b) is);
      claimed = λ b none is. absurd (both_ways (is_claimed (reading_with 15) b) (unclaimed 15 b) is);
      marked = λ b is. absurd (false≢true is);
      bits = one_bit;
    }

-- the front of a block over which a record is laid that begins with the block
front_laid : (bytes : List ℕ) → length bytes ≡ 4096 → take 416 (laid_block (new_record ∷ []) bytes) ≡ record_with 15
front_laid bytes size =
    let laid = laid_block (new_record ∷ []) bytes in
    ext_get_or 0 (take 416 laid) (record_with 15) (omega (arith, length-take 416 laid, length-laid_block (new_record ∷ []) bytes, size)) (λ i below.
    let low : i < 416 = omega (arith, below, length-take 416 laid) in
    let back : i - 0 ≡ i = omega arith in
    get_or-take 416 laid i 0 low
    ∙ laid_block_at (new_record ∷ []) bytes i (omega (arith, low, size))
    ∙ inside new_record i (slice_index bytes i) (omega arith) (omega (arith, low))
    ∙ ap (λ (n : ℕ). unwrap_or (byte_of new_record n) (slice_index bytes i)) back)

inodes_kept : (image : Image) → block (changed taking image) 36 ≡ block image 36
inodes_kept image = sym (block_laid_over (deltas_on (new_record ∷ [])) image 36) ∙ sym (nothing_laid (block image 36))

record_put : (image : Image) → 405504 ≤ length image → take 416 (block (changed taking image) 35) ≡ record_with 15
record_put image whole =
    ap (take 416) (sym (block_laid_over (deltas_on (new_record ∷ [])) image 35))
    ∙ front_laid (block image 35) (omega (arith, length-take 4096 (drop 143360 image), length-drop 143360 image, whole))

may_log : may_be_logged smallest Group 143360 416 ≡ true
unfolding may_be_logged
may_log = refl

loggable : AreLoggable smallest (new_record ∷ [])
loggable =
    record {
      table = all_one (λ d. may_be_logged smallest d.kind d.home d.len ≡ true) new_record may_log;
      order = λ i j d before inside. absurd (omega (arith, before, inside));
      bytes = all_one (λ d. length d.bytes ≡ logged_len d.kind d.len) new_record refl;
    }

-- the change may be applied
pub block_taken : (image : Image) (held : List Delta) (taken freed : List ℕ) → 405504 ≤ length image → are_zeros (block image 36) ≡ true → take 416 (block image 35) ≡ record_with 7
    → is_free smallest image 38 ≡ true → MayApply taking (told_of smallest image held taken freed)
block_taken image held taken freed whole zeros bytes free =
    let before : reading_of smallest (block image) ≡ reading_with 7 = reads (block image) 7 zeros bytes is_old in
    let after : reading_of smallest (block (changed taking image)) ≡ reading_with 15 =
    reads (block (changed taking image)) 15 (ap are_zeros (inodes_kept image) ∙ zeros) (record_put image whole) is_new in
    record {
      taken = all_one (λ b. is_free smallest image b ≡ true) 38 free;
      deltas = loggable;
      cancels = λ b. refl;
      raw = λ k w inside. absurd (omega (arith, inside));
      room = tt;
      content = rw (before, after) (follows _);
    }
