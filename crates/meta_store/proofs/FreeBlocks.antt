-- The bits of body blocks depend on the group records alone.
use Rattle.std.proofs.Common.{◌≡◌, ◌<◌, ℕ, ◌+◌, ◌-◌, ◌*◌, ◌/◌, ◌%◌, Bool, true, false, not, ◌&&◌, List, length, take, drop, map, Option, Some, sym, ap, ◌∙◌, inl, inr, arith}
use Rattle.std.specs.Prelude.{slice_get, option_map, nat_lt}
use Rattle.std.specs.List.{range_with_len}
use Rattle.std.specs.Option.{option_flatten, option_map_or}
use Rattle.std.proofs.lemmas.Bool.{cases_Bool, false≢true, and_parts, and_left, ltb-true}
use Rattle.std.proofs.lemmas.List.{take-take}
use Rattle.std.proofs.lemmas.List.FromFn.{length-range_with_len, get_or-range_with_len}
use Rattle.std.proofs.Math.Nat.{div-lt_iff_lt-mul}
use Rattle.std.proofs.lemmas.Option.{slice_get-map, slice_get-get_or}
use Rattle.lufs_base.specs.Layout.{IsGeometry, group_start, blocks_of, region_of}
use Rattle.lufs_base.specs.declared.geometry.Geometry.{Geometry}
use Rattle.lufs_base.specs.declared.geometry.Region.{Region}
use Rattle.lufs_base.specs.declared.geometry.Region.TheVariants.{GroupBlock}
use Rattle.lufs_base.proofs.Places.{only_region, group_fits}
use Rattle.volume_model.specs.Format.{Image, Blocks, block, is_body, is_body_region, GroupRecord, bit_at, group_of}
use Rattle.volume_model.specs.Sound.{reading_of, group_at, block_bit}
use Rattle.meta_store.specs.Plain.{is_free}

entry_of_range : {X : Type 0} (f : ℕ → X) (n i : ℕ) → i < n → slice_get (map f (range_with_len 0 n)) i ≡ Some (f i)
entry_of_range f n i below =
    let inside : i < length (range_with_len 0 n) = omega (arith, length-range_with_len 0 n, below) in
    let at = get_or-range_with_len 0 n i 0 below ∙ (let from : 0 + i ≡ i = omega arith in from) in
    slice_get-map f (range_with_len 0 n) i
    ∙ ap (option_map f) (slice_get-get_or (range_with_len 0 n) i 0 inside ∙ ap (λ (k : ℕ). Some k) at)

-- the bit in the record of the block's group
pub bit_in_group : (g : Geometry) (blocks : Blocks) (b : ℕ) → (b - group_start g 0) / g.bpg < g.groups
    → block_bit g (reading_of g blocks) b ≡ option_map_or (λ group. bit_at group.block_bits ((b - group_start g 0) % g.bpg)) (group_at g blocks ((b - group_start g 0) / g.bpg)) false
unfolding reading_of
bit_in_group g blocks b below =
    ap (λ (o : Option (Option GroupRecord)). option_map_or (λ group. bit_at group.block_bits ((b - group_start g 0) % g.bpg)) (option_flatten o) false)
    (entry_of_range (group_at g blocks) g.groups ((b - group_start g 0) / g.bpg) below)

pub in_a_group : (g : Geometry) → IsGeometry g → (b : ℕ) → is_body g b ≡ true → (b - group_start g 0) / g.bpg < g.groups
in_a_group g ok b body =
    let inside : b < blocks_of g = ltb-true b (blocks_of g) (and_parts (nat_lt b (blocks_of g)) (is_body_region (region_of g b)) body).0 in
    let positive : 0 < g.bpg = omega (arith, ok.bpg_low) in
    let within : b - group_start g 0 < g.groups * g.bpg = omega (arith, inside, group_fits g 0 (omega (arith, ok.groups_low)), positive) in
    (div-lt_iff_lt-mul positive).1 within

-- the bytes of a group's record in an image
pub bytes_of_record : (image : Image) (b at : ℕ) → at ≡ 4096 * b → take (at + 416 - at) (drop at image) ≡ take 416 (block image b)
bytes_of_record image b at place =
    ap (λ (n : ℕ). take n (drop at image)) (let size : at + 416 - at ≡ 416 = omega arith in size)
    ∙ ap (λ (n : ℕ). take 416 (drop n image)) (let same : at ≡ 512 * (8 * b) = omega (arith, place) in same)
    ∙ sym (take-take 416 4096 (drop (512 * (8 * b)) image) (omega arith))

-- contents with the same group records have the same bits
pub same_bits : (g : Geometry) (blocks others : Blocks) → ((n : ℕ) → n < g.groups → take 416 (others (group_start g n)) ≡ take 416 (blocks (group_start g n)))
    → (b : ℕ) → (b - group_start g 0) / g.bpg < g.groups → block_bit g (reading_of g others) b ≡ block_bit g (reading_of g blocks) b
same_bits g blocks others same b below =
    let n = (b - group_start g 0) / g.bpg in
    bit_in_group g others b below
    ∙ ap (λ (bytes : List ℕ). option_map_or (λ group. bit_at group.block_bits ((b - group_start g 0) % g.bpg)) (group_of g n bytes) false) (same n below)
    ∙ sym (bit_in_group g blocks b below)

pub same_free : (g : Geometry) → IsGeometry g → (image other : Image) → ((n : ℕ) → n < g.groups → take 416 (block other (group_start g n)) ≡ take 416 (block image (group_start g n)))
    → (b : ℕ) → is_free g other b ≡ is_free g image b
same_free g ok image other same b = elim (cases_Bool (is_body g b)) [
  | inl body ↦ ap (λ (bit : Bool). is_body g b && not bit) (same_bits g (block image) (block other) same b (in_a_group g ok b body))
  | inr none ↦
      and_left (is_body g b) (not (block_bit g (reading_of g (block other)) b)) none ∙ sym (and_left (is_body g b) (not (block_bit g (reading_of g (block image)) b)) none)
]

-- a group block is no body block
pub group_is_no_body : (g : Geometry) → IsGeometry g → (n b : ℕ) → n < g.groups → is_body g b ≡ true → group_start g n ≡ b → ⊥
group_is_no_body g ok n b below body same =
    let region : GroupBlock n ≡ region_of g b = only_region g b (GroupBlock n) ok (below, sym same) in
    let tested = (and_parts (nat_lt b (blocks_of g)) (is_body_region (region_of g b)) body).1 in
    false≢true (ap (λ (r : Region). is_body_region r) region ∙ tested)
