-- The log of a new volume: its header, and a ring of zeros.
use Rattle.std.proofs.Common.{◌≡◌, ℕ, zero, suc, ◌+◌, ◌*◌, ◌/◌, ◌%◌, ◌<◌, ◌≤◌, inl, inr, false, List, [], ◌∷◌, ◌++◌, length, take, drop, map, replicate, Some, refl, sym, ◌∙◌, ap, arith}
use Rattle.std.specs.Prelude.{◌==◌, if◌then◌else◌}
use Rattle.std.specs.List.{range_with_len}
use Rattle.std.proofs.Math.Seq.{drop-append-add}
use Rattle.std.proofs.lemmas.Bool.{cases_lt, cond-false, ne_eqb}
use Rattle.std.proofs.lemmas.List.Sums.{take_while-cons}
use Rattle.lufs_base.specs.Fields.{number_in, u32_at}
use Rattle.lufs_base.specs.Layout.{IsGeometry, group_start, ring_of}
use Rattle.lufs_base.specs.declared.geometry.Geometry.{Geometry}
use Rattle.lufs_base.specs.declared.geometry.Region.TheVariants.{Log}
use Rattle.volume_model.specs.Format.{Image, sector, block}
use Rattle.volume_model.specs.Log.{header_of, header_bytes, front_of, run_after, run_of, WithHeader, Listed, belongs_to, row_of, payload_of, transactions_at, transactions_from, ring_from, log_after, log_with, log_of}
use Rattle.volume_model.specs.MkfsImage.{made_header, block_with, IsMkfsImage}
use Rattle.log_laws.proofs.HeaderBytes.{header_reads}
use Rattle.volume_model.specs.Sound.{HasNoLaterIdent}
use Rattle.new_volume.proofs.BlockSectors.{sector_in_block, sector_of_zeros}
use Rattle.new_volume.proofs.MadeBlocks.{made_there}

-- sectors of the blocks of the log
header_in_block : sector (block_with 0 (header_bytes made_header)) 0 ≡ header_bytes made_header
unfolding header_bytes
header_in_block = refl

behind_header : (j : ℕ) → j < 7 → sector (block_with 0 (header_bytes made_header)) (1 + j) ≡ replicate 512 0
unfolding header_bytes
behind_header j below =
    let at : 512 * (1 + j) ≡ 512 + 512 * j = omega arith in
    ap (λ (n : ℕ). take 512 (drop n (header_bytes made_header ++ replicate 3584 0))) at
    ∙ ap (take 512) (drop-append-add (header_bytes made_header) (replicate 3584 0) (512 * j)) ∙ sector_of_zeros j 7 below

sector_of_block : (image bytes : Image) (b j : ℕ) → block image b ≡ bytes → j < 8 → sector image (8 * b + j) ≡ sector bytes j
sector_of_block image bytes b j is below = sym (sector_in_block image b j below) ∙ ap (λ (c : Image). sector c j) is

no_row : (f : ℕ → List ℕ) (n : ℕ) → belongs_to 1 1 (f 0) ≡ false → row_of 1 1 (map f (range_with_len 0 n)) ≡ []
no_row f zero other = refl
no_row f (suc n) other =
    take_while-cons (belongs_to 1 1) (f 0) (map f (range_with_len (0 + 1) n))
    ∙ cond-false (belongs_to 1 1 (f 0)) (f 0 ∷ row_of 1 1 (map f (range_with_len (0 + 1) n))) [] other

zeros_belong_to_none : belongs_to 1 1 (replicate 512 0) ≡ false
unfolding number_in
zeros_belong_to_none = refl

zeros_have_ident_0 : u32_at (replicate 512 0) 508 ≡ 0
unfolding number_in
zeros_have_ident_0 = refl

-- a ring that begins with a sector of zeros has no transaction
empty_log : (g : Geometry) (header : List ℕ) (at_place : ℕ → List ℕ) → 0 < ring_of g → header_of g header ≡ Some made_header → at_place 0 ≡ replicate 512 0
    → log_with g header at_place ≡ WithHeader made_header (Listed [])
unfolding log_with transactions_from run_after front_of
empty_log g header at_place some reads zeros =
    let first : (0 + 0) % ring_of g ≡ 0 = omega (arith, some) in
    let none : row_of 1 1 (ring_from (ring_of g) 0 at_place) ≡ [] =
    no_row (λ i. at_place ((0 + i) % ring_of g)) (ring_of g) (ap (λ (place : ℕ). belongs_to 1 1 (at_place place)) first ∙ ap (belongs_to 1 1) zeros ∙ zeros_belong_to_none) in
    ap (log_after g at_place) reads
    ∙ ap (λ (row : List (List ℕ)). WithHeader made_header (transactions_at (run_of g 1 (payload_of row)) 1 ((0 + 0) % ring_of g) (length row)
    (λ _. transactions_from g (ring_of g) made_header (ring_of g) (1 + 1) (0 + length row) (drop (length row) (ring_from (ring_of g) 0 at_place))))) none

-- the log of an image that mkfs made
module _ (g : Geometry) (moment : ℕ) (ok : IsGeometry g) (old made : Image) (is : IsMkfsImage g moment old made) where
  log_block : (b : ℕ) → 3 ≤ b → b < group_start g 0 → block made b ≡ (if b == 3 then block_with 0 (header_bytes made_header) else replicate 4096 0)
  log_block b low high = made_there g moment ok old made is b Log (low, high) (omega (arith, high))

  first_block : block made 3 ≡ block_with 0 (header_bytes made_header)
  first_block = let few : 0 < g.log / 8 = omega (arith, ok.log_low) in log_block 3 (omega arith) (omega (arith, few))

  header_there : sector made 24 ≡ header_bytes made_header
  header_there = sector_of_block made (block_with 0 (header_bytes made_header)) 3 0 first_block (omega arith) ∙ header_in_block

  ring_there : (place : ℕ) → place < ring_of g → sector made (25 + place) ≡ replicate 512 0
  ring_there place below = elim (cases_lt place 7) [
    | inl near ↦
        let at : 8 * 3 + (1 + place) ≡ 25 + place = omega arith in
        ap (sector made) (sym at) ∙ sector_of_block made (block_with 0 (header_bytes made_header)) 3 (1 + place) first_block (omega (arith, near))
        ∙ behind_header place near
    | inr far ↦
        let b = (25 + place) / 8 in
        let j = (25 + place) % 8 in
        let at : 8 * b + j ≡ 25 + place = omega arith in
        let behind : b == 3 ≡ false = ne_eqb b 3 (λ same. omega (arith, same, far)) in
        let zeros : block made b ≡ replicate 4096 0 =
        log_block b (omega arith) (omega (arith, below, ok.log_step)) ∙ cond-false (b == 3) (block_with 0 (header_bytes made_header)) (replicate 4096 0) behind in
        ap (sector made) (sym at) ∙ sector_of_block made (replicate 4096 0) b j zeros (omega arith) ∙ sector_of_zeros j 8 (omega arith)
  ]

  header_reads_there : header_of g (sector made 24) ≡ Some made_header
  header_reads_there = ap (header_of g) header_there ∙ header_reads g made_header record {
    epoch_low = omega arith;
    epoch_high = omega arith;
    head_low = omega (arith, ok.log_low);
    head_high = omega arith;
    tid_low = omega arith;
    tid_high = omega arith;
  }

  -- no transaction is in it
  pub new_log : log_of g made ≡ WithHeader made_header (Listed [])
  new_log =
      let some : 0 < ring_of g = omega (arith, ok.log_low) in
      empty_log g (sector made 24) (λ place. sector made (25 + place)) some header_reads_there (ring_there 0 some)

  -- and no ident is above the epoch
  pub new_idents : HasNoLaterIdent g made
  new_idents = record {
    header = made_header;
    reads = header_reads_there;
    idents = λ place below. let none : u32_at (sector made (25 + place)) 508 ≡ 0 = ap (λ (s : List ℕ). u32_at s 508) (ring_there place below) ∙ zeros_have_ident_0 in omega (arith, none);
  }
