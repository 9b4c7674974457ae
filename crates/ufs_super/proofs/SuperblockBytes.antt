-- A superblock and its sector determine each other.
use Rattle.std.proofs.Common.{◌≡◌, ℕ, ◌<◌, ◌≤◌, ◌*◌, ◌^◌, true, List, ◌++◌, length, drop, replicate, Some, refl, sym, ap, subst, ◌∙◌, arith, length-drop}
use Rattle.std.proofs.Math.Nat.{mul-le-mul}
use Rattle.std.proofs.lemmas.Bool.{and_from, eq-eqb, le-leb}
use Rattle.lufs_base.specs.Fields.{AreBytes, u32_at, field_bytes, put_at}
use Rattle.lufs_base.specs.Layout.{IsGeometry, blocks_of}
use Rattle.lufs_base.specs.declared.geometry.Geometry.{Geometry}
use Rattle.lufs_base.proofs.Spelling.{read_back_of}
use Rattle.volume_model.proofs.Pieces.{field_again, zeros_again}
use Rattle.volume_model.specs.Format.{is_geometry, named_geometry, super_of, super_bytes}
use Rattle.ufs_super.proofs.SuperblockTests.{a_super, is_super_of}

-- the fields from one on, and the zeros after them
abbrev blocks_on : Geometry → List ℕ
blocks_on g = field_bytes 4 (blocks_of g) ++ replicate 484 0

abbrev log_on : Geometry → List ℕ
log_on g = field_bytes 4 g.log ++ blocks_on g

abbrev ipg_on : Geometry → List ℕ
ipg_on g = field_bytes 4 g.ipg ++ log_on g

abbrev bpg_on : Geometry → List ℕ
bpg_on g = field_bytes 4 g.bpg ++ ipg_on g

abbrev groups_on : Geometry → List ℕ
groups_on g = field_bytes 4 g.groups ++ bpg_on g

abbrev version_on : Geometry → List ℕ
version_on g = field_bytes 4 g.version ++ groups_on g

few_blocks : (g : Geometry) → IsGeometry g → blocks_of g < 256 ^ 4
few_blocks g is =
    let product : g.groups * g.bpg ≤ 64 * 2048 = mul-le-mul is.groups_high is.bpg_high in
    omega (arith, product, is.log_high)

-- the numbers in their ranges pass the test
in_range : (g : Geometry) → IsGeometry g → is_geometry g ≡ true
in_range g is =
    let one = and_from _ _ (eq-eqb _ _ is.version) (and_from _ _ (and_from _ _ (le-leb _ _ is.groups_low) (le-leb _ _ is.groups_high)) (eq-eqb _ _ (omega arith))) in
    let two = and_from _ _ one (and_from _ _ (and_from _ _ (le-leb _ _ is.bpg_low) (le-leb _ _ is.bpg_high)) (eq-eqb _ _ is.bpg_step)) in
    let three = and_from _ _ two (and_from _ _ (and_from _ _ (le-leb _ _ is.ipg_low) (le-leb _ _ is.ipg_high)) (eq-eqb _ _ is.ipg_step)) in
    let four = and_from _ _ three (and_from _ _ (and_from _ _ (le-leb _ _ is.log_low) (le-leb _ _ is.log_high)) (eq-eqb _ _ is.log_step)) in
    and_from _ _ four (le-leb _ _ is.room)

pub super_reads : (g : Geometry) (sectors : ℕ) → IsGeometry g → 8 * blocks_of g ≤ sectors → super_of (super_bytes g) sectors ≡ Some g
unfolding super_bytes
super_reads g sectors is fits =
    let magic : u32_at (super_bytes g) 0 ≡ 0x00011954 = read_back_of 4 0x00011954 (version_on g) (omega arith) in
    let version : u32_at (super_bytes g) 4 ≡ g.version = read_back_of 4 g.version (groups_on g) (omega (arith, is.version)) in
    let groups : u32_at (super_bytes g) 8 ≡ g.groups = read_back_of 4 g.groups (bpg_on g) (omega (arith, is.groups_high)) in
    let bpg : u32_at (super_bytes g) 12 ≡ g.bpg = read_back_of 4 g.bpg (ipg_on g) (omega (arith, is.bpg_high)) in
    let ipg : u32_at (super_bytes g) 16 ≡ g.ipg = read_back_of 4 g.ipg (log_on g) (omega (arith, is.ipg_high)) in
    let log : u32_at (super_bytes g) 20 ≡ g.log = read_back_of 4 g.log (blocks_on g) (omega (arith, is.log_high)) in
    let few : blocks_of g < 256 ^ 4 = few_blocks g is in
    let blocks : u32_at (super_bytes g) 24 ≡ blocks_of g = read_back_of 4 (blocks_of g) (replicate 484 0) few in
    let same : g ≡ named_geometry (super_bytes g) =
    ap (λ (n : ℕ). record { version = n; groups = g.groups; bpg = g.bpg; ipg = g.ipg; log = g.log }) (sym version)
    ∙ ap (λ (n : ℕ). record { version = u32_at (super_bytes g) 4; groups = n; bpg = g.bpg; ipg = g.ipg; log = g.log }) (sym groups)
    ∙ ap (λ (n : ℕ). record { version = u32_at (super_bytes g) 4; groups = u32_at (super_bytes g) 8; bpg = n; ipg = g.ipg; log = g.log }) (sym bpg)
    ∙ ap (λ (n : ℕ). record { version = u32_at (super_bytes g) 4; groups = u32_at (super_bytes g) 8; bpg = u32_at (super_bytes g) 12; ipg = n; log = g.log }) (sym ipg)
    ∙ ap (λ (n : ℕ). record { version = u32_at (super_bytes g) 4; groups = u32_at (super_bytes g) 8; bpg = u32_at (super_bytes g) 12; ipg = u32_at (super_bytes g) 16; log = n }) (sym log) in
    sym (a_super (super_bytes g) sectors g record {
      magic = magic;
      range = ap is_geometry (sym same) ∙ in_range g is;
      blocks = blocks ∙ ap blocks_of same;
      zeros = refl;
      fits = subst (λ (k : Geometry). 8 * blocks_of k ≤ sectors) same fits;
    } same)

pub super_spells : (g : Geometry) (s : List ℕ) (sectors : ℕ) → AreBytes s → length s ≡ 512 → super_of s sectors ≡ Some g → super_bytes g ≡ s
unfolding super_bytes
super_spells g s sectors are size is =
    let found = is_super_of s sectors g is in
    let n : Geometry = named_geometry s in
    let zeros = zeros_again 484 (drop 28 s) (omega (arith, length-drop 28 s, size)) found.0.zeros in
    let blocks = field_again 4 24 28 s _ are (omega arith) (omega (arith, size)) zeros in
    let log = field_again 4 20 24 s _ are (omega arith) (omega (arith, size)) blocks in
    let log_of_name = ap (λ (k : ℕ). field_bytes 4 n.log ++ (field_bytes 4 k ++ replicate 484 0)) (sym found.0.blocks) ∙ log in
    let ipg = field_again 4 16 20 s (log_on n) are (omega arith) (omega (arith, size)) log_of_name in
    let bpg = field_again 4 12 16 s (ipg_on n) are (omega arith) (omega (arith, size)) ipg in
    let groups = field_again 4 8 12 s (bpg_on n) are (omega arith) (omega (arith, size)) bpg in
    let version = field_again 4 4 8 s (groups_on n) are (omega arith) (omega (arith, size)) groups in
    let magic = field_again 4 0 4 s (version_on n) are (omega arith) (omega (arith, size)) version in
    ap super_bytes found.1 ∙ ap (λ (k : ℕ). field_bytes 4 k ++ version_on n) (sym found.0.magic) ∙ magic

-- the seven fields written over zeros
pub super_written : (g : Geometry) (total size : ℕ) (zeros one two three four five six out : List ℕ) → total ≡ blocks_of g → size ≡ 512 → zeros ≡ replicate size 0
    → one ≡ put_at zeros 0 (field_bytes 4 0x00011954) → two ≡ put_at one 4 (field_bytes 4 g.version)
    → three ≡ put_at two 8 (field_bytes 4 g.groups) → four ≡ put_at three 12 (field_bytes 4 g.bpg)
    → five ≡ put_at four 16 (field_bytes 4 g.ipg) → six ≡ put_at five 20 (field_bytes 4 g.log)
    → out ≡ put_at six 24 (field_bytes 4 total) → out ≡ super_bytes g
unfolding super_bytes
super_written g total size zeros one two three four five six out total_is size_is zeros_is one_is two_is three_is four_is five_is six_is is =
    is ∙ ap (λ (n : ℕ). put_at six 24 (field_bytes 4 n)) total_is
    ∙ ap (λ (l : List ℕ). put_at l 24 (field_bytes 4 (blocks_of g))) (six_is
    ∙ ap (λ (l : List ℕ). put_at l 20 (field_bytes 4 g.log)) (five_is
    ∙ ap (λ (l : List ℕ). put_at l 16 (field_bytes 4 g.ipg)) (four_is
    ∙ ap (λ (l : List ℕ). put_at l 12 (field_bytes 4 g.bpg)) (three_is
    ∙ ap (λ (l : List ℕ). put_at l 8 (field_bytes 4 g.groups)) (two_is
    ∙ ap (λ (l : List ℕ). put_at l 4 (field_bytes 4 g.version)) (one_is
    ∙ ap (λ (l : List ℕ). put_at l 0 (field_bytes 4 0x00011954)) (zeros_is
    ∙ ap (λ (n : ℕ). replicate n 0) size_is)))))))
