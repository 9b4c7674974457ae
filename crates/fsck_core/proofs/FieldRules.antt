-- What right fields of an inode say.
use Rattle.std.proofs.Common.{◌≡◌, ◌≢◌, ℕ, ◌+◌, ◌*◌, ◌%◌, ◌<◌, ◌≤◌, nat_le, Bool, true, false, not, ◌==◌, ◌&&◌, ◌||◌, cond, List, ◌∷◌, length, take, drop, slice_index, Option, inl, inr, refl, sym, ap, ◌∙◌, arith}
use Rattle.std.proofs.lemmas.Bool.{and_parts, and_left, and_right, or_cases, eqb-true, leb-true, lt-leb, eq-eqb, true≢false}
use Rattle.std.proofs.lemmas.List.{get_or-take, length-map, length-take-le}
use Rattle.std.proofs.lemmas.List.Folds.{list_all-map}
use Rattle.std.proofs.lemmas.List.Sums.{AllPass-from_list_all}
use Rattle.std.specs.List.{All, list_all}
use Rattle.lufs_base.specs.declared.geometry.Geometry.{Geometry}
use Rattle.lufs_base.specs.Fields.{are_zeros}
use Rattle.volume_model.specs.declared.inode.Dinode.{Dinode}
use Rattle.volume_model.specs.declared.directory.Slot.{Slot}
use Rattle.volume_model.specs.Format.{has_type, is_body, is_file, is_directory, is_link}
use Rattle.volume_model.specs.Sound.{most_blocks, claims_in, size_in_blocks, has_right_size, has_none_past, has_no_hole, has_right_numbers, has_right_fields}
use Rattle.fsck_core.specs.Claimed.{used_with, blocks_claimed, IsReadable}
use Rattle.fsck_core.proofs.Nonzero.{list_all-nonzero, nonzero-take}
use Rattle.fsck_core.proofs.ClaimBridges.{blocks-claims_in}

-- each claim is of a body block, said of the blocks that are claimed
pub bodies-claims_in : (g : Geometry) (i : ℕ) (d : Dinode) (numbers : List ℕ) (chunks : List (Option (List Slot)))
    → list_all (λ claim. is_body g claim.block) (claims_in i (used_with d numbers chunks)) ≡ list_all (is_body g) (blocks_claimed d numbers)
bodies-claims_in g i d numbers chunks =
    sym (list_all-map (is_body g) (λ claim. claim.block) (claims_in i (used_with d numbers chunks)))
    ∙ ap (list_all (is_body g)) (blocks-claims_in i d numbers chunks)

pub length-claims_in : (i : ℕ) (d : Dinode) (numbers : List ℕ) (chunks : List (Option (List Slot)))
    → length (claims_in i (used_with d numbers chunks)) ≡ length (blocks_claimed d numbers)
length-claims_in i d numbers chunks =
    sym (length-map (claims_in i (used_with d numbers chunks)) (λ claim. claim.block)) ∙ ap length (blocks-claims_in i d numbers chunks)

-- where nothing is claimed past the size, all is claimed below it
pub blocks_claimed-take : (d : Dinode) (numbers : List ℕ) (chunks : List (Option (List Slot))) → has_none_past (used_with d numbers chunks) ≡ true
    → blocks_claimed d (take (size_in_blocks d.size) numbers) ≡ blocks_claimed d numbers
blocks_claimed-take d numbers chunks none =
    let zeros = (and_parts (are_zeros (drop (size_in_blocks d.size) numbers)) _ none).0 in
    ap (λ (l : List ℕ). cond (not (slice_index d.indirect 0 == 0)) (slice_index d.indirect 0 ∷ l) l) (nonzero-take (size_in_blocks d.size) numbers zeros)

in_order : (size none either bodies counted : Bool) → size ≡ true → none ≡ true → (either && (bodies && counted)) ≡ (size && bodies && none && either && counted)
in_order true true true true counted is empty = refl
in_order true true true false counted is empty = refl
in_order true true false true counted is empty = refl
in_order true true false false counted is empty = refl
in_order true false either bodies counted is empty = absurd (cc)
in_order false none either bodies counted is empty = absurd (cc)

-- right numbers, by those below the size alone, where the size is right and there are none past it
numbers_below : (g : Geometry) (i : ℕ) (d : Dinode) (numbers : List ℕ) (chunks : List (Option (List Slot))) → has_right_size g d ≡ true
    → has_none_past (used_with d numbers chunks) ≡ true
    → ((is_file d.mode || has_no_hole (used_with d numbers chunks))
    && (list_all (is_body g) (blocks_claimed d (take (size_in_blocks d.size) numbers))
    && d.blocks == length (blocks_claimed d (take (size_in_blocks d.size) numbers))))
    ≡ has_right_numbers g i (used_with d numbers chunks)
numbers_below g i d numbers chunks size none =
    let either = is_file d.mode || has_no_hole (used_with d numbers chunks) in
    let claims = claims_in i (used_with d numbers chunks) in
    ap (λ (l : List ℕ). either && (list_all (is_body g) l && d.blocks == length l)) (blocks_claimed-take d numbers chunks none)
    ∙ ap (λ (t : Bool). either && (t && d.blocks == length (blocks_claimed d numbers))) (sym (bodies-claims_in g i d numbers chunks))
    ∙ ap (λ (n : ℕ). either && (list_all (λ claim. is_body g claim.block) claims && d.blocks == n)) (sym (length-claims_in i d numbers chunks))
    ∙ in_order (has_right_size g d) (has_none_past (used_with d numbers chunks)) either (list_all (λ claim. is_body g claim.block) claims)
    (d.blocks == length claims) size none

tested_both : (either rest whole : Bool) → either ≡ true → (either && rest) ≡ whole → rest ≡ whole
tested_both true rest whole is same = same
tested_both false rest whole is same = absurd (cc)

tested_one : (either rest whole : Bool) → either ≡ false → (either && rest) ≡ whole → false ≡ whole
tested_one true rest whole is same = absurd (cc)
tested_one false rest whole is same = same

-- so the claims decide, where no hole is wrong
pub numbers_by_claims : (g : Geometry) (i : ℕ) (d : Dinode) (numbers : List ℕ) (chunks : List (Option (List Slot))) → has_right_size g d ≡ true
    → has_none_past (used_with d numbers chunks) ≡ true → (is_file d.mode || has_no_hole (used_with d numbers chunks)) ≡ true
    → (list_all (is_body g) (blocks_claimed d (take (size_in_blocks d.size) numbers))
    && d.blocks == length (blocks_claimed d (take (size_in_blocks d.size) numbers)))
    ≡ has_right_numbers g i (used_with d numbers chunks)
numbers_by_claims g i d numbers chunks size none either = tested_both _ _ _ either (numbers_below g i d numbers chunks size none)

pub wrong_hole : (g : Geometry) (i : ℕ) (d : Dinode) (numbers : List ℕ) (chunks : List (Option (List Slot))) → has_right_size g d ≡ true
    → has_none_past (used_with d numbers chunks) ≡ true → (is_file d.mode || has_no_hole (used_with d numbers chunks)) ≡ false
    → false ≡ has_right_numbers g i (used_with d numbers chunks)
wrong_hole g i d numbers chunks size none either = tested_one _ _ _ either (numbers_below g i d numbers chunks size none)

pub wrong_size : (g : Geometry) (i : ℕ) (d : Dinode) (numbers : List ℕ) (chunks : List (Option (List Slot))) → has_right_size g d ≡ false
    → false ≡ has_right_numbers g i (used_with d numbers chunks)
wrong_size g i d numbers chunks wrong = sym (and_left _ _ (and_left _ _ (and_left _ _ (and_left _ _ wrong))))

pub some_past : (g : Geometry) (i : ℕ) (d : Dinode) (numbers : List ℕ) (chunks : List (Option (List Slot))) → has_none_past (used_with d numbers chunks) ≡ false
    → false ≡ has_right_numbers g i (used_with d numbers chunks)
some_past g i d numbers chunks wrong = sym (and_left _ _ (and_left _ _ (and_right _ _ wrong)))

-- the parts of right numbers
pub record HasParts (g : Geometry) (d : Dinode) (numbers : List ℕ) (chunks : List (Option (List Slot))) : Type 0 where
  pub size : has_right_size g d ≡ true
  pub bodies : list_all (is_body g) (blocks_claimed d numbers) ≡ true
  pub none : has_none_past (used_with d numbers chunks) ≡ true
  pub whole : (is_file d.mode || has_no_hole (used_with d numbers chunks)) ≡ true

pub parts : (g : Geometry) (i : ℕ) (d : Dinode) (numbers : List ℕ) (chunks : List (Option (List Slot)))
    → has_right_fields g i (used_with d numbers chunks) ≡ true → HasParts g d numbers chunks
parts g i d numbers chunks right =
    let four = and_parts _ _ (and_parts _ _ right).1 in
    let three = and_parts _ _ four.0 in
    let two = and_parts _ _ three.0 in
    let one = and_parts _ _ two.0 in
    record { size = one.0; bodies = sym (bodies-claims_in g i d numbers chunks) ∙ one.1; none = two.1; whole = three.1 }

-- each block that is claimed is a body block
pub bodies_of_fields : (g : Geometry) (i : ℕ) (d : Dinode) (numbers : List ℕ) (chunks : List (Option (List Slot)))
    → has_right_fields g i (used_with d numbers chunks) ≡ true → All (λ b. is_body g b ≡ true) (blocks_claimed d numbers)
bodies_of_fields g i d numbers chunks right = AllPass-from_list_all (is_body g) (blocks_claimed d numbers) (parts g i d numbers chunks right).bodies

-- and it is claimed below the size
pub below_of_fields : (g : Geometry) (i : ℕ) (d : Dinode) (numbers : List ℕ) (chunks : List (Option (List Slot)))
    → has_right_fields g i (used_with d numbers chunks) ≡ true → blocks_claimed d (take (size_in_blocks d.size) numbers) ≡ blocks_claimed d numbers
below_of_fields g i d numbers chunks right = blocks_claimed-take d numbers chunks (parts g i d numbers chunks right).none

-- a mode of one type isn't of another
not_of_type : (type other mode : ℕ) → type + 0x1ff < other → has_type type mode ≡ true → has_type other mode ≡ false
not_of_type type other mode apart is =
    let high : mode ≤ type + 0x1ff = leb-true mode (type + 0x1ff) (and_parts (nat_le type mode) (nat_le mode (type + 0x1ff)) is).1 in
    and_left (nat_le other mode) (nat_le mode (other + 0x1ff)) (lt-leb other mode (omega (arith, high)))

no_file : (mode : ℕ) → is_directory mode ≡ true → is_file mode ≡ false
no_file mode directory = not_of_type 0x4000 0x8000 mode (omega arith) directory

no_link : (mode : ℕ) → is_directory mode ≡ true → is_link mode ≡ false
no_link mode directory = not_of_type 0x4000 0xa000 mode (omega arith) directory

in_middle : (file of_file directory link low high : Bool) → file ≡ false → link ≡ false → (file && of_file || directory || link && low && high) ≡ true
    → directory ≡ true
in_middle true of_file directory link low high no_file no_link is = absurd (cc)
in_middle false of_file true link low high no_file no_link is = refl
in_middle false of_file false true low high no_file no_link is = absurd (cc)
in_middle false of_file false false low high no_file no_link is = is

size_of_directory : (g : Geometry) (d : Dinode) → has_right_size g d ≡ true → is_directory d.mode ≡ true → (d.size % 512 ≡ 0) × (d.size ≤ 4096 * 256)
size_of_directory g d right directory =
    let is : (is_directory d.mode && d.size % 512 == 0 && nat_le 512 d.size && nat_le d.size (4096 * 256)) ≡ true =
    in_middle (is_file d.mode) (nat_le d.size (4096 * most_blocks g))
    (is_directory d.mode && d.size % 512 == 0 && nat_le 512 d.size && nat_le d.size (4096 * 256)) (is_link d.mode) (nat_le 1 d.size) (nat_le d.size 1024)
    (no_file d.mode directory) (no_link d.mode directory) right in
    let three = and_parts _ _ is in
    let two = and_parts _ _ three.0 in
    (eqb-true (d.size % 512) 0 (and_parts _ _ two.0).1, leb-true d.size (4096 * 256) three.1)

no_hole_of : (file no_hole : Bool) → file ≡ false → (file || no_hole) ≡ true → no_hole ≡ true
no_hole_of true no_hole no_file either = absurd (cc)
no_hole_of false no_hole no_file either = either

held_at : (n : ℕ) (numbers : List ℕ) (k : ℕ) → nat_le n (length numbers) ≡ true → list_all (λ number. not (number == 0)) (take n numbers) ≡ true
    → k < n → slice_index numbers k ≢ 0
held_at n numbers k fits held below is =
    let size = length-take-le n numbers (leb-true n (length numbers) fits) in
    let test = AllPass-from_list_all (λ number. not (number == 0)) (take n numbers) held k 0 (omega (arith, size)) in
    let here : slice_index (take n numbers) k ≡ 0 = get_or-take n numbers k 0 below ∙ is in
    true≢false (sym test ∙ ap not (eq-eqb _ _ here))

body_at : (g : Geometry) (d : Dinode) (numbers : List ℕ) (k : ℕ) → list_all (is_body g) (blocks_claimed d numbers) ≡ true → k < length numbers
    → slice_index numbers k ≢ 0 → is_body g (slice_index numbers k) ≡ true
body_at g d numbers k bodies within held =
    let tests = sym (list_all-nonzero (is_body g) (slice_index d.indirect 0 ∷ numbers)) ∙ bodies in
    let test = AllPass-from_list_all (λ b. b == 0 || is_body g b) numbers (and_parts _ _ tests).1 k 0 within in
    elim (or_cases _ _ test) [ inl none ↦ absurd (held (eqb-true _ _ none)) | inr body ↦ body ]

-- a directory can be read
pub readable_of_fields : (g : Geometry) (i : ℕ) (d : Dinode) (numbers : List ℕ) (chunks : List (Option (List Slot)))
    → has_right_fields g i (used_with d numbers chunks) ≡ true → is_directory d.mode ≡ true → IsReadable g d numbers
readable_of_fields g i d numbers chunks right directory =
    let has = parts g i d numbers chunks right in
    let size = size_of_directory g d has.size directory in
    let no_hole = no_hole_of (is_file d.mode) (has_no_hole (used_with d numbers chunks)) (no_file d.mode directory) has.whole in
    let whole =
    and_parts (nat_le (size_in_blocks d.size) (length numbers)) (list_all (λ number. not (number == 0)) (take (size_in_blocks d.size) numbers)) no_hole in
    let fits = leb-true (size_in_blocks d.size) (length numbers) whole.0 in
    record {
      chunks = size.0;
      most = size.1;
      fits = fits;
      held = λ k below. held_at (size_in_blocks d.size) numbers k whole.0 whole.1 below;
      bodies = λ k below.
          body_at g d numbers k has.bodies (omega (arith, fits)) (held_at (size_in_blocks d.size) numbers k whole.0 whole.1 below);
    }
