-- When the numbers of an inode's new state are right: its parts, one by one, and what they depend on.
use Rattle.std.proofs.Common.{◌≡◌, ◌≤◌, inl, inr, ℕ, ◌+◌, ◌*◌, ◌/◌, ◌%◌, Bool, true, false, not, ◌&&◌, ◌||◌, List, length, take, drop, Option, Some, refl, sym, ap, ◌∙◌, subst, arith}
use Rattle.std.specs.Prelude.{nat_le, nat_lt, ◌==◌, is_some}
use Rattle.std.specs.List.{list_all}
use Rattle.std.specs.Option.{option_map_or}
use Rattle.std.proofs.lemmas.Bool.{cases_eq, cases_lt, and_from, and_left, and_right, le-leb, lt-leb, eq-eqb, ne_eqb, not-false}
use Rattle.lufs_base.specs.Fields.{are_zeros}
use Rattle.lufs_base.specs.declared.geometry.Geometry.{Geometry}
use Rattle.volume_model.specs.declared.inode.Dinode.{Dinode}
use Rattle.volume_model.specs.declared.hand.Hand.{Hand}
use Rattle.volume_model.specs.Format.{is_body, has_type, is_file, is_directory, is_link}
use Rattle.volume_model.specs.Sound.{UsedInode, Reading, used_at, claims_in, size_in_blocks, most_blocks, first_index, has_right_numbers, IsStored}
use Rattle.volume_laws.proofs.ClaimFacts.{used_within}
use Rattle.volume_laws.proofs.Counting.{one_if}
use Rattle.change_laws.specs.Plans.{KeepsBlocks}
use Rattle.change_laws.proofs.Places.{places_of_stored}

-- the type of a mode is in its upper bits
type_by_bits : (type mode : ℕ) → has_type (512 * type) mode ≡ (mode / 512 == type)
type_by_bits type mode = elim (cases_eq (mode / 512) type) [
  | inl same ↦
      and_from (nat_le (512 * type) mode) (nat_le mode (512 * type + 0x1ff)) (le-leb (512 * type) mode (omega (arith, same))) (le-leb mode (512 * type + 0x1ff) (omega (arith, same)))
      ∙ sym (eq-eqb (mode / 512) type same)
  | inr other ↦
      elim (cases_lt mode (512 * type)) [
        | inl below ↦ and_left (nat_le (512 * type) mode) (nat_le mode (512 * type + 0x1ff)) (lt-leb (512 * type) mode below)
        | inr above ↦
            and_right (nat_le (512 * type) mode) (nat_le mode (512 * type + 0x1ff)) (lt-leb mode (512 * type + 0x1ff) (elim (cases_lt (512 * type + 0x1ff) mode) [
              | inl past ↦ past
              | inr inside ↦ absurd (other (omega (arith, above, inside)))
            ]))
      ] ∙ sym (ne_eqb (mode / 512) type other)
]

pub same_file : (new old : ℕ) → new / 512 ≡ old / 512 → is_file new ≡ is_file old
same_file new old same = type_by_bits 64 new ∙ ap (λ (k : ℕ). k == 64) same ∙ sym (type_by_bits 64 old)

pub same_directory : (new old : ℕ) → new / 512 ≡ old / 512 → is_directory new ≡ is_directory old
same_directory new old same = type_by_bits 32 new ∙ ap (λ (k : ℕ). k == 32) same ∙ sym (type_by_bits 32 old)

pub same_link : (new old : ℕ) → new / 512 ≡ old / 512 → is_link new ≡ is_link old
same_link new old same = type_by_bits 80 new ∙ ap (λ (k : ℕ). k == 80) same ∙ sym (type_by_bits 80 old)

-- the rule by what it depends on
abbrev right_by : Geometry → (i : ℕ) → UsedInode → (file directory link : Bool) → (size blocks : ℕ) → Bool
right_by g i u file directory link size blocks =
    ((file && nat_le size (4096 * most_blocks g))
    || (directory && size % 512 == 0 && nat_le 512 size && nat_le size (4096 * 256))
    || (link && nat_le 1 size && nat_le size 1024))
    && list_all (λ claim. is_body g claim.block) (claims_in i u)
    && (are_zeros (drop (size_in_blocks size) u.numbers)
    && list_all (λ p. p.block == 0 || nat_lt (first_index p.name) (size_in_blocks size)) u.pointers)
    && (file || (nat_le (size_in_blocks size) (length u.numbers) && list_all (λ number. not (number == 0)) (take (size_in_blocks size) u.numbers)))
    && blocks == length (claims_in i u)

by_parts : (g : Geometry) (i : ℕ) (u : UsedInode)
    → has_right_numbers g i u ≡ right_by g i u (is_file u.inode.mode) (is_directory u.inode.mode) (is_link u.inode.mode) u.inode.size u.inode.blocks
by_parts g i u = refl

-- a record that keeps its blocks keeps the rule
pub kept_right : (g : Geometry) (i : ℕ) (u : UsedInode) (d : Dinode) → KeepsBlocks u.inode d → has_right_numbers g i u ≡ true
    → has_right_numbers g i (record u { inode = d }) ≡ true
kept_right g i u d keeps right =
    let old = u.inode in
    let same : right_by g i u (is_file d.mode) (is_directory d.mode) (is_link d.mode) d.size d.blocks
    ≡ right_by g i u (is_file old.mode) (is_directory old.mode) (is_link old.mode) old.size old.blocks =
    λ t. right_by g i u (same_file d.mode old.mode keeps.type t) (same_directory d.mode old.mode keeps.type t) (same_link d.mode old.mode keeps.type t)
    (keeps.size t) (keeps.blocks t) in
    by_parts g i (record u { inode = d }) ∙ same ∙ right

-- an inode in use is none of the first two
pub usable : (g : Geometry) (r : Reading) (hands : List Hand) (i : ℕ) (u : UsedInode) → IsStored g r hands → used_at r i ≡ Some u → 2 ≤ i
usable g r hands i u stored used =
    let some : one_if (is_some (used_at r i)) ≡ 1 = ap (λ (o : Option UsedInode). one_if (is_some o)) used in
    ((places_of_stored g r hands stored).inode_usable i (omega (arith, some))).0

-- the chunks of an inode in use could all be read
pub chunks_read : (g : Geometry) (r : Reading) (hands : List Hand) (i : ℕ) (u : UsedInode) → IsStored g r hands → used_at r i ≡ Some u
    → list_all is_some u.chunks ≡ true
chunks_read g r hands i u stored used =
    not-false (list_all is_some u.chunks)
    (subst (λ (o : Option UsedInode). option_map_or (λ u. not (list_all is_some u.chunks)) o false ≡ false) used (stored.chunks i (used_within r i u used)))
