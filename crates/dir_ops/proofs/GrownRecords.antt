-- The record of a directory that gets one chunk more may be written.
use Rattle.std.proofs.Common.{◌≡◌, ◌≢◌, ◌<◌, ◌≤◌, inl, inr, ℕ, suc, ◌+◌, ◌*◌, ◌/◌, ◌%◌, ◌^◌, eqb, Bool, true, false, not, List, [], ◌∷◌, ◌++◌, length, map, replicate, get_or, set, slice_index, Option, Some, refl, sym, ap, subst, ◌∙◌, arith}
use Rattle.std.specs.Prelude.{slice_set, IsTrue}
use Rattle.std.specs.List.{filter, count_by}
use Rattle.std.proofs.lemmas.Bool.{cases_eq, cases_lt, cases_Bool, cond-true, true≢false, false≢true, eq-eqb}
use Rattle.std.proofs.lemmas.List.{length-append, length-map, length-set, get_or-set_same, get_or-set_other}
use Rattle.std.proofs.lemmas.List.Sums.{length-filter, count_by-le-length}
use Rattle.lufs_base.specs.declared.geometry.Geometry.{Geometry}
use Rattle.volume_model.specs.declared.hand.Hand.{Hand}
use Rattle.volume_model.specs.declared.inode.Dinode.{Dinode}
use Rattle.volume_model.specs.Format.{Blocks, IsDinode, has_indirect}
use Rattle.volume_model.specs.Sound.{UsedInode, reading_of, used_at, NamedPointer, Claim, index_claims, pointer_claim, claims_in, IsStored}
use Rattle.volume_laws.proofs.StoredClaims.{right_numbers}
use Rattle.volume_laws.proofs.FieldFacts.{count_of_numbers}
use Rattle.volume_laws.proofs.NumberChange.{numbers_of_used}
use Rattle.change_laws.proofs.NumberReads.{pointer_blocks}
use Rattle.dir_ops.specs.Growth.{with_room, with_direct, with_pointer}

length-index_claims : (i a : ℕ) (numbers : List ℕ) → length (index_claims i a numbers) ≡ length numbers
length-index_claims i a [] = refl
length-index_claims i a (n ∷ numbers) = ap (λ (k : ℕ). suc k) (length-index_claims i (a + 1) numbers)

-- an inode has few blocks
pub few_blocks : (g : Geometry) (blocks : Blocks) (hands : List Hand) (i : ℕ) (u : UsedInode) → IsStored g (reading_of g blocks) hands → used_at (reading_of g blocks) i ≡ Some u → u.inode.blocks ≤ 1037
few_blocks g blocks hands i u stored used =
    let all = map (pointer_claim i) u.pointers ++ index_claims i 0 u.numbers in
    let test : Claim → Bool = λ claim. not (eqb claim.block 0) in
    let count = count_of_numbers g i u (right_numbers g (reading_of g blocks) i u hands stored used) in
    let both = length-append (map (pointer_claim i) u.pointers) (index_claims i 0 u.numbers) in
    let mapped = length-map u.pointers (pointer_claim i) in
    let one : length u.pointers ≡ 1 = ap (λ (l : List NamedPointer). length l) (pointer_blocks g blocks i u used) in
    omega (arith, count, length-filter test all, count_by-le-length test all, both, mapped, one, length-index_claims i 0 u.numbers, numbers_of_used g blocks i u used)

pub room_dinode : (version more : ℕ) (d : Dinode) → IsDinode version d → d.size < 2 ^ 32 → d.blocks + more < 2 ^ 32 → IsDinode version (with_room more d)
room_dinode version more d is size count = record {
  mode = is.mode;
  links_fits = is.links_fits;
  uid_fits = is.uid_fits;
  gid_fits = is.gid_fits;
  size_fits = omega (arith, size);
  mtime_fits = is.mtime_fits;
  direct_size = is.direct_size;
  direct_fits = is.direct_fits;
  indirect_size = is.indirect_size;
  indirect_fits = is.indirect_fits;
  blocks_fits = count;
  indirect_in_version = is.indirect_in_version;
}

-- numbers that fit, one of them another one
set_fits : (numbers : List ℕ) (k b : ℕ) → k < length numbers → b < 2 ^ 32 → ((i : ℕ) → slice_index numbers i < 2 ^ 32) → (i : ℕ) → slice_index (slice_set numbers k b) i < 2 ^ 32
set_fits numbers k b below fits all i = elim (cases_eq i k) [
  | inl same ↦ subst (λ (n : ℕ). n < 2 ^ 32) (sym (ap (slice_index (slice_set numbers k b)) same ∙ get_or-set_same numbers k b 0 below)) fits
  | inr other ↦ subst (λ (n : ℕ). n < 2 ^ 32) (sym (get_or-set_other numbers k i b 0 other)) (all i)
]

pub direct_dinode : (version k b : ℕ) (d : Dinode) → IsDinode version d → d.size < 2 ^ 32 → d.blocks + 1 < 2 ^ 32 → k < 12 → b < 2 ^ 32 → IsDinode version (with_direct k b d)
direct_dinode version k b d is size count below fits = record {
  mode = is.mode;
  links_fits = is.links_fits;
  uid_fits = is.uid_fits;
  gid_fits = is.gid_fits;
  size_fits = omega (arith, size);
  mtime_fits = is.mtime_fits;
  direct_size = length-set d.direct k b ∙ is.direct_size;
  direct_fits = set_fits d.direct k b (omega (arith, below, is.direct_size)) fits is.direct_fits;
  indirect_size = is.indirect_size;
  indirect_fits = is.indirect_fits;
  blocks_fits = count;
  indirect_in_version = is.indirect_in_version;
}

pub pointer_dinode : (version p : ℕ) (d : Dinode) → IsDinode version d → d.size < 2 ^ 32 → d.blocks + 2 < 2 ^ 32 → p < 2 ^ 32 → IsDinode version (with_pointer p d)
pointer_dinode version p d is size count fits =
    let second : slice_index (slice_set d.indirect 0 p) 1 ≡ slice_index d.indirect 1 = get_or-set_other d.indirect 0 1 p 0 (λ same. absurd (omega (arith, same))) in
    let third : slice_index (slice_set d.indirect 0 p) 2 ≡ slice_index d.indirect 2 = get_or-set_other d.indirect 0 2 p 0 (λ same. absurd (omega (arith, same))) in
    record {
      mode = is.mode;
      links_fits = is.links_fits;
      uid_fits = is.uid_fits;
      gid_fits = is.gid_fits;
      size_fits = omega (arith, size);
      mtime_fits = is.mtime_fits;
      direct_size = is.direct_size;
      direct_fits = is.direct_fits;
      indirect_size = length-set d.indirect 0 p ∙ is.indirect_size;
      indirect_fits = set_fits d.indirect 0 p (omega (arith, is.indirect_size)) fits is.indirect_fits;
      blocks_fits = count;
      indirect_in_version = subst (λ (n : ℕ). IsTrue (has_indirect version n (slice_index (slice_set d.indirect 0 p) 2))) (sym second)
          (subst (λ (n : ℕ). IsTrue (has_indirect version (slice_index d.indirect 1) n)) (sym third) is.indirect_in_version);
    }
