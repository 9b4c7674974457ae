-- The record of a file that gets a block may be written.
use Rattle.std.proofs.Common.{◌≡◌, ◌<◌, ◌≤◌, inl, inr, ℕ, ◌+◌, ◌^◌, List, length, slice_index, sym, ap, subst, ◌∙◌, arith}
use Rattle.std.specs.Prelude.{slice_set, IsTrue}
use Rattle.std.proofs.lemmas.Bool.{cases_eq}
use Rattle.std.proofs.lemmas.List.{length-set, get_or-set_same, get_or-set_other}
use Rattle.volume_model.specs.declared.inode.Dinode.{Dinode}
use Rattle.volume_model.specs.Format.{IsDinode, has_indirect}
use Rattle.file_map.specs.Attached.{one_more, with_direct, with_one_more, with_pointers}

pub counted : (n : ℕ) → n ≤ 1037 → one_more n ≡ n + 1
counted n most = omega (arith, most)

-- numbers that fit, one of them another one
pub set_fits : (numbers : List ℕ) (k b : ℕ) → k < length numbers → b < 2 ^ 32 → ((i : ℕ) → slice_index numbers i < 2 ^ 32) → (i : ℕ) → slice_index (slice_set numbers k b) i < 2 ^ 32
set_fits numbers k b below fits all i = elim (cases_eq i k) [
  | inl same ↦ subst (λ (n : ℕ). n < 2 ^ 32) (sym (ap (slice_index (slice_set numbers k b)) same ∙ get_or-set_same numbers k b 0 below)) fits
  | inr other ↦ subst (λ (n : ℕ). n < 2 ^ 32) (sym (get_or-set_other numbers k i b 0 other)) (all i)
]

pub direct_dinode : (version k b : ℕ) (d : Dinode) → IsDinode version d → d.blocks ≤ 1037 → k < 12 → b < 2 ^ 32 → IsDinode version (with_direct d k b)
direct_dinode version k b d is most below fits = record {
  mode = is.mode;
  links_fits = is.links_fits;
  uid_fits = is.uid_fits;
  gid_fits = is.gid_fits;
  size_fits = is.size_fits;
  mtime_fits = is.mtime_fits;
  direct_size = length-set d.direct k b ∙ is.direct_size;
  direct_fits = set_fits d.direct k b (omega (arith, below, is.direct_size)) fits is.direct_fits;
  indirect_size = is.indirect_size;
  indirect_fits = is.indirect_fits;
  blocks_fits = omega (arith, most, counted d.blocks most);
  indirect_in_version = is.indirect_in_version;
}

pub one_more_dinode : (version : ℕ) (d : Dinode) → IsDinode version d → d.blocks ≤ 1037 → IsDinode version (with_one_more d)
one_more_dinode version d is most = record {
  mode = is.mode;
  links_fits = is.links_fits;
  uid_fits = is.uid_fits;
  gid_fits = is.gid_fits;
  size_fits = is.size_fits;
  mtime_fits = is.mtime_fits;
  direct_size = is.direct_size;
  direct_fits = is.direct_fits;
  indirect_size = is.indirect_size;
  indirect_fits = is.indirect_fits;
  blocks_fits = omega (arith, most, counted d.blocks most);
  indirect_in_version = is.indirect_in_version;
}

pub pointers_dinode : (version p : ℕ) (d : Dinode) → IsDinode version d → d.blocks ≤ 1037 → p < 2 ^ 32 → IsDinode version (with_pointers d p)
pointers_dinode version p d is most fits =
    let second : slice_index (slice_set d.indirect 0 p) 1 ≡ slice_index d.indirect 1 = get_or-set_other d.indirect 0 1 p 0 (λ same. absurd (omega (arith, same))) in
    let third : slice_index (slice_set d.indirect 0 p) 2 ≡ slice_index d.indirect 2 = get_or-set_other d.indirect 0 2 p 0 (λ same. absurd (omega (arith, same))) in
    record {
      mode = is.mode;
      links_fits = is.links_fits;
      uid_fits = is.uid_fits;
      gid_fits = is.gid_fits;
      size_fits = is.size_fits;
      mtime_fits = is.mtime_fits;
      direct_size = is.direct_size;
      direct_fits = is.direct_fits;
      indirect_size = length-set d.indirect 0 p ∙ is.indirect_size;
      indirect_fits = set_fits d.indirect 0 p (omega (arith, is.indirect_size)) fits is.indirect_fits;
      blocks_fits = omega (arith, most, counted d.blocks most);
      indirect_in_version = subst (λ (n : ℕ). IsTrue (has_indirect version n (slice_index (slice_set d.indirect 0 p) 2))) (sym second)
          (subst (λ (n : ℕ). IsTrue (has_indirect version (slice_index d.indirect 1) n)) (sym third) is.indirect_in_version);
    }
