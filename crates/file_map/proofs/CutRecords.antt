-- The record of a file with another size may be written.
use Rattle.std.proofs.Common.{◌≡◌, ◌<◌, ◌≤◌, inl, inr, ℕ, ◌+◌, ◌-◌, ◌^◌, eqb, Bool, true, List, ◌++◌, length, take, set, replicate, slice_index, refl, sym, ap, subst, ◌∙◌, arith}
use Rattle.std.specs.Prelude.{slice_set, IsTrue}
use Rattle.std.proofs.lemmas.Bool.{cases_eq, cases_lt}
use Rattle.std.proofs.lemmas.List.{length-append, length-replicate, length-take-le, length-set, get_or-set_same, get_or-set_other, get_or-take, get_or_append_left, get_or-append_right, get_or-replicate, get_or_past}
use Rattle.volume_model.specs.declared.inode.Dinode.{Dinode}
use Rattle.volume_model.specs.Format.{IsDinode, has_indirect}
use Rattle.file_map.specs.Cut.{sized, sized_to_direct}
use Rattle.file_map.proofs.AttachedRecords.{set_fits}

pub sized_dinode : (version size lost : ℕ) (d : Dinode) → IsDinode version d → size < 2 ^ 64 → IsDinode version (sized d size lost)
sized_dinode version size lost d is fits = record {
  mode = is.mode;
  links_fits = is.links_fits;
  uid_fits = is.uid_fits;
  gid_fits = is.gid_fits;
  size_fits = fits;
  mtime_fits = is.mtime_fits;
  direct_size = is.direct_size;
  direct_fits = is.direct_fits;
  indirect_size = is.indirect_size;
  indirect_fits = is.indirect_fits;
  blocks_fits = omega (arith, is.blocks_fits);
  indirect_in_version = is.indirect_in_version;
}

zeros_fit : (n i : ℕ) → slice_index (replicate n 0) i < 2 ^ 32
zeros_fit n i = elim (cases_lt i n) [
  | inl below ↦ subst (λ (m : ℕ). m < 2 ^ 32) (sym (get_or-replicate n i 0 0 below)) (omega arith)
  | inr past ↦ subst (λ (m : ℕ). m < 2 ^ 32) (sym (get_or_past (replicate n 0) i 0 (omega (arith, past, length-replicate {A = ℕ} n 0)))) (omega arith)
]

-- the first numbers, and zeros after them
front_fits : (numbers : List ℕ) (k n : ℕ) → k ≤ length numbers → ((i : ℕ) → slice_index numbers i < 2 ^ 32) → (i : ℕ) → slice_index (take k numbers ++ replicate n 0) i < 2 ^ 32
front_fits numbers k n within all i =
    let size = length-take-le k numbers within in
    elim (cases_lt i k) [
      | inl below ↦
          subst (λ (m : ℕ). m < 2 ^ 32) (sym (get_or_append_left (take k numbers) (replicate n 0) 0 i (omega (arith, below, size)) ∙ get_or-take k numbers i 0 below)) (all i)
      | inr past ↦ subst (λ (m : ℕ). m < 2 ^ 32) (sym (get_or-append_right (take k numbers) (replicate n 0) k i 0 size past)) (zeros_fit n (i - k))
    ]

pub direct_sized_dinode : (version size lost kept : ℕ) (d : Dinode) → IsDinode version d → size < 2 ^ 64 → kept ≤ 12 → IsDinode version (sized_to_direct d size lost kept)
direct_sized_dinode version size lost kept d is fits low =
    let second : slice_index (slice_set d.indirect 0 0) 1 ≡ slice_index d.indirect 1 = get_or-set_other d.indirect 0 1 0 0 (λ same. absurd (omega (arith, same))) in
    let third : slice_index (slice_set d.indirect 0 0) 2 ≡ slice_index d.indirect 2 = get_or-set_other d.indirect 0 2 0 0 (λ same. absurd (omega (arith, same))) in
    record {
      mode = is.mode;
      links_fits = is.links_fits;
      uid_fits = is.uid_fits;
      gid_fits = is.gid_fits;
      size_fits = fits;
      mtime_fits = is.mtime_fits;
      direct_size = omega (
        arith,
        length-append (take kept d.direct) (replicate (12 - kept) 0),
        length-take-le kept d.direct (omega (arith, low, is.direct_size)),
        length-replicate {A = ℕ} (12 - kept) 0,
        low,
      );
      direct_fits = front_fits d.direct kept (12 - kept) (omega (arith, low, is.direct_size)) is.direct_fits;
      indirect_size = length-set d.indirect 0 0 ∙ is.indirect_size;
      indirect_fits = set_fits d.indirect 0 0 (omega (arith, is.indirect_size)) (omega arith) is.indirect_fits;
      blocks_fits = omega (arith, is.blocks_fits);
      indirect_in_version = subst (λ (n : ℕ). IsTrue (has_indirect version n (slice_index (slice_set d.indirect 0 0) 2))) (sym second)
          (subst (λ (n : ℕ). IsTrue (has_indirect version (slice_index d.indirect 1) n)) (sym third) is.indirect_in_version);
    }
