-- Which numbers and pointer blocks the new record of an inode leads to.
use Rattle.std.proofs.Common.{◌≡◌, ◌<◌, ℕ, eqb, true, false, List, [], ◌∷◌, ◌++◌, length, set, replicate, slice_index, Some, refl, sym, ap, ◌∙◌, subst, arith}
use Rattle.std.specs.Prelude.{◌==◌}
use Rattle.std.proofs.lemmas.Bool.{cond-true, cond-false}
use Rattle.std.proofs.lemmas.List.{set-append_left}
use Rattle.lufs_base.specs.Layout.{IsGeometry}
use Rattle.lufs_base.specs.declared.geometry.Geometry.{Geometry}
use Rattle.volume_model.specs.declared.inode.Dinode.{Dinode}
use Rattle.volume_model.specs.Format.{Blocks, pointers_of}
use Rattle.volume_model.specs.Sound.{Single, UsedInode, reading_of, used_at, named_pointers, numbers_of, pointers_at, IsLaid}
use Rattle.volume_laws.proofs.TreeClaims.{direct_size}
use Rattle.volume_laws.proofs.BodyChanges.{has_record}
use Rattle.change_laws.specs.Plans.{WritesRecord}
use Rattle.change_laws.proofs.RecordReads.{numbers_after, numbers_stay}

module _ (g : Geometry) (blocks others : Blocks) (ok : IsGeometry g) (laid : IsLaid g (reading_of g blocks)) (i : ℕ) (u : UsedInode) (d : Dinode)
    (used : used_at (reading_of g blocks) i ≡ Some u) (writes : WritesRecord g blocks others i (Some d)) where
  pub same_pointers : d.indirect ≡ u.inode.indirect → named_pointers d ≡ u.pointers
  same_pointers indirect =
      let has = has_record g blocks i u used in
      subst (λ (v : UsedInode). d.indirect ≡ v.inode.indirect → named_pointers d ≡ v.pointers) has.leads
      (λ same t. record { name = Single; block = slice_index (same t) 0 } ∷ []) indirect

  pub same_numbers : d.direct ≡ u.inode.direct → d.indirect ≡ u.inode.indirect → numbers_of others d ≡ u.numbers
  same_numbers direct indirect =
      let has = has_record g blocks i u used in
      subst (λ (v : UsedInode). d.direct ≡ v.inode.direct → d.indirect ≡ v.inode.indirect → numbers_of others d ≡ v.numbers) has.leads
      (numbers_after g blocks others ok laid i writes.within writes.agree has.dinode has.there d) direct indirect

  -- with another direct number
  pub numbers_with_direct : (k b : ℕ) → k < 12 → d.direct ≡ set u.inode.direct k b → d.indirect ≡ u.inode.indirect → numbers_of others d ≡ set u.numbers k b
  numbers_with_direct k b below direct indirect =
      let has = has_record g blocks i u used in
      let e = has.dinode in
      let rest = pointers_at others (slice_index e.indirect 0) ++ [] in
      let size : length e.direct ≡ 12 = direct_size g.version _ e has.there in
      subst (λ (v : UsedInode). d.direct ≡ set v.inode.direct k b → d.indirect ≡ v.inode.indirect → numbers_of others d ≡ set v.numbers k b) has.leads (λ first second.
      (λ t. first t ++ (pointers_at others (slice_index (second t) 0) ++ []))
      ∙ sym (set-append_left e.direct rest k b (omega (arith, below, size)))
      ∙ ap (λ (l : List ℕ). set l k b) (numbers_stay g blocks others ok laid i writes.within writes.agree e has.there)) direct indirect

  -- with a pointer block where there was none
  pub numbers_by_pointer : (p : ℕ) (row : List ℕ) → d.direct ≡ u.inode.direct → slice_index d.indirect 0 ≡ p → eqb p 0 ≡ false → pointers_of (others p) ≡ row
      → numbers_of others d ≡ u.inode.direct ++ (row ++ [])
  numbers_by_pointer p row direct indirect some is =
      let new : pointers_at others (slice_index d.indirect 0) ≡ row =
      ap (pointers_at others) indirect ∙ cond-false (eqb p 0) (replicate 1024 0) (pointers_of (others p)) some ∙ is in
      λ t. direct t ++ (new t ++ [])

-- without a pointer block all numbers after the direct ones are 0
pub numbers_without_pointer : (g : Geometry) (blocks : Blocks) (i : ℕ) (u : UsedInode) → used_at (reading_of g blocks) i ≡ Some u
    → (slice_index u.inode.indirect 0 == 0) ≡ true → u.numbers ≡ u.inode.direct ++ (replicate 1024 0 ++ [])
numbers_without_pointer g blocks i u used =
    let has = has_record g blocks i u used in
    let e = has.dinode in
    subst (λ (v : UsedInode). (slice_index v.inode.indirect 0 == 0) ≡ true → v.numbers ≡ v.inode.direct ++ (replicate 1024 0 ++ [])) has.leads (λ empty.
    ap (λ (l : List ℕ). e.direct ++ (l ++ [])) (cond-true (eqb (slice_index e.indirect 0) 0) (replicate 1024 0) (pointers_of (blocks (slice_index e.indirect 0))) empty))

-- the numbers of its pointer blocks
pub pointer_blocks : (g : Geometry) (blocks : Blocks) (i : ℕ) (u : UsedInode) → used_at (reading_of g blocks) i ≡ Some u
    → u.pointers ≡ record { name = Single; block = slice_index u.inode.indirect 0 } ∷ []
pointer_blocks g blocks i u used =
    let has = has_record g blocks i u used in
    subst (λ (v : UsedInode). v.pointers ≡ record { name = Single; block = slice_index v.inode.indirect 0 } ∷ []) has.leads refl
