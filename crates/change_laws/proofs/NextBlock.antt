-- What is known of a directory whose next chunk begins a block: the number at that index, and its pointer block.
use Rattle.std.proofs.Common.{◌≡◌, ◌<◌, ◌≤◌, inl, inr, ℕ, ◌*◌, true, ◌||◌, List, length, get_or, slice_index, Some, subst, arith}
use Rattle.std.specs.Prelude.{◌==◌, nat_lt}
use Rattle.std.specs.List.{list_all}
use Rattle.std.proofs.lemmas.Bool.{and_parts, or_cases, or_left, or_right, lt-ltb, ltb-true}
use Rattle.std.proofs.lemmas.List.Sums.{AllPass-from_list_all, list_all-from_AllPass}
use Rattle.lufs_base.specs.declared.geometry.Geometry.{Geometry}
use Rattle.volume_model.specs.declared.inode.Dinode.{Dinode}
use Rattle.volume_model.specs.declared.hand.Hand.{Hand}
use Rattle.volume_model.specs.Format.{Blocks}
use Rattle.volume_model.specs.Sound.{NamedPointer, UsedInode, reading_of, used_at, size_in_blocks, first_index, IsStored, DirectoryNode, Directory, tree_of}
use Rattle.volume_laws.proofs.StoredClaims.{right_numbers}
use Rattle.volume_laws.proofs.FieldFacts.{HasRightFields, fields_of_numbers}
use Rattle.volume_laws.proofs.NumberChange.{numbers_of_used}
use Rattle.volume_laws.proofs.BodyChanges.{has_record}
use Rattle.change_laws.specs.Plans.{GrowsByChunk}
use Rattle.change_laws.proofs.Extended.{zero_at}
use Rattle.change_laws.proofs.DirectoryGrowth.{chunks_of_directory}

-- a pointer block that was needed still is where there are more blocks
pub still_needed : (s t : ℕ) (pointers : List NamedPointer) → s ≤ t → list_all (λ p. p.block == 0 || nat_lt (first_index p.name) s) pointers ≡ true
    → list_all (λ p. p.block == 0 || nat_lt (first_index p.name) t) pointers ≡ true
still_needed s t pointers more needed = list_all-from_AllPass (λ p. p.block == 0 || nat_lt (first_index p.name) t) pointers (λ j p less.
    let q = get_or pointers j p in
    elim (or_cases (q.block == 0) (nat_lt (first_index q.name) s) (AllPass-from_list_all (λ p. p.block == 0 || nat_lt (first_index p.name) s) pointers needed j p less)) [
      | inl none ↦ or_left (q.block == 0) (nat_lt (first_index q.name) t) none
      | inr low ↦ or_right (q.block == 0) (nat_lt (first_index q.name) t) (lt-ltb (first_index q.name) t (let below = ltb-true (first_index q.name) s low in omega (arith, below, more)))
    ])

-- what is known of a directory whose next chunk begins block k
module _ (g : Geometry) (blocks : Blocks) (i k : ℕ) (u : UsedInode) (directory : DirectoryNode) (hands : List Hand)
    (stored : IsStored g (reading_of g blocks) hands) (used : used_at (reading_of g blocks) i ≡ Some u) (stands : tree_of g blocks i ≡ Some (Directory directory))
    (eight : length directory.chunks ≡ 8 * k) where
  right : HasRightFields g i u
  right = fields_of_numbers g i u (right_numbers g (reading_of g blocks) i u hands stored used)

  full : size_in_blocks u.inode.size ≡ k
  full = omega (arith, (chunks_of_directory g blocks i u directory hands stored used stands).size, eight)

  pub next_is_empty : slice_index u.numbers k ≡ 0
  next_is_empty = zero_at u.numbers (size_in_blocks u.inode.size) k right.none_past (omega (arith, full))

  pub next_within : k < 256 → k < length u.numbers
  next_within below = omega (arith, numbers_of_used g blocks i u used, below)

  pub pointers_stay_needed : (d : Dinode) → GrowsByChunk u.inode d → list_all (λ p. p.block == 0 || nat_lt (first_index p.name) (size_in_blocks d.size)) u.pointers ≡ true
  pointers_stay_needed d grows = still_needed (size_in_blocks u.inode.size) (size_in_blocks d.size) u.pointers (omega (arith, grows.size)) right.pointers_needed

  -- without a thirteenth block there is no pointer block
  pub no_pointer : k ≡ 12 → (slice_index u.inode.indirect 0 == 0) ≡ true
  no_pointer twelve =
      let has = has_record g blocks i u used in
      let needed : (slice_index u.inode.indirect 0 == 0 || nat_lt 12 (size_in_blocks u.inode.size)) ≡ true =
      subst (λ (v : UsedInode). list_all (λ p. p.block == 0 || nat_lt (first_index p.name) (size_in_blocks v.inode.size)) v.pointers ≡ true
      → (slice_index v.inode.indirect 0 == 0 || nat_lt 12 (size_in_blocks v.inode.size)) ≡ true) has.leads (λ all. (and_parts _ true all).0) right.pointers_needed in
      elim (or_cases (slice_index u.inode.indirect 0 == 0) (nat_lt 12 (size_in_blocks u.inode.size)) needed) [
        | inl none ↦ none
        | inr past ↦ (let below = ltb-true 12 (size_in_blocks u.inode.size) past in absurd (omega (arith, below, full, twelve)))
      ]
