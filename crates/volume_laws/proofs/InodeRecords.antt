-- An inode and its record determine each other.
use Rattle.std.proofs.Common.{◌≡◌, ◌==◌, ℕ, ◌<◌, ◌≤◌, Bool, true, false, cond, ◌⊎◌, inl, inr, List, ◌++◌, length, take, drop, replicate, slice_index, Option, Some, None, refl, ap, sym, ◌∙◌, arith, IsTrue}
use Rattle.std.proofs.lemmas.List.{drop-drop, drop_at, length-drop, length-take-le, take-append-drop}
use Rattle.std.proofs.lemmas.List.Folds.{list_all_at}
use Rattle.std.proofs.lemmas.Bool.{and_parts, and_from, cond-true, cond-false}
use Rattle.std.proofs.lemmas.Bool.Decides.{nat_tests}
use Rattle.lufs_base.specs.Fields.{AreBytes, number_in, u16_at, u32_at, u64_at, field_bytes, are_zeros}
use Rattle.lufs_base.proofs.Spelling.{read_back_of}
use Rattle.volume_model.specs.declared.inode.Dinode.{Dinode}
use Rattle.volume_model.specs.Format.{is_mode, numbers_in, numbers_bytes, named_dinode, has_indirect, is_dinode, dinode_of, dinode_bytes, IsDinode}
use Rattle.volume_model.proofs.Pieces.{rest_is_bytes, field_again, zeros_again}
use Rattle.volume_laws.proofs.Rows.{length-row, row_back, row_again}

mode_bounds : (mode : ℕ) → IsTrue (is_mode mode) → (0x4000 ≤ mode) × (mode < 0x10000)
mode_bounds mode is = grind (arith, nat_tests)

-- bytes whose first is not 0
not_zeros : (bytes : List ℕ) → 0 < length bytes → 0 < slice_index bytes 0 → are_zeros bytes ≡ false
not_zeros bytes any some =
    let first : (slice_index bytes 0 == 0) ≡ false = grind (arith, nat_tests) in
    list_all_at (λ (b : ℕ). b == 0) bytes 0 0 any first

same_inode : (m n : Dinode) → m.mode ≡ n.mode → m.links ≡ n.links → m.uid ≡ n.uid → m.gid ≡ n.gid → m.size ≡ n.size → m.mtime ≡ n.mtime
    → m.direct ≡ n.direct → m.indirect ≡ n.indirect → m.blocks ≡ n.blocks → m ≡ n
same_inode m n mode links uid gid size mtime direct indirect blocks = λ i. record {
  mode = mode i;
  links = links i;
  uid = uid i;
  gid = gid i;
  size = size i;
  mtime = mtime i;
  direct = direct i;
  indirect = indirect i;
  blocks = blocks i;
}

-- what bytes read as
record Reads (bytes : List ℕ) (d : Dinode) : Type 0 where
  mode : u16_at bytes 0 ≡ d.mode
  links : u16_at bytes 2 ≡ d.links
  uid : u32_at bytes 4 ≡ d.uid
  gid : u32_at bytes 8 ≡ d.gid
  size : u64_at bytes 16 ≡ d.size
  mtime : u64_at bytes 24 ≡ d.mtime
  direct : numbers_in 12 (drop 32 bytes) ≡ d.direct
  indirect : numbers_in 3 (drop 80 bytes) ≡ d.indirect
  blocks : u32_at bytes 92 ≡ d.blocks
  gap : are_zeros (take 4 (drop 12 bytes)) ≡ true
  end : are_zeros (drop 96 bytes) ≡ true

-- the value of a record, from what its bytes read as
used : (version : ℕ) (bytes : List ℕ) (d : Dinode) → IsDinode version d → Reads bytes d → are_zeros bytes ≡ false
    → dinode_of version bytes ≡ Some (Some d)
unfolding dinode_of numbers_in
used version bytes d is reads some =
    let mode : is_mode (u16_at bytes 0) ≡ true = ap is_mode reads.mode ∙ is.mode in
    let second : u32_at bytes 84 ≡ slice_index d.indirect 1 = ap (number_in 4) (sym (drop-drop 4 80 bytes)) ∙ ap (λ (l : List ℕ). slice_index l 1) reads.indirect in
    let third : u32_at bytes 88 ≡ slice_index d.indirect 2 =
    ap (number_in 4) (sym (drop-drop 4 84 bytes) ∙ ap (drop 4) (sym (drop-drop 4 80 bytes))) ∙ ap (λ (l : List ℕ). slice_index l 2) reads.indirect in
    let indirect : has_indirect version (u32_at bytes 84) (u32_at bytes 88) ≡ true =
    ap (λ (n : ℕ). has_indirect version n (u32_at bytes 88)) second ∙ ap (has_indirect version (slice_index d.indirect 1)) third ∙ is.indirect_in_version in
    let test : is_dinode version bytes ≡ true = and_from _ _ (and_from _ _ (and_from _ _ mode reads.gap) reads.end) indirect in
    let named : named_dinode bytes ≡ d =
    same_inode (named_dinode bytes) d reads.mode reads.links reads.uid reads.gid reads.size reads.mtime reads.direct reads.indirect reads.blocks in
    cond-false (are_zeros bytes) _ _ some ∙ cond-true (is_dinode version bytes) _ _ test ∙ ap (λ (x : Dinode). Some (Some x)) named

pub inode_back : (version : ℕ) (d : Dinode) → IsDinode version d → dinode_of version (dinode_bytes (Some d)) ≡ Some (Some d)
unfolding dinode_bytes
inode_back version d is =
    let r92 : List ℕ = field_bytes 4 d.blocks ++ replicate 32 0 in
    let r80 : List ℕ = numbers_bytes d.indirect ++ r92 in
    let r32 : List ℕ = numbers_bytes d.direct ++ r80 in
    let r24 : List ℕ = field_bytes 8 d.mtime ++ r32 in
    let r16 : List ℕ = field_bytes 8 d.size ++ r24 in
    let r12 : List ℕ = replicate 4 0 ++ r16 in
    let r8 : List ℕ = field_bytes 4 d.gid ++ r12 in
    let r4 : List ℕ = field_bytes 4 d.uid ++ r8 in
    let r2 : List ℕ = field_bytes 2 d.links ++ r4 in
    let r0 : List ℕ = field_bytes 2 d.mode ++ r2 in
    let bounds = mode_bounds d.mode is.mode in
    let at80 : drop 80 r0 ≡ r80 = drop_at (numbers_bytes d.direct) r80 48 (omega (arith, length-row d.direct, is.direct_size)) in
    let at92 : drop 92 r0 ≡ r92 =
    sym (drop-drop 12 80 r0) ∙ ap (drop 12) at80 ∙ drop_at (numbers_bytes d.indirect) r92 12 (omega (arith, length-row d.indirect, is.indirect_size)) in
    let at96 : drop 96 r0 ≡ replicate 32 0 = sym (drop-drop 4 92 r0) ∙ ap (drop 4) at92 in
    used version r0 d is record {
      mode = read_back_of 2 d.mode r2 bounds.1;
      links = read_back_of 2 d.links r4 is.links_fits;
      uid = read_back_of 4 d.uid r8 is.uid_fits;
      gid = read_back_of 4 d.gid r12 is.gid_fits;
      size = read_back_of 8 d.size r24 is.size_fits;
      mtime = read_back_of 8 d.mtime r32 is.mtime_fits;
      direct = ap (λ (n : ℕ). numbers_in n r32) (sym is.direct_size) ∙ row_back d.direct r80 is.direct_fits;
      indirect = ap (numbers_in 3) at80 ∙ ap (λ (n : ℕ). numbers_in n r80) (sym is.indirect_size) ∙ row_back d.indirect r92 is.indirect_fits;
      blocks = ap (number_in 4) at92 ∙ read_back_of 4 d.blocks (replicate 32 0) is.blocks_fits;
      gap = refl;
      end = ap are_zeros at96;
    } (not_zeros r0 (omega arith) (omega arith))

pub free_back : (version : ℕ) → dinode_of version (dinode_bytes None) ≡ Some None
unfolding dinode_of dinode_bytes
free_back version = refl

-- what a record was tested for
cases : (zeros test : Bool) (x : Dinode) (d : Option Dinode) → cond zeros (Some None) (cond test (Some (Some x)) None) ≡ Some d
    → ((zeros ≡ true) × (None ≡ d)) ⊎ ((test ≡ true) × (Some x ≡ d))
cases true test x d same = inl (refl, cc)
cases false true x d same = inr (refl, cc)
cases false false x d same = absurd (cc)

inode_again : (version : ℕ) (bytes : List ℕ) → AreBytes bytes → length bytes ≡ 128 → is_dinode version bytes ≡ true
    → dinode_bytes (Some (named_dinode bytes)) ≡ bytes
unfolding dinode_bytes
inode_again version bytes are long test =
    let gap : are_zeros (take 4 (drop 12 bytes)) ≡ true = (and_parts _ _ (and_parts _ _ (and_parts _ _ test).0).0).1 in
    let end : are_zeros (drop 96 bytes) ≡ true = (and_parts _ _ (and_parts _ _ test).0).1 in
    let at96 = zeros_again 32 (drop 96 bytes) (omega (arith, length-drop 96 bytes)) end in
    let at92 = field_again 4 92 96 bytes _ are (omega arith) (omega arith) at96 in
    let at80 = row_again 3 (drop 80 bytes) _ (rest_is_bytes 80 bytes are) (omega (arith, length-drop 80 bytes)) (at92 ∙ sym (drop-drop 12 80 bytes)) in
    let at32 = row_again 12 (drop 32 bytes) _ (rest_is_bytes 32 bytes are) (omega (arith, length-drop 32 bytes)) (at80 ∙ sym (drop-drop 48 32 bytes)) in
    let at24 = field_again 8 24 32 bytes _ are (omega arith) (omega arith) at32 in
    let at16 = field_again 8 16 24 bytes _ are (omega arith) (omega arith) at24 in
    let zeros = zeros_again 4 (take 4 (drop 12 bytes)) (length-take-le 4 (drop 12 bytes) (omega (arith, length-drop 12 bytes))) gap in
    let at12 = ap (λ (l : List ℕ). replicate 4 0 ++ l) (at16 ∙ sym (drop-drop 4 12 bytes)) ∙ ap (λ (l : List ℕ). l ++ drop 4 (drop 12 bytes)) zeros ∙ take-append-drop 4 (drop 12 bytes) in
    let at8 = field_again 4 8 12 bytes _ are (omega arith) (omega arith) at12 in
    let at4 = field_again 4 4 8 bytes _ are (omega arith) (omega arith) at8 in
    let at2 = field_again 2 2 4 bytes _ are (omega arith) (omega arith) at4 in
    field_again 2 0 2 bytes _ are (omega arith) (omega arith) at2

pub inode_spelled_again : (version : ℕ) (bytes : List ℕ) (d : Option Dinode) → AreBytes bytes → length bytes ≡ 128 → dinode_of version bytes ≡ Some d
    → dinode_bytes d ≡ bytes
unfolding dinode_of dinode_bytes
inode_spelled_again version bytes d are long same =
    elim (cases (are_zeros bytes) (is_dinode version bytes) (named_dinode bytes) d same) [
      | inl free ↦ ap dinode_bytes (sym free.1) ∙ zeros_again 128 bytes long free.0
      | inr found ↦ ap dinode_bytes (sym found.1) ∙ inode_again version bytes are long found.0
    ]
