-- The size in the record of an inode is that of its node, where each block of the volume has its length.
use Rattle.std.proofs.Common.{◌≡◌, ◌<◌, ◌≤◌, inl, inr, ℕ, ◌/◌, eqb, true, false, not, cond, List, [], length, take, slice_index, Some, refl, sym, ap, ◌∙◌, subst, arith}
use Rattle.std.specs.Prelude.{◌==◌, nat_lt, nat_le, ◌&&◌}
use Rattle.std.specs.Option.{unwrap_or}
use Rattle.std.proofs.lemmas.Bool.{and_parts, cond_both, cond-false, leb-true, ltb-true, not-true, false≢true}
use Rattle.std.proofs.lemmas.List.{get_or-take, length-map, length-take-le}
use Rattle.std.proofs.lemmas.List.Sums.{AllPass-from_list_all}
use Rattle.lufs_base.specs.Layout.{blocks_of, region_of}
use Rattle.lufs_base.specs.declared.geometry.Geometry.{Geometry}
use Rattle.volume_model.specs.declared.hand.Hand.{Hand}
use Rattle.volume_model.specs.Format.{Blocks, is_body, is_body_region, is_file, is_directory, is_link}
use Rattle.volume_model.specs.Sound.{UsedInode, reading_of, used_at, index_claim, block_numbered, size_in_blocks, has_no_hole, IsStored, Node, node_of}
use Rattle.volume_laws.proofs.ClaimFacts.{index_claimed}
use Rattle.volume_laws.proofs.LaidClaims.{body_of_claim}
use Rattle.volume_laws.proofs.StoredClaims.{right_numbers, stored_is_laid}
use Rattle.volume_laws.proofs.FieldFacts.{HasRightFields, fields_of_numbers}
use Rattle.volume_laws.proofs.NodeClaims.{second_of, sized, directory_size, link_size}
use Rattle.volume_laws.proofs.SameReading.{chunks_counted}
use Rattle.volume_laws.proofs.BodyChanges.{has_record}
use Rattle.volume_laws.proofs.NodeFacts.{as_file, as_directory, as_link}
use Rattle.history_model.specs.Replies.{size_of}

-- a link has at most 1,024 bytes, in one block
short_text : (g : Geometry) (i : ℕ) (u : UsedInode) → HasRightFields g i u → is_file u.inode.mode ≡ false → is_directory u.inode.mode ≡ false → u.inode.size ≤ 1024
short_text g i u right no_file plain = elim (sized g u.inode right.size no_file) [
  | inl chunks ↦ absurd (false≢true (sym plain ∙ (and_parts _ _ (and_parts _ _ (and_parts _ _ chunks).0).0).0))
  | inr link ↦ leb-true u.inode.size 1024 (and_parts (is_link u.inode.mode && nat_le 1 u.inode.size) (nat_le u.inode.size 1024) link).1
]

-- and it has that block
has_text : (g : Geometry) (i : ℕ) (u : UsedInode) → HasRightFields g i u → is_file u.inode.mode ≡ false → is_directory u.inode.mode ≡ false → eqb (slice_index u.numbers 0) 0 ≡ false
has_text g i u right no_file plain =
    let size = u.inode.size in
    let one : size_in_blocks size ≡ 1 = link_size g u.inode right.size no_file plain in
    let parts = and_parts _ _ (second_of (is_file u.inode.mode) (has_no_hole u) right.no_hole no_file) in
    let fits : size_in_blocks size ≤ length u.numbers = leb-true (size_in_blocks size) (length u.numbers) parts.0 in
    let inside : 0 < length (take (size_in_blocks size) u.numbers) = omega (arith, length-take-le (size_in_blocks size) u.numbers fits, one) in
    not-true (slice_index u.numbers 0 == 0)
    (ap (λ (n : ℕ). not (n == 0)) (sym (get_or-take (size_in_blocks size) u.numbers 0 0 (omega (arith, one))))
    ∙ AllPass-from_list_all (λ n. not (n == 0)) (take (size_in_blocks size) u.numbers) parts.1 0 0 inside)

-- the text of a link fills so many bytes of its block
text_counted : (g : Geometry) (blocks : Blocks) (i : ℕ) (u : UsedInode) → ((b : ℕ) → b < blocks_of g → length (blocks b) ≡ 4096) → HasRightFields g i u → is_file u.inode.mode ≡ false
    → is_directory u.inode.mode ≡ false → (eqb (slice_index u.numbers 0) 0 ≡ false → is_body g (slice_index u.numbers 0) ≡ true)
    → u.inode.size ≡ length (take u.inode.size (block_numbered blocks (slice_index u.numbers 0)))
text_counted g blocks i u sizes right no_file plain its_body =
    let number = slice_index u.numbers 0 in
    let size = u.inode.size in
    let none : eqb number 0 ≡ false = has_text g i u right no_file plain in
    let below : number < blocks_of g = ltb-true number (blocks_of g) (and_parts (nat_lt number (blocks_of g)) (is_body_region (region_of g number)) (its_body none)).0 in
    let long : length (block_numbered blocks number) ≡ 4096 = ap length (cond-false (eqb number 0) [] (blocks number) none) ∙ sizes number below in
    sym (length-take-le size (block_numbered blocks number) (omega (arith, long, short_text g i u right no_file plain)))

size_by_node : (g : Geometry) (blocks : Blocks) (i : ℕ) (u : UsedInode) → ((b : ℕ) → b < blocks_of g → length (blocks b) ≡ 4096) → HasRightFields g i u
    → (eqb (slice_index u.numbers 0) 0 ≡ false → is_body g (slice_index u.numbers 0) ≡ true)
    → (is_directory u.inode.mode ≡ true → length u.chunks ≡ u.inode.size / 512) → u.inode.size ≡ size_of (node_of blocks u)
size_by_node g blocks i u sizes right its_body counted =
    let m = u.inode.mode in
    let is : Node → Type 0 = λ node. u.inode.size ≡ size_of node in
    cond_both (is_file m) (as_file blocks u) (cond (is_directory m) (as_directory u) (as_link blocks u)) is (λ file. refl) (λ no_file.
    cond_both (is_directory m) (as_directory u) (as_link blocks u) is
    (λ directory. omega (arith, directory_size g u.inode right.size no_file directory, counted directory, length-map u.chunks (λ chunk. unwrap_or chunk [])))
    (λ plain. text_counted g blocks i u sizes right no_file plain its_body))

pub size_of_node_read : (g : Geometry) (blocks : Blocks) (i : ℕ) (u : UsedInode) (hands : List Hand) → ((b : ℕ) → b < blocks_of g → length (blocks b) ≡ 4096)
    → IsStored g (reading_of g blocks) hands → used_at (reading_of g blocks) i ≡ Some u → u.inode.size ≡ size_of (node_of blocks u)
size_of_node_read g blocks i u hands sizes stored used =
    let r = reading_of g blocks in
    let right = fields_of_numbers g i u (right_numbers g r i u hands stored used) in
    let has = has_record g blocks i u used in
    let counted : is_directory u.inode.mode ≡ true → length u.chunks ≡ u.inode.size / 512 =
    subst (λ (v : UsedInode). is_directory v.inode.mode ≡ true → length v.chunks ≡ v.inode.size / 512) has.leads (chunks_counted blocks has.dinode) in
    let body : eqb (slice_index u.numbers 0) 0 ≡ false → is_body g (slice_index u.numbers 0) ≡ true = λ some.
    body_of_claim g r (stored_is_laid g r hands stored) (index_claim i u 0) (index_claimed r i u 0 used some) in
    size_by_node g blocks i u sizes right body counted
