-- A content in which only the record of one group is replaced.
use Rattle.std.proofs.Common.{◌≡◌, ◌≢◌, ◌<◌, ℕ, ◌+◌, List, ◌++◌, length, take, drop, replicate, Some, refl, sym, ap, ◌∙◌, arith, length-append}
use Rattle.std.proofs.lemmas.List.{length-replicate}
use Rattle.std.proofs.Math.Seq.{take-append_seam, drop-append_seam}
use Rattle.lufs_base.specs.Fields.{put_at, field_bytes}
use Rattle.lufs_base.specs.Layout.{IsGeometry, group_start}
use Rattle.lufs_base.specs.declared.geometry.Geometry.{Geometry}
use Rattle.volume_model.specs.Format.{Blocks, GroupRecord, IsGroup, group_of, group_bytes}
use Rattle.volume_model.specs.Sound.{reading_of, group_at, IsLaid, tree_of, read_length}
use Rattle.volume_laws.specs.Changes.{AgreeBut, with_group}
use Rattle.volume_laws.proofs.GroupRecords.{group_back}
use Rattle.volume_laws.proofs.LessAgreement.{agree_in_metadata_but, rest_of_part}
use Rattle.volume_laws.proofs.RecordChanges.{only_group, claims_beside_group}
use Rattle.volume_laws.proofs.OneEntry.{one_group, tree_beside}

pub length-group_bytes : (g : Geometry) (n : ℕ) (r : GroupRecord) → IsGroup g n r → length (group_bytes r) ≡ 416
unfolding group_bytes
length-group_bytes g n r is =
    let rest : List ℕ = r.inode_bits ++ r.block_bits in
    let bits : length rest ≡ 384 = omega (arith, length-append r.inode_bits r.block_bits, is.inode_bits_size, is.block_bits_size) in
    let gap : List ℕ = replicate 16 0 ++ rest in
    let fields : List ℕ = field_bytes 4 r.free_blocks ++ gap in
    omega (
      arith,
      bits,
      length-append (field_bytes 4 0x00090255) (field_bytes 4 r.number ++ (field_bytes 4 r.free_inodes ++ fields)),
      length-append (field_bytes 4 r.number) (field_bytes 4 r.free_inodes ++ fields),
      length-append (field_bytes 4 r.free_inodes) fields,
      length-append (field_bytes 4 r.free_blocks) gap,
      length-append (replicate 16 0) rest,
      length-replicate {A = ℕ} 16 0,
    )

module _ (g : Geometry) (blocks others : Blocks) (n : ℕ) (new : GroupRecord) (ok : IsGeometry g) (laid : IsLaid g (reading_of g blocks)) (within : n < g.groups)
    (group : IsGroup g n new) (elsewhere : (b : ℕ) → b ≢ group_start g n → others b ≡ blocks b)
    (here : others (group_start g n) ≡ put_at (blocks (group_start g n)) 0 (group_bytes new)) where
  abbrev bytes : List ℕ
  bytes = group_bytes new

  abbrev old : List ℕ
  old = blocks (group_start g n)

  size : length bytes ≡ 416
  size = length-group_bytes g n new group

  front : take 416 (put_at old 0 bytes) ≡ bytes
  front = ap (λ (k : ℕ). take k (bytes ++ drop (0 + length bytes) old)) (sym size) ∙ take-append_seam bytes (drop (0 + length bytes) old)

  behind : drop 416 (put_at old 0 bytes) ≡ drop 416 old
  behind =
      let end : 0 + length bytes ≡ 416 = omega (arith, size) in
      ap (λ (k : ℕ). drop k (bytes ++ drop (0 + length bytes) old)) (sym size) ∙ drop-append_seam bytes (drop (0 + length bytes) old) ∙ ap (λ (k : ℕ). drop k old) end

  agree : (lengths : ℕ → ℕ) → AgreeBut lengths blocks others (group_start g n) 0 416
  agree lengths = record {
    elsewhere = λ c away. ap (take (lengths c)) (elsewhere c away);
    before = refl;
    after = rest_of_part 416 (lengths (group_start g n)) old (others (group_start g n)) (ap (drop 416) here ∙ behind);
  }

  record_there : group_at g others n ≡ Some new
  record_there = ap (λ (l : List ℕ). group_of g n (take 416 l)) here ∙ ap (group_of g n) front ∙ group_back g n new ok group

  abbrev read : ℕ → ℕ
  read = read_length g (reading_of g blocks)

  pub reading_replaced : reading_of g others ≡ with_group (reading_of g blocks) n (Some new)
  reading_replaced =
      one_group g blocks others n within (only_group g blocks others ok laid n within (agree_in_metadata_but g blocks others (group_start g n) 0 416 (agree read)))
      ∙ ap (with_group (reading_of g blocks) n) record_there

  pub tree_kept : tree_of g others ≡ tree_of g blocks
  tree_kept =
      let mostly = agree_in_metadata_but g blocks others (group_start g n) 0 416 (agree read) in
      tree_beside g blocks others n within (only_group g blocks others ok laid n within mostly) (claims_beside_group g blocks others ok laid n within (agree read))
