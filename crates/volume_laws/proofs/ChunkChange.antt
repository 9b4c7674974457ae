-- A chunk of a directory changes that chunk alone.
use Rattle.std.proofs.Common.{◌≡◌, ◌≢◌, ◌<◌, ◌≤◌, inl, inr, ℕ, ◌+◌, ◌*◌, ◌/◌, ◌%◌, eqb, true, false, cond, List, [], length, take, drop, map, set, slice_index, Option, Some, sym, ap, ◌∙◌, subst, arith}
use Rattle.std.specs.List.{Contains, range_with_len}
use Rattle.std.proofs.lemmas.Bool.{cases_eq, cases_lt, cond-true}
use Rattle.lufs_base.specs.Layout.{IsGeometry}
use Rattle.lufs_base.specs.declared.geometry.Geometry.{Geometry}
use Rattle.volume_model.specs.declared.inode.Dinode.{Dinode}
use Rattle.volume_model.specs.declared.directory.Slot.{Slot}
use Rattle.volume_model.specs.Format.{Blocks, inodes_of, is_directory, chunk_of}
use Rattle.volume_model.specs.Sound.{NamedPointer, Single, UsedInode, InUse, reading_of, inode_at, state_at, state_of, named_pointers, used_inode, used_at, numbers_of, chunk_at, chunks_at, AtIndex, AtPointer, Claim, claims_of, index_claim, pointer_claim, IsLaid, index_length, metadata_length}
use Rattle.volume_laws.specs.Changes.{AgreeInMetadataBut, with_chunk}
use Rattle.volume_laws.proofs.Members.{Contains_head}
use Rattle.volume_laws.proofs.ClaimFacts.{pointer_claimed, index_claimed}
use Rattle.volume_laws.proofs.ReadLengths.{same_front, same_part, part_of_front, metadata_index_read, pointer_read}
use Rattle.volume_laws.proofs.SameReading.{not_file, used_from_record, chunks_counted, chunk_read, numbers_from, numbered_from}
use Rattle.volume_laws.proofs.ListParts.{map_changed, part_before, part_after}
use Rattle.volume_laws.proofs.BodyChanges.{has_record, other_part, inodes_beside}

module _ (g : Geometry) (blocks others : Blocks) (ok : IsGeometry g) (laid : IsLaid g (reading_of g blocks))
    (i k : ℕ) (d : Dinode) (within : i < inodes_of g) (has : inode_at g blocks i ≡ Some (Some d)) (directory : is_directory d.mode ≡ true)
    (below : k < d.size / 512) (there : eqb (slice_index (numbers_of blocks d) (k / 8)) 0 ≡ false)
    (agree : AgreeInMetadataBut g blocks others (slice_index (numbers_of blocks d) (k / 8)) (512 * (k % 8)) 512) where
  used : used_at (reading_of g blocks) i ≡ Some (used_inode blocks d)
  used = used_from_record g blocks i d within has

  mine : Contains (claims_of (reading_of g blocks)) (index_claim i (used_inode blocks d) (k / 8))
  mine = index_claimed (reading_of g blocks) i (used_inode blocks d) (k / 8) used there

  -- the block of another part is another one
  elsewhere : (claim : Claim) → Contains (claims_of (reading_of g blocks)) claim → claim.part ≢ AtIndex (k / 8)
      → take (metadata_length g (reading_of g blocks) claim.block) (others claim.block) ≡ take (metadata_length g (reading_of g blocks) claim.block) (blocks claim.block)
  elsewhere =
      other_part g blocks others ok laid (index_claim i (used_inode blocks d) (k / 8)) mine (metadata_length g (reading_of g blocks)) (512 * (k % 8)) 512 agree

  pointers_stay : numbers_of others d ≡ numbers_of blocks d
  pointers_stay =
      let r = reading_of g blocks in
      let u = used_inode blocks d in
      let p : NamedPointer = record { name = Single; block = slice_index d.indirect 0 } in
      let among = Contains_head p [] in
      numbers_from blocks others d (λ some.
      same_front 4096 (metadata_length g r p.block) (others p.block) (blocks p.block)
      (elsewhere (pointer_claim i p) (pointer_claimed r i u p used among some) (λ same.
      let parts : AtPointer Single ≡ AtIndex (k / 8) = same in
      cc)) (pointer_read g r i u p used among some))

  other_chunk : (j : ℕ) → j < d.size / 512 → j ≢ k → chunk_at others (numbers_of blocks d) j ≡ chunk_at blocks (numbers_of blocks d) j
  other_chunk j less away =
      let r = reading_of g blocks in
      let u = used_inode blocks d in
      let numbers = numbers_of blocks d in
      let plain = not_file d.mode directory in
      let p = 512 * (j % 8) in
      let number = slice_index numbers (j / 8) in
      let read : p + 512 ≤ index_length u (j / 8) = chunk_read blocks d j directory less in
      ap chunk_of (numbered_from blocks others number p 512 (λ some. elim (cases_eq (j / 8) (k / 8)) [
        | inl same ↦
            let b = slice_index numbers (k / 8) in
            let m = metadata_length g r b in
            let x : List ℕ = take m (blocks b) in
            let y : List ℕ = take m (others b) in
            let part : take 512 (drop p y) ≡ take 512 (drop p x) = elim (cases_lt (j % 8) (k % 8)) [
              | inl before ↦ part_before x y p 512 (512 * (k % 8)) agree.before (omega (arith, before))
              | inr after ↦ part_after x y p 512 (512 * (k % 8) + 512) agree.after (
                  let apart : k % 8 < j % 8 = elim (cases_lt (k % 8) (j % 8)) [
                    | inl less ↦ less
                    | inr not ↦ absurd (away (omega (arith, same, after, not)))
                  ] in
                  omega (arith, apart))
            ] in
            let length_same : index_length u (j / 8) ≡ index_length u (k / 8) = ap (index_length u) same in
            let inside : p + 512 ≤ m = omega (arith, read, length_same, metadata_index_read g r i u (k / 8) used there plain) in
            let cut : (c : Blocks) → take 512 (drop p (c number)) ≡ take 512 (drop p (take m (c b))) = λ c.
            ap (λ (index : ℕ). take 512 (drop p (c (slice_index numbers index)))) same ∙ sym (part_of_front p 512 m (c b) inside) in
            cut others ∙ part ∙ sym (cut blocks)
        | inr other ↦
            same_part p 512 (metadata_length g r number) (others number) (blocks number)
            (elsewhere (index_claim i u (j / 8)) (index_claimed r i u (j / 8) used some) (λ same.
            let parts : AtIndex (j / 8) ≡ AtIndex (k / 8) = same in
            let indexes : j / 8 ≡ k / 8 = cc in
            other indexes)) (omega (arith, read, metadata_index_read g r i u (j / 8) used some plain))
      ]))

  pub state_of_chunk : state_at g others i ≡ InUse (with_chunk (used_inode blocks d) k (chunk_at others (numbers_of blocks d) k))
  state_of_chunk =
      let numbers = numbers_of blocks d in
      let indexes = range_with_len 0 (d.size / 512) in
      let changed : map (chunk_at others numbers) indexes ≡ set (map (chunk_at blocks numbers) indexes) k (chunk_at others numbers k) =
      map_changed (chunk_at blocks numbers) (chunk_at others numbers) (d.size / 512) k below other_chunk in
      let is : (l : List (Option (List Slot))) → cond (is_directory d.mode) l [] ≡ l = λ l. cond-true (is_directory d.mode) l [] directory in
      let chunks : chunks_at others d ≡ set (chunks_at blocks d) k (chunk_at others numbers k) =
      is (map (chunk_at others (numbers_of others d)) indexes) ∙ ap (λ (l : List ℕ). map (chunk_at others l) indexes) pointers_stay ∙ changed
      ∙ ap (λ (l : List (Option (List Slot))). set l k (chunk_at others numbers k)) (sym (is (map (chunk_at blocks numbers) indexes))) in
      let inode = inodes_beside g blocks others ok laid (index_claim i (used_inode blocks d) (k / 8)) mine (512 * (k % 8)) 512 agree i within ∙ has in
      ap (state_of others) inode ∙ (λ t. InUse (record { inode = d; pointers = named_pointers d; numbers = pointers_stay t; chunks = chunks t }))

pub chunk_state : (g : Geometry) (blocks others : Blocks) → IsGeometry g → IsLaid g (reading_of g blocks) → (i k : ℕ) (u : UsedInode)
    → used_at (reading_of g blocks) i ≡ Some u → is_directory u.inode.mode ≡ true → k < length u.chunks → eqb (slice_index u.numbers (k / 8)) 0 ≡ false
    → AgreeInMetadataBut g blocks others (slice_index u.numbers (k / 8)) (512 * (k % 8)) 512 → state_at g others i ≡ InUse (with_chunk u k (chunk_at others u.numbers k))
chunk_state g blocks others ok laid i k u used =
    let has = has_record g blocks i u used in
    subst (λ (v : UsedInode). is_directory v.inode.mode ≡ true → k < length v.chunks → eqb (slice_index v.numbers (k / 8)) 0 ≡ false
    → AgreeInMetadataBut g blocks others (slice_index v.numbers (k / 8)) (512 * (k % 8)) 512 → state_at g others i ≡ InUse (with_chunk v k (chunk_at others v.numbers k))) has.leads
    (λ directory below there agree.
    let size : k < has.dinode.size / 512 = omega (arith, below, chunks_counted blocks has.dinode directory) in
    state_of_chunk g blocks others ok laid i k has.dinode has.within has.there directory size there agree)
