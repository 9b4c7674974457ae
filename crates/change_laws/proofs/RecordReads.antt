-- What the state of an inode is after its record was written: what the new record leads to, where the blocks that the inode
-- claimed have the same bytes.
use Rattle.std.proofs.Common.{◌≡◌, ◌<◌, inl, inr, ℕ, ◌+◌, ◌*◌, ◌/◌, ◌%◌, true, false, cond, List, [], ◌∷◌, ◌++◌, map, slice_index, Option, Some, refl, sym, ap, ◌∙◌, subst, arith}
use Rattle.std.specs.List.{range_with_len}
use Rattle.std.proofs.lemmas.Bool.{cases_Bool, cond-true, cond-false}
use Rattle.std.proofs.lemmas.List.FromFn.{map-range_with_len_more}
use Rattle.lufs_base.specs.Layout.{IsGeometry, inode_address}
use Rattle.lufs_base.specs.declared.geometry.Geometry.{Geometry}
use Rattle.volume_model.specs.declared.inode.Dinode.{Dinode}
use Rattle.volume_model.specs.declared.directory.Slot.{Slot}
use Rattle.volume_model.specs.Format.{Blocks, inodes_of, is_directory, chunk_of}
use Rattle.volume_model.specs.Sound.{NamedPointer, Single, UsedInode, InUse, reading_of, inode_at, state_at, state_of, used_inode, used_at, numbers_of, pointers_at, chunk_at, chunks_at, pointer_claim, IsLaid, metadata_length, node_of}
use Rattle.volume_laws.specs.Changes.{AgreeWhereReadBut}
use Rattle.volume_laws.proofs.Members.{Contains_head, All_range, map_same}
use Rattle.volume_laws.proofs.ClaimFacts.{pointer_claimed}
use Rattle.volume_laws.proofs.ReadLengths.{same_front, pointer_read}
use Rattle.volume_laws.proofs.SameReading.{AgreeOnClaims, inode_record_block, not_file, used_from_record, chunk_read, numbers_from, numbered_part_same}
use Rattle.volume_laws.proofs.SameTree.{same_node}
use Rattle.volume_laws.proofs.LessAgreement.{agree_in_metadata_but}
use Rattle.volume_laws.proofs.RecordChanges.{claims_beside, claims_beside_inode}
use Rattle.volume_laws.proofs.BodyChanges.{has_record}
use Rattle.change_laws.specs.Plans.{WritesRecord, KeepsBlocks}
use Rattle.change_laws.proofs.InodeRights.{same_directory}

-- what an inode's numbers depend on
pub numbers_by : (blocks : Blocks) (d e : Dinode) → d.direct ≡ e.direct → d.indirect ≡ e.indirect → numbers_of blocks d ≡ numbers_of blocks e
numbers_by blocks d e direct indirect = λ t. direct t ++ (pointers_at blocks (slice_index (indirect t) 0) ++ [])

module _ (g : Geometry) (blocks others : Blocks) (ok : IsGeometry g) (laid : IsLaid g (reading_of g blocks)) (i : ℕ) (within : i < inodes_of g)
    (agree : AgreeWhereReadBut g blocks others (inode_address g i / 4096) (inode_address g i % 4096) 128) where
  pub metadata_beside : (j : ℕ) → AgreeOnClaims (metadata_length g (reading_of g blocks)) (reading_of g blocks) blocks others j
  metadata_beside =
      claims_beside g blocks others ok laid (metadata_length g (reading_of g blocks)) (inode_address g i / 4096) 4096 (inode_address g i % 4096) 128
      (inode_record_block g i ok within).1 (omega arith)
      (agree_in_metadata_but g blocks others (inode_address g i / 4096) (inode_address g i % 4096) 128 agree)

  module _ (e : Dinode) (has : inode_at g blocks i ≡ Some (Some e)) where
    -- the old record leads to the same numbers and chunks
    pub numbers_stay : numbers_of others e ≡ numbers_of blocks e
    numbers_stay =
        let r = reading_of g blocks in
        let u = used_inode blocks e in
        let used = used_from_record g blocks i e within has in
        let p : NamedPointer = record { name = Single; block = slice_index e.indirect 0 } in
        let among = Contains_head p [] in
        numbers_from blocks others e (λ some.
        same_front 4096 (metadata_length g r p.block) (others p.block) (blocks p.block)
        (metadata_beside i (pointer_claim i p) (pointer_claimed r i u p used among some) refl) (pointer_read g r i u p used among some))

    pub chunk_stays : is_directory e.mode ≡ true → (k : ℕ) → k < e.size / 512 → chunk_at others (numbers_of blocks e) k ≡ chunk_at blocks (numbers_of blocks e) k
    chunk_stays directory k less =
        let used = used_from_record g blocks i e within has in
        ap chunk_of (numbered_part_same g blocks others i (metadata_beside i) (used_inode blocks e) (k / 8) (512 * (k % 8)) 512 used (not_file e.mode directory)
        (chunk_read blocks e k directory less))

    -- with the same numbers
    pub numbers_after : (d : Dinode) → d.direct ≡ e.direct → d.indirect ≡ e.indirect → numbers_of others d ≡ numbers_of blocks e
    numbers_after d direct indirect = numbers_by others d e direct indirect ∙ numbers_stay

    pub chunks_after : (d : Dinode) → d.direct ≡ e.direct → d.indirect ≡ e.indirect → is_directory d.mode ≡ is_directory e.mode → d.size ≡ e.size
        → chunks_at others d ≡ chunks_at blocks e
    chunks_after d direct indirect type size =
        let numbers = numbers_of blocks e in
        let indexes = range_with_len 0 (e.size / 512) in
        let again : chunks_at others d ≡ cond (is_directory e.mode) (map (chunk_at others numbers) indexes) [] =
        λ t. cond (type t) (map (chunk_at others (numbers_after d direct indirect t)) (range_with_len 0 (size t / 512))) [] in
        let none : (l : List (Option (List Slot))) → is_directory e.mode ≡ false → cond (is_directory e.mode) l [] ≡ [] = λ l plain. cond-false (is_directory e.mode) l [] plain in
        again ∙ elim (cases_Bool (is_directory e.mode)) [
          | inl directory ↦
              ap (λ (l : List (Option (List Slot))). cond (is_directory e.mode) l [])
              (map_same (chunk_at others numbers) (chunk_at blocks numbers) indexes
              (All_range (λ k. chunk_at others numbers k ≡ chunk_at blocks numbers k) (e.size / 512) (chunk_stays directory)))
          | inr plain ↦ none (map (chunk_at others numbers) indexes) plain ∙ sym (none (map (chunk_at blocks numbers) indexes) plain)
        ]

    -- one more chunk, inside a block that it has
    pub more_chunks : (d : Dinode) → d.direct ≡ e.direct → d.indirect ≡ e.indirect → is_directory d.mode ≡ true → is_directory e.mode ≡ true → d.size ≡ e.size + 512
        → chunks_at others d ≡ chunks_at blocks e ++ (chunk_at others (numbers_of blocks e) (e.size / 512) ∷ [])
    more_chunks d direct indirect new old size =
        let numbers = numbers_of blocks e in
        let n = e.size / 512 in
        let count : d.size / 512 ≡ n + 1 = omega (arith, size) in
        let at : 0 + n ≡ n = omega arith in
        let first : chunks_at others d ≡ map (chunk_at others numbers) (range_with_len 0 (n + 1)) =
        cond-true (is_directory d.mode) (map (chunk_at others (numbers_of others d)) (range_with_len 0 (d.size / 512))) [] new
        ∙ (λ t. map (chunk_at others (numbers_after d direct indirect t)) (range_with_len 0 (count t))) in
        let front : map (chunk_at others numbers) (range_with_len 0 n) ≡ chunks_at blocks e =
        map_same (chunk_at others numbers) (chunk_at blocks numbers) (range_with_len 0 n)
        (All_range (λ k. chunk_at others numbers k ≡ chunk_at blocks numbers k) n (chunk_stays old))
        ∙ sym (cond-true (is_directory e.mode) (map (chunk_at blocks numbers) (range_with_len 0 n)) [] old) in
        first ∙ map-range_with_len_more (chunk_at others numbers) 0 n n at
        ∙ ap (λ (l : List (Option (List Slot))). l ++ (chunk_at others numbers n ∷ [])) front

module _ (g : Geometry) (blocks others : Blocks) (ok : IsGeometry g) (laid : IsLaid g (reading_of g blocks)) (i : ℕ) (d : Dinode) (writes : WritesRecord g blocks others i (Some d)) where
  -- the state is what the record leads to
  pub state_written : state_at g others i ≡ InUse (used_inode others d)
  state_written = ap (state_of others) writes.there

  pub state_kept : (u : UsedInode) → used_at (reading_of g blocks) i ≡ Some u → KeepsBlocks u.inode d → state_at g others i ≡ InUse (record u { inode = d })
  state_kept u used =
      let has = has_record g blocks i u used in
      let e = has.dinode in
      subst (λ (v : UsedInode). KeepsBlocks v.inode d → state_at g others i ≡ InUse (record v { inode = d })) has.leads (λ keeps.
      let numbers = numbers_after g blocks others ok laid i has.within writes.agree e has.there d keeps.direct keeps.indirect in
      let chunks = chunks_after g blocks others ok laid i has.within writes.agree e has.there d keeps.direct keeps.indirect
      (same_directory d.mode e.mode keeps.type) keeps.size in
      state_written ∙ (λ t. InUse (record { inode = d; pointers = record { name = Single; block = slice_index (keeps.indirect t) 0 } ∷ []; numbers = numbers t; chunks = chunks t })))

  -- the old inode has the same node in both
  pub same_old_node : (u : UsedInode) → used_at (reading_of g blocks) i ≡ Some u → node_of others u ≡ node_of blocks u
  same_old_node u used = same_node g blocks others i u used (claims_beside_inode g blocks others ok laid i writes.within writes.agree i)
