-- Numbers in a pointer block change, and no others of the inode; nor do its chunks, where none is read through them.
use Rattle.std.proofs.Common.{◌≡◌, ◌<◌, ◌≤◌, inl, inr, ℕ, ◌+◌, ◌-◌, ◌*◌, ◌/◌, ◌%◌, eqb, true, false, cond, List, [], ◌∷◌, ◌++◌, length, take, drop, get_or, map, replicate, slice_index, Option, Some, sym, ap, ◌∙◌, subst, arith}
use Rattle.std.specs.List.{Contains, range_with_len}
use Rattle.std.proofs.lemmas.Bool.{cases_Bool, cases_lt, cond-false}
use Rattle.std.proofs.lemmas.List.{append-nil, length-append, length-replicate, get_or_append_left, get_or-append-add}
use Rattle.std.proofs.lemmas.List.FromFn.{length-map-range_with_len, get_or-map-range_with_len}
use Rattle.lufs_base.specs.Fields.{u32_at, put_at}
use Rattle.lufs_base.specs.Layout.{IsGeometry}
use Rattle.lufs_base.specs.declared.geometry.Geometry.{Geometry}
use Rattle.lufs_base.proofs.Spelling.{number_in_same}
use Rattle.volume_model.specs.declared.inode.Dinode.{Dinode}
use Rattle.volume_model.specs.declared.directory.Slot.{Slot}
use Rattle.volume_model.specs.Format.{Blocks, inodes_of, is_directory, chunk_of, pointers_of}
use Rattle.volume_model.specs.Sound.{NamedPointer, Single, UsedInode, InUse, reading_of, inode_at, state_at, state_of, named_pointers, used_inode, used_at, numbers_of, block_numbered, chunk_at, chunks_at, pointers_at, AtIndex, AtPointer, claims_of, index_claim, pointer_claim, IsLaid, index_length, metadata_length}
use Rattle.volume_laws.specs.Changes.{AgreeInMetadataBut, with_number, with_numbers}
use Rattle.volume_laws.proofs.Members.{Contains_head, All_range, map_same}
use Rattle.volume_laws.proofs.ClaimFacts.{pointer_claimed, index_claimed}
use Rattle.volume_laws.proofs.ReadLengths.{same_part, part_of_front, metadata_index_read, pointer_read}
use Rattle.volume_laws.proofs.SameReading.{not_file, used_from_record, chunks_counted, chunk_read, numbered_from}
use Rattle.volume_laws.proofs.TreeClaims.{direct_size}
use Rattle.volume_laws.proofs.ListParts.{part_before, part_after}
use Rattle.volume_laws.proofs.PutParts.{part_put, put_after, put_one, one_taken}
use Rattle.volume_laws.proofs.BodyChanges.{has_record, other_part, inodes_beside}

-- two pointer blocks that differ in the bytes of some numbers
pointers_changed : (m j n : ℕ) (xs ys : List ℕ) → 4096 ≤ m → j + n ≤ 1024 → take (4 * j) (take m ys) ≡ take (4 * j) (take m xs)
    → drop (4 * j + 4 * n) (take m ys) ≡ drop (4 * j + 4 * n) (take m xs) → pointers_of ys ≡ put_at (pointers_of xs) j (take n (drop j (pointers_of ys)))
pointers_changed m j n xs ys read within before after =
    let size : (l : List ℕ) → length (pointers_of l) ≡ 1024 = λ l. length-map-range_with_len (λ k. u32_at l (4 * k)) 0 1024 in
    let number : (l : List ℕ) (k : ℕ) → k < 1024 → get_or (pointers_of l) k 0 ≡ u32_at l (4 * k) = λ l k less.
    get_or-map-range_with_len (λ i. u32_at l (4 * i)) 0 1024 k k 0 less (let same : 0 + k ≡ k = omega arith in same) in
    let cut : (l : List ℕ) (k : ℕ) → k < 1024 → take 4 (drop (4 * k) (take m l)) ≡ take 4 (drop (4 * k) l) = λ l k less.
    part_of_front (4 * k) 4 m l (omega (arith, less, read)) in
    let same : (k : ℕ) → k < 1024 → take 4 (drop (4 * k) (take m ys)) ≡ take 4 (drop (4 * k) (take m xs)) → get_or (pointers_of ys) k 0 ≡ get_or (pointers_of xs) k 0 = λ k less part.
    number ys k less ∙ number_in_same 4 (drop (4 * k) ys) (drop (4 * k) xs) (sym (cut ys k less) ∙ part ∙ cut xs k less) ∙ sym (number xs k less) in
    part_put (pointers_of xs) (pointers_of ys) j n (size ys ∙ sym (size xs)) (omega (arith, within, size xs))
    (λ k low. same k (omega (arith, low, within)) (part_before (take m xs) (take m ys) (4 * k) 4 (4 * j) before (omega (arith, low))))
    (λ k high less. same k (omega (arith, less, size xs)) (part_after (take m xs) (take m ys) (4 * k) 4 (4 * j + 4 * n) after (omega (arith, high))))

module _ (g : Geometry) (blocks others : Blocks) (ok : IsGeometry g) (laid : IsLaid g (reading_of g blocks))
    (i j n : ℕ) (d : Dinode) (within : i < inodes_of g) (has : inode_at g blocks i ≡ Some (Some d)) (past : length (chunks_at blocks d) ≤ 8 * (12 + j))
    (fits : j + n ≤ 1024) (there : eqb (slice_index d.indirect 0) 0 ≡ false) (agree : AgreeInMetadataBut g blocks others (slice_index d.indirect 0) (4 * j) (4 * n)) where
  abbrev pointer : NamedPointer
  pointer = record { name = Single; block = slice_index d.indirect 0 }

  abbrev part : List ℕ
  part = take n (drop j (pointers_of (others (slice_index d.indirect 0))))

  used : used_at (reading_of g blocks) i ≡ Some (used_inode blocks d)
  used = used_from_record g blocks i d within has

  mine : Contains (claims_of (reading_of g blocks)) (pointer_claim i pointer)
  mine = pointer_claimed (reading_of g blocks) i (used_inode blocks d) pointer used (Contains_head pointer []) there

  pointers_are : (c : Blocks) → pointers_at c (slice_index d.indirect 0) ≡ pointers_of (c (slice_index d.indirect 0))
  pointers_are c = cond-false (eqb (slice_index d.indirect 0) 0) (replicate 1024 0) (pointers_of (c (slice_index d.indirect 0))) there

  direct_are : length d.direct ≡ 12
  direct_are = direct_size g.version _ d has

  numbers_changed : numbers_of others d ≡ put_at (numbers_of blocks d) (12 + j) part
  numbers_changed =
      let p = slice_index d.indirect 0 in
      let m = metadata_length g (reading_of g blocks) p in
      let read : 4096 ≤ m = pointer_read g (reading_of g blocks) i (used_inode blocks d) pointer used (Contains_head pointer []) there in
      let row = pointers_at blocks p in
      let pointers : pointers_at others p ≡ put_at (row ++ []) j part =
      pointers_are others ∙ pointers_changed m j n (blocks p) (others p) read fits agree.before agree.after
      ∙ ap (λ (l : List ℕ). put_at l j part) (sym (append-nil row ∙ pointers_are blocks)) in
      ap (λ (l : List ℕ). d.direct ++ l) (append-nil (pointers_at others p) ∙ pointers)
      ∙ sym (put_after d.direct (row ++ []) part 12 j direct_are)

  -- a number before them
  earlier_number : (k : ℕ) → k < 12 + j → slice_index (numbers_of others d) k ≡ slice_index (numbers_of blocks d) k
  earlier_number k before =
      let p = slice_index d.indirect 0 in
      let m = metadata_length g (reading_of g blocks) p in
      let read : 4096 ≤ m = pointer_read g (reading_of g blocks) i (used_inode blocks d) pointer used (Contains_head pointer []) there in
      let front : (c : Blocks) → numbers_of c d ≡ d.direct ++ pointers_of (c p) = λ c.
      ap (λ (l : List ℕ). d.direct ++ l) (append-nil (pointers_at c p) ∙ pointers_are c) in
      let number : (l : List ℕ) (e : ℕ) → e < 1024 → get_or (pointers_of l) e 0 ≡ u32_at l (4 * e) = λ l e less.
      get_or-map-range_with_len (λ i. u32_at l (4 * i)) 0 1024 e e 0 less (let same : 0 + e ≡ e = omega arith in same) in
      elim (cases_lt k 12) [
        | inl direct ↦
            let at : (c : Blocks) → slice_index (numbers_of c d) k ≡ slice_index d.direct k = λ c.
            ap (λ (l : List ℕ). slice_index l k) (front c) ∙ get_or_append_left d.direct (pointers_of (c p)) 0 k (omega (arith, direct, direct_are)) in
            at others ∙ sym (at blocks)
        | inr later ↦
            let e = k - 12 in
            let place : k ≡ length d.direct + e = omega (arith, later, direct_are) in
            let low : e < j = omega (arith, later, before) in
            let at : (c : Blocks) → slice_index (numbers_of c d) k ≡ u32_at (c p) (4 * e) = λ c.
            ap (λ (l : List ℕ). slice_index l k) (front c) ∙ ap (slice_index (d.direct ++ pointers_of (c p))) place
            ∙ get_or-append-add d.direct (pointers_of (c p)) e 0 ∙ number (c p) e (omega (arith, low, fits)) in
            let cut : (c : Blocks) → take 4 (drop (4 * e) (take m (c p))) ≡ take 4 (drop (4 * e) (c p)) = λ c.
            part_of_front (4 * e) 4 m (c p) (omega (arith, low, fits, read)) in
            let same = part_before (take m (blocks p)) (take m (others p)) (4 * e) 4 (4 * j) agree.before (omega (arith, low)) in
            at others ∙ number_in_same 4 (drop (4 * e) (others p)) (drop (4 * e) (blocks p)) (sym (cut others) ∙ same ∙ cut blocks) ∙ sym (at blocks)
      ]

  chunk_stays : is_directory d.mode ≡ true → (k : ℕ) → k < d.size / 512 → chunk_at others (numbers_of others d) k ≡ chunk_at blocks (numbers_of blocks d) k
  chunk_stays directory k less =
      let r = reading_of g blocks in
      let u = used_inode blocks d in
      let numbers = numbers_of blocks d in
      let number = slice_index numbers (k / 8) in
      let at = 512 * (k % 8) in
      let low : k / 8 < 12 + j = omega (arith, less, past, chunks_counted blocks d directory) in
      let read : at + 512 ≤ index_length u (k / 8) = chunk_read blocks d k directory less in
      ap (λ (b : ℕ). chunk_of (take 512 (drop at (block_numbered others b)))) (earlier_number (k / 8) low)
      ∙ ap chunk_of (numbered_from blocks others number at 512 (λ some.
      same_part at 512 (metadata_length g r number) (others number) (blocks number)
      (other_part g blocks others ok laid (pointer_claim i pointer) mine (metadata_length g r) (4 * j) (4 * n) agree
      (index_claim i u (k / 8)) (index_claimed r i u (k / 8) used some) (λ same.
      let parts : AtIndex (k / 8) ≡ AtPointer Single = same in
      cc)) (omega (arith, read, metadata_index_read g r i u (k / 8) used some (not_file d.mode directory)))))

  chunks_stay : chunks_at others d ≡ chunks_at blocks d
  chunks_stay =
      let test = is_directory d.mode in
      let indexes = range_with_len 0 (d.size / 512) in
      let at : Blocks → ℕ → Option (List Slot) = λ c. chunk_at c (numbers_of c d) in
      elim (cases_Bool test) [
        | inl directory ↦
            ap (λ (l : List (Option (List Slot))). cond test l [])
            (map_same (at others) (at blocks) indexes (All_range (λ k. at others k ≡ at blocks k) (d.size / 512) (chunk_stays directory)))
        | inr plain ↦ cond-false test (map (at others) indexes) [] plain ∙ sym (cond-false test (map (at blocks) indexes) [] plain)
      ]

  pub state_of_numbers : state_at g others i ≡ InUse (with_numbers (used_inode blocks d) (12 + j) part)
  state_of_numbers =
      let inode = inodes_beside g blocks others ok laid (pointer_claim i pointer) mine (4 * j) (4 * n) agree i within ∙ has in
      ap (state_of others) inode ∙ (λ t. InUse (record { inode = d; pointers = named_pointers d; numbers = numbers_changed t; chunks = chunks_stay t }))

-- an inode has a number for each direct block and for each place of its pointer block
pub numbers_of_used : (g : Geometry) (blocks : Blocks) (i : ℕ) (u : UsedInode) → used_at (reading_of g blocks) i ≡ Some u → length u.numbers ≡ 12 + 1024
numbers_of_used g blocks i u used =
    let has = has_record g blocks i u used in
    let p = slice_index has.dinode.indirect 0 in
    let direct : length has.dinode.direct ≡ 12 = direct_size g.version _ has.dinode has.there in
    let zeros : List ℕ = replicate 1024 0 in
    let row : length (pointers_at blocks p) ≡ 1024 =
    elim (eqb p 0) as (λ t. length (cond t zeros (pointers_of (blocks p))) ≡ 1024) [
      | true ↦ length-replicate {A = ℕ} 1024 0
      | false ↦ length-map-range_with_len (λ k. u32_at (blocks p) (4 * k)) 0 1024
    ] in
    ap (λ (v : UsedInode). length v.numbers) (sym has.leads) ∙ ap (λ (l : List ℕ). length (has.dinode.direct ++ l)) (append-nil (pointers_at blocks p))
    ∙ length-append has.dinode.direct (pointers_at blocks p)
    ∙ (let sum : length has.dinode.direct + length (pointers_at blocks p) ≡ 12 + 1024 = omega (arith, row, direct) in sum)

pub numbers_state : (g : Geometry) (blocks others : Blocks) → IsGeometry g → IsLaid g (reading_of g blocks) → (i j n : ℕ) (u : UsedInode)
    → used_at (reading_of g blocks) i ≡ Some u → length u.chunks ≤ 8 * (12 + j) → j + n ≤ 1024 → eqb (slice_index u.inode.indirect 0) 0 ≡ false
    → AgreeInMetadataBut g blocks others (slice_index u.inode.indirect 0) (4 * j) (4 * n)
    → state_at g others i ≡ InUse (with_numbers u (12 + j) (take n (drop j (pointers_of (others (slice_index u.inode.indirect 0))))))
numbers_state g blocks others ok laid i j n u used =
    let has = has_record g blocks i u used in
    subst (λ (v : UsedInode). length v.chunks ≤ 8 * (12 + j) → j + n ≤ 1024 → eqb (slice_index v.inode.indirect 0) 0 ≡ false
    → AgreeInMetadataBut g blocks others (slice_index v.inode.indirect 0) (4 * j) (4 * n)
    → state_at g others i ≡ InUse (with_numbers v (12 + j) (take n (drop j (pointers_of (others (slice_index v.inode.indirect 0))))))) has.leads
    (state_of_numbers g blocks others ok laid i j n has.dinode has.within has.there)

-- one number of them
pub as_one_number : (g : Geometry) (blocks : Blocks) (i j : ℕ) (u : UsedInode) (bytes : List ℕ) → used_at (reading_of g blocks) i ≡ Some u → j < 1024
    → with_numbers u (12 + j) (take 1 (drop j (pointers_of bytes))) ≡ with_number u (12 + j) (u32_at bytes (4 * j))
as_one_number g blocks i j u bytes used below =
    let v = u32_at bytes (4 * j) in
    let size : length (pointers_of bytes) ≡ 1024 = length-map-range_with_len (λ k. u32_at bytes (4 * k)) 0 1024 in
    let same : 0 + j ≡ j = omega arith in
    let part : take 1 (drop j (pointers_of bytes)) ≡ v ∷ [] =
    one_taken (pointers_of bytes) j (omega (arith, size, below)) ∙ ap (λ (k : ℕ). k ∷ []) (get_or-map-range_with_len (λ k. u32_at bytes (4 * k)) 0 1024 j j 0 below same) in
    ap (with_numbers u (12 + j)) part
    ∙ ap (λ (l : List ℕ). record u { numbers = l }) (put_one u.numbers (12 + j) v (omega (arith, numbers_of_used g blocks i u used, below)))

-- what is no directory has no chunks
pub without_chunks : (g : Geometry) (blocks : Blocks) (i j : ℕ) (u : UsedInode) → used_at (reading_of g blocks) i ≡ Some u → is_directory u.inode.mode ≡ false
    → length u.chunks ≤ 8 * (12 + j)
without_chunks g blocks i j u used =
    let has = has_record g blocks i u used in
    subst (λ (v : UsedInode). is_directory v.inode.mode ≡ false → length v.chunks ≤ 8 * (12 + j)) has.leads (λ plain.
    let d = has.dinode in
    let none : length (chunks_at blocks d) ≡ 0 =
    ap length (cond-false (is_directory d.mode) (map (chunk_at blocks (numbers_of blocks d)) (range_with_len 0 (d.size / 512))) [] plain) in
    omega (arith, none))

pub one_more : (j : ℕ) → j < 1024 → j + 1 ≤ 1024
one_more j below = omega (arith, below)

-- the pointer block is claimed
pub its_pointer : (g : Geometry) (blocks : Blocks) (i : ℕ) (u : UsedInode) → used_at (reading_of g blocks) i ≡ Some u → eqb (slice_index u.inode.indirect 0) 0 ≡ false
    → Contains (claims_of (reading_of g blocks)) (pointer_claim i (record { name = Single; block = slice_index u.inode.indirect 0 }))
its_pointer g blocks i u used some =
    let r = reading_of g blocks in
    let p : NamedPointer = record { name = Single; block = slice_index u.inode.indirect 0 } in
    let has = has_record g blocks i u used in
    let among : Contains u.pointers p =
    subst (λ (v : UsedInode). Contains v.pointers (record { name = Single; block = slice_index v.inode.indirect 0 })) has.leads
    (Contains_head (record { name = Single; block = slice_index has.dinode.indirect 0 }) []) in
    pointer_claimed r i u p used among some
