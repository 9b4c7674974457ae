-- The ways in which a directory gets one chunk more, from the bytes that are written.
use Rattle.std.proofs.Common.{◌≡◌, ◌≢◌, ◌<◌, ℕ, ◌+◌, ◌*◌, ◌/◌, ◌%◌, eqb, true, false, ◌||◌, List, [], ◌∷◌, ◌++◌, length, map, take, drop, set, slice_index, Option, Some, refl, sym, ap, ◌∙◌, subst, arith}
use Rattle.std.specs.Prelude.{◌==◌, nat_lt}
use Rattle.std.specs.List.{filter, list_all, range_with_len}
use Rattle.std.proofs.lemmas.Bool.{cond-true, cond-false}
use Rattle.std.proofs.lemmas.List.{get_or-set_same, get_or-set_other, length-append}
use Rattle.std.proofs.lemmas.List.Elements.{filter-append}
use Rattle.std.proofs.lemmas.List.FromFn.{map-range_with_len_more}
use Rattle.lufs_base.specs.Layout.{IsGeometry}
use Rattle.lufs_base.specs.declared.geometry.Geometry.{Geometry}
use Rattle.volume_model.specs.declared.inode.Dinode.{Dinode}
use Rattle.volume_model.specs.declared.directory.Slot.{Slot}
use Rattle.volume_model.specs.declared.hand.Hand.{Hand}
use Rattle.volume_model.specs.Format.{Blocks, is_directory, chunk_of}
use Rattle.volume_model.specs.Sound.{Single, UsedInode, InUse, reading_of, state_at, used_inode, used_at, named_pointers, numbers_of, block_numbered, chunk_at, chunks_at, size_in_blocks, first_index, IsLaid, IsStored, DirectoryNode, Directory, with_node, attributes_of, tree_of}
use Rattle.volume_laws.specs.Changes.{with_state}
use Rattle.volume_laws.proofs.Members.{All_range, map_same}
use Rattle.volume_laws.proofs.StoredClaims.{stored_is_laid}
use Rattle.volume_laws.proofs.BodyChanges.{has_record}
use Rattle.change_laws.specs.Hands.{times}
use Rattle.change_laws.specs.Exchange.{claimed_blocks}
use Rattle.change_laws.specs.Plans.{OnlyInodeChanges, WritesRecord, GrowsByChunk, HoldMore}
use Rattle.change_laws.proofs.Counts.{times-append}
use Rattle.change_laws.proofs.InodeWrites.{written_record}
use Rattle.change_laws.proofs.InodeRights.{same_directory}
use Rattle.change_laws.proofs.RecordReads.{chunk_stays, more_chunks, numbers_after, state_written}
use Rattle.change_laws.proofs.ClaimedBlocks.{claims_one, blocks_claimed}
use Rattle.change_laws.proofs.Extended.{ClaimsMore, times_attached, length_attached}
use Rattle.change_laws.proofs.DirectoryGrowth.{CountsChunks, chunks_of_directory, grown_tree, grown_stored, places_in_block, places_after}

-- the same claims
pub same_claims : (i : ℕ) (u v : UsedInode) → v.numbers ≡ u.numbers → v.pointers ≡ u.pointers → ClaimsMore i u v []
same_claims i u v numbers pointers =
    let same : claimed_blocks i (Some v) ≡ claimed_blocks i (Some u) =
    blocks_claimed i v ∙ (λ t. filter claims_one (map (λ p. p.block) (pointers t) ++ numbers t)) ∙ sym (blocks_claimed i u) in
    record { blocks = λ x. omega (arith, ap (times x) same); count = omega (arith, ap length same) }

-- one more block at an index
pub one_more_claim : (i k b : ℕ) (u v : UsedInode) → v.numbers ≡ set u.numbers k b → v.pointers ≡ u.pointers → k < length u.numbers → slice_index u.numbers k ≡ 0
    → eqb b 0 ≡ false → ClaimsMore i u v (b ∷ [])
one_more_claim i k b u v numbers pointers within empty some =
    let front : List ℕ = filter claims_one (map (λ p. p.block) u.pointers) in
    let parts : (ns : List ℕ) → filter claims_one (map (λ p. p.block) u.pointers ++ ns) ≡ front ++ filter claims_one ns = λ ns. filter-append claims_one (map (λ p. p.block) u.pointers) ns in
    let new : claimed_blocks i (Some v) ≡ front ++ filter claims_one (set u.numbers k b) =
    blocks_claimed i v ∙ (λ t. filter claims_one (map (λ p. p.block) (pointers t) ++ numbers t)) ∙ parts (set u.numbers k b) in
    let old : claimed_blocks i (Some u) ≡ front ++ filter claims_one u.numbers = blocks_claimed i u ∙ parts u.numbers in
    record {
      blocks = λ x. omega (
        arith,
        ap (times x) new,
        ap (times x) old,
        times-append x front (filter claims_one (set u.numbers k b)),
        times-append x front (filter claims_one u.numbers),
        times_attached u.numbers k b within empty some x,
      );
      count = omega (
        arith,
        ap length new,
        ap length old,
        length-append front (filter claims_one (set u.numbers k b)),
        length-append front (filter claims_one u.numbers),
        length_attached u.numbers k b within empty some,
      );
    }

-- a record that is written over that of a directory
module _ (g : Geometry) (blocks others : Blocks) (i : ℕ) (u : UsedInode) (d : Dinode) (directory : DirectoryNode) (slots : List Slot) (hands : List Hand) (ok : IsGeometry g)
    (stored : IsStored g (reading_of g blocks) hands) (used : used_at (reading_of g blocks) i ≡ Some u) (stands : tree_of g blocks i ≡ Some (Directory directory))
    (writes : WritesRecord g blocks others i (Some d)) (grows : GrowsByChunk u.inode d) where
  laid : IsLaid g (reading_of g blocks)
  laid = stored_is_laid g (reading_of g blocks) hands stored

  only : OnlyInodeChanges g blocks others i
  only = written_record g blocks others i ok writes.within laid writes.agree

  state : state_at g others i ≡ InUse (used_inode others d)
  state = state_written g blocks others ok laid i d writes

  pub written_reading : reading_of g others ≡ with_state (reading_of g blocks) i (InUse (used_inode others d))
  written_reading = only.reading ∙ ap (with_state (reading_of g blocks) i) state

  counts : CountsChunks u directory
  counts = chunks_of_directory g blocks i u directory hands stored used stands

  -- in the last block
  module _ (direct : d.direct ≡ u.inode.direct) (indirect : d.indirect ≡ u.inode.indirect) (count : d.blocks ≡ u.inode.blocks) (inside : length directory.chunks % 8 ≢ 0)
      (there : chunk_at others u.numbers (length directory.chunks) ≡ Some slots) where
    numbers_same : numbers_of others d ≡ u.numbers
    numbers_same =
        let has = has_record g blocks i u used in
        subst (λ (v : UsedInode). d.direct ≡ v.inode.direct → d.indirect ≡ v.inode.indirect → numbers_of others d ≡ v.numbers) has.leads
        (numbers_after g blocks others ok laid i writes.within writes.agree has.dinode has.there d) direct indirect

    pointers_same : named_pointers d ≡ u.pointers
    pointers_same =
        let has = has_record g blocks i u used in
        subst (λ (v : UsedInode). d.indirect ≡ v.inode.indirect → named_pointers d ≡ v.pointers) has.leads
        (λ same t. record { name = Single; block = slice_index (same t) 0 } ∷ []) indirect

    chunks_grown : chunks_at others d ≡ u.chunks ++ (Some slots ∷ [])
    chunks_grown =
        let has = has_record g blocks i u used in
        let n = length directory.chunks in
        let last : u.inode.size / 512 ≡ n = omega (arith, counts.size) in
        subst (λ (v : UsedInode). d.direct ≡ v.inode.direct → d.indirect ≡ v.inode.indirect → is_directory d.mode ≡ true → is_directory v.inode.mode ≡ true → d.size ≡ v.inode.size + 512
        → chunks_at others d ≡ v.chunks ++ (chunk_at others v.numbers (v.inode.size / 512) ∷ [])) has.leads
        (more_chunks g blocks others ok laid i writes.within writes.agree has.dinode has.there d) direct indirect (same_directory d.mode u.inode.mode grows.type ∙ counts.is) counts.is grows.size
        ∙ ap (λ (c : Option (List Slot)). u.chunks ++ (c ∷ [])) (ap (chunk_at others u.numbers) last ∙ there)

    pub size_stored : IsStored g (reading_of g others) hands
    size_stored =
        let v = used_inode others d in
        let places = places_in_block g blocks others i u v directory slots [] hands hands stored used stands only state grows chunks_grown inside numbers_same pointers_same in
        grown_stored g blocks others i u v directory slots [] hands hands stored used stands only state grows chunks_grown
        (same_claims i u v numbers_same pointers_same) places (omega (arith, count)) (record { inodes = λ j. refl; blocks = λ b. refl })

    pub size_tree : tree_of g others ≡ with_node (tree_of g blocks) i (Some (Directory (record { attributes = attributes_of d; chunks = directory.chunks ++ (slots ∷ []) })))
    size_tree = grown_tree g blocks others i u (used_inode others d) directory slots [] hands hands stored used stands only state grows chunks_grown

  -- with a new block at the next index, of which these numbers are known
  module _ (k b : ℕ) (taken : List ℕ) (after : List Hand) (eight : length directory.chunks ≡ 8 * k) (some : eqb b 0 ≡ false) (there : chunk_of (take 512 (others b)) ≡ Some slots)
      (numbers : numbers_of others d ≡ set u.numbers k b) (within : k < length u.numbers) where
    -- each chunk before stays, and the next is in the new block
    chunk_before : (j : ℕ) → j < u.inode.size / 512 → chunk_at others (set u.numbers k b) j ≡ chunk_at blocks u.numbers j
    chunk_before j less =
        let has = has_record g blocks i u used in
        let low : j / 8 ≢ k = λ same. (absurd (omega (arith, less, counts.size, eight, same))) in
        ap (λ (n : ℕ). chunk_of (take 512 (drop (512 * (j % 8)) (block_numbered others n)))) (get_or-set_other u.numbers k (j / 8) b 0 low)
        ∙ subst (λ (v : UsedInode). is_directory v.inode.mode ≡ true → (m : ℕ) → m < v.inode.size / 512 → chunk_at others v.numbers m ≡ chunk_at blocks v.numbers m) has.leads
        (chunk_stays g blocks others ok laid i writes.within writes.agree has.dinode has.there) counts.is j less

    chunk_after : chunk_at others (set u.numbers k b) (8 * k) ≡ Some slots
    chunk_after =
        let index : (8 * k) / 8 ≡ k = omega arith in
        let place : 512 * ((8 * k) % 8) ≡ 0 = omega arith in
        (λ t. chunk_of (take 512 (drop (place t) (block_numbered others (slice_index (set u.numbers k b) (index t))))))
        ∙ ap (λ (n : ℕ). chunk_of (take 512 (block_numbered others n))) (get_or-set_same u.numbers k b 0 within)
        ∙ ap (λ (l : List ℕ). chunk_of (take 512 l)) (cond-false (eqb b 0) [] (others b) some) ∙ there

    chunks_new : chunks_at others d ≡ u.chunks ++ (Some slots ∷ [])
    chunks_new =
        let has = has_record g blocks i u used in
        let n = u.inode.size / 512 in
        let count : d.size / 512 ≡ n + 1 = omega (arith, grows.size) in
        let at : 0 + n ≡ 8 * k = omega (arith, counts.size, eight) in
        let old : map (chunk_at blocks u.numbers) (range_with_len 0 n) ≡ u.chunks =
        subst (λ (v : UsedInode). is_directory v.inode.mode ≡ true → map (chunk_at blocks v.numbers) (range_with_len 0 (v.inode.size / 512)) ≡ v.chunks) has.leads
        (λ is. sym (cond-true (is_directory has.dinode.mode) (map (chunk_at blocks (numbers_of blocks has.dinode)) (range_with_len 0 (has.dinode.size / 512))) [] is)) counts.is in
        cond-true (is_directory d.mode) (map (chunk_at others (numbers_of others d)) (range_with_len 0 (d.size / 512))) [] (same_directory d.mode u.inode.mode grows.type ∙ counts.is)
        ∙ (λ t. map (chunk_at others (numbers t)) (range_with_len 0 (count t)))
        ∙ map-range_with_len_more (chunk_at others (set u.numbers k b)) 0 n (8 * k) at
        ∙ (λ t. (map_same (chunk_at others (set u.numbers k b)) (chunk_at blocks u.numbers) (range_with_len 0 n)
        (All_range (λ j. chunk_at others (set u.numbers k b) j ≡ chunk_at blocks u.numbers j) n chunk_before) ∙ old) t ++ (chunk_after t ∷ []))

    pub attached_tree : tree_of g others ≡ with_node (tree_of g blocks) i (Some (Directory (record { attributes = attributes_of d; chunks = directory.chunks ++ (slots ∷ []) })))
    attached_tree = grown_tree g blocks others i u (used_inode others d) directory slots taken hands after stored used stands only state grows chunks_new

    pub attached_stored : ClaimsMore i u (used_inode others d) taken → k < 256
        → list_all (λ p. p.block == 0 || nat_lt (first_index p.name) (size_in_blocks d.size)) (named_pointers d) ≡ true
        → d.blocks ≡ u.inode.blocks + length taken → HoldMore hands after [] taken → IsStored g (reading_of g others) after
    attached_stored more below pointers count held =
        let v = used_inode others d in
        let places = places_after g blocks others i u v directory slots taken hands after stored used stands only state grows chunks_new k b eight below numbers some pointers within in
        grown_stored g blocks others i u v directory slots taken hands after stored used stands only state grows chunks_new more places count held
