-- A file gets a held block where it had a hole, or a held pointer block.
use Rattle.std.proofs.Common.{◌≡◌, ◌≢◌, ◌<◌, ◌⊎◌, inl, inr, ℕ, ◌+◌, ◌*◌, ◌/◌, ◌%◌, eqb, Bool, true, false, cond, List, [], ◌∷◌, ◌++◌, length, take, drop, set, replicate, slice_index, Some, refl, sym, ap, ◌∙◌, subst, arith}
use Rattle.std.specs.Prelude.{slice_set}
use Rattle.std.specs.List.{Contains}
use Rattle.std.proofs.lemmas.Bool.{cases_eq, both_ways, eq-eqb, true≢false}
use Rattle.std.proofs.lemmas.List.{take_all, get_or-set_same, get_or-set_other}
use Rattle.lufs_base.specs.declared.geometry.Geometry.{Geometry}
use Rattle.lufs_base.specs.declared.delta.Delta.{Delta}
use Rattle.volume_model.specs.declared.hand.Hand.{Hand}
use Rattle.volume_model.specs.declared.inode.Dinode.{Dinode}
use Rattle.volume_model.specs.Format.{Image, Blocks, block, inodes_of, is_file, IsDinode, dinode_bytes, pointers_of, is_body, numbers_bytes}
use Rattle.volume_model.specs.Sound.{Single, UsedInode, InUse, Reading, reading_of, inodes_in, used_inode, numbers_of, pointers_at, NamedPointer, used_at, AtIndex, Claim, index_claim, pointer_claim, claims_in, is_claimed, IsLaid, size_in_blocks, FileNode, File, attributes_of, PointerName, AtPointer, state_at, used_of, claims_of, read_length}
use Rattle.volume_laws.specs.Changes.{with_block, AgreeBut, AgreeWhereReadBut, with_number}
use Rattle.volume_laws.proofs.Members.{Contains_head}
use Rattle.volume_laws.proofs.ClaimFacts.{length-inodes, used_within, claimed_in, claims_its_block, used_in_volume}
use Rattle.volume_laws.proofs.FieldFacts.{fields_of_numbers}
use Rattle.volume_laws.proofs.StoredClaims.{right_numbers, stored_is_laid}
use Rattle.volume_laws.proofs.BodyChanges.{has_record, HasRecord}
use Rattle.volume_laws.proofs.NumberChange.{numbers_of_used, numbers_state, as_one_number, its_pointer, without_chunks}
use Rattle.volume_laws.proofs.NodeFacts.{file_by_node, file_is_no_directory}
use Rattle.change_laws.specs.Plans.{HasInode, ChangesInode, WritesRecord, HoldMore}
use Rattle.change_laws.proofs.NumberReads.{same_pointers, numbers_with_direct, numbers_by_pointer, numbers_without_pointer, pointer_blocks}
use Rattle.meta_store.specs.declared.change.Change.{Change}
use Rattle.meta_store.specs.Merged.{merged}
use Rattle.meta_store.proofs.MergedTable.{IsLoggable}
use Rattle.meta_store.specs.Deltas.{inode_delta, zero_delta, pointers_delta}
use Rattle.meta_draft.specs.Drafted.{drafted_blocks, with_delta}
use Rattle.draft_laws.specs.Laying.{with_laid}
use Rattle.draft_laws.specs.Drafts.{IsDraft, Draws, MayAttach, IsNewBlock}
use Rattle.draft_laws.proofs.MetadataLengths.{no_index}
use Rattle.draft_laws.proofs.Continues.{IsLost, held_free}
use Rattle.draft_laws.proofs.OneInodeStep.{MayComeAs}
use Rattle.draft_laws.proofs.ClaimLists.{pointer_in, index_in, each_claim}
use Rattle.draft_laws.proofs.Contents.{AreSized, drafted_sized, sized_with, agree_but, away, there, unread}
use Rattle.draft_laws.proofs.RecordDeltas.{inode_loggable, inode_suited, zero_loggable, pointers_loggable}
use Rattle.draft_laws.proofs.InodeDrawn.{drawn_by_one, drawn_by_many}
use Rattle.draft_laws.proofs.Written.{writes_it, writes_over}
use Rattle.draft_laws.proofs.NewSteps.{held_by, once_first, beside_records, may_attach, some_number}
use Rattle.draft_laws.proofs.FirstPointerGrowth.{only_one}
use Rattle.draft_laws.proofs.FileParts.{none_at_index, file_now, file_keeps, file_news, file_gives}
use Rattle.lufs_base.specs.Fields.{u32_at}
use Rattle.lufs_base.specs.declared.delta.DeltaKind.TheVariants.{Zero, Pointers}
use Rattle.volume_laws.proofs.LaidClaims.{body_of_claim}
use Rattle.volume_laws.proofs.LessAgreement.{agree_in_metadata_but}
use Rattle.volume_laws.proofs.Rows.{length-row}
use Rattle.volume_laws.proofs.UnclaimedBlocks.{nothing_read}
use Rattle.change_laws.proofs.FilePlaces.{file_fits}
use Rattle.change_laws.proofs.FileSteps.{attached_direct, attached_pointer}
use Rattle.change_laws.proofs.FileByPointer.{file_by_pointer}
use Rattle.change_laws.proofs.OneInode.{used_changed}
use Rattle.change_laws.proofs.Places.{body_inside}
use Rattle.meta_store.specs.Conditions.{is_given}
use Rattle.meta_store.specs.Suited.{suits_claims}
use Rattle.draft_laws.specs.Follows.{is_loose}
use Rattle.draft_laws.proofs.Merging.{all_laid_in}
use Rattle.draft_laws.proofs.SuitedParts.{suits_at_pointer}
use Rattle.draft_laws.proofs.PointerRows.{block_fits, one_number_there, zero_numbers}
use Rattle.draft_laws.proofs.GrowthDrawn.{given_in_whole}

-- a new block of a file may come at an index
file_block_may : (g : Geometry) (base : Image) (taken : ℕ → Bool) (change : Change) (i index b : ℕ) (v : UsedInode) → is_file v.inode.mode ≡ true → IsNewBlock g base taken b → slice_index v.numbers index ≡ b
    → MayComeAs (reading_of g (block base)) taken change.raw v (index_claim i v index)
file_block_may g base taken change i index b v file new is = record {
  in_transaction = ap taken is ∙ new.in_transaction;
  unclaimed = ap (is_claimed (reading_of g (block base))) is ∙ new.unclaimed;
  unwritten = λ some. absurd (omega (arith, some, none_at_index v index file));
}

-- one more block at an index of a file, with the same pointer blocks
module _ (g : Geometry) (base : Image) (taken : ℕ → Bool) (change : Change) (i k b : ℕ) (u v : UsedInode) (file : is_file v.inode.mode ≡ true) (new : IsNewBlock g base taken b)
    (numbers : v.numbers ≡ set u.numbers k b) (pointers : v.pointers ≡ u.pointers) (empty : slice_index u.numbers k ≡ 0) (within : k < length u.numbers) where
  its_number : slice_index v.numbers k ≡ b
  its_number = ap (λ (l : List ℕ). slice_index l k) numbers ∙ get_or-set_same u.numbers k b 0 within

  other_number : (index : ℕ) → index ≢ k → slice_index v.numbers index ≡ slice_index u.numbers index
  other_number index apart = ap (λ (l : List ℕ). slice_index l index) numbers ∙ get_or-set_other u.numbers k index b 0 apart

  kept_of_file : (claim : Claim) → Contains (claims_in i u) claim → Contains (claims_in i v) claim
  kept_of_file =
      each_claim (λ claim. Contains (claims_in i v) claim) i u
      (λ p here some. pointer_in i v p (subst (λ (l : List NamedPointer). Contains l p) (sym pointers) here) some)
      (λ index some. elim (cases_eq index k) [
        | inl same ↦ absurd (true≢false (sym (eq-eqb (slice_index u.numbers index) 0 (ap (slice_index u.numbers) same ∙ empty)) ∙ some))
        | inr apart ↦
            let is = other_number index apart in
            subst (λ (m : ℕ). Contains (claims_in i v) (record { block = m; inode = i; part = AtIndex index })) is (index_in i v index (ap (λ (m : ℕ). eqb m 0) is ∙ some))
      ])

  added_to_file : (claim : Claim) → Contains (claims_in i v) claim → Contains (claims_in i u) claim ⊎ MayComeAs (reading_of g (block base)) taken change.raw v claim
  added_to_file =
      each_claim (λ claim. Contains (claims_in i u) claim ⊎ MayComeAs (reading_of g (block base)) taken change.raw v claim) i v
      (λ p here some. inl (pointer_in i u p (subst (λ (l : List NamedPointer). Contains l p) pointers here) some))
      (λ index some. elim (cases_eq index k) [
        | inl same ↦ inr (file_block_may g base taken change i index b v file new (ap (slice_index v.numbers) same ∙ its_number))
        | inr apart ↦
            let is = other_number index apart in
            inl (subst (λ (m : ℕ). Contains (claims_in i u) (record { block = m; inode = i; part = AtIndex index })) (sym is) (index_in i u index (sym (ap (λ (m : ℕ). eqb m 0) is) ∙ some)))
      ])

  no_new_pointer : (claim : Claim) → Contains (claims_in i v) claim → (name : PointerName) → claim.part ≡ AtPointer name → Contains (claims_in i u) claim
  no_new_pointer =
      each_claim (λ claim. (name : PointerName) → claim.part ≡ AtPointer name → Contains (claims_in i u) claim) i v
      (λ p here some name part. pointer_in i u p (subst (λ (l : List NamedPointer). Contains l p) pointers here) some)
      (λ index some name part. absurd (no_index name index (sym part)))

module _ (g : Geometry) (base : Image) (taken : ℕ → Bool) (change : Change) (hands after : List Hand) (i : ℕ) (u : UsedInode) (d : Dinode) (file : FileNode)
    (draft : IsDraft g base taken change hands) (has : HasInode g (drafted_blocks change base) hands i u (File file)) (is : IsDinode g.version d) (type : d.mode / 512 ≡ u.inode.mode / 512)
    (size : d.size ≡ u.inode.size) where
  abbrev blocks : Blocks
  blocks = drafted_blocks change base

  abbrev r : Reading
  r = reading_of g blocks

  abbrev before : Reading
  before = reading_of g (block base)

  abbrev its_record : Delta
  its_record = inode_delta g i (dinode_bytes (Some d))

  r_laid : IsLaid g r
  r_laid = stored_is_laid g r hands has.stored

  file_was : is_file u.inode.mode ≡ true
  file_was = file_by_node g blocks i u file has.used has.stands

  inside : i < inodes_in r
  inside = used_within r i u has.used

  within : i < inodes_of g
  within = omega (arith, inside, length-inodes g blocks)

  sized : AreSized g blocks
  sized = drafted_sized g base change draft.room draft.recorded.raw

  record_own : IsLoggable g its_record
  record_own = inode_loggable g i (Some d) draft.geometry within is

  held_block : (b : ℕ) → HoldMore hands after [] (b ∷ []) → (is_body g b ≡ true) × (is_claimed r b ≡ false)
  held_block b held = held_free g r hands has.stored b (held_by hands after [] (b ∷ []) b held (once_first b []))

  -- at a direct index
  module _ (k b : ℕ) (direct : d.direct ≡ slice_set u.inode.direct k b) (indirect : d.indirect ≡ u.inode.indirect) (count : d.blocks ≡ u.inode.blocks + 1) (low : k < 12)
      (below : k < size_in_blocks u.inode.size) (empty : slice_index u.numbers k ≡ 0) (held : HoldMore hands after [] (b ∷ [])) (new : IsNewBlock g base taken b) where
    pub file_block_attached : Draws g base taken change (with_delta change its_record) i
        (Some (File (with_block (record file { attributes = attributes_of d }) k (Some (take 4096 (drafted_blocks change base b)))))) (Some d.links) after
    file_block_attached =
        let others = with_laid blocks its_record in
        let v : UsedInode = used_inode others d in
        let writes = writes_it g blocks i (Some d) draft.geometry within is sized in
        let free = held_block b held in
        let kept : others b ≡ blocks b = away g blocks its_record sized record_own refl b (beside_records g b i draft.geometry free.0 within) in
        let found = attached_direct g blocks others i u d file hands has writes type k b after size direct indirect count low below empty held in
        let node = Some (File (with_block (record file { attributes = attributes_of d }) k (Some (take 4096 (blocks b))))) in
        let changes : ChangesInode g blocks others i (InUse v) node after =
        subst (λ (l : List ℕ). ChangesInode g blocks others i (InUse v) (Some (File (with_block (record file { attributes = attributes_of d }) k (Some (take 4096 l))))) after) kept found in
        let numbers = numbers_with_direct g blocks others has.geometry r_laid i u d has.used writes k b low direct indirect in
        let pointers = same_pointers g blocks others has.geometry r_laid i u d has.used writes indirect in
        let long : k < length u.numbers = omega (arith, low, numbers_of_used g blocks i u has.used) in
        let now = file_now g before r taken change after i u v has.used file_was type in
        let kept_then : (claim : Claim) → Contains (claims_in i u) claim → Contains (claims_in i v) claim ⊎ IsLost before after claim = λ claim mine. inl (kept_of_file g base taken change i k b u v now new numbers pointers empty long claim mine) in
        let added = added_to_file g base taken change i k b u v now new numbers pointers empty long in
        drawn_by_one g base taken change hands after others i (InUse v) node draft inside changes
        (file_keeps g before r taken change after i u v has.used file_was type kept_then added)
        (file_news g before r taken change after i u v has.used file_was type kept_then added)
        its_record refl record_own refl (inode_suited g i (Some d) draft.geometry within is (reading_of g others))
        (file_gives g before r taken change after i u v has.used file_was type kept_then added (merged change.deltas its_record)
        (λ claim name mine unclaimed part place under. absurd (both_ways (is_claimed r claim.block) unclaimed
        (claims_its_block r claim (claimed_in r i u claim has.used (no_new_pointer g base taken change i k b u v now new numbers pointers empty long claim mine name part))))))

  -- a pointer block without numbers
  module _ (p : ℕ) (direct : d.direct ≡ u.inode.direct) (none : slice_index u.inode.indirect 0 ≡ 0) (indirect : slice_index d.indirect 0 ≡ p) (count : d.blocks ≡ u.inode.blocks + 1)
      (above : 12 < size_in_blocks u.inode.size) (held : HoldMore hands after [] (p ∷ [])) (may : MayAttach g base taken change p) where
    abbrev zeros : Delta
    zeros = zero_delta p

    pub file_pointer_attached : Draws g base taken change (with_delta (with_delta change zeros) its_record) i
        (Some (File (record file { attributes = attributes_of d; pointers = Single ∷ [] }))) (Some d.links) after
    file_pointer_attached =
        let cleared = with_laid blocks zeros in
        let others = with_laid cleared its_record in
        let v : UsedInode = used_inode others d in
        let free = held_block p held in
        let zeros_own = zero_loggable g p free.0 in
        let cleared_sized = sized_with g blocks zeros sized zeros_own refl in
        let at : (4096 * p) / 4096 ≡ p = omega arith in
        let place_is : (4096 * p) % 4096 ≡ 0 = omega arith in
        let lengths = read_length g r in
        let nothing = nothing_read g r p free.0 free.1 in
        let unread_now : (c : ℕ) → take (lengths c) (cleared c) ≡ take (lengths c) (blocks c) = λ c. unread g blocks zeros sized zeros_own refl lengths (ap lengths at ∙ nothing) c in
        let writes = writes_over g blocks cleared i (Some d) draft.geometry within is cleared_sized unread_now in
        let kept : others p ≡ cleared p = away g cleared its_record cleared_sized record_own refl p (beside_records g p i draft.geometry free.0 within) in
        let count_of_bytes = cleared_sized p (body_inside g p free.0) in
        let all_zeros_there : cleared p ≡ replicate 4096 0 =
        sym (take_all 4096 (cleared p) (omega (arith, count_of_bytes))) ∙ (λ t. take 4096 (drop (sym place_is t) (cleared (sym at t)))) ∙ there g blocks zeros sized zeros_own refl in
        let row : pointers_of (others p) ≡ replicate 1024 0 = ap pointers_of (kept ∙ all_zeros_there) ∙ zero_numbers in
        let node = Some (File (record file { attributes = attributes_of d; pointers = Single ∷ [] })) in
        let changes = attached_pointer g blocks others i u d file hands has writes type p after size direct none indirect count above row held in
        let now = file_now g before r taken change after i u v has.used file_was type in
        let some = some_number g p p draft.geometry free.0 refl in
        let no_pointer : eqb (slice_index u.inode.indirect 0) 0 ≡ true = eq-eqb (slice_index u.inode.indirect 0) 0 none in
        let numbers : v.numbers ≡ u.numbers =
        numbers_by_pointer g blocks others has.geometry r_laid i u d has.used writes p (replicate 1024 0) direct indirect some row ∙ sym (numbers_without_pointer g blocks i u has.used no_pointer) in
        let pointer : NamedPointer = record { name = Single; block = p } in
        let pointers : v.pointers ≡ pointer ∷ [] = λ t. record { name = Single; block = indirect t } ∷ [] in
        let was = pointer_blocks g blocks i u has.used in
        let kept_then : (claim : Claim) → Contains (claims_in i u) claim → Contains (claims_in i v) claim ⊎ IsLost before after claim =
        each_claim (λ claim. Contains (claims_in i v) claim ⊎ IsLost before after claim) i u
        (λ q here some_q. absurd (both_ways (eqb q.block 0) some_q
        (ap (λ (x : NamedPointer). eqb x.block 0) (only_one q (record { name = Single; block = slice_index u.inode.indirect 0 }) (subst (λ (l : List NamedPointer). Contains l q) was here)) ∙ no_pointer)))
        (λ index some_n.
        let same : slice_index v.numbers index ≡ slice_index u.numbers index = ap (λ (l : List ℕ). slice_index l index) numbers in
        inl (subst (λ (m : ℕ). Contains (claims_in i v) (record { block = m; inode = i; part = AtIndex index })) same (index_in i v index (ap (λ (m : ℕ). eqb m 0) same ∙ some_n)))) in
        let is_pointer : (q : NamedPointer) → Contains v.pointers q → q ≡ pointer = λ q here. only_one q pointer (subst (λ (l : List NamedPointer). Contains l q) pointers here) in
        let added : (claim : Claim) → Contains (claims_in i v) claim → Contains (claims_in i u) claim ⊎ MayComeAs before taken change.raw v claim =
        each_claim (λ claim. Contains (claims_in i u) claim ⊎ MayComeAs before taken change.raw v claim) i v
        (λ q here some_q. inr (may_attach g base taken change p v (pointer_claim i q) may (ap (λ (x : NamedPointer). x.block) (is_pointer q here))))
        (λ index some_n.
        let same : slice_index v.numbers index ≡ slice_index u.numbers index = ap (λ (l : List ℕ). slice_index l index) numbers in
        inl (subst (λ (m : ℕ). Contains (claims_in i u) (record { block = m; inode = i; part = AtIndex index })) (sym same) (index_in i u index (sym (ap (λ (m : ℕ). eqb m 0) same) ∙ some_n)))) in
        let at_pointer : (claim : Claim) → Contains (claims_in i v) claim → (name : PointerName) → claim.part ≡ AtPointer name → claim.block ≡ p =
        each_claim (λ claim. (name : PointerName) → claim.part ≡ AtPointer name → claim.block ≡ p) i v
        (λ q here some_q name part. ap (λ (x : NamedPointer). x.block) (is_pointer q here))
        (λ index some_n name part. absurd (no_index name index (sym part))) in
        let more : List Delta = zeros ∷ its_record ∷ [] in
        let s = reading_of g others in
        let used : used_at s i ≡ Some v = ap (λ (x : Reading). used_at x i) changes.reading ∙ used_changed r i (InUse v) inside in
        let pointer_here : Contains v.pointers pointer = subst (λ (l : List NamedPointer). Contains l pointer) (sym pointers) (Contains_head pointer []) in
        let zeros_fit : suits_claims s Zero ((4096 * p) / 4096) ≡ true = ap (suits_claims s Zero) at ∙ suits_at_pointer s i v pointer Zero used pointer_here some refl in
        drawn_by_many g base taken change hands after others i (InUse v) node draft inside changes
        (file_keeps g before r taken change after i u v has.used file_was type kept_then added)
        (file_news g before r taken change after i u v has.used file_was type kept_then added)
        more refl
        (record { own = zeros_own; lays = refl; fitting = zeros_fit }, (record { own = record_own; lays = refl; fitting = inode_suited g i (Some d) draft.geometry within is s }, tt))
        (λ many. file_gives g before r taken change after i u v has.used file_was type kept_then added (all_laid_in change.deltas more)
        (λ claim name mine unclaimed part place under.
        subst (λ (c : ℕ). is_given (all_laid_in change.deltas more) c place ≡ true) (sym (at_pointer claim mine name part))
        (given_in_whole g base change more s (is_loose before after) p place many (Contains_head zeros (its_record ∷ [])) under)))

  -- at an index of its pointer block
  module _ (j b : ℕ) (direct : d.direct ≡ u.inode.direct) (indirect : d.indirect ≡ u.inode.indirect) (count : d.blocks ≡ u.inode.blocks + 1)
      (has_pointer : eqb (slice_index u.inode.indirect 0) 0 ≡ false) (below : 12 + j < size_in_blocks u.inode.size) (empty : slice_index u.numbers (12 + j) ≡ 0)
      (held : HoldMore hands after [] (b ∷ [])) (new : IsNewBlock g base taken b) where
    abbrev k : ℕ
    k = 12 + j

    abbrev p : ℕ
    p = slice_index u.inode.indirect 0

    abbrev number : Delta
    number = pointers_delta p j (numbers_bytes (b ∷ []))

    abbrev middle : Blocks
    middle = with_laid blocks number

    abbrev last : Blocks
    last = with_laid middle its_record

    free_block : (is_body g b ≡ true) × (is_claimed r b ≡ false)
    free_block = held_block b held

    few : 12 + j < 1036
    few =
        let right = fields_of_numbers g i u (right_numbers g r i u hands has.stored has.used) in
        let fits = file_fits g u.inode file_was right.size in
        omega (arith, below, fits)

    pointer_there : Contains (claims_of r) (pointer_claim i (record { name = Single; block = p }))
    pointer_there = its_pointer g blocks i u has.used has_pointer

    pointer_body : is_body g p ≡ true
    pointer_body = body_of_claim g r r_laid (pointer_claim i (record { name = Single; block = p })) pointer_there

    pointer_apart : b ≢ p
    pointer_apart = λ same. both_ways (is_claimed r b) free_block.1 (ap (is_claimed r) same ∙ claims_its_block r (pointer_claim i (record { name = Single; block = p })) pointer_there)

    number_own : IsLoggable g number
    number_own = pointers_loggable g p j (b ∷ []) pointer_body (omega arith) (omega (arith, few))

    middle_sized : AreSized g middle
    middle_sized = sized_with g blocks number sized number_own refl

    pointer_at : (4096 * p + 4 * j) / 4096 ≡ p
    pointer_at = omega (arith, few)

    pointer_place : (4096 * p + 4 * j) % 4096 ≡ 4 * j
    pointer_place = omega (arith, few)

    four : length (numbers_bytes (b ∷ [])) ≡ 4
    four = length-row (b ∷ [])

    agree : AgreeWhereReadBut g blocks middle p (4 * j) 4
    agree =
        let lengths = read_length g r in
        subst (λ (n : ℕ). AgreeBut lengths blocks middle p (4 * j) n) four
        (subst (λ (q : ℕ). AgreeBut lengths blocks middle p q (length (numbers_bytes (b ∷ [])))) pointer_place
        (subst (λ (c : ℕ). AgreeBut lengths blocks middle c ((4096 * p + 4 * j) % 4096) (length (numbers_bytes (b ∷ [])))) pointer_at (agree_but g blocks number sized number_own refl lengths)))

    number_is : u32_at (middle p) (4 * j) ≡ b
    number_is =
        one_number_there b j (middle p) (block_fits g b has.geometry free_block.0)
        ((λ t. take (sym four t) (drop (sym pointer_place t) (middle (sym pointer_at t)))) ∙ there g blocks number sized number_own refl)

    last_writes : WritesRecord g middle last i (Some d)
    last_writes = writes_it g middle i (Some d) draft.geometry within is middle_sized

    -- its numbers after the one in the pointer block is written
    between : HasRecord g middle i (with_number u k b)
    between =
        let state : state_at g middle i ≡ InUse (with_number u k b) =
        numbers_state g blocks middle has.geometry r_laid i j 1 u has.used (without_chunks g blocks i j u has.used (file_is_no_directory u.inode.mode file_was)) (omega (arith, few)) has_pointer
        (agree_in_metadata_but g blocks middle p (4 * j) 4 agree)
        ∙ ap (λ (x : UsedInode). InUse x) (as_one_number g blocks i j u (middle p) has.used (omega (arith, few)) ∙ ap (with_number u k) number_is) in
        has_record g middle i (with_number u k b) (used_in_volume g middle i within ∙ ap used_of state)

    last_numbers : numbers_of last d ≡ set u.numbers k b
    last_numbers =
        let e = between.dinode in
        let same : e ≡ u.inode = ap (λ (x : UsedInode). x.inode) between.leads in
        let pointer_kept : last p ≡ middle p = away g middle its_record middle_sized record_own refl p (beside_records g p i draft.geometry pointer_body within) in
        let rows : pointers_at last p ≡ pointers_at middle p = ap (λ (l : List ℕ). cond (eqb p 0) (replicate 1024 0) (pointers_of l)) pointer_kept in
        let its : slice_index d.indirect 0 ≡ p = ap (λ (l : List ℕ). slice_index l 0) indirect in
        let old : slice_index e.indirect 0 ≡ p = ap (λ (x : Dinode). slice_index x.indirect 0) same in
        let fronts : d.direct ≡ e.direct = direct ∙ ap (λ (x : Dinode). x.direct) (sym same) in
        let tails : pointers_at last (slice_index d.indirect 0) ≡ pointers_at middle (slice_index e.indirect 0) = ap (pointers_at last) its ∙ rows ∙ ap (pointers_at middle) (sym old) in
        (λ t. fronts t ++ (tails t ++ [])) ∙ ap (λ (x : UsedInode). x.numbers) between.leads

    pub file_block_attached_by_pointer : Draws g base taken change (with_delta (with_delta change number) its_record) i
        (Some (File (with_block (record file { attributes = attributes_of d }) (12 + j) (Some (take 4096 (drafted_blocks change base b)))))) (Some d.links) after
    file_block_attached_by_pointer =
        let v : UsedInode = used_inode last d in
        let kept : last b ≡ blocks b =
        away g middle its_record middle_sized record_own refl b (beside_records g b i draft.geometry free_block.0 within)
        ∙ away g blocks number sized number_own refl b (λ same. pointer_apart (same ∙ pointer_at)) in
        let found = file_by_pointer g blocks middle last i j b u d file hands after has agree number_is last_writes type size direct indirect count has_pointer below empty held in
        let node = Some (File (with_block (record file { attributes = attributes_of d }) k (Some (take 4096 (blocks b))))) in
        let changes : ChangesInode g blocks last i (InUse v) node after =
        subst (λ (l : List ℕ). ChangesInode g blocks last i (InUse v) (Some (File (with_block (record file { attributes = attributes_of d }) k (Some (take 4096 l))))) after) kept found in
        let was = pointer_blocks g blocks i u has.used in
        let pointers : v.pointers ≡ u.pointers = (λ t. record { name = Single; block = slice_index (indirect t) 0 } ∷ []) ∙ sym was in
        let long : k < length u.numbers = omega (arith, few, numbers_of_used g blocks i u has.used) in
        let now = file_now g before r taken change after i u v has.used file_was type in
        let kept_then : (claim : Claim) → Contains (claims_in i u) claim → Contains (claims_in i v) claim ⊎ IsLost before after claim = λ claim mine. inl (kept_of_file g base taken change i k b u v now new last_numbers pointers empty long claim mine) in
        let added = added_to_file g base taken change i k b u v now new last_numbers pointers empty long in
        let more : List Delta = number ∷ its_record ∷ [] in
        let s = reading_of g last in
        let used : used_at s i ≡ Some v = ap (λ (x : Reading). used_at x i) changes.reading ∙ used_changed r i (InUse v) inside in
        let pointer : NamedPointer = record { name = Single; block = p } in
        let pointer_here : Contains v.pointers pointer = subst (λ (l : List NamedPointer). Contains l pointer) (sym (pointers ∙ was)) (Contains_head pointer []) in
        let number_fits : suits_claims s Pointers ((4096 * p + 4 * j) / 4096) ≡ true = ap (suits_claims s Pointers) pointer_at ∙ suits_at_pointer s i v pointer Pointers used pointer_here has_pointer refl in
        drawn_by_many g base taken change hands after last i (InUse v) node draft inside changes
        (file_keeps g before r taken change after i u v has.used file_was type kept_then added)
        (file_news g before r taken change after i u v has.used file_was type kept_then added)
        more refl
        (record { own = number_own; lays = refl; fitting = number_fits }, (record { own = record_own; lays = refl; fitting = inode_suited g i (Some d) draft.geometry within is s }, tt))
        (λ many. file_gives g before r taken change after i u v has.used file_was type kept_then added (all_laid_in change.deltas more)
        (λ claim name mine unclaimed part place under. absurd (both_ways (is_claimed r claim.block) unclaimed
        (claims_its_block r claim (claimed_in r i u claim has.used (no_new_pointer g base taken change i k b u v now new last_numbers pointers empty long claim mine name part))))))
