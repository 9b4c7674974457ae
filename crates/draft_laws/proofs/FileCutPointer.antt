-- A file with a pointer block is cut to a size for which it needs that block.
use Rattle.std.proofs.Common.{◌≡◌, ◌<◌, ◌≤◌, ◌⊎◌, inl, inr, ℕ, ◌+◌, ◌-◌, ◌*◌, ◌/◌, ◌%◌, eqb, Bool, true, false, not, cond, List, [], ◌∷◌, ◌++◌, length, map, take, drop, replicate, slice_index, Option, Some, refl, sym, ap, ◌∙◌, subst, arith, length-take}
use Rattle.std.specs.List.{All, Contains, filter}
use Rattle.std.proofs.lemmas.Bool.{cases_lt, both_ways, eq-eqb, lt-leb, true≢false}
use Rattle.std.proofs.lemmas.List.{length-replicate, get_or-take, get_or-drop, get_or-replicate, get_or_append_left, get_or-append_right}
use Rattle.std.proofs.lemmas.List.Elements.{All-contains}
use Rattle.lufs_base.specs.declared.geometry.Geometry.{Geometry}
use Rattle.lufs_base.specs.declared.delta.Delta.{Delta}
use Rattle.volume_model.specs.declared.hand.Hand.{Hand}
use Rattle.volume_model.specs.declared.inode.Dinode.{Dinode}
use Rattle.volume_model.specs.Format.{Image, Blocks, block, inodes_of, is_file, IsDinode, dinode_bytes, pointers_of, is_body, numbers_bytes}
use Rattle.volume_model.specs.Sound.{Single, UsedInode, InUse, Reading, reading_of, inodes_in, used_inode, pointers_at, NamedPointer, used_at, AtIndex, Claim, index_claim, index_claims, pointer_claim, claims_in, is_claimed, IsLaid, size_in_blocks, FileNode, Node, File, attributes_of, state_at, used_of, claims_of, read_length}
use Rattle.volume_laws.specs.Changes.{AgreeBut, AgreeWhereReadBut, with_numbers}
use Rattle.volume_laws.proofs.Members.{Contains_head}
use Rattle.volume_laws.proofs.ClaimFacts.{length-inodes, used_within, claimed_in, claims_its_block, used_in_volume}
use Rattle.volume_laws.proofs.FieldFacts.{HasRightFields, fields_of_numbers}
use Rattle.volume_laws.proofs.StoredClaims.{right_numbers, stored_is_laid}
use Rattle.volume_laws.proofs.BodyChanges.{has_record, HasRecord}
use Rattle.volume_laws.proofs.NumberChange.{numbers_of_used, numbers_state, its_pointer, without_chunks}
use Rattle.volume_laws.proofs.NodeFacts.{file_by_node, file_is_no_directory}
use Rattle.change_laws.specs.Plans.{HasInode, ChangesInode, WritesRecord, HoldMore, blocks_past}
use Rattle.change_laws.proofs.NumberReads.{same_pointers, same_numbers, pointer_blocks}
use Rattle.meta_store.specs.declared.change.Change.{Change}
use Rattle.meta_store.specs.Merged.{merged}
use Rattle.meta_store.proofs.MergedTable.{IsLoggable}
use Rattle.meta_store.specs.Deltas.{inode_delta, pointers_delta}
use Rattle.meta_draft.specs.Drafted.{drafted_blocks, with_delta}
use Rattle.draft_laws.specs.Laying.{with_laid}
use Rattle.draft_laws.specs.Drafts.{IsDraft, Draws}
use Rattle.draft_laws.proofs.Continues.{IsLost}
use Rattle.draft_laws.proofs.OneInodeStep.{MayComeAs}
use Rattle.draft_laws.proofs.ClaimLists.{pointer_in, index_in, each_claim}
use Rattle.draft_laws.proofs.Contents.{AreSized, drafted_sized, sized_with, agree_but, away, there}
use Rattle.draft_laws.proofs.RecordDeltas.{inode_loggable, inode_suited, pointers_loggable}
use Rattle.draft_laws.proofs.InodeDrawn.{drawn_by_one, drawn_by_many}
use Rattle.draft_laws.proofs.Written.{writes_it}
use Rattle.draft_laws.proofs.NewSteps.{held_by, beside_records}
use Rattle.draft_laws.proofs.FreedInode.{once_there}
use Rattle.draft_laws.proofs.FileParts.{file_keeps, file_news, file_gives}
use Rattle.lufs_base.specs.declared.delta.DeltaKind.TheVariants.{Pointers}
use Rattle.volume_laws.proofs.LaidClaims.{body_of_claim}
use Rattle.volume_laws.proofs.LessAgreement.{agree_in_metadata_but}
use Rattle.volume_laws.proofs.Rows.{length-row}
use Rattle.change_laws.proofs.FilePlaces.{file_fits, past_larger}
use Rattle.change_laws.proofs.OneInode.{used_changed}
use Rattle.meta_store.specs.Suited.{suits_claims}
use Rattle.draft_laws.proofs.Merging.{all_laid_in}
use Rattle.draft_laws.proofs.SuitedParts.{suits_at_pointer}
use Rattle.draft_laws.proofs.PointerRows.{cleared_numbers}
use Rattle.change_laws.proofs.ClaimedBlocks.{claims_one}
use Rattle.change_laws.proofs.CutSteps.{cut_in_pointers}
use Rattle.change_laws.proofs.CutClaims.{zeros_claim_nothing}
use Rattle.change_laws.proofs.Extended.{zero_at}
use Rattle.draft_laws.proofs.FileSizes.{number_past}

module _ (g : Geometry) (base : Image) (taken : ℕ → Bool) (change : Change) (hands after : List Hand) (i j : ℕ) (u : UsedInode) (d : Dinode) (file : FileNode)
    (draft : IsDraft g base taken change hands) (has : HasInode g (drafted_blocks change base) hands i u (File file)) (is : IsDinode g.version d) (type : d.mode / 512 ≡ u.inode.mode / 512)
    (has_pointer : eqb (slice_index u.inode.indirect 0) 0 ≡ false) (smaller : d.size ≤ u.inode.size) (size : size_in_blocks d.size ≡ 12 + j) (high : 0 < j)
    (direct : d.direct ≡ u.inode.direct) (indirect : d.indirect ≡ u.inode.indirect) where
  abbrev blocks : Blocks
  blocks = drafted_blocks change base

  abbrev r : Reading
  r = reading_of g blocks

  abbrev before : Reading
  before = reading_of g (block base)

  abbrev k : ℕ
  k = 12 + j

  abbrev p : ℕ
  p = slice_index u.inode.indirect 0

  abbrev its_record : Delta
  its_record = inode_delta g i (dinode_bytes (Some d))

  abbrev node : Option Node
  node = Some (File (record file { attributes = attributes_of d; size = d.size; blocks = take (12 + j) file.blocks }))

  r_laid : IsLaid g r
  r_laid = stored_is_laid g r hands has.stored

  file_was : is_file u.inode.mode ≡ true
  file_was = file_by_node g blocks i u file has.used has.stands

  right : HasRightFields g i u
  right = fields_of_numbers g i u (right_numbers g r i u hands has.stored has.used)

  inside : i < inodes_in r
  inside = used_within r i u has.used

  within : i < inodes_of g
  within = omega (arith, inside, length-inodes g blocks)

  sized : AreSized g blocks
  sized = drafted_sized g base change draft.room draft.recorded.raw

  record_own : IsLoggable g its_record
  record_own = inode_loggable g i (Some d) draft.geometry within is

  pointer_there : Contains (claims_of r) (pointer_claim i (record { name = Single; block = p }))
  pointer_there = its_pointer g blocks i u has.used has_pointer

  pointer_body : is_body g p ≡ true
  pointer_body = body_of_claim g r r_laid (pointer_claim i (record { name = Single; block = p })) pointer_there

  -- where nothing is claimed past the size
  module _ (count : d.blocks ≡ u.inode.blocks) (all_past : size_in_blocks u.inode.size ≤ 12 + j) where
    abbrev alone : Blocks
    alone = with_laid blocks its_record

    writes_alone : WritesRecord g blocks alone i (Some d)
    writes_alone = writes_it g blocks i (Some d) draft.geometry within is sized

    nothing_past : blocks_past u k ≡ []
    nothing_past =
        let zeros = past_larger u.numbers (size_in_blocks u.inode.size) k (omega (arith, all_past)) right.none_past in
        ap (λ (t : Bool). filter claims_one (cond t (map (λ (q : NamedPointer). q.block) u.pointers) [] ++ drop k u.numbers)) (lt-leb k 12 (omega (arith, high)))
        ∙ zeros_claim_nothing (drop k u.numbers) zeros

    few : 12 + j ≤ 1036
    few = omega (arith, size, smaller, file_fits g u.inode file_was right.size)

    pub file_cut_in_place : Draws g base taken change (with_delta change its_record) i node (Some d.links) hands
    file_cut_in_place =
        let v : UsedInode = used_inode alone d in
        let counted : d.blocks + length (blocks_past u k) ≡ u.inode.blocks = omega (arith, count, ap length nothing_past) in
        let held : HoldMore hands hands [] (blocks_past u k) = subst (λ (l : List ℕ). HoldMore hands hands [] l) (sym nothing_past) (record { inodes = λ m. refl; blocks = λ m. refl }) in
        let agree : AgreeWhereReadBut g blocks blocks p (4 * j) (4 * 0) = record { elsewhere = λ c apart. refl; before = refl; after = refl } in
        let changes : ChangesInode g blocks alone i (InUse v) node hands =
        cut_in_pointers g blocks blocks alone i j 0 u d file hands hands has has_pointer (omega (arith, few)) (omega (arith, all_past)) agree refl writes_alone type smaller size high direct indirect counted held in
        let numbers = same_numbers g blocks alone has.geometry r_laid i u d has.used writes_alone direct indirect in
        let pointers = same_pointers g blocks alone has.geometry r_laid i u d has.used writes_alone indirect in
        let claims : claims_in i v ≡ claims_in i u = λ t. filter (λ claim. not (eqb claim.block 0)) (map (pointer_claim i) (pointers t) ++ index_claims i 0 (numbers t)) in
        let kept_then : (claim : Claim) → Contains (claims_in i u) claim → Contains (claims_in i v) claim ⊎ IsLost before hands claim = λ claim mine. inl (subst (λ (l : List Claim). Contains l claim) (sym claims) mine) in
        let back = λ (claim : Claim) (mine : Contains (claims_in i v) claim). subst (λ (l : List Claim). Contains l claim) claims mine in
        let added : (claim : Claim) → Contains (claims_in i v) claim → Contains (claims_in i u) claim ⊎ MayComeAs before taken change.raw v claim = λ claim mine. inl (back claim mine) in
        drawn_by_one g base taken change hands hands alone i (InUse v) node draft inside changes
        (file_keeps g before r taken change hands i u v has.used file_was type kept_then added)
        (file_news g before r taken change hands i u v has.used file_was type kept_then added)
        its_record refl record_own refl (inode_suited g i (Some d) draft.geometry within is (reading_of g alone))
        (file_gives g before r taken change hands i u v has.used file_was type kept_then added (merged change.deltas its_record)
        (λ claim name mine unclaimed part place under. absurd (both_ways (is_claimed r claim.block) unclaimed (claims_its_block r claim (claimed_in r i u claim has.used (back claim mine))))))

  -- where numbers are cleared
  module _ (n : ℕ) (some_numbers : 0 < n) (fits : j + n ≤ 1024) (all_past : size_in_blocks u.inode.size ≤ 12 + j + n) (count : d.blocks + length (blocks_past u (12 + j)) ≡ u.inode.blocks)
      (held : HoldMore after hands [] (blocks_past u (12 + j))) (old : All (λ b. is_claimed before b ≡ true) (blocks_past u (12 + j))) where
    abbrev zeros : List ℕ
    zeros = replicate n 0

    abbrev number : Delta
    number = pointers_delta p j (numbers_bytes zeros)

    abbrev middle : Blocks
    middle = with_laid blocks number

    abbrev others : Blocks
    others = with_laid middle its_record

    abbrev v : UsedInode
    v = used_inode others d

    abbrev w : UsedInode
    w = with_numbers u k zeros

    row_size : length zeros ≡ n
    row_size = length-replicate {A = ℕ} n 0

    number_own : IsLoggable g number
    number_own = pointers_loggable g p j zeros pointer_body (omega (arith, row_size, some_numbers)) (omega (arith, row_size, fits))

    middle_sized : AreSized g middle
    middle_sized = sized_with g blocks number sized number_own refl

    pointer_at : (4096 * p + 4 * j) / 4096 ≡ p
    pointer_at = omega (arith, fits, some_numbers)

    pointer_place : (4096 * p + 4 * j) % 4096 ≡ 4 * j
    pointer_place = omega (arith, fits, some_numbers)

    bytes_size : length (numbers_bytes zeros) ≡ 4 * n
    bytes_size = length-row zeros ∙ ap (λ (m : ℕ). 4 * m) row_size

    agree : AgreeWhereReadBut g blocks middle p (4 * j) (4 * n)
    agree =
        let lengths = read_length g r in
        subst (λ (m : ℕ). AgreeBut lengths blocks middle p (4 * j) m) bytes_size
        (subst (λ (q : ℕ). AgreeBut lengths blocks middle p q (length (numbers_bytes zeros))) pointer_place
        (subst (λ (c : ℕ). AgreeBut lengths blocks middle c ((4096 * p + 4 * j) % 4096) (length (numbers_bytes zeros))) pointer_at (agree_but g blocks number sized number_own refl lengths)))

    cleared : take n (drop j (pointers_of (middle p))) ≡ replicate n 0
    cleared =
        cleared_numbers (middle p) j n fits
        ((λ t. take (sym bytes_size t) (drop (sym pointer_place t) (middle (sym pointer_at t)))) ∙ there g blocks number sized number_own refl)

    writes : WritesRecord g middle others i (Some d)
    writes = writes_it g middle i (Some d) draft.geometry within is middle_sized

    changes : ChangesInode g blocks others i (InUse v) node after
    changes = cut_in_pointers g blocks middle others i j n u d file hands after has has_pointer fits all_past agree cleared writes type smaller size high direct indirect count held

    -- its numbers once these are cleared
    between : HasRecord g middle i w
    between =
        let state : state_at g middle i ≡ InUse w =
        numbers_state g blocks middle has.geometry r_laid i j n u has.used (without_chunks g blocks i j u has.used (file_is_no_directory u.inode.mode file_was)) fits has_pointer
        (agree_in_metadata_but g blocks middle p (4 * j) (4 * n) agree)
        ∙ ap (λ (l : List ℕ). InUse (with_numbers u k l)) cleared in
        has_record g middle i w (used_in_volume g middle i within ∙ ap used_of state)

    numbers : v.numbers ≡ take k u.numbers ++ (zeros ++ drop (k + length zeros) u.numbers)
    numbers =
        let e = between.dinode in
        let same : e ≡ u.inode = ap (λ (x : UsedInode). x.inode) between.leads in
        let pointer_kept : others p ≡ middle p = away g middle its_record middle_sized record_own refl p (beside_records g p i draft.geometry pointer_body within) in
        let rows : pointers_at others p ≡ pointers_at middle p = ap (λ (l : List ℕ). cond (eqb p 0) (replicate 1024 0) (pointers_of l)) pointer_kept in
        let its : slice_index d.indirect 0 ≡ p = ap (λ (l : List ℕ). slice_index l 0) indirect in
        let its_old : slice_index e.indirect 0 ≡ p = ap (λ (x : Dinode). slice_index x.indirect 0) same in
        let fronts : d.direct ≡ e.direct = direct ∙ ap (λ (x : Dinode). x.direct) (sym same) in
        let tails : pointers_at others (slice_index d.indirect 0) ≡ pointers_at middle (slice_index e.indirect 0) = ap (pointers_at others) its ∙ rows ∙ ap (pointers_at middle) (sym its_old) in
        (λ t. fronts t ++ (tails t ++ [])) ∙ ap (λ (x : UsedInode). x.numbers) between.leads

    long : length (take k u.numbers) ≡ k
    long = omega (arith, fits, numbers_of_used g blocks i u has.used, length-take k u.numbers)

    number_kept : (index : ℕ) → index < k → slice_index v.numbers index ≡ slice_index u.numbers index
    number_kept index less =
        ap (λ (l : List ℕ). slice_index l index) numbers
        ∙ get_or_append_left (take k u.numbers) (zeros ++ drop (k + length zeros) u.numbers) 0 index (omega (arith, less, long)) ∙ get_or-take k u.numbers index 0 less

    number_gone : (index : ℕ) → k ≤ index → slice_index v.numbers index ≡ 0
    number_gone index past =
        ap (λ (l : List ℕ). slice_index l index) numbers
        ∙ get_or-append_right (take k u.numbers) (zeros ++ drop (k + length zeros) u.numbers) k index 0 long past
        ∙ elim (cases_lt (index - k) n) [
          | inl low ↦ get_or_append_left zeros (drop (k + length zeros) u.numbers) 0 (index - k) (omega (arith, low, row_size)) ∙ get_or-replicate n (index - k) 0 0 low
          | inr high_up ↦
              get_or-append_right zeros (drop (k + length zeros) u.numbers) n (index - k) 0 row_size high_up
              ∙ get_or-drop (k + length zeros) u.numbers (index - k - n) 0
              ∙ zero_at u.numbers (size_in_blocks u.inode.size) (k + length zeros + (index - k - n)) right.none_past (omega (arith, all_past, row_size))
        ]

    pointers : v.pointers ≡ u.pointers
    pointers = (λ t. record { name = Single; block = slice_index (indirect t) 0 } ∷ []) ∙ sym (pointer_blocks g blocks i u has.used)

    lost : (claim : Claim) → Contains (blocks_past u k) claim.block → IsLost before after claim
    lost claim here =
        (All-contains (λ b. is_claimed before b ≡ true) (blocks_past u k) claim.block old here, held_by after hands [] (blocks_past u k) claim.block held (once_there claim.block (blocks_past u k) here))

    kept : (claim : Claim) → Contains (claims_in i u) claim → Contains (claims_in i v) claim ⊎ IsLost before after claim
    kept =
        each_claim (λ claim. Contains (claims_in i v) claim ⊎ IsLost before after claim) i u
        (λ q here some. inl (pointer_in i v q (subst (λ (l : List NamedPointer). Contains l q) (sym pointers) here) some))
        (λ index some. elim (cases_lt index k) [
          | inl less ↦
              let same = number_kept index less in
              inl (subst (λ (m : ℕ). Contains (claims_in i v) (record { block = m; inode = i; part = AtIndex index })) same (index_in i v index (ap (λ (m : ℕ). eqb m 0) same ∙ some)))
          | inr past ↦ inr (lost (index_claim i u index) (number_past u k index past some))
        ])

    back : (claim : Claim) → Contains (claims_in i v) claim → Contains (claims_in i u) claim
    back =
        each_claim (λ claim. Contains (claims_in i u) claim) i v
        (λ q here some. pointer_in i u q (subst (λ (l : List NamedPointer). Contains l q) pointers here) some)
        (λ index some. elim (cases_lt index k) [
          | inl less ↦
              let same = number_kept index less in
              subst (λ (m : ℕ). Contains (claims_in i u) (record { block = m; inode = i; part = AtIndex index })) (sym same) (index_in i u index (sym (ap (λ (m : ℕ). eqb m 0) same) ∙ some))
          | inr past ↦ absurd (true≢false (sym (eq-eqb (slice_index v.numbers index) 0 (number_gone index past)) ∙ some))
        ])

    pub file_cut_by_pointer : Draws g base taken change (with_delta (with_delta change number) its_record) i node (Some d.links) after
    file_cut_by_pointer =
        let added : (claim : Claim) → Contains (claims_in i v) claim → Contains (claims_in i u) claim ⊎ MayComeAs before taken change.raw v claim = λ claim mine. inl (back claim mine) in
        let more : List Delta = number ∷ its_record ∷ [] in
        let s = reading_of g others in
        let used : used_at s i ≡ Some v = ap (λ (x : Reading). used_at x i) changes.reading ∙ used_changed r i (InUse v) inside in
        let pointer : NamedPointer = record { name = Single; block = p } in
        let pointer_here : Contains v.pointers pointer = subst (λ (l : List NamedPointer). Contains l pointer) (sym (pointers ∙ pointer_blocks g blocks i u has.used)) (Contains_head pointer []) in
        let number_fits : suits_claims s Pointers ((4096 * p + 4 * j) / 4096) ≡ true = ap (suits_claims s Pointers) pointer_at ∙ suits_at_pointer s i v pointer Pointers used pointer_here has_pointer refl in
        drawn_by_many g base taken change hands after others i (InUse v) node draft inside changes
        (file_keeps g before r taken change after i u v has.used file_was type kept added)
        (file_news g before r taken change after i u v has.used file_was type kept added)
        more refl
        (record { own = number_own; lays = refl; fitting = number_fits }, (record { own = record_own; lays = refl; fitting = inode_suited g i (Some d) draft.geometry within is s }, tt))
        (λ many. file_gives g before r taken change after i u v has.used file_was type kept added (all_laid_in change.deltas more)
        (λ claim name mine unclaimed part place under. absurd (both_ways (is_claimed r claim.block) unclaimed (claims_its_block r claim (claimed_in r i u claim has.used (back claim mine))))))
