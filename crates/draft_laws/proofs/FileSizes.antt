-- A file gets another size by its record: it is longer, or it is cut where the record alone says so.
use Rattle.std.proofs.Common.{◌≡◌, ◌<◌, ◌≤◌, ◌⊎◌, inl, inr, ℕ, ◌+◌, ◌-◌, ◌*◌, ◌/◌, eqb, Bool, true, false, not, cond, List, [], ◌++◌, length, map, take, drop, replicate, slice_index, Some, None, refl, sym, ap, ◌∙◌, subst, arith, length-take}
use Rattle.std.specs.Prelude.{nat_le}
use Rattle.std.specs.List.{All, Contains, filter}
use Rattle.std.proofs.lemmas.Bool.{cases_lt, cond-true, both_ways, eq-eqb, le-leb, true≢false, not_from_false}
use Rattle.std.proofs.lemmas.List.{append-nil, append_assoc, length-replicate, get_or-take, get_or-drop, get_or-replicate, get_or_past, get_or_append_left, get_or-append_right, take-append-le}
use Rattle.std.proofs.lemmas.List.Elements.{All-contains, Contains-append_left, Contains-append_right, Contains-get_or}
use Rattle.lufs_base.specs.declared.geometry.Geometry.{Geometry}
use Rattle.lufs_base.specs.declared.delta.Delta.{Delta}
use Rattle.volume_model.specs.declared.hand.Hand.{Hand}
use Rattle.volume_model.specs.declared.inode.Dinode.{Dinode}
use Rattle.volume_model.specs.Format.{Image, Blocks, block, inodes_of, is_file, IsDinode, dinode_bytes, pointers_of}
use Rattle.volume_model.specs.Sound.{Single, UsedInode, InUse, Reading, reading_of, inodes_in, used_inode, numbers_of, pointers_at, NamedPointer, AtIndex, Claim, index_claim, index_claims, pointer_claim, claims_in, is_claimed, IsLaid, size_in_blocks, most_blocks, FileNode, Node, File, attributes_of}
use Rattle.volume_laws.proofs.Members.{Contains_filter, Contains_map}
use Rattle.volume_laws.proofs.ClaimFacts.{length-inodes, used_within, claimed_in, claims_its_block}
use Rattle.volume_laws.proofs.StoredClaims.{stored_is_laid}
use Rattle.volume_laws.proofs.BodyChanges.{has_record}
use Rattle.volume_laws.proofs.TreeClaims.{direct_size}
use Rattle.volume_laws.proofs.NumberChange.{numbers_of_used}
use Rattle.volume_laws.proofs.NodeFacts.{file_by_node}
use Rattle.change_laws.specs.Plans.{HasInode, ChangesInode, WritesRecord, HoldMore, blocks_past}
use Rattle.change_laws.proofs.NumberReads.{same_pointers, same_numbers}
use Rattle.meta_store.specs.declared.change.Change.{Change}
use Rattle.meta_store.specs.Merged.{merged}
use Rattle.meta_store.proofs.MergedTable.{IsLoggable}
use Rattle.meta_store.specs.Deltas.{inode_delta}
use Rattle.meta_draft.specs.Drafted.{drafted_blocks, with_delta}
use Rattle.draft_laws.specs.Laying.{with_laid}
use Rattle.draft_laws.specs.Drafts.{IsDraft, Draws}
use Rattle.draft_laws.proofs.Continues.{IsLost}
use Rattle.draft_laws.proofs.OneInodeStep.{MayComeAs}
use Rattle.draft_laws.proofs.ClaimLists.{index_in, each_claim}
use Rattle.draft_laws.proofs.Contents.{drafted_sized}
use Rattle.draft_laws.proofs.RecordDeltas.{inode_loggable, inode_suited}
use Rattle.draft_laws.proofs.InodeDrawn.{drawn_by_one}
use Rattle.draft_laws.proofs.Written.{writes_it}
use Rattle.draft_laws.proofs.NewSteps.{held_by}
use Rattle.draft_laws.proofs.FreedInode.{once_there}
use Rattle.draft_laws.proofs.FirstPointerGrowth.{only_one}
use Rattle.draft_laws.proofs.FileParts.{file_keeps, file_news, file_gives}
use Rattle.change_laws.proofs.FileSteps.{lengthened}
use Rattle.change_laws.proofs.CutSteps.{cut_in_record, shortened}

-- zeros after zeros
pub zero_in_zeros : (m n k : ℕ) → slice_index (replicate m 0 ++ (replicate n 0 ++ [])) k ≡ 0
zero_in_zeros m n k = elim (cases_lt k m) [
  | inl first ↦ get_or_append_left (replicate m 0) (replicate n 0 ++ []) 0 k (omega (arith, first, length-replicate {A = ℕ} m 0)) ∙ get_or-replicate m k 0 0 first
  | inr past ↦
      get_or-append_right (replicate m 0) (replicate n 0 ++ []) m k 0 (length-replicate {A = ℕ} m 0) past
      ∙ ap (λ (l : List ℕ). slice_index l (k - m)) (append-nil (replicate n 0))
      ∙ elim (cases_lt (k - m) n) [
        | inl inside ↦ get_or-replicate n (k - m) 0 0 inside
        | inr outside ↦ get_or_past (replicate n 0) (k - m) 0 (omega (arith, outside, length-replicate {A = ℕ} n 0))
      ]
]

-- what is past an index is among the blocks past it
pub number_past : (u : UsedInode) (s index : ℕ) → s ≤ index → eqb (slice_index u.numbers index) 0 ≡ false → Contains (blocks_past u s) (slice_index u.numbers index)
number_past u s index past some =
    let b = slice_index u.numbers index in
    let first : List ℕ = cond (nat_le s 12) (map (λ (p : NamedPointer). p.block) u.pointers) [] in
    let at : s + (index - s) ≡ index = omega (arith, past) in
    let is : slice_index (drop s u.numbers) (index - s) ≡ b = get_or-drop s u.numbers (index - s) 0 ∙ ap (slice_index u.numbers) at in
    let there : Contains (drop s u.numbers) b = elim (cases_lt (index - s) (length (drop s u.numbers))) [
      | inl inside ↦ subst (λ (n : ℕ). Contains (drop s u.numbers) n) is (Contains-get_or (drop s u.numbers) (index - s) 0 inside)
      | inr outside ↦ absurd (true≢false (sym (eq-eqb b 0 (sym is ∙ get_or_past (drop s u.numbers) (index - s) 0 outside)) ∙ some))
    ] in
    Contains_filter (λ n. not (eqb n 0)) (first ++ drop s u.numbers) b (Contains-append_right first (drop s u.numbers) b there) (not_from_false (eqb b 0) some)

pub pointer_past : (u : UsedInode) (s : ℕ) → s ≤ 12 → (p : NamedPointer) → Contains u.pointers p → eqb p.block 0 ≡ false → Contains (blocks_past u s) p.block
pointer_past u s low p here some =
    let pointers : List ℕ = map (λ (q : NamedPointer). q.block) u.pointers in
    let all : cond (nat_le s 12) pointers [] ≡ pointers = cond-true (nat_le s 12) pointers [] (le-leb s 12 low) in
    let there : Contains (cond (nat_le s 12) pointers []) p.block = subst (λ (l : List ℕ). Contains l p.block) (sym all) (Contains_map (λ (q : NamedPointer). q.block) u.pointers p here) in
    Contains_filter (λ n. not (eqb n 0)) (cond (nat_le s 12) pointers [] ++ drop s u.numbers) p.block
    (Contains-append_left (cond (nat_le s 12) pointers []) (drop s u.numbers) p.block there) (not_from_false (eqb p.block 0) some)

module _ (g : Geometry) (base : Image) (taken : ℕ → Bool) (change : Change) (hands : List Hand) (i : ℕ) (u : UsedInode) (d : Dinode) (file : FileNode)
    (draft : IsDraft g base taken change hands) (has : HasInode g (drafted_blocks change base) hands i u (File file)) (is : IsDinode g.version d) (type : d.mode / 512 ≡ u.inode.mode / 512) where
  abbrev blocks : Blocks
  blocks = drafted_blocks change base

  abbrev r : Reading
  r = reading_of g blocks

  abbrev before : Reading
  before = reading_of g (block base)

  abbrev its_record : Delta
  its_record = inode_delta g i (dinode_bytes (Some d))

  abbrev others : Blocks
  others = with_laid blocks its_record

  abbrev v : UsedInode
  v = used_inode others d

  r_laid : IsLaid g r
  r_laid = stored_is_laid g r hands has.stored

  file_was : is_file u.inode.mode ≡ true
  file_was = file_by_node g blocks i u file has.used has.stands

  inside : i < inodes_in r
  inside = used_within r i u has.used

  within : i < inodes_of g
  within = omega (arith, inside, length-inodes g blocks)

  record_own : IsLoggable g its_record
  record_own = inode_loggable g i (Some d) draft.geometry within is

  writes : WritesRecord g blocks others i (Some d)
  writes = writes_it g blocks i (Some d) draft.geometry within is (drafted_sized g base change draft.room draft.recorded.raw)

  -- by the delta of the record alone
  by_record : (after : List Hand) (node : Node) → ChangesInode g blocks others i (InUse v) (Some node) after
      → ((claim : Claim) → Contains (claims_in i u) claim → Contains (claims_in i v) claim ⊎ IsLost before after claim)
      → ((claim : Claim) → Contains (claims_in i v) claim → Contains (claims_in i u) claim)
      → Draws g base taken change (with_delta change its_record) i (Some node) (Some d.links) after
  by_record after node changes kept back =
      let added : (claim : Claim) → Contains (claims_in i v) claim → Contains (claims_in i u) claim ⊎ MayComeAs before taken change.raw v claim = λ claim mine. inl (back claim mine) in
      drawn_by_one g base taken change hands after others i (InUse v) (Some node) draft inside changes
      (file_keeps g before r taken change after i u v has.used file_was type kept added)
      (file_news g before r taken change after i u v has.used file_was type kept added)
      its_record refl record_own refl (inode_suited g i (Some d) draft.geometry within is (reading_of g others))
      (file_gives g before r taken change after i u v has.used file_was type kept added (merged change.deltas its_record)
      (λ claim name mine free part place low. absurd (both_ways (is_claimed r claim.block) free (claims_its_block r claim (claimed_in r i u claim has.used (back claim mine))))))

  -- where the numbers stay
  module _ (direct : d.direct ≡ u.inode.direct) (indirect : d.indirect ≡ u.inode.indirect) (count : d.blocks ≡ u.inode.blocks) where
    claims : claims_in i v ≡ claims_in i u
    claims =
        let numbers = same_numbers g blocks others has.geometry r_laid i u d has.used writes direct indirect in
        let pointers = same_pointers g blocks others has.geometry r_laid i u d has.used writes indirect in
        λ t. filter (λ claim. not (eqb claim.block 0)) (map (pointer_claim i) (pointers t) ++ index_claims i 0 (numbers t))

    with_same : (node : Node) → ChangesInode g blocks others i (InUse v) (Some node) hands → Draws g base taken change (with_delta change its_record) i (Some node) (Some d.links) hands
    with_same node changes =
        by_record hands node changes (λ claim mine. inl (subst (λ (l : List Claim). Contains l claim) (sym claims) mine)) (λ claim mine. subst (λ (l : List Claim). Contains l claim) claims mine)

    pub file_lengthened : size_in_blocks u.inode.size ≤ size_in_blocks d.size → d.size ≤ 4096 * most_blocks g
        → Draws g base taken change (with_delta change its_record) i (Some (File (record file {
          attributes = attributes_of d;
          size = d.size;
          blocks = file.blocks ++ replicate (size_in_blocks d.size - size_in_blocks u.inode.size) None;
        }))) (Some d.links) hands
    file_lengthened more few =
        with_same (File (record file { attributes = attributes_of d; size = d.size; blocks = file.blocks ++ replicate (size_in_blocks d.size - size_in_blocks u.inode.size) None }))
        (lengthened g blocks others i u d file hands has writes type direct indirect count more few)

    pub file_shortened : d.size ≤ u.inode.size → 12 < size_in_blocks d.size → slice_index u.inode.indirect 0 ≡ 0
        → Draws g base taken change (with_delta change its_record) i
        (Some (File (record file { attributes = attributes_of d; size = d.size; blocks = take (size_in_blocks d.size) file.blocks }))) (Some d.links) hands
    file_shortened smaller high none =
        with_same (File (record file { attributes = attributes_of d; size = d.size; blocks = take (size_in_blocks d.size) file.blocks }))
        (shortened g blocks others i u d file hands has writes type smaller high none direct indirect count)

  -- cut to the direct blocks
  module _ (after : List Hand) (s : ℕ) (smaller : d.size ≤ u.inode.size) (size : size_in_blocks d.size ≡ s) (low : s ≤ 12) (direct : d.direct ≡ take s u.inode.direct ++ replicate (12 - s) 0)
      (indirect : slice_index d.indirect 0 ≡ 0) (count : d.blocks + length (blocks_past u s) ≡ u.inode.blocks) (held : HoldMore after hands [] (blocks_past u s))
      (old : All (λ b. is_claimed before b ≡ true) (blocks_past u s)) where
    -- a block that is cut off is loose
    lost : (claim : Claim) → Contains (blocks_past u s) claim.block → IsLost before after claim
    lost claim here =
        (All-contains (λ b. is_claimed before b ≡ true) (blocks_past u s) claim.block old here, held_by after hands [] (blocks_past u s) claim.block held (once_there claim.block (blocks_past u s) here))

    front : numbers_of others d ≡ take s u.numbers ++ (replicate (12 - s) 0 ++ (replicate 1024 0 ++ []))
    front =
        let found = has_record g blocks i u has.used in
        let e = found.dinode in
        let twelve : length e.direct ≡ 12 = direct_size g.version _ e found.there in
        let none : eqb (slice_index d.indirect 0) 0 ≡ true = eq-eqb (slice_index d.indirect 0) 0 indirect in
        let empty : pointers_at others (slice_index d.indirect 0) ≡ replicate 1024 0 =
        cond-true (eqb (slice_index d.indirect 0) 0) (replicate 1024 0) (pointers_of (others (slice_index d.indirect 0))) none in
        let rest : List ℕ = replicate (12 - s) 0 ++ (replicate 1024 0 ++ []) in
        subst (λ (w : UsedInode). d.direct ≡ take s w.inode.direct ++ replicate (12 - s) 0 → numbers_of others d ≡ take s w.numbers ++ rest) found.leads (λ first.
        (λ t. first t ++ (empty t ++ [])) ∙ append_assoc (take s e.direct) (replicate (12 - s) 0) (replicate 1024 0 ++ [])
        ∙ ap (λ (l : List ℕ). l ++ rest) (sym (take-append-le s e.direct (pointers_at blocks (slice_index e.indirect 0) ++ []) (omega (arith, twelve, low))))) direct

    long : s ≤ length u.numbers
    long = omega (arith, low, numbers_of_used g blocks i u has.used)

    number_kept : (index : ℕ) → index < s → slice_index v.numbers index ≡ slice_index u.numbers index
    number_kept index less =
        ap (λ (l : List ℕ). slice_index l index) front
        ∙ get_or_append_left (take s u.numbers) (replicate (12 - s) 0 ++ (replicate 1024 0 ++ [])) 0 index (omega (arith, less, long, length-take s u.numbers)) ∙ get_or-take s u.numbers index 0 less

    number_gone : (index : ℕ) → s ≤ index → slice_index v.numbers index ≡ 0
    number_gone index past =
        let size_front : length (take s u.numbers) ≡ s = omega (arith, long, length-take s u.numbers) in
        ap (λ (l : List ℕ). slice_index l index) front
        ∙ get_or-append_right (take s u.numbers) (replicate (12 - s) 0 ++ (replicate 1024 0 ++ [])) s index 0 size_front past
        ∙ zero_in_zeros (12 - s) 1024 (index - s)

    kept : (claim : Claim) → Contains (claims_in i u) claim → Contains (claims_in i v) claim ⊎ IsLost before after claim
    kept =
        each_claim (λ claim. Contains (claims_in i v) claim ⊎ IsLost before after claim) i u
        (λ p here some. inr (lost (pointer_claim i p) (pointer_past u s low p here some)))
        (λ index some. elim (cases_lt index s) [
          | inl less ↦
              let same = number_kept index less in
              inl (subst (λ (m : ℕ). Contains (claims_in i v) (record { block = m; inode = i; part = AtIndex index })) same (index_in i v index (ap (λ (m : ℕ). eqb m 0) same ∙ some)))
          | inr past ↦ inr (lost (index_claim i u index) (number_past u s index past some))
        ])

    back : (claim : Claim) → Contains (claims_in i v) claim → Contains (claims_in i u) claim
    back =
        each_claim (λ claim. Contains (claims_in i u) claim) i v
        (λ p here some.
        let same : p ≡ record { name = Single; block = slice_index d.indirect 0 } = only_one p (record { name = Single; block = slice_index d.indirect 0 }) here in
        absurd (true≢false (sym (eq-eqb (slice_index d.indirect 0) 0 indirect) ∙ sym (ap (λ (q : NamedPointer). eqb q.block 0) same) ∙ some)))
        (λ index some. elim (cases_lt index s) [
          | inl less ↦
              let same = number_kept index less in
              subst (λ (m : ℕ). Contains (claims_in i u) (record { block = m; inode = i; part = AtIndex index })) (sym same) (index_in i u index (sym (ap (λ (m : ℕ). eqb m 0) same) ∙ some))
          | inr past ↦ absurd (true≢false (sym (eq-eqb (slice_index v.numbers index) 0 (number_gone index past)) ∙ some))
        ])

    pub file_cut : Draws g base taken change (with_delta change its_record) i
        (Some (File (record file { attributes = attributes_of d; size = d.size; blocks = take s file.blocks; pointers = [] }))) (Some d.links) after
    file_cut =
        by_record after (File (record file { attributes = attributes_of d; size = d.size; blocks = take s file.blocks; pointers = [] }))
        (cut_in_record g blocks others i s u d file hands after has writes type smaller size low direct indirect count held) kept back
