-- A file with another size, by the record that was put.
use Rattle.std.proofs.Common.{◌≡◌, ◌<◌, ◌≤◌, inl, inr, ℕ, ◌+◌, ◌-◌, ◌*◌, ◌^◌, eqb, Bool, true, false, if◌then◌else◌, List, [], ◌∷◌, ◌++◌, length, take, set, replicate, slice_index, Option, Some, None, refl, sym, ap, subst, ◌∙◌, arith}
use Rattle.std.specs.Prelude.{All, nat_le}
use Rattle.std.proofs.lemmas.Bool.{cases_lt, cases_Bool, eqb-true}
use Rattle.std.proofs.lemmas.List.{get_or-set_same}
use Rattle.lufs_base.specs.declared.geometry.Geometry.{Geometry}
use Rattle.volume_model.specs.declared.hand.Hand.{Hand}
use Rattle.volume_model.specs.declared.inode.Dinode.{Dinode}
use Rattle.volume_model.specs.Format.{Image, Blocks, block}
use Rattle.volume_model.specs.Sound.{UsedInode, used_inode, reading_of, is_claimed, size_in_blocks, FileNode, File, attributes_of}
use Rattle.change_laws.specs.Plans.{HoldMore, blocks_past}
use Rattle.change_laws.proofs.FilePlaces.{file_fits}
use Rattle.history_model.specs.FileBytes.{at_length, direct_size}
use Rattle.meta_store.specs.declared.change.Change.{Change}
use Rattle.meta_draft.specs.Drafted.{drafted_blocks}
use Rattle.draft_laws.specs.Drafts.{IsDraft, Draws, links_at}
use Rattle.draft_laws.proofs.FreedInode.{hands_alike}
use Rattle.draft_laws.proofs.FileSizes.{file_lengthened, file_shortened, file_cut}
use Rattle.draft_laws.proofs.FileCutPointer.{file_cut_by_pointer}
use Rattle.file_map.specs.Attached.{with_record}
use Rattle.file_map.specs.Cut.{with_size, sized, sized_to_direct, with_numbers_cleared, PutsCut}
use Rattle.file_map.proofs.OpenedFiles.{IsOpened}
use Rattle.file_map.proofs.AttachedNodes.{drawn_as}
use Rattle.file_map.proofs.AttachedBlocks.{change_as}
use Rattle.file_map.proofs.CutLists.{none_past}
use Rattle.file_map.proofs.CutRecords.{sized_dinode, direct_sized_dinode}
use Rattle.file_map.proofs.CutNodes.{count_of_file, with_holes, first_blocks, no_pointers_needed, pointers_low, pointers_high, sized_as}

module _ (g : Geometry) (base : Image) (taken : ℕ → Bool) (old : Change) (hands : List Hand) (i size : ℕ) (d : Dinode) (file : FileNode) (draft : IsDraft g base taken old hands)
    (opened : IsOpened g (drafted_blocks old base) hands i d file) (fits : size < 2 ^ 64) where
  abbrev blocks : Blocks
  blocks = drafted_blocks old base

  abbrev u : UsedInode
  u = used_inode blocks d

  attributes : attributes_of d ≡ file.attributes
  attributes = sym (ap (λ (f : FileNode). f.attributes) opened.is.same)

  count : length file.blocks ≡ size_in_blocks d.size
  count = count_of_file blocks u file opened.is.same

  -- a file is as long or longer, as far as blocks go
  module _ (more : size_in_blocks d.size ≤ size_in_blocks size) where
    pointers_stay : (if nat_le size direct_size then [] else file.pointers) ≡ file.pointers
    pointers_stay = elim (cases_lt 12 (size_in_blocks size)) [
      | inl high ↦ pointers_high size file.pointers high
      | inr low ↦ pointers_low size file.pointers low ∙ sym (no_pointers_needed g blocks i d file opened.fields opened.is.same (omega (arith, more, low)))
    ]

    pub lengthened : size ≤ 4096 * 1036 → Draws g base taken old (with_record g old i (sized d size 0)) i (Some (File (with_size file size))) (links_at g blocks i) hands
    lengthened few =
        let s = size_in_blocks size in
        let none : d.blocks - 0 ≡ d.blocks = omega arith in
        let longer : List (Option (List ℕ)) = file.blocks ++ replicate (s - size_in_blocks d.size) None in
        let holes : longer ≡ at_length s file.blocks = ap (λ (n : ℕ). file.blocks ++ replicate (s - n) None) (sym count) ∙ with_holes s file.blocks (omega (arith, more, count)) in
        drawn_as g base taken old (with_record g old i (sized d size 0)) i (record file { attributes = attributes_of d; size = size; blocks = longer }) (with_size file size)
        (Some d.links) (links_at g blocks i) hands
        (sized_as file size (attributes_of d) longer file.pointers attributes holes pointers_stay) opened.links
        (file_lengthened g base taken old hands i u (sized d size 0) file draft opened.has (sized_dinode g.version size 0 d opened.dinode fits) refl refl refl none more few)

  -- a file loses blocks
  module _ (after : List Hand) (lost : ℕ) (less : size_in_blocks size < size_in_blocks d.size) (all : lost ≡ length (blocks_past u (size_in_blocks size))) (enough : lost ≤ d.blocks)
      (held : HoldMore after hands [] (blocks_past u (size_in_blocks size))) (claimed : All (λ b. is_claimed (reading_of g (block base)) b ≡ true) (blocks_past u (size_in_blocks size))) where
    abbrev s : ℕ
    s = size_in_blocks size

    smaller : size ≤ d.size
    smaller = omega (arith, less)

    counted : (d.blocks - lost) + length (blocks_past u s) ≡ d.blocks
    counted = omega (arith, all, enough)

    first : take s file.blocks ≡ at_length s file.blocks
    first = first_blocks s file.blocks (omega (arith, less, count))

    pub cut_to_direct : s ≤ 12 → Draws g base taken old (with_record g old i (sized_to_direct d size lost s)) i (Some (File (with_size file size))) (links_at g blocks i) after
    cut_to_direct low =
        let e = sized_to_direct d size lost s in
        let zero : slice_index (set d.indirect 0 0) 0 ≡ 0 = get_or-set_same d.indirect 0 0 0 (omega (arith, opened.dinode.indirect_size)) in
        drawn_as g base taken old (with_record g old i e) i (record file { attributes = attributes_of d; size = size; blocks = take s file.blocks; pointers = [] }) (with_size file size)
        (Some d.links) (links_at g blocks i) after
        (sized_as file size (attributes_of d) (take s file.blocks) [] attributes first (pointers_low size file.pointers low)) opened.links
        (file_cut g base taken old hands i u e file draft opened.has (direct_sized_dinode g.version size lost s d opened.dinode fits low) refl after s smaller refl low refl zero counted held claimed)

    -- without a pointer block it loses holes alone
    pub cut_alone : 12 < s → eqb (slice_index d.indirect 0) 0 ≡ true → Draws g base taken old (with_record g old i (sized d size lost)) i (Some (File (with_size file size))) (links_at g blocks i) after
    cut_alone high none =
        let e = sized d size lost in
        let nothing : blocks_past u s ≡ [] = none_past g blocks i u s opened.has.used none opened.dinode.direct_size high in
        let same_count : d.blocks - lost ≡ d.blocks = omega (arith, all, ap (λ (l : List ℕ). length l) nothing) in
        let empty : HoldMore after hands [] [] = subst (λ (l : List ℕ). HoldMore after hands [] l) nothing held in
        let drawn = drawn_as g base taken old (with_record g old i e) i (record file { attributes = attributes_of d; size = size; blocks = take s file.blocks }) (with_size file size)
        (Some d.links) (links_at g blocks i) hands
        (sized_as file size (attributes_of d) (take s file.blocks) file.pointers attributes first (pointers_high size file.pointers high)) opened.links
        (file_shortened g base taken old hands i u e file draft opened.has (sized_dinode g.version size lost d opened.dinode fits) refl refl refl same_count smaller high (eqb-true (slice_index d.indirect 0) 0 none)) in
        record {
          draft = hands_alike g base taken (with_record g old i e) hands after (record { blocks = λ n. sym (empty.blocks n); inodes = λ n. sym (empty.inodes n) }) drawn.draft;
          tree = drawn.tree;
          own_links = drawn.own_links;
          others = drawn.others;
        }

    -- with one its numbers are cleared
    pub cut_by_pointer : 12 < s → eqb (slice_index d.indirect 0) 0 ≡ false
        → Draws g base taken old (with_numbers_cleared g old i d size lost (s - 12) (size_in_blocks d.size - s)) i (Some (File (with_size file size))) (links_at g blocks i) after
    cut_by_pointer high some =
        let e = sized d size lost in
        let j = s - 12 in
        let n = size_in_blocks d.size - s in
        let at : s ≡ 12 + j = omega (arith, high) in
        let most = file_fits g d opened.is.is opened.fields.size in
        let next = with_numbers_cleared g old i d size lost j n in
        drawn_as g base taken old next i (record file { attributes = attributes_of d; size = size; blocks = take (12 + j) file.blocks }) (with_size file size)
        (Some d.links) (links_at g blocks i) after
        (sized_as file size (attributes_of d) (take (12 + j) file.blocks) file.pointers attributes (ap (λ (m : ℕ). take m file.blocks) (sym at) ∙ first) (pointers_high size file.pointers high)) opened.links
        (file_cut_by_pointer g base taken old hands after i j u e file draft opened.has (sized_dinode g.version size lost d opened.dinode fits) refl some smaller at (omega (arith, high)) refl refl
        n (omega (arith, less)) (omega (arith, less, most, high)) (omega (arith, less, high)) (subst (λ (m : ℕ). (d.blocks - lost) + length (blocks_past u m) ≡ d.blocks) at counted)
        (subst (λ (m : ℕ). HoldMore after hands [] (blocks_past u m)) at held) (subst (λ (m : ℕ). All (λ b. is_claimed (reading_of g (block base)) b ≡ true) (blocks_past u m)) at claimed))

    pub cut_drawn : (new : Change) → PutsCut g old new i d size lost s (size_in_blocks d.size) → Draws g base taken old new i (Some (File (with_size file size))) (links_at g blocks i) after
    cut_drawn new puts = elim (cases_lt 12 s) [
      | inr low ↦ change_as g base taken old (with_record g old i (sized_to_direct d size lost s)) new i (with_size file size) (links_at g blocks i) after (puts.direct low) (cut_to_direct low)
      | inl high ↦ elim (cases_Bool (eqb (slice_index d.indirect 0) 0)) [
        | inl none ↦ change_as g base taken old (with_record g old i (sized d size lost)) new i (with_size file size) (links_at g blocks i) after (puts.alone high none) (cut_alone high none)
        | inr some ↦
            change_as g base taken old (with_numbers_cleared g old i d size lost (s - 12) (size_in_blocks d.size - s)) new i (with_size file size) (links_at g blocks i) after
            (puts.by_pointer high some) (cut_by_pointer high some)
      ]
    ]
