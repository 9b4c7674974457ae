-- What a draft's tree is after a name was entered in a directory.
use Rattle.std.proofs.Common.{◌≡◌, ◌≢◌, ◌<◌, ◌≤◌, inl, inr, ℕ, ◌+◌, ◌-◌, ◌*◌, ◌/◌, ◌%◌, ◌^◌, eqb, Bool, true, false, not, if◌then◌else◌, List, [], ◌∷◌, ◌++◌, map, length, set, replicate, slice_index, unwrap_or, Option, Some, None, refl, sym, ap, subst, ◌∙◌, arith}
use Rattle.std.specs.Prelude.{slice_set, is_some, nat_le, ◌&&◌}
use Rattle.std.specs.List.{All, list_any, range_with_len}
use Rattle.std.specs.Option.{option_map, option_map_or}
use Rattle.std.proofs.lemmas.Bool.{cases_eq, cases_lt, cases_Bool, cond-true, eq-eqb, le-leb, true≢false, false≢true, both_ways}
use Rattle.std.proofs.lemmas.List.Elements.{All-head, All-tail}
use Rattle.std.proofs.lemmas.List.{get_or-append-add, get_or-set_same}
use Rattle.lufs_base.specs.declared.delta.Delta.{Delta}
use Rattle.lufs_base.specs.declared.geometry.Geometry.{Geometry}
use Rattle.volume_model.specs.declared.hand.Hand.{Hand}
use Rattle.volume_model.specs.declared.inode.Dinode.{Dinode}
use Rattle.volume_model.specs.declared.directory.Slot.{Slot}
use Rattle.volume_model.specs.Format.{Blocks, Image, inodes_of, is_body, IsDinode, IsChunk, room_in, with_name, one_slot, dinode_bytes, chunk_bytes, numbers_bytes, pointers_of}
use Rattle.volume_model.specs.Sound.{UsedInode, reading_of, used_at, used_inode, numbers_of, pointers_at, Attributes, Node, Directory, Tree, with_node, attributes_of, directory_blocks, held_blocks, tree_of}
use Rattle.volume_laws.proofs.SameReading.{not_file}
use Rattle.volume_laws.proofs.FieldFacts.{fields_of_numbers}
use Rattle.volume_laws.proofs.StoredClaims.{right_numbers}
use Rattle.history_model.specs.Edits.{Enter, edited, entered_in, on_chunks, on_node}
use Rattle.history_model.specs.Places.{chunks_of_node, chunks_in}
use Rattle.history_model.specs.Refusals.{cannot_grow}
use Rattle.history_model.specs.Wants.{has_no_room, blocks_for_name}
use Rattle.change_laws.specs.Hands.{times, HoldTheSame}
use Rattle.change_laws.specs.Plans.{HasInode, GrowsByChunk, HoldMore}
use Rattle.change_laws.proofs.Counts.{times-cons}
use Rattle.change_laws.proofs.ChunkSteps.{number_there}
use Rattle.meta_store.specs.declared.change.Change.{Change}
use Rattle.meta_store.specs.Deltas.{inode_delta, chunk_delta, zero_delta, pointers_delta}
use Rattle.meta_draft.specs.Drafted.{drafted_blocks, with_delta}
use Rattle.draft_laws.specs.Drafts.{IsDraft, Draws, MayAttach}
use Rattle.draft_laws.proofs.Continues.{held_free}
use Rattle.draft_laws.proofs.NewSteps.{held_by, once_first}
use Rattle.draft_laws.proofs.PointerRows.{block_fits}
use Rattle.draft_laws.proofs.FreedInode.{hands_alike}
use Rattle.draft_laws.proofs.GrowthDrawn.{chunk_added, block_added}
use Rattle.draft_laws.proofs.PointerGrowth.{block_added_by_pointer}
use Rattle.draft_laws.proofs.FirstPointerGrowth.{pointer_added}
use Rattle.dir_reads.specs.Chunks.{slots_of_chunk, chunks_of}
use Rattle.dir_reads.specs.Directories.{HasDirectory, IsFirstAt, serves}
use Rattle.dir_ops.specs.Slots.{PutsName, chunk_of_directory}
use Rattle.dir_ops.specs.Edits.{DrawsTree, MayEnter}
use Rattle.dir_ops.specs.Growth.{with_inode, with_room, with_direct, with_pointer, with_chunk_added, with_block_added, with_pointer_added, with_block_by_pointer, Grows}
use Rattle.dir_reads.specs.declared.directory.Directory.{Directory as Opened_directory}
use Rattle.dir_reads.specs.declared.directory.Found.{Found}
use Rattle.dir_reads.specs.declared.directory.Wanted.TheVariants.{Roomy}
use Rattle.dir_ops.proofs.ChangedSlots.{one_more, one_entered}
use Rattle.dir_ops.proofs.EditedTrees.{has_inode, node_opened, count_opened, drawn_tree, on_node_some, chunk_edited}
use Rattle.dir_ops.proofs.GrownRecords.{few_blocks, room_dinode, direct_dinode, pointer_dinode}
use Rattle.dir_ops.proofs.WantedBlocks.{any_there, any_nowhere, none_wanted, one_wanted, two_wanted, one_by_pointer}

-- the hands that are left hold the same where no block goes
left_alike : (hands after : List Hand) → HoldMore hands after [] [] → HoldTheSame hands after
left_alike hands after held = record { blocks = held.blocks; inodes = held.inodes }

-- two blocks in the other order
other_order : (hands after : List Hand) (b p : ℕ) → HoldMore hands after [] (b ∷ p ∷ []) → HoldMore hands after [] (p ∷ b ∷ [])
other_order hands after b p held = record {
  inodes = held.inodes;
  blocks = λ n. (
      let rest = held_blocks after in
      omega (arith, held.blocks n, times-cons n b (p ∷ rest), times-cons n p rest, times-cons n p (b ∷ rest), times-cons n b rest)
      );
}

no_blocks : (fresh : List ℕ) → length fresh ≡ 0 → fresh ≡ []
no_blocks [] none = refl
no_blocks (b ∷ fresh) none = absurd (omega (arith, none))

one_block_of : (fresh : List ℕ) → length fresh ≡ 1 → (b : ℕ) × (fresh ≡ b ∷ [])
one_block_of [] one = absurd (omega (arith, one))
one_block_of (b ∷ []) one = (b, refl)
one_block_of (b ∷ (c ∷ fresh)) one = absurd (omega (arith, one))

two_blocks_of : (fresh : List ℕ) → length fresh ≡ 2 → (b : ℕ) × (p : ℕ) × (fresh ≡ b ∷ p ∷ [])
two_blocks_of [] two = absurd (omega (arith, two))
two_blocks_of (b ∷ []) two = absurd (omega (arith, two))
two_blocks_of (b ∷ (p ∷ [])) two = (b, p, refl)
two_blocks_of (b ∷ (p ∷ (c ∷ fresh))) two = absurd (omega (arith, two))

-- the first number after the direct ones of a record without a pointer block
no_number : (blocks : Blocks) (d : Dinode) → eqb (slice_index d.indirect 0) 0 ≡ true → length d.direct ≡ 12 → slice_index (numbers_of blocks d) 12 ≡ 0
no_number blocks d none size =
    let zeros : pointers_at blocks (slice_index d.indirect 0) ≡ replicate 1024 0 = cond-true (eqb (slice_index d.indirect 0) 0) (replicate 1024 0) (pointers_of (blocks (slice_index d.indirect 0))) none in
    ap (λ (l : List ℕ). slice_index (d.direct ++ (l ++ [])) 12) zeros ∙ past_front d.direct (replicate 1024 0 ++ []) 12 size
  where
    past_front : (xs ys : List ℕ) (k : ℕ) → length xs ≡ k → slice_index (xs ++ ys) k ≡ slice_index ys 0
    past_front xs ys k is = subst (λ (m : ℕ). slice_index (xs ++ ys) m ≡ slice_index ys 0) (let long : length xs + 0 ≡ k = omega (arith, is) in long) (get_or-append-add xs ys 0 0)

module _ (g : Geometry) (base : Image) (taken : ℕ → Bool) (old : Change) (hands after : List Hand) (i : ℕ) (directory : Opened_directory) (draft : IsDraft g base taken old hands) (within : i < inodes_of g)
    (has : HasDirectory g (drafted_blocks old base) i directory) (name fresh : List ℕ) (may : MayEnter g base taken old i name fresh hands after) where
  abbrev blocks : Blocks
  blocks = drafted_blocks old base

  abbrev tree : Tree
  tree = tree_of g blocks

  abbrev h : ℕ → List Slot
  h = slots_of_chunk blocks directory.opened.numbers.items

  abbrev n : ℕ
  n = directory.opened.count

  abbrev d : Dinode
  d = directory.dinode

  abbrev u : UsedInode
  u = used_inode blocks d

  abbrev fits : List Slot → Bool
  fits chunk = is_some (room_in chunk name)

  inode : HasInode g blocks hands i u (Directory (node_opened blocks directory))
  inode = has_inode g base taken old hands i directory draft within has

  its_chunks : chunks_in tree i ≡ map h (range_with_len 0 n)
  its_chunks = ap (λ (o : Option Node). option_map_or chunks_of_node o []) inode.stands

  its_count : length (chunks_in tree i) ≡ n
  its_count = ap (λ (l : List (List Slot)). length l) its_chunks ∙ count_opened blocks directory

  wanted_by : (lacks : Bool) → list_any fits (map h (range_with_len 0 n)) ≡ not lacks → has_no_room tree i name ≡ lacks
  wanted_by true any = ap (λ (l : List (List Slot)). not (list_any fits l)) its_chunks ∙ ap not any
  wanted_by false any = ap (λ (l : List (List Slot)). not (list_any fits l)) its_chunks ∙ ap not any

  -- no block is wanted where a chunk has room
  none_for : list_any fits (map h (range_with_len 0 n)) ≡ true → fresh ≡ []
  none_for any =
      let lacks = wanted_by false any in
      let chunks = length (chunks_in tree i) in
      no_blocks fresh (may.wanted ∙ ap (λ (b : Bool). if b then directory_blocks (chunks + 1) - directory_blocks chunks else 0) lacks)

  -- and else those of one chunk more
  some_for : list_any fits (map h (range_with_len 0 n)) ≡ false → length fresh ≡ directory_blocks (n + 1) - directory_blocks n
  some_for any =
      let lacks = wanted_by true any in
      let chunks = length (chunks_in tree i) in
      may.wanted ∙ ap (λ (b : Bool). if b then directory_blocks (chunks + 1) - directory_blocks chunks else 0) lacks
      ∙ ap (λ (m : ℕ). directory_blocks (m + 1) - directory_blocks m) its_count

  -- the same with the hands after, where no block goes
  with_after : (new : Change) (edit : Tree → Tree) → fresh ≡ [] → DrawsTree g base taken old new i edit hands → DrawsTree g base taken old new i edit after
  with_after new edit none draws = record {
    draft = hands_alike g base taken new hands after (left_alike hands after (subst (λ (l : List ℕ). HoldMore hands after [] l) none may.held)) draws.draft;
    tree = draws.tree;
    links = draws.links;
    others = draws.others;
  }

  -- a chunk had room
  pub name_edited : (new : Change) (found : Found) (ino : ℕ) → IsFirstAt (serves Roomy name) blocks directory.opened.numbers.items found → found.place < n → serves Roomy name found.chunk ≡ true
      → PutsName directory found name ino old new → DrawsTree g base taken old new i (edited (Enter i name ino)) after
  unfolding edited
  name_edited new found ino first below serving puts =
      let none : 0 + found.place ≡ found.place = omega arith in
      let here : h (0 + found.place) ≡ found.chunk = ap h none ∙ ap (λ (o : Option (List Slot)). unwrap_or o []) (sym first.chunk) in
      let room : fits (h (0 + found.place)) ≡ true = ap fits here ∙ serving in
      let entered = one_entered name ino h 0 n found.place below (λ k from low. first.before k (omega (arith, low))) room in
      with_after new (on_node i (on_chunks (λ chunks. entered_in chunks name ino))) (none_for (any_there fits h 0 n found.place below room))
      (chunk_edited g base taken old hands i directory draft within has new found.place (with_name found.chunk name ino) (λ chunks. entered_in chunks name ino) below puts.chunk puts.put
      (entered ∙ ap (λ (chunk : List Slot). slice_set (map h (range_with_len 0 n)) found.place (with_name chunk name ino)) here))

  -- no chunk has room
  module _ (new : Change) (ino : ℕ) (is : IsDinode g.version d) (chunk : IsChunk (one_slot name ino)) (nowhere : (k : ℕ) → k < n → serves Roomy name (h k) ≡ false)
      (grows : Grows g i directory (one_slot name ino) fresh old new) where
    abbrev node : Dinode → Option Node
    node e = Some (Directory (record { attributes = attributes_of e; chunks = chunks_of blocks directory.opened ++ one_slot name ino ∷ [] }))

    abbrev edit : Tree → Tree
    edit = on_node i (on_chunks (λ chunks. entered_in chunks name ino))

    any : list_any fits (map h (range_with_len 0 n)) ≡ false
    any = any_nowhere fits h 0 n (λ k from below. nowhere k (omega (arith, below)))

    less : n < 2048
    less = elim (cases_lt n 2048) [
      | inl below ↦ below
      | inr full ↦
          let both : cannot_grow tree i name ≡ true =
          ap (λ (m : ℕ). nat_le 2048 m && has_no_room tree i name) its_count ∙ ap (λ (b : Bool). b && has_no_room tree i name) (le-leb 2048 n full) ∙ wanted_by true any in
          absurd (true≢false (sym both ∙ may.grows))
    ]

    small : d.size < 2 ^ 32
    small = omega (arith, has.count, less)

    few : d.blocks ≤ 1037
    few = few_blocks g blocks hands i u inode.stored inode.used

    counted : length (chunks_of blocks directory.opened) ≡ n
    counted = count_opened blocks directory

    -- the node with that chunk after the others
    added_tree : (e : Dinode) (left : List Hand) → attributes_of e ≡ attributes_of d → e.links ≡ d.links → Draws g base taken old new i (node e) (Some e.links) left → DrawsTree g base taken old new i edit left
    added_tree e left same links draws =
        let all = one_more name ino h 0 n (λ k from below. nowhere k (omega (arith, below))) in
        drawn_tree g base taken old new i (node e) (Some e.links) left edit draws
        (ap (option_map (λ u. u.inode.links)) inode.used ∙ ap (λ (l : ℕ). Some l) (sym links))
        (on_node_some i (on_chunks (λ chunks. entered_in chunks name ino)) tree (Directory (node_opened blocks directory)) inode.stands
        ∙ ap (λ (chunks : List (List Slot)). with_node tree i (Some (Directory (record { attributes = attributes_of d; chunks = chunks })))) all
        ∙ ap (λ (a : Attributes). with_node tree i (Some (Directory (record { attributes = a; chunks = chunks_of blocks directory.opened ++ one_slot name ino ∷ [] })))) (sym same))

    -- in the last block
    in_last : n % 8 ≢ 0 → DrawsTree g base taken old new i edit after
    in_last part =
        let e = with_room 0 d in
        let same : d.blocks + 0 ≡ d.blocks = omega arith in
        let put : new ≡ with_chunk_added g i directory (one_slot name ino) old = grows.in_block less part in
        let draws = chunk_added g base taken old hands i u e (node_opened blocks directory) (one_slot name ino) draft inode (room_dinode g.version 0 d is small (omega (arith, few)))
        (record { type = refl; size = refl }) chunk refl refl same (λ whole. part (ap (λ (m : ℕ). m % 8) (sym counted) ∙ whole)) in
        let its : (m : ℕ) → m ≡ n → chunk_delta (slice_index u.numbers (m / 8)) (m % 8) (chunk_bytes (one_slot name ino)) ≡ chunk_of_directory directory n (one_slot name ino) = λ m is_n.
        ap (λ (m : ℕ). chunk_delta (slice_index u.numbers (m / 8)) (m % 8) (chunk_bytes (one_slot name ino))) is_n
        ∙ ap (λ (b : ℕ). chunk_delta b (n % 8) (chunk_bytes (one_slot name ino))) (sym (has.numbers (n / 8))) in
        let there : with_inode g i e (with_delta old (chunk_delta (slice_index u.numbers (length (chunks_of blocks directory.opened) / 8)) (length (chunks_of blocks directory.opened) % 8) (chunk_bytes (one_slot name ino)))) ≡ new =
        ap (λ (x : Delta). with_inode g i e (with_delta old x)) (its (length (chunks_of blocks directory.opened)) counted) ∙ sym put in
        with_after new edit (no_blocks fresh (some_for any ∙ none_wanted n part))
        (added_tree e hands refl refl (subst (λ (c : Change). Draws g base taken old c i (node e) (Some e.links) hands) there draws))

    -- a block of the hand
    its_block : (b : ℕ) → fresh ≡ b ∷ [] → HoldMore hands after [] (b ∷ []) × MayAttach g base taken old b × (b < 2 ^ 32)
    its_block b alone =
        let held = subst (λ (l : List ℕ). HoldMore hands after [] l) alone may.held in
        let attach = All-head (MayAttach g base taken old) b [] (subst (λ (l : List ℕ). All (MayAttach g base taken old) l) alone may.attach) in
        let free = held_free g (reading_of g blocks) hands inode.stored b (held_by hands after [] (b ∷ []) b held (once_first b [])) in
        (held, attach, block_fits g b draft.geometry free.0)

    -- in a new block with a direct number
    by_record : (k : ℕ) → n ≡ 8 * k → k < 12 → DrawsTree g base taken old new i edit after
    by_record k eight low =
        let alone = one_block_of fresh (some_for any ∙ one_wanted n k eight low) in
        let b = alone.0 in
        let given = its_block b alone.1 in
        let e = with_direct k b d in
        let room : d.blocks + 1 < 2 ^ 32 = omega (arith, few) in
        let put : new ≡ with_block_added g i directory k b (one_slot name ino) old = grows.by_record k eight low b alone.1 room in
        let draws = block_added g base taken old hands i u e (node_opened blocks directory) (one_slot name ino) draft inode (direct_dinode g.version k b d is small room low given.2)
        (record { type = refl; size = refl }) chunk k b after given.0 given.1 (counted ∙ eight) refl refl refl low in
        added_tree e after refl refl (subst (λ (c : Change). Draws g base taken old c i (node e) (Some e.links) after) (sym put) draws)

    -- in a new block, with a pointer block
    with_first : n ≡ 96 → DrawsTree g base taken old new i edit after
    with_first full =
        let both = two_blocks_of fresh (some_for any ∙ two_wanted n full) in
        let b = both.0 in
        let p = both.1 in
        let held = subst (λ (l : List ℕ). HoldMore hands after [] l) both.2 may.held in
        let attach = subst (λ (l : List ℕ). All (MayAttach g base taken old) l) both.2 may.attach in
        let may_b = All-head (MayAttach g base taken old) b (p ∷ []) attach in
        let may_p = All-head (MayAttach g base taken old) p [] (All-tail (MayAttach g base taken old) b (p ∷ []) attach) in
        let swapped = other_order hands after b p held in
        let free = held_free g (reading_of g blocks) hands inode.stored p (held_by hands after [] (p ∷ b ∷ []) p swapped (once_first p (b ∷ []))) in
        let e = with_pointer p d in
        let room : d.blocks + 2 < 2 ^ 32 = omega (arith, few) in
        let put : new ≡ with_pointer_added g i directory b p (one_slot name ino) old = grows.with_first full b p both.2 room in
        let draws = pointer_added g base taken old hands after i p b u e (node_opened blocks directory) (one_slot name ino) draft inode
        (pointer_dinode g.version p d is small room (block_fits g p draft.geometry free.0)) (record { type = refl; size = refl }) chunk swapped may_p may_b refl
        (get_or-set_same d.indirect 0 p 0 (omega (arith, is.indirect_size))) refl (counted ∙ full) in
        added_tree e after refl refl (subst (λ (c : Change). Draws g base taken old c i (node e) (Some e.links) after) (sym put) draws)

    -- a directory of so many chunks has a pointer block
    has_pointer : (j : ℕ) → n ≡ 8 * (12 + j) → 0 < j → eqb (slice_index d.indirect 0) 0 ≡ false
    has_pointer j eight some = elim (cases_Bool (eqb (slice_index d.indirect 0) 0)) [
      | inr pointer ↦ pointer
      | inl none ↦
          let right = fields_of_numbers g i u (right_numbers g (reading_of g blocks) i u hands inode.stored inode.used) in
          let there = number_there g i u right (not_file d.mode has.mode) 12 (omega (arith, has.count, eight, some)) in
          let past : slice_index u.numbers 12 ≡ 0 = no_number blocks d none is.direct_size in
          absurd (true≢false (sym (eq-eqb (slice_index u.numbers 12) 0 past) ∙ there))
    ]

    -- in a new block by the pointer block
    by_pointer : (j : ℕ) → n ≡ 8 * (12 + j) → 0 < j → DrawsTree g base taken old new i edit after
    by_pointer j eight some =
        let alone = one_block_of fresh (some_for any ∙ one_by_pointer n j eight some) in
        let b = alone.0 in
        let given = its_block b alone.1 in
        let e = with_room 1 d in
        let room : d.blocks + 1 < 2 ^ 32 = omega (arith, few) in
        let below : 12 + j < 256 = omega (arith, less, eight) in
        let pointer = has_pointer j eight some in
        let put : new ≡ with_block_by_pointer g i directory j b (one_slot name ino) old =
        grows.by_pointer j eight some below b alone.1 room (λ none. true≢false (sym (eq-eqb (slice_index d.indirect 0) 0 none) ∙ pointer)) in
        let draws = block_added_by_pointer g base taken old hands after i j b u e (node_opened blocks directory) (one_slot name ino) draft inode (room_dinode g.version 1 d is small room)
        (record { type = refl; size = refl }) chunk given.0 given.1 refl refl refl pointer below (counted ∙ eight) in
        added_tree e after refl refl (subst (λ (c : Change). Draws g base taken old c i (node e) (Some e.links) after) (sym put) draws)

    pub grown_edited : DrawsTree g base taken old new i (edited (Enter i name ino)) after
    unfolding edited
    grown_edited = elim (cases_eq (n % 8) 0) [
      | inl whole ↦ elim (cases_lt (n / 8) 12) [
        | inl low ↦ by_record (n / 8) (omega (arith, whole)) low
        | inr high ↦ elim (cases_eq (n / 8) 12) [
          | inl first ↦ with_first (omega (arith, whole, first))
          | inr other ↦ by_pointer (n / 8 - 12) (omega (arith, whole, high)) (omega (arith, high, other))
        ]
      ]
      | inr part ↦ in_last part
    ]
