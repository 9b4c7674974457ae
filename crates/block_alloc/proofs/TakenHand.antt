-- A store takes the change that marks a hand, and the hand is taken then.
use Rattle.std.proofs.Common.{◌≡◌, ◌≢◌, ◌<◌, ◌≤◌, inl, inr, ℕ, ◌-◌, ◌*◌, ◌%◌, Bool, true, false, not, ◌&&◌, List, [], ◌∷◌, take, Option, Some, None, IfSome, option_map, refl, sym, ap, ◌∙◌, subst, arith}
use Rattle.std.specs.Prelude.{All, is_some, ◌==◌, if◌then◌else◌, slice_get, slice_index_or}
use Rattle.std.specs.List.{list_any}
use Rattle.std.specs.Option.{option_flatten, option_map_or}
use Rattle.std.proofs.Math.Nat.{mod-lt}
use Rattle.std.proofs.lemmas.Bool.{or_cases, or_left, or_right, eq-eqb, eqb-true, and_parts, false≢true, both_ways}
use Rattle.std.proofs.lemmas.List.Elements.{All-nil, All-head, All-tail, All-weaker}
use Rattle.lufs_base.specs.Layout.{IsGeometry, group_start, blocks_of}
use Rattle.lufs_base.specs.declared.geometry.Geometry.{Geometry}
use Rattle.lufs_base.specs.declared.delta.Delta.{Delta}
use Rattle.volume_model.specs.declared.hand.Hand.{Hand}
use Rattle.volume_model.specs.Format.{Image, block, sectors_of, GroupRecord, bit_at, group_of, group_bytes, is_body}
use Rattle.volume_model.specs.Log.{AreLoggable, delta_bytes}
use Rattle.volume_model.specs.Sound.{Reading, reading_of, record_at, held_inodes, is_among, inode_bit, block_bit, IsStored, Tree, tree_of, StandsFor}
use Rattle.volume_laws.proofs.ClaimFacts.{length-inodes}
use Rattle.volume_laws.proofs.FreeBits.{record_in_volume}
use Rattle.volume_laws.proofs.GroupRecords.{group_back}
use Rattle.volume_laws.proofs.SoundParts.{in_parts}
use Rattle.change_laws.specs.Marks.{group_of_inode, group_of_block, place_of_block, IsFree, HasHandPut}
use Rattle.change_laws.proofs.ClaimPlaces.{stored_laid}
use Rattle.cyl_groups.specs.declared.group.Group.{Group}
use Rattle.cyl_groups.specs.Group.{record_of}
use Rattle.meta_store.specs.declared.change.Change.{Change}
use Rattle.meta_store.specs.Laid.{laid_over}
use Rattle.meta_store.specs.Changing.{AllTold}
use Rattle.meta_store.specs.Changes.{changed, deltas_on, HasContent, Applies, is_group_at}
use Rattle.meta_store.specs.Conditions.{MayFollow, MayApply, IsInBlock}
use Rattle.meta_store.proofs.MergedTable.{each_loggable}
use Rattle.block_alloc.specs.Records.{AreRecords, is_clear_block, may_give}
use Rattle.block_alloc.specs.Choosing.{IsChosen}
use Rattle.block_alloc.specs.Marks.{IsOfVolume, has_of_group, marking, MarksGroup, MarksRecord, AreMarkedTo, AreMarkings, IsMarking}
use Rattle.block_alloc.specs.Marking.{ChangesGroup, IsInTransaction, HasTaken}
use Rattle.block_alloc.proofs.Chosen.{among_self, record_kept}
use Rattle.block_alloc.proofs.HandPut.{inode_at_place, block_at_place}
use Rattle.block_alloc.proofs.MarkedContent.{laid_by_inodes}
use Rattle.block_alloc.proofs.MarkedReading.{marks_follow, block_in_group, inode_in_group}
use Rattle.block_alloc.proofs.MarkedStands.{chosen_of_volume, chosen_free, same_reading, same_tree, reading_is, stands_then}
use Rattle.block_alloc.proofs.HeldRecords.{all_merged_have}
use Rattle.block_alloc.proofs.Markings.{group_here}
use Rattle.block_alloc.proofs.RecordReplaced.{length-group_bytes}
use Rattle.block_alloc.proofs.GroupDeltas.{each_group, each_home, are_logged, none_cancelled, any_at, room_enough}

-- what a store that tells its content tells before a hand is taken: the records that were read, and a volume that stands for a tree
pub record IsReady (g : Geometry) (records : List (Option Group)) (image : Image) : Type 0 where
  pub whole : 8 * blocks_of g ≤ sectors_of image
  pub records_read : AreRecords (reading_of g (block image)) records
  pub stands : (tree : Tree) × (hands : List Hand) × StandsFor g (block image) tree hands

pub ready : (g : Geometry) (records : List (Option Group)) (content : Option Image) → IfSome content (λ image. 8 * blocks_of g ≤ sectors_of image)
    → IfSome content (λ image. AreRecords (reading_of g (block image)) records) → IfSome content (λ image. (tree : Tree) × (hands : List Hand) × StandsFor g (block image) tree hands)
    → IfSome content (IsReady g records)
ready g records None whole read stands = tt
ready g records (Some image) whole read stands = record { whole = whole; records_read = read; stands = stands }

module _ (g : Geometry) (records : List (Option Group)) (hand : Hand) (may : ℕ → Bool) (deltas : List Delta) (ok : IsGeometry g) (chosen : IsChosen g records may hand)
    (markings : AreMarkings g records hand g.groups deltas) where
  -- the content with the deltas laid over it
  module _ (image : Image) (is_ready : IsReady g records image) where
    abbrev after : Image
    after = laid_over (deltas_on deltas) image

    abbrev r : Reading
    r = reading_of g (block image)

    its_hands : List Hand
    its_hands = is_ready.stands.1

    stored : IsStored g r (is_ready.stands.1)
    stored = ((in_parts g (block image) is_ready.stands.1).0 is_ready.stands.2.sound).0

    all_marked : AreMarkedTo g (block image) (block after) hand g.groups
    all_marked = markings.laid image is_ready.stands.1 (let whole = is_ready.whole in omega (arith, whole)) is_ready.records_read stored

    free : IsFree g r hand
    free = chosen_free g (block image) records may hand is_ready.records_read chosen

    pub follows : (taken : ℕ → Bool) → MayFollow g (marking deltas hand.blocks) taken r (reading_of g (block after))
    follows taken =
        subst (λ (x : Reading). MayFollow g (marking deltas hand.blocks) taken r x) (sym (reading_is g (block image) (block after) hand ok all_marked free))
        (marks_follow g r (reading_of g (block after)).groups hand deltas taken ok (length-inodes g (block image)) (λ m below. all_marked.marked m below) free
        (each_home g records hand g.groups deltas ok markings))

    -- a content with the same blocks
    module _ (now : Image) (same : (b : ℕ) → b < blocks_of g → block now b ≡ block after b) where
      reading_now : reading_of g (block now) ≡ reading_of g (block after)
      reading_now = same_reading g (block after) (block now) ok (laid_by_inodes g r (reading_of g (block after)) all_marked.inodes (stored_laid g r is_ready.stands.1 stored)) same

      tree_now : tree_of g (block now) ≡ tree_of g (block after)
      tree_now = same_tree g (block after) (block now) ok (laid_by_inodes g r (reading_of g (block after)) all_marked.inodes (stored_laid g r is_ready.stands.1 stored)) same

      marked_now : AreMarkedTo g (block image) (block now) hand g.groups
      marked_now = record {
        inodes = ap (λ (x : Reading). x.inodes) reading_now ∙ all_marked.inodes;
        tree = tree_now ∙ all_marked.tree;
        marked = λ m below. subst (λ (x : Reading). MarksRecord g m hand (record_at r m) (record_at x m)) (sym reading_now) (all_marked.marked m below);
        left = λ m past. ap (λ (x : Reading). record_at x m) reading_now ∙ all_marked.left m past;
      }

      pub stands_now : (tree : Tree) (hands : List Hand) → StandsFor g (block image) tree hands → StandsFor g (block now) tree (hand ∷ hands)
      stands_now = stands_then g (block image) (block now) hand ok marked_now free

  follow_told : (content : Option Image) (taken : ℕ → Bool) → IfSome content (IsReady g records)
      → IfSome content (λ image. MayFollow g (marking deltas hand.blocks) taken (reading_of g (block image)) (reading_of g (block (changed (marking deltas hand.blocks) image))))
  follow_told None taken are = tt
  follow_told (Some image) taken are = follows image are taken

  stands_told : (content now : Option Image) → IfSome content (IsReady g records)
      → HasContent g (λ b. true) (λ image. block (laid_over (deltas_on deltas) image)) content now → (tree : Tree) (hands : List Hand)
      → IfSome content (λ image. IfSome now (λ new. StandsFor g (block image) tree hands → StandsFor g (block new) tree (hand ∷ hands)))
  stands_told None now are has tree hands = tt
  stands_told (Some image) None are has tree hands = tt
  stands_told (Some image) (Some new) are has tree hands = stands_now image are new (λ b below. has.blocks b below refl) tree hands

-- A store takes the change.
pub may_take : (told : AllTold) (records : List (Option Group)) (hand : Hand) (change : Change) → IsGeometry told.read.geometry → IsChosen told.read.geometry records told.changing.is_released hand
    → IsMarking told.read.geometry records hand change → IfSome told.changing.room (λ room. 432 * told.read.geometry.groups ≤ room) → IfSome told.read.content (IsReady told.read.geometry records)
    → MayApply change told
may_take told records hand change ok chosen marks room content =
    let g = told.read.geometry in
    let may = told.changing.is_released in
    let deltas : List Delta = change.deltas in
    subst (λ (c : Change). MayApply c told) (sym marks.is) (record {
      taken = All-weaker (λ b. may_give g records may b ≡ true) (λ b. may b ≡ true) (λ b given. (and_parts (is_body g b && is_clear_block g records b) (may b) given).1) hand.blocks chosen.given;
      deltas = are_logged g records hand g.groups deltas ok marks.deltas;
      cancels = λ b. none_cancelled g deltas b (each_group g records hand g.groups deltas ok marks.deltas);
      raw = All-nil (IsInBlock g);
      room = room_enough told.changing.room (delta_bytes deltas) (432 * g.groups) marks.deltas.few room;
      content = follow_told g records hand may deltas ok chosen marks.deltas told.read.content _ content;
    })

-- one that passes, with what holds of it
pick : (q : ℕ → Bool) (P : ℕ → Type 0) (xs : List ℕ) → list_any q xs ≡ true → All P xs → (x : ℕ) × (q x ≡ true) × P x × (is_among x xs ≡ true)
pick q P [] there each = absurd (false≢true there)
pick q P (x ∷ xs) there each = elim (or_cases (q x) (list_any q xs) there) [
  | inl here ↦ (x, here, All-head P x xs each, or_left (x == x) (is_among x xs) (eq-eqb x x refl))
  | inr behind ↦
      let next = pick q P xs behind (All-tail P x xs each) in
      (next.0, next.1, next.2, or_right (x == next.0) (is_among next.0 xs) next.3)
]

-- a record in which a bit of the hand is set differs from the one before
module _ (g : Geometry) (r : Reading) (n : ℕ) (hand : Hand) (old new : GroupRecord) (ok : IsGeometry g) (free : IsFree g r hand) (was : record_at r n ≡ Some old)
    (put : HasHandPut g n true hand old new) where
  abbrev mine : List ℕ
  mine = held_inodes (hand ∷ [])

  inode_differs : list_any (λ i. group_of_inode g i == n) mine ≡ true → old ≡ new → ⊥
  inode_differs some same =
      let one = pick (λ i. group_of_inode g i == n) (λ i. inode_bit g r i ≡ false) mine some free.inode_clear in
      let i = one.0 in
      let place = i % g.ipg in
      let group : group_of_inode g i ≡ n = eqb-true (group_of_inode g i) n one.1 in
      let set : bit_at new.inode_bits place ≡ true =
      put.inode_bits place (mod-lt i (omega (arith, ok.ipg_low)))
      ∙ ap (λ (k : ℕ). if is_among k mine then true else bit_at old.inode_bits place) (inode_at_place g i n group)
      ∙ ap (λ (t : Bool). if t then true else bit_at old.inode_bits place) one.3 in
      let bit : Option GroupRecord → Bool = λ o. option_map_or (λ x. bit_at x.inode_bits place) o false in
      let clear : bit_at old.inode_bits place ≡ false = sym (ap (λ (m : ℕ). bit (record_at r m)) group ∙ ap bit was) ∙ one.2 in
      both_ways (bit_at old.inode_bits place) clear (ap (λ (x : GroupRecord). bit_at x.inode_bits place) same ∙ set)

  block_differs : list_any (λ b. group_of_block g b == n) hand.blocks ≡ true → old ≡ new → ⊥
  block_differs some same =
      let each : All (λ b. (is_body g b ≡ true) × (block_bit g r b ≡ false)) hand.blocks = λ k d inside. (free.body k d inside, free.blocks_clear k d inside) in
      let one = pick (λ b. group_of_block g b == n) (λ b. (is_body g b ≡ true) × (block_bit g r b ≡ false)) hand.blocks some each in
      let b = one.0 in
      let place = place_of_block g b in
      let group : group_of_block g b ≡ n = eqb-true (group_of_block g b) n one.1 in
      let set : bit_at new.block_bits place ≡ true =
      put.block_bits place (mod-lt (b - group_start g 0) (omega (arith, ok.bpg_low)))
      ∙ ap (λ (k : ℕ). if is_among k hand.blocks then true else bit_at old.block_bits place) (block_at_place g b n ok one.2.0 group)
      ∙ ap (λ (t : Bool). if t then true else bit_at old.block_bits place) one.3 in
      let bit : Option GroupRecord → Bool = λ o. option_map_or (λ x. bit_at x.block_bits place) o false in
      let clear : bit_at old.block_bits place ≡ false = sym (ap (λ (m : ℕ). bit (record_at r m)) group ∙ ap bit was) ∙ one.2.1 in
      both_ways (bit_at old.block_bits place) clear (ap (λ (x : GroupRecord). bit_at x.block_bits place) same ∙ set)

  record_differs : has_of_group g hand n ≡ true → old ≡ new → ⊥
  record_differs some same = elim (or_cases (list_any (λ i. group_of_inode g i == n) mine) (list_any (λ b. group_of_block g b == n) hand.blocks) some) [
    | inl inode ↦ inode_differs inode same
    | inr blocks ↦ block_differs blocks same
  ]

-- so do its bytes
bytes_differ : (g : Geometry) (records : List (Option Group)) (hand : Hand) (may : ℕ → Bool) (n : ℕ) (d : Delta) (content : Option Image) → IsGeometry g → IsChosen g records may hand
    → MarksGroup g n hand (option_flatten (slice_get records n)) d → IfSome content (IsReady g records) → IfSome content (λ image. d.bytes ≢ take 416 (block image (group_start g n)))
bytes_differ g records hand may n d None ok chosen marks are = tt
bytes_differ g records hand may n d (Some image) ok chosen marks are = λ same.
    let r = reading_of g (block image) in
    let was : record_at r n ≡ Some (record_of marks.old) = record_kept r records n are.records_read ∙ ap (option_map record_of) marks.was in
    let bytes : d.bytes ≡ group_bytes marks.new = ap (λ (e : Delta). e.bytes) marks.is in
    let there : record_at r n ≡ Some marks.new =
    record_in_volume g (block image) n marks.within ∙ ap (group_of g n) (sym same ∙ bytes) ∙ group_back g n marks.new ok marks.marked.group in
    let both : Some (record_of marks.old) ≡ Some marks.new = sym was ∙ there in
    let alike : record_of marks.old ≡ marks.new = cc in
    record_differs g r n hand (record_of marks.old) marks.new ok (chosen_free g (block image) records may hand are.records_read chosen) was marks.marked.put marks.has_some alike

-- a clear bit is one of a record that was read
clear_some : (test : Group → Bool) (o : Option Group) → option_map_or test o false ≡ true → is_some o ≡ true
clear_some test None clear = absurd (false≢true clear)
clear_some test (Some x) clear = refl

-- The hand is taken where the change was applied.
module _ (old new : AllTold) (records : List (Option Group)) (hand : Hand) (change : Change) (ok : IsGeometry old.read.geometry)
    (chosen : IsChosen old.read.geometry records old.changing.is_released hand) (marks : IsMarking old.read.geometry records hand change)
    (loggable : AreLoggable old.read.geometry old.changing.held) (content : IfSome old.read.content (IsReady old.read.geometry records)) (applied : Applies change old new) where
  abbrev g : Geometry
  g = old.read.geometry

  abbrev may : ℕ → Bool
  may = old.changing.is_released

  abbrev deltas : List Delta
  deltas = change.deltas

  own : Applies (marking deltas hand.blocks) old new
  own = subst (λ (c : Change). Applies c old new) marks.is applied

  volume : IsOfVolume g hand
  volume = chosen_of_volume g records may hand chosen

  held_then : (n : ℕ) → n < g.groups → has_of_group g hand n ≡ true → is_some (option_flatten (slice_get records n)) ≡ true
      → list_any (is_group_at (4096 * group_start g n) 416) new.changing.held ≡ true
  held_then n within some read =
      let home = 4096 * group_start g n in
      ap (list_any (is_group_at home 416)) applied.held
      ∙ all_merged_have g home old.changing.held deltas (each_loggable g old.changing.held loggable) (each_group g records hand g.groups deltas ok marks.deltas) marks.deltas.rising
      (marks.deltas.all n within some read)

  changes : All (λ d. (n : ℕ) × ChangesGroup g old.read.content n d) deltas
  changes =
      All-weaker (λ (d : Delta). (m : ℕ) × (m < g.groups) × MarksGroup g m hand (option_flatten (slice_get records m)) d) (λ (d : Delta). (n : ℕ) × ChangesGroup g old.read.content n d)
      (λ d its. (
        its.0,
        record {
          within = its.1;
          record_of_group = ap (is_group_at (4096 * group_start g its.0) 416) its.2.is ∙ group_here g its.0 its.2.new (length-group_bytes g its.0 its.2.new its.2.marked.group);
          differs = bytes_differ g records hand may its.0 d old.read.content ok chosen its.2 content;
        },
      )) deltas marks.deltas.each

  in_transaction : IsInTransaction hand new
  in_transaction = record {
    of_volume = subst (λ (h : Geometry). IsOfVolume h hand) (sym applied.geometry) volume;
    apart = λ i j d before inside same. (let less = chosen.rising i j d before inside in absurd (omega (arith, less, same)));
    inode = λ k d inside.
        let i = slice_index_or (held_inodes (hand ∷ [])) k d in
        let n = group_of_inode g i in
        let some : has_of_group g hand n ≡ true =
        or_left (list_any (λ j. group_of_inode g j == n) (held_inodes (hand ∷ []))) (list_any (λ b. group_of_block g b == n) hand.blocks)
        (any_at (λ j. group_of_inode g j == n) (held_inodes (hand ∷ [])) k d inside (eq-eqb n n refl)) in
        let read : is_some (option_flatten (slice_get records n)) ≡ true =
        clear_some (λ x. not (bit_at x.inode_bits (i % g.ipg))) (option_flatten (slice_get records n)) (chosen.inode_clear k d inside) in
        ap (λ (h : Geometry). list_any (is_group_at (4096 * group_start h (group_of_inode h i)) 416) new.changing.held) applied.geometry
        ∙ held_then n (inode_in_group g i ok (chosen.usable k d inside).1) some read;
    blocks = λ k d inside.
        let b = slice_index_or hand.blocks k d in
        let n = group_of_block g b in
        let parts = and_parts (is_body g b) (is_clear_block g records b) (and_parts (is_body g b && is_clear_block g records b) (may b) (chosen.given k d inside)).0 in
        let some : has_of_group g hand n ≡ true =
        or_right (list_any (λ j. group_of_inode g j == n) (held_inodes (hand ∷ []))) (list_any (λ c. group_of_block g c == n) hand.blocks)
        (any_at (λ c. group_of_block g c == n) hand.blocks k d inside (eq-eqb n n refl)) in
        let read : is_some (option_flatten (slice_get records n)) ≡ true =
        clear_some (λ x. not (bit_at x.block_bits ((b - group_start g 0) % g.bpg))) (option_flatten (slice_get records n)) parts.1 in
        ap (λ (h : Geometry). list_any (is_group_at (4096 * group_start h (group_of_block h b)) 416) new.changing.held) applied.geometry
        ∙ held_then n (block_in_group g b ok parts.0) some read;
    taken = λ k d inside.
        let b = slice_index_or hand.blocks k d in
        own.taken b ∙ or_right (old.changing.is_taken b) (is_among b hand.blocks) (among_self hand.blocks k d inside);
  }

  pub has_taken : HasTaken hand old new
  has_taken = record {
    applied = (deltas, own, changes, marks.deltas.rising);
    rising = chosen.rising;
    holds = in_transaction;
    stands = λ tree hands. stands_told g records hand may deltas ok chosen marks.deltas old.read.content new.read.content content own.content tree hands;
  }
