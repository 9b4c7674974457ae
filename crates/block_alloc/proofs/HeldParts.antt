-- A hand that was taken, block by block.
use Rattle.std.proofs.Common.{◌≡◌, ◌≢◌, ◌<◌, ◌≤◌, inl, inr, ℕ, suc, zero, ◌+◌, ◌*◌, Bool, true, false, not, ◌&&◌, ◌||◌, List, [], ◌∷◌, length, drop, get_or, Option, Some, None, IfSome, Ok, refl, sym, ap, ◌∙◌, subst, arith}
use Rattle.std.specs.Prelude.{All, AllPairs, is_some, ◌==◌, slice_index_or}
use Rattle.std.specs.List.{list_any}
use Rattle.std.proofs.Math.Seq.{drop-cons}
use Rattle.std.proofs.lemmas.List.{drop_all}
use Rattle.std.proofs.lemmas.Bool.{cases_Bool, or_cases, or_left, or_right, and_from, eqb-true, ne_eqb, or_from, not_from_false, false≢true, false_from_ne_true}
use Rattle.std.proofs.lemmas.List.Elements.{All-nil, All-cons, All-head, All-tail}
use Rattle.lufs_base.specs.Layout.{group_start}
use Rattle.lufs_base.specs.declared.geometry.Geometry.{Geometry}
use Rattle.volume_model.specs.declared.hand.Hand.{Hand}
use Rattle.volume_model.specs.Format.{Image, block, inodes_of, is_body}
use Rattle.volume_model.specs.Sound.{held_inodes, is_among, Tree, StandsFor}
use Rattle.change_laws.specs.Hands.{HoldTheSame, one_block, one_inode}
use Rattle.change_laws.specs.Marks.{group_of_inode, group_of_block}
use Rattle.meta_store.specs.Changing.{AllTold, IsAsBefore}
use Rattle.meta_store.specs.Changes.{is_group_at}
use Rattle.block_alloc.specs.Marks.{IsOfVolume}
use Rattle.block_alloc.specs.Marking.{holds_group, IsHeldHand, no_hand, HasPutBack, HasPutBackSome, PutsBackWhole}
use Rattle.block_alloc.proofs.PutBackSteps.{stands_alike, put_back_then, nothing_put_back, as_before}

abbrev pub with_blocks : Option ℕ → List ℕ → Hand
with_blocks inode blocks = record { inode = inode; blocks = blocks }

-- the first block of a hand by itself
pub hold_first : (inode : Option ℕ) (b : ℕ) (more : List ℕ) (hands : List Hand) → HoldTheSame (with_blocks inode (b ∷ more) ∷ hands) (one_block b ∷ (with_blocks inode more ∷ hands))
hold_first inode b more hands = record { blocks = λ c. refl; inodes = λ i. refl }

pub hold_none : (hands : List Hand) → HoldTheSame (no_hand ∷ hands) hands
hold_none hands = record { blocks = λ b. refl; inodes = λ i. refl }

and_true : (x : Bool) → (x && true) ≡ x
and_true true = refl
and_true false = refl

stands_part : (g : Geometry) (first last : Option Image) (tree : Tree) (all part rest : List Hand) → HoldTheSame all part → HoldTheSame (no_hand ∷ rest) rest
    → IfSome first (λ a. IfSome last (λ b. StandsFor g (block a) tree part → StandsFor g (block b) tree (no_hand ∷ rest)))
    → IfSome first (λ a. IfSome last (λ b. StandsFor g (block a) tree all → StandsFor g (block b) tree rest))
stands_part g None last tree all part rest before after back = tt
stands_part g (Some a) None tree all part rest before after back = tt
stands_part g (Some a) (Some b) tree all part rest before after back = λ stands.
    stands_alike g (block b) tree (no_hand ∷ rest) rest after (back (stands_alike g (block a) tree all part before stands))

-- a part that is put back leaves the rest
pub part_put_back : (part all rest : Hand) (old new : AllTold) → ((hands : List Hand) → HoldTheSame (all ∷ hands) (part ∷ (rest ∷ hands)))
    → ((b : ℕ) → is_among b part.blocks ≡ (is_among b all.blocks && not (is_among b rest.blocks))) → HasPutBack part no_hand old new → HasPutBack all rest old new
part_put_back part all rest old new same among back = record {
  geometry = back.geometry;
  tells = back.tells;
  stands = λ tree hands. stands_part old.read.geometry old.read.content new.read.content tree (all ∷ hands) (part ∷ (rest ∷ hands)) (rest ∷ hands) (same hands) (hold_none (rest ∷ hands))
      (back.stands tree (rest ∷ hands));
  elsewhere = back.elsewhere;
  released = λ b. back.released b ∙ ap (λ (t : Bool). old.changing.is_released b || t) (and_true (is_among b part.blocks) ∙ among b);
  taken = λ b. back.taken b ∙ ap (λ (t : Bool). old.changing.is_taken b && not t) (and_true (is_among b part.blocks) ∙ among b);
  freed = back.freed;
  held = back.held;
  room = back.room;
  disk = back.disk;
}

-- the first of numbers that are apart isn't among the others
first_apart : (b : ℕ) (more : List ℕ) → AllPairs (λ x y. x ≢ y) (b ∷ more) → is_among b more ≡ false
first_apart b more apart = false_from_ne_true (is_among b more) (λ among. none_of more (λ k d inside same. apart 0 (suc k) d (omega arith) (omega (arith, inside)) same) among) where
  none_of : (xs : List ℕ) → All (λ x. b ≢ x) xs → is_among b xs ≡ true → ⊥
  none_of [] each among = false≢true among
  none_of (x ∷ xs) each among = elim (or_cases (x == b) (is_among b xs) among) [
    | inl here ↦ All-head (λ y. b ≢ y) x xs each (sym (eqb-true x b here))
    | inr there ↦ none_of xs (All-tail (λ y. b ≢ y) x xs each) there
  ]

-- which blocks a hand has without its first
pub first_among : (b : ℕ) (more : List ℕ) → AllPairs (λ x y. x ≢ y) (b ∷ more) → (c : ℕ) → is_among c (b ∷ []) ≡ (is_among c (b ∷ more) && not (is_among c more))
first_among b more apart c = elim (cases_Bool (b == c)) [
  | inl here ↦
      let same : b ≡ c = eqb-true b c here in
      let none : is_among c more ≡ false = ap (λ (n : ℕ). is_among n more) (sym same) ∙ first_apart b more apart in
      or_left (b == c) false here ∙ sym (and_from (is_among c (b ∷ more)) (not (is_among c more)) (or_left (b == c) (is_among c more) here) (not_from_false (is_among c more) none))
  | inr away ↦ ap (λ (t : Bool). t || false) away ∙ sym (ap (λ (t : Bool). (t || is_among c more) && not (is_among c more)) away ∙ never (is_among c more))
] where
  never : (t : Bool) → (t && not t) ≡ false
  never true = refl
  never false = refl

rest_apart : (b : ℕ) (more : List ℕ) → AllPairs (λ x y. x ≢ y) (b ∷ more) → AllPairs (λ x y. x ≢ y) more
rest_apart b more apart i j d before inside = apart (suc i) (suc j) d (omega (arith, before)) (omega (arith, inside))

one_of_all : (P : ℕ → Type 0) (x : ℕ) (xs : List ℕ) → All P (x ∷ xs) → All P (x ∷ [])
one_of_all P x xs each = All-cons P x [] (All-head P x xs each) (All-nil P)

stands_first : (g : Geometry) (content : Option Image) (inode : Option ℕ) (b : ℕ) (more : List ℕ)
    → IfSome content (λ image. (tree : Tree) × (hands : List Hand) × StandsFor g (block image) tree (with_blocks inode (b ∷ more) ∷ hands))
    → IfSome content (λ image. (tree : Tree) × (hands : List Hand) × StandsFor g (block image) tree (one_block b ∷ hands))
stands_first g None inode b more stands = tt
stands_first g (Some image) inode b more stands = (
  stands.0,
  with_blocks inode more ∷ stands.1,
  stands_alike g (block image) stands.0 (with_blocks inode (b ∷ more) ∷ stands.1) (one_block b ∷ (with_blocks inode more ∷ stands.1))
      (hold_first inode b more stands.1) stands.2,
)

-- the first block is a hand that was taken
pub first_held : (inode : Option ℕ) (b : ℕ) (more : List ℕ) (told : AllTold) → IsHeldHand (with_blocks inode (b ∷ more)) told → IsHeldHand (one_block b) told
first_held inode b more told held = record {
  holds = record {
    of_volume = record {
      usable = All-nil (λ i. (2 ≤ i) × (i < inodes_of told.read.geometry));
      body = one_of_all (λ c. is_body told.read.geometry c ≡ true) b more held.holds.of_volume.body;
    };
    apart = λ i j d before inside. absurd (omega (arith, before, inside));
    inode = All-nil (λ i. holds_group told (group_of_inode told.read.geometry i) ≡ true);
    blocks = one_of_all (λ c. holds_group told (group_of_block told.read.geometry c) ≡ true) b more held.holds.blocks;
    taken = one_of_all (λ c. told.changing.is_taken c ≡ true) b more held.holds.taken;
  };
  stands = stands_first told.read.geometry told.read.content inode b more held.stands;
}

stands_left : (g h : Geometry) (first last : Option Image) (all rest : Hand) → h ≡ g → is_some last ≡ is_some first
    → ((tree : Tree) (hands : List Hand) → IfSome first (λ a. IfSome last (λ b. StandsFor g (block a) tree (all ∷ hands) → StandsFor g (block b) tree (rest ∷ hands))))
    → IfSome first (λ image. (tree : Tree) × (hands : List Hand) × StandsFor g (block image) tree (all ∷ hands))
    → IfSome last (λ image. (tree : Tree) × (hands : List Hand) × StandsFor h (block image) tree (rest ∷ hands))
stands_left g h None None all rest same tells back stands = tt
stands_left g h None (Some b) all rest same tells back stands = absurd (false≢true (sym tells))
stands_left g h (Some a) None all rest same tells back stands = tt
stands_left g h (Some a) (Some b) all rest same tells back stands =
    (stands.0, stands.1, subst (λ (k : Geometry). StandsFor k (block b) stands.0 (rest ∷ stands.1)) (sym same) (back stands.0 stands.1 stands.2))

-- and the others are still, where it was put back
pub rest_held : (inode : Option ℕ) (b : ℕ) (more : List ℕ) (old new : AllTold) → IsHeldHand (with_blocks inode (b ∷ more)) old
    → HasPutBack (with_blocks inode (b ∷ more)) (with_blocks inode more) old new → IsHeldHand (with_blocks inode more) new
rest_held inode b more old new held back =
    let g = old.read.geometry in
    let all = b ∷ more in
    let holds : (n : ℕ) → holds_group old n ≡ true → holds_group new n ≡ true = λ n was.
    ap (λ (h : Geometry). list_any (is_group_at (4096 * group_start h n) 416) new.changing.held) back.geometry ∙ back.held (4096 * group_start g n) 416 ∙ was in
    record {
      holds = record {
        of_volume = subst (λ (h : Geometry). IsOfVolume h (with_blocks inode more)) (sym back.geometry)
            (record { usable = held.holds.of_volume.usable; body = All-tail (λ c. is_body g c ≡ true) b more held.holds.of_volume.body });
        apart = rest_apart b more held.holds.apart;
        inode = λ k d inside. ap (λ (h : Geometry). holds_group new (group_of_inode h (slice_index_or (held_inodes (with_blocks inode more ∷ [])) k d))) back.geometry
            ∙ holds (group_of_inode g (slice_index_or (held_inodes (with_blocks inode more ∷ [])) k d)) (held.holds.inode k d inside);
        blocks = λ k d inside. ap (λ (h : Geometry). holds_group new (group_of_block h (slice_index_or more k d))) back.geometry
            ∙ holds (group_of_block g (slice_index_or more k d)) (held.holds.blocks (suc k) d (omega (arith, inside)));
        taken = λ k d inside.
            let c = slice_index_or more k d in
            let away : is_among c (b ∷ []) ≡ false =
            or_from (b == c) false (ne_eqb b c (λ same. held.holds.apart 0 (suc k) d (omega arith) (omega (arith, inside)) same)) refl in
            let gone : (is_among c all && not (is_among c more)) ≡ false = sym (first_among b more held.holds.apart c) ∙ away in
            back.taken c ∙ and_from (old.changing.is_taken c) (not (is_among c all && not (is_among c more))) (held.holds.taken (suc k) d (omega (arith, inside)))
            (not_from_false (is_among c all && not (is_among c more)) gone);
      };
      stands = stands_left g new.read.geometry old.read.content new.read.content (with_blocks inode all) (with_blocks inode more) back.geometry back.tells back.stands held.stands;
    }

among_drop : (n : ℕ) (xs : List ℕ) (c : ℕ) → is_among c (drop n xs) ≡ true → is_among c xs ≡ true
among_drop zero xs c among = among
among_drop (suc n) [] c among = among
among_drop (suc n) (x ∷ xs) c among = or_right (x == c) (is_among c xs) (among_drop n xs c among)

pub next_block : (xs : List ℕ) (k : ℕ) → k < length xs → drop k xs ≡ get_or xs k 0 ∷ drop (k + 1) xs
next_block xs k inside = drop-cons xs k 0 inside ∙ ap (λ (n : ℕ). get_or xs k 0 ∷ drop n xs) (let next : suc k ≡ k + 1 = omega arith in next)

-- one block of a hand more is put back
module _ (hand : Hand) (items : List ℕ) (k : ℕ) (old now : AllTold) (inside : k < length items) (its : items ≡ hand.blocks)
    (back : HasPutBack hand (with_blocks hand.inode (drop k items)) old now) (held : IsHeldHand (with_blocks hand.inode (drop k items)) now) where
  abbrev b : ℕ
  b = get_or items k 0

  abbrev more : List ℕ
  more = drop (k + 1) items

  held_here : IsHeldHand (with_blocks hand.inode (b ∷ more)) now
  held_here = subst (λ (l : List ℕ). IsHeldHand (with_blocks hand.inode l) now) (next_block items k inside) held

  pub block_held : IsHeldHand (one_block b) now
  block_held = first_held hand.inode b more now held_here

  module _ (new : AllTold) (put : HasPutBack (one_block b) no_hand now new) where
    step : HasPutBack (with_blocks hand.inode (b ∷ more)) (with_blocks hand.inode more) now new
    step = part_put_back (one_block b) (with_blocks hand.inode (b ∷ more)) (with_blocks hand.inode more) now new (hold_first hand.inode b more)
        (first_among b more held_here.holds.apart) put

    pub back_more : HasPutBack hand (with_blocks hand.inode more) old new
    back_more =
        put_back_then hand (with_blocks hand.inode (b ∷ more)) (with_blocks hand.inode more) old now new
        (λ c among. subst (λ (l : List ℕ). is_among c l ≡ true) its
        (among_drop k items c (ap (is_among c) (next_block items k inside) ∙ among))) (λ c among. or_right (b == c) (is_among c more) among)
        (subst (λ (l : List ℕ). HasPutBack hand (with_blocks hand.inode l) old now) (next_block items k inside) back) step

    pub held_more : IsHeldHand (with_blocks hand.inode more) new
    held_more = rest_held hand.inode b more now new held_here step

-- the hand as it is before any block was put back
pub held_whole : (hand : Hand) (items : List ℕ) (told : AllTold) → items ≡ hand.blocks → IsHeldHand hand told → IsHeldHand (with_blocks hand.inode (drop 0 items)) told
held_whole hand items told its held = subst (λ (l : List ℕ). IsHeldHand (with_blocks hand.inode l) told) (sym its) held

pub back_none : (hand : Hand) (items : List ℕ) (told : AllTold) → items ≡ hand.blocks → HasPutBack hand (with_blocks hand.inode (drop 0 items)) told told
back_none hand items told its = subst (λ (l : List ℕ). HasPutBack hand (with_blocks hand.inode l) told told) (sym its) (nothing_put_back hand told told (as_before told))

-- and after all were
pub blocks_done : (hand : Hand) (items : List ℕ) (k : ℕ) (old now : AllTold) → length items ≤ k → HasPutBack hand (with_blocks hand.inode (drop k items)) old now
    → HasPutBack hand (with_blocks hand.inode []) old now
blocks_done hand items k old now all back = subst (λ (l : List ℕ). HasPutBack hand (with_blocks hand.inode l) old now) (drop_all k items all) back

pub held_done : (hand : Hand) (items : List ℕ) (k : ℕ) (now : AllTold) → length items ≤ k → IsHeldHand (with_blocks hand.inode (drop k items)) now → IsHeldHand (with_blocks hand.inode []) now
held_done hand items k now all held = subst (λ (l : List ℕ). IsHeldHand (with_blocks hand.inode l) now) (drop_all k items all) held

-- the inode that is left
pub inode_held : (inode : Option ℕ) (i : ℕ) (now : AllTold) → inode ≡ Some i → IsHeldHand (with_blocks inode []) now → IsHeldHand (one_inode i) now
inode_held inode i now is held = subst (λ (o : Option ℕ). IsHeldHand (with_blocks o []) now) is held

pub back_whole : (hand : Hand) (i : ℕ) (old now new : AllTold) → hand.inode ≡ Some i → HasPutBack hand (with_blocks hand.inode []) old now → HasPutBack (one_inode i) no_hand now new
    → HasPutBack hand no_hand old new
back_whole hand i old now new is back put =
    put_back_then hand (one_inode i) no_hand old now new (λ c among. absurd (false≢true among)) (λ c among. among)
    (subst (λ (o : Option ℕ). HasPutBack hand (with_blocks o []) old now) is back) put

-- where nothing more was put back
pub back_still : (hand : Hand) (items : List ℕ) (k : ℕ) (old now new : AllTold) → items ≡ hand.blocks → HasPutBack hand (with_blocks hand.inode (drop k items)) old now → IsAsBefore now new
    → HasPutBackSome hand old new
back_still hand items k old now new its back same =
    let rest : Hand = with_blocks hand.inode (drop k items) in (
      rest,
      put_back_then hand rest rest old now new (λ c among. subst (λ (l : List ℕ). is_among c l ≡ true) its (among_drop k items c among)) (λ c among. among) back
          (nothing_put_back rest now new same),
    )

pub inode_still : (hand : Hand) (old now new : AllTold) → HasPutBack hand (with_blocks hand.inode []) old now → IsAsBefore now new → HasPutBackSome hand old new
inode_still hand old now new back same =
    let rest : Hand = with_blocks hand.inode [] in
    (rest, put_back_then hand rest rest old now new (λ c among. absurd (false≢true among)) (λ c among. among) back (nothing_put_back rest now new same))

not_told : (first last : Option Image) (P : Type 0) → is_some last ≡ is_some first → last ≡ None → IfSome first (λ image. P)
not_told None last P tells none = tt
not_told (Some image) last P tells none = absurd (false≢true (sym (ap is_some none) ∙ tells))

is_told : (content : Option Image) (P : Type 0) → P → IfSome content (λ image. P)
is_told None P holds = tt
is_told (Some image) P holds = holds

-- after the inode
pub inode_ok : (t : Bool) (hand : Hand) (i : ℕ) (old now new : AllTold) → hand.inode ≡ Some i → HasPutBack hand (with_blocks hand.inode []) old now
    → PutsBackWhole (Ok t) (one_inode i) now new → IfSome old.read.content (λ image. HasPutBack hand no_hand old new)
inode_ok true hand i old now new is back put = is_told old.read.content (HasPutBack hand no_hand old new) (back_whole hand i old now new is back put)
inode_ok false hand i old now new is back put = not_told old.read.content now.read.content (HasPutBack hand no_hand old new) back.tells put.0

pub inode_some : (t : Bool) (hand : Hand) (i : ℕ) (old now new : AllTold) → hand.inode ≡ Some i → HasPutBack hand (with_blocks hand.inode []) old now
    → PutsBackWhole (Ok t) (one_inode i) now new → HasPutBackSome hand old new
inode_some true hand i old now new is back put = (no_hand, back_whole hand i old now new is back put)
inode_some false hand i old now new is back put = inode_still hand old now new back put.1

-- a hand without an inode
pub back_without : (hand : Hand) (old now : AllTold) → hand.inode ≡ None → HasPutBack hand (with_blocks hand.inode []) old now → HasPutBack hand no_hand old now
back_without hand old now is back = subst (λ (o : Option ℕ). HasPutBack hand (with_blocks o []) old now) is back
