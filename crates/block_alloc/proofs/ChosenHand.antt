-- The hand that is chosen for a call, and the answer that it is given.
use Rattle.std.proofs.Common.{◌≡◌, ◌<◌, ◌≤◌, inl, inr, ℕ, zero, suc, ◌+◌, ◌-◌, Bool, true, false, List, [], ◌∷◌, length, take, Option, Some, None, IfSome, refl, sym, ap, ◌∙◌, subst, arith}
use Rattle.std.specs.Prelude.{All, AllPairs, if◌then◌else◌, find}
use Rattle.std.specs.List.{filter, range_with_len}
use Rattle.std.proofs.lemmas.Bool.{cases_Bool}
use Rattle.std.proofs.lemmas.List.{get_or-take, length-take}
use Rattle.std.proofs.lemmas.List.Elements.{All-nil, All-cons, All-take, filter_passes}
use Rattle.std.proofs.lemmas.List.FromFn.{length-range_with_len, get_or-range_with_len}
use Rattle.std.proofs.lemmas.List.Kept.{AllPairs-filter}
use Rattle.lufs_base.specs.Layout.{IsGeometry, blocks_of}
use Rattle.lufs_base.specs.declared.geometry.Geometry.{Geometry}
use Rattle.volume_model.specs.declared.hand.Hand.{Hand}
use Rattle.volume_model.specs.Format.{Image, Blocks, block, inodes_of}
use Rattle.volume_model.specs.Sound.{reading_of, held_inodes, Tree, StandsFor}
use Rattle.cyl_groups.specs.declared.group.Group.{Group}
use Rattle.block_alloc.specs.declared.choice.Counts.{Counts}
use Rattle.block_alloc.specs.declared.taken.Taken.{Taken}
use Rattle.block_alloc.specs.declared.taken.Taken.TheVariants.{Got, Later, NoInodes, NoSpace}
use Rattle.block_alloc.specs.Records.{AreRecords, is_clear_inode, may_give}
use Rattle.block_alloc.specs.Taking.{lowest_inode, blocks_left, hand_for, answer_by, answer_of}
use Rattle.block_alloc.specs.Choosing.{AreCounts, IfGot, IsChosen}
use Rattle.block_alloc.proofs.Chosen.{left_chosen, lowest_found}

-- the answer by counts that are right
counts_said : (g : Geometry) (blocks : Blocks) (tree : Tree) (hands : List Hand) (may : ℕ → Bool) (counts : Counts) (inode : Bool) (n : ℕ) (hand : Hand)
    → AreCounts g (reading_of g blocks) tree may hands counts → hand_for g (reading_of g blocks) tree may hands inode n ≡ hand
    → answer_of g (reading_of g blocks) tree may hands inode n
    ≡ answer_by inode n counts.free_inodes counts.free_blocks counts.released counts.inodes_in_hand counts.blocks_in_hand hand
counts_said g blocks tree hands may counts inode n hand are is =
    let fi = sym are.free_inodes in
    let fb = sym are.free_blocks in
    let rel = sym are.released in
    let ih = sym are.inodes_in_hand in
    let bh = sym are.blocks_in_hand in
    λ t. answer_by inode n (fi t) (fb t) (rel t) (ih t) (bh t) (is t)

pub refused_is : (g : Geometry) (blocks : Blocks) (tree : Tree) (hands : List Hand) (may : ℕ → Bool) (counts : Counts) (inode : Bool) (n : ℕ) (refusal : Taken)
    → AreCounts g (reading_of g blocks) tree may hands counts
    → ((hand : Hand) → answer_by inode n counts.free_inodes counts.free_blocks counts.released counts.inodes_in_hand counts.blocks_in_hand hand ≡ refusal)
    → refusal ≡ answer_of g (reading_of g blocks) tree may hands inode n
refused_is g blocks tree hands may counts inode n refusal are said =
    let hand = hand_for g (reading_of g blocks) tree may hands inode n in
    sym (counts_said g blocks tree hands may counts inode n hand are refl ∙ said hand)

pub got_is : (g : Geometry) (blocks : Blocks) (tree : Tree) (hands : List Hand) (records : List (Option Group)) (may : ℕ → Bool) (counts : Counts) (inode : Bool) (n : ℕ) (found : Option ℕ)
    (list : List ℕ) → IsGeometry g → AreRecords (reading_of g blocks) records → StandsFor g blocks tree hands → AreCounts g (reading_of g blocks) tree may hands counts
    → ((hand : Hand) → answer_by inode n counts.free_inodes counts.free_blocks counts.released counts.inodes_in_hand counts.blocks_in_hand hand ≡ Got hand)
    → found ≡ (if inode then find (is_clear_inode g records) (range_with_len 2 (inodes_of g - 2)) else None)
    → list ≡ take n (filter (may_give g records may) (range_with_len 0 (blocks_of g)))
    → Got (record { inode = found; blocks = list }) ≡ answer_of g (reading_of g blocks) tree may hands inode n
got_is g blocks tree hands records may counts inode n found list ok so stands are said inode_is blocks_are =
    let r = reading_of g blocks in
    let lowest : find (is_clear_inode g records) (range_with_len 2 (inodes_of g - 2)) ≡ lowest_inode g tree hands =
    lowest_found g blocks hands stands.sound records ok so ∙ ap (λ (t : Tree). lowest_inode g t hands) stands.stands in
    let its_inode : found ≡ (if inode then lowest_inode g tree hands else None) = inode_is ∙ ap (λ (o : Option ℕ). if inode then o else None) lowest in
    let its_blocks : list ≡ take n (blocks_left g r may hands) = blocks_are ∙ ap (take n) (left_chosen g blocks hands stands.sound records ok so may) in
    let same : hand_for g r tree may hands inode n ≡ record { inode = found; blocks = list } =
    λ t. record { inode = sym its_inode t; blocks = sym its_blocks t } in
    sym (counts_said g blocks tree hands may counts inode n (record { inode = found; blocks = list }) are same ∙ said (record { inode = found; blocks = list }))

-- a number of a range that passes
pub find_gives : (p : ℕ → Bool) (a n : ℕ) → IfSome (find p (range_with_len a n)) (λ i. (a ≤ i) × (i < a + n) × (p i ≡ true))
find_gives p a zero = tt
find_gives p a (suc n) = elim (cases_Bool (p a)) [
  | inl passes ↦
      let is : find p (range_with_len a (suc n)) ≡ Some a = ap (λ (t : Bool). if t then Some a else find p (range_with_len (a + 1) n)) passes in
      subst (λ (o : Option ℕ). IfSome o (λ i. (a ≤ i) × (i < a + suc n) × (p i ≡ true))) (sym is) (omega arith, omega arith, passes)
  | inr fails ↦
      let is : find p (range_with_len a (suc n)) ≡ find p (range_with_len (a + 1) n) = ap (λ (t : Bool). if t then Some a else find p (range_with_len (a + 1) n)) fails in
      subst (λ (o : Option ℕ). IfSome o (λ i. (a ≤ i) × (i < a + suc n) × (p i ≡ true))) (sym is) (wider (find p (range_with_len (a + 1) n)) (find_gives p (a + 1) n))
] where
  wider : (o : Option ℕ) → IfSome o (λ i. (a + 1 ≤ i) × (i < (a + 1) + n) × (p i ≡ true)) → IfSome o (λ i. (a ≤ i) × (i < a + suc n) × (p i ≡ true))
  wider None all = tt
  wider (Some i) all = (omega (arith, all.0), omega (arith, all.1), all.2)

-- the numbers of a range rise, and so do the first of them that pass
range_rises : (a n : ℕ) → AllPairs (λ b c. b < c) (range_with_len a n)
range_rises a n i j d before inside =
    let below : j < n = omega (arith, inside, length-range_with_len a n) in
    omega (arith, before, get_or-range_with_len a n i d (omega (arith, before, below)), get_or-range_with_len a n j d below)

front_rises : (n : ℕ) (xs : List ℕ) → AllPairs (λ b c. b < c) xs → AllPairs (λ b c. b < c) (take n xs)
front_rises n xs rises i j d before inside =
    let within : j < length xs = omega (arith, inside, length-take n xs) in
    let low : j < n = omega (arith, inside, length-take n xs) in
    let all = rises i j d before within in
    omega (arith, all, get_or-take n xs i d (omega (arith, before, low)), get_or-take n xs j d low)

found_usable : (g : Geometry) (records : List (Option Group)) (o : Option ℕ) → IfSome o (λ i. (2 ≤ i) × (i < 2 + (inodes_of g - 2)) × (is_clear_inode g records i ≡ true))
    → All (λ i. (2 ≤ i) × (i < inodes_of g)) (held_inodes (record { inode = o; blocks = [] } ∷ []))
found_usable g records None found = All-nil (λ i. (2 ≤ i) × (i < inodes_of g))
found_usable g records (Some i) found = All-cons (λ i. (2 ≤ i) × (i < inodes_of g)) i [] (found.0, omega (arith, found.0, found.1)) (All-nil (λ i. (2 ≤ i) × (i < inodes_of g)))

found_clear : (g : Geometry) (records : List (Option Group)) (o : Option ℕ) → IfSome o (λ i. (2 ≤ i) × (i < 2 + (inodes_of g - 2)) × (is_clear_inode g records i ≡ true))
    → All (λ i. is_clear_inode g records i ≡ true) (held_inodes (record { inode = o; blocks = [] } ∷ []))
found_clear g records None found = All-nil (λ i. is_clear_inode g records i ≡ true)
found_clear g records (Some i) found = All-cons (λ i. is_clear_inode g records i ≡ true) i [] found.2 (All-nil (λ i. is_clear_inode g records i ≡ true))

found_of : (g : Geometry) (records : List (Option Group)) (inode : Bool)
    → IfSome (if inode then find (is_clear_inode g records) (range_with_len 2 (inodes_of g - 2)) else None) (λ i. (2 ≤ i) × (i < 2 + (inodes_of g - 2)) × (is_clear_inode g records i ≡ true))
found_of g records true = find_gives (is_clear_inode g records) 2 (inodes_of g - 2)
found_of g records false = tt

pub is_chosen : (g : Geometry) (records : List (Option Group)) (may : ℕ → Bool) (inode : Bool) (n : ℕ) (found : Option ℕ) (list : List ℕ)
    → found ≡ (if inode then find (is_clear_inode g records) (range_with_len 2 (inodes_of g - 2)) else None)
    → list ≡ take n (filter (may_give g records may) (range_with_len 0 (blocks_of g))) → IsChosen g records may (record { inode = found; blocks = list })
is_chosen g records may inode n found list inode_is blocks_are =
    let test : ℕ → Bool = may_give g records may in
    let blocks = range_with_len 0 (blocks_of g) in
    let there = subst (λ (o : Option ℕ). IfSome o (λ i. (2 ≤ i) × (i < 2 + (inodes_of g - 2)) × (is_clear_inode g records i ≡ true))) (sym inode_is) (found_of g records inode) in
    record {
      usable = found_usable g records found there;
      inode_clear = found_clear g records found there;
      given = subst (λ (l : List ℕ). All (λ b. test b ≡ true) l) (sym blocks_are) (All-take (λ b. test b ≡ true) n (filter test blocks) (filter_passes test blocks));
      rising = subst (λ (l : List ℕ). AllPairs (λ b c. b < c) l) (sym blocks_are)
          (front_rises n (filter test blocks) (AllPairs-filter (λ b c. b < c) test blocks (range_rises 0 (blocks_of g))));
    }

-- what isn't got has all that is asked of what is
pub nothing_got : (P : Hand → Type 0) (taken : Taken) → IfGot taken (λ hand. ⊥) → IfGot taken P
nothing_got P (Got hand) none = absurd none
nothing_got P (Later cause) none = tt
nothing_got P NoInodes none = tt
nothing_got P NoSpace none = tt

-- what a call is answered by these records
abbrev pub IsAnswer : Taken → (inode : Bool) → (n : ℕ) → Geometry → (may : ℕ → Bool) → List (Option Group) → List Hand → Type 0
IsAnswer taken inode n g may records hands =
    (blocks : Blocks) (tree : Tree) → AreRecords (reading_of g blocks) records → StandsFor g blocks tree hands → taken ≡ answer_of g (reading_of g blocks) tree may hands inode n

-- the same of a store as it was before its records were read
pub answer_before : (taken : Taken) (inode : Bool) (n : ℕ) (g h : Geometry) (may now : ℕ → Bool) (records read : List (Option Group)) (hands held : List Hand) (content : Option Image)
    (tree : Tree) → h ≡ g → ((b : ℕ) → now b ≡ may b) → read ≡ records → held ≡ hands → IfSome content (λ image. AreRecords (reading_of g (block image)) records)
    → IsAnswer taken inode n h now read held
    → IfSome content (λ image. StandsFor g (block image) tree hands → taken ≡ answer_of g (reading_of g (block image)) tree may hands inode n)
answer_before taken inode n g h may now records read hands held None tree same_geometry same_may same_records same_hands so answer = tt
answer_before taken inode n g h may now records read hands held (Some image) tree same_geometry same_may same_records same_hands so answer = λ stands.
    let same : now ≡ may = λ t b. same_may b t in
    let first : IsAnswer taken inode n g now read held = subst (λ (k : Geometry). IsAnswer taken inode n k now read held) same_geometry answer in
    let second : IsAnswer taken inode n g may read held = subst (λ (m : ℕ → Bool). IsAnswer taken inode n g m read held) same first in
    let third : IsAnswer taken inode n g may records held = subst (λ (l : List (Option Group)). IsAnswer taken inode n g may l held) same_records second in
    subst (IsAnswer taken inode n g may records) same_hands third (block image) tree so stands
