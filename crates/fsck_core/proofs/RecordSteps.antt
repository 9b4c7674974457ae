-- The records of groups and inodes, read one after the other.
use Rattle.std.proofs.Common.{◌≡◌, ◌<◌, ◌≤◌, inl, inr, ℕ, ◌+◌, zero, suc, true, false, not, List, [], ◌∷◌, ◌++◌, length, map, Option, Some, None, refl, sym, ap, ◌∙◌, arith}
use Rattle.std.specs.Prelude.{slice_get, option_map, is_some, find}
use Rattle.std.specs.List.{range_with_len}
use Rattle.std.specs.Option.{option_flatten, option_and_then}
use Rattle.std.proofs.lemmas.Bool.{le-ltb, cases_lt}
use Rattle.std.proofs.lemmas.List.{length-append, map-append}
use Rattle.std.proofs.lemmas.List.Elements.{All-nil, All-cons}
use Rattle.std.proofs.lemmas.List.FromFn.{map-range_with_len_more}
use Rattle.std.proofs.lemmas.Option.{slice_get-map, slice_get_within, slice_get_cases}
use Rattle.lufs_base.specs.declared.geometry.Geometry.{Geometry}
use Rattle.volume_model.specs.declared.finding.Kind.TheVariants.{Group as of_groups, Inode as of_inodes}
use Rattle.volume_model.specs.declared.inode.Dinode.{Dinode}
use Rattle.volume_model.specs.Format.{Blocks, GroupRecord, inodes_of}
use Rattle.volume_model.specs.Sound.{reading_of, group_at, inode_at, state_of, state_at, record_at, used_of, used_at, used_inode, is_bad_group, is_bad_state, is_bad_inode, first_of_kind, finding_of}
use Rattle.cyl_groups.specs.declared.group.Group.{Group}
use Rattle.cyl_groups.specs.Group.{record_of}
use Rattle.volume_laws.proofs.Members.{entry_of_range}
use Rattle.volume_laws.proofs.ClaimFacts.{length-inodes}
use Rattle.fsck_core.specs.Tables.{AreGroups, AreInodes}
use Rattle.fsck_core.proofs.Findings.{none_in_range, first_in_range, found_at_kind}

-- what the n-th record of a list over a range is
entry : {X Y : Type 0} (f : ℕ → Option X) (h : Y → X) (ys : List Y) (n : ℕ) (y : Y) → map f (range_with_len 0 (length ys)) ≡ map (λ z. Some (h z)) ys
    → slice_get ys n ≡ Some y → f n ≡ Some (h y)
entry {X} f h ys n y same here =
    let within = slice_get_within ys n y here in
    let left : slice_get (map f (range_with_len 0 (length ys))) n ≡ Some (f n) = entry_of_range f (length ys) n within in
    let right : slice_get (map (λ z. Some (h z)) ys) n ≡ Some (Some (h y)) =
    slice_get-map (λ z. Some (h z)) ys n ∙ ap (option_map (λ z. Some (h z))) here in
    let both : Some (f n) ≡ Some (Some (h y)) = sym left ∙ ap (λ (xs : List (Option X)). slice_get xs n) same ∙ right in cc

-- one record more
more : {X Y : Type 0} (f : ℕ → Option X) (h : Y → X) (ys : List Y) (y : Y) → map f (range_with_len 0 (length ys)) ≡ map (λ z. Some (h z)) ys
    → f (length ys) ≡ Some (h y) → map f (range_with_len 0 (length (ys ++ y ∷ []))) ≡ map (λ z. Some (h z)) (ys ++ y ∷ [])
more {X} f h ys y same next =
    let size : length (ys ++ y ∷ []) ≡ length ys + 1 = length-append ys (y ∷ []) in
    ap (λ (k : ℕ). map f (range_with_len 0 k)) size
    ∙ map-range_with_len_more f 0 (length ys) (length ys) (omega arith)
    ∙ ap (λ (xs : List (Option X)). xs ++ f (length ys) ∷ []) same
    ∙ ap (λ (x : Option X). map (λ z. Some (h z)) ys ++ x ∷ []) next
    ∙ sym (map-append (λ z. Some (h z)) ys (y ∷ []))

pub more_groups : (g : Geometry) (blocks : Blocks) (groups : List Group) (x : Group) → AreGroups g blocks groups
    → group_at g blocks (length groups) ≡ Some (record_of x) → AreGroups g blocks (groups ++ x ∷ [])
more_groups g blocks groups x so next = more (group_at g blocks) record_of groups x so next

pub group_in : (g : Geometry) (blocks : Blocks) (groups : List Group) (n : ℕ) (x : Group) → AreGroups g blocks groups
    → slice_get groups n ≡ Some x → group_at g blocks n ≡ Some (record_of x)
group_in g blocks groups n x so here = entry (group_at g blocks) record_of groups n x so here

-- what a reading says of group n
pub record_in_volume : (g : Geometry) (blocks : Blocks) (n : ℕ) → n < g.groups → record_at (reading_of g blocks) n ≡ group_at g blocks n
unfolding reading_of
record_in_volume g blocks n below = ap (λ (o : Option (Option GroupRecord)). option_flatten o) (entry_of_range (group_at g blocks) g.groups n below)

pub record_in : (g : Geometry) (blocks : Blocks) (groups : List Group) (n : ℕ) (x : Group) → AreGroups g blocks groups → length groups ≡ g.groups
    → slice_get groups n ≡ Some x → record_at (reading_of g blocks) n ≡ Some (record_of x)
record_in g blocks groups n x so size here =
    record_in_volume g blocks n (omega (arith, size, slice_get_within groups n x here)) ∙ group_in g blocks groups n x so here

-- the groups of the list have their records
groups_are_right : (g : Geometry) (blocks : Blocks) (groups : List Group) → AreGroups g blocks groups → length groups ≤ g.groups
    → (k : ℕ) → k < length groups → is_bad_group (reading_of g blocks) k ≡ false
groups_are_right g blocks groups so most k below = elim (slice_get_cases groups k).1 [
  | inl here ↦
      ap (λ (o : Option GroupRecord). not (is_some o)) (record_in_volume g blocks k (omega (arith, below, most)) ∙ group_in g blocks groups k here.0 so here.2)
  | inr past ↦ absurd (omega (arith, past.0, below))
]

pub no_bad_group : (g : Geometry) (blocks : Blocks) (groups : List Group) → AreGroups g blocks groups → length groups ≡ g.groups
    → first_of_kind g (reading_of g blocks) [] of_groups ≡ None
no_bad_group g blocks groups so size =
    none_in_range (is_bad_group (reading_of g blocks)) g.groups (λ k below. groups_are_right g blocks groups so (omega (arith, size)) k (omega (arith, size, below)))

pub bad_group_found : (g : Geometry) (blocks : Blocks) (groups : List Group) → AreGroups g blocks groups → length groups < g.groups
    → group_at g blocks (length groups) ≡ None → finding_of g (reading_of g blocks) [] ≡ Some (of_groups, length groups)
bad_group_found g blocks groups so below none =
    let r = reading_of g blocks in
    let bad : is_bad_group r (length groups) ≡ true = ap (λ (o : Option GroupRecord). not (is_some o)) (record_in_volume g blocks (length groups) below ∙ none) in
    found_at_kind g r [] of_groups _ (length groups) refl (All-nil (λ kind. first_of_kind g r [] kind ≡ None))
    (first_in_range (is_bad_group r) (length groups) g.groups (groups_are_right g blocks groups so (omega (arith, below))) bad below)

-- what a reading says of inode i
state_in_volume : (g : Geometry) (blocks : Blocks) (i : ℕ) → i < inodes_of g → slice_get (reading_of g blocks).inodes i ≡ Some (state_of blocks (inode_at g blocks i))
unfolding reading_of
state_in_volume g blocks i below = entry_of_range (state_at g blocks) (inodes_of g) i below

pub inode_in : (g : Geometry) (blocks : Blocks) (inodes : List (Option Dinode)) (i : ℕ) (d : Option Dinode) → AreInodes g blocks inodes
    → slice_get inodes i ≡ Some d → inode_at g blocks i ≡ Some d
inode_in g blocks inodes i d so here = entry (inode_at g blocks) (λ o. o) inodes i d so.records here

-- inode i is in use just where its record is one
pub used_by_record : (g : Geometry) (blocks : Blocks) (i : ℕ) (d : Option Dinode) → i < inodes_of g → inode_at g blocks i ≡ Some d
    → used_at (reading_of g blocks) i ≡ option_map (used_inode blocks) d
used_by_record g blocks i d below record_is =
    ap (option_and_then used_of) (state_in_volume g blocks i below ∙ ap (λ (o : Option (Option Dinode)). Some (state_of blocks o)) record_is) ∙ by_case blocks d
  where
    by_case : (blocks : Blocks) (d : Option Dinode) → used_of (state_of blocks (Some d)) ≡ option_map (used_inode blocks) d
    by_case blocks None = refl
    by_case blocks (Some u) = refl

-- and just where the list has it
pub used_in : (g : Geometry) (blocks : Blocks) (inodes : List (Option Dinode)) (i : ℕ) (d : Option Dinode) → AreInodes g blocks inodes → i < inodes_of g
    → slice_get inodes i ≡ Some d → used_at (reading_of g blocks) i ≡ option_map (used_inode blocks) d
used_in g blocks inodes i d so below here = used_by_record g blocks i d below (inode_in g blocks inodes i d so here)

-- past the end of the list no inode is in use
pub used_past : (g : Geometry) (blocks : Blocks) (i : ℕ) → inodes_of g ≤ i → used_at (reading_of g blocks) i ≡ None
used_past g blocks i past = elim (slice_get_cases (reading_of g blocks).inodes i).1 [
  | inl here ↦ absurd (omega (arith, past, length-inodes g blocks, slice_get_within (reading_of g blocks).inodes i here.0 here.2))
  | inr end ↦ ap (option_and_then used_of) end.1
]

-- inode i is in use just where its record is there
pub used_by_records : (g : Geometry) (blocks : Blocks) (inodes : List (Option Dinode)) (i : ℕ) → AreInodes g blocks inodes → length inodes ≡ inodes_of g
    → used_at (reading_of g blocks) i ≡ option_map (used_inode blocks) (option_flatten (slice_get inodes i))
used_by_records g blocks inodes i so size = elim (slice_get_cases inodes i).1 [
  | inl here ↦
      used_in g blocks inodes i here.0 so (omega (arith, size, slice_get_within inodes i here.0 here.2)) here.2
      ∙ ap (λ (o : Option (Option Dinode)). option_map (used_inode blocks) (option_flatten o)) (sym here.2)
  | inr past ↦
      used_past g blocks i (omega (arith, size, past.0))
      ∙ ap (λ (o : Option (Option Dinode)). option_map (used_inode blocks) (option_flatten o)) (sym past.1)
]

right_state : (blocks : Blocks) (i : ℕ) (d : Option Dinode) → ((u : Dinode) → i < 2 → d ≡ Some u → ⊥) → is_bad_state i (Some (state_of blocks (Some d))) ≡ false
right_state blocks i None fits = refl
right_state blocks i (Some u) fits = elim (cases_lt i 2) [
  | inl low ↦ absurd (fits u low refl)
  | inr high ↦ le-ltb i 2 high
]

inodes_are_right : (g : Geometry) (blocks : Blocks) (inodes : List (Option Dinode)) → AreInodes g blocks inodes → length inodes ≤ inodes_of g
    → (k : ℕ) → k < length inodes → is_bad_inode (reading_of g blocks) k ≡ false
inodes_are_right g blocks inodes so most k below = elim (slice_get_cases inodes k).1 [
  | inl here ↦
      let d = here.0 in
      ap (is_bad_state k) (state_in_volume g blocks k (omega (arith, below, most)) ∙ ap (λ (o : Option (Option Dinode)). Some (state_of blocks o)) (inode_in g blocks inodes k d so here.2))
      ∙ right_state blocks k d (λ u low is. so.reserved k u low (here.2 ∙ ap (λ (o : Option Dinode). Some o) is))
  | inr past ↦ absurd (omega (arith, past.0, below))
]

pub no_bad_inode : (g : Geometry) (blocks : Blocks) (inodes : List (Option Dinode)) → AreInodes g blocks inodes → length inodes ≡ inodes_of g
    → first_of_kind g (reading_of g blocks) [] of_inodes ≡ None
no_bad_inode g blocks inodes so size =
    let r = reading_of g blocks in
    ap (λ (n : ℕ). find (is_bad_inode r) (range_with_len 0 n)) (length-inodes g blocks)
    ∙ none_in_range (is_bad_inode r) (inodes_of g) (λ k below. inodes_are_right g blocks inodes so (omega (arith, size)) k (omega (arith, size, below)))

-- the next record is none, or it is of an inode 0 or 1 in use
pub bad_inode_found : (g : Geometry) (blocks : Blocks) (inodes : List (Option Dinode)) → AreInodes g blocks inodes → length inodes < inodes_of g
    → first_of_kind g (reading_of g blocks) [] of_groups ≡ None
    → is_bad_state (length inodes) (Some (state_of blocks (inode_at g blocks (length inodes)))) ≡ true
    → finding_of g (reading_of g blocks) [] ≡ Some (of_inodes, length inodes)
bad_inode_found g blocks inodes so below no_group bad_state =
    let r = reading_of g blocks in
    let n = length inodes in
    let bad : is_bad_inode r n ≡ true = ap (is_bad_state n) (state_in_volume g blocks n below) ∙ bad_state in
    found_at_kind g r (of_groups ∷ []) of_inodes _ n refl (All-cons (λ kind. first_of_kind g r [] kind ≡ None) of_groups [] no_group (All-nil (λ kind. first_of_kind g r [] kind ≡ None)))
    (ap (λ (m : ℕ). find (is_bad_inode r) (range_with_len 0 m)) (length-inodes g blocks)
    ∙ first_in_range (is_bad_inode r) n (inodes_of g) (inodes_are_right g blocks inodes so (omega (arith, below))) bad below)

before_end : {X : Type 0} (xs ys : List X) (i : ℕ) → i < length xs → slice_get (xs ++ ys) i ≡ slice_get xs i
before_end [] ys i below = absurd (omega (arith, below))
before_end (x ∷ xs) ys zero below = refl
before_end (x ∷ xs) ys (suc i) below = before_end xs ys i (omega (arith, below))

at_end : {X : Type 0} (xs : List X) (y : X) → slice_get (xs ++ y ∷ []) (length xs) ≡ Some y
at_end [] y = refl
at_end (x ∷ xs) y = at_end xs y

-- one inode more
pub more_inodes : (g : Geometry) (blocks : Blocks) (inodes : List (Option Dinode)) (d : Option Dinode) → AreInodes g blocks inodes
    → inode_at g blocks (length inodes) ≡ Some d → ((u : Dinode) → length inodes < 2 → d ≡ Some u → ⊥) → AreInodes g blocks (inodes ++ d ∷ [])
more_inodes g blocks inodes d so next fits = record {
  records = more (inode_at g blocks) (λ o. o) inodes d so.records next;
  reserved = λ i u low here. elim (slice_get_cases inodes i).1 [
    | inl old ↦ so.reserved i u low (sym (before_end inodes (d ∷ []) i old.1) ∙ here)
    | inr past ↦
        let within = slice_get_within (inodes ++ d ∷ []) i (Some u) here in
        let at : i ≡ length inodes = omega (arith, within, past.0, length-append inodes (d ∷ [])) in
        let last : slice_get (inodes ++ d ∷ []) i ≡ Some d = ap (slice_get (inodes ++ d ∷ [])) at ∙ at_end inodes d in
        let is : Some d ≡ Some (Some u) = sym last ∙ here in
        fits u (omega (arith, at, low)) (let same : d ≡ Some u = cc in same)
  ];
}
