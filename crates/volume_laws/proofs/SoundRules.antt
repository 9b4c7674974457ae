-- What a sound volume keeps, rule by rule; and which rule is found broken.
use Rattle.std.proofs.Common.{◌↔◌, cond, length-append, ◌≡◌, ◌<◌, ℕ, ◌+◌, Bool, true, false, List, [], ◌∷◌, ◌++◌, length, map, Option, Some, None, refl, sym, ◌∙◌, ap, subst, arith, lit<, is_some}
use Rattle.std.specs.Prelude.{option_map, slice_index_or}
use Rattle.std.specs.Option.{option_or}
use Rattle.std.specs.List.{Contains, find, range_with_len}
use Rattle.std.proofs.lemmas.Option.{slice_get_within, get_or_from_slice_get}
use Rattle.std.proofs.lemmas.List.{get_or-map}
use Rattle.std.proofs.lemmas.List.FromFn.{get_or-range_with_len}
use Rattle.std.proofs.Math.ListN.{get_or-append}
use Rattle.std.proofs.Math.Seq.{get_or-append_seam}
use Rattle.lufs_base.specs.Layout.{blocks_of}
use Rattle.lufs_base.specs.declared.geometry.Geometry.{Geometry}
use Rattle.volume_model.specs.declared.finding.Kind.{Kind}
use Rattle.volume_model.specs.declared.finding.Kind.TheVariants.{Group, Inode, Fields, Root, Twice, Chunk, Name, Parent, Links, InodeBit, BlockBit, Count}
use Rattle.volume_model.specs.declared.hand.Hand.{Hand}
use Rattle.volume_model.specs.Format.{Blocks}
use Rattle.volume_model.specs.Sound.{Reading, reading_of, inodes_in, Sound, all_kinds, numbers_of_kind, is_broken, first_of_kind, first_of_kinds, finding_of}
use Rattle.volume_laws.proofs.Searches.{found_in, passed_over, none_found, none_to_find, fails_below}

-- the place of a kind among all
place_of : Kind → ℕ
place_of Group = 0
place_of Inode = 1
place_of Fields = 2
place_of Root = 3
place_of Twice = 4
place_of Chunk = 5
place_of Name = 6
place_of Parent = 7
place_of Links = 8
place_of InodeBit = 9
place_of BlockBit = 10
place_of Count = 11

is_among_all : (kind : Kind) → Contains all_kinds kind
is_among_all Group = (0, lit< tt, refl)
is_among_all Inode = (1, lit< tt, refl)
is_among_all Fields = (2, lit< tt, refl)
is_among_all Root = (3, lit< tt, refl)
is_among_all Twice = (4, lit< tt, refl)
is_among_all Chunk = (5, lit< tt, refl)
is_among_all Name = (6, lit< tt, refl)
is_among_all Parent = (7, lit< tt, refl)
is_among_all Links = (8, lit< tt, refl)
is_among_all InodeBit = (9, lit< tt, refl)
is_among_all BlockBit = (10, lit< tt, refl)
is_among_all Count = (11, lit< tt, refl)

-- no kind stands twice
places : map place_of all_kinds ≡ range_with_len 0 12
unfolding place_of
places = refl

place_is : (kind : Kind) (k : ℕ) → k < 12 → slice_index_or all_kinds k kind ≡ kind → place_of kind ≡ k
place_is kind k below is =
    ap place_of (sym is) ∙ sym (get_or-map place_of all_kinds k kind 0 below)
    ∙ ap (λ (l : List ℕ). slice_index_or l k 0) places ∙ get_or-range_with_len 0 12 k 0 below ∙ (let none : 0 + k ≡ k = omega arith in none)

-- the numbers of each kind follow one another
range_of_kind : (g : Geometry) (r : Reading) (kind : Kind) → (a : ℕ) × (n : ℕ) × (numbers_of_kind g r kind ≡ range_with_len a n)
range_of_kind g r Group = (0, g.groups, refl)
range_of_kind g r Inode = (0, inodes_in r, refl)
range_of_kind g r Fields = (0, inodes_in r, refl)
range_of_kind g r Root = (2, 1, refl)
range_of_kind g r Twice = (0, blocks_of g, refl)
range_of_kind g r Chunk = (0, inodes_in r, refl)
range_of_kind g r Name = (0, inodes_in r, refl)
range_of_kind g r Parent = (0, inodes_in r, refl)
range_of_kind g r Links = (0, inodes_in r, refl)
range_of_kind g r InodeBit = (0, inodes_in r, refl)
range_of_kind g r BlockBit = (0, blocks_of g, refl)
range_of_kind g r Count = (0, g.groups, refl)

-- the rule of this kind is broken for some number
abbrev breaks : Geometry → Reading → List Hand → Kind → Bool
breaks g r hands kind = is_some (first_of_kind g r hands kind)

-- the first broken rule is what a search for one finds
search_of_kinds : (g : Geometry) (r : Reading) (hands : List Hand) (kinds : List Kind)
    → find (breaks g r hands) kinds ≡ option_map (λ finding. finding.0) (first_of_kinds g r hands kinds)
search_of_kinds g r hands [] = refl
search_of_kinds g r hands (kind ∷ kinds) =
    elim (first_of_kind g r hands kind) as (λ o. cond (is_some o) (Some kind) (find (breaks g r hands) kinds)
    ≡ option_map (λ finding. finding.0) (option_or (option_map (λ n. (kind, n)) o) (first_of_kinds g r hands kinds))) [
      | None ↦ search_of_kinds g r hands kinds
      | Some n ↦ refl
    ]

-- with the first number of that kind
number_of_kinds : (g : Geometry) (r : Reading) (hands : List Hand) (kinds : List Kind) (kind : Kind) (n : ℕ)
    → first_of_kinds g r hands kinds ≡ Some (kind, n) → first_of_kind g r hands kind ≡ Some n
number_of_kinds g r hands [] kind n found = absurd cc
number_of_kinds g r hands (k ∷ kinds) kind n found =
    elim (first_of_kind g r hands k) as (λ o. first_of_kind g r hands k ≡ o
    → option_or (option_map (λ m. (k, m)) o) (first_of_kinds g r hands kinds) ≡ Some (kind, n) → first_of_kind g r hands kind ≡ Some n) [
      | None ↦ λ is rest. number_of_kinds g r hands kinds kind n rest
      | Some m ↦ λ is here.
          let same : (k, m) ≡ (kind, n) = cc in
          let kinds_same : k ≡ kind = ap (λ (p : Kind × ℕ). p.0) same in
          let numbers_same : m ≡ n = ap (λ (p : Kind × ℕ). p.1) same in
          ap (first_of_kind g r hands) (sym kinds_same) ∙ is ∙ ap (λ (x : ℕ). Some x) numbers_same
    ] refl found

no_finding : (o : Option (Kind × ℕ)) → option_map (λ finding. finding.0) o ≡ None → o ≡ None
no_finding None none = refl
no_finding (Some finding) none = absurd cc

is_none_of : (o : Option ℕ) → is_some o ≡ false → o ≡ None
is_none_of None none = refl
is_none_of (Some n) none = absurd cc

-- no rule is broken for any number
kept_where_none : (g : Geometry) (r : Reading) (hands : List Hand) → finding_of g r hands ≡ None
    → (kind : Kind) (n : ℕ) → Contains (numbers_of_kind g r kind) n → is_broken g r hands kind n ≡ false
unfolding finding_of
kept_where_none g r hands none kind n here =
    let search : find (breaks g r hands) all_kinds ≡ None = search_of_kinds g r hands all_kinds ∙ ap (option_map (λ finding. finding.0)) none in
    let of_kind = is_none_of (first_of_kind g r hands kind) (none_found (breaks g r hands) all_kinds search kind (is_among_all kind)) in
    none_found (is_broken g r hands kind) (numbers_of_kind g r kind) of_kind n here

none_where_kept : (g : Geometry) (r : Reading) (hands : List Hand)
    → ((kind : Kind) (n : ℕ) → Contains (numbers_of_kind g r kind) n → is_broken g r hands kind n ≡ false) → finding_of g r hands ≡ None
unfolding finding_of
none_where_kept g r hands kept =
    let of_kind : (kind : Kind) → first_of_kind g r hands kind ≡ None = λ kind. none_to_find (is_broken g r hands kind) (numbers_of_kind g r kind) (kept kind) in
    no_finding (first_of_kinds g r hands all_kinds) (
    sym (search_of_kinds g r hands all_kinds) ∙ none_to_find (breaks g r hands) all_kinds (λ kind among. ap is_some (of_kind kind)))

pub no_rule_broken : (g : Geometry) (r : Reading) (hands : List Hand)
    → (finding_of g r hands ≡ None) ↔ ((kind : Kind) (n : ℕ) → Contains (numbers_of_kind g r kind) n → is_broken g r hands kind n ≡ false)
no_rule_broken g r hands = (kept_where_none g r hands, none_where_kept g r hands)

pub rule_kept : {g : Geometry} {blocks : Blocks} {hands : List Hand} → Sound g blocks hands
    → (kind : Kind) (n : ℕ) → Contains (numbers_of_kind g (reading_of g blocks) kind) n → is_broken g (reading_of g blocks) hands kind n ≡ false
rule_kept {g = g} {blocks = blocks} {hands = hands} sound = kept_where_none g (reading_of g blocks) hands sound.rules

-- what is found is a broken rule
pub found_broken : (g : Geometry) (r : Reading) (hands : List Hand) (kind : Kind) (n : ℕ)
    → finding_of g r hands ≡ Some (kind, n) → Contains (numbers_of_kind g r kind) n × (is_broken g r hands kind n ≡ true)
unfolding finding_of
found_broken g r hands kind n found = found_in (is_broken g r hands kind) (numbers_of_kind g r kind) n (number_of_kinds g r hands all_kinds kind n found)

-- at its lowest number
pub found_lowest : (g : Geometry) (r : Reading) (hands : List Hand) (kind : Kind) (n m : ℕ)
    → finding_of g r hands ≡ Some (kind, n) → m < n → Contains (numbers_of_kind g r kind) m → is_broken g r hands kind m ≡ false
unfolding finding_of
found_lowest g r hands kind n m found below here =
    let range = range_of_kind g r kind in
    fails_below (is_broken g r hands kind) range.0 range.1 n m (ap (find (is_broken g r hands kind)) (sym range.2) ∙ number_of_kinds g r hands all_kinds kind n found)
    below (subst (λ (l : List ℕ). Contains l m) range.2 here)

-- no rule before it is broken
pub found_first : (g : Geometry) (r : Reading) (hands : List Hand) (kind earlier : Kind) (before after : List Kind) (n m : ℕ)
    → finding_of g r hands ≡ Some (kind, n) → all_kinds ≡ before ++ (kind ∷ after) → Contains before earlier
    → Contains (numbers_of_kind g r earlier) m → is_broken g r hands earlier m ≡ false
unfolding finding_of
found_first g r hands kind earlier before after n m found split (j, inside, is) here =
    let search : find (breaks g r hands) all_kinds ≡ Some kind = search_of_kinds g r hands all_kinds ∙ ap (option_map (λ finding. finding.0)) found in
    let over = passed_over (breaks g r hands) all_kinds kind search in
    let size : length before < 12 = omega (arith, ap length split, length-append before (kind ∷ after)) in
    let at_seam : place_of kind ≡ length before =
    place_is kind (length before) size (ap (λ (l : List Kind). slice_index_or l (length before) kind) split ∙ get_or-append_seam before kind after kind) in
    let at_found : place_of kind ≡ over.0 = place_is kind over.0 (slice_get_within all_kinds over.0 kind over.1) (get_or_from_slice_get all_kinds over.0 kind kind over.1) in
    let stands : slice_index_or all_kinds j earlier ≡ earlier =
    ap (λ (l : List Kind). slice_index_or l j earlier) split ∙ get_or-append before (kind ∷ after) earlier j inside ∙ is in
    none_found (is_broken g r hands earlier) (numbers_of_kind g r earlier)
    (is_none_of (first_of_kind g r hands earlier) (over.2 j earlier (omega (arith, inside, at_seam, at_found)) stands)) m here
