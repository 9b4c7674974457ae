-- What a check finds, by the numbers and the kinds that it looks at in order.
use Rattle.std.proofs.Common.{◌≡◌, ◌<◌, ℕ, ◌+◌, ◌-◌, zero, suc, Bool, true, false, if◌then◌else◌, List, [], ◌∷◌, ◌++◌, Option, Some, None, refl, sym, ap, ◌∙◌, arith}
use Rattle.std.specs.List.{find, range_with_len, All}
use Rattle.std.specs.Option.{option_or, option_map}
use Rattle.std.proofs.lemmas.List.Folds.{find-append}
use Rattle.std.proofs.lemmas.List.Elements.{All-head, All-tail}
use Rattle.lufs_base.specs.declared.geometry.Geometry.{Geometry}
use Rattle.volume_model.specs.declared.finding.Kind.{Kind}
use Rattle.volume_model.specs.Sound.{Reading, all_kinds, first_of_kind, first_of_kinds, finding_of}
use Rattle.volume_laws.proofs.Searches.{none_to_find, none_found}
use Rattle.volume_laws.proofs.Members.{in_range, Contains_range}

-- nothing is found in a range where each number fails
pub none_in_range : (p : ℕ → Bool) (total : ℕ) → ((k : ℕ) → k < total → p k ≡ false) → find p (range_with_len 0 total) ≡ None
none_in_range p total fail = none_to_find p (range_with_len 0 total) (λ k here. fail k (in_range total k here))

pub fails_in_range : (p : ℕ → Bool) (total k : ℕ) → find p (range_with_len 0 total) ≡ None → k < total → p k ≡ false
fails_in_range p total k none below = none_found p (range_with_len 0 total) none k (Contains_range total k below)

-- a range is its front and the rest
split_range : (a n m : ℕ) → range_with_len a (n + m) ≡ range_with_len a n ++ range_with_len (a + n) m
split_range a zero m = let at : a + 0 ≡ a = omega arith in let more : 0 + m ≡ m = omega arith in
    ap (λ (k : ℕ). range_with_len a k) more ∙ ap (λ (b : ℕ). range_with_len b m) (sym at)
split_range a (suc n) m =
    let at : a + 1 + n ≡ a + suc n = omega arith in
    let count : suc n + m ≡ suc (n + m) = omega arith in
    ap (λ (k : ℕ). range_with_len a k) count ∙ ap (λ (ks : List ℕ). a ∷ ks) (split_range (a + 1) n m ∙ ap (λ (b : ℕ). range_with_len (a + 1) n ++ range_with_len b m) at)

pub range_more : (n : ℕ) → range_with_len 0 (suc n) ≡ range_with_len 0 n ++ n ∷ []
range_more n =
    let one : n + 1 ≡ suc n = omega arith in
    let at : 0 + n ≡ n = omega arith in
    ap (λ (k : ℕ). range_with_len 0 k) (sym one) ∙ split_range 0 n 1 ∙ ap (λ (b : ℕ). range_with_len 0 n ++ b ∷ []) at

-- the first number of a range that passes
pub first_in_range : (p : ℕ → Bool) (n total : ℕ) → ((k : ℕ) → k < n → p k ≡ false) → p n ≡ true → n < total
    → find p (range_with_len 0 total) ≡ Some n
first_in_range p n total fail passes below =
    let rest = total - suc n in
    let sizes : total ≡ n + suc rest = omega (arith, below) in
    let at : 0 + n ≡ n = omega arith in
    ap (λ (k : ℕ). find p (range_with_len 0 k)) sizes
    ∙ ap (find p) (split_range 0 n (suc rest) ∙ ap (λ (b : ℕ). range_with_len 0 n ++ range_with_len b (suc rest)) at)
    ∙ find-append p (range_with_len 0 n) (range_with_len n (suc rest))
    ∙ ap (λ (o : Option ℕ). option_or o (find p (range_with_len n (suc rest)))) (none_in_range p n fail)
    ∙ ap (λ (b : Bool). if b then Some n else find p (range_with_len (n + 1) rest)) passes

-- what is found up to the next number
pub find_more : (p : ℕ → Bool) (n : ℕ) → find p (range_with_len 0 (suc n)) ≡ option_or (find p (range_with_len 0 n)) (if p n then Some n else None)
find_more p n = ap (find p) (range_more n) ∙ find-append p (range_with_len 0 n) (n ∷ [])

-- kinds of which none is found
abbrev pub NoneOf : Geometry → Reading → List Kind → Type 0
NoneOf g r kinds = All (λ kind. first_of_kind g r [] kind ≡ None) kinds

found_after : (g : Geometry) (r : Reading) (before : List Kind) (kind : Kind) (after : List Kind) (n : ℕ)
    → NoneOf g r before → first_of_kind g r [] kind ≡ Some n → first_of_kinds g r [] (before ++ kind ∷ after) ≡ Some (kind, n)
found_after g r [] kind after n none found =
    ap (λ (o : Option ℕ). option_or (option_map (λ m. (kind, m)) o) (first_of_kinds g r [] after)) found
found_after g r (earlier ∷ before) kind after n none found =
    ap (λ (o : Option ℕ). option_or (option_map (λ m. (earlier, m)) o) (first_of_kinds g r [] (before ++ kind ∷ after)))
    (All-head (λ k. first_of_kind g r [] k ≡ None) earlier before none)
    ∙ found_after g r before kind after n (All-tail (λ k. first_of_kind g r [] k ≡ None) earlier before none) found

-- the first finding is of the first kind of which there is one
pub found_at_kind : (g : Geometry) (r : Reading) (before : List Kind) (kind : Kind) (after : List Kind) (n : ℕ)
    → all_kinds ≡ before ++ kind ∷ after → NoneOf g r before → first_of_kind g r [] kind ≡ Some n → finding_of g r [] ≡ Some (kind, n)
unfolding finding_of
found_at_kind g r before kind after n order none found =
    ap (first_of_kinds g r []) order ∙ found_after g r before kind after n none found

none_of_all : (g : Geometry) (r : Reading) (kinds : List Kind) → NoneOf g r kinds → first_of_kinds g r [] kinds ≡ None
none_of_all g r [] none = refl
none_of_all g r (kind ∷ kinds) none =
    ap (λ (o : Option ℕ). option_or (option_map (λ m. (kind, m)) o) (first_of_kinds g r [] kinds)) (All-head (λ k. first_of_kind g r [] k ≡ None) kind kinds none)
    ∙ none_of_all g r kinds (All-tail (λ k. first_of_kind g r [] k ≡ None) kind kinds none)

pub nothing_found : (g : Geometry) (r : Reading) → NoneOf g r all_kinds → finding_of g r [] ≡ None
unfolding finding_of
nothing_found g r none = none_of_all g r all_kinds none
