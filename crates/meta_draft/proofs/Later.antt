-- The last of the values that the elements of a list give.
use Rattle.std.proofs.Common.{◌≡◌, List, [], ◌∷◌, Option, Some, None, refl, sym, ap, ◌∙◌}
use Rattle.std.specs.Prelude.{All}
use Rattle.std.specs.List.{filter_map, last_or, cons_option}
use Rattle.std.proofs.lemmas.List.Elements.{All-head, All-tail}

-- the later value, or the earlier one where there is none
abbrev pub later : {Y : Type 0} → Option Y → Option Y → Option Y
later (Some y) earlier = Some y
later None earlier = earlier

abbrev pub last_given : {X Y : Type 0} → (X → Option Y) → List X → Option Y
last_given f xs = last_or None (filter_map f xs)

pub later_none : {Y : Type 0} (o : Option Y) → later o None ≡ o
later_none (Some y) = refl
later_none None = refl

pub later_later : {Y : Type 0} (o p q : Option Y) → later (later o p) q ≡ later o (later p q)
later_later (Some y) p q = refl
later_later None p q = refl

by_last : {Y : Type 0} (l : Option Y) (y : Y) (o : Option Y) → later (later l (Some y)) o ≡ later l (Some y)
by_last (Some z) y o = refl
by_last None y o = refl

last_from : {Y : Type 0} (o : Option Y) (ys : List Y) → last_or o ys ≡ later (last_or None ys) o
last_from o [] = refl
last_from {Y} o (y ∷ ys) = last_from (Some y) ys ∙ sym (by_last (last_or None ys) y o) ∙ ap (λ (l : Option Y). later l o) (sym (last_from (Some y) ys))

by_value : {Y : Type 0} (o : Option Y) (ys : List Y) → last_or None (cons_option o ys) ≡ later (last_or None ys) o
by_value (Some y) ys = last_from (Some y) ys
by_value None ys = sym (later_none (last_or None ys))

-- the first element gives its value where no other gives one
pub given_first : {X Y : Type 0} (f : X → Option Y) (x : X) (xs : List X) → last_given f (x ∷ xs) ≡ later (last_given f xs) (f x)
given_first f x xs = by_value (f x) (filter_map f xs)

-- elements that give nothing
pub none_given : {X Y : Type 0} (f : X → Option Y) (xs : List X) → All (λ x. f x ≡ None) xs → last_given f xs ≡ None
none_given f [] none = refl
none_given {X} {Y} f (x ∷ xs) none =
    given_first f x xs ∙ ap (λ (o : Option Y). later (last_given f xs) o) (All-head (λ x. f x ≡ None) x xs none) ∙ later_none (last_given f xs) ∙ none_given f xs (All-tail (λ x. f x ≡ None) x xs none)
