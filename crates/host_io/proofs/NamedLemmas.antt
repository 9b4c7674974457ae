-- Entries by name: look-ups after a change of the first entry of a name.
use Rattle.std.proofs.Common.{◌≡◌, ℕ, zero, suc, ◌<◌, Bool, true, false, cond, List, [], ◌∷◌, ◌++◌, length, get_or, set, take, Option, Some, None, refl, sym, ◌∙◌, ap, arith}
use Rattle.std.specs.Prelude.{bytes_eq, OnSome}
use Rattle.std.proofs.Math.Path.{fun_ext}
use Rattle.std.proofs.lemmas.Bool.{cond-true, cond-false}
use Rattle.std.proofs.lemmas.Slice.Eq.{bytes_eq-Decides}
use Rattle.host_io.specs.declared.named.Named.{Named}
use Rattle.host_io.specs.Places.{Place, Places, nothing, here_of, with_place}
use Rattle.host_io.specs.Named.{place_with, places_of, IsAbsent, IsFirst}

-- a choice made twice is made once
chosen_twice : {P : Type 0} (b : Bool) (x y rest : P) → cond b x rest ≡ cond b x (cond b y rest)
chosen_twice true x y rest = refl
chosen_twice false x y rest = refl

-- two choices that don't meet may be made in either order
choices_apart : {P : Type 0} (a b : Bool) (x y rest : P) → (a ≡ true → b ≡ true → ⊥) → cond a x (cond b y rest) ≡ cond b y (cond a x rest)
choices_apart true true x y rest apart = absurd (apart refl refl)
choices_apart true false x y rest apart = refl
choices_apart false true x y rest apart = refl
choices_apart false false x y rest apart = refl

-- two names that differ aren't both the one that is looked up
names_apart : (a b q : List ℕ) → bytes_eq a b ≡ false → bytes_eq a q ≡ true → bytes_eq b q ≡ true → ⊥
names_apart a b q differ first second =
    let same : bytes_eq a b ≡ true = (bytes_eq-Decides a b).1 ((bytes_eq-Decides a q).0 first ∙ sym ((bytes_eq-Decides b q).0 second)) in
    cc

pub here_of-place_with : {T : Type 0} (held : Option T) → here_of (place_with held) ≡ held
here_of-place_with None = refl
here_of-place_with (Some x) = refl

module _ {T : Type 0} (name : List ℕ) where
  pub absent_more : (es : List (Named T)) (i : ℕ) (d : Named T) → i < length es → IsAbsent name (take i es)
      → bytes_eq (get_or es i d).name name ≡ false → IsAbsent name (take (suc i) es)
  absent_more [] i d within before found = absurd (omega arith)
  absent_more (e ∷ es) zero d within before found = (found, tt)
  absent_more (e ∷ es) (suc i) d within before found = (before.0, absent_more es i d (omega arith) before.1 found)

  pub first_at : (es : List (Named T)) (i : ℕ) (d : Named T) → i < length es → IsAbsent name (take i es)
      → bytes_eq (get_or es i d).name name ≡ true → IsFirst name es i
  first_at [] i d within before found = absurd (omega arith)
  first_at (e ∷ es) zero d within before found = found
  first_at (e ∷ es) (suc i) d within before found = (before.0, first_at es i d (omega arith) before.1 found)

  pub first_within : (es : List (Named T)) (i : ℕ) → IsFirst name es i → i < length es
  first_within [] i first = absurd first
  first_within (e ∷ es) zero first = omega arith
  first_within (e ∷ es) (suc i) first = omega (arith, first_within es i first.1)

  pub places_of-first : (es : List (Named T)) (i : ℕ) (d : Named T) → IsFirst name es i → places_of es name ≡ place_with (get_or es i d).held
  places_of-first [] i d first = absurd first
  places_of-first (e ∷ es) zero d first = cond-true _ (place_with e.held) (places_of es name) first
  places_of-first (e ∷ es) (suc i) d first = cond-false _ (place_with e.held) (places_of es name) first.0 ∙ places_of-first es i d first.1

  pub places_of-absent : (es : List (Named T)) → IsAbsent name es → places_of es name ≡ nothing
  places_of-absent [] absent = refl
  places_of-absent (e ∷ es) absent = cond-false _ (place_with e.held) (places_of es name) absent.0 ∙ places_of-absent es absent.1

  -- what the name stood for, read through its first entry
  pub places_of-read : (es : List (Named T)) (i : ℕ) (e : Named T) → e ≡ get_or es i e → IsFirst name es i → places_of es name ≡ place_with e.held
  places_of-read es i e read first = places_of-first es i e first ∙ ap (λ (x : Named T). place_with x.held) (sym read)

  module _ (x : Named T) where
    set_at : (q : List ℕ) (es : List (Named T)) (i : ℕ) (d : Named T) → IsFirst name es i → x.name ≡ (get_or es i d).name
        → places_of (set es i x) q ≡ with_place (places_of es) name (place_with x.held) q
    set_at q [] i d first same = absurd first
    set_at q (e ∷ es) zero d first same =
        let entry : e.name ≡ name = (bytes_eq-Decides e.name name).0 first in
        ap (λ (n : List ℕ). cond (bytes_eq n q) (place_with x.held) (places_of es q)) (same ∙ entry)
        ∙ chosen_twice (bytes_eq name q) (place_with x.held) (place_with e.held) (places_of es q)
        ∙ ap (λ (n : List ℕ). cond (bytes_eq name q) (place_with x.held) (cond (bytes_eq n q) (place_with e.held) (places_of es q))) (sym entry)
    set_at q (e ∷ es) (suc i) d first same =
        ap (λ (r : Place T). cond (bytes_eq e.name q) (place_with e.held) r) (set_at q es i d first.1 same)
        ∙ choices_apart (bytes_eq e.name q) (bytes_eq name q) (place_with e.held) (place_with x.held) (places_of es q) (names_apart e.name name q first.0)

    -- the first entry of the name is replaced by one of the same name
    pub places_of-set : (es : List (Named T)) (i : ℕ) (d : Named T) → IsFirst name es i → x.name ≡ (get_or es i d).name
        → places_of (set es i x) ≡ with_place (places_of es) name (place_with x.held)
    places_of-set es i d first same = fun_ext (λ q. set_at q es i d first same)

    push_at : (q : List ℕ) (es : List (Named T)) → IsAbsent name es → x.name ≡ name
        → places_of (es ++ x ∷ []) q ≡ with_place (places_of es) name (place_with x.held) q
    push_at q [] absent same = ap (λ (n : List ℕ). cond (bytes_eq n q) (place_with x.held) nothing) same
    push_at q (e ∷ es) absent same =
        ap (λ (r : Place T). cond (bytes_eq e.name q) (place_with e.held) r) (push_at q es absent.1 same)
        ∙ choices_apart (bytes_eq e.name q) (bytes_eq name q) (place_with e.held) (place_with x.held) (places_of es q) (names_apart e.name name q absent.0)

    -- an entry of a new name comes last
    pub places_of-push : (es : List (Named T)) → IsAbsent name es → x.name ≡ name
        → places_of (es ++ x ∷ []) ≡ with_place (places_of es) name (place_with x.held)
    places_of-push es absent same = fun_ext (λ q. push_at q es absent same)

pub on_some : {T : Type 0} (o : Option T) (P : Type 0) → P → OnSome o P
on_some None P is = tt
on_some (Some x) P is = is

pub with_place-name : {T : Type 0} (places : Places T) (name : List ℕ) (p : Place T) → with_place places name p name ≡ p
with_place-name places name p = cond-true _ p (places name) ((bytes_eq-Decides name name).1 refl)

pub with_place-twice : {T : Type 0} (places : Places T) (name : List ℕ) (p q : Place T) → with_place (with_place places name p) name q ≡ with_place places name q
with_place-twice places name p q = fun_ext (λ other. sym (chosen_twice (bytes_eq name other) q p (places other)))
