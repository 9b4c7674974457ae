-- The tests hold just where the deltas may be those of one transaction.
use Rattle.std.proofs.Common.{◌≡◌, ◌<◌, ◌≤◌, ℕ, suc, ◌+◌, Bool, true, List, [], ◌∷◌, length, get_or, refl, arith}
use Rattle.std.specs.Prelude.{◌==◌, ◌&&◌, ◌↔◌}
use Rattle.std.specs.List.{All, AllPairs, list_all}
use Rattle.std.proofs.lemmas.Bool.{and_parts, and_from}
use Rattle.std.proofs.lemmas.Bool.Decides.{Decides-eqb}
use Rattle.std.proofs.lemmas.List.Elements.{All-nil, All-cons, All-head, All-tail, All-from_get_or}
use Rattle.std.proofs.lemmas.List.Kept.{AllPairs-cons}
use Rattle.lufs_base.specs.declared.geometry.Geometry.{Geometry}
use Rattle.lufs_base.specs.declared.delta.Delta.{Delta}
use Rattle.volume_model.specs.Log.{AreLoggable, may_be_logged, logged_len, may_precede}
use Rattle.log_format.specs.Loggable.{is_logged, precedes, are_in_order}

-- a test of each element
pub all_by : {X : Type 0} (p : X → Bool) (P : X → Type 0) → ((x : X) → p x ≡ true → P x) → (xs : List X) → list_all p xs ≡ true → All P xs
all_by p P each [] all = All-nil P
all_by p P each (x ∷ xs) all =
    let parts = and_parts (p x) (list_all p xs) all in
    All-cons P x xs (each x parts.0) (all_by p P each xs parts.1)

pub all_to : {X : Type 0} (p : X → Bool) (P : X → Type 0) → ((x : X) → P x → p x ≡ true) → (xs : List X) → All P xs → list_all p xs ≡ true
all_to p P each [] all = refl
all_to p P each (x ∷ xs) all = and_from (p x) (list_all p xs) (each x (All-head P x xs all)) (all_to p P each xs (All-tail P x xs all))

All_both : {X : Type 0} (P Q : X → Type 0) (xs : List X) → All P xs → All Q xs → All (λ x. P x × Q x) xs
All_both P Q [] ps qs = All-nil (λ x. P x × Q x)
All_both P Q (x ∷ xs) ps qs = All-cons (λ x. P x × Q x) x xs (All-head P x xs ps, All-head Q x xs qs) (All_both P Q xs (All-tail P x xs ps) (All-tail Q x xs qs))

abbrev Precedes : Delta → Delta → Type 0
Precedes d later = may_precede d later.kind later.home ≡ true

ordered : (deltas : List Delta) → are_in_order deltas ≡ true → AllPairs Precedes deltas
ordered [] all = λ i j d low high. absurd (omega (arith, high))
ordered (d ∷ deltas) all =
    let parts = and_parts (list_all (precedes d) deltas) (are_in_order deltas) all in
    AllPairs-cons Precedes d deltas (all_by (precedes d) (Precedes d) (λ later is. is) deltas parts.0) (ordered deltas parts.1)

in_order : (deltas : List Delta) → AllPairs Precedes deltas → are_in_order deltas ≡ true
in_order [] pairs = refl
in_order (d ∷ deltas) pairs =
    and_from (list_all (precedes d) deltas) (are_in_order deltas)
    (all_to (precedes d) (Precedes d) (λ later is. is) deltas (All-from_get_or (Precedes d) deltas d (λ k below. pairs 0 (suc k) d (omega arith) (omega (arith, below)))))
    (in_order deltas (λ i j e low high. pairs (suc i) (suc j) e (omega (arith, low)) (omega (arith, high))))

logged_parts : (g : Geometry) (d : Delta) → is_logged g d ≡ true → (may_be_logged g d.kind d.home d.len ≡ true) × (length d.bytes ≡ logged_len d.kind d.len)
logged_parts g d is =
    let parts = and_parts (may_be_logged g d.kind d.home d.len) (length d.bytes == logged_len d.kind d.len) is in
    (parts.0, (Decides-eqb (length d.bytes) (logged_len d.kind d.len)).0 parts.1)

module _ (g : Geometry) (deltas : List Delta) where
  pub loggable : (list_all (is_logged g) deltas && are_in_order deltas) ≡ true → AreLoggable g deltas
  loggable is =
      let parts = and_parts (list_all (is_logged g) deltas) (are_in_order deltas) is in
      record {
        table = all_by (is_logged g) (λ d. may_be_logged g d.kind d.home d.len ≡ true) (λ d one. (logged_parts g d one).0) deltas parts.0;
        order = ordered deltas parts.1;
        bytes = all_by (is_logged g) (λ d. length d.bytes ≡ logged_len d.kind d.len) (λ d one. (logged_parts g d one).1) deltas parts.0;
      }

  pub loggable_passes : AreLoggable g deltas → (list_all (is_logged g) deltas && are_in_order deltas) ≡ true
  loggable_passes is =
      let each = All_both (λ d. may_be_logged g d.kind d.home d.len ≡ true) (λ d. length d.bytes ≡ logged_len d.kind d.len) deltas is.table is.bytes in
      and_from (list_all (is_logged g) deltas) (are_in_order deltas)
      (all_to (is_logged g) (λ d. (may_be_logged g d.kind d.home d.len ≡ true) × (length d.bytes ≡ logged_len d.kind d.len))
      (λ d one. and_from (may_be_logged g d.kind d.home d.len) (length d.bytes == logged_len d.kind d.len) one.0 ((Decides-eqb (length d.bytes) (logged_len d.kind d.len)).1 one.1))
      deltas each)
      (in_order deltas is.order)
