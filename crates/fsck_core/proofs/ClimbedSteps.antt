-- Where the steps up lead: twice as far with each pass, and to the root or not.
use Rattle.std.proofs.Common.{◌≡◌, ◌<◌, ℕ, zero, suc, ◌+◌, ◌==◌, true, List, [], ◌∷◌, length, map, slice_index, Result, Ok, Err, IfOk, Vec, Global, refl, sym, ap, subst, ◌∙◌, arith}
use Rattle.std.proofs.lemmas.List.{length-map, get_or-map, ext_get_or}
use Rattle.std.proofs.lemmas.List.FromFn.{length-range_with_len, get_or-range_with_len, length-map-range_with_len, get_or-map-range_with_len}
use Rattle.std.proofs.lemmas.Bool.{and_parts, eqb-true}
use Rattle.std.specs.List.{list_all, range_with_len}
use Rattle.fsck_core.specs.StepsUp.{stepped, IsClosed, LeadsUp}

-- After some passes: so many steps are left, each is one of `step`, and they begin where `far` says.
pub record Climbs (above : List ℕ) (steps left : ℕ) (step far : List ℕ) : Type 0 where
  pub step_size : length step ≡ length above
  pub far_size : length far ≡ length above
  pub closed : IsClosed above → IsClosed step
  pub inside : IsClosed above → (i : ℕ) → i < length above → slice_index far i < length above
  pub each : IsClosed above → (i : ℕ) → i < length above → stepped step left (slice_index far i) ≡ stepped above steps i

-- what composed lists have at a place
composed_at : (step far : List ℕ) (i : ℕ) → i < length far → slice_index (map (slice_index step) far) i ≡ slice_index step (slice_index far i)
composed_at step far i inside = get_or-map (slice_index step) far i 0 0 inside

pub climb_begun : (above : List ℕ) (steps : ℕ) (step far : List ℕ) → step ≡ above → far ≡ range_with_len 0 (length above) → Climbs above steps steps step far
climb_begun above steps step far same is =
    let at : (i : ℕ) → i < length above → slice_index far i ≡ i =
    λ i less. ap (λ (xs : List ℕ). slice_index xs i) is ∙ get_or-range_with_len 0 (length above) i 0 less ∙ (omega arith) in
    record {
      step_size = ap length same;
      far_size = ap length is ∙ length-range_with_len 0 (length above);
      closed = λ closed. subst IsClosed (sym same) closed;
      inside = λ closed i less. omega (arith, at i less);
      each = λ closed i less. ap (λ (xs : List ℕ). stepped xs steps (slice_index far i)) same ∙ ap (stepped above steps) (at i less);
    }

-- one of the steps that are left is taken
pub step_taken : (above : List ℕ) (steps left less : ℕ) (step far more : List ℕ) → left ≡ suc less → more ≡ map (slice_index step) far → Climbs above steps left step far → Climbs above steps less step more
step_taken above steps left less step far more one is climbs =
    let size : length more ≡ length above = ap length is ∙ length-map far (slice_index step) ∙ climbs.far_size in
    let at : (i : ℕ) → i < length above → slice_index more i ≡ slice_index step (slice_index far i) =
    λ i below. ap (λ (xs : List ℕ). slice_index xs i) is ∙ composed_at step far i (omega (arith, climbs.far_size)) in
    record {
      step_size = climbs.step_size;
      far_size = size;
      closed = climbs.closed;
      inside = λ closed i below.
          omega (arith, at i below, climbs.step_size, climbs.closed closed (slice_index far i) (omega (arith, climbs.step_size, climbs.inside closed i below)));
      each = λ closed i below. ap (stepped step less) (at i below) ∙ ap (λ (n : ℕ). stepped step n (slice_index far i)) (sym one) ∙ climbs.each closed i below;
    }

stepped_twice : (step twice : List ℕ) → IsClosed step → ((i : ℕ) → i < length step → slice_index twice i ≡ slice_index step (slice_index step i))
    → (half i : ℕ) → i < length step → stepped twice half i ≡ stepped step (half + half) i
stepped_twice step twice closed two zero i inside = refl
stepped_twice step twice closed two (suc half) i inside =
    let e : suc half + suc half ≡ suc (suc (half + half)) = omega arith in
    let next = slice_index step (slice_index step i) in
    ap (stepped twice half) (two i inside) ∙ stepped_twice step twice closed two half next (closed (slice_index step i) (closed i inside)) ∙ ap (λ (n : ℕ). stepped step n i) (sym e)

-- half as many steps, each of two
pub steps_doubled : (above : List ℕ) (steps left half : ℕ) (step far twice : List ℕ) → left ≡ half + half → twice ≡ map (slice_index step) step → Climbs above steps left step far
    → Climbs above steps half twice far
steps_doubled above steps left half step far twice even is climbs =
    let size : length twice ≡ length step = ap length is ∙ length-map step (slice_index step) in
    let at : (i : ℕ) → i < length step → slice_index twice i ≡ slice_index step (slice_index step i) =
    λ i less. ap (λ (xs : List ℕ). slice_index xs i) is ∙ composed_at step step i less in
    record {
      step_size = size ∙ climbs.step_size;
      far_size = climbs.far_size;
      closed = λ closed i less.
          let inside = climbs.closed closed in
          omega (arith, size, at i (omega (arith, size)), inside (slice_index step i) (inside i (omega (arith, size))));
      inside = climbs.inside;
      each = λ closed i less.
          stepped_twice step twice (climbs.closed closed) at half (slice_index far i) (omega (arith, climbs.step_size, climbs.inside closed i less))
          ∙ ap (λ (n : ℕ). stepped step n (slice_index far i)) (sym even) ∙ climbs.each closed i less;
    }

-- where a step of two leads no further than one, many lead no further
idle : (step : List ℕ) → IsClosed step → map (slice_index step) step ≡ step → (n i : ℕ) → i < length step → stepped step (suc n) i ≡ slice_index step i
idle step closed same zero i inside = refl
idle step closed same (suc n) i inside =
    idle step closed same n (slice_index step i) (closed i inside) ∙ sym (composed_at step step i inside) ∙ ap (λ (xs : List ℕ). slice_index xs i) same

pub climb_settled : (above : List ℕ) (steps left less : ℕ) (step far more : List ℕ) → left ≡ suc less → map (slice_index step) step ≡ step → more ≡ map (slice_index step) far
    → Climbs above steps left step far → LeadsUp above steps more
climb_settled above steps left less step far more one same is climbs = record {
  size = ap length is ∙ length-map far (slice_index step) ∙ climbs.far_size;
  each = λ closed i below.
      ap (λ (xs : List ℕ). slice_index xs i) is ∙ composed_at step far i (omega (arith, climbs.far_size, below))
      ∙ sym (idle step (climbs.closed closed) same less (slice_index far i) (omega (arith, climbs.step_size, climbs.inside closed i below)))
      ∙ ap (λ (n : ℕ). stepped step n (slice_index far i)) (sym one) ∙ climbs.each closed i below;
}

pub climb_settled_in : {E : Type 0} (above : List ℕ) (steps left less : ℕ) (step far second first : List ℕ) (more : Result (Vec ℕ Global) E) → left ≡ suc less → map (slice_index step) step ≡ step
    → first ≡ far → second ≡ step → IfOk more (λ v. v.items ≡ map (slice_index second) first) → Climbs above steps left step far → IfOk more (λ v. LeadsUp above steps v.items)
climb_settled_in above steps left less step far second first (Ok v) one same of_far of_step is climbs =
    climb_settled above steps left less step far v.items one same (is ∙ ap (λ (xs : List ℕ). map (slice_index xs) first) of_step ∙ ap (map (slice_index step)) of_far) climbs
climb_settled_in above steps left less step far second first (Err e) one same of_far of_step is climbs = tt

pub climb_ended : (above : List ℕ) (steps left : ℕ) (step far : List ℕ) → left ≡ 0 → Climbs above steps left step far → LeadsUp above steps far
climb_ended above steps left step far none climbs = record {
  size = climbs.far_size;
  each = λ closed i less. ap (λ (n : ℕ). stepped step n (slice_index far i)) (sym none) ∙ climbs.each closed i less;
}

-- the numbers that a list has at its places
pub at_each_place : (xs : List ℕ) → map (slice_index xs) (range_with_len 0 (length xs)) ≡ xs
at_each_place xs =
    let n = length xs in
    ext_get_or 0 (map (slice_index xs) (range_with_len 0 n)) xs (length-map-range_with_len (slice_index xs) 0 n) (λ i below.
    get_or-map-range_with_len (slice_index xs) 0 n i i 0 (omega (arith, below, length-map-range_with_len (slice_index xs) 0 n)) (omega arith))

-- numbers each of which stays
pub each_stays : (f : ℕ → ℕ) (xs : List ℕ) → list_all (λ i. f i == i) xs ≡ true → map f xs ≡ xs
each_stays f [] stays = refl
each_stays f (x ∷ xs) stays =
    let both = and_parts (f x == x) (list_all (λ i. f i == i) xs) stays in
    ap (λ (y : ℕ). y ∷ map f xs) (eqb-true (f x) x both.0) ∙ ap (λ (l : List ℕ). x ∷ l) (each_stays f xs both.1)
