-- A delta may stand before each that may stand after one after it.
use Rattle.std.proofs.Common.{◌≡◌, ℕ, ◌+◌, ◌/◌, ◌%◌, ◌<◌, ◌≤◌, ◌⊎◌, inl, inr, Bool, true, false, not, ltb, eqb, leb, ◌&&◌, ◌||◌, refl, sym, ◌∙◌, arith}
use Rattle.std.proofs.lemmas.Bool.{false≢true, and_parts, and_from, or_cases, or_left, or_right, cases_Bool, not-true, not_from_false, eqb-true, eqb-false, eq-eqb, ne_eqb, leb-true, le-leb, ltb-true, lt-ltb}
use Rattle.lufs_base.specs.declared.geometry.Geometry.{Geometry}
use Rattle.lufs_base.specs.declared.delta.Delta.{Delta}
use Rattle.lufs_base.specs.declared.delta.DeltaKind.{DeltaKind}
use Rattle.lufs_base.specs.declared.delta.DeltaKind.TheVariants.{Group, Inode, Chunk, Pointers, Zero, LinkText, Cancel}
use Rattle.lufs_base.specs.Kinds.{has_bytes}
use Rattle.volume_model.specs.Log.{is_part_of_block, is_zero_block, is_cancel, may_be_logged, may_precede}

-- the delta may be logged
abbrev MayBeLogged : Geometry → Delta → Type 0
MayBeLogged g d = may_be_logged g d.kind d.home d.len ≡ true

part_of_block : (g : Geometry) (kind : DeltaKind) (home len : ℕ) → may_be_logged g kind home len ≡ true → is_part_of_block kind (home % 4096) len ≡ true
unfolding may_be_logged
part_of_block g kind home len may = (and_parts _ _ may).1

equal_parts : (a b n m : ℕ) → (eqb a n && eqb b m) ≡ true → (a ≡ n) × (b ≡ m)
equal_parts a b n m test = let p : (eqb a n ≡ true) × (eqb b m ≡ true) = and_parts _ _ test in (eqb-true a n p.0, eqb-true b m p.1)

text_parts : (place len : ℕ) → (eqb place 0 && leb 1 len && leb len 1024) ≡ true → (place ≡ 0) × (len ≤ 1024)
text_parts place len test =
    let two : ((eqb place 0 && leb 1 len) ≡ true) × (leb len 1024 ≡ true) = and_parts _ _ test in
    let one : (eqb place 0 ≡ true) × (leb 1 len ≡ true) = and_parts _ _ two.0 in
    (eqb-true place 0 one.0, leb-true len 1024 two.1)

-- a delta with bytes ends inside its block
part_ends : (kind : DeltaKind) (place len : ℕ) → place < 4096 → is_part_of_block kind place len ≡ true → has_bytes kind ≡ true → place + len ≤ 4096
part_ends Group place len below part has = let p = equal_parts place len 0 416 part in omega (arith, p.0, p.1)
part_ends Inode place len below part has = let p = equal_parts (place % 128) len 0 128 part in omega (arith, p.0, p.1)
part_ends Chunk place len below part has = let p = equal_parts (place % 512) len 0 512 part in omega (arith, p.0, p.1)
part_ends Pointers place len below part has = leb-true _ _ (and_parts _ _ part).1
part_ends Zero place len below part has = absurd (false≢true has)
part_ends LinkText place len below part has = let p = text_parts place len part in omega (arith, p.0, p.1)
part_ends Cancel place len below part has = absurd (false≢true has)

-- one without bytes lies at the start of its block
part_starts : (kind : DeltaKind) (place len : ℕ) → is_part_of_block kind place len ≡ true → has_bytes kind ≡ false → place ≡ 0
part_starts Group place len part has = absurd (false≢true (sym has))
part_starts Inode place len part has = absurd (false≢true (sym has))
part_starts Chunk place len part has = absurd (false≢true (sym has))
part_starts Pointers place len part has = absurd (false≢true (sym has))
part_starts Zero place len part has = eqb-true _ _ (and_parts _ _ part).0
part_starts LinkText place len part has = absurd (false≢true (sym has))
part_starts Cancel place len part has = eqb-true _ _ (and_parts _ _ part).0

zero_has_none : (kind : DeltaKind) → is_zero_block kind ≡ true → has_bytes kind ≡ true → ⊥
zero_has_none Group zero has = false≢true zero
zero_has_none Inode zero has = false≢true zero
zero_has_none Chunk zero has = false≢true zero
zero_has_none Pointers zero has = false≢true zero
zero_has_none Zero zero has = false≢true has
zero_has_none LinkText zero has = false≢true zero
zero_has_none Cancel zero has = false≢true zero

-- what `may_precede` tests, as facts
record Precedes (d : Delta) (kind : DeltaKind) (home : ℕ) : Type 0 where
  rises : (d.home < home) ⊎ ((d.home ≡ home) × (is_zero_block d.kind ≡ true) × (is_zero_block kind ≡ false))
  apart : has_bytes d.kind ≡ true → has_bytes kind ≡ true → d.home + d.len ≤ home
  alone : (is_cancel d.kind ≡ true) ⊎ (is_cancel kind ≡ true) → d.home / 4096 ≡ home / 4096 → ⊥

rises_from : (a b : ℕ) (x y : Bool) → (ltb a b || (eqb a b && x && not y)) ≡ true → (a < b) ⊎ ((a ≡ b) × (x ≡ true) × (y ≡ false))
rises_from a b x y test =
    elim (or_cases (ltb a b) (eqb a b && x && not y) test) [
      | inl less ↦ inl (ltb-true a b less)
      | inr laid ↦
          let two = and_parts (eqb a b && x) (not y) laid in
          let one = and_parts (eqb a b) x two.0 in
          inr (eqb-true a b one.0, one.1, not-true y two.1)
    ]

rises_to : (a b : ℕ) (x y : Bool) → (a < b) ⊎ ((a ≡ b) × (x ≡ true) × (y ≡ false)) → (ltb a b || (eqb a b && x && not y)) ≡ true
rises_to a b x y rises =
    elim rises [
      | inl less ↦ or_left _ _ (lt-ltb a b less)
      | inr laid ↦ or_right _ _ (and_from _ _ (and_from _ _ (eq-eqb a b laid.0) laid.1) (not_from_false y laid.2))
    ]

apart_from : (x y z : Bool) → (not (x && y) || z) ≡ true → x ≡ true → y ≡ true → z ≡ true
apart_from true true z test first second = test
apart_from true false z test first second = absurd (false≢true second)
apart_from false y z test first second = absurd (false≢true first)

apart_to : (x y z : Bool) → (x ≡ true → y ≡ true → z ≡ true) → (not (x && y) || z) ≡ true
apart_to true true z all = all refl refl
apart_to true false z all = refl
apart_to false y z all = refl

alone_from : (x y z : Bool) → (not (x || y) || not z) ≡ true → (x ≡ true) ⊎ (y ≡ true) → z ≡ false
alone_from true y z test either = not-true z test
alone_from false true z test either = not-true z test
alone_from false false z test either = absurd (elim either [ inl e ↦ false≢true e | inr e ↦ false≢true e ])

alone_to : (x y z : Bool) → ((x ≡ true) ⊎ (y ≡ true) → z ≡ false) → (not (x || y) || not z) ≡ true
alone_to true y z all = not_from_false z (all (inl refl))
alone_to false true z all = not_from_false z (all (inr refl))
alone_to false false z all = refl

precedes_from : (d : Delta) (kind : DeltaKind) (home : ℕ) → may_precede d kind home ≡ true → Precedes d kind home
unfolding may_precede
precedes_from d kind home may =
    let two = and_parts _ _ may in
    let one = and_parts _ _ two.0 in
    record {
      rises = rises_from d.home home (is_zero_block d.kind) (is_zero_block kind) one.0;
      apart = λ first second. leb-true _ _ (apart_from (has_bytes d.kind) (has_bytes kind) _ one.1 first second);
      alone = λ either. eqb-false _ _ (alone_from (is_cancel d.kind) (is_cancel kind) _ two.1 either);
    }

-- homes rise, but from a zero block to what is laid over it
pub rises_of : (d : Delta) (kind : DeltaKind) (home : ℕ) → may_precede d kind home ≡ true
    → (d.home < home) ⊎ ((d.home ≡ home) × (is_zero_block d.kind ≡ true) × (is_zero_block kind ≡ false))
rises_of d kind home may = (precedes_from d kind home may).rises

precedes_to : (d : Delta) (kind : DeltaKind) (home : ℕ) → Precedes d kind home → may_precede d kind home ≡ true
unfolding may_precede
precedes_to d kind home is =
    and_from _ _
    (and_from _ _ (rises_to d.home home (is_zero_block d.kind) (is_zero_block kind) is.rises)
    (apart_to (has_bytes d.kind) (has_bytes kind) _ (λ first second. le-leb _ _ (is.apart first second))))
    (alone_to (is_cancel d.kind) (is_cancel kind) _ (λ either. ne_eqb _ _ (is.alone either)))

-- homes don't fall
not_below : (d : Delta) (kind : DeltaKind) (home : ℕ) → Precedes d kind home → d.home ≤ home
not_below d kind home is = elim is.rises [ inl less ↦ omega (arith, less) | inr laid ↦ omega (arith, laid.0) ]

-- a delta with bytes ends before the start of any block after it
ends_before : (g : Geometry) (p q : Delta) → MayBeLogged g p → MayBeLogged g q → Precedes p q.kind q.home
    → has_bytes p.kind ≡ true → has_bytes q.kind ≡ false → p.home + p.len ≤ q.home
ends_before g p q p_may q_may is has none =
    let ends = part_ends p.kind (p.home % 4096) p.len (omega arith) (part_of_block g p.kind p.home p.len p_may) has in
    let starts = part_starts q.kind (q.home % 4096) q.len (part_of_block g q.kind q.home q.len q_may) none in
    elim is.rises [ inl less ↦ omega (arith, ends, starts, less) | inr laid ↦ absurd (zero_has_none p.kind laid.1 has) ]

rises_through : (a b c : ℕ) (x y z : Bool) → (a < b) ⊎ ((a ≡ b) × (x ≡ true) × (y ≡ false)) → (b < c) ⊎ ((b ≡ c) × (y ≡ true) × (z ≡ false))
    → (a < c) ⊎ ((a ≡ c) × (x ≡ true) × (z ≡ false))
rises_through a b c x y z first second =
    elim first [
      | inl less ↦ elim second [ inl next ↦ inl (omega (arith, less, next)) | inr next ↦ inl (omega (arith, less, next.0)) ]
      | inr laid ↦ elim second [ inl next ↦ inl (omega (arith, next, laid.0)) | inr next ↦ absurd (false≢true (sym laid.2 ∙ next.1)) ]
    ]

precedes_through : (g : Geometry) (p q : Delta) (kind : DeltaKind) (home : ℕ) → MayBeLogged g p → MayBeLogged g q
    → Precedes p q.kind q.home → Precedes q kind home → Precedes p kind home
precedes_through g p q kind home p_may q_may first second =
    let low = not_below p q.kind q.home first in
    let high = not_below q kind home second in
    record {
      rises = rises_through p.home q.home home (is_zero_block p.kind) (is_zero_block q.kind) (is_zero_block kind) first.rises second.rises;
      apart = λ p_has has.
          elim (cases_Bool (has_bytes q.kind)) [
            | inl q_has ↦ omega (arith, high, first.apart p_has q_has)
            | inr none ↦ omega (arith, high, ends_before g p q p_may q_may first p_has none)
          ];
      alone = λ either same.
          elim either [
            | inl p_is ↦ first.alone (inl p_is) (omega (arith, low, high, same))
            | inr is ↦ second.alone (inr is) (omega (arith, low, high, same))
          ];
    }

pub may_precede_through : (g : Geometry) (p q : Delta) (kind : DeltaKind) (home : ℕ) → MayBeLogged g p → MayBeLogged g q
    → may_precede p q.kind q.home ≡ true → may_precede q kind home ≡ true → may_precede p kind home ≡ true
may_precede_through g p q kind home p_may q_may first second =
    precedes_to p kind home (precedes_through g p q kind home p_may q_may (precedes_from p q.kind q.home first) (precedes_from q kind home second))
