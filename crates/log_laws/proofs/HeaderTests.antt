-- What a log header's test says, test by test.
use Rattle.std.proofs.Common.{◌≡◌, ℕ, ◌<◌, ◌≤◌, true, List, drop, Some, None, inl, inr}
use Rattle.std.proofs.lemmas.Bool.{cases_Bool, cond-true, cond-false, and_parts, and_from, eqb-true, eq-eqb, leb-true, le-leb, ltb-true, lt-ltb}
use Rattle.lufs_base.specs.Fields.{u32_at, are_zeros}
use Rattle.lufs_base.specs.Layout.{ring_of}
use Rattle.lufs_base.specs.declared.geometry.Geometry.{Geometry}
use Rattle.volume_model.specs.declared.log.Header.{Header}
use Rattle.volume_model.specs.Log.{named_header, is_header, header_of}
use Rattle.lufs_base.proofs.TestedValue.{refused, given}

pub record IsHeader (g : Geometry) (s : List ℕ) : Type 0 where
  pub magic : u32_at s 0 ≡ 0x4C554653
  pub zeros : are_zeros (drop 16 s) ≡ true
  pub epoch : 1 ≤ u32_at s 4
  pub head : u32_at s 8 < ring_of g
  pub tid : 1 ≤ u32_at s 12

parts : (g : Geometry) (s : List ℕ) → is_header g s ≡ true → IsHeader g s
parts g s test =
    let four = and_parts _ _ test in
    let three = and_parts _ _ four.0 in
    let two = and_parts _ _ three.0 in
    let one = and_parts _ _ two.0 in
    record {
      magic = eqb-true _ _ one.0;
      zeros = one.1;
      epoch = leb-true _ _ two.1;
      head = ltb-true _ _ three.1;
      tid = leb-true _ _ four.1;
    }

pub no_header : (g : Geometry) (s : List ℕ) → (IsHeader g s → ⊥) → None ≡ header_of g s
unfolding header_of
no_header g s fails = refused (is_header g s) (named_header s) (λ test. fails (parts g s test))

pub a_header : (g : Geometry) (s : List ℕ) (h : Header) → IsHeader g s → h ≡ named_header s → Some h ≡ header_of g s
unfolding header_of
a_header g s h is same =
    given (is_header g s) (named_header s) h
    (and_from _ _ (and_from _ _ (and_from _ _ (and_from _ _ (eq-eqb _ _ is.magic) is.zeros) (le-leb _ _ is.epoch)) (lt-ltb _ _ is.head)) (le-leb _ _ is.tid))
    same

-- a sector that is a header passes each test, and names it
pub is_header_of : (g : Geometry) (s : List ℕ) (h : Header) → header_of g s ≡ Some h → IsHeader g s × (h ≡ named_header s)
unfolding header_of
is_header_of g s h is =
    elim (cases_Bool (is_header g s)) [
      | inl test ↦ (parts g s test, let given : header_of g s ≡ Some (named_header s) = cond-true (is_header g s) (Some (named_header s)) None test in cc)
      | inr test ↦ let none : header_of g s ≡ None = cond-false (is_header g s) (Some (named_header s)) None test in absurd (cc)
    ]
