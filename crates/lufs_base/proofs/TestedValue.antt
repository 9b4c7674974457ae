-- A value that is given exactly where a test passes.
use Rattle.std.proofs.Common.{◌≡◌, Bool, true, cond, Some, None, sym, ◌∙◌, ap}
use Rattle.std.proofs.lemmas.Bool.{cond-true, cond-false, false_from_ne_true}

pub refused : {X : Type 0} (test : Bool) (x : X) → (test ≡ true → ⊥) → None ≡ cond test (Some x) None
refused test x fails = sym (cond-false test (Some x) None (false_from_ne_true test fails))

pub given : {X : Type 0} (test : Bool) (x y : X) → test ≡ true → y ≡ x → Some y ≡ cond test (Some x) None
given test x y passes same = ap (λ z. Some z) same ∙ sym (cond-true test (Some x) None passes)
