use Rattle.std.proofs.Common.{◌≡◌, ℕ, ◌+◌, ◌<◌, ◌^◌, List, [], length, get_or, drop, Some, None, refl, sym, ◌∙◌, ap, arith}
use Rattle.std.specs.Prelude.{option_and_then, Option}
use Rattle.std.proofs.lemmas.List.{at_drop_more, at_drop_all}
use Rattle.std.proofs.lemmas.Bool.{lt-ltb}
use Rattle.script_text.specs.Digits.{with_digit, digits_after}
use Rattle.script_text.proofs.DigitLemmas.{digits_after-cons}
use Rattle.script_text.proofs.numbers.digits_of.Goals as goal

one_more : (n : ℕ) (bytes : List ℕ) (i d : ℕ) → i < length bytes → digits_after n (drop i bytes) ≡ option_and_then (λ m. digits_after m (drop (i + 1) bytes)) (with_digit n (get_or bytes i d))
one_more n bytes i d h = at_drop_more (digits_after n) bytes i d h ∙ digits_after-cons n (get_or bytes i d) (drop (i + 1) bytes)

stops : (n : ℕ) (bytes : List ℕ) (i d : ℕ) → i < length bytes → None ≡ with_digit n (get_or bytes i d) → digits_after n (drop i bytes) ≡ None
stops n bytes i d h e = one_more n bytes i d h ∙ ap (λ (o : Option ℕ). option_and_then (λ m. digits_after m (drop (i + 1) bytes)) o) (sym e)

goes : (n m : ℕ) (bytes : List ℕ) (i d : ℕ) → i < length bytes → Some m ≡ with_digit n (get_or bytes i d) → digits_after n (drop i bytes) ≡ digits_after m (drop (i + 1) bytes)
goes n m bytes i d h e = one_more n bytes i d h ∙ ap (λ (o : Option ℕ). option_and_then (λ m. digits_after m (drop (i + 1) bytes)) o) (sym e)

none_left : (n : ℕ) → n < 2 ^ 64 → digits_after n [] ≡ Some n
none_left n h = rw (lt-ltb n (2 ^ 64) h) refl

pub returns-in_err-number : goal.returns-in_err-number
returns-in_err-number c =
    c.from_residual.ensures ∙ sym (c.loop-b.invariant.value ∙ stops c.loop-b.number c.args.word.now c.loop-b.b-index _ (omega arith) c.in_err-number.ensures)

pub loop-b-preserved : goal.loop-b-preserved
loop-b-preserved c = record {
  value = c.loop-b.invariant.value ∙ goes c.loop-b.number c.in_ok-number.number c.args.word.now c.loop-b.b-index _ (omega arith) c.in_ok-number.ensures;
  small = omega arith;
}

pub returns : goal.returns
returns c = sym (c.loop-b.invariant.value ∙ at_drop_all (digits_after c.loop-b.number) c.args.word.now c.loop-b.b-index (omega arith) ∙ none_left c.loop-b.number c.loop-b.invariant.small)
