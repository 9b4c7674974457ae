-- Texts that are put one after the other.
use Rattle.std.proofs.Common.{◌≡◌, ℕ, ◌+◌, true, List, [], ◌++◌, length, Result, Ok, Err, sym, ◌∙◌, ap, arith, append_assoc, length-append, append-nil, subst}
use Rattle.std.specs.Prelude.{IfOk}
use Rattle.script_text.specs.Output.{Told, Puts}

pub puts_both : {a b : List ℕ} {old mid new : Told} → Puts a old mid → Puts b mid new → Puts (a ++ b) old new
puts_both {a} {b} {old} {mid} {new} first second = record {
  stays = λ whole. first.stays (second.stays whole);
  text = λ whole. second.text whole ∙ ap (λ (l : List ℕ). l ++ b) (first.text (second.stays whole)) ∙ append_assoc old.text a b;
  sure = λ whole fits.
      let both : length (a ++ b) ≡ length a + length b = length-append a b in
      let one = first.sure whole (omega arith) in
      let room = first.room one in
      second.sure one (omega arith);
  room = λ whole.
      let both : length (a ++ b) ≡ length a + length b = length-append a b in
      let one = first.room (second.stays whole) in
      let two = second.room whole in
      omega arith;
}

-- nothing is put
pub puts_none : (told : Told) → Puts [] told told
puts_none told = record {
  stays = λ whole. whole;
  text = λ whole. sym (append-nil told.text);
  sure = λ whole fits. whole;
  room = λ whole. omega arith;
}

-- what is taken from an output that began empty is what was put
pub taken : {E : Type 0} {text : List ℕ} {start last : Told} (r : Result (List ℕ) E) → start.text ≡ [] → Puts text start last → IfOk r (λ bytes. last.whole ≡ true) → IfOk r (λ bytes. bytes ≡ last.text) → IfOk r (λ bytes. bytes ≡ text)
taken {text = text} (Ok bytes) empty puts whole is = is ∙ puts.text whole ∙ ap (λ (l : List ℕ). l ++ text) empty
taken (Err e) empty puts whole is = tt

pub puts_as : {a b : List ℕ} {old new : Told} → a ≡ b → Puts a old new → Puts b old new
puts_as {old = old} {new = new} same puts = subst (λ (l : List ℕ). Puts l old new) same puts
