-- What the tests of a word say of the number that it is.
use Rattle.std.proofs.Common.{◌≡◌, ◌≢◌, ◌<◌, ℕ, ◌^◌, true, false, List, length, Some, None, Result, Ok, Err, sym, ◌∙◌, arith, rules}
use Rattle.std.specs.Prelude.{slice_index}
use Rattle.std.specs.Result.{OkIff, result_ok}
use Rattle.std.specs.Str.{all_ascii_digits}
use Rattle.std.specs.Str.Parse.{ParsesUnsigned}
use Rattle.std.proofs.lemmas.Bool.{and_parts, and_from, ltb-true, lt-ltb, not-true, not_from_false, false≢true}
use Rattle.std.proofs.lemmas.Str.Parse.{IsNumeralModel, numerals_by_fold, parse_plain, not_in_digits}
use Rattle.lufs_base.proofs.TestedValue.{refused, given}
use Rattle.lufs_top.specs.Numbers.{digits_from, digits_number, has_leading_zero, is_number, number_of}

own : IsNumeralModel (λ ds. all_ascii_digits ds ≡ true) (digits_from 0)
own = numerals_by_fold _ (search rules) digits_from (search rules)

pub record IsNumber (text : List ℕ) : Type 0 where
  pub digits : all_ascii_digits text ≡ true
  pub some : 0 < length text
  pub plain : has_leading_zero text ≡ false
  pub fits : digits_number text < 2 ^ 64

parts : (text : List ℕ) → is_number text ≡ true → IsNumber text
parts text test =
    let three = and_parts _ _ test in
    let two = and_parts _ _ three.0 in
    let one = and_parts _ _ two.0 in
    record {
      digits = one.0;
      some = ltb-true _ _ one.1;
      plain = not-true _ two.1;
      fits = ltb-true _ _ three.1;
    }

pub no_number : (text : List ℕ) → (IsNumber text → ⊥) → None ≡ number_of text
unfolding number_of
no_number text fails = refused (is_number text) (digits_number text) (λ test. fails (parts text test))

pub a_number : (text : List ℕ) (n : ℕ) → IsNumber text → n ≡ digits_number text → Some n ≡ number_of text
unfolding number_of
a_number text n is same =
    given (is_number text) (digits_number text) n
    (and_from _ _ (and_from _ _ (and_from _ _ is.digits (lt-ltb _ _ is.some)) (not_from_false _ is.plain)) (lt-ltb _ _ is.fits))
    same

-- a sign is no digit
pub no_sign : (text : List ℕ) → slice_index text 0 ≡ 43 → IsNumber text → ⊥
no_sign text sign is = not_in_digits own text 43 is.digits (λ range. omega (arith, range)) 0 is.some sign

pub no_zero : (text : List ℕ) → has_leading_zero text ≡ true → IsNumber text → ⊥
no_zero text zero is = false≢true (sym is.plain ∙ zero)

-- a text that begins with no sign and no leading zero is read as its number
pub parsed : {E : Type 0} (text : List ℕ) (r : Result ℕ E) → ParsesUnsigned 64 10 text r → slice_index text 0 ≢ 43 → has_leading_zero text ≡ false → result_ok r ≡ number_of text
parsed {E = E} text r parses sign plain = from r (parse_plain own 64 text r parses sign)
  where
    from : (r : Result ℕ E) → OkIff r ((all_ascii_digits text ≡ true) × (0 < length text) × (digits_number text < 2 ^ 64)) (digits_number text) → result_ok r ≡ number_of text
    from (Ok n) is = a_number text n (record { digits = is.0.0; some = is.0.1; plain = plain; fits = is.0.2 }) is.1
    from (Err e) is = no_number text (λ number. is (number.digits, number.some, number.fits))
