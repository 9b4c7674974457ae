-- A source that is read piece by piece.
use Rattle.std.proofs.Common.{◌≡◌, ◌<◌, ◌∙◌, ℕ, ◌+◌, List, ◌++◌, length, drop, Some, None, Err, refl, ap, sym, arith, length-append}
use Rattle.std.specs.Prelude.{Option, option_map, IfSome}
use Rattle.std.proofs.Math.Seq.{drop-append-add}
use Rattle.host_io.specs.declared.whole.ReadError.TheVariants.{TooLong}
use Rattle.host_io.specs.Source.{SourceTold, GivesFirst, ReadsWhole}

-- these bytes were taken, and no take failed
pub record IsPart (bytes : List ℕ) (old now : SourceTold) : Type 0 where
  pub left : old.left ≡ option_map (λ rest. bytes ++ rest) now.left
  pub faults : now.faults ≡ old.faults

dropped : (n m : ℕ) (bytes : List ℕ) (now : Option (List ℕ)) → length bytes + n ≡ m
    → option_map (drop n) now ≡ option_map (drop m) (option_map (λ rest. bytes ++ rest) now)
dropped n m bytes None is = refl
dropped n m bytes (Some rest) is = ap Some (sym (drop-append-add bytes rest n) ∙ ap (λ (k : ℕ). drop k (bytes ++ rest)) is)

longer : (limit n : ℕ) (bytes buffer : List ℕ) (now : Option (List ℕ)) → length bytes + n ≡ limit + 1 → IfSome now (GivesFirst n buffer)
    → IfSome (option_map (λ rest. bytes ++ rest) now) (λ left. limit < length left)
longer limit n bytes buffer None is given = tt
longer limit n bytes buffer (Some rest) is given = let within = given.within in rw length-append (omega (arith, is, within))

-- a piece more, with one byte past the limit
pub past_limit : (limit n : ℕ) (bytes buffer : List ℕ) (old now new : SourceTold) → IsPart bytes old now → IfSome now.left (GivesFirst n buffer)
    → new ≡ record now { left = option_map (drop n) now.left } → length bytes + n ≡ limit + 1 → ReadsWhole limit (Err TooLong) old new
past_limit limit n bytes buffer old now new part given is past = record {
  bytes = tt;
  within = tt;
  end = tt;
  too_long = λ _. rw part.left (longer limit n bytes buffer now.left past given);
  past = λ _. ap (λ (told : SourceTold). told.left) is ∙ rw part.left (dropped n (limit + 1) bytes now.left past);
  fault = λ other. grind (arith, other);
  no_fault = λ _. ap (λ (told : SourceTold). told.faults) is ∙ part.faults;
}
