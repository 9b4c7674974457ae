use Rattle.std.proofs.Common.{◌≡◌, ◌<◌, ◌^◌, drop}
use Rattle.script_text.specs.Digits.{digits_after}
use Rattle.script_text.proofs.numbers.digits_of.Given as goal

abbrev pub invariant-loop-b : goal.invariant-loop-b
invariant-loop-b l = record { value : digits_after 0 l.word ≡ digits_after l.number (drop l.b-index l.word); small : l.number < 2 ^ 64 }
