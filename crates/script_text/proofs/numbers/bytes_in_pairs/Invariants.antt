use Rattle.std.proofs.Common.{◌≡◌, ◌++◌, true, length}
use Rattle.std.specs.List.{list_all}
use Rattle.history_model.specs.Numbers.{is_hex_digit, bytes_in_pairs}
use Rattle.script_text.proofs.numbers.bytes_in_pairs.Given as goal

abbrev pub invariant-loop-rest : goal.invariant-loop-rest
invariant-loop-rest l = record {
  digits : list_all is_hex_digit l.rest ≡ true;
  bytes : l.bytes.items ++ bytes_in_pairs l.rest ≡ bytes_in_pairs l.digits;
}

abbrev pub decreases-loop-rest : goal.decreases-loop-rest
decreases-loop-rest l = length l.rest
