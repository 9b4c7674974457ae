-- Line by line.
use Rattle.std.proofs.Common.{◌≡◌, ℕ, true, false, refl, arith}
use Rattle.history_model.specs.Numbers.{number_below, mode_of, bytes_of_hex}
use Rattle.history_model.specs.Lines.{line_of, lines_of}
use Rattle.worked_history.proofs.histories.entries_of_lines.Goals as goal

pub returns-clause-all : goal.returns-clause-all
unfolding number_below mode_of bytes_of_hex line_of lines_of
returns-clause-all c = (
  record { of_stream = refl; number = refl; call = refl; sync = refl },
  (record { of_stream = refl; number = refl; call = refl; sync = refl }, (record { of_stream = refl; number = refl; call = refl; sync = refl }, tt)),
)

pub returns-clause-first : goal.returns-clause-first
unfolding number_below mode_of bytes_of_hex line_of lines_of
returns-clause-first c = (record { of_stream = refl; number = refl; call = refl; sync = refl }, tt)

differ : (n : ℕ) → n ≡ 3 → n ≡ 2 → ⊥
differ n three two = omega arith

pub returns-clause-skipped : goal.returns-clause-skipped
unfolding number_below mode_of bytes_of_hex line_of lines_of
returns-clause-skipped c = λ entries. differ 3 refl entries.1.0.number

pub returns-clause-too_many : goal.returns-clause-too_many
unfolding number_below mode_of bytes_of_hex line_of lines_of
returns-clause-too_many c = λ entries. entries.1

pub returns-clause-asynchronous : goal.returns-clause-asynchronous
unfolding number_below mode_of bytes_of_hex line_of lines_of
returns-clause-asynchronous c = λ entries. let e : false ≡ true = entries.0.sync in cc
