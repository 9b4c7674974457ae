use Rattle.std.proofs.Common.{arith}
use Rattle.std.proofs.lemmas.Bool.Decides.{nat_tests}
use Rattle.lufs_top.proofs.NameTests.{no_command}
use Rattle.lufs_top.proofs.words.command_of.Goals as goal
use Rattle.lufs_top.proofs.words.command_of.Goals.{in_default-via-then-words-lt2, in_default-via-else-words-lt2+else-words-lt3+then-words-lt4, in_default-via-else-words-lt2+else-words-lt3+else-words-lt4+else-words-lt5+then-words-lt6, in_default-via-else-words-lt2+else-words-lt3+else-words-lt4+else-words-lt5+else-words-lt6+else-words-lt7}

pub returns-in_default : goal.returns-in_default
returns-in_default c =
    elim c.in_default.branch [
      | in_default-via-then-words-lt2 w ↦ no_command c.args.words.now (λ is. grind (arith, nat_tests, is)) (λ is. grind (arith, nat_tests, is)) (λ is. grind (arith, nat_tests, is))
      | in_default-via-else-words-lt2+else-words-lt3+then-words-lt4 w ↦ no_command c.args.words.now (λ is. grind (arith, nat_tests, is)) (λ is. grind (arith, nat_tests, is)) (λ is. grind (arith, nat_tests, is))
      | in_default-via-else-words-lt2+else-words-lt3+else-words-lt4+else-words-lt5+then-words-lt6 w ↦ no_command c.args.words.now (λ is. grind (arith, nat_tests, is)) (λ is. grind (arith, nat_tests, is)) (λ is. grind (arith, nat_tests, is))
      | in_default-via-else-words-lt2+else-words-lt3+else-words-lt4+else-words-lt5+else-words-lt6+else-words-lt7 w ↦ no_command c.args.words.now (λ is. grind (arith, nat_tests, is)) (λ is. grind (arith, nat_tests, is)) (λ is. grind (arith, nat_tests, is))
    ]
