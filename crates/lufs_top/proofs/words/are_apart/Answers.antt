use Rattle.std.proofs.Common.{sym, ◌∙◌}
use Rattle.lufs_top.proofs.NameTests.{apart_tests, last_of_three}
use Rattle.lufs_top.proofs.words.are_apart.Goals as goal
use Rattle.lufs_top.proofs.words.are_apart.Goals.{then-are_no_output, else-are_no_output}

pub returns-then-are_three : goal.returns-then-are_three
returns-then-are_three c =
    elim c.if-are_no_output.branch [
      | then-are_no_output w ↦ last_of_three _ _ _ _ _ (sym c.are_no_output.ensures ∙ w.if-are_no_output.true) (sym w.are_three.ensures ∙ sym w.value-is ∙ c.if-are_three.true) c.are_not_written.ensures
          (apart_tests c.args.volume.now c.args.schedule.now c.args.script.now)
      | else-are_no_output w ↦ absurd (cc (w.value-is, c.if-are_three.true))
    ]
