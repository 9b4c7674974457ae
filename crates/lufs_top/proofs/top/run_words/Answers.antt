use Rattle.std.proofs.Common.{Option, subst}
use Rattle.lufs_top.specs.Words.{Command}
use Rattle.lufs_top.specs.Run.{Ran}
use Rattle.lufs_top.proofs.top.run_words.Goals as goal

pub returns-in-Some : goal.returns-in-Some
returns-in-Some g c =
    subst (λ (command : Option Command). Ran command c.run_command.result (g.H.Host.outside c.args.host.now) (g.H.Host.outside c.run_command.new.host)) c.in-Some.ensures c.run_command.ensures
