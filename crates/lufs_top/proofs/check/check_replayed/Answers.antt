use Rattle.std.proofs.Common.{subst}
use Rattle.meta_store.specs.Store.{StoreTold}
use Rattle.fsck_core.specs.Answers.{IsVerdictOf}
use Rattle.lufs_top.proofs.CheckSteps.{verdict_after}
use Rattle.lufs_top.proofs.check.check_replayed.Goals as goal

pub returns-clause-verdict : goal.returns-clause-verdict
returns-clause-verdict g c =
    verdict_after c.args.g.now (g.D.Disk.told c.args.disk) c.args.log.now c.in-Ok.laid c.check-verdict.result c.in-Ok.ensures
    (subst (λ (told : StoreTold). IsVerdictOf told c.check-verdict.result) c.over-store.ensures c.check-verdict.ensures.verdict)
