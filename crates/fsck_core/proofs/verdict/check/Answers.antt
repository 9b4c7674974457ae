use Rattle.std.proofs.Common.{◌≡◌, Err}
use Rattle.fsck_core.specs.declared.stop.Stop.TheVariants.{Found}
use Rattle.fsck_core.proofs.LookSteps.{clean_verdict, finding_verdict}
use Rattle.fsck_core.proofs.verdict.check.Goals as goal

pub returns-in-Ok-clause-verdict : goal.returns-in-Ok-clause-verdict
returns-in-Ok-clause-verdict g c =
    clean_verdict (g.S.MetaRead.store c.args.store.now) c.in-Ok.counts c.look.result c.look.ensures.part c.in-Ok.is

pub returns-in-Err-Found-clause-verdict : goal.returns-in-Err-Found-clause-verdict
returns-in-Err-Found-clause-verdict g c =
    let whole = c.in-Err-Found.is in
    let part = c.in-Err-Found.field-0-is in
    let is : c.look.result ≡ Err (Found c.in-Err-Found.kind c.in-Err-Found.number) = cc in
    finding_verdict (g.S.MetaRead.store c.args.store.now) c.in-Err-Found.kind c.in-Err-Found.number c.look.result c.look.ensures.part is
