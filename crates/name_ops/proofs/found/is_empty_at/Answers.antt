use Rattle.name_ops.proofs.WantedRmdir.{told_empty}
use Rattle.name_ops.proofs.found.is_empty_at.Goals as goal

pub returns-clause-value : goal.returns-clause-value
returns-clause-value g c =
    let told = g.S.MetaRead.store c.args.store.now in
    told_empty told.content told.geometry c.new.result.change c.args.i.0 c.in_ok-empty.empty c.new.ensures c.in_ok-empty.ensures.value
