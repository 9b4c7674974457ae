use Rattle.meta_draft.specs.Drafted.{drafted}
use Rattle.path_walk.proofs.PartRefusals.{refused_of_read}
use Rattle.path_walk.proofs.refusals.refused_part.Goals as goal

pub returns-clause-value : goal.returns-clause-value
returns-clause-value g c =
    let told = drafted c.args.draft.now.change (g.S.MetaRead.store c.args.store.now) in
    refused_of_read told.content told.geometry c.args.cred.now c.args.dir.0 c.args.part.now c.in_ok-found.found c.refused_by_record.result c.refused_by_record.ensures c.in_ok-found.ensures.value
