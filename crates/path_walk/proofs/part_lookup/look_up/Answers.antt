use Rattle.path_walk.proofs.PassedParts.{refused_there, leads_there}
use Rattle.path_walk.proofs.part_lookup.look_up.Goals as goal

pub returns-in-Some-clause-value : goal.returns-in-Some-clause-value
returns-in-Some-clause-value g c =
    refused_there c.args.draft.now.change (g.S.MetaRead.store c.args.store.now) c.args.cred.now c.args.dir.0 c.args.part.now c.in_ok-why.field-0 c.in-Some.why c.in-Some.is c.in_ok-why.ensures.value

pub returns-clause-value : goal.returns-clause-value
returns-clause-value g c =
    leads_there c.args.draft.now.change (g.S.MetaRead.store c.args.store.now) (g.S.MetaRead.store c.refused_part.new.store) (g.S.MetaRead.store c.lookup.new.store)
    c.in_ok-why.ensures.unchanged c.in_ok-found.ensures.unchanged c.args.cred.now c.args.follow c.args.dir.0 c.args.part.now c.args.last c.in_ok-why.field-0
    (record { found = c.in_ok-found.found; next = c.in_ok-next.next }) c.in_default.is c.in_ok-why.ensures.value c.in_ok-found.ensures.value c.in_ok-next.ensures.value
