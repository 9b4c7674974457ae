-- What a served call leaves, as its entry tells it.
use Rattle.plain_session.proofs.ServedEntries.{right_entry}
use Rattle.plain_session.proofs.entered.enter.Goals as goal

pub returns-clause-short : goal.returns-clause-short
returns-clause-short c = (c.serve-served.ensures.served c.requires.stands.0 c.requires.stands.1).short

pub returns-clause-right : goal.returns-clause-right
returns-clause-right c = λ tree stands. right_entry c.args.store.geometry c.args.moment tree _ c.in-Some.call c.serve-served.result.store.image.items (c.serve-served.ensures.served tree stands)

pub returns-clause-answered : goal.returns-clause-answered
returns-clause-answered c = λ tree stands. (c.serve-served.ensures.served tree stands).answered

pub returns-clause-stands : goal.returns-clause-stands
returns-clause-stands c = λ tree stands. (c.serve-served.ensures.served tree stands).stands
