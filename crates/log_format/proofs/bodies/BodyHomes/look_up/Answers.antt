use Rattle.std.proofs.Common.{sym, subst}
use Rattle.log_format.specs.BodyHomes.{AreInBodies}
use Rattle.log_format.specs.declared.bodies.BodyHomes.{BodyHomes}
use Rattle.log_format.proofs.BodyPlaces.{homes_become_bodies}
use Rattle.log_format.proofs.bodies.BodyHomes.look_up.Goals as goal
use Rattle.log_format.proofs.bodies.BodyHomes.look_up.Goals.{in-Body, in_default}

pub returns-then-is_home_of-clause-bodies : goal.returns-then-is_home_of-clause-bodies
returns-then-is_home_of-clause-bodies c = elim c.match-region.branch [
  | in-Body w ↦ homes_become_bodies c.args.g.now w.in-Body.n w.homes_of.result c.match-region.self c.requires.geometry w.in-Body.ensures.place.0 w.homes_of.ensures w.self-is
  | in_default w ↦ subst (λ (homes : BodyHomes). AreInBodies c.args.g.now homes) (sym w.self-is) c.requires.bodies
]

pub returns-else-is_home_of-clause-bodies : goal.returns-else-is_home_of-clause-bodies
returns-else-is_home_of-clause-bodies c = elim c.match-region.branch [
  | in-Body w ↦ homes_become_bodies c.args.g.now w.in-Body.n w.homes_of.result c.match-region.self c.requires.geometry w.in-Body.ensures.place.0 w.homes_of.ensures w.self-is
  | in_default w ↦ subst (λ (homes : BodyHomes). AreInBodies c.args.g.now homes) (sym w.self-is) c.requires.bodies
]
