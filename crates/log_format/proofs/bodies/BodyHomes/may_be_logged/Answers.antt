use Rattle.std.proofs.Common.{arith}
use Rattle.log_format.proofs.BodyPlaces.{may_be_logged_in_body}
use Rattle.log_format.proofs.bodies.BodyHomes.may_be_logged.Goals as goal
use Rattle.log_format.proofs.bodies.BodyHomes.may_be_logged.Goals.{then-is_home_of, else-is_home_of}

pub returns-then-home-self-clause-value : goal.returns-then-home-self-clause-value
returns-then-home-self-clause-value c =
    let should = may_be_logged_in_body c.args.g.now c.args.self.now c.args.kind c.args.home c.args.len c.requires.bodies c.if-self-home.true c.if-home-self.true in
    elim c.if-is_home_of.branch [
      | then-is_home_of w ↦ grind arith
      | else-is_home_of w ↦ grind arith
    ]
