use Rattle.volume_model.specs.Sound.{Claim}
use Rattle.change_laws.proofs.ClaimPlaces.{stored_laid, apart_by, body_claimed, claimed_unheld}
use Rattle.change_laws.proofs.claims.claims_are_apart.Goals as goal

pub returns-clause-laid : goal.returns-clause-laid
returns-clause-laid c = stored_laid

pub returns-clause-inodes : goal.returns-clause-inodes
returns-clause-inodes c g r hands claim other stored = apart_by g r hands stored (λ (x : Claim). x.inode) claim other

pub returns-clause-parts : goal.returns-clause-parts
returns-clause-parts c g r hands claim other stored = apart_by g r hands stored (λ (x : Claim). x.part) claim other

pub returns-clause-body : goal.returns-clause-body
returns-clause-body c g r hands claim stored = body_claimed g r hands stored claim

pub returns-clause-unheld : goal.returns-clause-unheld
returns-clause-unheld c g r hands claim stored = claimed_unheld g r hands stored claim
