use Rattle.change_laws.proofs.OneInode.{claims_counted}
use Rattle.change_laws.proofs.claims.claims_of_one_inode.Goals as goal

pub returns : goal.returns
returns c r i state b within = claims_counted r i state within b
