use Rattle.log_laws.proofs.MountLists.{ended_by_stale, ended_by_front, after_crash}
use Rattle.log_laws.proofs.listing.untrimmed_are_listed.Goals as goal

pub returns-clause-stale : goal.returns-clause-stale
returns-clause-stale c = ended_by_stale

pub returns-clause-part : goal.returns-clause-part
returns-clause-part c = ended_by_front

pub returns-clause-crash : goal.returns-clause-crash
returns-clause-crash c = after_crash
