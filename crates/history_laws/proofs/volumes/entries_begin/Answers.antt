-- Each part by itself.
use Rattle.history_laws.proofs.HistorySteps.{beginning_keeps}
use Rattle.history_laws.proofs.volumes.entries_begin.Goals as goal

pub returns : goal.returns
returns c = λ g moment opening first v e is keeps. beginning_keeps g moment opening first v keeps e is
