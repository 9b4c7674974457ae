-- Each part by itself.
use Rattle.history_laws.proofs.HistorySteps.{noting_keeps}
use Rattle.history_laws.proofs.volumes.rolls_are_noted.Goals as goal

pub returns : goal.returns
returns c = λ g moment opening first v note keeps. noting_keeps g moment opening first v keeps note
