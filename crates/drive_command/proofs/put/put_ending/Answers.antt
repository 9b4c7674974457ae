use Rattle.drive_command.proofs.put.put_ending.Goals as goal

pub returns-in-NotVolume : goal.returns-in-NotVolume
returns-in-NotVolume g c = rw (c.in-NotVolume.is, ← c.as_bytes-in-NotVolume.ensures.value) c.put_line-in-NotVolume.ensures

pub returns-in-EpochSpent : goal.returns-in-EpochSpent
returns-in-EpochSpent g c = rw (c.in-EpochSpent.is, ← c.as_bytes-in-EpochSpent.ensures.value) c.put_line-in-EpochSpent.ensures
