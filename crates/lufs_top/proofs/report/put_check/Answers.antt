use Rattle.lufs_top.proofs.report.put_check.Goals as goal

pub returns-in-NotVolume : goal.returns-in-NotVolume
returns-in-NotVolume g c = rw (c.in-NotVolume.is, ← c.as_bytes.ensures.value) c.put_line.ensures
