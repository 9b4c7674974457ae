use Rattle.std.proofs.Common.{◌≡◌, drop}
use Rattle.std.specs.Prelude.{slice_get}
use Rattle.volume_model.specs.Crash.{written_to}
use Rattle.sector_disk.specs.Chosen.{nth_written}
use Rattle.sector_disk.proofs.crash.nth_written.Given as goal

abbrev pub invariant-loop-call : goal.invariant-loop-call
invariant-loop-call l = nth_written l.calls l.sector l.j ≡ slice_get (written_to l.sector (drop l.call-index l.calls)) l.left
