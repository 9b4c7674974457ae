use Rattle.std.proofs.Common.{◌≡◌, drop, length}
use Rattle.sector_disk.specs.Chosen.{with_choice}
use Rattle.sector_disk.proofs.crash.lay_chosen.Given as goal

abbrev pub invariant-loop-sector : goal.invariant-loop-sector
invariant-loop-sector l = record {
  size : length l.image.items ≡ length l.initial.image.items;
  rest : with_choice l.calls l.image.items (drop l.sector-index l.choice) ≡ with_choice l.calls l.initial.image.items l.choice;
}
