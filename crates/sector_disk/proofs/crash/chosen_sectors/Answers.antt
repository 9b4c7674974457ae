use Rattle.sector_disk.proofs.ChosenSectors.{unnamed_sector, named_sector}
use Rattle.sector_disk.proofs.crash.chosen_sectors.Goals as goal

pub returns-clause-others : goal.returns-clause-others
returns-clause-others c = unnamed_sector

pub returns-clause-named : goal.returns-clause-named
returns-clause-named c = named_sector
