use Rattle.log_laws.proofs.ImageSteps.{ring_beside, header_cut, trim_done, trim_written, epoch_done, epoch_written}
use Rattle.log_laws.proofs.images.header_writes.Goals as goal

pub returns-clause-ring : goal.returns-clause-ring
returns-clause-ring c = λ g h old new place big partly. ring_beside g h old new place big partly

pub returns-clause-header : goal.returns-clause-header
returns-clause-header c = header_cut

pub returns-clause-trim : goal.returns-clause-trim
returns-clause-trim c = trim_done

pub returns-clause-trim_cut : goal.returns-clause-trim_cut
returns-clause-trim_cut c = trim_written

pub returns-clause-epoch : goal.returns-clause-epoch
returns-clause-epoch c = epoch_done

pub returns-clause-epoch_cut : goal.returns-clause-epoch_cut
returns-clause-epoch_cut c = epoch_written
