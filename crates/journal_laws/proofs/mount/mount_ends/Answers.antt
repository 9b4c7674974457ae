use Rattle.std.proofs.Common.{refl}
use Rattle.journal_laws.proofs.NewJournal.{log_of_end, earlier_idents, end_content, opened_is_safe}
use Rattle.journal_laws.proofs.mount.mount_ends.Goals as goal

pub returns-clause-settled : goal.returns-clause-settled
returns-clause-settled c g found first r m = m.settled refl

pub returns-clause-log : goal.returns-clause-log
returns-clause-log c = log_of_end

pub returns-clause-idents : goal.returns-clause-idents
returns-clause-idents c g found first r place m below = earlier_idents g found first r m place below

pub returns-clause-content : goal.returns-clause-content
returns-clause-content c g found first r address m out = end_content g found first r m address out

pub returns-clause-opens : goal.returns-clause-opens
returns-clause-opens c g found first role owners r m may = opened_is_safe g found first r m role owners may
