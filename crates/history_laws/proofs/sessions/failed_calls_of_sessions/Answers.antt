-- The volume before the step, or the one after it.
use Rattle.std.proofs.Common.{inl, inr, sym}
use Rattle.history_laws.specs.Sessions.{Steps}
use Rattle.history_laws.proofs.sessions.failed_calls_of_sessions.Goals as goal

pub returns : goal.returns
returns c = λ g moment opening start after v w session step which. elim which [
  | inl before ↦ (v, sym before, session)
  | inr there ↦ (w, sym there, Steps v w session step)
]
