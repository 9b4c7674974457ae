use Rattle.std.proofs.Common.{[], ◌∷◌}
use Rattle.volume_model.specs.declared.device_call.DeviceCall.TheVariants.{Write, Flush}
use Rattle.volume_model.proofs.Calls.{image_after-append}
use Rattle.volume_model.proofs.CrashLaws.{present_is_outcome, one_outcome, after_write, after_flush}
use Rattle.volume_model.proofs.crashes.outcomes_by_call.Goals as goal

pub returns-clause-last_write : goal.returns-clause-last_write
returns-clause-last_write c r first bytes = image_after-append r.opening r.calls (Write first bytes ∷ [])

pub returns-clause-last_flush : goal.returns-clause-last_flush
returns-clause-last_flush c r = image_after-append r.opening r.calls (Flush ∷ [])

pub returns-clause-present : goal.returns-clause-present
returns-clause-present c = present_is_outcome

pub returns-clause-settled : goal.returns-clause-settled
returns-clause-settled c = one_outcome

pub returns-clause-write : goal.returns-clause-write
returns-clause-write c = after_write

pub returns-clause-flush : goal.returns-clause-flush
returns-clause-flush c = after_flush
