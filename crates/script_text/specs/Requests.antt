-- What a line asks for, as two values.
use Rattle.std.specs.Prelude.{Bool, false, Option, option_map}
use Rattle.std.specs.Option.{option_map_or}
use Rattle.tree_types.specs.declared.call.Call.{Call}
use Rattle.history_model.specs.Lines.{Request}

-- whether the reply waits, and the call, if there is one
abbrev pub asked_by : Option Request → Bool × Option Call
asked_by request = (option_map_or (λ r. r.sync) request false, option_map (λ r. r.call) request)
