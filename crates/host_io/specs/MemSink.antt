-- A sink in memory, as its calls see it.
use Rattle.std.specs.Prelude.{ℕ, List, [], ◌++◌, Some}
use Rattle.lufs_base.specs.Causes.{counted}
use Rattle.host_io.specs.Outside.{SinkTold}

pub record State : Type 0 where
  pub bytes : List ℕ
  -- the puts that are to fail, by their number from 1
  pub fails : List ℕ
  pub puts : ℕ
  pub faults : ℕ
  -- those that failed since memory ran out
  pub starved : ℕ

abbrev pub new_state : List ℕ → State
new_state fails = record { bytes = []; fails = fails; puts = 0; faults = 0; starved = 0 }

abbrev pub after_put : List ℕ → State → State
after_put bytes s = record s { bytes = s.bytes ++ bytes; puts = counted s.puts }

abbrev pub failed_put : State → State
failed_put s = record s { puts = counted s.puts; faults = counted s.faults }

abbrev pub starved_put : State → State
starved_put s = record s { puts = counted s.puts; faults = counted s.faults; starved = counted s.starved }

-- what it tells as a sink
abbrev pub told_of : State → SinkTold
told_of s = record { held = Some s.bytes; faults = s.faults }
