-- A source in memory, as its calls see it.
use Rattle.std.specs.Prelude.{ℕ, List, [], drop, Some}
use Rattle.lufs_base.specs.Causes.{counted}
use Rattle.host_io.specs.Source.{SourceTold}

pub record State : Type 0 where
  pub left : List ℕ
  -- the takes that are to fail, by their number from 1
  pub fails : List ℕ
  pub takes : ℕ
  pub faults : ℕ

abbrev pub new_state : List ℕ → State
new_state bytes = record { left = bytes; fails = []; takes = 0; faults = 0 }

-- the same, with these takes to fail, counted anew
abbrev pub set_to_fail : (fails : List ℕ) → State → State
set_to_fail fails s = record s { fails = fails; takes = 0 }

-- the first n bytes were taken
abbrev pub after_take : ℕ → State → State
after_take n s = record s { left = drop n s.left; takes = counted s.takes }

abbrev pub failed_take : State → State
failed_take s = record s { takes = counted s.takes; faults = counted s.faults }

-- what it tells as a source
abbrev pub told_of : State → SourceTold
told_of s = record { left = Some s.left; faults = s.faults }
