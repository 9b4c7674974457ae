-- Lines that the endings of commands share.
use Rattle.std.specs.Prelude.{ℕ, List, [], ◌∷◌, ◌++◌, codes}
use Rattle.std.specs.Fmt.{decimal}

-- words and a name after them, as one line
abbrev pub named_line : List ℕ → List ℕ → List ℕ
named_line words name = words ++ (32 ∷ (name ++ 10 ∷ []))

-- the same with a number after the name
abbrev pub counted_line : List ℕ → List ℕ → ℕ → List ℕ
counted_line words name number = named_line words (name ++ (32 ∷ decimal number))

-- what is printed of a run of the log that breaks its rules
abbrev pub bad_log_line : (tid place : ℕ) → List ℕ
bad_log_line tid place = counted_line (codes "bad log") (decimal tid) place
