-- What stands under names.
use Rattle.std.specs.Prelude.{ℕ, if◌then◌else◌, List, Option, Some, None, bytes_eq}

-- what a name stands for
pub data Place (T : Type 0) : Type 0 where
  nothing : Place T
  here : T → Place T
  -- it was given away, and comes back
  lent : Place T

-- what is here
abbrev pub here_of : {T : Type 0} → Place T → Option T
here_of nothing = None
here_of (here x) = Some x
here_of lent = None

abbrev pub Places : Type 0 → Type 0
Places T = List ℕ → Place T

-- the same, where the name now stands for this
abbrev pub with_place : {T : Type 0} → Places T → List ℕ → Place T → Places T
with_place places name place = λ q. if bytes_eq name q then place else places q

-- the same of what this tells of each
abbrev pub place_map : {T U : Type 0} → (T → U) → Place T → Place U
place_map told nothing = nothing
place_map told (here x) = here (told x)
place_map told lent = lent
