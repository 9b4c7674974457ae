-- Entries by name: the first of a name counts.
use Rattle.std.specs.Prelude.{◌≡◌, ℕ, zero, suc, true, false, if◌then◌else◌, List, [], ◌∷◌, Option, Some, None, bytes_eq}
use Rattle.host_io.specs.declared.named.Named.{Named}
use Rattle.host_io.specs.Places.{Place, nothing, here, lent, Places}

-- an entry that holds nothing is one that is lent
abbrev pub place_with : {T : Type 0} → Option T → Place T
place_with None = lent
place_with (Some x) = here x

-- what the names stand for
abbrev pub places_of : {T : Type 0} → List (Named T) → Places T
places_of [] name = nothing
places_of (e ∷ es) name = if bytes_eq e.name name then place_with e.held else places_of es name

-- no entry has the name
abbrev pub IsAbsent : {T : Type 0} → List ℕ → List (Named T) → Type 0
IsAbsent name [] = Unit {0}
IsAbsent name (e ∷ es) = (bytes_eq e.name name ≡ false) × IsAbsent name es

-- the i-th entry is the first of the name
abbrev pub IsFirst : {T : Type 0} → List ℕ → List (Named T) → ℕ → Type 0
IsFirst name [] i = ⊥
IsFirst name (e ∷ es) zero = bytes_eq e.name name ≡ true
IsFirst name (e ∷ es) (suc i) = (bytes_eq e.name name ≡ false) × IsFirst name es i
