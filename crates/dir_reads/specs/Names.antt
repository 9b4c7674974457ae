-- The names in a directory that are told.
use Rattle.std.specs.Prelude.{◌≡◌, ◌++◌, ℕ, ◌==◌, nat_lt, true, not, ◌&&◌, Bool, List, length, map, take, Option}
use Rattle.std.specs.List.{filter}
use Rattle.std.specs.Option.{option_map_or}
use Rattle.volume_model.specs.declared.directory.Slot.{Slot}
use Rattle.history_model.specs.Names.{is_before, in_order}
use Rattle.history_model.specs.Places.{is_dots}

-- the slot is in use, and names neither the directory itself nor the one above it
abbrev pub is_entry : Slot → Bool
is_entry s = not (s.ino == 0) && not (is_dots s.name)

-- the name comes after this one, if there is one
abbrev pub comes_after : (after : Option (List ℕ)) → (name : List ℕ) → Bool
comes_after after name = option_map_or (λ a. is_before a name) after true

-- the slot gives a name that comes after this one, if there is one
abbrev pub is_told : (after : Option (List ℕ)) → Slot → Bool
is_told after s = is_entry s && comes_after after s.name

-- the names of these slots that come after this one, in the order of the slots
abbrev pub names_in : (after : Option (List ℕ)) → List Slot → List (List ℕ)
names_in after slots = filter (comes_after after) (map (λ s. s.name) (filter is_entry slots))

-- Where the old names were the first of some, in their order, the new ones are the first of those and these together.
abbrev pub PutsBefore : (these : List (List ℕ)) → (most : ℕ) → (old new : List (List ℕ)) → Type 0
PutsBefore these most old new = (others : List (List ℕ)) → old ≡ take most (in_order others) → new ≡ take most (in_order (these ++ others))

-- the first names, and whether more follow
abbrev pub first_names : (most : ℕ) → List (List ℕ) → List (List ℕ) × Bool
first_names most names = (take most names, nat_lt most (length names))
