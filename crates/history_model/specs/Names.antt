-- The names that `list` tells.
use Rattle.std.specs.Prelude.{ℕ, ◌==◌, nat_lt, Bool, true, false, ◌&&◌, ◌||◌, List, [], ◌∷◌, length, map, take, Option}
use Rattle.std.specs.List.{filter}
use Rattle.std.specs.Option.{option_map_or}
use Rattle.volume_model.specs.Sound.{Tree}
use Rattle.history_model.specs.Places.{entries_in}

-- the first name comes before the other one, byte by byte; a name comes before a longer one that begins with it
abbrev pub is_before : (name other : List ℕ) → Bool
is_before name [] = false
is_before [] (y ∷ ys) = true
is_before (x ∷ xs) (y ∷ ys) = nat_lt x y || (x == y && is_before xs ys)

abbrev pub put_in_order : List ℕ → List (List ℕ) → List (List ℕ)
put_in_order name [] = name ∷ []
put_in_order name (other ∷ names) = elim (is_before name other) [ true ↦ name ∷ (other ∷ names) | false ↦ other ∷ put_in_order name names ]

-- the names from the first to the last
abbrev pub in_order : List (List ℕ) → List (List ℕ)
in_order [] = []
in_order (name ∷ names) = put_in_order name (in_order names)

-- the names in directory i, besides `.` and `..`, that come after this one, or all of them
abbrev pub names_after : Tree → (i : ℕ) → (after : Option (List ℕ)) → List (List ℕ)
names_after tree i after = in_order (filter (λ name. option_map_or (λ a. is_before a name) after true) (map (λ s. s.name) (entries_in tree i)))

-- how many names one reply tells
abbrev pub names_told : ℕ
names_told = 16

-- the first names, and whether more follow
pub record Listing : Type 0 where
  pub names : List (List ℕ)
  pub more : Bool

abbrev pub listing_of : List (List ℕ) → Listing
listing_of names = record { names = take names_told names; more = nat_lt names_told (length names) }
