-- A delta merged into those that a transaction holds: a later one takes the place of an older one at the same place,
-- pointers that overlap or touch are joined, a zero block or a cancel is all that is held of its block, and of a block no
-- other kinds are held together.
use Rattle.std.specs.Prelude.{◌+◌, ◌-◌, ◌/◌, ◌==◌, nat_le, nat_lt, min, max, Bool, not, ◌&&◌, ◌||◌, if◌then◌else◌, List, [], ◌∷◌, ◌++◌, take, drop, Option, Some, None}
use Rattle.std.specs.List.{filter}
use Rattle.lufs_base.specs.declared.delta.Delta.{Delta}
use Rattle.lufs_base.specs.declared.delta.DeltaKind.{DeltaKind}
use Rattle.volume_model.specs.Log.{type_of, is_zero_block, is_cancel}

-- both are of one kind
abbrev pub is_same_kind : DeltaKind → DeltaKind → Bool
is_same_kind kind other = type_of kind == type_of other

-- both lie in one block
abbrev pub share_block : Delta → Delta → Bool
share_block d older = d.home / 4096 == older.home / 4096

-- the two overlap, or one ends where the other begins
abbrev pub touches : Delta → Delta → Bool
touches d older = nat_le d.home (older.home + older.len) && nat_le older.home (d.home + d.len)

abbrev pub is_group : DeltaKind → Bool
is_group kind = type_of kind == 1

abbrev pub is_pointers : DeltaKind → Bool
is_pointers kind = type_of kind == 4

-- A delta is of its whole block: what is held of the block goes.
abbrev pub is_whole_block : DeltaKind → Bool
is_whole_block kind = is_zero_block kind || is_cancel kind

-- the two lie at one place, or they are pointers that overlap or touch
abbrev pub meets : Delta → Delta → Bool
meets d older =
    is_same_kind d.kind older.kind && share_block d older && (if is_pointers d.kind then touches d older else d.home == older.home)

-- the delta takes the place of an older one
abbrev pub replaces : Delta → Delta → Bool
replaces d older = if is_whole_block d.kind then share_block d older else meets d older

-- what both cover, with the bytes of the later one where both have some
abbrev pub joined : Delta → Delta → Delta
joined d older = record {
  kind = d.kind;
  home = min d.home older.home;
  len = max (d.home + d.len) (older.home + older.len) - min d.home older.home;
  bytes = take (d.home - older.home) older.bytes ++ (d.bytes ++ drop (d.home + d.len - older.home) older.bytes);
}

-- the delta in the place of an older one that it replaces
abbrev pub replacing : Delta → Delta → Delta
replacing d older = if is_whole_block d.kind then d else joined d older

-- A delta of a part of its block excludes an older one of another kind in that block, unless that is a zero block.
abbrev pub excludes : Delta → Delta → Bool
excludes d older =
    not (is_whole_block d.kind) && share_block d older && not (is_same_kind d.kind older.kind) && not (is_zero_block older.kind)

-- What the older one lays is kept where the delta is merged in, but for the bytes that the delta covers.
abbrev pub stands_beside : Delta → Delta → Bool
stands_beside d older = not (excludes d older)

-- the deltas, which all stand beside this one, with it in its place
unfoldable pub placed : List Delta → Delta → List Delta
placed [] d = d ∷ []
placed (older ∷ deltas) d =
    if replaces d older then placed deltas (replacing d older)
    else (if nat_lt d.home older.home then d ∷ (older ∷ deltas) else older ∷ placed deltas d)

-- and with the one that is left to be placed, if there is one
abbrev pub placed_left : Option Delta → List Delta → List Delta
placed_left None deltas = deltas
placed_left (Some d) deltas = placed deltas d

-- the deltas with one more
unfoldable pub merged : List Delta → Delta → List Delta
merged deltas d = placed (filter (stands_beside d) deltas) d

-- and with these, one after the other
unfoldable pub all_merged : List Delta → List Delta → List Delta
all_merged deltas [] = deltas
all_merged deltas (d ∷ more) = all_merged (merged deltas d) more
