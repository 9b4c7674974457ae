-- The five entries one by one, and the trees after them.
use Rattle.std.specs.Prelude.{ℕ, ◌==◌, true, false, [], ◌∷◌, Some, None, codes}
use Rattle.tree_types.specs.declared.call.Call.TheVariants as call
use Rattle.tree_types.specs.declared.history.Entry.{Entry}
use Rattle.volume_model.specs.Sound.{Tree}
use Rattle.history_model.specs.WorkedTrees.{empty_file, tree_with}
use Rattle.history_laws.specs.WorkedSession.{Times, entry_during, letters}
use Rattle.worked_session.specs.FourChanges.{root_naming}

abbrev pub entry_one : Times → Entry
entry_one times = entry_during times 1 (Some 3) false (call.Mkdir (codes "/d") 0x1ed)

abbrev pub entry_two : Times → Entry
entry_two times = entry_during times 2 None false (call.Rmdir (codes "/d"))

abbrev pub entry_three : Times → Entry
entry_three times = entry_during times 3 (Some 3) false (call.Create (codes "/f") 0x1a4)

abbrev pub entry_four : Times → Entry
entry_four times = entry_during times 4 None false (call.Write (codes "/f") 0 letters)

abbrev pub entry_five : Times → Entry
entry_five times = entry_during times 5 None true (call.Fsync (codes "/f"))

-- the root with the empty file
abbrev pub tree_with_file : Tree
tree_with_file = tree_with (root_naming (codes "f") ∷ []) (empty_file ∷ [])

-- the times of each entry, by its number
abbrev pub times_of : (one two three four five : Times) → ℕ → Times
times_of one two three four five i =
    elim (i == 1) [
      | true ↦ one
      | false ↦ elim (i == 2) [
        | true ↦ two
        | false ↦ elim (i == 3) [ true ↦ three | false ↦ elim (i == 4) [ true ↦ four | false ↦ five ] ]
      ]
    ]
