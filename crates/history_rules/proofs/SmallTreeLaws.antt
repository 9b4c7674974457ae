-- The trees of small nodes are empty further on.
use Rattle.std.proofs.Common.{◌≡◌, ◌≤◌, ℕ, ◌+◌, Bool, true, false, List, length, Option, None, refl, arith}
use Rattle.std.specs.Prelude.{nat_lt, ◌-◌, slice_get}
use Rattle.std.proofs.lemmas.Option.{slice_get_past}
use Rattle.volume_model.specs.Sound.{Node}
use Rattle.history_model.specs.WorkedTrees.{tree_of_nodes}

pub past_nodes : (nodes : List Node) (i : ℕ) → 2 + length nodes ≤ i → tree_of_nodes nodes i ≡ None
past_nodes nodes i past = by_low (nat_lt i 2) where
  by_low : (b : Bool) → (let o : Option Node = elim b [ true ↦ None | false ↦ slice_get nodes (i - 2) ] in o) ≡ None
  by_low true = refl
  by_low false = slice_get_past nodes (i - 2) (omega arith)
