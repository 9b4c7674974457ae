-- What an edit of one node leaves of a tree.
use Rattle.std.proofs.Common.{◌≡◌, ◌≢◌, ℕ, Bool, true, false, Option, Some, None, refl, ap, ◌∙◌, eq-eqb}
use Rattle.std.proofs.lemmas.Bool.{ne_eqb}
use Rattle.volume_model.specs.Sound.{Node, Tree, with_node}
use Rattle.history_model.specs.Edits.{on_node}

pub with_node-here : (tree : Tree) (i : ℕ) (node : Option Node) → with_node tree i node i ≡ node
with_node-here tree i node = ap (λ (b : Bool). let x : Option Node = elim b [ true ↦ node | false ↦ tree i ] in x) (eq-eqb i i refl)

pub with_node-other : (tree : Tree) (i k : ℕ) (node : Option Node) → k ≢ i → with_node tree i node k ≡ tree k
with_node-other tree i k node differ = ap (λ (b : Bool). let x : Option Node = elim b [ true ↦ node | false ↦ tree k ] in x) (ne_eqb k i differ)

-- where there is a node, it is changed
pub on_node-is : (tree : Tree) (i : ℕ) (f : Node → Node) (n : Node) → tree i ≡ Some n → on_node i f tree ≡ with_node tree i (Some (f n))
on_node-is tree i f n is = ap (λ (o : Option Node). let after : Tree = elim o [ None ↦ tree | Some node ↦ with_node tree i (Some (f node)) ] in after) is

pub on_node-here : (tree : Tree) (i : ℕ) (f : Node → Node) (n : Node) → tree i ≡ Some n → on_node i f tree i ≡ Some (f n)
on_node-here tree i f n is = ap (λ (after : Tree). after i) (on_node-is tree i f n is) ∙ with_node-here tree i (Some (f n))

pub on_node-other : (tree : Tree) (i k : ℕ) (f : Node → Node) → k ≢ i → on_node i f tree k ≡ tree k
on_node-other tree i k f differ = by_node (tree i) where
  by_node : (o : Option Node) → (let after : Tree = elim o [ None ↦ tree | Some node ↦ with_node tree i (Some (f node)) ] in after k) ≡ tree k
  by_node None = refl
  by_node (Some n) = with_node-other tree i k (Some (f n)) differ
