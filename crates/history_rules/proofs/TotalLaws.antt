-- Sums over the inodes of a volume, and what an edit changes of them.
use Rattle.std.proofs.Common.{◌≡◌, ◌≢◌, ◌≤◌, ◌<◌, ◌⊎◌, ℕ, zero, suc, ◌+◌, Option, Some, None, refl, sym, ap, ◌∙◌, inl, inr, arith, sum_by}
use Rattle.std.proofs.lemmas.Bool.Decides.{leb_tells}
use Rattle.std.proofs.lemmas.List.Sums.{sum_by-cons}
use Rattle.std.specs.List.{range_with_len}
use Rattle.std.specs.Option.{option_map_or}
use Rattle.lufs_base.specs.declared.geometry.Geometry.{Geometry}
use Rattle.volume_model.specs.Format.{inodes_of}
use Rattle.volume_model.specs.Sound.{Node, Tree, with_node}
use Rattle.history_model.specs.Edits.{on_node}
use Rattle.history_rules.proofs.NodeLaws.{with_node-here, with_node-other, on_node-is}

-- what an inode weighs: nothing where it is free
abbrev pub weight_in : (Node → ℕ) → Option Node → ℕ
weight_in w o = option_map_or w o 0

abbrev pub total : (Node → ℕ) → Geometry → Tree → ℕ
total w g tree = sum_by (λ i. weight_in w (tree i)) (range_with_len 0 (inodes_of g))

pub same_or_not : (a b : ℕ) → (a ≡ b) ⊎ (a ≢ b)
same_or_not a b = elim (leb_tells a b) [
  | inl (_, low) ↦ elim (leb_tells b a) [ inl (_, high) ↦ inl (omega arith) | inr (_, high) ↦ inr (λ e. omega arith) ]
  | inr (_, low) ↦ inr (λ e. omega arith)
]

module _ (w : Node → ℕ) where
  abbrev weight_at : Tree → ℕ → ℕ
  weight_at tree k = weight_in w (tree k)

  -- alike in each inode, alike in all
  pub total-same : (g : Geometry) (tree other : Tree) → ((k : ℕ) → weight_in w (tree k) ≡ weight_in w (other k)) → total w g tree ≡ total w g other
  total-same g tree other same = λ t. sum_by (λ k. same k t) (range_with_len 0 (inodes_of g))

  module _ (tree : Tree) (i : ℕ) (node : Option Node) where
    outside : (len a : ℕ) → (i < a) ⊎ (a + len ≤ i) → sum_by (weight_at (with_node tree i node)) (range_with_len a len) ≡ sum_by (weight_at tree) (range_with_len a len)
    outside zero a past = refl
    outside (suc len) a past =
        let apart : a ≢ i = λ e. elim past [ inl low ↦ omega arith | inr high ↦ omega arith ] in
        let here : weight_at (with_node tree i node) a ≡ weight_at tree a = ap (weight_in w) (with_node-other tree i a node apart) in
        let further : (i < a + 1) ⊎ (a + 1 + len ≤ i) = elim past [ inl low ↦ inl (omega arith) | inr high ↦ inr (omega arith) ] in
        omega (arith, sum_by-cons (weight_at (with_node tree i node)) a (range_with_len (a + 1) len), sum_by-cons (weight_at tree) a (range_with_len (a + 1) len), outside len (a + 1) further, here)

    inside : (len a : ℕ) → a ≤ i → i < a + len → sum_by (weight_at (with_node tree i node)) (range_with_len a len) + weight_in w (tree i) ≡ sum_by (weight_at tree) (range_with_len a len) + weight_in w node
    inside zero a low high = absurd (omega arith)
    inside (suc len) a low high =
        elim (same_or_not a i) [
          | inl same ↦
              let here : weight_at (with_node tree i node) a ≡ weight_in w node = ap (λ (k : ℕ). weight_at (with_node tree i node) k) same ∙ ap (weight_in w) (with_node-here tree i node) in
              let was : weight_at tree a ≡ weight_in w (tree i) = ap (weight_at tree) same in
              omega (arith, sum_by-cons (weight_at (with_node tree i node)) a (range_with_len (a + 1) len), sum_by-cons (weight_at tree) a (range_with_len (a + 1) len), outside len (a + 1) (inl (omega arith)), here, was)
          | inr apart ↦
              let here : weight_at (with_node tree i node) a ≡ weight_at tree a = ap (weight_in w) (with_node-other tree i a node apart) in
              omega (arith, sum_by-cons (weight_at (with_node tree i node)) a (range_with_len (a + 1) len), sum_by-cons (weight_at tree) a (range_with_len (a + 1) len), inside len (a + 1) (omega arith) (omega arith), here)
        ]

  -- one inode is another node now
  pub total-with_node : (g : Geometry) (tree : Tree) (i : ℕ) (node : Option Node) → i < inodes_of g
      → total w g (with_node tree i node) + weight_in w (tree i) ≡ total w g tree + weight_in w node
  total-with_node g tree i node below = inside tree i node (inodes_of g) 0 (omega arith) (omega arith)

  -- an edit of a node that keeps its weight
  pub on_node-weight : (tree : Tree) (i : ℕ) (f : Node → Node) → ((n : Node) → w (f n) ≡ w n) → (k : ℕ) → weight_in w (on_node i f tree k) ≡ weight_in w (tree k)
  on_node-weight tree i f keeps k = by_node (tree i) refl where
    by_node : (o : Option Node) → tree i ≡ o → weight_in w ((let after : Tree = elim o [ None ↦ tree | Some node ↦ with_node tree i (Some (f node)) ] in after) k) ≡ weight_in w (tree k)
    by_node None is = refl
    by_node (Some n) is = elim (same_or_not k i) [
      | inl same ↦
          ap (λ (j : ℕ). weight_in w (with_node tree i (Some (f n)) j)) same ∙ ap (weight_in w) (with_node-here tree i (Some (f n))) ∙ keeps n
          ∙ sym (ap (weight_in w) is) ∙ sym (ap (λ (j : ℕ). weight_in w (tree j)) same)
      | inr apart ↦ ap (weight_in w) (with_node-other tree i k (Some (f n)) apart)
    ]

  -- an edit of a node
  pub total-on_node : (g : Geometry) (tree : Tree) (i : ℕ) (f : Node → Node) (n : Node) → tree i ≡ Some n → i < inodes_of g
      → total w g (on_node i f tree) + w n ≡ total w g tree + w (f n)
  total-on_node g tree i f n is below =
      let changed = total-with_node g tree i (Some (f n)) below in
      let was : weight_in w (tree i) ≡ w n = ap (weight_in w) is in
      let after : total w g (on_node i f tree) ≡ total w g (with_node tree i (Some (f n))) = ap (total w g) (on_node-is tree i f n is) in
      omega (arith, changed, was, after)
