-- Where only one inode, or only one group's record changes, the reading and the tree change in its entry alone.
use Rattle.std.proofs.Common.{◌≡◌, ◌≢◌, ◌<◌, inl, inr, ℕ, Bool, true, false, length, map, set, Option, Some, None, refl, sym, ap, ◌∙◌, arith}
use Rattle.std.specs.List.{range_with_len}
use Rattle.std.specs.Option.{option_map, option_and_then}
use Rattle.std.proofs.lemmas.Bool.{cases_eq, eq-eqb, ne_eqb}
use Rattle.lufs_base.specs.declared.geometry.Geometry.{Geometry}
use Rattle.volume_model.specs.Format.{Blocks, inodes_of}
use Rattle.volume_model.specs.Sound.{UsedInode, InodeState, Reading, reading_of, group_at, inode_at, state_at, used_of, used_at, read_length, metadata_length, Node, Tree, with_node, shape_of, shape_of_node, node_of, tree_of}
use Rattle.volume_laws.specs.Changes.{with_state, with_group}
use Rattle.volume_laws.proofs.Members.{All_range, map_same}
use Rattle.volume_laws.proofs.ClaimFacts.{length-inodes}
use Rattle.volume_laws.proofs.SameReading.{AgreeOnClaims, state_same}
use Rattle.volume_laws.proofs.SameTree.{same_of_used, same_of_option, same_node, same_shape_of_used}
use Rattle.volume_laws.proofs.ListParts.{map_changed, entry_set, entry_kept}

-- Only inode i may change: its record, and the blocks that it claims.
pub record OnlyInode (g : Geometry) (lengths : ℕ → ℕ) (blocks others : Blocks) (i : ℕ) : Type 0 where
  pub groups : (n : ℕ) → n < g.groups → group_at g others n ≡ group_at g blocks n
  pub records : (j : ℕ) → j < inodes_of g → j ≢ i → inode_at g others j ≡ inode_at g blocks j
  pub claims : (j : ℕ) → j ≢ i → AgreeOnClaims lengths (reading_of g blocks) blocks others j

-- Only the record of group n may change.
pub record OnlyGroup (g : Geometry) (lengths : ℕ → ℕ) (blocks others : Blocks) (n : ℕ) : Type 0 where
  pub groups : (m : ℕ) → m < g.groups → m ≢ n → group_at g others m ≡ group_at g blocks m
  pub records : (j : ℕ) → j < inodes_of g → inode_at g others j ≡ inode_at g blocks j
  pub claims : (j : ℕ) → AgreeOnClaims lengths (reading_of g blocks) blocks others j

-- what is made of each inode in use
abbrev nodes_by : (Option UsedInode → Option Node) → Reading → Tree
nodes_by f r i = f (used_at r i)

-- the node of inode i, and that of another one
pub node_there : (tree : Tree) (i : ℕ) (node : Option Node) (k : ℕ) → k ≡ i → with_node tree i node k ≡ node
node_there tree i node k same = ap (λ (t : Bool). elim t [ true ↦ node | false ↦ tree k ]) (eq-eqb k i same)

pub other_node : (tree : Tree) (i : ℕ) (node : Option Node) (k : ℕ) → k ≢ i → with_node tree i node k ≡ tree k
other_node tree i node k away = ap (λ (t : Bool). elim t [ true ↦ node | false ↦ tree k ]) (ne_eqb k i away)

module _ (g : Geometry) (blocks others : Blocks) where
  module _ (i : ℕ) (within : i < inodes_of g) (only : OnlyInode g (metadata_length g (reading_of g blocks)) blocks others i) where
    pub one_state : reading_of g others ≡ with_state (reading_of g blocks) i (state_at g others i)
    unfolding reading_of
    one_state =
        let groups : map (group_at g others) (range_with_len 0 g.groups) ≡ map (group_at g blocks) (range_with_len 0 g.groups) =
        map_same (group_at g others) (group_at g blocks) (range_with_len 0 g.groups) (All_range (λ n. group_at g others n ≡ group_at g blocks n) g.groups only.groups) in
        let inodes : map (state_at g others) (range_with_len 0 (inodes_of g)) ≡ set (map (state_at g blocks) (range_with_len 0 (inodes_of g))) i (state_at g others i) =
        map_changed (state_at g blocks) (state_at g others) (inodes_of g) i within (λ j below other.
        state_same g blocks others j (only.claims j other) below (only.records j below other)) in
        λ t. record { groups = groups t; inodes = inodes t }

    -- it changes at i alone
    changed_at : (f h : Option UsedInode → Option Node) → f None ≡ h None
        → ((j : ℕ) (u : UsedInode) → j ≢ i → used_at (reading_of g blocks) j ≡ Some u → f (Some u) ≡ h (Some u))
        → nodes_by f (reading_of g others) ≡ with_node (nodes_by h (reading_of g blocks)) i (f (used_of (state_at g others i)))
    changed_at f h none same =
        let r = reading_of g blocks in
        let s = state_at g others i in
        let inside : i < length r.inodes = omega (arith, within, length-inodes g blocks) in
        let each : (k : ℕ) → nodes_by f (with_state r i s) k ≡ with_node (nodes_by h r) i (f (used_of s)) k = λ k. elim (cases_eq k i) [
          | inl here ↦
              ap (λ (j : ℕ). f (used_at (with_state r i s) j)) here ∙ ap (λ (o : Option InodeState). f (option_and_then used_of o)) (entry_set r.inodes i s inside)
              ∙ sym (node_there (nodes_by h r) i (f (used_of s)) k here)
          | inr away ↦
              ap (λ (o : Option InodeState). f (option_and_then used_of o)) (entry_kept r.inodes i s k away)
              ∙ same_of_option f h (used_at r k) none (λ u used. same k u away used) ∙ sym (other_node (nodes_by h r) i (f (used_of s)) k away)
        ] in
        ap (nodes_by f) one_state ∙ (λ t k. each k t)

    pub one_node : ((j : ℕ) → j ≢ i → AgreeOnClaims (read_length g (reading_of g blocks)) (reading_of g blocks) blocks others j)
        → tree_of g others ≡ with_node (tree_of g blocks) i (option_map (node_of others) (used_of (state_at g others i)))
    unfolding tree_of
    one_node claims =
        changed_at (option_map (node_of others)) (option_map (node_of blocks)) refl (λ j u other used.
        ap (λ (n : Node). Some n) (same_node g blocks others j u used (claims j other)))

    pub one_shape : shape_of (tree_of g others)
        ≡ with_node (shape_of (tree_of g blocks)) i (option_map shape_of_node (option_map (node_of others) (used_of (state_at g others i))))
    unfolding tree_of shape_of
    one_shape =
        changed_at (λ o. option_map shape_of_node (option_map (node_of others) o)) (λ o. option_map shape_of_node (option_map (node_of blocks) o)) refl (λ j u other used.
        ap (λ (n : Node). Some n) (same_shape_of_used g blocks others j u used (only.claims j other)))

  module _ (n : ℕ) (within : n < g.groups) (only : OnlyGroup g (metadata_length g (reading_of g blocks)) blocks others n) where
    pub one_group : reading_of g others ≡ with_group (reading_of g blocks) n (group_at g others n)
    unfolding reading_of
    one_group =
        let groups : map (group_at g others) (range_with_len 0 g.groups) ≡ set (map (group_at g blocks) (range_with_len 0 g.groups)) n (group_at g others n) =
        map_changed (group_at g blocks) (group_at g others) g.groups n within only.groups in
        let inodes : map (state_at g others) (range_with_len 0 (inodes_of g)) ≡ map (state_at g blocks) (range_with_len 0 (inodes_of g)) =
        map_same (state_at g others) (state_at g blocks) (range_with_len 0 (inodes_of g)) (All_range (λ j. state_at g others j ≡ state_at g blocks j) (inodes_of g)
        (λ j below. state_same g blocks others j (only.claims j) below (only.records j below))) in
        λ t. record { groups = groups t; inodes = inodes t }

    same_nodes : (f h : Option UsedInode → Option Node) → f None ≡ h None → ((j : ℕ) (u : UsedInode) → used_at (reading_of g blocks) j ≡ Some u → f (Some u) ≡ h (Some u))
        → nodes_by f (reading_of g others) ≡ nodes_by h (reading_of g blocks)
    same_nodes f h none same =
        let each = same_of_used f h (reading_of g blocks) none same in
        ap (nodes_by f) one_group ∙ (λ t k. each k t)

    pub tree_beside : ((j : ℕ) → AgreeOnClaims (read_length g (reading_of g blocks)) (reading_of g blocks) blocks others j) → tree_of g others ≡ tree_of g blocks
    unfolding tree_of
    tree_beside claims =
        same_nodes (option_map (node_of others)) (option_map (node_of blocks)) refl (λ j u used. ap (λ (n : Node). Some n) (same_node g blocks others j u used (claims j)))

    pub shape_beside : shape_of (tree_of g others) ≡ shape_of (tree_of g blocks)
    unfolding tree_of shape_of
    shape_beside =
        same_nodes (λ o. option_map shape_of_node (option_map (node_of others) o)) (λ o. option_map shape_of_node (option_map (node_of blocks) o)) refl (λ j u used.
        ap (λ (n : Node). Some n) (same_shape_of_used g blocks others j u used (only.claims j)))
