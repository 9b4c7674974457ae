-- How many blocks all inodes of a volume claim: as many as the nodes of its tree.
use Rattle.std.proofs.Common.{◌≡◌, ℕ, ◌<◌, Bool, true, false, not, List, [], length, Option, Some, None, refl, sym, ap, ◌∙◌}
use Rattle.std.specs.Prelude.{is_some, option_map, if◌then◌else◌}
use Rattle.std.specs.List.{count_by, range_with_len}
use Rattle.std.specs.Option.{option_map_or}
use Rattle.std.proofs.lemmas.Bool.{not-false}
use Rattle.std.proofs.lemmas.List.Concat.{length-flat_map}
use Rattle.lufs_base.specs.Fields.{are_zeros}
use Rattle.lufs_base.specs.declared.geometry.Geometry.{Geometry}
use Rattle.volume_model.specs.declared.inode.Dinode.{Dinode}
use Rattle.volume_model.specs.Format.{Blocks, inodes_of, numbers_in, named_dinode, is_dinode, dinode_of}
use Rattle.volume_model.specs.Sound.{UsedInode, reading_of, inode_at, used_inode, state_of, state_at, used_of, used_at, claims_in, claims_at, claims_of, has_right_fields, has_bad_fields, Tree, claimed_by, claimed_at, claimed_in_tree, used_in_tree, node_of, tree_of}
use Rattle.volume_laws.proofs.Counting.{one_if, total, total_same, sum_of_range, sum_of_map}
use Rattle.volume_laws.proofs.ClaimFacts.{length-inodes, used_in_volume}
use Rattle.volume_laws.proofs.FieldFacts.{fields_of_test}
use Rattle.volume_laws.proofs.NodeClaims.{claims_of_node}

direct_of : (zeros named : Bool) (n d : Dinode) → ◌≡◌ {A = Option (Option Dinode)} (if zeros then Some None else (if named then Some (Some n) else None)) (Some (Some d)) → n ≡ d
direct_of true named n d is = cc
direct_of false true n d is = cc
direct_of false false n d is = cc

-- an inode in use has twelve direct blocks
pub direct_size : (version : ℕ) (bytes : List ℕ) (d : Dinode) → dinode_of version bytes ≡ Some (Some d) → length d.direct ≡ 12
unfolding dinode_of numbers_in
direct_size version bytes d is =
    sym (ap (λ (e : Dinode). length e.direct) (direct_of (are_zeros bytes) (is_dinode version bytes) (named_dinode bytes) d is))

claims_of_state : (g : Geometry) (blocks : Blocks) (i : ℕ) (v : Option (Option Dinode)) → ((d : Dinode) → v ≡ Some (Some d) → length d.direct ≡ 12)
    → option_map_or (λ u. not (has_right_fields g i u)) (used_of (state_of blocks v)) false ≡ false
    → length (option_map_or (claims_in i) (used_of (state_of blocks v)) []) ≡ option_map_or claimed_by (option_map (node_of blocks) (used_of (state_of blocks v))) 0
claims_of_state g blocks i None direct kept = refl
claims_of_state g blocks i (Some None) direct kept = refl
claims_of_state g blocks i (Some (Some d)) direct kept =
    claims_of_node blocks d i (fields_of_test g i (used_inode blocks d) (not-false (has_right_fields g i (used_inode blocks d)) kept)) (direct d refl)

-- all claims of a volume are those of the nodes of its tree, where no inode has bad fields
pub claims_of_tree : (g : Geometry) (blocks : Blocks) → ((i : ℕ) → i < inodes_of g → has_bad_fields g (reading_of g blocks) i ≡ false)
    → length (claims_of (reading_of g blocks)) ≡ claimed_in_tree g (tree_of g blocks)
unfolding claims_of tree_of reading_of
claims_of_tree g blocks kept =
    let r = reading_of g blocks in
    let n = inodes_of g in
    let tree : Tree = tree_of g blocks in
    let all : length (claims_of r) ≡ total (λ i. length (claims_at r i)) (length r.inodes) =
    length-flat_map (claims_at r) (range_with_len 0 (length r.inodes)) ∙ sum_of_range (λ i. length (claims_at r i)) (length r.inodes) in
    let size : length r.inodes ≡ n = length-inodes g blocks in
    let each : total (λ i. length (claims_at r i)) n ≡ total (claimed_at tree) n =
    total_same (λ i. length (claims_at r i)) (claimed_at tree) n (λ i below.
    let used : used_at r i ≡ used_of (state_at g blocks i) = used_in_volume g blocks i below in
    ap (λ (o : Option UsedInode). length (option_map_or (claims_in i) o [])) used
    ∙ claims_of_state g blocks i (inode_at g blocks i) (direct_size g.version _)
    (ap (λ (o : Option UsedInode). option_map_or (λ u. not (has_right_fields g i u)) o false) (sym used) ∙ kept i below)
    ∙ ap (λ (o : Option UsedInode). option_map_or claimed_by (option_map (node_of blocks) o) 0) (sym used)) in
    let nodes : claimed_in_tree g tree ≡ total (claimed_at tree) n = sum_of_range (claimed_at tree) n in
    all ∙ ap (total (λ i. length (claims_at r i))) size ∙ each ∙ sym nodes

pub node_there : {X Y : Type 0} (f : X → Y) (o : Option X) → is_some (option_map f o) ≡ is_some o
node_there f None = refl
node_there f (Some x) = refl

-- the inodes in use are the nodes of the tree
pub nodes_counted : (g : Geometry) (blocks : Blocks) → count_by (λ state. is_some (used_of state)) (reading_of g blocks).inodes ≡ used_in_tree g (tree_of g blocks)
unfolding tree_of reading_of
nodes_counted g blocks =
    let n = inodes_of g in
    let tree : Tree = tree_of g blocks in
    let of_state : ℕ → ℕ = λ i. one_if (is_some (used_of (state_at g blocks i))) in
    let of_node : ℕ → ℕ = λ i. one_if (is_some (tree i)) in
    let states : count_by (λ state. is_some (used_of state)) (reading_of g blocks).inodes ≡ total of_state n =
    sum_of_map (λ state. one_if (is_some (used_of state))) (state_at g blocks) (range_with_len 0 n) ∙ sum_of_range of_state n in
    let same : total of_state n ≡ total of_node n =
    total_same of_state of_node n (λ i below.
    ap (λ (o : Option UsedInode). one_if (is_some o)) (sym (used_in_volume g blocks i below))
    ∙ ap one_if (sym (node_there (node_of blocks) (used_at (reading_of g blocks) i)))) in
    let nodes : used_in_tree g tree ≡ total of_node n = sum_of_range of_node n in
    states ∙ same ∙ sym nodes
