-- The node of a file by its numbers: with a block more, with more holes, and where the bytes of its blocks stay.
use Rattle.std.proofs.Common.{◌≡◌, ◌<◌, ◌≤◌, inl, inr, ℕ, zero, suc, ◌+◌, ◌-◌, eqb, true, false, cond, List, [], ◌∷◌, ◌++◌, length, map, take, set, replicate, slice_index, Option, Some, None, refl, sym, ap, ◌∙◌, arith}
use Rattle.std.specs.List.{range_with_len}
use Rattle.std.proofs.lemmas.Bool.{cases_Bool, cond-true, cond-false, eq-eqb}
use Rattle.std.proofs.lemmas.List.{append-nil, append_assoc, get_or-set_same, get_or-set_other}
use Rattle.std.proofs.lemmas.List.FromFn.{map-range_with_len_more}
use Rattle.lufs_base.specs.declared.geometry.Geometry.{Geometry}
use Rattle.volume_model.specs.Format.{Blocks, is_file}
use Rattle.volume_model.specs.Sound.{UsedInode, reading_of, used_at, size_in_blocks, FileNode, Node, File, Directory, Link, attributes_of, file_block, file_blocks, pointer_names, node_of, tree_of}
use Rattle.volume_laws.proofs.Members.{All_range, map_same}
use Rattle.volume_laws.proofs.ListParts.{map_changed}
use Rattle.volume_laws.proofs.NodeFacts.{node_of_file, node_is, file_by_node}

abbrev pub file_read : Blocks → UsedInode → FileNode
file_read blocks u = record { attributes = attributes_of u.inode; size = u.inode.size; blocks = file_blocks blocks u; pointers = pointer_names u }

-- a file of the tree is read from its inode
pub record IsFileOf (blocks : Blocks) (u : UsedInode) (file : FileNode) : Type 0 where
  pub is : is_file u.inode.mode ≡ true
  pub same : file ≡ file_read blocks u

abbrev file_in : Node → FileNode → FileNode
file_in (File file) other = file
file_in (Directory directory) other = other
file_in (Link link) other = other

pub file_of_tree : (g : Geometry) (blocks : Blocks) (i : ℕ) (u : UsedInode) (file : FileNode) → used_at (reading_of g blocks) i ≡ Some u
    → tree_of g blocks i ≡ Some (File file) → IsFileOf blocks u file
file_of_tree g blocks i u file used stands =
    let is = file_by_node g blocks i u file used stands in
    record { is = is; same = ap (λ (n : Node). file_in n file) (sym (node_is g blocks i u (File file) used stands) ∙ node_of_file blocks u is) }

-- the same node has the same blocks
pub blocks_by_node : (blocks others : Blocks) (u : UsedInode) → is_file u.inode.mode ≡ true → node_of others u ≡ node_of blocks u → file_blocks others u ≡ file_blocks blocks u
blocks_by_node blocks others u is same =
    ap (λ (n : Node). (file_in n (file_read blocks u)).blocks) (sym (node_of_file others u is) ∙ same ∙ node_of_file blocks u is)

-- a block more, at an index below the size
pub blocks_attached : (blocks : Blocks) (u v : UsedInode) (k b : ℕ) → v.numbers ≡ set u.numbers k b → v.inode.size ≡ u.inode.size → k < size_in_blocks u.inode.size
    → k < length u.numbers → eqb b 0 ≡ false → file_blocks blocks v ≡ set (file_blocks blocks u) k (Some (take 4096 (blocks b)))
blocks_attached blocks u v k b numbers size below within some =
    let s = size_in_blocks u.inode.size in
    let old : ℕ → Option (List ℕ) = λ index. file_block blocks (slice_index u.numbers index) in
    let new : ℕ → Option (List ℕ) = λ index. file_block blocks (slice_index (set u.numbers k b) index) in
    let here : new k ≡ Some (take 4096 (blocks b)) = ap (file_block blocks) (get_or-set_same u.numbers k b 0 within) ∙ cond-false (eqb b 0) None (Some (take 4096 (blocks b))) some in
    (λ t. map (λ index. file_block blocks (slice_index (numbers t) index)) (range_with_len 0 (size_in_blocks (size t))))
    ∙ map_changed old new s k below (λ index less away. ap (file_block blocks) (get_or-set_other u.numbers k index b 0 away))
    ∙ ap (set (file_blocks blocks u) k) here

-- holes at more indexes
one_more_hole : (m : ℕ) → ◌≡◌ {A = List (Option (List ℕ))} (replicate (suc m) None) (replicate m None ++ (None ∷ []))
one_more_hole zero = refl
one_more_hole (suc m) = ap (λ (l : List (Option (List ℕ))). None ∷ l) (one_more_hole m)

holes_from : (f : ℕ → Option (List ℕ)) (s m : ℕ) → ((index : ℕ) → s ≤ index → f index ≡ None) → map f (range_with_len 0 (s + m)) ≡ map f (range_with_len 0 s) ++ replicate m None
holes_from f s zero none =
    let same : s + zero ≡ s = omega arith in
    ap (λ (n : ℕ). map f (range_with_len 0 n)) same ∙ sym (append-nil (map f (range_with_len 0 s)))
holes_from f s (suc m) none =
    let more : s + suc m ≡ (s + m) + 1 = omega arith in
    let at : 0 + (s + m) ≡ s + m = omega arith in
    ap (λ (n : ℕ). map f (range_with_len 0 n)) more ∙ map-range_with_len_more f 0 (s + m) (s + m) at
    ∙ (λ t. holes_from f s m none t ++ (none (s + m) (omega arith) t ∷ []))
    ∙ append_assoc (map f (range_with_len 0 s)) (replicate m None) (None ∷ [])
    ∙ ap (λ (l : List (Option (List ℕ))). map f (range_with_len 0 s) ++ l) (sym (one_more_hole m))

pub blocks_lengthened : (blocks : Blocks) (u v : UsedInode) → v.numbers ≡ u.numbers → ((index : ℕ) → size_in_blocks u.inode.size ≤ index → slice_index u.numbers index ≡ 0)
    → size_in_blocks u.inode.size ≤ size_in_blocks v.inode.size
    → file_blocks blocks v ≡ file_blocks blocks u ++ replicate (size_in_blocks v.inode.size - size_in_blocks u.inode.size) None
blocks_lengthened blocks u v numbers past more =
    let s = size_in_blocks u.inode.size in
    let m = size_in_blocks v.inode.size - s in
    let f : ℕ → Option (List ℕ) = λ index. file_block blocks (slice_index u.numbers index) in
    let all : size_in_blocks v.inode.size ≡ s + m = omega (arith, more) in
    (λ t. map (λ index. file_block blocks (slice_index (numbers t) index)) (range_with_len 0 (all t)))
    ∙ holes_from f s m (λ index high. cond-true (eqb (slice_index u.numbers index) 0) None (Some (take 4096 (blocks (slice_index u.numbers index)))) (eq-eqb (slice_index u.numbers index) 0 (past index high)))

-- the bytes of a file stay where those of each block that it has stay
pub blocks_stay : (blocks others : Blocks) (u : UsedInode) → ((index : ℕ) → eqb (slice_index u.numbers index) 0 ≡ false
    → take 4096 (others (slice_index u.numbers index)) ≡ take 4096 (blocks (slice_index u.numbers index))) → file_blocks others u ≡ file_blocks blocks u
blocks_stay blocks others u same =
    let s = size_in_blocks u.inode.size in
    let at : Blocks → ℕ → Option (List ℕ) = λ c index. file_block c (slice_index u.numbers index) in
    map_same (at others) (at blocks) (range_with_len 0 s) (All_range (λ index. at others index ≡ at blocks index) s (λ index less.
    let number = slice_index u.numbers index in
    elim (cases_Bool (eqb number 0)) [
      | inl none ↦ cond-true (eqb number 0) None (Some (take 4096 (others number))) none ∙ sym (cond-true (eqb number 0) None (Some (take 4096 (blocks number))) none)
      | inr some ↦ ap (λ (bytes : List ℕ). cond (eqb number 0) None (Some bytes)) (same index some)
    ]))
