-- A name that is entered is one link more.
use Rattle.std.proofs.Common.{◌≡◌, ◌≢◌, ◌<◌, ℕ, ◌+◌, ◌==◌, cond, List, [], Option, Some, None, refl, sym, ap, arith, sum_by}
use Rattle.std.proofs.lemmas.Bool.{ne_eqb}
use Rattle.std.specs.List.{count_by, range_with_len}
use Rattle.std.specs.Option.{option_map_or}
use Rattle.lufs_base.specs.declared.geometry.Geometry.{Geometry}
use Rattle.volume_model.specs.Format.{inodes_of}
use Rattle.volume_model.specs.Sound.{DirectoryNode, Node, Directory, Tree}
use Rattle.history_model.specs.Places.{slots_in_node, links_in}
use Rattle.history_model.specs.Edits.{Enter, edited, entered_in, on_chunks}
use Rattle.history_rules.proofs.TotalLaws.{weight_in, total, total-on_node}
use Rattle.history_rules.proofs.EnterLaws.{all_slots, slot_sum, enters, enters-sum}
use Rattle.history_rules.proofs.SlotRuleLaws.{one_if, of_inode}

-- the slots of a node that name the inode
abbrev pub names_in : ℕ → Node → ℕ
names_in i n = slot_sum (of_inode i) (slots_in_node n)

names_at : (i : ℕ) (o : Option Node) → weight_in (names_in i) o ≡ count_by (λ s. s.ino == i) (option_map_or slots_in_node o [])
names_at i None = refl
names_at i (Some n) = refl

pub total-links : (g : Geometry) (tree : Tree) (i : ℕ) → total (names_in i) g tree ≡ links_in g tree i
unfolding links_in
total-links g tree i = λ t. sum_by (λ k. names_at i (tree k) t) (range_with_len 0 (inodes_of g))

-- a slot that isn't in use names no inode
pub free_names_none : (i : ℕ) → i ≢ 0 → (other : List ℕ) → of_inode i 0 other ≡ 0
free_names_none i real other = ap one_if (ne_eqb 0 i (λ e. real (sym e)))

pub links-enter : (name : List ℕ) (i j : ℕ) → j ≢ 0 → (g : Geometry) (tree : Tree) (dir : ℕ) (d : DirectoryNode) → tree dir ≡ Some (Directory d) → dir < inodes_of g
    → links_in g (edited (Enter dir name i) tree) j ≡ links_in g tree j + cond (i == j) 1 0
unfolding edited
links-enter name i j real g tree dir d there below =
    let entering : Node → Node = on_chunks (λ chunks. entered_in chunks name i) in
    let changed = total-on_node (names_in j) g tree dir entering (Directory d) there below in
    let more = enters-sum name i (of_inode j) (free_names_none j real) (all_slots d.chunks) (all_slots (entered_in d.chunks name i)) (enters name i d.chunks) in
    omega (arith, changed, more, total-links g tree j, total-links g (edited (Enter dir name i) tree) j)
