-- The links of a tree in which an inode is made and gets a name.
use Rattle.std.proofs.Common.{◌≡◌, ◌≢◌, ◌<◌, ℕ, ◌+◌, ◌==◌, Bool, true, false, not, cond, List, [], ◌∷◌, Option, Some, None, refl, sym, ap, ◌∙◌, subst, inl, inr, arith, sum_by}
use Rattle.std.specs.Prelude.{is_some}
use Rattle.std.specs.List.{list_any, count_by, range_with_len}
use Rattle.std.specs.Option.{option_map_or}
use Rattle.std.proofs.lemmas.Bool.{cases_Bool, or_parts, true≢false, not-false, eqb-true, ne_eqb}
use Rattle.std.proofs.lemmas.List.Sums.{sum_by-cons}
use Rattle.lufs_base.specs.declared.geometry.Geometry.{Geometry}
use Rattle.volume_model.specs.declared.directory.Slot.{Slot}
use Rattle.volume_model.specs.Format.{inodes_of}
use Rattle.volume_model.specs.Sound.{DirectoryNode, Node, Directory, Tree, with_node, names_in_tree, is_used_in, slots_at}
use Rattle.history_model.specs.Places.{slots_in_node, is_directory_in, links_in}
use Rattle.history_model.specs.Walk.{WalkEnd}
use Rattle.history_model.specs.Edits.{Enter, SetTime, entered_in, on_chunks, with_time, on_node, edited, edited_all}
use Rattle.history_model.specs.Effects.{making}
use Rattle.history_model.specs.Histories.{IsUsable}
use Rattle.history_model.specs.Right.{IsRightWithin}
use Rattle.history_rules.proofs.NodeLaws.{with_node-other}
use Rattle.history_rules.proofs.MakeLaws.{directory_in}
use Rattle.history_rules.proofs.KeptNameLaws.{SameNames, names_of, time_same}
use Rattle.history_rules.proofs.LinkLaws.{names_in, total-links, links-enter}
use Rattle.history_rules.proofs.TotalLaws.{weight_in, total-same, total-with_node}
use Rattle.history_rules.proofs.EnterLaws.{slot_sum}
use Rattle.history_rules.proofs.SlotRuleLaws.{one_if, of_inode, in_use}
use Rattle.history_rules.proofs.RightNameLaws.{slots_from}
use Rattle.history_rules.proofs.StepsLaws.{sum_none}
use Rattle.history_rules.proofs.NamedRightLaws.{used_as}
use Rattle.history_rules.proofs.RemovedRightLaws.{weight_slots}
use Rattle.history_rules.proofs.RenamedRightLaws.{directory_less}

none_if : (a b : ℕ) → a ≢ b → one_if (a == b) ≡ 0
none_if a b apart = ap one_if (ne_eqb a b apart)

-- an inode that isn't in use is named nowhere
unnamed_in : (used : ℕ → Bool) (i : ℕ) → used i ≡ false → i ≢ 0 → (slots : List Slot) → list_any (λ s. not (used s.ino)) (in_use slots) ≡ false → slot_sum (of_inode i) slots ≡ 0
unnamed_in used i free real [] is = refl
unnamed_in used i free real (s ∷ slots) is =
    let at = sum_by-cons (λ (t : Slot). of_inode i t.ino t.name) s slots in
    let by : Bool → Bool = λ b. list_any (λ (t : Slot). not (used t.ino)) (cond (not b) (s ∷ in_use slots) (in_use slots)) in
    elim (cases_Bool (s.ino == 0)) [
      | inl unused ↦
          let none = none_if s.ino i (λ e. real (sym e ∙ eqb-true s.ino 0 unused)) in
          omega (arith, at, none, unnamed_in used i free real slots (sym (ap by unused) ∙ is))
      | inr taken ↦
          let parts = or_parts (not (used s.ino)) (list_any (λ t. not (used t.ino)) (in_use slots)) (sym (ap by taken) ∙ is) in
          let none = none_if s.ino i (λ e. true≢false (sym (not-false (used s.ino) parts.0) ∙ ap used e ∙ free)) in
          omega (arith, at, none, unnamed_in used i free real slots parts.1)
    ]

pub free_links : (g : Geometry) (tree : Tree) (i : ℕ) → IsRightWithin g tree → i ≢ 0 → tree i ≡ None → links_in g tree i ≡ 0
free_links g tree i right real free =
    let unused : is_used_in (names_in_tree tree) i ≡ false = used_as (tree i) ∙ ap (λ (o : Option Node). is_some o) free in
    sym (total-links g tree i)
    ∙ sum_none (λ (k : ℕ). weight_in (names_in i) (tree k)) (inodes_of g) 0 (λ k low high. weight_slots i (tree k) ∙ unnamed_in (is_used_in (names_in_tree tree)) i unused real (slots_at (names_in_tree tree) k) (right.names.used k (omega arith)))

-- trees with the same names have the same links
links_as : (g : Geometry) (tree other : Tree) → SameNames other tree → (j : ℕ) → links_in g other j ≡ links_in g tree j
links_as g tree other same j =
    sym (total-links g other j)
    ∙ total-same (names_in j) g other tree (λ k. weight_slots j (other k) ∙ ap (λ (o : Option (Option (List Slot))). slot_sum (of_inode j) (slots_from o)) (same k) ∙ sym (weight_slots j (tree k)))
    ∙ total-links g tree j

module _ (g : Geometry) (tree : Tree) (p : WalkEnd) (ino moment : ℕ) (node : Node) (j : ℕ) (right : IsRightWithin g tree) (is_dir : is_directory_in tree p.dir ≡ true) (usable : IsUsable g tree ino) (real : j ≢ 0) where
  abbrev first : Tree
  first = with_node tree ino (Some node)

  d : (d : DirectoryNode) × (tree p.dir ≡ Some (Directory d))
  d = directory_in (tree p.dir) is_dir

  absent : Some (Directory d.0) ≡ None → ⊥
  absent is = cc

  still : first p.dir ≡ Some (Directory d.0)
  still = with_node-other tree ino p.dir (Some node) (λ same. absent (sym d.1 ∙ ap tree same ∙ usable.free)) ∙ d.1

  made_first : links_in g first j ≡ links_in g tree j + names_in j node
  made_first =
      let none : weight_in (names_in j) (tree ino) ≡ 0 = ap (weight_in (names_in j)) usable.free in
      omega (arith, none, total-with_node (names_in j) g tree ino (Some node) usable.high, total-links g tree j, total-links g first j)

  entered : links_in g (edited (Enter p.dir p.name ino) first) j ≡ links_in g first j + cond (ino == j) 1 0
  entered = links-enter p.name ino j real g first p.dir d.0 still (directory_less g tree right p.dir is_dir)

  pub made_links : links_in g (edited_all (making p ino moment node) tree) j ≡ links_in g tree j + count_by (λ s. s.ino == j) (slots_in_node node) + cond (ino == j) 1 0
  unfolding edited
  made_links =
      let second : Tree = edited (Enter p.dir p.name ino) first in
      let timed = links_as g second (on_node p.dir (with_time moment) second) (time_same second p.dir moment) j in
      omega (arith, timed, entered, made_first)
