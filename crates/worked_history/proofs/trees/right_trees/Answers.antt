-- Each inode of the volume is computed.
use Rattle.std.proofs.Common.{◌≡◌, ◌≤◌, ◌<◌, ℕ, ◌-◌, Bool, true, false, not, ◌&&◌, List, [], ◌∷◌, Option, Some, None, length, refl, sym, ap, inl, inr, ◌∙◌, arith, lit≤}
use Rattle.std.proofs.lemmas.Bool.{and_parts, true≢false, not-false, leb-true}
use Rattle.std.proofs.lemmas.Bool.Decides.{leb_tells}
use Rattle.std.proofs.lemmas.Option.{slice_get_past}
use Rattle.std.specs.Prelude.{is_some, nat_le, nat_lt, slice_get}
use Rattle.std.specs.Option.{option_map_or}
use Rattle.std.specs.List.{list_any, range_with_len}
use Rattle.volume_model.specs.Sound.{Node, File, Directory, Link, names_in_tree, has_bad_slots, names_unused, has_bad_parent}
use Rattle.volume_model.specs.Format.{new_directory}
use Rattle.volume_model.specs.Worked.{smallest}
use Rattle.history_model.specs.Places.{links_in}
use Rattle.history_model.specs.FileBytes.{greatest_size}
use Rattle.history_model.specs.Refusals.{most_links, most_chunks}
use Rattle.history_model.specs.Ranges.{longest_text, IsSizeInRange}
use Rattle.history_model.specs.WorkedTrees.{directory_of, tree_of_nodes, new_tree}
use Rattle.worked_history.specs.Trees.{family_nodes, family}
use Rattle.history_rules.proofs.StepsLaws.{none_in_range}
use Rattle.worked_history.proofs.trees.right_trees.Goals as goal

none_holds : (p : ℕ → Bool) → list_any p (range_with_len 0 32) ≡ false → (i : ℕ) → i < 32 → p i ≡ false
none_holds p none i less = none_in_range p 32 none i less

past_nodes : (nodes : List Node) (i : ℕ) → length nodes ≤ 30 → 32 ≤ i → tree_of_nodes nodes i ≡ None
past_nodes nodes i few past = by_low (nat_lt i 2) where
  by_low : (b : Bool) → (let o : Option Node = elim b [ true ↦ None | false ↦ slice_get nodes (i - 2) ] in o) ≡ None
  by_low true = refl
  by_low false = slice_get_past nodes (i - 2) (omega arith)

pub returns-clause-new_volume : goal.returns-clause-new_volume
returns-clause-new_volume c = record {
  names = record {
    root = refl;
    slots = none_holds (has_bad_slots (names_in_tree new_tree)) refl;
    used = none_holds (names_unused (names_in_tree new_tree)) refl;
    parents = none_holds (has_bad_parent 32 (names_in_tree new_tree)) refl;
  };
  within = λ i past. past_nodes (directory_of (new_directory 2 2 ∷ []) ∷ []) i (lit≤ tt) past;
}

pub returns-clause-names : goal.returns-clause-names
returns-clause-names c = record {
  names = record {
    root = refl;
    slots = none_holds (has_bad_slots (names_in_tree family)) refl;
    used = none_holds (names_unused (names_in_tree family)) refl;
    parents = none_holds (has_bad_parent 32 (names_in_tree family)) refl;
  };
  within = λ i past. past_nodes family_nodes i (lit≤ tt) past;
}

abbrev links_fail : ℕ → Bool
links_fail i = is_some (family i) && not (nat_le 1 (links_in smallest family i) && nat_le (links_in smallest family i) most_links)

links_right : list_any links_fail (range_with_len 0 32) ≡ false
unfolding links_in
links_right = refl

pub returns-clause-links : goal.returns-clause-links
returns-clause-links c = λ i real used. elim (leb_tells 32 i) [
  | inl (_, past) ↦ absurd (true≢false (sym used ∙ ap (λ (o : Option Node). is_some o) (past_nodes family_nodes i (lit≤ tt) past)))
  | inr (_, less) ↦
      let in_range : Bool = nat_le 1 (links_in smallest family i) && nat_le (links_in smallest family i) most_links in
      let fails : (is_some (family i) && not in_range) ≡ false = none_holds links_fail links_right i less in
      let holds : in_range ≡ true = not-false in_range (ap (λ (b : Bool). b && not in_range) (sym used) ∙ fails) in
      let both = and_parts (nat_le 1 (links_in smallest family i)) (nat_le (links_in smallest family i) most_links) holds in
      (leb-true 1 (links_in smallest family i) both.0, leb-true (links_in smallest family i) most_links both.1)
]

abbrev size_holds : Node → Bool
size_holds (File file) = nat_le file.size greatest_size
size_holds (Directory directory) = nat_le 1 (length directory.chunks) && nat_le (length directory.chunks) most_chunks
size_holds (Link link) = nat_le 1 (length link.text) && nat_le (length link.text) longest_text

size_in_range : (node : Node) → size_holds node ≡ true → IsSizeInRange node
size_in_range (File file) is = leb-true file.size greatest_size is
size_in_range (Directory directory) is =
    let both = and_parts (nat_le 1 (length directory.chunks)) (nat_le (length directory.chunks) most_chunks) is in
    (leb-true 1 (length directory.chunks) both.0, leb-true (length directory.chunks) most_chunks both.1)
size_in_range (Link link) is =
    let both = and_parts (nat_le 1 (length link.text)) (nat_le (length link.text) longest_text) is in
    (leb-true 1 (length link.text) both.0, leb-true (length link.text) longest_text both.1)

abbrev size_fails : ℕ → Bool
size_fails i = option_map_or (λ node. not (size_holds node)) (family i) false

pub returns-clause-sizes : goal.returns-clause-sizes
returns-clause-sizes c = λ i node is. elim (leb_tells 32 i) [
  | inl (_, past) ↦ absurd (let none : None ≡ Some node = sym (past_nodes family_nodes i (lit≤ tt) past) ∙ is in cc)
  | inr (_, less) ↦
      size_in_range node (not-false (size_holds node) (ap (λ (o : Option Node). option_map_or (λ n. not (size_holds n)) o false) (sym is) ∙ none_holds size_fails refl i less))
]
