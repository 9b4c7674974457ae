-- The links of a tree in which a name goes.
use Rattle.std.proofs.Common.{◌≡◌, ◌≢◌, ◌<◌, ℕ, ◌+◌, ◌==◌, Bool, true, false, ◌||◌, cond, List, [], ◌∷◌, Option, Some, None, refl, sym, ap, ◌∙◌, arith}
use Rattle.std.specs.Prelude.{is_some}
use Rattle.std.specs.List.{count_by}
use Rattle.std.specs.Option.{option_map_or}
use Rattle.std.proofs.lemmas.Bool.{true≢false}
use Rattle.lufs_base.specs.declared.geometry.Geometry.{Geometry}
use Rattle.volume_model.specs.declared.directory.Slot.{Slot}
use Rattle.volume_model.specs.Format.{inodes_of}
use Rattle.volume_model.specs.Sound.{DirectoryNode, Node, File, Directory, Link, Tree, with_node}
use Rattle.history_model.specs.Places.{slots_in_node, directory_slots, is_directory_node, is_directory_in, links_in, lookup}
use Rattle.history_model.specs.Walk.{WalkEnd}
use Rattle.history_model.specs.Edits.{Drop, taken_out_of, on_chunks, with_time, on_node, edited, edited_all}
use Rattle.history_model.specs.Effects.{lost_by, removing}
use Rattle.history_model.specs.Right.{IsRightWithin}
use Rattle.history_rules.proofs.NodeLaws.{on_node-other}
use Rattle.history_rules.proofs.NameLaws.{named}
use Rattle.history_rules.proofs.MakeLaws.{directory_in}
use Rattle.history_rules.proofs.KeptNameLaws.{SameNames, time_same}
use Rattle.history_rules.proofs.LinkLaws.{names_in, free_names_none, total-links}
use Rattle.history_rules.proofs.TotalLaws.{weight_in, total-same, total-with_node, total-on_node}
use Rattle.history_rules.proofs.EnterLaws.{all_slots, slot_sum}
use Rattle.history_rules.proofs.LeaveLaws.{leaves, leaves-sum}
use Rattle.history_rules.proofs.SlotRuleLaws.{one_if, of_inode}
use Rattle.history_rules.proofs.RightNameLaws.{slots_from}
use Rattle.history_rules.proofs.NamedRightLaws.{below, found_used}
use Rattle.history_rules.proofs.RemovedRightLaws.{named_by, weight_slots, with_alike}
use Rattle.history_rules.proofs.RenamedRightLaws.{directory_less}

-- what is no directory names nothing
no_slots : (o : Option Node) → option_map_or is_directory_node o false ≡ false → option_map_or slots_in_node o [] ≡ []
no_slots None plain = refl
no_slots (Some (File file)) plain = refl
no_slots (Some (Directory directory)) plain = absurd (true≢false plain)
no_slots (Some (Link link)) plain = refl

pub plain_slots : (tree : Tree) (i : ℕ) → is_directory_in tree i ≡ false → directory_slots tree i ≡ []
plain_slots tree i plain = no_slots (tree i) plain

-- how often a node names an inode
times_named : (j : ℕ) (o : Option Node) → weight_in (names_in j) o ≡ count_by (λ s. s.ino == j) (option_map_or slots_in_node o [])
times_named j None = refl
times_named j (Some node) = refl

module _ (g : Geometry) (tree : Tree) (p : WalkEnd) (i moment j : ℕ) (right : IsRightWithin g tree) (is_dir : is_directory_in tree p.dir ≡ true) (found : lookup tree p.dir p.name ≡ Some i) (apart : i ≢ p.dir)
    (real : j ≢ 0) where
  abbrev leaving : List (List Slot) → List (List Slot)
  leaving chunks = taken_out_of chunks p.name

  abbrev left : Tree
  left = on_node p.dir (on_chunks leaving) tree

  abbrev timed : Tree
  timed = on_node p.dir (with_time moment) left

  d : (d : DirectoryNode) × (tree p.dir ≡ Some (Directory d))
  d = directory_in (tree p.dir) is_dir

  less_i : i < inodes_of g
  less_i = below g tree right i (found_used g tree right p.dir d.0 p.name i d.1 found).1

  -- the name goes
  left_links : links_in g left j + one_if (i == j) ≡ links_in g tree j
  left_links =
      let here : named (all_slots d.0.chunks) p.name ≡ Some i = sym (ap (λ (o : Option Node). named_by o p.name) d.1) ∙ found in
      let fewer = leaves-sum p.name i (of_inode j) (free_names_none j real) (all_slots d.0.chunks) (all_slots (leaving d.0.chunks)) (leaves p.name i d.0.chunks here) in
      omega (arith, fewer, total-on_node (names_in j) g tree p.dir (on_chunks leaving) (Directory d.0) d.1 (directory_less g tree right p.dir is_dir), total-links g tree j, total-links g left j)

  -- the inode goes
  gone_links : links_in g (with_node left i None) j + count_by (λ s. s.ino == j) (directory_slots tree i) ≡ links_in g left j
  gone_links =
      let still : left i ≡ tree i = on_node-other tree p.dir i (on_chunks leaving) apart in
      let named_there = ap (weight_in (names_in j)) still ∙ times_named j (tree i) in
      omega (arith, named_there, total-with_node (names_in j) g left i None less_i, total-links g left j, total-links g (with_node left i None) j)

  -- trees with the same names have the same links
  links_as : (first other : Tree) → SameNames other first → links_in g other j ≡ links_in g first j
  links_as first other same =
      sym (total-links g other j)
      ∙ total-same (names_in j) g other first (λ k. weight_slots j (other k) ∙ ap (λ (o : Option (Option (List Slot))). slot_sum (of_inode j) (slots_from o)) (same k) ∙ sym (weight_slots j (first k)))
      ∙ total-links g first j

  timed_left : SameNames timed left
  timed_left = time_same left p.dir moment

  by_lost : (b : Bool) → links_in g (edited_all (option_map_or (λ lost. Drop lost ∷ []) (cond b (Some i) None) []) timed) j + cond (i == j) 1 0
      + option_map_or (λ lost. count_by (λ s. s.ino == j) (directory_slots tree lost)) (cond b (Some i) None) 0 ≡ links_in g tree j
  unfolding edited
  by_lost true = omega (arith, links_as (with_node left i None) (with_node timed i None) (with_alike timed left i None timed_left), gone_links, left_links)
  by_lost false = omega (arith, links_as left timed timed_left, left_links)

  pub removed_links : links_in g (edited_all (removing g tree p i moment) tree) j + cond (i == j) 1 0 + option_map_or (λ lost. count_by (λ s. s.ino == j) (directory_slots tree lost)) (lost_by g tree i) 0
      ≡ links_in g tree j
  unfolding edited
  removed_links = by_lost (is_directory_in tree i || links_in g tree i == 1)
