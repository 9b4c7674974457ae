-- Links stay in their range under every call.
use Rattle.std.proofs.Common.{◌≡◌, ◌≢◌, ◌≤◌, ◌<◌, ◌⊎◌, ℕ, zero, suc, ◌+◌, ◌==◌, Bool, true, false, not, ◌&&◌, ◌||◌, cond, List, [], ◌∷◌, Option, Some, None, refl, sym, ap, subst, inl, inr, ◌∙◌, arith, sum_by}
use Rattle.std.proofs.lemmas.Bool.{cases_Bool, cases_eq, and_parts, or_parts, true≢false, not-false, eqb-true, eqb-false, eq-eqb, ne_eqb, leb-false}
use Rattle.std.proofs.lemmas.List.Sums.{sum_by-cons}
use Rattle.std.specs.Prelude.{is_some}
use Rattle.std.specs.List.{list_any, count_by, range_with_len, AllByRecursion}
use Rattle.std.specs.Option.{option_map_or}
use Rattle.lufs_base.specs.declared.geometry.Geometry.{Geometry}
use Rattle.tree_types.specs.declared.credentials.Cred.{Cred}
use Rattle.tree_types.specs.declared.call.Call.{Call}
use Rattle.tree_types.specs.declared.call.Call.TheVariants as call
use Rattle.volume_model.specs.declared.directory.Slot.{Slot}
use Rattle.volume_model.specs.Format.{inodes_of}
use Rattle.volume_model.specs.Sound.{DirectoryNode, Node, File, Directory, Link, Tree, Names, with_node, names_in_tree, is_used_in, slots_at, parent_at, links_to, dot, dot_dot}
use Rattle.volume_model.specs.Sound.{is_directory_in as is_directory_at}
use Rattle.history_model.specs.Places.{lookup, slots_in_node, is_directory_in, is_directory_node, is_dots, links_in}
use Rattle.history_model.specs.Walk.{WalkEnd}
use Rattle.history_model.specs.Ends.{WalkEnds, One, Two}
use Rattle.history_model.specs.Edits.{Drop, entered_in, taken_out_of, on_chunks, with_time, on_node, edited, edited_all}
use Rattle.history_model.specs.Refusals.{Proceed, most_links, has_most_links, found_is, is_empty_in, decision_at}
use Rattle.history_model.specs.Effects.{making, naming, removing, on_found_inode, new_file, new_subdirectory, new_link, edits_at}
use Rattle.history_model.specs.Histories.{makes_inode, IsUsable}
use Rattle.history_model.specs.Replies.{tree_after}
use Rattle.history_model.specs.Right.{IsRightWithin}
use Rattle.history_model.specs.Ranges.{HasLinksInRange}
use Rattle.history_rules.proofs.NodeLaws.{with_node-here, with_node-other, on_node-other}
use Rattle.history_rules.proofs.NameLaws.{named}
use Rattle.history_rules.proofs.MakeLaws.{directory_in}
use Rattle.history_rules.proofs.AccountLaws.{IsIn, EndsIn}
use Rattle.history_rules.proofs.CarriedOutLaws.{rename_rows, after_holds, mkdir_goes, link_goes, remove_goes, rmdir_goes}
use Rattle.history_rules.proofs.KeptNameLaws.{changes_names, names_of, SameNames, time_same, at_same}
use Rattle.history_rules.proofs.LinkLaws.{names_in, free_names_none, total-links}
use Rattle.history_rules.proofs.TotalLaws.{weight_in, total-same, total-with_node, total-on_node}
use Rattle.history_rules.proofs.EnterLaws.{all_slots, slot_sum, enters, enters-sum}
use Rattle.history_rules.proofs.LeaveLaws.{leaves, leaves-sum}
use Rattle.history_rules.proofs.SlotRuleLaws.{filtered_sum, one_if, of_inode, in_use}
use Rattle.history_rules.proofs.RightNameLaws.{slots_from, slots_none}
use Rattle.history_rules.proofs.ChangedRightLaws.{BeginsAs, begin_parts, good_parts}
use Rattle.history_rules.proofs.DroppedRightLaws.{row_alike}
use Rattle.history_rules.proofs.StepsLaws.{sum_none}
use Rattle.history_rules.proofs.NamedRightLaws.{below, found_used, directory_as, used_as}
use Rattle.history_rules.proofs.RemovedRightLaws.{named_by, slots_as, weight_slots, with_alike}
use Rattle.history_rules.proofs.RemovedDirectoryLaws.{not_dots}
use Rattle.history_rules.proofs.CountedLaws.{sum_at}
use Rattle.history_rules.proofs.TurnedRowLaws.{turned, turned_directory, turned_used}
use Rattle.history_rules.proofs.RenamedRightLaws.{directory_less, as_name, real_directory, real_above, rules, name_listed, empty_entries, not_empty, HasMoved, HoldsWhereMoved}
use Rattle.history_rules.proofs.RenameLaws.{renamed_holds}
use Rattle.history_rules.proofs.AfterRightLaws.{right_after}

-- No inode has too many links, and one that is no directory has one.
abbrev AreBounded : Geometry → Tree → Type 0
AreBounded g tree = (j : ℕ) → j ≢ 0 → is_some (tree j) ≡ true → (links_in g tree j ≤ most_links) × (is_directory_in tree j ≡ false → 1 ≤ links_in g tree j)

part_at : (f : ℕ → ℕ) (len a k : ℕ) → a ≤ k → k < a + len → f k ≤ sum_by f (range_with_len a len)
part_at f zero a k low high = absurd (omega arith)
part_at f (suc len) a k low high =
    let at = sum_by-cons f a (range_with_len (a + 1) len) in
    elim (cases_eq a k) [
      | inl same ↦ let here = ap f same in omega (arith, at, here)
      | inr apart ↦ let more = part_at f len (a + 1) k (omega arith) (omega arith) in omega (arith, at, more)
    ]

few : (b : Bool) → one_if b ≤ 1
few true = omega arith
few false = omega arith

none_if : (a b : ℕ) → a ≢ b → one_if (a == b) ≡ 0
none_if a b apart = ap one_if (ne_eqb a b apart)

one_is : (a b : ℕ) → a ≡ b → one_if (a == b) ≡ 1
one_is a b same = ap one_if (eq-eqb a b same)

-- a directory names itself and the one above it
begins_own : (k parent : ℕ) (xs : List Slot) → BeginsAs k parent xs → 1 ≤ slot_sum (of_inode k) xs
begins_own k parent [] is = absurd (true≢false (sym is.0))
begins_own k parent (s ∷ []) is = absurd (true≢false (sym is.0))
begins_own k parent (s ∷ (t ∷ xs)) is =
    let parts = begin_parts k s t xs is.0 in
    omega (arith, one_is s.ino k parts.2, sum_by-cons (λ (x : Slot). of_inode k x.ino x.name) s (t ∷ xs))

begins_above : (k parent : ℕ) (xs : List Slot) → BeginsAs k parent xs → 1 ≤ slot_sum (of_inode parent) xs
begins_above k parent [] is = absurd (true≢false (sym is.0))
begins_above k parent (s ∷ []) is = absurd (true≢false (sym is.0))
begins_above k parent (s ∷ (t ∷ xs)) is =
    let weight : Slot → ℕ = λ x. of_inode parent x.ino x.name in
    omega (arith, one_is t.ino parent is.1, sum_by-cons weight s (t ∷ xs), sum_by-cons weight t xs)

-- an inode that isn't in use is named nowhere
unnamed_in : (used : ℕ → Bool) (i : ℕ) → used i ≡ false → i ≢ 0 → (slots : List Slot) → list_any (λ s. not (used s.ino)) (in_use slots) ≡ false → slot_sum (of_inode i) slots ≡ 0
unnamed_in used i free real [] is = refl
unnamed_in used i free real (s ∷ slots) is =
    let at = sum_by-cons (λ (t : Slot). of_inode i t.ino t.name) s slots in
    let by : Bool → Bool = λ b. list_any (λ (t : Slot). not (used t.ino)) (cond (not b) (s ∷ in_use slots) (in_use slots)) in
    elim (cases_Bool (s.ino == 0)) [
      | inl unused ↦
          let none = none_if s.ino i (λ e. real (sym e ∙ eqb-true s.ino 0 unused)) in
          omega (arith, at, none, unnamed_in used i free real slots (sym (ap by unused) ∙ is))
      | inr taken ↦
          let parts = or_parts (not (used s.ino)) (list_any (λ t. not (used t.ino)) (in_use slots)) (sym (ap by taken) ∙ is) in
          let none = none_if s.ino i (λ e. true≢false (sym (not-false (used s.ino) parts.0) ∙ ap used e ∙ free)) in
          omega (arith, at, none, unnamed_in used i free real slots parts.1)
    ]

-- The links are what a sound volume's records count: slots in use that name the inode.
pub links-counted : (g : Geometry) (tree : Tree) (i : ℕ) → i ≢ 0 → links_in g tree i ≡ links_to (inodes_of g) (names_in_tree tree) i
unfolding links_in
links-counted g tree i real = λ t. sum_by (λ k. row k t) (range_with_len 0 (inodes_of g)) where
  in_use_counts : (s : Slot) → cond (not (s.ino == 0)) (one_if (s.ino == i)) 0 ≡ one_if (s.ino == i)
  in_use_counts s = elim (cases_Bool (s.ino == 0)) [
    | inl free ↦ ap (λ (b : Bool). cond (not b) (one_if (s.ino == i)) 0) free ∙ sym (none_if s.ino i (λ e. real (sym e ∙ eqb-true s.ino 0 free)))
    | inr taken ↦ ap (λ (b : Bool). cond (not b) (one_if (s.ino == i)) 0) taken
  ]

  row : (k : ℕ) → count_by (λ s. s.ino == i) (option_map_or slots_in_node (tree k) []) ≡ count_by (λ s. s.ino == i) (in_use (slots_at (names_in_tree tree) k))
  row k =
      ap (λ (slots : List Slot). count_by (λ s. s.ino == i) slots) (sym (slots_as (tree k)))
      ∙ sym (filtered_sum (λ (s : Slot). not (s.ino == 0)) (λ s. one_if (s.ino == i)) (slots_at (names_in_tree tree) k) ∙ (λ t. sum_by (λ s. in_use_counts s t) (slots_at (names_in_tree tree) k)))

module _ (g : Geometry) where
  -- trees with the same names have the same links
  links_as : (tree other : Tree) → SameNames other tree → (j : ℕ) → links_in g other j ≡ links_in g tree j
  links_as tree other same j =
      sym (total-links g other j)
      ∙ total-same (names_in j) g other tree (λ k. weight_slots j (other k) ∙ ap (λ (o : Option (Option (List Slot))). slot_sum (of_inode j) (slots_from o)) (same k) ∙ sym (weight_slots j (tree k)))
      ∙ total-links g tree j

  bounded_as : (tree other : Tree) → SameNames other tree → AreBounded g tree → AreBounded g other
  bounded_as tree other same bounded j real is =
      let used : is_some (other j) ≡ is_some (tree j) = sym (used_as (other j)) ∙ ap (λ (o : Option (Option (List Slot))). is_some o) (same j) ∙ used_as (tree j) in
      let directory : is_directory_in other j ≡ is_directory_in tree j =
      sym (directory_as (other j)) ∙ ap (λ (o : Option (Option (List Slot))). option_map_or (λ s. is_some s) o false) (same j) ∙ directory_as (tree j) in
      let at = bounded j real (sym used ∙ is) in
      let links = links_as tree other same j in
      (omega (arith, at.0, links), λ plain. let low = at.1 (sym directory ∙ plain) in omega (arith, low, links))

  module _ (tree : Tree) (right : IsRightWithin g tree) where
    row_links : (j k : ℕ) → weight_in (names_in j) (tree k) ≡ sum_at (of_inode j) (names_in_tree tree) k
    row_links j k = weight_slots j (tree k)

    -- a directory has a link
    directory_linked : (j : ℕ) → is_directory_in tree j ≡ true → 1 ≤ links_in g tree j
    directory_linked j is =
        let less = directory_less g tree right j is in
        let own = begins_own j (parent_at (names_in_tree tree) j) (slots_at (names_in_tree tree) j) ((rules g tree right).begins j less (as_name g tree right j is)) in
        let part = part_at (λ (k : ℕ). weight_in (names_in j) (tree k)) (inodes_of g) 0 j (omega arith) (omega (arith, less)) in
        omega (arith, own, part, row_links j j, total-links g tree j)

    bounded_range : AreBounded g tree → HasLinksInRange g tree
    bounded_range bounded j real is =
        let at = bounded j real is in
        (elim (cases_Bool (is_directory_in tree j)) [ inl directory ↦ directory_linked j directory | inr plain ↦ at.1 plain ], at.0)

    free_links : (i : ℕ) → i ≢ 0 → tree i ≡ None → links_in g tree i ≡ 0
    free_links i real free =
        let unused : is_used_in (names_in_tree tree) i ≡ false = used_as (tree i) ∙ ap (λ (o : Option Node). is_some o) free in
        sym (total-links g tree i)
        ∙ sum_none (λ (k : ℕ). weight_in (names_in i) (tree k)) (inodes_of g) 0 (λ k low high. row_links i k ∙ unnamed_in (is_used_in (names_in_tree tree)) i unused real (slots_at (names_in_tree tree) k) (right.names.used k (omega arith)))

  -- the chunks of a directory are others, and its links are as they were
  module _ (tree : Tree) (dir : ℕ) (f : List (List Slot) → List (List Slot)) (d : DirectoryNode) (there : tree dir ≡ Some (Directory d)) where
    abbrev changed : Tree
    changed = on_node dir (on_chunks f) tree

    changed_used : (k : ℕ) → is_some (changed k) ≡ is_some (tree k)
    changed_used k =
        sym (used_as (changed k)) ∙ turned_used (names_in_tree tree) (names_in_tree changed) dir (all_slots d.chunks) (all_slots (f d.chunks)) (turned tree dir f d there) k ∙ used_as (tree k)

    changed_directory : (k : ℕ) → is_directory_in changed k ≡ is_directory_in tree k
    changed_directory k =
        sym (directory_as (changed k)) ∙ turned_directory (names_in_tree tree) (names_in_tree changed) dir (all_slots d.chunks) (all_slots (f d.chunks)) (turned tree dir f d there) k ∙ directory_as (tree k)

    changed_links : dir < inodes_of g → (j lost gained : ℕ) → slot_sum (of_inode j) (all_slots (f d.chunks)) + lost ≡ slot_sum (of_inode j) (all_slots d.chunks) + gained
        → links_in g changed j + lost ≡ links_in g tree j + gained
    changed_links less j lost gained change =
        omega (arith, change, total-on_node (names_in j) g tree dir (on_chunks f) (Directory d) there less, total-links g tree j, total-links g changed j)

  -- an inode is gone
  drop_links : (tree : Tree) (r j : ℕ) → r < inodes_of g → links_in g (with_node tree r None) j + weight_in (names_in j) (tree r) ≡ links_in g tree j
  drop_links tree r j less = omega (arith, total-with_node (names_in j) g tree r None less, total-links g tree j, total-links g (with_node tree r None) j)

  drop_used : (tree : Tree) (r k : ℕ) → is_some (with_node tree r None k) ≡ true → (k ≢ r) × (is_some (tree k) ≡ true)
  drop_used tree r k is = elim (cases_eq k r) [
    | inl same ↦ absurd (true≢false (sym is ∙ ap (λ (o : Option Node). is_some o) (ap (with_node tree r None) same ∙ with_node-here tree r None)))
    | inr apart ↦ (apart, sym (ap (λ (o : Option Node). is_some o) (with_node-other tree r k None apart)) ∙ is)
  ]

  drop_directory : (tree : Tree) (r k : ℕ) → k ≢ r → is_directory_in (with_node tree r None) k ≡ is_directory_in tree k
  drop_directory tree r k apart = ap (λ (o : Option Node). option_map_or is_directory_node o false) (with_node-other tree r k None apart)

module _ (g : Geometry) (tree : Tree) (right : IsRightWithin g tree) (range : HasLinksInRange g tree) where
  abbrev n : ℕ
  n = inodes_of g

  abbrev m : Names
  m = names_in_tree tree

  less_links : (i : ℕ) → has_most_links g tree i ≡ false → links_in g tree i < most_links
  less_links i is = leb-false most_links (links_in g tree i) is

  -- a new inode with a new name
  module _ (p : WalkEnd) (ino moment : ℕ) (node : Node) (is_dir : is_directory_in tree p.dir ≡ true) (usable : IsUsable g tree ino) where
    abbrev entering : List (List Slot) → List (List Slot)
    entering chunks = entered_in chunks p.name ino

    abbrev first : Tree
    first = with_node tree ino (Some node)

    abbrev second : Tree
    second = on_node p.dir (on_chunks entering) first

    real_ino : ino ≢ 0
    real_ino zero_is = let low : 2 ≤ ino = usable.low in omega (arith, low, zero_is)

    d_p : (d : DirectoryNode) × (tree p.dir ≡ Some (Directory d))
    d_p = directory_in (tree p.dir) is_dir

    still : first p.dir ≡ Some (Directory d_p.0)
    still = with_node-other tree ino p.dir (Some node) (λ same. absent (sym d_p.1 ∙ ap tree same ∙ usable.free)) ∙ d_p.1 where
      absent : Some (Directory d_p.0) ≡ None → ⊥
      absent is = cc

    made_links : (j : ℕ) → j ≢ 0 → links_in g second j ≡ links_in g tree j + names_in j node + one_if (ino == j)
    made_links j real =
        let none : weight_in (names_in j) (tree ino) ≡ 0 = ap (weight_in (names_in j)) usable.free in
        let more = enters-sum p.name ino (of_inode j) (free_names_none j real) (all_slots d_p.0.chunks) (all_slots (entering d_p.0.chunks)) (enters p.name ino d_p.0.chunks) in
        let changed = changed_links g first p.dir entering d_p.0 still (directory_less g tree right p.dir is_dir) j 0 (one_if (ino == j)) (omega (arith, more)) in
        let high : ino < inodes_of g = usable.high in
        omega (arith, none, changed, total-with_node (names_in j) g tree ino (Some node) high, total-links g tree j, total-links g first j)

    making_bounded : names_in ino node + 1 ≤ most_links → ((j : ℕ) → j ≢ 0 → is_some (tree j) ≡ true → links_in g tree j + names_in j node ≤ most_links) → AreBounded g (edited_all (making p ino moment node) tree)
    unfolding edited
    making_bounded own others = bounded_as g second (on_node p.dir (with_time moment) second) (time_same second p.dir moment) (λ j real is. by_inode j real is (cases_eq j ino)) where
      by_inode : (j : ℕ) → j ≢ 0 → is_some (second j) ≡ true → (j ≡ ino) ⊎ (j ≢ ino) → (links_in g second j ≤ most_links) × (is_directory_in second j ≡ false → 1 ≤ links_in g second j)
      by_inode j real is (inl same) =
          let count : links_in g second j ≡ 0 + names_in ino node + 1 =
          ap (links_in g second) same ∙ made_links ino real_ino ∙ (λ t. free_links g tree right ino real_ino usable.free t + names_in ino node + one_is ino ino refl t) in
          (omega (arith, count, own), λ plain. omega (arith, count))
      by_inode j real is (inr apart) =
          let used : is_some (tree j) ≡ true =
          sym (changed_used g first p.dir entering d_p.0 still j ∙ ap (λ (o : Option Node). is_some o) (with_node-other tree ino j (Some node) apart)) ∙ is in
          let none = none_if ino j (λ e. apart (sym e)) in
          let count = made_links j real in
          let low = (range j real used).0 in
          (omega (arith, count, none, others j real used), λ plain. omega (arith, count, low))

  -- one name more of an inode
  linking_bounded : (q : WalkEnd) (i moment : ℕ) → is_directory_in tree q.dir ≡ true → has_most_links g tree i ≡ false → AreBounded g (edited_all (naming q i moment) tree)
  unfolding edited
  linking_bounded q i moment is_dir few_links =
      let entering : List (List Slot) → List (List Slot) = λ chunks. entered_in chunks q.name i in
      let d = directory_in (tree q.dir) is_dir in
      let second : Tree = on_node q.dir (on_chunks entering) tree in
      bounded_as g second (on_node q.dir (with_time moment) second) (time_same second q.dir moment) (λ j real is.
      let more = enters-sum q.name i (of_inode j) (free_names_none j real) (all_slots d.0.chunks) (all_slots (entering d.0.chunks)) (enters q.name i d.0.chunks) in
      let count : links_in g second j + 0 ≡ links_in g tree j + one_if (i == j) = changed_links g tree q.dir entering d.0 d.1 (directory_less g tree right q.dir is_dir) j 0 (one_if (i == j)) (omega (arith, more)) in
      let at = range j real (sym (changed_used g tree q.dir entering d.0 d.1 j) ∙ is) in
      (by_inode j at.1 (cases_eq i j) count, λ plain. omega (arith, count, at.0)))
    where
      by_inode : (j : ℕ) → links_in g tree j ≤ most_links → (i ≡ j) ⊎ (i ≢ j) → {x : ℕ} → x + 0 ≡ links_in g tree j + one_if (i == j) → x ≤ most_links
      by_inode j high (inl same) count =
          let less : links_in g tree j < most_links = subst (λ (k : ℕ). links_in g tree k < most_links) same (less_links i few_links) in
          omega (arith, count, less, few (i == j))
      by_inode j high (inr apart) count = omega (arith, count, high, none_if i j apart)

  -- a name goes
  module _ (p : WalkEnd) (i moment : ℕ) (is_dir : is_directory_in tree p.dir ≡ true) (found : lookup tree p.dir p.name ≡ Some i) where
    abbrev leaving : List (List Slot) → List (List Slot)
    leaving chunks = taken_out_of chunks p.name

    abbrev left : Tree
    left = on_node p.dir (on_chunks leaving) tree

    d_left : (d : DirectoryNode) × (tree p.dir ≡ Some (Directory d))
    d_left = directory_in (tree p.dir) is_dir

    in_use_i : (i ≢ 0) × (is_some (tree i) ≡ true)
    in_use_i = found_used g tree right p.dir d_left.0 p.name i d_left.1 found

    less_i : i < n
    less_i = below g tree right i in_use_i.1

    left_links : (j : ℕ) → j ≢ 0 → links_in g left j + one_if (i == j) ≡ links_in g tree j + 0
    left_links j real =
        let here : named (all_slots d_left.0.chunks) p.name ≡ Some i = sym (ap (λ (o : Option Node). named_by o p.name) d_left.1) ∙ found in
        let fewer = leaves-sum p.name i (of_inode j) (free_names_none j real) (all_slots d_left.0.chunks) (all_slots (leaving d_left.0.chunks)) (leaves p.name i d_left.0.chunks here) in
        changed_links g tree p.dir leaving d_left.0 d_left.1 (directory_less g tree right p.dir is_dir) j (one_if (i == j)) 0 (omega (arith, fewer))

    left_used : (j : ℕ) → is_some (left j) ≡ is_some (tree j)
    left_used = changed_used g tree p.dir leaving d_left.0 d_left.1

    left_directory : (j : ℕ) → is_directory_in left j ≡ is_directory_in tree j
    left_directory = changed_directory g tree p.dir leaving d_left.0 d_left.1

    -- it has another one
    kept_bounded : (links_in g tree i == 1) ≡ false → AreBounded g left
    kept_bounded more j real is =
        let at = range j real (sym (left_used j) ∙ is) in
        let count = left_links j real in
        (omega (arith, count, at.1), λ plain. by_inode (cases_eq i j) at.0 count)
      where
        by_inode : (i ≡ j) ⊎ (i ≢ j) → 1 ≤ links_in g tree j → links_in g left j + one_if (i == j) ≡ links_in g tree j + 0 → 1 ≤ links_in g left j
        by_inode (inl same) low count =
            let two : links_in g tree j ≢ 1 = λ e. eqb-false (links_in g tree i) 1 more (ap (links_in g tree) same ∙ e) in
            omega (arith, count, low, two, few (i == j))
        by_inode (inr apart) low count = omega (arith, count, low, none_if i j apart)

    -- it is gone, and named what is no directory not at all
    gone_bounded : ((j : ℕ) → j ≢ 0 → j ≢ i → is_directory_in tree j ≡ false → weight_in (names_in j) (left i) ≡ 0) → AreBounded g (with_node left i None)
    gone_bounded none j real is =
        let used = drop_used g left i j is in
        let at = range j real (sym (left_used j) ∙ used.1) in
        let count = left_links j real in
        let gone = drop_links g left i j less_i in (
          omega (arith, count, gone, at.1),
          λ plain.
              let was : is_directory_in tree j ≡ false = sym (drop_directory g left i j used.0 ∙ left_directory j) ∙ plain in
              omega (arith, count, gone, at.0, none_if i j (λ e. used.0 (sym e)), none j real used.0 was),
        )

    abbrev lost_edits : Bool → Tree → Tree
    lost_edits lost t = edited_all (option_map_or (λ k. Drop k ∷ []) (cond lost (Some i) None) []) t

    lost_same : (lost : Bool) → SameNames (lost_edits lost (on_node p.dir (with_time moment) left)) (cond lost (with_node left i None) left)
    unfolding edited
    lost_same true = with_alike (on_node p.dir (with_time moment) left) left i None (time_same left p.dir moment)
    lost_same false = time_same left p.dir moment

    removing_bounded : (lost : Bool) → (is_directory_in tree i || links_in g tree i == 1) ≡ lost → AreBounded g (cond lost (with_node left i None) left) → AreBounded g (edited_all (removing g tree p i moment) tree)
    unfolding edited
    removing_bounded lost is bounded =
        subst (λ (b : Bool). AreBounded g (lost_edits b (on_node p.dir (with_time moment) left))) (sym is)
        (bounded_as g (cond lost (with_node left i None) left) (lost_edits lost (on_node p.dir (with_time moment) left)) (lost_same lost) bounded)

  -- what is no directory names nothing, and an empty directory names directories alone
  plain_names : (t : Tree) (j k : ℕ) → is_directory_in t k ≡ false → weight_in (names_in j) (t k) ≡ 0
  plain_names t j k plain = weight_slots j (t k) ∙ ap (slot_sum (of_inode j)) (slots_none (names_of (t k)) (directory_as (t k) ∙ plain))

  directory_apart : (k j : ℕ) → is_directory_in tree k ≡ true → is_directory_in tree j ≡ false → k ≢ j
  directory_apart k j is plain e = true≢false (sym is ∙ ap (is_directory_in tree) e ∙ plain)

  empty_names : (k j : ℕ) → is_directory_in tree k ≡ true → is_empty_in tree k ≡ true → j ≢ 0 → is_directory_in tree j ≡ false → sum_at (of_inode j) m k ≡ 0
  empty_names k j is empty real plain =
      let less = directory_less g tree right k is in
      let is_k = as_name g tree right k is in
      let above = (rules g tree right).above k less is_k in
      row_alike j k (parent_at m k) real (real_directory g tree right k less is_k) (real_above g tree right k less is_k) (directory_apart k j is plain)
      (directory_apart (parent_at m k) j (sym (directory_as (tree (parent_at m k))) ∙ above.0) plain) (slots_at m k) ((rules g tree right).begins k less is_k)
      (good_parts (is_directory_at m k) k (slots_at m k) is_k (right.names.slots k less)).1
      ∙ empty_entries g tree right k empty j

  -- a name of what is no directory goes
  file_bounded : (p : WalkEnd) (i moment : ℕ) → is_directory_in tree p.dir ≡ true → lookup tree p.dir p.name ≡ Some i → is_directory_in tree i ≡ false → AreBounded g (edited_all (removing g tree p i moment) tree)
  file_bounded p i moment is_dir found plain = by_links (cases_Bool (links_in g tree i == 1)) where
    lost_is : (is_directory_in tree i || links_in g tree i == 1) ≡ (links_in g tree i == 1)
    lost_is = ap (λ (b : Bool). b || links_in g tree i == 1) plain

    by_links : ((links_in g tree i == 1) ≡ true) ⊎ ((links_in g tree i == 1) ≡ false) → AreBounded g (edited_all (removing g tree p i moment) tree)
    by_links (inl one) =
        removing_bounded p i moment is_dir found true (lost_is ∙ one)
        (gone_bounded p i moment is_dir found (λ j real apart other. plain_names (left p i moment is_dir found) j i (left_directory p i moment is_dir found i ∙ plain)))
    by_links (inr more) = removing_bounded p i moment is_dir found false (lost_is ∙ more) (kept_bounded p i moment is_dir found more)

  -- an empty directory goes with its name
  directory_bounded : (p : WalkEnd) (i moment : ℕ) → is_directory_in tree p.dir ≡ true → lookup tree p.dir p.name ≡ Some i → is_directory_in tree i ≡ true → is_empty_in tree i ≡ true → is_dots p.name ≡ false
      → AreBounded g (edited_all (removing g tree p i moment) tree)
  directory_bounded p i moment is_dir found is empty plain =
      removing_bounded p i moment is_dir found true (ap (λ (b : Bool). b || links_in g tree i == 1) is)
      (gone_bounded p i moment is_dir found (λ j real other no_directory.
      ap (weight_in (names_in j)) (on_node-other tree p.dir i (on_chunks (leaving p i moment is_dir found)) apart) ∙ weight_slots j (tree i) ∙ empty_names i j is empty real no_directory))
    where
      apart : i ≢ p.dir
      apart e =
          let d = directory_in (tree p.dir) is_dir in
          not_empty g tree right i empty p.dir i (name_listed g tree right p.dir d.0 p.name i d.1 found (not_dots p.name plain).0 (not_dots p.name plain).1) (sym e)

  -- an inode has another name
  module _ (old new : ℕ) (c : Bool) (old_is : is_directory_in tree old ≡ true) where
    -- a link more for the new directory, where it may have that
    more_links : (c ≡ true → links_in g tree new < most_links) → (j : ℕ) → links_in g tree j ≤ most_links → links_in g tree j + cond c (one_if (new == j)) 0 ≤ most_links
    more_links fits j high = by_move c refl where
      by_move : (b : Bool) → c ≡ b → links_in g tree j + cond b (one_if (new == j)) 0 ≤ most_links
      by_move false is = omega (arith, high)
      by_move true is = elim (cases_eq new j) [
        | inl same ↦ let less : links_in g tree j < most_links = subst (λ (k : ℕ). links_in g tree k < most_links) same (fits is) in omega (arith, less, few (new == j))
        | inr apart ↦ omega (arith, high, none_if new j apart)
      ]

    -- what is no directory has no link from the old one
    no_fewer : (j : ℕ) → is_directory_in tree j ≡ false → cond c (one_if (old == j)) 0 ≡ 0
    no_fewer j plain = by_move c where
      by_move : (b : Bool) → cond b (one_if (old == j)) 0 ≡ 0
      by_move true = none_if old j (directory_apart old j old_is plain)
      by_move false = refl

    module _ (r : ℕ) (last : Tree) (is_moved : HasMoved g tree old new r c last) where
      used_before : (j : ℕ) → is_some (last j) ≡ true → is_some (tree j) ≡ true
      used_before j is = sym (used_as (tree j)) ∙ sym (is_moved.same_used j) ∙ used_as (last j) ∙ is

      plain_before : (j : ℕ) → is_directory_in last j ≡ false → is_directory_in tree j ≡ false
      plain_before j is = sym (directory_as (tree j)) ∙ sym (is_moved.same_directory j) ∙ directory_as (last j) ∙ is

      moved_bounded : (c ≡ true → links_in g tree new < most_links) → ((j : ℕ) → j ≢ 0 → r ≡ j → links_in g tree j ≢ 1) → AreBounded g last
      moved_bounded fits others j real is =
          let at = range j real (used_before j is) in
          let count = is_moved.links j real in
          let high = more_links fits j at.1 in
          (omega (arith, count, high), λ plain. by_inode (cases_eq r j) (no_fewer j (plain_before j plain)))
        where
          by_inode : (r ≡ j) ⊎ (r ≢ j) → cond c (one_if (old == j)) 0 ≡ 0 → 1 ≤ links_in g last j
          by_inode (inl same) none =
              let low = (range j real (used_before j is)).0 in
              let two = others j real same in
              omega (arith, is_moved.links j real, none, low, two, few (r == j))
          by_inode (inr apart) none =
              let low = (range j real (used_before j is)).0 in
              omega (arith, is_moved.links j real, none, low, none_if r j apart)

      -- inode r is gone, which named the new directory, or that isn't one that needs a link more
      gone_moved : (less : r < n) → ((j : ℕ) → j ≢ 0 → links_in g tree j ≤ most_links → links_in g tree j + cond c (one_if (new == j)) 0 ≤ most_links + weight_in (names_in j) (last r))
          → ((j : ℕ) → j ≢ 0 → is_directory_in tree j ≡ false → weight_in (names_in j) (last r) ≡ 0) → AreBounded g (with_node last r None)
      gone_moved less fits none j real is =
          let used = drop_used g last r j is in
          let at = range j real (used_before j used.1) in
          let count = is_moved.links j real in
          let gone = drop_links g last r j less in (
            omega (arith, count, gone, fits j real at.1),
            λ plain.
                let was = plain_before j (sym (drop_directory g last r j used.0) ∙ plain) in
                omega (arith, count, gone, at.0, none j real was, no_fewer j was, none_if r j (λ e. used.0 (sym e))),
          )

  -- what rows that don't refuse say of a rename
  module _ (cred : Cred) (p q : WalkEnd) (i : ℕ) (is_dir : is_directory_in tree p.dir ≡ true) (none : AllByRecursion (λ row. row.0 ≡ false) (rename_rows g tree cred p q i)) where
    abbrev moves : Bool
    moves = is_directory_in tree i && not (q.dir == p.dir)

    -- with a new name, the new directory may have a link more
    fits_new : q.found ≡ None → moves ≡ true → links_in g tree q.dir < most_links
    fits_new nothing comes =
        let both = and_parts (is_directory_in tree i) (not (q.dir == p.dir)) comes in
        let by : Bool → Bool → Bool → Bool = λ a b found. a && (not found && (b && has_most_links g tree q.dir)) in
        let row : has_most_links g tree q.dir ≡ false = sym (λ t. by (both.0 t) (both.1 t) (is_some (nothing t))) ∙ none.1.1.1.1.1.1.0 in
        less_links q.dir row

    -- over what is no directory no directory comes
    fits_file : (r : ℕ) → q.found ≡ Some r → is_directory_in tree r ≡ false → moves ≡ true → links_in g tree q.dir < most_links
    fits_file r some plain comes =
        let both = and_parts (is_directory_in tree i) (not (q.dir == p.dir)) comes in
        let by : Bool → Bool → Bool = λ a b. a && not b in
        let at : Option ℕ → Bool = λ found. is_directory_in tree i && (is_some found && not (found_is (is_directory_in tree) found)) in
        absurd (true≢false ((λ t. by (sym both.0 t) (sym plain t)) ∙ sym (ap at some) ∙ none.0))

    renamed_where : HoldsWhereMoved (AreBounded g) g tree p.dir q.dir moves q.found
    renamed_where = record {
      entered = λ nothing last is_moved plain. moved_bounded p.dir q.dir moves is_dir 0 last is_moved (fits_new nothing) (λ j real same. absurd (real (sym same)));
      kept = λ r some last is_moved plain more. moved_bounded p.dir q.dir moves is_dir r last is_moved (fits_file r some plain)
          (λ j real same one. eqb-false (links_in g tree r) 1 more (ap (links_in g tree) same ∙ one));
      file_gone = λ r some last is_moved real less plain gone. gone_moved p.dir q.dir moves is_dir r last is_moved less
          (λ j _ high. let fits = more_links p.dir q.dir moves is_dir (fits_file r some plain) j high in omega (arith, fits))
          (λ j _ _. plain_names last j r (directory_as_last r last is_moved plain));
      directory_gone = λ r some last is_moved real less is empty below same gone. gone_moved p.dir q.dir moves is_dir r last is_moved less
          (λ j _ high. fits_directory r last is same below j high)
          (λ j real_j plain. ap (weight_in (names_in j)) same ∙ weight_slots j (tree r) ∙ empty_names r j is empty real_j plain);
    } where
      directory_as_last : (r : ℕ) (last : Tree) → HasMoved g tree p.dir q.dir r moves last → is_directory_in tree r ≡ false → is_directory_in last r ≡ false
      directory_as_last r last is_moved plain = sym (directory_as (last r)) ∙ is_moved.same_directory r ∙ directory_as (tree r) ∙ plain

      fits_directory : (r : ℕ) (last : Tree) → is_directory_in tree r ≡ true → last r ≡ tree r → q.dir ≡ parent_at m r → (j : ℕ) → links_in g tree j ≤ most_links
          → links_in g tree j + cond moves (one_if (q.dir == j)) 0 ≤ most_links + weight_in (names_in j) (last r)
      fits_directory r last is same below j high = by_inode (cases_eq q.dir j) (at_most_one moves (few (q.dir == j))) where
        at_most_one : (c : Bool) {x : ℕ} → x ≤ 1 → cond c x 0 ≤ 1
        at_most_one true low = low
        at_most_one false low = omega arith

        none_of_both : (c : Bool) → cond c 0 0 ≡ (let z : ℕ = 0 in z)
        none_of_both true = refl
        none_of_both false = refl

        by_inode : (q.dir ≡ j) ⊎ (q.dir ≢ j) → cond moves (one_if (q.dir == j)) 0 ≤ 1 → links_in g tree j + cond moves (one_if (q.dir == j)) 0 ≤ most_links + weight_in (names_in j) (last r)
        by_inode (inl here) low =
            let row : weight_in (names_in j) (last r) ≡ sum_at (of_inode j) m r = ap (weight_in (names_in j)) same ∙ weight_slots j (tree r) in
            let above = begins_above r (parent_at m r) (slots_at m r) ((rules g tree right).begins r (directory_less g tree right r is) (as_name g tree right r is)) in
            let one : 1 ≤ sum_at (of_inode j) m r = subst (λ (k : ℕ). 1 ≤ sum_at (of_inode k) m r) (sym below ∙ here) above in
            omega (arith, high, low, row, one)
        by_inode (inr apart) low =
            let zero_is : cond moves (one_if (q.dir == j)) 0 ≡ 0 = ap (λ (x : ℕ). cond moves x 0) (none_if q.dir j apart) ∙ none_of_both moves in
            omega (arith, high, zero_is)

  module _ (cred : Cred) (ino moment : ℕ) where
    before_bounded : AreBounded g tree
    before_bounded j real is = ((range j real is).1, λ plain. (range j real is).0)

    plain_node : (node : Node) → is_directory_node node ≡ false → (j : ℕ) → names_in j node ≡ 0
    plain_node (File file) is j = refl
    plain_node (Directory directory) is j = absurd (true≢false is)
    plain_node (Link link) is j = refl

    plain_made : (p : WalkEnd) (node : Node) → is_directory_node node ≡ false → is_directory_in tree p.dir ≡ true → IsUsable g tree ino → AreBounded g (edited_all (making p ino moment node) tree)
    plain_made p node plain is usable =
        making_bounded p ino moment node is usable (omega (arith, plain_node node plain ino)) (λ j real used. omega (arith, plain_node node plain j, (range j real used).1))

    directory_made : (p : WalkEnd) (mode : ℕ) → has_most_links g tree p.dir ≡ false → is_directory_in tree p.dir ≡ true → IsUsable g tree ino
        → AreBounded g (edited_all (making p ino moment (new_subdirectory cred mode moment ino p.dir)) tree)
    directory_made p mode fits is usable =
        making_bounded p ino moment (new_subdirectory cred mode moment ino p.dir) is usable
        (omega (arith, two ino, few (ino == ino), few (p.dir == ino))) (λ j real used. by_inode j used (range j real used).1 (cases_eq p.dir j))
      where
        two : (j : ℕ) → names_in j (new_subdirectory cred mode moment ino p.dir) ≡ one_if (ino == j) + one_if (p.dir == j)
        two j =
            let weight : Slot → ℕ = λ s. of_inode j s.ino s.name in
            let own : Slot = record { ino = ino; len = 12; name = dot } in
            let up : Slot = record { ino = p.dir; len = 500; name = dot_dot } in
            omega (arith, sum_by-cons weight own (up ∷ []), sum_by-cons weight up [])

        by_inode : (j : ℕ) → is_some (tree j) ≡ true → links_in g tree j ≤ most_links → (p.dir ≡ j) ⊎ (p.dir ≢ j)
            → links_in g tree j + names_in j (new_subdirectory cred mode moment ino p.dir) ≤ most_links
        by_inode j used high here =
            let free : one_if (ino == j) ≡ 0 = none_if ino j (λ e. true≢false (sym used ∙ ap (λ (k : ℕ). is_some (tree k)) (sym e) ∙ ap (λ (o : Option Node). is_some o) usable.free)) in
            elim here [
              | inl same ↦
                  let less : links_in g tree j < most_links = subst (λ (k : ℕ). links_in g tree k < most_links) same (less_links p.dir fits) in
                  omega (arith, two j, free, few (p.dir == j), less)
              | inr apart ↦ omega (arith, two j, free, none_if p.dir j apart, high)
            ]

    linked_bounded : (old new : List ℕ) (p q : WalkEnd) → is_directory_in tree q.dir ≡ true → (found : Option ℕ) → p.found ≡ found → decision_at g tree cred (call.Link old new) (Two p q) ≡ Proceed
        → AreBounded g (edited_all (on_found_inode found (λ i. naming q i moment)) tree)
    linked_bounded old new p q is None found go = before_bounded
    linked_bounded old new p q is (Some i) found go = linking_bounded q i moment is (link_goes g tree cred old new p q i found go).1.1.1.0

    removed_bounded : (path : List ℕ) (p : WalkEnd) → IsIn tree p → (found : Option ℕ) → p.found ≡ found → decision_at g tree cred (call.Remove path) (One p) ≡ Proceed
        → AreBounded g (edited_all (on_found_inode found (λ i. removing g tree p i moment)) tree)
    removed_bounded path p is None found go = before_bounded
    removed_bounded path p is (Some i) found go = file_bounded p i moment is.0 (is.1 ∙ found) (remove_goes g tree cred path p i found go).1.0

    emptied_bounded : (path : List ℕ) (p : WalkEnd) → IsIn tree p → (found : Option ℕ) → p.found ≡ found → decision_at g tree cred (call.Rmdir path) (One p) ≡ Proceed
        → AreBounded g (edited_all (on_found_inode found (λ i. removing g tree p i moment)) tree)
    emptied_bounded path p is None found go = before_bounded
    emptied_bounded path p is (Some i) found go =
        let none = rmdir_goes g tree cred path p i found go in
        directory_bounded p i moment is.0 (is.1 ∙ found) (not-false (is_directory_in tree i) none.0) (not-false (is_empty_in tree i) none.1.1.0) none.1.1.1.0

    same_bounded : (c : Call) (ends : WalkEnds) → changes_names c ≡ false → AreBounded g (edited_all (edits_at g tree cred ino moment c ends) tree)
    same_bounded c ends is = bounded_as g tree (edited_all (edits_at g tree cred ino moment c ends) tree) (at_same g tree cred ino moment c ends is) before_bounded

    at_bounded : (c : Call) (ends : WalkEnds) → (makes_inode c ≡ true → IsUsable g tree ino) → EndsIn tree ends → decision_at g tree cred c ends ≡ Proceed
        → AreBounded g (edited_all (edits_at g tree cred ino moment c ends) tree)
    at_bounded (call.Create path mode) (One p) usable is go = plain_made p (new_file cred mode moment) refl is.0 (usable refl)
    at_bounded (call.Create path mode) ends usable is go = before_bounded
    at_bounded (call.Symlink text path) (One p) usable is go = plain_made p (new_link cred moment text) refl is.0 (usable refl)
    at_bounded (call.Symlink text path) ends usable is go = before_bounded
    at_bounded (call.Mkdir path mode) (One p) usable is go = directory_made p mode (mkdir_goes g tree cred path mode p go).1.1.0 is.0 (usable refl)
    at_bounded (call.Mkdir path mode) ends usable is go = before_bounded
    at_bounded (call.Link old new) (Two p q) usable is go = linked_bounded old new p q is.1.0 p.found refl go
    at_bounded (call.Link old new) ends usable is go = before_bounded
    at_bounded (call.Remove path) (One p) usable is go = removed_bounded path p is p.found refl go
    at_bounded (call.Remove path) ends usable is go = before_bounded
    at_bounded (call.Rmdir path) (One p) usable is go = emptied_bounded path p is p.found refl go
    at_bounded (call.Rmdir path) ends usable is go = before_bounded
    at_bounded (call.Rename old new) ends usable is go = renamed_holds g tree right (AreBounded g) (bounded_as g) before_bounded cred ino moment old new (renamed_where cred) ends is go
    at_bounded c ends usable is go = same_bounded c ends refl

    after_bounded : (c : Call) → (makes_inode c ≡ true → IsUsable g tree ino) → AreBounded g (tree_after g tree cred ino moment c)
    after_bounded c usable = after_holds (AreBounded g) g tree cred ino moment c before_bounded (λ ends is _ go. at_bounded c ends usable is go)

pub links_kept : (g : Geometry) (tree : Tree) (cred : Cred) (ino moment : ℕ) (c : Call) → (makes_inode c ≡ true → IsUsable g tree ino) → IsRightWithin g tree → HasLinksInRange g tree
    → HasLinksInRange g (tree_after g tree cred ino moment c)
links_kept g tree cred ino moment c usable right range =
    bounded_range g (tree_after g tree cred ino moment c) (right_after g tree cred ino moment c usable right) (after_bounded g tree right range cred ino moment c usable)
