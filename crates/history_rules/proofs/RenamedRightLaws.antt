-- A tree stays right where an inode has another name in place of the one that it had.
use Rattle.std.proofs.Common.{◌≡◌, ◌≢◌, ◌≤◌, ◌<◌, ◌⊎◌, ℕ, zero, suc, ◌+◌, ◌==◌, Bool, true, false, not, ◌&&◌, cond, List, [], ◌∷◌, length, Option, Some, None, refl, sym, ap, subst, inl, inr, ◌∙◌, arith}
use Rattle.std.proofs.lemmas.Bool.{cases_Bool, cases_eq, and_cases, and_parts, true≢false, not-false, eqb-true, eqb-false, eq-eqb, ne_eqb}
use Rattle.std.specs.Prelude.{is_some}
use Rattle.std.specs.List.{filter}
use Rattle.lufs_base.specs.declared.geometry.Geometry.{Geometry}
use Rattle.volume_model.specs.declared.directory.Slot.{Slot}
use Rattle.volume_model.specs.Format.{inodes_of}
use Rattle.volume_model.specs.Sound.{DirectoryNode, Node, Directory, Tree, Names, MakeATree, with_node, names_in_tree, is_used_in, slots_at, entries_at, parent_at, ancestor_of, dot, dot_dot}
use Rattle.volume_model.specs.Sound.{is_directory_in as is_directory_at}
use Rattle.history_model.specs.Places.{lookup, entries_in, is_directory_in, links_in}
use Rattle.history_model.specs.Walk.{root}
use Rattle.history_model.specs.Edits.{taken_out_of, pointed_in, on_chunks, on_node}
use Rattle.history_model.specs.Refusals.{is_below, is_empty_in}
use Rattle.history_model.specs.Right.{IsRightWithin}
use Rattle.history_rules.proofs.NodeLaws.{with_node-here, with_node-other, on_node-here, on_node-other}
use Rattle.history_rules.proofs.NameLaws.{named}
use Rattle.history_rules.proofs.MakeLaws.{directory_in}
use Rattle.history_rules.proofs.KeptNameLaws.{names_of}
use Rattle.history_rules.proofs.LinkLaws.{names_in, free_names_none, total-links}
use Rattle.history_rules.proofs.TotalLaws.{total-on_node}
use Rattle.history_rules.proofs.EnterLaws.{all_slots, slot_sum}
use Rattle.history_rules.proofs.LeaveLaws.{leaves, leaves-sum, leaves_begins}
use Rattle.history_rules.proofs.PointLaws.{PointsIn, points, points-sum, turns_begins}
use Rattle.history_rules.proofs.SlotRuleLaws.{one_if, of_inode, of_name, of_entry, count_entries}
use Rattle.history_rules.proofs.RightNameLaws.{directory_of, slots_from, no_zero}
use Rattle.history_rules.proofs.ChangedRightLaws.{BeginsAs}
use Rattle.history_rules.proofs.LeaveRightLaws.{named_dot_dot}
use Rattle.history_rules.proofs.DroppedRightLaws.{entry_own}
use Rattle.history_rules.proofs.NamedRightLaws.{below, found_used, directory_as, used_as}
use Rattle.history_rules.proofs.RemovedRightLaws.{named_by, slots_as}
use Rattle.history_rules.proofs.RemovedDirectoryLaws.{entries_as}
use Rattle.history_rules.proofs.CountedLaws.{sum_at, IsCounted, counted, listed_below, few_steps}
use Rattle.history_rules.proofs.TurnedRowLaws.{HasTurned, turned, turned_directory, turned_used, turned_sum, turned_begins}
use Rattle.history_rules.proofs.RenamedNamesLaws.{LeadsApart, IsRenamed, renamed_right}

-- An inode has the new name in directory `new`, in place of one in `old`, and maybe `new` above it; inode r had the new name,
-- and r is 0 where none did. Then the tree is right, or it is without inode r.
pub record HasMoved (g : Geometry) (tree : Tree) (old new r : ℕ) (c : Bool) (last : Tree) : Type 0 where
  pub kept : is_directory_at (names_in_tree tree) r ≡ false → IsRightWithin g last
  pub dropped : r ≢ 0
      → ((k : ℕ) → k < inodes_of g → k ≢ r → is_directory_at (names_in_tree tree) k ≡ true → sum_at (of_inode r) (names_in_tree tree) k ≡ one_if (k == new))
      → IsRightWithin g (with_node last r None)
  pub same_directory : (k : ℕ) → is_directory_at (names_in_tree last) k ≡ is_directory_at (names_in_tree tree) k
  pub same_used : (k : ℕ) → is_used_in (names_in_tree last) k ≡ is_used_in (names_in_tree tree) k
  pub links : (j : ℕ) → j ≢ 0 → links_in g last j + (one_if (r == j) + cond c (one_if (old == j)) 0) ≡ links_in g tree j + cond c (one_if (new == j)) 0

-- what holds of a tree in which an inode was renamed so, by what had the new name, and whether that is gone
pub record HoldsWhereMoved (P : Tree → Type 0) (g : Geometry) (tree : Tree) (old new : ℕ) (c : Bool) (replaced : Option ℕ) : Type 0 where
  pub entered : replaced ≡ None → (last : Tree) → HasMoved g tree old new 0 c last → is_directory_at (names_in_tree tree) 0 ≡ false → P last
  pub kept : (r : ℕ) → replaced ≡ Some r → (last : Tree) → HasMoved g tree old new r c last → is_directory_in tree r ≡ false → (links_in g tree r == 1) ≡ false → P last
  pub file_gone : (r : ℕ) → replaced ≡ Some r → (last : Tree) → HasMoved g tree old new r c last → r ≢ 0 → r < inodes_of g → is_directory_in tree r ≡ false
      → ((k : ℕ) → k < inodes_of g → k ≢ r → is_directory_at (names_in_tree tree) k ≡ true → sum_at (of_inode r) (names_in_tree tree) k ≡ one_if (k == new))
      → P (with_node last r None)
  pub directory_gone : (r : ℕ) → replaced ≡ Some r → (last : Tree) → HasMoved g tree old new r c last → r ≢ 0 → r < inodes_of g → is_directory_in tree r ≡ true → is_empty_in tree r ≡ true
      → new ≡ parent_at (names_in_tree tree) r → last r ≡ tree r
      → ((k : ℕ) → k < inodes_of g → k ≢ r → is_directory_at (names_in_tree tree) k ≡ true → sum_at (of_inode r) (names_in_tree tree) k ≡ one_if (k == new))
      → P (with_node last r None)

unused_as : (o : Option Node) → is_some (names_of o) ≡ false → o ≡ None
unused_as None is = refl
unused_as (Some node) is = absurd (true≢false is)

module _ (g : Geometry) (tree : Tree) (right : IsRightWithin g tree) where
  abbrev n : ℕ
  n = inodes_of g

  abbrev m : Names
  m = names_in_tree tree

  pub rules : IsCounted n m (parent_at m)
  rules = counted n m right.names

  -- a directory that is there
  pub directory_less : (k : ℕ) → is_directory_in tree k ≡ true → k < n
  directory_less k is = let there = directory_in (tree k) is in below g tree right k (ap (λ (o : Option Node). is_some o) there.1)

  pub as_name : (k : ℕ) → is_directory_in tree k ≡ true → is_directory_at m k ≡ true
  as_name k is = directory_as (tree k) ∙ is

  pub real_directory : (k : ℕ) → k < n → is_directory_at m k ≡ true → k ≢ 0
  real_directory k less is e = no_zero n m right.names (omega arith) (ap (is_directory_at m) (sym e) ∙ is)

  pub real_above : (k : ℕ) → k < n → is_directory_at m k ≡ true → parent_at m k ≢ 0
  real_above k less is = let next = rules.above k less is in real_directory (parent_at m k) next.1 next.0

  -- what the tree looks up is what the slots name
  lookup_as : (k : ℕ) (name : List ℕ) → lookup tree k name ≡ named (slots_at m k) name
  lookup_as k name = sym (ap (λ (l : List Slot). named l name) (slots_as (tree k)))

  above_found : (k : ℕ) → k < n → is_directory_at m k ≡ true → lookup tree k dot_dot ≡ Some (parent_at m k)
  above_found k less is = lookup_as k dot_dot ∙ named_dot_dot k (parent_at m k) (real_directory k less is) (real_above k less is) (slots_at m k) (rules.begins k less is)

  -- a directory that isn't below an inode leads to the root without it
  leads_apart : (i fuel steps k : ℕ) → steps ≤ fuel → k < n → is_directory_at m k ≡ true → is_below fuel tree k i ≡ false → ancestor_of m steps k ≡ 2 → (s : ℕ) × LeadsApart m i s k
  leads_apart i fuel zero k few less is apart two = (0, two)
  leads_apart i zero (suc steps) k few less is apart two = absurd (omega arith)
  leads_apart i (suc fuel) (suc steps) k few less is apart two =
      let next = rules.above k less is in
      by_case (λ further. leads_apart i fuel steps (parent_at m k) (omega arith) next.1 next.0 further two) (cases_Bool (k == i)) (cases_Bool (k == root))
    where
      by : Bool → Bool → Option ℕ → Bool
      by same top up = elim same [ true ↦ true | false ↦ elim top [ true ↦ false | false ↦ elim up [ None ↦ false | Some parent ↦ is_below fuel tree parent i ] ] ]

      by_case : (is_below fuel tree (parent_at m k) i ≡ false → (s : ℕ) × LeadsApart m i s (parent_at m k)) → ((k == i) ≡ true) ⊎ ((k == i) ≡ false) → ((k == root) ≡ true) ⊎ ((k == root) ≡ false)
          → (s : ℕ) × LeadsApart m i s k
      by_case further (inl same) top = absurd (true≢false (ap (λ (b : Bool). by b (k == root) (lookup tree k dot_dot)) (sym same) ∙ apart))
      by_case further (inr other) (inl top) = (0, eqb-true k 2 top)
      by_case further (inr other) (inr not_top) =
          let more = further (sym (λ t. by (other t) (not_top t) (above_found k less is t)) ∙ apart) in
          (suc more.0, (eqb-false k i other, more.1))

  -- an inode that a directory names, in its names
  pub name_listed : (dir : ℕ) (d : DirectoryNode) (name : List ℕ) (i : ℕ) → tree dir ≡ Some (Directory d) → lookup tree dir name ≡ Some i → name ≢ dot → name ≢ dot_dot → 0 < sum_at (of_entry i) m dir
  name_listed dir d name i there found not_dot not_dot_dot =
      let real = (found_used g tree right dir d name i there found).0 in
      let here : named (all_slots d.chunks) name ≡ Some i = sym (ap (λ (o : Option Node). named_by o name) there) ∙ found in
      let less = leaves-sum name i (of_entry i) (λ l. no_zero_entry i real l) (all_slots d.chunks) (all_slots (taken_out_of d.chunks name)) (leaves name i d.chunks here) in
      let row : sum_at (of_entry i) m dir ≡ slot_sum (of_entry i) (all_slots d.chunks) = ap (λ (o : Option Node). slot_sum (of_entry i) (slots_from (names_of o))) there in
      omega (arith, less, row, entry_own i name real not_dot not_dot_dot)
    where
      no_zero_entry : (i : ℕ) → i ≢ 0 → (l : List ℕ) → of_entry i 0 l ≡ 0
      no_zero_entry i real l = refl

  -- an empty directory has no entry, and is another one than any with an entry
  pub empty_entries : (r : ℕ) → is_empty_in tree r ≡ true → (k : ℕ) → sum_at (of_entry k) m r ≡ 0
  empty_entries r empty k =
      let none : entries_at m r ≡ [] = entries_as tree r ∙ none_long (entries_in tree r) (eqb-true (length (entries_in tree r)) 0 empty) in
      sym (count_entries k (slots_at m r)) ∙ ap (λ (slots : List Slot). length (filter (λ s. s.ino == k) slots)) none
    where
      none_long : (slots : List Slot) → length slots ≡ 0 → slots ≡ []
      none_long [] is = refl
      none_long (s ∷ slots) is = absurd (omega arith)

  pub not_empty : (r : ℕ) → is_empty_in tree r ≡ true → (k j : ℕ) → 0 < sum_at (of_entry j) m k → k ≢ r
  not_empty r empty k j some e = let here : sum_at (of_entry j) m k ≡ sum_at (of_entry j) m r = ap (sum_at (of_entry j) m) e in omega (arith, here, some, empty_entries r empty j)

  -- Inode i has a new name in `new`, in place of the old one in `old`. `first` is the tree with the new name.
  module _ (old new i r : ℕ) (old_name new_name : List ℕ) (old_is : is_directory_in tree old ≡ true) (new_is : is_directory_in tree new ≡ true) (found : lookup tree old old_name ≡ Some i)
      (old_not_dot : old_name ≢ dot) (old_not_dot_dot : old_name ≢ dot_dot) (new_not_dot : new_name ≢ dot) (new_not_dot_dot : new_name ≢ dot_dot)
      (apart : is_below n tree new i ≡ false) (other : i ≢ r) (new_other : new ≢ r) (not_root : r ≢ 2) (differ : old ≡ new → old_name ≢ new_name)
      (room : sum_at (of_name new_name) m new ≤ of_name new_name r new_name)
      (childless : (k : ℕ) → k < n → is_directory_at m k ≡ true → parent_at m k ≢ r)
      (d : DirectoryNode) (there : tree new ≡ Some (Directory d)) (f : List (List Slot) → List (List Slot))
      (first_sums : (v : ℕ → List ℕ → ℕ) → ((name : List ℕ) → v 0 name ≡ 0) → slot_sum v (all_slots (f d.chunks)) + v r new_name ≡ slot_sum v (all_slots d.chunks) + v i new_name)
      (first_begins : (parent : ℕ) → parent ≢ 0 → BeginsAs new parent (all_slots d.chunks) → BeginsAs new parent (all_slots (f d.chunks)))
      (first_others : (name : List ℕ) → name ≢ new_name → named (all_slots (f d.chunks)) name ≡ named (all_slots d.chunks) name) where
    abbrev first : Tree
    first = on_node new (on_chunks f) tree

    abbrev leaving : List (List Slot) → List (List Slot)
    leaving chunks = taken_out_of chunks old_name

    abbrev second : Tree
    second = on_node old (on_chunks leaving) first

    abbrev lifting : List (List Slot) → List (List Slot)
    lifting chunks = pointed_in chunks dot_dot new

    abbrev third : Tree
    third = on_node i (on_chunks lifting) second

    abbrev m1 : Names
    m1 = names_in_tree first

    abbrev m2 : Names
    m2 = names_in_tree second

    abbrev m3 : Names
    m3 = names_in_tree third

    old_less : old < n
    old_less = directory_less old old_is

    new_less : new < n
    new_less = directory_less new new_is

    d_old : (d_old : DirectoryNode) × (tree old ≡ Some (Directory d_old))
    d_old = directory_in (tree old) old_is

    in_use_i : (i ≢ 0) × (is_some (tree i) ≡ true)
    in_use_i = found_used g tree right old d_old.0 old_name i d_old.1 found

    less_i : i < n
    less_i = below g tree right i in_use_i.1

    listed : 0 < sum_at (of_entry i) m old
    listed = name_listed old d_old.0 old_name i d_old.1 found old_not_dot old_not_dot_dot

    was_below : is_directory_at m i ≡ true → ((i == 2) ≡ false) × (old ≡ parent_at m i)
    was_below is = listed_below n m (parent_at m) rules i old less_i old_less is listed

    turned1 : HasTurned m m1 new (all_slots d.chunks) (all_slots (f d.chunks))
    turned1 = turned tree new f d there

    same1 : (k : ℕ) → is_directory_at m1 k ≡ is_directory_at m k
    same1 = turned_directory m m1 new (all_slots d.chunks) (all_slots (f d.chunks)) turned1

    begins1 : (k : ℕ) → k < n → is_directory_at m k ≡ true → BeginsAs k (parent_at m k) (slots_at m1 k)
    begins1 k less is =
        turned_begins m m1 new (all_slots d.chunks) (all_slots (f d.chunks)) turned1 k (parent_at m k) (parent_at m k)
        (λ at. first_begins (parent_at m k) (real_above k less is)) (λ _. refl) (rules.begins k less is)

    -- the old name is still there
    e_old : (e : DirectoryNode) × (first old ≡ Some (Directory e))
    e_old = directory_in (first old) (sym (directory_as (first old)) ∙ same1 old ∙ as_name old old_is)

    still_found : named (all_slots e_old.0.chunks) old_name ≡ Some i
    still_found = sym (ap (λ (o : Option Node). named_by o old_name) e_old.1) ∙ by_place (cases_eq old new) where
      by_place : (old ≡ new) ⊎ (old ≢ new) → named_by (first old) old_name ≡ Some i
      by_place (inl same) =
          ap (λ (h : ℕ). named_by (first h) old_name) same ∙ ap (λ (o : Option Node). named_by o old_name) (on_node-here tree new (on_chunks f) (Directory d) there)
          ∙ first_others old_name (differ same) ∙ sym (ap (λ (o : Option Node). named_by o old_name) there) ∙ ap (λ (h : ℕ). lookup tree h old_name) (sym same) ∙ found
      by_place (inr not_same) = ap (λ (o : Option Node). named_by o old_name) (on_node-other tree new old (on_chunks f) not_same) ∙ found

    turned2 : HasTurned m1 m2 old (all_slots e_old.0.chunks) (all_slots (leaving e_old.0.chunks))
    turned2 = turned first old leaving e_old.0 e_old.1

    same2 : (k : ℕ) → is_directory_at m2 k ≡ is_directory_at m k
    same2 k = turned_directory m1 m2 old (all_slots e_old.0.chunks) (all_slots (leaving e_old.0.chunks)) turned2 k ∙ same1 k

    used2 : (k : ℕ) → is_used_in m2 k ≡ is_used_in m k
    used2 k =
        turned_used m1 m2 old (all_slots e_old.0.chunks) (all_slots (leaving e_old.0.chunks)) turned2 k
        ∙ turned_used m m1 new (all_slots d.chunks) (all_slots (f d.chunks)) turned1 k

    begins2 : (k : ℕ) → k < n → is_directory_at m k ≡ true → BeginsAs k (parent_at m k) (slots_at m2 k)
    begins2 k less is =
        turned_begins m1 m2 old (all_slots e_old.0.chunks) (all_slots (leaving e_old.0.chunks)) turned2 k (parent_at m k) (parent_at m k)
        (λ at. leaves_begins old_name i old (parent_at m k) old_not_dot old_not_dot_dot (all_slots e_old.0.chunks) (all_slots (leaving e_old.0.chunks)) (leaves old_name i e_old.0.chunks still_found))
        (λ _. refl) (begins1 k less is)

    sums2 : (k : ℕ) (v : ℕ → List ℕ → ℕ) → ((name : List ℕ) → v 0 name ≡ 0)
        → sum_at v m2 k + (cond (k == old) (v i old_name) 0 + cond (k == new) (v r new_name) 0) ≡ sum_at v m k + cond (k == new) (v i new_name) 0
    sums2 k v unused =
        let e = leaves-sum old_name i v unused (all_slots e_old.0.chunks) (all_slots (leaving e_old.0.chunks)) (leaves old_name i e_old.0.chunks still_found) in
        let left : slot_sum v (all_slots (leaving e_old.0.chunks)) + v i old_name ≡ slot_sum v (all_slots e_old.0.chunks) + 0 = omega (arith, e) in
        let none : cond (k == old) 0 0 ≡ 0 = none_if (k == old) in
        omega (
          arith,
          turned_sum m m1 new (all_slots d.chunks) (all_slots (f d.chunks)) turned1 v (v r new_name) (v i new_name) (first_sums v unused) k,
          turned_sum m1 m2 old (all_slots e_old.0.chunks) (all_slots (leaving e_old.0.chunks)) turned2 v (v i old_name) 0 left k,
          none,
        )
      where
        none_if : (b : Bool) → cond b 0 (let z : ℕ = 0 in z) ≡ 0
        none_if true = refl
        none_if false = refl

    new_leads : (s : ℕ) × LeadsApart m i s new
    new_leads =
        let few = few_steps n m (parent_at m) rules new new_less (as_name new new_is) in
        leads_apart i n few.0 new (omega (arith, few.1)) new_less (as_name new new_is) apart few.2

    -- the names of a tree that has this one's, but maybe for inode r
    module _ (last : Names) (same_directory : (k : ℕ) → is_directory_at last k ≡ is_directory_at m k) (same_used : (k : ℕ) → is_used_in last k ≡ is_used_in m k)
        (last_sums : (k : ℕ) → is_directory_at m k ≡ true → (v : ℕ → List ℕ → ℕ) → sum_at v last k + cond (k == i) (v old dot_dot) 0 ≡ sum_at v m2 k + cond (k == i) (v new dot_dot) 0)
        (last_begins : (k : ℕ) → k < n → is_directory_at m k ≡ true → BeginsAs k (parent_at m k) (slots_at m2 k) → BeginsAs k (cond (k == i) new (parent_at m k)) (slots_at last k))
        (after : Names) (only : (k : ℕ) → k ≢ r → after k ≡ last k) (no_directory : (k : ℕ) → is_directory_at after k ≡ true → k ≢ r)
        (stays_or_gone : (is_used_in m r ≡ true → is_used_in after r ≡ true)
        ⊎ ((r ≢ 0) × ((k : ℕ) → k < n → k ≢ r → is_directory_at m k ≡ true → sum_at (of_inode r) m k ≡ one_if (k == new)))) where
      was_directory : (k : ℕ) → is_directory_at after k ≡ true → is_directory_at m k ≡ true
      was_directory k is = sym (same_directory k) ∙ sym (ap directory_of (only k (no_directory k is))) ∙ is

      is_renamed : IsRenamed n m after old new i r old_name new_name
      is_renamed = record {
        old_is = as_name old old_is;
        old_less = old_less;
        new_is = as_name new new_is;
        new_less = new_less;
        real = in_use_i.0;
        less = less_i;
        in_use = used_as (tree i) ∙ in_use_i.1;
        other = other;
        new_other = new_other;
        not_root = not_root;
        old_not_dot = old_not_dot;
        old_not_dot_dot = old_not_dot_dot;
        new_not_dot = new_not_dot;
        new_not_dot_dot = new_not_dot_dot;
        listed = listed;
        room = room;
        childless = childless;
        steps = new_leads.0;
        leads = new_leads.1;
        directories = λ k is. (was_directory k is, no_directory k is);
        keeps = λ k is apart. ap directory_of (only k apart) ∙ same_directory k ∙ is;
        uses = λ k apart is. ap (λ (o : Option (Option (List Slot))). is_some o) (only k apart) ∙ same_used k ∙ is;
        stays_or_gone = stays_or_gone;
        sums = λ k less is v unused.
            let row : sum_at v after k ≡ sum_at v last k = ap (λ (o : Option (Option (List Slot))). slot_sum v (slots_from o)) (only k (no_directory k is)) in
            omega (arith, row, last_sums k (was_directory k is) v, sums2 k v unused);
        begins = λ k less is begins.
            subst (λ (o : Option (Option (List Slot))). BeginsAs k (cond (k == i) new (parent_at m k)) (slots_from o)) (sym (only k (no_directory k is)))
            (last_begins k less (was_directory k is) (begins2 k less (was_directory k is)));
      }

      last_right : MakeATree n after
      last_right = renamed_right n m right.names after old new i r old_name new_name is_renamed

    -- what is right of the names is so of a tree
    module _ (last : Tree) (same_directory : (k : ℕ) → is_directory_at (names_in_tree last) k ≡ is_directory_at m k) (same_used : (k : ℕ) → is_used_in (names_in_tree last) k ≡ is_used_in m k)
        (last_sums : (k : ℕ) → is_directory_at m k ≡ true → (v : ℕ → List ℕ → ℕ)
        → sum_at v (names_in_tree last) k + cond (k == i) (v old dot_dot) 0 ≡ sum_at v m2 k + cond (k == i) (v new dot_dot) 0)
        (last_begins : (k : ℕ) → k < n → is_directory_at m k ≡ true → BeginsAs k (parent_at m k) (slots_at m2 k) → BeginsAs k (cond (k == i) new (parent_at m k)) (slots_at (names_in_tree last) k)) where
      none_past : (k : ℕ) → n ≤ k → last k ≡ None
      none_past k past = unused_as (last k) (same_used k ∙ ap (λ (o : Option Node). is_some (names_of o)) (right.within k past))

      kept_right : is_directory_at m r ≡ false → IsRightWithin g last
      kept_right plain = record {
        names = last_right (names_in_tree last) same_directory same_used last_sums last_begins (names_in_tree last) (λ k apart. refl)
            (λ k is e. true≢false (sym is ∙ same_directory k ∙ ap (is_directory_at m) e ∙ plain)) (inl (λ is. same_used r ∙ is));
        within = none_past;
      }

      dropped_right : r ≢ 0 → ((k : ℕ) → k < n → k ≢ r → is_directory_at m k ≡ true → sum_at (of_inode r) m k ≡ one_if (k == new)) → IsRightWithin g (with_node last r None)
      dropped_right real gone =
          let after : Tree = with_node last r None in
          record {
            names = last_right (names_in_tree last) same_directory same_used last_sums last_begins (names_in_tree after) (λ k apart. ap names_of (with_node-other last r k None apart))
                (λ k is e. true≢false (sym is ∙ ap (is_directory_at (names_in_tree after)) e ∙ ap (λ (o : Option Node). directory_of (names_of o)) (with_node-here last r None))) (inr (real, gone));
            within = λ k past. by_drop k past (cases_eq k r);
          }
        where
          by_drop : (k : ℕ) → n ≤ k → (k ≡ r) ⊎ (k ≢ r) → with_node last r None k ≡ None
          by_drop k past (inl same) = ap (with_node last r None) same ∙ with_node-here last r None
          by_drop k past (inr apart) = with_node-other last r k None apart ∙ none_past k past

    up_else : (k : ℕ) → k ≢ i → cond (k == i) new (parent_at m k) ≡ parent_at m k
    up_else k apart = ap (λ (b : Bool). cond b new (parent_at m k)) (ne_eqb k i apart)

    up_at : (k : ℕ) → k ≡ i → cond (k == i) new (parent_at m k) ≡ new
    up_at k same = ap (λ (b : Bool). cond b new (parent_at m k)) (eq-eqb k i same)

    -- it is no directory, or comes into no other one
    module _ (flat : (is_directory_at m i ≡ false) ⊎ (new ≡ old)) where
      flat_sums : (k : ℕ) → is_directory_at m k ≡ true → (v : ℕ → List ℕ → ℕ) → sum_at v m2 k + cond (k == i) (v old dot_dot) 0 ≡ sum_at v m2 k + cond (k == i) (v new dot_dot) 0
      flat_sums k is v = elim flat [
        | inl plain ↦
            let at : (k == i) ≡ false = ne_eqb k i (λ e. true≢false (sym is ∙ ap (is_directory_at m) e ∙ plain)) in
            let none = λ (x : ℕ). ap (λ (b : Bool). sum_at v m2 k + cond b x 0) at in
            none (v old dot_dot) ∙ sym (none (v new dot_dot))
        | inr same ↦ ap (λ (h : ℕ). sum_at v m2 k + cond (k == i) (v h dot_dot) 0) (sym same)
      ]

      flat_begins : (k : ℕ) → k < n → is_directory_at m k ≡ true → BeginsAs k (parent_at m k) (slots_at m2 k) → BeginsAs k (cond (k == i) new (parent_at m k)) (slots_at m2 k)
      flat_begins k less is begins = subst (λ (h : ℕ). BeginsAs k h (slots_at m2 k)) (sym (by_case flat (cases_eq k i))) begins where
        by_case : (is_directory_at m i ≡ false) ⊎ (new ≡ old) → (k ≡ i) ⊎ (k ≢ i) → cond (k == i) new (parent_at m k) ≡ parent_at m k
        by_case way (inr apart) = up_else k apart
        by_case (inl plain) (inl at) = absurd (true≢false (sym is ∙ ap (is_directory_at m) at ∙ plain))
        by_case (inr same) (inl at) = up_at k at ∙ same ∙ (was_below (ap (is_directory_at m) (sym at) ∙ is)).1 ∙ ap (parent_at m) (sym at)

    -- it is a directory, and has the new one above it
    module _ (moves : is_directory_at m i ≡ true) where
      e_i : (e : DirectoryNode) × (second i ≡ Some (Directory e))
      e_i = directory_in (second i) (sym (directory_as (second i)) ∙ same2 i ∙ moves)

      above_is : named (all_slots e_i.0.chunks) dot_dot ≡ Some old
      above_is =
          ap (λ (o : Option Node). named (slots_from (names_of o)) dot_dot) (sym e_i.1)
          ∙ named_dot_dot i (parent_at m i) in_use_i.0 (real_above i less_i moves) (slots_at m2 i) (begins2 i less_i moves) ∙ ap (λ (h : ℕ). Some h) (sym (was_below moves).1)

      turned3 : HasTurned m2 m3 i (all_slots e_i.0.chunks) (all_slots (lifting e_i.0.chunks))
      turned3 = turned second i lifting e_i.0 e_i.1

      lifts : PointsIn dot_dot old new (all_slots e_i.0.chunks) (all_slots (lifting e_i.0.chunks))
      lifts = points dot_dot old new e_i.0.chunks above_is

      lifted_sums : (k : ℕ) → is_directory_at m k ≡ true → (v : ℕ → List ℕ → ℕ) → sum_at v m3 k + cond (k == i) (v old dot_dot) 0 ≡ sum_at v m2 k + cond (k == i) (v new dot_dot) 0
      lifted_sums k is v =
          turned_sum m2 m3 i (all_slots e_i.0.chunks) (all_slots (lifting e_i.0.chunks)) turned3 v (v old dot_dot) (v new dot_dot)
          (points-sum dot_dot old new (all_slots e_i.0.chunks) (all_slots (lifting e_i.0.chunks)) lifts v) k

      lifted_begins : (k : ℕ) → k < n → is_directory_at m k ≡ true → BeginsAs k (parent_at m k) (slots_at m2 k) → BeginsAs k (cond (k == i) new (parent_at m k)) (slots_at m3 k)
      lifted_begins k less is =
          turned_begins m2 m3 i (all_slots e_i.0.chunks) (all_slots (lifting e_i.0.chunks)) turned3 k (parent_at m k) (cond (k == i) new (parent_at m k))
          (λ at begins.
          subst (λ (h : ℕ). BeginsAs i h (all_slots (lifting e_i.0.chunks))) (sym (up_at k at))
          (turns_begins old new i (parent_at m k) (real_above k less is) (all_slots e_i.0.chunks) (all_slots (lifting e_i.0.chunks)) lifts begins))
          (λ apart. sym (up_else k apart))

      same3 : (k : ℕ) → is_directory_at m3 k ≡ is_directory_at m k
      same3 k = turned_directory m2 m3 i (all_slots e_i.0.chunks) (all_slots (lifting e_i.0.chunks)) turned3 k ∙ same2 k

      used3 : (k : ℕ) → is_used_in m3 k ≡ is_used_in m k
      used3 k = turned_used m2 m3 i (all_slots e_i.0.chunks) (all_slots (lifting e_i.0.chunks)) turned3 k ∙ used2 k

    flat_by : (is_directory_in tree i && not (new == old)) ≡ false → (is_directory_at m i ≡ false) ⊎ (new ≡ old)
    flat_by is = elim (and_cases (is_directory_in tree i) (not (new == old)) is) [
      | inl plain ↦ inl (directory_as (tree i) ∙ plain)
      | inr same ↦ inr (eqb-true new old (not-false (new == old) same))
    ]

    -- a link less of what had the new name
    second_links : (j : ℕ) → j ≢ 0 → links_in g second j + one_if (r == j) ≡ links_in g tree j
    second_links j real =
        omega (
          arith,
          total-on_node (names_in j) g tree new (on_chunks f) (Directory d) there new_less,
          total-on_node (names_in j) g first old (on_chunks leaving) (Directory e_old.0) e_old.1 old_less,
          first_sums (of_inode j) (free_names_none j real),
          leaves-sum old_name i (of_inode j) (free_names_none j real) (all_slots e_old.0.chunks) (all_slots (leaving e_old.0.chunks)) (leaves old_name i e_old.0.chunks still_found),
          total-links g tree j,
          total-links g second j,
        )

    third_links : is_directory_at m i ≡ true → (j : ℕ) → links_in g third j + one_if (old == j) ≡ links_in g second j + one_if (new == j)
    third_links moves j =
        let e = e_i moves in
        omega (
          arith,
          total-on_node (names_in j) g second i (on_chunks lifting) (Directory e.0) e.1 less_i,
          points-sum dot_dot old new (all_slots e.0.chunks) (all_slots (lifting e.0.chunks)) (lifts moves) (of_inode j),
          total-links g second j,
          total-links g third j,
        )

    pub has_moved : (c : Bool) → (is_directory_in tree i && not (new == old)) ≡ c → HasMoved g tree old new r c (cond c third second)
    has_moved true is =
        let moves = directory_as (tree i) ∙ (and_parts (is_directory_in tree i) (not (new == old)) is).0 in
        record {
          kept = kept_right third (same3 moves) (used3 moves) (lifted_sums moves) (lifted_begins moves);
          dropped = dropped_right third (same3 moves) (used3 moves) (lifted_sums moves) (lifted_begins moves);
          same_directory = same3 moves;
          same_used = used3 moves;
          links = λ j real. omega (arith, second_links j real, third_links moves j);
        }
    has_moved false is = record {
      kept = kept_right second same2 used2 (flat_sums (flat_by is)) (flat_begins (flat_by is));
      dropped = dropped_right second same2 used2 (flat_sums (flat_by is)) (flat_begins (flat_by is));
      same_directory = same2;
      same_used = used2;
      links = λ j real. omega (arith, second_links j real);
    }
