-- The call that renames leaves a right tree right.
use Rattle.std.proofs.Common.{◌≡◌, ◌≢◌, ◌≤◌, ◌<◌, ◌⊎◌, ℕ, ◌==◌, Bool, true, false, not, ◌&&◌, ◌||◌, cond, List, [], ◌∷◌, ◌++◌, Option, Some, None, refl, sym, ap, subst, inl, inr, ◌∙◌, arith, bytes_eq}
use Rattle.std.proofs.lemmas.Bool.{cases_Bool, cases_eq, and_cases, or_parts, true≢false, not-false, not_from_false, eqb-true, eqb-false, eq-eqb, ne_eqb}
use Rattle.std.proofs.lemmas.Slice.Eq.{bytes_eq-Decides}
use Rattle.std.specs.Prelude.{is_some}
use Rattle.std.specs.List.{AllByRecursion}
use Rattle.std.specs.Option.{option_map_or}
use Rattle.lufs_base.specs.declared.geometry.Geometry.{Geometry}
use Rattle.tree_types.specs.declared.credentials.Cred.{Cred}
use Rattle.tree_types.specs.declared.call.Call.TheVariants as call
use Rattle.volume_model.specs.declared.directory.Slot.{Slot}
use Rattle.volume_model.specs.Format.{inodes_of}
use Rattle.volume_model.specs.Sound.{DirectoryNode, Node, Directory, Tree, Names, with_node, names_in_tree, slots_at, parent_at, dot_dot}
use Rattle.volume_model.specs.Sound.{is_directory_in as is_directory_at}
use Rattle.history_model.specs.Places.{lookup, is_directory_in, is_dots, links_in}
use Rattle.history_model.specs.Walk.{WalkEnd}
use Rattle.history_model.specs.Ends.{WalkEnds, Two}
use Rattle.history_model.specs.Edits.{Edit, Enter, TakeOut, Point, SetParent, SetTime, Drop, entered_in, taken_out_of, pointed_in, on_chunks, with_time, on_node, edited, edited_all}
use Rattle.history_model.specs.Refusals.{Proceed, found_is, is_below, is_empty_in, decision_at}
use Rattle.history_model.specs.Effects.{losing, renaming, on_found_inode, edits_at}
use Rattle.history_model.specs.Replies.{tree_after}
use Rattle.history_model.specs.Right.{IsRightWithin}
use Rattle.history_rules.proofs.NodeLaws.{on_node-here, on_node-other}
use Rattle.history_rules.proofs.NameLaws.{named, in_others}
use Rattle.history_rules.proofs.MakeLaws.{directory_in}
use Rattle.history_rules.proofs.AccountLaws.{IsIn, EndsIn}
use Rattle.history_rules.proofs.CarriedOutLaws.{rename_rows, after_holds, rename_goes}
use Rattle.history_rules.proofs.KeptNameLaws.{names_of, SameNames, right_as, time_same}
use Rattle.history_rules.proofs.LinkLaws.{names_in, total-links}
use Rattle.history_rules.proofs.TotalLaws.{weight_in, total, total-on_node}
use Rattle.history_rules.proofs.EnterLaws.{all_slots, slot_sum, enters, enters-sum}
use Rattle.history_rules.proofs.PointLaws.{PointsIn, points, points-sum, points_others, points_begins}
use Rattle.history_rules.proofs.SlotRuleLaws.{one_if, of_inode, of_name, of_entry}
use Rattle.history_rules.proofs.RightNameLaws.{name_by, slots_from, no_zero, none_so}
use Rattle.history_rules.proofs.ChangedRightLaws.{good_parts}
use Rattle.history_rules.proofs.EnterRightLaws.{enters_begins}
use Rattle.history_rules.proofs.DroppedRightLaws.{row_alike}
use Rattle.history_rules.proofs.NamedRightLaws.{below, found_used, directory_as}
use Rattle.history_rules.proofs.RemovedRightLaws.{named_by, none_at, weight_slots}
use Rattle.history_rules.proofs.RemovedDirectoryLaws.{not_dots}
use Rattle.history_rules.proofs.CountedLaws.{sum_at, one_at, listed_below}
use Rattle.history_rules.proofs.TurnedRowLaws.{on_node-drop}
use Rattle.history_rules.proofs.RenamedRightLaws.{directory_less, as_name, real_directory, real_above, rules, name_listed, empty_entries, not_empty, HasMoved, HoldsWhereMoved, has_moved}

some_same : (a b : ℕ) → Some a ≡ Some b → a ≡ b
some_same a b is = cc

module _ (g : Geometry) (tree : Tree) (right : IsRightWithin g tree) where
  abbrev n : ℕ
  n = inodes_of g

  abbrev m : Names
  m = names_in_tree tree

  module _ (moment : ℕ) (p q : WalkEnd) (i : ℕ) (in_p : is_directory_in tree p.dir ≡ true) (in_q : is_directory_in tree q.dir ≡ true) (found : lookup tree p.dir p.name ≡ Some i)
      (p_plain : is_dots p.name ≡ false) (q_plain : is_dots q.name ≡ false) (apart : is_below n tree q.dir i ≡ false) where
    abbrev leaving : Node → Node
    leaving = on_chunks (λ chunks. taken_out_of chunks p.name)

    abbrev lifting : Node → Node
    lifting = on_chunks (λ chunks. pointed_in chunks dot_dot q.dir)

    abbrev left : Tree → Tree
    left t = on_node p.dir leaving t

    -- without the old name; where the inode is a directory that comes into another one, that is above it
    abbrev moved : Bool → Tree → Tree
    moved c t = cond c (on_node i lifting (left t)) (left t)

    abbrev rest : Bool → List Edit
    rest c = TakeOut p.dir p.name ∷ (cond c (SetParent i q.dir ∷ []) [] ++ (SetTime q.dir moment ∷ (SetTime p.dir moment ∷ [])))

    abbrev edits_over : (r : ℕ) (lost : Bool) → List Edit
    edits_over r lost = (Point q.dir q.name i ∷ option_map_or (λ k. Drop k ∷ []) (cond lost (Some r) None) []) ++ rest (is_directory_in tree i && not (q.dir == p.dir))

    times_same : (t : Tree) → SameNames (on_node p.dir (with_time moment) (on_node q.dir (with_time moment) t)) t
    times_same t k = time_same (on_node q.dir (with_time moment) t) p.dir moment k ∙ time_same t q.dir moment k

    rest_same : (c : Bool) (t : Tree) → SameNames (edited_all (rest c) t) (moved c t)
    unfolding edited
    rest_same true t = times_same (on_node i lifting (left t))
    rest_same false t = times_same (left t)

    moved_drop : (r : ℕ) → p.dir ≢ r → i ≢ r → (c : Bool) (t : Tree) → moved c (with_node t r None) ≡ with_node (moved c t) r None
    moved_drop r not_p not_i true t = ap (on_node i lifting) (on_node-drop t p.dir r leaving not_p) ∙ on_node-drop (left t) i r lifting not_i
    moved_drop r not_p not_i false t = on_node-drop t p.dir r leaving not_p

    d_p : (d : DirectoryNode) × (tree p.dir ≡ Some (Directory d))
    d_p = directory_in (tree p.dir) in_p

    d_q : (d : DirectoryNode) × (tree q.dir ≡ Some (Directory d))
    d_q = directory_in (tree q.dir) in_q

    real_i : i ≢ 0
    real_i = (found_used g tree right p.dir d_p.0 p.name i d_p.1 found).0

    less_q : q.dir < n
    less_q = directory_less g tree right q.dir in_q

    real_q : q.dir ≢ 0
    real_q = real_directory g tree right q.dir less_q (as_name g tree right q.dir in_q)

    abbrev moves : Bool
    moves = is_directory_in tree i && not (q.dir == p.dir)

    module _ (P : Tree → Type 0) (alike : (t other : Tree) → SameNames other t → P t → P other) (o : Option ℕ) (holds : HoldsWhereMoved P g tree p.dir q.dir moves o) where
      -- no inode had the new name
      module _ (new : lookup tree q.dir q.name ≡ None) (nothing : o ≡ None) where
        new_name : named (all_slots d_q.0.chunks) q.name ≡ None
        new_name = sym (ap (λ (o : Option Node). named_by o q.name) d_q.1) ∙ new

        no_name : sum_at (of_name q.name) m q.dir ≡ 0
        no_name = ap (λ (o : Option Node). slot_sum (of_name q.name) (slots_from (names_of o))) d_q.1 ∙ none_so q.name (all_slots d_q.0.chunks) new_name

        none_plain : is_directory_at m 0 ≡ false
        none_plain = elim (cases_Bool (is_directory_at m 0)) [
          | inl is ↦ absurd (no_zero n m right.names (omega (arith, less_q)) is)
          | inr none ↦ none
        ]

        abbrev entered : Tree
        entered = on_node q.dir (on_chunks (λ chunks. entered_in chunks q.name i)) tree

        entered_moved : HasMoved g tree p.dir q.dir 0 moves (moved moves entered)
        entered_moved =
            let xs : List Slot = all_slots d_q.0.chunks in
            let ys : List Slot = all_slots (entered_in d_q.0.chunks q.name i) in
            let is_in = enters q.name i d_q.0.chunks in
            has_moved g tree right p.dir q.dir i 0 p.name q.name in_p in_q found (not_dots p.name p_plain).0 (not_dots p.name p_plain).1 (not_dots q.name q_plain).0 (not_dots q.name q_plain).1 apart
            real_i real_q (λ e. omega arith) (λ same e. absent (sym found ∙ (λ t. lookup tree (same t) (e t)) ∙ new)) (omega (arith, no_name)) (real_above g tree right)
            d_q.0 d_q.1 (λ chunks. entered_in chunks q.name i)
            (λ v unused. omega (arith, enters-sum q.name i v unused xs ys is_in, unused q.name))
            (λ parent real. enters_begins q.name i q.dir parent real_q real xs ys is_in)
            (λ name other. in_others q.name i real_i d_q.0.chunks name other)
            moves refl
          where
            absent : Some i ≡ None → ⊥
            absent is = cc

        entered_same : SameNames (edited_all (Enter q.dir q.name i ∷ rest moves) tree) (moved moves entered)
        unfolding edited
        entered_same = rest_same moves entered

        entered_holds : P (edited_all (Enter q.dir q.name i ∷ rest moves) tree)
        entered_holds = alike (moved moves entered) (edited_all (Enter q.dir q.name i ∷ rest moves) tree) entered_same (holds.entered nothing (moved moves entered) entered_moved none_plain)

      -- inode r had the new name
      module _ (r : ℕ) (replaced : lookup tree q.dir q.name ≡ Some r) (some : o ≡ Some r) (other : i ≢ r) where
        in_use_r : (r ≢ 0) × (is_some (tree r) ≡ true)
        in_use_r = found_used g tree right q.dir d_q.0 q.name r d_q.1 replaced

        less_r : r < n
        less_r = below g tree right r in_use_r.1

        abbrev pointing : Node → Node
        pointing = on_chunks (λ chunks. pointed_in chunks q.name i)

        abbrev first : Tree
        first = on_node q.dir pointing tree

        abbrev xs : List Slot
        xs = all_slots d_q.0.chunks

        abbrev ys : List Slot
        ys = all_slots (pointed_in d_q.0.chunks q.name i)

        turns : PointsIn q.name r i xs ys
        turns = points q.name r i d_q.0.chunks (sym (ap (λ (o : Option Node). named_by o q.name) d_q.1) ∙ replaced)

        own_name : of_name q.name r q.name ≡ 1
        own_name =
            let used : not (r == 0) ≡ true = not_from_false (r == 0) (ne_eqb r 0 in_use_r.0) in
            let same : bytes_eq q.name q.name ≡ true = (bytes_eq-Decides q.name q.name).1 refl in
            λ t. name_by (used t) (same t)

        room : sum_at (of_name q.name) m q.dir ≤ of_name q.name r q.name
        room = let once = (rules g tree right).once q.dir less_q (as_name g tree right q.dir in_q) q.name in omega (arith, once, own_name)

        differ : p.dir ≡ q.dir → p.name ≢ q.name
        differ same e = other (some_same i r (sym found ∙ (λ t. lookup tree (same t) (e t)) ∙ replaced))

        listed : 0 < sum_at (of_entry r) m q.dir
        listed = name_listed g tree right q.dir d_q.0 q.name r d_q.1 replaced (not_dots q.name q_plain).0 (not_dots q.name q_plain).1

        -- nothing else needs it
        record IsSpare : Type 0 where
          pub new_other : q.dir ≢ r
          pub old_other : p.dir ≢ r
          pub not_root : r ≢ 2
          pub childless : (k : ℕ) → k < n → is_directory_at m k ≡ true → parent_at m k ≢ r

        module _ (spare : IsSpare) where
          over_moved : HasMoved g tree p.dir q.dir r moves (moved moves first)
          over_moved =
              has_moved g tree right p.dir q.dir i r p.name q.name in_p in_q found (not_dots p.name p_plain).0 (not_dots p.name p_plain).1 (not_dots q.name q_plain).0 (not_dots q.name q_plain).1 apart
              other spare.new_other spare.not_root differ room spare.childless d_q.0 d_q.1 (λ chunks. pointed_in chunks q.name i)
              (λ v unused. points-sum q.name r i xs ys turns v)
              (λ parent real. points_begins q.name r i xs ys turns q.dir parent (not_dots q.name q_plain).0 (not_dots q.name q_plain).1)
              (points_others q.name r i xs ys turns) moves refl

          kept_same : SameNames (edited_all (edits_over r false) tree) (moved moves first)
          unfolding edited
          kept_same = rest_same moves first

          dropped_same : SameNames (edited_all (edits_over r true) tree) (with_node (moved moves first) r None)
          unfolding edited
          dropped_same = subst (SameNames (edited_all (edits_over r true) tree)) (moved_drop r spare.old_other other moves first) (rest_same moves (with_node first r None))

        still_there : r ≢ q.dir → r ≢ p.dir → (c : Bool) → moved c first r ≡ tree r
        still_there not_q not_p true =
            on_node-other (left first) i r lifting (λ e. other (sym e)) ∙ on_node-other first p.dir r leaving not_p ∙ on_node-other tree q.dir r pointing not_q
        still_there not_q not_p false = on_node-other first p.dir r leaving not_p ∙ on_node-other tree q.dir r pointing not_q

        -- it is no directory
        module _ (plain : is_directory_in tree r ≡ false) where
          no_directory : is_directory_at m r ≡ false
          no_directory = directory_as (tree r) ∙ plain

          not_directory : (k : ℕ) → is_directory_at m k ≡ true → k ≢ r
          not_directory k is e = true≢false (sym is ∙ ap (is_directory_at m) e ∙ no_directory)

          no_child : (k : ℕ) → k < n → is_directory_at m k ≡ true → parent_at m k ≢ r
          no_child k less is = not_directory (parent_at m k) ((rules g tree right).above k less is).0

          -- its only name was the new one
          one_name : links_in g tree r ≡ 1 → (k : ℕ) → k < n → k ≢ r → is_directory_at m k ≡ true → sum_at (of_inode r) m k ≡ one_if (k == q.dir)
          one_name one k less not_r is =
              let changed = total-on_node (names_in r) g tree q.dir pointing (Directory d_q.0) d_q.1 less_q in
              let change = points-sum q.name r i xs ys turns (of_inode r) in
              let own : of_inode r r q.name ≡ 1 = ap one_if (eq-eqb r r refl) in
              let none_i : of_inode r i q.name ≡ 0 = ap one_if (ne_eqb i r other) in
              let none : total (names_in r) g first ≡ 0 = omega (arith, changed, change, own, none_i, total-links g tree r, one) in
              let row = λ (j : ℕ). weight_slots r (tree j) in
              elim (cases_eq k q.dir) [
                | inl at ↦
                    let here : sum_at (of_inode r) m k ≡ slot_sum (of_inode r) xs = ap (sum_at (of_inode r) m) at ∙ ap (λ (o : Option Node). slot_sum (of_inode r) (slots_from (names_of o))) d_q.1 in
                    let is_one : one_if (k == q.dir) ≡ 1 = ap one_if (eq-eqb k q.dir at) in
                    let row_q : weight_in (names_in r) (first q.dir) ≡ slot_sum (of_inode r) ys = ap (weight_in (names_in r)) (on_node-here tree q.dir pointing (Directory d_q.0) d_q.1) in
                    let zero_is = none_at (λ (j : ℕ). weight_in (names_in r) (first j)) n 0 q.dir none (omega arith) (omega (arith, less_q)) in
                    omega (arith, here, is_one, change, own, none_i, row_q, zero_is)
                | inr not_q ↦
                    let same : weight_in (names_in r) (first k) ≡ weight_in (names_in r) (tree k) = ap (weight_in (names_in r)) (on_node-other tree q.dir k pointing not_q) in
                    let zero_is = none_at (λ (j : ℕ). weight_in (names_in r) (first j)) n 0 k none (omega arith) (omega arith) in
                    let is_none : one_if (k == q.dir) ≡ 0 = ap one_if (ne_eqb k q.dir not_q) in
                    omega (arith, same, zero_is, is_none, row k)
              ]

          spare_file : IsSpare
          spare_file = record {
            new_other = not_directory q.dir (as_name g tree right q.dir in_q);
            old_other = not_directory p.dir (as_name g tree right p.dir in_p);
            not_root = λ e. not_directory 2 right.names.root (sym e);
            childless = no_child;
          }

          lost_file : (is_directory_in tree r || links_in g tree r == 1) ≡ (links_in g tree r == 1)
          lost_file = ap (λ (b : Bool). b || links_in g tree r == 1) plain

          file_over : ((links_in g tree r == 1) ≡ true) ⊎ ((links_in g tree r == 1) ≡ false) → P (edited_all (edits_over r (is_directory_in tree r || links_in g tree r == 1)) tree)
          file_over links =
              let by : Bool → Type 0 = λ b. P (edited_all (edits_over r b) tree) in
              let is_moved = over_moved spare_file in
              elim links [
                | inl one ↦
                    subst by (sym (lost_file ∙ one))
                    (alike (with_node (moved moves first) r None) (edited_all (edits_over r true) tree) (dropped_same spare_file)
                    (holds.file_gone r some (moved moves first) is_moved in_use_r.0 less_r plain (one_name (eqb-true (links_in g tree r) 1 one))))
                | inr more ↦ subst by (sym (lost_file ∙ more)) (alike (moved moves first) (edited_all (edits_over r false) tree) (kept_same spare_file) (holds.kept r some (moved moves first) is_moved plain more))
              ]

        -- it is an empty directory
        module _ (is : is_directory_in tree r ≡ true) (empty : is_empty_in tree r ≡ true) where
          is_r : is_directory_at m r ≡ true
          is_r = as_name g tree right r is

          was_below : ((r == 2) ≡ false) × (q.dir ≡ parent_at m r)
          was_below = listed_below n m (parent_at m) (rules g tree right) r q.dir less_r less_q is_r listed

          no_parent : (k : ℕ) → k < n → is_directory_at m k ≡ true → parent_at m k ≢ r
          no_parent k less is_k same = elim (cases_Bool (k == 2)) [
            | inl root ↦ eqb-false r 2 was_below.0 (sym same ∙ (rules g tree right).top k less is_k root)
            | inr not_root ↦
                let count = (rules g tree right).entries k r less less_r is_k in
                let one = one_at k r (parent_at m k) not_root (sym same) in
                omega (arith, count, one, empty_entries g tree right r empty k)
          ]

          only_there : (k : ℕ) → k < n → k ≢ r → is_directory_at m k ≡ true → sum_at (of_inode r) m k ≡ one_if (k == q.dir)
          only_there k less not_r is_k =
              let begins = (rules g tree right).begins k less is_k in
              row_alike r k (parent_at m k) in_use_r.0 (real_directory g tree right k less is_k) (real_above g tree right k less is_k) not_r (no_parent k less is_k) (slots_at m k) begins
              (good_parts (is_directory_at m k) k (slots_at m k) is_k (right.names.slots k less)).1
              ∙ (rules g tree right).entries r k less_r less is_r ∙ (λ t. one_if (not (was_below.0 t) && k == sym was_below.1 t))

          spare_directory : IsSpare
          spare_directory =
              let listed_p = name_listed g tree right p.dir d_p.0 p.name i d_p.1 found (not_dots p.name p_plain).0 (not_dots p.name p_plain).1 in
              record { new_other = not_empty g tree right r empty q.dir r listed; old_other = not_empty g tree right r empty p.dir i listed_p; not_root = eqb-false r 2 was_below.0; childless = no_parent }

          directory_over : P (edited_all (edits_over r (is_directory_in tree r || links_in g tree r == 1)) tree)
          directory_over =
              subst (λ (b : Bool). P (edited_all (edits_over r (b || links_in g tree r == 1)) tree)) (sym is)
              (alike (with_node (moved moves first) r None) (edited_all (edits_over r true) tree) (dropped_same spare_directory)
              (holds.directory_gone r some (moved moves first) (over_moved spare_directory) in_use_r.0 less_r is empty was_below.1
              (still_there (λ e. spare_directory.new_other (sym e)) (λ e. spare_directory.old_other (sym e)) moves) only_there))

        over_holds : (is_directory_in tree r && not (is_empty_in tree r)) ≡ false → P (edited_all (edits_over r (is_directory_in tree r || links_in g tree r == 1)) tree)
        over_holds empty = elim (cases_Bool (is_directory_in tree r)) [
          | inr plain ↦ file_over plain (cases_Bool (links_in g tree r == 1))
          | inl is ↦ elim (and_cases (is_directory_in tree r) (not (is_empty_in tree r)) empty) [
            | inl plain ↦ file_over plain (cases_Bool (links_in g tree r == 1))
            | inr is_empty ↦ directory_over is (not-false (is_empty_in tree r) is_empty)
          ]
        ]

      -- whether or not an inode had the new name
      renaming_holds : (found : Option ℕ) → o ≡ found → lookup tree q.dir q.name ≡ found → (found_is (λ k. k == i) found && not (is_dots p.name || is_dots q.name)) ≡ false
          → found_is (λ k. is_directory_in tree k && not (is_empty_in tree k)) found ≡ false
          → P (edited_all (option_map_or (λ replaced. Point q.dir q.name i ∷ losing g tree replaced) found (Enter q.dir q.name i ∷ []) ++ rest moves) tree)
      renaming_holds None nothing new other empty = entered_holds new nothing
      renaming_holds (Some r) some replaced other empty = over_holds r replaced some (λ e. not_same (sym e)) empty where
        not_same : r ≢ i
        not_same e = elim (and_cases (r == i) (not (is_dots p.name || is_dots q.name)) other) [
          | inl differ ↦ eqb-false r i differ e
          | inr dots ↦ true≢false (sym (not_from_false (is_dots p.name || is_dots q.name) (λ t. p_plain t || q_plain t)) ∙ dots)
        ]

  module _ (P : Tree → Type 0) (alike : (t other : Tree) → SameNames other t → P t → P other) (before : P tree) (cred : Cred) (ino moment : ℕ) (old new : List ℕ)
      (holds : (p q : WalkEnd) (i : ℕ) → is_directory_in tree p.dir ≡ true → AllByRecursion (λ row. row.0 ≡ false) (rename_rows g tree cred p q i)
      → HoldsWhereMoved P g tree p.dir q.dir (is_directory_in tree i && not (q.dir == p.dir)) q.found) where
    found_holds : (p q : WalkEnd) → IsIn tree p → IsIn tree q → (found : Option ℕ) → p.found ≡ found → decision_at g tree cred (call.Rename old new) (Two p q) ≡ Proceed
        → P (edited_all (on_found_inode found (λ i. renaming g tree p q i moment)) tree)
    found_holds p q in_p in_q None is go = before
    found_holds p q in_p in_q (Some i) is go =
        let none = rename_goes g tree cred old new p q i is go in
        let inval = or_parts (is_dots p.name || is_dots q.name) (is_below n tree q.dir i) none.1.1.1.1.1.0 in
        let dots = or_parts (is_dots p.name) (is_dots q.name) inval.0 in
        renaming_holds moment p q i in_p.0 in_q.0 (in_p.1 ∙ is) dots.0 dots.1 inval.1 P alike q.found (holds p q i in_p.0 none) q.found refl in_q.1 none.1.1.0 none.1.1.1.1.0

    -- where a rename is carried out
    pub renamed_holds : (ends : WalkEnds) → EndsIn tree ends → decision_at g tree cred (call.Rename old new) ends ≡ Proceed → P (edited_all (edits_at g tree cred ino moment (call.Rename old new) ends) tree)
    renamed_holds (Two p q) is go = found_holds p q is.0 is.1 p.found refl go
    renamed_holds ends is go = before

pub right_renamed : (g : Geometry) (tree : Tree) (cred : Cred) (ino moment : ℕ) (old new : List ℕ) → IsRightWithin g tree → IsRightWithin g (tree_after g tree cred ino moment (call.Rename old new))
right_renamed g tree cred ino moment old new right =
    after_holds (IsRightWithin g) g tree cred ino moment (call.Rename old new) right (λ ends is _ go.
    renamed_holds g tree right (IsRightWithin g) (right_as g) right cred ino moment old new (λ p q i _ none. record {
      entered = λ nothing last is_moved plain. is_moved.kept plain;
      kept = λ r some last is_moved plain more. is_moved.kept (directory_as (tree r) ∙ plain);
      file_gone = λ r some last is_moved real less plain gone. is_moved.dropped real gone;
      directory_gone = λ r some last is_moved real less is_dir empty below same gone. is_moved.dropped real gone;
    }) ends is go)
