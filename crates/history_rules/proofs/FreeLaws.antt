-- The inodes in use and the claimed blocks after a call.
use Rattle.std.proofs.Common.{◌≡◌, ◌≤◌, ◌<◌, ℕ, ◌+◌, ◌-◌, ◌/◌, Bool, true, false, not, ◌||◌, cond, List, [], ◌∷◌, length, Option, Some, None, Result, Ok, Err, refl, sym, ap, ◌∙◌, inl, inr, arith}
use Rattle.std.proofs.lemmas.Bool.{ltb-true, ltb-false}
use Rattle.std.proofs.lemmas.Bool.Decides.{leb_tells}
use Rattle.std.specs.Prelude.{option_map, nat_lt, ◌==◌, sum_by, if◌then◌else◌, is_some, option_and_then}
use Rattle.std.specs.List.{list_any, range_with_len}
use Rattle.std.specs.Option.{option_map_or}
use Rattle.lufs_base.specs.declared.geometry.Geometry.{Geometry}
use Rattle.tree_types.specs.declared.credentials.Cred.{Cred}
use Rattle.tree_types.specs.declared.call.Call.{Call}
use Rattle.tree_types.specs.declared.call.Call.TheVariants as call
use Rattle.tree_types.specs.declared.reply.Refusal.{Refusal}
use Rattle.tree_types.specs.declared.reply.Refusal.TheVariants.{Noent}
use Rattle.volume_model.specs.declared.directory.Slot.{Slot}
use Rattle.volume_model.specs.Format.{inodes_of, room_in, with_name_at}
use Rattle.volume_model.specs.Sound.{Attributes, FileNode, DirectoryNode, Node, File, Directory, Link, Tree, with_node, directory_blocks, claimed_by, claimed_at, claimed_in_tree, used_in_tree}
use Rattle.history_model.specs.Places.{attributes_in, chunks_in, chunks_of_node, file_in, file_of, is_directory_in, links_in}
use Rattle.history_model.specs.Walk.{WalkEnd, first_of}
use Rattle.history_model.specs.Ends.{WalkEnds, One, Two, ends_of}
use Rattle.history_model.specs.Edits.{SetFile, SetTime, entered_in, on_chunks, with_attributes, with_time, on_node, edited, edited_all}
use Rattle.history_model.specs.FileBytes.{written, cut_to, blocks_cut}
use Rattle.history_model.specs.Wants.{Wanted, nothing, blocks_in, blocks_for_name, file_found, link_wants, write_wants, wants_at}
use Rattle.history_model.specs.Refusals.{Decision, Refuse, Unchanged, Proceed, Rows, on_found, decision_at}
use Rattle.history_model.specs.Effects.{rewriting, on_found_inode, edits_at, lost_by, freed_at, freed_blocks_at}
use Rattle.history_model.specs.Histories.{makes_inode, IsUsable}
use Rattle.history_model.specs.Replies.{decided, walked_tree, tree_after, walked_wants, wanted_of, walked_freed, freed_of, walked_freed_blocks, freed_blocks_of}
use Rattle.history_rules.specs.Used.{IsOfUsed, HasRightFiles}
use Rattle.history_rules.proofs.FileLaws.{claimed-written, claimed-cut_to}
use Rattle.history_rules.proofs.NodeLaws.{with_node-here, with_node-other}
use Rattle.history_rules.proofs.TotalLaws.{weight_in, total, same_or_not, total-same, total-with_node, on_node-weight}
use Rattle.history_rules.proofs.AccountLaws.{changes_bytes, IsIn, EndsIn, ends_in, accounts, spent_at}

-- how many chunks a directory has after a name was entered
pub length-entered_in : (chunks : List (List Slot)) (name : List ℕ) (i : ℕ)
    → length (entered_in chunks name i) ≡ length chunks + cond (not (list_any (λ chunk. is_some (room_in chunk name)) chunks)) 1 0
length-entered_in [] name i = refl
length-entered_in (chunk ∷ chunks) name i = by_room (room_in chunk name) (length-entered_in chunks name i) where
  by_room : (room : Option ℕ) → length (entered_in chunks name i) ≡ length chunks + cond (not (list_any (λ chunk. is_some (room_in chunk name)) chunks)) 1 0
      → length (let after : List (List Slot) = elim (is_some room) [ true ↦ option_map_or (λ place. with_name_at chunk place name i) room chunk ∷ chunks | false ↦ chunk ∷ entered_in chunks name i ] in after)
      ≡ length (chunk ∷ chunks) + cond (not (is_some room || list_any (λ chunk. is_some (room_in chunk name)) chunks)) 1 0
  by_room None more = omega (arith, more)
  by_room (Some place) more = omega arith

-- more blocks need no fewer pointer blocks
by_tests : (x y : ℕ) → x ≤ y → (a b : Bool) → nat_lt 12 x ≡ a → nat_lt 12 y ≡ b → x + cond a 1 0 ≤ y + cond b 1 0
by_tests x y low true true above also = omega arith
by_tests x y low true false above under = let less : 12 < x = ltb-true 12 x above in let more : y ≤ 12 = ltb-false 12 y under in absurd (omega arith)
by_tests x y low false true under above = omega arith
by_tests x y low false false under also = omega arith

pointers_grow : (x y : ℕ) → x ≤ y → x + cond (nat_lt 12 x) 1 0 ≤ y + cond (nat_lt 12 y) 1 0
pointers_grow x y low = by_tests x y low (nat_lt 12 x) (nat_lt 12 y) refl refl

blocks_grow : (chunks : ℕ) → directory_blocks chunks ≤ directory_blocks (chunks + 1)
blocks_grow chunks = pointers_grow ((chunks + 7) / 8) ((chunks + 1 + 7) / 8) (omega arith)

abbrev pub claims_keep_attributes : Type 0
claims_keep_attributes = (a : Attributes) (n : Node) → claimed_by (with_attributes a n) ≡ claimed_by n

pub keep_attributes : claims_keep_attributes
keep_attributes a (File file) = refl
keep_attributes a (Directory directory) = refl
keep_attributes a (Link link) = refl

keep_chunks : (f : List (List Slot) → List (List Slot)) → ((chunks : List (List Slot)) → length (f chunks) ≡ length chunks) → (n : Node) → claimed_by (on_chunks f n) ≡ claimed_by n
keep_chunks f same (File file) = refl
keep_chunks f same (Directory directory) = ap directory_blocks (same directory.chunks)
keep_chunks f same (Link link) = refl

by_length : (b : Bool) (chunks after : ℕ) → after ≡ chunks + cond b 1 0 → directory_blocks after ≡ directory_blocks chunks + cond b (directory_blocks (chunks + 1) - directory_blocks chunks) 0
by_length true chunks after is = let grown : directory_blocks chunks ≤ directory_blocks (chunks + 1) = blocks_grow chunks in let same = ap directory_blocks is in omega (arith, grown, same)
by_length false chunks after is = let kept : after ≡ chunks = omega (arith, is) in let same = ap directory_blocks kept in omega (arith, same)

enter_claims : (tree : Tree) (dir : ℕ) (name : List ℕ) (i : ℕ) (d : DirectoryNode) → tree dir ≡ Some (Directory d)
    → claimed_by (on_chunks (λ chunks. entered_in chunks name i) (Directory d)) ≡ claimed_by (Directory d) + blocks_for_name tree dir name
enter_claims tree dir name i d is =
    let any = λ (chunks : List (List Slot)). not (list_any (λ chunk. is_some (room_in chunk name)) chunks) in
    let here : chunks_in tree dir ≡ d.chunks = ap (λ (o : Option Node). option_map_or (λ (n : Node). chunks_of_node n) o []) is in
    let grown = by_length (any d.chunks) (length d.chunks) (length (entered_in d.chunks name i)) (length-entered_in d.chunks name i) in
    let wanted : blocks_for_name tree dir name ≡ cond (any d.chunks) (directory_blocks (length d.chunks + 1) - directory_blocks (length d.chunks)) 0 =
    ap (λ (chunks : List (List Slot)). cond (any chunks) (directory_blocks (length chunks + 1) - directory_blocks (length chunks)) 0) here in
    omega (arith, grown, wanted)

module _ (g : Geometry) (tree : Tree) (used : IsOfUsed g tree) (cred : Cred) (ino moment : ℕ) where
  abbrev spent_blocks : Call → WalkEnds → ℕ
  spent_blocks c ends = spent_at claimed_by keep_attributes keep_chunks g tree used cred ino moment (blocks_for_name tree) (enter_claims tree) c ends

  not_refused_none : (found : Option ℕ) (rows : ℕ → Rows) → found ≡ None → first_of (on_found found rows) Proceed ≡ Proceed → ⊥
  not_refused_none None rows is go = let e : Refuse Noent ≡ Proceed = go in cc
  not_refused_none (Some i) rows is go = let e : Some i ≡ None = is in cc

  some_found : (found : Option ℕ) (rows : ℕ → Rows) → first_of (on_found found rows) Proceed ≡ Proceed → (i : ℕ) × (found ≡ Some i)
  some_found None rows go = absurd (not_refused_none None rows refl go)
  some_found (Some i) rows go = (i, refl)

  spent-blocks : (c : Call) (ends : WalkEnds) → decision_at g tree cred c ends ≡ Proceed → changes_bytes c ≡ false → spent_blocks c ends ≡ blocks_in (wants_at tree c ends)
  unfolding decision_at
  spent-blocks (call.Create path mode) (One p) go bytes = refl
  spent-blocks (call.Mkdir path mode) (One p) go bytes = omega arith
  spent-blocks (call.Symlink text path) (One p) go bytes = omega arith
  spent-blocks (call.Link old new) (Two p q) go bytes =
      let found = some_found p.found _ go in
      let e : option_map_or (λ (i : ℕ). blocks_for_name tree q.dir q.name) p.found 0 ≡ blocks_for_name tree q.dir q.name = ap (λ (o : Option ℕ). option_map_or (λ (i : ℕ). blocks_for_name tree q.dir q.name) o 0) found.1 in
      omega (arith, e)
  spent-blocks (call.Rename old new) (Two p q) go bytes = by_name q.found (some_found p.found _ go) where
    by_name : (found : Option ℕ) → ((i : ℕ) × (p.found ≡ Some i))
        → option_map_or (λ i. option_map_or (λ replaced. 0) found (blocks_for_name tree q.dir q.name)) p.found 0 ≡ blocks_in (if is_some found then nothing else link_wants tree q)
    by_name None (i, is) = ap (λ (o : Option ℕ). option_map_or (λ (j : ℕ). blocks_for_name tree q.dir q.name) o 0) is ∙ omega arith
    by_name (Some j) (i, is) = ap (λ (o : Option ℕ). option_map_or (λ (k : ℕ). 0) o 0) is
  spent-blocks (call.Write path offset given) (One p) go bytes = absurd (let e : true ≡ false = bytes in cc)
  spent-blocks c ends go bytes = refl

  file_there : (o : Option Node) (file : FileNode) → option_map_or file_of o None ≡ Some file → o ≡ Some (File file)
  file_there None file is = absurd (let e : None ≡ Some file = is in cc)
  file_there (Some (File other)) file is = ap (λ (found : Option FileNode). option_map (λ (f : FileNode). File f) found) is
  file_there (Some (Directory directory)) file is = absurd (let e : None ≡ Some file = is in cc)
  file_there (Some (Link link)) file is = absurd (let e : None ≡ Some file = is in cc)

  within_volume : (i : ℕ) (n : Node) → tree i ≡ Some n → i < inodes_of g
  within_volume i n is = elim (leb_tells (inodes_of g) i) [
    | inl (_, past) ↦ absurd (let none : None ≡ Some n = sym (used.within i past) ∙ is in cc)
    | inr (_, less) ↦ less
  ]

  -- a file is another one now
  rewritten-blocks : (i : ℕ) (file other : FileNode) → tree i ≡ Some (File file)
      → claimed_in_tree g (edited_all (SetFile i other ∷ (SetTime i moment ∷ [])) tree) + claimed_by (File file) ≡ claimed_in_tree g tree + claimed_by (File other)
  unfolding edited
  rewritten-blocks i file other is =
      let first : Tree = with_node tree i (Some (File other)) in
      let changed = total-with_node claimed_by g tree i (Some (File other)) (within_volume i (File file) is) in
      let was : weight_in claimed_by (tree i) ≡ claimed_by (File file) = ap (weight_in claimed_by) is in
      let time = total-same claimed_by g (on_node i (with_time moment) first) first
      (on_node-weight claimed_by first i (with_time moment) (λ n. keep_attributes (record (attributes_in n) { mtime = moment }) n)) in
      omega (arith, changed, was, time)

  module _ (right : HasRightFiles tree) where
    write_blocks : (offset : ℕ) (bytes : List ℕ) (found : Option ℕ)
        → claimed_in_tree g (edited_all (on_found_inode found (λ i. rewriting tree i moment (λ file. written file offset bytes))) tree) + 0
        ≡ claimed_in_tree g tree + blocks_in (option_map_or (λ file. write_wants file offset (length bytes)) (option_and_then (file_in tree) found) nothing)
    write_blocks offset bytes None = refl
    write_blocks offset bytes (Some i) = by_file (file_in tree i) refl where
      by_file : (o : Option FileNode) → file_in tree i ≡ o
          → claimed_in_tree g (edited_all (option_map_or (λ file. SetFile i (written file offset bytes) ∷ (SetTime i moment ∷ [])) o []) tree) + 0
          ≡ claimed_in_tree g tree + blocks_in (option_map_or (λ file. write_wants file offset (length bytes)) o nothing)
      by_file None is = refl
      by_file (Some file) is =
          let there = file_there (tree i) file is in
          omega (arith, rewritten-blocks i file (written file offset bytes) there, claimed-written file offset bytes (right i file there))

    cut_blocks : (size : ℕ) (found : Option ℕ)
        → claimed_in_tree g (edited_all (on_found_inode found (λ i. rewriting tree i moment (λ file. cut_to file size))) tree)
        + option_map_or (λ file. blocks_cut file size) (option_and_then (file_in tree) found) 0
        ≡ claimed_in_tree g tree + 0
    cut_blocks size None = refl
    cut_blocks size (Some i) = by_file (file_in tree i) refl where
      by_file : (o : Option FileNode) → file_in tree i ≡ o
          → claimed_in_tree g (edited_all (option_map_or (λ file. SetFile i (cut_to file size) ∷ (SetTime i moment ∷ [])) o []) tree)
          + option_map_or (λ file. blocks_cut file size) o 0
          ≡ claimed_in_tree g tree + 0
      by_file None is = refl
      by_file (Some file) is = omega (arith, rewritten-blocks i file (cut_to file size) (file_there (tree i) file is), claimed-cut_to file size)

    abbrev Balanced : Call → WalkEnds → Type 0
    Balanced c ends = claimed_in_tree g (edited_all (edits_at g tree cred ino moment c ends) tree) + freed_blocks_at g tree c ends ≡ claimed_in_tree g tree + blocks_in (wants_at tree c ends)

    -- of a call that changes no bytes
    quiet_blocks : (c : Call) (ends : WalkEnds) → EndsIn tree ends → (makes_inode c ≡ true → IsUsable g tree ino) → decision_at g tree cred c ends ≡ Proceed → changes_bytes c ≡ false
        → freed_blocks_at g tree c ends ≡ option_map_or (claimed_at tree) (freed_at g tree c ends) 0 → Balanced c ends
    quiet_blocks c ends is usable go bytes uncut =
        omega (
          arith,
          accounts claimed_by keep_attributes keep_chunks g tree used cred ino moment (blocks_for_name tree) (enter_claims tree) c ends is usable bytes,
          spent-blocks c ends go bytes,
          uncut,
        )

    balance : (c : Call) (ends : WalkEnds) → EndsIn tree ends → (makes_inode c ≡ true → IsUsable g tree ino) → decision_at g tree cred c ends ≡ Proceed → Balanced c ends
    balance (call.Write path offset bytes) (One p) is usable go = write_blocks offset bytes p.found
    balance (call.Trunc path size) (One p) is usable go = cut_blocks size p.found
    balance (call.Write path offset bytes) ends is usable go = refl
    balance (call.Trunc path size) ends is usable go = refl
    balance c ends is usable go = quiet_blocks c ends is usable go refl refl

    module _ (c : Call) (usable : makes_inode c ≡ true → IsUsable g tree ino) where
      blocks_by : (ends : WalkEnds) → EndsIn tree ends → (d : Decision) → decision_at g tree cred c ends ≡ d
          → claimed_in_tree g (decided d tree (edited_all (edits_at g tree cred ino moment c ends) tree)) + decided d 0 (freed_blocks_at g tree c ends)
          ≡ claimed_in_tree g tree + blocks_in (decided d nothing (wants_at tree c ends))
      blocks_by ends is (Refuse why) go = refl
      blocks_by ends is Unchanged go = refl
      blocks_by ends is Proceed go = balance c ends is usable go

      walked_blocks : (ends : Result WalkEnds Refusal) → (let P : Type 0 = elim ends [ Ok e ↦ EndsIn tree e | Err why ↦ Unit {0} ] in P)
          → claimed_in_tree g (walked_tree g tree cred ino moment c ends) + walked_freed_blocks g tree cred c ends ≡ claimed_in_tree g tree + blocks_in (walked_wants g tree cred c ends)
      walked_blocks (Err why) is = refl
      walked_blocks (Ok ends) is = blocks_by ends is (decision_at g tree cred c ends) refl

      pub claimed_after : claimed_in_tree g (tree_after g tree cred ino moment c) + freed_blocks_of g tree cred c ≡ claimed_in_tree g tree + blocks_in (wanted_of g tree cred c)
      unfolding tree_after freed_blocks_of wanted_of
      claimed_after = walked_blocks (ends_of tree cred c) (ends_in tree cred c)

-- each inode in use counts one
abbrev one : Node → ℕ
one n = 1

abbrev one_if : Bool → ℕ
one_if b = cond b 1 0

used_is : (o : Option Node) → weight_in one o ≡ one_if (is_some o)
used_is None = refl
used_is (Some n) = refl

total-used : (g : Geometry) (tree : Tree) → total one g tree ≡ used_in_tree g tree
total-used g tree = λ t. sum_by (λ i. used_is (tree i) t) (range_with_len 0 (inodes_of g))

a_file_counts : (o : Option Node) (file : FileNode) → option_map_or file_of o None ≡ Some file → weight_in one o ≡ 1
a_file_counts None file is = absurd (let e : None ≡ Some file = is in cc)
a_file_counts (Some n) file is = refl

used_counts : (o : Option Node) → is_some o ≡ true → weight_in one o ≡ 1
used_counts None is = absurd (let e : false ≡ true = is in cc)
used_counts (Some n) is = refl

module _ (g : Geometry) (tree : Tree) (used : IsOfUsed g tree) (cred : Cred) (ino moment : ℕ) where
  abbrev spent_inodes : Call → WalkEnds → ℕ
  spent_inodes c ends = spent_at one (λ a n. refl) (λ f same n. refl) g tree used cred ino moment (λ dir name. 0) (λ dir name i d is. refl) c ends

  none_wanted : (found : Option ℕ) → option_map_or (λ i. 0) found 0 ≡ one_if false
  none_wanted None = refl
  none_wanted (Some i) = refl

  spent-inodes : (c : Call) (ends : WalkEnds) → changes_bytes c ≡ false → spent_inodes c ends ≡ one_if (wants_at tree c ends).inode
  spent-inodes (call.Create path mode) (One p) bytes = refl
  spent-inodes (call.Mkdir path mode) (One p) bytes = refl
  spent-inodes (call.Symlink text path) (One p) bytes = refl
  spent-inodes (call.Link old new) (Two p q) bytes = none_wanted p.found
  spent-inodes (call.Rename old new) (Two p q) bytes = by_names p.found q.found where
    by_names : (found replaced : Option ℕ) → option_map_or (λ i. option_map_or (λ r. 0) replaced 0) found 0 ≡ one_if (if is_some replaced then nothing else link_wants tree q).inode
    by_names None None = refl
    by_names None (Some r) = refl
    by_names (Some i) None = refl
    by_names (Some i) (Some r) = refl
  spent-inodes (call.Write path offset given) (One p) bytes = absurd (let e : true ≡ false = bytes in cc)
  spent-inodes c ends bytes = refl

  -- a name's inode is in use
  lost_counts : (p : WalkEnd) → IsIn tree p → (found : Option ℕ) → p.found ≡ found
      → option_map_or (λ i. weight_in one (tree i)) (option_and_then (lost_by g tree) found) 0 ≡ one_if (is_some (option_and_then (lost_by g tree) found))
  lost_counts p is None found = refl
  lost_counts p is (Some i) found = by_test (is_directory_in tree i || links_in g tree i == 1) where
    by_test : (b : Bool) → option_map_or (λ j. weight_in one (tree j)) (cond b (Some i) None) 0 ≡ one_if (is_some (cond b (Some i) None))
    by_test true = used_counts (tree i) (used.named p.dir p.name i (is.1 ∙ found))
    by_test false = refl

  gone-inodes : (c : Call) (ends : WalkEnds) → EndsIn tree ends → option_map_or (λ i. weight_in one (tree i)) (freed_at g tree c ends) 0 ≡ one_if (is_some (freed_at g tree c ends))
  gone-inodes (call.Remove path) (One p) is = lost_counts p is p.found refl
  gone-inodes (call.Rmdir path) (One p) is = lost_counts p is p.found refl
  gone-inodes (call.Rename old new) (Two p q) is = by_old p.found where
    by_old : (found : Option ℕ) → option_map_or (λ i. weight_in one (tree i)) (if is_some found then option_and_then (lost_by g tree) q.found else None) 0
        ≡ one_if (is_some (if is_some found then option_and_then (lost_by g tree) q.found else None))
    by_old None = refl
    by_old (Some i) = lost_counts q is.1 q.found refl
  gone-inodes c ends is = refl

  -- other bytes of a file leave it in use
  rewritten : (f : FileNode → FileNode) (found : Option ℕ) → total one g (edited_all (on_found_inode found (λ i. rewriting tree i moment f)) tree) ≡ total one g tree
  unfolding edited
  rewritten f None = refl
  rewritten f (Some i) = by_file (file_in tree i) refl where
    by_file : (o : Option FileNode) → file_in tree i ≡ o → total one g (edited_all (option_map_or (λ file. SetFile i (f file) ∷ (SetTime i moment ∷ [])) o []) tree) ≡ total one g tree
    by_file None is = refl
    by_file (Some file) is =
        let first : Tree = with_node tree i (Some (File (f file))) in
        let here : weight_in one (tree i) ≡ 1 = a_file_counts (tree i) file is in
        total-same one g (on_node i (with_time moment) first) tree (λ k.
        on_node-weight one first i (with_time moment) (λ n. refl) k
        ∙ elim (same_or_not k i) [
          | inl same ↦ ap (λ (j : ℕ). weight_in one (first j)) same ∙ ap (weight_in one) (with_node-here tree i (Some (File (f file)))) ∙ sym here ∙ sym (ap (λ (j : ℕ). weight_in one (tree j)) same)
          | inr apart ↦ ap (weight_in one) (with_node-other tree i k (Some (File (f file))) apart)
        ])

  wanted_by_write : (o : Option FileNode) (offset count : ℕ) → one_if (option_map_or (λ file. write_wants file offset count) o nothing).inode ≡ 0
  wanted_by_write None offset count = refl
  wanted_by_write (Some file) offset count = refl

  module _ (c : Call) (usable : makes_inode c ≡ true → IsUsable g tree ino) where
    abbrev Counts : WalkEnds → Type 0
    Counts ends = used_in_tree g (edited_all (edits_at g tree cred ino moment c ends) tree) + one_if (is_some (freed_at g tree c ends)) ≡ used_in_tree g tree + one_if (wants_at tree c ends).inode

    quiet_counts : changes_bytes c ≡ false → (ends : WalkEnds) → EndsIn tree ends → Counts ends
    quiet_counts bytes ends is =
        omega (
          arith,
          accounts one (λ a n. refl) (λ f same n. refl) g tree used cred ino moment (λ dir name. 0) (λ dir name i d there. refl) c ends is usable bytes,
          spent-inodes c ends bytes,
          gone-inodes c ends is,
          total-used g tree,
          total-used g (edited_all (edits_at g tree cred ino moment c ends) tree),
        )

    -- a call that writes bytes makes no inode and frees none
    rewriting_counts : (f : FileNode → FileNode) (found : Option ℕ) (wanted : Wanted) → one_if wanted.inode ≡ 0
        → used_in_tree g (edited_all (on_found_inode found (λ i. rewriting tree i moment f)) tree) + 0 ≡ used_in_tree g tree + one_if wanted.inode
    rewriting_counts f found wanted none =
        omega (arith, rewritten f found, total-used g tree, total-used g (edited_all (on_found_inode found (λ i. rewriting tree i moment f)) tree), none)

counts : (g : Geometry) (tree : Tree) (used : IsOfUsed g tree) (cred : Cred) (ino moment : ℕ) (c : Call) (usable : makes_inode c ≡ true → IsUsable g tree ino) (ends : WalkEnds) → EndsIn tree ends
    → Counts g tree used cred ino moment c usable ends
counts g tree used cred ino moment (call.Write path offset bytes) usable (One p) is =
    rewriting_counts g tree used cred ino moment (call.Write path offset bytes) usable (λ file. written file offset bytes) p.found
    (option_map_or (λ file. write_wants file offset (length bytes)) (file_found tree p) nothing) (wanted_by_write g tree used cred ino moment (file_found tree p) offset (length bytes))
counts g tree used cred ino moment (call.Trunc path size) usable (One p) is =
    rewriting_counts g tree used cred ino moment (call.Trunc path size) usable (λ file. cut_to file size) p.found nothing refl
counts g tree used cred ino moment (call.Write path offset bytes) usable ends is = refl
counts g tree used cred ino moment (call.Trunc path size) usable ends is = refl
counts g tree used cred ino moment c usable ends is = quiet_counts g tree used cred ino moment c usable refl ends is

module _ (g : Geometry) (tree : Tree) (used : IsOfUsed g tree) (cred : Cred) (ino moment : ℕ) (c : Call) (usable : makes_inode c ≡ true → IsUsable g tree ino) where
  inodes_by : (ends : WalkEnds) → EndsIn tree ends → (d : Decision)
      → used_in_tree g (decided d tree (edited_all (edits_at g tree cred ino moment c ends) tree)) + one_if (is_some (decided d None (freed_at g tree c ends)))
      ≡ used_in_tree g tree + one_if (decided d nothing (wants_at tree c ends)).inode
  inodes_by ends is (Refuse why) = refl
  inodes_by ends is Unchanged = refl
  inodes_by ends is Proceed = counts g tree used cred ino moment c usable ends is

  walked_inodes : (ends : Result WalkEnds Refusal) → (let P : Type 0 = elim ends [ Ok e ↦ EndsIn tree e | Err why ↦ Unit {0} ] in P)
      → used_in_tree g (walked_tree g tree cred ino moment c ends) + one_if (is_some (walked_freed g tree cred c ends)) ≡ used_in_tree g tree + one_if (walked_wants g tree cred c ends).inode
  walked_inodes (Err why) is = refl
  walked_inodes (Ok ends) is = inodes_by ends is (decision_at g tree cred c ends)

  pub used_after : used_in_tree g (tree_after g tree cred ino moment c) + one_if (is_some (freed_of g tree cred c)) ≡ used_in_tree g tree + one_if (wanted_of g tree cred c).inode
  unfolding tree_after freed_of wanted_of
  used_after = walked_inodes (ends_of tree cred c) (ends_in tree cred c)
