-- What calls add to a sum over the inodes of a volume, and what they take from it.
use Rattle.std.proofs.Common.{◌≡◌, ◌≢◌, ◌<◌, ℕ, suc, ◌+◌, Bool, true, false, not, ◌&&◌, ◌||◌, cond, List, [], ◌∷◌, ◌++◌, length, Option, Some, None, Result, Ok, Err, refl, sym, ap, ◌∙◌, inl, inr, arith}
use Rattle.std.proofs.lemmas.Bool.Decides.{leb_tells}
use Rattle.std.specs.Prelude.{◌==◌, if◌then◌else◌, is_some, option_and_then}
use Rattle.std.specs.Option.{option_map_or}
use Rattle.lufs_base.specs.declared.geometry.Geometry.{Geometry}
use Rattle.tree_types.specs.declared.credentials.Cred.{Cred}
use Rattle.tree_types.specs.declared.call.Call.{Call}
use Rattle.tree_types.specs.declared.call.Call.TheVariants as call
use Rattle.tree_types.specs.declared.reply.Refusal.{Refusal}
use Rattle.volume_model.specs.declared.directory.Slot.{Slot}
use Rattle.volume_model.specs.Format.{inodes_of, found_at, with_ino, without_slot}
use Rattle.volume_model.specs.Sound.{Attributes, DirectoryNode, Node, Directory, Tree, with_node, dot_dot}
use Rattle.history_model.specs.Places.{attributes_in, is_directory_in, lookup}
use Rattle.history_model.specs.Walk.{WalkEnd, walk_of}
use Rattle.history_model.specs.Ends.{WalkEnds, NoPath, One, Two, is_long, and_then, unless_long, end_of, both_ends_of, ends_of}
use Rattle.history_model.specs.Edits.{Edit, Make, Drop, Enter, TakeOut, Point, SetParent, SetAttributes, SetTime, SetFile, entered_in, changed_in, taken_out_of, pointed_in, on_chunks, with_attributes, with_time, on_node, edited, edited_all}
use Rattle.history_model.specs.Effects.{naming, making, lost_by, losing, removing, renaming, changing, on_found_inode, edits_at, freed_at, new_file, new_subdirectory, new_link}
use Rattle.history_model.specs.Histories.{makes_inode, IsUsable}
use Rattle.history_rules.specs.Used.{IsOfUsed}
use Rattle.history_rules.proofs.WalkLaws.{walk_ends}
use Rattle.history_rules.proofs.NodeLaws.{with_node-here, with_node-other}
use Rattle.history_rules.proofs.MakeLaws.{directory_in}
use Rattle.history_rules.proofs.TotalLaws.{weight_in, total, same_or_not, total-same, total-with_node, on_node-weight, total-on_node}

-- the call changes the bytes or the size of a file
abbrev pub changes_bytes : Call → Bool
changes_bytes (call.Write path offset bytes) = true
changes_bytes (call.Trunc path size) = true
changes_bytes other = false

-- the walk ends in a directory, with what that names
abbrev pub IsIn : Tree → WalkEnd → Type 0
IsIn tree p = (is_directory_in tree p.dir ≡ true) × (lookup tree p.dir p.name ≡ p.found)

abbrev pub EndsIn : Tree → WalkEnds → Type 0
EndsIn tree NoPath = Unit {0}
EndsIn tree (One p) = IsIn tree p
EndsIn tree (Two p q) = IsIn tree p × IsIn tree q

module _ (tree : Tree) (cred : Cred) where
  abbrev IfEnds : Result WalkEnds Refusal → Type 0
  IfEnds r = elim r [ Ok ends ↦ EndsIn tree ends | Err why ↦ Unit {0} ]

  one_end : (long : Bool) (path : List ℕ) (follow : Bool) (walk : Result WalkEnd Refusal) → walk_of tree cred path follow ≡ walk → IfEnds (unless_long long (and_then walk (λ p. Ok (One p))))
  one_end true path follow walk is = tt
  one_end false path follow (Err why) is = tt
  one_end false path follow (Ok p) is = walk_ends tree cred path follow p is

  two_ends : (long : Bool) (old new : List ℕ) (walk other : Result WalkEnd Refusal) → walk_of tree cred old false ≡ walk → walk_of tree cred new false ≡ other
      → IfEnds (unless_long long (and_then walk (λ p. and_then other (λ q. Ok (Two p q)))))
  two_ends true old new walk other is also = tt
  two_ends false old new (Err why) other is also = tt
  two_ends false old new (Ok p) (Err why) is also = tt
  two_ends false old new (Ok p) (Ok q) is also = (walk_ends tree cred old false p is, walk_ends tree cred new false q also)

  at_one : (path : List ℕ) (follow : Bool) → IfEnds (end_of tree cred follow path)
  at_one path follow = one_end (is_long path) path follow (walk_of tree cred path follow) refl

  at_two : (old new : List ℕ) → IfEnds (both_ends_of tree cred old new)
  at_two old new = two_ends (is_long old || is_long new) old new (walk_of tree cred old false) (walk_of tree cred new false) refl refl

  after_text : (long : Bool) (path : List ℕ) → IfEnds (unless_long long (end_of tree cred false path))
  after_text true path = tt
  after_text false path = at_one path false

  pub ends_in : (c : Call) → IfEnds (ends_of tree cred c)
  unfolding ends_of
  ends_in (call.Create path mode) = at_one path false
  ends_in (call.Mkdir path mode) = at_one path false
  ends_in (call.Link old new) = at_two old new
  ends_in (call.Symlink text path) = after_text (is_long text) path
  ends_in (call.Rename old new) = at_two old new
  ends_in (call.Remove path) = at_one path false
  ends_in (call.Rmdir path) = at_one path false
  ends_in (call.Chmod path mode) = at_one path true
  ends_in (call.Chown path uid gid) = at_one path true
  ends_in (call.Write path offset bytes) = at_one path true
  ends_in (call.Trunc path size) = at_one path true
  ends_in (call.Fsync path) = at_one path true
  ends_in (call.Read path offset count) = at_one path true
  ends_in (call.Stat path) = at_one path true
  ends_in (call.Lstat path) = at_one path false
  ends_in (call.List path after) = at_one path true
  ends_in (call.Readlink path) = at_one path false
  ends_in call.Df = tt
  ends_in (call.Become uid gid) = tt

-- a change of a slot adds no chunk
pub length-changed_in : (f : List Slot → ℕ → List Slot) (chunks : List (List Slot)) (name : List ℕ) → length (changed_in f chunks name) ≡ length chunks
length-changed_in f [] name = refl
length-changed_in f (chunk ∷ chunks) name = by_place (found_at chunk name) (length-changed_in f chunks name) where
  by_place : (found : Option ℕ) → length (changed_in f chunks name) ≡ length chunks
      → length (let after : List (List Slot) = elim found [ Some place ↦ f chunk place ∷ chunks | None ↦ chunk ∷ changed_in f chunks name ] in after) ≡ length (chunk ∷ chunks)
  by_place None more = ap suc more
  by_place (Some place) more = refl

-- an edit that frees no inode, makes none, enters no name and changes no bytes
abbrev is_quiet : Edit → Bool
is_quiet (TakeOut dir name) = true
is_quiet (Point dir name i) = true
is_quiet (SetParent dir parent) = true
is_quiet (SetAttributes i a) = true
is_quiet (SetTime i moment) = true
is_quiet other = false

abbrev are_quiet : List Edit → Bool
are_quiet [] = true
are_quiet (edit ∷ edits) = is_quiet edit && are_quiet edits

both_true : (a b : Bool) → (a && b) ≡ true → (a ≡ true) × (b ≡ true)
both_true true b is = (refl, is)
both_true false b is = absurd (let e : false ≡ true = is in cc)

module _ (w : Node → ℕ)
    (keeps_attributes : (a : Attributes) (n : Node) → w (with_attributes a n) ≡ w n)
    (keeps_chunks : (f : List (List Slot) → List (List Slot)) → ((chunks : List (List Slot)) → length (f chunks) ≡ length chunks) → (n : Node) → w (on_chunks f n) ≡ w n) where
  quiet : (edit : Edit) → is_quiet edit ≡ true → (tree : Tree) (k : ℕ) → weight_in w (edited edit tree k) ≡ weight_in w (tree k)
  unfolding edited
  quiet (TakeOut dir name) is tree k = on_node-weight w tree dir (on_chunks (λ chunks. taken_out_of chunks name)) (keeps_chunks (λ chunks. taken_out_of chunks name) (λ chunks. length-changed_in without_slot chunks name)) k
  quiet (Point dir name i) is tree k =
      on_node-weight w tree dir (on_chunks (λ chunks. pointed_in chunks name i)) (keeps_chunks (λ chunks. pointed_in chunks name i) (λ chunks. length-changed_in (λ slots place. with_ino slots place i) chunks name)) k
  quiet (SetParent dir parent) is tree k =
      on_node-weight w tree dir (on_chunks (λ chunks. pointed_in chunks dot_dot parent)) (keeps_chunks (λ chunks. pointed_in chunks dot_dot parent) (λ chunks. length-changed_in (λ slots place. with_ino slots place parent) chunks dot_dot)) k
  quiet (SetAttributes i a) is tree k = on_node-weight w tree i (with_attributes a) (keeps_attributes a) k
  quiet (SetTime i moment) is tree k = on_node-weight w tree i (with_time moment) (λ n. keeps_attributes (record (attributes_in n) { mtime = moment }) n) k
  quiet (Make i node) is tree k = absurd (let e : false ≡ true = is in cc)
  quiet (Drop i) is tree k = absurd (let e : false ≡ true = is in cc)
  quiet (Enter dir name i) is tree k = absurd (let e : false ≡ true = is in cc)
  quiet (SetFile i file) is tree k = absurd (let e : false ≡ true = is in cc)

  quiet_all : (edits : List Edit) → are_quiet edits ≡ true → (tree : Tree) (k : ℕ) → weight_in w (edited_all edits tree k) ≡ weight_in w (tree k)
  quiet_all [] is tree k = refl
  quiet_all (edit ∷ edits) is tree k =
      let both = both_true (is_quiet edit) (are_quiet edits) is in
      quiet_all edits both.1 (edited edit tree) k ∙ quiet edit both.0 tree k

  edited-append : (edits more : List Edit) (tree : Tree) → edited_all (edits ++ more) tree ≡ edited_all more (edited_all edits tree)
  edited-append [] more tree = refl
  edited-append (edit ∷ edits) more tree = edited-append edits more (edited edit tree)

  module _ (g : Geometry) (tree : Tree) (used : IsOfUsed g tree) where
    abbrev Alike : Tree → Type 0
    Alike other = (k : ℕ) → weight_in w (other k) ≡ weight_in w (tree k)

    -- an inode in use is one of the volume's
    below : (i : ℕ) (n : Node) → tree i ≡ Some n → i < inodes_of g
    below i n is = elim (leb_tells (inodes_of g) i) [
      | inl (_, past) ↦ absurd (let none : None ≡ Some n = sym (used.within i past) ∙ is in cc)
      | inr (_, less) ↦ less
    ]

    -- an inode freed in a tree that weighs alike in each inode
    dropped : (other : Tree) → Alike other → (i : ℕ) → total w g (with_node other i None) + weight_in w (tree i) ≡ total w g tree
    dropped other alike i = elim (leb_tells (inodes_of g) i) [
      | inr (_, less) ↦ omega (arith, total-with_node w g other i None less, total-same w g other tree alike, alike i)
      | inl (_, past) ↦
          let none : weight_in w (tree i) ≡ 0 = ap (weight_in w) (used.within i past) in
          let same : (k : ℕ) → weight_in w (with_node other i None k) ≡ weight_in w (tree k) = λ k. elim (same_or_not k i) [
            | inl is ↦ ap (λ (j : ℕ). weight_in w (with_node other i None j)) is ∙ ap (weight_in w) (with_node-here other i None) ∙ sym none ∙ sym (ap (λ (j : ℕ). weight_in w (tree j)) is)
            | inr apart ↦ ap (weight_in w) (with_node-other other i k None apart) ∙ alike k
          ] in
          omega (arith, total-same w g (with_node other i None) tree same, none)
    ]

    -- what goes with its last name
    lost : (other : Tree) → Alike other → (found : Option ℕ) → total w g (edited_all (option_map_or (λ i. Drop i ∷ []) found []) other) + option_map_or (λ i. weight_in w (tree i)) found 0 ≡ total w g tree
    unfolding edited
    lost other alike None = omega (arith, total-same w g other tree alike)
    lost other alike (Some i) = dropped other alike i

    -- the total after a name was entered
    module _ (dir : ℕ) (name : List ℕ) (i moment gain : ℕ) (d : DirectoryNode) (there : tree dir ≡ Some (Directory d))
        (entered : w (on_chunks (λ chunks. entered_in chunks name i) (Directory d)) ≡ w (Directory d) + gain) where
      named_total : (other : Tree) → other dir ≡ Some (Directory d) → total w g (edited (SetTime dir moment) (edited (Enter dir name i) other)) ≡ total w g other + gain
      unfolding edited
      named_total other is =
          let entering : Node → Node = on_chunks (λ chunks. entered_in chunks name i) in
          let first = total-on_node w g other dir entering (Directory d) is (below dir (Directory d) there) in
          let time = total-same w g (on_node dir (with_time moment) (on_node dir entering other)) (on_node dir entering other)
          (on_node-weight w (on_node dir entering other) dir (with_time moment) (λ n. keeps_attributes (record (attributes_in n) { mtime = moment }) n)) in
          omega (arith, first, time, entered)

      made_total : (node : Node) → tree i ≡ None → i < inodes_of g → total w g (edited_all (Make i node ∷ (Enter dir name i ∷ (SetTime dir moment ∷ []))) tree) ≡ total w g tree + w node + gain
      unfolding edited
      made_total node free less =
          let apart : dir ≢ i = λ same. let e : Some (Directory d) ≡ None = sym there ∙ ap tree same ∙ free in cc in
          let first = total-with_node w g tree i (Some node) less in
          let none : weight_in w (tree i) ≡ 0 = ap (weight_in w) free in
          omega (arith, first, none, named_total (with_node tree i (Some node)) (with_node-other tree i dir (Some node) apart ∙ there))

    module _ (cred : Cred) (ino moment : ℕ) (gain : (dir : ℕ) (name : List ℕ) → ℕ)
        (entered : (dir : ℕ) (name : List ℕ) (i : ℕ) (d : DirectoryNode) → tree dir ≡ Some (Directory d) → w (on_chunks (λ chunks. entered_in chunks name i) (Directory d)) ≡ w (Directory d) + gain dir name) where
      -- what a call adds where its walks end so
      abbrev pub spent_at : Call → WalkEnds → ℕ
      spent_at (call.Create path mode) (One p) = w (new_file cred mode moment) + gain p.dir p.name
      spent_at (call.Mkdir path mode) (One p) = w (new_subdirectory cred mode moment ino p.dir) + gain p.dir p.name
      spent_at (call.Symlink text path) (One p) = w (new_link cred moment text) + gain p.dir p.name
      spent_at (call.Link old new) (Two p q) = option_map_or (λ i. gain q.dir q.name) p.found 0
      spent_at (call.Rename old new) (Two p q) = option_map_or (λ i. option_map_or (λ replaced. 0) q.found (gain q.dir q.name)) p.found 0
      spent_at c ends = 0

      abbrev pub gone_at : Call → WalkEnds → ℕ
      gone_at c ends = option_map_or (λ i. weight_in w (tree i)) (freed_at g tree c ends) 0

      abbrev pub Accounts : Call → WalkEnds → Type 0
      Accounts c ends = total w g (edited_all (edits_at g tree cred ino moment c ends) tree) + gone_at c ends ≡ total w g tree + spent_at c ends

      making_accounts : (p : WalkEnd) (node : Node) → is_directory_in tree p.dir ≡ true → tree ino ≡ None → ino < inodes_of g
          → total w g (edited_all (making p ino moment node) tree) + 0 ≡ total w g tree + (w node + gain p.dir p.name)
      making_accounts p node is free less =
          let there = directory_in (tree p.dir) is in
          omega (arith, made_total p.dir p.name ino moment (gain p.dir p.name) there.0 there.1 (entered p.dir p.name ino there.0 there.1) node free less)

      naming_accounts : (p : WalkEnd) (i : ℕ) → is_directory_in tree p.dir ≡ true → total w g (edited_all (naming p i moment) tree) ≡ total w g tree + gain p.dir p.name
      naming_accounts p i is =
          let there = directory_in (tree p.dir) is in
          named_total p.dir p.name i moment (gain p.dir p.name) there.0 there.1 (entered p.dir p.name i there.0 there.1) tree there.1

      linking : (q : WalkEnd) → is_directory_in tree q.dir ≡ true → (found : Option ℕ)
          → total w g (edited_all (on_found_inode found (λ i. naming q i moment)) tree) + 0 ≡ total w g tree + option_map_or (λ i. gain q.dir q.name) found 0
      linking q is None = refl
      linking q is (Some i) = omega (arith, naming_accounts q i is)

      lost_edits : (other : Tree) → Alike other → (i : ℕ) → total w g (edited_all (losing g tree i) other) + option_map_or (λ j. weight_in w (tree j)) (lost_by g tree i) 0 ≡ total w g tree
      lost_edits other alike i = lost other alike (lost_by g tree i)

      removing_accounts : (p : WalkEnd) (found : Option ℕ)
          → total w g (edited_all (on_found_inode found (λ i. removing g tree p i moment)) tree) + option_map_or (λ j. weight_in w (tree j)) (option_and_then (lost_by g tree) found) 0 ≡ total w g tree + 0
      removing_accounts p None = refl
      removing_accounts p (Some i) =
          let quieted = TakeOut p.dir p.name ∷ (SetTime p.dir moment ∷ []) in
          omega (arith, lost_edits (edited_all quieted tree) (quiet_all quieted refl tree) i)

      entering_accounts : (q : WalkEnd) (i : ℕ) → is_directory_in tree q.dir ≡ true → total w g (edited (Enter q.dir q.name i) tree) ≡ total w g tree + gain q.dir q.name
      unfolding edited
      entering_accounts q i is =
          let there = directory_in (tree q.dir) is in
          let first = total-on_node w g tree q.dir (on_chunks (λ chunks. entered_in chunks q.name i)) (Directory there.0) there.1 (below q.dir (Directory there.0) there.1) in
          omega (arith, first, entered q.dir q.name i there.0 there.1)

      abbrev taking_by : WalkEnd → (i : ℕ) → Option ℕ → List Edit
      taking_by q i found = option_map_or (λ replaced. Point q.dir q.name i ∷ losing g tree replaced) found (Enter q.dir q.name i ∷ [])

      taking_accounts : (q : WalkEnd) (i : ℕ) → is_directory_in tree q.dir ≡ true → (found : Option ℕ)
          → total w g (edited_all (taking_by q i found) tree) + option_map_or (λ j. weight_in w (tree j)) (option_and_then (lost_by g tree) found) 0
          ≡ total w g tree + option_map_or (λ replaced. 0) found (gain q.dir q.name)
      taking_accounts q i is None = omega (arith, entering_accounts q i is)
      taking_accounts q i is (Some replaced) =
          omega (arith, lost_edits (edited (Point q.dir q.name i) tree) (λ k. quiet (Point q.dir q.name i) refl tree k) replaced)

      rest_is_quiet : (b : Bool) (p q : WalkEnd) (i : ℕ) → are_quiet (TakeOut p.dir p.name ∷ (cond b (SetParent i q.dir ∷ []) [] ++ (SetTime q.dir moment ∷ (SetTime p.dir moment ∷ [])))) ≡ true
      rest_is_quiet true p q i = refl
      rest_is_quiet false p q i = refl

      renaming_accounts : (p q : WalkEnd) → is_directory_in tree q.dir ≡ true → (found : Option ℕ)
          → total w g (edited_all (on_found_inode found (λ i. renaming g tree p q i moment)) tree)
          + option_map_or (λ j. weight_in w (tree j)) (if is_some found then option_and_then (lost_by g tree) q.found else None) 0
          ≡ total w g tree + option_map_or (λ i. option_map_or (λ replaced. 0) q.found (gain q.dir q.name)) found 0
      renaming_accounts p q is None = refl
      renaming_accounts p q is (Some i) =
          let moves = is_directory_in tree i && not (q.dir == p.dir) in
          let rest = TakeOut p.dir p.name ∷ (cond moves (SetParent i q.dir ∷ []) [] ++ (SetTime q.dir moment ∷ (SetTime p.dir moment ∷ []))) in
          let taken = edited_all (taking_by q i q.found) tree in
          let split : total w g (edited_all (taking_by q i q.found ++ rest) tree) ≡ total w g (edited_all rest taken) = ap (total w g) (edited-append (taking_by q i q.found) rest tree) in
          let after : total w g (edited_all rest taken) ≡ total w g taken = total-same w g (edited_all rest taken) taken (quiet_all rest (rest_is_quiet moves p q i) taken) in
          omega (arith, split, after, taking_accounts q i is q.found)

      quiet_accounts : (edits : List Edit) → are_quiet edits ≡ true → total w g (edited_all edits tree) + 0 ≡ total w g tree + 0
      quiet_accounts edits are = omega (arith, total-same w g (edited_all edits tree) tree (quiet_all edits are tree))

      changing_is_quiet : (found : Option ℕ) (f : Attributes → Attributes) → are_quiet (on_found_inode found (λ i. changing tree i f)) ≡ true
      changing_is_quiet None f = refl
      changing_is_quiet (Some i) f = by_node (tree i) where
        by_node : (o : Option Node) → are_quiet (option_map_or (λ node. SetAttributes i (f (attributes_in node)) ∷ []) o []) ≡ true
        by_node None = refl
        by_node (Some node) = refl

      pub accounts : (c : Call) (ends : WalkEnds) → EndsIn tree ends → (makes_inode c ≡ true → IsUsable g tree ino) → changes_bytes c ≡ false → Accounts c ends
      accounts (call.Create path mode) (One p) is usable bytes = making_accounts p (new_file cred mode moment) is.0 (usable refl).free (usable refl).high
      accounts (call.Mkdir path mode) (One p) is usable bytes = making_accounts p (new_subdirectory cred mode moment ino p.dir) is.0 (usable refl).free (usable refl).high
      accounts (call.Symlink text path) (One p) is usable bytes = making_accounts p (new_link cred moment text) is.0 (usable refl).free (usable refl).high
      accounts (call.Link old new) (Two p q) (_, is) usable bytes = linking q is.0 p.found
      accounts (call.Rename old new) (Two p q) (_, is) usable bytes = renaming_accounts p q is.0 p.found
      accounts (call.Remove path) (One p) is usable bytes = removing_accounts p p.found
      accounts (call.Rmdir path) (One p) is usable bytes = removing_accounts p p.found
      accounts (call.Chmod path mode) (One p) is usable bytes = quiet_accounts (on_found_inode p.found (λ i. changing tree i (λ a. record a { rights = mode }))) (changing_is_quiet p.found (λ a. record a { rights = mode }))
      accounts (call.Chown path uid gid) (One p) is usable bytes =
          quiet_accounts (on_found_inode p.found (λ i. changing tree i (λ a. record a { uid = uid; gid = gid }))) (changing_is_quiet p.found (λ a. record a { uid = uid; gid = gid }))
      accounts (call.Write path offset given) (One p) is usable bytes = absurd (let e : true ≡ false = bytes in cc)
      accounts (call.Trunc path size) (One p) is usable bytes = absurd (let e : true ≡ false = bytes in cc)
      accounts c ends is usable bytes = refl
