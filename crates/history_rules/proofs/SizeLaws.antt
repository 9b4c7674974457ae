-- Sizes stay in their ranges under every call.
use Rattle.std.proofs.Common.{◌≡◌, ◌≢◌, ◌≤◌, ◌<◌, ℕ, ◌+◌, ◌==◌, Bool, true, false, not, ◌&&◌, cond, List, [], ◌∷◌, ◌++◌, length, Option, Some, None, Ok, Err, refl, sym, ap, subst, inl, inr, ◌∙◌, arith}
use Rattle.std.proofs.lemmas.Bool.{cases_eq, and_cases, leb-false, ltb-false}
use Rattle.std.proofs.Math.Nat.{max-le}
use Rattle.std.specs.Prelude.{is_some, nat_le, nat_lt}
use Rattle.std.specs.List.{list_any}
use Rattle.std.specs.Option.{option_map_or}
use Rattle.lufs_base.specs.declared.geometry.Geometry.{Geometry}
use Rattle.tree_types.specs.declared.credentials.Cred.{Cred}
use Rattle.tree_types.specs.declared.call.Call.{Call}
use Rattle.tree_types.specs.declared.call.Call.TheVariants as call
use Rattle.tree_types.specs.declared.reply.Refusal.TheVariants.{Denied, Isdir, Fbig, Nospace, Nametoolong}
use Rattle.volume_model.specs.declared.directory.Slot.{Slot}
use Rattle.volume_model.specs.Format.{room_in, with_ino, without_slot}
use Rattle.volume_model.specs.Sound.{Attributes, FileNode, DirectoryNode, Node, File, Directory, Link, Tree, with_node, dot_dot}
use Rattle.history_model.specs.Places.{attributes_in, chunks_in, chunks_of_node, file_in, file_of, is_directory_in, may}
use Rattle.history_model.specs.Walk.{WalkEnd, first_of}
use Rattle.history_model.specs.Ends.{WalkEnds, One, Two, is_long, unless_long, end_of, ends_of}
use Rattle.history_model.specs.Edits.{Edit, Make, Drop, Enter, TakeOut, Point, SetParent, SetAttributes, SetTime, SetFile, entered_in, taken_out_of, pointed_in, on_chunks, with_attributes, with_time, on_node, edited, edited_all}
use Rattle.history_model.specs.FileBytes.{greatest_size, written, cut_to}
use Rattle.history_model.specs.Wants.{write_wants, lacks}
use Rattle.history_model.specs.Refusals.{Decision, Refuse, Proceed, Rows, most_chunks, cannot_grow, on_found, on_file, decision_at}
use Rattle.history_model.specs.Effects.{making, naming, losing, lost_by, removing, renaming, following, changing, rewriting, on_found_inode, new_file, new_subdirectory, new_link, edits_at}
use Rattle.history_model.specs.Histories.{makes_inode, IsUsable}
use Rattle.history_model.specs.Replies.{tree_after}
use Rattle.history_model.specs.Ranges.{longest_text, IsSizeInRange, HasSizesInRange, HasText}
use Rattle.history_rules.proofs.NodeLaws.{with_node-here, with_node-other, on_node-is}
use Rattle.history_rules.proofs.TurnedRowLaws.{on_node-none}
use Rattle.history_rules.proofs.AccountLaws.{EndsIn, length-changed_in}
use Rattle.history_rules.proofs.FreeLaws.{length-entered_in}
use Rattle.history_rules.proofs.SlotRuleLaws.{one_if}
use Rattle.history_rules.proofs.MakeLaws.{directory_in}
use Rattle.history_rules.proofs.CarriedOutLaws.{after_holds, create_goes, symlink_goes, mkdir_goes, link_goes, rename_goes}

some_node : (a b : Node) → Some a ≡ Some b → a ≡ b
some_node a b is = cc

put_sized : (tree : Tree) (i : ℕ) (node : Node) → IsSizeInRange node → HasSizesInRange tree → HasSizesInRange (with_node tree i (Some node))
put_sized tree i node here sized k n is = elim (cases_eq k i) [
  | inl at ↦ subst IsSizeInRange (some_node node n (sym (ap (with_node tree i (Some node)) at ∙ with_node-here tree i (Some node)) ∙ is)) here
  | inr apart ↦ sized k n (sym (with_node-other tree i k (Some node) apart) ∙ is)
]

drop_sized : (tree : Tree) (i : ℕ) → HasSizesInRange tree → HasSizesInRange (with_node tree i None)
drop_sized tree i sized k n is = elim (cases_eq k i) [
  | inl at ↦ absurd (let e : None ≡ Some n = sym (ap (with_node tree i None) at ∙ with_node-here tree i None) ∙ is in cc)
  | inr apart ↦ sized k n (sym (with_node-other tree i k None apart) ∙ is)
]

on_sized : (tree : Tree) (i : ℕ) (f : Node → Node) → ((n : Node) → tree i ≡ Some n → IsSizeInRange n → IsSizeInRange (f n)) → HasSizesInRange tree → HasSizesInRange (on_node i f tree)
on_sized tree i f keeps sized = by_node (tree i) refl where
  by_node : (o : Option Node) → tree i ≡ o → HasSizesInRange (on_node i f tree)
  by_node None is = subst HasSizesInRange (sym (on_node-none tree i f is)) sized
  by_node (Some n) is = subst HasSizesInRange (sym (on_node-is tree i f n is)) (put_sized tree i (f n) (keeps n is (sized i n is)) sized)

chunks_sized : (f : List (List Slot) → List (List Slot)) → ((chunks : List (List Slot)) → length (f chunks) ≡ length chunks) → (n : Node) → IsSizeInRange n → IsSizeInRange (on_chunks f n)
chunks_sized f same (File file) sized = sized
chunks_sized f same (Directory directory) sized = let length_is = same directory.chunks in (omega (arith, sized.0), omega (arith, sized.1))
chunks_sized f same (Link link) sized = sized

attributes_sized : (a : Attributes) (n : Node) → IsSizeInRange n → IsSizeInRange (with_attributes a n)
attributes_sized a (File file) sized = sized
attributes_sized a (Directory directory) sized = sized
attributes_sized a (Link link) sized = sized

-- an edit that enters no name and puts no node
abbrev is_plain : Edit → Bool
is_plain (Make i node) = false
is_plain (Enter dir name i) = false
is_plain (SetFile i file) = false
is_plain other = true

plain_sized : (edit : Edit) → is_plain edit ≡ true → (tree : Tree) → HasSizesInRange tree → HasSizesInRange (edited edit tree)
unfolding edited
plain_sized (Make i node) is tree sized = absurd (let e : false ≡ true = is in cc)
plain_sized (Enter dir name i) is tree sized = absurd (let e : false ≡ true = is in cc)
plain_sized (SetFile i file) is tree sized = absurd (let e : false ≡ true = is in cc)
plain_sized (Drop i) is tree sized = drop_sized tree i sized
plain_sized (TakeOut dir name) is tree sized =
    on_sized tree dir (on_chunks (λ chunks. taken_out_of chunks name)) (λ n _. chunks_sized (λ chunks. taken_out_of chunks name) (λ chunks. length-changed_in without_slot chunks name) n) sized
plain_sized (Point dir name i) is tree sized =
    on_sized tree dir (on_chunks (λ chunks. pointed_in chunks name i)) (λ n _. chunks_sized (λ chunks. pointed_in chunks name i) (λ chunks. length-changed_in (λ slots place. with_ino slots place i) chunks name) n) sized
plain_sized (SetParent dir parent) is tree sized =
    on_sized tree dir (on_chunks (λ chunks. pointed_in chunks dot_dot parent))
    (λ n _. chunks_sized (λ chunks. pointed_in chunks dot_dot parent) (λ chunks. length-changed_in (λ slots place. with_ino slots place parent) chunks dot_dot) n) sized
plain_sized (SetAttributes i a) is tree sized = on_sized tree i (with_attributes a) (λ n _. attributes_sized a n) sized
plain_sized (SetTime i moment) is tree sized = on_sized tree i (with_time moment) (λ n _. attributes_sized (record (attributes_in n) { mtime = moment }) n) sized

abbrev are_plain : List Edit → Bool
are_plain [] = true
are_plain (edit ∷ edits) = is_plain edit && are_plain edits

both_true : (a b : Bool) → (a && b) ≡ true → (a ≡ true) × (b ≡ true)
both_true true b is = (refl, is)
both_true false b is = absurd (let e : false ≡ true = is in cc)

all_plain_sized : (edits : List Edit) → are_plain edits ≡ true → (tree : Tree) → HasSizesInRange tree → HasSizesInRange (edited_all edits tree)
all_plain_sized [] is tree sized = sized
all_plain_sized (edit ∷ edits) is tree sized = let both = both_true (is_plain edit) (are_plain edits) is in all_plain_sized edits both.1 (edited edit tree) (plain_sized edit both.0 tree sized)

-- a directory that has room or may have a chunk more takes a name
module _ (tree : Tree) (dir : ℕ) (name : List ℕ) (i : ℕ) (grows : cannot_grow tree dir name ≡ false) where
  abbrev full : List (List Slot) → Bool
  full chunks = not (list_any (λ chunk. is_some (room_in chunk name)) chunks)

  grown : (d : DirectoryNode) → tree dir ≡ Some (Directory d) → length d.chunks ≤ most_chunks → length (entered_in d.chunks name i) ≤ most_chunks
  grown d is few =
      let here : chunks_in tree dir ≡ d.chunks = ap (λ (o : Option Node). option_map_or (λ (n : Node). chunks_of_node n) o []) is in
      let longer = length-entered_in d.chunks name i in
      elim (and_cases (nat_le most_chunks (length (chunks_in tree dir))) (full (chunks_in tree dir)) grows) [
        | inl short ↦
            let less : length (chunks_in tree dir) < most_chunks = leb-false most_chunks (length (chunks_in tree dir)) short in
            let same = ap (λ (chunks : List (List Slot)). length chunks) here in
            omega (arith, longer, same, less, one_more (full d.chunks))
        | inr room ↦
            let none : one_if (full d.chunks) ≡ 0 = ap (λ (chunks : List (List Slot)). one_if (full chunks)) (sym here) ∙ ap one_if room in
            omega (arith, longer, none)
      ]
    where
      one_more : (b : Bool) → one_if b ≤ 1
      one_more true = omega arith
      one_more false = omega arith

  entered_sized : (other : Tree) → other dir ≡ tree dir → HasSizesInRange other → HasSizesInRange (edited (Enter dir name i) other)
  unfolding edited
  entered_sized other same sized = on_sized other dir (on_chunks (λ chunks. entered_in chunks name i)) (λ n is. by_node n (sym same ∙ is)) sized where
    by_node : (n : Node) → tree dir ≡ Some n → IsSizeInRange n → IsSizeInRange (on_chunks (λ chunks. entered_in chunks name i) n)
    by_node (File file) is here = here
    by_node (Directory d) is here = (omega (arith, length-entered_in d.chunks name i, here.0), grown d is here.1)
    by_node (Link link) is here = here

module _ (g : Geometry) (tree : Tree) (sized : HasSizesInRange tree) (cred : Cred) (ino moment : ℕ) where
  naming_sized : (p : WalkEnd) (i : ℕ) → cannot_grow tree p.dir p.name ≡ false → (other : Tree) → other p.dir ≡ tree p.dir → HasSizesInRange other → HasSizesInRange (edited_all (naming p i moment) other)
  naming_sized p i grows other same other_sized =
      plain_sized (SetTime p.dir moment) refl (edited (Enter p.dir p.name i) other) (entered_sized tree p.dir p.name i grows other same other_sized)

  making_sized : (p : WalkEnd) (node : Node) → IsSizeInRange node → is_directory_in tree p.dir ≡ true → tree ino ≡ None → cannot_grow tree p.dir p.name ≡ false → HasSizesInRange (edited_all (making p ino moment node) tree)
  unfolding edited
  making_sized p node here is free grows =
      let there = directory_in (tree p.dir) is in
      let apart : p.dir ≢ ino = λ same. (let e : Some (Directory there.0) ≡ None = sym there.1 ∙ ap tree same ∙ free in cc) in
      naming_sized p ino grows (with_node tree ino (Some node)) (with_node-other tree ino p.dir (Some node) apart) (put_sized tree ino node here sized)

  linked_sized : (old new : List ℕ) (p q : WalkEnd) (found : Option ℕ) → p.found ≡ found → decision_at g tree cred (call.Link old new) (Two p q) ≡ Proceed
      → HasSizesInRange (edited_all (on_found_inode found (λ i. naming q i moment)) tree)
  linked_sized old new p q None is go = sized
  linked_sized old new p q (Some i) is go = naming_sized q i (link_goes g tree cred old new p q i is go).1.1.1.1.0 tree refl sized

  losing_plain : (lost : Option ℕ) (more : List Edit) → are_plain more ≡ true → are_plain (option_map_or (λ i. Drop i ∷ []) lost [] ++ more) ≡ true
  losing_plain None more is = is
  losing_plain (Some i) more is = is

  removing_sized : (p : WalkEnd) (found : Option ℕ) → HasSizesInRange (edited_all (on_found_inode found (λ i. removing g tree p i moment)) tree)
  removing_sized p None = sized
  removing_sized p (Some i) = all_plain_sized (removing g tree p i moment) (alone (lost_by g tree i)) tree sized where
    alone : (lost : Option ℕ) → are_plain (option_map_or (λ k. Drop k ∷ []) lost []) ≡ true
    alone None = refl
    alone (Some k) = refl

  rest_plain : (b : Bool) (p q : WalkEnd) (i : ℕ) → are_plain (TakeOut p.dir p.name ∷ (cond b (SetParent i q.dir ∷ []) [] ++ (SetTime q.dir moment ∷ (SetTime p.dir moment ∷ [])))) ≡ true
  rest_plain true p q i = refl
  rest_plain false p q i = refl

  renaming_sized : (p q : WalkEnd) (i : ℕ) (found : Option ℕ) → (not (is_some found) && cannot_grow tree q.dir q.name) ≡ false
      → HasSizesInRange (edited_all (option_map_or (λ replaced. Point q.dir q.name i ∷ losing g tree replaced) found (Enter q.dir q.name i ∷ [])
      ++ (TakeOut p.dir p.name ∷ (following tree p q i ++ (SetTime q.dir moment ∷ (SetTime p.dir moment ∷ []))))) tree)
  renaming_sized p q i None grows =
      let rest = TakeOut p.dir p.name ∷ (following tree p q i ++ (SetTime q.dir moment ∷ (SetTime p.dir moment ∷ []))) in
      all_plain_sized rest (rest_plain (is_directory_in tree i && not (q.dir == p.dir)) p q i) (edited (Enter q.dir q.name i) tree) (entered_sized tree q.dir q.name i grows tree refl sized)
  renaming_sized p q i (Some r) grows =
      let rest = TakeOut p.dir p.name ∷ (following tree p q i ++ (SetTime q.dir moment ∷ (SetTime p.dir moment ∷ []))) in
      all_plain_sized (Point q.dir q.name i ∷ (losing g tree r ++ rest)) (losing_plain (lost_by g tree r) rest (rest_plain (is_directory_in tree i && not (q.dir == p.dir)) p q i)) tree sized

  renamed_sized : (old new : List ℕ) (p q : WalkEnd) (found : Option ℕ) → p.found ≡ found → decision_at g tree cred (call.Rename old new) (Two p q) ≡ Proceed
      → HasSizesInRange (edited_all (on_found_inode found (λ i. renaming g tree p q i moment)) tree)
  renamed_sized old new p q None is go = sized
  renamed_sized old new p q (Some i) is go = renaming_sized p q i q.found (rename_goes g tree cred old new p q i is go).1.1.1.1.1.1.1.0

  changing_sized : (f : Attributes → Attributes) (found : Option ℕ) → HasSizesInRange (edited_all (on_found_inode found (λ i. changing tree i f)) tree)
  changing_sized f None = sized
  changing_sized f (Some i) = by_node (tree i) where
    by_node : (o : Option Node) → HasSizesInRange (edited_all (option_map_or (λ node. SetAttributes i (f (attributes_in node)) ∷ []) o []) tree)
    by_node None = sized
    by_node (Some node) = plain_sized (SetAttributes i (f (attributes_in node))) refl tree sized

  file_there : (o : Option Node) (file : FileNode) → option_map_or file_of o None ≡ Some file → o ≡ Some (File file)
  file_there None file is = absurd (let e : None ≡ Some file = is in cc)
  file_there (Some (File other)) file is = let same : other ≡ file = cc in ap (λ (f : FileNode). Some (File f)) same
  file_there (Some (Directory directory)) file is = absurd (let e : None ≡ Some file = is in cc)
  file_there (Some (Link link)) file is = absurd (let e : None ≡ Some file = is in cc)

  -- a file that is written or cut, where the rows on it don't refuse
  rewriting_sized : (f : FileNode → FileNode) (found : Option ℕ)
      → ((i : ℕ) (file : FileNode) → found ≡ Some i → file_in tree i ≡ Some file → file.size ≤ greatest_size → (f file).size ≤ greatest_size)
      → HasSizesInRange (edited_all (on_found_inode found (λ i. rewriting tree i moment f)) tree)
  unfolding edited
  rewriting_sized f None fits = sized
  rewriting_sized f (Some i) fits = by_file (file_in tree i) refl where
    by_file : (o : Option FileNode) → file_in tree i ≡ o → HasSizesInRange (edited_all (option_map_or (λ file. SetFile i (f file) ∷ (SetTime i moment ∷ [])) o []) tree)
    by_file None is = sized
    by_file (Some file) is =
        plain_sized (SetTime i moment) refl (with_node tree i (Some (File (f file))))
        (put_sized tree i (File (f file)) (fits i file refl is (sized i (File file) (file_there (tree i) file is))) sized)

  -- the rows of a call on a file, of which this one is the third
  file_row : (right : ℕ) (found : Option ℕ) (i : ℕ) (file : FileNode) (row : FileNode → Bool) (more : FileNode → Rows) → found ≡ Some i → file_in tree i ≡ Some file
      → first_of (on_found found (λ k. on_file tree cred right k (λ f. (row f, Refuse Fbig) ∷ more f))) Proceed ≡ Proceed → row file ≡ false
  file_row right found i file row more is there go =
      let at : Option ℕ → Decision = λ o. first_of (on_found o (λ k. on_file tree cred right k (λ f. (row f, Refuse Fbig) ∷ more f))) Proceed in
      let on : Option FileNode → Decision = λ o.
      first_of ((not (may tree cred i right), Refuse Denied) ∷ ((is_directory_in tree i, Refuse Isdir) ∷ option_map_or (λ (f : FileNode). (row f, Refuse Fbig) ∷ more f) o [])) Proceed in
      by_tests (not (may tree cred i right)) (is_directory_in tree i) (row file) refl (sym (ap at is ∙ ap on there) ∙ go)
    where
      by_tests : (a b c : Bool) → row file ≡ c → cond a (Refuse Denied) (cond b (Refuse Isdir) (cond c (Refuse Fbig) (first_of (more file) Proceed))) ≡ Proceed → row file ≡ false
      by_tests true b c is_c go = absurd (let e : Refuse Denied ≡ Proceed = go in cc)
      by_tests false true c is_c go = absurd (let e : Refuse Isdir ≡ Proceed = go in cc)
      by_tests false false true is_c go = absurd (let e : Refuse Fbig ≡ Proceed = go in cc)
      by_tests false false false is_c go = is_c

  short_text : (text path : List ℕ) (ends : WalkEnds) → ends_of tree cred (call.Symlink text path) ≡ Ok ends → length text ≤ longest_text
  unfolding ends_of
  short_text text path ends walks = ltb-false longest_text (length text) (by_length (is_long text) refl walks) where
    by_length : (long : Bool) → is_long text ≡ long → unless_long long (end_of tree cred false path) ≡ Ok ends → is_long text ≡ false
    by_length true is walks = absurd (let e : Err Nametoolong ≡ Ok ends = walks in cc)
    by_length false is walks = is

  at_sized : (c : Call) (ends : WalkEnds) → HasText c → (makes_inode c ≡ true → IsUsable g tree ino) → EndsIn tree ends → ends_of tree cred c ≡ Ok ends → decision_at g tree cred c ends ≡ Proceed
      → HasSizesInRange (edited_all (edits_at g tree cred ino moment c ends) tree)
  unfolding decision_at
  at_sized (call.Create path mode) (One p) text usable is walks go = making_sized p (new_file cred mode moment) (omega arith) is.0 (usable refl).free (create_goes g tree cred path mode p go).1.1.0
  at_sized (call.Create path mode) ends text usable is walks go = sized
  at_sized (call.Mkdir path mode) (One p) text usable is walks go =
      making_sized p (new_subdirectory cred mode moment ino p.dir) (omega arith, omega arith) is.0 (usable refl).free (mkdir_goes g tree cred path mode p go).1.1.1.0
  at_sized (call.Mkdir path mode) ends text usable is walks go = sized
  at_sized (call.Symlink given path) (One p) text usable is walks go =
      making_sized p (new_link cred moment given) (text, short_text given path (One p) walks) is.0 (usable refl).free (symlink_goes g tree cred given path p go).1.1.0
  at_sized (call.Symlink given path) ends text usable is walks go = sized
  at_sized (call.Link old new) (Two p q) text usable is walks go = linked_sized old new p q p.found refl go
  at_sized (call.Link old new) ends text usable is walks go = sized
  at_sized (call.Rename old new) (Two p q) text usable is walks go = renamed_sized old new p q p.found refl go
  at_sized (call.Rename old new) ends text usable is walks go = sized
  at_sized (call.Remove path) (One p) text usable is walks go = removing_sized p p.found
  at_sized (call.Remove path) ends text usable is walks go = sized
  at_sized (call.Rmdir path) (One p) text usable is walks go = removing_sized p p.found
  at_sized (call.Rmdir path) ends text usable is walks go = sized
  at_sized (call.Chmod path mode) (One p) text usable is walks go = changing_sized (λ a. record a { rights = mode }) p.found
  at_sized (call.Chmod path mode) ends text usable is walks go = sized
  at_sized (call.Chown path uid gid) (One p) text usable is walks go = changing_sized (λ a. record a { uid = uid; gid = gid }) p.found
  at_sized (call.Chown path uid gid) ends text usable is walks go = sized
  at_sized (call.Write path offset bytes) (One p) text usable is walks go =
      rewriting_sized (λ file. written file offset bytes) p.found (λ i file found there fits.
      max-le fits (ltb-false greatest_size (offset + length bytes)
      (file_row 2 p.found i file (λ f. nat_lt greatest_size (offset + length bytes)) (λ f. (lacks g tree (write_wants f offset (length bytes)), Refuse Nospace) ∷ []) found there go)))
  at_sized (call.Write path offset bytes) ends text usable is walks go = sized
  at_sized (call.Trunc path size) (One p) text usable is walks go =
      rewriting_sized (λ file. cut_to file size) p.found (λ i file found there fits. ltb-false greatest_size size (file_row 2 p.found i file (λ f. nat_lt greatest_size size) (λ f. []) found there go))
  at_sized (call.Trunc path size) ends text usable is walks go = sized
  at_sized c ends text usable is walks go = sized

pub sizes_kept : (g : Geometry) (tree : Tree) (cred : Cred) (ino moment : ℕ) (c : Call) → (makes_inode c ≡ true → IsUsable g tree ino) → HasText c → HasSizesInRange tree
    → HasSizesInRange (tree_after g tree cred ino moment c)
sizes_kept g tree cred ino moment c usable text sized =
    after_holds HasSizesInRange g tree cred ino moment c sized (λ ends is walks go. at_sized g tree sized cred ino moment c ends text usable is walks go)
