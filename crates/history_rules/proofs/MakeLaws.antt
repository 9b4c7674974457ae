-- What calls that make an inode leave of a tree.
use Rattle.std.proofs.Common.{◌≡◌, ◌≢◌, ◌≤◌, arith, ℕ, Bool, true, false, not, cond, List, [], ◌∷◌, Option, Some, None, Result, Ok, Err, refl, sym, ap, subst, ◌∙◌}
use Rattle.std.specs.Prelude.{is_some}
use Rattle.std.specs.List.{flat_map, AllByRecursion}
use Rattle.std.specs.Option.{option_map_or}
use Rattle.lufs_base.specs.declared.geometry.Geometry.{Geometry}
use Rattle.tree_types.specs.declared.credentials.Cred.{Cred}
use Rattle.tree_types.specs.declared.call.Call.{Call}
use Rattle.tree_types.specs.declared.call.Call.TheVariants as call
use Rattle.tree_types.specs.declared.reply.Refusal.{Refusal}
use Rattle.tree_types.specs.declared.reply.Refusal.TheVariants.{Denied, Exist, Mlink, Fbig, Noinodes, Nospace, Nametoolong}
use Rattle.tree_types.specs.declared.reply.Reply.TheVariants as reply
use Rattle.volume_model.specs.Sound.{DirectoryNode, Node, File, Directory, Link, Tree, with_node}
use Rattle.history_model.specs.Places.{lookup, slots_in_node, is_directory_node, may}
use Rattle.history_model.specs.Walk.{WalkEnd, first_of, walk_of}
use Rattle.history_model.specs.Ends.{WalkEnds, One, is_long, and_then, unless_long, end_of, ends_of}
use Rattle.history_model.specs.Edits.{Edit, edited, edited_all, entered_in, on_chunks, with_time, on_node}
use Rattle.history_model.specs.Wants.{create_wants, mkdir_wants, symlink_wants, lacks}
use Rattle.history_model.specs.Refusals.{Decision, Refuse, Proceed, Rows, cannot_grow, has_no_inode, has_most_links, refusals_at, decision_at}
use Rattle.history_model.specs.Effects.{made_node, making, new_file, new_subdirectory, new_link, edits_at}
use Rattle.history_model.specs.Histories.{makes_inode, IsUsable}
use Rattle.history_model.specs.Replies.{reply_at, decided_reply, walked_reply, reply_of, decided, walked_tree, tree_after}
use Rattle.history_rules.specs.Made.{HasMade}
use Rattle.history_rules.proofs.WalkLaws.{walk_ends}
use Rattle.history_rules.proofs.NameLaws.{named, in_named, in_others}
use Rattle.history_rules.proofs.NodeLaws.{with_node-here, with_node-other, on_node-here, on_node-other}

is_there : (o : Option Node) (n : Node) → o ≡ Some n → o ≡ None → ⊥
is_there o n some none = let e : Some n ≡ None = sym some ∙ none in cc

-- a directory stands there
pub directory_in : (o : Option Node) → option_map_or is_directory_node o false ≡ true → (d : DirectoryNode) × (o ≡ Some (Directory d))
directory_in None is = absurd (let e : false ≡ true = is in cc)
directory_in (Some (File file)) is = absurd (let e : false ≡ true = is in cc)
directory_in (Some (Directory d)) is = (d, refl)
directory_in (Some (Link link)) is = absurd (let e : false ≡ true = is in cc)

-- the three edits: the inode, its name, and the directory's time
module _ (tree : Tree) (p : WalkEnd) (ino moment : ℕ) (node : Node) (used : ino ≢ 0) (free : tree ino ≡ None)
    (d : DirectoryNode) (there : tree p.dir ≡ Some (Directory d)) (new : lookup tree p.dir p.name ≡ None) where
  abbrev first : Tree
  first = with_node tree ino (Some node)

  abbrev entering : Node → Node
  entering = on_chunks (λ chunks. entered_in chunks p.name ino)

  abbrev second : Tree
  second = on_node p.dir entering first

  abbrev third : Tree
  third = on_node p.dir (with_time moment) second

  apart : p.dir ≢ ino
  apart same = is_there (tree p.dir) (Directory d) there (ap tree same ∙ free)

  in_first : first p.dir ≡ Some (Directory d)
  in_first = with_node-other tree ino p.dir (Some node) apart ∙ there

  in_second : second p.dir ≡ Some (entering (Directory d))
  in_second = on_node-here first p.dir entering (Directory d) in_first

  in_third : third p.dir ≡ Some (with_time moment (entering (Directory d)))
  in_third = on_node-here second p.dir (with_time moment) (entering (Directory d)) in_second

  abbrev named_by : Option Node → List ℕ → Option ℕ
  named_by o name = named (option_map_or slots_in_node o []) name

  old_names : (name : List ℕ) → lookup tree p.dir name ≡ named (flat_map (λ chunk. chunk) d.chunks) name
  old_names name = ap (λ (o : Option Node). named_by o name) there

  new_names : (name : List ℕ) → lookup third p.dir name ≡ named (flat_map (λ chunk. chunk) (entered_in d.chunks p.name ino)) name
  new_names name = ap (λ (o : Option Node). named_by o name) in_third

  other_nodes : (i : ℕ) → i ≢ ino → i ≢ p.dir → third i ≡ tree i
  other_nodes i not_ino not_dir =
      on_node-other second p.dir i (with_time moment) not_dir ∙ on_node-other first p.dir i entering not_dir ∙ with_node-other tree ino i (Some node) not_ino

  made_here : third ino ≡ Some node
  made_here =
      on_node-other second p.dir ino (with_time moment) (λ e. apart (sym e))
      ∙ on_node-other first p.dir ino entering (λ e. apart (sym e))
      ∙ with_node-here tree ino (Some node)

  edits_make : HasMade tree (edited_all (making p ino moment node) tree) p ino (Some node)
  unfolding edited
  edits_make = record {
    named = new_names p.name ∙ in_named p.name ino used d.chunks (sym (old_names p.name) ∙ new);
    made = made_here;
    names = λ name other. new_names name ∙ in_others p.name ino used d.chunks name other ∙ sym (old_names name);
    nodes = other_nodes;
  }

-- rows that all refuse
abbrev pub refusing : List (Bool × Refusal) → Rows
refusing [] = []
refusing (row ∷ rows) = (row.0, Refuse row.1) ∷ refusing rows

-- where such rows let a call through, none of them holds
abbrev pub Pass : List (Bool × Refusal) → Type 0
Pass rows = decided_reply (first_of (refusing rows) Proceed) reply.Done ≡ reply.Done
    → (first_of (refusing rows) Proceed ≡ Proceed) × AllByRecursion (λ row. row.0 ≡ false) rows

row_passes : (row : Bool × Refusal) (rows : List (Bool × Refusal)) → Pass rows → (b : Bool) → row.0 ≡ b
    → decided_reply (cond b (Refuse row.1) (first_of (refusing rows) Proceed)) reply.Done ≡ reply.Done
    → (cond row.0 (Refuse row.1) (first_of (refusing rows) Proceed) ≡ Proceed) × AllByRecursion (λ r. r.0 ≡ false) (row ∷ rows)
row_passes row rows more true is refused = absurd (let e : reply.Refused row.1 ≡ reply.Done = refused in cc)
row_passes row rows more false is passed =
    let rest = more passed in
    (ap (λ (b : Bool). cond b (Refuse row.1) (first_of (refusing rows) Proceed)) is ∙ rest.0, (is, rest.1))

pub rows_pass : (rows : List (Bool × Refusal)) → Pass rows
rows_pass [] done = (refl, tt)
rows_pass (row ∷ rows) done = row_passes row rows (rows_pass rows) row.0 refl done

pub none_of : (o : Option ℕ) → is_some o ≡ false → o ≡ None
none_of None is = refl
none_of (Some i) is = absurd (let e : true ≡ false = is in cc)

module _ (g : Geometry) (tree : Tree) (cred : Cred) (ino moment : ℕ) (used : ino ≢ 0) (free : tree ino ≡ None) where
  abbrev Makes : Call → Result WalkEnds Refusal → Type 0
  Makes c ends = (p : WalkEnd) × (ends ≡ Ok (One p)) × HasMade tree (walked_tree g tree cred ino moment c ends) p ino (made_node cred ino moment c p)

  -- where the walk ended and the call is carried out
  carried_out : (c : Call) (path : List ℕ) (p : WalkEnd) (node : Node) → walk_of tree cred path false ≡ Ok p → is_some p.found ≡ false
      → decision_at g tree cred c (One p) ≡ Proceed → edits_at g tree cred ino moment c (One p) ≡ making p ino moment node → made_node cred ino moment c p ≡ Some node
      → Makes c (Ok (One p))
  carried_out c path p node walk none go edits made =
      let ends = walk_ends tree cred path false p walk in
      let there = directory_in (tree p.dir) ends.0 in
      let after = edits_make tree p ino moment node used free there.0 there.1 (ends.1 ∙ none_of p.found none) in
      let P : Decision → Type 0 = λ d. HasMade tree (decided d tree (edited_all (edits_at g tree cred ino moment c (One p)) tree)) p ino (made_node cred ino moment c p) in
      let Q : List Edit → Option Node → Type 0 = λ edits made. HasMade tree (edited_all edits tree) p ino made in
      let done : Q (edits_at g tree cred ino moment c (One p)) (made_node cred ino moment c p) = subst (λ (e : List Edit). Q e (made_node cred ino moment c p)) (sym edits) (subst (Q (making p ino moment node)) (sym made) after) in
      (p, refl, subst P (sym go) done)

  module _ (c : Call) (path : List ℕ) (node : WalkEnd → Node) (rows : WalkEnd → List (Bool × Refusal))
      (rows_are : (p : WalkEnd) → refusals_at g tree cred c (One p) ≡ refusing (rows p))
      (tells : (p : WalkEnd) → reply_at g tree c (One p) ≡ reply.Done)
      (absent : (p : WalkEnd) → AllByRecursion (λ row. row.0 ≡ false) (rows p) → is_some p.found ≡ false)
      (edits : (p : WalkEnd) → edits_at g tree cred ino moment c (One p) ≡ making p ino moment (node p))
      (made : (p : WalkEnd) → made_node cred ino moment c p ≡ Some (node p)) where
    decision_is : (p : WalkEnd) → decision_at g tree cred c (One p) ≡ first_of (refusing (rows p)) Proceed
    unfolding decision_at
    decision_is p = λ t. first_of (rows_are p t) Proceed

    by_walk : (walk : Result WalkEnd Refusal) → walk_of tree cred path false ≡ walk → walked_reply g tree cred c (and_then walk (λ p. Ok (One p))) ≡ reply.Done
        → Makes c (and_then walk (λ p. Ok (One p)))
    by_walk (Err why) is done = absurd (let e : reply.Refused why ≡ reply.Done = done in cc)
    by_walk (Ok p) is done =
        let same : decided_reply (decision_at g tree cred c (One p)) (reply_at g tree c (One p)) ≡ decided_reply (first_of (refusing (rows p)) Proceed) reply.Done =
        λ t. decided_reply (decision_is p t) (tells p t) in
        let pass = rows_pass (rows p) (sym same ∙ done) in
        carried_out c path p (node p) is (absent p pass.1) (decision_is p ∙ pass.0) (edits p) (made p)

    by_length : (long : Bool) → walked_reply g tree cred c (unless_long long (and_then (walk_of tree cred path false) (λ p. Ok (One p)))) ≡ reply.Done
        → Makes c (unless_long long (and_then (walk_of tree cred path false) (λ p. Ok (One p))))
    by_length true done = absurd (let e : reply.Refused Nametoolong ≡ reply.Done = done in cc)
    by_length false done = by_walk (walk_of tree cred path false) refl done

    -- with a text before the path
    by_text : (long : Bool) → walked_reply g tree cred c (unless_long long (end_of tree cred false path)) ≡ reply.Done → Makes c (unless_long long (end_of tree cred false path))
    by_text true done = absurd (let e : reply.Refused Nametoolong ≡ reply.Done = done in cc)
    by_text false done = by_length (is_long path) done

  pub makes : (c : Call) → makes_inode c ≡ true → reply_of g tree cred c ≡ reply.Done
      → (p : WalkEnd) × (ends_of tree cred c ≡ Ok (One p)) × HasMade tree (tree_after g tree cred ino moment c) p ino (made_node cred ino moment c p)
  unfolding reply_of tree_after ends_of
  makes (call.Create path mode) is done =
      by_length (call.Create path mode) path (λ p. new_file cred mode moment)
      (λ p. (not (may tree cred p.dir 2), Denied) ∷ ((is_some p.found, Exist) ∷ ((cannot_grow tree p.dir p.name, Fbig) ∷ ((has_no_inode g tree, Noinodes)
      ∷ ((lacks g tree (create_wants tree p), Nospace) ∷ [])))))
      (λ p. refl) (λ p. refl) (λ p none. none.1.0) (λ p. refl) (λ p. refl) (is_long path) done
  makes (call.Mkdir path mode) is done =
      by_length (call.Mkdir path mode) path (λ p. new_subdirectory cred mode moment ino p.dir)
      (λ p. (not (may tree cred p.dir 2), Denied) ∷ ((is_some p.found, Exist) ∷ ((has_most_links g tree p.dir, Mlink) ∷ ((cannot_grow tree p.dir p.name, Fbig) ∷ ((has_no_inode g tree, Noinodes)
      ∷ ((lacks g tree (mkdir_wants tree p), Nospace) ∷ []))))))
      (λ p. refl) (λ p. refl) (λ p none. none.1.0) (λ p. refl) (λ p. refl) (is_long path) done
  makes (call.Symlink text path) is done =
      by_text (call.Symlink text path) path (λ p. new_link cred moment text)
      (λ p. (not (may tree cred p.dir 2), Denied) ∷ ((is_some p.found, Exist) ∷ ((cannot_grow tree p.dir p.name, Fbig) ∷ ((has_no_inode g tree, Noinodes)
      ∷ ((lacks g tree (symlink_wants tree p), Nospace) ∷ [])))))
      (λ p. refl) (λ p. refl) (λ p none. none.1.0) (λ p. refl) (λ p. refl) (is_long text) done
  makes c is done = absurd (let e : false ≡ true = is in cc)

pub makes_usable : (g : Geometry) (tree : Tree) (cred : Cred) (ino moment : ℕ) (c : Call) → makes_inode c ≡ true → IsUsable g tree ino → reply_of g tree cred c ≡ reply.Done
    → (p : WalkEnd) × (ends_of tree cred c ≡ Ok (One p)) × HasMade tree (tree_after g tree cred ino moment c) p ino (made_node cred ino moment c p)
makes_usable g tree cred ino moment c is usable done =
    let low : 2 ≤ ino = usable.low in
    makes g tree cred ino moment (λ zero_is. let bad : 2 ≤ 0 = subst (λ (n : ℕ). 2 ≤ n) zero_is low in omega arith) usable.free c is done
