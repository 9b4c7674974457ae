-- What holds of the tree after a call, where it holds before it and wherever the call is carried out; and what no row then says.
use Rattle.std.proofs.Common.{◌≡◌, ℕ, ◌==◌, Bool, true, false, not, ◌&&◌, ◌||◌, cond, List, [], ◌∷◌, Option, Some, None, Result, Ok, Err, refl, sym, ap, ◌∙◌}
use Rattle.std.specs.Prelude.{is_some}
use Rattle.std.specs.List.{AllByRecursion}
use Rattle.std.specs.Option.{option_map_or}
use Rattle.lufs_base.specs.declared.geometry.Geometry.{Geometry}
use Rattle.tree_types.specs.declared.credentials.Cred.{Cred}
use Rattle.tree_types.specs.declared.call.Call.{Call}
use Rattle.tree_types.specs.declared.call.Call.TheVariants as call
use Rattle.tree_types.specs.declared.reply.Refusal.{Refusal}
use Rattle.tree_types.specs.declared.reply.Refusal.TheVariants.{Notdir, Denied, Exist, Isdir, Notempty, Inval, Mlink, Fbig, Noinodes, Nospace}
use Rattle.volume_model.specs.Format.{inodes_of}
use Rattle.volume_model.specs.Sound.{Tree}
use Rattle.history_model.specs.Places.{is_directory_in, is_dots, may}
use Rattle.history_model.specs.Walk.{WalkEnd, first_of}
use Rattle.history_model.specs.Ends.{WalkEnds, One, Two, ends_of}
use Rattle.history_model.specs.Edits.{edited_all}
use Rattle.history_model.specs.Wants.{create_wants, mkdir_wants, link_wants, symlink_wants, rename_wants, lacks}
use Rattle.history_model.specs.Refusals.{Decision, Refuse, Unchanged, Proceed, Rows, cannot_grow, has_no_inode, has_most_links, found_is, is_below, is_empty_in, decision_at}
use Rattle.history_model.specs.Effects.{edits_at}
use Rattle.history_model.specs.Replies.{decided, walked_tree, tree_after}
use Rattle.history_rules.proofs.AccountLaws.{EndsIn, ends_in}

module _ (P : Tree → Type 0) (g : Geometry) (tree : Tree) (cred : Cred) (ino moment : ℕ) (c : Call) (before : P tree)
    (at : (ends : WalkEnds) → EndsIn tree ends → ends_of tree cred c ≡ Ok ends → decision_at g tree cred c ends ≡ Proceed → P (edited_all (edits_at g tree cred ino moment c ends) tree)) where
  by_ends : (ends : Result WalkEnds Refusal) → (let Q : Type 0 = elim ends [ Ok e ↦ EndsIn tree e | Err why ↦ Unit {0} ] in Q) → ends_of tree cred c ≡ ends → P (walked_tree g tree cred ino moment c ends)
  by_ends (Err why) ends are = before
  by_ends (Ok e) ends are = by_decision (decision_at g tree cred c e) refl where
    by_decision : (d : Decision) → decision_at g tree cred c e ≡ d → P (decided d tree (edited_all (edits_at g tree cred ino moment c e) tree))
    by_decision (Refuse why) is = before
    by_decision Unchanged is = before
    by_decision Proceed is = at e ends are is

  pub after_holds : P (tree_after g tree cred ino moment c)
  unfolding tree_after
  after_holds = by_ends (ends_of tree cred c) (ends_in tree cred c) refl

-- rows of which each refuses or leaves things as they are
abbrev stopping : List (Bool × Option Refusal) → Rows
stopping [] = []
stopping (row ∷ rows) = (row.0, option_map_or (λ why. Refuse why) row.1 Unchanged) ∷ stopping rows

one_goes : (row : Bool × Option Refusal) (rows : List (Bool × Option Refusal)) → (first_of (stopping rows) Proceed ≡ Proceed → AllByRecursion (λ r. r.0 ≡ false) rows) → (b : Bool) → row.0 ≡ b
    → (why : Option Refusal) → cond b (option_map_or (λ w. Refuse w) why Unchanged) (first_of (stopping rows) Proceed) ≡ Proceed → AllByRecursion (λ r. r.0 ≡ false) (row ∷ rows)
one_goes row rows more true is None go = absurd (let e : Unchanged ≡ Proceed = go in cc)
one_goes row rows more true is (Some why) go = absurd (let e : Refuse why ≡ Proceed = go in cc)
one_goes row rows more false is why go = (is, more go)

-- where such rows let a call be carried out, none of them holds
rows_go : (rows : List (Bool × Option Refusal)) → first_of (stopping rows) Proceed ≡ Proceed → AllByRecursion (λ row. row.0 ≡ false) rows
rows_go [] go = tt
rows_go (row ∷ rows) go = one_goes row rows (rows_go rows) row.0 refl row.1 go

-- the rows of calls that give or move a name
module _ (g : Geometry) (tree : Tree) (cred : Cred) where
  abbrev pub create_rows : WalkEnd → List (Bool × Option Refusal)
  create_rows p =
      (not (may tree cred p.dir 2), Some Denied)
      ∷ ((is_some p.found, Some Exist)
      ∷ ((cannot_grow tree p.dir p.name, Some Fbig)
      ∷ ((has_no_inode g tree, Some Noinodes)
      ∷ ((lacks g tree (create_wants tree p), Some Nospace) ∷ []))))

  abbrev pub symlink_rows : WalkEnd → List (Bool × Option Refusal)
  symlink_rows p =
      (not (may tree cred p.dir 2), Some Denied)
      ∷ ((is_some p.found, Some Exist)
      ∷ ((cannot_grow tree p.dir p.name, Some Fbig)
      ∷ ((has_no_inode g tree, Some Noinodes)
      ∷ ((lacks g tree (symlink_wants tree p), Some Nospace) ∷ []))))

  abbrev pub mkdir_rows : WalkEnd → List (Bool × Option Refusal)
  mkdir_rows p =
      (not (may tree cred p.dir 2), Some Denied)
      ∷ ((is_some p.found, Some Exist)
      ∷ ((has_most_links g tree p.dir, Some Mlink)
      ∷ ((cannot_grow tree p.dir p.name, Some Fbig)
      ∷ ((has_no_inode g tree, Some Noinodes)
      ∷ ((lacks g tree (mkdir_wants tree p), Some Nospace) ∷ [])))))

  abbrev pub link_rows : (new : WalkEnd) (i : ℕ) → List (Bool × Option Refusal)
  link_rows new i =
      (not (may tree cred new.dir 2), Some Denied)
      ∷ ((is_some new.found, Some Exist)
      ∷ ((is_directory_in tree i, Some Isdir)
      ∷ ((has_most_links g tree i, Some Mlink)
      ∷ ((cannot_grow tree new.dir new.name, Some Fbig)
      ∷ ((lacks g tree (link_wants tree new), Some Nospace) ∷ [])))))

  abbrev pub rename_rows : (old new : WalkEnd) (i : ℕ) → List (Bool × Option Refusal)
  rename_rows old new i =
      (is_directory_in tree i && (is_some new.found && not (found_is (is_directory_in tree) new.found)), Some Notdir)
      ∷ ((not (may tree cred old.dir 2) || not (may tree cred new.dir 2), Some Denied)
      ∷ ((found_is (λ n. n == i) new.found && not (is_dots old.name || is_dots new.name), None)
      ∷ ((found_is (is_directory_in tree) new.found && not (is_directory_in tree i), Some Isdir)
      ∷ ((found_is (λ n. is_directory_in tree n && not (is_empty_in tree n)) new.found, Some Notempty)
      ∷ (((is_dots old.name || is_dots new.name) || is_below (inodes_of g) tree new.dir i, Some Inval)
      ∷ ((is_directory_in tree i && (not (is_some new.found) && (not (new.dir == old.dir) && has_most_links g tree new.dir)), Some Mlink)
      ∷ ((not (is_some new.found) && cannot_grow tree new.dir new.name, Some Fbig)
      ∷ ((lacks g tree (rename_wants tree new), Some Nospace) ∷ []))))))))

  abbrev NoneHolds : List (Bool × Option Refusal) → Type 0
  NoneHolds rows = AllByRecursion (λ row. row.0 ≡ false) rows

  pub create_goes : (path : List ℕ) (mode : ℕ) (p : WalkEnd) → decision_at g tree cred (call.Create path mode) (One p) ≡ Proceed → NoneHolds (create_rows p)
  unfolding decision_at
  create_goes path mode p go = rows_go (create_rows p) go

  pub symlink_goes : (text path : List ℕ) (p : WalkEnd) → decision_at g tree cred (call.Symlink text path) (One p) ≡ Proceed → NoneHolds (symlink_rows p)
  unfolding decision_at
  symlink_goes text path p go = rows_go (symlink_rows p) go

  pub mkdir_goes : (path : List ℕ) (mode : ℕ) (p : WalkEnd) → decision_at g tree cred (call.Mkdir path mode) (One p) ≡ Proceed → NoneHolds (mkdir_rows p)
  unfolding decision_at
  mkdir_goes path mode p go = rows_go (mkdir_rows p) go

  pub link_goes : (old new : List ℕ) (p q : WalkEnd) (i : ℕ) → p.found ≡ Some i → decision_at g tree cred (call.Link old new) (Two p q) ≡ Proceed → NoneHolds (link_rows q i)
  unfolding decision_at
  link_goes old new p q i is go = rows_go (link_rows q i) (sym (ap (λ (o : Option ℕ). decision_at g tree cred (call.Link old new) (Two (record p { found = o }) q)) is) ∙ go)

  pub rename_goes : (old new : List ℕ) (p q : WalkEnd) (i : ℕ) → p.found ≡ Some i → decision_at g tree cred (call.Rename old new) (Two p q) ≡ Proceed → NoneHolds (rename_rows p q i)
  unfolding decision_at
  rename_goes old new p q i is go = rows_go (rename_rows p q i) (sym (ap (λ (o : Option ℕ). decision_at g tree cred (call.Rename old new) (Two (record p { found = o }) q)) is) ∙ go)

  pub remove_goes : (path : List ℕ) (p : WalkEnd) (i : ℕ) → p.found ≡ Some i → decision_at g tree cred (call.Remove path) (One p) ≡ Proceed
      → NoneHolds ((not (may tree cred p.dir 2), Some Denied) ∷ ((is_directory_in tree i, Some Isdir) ∷ []))
  unfolding decision_at
  remove_goes path p i is go =
      rows_go ((not (may tree cred p.dir 2), Some Denied) ∷ ((is_directory_in tree i, Some Isdir) ∷ []))
      (sym (ap (λ (o : Option ℕ). decision_at g tree cred (call.Remove path) (One (record p { found = o }))) is) ∙ go)

  pub rmdir_goes : (path : List ℕ) (p : WalkEnd) (i : ℕ) → p.found ≡ Some i → decision_at g tree cred (call.Rmdir path) (One p) ≡ Proceed
      → NoneHolds ((not (is_directory_in tree i), Some Notdir) ∷ ((not (may tree cred p.dir 2), Some Denied) ∷ ((not (is_empty_in tree i), Some Notempty) ∷ ((is_dots p.name, Some Inval) ∷ []))))
  unfolding decision_at
  rmdir_goes path p i is go =
      rows_go ((not (is_directory_in tree i), Some Notdir) ∷ ((not (may tree cred p.dir 2), Some Denied) ∷ ((not (is_empty_in tree i), Some Notempty) ∷ ((is_dots p.name, Some Inval) ∷ []))))
      (sym (ap (λ (o : Option ℕ). decision_at g tree cred (call.Rmdir path) (One (record p { found = o }))) is) ∙ go)
