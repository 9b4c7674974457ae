-- The draft of an `rmdir` has the tree after it.
use Rattle.std.proofs.Common.{◌≡◌, ◌≢◌, inl, inr, ℕ, ◌+◌, ◌==◌, Bool, true, false, ◌||◌, cond, List, [], ◌∷◌, Option, Some, None, IfSome, refl, sym, ap, ◌∙◌, subst, arith}
use Rattle.std.specs.List.{count_by}
use Rattle.std.specs.Option.{option_map, option_map_or}
use Rattle.std.proofs.lemmas.Bool.{cases_eq, eq-eqb, ne_eqb, not-false}
use Rattle.lufs_base.specs.declared.geometry.Geometry.{Geometry}
use Rattle.volume_model.specs.declared.hand.Hand.{Hand}
use Rattle.volume_model.specs.Format.{Image}
use Rattle.volume_model.specs.Sound.{Tree, with_node}
use Rattle.tree_types.specs.declared.credentials.Cred.{Cred}
use Rattle.tree_types.specs.declared.call.Call.TheVariants.{Rmdir}
use Rattle.history_model.specs.Places.{directory_slots, is_directory_in, is_dots, links_in, lookup}
use Rattle.history_model.specs.Walk.{WalkEnd}
use Rattle.history_model.specs.Ends.{One}
use Rattle.history_model.specs.Edits.{Drop, TakeOut, SetTime, edited, edited_all}
use Rattle.history_model.specs.Refusals.{Proceed, is_empty_in, decision_at}
use Rattle.history_model.specs.Replies.{tree_after}
use Rattle.history_rules.proofs.AccountLaws.{IsIn}
use Rattle.history_rules.proofs.CarriedOutLaws.{rmdir_goes}
use Rattle.meta_store.specs.declared.change.Change.{Change}
use Rattle.meta_store.specs.Changing.{AllTold}
use Rattle.meta_store.specs.NoChange.{no_change}
use Rattle.meta_draft.specs.Drafted.{drafted_blocks}
use Rattle.draft_laws.specs.Drafts.{Draws, links_at}
use Rattle.dir_ops.specs.Edits.{DrawsTree}
use Rattle.file_map.specs.Dropped.{IsAsItWas}
use Rattle.plan_ends.specs.Planned.{MayPlan, IsDrawn}
use Rattle.plan_ends.proofs.LinksRemoved.{removed_links}
use Rattle.name_ops.specs.LostNames.{HasLinkLess}
use Rattle.name_ops.proofs.EmptyDirectories as empty_directories
use Rattle.name_ops.proofs.TakenOut.{right, ends, final, parted, drawn_after, its_tree, still, told_links}
use Rattle.name_ops.proofs.LostLinks.{one_less}

module _ (told : AllTold) (image : Image) (tree : Tree) (cred : Cred) (path : List ℕ) (ino moment : ℕ) (p : WalkEnd) (held after : List Hand) (hand : Hand) (i : ℕ)
    (may : MayPlan told image tree cred (Rmdir path) (One p) held hand after)
    (go : decision_at told.read.geometry tree cred (Rmdir path) (One p) ≡ Proceed) (found : p.found ≡ Some i) where
  abbrev g : Geometry
  g = told.read.geometry

  abbrev taken : ℕ → Bool
  taken = told.changing.is_taken

  abbrev last : Tree
  last = final told image tree cred (Rmdir path) p held after hand may i moment found

  abbrev before : Tree
  before = parted told image tree cred (Rmdir path) p held after hand may i moment found

  is_in : IsIn tree p
  is_in = ends told image tree cred (Rmdir path) p held after hand may

  looked_up : lookup tree p.dir p.name ≡ Some i
  looked_up = is_in.1 ∙ found

  rows : (is_directory_in tree i ≡ true) × (is_empty_in tree i ≡ true) × (is_dots p.name ≡ false)
  rows = let none = rmdir_goes g tree cred path p i found go in (not-false (is_directory_in tree i) none.0, not-false (is_empty_in tree i) none.1.1.0, none.1.1.1.0)

  pub apart : i ≢ p.dir
  apart = empty_directories.apart g tree (right told image tree cred (Rmdir path) p held after hand may) p.dir i p.name is_in.0 looked_up rows.0 rows.1 rows.2

  names_above : (k : ℕ) → k ≢ 0 → i ≢ k → count_by (λ s. s.ino == k) (directory_slots tree i) ≡ cond (p.dir == k) 1 0
  names_above = empty_directories.names_above g tree (right told image tree cred (Rmdir path) p held after hand may) p.dir i p.name is_in.0 looked_up rows.0 rows.1 rows.2

  lost : (is_directory_in tree i || links_in g tree i == 1) ≡ true
  lost = ap (λ (b : Bool). b || links_in g tree i == 1) rows.0

  last_is : last ≡ with_node before i None
  unfolding edited
  last_is = ap (λ (b : Bool). edited_all (option_map_or (λ lost. Drop lost ∷ []) (cond b (Some i) None) []) before) lost

  -- the one above it has a link less, and any other inode has as many as before
  links_left : (k : ℕ) → k ≢ 0 → k ≢ i → links_in g last k + cond (p.dir == k) 1 0 ≡ links_in g tree k
  links_left k real other =
      let all = removed_links g tree p i moment k (right told image tree cred (Rmdir path) p held after hand may) is_in.0 looked_up apart real in
      let none : cond (i == k) 1 0 ≡ 0 = ap (λ (b : Bool). let n : ℕ = cond b 1 0 in n) (ne_eqb i k (λ same. other (sym same))) in
      let names : option_map_or (λ gone. count_by (λ s. s.ino == k) (directory_slots tree gone)) (cond (is_directory_in tree i || links_in g tree i == 1) (Some i) None) 0 ≡ cond (p.dir == k) 1 0 =
      ap (λ (b : Bool). option_map_or (λ gone. count_by (λ s. s.ino == k) (directory_slots tree gone)) (cond b (Some i) None) 0) lost ∙ names_above k real (λ same. other (sym same)) in
      omega (arith, all, none, names)

  above_links : p.dir ≢ 0 → links_in g last p.dir + 1 ≡ links_in g tree p.dir
  above_links real =
      let left = links_left p.dir real (λ same. apart (sym same)) in
      let one : cond (p.dir == p.dir) 1 0 ≡ 1 = ap (λ (b : Bool). let n : ℕ = cond b 1 0 in n) (eq-eqb p.dir p.dir refl) in
      omega (arith, left, one)

  other_links : (k : ℕ) → k ≢ 0 → k ≢ i → k ≢ p.dir → links_in g last k ≡ links_in g tree k
  other_links k real other not_above =
      let left = links_left k real other in
      let none : cond (p.dir == k) 1 0 ≡ 0 = ap (λ (b : Bool). let n : ℕ = cond b 1 0 in n) (ne_eqb p.dir k (λ same. not_above (sym same))) in
      omega (arith, left, none)

  -- after the name went and the time was set, and the one above it lost a link
  module _ (one two three : Change) (out : DrawsTree g image taken no_change one p.dir (edited (TakeOut p.dir p.name)) held)
      (timed : DrawsTree g image taken one two p.dir (edited (SetTime p.dir moment)) held) (less : HasLinkLess g image taken two three p.dir held) where
    pub as_it_was : IsAsItWas g image three i
    as_it_was = less.others i apart ∙ still told image tree cred (Rmdir path) p held after hand may i moment found one two out timed apart

    links_then : (k : ℕ) → IfSome (links_at g (drafted_blocks two image) k) (λ links. links ≡ links_in g tree k)
    links_then = told_links told image tree cred (Rmdir path) p held after hand may i moment found one two out timed

    links_now : (k : ℕ) → k ≢ 0 → k ≢ i → IfSome (links_at g (drafted_blocks three image) k) (λ links. links ≡ links_in g last k)
    links_now k real other = elim (cases_eq k p.dir) [
      | inl same ↦
          subst (λ (n : ℕ). IfSome (links_at g (drafted_blocks three image) n) (λ links. links ≡ links_in g last n)) (sym same)
          (subst (λ (o : Option ℕ). IfSome o (λ links. links ≡ links_in g last p.dir)) (sym less.own_links)
          (one_less (links_at g (drafted_blocks two image) p.dir) (links_in g tree p.dir) (links_in g last p.dir) (above_links (λ zero_is. real (same ∙ zero_is))) (links_then p.dir)))
      | inr not_above ↦
          subst (λ (n : ℕ). IfSome (links_at g (drafted_blocks three image) k) (λ links. links ≡ n)) (sym (other_links k real other not_above))
          (subst (λ (o : Option ℕ). IfSome o (λ links. links ≡ links_in g tree k)) (sym (ap (option_map (λ u. u.inode.links)) (less.others k not_above))) (links_then k))
    ]

    pub emptied : (four : Change) → Draws g image taken three four i None None held → IsDrawn g image taken four (tree_after g tree cred ino moment (Rmdir path)) after
    emptied four gone =
        drawn_after told image tree cred (Rmdir path) p held after hand may i moment found four ino go refl refl gone.draft
        (gone.tree ∙ ap (λ (t : Tree). with_node t i None) (less.tree ∙ its_tree told image tree cred (Rmdir path) p held after hand may i moment found one two out timed) ∙ sym last_is)
        (λ k real. elim (cases_eq k i) [
          | inl same ↦ subst (λ (o : Option ℕ). IfSome o (λ links. links ≡ links_in g last k)) (sym (ap (links_at g (drafted_blocks four image)) same ∙ gone.own_links)) tt
          | inr other ↦ subst (λ (o : Option ℕ). IfSome o (λ links. links ≡ links_in g last k)) (sym (ap (option_map (λ u. u.inode.links)) (gone.others k other))) (links_now k real other)
        ])
