-- The draft of a `remove` has the tree after it.
use Rattle.std.proofs.Common.{◌≡◌, ◌≢◌, inl, inr, ℕ, ◌+◌, ◌==◌, Bool, true, false, ◌||◌, cond, List, [], ◌∷◌, Option, Some, None, IfSome, refl, sym, ap, ◌∙◌, subst, arith}
use Rattle.std.specs.List.{count_by}
use Rattle.std.specs.Option.{option_map, option_map_or}
use Rattle.std.proofs.lemmas.Bool.{cases_eq, eq-eqb, ne_eqb, true≢false}
use Rattle.lufs_base.specs.declared.geometry.Geometry.{Geometry}
use Rattle.volume_model.specs.declared.hand.Hand.{Hand}
use Rattle.volume_model.specs.declared.directory.Slot.{Slot}
use Rattle.volume_model.specs.Format.{Image}
use Rattle.volume_model.specs.Sound.{reading_of, used_at, Tree, with_node, tree_of}
use Rattle.tree_types.specs.declared.credentials.Cred.{Cred}
use Rattle.tree_types.specs.declared.call.Call.TheVariants.{Remove}
use Rattle.history_model.specs.Places.{directory_slots, is_directory_in, links_in, lookup}
use Rattle.history_model.specs.Walk.{WalkEnd}
use Rattle.history_model.specs.Ends.{One}
use Rattle.history_model.specs.Edits.{Drop, TakeOut, SetTime, edited, edited_all}
use Rattle.history_model.specs.Refusals.{Proceed, decision_at}
use Rattle.history_model.specs.Replies.{tree_after}
use Rattle.history_rules.proofs.AccountLaws.{IsIn}
use Rattle.history_rules.proofs.CarriedOutLaws.{remove_goes}
use Rattle.meta_store.specs.declared.change.Change.{Change}
use Rattle.meta_store.specs.Changing.{AllTold}
use Rattle.meta_store.specs.NoChange.{no_change}
use Rattle.meta_draft.specs.Drafted.{drafted_blocks}
use Rattle.draft_laws.specs.Drafts.{IsDraft, Draws, links_at}
use Rattle.dir_ops.specs.Edits.{DrawsTree}
use Rattle.file_map.specs.Dropped.{IsAsItWas}
use Rattle.plan_ends.specs.Planned.{MayPlan, IsDrawn}
use Rattle.plan_ends.proofs.LinksRemoved.{removed_links, plain_slots}
use Rattle.name_ops.specs.LostNames.{HasLinkLess}
use Rattle.name_ops.proofs.TakenOut.{right, ends, final, parted, drawn_after, its_tree, still, told_links}
use Rattle.name_ops.proofs.LostLinks.{one_less}

module _ (told : AllTold) (image : Image) (tree : Tree) (cred : Cred) (path : List ℕ) (ino moment : ℕ) (p : WalkEnd) (held after : List Hand) (hand : Hand) (i : ℕ)
    (may : MayPlan told image tree cred (Remove path) (One p) held hand after)
    (go : decision_at told.read.geometry tree cred (Remove path) (One p) ≡ Proceed) (found : p.found ≡ Some i) where
  abbrev g : Geometry
  g = told.read.geometry

  abbrev taken : ℕ → Bool
  taken = told.changing.is_taken

  abbrev last : Tree
  last = final told image tree cred (Remove path) p held after hand may i moment found

  -- what of it goes in any case
  abbrev before : Tree
  before = parted told image tree cred (Remove path) p held after hand may i moment found

  is_in : IsIn tree p
  is_in = ends told image tree cred (Remove path) p held after hand may

  looked_up : lookup tree p.dir p.name ≡ Some i
  looked_up = is_in.1 ∙ found

  plain : is_directory_in tree i ≡ false
  plain = (remove_goes g tree cred path p i found go).1.0

  apart : i ≢ p.dir
  apart same = true≢false (sym is_in.0 ∙ ap (is_directory_in tree) (sym same) ∙ plain)

  last_by : (b : Bool) → (is_directory_in tree i || links_in g tree i == 1) ≡ b → last ≡ edited_all (option_map_or (λ lost. Drop lost ∷ []) (cond b (Some i) None) []) before
  last_by b is = ap (λ (c : Bool). edited_all (option_map_or (λ lost. Drop lost ∷ []) (cond c (Some i) None) []) before) is

  links_by : (k : ℕ) → k ≢ 0 → links_in g last k + cond (i == k) 1 0 ≡ links_in g tree k
  links_by k real =
      let all = removed_links g tree p i moment k (right told image tree cred (Remove path) p held after hand may) is_in.0 looked_up apart real in
      let none = no_names (is_directory_in tree i || links_in g tree i == 1) in
      omega (arith, all, none)
    where
      no_names : (b : Bool) → option_map_or (λ lost. count_by (λ s. s.ino == k) (directory_slots tree lost)) (cond b (Some i) None) 0 ≡ 0
      no_names true = ap (count_by (λ (s : Slot). s.ino == k)) (plain_slots tree i plain)
      no_names false = refl

  own_links : i ≢ 0 → links_in g last i + 1 ≡ links_in g tree i
  own_links real =
      let all = links_by i real in
      let one : cond (i == i) 1 0 ≡ 1 = ap (λ (b : Bool). let n : ℕ = cond b 1 0 in n) (eq-eqb i i refl) in
      omega (arith, all, one)

  other_links : (k : ℕ) → k ≢ 0 → k ≢ i → links_in g last k ≡ links_in g tree k
  other_links k real other =
      let all = links_by k real in
      let none : cond (i == k) 1 0 ≡ 0 = ap (λ (b : Bool). let n : ℕ = cond b 1 0 in n) (ne_eqb i k (λ same. other (sym same))) in
      omega (arith, all, none)

  -- after the name went and the time was set
  module _ (one two three : Change) (out : DrawsTree g image taken no_change one p.dir (edited (TakeOut p.dir p.name)) held)
      (timed : DrawsTree g image taken one two p.dir (edited (SetTime p.dir moment)) held) where
    before_tree : tree_of g (drafted_blocks two image) ≡ before
    before_tree = its_tree told image tree cred (Remove path) p held after hand may i moment found one two out timed

    pub as_it_was : IsAsItWas g image two i
    as_it_was = still told image tree cred (Remove path) p held after hand may i moment found one two out timed apart

    links_then : (k : ℕ) → IfSome (links_at g (drafted_blocks two image) k) (λ links. links ≡ links_in g tree k)
    links_then = told_links told image tree cred (Remove path) p held after hand may i moment found one two out timed

    others_told : ((k : ℕ) → k ≢ i → used_at (reading_of g (drafted_blocks three image)) k ≡ used_at (reading_of g (drafted_blocks two image)) k)
        → (k : ℕ) → k ≢ 0 → k ≢ i → IfSome (links_at g (drafted_blocks three image) k) (λ links. links ≡ links_in g last k)
    others_told same k real other =
        subst (λ (n : ℕ). IfSome (links_at g (drafted_blocks three image) k) (λ links. links ≡ n)) (sym (other_links k real other))
        (subst (λ (o : Option ℕ). IfSome o (λ links. links ≡ links_in g tree k)) (sym (ap (option_map (λ u. u.inode.links)) (same k other))) (links_then k))

    drawn_last : IsDraft g image taken three held → tree_of g (drafted_blocks three image) ≡ last
        → ((k : ℕ) → k ≢ 0 → IfSome (links_at g (drafted_blocks three image) k) (λ links. links ≡ links_in g last k))
        → IsDrawn g image taken three (tree_after g tree cred ino moment (Remove path)) after
    drawn_last = drawn_after told image tree cred (Remove path) p held after hand may i moment found three ino go refl refl

    -- it was its last name
    pub dropped : links_in g tree i ≡ 1 → Draws g image taken two three i None None held → IsDrawn g image taken three (tree_after g tree cred ino moment (Remove path)) after
    unfolding edited
    dropped single gone =
        let lost : (is_directory_in tree i || links_in g tree i == 1) ≡ true = ap (λ (b : Bool). b || links_in g tree i == 1) plain ∙ eq-eqb (links_in g tree i) 1 single in
        drawn_last gone.draft (gone.tree ∙ ap (λ (t : Tree). with_node t i None) before_tree ∙ sym (last_by true lost)) (λ k real. elim (cases_eq k i) [
          | inl same ↦ subst (λ (o : Option ℕ). IfSome o (λ links. links ≡ links_in g last k)) (sym (ap (links_at g (drafted_blocks three image)) same ∙ gone.own_links)) tt
          | inr other ↦ others_told gone.others k real other
        ])

    -- it has others
    pub kept : links_in g tree i ≢ 1 → HasLinkLess g image taken two three i held → IsDrawn g image taken three (tree_after g tree cred ino moment (Remove path)) after
    kept more less =
        let stays : (is_directory_in tree i || links_in g tree i == 1) ≡ false = ap (λ (b : Bool). b || links_in g tree i == 1) plain ∙ ne_eqb (links_in g tree i) 1 more in
        drawn_last less.draft (less.tree ∙ before_tree ∙ sym (last_by false stays)) (λ k real. elim (cases_eq k i) [
          | inl same ↦
              subst (λ (n : ℕ). IfSome (links_at g (drafted_blocks three image) n) (λ links. links ≡ links_in g last n)) (sym same)
              (subst (λ (o : Option ℕ). IfSome o (λ links. links ≡ links_in g last i)) (sym less.own_links)
              (one_less (links_at g (drafted_blocks two image) i) (links_in g tree i) (links_in g last i) (own_links (λ zero_is. real (same ∙ zero_is))) (links_then i)))
          | inr other ↦ others_told less.others k real other
        ])
