-- The draft of a call that takes out a name: what it has once the name went and the time was set.
use Rattle.std.proofs.Common.{◌≡◌, ◌≢◌, ◌≤◌, ℕ, ◌*◌, Bool, false, List, [], ◌∷◌, length, Option, Some, None, Result, Ok, Err, IfSome, refl, sym, ap, ◌∙◌, subst, arith}
use Rattle.std.specs.Prelude.{is_some}
use Rattle.std.proofs.lemmas.Bool.{true≢false}
use Rattle.lufs_base.specs.Layout.{IsGeometry, blocks_of}
use Rattle.lufs_base.specs.declared.geometry.Geometry.{Geometry}
use Rattle.volume_model.specs.declared.hand.Hand.{Hand}
use Rattle.volume_model.specs.Format.{Image, Blocks, block, sectors_of}
use Rattle.volume_model.specs.Sound.{reading_of, used_at, held_inodes, IsStored, Tree, tree_of}
use Rattle.volume_laws.proofs.SoundParts.{in_parts}
use Rattle.tree_types.specs.declared.credentials.Cred.{Cred}
use Rattle.tree_types.specs.declared.call.Call.{Call}
use Rattle.tree_types.specs.declared.reply.Refusal.{Refusal}
use Rattle.history_model.specs.Places.{links_in}
use Rattle.history_model.specs.Walk.{WalkEnd}
use Rattle.history_model.specs.Ends.{WalkEnds, One, ends_of}
use Rattle.history_model.specs.Edits.{Edit, TakeOut, SetTime, edited, edited_all}
use Rattle.history_model.specs.Effects.{removing, on_found_inode, edits_at}
use Rattle.history_model.specs.Wants.{Wanted, nothing, wants_at}
use Rattle.history_model.specs.Refusals.{Proceed, decision_at}
use Rattle.history_model.specs.Replies.{tree_after}
use Rattle.history_model.specs.Right.{IsRightWithin}
use Rattle.history_rules.proofs.AccountLaws.{IsIn, EndsIn, ends_in}
use Rattle.change_laws.specs.Hands.{HoldTheSame}
use Rattle.change_laws.specs.Plans.{HoldMore}
use Rattle.meta_store.specs.declared.change.Change.{Change}
use Rattle.meta_store.specs.Changing.{AllTold}
use Rattle.meta_store.specs.NoChange.{no_change}
use Rattle.meta_draft.specs.Drafted.{drafted_blocks}
use Rattle.draft_laws.specs.Drafts.{IsDraft, links_at}
use Rattle.draft_laws.proofs.Ends.{draft_begun, nothing_drafted}
use Rattle.draft_laws.proofs.FreedInode.{hands_alike}
use Rattle.dir_ops.specs.Edits.{DrawsTree}
use Rattle.file_map.specs.Dropped.{IsAsItWas}
use Rattle.plan_ends.specs.Planned.{MayPlan, IsHandFor, IsDrawn}
use Rattle.plan_ends.proofs.TreeTold.{right_told, links_told, edits_of_call}

none_in : (o : Option ℕ) → is_some o ≡ false → o ≡ None
none_in None none = refl
none_in (Some i) none = absurd (true≢false none)

empty_list : (l : List ℕ) → length l ≡ 0 → l ≡ []
empty_list [] none = refl
empty_list (x ∷ l) none = absurd (omega (arith, none))

module _ (told : AllTold) (image : Image) (tree : Tree) (cred : Cred) (call : Call) (p : WalkEnd) (held after : List Hand) (hand : Hand)
    (may : MayPlan told image tree cred call (One p) held hand after) where
  abbrev g : Geometry
  g = told.read.geometry

  abbrev taken : ℕ → Bool
  taken = told.changing.is_taken

  stored : IsStored g (reading_of g (block image)) held
  stored = ((in_parts g (block image) held).0 may.stands.sound).0

  pub right : IsRightWithin g tree
  right = right_told g (block image) tree held may.stands

  pub ends : IsIn tree p
  ends = at may.walked
    where
      at : ends_of tree cred call ≡ Ok (One p) → EndsIn tree (One p)
      at is = subst (λ (r : Result WalkEnds Refusal). let P : Type 0 = elim r [ Ok e ↦ EndsIn tree e | Err why ↦ Unit {0} ] in P) is (ends_in tree cred call)

  pub begun : IsGeometry g → 8 * blocks_of g ≤ sectors_of image → IsDraft g image taken no_change held
  begun ok room = draft_begun g image taken held ok room stored

  -- the hand is empty
  same_hands : decision_at g tree cred call (One p) ≡ Proceed → wants_at tree call (One p) ≡ nothing → HoldTheSame held after
  same_hands go wants =
      let fits : IsHandFor nothing hand = subst (λ (w : Wanted). IsHandFor w hand) wants (may.wanted go) in
      let no_inode = subst (λ (o : Option ℕ). HoldMore held after (held_inodes (record { inode = o; blocks = hand.blocks } ∷ [])) hand.blocks) (none_in hand.inode fits.inode) may.spent in
      let none = subst (λ (l : List ℕ). HoldMore held after [] l) (empty_list hand.blocks fits.blocks) no_inode in
      record { blocks = λ n. none.blocks n; inodes = λ n. none.inodes n }

  module _ (i moment : ℕ) (found : p.found ≡ Some i) where
    abbrev pub final : Tree
    final = edited_all (removing g tree p i moment) tree

    -- what of it goes in any case
    abbrev pub parted : Tree
    parted = edited (SetTime p.dir moment) (edited (TakeOut p.dir p.name) tree)

    pub drawn_after : (change : Change) (ino : ℕ) → decision_at g tree cred call (One p) ≡ Proceed → wants_at tree call (One p) ≡ nothing
        → edits_at g tree cred ino moment call (One p) ≡ on_found_inode p.found (λ n. removing g tree p n moment)
        → IsDraft g image taken change held → tree_of g (drafted_blocks change image) ≡ final
        → ((k : ℕ) → k ≢ 0 → IfSome (links_at g (drafted_blocks change image) k) (λ links. links ≡ links_in g final k))
        → IsDrawn g image taken change (tree_after g tree cred ino moment call) after
    drawn_after change ino go wants edits draft draws links =
        let after_is : tree_after g tree cred ino moment call ≡ final =
        edits_of_call g tree cred ino moment call (One p) may.walked go ∙ ap (λ (list : List Edit). edited_all list tree) edits
        ∙ ap (λ (o : Option ℕ). edited_all (on_found_inode o (λ n. removing g tree p n moment)) tree) found in
        subst (λ (t : Tree). IsDrawn g image taken change t after) (sym after_is) (record {
          draft = hands_alike g image taken change held after (same_hands go wants) draft;
          draws = draws;
          links = links;
        })

    -- after the name went and the time was set
    module _ (one two : Change) (out : DrawsTree g image taken no_change one p.dir (edited (TakeOut p.dir p.name)) held)
        (timed : DrawsTree g image taken one two p.dir (edited (SetTime p.dir moment)) held) where
      pub its_tree : tree_of g (drafted_blocks two image) ≡ parted
      its_tree =
          timed.tree ∙ ap (edited (SetTime p.dir moment)) (out.tree ∙ ap (edited (TakeOut p.dir p.name)) (ap (tree_of g) (nothing_drafted image) ∙ may.stands.stands))

      pub still : i ≢ p.dir → IsAsItWas g image two i
      still apart = timed.others i apart ∙ out.others i apart ∙ ap (λ (b : Blocks). used_at (reading_of g b) i) (nothing_drafted image)

      links_still : (k : ℕ) → links_at g (drafted_blocks two image) k ≡ links_at g (block image) k
      links_still k = timed.links k ∙ out.links k ∙ ap (λ (b : Blocks). links_at g b k) (nothing_drafted image)

      pub told_links : (k : ℕ) → IfSome (links_at g (drafted_blocks two image) k) (λ links. links ≡ links_in g tree k)
      told_links k = subst (λ (o : Option ℕ). IfSome o (λ links. links ≡ links_in g tree k)) (sym (links_still k)) (links_told g (block image) tree held may.stands k)
