-- What a content says that stands for a tree, and a draft whose tree is that after a call.
use Rattle.std.proofs.Common.{◌≡◌, ◌≢◌, ◌<◌, ◌≤◌, ℕ, Bool, true, false, List, Option, Some, None, Result, Ok, IfSome, refl, sym, ap, ◌∙◌, subst, inl, inr, arith}
use Rattle.std.specs.Prelude.{is_some, option_and_then, nat_lt}
use Rattle.std.specs.Option.{option_map}
use Rattle.std.specs.List.{slice_get}
use Rattle.std.proofs.lemmas.Bool.{cases_lt, cases_eq, true≢false, ltb-false}
use Rattle.lufs_base.specs.declared.geometry.Geometry.{Geometry}
use Rattle.volume_model.specs.declared.hand.Hand.{Hand}
use Rattle.volume_model.specs.Format.{Image, Blocks, block, inodes_of}
use Rattle.volume_model.specs.Sound.{UsedInode, InodeState, NoRecord, Unused, InUse, Reading, reading_of, inodes_in, used_of, used_at, is_bad_state, Node, node_of, names_in_tree, links_to, IsStored, IsRightTree, HasRightLinks, Tree, tree_of, StandsFor}
use Rattle.volume_laws.proofs.ClaimFacts.{length-inodes, used_within}
use Rattle.volume_laws.proofs.SoundParts.{in_parts}
use Rattle.tree_types.specs.declared.credentials.Cred.{Cred}
use Rattle.tree_types.specs.declared.call.Call.{Call}
use Rattle.tree_types.specs.declared.reply.Refusal.{Refusal}
use Rattle.history_model.specs.Places.{links_in}
use Rattle.history_model.specs.Ends.{WalkEnds, ends_of}
use Rattle.history_model.specs.Edits.{edited_all}
use Rattle.history_model.specs.Effects.{edits_at}
use Rattle.history_model.specs.Refusals.{Decision, Proceed, decision_at}
use Rattle.history_model.specs.Replies.{decided, walked_tree, tree_after}
use Rattle.history_model.specs.Histories.{makes_inode, IsUsable}
use Rattle.history_model.specs.Right.{IsRightWithin}
use Rattle.history_model.specs.Ranges.{HasLinksInRange}
use Rattle.history_rules.proofs.AfterRightLaws.{right_after}
use Rattle.history_rules.proofs.LinkRangeLaws.{links-counted, links_kept}
use Rattle.meta_store.specs.declared.change.Change.{Change}
use Rattle.meta_draft.specs.Drafted.{drafted_blocks}
use Rattle.draft_laws.specs.Drafts.{links_at}
use Rattle.plan_ends.specs.Planned.{IsDrawn}
use Rattle.draft_laws.proofs.Ends.{links_of_tree, stands_at_end}

-- inodes 0 and 1 aren't in use
low_state : (i : ℕ) (s : Option InodeState) (u : UsedInode) → option_and_then used_of s ≡ Some u → is_bad_state i s ≡ false → 2 ≤ i
low_state i None u used right = absurd (true≢false right)
low_state i (Some NoRecord) u used right = absurd (true≢false right)
low_state i (Some Unused) u used right = absurd (let e : None ≡ Some u = used in cc)
low_state i (Some (InUse v)) u used right = ltb-false i 2 right

not_low : (g : Geometry) (blocks : Blocks) (hands : List Hand) (i : ℕ) (u : UsedInode) → IsStored g (reading_of g blocks) hands → used_at (reading_of g blocks) i ≡ Some u → 2 ≤ i
not_low g blocks hands i u stored used =
    let r = reading_of g blocks in
    low_state i (slice_get r.inodes i) u used (stored.inodes i (used_within r i u used))

-- an inode that the tree has is in use
in_use : (g : Geometry) (blocks : Blocks) (i : ℕ) (o : Option UsedInode) → used_at (reading_of g blocks) i ≡ o → is_some (option_map (node_of blocks) o) ≡ true → (u : UsedInode) × (used_at (reading_of g blocks) i ≡ Some u)
in_use g blocks i None used some = absurd (true≢false (sym some))
in_use g blocks i (Some u) used some = (u, used)

used_in_tree : (g : Geometry) (blocks : Blocks) (tree : Tree) (i : ℕ) → tree_of g blocks ≡ tree → is_some (tree i) ≡ true → (u : UsedInode) × (used_at (reading_of g blocks) i ≡ Some u)
unfolding tree_of
used_in_tree g blocks tree i is some =
    in_use g blocks i (used_at (reading_of g blocks) i) refl (ap (λ (t : Tree). is_some (t i)) is ∙ some)

none_past : (o : Option Node) → (is_some o ≡ true → ⊥) → o ≡ None
none_past None empty = refl
none_past (Some n) empty = absurd (empty refl)

module _ (g : Geometry) (blocks : Blocks) (tree : Tree) (hands : List Hand) (stands : StandsFor g blocks tree hands) where
  abbrev r : Reading
  r = reading_of g blocks

  parts : IsStored g r hands × IsRightTree g (tree_of g blocks) × HasRightLinks r
  parts = (in_parts g blocks hands).0 stands.sound

  pub right_told : IsRightWithin g tree
  right_told = record {
    names = subst (λ (t : Tree). IsRightTree g t) stands.stands parts.1;
    within = λ i past. none_past (tree i) (λ some.
        let found = used_in_tree g blocks tree i stands.stands some in
        omega (arith, past, used_within r i found.0 found.1, length-inodes g blocks));
  }

  -- the links in the record of an inode in use
  own_links : (i : ℕ) (u : UsedInode) → used_at r i ≡ Some u → (1 ≤ u.inode.links) × (u.inode.links ≤ 32767) × (u.inode.links ≡ links_in g tree i)
  own_links i u used =
      let within : i < inodes_of g = omega (arith, used_within r i u used, length-inodes g blocks) in
      let own = subst (λ (o : Option UsedInode). IfSome (option_map (λ u. u.inode.links) o) (λ links. (1 ≤ links) × (links ≤ 32767) × (links ≡ links_to (inodes_of g) (names_in_tree tree) i))) used
      (links_of_tree g blocks tree hands stands i within) in
      let low = not_low g blocks hands i u parts.0 used in
      (own.0, own.1, own.2 ∙ sym (links-counted g tree i (λ zero_is. omega (arith, low, zero_is))))

  pub range_told : HasLinksInRange g tree
  range_told i real some =
      let found = used_in_tree g blocks tree i stands.stands some in
      let own = own_links i found.0 found.1 in
      (omega (arith, own.0, own.2), omega (arith, own.1, own.2))

  pub links_told : (i : ℕ) → IfSome (links_at g blocks i) (λ links. links ≡ links_in g tree i)
  links_told i = by_used (used_at r i) refl
    where
      by_used : (o : Option UsedInode) → used_at r i ≡ o → IfSome (option_map (λ u. u.inode.links) o) (λ links. links ≡ links_in g tree i)
      by_used None used = tt
      by_used (Some u) used = (own_links i u used).2

module _ (g : Geometry) (base : Image) (taken : ℕ → Bool) (change : Change) (after : List Hand) (tree : Tree) (drawn : IsDrawn g base taken change tree after) (right : IsRightWithin g tree) (range : HasLinksInRange g tree) where
  abbrev now : Reading
  now = reading_of g (drafted_blocks change base)

  pub counted_stands : StandsFor g (drafted_blocks change base) tree after
  unfolding tree_of
  counted_stands = stands_at_end g base taken change after drawn.draft tree drawn.draws right.names (λ i within. by_used i (used_at now i) refl)
    where
      by_used : (i : ℕ) (o : Option UsedInode) → used_at now i ≡ o → IfSome (option_map (λ u. u.inode.links) o) (λ links. (1 ≤ links) × (links ≤ 32767) × (links ≡ links_to (inodes_of g) (names_in_tree tree) i))
      by_used i None used = tt
      by_used i (Some u) used =
          let low = not_low g (drafted_blocks change base) after i u drawn.draft.stored used in
          let real : i ≢ 0 = λ zero_is. omega (arith, low, zero_is) in
          let own = subst (λ (o : Option UsedInode). IfSome (option_map (λ u. u.inode.links) o) (λ links. links ≡ links_in g tree i)) used (drawn.links i real) in
          let there : is_some (tree i) ≡ true = sym (ap (λ (t : Tree). is_some (t i)) drawn.draws) ∙ ap (λ (o : Option UsedInode). is_some (option_map (node_of (drafted_blocks change base)) o)) used in
          let limits = range i real there in
          (omega (arith, own, limits.0), omega (arith, own, limits.1), own ∙ links-counted g tree i real)

pub call_stands : (g : Geometry) (base : Image) (taken : ℕ → Bool) (change : Change) (hands after : List Hand) (tree : Tree) (cred : Cred) (ino moment : ℕ) (call : Call)
    → StandsFor g (block base) tree hands → (makes_inode call ≡ true → IsUsable g tree ino) → IsDrawn g base taken change (tree_after g tree cred ino moment call) after
    → StandsFor g (drafted_blocks change base) (tree_after g tree cred ino moment call) after
call_stands g base taken change hands after tree cred ino moment call stands usable drawn =
    let right = right_told g (block base) tree hands stands in
    counted_stands g base taken change after (tree_after g tree cred ino moment call) drawn
    (right_after g tree cred ino moment call usable right)
    (links_kept g tree cred ino moment call usable right (range_told g (block base) tree hands stands))

pub edits_of_call : (g : Geometry) (tree : Tree) (cred : Cred) (ino moment : ℕ) (call : Call) (ends : WalkEnds) → ends_of tree cred call ≡ Ok ends → decision_at g tree cred call ends ≡ Proceed
    → tree_after g tree cred ino moment call ≡ edited_all (edits_at g tree cred ino moment call ends) tree
unfolding tree_after
edits_of_call g tree cred ino moment call ends walked proceeds =
    ap (λ (e : Result WalkEnds Refusal). walked_tree g tree cred ino moment call e) walked
    ∙ ap (λ (d : Decision). decided d tree (edited_all (edits_at g tree cred ino moment call ends) tree)) proceeds
