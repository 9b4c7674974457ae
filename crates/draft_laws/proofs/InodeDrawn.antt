-- One inode changes from one draft to the next.
use Rattle.std.proofs.Common.{◌≡◌, ◌<◌, ◌≤◌, ◌⊎◌, ℕ, ◌/◌, Bool, true, false, List, Option, Some, sym, ap, ◌∙◌, subst, arith}
use Rattle.std.specs.List.{AllByRecursion, Contains}
use Rattle.std.specs.Option.{option_map}
use Rattle.std.proofs.lemmas.Bool.{both_ways}
use Rattle.lufs_base.specs.declared.geometry.Geometry.{Geometry}
use Rattle.lufs_base.specs.declared.delta.Delta.{Delta}
use Rattle.volume_model.specs.declared.hand.Hand.{Hand}
use Rattle.volume_model.specs.Format.{Image, Blocks, block}
use Rattle.volume_model.specs.Log.{is_cancel}
use Rattle.volume_model.specs.Sound.{UsedInode, InodeState, Reading, reading_of, inodes_in, used_of, used_at, Claim, claims_in, is_claimed, IsLaid, IsStored, Node, tree_of}
use Rattle.volume_laws.specs.Changes.{with_state}
use Rattle.volume_laws.proofs.StoredClaims.{stored_is_laid}
use Rattle.change_laws.specs.Plans.{ChangesInode}
use Rattle.change_laws.proofs.OneInode.{used_changed, used_other}
use Rattle.meta_store.specs.declared.change.Change.{Change}
use Rattle.meta_store.specs.Conditions.{is_given}
use Rattle.meta_store.proofs.MergedTable.{IsLoggable}
use Rattle.meta_store.specs.Suited.{suits_block}
use Rattle.meta_store.specs.Merged.{merged}
use Rattle.meta_draft.specs.Drafted.{drafted_blocks, with_delta}
use Rattle.draft_laws.specs.Laying.{with_laid}
use Rattle.draft_laws.specs.Follows.{is_loose, FollowsSoFar}
use Rattle.draft_laws.specs.Drafts.{IsDraft, Draws}
use Rattle.draft_laws.proofs.MetadataLengths.{metadata_of_part}
use Rattle.draft_laws.proofs.Continues.{IsLost, Continues, Gives, all_fit, all_suited, all_loosened, suited_tight, follows_on}
use Rattle.draft_laws.proofs.OneInodeStep.{KeepsPart, MayComeAs, inode_continues, inode_gives}
use Rattle.draft_laws.proofs.Merging.{FitsIn, one_more, all_laid_in, laid_all, with_all, MayLie, ManyMore, many_more}

abbrev pub links_of : Option UsedInode → Option ℕ
links_of o = option_map (λ u. u.inode.links) o

-- each claim of the inode is kept, or its block is held now
abbrev pub KeepsOrLoses : Reading → Reading → List Hand → (i : ℕ) → InodeState → Type 0
KeepsOrLoses before r after i state =
    (u : UsedInode) → used_at r i ≡ Some u → (claim : Claim) → Contains (claims_in i u) claim → ((v : UsedInode) × (used_of state ≡ Some v) × KeepsPart i u v claim) ⊎ IsLost before after claim

-- each claim of it was there, or may come
abbrev pub HadOrGets : Reading → Reading → (ℕ → Bool) → Change → (i : ℕ) → InodeState → Type 0
HadOrGets before r taken change i state =
    (v : UsedInode) → used_of state ≡ Some v → (claim : Claim) → Contains (claims_in i v) claim → ((u : UsedInode) × (used_at r i ≡ Some u) × Contains (claims_in i u) claim) ⊎ MayComeAs before taken change.raw v claim

module _ (g : Geometry) (base : Image) (taken : ℕ → Bool) (change : Change) (hands after : List Hand) (others : Blocks) (i : ℕ) (state : InodeState) (node : Option Node)
    (draft : IsDraft g base taken change hands) (within : i < inodes_in (reading_of g (drafted_blocks change base)))
    (changes : ChangesInode g (drafted_blocks change base) others i state node after)
    (keeps : KeepsOrLoses (reading_of g (block base)) (reading_of g (drafted_blocks change base)) after i state)
    (news : HadOrGets (reading_of g (block base)) (reading_of g (drafted_blocks change base)) taken change i state) where
  abbrev before : Reading
  before = reading_of g (block base)

  abbrev r : Reading
  r = reading_of g (drafted_blocks change base)

  abbrev s : Reading
  s = reading_of g others

  goes : Continues g before taken change.raw after r s
  goes =
      subst (λ (x : Reading). Continues g before taken change.raw after r x) (sym changes.reading)
      (inode_continues g r i state within before taken change.raw after keeps news)

  pub step_laid : IsLaid g s
  step_laid = stored_is_laid g s after changes.stored

  -- the old deltas fit what is read after
  pub first_fit : FitsIn g before s (is_loose before after) change
  first_fit = record {
    recorded = draft.recorded;
    fits = all_fit g base taken change hands after others draft changes.stored goes;
    suited = all_suited g base taken change hands after others draft changes.stored goes;
    loosened = all_loosened g base taken change hands after others draft changes.stored goes;
    tight = suited_tight g base taken change hands after others draft changes.stored goes;
  }

  -- with deltas that lay these blocks the inode changes so
  pub drawn : (deltas : List Delta) → FitsIn g before s (is_loose before after) (record change { deltas = deltas }) → drafted_blocks (record change { deltas = deltas }) base ≡ others
      → ((b place : ℕ) → place < 4096 → is_given change.deltas b place ≡ true → is_given deltas b place ≡ true)
      → Gives r (with_state r i state) deltas
      → Draws g base taken change (record change { deltas = deltas }) i node (links_of (used_of state)) after
  drawn deltas fit same still gives =
      let next : Change = record change { deltas = deltas } in
      let read : reading_of g (drafted_blocks next base) ≡ s = ap (reading_of g) same in
      let gives_there : Gives r s deltas = subst (λ (x : Reading). Gives r x deltas) (sym changes.reading) gives in
      let follows = follows_on g base taken change hands after others draft changes.stored goes deltas fit.suited fit.loosened still gives_there in
      let used : (k : ℕ) → used_at (reading_of g (drafted_blocks next base)) k ≡ used_at (with_state r i state) k = λ k. ap (λ (x : Reading). used_at x k) (read ∙ changes.reading) in
      record {
        draft = record {
          geometry = draft.geometry;
          room = draft.room;
          start = draft.start;
          began = draft.began;
          recorded = fit.recorded;
          stored = subst (λ (x : Reading). IsStored g x after) (sym read) changes.stored;
          follows = subst (λ (x : Reading). FollowsSoFar g next taken (is_loose before after) before x) (sym read) follows;
        };
        tree = ap (tree_of g) same ∙ changes.tree;
        own_links = ap links_of (used i ∙ used_changed r i state within);
        others = λ k away. used k ∙ used_other r i state within k away;
      }

  -- by one delta
  pub drawn_by_one : (d : Delta) → others ≡ with_laid (drafted_blocks change base) d → IsLoggable g d → is_cancel d.kind ≡ false → suits_block g s d.kind (d.home / 4096) ≡ true
      → Gives r (with_state r i state) (merged change.deltas d)
      → Draws g base taken change (with_delta change d) i node (links_of (used_of state)) after
  drawn_by_one d is own lays fitting gives =
      let more = one_more g base s (is_loose before after) change d draft.room step_laid first_fit own lays fitting in
      drawn (merged change.deltas d) more.next (more.laid ∙ sym is) more.still gives

  -- by several
  pub drawn_by_many : (more : List Delta) → others ≡ laid_all (drafted_blocks change base) more → AllByRecursion (MayLie g s) more
      → (ManyMore g base s (is_loose before after) change more → Gives r (with_state r i state) (all_laid_in change.deltas more))
      → Draws g base taken change (with_all change more) i node (links_of (used_of state)) after
  drawn_by_many more is may gives =
      let many = many_more g base s (is_loose before after) change more draft.room step_laid first_fit may in
      drawn (all_laid_in change.deltas more) many.next (many.laid ∙ sym is) many.still (gives many)

-- where no part of an inode gets longer, and it gets no block, nothing is to be given
pub nothing_to_give : (g : Geometry) (r : Reading) (i : ℕ) (state : InodeState) (deltas : List Delta) → i < inodes_in r
    → ((u v : UsedInode) → used_at r i ≡ Some u → used_of state ≡ Some v → (claim : Claim) → Contains (claims_in i u) claim → metadata_of_part v claim.part ≤ metadata_of_part u claim.part)
    → ((v : UsedInode) → used_of state ≡ Some v → (claim : Claim) → Contains (claims_in i v) claim → is_claimed r claim.block ≡ true)
    → Gives r (with_state r i state) deltas
nothing_to_give g r i state deltas within shorter old =
    inode_gives g r i state within deltas
    (λ u v was now claim mine its place low high. absurd (omega (arith, low, high, shorter u v was now claim mine)))
    (λ v now claim mine free place below. absurd (both_ways (is_claimed r claim.block) free (old v now claim mine)))
    (λ v now claim mine free chunk place below. absurd (both_ways (is_claimed r claim.block) free (old v now claim mine)))
