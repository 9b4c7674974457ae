-- The plan of a call that answers no more than that it is done.
use Rattle.std.proofs.Common.{◌≡◌, ◌≤◌, ℕ, ◌*◌, true, false, List, [], ◌∷◌, Some, None, Result, Ok, refl, sym, ap, ◌∙◌}
use Rattle.std.proofs.lemmas.Bool.{true≢false}
use Rattle.lufs_base.specs.Layout.{IsGeometry, blocks_of}
use Rattle.lufs_base.specs.declared.geometry.Geometry.{Geometry}
use Rattle.volume_model.specs.declared.hand.Hand.{Hand}
use Rattle.volume_model.specs.Format.{Image, block, sectors_of}
use Rattle.volume_model.specs.Sound.{reading_of, held_inodes, IsStored, Tree}
use Rattle.volume_laws.proofs.SoundParts.{in_parts}
use Rattle.tree_types.specs.declared.credentials.Cred.{Cred}
use Rattle.tree_types.specs.declared.call.Call.{Call}
use Rattle.tree_types.specs.declared.reply.Refusal.{Refusal}
use Rattle.tree_types.specs.declared.reply.Reply.TheVariants as reply
use Rattle.history_model.specs.Ends.{WalkEnds, ends_of}
use Rattle.history_model.specs.Wants as model
use Rattle.history_model.specs.Refusals.{Decision, Refuse, Unchanged, Proceed, decision_at}
use Rattle.history_model.specs.Replies.{reply_at, decided_reply, walked_reply, reply_of, tree_after}
use Rattle.history_model.specs.Histories.{makes_inode, IsUsable}
use Rattle.meta_store.specs.declared.change.Change.{Change}
use Rattle.meta_store.specs.Changing.{AllTold}
use Rattle.meta_store.specs.NoChange.{no_change}
use Rattle.draft_laws.proofs.Ends.{draft_begun, holds_none}
use Rattle.plan_ends.specs.Planned.{MayPlan, IsPlanned, IsDrawn, IsTight}
use Rattle.plan_ends.proofs.TreeTold.{call_stands}
use Rattle.name_ops.specs.Asked.{asked}
use Rattle.name_ops.specs.declared.wanted.Wanted.TheVariants.{Refused, Wants}

-- the decision behind an answer
pub refused_as : (d : Decision) (wanted : model.Wanted) (why : Refusal) → Refused why ≡ asked d wanted → d ≡ Refuse why
refused_as (Refuse r) wanted why is = let e : Refused why ≡ Refused r = is in ap (λ (x : Refusal). Refuse x) (cc)
refused_as Unchanged wanted why is = absurd (let e : Refused why ≡ Wants false [] 0 = is in cc)
refused_as Proceed wanted why is = absurd (let e : Refused why ≡ Wants wanted.inode wanted.fresh wanted.others = is in cc)

-- the reply by the decision
replied_as : (g : Geometry) (tree : Tree) (cred : Cred) (call : Call) (ends : WalkEnds) (d : Decision) → ends_of tree cred call ≡ Ok ends → decision_at g tree cred call ends ≡ d
    → reply_of g tree cred call ≡ decided_reply d (reply_at g tree call ends)
unfolding reply_of
replied_as g tree cred call ends d walked is =
    ap (λ (e : Result WalkEnds Refusal). walked_reply g tree cred call e) walked ∙ ap (λ (x : Decision). decided_reply x (reply_at g tree call ends)) is

module _ (told : AllTold) (image : Image) (tree : Tree) (cred : Cred) (call : Call) (ends : WalkEnds) (ino moment : ℕ) (held after : List Hand) (hand : Hand)
    (ok : IsGeometry told.read.geometry) (room : 8 * blocks_of told.read.geometry ≤ sectors_of image) (may : MayPlan told image tree cred call ends held hand after) where
  abbrev g : Geometry
  g = told.read.geometry

  stored : IsStored g (reading_of g (block image)) held
  stored = ((in_parts g (block image) held).0 may.stands.sound).0

  pub refused_planned : (why : Refusal) → decision_at g tree cred call ends ≡ Refuse why → IsPlanned g image tree cred call ino moment after no_change (reply.Refused why)
  refused_planned why decided = record {
    replied = sym (replied_as g tree cred call ends (Refuse why) may.walked decided);
    refused = λ other same. refl;
    done = λ none. absurd (let e : Some why ≡ None = none in cc);
  }

  pub unchanged_tight : IsTight g image told.changing.is_taken no_change
  unchanged_tight = (held, draft_begun g image told.changing.is_taken held ok room stored, stored.apart.blocks_free)

  module _ (change : Change) (drawn : IsDrawn g image told.changing.is_taken change (tree_after g tree cred ino moment call) after) where
    -- a call that makes an inode was given one that is usable
    pub done_planned : decision_at g tree cred call ends ≡ Proceed → reply_at g tree call ends ≡ reply.Done → (makes_inode call ≡ true → IsUsable g tree ino)
        → IsPlanned g image tree cred call ino moment after change reply.Done
    done_planned decided answer usable = record {
      replied = sym (replied_as g tree cred call ends Proceed may.walked decided ∙ answer);
      refused = λ why same. absurd (let e : reply.Done ≡ reply.Refused why = same in cc);
      done = λ none. call_stands g image told.changing.is_taken change held after tree cred ino moment call may.stands usable drawn;
    }

    pub carried_planned : decision_at g tree cred call ends ≡ Proceed → reply_at g tree call ends ≡ reply.Done → makes_inode call ≡ false
        → IsPlanned g image tree cred call ino moment after change reply.Done
    carried_planned decided answer makes_none = done_planned decided answer (λ makes. absurd (true≢false (sym makes ∙ makes_none)))

    pub carried_tight : IsTight g image told.changing.is_taken change
    carried_tight = (after, drawn.draft, holds_none g image held after (held_inodes (hand ∷ [])) hand.blocks stored may.spent)
