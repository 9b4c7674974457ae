-- A call that is carried out does with the bytes of files what is asked of it; and a call that changes nothing.
use Rattle.std.proofs.Common.{◌≡◌, ◌⊎◌, inl, inr, ℕ, suc, ◌/◌, Bool, true, false, ◌&&◌, List, [], Option, Some, None, refl, sym, ap, ◌∙◌}
use Rattle.std.specs.Prelude.{if◌then◌else◌, unwrap_or}
use Rattle.std.proofs.lemmas.Bool.{false≢true, and_parts}
use Rattle.lufs_base.specs.declared.geometry.Geometry.{Geometry}
use Rattle.tree_types.specs.declared.credentials.Cred.{Cred}
use Rattle.tree_types.specs.declared.call.Call.{Call}
use Rattle.tree_types.specs.declared.call.Call.TheVariants as call
use Rattle.tree_types.specs.declared.history.Entry.{Entry}
use Rattle.tree_types.specs.declared.reply.Refusal.{Refusal}
use Rattle.tree_types.specs.declared.reply.Reply.{Reply}
use Rattle.tree_types.specs.declared.reply.Reply.TheVariants as reply
use Rattle.volume_model.specs.declared.hand.Hand.{Hand}
use Rattle.volume_model.specs.Format.{block}
use Rattle.volume_model.specs.Crash.{present_of}
use Rattle.volume_model.specs.Sound.{Tree, shape_of, is_among}
use Rattle.history_model.specs.Ends.{WalkEnds}
use Rattle.history_model.specs.Edits.{edited_all}
use Rattle.history_model.specs.Effects.{edits_at}
use Rattle.history_model.specs.Histories.{entry_at, is_carried_out, after_call, replay_of, IsRightReply, Legal}
use Rattle.history_model.specs.Replies.{tree_after}
use Rattle.history_model.specs.Touched.{call_touches, may_have_written}
use Rattle.history_rules.proofs.CarriedOutLaws.{after_holds}
use Rattle.history_rules.proofs.RefusedLaws.{refused_tree}
use Rattle.journal_model.specs.Journals.{Owner, Live, Released, Freed, Journal}
use Rattle.journal_model.specs.Versions.{Version, Published, Sealed, Running, content_of, next_header}
use Rattle.journal_model.specs.BlockRoles.{Role, Changes, moved, is_claimed}
use Rattle.journal_model.specs.Batches.{is_released_owner, is_freed_owner}
use Rattle.journal_model.specs.Kept.{IsGone}
use Rattle.journal_model.specs.Safety.{IsSafe}
use Rattle.journal_model.specs.Steps.{Step, Apply}
use Rattle.history_laws.specs.Named.{named_block}
use Rattle.history_laws.specs.Applied.{LeavesFree, IsApplied, NamesStay, AreTouchedPresent}
use Rattle.history_laws.specs.Published.{reading_in}
use Rattle.history_laws.specs.Volumes.{Volume, readings_of, IsRunningAs, KeepsHistory}
use Rattle.history_laws.specs.VolumeSteps.{may_change, IsPassing}
use Rattle.history_laws.specs.WholeFiles.{HasWholeFiles}
use Rattle.history_laws.proofs.NamedBlocks.{named_by_shape}
use Rattle.history_laws.proofs.NamedOnce.{named_once}
use Rattle.history_laws.proofs.UntouchedBytes.{byte_before, entry_step}
use Rattle.history_laws.proofs.VolumeFacts.{roles_read}

-- the owner of a block that is live after a change was none that freed it
released_not_freed : (o : Owner) → is_released_owner o ≡ true → is_freed_owner o ≡ false
released_not_freed Live is = absurd (false≢true is)
released_not_freed Released is = refl
released_not_freed (Freed tid) is = absurd (false≢true is)

live_after : (freed taken given_back : Bool) (tid : ℕ) (o : Owner) → (taken ≡ true → is_released_owner o ≡ true) → (if freed then Freed tid else (if taken then Live else (if given_back then Released else o))) ≡ Live
    → is_freed_owner o ≡ false
live_after true taken given_back tid o released is = absurd cc
live_after false true given_back tid o released is = released_not_freed o (released refl)
live_after false false true tid o released is = absurd cc
live_after false false false tid o released is = ap is_freed_owner is

-- so a block that a change claims anew, no version claimed
claimed_anew : (g : Geometry) (v : Volume) (to : ℕ → Role) (k : Journal) → IsSafe g v.roles v.r v.j → Step g v.roles (present_of v.r) v.j (Changes to) [] k → (b : ℕ)
    → is_claimed (v.roles Running b) ≡ false → is_claimed (to b) ≡ true → IsGone g v.roles v.j b
claimed_anew g v _ _ safe (Apply change to running roles deltas) b before after =
    safe.owners.gone b before
    (live_after (is_among b change.freed) (is_among b change.taken) (is_among b change.given_back) (next_header g v.j).tid (v.j.owners b)
    (λ taken. (and_parts (is_released_owner (v.j.owners b)) _ (roles.taken b taken)).0) (roles.claimed b before after).1)

module _ (g : Geometry) (moment : ℕ) (opening : Tree) (first : ℕ) (v : Volume) (keeps : KeepsHistory g moment opening first v) where
  -- a version names no block that it doesn't claim
  pub leaves : (w : Version) (b : ℕ) → is_claimed (v.roles w b) ≡ false → LeavesFree (readings_of g v w) b
  leaves w b none ino index names =
      false≢true (sym none ∙ ap is_claimed ((roles_read g moment opening first v keeps w).files ino index b names))

  pub entry_applied : (to : ℕ → Role) (k : Journal) (hands : List Hand) (entry : Entry) → HasWholeFiles opening → Step g v.roles (present_of v.r) v.j (Changes to) [] k
      → IsRunningAs g (moved (Changes to) v.roles) (present_of v.r) k hands (shape_of (replay_of g moment opening v.h.entries (suc (v.held Running))))
      → entry_at v.h.entries (suc (v.held Running)) ≡ Some entry
      → NamesStay (v.roles Running) (readings_of g v Running) (reading_in g k (present_of v.r) Running)
      → AreTouchedPresent g moment opening v.h.entries v.r (v.held Running) entry (reading_in g k (present_of v.r) Running)
      → IsApplied g moment opening v.h.entries v.r (readings_of g v) (v.held Running) (reading_in g k (present_of v.r) Running)
  entry_applied to k hands entry whole step running is names touched =
      record {
        entry = entry;
        is = is;
        claims = λ ino index b named. elim (names ino index b named) [
          | inl same ↦ inl same
          | inr anew ↦
              let gone = claimed_anew g v to k keeps.safe step b anew.1 (ap is_claimed (running.read.files ino index b named)) in
              inr (leaves Published b (gone.unclaimed Published), leaves Sealed b (gone.unclaimed Sealed))
        ];
        once = named_once g (block (content_of g k Running (present_of v.r))) hands running.sound;
        stays = λ ino p value b has named none.
            let before = byte_before g moment opening v.h.entries (v.held Running) ino p value entry keeps.legal whole is has none in
            let was = named_by_shape g (block (content_of g v.j Running (present_of v.r))) (replay_of g moment opening v.h.entries (v.held Running)) ino p value keeps.running.has before in
            (by_place ino (p / 4096) b was.0 was.1 (names ino (p / 4096) b named), before);
        touched = touched;
      }
    where
      by_place : (ino index b c : ℕ) → named_block (readings_of g v Running) ino index ≡ Some c
          → (named_block (readings_of g v Running) ino index ≡ Some b) ⊎ ((named_block (readings_of g v Running) ino index ≡ None) × (is_claimed (v.roles Running b) ≡ false))
          → named_block (readings_of g v Running) ino index ≡ Some b
      by_place ino index b c was (inl same) = same
      by_place ino index b c was (inr anew) = let clash : ◌≡◌ {A = Option ℕ} (Some c) None = sym was ∙ anew.0 in absurd cc

-- a call that may change nothing
unchanging : (g : Geometry) (tree : Tree) (cred : Cred) (n moment : ℕ) (c : Call) (ends : WalkEnds) → may_change (Some c) ≡ false → edited_all (edits_at g tree cred n moment c ends) tree ≡ tree
unchanging g tree cred n moment (call.Fsync path) ends none = refl
unchanging g tree cred n moment (call.Read path offset count) ends none = refl
unchanging g tree cred n moment (call.Stat path) ends none = refl
unchanging g tree cred n moment (call.Lstat path) ends none = refl
unchanging g tree cred n moment (call.List path after) ends none = refl
unchanging g tree cred n moment (call.Readlink path) ends none = refl
unchanging g tree cred n moment call.Df ends none = refl
unchanging g tree cred n moment (call.Become uid gid) ends none = refl
unchanging g tree cred n moment c ends none = absurd (false≢true (sym none))

same_tree_after : (g : Geometry) (tree : Tree) (cred : Cred) (n moment : ℕ) (c : Call) → may_change (Some c) ≡ false → tree_after g tree cred n moment c ≡ tree
same_tree_after g tree cred n moment c none = after_holds (λ t. t ≡ tree) g tree cred n moment c refl (λ ends ends_in are go. unchanging g tree cred n moment c ends none)

touches_nothing : (tree : Tree) (cred : Cred) (c : Option Call) (ino p : ℕ) → may_change c ≡ false → call_touches tree cred c ino p ≡ false
touches_nothing tree cred (Some (call.Write path offset bytes)) ino p none = absurd (false≢true (sym none))
touches_nothing tree cred (Some (call.Trunc path size)) ino p none = absurd (false≢true (sym none))
touches_nothing tree cred c ino p none = refl

either_false : (a b : Bool) → (a ≡ false) ⊎ (b ≡ false) → (a && b) ≡ false
either_false true b (inl none) = absurd (false≢true (sym none))
either_false false b (inl none) = refl
either_false true b (inr none) = none
either_false false b (inr none) = refl

written_or_not : (r : Reply) → may_have_written r ≡ false → (why : Refusal) × (r ≡ reply.Refused why)
written_or_not (reply.Refused why) none = (why, refl)
written_or_not r none = absurd (false≢true (sym none))

module _ (g : Geometry) (moment : ℕ) where
  same_after : (tree : Tree) (e : Entry) (o : Option Call) → IsRightReply g tree e o → (may_have_written e.reply ≡ false) ⊎ (may_change o ≡ false) → after_call g moment tree e o ≡ tree
  same_after tree e None right none = refl
  same_after tree e (Some c) right none = by_reply (is_carried_out e.reply) refl
    where
      by_reply : (carried : Bool) → is_carried_out e.reply ≡ carried → ◌≡◌ {A = Tree} (elim carried [ true ↦ tree_after g tree e.cred (unwrap_or e.ino 0) moment c | false ↦ tree ]) tree
      by_reply false is = refl
      by_reply true is = elim none [
        | inl unwritten ↦ let why = written_or_not e.reply unwritten in refused_tree g tree e.cred c why.0 (unwrap_or e.ino 0) moment (sym (right.reply is) ∙ why.1)
        | inr unchanged ↦ same_tree_after g tree e.cred (unwrap_or e.ino 0) moment c unchanged
      ]

  pub entry_passes : (opening : Tree) (entries : List Entry) (k : ℕ) (e : Entry) → Legal g moment opening entries → entry_at entries (suc k) ≡ Some e
      → (may_have_written e.reply ≡ false) ⊎ (may_change e.call ≡ false) → IsPassing g moment opening entries k
  entry_passes opening entries k e legal is none =
      let tree = replay_of g moment opening entries k in
      let step = entry_step g moment opening entries k e legal is in
      record {
        entry = e;
        is = is;
        same = step.0 ∙ same_after tree e e.call step.1 none;
        untouched = λ ino p. either_false (may_have_written e.reply) (call_touches tree e.cred e.call ino p) (elim none [
          | inl unwritten ↦ inl unwritten
          | inr unchanged ↦ inr (touches_nothing tree e.cred e.call ino p unchanged)
        ]);
      }
