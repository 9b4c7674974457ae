-- Along a legal history: whole blocks stay whole, and a byte after an entry that doesn't touch it was there before.
use Rattle.std.proofs.Common.{◌≡◌, ◌<◌, ℕ, zero, suc, ◌/◌, ◌%◌, Bool, true, false, ◌&&◌, List, [], ◌∷◌, ◌++◌, length, take, slice_get, slice_index, Option, Some, None, refl, sym, ap, ◌∙◌, subst, arith}
use Rattle.std.specs.Prelude.{IfSome, IsSomeAnd, unwrap_or}
use Rattle.std.specs.Option.{option_map_or, option_flatten}
use Rattle.std.proofs.lemmas.Bool.{false≢true}
use Rattle.lufs_base.specs.declared.geometry.Geometry.{Geometry}
use Rattle.tree_types.specs.declared.credentials.Cred.{Cred}
use Rattle.tree_types.specs.declared.call.Call.{Call}
use Rattle.tree_types.specs.declared.call.Call.TheVariants as call
use Rattle.tree_types.specs.declared.history.Entry.{Entry}
use Rattle.tree_types.specs.declared.reply.Refusal.{Refusal}
use Rattle.tree_types.specs.declared.reply.Reply.{Reply}
use Rattle.tree_types.specs.declared.reply.Reply.TheVariants as reply
use Rattle.volume_model.specs.Sound.{FileNode, Node, File, Tree}
use Rattle.history_model.specs.Places.{file_of, file_in}
use Rattle.history_model.specs.FileBytes.{written, cut_to}
use Rattle.history_model.specs.Histories.{entry_at, is_carried_out, after_call, replayed_on, replay_of, IsRightEntry, IsRightReply, IsRightAfter, EachAfter, Legal}
use Rattle.history_model.specs.Replies.{tree_after}
use Rattle.history_model.specs.Touched.{names_inode, write_touches, trunc_touches, call_touches, may_have_written, touches_byte}
use Rattle.history_model.specs.CrashSafety.{HasByte}
use Rattle.history_rules.proofs.HistoryLaws.{replayed-last}
use Rattle.history_rules.proofs.RefusedLaws.{refused_tree}
use Rattle.history_rules.proofs.RightHistoryLaws.{history_keeps, any_calls}
use Rattle.history_laws.specs.Named.{HasByteOf}
use Rattle.history_laws.specs.WholeFiles.{IsWholeFile, HasWholeFiles}
use Rattle.history_laws.proofs.FilesAfter.{IsRewritten, FileAfter, Empty, Same, Rewritten, file_after}
use Rattle.history_laws.proofs.BytesAfter.{whole_written, whole_cut, write_spares, cut_spares}

-- a file with other attributes
same_bytes : (new old : FileNode) (p value : ℕ) → new.size ≡ old.size → new.blocks ≡ old.blocks → HasByte new p value → HasByte old p value
same_bytes new old p value size blocks has = record {
  below = let below : p < new.size = has.below in omega (arith, below, size);
  claimed = subst (λ (l : List (Option (List ℕ))). IsSomeAnd (option_flatten (slice_get l (p / 4096))) (λ bytes. slice_index bytes (p % 4096) ≡ value)) blocks has.claimed;
}

same_whole : (new old : FileNode) → new.blocks ≡ old.blocks → IsWholeFile old → IsWholeFile new
same_whole new old blocks whole index = subst (λ (l : List (Option (List ℕ))). IfSome (option_flatten (slice_get l index)) (λ bytes. length bytes ≡ 4096)) (sym blocks) (whole index)

no_byte : (new : FileNode) (p value : ℕ) → new.blocks ≡ [] → HasByte new p value → ⊥
no_byte new p value empty has = subst (λ (l : List (Option (List ℕ))). IsSomeAnd (option_flatten (slice_get l (p / 4096))) (λ bytes. slice_index bytes (p % 4096) ≡ value)) empty has.claimed

no_block : (new : FileNode) → new.blocks ≡ [] → IsWholeFile new
no_block new empty index = subst (λ (l : List (Option (List ℕ))). IfSome (option_flatten (slice_get l index)) (λ bytes. length bytes ≡ 4096)) (sym empty) tt

and_rest : (a b : Bool) → a ≡ true → (a && b) ≡ false → b ≡ false
and_rest true b is none = none
and_rest false b is none = absurd (false≢true is)

module _ (tree : Tree) (cred : Cred) (ino : ℕ) where
  whole_rewritten : (c : Call) (old new : FileNode) → IsRewritten tree cred c ino old new → IsWholeFile old → IsWholeFile new
  whole_rewritten (call.Write path offset bytes) old new is whole = same_whole new (written old offset bytes) is.2 (whole_written old offset bytes whole)
  whole_rewritten (call.Trunc path size) old new is whole = same_whole new (cut_to old size) is.2 (whole_cut old size whole)
  whole_rewritten c old new is whole = absurd is

  whole_after : (c : Call) (new : FileNode) → HasWholeFiles tree → FileAfter tree cred c ino new → IsWholeFile new
  whole_after c new whole (Empty empty) = no_block new empty
  whole_after c new whole (Same old) = same_whole new old.old old.blocks (whole ino old.old old.is)
  whole_after c new whole (Rewritten old is by) = whole_rewritten c old new by (whole ino old is)

  spared : (path : List ℕ) (file : FileNode) (touches : FileNode → Bool) → tree ino ≡ Some (File file) → names_inode tree cred path ino ≡ true
      → (names_inode tree cred path ino && option_map_or touches (file_in tree ino) false) ≡ false → touches file ≡ false
  spared path file touches is names none =
      sym (ap (λ (o : Option Node). option_map_or touches (option_map_or file_of o None) false) is) ∙ and_rest (names_inode tree cred path ino) (option_map_or touches (file_in tree ino) false) names none

  byte_rewritten : (c : Call) (p value : ℕ) (old new : FileNode) → tree ino ≡ Some (File old) → IsRewritten tree cred c ino old new → IsWholeFile old → call_touches tree cred (Some c) ino p ≡ false
      → HasByte new p value → HasByte old p value
  byte_rewritten (call.Write path offset bytes) p value old new is by whole none has =
      write_spares old offset bytes p value whole (spared path old (λ file. write_touches file offset (length bytes) p) is by.0 none) (same_bytes new (written old offset bytes) p value by.1 by.2 has)
  byte_rewritten (call.Trunc path size) p value old new is by whole none has =
      cut_spares old size p value whole (spared path old (λ file. trunc_touches file size p) is by.0 none) (same_bytes new (cut_to old size) p value by.1 by.2 has)
  byte_rewritten c p value old new is by whole none has = absurd by

  byte_after : (c : Call) (p value : ℕ) (new : FileNode) → HasWholeFiles tree → call_touches tree cred (Some c) ino p ≡ false → FileAfter tree cred c ino new → HasByte new p value → HasByteOf tree ino p value
  byte_after c p value new whole none (Empty empty) has = absurd (no_byte new p value empty has)
  byte_after c p value new whole none (Same old) has = record { file = old.old; is = old.is; has = same_bytes new old.old p value old.size old.blocks has }
  byte_after c p value new whole none (Rewritten old is by) has = record { file = old; is = is; has = byte_rewritten c p value old new is by (whole ino old is) none has }

pub whole_stays : (g : Geometry) (tree : Tree) (cred : Cred) (n moment : ℕ) (c : Call) → HasWholeFiles tree → HasWholeFiles (tree_after g tree cred n moment c)
whole_stays g tree cred n moment c whole ino new is = whole_after tree cred ino c new whole (file_after g tree cred n moment c ino new is)

-- a reply is a refusal, or the call may have written
refused_or_done : (r : Reply) (P : Type 0) → ((why : Refusal) → r ≡ reply.Refused why → P) → (may_have_written r ≡ true → P) → P
refused_or_done (reply.Refused why) P refused done = refused why refl
refused_or_done r P refused done = done refl

module _ (g : Geometry) (moment : ℕ) where
  call_spares : (tree : Tree) (e : Entry) (c : Call) (ino p value : ℕ) → IsRightEntry g tree e c → HasWholeFiles tree → (may_have_written e.reply && call_touches tree e.cred (Some c) ino p) ≡ false
      → HasByteOf (after_call g moment tree e (Some c)) ino p value → HasByteOf tree ino p value
  call_spares tree e c ino p value right whole none = by_reply (is_carried_out e.reply) refl
    where
      by_reply : (carried : Bool) → is_carried_out e.reply ≡ carried
          → HasByteOf (let t : Tree = elim carried [ true ↦ tree_after g tree e.cred (unwrap_or e.ino 0) moment c | false ↦ tree ] in t) ino p value → HasByteOf tree ino p value
      by_reply false is has = has
      by_reply true is has =
          refused_or_done e.reply (HasByteOf tree ino p value)
          (λ why refused. subst (λ (t : Tree). HasByteOf t ino p value) (refused_tree g tree e.cred c why (unwrap_or e.ino 0) moment (sym (right.reply is) ∙ refused)) has)
          (λ done. byte_after tree e.cred ino c p value has.file whole (and_rest (may_have_written e.reply) (call_touches tree e.cred (Some c) ino p) done none)
          (file_after g tree e.cred (unwrap_or e.ino 0) moment c ino has.file has.is) has.has)

  entry_spares : (tree : Tree) (e : Entry) (o : Option Call) (ino p value : ℕ) → IsRightReply g tree e o → HasWholeFiles tree → (may_have_written e.reply && call_touches tree e.cred o ino p) ≡ false
      → HasByteOf (after_call g moment tree e o) ino p value → HasByteOf tree ino p value
  entry_spares tree e None ino p value right whole none has = has
  entry_spares tree e (Some c) ino p value right whole none has = call_spares tree e c ino p value right whole none has

  -- an entry of a legal history
  abbrev pub IsStep : (before after : Tree) → Entry → Type 0
  IsStep before after e = (after ≡ after_call g moment before e e.call) × IsRightReply g before e e.call

  module _ (opening : Tree) where
    step_at : (before entries : List Entry) (k : ℕ) (e : Entry) → EachAfter (IsRightAfter g moment opening) before entries → slice_get entries k ≡ Some e
        → IsStep (replayed_on g moment (replayed_on g moment opening before) (take k entries)) (replayed_on g moment (replayed_on g moment opening before) (take (suc k) entries)) e
    step_at before [] k e each is = absurd cc
    step_at before (x ∷ entries) zero e each is =
        let same : x ≡ e = cc in
        subst (λ (y : Entry). IsStep (replayed_on g moment opening before) (after_call g moment (replayed_on g moment opening before) x x.call) y) same (refl, each.0.reply)
    step_at before (x ∷ entries) (suc k) e each is =
        subst (λ (t : Tree). IsStep (replayed_on g moment t (take k entries)) (replayed_on g moment t (take (suc k) entries)) e) (replayed-last g moment opening before x)
        (step_at (before ++ x ∷ []) entries k e each.1 is)

    pub entry_step : (entries : List Entry) (k : ℕ) (e : Entry) → Legal g moment opening entries → entry_at entries (suc k) ≡ Some e
        → IsStep (replay_of g moment opening entries k) (replay_of g moment opening entries (suc k)) e
    unfolding Legal replay_of
    entry_step entries k e legal is = step_at [] entries k e legal is

    pub whole_along : (entries : List Entry) (k : ℕ) → Legal g moment opening entries → HasWholeFiles opening → HasWholeFiles (replay_of g moment opening entries k)
    whole_along entries k legal whole =
        history_keeps HasWholeFiles (λ c. Unit {0}) g moment (λ tree cred n c usable kind before. whole_stays g tree cred n moment c before) opening entries k legal (any_calls entries) whole

    pub byte_before : (entries : List Entry) (k ino p value : ℕ) (e : Entry) → Legal g moment opening entries → HasWholeFiles opening → entry_at entries (suc k) ≡ Some e
        → HasByteOf (replay_of g moment opening entries (suc k)) ino p value → touches_byte (replay_of g moment opening entries k) e ino p ≡ false → HasByteOf (replay_of g moment opening entries k) ino p value
    byte_before entries k ino p value e legal whole is has none =
        let step = entry_step entries k e legal is in
        entry_spares (replay_of g moment opening entries k) e e.call ino p value step.1 (whole_along entries k legal whole) none (subst (λ (t : Tree). HasByteOf t ino p value) step.0 has)
