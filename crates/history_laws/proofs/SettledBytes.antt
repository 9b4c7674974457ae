-- Settled bytes stand after a crash now.
use Rattle.std.proofs.Common.{◌≡◌, ◌<◌, ◌≤◌, ◌⊎◌, inl, inr, ℕ, true, false, List, length, Option, Some, None, refl, arith}
use Rattle.std.specs.Prelude.{IfSome, IsSomeAnd}
use Rattle.std.specs.Option.{option_map_or}
use Rattle.lufs_base.specs.declared.geometry.Geometry.{Geometry}
use Rattle.tree_types.specs.declared.credentials.Cred.{Cred}
use Rattle.tree_types.specs.declared.call.Call.{Call}
use Rattle.tree_types.specs.declared.call.Call.TheVariants as call
use Rattle.tree_types.specs.declared.history.Entry.{Entry}
use Rattle.volume_model.specs.Crash.{Record}
use Rattle.volume_model.specs.Sound.{Reading, Tree}
use Rattle.history_model.specs.Lines.{is_fsync}
use Rattle.history_model.specs.Histories.{entry_at, is_ok}
use Rattle.history_model.specs.Touched.{touches_byte, tree_before, is_fsync_of, IsAcknowledged, Settled}
use Rattle.journal_model.specs.Versions.{Version, Published, Sealed}
use Rattle.history_laws.specs.KeptBytes.{IsUntouchedWithin, IsUntouchedBefore, AreLeft, AreBytesKept, IsCrashKept, AreToldPublished, BeganBefore}

-- only an fsync is an fsync of an inode
fsync_call : (tree : Tree) (cred : Cred) (c : Option Call) (ino : ℕ) → is_fsync_of tree cred c ino ≡ true → option_map_or is_fsync c false ≡ true
fsync_call tree cred None ino is = absurd cc
fsync_call tree cred (Some (call.Create path mode)) ino is = absurd cc
fsync_call tree cred (Some (call.Mkdir path mode)) ino is = absurd cc
fsync_call tree cred (Some (call.Link old new)) ino is = absurd cc
fsync_call tree cred (Some (call.Symlink text path)) ino is = absurd cc
fsync_call tree cred (Some (call.Rename old new)) ino is = absurd cc
fsync_call tree cred (Some (call.Remove path)) ino is = absurd cc
fsync_call tree cred (Some (call.Rmdir path)) ino is = absurd cc
fsync_call tree cred (Some (call.Chmod path mode)) ino is = absurd cc
fsync_call tree cred (Some (call.Chown path uid gid)) ino is = absurd cc
fsync_call tree cred (Some (call.Write path offset bytes)) ino is = absurd cc
fsync_call tree cred (Some (call.Trunc path size)) ino is = absurd cc
fsync_call tree cred (Some (call.Fsync path)) ino is = refl
fsync_call tree cred (Some (call.Read path offset count)) ino is = absurd cc
fsync_call tree cred (Some (call.Stat path)) ino is = absurd cc
fsync_call tree cred (Some (call.Lstat path)) ino is = absurd cc
fsync_call tree cred (Some (call.List path after)) ino is = absurd cc
fsync_call tree cred (Some (call.Readlink path)) ino is = absurd cc
fsync_call tree cred (Some call.Df) ino is = absurd cc
fsync_call tree cred (Some (call.Become uid gid)) ino is = absurd cc

by_told : (told : Option ℕ) (n : ℕ) (P : Type 0) → IfSome told (λ t. P) → IsSomeAnd told (λ t. t ≤ n) → P
by_told None n P holds was = absurd was
by_told (Some t) n P holds was = holds

acknowledged_published : (tree : Tree) (n ino j k : ℕ) (o : Option Entry) → IfSome o (λ e. e.sync ≡ true → IfSome e.told (λ told. j ≤ k))
    → IfSome o (λ e. option_map_or is_fsync e.call false ≡ true → is_ok e.reply ≡ true → e.sync ≡ true) → IsSomeAnd o (IsAcknowledged tree n ino) → j ≤ k
acknowledged_published tree n ino j k None told fsync ack = absurd ack
acknowledged_published tree n ino j k (Some e) told fsync ack =
    by_told e.told n (j ≤ k) (told (fsync (fsync_call tree e.cred e.call ino ack.call) ack.reply)) ack.told

started_and_left : (n : ℕ) (P : Entry → Type 0) (o : Option Entry) → IfSome o (λ e. e.start < n → P e) → IfSome o (λ e. e.start < n) → IfSome o P
started_and_left n P None leaves started = tt
started_and_left n P (Some e) leaves started = leaves started

module _ (g : Geometry) (moment : ℕ) (opening : Tree) (entries : List Entry) where
  -- a settled byte is touched by no entry after the published ones
  pub settled_untouched : (k n ino p : ℕ) → AreToldPublished entries k → Settled g moment opening entries n ino p → IsUntouchedBefore g moment opening entries k n ino p
  settled_untouched k n ino p told (j, since) =
      let low : j ≤ k = elim since.acknowledged [
        | inl opens ↦ omega (arith, opens)
        | inr ack ↦ acknowledged_published (tree_before g moment opening entries j) n ino j k (entry_at entries j) (told.told j) (told.fsyncs j) ack
      ] in
      λ i past. since.untouched i (omega (arith, past, low))

  pub left_kept : (r : Record) (k : ℕ) (reading : Reading) → AreToldPublished entries k → AreLeft g moment opening entries r k reading
      → IsCrashKept g moment opening entries r (length r.calls) k reading
  left_kept r k reading told left ino p value b image has names settled out =
      left ino p value b image has names (settled_untouched k (length r.calls) ino p told settled) out

  -- the sealed version, whose entries after the published ones began before now
  pub sealed_kept : (r : Record) (readings : Version → Reading) (held : Version → ℕ) → AreBytesKept g moment opening entries r readings held → AreToldPublished entries (held Published)
      → (held Sealed ≤ held Published) ⊎ BeganBefore entries (held Sealed) (length r.calls) → IsCrashKept g moment opening entries r (length r.calls) (held Sealed) (readings Sealed)
  sealed_kept r readings held kept told began ino p value b image has names settled out =
      let free = settled_untouched (held Published) (length r.calls) ino p told settled in
      let within : IsUntouchedWithin g moment opening entries (held Published) (held Sealed) ino p = elim began [
        | inl none ↦ λ i low high. absurd (omega (arith, none, low, high))
        | inr all ↦ λ i low high.
            started_and_left (length r.calls) (λ e. touches_byte (tree_before g moment opening entries i) e ino p ≡ false) (entry_at entries i) (free i low) (all i high)
      ] in
      let before = kept.to_sealed ino p value b has names within in
      kept.published ino p value b image before.1 before.0 free out
