-- The session to its end: the file gets block 38, its bytes are written there, and it is synced.
use Rattle.std.proofs.Common.{◌≡◌, ◌≤◌, ◌<◌, inr, ℕ, ◌+◌, ◌*◌, ◌/◌, ◌%◌, true, false, List, [], ◌∷◌, ◌++◌, length, replicate, slice_index, Some, is_some, refl, sym, ap, subst, ◌∙◌, arith, lit≤, lit<}
use Rattle.std.specs.Prelude.{All, IsSomeAnd}
use Rattle.std.proofs.lemmas.Bool.{false≢true}
use Rattle.std.proofs.lemmas.List.Elements.{All-cons, All-nil}
use Rattle.volume_model.specs.Format.{Blocks}
use Rattle.volume_model.specs.Crash.{present_of}
use Rattle.volume_model.specs.Log.{delta_bytes}
use Rattle.volume_model.specs.Sound.{Reading, Tree, FileNode, File, shape_of, tree_of}
use Rattle.volume_model.specs.Worked.{smallest}
use Rattle.history_model.specs.FileBytes.{block_at}
use Rattle.history_model.specs.Histories.{History, replay_of}
use Rattle.history_model.specs.WorkedTrees.{with_rights, new_tree}
use Rattle.journal_model.specs.Versions.{Version, Running}
use Rattle.journal_model.specs.BlockRoles.{is_claimed}
use Rattle.journal_model.specs.Batches.{is_released, is_freed_owner}
use Rattle.journal_model.specs.Steps.{IsRawWrite}
use Rattle.journal_model.specs.Room.{HasSpaceFor}
use Rattle.journal_laws.proofs.RoleFacts.{unclaimed_no_metadata}
use Rattle.history_laws.specs.Applied.{with_running}
use Rattle.history_laws.specs.Named.{byte_in, HasByteOf}
use Rattle.history_laws.specs.RawWrites.{WritesTouched}
use Rattle.history_laws.specs.Volumes.{Volume, readings_of}
use Rattle.history_laws.specs.VolumeRoles.{role_of}
use Rattle.history_laws.specs.WorkedSession.{Times, letters, tree_with_letters}
use Rattle.history_laws.proofs.AppliedEntries.{entry_passes}
use Rattle.history_laws.proofs.PlacedWrites.{hand_writes}
use Rattle.meta_store.specs.Merged.{placed, merged, all_merged}
use Rattle.store_laws.specs.Tied.{running_with, journal_after}
use Rattle.worked_session.specs.FourChanges.{write_change, reading_of_file, reading_of_letters}
use Rattle.worked_session.specs.FiveEntries.{entry_one, entry_two, entry_three, entry_four, entry_five}
use Rattle.worked_session.specs.Journals.{inside, with_file, with_letters, journal_three, history_of}
use Rattle.worked_session.specs.Stages.{at_volume, Stage}
use Rattle.worked_session.proofs.Commits.{MayCommit, commits}
use Rattle.worked_session.proofs.FiveBegun.{since, four_begins, five_begins}
use Rattle.worked_session.proofs.FourNames.{file_names, IsLettered, letters_names, free_before_letters}
use Rattle.worked_session.proofs.FourNext.{three, next_letters}
use Rattle.worked_session.proofs.FourReadings.{blocks_of_file, blocks_of_letters}
use Rattle.worked_session.proofs.FourTrees.{letters_shape, after_four}
use Rattle.worked_session.proofs.StageSteps.{keeps, base_reads, change_stage, drafted_reads}
use Rattle.worked_session.proofs.Transitions.{begins, admits, leaves, tells, passes, writes}

write_fits : HasSpaceFor smallest with_file 4000
unfolding all_merged merged placed
write_fits = lit≤ tt

-- since the removal is committed
write_takes : All (λ b. is_released (inside with_file) b ≡ true) write_change.taken
write_takes = All-cons (λ b. is_released (inside with_file) b ≡ true) 38 [] refl (All-nil (λ b. is_released (inside with_file) b ≡ true))

not_freed : is_freed_owner ((inside with_file).owners 38) ≡ false
not_freed = refl

write_room : delta_bytes write_change.deltas ≤ (inside with_file).unspent
unfolding all_merged merged placed
write_room = lit≤ tt

write_may_commit : MayCommit with_letters
unfolding all_merged merged placed
write_may_commit = record { none = refl; idle = refl; fits = lit≤ tt; number = lit< tt; turn = record { sectors = lit≤ tt; places = lit≤ tt } }

-- the whole block, as it is written
abbrev whole_block_bytes : List ℕ
whole_block_bytes = letters ++ replicate 4093 0

abbrev lettered : FileNode
lettered = record { attributes = with_rights 0x1a4; size = 3; blocks = Some whole_block_bytes ∷ []; pointers = [] }

file_in : {f k : FileNode} → Some (File f) ≡ Some (File k) → f ≡ k
file_in is = cc

letter_at : (ino p value b : ℕ) → HasByteOf tree_with_letters ino p value → IsLettered ino (p / 4096) b → slice_index whole_block_bytes (p % 4096) ≡ value
letter_at ino p value b has is =
    let there : Some (File lettered) ≡ Some (File has.file) = ap tree_with_letters (sym is.file) ∙ has.is in
    let claimed : IsSomeAnd (block_at lettered (p / 4096)) (λ bytes. slice_index bytes (p % 4096) ≡ value) =
    subst (λ (f : FileNode). IsSomeAnd (block_at f (p / 4096)) (λ bytes. slice_index bytes (p % 4096) ≡ value)) (sym (file_in there)) has.has.claimed in
    subst (λ (k : ℕ). IsSomeAnd (block_at lettered k) (λ bytes. slice_index bytes (p % 4096) ≡ value)) is.first claimed

module _ (from : Volume) (one two made : Times) (n : ℕ) where
  abbrev h : History
  h = history_of (entry_one one ∷ (entry_two two ∷ (entry_three made ∷ (entry_four (since n) ∷ [])))) (1 ∷ (2 ∷ []))

  abbrev held : Version → ℕ
  held = with_running (λ w. 2) 3

  abbrev Before : Type 0
  Before = Stage from (inside with_file) h held blocks_of_file three

  free_now : (s : Before) → is_claimed (s.roles Running 38) ≡ false
  free_now s =
      let reads = base_reads from (inside with_file) h held blocks_of_file blocks_of_letters three three s write_change reading_of_file reading_of_letters next_letters write_takes write_room in
      ap is_claimed (s.read.claimed 38 ∙ ap (λ (t : Reading). role_of smallest t 38) reads ∙ free_before_letters)

  raw : (s : Before) → IsRawWrite smallest s.roles (inside with_file) 304 whole_block_bytes
  raw s =
      let safe = (keeps from (inside with_file) h held blocks_of_file three s).safe in
      let gone = safe.owners.gone 38 (free_now s) not_freed in
      record { body = refl; whole = refl; inside = lit≤ tt; place = λ v. unclaimed_no_metadata (s.roles v 38) (gone.unclaimed v); free = refl }

  touched : (s : Before) → WritesTouched smallest 1000 new_tree h.entries s.r (held Running) (readings_of smallest (at_volume s.r (inside with_file) s.roles h held)) 304 whole_block_bytes
  touched s =
      hand_writes smallest 1000 new_tree 0 (at_volume s.r (inside with_file) s.roles h held) (keeps from (inside with_file) h held blocks_of_file three s) 304 whole_block_bytes 38
      (record { at = lit≤ tt; fits = lit≤ tt }) (free_now s) not_freed

  bytes_there : (s : Before) → ((i : ℕ) → i < length whole_block_bytes → slice_index (present_of s.r) (512 * 304 + i) ≡ slice_index whole_block_bytes i) → (ino p value b : ℕ)
      → HasByteOf (replay_of smallest 1000 new_tree h.entries 4) ino p value → IsLettered ino (p / 4096) b → byte_in (present_of s.r) b p ≡ value
  bytes_there s shown ino p value b has is =
      let in_tree : HasByteOf tree_with_letters ino p value = subst (λ (tree : Tree). HasByteOf tree ino p value) (after_four one two made (since n)) has in
      let long : length whole_block_bytes ≡ 4096 = refl in
      let at : 4096 * 38 + p % 4096 ≡ 512 * 304 + p % 4096 = omega arith in
      ap (λ (c : ℕ). slice_index (present_of s.r) (4096 * c + p % 4096)) is.block ∙ ap (slice_index (present_of s.r)) at ∙ shown (p % 4096) (omega (arith, long)) ∙ letter_at ino p value b in_tree is

  -- the call, once its bytes are there
  written_stage : (s : Before) → ((i : ℕ) → i < length whole_block_bytes → slice_index (present_of s.r) (512 * 304 + i) ≡ slice_index whole_block_bytes i)
      → Stage from with_letters h (with_running held 4) blocks_of_letters three
  written_stage s shown =
      let x : Blocks = running_with smallest s.r (inside with_file) write_change in
      let reads = drafted_reads from (inside with_file) h held blocks_of_file blocks_of_letters three three s write_change reading_of_file reading_of_letters next_letters write_takes write_room in
      let shape : shape_of (tree_of smallest x) ≡ shape_of (replay_of smallest 1000 new_tree h.entries 4) = letters_shape x reads ∙ sym (ap shape_of (after_four one two made (since n))) in
      let done = change_stage from (inside with_file) h held blocks_of_file blocks_of_letters three three s write_change reading_of_file reading_of_letters next_letters write_takes write_room (entry_four (since n)) (lit≤ tt) refl
      shape
      (λ ino index b is. inr (file_names ino index, subst (λ (c : ℕ). is_claimed (s.roles Running c) ≡ false) (sym (letters_names ino index b is).block) (free_now s)))
      (λ ino p value b has names touches. bytes_there s shown ino p value b has (letters_names ino (p / 4096) b names)) in
      leaves done 0 0 (journal_after smallest (inside with_file) write_change).unspent refl (omega arith) (λ last. refl)

-- what comes after it: the reply, and the fsync
pub file_synced : (from : Volume) (one two made : Times) → Stage from with_file (history_of (entry_one one ∷ (entry_two two ∷ (entry_three made ∷ []))) (1 ∷ (2 ∷ []))) (with_running (λ w. 2) 3) blocks_of_file three
    → (wrote : Times) × (synced : Times) × (is_some synced.told ≡ true)
    × Stage from journal_three (history_of (entry_one one ∷ (entry_two two ∷ (entry_three made ∷ (entry_four wrote ∷ (entry_five synced ∷ []))))) (1 ∷ (2 ∷ (5 ∷ [])))) (λ w. 5) blocks_of_letters three
file_synced from one two made s0 =
    let n = length s0.r.calls in
    let s1 = begins s0 (entry_four (since n)) (four_begins one two made n) in
    let s2 = admits s1 4000 write_fits in
    let put = writes s2 304 whole_block_bytes (raw from one two made n s2) (touched from one two made n s2) in
    let s3 = written_stage from one two made n put.0 put.1 in
    let wrote : Times = record (since n) { told = Some (length s3.r.calls) } in
    let s4 = tells s3 3 (record { entry = entry_four (since n); is = refl; untold = refl; published_if = λ sync. absurd (false≢true sync) }) in
    let m = length s4.r.calls in
    let s5 = begins s4 (entry_five (since m)) (five_begins one two made wrote m) in
    let h = history_of (entry_one one ∷ (entry_two two ∷ (entry_three made ∷ (entry_four wrote ∷ (entry_five (since m) ∷ []))))) (1 ∷ (2 ∷ [])) in
    let kept = keeps from with_letters h (with_running (with_running (λ w. 2) 3) 4) blocks_of_letters three s5 in
    let s6 = passes s5 (entry_passes smallest 1000 new_tree h.entries 4 (entry_five (since m)) kept.legal refl (inr refl)) in
    let s7 = commits s6 5 refl write_may_commit in
    let s8 = tells s7 4 (record { entry = entry_five (since m); is = refl; untold = refl; published_if = λ sync. lit≤ tt }) in
    (wrote, record (since m) { told = Some (length s7.r.calls) }, refl, s8)
