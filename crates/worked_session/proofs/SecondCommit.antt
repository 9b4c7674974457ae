-- The session up to the second commit: the directory is removed, and block 38 may be given out again.
use Rattle.std.proofs.Common.{◌≡◌, ◌≤◌, ℕ, ◌/◌, true, [], ◌∷◌, length, Some, refl, sym, ap, ◌∙◌, arith, lit≤, lit<}
use Rattle.std.specs.Prelude.{All}
use Rattle.std.proofs.lemmas.Bool.{false≢true}
use Rattle.std.proofs.lemmas.List.Elements.{All-nil}
use Rattle.volume_model.specs.Format.{Blocks}
use Rattle.volume_model.specs.Log.{delta_bytes}
use Rattle.volume_model.specs.Sound.{shape_of, tree_of}
use Rattle.volume_model.specs.Worked.{smallest}
use Rattle.history_model.specs.Histories.{replay_of}
use Rattle.history_model.specs.WorkedTrees.{new_tree}
use Rattle.journal_model.specs.Versions.{Version}
use Rattle.journal_model.specs.Batches.{is_released}
use Rattle.journal_model.specs.Room.{HasSpaceFor}
use Rattle.history_laws.specs.Named.{named_block}
use Rattle.history_laws.specs.Volumes.{Volume}
use Rattle.history_laws.specs.WorkedSession.{Times}
use Rattle.meta_store.specs.Merged.{placed, merged, all_merged}
use Rattle.store_laws.specs.Tied.{running_with, journal_after}
use Rattle.worked_session.specs.FourChanges.{rmdir_change, new_reading, reading_of_directory}
use Rattle.worked_session.specs.FiveEntries.{entry_one, entry_two}
use Rattle.worked_session.specs.Journals.{inside, journal_one, without_directory, journal_two, history_of}
use Rattle.worked_session.specs.Stages.{Stage}
use Rattle.worked_session.proofs.Commits.{MayCommit, commits}
use Rattle.worked_session.proofs.FiveBegun.{since, two_begins}
use Rattle.worked_session.proofs.FourNames.{clash, new_names}
use Rattle.worked_session.proofs.FourNext.{three, four, next_removal}
use Rattle.worked_session.proofs.FourReadings.{blocks_of_directory, blocks_of_removal}
use Rattle.worked_session.proofs.FourTrees.{new_shape, after_two}
use Rattle.worked_session.proofs.StageSteps.{change_stage, drafted_reads}
use Rattle.worked_session.proofs.Transitions.{begins, admits, leaves, tells}

rmdir_fits : HasSpaceFor smallest journal_one 4000
unfolding all_merged merged placed
rmdir_fits = lit≤ tt

rmdir_takes : All (λ b. is_released (inside journal_one) b ≡ true) rmdir_change.taken
rmdir_takes = All-nil (λ b. is_released (inside journal_one) b ≡ true)

rmdir_room : delta_bytes rmdir_change.deltas ≤ (inside journal_one).unspent
rmdir_room = lit≤ tt

rmdir_may_commit : MayCommit without_directory
unfolding all_merged merged placed
rmdir_may_commit = record { none = refl; idle = refl; fits = lit≤ tt; number = lit< tt; turn = record { sectors = lit≤ tt; places = lit≤ tt } }

pub second_commit : (from : Volume) (one : Times) → Stage from journal_one (history_of (entry_one one ∷ []) (1 ∷ [])) (λ w. 1) blocks_of_directory four
    → (two : Times) × Stage from journal_two (history_of (entry_one one ∷ (entry_two two ∷ [])) (1 ∷ (2 ∷ []))) (λ w. 2) blocks_of_removal three
second_commit from one s0 =
    let n = length s0.r.calls in
    let s1 = begins s0 (entry_two (since n)) (two_begins one n) in
    let s2 = admits s1 4000 rmdir_fits in
    let x : Blocks = running_with smallest s2.r (inside journal_one) rmdir_change in
    let h = history_of (entry_one one ∷ (entry_two (since n) ∷ [])) (1 ∷ []) in
    let held : Version → ℕ = λ v. 1 in
    let reads = drafted_reads from (inside journal_one) h held blocks_of_directory blocks_of_removal four three s2 rmdir_change reading_of_directory new_reading next_removal rmdir_takes rmdir_room in
    let shape : shape_of (tree_of smallest x) ≡ shape_of (replay_of smallest 1000 new_tree h.entries 2) = new_shape x reads ∙ sym (ap shape_of (after_two one (since n))) in
    let s3 = change_stage from (inside journal_one) h held blocks_of_directory blocks_of_removal four three s2 rmdir_change reading_of_directory new_reading next_removal rmdir_takes rmdir_room (entry_two (since n)) (lit≤ tt) refl
    shape (λ ino index b is. clash (named_block new_reading ino index) b (new_names ino index) is)
    (λ ino p value b has names touches. clash (named_block new_reading ino (p / 4096)) b (new_names ino (p / 4096)) names) in
    let s4 = leaves s3 0 0 (journal_after smallest (inside journal_one) rmdir_change).unspent refl (omega arith) (λ last. refl) in
    let s5 = commits s4 2 refl rmdir_may_commit in
    let s6 = tells s5 1 (record { entry = entry_two (since n); is = refl; untold = refl; published_if = λ sync. absurd (false≢true sync) }) in
    (record (since n) { told = Some (length s5.r.calls) }, s6)
