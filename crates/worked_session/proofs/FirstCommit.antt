-- The session up to the first commit: a directory is made, in block 38.
use Rattle.std.proofs.Common.{◌≡◌, ◌≤◌, ℕ, ◌/◌, true, [], ◌∷◌, length, Some, refl, sym, ap, ◌∙◌, arith, lit≤, lit<}
use Rattle.std.specs.Prelude.{All}
use Rattle.std.proofs.lemmas.Bool.{false≢true}
use Rattle.std.proofs.lemmas.List.Elements.{All-cons, All-nil}
use Rattle.volume_model.specs.Format.{Blocks}
use Rattle.volume_model.specs.Log.{delta_bytes}
use Rattle.volume_model.specs.Sound.{shape_of, tree_of}
use Rattle.volume_model.specs.Worked.{smallest}
use Rattle.history_model.specs.Histories.{replay_of}
use Rattle.history_model.specs.WorkedTrees.{new_tree}
use Rattle.journal_model.specs.Versions.{Version}
use Rattle.journal_model.specs.Batches.{is_released}
use Rattle.journal_model.specs.Room.{HasSpaceFor}
use Rattle.history_laws.specs.Named.{named_block}
use Rattle.history_laws.specs.Volumes.{Volume}
use Rattle.history_laws.specs.WorkedSession.{Times, volume_as_made}
use Rattle.meta_store.specs.Merged.{placed, merged, all_merged}
use Rattle.store_laws.specs.Tied.{running_with, journal_after}
use Rattle.worked_session.specs.FourChanges.{mkdir_change, new_reading, reading_of_directory}
use Rattle.worked_session.specs.FiveEntries.{entry_one}
use Rattle.worked_session.specs.Journals.{first_journal, inside, with_directory, journal_one, history_of}
use Rattle.worked_session.specs.Stages.{Stage}
use Rattle.worked_session.proofs.Commits.{MayCommit, commits}
use Rattle.worked_session.proofs.FiveBegun.{since, one_begins}
use Rattle.worked_session.proofs.FourNames.{clash, directory_names}
use Rattle.worked_session.proofs.FourNext.{three, four, next_directory}
use Rattle.worked_session.proofs.FourReadings.{blocks_of_directory}
use Rattle.worked_session.proofs.FourTrees.{directory_shape, after_one}
use Rattle.worked_session.proofs.Opening.{opening_stage}
use Rattle.worked_session.proofs.StageSteps.{change_stage, drafted_reads}
use Rattle.worked_session.proofs.Transitions.{begins, admits, leaves, tells}

mkdir_fits : HasSpaceFor smallest first_journal 4000
mkdir_fits = lit≤ tt

-- block 38 may be given out
mkdir_takes : All (λ b. is_released (inside first_journal) b ≡ true) mkdir_change.taken
mkdir_takes = All-cons (λ b. is_released (inside first_journal) b ≡ true) 38 [] refl (All-nil (λ b. is_released (inside first_journal) b ≡ true))

mkdir_room : delta_bytes mkdir_change.deltas ≤ (inside first_journal).unspent
mkdir_room = lit≤ tt

mkdir_may_commit : MayCommit with_directory
unfolding all_merged merged placed
mkdir_may_commit = record { none = refl; idle = refl; fits = lit≤ tt; number = lit< tt; turn = record { sectors = lit≤ tt; places = lit≤ tt } }

pub first_commit : (from : Volume) × (one : Times) × Stage from journal_one (history_of (entry_one one ∷ []) (1 ∷ [])) (λ w. 1) blocks_of_directory four
first_commit =
    let from = opening_stage.0 in
    let s0 = opening_stage.1 in
    let n = length s0.r.calls in
    let s1 = begins s0 (entry_one (since n)) (one_begins n) in
    let s2 = admits s1 4000 mkdir_fits in
    let x : Blocks = running_with smallest s2.r (inside first_journal) mkdir_change in
    let h = history_of (entry_one (since n) ∷ []) [] in
    let held : Version → ℕ = λ v. 0 in
    let reads = drafted_reads from (inside first_journal) h held volume_as_made blocks_of_directory three four s2 mkdir_change new_reading reading_of_directory next_directory mkdir_takes mkdir_room in
    let shape : shape_of (tree_of smallest x) ≡ shape_of (replay_of smallest 1000 new_tree h.entries 1) = directory_shape x reads ∙ sym (ap shape_of (after_one (since n))) in
    let s3 = change_stage from (inside first_journal) h held volume_as_made blocks_of_directory three four s2 mkdir_change new_reading reading_of_directory next_directory mkdir_takes mkdir_room (entry_one (since n)) (lit≤ tt) refl
    shape (λ ino index b is. clash (named_block reading_of_directory ino index) b (directory_names ino index) is)
    (λ ino p value b has names touches. clash (named_block reading_of_directory ino (p / 4096)) b (directory_names ino (p / 4096)) names) in
    let s4 = leaves s3 0 0 (journal_after smallest (inside first_journal) mkdir_change).unspent refl (omega arith) (λ last. refl) in
    let s5 = commits s4 1 refl mkdir_may_commit in
    let s6 = tells s5 0 (record { entry = entry_one (since n); is = refl; untold = refl; published_if = λ sync. absurd (false≢true sync) }) in
    (from, record (since n) { told = Some (length s5.r.calls) }, s6)
