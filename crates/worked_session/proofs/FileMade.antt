-- The session up to the file, which is empty.
use Rattle.std.proofs.Common.{◌≡◌, ◌≤◌, ℕ, ◌/◌, true, [], ◌∷◌, length, Some, refl, sym, ap, ◌∙◌, arith, lit≤}
use Rattle.std.specs.Prelude.{All}
use Rattle.std.proofs.lemmas.Bool.{false≢true}
use Rattle.std.proofs.lemmas.List.Elements.{All-nil}
use Rattle.volume_model.specs.Format.{Blocks}
use Rattle.volume_model.specs.Log.{delta_bytes}
use Rattle.volume_model.specs.Sound.{shape_of, tree_of}
use Rattle.volume_model.specs.Worked.{smallest}
use Rattle.history_model.specs.Histories.{replay_of}
use Rattle.history_model.specs.WorkedTrees.{new_tree}
use Rattle.journal_model.specs.Versions.{Version}
use Rattle.journal_model.specs.Batches.{is_released}
use Rattle.journal_model.specs.Room.{HasSpaceFor}
use Rattle.history_laws.specs.Applied.{with_running}
use Rattle.history_laws.specs.Named.{named_block}
use Rattle.history_laws.specs.Volumes.{Volume}
use Rattle.history_laws.specs.WorkedSession.{Times}
use Rattle.meta_store.specs.Merged.{placed, merged, all_merged}
use Rattle.store_laws.specs.Tied.{running_with, journal_after}
use Rattle.worked_session.specs.FourChanges.{create_change, new_reading, reading_of_file}
use Rattle.worked_session.specs.FiveEntries.{entry_one, entry_two, entry_three}
use Rattle.worked_session.specs.Journals.{inside, journal_two, with_file, history_of}
use Rattle.worked_session.specs.Stages.{Stage}
use Rattle.worked_session.proofs.FiveBegun.{since, three_begins}
use Rattle.worked_session.proofs.FourNames.{clash, file_names}
use Rattle.worked_session.proofs.FourNext.{three, next_file}
use Rattle.worked_session.proofs.FourReadings.{blocks_of_removal, blocks_of_file}
use Rattle.worked_session.proofs.FourTrees.{file_shape, after_three}
use Rattle.worked_session.proofs.StageSteps.{change_stage, drafted_reads}
use Rattle.worked_session.proofs.Transitions.{begins, admits, leaves, tells}

create_fits : HasSpaceFor smallest journal_two 4000
unfolding all_merged merged placed
create_fits = lit≤ tt

create_takes : All (λ b. is_released (inside journal_two) b ≡ true) create_change.taken
create_takes = All-nil (λ b. is_released (inside journal_two) b ≡ true)

create_room : delta_bytes create_change.deltas ≤ (inside journal_two).unspent
create_room = lit≤ tt

pub file_made : (from : Volume) (one two : Times) → Stage from journal_two (history_of (entry_one one ∷ (entry_two two ∷ [])) (1 ∷ (2 ∷ []))) (λ w. 2) blocks_of_removal three
    → (made : Times) × Stage from with_file (history_of (entry_one one ∷ (entry_two two ∷ (entry_three made ∷ []))) (1 ∷ (2 ∷ []))) (with_running (λ w. 2) 3) blocks_of_file three
file_made from one two s0 =
    let n = length s0.r.calls in
    let s1 = begins s0 (entry_three (since n)) (three_begins one two n) in
    let s2 = admits s1 4000 create_fits in
    let x : Blocks = running_with smallest s2.r (inside journal_two) create_change in
    let h = history_of (entry_one one ∷ (entry_two two ∷ (entry_three (since n) ∷ []))) (1 ∷ (2 ∷ [])) in
    let held : Version → ℕ = λ v. 2 in
    let reads = drafted_reads from (inside journal_two) h held blocks_of_removal blocks_of_file three three s2 create_change new_reading reading_of_file next_file create_takes create_room in
    let shape : shape_of (tree_of smallest x) ≡ shape_of (replay_of smallest 1000 new_tree h.entries 3) = file_shape x reads ∙ sym (ap shape_of (after_three one two (since n))) in
    let s3 = change_stage from (inside journal_two) h held blocks_of_removal blocks_of_file three three s2 create_change new_reading reading_of_file next_file create_takes create_room (entry_three (since n)) (lit≤ tt) refl
    shape (λ ino index b is. clash (named_block reading_of_file ino index) b (file_names ino index) is)
    (λ ino p value b has names touches. clash (named_block reading_of_file ino (p / 4096)) b (file_names ino (p / 4096)) names) in
    let s4 = leaves s3 0 0 (journal_after smallest (inside journal_two) create_change).unspent refl (omega arith) (λ last. refl) in
    let s5 = tells s4 2 (record { entry = entry_three (since n); is = refl; untold = refl; published_if = λ sync. absurd (false≢true sync) }) in
    (record (since n) { told = Some (length s4.r.calls) }, s5)
