-- The session as a whole.
use Rattle.std.proofs.Common.{◌≡◌, List, [], ◌∷◌, ◌++◌, map, length, refl, sym, ap, ◌∙◌}
use Rattle.std.specs.List.{range_with_len}
use Rattle.std.proofs.lemmas.List.{append-nil}
use Rattle.lufs_base.specs.declared.delta.Delta.{Delta}
use Rattle.volume_model.specs.declared.log.Tx.{Tx}
use Rattle.volume_model.specs.Format.{Image, block, new_directory}
use Rattle.volume_model.specs.Crash.{present_of}
use Rattle.volume_model.specs.Log.{live_deltas, recovered_byte, replayed}
use Rattle.volume_model.specs.Sound.{Reading, reading_of, used_at}
use Rattle.volume_model.specs.Worked.{smallest}
use Rattle.journal_model.specs.Versions.{Published, running_tx}
use Rattle.journal_laws.proofs.KeptSteps.{geometry_of_safe}
use Rattle.journal_laws.proofs.VersionBytes.{live_none}
use Rattle.history_laws.specs.Named.{named_block}
use Rattle.history_laws.specs.Published.{reading_in}
use Rattle.history_laws.specs.Volumes.{Volume}
use Rattle.history_laws.specs.WorkedSession.{Times}
use Rattle.store_laws.specs.Tied.{running_image}
use Rattle.worked_session.specs.FourChanges.{used_with, directory_three, reading_of_directory, reading_of_letters}
use Rattle.worked_session.specs.FiveEntries.{entry_one, entry_two, entry_three, entry_four, entry_five, times_of}
use Rattle.worked_session.specs.Journals.{journal_one, journal_three, history_of}
use Rattle.worked_session.specs.Stages.{at_volume, Stage}
use Rattle.worked_session.specs.BlockUsedAgain.{BlockUsedAgain}
use Rattle.worked_session.proofs.FirstCommit.{first_commit}
use Rattle.worked_session.proofs.SecondCommit.{second_commit}
use Rattle.worked_session.proofs.FileMade.{file_made}
use Rattle.worked_session.proofs.LettersWritten.{file_synced}
use Rattle.worked_session.proofs.FourNext.{three, four, only_directory, only_letters}
use Rattle.worked_session.proofs.FourReadings.{blocks_of_directory, directory_is_read, blocks_of_letters, letters_are_read}
use Rattle.worked_session.proofs.StageSteps.{keeps, reads_as}
use Rattle.worked_session.proofs.Transitions.{from_here}

-- where nothing is sealed and nothing running, what is published is what calls see
same_replayed : (home : Image) (txs : List Tx) (e : Tx) → e.deltas ≡ [] → replayed home (txs ++ []) ≡ replayed home (txs ++ ([] ++ e ∷ []))
unfolding replayed
same_replayed home txs e none =
    ap (λ (l : List Tx). map (recovered_byte home (live_deltas l)) (range_with_len 0 (length home))) (append-nil txs)
    ∙ ap (λ (live : List Delta). map (recovered_byte home live) (range_with_len 0 (length home))) (sym (live_none txs e none))

directory_published : (from : Volume) (one : Times) (s : Stage from journal_one (history_of (entry_one one ∷ []) (1 ∷ [])) (λ w. 1) blocks_of_directory four)
    → reading_in smallest journal_one (present_of s.r) Published ≡ reading_of_directory
directory_published from one s =
    let ok = geometry_of_safe smallest s.roles s.r journal_one (keeps from journal_one (history_of (entry_one one ∷ []) (1 ∷ [])) (λ w. 1) blocks_of_directory four s).safe in
    ap (λ (image : Image). reading_of smallest (block image)) (same_replayed (present_of s.r) journal_one.committed (running_tx smallest journal_one) refl)
    ∙ reads_as blocks_of_directory (block (running_image smallest s.r journal_one)) four reading_of_directory ok directory_is_read only_directory s.blocks

letters_published : (from : Volume) (one two made wrote synced : Times)
    (s : Stage from journal_three (history_of (entry_one one ∷ (entry_two two ∷ (entry_three made ∷ (entry_four wrote ∷ (entry_five synced ∷ []))))) (1 ∷ (2 ∷ (5 ∷ [])))) (λ w. 5) blocks_of_letters three)
    → reading_in smallest journal_three (present_of s.r) Published ≡ reading_of_letters
letters_published from one two made wrote synced s =
    let h = history_of (entry_one one ∷ (entry_two two ∷ (entry_three made ∷ (entry_four wrote ∷ (entry_five synced ∷ []))))) (1 ∷ (2 ∷ (5 ∷ []))) in
    let ok = geometry_of_safe smallest s.roles s.r journal_three (keeps from journal_three h (λ w. 5) blocks_of_letters three s).safe in
    ap (λ (image : Image). reading_of smallest (block image)) (same_replayed (present_of s.r) journal_three.committed (running_tx smallest journal_three) refl)
    ∙ reads_as blocks_of_letters (block (running_image smallest s.r journal_three)) three reading_of_letters ok letters_are_read only_letters s.blocks

pub whole_session : BlockUsedAgain
whole_session =
    let begun = first_commit in
    let one = begun.1 in
    let first = begun.2 in
    let middle : Volume = at_volume first.r journal_one first.roles (history_of (entry_one one ∷ []) (1 ∷ [])) (λ w. 1) in
    let removed = second_commit middle one (from_here first) in
    let two = removed.0 in
    let file = file_made middle one two removed.1 in
    let made = file.0 in
    let synced = file_synced middle one two made file.1 in
    let wrote = synced.0 in
    let told = synced.1 in
    let last = synced.3 in
    let h = history_of (entry_one one ∷ (entry_two two ∷ (entry_three made ∷ (entry_four wrote ∷ (entry_five told ∷ []))))) (1 ∷ (2 ∷ (5 ∷ []))) in
    let end : Volume = at_volume last.r journal_three last.roles h (λ w. 5) in
    record {
      when = times_of one two made wrote told;
      end = end;
      session = last.session;
      entries = refl;
      commits = refl;
      told = synced.2;
      middle = middle;
      began = first.session;
      goes_on = last.since;
      first_commit = refl;
      directory = record {
        inode = used_with directory_three (new_directory 3 2 ∷ []);
        used = ap (λ (r : Reading). used_at r 3) (directory_published begun.0 one first);
        directory = refl;
        first = refl;
      };
      file = ap (λ (r : Reading). named_block r 3 0) (letters_published middle one two made wrote told last);
    }
