-- Each of the four changes leads from one of the readings to the next.
use Rattle.std.proofs.Common.{◌≡◌, ◌<◌, inl, inr, ℕ, eqb, true, false, ◌&&◌, ◌||◌, List, [], ◌∷◌, length, replicate, None, refl, sym, ap, subst, ◌∙◌, arith}
use Rattle.std.specs.List.{list_all, range_with_len}
use Rattle.std.proofs.lemmas.List.{length-replicate}
use Rattle.std.proofs.lemmas.Bool.{cases_lt, true≢false, false≢true, or_cases, eqb-true}
use Rattle.lufs_base.specs.Fields.{put_at}
use Rattle.lufs_base.proofs.Written.{put_at_all}
use Rattle.volume_model.specs.Format.{Blocks, group_bytes, dinode_bytes, chunk_bytes, super_bytes, new_directory}
use Rattle.volume_model.specs.Log.{header_bytes}
use Rattle.volume_model.specs.MkfsImage.{made_block}
use Rattle.volume_model.specs.Sound.{Reading, reading_of, is_among, claims_of, metadata_length, finding_of, IsLaid}
use Rattle.volume_model.specs.Worked.{smallest}
use Rattle.volume_laws.proofs.LaidClaims.{sound_is_laid}
use Rattle.journal_model.specs.BlockRoles.{Metadata}
use Rattle.history_laws.specs.VolumeRoles.{role_of}
use Rattle.history_laws.specs.WorkedSession.{volume_as_made}
use Rattle.worked_session.specs.FourChanges.{mkdir_change, rmdir_change, create_change, write_change, new_reading, reading_of_directory, reading_of_file, reading_of_letters}
use Rattle.worked_session.proofs.LaidEach.{laid_each, same_laid}
use Rattle.worked_session.proofs.Checks.{on_each, none_past}
use Rattle.worked_session.proofs.FourReadings.{blocks_of_directory, new_is_read, directory_is_read, blocks_of_removal, removal_is_read, blocks_of_file, file_is_read, blocks_of_letters, letters_are_read}
use Rattle.worked_session.proofs.FourTests.{new_is_right, directory_is_right, file_is_right, letters_are_right, mkdir_passes, rmdir_passes, create_passes, write_passes}
use Rattle.worked_session.proofs.FourLoggable.{mkdir_loggable, rmdir_loggable, create_loggable, write_loggable}
use Rattle.worked_session.proofs.StageSteps.{IsNext, sound_by_reading}

-- the blocks that hold metadata, but for the directory's, and with it
abbrev pub three : List ℕ
three = 35 ∷ (36 ∷ (37 ∷ []))

abbrev pub four : List ℕ
four = 35 ∷ (36 ∷ (37 ∷ (38 ∷ [])))

pub of_three : (P : ℕ → Type 0) → P 35 → P 36 → P 37 → (b : ℕ) → is_among b three ≡ true → P b
of_three P at_35 at_36 at_37 b among = elim (or_cases (eqb 35 b) (eqb 36 b || (eqb 37 b || false)) among) [
  | inl is ↦ subst P (eqb-true 35 b is) at_35
  | inr rest ↦ elim (or_cases (eqb 36 b) (eqb 37 b || false) rest) [
    | inl is ↦ subst P (eqb-true 36 b is) at_36
    | inr last ↦ elim (or_cases (eqb 37 b) false last) [
      | inl is ↦ subst P (eqb-true 37 b is) at_37
      | inr none ↦ absurd (false≢true none)
    ]
  ]
]

pub of_four : (P : ℕ → Type 0) → P 35 → P 36 → P 37 → P 38 → (b : ℕ) → is_among b four ≡ true → P b
of_four P at_35 at_36 at_37 at_38 b among = elim (or_cases (eqb 35 b) (eqb 36 b || (eqb 37 b || (eqb 38 b || false))) among) [
  | inl is ↦ subst P (eqb-true 35 b is) at_35
  | inr rest ↦ elim (or_cases (eqb 36 b) (eqb 37 b || (eqb 38 b || false)) rest) [
    | inl is ↦ subst P (eqb-true 36 b is) at_36
    | inr more ↦ elim (or_cases (eqb 37 b) (eqb 38 b || false) more) [
      | inl is ↦ subst P (eqb-true 37 b is) at_37
      | inr last ↦ elim (or_cases (eqb 38 b) false last) [
        | inl is ↦ subst P (eqb-true 38 b is) at_38
        | inr none ↦ absurd (false≢true none)
      ]
    ]
  ]
]

-- no other block holds any
only_these : (map_of : Blocks) (r : Reading) (those : List ℕ) → reading_of smallest map_of ≡ r → finding_of smallest r [] ≡ None
    → list_all (λ b. is_among b those || eqb (metadata_length smallest r b) 0) (range_with_len 0 99) ≡ true → (b : ℕ) → is_among b those ≡ false → metadata_length smallest r b ≡ 0
only_these map_of r those is right test b away = elim (cases_lt b 99) [
  | inl low ↦ elim (or_cases (is_among b those) (eqb (metadata_length smallest r b) 0) (on_each (λ b. is_among b those || eqb (metadata_length smallest r b) 0) 99 b test low)) [
    | inl among ↦ absurd (true≢false (sym among ∙ away))
    | inr none ↦ eqb-true (metadata_length smallest r b) 0 none
  ]
  | inr past ↦
      let laid : IsLaid smallest r = subst (IsLaid smallest) is (sound_is_laid smallest map_of [] (sound_by_reading map_of r is right)) in
      none_past smallest r laid b past
]

pub only_new : (b : ℕ) → is_among b three ≡ false → metadata_length smallest new_reading b ≡ 0
unfolding claims_of metadata_length
only_new = only_these volume_as_made new_reading three new_is_read new_is_right refl

pub only_directory : (b : ℕ) → is_among b four ≡ false → metadata_length smallest reading_of_directory b ≡ 0
unfolding claims_of metadata_length
only_directory = only_these blocks_of_directory reading_of_directory four directory_is_read directory_is_right refl

only_file : (b : ℕ) → is_among b three ≡ false → metadata_length smallest reading_of_file b ≡ 0
unfolding claims_of metadata_length
only_file = only_these blocks_of_file reading_of_file three file_is_read file_is_right refl

pub only_letters : (b : ℕ) → is_among b three ≡ false → metadata_length smallest reading_of_letters b ≡ 0
unfolding claims_of metadata_length
only_letters = only_these blocks_of_letters reading_of_letters three letters_are_read letters_are_right refl

pub new_metadata : (b : ℕ) → is_among b three ≡ true → role_of smallest new_reading b ≡ Metadata 4096
unfolding claims_of role_of
new_metadata = of_three (λ b. role_of smallest new_reading b ≡ Metadata 4096) refl refl refl

directory_metadata : (b : ℕ) → is_among b four ≡ true → role_of smallest reading_of_directory b ≡ Metadata 4096
unfolding claims_of role_of
directory_metadata = of_four (λ b. role_of smallest reading_of_directory b ≡ Metadata 4096) refl refl refl refl

file_metadata : (b : ℕ) → is_among b three ≡ true → role_of smallest reading_of_file b ≡ Metadata 4096
unfolding claims_of role_of
file_metadata = of_three (λ b. role_of smallest reading_of_file b ≡ Metadata 4096) refl refl refl

letters_metadata : (b : ℕ) → is_among b three ≡ true → role_of smallest reading_of_letters b ≡ Metadata 4096
unfolding claims_of role_of
letters_metadata = of_three (λ b. role_of smallest reading_of_letters b ≡ Metadata 4096) refl refl refl

-- what a zero block leaves
zeroed : (bytes : List ℕ) → length bytes ≡ 4096 → put_at bytes 0 (replicate 4096 0) ≡ replicate 4096 0
zeroed bytes long = put_at_all bytes (replicate 4096 0) (length-replicate {A = ℕ} 4096 0 ∙ sym long)

made_long : length (volume_as_made 38) ≡ 4096
unfolding made_block super_bytes header_bytes group_bytes dinode_bytes
made_long = refl

directory_laid : (x : Blocks) → ((b : ℕ) → is_among b three ≡ true → x b ≡ volume_as_made b) → ((b : ℕ) → b < 99 → length (x b) ≡ 4096) → (b : ℕ) → is_among b four ≡ true
    → laid_each x mkdir_change.deltas b ≡ blocks_of_directory b
unfolding blocks_of_directory
directory_laid x same long = of_four (λ b. laid_each x mkdir_change.deltas b ≡ laid_each volume_as_made mkdir_change.deltas b)
    (same_laid x volume_as_made mkdir_change.deltas 35 (same 35 refl)) (same_laid x volume_as_made mkdir_change.deltas 36 (same 36 refl)) (same_laid x volume_as_made mkdir_change.deltas 37 (same 37 refl))
    (ap (λ (bytes : List ℕ). put_at bytes 0 (chunk_bytes (new_directory 3 2))) (zeroed (x 38) (long 38 (omega arith)) ∙ sym (zeroed (volume_as_made 38) made_long)))

pub next_directory : IsNext mkdir_change new_reading reading_of_directory volume_as_made blocks_of_directory three four
next_directory = record {
  read = new_is_read;
  read_after = directory_is_read;
  only = only_new;
  only_after = only_directory;
  laid = directory_laid;
  passed = mkdir_passes;
  right = new_is_right;
  right_after = directory_is_right;
  loggable = mkdir_loggable;
  cancels = λ b. refl;
  metadata = directory_metadata;
}

pub next_removal : IsNext rmdir_change reading_of_directory new_reading blocks_of_directory blocks_of_removal four three
unfolding blocks_of_removal
next_removal = record {
  read = directory_is_read;
  read_after = removal_is_read;
  only = only_directory;
  only_after = only_new;
  laid = λ x same long. of_three (λ b. laid_each x rmdir_change.deltas b ≡ laid_each blocks_of_directory rmdir_change.deltas b)
      (same_laid x blocks_of_directory rmdir_change.deltas 35 (same 35 refl)) (same_laid x blocks_of_directory rmdir_change.deltas 36 (same 36 refl))
      (same_laid x blocks_of_directory rmdir_change.deltas 37 (same 37 refl));
  passed = rmdir_passes;
  right = directory_is_right;
  right_after = new_is_right;
  loggable = rmdir_loggable;
  cancels = λ b. elim (eqb 38 b) as (λ t. (t || false) ≡ ((t && true) || false)) [ true ↦ refl | false ↦ refl ];
  metadata = new_metadata;
}

pub next_file : IsNext create_change new_reading reading_of_file blocks_of_removal blocks_of_file three three
unfolding blocks_of_file
next_file = record {
  read = removal_is_read;
  read_after = file_is_read;
  only = only_new;
  only_after = only_file;
  laid = λ x same long. of_three (λ b. laid_each x create_change.deltas b ≡ laid_each blocks_of_removal create_change.deltas b)
      (same_laid x blocks_of_removal create_change.deltas 35 (same 35 refl)) (same_laid x blocks_of_removal create_change.deltas 36 (same 36 refl))
      (same_laid x blocks_of_removal create_change.deltas 37 (same 37 refl));
  passed = create_passes;
  right = new_is_right;
  right_after = file_is_right;
  loggable = create_loggable;
  cancels = λ b. refl;
  metadata = file_metadata;
}

pub next_letters : IsNext write_change reading_of_file reading_of_letters blocks_of_file blocks_of_letters three three
unfolding blocks_of_letters
next_letters = record {
  read = file_is_read;
  read_after = letters_are_read;
  only = only_file;
  only_after = only_letters;
  laid = λ x same long. of_three (λ b. laid_each x write_change.deltas b ≡ laid_each blocks_of_file write_change.deltas b)
      (same_laid x blocks_of_file write_change.deltas 35 (same 35 refl)) (same_laid x blocks_of_file write_change.deltas 36 (same 36 refl))
      (same_laid x blocks_of_file write_change.deltas 37 (same 37 refl));
  passed = write_passes;
  right = file_is_right;
  right_after = letters_are_right;
  loggable = write_loggable;
  cancels = λ b. refl;
  metadata = letters_metadata;
}
