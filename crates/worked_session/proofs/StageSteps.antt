-- From one stage of the session to the next: by a step that carries the running version, and by a change.
use Rattle.std.proofs.Common.{◌≡◌, ◌<◌, ◌≤◌, inl, inr, ℕ, suc, ◌+◌, ◌*◌, true, false, List, [], length, take, drop, length-take, length-drop, Some, None, refl, sym, ap, subst, ◌∙◌, arith}
use Rattle.std.specs.Prelude.{All}
use Rattle.std.proofs.lemmas.Bool.{cases_Bool, false≢true}
use Rattle.std.proofs.lemmas.List.{take_all}
use Rattle.std.proofs.lemmas.List.Elements.{All-nil}
use Rattle.lufs_base.specs.Layout.{IsGeometry, blocks_of}
use Rattle.lufs_base.specs.declared.geometry.Geometry.{Geometry}
use Rattle.tree_types.specs.declared.history.Entry.{Entry}
use Rattle.volume_model.specs.declared.device_call.DeviceCall.{DeviceCall}
use Rattle.volume_model.specs.Format.{Image, Blocks, block}
use Rattle.volume_model.specs.Crash.{with_calls, image_after, present_of}
use Rattle.volume_model.specs.Log.{AreLoggable, delta_bytes}
use Rattle.volume_model.specs.Sound.{Reading, reading_of, is_among, metadata_length, IsLaid, AgreeButInFileBytes, AreApart, Sound, finding_of, tree_of, shape_of}
use Rattle.volume_model.specs.Worked.{smallest}
use Rattle.volume_model.proofs.ReplayLaws.{length-replayed, byte_replayed}
use Rattle.volume_laws.proofs.LaidClaims.{sound_is_laid}
use Rattle.volume_laws.proofs.SameReading.{reading_same}
use Rattle.history_model.specs.Histories.{History, entry_at, replay_of}
use Rattle.history_model.specs.WorkedTrees.{new_tree}
use Rattle.journal_model.specs.Journals.{Journal}
use Rattle.journal_model.specs.Versions.{Version, Running, txs_of}
use Rattle.journal_model.specs.LaidBlocks.{is_cancelled_in}
use Rattle.journal_model.specs.BlockRoles.{Metadata, Roles, Move, Stays, Seals, Publishes, Changes, moved, moved_from, is_carried, is_claimed}
use Rattle.journal_model.specs.Batches.{is_released}
use Rattle.journal_model.specs.SafeImages.{GivesMetadata}
use Rattle.journal_model.specs.Steps.{Step}
use Rattle.journal_laws.proofs.KeptSteps.{geometry_of_safe, step_keeps, step_versions}
use Rattle.journal_laws.proofs.Outcomes.{blocks_fit, size_of_present}
use Rattle.journal_laws.proofs.RollFacts.{geometry_at_home}
use Rattle.history_laws.specs.Applied.{with_running, NamesStay, AreTouchedPresent}
use Rattle.history_laws.specs.Volumes.{Volume, KeepsHistory}
use Rattle.history_laws.specs.VolumeRoles.{role_of}
use Rattle.history_laws.specs.VolumeSteps.{VolumeStep}
use Rattle.history_laws.specs.Sessions.{Session, Steps}
use Rattle.history_laws.specs.WholeFiles.{HasWholeFiles}
use Rattle.history_laws.specs.WorkedSession.{new_disk}
use Rattle.history_laws.proofs.SameMetadata.{same_front}
use Rattle.history_laws.proofs.SessionSteps.{session_keeps}
use Rattle.history_laws.proofs.WholeOpenings.{whole_session}
use Rattle.meta_store.specs.declared.change.Change.{Change as StoreChange}
use Rattle.meta_store.specs.declared.change.RawWrite.{RawWrite}
use Rattle.meta_store.specs.Store.{no_disk}
use Rattle.meta_store.specs.Changing.{AllTold}
use Rattle.meta_store.specs.Changes.{changed, frees_metadata, deltas_on, writes_of}
use Rattle.meta_store.specs.Conditions.{IsInBlock, MayFollow}
use Rattle.meta_store.specs.Laid.{laid_over}
use Rattle.meta_store.proofs.MergedTable.{each_loggable}
use Rattle.store_laws.specs.Tied.{MayChange, running_image, running_with, roles_with, journal_after, with_entry}
use Rattle.store_laws.proofs.ReadsStay.{still_read}
use Rattle.store_laws.proofs.StepsOfChanges.{bytes_changed, read_after}
use Rattle.store_laws.proofs.VolumesOfChanges.{applied_step}
use Rattle.worked_session.specs.Stages.{at_volume, Leads, Goes, Stage}
use Rattle.worked_session.proofs.LaidEach.{laid_each, each_laid}
use Rattle.worked_session.proofs.Checks.{ArePassed, follows_by_tests}
use Rattle.worked_session.proofs.FourTests.{taken_by}

block_fits : (image : Image) (b : ℕ) → length (block image b) ≤ 4096
block_fits image b = omega (arith, length-take 4096 (drop (512 * (8 * b)) image))

pub whole_block : (image : Image) (b : ℕ) → take 4096 (block image b) ≡ block image b
whole_block image b = take_all 4096 (block image b) (block_fits image b)

same_moved : (move : Move) → is_carried move Running ≡ true → moved_from move Running ≡ Running
same_moved Stays carried = refl
same_moved Seals carried = refl
same_moved Publishes carried = refl
same_moved (Changes to) carried = absurd (false≢true carried)

role_same : (move : Move) (roles : Roles) → is_carried move Running ≡ true → (b : ℕ) → moved move roles Running b ≡ roles Running b
role_same Stays roles carried b = refl
role_same Seals roles carried b = refl
role_same Publishes roles carried b = refl
role_same (Changes to) roles carried b = absurd (false≢true carried)

module _ (from : Volume) (j : Journal) (h : History) (held : Version → ℕ) (map_of : Blocks) (those : List ℕ) (s : Stage from j h held map_of those) where
  pub keeps : KeepsHistory smallest 1000 new_tree 0 (at_volume s.r j s.roles h held)
  keeps = session_keeps smallest 1000 new_tree new_disk (at_volume s.r j s.roles h held) s.session

  -- a step that carries the running version
  module _ (k : Journal) (move : Move) (calls : List DeviceCall) (step : Step smallest s.roles (present_of s.r) j move calls k) (carried : is_carried move Running ≡ true) where
    gives : GivesMetadata (moved move s.roles Running) (present_of s.r) (txs_of smallest j Running) (present_of (with_calls s.r calls)) (txs_of smallest k Running)
    gives =
        subst (λ (u : Version). GivesMetadata (moved move s.roles Running) (present_of s.r) (txs_of smallest j u) (present_of (with_calls s.r calls)) (txs_of smallest k Running)) (same_moved move carried)
        (step_versions smallest s.roles s.r j k move calls Running keeps.safe step carried)

    size : length (running_image smallest (with_calls s.r calls) k) ≡ length (running_image smallest s.r j)
    size =
        length-replayed (present_of (with_calls s.r calls)) (txs_of smallest k Running)
        ∙ size_of_present (with_calls s.r calls) (step_keeps smallest s.roles s.r j k move calls keeps.safe step).sectors ∙ sym (size_of_present s.r keeps.safe.sectors)
        ∙ sym (length-replayed (present_of s.r) (txs_of smallest j Running))

    carried_block : (b : ℕ) → s.roles Running b ≡ Metadata 4096 → block (running_image smallest (with_calls s.r calls) k) b ≡ block (running_image smallest s.r j) b
    carried_block b is =
        sym (whole_block (running_image smallest (with_calls s.r calls) k) b)
        ∙ same_front (running_image smallest s.r j) (running_image smallest (with_calls s.r calls) k) b 4096 size (λ i low inside there.
        byte_replayed (present_of (with_calls s.r calls)) (txs_of smallest k Running) (4096 * b + i) (omega (arith, there, size, length-replayed (present_of (with_calls s.r calls)) (txs_of smallest k Running)))
        ∙ gives.each b 4096 i (role_same move s.roles carried b ∙ is) inside
        ∙ sym (byte_replayed (present_of s.r) (txs_of smallest j Running) (4096 * b + i) (omega (arith, there, length-replayed (present_of s.r) (txs_of smallest j Running)))))
        ∙ whole_block (running_image smallest s.r j) b

    pub carry : (new : History) (holds : Version → ℕ) → Session smallest 1000 new_tree new_disk (at_volume (with_calls s.r calls) k (moved move s.roles) new holds)
        → Leads from (at_volume (with_calls s.r calls) k (moved move s.roles) new holds) → Stage from k new holds map_of those
    carry new holds session since = record {
      r = with_calls s.r calls;
      roles = moved move s.roles;
      session = session;
      since = since;
      read = still_read smallest s.roles s.r j k move calls keeps.safe step carried keeps.running.read s.read;
      blocks = λ b among. carried_block b (s.metadata b among) ∙ s.blocks b among;
      metadata = λ b among. role_same move s.roles carried b ∙ s.metadata b among;
    }

-- the same, which has those calls
module _ (from : Volume) (j : Journal) (h : History) (held : Version → ℕ) (map_of : Blocks) (those : List ℕ) (s : Stage from j h held map_of those) (k : Journal) (move : Move) (calls : List DeviceCall)
    (step : Step smallest s.roles (present_of s.r) j move calls k) (carried : is_carried move Running ≡ true) where
  pub carry_at : (new : History) (holds : Version → ℕ) → Session smallest 1000 new_tree new_disk (at_volume (with_calls s.r calls) k (moved move s.roles) new holds)
      → Leads from (at_volume (with_calls s.r calls) k (moved move s.roles) new holds) → (w : Stage from k new holds map_of those) × (w.r ≡ with_calls s.r calls)
  unfolding carry
  carry_at new holds session since = (carry from j h held map_of those s k move calls step carried new holds session since, refl)

-- A volume reads as this map of blocks where these have its bytes, and hold all the metadata.
pub reads_as : (map_of x : Blocks) (those : List ℕ) (r : Reading) → IsGeometry smallest → reading_of smallest map_of ≡ r → ((b : ℕ) → is_among b those ≡ false → metadata_length smallest r b ≡ 0)
    → ((b : ℕ) → is_among b those ≡ true → x b ≡ map_of b) → reading_of smallest x ≡ r
reads_as map_of x those r ok is only same = reading_same smallest map_of x ok agree ∙ is
  where
    none : (bytes others : List ℕ) (n : ℕ) → n ≡ 0 → take n bytes ≡ take n others
    none bytes others n zero_is = ap (λ (k : ℕ). take k bytes) zero_is ∙ sym (ap (λ (k : ℕ). take k others) zero_is)

    agree : AgreeButInFileBytes smallest map_of x
    agree b = elim (cases_Bool (is_among b those)) [
      | inl here ↦ ap (take (metadata_length smallest (reading_of smallest map_of) b)) (same b here)
      | inr away ↦ none (x b) (map_of b) (metadata_length smallest (reading_of smallest map_of) b) (ap (λ (s : Reading). metadata_length smallest s b) is ∙ only b away)
    ]

none_apart : (g : Geometry) (r : Reading) → AreApart g r []
none_apart g r = record {
  inodes = λ i j d before inside. absurd (omega arith);
  blocks = λ i j d before inside. absurd (omega arith);
  inodes_usable = All-nil _;
  inodes_free = All-nil _;
  blocks_body = All-nil _;
  blocks_free = All-nil _;
}

pub sound_by_reading : (x : Blocks) (r : Reading) → reading_of smallest x ≡ r → finding_of smallest r [] ≡ None → Sound smallest x []
sound_by_reading x r is right = record { rules = ap (λ (s : Reading). finding_of smallest s []) is ∙ right; apart = none_apart smallest (reading_of smallest x) }

-- what a stage asks of a change to the next reading
pub record IsNext (change : StoreChange) (r0 r1 : Reading) (map_of after : Blocks) (those then : List ℕ) : Type 0 where
  pub read : reading_of smallest map_of ≡ r0
  pub read_after : reading_of smallest after ≡ r1
  pub only : (b : ℕ) → is_among b those ≡ false → metadata_length smallest r0 b ≡ 0
  pub only_after : (b : ℕ) → is_among b then ≡ false → metadata_length smallest r1 b ≡ 0
  pub laid : (x : Blocks) → ((b : ℕ) → is_among b those ≡ true → x b ≡ map_of b) → ((b : ℕ) → b < 99 → length (x b) ≡ 4096) → (b : ℕ) → is_among b then ≡ true → laid_each x change.deltas b ≡ after b
  pub passed : ArePassed smallest change (taken_by change) r0 r1
  pub right : finding_of smallest r0 [] ≡ None
  pub right_after : finding_of smallest r1 [] ≡ None
  pub loggable : AreLoggable smallest change.deltas
  pub cancels : (b : ℕ) → is_cancelled_in change.deltas b ≡ frees_metadata change b
  pub metadata : (b : ℕ) → is_among b then ≡ true → role_of smallest r1 b ≡ Metadata 4096

module _ (from : Volume) (j : Journal) (h : History) (held : Version → ℕ) (map_of after : Blocks) (those then : List ℕ) (s : Stage from j h held map_of those) (change : StoreChange) (r0 r1 : Reading)
    (next : IsNext change r0 r1 map_of after those then) (may_take : All (λ b. is_released j b ≡ true) change.taken) (room : delta_bytes change.deltas ≤ j.unspent) where
  kept : KeepsHistory smallest 1000 new_tree 0 (at_volume s.r j s.roles h held)
  kept = keeps from j h held map_of those s

  ok : IsGeometry smallest
  ok = geometry_of_safe smallest s.roles s.r j kept.safe

  abbrev base : Image
  base = running_image smallest s.r j

  abbrev told : AllTold
  told = record {
    read = record { geometry = smallest; content = Some base; disk = no_disk };
    changing = record { is_released = is_released j; held = j.running; is_taken = λ b. false; is_freed = λ b. false; room = Some j.unspent };
  }

  whole : 4096 * blocks_of smallest ≤ length base
  whole = omega (arith, length-replayed (present_of s.r) (txs_of smallest j Running), blocks_fit smallest (present_of s.r) (geometry_at_home smallest s.roles s.r j kept.safe))

  sized : (b : ℕ) → b < 99 → length (block base b) ≡ 4096
  sized b low = omega (arith, low, whole, length-take 4096 (drop (512 * (8 * b)) base), length-drop (512 * (8 * b)) base)

  pub base_reads : reading_of smallest (block base) ≡ r0
  base_reads = reads_as map_of (block base) those r0 ok next.read next.only s.blocks

  drafted_is : (b : ℕ) → is_among b then ≡ true → running_with smallest s.r j change b ≡ after b
  drafted_is b among =
      (λ t. laid_all t b) ∙ next.laid (block base) s.blocks sized b among
    where
      laid_all : running_with smallest s.r j change ≡ laid_each (block base) change.deltas
      laid_all =
          ap (λ (l : List RawWrite). block (laid_over (deltas_on change.deltas) (image_after base (writes_of l)))) next.passed.unwritten
          ∙ each_laid smallest change.deltas base whole (each_loggable smallest change.deltas next.loggable)

  pub drafted_reads : reading_of smallest (running_with smallest s.r j change) ≡ r1
  drafted_reads = reads_as after (running_with smallest s.r j change) then r1 ok next.read_after next.only_after drafted_is

  sound : Sound smallest (block base) []
  sound = sound_by_reading (block base) r0 base_reads next.right

  sound_after : Sound smallest (running_with smallest s.r j change) []
  sound_after = sound_by_reading (running_with smallest s.r j change) r1 drafted_reads next.right_after

  laid_before : IsLaid smallest r0
  laid_before = subst (IsLaid smallest) base_reads (sound_is_laid smallest (block base) [] sound)

  laid_after : IsLaid smallest r1
  laid_after = subst (IsLaid smallest) drafted_reads (sound_is_laid smallest (running_with smallest s.r j change) [] sound_after)

  pub may : MayChange smallest s.roles s.r j [] told change []
  may = record {
    read = s.read;
    tells = record { geometry = refl; content = refl; held = refl; released = λ b is. is; room = omega arith };
    takes = record {
      taken = may_take;
      deltas = next.loggable;
      cancels = next.cancels;
      raw = subst (λ (l : List RawWrite). All (IsInBlock smallest) l) (sym next.passed.unwritten) (All-nil (IsInBlock smallest));
      room = room;
      content =
          subst (λ (t : Reading). MayFollow smallest change (taken_by change) t (reading_of smallest (running_with smallest s.r j change))) (sym base_reads)
          (subst (λ (t : Reading). MayFollow smallest change (taken_by change) r0 t) (sym drafted_reads) (follows_by_tests smallest change (taken_by change) r0 r1 laid_before laid_after next.passed));
    };
    sound = sound;
    sound_after = sound_after;
  }

  role_then : (b : ℕ) → is_among b then ≡ true → roles_with smallest s.r j change b ≡ Metadata 4096
  role_then b among = ap (λ (t : Reading). role_of smallest t b) drafted_reads ∙ next.metadata b among

  pub change_stage : (entry : Entry) → 1 ≤ j.members → entry_at h.entries (suc (held Running)) ≡ Some entry
      → shape_of (tree_of smallest (running_with smallest s.r j change)) ≡ shape_of (replay_of smallest 1000 new_tree h.entries (suc (held Running)))
      → NamesStay (s.roles Running) r0 r1 → AreTouchedPresent smallest 1000 new_tree h.entries s.r (held Running) entry r1
      → Stage from (journal_after smallest j change) h (with_running held (suc (held Running))) after then
  change_stage entry members is shape names touched =
      let v = at_volume s.r j s.roles h held in
      let whole_files : HasWholeFiles new_tree = whole_session smallest 1000 new_tree new_disk v s.session in
      let step : VolumeStep smallest 1000 new_tree v (with_entry smallest v change []) =
      applied_step smallest 1000 new_tree 0 v told change [] kept members may next.passed.unwritten entry whole_files is shape
      (subst (λ (t : Reading). NamesStay (s.roles Running) t (reading_of smallest (running_with smallest s.r j change))) (sym base_reads)
      (subst (λ (t : Reading). NamesStay (s.roles Running) r0 t) (sym drafted_reads) names))
      (subst (λ (t : Reading). AreTouchedPresent smallest 1000 new_tree h.entries s.r (held Running) entry t) (sym drafted_reads) touched) in
      record {
        r = s.r;
        roles = moved (Changes (roles_with smallest s.r j change)) s.roles;
        session = Steps v (with_entry smallest v change []) s.session step;
        since = Goes v (with_entry smallest v change []) s.since step;
        read = read_after smallest s.roles s.r j [] [] told change kept.safe may next.passed.unwritten;
        blocks = λ b among.
            let claimed : is_claimed (roles_with smallest s.r j change b) ≡ true = ap is_claimed (role_then b among) in
            sym (whole_block (running_image smallest s.r (journal_after smallest j change)) b)
            ∙ bytes_changed smallest s.roles s.r j [] [] told change kept.safe may next.passed.unwritten b 4096 claimed
            ∙ whole_block (changed change base) b
            ∙ drafted_is b among;
        metadata = role_then;
      }
