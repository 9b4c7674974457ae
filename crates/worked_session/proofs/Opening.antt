-- The session begins: a mount of the new volume opens it.
use Rattle.std.proofs.Common.{◌≡◌, ◌<◌, ◌≤◌, inr, ℕ, ◌+◌, ◌*◌, true, [], length, refl, sym, ap, subst, ◌∙◌, arith}
use Rattle.lufs_base.specs.Layout.{IsGeometry, blocks_of, group_start}
use Rattle.volume_model.specs.Format.{Image, block}
use Rattle.volume_model.specs.Crash.{Record, present_of}
use Rattle.volume_model.specs.MkfsImage.{made_header}
use Rattle.volume_model.specs.Sound.{Reading, reading_of, is_among, Sound}
use Rattle.volume_model.specs.Worked.{smallest}
use Rattle.history_model.specs.WorkedTrees.{new_tree}
use Rattle.journal_model.specs.Journals.{new_journal}
use Rattle.journal_model.specs.Versions.{Running}
use Rattle.journal_model.specs.BlockRoles.{Role}
use Rattle.journal_model.specs.Safety.{MayBegin}
use Rattle.journal_model.specs.Mount.{Found, Stage as Stage_of_mount, Mounted, next_epoch, IsMounting}
use Rattle.journal_laws.proofs.NewJournal.{end_content}
use Rattle.journal_laws.proofs.Outcomes.{size_of_present}
use Rattle.history_laws.specs.VolumeRoles.{role_of}
use Rattle.history_laws.specs.Volumes.{Volume}
use Rattle.history_laws.specs.Sessions.{Mounts, Began, Went, no_history, opened_volume, Session, Opens}
use Rattle.history_laws.specs.WorkedSession.{volume_as_made, new_image, new_disk}
use Rattle.history_laws.proofs.Mounts.{mounting}
use Rattle.history_laws.proofs.NewDisk.{new_disk_mounts}
use Rattle.history_laws.proofs.NewImage.{block_there}
use Rattle.history_laws.proofs.OpenedVolumes.{ok, stands, content_of_new}
use Rattle.history_laws.proofs.SameMetadata.{same_front}
use Rattle.history_laws.proofs.SessionsBegin.{comes_to_end}
use Rattle.history_laws.proofs.VolumeRolesLaws.{roles_of_volume}
use Rattle.store_laws.specs.Tied.{owners_by_bits, IsRead, running_image}
use Rattle.store_laws.proofs.OpenedRead.{begins_by_bits, read_by_bits}
use Rattle.worked_session.specs.FourChanges.{new_reading}
use Rattle.worked_session.specs.Journals.{first_owners, first_journal}
use Rattle.worked_session.specs.Stages.{Here, Stage}
use Rattle.worked_session.proofs.FourReadings.{new_is_read}
use Rattle.worked_session.proofs.FourNext.{three, of_three, only_new, new_metadata}
use Rattle.worked_session.proofs.StageSteps.{whole_block, reads_as}

abbrev found : Found
found = record { header = made_header; txs = [] }

opening_stays : (r : Record) (stage : Stage_of_mount) → Mounts smallest found new_disk r stage → r.opening ≡ new_image
opening_stays _ _ (Began left all) = refl
opening_stays _ _ (Went r stage next calls mounts step) = opening_stays r stage mounts

the_end : (r : Record) × Mounts smallest found new_disk r Mounted
the_end = comes_to_end smallest found new_disk

module _ (r : Record) (mounts : Mounts smallest found new_disk r Mounted) where
  m : IsMounting smallest found (present_of new_disk) r Mounted
  m = mounting smallest 1000 new_tree found new_disk new_disk_mounts r Mounted mounts

  geometry : IsGeometry smallest
  geometry = ok smallest 1000 new_tree found new_disk new_disk_mounts r mounts

  sound : Sound smallest (block (present_of r)) []
  sound = (stands smallest 1000 new_tree found new_disk new_disk_mounts r mounts).sound

  size : length (present_of r) ≡ length new_image
  size = size_of_present r m.sectors ∙ ap (λ (image : Image). length image) (opening_stays r Mounted mounts)

  home_block : (b : ℕ) → 35 ≤ b → b < 99 → block (present_of r) b ≡ block new_image b
  home_block b from below =
      sym (whole_block (present_of r) b)
      ∙ same_front new_image (present_of r) b 4096 size (λ i low inside there.
      let first : group_start smallest 0 ≡ 35 = refl in
      let all : blocks_of smallest ≡ 99 = refl in
      end_content smallest found (present_of new_disk) r m (4096 * b + i) (inr (omega (arith, first, from), omega (arith, all, below, inside))))
      ∙ whole_block new_image b

  home_blocks : (b : ℕ) → is_among b three ≡ true → block (present_of r) b ≡ volume_as_made b
  home_blocks = of_three (λ b. block (present_of r) b ≡ volume_as_made b)
      (home_block 35 (omega arith) (omega arith) ∙ (λ t. block_there t 35)) (home_block 36 (omega arith) (omega arith) ∙ (λ t. block_there t 36)) (home_block 37 (omega arith) (omega arith) ∙ (λ t. block_there t 37))

  reads : reading_of smallest (block (present_of r)) ≡ new_reading
  reads = reads_as volume_as_made (block (present_of r)) three new_reading geometry new_is_read only_new home_blocks

  abbrev role : ℕ → Role
  role = role_of smallest (reading_of smallest (block (present_of r)))

  role_is : (b : ℕ) → role b ≡ role_of smallest new_reading b
  role_is b = ap (λ (s : Reading). role_of smallest s b) reads

  begun : Session smallest 1000 new_tree new_disk (opened_volume found role first_owners r)
  begun =
      Opens found role first_owners r new_disk_mounts mounts
      (subst (λ (s : Reading). MayBegin smallest role (owners_by_bits smallest s)) reads (begins_by_bits smallest (block (present_of r)) [] geometry sound))
      (roles_of_volume smallest (block (present_of r)) [] geometry sound)

  same_image : running_image smallest r first_journal ≡ present_of r
  same_image = content_of_new smallest (next_epoch made_header) first_owners (present_of r) Running

  pub opens : Stage (opened_volume found role first_owners r) first_journal no_history (λ v. 0) volume_as_made three
  opens = record {
    r = r;
    roles = λ v. role;
    session = begun;
    since = Here;
    read = subst (λ (s : Reading). IsRead smallest (λ v. role) (present_of r) (new_journal (next_epoch made_header) (owners_by_bits smallest s))) reads (read_by_bits smallest (next_epoch made_header) r);
    blocks = λ b among. (λ t. block (same_image t) b) ∙ home_blocks b among;
    metadata = λ b among. role_is b ∙ new_metadata b among;
  }

pub opening_stage : (from : Volume) × Stage from first_journal no_history (λ v. 0) volume_as_made three
opening_stage = (opened_volume found (role the_end.0 the_end.1) first_owners the_end.0, opens the_end.0 the_end.1)
