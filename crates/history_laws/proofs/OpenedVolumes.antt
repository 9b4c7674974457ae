-- The volume that a mount opens keeps its history, which is empty.
use Rattle.std.proofs.Common.{◌≡◌, ◌≤◌, ◌<◌, inl, ℕ, zero, suc, ◌*◌, ◌%◌, true, false, List, [], length, slice_index, refl, sym, ap, ◌∙◌, subst, arith, get_or-take}
use Rattle.std.specs.Prelude.{IfSome}
use Rattle.std.specs.Option.{option_map_or}
use Rattle.std.proofs.lemmas.List.{ext_get_or, take_all}
use Rattle.lufs_base.specs.Layout.{IsGeometry, blocks_of}
use Rattle.lufs_base.specs.declared.geometry.Geometry.{Geometry}
use Rattle.volume_model.specs.declared.device_call.DeviceCall.{DeviceCall}
use Rattle.volume_model.specs.declared.log.Header.{Header}
use Rattle.volume_model.specs.declared.log.Tx.{Tx}
use Rattle.volume_model.specs.Format.{Image, block}
use Rattle.volume_model.specs.Log.{replayed}
use Rattle.volume_model.specs.Crash.{Record, up_to, IsOfSectors, IsSettled, Outcome, present_of}
use Rattle.volume_model.specs.Sound.{Reading, reading_of, Tree, tree_of, StandsFor, shape_of, HasShape}
use Rattle.volume_model.proofs.CrashLaws.{one_outcome}
use Rattle.volume_model.proofs.ReplayLaws.{length-replayed, byte_replayed}
use Rattle.volume_laws.proofs.LaidClaims.{sound_is_laid}
use Rattle.volume_laws.proofs.SameTree.{same_tree}
use Rattle.history_model.specs.Lines.{is_fsync}
use Rattle.history_model.specs.Histories.{entry_at, is_ok, replay_of, Legal}
use Rattle.journal_model.specs.Journals.{Owner, Journal, new_journal}
use Rattle.journal_model.specs.Versions.{Version, Published, Sealed, Running, txs_of, content_of}
use Rattle.journal_model.specs.BlockRoles.{Role}
use Rattle.journal_model.specs.LaidBlocks.{replayed_byte}
use Rattle.journal_model.specs.Safety.{MayBegin}
use Rattle.journal_model.specs.Mount.{Found, Mounted, next_epoch, IsMounting}
use Rattle.journal_laws.proofs.MountedVolumes.{agree_outside_log}
use Rattle.journal_laws.proofs.MountImages.{numbers}
use Rattle.journal_laws.proofs.MountOutcomes.{inside_image}
use Rattle.journal_laws.proofs.NewJournal.{end_content, opened_is_safe}
use Rattle.journal_laws.proofs.Outcomes.{byte_in_block, blocks_fit, present_left}
use Rattle.history_laws.specs.Named.{Names, byte_in, HasByteOf}
use Rattle.history_laws.specs.KeptBytes.{AreBytesKept, AreToldPublished}
use Rattle.history_laws.specs.Published.{AreRolesOf, reading_in, IsVersionOf}
use Rattle.history_laws.specs.Volumes.{KeepsHistory}
use Rattle.history_laws.specs.Sessions.{MayBeMounted, Mounts, opened_volume}
use Rattle.history_laws.proofs.NamedBlocks.{byte_by_tree}
use Rattle.history_laws.proofs.NamedOnce.{named_once}
use Rattle.history_laws.proofs.Mounts.{opening_first, mounting, mount_safe, mount_geometry}

-- an empty log leaves what stands at home
bytes_of_new : (g : Geometry) (h : Header) (owners : ℕ → Owner) (home : Image) (v : Version) (address : ℕ) → replayed_byte home (txs_of g (new_journal h owners) v) address ≡ slice_index home address
bytes_of_new g h owners home Published address = refl
bytes_of_new g h owners home Sealed address = refl
bytes_of_new g h owners home Running address = refl

pub content_of_new : (g : Geometry) (h : Header) (owners : ℕ → Owner) (home : Image) (v : Version) → content_of g (new_journal h owners) v home ≡ home
content_of_new g h owners home v =
    let txs : List Tx = txs_of g (new_journal h owners) v in
    ext_get_or 0 (replayed home txs) home (length-replayed home txs) (λ i below.
    byte_replayed home txs i (omega (arith, below, length-replayed home txs)) ∙ bytes_of_new g h owners home v i)

-- what a crash leaves of a record that is settled
left_settled : (r : Record) (image : Image) → IsOfSectors r → IsSettled r → Outcome r (length r.calls) image → image ≡ present_of r
left_settled r image ok settled out =
    let all : up_to r (length r.calls) ≡ r = ap (λ (calls : List DeviceCall). record { opening = r.opening; calls = calls }) (take_all (length r.calls) r.calls (omega arith)) in
    (one_outcome r (length r.calls) image ok (subst IsSettled (sym all) settled)).0 out ∙ ap present_of all

module _ (g : Geometry) (moment : ℕ) (opening : Tree) (found : Found) (start : Record) (may : MayBeMounted g found start opening) (r : Record) (mounts : Mounts g found start r Mounted) where
  m : IsMounting g found (present_of start) r Mounted
  m = mounting g moment opening found start may r Mounted mounts

  pub ok : IsGeometry g
  ok = numbers g found (present_of start) may.log

  -- what stands at home is what was to be recovered
  pub stands : StandsFor g (block (present_of r)) opening []
  stands =
      let before : Image = replayed (present_of start) found.txs in
      let room : 4096 * blocks_of g ≤ length before = omega (arith, length-replayed (present_of start) found.txs, blocks_fit g (present_of start) may.log.geometry) in
      let there : 4096 * blocks_of g ≤ length (present_of r) = blocks_fit g (present_of r) (m.each (present_of r) (present_left r m.sectors)).geometry in
      same_tree g (block before) (block (present_of r)) opening [] ok
      (agree_outside_log g before (present_of r) ok room there (sound_is_laid g (block before) [] may.tree.sound)
      (λ address out. end_content g found (present_of start) r m address out
      ∙ sym (byte_replayed (present_of start) found.txs address (inside_image g (present_of start) address may.log.geometry out))))
      may.tree

module _ (g : Geometry) (moment : ℕ) (opening : Tree) (found : Found) (start : Record) (may : MayBeMounted g found start opening) (role : ℕ → Role) (owners : ℕ → Owner) (r : Record)
    (mounts : Mounts g found start r Mounted) (begins : MayBegin g role owners) (are : AreRolesOf g role (reading_of g (block (present_of r)))) where
  mounted : IsMounting g found (present_of start) r Mounted
  mounted = m g moment opening found start may r mounts

  there : StandsFor g (block (present_of r)) opening []
  there = stands g moment opening found start may r mounts

  abbrev reading : Reading
  reading = reading_of g (block (present_of r))

  abbrev new : Journal
  new = new_journal (next_epoch found.header) owners

  reading_new : (v : Version) → reading_in g new (present_of r) v ≡ reading
  reading_new v = ap (λ (image : Image). reading_of g (block image)) (content_of_new g (next_epoch found.header) owners (present_of r) v)

  shape_now : shape_of (tree_of g (block (present_of r))) ≡ shape_of (replay_of g moment opening [] 0)
  shape_now = ap shape_of there.stands ∙ sym (ap shape_of (opening_first g moment opening))

  roles_new : (v : Version) → AreRolesOf g role (reading_in g new (present_of r) v)
  roles_new v = subst (AreRolesOf g role) (sym (reading_new v)) are

  version : (v : Version) → IsVersionOf g (λ v. role) (present_of r) new v (shape_of (replay_of g moment opening [] 0))
  version v = record {
    content = subst (λ (image : Image). HasShape g image (shape_of (replay_of g moment opening [] 0))) (sym (content_of_new g (next_epoch found.header) owners (present_of r) v))
        (record { sound = there.sound; has = shape_now });
    read = roles_new v;
  }

  byte_now : (ino p value b : ℕ) → HasByteOf (replay_of g moment opening [] 0) ino p value → Names reading ino p b → byte_in (present_of r) b p ≡ value
  byte_now ino p value b has names =
      let byte : HasByteOf (tree_of g (block (present_of r))) ino p value =
      subst (λ (t : Tree). HasByteOf t ino p value) (sym there.stands) (subst (λ (t : Tree). HasByteOf t ino p value) (opening_first g moment opening) has) in
      let place : p % 4096 < 4096 = omega arith in
      sym (byte_in_block (present_of r) b (p % 4096) place) ∙ sym (get_or-take 4096 (block (present_of r) b) (p % 4096) 0 place)
      ∙ byte_by_tree g (block (present_of r)) ino p value b byte names

  none_begun : (i : ℕ) → IfSome (entry_at [] i) (λ e. e.start ≤ length r.calls)
  none_begun zero = tt
  none_begun (suc i) = tt

  bytes : AreBytesKept g moment opening [] r (λ v. reading) (λ v. 0)
  bytes = record {
    order = record { sealed = omega arith; running = omega arith; all = omega arith };
    places = λ v. named_once g (block (present_of r)) [] there.sound;
    published = λ ino p value b image has names free left. ap (λ (i : Image). byte_in i b p) (left_settled r image mounted.sectors (mounted.settled refl) left) ∙ byte_now ino p value b has names;
    sealed = λ ino p value b has names free. byte_now ino p value b has names;
    running = λ ino p value b has names free. byte_now ino p value b has names;
    to_sealed = λ ino p value b has names within. (names, has);
    to_running = λ ino p value b has names within. (names, has);
    begun = none_begun;
  }

  none_told : AreToldPublished [] 0
  none_told = record { told = told; fsyncs = fsyncs }
    where
      told : (i : ℕ) → IfSome (entry_at [] i) (λ e. e.sync ≡ true → IfSome e.told (λ told. i ≤ 0))
      told zero = tt
      told (suc i) = tt

      fsyncs : (i : ℕ) → IfSome (entry_at [] i) (λ e. option_map_or is_fsync e.call false ≡ true → is_ok e.reply ≡ true → e.sync ≡ true)
      fsyncs zero = tt
      fsyncs (suc i) = tt

  legal : Legal g moment opening []
  unfolding Legal
  legal = tt

  pub opened_keeps : KeepsHistory g moment opening (length start.calls) (opened_volume found role owners r)
  opened_keeps = record {
    safe = opened_is_safe g found (present_of start) r mounted role owners begins;
    versions = record { published = version Published; sealed = version Sealed; published_boundary = inl refl; sealed_boundary = inl refl };
    running = record { sound = (version Running).content.sound; has = (version Running).content.has; read = roles_new Running };
    bytes = subst (λ (readings : Version → Reading). AreBytesKept g moment opening [] r readings (λ v. 0)) (λ t v. sym (reading_new v) t) bytes;
    told = none_told;
    sealed = omega arith;
    idle = λ none. refl;
    legal = legal;
    within = tt;
    earlier = mount_safe g moment opening found start may r Mounted mounts;
    geometry = mount_geometry g moment opening found start may r Mounted mounts;
  }
