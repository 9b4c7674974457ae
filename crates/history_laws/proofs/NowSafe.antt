-- What a crash leaves now recovers to the published boundary, or to the sealed one.
use Rattle.std.proofs.Common.{◌≡◌, ◌<◌, ◌≤◌, ◌⊎◌, inl, inr, ℕ, ◌+◌, ◌*◌, ◌/◌, ◌%◌, true, List, [], length, slice_index, Option, Some, None, refl, sym, ap, ◌∙◌, subst, arith}
use Rattle.std.specs.Prelude.{IfSome, IsSomeAnd}
use Rattle.lufs_base.specs.Layout.{IsGeometry}
use Rattle.lufs_base.specs.declared.geometry.Geometry.{Geometry}
use Rattle.tree_types.specs.declared.history.Entry.{Entry}
use Rattle.volume_model.specs.declared.log.Tx.{Tx}
use Rattle.volume_model.specs.Format.{Image, block}
use Rattle.volume_model.specs.Log.{recovered_by, recovered, replayed}
use Rattle.volume_model.specs.Crash.{Record, Outcome, present_of}
use Rattle.volume_model.specs.Sound.{Reading, reading_of, UsedInode, used_at, AgreeButInFileBytes, Tree, shape_of, HasShape, MountsAs}
use Rattle.volume_model.proofs.ReplayLaws.{byte_replayed}
use Rattle.volume_laws.proofs.SameReading.{reading_same}
use Rattle.volume_laws.proofs.SameTree.{same_shape_of, sound_too}
use Rattle.history_model.specs.Histories.{History, entry_at, replay_of}
use Rattle.history_model.specs.CrashSafety.{byte_named, HasKept, RecoversTo, IsCrashSafeAt}
use Rattle.journal_model.specs.Journals.{SealedTx, Journal}
use Rattle.journal_model.specs.Versions.{Version, Published, Sealed, txs_after, txs_of, content_of}
use Rattle.journal_model.specs.BlockRoles.{FileBytes, Roles, is_claimed}
use Rattle.journal_model.specs.Safety.{IsSafe}
use Rattle.journal_model.specs.Recovery.{Recovers}
use Rattle.journal_laws.proofs.Outcomes.{byte_in_block, size_of_present, blocks_fit}
use Rattle.journal_laws.proofs.GeometryRead.{numbers_of}
use Rattle.journal_laws.proofs.RecoveredVersions.{recovers}
use Rattle.history_laws.specs.Named.{Names, byte_in, HasByteOf}
use Rattle.history_laws.specs.KeptBytes.{AreBytesKept, IsCrashKept, AreToldPublished, BeganBefore}
use Rattle.history_laws.specs.Published.{AreRolesOf, reading_in, IsVersionOf, IsPublishedAs, IsSealedBefore}
use Rattle.history_laws.proofs.NamedBlocks.{named_by_shape, named_in_record}
use Rattle.history_laws.proofs.SameMetadata.{agree_by_metadata}
use Rattle.history_laws.proofs.SettledBytes.{left_kept, sealed_kept}

-- the entries that were told are among the first k
told_within : (n i published k : ℕ) (o : Option Entry) → published ≤ k → IfSome o (λ e. e.sync ≡ true → IfSome e.told (λ told. i ≤ published))
    → IfSome o (λ e. e.sync ≡ true → IfSome e.told (λ told. told ≤ n → i ≤ k))
told_within n i published k None more told = tt
told_within n i published k (Some e) more told = λ sync. by_then e.told (told sync)
  where
    by_then : (t : Option ℕ) → IfSome t (λ told. i ≤ published) → IfSome t (λ told. told ≤ n → i ≤ k)
    by_then None low = tt
    by_then (Some t) low = λ was. let here : i ≤ published = low in omega (arith, here, more)

module _ (g : Geometry) (roles : Roles) (r : Record) (j : Journal) (image : Image) (safe : IsSafe g roles r j) (left : Outcome r (length r.calls) image)
    (v : Version) (rec : Recovers g roles (present_of r) j image v) where
  abbrev txs : List Tx
  txs = txs_after g j rec.count v

  abbrev content : Image
  content = replayed image txs

  abbrev version : Image
  version = content_of g j v (present_of r)

  is_recovered : recovered g image ≡ Some content
  is_recovered = ap (recovered_by image) rec.log

  ok : IsGeometry g
  ok = numbers_of g image (safe.each image left).geometry

  agree : AreRolesOf g (roles v) (reading_in g j (present_of r) v) → AgreeButInFileBytes g (block version) (block content)
  agree = agree_by_metadata g (roles v) (present_of r) image (txs_of g j v) txs (left.size ∙ sym (size_of_present r safe.sectors)) rec.metadata

  mounts : (shape : Tree) → IsVersionOf g roles (present_of r) j v shape → MountsAs image shape
  mounts shape is =
      let has : HasShape g content shape = record {
        sound = sound_too g (block version) (block content) ok [] (agree is.read) is.content.sound;
        has = same_shape_of g (block version) (block content) ok (agree is.read) ∙ is.content.has;
      } in
      let over : IsSomeAnd (recovered g image) (λ content. HasShape g content shape) = subst (λ (o : Option Image). IsSomeAnd o (λ content. HasShape g content shape)) (sym is_recovered) has in
      subst (λ (o : Option Geometry). IsSomeAnd o (λ k. IsSomeAnd (recovered k image) (λ content. HasShape k content shape))) (sym (safe.each image left).geometry) over

  -- a byte of a file that the image has in the block that the version names
  has_kept : (tree : Tree) (ino p value b : ℕ) → IsVersionOf g roles (present_of r) j v (shape_of tree) → Names (reading_in g j (present_of r) v) ino p b → byte_in image b p ≡ value → HasKept g content ino p value
  has_kept tree ino p value b is names stands =
      let role : roles v b ≡ FileBytes = is.read.files ino (p / 4096) b names in
      let there : 4096 * b + p % 4096 < length image = omega (arith, (safe.versions.places v b (ap is_claimed role)).1, blocks_fit g image (safe.each image left).geometry) in
      let reading = reading_in g j (present_of r) v in
      let same : reading_of g (block content) ≡ reading = reading_same g (block version) (block content) ok (agree is.read) in
      let u = named_in_record reading ino (p / 4096) b names in
      let used : used_at (reading_of g (block content)) ino ≡ Some u.0 = ap (λ (q : Reading). used_at q ino) same ∙ u.1 in
      let place : p % 4096 < 4096 = omega arith in
      let file : slice_index content (4096 * b + p % 4096) ≡ value =
      byte_replayed image txs (4096 * b + p % 4096) there ∙ rec.files b (p % 4096) role place ∙ stands in
      subst (λ (o : Option UsedInode). IsSomeAnd o (λ u. byte_named content u p ≡ value)) (sym used)
      (ap (λ (number : ℕ). slice_index (block content number) (p % 4096)) u.2 ∙ byte_in_block content b (p % 4096) place ∙ file)

  recovers_to : (moment : ℕ) (opening : Tree) (h : History) (published k : ℕ) → IsVersionOf g roles (present_of r) j v (shape_of (replay_of g moment opening h.entries k)) → published ≤ k
      → AreToldPublished h.entries published → IsCrashKept g moment opening h.entries r (length r.calls) k (reading_in g j (present_of r) v)
      → RecoversTo g moment opening h (length r.calls) image k
  recovers_to moment opening h published k is more told kept =
      let tree = replay_of g moment opening h.entries k in
      record {
        mounts = mounts (shape_of tree) is;
        told = λ i. told_within (length r.calls) i published k (entry_at h.entries i) more (told.told i);
        bytes = λ ino p value file at has settled.
            let byte : HasByteOf tree ino p value = record { file = file; is = at; has = has } in
            let named = named_by_shape g (block version) tree ino p value is.content.has byte in
            let stands = kept ino p value named.0 image byte named.1 settled left in
            subst (λ (o : Option Image). IsSomeAnd o (λ content. HasKept g content ino p value)) (sym is_recovered) (has_kept tree ino p value named.0 is named.1 stands);
        idents = rec.idents;
      }

began : (entries : List Entry) (n : ℕ) (held : Version → ℕ) (o : Option SealedTx) → IsSealedBefore entries n held o → IfSome o (λ s. 1 ≤ s.written)
    → (held Sealed ≤ held Published) ⊎ BeganBefore entries (held Sealed) n
began entries n held None before written = inl before
began entries n held (Some s) before written = inr (before written)

pub now_safe : (g : Geometry) (moment : ℕ) (opening : Tree) (h : History) (roles : Roles) (r : Record) (j : Journal) (held : Version → ℕ) → IsSafe g roles r j
    → IsPublishedAs g moment opening h roles (present_of r) j held → AreBytesKept g moment opening h.entries r (reading_in g j (present_of r)) held
    → AreToldPublished h.entries (held Published) → IsSealedBefore h.entries (length r.calls) held j.sealed → IsCrashSafeAt g moment opening h r (length r.calls)
now_safe g moment opening h roles r j held safe is kept told before image left =
    elim (recovers g roles r j image safe left) [
      | inl rec ↦ (
        held Published,
        is.published_boundary,
        recovers_to g roles r j image safe left Published rec moment opening h (held Published) (held Published) is.published (omega arith) told
            (left_kept g moment opening h.entries r (held Published) (reading_in g j (present_of r) Published) told kept.published),
      )
      | inr rec ↦ (
        held Sealed,
        is.sealed_boundary,
        recovers_to g roles r j image safe left Sealed rec moment opening h (held Published) (held Sealed) is.sealed kept.order.sealed told
            (sealed_kept g moment opening h.entries r (reading_in g j (present_of r)) held kept told (began h.entries (length r.calls) held j.sealed before (rec.sealed refl))),
      )
    ]
