-- A change that writes in place is made write by write before its deltas.
use Rattle.std.proofs.Common.{◌≡◌, ◌<◌, ◌≤◌, ◌⊎◌, inl, inr, ℕ, ◌+◌, ◌-◌, ◌*◌, ◌/◌, ◌%◌, eqb, cond, Bool, true, false, ◌||◌, List, [], ◌∷◌, ◌++◌, length, take, drop, slice_index, refl, sym, ap, subst, ◌∙◌, arith, length-take}
use Rattle.std.specs.Prelude.{nat_lt, All}
use Rattle.std.proofs.lemmas.Bool.{cases_Bool, cases_lt, false≢true, ltb-true, eq-eqb, and_parts, cond-true}
use Rattle.std.proofs.lemmas.List.{ext_get_or, get_or_append_left, get_or-append_right, get_or-take, get_or-drop}
use Rattle.std.proofs.lemmas.List.Elements.{All-head, All-tail}
use Rattle.lufs_base.specs.Layout.{blocks_of, region_of}
use Rattle.lufs_base.specs.declared.geometry.Geometry.{Geometry}
use Rattle.volume_model.specs.declared.hand.Hand.{Hand}
use Rattle.volume_model.specs.declared.device_call.DeviceCall.{DeviceCall}
use Rattle.volume_model.specs.declared.device_call.DeviceCall.TheVariants.{Write}
use Rattle.volume_model.specs.Format.{Image, block, is_body_region, overwritten}
use Rattle.volume_model.specs.Crash.{Record, with_calls, image_after, present_of}
use Rattle.volume_model.specs.Log.{replayed}
use Rattle.volume_model.specs.Sound.{Reading, reading_of, is_claimed, is_among, block_bit, metadata_length, IsStored, Sound, tree_of, shape_of}
use Rattle.volume_model.proofs.ReplayLaws.{length-replayed, byte_replayed}
use Rattle.volume_model.proofs.Sectors.{length-overwritten}
use Rattle.volume_model.specs.declared.log.Tx.{Tx}
use Rattle.volume_laws.proofs.SoundParts.{in_parts}
use Rattle.meta_store.specs.declared.change.Change.{Change as StoreChange}
use Rattle.meta_store.specs.declared.change.RawWrite.{RawWrite}
use Rattle.meta_store.specs.Changing.{AllTold}
use Rattle.meta_store.specs.Changes.{writes_of, changed, deltas_on}
use Rattle.meta_store.specs.Laid.{laid_over}
use Rattle.meta_store.specs.Suited.{suits_block}
use Rattle.meta_store.specs.Conditions.{IsInBlock, MayFollow}
use Rattle.lufs_base.specs.declared.delta.DeltaKind.TheVariants.{Chunk}
use Rattle.journal_model.specs.Journals.{Live, Journal}
use Rattle.journal_model.specs.Versions.{Running, txs_of, content_of}
use Rattle.journal_model.specs.LaidBlocks.{is_laid_by}
use Rattle.journal_model.specs.BlockRoles.{Metadata, FileBytes, Roles, Stays, is_claimed as has_claim}
use Rattle.journal_model.specs.Safety.{IsSafe}
use Rattle.journal_model.specs.Steps.{IsRawWrite, Step, RawWrite as WritesInPlace}
use Rattle.journal_laws.proofs.Outcomes.{byte_written, present_after, blocks_fit}
use Rattle.journal_laws.proofs.RawPlaces.{raw_place}
use Rattle.journal_laws.proofs.Replays.{LieInBlocks, same_replayed, stands_replayed}
use Rattle.journal_laws.proofs.RollFacts.{geometry_at_home, all_lie, version_loggable}
use Rattle.journal_laws.proofs.KeptSteps.{geometry_of_safe}
use Rattle.history_laws.specs.Published.{AreRolesOf}
use Rattle.history_laws.proofs.VersionsStay.{reading_stays, running_stays}
use Rattle.history_laws.proofs.VolumeRolesLaws.{roles_of_volume}
use Rattle.store_laws.specs.Tied.{MayChange, running_image, told_with}
use Rattle.store_laws.proofs.MovedRoles.{live_is}
use Rattle.store_laws.proofs.RolesSeen.{seen, role_in_body}
use Rattle.store_laws.proofs.ReadsStay.{still_read}
use Rattle.store_laws.proofs.StepsOfChanges.{follows_told}

-- a byte before what is overwritten, and one behind it
over_before : (image : Image) (first : ℕ) (bytes : List ℕ) (a : ℕ) → 512 * first + length bytes ≤ length image → a < 512 * first → slice_index (overwritten image first bytes) a ≡ slice_index image a
over_before image first bytes a fits before =
    get_or_append_left (take (512 * first) image) (bytes ++ drop (512 * first + length bytes) image) 0 a (omega (arith, before, fits, length-take (512 * first) image))
    ∙ get_or-take (512 * first) image a 0 before

over_behind : (image : Image) (first : ℕ) (bytes : List ℕ) (a : ℕ) → 512 * first + length bytes ≤ length image → 512 * first + length bytes ≤ a → slice_index (overwritten image first bytes) a ≡ slice_index image a
over_behind image first bytes a fits behind =
    get_or-append_right (take (512 * first) image) (bytes ++ drop (512 * first + length bytes) image) (512 * first) a 0 (let size : length (take (512 * first) image) ≡ 512 * first = omega (arith, fits, length-take (512 * first) image) in size) (omega (arith, behind))
    ∙ get_or-append_right bytes (drop (512 * first + length bytes) image) (length bytes) (a - 512 * first) 0 refl (omega (arith, behind))
    ∙ get_or-drop (512 * first + length bytes) image (a - 512 * first - length bytes) 0
    ∙ ap (slice_index image) (let at : 512 * first + length bytes + (a - 512 * first - length bytes) ≡ a = omega (arith, behind) in at)

module _ (home : Image) (txs : List Tx) (first : ℕ) (bytes : List ℕ) (lie : LieInBlocks txs) (none : is_laid_by txs (first / 8) ≡ false) (inside : 512 * (first % 8) + length bytes ≤ 4096)
    (fits : 512 * first + length bytes ≤ length home) where
  over : Image
  over = overwritten home first bytes

  size : length (replayed home txs) ≡ length home
  size = length-replayed home txs

  fits_too : 512 * first + length bytes ≤ length (replayed home txs)
  fits_too = omega (arith, fits, size)

  same_at : (a : ℕ) → a < length home → slice_index (replayed (overwritten home first bytes) txs) a ≡ slice_index (overwritten (replayed home txs) first bytes) a
  same_at a low =
      let there : a < length (overwritten home first bytes) = omega (arith, low, length-overwritten home first bytes fits) in
      byte_replayed (overwritten home first bytes) txs a there ∙ elim (cases_lt a (512 * first)) [
        | inl before ↦
            same_replayed (overwritten home first bytes) home txs a (over_before home first bytes a fits before)
            ∙ sym (byte_replayed home txs a low) ∙ sym (over_before (replayed home txs) first bytes a fits_too before)
        | inr from ↦ elim (cases_lt a (512 * first + length bytes)) [
          | inr behind ↦
              same_replayed (overwritten home first bytes) home txs a (over_behind home first bytes a fits behind)
              ∙ sym (byte_replayed home txs a low) ∙ sym (over_behind (replayed home txs) first bytes a fits_too behind)
          | inl within ↦
              let i = a - 512 * first in
              let at : a ≡ 512 * first + i = omega (arith, from) in
              let short : i < length bytes = omega (arith, within, from) in
              let b : first / 8 ≡ a / 4096 = omega (arith, from, within, inside) in
              stands_replayed (overwritten home first bytes) txs a lie (subst (λ (c : ℕ). is_laid_by txs c ≡ false) b none)
              ∙ ap (slice_index (overwritten home first bytes)) at ∙ byte_written home first bytes i fits short
              ∙ sym (byte_written (replayed home txs) first bytes i fits_too short) ∙ sym (ap (slice_index (overwritten (replayed home txs) first bytes)) at)
        ]
      ]

  pub replayed_over : replayed (overwritten home first bytes) txs ≡ overwritten (replayed home txs) first bytes
  replayed_over =
      ext_get_or 0 (replayed (overwritten home first bytes) txs) (overwritten (replayed home txs) first bytes)
      (length-replayed (overwritten home first bytes) txs ∙ length-overwritten home first bytes fits ∙ sym size ∙ sym (length-overwritten (replayed home txs) first bytes fits_too))
      (λ a below. same_at a (omega (arith, below, length-replayed (overwritten home first bytes) txs, length-overwritten home first bytes fits)))

-- a body block without metadata is of a file, or isn't claimed
no_metadata : (claimed chunk : Bool) (m : ℕ) → m ≡ 0 → (seen claimed chunk m ≡ FileBytes) ⊎ (has_claim (seen claimed chunk m) ≡ false)
no_metadata true chunk m none = inl (cond-true (eqb m 0) FileBytes (cond chunk (Metadata 4096) (Metadata m)) (eq-eqb m 0 none))
no_metadata false chunk m none = inr refl

module _ (g : Geometry) (roles : Roles) (r : Record) (j : Journal) (hands then : List Hand) (told : AllTold) (change : StoreChange) (w : RawWrite) (more : List RawWrite) (safe : IsSafe g roles r j)
    (may : MayChange g roles r j hands told change then) (is : change.raw ≡ w ∷ more) where
  abbrev base : Image
  base = running_image g r j

  abbrev b : ℕ
  b = w.first / 8

  abbrev taken : ℕ → Bool
  taken c = told.changing.is_taken c || is_among c change.taken

  stored : IsStored g (reading_of g (block base)) hands
  stored = ((in_parts g (block base) hands).0 may.sound).0

  follows : MayFollow g change taken (reading_of g (block base)) (reading_of g (block (changed change base)))
  follows = follows_told change taken g told.read.geometry base told.read.content may.tells.geometry may.tells.content may.takes.content

  in_block : IsInBlock g w
  in_block = subst (λ (h : Geometry). IsInBlock h w) may.tells.geometry (All-head (IsInBlock told.read.geometry) w more (subst (λ (l : List RawWrite). All (IsInBlock told.read.geometry) l) is may.takes.raw))

  none_before : metadata_length g (reading_of g (block base)) b ≡ 0
  none_before = All-head (λ w. metadata_length g (reading_of g (block base)) (w.first / 8) ≡ 0) w more (subst (λ (l : List RawWrite). All (λ w. metadata_length g (reading_of g (block base)) (w.first / 8) ≡ 0) l) is follows.raw_before)

  pub raw_may : block_bit g (reading_of g (block base)) b ≡ true → IsRawWrite g roles j w.first w.bytes
  raw_may set =
      let live : j.owners b ≡ Live = live_is (j.owners b) (may.read.owners b in_block.body ∙ set) in
      let role : roles Running b ≡ seen (is_claimed (reading_of g (block base)) b) (suits_block g (reading_of g (block base)) Chunk b) (metadata_length g (reading_of g (block base)) b) =
      may.read.claimed b ∙ role_in_body g (block base) hands stored b in_block.body in
      let place = raw_place g roles r j b safe
      (elim (no_metadata (is_claimed (reading_of g (block base)) b) (suits_block g (reading_of g (block base)) Chunk b) (metadata_length g (reading_of g (block base)) b) none_before) [
        | inl file ↦ inl (role ∙ file)
        | inr free ↦ inr (ap has_claim role ∙ free, live)
      ]) in
      record { body = in_block.body; whole = in_block.whole.1; inside = in_block.inside; place = place.0; free = place.1 }

  module _ (raw : IsRawWrite g roles j w.first w.bytes) where
    abbrev call : List DeviceCall
    call = Write w.first w.bytes ∷ []

    abbrev after : Record
    after = with_calls r call

    step : Step g roles (present_of r) j Stays call j
    step = WritesInPlace w.first w.bytes raw

    lie : LieInBlocks (txs_of g j Running)
    lie = all_lie g (txs_of g j Running) (version_loggable g roles r j safe Running)

    not_laid : is_laid_by (txs_of g j Running) b ≡ false
    not_laid = elim (cases_Bool (is_laid_by (txs_of g j Running) b)) [
      | inl laid ↦ absurd (false≢true (sym (raw.place Running) ∙ safe.versions.laid Running b laid))
      | inr none ↦ none
    ]

    fits : 512 * w.first + length w.bytes ≤ length (present_of r)
    fits =
        let below = ltb-true b (blocks_of g) (and_parts (nat_lt b (blocks_of g)) (is_body_region (region_of g b)) raw.body).0 in
        omega (arith, below, raw.inside, blocks_fit g (present_of r) (geometry_at_home g roles r j safe))

    content_after : running_image g after j ≡ overwritten base w.first w.bytes
    content_after = ap (λ (home : Image). content_of g j Running home) (present_after r call) ∙ replayed_over (present_of r) (txs_of g j Running) w.first w.bytes lie not_laid raw.inside fits

    abbrev rest : StoreChange
    rest = record change { raw = more }

    same_changed : changed rest (running_image g after j) ≡ changed change base
    same_changed =
        ap (λ (image : Image). laid_over (deltas_on change.deltas) (image_after image (writes_of more))) content_after
        ∙ ap (λ (l : List RawWrite). laid_over (deltas_on change.deltas) (image_after base (writes_of l))) (sym is)

    are : AreRolesOf g (roles Running) (reading_of g (block base))
    are =
        let of_volume = roles_of_volume g (block base) hands (geometry_of_safe g roles r j safe) may.sound in
        record {
          metadata = λ c some. let m = of_volume.metadata c some in (m.0, may.read.claimed c ∙ m.1, m.2);
          files = λ ino index c names. may.read.claimed c ∙ of_volume.files ino index c names;
        }

    same_reading : reading_of g (block (running_image g after j)) ≡ reading_of g (block base)
    same_reading = reading_stays g roles r j j Stays call safe step Running refl are

    sound_then : Sound g (block (running_image g after j)) hands
    sound_then = (running_stays g roles r j j Stays call safe step refl hands (shape_of (tree_of g (block base))) may.sound refl are).sound

    follows_then : MayFollow g rest taken (reading_of g (block (running_image g after j))) (reading_of g (block (changed rest (running_image g after j))))
    follows_then =
        subst (λ (s : Reading). MayFollow g rest taken s (reading_of g (block (changed rest (running_image g after j))))) (sym same_reading)
        (subst (λ (image : Image). MayFollow g rest taken (reading_of g (block base)) (reading_of g (block image))) (sym same_changed)
        (record {
          raw_before = All-tail (λ w. metadata_length g (reading_of g (block base)) (w.first / 8) ≡ 0) w more (subst (λ (l : List RawWrite). All (λ w. metadata_length g (reading_of g (block base)) (w.first / 8) ≡ 0) l) is follows.raw_before);
          raw_after = All-tail (λ w. metadata_length g (reading_of g (block (changed change base))) (w.first / 8) ≡ 0) w more
              (subst (λ (l : List RawWrite). All (λ w. metadata_length g (reading_of g (block (changed change base))) (w.first / 8) ≡ 0) l) is follows.raw_after);
          deltas = follows.deltas;
          suited = follows.suited;
          kept = follows.kept;
          given = follows.given;
          fresh = follows.fresh;
          stays = follows.stays;
          claimed = λ c free claimed. let comes = follows.claimed c free claimed in record { body = comes.body; in_transaction = comes.in_transaction; bit = comes.bit; whole = comes.whole };
          marked = λ c freed. let up = follows.marked c freed in record { claimed = up.claimed; unclaimed = up.unclaimed; metadata = up.metadata };
          bits = follows.bits;
        }))

    follows_there : (h : Geometry) → h ≡ g → MayFollow h rest taken (reading_of h (block (running_image g after j))) (reading_of h (block (changed rest (running_image g after j))))
    follows_there h same = subst (λ (k : Geometry). MayFollow k rest taken (reading_of k (block (running_image g after j))) (reading_of k (block (changed rest (running_image g after j))))) (sym same) follows_then

    pub rest_may : MayChange g roles after j hands (told_with g r j call told) rest then
    rest_may = record {
      read = still_read g roles r j j Stays call safe step refl are may.read;
      tells = record { geometry = may.tells.geometry; content = refl; held = may.tells.held; released = may.tells.released; room = may.tells.room };
      takes = record {
        taken = may.takes.taken;
        deltas = may.takes.deltas;
        cancels = may.takes.cancels;
        raw = All-tail (IsInBlock told.read.geometry) w more (subst (λ (l : List RawWrite). All (IsInBlock told.read.geometry) l) is may.takes.raw);
        room = may.takes.room;
        content = follows_there told.read.geometry may.tells.geometry;
      };
      sound = sound_then;
      sound_after = subst (λ (image : Image). Sound g (block image) then) (sym same_changed) may.sound_after;
    }
