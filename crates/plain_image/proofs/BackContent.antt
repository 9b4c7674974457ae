-- What stands on the disk once an image is written back, or in part.
use Rattle.std.proofs.Common.{◌≡◌, ◌≢◌, ◌<◌, ◌≤◌, ◌⊎◌, inl, inr, ℕ, zero, suc, ◌+◌, ◌*◌, ◌/◌, ◌^◌, List, [], ◌∷◌, ◌++◌, length, take, Option, Some, None, Result, Ok, Err, IfSome, refl, sym, ap, ◌∙◌, subst, arith, append_assoc}
use Rattle.std.specs.Prelude.{option_map, OnOk}
use Rattle.std.proofs.lemmas.Bool.{cases_lt}
use Rattle.lufs_base.specs.Layout.{IsGeometry, header_sector, ring_place, group_start, blocks_of}
use Rattle.lufs_base.specs.declared.geometry.Geometry.{Geometry}
use Rattle.volume_model.specs.declared.device_call.DeviceCall.{DeviceCall}
use Rattle.volume_model.specs.declared.device_call.DeviceCall.TheVariants.{Write, Flush}
use Rattle.volume_model.specs.declared.log.Header.{Header}
use Rattle.volume_model.specs.declared.log.Tx.{Tx}
use Rattle.volume_model.specs.Format.{Image, sector, block, sectors_of, overwritten, super_of}
use Rattle.volume_model.specs.Log.{header_bytes, MayBeHeader, trailer_of, Listed, WithHeader, log_of}
use Rattle.volume_model.specs.Crash.{Record, with_calls, IsSettled, IsPartlyWritten, image_after, pending}
use Rattle.volume_model.proofs.Calls.{image_after-append, pending_renewed}
use Rattle.volume_model.proofs.ReplayLaws.{nothing_replayed}
use Rattle.volume_model.proofs.Sectors.{length-overwritten, sector_before, sector_behind}
use Rattle.log_laws.specs.StaleSectors.{HasNoIdentAbove}
use Rattle.log_laws.specs.LogOnImage.{ring_sector, HasLog}
use Rattle.log_laws.proofs.ImageSteps.{epoch_done, mounts, no_later_ident}
use Rattle.journal_model.specs.Mount.{next_epoch}
use Rattle.sector_disk.specs.Disk.{DiskTold, HasMade, Makes}
use Rattle.sector_disk.proofs.MadeCalls.{made_then}
use Rattle.plain_image.specs.HomeBlocks.{IsHome, changed_blocks}
use Rattle.plain_image.specs.WrittenBack.{home_calls, emptying, calls_that_write, write_back_calls, IsWrittenBack, HoldsImage, IsPartlyBack, HoldsPartly}
use Rattle.plain_image.specs.HomesWritten.{IsStoppedAt, changed_below, HasHomes, HasStopped, IsHeaderPartly}
use Rattle.plain_image.proofs.HomeSectors.{IsWrittenUpTo, written_below, block_put, same_block}
use Rattle.plain_image.proofs.HomesLoop.{HasRoom}
use Rattle.plain_image.proofs.LogEmptied.{header_size}

no_more : {X : Type 0} (n : ℕ) → take n (let none : List X = [] in none) ≡ []
no_more zero = refl
no_more (suc n) = refl

module _ (g : Geometry) (h : Header) (image : Image) (ok : IsGeometry g) (enough : 4096 * blocks_of g ≤ length image) where
  abbrev header : List ℕ
  header = header_bytes (next_epoch h)

  -- the header is written behind the home blocks
  module _ (before home : Image) (room : 4096 * blocks_of g ≤ length before) (is : IsWrittenUpTo g image (blocks_of g) before home) where
    abbrev final : Image
    final = overwritten home (header_sector g) header

    big : 512 * (header_sector g + 1) ≤ length home
    big = omega (arith, is.size, room, ok.log_low)

    final_size : length final ≡ length before
    final_size = length-overwritten home (header_sector g) header (omega (arith, header_size (next_epoch h), big)) ∙ is.size

    beside : (k : ℕ) → k ≢ header_sector g → sector final k ≡ sector home k
    beside k other = elim (cases_lt k (header_sector g)) [
      | inl less ↦ sector_before home (header_sector g) header k (omega (arith, header_size (next_epoch h), big)) less
      | inr more ↦ sector_behind home (header_sector g) header k (omega (arith, header_size (next_epoch h), big)) (omega (arith, header_size (next_epoch h), more, other))
    ]

    no_header : (b k : ℕ) → IsHome g b → k / 8 ≡ b → k ≢ header_sector g
    no_header b k at inside same = omega (arith, at.low, inside, same, ok.log_low)

    home_sector : (k : ℕ) → IsHome g (k / 8) → sector final k ≡ sector image k
    home_sector k at = beside k (no_header (k / 8) k at refl) ∙ is.done k at.low at.high

    low_sector : (k : ℕ) → k < 8 * group_start g 0 → k ≢ header_sector g → sector final k ≡ sector before k
    low_sector k low other = beside k other ∙ is.rest k (inl (omega (arith, low)))

    may : h.epoch + 1 < 2 ^ 32 → MayBeHeader g (next_epoch h)
    may epoch = record {
      epoch_low = omega arith;
      epoch_high = epoch;
      head_low = omega (arith, ok.log_low);
      head_high = omega arith;
      tid_low = omega arith;
      tid_high = omega arith;
    }

    has_log : h.epoch + 1 < 2 ^ 32 → HasNoIdentAbove g h.epoch (ring_sector g before) → HasLog g (next_epoch h) final [] []
    has_log epoch none =
        epoch_done g (next_epoch h) h.epoch home ok big (may epoch)
        (λ place below.
        let same : sector home (ring_place g place) ≡ sector before (ring_place g place) = is.rest (ring_place g place) (inl (omega (arith, below, ok.log_step, ok.log_low))) in
        subst (λ (s : List ℕ). (trailer_of s).ident ≤ h.epoch) (sym same) (none place below))
        (omega arith)

    empty : h.epoch + 1 < 2 ^ 32 → HasNoIdentAbove g h.epoch (ring_sector g before) → log_of g final ≡ WithHeader (next_epoch h) (Listed [])
    empty epoch none =
        let some = mounts g (next_epoch h) final [] [] (has_log epoch none) in
        some.listed ∙ ap (λ (l : List Tx). WithHeader (next_epoch h) (Listed l)) (no_more some.count)

    pub final_is : h.epoch + 1 < 2 ^ 32 → IsWrittenBack g h image before final
    final_is epoch = record {
      size = final_size;
      blocks = λ b at.
          same_block final image b (omega (arith, at.high, room, final_size)) (omega (arith, at.high, enough))
          (λ k inside. beside k (no_header b k at inside) ∙ is.done k (omega (arith, inside, at.low)) (omega (arith, inside, at.high)));
      rest = λ k out. elim out [
        | inl low ↦ low_sector k low.0 low.1
        | inr high ↦ beside k (λ same. omega (arith, same, high, ok.log_low)) ∙ is.rest k (inr (omega (arith, high)))
      ];
      geometry = ap (λ (s : List ℕ). super_of s (sectors_of final)) (low_sector 16 (omega (arith, ok.log_low)) (λ same. omega (arith, same)))
          ∙ ap (λ (n : ℕ). super_of (sector before 16) (n / 512)) final_size;
      log = empty epoch;
      idents = λ none. no_later_ident g (next_epoch h) final [] [] (has_log epoch none);
      recovers = λ none. nothing_replayed g final (next_epoch h) (empty epoch none);
    }

  back_image : (before : Image) → image_after before (write_back_calls g h image before) ≡ overwritten (image_after before (home_calls image (changed_blocks g image before))) (header_sector g) header
  back_image before = image_after-append before (home_calls image (changed_blocks g image before)) (Flush ∷ emptying g h)

  all_below : (before : Image) → 4096 * blocks_of g ≤ length before → IsWrittenUpTo g image (blocks_of g) before (image_after before (home_calls image (changed_blocks g image before)))
  all_below before room = written_below g image before room enough (blocks_of g) (omega arith) (omega arith)

  -- a home sector is the image's in the end
  end_sector : (before : Image) → 4096 * blocks_of g ≤ length before → (k : ℕ) → IsHome g (k / 8) → sector (image_after before (write_back_calls g h image before)) k ≡ sector image k
  end_sector before room k at = ap (λ (i : Image). sector i k) (back_image before) ∙ home_sector before _ room (all_below before room) k at

  -- each sector is as it was, or a home block's that is the image's
  each_of : (before now : Image) (n : ℕ) → n ≤ blocks_of g → IsWrittenUpTo g image n before now → (k : ℕ) → (sector now k ≡ sector before k) ⊎ (IsHome g (k / 8) × (sector now k ≡ sector image k))
  each_of before now n within is k = elim (cases_lt (k / 8) (group_start g 0)) [
    | inl low ↦ inl (is.rest k (inl low))
    | inr from ↦ elim (cases_lt (k / 8) n) [
      | inl below ↦ inr (record { low = from; high = omega (arith, below, within) }, is.done k from below)
      | inr past ↦ inl (is.rest k (inr past))
    ]
  ]

  -- no header was written yet
  partly_homes : (before now : Image) → 4096 * blocks_of g ≤ length before → length now ≡ length before → ((k : ℕ) → (sector now k ≡ sector before k) ⊎ (IsHome g (k / 8) × (sector now k ≡ sector image k)))
      → IsPartlyBack g h image before now
  partly_homes before now room size each = record {
    size = size;
    each = λ k. elim (each k) [
      | inl same ↦ inl same
      | inr put ↦ inr (put.1 ∙ sym (end_sector before room k put.0))
    ];
    order = elim (each (header_sector g)) [
      | inl same ↦ inl same
      | inr put ↦ let low : group_start g 0 ≤ header_sector g / 8 = put.0.low in absurd (omega (arith, low, ok.log_low))
    ];
  }

  stopped_image : (before mid now : Image) (n : ℕ) → 4096 * blocks_of g ≤ length before → IsHome g n → IsWrittenUpTo g image n before mid → IsPartlyWritten (8 * n) (block image n) mid now
      → IsPartlyBack g h image before now
  stopped_image before mid now n room at is partly =
      partly_homes before now room (partly.size ∙ is.size) (λ k. elim (partly.each k) [
        | inl same ↦ elim (each_of before mid n (omega (arith, at.high)) is k) [
          | inl old ↦ inl (same ∙ old)
          | inr put ↦ inr (put.0, same ∙ put.1)
        ]
        | inr new ↦ elim (each_of before _ (n + 1) (omega (arith, at.high)) (block_put g image before room enough n at mid is) k) [
          | inl old ↦ inl (new ∙ old)
          | inr put ↦ inr (put.0, new ∙ put.1)
        ]
      ])

  -- what is told of the content
  mid_told : (n : ℕ) → group_start g 0 ≤ n → n ≤ blocks_of g → (before : Image) (now : Option Image) (written : List ℕ) → 4096 * blocks_of g ≤ length before
      → now ≡ option_map (λ (i : Image). image_after i (home_calls image written)) (Some before) → written ≡ changed_below g image before n
      → (mid : Image) × (now ≡ Some mid) × IsWrittenUpTo g image n before mid
  mid_told n low high before now written room content told = (
    image_after before (home_calls image written),
    content,
    subst (λ (l : List ℕ). IsWrittenUpTo g image n before (image_after before (home_calls image l))) (sym told) (written_below g image before room enough n low high),
  )

  stopped_as : (o mid new : Option Image) (n : ℕ) (written : List ℕ) → HasRoom g o → IsHome g n → mid ≡ option_map (λ (i : Image). image_after i (home_calls image written)) o
      → IfSome o (λ before. written ≡ changed_below g image before n) → (new ≡ mid) ⊎ IfSome mid (λ before. IfSome new (IsPartlyWritten (8 * n) (block image n) before))
      → IfSome o (λ before. IfSome new (IsPartlyBack g h image before))
  stopped_as None mid new n written room at content told left = tt
  stopped_as (Some before) mid None n written room at content told left = tt
  stopped_as (Some before) mid (Some now) n written room at content told left =
      let middle = mid_told n at.low (omega (arith, at.high)) before mid written room content told in
      elim left [
        | inl same ↦
            let partly : IsPartlyWritten (8 * n) (block image n) middle.0 middle.0 = record { size = refl; each = λ k. inl refl } in
            subst (λ (o : Option Image). IfSome o (IsPartlyBack g h image before)) (sym (same ∙ middle.1)) (stopped_image before middle.0 middle.0 n room at middle.2 partly)
        | inr partly ↦
            let here : IsPartlyWritten (8 * n) (block image n) middle.0 now =
            subst (λ (o : Option Image). IfSome o (λ i. IsPartlyWritten (8 * n) (block image n) i now)) middle.1 partly in
            stopped_image before middle.0 now n room at middle.2 here
      ]

  left_as : (mid new : DiskTold) (n : ℕ) → IsStoppedAt n (block image n) mid new
      → (new.present ≡ mid.present) ⊎ IfSome mid.present (λ before. IfSome new.present (IsPartlyWritten (8 * n) (block image n) before))
  left_as mid new n (inl none) = inl none.content
  left_as mid new n (inr partly) = inr partly.0.content

  pub stopped_partly : (old new : DiskTold) → HasRoom g old.present → HasStopped g image old new → HoldsPartly g h image old new
  stopped_partly old new room s =
      stopped_as old.present s.mid.present new.present s.at s.before.written room s.home s.before.made.content s.before.told (left_as s.mid new s.at s.stops)

  -- the header, or none of it, behind all home blocks
  all_image : (before home now : Image) → 4096 * blocks_of g ≤ length before → home ≡ image_after before (home_calls image (changed_blocks g image before))
      → IsWrittenUpTo g image (blocks_of g) before home → IsPartlyWritten (header_sector g) header home now → IsPartlyBack g h image before now
  all_image before home now room same is partly = record {
    size = partly.size ∙ is.size;
    each = λ k. elim (partly.each k) [
      | inl old ↦ elim (each_of before home (blocks_of g) (omega arith) is k) [
        | inl first ↦ inl (old ∙ first)
        | inr put ↦ inr (old ∙ put.1 ∙ sym (end_sector before room k put.0))
      ]
      | inr new ↦ inr (new ∙ ap (λ (i : Image). sector (overwritten i (header_sector g) header) k) same ∙ ap (λ (i : Image). sector i k) (sym (back_image before)))
    ];
    order = inr (λ b at.
        same_block now image b (omega (arith, at.high, room, partly.size, is.size)) (omega (arith, at.high, enough))
        (λ k inside. elim (partly.each k) [
          | inl old ↦ old ∙ is.done k (omega (arith, inside, at.low)) (omega (arith, inside, at.high))
          | inr new ↦ new ∙ beside before home room is k (no_header before home room is b k at inside) ∙ is.done k (omega (arith, inside, at.low)) (omega (arith, inside, at.high))
        ]));
  }

  all_as : (o mid new : Option Image) (written : List ℕ) → HasRoom g o → mid ≡ option_map (λ (i : Image). image_after i (home_calls image written)) o
      → IfSome o (λ before. written ≡ changed_below g image before (blocks_of g)) → IfSome mid (λ before. IfSome new (IsPartlyWritten (header_sector g) header before))
      → IfSome o (λ before. IfSome new (IsPartlyBack g h image before))
  all_as None mid new written room content told partly = tt
  all_as (Some before) mid None written room content told partly = tt
  all_as (Some before) mid (Some now) written room content told partly =
      let home : Image = image_after before (home_calls image written) in
      let same : home ≡ image_after before (home_calls image (changed_blocks g image before)) = ap (λ (l : List ℕ). image_after before (home_calls image l)) told in
      all_image before home now room same (subst (λ (i : Image). IsWrittenUpTo g image (blocks_of g) before i) (sym same) (all_below before room))
      (subst (λ (o : Option Image). IfSome o (λ i. IsPartlyWritten (header_sector g) header i now)) content partly)

  pub all_partly : (old new : DiskTold) → HasRoom g old.present → (mid : DiskTold) → HasHomes g image (blocks_of g) old mid → IsHeaderPartly g h mid new → HoldsPartly g h image old new
  all_partly old new room mid has partly = all_as old.present mid.present new.present has.written room has.made.content has.told partly

  content_told : (o new : Option Image) (written : List ℕ) → HasRoom g o → h.epoch + 1 < 2 ^ 32 → new ≡ option_map (λ (i : Image). image_after i (calls_that_write g h image written)) o
      → IfSome o (λ before. written ≡ changed_below g image before (blocks_of g)) → IfSome o (λ before. IfSome new (IsWrittenBack g h image before))
  content_told None new written room epoch content told = tt
  content_told (Some before) new written room epoch content told =
      let home : Image = image_after before (home_calls image (changed_blocks g image before)) in
      let last : new ≡ Some (overwritten home (header_sector g) header) =
      content ∙ ap (λ (l : List ℕ). Some (image_after before (calls_that_write g h image l))) told ∙ ap (λ (i : Image). Some i) (back_image before) in
      subst (λ (o : Option Image). IfSome o (IsWrittenBack g h image before)) (sym last) (final_is before home room (all_below before room) epoch)

  settled_told : (o new : Option Record) (written : List ℕ) → new ≡ option_map (λ r. with_calls r (calls_that_write g h image written)) o → IfSome new IsSettled
  settled_told None new written is = subst (λ (l : Option Record). IfSome l IsSettled) (sym is) tt
  settled_told (Some r) new written is =
      let front : List DeviceCall = r.calls ++ (home_calls image written ++ (Flush ∷ (Write (header_sector g) header ∷ []))) in
      let split : front ++ (Flush ∷ []) ≡ r.calls ++ calls_that_write g h image written =
      append_assoc r.calls (home_calls image written ++ (Flush ∷ (Write (header_sector g) header ∷ []))) (Flush ∷ [])
      ∙ ap (λ (l : List DeviceCall). r.calls ++ l) (append_assoc (home_calls image written) (Flush ∷ (Write (header_sector g) header ∷ [])) (Flush ∷ [])) in
      subst (λ (l : Option Record). IfSome l IsSettled) (sym is) (ap pending (sym split) ∙ pending_renewed front (Flush ∷ []) refl)

  pub holds_image : {T E : Type 0} (old new : DiskTold) → HasRoom g old.present → h.epoch + 1 < 2 ^ 32 → (result : Result T E) (mid : DiskTold) → HasHomes g image (blocks_of g) old mid
      → Makes (Flush ∷ emptying g h) result mid new → OnOk result (HoldsImage g h image old new)
  holds_image old new room epoch (Err e) mid has makes = tt
  holds_image old new room epoch (Ok x) mid has makes =
      let made : HasMade (calls_that_write g h image has.written) old new = made_then (home_calls image has.written) (Flush ∷ emptying g h) old mid new has.made makes.ok in
      record {
        content = content_told old.present new.present has.written room epoch made.content has.told;
        settled = settled_told old.listed new.listed has.written made.listed;
      }
