-- What a crash may leave of the calls of mkfs.
use Rattle.std.proofs.Common.{◌≡◌, ◌≢◌, ℕ, zero, suc, ◌+◌, ◌-◌, ◌*◌, ◌/◌, ◌%◌, ◌<◌, ◌≤◌, ◌⊎◌, inl, inr, List, [], ◌∷◌, ◌++◌, length, take, drop, map, replicate, Option, Some, None, refl, sym, ◌∙◌, ap, subst, arith, take_all, ◌^◌}
use Rattle.std.specs.Prelude.{Contains, ◌==◌, ◌&&◌, nat_lt, nat_le}
use Rattle.std.specs.Option.{unwrap_or}
use Rattle.std.specs.List.{AllByRecursion, last_or, cons_option, range_with_len}
use Rattle.std.proofs.lemmas.Bool.{cases_lt, cases_Bool, cond-false, eqb-true, eqb-false, and_left, lt-leb}
use Rattle.std.proofs.lemmas.List.{take_at, drop_at, take-take, take-append-le, take-append-drop}
use Rattle.std.proofs.lemmas.List.Elements.{filter_map-append}
use Rattle.lufs_base.specs.Fields.{number_in}
use Rattle.lufs_base.specs.Layout.{IsGeometry, group_start, blocks_of}
use Rattle.lufs_base.specs.declared.geometry.Geometry.{Geometry}
use Rattle.volume_model.specs.declared.device_call.DeviceCall.{DeviceCall}
use Rattle.volume_model.specs.declared.device_call.DeviceCall.TheVariants.{Write, Flush}
use Rattle.volume_model.specs.Format.{Image, sector, sectors_of, overwritten, super_of, super_bytes, geometry_of}
use Rattle.volume_model.specs.Crash.{Record, IsInside, IsOfSectors, image_after, flushed, pending, record_from, written_by, written_to, kept_at, Outcome, IsPartlyWritten}
use Rattle.volume_model.specs.MkfsImage.{IsMkfsImage}
use Rattle.volume_model.proofs.Sectors.{same_sectors, length-overwritten, sector_within}
use Rattle.volume_model.proofs.Calls.{image_after-append, flushed-pending, pending_renewed}
use Rattle.volume_model.proofs.Outcomes.{AllInside, inside_front, inside_left, inside_both, length-image_after, sector_after}
use Rattle.volume_model.proofs.CrashLaws.{same_calls, one_outcome, after_write, after_flush, begins_anew}
use Rattle.new_volume.specs.Mkfs.{log_bytes, first_metadata, metadata_of, sealing, clearing, group_call, group_calls, filling, mkfs_calls}
use Rattle.new_volume.specs.MkfsCrash.{IsMkfsOutcome, unchanged, no_volume, whole}
use Rattle.new_volume.proofs.Groups.{length-metadata, used_in_group, groups_rise}
use Rattle.new_volume.proofs.MadeImage.{length-log, room_before_groups, length-super, other_sectors, made_of_image}
use Rattle.new_volume.proofs.NewOpens.{new_opens}
use Rattle.new_volume.proofs.NewRecovered.{new_geometry, new_recovered}

none_left : {X : Type 0} (xs ys : List X) → xs ++ ys ≡ [] → xs ≡ []
none_left [] ys none = refl
none_left (x ∷ xs) ys none = absurd (cc)

none_right : {X : Type 0} (xs ys : List X) → xs ++ ys ≡ [] → ys ≡ []
none_right [] ys none = none
none_right (x ∷ xs) ys none = absurd (cc)

none_among : {X : Type 0} (xs : List X) (x : X) → xs ≡ [] → Contains xs x → ⊥
none_among xs x none c = omega (arith, c.1, ap length none)

-- a sector that none of the calls writes is in each outcome as it was
unwritten : (r : Record) (n k : ℕ) (image : Image) → AllInside (length r.opening) (take n r.calls) → written_to k (take n r.calls) ≡ []
    → Outcome r n image → sector image k ≡ sector r.opening k
unwritten r n k image inside none h =
    let calls = take n r.calls in
    let size = length r.opening in
    let parts : written_to k (flushed calls) ++ written_to k (pending calls) ≡ [] =
    sym (filter_map-append (written_by k) (flushed calls) (pending calls)) ∙ ap (written_to k) (flushed-pending calls) ∙ none in
    let before = none_left (written_to k (flushed calls)) (written_to k (pending calls)) parts in
    let since = none_right (written_to k (flushed calls)) (written_to k (pending calls)) parts in
    let kept : sector (kept_at r n) k ≡ sector r.opening k =
    sector_after r.opening (flushed calls) size k refl (inside_left size (flushed calls) (pending calls) (subst (AllInside size) (sym (flushed-pending calls)) inside))
    ∙ ap (λ (l : List (List ℕ)). unwrap_or (last_or None l) (sector r.opening k)) before in
    elim (h.each k) [
      | inl same ↦ same ∙ kept
      | inr new ↦ absurd (none_among (written_to k (pending calls)) (sector image k) since new)
    ]

-- a write of sector 16 leaves what was there, or all that it puts
one_sector : (old image : Image) (bytes : List ℕ) → length bytes ≡ 512 → 512 * 16 + 512 ≤ length old → IsPartlyWritten 16 bytes old image
    → (image ≡ old) ⊎ (image ≡ overwritten old 16 bytes)
one_sector old image bytes size fits partly = elim (partly.each 16) [
  | inl same ↦ inl (same_as old partly.size same (λ k other. refl))
  | inr put ↦ inr (same_as new (partly.size ∙ sym (length-overwritten old 16 bytes inside)) put elsewhere)
]
  where
    new : Image
    new = overwritten old 16 bytes

    inside : 512 * 16 + length bytes ≤ length old
    inside = omega (arith, size, fits)

    elsewhere : (k : ℕ) → k ≢ 16 → sector (overwritten old 16 bytes) k ≡ sector old k
    elsewhere k other = other_sectors old bytes k size fits other

    same_as : (target : Image) → length image ≡ length target → sector image 16 ≡ sector target 16 → ((k : ℕ) → k ≢ 16 → sector target k ≡ sector old k) → image ≡ target
    same_as target long there each = same_sectors image target long (λ k. elim (cases_Bool (k == 16)) [
      | inl is ↦ let at : k ≡ 16 = eqb-true k 16 is in subst (λ (n : ℕ). sector image n ≡ sector target n) (sym at) there
      | inr not ↦
          let other : k ≢ 16 = eqb-false k 16 not in
          elim (partly.each k) [ inl same ↦ same ∙ sym (each k other) | inr put ↦ put ∙ elsewhere k other ∙ sym (each k other) ]
    ])

-- what a crash leaves of the two calls that write sector 16 and keep it
sealing_leaves : (old : Image) (bytes : List ℕ) (n : ℕ) (image : Image) → length bytes ≡ 512 → length old % 512 ≡ 0 → 512 * 16 + 512 ≤ length old
    → Outcome (record { opening = old; calls = sealing bytes }) n image → (image ≡ old) ⊎ (image ≡ overwritten old 16 bytes)
sealing_leaves old bytes n image size sectors fits h = by_count n h
  where
    write_inside : IsInside (length old) (Write 16 bytes)
    write_inside = (omega (arith, size), omega (arith, size, fits))

    by_count : (n : ℕ) → Outcome (record { opening = old; calls = sealing bytes }) n image → (image ≡ old) ⊎ (image ≡ overwritten old 16 bytes)
    by_count zero h = inl (same_sectors image old h.size (λ k. elim (h.each k) [ inl same ↦ same | inr some ↦ absurd (none_among [] (sector image k) refl some) ]))
    by_count (suc zero) h =
        let found = (after_write (record { opening = old; calls = [] }) 16 bytes image record { opening = sectors; calls = (write_inside, tt) }).0
        (same_calls (record { opening = old; calls = sealing bytes }) (record { opening = old; calls = Write 16 bytes ∷ [] }) 1 1 image refl refl h) in
        let same = (one_outcome (record { opening = old; calls = [] }) 0 found.0 record { opening = sectors; calls = tt } refl).0 found.1 in
        one_sector old image bytes size fits (subst (λ (o : Image). IsPartlyWritten 16 bytes o image) same found.2)
    by_count (suc (suc n)) h =
        inr ((after_flush (record { opening = old; calls = Write 16 bytes ∷ [] }) image record { opening = sectors; calls = (write_inside, (tt, tt)) }).0
        (same_calls (record { opening = old; calls = sealing bytes }) (record { opening = old; calls = sealing bytes }) (suc (suc n)) 2 image refl
        (take_all (suc (suc n)) (sealing bytes) (omega arith)) h))

-- zeros are no superblock
zeros_name_nothing : (sectors : ℕ) → super_of (replicate 512 0) sectors ≡ None
unfolding super_of number_in
zeros_name_nothing sectors = refl

no_geometry : (image : Image) → sector image 16 ≡ replicate 512 0 → geometry_of image ≡ None
no_geometry image zeros = ap (λ (s : List ℕ). super_of s (sectors_of image)) zeros ∙ zeros_name_nothing (sectors_of image)

-- what holds of each number holds of each call of a list that is made by number
each_of_range : (P : DeviceCall → Type 0) (f : ℕ → DeviceCall) (a n : ℕ) → ((i : ℕ) → i < n → P (f (a + i))) → AllByRecursion P (map f (range_with_len a n))
each_of_range P f a zero each = tt
each_of_range P f a (suc n) each =
    let here : a + 0 ≡ a = omega arith in (
      subst (λ (k : ℕ). P (f k)) here (each 0 (omega arith)),
      each_of_range P f (a + 1) n (λ i below.
          let there : a + (i + 1) ≡ (a + 1) + i = omega arith in subst (λ (k : ℕ). P (f k)) there (each (i + 1) (omega (arith, below)))),
    )

-- calls of which none writes sector 16
none_written : (calls : List DeviceCall) → AllByRecursion (λ call. written_by 16 call ≡ None) calls → written_to 16 calls ≡ []
none_written [] all = refl
none_written (call ∷ calls) all = ap (λ (o : Option (List ℕ)). cons_option o (written_to 16 calls)) all.0 ∙ none_written calls all.1

written_behind : (first : ℕ) (bytes : List ℕ) → 16 < first → written_by 16 (Write first bytes) ≡ None
written_behind first bytes behind =
    cond-false (nat_le first 16 && nat_lt 16 (first + sectors_of bytes)) (Some (sector bytes (16 - first))) None
    (and_left (nat_le first 16) (nat_lt 16 (first + sectors_of bytes)) (lt-leb first 16 behind))

-- The calls by parts: those that clear sector 16, those that fill the log and the groups, and those that seal.
module _ (g : Geometry) (moment : ℕ) (ok : IsGeometry g) (before : Image) (in_sectors : length before % 512 ≡ 0) (room : 4096 * blocks_of g ≤ length before) (fits : moment < 2 ^ 64) where
  abbrev bytes : ℕ
  bytes = length before

  abbrev rest : List DeviceCall
  rest = filling g moment ++ sealing (super_bytes g)

  -- sector 16 cleared, and all but the superblock filled
  abbrev cleared : Image
  cleared = overwritten before 16 (replicate 512 0)

  abbrev filled : Image
  filled = image_after cleared (filling g moment)

  large : 4096 * (3 + g.log / 8) ≤ bytes
  large = room_before_groups g bytes room

  group_inside : (i : ℕ) → i < g.groups → IsInside bytes (group_call g (first_metadata g moment) i)
  group_inside i within =
      let size = length-metadata g moment i ok in
      (omega (arith, size), omega (arith, size, used_in_group g i ok, groups_rise g i g.groups within, room))

  groups_inside : AllInside bytes (group_calls g (first_metadata g moment) g.groups)
  groups_inside = each_of_range (IsInside bytes) (group_call g (first_metadata g moment)) 0 g.groups (λ i within. group_inside (0 + i) (omega (arith, within)))

  filling_inside : AllInside bytes (filling g moment)
  filling_inside = (
    (omega (arith, length-log g ok), omega (arith, length-log g ok, large, ok.log_step)),
    inside_both bytes (group_calls g (first_metadata g moment) g.groups) (Flush ∷ []) groups_inside (tt, tt),
  )

  rest_inside : AllInside bytes rest
  rest_inside = inside_both bytes (filling g moment) (sealing (super_bytes g)) filling_inside ((omega (arith, length-super g), omega (arith, length-super g, large)), (tt, tt))

  all_inside : AllInside bytes (mkfs_calls g moment)
  all_inside = ((refl, omega (arith, large)), (tt, rest_inside))

  -- none of the calls that fill writes sector 16
  filling_elsewhere : written_to 16 (filling g moment) ≡ []
  filling_elsewhere =
      let groups = group_calls g (first_metadata g moment) g.groups in
      let none : written_to 16 groups ≡ [] = none_written groups (each_of_range (λ call. written_by 16 call ≡ None) (group_call g (first_metadata g moment)) 0 g.groups (λ i within.
      written_behind (8 * group_start g (0 + i)) (metadata_of g moment (0 + i)) (omega arith))) in
      ap (λ (o : Option (List ℕ)). cons_option o (written_to 16 (groups ++ Flush ∷ []))) (written_behind 24 (log_bytes g) (omega arith))
      ∙ filter_map-append (written_by 16) groups (Flush ∷ []) ∙ ap (λ (l : List (List ℕ)). l ++ []) none

  length-cleared : length cleared ≡ bytes
  length-cleared = length-overwritten before 16 (replicate 512 0) (omega (arith, large))

  length-filled : length filled ≡ bytes
  length-filled = length-image_after cleared (filling g moment) bytes length-cleared filling_inside

  cleared_there : sector cleared 16 ≡ replicate 512 0
  cleared_there = sector_within before 16 (replicate 512 0) 16 0 (omega (arith, large)) refl (omega arith)

  cleared_still : sector filled 16 ≡ replicate 512 0
  cleared_still =
      sector_after cleared (filling g moment) bytes 16 length-cleared filling_inside
      ∙ ap (λ (l : List (List ℕ)). unwrap_or (last_or None l) (sector cleared 16)) filling_elsewhere ∙ cleared_there

  sealed_is : overwritten filled 16 (super_bytes g) ≡ image_after before (mkfs_calls g moment)
  sealed_is = sym (image_after-append cleared (filling g moment) (sealing (super_bytes g)))

  cleared_gives_none : (image : Image) → sector image 16 ≡ replicate 512 0 → IsMkfsOutcome g moment before image
  cleared_gives_none image zeros = no_volume (no_geometry image zeros)

  new_volume_is_whole : (image : Image) → IsMkfsImage g moment before image → IsMkfsOutcome g moment before image
  new_volume_is_whole image is =
      whole image (new_geometry g moment ok before image is room) (new_recovered g moment ok before image is) is (new_opens g moment ok fits before image is room)

  -- a crash before the clearing is kept
  while_clearing : (n : ℕ) (image : Image) → Outcome (record { opening = before; calls = clearing }) n image → IsMkfsOutcome g moment before image
  while_clearing n image h = elim (sealing_leaves before (replicate 512 0) n image refl in_sectors (omega (arith, large)) h) [
    | inl same ↦ unchanged same
    | inr put ↦ cleared_gives_none image (ap (λ (i : Image). sector i 16) put ∙ cleared_there)
  ]

  -- a crash while the log and the groups are filled
  rest_is_of_sectors : IsOfSectors (record { opening = cleared; calls = rest })
  rest_is_of_sectors = record { opening = omega (arith, in_sectors, length-cleared); calls = subst (λ (size : ℕ). AllInside size rest) (sym length-cleared) rest_inside }

  while_filling : (m : ℕ) (image : Image) → m ≤ length (filling g moment) → Outcome (record { opening = cleared; calls = rest }) m image → IsMkfsOutcome g moment before image
  while_filling m image within h =
      let r : Record = record { opening = cleared; calls = rest } in
      let front : take m rest ≡ take m (filling g moment) = take-append-le m (filling g moment) (sealing (super_bytes g)) within in
      let split : written_to 16 (take m (filling g moment)) ++ written_to 16 (drop m (filling g moment)) ≡ [] =
      sym (filter_map-append (written_by 16) (take m (filling g moment)) (drop m (filling g moment))) ∙ ap (written_to 16) (take-append-drop m (filling g moment)) ∙ filling_elsewhere in
      let none : written_to 16 (take m rest) ≡ [] = ap (written_to 16) front ∙ none_left (written_to 16 (take m (filling g moment))) (written_to 16 (drop m (filling g moment))) split in
      cleared_gives_none image (unwritten r m 16 image (inside_front (length cleared) m rest rest_is_of_sectors.calls) none h ∙ cleared_there)

  -- a crash after that
  while_sealing : (j : ℕ) (image : Image) → Outcome (record { opening = filled; calls = sealing (super_bytes g) }) j image → IsMkfsOutcome g moment before image
  while_sealing j image h =
      elim (sealing_leaves filled (super_bytes g) j image (length-super g) (omega (arith, in_sectors, length-filled)) (omega (arith, large, length-filled)) h) [
        | inl same ↦ cleared_gives_none image (ap (λ (i : Image). sector i 16) same ∙ cleared_still)
        | inr put ↦ subst (IsMkfsOutcome g moment before) (sym (put ∙ sealed_is)) (new_volume_is_whole (image_after before (mkfs_calls g moment)) (made_of_image g moment ok before room))
      ]

  behind_filling : (j : ℕ) (image : Image) → Outcome (record { opening = cleared; calls = rest }) (length (filling g moment) + j) image → IsMkfsOutcome g moment before image
  behind_filling j image h =
      let r : Record = record { opening = cleared; calls = rest } in
      let n = length (filling g moment) in
      let front : take n rest ≡ filling g moment = take_at (filling g moment) (sealing (super_bytes g)) n refl in
      let settled : pending (take n rest) ≡ [] = ap pending front ∙ pending_renewed (Write 24 (log_bytes g) ∷ group_calls g (first_metadata g moment) g.groups) (Flush ∷ []) refl in
      let anew = (begins_anew r n j image rest_is_of_sectors settled).0 h in
      while_sealing j image
      (same_calls (record_from r n) (record { opening = filled; calls = sealing (super_bytes g) }) j j image (ap (image_after cleared) front)
      (ap (take j) (drop_at (filling g moment) (sealing (super_bytes g)) n refl)) anew)

  behind_clearing : (m : ℕ) (image : Image) → Outcome (record { opening = cleared; calls = rest }) m image → IsMkfsOutcome g moment before image
  behind_clearing m image h = elim (cases_lt m (length (filling g moment))) [
    | inl less ↦ while_filling m image (omega (arith, less)) h
    | inr more ↦
        let split : length (filling g moment) + (m - length (filling g moment)) ≡ m = omega (arith, more) in
        behind_filling (m - length (filling g moment)) image (subst (λ (n : ℕ). Outcome (record { opening = cleared; calls = rest }) n image) (sym split) h)
  ]

  outcome_of_all : (n : ℕ) (image : Image) → Outcome (record { opening = before; calls = mkfs_calls g moment }) n image → IsMkfsOutcome g moment before image
  outcome_of_all n image h =
      let r : Record = record { opening = before; calls = mkfs_calls g moment } in
      elim (cases_lt n 2) [
        | inl few ↦ while_clearing n image (same_calls r (record { opening = before; calls = clearing }) n n image refl (take-append-le n clearing rest (omega (arith, few))) h)
        | inr more ↦
            let split : 2 + (n - 2) ≡ n = omega (arith, more) in
            behind_clearing (n - 2) image
            ((begins_anew r 2 (n - 2) image record { opening = in_sectors; calls = all_inside } refl).0 (subst (λ (m : ℕ). Outcome r m image) (sym split) h))
      ]

pub outcome_of_some : (g : Geometry) (moment : ℕ) (before : Image) (k n : ℕ) (image : Image) → IsGeometry g → moment < 2 ^ 64 → length before % 512 ≡ 0 → 4096 * blocks_of g ≤ length before → n ≤ k
    → Outcome (record { opening = before; calls = take k (mkfs_calls g moment) }) n image → IsMkfsOutcome g moment before image
outcome_of_some g moment before k n image ok fits in_sectors room within h =
    outcome_of_all g moment ok before in_sectors room fits n image
    (same_calls (record { opening = before; calls = take k (mkfs_calls g moment) }) (record { opening = before; calls = mkfs_calls g moment }) n n image refl (take-take n k (mkfs_calls g moment) within) h)
