-- What mkfs leaves, and what a crash at any moment of it may leave, by what its disk tells.
use Rattle.std.proofs.Common.{◌≡◌, ◌≤◌, ◌<◌, ℕ, ◌-◌, ◌*◌, ◌%◌, ◌^◌, List, [], ◌∷◌, ◌++◌, length, take, drop, replicate, Option, Some, None, Result, Ok, Err, refl, sym, ◌∙◌, ap, subst, arith, append_assoc}
use Rattle.std.specs.Prelude.{IfSome, IsSome, OnOk, option_map}
use Rattle.std.proofs.lemmas.List.{drop_all, length-append, length-take}
use Rattle.lufs_base.specs.Layout.{IsGeometry, blocks_of}
use Rattle.lufs_base.specs.declared.geometry.Geometry.{Geometry}
use Rattle.volume_model.specs.declared.device_call.DeviceCall.{DeviceCall}
use Rattle.volume_model.specs.declared.device_call.DeviceCall.TheVariants.{Write, Flush}
use Rattle.volume_model.specs.Format.{Image, super_bytes}
use Rattle.volume_model.specs.Crash.{Record, with_calls, IsSettled, image_after, pending, AtEachMoment, record_since}
use Rattle.volume_model.specs.MkfsImage.{IsMkfsImage}
use Rattle.volume_model.proofs.Calls.{pending_renewed}
use Rattle.volume_model.proofs.CrashLaws.{one_outcome, same_calls}
use Rattle.sector_disk.specs.Disk.{DiskTold, HasMade, Makes, IsTold, IsOfItsSectors}
use Rattle.sector_disk.specs.Continued.{IsCounted, CrashLeaves}
use Rattle.sector_disk.proofs.MadeCalls.{HasBegun, no_calls, tells_still}
use Rattle.sector_disk.proofs.OwnCalls.{own_calls, crash_leaves}
use Rattle.new_volume.specs.Mkfs.{log_bytes, first_metadata, group_calls, volume_calls, mkfs_calls}
use Rattle.new_volume.specs.MkfsCrash.{IsMkfsOutcome, unchanged}
use Rattle.new_volume.specs.NewVolume.{HoldsNewVolume}
use Rattle.new_volume.proofs.MadeImage.{made_of_image}
use Rattle.new_volume.proofs.MkfsCrash.{outcome_of_some}
use Rattle.new_volume.proofs.NewOpens.{new_opens_told}

room_told : (g : Geometry) (present : Option Image) (sectors : ℕ) → IfSome present (λ image. length image ≡ 512 * sectors) → 8 * blocks_of g ≤ sectors
    → IfSome present (λ image. 4096 * blocks_of g ≤ length image)
room_told g None sectors size fits = tt
room_told g (Some image) sectors size fits = omega (arith, size, fits)

-- nothing was called, so nothing changed
untouched_moments : (g : Geometry) (moment : ℕ) (present : Option Image) (listed : Option Record) (sectors calls : ℕ) → IfSome present (λ image. length image ≡ 512 * sectors)
    → IfSome listed (λ r. (calls ≡ length r.calls) × IsSome present)
    → IfSome present (λ before. AtEachMoment (record_since (Some before) calls listed) 0 (calls - calls) (λ _. IsMkfsOutcome g moment before))
untouched_moments g moment None listed sectors calls size count = tt
untouched_moments g moment (Some before) None sectors calls size count = tt
untouched_moments g moment (Some before) (Some r) sectors calls size count = λ n low high image h.
    let none : n ≡ 0 = omega (arith, high) in
    let nothing : drop calls r.calls ≡ [] = drop_all calls r.calls (omega (arith, count.0)) in
    let start : Record = record { opening = before; calls = [] } in
    let whole : length before % 512 ≡ 0 = omega (arith, size) in
    let same : take n (drop calls r.calls) ≡ take 0 start.calls = ap (take n) nothing ∙ ap (λ (k : ℕ). take k (let l : List DeviceCall = [] in l)) none in
    unchanged ((one_outcome start 0 image record { opening = whole; calls = tt } refl).0 (same_calls (record { opening = before; calls = drop calls r.calls }) start n 0 image refl same h))

pub untouched_leaves : (g : Geometry) (moment : ℕ) (old : DiskTold) → IsOfItsSectors old → IsTold old → IsCounted old → CrashLeaves (IsMkfsOutcome g moment) old old
untouched_leaves g moment old size told count =
    crash_leaves (IsMkfsOutcome g moment) old old [] told count (no_calls old.listed) (untouched_moments g moment old.present old.listed old.sectors old.calls size count)

-- the first of the calls went
begun_moments : (g : Geometry) (moment : ℕ) (present present_now : Option Image) (listed now : Option Record) (sectors calls calls_now k : ℕ) → IsGeometry g → moment < 2 ^ 64
    → IfSome present (λ image. length image ≡ 512 * sectors) → 8 * blocks_of g ≤ sectors → IfSome listed (λ r. (calls ≡ length r.calls) × IsSome present)
    → IfSome now (λ r. (calls_now ≡ length r.calls) × IsSome present_now) → now ≡ option_map (λ r. with_calls r (take k (mkfs_calls g moment))) listed
    → IfSome present (λ before. AtEachMoment (record_since (Some before) calls now) 0 (calls_now - calls) (λ _. IsMkfsOutcome g moment before))
begun_moments g moment None present_now listed now sectors calls calls_now k ok fits size enough count count_now on = tt
begun_moments g moment (Some before) present_now None now sectors calls calls_now k ok fits size enough count count_now on =
    subst (λ (l : Option Record). AtEachMoment (record_since (Some before) calls l) 0 (calls_now - calls) (λ _. IsMkfsOutcome g moment before)) (sym on) tt
begun_moments g moment (Some before) present_now (Some r) now sectors calls calls_now k ok fits size enough count count_now on =
    let made = take k (mkfs_calls g moment) in
    let counted = subst (λ (l : Option Record). IfSome l (λ r. (calls_now ≡ length r.calls) × IsSome present_now)) on count_now in
    let whole : length before % 512 ≡ 0 = omega (arith, size) in
    let room : 4096 * blocks_of g ≤ length before = omega (arith, size, enough) in
    subst (λ (l : Option Record). AtEachMoment (record_since (Some before) calls l) 0 (calls_now - calls) (λ _. IsMkfsOutcome g moment before)) (sym on)
    (λ n low high image h.
    let few : n ≤ k = omega (arith, high, counted.0, count.0, length-append r.calls made, length-take k (mkfs_calls g moment)) in
    outcome_of_some g moment before k n image ok fits whole room few
    (same_calls (record { opening = before; calls = drop calls (r.calls ++ made) }) (record { opening = before; calls = made }) n n image refl (ap (take n) (own_calls r calls made count.0)) h))

module _ (g : Geometry) (moment : ℕ) (ok : IsGeometry g) (fits : moment < 2 ^ 64) (old new : DiskTold) (size : IsOfItsSectors old) (enough : 8 * blocks_of g ≤ old.sectors) where
  pub mkfs_leaves : IsTold old → IsCounted old → IsCounted new → HasBegun (mkfs_calls g moment) old new → CrashLeaves (IsMkfsOutcome g moment) old new
  mkfs_leaves told count count_now begun =
      crash_leaves (IsMkfsOutcome g moment) old new (take begun.listed.0 (mkfs_calls g moment)) told count begun.listed.1
      (begun_moments g moment old.present new.present old.listed new.listed old.sectors old.calls new.calls begun.listed.0 ok fits size enough count count_now begun.listed.1)

  has_room : IfSome old.present (λ image. 4096 * blocks_of g ≤ length image)
  has_room = room_told g old.present old.sectors size enough

  made_told : (before now : Option Image) → IfSome before (λ image. 4096 * blocks_of g ≤ length image) → now ≡ option_map (λ image. image_after image (mkfs_calls g moment)) before
      → IfSome before (λ old. IfSome now (IsMkfsImage g moment old))
  made_told None now room content = tt
  made_told (Some before) now room content = subst (λ (o : Option Image). IfSome o (IsMkfsImage g moment before)) (sym content) (made_of_image g moment ok before room)

  -- the last call is a flush
  all_kept : pending (mkfs_calls g moment) ≡ []
  all_kept =
      let groups : List DeviceCall = group_calls g (first_metadata g moment) g.groups ++ (Flush ∷ []) in
      let front : List DeviceCall = Write 16 (super_bytes g) ∷ [] in
      let split : (groups ++ front) ++ (Flush ∷ []) ≡ groups ++ (Write 16 (super_bytes g) ∷ (Flush ∷ [])) = append_assoc groups front (Flush ∷ []) in
      ap (λ (calls : List DeviceCall). pending (Write 16 (replicate 512 0) ∷ (Flush ∷ (Write 24 (log_bytes g) ∷ calls)))) (sym split)
      ∙ pending_renewed (Write 16 (replicate 512 0) ∷ (Flush ∷ (Write 24 (log_bytes g) ∷ (groups ++ front)))) (Flush ∷ []) refl

  settled_told : (before now : Option Record) → now ≡ option_map (λ r. with_calls r (mkfs_calls g moment)) before → IfSome now IsSettled
  settled_told None now on = subst (λ (l : Option Record). IfSome l IsSettled) (sym on) tt
  settled_told (Some r) now on = subst (λ (l : Option Record). IfSome l IsSettled) (sym on) (pending_renewed r.calls (mkfs_calls g moment) refl ∙ all_kept)

  holds_new : HasMade (mkfs_calls g moment) old new → HoldsNewVolume g moment old new
  holds_new made =
      let is = made_told old.present new.present has_room made.content in
      record {
        room = omega (arith, enough, made.sectors);
        made = is;
        opens = new_opens_told g moment ok fits old.present new.present (tells_still (λ (image : Image). image_after image (mkfs_calls g moment)) old.present new.present made.content) has_room is;
        settled = settled_told old.listed new.listed made.listed;
      }

  pub holds_at : {T E : Type 0} (result : Result T E) → Makes (mkfs_calls g moment) result old new → OnOk result (HoldsNewVolume g moment old new)
  holds_at (Ok x) makes = holds_new makes.ok
  holds_at (Err e) makes = tt

-- the calls of the parts that were built are those of mkfs
pub makes_of_parts : {T E : Type 0} (result : Result T E) (g : Geometry) (moment : ℕ) (log first : List ℕ) (old new : DiskTold) → log ≡ log_bytes g → first ≡ first_metadata g moment
    → Makes (volume_calls g log first) result old new → Makes (mkfs_calls g moment) result old new
makes_of_parts result g moment log first old new log_is first_is makes =
    subst (λ (calls : List DeviceCall). Makes calls result old new) (ap (λ (x : List ℕ). volume_calls g x first) log_is ∙ ap (λ (x : List ℕ). volume_calls g (log_bytes g) x) first_is) makes
