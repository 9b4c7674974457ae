-- What a crash may leave of a disk's calls since a moment, by these calls alone and by all of its calls.
use Rattle.std.proofs.Common.{◌≡◌, ℕ, ◌+◌, ◌-◌, List, ◌++◌, length, take, drop, Option, Some, None, refl, sym, ap, ◌∙◌, subst, arith}
use Rattle.std.specs.Prelude.{◌↔◌, IfSome, IsSome, option_map}
use Rattle.std.proofs.Math.Seq.{take-append_seam, drop-append_seam}
use Rattle.volume_model.specs.declared.device_call.DeviceCall.{DeviceCall}
use Rattle.volume_model.specs.Format.{Image}
use Rattle.volume_model.specs.Crash.{Record, with_calls, up_to, Outcome, IsSettled, image_after, present_of, pending, record_from, AtEachMoment, record_since}
use Rattle.volume_model.proofs.CrashLaws.{same_calls, anew_by_size}
use Rattle.volume_model.proofs.Outcomes.{length-image_after}
use Rattle.sector_disk.specs.Disk.{DiskTold, IsTold, GoesWith}
use Rattle.sector_disk.specs.Continued.{IsCounted, IsAtRest, GoesOnWith, CrashLeaves}

-- the calls since then are those after the first ones
pub own_calls : (r : Record) (calls : ℕ) (since : List DeviceCall) → calls ≡ length r.calls → drop calls (r.calls ++ since) ≡ since
own_calls r calls since count = ap (λ (k : ℕ). drop k (r.calls ++ since)) count ∙ drop-append_seam r.calls since

-- the whole record at a moment since then, and the record of the calls since then
own_outcome : (r : Record) (before : Image) (faults calls : ℕ) (since : List DeviceCall) (m : ℕ) (image : Image) → GoesWith r faults before → calls ≡ length r.calls
    → IsSettled r → before ≡ present_of r → Outcome (with_calls r since) (calls + m) image ↔ Outcome (record { opening = before; calls = since }) m image
own_outcome r before faults calls since m image goes count settled content =
    let all = with_calls r since in
    let n = length r.calls in
    let front : take n all.calls ≡ r.calls = take-append_seam r.calls since in
    let size : length (present_of (up_to all n)) ≡ length all.opening =
    ap (λ (c : List DeviceCall). length (image_after r.opening c)) front ∙ length-image_after r.opening r.calls (length r.opening) refl goes.record_is.calls in
    let rest : IsSettled (up_to all n) = ap pending front ∙ settled in
    let anew = anew_by_size all n m image size rest in
    let opening : present_of (up_to all n) ≡ before = ap (image_after r.opening) front ∙ sym content in
    let behind : drop n all.calls ≡ since = drop-append_seam r.calls since in
    let own : Record = record { opening = before; calls = since } in
    let at : calls + m ≡ n + m = omega (arith, count) in (
      λ h. same_calls (record_from all n) own m m image opening (ap (take m) behind) (anew.0 (subst (λ (k : ℕ). Outcome all k image) at h)),
      λ h. subst (λ (k : ℕ). Outcome all k image) (sym at) (anew.1 (same_calls own (record_from all n) m m image (sym opening) (ap (take m) (sym behind)) h)),
    )

by_parts : (present : Option Image) (listed now : Option Record) (faults calls : ℕ) (before : Image) (since : List DeviceCall) (m : ℕ) (image : Image)
    → IfSome listed (λ r. IfSome present (GoesWith r faults)) → IfSome listed (λ r. (calls ≡ length r.calls) × IsSome present) → IfSome listed IsSettled
    → IfSome listed (λ r. IfSome present (λ image. image ≡ present_of r)) → present ≡ Some before → now ≡ option_map (λ r. with_calls r since) listed
    → IfSome now (λ all. Outcome all (calls + m) image ↔ Outcome (record { opening = before; calls = since }) m image)
by_parts present None now faults calls before since m image goes count settled content is on =
    subst (λ (l : Option Record). IfSome l (λ all. Outcome all (calls + m) image ↔ Outcome (record { opening = before; calls = since }) m image)) (sym on) tt
by_parts present (Some r) now faults calls before since m image goes count settled content is on =
    subst (λ (l : Option Record). IfSome l (λ all. Outcome all (calls + m) image ↔ Outcome (record { opening = before; calls = since }) m image)) (sym on)
    (own_outcome r before faults calls since m image (subst (λ (o : Option Image). IfSome o (GoesWith r faults)) is goes) count.0 settled
    (subst (λ (o : Option Image). IfSome o (λ image. image ≡ present_of r)) is content))

pub continued : (old new : DiskTold) (before : Image) (since : List DeviceCall) (m : ℕ) (image : Image) → IsTold old → IsCounted old → IsAtRest old → old.present ≡ Some before → GoesOnWith since old new
    → IfSome new.listed (λ all. Outcome all (old.calls + m) image ↔ Outcome (record { opening = before; calls = since }) m image)
continued old new before since m image told count rest is on =
    by_parts old.present old.listed new.listed old.faults old.calls before since m image told count rest.settled rest.content is on

-- what holds by the calls since then alone holds by all calls
whole_by : (P : Image → Image → Type 0) (present : Option Image) (listed now : Option Record) (faults calls last : ℕ) (since : List DeviceCall)
    → IfSome listed (λ r. IfSome present (GoesWith r faults)) → IfSome listed (λ r. (calls ≡ length r.calls) × IsSome present) → IfSome listed IsSettled
    → IfSome listed (λ r. IfSome present (λ image. image ≡ present_of r)) → now ≡ option_map (λ r. with_calls r since) listed
    → IfSome present (λ before. AtEachMoment (record_since (Some before) calls now) 0 (last - calls) (λ _. P before))
    → IfSome present (λ before. AtEachMoment now calls last (λ _. P before))
whole_by P None listed now faults calls last since goes count settled content on own = tt
whole_by P (Some before) None now faults calls last since goes count settled content on own = subst (λ (l : Option Record). AtEachMoment l calls last (λ _. P before)) (sym on) tt
whole_by P (Some before) (Some r) now faults calls last since goes count settled content on own =
    let here : AtEachMoment (record_since (Some before) calls (Some (with_calls r since))) 0 (last - calls) (λ _. P before) =
    subst (λ (l : Option Record). AtEachMoment (record_since (Some before) calls l) 0 (last - calls) (λ _. P before)) on own in
    subst (λ (l : Option Record). AtEachMoment l calls last (λ _. P before)) (sym on) (λ n low high image h.
    let m = n - calls in
    let at : n ≡ calls + m = omega (arith, low) in
    let alone = (own_outcome r before faults calls since m image goes count.0 settled content).0 (subst (λ (k : ℕ). Outcome (with_calls r since) k image) at h) in
    here m (omega arith) (omega (arith, high)) image
    (same_calls (record { opening = before; calls = since }) (record { opening = before; calls = drop calls (r.calls ++ since) }) m m image refl (ap (take m) (sym (own_calls r calls since count.0))) alone))

pub crash_leaves : (P : Image → Image → Type 0) (old new : DiskTold) (since : List DeviceCall) → IsTold old → IsCounted old → GoesOnWith since old new
    → IfSome old.present (λ before. AtEachMoment (record_since (Some before) old.calls new.listed) 0 (new.calls - old.calls) (λ _. P before)) → CrashLeaves P old new
crash_leaves P old new since told count on own = record {
  own = own;
  whole = λ rest. whole_by P old.present old.listed new.listed old.faults old.calls new.calls since told count rest.settled rest.content on own;
}
