-- Calls of a disk that were made one after the other, and those that a failed one leaves.
use Rattle.std.proofs.Common.{◌≡◌, ◌≤◌, ◌<◌, ◌⊎◌, inl, inr, ℕ, ◌+◌, ◌^◌, List, [], ◌∷◌, ◌++◌, length, take, Option, Some, None, Result, Ok, Err, refl, sym, ◌∙◌, ap, append_assoc, arith, length-append}
use Rattle.std.specs.Prelude.{option_map, is_some, IsOk, IsErr, OnOk, OnErr}
use Rattle.std.proofs.Math.Seq.{take-append-add}
use Rattle.std.proofs.lemmas.Bool.{cases_lt, false≢true}
use Rattle.std.proofs.lemmas.List.{take-append-le, append-nil, take_all}
use Rattle.volume_model.specs.declared.device_call.DeviceCall.{DeviceCall}
use Rattle.volume_model.specs.declared.device_call.DeviceCall.TheVariants.{Write, Flush}
use Rattle.volume_model.specs.Format.{Image}
use Rattle.volume_model.specs.Crash.{Record, with_calls, image_after}
use Rattle.volume_model.proofs.Calls.{image_after-append}
use Rattle.sector_disk.specs.Disk.{DiskTold, IsUnwritten, HasMade, HasMadePartly, Makes, NoneFailed}
use Rattle.sector_disk.specs.Continued.{GoesOnWith}

-- the count of calls is one of 64 bits
abbrev pub CanCount : DiskTold → Type 0
CanCount told = told.calls < 2 ^ 64

-- no others than the first of these calls went
pub record HasBegun (calls : List DeviceCall) (old new : DiskTold) : Type 0 where
  pub sectors : new.sectors ≡ old.sectors
  pub tells : is_some new.present ≡ is_some old.present
  pub listed : (n : ℕ) × GoesOnWith (take n calls) old new
  pub count : old.calls ≤ new.calls

pub makes_some : {T E : Type 0} (result : Result T E) (calls : List DeviceCall) (old new : DiskTold) → IsErr result → HasBegun calls old new → Makes calls result old new
makes_some (Ok x) calls old new is begun = absurd (false≢true is)
makes_some (Err e) calls old new is begun = record { ok = tt; sectors = begun.sectors; tells = begun.tells; listed = begun.listed; count = begun.count }

-- what a call that went made, and what one that failed began
pub made_of : {T E : Type 0} (result : Result T E) (calls : List DeviceCall) (old new : DiskTold) → IsOk result → Makes calls result old new → HasMade calls old new
made_of (Ok x) calls old new is makes = makes.ok
made_of (Err e) calls old new is makes = absurd (false≢true is)

pub begun_of : {T E : Type 0} (result : Result T E) (calls : List DeviceCall) (old new : DiskTold) → Makes calls result old new → HasBegun calls old new
begun_of result calls old new makes = record { sectors = makes.sectors; tells = makes.tells; listed = makes.listed; count = makes.count }

-- the count fits still
pub fits_still : (calls : List DeviceCall) (old new : DiskTold) → HasMade calls old new → CanCount new
fits_still calls old new made = omega (arith, made.count)

pub tells_still : (f : Image → Image) (before now : Option Image) → now ≡ option_map f before → is_some now ≡ is_some before
tells_still f None now same = ap is_some same
tells_still f (Some image) now same = ap is_some same

-- all calls that went are the first of themselves
pub begun_all : (calls : List DeviceCall) (old new : DiskTold) → CanCount old → HasMade calls old new → HasBegun calls old new
begun_all calls old new fits made = record {
  sectors = made.sectors;
  tells = tells_still (λ (image : Image). image_after image calls) old.present new.present made.content;
  listed = (length calls, made.listed ∙ ap (λ (c : List DeviceCall). option_map (λ (r : Record). with_calls r c) old.listed) (sym (take_all (length calls) calls (omega arith))));
  count = omega (arith, made.count, fits);
}

pub makes_all : {T E : Type 0} {x : T} (calls : List DeviceCall) (old new : DiskTold) → CanCount old → HasMade calls old new → Makes {E = E} calls (Ok x) old new
makes_all calls old new fits made =
    let begun = begun_all calls old new fits made in
    record { ok = made; sectors = begun.sectors; tells = begun.tells; listed = begun.listed; count = begun.count }

-- no call failed, and then none
pub none_then : {old mid new : DiskTold} → NoneFailed old mid → NoneFailed mid new → NoneFailed old new
none_then first second = record { failures = second.failures ∙ first.failures; failed_at = second.failed_at ∙ first.failed_at; faults = omega (arith, first.faults, second.faults) }

-- calls that were made before others
pub made_then : (a b : List DeviceCall) (old mid new : DiskTold) → HasMade a old mid → HasMade b mid new → HasMade (a ++ b) old new
made_then a b old mid new first second = record {
  sectors = second.sectors ∙ first.sectors;
  content = second.content ∙ ap (option_map (λ (image : Image). image_after image b)) first.content ∙ content old.present;
  listed = second.listed ∙ ap (option_map (λ (r : Record). with_calls r b)) first.listed ∙ list old.listed;
  count = omega (arith, first.count, second.count, length-append a b);
}
  where
    content : (o : Option Image) → option_map (λ (image : Image). image_after image b) (option_map (λ (image : Image). image_after image a) o) ≡ option_map (λ (image : Image). image_after image (a ++ b)) o
    content None = refl
    content (Some image) = ap (λ (i : Image). Some i) (sym (image_after-append image a b))

    list : (o : Option Record) → option_map (λ (r : Record). with_calls r b) (option_map (λ (r : Record). with_calls r a) o) ≡ option_map (λ (r : Record). with_calls r (a ++ b)) o
    list None = refl
    list (Some r) = ap (λ (calls : List DeviceCall). Some (record { opening = r.opening; calls = calls })) (append_assoc r.calls a b)

-- calls of which some were begun, before others or after others
pub begun_more : (a b : List DeviceCall) (old new : DiskTold) → HasBegun a old new → HasBegun (a ++ b) old new
begun_more a b old new begun = record { sectors = begun.sectors; tells = begun.tells; listed = list; count = begun.count }
  where
    list : (n : ℕ) × GoesOnWith (take n (a ++ b)) old new
    list = elim (cases_lt begun.listed.0 (length a)) [
      | inl less ↦ (
        begun.listed.0,
        begun.listed.1 ∙ ap (λ (calls : List DeviceCall). option_map (λ (r : Record). with_calls r calls) old.listed) (sym (take-append-le begun.listed.0 a b (omega (arith, less)))),
      )
      | inr all ↦ (
        length a,
        begun.listed.1 ∙ ap (λ (calls : List DeviceCall). option_map (λ (r : Record). with_calls r calls) old.listed)
            (take_all begun.listed.0 a all ∙ sym (take_all (length a) a (omega arith)) ∙ sym (take-append-le (length a) a b (omega arith))),
      )
    ]

pub begun_then : (a b : List DeviceCall) (old mid new : DiskTold) → CanCount old → HasMade a old mid → HasBegun b mid new → HasBegun (a ++ b) old new
begun_then a b old mid new fits made begun =
    let first = begun_all a old mid fits made in
    record {
      sectors = begun.sectors ∙ made.sectors;
      tells = begun.tells ∙ first.tells;
      listed = (length a + begun.listed.0, begun.listed.1 ∙ ap (option_map (λ (r : Record). with_calls r (take begun.listed.0 b))) made.listed ∙ list old.listed);
      count = omega (arith, first.count, begun.count);
    }
  where
    list : (o : Option Record) → option_map (λ (r : Record). with_calls r (take begun.listed.0 b)) (option_map (λ (r : Record). with_calls r a) o)
        ≡ option_map (λ (r : Record). with_calls r (take (length a + begun.listed.0) (a ++ b))) o
    list None = refl
    list (Some r) =
        ap (λ (calls : List DeviceCall). Some (record { opening = r.opening; calls = calls }))
        (append_assoc r.calls a (take begun.listed.0 b) ∙ ap (λ (calls : List DeviceCall). r.calls ++ calls) (sym (take-append-add a b begun.listed.0)))

pub makes_then : {T E : Type 0} (result : Result T E) (a b : List DeviceCall) (old mid new : DiskTold) → CanCount old → HasMade a old mid → Makes b result mid new → Makes (a ++ b) result old new
makes_then (Ok x) a b old mid new fits made makes = makes_all (a ++ b) old new fits (made_then a b old mid new made makes.ok)
makes_then (Err e) a b old mid new fits made makes = makes_some (Err e) (a ++ b) old new refl (begun_then a b old mid new fits made (begun_of (Err e) b mid new makes))

pub no_calls : (l : Option Record) → l ≡ option_map (λ (r : Record). with_calls r []) l
no_calls None = refl
no_calls (Some r) = ap (λ (calls : List DeviceCall). Some (record { opening = r.opening; calls = calls })) (sym (append-nil r.calls))

-- nothing went
pub begun_none : (calls : List DeviceCall) (old new : DiskTold) → IsUnwritten old new → HasBegun calls old new
begun_none calls old new same = record {
  sectors = same.sectors;
  tells = ap is_some same.content;
  listed = (0, same.listed ∙ no_calls old.listed);
  count = omega (arith, same.calls);
}

-- one write, and one flush
pub write_makes : {T E : Type 0} (result : Result T E) (first : ℕ) (bytes : List ℕ) (old new : DiskTold) → CanCount old → OnOk result (HasMade (Write first bytes ∷ []) old new)
    → OnErr result (HasMadePartly first bytes old new ⊎ IsUnwritten old new) → Makes (Write first bytes ∷ []) result old new
write_makes (Ok x) first bytes old new fits made failed = makes_all (Write first bytes ∷ []) old new fits made
write_makes (Err e) first bytes old new fits made (inl partly) =
    record { ok = tt; sectors = partly.sectors; tells = partly.tells; listed = (1, partly.listed); count = omega (arith, partly.count, fits) }
write_makes (Err e) first bytes old new fits made (inr same) = makes_some (Err e) (Write first bytes ∷ []) old new refl (begun_none (Write first bytes ∷ []) old new same)

pub flush_makes : {T E : Type 0} (result : Result T E) (old new : DiskTold) → CanCount old → OnOk result (HasMade (Flush ∷ []) old new)
    → OnErr result (IsUnwritten old new) → Makes (Flush ∷ []) result old new
flush_makes (Ok x) old new fits made failed = makes_all (Flush ∷ []) old new fits made
flush_makes (Err e) old new fits made same = makes_some (Err e) (Flush ∷ []) old new refl (begun_none (Flush ∷ []) old new same)
