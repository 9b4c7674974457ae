-- The content of a disk goes with its listed calls, call by call.
use Rattle.std.proofs.Common.{◌≡◌, ◌≤◌, ◌⊎◌, inl, inr, ℕ, ◌+◌, ◌*◌, ◌%◌, List, [], ◌∷◌, ◌++◌, length, Option, Some, None, sym, ap, ◌∙◌, subst, arith, refl}
use Rattle.std.specs.Prelude.{Contains}
use Rattle.std.specs.Option.{unwrap_or}
use Rattle.std.specs.List.{cons_option}
use Rattle.std.proofs.lemmas.List.Elements.{filter_map-append, Contains-append_left, Contains-append_right, Contains-push}
use Rattle.lufs_base.specs.Causes.{counted}
use Rattle.volume_model.specs.declared.device_call.DeviceCall.{DeviceCall}
use Rattle.volume_model.specs.declared.device_call.DeviceCall.TheVariants.{Write, Flush}
use Rattle.volume_model.specs.Format.{Image, sector, overwritten}
use Rattle.volume_model.specs.Crash.{Record, with_call, written_by, written_to}
use Rattle.volume_model.proofs.Sectors.{length-overwritten}
use Rattle.volume_model.proofs.Calls.{image_after-append}
use Rattle.volume_model.proofs.Outcomes.{inside_both, sector_after_write}
use Rattle.sector_disk.specs.Disk.{GoesWith}

pub told_new : (image : Image) → length image % 512 ≡ 0 → GoesWith (record { opening = image; calls = [] }) 0 image
told_new image whole = record {
  record_is = record { opening = whole; calls = tt };
  size = refl;
  each = λ k. inl refl;
  last = λ none. refl;
}

-- a fault alone
pub told_faulted : (r : Record) (faults : ℕ) (image : Image) → GoesWith r faults image → GoesWith r (counted faults) image
told_faulted r faults image h = record { record_is = h.record_is; size = h.size; each = h.each; last = λ none. absurd (omega (arith, none)) }

-- what a sector may hold
abbrev pub MayHold : Image → List DeviceCall → ℕ → List ℕ → Type 0
MayHold opening calls k s = (s ≡ sector opening k) ⊎ Contains (written_to k calls) s

longer : (opening : Image) (calls : List DeviceCall) (call : DeviceCall) (k : ℕ) (s : List ℕ) → MayHold opening calls k s → MayHold opening (calls ++ call ∷ []) k s
longer opening calls call k s (inl same) = inl same
longer opening calls call k s (inr some) =
    inr (subst (λ (l : List (List ℕ)). Contains l s) (sym (filter_map-append (written_by k) calls (call ∷ []))) (Contains-append_left (written_to k calls) (written_to k (call ∷ [])) s some))

pub told_flush : (r : Record) (faults : ℕ) (image : Image) → GoesWith r faults image → GoesWith (with_call r Flush) faults image
told_flush r faults image h = record {
  record_is = record { opening = h.record_is.opening; calls = inside_both (length r.opening) r.calls (Flush ∷ []) h.record_is.calls (tt, tt) };
  size = h.size;
  each = λ k. longer r.opening r.calls Flush k (sector image k) (h.each k);
  last = λ none. h.last none ∙ sym (image_after-append r.opening r.calls (Flush ∷ []));
}

-- a write that failed, and left each sector old
pub told_failed : (r : Record) (faults first : ℕ) (bytes : List ℕ) (image : Image) → length bytes % 512 ≡ 0 → 512 * first + length bytes ≤ length image
    → GoesWith r faults image → GoesWith (with_call r (Write first bytes)) (counted faults) image
told_failed r faults first bytes image whole fits h = record {
  record_is = record { opening = h.record_is.opening; calls = inside_both (length r.opening) r.calls (Write first bytes ∷ []) h.record_is.calls ((whole, omega (arith, fits, h.size)), tt) };
  size = h.size;
  each = λ k. longer r.opening r.calls (Write first bytes) k (sector image k) (h.each k);
  last = λ none. absurd (omega (arith, none));
}

put_or_same : (o : Option (List ℕ)) (s d : List ℕ) → s ≡ unwrap_or o d → (s ≡ d) ⊎ Contains (cons_option o []) s
put_or_same None s d is = inl is
put_or_same (Some v) s d is = inr (subst (Contains (v ∷ [])) (sym is) (Contains-push [] v))

pub told_write : (r : Record) (faults first : ℕ) (bytes : List ℕ) (image : Image) → length bytes % 512 ≡ 0 → 512 * first + length bytes ≤ length image
    → GoesWith r faults image → GoesWith (with_call r (Write first bytes)) faults (overwritten image first bytes)
told_write r faults first bytes image whole fits h =
    let call = Write first bytes in
    record {
      record_is = record { opening = h.record_is.opening; calls = inside_both (length r.opening) r.calls (call ∷ []) h.record_is.calls ((whole, omega (arith, fits, h.size)), tt) };
      size = length-overwritten image first bytes fits ∙ h.size;
      each = λ k. elim (put_or_same (written_by k call) (sector (overwritten image first bytes) k) (sector image k) (sector_after_write image first bytes k whole fits)) [
        | inl same ↦ subst (MayHold r.opening (r.calls ++ call ∷ []) k) (sym same) (longer r.opening r.calls call k (sector image k) (h.each k))
        | inr new ↦ inr (subst (λ (l : List (List ℕ)). Contains l (sector (overwritten image first bytes) k)) (sym (filter_map-append (written_by k) r.calls (call ∷ []))) (Contains-append_right (written_to k r.calls) (written_to k (call ∷ [])) (sector (overwritten image first bytes) k) new))
      ];
      last = λ none. ap (λ (i : Image). overwritten i first bytes) (h.last none) ∙ sym (image_after-append r.opening r.calls (call ∷ []));
    }

-- the record is another one of the same parts
pub told_as : (opening kept : Image) (calls listed : List DeviceCall) (faults : ℕ) (image : Image) → kept ≡ opening → listed ≡ calls
    → GoesWith (record { opening = opening; calls = calls }) faults image → GoesWith (record { opening = kept; calls = listed }) faults image
told_as opening kept calls listed faults image same all h =
    subst (λ (o : Image). GoesWith (record { opening = o; calls = listed }) faults image) (sym same)
    (subst (λ (l : List DeviceCall). GoesWith (record { opening = opening; calls = l }) faults image) (sym all) h)
