-- What a crash with chosen values leaves, sector by sector.
use Rattle.std.proofs.Common.{◌≡◌, ◌≤◌, inl, inr, ℕ, ◌+◌, ◌*◌, List, [], ◌∷◌, ◌++◌, length, take, Option, Some, None, sym, ap, ◌∙◌, subst, arith, refl}
use Rattle.std.specs.Prelude.{Result, Ok, Err}
use Rattle.std.proofs.lemmas.Bool.{cases_order}
use Rattle.std.proofs.lemmas.List.{take_all}
use Rattle.volume_model.specs.declared.device_call.DeviceCall.{DeviceCall}
use Rattle.volume_model.specs.Format.{Image, sector, overwritten}
use Rattle.volume_model.specs.Crash.{Record, IsOfSectors, flushed, pending, kept_at}
use Rattle.volume_model.proofs.Sectors.{length-overwritten, sector_before, sector_within, sector_behind}
use Rattle.volume_model.proofs.Calls.{flushed-pending}
use Rattle.volume_model.proofs.Outcomes.{AllInside, inside_front, inside_left, inside_right, length-image_after}
use Rattle.sector_disk.specs.declared.crash.CrashError.{CrashError}
use Rattle.sector_disk.specs.declared.crash.CrashError.TheVariants.{NoSuch}
use Rattle.sector_disk.specs.Chosen.{nth_written, with_value, with_choice, crash_of, IsUnnamed}
use Rattle.sector_disk.proofs.CrashSteps.{cases_Option, nth_inside}

-- the first pair is there, and the others go on from its value
record First (calls : List DeviceCall) (image : Image) (size : ℕ) (chosen : ℕ × ℕ) (choice : List (ℕ × ℕ)) (out : Image) : Type 0 where
  value : List ℕ
  there : nth_written calls chosen.0 chosen.1 ≡ Some value
  fits : 512 * chosen.0 + length value ≤ length image
  whole : length value ≡ 512
  size_is : length (overwritten image chosen.0 value) ≡ size
  rest : with_choice calls (overwritten image chosen.0 value) choice ≡ Ok out

first_chosen : (calls : List DeviceCall) (image : Image) (size : ℕ) (chosen : ℕ × ℕ) (choice : List (ℕ × ℕ)) (out : Image) → AllInside size calls → length image ≡ size
    → with_choice calls image (chosen ∷ choice) ≡ Ok out → First calls image size chosen choice out
first_chosen calls image size chosen choice out all is h =
    let more : List ℕ → Result Image CrashError = λ v. with_choice calls (overwritten image chosen.0 v) choice in
    let by : (o : Option (List ℕ)) → nth_written calls chosen.0 chosen.1 ≡ o → with_value chosen.0 chosen.1 o more ≡ Ok out =
    λ o there. sym (ap (λ (p : Option (List ℕ)). with_value chosen.0 chosen.1 p more) there) ∙ h in
    elim (cases_Option (nth_written calls chosen.0 chosen.1)) [
      | inl none ↦ let wrong : Err (NoSuch chosen.0 chosen.1) ≡ Ok out = by None none in absurd (cc)
      | inr some ↦ let inside = nth_inside size calls chosen.0 chosen.1 some.0 all some.1 in
          let fits : 512 * chosen.0 + length some.0 ≤ length image = omega (arith, inside.0, inside.1, is) in
          record {
            value = some.0;
            there = some.1;
            fits = fits;
            whole = inside.0;
            size_is = length-overwritten image chosen.0 some.0 fits ∙ is;
            rest = by (Some some.0) some.1;
          }
    ]

unnamed_kept : (calls : List DeviceCall) (image : Image) (size : ℕ) (choice : List (ℕ × ℕ)) (out : Image) (k : ℕ) → AllInside size calls → length image ≡ size
    → with_choice calls image choice ≡ Ok out → IsUnnamed k choice → sector out k ≡ sector image k
unnamed_kept calls image size [] out k all is h away = let same : image ≡ out = cc in ap (λ (i : Image). sector i k) (sym same)
unnamed_kept calls image size (chosen ∷ choice) out k all is h away =
    let f = first_chosen calls image size chosen choice out all is h in
    unnamed_kept calls (overwritten image chosen.0 f.value) size choice out k all f.size_is f.rest away.1
    ∙ elim (cases_order k chosen.0) [
      | inl same ↦ absurd (away.0 (sym same))
      | inr other ↦ elim other [
        | inl before ↦ sector_before image chosen.0 f.value k f.fits before
        | inr behind ↦ sector_behind image chosen.0 f.value k f.fits (omega (arith, f.whole, behind))
      ]
    ]

named_laid : (calls : List DeviceCall) (image : Image) (size : ℕ) (front back : List (ℕ × ℕ)) (out : Image) (k j : ℕ) → AllInside size calls → length image ≡ size
    → with_choice calls image (front ++ ((k, j) ∷ back)) ≡ Ok out → IsUnnamed k back → nth_written calls k j ≡ Some (sector out k)
named_laid calls image size [] back out k j all is h away =
    let f = first_chosen calls image size (k, j) back out all is h in
    let whole : sector f.value 0 ≡ f.value = take_all 512 f.value (omega (arith, f.whole)) in
    let here : sector out k ≡ f.value = unnamed_kept calls (overwritten image k f.value) size back out k all f.size_is f.rest away
    ∙ sector_within image k f.value k 0 f.fits (omega arith) (omega (arith, f.whole)) ∙ whole in
    f.there ∙ ap (λ (v : List ℕ). Some v) (sym here)
named_laid calls image size (chosen ∷ front) back out k j all is h away =
    let f = first_chosen calls image size chosen (front ++ ((k, j) ∷ back)) out all is h in
    named_laid calls (overwritten image chosen.0 f.value) size front back out k j all f.size_is f.rest away

-- the content at the flush has the record's size, and the calls after it lie inside
record WithHeader (r : Record) (n : ℕ) : Type 0 where
  size_is : length (kept_at r n) ≡ length r.opening
  inside : AllInside (length r.opening) (pending (take n r.calls))

behind_flush : (r : Record) (n : ℕ) → IsOfSectors r → WithHeader r n
behind_flush r n ok =
    let calls = take n r.calls in
    let size = length r.opening in
    let parts = subst (AllInside size) (sym (flushed-pending calls)) (inside_front size n r.calls ok.calls) in
    record {
      size_is = length-image_after r.opening (flushed calls) size refl (inside_left size (flushed calls) (pending calls) parts);
      inside = inside_right size (flushed calls) (pending calls) parts;
    }

pub unnamed_sector : (r : Record) (n : ℕ) (choice : List (ℕ × ℕ)) (image : Image) (k : ℕ) → IsOfSectors r → crash_of r n choice ≡ Ok image
    → IsUnnamed k choice → sector image k ≡ sector (kept_at r n) k
unnamed_sector r n choice image k ok h away =
    let b = behind_flush r n ok in
    unnamed_kept (pending (take n r.calls)) (kept_at r n) (length r.opening) choice image k b.inside b.size_is h away

pub named_sector : (r : Record) (n : ℕ) (front back : List (ℕ × ℕ)) (image : Image) (k j : ℕ) → IsOfSectors r → crash_of r n (front ++ ((k, j) ∷ back)) ≡ Ok image
    → IsUnnamed k back → nth_written (pending (take n r.calls)) k j ≡ Some (sector image k)
named_sector r n front back image k j ok h away =
    let b = behind_flush r n ok in
    named_laid (pending (take n r.calls)) (kept_at r n) (length r.opening) front back image k j b.inside b.size_is h away
