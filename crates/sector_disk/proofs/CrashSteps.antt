-- The steps of the loops over listed calls, and over what is chosen of them.
use Rattle.std.proofs.Common.{◌≡◌, ◌<◌, ◌≤◌, ◌⊎◌, inl, inr, ℕ, zero, suc, ◌+◌, ◌-◌, ◌*◌, ◌/◌, leb, ltb, Bool, true, false, ◌&&◌, cond, List, [], ◌∷◌, ◌++◌, length, take, drop, get_or, Option, Some, None, sym, ap, ◌∙◌, subst, arith, refl}
use Rattle.std.specs.Prelude.{slice_get, Contains}
use Rattle.std.specs.Prelude.{Result, Ok, Err}
use Rattle.std.specs.List.{cons_option}
use Rattle.std.proofs.lemmas.Bool.{cases_order, le-leb, lt-ltb, and_from, cases_Bool, and_parts, leb-true, ltb-true}
use Rattle.std.proofs.lemmas.List.{take_more, drop_more, drop_all, drop-append-le, length-take-le, take_all}
use Rattle.std.proofs.lemmas.Option.{slice_get_within, get_or_from_slice_get}
use Rattle.volume_model.specs.declared.device_call.DeviceCall.{DeviceCall}
use Rattle.volume_model.specs.declared.device_call.DeviceCall.TheVariants.{Write, Flush}
use Rattle.volume_model.specs.Format.{Image, sector, sectors_of, overwritten}
use Rattle.volume_model.specs.Crash.{Record, flushed, pending, written_by, written_to, kept_at, Outcome}
use Rattle.volume_model.proofs.Sectors.{length-overwritten, length-sector, sector_before, sector_within, sector_behind}
use Rattle.volume_model.proofs.Calls.{flushed-pending, pending_renewed, flushed_renewed, pending_longer, flushed_same}
use Rattle.volume_model.proofs.Outcomes.{AllInside, inside_front, inside_left, inside_right, length-image_after}
use Rattle.volume_model.proofs.CrashLaws.{MayHold, Left, from_left}
use Rattle.sector_disk.specs.declared.crash.CrashError.{CrashError}
use Rattle.sector_disk.specs.declared.crash.CrashError.TheVariants.{NoSuch}
use Rattle.sector_disk.specs.Chosen.{nth_written, with_value, with_choice, crash_of}

-- the calls so far end with a flush
pub at_flush : (calls : List DeviceCall) (i : ℕ) (call : DeviceCall) → i < length calls → get_or calls i call ≡ Flush
    → (take (i + 1) calls ≡ flushed (take (i + 1) calls)) × (drop (i + 1) (take (i + 1) calls) ≡ pending (take (i + 1) calls))
at_flush calls i call below is =
    let more : take (i + 1) calls ≡ take i calls ++ Flush ∷ [] = take_more calls i call below ∙ ap (λ (c : DeviceCall). take i calls ++ c ∷ []) is in (
      more ∙ sym (ap flushed more ∙ flushed_renewed (take i calls) (Flush ∷ []) refl),
      drop_all (i + 1) (take (i + 1) calls) (omega (arith, length-take-le (i + 1) calls (omega (arith, below)))) ∙ sym (ap pending more ∙ pending_renewed (take i calls) (Flush ∷ []) refl),
    )

-- they end with a write
pub at_write : (calls : List DeviceCall) (i end : ℕ) (call : DeviceCall) (first : ℕ) (bytes : List ℕ) → i < length calls → get_or calls i call ≡ Write first bytes → end ≤ i
    → take end calls ≡ flushed (take i calls) → drop end (take i calls) ≡ pending (take i calls)
    → (take end calls ≡ flushed (take (i + 1) calls)) × (drop end (take (i + 1) calls) ≡ pending (take (i + 1) calls))
at_write calls i end call first bytes below is within before behind =
    let more : take (i + 1) calls ≡ take i calls ++ Write first bytes ∷ [] = take_more calls i call below ∙ ap (λ (c : DeviceCall). take i calls ++ c ∷ []) is in (
      before ∙ sym (ap flushed more ∙ flushed_same (take i calls) (Write first bytes ∷ []) refl),
      ap (drop end) more ∙ drop-append-le end (take i calls) (Write first bytes ∷ []) (omega (arith, within, below, length-take-le i calls (omega (arith, below))))
          ∙ ap (λ (l : List DeviceCall). l ++ Write first bytes ∷ []) behind ∙ sym (ap pending more ∙ pending_longer (take i calls) (Write first bytes ∷ []) refl),
    )

-- the next call writes the sector, and no value is to be passed over
pub found : (calls : List DeviceCall) (i k : ℕ) (call : DeviceCall) (first : ℕ) (bytes : List ℕ) → i < length calls → get_or calls i call ≡ Write first bytes
    → first ≤ k → k - first < length bytes / 512 → slice_get (written_to k (drop i calls)) 0 ≡ Some (sector bytes (k - first))
found calls i k call first bytes below is low high =
    let rest = drop (i + 1) calls in
    let test : (leb first k && ltb k (first + sectors_of bytes)) ≡ true = and_from (leb first k) (ltb k (first + sectors_of bytes)) (le-leb first k low) (lt-ltb k (first + sectors_of bytes) (omega (arith, low, high))) in
    let value : written_by k (Write first bytes) ≡ Some (sector bytes (k - first)) = ap (λ (b : Bool). cond b (Some (sector bytes (k - first))) None) test in
    ap (λ (l : List DeviceCall). slice_get (written_to k l) 0) (drop_more calls i call below ∙ ap (λ (c : DeviceCall). c ∷ rest) is)
    ∙ ap (λ (o : Option (List ℕ)). slice_get (cons_option o (written_to k rest)) 0) value

pub cases_Option : {X : Type 0} (o : Option X) → (o ≡ None) ⊎ ((x : X) × (o ≡ Some x))
cases_Option None = inl refl
cases_Option (Some x) = inr (x, refl)

head_or_rest : {X : Type 0} (x : X) (xs : List X) (i : ℕ) (v : X) → slice_get (x ∷ xs) i ≡ Some v → (x ≡ v) ⊎ ((j : ℕ) × (slice_get xs j ≡ Some v))
head_or_rest x xs zero v is = inl (cc)
head_or_rest x xs (suc i) v is = inr (i, is)

written_inside : (size : ℕ) (calls : List DeviceCall) (k i : ℕ) (v : List ℕ) → AllInside size calls → slice_get (written_to k calls) i ≡ Some v → (length v ≡ 512) × (512 * k + 512 ≤ size)
written_inside size [] k i v all is = absurd (cc)
written_inside size (Write first bytes ∷ calls) k i v all is =
    let rest = written_to k calls in
    let put = Some (sector bytes (k - first)) in
    let by : (b : Bool) → (leb first k && ltb k (first + sectors_of bytes)) ≡ b → slice_get (cons_option (cond b put None) rest) i ≡ Some v =
    λ b test. sym (ap (λ (c : Bool). slice_get (cons_option (cond c put None) rest) i) test) ∙ is in
    elim (cases_Bool (leb first k && ltb k (first + sectors_of bytes))) [
      | inl covers ↦ elim (head_or_rest (sector bytes (k - first)) rest i v (by true covers)) [
        | inl here ↦ let parts = and_parts (leb first k) (ltb k (first + sectors_of bytes)) covers in
            let low = leb-true first k parts.0 in
            let high = ltb-true k (first + sectors_of bytes) parts.1 in
            (sym (ap length here) ∙ length-sector bytes (k - first) (omega (arith, low, high)), omega (arith, low, high, all.0.0, all.0.1))
        | inr later ↦ written_inside size calls k later.0 v all.1 later.1
      ]
      | inr leaves ↦ written_inside size calls k i v all.1 (by false leaves)
    ]
written_inside size (Flush ∷ calls) k i v all is = written_inside size calls k i v all.1 is

-- a value that was written is a sector, and lies inside
pub nth_inside : (size : ℕ) (calls : List DeviceCall) (k j : ℕ) (v : List ℕ) → AllInside size calls → nth_written calls k j ≡ Some v → (length v ≡ 512) × (512 * k + 512 ≤ size)
nth_inside size calls k zero v all is = absurd (cc)
nth_inside size calls k (suc i) v all is = written_inside size calls k i v all is

nth_is_written : (calls : List DeviceCall) (k j : ℕ) (v : List ℕ) → nth_written calls k j ≡ Some v → Contains (written_to k calls) v
nth_is_written calls k zero v is = absurd (cc)
nth_is_written calls k (suc i) v is = (i, slice_get_within (written_to k calls) i v is, get_or_from_slice_get (written_to k calls) i v v is)

-- one choice more
pub choice_on : (calls : List DeviceCall) (image : Image) (choice : List (ℕ × ℕ)) (i : ℕ) (chosen : ℕ × ℕ) (v : List ℕ) → i < length choice → get_or choice i chosen ≡ chosen
    → nth_written calls chosen.0 chosen.1 ≡ Some v → with_choice calls image (drop i choice) ≡ with_choice calls (overwritten image chosen.0 v) (drop (i + 1) choice)
choice_on calls image choice i chosen v below is there =
    let rest = drop (i + 1) choice in
    ap (with_choice calls image) (drop_more choice i chosen below ∙ ap (λ (c : ℕ × ℕ). c ∷ rest) is)
    ∙ ap (λ (o : Option (List ℕ)). with_value chosen.0 chosen.1 o (λ value. with_choice calls (overwritten image chosen.0 value) rest)) there

pub choice_stops : (calls : List DeviceCall) (image : Image) (choice : List (ℕ × ℕ)) (i : ℕ) (chosen : ℕ × ℕ) → i < length choice → get_or choice i chosen ≡ chosen
    → nth_written calls chosen.0 chosen.1 ≡ None → with_choice calls image (drop i choice) ≡ Err (NoSuch chosen.0 chosen.1)
choice_stops calls image choice i chosen below is none =
    let rest = drop (i + 1) choice in
    ap (with_choice calls image) (drop_more choice i chosen below ∙ ap (λ (c : ℕ × ℕ). c ∷ rest) is)
    ∙ ap (λ (o : Option (List ℕ)). with_value chosen.0 chosen.1 o (λ value. with_choice calls (overwritten image chosen.0 value) rest)) none

-- a chosen value is one that a crash may leave
chosen_left : (kept image : Image) (since : List DeviceCall) (size k j : ℕ) (v : List ℕ) → AllInside size since → nth_written since k j ≡ Some v → Left kept since size image → Left kept since size (overwritten image k v)
chosen_left kept image since size k j v all is h =
    let inside = nth_inside size since k j v all is in
    let fits : 512 * k + length v ≤ length image = omega (arith, inside.0, inside.1, h.size) in
    record {
      size = length-overwritten image k v fits ∙ h.size;
      each = λ m. elim (cases_order m k) [
        | inl same ↦ let whole : sector v 0 ≡ v = take_all 512 v (omega (arith, inside.0)) in
            let here : sector (overwritten image k v) m ≡ v = sector_within image k v m 0 fits (omega (arith, same)) (omega (arith, inside.0)) ∙ whole in
            let there : Contains (written_to m since) v = subst (λ (n : ℕ). Contains (written_to n since) v) (sym same) (nth_is_written since k j v is) in
            inr (subst (Contains (written_to m since)) (sym here) there)
        | inr other ↦ let same : sector (overwritten image k v) m ≡ sector image m = elim other [
          | inl before ↦ sector_before image k v m fits before
          | inr behind ↦ sector_behind image k v m fits (omega (arith, inside.0, behind))
        ] in
            subst (MayHold kept since m) (sym same) (h.each m)
      ];
    }

pub choice_left : (kept image : Image) (since : List DeviceCall) (size : ℕ) (choice : List (ℕ × ℕ)) (out : Image) → AllInside size since → Left kept since size image
    → with_choice since image choice ≡ Ok out → Left kept since size out
choice_left kept image since size [] out all h is = let same : image ≡ out = cc in subst (Left kept since size) same h
choice_left kept image since size (chosen ∷ choice) out all h is =
    let more : List ℕ → Result Image CrashError = λ v. with_choice since (overwritten image chosen.0 v) choice in
    let by : (o : Option (List ℕ)) → nth_written since chosen.0 chosen.1 ≡ o → with_value chosen.0 chosen.1 o more ≡ Ok out =
    λ o there. sym (ap (λ (p : Option (List ℕ)). with_value chosen.0 chosen.1 p more) there) ∙ is in
    elim (cases_Option (nth_written since chosen.0 chosen.1)) [
      | inl none ↦ let wrong : Err (NoSuch chosen.0 chosen.1) ≡ Ok out = by None none in absurd (cc)
      | inr some ↦ choice_left kept (overwritten image chosen.0 some.0) since size choice out all
          (chosen_left kept image since size chosen.0 chosen.1 some.0 all some.1 h) (by (Some some.0) some.1)
    ]

pub crash_is_outcome : (r : Record) (n : ℕ) (choice : List (ℕ × ℕ)) (out : Image) → AllInside (length r.opening) r.calls → crash_of r n choice ≡ Ok out → Outcome r n out
crash_is_outcome r n choice out all is =
    let calls = take n r.calls in
    let size = length r.opening in
    let parts = subst (AllInside size) (sym (flushed-pending calls)) (inside_front size n r.calls all) in
    let kept_size = length-image_after r.opening (flushed calls) size refl (inside_left size (flushed calls) (pending calls) parts) in
    let kept = kept_at r n in
    from_left r n (flushed calls) (pending calls) out refl refl
    (choice_left kept kept (pending calls) size choice out (inside_right size (flushed calls) (pending calls) parts) (record { size = kept_size; each = λ k. inl refl }) is)
