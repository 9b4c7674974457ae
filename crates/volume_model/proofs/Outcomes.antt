-- What a crash may leave, as the list of calls grows.
use Rattle.std.proofs.Common.{◌≡◌, ◌≤◌, ◌⊎◌, inl, inr, ℕ, zero, suc, ◌+◌, ◌-◌, ◌*◌, ◌%◌, leb, ltb, Bool, true, false, ◌&&◌, cond, List, [], ◌∷◌, ◌++◌, length, take, Option, Some, None, sym, ap, ◌∙◌, subst, arith, refl}
use Rattle.std.specs.Prelude.{Contains}
use Rattle.std.specs.Option.{unwrap_or}
use Rattle.std.specs.List.{list_any, filter_map, last_or, flat_map, range_with_len, AllByRecursion}
use Rattle.std.proofs.lemmas.Bool.{cases_Bool, and_parts, and_cases, leb-true, leb-false, ltb-true, ltb-false}
use Rattle.std.proofs.lemmas.List.Elements.{Contains-append_left, Contains-append_right, Contains-push}
use Rattle.volume_model.specs.declared.device_call.DeviceCall.{DeviceCall}
use Rattle.volume_model.specs.declared.device_call.DeviceCall.TheVariants.{Write, Flush}
use Rattle.volume_model.specs.Format.{Image, sector, sectors_of, overwritten}
use Rattle.volume_model.specs.Crash.{IsInside, image_after, written_by, written_to}
use Rattle.volume_model.proofs.Sectors.{length-overwritten, sector_before, sector_within, sector_behind}

abbrev pub AllInside : ℕ → List DeviceCall → Type 0
AllInside size calls = AllByRecursion (IsInside size) calls

pub inside_front : (size n : ℕ) (calls : List DeviceCall) → AllInside size calls → AllInside size (take n calls)
inside_front size zero calls all = tt
inside_front size (suc n) [] all = tt
inside_front size (suc n) (call ∷ calls) all = (all.0, inside_front size n calls all.1)

pub inside_left : (size : ℕ) (xs ys : List DeviceCall) → AllInside size (xs ++ ys) → AllInside size xs
inside_left size [] ys all = tt
inside_left size (x ∷ xs) ys all = (all.0, inside_left size xs ys all.1)

pub inside_right : (size : ℕ) (xs ys : List DeviceCall) → AllInside size (xs ++ ys) → AllInside size ys
inside_right size [] ys all = all
inside_right size (x ∷ xs) ys all = inside_right size xs ys all.1

pub inside_both : (size : ℕ) (xs ys : List DeviceCall) → AllInside size xs → AllInside size ys → AllInside size (xs ++ ys)
inside_both size [] ys all more = more
inside_both size (x ∷ xs) ys all more = (all.0, inside_both size xs ys all.1 more)

-- calls inside an image keep its size
pub length-image_after : (image : Image) (calls : List DeviceCall) (size : ℕ) → length image ≡ size → AllInside size calls → length (image_after image calls) ≡ size
length-image_after image [] size is all = is
length-image_after image (Write first bytes ∷ calls) size is all =
    length-image_after (overwritten image first bytes) calls size (length-overwritten image first bytes (omega (arith, is, all.0.1)) ∙ is) all.1
length-image_after image (Flush ∷ calls) size is all = length-image_after image calls size is all.1

-- a sector after a write: what the write puts there, or what was there
pub sector_after_write : (image : Image) (first : ℕ) (bytes : List ℕ) (k : ℕ) → length bytes % 512 ≡ 0 → 512 * first + length bytes ≤ length image
    → sector (overwritten image first bytes) k ≡ unwrap_or (written_by k (Write first bytes)) (sector image k)
sector_after_write image first bytes k whole fits =
    let test = leb first k && ltb k (first + sectors_of bytes) in
    let at : (b : Bool) → test ≡ b → unwrap_or (written_by k (Write first bytes)) (sector image k) ≡ unwrap_or (cond b (Some (sector bytes (k - first))) None) (sector image k) =
    λ b is. ap (λ (c : Bool). unwrap_or (cond c (Some (sector bytes (k - first))) None) (sector image k)) is in
    elim (cases_Bool test) [
      | inl covers ↦ let parts = and_parts (leb first k) (ltb k (first + sectors_of bytes)) covers in
          let low = leb-true first k parts.0 in
          let high = ltb-true k (first + sectors_of bytes) parts.1 in
          sector_within image first bytes k (k - first) fits (omega (arith, low)) (omega (arith, low, high, whole)) ∙ sym (at true covers)
      | inr leaves ↦ elim (and_cases (leb first k) (ltb k (first + sectors_of bytes)) leaves) [
        | inl low ↦ sector_before image first bytes k fits (leb-false first k low) ∙ sym (at false leaves)
        | inr high ↦ sector_behind image first bytes k fits (let past = ltb-false k (first + sectors_of bytes) high in omega (arith, past, whole)) ∙ sym (at false leaves)
      ]
    ]

-- the last of a list with one before it
pub last_of : {X : Type 0} (x d : X) (xs : List X) → unwrap_or (last_or (Some x) xs) d ≡ unwrap_or (last_or None xs) x
last_of x d [] = refl
last_of x d (y ∷ ys) = last_of y d ys ∙ sym (last_of y x ys)

pub last_with : {X : Type 0} (o : Option X) (d : X) (xs : List X) → unwrap_or (last_or None xs) (unwrap_or o d) ≡ unwrap_or (last_or None (Rattle.std.specs.List.cons_option o xs)) d
last_with None d xs = refl
last_with (Some x) d xs = sym (last_of x d xs)

-- a sector after calls: the last value that they write to it
pub sector_after : (image : Image) (calls : List DeviceCall) (size k : ℕ) → length image ≡ size → AllInside size calls
    → sector (image_after image calls) k ≡ unwrap_or (last_or None (written_to k calls)) (sector image k)
sector_after image [] size k is all = refl
sector_after image (Write first bytes ∷ calls) size k is all =
    sector_after (overwritten image first bytes) calls size k (length-overwritten image first bytes (omega (arith, is, all.0.1)) ∙ is) all.1
    ∙ ap (λ (s : List ℕ). unwrap_or (last_or None (written_to k calls)) s) (sector_after_write image first bytes k all.0.0 (omega (arith, is, all.0.1)))
    ∙ last_with (written_by k (Write first bytes)) (sector image k) (written_to k calls)
sector_after image (Flush ∷ calls) size k is all = sector_after image calls size k is all.1

pub last_cases : {X : Type 0} (xs : List X) (d : X) → (unwrap_or (last_or None xs) d ≡ d) ⊎ Contains xs (unwrap_or (last_or None xs) d)
last_cases [] d = inl refl
last_cases (x ∷ xs) d =
    let is = last_of x d xs in
    elim (last_cases xs x) [
      | inl first ↦ inr (subst (Contains (x ∷ xs)) (sym (is ∙ first)) (Contains-append_left (x ∷ []) xs x (Contains-push [] x)))
      | inr later ↦ inr (subst (Contains (x ∷ xs)) (sym is) (Contains-append_right (x ∷ []) xs (unwrap_or (last_or None xs) x) later))
    ]
