-- Lists of calls, and those after the last flush.
use Rattle.std.proofs.Common.{◌≡◌, Bool, true, false, ◌||◌, cond, List, [], ◌∷◌, ◌++◌, ap, ◌∙◌, refl}
use Rattle.std.specs.List.{list_any}
use Rattle.std.proofs.lemmas.List.Folds.{list_any-append}
use Rattle.std.proofs.Math.Bool.{or-true, or-false}
use Rattle.volume_model.specs.declared.device_call.DeviceCall.{DeviceCall}
use Rattle.volume_model.specs.declared.device_call.DeviceCall.TheVariants.{Write, Flush}
use Rattle.volume_model.specs.Format.{Image, overwritten}
use Rattle.volume_model.specs.Crash.{image_after, is_flush, flushed, pending}

pub image_after-append : (image : Image) (xs ys : List DeviceCall) → image_after image (xs ++ ys) ≡ image_after (image_after image xs) ys
image_after-append image [] ys = refl
image_after-append image (Write first bytes ∷ xs) ys = image_after-append (overwritten image first bytes) xs ys
image_after-append image (Flush ∷ xs) ys = image_after-append image xs ys

-- the two parts make the whole
pub flushed-pending : (calls : List DeviceCall) → flushed calls ++ pending calls ≡ calls
flushed-pending [] = refl
flushed-pending (call ∷ calls) =
    let whole = flushed-pending calls in
    elim (list_any is_flush (call ∷ calls)) as (λ b. cond b (call ∷ flushed calls) [] ++ cond b (pending calls) (call ∷ calls) ≡ call ∷ calls) [
      | true ↦ ap (λ (l : List DeviceCall). call ∷ l) whole
      | false ↦ refl
    ]

-- the calls have a flush among them
abbrev pub has_flush : List DeviceCall → Bool
has_flush calls = list_any is_flush calls

-- with no flush among them all calls are pending
pub pending_all : (calls : List DeviceCall) → has_flush calls ≡ false → pending calls ≡ calls
pending_all [] none = refl
pending_all (call ∷ calls) none = ap (λ (b : Bool). cond b (pending calls) (call ∷ calls)) none

pub flushed_none : (calls : List DeviceCall) → has_flush calls ≡ false → flushed calls ≡ []
flushed_none [] none = refl
flushed_none (call ∷ calls) none = ap (λ (b : Bool). cond b (call ∷ flushed calls) []) none

-- more calls, with a flush among them
pub pending_renewed : (xs ys : List DeviceCall) → has_flush ys ≡ true → pending (xs ++ ys) ≡ pending ys
pending_renewed [] ys some = refl
pending_renewed (x ∷ xs) ys some =
    let test : has_flush (x ∷ (xs ++ ys)) ≡ true = list_any-append is_flush (x ∷ xs) ys ∙ ap (λ (b : Bool). has_flush (x ∷ xs) || b) some ∙ or-true (has_flush (x ∷ xs)) in
    ap (λ (b : Bool). cond b (pending (xs ++ ys)) (x ∷ (xs ++ ys))) test ∙ pending_renewed xs ys some

pub flushed_renewed : (xs ys : List DeviceCall) → has_flush ys ≡ true → flushed (xs ++ ys) ≡ xs ++ flushed ys
flushed_renewed [] ys some = refl
flushed_renewed (x ∷ xs) ys some =
    let test : has_flush (x ∷ (xs ++ ys)) ≡ true = list_any-append is_flush (x ∷ xs) ys ∙ ap (λ (b : Bool). has_flush (x ∷ xs) || b) some ∙ or-true (has_flush (x ∷ xs)) in
    ap (λ (b : Bool). cond b (x ∷ flushed (xs ++ ys)) []) test ∙ ap (λ (l : List DeviceCall). x ∷ l) (flushed_renewed xs ys some)

-- more calls, with no flush among them
pub pending_longer : (xs ys : List DeviceCall) → has_flush ys ≡ false → pending (xs ++ ys) ≡ pending xs ++ ys
pending_longer [] ys none = pending_all ys none
pending_longer (x ∷ xs) ys none =
    let test : has_flush (x ∷ (xs ++ ys)) ≡ has_flush (x ∷ xs) = list_any-append is_flush (x ∷ xs) ys ∙ ap (λ (b : Bool). has_flush (x ∷ xs) || b) none ∙ or-false (has_flush (x ∷ xs)) in
    let longer = pending_longer xs ys none in
    ap (λ (b : Bool). cond b (pending (xs ++ ys)) (x ∷ (xs ++ ys))) test
    ∙ elim (has_flush (x ∷ xs)) as (λ b. cond b (pending (xs ++ ys)) (x ∷ (xs ++ ys)) ≡ cond b (pending xs) (x ∷ xs) ++ ys) [ true ↦ longer | false ↦ refl ]

pub flushed_same : (xs ys : List DeviceCall) → has_flush ys ≡ false → flushed (xs ++ ys) ≡ flushed xs
flushed_same [] ys none = flushed_none ys none
flushed_same (x ∷ xs) ys none =
    let test : has_flush (x ∷ (xs ++ ys)) ≡ has_flush (x ∷ xs) = list_any-append is_flush (x ∷ xs) ys ∙ ap (λ (b : Bool). has_flush (x ∷ xs) || b) none ∙ or-false (has_flush (x ∷ xs)) in
    let same = flushed_same xs ys none in
    ap (λ (b : Bool). cond b (x ∷ flushed (xs ++ ys)) []) test
    ∙ elim (has_flush (x ∷ xs)) as (λ b. cond b (x ∷ flushed (xs ++ ys)) [] ≡ cond b (x ∷ flushed xs) []) [ true ↦ ap (λ (l : List DeviceCall). x ∷ l) same | false ↦ refl ]
