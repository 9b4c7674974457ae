-- The laws of what a crash may leave.
use Rattle.std.proofs.Common.{◌≡◌, ◌<◌, ◌≤◌, ◌⊎◌, inl, inr, ℕ, ◌+◌, ◌*◌, ◌/◌, ◌%◌, false, List, [], ◌∷◌, ◌++◌, length, take, drop, Option, Some, None, sym, ap, ◌∙◌, subst, arith, refl}
use Rattle.std.specs.Prelude.{◌↔◌, Contains}
use Rattle.std.specs.Option.{unwrap_or}
use Rattle.std.specs.List.{last_or, flat_map, range_with_len, cons_option}
use Rattle.std.proofs.Math.Seq.{take-add, take-append-add}
use Rattle.std.proofs.lemmas.Bool.{cases_Bool, cases_lt}
use Rattle.std.proofs.lemmas.List.{append-nil, take_all, take-append-le, length_push}
use Rattle.std.proofs.lemmas.List.Elements.{filter_map-append, Contains-append_left, Contains-append_right, Contains-append_cases, Contains-push, Contains-push_cases}
use Rattle.volume_model.specs.declared.device_call.DeviceCall.{DeviceCall}
use Rattle.volume_model.specs.declared.device_call.DeviceCall.TheVariants.{Write, Flush}
use Rattle.volume_model.specs.Format.{Image, sector}
use Rattle.volume_model.specs.Crash.{Record, with_call, with_calls, up_to, IsInside, IsOfSectors, image_after, present_of, flushed, pending, IsSettled, record_from, written_by, written_to, kept_at, Outcome, IsPartlyWritten}
use Rattle.volume_model.proofs.Sectors.{same_sectors, sector_past, length-sector, length-sectors, sector_of_sectors}
use Rattle.volume_model.proofs.Calls.{image_after-append, flushed-pending, has_flush, pending_all, flushed_none, pending_renewed, flushed_renewed, pending_longer, flushed_same}
use Rattle.volume_model.proofs.Outcomes.{AllInside, inside_front, inside_left, inside_right, length-image_after, sector_after_write, sector_after, last_cases}

-- what a crash may leave of a content that was kept and calls since
abbrev pub MayHold : Image → List DeviceCall → ℕ → List ℕ → Type 0
MayHold kept since k s = (s ≡ sector kept k) ⊎ Contains (written_to k since) s

pub record Left (kept : Image) (since : List DeviceCall) (bytes : ℕ) (image : Image) : Type 0 where
  pub size : length image ≡ bytes
  pub each : (k : ℕ) → MayHold kept since k (sector image k)

pub to_left : (r : Record) (n : ℕ) (before since : List DeviceCall) (image : Image) → flushed (take n r.calls) ≡ before → pending (take n r.calls) ≡ since
    → Outcome r n image → Left (image_after r.opening before) since (length r.opening) image
to_left r n before since image is rest h = record {
  size = h.size;
  each = λ k. subst (λ (b : List DeviceCall). MayHold (image_after r.opening b) since k (sector image k)) is
      (subst (λ (s : List DeviceCall). MayHold (image_after r.opening (flushed (take n r.calls))) s k (sector image k)) rest (h.each k));
}

pub from_left : (r : Record) (n : ℕ) (before since : List DeviceCall) (image : Image) → flushed (take n r.calls) ≡ before → pending (take n r.calls) ≡ since
    → Left (image_after r.opening before) since (length r.opening) image → Outcome r n image
from_left r n before since image is rest h = record {
  size = h.size;
  each = λ k. subst (λ (b : List DeviceCall). MayHold (image_after r.opening b) (pending (take n r.calls)) k (sector image k)) (sym is)
      (subst (λ (s : List DeviceCall). MayHold (image_after r.opening before) s k (sector image k)) (sym rest) (h.each k));
}

-- outcomes are of the calls up to then alone
pub same_calls : (r s : Record) (n m : ℕ) (image : Image) → r.opening ≡ s.opening → take n r.calls ≡ take m s.calls → Outcome r n image → Outcome s m image
same_calls r s n m image opening calls h = record {
  size = h.size ∙ ap length opening;
  each = λ k. subst (λ (o : Image). MayHold (image_after o (flushed (take m s.calls))) (pending (take m s.calls)) k (sector image k)) opening
      (subst (λ (c : List DeviceCall). MayHold (image_after r.opening (flushed c)) (pending c) k (sector image k)) calls (h.each k));
}

pub grows : (r : Record) (more : List DeviceCall) (n : ℕ) (image : Image) → n ≤ length r.calls → Outcome (with_calls r more) n image ↔ Outcome r n image
grows r more n image within =
    let same = take-append-le n r.calls more within in
    (same_calls (with_calls r more) r n n image refl same, same_calls r (with_calls r more) n n image refl (sym same))

pub present_is_outcome : (r : Record) (n : ℕ) → IsOfSectors r → Outcome r n (present_of (up_to r n))
present_is_outcome r n ok =
    let calls = take n r.calls in
    let size = length r.opening in
    let all : AllInside size calls = inside_front size n r.calls ok.calls in
    let parts = subst (AllInside size) (sym (flushed-pending calls)) all in
    let kept = image_after r.opening (flushed calls) in
    let kept_size = length-image_after r.opening (flushed calls) size refl (inside_left size (flushed calls) (pending calls) parts) in
    let behind = inside_right size (flushed calls) (pending calls) parts in
    record {
      size = length-image_after r.opening calls size refl all;
      each = λ k.
          let is : sector (image_after r.opening calls) k ≡ unwrap_or (last_or None (written_to k (pending calls))) (sector kept k) =
          ap (λ (l : List DeviceCall). sector (image_after r.opening l) k) (sym (flushed-pending calls))
          ∙ ap (λ (i : Image). sector i k) (image_after-append r.opening (flushed calls) (pending calls))
          ∙ sector_after kept (pending calls) size k kept_size behind in
          subst (MayHold kept (pending calls) k) (sym is) (last_cases (written_to k (pending calls)) (sector kept k));
    }

none_among : {X : Type 0} (x : X) → Contains [] x → ⊥
none_among x c = omega (arith, c.1)

pub one_outcome : (r : Record) (n : ℕ) (image : Image) → IsOfSectors r → IsSettled (up_to r n) → Outcome r n image ↔ (image ≡ present_of (up_to r n))
one_outcome r n image ok settled =
    let calls = take n r.calls in
    let whole : flushed calls ≡ calls = sym (append-nil (flushed calls)) ∙ ap (λ (l : List DeviceCall). flushed calls ++ l) (sym settled) ∙ flushed-pending calls in
    let present = present_is_outcome r n ok in (
      λ h. let left = to_left r n calls [] image whole settled h in
          same_sectors image (present_of (up_to r n)) (left.size ∙ sym present.size) (λ k. elim (left.each k) [ inl same ↦ same | inr some ↦ absurd (none_among (sector image k) some) ]),
      λ is. subst (Outcome r n) (sym is) present,
    )

all_but_none : (r : Record) (call : DeviceCall) → take (length r.calls + 1) (with_call r call).calls ≡ r.calls ++ call ∷ []
all_but_none r call = take_all (length r.calls + 1) (r.calls ++ call ∷ []) (omega (arith, length_push r.calls call))

pub after_flush : (r : Record) (image : Image) → IsOfSectors (with_call r Flush) → Outcome (with_call r Flush) (length r.calls + 1) image ↔ (image ≡ present_of r)
after_flush r image ok =
    let calls = all_but_none r Flush in
    let settled : IsSettled (up_to (with_call r Flush) (length r.calls + 1)) = ap pending calls ∙ pending_renewed r.calls (Flush ∷ []) refl in
    let same : present_of (up_to (with_call r Flush) (length r.calls + 1)) ≡ present_of r = ap (image_after r.opening) calls ∙ image_after-append r.opening r.calls (Flush ∷ []) in
    let one = one_outcome (with_call r Flush) (length r.calls + 1) image ok settled in
    (λ h. one.0 h ∙ same, λ is. one.1 (is ∙ sym same))

-- what one more write may leave in a sector is what it puts there, or what was there
alone : (o : Option (List ℕ)) (s d : List ℕ) → Contains (cons_option o []) s → s ≡ unwrap_or o d
alone None s d c = absurd (none_among s c)
alone (Some v) s d c = elim (Contains-push_cases [] v s c) [ inl none ↦ absurd (none_among s none) | inr is ↦ sym is ]

put_or_same : (o : Option (List ℕ)) (s d : List ℕ) → s ≡ unwrap_or o d → (s ≡ d) ⊎ Contains (cons_option o []) s
put_or_same None s d is = inl is
put_or_same (Some v) s d is = inr (subst (Contains (v ∷ [])) (sym is) (Contains-push [] v))

-- what a sector held before the last write, where it holds this after a crash
pub record Before (kept : Image) (since : List DeviceCall) (call : DeviceCall) (k : ℕ) (s : List ℕ) : Type 0 where
  pub value : List ℕ
  pub may : MayHold kept since k value
  pub left : (s ≡ value) ⊎ (s ≡ unwrap_or (written_by k call) value)
  pub is : (value ≡ s) ⊎ (value ≡ sector kept k)

before_write : (kept : Image) (since : List DeviceCall) (call : DeviceCall) (k : ℕ) (s : List ℕ) → MayHold kept (since ++ call ∷ []) k s → Before kept since call k s
before_write kept since call k s (inl same) = record { value = s; may = inl same; left = inl refl; is = inl refl }
before_write kept since call k s (inr some) =
    elim (Contains-append_cases (written_to k since) (written_to k (call ∷ [])) s (subst (λ (l : List (List ℕ)). Contains l s) (filter_map-append (written_by k) since (call ∷ [])) some)) [
      | inl old ↦ record { value = s; may = inr old; left = inl refl; is = inl refl }
      | inr new ↦ record { value = sector kept k; may = inl refl; left = inr (alone (written_by k call) s (sector kept k) new); is = inr refl }
    ]

-- the image before the last write, put together of its sectors
pub record Earlier (kept : Image) (since : List DeviceCall) (bytes first : ℕ) (written : List ℕ) (image : Image) : Type 0 where
  pub old : Image
  pub outcome : Left kept since bytes old
  pub partly : IsPartlyWritten first written old image

pub before_last_write : (kept image : Image) (since : List DeviceCall) (bytes first : ℕ) (written : List ℕ) → bytes % 512 ≡ 0 → length kept ≡ bytes → IsInside bytes (Write first written)
    → Left kept (since ++ Write first written ∷ []) bytes image → Earlier kept since bytes first written image
before_last_write kept image since bytes first written whole kept_size inside h =
    let n = bytes / 512 in
    let before : (k : ℕ) → Before kept since (Write first written) k (sector image k) = λ k. before_write kept since (Write first written) k (sector image k) (h.each k) in
    let f : ℕ → List ℕ = λ k. (before k).value in
    let old = flat_map f (range_with_len 0 n) in
    let sizes : (i : ℕ) → i < n → length (f (0 + i)) ≡ 512 = λ i below.
    elim (before (0 + i)).is [
      | inl same ↦ ap length same ∙ length-sector image (0 + i) (omega (arith, h.size, whole, below))
      | inr same ↦ ap length same ∙ length-sector kept (0 + i) (omega (arith, kept_size, whole, below))
    ] in
    let old_size : length old ≡ bytes = length-sectors f 0 n sizes ∙ (let all : 512 * n ≡ bytes = omega (arith, whole) in all) in
    let at : (k : ℕ) → k < n → sector old k ≡ f k = λ k below. sector_of_sectors f 0 n k sizes below ∙ ap f (let start : 0 + k ≡ k = omega arith in start) in
    record {
      old = old;
      outcome = record {
        size = old_size;
        each = λ k. elim (cases_lt k n) [
          | inl below ↦ subst (MayHold kept since k) (sym (at k below)) (before k).may
          | inr past ↦ inl (sector_past old k (omega (arith, old_size, whole, past)) ∙ sym (sector_past kept k (omega (arith, kept_size, whole, past))))
        ];
      };
      partly = record {
        size = h.size ∙ sym old_size;
        each = λ k. elim (cases_lt k n) [
          | inl below ↦ elim (before k).left [
            | inl same ↦ inl (same ∙ sym (at k below))
            | inr put ↦ inr (put ∙ ap (unwrap_or (written_by k (Write first written))) (sym (at k below)) ∙ sym (sector_after_write old first written k inside.0 (omega (arith, old_size, inside.1))))
          ]
          | inr past ↦ inl (sector_past image k (omega (arith, h.size, whole, past)) ∙ sym (sector_past old k (omega (arith, old_size, whole, past))))
        ];
      };
    }

pub after_last_write : (kept old image : Image) (since : List DeviceCall) (bytes first : ℕ) (written : List ℕ) → IsInside bytes (Write first written)
    → Left kept since bytes old → IsPartlyWritten first written old image → Left kept (since ++ Write first written ∷ []) bytes image
after_last_write kept old image since bytes first written inside h partly =
    let call = Write first written in
    let joined : (k : ℕ) → written_to k (since ++ call ∷ []) ≡ written_to k since ++ written_to k (call ∷ []) = λ k. filter_map-append (written_by k) since (call ∷ []) in
    let add : (k : ℕ) (s : List ℕ) → MayHold kept since k s → MayHold kept (since ++ call ∷ []) k s = λ k s may. elim may [
      | inl same ↦ inl same
      | inr some ↦ inr (subst (λ (l : List (List ℕ)). Contains l s) (sym (joined k)) (Contains-append_left (written_to k since) (written_to k (call ∷ [])) s some))
    ] in
    record {
      size = partly.size ∙ h.size;
      each = λ k. elim (partly.each k) [
        | inl same ↦ subst (MayHold kept (since ++ call ∷ []) k) (sym same) (add k (sector old k) (h.each k))
        | inr put ↦ elim (put_or_same (written_by k call) (sector image k) (sector old k) (put ∙ sector_after_write old first written k inside.0 (omega (arith, h.size, inside.1)))) [
          | inl same ↦ subst (MayHold kept (since ++ call ∷ []) k) (sym same) (add k (sector old k) (h.each k))
          | inr new ↦ inr (subst (λ (l : List (List ℕ)). Contains l (sector image k)) (sym (joined k)) (Contains-append_right (written_to k since) (written_to k (call ∷ [])) (sector image k) new))
        ]
      ];
    }

pub after_write : (r : Record) (first : ℕ) (bytes : List ℕ) (image : Image) → IsOfSectors (with_call r (Write first bytes))
    → Outcome (with_call r (Write first bytes)) (length r.calls + 1) image ↔ ((old : Image) × Outcome r (length r.calls) old × IsPartlyWritten first bytes old image)
after_write r first bytes image ok =
    let call = Write first bytes in
    let size = length r.opening in
    let calls = all_but_none r call in
    let now = take_all (length r.calls) r.calls (omega arith) in
    let is : flushed (take (length r.calls + 1) (with_call r call).calls) ≡ flushed r.calls = ap flushed calls ∙ flushed_same r.calls (call ∷ []) refl in
    let rest : pending (take (length r.calls + 1) (with_call r call).calls) ≡ pending r.calls ++ call ∷ [] = ap pending calls ∙ pending_longer r.calls (call ∷ []) refl in
    let inside : IsInside size call = (inside_right size r.calls (call ∷ []) ok.calls).0 in
    let before = inside_left size r.calls (call ∷ []) ok.calls in
    let parts = subst (AllInside size) (sym (flushed-pending r.calls)) before in
    let kept = image_after r.opening (flushed r.calls) in
    let kept_size = length-image_after r.opening (flushed r.calls) size refl (inside_left size (flushed r.calls) (pending r.calls) parts) in (
      λ h. let e = before_last_write kept image (pending r.calls) size first bytes ok.opening kept_size inside
          (to_left (with_call r call) (length r.calls + 1) (flushed r.calls) (pending r.calls ++ call ∷ []) image is rest h) in
          (e.old, from_left r (length r.calls) (flushed r.calls) (pending r.calls) e.old (ap flushed now) (ap pending now) e.outcome, e.partly),
      λ h. from_left (with_call r call) (length r.calls + 1) (flushed r.calls) (pending r.calls ++ call ∷ []) image is rest
          (after_last_write kept h.0 image (pending r.calls) size first bytes inside
          (to_left r (length r.calls) (flushed r.calls) (pending r.calls) h.0 (ap flushed now) (ap pending now) h.1) h.2),
    )

-- where nothing is pending the record may begin anew, if what stands there has the opening's size
pub anew_by_size : (r : Record) (n m : ℕ) (image : Image) → length (present_of (up_to r n)) ≡ length r.opening → IsSettled (up_to r n) → Outcome r (n + m) image ↔ Outcome (record_from r n) m image
anew_by_size r n m image size settled =
    let xs = take n r.calls in
    let ys = take m (drop n r.calls) in
    let whole : flushed xs ≡ xs = sym (append-nil (flushed xs)) ∙ ap (λ (l : List DeviceCall). flushed xs ++ l) (sym settled) ∙ flushed-pending xs in
    let joined = take-add n m r.calls in
    let parts : (image_after r.opening (flushed (xs ++ ys)) ≡ image_after (image_after r.opening xs) (flushed ys)) × (pending (xs ++ ys) ≡ pending ys) =
    elim (cases_Bool (has_flush ys)) [
      | inl some ↦ (ap (image_after r.opening) (flushed_renewed xs ys some) ∙ image_after-append r.opening xs (flushed ys), pending_renewed xs ys some)
      | inr none ↦ (
        ap (image_after r.opening) (flushed_same xs ys none ∙ whole) ∙ sym (ap (image_after (image_after r.opening xs)) (flushed_none ys none)),
        pending_longer xs ys none ∙ ap (λ (l : List DeviceCall). l ++ ys) settled ∙ sym (pending_all ys none),
      )
    ] in
    let kept : kept_at r (n + m) ≡ kept_at (record_from r n) m = ap (λ (c : List DeviceCall). image_after r.opening (flushed c)) joined ∙ parts.0 in
    let rest : pending (take (n + m) r.calls) ≡ pending ys = ap pending joined ∙ parts.1 in
    let holds : ℕ → Image → List DeviceCall → Type 0 = λ k i s. (sector image k ≡ sector i k) ⊎ Contains (written_to k s) (sector image k) in (
      λ h. record {
        size = h.size ∙ sym size;
        each = λ k. subst (λ (i : Image). holds k i (pending ys)) kept (subst (λ (s : List DeviceCall). holds k (kept_at r (n + m)) s) rest (h.each k));
      },
      λ h. record {
        size = h.size ∙ size;
        each = λ k. subst (λ (i : Image). holds k i (pending (take (n + m) r.calls))) (sym kept) (subst (λ (s : List DeviceCall). holds k (kept_at (record_from r n) m) s) (sym rest) (h.each k));
      },
    )

pub begins_anew : (r : Record) (n m : ℕ) (image : Image) → IsOfSectors r → IsSettled (up_to r n) → Outcome r (n + m) image ↔ Outcome (record_from r n) m image
begins_anew r n m image ok =
    anew_by_size r n m image (length-image_after r.opening (take n r.calls) (length r.opening) refl (inside_front (length r.opening) n r.calls ok.calls))

-- a crash after a crash, with no flush between them, is one of both lists of calls
pub crash_again : (r : Record) (left : Image) (more : List DeviceCall) (m : ℕ) (image : Image) → Outcome r (length r.calls) left → has_flush (take m more) ≡ false
    → Outcome (record { opening = left; calls = more }) m image → Outcome (with_calls r more) (length r.calls + m) image
crash_again r left more m image first none h =
    let ys = take m more in
    let now = take_all (length r.calls) r.calls (omega arith) in
    let joined : take (length r.calls + m) (r.calls ++ more) ≡ r.calls ++ ys = take-append-add r.calls more m in
    let one = to_left r (length r.calls) (flushed r.calls) (pending r.calls) left (ap flushed now) (ap pending now) first in
    let two = to_left (record { opening = left; calls = more }) m [] ys image (flushed_none ys none) (pending_all ys none) h in
    let kept = image_after r.opening (flushed r.calls) in
    let split : (k : ℕ) → written_to k (pending r.calls ++ ys) ≡ written_to k (pending r.calls) ++ written_to k ys = λ k. filter_map-append (written_by k) (pending r.calls) ys in
    let add : (k : ℕ) (s : List ℕ) → MayHold kept (pending r.calls) k s → MayHold kept (pending r.calls ++ ys) k s = λ k s may. elim may [
      | inl same ↦ inl same
      | inr some ↦ inr (subst (λ (l : List (List ℕ)). Contains l s) (sym (split k)) (Contains-append_left (written_to k (pending r.calls)) (written_to k ys) s some))
    ] in
    from_left (with_calls r more) (length r.calls + m) (flushed r.calls) (pending r.calls ++ ys) image
    (ap flushed joined ∙ flushed_same r.calls ys none) (ap pending joined ∙ pending_longer r.calls ys none)
    record {
      size = two.size ∙ one.size;
      each = λ k. elim (two.each k) [
        | inl same ↦ subst (MayHold kept (pending r.calls ++ ys) k) (sym same) (add k (sector left k) (one.each k))
        | inr new ↦ inr (subst (λ (l : List (List ℕ)). Contains l (sector image k)) (sym (split k)) (Contains-append_right (written_to k (pending r.calls)) (written_to k ys) (sector image k) new))
      ];
    }
