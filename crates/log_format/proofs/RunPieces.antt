-- A run read in pieces: record by record, with a tally of the deltas before.
use Rattle.std.proofs.Common.{◌≡◌, ℕ, zero, suc, ◌+◌, ◌-◌, ◌<◌, ◌≤◌, Bool, true, false, ltb, eqb, cond, ◌&&◌, List, [], ◌∷◌, ◌++◌, length, drop, Option, Some, None, refl, sym, ap, subst, ◌∙◌, arith, length-drop}
use Rattle.std.specs.Prelude.{option_map}
use Rattle.std.specs.List.{list_all}
use Rattle.std.proofs.lemmas.Bool.{and_from, lt-ltb, le-ltb, eq-eqb, cond-true, cond-false}
use Rattle.std.proofs.lemmas.List.{drop-drop, drop-append-le, length_push, get_or_push}
use Rattle.std.proofs.lemmas.List.Sums.{sum_by-append}
use Rattle.std.proofs.lemmas.Option.{slice_get-get_or}
use Rattle.lufs_base.specs.Fields.{u32_at, u64_at}
use Rattle.lufs_base.specs.declared.geometry.Geometry.{Geometry}
use Rattle.lufs_base.specs.declared.delta.Delta.{Delta}
use Rattle.lufs_base.specs.declared.delta.DeltaKind.{DeltaKind}
use Rattle.volume_model.specs.Log.{kind_of, logged_len, may_be_logged, may_precede, Bad, Front, Logged, Commit, Cut, Wrong, is_commit, is_delta, front_of_kind, front_of, run_at, run_after}
use Rattle.log_format.specs.InOrder.{last_of, may_stand_after}
use Rattle.log_format.specs.Heads.{head_of, delta_at, may_follow, is_commit_after}
use Rattle.log_format.specs.Answers.{IsNext}
use Rattle.log_format.specs.RunReading.{IsTally, rest_of_run}
use Rattle.log_format.specs.declared.records.RecordHead.{RecordHead}
use Rattle.log_format.specs.declared.run_reader.Tally.{Tally}
use Rattle.log_format.proofs.Order.{InOrder-nil, InOrder-push}
use Rattle.log_format.proofs.RunSteps.{run_by_front}
use Rattle.log_format.proofs.FrontMore.{IsSettled, front_more, logged_fits}

-- the run is the same for each number of records that is above the number of bytes
enough_by : (g : Geometry) (tid n m : ℕ) (before : List Delta) (bytes : List ℕ) (front : Front)
    → ((d : Delta) → front ≡ Logged d → run_after g tid n (before ++ d ∷ []) (drop (16 + logged_len d.kind d.len) bytes) ≡ run_after g tid m (before ++ d ∷ []) (drop (16 + logged_len d.kind d.len) bytes))
    → run_at front before (λ d. run_after g tid n (before ++ d ∷ []) (drop (16 + logged_len d.kind d.len) bytes)) ≡ run_at front before (λ d. run_after g tid m (before ++ d ∷ []) (drop (16 + logged_len d.kind d.len) bytes))
enough_by g tid n m before bytes (Logged d) next = next d refl
enough_by g tid n m before bytes Commit next = refl
enough_by g tid n m before bytes Cut next = refl
enough_by g tid n m before bytes Wrong next = refl

enough : (g : Geometry) (tid n m : ℕ) (before : List Delta) (bytes : List ℕ) → length bytes < n → length bytes < m → run_after g tid n before bytes ≡ run_after g tid m before bytes
enough g tid zero m before bytes low high = absurd (omega (arith, low))
enough g tid (suc n) zero before bytes low high = absurd (omega (arith, high))
enough g tid (suc n) (suc m) before bytes low high =
    run_by_front g tid n before bytes (front_of g tid before bytes) refl
    ∙ enough_by g tid n m before bytes (front_of g tid before bytes)
    (λ d is.
    let fits = logged_fits g tid before bytes d is in
    enough g tid n m (before ++ d ∷ []) (drop (16 + logged_len d.kind d.len) bytes)
    (omega (arith, fits, low, length-drop (16 + logged_len d.kind d.len) bytes))
    (omega (arith, fits, high, length-drop (16 + logged_len d.kind d.len) bytes)))
    ∙ sym (run_by_front g tid m before bytes (front_of g tid before bytes) refl)

-- the rest of a run after the delta at its front
rest_after : (g : Geometry) (tid : ℕ) (before : List Delta) (bytes : List ℕ) (d : Delta) → front_of g tid before bytes ≡ Logged d
    → rest_of_run g tid before bytes ≡ rest_of_run g tid (before ++ d ∷ []) (drop (16 + logged_len d.kind d.len) bytes)
rest_after g tid before bytes d is =
    let fits = logged_fits g tid before bytes d is in
    run_by_front g tid (length bytes) before bytes (Logged d) is
    ∙ enough g tid (length bytes) (suc (length (drop (16 + logged_len d.kind d.len) bytes))) (before ++ d ∷ []) (drop (16 + logged_len d.kind d.len) bytes)
    (omega (arith, fits, length-drop (16 + logged_len d.kind d.len) bytes)) (omega arith)

-- the rest of a run goes on after the delta at byte `at`, whatever follows the bytes
pub rest_goes_on : (g : Geometry) (tid at size : ℕ) (before : List Delta) (bytes : List ℕ) (d : Delta) → front_of g tid before (drop at bytes) ≡ Logged d → size ≡ 16 + logged_len d.kind d.len
    → (more : List ℕ) → rest_of_run g tid before (drop at bytes ++ more) ≡ rest_of_run g tid (before ++ d ∷ []) (drop (at + size) bytes ++ more)
rest_goes_on g tid at size before bytes d is size_is more =
    let fits = logged_fits g tid before (drop at bytes) d is in
    let front : front_of g tid before (drop at bytes ++ more) ≡ Logged d =
    front_more g tid before (drop at bytes) more (subst (λ (f : Front). IsSettled f) (sym is) tt) ∙ is in
    rest_after g tid before (drop at bytes ++ more) d front
    ∙ ap (λ (n : ℕ). rest_of_run g tid (before ++ d ∷ []) (drop n (drop at bytes ++ more))) (sym size_is)
    ∙ ap (λ (l : List ℕ). rest_of_run g tid (before ++ d ∷ []) l) (drop-append-le size (drop at bytes) more (omega (arith, fits, size_is)))
    ∙ ap (λ (l : List ℕ). rest_of_run g tid (before ++ d ∷ []) (l ++ more)) (drop-drop size at bytes)

-- a wrong record makes the run bad, whatever follows the bytes
pub rest_is_bad : (g : Geometry) (tid : ℕ) (before : List Delta) (bytes : List ℕ) → front_of g tid before bytes ≡ Wrong → (more : List ℕ) → rest_of_run g tid before (bytes ++ more) ≡ Bad
rest_is_bad g tid before bytes is more =
    let front : front_of g tid before (bytes ++ more) ≡ Wrong =
    front_more g tid before bytes more (subst (λ (f : Front). IsSettled f) (sym is) tt) ∙ is in
    run_by_front g tid (length (bytes ++ more)) before (bytes ++ more) Wrong front

-- the last of the deltas with one more
last_pushed : (deltas : List Delta) (d : Delta) → last_of (deltas ++ d ∷ []) ≡ Some d
last_pushed deltas d =
    let size : length (deltas ++ d ∷ []) ≡ length deltas + 1 = length_push deltas d in
    slice_get-get_or (deltas ++ d ∷ []) (length (deltas ++ d ∷ []) - 1) d (omega arith)
    ∙ ap (λ x. Some x) (get_or_push deltas d d (length (deltas ++ d ∷ []) - 1) (omega arith))

pub IsTally-nil : (g : Geometry) (tally : Tally) → tally.deltas ≡ 0 → tally.bytes ≡ 0 → tally.last ≡ None → IsTally g [] tally
IsTally-nil g tally deltas bytes last = record { order = InOrder-nil g; count = deltas; bytes = bytes; last = last }

-- the tally with one delta more
pub IsTally-push : (g : Geometry) (before : List Delta) (bytes : List ℕ) (d : Delta) (old new : Tally) → IsTally g before old → IsNext g before bytes d
    → new.deltas ≡ old.deltas + 1 → new.bytes ≡ old.bytes + (16 + logged_len d.kind d.len) → new.last ≡ Some (head_of d) → IsTally g (before ++ d ∷ []) new
IsTally-push g before bytes d old new tally next deltas more last = record {
  order = InOrder-push g before d tally.order next.may next.follows;
  count = omega (arith, deltas, tally.count, length_push before d);
  bytes = omega (arith, more, tally.bytes, sum_by-append (λ (e : Delta). 16 + logged_len e.kind e.len) before (d ∷ []));
  last = last ∙ ap (λ (o : Option Delta). option_map head_of o) (sym (last_pushed before d));
}

follow_last : (last : Option Delta) (kind : DeltaKind) (home : ℕ) → may_stand_after last kind home ≡ may_follow (option_map head_of last) kind home
unfolding may_precede
follow_last None kind home = refl
follow_last (Some d) kind home = refl

-- the head of the last delta decides what may stand after all
pub last_head_decides : (g : Geometry) (before : List Delta) (tally : Tally) (kind : DeltaKind) (home : ℕ) → IsTally g before tally
    → list_all (λ d. may_precede d kind home) before ≡ may_follow tally.last kind home
last_head_decides g before tally kind home is =
    is.order.last_decides kind home ∙ follow_last (last_of before) kind home ∙ ap (λ (o : Option RecordHead). may_follow o kind home) (sym is.last)

-- what stands at the front, by the fields there
pub front_cut : (g : Geometry) (tid : ℕ) (before : List Delta) (bytes : List ℕ) → length bytes < 16 → front_of g tid before bytes ≡ Cut
unfolding front_of
front_cut g tid before bytes low = cond-true (ltb (length bytes) 16) Cut _ (lt-ltb (length bytes) 16 low)

pub front_commit : (g : Geometry) (tid : ℕ) (before : List Delta) (tally : Tally) (bytes : List ℕ) (type : ℕ) (is : Bool) → IsTally g before tally → 16 ≤ length bytes
    → type ≡ u32_at bytes 12 → type ≡ 8 → is ≡ is_commit_after tid tally.deltas bytes → front_of g tid before bytes ≡ cond is Commit Wrong
unfolding front_of
front_commit g tid before tally bytes type is known room type_is eight found =
    let same : is_commit tid before bytes ≡ is = ap (λ (n : ℕ). is_commit_after tid n bytes) (sym known.count) ∙ sym found in
    cond-false (ltb (length bytes) 16) Cut _ (le-ltb (length bytes) 16 room)
    ∙ cond-true (eqb (u32_at bytes 12) 8) (cond (is_commit tid before bytes) Commit Wrong) _ (eq-eqb (u32_at bytes 12) 8 (sym type_is ∙ eight))
    ∙ ap (λ (b : Bool). cond b Commit Wrong) same

front_kind : (g : Geometry) (tid : ℕ) (before : List Delta) (bytes : List ℕ) (type : ℕ) → 16 ≤ length bytes → type ≡ u32_at bytes 12 → eqb type 8 ≡ false
    → front_of g tid before bytes ≡ front_of_kind g before bytes (kind_of type)
unfolding front_of
front_kind g tid before bytes type room type_is other =
    cond-false (ltb (length bytes) 16) Cut _ (le-ltb (length bytes) 16 room)
    ∙ cond-false (eqb (u32_at bytes 12) 8) _ (front_of_kind g before bytes (kind_of (u32_at bytes 12))) (subst (λ (n : ℕ). eqb n 8 ≡ false) type_is other)
    ∙ ap (λ (n : ℕ). front_of_kind g before bytes (kind_of n)) (sym type_is)

pub front_no_kind : (g : Geometry) (tid : ℕ) (before : List Delta) (bytes : List ℕ) (type : ℕ) → 16 ≤ length bytes → type ≡ u32_at bytes 12 → eqb type 8 ≡ false
    → kind_of type ≡ None → front_of g tid before bytes ≡ Wrong
front_no_kind g tid before bytes type room type_is other none =
    front_kind g tid before bytes type room type_is other ∙ ap (λ (k : Option DeltaKind). front_of_kind g before bytes k) none

-- whether a delta may stand there, by the tally
delta_by_tally : (g : Geometry) (before : List Delta) (tally : Tally) (bytes : List ℕ) (kind : DeltaKind) (home len : ℕ) (may follows : Bool) → IsTally g before tally
    → home ≡ u64_at bytes 0 → len ≡ u32_at bytes 8 → may ≡ may_be_logged g kind home len → follows ≡ may_follow tally.last kind home
    → is_delta g kind before bytes ≡ (may && follows)
delta_by_tally g before tally bytes kind home len may follows known home_is len_is may_is follows_is =
    let is : ℕ → ℕ → Bool = λ h l. may_be_logged g kind h l && list_all (λ d. may_precede d kind h) before in
    ap (λ (h : ℕ). is h (u32_at bytes 8)) (sym home_is)
    ∙ ap (λ (l : ℕ). is home l) (sym len_is)
    ∙ ap (λ (b : Bool). b && list_all (λ d. may_precede d kind home) before) (sym may_is)
    ∙ ap (λ (b : Bool). may && b) (last_head_decides g before tally kind home known ∙ sym follows_is)

pub and_no : (a b : Bool) → b ≡ false → (a && b) ≡ false
and_no true b is = is
and_no false b is = refl

pub front_refused : (g : Geometry) (tid : ℕ) (before : List Delta) (tally : Tally) (bytes : List ℕ) (type home len : ℕ) (kind : DeltaKind) (may follows : Bool) → IsTally g before tally → 16 ≤ length bytes
    → type ≡ u32_at bytes 12 → eqb type 8 ≡ false → kind_of type ≡ Some kind → home ≡ u64_at bytes 0 → len ≡ u32_at bytes 8
    → may ≡ may_be_logged g kind home len → follows ≡ may_follow tally.last kind home → (may && follows) ≡ false → front_of g tid before bytes ≡ Wrong
front_refused g tid before tally bytes type home len kind may follows known room type_is other kind_is home_is len_is may_is follows_is refused =
    front_kind g tid before bytes type room type_is other
    ∙ ap (λ (k : Option DeltaKind). front_of_kind g before bytes k) kind_is
    ∙ cond-false (is_delta g kind before bytes) _ Wrong (delta_by_tally g before tally bytes kind home len may follows known home_is len_is may_is follows_is ∙ refused)

front_allowed : (g : Geometry) (tid : ℕ) (before : List Delta) (tally : Tally) (bytes : List ℕ) (type home len : ℕ) (kind : DeltaKind) (may follows : Bool) → IsTally g before tally → 16 ≤ length bytes
    → type ≡ u32_at bytes 12 → eqb type 8 ≡ false → kind_of type ≡ Some kind → home ≡ u64_at bytes 0 → len ≡ u32_at bytes 8
    → may ≡ may_be_logged g kind home len → follows ≡ may_follow tally.last kind home → may ≡ true → follows ≡ true
    → front_of g tid before bytes ≡ cond (ltb (length bytes) (16 + logged_len kind len)) Cut (Logged (delta_at (record { kind = kind; home = home; len = len }) bytes))
front_allowed g tid before tally bytes type home len kind may follows known room type_is other kind_is home_is len_is may_is follows_is right after =
    let there : ℕ → ℕ → Front = λ h l.
    cond (ltb (length bytes) (16 + logged_len kind l)) Cut (Logged (delta_at (record { kind = kind; home = h; len = l }) bytes)) in
    front_kind g tid before bytes type room type_is other
    ∙ ap (λ (k : Option DeltaKind). front_of_kind g before bytes k) kind_is
    ∙ cond-true (is_delta g kind before bytes) (there (u64_at bytes 0) (u32_at bytes 8)) Wrong
    (delta_by_tally g before tally bytes kind home len may follows known home_is len_is may_is follows_is ∙ and_from may follows right after)
    ∙ ap (λ (h : ℕ). there h (u32_at bytes 8)) (sym home_is)
    ∙ ap (λ (l : ℕ). there home l) (sym len_is)

pub front_too_long : (g : Geometry) (tid : ℕ) (before : List Delta) (tally : Tally) (bytes : List ℕ) (type home len : ℕ) (kind : DeltaKind) (may follows : Bool) → IsTally g before tally → 16 ≤ length bytes
    → type ≡ u32_at bytes 12 → eqb type 8 ≡ false → kind_of type ≡ Some kind → home ≡ u64_at bytes 0 → len ≡ u32_at bytes 8
    → may ≡ may_be_logged g kind home len → follows ≡ may_follow tally.last kind home → may ≡ true → follows ≡ true
    → length bytes < 16 + logged_len kind len → front_of g tid before bytes ≡ Cut
front_too_long g tid before tally bytes type home len kind may follows known room type_is other kind_is home_is len_is may_is follows_is right after low =
    front_allowed g tid before tally bytes type home len kind may follows known room type_is other kind_is home_is len_is may_is follows_is right after
    ∙ cond-true (ltb (length bytes) (16 + logged_len kind len)) Cut _ (lt-ltb _ _ low)

pub front_is_delta : (g : Geometry) (tid : ℕ) (before : List Delta) (tally : Tally) (bytes : List ℕ) (type home len : ℕ) (kind : DeltaKind) (may follows : Bool) → IsTally g before tally → 16 ≤ length bytes
    → type ≡ u32_at bytes 12 → eqb type 8 ≡ false → kind_of type ≡ Some kind → home ≡ u64_at bytes 0 → len ≡ u32_at bytes 8
    → may ≡ may_be_logged g kind home len → follows ≡ may_follow tally.last kind home → may ≡ true → follows ≡ true
    → 16 + logged_len kind len ≤ length bytes
    → (front_of g tid before bytes ≡ Logged (delta_at (record { kind = kind; home = home; len = len }) bytes)) × IsNext g before bytes (delta_at (record { kind = kind; home = home; len = len }) bytes)
front_is_delta g tid before tally bytes type home len kind may follows known room type_is other kind_is home_is len_is may_is follows_is right after fits = (
  front_allowed g tid before tally bytes type home len kind may follows known room type_is other kind_is home_is len_is may_is follows_is right after
      ∙ cond-false (ltb (length bytes) (16 + logged_len kind len)) Cut _ (le-ltb _ _ fits),
  record {
    may = sym may_is ∙ right;
    follows = last_head_decides g before tally kind home known ∙ sym follows_is ∙ after;
    fits = fits;
  },
)
