-- The deltas of a whole run may be logged together.
use Rattle.std.proofs.Common.{◌≡◌, ℕ, zero, suc, ◌+◌, inl, inr, true, ltb, eqb, cond, Option, Some, None, List, [], ◌∷◌, ◌++◌, length, drop, refl, sym, subst, ◌∙◌, arith, length-drop}
use Rattle.std.specs.List.{list_all}
use Rattle.std.proofs.lemmas.Bool.{and_parts, cases_Bool, ltb-false, cond-true, cond-false}
use Rattle.std.proofs.lemmas.List.{length-take-le}
use Rattle.std.proofs.lemmas.List.Elements.{All-push}
use Rattle.std.proofs.lemmas.List.Quantifiers.{all_pairs_push}
use Rattle.std.proofs.lemmas.List.Sums.{AllPass-from_list_all}
use Rattle.lufs_base.specs.Fields.{u32_at}
use Rattle.lufs_base.specs.declared.geometry.Geometry.{Geometry}
use Rattle.lufs_base.specs.declared.delta.Delta.{Delta}
use Rattle.lufs_base.specs.declared.delta.DeltaKind.{DeltaKind}
use Rattle.volume_model.specs.Log.{kind_of, logged_len, may_be_logged, may_precede, Run, Whole, Front, Logged, Commit, Cut, Wrong, front_delta, is_commit, is_delta, front_of_kind, front_of, run_at, run_of, run_after, AreLoggable}

-- what is known of a delta at the front
record Follows (g : Geometry) (before : List Delta) (d : Delta) : Type 0 where
  may : may_be_logged g d.kind d.home d.len ≡ true
  behind : list_all (λ e. may_precede e d.kind d.home) before ≡ true
  size : length d.bytes ≡ logged_len d.kind d.len

by_kind : (g : Geometry) (before : List Delta) (bytes : List ℕ) (kind : Option DeltaKind) (d : Delta) → front_of_kind g before bytes kind ≡ Logged d → Follows g before d
by_kind g before bytes None d is = absurd (cc)
by_kind g before bytes (Some kind) d is =
    let size = logged_len kind (u32_at bytes 8) in
    let found : Delta = front_delta kind bytes in
    let read : Front = cond (ltb (length bytes) (16 + size)) Cut (Logged found) in
    elim (cases_Bool (is_delta g kind before bytes)) [
      | inl right ↦
          let there : front_of_kind g before bytes (Some kind) ≡ read = cond-true (is_delta g kind before bytes) read Wrong right in
          elim (cases_Bool (ltb (length bytes) (16 + size))) [
            | inl cut ↦ let short : read ≡ Cut = cond-true (ltb (length bytes) (16 + size)) Cut (Logged found) cut in absurd (cc)
            | inr room ↦
                let whole : read ≡ Logged found = cond-false (ltb (length bytes) (16 + size)) Cut (Logged found) room in
                let same : found ≡ d = cc in
                let parts = and_parts _ _ right in
                subst (λ (e : Delta). Follows g before e) same record {
                  may = parts.0;
                  behind = parts.1;
                  size = length-take-le size (drop 16 bytes) (omega (arith, length-drop 16 bytes, ltb-false (length bytes) (16 + size) room));
                }
          ]
      | inr other ↦ let none : front_of_kind g before bytes (Some kind) ≡ Wrong = cond-false (is_delta g kind before bytes) read Wrong other in absurd (cc)
    ]

by_front : (g : Geometry) (tid : ℕ) (before : List Delta) (bytes : List ℕ) (d : Delta) → front_of g tid before bytes ≡ Logged d → Follows g before d
unfolding front_of
by_front g tid before bytes d is =
    let commit : Front = cond (is_commit tid before bytes) Commit Wrong in
    let logged : Front = front_of_kind g before bytes (kind_of (u32_at bytes 12)) in
    let record_there : Front = cond (eqb (u32_at bytes 12) 8) commit logged in
    elim (cases_Bool (ltb (length bytes) 16)) [
      | inl cut ↦ let short : front_of g tid before bytes ≡ Cut = cond-true (ltb (length bytes) 16) Cut record_there cut in absurd (cc)
      | inr room ↦
          let there : front_of g tid before bytes ≡ record_there = cond-false (ltb (length bytes) 16) Cut record_there room in
          elim (cases_Bool (eqb (u32_at bytes 12) 8)) [
            | inl ends ↦
                let last : record_there ≡ commit = cond-true (eqb (u32_at bytes 12) 8) commit logged ends in
                elim (cases_Bool (is_commit tid before bytes)) [
                  | inl right ↦ let it : commit ≡ Commit = cond-true (is_commit tid before bytes) Commit Wrong right in absurd (cc)
                  | inr wrong ↦ let it : commit ≡ Wrong = cond-false (is_commit tid before bytes) Commit Wrong wrong in absurd (cc)
                ]
            | inr more ↦
                let next : record_there ≡ logged = cond-false (eqb (u32_at bytes 12) 8) commit logged more in
                by_kind g before bytes (kind_of (u32_at bytes 12)) d (sym next ∙ sym there ∙ is)
          ]
    ]

one_more : (g : Geometry) (before : List Delta) (d : Delta) → AreLoggable g before → Follows g before d → AreLoggable g (before ++ d ∷ [])
one_more g before d are next =
    record {
      table = All-push (λ (e : Delta). may_be_logged g e.kind e.home e.len ≡ true) before d are.table next.may;
      order = all_pairs_push (λ (e later : Delta). may_precede e later.kind later.home ≡ true) before d are.order
          (AllPass-from_list_all (λ e. may_precede e d.kind d.home) before next.behind);
      bytes = All-push (λ (e : Delta). length e.bytes ≡ logged_len e.kind e.len) before d are.bytes next.size;
    }

by_next : (g : Geometry) (tid : ℕ) (before deltas : List Delta) (bytes : List ℕ) (front : Front) (more : Delta → Run) → AreLoggable g before
    → front_of g tid before bytes ≡ front → ((d : Delta) → AreLoggable g (before ++ d ∷ []) → more d ≡ Whole deltas → AreLoggable g deltas)
    → run_at front before more ≡ Whole deltas → AreLoggable g deltas
by_next g tid before deltas bytes (Logged d) more are front next is = next d (one_more g before d are (by_front g tid before bytes d front)) is
by_next g tid before deltas bytes Commit more are front next is = let same : before ≡ deltas = cc in subst (λ (l : List Delta). AreLoggable g l) same are
by_next g tid before deltas bytes Cut more are front next is = absurd (cc)
by_next g tid before deltas bytes Wrong more are front next is = absurd (cc)

behind_loggable : (g : Geometry) (tid n : ℕ) (before deltas : List Delta) (bytes : List ℕ) → AreLoggable g before → run_after g tid n before bytes ≡ Whole deltas → AreLoggable g deltas
unfolding run_after
behind_loggable g tid zero before deltas bytes are is = absurd (cc)
behind_loggable g tid (suc n) before deltas bytes are is =
    by_next g tid before deltas bytes (front_of g tid before bytes) (λ d. run_after g tid n (before ++ d ∷ []) (drop (16 + logged_len d.kind d.len) bytes)) are refl
    (λ d more rest. behind_loggable g tid n (before ++ d ∷ []) deltas (drop (16 + logged_len d.kind d.len) bytes) more rest) is

none_loggable : (g : Geometry) → AreLoggable g []
none_loggable g =
    record {
      table = λ k x inside. absurd (omega (arith, inside));
      order = λ i j x less inside. absurd (omega (arith, inside));
      bytes = λ k x inside. absurd (omega (arith, inside));
    }

pub whole_loggable : (g : Geometry) (tid : ℕ) (payload : List ℕ) (deltas : List Delta) → run_of g tid payload ≡ Whole deltas → AreLoggable g deltas
whole_loggable g tid payload deltas is = behind_loggable g tid (suc (length payload)) [] deltas payload (none_loggable g) is
