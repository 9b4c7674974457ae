-- A record read off the front of a run's bytes.
use Rattle.std.proofs.Common.{◌≡◌, ℕ, suc, ◌+◌, ◌-◌, ◌<◌, List, [], ◌∷◌, ◌++◌, length, take, drop, sym, ap, subst, ◌∙◌, arith}
use Rattle.std.proofs.lemmas.List.{drop-drop, take_rest, length_push}
use Rattle.lufs_base.specs.declared.geometry.Geometry.{Geometry}
use Rattle.lufs_base.specs.declared.delta.Delta.{Delta}
use Rattle.volume_model.specs.Log.{logged_len, Logged as delta_front, front_of, run_after}
pub use Rattle.log_laws.proofs.RunFront.{run_by_front}
use Rattle.log_format.specs.Answers.{IsFront, LoggedIsNext, IsNext}
use Rattle.log_format.specs.declared.records.Front.{Front}
use Rattle.log_format.specs.declared.records.Front.TheVariants.{Logged}

-- the answer about the rest of a payload from `at` on
pub front_at : (g : Geometry) (tid at : ℕ) (slice before : List Delta) (payload : List ℕ) (answer front : Front) → slice ≡ before → answer ≡ front
    → IsFront (front_of g tid slice (take (length payload - at) (drop at payload))) answer → IsFront (front_of g tid before (drop at payload)) front
front_at g tid at slice before payload answer front same is told =
    subst (λ (f : Front). IsFront (front_of g tid before (drop at payload)) f) is
    (subst (λ (bytes : List ℕ). IsFront (front_of g tid before bytes) answer) (take_rest payload at)
    (subst (λ (deltas : List Delta). IsFront (front_of g tid deltas (take (length payload - at) (drop at payload))) answer) same told))

pub next_at : (g : Geometry) (at : ℕ) (slice before : List Delta) (payload : List ℕ) (answer : Front) (d : Delta) → slice ≡ before → answer ≡ Logged d
    → LoggedIsNext g slice (take (length payload - at) (drop at payload)) answer → IsNext g before (drop at payload) d
next_at g at slice before payload answer d same is told =
    subst (λ (f : Front). LoggedIsNext g before (drop at payload) f) is
    (subst (λ (bytes : List ℕ). LoggedIsNext g before bytes answer) (take_rest payload at)
    (subst (λ (deltas : List Delta). LoggedIsNext g deltas (take (length payload - at) (drop at payload)) answer) same told))

-- the run goes on after the delta at its front
pub run_on : (g : Geometry) (tid at size : ℕ) (before more : List Delta) (payload : List ℕ) (d : Delta) → front_of g tid before (drop at payload) ≡ delta_front d
    → size ≡ 16 + logged_len d.kind d.len → more ≡ before ++ d ∷ [] → length before < length payload
    → run_after g tid (suc (length payload - length more)) more (drop (at + size) payload) ≡ run_after g tid (suc (length payload - length before)) before (drop at payload)
run_on g tid at size before more payload d is size_is more_is room =
    let pushed : length more ≡ length before + 1 = ap length more_is ∙ length_push before d in
    let count : suc (length payload - length more) ≡ length payload - length before = omega arith in
    ap (λ (n : ℕ). run_after g tid n more (drop (at + size) payload)) count
    ∙ ap (λ (deltas : List Delta). run_after g tid (length payload - length before) deltas (drop (at + size) payload)) more_is
    ∙ ap (λ (bytes : List ℕ). run_after g tid (length payload - length before) (before ++ d ∷ []) bytes) (sym (drop-drop size at payload))
    ∙ ap (λ (k : ℕ). run_after g tid (length payload - length before) (before ++ d ∷ []) (drop k (drop at payload))) size_is
    ∙ sym (run_by_front g tid (length payload - length before) before (drop at payload) (delta_front d) is)
