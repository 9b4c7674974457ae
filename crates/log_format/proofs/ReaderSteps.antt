-- What a reader of a run has read, piece by piece.
use Rattle.std.proofs.Common.{◌≡◌, ℕ, ◌+◌, ◌-◌, ◌<◌, true, false, List, [], ◌∷◌, ◌++◌, length, take, drop, Some, None, refl, sym, ap, subst, ◌∙◌, arith, append_assoc}
use Rattle.std.proofs.lemmas.List.{append-nil, take_rest}
use Rattle.lufs_base.specs.declared.geometry.Geometry.{Geometry}
use Rattle.lufs_base.specs.declared.delta.Delta.{Delta}
use Rattle.volume_model.specs.Log.{logged_len, delta_bytes, Whole, Short, Bad, Commit, Cut, front_of, run_of}
use Rattle.log_format.specs.Heads.{delta_at}
use Rattle.log_format.specs.RunReading.{IsTally, rest_of_run, HasSkipped, StopsAt, IsBadAfter, HasRead, stop_at, IsFound}
use Rattle.log_format.specs.declared.records.RecordHead.{RecordHead}
use Rattle.log_format.specs.declared.run_reader.Tally.{Tally}
use Rattle.log_format.specs.declared.run_reader.RunReader.{RunReader}
use Rattle.log_format.specs.declared.run_reader.Found.{Found}
use Rattle.log_format.specs.declared.run_reader.Found.TheVariants.{Logged as delta_found, Wrong as wrong_found}
use Rattle.log_format.proofs.RunSteps.{run_by_front}
use Rattle.log_format.proofs.RunPieces.{rest_goes_on, rest_is_bad, IsTally-nil, IsTally-push, front_cut}

-- no delta is skipped at first
pub skipped_none : (g : Geometry) (tid : ℕ) (bytes : List ℕ) (tally : Tally) → HasSkipped g tid bytes 0 tally tally
skipped_none g tid bytes tally = λ before known. (before, known, λ more. refl)

-- what was found at byte `at`, as the code says it
abbrev pub Finds : Geometry → (tid at : ℕ) → List ℕ → Tally → Found → Type 0
Finds g tid at bytes tally found = (before : List Delta) → IsTally g before tally → IsFound g before (drop at bytes) (front_of g tid before (drop at bytes)) found

pub finds_at : (g : Geometry) (tid at : ℕ) (bytes : List ℕ) (tally : Tally) (answer found : Found) → answer ≡ found
    → ((before : List Delta) → IsTally g before tally → IsFound g before (take (length bytes - at) (drop at bytes)) (front_of g tid before (take (length bytes - at) (drop at bytes))) answer)
    → Finds g tid at bytes tally found
finds_at g tid at bytes tally answer found is told =
    subst (λ (f : Found). Finds g tid at bytes tally f) is
    (subst (λ (l : List ℕ). (before : List Delta) → IsTally g before tally → IsFound g before l (front_of g tid before l) answer) (take_rest bytes at) told)

-- one delta more is skipped
pub skipped_more : (g : Geometry) (tid at size : ℕ) (bytes : List ℕ) (first old new : Tally) (head : RecordHead) → HasSkipped g tid bytes at first old
    → Finds g tid at bytes old (delta_found head) → size ≡ 16 + logged_len head.kind head.len
    → new.deltas ≡ old.deltas + 1 → new.bytes ≡ old.bytes + size → new.last ≡ Some head → HasSkipped g tid bytes (at + size) first new
skipped_more g tid at size bytes first old new head so_far found size_is deltas more_bytes last = λ before known.
    let now = so_far before known in
    let is = found now.0 now.1 in
    let d : Delta = delta_at head (drop at bytes) in (
      now.0 ++ d ∷ [],
      IsTally-push g now.0 (drop at bytes) d old new now.1 is.1 deltas (more_bytes ∙ ap (λ (n : ℕ). old.bytes + n) size_is) last,
      λ more. now.2 more ∙ rest_goes_on g tid at size now.0 bytes d is.0 size_is more,
    )

-- a wrong record after the deltas that were skipped
pub bad_after : (g : Geometry) (tid at : ℕ) (bytes : List ℕ) (first now : Tally) → HasSkipped g tid bytes at first now → Finds g tid at bytes now wrong_found → IsBadAfter g tid bytes first
bad_after g tid at bytes first now so_far found = λ before known more.
    let there = so_far before known in
    there.2 more ∙ rest_is_bad g tid there.0 (drop at bytes) (found there.0 there.1) more

-- the reader at the beginning of a run
pub nothing_read : (g : Geometry) (reader : RunReader) → reader.kept.items ≡ [] → reader.tally.deltas ≡ 0 → reader.tally.bytes ≡ 0 → reader.tally.last ≡ None
    → reader.committed ≡ false → HasRead g [] reader
nothing_read g reader kept deltas bytes last none = record {
  before = [];
  tally = IsTally-nil g reader.tally deltas bytes last;
  run = λ more. ap (λ (l : List ℕ). run_of g reader.tid (l ++ more)) (sym kept);
  front = front_cut g reader.tid [] reader.kept.items (subst (λ (l : List ℕ). length l < 16) (sym kept) (omega arith)) ∙ ap stop_at (sym none);
}

-- the reader with bytes more
pub read_more : (g : Geometry) (old new : RunReader) (bytes joined read : List ℕ) (end : ℕ) → HasRead g read old → new.tid ≡ old.tid → joined ≡ old.kept.items ++ bytes
    → new.kept.items ≡ drop end joined → HasSkipped g old.tid joined end old.tally new.tally → StopsAt g old.tid (drop end joined) new.committed new.tally
    → HasRead g (read ++ bytes) new
read_more g old new bytes joined read end has tid joined_is kept skipped stops =
    let now = skipped has.before has.tally in
    record {
      before = now.0;
      tally = now.1;
      run = λ more.
          ap (λ (n : ℕ). run_of g n ((read ++ bytes) ++ more)) tid
          ∙ ap (λ (l : List ℕ). run_of g old.tid l) (append_assoc read bytes more)
          ∙ has.run (bytes ++ more)
          ∙ ap (λ (l : List ℕ). rest_of_run g old.tid has.before l) (sym (append_assoc old.kept.items bytes more) ∙ ap (λ (l : List ℕ). l ++ more) (sym joined_is))
          ∙ now.2 more
          ∙ ap (λ (l : List ℕ). rest_of_run g old.tid now.0 (l ++ more)) (sym kept)
          ∙ ap (λ (n : ℕ). rest_of_run g n now.0 (new.kept.items ++ more)) (sym tid);
      front = ap (λ (n : ℕ). front_of g n now.0 new.kept.items) tid ∙ ap (λ (l : List ℕ). front_of g old.tid now.0 l) kept ∙ stops now.0 now.1;
    }

pub bad_more : (g : Geometry) (old : RunReader) (bytes joined : List ℕ) → joined ≡ old.kept.items ++ bytes → IsBadAfter g old.tid joined old.tally
    → (read : List ℕ) → HasRead g read old → (more : List ℕ) → run_of g old.tid ((read ++ bytes) ++ more) ≡ Bad
bad_more g old bytes joined joined_is bad read has more =
    ap (λ (l : List ℕ). run_of g old.tid l) (append_assoc read bytes more)
    ∙ has.run (bytes ++ more)
    ∙ ap (λ (l : List ℕ). rest_of_run g old.tid has.before l) (sym (append_assoc old.kept.items bytes more) ∙ ap (λ (l : List ℕ). l ++ more) (sym joined_is))
    ∙ bad has.before has.tally more

-- the run that was read
run_read : (g : Geometry) (read : List ℕ) (reader : RunReader) (has : HasRead g read reader) → run_of g reader.tid read ≡ rest_of_run g reader.tid has.before reader.kept.items
run_read g read reader has =
    ap (λ (l : List ℕ). run_of g reader.tid l) (sym (append-nil read)) ∙ has.run [] ∙ ap (λ (l : List ℕ). rest_of_run g reader.tid has.before l) (append-nil reader.kept.items)

pub total_whole : (g : Geometry) (read : List ℕ) (reader : RunReader) → HasRead g read reader → reader.committed ≡ true
    → (deltas : List Delta) × (run_of g reader.tid read ≡ Whole deltas) × (reader.tally.deltas ≡ length deltas) × (reader.tally.bytes ≡ delta_bytes deltas)
total_whole g read reader has is = (
  has.before,
  run_read g read reader has
      ∙ run_by_front g reader.tid (length reader.kept.items) has.before reader.kept.items Commit (has.front ∙ ap stop_at is),
  has.tally.count,
  has.tally.bytes,
)

pub total_short : (g : Geometry) (read : List ℕ) (reader : RunReader) → HasRead g read reader → reader.committed ≡ false → run_of g reader.tid read ≡ Short
total_short g read reader has is =
    run_read g read reader has
    ∙ run_by_front g reader.tid (length reader.kept.items) has.before reader.kept.items Cut (has.front ∙ ap stop_at is)
