-- The tests hold just where the change may be recorded.
use Rattle.std.proofs.Common.{◌≡◌, ◌<◌, ◌≤◌, ℕ, zero, suc, ◌+◌, ◌*◌, ◌/◌, ◌%◌, Bool, true, false, not, List, [], ◌∷◌, length, get_or, refl, sym, ap, ◌∙◌, subst, arith}
use Rattle.std.specs.Prelude.{◌==◌, ◌&&◌, ◌||◌, nat_lt, nat_le, ◌↔◌}
use Rattle.std.specs.List.{All, AllPairs, Contains, list_all, list_any}
use Rattle.std.specs.Cmp.{both_ways}
use Rattle.std.proofs.lemmas.Bool.{false≢true, and_parts, and_from, leb-true, le-leb}
use Rattle.std.proofs.lemmas.Bool.Decides.{Decides-eqb, Decides-ltb}
use Rattle.std.proofs.lemmas.List.Elements.{All-nil, All-cons, All-head, All-tail, All-from_get_or, All-contains, All-contains_itself}
use Rattle.std.proofs.lemmas.List.Kept.{AllPairs-cons}
use Rattle.lufs_base.specs.declared.geometry.Geometry.{Geometry}
use Rattle.lufs_base.specs.declared.delta.Delta.{Delta}
use Rattle.volume_model.specs.Log.{AreLoggable, is_cancel}
use Rattle.volume_model.specs.Format.{is_body}
use Rattle.meta_store.specs.declared.change.Change.{Change}
use Rattle.meta_store.specs.declared.change.Freed.{Freed}
use Rattle.meta_store.specs.declared.change.RawWrite.{RawWrite}
use Rattle.meta_store.specs.Changes.{frees_metadata}
use Rattle.meta_store.specs.Conditions.{IsInBlock}
use Rattle.draft_laws.specs.Drafts.{IsRecorded}
use Rattle.draft_laws.proofs.ClaimUses.{some_passes, passes_of}
use Rattle.log_format.proofs.LoggableTests.{all_by, all_to}
use Rattle.plan_ends.specs.Tests.{cancels, frees_as_metadata, are_cancels_freed, are_freed_cancelled, is_in_block, passes}

either : (a b : Bool) → (not a || b) ≡ true → a ≡ true → b ≡ true
either true b one is = one
either false b one is = absurd (false≢true is)

implied : (a b : Bool) → (a ≡ true → b ≡ true) → (not a || b) ≡ true
implied true b so = so refl
implied false b so = refl

-- the blocks cancelled are just those freed that held metadata
cancelled : (deltas : List Delta) (freed : List Freed) → are_cancels_freed deltas freed ≡ true → are_freed_cancelled deltas freed ≡ true → (b : ℕ) → cancels deltas b ≡ frees_as_metadata freed b
cancelled deltas freed forth back b =
    let ps = λ (d : Delta). not (is_cancel d.kind) || frees_as_metadata freed (d.home / 4096) in
    let qs = λ (f : Freed). not f.meta || cancels deltas f.block.0 in
    both_ways (cancels deltas b) (frees_as_metadata freed b)
    (λ some.
    let one = some_passes (λ d. is_cancel d.kind && d.home / 4096 == b) deltas some in
    let two = and_parts (is_cancel one.0.kind) (one.0.home / 4096 == b) one.2 in
    let freed_so = either (is_cancel one.0.kind) (frees_as_metadata freed (one.0.home / 4096))
    (All-contains (λ d. ps d ≡ true) deltas one.0 (all_by ps (λ d. ps d ≡ true) (λ d is. is) deltas forth) one.1) two.0 in
    subst (λ (c : ℕ). frees_as_metadata freed c ≡ true) ((Decides-eqb (one.0.home / 4096) b).0 two.1) freed_so)
    (λ some.
    let one = some_passes (λ f. f.block.0 == b && f.meta) freed some in
    let two = and_parts (one.0.block.0 == b) one.0.meta one.2 in
    let cancelled_so = either one.0.meta (cancels deltas one.0.block.0)
    (All-contains (λ f. qs f ≡ true) freed one.0 (all_by qs (λ f. qs f ≡ true) (λ f is. is) freed back) one.1) two.1 in
    subst (λ (c : ℕ). cancels deltas c ≡ true) ((Decides-eqb one.0.block.0 b).0 two.0) cancelled_so)

module _ (deltas : List Delta) (freed : List Freed) (same : (b : ℕ) → cancels deltas b ≡ frees_as_metadata freed b) where
  cancels_are_freed : are_cancels_freed deltas freed ≡ true
  cancels_are_freed = all_to (λ d. not (is_cancel d.kind) || frees_as_metadata freed (d.home / 4096)) (Contains deltas) (λ d here.
      implied (is_cancel d.kind) (frees_as_metadata freed (d.home / 4096)) (λ is.
      sym (same (d.home / 4096)) ∙ passes_of (λ e. is_cancel e.kind && e.home / 4096 == d.home / 4096) deltas d here
      (and_from (is_cancel d.kind) (d.home / 4096 == d.home / 4096) is ((Decides-eqb (d.home / 4096) (d.home / 4096)).1 refl)))) deltas (All-contains_itself deltas)

  freed_are_cancelled : are_freed_cancelled deltas freed ≡ true
  freed_are_cancelled = all_to (λ f. not f.meta || cancels deltas f.block.0) (Contains freed) (λ f here.
      implied f.meta (cancels deltas f.block.0) (λ is.
      same f.block.0 ∙ passes_of (λ e. e.block.0 == f.block.0 && e.meta) freed f here
      (and_from (f.block.0 == f.block.0) f.meta ((Decides-eqb f.block.0 f.block.0).1 refl) is))) freed (All-contains_itself freed)

raw_in_block : (g : Geometry) (w : RawWrite) → is_in_block g w ≡ true → IsInBlock g w
raw_in_block g w is =
    let n = length w.bytes in
    let first = and_parts (nat_lt 0 n && n % 512 == 0 && nat_le (512 * (w.first % 8) + n) 4096) (is_body g (w.first / 8)) is in
    let second = and_parts (nat_lt 0 n && n % 512 == 0) (nat_le (512 * (w.first % 8) + n) 4096) first.0 in
    let third = and_parts (nat_lt 0 n) (n % 512 == 0) second.0 in
    record {
      whole = ((Decides-ltb 0 n).0 third.0, (Decides-eqb (n % 512) 0).0 third.1);
      inside = leb-true (512 * (w.first % 8) + n) 4096 second.1;
      body = first.1;
    }

raw_passes : (g : Geometry) (w : RawWrite) → IsInBlock g w → is_in_block g w ≡ true
raw_passes g w is =
    let n = length w.bytes in
    and_from (nat_lt 0 n && n % 512 == 0 && nat_le (512 * (w.first % 8) + n) 4096) (is_body g (w.first / 8))
    (and_from (nat_lt 0 n && n % 512 == 0) (nat_le (512 * (w.first % 8) + n) 4096)
    (and_from (nat_lt 0 n) (n % 512 == 0) ((Decides-ltb 0 n).1 is.whole.0) ((Decides-eqb (n % 512) 0).1 is.whole.1))
    (le-leb (512 * (w.first % 8) + n) 4096 is.inside))
    is.body

module _ (g : Geometry) (change : Change) where
  abbrev a : Bool
  a = are_cancels_freed change.deltas change.freed

  abbrev b : Bool
  b = are_freed_cancelled change.deltas change.freed

  abbrev c : Bool
  c = list_all (is_in_block g) change.raw

  pub recorded : AreLoggable g change.deltas → passes g change ≡ true → IsRecorded g change
  recorded deltas is =
      let first = and_parts (a && b) c is in
      let second = and_parts a b first.0 in
      record {
        deltas = deltas;
        cancels = cancelled change.deltas change.freed second.0 second.1;
        raw = all_by (is_in_block g) (IsInBlock g) (raw_in_block g) change.raw first.1;
      }

  pub recorded_passes : IsRecorded g change → passes g change ≡ true
  recorded_passes is =
      and_from (a && b) c
      (and_from a b
      (cancels_are_freed change.deltas change.freed is.cancels)
      (freed_are_cancelled change.deltas change.freed is.cancels))
      (all_to (is_in_block g) (IsInBlock g) (raw_passes g) change.raw is.raw)
