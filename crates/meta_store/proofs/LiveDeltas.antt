-- What a replay lays over a block, as one more transaction comes.
use Rattle.std.proofs.Common.{◌≡◌, ℕ, ◌/◌, eqb, Bool, true, false, not, ◌&&◌, ◌||◌, cond, List, [], ◌∷◌, ◌++◌, refl, sym, ap, ◌∙◌, append_assoc, append-nil}
use Rattle.std.specs.List.{list_any, filter}
use Rattle.std.proofs.lemmas.Bool.{false≢true, true≢false, and_parts, eqb-true}
use Rattle.std.proofs.lemmas.List.Elements.{filter-append}
use Rattle.std.proofs.lemmas.List.Folds.{list_any-append}
use Rattle.lufs_base.specs.declared.delta.Delta.{Delta}
use Rattle.volume_model.specs.declared.log.Tx.{Tx}
use Rattle.volume_model.specs.Log.{cancels, live_deltas, is_cancel, lays_on}
use Rattle.meta_store.specs.Laid.{laid_on}

filter_first : (p : Delta → Bool) (kept : Bool) (d : Delta) (rest : List Delta)
    → filter p (cond kept (d ∷ rest) rest) ≡ cond (kept && p d) (d ∷ filter p rest) (filter p rest)
filter_first p true d rest = refl
filter_first p false d rest = refl

by_first : (dead kept here : Bool) (d : Delta) (live all : List Delta) → (here ≡ true → kept ≡ not dead) → live ≡ cond dead [] all
    → cond (kept && here) (d ∷ live) live ≡ cond dead [] (cond here (d ∷ all) all)
by_first true true true d live all kept_is is = absurd (true≢false (kept_is refl))
by_first true true false d live all kept_is is = is
by_first true false true d live all kept_is is = is
by_first true false false d live all kept_is is = is
by_first false true true d live all kept_is is = ap (λ (l : List Delta). d ∷ l) is
by_first false true false d live all kept_is is = is
by_first false false true d live all kept_is is = absurd (false≢true (kept_is refl))
by_first false false false d live all kept_is is = is

none_either_way : (dead : Bool) (l : List Delta) → l ≡ [] → [] ≡ cond dead [] l
none_either_way true l is = refl
none_either_way false l is = sym is

-- of the deltas on a block all are dead, or none
live_on_block : (b : ℕ) (later : List Tx) (deltas : List Delta)
    → filter (lays_on b) (filter (λ d. not (list_any (cancels (d.home / 4096)) later)) deltas) ≡ cond (list_any (cancels b) later) [] (filter (lays_on b) deltas)
live_on_block b later [] = none_either_way (list_any (cancels b) later) [] refl
live_on_block b later (d ∷ deltas) =
    let kept : Bool = not (list_any (cancels (d.home / 4096)) later) in
    let rest : List Delta = filter (λ d. not (list_any (cancels (d.home / 4096)) later)) deltas in
    filter_first (lays_on b) kept d rest
    ∙ by_first (list_any (cancels b) later) kept (lays_on b d) d (filter (lays_on b) rest) (filter (lays_on b) deltas)
    (λ here. ap (λ (n : ℕ). not (list_any (cancels n) later)) (eqb-true (d.home / 4096) b (and_parts (eqb (d.home / 4096) b) (not (is_cancel d.kind)) here).0))
    (live_on_block b later deltas)

laid_by_first : (tx : Tx) (later : List Tx) (b : ℕ) → laid_on (tx ∷ later) b ≡ cond (list_any (cancels b) later) [] (filter (lays_on b) tx.deltas) ++ laid_on later b
unfolding laid_on
laid_by_first tx later b =
    filter-append (lays_on b) (filter (λ d. not (list_any (cancels (d.home / 4096)) later)) tx.deltas) (live_deltas later)
    ∙ ap (λ (l : List Delta). l ++ filter (lays_on b) (live_deltas later)) (live_on_block b later tx.deltas)

by_cancels : (before last : Bool) (first middle end : List Delta)
    → cond (before || (last || false)) [] first ++ (cond last [] middle ++ end) ≡ cond last [] (cond before [] first ++ middle) ++ end
by_cancels true true first middle end = refl
by_cancels true false first middle end = refl
by_cancels false true first middle end = refl
by_cancels false false first middle end = sym (append_assoc first middle end)

by_only : (last : Bool) (end : List Delta) → end ++ [] ≡ cond last [] [] ++ end
by_only true end = append-nil end
by_only false end = append-nil end

pub nothing_laid_on : (b : ℕ) → laid_on [] b ≡ []
unfolding laid_on
nothing_laid_on b = refl

-- a later transaction first takes what it cancels, and then lays its own
pub laid_on_more : (txs : List Tx) (tx : Tx) (b : ℕ) → laid_on (txs ++ tx ∷ []) b ≡ cond (cancels b tx) [] (laid_on txs b) ++ filter (lays_on b) tx.deltas
laid_on_more [] tx b =
    laid_by_first tx [] b
    ∙ ap (λ (l : List Delta). filter (lays_on b) tx.deltas ++ l) (nothing_laid_on b)
    ∙ by_only (cancels b tx) (filter (lays_on b) tx.deltas)
    ∙ ap (λ (l : List Delta). cond (cancels b tx) [] l ++ filter (lays_on b) tx.deltas) (sym (nothing_laid_on b))
laid_on_more (first ∷ txs) tx b =
    let own : List Delta = filter (lays_on b) tx.deltas in
    let its : List Delta = filter (lays_on b) first.deltas in
    laid_by_first first (txs ++ tx ∷ []) b
    ∙ ap (λ (l : List Delta). cond (list_any (cancels b) (txs ++ tx ∷ [])) [] its ++ l) (laid_on_more txs tx b)
    ∙ ap (λ (dead : Bool). cond dead [] its ++ (cond (cancels b tx) [] (laid_on txs b) ++ own)) (list_any-append (cancels b) txs (tx ∷ []))
    ∙ by_cancels (list_any (cancels b) txs) (cancels b tx) its (laid_on txs b) own
    ∙ ap (λ (l : List Delta). cond (cancels b tx) [] l ++ own) (sym (laid_by_first first txs b))

-- a block that is cancelled now or was before
pub cancelled_more : (before here : Bool) (deltas : List Delta) → cond here [] (cond before [] deltas) ≡ cond (before || here) [] deltas
cancelled_more true true deltas = refl
cancelled_more true false deltas = refl
cancelled_more false true deltas = refl
cancelled_more false false deltas = refl
