use Rattle.std.proofs.Common.{◌≡◌, ◌<◌, ℕ, ◌+◌, ◌/◌, eqb, ◌&&◌, cond, List, [], ◌∷◌, ◌++◌, length, take, sym, ap, ◌∙◌, arith}
use Rattle.std.specs.Option.{unwrap_or}
use Rattle.std.specs.Ordering.{nat_cmp}
use Rattle.std.specs.Map.{lookup}
use Rattle.std.specs.BTreeMap.{is_at}
use Rattle.std.specs.List.{list_any, filter}
use Rattle.std.proofs.lemmas.List.{take_more}
use Rattle.lufs_base.specs.declared.delta.Delta.{Delta}
use Rattle.volume_model.specs.declared.log.Tx.{Tx}
use Rattle.volume_model.specs.Log.{is_cancel, cancels, lays_on}
use Rattle.meta_store.specs.Laid.{laid_on}
use Rattle.meta_store.specs.Index.{deltas_of}
use Rattle.meta_store.proofs.LiveDeltas.{nothing_laid_on, laid_on_more}
use Rattle.meta_store.proofs.laid.LaidDeltas.new.Goals as goal

pub loop-tx-init : goal.loop-tx-init
loop-tx-init c =
    λ b. ap (λ (entries : List (ℕ × List Delta)). unwrap_or (lookup (is_at (nat_cmp b)) entries) []) c.new.ensures.empty ∙ sym (nothing_laid_on b)

pub loop-tx-preserved : goal.loop-tx-preserved
loop-tx-preserved c =
    let txs : List Tx = c.as_slice-tx-items.result.now in
    let i = c.loop-tx.tx-index in
    let tx = c.tx-item.result in
    let within : i < length txs = omega arith in
    let more : take (i + 1) txs ≡ take i txs ++ tx ∷ [] = take_more txs i tx within ∙ ap (λ (x : Tx). take i txs ++ x ∷ []) (sym c.tx-item.is) in
    λ b.
    c.in_ok-push_deltas.ensures b
    ∙ ap (λ (l : List Delta). deltas_of c.cancel_blocks.new.self b ++ filter (lays_on b) l) c.as_slice-in-loop-tx.ensures
    ∙ ap (λ (l : List Delta). l ++ filter (lays_on b) tx.deltas)
    (c.cancel_blocks.ensures b
    ∙ ap (λ (l : List Delta). cond (list_any (λ d. is_cancel d.kind && eqb (d.home / 4096) b) l) [] (deltas_of c.loop-tx.laid b)) c.as_slice.ensures
    ∙ ap (λ (l : List Delta). cond (cancels b tx) [] l) (c.loop-tx.invariant b))
    ∙ sym (laid_on_more (take i txs) tx b)
    ∙ ap (λ (l : List Tx). laid_on l b) (sym more)
