use Rattle.std.proofs.Common.{length, slice_index, arith}
use Rattle.std.specs.Option.{unwrap_or}
use Rattle.std.proofs.lemmas.List.FromFn.{fill_by_all}
use Rattle.volume_model.specs.Log.{byte_of}
use Rattle.meta_store.specs.Laid.{laid_part}
use Rattle.meta_store.proofs.lay.lay_over_part.Goals as goal

pub returns : goal.returns
unfolding laid_part
returns c =
    let old = c.args.part.now in
    fill_by_all (λ i. unwrap_or (byte_of c.args.delta.now i) (slice_index old i)) c.loop-i.part (length old) 0 c.loop-i.auto.part
    (λ k below. c.loop-i.invariant.laid k (omega (arith, below)))
