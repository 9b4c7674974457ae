use Rattle.std.proofs.Common.{Option, sym, ap, ◌∙◌}
use Rattle.std.specs.Option.{option_map}
use Rattle.volume_model.specs.Format.{Image}
use Rattle.meta_store.specs.Laid.{laid_over}
use Rattle.meta_store.specs.Index.{deltas_of}
use Rattle.meta_store.proofs.LogLaid.{recovered_laid}
use Rattle.meta_store.proofs.laid.recovered_content.Goals as goal

pub returns : goal.returns
returns c =
    λ g disk image h txs laid present is index.
    ap (λ (found : Option Image). option_map (laid_over (deltas_of laid)) found) present
    ∙ sym (recovered_laid g image h txs (deltas_of laid) is index)
