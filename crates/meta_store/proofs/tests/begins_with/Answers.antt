use Rattle.std.proofs.Common.{take, sym, ◌∙◌}
use Rattle.std.proofs.lemmas.Slice.Eq.{bytes_eq-Decides}
use Rattle.meta_store.proofs.tests.begins_with.Goals as goal

pub returns : goal.returns
returns c = λ is. (bytes_eq-Decides (take 416 c.args.block.now) c.args.bytes.now).0 (sym c.eq.ensures ∙ is)
