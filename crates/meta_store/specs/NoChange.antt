-- The change of nothing.
use Rattle.std.specs.Prelude.{[]}
use Rattle.meta_store.specs.declared.change.Change.{Change}

abbrev pub no_change : Change
no_change = record { deltas = []; taken = []; freed = []; raw = [] }
