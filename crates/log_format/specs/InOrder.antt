-- Deltas in the order that the log asks for.
use Rattle.std.specs.Prelude.{◌≡◌, ℕ, ◌-◌, Bool, true, List, length, Option, Some, None, IfSome}
use Rattle.std.specs.List.{list_all, slice_get}
use Rattle.lufs_base.specs.declared.geometry.Geometry.{Geometry}
use Rattle.lufs_base.specs.declared.delta.Delta.{Delta}
use Rattle.lufs_base.specs.declared.delta.DeltaKind.{DeltaKind}
use Rattle.volume_model.specs.Log.{may_be_logged, may_precede}

abbrev pub last_of : List Delta → Option Delta
last_of deltas = slice_get deltas (length deltas - 1)

-- a delta of this kind and home may stand after the last one
abbrev pub may_stand_after : Option Delta → DeltaKind → ℕ → Bool
may_stand_after None kind home = true
may_stand_after (Some d) kind home = may_precede d kind home

abbrev pub MayBeLogged : Geometry → Delta → Type 0
MayBeLogged g d = may_be_logged g d.kind d.home d.len ≡ true

-- what may stand after the last delta may stand after each
pub record InOrder (g : Geometry) (deltas : List Delta) : Type 0 where
  pub last_logged : IfSome (last_of deltas) (MayBeLogged g)
  pub last_decides : (kind : DeltaKind) (home : ℕ) → list_all (λ d. may_precede d kind home) deltas ≡ may_stand_after (last_of deltas) kind home
