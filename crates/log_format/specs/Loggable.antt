-- What deltas must be to be those of one transaction, as tests.
use Rattle.std.specs.Prelude.{◌==◌, Bool, true, ◌&&◌, List, [], ◌∷◌, length}
use Rattle.std.specs.List.{list_all}
use Rattle.lufs_base.specs.declared.geometry.Geometry.{Geometry}
use Rattle.lufs_base.specs.declared.delta.Delta.{Delta}
use Rattle.volume_model.specs.Log.{may_be_logged, logged_len, may_precede}

-- the delta may be logged, and has as many bytes as it logs
abbrev pub is_logged : Geometry → Delta → Bool
is_logged g d = may_be_logged g d.kind d.home d.len && length d.bytes == logged_len d.kind d.len

abbrev pub precedes : Delta → Delta → Bool
precedes d later = may_precede d later.kind later.home

-- each may stand before all later ones
abbrev pub are_in_order : List Delta → Bool
are_in_order [] = true
are_in_order (d ∷ deltas) = list_all (precedes d) deltas && are_in_order deltas
