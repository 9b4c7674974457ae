-- The numbers of what is stored right.
use Rattle.std.proofs.Common.{◌≡◌, inl, inr, ℕ, false, not, List, Option, ap, arith}
use Rattle.std.specs.Option.{option_map_or, option_and_then}
use Rattle.std.proofs.lemmas.Bool.{cases_lt}
use Rattle.std.proofs.lemmas.Option.{slice_get_past}
use Rattle.lufs_base.specs.declared.geometry.Geometry.{Geometry}
use Rattle.volume_model.specs.declared.hand.Hand.{Hand}
use Rattle.volume_model.specs.Sound.{InodeState, used_of, Reading, inodes_in, has_right_numbers, has_bad_numbers, IsStored}

-- the numbers of each inode that is stored right
pub stored_numbers : (g : Geometry) (r : Reading) (hands : List Hand) (i : ℕ) → IsStored g r hands → has_bad_numbers g r i ≡ false
stored_numbers g r hands i stored = elim (cases_lt i (inodes_in r)) [
  | inl inside ↦ stored.numbers i inside
  | inr past ↦ ap (λ (o : Option InodeState). option_map_or (λ u. not (has_right_numbers g i u)) (option_and_then used_of o) false) (slice_get_past r.inodes i (omega (arith, past)))
]
