use Rattle.std.proofs.Common.{◌≡◌, ◌*◌, ◌/◌, ◌++◌, ◌≤◌, length, take, drop}
use Rattle.std.specs.List.{flat_map}
use Rattle.volume_model.specs.Format.{pieces_of}
use Rattle.volume_model.specs.Log.{trailer_bytes}
use Rattle.log_format.proofs.transaction.make_sectors.Given as goal

-- the sectors from `i` on are made, and the pieces before stand at the front as they did
abbrev pub invariant-loop-i : goal.invariant-loop-i
invariant-loop-i l = record {
  size : length l.out ≡ length l.fn.out;
  inside : l.i ≤ length l.fn.out / 512;
  front : take (504 * l.i) l.out ≡ take (504 * l.i) l.fn.out;
  back : drop (512 * l.i) l.out
      ≡ flat_map (λ piece. piece ++ trailer_bytes l.trailer) (drop l.i (pieces_of 504 (take (504 * (length l.fn.out / 512)) l.fn.out)));
}

abbrev pub decreases-loop-i : goal.decreases-loop-i
decreases-loop-i l = l.i
