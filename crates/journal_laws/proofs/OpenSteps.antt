-- Calls come in and go out: the disk and the versions stay, and what is reserved has room.
use Rattle.std.proofs.Common.{◌≡◌, ◌≤◌, inr, ℕ, ◌+◌, [], Some, refl, sym, ap, subst, arith}
use Rattle.lufs_base.specs.declared.geometry.Geometry.{Geometry}
use Rattle.volume_model.specs.Log.{delta_bytes, sectors_for}
use Rattle.volume_model.specs.Crash.{Record, with_calls}
use Rattle.journal_model.specs.Journals.{Batch, Roll, Idle, Writing, Home, Trimmed, Journal}
use Rattle.journal_model.specs.BlockRoles.{Roles, Stays, moved}
use Rattle.journal_model.specs.Batches.{batch_of}
use Rattle.journal_model.specs.Room.{pending_bytes, IsOpen, HasSpaceFor}
use Rattle.journal_model.specs.Kept.{IsBatch, IsRoll}
use Rattle.journal_model.specs.Safety.{IsSafe}
use Rattle.journal_laws.proofs.Outcomes.{no_calls}

-- a step that makes no call
pub without_calls : (g : Geometry) (roles : Roles) (r : Record) (k : Journal) → IsSafe g roles r k → IsSafe g roles (with_calls r []) k
without_calls g roles r k safe = subst (λ (q : Record). IsSafe g roles q k) (sym (no_calls r)) safe

-- the batch of a roll stays one
pub roll_kept : (g : Geometry) (roles after : Roles) (j k : Journal) (roll : Roll) → ((batch : Batch) → batch_of roll ≡ Some batch → IsBatch g roles j batch → IsBatch g after k batch)
    → IsRoll g roles j roll → IsRoll g after k roll
roll_kept g roles after j k Idle keeps is = tt
roll_kept g roles after j k (Writing batch) keeps is = keeps batch refl is
roll_kept g roles after j k (Home batch) keeps is = (keeps batch refl is.0, is.1)
roll_kept g roles after j k (Trimmed batch) keeps is = (keeps batch refl is.0, is.1)

-- more bytes take no fewer sectors
pub sectors_grow : (few many : ℕ) → few ≤ many → sectors_for few ≤ sectors_for many
sectors_grow few many fewer = omega (arith, fewer)

module _ (g : Geometry) (roles : Roles) (r : Record) (j : Journal) (safe : IsSafe g roles r j) where
  with_members : (members unspent : ℕ) → (members ≡ 0 → unspent ≡ 0) → (IsOpen (record j { members = members; unspent = unspent }) → HasSpaceFor g (record j { members = members; unspent = unspent }) 0)
      → IsSafe g (moved Stays roles) (with_calls r []) (record j { members = members; unspent = unspent })
  with_members members unspent none fits =
      without_calls g (moved Stays roles) r (record j { members = members; unspent = unspent })
      (record {
        sectors = safe.sectors;
        each = λ image left. let old = safe.each image left in record { geometry = old.geometry; header = old.header; ring = old.ring; whole = old.whole; rest = old.rest };
        present = record { header = safe.present.header; sealed = safe.present.sealed; rolled = safe.present.rolled };
        versions = record {
          loggable = safe.versions.loggable;
          places = safe.versions.places;
          sizes = safe.versions.sizes;
          laid = safe.versions.laid;
          covered = safe.versions.covered;
          cancelled = safe.versions.cancelled;
          sealed = safe.versions.sealed;
          running = safe.versions.running;
          freed = safe.versions.freed;
        };
        roll = roll_kept g (moved Stays roles) (moved Stays roles) j (record j { members = members; unspent = unspent }) j.roll
            (λ batch of is. record { some = is.some; committed = is.committed; held = is.held; left = is.left; cancelled = is.cancelled }) safe.roll;
        owners = record {
          claimed = safe.owners.claimed;
          gone = λ b unclaimed freed. let gone = safe.owners.gone b unclaimed freed in record { unclaimed = gone.unclaimed; uncancelled = gone.uncancelled };
          in_hand = safe.owners.in_hand;
          freed_last = safe.owners.freed_last;
          freed_low = safe.owners.freed_low;
          freed_high = safe.owners.freed_high;
        };
        room = record { oldest = safe.room.oldest; sealed = safe.room.sealed; number = safe.room.number; fits = fits; unspent = none };
      })

  pub keeps_admit : (need : ℕ) → HasSpaceFor g j need → IsSafe g (moved Stays roles) (with_calls r []) (record j { members = j.members + 1; unspent = j.unspent + need })
  keeps_admit need fits =
      with_members (j.members + 1) (j.unspent + need) (λ none. absurd (omega (arith, none)))
      (λ some. let sum : delta_bytes j.running + (j.unspent + need) + 0 ≡ pending_bytes j + need = omega arith in
      let same = ap sectors_for sum in omega (arith, same, fits))

  pub keeps_leave : (members unspent left : ℕ) → j.members ≡ members + 1 → j.unspent ≡ unspent + left → (members ≡ 0 → unspent ≡ 0)
      → IsSafe g (moved Stays roles) (with_calls r []) (record j { members = members; unspent = unspent })
  keeps_leave members unspent left one some none =
      with_members members unspent none
      (λ opened. let fits = safe.room.fits (inr (omega (arith, one))) in
      let fewer = sectors_grow (delta_bytes j.running + unspent + 0) (pending_bytes j + 0) (omega (arith, some)) in omega (arith, fewer, fits))
