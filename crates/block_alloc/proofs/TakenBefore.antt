-- What is taken of a store that was only read before.
use Rattle.std.proofs.Common.{◌≡◌, Ok, subst, refl}
use Rattle.volume_model.specs.declared.hand.Hand.{Hand}
use Rattle.meta_store.specs.declared.change.Change.{Change}
use Rattle.meta_store.specs.Changing.{AllTold, all_told, IsAsBefore}
use Rattle.meta_store.specs.Changes.{Applies}
use Rattle.block_alloc.specs.declared.taken.Taken.{Taken}
use Rattle.block_alloc.specs.declared.taken.Taken.TheVariants.{Got, Later, NoInodes, NoSpace}
use Rattle.block_alloc.specs.Marking.{HasTaken, TakesWhatItGot}

-- what a store tells, over the disk of another one
abbrev pub over_disk : (old mid : AllTold) → AllTold
over_disk old mid = all_told (record { geometry = old.read.geometry; content = old.read.content; disk = mid.read.disk }) old.changing

pub told_again : (old mid : AllTold) → IsAsBefore old mid → mid ≡ over_disk old mid
told_again old mid same = λ t. all_told
    (record { geometry = same.read.geometry t; content = same.read.content t; disk = mid.read.disk })
    (record {
      is_released = λ b. same.changing.released b t;
      held = same.changing.held t;
      is_taken = λ b. same.changing.taken b t;
      is_freed = λ b. same.changing.freed b t;
      room = same.changing.room t;
    })

applied_over : (change : Change) (old mid new : AllTold) → Applies change (over_disk old mid) new → Applies change old new
applied_over change old mid new applied = record {
  geometry = applied.geometry;
  content = applied.content;
  held = applied.held;
  taken = applied.taken;
  freed = applied.freed;
  released = applied.released;
  room = applied.room;
}

pub taken_before : (hand : Hand) (old mid new : AllTold) → IsAsBefore old mid → HasTaken hand mid new → HasTaken hand old new
taken_before hand old mid new same taken =
    let there : HasTaken hand (over_disk old mid) new = subst (λ (m : AllTold). HasTaken hand m new) (told_again old mid same) taken in
    record {
      applied = (there.applied.0, applied_over _ old mid new there.applied.1, there.applied.2, there.applied.3);
      rising = there.rising;
      holds = there.holds;
      stands = there.stands;
    }

-- any other answer leaves the store as before
pub not_taken : (taken : Taken) (old new : AllTold) → ((hand : Hand) → taken ≡ Got hand → ⊥) → IsAsBefore old new → TakesWhatItGot (Ok taken) old new
not_taken (Got hand) old new not same = absurd (not hand refl)
not_taken (Later cause) old new not same = same
not_taken NoInodes old new not same = same
not_taken NoSpace old new not same = same
