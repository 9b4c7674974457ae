-- A change that a store takes is a step of a mounted volume.
use Rattle.std.proofs.Common.{◌≡◌, ◌≤◌, ℕ, suc, List, [], Some, sym, ap, subst, ◌∙◌}
use Rattle.lufs_base.specs.declared.geometry.Geometry.{Geometry}
use Rattle.lufs_base.specs.declared.numbers.BlockNo.{BlockNo}
use Rattle.tree_types.specs.declared.history.Entry.{Entry}
use Rattle.volume_model.specs.declared.hand.Hand.{Hand}
use Rattle.volume_model.specs.Crash.{present_of}
use Rattle.volume_model.specs.Sound.{Reading, reading_of, Tree, tree_of, shape_of}
use Rattle.history_model.specs.Histories.{entry_at, replay_of}
use Rattle.journal_model.specs.Journals.{Journal}
use Rattle.journal_model.specs.Versions.{Running}
use Rattle.journal_model.specs.BlockRoles.{Role, Changes, moved}
use Rattle.journal_model.specs.Steps.{Step}
use Rattle.history_laws.specs.Named.{named_block}
use Rattle.history_laws.specs.Applied.{IsApplied, NamesStay, AreTouchedPresent}
use Rattle.history_laws.specs.Published.{reading_in}
use Rattle.history_laws.specs.Volumes.{Volume, readings_of, IsRunningAs, KeepsHistory}
use Rattle.history_laws.specs.VolumeSteps.{VolumeStep, Takes, Applies}
use Rattle.history_laws.specs.WholeFiles.{HasWholeFiles}
use Rattle.history_laws.proofs.AppliedEntries.{entry_applied}
use Rattle.meta_store.specs.declared.change.Change.{Change}
use Rattle.meta_store.specs.Changing.{AllTold}
use Rattle.store_laws.specs.Tied.{MayChange, MayGiveBack, running_with, roles_with, journal_after, with_entry, with_hands, journal_amended, roles_amended, with_returned}
use Rattle.store_laws.proofs.AmendedRecords.{step_of_amended, reads_amended, running_amended, reading_is}
use Rattle.store_laws.proofs.StepsOfChanges.{step_of_change, reads_changed, running_changed}

module _ (g : Geometry) (moment : ℕ) (opening : Tree) (first : ℕ) (v : Volume) (told : AllTold) (change : Change) (after : List Hand) (keeps : KeepsHistory g moment opening first v) (members : 1 ≤ v.j.members)
    (may : MayChange g v.roles v.r v.j v.hands told change after) (none : change.raw ≡ []) where
  abbrev k : Journal
  k = journal_after g v.j change

  abbrev to : ℕ → Role
  to = roles_with g v.r v.j change

  abbrev new : Reading
  new = reading_of g (running_with g v.r v.j change)

  step : Step g v.roles (present_of v.r) v.j (Changes to) [] k
  step = step_of_change g v.roles v.r v.j v.hands after told change keeps.safe may none

  reads : reading_in g k (present_of v.r) Running ≡ new
  reads = reads_changed g v.roles v.r v.j v.hands after told change keeps.safe may none

  running_as : (shape : Tree) → shape_of (tree_of g (running_with g v.r v.j change)) ≡ shape → IsRunningAs g (moved (Changes to) v.roles) (present_of v.r) k after shape
  running_as shape has = subst (λ (s : Tree). IsRunningAs g (moved (Changes to) v.roles) (present_of v.r) k after s) has (running_changed g v.roles v.r v.j v.hands after told change keeps.safe may none)

  pub applied_step : (entry : Entry) → HasWholeFiles opening → entry_at v.h.entries (suc (v.held Running)) ≡ Some entry
      → shape_of (tree_of g (running_with g v.r v.j change)) ≡ shape_of (replay_of g moment opening v.h.entries (suc (v.held Running)))
      → NamesStay (v.roles Running) (readings_of g v Running) new → AreTouchedPresent g moment opening v.h.entries v.r (v.held Running) entry new → VolumeStep g moment opening v (with_entry g v change after)
  applied_step entry whole is has names touched =
      let running = running_as (shape_of (replay_of g moment opening v.h.entries (suc (v.held Running)))) has in
      let applied : IsApplied g moment opening v.h.entries v.r (readings_of g v) (v.held Running) (reading_in g k (present_of v.r) Running) =
      entry_applied g moment opening first v keeps to k after entry whole step running is (subst (λ (s : Reading). NamesStay (v.roles Running) (readings_of g v Running) s) (sym reads) names)
      (subst (λ (s : Reading). AreTouchedPresent g moment opening v.h.entries v.r (v.held Running) entry s) (sym reads) touched) in
      Applies to k after step members running applied

  pub hands_step : shape_of (tree_of g (running_with g v.r v.j change)) ≡ shape_of (replay_of g moment opening v.h.entries (v.held Running))
      → ((ino index : ℕ) → named_block new ino index ≡ named_block (readings_of g v Running) ino index) → VolumeStep g moment opening v (with_hands g v change after)
  hands_step has same =
      Takes to k after step members (running_as (shape_of (replay_of g moment opening v.h.entries (v.held Running))) has)
      (λ ino index. ap (λ (s : Reading). named_block s ino index) reads ∙ same ino index)

pub back_step : (g : Geometry) (moment : ℕ) (opening : Tree) (first : ℕ) (v : Volume) (told : AllTold) (n : ℕ) (bytes : List ℕ) (returned : List BlockNo) (after : List Hand) → KeepsHistory g moment opening first v
    → 1 ≤ v.j.members → MayGiveBack g v.roles v.r v.j v.hands told n bytes returned after → VolumeStep g moment opening v (with_returned g v n bytes returned after)
back_step g moment opening first v told n bytes returned after keeps members may =
    let k = journal_amended g v.j n bytes returned in
    let to = roles_amended g v.r v.j n bytes in
    let step : Step g v.roles (present_of v.r) v.j (Changes to) [] k = step_of_amended g v.roles v.r v.j v.hands after told n bytes returned keeps.safe may in
    let reads = reads_amended g v.roles v.r v.j v.hands after told n bytes returned keeps.safe may in
    let group = reading_is g v.roles v.r v.j v.hands after told n bytes returned keeps.safe may in
    let running : IsRunningAs g (moved (Changes to) v.roles) (present_of v.r) k after (shape_of (replay_of g moment opening v.h.entries (v.held Running))) =
    subst (λ (s : Tree). IsRunningAs g (moved (Changes to) v.roles) (present_of v.r) k after s) keeps.running.has (running_amended g v.roles v.r v.j v.hands after told n bytes returned keeps.safe may) in
    Takes to k after step members running (λ ino index. ap (λ (s : Reading). named_block s ino index) (reads ∙ group))
