-- The draft of an `rmdir`, where the content is told.
use Rattle.std.proofs.Common.{◌≡◌, ℕ, Option, Some, None, sym, subst, ◌∙◌}
use Rattle.lufs_base.specs.Layout.{IsGeometry}
use Rattle.lufs_base.specs.declared.geometry.Geometry.{Geometry}
use Rattle.volume_model.specs.Format.{Image}
use Rattle.tree_types.specs.declared.reply.Refusal.TheVariants.{Noent}
use Rattle.tree_types.specs.declared.call.Call.TheVariants.{Rmdir}
use Rattle.history_model.specs.Walk.{WalkEnd}
use Rattle.history_model.specs.Edits.{TakeOut, SetTime, edited}
use Rattle.history_model.specs.Refusals.{Refuse, Proceed}
use Rattle.meta_store.specs.declared.change.Change.{Change}
use Rattle.meta_store.specs.Changing.{AllTold}
use Rattle.meta_store.specs.NoChange.{no_change}
use Rattle.dir_ops.proofs.ToldEdits.{EditsDrafts}
use Rattle.plan_ends.specs.Planned.{ino_of}
use Rattle.name_ops.proofs.PlannedStores.{HasRoom}
use Rattle.name_ops.proofs.LostLinks.{LosesInDrafts}
use Rattle.name_ops.proofs.RemovedStores.{DropsInDrafts, edits_as, loses_as, drops_as}
use Rattle.name_ops.proofs.OnePathPlans.{Drawn}
use Rattle.name_ops.proofs.DecidedRmdir.{not_found}
use Rattle.name_ops.proofs.WantedRmdir.{rmdir}
use Rattle.name_ops.proofs.TakenOut.{begun}
use Rattle.name_ops.proofs.RemovedDirectory.{as_it_was, emptied}

-- a name that isn't there is refused
pub told_no_name : (content : Option Image) (told : AllTold) (moment : ℕ) (p : WalkEnd) (change : Change) → p.found ≡ None → Drawn rmdir content told moment p change
told_no_name None told moment p change none tree cred path hand held after = tt
told_no_name (Some image) told moment p change none tree cred path hand held after = λ may go.
    absurd (let e : Refuse Noent ≡ Proceed = sym (not_found told.read.geometry tree cred path p none) ∙ go in cc)

-- the directory goes with its name, and the one above it has a link less
drawn_here : (content : Option Image) (told : AllTold) (moment : ℕ) (p : WalkEnd) (i : ℕ) (one two three four : Change) → IsGeometry told.read.geometry → HasRoom content told.read.geometry → p.found ≡ Some i
    → EditsDrafts content told.read.geometry no_change one p.dir (edited (TakeOut p.dir p.name)) → EditsDrafts content told.read.geometry one two p.dir (edited (SetTime p.dir moment))
    → LosesInDrafts content told.read.geometry two three p.dir → DropsInDrafts content told.read.geometry three four i → Drawn rmdir content told moment p four
drawn_here None told moment p i one two three four ok room found takes times loses drops tree cred path hand held after = tt
drawn_here (Some image) told moment p i one two three four ok room found takes times loses drops tree cred path hand held after = λ may go.
    let taken = told.changing.is_taken in
    let out = takes taken held (begun told image tree cred (Rmdir path) p held after hand may ok room) in
    let timed = times taken held out.draft in
    let less = loses taken held timed.draft in
    emptied told image tree cred path (ino_of hand) moment p held after hand i may go found one two three out timed less four
    (drops taken held less.draft (as_it_was told image tree cred path (ino_of hand) moment p held after hand i may go found one two three out timed less))

pub told_emptied : (content second third fourth : Option Image) (told : AllTold) (g h k : Geometry) (moment : ℕ) (p : WalkEnd) (i : ℕ) (none one two three four : Change)
    → IsGeometry told.read.geometry → HasRoom content told.read.geometry → second ≡ content → third ≡ content → fourth ≡ content → g ≡ told.read.geometry → h ≡ told.read.geometry → k ≡ told.read.geometry
    → p.found ≡ Some i → none ≡ no_change
    → EditsDrafts content told.read.geometry none one p.dir (edited (TakeOut p.dir p.name)) → EditsDrafts second g one two p.dir (edited (SetTime p.dir moment))
    → LosesInDrafts third h two three p.dir → DropsInDrafts fourth k three four i → Drawn rmdir content told moment p four
told_emptied content second third fourth told g h k moment p i none one two three four ok room same_second same_third same_fourth alike_second alike_third alike_fourth found empty takes times loses drops =
    let real = told.read.geometry in
    drawn_here content told moment p i one two three four ok room found (subst (λ (c : Change). EditsDrafts content real c one p.dir (edited (TakeOut p.dir p.name))) empty takes)
    (edits_as content second real g one two p.dir (edited (SetTime p.dir moment)) same_second alike_second times)
    (loses_as content third real h two three p.dir same_third alike_third loses)
    (drops_as content fourth real k three four i same_fourth alike_fourth drops)
