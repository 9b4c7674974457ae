-- What each command leaves as it was.
use Rattle.std.proofs.Common.{◌≡◌, ◌≢◌, ◌<◌, ℕ, List, [], ◌∷◌, Option, Some, None, refl, sym, ◌∙◌, ap, subst, arith}
use Rattle.std.specs.Prelude.{Contains, option_map}
use Rattle.std.specs.Option.{ForSome}
use Rattle.sector_disk.specs.Disk.{DiskTold}
use Rattle.host_io.specs.declared.host.AskKind.TheVariants.{TakeDisk, MakeDisk, TakeSink}
use Rattle.host_io.specs.declared.host.AskAnswer.TheVariants as answers
use Rattle.host_io.specs.Outside.{Outside, Holdings, after_ask, with_disk, with_loan, refused_with, IsLentSink}
use Rattle.host_io.specs.Places.{lent as lent_place}
use Rattle.host_io.proofs.NamedLemmas.{with_place-name}
use Rattle.lufs_top.specs.declared.ending.Ending.{Ending}
use Rattle.lufs_top.specs.declared.ending.Ending.TheVariants.{Drive}
use Rattle.lufs_top.specs.Words.{Command, scan, check, mkfs, drive, standard_output}
use Rattle.lufs_top.specs.Borrowed.{HasRead, not_lent, read}
use Rattle.lufs_top.specs.Mkfs.{MkfsRan, out_of_range, no_memory, not_made, worked}
use Rattle.lufs_top.specs.Run.{Ran, named_by, sink_place}
use Rattle.drive_command.specs.Ending.{history_name, out_name}
use Rattle.lufs_top.proofs.NameTests.{no_history_is_output, no_replies_are_output}
use Rattle.lufs_top.proofs.OutsideFacts.{Keeps, keeps_both, keeps_itself, keeps_to, ask_keeps, disk_keeps}
use Rattle.lufs_top.proofs.SessionKeeps.{session_keeps}

-- a disk, a source and a sink that the command doesn't use
abbrev pub SparesDisk : Option Command → List ℕ → Type 0
SparesDisk command q = (named_by command).disk ≢ Some q

abbrev pub SparesSource : Option Command → List ℕ → Type 0
SparesSource command q = ¬ Contains (named_by command).sources q

abbrev pub SparesSink : Option Command → List ℕ → Type 0
SparesSink (Some (drive volume schedule script)) q = (q ≢ history_name volume) × (q ≢ out_name script)
SparesSink command q = Unit {0}

pub other_than : (volume q : List ℕ) → Some volume ≢ Some q → q ≢ volume
other_than volume q other same = other (ap (λ (n : List ℕ). Some n) (sym same))

pub reading_keeps : {S K : List ℕ → Type 0} (volume : List ℕ) (IsEnding : DiskTold → Ending → Type 0) (ending : Ending) (old new : Outside) → HasRead volume IsEnding ending old new
    → Keeps (λ q. Some volume ≢ Some q) S K old new
reading_keeps volume IsEnding ending old new (not_lent error is lent) = keeps_to old _ new lent.after (ask_keeps TakeDisk volume (refused_with error) old (other_than volume))
reading_keeps volume IsEnding ending old new (read before now lent unwritten fails is) =
    keeps_to old _ new lent.back (keeps_both (ask_keeps TakeDisk volume (Some answers.Given) old (other_than volume)) (disk_keeps volume now _ (other_than volume)))

command_keeps_at : (command : Command) (ending : Ending) (old new : Outside) → Ran (Some command) ending old new
    → Keeps (SparesDisk (Some command)) (SparesSource (Some command)) (SparesSink (Some command)) old new
command_keeps_at (scan volume) ending old new went = reading_keeps volume _ ending old new went
command_keeps_at (check volume) ending old new went = reading_keeps volume _ ending old new went
command_keeps_at (mkfs volume numbers) ending old new (out_of_range bad range is same) = keeps_itself old new same
command_keeps_at (mkfs volume numbers) ending old new (no_memory range is same) = keeps_itself old new same
command_keeps_at (mkfs volume numbers) ending old new (not_made error range is made) = keeps_to old _ new made.after (ask_keeps MakeDisk volume (refused_with error) old (other_than volume))
command_keeps_at (mkfs volume numbers) ending old new (worked moment told small range before now made crash fails is) =
    keeps_to old _ new made.back (keeps_both (ask_keeps MakeDisk volume (Some answers.Given) old (other_than volume)) (disk_keeps volume now _ (other_than volume)))
command_keeps_at (drive volume schedule script) (Drive ended) old new went = session_keeps volume schedule script ended old new went
command_keeps_at (drive volume schedule script) ending old new went = absurd went

pub command_keeps : (command : Option Command) (ending : Ending) (old new : Outside) → Ran command ending old new → Keeps (SparesDisk command) (SparesSource command) (SparesSink command) old new
command_keeps None ending old new went = keeps_itself old new went.1
command_keeps (Some command) ending old new went = command_keeps_at command ending old new went

-- no command takes standard output
pub output_spared : (command : Option Command) → SparesSink command standard_output
output_spared None = tt
output_spared (Some (scan volume)) = tt
output_spared (Some (check volume)) = tt
output_spared (Some (mkfs volume numbers)) = tt
output_spared (Some (drive volume schedule script)) = (no_history_is_output volume, no_replies_are_output script)

same_lent : (name : List ℕ) (old new : Option Holdings) → option_map (λ (h : Holdings). h.sinks name) new ≡ option_map (λ (h : Holdings). h.sinks name) old
    → ForSome old (IsLentSink name) → (h : Holdings) → new ≡ Some h → IsLentSink name h
same_lent name None new same lent h is = absurd (cc (same, ap (option_map (λ (h : Holdings). h.sinks name)) is))
same_lent name (Some k) new same lent h is =
    let place : h.sinks name ≡ k.sinks name = cc (same, ap (option_map (λ (h : Holdings). h.sinks name)) is) in
    place ∙ lent k refl

-- standard output, lent before a command, is lent after it
pub still_lent : (command : Option Command) (ending : Ending) (old new : Outside) → Ran command ending old new
    → ForSome old.holds (IsLentSink standard_output) → ForSome new.holds (IsLentSink standard_output)
still_lent command ending old new went lent =
    same_lent standard_output old.holds new.holds ((command_keeps command ending old new went).sinks standard_output (output_spared command)) lent

-- a sink that was taken is lent
pub taken_is_lent : (name : List ℕ) (old new : Outside) → new ≡ after_ask TakeSink name (Some answers.Given) old → ForSome new.holds (IsLentSink name)
taken_is_lent name old new is h held =
    of_holdings old.holds (sym (ap (λ (o : Outside). o.holds) is) ∙ held)
  where
    of_holdings : (holds : Option Holdings) → option_map (with_loan TakeSink name) holds ≡ Some h → IsLentSink name h
    of_holdings None at = absurd (cc (at))
    of_holdings (Some k) at =
        let same : with_loan TakeSink name k ≡ h = cc (at) in
        ap (λ (x : Holdings). x.sinks name) (sym same) ∙ with_place-name k.sinks name lent_place
