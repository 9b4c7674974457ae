-- What a run lent is back.
use Rattle.std.proofs.Common.{◌≡◌, ◌≢◌, ◌⊎◌, inl, inr, ℕ, List, Option, Some, None, refl, sym, ◌∙◌, ap, subst}
use Rattle.std.specs.Prelude.{IsSome, is_some, option_and_then}
use Rattle.sector_disk.specs.Disk.{DiskTold}
use Rattle.host_io.specs.declared.host.AskKind.TheVariants.{TakeDisk, MakeDisk, TakeSink}
use Rattle.host_io.specs.declared.host.AskAnswer.TheVariants as answers
use Rattle.host_io.specs.Places.{Place, here, here_of}
use Rattle.host_io.specs.Outside.{Outside, Holdings, SinkTold, after_ask, with_disk, with_sink, refused_with}
use Rattle.drive_command.specs.declared.ending.DriveEnding.{DriveEnding}
use Rattle.drive_command.specs.Ending.{history_name, out_name}
use Rattle.drive_command.specs.Volume.{VolumeStops}
use Rattle.drive_command.specs.Volume as volumes
use Rattle.drive_command.specs.Drive as sessions
use Rattle.drive_command.specs.Drive.{Start, SinksRan, DriveRan, no_schedule, no_script, no_volume, opened}
use Rattle.lufs_top.specs.declared.ending.Ending.{Ending}
use Rattle.lufs_top.specs.declared.ending.Ending.TheVariants.{Drive}
use Rattle.lufs_top.specs.Words.{Command, scan, check, mkfs, drive, standard_output}
use Rattle.lufs_top.specs.Borrowed.{HasRead, not_lent, read}
use Rattle.lufs_top.specs.Mkfs.{out_of_range, no_memory, not_made, worked}
use Rattle.lufs_top.specs.Run.{Ran, Runs, no_output, ran, disk_place, sink_place, IsBackAt, IsBack}
use Rattle.lufs_top.proofs.NameTests.{no_history_is_replies}
use Rattle.lufs_top.proofs.OutsideFacts.{Keeps, keeps_both, keeps_itself, keeps_to, ask_keeps, refused_keeps, disk_keeps, sink_keeps, disk_placed, sink_placed, here_is_back, untold_is_back, back_at}
use Rattle.lufs_top.proofs.SessionKeeps.{Any, Not, read_keeps, stopped_keeps, script_keeps, sinks_keep, session_keeps}
use Rattle.lufs_top.proofs.RunClauses.{run_keeps}

-- what is kept is back
kept_back : {S : List ℕ → Type 0} (old new : Outside) → Keeps Any S Any old new → IsBack old new
kept_back old new keeps = record { disks = λ q. inl (keeps.disks q tt); sinks = λ q. inl (keeps.sinks q tt) }

back_at_both : {T : Type 0} (a b c : Option (Place T)) → IsBackAt a b → IsBackAt b c → IsBackAt a c
back_at_both a b c (inl same) (inl is) = inl (is ∙ same)
back_at_both a b c (inr some) (inl is) = inr (ap (λ (p : Option (Place _)). is_some (option_and_then here_of p)) is ∙ some)
back_at_both a b c first (inr some) = inr some

back_both : (a b c : Outside) → IsBack a b → IsBack b c → IsBack a c
back_both a b c first second = record {
  disks = λ q. back_at_both (disk_place a q) (disk_place b q) (disk_place c q) (first.disks q) (second.disks q);
  sinks = λ q. back_at_both (sink_place a q) (sink_place b q) (sink_place c q) (first.sinks q) (second.sinks q);
}

-- a disk that was given back
disk_back : (name : List ℕ) (now : DiskTold) (old mid new : Outside) → new ≡ with_disk name now mid → is_some new.holds ≡ is_some old.holds → IsBackAt (disk_place old name) (disk_place new name)
disk_back name now old mid new is tells =
    untold_is_back (λ h. h.disks name) old.holds new.holds tells
    (λ holds. here_is_back (disk_place old name) (disk_place new name) now (ap (λ (o : Outside). disk_place o name) is ∙ disk_placed name now mid (subst (λ (o : Outside). IsSome o.holds) is holds)))

placed_at : (name : List ℕ) (said : SinkTold) (mid new : Outside) → new ≡ with_sink name said mid → IsSome new.holds → sink_place new name ≡ Some (here said)
placed_at name said mid new is holds = ap (λ (o : Outside). sink_place o name) is ∙ sink_placed name said mid (subst (λ (o : Outside). IsSome o.holds) is holds)

-- a sink that was given back
sink_back : (name : List ℕ) (said : SinkTold) (old new : Outside) → is_some new.holds ≡ is_some old.holds → (IsSome new.holds → sink_place new name ≡ Some (here said))
    → IsBackAt (sink_place old name) (sink_place new name)
sink_back name said old new tells placed =
    untold_is_back (λ h. h.sinks name) old.holds new.holds tells (λ holds. here_is_back (sink_place old name) (sink_place new name) said (placed holds))

-- a disk that was lent and given back, while all else stayed
lent_disk_back : {S : List ℕ → Type 0} (name : List ℕ) (now : DiskTold) (old mid new : Outside) → new ≡ with_disk name now mid → Keeps (Not name) S Any old new → IsBack old new
lent_disk_back name now old mid new is keeps = record {
  disks = λ q. back_at (disk_place old) (disk_place new) name q (disk_back name now old mid new is keeps.tells) (λ other. inl (keeps.disks q other));
  sinks = λ q. inl (keeps.sinks q tt);
}

-- the same of a sink
lent_sink_back : {S : List ℕ → Type 0} (name : List ℕ) (said : SinkTold) (old mid new : Outside) → new ≡ with_sink name said mid → Keeps Any S (Not name) old new → IsBack old new
lent_sink_back name said old mid new is keeps = record {
  disks = λ q. inl (keeps.disks q tt);
  sinks = λ q. back_at (sink_place old) (sink_place new) name q (sink_back name said old new keeps.tells (placed_at name said mid new is)) (λ other. inl (keeps.sinks q other));
}

volume_back : (volume : List ℕ) (ending : DriveEnding) (old new : Outside) → VolumeStops volume ending old new → IsBack old new
volume_back volume ending old new (volumes.not_lent error is missing after) = kept_back {S = Any} old new (keeps_to old _ new after (refused_keeps TakeDisk volume error old))
volume_back volume ending old new (volumes.refused before now mid disk why is true_of unwritten fails back) =
    lent_disk_back {S = Any} volume now old mid new back
    (keeps_to old _ new back (keeps_both (keeps_to old _ mid disk.after (ask_keeps TakeDisk volume (Some answers.Given) old (λ q other. other))) (disk_keeps volume now mid (λ q other. other))))

-- two sinks that were lent and given back
both_back : (one two : List ℕ) (kept told : SinkTold) (old heard new : Outside) → two ≢ one → new ≡ with_sink one kept (with_sink two told heard)
    → Keeps Any Any (λ q. (q ≢ one) × (q ≢ two)) old new → IsBack old new
both_back one two kept told old heard new differ after keeps =
    let mid = with_sink two told heard in
    let last : Keeps Any Any (Not one) mid new = keeps_to mid _ new after (sink_keeps one kept mid (λ q other. other)) in
    record {
      disks = λ q. inl (keeps.disks q tt);
      sinks = λ q. back_at (sink_place old) (sink_place new) one q (sink_back one kept old new keeps.tells (placed_at one kept mid new after))
          (λ not_one. back_at (sink_place old) (sink_place new) two q
          (sink_back two told old new keeps.tells (λ holds. last.sinks two differ ∙ placed_at two told heard mid refl (sym last.tells ∙ holds)))
          (λ not_two. inl (keeps.sinks q (not_one, not_two))));
    }

sinks_back : (volume script : List ℕ) (s : Start) (ending : DriveEnding) (before now : DiskTold) (old new : Outside) → SinksRan volume script s ending before now old new → IsBack old new
sinks_back volume script s ending before now old new (sessions.no_names is disk same) = kept_back {S = Any} old new (keeps_itself old new same)
sinks_back volume script s ending before now old new (sessions.no_history error other is disk after) = kept_back {S = Any} old new (keeps_to old _ new after (refused_keeps TakeSink (history_name volume) error old))
sinks_back volume script s ending before now old new (sessions.no_replies error history noted taken other is disk after) =
    let name = history_name volume in
    let mid = after_ask TakeSink (out_name script) (refused_with error) noted in
    lent_sink_back {S = Any} name history old mid new after
    (keeps_to old _ new after (keeps_both (keeps_to old _ noted taken.after (ask_keeps TakeSink name (Some answers.Given) old (λ q different. different)))
    (keeps_both (refused_keeps TakeSink (out_name script) error noted) (sink_keeps name history mid (λ q different. different)))))
sinks_back volume script s ending before now old new (sessions.lent history kept replies told noted heard first second ends after) =
    both_back (history_name volume) (out_name script) kept told old heard new (λ same. no_history_is_replies volume script (sym same)) after
    (sinks_keep volume script s ending before now old new (sessions.lent history kept replies told noted heard first second ends after))

session_back : (volume schedule script : List ℕ) (ending : DriveEnding) (old new : Outside) → DriveRan volume schedule script ending old new → IsBack old new
session_back volume schedule script ending old new (no_schedule stops) = kept_back old new (stopped_keeps schedule _ ending old new stops)
session_back volume schedule script ending old new (no_script turns planned first stops) =
    back_both old planned new (kept_back old planned (read_keeps schedule _ turns old planned first)) (kept_back planned new (script_keeps script ending planned new stops))
session_back volume schedule script ending old new (no_volume turns text planned mid first second stops) =
    back_both old planned new (kept_back old planned (read_keeps schedule _ turns old planned first))
    (back_both planned mid new (kept_back planned mid (read_keeps script _ text planned mid second.source)) (volume_back volume ending mid new stops))
session_back volume schedule script ending old new (opened s before now after at left has went back) =
    let keeps = session_keeps volume schedule script ending old new (opened s before now after at left has went back) in
    let one = read_keeps schedule _ s.schedule old has.planned has.schedule_read in
    let two = read_keeps script _ s.script has.planned has.read has.script_read.source in
    let three : Keeps (Not volume) Any Any has.read at = keeps_to has.read _ at has.disk_lent.after (ask_keeps TakeDisk volume (Some answers.Given) has.read (λ q other. other)) in
    let four : Keeps (Not volume) Any Any left new = keeps_to left _ new back (disk_keeps volume after left (λ q other. other)) in
    let sinks = sinks_back volume script s ending now after at left went in
    record {
      disks = λ q. back_at (disk_place old) (disk_place new) volume q (disk_back volume after old left new back keeps.tells)
          (λ other. inl (keeps.disks q (λ same. other (some_same volume q same))));
      sinks = λ q. back_at_both (sink_place old q) (sink_place left q) (sink_place new q)
          (back_at_both (sink_place old q) (sink_place at q) (sink_place left q) (inl (three.sinks q tt ∙ two.sinks q tt ∙ one.sinks q tt)) (sinks.sinks q)) (inl (four.sinks q tt));
    }
  where
    some_same : (a q : List ℕ) → Some a ≡ Some q → q ≡ a
    some_same a q same = cc (same)

reading_back : (volume : List ℕ) (IsEnding : DiskTold → Ending → Type 0) (ending : Ending) (old new : Outside) → HasRead volume IsEnding ending old new → IsBack old new
reading_back volume IsEnding ending old new (not_lent error is lent) = kept_back {S = Any} old new (keeps_to old _ new lent.after (refused_keeps TakeDisk volume error old))
reading_back volume IsEnding ending old new (read before now lent unwritten fails is) =
    let mid = after_ask TakeDisk volume (Some answers.Given) old in
    lent_disk_back {S = Any} volume now old mid new lent.back
    (keeps_to old _ new lent.back (keeps_both (ask_keeps TakeDisk volume (Some answers.Given) old (λ q other. other)) (disk_keeps volume now mid (λ q other. other))))

command_back : (command : Option Command) (ending : Ending) (old new : Outside) → Ran command ending old new → IsBack old new
command_back None ending old new went = kept_back {S = Any} old new (keeps_itself old new went.1)
command_back (Some (scan volume)) ending old new went = reading_back volume _ ending old new went
command_back (Some (check volume)) ending old new went = reading_back volume _ ending old new went
command_back (Some (mkfs volume numbers)) ending old new (out_of_range bad range is same) = kept_back {S = Any} old new (keeps_itself old new same)
command_back (Some (mkfs volume numbers)) ending old new (no_memory range is same) = kept_back {S = Any} old new (keeps_itself old new same)
command_back (Some (mkfs volume numbers)) ending old new (not_made error range is made) = kept_back {S = Any} old new (keeps_to old _ new made.after (refused_keeps MakeDisk volume error old))
command_back (Some (mkfs volume numbers)) ending old new (worked moment told small range before now made crash fails is) =
    let mid = after_ask MakeDisk volume (Some answers.Given) old in
    lent_disk_back {S = Any} volume now old mid new made.back
    (keeps_to old _ new made.back (keeps_both (ask_keeps MakeDisk volume (Some answers.Given) old (λ q other. other)) (disk_keeps volume now mid (λ q other. other))))
command_back (Some (drive volume schedule script)) (Drive ended) old new went = session_back volume schedule script ended old new went
command_back (Some (drive volume schedule script)) ending old new went = absurd went

pub run_back : (command : Option Command) (status : ℕ) (old new : Outside) → Runs command status old new → IsBack old new
run_back command status old new (no_output error not_missing is after) = kept_back {S = Any} old new (keeps_to old _ new after (refused_keeps TakeSink standard_output error old))
run_back command status old new (ran ending out said done went empty says back) =
    let lent = after_ask TakeSink standard_output (Some answers.Given) old in
    let first : Keeps Any Any (Not standard_output) old lent = ask_keeps TakeSink standard_output (Some answers.Given) old (λ q other. other) in
    let last : Keeps Any Any (Not standard_output) done new = keeps_to done _ new back (sink_keeps standard_output said done (λ q other. other)) in
    let whole = command_back command ending lent done went in
    let tells = (run_keeps command status old new (ran ending out said done went empty says back)).tells in
    record {
      disks = λ q. back_at_both (disk_place old q) (disk_place done q) (disk_place new q) (back_at_both (disk_place old q) (disk_place lent q) (disk_place done q) (inl (first.disks q tt)) (whole.disks q)) (inl (last.disks q tt));
      sinks = λ q. back_at (sink_place old) (sink_place new) standard_output q (sink_back standard_output said old new tells (placed_at standard_output said done new back))
          (λ other. back_at_both (sink_place old q) (sink_place done q) (sink_place new q)
          (back_at_both (sink_place old q) (sink_place lent q) (sink_place done q) (inl (first.sinks q other)) (whole.sinks q)) (inl (last.sinks q other)));
    }
