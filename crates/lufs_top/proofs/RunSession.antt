-- What the status of a session says, from how it ran.
use Rattle.std.proofs.Common.{◌≡◌, ◌≢◌, ◌<◌, ◌⊎◌, inl, inr, ℕ, ◌+◌, Bool, true, false, List, [], ◌∷◌, ◌++◌, Option, Some, None, refl, sym, ◌∙◌, ap, subst, arith}
use Rattle.std.specs.Prelude.{IsSome, is_some, IfSome, IsSomeAnd, length, map, take, option_map, option_and_then, bytes_eq, Result, Ok, Err, OnOk}
use Rattle.std.specs.Bool.{MatchBool}
use Rattle.std.proofs.lemmas.Bool.Decides.{when_false}
use Rattle.std.proofs.lemmas.Slice.Eq.{bytes_eq-Decides}
use Rattle.lufs_base.specs.declared.errors.DiskFault.{DiskFault}
use Rattle.lufs_base.specs.declared.geometry.Geometry.{Geometry}
use Rattle.tree_types.specs.declared.history.Entry.{Entry}
use Rattle.volume_model.specs.declared.finding.Kind.{Kind}
use Rattle.volume_model.specs.declared.finding.Verdict.TheVariants.{Finding}
use Rattle.volume_model.specs.declared.log.Header.{Header}
use Rattle.volume_model.specs.Format.{Image, block, geometry_of}
use Rattle.volume_model.specs.Sound.{StandsFor}
use Rattle.volume_model.specs.Texts.{verdict_of_image}
use Rattle.history_model.specs.Lines.{lines_of}
use Rattle.history_model.specs.Histories.{Legal, AreOfFirstLines, replayed_on}
use Rattle.history_model.specs.HistoryText.{history_text_of, session_text_of}
use Rattle.sector_disk.specs.Disk.{DiskTold}
use Rattle.host_io.specs.declared.host.AskKind.TheVariants.{TakeDisk, TakeSource, TakeSink}
use Rattle.host_io.specs.declared.host.AskAnswer.TheVariants as answers
use Rattle.host_io.specs.declared.host.HostError.{HostError}
use Rattle.host_io.specs.declared.host.HostError.TheVariants as hosts
use Rattle.host_io.specs.declared.whole.ReadError.{ReadError}
use Rattle.host_io.specs.declared.whole.ReadError.TheVariants as reads
use Rattle.host_io.specs.Source.{SourceTold}
use Rattle.host_io.specs.Outside.{Outside, Holdings, SinkTold, disk_of, source_of, sink_of, after_ask, with_disk, with_sink, refused_with, empty_sink}
use Rattle.script_text.specs.declared.script.LinesError.{LinesError}
use Rattle.script_text.specs.declared.script.LinesError.TheVariants as parts
use Rattle.plain_session.specs.ServedLines.{served_line, turns_in, entered_in, told_in}
use Rattle.plain_session.specs.Sessions.{HasToldAll, HasLostReply, told_texts, AreFirstTold, AreAnswered}
use Rattle.drive_command.specs.declared.ending.DriveEnding.{DriveEnding}
use Rattle.drive_command.specs.declared.ending.DriveEnding.TheVariants as ends
use Rattle.drive_command.specs.declared.mount.MountError.{MountError}
use Rattle.drive_command.specs.declared.mount.MountError.TheVariants as refusals
use Rattle.drive_command.specs.declared.session.Kept.{Kept}
use Rattle.drive_command.specs.declared.session.Kept.TheVariants as kepts
use Rattle.drive_command.specs.Ending.{history_name, out_name, drive_status, drive_text}
use Rattle.drive_command.specs.Sources.{SourceStops, ScriptStops, IsSourceRead, IsSourceLent, IsSourceRefusal, IsUnread, IsUnparted, not_lent, unread, no_source, no_lines}
use Rattle.drive_command.specs.Volume.{VolumeStops, IsDiskLent, IsDiskRefusal, IsRefusalOf, TellsRefusal, IsMountOf, opening_of, last_epoch}
use Rattle.drive_command.specs.Volume as volumes
use Rattle.drive_command.specs.Sessions.{EndsAs, KeepsHistory, history_of}
use Rattle.drive_command.specs.Drive.{Start, SinksRan, SessionEnds, SessionRan, IsSinkLent, IsSinkRefusal, HasOpened, not_begun, ran, no_names, no_history, no_replies, lent, DriveRan, no_schedule, no_script, no_volume, opened}
use Rattle.lufs_top.specs.declared.ending.Ending.{Ending}
use Rattle.lufs_top.specs.declared.ending.Ending.TheVariants.{Drive}
use Rattle.lufs_top.specs.Words.{Command, scan, check, mkfs, drive, standard_output}
use Rattle.lufs_top.specs.Ending.{status_of, text_of}
use Rattle.lufs_top.specs.Run as runs
use Rattle.lufs_top.specs.Run.{Runs, Says, whole, cut, status_if_cut, status_without_output, sink_place, disk_place}
use Rattle.lufs_top.specs.Session.{Session, Inputs, IsSessionOn, ReachesAll, HasDone, HasLeft, WroteNothing, IsSpent, HasBadLog, IsSessionStatus, TellsSession, image_of, bytes_of, text_of_sink, history_text, tree_at_end}
use Rattle.lufs_top.proofs.NameTests.{no_history_is_output, no_replies_are_output}
use Rattle.lufs_top.proofs.StatusTests.{of_status, cut_cases, cut_is}
use Rattle.lufs_top.proofs.OutsideFacts.{Keeps, keeps_both, keeps_to, ask_keeps, refused_keeps, disk_keeps, sink_keeps, same_disk, same_source, same_sink, disk_there, sink_there}
use Rattle.lufs_top.proofs.SessionKeeps.{Any, Not, read_keeps, stopped_keeps, script_keeps, volume_keeps, sinks_keep, session_keeps}
use Rattle.std.proofs.lemmas.List.{append-nil}
use Rattle.std.proofs.Math.Seq.{take-length}
use Rattle.tree_types.specs.declared.call.Line.{Line}
use Rattle.history_model.specs.ReplyText.{reply_text_of}
use Rattle.lufs_top.proofs.SessionCauses.{both_here, still_there}
use Rattle.lufs_top.proofs.OutsideFacts.{tells_of_disk}

-- The endings of a session that found nothing out about its volume.
abbrev IsEarly : DriveEnding → Type 0
IsEarly (ends.Missing at) = Unit {0}
IsEarly (ends.ReadFault at) = Unit {0}
IsEarly (ends.OverLimit at most) = Unit {0}
IsEarly (ends.DiskFault at) = Unit {0}
IsEarly ends.NoMemory = Unit {0}
IsEarly ending = ⊥

-- those of a session that had its volume
abbrev IsLate : DriveEnding → Type 0
IsLate (ends.DiskFault at) = Unit {0}
IsLate (ends.ReplyFault at) = Unit {0}
IsLate ends.NoMemory = Unit {0}
IsLate (ends.Driven text starved) = Unit {0}
IsLate ending = ⊥

-- what a status says of an image
record SaysOf (image : Image) (own : ℕ) : Type 0 where
  not_done : own ≢ 0
  not_volume : own ≡ 6 → geometry_of image ≡ None
  unsound : own ≡ 7 → (kind : Kind) × (number : ℕ) × (verdict_of_image image ≡ Some (Finding kind number))
  spent : own ≡ 8 → IsSpent image
  bad_log : own ≡ 11 → HasBadLog image

early_says : (image : Image) (ending : DriveEnding) → IsEarly ending → SaysOf image (drive_status ending)
early_says image (ends.Missing at) is = record { not_done = λ is. omega (arith, is); not_volume = λ is. absurd (omega (arith, is)); unsound = λ is. absurd (omega (arith, is)); spent = λ is. absurd (omega (arith, is)); bad_log = λ is. absurd (omega (arith, is)) }
early_says image (ends.ReadFault at) is = record { not_done = λ is. omega (arith, is); not_volume = λ is. absurd (omega (arith, is)); unsound = λ is. absurd (omega (arith, is)); spent = λ is. absurd (omega (arith, is)); bad_log = λ is. absurd (omega (arith, is)) }
early_says image (ends.OverLimit at most) is = record { not_done = λ is. omega (arith, is); not_volume = λ is. absurd (omega (arith, is)); unsound = λ is. absurd (omega (arith, is)); spent = λ is. absurd (omega (arith, is)); bad_log = λ is. absurd (omega (arith, is)) }
early_says image (ends.DiskFault at) is = record { not_done = λ is. omega (arith, is); not_volume = λ is. absurd (omega (arith, is)); unsound = λ is. absurd (omega (arith, is)); spent = λ is. absurd (omega (arith, is)); bad_log = λ is. absurd (omega (arith, is)) }
early_says image ends.NoMemory is = record { not_done = λ is. omega (arith, is); not_volume = λ is. absurd (omega (arith, is)); unsound = λ is. absurd (omega (arith, is)); spent = λ is. absurd (omega (arith, is)); bad_log = λ is. absurd (omega (arith, is)) }
early_says image ending is = absurd is

source_refusal_early : (error : HostError) (name : List ℕ) (ending : DriveEnding) → IsSourceRefusal error name ending → IsEarly ending
source_refusal_early hosts.Missing name (ends.Missing at) is = tt
source_refusal_early hosts.Failed name (ends.ReadFault at) is = tt
source_refusal_early hosts.Mem name ends.NoMemory is = tt
source_refusal_early error name ending is = absurd is

unread_early : (error : ReadError) (name : List ℕ) (limit : ℕ) (ending : DriveEnding) → IsUnread error name limit ending → IsEarly ending
unread_early reads.Fault name limit (ends.ReadFault at) is = tt
unread_early reads.TooLong name limit (ends.OverLimit at most) is = tt
unread_early reads.Mem name limit ends.NoMemory is = tt
unread_early error name limit ending is = absurd is

unparted_early : (error : LinesError) (name : List ℕ) (ending : DriveEnding) → IsUnparted error name ending → IsEarly ending
unparted_early parts.TooMany name (ends.OverLimit at most) is = tt
unparted_early parts.Mem name ends.NoMemory is = tt
unparted_early error name ending is = absurd is

disk_refusal_early : (error : HostError) (name : List ℕ) (ending : DriveEnding) → IsDiskRefusal error name ending → IsEarly ending
disk_refusal_early hosts.Missing name (ends.Missing at) is = tt
disk_refusal_early hosts.Failed name (ends.DiskFault at) is = tt
disk_refusal_early hosts.Mem name ends.NoMemory is = tt
disk_refusal_early error name ending is = absurd is

stopped_early : (name : List ℕ) (limit : ℕ) (ending : DriveEnding) (old new : Outside) → SourceStops name limit ending old new → IsEarly ending
stopped_early name limit ending old new (not_lent error is missing after) = source_refusal_early error name ending is
stopped_early name limit ending old new (unread error before now is source all) = unread_early error name limit ending is

script_early : (name : List ℕ) (ending : DriveEnding) (old new : Outside) → ScriptStops name ending old new → IsEarly ending
script_early name ending old new (no_source stops) = stopped_early name _ ending old new stops
script_early name ending old new (no_lines text error read is many) = unparted_early error name ending is

-- what a refusal tells of the image
refusal_says : (why : MountError) (volume : List ℕ) (ending : DriveEnding) → TellsRefusal why volume ending → (image : Image) → IsRefusalOf image why → SaysOf image (drive_status ending)
refusal_says refusals.NotVolume volume (ends.NotVolume at) tells image is = record { not_done = λ is. omega (arith, is); not_volume = λ _. is; unsound = λ is. absurd (omega (arith, is)); spent = λ is. absurd (omega (arith, is)); bad_log = λ is. absurd (omega (arith, is)) }
refusal_says refusals.BadHeader volume ends.BadHeader tells image is = record { not_done = λ is. omega (arith, is); not_volume = λ is. absurd (omega (arith, is)); unsound = λ is. absurd (omega (arith, is)); spent = λ is. absurd (omega (arith, is)); bad_log = λ _. (is.0, is.1, inl is.2) }
refusal_says refusals.EpochSpent volume (ends.EpochSpent at) tells image is = record { not_done = λ is. omega (arith, is); not_volume = λ is. absurd (omega (arith, is)); unsound = λ is. absurd (omega (arith, is)); spent = λ _. (is.0, is.1, is.2, is.3.geometry, is.3.log, is.4); bad_log = λ is. absurd (omega (arith, is)) }
refusal_says (refusals.BadLog tid place) volume (ends.BadLog tid_told place_told) tells image is = record { not_done = λ is. omega (arith, is); not_volume = λ is. absurd (omega (arith, is)); unsound = λ is. absurd (omega (arith, is)); spent = λ is. absurd (omega (arith, is)); bad_log = λ _. (is.0, is.2.geometry, inr (is.1, tid, place, is.2.log)) }
refusal_says (refusals.Unsound kind number) volume (ends.Unsound kind_told number_told) tells image is = record { not_done = λ is. omega (arith, is); not_volume = λ is. absurd (omega (arith, is)); unsound = λ _. (kind, number, is.5); spent = λ is. absurd (omega (arith, is)); bad_log = λ is. absurd (omega (arith, is)) }
refusal_says refusals.Disk volume (ends.DiskFault at) tells image is = early_says image (ends.DiskFault at) tt
refusal_says refusals.Mem volume ends.NoMemory tells image is = early_says image ends.NoMemory tt
refusal_says why volume ending tells image is = absurd tells

sink_refusal_late : (error : HostError) (name : List ℕ) (ending : DriveEnding) → IsSinkRefusal error name ending → IsLate ending
sink_refusal_late hosts.Missing name (ends.ReplyFault at) is = tt
sink_refusal_late hosts.Failed name (ends.ReplyFault at) is = tt
sink_refusal_late hosts.Mem name ends.NoMemory is = tt
sink_refusal_late error name ending is = absurd is

end_late : (volume script : List ℕ) (written : Result (Unit {0}) DiskFault) (deaf : Bool) (kept : Kept) (count : ℕ) (entries : List Entry) (ending : DriveEnding)
    → EndsAs volume script written deaf kept count entries ending → IsLate ending
end_late volume script (Err fault) deaf kept count entries (ends.DiskFault at) is = tt
end_late volume script (Ok done) true kept count entries (ends.ReplyFault at) is = tt
end_late volume script (Ok done) false kepts.Cut count entries (ends.ReplyFault at) is = tt
end_late volume script (Ok done) false kepts.Whole count entries (ends.Driven text starved) is = tt
end_late volume script (Ok done) false kepts.Whole count entries ends.NoMemory is = tt
end_late volume script (Ok done) false kepts.Lacking count entries (ends.Driven text starved) is = tt
end_late volume script (Ok done) false kepts.Lacking count entries ends.NoMemory is = tt
end_late volume script written deaf kept count entries ending is = absurd is

sinks_late : (volume script : List ℕ) (s : Start) (ending : DriveEnding) (before now : DiskTold) (old new : Outside) → SinksRan volume script s ending before now old new → IsLate ending
sinks_late volume script s ending before now old new (no_names is disk same) = subst IsLate (sym is) tt
sinks_late volume script s ending before now old new (no_history error other is disk after) = sink_refusal_late error _ ending is
sinks_late volume script s ending before now old new (no_replies error history noted taken other is disk after) = sink_refusal_late error _ ending is
sinks_late volume script s ending before now old new (lent history kept replies told noted heard first second (not_begun is disk same same_replies) after) = subst IsLate (sym is) tt
sinks_late volume script s ending before now old new (lent history kept replies told noted heard first second (ran r) after) =
    end_late volume script r.written r.deaf r.kept _ r.entries ending r.end

-- a late ending has one of four statuses
late_status : (ending : DriveEnding) → IsLate ending → drive_status ending ≢ 0 → drive_status ending ≢ 4 → drive_status ending ≢ 5 → drive_status ending ≢ 12 → ⊥
late_status (ends.DiskFault at) is at_0 four five twelve = four refl
late_status (ends.ReplyFault at) is at_0 four five twelve = five refl
late_status ends.NoMemory is at_0 four five twelve = twelve refl
late_status (ends.Driven text true) is at_0 four five twelve = twelve refl
late_status (ends.Driven text false) is at_0 four five twelve = at_0 refl
late_status ending is at_0 four five twelve = is

late_not : (ending : DriveEnding) → IsLate ending → (n : ℕ) → n ≢ 0 → n ≢ 4 → n ≢ 5 → n ≢ 12 → drive_status ending ≢ n
late_not ending late n at_0 four five twelve is =
    late_status ending late (λ one. at_0 (sym is ∙ one)) (λ one. four (sym is ∙ one)) (λ one. five (sym is ∙ one)) (λ one. twelve (sym is ∙ one))

-- the ending of a session in which all was done
driven_done : (ending : DriveEnding) → drive_status ending ≡ 0 → (text : List ℕ) × (ending ≡ ends.Driven text false)
driven_done (ends.Missing at) is = absurd (omega (arith, is))
driven_done (ends.ReadFault at) is = absurd (omega (arith, is))
driven_done (ends.OverLimit at most) is = absurd (omega (arith, is))
driven_done (ends.DiskFault at) is = absurd (omega (arith, is))
driven_done (ends.NotVolume at) is = absurd (omega (arith, is))
driven_done ends.BadHeader is = absurd (omega (arith, is))
driven_done (ends.EpochSpent at) is = absurd (omega (arith, is))
driven_done (ends.BadLog tid place) is = absurd (omega (arith, is))
driven_done (ends.Unsound kind number) is = absurd (omega (arith, is))
driven_done (ends.ReplyFault at) is = absurd (omega (arith, is))
driven_done ends.NoMemory is = absurd (omega (arith, is))
driven_done (ends.Driven text true) is = absurd (omega (arith, is))
driven_done (ends.Driven text false) is = (text, refl)

-- what stands behind such an ending
record AllDone (written : Result (Unit {0}) DiskFault) (deaf : Bool) (kept : Kept) (count : ℕ) (entries : List Entry) (text : List ℕ) : Type 0 where
  written_back : written ≡ Ok tt
  heard : deaf ≡ false
  kept_whole : kept ≡ kepts.Whole
  summary : text ≡ session_text_of count (history_of entries)

unit_is : (done : Unit {0}) → done ≡ tt
unit_is done = refl

end_done : (volume script : List ℕ) (written : Result (Unit {0}) DiskFault) (deaf : Bool) (kept : Kept) (count : ℕ) (entries : List Entry) (text : List ℕ)
    → EndsAs volume script written deaf kept count entries (ends.Driven text false) → AllDone written deaf kept count entries text
end_done volume script (Err fault) deaf kept count entries text is = absurd is
end_done volume script (Ok done) true kept count entries text is = absurd is
end_done volume script (Ok done) false kepts.Cut count entries text is = absurd is
end_done volume script (Ok done) false kepts.Lacking count entries text is = absurd (cc (is.1))
end_done volume script (Ok done) false kepts.Whole count entries text is = record { written_back = refl; heard = refl; kept_whole = refl; summary = is.0 }

-- a fact of what an option holds
if_some : {X : Type 0} (P : X → Type 0) (o : Option X) → ((x : X) → o ≡ Some x → P x) → IfSome o P
if_some P None all = tt
if_some P (Some x) all = all x refl

of_some : {X : Type 0} (P : X → Type 0) (o : Option X) (x : X) → o ≡ Some x → IfSome o P → P x
of_some P o x is holds = subst (λ (p : Option _). IfSome p P) is holds

-- a part of what an option holds
held_by : {X Y : Type 0} (part : X → Option Y) (o : Option X) (y : Y) → option_and_then part o ≡ Some y → (x : X) × (o ≡ Some x) × (part x ≡ Some y)
held_by part None y is = absurd (cc (is))
held_by part (Some x) y is = (x, refl, is)

told_part : {X Y : Type 0} (part : X → Option Y) (o : Option X) (x : X) (y : Y) → o ≡ Some x → part x ≡ Some y → option_and_then part o ≡ Some y
told_part part o x y is has = ap (option_and_then part) is ∙ has

-- What is known of a session: what the host told under its names when it began.
record Known (i : Inputs) (schedule_name : List ℕ) (o : Outside) : Type 0 where
  image : image_of o i.volume ≡ Some i.image
  schedule : bytes_of o schedule_name ≡ Some i.schedule
  script : bytes_of o i.script_name ≡ Some i.script

-- the host tells what it holds
holds_of : (o : Outside) (name : List ℕ) (image : Image) → image_of o name ≡ Some image → IsSome o.holds
holds_of o name image is =
    let told = held_by (λ (d : DiskTold). d.present) (disk_of o name) image is in
    tells_of_disk o.holds o name refl (ap is_some told.1)

-- the bytes that were read are those that the host told
bytes_read : (name : List ℕ) (limit : ℕ) (bytes : List ℕ) (told : List ℕ) (old new : Outside) → IsSourceRead name limit bytes old new → IsSome old.holds → bytes_of old name ≡ Some told → bytes ≡ told
bytes_read name limit bytes told old new r holds is =
    let there = held_by (λ (k : SourceTold). k.left) (source_of old name) told is in
    let same : r.before ≡ there.0 = some_same (sym (r.lent.given holds) ∙ there.1) in
    of_some (λ left. bytes ≡ left) r.before.left told (ap (λ (k : SourceTold). k.left) same ∙ there.2) r.whole.bytes
  where
    some_same : {a b : SourceTold} → Some a ≡ Some b → a ≡ b
    some_same e = cc (e)

-- the bytes of a source that was read after another one
second_bytes : (first name : List ℕ) (limit : ℕ) (bytes before : List ℕ) (told : List ℕ) (old mid new : Outside) → IsSourceRead first limit before old mid → (most : ℕ) → IsSourceRead name most bytes mid new → IsSome old.holds
    → bytes_of old name ≡ Some told → bytes ≡ told
second_bytes first name limit bytes before told old mid new one most two holds is =
    let tells = (read_keeps first limit before old mid one).tells ∙ holds in
    let was = still_there first name one.before two.before old mid one.lent holds (two.lent.given tells) in
    let there = held_by (λ (k : SourceTold). k.left) (source_of old name) told is in
    let same : two.before ≡ there.0 = some_same (sym was ∙ there.1) in
    of_some (λ left. bytes ≡ left) two.before.left told (ap (λ (k : SourceTold). k.left) same ∙ there.2) two.whole.bytes
  where
    some_same : {a b : SourceTold} → Some a ≡ Some b → a ≡ b
    some_same e = cc (e)

-- the disk that was lent is the one that was told
image_lent : (volume : List ℕ) (before : DiskTold) (image : Image) (o new : Outside) → IsDiskLent volume before o new → IsSome o.holds → image_of o volume ≡ Some image → before.present ≡ Some image
image_lent volume before image o new borrowed holds is =
    let there = held_by (λ (d : DiskTold). d.present) (disk_of o volume) image is in
    let same : before ≡ there.0 = some_same (sym (borrowed.given holds) ∙ there.1) in
    ap (λ (d : DiskTold). d.present) same ∙ there.2
  where
    some_same : {a b : DiskTold} → Some a ≡ Some b → a ≡ b
    some_same e = cc (e)

same_image : (old new : Outside) (name : List ℕ) → disk_place new name ≡ disk_place old name → image_of new name ≡ image_of old name
same_image old new name same = ap (option_and_then (λ (d : DiskTold). d.present)) (same_disk old new name same)

-- nothing was written before the sinks of a session were asked for
nothing_kept : {S : List ℕ → Type 0} (i : Inputs) (old new : Outside) → Keeps Any S Any old new → WroteNothing i old new
nothing_kept i old new keeps = record {
  volume = same_image old new i.volume (keeps.disks i.volume tt);
  history = keeps.sinks (history_name i.volume) tt;
  replies = keeps.sinks (out_name i.script_name) tt;
}

nothing_both : (i : Inputs) (a b c : Outside) → WroteNothing i a b → WroteNothing i b c → WroteNothing i a c
nothing_both i a b c first second = record { volume = second.volume ∙ first.volume; history = second.history ∙ first.history; replies = second.replies ∙ first.replies }

-- a volume that was refused was not written
volume_nothing : (i : Inputs) (ending : DriveEnding) (old new : Outside) → VolumeStops i.volume ending old new → (image : Image) → image_of old i.volume ≡ Some image → WroteNothing i old new
volume_nothing i ending old new (volumes.not_lent error is missing after) image told =
    nothing_kept {S = Any} i old new (keeps_to old _ new after (refused_keeps TakeDisk i.volume error old))
volume_nothing i ending old new (volumes.refused before now mid disk why is true_of unwritten fails back) image told =
    let holds = holds_of old i.volume image told in
    let keeps = volume_keeps i.volume ending old new (volumes.refused before now mid disk why is true_of unwritten fails back) in
    record {
      volume = told_part (λ (d : DiskTold). d.present) (disk_of new i.volume) now image (disk_there i.volume now mid new back (keeps.tells ∙ holds))
          (unwritten.content ∙ image_lent i.volume before image old mid disk holds told) ∙ sym told;
      history = keeps.sinks (history_name i.volume) tt;
      replies = keeps.sinks (out_name i.script_name) tt;
    }

-- what came of a volume that was refused
volume_says : (i : Inputs) (ending : DriveEnding) (old new : Outside) → VolumeStops i.volume ending old new → image_of old i.volume ≡ Some i.image → SaysOf i.image (drive_status ending)
volume_says i ending old new (volumes.not_lent error is missing after) told = early_says i.image ending (disk_refusal_early error i.volume ending is)
volume_says i ending old new (volumes.refused before now mid disk why is true_of unwritten fails back) told =
    let holds = holds_of old i.volume i.image told in
    refusal_says why i.volume ending is i.image (of_some (λ image. IsRefusalOf image why) before.present i.image (image_lent i.volume before i.image old mid disk holds told) true_of)

-- What the ending of a session says, and what was done by then.
record Tells (i : Inputs) (ending : DriveEnding) (old new : Outside) : Type 0 where
  says : drive_status ending ≢ 0 → SaysOf i.image (drive_status ending)
  nothing : drive_status ending ≢ 0 → drive_status ending ≢ 4 → drive_status ending ≢ 5 → drive_status ending ≢ 12 → WroteNothing i old new

stops_tell : (i : Inputs) (ending : DriveEnding) (old new : Outside) → SaysOf i.image (drive_status ending) → WroteNothing i old new → Tells i ending old new
stops_tell i ending old new says nothing = record { says = λ _. says; nothing = λ at_0 four five twelve. nothing }

late_says : (image : Image) (ending : DriveEnding) → IsLate ending → drive_status ending ≢ 0 → SaysOf image (drive_status ending)
late_says image ending late other = record {
  not_done = other;
  not_volume = λ is. absurd (late_not ending late 6 (λ e. omega (arith, e)) (λ e. omega (arith, e)) (λ e. omega (arith, e)) (λ e. omega (arith, e)) is);
  unsound = λ is. absurd (late_not ending late 7 (λ e. omega (arith, e)) (λ e. omega (arith, e)) (λ e. omega (arith, e)) (λ e. omega (arith, e)) is);
  spent = λ is. absurd (late_not ending late 8 (λ e. omega (arith, e)) (λ e. omega (arith, e)) (λ e. omega (arith, e)) (λ e. omega (arith, e)) is);
  bad_log = λ is. absurd (late_not ending late 11 (λ e. omega (arith, e)) (λ e. omega (arith, e)) (λ e. omega (arith, e)) (λ e. omega (arith, e)) is);
}

session_tells : (i : Inputs) (schedule : List ℕ) (ending : DriveEnding) (old new : Outside) → DriveRan i.volume schedule i.script_name ending old new → image_of old i.volume ≡ Some i.image → Tells i ending old new
session_tells i schedule ending old new (no_schedule stops) told =
    stops_tell i ending old new (early_says i.image ending (stopped_early schedule _ ending old new stops)) (nothing_kept i old new (stopped_keeps schedule _ ending old new stops))
session_tells i schedule ending old new (no_script turns planned first stops) told =
    stops_tell i ending old new (early_says i.image ending (script_early i.script_name ending planned new stops))
    (nothing_both i old planned new (nothing_kept i old planned (read_keeps schedule _ turns old planned first)) (nothing_kept i planned new (script_keeps i.script_name ending planned new stops)))
session_tells i schedule ending old new (no_volume turns text planned mid first second stops) told =
    let one = nothing_kept i old planned (read_keeps schedule _ turns old planned first) in
    let two = nothing_kept i planned mid (read_keeps i.script_name _ text planned mid second.source) in
    let here = two.volume ∙ one.volume ∙ told in
    stops_tell i ending old new (volume_says i ending mid new stops here)
    (nothing_both i old planned new one (nothing_both i planned mid new two (volume_nothing i ending mid new stops i.image here)))
session_tells i schedule ending old new (opened s before now after at left has went back) told =
    let late = sinks_late i.volume i.script_name s ending now after at left went in
    record {
      says = late_says i.image ending late;
      nothing = λ at_0 four five twelve. absurd (late_status ending late at_0 four five twelve);
    }

-- What a session did in which nothing failed.
record DoneSo (i : Inputs) (ending : DriveEnding) (old new : Outside) : Type 0 where
  session : Session
  on : IsSessionOn i.image i.script session
  all : ReachesAll i.schedule i.script session
  replies : text_of_sink new (out_name i.script_name) ≡ Some (told_texts session.entries)
  history : text_of_sink new (history_name i.volume) ≡ Some (history_text session)
  volume : IfSome (image_of new i.volume) (λ left. StandsFor session.geometry (block left) (tree_at_end session) [])
  summary : drive_text ending ≡ session_text_of (length (lines_of i.script)) (history_of session.entries)
  moment : IfSome old.moment (λ told. session.moment ≡ told)

-- The same of what the session was lent: it began with empty sinks, and a disk with this image.
record RanDone (s : Start) (ending : DriveEnding) (now after : DiskTold) (kept told : SinkTold) (entries : List Entry) : Type 0 where
  entered : length entries ≡ entered_in (turns_in s.schedule) (map served_line (lines_of s.script))
  first_told : AreFirstTold (told_in (turns_in s.schedule) (map served_line (lines_of s.script))) entries
  replies : told.held ≡ Some (told_texts entries)
  history : kept.held ≡ Some (history_text_of (s.header.epoch + 1) s.moment 1 now.calls (history_of entries))
  summary : drive_text ending ≡ session_text_of (length (lines_of s.script)) (history_of entries)
  stands : IfSome after.present (λ left. StandsFor s.geometry (block left) (replayed_on s.geometry s.moment (opening_of s.geometry s.content) entries) [])

appended : (text : List ℕ) (old new : SinkTold) → old ≡ empty_sink → new.held ≡ option_map (λ held. held ++ text) old.held → new.held ≡ Some text
appended text old new empty is = is ∙ ap (λ (k : SinkTold). option_map (λ (held : List ℕ). held ++ text) k.held) empty

on_ok : {P : Type 0} (written : Result (Unit {0}) DiskFault) → written ≡ Ok tt → OnOk written P → P
on_ok {P = P} written is holds = subst (λ (w : Result (Unit {0}) DiskFault). OnOk w P) is holds

ran_done : (volume script : List ℕ) (s : Start) (ending : DriveEnding) (now after : DiskTold) (history kept replies told : SinkTold) (image : Image)
    → (r : SessionRan volume script s ending now after history kept replies told) → drive_status ending ≡ 0 → history ≡ empty_sink → replies ≡ empty_sink → now.present ≡ Some image
    → RanDone s ending now after kept told r.entries
ran_done volume script s ending now after history kept replies told image r at_0 no_history_yet no_reply_yet there =
    let done = driven_done ending at_0 in
    let d : AllDone r.written r.deaf r.kept (length (lines_of s.script)) r.entries done.0 =
    end_done volume script r.written r.deaf r.kept (length (lines_of s.script)) r.entries done.0
    (subst (λ (e : DriveEnding). EndsAs volume script r.written r.deaf r.kept (length (lines_of s.script)) r.entries e) done.1 r.end) in
    let all : HasToldAll (map served_line (lines_of s.script)) (turns_in s.schedule) replies told r.entries = when_false _ _ d.heard r.replies in
    let noted : KeepsHistory (history_text_of (s.header.epoch + 1) s.moment 1 now.calls (history_of r.entries)) kepts.Whole history kept =
    subst (λ (k : Kept). KeepsHistory (history_text_of (s.header.epoch + 1) s.moment 1 now.calls (history_of r.entries)) k history kept) d.kept_whole r.history in
    record {
      entered = all.entered;
      first_told = all.told;
      replies = appended (told_texts r.entries) replies told no_reply_yet (ap (λ (k : SinkTold). k.held) all.held);
      history = appended (history_text_of (s.header.epoch + 1) s.moment 1 now.calls (history_of r.entries)) history kept no_history_yet (ap (λ (k : SinkTold). k.held) noted);
      summary = ap drive_text done.1 ∙ append-nil done.0 ∙ d.summary;
      stands = of_some (λ there. IfSome after.present (λ left. StandsFor s.geometry (block left) (replayed_on s.geometry s.moment (opening_of s.geometry s.content) r.entries) [])) now.present image there
          (on_ok r.written d.written_back r.back.stands);
    }

sink_refusal_not_done : (error : HostError) (name : List ℕ) (ending : DriveEnding) → IsSinkRefusal error name ending → drive_status ending ≡ 0 → ⊥
sink_refusal_not_done hosts.Missing name (ends.ReplyFault at) is at_0 = omega (arith, at_0)
sink_refusal_not_done hosts.Failed name (ends.ReplyFault at) is at_0 = omega (arith, at_0)
sink_refusal_not_done hosts.Mem name ends.NoMemory is at_0 = omega (arith, at_0)
sink_refusal_not_done error name ending is at_0 = absurd is

none_not_done : (ending : DriveEnding) → ending ≡ ends.NoMemory → drive_status ending ≡ 0 → ⊥
none_not_done ending is at_0 = let twelve : 12 ≡ 0 = sym (ap drive_status is) ∙ at_0 in omega (arith, twelve)

-- What stands under the names when a session that did all is over, while its disk is lent.
record SinksDone (volume script : List ℕ) (s : Start) (ending : DriveEnding) (now after : DiskTold) (left : Outside) : Type 0 where
  entries : List Entry
  legal : Legal s.geometry s.moment (opening_of s.geometry s.content) entries
  answered : AreAnswered s.geometry s.moment (opening_of s.geometry s.content) entries
  lines : AreOfFirstLines 0 (map served_line (lines_of s.script)) entries
  kept : SinkTold
  told : SinkTold
  done : RanDone s ending now after kept told entries
  history : sink_of left (history_name volume) ≡ Some kept
  replies : sink_of left (out_name script) ≡ Some told

sinks_done : (volume script : List ℕ) (s : Start) (ending : DriveEnding) (now after : DiskTold) (at left : Outside) (image : Image) → SinksRan volume script s ending now after at left
    → drive_status ending ≡ 0 → now.present ≡ Some image → IsSome at.holds → SinksDone volume script s ending now after left
sinks_done volume script s ending now after at left image (no_names is disk same) at_0 there holds = absurd (none_not_done ending is at_0)
sinks_done volume script s ending now after at left image (no_history error other is disk same) at_0 there holds = absurd (sink_refusal_not_done error _ ending is at_0)
sinks_done volume script s ending now after at left image (no_replies error history noted taken other is disk same) at_0 there holds = absurd (sink_refusal_not_done error _ ending is at_0)
sinks_done volume script s ending now after at left image (lent history kept replies told noted heard first second (not_begun is disk same same_replies) back) at_0 there holds = absurd (none_not_done ending is at_0)
sinks_done volume script s ending now after at left image (lent history kept replies told noted heard first second (ran r) back) at_0 there holds =
    let one : Keeps Any Any (Not (history_name volume)) at noted = keeps_to at _ noted first.after (ask_keeps TakeSink (history_name volume) (Some answers.Given) at (λ q other. other)) in
    let keeps = sinks_keep volume script s ending now after at left (lent history kept replies told noted heard first second (ran r) back) in
    let here = both_here volume script kept told heard left back (keeps.tells ∙ holds) in
    record {
      entries = r.entries;
      legal = r.served.legal;
      answered = r.served.answered;
      lines = r.served.of_lines;
      kept = kept;
      told = told;
      done = ran_done volume script s ending now after history kept replies told image r at_0 (first.given holds) (second.given (one.tells ∙ holds)) there;
      history = here.0;
      replies = here.1;
    }

session_done : (i : Inputs) (schedule : List ℕ) (ending : DriveEnding) (old new : Outside) → DriveRan i.volume schedule i.script_name ending old new → Known i schedule old → drive_status ending ≡ 0
    → DoneSo i ending old new
session_done i schedule ending old new (no_schedule stops) known at_0 = absurd ((early_says i.image ending (stopped_early schedule _ ending old new stops)).not_done at_0)
session_done i schedule ending old new (no_script turns planned first stops) known at_0 = absurd ((early_says i.image ending (script_early i.script_name ending planned new stops)).not_done at_0)
session_done i schedule ending old new (no_volume turns text planned mid first second stops) known at_0 =
    let one = read_keeps schedule _ turns old planned first in
    let two = read_keeps i.script_name _ text planned mid second.source in
    let here = same_image planned mid i.volume (two.disks i.volume tt) ∙ same_image old planned i.volume (one.disks i.volume tt) ∙ known.image in
    absurd ((volume_says i ending mid new stops here).not_done at_0)
session_done i schedule ending old new (opened s before now after at left has went back) known at_0 =
    let holds = holds_of old i.volume i.image known.image in
    let one = read_keeps schedule _ s.schedule old has.planned has.schedule_read in
    let two = read_keeps i.script_name _ s.script has.planned has.read has.script_read.source in
    let three : Keeps (Not i.volume) Any Any has.read at = keeps_to has.read _ at has.disk_lent.after (ask_keeps TakeDisk i.volume (Some answers.Given) has.read (λ q other. other)) in
    let four : Keeps (Not i.volume) Any Any left new = keeps_to left _ new back (disk_keeps i.volume after left (λ q other. other)) in
    let here = same_image has.planned has.read i.volume (two.disks i.volume tt) ∙ same_image old has.planned i.volume (one.disks i.volume tt) ∙ known.image in
    let lent_image = image_lent i.volume before i.image has.read at has.disk_lent (two.tells ∙ one.tells ∙ holds) here in
    let m : IsMountOf s.geometry s.header s.content i.image = of_some (λ (image : Image). IsMountOf s.geometry s.header s.content image) before.present i.image lent_image has.mounted.image in
    let plan : s.schedule ≡ i.schedule = bytes_read schedule _ s.schedule i.schedule old has.planned has.schedule_read holds known.schedule in
    let text : s.script ≡ i.script = second_bytes schedule i.script_name _ s.script s.schedule i.script old has.planned has.read has.schedule_read _ has.script_read.source holds known.script in
    let d = sinks_done i.volume i.script_name s ending now after at left i.image went at_0 (has.mounted.unwritten.content ∙ lent_image) (three.tells ∙ two.tells ∙ one.tells ∙ holds) in
    let keeps = session_keeps i.volume schedule i.script_name ending old new (opened s before now after at left has went back) in
    record {
      session = record { geometry = s.geometry; header = s.header; moment = s.moment; calls = now.calls; opening = opening_of s.geometry s.content; entries = d.entries };
      on = record {
        geometry = m.log.geometry;
        log = (m.txs, m.log.log);
        epoch = has.mounted.epoch;
        opening = m.stands;
        legal = d.legal;
        answered = d.answered;
        lines = subst (λ (t : List ℕ). AreOfFirstLines 0 (map served_line (lines_of t)) d.entries) text d.lines;
      };
      all = record {
        entered = d.done.entered ∙ ap (λ (p : List ℕ). entered_in (turns_in p) (map served_line (lines_of s.script))) plan ∙ ap (λ (t : List ℕ). entered_in (turns_in i.schedule) (map served_line (lines_of t))) text;
        told = subst (λ (t : List ℕ). AreFirstTold (told_in (turns_in i.schedule) (map served_line (lines_of t))) d.entries) text
            (subst (λ (p : List ℕ). AreFirstTold (told_in (turns_in p) (map served_line (lines_of s.script))) d.entries) plan d.done.first_told);
      };
      replies = told_part (λ (k : SinkTold). k.held) (sink_of new (out_name i.script_name)) d.told _ (same_sink left new (out_name i.script_name) (four.sinks (out_name i.script_name) tt) ∙ d.replies) d.done.replies;
      history = told_part (λ (k : SinkTold). k.held) (sink_of new (history_name i.volume)) d.kept _ (same_sink left new (history_name i.volume) (four.sinks (history_name i.volume) tt) ∙ d.history) d.done.history;
      volume = subst (λ (o : Option Image). IfSome o (λ left. StandsFor s.geometry (block left) (replayed_on s.geometry s.moment (opening_of s.geometry s.content) d.entries) []))
          (sym (ap (option_and_then (λ (t : DiskTold). t.present)) (disk_there i.volume after left new back (keeps.tells ∙ holds)))) d.done.stands;
      summary = d.done.summary ∙ ap (λ (t : List ℕ). session_text_of (length (lines_of t)) (history_of d.entries)) text;
      moment = has.moment;
    }

-- What a session left that was written back.
record LeftSo (i : Inputs) (old new : Outside) : Type 0 where
  session : Session
  on : IsSessionOn i.image i.script session
  replies : IfSome (text_of_sink new (out_name i.script_name)) (λ held. (more : List ℕ) × (held ≡ told_texts session.entries ++ more))
  history : IfSome (text_of_sink new (history_name i.volume)) (λ held. (n : ℕ) × (held ≡ take n (history_text session)))
  volume : IfSome (image_of new i.volume) (λ left. StandsFor session.geometry (block left) (tree_at_end session) [])
  moment : IfSome old.moment (λ told. session.moment ≡ told)

-- The same of what the session was lent.
record RanOn (s : Start) (now after : DiskTold) (kept told : SinkTold) (entries : List Entry) : Type 0 where
  replies : (more : List ℕ) × (told.held ≡ Some (told_texts entries ++ more))
  history : (n : ℕ) × (kept.held ≡ Some (take n (history_text_of (s.header.epoch + 1) s.moment 1 now.calls (history_of entries))))
  stands : IfSome after.present (λ left. StandsFor s.geometry (block left) (replayed_on s.geometry s.moment (opening_of s.geometry s.content) entries) [])

end_written : (volume script : List ℕ) (written : Result (Unit {0}) DiskFault) (deaf : Bool) (kept : Kept) (count : ℕ) (entries : List Entry) (ending : DriveEnding)
    → EndsAs volume script written deaf kept count entries ending → drive_status ending ≢ 4 → written ≡ Ok tt
end_written volume script (Ok done) deaf kept count entries ending is other = refl
end_written volume script (Err fault) deaf kept count entries (ends.DiskFault at) is other = absurd (other refl)
end_written volume script (Err fault) deaf kept count entries ending is other = absurd is

ran_replies : (lines : List Line) (turns : ℕ) (old new : SinkTold) (entries : List Entry) (deaf : Bool) → old ≡ empty_sink
    → MatchBool deaf (HasLostReply lines turns old new entries) (HasToldAll lines turns old new entries) → (more : List ℕ) × (new.held ≡ Some (told_texts entries ++ more))
ran_replies lines turns old new entries false empty all =
    ([], appended (told_texts entries) old new empty (ap (λ (k : SinkTold). k.held) all.held) ∙ ap (λ (t : List ℕ). Some t) (sym (append-nil (told_texts entries))))
ran_replies lines turns old new entries true empty some =
    let rest = take some.bytes (reply_text_of some.last.line some.last.reply) in
    (rest, appended (told_texts entries ++ rest) old new empty (ap (λ (k : SinkTold). k.held) some.held))

ran_history : (text : List ℕ) (kept : Kept) (old new : SinkTold) → old ≡ empty_sink → KeepsHistory text kept old new → (n : ℕ) × (new.held ≡ Some (take n text))
ran_history text kepts.Whole old new empty is = (length text, appended text old new empty (ap (λ (k : SinkTold). k.held) is) ∙ ap (λ (t : List ℕ). Some t) (sym (take-length text)))
ran_history text kepts.Cut old new empty is = (is.0, appended (take is.0 text) old new empty (ap (λ (k : SinkTold). k.held) is.1))
ran_history text kepts.Lacking old new empty is = (0, ap (λ (k : SinkTold). k.held) (is ∙ empty))

ran_on : (volume script : List ℕ) (s : Start) (ending : DriveEnding) (now after : DiskTold) (history kept replies told : SinkTold) (image : Image)
    → (r : SessionRan volume script s ending now after history kept replies told) → drive_status ending ≢ 4 → history ≡ empty_sink → replies ≡ empty_sink → now.present ≡ Some image
    → RanOn s now after kept told r.entries
ran_on volume script s ending now after history kept replies told image r other no_history_yet no_reply_yet there = record {
  replies = ran_replies _ _ replies told r.entries r.deaf no_reply_yet r.replies;
  history = ran_history _ r.kept history kept no_history_yet r.history;
  stands = of_some (λ there. IfSome after.present (λ left. StandsFor s.geometry (block left) (replayed_on s.geometry s.moment (opening_of s.geometry s.content) r.entries) [])) now.present image there
      (on_ok r.written (end_written volume script r.written r.deaf r.kept _ r.entries ending r.end other) r.back.stands);
}

-- What stands under the names when a session that was written back is over, while its disk is lent.
record SinksLeft (volume script : List ℕ) (s : Start) (now after : DiskTold) (left : Outside) : Type 0 where
  entries : List Entry
  legal : Legal s.geometry s.moment (opening_of s.geometry s.content) entries
  answered : AreAnswered s.geometry s.moment (opening_of s.geometry s.content) entries
  lines : AreOfFirstLines 0 (map served_line (lines_of s.script)) entries
  kept : SinkTold
  told : SinkTold
  done : RanOn s now after kept told entries
  history : sink_of left (history_name volume) ≡ Some kept
  replies : sink_of left (out_name script) ≡ Some told

sinks_left : (volume script : List ℕ) (s : Start) (ending : DriveEnding) (now after : DiskTold) (at left : Outside) (image : Image) → SinksRan volume script s ending now after at left
    → drive_status ending ≢ 4 → now.present ≡ Some image → IsSome at.holds → (after ≡ now) ⊎ SinksLeft volume script s now after left
sinks_left volume script s ending now after at left image (no_names is disk same) other there holds = inl disk
sinks_left volume script s ending now after at left image (no_history error differs is disk same) other there holds = inl disk
sinks_left volume script s ending now after at left image (no_replies error history noted taken differs is disk same) other there holds = inl disk
sinks_left volume script s ending now after at left image (lent history kept replies told noted heard first second (not_begun is disk same same_replies) back) other there holds = inl disk
sinks_left volume script s ending now after at left image (lent history kept replies told noted heard first second (ran r) back) other there holds =
    let one : Keeps Any Any (Not (history_name volume)) at noted = keeps_to at _ noted first.after (ask_keeps TakeSink (history_name volume) (Some answers.Given) at (λ q differs. differs)) in
    let keeps = sinks_keep volume script s ending now after at left (lent history kept replies told noted heard first second (ran r) back) in
    let here = both_here volume script kept told heard left back (keeps.tells ∙ holds) in
    inr (record {
      entries = r.entries;
      legal = r.served.legal;
      answered = r.served.answered;
      lines = r.served.of_lines;
      kept = kept;
      told = told;
      done = ran_on volume script s ending now after history kept replies told image r other (first.given holds) (second.given (one.tells ∙ holds)) there;
      history = here.0;
      replies = here.1;
    })

held_is : {X Y : Type 0} (part : X → Option Y) (o : Option X) (x : X) (y : Y) (P : Y → Type 0) → o ≡ Some x → part x ≡ Some y → P y → IfSome (option_and_then part o) P
held_is part o x y P is has p = subst (λ (t : Option _). IfSome t P) (sym (told_part part o x y is has)) p

session_left : (i : Inputs) (schedule : List ℕ) (ending : DriveEnding) (old new : Outside) → DriveRan i.volume schedule i.script_name ending old new → Known i schedule old → drive_status ending ≢ 4
    → (image_of new i.volume ≡ image_of old i.volume) ⊎ LeftSo i old new
session_left i schedule ending old new (no_schedule stops) known other = inl (nothing_kept i old new (stopped_keeps schedule _ ending old new stops)).volume
session_left i schedule ending old new (no_script turns planned first stops) known other =
    inl (nothing_both i old planned new (nothing_kept i old planned (read_keeps schedule _ turns old planned first)) (nothing_kept i planned new (script_keeps i.script_name ending planned new stops))).volume
session_left i schedule ending old new (no_volume turns text planned mid first second stops) known other =
    let one = nothing_kept i old planned (read_keeps schedule _ turns old planned first) in
    let two = nothing_kept i planned mid (read_keeps i.script_name _ text planned mid second.source) in
    let here = two.volume ∙ one.volume ∙ known.image in
    inl (nothing_both i old planned new one (nothing_both i planned mid new two (volume_nothing i ending mid new stops i.image here))).volume
session_left i schedule ending old new (opened s before now after at left has went back) known other =
    let holds = holds_of old i.volume i.image known.image in
    let one = read_keeps schedule _ s.schedule old has.planned has.schedule_read in
    let two = read_keeps i.script_name _ s.script has.planned has.read has.script_read.source in
    let three : Keeps (Not i.volume) Any Any has.read at = keeps_to has.read _ at has.disk_lent.after (ask_keeps TakeDisk i.volume (Some answers.Given) has.read (λ q differs. differs)) in
    let four : Keeps (Not i.volume) Any Any left new = keeps_to left _ new back (disk_keeps i.volume after left (λ q differs. differs)) in
    let here = same_image has.planned has.read i.volume (two.disks i.volume tt) ∙ same_image old has.planned i.volume (one.disks i.volume tt) ∙ known.image in
    let lent_image = image_lent i.volume before i.image has.read at has.disk_lent (two.tells ∙ one.tells ∙ holds) here in
    let now_image = has.mounted.unwritten.content ∙ lent_image in
    let m : IsMountOf s.geometry s.header s.content i.image = of_some (λ (image : Image). IsMountOf s.geometry s.header s.content image) before.present i.image lent_image has.mounted.image in
    let text : s.script ≡ i.script = second_bytes schedule i.script_name _ s.script s.schedule i.script old has.planned has.read has.schedule_read _ has.script_read.source holds known.script in
    let keeps = session_keeps i.volume schedule i.script_name ending old new (opened s before now after at left has went back) in
    let disk = disk_there i.volume after left new back (keeps.tells ∙ holds) in
    elim (sinks_left i.volume i.script_name s ending now after at left i.image went other now_image (three.tells ∙ two.tells ∙ one.tells ∙ holds)) [
      | inl same ↦ inl (told_part (λ (t : DiskTold). t.present) (disk_of new i.volume) after i.image disk (ap (λ (t : DiskTold). t.present) same ∙ now_image) ∙ sym known.image)
      | inr d ↦ inr (record {
        session = record { geometry = s.geometry; header = s.header; moment = s.moment; calls = now.calls; opening = opening_of s.geometry s.content; entries = d.entries };
        on = record {
          geometry = m.log.geometry;
          log = (m.txs, m.log.log);
          epoch = has.mounted.epoch;
          opening = m.stands;
          legal = d.legal;
          answered = d.answered;
          lines = subst (λ (t : List ℕ). AreOfFirstLines 0 (map served_line (lines_of t)) d.entries) text d.lines;
        };
        replies = held_is (λ (k : SinkTold). k.held) (sink_of new (out_name i.script_name)) d.told _ (λ held. (more : List ℕ) × (held ≡ told_texts d.entries ++ more))
            (same_sink left new (out_name i.script_name) (four.sinks (out_name i.script_name) tt) ∙ d.replies) d.done.replies.1 (d.done.replies.0, refl);
        history = held_is (λ (k : SinkTold). k.held) (sink_of new (history_name i.volume)) d.kept _ (λ held. (n : ℕ) × (held ≡ take n (history_text_of (s.header.epoch + 1) s.moment 1 now.calls (history_of d.entries))))
            (same_sink left new (history_name i.volume) (four.sinks (history_name i.volume) tt) ∙ d.history) d.done.history.1 (d.done.history.0, refl);
        volume = subst (λ (o : Option Image). IfSome o (λ left. StandsFor s.geometry (block left) (replayed_on s.geometry s.moment (opening_of s.geometry s.content) d.entries) []))
            (sym (ap (option_and_then (λ (t : DiskTold). t.present)) disk)) d.done.stands;
        moment = has.moment;
      })
    ]

-- how the status of a run goes back to that of the session
own_zero : (ending : Ending) (status : ℕ) (out said : SinkTold) → Says ending status out said → status ≡ 0 → (status_of ending ≡ 0) × (said ≡ record out { held = option_map (λ held. held ++ text_of ending) out.held })
own_zero ending status out said (whole is put) at_0 = (sym is ∙ at_0, put)
own_zero ending status out said (cut n is put) at_0 =
    absurd (elim (cut_cases (status_of ending)) [ inl zeros ↦ let five : 5 ≡ 0 = sym zeros.1 ∙ sym is ∙ at_0 in omega (arith, five) | inr same ↦ not_cut (sym same ∙ sym is ∙ at_0) ])
  where
    not_cut : status_of ending ≡ 0 → ⊥
    not_cut own = let five : 5 ≡ 0 = sym (ap status_if_cut own) ∙ sym is ∙ at_0 in omega (arith, five)

own_other : (own status : ℕ) (ending : Ending) (out said : SinkTold) → Says ending status out said → status_of ending ≡ own → (n : ℕ) → n ≢ 5 → status ≡ n → own ≡ n
own_other own status ending out said says is n other one =
    sym is ∙ elim (of_status ending status n out said says one) [ inl same ↦ same | inr same ↦ cut_is (status_of ending) n other same ]

-- a status that none of these is
own_not : (ending : Ending) (status : ℕ) (out said : SinkTold) → Says ending status out said → (n : ℕ) → n ≢ 0 → n ≢ 5 → status ≢ n → status ≢ 5 → status_of ending ≢ n
own_not ending status out said (whole is put) n at_0 five other not_five own = other (is ∙ own)
own_not ending status out said (cut k is put) n at_0 five other not_five own =
    elim (cut_cases (status_of ending)) [ inl zeros ↦ not_five (is ∙ zeros.1) | inr same ↦ other (is ∙ same ∙ own) ]

own_not_zero : (ending : Ending) (status : ℕ) (out said : SinkTold) → Says ending status out said → status ≢ 0 → status ≢ 5 → status_of ending ≢ 0
own_not_zero ending status out said (whole is put) other not_five own = other (is ∙ own)
own_not_zero ending status out said (cut k is put) other not_five own = not_five (is ∙ ap status_if_cut own)

-- standard output, lent before a session and given back after it, is no name of a session
abbrev NotOutput : List ℕ → Type 0
NotOutput q = q ≢ standard_output

nothing_through : (i : Inputs) (old taken done new : Outside) → Keeps Any Any NotOutput old taken → Keeps Any Any NotOutput done new → WroteNothing i taken done → WroteNothing i old new
nothing_through i old taken done new first last nothing =
    let history = no_history_is_output i.volume in
    let replies = no_replies_are_output i.script_name in
    record {
      volume = same_image done new i.volume (last.disks i.volume tt) ∙ nothing.volume ∙ same_image old taken i.volume (first.disks i.volume tt);
      history = last.sinks (history_name i.volume) (λ is. history (sym is)) ∙ nothing.history ∙ first.sinks (history_name i.volume) (λ is. history (sym is));
      replies = last.sinks (out_name i.script_name) (λ is. replies (sym is)) ∙ nothing.replies ∙ first.sinks (out_name i.script_name) (λ is. replies (sym is));
    }

-- the status of a run that had no standard output tells nothing
without_says : (error : HostError) (n : ℕ) → n ≢ 5 → n ≢ 12 → status_without_output error ≡ n → ⊥
without_says hosts.Missing n five twelve is = five (sym is)
without_says hosts.Failed n five twelve is = five (sym is)
without_says hosts.Mem n five twelve is = twelve (sym is)

run_status : (i : Inputs) (schedule : List ℕ) (status : ℕ) (old new : Outside) → Runs (Some (drive i.volume schedule i.script_name)) status old new → Known i schedule old → IsSessionStatus i status old.moment old new
run_status i schedule status old new (runs.no_output error not_missing is after) known = record {
  done = λ n. absurd (without_says error 0 (λ e. omega (arith, e)) (λ e. omega (arith, e)) (sym is ∙ n));
  left = λ _. inl (nothing_kept {S = Any} i old new (keeps_to old _ new after (refused_keeps TakeSink standard_output error old))).volume;
  not_volume = λ n. absurd (without_says error 6 (λ e. omega (arith, e)) (λ e. omega (arith, e)) (sym is ∙ n));
  unsound = λ n. absurd (without_says error 7 (λ e. omega (arith, e)) (λ e. omega (arith, e)) (sym is ∙ n));
  spent = λ n. absurd (without_says error 8 (λ e. omega (arith, e)) (λ e. omega (arith, e)) (sym is ∙ n));
  bad_log = λ n. absurd (without_says error 11 (λ e. omega (arith, e)) (λ e. omega (arith, e)) (sym is ∙ n));
  nothing = λ none four five twelve. nothing_kept {S = Any} i old new (keeps_to old _ new after (refused_keeps TakeSink standard_output error old));
}
run_status i schedule status old new (runs.ran (Drive ending) out said done went empty says back) known =
    let lent_output = after_ask TakeSink standard_output (Some answers.Given) old in
    let first : Keeps Any Any NotOutput old lent_output = ask_keeps TakeSink standard_output (Some answers.Given) old (λ q other. other) in
    let last : Keeps Any Any NotOutput done new = keeps_to done _ new back (sink_keeps standard_output said done (λ q other. other)) in
    let known_lent : Known i schedule lent_output = record {
      image = same_image old lent_output i.volume (first.disks i.volume tt) ∙ known.image;
      schedule = ap (option_and_then (λ (k : SourceTold). k.left)) (same_source old lent_output schedule (first.sources schedule tt)) ∙ known.schedule;
      script = ap (option_and_then (λ (k : SourceTold). k.left)) (same_source old lent_output i.script_name (first.sources i.script_name tt)) ∙ known.script;
    } in
    let holds = holds_of old i.volume i.image known.image in
    let t = session_tells i schedule ending lent_output done went known_lent.image in
    let own : (n : ℕ) → n ≢ 5 → status ≡ n → drive_status ending ≡ n = λ n other one. own_other (drive_status ending) status (Drive ending) out said says refl n other one in
    record {
      done = λ one. all_done (session_done i schedule ending lent_output done went known_lent (own_zero (Drive ending) status out said says one).0) (own_zero (Drive ending) status out said says one).1 (empty holds) first last (sink_there standard_output said done new back (last.tells ∙ went_tells ∙ first.tells ∙ holds));
      left = λ other. left_through (session_left i schedule ending lent_output done went known_lent (no_own_4 says other)) first last;
      not_volume = λ one. let is = own 6 (λ e. omega (arith, e)) one in (t.says (λ z. omega (arith, is, z))).not_volume is;
      unsound = λ one. let is = own 7 (λ e. omega (arith, e)) one in (t.says (λ z. omega (arith, is, z))).unsound is;
      spent = λ one. let is = own 8 (λ e. omega (arith, e)) one in (t.says (λ z. omega (arith, is, z))).spent is;
      bad_log = λ one. let is = own 11 (λ e. omega (arith, e)) one in (t.says (λ z. omega (arith, is, z))).bad_log is;
      nothing = λ none four five twelve. nothing_through i old lent_output done new first last
          (t.nothing (own_not_zero (Drive ending) status out said says none five)
          (own_not (Drive ending) status out said says 4 (λ e. omega (arith, e)) (λ e. omega (arith, e)) four five)
          (no_own_5 says none five)
          (own_not (Drive ending) status out said says 12 (λ e. omega (arith, e)) (λ e. omega (arith, e)) twelve five));
    }
  where
    went_tells : is_some done.holds ≡ is_some (after_ask TakeSink standard_output (Some answers.Given) old).holds
    went_tells = (session_keeps i.volume schedule i.script_name ending (after_ask TakeSink standard_output (Some answers.Given) old) done went).tells

    no_own_4 : Says (Drive ending) status out said → status ≢ 4 → drive_status ending ≢ 4
    no_own_4 (whole is put) other own = other (is ∙ own)
    no_own_4 (cut n is put) other own = let cut_4 : status_if_cut (drive_status ending) ≡ 4 = ap status_if_cut own in other (is ∙ cut_4)

    left_through : (image_of done i.volume ≡ image_of (after_ask TakeSink standard_output (Some answers.Given) old) i.volume) ⊎ LeftSo i (after_ask TakeSink standard_output (Some answers.Given) old) done
        → Keeps Any Any NotOutput old (after_ask TakeSink standard_output (Some answers.Given) old) → Keeps Any Any NotOutput done new
        → (image_of new i.volume ≡ image_of old i.volume) ⊎ ((s : Session) × HasLeft i s new × IfSome old.moment (λ told. s.moment ≡ told))
    left_through (inl same) first last = inl (same_image done new i.volume (last.disks i.volume tt) ∙ same ∙ same_image old (after_ask TakeSink standard_output (Some answers.Given) old) i.volume (first.disks i.volume tt))
    left_through (inr d) first last = inr (
      d.session,
      record {
        on = d.on;
        replies = subst (λ (o : Option (List ℕ)). IfSome o (λ held. (more : List ℕ) × (held ≡ told_texts d.session.entries ++ more)))
            (sym (ap (option_and_then (λ (k : SinkTold). k.held)) (same_sink done new (out_name i.script_name) (last.sinks (out_name i.script_name) (λ is. no_replies_are_output i.script_name (sym is)))))) d.replies;
        history = subst (λ (o : Option (List ℕ)). IfSome o (λ held. (n : ℕ) × (held ≡ take n (history_text d.session))))
            (sym (ap (option_and_then (λ (k : SinkTold). k.held)) (same_sink done new (history_name i.volume) (last.sinks (history_name i.volume) (λ is. no_history_is_output i.volume (sym is)))))) d.history;
        volume = subst (λ (o : Option Image). IfSome o (λ left. StandsFor d.session.geometry (block left) (tree_at_end d.session) [])) (sym (same_image done new i.volume (last.disks i.volume tt))) d.volume;
      },
      d.moment,
    )

    no_own_5 : Says (Drive ending) status out said → status ≢ 0 → status ≢ 5 → drive_status ending ≢ 5
    no_own_5 (whole is put) none five own = five (is ∙ own)
    no_own_5 (cut n is put) none five own = let cut_5 : status_if_cut (drive_status ending) ≡ 5 = ap status_if_cut own in five (is ∙ cut_5)

    all_done : DoneSo i ending (after_ask TakeSink standard_output (Some answers.Given) old) done → said ≡ record out { held = option_map (λ held. held ++ drive_text ending) out.held } → out ≡ empty_sink
        → Keeps Any Any NotOutput old (after_ask TakeSink standard_output (Some answers.Given) old) → Keeps Any Any NotOutput done new → sink_of new standard_output ≡ Some said
        → (s : Session) × HasDone i s new × IfSome old.moment (λ told. s.moment ≡ told)
    all_done d put no_output_yet first last there = (
      d.session,
      record {
        on = d.on;
        all = d.all;
        replies = ap (option_and_then (λ (k : SinkTold). k.held)) (same_sink done new (out_name i.script_name) (last.sinks (out_name i.script_name) (λ is. no_replies_are_output i.script_name (sym is)))) ∙ d.replies;
        history = ap (option_and_then (λ (k : SinkTold). k.held)) (same_sink done new (history_name i.volume) (last.sinks (history_name i.volume) (λ is. no_history_is_output i.volume (sym is)))) ∙ d.history;
        output = told_part (λ (k : SinkTold). k.held) (sink_of new standard_output) said _ there
            (appended (drive_text ending) out said no_output_yet (ap (λ (k : SinkTold). k.held) put)) ∙ ap (λ (t : List ℕ). Some t) d.summary;
        volume = subst (λ (o : Option Image). IfSome o (λ left. StandsFor d.session.geometry (block left) (tree_at_end d.session) [])) (sym (same_image done new i.volume (last.disks i.volume tt))) d.volume;
      },
      d.moment,
    )
run_status i schedule status old new (runs.ran ending out said done went empty says back) known = absurd went

pub run_session : (command : Option Command) (status : ℕ) (old new : Outside) → Runs command status old new → TellsSession command status old new
run_session (Some (drive volume schedule script)) status old new r =
    if_some (λ image. IfSome (bytes_of old schedule) (λ plan. IfSome (bytes_of old script) (λ text. IsSessionStatus (record { volume = volume; script_name = script; image = image; schedule = plan; script = text }) status old.moment old new))) (image_of old volume)
    (λ image is_image. if_some (λ plan. IfSome (bytes_of old script) (λ text. IsSessionStatus (record { volume = volume; script_name = script; image = image; schedule = plan; script = text }) status old.moment old new)) (bytes_of old schedule)
    (λ plan is_plan. if_some (λ text. IsSessionStatus (record { volume = volume; script_name = script; image = image; schedule = plan; script = text }) status old.moment old new) (bytes_of old script)
    (λ text is_text. run_status (record { volume = volume; script_name = script; image = image; schedule = plan; script = text }) schedule status old new r (record { image = is_image; schedule = is_plan; script = is_text }))))
run_session (Some (scan volume)) status old new r = tt
run_session (Some (check volume)) status old new r = tt
run_session (Some (mkfs volume numbers)) status old new r = tt
run_session None status old new r = tt
