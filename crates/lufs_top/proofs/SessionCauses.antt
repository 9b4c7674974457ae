-- What stands behind the faults that the ending of a session tells.
use Rattle.std.proofs.Common.{◌≡◌, ◌≢◌, ◌<◌, ◌≤◌, ◌+◌, ◌⊎◌, inl, inr, ℕ, Bool, true, false, List, [], ◌∷◌, Option, Some, None, refl, sym, ◌∙◌, ap, subst, arith}
use Rattle.std.specs.Prelude.{IsSome, is_some, map, option_map, option_and_then, bytes_eq, Result, Ok, Err}
use Rattle.std.proofs.lemmas.Slice.Eq.{bytes_eq-Decides}
use Rattle.std.specs.Bool.{MatchBool}
use Rattle.std.proofs.lemmas.Bool.Decides.{when_true}
use Rattle.lufs_base.specs.Causes.{Rose, counted}
use Rattle.sector_disk.specs.Disk.{DiskTold, CountsFailure, FailedLast}
use Rattle.host_io.specs.declared.host.AskKind.TheVariants.{TakeDisk, TakeSource, TakeSink}
use Rattle.host_io.specs.declared.host.AskAnswer.TheVariants as answers
use Rattle.host_io.specs.declared.host.HostError.{HostError}
use Rattle.host_io.specs.declared.host.HostError.TheVariants as hosts
use Rattle.host_io.specs.declared.whole.ReadError.{ReadError}
use Rattle.host_io.specs.declared.whole.ReadError.TheVariants as reads
use Rattle.host_io.specs.Source.{SourceTold}
use Rattle.host_io.specs.Places.{Place, lent as lent_place, here_of}
use Rattle.host_io.specs.Outside.{Outside, Holdings, SinkTold, disk_of, source_of, sink_of, after_ask, with_disk, with_sink, refused_with}
use Rattle.script_text.specs.declared.script.LinesError.{LinesError}
use Rattle.script_text.specs.declared.script.LinesError.TheVariants as lines
use Rattle.lufs_base.specs.declared.errors.DiskFault.{DiskFault}
use Rattle.tree_types.specs.declared.history.Entry.{Entry}
use Rattle.drive_command.specs.declared.ending.DriveEnding.{DriveEnding}
use Rattle.drive_command.specs.declared.ending.DriveEnding.TheVariants as ends
use Rattle.drive_command.specs.declared.mount.MountError.{MountError}
use Rattle.drive_command.specs.declared.mount.MountError.TheVariants as refusals
use Rattle.drive_command.specs.declared.session.Kept.{Kept}
use Rattle.drive_command.specs.declared.session.Kept.TheVariants as kepts
use Rattle.drive_command.specs.Ending.{history_name, out_name, drive_status}
use Rattle.drive_command.specs.Sources.{SourceStops, ScriptStops, IsSourceRead, IsSourceLent, IsSourceRefusal, IsUnread, IsUnparted, not_lent, unread, no_source, no_lines}
use Rattle.drive_command.specs.Volume.{VolumeStops, IsDiskLent, IsDiskRefusal, TellsRefusal}
use Rattle.drive_command.specs.Volume as volumes
use Rattle.drive_command.specs.Sessions.{EndsAs, KeepsHistory, history_of}
use Rattle.plain_session.specs.ServedLines.{served_line, turns_in}
use Rattle.plain_session.specs.Sessions.{HasToldAll, HasLostReply}
use Rattle.history_model.specs.Lines.{lines_of}
use Rattle.history_model.specs.HistoryText.{history_text_of}
use Rattle.drive_command.specs.Drive.{Start, SinksRan, SessionEnds, SessionRan, IsSinkLent, IsSinkRefusal, not_begun, ran, no_names, no_history, no_replies, lent, DriveRan, no_schedule, no_script, no_volume, opened}
use Rattle.lufs_top.specs.Run.{DiskFaultRose, IsSourceGone, MetFault, source_place, sink_place, disk_place}
use Rattle.lufs_top.proofs.NameTests.{no_history_is_replies}
use Rattle.lufs_top.proofs.OutsideFacts.{Keeps, ask_keeps, source_gone, same_disk, same_source, same_sink, sink_placed, sink_keeps, sink_at, sink_there, disk_there, disk_keeps, keeps_to}
use Rattle.lufs_top.proofs.SessionKeeps.{session_keeps, read_keeps, volume_keeps, sinks_keep, Any, Not}

abbrev pub TellsMissing : DriveEnding → Type 0
TellsMissing (ends.Missing at) = Unit {0}
TellsMissing ending = ⊥

abbrev pub TellsReadFault : DriveEnding → Type 0
TellsReadFault (ends.ReadFault at) = Unit {0}
TellsReadFault ending = ⊥

abbrev pub TellsDisk : DriveEnding → Type 0
TellsDisk (ends.DiskFault at) = Unit {0}
TellsDisk ending = ⊥

abbrev pub TellsReply : DriveEnding → Type 0
TellsReply (ends.ReplyFault at) = Unit {0}
TellsReply ending = ⊥

-- which ending a status comes from
pub missing_ending : (ending : DriveEnding) → drive_status ending ≡ 2 → TellsMissing ending
missing_ending (ends.Missing name) is = tt
missing_ending (ends.ReadFault name) is = absurd (omega (arith, is))
missing_ending (ends.OverLimit name limit) is = absurd (omega (arith, is))
missing_ending (ends.DiskFault name) is = absurd (omega (arith, is))
missing_ending (ends.NotVolume name) is = absurd (omega (arith, is))
missing_ending ends.BadHeader is = absurd (omega (arith, is))
missing_ending (ends.EpochSpent name) is = absurd (omega (arith, is))
missing_ending (ends.BadLog tid place) is = absurd (omega (arith, is))
missing_ending (ends.Unsound kind number) is = absurd (omega (arith, is))
missing_ending (ends.ReplyFault name) is = absurd (omega (arith, is))
missing_ending ends.NoMemory is = absurd (omega (arith, is))
missing_ending (ends.Driven text true) is = absurd (omega (arith, is))
missing_ending (ends.Driven text false) is = absurd (omega (arith, is))

pub read_ending : (ending : DriveEnding) → drive_status ending ≡ 3 → TellsReadFault ending
read_ending (ends.Missing name) is = absurd (omega (arith, is))
read_ending (ends.ReadFault name) is = tt
read_ending (ends.OverLimit name limit) is = absurd (omega (arith, is))
read_ending (ends.DiskFault name) is = absurd (omega (arith, is))
read_ending (ends.NotVolume name) is = absurd (omega (arith, is))
read_ending ends.BadHeader is = absurd (omega (arith, is))
read_ending (ends.EpochSpent name) is = absurd (omega (arith, is))
read_ending (ends.BadLog tid place) is = absurd (omega (arith, is))
read_ending (ends.Unsound kind number) is = absurd (omega (arith, is))
read_ending (ends.ReplyFault name) is = absurd (omega (arith, is))
read_ending ends.NoMemory is = absurd (omega (arith, is))
read_ending (ends.Driven text true) is = absurd (omega (arith, is))
read_ending (ends.Driven text false) is = absurd (omega (arith, is))

pub disk_ending : (ending : DriveEnding) → drive_status ending ≡ 4 → TellsDisk ending
disk_ending (ends.Missing name) is = absurd (omega (arith, is))
disk_ending (ends.ReadFault name) is = absurd (omega (arith, is))
disk_ending (ends.OverLimit name limit) is = absurd (omega (arith, is))
disk_ending (ends.DiskFault name) is = tt
disk_ending (ends.NotVolume name) is = absurd (omega (arith, is))
disk_ending ends.BadHeader is = absurd (omega (arith, is))
disk_ending (ends.EpochSpent name) is = absurd (omega (arith, is))
disk_ending (ends.BadLog tid place) is = absurd (omega (arith, is))
disk_ending (ends.Unsound kind number) is = absurd (omega (arith, is))
disk_ending (ends.ReplyFault name) is = absurd (omega (arith, is))
disk_ending ends.NoMemory is = absurd (omega (arith, is))
disk_ending (ends.Driven text true) is = absurd (omega (arith, is))
disk_ending (ends.Driven text false) is = absurd (omega (arith, is))

pub reply_ending : (ending : DriveEnding) → drive_status ending ≡ 5 → TellsReply ending
reply_ending (ends.Missing name) is = absurd (omega (arith, is))
reply_ending (ends.ReadFault name) is = absurd (omega (arith, is))
reply_ending (ends.OverLimit name limit) is = absurd (omega (arith, is))
reply_ending (ends.DiskFault name) is = absurd (omega (arith, is))
reply_ending (ends.NotVolume name) is = absurd (omega (arith, is))
reply_ending ends.BadHeader is = absurd (omega (arith, is))
reply_ending (ends.EpochSpent name) is = absurd (omega (arith, is))
reply_ending (ends.BadLog tid place) is = absurd (omega (arith, is))
reply_ending (ends.Unsound kind number) is = absurd (omega (arith, is))
reply_ending (ends.ReplyFault name) is = tt
reply_ending ends.NoMemory is = absurd (omega (arith, is))
reply_ending (ends.Driven text true) is = absurd (omega (arith, is))
reply_ending (ends.Driven text false) is = absurd (omega (arith, is))

-- an ending that another step has
source_refusal_not_disk : (error : HostError) (name : List ℕ) (ending : DriveEnding) → IsSourceRefusal error name ending → TellsDisk ending → ⊥
source_refusal_not_disk hosts.Missing name (ends.DiskFault at) is tells = is
source_refusal_not_disk hosts.Failed name (ends.DiskFault at) is tells = is
source_refusal_not_disk hosts.Mem name (ends.DiskFault at) is tells = is
source_refusal_not_disk error name ending is tells = tells

source_refusal_not_reply : (error : HostError) (name : List ℕ) (ending : DriveEnding) → IsSourceRefusal error name ending → TellsReply ending → ⊥
source_refusal_not_reply hosts.Missing name (ends.ReplyFault at) is tells = is
source_refusal_not_reply hosts.Failed name (ends.ReplyFault at) is tells = is
source_refusal_not_reply hosts.Mem name (ends.ReplyFault at) is tells = is
source_refusal_not_reply error name ending is tells = tells

unread_not_missing : (error : ReadError) (name : List ℕ) (limit : ℕ) (ending : DriveEnding) → IsUnread error name limit ending → TellsMissing ending → ⊥
unread_not_missing reads.Fault name limit (ends.Missing at) is tells = is
unread_not_missing reads.TooLong name limit (ends.Missing at) is tells = is
unread_not_missing reads.Mem name limit (ends.Missing at) is tells = is
unread_not_missing error name limit ending is tells = tells

unread_not_disk : (error : ReadError) (name : List ℕ) (limit : ℕ) (ending : DriveEnding) → IsUnread error name limit ending → TellsDisk ending → ⊥
unread_not_disk reads.Fault name limit (ends.DiskFault at) is tells = is
unread_not_disk reads.TooLong name limit (ends.DiskFault at) is tells = is
unread_not_disk reads.Mem name limit (ends.DiskFault at) is tells = is
unread_not_disk error name limit ending is tells = tells

unread_not_reply : (error : ReadError) (name : List ℕ) (limit : ℕ) (ending : DriveEnding) → IsUnread error name limit ending → TellsReply ending → ⊥
unread_not_reply reads.Fault name limit (ends.ReplyFault at) is tells = is
unread_not_reply reads.TooLong name limit (ends.ReplyFault at) is tells = is
unread_not_reply reads.Mem name limit (ends.ReplyFault at) is tells = is
unread_not_reply error name limit ending is tells = tells

unparted_not_missing : (error : LinesError) (name : List ℕ) (ending : DriveEnding) → IsUnparted error name ending → TellsMissing ending → ⊥
unparted_not_missing lines.TooMany name (ends.Missing at) is tells = is
unparted_not_missing lines.Mem name (ends.Missing at) is tells = is
unparted_not_missing error name ending is tells = tells

unparted_not_read : (error : LinesError) (name : List ℕ) (ending : DriveEnding) → IsUnparted error name ending → TellsReadFault ending → ⊥
unparted_not_read lines.TooMany name (ends.ReadFault at) is tells = is
unparted_not_read lines.Mem name (ends.ReadFault at) is tells = is
unparted_not_read error name ending is tells = tells

unparted_not_disk : (error : LinesError) (name : List ℕ) (ending : DriveEnding) → IsUnparted error name ending → TellsDisk ending → ⊥
unparted_not_disk lines.TooMany name (ends.DiskFault at) is tells = is
unparted_not_disk lines.Mem name (ends.DiskFault at) is tells = is
unparted_not_disk error name ending is tells = tells

unparted_not_reply : (error : LinesError) (name : List ℕ) (ending : DriveEnding) → IsUnparted error name ending → TellsReply ending → ⊥
unparted_not_reply lines.TooMany name (ends.ReplyFault at) is tells = is
unparted_not_reply lines.Mem name (ends.ReplyFault at) is tells = is
unparted_not_reply error name ending is tells = tells

disk_refusal_not_read : (error : HostError) (name : List ℕ) (ending : DriveEnding) → IsDiskRefusal error name ending → TellsReadFault ending → ⊥
disk_refusal_not_read hosts.Missing name (ends.ReadFault at) is tells = is
disk_refusal_not_read hosts.Failed name (ends.ReadFault at) is tells = is
disk_refusal_not_read hosts.Mem name (ends.ReadFault at) is tells = is
disk_refusal_not_read error name ending is tells = tells

disk_refusal_not_reply : (error : HostError) (name : List ℕ) (ending : DriveEnding) → IsDiskRefusal error name ending → TellsReply ending → ⊥
disk_refusal_not_reply hosts.Missing name (ends.ReplyFault at) is tells = is
disk_refusal_not_reply hosts.Failed name (ends.ReplyFault at) is tells = is
disk_refusal_not_reply hosts.Mem name (ends.ReplyFault at) is tells = is
disk_refusal_not_reply error name ending is tells = tells

refusal_not_missing : (error : MountError) (name : List ℕ) (ending : DriveEnding) → TellsRefusal error name ending → TellsMissing ending → ⊥
refusal_not_missing refusals.NotVolume name (ends.Missing at) is tells = is
refusal_not_missing refusals.BadHeader name (ends.Missing at) is tells = is
refusal_not_missing refusals.EpochSpent name (ends.Missing at) is tells = is
refusal_not_missing (refusals.BadLog tid place) name (ends.Missing at) is tells = is
refusal_not_missing (refusals.Unsound kind number) name (ends.Missing at) is tells = is
refusal_not_missing refusals.Disk name (ends.Missing at) is tells = is
refusal_not_missing refusals.Mem name (ends.Missing at) is tells = is
refusal_not_missing error name ending is tells = tells

refusal_not_read : (error : MountError) (name : List ℕ) (ending : DriveEnding) → TellsRefusal error name ending → TellsReadFault ending → ⊥
refusal_not_read refusals.NotVolume name (ends.ReadFault at) is tells = is
refusal_not_read refusals.BadHeader name (ends.ReadFault at) is tells = is
refusal_not_read refusals.EpochSpent name (ends.ReadFault at) is tells = is
refusal_not_read (refusals.BadLog tid place) name (ends.ReadFault at) is tells = is
refusal_not_read (refusals.Unsound kind number) name (ends.ReadFault at) is tells = is
refusal_not_read refusals.Disk name (ends.ReadFault at) is tells = is
refusal_not_read refusals.Mem name (ends.ReadFault at) is tells = is
refusal_not_read error name ending is tells = tells

refusal_not_reply : (error : MountError) (name : List ℕ) (ending : DriveEnding) → TellsRefusal error name ending → TellsReply ending → ⊥
refusal_not_reply refusals.NotVolume name (ends.ReplyFault at) is tells = is
refusal_not_reply refusals.BadHeader name (ends.ReplyFault at) is tells = is
refusal_not_reply refusals.EpochSpent name (ends.ReplyFault at) is tells = is
refusal_not_reply (refusals.BadLog tid place) name (ends.ReplyFault at) is tells = is
refusal_not_reply (refusals.Unsound kind number) name (ends.ReplyFault at) is tells = is
refusal_not_reply refusals.Disk name (ends.ReplyFault at) is tells = is
refusal_not_reply refusals.Mem name (ends.ReplyFault at) is tells = is
refusal_not_reply error name ending is tells = tells

sink_refusal_not_missing : (error : HostError) (name : List ℕ) (ending : DriveEnding) → IsSinkRefusal error name ending → TellsMissing ending → ⊥
sink_refusal_not_missing hosts.Missing name (ends.Missing at) is tells = is
sink_refusal_not_missing hosts.Failed name (ends.Missing at) is tells = is
sink_refusal_not_missing hosts.Mem name (ends.Missing at) is tells = is
sink_refusal_not_missing error name ending is tells = tells

sink_refusal_not_read : (error : HostError) (name : List ℕ) (ending : DriveEnding) → IsSinkRefusal error name ending → TellsReadFault ending → ⊥
sink_refusal_not_read hosts.Missing name (ends.ReadFault at) is tells = is
sink_refusal_not_read hosts.Failed name (ends.ReadFault at) is tells = is
sink_refusal_not_read hosts.Mem name (ends.ReadFault at) is tells = is
sink_refusal_not_read error name ending is tells = tells

sink_refusal_not_disk : (error : HostError) (name : List ℕ) (ending : DriveEnding) → IsSinkRefusal error name ending → TellsDisk ending → ⊥
sink_refusal_not_disk hosts.Missing name (ends.DiskFault at) is tells = is
sink_refusal_not_disk hosts.Failed name (ends.DiskFault at) is tells = is
sink_refusal_not_disk hosts.Mem name (ends.DiskFault at) is tells = is
sink_refusal_not_disk error name ending is tells = tells

source_refusal_missing : (error : HostError) (name : List ℕ) (ending : DriveEnding) → IsSourceRefusal error name ending → TellsMissing ending → error ≡ hosts.Missing
source_refusal_missing hosts.Missing name (ends.Missing at) is tells = refl
source_refusal_missing hosts.Failed name (ends.Missing at) is tells = absurd is
source_refusal_missing hosts.Mem name (ends.Missing at) is tells = absurd is
source_refusal_missing error name ending is tells = absurd tells

source_refusal_read : (error : HostError) (name : List ℕ) (ending : DriveEnding) → IsSourceRefusal error name ending → TellsReadFault ending → error ≡ hosts.Failed
source_refusal_read hosts.Missing name (ends.ReadFault at) is tells = absurd is
source_refusal_read hosts.Failed name (ends.ReadFault at) is tells = refl
source_refusal_read hosts.Mem name (ends.ReadFault at) is tells = absurd is
source_refusal_read error name ending is tells = absurd tells

disk_refusal_missing : (error : HostError) (name : List ℕ) (ending : DriveEnding) → IsDiskRefusal error name ending → TellsMissing ending → error ≡ hosts.Missing
disk_refusal_missing hosts.Missing name (ends.Missing at) is tells = refl
disk_refusal_missing hosts.Failed name (ends.Missing at) is tells = absurd is
disk_refusal_missing hosts.Mem name (ends.Missing at) is tells = absurd is
disk_refusal_missing error name ending is tells = absurd tells

disk_refusal_disk : (error : HostError) (name : List ℕ) (ending : DriveEnding) → IsDiskRefusal error name ending → TellsDisk ending → error ≡ hosts.Failed
disk_refusal_disk hosts.Missing name (ends.DiskFault at) is tells = absurd is
disk_refusal_disk hosts.Failed name (ends.DiskFault at) is tells = refl
disk_refusal_disk hosts.Mem name (ends.DiskFault at) is tells = absurd is
disk_refusal_disk error name ending is tells = absurd tells

refusal_disk : (error : MountError) (name : List ℕ) (ending : DriveEnding) → TellsRefusal error name ending → TellsDisk ending → error ≡ refusals.Disk
refusal_disk refusals.NotVolume name (ends.DiskFault at) is tells = absurd is
refusal_disk refusals.BadHeader name (ends.DiskFault at) is tells = absurd is
refusal_disk refusals.EpochSpent name (ends.DiskFault at) is tells = absurd is
refusal_disk (refusals.BadLog tid place) name (ends.DiskFault at) is tells = absurd is
refusal_disk (refusals.Unsound kind number) name (ends.DiskFault at) is tells = absurd is
refusal_disk refusals.Disk name (ends.DiskFault at) is tells = refl
refusal_disk refusals.Mem name (ends.DiskFault at) is tells = absurd is
refusal_disk error name ending is tells = absurd tells

sink_refusal_reply : (error : HostError) (name : List ℕ) (ending : DriveEnding) → error ≢ hosts.Missing → IsSinkRefusal error name ending → TellsReply ending → error ≡ hosts.Failed
sink_refusal_reply hosts.Missing name ending other is tells = absurd (other refl)
sink_refusal_reply hosts.Failed name ending other is tells = refl
sink_refusal_reply hosts.Mem name (ends.ReplyFault at) other is tells = absurd is
sink_refusal_reply hosts.Mem name ending other is tells = absurd tells

end_not_missing : (volume script : List ℕ) (written : Result (Unit {0}) DiskFault) (deaf : Bool) (kept : Kept) (count : ℕ) (entries : List Entry) (ending : DriveEnding) → EndsAs volume script written deaf kept count entries ending → TellsMissing ending → ⊥
end_not_missing volume script (Err fault) deaf kept count entries (ends.Missing at) is tells = is
end_not_missing volume script (Ok done) true kept count entries (ends.Missing at) is tells = is
end_not_missing volume script (Ok done) false kepts.Cut count entries (ends.Missing at) is tells = is
end_not_missing volume script (Ok done) false kepts.Whole count entries (ends.Missing at) is tells = is
end_not_missing volume script (Ok done) false kepts.Lacking count entries (ends.Missing at) is tells = is
end_not_missing volume script written deaf kept count entries ending is tells = tells

end_not_read : (volume script : List ℕ) (written : Result (Unit {0}) DiskFault) (deaf : Bool) (kept : Kept) (count : ℕ) (entries : List Entry) (ending : DriveEnding) → EndsAs volume script written deaf kept count entries ending → TellsReadFault ending → ⊥
end_not_read volume script (Err fault) deaf kept count entries (ends.ReadFault at) is tells = is
end_not_read volume script (Ok done) true kept count entries (ends.ReadFault at) is tells = is
end_not_read volume script (Ok done) false kepts.Cut count entries (ends.ReadFault at) is tells = is
end_not_read volume script (Ok done) false kepts.Whole count entries (ends.ReadFault at) is tells = is
end_not_read volume script (Ok done) false kepts.Lacking count entries (ends.ReadFault at) is tells = is
end_not_read volume script written deaf kept count entries ending is tells = tells

-- the end of a session that tells a fault of its disk
end_disk : (volume script : List ℕ) (written : Result (Unit {0}) DiskFault) (deaf : Bool) (kept : Kept) (count : ℕ) (entries : List Entry) (ending : DriveEnding)
    → EndsAs volume script written deaf kept count entries ending → TellsDisk ending → (before now : DiskTold) → CountsFailure written before now → FailedLast before now
end_disk volume script (Err fault) deaf kept count entries ending is tells before now counts = counts
end_disk volume script (Ok done) true kept count entries (ends.DiskFault at) is tells before now counts = absurd is
end_disk volume script (Ok done) false kepts.Cut count entries (ends.DiskFault at) is tells before now counts = absurd is
end_disk volume script (Ok done) false kepts.Whole count entries (ends.DiskFault at) is tells before now counts = absurd is
end_disk volume script (Ok done) false kepts.Lacking count entries (ends.DiskFault at) is tells before now counts = absurd is
end_disk volume script written deaf kept count entries ending is tells before now counts = absurd tells

-- the end of a session that tells a fault of a sink
end_reply : (volume script : List ℕ) (written : Result (Unit {0}) DiskFault) (deaf : Bool) (kept : Kept) (count : ℕ) (entries : List Entry) (ending : DriveEnding)
    → EndsAs volume script written deaf kept count entries ending → TellsReply ending → (deaf ≡ true) ⊎ (kept ≡ kepts.Cut)
end_reply volume script (Ok done) true kept count entries ending is tells = inl refl
end_reply volume script (Ok done) false kepts.Cut count entries ending is tells = inr refl
end_reply volume script (Err fault) deaf kept count entries (ends.ReplyFault at) is tells = absurd is
end_reply volume script (Ok done) false kepts.Whole count entries (ends.ReplyFault at) is tells = absurd is
end_reply volume script (Ok done) false kepts.Lacking count entries (ends.ReplyFault at) is tells = absurd is
end_reply volume script written deaf kept count entries ending is tells = absurd tells

-- Counts that an ask for something given leaves.
record SameCounts (old new : Outside) : Type 0 where
  faults : new.faults ≡ old.faults
  absent : new.absent ≡ old.absent

counts_of : (old at new : Outside) → new ≡ at → SameCounts old at → SameCounts old new
counts_of old at new is same = record { faults = ap (λ (o : Outside). o.faults) is ∙ same.faults; absent = ap (λ (o : Outside). o.absent) is ∙ same.absent }

read_counts : (name : List ℕ) (limit : ℕ) (bytes : List ℕ) (old new : Outside) → IsSourceRead name limit bytes old new → SameCounts old new
read_counts name limit bytes old new read = counts_of old _ new read.lent.after (record { faults = refl; absent = refl })

rose_after : (a b c : ℕ) → b ≡ a → Rose b c → Rose a c
rose_after a b c same rose = subst (λ (n : ℕ). Rose n c) same rose

-- what was missing was counted
stopped_missing : (name : List ℕ) (limit : ℕ) (ending : DriveEnding) (old new : Outside) → SourceStops name limit ending old new → TellsMissing ending → Rose old.absent new.absent
stopped_missing name limit ending old new (not_lent error is missing after) tells =
    let which = source_refusal_missing error name ending is tells in
    let absent = ap (λ (o : Outside). o.absent) (after ∙ ap (λ e. after_ask TakeSource name (refused_with e) old) which) in
    omega (arith, absent)
stopped_missing name limit ending old new (unread error before now is source whole) tells = absurd (unread_not_missing error name limit ending is tells)

script_missing : (name : List ℕ) (ending : DriveEnding) (old new : Outside) → ScriptStops name ending old new → TellsMissing ending → Rose old.absent new.absent
script_missing name ending old new (no_source stops) tells = stopped_missing name _ ending old new stops tells
script_missing name ending old new (no_lines text error read is many) tells = absurd (unparted_not_missing error name ending is tells)

volume_missing : (volume : List ℕ) (ending : DriveEnding) (old new : Outside) → VolumeStops volume ending old new → TellsMissing ending → Rose old.absent new.absent
volume_missing volume ending old new (volumes.not_lent error is missing after) tells =
    let which = disk_refusal_missing error volume ending is tells in
    let absent = ap (λ (o : Outside). o.absent) (after ∙ ap (λ e. after_ask TakeDisk volume (refused_with e) old) which) in
    omega (arith, absent)
volume_missing volume ending old new (volumes.refused before now mid disk why is true_of unwritten fails back) tells = absurd (refusal_not_missing why volume ending is tells)

-- an ending that no session has that had its volume
late_not : (T : DriveEnding → Type 0) → ((error : HostError) (name : List ℕ) (ending : DriveEnding) → IsSinkRefusal error name ending → T ending → ⊥)
    → ((volume script : List ℕ) (written : Result (Unit {0}) DiskFault) (deaf : Bool) (kept : Kept) (count : ℕ) (entries : List Entry) (ending : DriveEnding) → EndsAs volume script written deaf kept count entries ending → T ending → ⊥)
    → (T ends.NoMemory → ⊥)
    → (volume script : List ℕ) (s : Start) (ending : DriveEnding) (before now : DiskTold) (old new : Outside) → SinksRan volume script s ending before now old new → T ending → ⊥
late_not T refusal end none volume script s ending before now old new (no_names is disk same) tells = none (subst T is tells)
late_not T refusal end none volume script s ending before now old new (no_history error other is disk after) tells = refusal error _ ending is tells
late_not T refusal end none volume script s ending before now old new (no_replies error history noted taken other is disk after) tells = refusal error _ ending is tells
late_not T refusal end none volume script s ending before now old new (lent history kept replies told noted heard first second (not_begun is disk same same_replies) after) tells = none (subst T is tells)
late_not T refusal end none volume script s ending before now old new (lent history kept replies told noted heard first second (ran r) after) tells =
    end volume script r.written r.deaf r.kept _ r.entries ending r.end tells

pub session_missing : (volume schedule script : List ℕ) (ending : DriveEnding) (old new : Outside) → DriveRan volume schedule script ending old new → TellsMissing ending → Rose old.absent new.absent
session_missing volume schedule script ending old new (no_schedule stops) tells = stopped_missing schedule _ ending old new stops tells
session_missing volume schedule script ending old new (no_script turns planned first stops) tells =
    rose_after _ _ _ (read_counts schedule _ turns old planned first).absent (script_missing script ending planned new stops tells)
session_missing volume schedule script ending old new (no_volume turns text planned mid first second stops) tells =
    rose_after _ _ _ ((read_counts script _ text planned mid second.source).absent ∙ (read_counts schedule _ turns old planned first).absent) (volume_missing volume ending mid new stops tells)
session_missing volume schedule script ending old new (opened s before now after at left has went back) tells =
    absurd (late_not TellsMissing sink_refusal_not_missing end_not_missing (λ t. t) volume script s ending now after at left went tells)

-- a source that was there, and is lent
gone_at : (name : List ℕ) (before : SourceTold) (old new : Outside) → IsSourceLent name before old new → IsSome old.holds → IsSourceGone old new name
gone_at name before old new source tells =
    let keeps : Keeps Any (Not name) Any old new = keeps_to old _ new source.after (ask_keeps TakeSource name (Some answers.Given) old (λ q other. other)) in
    record {
      was = ap is_some (source.given tells);
      gone = ap (λ (o : Outside). source_place o name) source.after
          ∙ source_gone name old (subst (λ (o : Outside). IsSome o.holds) source.after (keeps.tells ∙ tells));
    }

-- a fault of the source of this name, or of the host
abbrev SourceFault : List ℕ → Outside → Outside → Type 0
SourceFault name old new = Rose old.faults new.faults ⊎ IsSourceGone old new name

stopped_fault : (name : List ℕ) (limit : ℕ) (ending : DriveEnding) (old new : Outside) → SourceStops name limit ending old new → TellsReadFault ending → IsSome old.holds → SourceFault name old new
stopped_fault name limit ending old new (not_lent error is missing after) tells holds =
    let which = source_refusal_read error name ending is tells in
    let faults = ap (λ (o : Outside). o.faults) (after ∙ ap (λ e. after_ask TakeSource name (refused_with e) old) which) in
    inl (omega (arith, faults))
stopped_fault name limit ending old new (unread error before now is source whole) tells holds = inr (gone_at name before old new source holds)

script_fault : (name : List ℕ) (ending : DriveEnding) (old new : Outside) → ScriptStops name ending old new → TellsReadFault ending → IsSome old.holds → SourceFault name old new
script_fault name ending old new (no_source stops) tells holds = stopped_fault name _ ending old new stops tells holds
script_fault name ending old new (no_lines text error read is many) tells holds = absurd (unparted_not_read error name ending is tells)

volume_not_read : (volume : List ℕ) (ending : DriveEnding) (old new : Outside) → VolumeStops volume ending old new → TellsReadFault ending → ⊥
volume_not_read volume ending old new (volumes.not_lent error is missing after) tells = disk_refusal_not_read error volume ending is tells
volume_not_read volume ending old new (volumes.refused before now mid disk why is true_of unwritten fails back) tells = refusal_not_read why volume ending is tells

nothing_lent : {T : Type 0} (part : Holdings → Place T) (holds : Option Holdings) → option_map part holds ≡ Some lent_place → option_and_then (λ (h : Holdings). here_of (part h)) holds ≡ None
nothing_lent part None is = absurd (cc (is))
nothing_lent part (Some h) is = let place : part h ≡ lent_place = cc (is) in ap here_of place

-- what is there after a source was taken was there before
pub still_there : (name q : List ℕ) (before : SourceTold) (x : SourceTold) (old new : Outside) → IsSourceLent name before old new → IsSome old.holds → source_of new q ≡ Some x → source_of old q ≡ Some x
still_there name q before x old new source holds there = by_test (bytes_eq name q) refl
  where
    by_test : (b : Bool) → bytes_eq name q ≡ b → source_of old q ≡ Some x
    by_test true is =
        let same : name ≡ q = (bytes_eq-Decides name q).0 is in
        let gone = (gone_at name before old new source holds).gone in
        let none : source_of new name ≡ None = nothing_lent (λ h. h.sources name) new.holds gone in
        let some : source_of new name ≡ Some x = ap (λ n. source_of new n) same ∙ there in
        absurd (cc (none, some))
    by_test false is =
        let keeps : Keeps Any (Not name) Any old new = keeps_to old _ new source.after (ask_keeps TakeSource name (Some answers.Given) old (λ r other. other)) in
        sym (same_source old new q (keeps.sources q (λ same. absurd (cc (is, (bytes_eq-Decides name q).1 (sym same)))))) ∙ there

was_there : (name q : List ℕ) (before : SourceTold) (old new : Outside) → IsSourceLent name before old new → IsSome old.holds → IsSome (source_of new q) → IsSome (source_of old q)
was_there name q before old new source holds there = some_of (source_of new q) refl there
  where
    some_of : (o : Option SourceTold) → source_of new q ≡ o → IsSome o → IsSome (source_of old q)
    some_of None is some = absurd (cc (some))
    some_of (Some x) is some = ap is_some (still_there name q before x old new source holds is)

pub session_read_fault : (volume schedule script : List ℕ) (ending : DriveEnding) (old new : Outside) → DriveRan volume schedule script ending old new → TellsReadFault ending → IsSome old.holds
    → SourceFault schedule old new ⊎ SourceFault script old new
session_read_fault volume schedule script ending old new (no_schedule stops) tells holds = inl (stopped_fault schedule _ ending old new stops tells holds)
session_read_fault volume schedule script ending old new (no_script turns planned first stops) tells holds =
    let keeps = read_keeps schedule _ turns old planned first in
    inr (elim (script_fault script ending planned new stops tells (keeps.tells ∙ holds)) [
      | inl rose ↦ inl (rose_after _ _ _ (read_counts schedule _ turns old planned first).faults rose)
      | inr gone ↦ inr (record { was = was_there schedule script first.before old planned first.lent holds gone.was; gone = gone.gone })
    ])
session_read_fault volume schedule script ending old new (no_volume turns text planned mid first second stops) tells holds = absurd (volume_not_read volume ending mid new stops tells)
session_read_fault volume schedule script ending old new (opened s before now after at left has went back) tells holds =
    absurd (late_not TellsReadFault sink_refusal_not_read end_not_read (λ t. t) volume script s ending now after at left went tells)

-- a fault of the disk of this name, or of the host
abbrev VolumeFault : List ℕ → Outside → Outside → Type 0
VolumeFault volume old new = Rose old.faults new.faults ⊎ DiskFaultRose (disk_of old volume) (disk_of new volume)

rises : (old new : Option DiskTold) (before now : DiskTold) → old ≡ Some before → new ≡ Some now → Rose before.faults now.faults → DiskFaultRose old new
rises old new before now was is rose = rw (was, is) rose

volume_fault : (volume : List ℕ) (ending : DriveEnding) (old new : Outside) → VolumeStops volume ending old new → TellsDisk ending → IsSome old.holds → VolumeFault volume old new
volume_fault volume ending old new (volumes.not_lent error is missing after) tells holds =
    let which = disk_refusal_disk error volume ending is tells in
    let faults = ap (λ (o : Outside). o.faults) (after ∙ ap (λ e. after_ask TakeDisk volume (refused_with e) old) which) in
    inl (omega (arith, faults))
volume_fault volume ending old new (volumes.refused before now mid disk why is true_of unwritten fails back) tells holds =
    let keeps = volume_keeps volume ending old new (volumes.refused before now mid disk why is true_of unwritten fails back) in
    inr (rises _ _ before now (disk.given holds) (disk_there volume now mid new back (keeps.tells ∙ holds)) (fails.failed (refusal_disk why volume ending is tells)).faults)

-- the disk of a session that failed
sinks_disk : (volume script : List ℕ) (s : Start) (ending : DriveEnding) (before now : DiskTold) (old new : Outside) → SinksRan volume script s ending before now old new → TellsDisk ending → FailedLast before now
sinks_disk volume script s ending before now old new (no_names is disk same) tells = absurd (subst TellsDisk is tells)
sinks_disk volume script s ending before now old new (no_history error other is disk after) tells = absurd (sink_refusal_not_disk error _ ending is tells)
sinks_disk volume script s ending before now old new (no_replies error history noted taken other is disk after) tells = absurd (sink_refusal_not_disk error _ ending is tells)
sinks_disk volume script s ending before now old new (lent history kept replies told noted heard first second (not_begun is disk same same_replies) after) tells = absurd (subst TellsDisk is tells)
sinks_disk volume script s ending before now old new (lent history kept replies told noted heard first second (ran r) after) tells =
    end_disk volume script r.written r.deaf r.kept _ r.entries ending r.end tells before now r.back.failure

stopped_not_disk : (name : List ℕ) (limit : ℕ) (ending : DriveEnding) (old new : Outside) → SourceStops name limit ending old new → TellsDisk ending → ⊥
stopped_not_disk name limit ending old new (not_lent error is missing after) tells = source_refusal_not_disk error name ending is tells
stopped_not_disk name limit ending old new (unread error before now is source whole) tells = unread_not_disk error name limit ending is tells

script_not_disk : (name : List ℕ) (ending : DriveEnding) (old new : Outside) → ScriptStops name ending old new → TellsDisk ending → ⊥
script_not_disk name ending old new (no_source stops) tells = stopped_not_disk name _ ending old new stops tells
script_not_disk name ending old new (no_lines text error read is many) tells = unparted_not_disk error name ending is tells

pub session_disk_fault : (volume schedule script : List ℕ) (ending : DriveEnding) (old new : Outside) → DriveRan volume schedule script ending old new → TellsDisk ending → IsSome old.holds
    → VolumeFault volume old new
session_disk_fault volume schedule script ending old new (no_schedule stops) tells holds = absurd (stopped_not_disk schedule _ ending old new stops tells)
session_disk_fault volume schedule script ending old new (no_script turns planned first stops) tells holds = absurd (script_not_disk script ending planned new stops tells)
session_disk_fault volume schedule script ending old new (no_volume turns text planned mid first second stops) tells holds =
    let one = read_keeps schedule _ turns old planned first in
    let two = read_keeps script _ text planned mid second.source in
    let same = same_disk old planned volume (one.disks volume tt) in
    let same_too = same_disk planned mid volume (two.disks volume tt) in
    elim (volume_fault volume ending mid new stops tells (two.tells ∙ one.tells ∙ holds)) [
      | inl rose ↦ inl (rose_after _ _ _ ((read_counts script _ text planned mid second.source).faults ∙ (read_counts schedule _ turns old planned first).faults) rose)
      | inr rose ↦ inr (subst (λ (d : Option DiskTold). DiskFaultRose d (disk_of new volume)) (same_too ∙ same) rose)
    ]
session_disk_fault volume schedule script ending old new (opened s before now after at left has went back) tells holds =
    let one = read_keeps schedule _ s.schedule old has.planned has.schedule_read in
    let two = read_keeps script _ s.script has.planned has.read has.script_read.source in
    let same = same_disk old has.planned volume (one.disks volume tt) in
    let same_too = same_disk has.planned has.read volume (two.disks volume tt) in
    let keeps = session_keeps volume schedule script ending old new (opened s before now after at left has went back) in
    let was = sym (same_too ∙ same) ∙ has.disk_lent.given (two.tells ∙ one.tells ∙ holds) in
    let failed = (sinks_disk volume script s ending now after at left went tells).faults in
    let none = has.mounted.none_failed.faults in
    inr (rises _ _ before after was (disk_there volume after left new back (keeps.tells ∙ holds)) (omega (arith, failed, none)))

-- a fault of one of the sinks of a session, or of the host
abbrev pub SinkFaults : (volume script : List ℕ) → Outside → Outside → Type 0
SinkFaults volume script old new = Rose old.faults new.faults ⊎ (MetFault (sink_of new (history_name volume)) ⊎ MetFault (sink_of new (out_name script)))

met : (there : Option SinkTold) (sink : SinkTold) → there ≡ Some sink → 0 < sink.faults → MetFault there
met there sink is some = rw is some

-- the sinks of a session that ran are here
pub both_here : (volume script : List ℕ) (kept told : SinkTold) (heard new : Outside) → new ≡ with_sink (history_name volume) kept (with_sink (out_name script) told heard) → IsSome new.holds
    → (sink_of new (history_name volume) ≡ Some kept) × (sink_of new (out_name script) ≡ Some told)
both_here volume script kept told heard new is holds =
    let mid = with_sink (out_name script) told heard in
    let keeps : Keeps Any Any (Not (history_name volume)) mid new = keeps_to mid _ new is (sink_keeps (history_name volume) kept mid (λ q other. other)) in (
      sink_there (history_name volume) kept mid new is holds,
      same_sink mid new (out_name script) (keeps.sinks (out_name script) (λ same. no_history_is_replies volume script (sym same)))
          ∙ sink_there (out_name script) told heard mid refl (sym keeps.tells ∙ holds),
    )

ran_fault : (volume script : List ℕ) (s : Start) (ending : DriveEnding) (before now : DiskTold) (history kept replies told : SinkTold) (heard new : Outside)
    → SessionRan volume script s ending before now history kept replies told → TellsReply ending
    → (sink_of new (history_name volume) ≡ Some kept) × (sink_of new (out_name script) ≡ Some told)
    → MetFault (sink_of new (history_name volume)) ⊎ MetFault (sink_of new (out_name script))
ran_fault volume script s ending before now history kept replies told heard new r tells here =
    elim (end_reply volume script r.written r.deaf r.kept _ r.entries ending r.end tells) [
      | inl deaf ↦ inr (met _ told here.1 (lost_fault deaf r.replies))
      | inr cut ↦ inl (met _ kept here.0 (cut_fault cut r.history))
    ]
  where
    lost_fault : r.deaf ≡ true → MatchBool r.deaf (HasLostReply (map served_line (lines_of s.script)) (turns_in s.schedule) replies told r.entries)
        (HasToldAll (map served_line (lines_of s.script)) (turns_in s.schedule) replies told r.entries) → 0 < told.faults
    lost_fault deaf lost =
        let reply = when_true _ _ deaf lost in
        let faults = ap (λ (k : SinkTold). k.faults) reply.held in
        omega (arith, faults)

    cut_fault : r.kept ≡ kepts.Cut → KeepsHistory (history_text_of (s.header.epoch + 1) s.moment 1 before.calls (history_of r.entries)) r.kept history kept → 0 < kept.faults
    cut_fault cut keeps =
        let some = subst (λ (k : Kept). KeepsHistory (history_text_of (s.header.epoch + 1) s.moment 1 before.calls (history_of r.entries)) k history kept) cut keeps in
        let faults = ap (λ (k : SinkTold). k.faults) some.1 in
        omega (arith, faults)

sink_refused_counts : (name : List ℕ) (error : HostError) (old : Outside) → error ≡ hosts.Failed → (after_ask TakeSink name (refused_with error) old).faults ≡ counted old.faults
sink_refused_counts name error old is = ap (λ e. (after_ask TakeSink name (refused_with e) old).faults) is

sinks_fault : (volume script : List ℕ) (s : Start) (ending : DriveEnding) (before now : DiskTold) (old new : Outside) → SinksRan volume script s ending before now old new → TellsReply ending → IsSome old.holds
    → SinkFaults volume script old new
sinks_fault volume script s ending before now old new (no_names is disk same) tells holds = absurd (subst TellsReply is tells)
sinks_fault volume script s ending before now old new (no_history error other is disk after) tells holds =
    let faults = ap (λ (o : Outside). o.faults) after ∙ sink_refused_counts (history_name volume) error old (sink_refusal_reply error _ ending other is tells) in
    inl (omega (arith, faults))
sinks_fault volume script s ending before now old new (no_replies error history noted taken other is disk after) tells holds =
    let same = ap (λ (o : Outside). o.faults) taken.after in
    let faults = ap (λ (o : Outside). o.faults) after ∙ sink_refused_counts (out_name script) error noted (sink_refusal_reply error _ ending other is tells) in
    inl (omega (arith, faults, same))
sinks_fault volume script s ending before now old new (lent history kept replies told noted heard first second (not_begun is disk same same_replies) after) tells holds = absurd (subst TellsReply is tells)
sinks_fault volume script s ending before now old new (lent history kept replies told noted heard first second (ran r) after) tells holds =
    let keeps = sinks_keep volume script s ending before now old new (lent history kept replies told noted heard first second (ran r) after) in
    inr (ran_fault volume script s ending before now history kept replies told heard new r tells (both_here volume script kept told heard new after (keeps.tells ∙ holds)))

stopped_not_reply : (name : List ℕ) (limit : ℕ) (ending : DriveEnding) (old new : Outside) → SourceStops name limit ending old new → TellsReply ending → ⊥
stopped_not_reply name limit ending old new (not_lent error is missing after) tells = source_refusal_not_reply error name ending is tells
stopped_not_reply name limit ending old new (unread error before now is source whole) tells = unread_not_reply error name limit ending is tells

script_not_reply : (name : List ℕ) (ending : DriveEnding) (old new : Outside) → ScriptStops name ending old new → TellsReply ending → ⊥
script_not_reply name ending old new (no_source stops) tells = stopped_not_reply name _ ending old new stops tells
script_not_reply name ending old new (no_lines text error read is many) tells = unparted_not_reply error name ending is tells

volume_not_reply : (volume : List ℕ) (ending : DriveEnding) (old new : Outside) → VolumeStops volume ending old new → TellsReply ending → ⊥
volume_not_reply volume ending old new (volumes.not_lent error is missing after) tells = disk_refusal_not_reply error volume ending is tells
volume_not_reply volume ending old new (volumes.refused before now mid disk why is true_of unwritten fails back) tells = refusal_not_reply why volume ending is tells

pub session_reply_fault : (volume schedule script : List ℕ) (ending : DriveEnding) (old new : Outside) → DriveRan volume schedule script ending old new → TellsReply ending → IsSome old.holds
    → SinkFaults volume script old new
session_reply_fault volume schedule script ending old new (no_schedule stops) tells holds = absurd (stopped_not_reply schedule _ ending old new stops tells)
session_reply_fault volume schedule script ending old new (no_script turns planned first stops) tells holds = absurd (script_not_reply script ending planned new stops tells)
session_reply_fault volume schedule script ending old new (no_volume turns text planned mid first second stops) tells holds = absurd (volume_not_reply volume ending mid new stops tells)
session_reply_fault volume schedule script ending old new (opened s before now after at left has went back) tells holds =
    let one = read_keeps schedule _ s.schedule old has.planned has.schedule_read in
    let two = read_keeps script _ s.script has.planned has.read has.script_read.source in
    let three : Keeps (Not volume) Any Any has.read at = keeps_to has.read _ at has.disk_lent.after (ask_keeps TakeDisk volume (Some answers.Given) has.read (λ q other. other)) in
    let four : Keeps (Not volume) Any Any left new = keeps_to left _ new back (disk_keeps volume after left (λ q other. other)) in
    let faults = ap (λ (o : Outside). o.faults) has.disk_lent.after ∙ (read_counts script _ s.script has.planned has.read has.script_read.source).faults ∙ (read_counts schedule _ s.schedule old has.planned has.schedule_read).faults in
    let same = ap (λ (o : Outside). o.faults) back in
    elim (sinks_fault volume script s ending now after at left went tells (three.tells ∙ two.tells ∙ one.tells ∙ holds)) [
      | inl rose ↦ inl (omega (arith, rose, faults, same))
      | inr some ↦ inr (elim some [
        | inl first ↦ inl (subst MetFault (sym (same_sink left new (history_name volume) (four.sinks (history_name volume) tt))) first)
        | inr second ↦ inr (subst MetFault (sym (same_sink left new (out_name script) (four.sinks (out_name script) tt))) second)
      ])
    ]
