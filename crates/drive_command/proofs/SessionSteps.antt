-- How a session that ran is told from its steps.
use Rattle.std.proofs.Common.{◌≡◌, ℕ, ◌+◌, Bool, List, [], length, map, Option, Some, None, Result, Ok, Err, ◌∙◌, ap, subst}
use Rattle.std.specs.Prelude.{IfSome, OnOk, MatchBool}
use Rattle.lufs_base.specs.declared.errors.DiskFault.{DiskFault}
use Rattle.lufs_base.specs.declared.geometry.Geometry.{Geometry}
use Rattle.tree_types.specs.declared.call.Line.{Line}
use Rattle.tree_types.specs.declared.history.Entry.{Entry}
use Rattle.volume_model.specs.declared.log.Header.{Header}
use Rattle.volume_model.specs.Format.{Image, block}
use Rattle.volume_model.specs.Sound.{Tree, StandsFor}
use Rattle.history_model.specs.Lines.{lines_of}
use Rattle.history_model.specs.HistoryText.{history_text_of}
use Rattle.sector_disk.specs.Disk.{DiskTold}
use Rattle.host_io.specs.Outside.{SinkTold}
use Rattle.plain_image.specs.WrittenBack.{IsWrittenBack, HoldsImage}
use Rattle.plain_session.specs.ServedLines.{served_line, turns_in}
use Rattle.plain_session.specs.Sessions.{HasServed, HasToldAll, HasLostReply}
use Rattle.drive_command.specs.declared.ending.DriveEnding.{DriveEnding}
use Rattle.drive_command.specs.declared.session.Kept.{Kept}
use Rattle.drive_command.specs.Volume.{opening_of}
use Rattle.drive_command.specs.Sessions.{history_of, HasWrittenBack, KeepsHistory, EndsAs}
use Rattle.drive_command.specs.Drive.{Start, SessionRan}

-- what was written back stands for the tree that the image does
pub written_stands : (g : Geometry) (h : Header) (image : Image) (tree : Tree) (written : Result (Unit {0}) DiskFault) (before now : DiskTold)
    → ((there left : Image) → IsWrittenBack g h image there left → StandsFor g (block left) tree []) → OnOk written (HoldsImage g h image before now)
    → OnOk written (IfSome before.present (λ there. IfSome now.present (λ left. StandsFor g (block left) tree [])))
written_stands g h image tree (Err fault) before now step holds = tt
written_stands g h image tree (Ok done) before now step holds = of_told before.present now.present holds.content
  where
    of_told : (there left : Option Image) → IfSome there (λ a. IfSome left (IsWrittenBack g h image a)) → IfSome there (λ a. IfSome left (λ b. StandsFor g (block b) tree []))
    of_told None left is = tt
    of_told (Some a) None is = tt
    of_told (Some a) (Some b) is = step a b is

-- a session that ran, where each of these values is what the steps had in its place
pub session_ran : (volume script : List ℕ) (s : Start) (ending : DriveEnding) (disk_old disk_new : DiskTold) (history_old history_new replies_old replies_new : SinkTold)
    (g : Geometry) (lines : List Line) (turns calls count : ℕ) (image left : Image) (entries given : List Entry) (deaf : Bool) (written : Result (Unit {0}) DiskFault) (kept : Kept)
    → g ≡ s.geometry → lines ≡ lines_of s.script → turns ≡ turns_in s.schedule → calls ≡ disk_old.calls → count ≡ length lines → left ≡ image → given ≡ entries
    → HasServed g s.moment (opening_of s.geometry s.content) lines turns calls replies_old replies_new entries left
    → MatchBool deaf (HasLostReply (map served_line lines) turns replies_old replies_new entries) (HasToldAll (map served_line lines) turns replies_old replies_new entries)
    → ((tree : Tree) → StandsFor s.geometry (block image) tree [] → HasWrittenBack s.geometry s.header image tree written disk_old disk_new)
    → KeepsHistory (history_text_of (s.header.epoch + 1) s.moment 1 calls (history_of given)) kept history_old history_new
    → EndsAs volume script written deaf kept count given ending
    → SessionRan volume script s ending disk_old disk_new history_old history_new replies_old replies_new
session_ran volume script s ending disk_old disk_new history_old history_new replies_old replies_new g lines turns calls count image left entries given deaf written kept geometry same_lines same_turns same_calls counted same_image same_entries served replies back history end =
    let opening = opening_of s.geometry s.content in
    let by_geometry = subst (λ (x : Geometry). HasServed x s.moment opening lines turns calls replies_old replies_new entries left) geometry served in
    let by_lines = subst (λ (x : List Line). HasServed s.geometry s.moment opening x turns calls replies_old replies_new entries left) same_lines by_geometry in
    let by_turns = subst (λ (x : ℕ). HasServed s.geometry s.moment opening (lines_of s.script) x calls replies_old replies_new entries left) same_turns by_lines in
    let by_calls = subst (λ (x : ℕ). HasServed s.geometry s.moment opening (lines_of s.script) (turns_in s.schedule) x replies_old replies_new entries left) same_calls by_turns in
    let all = subst (λ (x : Image). HasServed s.geometry s.moment opening (lines_of s.script) (turns_in s.schedule) disk_old.calls replies_old replies_new entries x) same_image by_calls in
    let told_lines = subst (λ (x : List Line). MatchBool deaf (HasLostReply (map served_line x) turns replies_old replies_new entries) (HasToldAll (map served_line x) turns replies_old replies_new entries)) same_lines replies in
    let text_calls = subst (λ (x : ℕ). KeepsHistory (history_text_of (s.header.epoch + 1) s.moment 1 x (history_of given)) kept history_old history_new) same_calls history in
    let end_count = subst (λ (x : ℕ). EndsAs volume script written deaf kept x given ending) (counted ∙ ap (λ (x : List Line). length x) same_lines) end in
    record {
      entries = entries;
      image = image;
      deaf = deaf;
      written = written;
      kept = kept;
      served = all;
      replies = subst (λ (x : ℕ). MatchBool deaf (HasLostReply (map served_line (lines_of s.script)) x replies_old replies_new entries) (HasToldAll (map served_line (lines_of s.script)) x replies_old replies_new entries)) same_turns told_lines;
      back = back _ all.stands;
      history = subst (λ (x : List Entry). KeepsHistory (history_text_of (s.header.epoch + 1) s.moment 1 disk_old.calls (history_of x)) kept history_old history_new) same_entries text_calls;
      end = subst (λ (x : List Entry). EndsAs volume script written deaf kept (length (lines_of s.script)) x ending) same_entries end_count;
    }
