-- What the steps of a session do to the outside.
use Rattle.std.proofs.Common.{◌≡◌, ℕ, List, Option, Some, None, Err, refl, sym, ◌∙◌, ap, subst}
use Rattle.std.specs.Prelude.{IsSome, IfSome, IsErrOf, option_map}
use Rattle.std.specs.Option.{ForSome}
use Rattle.sector_disk.specs.Disk.{DiskTold, FailsJustAt}
use Rattle.host_io.specs.declared.host.AskKind.TheVariants.{TakeDisk, TakeSink, TakeSource}
use Rattle.host_io.specs.declared.host.AskAnswer.TheVariants.{Given}
use Rattle.host_io.specs.declared.host.HostError.{HostError}
use Rattle.host_io.specs.declared.host.HostError.TheVariants as hosts
use Rattle.host_io.specs.Outside.{Outside, Holdings, SinkTold, after_ask, with_loan, with_sink, refused_with, IsLentDisk, empty_sink}
use Rattle.host_io.specs.Places.{lent as lent_place}
use Rattle.host_io.proofs.NamedLemmas.{with_place-name}
use Rattle.drive_command.specs.declared.ending.DriveEnding.{DriveEnding}
use Rattle.drive_command.specs.declared.mount.MountError.{MountError}
use Rattle.drive_command.specs.Ending.{history_name, out_name}
use Rattle.drive_command.specs.Drive.{Start, IsSinkLent, SinksRan, no_names, no_history, no_replies, lent}

-- the sink was lent under a name that is this one
pub sink_lent : (name given : List ℕ) (before : SinkTold) (old new : Outside) → given ≡ name → (IsSome old.holds → before ≡ empty_sink)
    → new ≡ after_ask TakeSink given (Some Given) old → IsSinkLent name before old new
sink_lent name given before old new same empty after = record { given = empty; after = after ∙ ap (λ (n : List ℕ). after_ask TakeSink n (Some Given) old) same }

-- the sink was refused under a name that is this one
pub sink_refused_as : (name given : List ℕ) (error : HostError) (old new : Outside) → given ≡ name → new ≡ after_ask TakeSink given (refused_with error) old
    → new ≡ after_ask TakeSink name (refused_with error) old
sink_refused_as name given error old new same after = after ∙ ap (λ (n : List ℕ). after_ask TakeSink n (refused_with error) old) same

-- the sink is back under a name that is this one
pub sink_back : (name given : List ℕ) (told : SinkTold) (mid at new : Outside) → given ≡ name → mid ≡ at → new ≡ with_sink given told mid → new ≡ with_sink name told at
sink_back name given told mid at new same same_mid after =
    after ∙ ap (λ (n : List ℕ). with_sink n told mid) same ∙ ap (with_sink name told) same_mid

-- the disks of a host stay
abbrev SameDisks : Outside → Outside → Type 0
SameDisks old new = option_map (λ (h : Holdings). h.disks) new.holds ≡ option_map (λ (h : Holdings). h.disks) old.holds

sink_ask_keeps : (name : List ℕ) (o : Outside) → SameDisks o (after_ask TakeSink name (Some Given) o)
sink_ask_keeps name o = of_holds o.holds
  where
    of_holds : (holds : Option Holdings) → option_map (λ (h : Holdings). h.disks) (option_map (with_loan TakeSink name) holds) ≡ option_map (λ (h : Holdings). h.disks) holds
    of_holds None = refl
    of_holds (Some h) = refl

sink_refusal_keeps : (name : List ℕ) (error : HostError) (o : Outside) → SameDisks o (after_ask TakeSink name (refused_with error) o)
sink_refusal_keeps name hosts.Missing o = refl
sink_refusal_keeps name hosts.Failed o = refl
sink_refusal_keeps name hosts.Mem o = refl

sink_back_keeps : (name : List ℕ) (told : SinkTold) (o : Outside) → SameDisks o (with_sink name told o)
sink_back_keeps name told o = elim o.holds as (λ h. option_map (λ (k : Holdings). k.disks) (with_sink name told (record o { holds = h })).holds ≡ option_map (λ (k : Holdings). k.disks) h) [ None ↦ refl | Some h ↦ refl ]

moved : (old new at : Outside) → new ≡ at → SameDisks old at → SameDisks old new
moved old new at is same = ap (λ (o : Outside). option_map (λ (h : Holdings). h.disks) o.holds) is ∙ same

both : (a b c : Outside) → SameDisks a b → SameDisks b c → SameDisks a c
both a b c first second = second ∙ first

sinks_keep : (volume script : List ℕ) (s : Start) (ending : DriveEnding) (disk_old disk_new : DiskTold) (old new : Outside) → SinksRan volume script s ending disk_old disk_new old new → SameDisks old new
sinks_keep volume script s ending disk_old disk_new old new (no_names is same after) = moved old new old after refl
sinks_keep volume script s ending disk_old disk_new old new (no_history error found refusal same after) =
    moved old new (after_ask TakeSink (history_name volume) (refused_with error) old) after (sink_refusal_keeps (history_name volume) error old)
sinks_keep volume script s ending disk_old disk_new old new (no_replies error history noted taken found refusal same after) =
    let first = moved old noted (after_ask TakeSink (history_name volume) (Some Given) old) taken.after (sink_ask_keeps (history_name volume) old) in
    let asked = after_ask TakeSink (out_name script) (refused_with error) noted in
    let second = both old noted asked first (sink_refusal_keeps (out_name script) error noted) in
    moved old new (with_sink (history_name volume) history asked) after (both old asked (with_sink (history_name volume) history asked) second (sink_back_keeps (history_name volume) history asked))
sinks_keep volume script s ending disk_old disk_new old new (lent history kept replies told noted heard taken given session after) =
    let first = moved old noted (after_ask TakeSink (history_name volume) (Some Given) old) taken.after (sink_ask_keeps (history_name volume) old) in
    let second = both old noted heard first (moved noted heard (after_ask TakeSink (out_name script) (Some Given) noted) given.after (sink_ask_keeps (out_name script) noted)) in
    let left = with_sink (out_name script) told heard in
    let third = both old heard left second (sink_back_keeps (out_name script) told heard) in
    moved old new (with_sink (history_name volume) kept left) after (both old left (with_sink (history_name volume) kept left) third (sink_back_keeps (history_name volume) kept left))

same_lent : (name : List ℕ) (old new : Option Holdings) → option_map (λ (h : Holdings). h.disks) new ≡ option_map (λ (h : Holdings). h.disks) old
    → ForSome old (IsLentDisk name) → (h : Holdings) → new ≡ Some h → IsLentDisk name h
same_lent name None new same given h is = absurd (cc (same, ap (option_map (λ (h : Holdings). h.disks)) is))
same_lent name (Some k) new same given h is =
    let disks : h.disks ≡ k.disks = cc (same, ap (option_map (λ (h : Holdings). h.disks)) is) in
    ap (λ d. d name) disks ∙ given k refl

-- a disk that was taken is lent
taken_is_lent : (name : List ℕ) (old new : Outside) → new ≡ after_ask TakeDisk name (Some Given) old → ForSome new.holds (IsLentDisk name)
taken_is_lent name old new is h held =
    of_holdings old.holds (sym (ap (λ (o : Outside). o.holds) is) ∙ held)
  where
    of_holdings : (holds : Option Holdings) → option_map (with_loan TakeDisk name) holds ≡ Some h → IsLentDisk name h
    of_holdings None at = absurd (cc (at))
    of_holdings (Some k) at =
        let same : with_loan TakeDisk name k ≡ h = cc (at) in
        ap (λ (x : Holdings). x.disks name) (sym same) ∙ with_place-name k.disks name lent_place

-- a disk that was taken is still lent once the sinks are back
pub disk_still_lent : (volume script : List ℕ) (s : Start) (ending : DriveEnding) (disk_old disk_new : DiskTold) (name : List ℕ) (old at new : Outside)
    → at ≡ after_ask TakeDisk name (Some Given) old → SinksRan volume script s ending disk_old disk_new at new → ForSome new.holds (IsLentDisk name)
disk_still_lent volume script s ending disk_old disk_new name old at new taken session =
    same_lent name at.holds new.holds (sinks_keep volume script s ending disk_old disk_new at new session) (taken_is_lent name old at taken)

-- the moment is the one that the host told at first
pub same_moment : (moment : ℕ) (first second : Outside) → second.moment ≡ first.moment → IfSome second.moment (λ told. moment ≡ told) → IfSome first.moment (λ told. moment ≡ told)
same_moment moment first second same is = subst (λ (m : Option ℕ). IfSome m (λ told. moment ≡ told)) same is

-- the moment of a host stays while it lends a source
pub source_keeps_moment : (name : List ℕ) (old new : Outside) → new ≡ after_ask TakeSource name (Some Given) old → new.moment ≡ old.moment
source_keeps_moment name old new is = ap (λ (o : Outside). o.moment) is

pub disk_keeps_moment : (name : List ℕ) (old new : Outside) → new ≡ after_ask TakeDisk name (Some Given) old → new.moment ≡ old.moment
disk_keeps_moment name old new is = ap (λ (o : Outside). o.moment) is

-- the last call failed just where the refusal is this one
pub fails_as : {T : Type 0} (why fault : MountError) (before now : DiskTold) → FailsJustAt (IsErrOf {T = T} (Err why) fault) before now → FailsJustAt (why ≡ fault) before now
fails_as why fault before now fails = record { failed = λ is. fails.failed (ap (λ (x : MountError). Err x) is); none = λ other. fails.none (λ is. other (cc (is))) }
