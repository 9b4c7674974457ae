use Rattle.std.proofs.Common.{◌≡◌, ◌∙◌, Some, Result, Err, List, ℕ, ap, subst, arith}
use Rattle.std.specs.Prelude.{IfSome, IfOk, IfErr, IsErrOf}
use Rattle.volume_model.specs.Format.{Image}
use Rattle.sector_disk.specs.Disk.{FailsJustAt}
use Rattle.drive_command.specs.declared.mount.Mounted.{Mounted}
use Rattle.drive_command.specs.declared.mount.MountError.{MountError}
use Rattle.drive_command.specs.declared.mount.MountError.TheVariants as refusals
use Rattle.drive_command.specs.Volume.{IsRefusalOf, IsMounted, not_lent, refused}
use Rattle.plain_session.specs.ServedLines.{turns_in}
use Rattle.drive_command.specs.Drive.{Start, no_schedule, no_script, no_volume, opened}
use Rattle.drive_command.proofs.OutsideSteps.{disk_still_lent, same_moment, source_keeps_moment, disk_keeps_moment, fails_as}
use Rattle.drive_command.proofs.drive.drive_named.Goals as goal

pub returns-in-Err : goal.returns-in-Err
returns-in-Err g c = no_schedule c.in-Err.ensures

pub returns-in-Err-read_script : goal.returns-in-Err-read_script
returns-in-Err-read_script g c = no_script c.in-Ok.schedule (g.H.Host.outside c.read_source.new.host) c.in-Ok.ensures c.in-Err-read_script.ensures

pub returns-in-Err-take_disk : goal.returns-in-Err-take_disk
returns-in-Err-take_disk g c =
    let read = c.in-Ok-read_script.ensures in
    no_volume c.in-Ok.schedule read.0 (g.H.Host.outside c.read_source.new.host) (g.H.Host.outside c.read_script.new.host) c.in-Ok.ensures read.1
    (not_lent c.in-Err-take_disk.error c.disk_refused.ensures (λ missing. c.in-Err-take_disk.ensures.missing (ap (λ e. Err e) missing)) c.in-Err-take_disk.ensures.after)

pub give_disk-requires : goal.give_disk-requires
give_disk-requires g c =
    let told = g.H.D.Disk.told in
    let outside = g.H.Host.outside in
    let read = c.in-Ok-read_script.ensures in
    let m = c.in-Ok-mounted.mounted in
    let before = told c.in-Ok-take_disk.disk in
    let now = told c.mount-disk.result.0 in
    let mounted = subst (λ (r : Result Mounted MountError). IfOk r (λ x. (content : Image) × (x.store.geometry ≡ x.geometry) × (Some x.store.image.items ≡ Some content) × IsMounted x.geometry x.header content before now))
    c.in-Ok-mounted.is c.mount-disk.ensures.mounted in
    let s : Start = record { geometry = m.geometry; header = m.header; content = mounted.0; moment = c.moment-moment.result; schedule = c.in-Ok.schedule; script = read.0 } in
    disk_still_lent c.args.volume.now c.args.script.now s c.with_sinks-ending.result now (told c.with_sinks-ending.new.disk) c.args.volume.now (outside c.read_script.new.host) (outside c.moment-moment.new.self) (outside c.with_sinks-ending.new.host)
    (c.moment-moment.ensures.after ∙ c.in-Ok-take_disk.ensures.after)
    (c.with_sinks-ending.ensures mounted.0 c.in-Ok.schedule read.0 mounted.2 (c.turns_in-turns.ensures ∙ ap (λ (l : List ℕ). turns_in l) c.as_slice.ensures) read.2)

pub returns-in-Ok-mounted : goal.returns-in-Ok-mounted
returns-in-Ok-mounted g c =
    let told = g.H.D.Disk.told in
    let outside = g.H.Host.outside in
    let read = c.in-Ok-read_script.ensures in
    let m = c.in-Ok-mounted.mounted in
    let before = told c.in-Ok-take_disk.disk in
    let now = told c.mount-disk.result.0 in
    let mounted = subst (λ (r : Result Mounted MountError). IfOk r (λ x. (content : Image) × (x.store.geometry ≡ x.geometry) × (Some x.store.image.items ≡ Some content) × IsMounted x.geometry x.header content before now))
    c.in-Ok-mounted.is c.mount-disk.ensures.mounted in
    let s : Start = record { geometry = m.geometry; header = m.header; content = mounted.0; moment = c.moment-moment.result; schedule = c.in-Ok.schedule; script = read.0 } in
    let old = outside c.args.host.now in
    let planned = outside c.read_source.new.host in
    let script = outside c.read_script.new.host in
    let taken = outside c.take_disk.new.self in
    let same = disk_keeps_moment c.args.volume.now script taken c.in-Ok-take_disk.ensures.after
    ∙ source_keeps_moment c.args.script.now planned script read.1.source.lent.after ∙ source_keeps_moment c.args.schedule.now old planned c.in-Ok.ensures.lent.after in
    opened s before now (told c.with_sinks-ending.new.disk) (outside c.moment-moment.new.self) (outside c.with_sinks-ending.new.host)
    (record {
      planned = planned;
      read = script;
      schedule_read = c.in-Ok.ensures;
      script_read = read.1;
      disk_lent = record { given = c.in-Ok-take_disk.ensures.given; after = c.moment-moment.ensures.after ∙ c.in-Ok-take_disk.ensures.after };
      mounted = mounted.3;
      moment = same_moment c.moment-moment.result old taken same c.moment-moment.ensures.value;
      moment_fits = omega (arith, c.moment-moment.type_inv);
    })
    (c.with_sinks-ending.ensures mounted.0 c.in-Ok.schedule read.0 mounted.2 (c.turns_in-turns.ensures ∙ ap (λ (l : List ℕ). turns_in l) c.as_slice.ensures) read.2)
    c.give_disk.ensures

pub returns-in-Err-mounted : goal.returns-in-Err-mounted
returns-in-Err-mounted g c =
    let told = g.H.D.Disk.told in
    let outside = g.H.Host.outside in
    let read = c.in-Ok-read_script.ensures in
    let why = c.in-Err-mounted.why in
    let before = told c.in-Ok-take_disk.disk in
    let now = told c.mount-disk.result.0 in
    no_volume c.in-Ok.schedule read.0 (outside c.read_source.new.host) (outside c.read_script.new.host) c.in-Ok.ensures read.1
    (refused before now (outside c.take_disk.new.self) (record { given = c.in-Ok-take_disk.ensures.given; after = c.in-Ok-take_disk.ensures.after }) why c.refused.ensures
    (subst (λ (r : Result Mounted MountError). IfErr r (λ x. IfSome before.present (λ image. IsRefusalOf image x))) c.in-Err-mounted.is c.mount-disk.ensures.refused)
    c.mount-disk.ensures.unwritten
    (fails_as {T = Mounted} why refusals.Disk before now (subst (λ (r : Result Mounted MountError). FailsJustAt (IsErrOf r refusals.Disk) before now) c.in-Err-mounted.is c.mount-disk.ensures.failure))
    c.give_disk-in-Err-mounted.ensures)
