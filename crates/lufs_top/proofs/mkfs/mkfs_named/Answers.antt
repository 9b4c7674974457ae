use Rattle.std.proofs.Common.{Err, refl, ◌∙◌, ap, arith}
use Rattle.new_volume.specs.declared.make.MkfsError.{MkfsError}
use Rattle.host_io.specs.declared.host.AskKind.TheVariants.{MakeDisk}
use Rattle.host_io.specs.Outside.{after_ask, refused_with}
use Rattle.lufs_top.specs.Mkfs.{out_of_range, not_made}
use Rattle.lufs_top.proofs.CommandSteps.{none_fails}
use Rattle.lufs_top.proofs.MkfsSteps.{mkfs_worked, mkfs_failed}
use Rattle.lufs_top.proofs.mkfs.mkfs_named.Goals as goal

pub returns-in-Err : goal.returns-in-Err
returns-in-Err g c = out_of_range c.in-Err.bad c.in-Err.ensures.bad refl refl

pub returns-in-Err-make_disk : goal.returns-in-Err-make_disk
returns-in-Err-make_disk g c =
    not_made c.in-Err-make_disk.error c.in-Ok.ensures.in_range c.refused.ensures (record {
      not_missing = λ missing. c.in-Err-make_disk.ensures.not_missing (ap (λ e. Err e) missing);
      after = c.in-Err-make_disk.ensures.after ∙ ap (after_ask MakeDisk c.args.volume.now (refused_with c.in-Err-make_disk.error)) c.moment-moment.ensures.after;
    })

pub returns-in-Ok-made : goal.returns-in-Ok-made
returns-in-Ok-made g c =
    let before = g.H.D.Disk.told c.in-Ok-make_disk.disk in
    let now = g.H.D.Disk.told c.mkfs-made.new.disk in
    let outside = g.H.Host.outside in
    mkfs_worked c.args.volume.now c.args.numbers _ c.in-Ok.g c.moment-moment.result before now (outside c.args.host.now) (outside c.moment-moment.new.self) (outside c.make_disk.new.self) (outside c.give_disk.new.self)
    c.in-Ok.ensures.geometry c.in-Ok.ensures.in_range c.moment-moment.ensures.value (omega (arith, c.moment-moment.type_inv)) c.moment-moment.ensures.after _ c.in-Ok-make_disk.ensures.given (omega (arith, c.total.ensures, c.from.ensures)) c.in-Ok-make_disk.ensures.after c.give_disk.ensures
    c.mkfs-made.ensures.crash (none_fails c.in-Ok-made.ensures.failure (λ p. cc) (λ q. q)) (c.in-Ok-mkfs_text.ensures, c.in-Ok-made.ensures.made)

pub returns-in-Err-made : goal.returns-in-Err-made
returns-in-Err-made g c =
    let before = g.H.D.Disk.told c.in-Ok-make_disk.disk in
    let now = g.H.D.Disk.told c.mkfs-made.new.disk in
    let outside = g.H.Host.outside in
    let is = mkfs_failed c.in-Err-made.error c.args.volume.now c.failed.result c.in-Ok.g c.moment-moment.result before now c.failed.ensures (λ n is. c.in-Err-made.ensures.only_small n (ap (λ (e : MkfsError). Err e) is)) c.in-Err-made.ensures.unwritten c.in-Err-made.ensures.failure in
    mkfs_worked c.args.volume.now c.args.numbers _ c.in-Ok.g c.moment-moment.result before now (outside c.args.host.now) (outside c.moment-moment.new.self) (outside c.make_disk.new.self) (outside c.give_disk.new.self)
    c.in-Ok.ensures.geometry c.in-Ok.ensures.in_range c.moment-moment.ensures.value (omega (arith, c.moment-moment.type_inv)) c.moment-moment.ensures.after _ c.in-Ok-make_disk.ensures.given (omega (arith, c.total.ensures, c.from.ensures)) c.in-Ok-make_disk.ensures.after c.give_disk.ensures
    c.mkfs-made.ensures.crash is.0 is.1
