use Rattle.std.proofs.Common.{Result, Err, refl, ap, subst}
use Rattle.std.specs.Prelude.{IfSome, IfOk, IsErrOf}
use Rattle.sector_disk.specs.Disk.{FailsJustAt}
use Rattle.meta_store.specs.declared.error.StoreError.{StoreError}
use Rattle.meta_store.specs.declared.error.StoreError.TheVariants.{Disk}
use Rattle.lufs_top.specs.declared.check.CheckEnding.{CheckEnding}
use Rattle.lufs_top.specs.Check.{IsCheckOf}
use Rattle.lufs_top.specs.Borrowed.{not_lent, read}
use Rattle.lufs_top.proofs.CommandSteps.{lent_and_back, none_fails}
use Rattle.lufs_top.proofs.CheckSteps.{check_stopped}
use Rattle.lufs_top.proofs.check.check_named.Goals as goal

pub returns-in-Err : goal.returns-in-Err
returns-in-Err g c =
    not_lent c.in-Err.error c.refused.ensures (record { none = λ missing. c.in-Err.ensures.missing (ap (λ e. Err e) missing); after = c.in-Err.ensures.after })

pub returns-in-Ok-ended : goal.returns-in-Ok-ended
returns-in-Ok-ended g c =
    let before = g.H.D.Disk.told c.in-Ok.disk in
    let now = g.H.D.Disk.told c.check_volume-disk.result.0 in
    let outside = g.H.Host.outside in
    let fails = subst (λ (r : Result CheckEnding StoreError). FailsJustAt (IsErrOf r Disk) before now) c.in-Ok-ended.is c.check_volume-disk.ensures.failure in
    let found = subst (λ (r : Result CheckEnding StoreError). IfSome before.present (λ image. IfOk r (IsCheckOf image))) c.in-Ok-ended.is c.check_volume-disk.ensures.ended in
    read before now (lent_and_back c.args.volume.now before now (outside c.args.host.now) (outside c.take_disk.new.self) (outside c.give_disk.new.self) c.in-Ok.ensures.given c.in-Ok.ensures.after c.give_disk.ensures)
    c.check_volume-disk.ensures.unwritten (none_fails fails (λ p. cc) (λ q. q)) (refl, found)

pub returns-in-Err-ended : goal.returns-in-Err-ended
returns-in-Err-ended g c =
    let before = g.H.D.Disk.told c.in-Ok.disk in
    let now = g.H.D.Disk.told c.check_volume-disk.result.0 in
    let outside = g.H.Host.outside in
    let fails = subst (λ (r : Result CheckEnding StoreError). FailsJustAt (IsErrOf r Disk) before now) c.in-Err-ended.is c.check_volume-disk.ensures.failure in
    let is = check_stopped c.in-Err-ended.error c.args.volume.now c.stopped.result before now c.stopped.ensures fails in
    read before now (lent_and_back c.args.volume.now before now (outside c.args.host.now) (outside c.take_disk.new.self) (outside c.give_disk.new.self) c.in-Ok.ensures.given c.in-Ok.ensures.after c.give_disk.ensures)
    c.check_volume-disk.ensures.unwritten is.0 is.1
