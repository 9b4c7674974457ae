use Rattle.std.proofs.Common.{arith}
use Rattle.plain_image.proofs.BlockSteps.{on_err}
use Rattle.plain_image.proofs.HomesLoop.{room_of}
use Rattle.plain_image.proofs.BackCalls.{all_form, all_calls, stopped_form, stopped_calls}
use Rattle.plain_image.proofs.BackContent.{holds_image, stopped_partly, all_partly}
use Rattle.plain_image.proofs.write.write_image.Goals as goal
use Rattle.sector_disk.proofs.MadeCalls.{CanCount}

pub returns-in_err-write_homes-clause-calls : goal.returns-in_err-write_homes-clause-calls
returns-in_err-write_homes-clause-calls g c =
    let old = g.D.Disk.told c.args.disk.now in
    let fits : CanCount old = omega (arith, c.calls-calls.ensures.value) in
    stopped_calls c.from_residual.result c.args.g.now c.args.header.now c.args.image.now old _ fits c.requires.image c.from_residual.ensures.0 c.in_err-write_homes.ensures.stopped
    (room_of c.args.g.now old.present old.sectors (g.met.D.Disk.size c.args.disk.now) c.requires.room)

pub returns-in_err-write_homes-clause-form : goal.returns-in_err-write_homes-clause-form
returns-in_err-write_homes-clause-form g c =
    let old = g.D.Disk.told c.args.disk.now in
    let fits : CanCount old = omega (arith, c.calls-calls.ensures.value) in
    stopped_form c.from_residual.result c.args.g.now c.args.header.now c.args.image.now old _ fits c.from_residual.ensures.0 c.in_err-write_homes.ensures.stopped

pub returns-clause-calls : goal.returns-clause-calls
returns-clause-calls g c =
    let old = g.D.Disk.told c.args.disk.now in
    let fits : CanCount old = omega (arith, c.calls-calls.ensures.value) in
    all_calls c.empty_log.result c.args.g.now c.args.header.now c.args.image.now old _ fits (g.D.Disk.told c.write_homes.new.disk) c.in_ok-write_homes.ensures.written c.empty_log.ensures.calls

pub returns-clause-form : goal.returns-clause-form
returns-clause-form g c =
    let old = g.D.Disk.told c.args.disk.now in
    let fits : CanCount old = omega (arith, c.calls-calls.ensures.value) in
    all_form c.empty_log.result c.args.g.now c.args.header.now c.args.image.now old _ fits (g.D.Disk.told c.write_homes.new.disk) c.in_ok-write_homes.ensures.written c.empty_log.ensures.calls

pub returns-in_err-write_homes-clause-partly : goal.returns-in_err-write_homes-clause-partly
returns-in_err-write_homes-clause-partly g c =
    let old = g.D.Disk.told c.args.disk.now in
    on_err c.from_residual.result
    (stopped_partly c.args.g.now c.args.header.now c.args.image.now c.requires.geometry c.requires.image old (g.D.Disk.told c.write_homes.new.disk)
    (room_of c.args.g.now old.present old.sectors (g.met.D.Disk.size c.args.disk.now) c.requires.room) c.in_err-write_homes.ensures.stopped)

pub returns-clause-holds : goal.returns-clause-holds
returns-clause-holds g c =
    let old = g.D.Disk.told c.args.disk.now in
    let gn = c.args.g.now in
    holds_image gn c.args.header.now c.args.image.now c.requires.geometry c.requires.image old (g.D.Disk.told c.empty_log.new.disk)
    (room_of gn old.present old.sectors (g.met.D.Disk.size c.args.disk.now) c.requires.room) c.requires.epoch c.empty_log.result (g.D.Disk.told c.write_homes.new.disk)
    c.in_ok-write_homes.ensures.written c.empty_log.ensures.calls

pub returns-clause-partly : goal.returns-clause-partly
returns-clause-partly g c =
    let old = g.D.Disk.told c.args.disk.now in
    let gn = c.args.g.now in
    on_err c.empty_log.result
    (all_partly gn c.args.header.now c.args.image.now c.requires.geometry c.requires.image old (g.D.Disk.told c.empty_log.new.disk)
    (room_of gn old.present old.sectors (g.met.D.Disk.size c.args.disk.now) c.requires.room) (g.D.Disk.told c.write_homes.new.disk) c.in_ok-write_homes.ensures.written c.empty_log.ensures.partly)
