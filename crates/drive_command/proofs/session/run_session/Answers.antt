use Rattle.std.proofs.Common.{◌≡◌, [], refl, sym, ◌∙◌, subst, arith}
use Rattle.lufs_base.specs.declared.geometry.Geometry.{Geometry}
use Rattle.volume_model.specs.Format.{Image, block}
use Rattle.volume_model.specs.Sound.{Sound, StandsFor}
use Rattle.plain_image.proofs.SameHomes.{stands_too}
use Rattle.drive_command.specs.Volume.{opening_of}
use Rattle.drive_command.specs.Drive.{Start, ran}
use Rattle.drive_command.proofs.SessionSteps.{session_ran, written_stands}
use Rattle.drive_command.proofs.session.run_session.Goals as goal

pub returns : goal.returns
returns g c = λ content schedule text at turns lines.
    let m = c.args.mounted in
    let k = m.geometry in
    let same : m.store.image.items ≡ content = cc (at) in
    let s : Start = record { geometry = k; header = m.header; content = content; moment = c.args.task.moment; schedule = schedule; script = text } in
    let image = c.as_slice.result.now in
    let sound : Sound k (block content) [] = subst (λ (x : Image). Sound k (block x) []) same c.requires.sound in
    let opened : StandsFor k (block content) (opening_of k content) [] = record { sound = sound; stands = refl } in
    let stood = subst (λ (x : Geometry). StandsFor x (block m.store.image.items) (opening_of k content) []) (sym c.requires.store)
    (subst (λ (x : Image). StandsFor k (block x) (opening_of k content) []) (sym same) opened) in
    let left : c.in-Ok.session.store.image.items ≡ c.into_image-image.result.items = cc (c.into_image-image.ensures) in
    ran (session_ran c.args.volume.now c.args.script.now s c.ending_of.result
    (g.D.Disk.told c.args.disk.now) (g.D.Disk.told c.write_image-written.new.disk) (g.K.Sink.told c.args.history.now) (g.K.Sink.told c.keep_history-kept.new.sink) (g.K.Sink.told c.args.replies.now) (g.K.Sink.told c.serve_lines-served.new.sink)
    m.store.geometry c.args.task.lines.items c.args.task.turns c.calls-calls.result c.len-lines.result image c.in-Ok.session.store.image.items c.in-Ok.session.entries.items c.as_slice-entries.result.now c.in-Ok.session.deaf c.write_image-written.result c.keep_history-kept.result
    c.requires.store lines turns c.calls-calls.ensures.value (omega (arith, c.len-lines.ensures, c.args.task.lines.ok.0)) (left ∙ sym c.as_slice.ensures.value) c.as_slice-entries.ensures.value
    (c.in-Ok.ensures.served (opening_of k content) stood)
    c.in-Ok.ensures.deaf
    (λ tree stands. record {
      calls = c.write_image-written.ensures.calls;
      form = c.write_image-written.ensures.form;
      holds = c.write_image-written.ensures.holds;
      stands = written_stands k m.header image tree c.write_image-written.result _ _ (λ there now is. stands_too k c.requires.geometry (block image) (block now) tree [] is.blocks stands) c.write_image-written.ensures.holds;
      partly = c.write_image-written.ensures.partly;
      failure = c.write_image-written.ensures.failure;
    })
    c.keep_history-kept.ensures c.ending_of.ensures)
