use Rattle.std.proofs.Common.{Err, refl, ◌∙◌, ap}
use Rattle.drive_command.specs.Ending.{history_name, out_name}
use Rattle.drive_command.specs.Drive.{no_history, no_replies, lent}
use Rattle.drive_command.proofs.OutsideSteps.{sink_lent, sink_refused_as, sink_back}
use Rattle.drive_command.proofs.drive.with_sinks.Goals as goal

pub returns-in-Err : goal.returns-in-Err
returns-in-Err g c = λ content schedule text at turns lines.
    let name = history_name c.args.volume.now in
    let error = c.in-Err.error in
    no_history error (λ missing. c.in-Err.ensures.not_missing (ap (λ e. Err e) missing)) c.sink_refused.ensures refl
    (sink_refused_as name c.as_str.result.now error (g.H.Host.outside c.args.host.now) (g.H.Host.outside c.take_sink.new.self) (c.as_str.ensures.value ∙ c.in-Ok.ensures) c.in-Err.ensures.after)

pub returns-in-Err-take_sink : goal.returns-in-Err-take_sink
returns-in-Err-take_sink g c = λ content schedule text at turns lines.
    let outside = g.H.Host.outside in
    let name = history_name c.args.volume.now in
    let error = c.in-Err-take_sink.error in
    let history = g.H.K.Sink.told c.in-Ok-take_sink.history in
    let noted = outside c.take_sink.new.self in
    no_replies error history noted
    (sink_lent name c.as_str.result.now history (outside c.args.host.now) noted (c.as_str.ensures.value ∙ c.in-Ok.ensures) c.in-Ok-take_sink.ensures.given c.in-Ok-take_sink.ensures.after)
    (λ missing. c.in-Err-take_sink.ensures.not_missing (ap (λ e. Err e) missing)) c.sink_refused-in-Err-take_sink.ensures refl
    (sink_back name c.as_str-in-Err-take_sink.result.now history (outside c.take_sink-2.new.self) _ (outside c.give_sink.new.self) (c.as_str-in-Err-take_sink.ensures.value ∙ c.in-Ok.ensures)
    (sink_refused_as (out_name c.args.script.now) c.as_str-2.result.now error noted (outside c.take_sink-2.new.self) (c.as_str-2.ensures.value ∙ c.in-Ok-out_name.ensures) c.in-Err-take_sink.ensures.after) c.give_sink.ensures)

pub returns : goal.returns
returns g c = λ content schedule text at turns lines.
    let outside = g.H.Host.outside in
    let told = g.H.K.Sink.told in
    let name = history_name c.args.volume.now in
    let out = out_name c.args.script.now in
    let noted = outside c.take_sink.new.self in
    let heard = outside c.take_sink-2.new.self in
    lent (told c.in-Ok-take_sink.history) (told c.run_session-ending.new.history) (told c.in-Ok-take_sink-2.replies) (told c.run_session-ending.new.replies) noted heard
    (sink_lent name c.as_str.result.now (told c.in-Ok-take_sink.history) (outside c.args.host.now) noted (c.as_str.ensures.value ∙ c.in-Ok.ensures) c.in-Ok-take_sink.ensures.given c.in-Ok-take_sink.ensures.after)
    (sink_lent out c.as_str-2.result.now (told c.in-Ok-take_sink-2.replies) noted heard (c.as_str-2.ensures.value ∙ c.in-Ok-out_name.ensures) c.in-Ok-take_sink-2.ensures.given c.in-Ok-take_sink-2.ensures.after)
    (c.run_session-ending.ensures content schedule text at turns lines)
    (sink_back name c.as_str-4.result.now (told c.run_session-ending.new.history) (outside c.give_sink-2.new.self) _ (outside c.give_sink-3.new.self) (c.as_str-4.ensures.value ∙ c.in-Ok.ensures)
    (sink_back out c.as_str-3.result.now (told c.run_session-ending.new.replies) heard heard (outside c.give_sink-2.new.self) (c.as_str-3.ensures.value ∙ c.in-Ok-out_name.ensures) refl c.give_sink-2.ensures) c.give_sink-3.ensures)
