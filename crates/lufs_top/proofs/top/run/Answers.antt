use Rattle.std.proofs.Common.{Option, Err, ap, subst}
use Rattle.host_io.specs.Outside.{Outside}
use Rattle.lufs_top.specs.Words.{Command, command_of}
use Rattle.lufs_top.specs.Run.{Ran, Runs, no_output, ran}
use Rattle.lufs_top.proofs.CommandKeeps.{still_lent, taken_is_lent}
use Rattle.lufs_top.proofs.RunClauses.{run_usage, run_no_command, run_statuses, run_asks, run_others}
use Rattle.lufs_top.proofs.RunCauses.{run_causes}
use Rattle.lufs_top.proofs.RunBack.{run_back}
use Rattle.lufs_top.proofs.RunVerdict.{run_verdict}
use Rattle.lufs_top.proofs.RunSession.{run_session}
use Rattle.lufs_top.proofs.top.run.Goals as goal

pub returns-in-Err : goal.returns-in-Err
returns-in-Err g c =
    let command = command_of c.args.words.now in
    let old = g.H.Host.outside c.args.host.now in
    let new = g.H.Host.outside c.take_sink.new.self in
    let run : Runs command c.status_without_output.result old new =
    no_output c.in-Err.error (λ missing. c.in-Err.ensures.not_missing (ap (λ e. Err e) missing)) c.status_without_output.ensures c.in-Err.ensures.after in
    record {
      ran = run;
      usage = run_usage command _ old new run;
      no_command = λ none. run_no_command _ old new (subst (λ (k : Option Command). Runs k c.status_without_output.result old new) none run);
      statuses = run_statuses command _ old new run;
      asks = run_asks command _ old new run;
      causes = run_causes command _ old new run;
      others = run_others command _ old new run;
      back = run_back command _ old new run;
      verdict = run_verdict command _ old new run;
      session = run_session command _ old new run;
    }

pub give_sink-requires : goal.give_sink-requires
give_sink-requires g c =
    let outside = g.H.Host.outside in
    still_lent _ c.run_words-ending.result (outside c.take_sink.new.self) (outside c.run_words-ending.new.host) c.run_words-ending.ensures
    (taken_is_lent _ (outside c.args.host.now) (outside c.take_sink.new.self) c.in-Ok.ensures.after)

pub returns : goal.returns
returns g c =
    let outside = g.H.Host.outside in
    let command = command_of c.args.words.now in
    let old = outside c.args.host.now in
    let new = outside c.give_sink.new.self in
    let run : Runs command c.report-status.result old new =
    ran c.run_words-ending.result (g.H.K.Sink.told c.in-Ok.out) (g.H.K.Sink.told c.report-status.new.out) (outside c.run_words-ending.new.host)
    (subst (λ (o : Outside). Ran command c.run_words-ending.result o (outside c.run_words-ending.new.host)) c.in-Ok.ensures.after c.run_words-ending.ensures)
    c.in-Ok.ensures.given c.report-status.ensures c.give_sink.ensures in
    record {
      ran = run;
      usage = run_usage command _ old new run;
      no_command = λ none. run_no_command _ old new (subst (λ (k : Option Command). Runs k c.report-status.result old new) none run);
      statuses = run_statuses command _ old new run;
      asks = run_asks command _ old new run;
      causes = run_causes command _ old new run;
      others = run_others command _ old new run;
      back = run_back command _ old new run;
      verdict = run_verdict command _ old new run;
      session = run_session command _ old new run;
    }
