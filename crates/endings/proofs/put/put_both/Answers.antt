use Rattle.endings.proofs.PutTexts.{puts_both, puts_cut}
use Rattle.endings.proofs.put.put_both.Goals as goal

pub returns-in_err-put : goal.returns-in_err-put
returns-in_err-put g c =
    puts_cut c.args.first.now c.args.second.now c.in_err-put.field-0.0 c.from_residual.result _ _ c.from_residual.ensures.0 c.in_err-put.ensures

pub returns : goal.returns
returns g c = puts_both c.args.first.now c.args.second.now c.in_ok-put.field-0 c.put-2.result _ (g.K.Sink.told c.put.new.self) _ c.in_ok-put.ensures c.put-2.ensures
