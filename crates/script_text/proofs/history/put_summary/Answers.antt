use Rattle.script_text.proofs.PutLemmas.{puts_both}
use Rattle.script_text.proofs.history.put_summary.Goals as goal

pub returns : goal.returns
returns g c =
    puts_both (puts_both c.put.ensures c.put_spaced.ensures.put)
    (puts_both (puts_both c.put-2.ensures c.put_spaced-2.ensures.put)
    (puts_both (puts_both c.put-3.ensures c.put_spaced-3.ensures.put)
    (puts_both (puts_both c.put-4.ensures c.put_spaced-4.ensures.put) c.put-5.ensures)))
