use Rattle.script_text.proofs.PutLemmas.{puts_both}
use Rattle.script_text.proofs.replies.put_info.Goals as goal

pub returns-clause-put : goal.returns-clause-put
returns-clause-put g c =
    puts_both c.put_spaced.ensures.put
    (puts_both c.put_type.ensures
    (puts_both c.put_rights.ensures
    (puts_both c.put_spaced-2.ensures.put
    (puts_both c.put_spaced-3.ensures.put
    (puts_both c.put_spaced-4.ensures.put
    (puts_both c.put_spaced-5.ensures.put
    (puts_both c.put_spaced-6.ensures.put c.put_spaced-7.ensures.put)))))))
