use Rattle.host_io.proofs.mem_host.lend_sink.Goals as goal

pub returns-clause-ok : goal.returns-clause-ok
returns-clause-ok c = rw c.as_bytes.ensures.value at c.in_ok-lend_new.ensures.ok
