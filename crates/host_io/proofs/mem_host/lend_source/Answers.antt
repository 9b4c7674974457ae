use Rattle.host_io.proofs.mem_host.lend_source.Goals as goal

pub returns-in-Some-clause-ok : goal.returns-in-Some-clause-ok
returns-in-Some-clause-ok c = rw c.as_bytes.ensures.value at c.in-Some.ensures.some
