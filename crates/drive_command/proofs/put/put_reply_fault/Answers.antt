use Rattle.drive_command.proofs.put.put_reply_fault.Goals as goal

pub returns-in-History : goal.returns-in-History
returns-in-History g c = rw (c.in-History.is, ← c.as_bytes.ensures.value) c.put_sink.ensures

pub returns-in-Replies : goal.returns-in-Replies
returns-in-Replies g c = rw (c.in-Replies.is, ← c.as_bytes-in-Replies.ensures.value) c.put_sink-in-Replies.ensures
