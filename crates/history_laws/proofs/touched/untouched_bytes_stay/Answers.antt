-- By what each call makes of a file.
use Rattle.history_laws.proofs.UntouchedBytes.{byte_before}
use Rattle.history_laws.proofs.touched.untouched_bytes_stay.Goals as goal

pub returns : goal.returns
returns c = λ g moment opening entries k ino p value e. byte_before g moment opening entries k ino p value e
