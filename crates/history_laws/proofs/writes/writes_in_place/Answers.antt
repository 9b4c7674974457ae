-- A version names no block that it doesn't claim, and all versions name a block at one place.
use Rattle.history_laws.proofs.PlacedWrites.{hand_writes, file_writes}
use Rattle.history_laws.proofs.writes.writes_in_place.Goals as goal

pub returns-clause-hands : goal.returns-clause-hands
returns-clause-hands c = λ g moment opening first v start bytes b within unclaimed owner keeps. hand_writes g moment opening first v keeps start bytes b within unclaimed owner

pub returns-clause-files : goal.returns-clause-files
returns-clause-files c = λ g moment opening first v start bytes b ino index within named each keeps. file_writes g moment opening first v keeps start bytes b within ino index named each
