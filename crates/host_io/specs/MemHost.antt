-- A host in memory, as its calls see it.
use Rattle.std.specs.Prelude.{◌≡◌, ◌⊎◌, ◌∷◌, ◌++◌, ℕ, ◌*◌, if◌then◌else◌, List, [], replicate, Option, Some, None, unwrap_or, Result, Err, bytes_eq}
use Rattle.std.specs.List.{flat_map}
use Rattle.lufs_base.specs.Causes.{counted}
use Rattle.sector_disk.specs.MemDisk.{State as DiskState, new_state as new_disk, told_of as disk_told}
use Rattle.host_io.specs.MemSource.{State as SourceState, told_of as source_told}
use Rattle.host_io.specs.MemSink.{State as SinkState, told_of as sink_told}
use Rattle.host_io.specs.declared.host.Ask.{Ask}
use Rattle.host_io.specs.declared.host.AskKind.{AskKind}
use Rattle.host_io.specs.declared.host.AskAnswer.{AskAnswer}
use Rattle.host_io.specs.declared.host.AskAnswer.TheVariants as answers
use Rattle.host_io.specs.declared.host.HostError.{HostError}
use Rattle.host_io.specs.declared.host.HostError.TheVariants.{Failed, Mem}
use Rattle.host_io.specs.declared.mem_host.NamedCall.{NamedCall}
use Rattle.host_io.specs.declared.named.Named.{Named}
use Rattle.host_io.specs.Places.{place_map}
use Rattle.host_io.specs.Named.{places_of}
use Rattle.host_io.specs.Outside.{Outside}

pub record State : Type 0 where
  pub moment : ℕ
  -- what it holds under each name, or lent
  pub disks : List (Named DiskState)
  pub sources : List (Named SourceState)
  pub sinks : List (Named SinkState)
  pub asks : List Ask
  -- the takes and makes that are to fail, by their number from 1
  pub fails : List ℕ
  -- the takes of sources and the puts of sinks that are to fail
  pub take_fails : List NamedCall
  pub put_fails : List NamedCall
  -- the takes and makes so far
  pub takes : ℕ
  pub faults : ℕ
  pub absent : ℕ

-- a host at this moment that holds nothing
abbrev pub new_state : ℕ → State
new_state moment = record {
  moment = moment;
  disks = [];
  sources = [];
  sinks = [];
  asks = [];
  fails = [];
  take_fails = [];
  put_fails = [];
  takes = 0;
  faults = 0;
  absent = 0;
}

-- the number of a call that is to fail, if it is one of what has this name
abbrev pub call_of : List ℕ → NamedCall → List ℕ
call_of name call = if bytes_eq call.name name then call.k ∷ [] else []

-- the calls of what has this name that are to fail, by their number
abbrev pub calls_to_fail : List NamedCall → List ℕ → List ℕ
calls_to_fail calls name = flat_map (call_of name) calls

-- the asks after one with this answer; the same where memory ran out
abbrev pub asks_after : AskKind → List ℕ → Option AskAnswer → List Ask → List Ask
asks_after kind name None asks = asks
asks_after kind name (Some answer) asks = asks ++ record { kind = kind; name = name; answer = answer } ∷ []

-- how many asks failed, and how many were of what isn't there, after one with this answer
abbrev pub faults_after : Option AskAnswer → ℕ → ℕ
faults_after (Some answers.Failed) faults = counted faults
faults_after (Some answers.Missing) faults = faults
faults_after (Some answers.Given) faults = faults
faults_after None faults = faults

abbrev pub absent_after : Option AskAnswer → ℕ → ℕ
absent_after (Some answers.Missing) absent = counted absent
absent_after (Some answers.Failed) absent = absent
absent_after (Some answers.Given) absent = absent
absent_after None absent = absent

-- what it tells of the outside
abbrev pub outside_of : State → Outside
outside_of s = record {
  moment = Some s.moment;
  asks = Some s.asks;
  holds = Some (record { disks = λ q. place_map disk_told (places_of s.disks q); sources = λ q. place_map source_told (places_of s.sources q); sinks = λ q. place_map sink_told (places_of s.sinks q) });
  faults = s.faults;
  absent = s.absent;
}

-- a new disk of so many sectors of zeros, whose calls don't fail
abbrev pub zeros_of : ℕ → DiskState
zeros_of sectors = new_disk (replicate (512 * sectors) 0) []

-- the disk that is there; where there is none, a new one
abbrev pub there_or_zeros : Option DiskState → (sectors : ℕ) → DiskState
there_or_zeros there sectors = unwrap_or there (zeros_of sectors)

-- the take failed, or memory ran out
abbrev pub FailedOrMem : {T : Type 0} → Result T HostError → Type 0
FailedOrMem {T = T} result = (result ≡ Err Failed) ⊎ (result ≡ Err Mem)
