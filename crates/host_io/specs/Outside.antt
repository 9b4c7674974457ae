-- What a host tells of the outside, and what its calls do to that.
use Rattle.std.specs.Prelude.{◌≡◌, ℕ, List, [], ◌∷◌, ◌++◌, take, Option, Some, None, option_map, option_and_then, Result, Ok, Err, OnOk, OnErr}
use Rattle.lufs_base.specs.Causes.{counted}
use Rattle.sector_disk.specs.Disk.{DiskTold, IsZeroDisk}
use Rattle.host_io.specs.declared.host.HostError.{HostError}
use Rattle.host_io.specs.declared.host.HostError.TheVariants.{Missing, Failed, Mem}
use Rattle.host_io.specs.declared.host.AskKind.{AskKind}
use Rattle.host_io.specs.declared.host.AskKind.TheVariants.{TakeDisk, MakeDisk, TakeSource, TakeSink}
use Rattle.host_io.specs.declared.host.AskAnswer.{AskAnswer}
use Rattle.host_io.specs.declared.host.AskAnswer.TheVariants as answers
use Rattle.host_io.specs.declared.host.Ask.{Ask}
use Rattle.host_io.specs.Source.{SourceTold}
use Rattle.host_io.specs.Places.{here, lent, here_of, Places, with_place}

-- What a sink tells of itself at one moment.
pub record SinkTold : Type 0 where
  -- the bytes that it was given, where it tells them
  pub held : Option (List ℕ)
  -- how many puts failed
  pub faults : ℕ

-- all bytes are appended, or at an error the first of them
pub record Puts {T E : Type 0} (bytes : List ℕ) (result : Result T E) (old new : SinkTold) : Type 0 where
  pub ok : OnOk result (new ≡ record old { held = option_map (λ held. held ++ bytes) old.held })
  pub err : OnErr result ((n : ℕ) × (new ≡ record { held = option_map (λ held. held ++ take n bytes) old.held; faults = counted old.faults }))

-- what stands under each name
pub record Holdings : Type 0 where
  pub disks : Places DiskTold
  pub sources : Places SourceTold
  pub sinks : Places SinkTold

-- What a host tells of the outside at one moment.
pub record Outside : Type 0 where
  -- the moment, in seconds since 1970, where it tells it
  pub moment : Option ℕ
  -- what it was asked for, but for what memory ran out for, where it tells it
  pub asks : Option (List Ask)
  -- what it holds, where it tells it
  pub holds : Option Holdings
  -- how many asks failed, and how many were of a disk or a source that isn't there
  pub faults : ℕ
  pub absent : ℕ

-- what stands there under the name, where the host tells it
abbrev pub disk_of : Outside → List ℕ → Option DiskTold
disk_of o name = option_and_then (λ h. here_of (h.disks name)) o.holds

abbrev pub source_of : Outside → List ℕ → Option SourceTold
source_of o name = option_and_then (λ h. here_of (h.sources name)) o.holds

abbrev pub sink_of : Outside → List ℕ → Option SinkTold
sink_of o name = option_and_then (λ h. here_of (h.sinks name)) o.holds

-- one ask more is listed
abbrev pub with_ask : AskKind → List ℕ → AskAnswer → Option (List Ask) → Option (List Ask)
with_ask kind name answer asks = option_map (λ before. before ++ record { kind = kind; name = name; answer = answer } ∷ []) asks

-- what was asked for is lent
abbrev pub with_loan : AskKind → List ℕ → Holdings → Holdings
with_loan TakeDisk name h = record h { disks = with_place h.disks name lent }
with_loan MakeDisk name h = record h { disks = with_place h.disks name lent }
with_loan TakeSource name h = record h { sources = with_place h.sources name lent }
with_loan TakeSink name h = record h { sinks = with_place h.sinks name lent }

-- what an ask is answered with; nothing where memory ran out
abbrev pub refused_with : HostError → Option AskAnswer
refused_with Missing = Some answers.Missing
refused_with Failed = Some answers.Failed
refused_with Mem = None

abbrev pub answer_of : {T : Type 0} → Result T HostError → Option AskAnswer
answer_of (Ok given) = Some answers.Given
answer_of (Err error) = refused_with error

-- After an ask with this answer: what was given is lent, a missing name and a failure are counted, and all stays where
-- memory ran out.
abbrev pub after_ask : AskKind → List ℕ → Option AskAnswer → Outside → Outside
after_ask kind name (Some answers.Given) o = record o { asks = with_ask kind name answers.Given o.asks; holds = option_map (with_loan kind name) o.holds }
after_ask kind name (Some answers.Missing) o = record o { asks = with_ask kind name answers.Missing o.asks; absent = counted o.absent }
after_ask kind name (Some answers.Failed) o = record o { asks = with_ask kind name answers.Failed o.asks; faults = counted o.faults }
after_ask kind name None o = o

-- a disk stands there that tells this
abbrev pub with_disk : List ℕ → DiskTold → Outside → Outside
with_disk name told o = record o { holds = option_map {T = Holdings} (λ h. record h { disks = with_place h.disks name (here told) }) o.holds }

abbrev pub with_sink : List ℕ → SinkTold → Outside → Outside
with_sink name told o = record o { holds = option_map {T = Holdings} (λ h. record h { sinks = with_place h.sinks name (here told) }) o.holds }

-- the disk, or the sink, of the name is lent
abbrev pub IsLentDisk : List ℕ → Holdings → Type 0
IsLentDisk name h = h.disks name ≡ lent

abbrev pub IsLentSink : List ℕ → Holdings → Type 0
IsLentSink name h = h.sinks name ≡ lent

-- the disk that is there; where there is none, a new one of so many sectors of zeros
abbrev pub StartsAs : Option DiskTold → (sectors : ℕ) → DiskTold → Type 0
StartsAs None sectors told = IsZeroDisk sectors told
StartsAs (Some before) sectors told = told ≡ before

-- an empty sink, no put of which has failed
abbrev pub empty_sink : SinkTold
empty_sink = record { held = Some []; faults = 0 }
