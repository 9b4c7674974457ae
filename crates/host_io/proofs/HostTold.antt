-- What a host in memory tells after a name stands for something else.
use Rattle.std.proofs.Common.{◌≡◌, Bool, true, false, cond, List, ℕ, Some, None, Result, Ok, Err, refl, ◌∙◌, ap, ◌*◌, arith}
use Rattle.std.proofs.lemmas.List.{length-replicate}
use Rattle.std.specs.Prelude.{bytes_eq, OnOk, OnErr}
use Rattle.std.proofs.Math.Path.{fun_ext}
use Rattle.lufs_base.specs.Causes.{counted}
use Rattle.sector_disk.specs.Disk.{DiskTold, IsZeroDisk}
use Rattle.sector_disk.specs.MemDisk.{State as DiskState, told_of as disk_told}
use Rattle.host_io.specs.declared.host.Ask.{Ask}
use Rattle.host_io.specs.declared.named.Named.{Named}
use Rattle.host_io.specs.declared.host.HostError.{HostError}
use Rattle.host_io.specs.declared.host.HostError.TheVariants.{Missing, Failed, Mem}
use Rattle.host_io.specs.declared.host.AskKind.TheVariants.{TakeSource, TakeSink}
use Rattle.host_io.specs.declared.host.AskAnswer.TheVariants as answers
use Rattle.host_io.specs.MemSource.{State as SourceState, told_of as source_told}
use Rattle.host_io.specs.MemSink.{State as SinkState, told_of as sink_told}
use Rattle.host_io.specs.MemHost.{zeros_of, there_or_zeros, asks_after, faults_after, absent_after}
use Rattle.host_io.specs.Source.{SourceTold}
use Rattle.host_io.specs.Named.{places_of}
use Rattle.host_io.specs.Outside.{Outside, SinkTold, StartsAs, answer_of, after_ask}
use Rattle.host_io.specs.Places.{Place, Places, nothing, here, lent, here_of, place_map, with_place}

-- what stands there of what is told is told of what stands there
pub told_lent : {T U : Type 0} (told : T → U) (place : Place T) → place_map told place ≡ lent → place ≡ lent
told_lent told nothing is = cc
told_lent told (here x) is = cc
told_lent told lent is = refl

pub told_here : {T U : Type 0} (told : T → U) (place : Place T) (x : T) → here_of place ≡ Some x → here_of (place_map told place) ≡ Some (told x)
told_here told nothing x is = cc
told_here told (here y) x is = cc
told_here told lent x is = cc

pub told_none : {T U : Type 0} (told : T → U) (place : Place T) → here_of place ≡ None → here_of (place_map told place) ≡ None
told_none told nothing is = refl
told_none told (here y) is = cc
told_none told lent is = refl

chosen_told : {T U : Type 0} (told : T → U) (b : Bool) (p q : Place T) → place_map told (cond b p q) ≡ cond b (place_map told p) (place_map told q)
chosen_told told true p q = refl
chosen_told told false p q = refl

-- one name stands for something else, so it does in what is told
pub told_with_place : {T U : Type 0} (told : T → U) (new old : Places T) (name : List ℕ) (p : Place T) → new ≡ with_place old name p
    → (λ q. place_map told (new q)) ≡ with_place (λ q. place_map told (old q)) name (place_map told p)
told_with_place told new old name p is =
    fun_ext (λ q. ap (λ (places : Places _). place_map told (places q)) is ∙ chosen_told told (bytes_eq name q) p (old q))

-- the outside that is told of these
abbrev pub outside_with : (moment faults absent : ℕ) → List Ask → Places DiskTold → Places SourceTold → Places SinkTold → Outside
outside_with moment faults absent asks disks sources sinks = record {
  moment = Some moment;
  asks = Some asks;
  holds = Some (record { disks = disks; sources = sources; sinks = sinks });
  faults = faults;
  absent = absent;
}

module _ (moment faults absent : ℕ) (asks listed : List Ask) (same : asks ≡ listed) (name : List ℕ) where
  pub outside_with-disk : (new old : Places DiskState) (sources : Places SourceTold) (sinks : Places SinkTold) (p : Place DiskState) → new ≡ with_place old name p
      → outside_with moment faults absent asks (λ q. place_map disk_told (new q)) sources sinks
      ≡ outside_with moment faults absent listed (with_place (λ q. place_map disk_told (old q)) name (place_map disk_told p)) sources sinks
  outside_with-disk new old sources sinks p is =
      ap (λ (a : List Ask). outside_with moment faults absent a (λ q. place_map disk_told (new q)) sources sinks) same
      ∙ ap (λ (d : Places DiskTold). outside_with moment faults absent listed d sources sinks) (told_with_place disk_told new old name p is)

  pub outside_with-source : (new old : Places SourceState) (disks : Places DiskTold) (sinks : Places SinkTold) (p : Place SourceState) → new ≡ with_place old name p
      → outside_with moment faults absent asks disks (λ q. place_map source_told (new q)) sinks
      ≡ outside_with moment faults absent listed disks (with_place (λ q. place_map source_told (old q)) name (place_map source_told p)) sinks
  outside_with-source new old disks sinks p is =
      ap (λ (a : List Ask). outside_with moment faults absent a disks (λ q. place_map source_told (new q)) sinks) same
      ∙ ap (λ (k : Places SourceTold). outside_with moment faults absent listed disks k sinks) (told_with_place source_told new old name p is)

  pub outside_with-sink : (new old : Places SinkState) (disks : Places DiskTold) (sources : Places SourceTold) (p : Place SinkState) → new ≡ with_place old name p
      → outside_with moment faults absent asks disks sources (λ q. place_map sink_told (new q))
      ≡ outside_with moment faults absent listed disks sources (with_place (λ q. place_map sink_told (old q)) name (place_map sink_told p))
  outside_with-sink new old disks sources p is =
      ap (λ (a : List Ask). outside_with moment faults absent a disks sources (λ q. place_map sink_told (new q))) same
      ∙ ap (λ (k : Places SinkTold). outside_with moment faults absent listed disks sources k) (told_with_place sink_told new old name p is)

-- What is told after an ask of which the answer is listed and counted.
module _ {T : Type 0} (moment faults absent : ℕ) (asks : List Ask) (name : List ℕ) where
  pub asked_source : (given : Result T HostError) (new old : List (Named SourceState)) (disks : Places DiskTold) (sinks : Places SinkTold)
      → OnOk given (places_of new ≡ with_place (places_of old) name lent) → OnErr given (new ≡ old)
      → outside_with moment (faults_after (answer_of given) faults) (absent_after (answer_of given) absent) (asks_after TakeSource name (answer_of given) asks) disks (λ q. place_map source_told (places_of new q)) sinks
      ≡ after_ask TakeSource name (answer_of given) (outside_with moment faults absent asks disks (λ q. place_map source_told (places_of old q)) sinks)
  asked_source (Ok source) new old disks sinks ok err = outside_with-source moment faults absent _ _ refl name (places_of new) (places_of old) disks sinks lent ok
  asked_source (Err Missing) new old disks sinks ok err =
      ap (λ (k : List (Named SourceState)). outside_with moment faults (counted absent) (asks_after TakeSource name (Some answers.Missing) asks) disks (λ q. place_map source_told (places_of k q)) sinks) err
  asked_source (Err Failed) new old disks sinks ok err =
      ap (λ (k : List (Named SourceState)). outside_with moment (counted faults) absent (asks_after TakeSource name (Some answers.Failed) asks) disks (λ q. place_map source_told (places_of k q)) sinks) err
  asked_source (Err Mem) new old disks sinks ok err =
      ap (λ (k : List (Named SourceState)). outside_with moment faults absent asks disks (λ q. place_map source_told (places_of k q)) sinks) err

  pub asked_sink : (given : Result T HostError) (new old : List (Named SinkState)) (disks : Places DiskTold) (sources : Places SourceTold)
      → OnOk given (places_of new ≡ with_place (places_of old) name lent) → OnErr given (new ≡ old)
      → outside_with moment (faults_after (answer_of given) faults) (absent_after (answer_of given) absent) (asks_after TakeSink name (answer_of given) asks) disks sources (λ q. place_map sink_told (places_of new q))
      ≡ after_ask TakeSink name (answer_of given) (outside_with moment faults absent asks disks sources (λ q. place_map sink_told (places_of old q)))
  asked_sink (Ok sink) new old disks sources ok err = outside_with-sink moment faults absent _ _ refl name (places_of new) (places_of old) disks sources lent ok
  asked_sink (Err Missing) new old disks sources ok err =
      ap (λ (k : List (Named SinkState)). outside_with moment faults (counted absent) (asks_after TakeSink name (Some answers.Missing) asks) disks sources (λ q. place_map sink_told (places_of k q))) err
  asked_sink (Err Failed) new old disks sources ok err =
      ap (λ (k : List (Named SinkState)). outside_with moment (counted faults) absent (asks_after TakeSink name (Some answers.Failed) asks) disks sources (λ q. place_map sink_told (places_of k q))) err
  asked_sink (Err Mem) new old disks sources ok err =
      ap (λ (k : List (Named SinkState)). outside_with moment faults absent asks disks sources (λ q. place_map sink_told (places_of k q))) err

zeros_told : (sectors : ℕ) → IsZeroDisk sectors (disk_told (zeros_of sectors))
zeros_told sectors = record {
  size = omega (arith, length-replicate {A = ℕ} (512 * sectors) 0);
  zeros = refl;
  no_call = refl;
  calls = refl;
  failures = refl;
  failed_at = refl;
  faults = refl;
}

-- a disk that a host lends or makes starts as the one that was there, or as zeros
pub told_start : (place : Place DiskState) (sectors : ℕ) → StartsAs (here_of (place_map disk_told place)) sectors (disk_told (there_or_zeros (here_of place) sectors))
told_start nothing sectors = zeros_told sectors
told_start (here x) sectors = refl
told_start lent sectors = zeros_told sectors
