-- What the calls of a host leave of what it tells.
use Rattle.std.proofs.Common.{◌≡◌, ◌≢◌, ◌⊎◌, inl, inr, ℕ, Bool, true, false, List, Option, Some, None, refl, sym, ◌∙◌, ap, subst, arith}
use Rattle.std.specs.Prelude.{IsSome, is_some, option_map, option_and_then, bytes_eq}
use Rattle.std.proofs.lemmas.Bool.{cond-true, cond-false, false_from_ne_true}
use Rattle.std.proofs.lemmas.Slice.Eq.{bytes_eq-Decides}
use Rattle.lufs_base.specs.Causes.{counted}
use Rattle.sector_disk.specs.Disk.{DiskTold}
use Rattle.host_io.specs.declared.host.AskKind.{AskKind}
use Rattle.host_io.specs.declared.host.AskKind.TheVariants.{TakeDisk, MakeDisk, TakeSource, TakeSink}
use Rattle.host_io.specs.declared.host.AskAnswer.{AskAnswer}
use Rattle.host_io.specs.declared.host.AskAnswer.TheVariants as answers
use Rattle.host_io.specs.declared.host.HostError.{HostError}
use Rattle.host_io.specs.declared.host.HostError.TheVariants as hosts
use Rattle.host_io.specs.Source.{SourceTold}
use Rattle.host_io.specs.Outside.{Outside, Holdings, SinkTold, disk_of, source_of, sink_of, after_ask, refused_with, with_loan, with_disk, with_sink}
use Rattle.host_io.specs.Places.{Place, Places, here, lent, here_of, with_place}
use Rattle.lufs_top.specs.Run.{IsNoLower, disk_place, source_place, sink_place, IsBackAt}

differs : (name q : List ℕ) → q ≢ name → bytes_eq name q ≡ false
differs name q other = false_from_ne_true (bytes_eq name q) (λ same. other (sym ((bytes_eq-Decides name q).0 same)))

other_place : {T : Type 0} (places : Places T) (name : List ℕ) (p : Place T) (q : List ℕ) → q ≢ name → with_place places name p q ≡ places q
other_place places name p q other = cond-false _ p (places q) (differs name q other)

pub this_place : {T : Type 0} (places : Places T) (name : List ℕ) (p : Place T) → with_place places name p name ≡ p
this_place places name p = cond-true _ p (places name) ((bytes_eq-Decides name name).1 refl)

lower_both : (a b c : ℕ) → IsNoLower a b → IsNoLower b c → IsNoLower a c
lower_both a b c first second small = let x = first small in let y = second x.1 in (omega (arith, x.0, y.0), y.1)

same_count : (a b : ℕ) → a ≡ b → IsNoLower a b
same_count a b is small = (omega (arith, is), omega (arith, is, small))

counted_no_lower : (n : ℕ) → IsNoLower n (counted n)
counted_no_lower n small = (omega (arith, small), omega (arith, small))

-- What stays of the outside: the disks, sources and sinks of these names, with the counts no lower.
pub record Keeps (disk source sink : List ℕ → Type 0) (old new : Outside) : Type 0 where
  pub moment : new.moment ≡ old.moment
  pub tells : is_some new.holds ≡ is_some old.holds
  pub disks : (q : List ℕ) → disk q → disk_place new q ≡ disk_place old q
  pub sources : (q : List ℕ) → source q → source_place new q ≡ source_place old q
  pub sinks : (q : List ℕ) → sink q → sink_place new q ≡ sink_place old q
  pub faults : IsNoLower old.faults new.faults
  pub absent : IsNoLower old.absent new.absent

pub keeps_both : {D S K : List ℕ → Type 0} {a b c : Outside} → Keeps D S K a b → Keeps D S K b c → Keeps D S K a c
keeps_both {D = D} {S = S} {K = K} {a = a} {b = b} {c = c} first second = record {
  moment = second.moment ∙ first.moment;
  tells = second.tells ∙ first.tells;
  disks = λ q is. second.disks q is ∙ first.disks q is;
  sources = λ q is. second.sources q is ∙ first.sources q is;
  sinks = λ q is. second.sinks q is ∙ first.sinks q is;
  faults = lower_both a.faults b.faults c.faults first.faults second.faults;
  absent = lower_both a.absent b.absent c.absent first.absent second.absent;
}

pub keeps_itself : {D S K : List ℕ → Type 0} (o new : Outside) → new ≡ o → Keeps D S K o new
keeps_itself o new is = record {
  moment = ap (λ (x : Outside). x.moment) is;
  tells = ap (λ (x : Outside). is_some x.holds) is;
  disks = λ q _. ap (λ (x : Outside). disk_place x q) is;
  sources = λ q _. ap (λ (x : Outside). source_place x q) is;
  sinks = λ q _. ap (λ (x : Outside). sink_place x q) is;
  faults = same_count o.faults new.faults (sym (ap (λ (x : Outside). x.faults) is));
  absent = same_count o.absent new.absent (sym (ap (λ (x : Outside). x.absent) is));
}

-- an outside that is this one keeps what this one keeps
pub keeps_to : {D S K : List ℕ → Type 0} (old at new : Outside) → new ≡ at → Keeps D S K old at → Keeps D S K old new
keeps_to old at new is keeps = keeps_both keeps (keeps_itself at new is)

-- the name that is asked for is none of these
abbrev pub Spares : AskKind → List ℕ → (disk source sink : List ℕ → Type 0) → Type 0
Spares TakeDisk name disk source sink = (q : List ℕ) → disk q → q ≢ name
Spares MakeDisk name disk source sink = (q : List ℕ) → disk q → q ≢ name
Spares TakeSource name disk source sink = (q : List ℕ) → source q → q ≢ name
Spares TakeSink name disk source sink = (q : List ℕ) → sink q → q ≢ name

-- a part of what is held that a change leaves
part_stays : {P : Type 0} (change : Holdings → Holdings) (part : Holdings → P) (holds : Option Holdings) → ((h : Holdings) → part (change h) ≡ part h)
    → option_map part (option_map change holds) ≡ option_map part holds
part_stays change part None stays = refl
part_stays change part (Some h) stays = ap (λ p. Some p) (stays h)

still_tells : (change : Holdings → Holdings) (holds : Option Holdings) → is_some (option_map change holds) ≡ is_some holds
still_tells change None = refl
still_tells change (Some h) = refl

-- an ask keeps all but the name that it asks for
pub ask_keeps : {D S K : List ℕ → Type 0} (kind : AskKind) (name : List ℕ) (answer : Option AskAnswer) (o : Outside) → Spares kind name D S K → Keeps D S K o (after_ask kind name answer o)
ask_keeps kind name None o spares = keeps_itself o o refl
ask_keeps kind name (Some answers.Missing) o spares =
    record { moment = refl; tells = refl; disks = λ q _. refl; sources = λ q _. refl; sinks = λ q _. refl; faults = same_count _ _ refl; absent = counted_no_lower o.absent }
ask_keeps kind name (Some answers.Failed) o spares =
    record { moment = refl; tells = refl; disks = λ q _. refl; sources = λ q _. refl; sinks = λ q _. refl; faults = counted_no_lower o.faults; absent = same_count _ _ refl }
ask_keeps TakeDisk name (Some answers.Given) o spares = record {
  moment = refl;
  tells = still_tells _ o.holds;
  disks = λ q is. part_stays _ (λ h. h.disks q) o.holds (λ h. other_place h.disks name lent q (spares q is));
  sources = λ q _. part_stays _ (λ h. h.sources q) o.holds (λ h. refl);
  sinks = λ q _. part_stays _ (λ h. h.sinks q) o.holds (λ h. refl);
  faults = same_count _ _ refl;
  absent = same_count _ _ refl;
}
ask_keeps MakeDisk name (Some answers.Given) o spares = record {
  moment = refl;
  tells = still_tells _ o.holds;
  disks = λ q is. part_stays _ (λ h. h.disks q) o.holds (λ h. other_place h.disks name lent q (spares q is));
  sources = λ q _. part_stays _ (λ h. h.sources q) o.holds (λ h. refl);
  sinks = λ q _. part_stays _ (λ h. h.sinks q) o.holds (λ h. refl);
  faults = same_count _ _ refl;
  absent = same_count _ _ refl;
}
ask_keeps TakeSource name (Some answers.Given) o spares = record {
  moment = refl;
  tells = still_tells _ o.holds;
  disks = λ q _. part_stays _ (λ h. h.disks q) o.holds (λ h. refl);
  sources = λ q is. part_stays _ (λ h. h.sources q) o.holds (λ h. other_place h.sources name lent q (spares q is));
  sinks = λ q _. part_stays _ (λ h. h.sinks q) o.holds (λ h. refl);
  faults = same_count _ _ refl;
  absent = same_count _ _ refl;
}
ask_keeps TakeSink name (Some answers.Given) o spares = record {
  moment = refl;
  tells = still_tells _ o.holds;
  disks = λ q _. part_stays _ (λ h. h.disks q) o.holds (λ h. refl);
  sources = λ q _. part_stays _ (λ h. h.sources q) o.holds (λ h. refl);
  sinks = λ q is. part_stays _ (λ h. h.sinks q) o.holds (λ h. other_place h.sinks name lent q (spares q is));
  faults = same_count _ _ refl;
  absent = same_count _ _ refl;
}

-- an ask that gave nothing keeps what is held
pub refused_keeps : {D S K : List ℕ → Type 0} (kind : AskKind) (name : List ℕ) (error : HostError) (o : Outside) → Keeps D S K o (after_ask kind name (refused_with error) o)
refused_keeps kind name hosts.Missing o =
    record { moment = refl; tells = refl; disks = λ q _. refl; sources = λ q _. refl; sinks = λ q _. refl; faults = same_count _ _ refl; absent = counted_no_lower o.absent }
refused_keeps kind name hosts.Failed o =
    record { moment = refl; tells = refl; disks = λ q _. refl; sources = λ q _. refl; sinks = λ q _. refl; faults = counted_no_lower o.faults; absent = same_count _ _ refl }
refused_keeps kind name hosts.Mem o = keeps_itself o o refl

-- a disk, or a sink, that is given back
pub disk_keeps : {D S K : List ℕ → Type 0} (name : List ℕ) (now : DiskTold) (o : Outside) → ((q : List ℕ) → D q → q ≢ name) → Keeps D S K o (with_disk name now o)
disk_keeps name now o spares = record {
  moment = refl;
  tells = still_tells _ o.holds;
  disks = λ q is. part_stays _ (λ h. h.disks q) o.holds (λ h. other_place h.disks name (here now) q (spares q is));
  sources = λ q _. part_stays _ (λ h. h.sources q) o.holds (λ h. refl);
  sinks = λ q _. part_stays _ (λ h. h.sinks q) o.holds (λ h. refl);
  faults = same_count _ _ refl;
  absent = same_count _ _ refl;
}

pub sink_keeps : {D S K : List ℕ → Type 0} (name : List ℕ) (said : SinkTold) (o : Outside) → ((q : List ℕ) → K q → q ≢ name) → Keeps D S K o (with_sink name said o)
sink_keeps name said o spares = record {
  moment = refl;
  tells = still_tells _ o.holds;
  disks = λ q _. part_stays _ (λ h. h.disks q) o.holds (λ h. refl);
  sources = λ q _. part_stays _ (λ h. h.sources q) o.holds (λ h. refl);
  sinks = λ q is. part_stays _ (λ h. h.sinks q) o.holds (λ h. other_place h.sinks name (here said) q (spares q is));
  faults = same_count _ _ refl;
  absent = same_count _ _ refl;
}

-- what is kept of fewer names
pub fewer : {D S K : List ℕ → Type 0} (D' S' K' : List ℕ → Type 0) {old new : Outside} → ((q : List ℕ) → D' q → D q) → ((q : List ℕ) → S' q → S q) → ((q : List ℕ) → K' q → K q)
    → Keeps D S K old new → Keeps D' S' K' old new
fewer D' S' K' disk source sink keeps = record {
  moment = keeps.moment;
  tells = keeps.tells;
  disks = λ q is. keeps.disks q (disk q is);
  sources = λ q is. keeps.sources q (source q is);
  sinks = λ q is. keeps.sinks q (sink q is);
  faults = keeps.faults;
  absent = keeps.absent;
}

-- what stands somewhere by its place
in_place : {T : Type 0} (part : Holdings → Place T) (a b : Option Holdings) → option_map part a ≡ option_map part b
    → option_and_then (λ (h : Holdings). here_of (part h)) a ≡ option_and_then (λ (h : Holdings). here_of (part h)) b
in_place part None None same = refl
in_place part (Some h) (Some k) same = let places : part h ≡ part k = cc (same) in ap here_of places
in_place part None (Some k) same = absurd (cc (same))
in_place part (Some h) None same = absurd (cc (same))

pub same_disk : (old new : Outside) (q : List ℕ) → disk_place new q ≡ disk_place old q → disk_of new q ≡ disk_of old q
same_disk old new q same = in_place (λ h. h.disks q) new.holds old.holds same

pub same_source : (old new : Outside) (q : List ℕ) → source_place new q ≡ source_place old q → source_of new q ≡ source_of old q
same_source old new q same = in_place (λ h. h.sources q) new.holds old.holds same

pub same_sink : (old new : Outside) (q : List ℕ) → sink_place new q ≡ sink_place old q → sink_of new q ≡ sink_of old q
same_sink old new q same = in_place (λ h. h.sinks q) new.holds old.holds same

-- where a change puts something, if the host tells
put_there : {T : Type 0} (part : Holdings → Place T) (change : Holdings → Holdings) (p : Place T) (holds : Option Holdings) → ((h : Holdings) → part (change h) ≡ p)
    → IsSome (option_map change holds) → option_map part (option_map change holds) ≡ Some p
put_there part change p None puts tells = absurd (cc (tells))
put_there part change p (Some h) puts tells = ap (λ x. Some x) (puts h)

pub disk_placed : (name : List ℕ) (now : DiskTold) (o : Outside) → IsSome (with_disk name now o).holds → disk_place (with_disk name now o) name ≡ Some (here now)
disk_placed name now o tells = put_there (λ h. h.disks name) _ (here now) o.holds (λ h. this_place h.disks name (here now)) tells

pub sink_placed : (name : List ℕ) (said : SinkTold) (o : Outside) → IsSome (with_sink name said o).holds → sink_place (with_sink name said o) name ≡ Some (here said)
sink_placed name said o tells = put_there (λ h. h.sinks name) _ (here said) o.holds (λ h. this_place h.sinks name (here said)) tells

pub source_gone : (name : List ℕ) (o : Outside) → IsSome (after_ask TakeSource name (Some answers.Given) o).holds → source_place (after_ask TakeSource name (Some answers.Given) o) name ≡ Some lent
source_gone name o tells = put_there (λ h. h.sources name) (with_loan TakeSource name) lent o.holds (λ h. this_place h.sources name lent) tells

-- what is here, by its place
of_place : {T : Type 0} (part : Holdings → Place T) (holds : Option Holdings) (x : T) → option_map part holds ≡ Some (here x) → option_and_then (λ (h : Holdings). here_of (part h)) holds ≡ Some x
of_place part None x is = absurd (cc (is))
of_place part (Some h) x is = let place : part h ≡ here x = cc (is) in ap here_of place

pub disk_at : (o : Outside) (name : List ℕ) (now : DiskTold) → disk_place o name ≡ Some (here now) → disk_of o name ≡ Some now
disk_at o name now is = of_place (λ h. h.disks name) o.holds now is

pub sink_at : (o : Outside) (name : List ℕ) (said : SinkTold) → sink_place o name ≡ Some (here said) → sink_of o name ≡ Some said
sink_at o name said is = of_place (λ h. h.sinks name) o.holds said is

-- what is told of the sink that was given back, and of a disk that was
pub sink_there : (name : List ℕ) (said : SinkTold) (o new : Outside) → new ≡ with_sink name said o → IsSome new.holds → sink_of new name ≡ Some said
sink_there name said o new same tells =
    ap (λ (x : Outside). sink_of x name) same ∙ sink_at (with_sink name said o) name said (sink_placed name said o (subst (λ (x : Outside). IsSome x.holds) same tells))

pub disk_there : (name : List ℕ) (now : DiskTold) (o new : Outside) → new ≡ with_disk name now o → IsSome new.holds → disk_of new name ≡ Some now
disk_there name now o new same tells =
    ap (λ (x : Outside). disk_of x name) same ∙ disk_at (with_disk name now o) name now (disk_placed name now o (subst (λ (x : Outside). IsSome x.holds) same tells))

-- what was put here is back
pub here_is_back : {T : Type 0} (old : Option (Place T)) (new : Option (Place T)) (x : T) → new ≡ Some (here x) → IsBackAt old new
here_is_back {T = T} old new x is = inr (ap (λ (p : Option (Place T)). is_some (option_and_then here_of p)) is)

-- where the host tells nothing, all is as it was
pub untold_is_back : {T : Type 0} (part : Holdings → Place T) (old new : Option Holdings) → is_some new ≡ is_some old → (IsSome new → IsBackAt (option_map part old) (option_map part new))
    → IsBackAt (option_map part old) (option_map part new)
untold_is_back part old (Some h) tells told = told refl
untold_is_back part None None tells told = inl refl
untold_is_back part (Some h) None tells told = absurd (cc (tells))

-- what is back of this name, and of another one that isn't it, is back of both
pub back_at : {T : Type 0} (old new : List ℕ → Option (Place T)) (name q : List ℕ) → IsBackAt (old name) (new name) → (q ≢ name → IsBackAt (old q) (new q)) → IsBackAt (old q) (new q)
back_at old new name q at other = by_test (bytes_eq name q) refl
  where
    by_test : (b : Bool) → bytes_eq name q ≡ b → IsBackAt (old q) (new q)
    by_test true is = let same : name ≡ q = (bytes_eq-Decides name q).0 is in subst (λ n. IsBackAt (old n) (new n)) same at
    by_test false is = other (λ same. absurd (cc (is, (bytes_eq-Decides name q).1 (sym same))))

-- a disk is told only where the host tells what it holds
pub tells_of_disk : (holds : Option Holdings) (o : Outside) (name : List ℕ) → o.holds ≡ holds → IsSome (disk_of o name) → IsSome o.holds
tells_of_disk None o name is there =
    let none : disk_of o name ≡ None = ap (λ (h : Option Holdings). option_and_then (λ (k : Holdings). here_of (k.disks name)) h) is in
    absurd (cc (there, ap is_some none))
tells_of_disk (Some h) o name is there = ap (λ (k : Option Holdings). is_some k) is
