use Rattle.std.proofs.Common.{ℕ, List, sym, ap, subst}
use Rattle.meta_draft.specs.Drafted.{drafted}
use Rattle.sector_disk.proofs.MadeCalls.{none_then}
use Rattle.dir_reads.proofs.StoreSteps.{unchanged_then, kept_then}
use Rattle.path_walk.specs.Answers.{HoldsOfTree}
use Rattle.path_walk.specs.Stops.{ComesToLink}
use Rattle.path_walk.proofs.TreeFacts.{of_one}
use Rattle.path_walk.proofs.WalkSteps.{no_part, ends, not_there, comes_to_link, goes}
use Rattle.path_walk.proofs.PassedParts.{stops_there, comes_there}
use Rattle.path_walk.proofs.walking.walk_to_link.Goals as goal

pub returns-in_err-lead-clause-value : goal.returns-in_err-lead-clause-value
returns-in_err-lead-clause-value g c =
    let change = c.args.draft.now.change in
    let start = g.S.MetaRead.store c.args.store.now in
    let l = c.loop-part in
    stops_there change start (g.S.MetaRead.store l.store) l.invariant.unchanged c.args.cred.now c.args.follow c.args.start.0 l.dir.0 c.args.parts.now l.parts c.in-Some.part c.next.new.self c.is_empty.result c.in-Some.ensures c.is_empty.ensures l.invariant.leads
    c.next.new.self c.from_residual.result c.in_err-lead.field-0.0 c.from_residual.ensures.0 c.from_residual.ensures.1 c.in_err-lead.ensures.value

pub returns-in-End-clause-value : goal.returns-in-End-clause-value
returns-in-End-clause-value g c =
    let change = c.args.draft.now.change in
    let start = g.S.MetaRead.store c.args.store.now in
    let l = c.loop-part in
    let comes = comes_there change start (g.S.MetaRead.store l.store) l.invariant.unchanged c.args.cred.now c.args.follow c.args.start.0 l.dir.0 c.args.parts.now l.parts c.in-Some.part c.next.new.self c.is_empty.result c.in-Some.ensures c.is_empty.ensures l.invariant.leads
    c.in_ok-lead.lead c.in_ok-lead.ensures.value in
    let value = rw c.in-End.is at comes in
    of_one (drafted change start).content start.geometry (λ tree comes. ends comes) value

pub returns-in-Missing-clause-value : goal.returns-in-Missing-clause-value
returns-in-Missing-clause-value g c =
    let change = c.args.draft.now.change in
    let start = g.S.MetaRead.store c.args.store.now in
    let l = c.loop-part in
    let comes = comes_there change start (g.S.MetaRead.store l.store) l.invariant.unchanged c.args.cred.now c.args.follow c.args.start.0 l.dir.0 c.args.parts.now l.parts c.in-Some.part c.next.new.self c.is_empty.result c.in-Some.ensures c.is_empty.ensures l.invariant.leads
    c.in_ok-lead.lead c.in_ok-lead.ensures.value in
    let value = rw c.in-Missing.is at comes in
    of_one (drafted change start).content start.geometry (λ tree comes. not_there comes) value

pub returns-in-Follow-clause-value : goal.returns-in-Follow-clause-value
returns-in-Follow-clause-value g c =
    let change = c.args.draft.now.change in
    let start = g.S.MetaRead.store c.args.store.now in
    let l = c.loop-part in
    let comes = comes_there change start (g.S.MetaRead.store l.store) l.invariant.unchanged c.args.cred.now c.args.follow c.args.start.0 l.dir.0 c.args.parts.now l.parts c.in-Some.part c.next.new.self c.is_empty.result c.in-Some.ensures c.is_empty.ensures l.invariant.leads
    c.in_ok-lead.lead c.in_ok-lead.ensures.value in
    let value = rw c.in-Follow.is at comes in
    let same = ap (λ v. v.items) c.in-Follow.text-is in
    subst (λ (text : List ℕ). HoldsOfTree (drafted change start) (λ tree. ComesToLink tree c.args.cred.now c.args.follow c.args.start.0 c.args.parts.now l.dir.0 text c.next.new.self)) (sym same)
    (of_one (drafted change start).content start.geometry (λ tree comes. comes_to_link comes) value)

pub loop-part-preserved : goal.loop-part-preserved
loop-part-preserved g c =
    let change = c.args.draft.now.change in
    let start = g.S.MetaRead.store c.args.store.now in
    let l = c.loop-part in
    let comes = comes_there change start (g.S.MetaRead.store l.store) l.invariant.unchanged c.args.cred.now c.args.follow c.args.start.0 l.dir.0 c.args.parts.now l.parts c.in-Some.part c.next.new.self c.is_empty.result c.in-Some.ensures c.is_empty.ensures l.invariant.leads
    c.in_ok-lead.lead c.in_ok-lead.ensures.value in
    let value = rw c.in-Go.is at comes in
    record {
      leads = of_one (drafted change start).content start.geometry (λ tree comes. goes comes) value;
      unchanged = unchanged_then l.invariant.unchanged c.in_ok-lead.ensures.unchanged;
      kept = kept_then l.invariant.kept c.in_ok-lead.ensures.kept;
      none_failed = none_then l.invariant.none_failed (c.in_ok-lead.ensures.failure.none (λ other. absurd (cc)));
    }

pub returns-clause-value : goal.returns-clause-value
returns-clause-value g c =
    let change = c.args.draft.now.change in
    let start = g.S.MetaRead.store c.args.store.now in
    let l = c.loop-part in
    of_one (drafted change start).content start.geometry (λ tree leads. no_part tree c.args.cred.now c.args.follow c.args.start.0 l.dir.0 c.args.parts.now l.parts leads c.in_default.ensures) l.invariant.leads
