use Rattle.std.proofs.Common.{◌≡◌, ◌++◌, suc, ◌-◌, List, ℕ, Ok, Err, ap, ◌∙◌, arith}
use Rattle.std.specs.Result.{IsErrAnd}
use Rattle.sector_disk.proofs.MadeCalls.{none_then}
use Rattle.meta_draft.specs.Drafted.{drafted}
use Rattle.dir_reads.proofs.StoreSteps.{unchanged_then, kept_then}
use Rattle.history_model.specs.Walk.{start_of, parts_of, walk_of}
use Rattle.path_walk.specs.declared.walking.Stop.TheVariants.{End}
use Rattle.path_walk.specs.Stops.{ComesToLink, CameTo}
use Rattle.path_walk.proofs.TreeFacts.{of_two, before_reads}
use Rattle.path_walk.proofs.WalksAnswered.{at_end, without_end, handed_on, too_many, over_link}
use Rattle.path_walk.proofs.walking.walk_in.Goals as goal

pub returns-in_err-walked-clause-value : goal.returns-in_err-walked-clause-value
returns-in_err-walked-clause-value g c =
    let change = c.args.draft.now.change in
    let start = g.S.MetaRead.store c.args.store.now in
    let l = c.loop-parts in
    let left = c.walk_to_link.new.parts in
    let e = c.in_err-walked.field-0.0 in
    let result = c.from_residual-in_err-walked.result in
    let same : IsErrAnd result (λ x. x ≡ e) = c.from_residual-in_err-walked.ensures.1 in
    of_two (drafted change start).content start.geometry
    (λ tree reaches came. handed_on (walk_of tree c.args.cred.now c.args.path.now c.args.follow) result e c.from_residual-in_err-walked.ensures.0 same
    (without_end tree c.args.cred.now c.args.follow c.args.path.now l.left l.dir.0 l.parts left e reaches came)) l.invariant.leads
    (before_reads (λ tree. CameTo tree c.args.cred.now c.args.follow l.dir.0 l.parts left (Err e)) change start (g.S.MetaRead.store l.store) l.invariant.unchanged c.in_err-walked.ensures.value)

pub returns-in-End-clause-value : goal.returns-in-End-clause-value
returns-in-End-clause-value g c =
    let change = c.args.draft.now.change in
    let start = g.S.MetaRead.store c.args.store.now in
    let l = c.loop-parts in
    let left = c.walk_to_link.new.parts in
    let walked = c.in-End.walked in
    let value = rw c.in-End.is at c.in_ok-walked.ensures.value in
    of_two (drafted change start).content start.geometry (λ tree. at_end tree c.args.cred.now c.args.follow c.args.path.now l.left l.dir.0 l.parts left walked) l.invariant.leads
    (before_reads (λ tree. CameTo tree c.args.cred.now c.args.follow l.dir.0 l.parts left (Ok (End walked))) change start (g.S.MetaRead.store l.store) l.invariant.unchanged value)

pub returns-then-left-eq0-clause-value : goal.returns-then-left-eq0-clause-value
returns-then-left-eq0-clause-value g c =
    let change = c.args.draft.now.change in
    let start = g.S.MetaRead.store c.args.store.now in
    let l = c.loop-parts in
    let left = c.walk_to_link.new.parts in
    let value = rw c.in-Link.is at c.in_ok-walked.ensures.value in
    of_two (drafted change start).content start.geometry
    (λ tree. too_many tree c.args.cred.now c.args.follow c.args.path.now l.left l.dir.0 c.in-Link.base.0 c.in-Link.text.items l.parts left c.if-left-eq0.true) l.invariant.leads
    (before_reads (λ tree. ComesToLink tree c.args.cred.now c.args.follow l.dir.0 l.parts c.in-Link.base.0 c.in-Link.text.items left) change start (g.S.MetaRead.store l.store) l.invariant.unchanged value)

pub loop-parts-preserved : goal.loop-parts-preserved
loop-parts-preserved g c =
    let change = c.args.draft.now.change in
    let start = g.S.MetaRead.store c.args.store.now in
    let l = c.loop-parts in
    let left = c.walk_to_link.new.parts in
    let base = c.in-Link.base.0 in
    let text : List ℕ = c.in-Link.text.items in
    let value = rw c.in-Link.is at c.in_ok-walked.ensures.value in
    let one_less : l.left ≡ suc (l.left - 1) = omega (arith, c.if-left-eq0.false) in
    record {
      leads = of_two (drafted change start).content start.geometry
          (λ tree. over_link tree c.args.cred.now c.args.follow c.args.path.now l.left (l.left - 1) l.dir.0 c.start_of-dir.result.0 base text l.parts left c.put_path-in-Link.new.self one_less
          (c.start_of-dir.ensures ∙ ap (start_of base) c.deref.ensures.value)
          (c.in_ok-put_path-in-Link.ensures ∙ ap (λ (t : List ℕ). parts_of t ++ left) c.deref-in-Link.ensures.value)) l.invariant.leads
          (before_reads (λ tree. ComesToLink tree c.args.cred.now c.args.follow l.dir.0 l.parts base text left) change start (g.S.MetaRead.store l.store) l.invariant.unchanged value);
      unchanged = unchanged_then l.invariant.unchanged c.in_ok-walked.ensures.unchanged;
      kept = kept_then l.invariant.kept c.in_ok-walked.ensures.kept;
      none_failed = none_then l.invariant.none_failed (c.in_ok-walked.ensures.failure.none (λ other. absurd (cc)));
    }
