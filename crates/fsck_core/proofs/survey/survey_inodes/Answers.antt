use Rattle.std.proofs.Common.{◌+◌, subst, arith}
use Rattle.lufs_base.specs.declared.geometry.Geometry.{Geometry}
use Rattle.volume_model.specs.Format.{block, inodes_of}
use Rattle.sector_disk.proofs.MadeCalls.{none_then}
use Rattle.volume_model.specs.Sound.{reading_of}
use Rattle.fsck_core.specs.Survey.{IsSurvey, HasRoom}
use Rattle.fsck_core.proofs.StoreSteps.{unchanged_then}
use Rattle.fsck_core.proofs.SurveyLoop.{told_known, told_next, told_more, told_stopped, told_all}
use Rattle.fsck_core.proofs.survey.survey_inodes.Goals as goal

pub look_at-requires-clause-here : goal.look_at-requires-clause-here
look_at-requires-clause-here g c =
    let old = g.S.MetaRead.store c.args.store.now in
    let l = c.loop-one in
    let known = told_known old c.args.inodes.now c.args.unsettled.now c.args.claims c.requires.kept c.requires.room.briefs_size c.requires.groups in
    told_next old (g.S.MetaRead.store l.store) c.args.inodes.now c.args.unsettled.now l.one-index _ l.survey l.invariant.unchanged known c.loop-one-test.true l.invariant.looked

pub loop-one-preserved : goal.loop-one-preserved
loop-one-preserved g c =
    let old = g.S.MetaRead.store c.args.store.now in
    let l = c.loop-one in
    let mid = g.S.MetaRead.store l.store in
    let known = told_known old c.args.inodes.now c.args.unsettled.now c.args.claims c.requires.kept c.requires.room.briefs_size c.requires.groups in
    let same = l.invariant.unchanged in
    let ensures = c.in_ok-look_at.ensures in
    record {
      unchanged = unchanged_then same ensures.unchanged;
      none_failed = none_then l.invariant.none_failed (ensures.failure.none (λ never. cc));
      buffer_size = ensures.sizes.0;
      numbers_size = ensures.sizes.1;
      room = subst (λ (k : Geometry). HasRoom k c.look_at.new.survey) same.geometry ensures.room;
      counted = omega (arith, l.invariant.counted, ensures.counted);
      looked = told_more old mid c.args.inodes.now c.args.unsettled.now l.one-index _ l.survey c.look_at.new.survey same known c.loop-one-test.true l.invariant.looked ensures.part;
    }

pub returns-in_err-look_at-clause-part : goal.returns-in_err-look_at-clause-part
returns-in_err-look_at-clause-part g c =
    let old = g.S.MetaRead.store c.args.store.now in
    let l = c.loop-one in
    let mid = g.S.MetaRead.store l.store in
    let known = told_known old c.args.inodes.now c.args.unsettled.now c.args.claims c.requires.kept c.requires.room.briefs_size c.requires.groups in
    told_stopped {S = Unit {0}} (λ h image i _. IsSurvey h (reading_of h (block image)) (i + 1) c.look_at.new.survey) (λ h blocks s. IsSurvey h (reading_of h blocks) (inodes_of h) s) old mid c.args.inodes.now c.args.unsettled.now l.one-index _ l.survey c.in_err-look_at.field-0.0
    c.from_residual-in_err-look_at.result l.invariant.unchanged known c.loop-one-test.true l.invariant.looked c.in_err-look_at.ensures.part c.from_residual-in_err-look_at.ensures.1

pub returns-clause-part : goal.returns-clause-part
returns-clause-part g c =
    let old = g.S.MetaRead.store c.args.store.now in
    let l = c.loop-one in
    let known = told_known old c.args.inodes.now c.args.unsettled.now c.args.claims c.requires.kept c.requires.room.briefs_size c.requires.groups in
    told_all old c.args.inodes.now c.args.unsettled.now l.one-index l.survey known c.loop-one-test.false l.invariant.looked
