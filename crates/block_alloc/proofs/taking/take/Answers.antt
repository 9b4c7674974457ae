use Rattle.std.proofs.Common.{◌≡◌, subst, IfSome}
use Rattle.volume_model.specs.Format.{block}
use Rattle.volume_model.specs.Sound.{StandsFor, reading_of}
use Rattle.meta_store.specs.Changing.{all_told}
use Rattle.block_alloc.specs.declared.taken.Taken.{Taken}
use Rattle.block_alloc.specs.Taking.{answer_of}
use Rattle.block_alloc.proofs.ChosenHand.{answer_before}
use Rattle.block_alloc.proofs.TakenBefore.{taken_before, not_taken}
use Rattle.block_alloc.proofs.taking.take.Goals as goal

pub returns-in-Got-clause-answer : goal.returns-in-Got-clause-answer
returns-in-Got-clause-answer g c tree =
    let told = g.S.MetaRead.store c.args.store.now in
    let may = (g.S.MetaRead.changing c.args.store.now).is_released in
    let same = c.in_ok-records.ensures.same in
    subst (λ (t : Taken). IfSome told.content (λ image. StandsFor told.geometry (block image) tree c.args.held.now
    → t ≡ answer_of told.geometry (reading_of told.geometry (block image)) tree may c.args.held.now c.args.inode c.args.n)) c.in-Got.is
    (answer_before c.in_ok-taken.taken c.args.inode c.args.n told.geometry _ may _ c.in_ok-records.records.items _ c.args.held.now _ told.content tree same.read.geometry
    same.changing.released c.deref.ensures.value c.as_slice.ensures c.in_ok-records.ensures.records c.in_ok-taken.ensures.answer)

pub returns-in-Got-clause-takes : goal.returns-in-Got-clause-takes
returns-in-Got-clause-takes g c =
    let old = c.args.store.now in
    let mid = c.read_records.new.store in
    let new = c.take_hand.new.store in
    taken_before c.in-Got.hand (all_told (g.S.MetaRead.store old) (g.S.MetaRead.changing old)) (all_told (g.S.MetaRead.store mid) (g.S.MetaRead.changing mid))
    (all_told (g.S.MetaRead.store new) (g.S.MetaRead.changing new)) c.in_ok-records.ensures.same c.in_ok-take_hand-in-Got.ensures.takes

pub returns-clause-answer : goal.returns-clause-answer
returns-clause-answer g c tree =
    let told = g.S.MetaRead.store c.args.store.now in
    let same = c.in_ok-records.ensures.same in
    answer_before c.in_ok-taken.taken c.args.inode c.args.n told.geometry _ (g.S.MetaRead.changing c.args.store.now).is_released _ c.in_ok-records.records.items _ c.args.held.now _
    told.content tree same.read.geometry same.changing.released c.deref.ensures.value c.as_slice.ensures c.in_ok-records.ensures.records c.in_ok-taken.ensures.answer

pub returns-clause-takes : goal.returns-clause-takes
returns-clause-takes g c =
    let old = c.args.store.now in
    let mid = c.read_records.new.store in
    not_taken c.in_ok-taken.taken (all_told (g.S.MetaRead.store old) (g.S.MetaRead.changing old)) (all_told (g.S.MetaRead.store mid) (g.S.MetaRead.changing mid)) c.in_default.not-Got
    c.in_ok-records.ensures.same
