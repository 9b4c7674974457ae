use Rattle.block_alloc.proofs.ChosenHand.{answer_before}
use Rattle.block_alloc.proofs.choice.choose.Goals as goal

pub returns-clause-answer : goal.returns-clause-answer
returns-clause-answer g c tree =
    let told = g.S.MetaRead.store c.args.store.now in
    let same = c.in_ok-records.ensures.same in
    answer_before c.in_ok-taken.taken c.args.inode c.args.n told.geometry _ (g.S.MetaRead.changing c.args.store.now).is_released _ c.in_ok-records.records.items _ c.args.held.now _
    told.content tree same.read.geometry same.changing.released c.deref.ensures.value c.as_slice.ensures c.in_ok-records.ensures.records c.in_ok-taken.ensures.answer
