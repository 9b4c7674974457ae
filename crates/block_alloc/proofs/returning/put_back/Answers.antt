use Rattle.std.proofs.Common.{Bool, Ok, false, get_or, subst}
use Rattle.change_laws.specs.Hands.{one_block}
use Rattle.sector_disk.proofs.MadeCalls.{none_then}
use Rattle.meta_store.specs.Changing.{AllTold, all_told}
use Rattle.block_alloc.specs.Marking.{no_hand, HasPutBack, PutsBackWhole}
use Rattle.block_alloc.proofs.HeldParts.{block_held, back_more, held_more, blocks_done, back_still, inode_still, inode_ok, inode_some}
use Rattle.block_alloc.proofs.returning.put_back.Goals as goal

pub loop-b-preserved : goal.loop-b-preserved
loop-b-preserved g c =
    let s = c.args.store.now in
    let l = c.loop-b in
    let old : AllTold = all_told (g.S.MetaRead.store s) (g.S.MetaRead.changing s) in
    let now : AllTold = all_told (g.S.MetaRead.store l.store) (g.S.MetaRead.changing l.store) in
    let new : AllTold = all_told (g.S.MetaRead.store c.return_block.new.store) (g.S.MetaRead.changing c.return_block.new.store) in
    let b = get_or c.as_slice-b-items.result.now l.b-index 0 in
    let put : HasPutBack (one_block b) no_hand now new = subst (λ (t : Bool). PutsBackWhole (Ok t) (one_block b) now new) c.if-not-branch.false c.in_ok-return_block.ensures.whole in
    record {
      back = back_more c.args.hand.now c.as_slice-b-items.result.now l.b-index old now c.loop-b-test.true c.as_slice-b-items.ensures l.invariant.back l.invariant.held new put;
      held = held_more c.args.hand.now c.as_slice-b-items.result.now l.b-index old now c.loop-b-test.true c.as_slice-b-items.ensures l.invariant.back l.invariant.held new put;
      none_failed = none_then l.invariant.none_failed c.in_ok-return_block.ensures.failure;
    }

pub return_block-requires : goal.return_block-requires
return_block-requires g c =
    let s = c.args.store.now in
    let l = c.loop-b in
    let old : AllTold = all_told (g.S.MetaRead.store s) (g.S.MetaRead.changing s) in
    let now : AllTold = all_told (g.S.MetaRead.store l.store) (g.S.MetaRead.changing l.store) in
    block_held c.args.hand.now c.as_slice-b-items.result.now l.b-index old now c.loop-b-test.true c.as_slice-b-items.ensures l.invariant.back l.invariant.held

pub returns-in_err-return_block-clause-some : goal.returns-in_err-return_block-clause-some
returns-in_err-return_block-clause-some g c =
    let s = c.args.store.now in
    let l = c.loop-b in
    let old : AllTold = all_told (g.S.MetaRead.store s) (g.S.MetaRead.changing s) in
    let now : AllTold = all_told (g.S.MetaRead.store l.store) (g.S.MetaRead.changing l.store) in
    let new : AllTold = all_told (g.S.MetaRead.store c.return_block.new.store) (g.S.MetaRead.changing c.return_block.new.store) in
    back_still c.args.hand.now c.as_slice-b-items.result.now l.b-index old now new c.as_slice-b-items.ensures l.invariant.back c.in_err-return_block.ensures.whole

pub returns-then-not-branch-clause-some : goal.returns-then-not-branch-clause-some
returns-then-not-branch-clause-some g c =
    let s = c.args.store.now in
    let l = c.loop-b in
    let old : AllTold = all_told (g.S.MetaRead.store s) (g.S.MetaRead.changing s) in
    let now : AllTold = all_told (g.S.MetaRead.store l.store) (g.S.MetaRead.changing l.store) in
    let new : AllTold = all_told (g.S.MetaRead.store c.return_block.new.store) (g.S.MetaRead.changing c.return_block.new.store) in
    let b = get_or c.as_slice-b-items.result.now l.b-index 0 in
    let put : PutsBackWhole (Ok false) (one_block b) now new = subst (λ (t : Bool). PutsBackWhole (Ok t) (one_block b) now new) c.if-not-branch.true c.in_ok-return_block.ensures.whole in
    back_still c.args.hand.now c.as_slice-b-items.result.now l.b-index old now new c.as_slice-b-items.ensures l.invariant.back put.1

pub returns-in_err-return_inode-clause-some : goal.returns-in_err-return_inode-clause-some
returns-in_err-return_inode-clause-some g c =
    let s = c.args.store.now in
    let l = c.loop-b in
    let old : AllTold = all_told (g.S.MetaRead.store s) (g.S.MetaRead.changing s) in
    let now : AllTold = all_told (g.S.MetaRead.store l.store) (g.S.MetaRead.changing l.store) in
    let new : AllTold = all_told (g.S.MetaRead.store c.return_inode.new.store) (g.S.MetaRead.changing c.return_inode.new.store) in
    inode_still c.args.hand.now old now new (blocks_done c.args.hand.now c.as_slice-b-items.result.now l.b-index old now c.loop-b-test.false l.invariant.back) c.in_err-return_inode.ensures.whole

pub returns-in_ok-return_inode-clause-ok : goal.returns-in_ok-return_inode-clause-ok
returns-in_ok-return_inode-clause-ok g c =
    let s = c.args.store.now in
    let l = c.loop-b in
    let old : AllTold = all_told (g.S.MetaRead.store s) (g.S.MetaRead.changing s) in
    let now : AllTold = all_told (g.S.MetaRead.store l.store) (g.S.MetaRead.changing l.store) in
    let new : AllTold = all_told (g.S.MetaRead.store c.return_inode.new.store) (g.S.MetaRead.changing c.return_inode.new.store) in
    inode_ok c.in_ok-return_inode.field-0 c.args.hand.now c.in-Some.i old now new c.in-Some.is
    (blocks_done c.args.hand.now c.as_slice-b-items.result.now l.b-index old now c.loop-b-test.false l.invariant.back) c.in_ok-return_inode.ensures.whole

pub returns-in_ok-return_inode-clause-some : goal.returns-in_ok-return_inode-clause-some
returns-in_ok-return_inode-clause-some g c =
    let s = c.args.store.now in
    let l = c.loop-b in
    let old : AllTold = all_told (g.S.MetaRead.store s) (g.S.MetaRead.changing s) in
    let now : AllTold = all_told (g.S.MetaRead.store l.store) (g.S.MetaRead.changing l.store) in
    let new : AllTold = all_told (g.S.MetaRead.store c.return_inode.new.store) (g.S.MetaRead.changing c.return_inode.new.store) in
    inode_some c.in_ok-return_inode.field-0 c.args.hand.now c.in-Some.i old now new c.in-Some.is
    (blocks_done c.args.hand.now c.as_slice-b-items.result.now l.b-index old now c.loop-b-test.false l.invariant.back) c.in_ok-return_inode.ensures.whole
