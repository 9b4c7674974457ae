use Rattle.std.proofs.Common.{◌≡◌, ℕ, List, take, true, refl, subst, ◌∙◌, arith}
use Rattle.std.proofs.lemmas.List.{take_all}
use Rattle.change_laws.specs.Marks.{HasHandPut}
use Rattle.cyl_groups.specs.Group.{record_of}
use Rattle.block_alloc.proofs.HandPut.{next_block}
use Rattle.block_alloc.proofs.marks.mark.Goals as goal

pub loop-b-preserved : goal.loop-b-preserved
loop-b-preserved c =
    let old = c.args.group.now in
    let l = c.loop-b in
    record {
      group = c.mark_block.ensures.group;
      number = c.mark_block.ensures.number ∙ l.invariant.number;
      put = next_block c.args.g.now old.number l.group.number c.args.hand.now.inode c.as_slice-b-items.result.now l.b-index _ (record_of old) (record_of l.group)
          (record_of c.mark_block.new.group) c.loop-b-test.true refl l.invariant.number l.invariant.put c.mark_block.ensures.put;
    }

pub returns-clause-put : goal.returns-clause-put
returns-clause-put c =
    let old = c.args.group.now in
    let l = c.loop-b in
    let items : List ℕ = c.as_slice-b-items.result.now in
    let all : take l.b-index items ≡ c.args.hand.now.blocks = take_all l.b-index items (omega (arith, c.loop-b-test.false)) ∙ c.as_slice-b-items.ensures in
    subst (λ (blocks : List ℕ). HasHandPut c.args.g.now old.number true (record { inode = c.args.hand.now.inode; blocks = blocks }) (record_of old) (record_of l.group)) all l.invariant.put
