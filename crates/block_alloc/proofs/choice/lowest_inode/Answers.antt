use Rattle.std.proofs.Common.{◌≡◌, ◌<◌, ℕ, ◌+◌, ◌-◌, Bool, Some, sym, ap, ◌∙◌, arith}
use Rattle.volume_model.specs.Format.{inodes_of}
use Rattle.block_alloc.specs.Records.{is_clear_inode}
use Rattle.block_alloc.proofs.Ranges.{find_first, find_none}
use Rattle.block_alloc.proofs.choice.lowest_inode.Goals as goal

pub returns-then-is_clear_inode : goal.returns-then-is_clear_inode
returns-then-is_clear_inode c =
    let test : ℕ → Bool = is_clear_inode c.args.g.now c.args.records.now in
    let i = c.loop-i.i in
    let k = i - 2 in
    let back : 2 + k ≡ i = omega (arith, c.loop-i.auto.i) in
    let below : k < inodes_of c.args.g.now - 2 = omega (arith, c.loop-i.auto.i, c.loop-i-test.true) in
    sym (find_first test 2 (inodes_of c.args.g.now - 2) k (λ j low high. c.loop-i.invariant j low (omega (arith, high, back))) below (ap test back ∙ sym c.if-is_clear_inode.ensures)
    ∙ ap (λ (j : ℕ). Some j) back)

pub returns : goal.returns
returns c =
    let test : ℕ → Bool = is_clear_inode c.args.g.now c.args.records.now in
    sym (find_none test 2 (inodes_of c.args.g.now - 2) (λ j low high. c.loop-i.invariant j low (omega (arith, high, low, c.loop-i-test.false))))
