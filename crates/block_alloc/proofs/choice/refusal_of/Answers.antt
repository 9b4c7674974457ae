use Rattle.std.proofs.Common.{sym, arith}
use Rattle.block_alloc.proofs.Answered.{no_inodes, no_space, inodes_held, unreleased, blocks_held, got}
use Rattle.block_alloc.proofs.choice.refusal_of.Goals as goal

pub returns-then-wants_inode_of-clause-answer : goal.returns-then-wants_inode_of-clause-answer
returns-then-wants_inode_of-clause-answer c hand = no_inodes _ _ _ _ _ _ _ hand (sym c.if-wants_inode_of.ensures)

pub returns-then-counts-n-clause-answer : goal.returns-then-counts-n-clause-answer
returns-then-counts-n-clause-answer c hand = no_space _ _ _ _ _ _ _ hand (sym c.if-wants_inode_of.ensures) c.if-counts-n.true

pub returns-then-wants_inode_of-2-clause-answer : goal.returns-then-wants_inode_of-2-clause-answer
returns-then-wants_inode_of-2-clause-answer c hand = inodes_held _ _ _ _ _ _ _ hand (sym c.if-wants_inode_of.ensures) c.if-counts-n.false (sym c.if-wants_inode_of-2.ensures)

pub returns-then-counts-n-2-clause-answer : goal.returns-then-counts-n-2-clause-answer
returns-then-counts-n-2-clause-answer c hand =
    unreleased _ _ _ _ _ _ _ hand (sym c.if-wants_inode_of.ensures) c.if-counts-n.false (sym c.if-wants_inode_of-2.ensures) c.if-counts-n-2.true

pub returns-then-left-n-clause-answer : goal.returns-then-left-n-clause-answer
returns-then-left-n-clause-answer c hand =
    blocks_held _ _ _ _ _ _ _ hand (sym c.if-wants_inode_of.ensures) c.if-counts-n.false (sym c.if-wants_inode_of-2.ensures) c.if-counts-n-2.false
    (omega (arith, c.saturating_sub-left.ensures, c.if-left-n.true))

pub returns-clause-answer : goal.returns-clause-answer
returns-clause-answer c hand =
    got _ _ _ _ _ _ _ hand (sym c.if-wants_inode_of.ensures) c.if-counts-n.false (sym c.if-wants_inode_of-2.ensures) c.if-counts-n-2.false
    (omega (arith, c.saturating_sub-left.ensures, c.if-left-n.false))
