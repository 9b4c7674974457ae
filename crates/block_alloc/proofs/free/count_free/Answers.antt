use Rattle.std.proofs.Common.{ℕ, ◌+◌, ◌^◌, ◌-◌, List, ap, ◌∙◌}
use Rattle.std.specs.Prelude.{min, count_by, sum_by, is_some, length}
use Rattle.volume_model.specs.declared.hand.Hand.{Hand}
use Rattle.block_alloc.proofs.Counted.{free_counted}
use Rattle.block_alloc.proofs.free.count_free.Goals as goal

pub returns-clause-free : goal.returns-clause-free
returns-clause-free g c tree =
    let told = g.S.MetaRead.store c.args.store.now in
    let fits : ℕ → ℕ = λ n. min n (2 ^ 32 - 1) in
    let hands = c.as_slice-hands.ensures in
    free_counted told.geometry told.content tree c.args.held.now c.in_ok-inodes.inodes c.in_ok-inodes.blocks _ _ c.in_ok-inodes.ensures.geometry
    c.in_ok-inodes.ensures.clear
    (c.sum_of.ensures ∙ ap (λ (n : ℕ). fits (c.in_ok-inodes.inodes + n)) (c.count_inodes.ensures ∙ ap (λ (l : List Hand). count_by (λ hand. is_some hand.inode) l) hands))
    (c.sum_of-2.ensures ∙ ap (λ (n : ℕ). fits (c.in_ok-inodes.blocks + n)) (c.count_blocks.ensures ∙ ap (λ (l : List Hand). min (sum_by (λ hand. length hand.blocks) l) (2 ^ 64 - 1)) hands))
