use Rattle.std.proofs.Common.{◌<◌, ℕ, ◌-◌, ◌%◌, ◌/◌, inl, inr, sym, subst, arith}
use Rattle.std.proofs.Math.Nat.{mod-lt}
use Rattle.std.proofs.lemmas.Bool.{cases_lt, both_ways}
use Rattle.lufs_base.specs.Layout.{group_start}
use Rattle.volume_model.specs.Format.{is_body}
use Rattle.volume_laws.proofs.BodyBlocks.{none_before}
use Rattle.change_laws.specs.Marks.{place_of_block}
use Rattle.block_alloc.proofs.PartReturns.{block_returns}
use Rattle.block_alloc.proofs.ReturnedRecord.{past_records}
use Rattle.block_alloc.proofs.returning.without_block.Goals as goal

pub overflow_sub-away : goal.overflow_sub-away
overflow_sub-away c =
    let g = c.args.g.now in
    let b = c.args.b in
    elim (cases_lt b (group_start g 0)) [
      | inl before ↦ absurd (both_ways (is_body g b) (none_before g c.requires.geometry b before) c.requires.body)
      | inr after ↦ omega (arith, after, c.group_block.ensures)
    ]

pub put_block-requires-clause-body : goal.put_block-requires-clause-body
put_block-requires-clause-body c =
    let g = c.args.g.now in
    let b = c.args.b in
    let below : place_of_block g b < g.bpg = mod-lt (b - group_start g 0) (omega (arith, c.requires.geometry.bpg_low)) in
    subst (λ (k : ℕ). g.ipg / 32 < (b - k) % g.bpg) (sym c.group_block.ensures) (past_records g b c.requires.geometry c.requires.body below)

pub returns-clause-returns : goal.returns-clause-returns
returns-clause-returns c =
    let x = c.args.group.now in
    block_returns c.args.g.now c.args.b x.number c.group_block.result.0 x c.counted-cleared.result c.put_block.new.group c.requires.geometry c.requires.within c.requires.body
    c.requires.its_group c.group_block.ensures c.counted-cleared.ensures.number c.counted-cleared.ensures.inode_bits c.counted-cleared.ensures.block_bits c.put_block.ensures.group
    c.put_block.ensures.put
