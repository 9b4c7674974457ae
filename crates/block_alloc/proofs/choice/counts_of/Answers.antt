use Rattle.std.proofs.Common.{◌≡◌, ℕ, ◌+◌, ◌^◌, ◌-◌, ap, ◌∙◌}
use Rattle.std.specs.Prelude.{min}
use Rattle.std.specs.List.{count_by, range_with_len}
use Rattle.lufs_base.specs.Layout.{blocks_of}
use Rattle.lufs_base.specs.declared.geometry.Geometry.{Geometry}
use Rattle.block_alloc.specs.Records.{clear_inodes_among, clear_blocks_among, may_give}
use Rattle.block_alloc.proofs.Answered.{counts_right}
use Rattle.block_alloc.proofs.choice.counts_of.Goals as goal

pub returns : goal.returns
returns g c blocks tree so stands =
    let told = g.S.MetaRead.store c.args.store.now in
    let is = c.geometry-g.ensures.value in
    let fits : ℕ → ℕ = λ n. min n (2 ^ 32 - 1) in
    let given : ℕ = count_by (may_give told.geometry c.args.records.now (g.S.MetaRead.changing c.args.store.now).is_released) (range_with_len 0 (blocks_of told.geometry)) in
    let inodes : c.clear_inodes.result ≡ clear_inodes_among told.geometry c.args.records.now =
    c.clear_inodes.ensures ∙ ap (λ (h : Geometry). clear_inodes_among h c.args.records.now) is in
    let clear : c.clear_blocks.result ≡ clear_blocks_among told.geometry c.args.records.now =
    c.clear_blocks.ensures ∙ ap (λ (h : Geometry). clear_blocks_among h c.args.records.now) is in
    counts_right told.geometry blocks tree c.args.held.now c.args.records.now (g.S.MetaRead.changing c.args.store.now).is_released _ c.geometry-g.ensures.in_range so stands
    (c.sum_of.ensures ∙ ap (λ (n : ℕ). fits (n + c.count_inodes-inodes.result)) inodes ∙ ap (λ (n : ℕ). fits (clear_inodes_among told.geometry c.args.records.now + n)) c.count_inodes-inodes.ensures)
    (c.sum_of-2.ensures ∙ ap (λ (n : ℕ). fits (n + c.count_blocks-blocks.result)) clear ∙ ap (λ (n : ℕ). fits (clear_blocks_among told.geometry c.args.records.now + n)) c.count_blocks-blocks.ensures)
    (c.sum_of-3.ensures ∙ ap (λ (n : ℕ). fits (n + c.count_blocks-blocks.result)) c.count_released.ensures ∙ ap (λ (n : ℕ). fits (given + n)) c.count_blocks-blocks.ensures)
    (c.sum_of-4.ensures ∙ ap (λ (n : ℕ). fits (0 + n)) c.count_inodes-inodes.ensures)
    (c.sum_of-5.ensures ∙ ap (λ (n : ℕ). fits (0 + n)) c.count_blocks-blocks.ensures)
