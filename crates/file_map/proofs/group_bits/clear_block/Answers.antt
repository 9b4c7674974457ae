use Rattle.std.proofs.Common.{◌<◌, ◌-◌, ◌/◌, ◌%◌, ℕ, refl, sym, subst, ◌∙◌, arith}
use Rattle.cyl_groups.specs.Group.{record_of}
use Rattle.file_map.proofs.ClearedBits.{past_records, block_cleared, clear_before}
use Rattle.file_map.proofs.CountedGroups.{block_left}
use Rattle.file_map.proofs.group_bits.clear_block.Goals as goal

pub returns-then-is_set-clause-group : goal.returns-then-is_set-clause-group
returns-then-is_set-clause-group c =
    let g = c.args.g.now in
    let old = c.args.group.now in
    let b = c.args.b.0 in
    let first = c.group_block.result.0 in
    let below : (b - first) % g.bpg < g.bpg = search arith in
    let low : g.ipg / 32 < (b - first) % g.bpg =
    subst (λ (k : ℕ). (b - k) % g.bpg < g.bpg → g.ipg / 32 < (b - k) % g.bpg) (sym c.group_block.ensures)
    (past_records g b old.number c.requires.geometry c.requires.body c.requires.its_group) below in
    block_left g old c.clear_block.new.self ((b - first) % g.bpg) c.requires.geometry c.requires.group c.clear_block.ensures.counted c.clear_block.ensures.bit c.clear_block.ensures.others
    low below c.are_bytes.ensures.size c.are_bytes.ensures.bytes

pub returns-then-is_set-clause-put : goal.returns-then-is_set-clause-put
returns-then-is_set-clause-put c =
    let g = c.args.g.now in
    let old = c.args.group.now in
    block_cleared g c.args.b.0 old.number c.requires.geometry c.requires.body c.requires.its_group c.group_block.result.0 (record_of old) (record_of c.clear_block.new.self) c.group_block.ensures
    (record { bit = c.clear_block.ensures.bit.bit; others = c.clear_block.ensures.bit.others }) c.clear_block.ensures.others.inode_bits

pub returns-else-is_set-clause-put : goal.returns-else-is_set-clause-put
returns-else-is_set-clause-put c =
    let g = c.args.g.now in
    let old = c.args.group.now in
    let first = c.group_block.result.0 in
    block_cleared g c.args.b.0 old.number c.requires.geometry c.requires.body c.requires.its_group first (record_of old) (record_of old) c.group_block.ensures
    (clear_before ((c.args.b.0 - first) % g.bpg) old.block_bits (sym c.is_set.ensures ∙ c.if-is_set.false)) refl
