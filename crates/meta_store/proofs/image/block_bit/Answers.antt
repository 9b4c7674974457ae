use Rattle.std.proofs.Common.{◌≡◌, ℕ, ◌-◌, ◌*◌, ◌/◌, ◌%◌, List, false, Option, Some, None, ap, sym, ◌∙◌}
use Rattle.std.specs.Option.{option_map_or}
use Rattle.lufs_base.specs.Layout.{group_start}
use Rattle.volume_model.specs.Format.{GroupRecord, bit_at, group_of, block, Blocks}
use Rattle.volume_model.specs.Sound.{group_at}
use Rattle.cyl_groups.specs.Group.{record_of}
use Rattle.meta_store.proofs.FreeBlocks.{bit_in_group, in_a_group, bytes_of_record}
use Rattle.meta_store.proofs.image.block_bit.Goals as goal

pub returns-in-Ok : goal.returns-in-Ok
returns-in-Ok c =
    let g = c.args.g.now in
    let b = c.args.b.0 in
    let blocks : Blocks = block c.args.image.now in
    let first = c.group_block.result.0 in
    let n = (b - first) / g.bpg in
    let found : Some (record_of c.in-Ok.group) ≡ group_at g blocks n =
    c.in-Ok.ensures.value
    ∙ ap (λ (bytes : List ℕ). group_of g n bytes) (bytes_of_record c.args.image.now (group_start g n) (4096 * c.group_block-2.result.0) (ap (λ (k : ℕ). 4096 * k) c.group_block-2.ensures)) in
    c.is_set.ensures
    ∙ ap (λ (o : Option GroupRecord). option_map_or (λ group. bit_at group.block_bits ((b - first) % g.bpg)) o false) found
    ∙ ap (λ (k : ℕ). option_map_or (λ group. bit_at group.block_bits ((b - k) % g.bpg)) (group_at g blocks ((b - k) / g.bpg)) false) c.group_block.ensures
    ∙ sym (bit_in_group g blocks b (in_a_group g c.requires.geometry b c.requires.body))

pub returns-in-Err : goal.returns-in-Err
returns-in-Err c =
    let g = c.args.g.now in
    let b = c.args.b.0 in
    let blocks : Blocks = block c.args.image.now in
    let first = c.group_block.result.0 in
    let n = (b - first) / g.bpg in
    let found : None ≡ group_at g blocks n =
    c.in-Err.ensures.value
    ∙ ap (λ (bytes : List ℕ). group_of g n bytes) (bytes_of_record c.args.image.now (group_start g n) (4096 * c.group_block-2.result.0) (ap (λ (k : ℕ). 4096 * k) c.group_block-2.ensures)) in
    ap (λ (o : Option GroupRecord). option_map_or (λ group. bit_at group.block_bits ((b - first) % g.bpg)) o false) found
    ∙ ap (λ (k : ℕ). option_map_or (λ group. bit_at group.block_bits ((b - k) % g.bpg)) (group_at g blocks ((b - k) / g.bpg)) false) c.group_block.ensures
    ∙ sym (bit_in_group g blocks b (in_a_group g c.requires.geometry b c.requires.body))
