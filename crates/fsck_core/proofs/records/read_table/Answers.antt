use Rattle.std.proofs.Common.{◌+◌, ap}
use Rattle.volume_model.specs.Format.{block}
use Rattle.fsck_core.proofs.TableLoop.{table_told}
use Rattle.fsck_core.proofs.records.read_table.Goals as goal

pub returns-clause-part : goal.returns-clause-part
returns-clause-part g c =
    table_told (g.S.MetaRead.store c.args.store.now) c.geometry.result.now c.args.n (c.group_block.result.0 + 1) c.blocks-2.new.out c.args.inodes.now c.push_table.new.inodes c.push_table.result
    c.geometry.ensures.value (ap (λ n. n + 1) c.group_block.ensures) c.in_ok-blocks.ensures.bytes (λ image. c.push_table.ensures.part (block image))
