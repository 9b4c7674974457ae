use Rattle.std.proofs.Common.{ℕ, Vec, Global, subst}
use Rattle.std.specs.Prelude.{IfOk, IfSome}
use Rattle.meta_store.specs.Store.{StoreTold}
use Rattle.drive_command.specs.Volume.{HasBlocksOf}
use Rattle.drive_command.proofs.VolumeSteps.{content_read}
use Rattle.drive_command.proofs.mount.read_content.Goals as goal

pub returns-clause-content : goal.returns-clause-content
returns-clause-content g c =
    content_read {T = Vec ℕ Global} (λ v. v.items) c.args.g.now (g.D.Disk.told c.args.disk).present c.args.log.now c.in-Ok.laid c.read_image-read.result c.in-Ok.ensures
    (subst (λ (told : StoreTold). IfOk c.read_image-read.result (λ read. IfSome told.content (HasBlocksOf told.geometry read.items))) c.over-store.ensures c.read_image-read.ensures.blocks)
