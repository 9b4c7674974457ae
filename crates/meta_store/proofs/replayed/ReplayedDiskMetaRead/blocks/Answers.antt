use Rattle.std.proofs.Common.{◌/◌, ◌%◌, ◌≡◌, length, refl, arith}
use Rattle.meta_store.proofs.BlockRows.{row_laid}
use Rattle.meta_store.proofs.replayed.ReplayedDiskMetaRead.blocks.Goals as goal

pub returns-clause-bytes : goal.returns-clause-bytes
returns-clause-bytes g c =
    let store = c.args.self.now in
    row_laid (g.D.Disk.told store.volume.disk).present store.laid c.args.first.0 (length c.read.new.out / 512) c.read.new.out c.lay_over.new.blocks (omega (arith, c.requires.whole, c.read.auto.out)) refl c.in_ok-read.ensures.bytes
    c.lay_over.ensures (omega (arith, c.lay_over.auto.blocks))
