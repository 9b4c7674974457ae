use Rattle.std.proofs.Common.{◌≡◌, ℕ, length, OnOk, IfSome, arith}
use Rattle.meta_store.specs.Index.{replayed_told}
use Rattle.meta_store.proofs.BlockRows.{only_read}
use Rattle.meta_store.proofs.replayed.ReplayedDiskMetaRead.block.Goals as goal

pub returns-clause-bytes : goal.returns-clause-bytes
returns-clause-bytes g c =
    let store = c.args.self.now in
    only_read c.blocks-2.result (replayed_told store.volume.geometry store.laid (g.D.Disk.told store.volume.disk)) c.args.b.0 c.blocks-2.new.out
    (omega (arith, c.requires.size, c.blocks-2.auto.out)) c.blocks-2.ensures.bytes
