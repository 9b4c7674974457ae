use Rattle.std.proofs.Common.{◌≡◌, ℕ, ◌*◌, ◌/◌, length, OnOk, IfSome, subst, arith}
use Rattle.volume_model.specs.Format.{sectors_from}
use Rattle.meta_store.proofs.replayed.VolumeDisk.read.Goals as goal

pub returns-clause-bytes : goal.returns-clause-bytes
returns-clause-bytes g c =
    let told = g.D.Disk.told c.args.self.now.disk in
    let first : 8 * c.from.result ≡ 8 * c.args.first.0 = omega arith in
    subst (λ (n : ℕ). OnOk c.read.result (IfSome told.present (λ image. c.read.new.out ≡ sectors_from image n (length c.read.new.out / 512)))) first c.read.ensures.bytes
