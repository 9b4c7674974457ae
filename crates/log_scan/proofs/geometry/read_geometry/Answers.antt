use Rattle.std.proofs.Common.{◌≡◌, length, Some, None, Result, Err, IfSome, sym, ap, subst, ◌∙◌, arith}
use Rattle.std.proofs.lemmas.Result.{err_from_is_err_and}
use Rattle.lufs_base.specs.declared.geometry.Geometry.{Geometry}
use Rattle.volume_model.specs.Format.{geometry_of}
use Rattle.log_scan.specs.Answers.{IsGeometryAnswer}
use Rattle.log_scan.specs.declared.geometry.GeometryError.{GeometryError}
use Rattle.log_scan.proofs.GeometryTold.{small_told, read_told}
use Rattle.log_scan.proofs.geometry.read_geometry.Goals as goal

pub returns-then-sectors-le-SUPERBLOCK_SECTOR-clause-value : goal.returns-then-sectors-le-SUPERBLOCK_SECTOR-clause-value
returns-then-sectors-le-SUPERBLOCK_SECTOR-clause-value g c =
    small_told (g.D.Disk.told c.args.disk.now).present (g.D.Disk.told c.args.disk.now).sectors c.sectors-sectors.result (g.met.D.Disk.size c.args.disk.now) c.sectors-sectors.ensures.value
    c.if-sectors-le-SUPERBLOCK_SECTOR.true

pub returns-in_err-read_super-clause-value : goal.returns-in_err-read_super-clause-value
returns-in_err-read_super-clause-value g c =
    let told = g.D.Disk.told c.args.disk.now in
    let size : length c.read.new.out ≡ 512 = omega (arith, c.read.auto.out) in
    let p = err_from_is_err_and c.from_residual-in_err-read_super.result c.from_residual-in_err-read_super.ensures.1 in
    subst (λ (r : Result Geometry GeometryError). IfSome (g.D.Disk.told c.args.disk.now).present (λ image. IsGeometryAnswer (geometry_of image) r))
    (sym (p.1 ∙ ap (λ (e : GeometryError). Err e) p.2))
    (read_told told.present told.sectors c.sectors-sectors.result c.read.new.out None (g.met.D.Disk.size c.args.disk.now) c.sectors-sectors.ensures.value size c.in_ok-read.ensures.bytes
    c.in_err-read_super.ensures.value)

pub returns-clause-value : goal.returns-clause-value
returns-clause-value g c =
    let told = g.D.Disk.told c.args.disk.now in
    let size : length c.read.new.out ≡ 512 = omega (arith, c.read.auto.out) in
    read_told told.present told.sectors c.sectors-sectors.result c.read.new.out (Some c.in_ok-read_super.field-0) (g.met.D.Disk.size c.args.disk.now) c.sectors-sectors.ensures.value size c.in_ok-read.ensures.bytes
    c.in_ok-read_super.ensures.value
