use Rattle.std.proofs.Common.{[], ◌∷◌, ap}
use Rattle.std.specs.Prelude.{IsOk, is_ok}
use Rattle.volume_model.specs.declared.device_call.DeviceCall.TheVariants.{Write, Flush}
use Rattle.sector_disk.proofs.MadeCalls.{write_makes, flush_makes, made_of, begun_of, begun_more, makes_some, makes_then, fits_still}
use Rattle.new_volume.proofs.make.put_superblock.Goals as goal

pub returns-in_err-write-clause-calls : goal.returns-in_err-write-clause-calls
returns-in_err-write-clause-calls g c =
    let makes = write_makes c.write.result 16 c.args.sector.now (g.D.Disk.told c.args.disk.now) (g.D.Disk.told c.write.new.self) c.requires.counted c.write.ensures.ok c.write.ensures.err in
    makes_some c.from_residual.result _ _ _ c.from_residual.ensures.0 (begun_more (Write 16 c.args.sector.now ∷ []) (Flush ∷ []) _ _ (begun_of c.write.result _ _ _ makes))

pub returns-clause-calls : goal.returns-clause-calls
returns-clause-calls g c =
    let went : IsOk c.write.result = ap is_ok c.in_ok-write.was in
    let made = made_of c.write.result (Write 16 c.args.sector.now ∷ []) _ _ went
    (write_makes c.write.result 16 c.args.sector.now (g.D.Disk.told c.args.disk.now) (g.D.Disk.told c.write.new.self) c.requires.counted c.write.ensures.ok c.write.ensures.err) in
    makes_then c.flush.result (Write 16 c.args.sector.now ∷ []) (Flush ∷ []) _ _ _ c.requires.counted made
    (flush_makes c.flush.result _ (g.D.Disk.told c.flush.new.self) (fits_still _ _ _ made) c.flush.ensures.ok c.flush.ensures.err)
