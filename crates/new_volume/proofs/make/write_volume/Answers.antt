use Rattle.std.proofs.Common.{ℕ, [], ◌∷◌, ap, subst}
use Rattle.std.specs.Prelude.{IsOk, is_ok}
use Rattle.lufs_base.specs.Layout.{header_sector}
use Rattle.volume_model.specs.declared.device_call.DeviceCall.TheVariants.{Write, Flush}
use Rattle.sector_disk.specs.Disk.{HasMade, Makes}
use Rattle.sector_disk.proofs.MadeCalls.{write_makes, flush_makes, made_of, begun_of, makes_some, fits_still}
use Rattle.new_volume.specs.Mkfs.{clearing, group_calls}
use Rattle.new_volume.proofs.VolumeCalls.{clearing_begun, log_begun, groups_begun, flush_begun, all_made}
use Rattle.new_volume.proofs.make.write_volume.Given.{Over}
use Rattle.new_volume.proofs.make.write_volume.Goals as goal
use Rattle.new_volume.proofs.make.write_volume.Goals.{In_ok-put_superblock, After-write, In_ok-write, In_ok-write_groups, After-flush}

-- what the calls that went have made, part by part
cleared : (g : Over) (c : In_ok-put_superblock g) → HasMade clearing (g.D.Disk.told c.args.disk.now) (g.D.Disk.told c.put_superblock.new.disk)
cleared g c =
    let went : IsOk c.put_superblock.result = ap is_ok c.in_ok-put_superblock.was in
    made_of c.put_superblock.result _ _ _ went c.put_superblock.ensures.calls

writes_log : (g : Over) (c : After-write g) → HasMade clearing (g.D.Disk.told c.args.disk.now) (g.D.Disk.told c.put_superblock.new.disk)
    → Makes (Write (header_sector c.args.g.now) c.args.log.now ∷ []) c.write.result (g.D.Disk.told c.put_superblock.new.disk) (g.D.Disk.told c.write.new.self)
writes_log g c before =
    subst (λ (first : ℕ). Makes (Write first c.args.log.now ∷ []) c.write.result (g.D.Disk.told c.put_superblock.new.disk) (g.D.Disk.told c.write.new.self)) c.header_sector.ensures
    (write_makes c.write.result c.header_sector.result c.args.log.now _ _ (fits_still _ _ _ before) c.write.ensures.ok c.write.ensures.err)

logged : (g : Over) (c : In_ok-write g) → Makes (Write (header_sector c.args.g.now) c.args.log.now ∷ []) c.write.result (g.D.Disk.told c.put_superblock.new.disk) (g.D.Disk.told c.write.new.self)
    → HasMade (Write (header_sector c.args.g.now) c.args.log.now ∷ []) (g.D.Disk.told c.put_superblock.new.disk) (g.D.Disk.told c.write.new.self)
logged g c makes =
    let went : IsOk c.write.result = ap is_ok c.in_ok-write.was in
    made_of c.write.result _ _ _ went makes

grouped : (g : Over) (c : In_ok-write_groups g) → HasMade (group_calls c.args.g.now c.args.first.now c.args.g.now.groups) (g.D.Disk.told c.write.new.self) (g.D.Disk.told c.write_groups.new.disk)
grouped g c =
    let went : IsOk c.write_groups.result = ap is_ok c.in_ok-write_groups.was in
    made_of c.write_groups.result _ _ _ went c.write_groups.ensures.calls

flushes : (g : Over) (c : After-flush g) → HasMade (group_calls c.args.g.now c.args.first.now c.args.g.now.groups) (g.D.Disk.told c.write.new.self) (g.D.Disk.told c.write_groups.new.disk)
    → Makes (Flush ∷ []) c.flush.result (g.D.Disk.told c.write_groups.new.disk) (g.D.Disk.told c.flush.new.self)
flushes g c before = flush_makes c.flush.result _ _ (fits_still _ _ _ before) c.flush.ensures.ok c.flush.ensures.err

pub returns-in_err-put_superblock-clause-calls : goal.returns-in_err-put_superblock-clause-calls
returns-in_err-put_superblock-clause-calls g c =
    makes_some c.from_residual.result _ _ _ c.from_residual.ensures.0
    (clearing_begun c.args.g.now c.args.log.now c.args.first.now _ c.requires.counted _ (begun_of c.put_superblock.result _ _ _ c.put_superblock.ensures.calls))

pub write_groups-requires-clause-counted : goal.write_groups-requires-clause-counted
write_groups-requires-clause-counted g c = fits_still (Write c.header_sector.result c.args.log.now ∷ []) _ _ c.in_ok-write.ensures.ok

pub put_superblock-requires-2-clause-counted : goal.put_superblock-requires-2-clause-counted
put_superblock-requires-2-clause-counted g c = fits_still (Flush ∷ []) _ _ c.in_ok-flush.ensures.ok

pub returns-in_err-write-clause-calls : goal.returns-in_err-write-clause-calls
returns-in_err-write-clause-calls g c =
    let before = cleared g (goal.at.returns-in_err-write-clause-calls g c).In_ok-put_superblock in
    makes_some c.from_residual-in_err-write.result _ _ _ c.from_residual-in_err-write.ensures.0
    (log_begun c.args.g.now c.args.log.now c.args.first.now _ c.requires.counted _ before _
    (begun_of c.write.result _ _ _ (writes_log g (goal.at.returns-in_err-write-clause-calls g c).After-write before)))

pub returns-in_err-write_groups-clause-calls : goal.returns-in_err-write_groups-clause-calls
returns-in_err-write_groups-clause-calls g c =
    let before = cleared g (goal.at.returns-in_err-write_groups-clause-calls g c).In_ok-put_superblock in
    let log = logged g (goal.at.returns-in_err-write_groups-clause-calls g c).In_ok-write (writes_log g (goal.at.returns-in_err-write_groups-clause-calls g c).After-write before) in
    makes_some c.from_residual-in_err-write_groups.result _ _ _ c.from_residual-in_err-write_groups.ensures.0
    (groups_begun c.args.g.now c.args.log.now c.args.first.now _ c.requires.counted _ before _ log _ (begun_of c.write_groups.result _ _ _ c.write_groups.ensures.calls))

pub returns-in_err-flush-clause-calls : goal.returns-in_err-flush-clause-calls
returns-in_err-flush-clause-calls g c =
    let before = cleared g (goal.at.returns-in_err-flush-clause-calls g c).In_ok-put_superblock in
    let log = logged g (goal.at.returns-in_err-flush-clause-calls g c).In_ok-write (writes_log g (goal.at.returns-in_err-flush-clause-calls g c).After-write before) in
    let groups = grouped g (goal.at.returns-in_err-flush-clause-calls g c).In_ok-write_groups in
    makes_some c.from_residual-in_err-flush.result _ _ _ c.from_residual-in_err-flush.ensures.0
    (flush_begun c.args.g.now c.args.log.now c.args.first.now _ c.requires.counted _ before _ log _ groups _
    (begun_of c.flush.result _ _ _ (flushes g (goal.at.returns-in_err-flush-clause-calls g c).After-flush groups)))

pub returns-clause-calls : goal.returns-clause-calls
returns-clause-calls g c =
    let went : IsOk c.flush.result = ap is_ok c.in_ok-flush.was in
    let before = cleared g (goal.at.returns-clause-calls g c).In_ok-put_superblock in
    let log = logged g (goal.at.returns-clause-calls g c).In_ok-write (writes_log g (goal.at.returns-clause-calls g c).After-write before) in
    let groups = grouped g (goal.at.returns-clause-calls g c).In_ok-write_groups in
    all_made c.args.g.now c.args.log.now c.args.first.now _ c.requires.counted _ before _ log _ groups c.put_superblock-2.result _ _
    (made_of c.flush.result _ _ _ went (flushes g (goal.at.returns-clause-calls g c).After-flush groups))
    c.write_super.new.out c.write_super.ensures c.put_superblock-2.ensures.calls
