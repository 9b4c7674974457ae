use Rattle.std.proofs.Common.{ℕ, ◌*◌, arith, refl, ap, subst, ◌≡◌, ◌≤◌}
use Rattle.std.specs.Prelude.{IsOk, is_ok}
use Rattle.lufs_base.specs.Layout.{group_start}
use Rattle.sector_disk.specs.Disk.{HasMade}
use Rattle.sector_disk.proofs.MadeCalls.{write_makes, made_of, begun_of, makes_all, makes_some, fits_still, none_then}
use Rattle.new_volume.specs.Mkfs.{group_calls}
use Rattle.new_volume.proofs.NewBlocks.{room_of_metadata}
use Rattle.new_volume.proofs.GroupLoop.{group_makes, next_made, groups_begun, metadata_behind, all_begun}
use Rattle.new_volume.proofs.make.write_groups.Goals as goal

pub returns-in_err-write-clause-calls : goal.returns-in_err-write-clause-calls
returns-in_err-write-clause-calls g c =
    let place : 8 * c.from.result ≡ 8 * group_start c.args.g.now 0 = omega (arith, c.from.ensures, c.group_block.ensures) in
    let makes = group_makes c.write.result c.args.g.now c.args.first.now c.args.first.now 0 (8 * c.from.result) _ _ place refl
    (write_makes c.write.result (8 * c.from.result) c.args.first.now (g.D.Disk.told c.args.disk.now) (g.D.Disk.told c.write.new.self) c.requires.counted c.write.ensures.ok c.write.ensures.err) in
    makes_some c.from_residual.result _ _ _ c.from_residual.ensures.0
    (all_begun c.args.g.now c.args.first.now c.args.g.now.groups _ _ c.requires.geometry.groups_low (begun_of c.write.result _ _ _ makes))

pub loop-n-init : goal.loop-n-init
loop-n-init g c =
    let went : IsOk c.write.result = ap is_ok c.in_ok-write.was in
    let place : 8 * c.from.result ≡ 8 * group_start c.args.g.now 0 = omega (arith, c.from.ensures, c.group_block.ensures) in
    let makes = group_makes c.write.result c.args.g.now c.args.first.now c.args.first.now 0 (8 * c.from.result) _ _ place refl
    (write_makes c.write.result (8 * c.from.result) c.args.first.now (g.D.Disk.told c.args.disk.now) (g.D.Disk.told c.write.new.self) c.requires.counted c.write.ensures.ok c.write.ensures.err) in
    record { made = made_of c.write.result _ _ _ went makes; room = c.requires.other; none_failed = c.in_ok-write.ensures.failure }

pub returns-clause-calls : goal.returns-clause-calls
returns-clause-calls g c =
    let all : c.loop-n.n ≡ c.args.g.now.groups = omega (arith, c.loop-n-test.false, c.loop-n.auto.n-end, c.requires.geometry.groups_low) in
    makes_all _ _ _ c.requires.counted (subst (λ (k : ℕ). HasMade (group_calls c.args.g.now c.args.first.now k) (g.D.Disk.told c.args.disk.now) (g.D.Disk.told c.loop-n.disk)) all c.loop-n.invariant.made)

pub returns-in_err-write-2-clause-calls : goal.returns-in_err-write-2-clause-calls
returns-in_err-write-2-clause-calls g c =
    let place : 8 * c.from-in-loop-n.result ≡ 8 * group_start c.args.g.now c.loop-n.n = omega (arith, c.from-in-loop-n.ensures, c.group_block-in-loop-n.ensures) in
    let later : 1 ≤ c.loop-n.n = omega (arith, c.loop-n.auto.n) in
    let before = c.loop-n.invariant.made in
    let makes = group_makes c.write-in-loop-n.result c.args.g.now c.args.first.now c.put_group_block.new.metadata c.loop-n.n (8 * c.from-in-loop-n.result) _ _ place
    (metadata_behind c.args.g.now c.args.first.now c.put_group_block.new.metadata c.loop-n.n later c.put_group_block.ensures)
    (write_makes c.write-in-loop-n.result (8 * c.from-in-loop-n.result) c.put_group_block.new.metadata (g.D.Disk.told c.loop-n.disk) (g.D.Disk.told c.write-in-loop-n.new.self) (fits_still _ _ _ before)
    c.write-in-loop-n.ensures.ok c.write-in-loop-n.ensures.err) in
    makes_some c.from_residual-in_err-write-2.result _ _ _ c.from_residual-in_err-write-2.ensures.0
    (groups_begun c.args.g.now c.args.first.now c.loop-n.n c.args.g.now.groups _ _ _ c.loop-n-test.true c.requires.counted before (begun_of c.write-in-loop-n.result _ _ _ makes))

pub loop-n-preserved : goal.loop-n-preserved
loop-n-preserved g c =
    let went : IsOk c.write-in-loop-n.result = ap is_ok c.in_ok-write-2.was in
    let place : 8 * c.from-in-loop-n.result ≡ 8 * group_start c.args.g.now c.loop-n.n = omega (arith, c.from-in-loop-n.ensures, c.group_block-in-loop-n.ensures) in
    let later : 1 ≤ c.loop-n.n = omega (arith, c.loop-n.auto.n) in
    let before = c.loop-n.invariant.made in
    let makes = group_makes c.write-in-loop-n.result c.args.g.now c.args.first.now c.put_group_block.new.metadata c.loop-n.n (8 * c.from-in-loop-n.result) _ _ place
    (metadata_behind c.args.g.now c.args.first.now c.put_group_block.new.metadata c.loop-n.n later c.put_group_block.ensures)
    (write_makes c.write-in-loop-n.result (8 * c.from-in-loop-n.result) c.put_group_block.new.metadata (g.D.Disk.told c.loop-n.disk) (g.D.Disk.told c.write-in-loop-n.new.self) (fits_still _ _ _ before)
    c.write-in-loop-n.ensures.ok c.write-in-loop-n.ensures.err) in
    record {
      made = next_made c.args.g.now c.args.first.now c.loop-n.n _ _ _ before (made_of c.write-in-loop-n.result _ _ _ went makes);
      room = room_of_metadata c.args.g.now c.loop-n.n c.put_group_block.new.metadata c.put_group_block.ensures;
      none_failed = none_then c.loop-n.invariant.none_failed c.in_ok-write-2.ensures.failure;
    }
