use Rattle.std.proofs.Common.{◌≡◌, ◌*◌, ℕ, List, Bool, refl, sym, subst, arith, IfSome}
use Rattle.lufs_base.specs.Layout.{group_start}
use Rattle.sector_disk.specs.Disk.{HasMade}
use Rattle.sector_disk.proofs.MadeCalls.{none_then}
use Rattle.plain_image.specs.HomeBlocks.{IsHome}
use Rattle.plain_image.specs.HomesWritten.{HasHomes, IsStoppedAt, block_calls, is_other}
use Rattle.plain_image.proofs.BlockSteps.{on_err}
use Rattle.plain_image.proofs.HomesLoop.{room_of, slice_is, homes_none, homes_more}
use Rattle.plain_image.proofs.write.write_homes.Goals as goal

pub loop-b-init : goal.loop-b-init
loop-b-init g c =
    let told = g.D.Disk.told c.args.disk.now in
    let first : c.group_block-b.result.0 ≡ group_start c.args.g.now 0 = c.group_block-b.ensures in
    record {
      from = omega (arith, first);
      homes = subst (λ (n : ℕ). HasHomes c.args.g.now c.args.image.now n told told) (sym first) (homes_none c.args.g.now c.args.image.now c.requires.image told c.requires.counted);
      none_failed = record { failures = refl; failed_at = refl; faults = omega arith };
    }

pub returns-in_err-write_block-clause-stopped : goal.returns-in_err-write_block-clause-stopped
returns-in_err-write_block-clause-stopped g c =
    let b : ℕ = c.loop-b.b in
    let home : IsHome c.args.g.now b = record { low = c.loop-b.invariant.from; high = omega (arith, c.loop-b-test.true, c.loop-b.auto.b-end, c.total-b-end.ensures) } in
    on_err c.from_residual.result record {
      at = b;
      home = home;
      mid = g.D.Disk.told c.loop-b.disk;
      before = c.loop-b.invariant.homes;
      stops = subst (λ (l : List ℕ). IsStoppedAt b l (g.D.Disk.told c.loop-b.disk) (g.D.Disk.told c.write_block.new.disk)) (slice_is c.args.image.now b (4096 * b) refl) c.in_err-write_block.ensures.stopped;
    }

pub loop-b-preserved : goal.loop-b-preserved
loop-b-preserved g c =
    let b : ℕ = c.loop-b.b in
    let image = c.args.image.now in
    let told = g.D.Disk.told c.args.disk.now in
    let mid = g.D.Disk.told c.loop-b.disk in
    let new = g.D.Disk.told c.write_block.new.disk in
    let wrote : Bool = c.in_ok-write_block.field-0 in
    let home : IsHome c.args.g.now b = record { low = c.loop-b.invariant.from; high = omega (arith, c.loop-b-test.true, c.loop-b.auto.b-end, c.total-b-end.ensures) } in
    let is = slice_is image b (4096 * b) refl in
    record {
      from = omega (arith, c.loop-b.invariant.from);
      homes = homes_more c.args.g.now image c.requires.image b home wrote told mid new
          (room_of c.args.g.now told.present told.sectors (g.met.D.Disk.size c.args.disk.now) c.requires.room) c.loop-b.invariant.homes
          (subst (λ (l : List ℕ). HasMade (block_calls b l wrote) mid new) is c.in_ok-write_block.ensures.made)
          (subst (λ (l : List ℕ). IfSome mid.present (λ before. wrote ≡ is_other before b l)) is c.in_ok-write_block.ensures.told);
      none_failed = none_then c.loop-b.invariant.none_failed c.in_ok-write_block.ensures.failure;
    }
