use Rattle.std.proofs.Common.{◌≤◌, ◌*◌, arith}
use Rattle.lufs_base.specs.Layout.{blocks_of}
use Rattle.sector_disk.proofs.MadeCalls.{begun_of}
use Rattle.new_volume.proofs.MkfsMoments.{untouched_leaves, mkfs_leaves, holds_at}
use Rattle.new_volume.proofs.make.mkfs.Given.{Over}
use Rattle.new_volume.proofs.make.mkfs.Goals as goal
use Rattle.new_volume.proofs.make.mkfs.Goals.{After-make_volume}

pub returns-then-sectors-from-clause-crash : goal.returns-then-sectors-from-clause-crash
returns-then-sectors-from-clause-crash g c =
    untouched_leaves c.args.g.now c.args.moment (g.D.Disk.told c.args.disk.now) c.sectors-sectors.ensures.content c.calls-calls.ensures.content (g.met.D.Disk.counted c.args.disk.now)

-- the disk has room for the volume
enough : (g : Over) (c : After-make_volume g) → 8 * blocks_of c.args.g.now ≤ (g.D.Disk.told c.args.disk.now).sectors
enough g c = omega (arith, c.if-sectors-from.false, c.from.ensures, c.total.ensures, c.sectors-sectors.ensures.value)

pub returns-clause-made : goal.returns-clause-made
returns-clause-made g c =
    holds_at c.args.g.now c.args.moment c.requires c.ranges.moment.fits (g.D.Disk.told c.args.disk.now) (g.D.Disk.told c.make_volume.new.disk) c.sectors-sectors.ensures.content
    (enough g (goal.at.returns-clause-made g c).After-make_volume) c.make_volume.result c.make_volume.ensures.calls

pub returns-clause-crash : goal.returns-clause-crash
returns-clause-crash g c =
    mkfs_leaves c.args.g.now c.args.moment c.requires c.ranges.moment.fits (g.D.Disk.told c.args.disk.now) (g.D.Disk.told c.make_volume.new.disk) c.sectors-sectors.ensures.content
    (enough g (goal.at.returns-clause-crash g c).After-make_volume) c.calls-calls.ensures.content (g.met.D.Disk.counted c.args.disk.now) (g.met.D.Disk.counted c.make_volume.new.disk)
    (begun_of c.make_volume.result _ _ _ c.make_volume.ensures.calls)
