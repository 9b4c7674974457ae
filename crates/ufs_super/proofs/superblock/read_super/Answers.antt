use Rattle.std.proofs.Common.{◌≡◌, ap, arith}
use Rattle.std.proofs.lemmas.List.{take_rest}
use Rattle.lufs_base.specs.Fields.{are_zeros}
use Rattle.volume_model.specs.Format.{named_geometry}
use Rattle.lufs_base.specs.Layout.{blocks_of}
use Rattle.lufs_base.specs.declared.geometry.Geometry.{Geometry}
use Rattle.ufs_super.proofs.SuperblockTests.{no_super, a_super}
use Rattle.ufs_super.proofs.superblock.read_super.Goals as goal

pub returns-then-get_u32-ne-MAGIC-clause-value : goal.returns-then-get_u32-ne-MAGIC-clause-value
returns-then-get_u32-ne-MAGIC-clause-value c = no_super c.args.sector.now c.args.sectors (λ is. omega (arith, is.magic))

pub returns-then-not-is_geometry-clause-value : goal.returns-then-not-is_geometry-clause-value
returns-then-not-is_geometry-clause-value c = no_super c.args.sector.now c.args.sectors (λ is. cc (is.range))

pub returns-then-get_u32-blocks-clause-value : goal.returns-then-get_u32-blocks-clause-value
returns-then-get_u32-blocks-clause-value c =
    let g : Geometry = record { version = c.get_u32.result; groups = c.get_u32-2.result; bpg = c.get_u32-3.result; ipg = c.get_u32-4.result; log = c.get_u32-5.result } in
    let same : g ≡ named_geometry c.args.sector.now = cc in
    let blocks : blocks_of g ≡ blocks_of (named_geometry c.args.sector.now) = ap blocks_of same in
    no_super c.args.sector.now c.args.sectors (λ is. omega (arith, is.blocks, blocks))

pub returns-then-not-are_zeros-clause-value : goal.returns-then-not-are_zeros-clause-value
returns-then-not-are_zeros-clause-value c =
    no_super c.args.sector.now c.args.sectors (λ is. let rest = ap are_zeros (take_rest c.args.sector.now 28) in cc (is.zeros, rest))

pub returns-then-sectors-from-clause-value : goal.returns-then-sectors-from-clause-value
returns-then-sectors-from-clause-value c =
    let g : Geometry = record { version = c.get_u32.result; groups = c.get_u32-2.result; bpg = c.get_u32-3.result; ipg = c.get_u32-4.result; log = c.get_u32-5.result } in
    let same : g ≡ named_geometry c.args.sector.now = cc in
    let blocks : blocks_of g ≡ blocks_of (named_geometry c.args.sector.now) = ap blocks_of same in
    no_super c.args.sector.now c.args.sectors (λ is. omega (arith, is.fits, blocks))

pub returns-clause-value : goal.returns-clause-value
returns-clause-value c =
    let g : Geometry = record { version = c.get_u32.result; groups = c.get_u32-2.result; bpg = c.get_u32-3.result; ipg = c.get_u32-4.result; log = c.get_u32-5.result } in
    let same : g ≡ named_geometry c.args.sector.now = cc in
    let blocks : blocks_of g ≡ blocks_of (named_geometry c.args.sector.now) = ap blocks_of same in
    let rest = ap are_zeros (take_rest c.args.sector.now 28) in
    a_super c.args.sector.now c.args.sectors _ record {
      magic = omega arith;
      range = cc;
      blocks = omega (arith, blocks);
      zeros = cc;
      fits = omega (arith, blocks);
    } same
