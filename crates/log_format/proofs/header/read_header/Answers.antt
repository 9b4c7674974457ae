use Rattle.std.proofs.Common.{ap, arith}
use Rattle.std.proofs.lemmas.List.{take_rest}
use Rattle.lufs_base.specs.Fields.{are_zeros}
use Rattle.log_laws.proofs.HeaderTests.{no_header, a_header}
use Rattle.log_format.proofs.header.read_header.Goals as goal

pub returns-then-get_u32-ne-MAGIC-clause-value : goal.returns-then-get_u32-ne-MAGIC-clause-value
returns-then-get_u32-ne-MAGIC-clause-value c = no_header c.args.g.now c.args.sector.now (λ is. omega (arith, is.magic))

pub returns-then-not-are_zeros-clause-value : goal.returns-then-not-are_zeros-clause-value
returns-then-not-are_zeros-clause-value c =
    no_header c.args.g.now c.args.sector.now (λ is. let rest = ap are_zeros (take_rest c.args.sector.now 16) in cc (is.zeros, rest))

pub returns-then-header-eq0-clause-value : goal.returns-then-header-eq0-clause-value
returns-then-header-eq0-clause-value c = no_header c.args.g.now c.args.sector.now (λ is. omega (arith, is.epoch))

pub returns-then-header-ring-clause-value : goal.returns-then-header-ring-clause-value
returns-then-header-ring-clause-value c = no_header c.args.g.now c.args.sector.now (λ is. omega (arith, is.head))

pub returns-then-header-eq0-2-clause-value : goal.returns-then-header-eq0-2-clause-value
returns-then-header-eq0-2-clause-value c = no_header c.args.g.now c.args.sector.now (λ is. omega (arith, is.tid))

pub returns-clause-value : goal.returns-clause-value
returns-clause-value c =
    let rest = ap are_zeros (take_rest c.args.sector.now 16) in
    a_header c.args.g.now c.args.sector.now _ record {
      magic = omega arith;
      zeros = cc;
      epoch = omega arith;
      head = omega arith;
      tid = omega arith;
    } cc
