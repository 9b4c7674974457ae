use Rattle.std.proofs.Common.{arith}
use Rattle.lufs_base.specs.Layout.{blocks_of}
use Rattle.meta_draft.specs.Drafted.{drafted}
use Rattle.dir_reads.proofs.AllNumbers.{all_numbers}
use Rattle.dir_reads.proofs.numbers.read_numbers.Goals as goal

pub returns-clause-numbers : goal.returns-clause-numbers
returns-clause-numbers g c =
    let told = drafted c.args.draft.now.change (g.S.MetaRead.store c.args.store.now) in
    all_numbers told.content c.args.d (blocks_of told.geometry) 18446744073709551615 c.in_ok-numbers.numbers.items (omega arith) (omega arith) c.in_ok-numbers.ensures.numbers
