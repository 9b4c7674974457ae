use Rattle.meta_draft.specs.Drafted.{drafted}
use Rattle.block_numbers.proofs.ReadNumbers.{pointers_told}
use Rattle.block_numbers.proofs.numbers.read_pointer_block.Goals as goal

pub returns-clause-numbers : goal.returns-clause-numbers
returns-clause-numbers g c =
    pointers_told (drafted c.args.draft.now.change (g.S.MetaRead.store c.args.store.now)).content c.args.number c.block.new.out c.in_ok-pointers.pointers
    c.in_ok-block.ensures.bytes c.in_ok-pointers.ensures

pub returns-clause-failure : goal.returns-clause-failure
returns-clause-failure g c = record { failed = λ other. absurd (cc); none = λ _. c.in_ok-block.ensures.failure }
