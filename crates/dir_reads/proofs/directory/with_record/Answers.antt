use Rattle.std.proofs.Common.{◌≡◌, ◌<◌, ℕ, List, false, sym, ap, ◌∙◌, arith}
use Rattle.std.specs.Prelude.{nat_lt}
use Rattle.std.specs.List.{list_all}
use Rattle.lufs_base.specs.Layout.{blocks_of}
use Rattle.meta_draft.specs.Drafted.{drafted}
use Rattle.dir_reads.proofs.OpenedDirectories.{none_outside, some_there}
use Rattle.dir_reads.proofs.directory.with_record.Goals as goal

pub returns-then-not-are_inside-clause-value : goal.returns-then-not-are_inside-clause-value
returns-then-not-are_inside-clause-value g c =
    let told = drafted c.args.draft.now.change (g.S.MetaRead.store c.args.store.now) in
    let numbers = c.in_ok-numbers.numbers.items in
    let total_is : c.total.result ≡ blocks_of told.geometry = c.total.ensures ∙ ap blocks_of (c.geometry.ensures.value ∙ c.in_ok-numbers.ensures.unchanged.geometry) in
    let some : 0 < blocks_of told.geometry = omega arith in
    let not_so : list_all (λ n. nat_lt n (blocks_of told.geometry)) numbers ≡ false =
    ap (λ (m : ℕ). list_all (λ n. nat_lt n m) numbers) (sym total_is)
    ∙ ap (λ (xs : List ℕ). list_all (λ n. nat_lt n c.total.result) xs) (sym c.deref.ensures.value)
    ∙ sym c.are_inside.ensures ∙ c.if-not-are_inside.true in
    none_outside told.content told.geometry c.args.dinode numbers some c.in_ok-numbers.ensures.numbers not_so

pub returns-clause-value : goal.returns-clause-value
returns-clause-value g c =
    let told = drafted c.args.draft.now.change (g.S.MetaRead.store c.args.store.now) in
    let some : 0 < blocks_of told.geometry = omega arith in
    some_there told.content told.geometry (record { dinode = c.args.dinode; opened = record { count = c.count_of.result; numbers = c.in_ok-numbers.numbers } }) some
    c.in_ok-numbers.ensures.numbers c.count_of.ensures
