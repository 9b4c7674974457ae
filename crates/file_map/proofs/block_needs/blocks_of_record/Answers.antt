use Rattle.std.proofs.Common.{◌≡◌, ◌<◌, ◌≤◌, ℕ, ◌+◌, ◌-◌, ◌/◌, eqb, List, slice_index, sym, ap, ◌∙◌, arith}
use Rattle.std.specs.List.{filter, range_with_len}
use Rattle.std.specs.Option.{option_map}
use Rattle.lufs_base.specs.Layout.{blocks_of}
use Rattle.meta_draft.specs.Drafted.{drafted}
use Rattle.file_map.proofs.NeededBlocks.{needed_told}
use Rattle.file_map.proofs.block_needs.blocks_of_record.Goals as goal

pub returns-clause-value : goal.returns-clause-value
returns-clause-value g c =
    let told = drafted c.args.draft.now.change (g.S.MetaRead.store c.args.store.now) in
    let first = c.args.offset / 4096 in
    let past = c.div_ceil-past.result in
    let some : 0 < blocks_of told.geometry = omega arith in
    let is : past ≡ (c.args.end + 4095) / 4096 = omega (arith, c.div_ceil-past.ensures) in
    let numbers = c.in_ok-numbers.numbers.items in
    let indexes : c.in_ok-missing.field-0 ≡ filter (λ k. eqb (slice_index numbers k) 0) (range_with_len first (past - first)) =
    c.in_ok-missing.ensures ∙ ap (λ (xs : List ℕ). filter (λ k. eqb (slice_index xs k) 0) (range_with_len first (past - first))) c.deref.ensures.value in
    needed_told told.content told.geometry c.args.d.now c.args.offset c.args.end past numbers (record { indexes = c.in_ok-missing.field-0; pointers = c.pointers_missing.result })
    some c.requires.order is c.in_ok-numbers.ensures.numbers indexes c.pointers_missing.ensures
