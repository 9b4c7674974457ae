use Rattle.std.proofs.Common.{◌≡◌, ◌++◌, ℕ, List, false, true, sym, ap, subst, ◌∙◌, arith}
use Rattle.lufs_base.specs.Layout.{blocks_of}
use Rattle.lufs_base.specs.declared.geometry.Geometry.{Geometry}
use Rattle.meta_draft.specs.Drafted.{drafted}
use Rattle.block_numbers.specs.Needed.{needs_pointers}
use Rattle.block_numbers.proofs.ReadNumbers.{direct_alone, both_parts}
use Rattle.block_numbers.proofs.numbers.read_numbers.Goals as goal

pub returns-then-not-needs_pointers-clause-numbers : goal.returns-then-not-needs_pointers-clause-numbers
returns-then-not-needs_pointers-clause-numbers g c =
    let d = c.args.d.now in
    let told = drafted c.args.draft.now.change (g.S.MetaRead.store c.args.store.now) in
    let none : needs_pointers (blocks_of told.geometry) d c.args.count ≡ false =
    ap (λ (h : Geometry). needs_pointers (blocks_of h) d c.args.count) (sym c.geometry.ensures.value) ∙ sym c.needs_pointers.ensures ∙ c.if-not-needs_pointers.true in
    direct_alone told.content d (blocks_of told.geometry) c.args.count c.in_ok-numbers.numbers.items c.in_ok-numbers.ensures.items (omega arith) none

pub returns-clause-numbers : goal.returns-clause-numbers
returns-clause-numbers g c =
    let d = c.args.d.now in
    let told = drafted c.args.draft.now.change (g.S.MetaRead.store c.args.store.now) in
    let some : needs_pointers (blocks_of told.geometry) d c.args.count ≡ true =
    ap (λ (h : Geometry). needs_pointers (blocks_of h) d c.args.count) (sym c.geometry.ensures.value) ∙ sym c.needs_pointers.ensures ∙ c.if-not-needs_pointers.false in
    let first : c.in_ok-numbers.numbers.items ≡ d.direct = c.in_ok-numbers.ensures.items in
    let all = subst (λ (xs : List ℕ). c.extend_from_slice.new.self.items ≡ xs ++ c.as_slice.result.now) first c.in_ok-extend_from_slice.ensures.items in
    let pointers : List ℕ = c.in_ok-pointers.pointers in
    let is : c.as_slice.result.now ≡ pointers = c.as_slice.ensures.value in
    let whole : c.extend_from_slice.new.self.items ≡ d.direct ++ pointers = subst (λ (xs : List ℕ). c.extend_from_slice.new.self.items ≡ d.direct ++ xs) is all in
    both_parts told.content d (blocks_of told.geometry) c.args.count c.extend_from_slice.new.self.items pointers whole some c.in_ok-pointers.ensures.numbers
