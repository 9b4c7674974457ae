use Rattle.std.proofs.Common.{◌≡◌, ℕ, true, false, List, get_or, ◌∙◌, sym, ap, arith, add-one}
use Rattle.std.specs.Prelude.{bytes_eq}
use Rattle.host_io.proofs.NamedLemmas.{absent_more, first_at}
use Rattle.host_io.proofs.named.place_of.Goals as goal

pub returns-then-eq-clause-entry : goal.returns-then-eq-clause-entry
returns-then-eq-clause-entry g c =
    let name = c.args.name.now in
    let d = c.index-entries-i.result in
    let tested : bytes_eq d.name name ≡ true = ap (λ (n : List ℕ). bytes_eq n name) (sym c.as_slice.ensures) ∙ sym c.eq.ensures ∙ c.if-eq.true in
    let here : bytes_eq (get_or c.args.entries.now c.loop-i.i d).name name ≡ true = ap (λ e. bytes_eq e.name name) (sym c.index-entries-i.is) ∙ tested in
    first_at name c.args.entries.now c.loop-i.i d (omega arith) c.loop-i.invariant here

pub loop-i-preserved : goal.loop-i-preserved
loop-i-preserved g c =
    let name = c.args.name.now in
    let d = c.index-entries-i.result in
    let tested : bytes_eq d.name name ≡ false = ap (λ (n : List ℕ). bytes_eq n name) (sym c.as_slice.ensures) ∙ sym c.eq.ensures ∙ c.if-eq.false in
    let here : bytes_eq (get_or c.args.entries.now c.loop-i.i d).name name ≡ false = ap (λ e. bytes_eq e.name name) (sym c.index-entries-i.is) ∙ tested in
    rw add-one (absent_more name c.args.entries.now c.loop-i.i d (omega arith) c.loop-i.invariant here)
