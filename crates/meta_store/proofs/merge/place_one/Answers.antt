use Rattle.std.proofs.Common.{List, [], ◌∷◌, ◌++◌, Option, sym, ap, ◌∙◌, append_assoc}
use Rattle.std.proofs.lemmas.Bool.{lt-ltb, le-ltb}
use Rattle.lufs_base.specs.declared.delta.Delta.{Delta}
use Rattle.meta_store.specs.Merged.{placed, placed_left}
use Rattle.meta_store.proofs.MergeSteps.{placed_replaced, placed_before, placed_after}
use Rattle.meta_store.proofs.merge.place_one.Goals as goal

pub returns-then-replaces-clause-list : goal.returns-then-replaces-clause-list
returns-then-replaces-clause-list c =
    let old : List Delta = c.args.list.now.items in
    let older = c.args.older.now in
    let d = c.in-Some.delta in
    λ more.
    ap (λ (l : List Delta). old ++ l)
    (ap (λ (x : Delta). placed more x) c.in_ok-replacing.ensures
    ∙ sym (placed_replaced d older more (sym c.replaces.ensures ∙ c.if-replaces.true))
    ∙ ap (λ (o : Option Delta). placed_left o (older ∷ more)) (sym c.in-Some.is))

pub returns-then-delta-older-clause-list : goal.returns-then-delta-older-clause-list
returns-then-delta-older-clause-list c =
    let old : List Delta = c.args.list.now.items in
    let older = c.args.older.now in
    let d = c.in-Some.delta in
    λ more.
    ap (λ (l : List Delta). l ++ more) c.in_ok-push-3.ensures.items
    ∙ ap (λ (x : Delta). (c.push-then-delta-older.new.self.items ++ x ∷ []) ++ more) c.in_ok-copy_of-2.ensures
    ∙ ap (λ (l : List Delta). (l ++ older ∷ []) ++ more) c.in_ok-push-2.ensures.items
    ∙ append_assoc (old ++ d ∷ []) (older ∷ []) more
    ∙ append_assoc old (d ∷ []) (older ∷ more)
    ∙ ap (λ (l : List Delta). old ++ l)
    (sym (placed_before d older more (sym c.replaces.ensures ∙ c.if-replaces.false) (lt-ltb d.home older.home c.if-delta-older.true))
    ∙ ap (λ (o : Option Delta). placed_left o (older ∷ more)) (sym c.in-Some.is))

pub returns-clause-list : goal.returns-clause-list
returns-clause-list c =
    let old : List Delta = c.args.list.now.items in
    let older = c.args.older.now in
    let d = c.in-Some.delta in
    λ more.
    ap (λ (l : List Delta). l ++ placed more d) c.in_ok-push-4.ensures.items
    ∙ ap (λ (x : Delta). (old ++ x ∷ []) ++ placed more d) c.in_ok-copy_of-3.ensures
    ∙ append_assoc old (older ∷ []) (placed more d)
    ∙ ap (λ (l : List Delta). old ++ l)
    (sym (placed_after d older more (sym c.replaces.ensures ∙ c.if-replaces.false) (le-ltb d.home older.home c.if-delta-older.false))
    ∙ ap (λ (o : Option Delta). placed_left o (older ∷ more)) (sym c.in-Some.is))
