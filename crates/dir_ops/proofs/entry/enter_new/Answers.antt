use Rattle.std.proofs.Common.{◌≡◌, List, Result, Ok, Err, OnOk, subst}
use Rattle.volume_model.specs.declared.directory.Slot.{Slot}
use Rattle.volume_model.specs.Format.{IsChunk, one_slot}
use Rattle.meta_store.specs.Changes.{numbers_in}
use Rattle.dir_ops.specs.Growth.{Grows}
use Rattle.dir_ops.specs.Opened.{GrowsByName}
use Rattle.dir_ops.proofs.entry.enter_new.Goals as goal

on_ok : {T E : Type 0} {A B : Type 0} (result : Result T E) → OnOk result A → (A → B) → OnOk result B
on_ok (Ok x) a f = f a
on_ok (Err e) a f = tt

pub returns-clause-ok : goal.returns-clause-ok
returns-clause-ok c =
    let slots : c.in_ok-chunk.chunk ≡ one_slot c.args.name c.args.i.0 = c.in_ok-chunk.ensures in
    let chunk : IsChunk (one_slot c.args.name c.args.i.0) = subst (λ (l : List Slot). IsChunk l) slots (subst (λ (l : List Slot). IsChunk l) c.chunk.view_is c.chunk.invariant) in
    on_ok c.grow.result c.grow.ensures.ok (λ grows.
    record {
      chunk = chunk;
      grows = subst (λ (l : List Slot). Grows c.args.g.now c.args.dir.0 c.args.directory.now l (numbers_in c.args.fresh.now) c.args.draft.now.change c.grow.new.draft.change) slots grows;
    })
