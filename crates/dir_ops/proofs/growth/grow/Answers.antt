use Rattle.std.proofs.Common.{◌≡◌, ◌<◌, ◌≤◌, ℕ, ◌+◌, ◌-◌, ◌*◌, ◌/◌, ◌%◌, List, Result, Ok, Err, OnOk, refl, subst, arith}
use Rattle.lufs_base.specs.declared.geometry.Geometry.{Geometry}
use Rattle.volume_model.specs.declared.directory.Slot.{Slot}
use Rattle.meta_store.specs.declared.change.Change.{Change}
use Rattle.meta_store.specs.Changes.{numbers_in}
use Rattle.dir_ops.specs.Growth.{AddsByPointer, Grows}
use Rattle.dir_reads.specs.declared.directory.Directory.{Directory}
use Rattle.dir_ops.proofs.growth.grow.Goals as goal

on_ok : {T E : Type 0} {A B : Type 0} (result : Result T E) → OnOk result A → (A → B) → OnOk result B
on_ok (Ok x) a f = f a
on_ok (Err e) a f = tt

by_pointer_alone : (g : Geometry) (i : ℕ) (directory : Directory) (slots : List Slot) (fresh : List ℕ) (old new : Change) (m : ℕ) → directory.opened.count % 8 ≡ 0 → 12 < directory.opened.count / 8
    → m ≡ directory.opened.count / 8 - 12 → AddsByPointer g i directory m slots fresh old new → Grows g i directory slots fresh old new
by_pointer_alone g i directory slots fresh old new m whole above is adds = record {
  in_block = λ below rest. absurd (rest whole);
  by_record = λ k count low. absurd (omega (arith, above, count, low));
  with_first = λ count. absurd (omega (arith, above, count));
  by_pointer = λ j count some low. subst (λ (n : ℕ). AddsByPointer g i directory n slots fresh old new) (omega (arith, is, count)) adds;
}

pub returns-clause-ok : goal.returns-clause-ok
returns-clause-ok c =
    on_ok c.add_by_pointer.result c.add_by_pointer.ensures.ok
    (by_pointer_alone c.args.g.now c.args.dir.0 c.args.directory.now c.args.chunk.now (numbers_in c.args.fresh.now) c.args.draft.now.change c.add_by_pointer.new.draft.change
    (c.args.directory.now.opened.count / 8 - 12) c.if-count-ne0.false (omega (arith, c.if-k-lt-DIRECT.false, c.if-k-eq-DIRECT.false)) refl)
