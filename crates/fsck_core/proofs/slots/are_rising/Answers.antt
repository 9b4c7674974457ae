use Rattle.std.proofs.Common.{ℕ, List, [], ◌∷◌, ◌++◌, map, Bor, ap, sym, subst, ◌∙◌, ne_eqb, eq-eqb, take, get_or}
use Rattle.volume_model.specs.declared.directory.Slot.{Slot}
use Rattle.volume_model.specs.Sound.{has_twice}
use Rattle.fsck_core.specs.Slots.{slot_of, used_slots}
use Rattle.fsck_core.proofs.SlotsInBytes.{no_entry, used_entry, unused_entry}
use Rattle.fsck_core.proofs.RisingNames.{NonePast, once_rising, past_rising}
use Rattle.fsck_core.proofs.slots.are_rising.Goals as goal
use Rattle.fsck_core.proofs.slots.are_rising.Goals.{then-slot-ne0+else-not-comes_before, else-slot-ne0}

pub loop-slot-preserved : goal.loop-slot-preserved
loop-slot-preserved c =
    let l = c.loop-slot in
    let slots = c.args.slots.now in
    let slot = get_or slots l.slot-index no_entry in
    let front = used_slots (take l.slot-index (map slot_of slots)) in
    elim c.if-slot-ne0.branch [
      | then-slot-ne0+else-not-comes_before w ↦
          let one = used_entry slots l.slot-index no_entry c.loop-slot-test.true (ne_eqb _ _ w.if-slot-ne0.true) in
          let s = slot_of slot in
          let less = w.comes_before.ensures w.if-not-comes_before.false in
          record {
            once = ap has_twice one ∙ once_rising front s l.last.now l.invariant.once l.invariant.past less;
            past = subst (λ (xs : List Slot). NonePast xs c.if-slot-ne0.last.now) (sym one)
                (subst (λ (n : List ℕ). NonePast (front ++ s ∷ []) n) (sym (ap (λ (b : Bor (List ℕ)). b.now) w.last-is)) (past_rising front s l.last.now l.invariant.past less));
          }
      | else-slot-ne0 w ↦
          let none = unused_entry slots l.slot-index no_entry c.loop-slot-test.true (eq-eqb _ _ w.if-slot-ne0.false) in
          record {
            once = ap has_twice none ∙ l.invariant.once;
            past = subst (λ (xs : List Slot). NonePast xs c.if-slot-ne0.last.now) (sym none) (subst (λ (n : List ℕ). NonePast front n) (sym (ap (λ (b : Bor (List ℕ)). b.now) w.last-is)) l.invariant.past);
          }
    ]
