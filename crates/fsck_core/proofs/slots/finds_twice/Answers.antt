use Rattle.std.proofs.Common.{◌≡◌, true, false, sym, ap, subst, ◌∙◌, ne_eqb, eq-eqb, map, take, get_or, refl}
use Rattle.volume_model.specs.Sound.{has_twice}
use Rattle.fsck_core.specs.Slots.{slot_of, used_slots}
use Rattle.fsck_core.proofs.NamesTwice.{FindsNames, has_name, names_more, once_more, found_twice, flipped}
use Rattle.fsck_core.proofs.SlotsInBytes.{no_entry, entry_here, entry_inside, used_entry, unused_entry}
use Rattle.fsck_core.proofs.slots.finds_twice.Goals as goal
use Rattle.fsck_core.proofs.slots.finds_twice.Goals.{else-slot-ne0-via-then-slot-ne0+in_ok-insert+else-not-branch, else-slot-ne0-via-else-slot-ne0}

pub returns-then-not-branch : goal.returns-then-not-branch
returns-then-not-branch c =
    let l = c.loop-slot in
    let slot = get_or c.args.slots.now l.slot-index no_entry in
    let key = slot.name in
    let found : has_name l.names.keys key ≡ true = flipped (has_name l.names.keys key) false (sym c.in_ok-insert.ensures.added ∙ c.if-not-branch.true) in
    sym (found_twice l.names.keys (map slot_of c.args.slots.now) l.slot-index key (slot_of slot) (entry_inside c.args.slots.now l.slot-index c.loop-slot-test.true)
    (entry_here c.args.slots.now l.slot-index no_entry c.loop-slot-test.true) (ne_eqb _ _ c.if-slot-ne0.true) refl l.invariant.names found)

pub loop-slot-preserved : goal.loop-slot-preserved
loop-slot-preserved c =
    let l = c.loop-slot in
    let slots = c.args.slots.now in
    let slot = get_or c.args.slots.now l.slot-index no_entry in
    let s = slot_of slot in
    let front = used_slots (take l.slot-index (map slot_of slots)) in
    elim c.else-slot-ne0.branch [
      | else-slot-ne0-via-then-slot-ne0+in_ok-insert+else-not-branch w ↦
          let key = slot.name in
          let one = used_entry slots l.slot-index no_entry c.loop-slot-test.true (ne_eqb _ _ w.if-slot-ne0.true) in
          let absent : has_name l.names.keys key ≡ false = flipped (has_name l.names.keys key) true (sym w.in_ok-insert.ensures.added ∙ w.if-not-branch.false) in
          record {
            once = ap has_twice one ∙ once_more l.names.keys front key s refl l.invariant.names l.invariant.once absent;
            names = subst (FindsNames c.else-slot-ne0.names.keys) (sym one)
                (names_more l.names.keys c.else-slot-ne0.names.keys front key s refl l.invariant.names
                (λ name. ap (λ s. has_name s.keys name) w.names-is ∙ w.in_ok-insert.ensures.updates.0 name));
          }
      | else-slot-ne0-via-else-slot-ne0 w ↦
          let none = unused_entry slots l.slot-index no_entry c.loop-slot-test.true (eq-eqb _ _ w.if-slot-ne0.false) in
          record {
            once = ap has_twice none ∙ l.invariant.once;
            names = subst (FindsNames c.else-slot-ne0.names.keys) (sym none) (λ name. ap (λ s. has_name s.keys name) w.names-is ∙ l.invariant.names name);
          }
    ]
