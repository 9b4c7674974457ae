use Rattle.std.proofs.Common.{◌≡◌, ℕ, ◌+◌, map, drop, true, false, ap, sym, ◌∙◌}
use Rattle.std.proofs.lemmas.List.{take_rest}
use Rattle.volume_model.specs.Format.{is_slot, slot_at}
use Rattle.fsck_core.specs.Slots.{slot_of}
use Rattle.fsck_core.proofs.SlotsInBytes.{reads_more, reads_none, reads_some, reads_all, pushed_entry}
use Rattle.fsck_core.proofs.entries.push_chunk.Goals as goal

pub returns-then-not-is_slot-clause-is : goal.returns-then-not-is_slot-clause-is
returns-then-not-is_slot-clause-is c =
    let bytes = c.args.bytes.now in
    let l = c.loop-at in
    let test : is_slot (drop l.at bytes) ≡ false = ap is_slot (sym (take_rest bytes l.at)) ∙ sym c.is_slot.ensures ∙ c.if-not-is_slot.true in
    reads_none bytes (map slot_of c.args.entries.now.items) (map slot_of l.entries.items) l.at c.requires c.loop-at-test.true test l.invariant

pub loop-at-preserved : goal.loop-at-preserved
loop-at-preserved c =
    let bytes = c.args.bytes.now in
    let l = c.loop-at in
    let e = c.entry_at-entry.result in
    let rest = take_rest bytes l.at in
    let test : is_slot (drop l.at bytes) ≡ true = ap is_slot (sym rest) ∙ sym c.is_slot.ensures ∙ c.if-not-is_slot.false in
    reads_more bytes (map slot_of c.args.entries.now.items) (map slot_of l.entries.items) (map slot_of c.push.new.self.items) l.at (l.at + c.from-at.result) (slot_of e)
    c.requires c.loop-at-test.true test (c.entry_at-entry.ensures ∙ ap slot_at rest) (ap (λ (n : ℕ). l.at + n) c.from-at.ensures)
    (pushed_entry l.entries.items c.push.new.self.items e c.in_ok-push.ensures.items) l.invariant

pub returns-clause-is : goal.returns-clause-is
returns-clause-is c =
    let l = c.loop-at in
    reads_some c.args.bytes.now (map slot_of c.args.entries.now.items) (map slot_of l.entries.items) l.at c.requires c.loop-at-test.false l.invariant

pub returns-clause-slots : goal.returns-clause-slots
returns-clause-slots c =
    let l = c.loop-at in
    reads_all c.args.bytes.now (map slot_of c.args.entries.now.items) (map slot_of l.entries.items) l.at c.requires c.loop-at-test.false l.invariant
