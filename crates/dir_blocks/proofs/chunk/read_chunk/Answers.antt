use Rattle.std.proofs.Common.{◌≡◌, ℕ, ◌+◌, ◌-◌, [], ◌∷◌, ◌++◌, length, drop, true, false, option_map, ap, sym, ◌∙◌, arith, length-drop}
use Rattle.std.proofs.lemmas.List.{take_rest, length_push}
use Rattle.volume_model.specs.declared.directory.Slot.{Slot}
use Rattle.volume_model.specs.Format.{is_slot, slot_at, slots_in}
use Rattle.dir_blocks.proofs.ReadSlots.{front_tests, read_more, read_none, read_all, chunk_writable_of}
use Rattle.dir_blocks.proofs.chunk.read_chunk.Goals as goal

pub loop-at-preserved : goal.loop-at-preserved
loop-at-preserved c =
    let bytes = c.args.bytes.now in
    let l = c.loop-at in
    let slots = l.slots.items in
    let more = c.push.new.self.items in
    let slot : Slot = c.in_ok-slot.slot in
    let rest = take_rest bytes l.at in
    let test : is_slot (drop l.at bytes) ≡ true = ap is_slot (sym rest) ∙ sym c.is_slot.ensures ∙ c.if-not-is_slot.false in
    let is : slot ≡ slot_at (drop l.at bytes) = c.in_ok-slot.ensures ∙ ap slot_at rest in
    let size : c.from-at.result ≡ slot.len = c.from-at.ensures in
    let front = front_tests (drop l.at bytes) test in
    let len = ap (λ (s : Slot). s.len) is in
    let pushed : more ≡ slots ++ slot ∷ [] = c.in_ok-push.ensures.items in
    let count : length more ≡ length slots + 1 = ap length pushed ∙ length_push slots slot in
    record {
      inside = omega (arith, front.inside, len, size, length-drop l.at bytes);
      few = omega (arith, l.invariant.few, front.low, len, size, count);
      slots = ap (λ (n : ℕ). option_map (λ k. more ++ k) (slots_in (512 - length more) (drop (l.at + n) bytes))) size
          ∙ read_more bytes slots more l.at slot c.requires l.invariant.few c.loop-at-test.true test is pushed ∙ l.invariant.slots;
    }

pub returns-then-not-is_slot : goal.returns-then-not-is_slot
returns-then-not-is_slot c =
    let bytes = c.args.bytes.now in
    let l = c.loop-at in
    let test : is_slot (drop l.at bytes) ≡ false = ap is_slot (sym (take_rest bytes l.at)) ∙ sym c.is_slot.ensures ∙ c.if-not-is_slot.true in
    read_none bytes l.slots.items l.at c.requires l.invariant.few c.loop-at-test.true test l.invariant.slots

pub invariant_of-result : goal.invariant_of-result
invariant_of-result c =
    let bytes = c.args.bytes.now in
    let l = c.loop-at in
    chunk_writable_of bytes l.slots.items (λ i. omega (arith, c.type_inv.bytes i)) (read_all bytes l.slots.items l.at c.requires c.loop-at-test.false l.invariant.slots)

pub returns : goal.returns
returns c =
    let l = c.loop-at in
    read_all c.args.bytes.now l.slots.items l.at c.requires c.loop-at-test.false l.invariant.slots
