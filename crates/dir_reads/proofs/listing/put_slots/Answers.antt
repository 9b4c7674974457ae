use Rattle.std.proofs.Common.{◌≡◌, ◌∷◌, ◌++◌, ℕ, true, List, [], Option, sym, ap, ◌∙◌, append_assoc}
use Rattle.std.specs.Option.{option_map}
use Rattle.volume_model.specs.declared.directory.Slot.{Slot}
use Rattle.dir_reads.specs.Names.{is_told}
use Rattle.dir_reads.proofs.NamesInOrder.{slot_put}
use Rattle.dir_reads.proofs.listing.put_slots.Goals as goal

pub loop-slot-preserved : goal.loop-slot-preserved
loop-slot-preserved c =
    let l = c.loop-slot in
    let slot = c.in-Some.slot in
    let done = l.invariant.done in
    let after : Option (List ℕ) = option_map (λ n. n.now) c.args.after in
    let told : is_told after slot ≡ true = sym c.is_told.ensures ∙ c.if-not-is_told.false in
    record {
      done = slot ∷ done;
      slots = l.invariant.slots ∙ ap (λ (slots : List Slot). slots ++ done) c.in-Some.ensures.items ∙ append_assoc c.pop.new.self.items (slot ∷ []) done;
      names = slot_put after slot done c.args.most c.args.names.now.items l.names.items c.put_in_order.new.names.items told l.invariant.names c.in_ok-put_in_order.ensures;
    }
