use Rattle.std.proofs.Common.{ℕ, List, map, get_or, ap, sym, ◌∙◌, take_all}
use Rattle.std.specs.List.{fold}
use Rattle.fsck_core.specs.declared.names.Namer.{Namer}
use Rattle.fsck_core.specs.NameTables.{with_link, with_name}
use Rattle.fsck_core.specs.Slots.{slot_of}
use Rattle.fsck_core.proofs.EnteredNames.{Entered, sizes_kept, names_more}
use Rattle.fsck_core.proofs.SlotsInBytes.{no_entry, entries_end, folded_entry}
use Rattle.fsck_core.proofs.names.NameTables.enter.Goals as goal

entered : (c : goal.After-loop-slot) → Entered c.args.i (map slot_of c.args.slots.now) c.args.self.now c.loop-slot.self
entered c =
    let all = take_all c.loop-slot.slot-index (map slot_of c.args.slots.now) (entries_end c.args.slots.now c.loop-slot.slot-index c.loop-slot-test.false) in
    let are = c.loop-slot.invariant in
    record {
      links = are.links ∙ ap (fold with_link c.args.self.now.links.items) all;
      namers = are.namers ∙ ap (fold (with_name c.args.i) c.args.self.now.namers.items) all;
      parents = are.parents ∙ c.set_parent.ensures;
    }

pub returns-clause-sizes : goal.returns-clause-sizes
returns-clause-sizes c = λ n. sizes_kept n c.args.i (map slot_of c.args.slots.now) c.args.self.now c.loop-slot.self (entered c)

pub returns-clause-names : goal.returns-clause-names
returns-clause-names c = λ n m inside is. names_more n c.args.i m (map slot_of c.args.slots.now) c.args.self.now c.loop-slot.self inside is (entered c)

pub loop-slot-preserved : goal.loop-slot-preserved
loop-slot-preserved c =
    let l = c.loop-slot in
    let slots = c.args.slots.now in
    let s = slot_of (get_or slots l.slot-index no_entry) in
    record {
      links = c.add_link.ensures ∙ ap (λ (links : List ℕ). with_link links s) l.invariant.links
          ∙ sym (folded_entry with_link c.args.self.now.links.items slots l.slot-index no_entry c.loop-slot-test.true);
      namers = c.add_name.ensures ∙ ap (λ (namers : List Namer). with_name c.args.i namers s) l.invariant.namers
          ∙ sym (folded_entry (with_name c.args.i) c.args.self.now.namers.items slots l.slot-index no_entry c.loop-slot-test.true);
      parents = l.invariant.parents;
    }
