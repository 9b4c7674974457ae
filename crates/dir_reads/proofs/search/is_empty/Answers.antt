use Rattle.std.proofs.Common.{Bool, not, List, Ok, ap}
use Rattle.std.specs.List.{list_any}
use Rattle.std.specs.Option.{option_map}
use Rattle.volume_model.specs.declared.directory.Slot.{Slot}
use Rattle.volume_model.specs.Sound.{Tree}
use Rattle.meta_store.specs.Changes.{changed}
use Rattle.history_model.specs.Refusals.{is_empty_in}
use Rattle.meta_draft.specs.Drafted.{drafted}
use Rattle.dir_reads.specs.Names.{is_entry}
use Rattle.dir_reads.proofs.FoundSlots.{on_tree, empty_by_chunks, told_not}
use Rattle.dir_reads.proofs.search.is_empty.Goals as goal

pub returns-clause-value : goal.returns-clause-value
returns-clause-value g c =
    let change = c.args.draft.now.change in
    let told = drafted change (g.S.MetaRead.store c.args.store.now) in
    let now = drafted change (g.S.MetaRead.store c.open_chunks.new.store) in
    let same = ap (option_map (changed change)) c.in_ok-directory.ensures.unchanged.content in
    on_tree (λ (b : Bool). b) (λ (chunks : List (List Slot)). not (list_any (list_any is_entry) chunks)) (λ (tree : Tree). is_empty_in tree c.args.dir.0)
    told.content now.content told.geometry c.args.dir.0 c.in_ok-directory.directory (Ok (not c.in_ok-has_entries.field-0)) same (empty_by_chunks c.args.dir.0)
    c.in_ok-directory.ensures.value (told_not now.content c.in_ok-directory.directory c.in_ok-has_entries.field-0 (list_any (list_any is_entry)) c.in_ok-has_entries.ensures.value)
