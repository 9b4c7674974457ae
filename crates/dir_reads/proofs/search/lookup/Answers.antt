use Rattle.std.proofs.Common.{List, ap}
use Rattle.std.specs.Option.{option_map}
use Rattle.lufs_base.specs.declared.Ino.{Ino}
use Rattle.volume_model.specs.declared.directory.Slot.{Slot}
use Rattle.volume_model.specs.Sound.{Tree}
use Rattle.meta_store.specs.Changes.{changed}
use Rattle.history_model.specs.Places.{lookup}
use Rattle.meta_draft.specs.Drafted.{drafted}
use Rattle.dir_reads.specs.Chunks.{slots_in, first_inode}
use Rattle.dir_reads.proofs.FoundSlots.{on_tree, looked_up}
use Rattle.dir_reads.proofs.search.lookup.Goals as goal

pub returns-clause-value : goal.returns-clause-value
returns-clause-value g c =
    let change = c.args.draft.now.change in
    let told = drafted change (g.S.MetaRead.store c.args.store.now) in
    let now = drafted change (g.S.MetaRead.store c.open_chunks.new.store) in
    let same = ap (option_map (changed change)) c.in_ok-directory.ensures.unchanged.content in
    let name = c.args.name.now in
    on_tree (option_map (λ (i : Ino). i.0)) (λ (chunks : List (List Slot)). first_inode name (slots_in chunks)) (λ (tree : Tree). lookup tree c.args.dir.0 name)
    told.content now.content told.geometry c.args.dir.0 c.in_ok-directory.directory c.find_among.result same (looked_up c.args.dir.0 name)
    c.in_ok-directory.ensures.value c.find_among.ensures.value
