use Rattle.std.proofs.Common.{ap}
use Rattle.std.specs.Option.{option_map}
use Rattle.meta_store.specs.Changes.{changed}
use Rattle.meta_draft.specs.Drafted.{drafted}
use Rattle.dir_reads.specs.declared.space.Room.TheVariants.{Fits}
use Rattle.dir_reads.proofs.RoomsInTrees.{room_told, fits_told, after_told}
use Rattle.dir_reads.proofs.space.can_enter.Goals as goal

pub returns-then-branch-clause-value : goal.returns-then-branch-clause-value
returns-then-branch-clause-value g c =
    let change = c.args.draft.now.change in
    let told = drafted change (g.S.MetaRead.store c.args.store.now) in
    let now = drafted change (g.S.MetaRead.store c.open_chunks.new.store) in
    let directory = c.in_ok-directory.directory in
    room_told told.content now.content told.geometry c.args.dir.0 c.args.name.now directory c.in_ok-has_chunk_with_room.field-0 Fits
    (ap (option_map (changed change)) c.in_ok-directory.ensures.unchanged.content) (fits_told c.in_ok-has_chunk_with_room.field-0 directory.count c.if-branch.true)
    c.in_ok-directory.ensures.value c.in_ok-has_chunk_with_room.ensures.value

pub returns-clause-value : goal.returns-clause-value
returns-clause-value g c =
    let change = c.args.draft.now.change in
    let told = drafted change (g.S.MetaRead.store c.args.store.now) in
    let now = drafted change (g.S.MetaRead.store c.open_chunks.new.store) in
    let directory = c.in_ok-directory.directory in
    room_told told.content now.content told.geometry c.args.dir.0 c.args.name.now directory c.in_ok-has_chunk_with_room.field-0 c.room_after.result
    (ap (option_map (changed change)) c.in_ok-directory.ensures.unchanged.content)
    (after_told c.in_ok-has_chunk_with_room.field-0 directory.count c.room_after.result c.if-branch.false c.in_ok-directory.ensures.most c.room_after.ensures)
    c.in_ok-directory.ensures.value c.in_ok-has_chunk_with_room.ensures.value
