use Rattle.std.proofs.Common.{◌≡◌, ◌+◌, ℕ, if◌then◌else◌, Ok, refl, ap}
use Rattle.std.specs.Option.{option_map}
use Rattle.volume_model.specs.Sound.{FileNode}
use Rattle.history_model.specs.FileBytes.{missing_indexes, misses_pointers}
use Rattle.meta_store.specs.Changes.{changed}
use Rattle.meta_draft.specs.Drafted.{drafted}
use Rattle.file_map.specs.declared.block_needs.Needed.{Needed}
use Rattle.file_map.proofs.NeededBlocks.{file_told, none_told}
use Rattle.file_map.proofs.block_needs.blocks_needed.Goals as goal

pub returns-in-Some-clause-indexes : goal.returns-in-Some-clause-indexes
returns-in-Some-clause-indexes g c =
    let change = c.args.draft.now.change in
    let told = drafted change (g.S.MetaRead.store c.args.store.now) in
    let now = drafted change (g.S.MetaRead.store c.used_inode.new.store) in
    file_told told.content now.content told.geometry now.geometry c.args.i.0 c.args.offset c.args.count (c.args.offset + c.args.count) c.in_ok-d.field-0 c.in-Some.d c.blocks_of_record.result
    (λ (file : FileNode) (needed : Needed). needed.indexes ≡ missing_indexes file c.args.offset c.args.count)
    c.in-Some.is c.in_ok-d.ensures.unchanged.geometry (ap (option_map (changed change)) c.in_ok-d.ensures.unchanged.content) refl
    (λ blocks u needed is. is.indexes) c.in_ok-d.ensures.value c.blocks_of_record.ensures.value

pub returns-in-Some-clause-pointers : goal.returns-in-Some-clause-pointers
returns-in-Some-clause-pointers g c =
    let change = c.args.draft.now.change in
    let told = drafted change (g.S.MetaRead.store c.args.store.now) in
    let now = drafted change (g.S.MetaRead.store c.used_inode.new.store) in
    file_told told.content now.content told.geometry now.geometry c.args.i.0 c.args.offset c.args.count (c.args.offset + c.args.count) c.in_ok-d.field-0 c.in-Some.d c.blocks_of_record.result
    (λ (file : FileNode) (needed : Needed). needed.pointers ≡ (if misses_pointers file c.args.offset c.args.count then 1 else 0))
    c.in-Some.is c.in_ok-d.ensures.unchanged.geometry (ap (option_map (changed change)) c.in_ok-d.ensures.unchanged.content) refl
    (λ blocks u needed is. is.pointers) c.in_ok-d.ensures.value c.blocks_of_record.ensures.value

pub returns-in-None-clause-indexes : goal.returns-in-None-clause-indexes
returns-in-None-clause-indexes g c =
    let told = drafted c.args.draft.now.change (g.S.MetaRead.store c.args.store.now) in
    none_told told.content told.geometry c.args.i.0 c.in_ok-d.field-0 (Ok (record { indexes = c.new.result; pointers = 0 }))
    (λ (file : FileNode) (needed : Needed). needed.indexes ≡ missing_indexes file c.args.offset c.args.count) c.in-None.is c.in_ok-d.ensures.value

pub returns-in-None-clause-pointers : goal.returns-in-None-clause-pointers
returns-in-None-clause-pointers g c =
    let told = drafted c.args.draft.now.change (g.S.MetaRead.store c.args.store.now) in
    none_told told.content told.geometry c.args.i.0 c.in_ok-d.field-0 (Ok (record { indexes = c.new.result; pointers = 0 }))
    (λ (file : FileNode) (needed : Needed). needed.pointers ≡ (if misses_pointers file c.args.offset c.args.count then 1 else 0)) c.in-None.is c.in_ok-d.ensures.value
