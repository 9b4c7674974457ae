use Rattle.std.proofs.Common.{◌≡◌, ℕ, Option, IfSome, sym, ap, subst, ◌∙◌}
use Rattle.lufs_base.specs.declared.geometry.Geometry.{Geometry}
use Rattle.volume_model.specs.Format.{IsGroup, group_bytes}
use Rattle.cyl_groups.specs.declared.group.Group.{Group}
use Rattle.cyl_groups.specs.Group.{record_of}
use Rattle.meta_store.specs.declared.change.Change.{Change}
use Rattle.meta_store.specs.Deltas.{group_delta}
use Rattle.meta_draft.specs.Drafted.{with_delta}
use Rattle.draft_laws.specs.Freeing.{with_all_freed}
use Rattle.file_map.specs.Freed.{hand_of}
use Rattle.file_map.proofs.FreedLists.{none_there, none_among, taken_kept}
use Rattle.file_map.proofs.GivenShares.{empty_back, unread_back, cleared_here, share_back}
use Rattle.file_map.proofs.frees.free_in_group.Goals as goal

pub returns-then-is_empty-clause-back : goal.returns-then-is_empty-clause-back
returns-then-is_empty-clause-back g c =
    let told = g.S.MetaRead.store c.args.store.now in
    empty_back told.content told.geometry c.args.draft.now.change c.args.inode c.args.freed.now (none_there c.args.inode c.is_none.result c.is_none.ensures c.if-is_none.true)
    (none_among c.args.freed.now (sym c.is_empty.ensures ∙ c.if-is_empty.true))

pub returns-in_default-clause-back : goal.returns-in_default-clause-back
returns-in_default-clause-back g c =
    let told = g.S.MetaRead.store c.args.store.now in
    unread_back told.content told.geometry c.args.draft.now.change c.args.n c.args.inode c.args.freed.now c.in_ok-group.field-0 c.requires.inside c.in_default.is c.in_ok-group.ensures.read.value

pub returns-clause-back : goal.returns-clause-back
returns-clause-back g c =
    let told = g.S.MetaRead.store c.args.store.now in
    let old = c.args.draft.now.change in
    let inode = c.args.inode in
    let freed = c.args.freed.now in
    let group = c.in-Some.group in
    let cleared = c.cleared-cleared.result in
    let is_group = subst (λ (o : Option Group). IfSome o (λ x. IsGroup told.geometry c.args.n (record_of x))) c.in-Some.is c.in_ok-group.ensures.read.group in
    let clears = cleared_here told.geometry c.geometry.result.now c.args.n group.number (hand_of inode freed) (record_of group) (record_of cleared) c.geometry.ensures.value is_group.number
    c.cleared-cleared.ensures.group c.cleared-cleared.ensures.counts c.cleared-cleared.ensures.put in
    let put = c.in_ok-put_share.ensures.ok ∙ ap (λ (h : Geometry). with_delta (with_all_freed old freed) (group_delta h c.args.n (group_bytes (record_of cleared)))) c.geometry.ensures.value in
    share_back told.content told.geometry old c.put_share.new.draft.change c.args.n inode freed c.in_ok-group.field-0 group cleared c.requires.inside c.in-Some.is c.in_ok-group.ensures.read.value clears
    c.requires.inode c.requires.blocks put

pub returns-clause-taken : goal.returns-clause-taken
returns-clause-taken g c = ap (λ (x : Change). x.taken) c.in_ok-put_share.ensures.ok ∙ taken_kept c.args.freed.now c.args.draft.now.change
