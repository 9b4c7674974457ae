use Rattle.std.proofs.Common.{◌≡◌, ◌<◌, ◌≤◌, ◌/◌, [], true, sym, ap, subst, ◌∙◌, arith}
use Rattle.std.proofs.lemmas.List.Elements.{All-nil, All-head}
use Rattle.lufs_base.specs.Layout.{IsGeometry}
use Rattle.lufs_base.specs.declared.geometry.Geometry.{Geometry}
use Rattle.lufs_base.specs.declared.numbers.BlockNo.{BlockNo}
use Rattle.volume_model.specs.Format.{inodes_of}
use Rattle.change_laws.specs.Hands.{one_inode}
use Rattle.change_laws.specs.Marks.{group_of_inode}
use Rattle.meta_store.specs.Changing.{AllTold, all_told}
use Rattle.block_alloc.specs.Marking.{holds_group}
use Rattle.block_alloc.proofs.MarkedReading.{inode_in_group}
use Rattle.block_alloc.proofs.ReturnedHand.{untold}
use Rattle.block_alloc.proofs.ReturnedStep.{read_number, step_may, step_whole}
use Rattle.block_alloc.proofs.returning.return_inode.Goals as goal

pub returns-in_default-clause-whole : goal.returns-in_default-clause-whole
returns-in_default-clause-whole g c =
    let s = c.args.store.now in
    let told = g.S.MetaRead.store s in
    let ok : IsGeometry told.geometry = c.geometry.ensures.in_range in
    let n = c.args.i / c.geometry.result.now.ipg in
    let its : n ≡ group_of_inode told.geometry c.args.i = ap (λ (h : Geometry). group_of_inode h c.args.i) c.geometry.ensures.value in
    let usable = All-head (λ x. (2 ≤ x) × (x < inodes_of told.geometry)) c.args.i [] c.requires.holds.of_volume.usable in
    let within : n < told.geometry.groups = omega (arith, its, inode_in_group told.geometry c.args.i ok usable.1) in
    (untold told.geometry (one_inode c.args.i) n told.content c.in_ok-group.field-0 within c.in_default.is c.in_ok-group.ensures.value c.requires.stands, c.in_ok-group.ensures.same)

pub without_inode-cleared-requires-clause-within : goal.without_inode-cleared-requires-clause-within
without_inode-cleared-requires-clause-within g c =
    let s = c.args.store.now in
    let told = g.S.MetaRead.store s in
    let ok : IsGeometry told.geometry = c.geometry.ensures.in_range in
    let n = c.args.i / c.geometry.result.now.ipg in
    let its : n ≡ group_of_inode told.geometry c.args.i = ap (λ (h : Geometry). group_of_inode h c.args.i) c.geometry.ensures.value in
    let usable = All-head (λ x. (2 ≤ x) × (x < inodes_of told.geometry)) c.args.i [] c.requires.holds.of_volume.usable in
    let within : n < told.geometry.groups = omega (arith, its, inode_in_group told.geometry c.args.i ok usable.1) in
    let number = (read_number told.geometry c.geometry.result.now n c.in_ok-group.field-0 c.in-Some.group c.geometry.ensures.value c.in-Some.is c.in_ok-group.ensures.group).0 in
    omega (arith, number, within, ap (λ (h : Geometry). h.groups) c.geometry.ensures.value)

pub amend_group-requires-clause-may : goal.amend_group-requires-clause-may
amend_group-requires-clause-may g c =
    let s = c.args.store.now in
    let told = g.S.MetaRead.store s in
    let ok : IsGeometry told.geometry = c.geometry.ensures.in_range in
    let n = c.args.i / c.geometry.result.now.ipg in
    let its : n ≡ group_of_inode told.geometry c.args.i = ap (λ (h : Geometry). group_of_inode h c.args.i) c.geometry.ensures.value in
    let usable = All-head (λ x. (2 ≤ x) × (x < inodes_of told.geometry)) c.args.i [] c.requires.holds.of_volume.usable in
    let within : n < told.geometry.groups = omega (arith, its, inode_in_group told.geometry c.args.i ok usable.1) in
    let mid = c.group_record.new.store in
    let old : AllTold = all_told told (g.S.MetaRead.changing s) in
    let after : AllTold = all_told (g.S.MetaRead.store mid) (g.S.MetaRead.changing mid) in
    let holds : holds_group old n ≡ true = ap (holds_group old) its ∙ All-head (λ x. holds_group old (group_of_inode told.geometry x) ≡ true) c.args.i [] c.requires.holds.inode in
    step_may old after (one_inode c.args.i) c.geometry.result.now n c.in_ok-group.field-0 c.in-Some.group c.without_inode-cleared.result [] (subst IsGeometry (sym c.geometry.ensures.value) ok) c.geometry.ensures.value
    c.in_ok-group.ensures.same c.in-Some.is c.in_ok-group.ensures.group within c.in_ok-group.ensures.value c.requires c.without_inode-cleared.ensures.number c.without_inode-cleared.ensures.returns holds
    (All-nil (λ (x : BlockNo). old.changing.is_taken x.0 ≡ true))

pub returns-clause-whole : goal.returns-clause-whole
returns-clause-whole g c =
    let s = c.args.store.now in
    let told = g.S.MetaRead.store s in
    let ok : IsGeometry told.geometry = c.geometry.ensures.in_range in
    let n = c.args.i / c.geometry.result.now.ipg in
    let its : n ≡ group_of_inode told.geometry c.args.i = ap (λ (h : Geometry). group_of_inode h c.args.i) c.geometry.ensures.value in
    let usable = All-head (λ x. (2 ≤ x) × (x < inodes_of told.geometry)) c.args.i [] c.requires.holds.of_volume.usable in
    let within : n < told.geometry.groups = omega (arith, its, inode_in_group told.geometry c.args.i ok usable.1) in
    let mid = c.group_record.new.store in
    let old : AllTold = all_told told (g.S.MetaRead.changing s) in
    let after : AllTold = all_told (g.S.MetaRead.store mid) (g.S.MetaRead.changing mid) in
    let new = c.amend_group.new.store in
    step_whole old after (one_inode c.args.i) c.geometry.result.now n c.in_ok-group.field-0 c.in-Some.group c.without_inode-cleared.result [] (subst IsGeometry (sym c.geometry.ensures.value) ok) c.geometry.ensures.value
    c.in_ok-group.ensures.same c.in-Some.is c.in_ok-group.ensures.group within c.in_ok-group.ensures.value c.requires c.without_inode-cleared.ensures.number c.without_inode-cleared.ensures.returns
    (all_told (g.S.MetaRead.store new) (g.S.MetaRead.changing new)) c.amend_group.ensures
