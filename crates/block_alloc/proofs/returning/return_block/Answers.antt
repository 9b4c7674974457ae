use Rattle.std.proofs.Common.{◌≡◌, ◌<◌, [], ◌∷◌, true, sym, ap, subst, ◌∙◌, arith}
use Rattle.std.proofs.lemmas.List.Elements.{All-nil, All-cons, All-head}
use Rattle.lufs_base.specs.Layout.{IsGeometry}
use Rattle.lufs_base.specs.declared.geometry.Geometry.{Geometry}
use Rattle.lufs_base.specs.declared.numbers.BlockNo.{BlockNo}
use Rattle.volume_model.specs.Format.{is_body}
use Rattle.change_laws.specs.Hands.{one_block}
use Rattle.change_laws.specs.Marks.{group_of_block}
use Rattle.meta_store.specs.Changing.{AllTold, all_told}
use Rattle.block_alloc.specs.Marking.{holds_group}
use Rattle.block_alloc.proofs.MarkedReading.{block_in_group}
use Rattle.block_alloc.proofs.ReturnedHand.{untold}
use Rattle.block_alloc.proofs.ReturnedStep.{read_number, step_may, step_whole}
use Rattle.block_alloc.proofs.returning.return_block.Goals as goal

pub returns-in_default-clause-whole : goal.returns-in_default-clause-whole
returns-in_default-clause-whole g c =
    let s = c.args.store.now in
    let told = g.S.MetaRead.store s in
    let ok : IsGeometry told.geometry = c.geometry.ensures.in_range in
    let n = c.group_of_block.result in
    let its : n ≡ group_of_block told.geometry c.args.b = c.group_of_block.ensures ∙ ap (λ (h : Geometry). group_of_block h c.args.b) c.geometry.ensures.value in
    let body : is_body told.geometry c.args.b ≡ true = All-head (λ x. is_body told.geometry x ≡ true) c.args.b [] c.requires.holds.of_volume.body in
    let within : n < told.geometry.groups = omega (arith, its, block_in_group told.geometry c.args.b ok body) in
    (untold told.geometry (one_block c.args.b) n told.content c.in_ok-group.field-0 within c.in_default.is c.in_ok-group.ensures.value c.requires.stands, c.in_ok-group.ensures.same)

pub without_block-cleared-requires-clause-within : goal.without_block-cleared-requires-clause-within
without_block-cleared-requires-clause-within g c =
    let s = c.args.store.now in
    let told = g.S.MetaRead.store s in
    let ok : IsGeometry told.geometry = c.geometry.ensures.in_range in
    let n = c.group_of_block.result in
    let its : n ≡ group_of_block told.geometry c.args.b = c.group_of_block.ensures ∙ ap (λ (h : Geometry). group_of_block h c.args.b) c.geometry.ensures.value in
    let body : is_body told.geometry c.args.b ≡ true = All-head (λ x. is_body told.geometry x ≡ true) c.args.b [] c.requires.holds.of_volume.body in
    let within : n < told.geometry.groups = omega (arith, its, block_in_group told.geometry c.args.b ok body) in
    let number = (read_number told.geometry c.geometry.result.now n c.in_ok-group.field-0 c.in-Some.group c.geometry.ensures.value c.in-Some.is c.in_ok-group.ensures.group).0 in
    omega (arith, number, within, ap (λ (h : Geometry). h.groups) c.geometry.ensures.value)

pub without_block-cleared-requires-clause-body : goal.without_block-cleared-requires-clause-body
without_block-cleared-requires-clause-body g c =
    let told = g.S.MetaRead.store c.args.store.now in
    ap (λ (h : Geometry). is_body h c.args.b) c.geometry.ensures.value ∙ All-head (λ x. is_body told.geometry x ≡ true) c.args.b [] c.requires.holds.of_volume.body

pub amend_group-requires-clause-may : goal.amend_group-requires-clause-may
amend_group-requires-clause-may g c =
    let s = c.args.store.now in
    let told = g.S.MetaRead.store s in
    let ok : IsGeometry told.geometry = c.geometry.ensures.in_range in
    let n = c.group_of_block.result in
    let its : n ≡ group_of_block told.geometry c.args.b = c.group_of_block.ensures ∙ ap (λ (h : Geometry). group_of_block h c.args.b) c.geometry.ensures.value in
    let body : is_body told.geometry c.args.b ≡ true = All-head (λ x. is_body told.geometry x ≡ true) c.args.b [] c.requires.holds.of_volume.body in
    let within : n < told.geometry.groups = omega (arith, its, block_in_group told.geometry c.args.b ok body) in
    let mid = c.group_record.new.store in
    let old : AllTold = all_told told (g.S.MetaRead.changing s) in
    let after : AllTold = all_told (g.S.MetaRead.store mid) (g.S.MetaRead.changing mid) in
    let holds : holds_group old n ≡ true = ap (holds_group old) its ∙ All-head (λ x. holds_group old (group_of_block told.geometry x) ≡ true) c.args.b [] c.requires.holds.blocks in
    step_may old after (one_block c.args.b) c.geometry.result.now n c.in_ok-group.field-0 c.in-Some.group c.without_block-cleared.result (record { 0 = c.args.b } ∷ []) (subst IsGeometry (sym c.geometry.ensures.value) ok) c.geometry.ensures.value
    c.in_ok-group.ensures.same c.in-Some.is c.in_ok-group.ensures.group within c.in_ok-group.ensures.value c.requires c.without_block-cleared.ensures.number c.without_block-cleared.ensures.returns holds
    (All-cons (λ (x : BlockNo). old.changing.is_taken x.0 ≡ true) (record { 0 = c.args.b }) [] (All-head (λ x. old.changing.is_taken x ≡ true) c.args.b [] c.requires.holds.taken) (All-nil (λ (x : BlockNo). old.changing.is_taken x.0 ≡ true)))

pub returns-clause-whole : goal.returns-clause-whole
returns-clause-whole g c =
    let s = c.args.store.now in
    let told = g.S.MetaRead.store s in
    let ok : IsGeometry told.geometry = c.geometry.ensures.in_range in
    let n = c.group_of_block.result in
    let its : n ≡ group_of_block told.geometry c.args.b = c.group_of_block.ensures ∙ ap (λ (h : Geometry). group_of_block h c.args.b) c.geometry.ensures.value in
    let body : is_body told.geometry c.args.b ≡ true = All-head (λ x. is_body told.geometry x ≡ true) c.args.b [] c.requires.holds.of_volume.body in
    let within : n < told.geometry.groups = omega (arith, its, block_in_group told.geometry c.args.b ok body) in
    let mid = c.group_record.new.store in
    let old : AllTold = all_told told (g.S.MetaRead.changing s) in
    let after : AllTold = all_told (g.S.MetaRead.store mid) (g.S.MetaRead.changing mid) in
    let new = c.amend_group.new.store in
    step_whole old after (one_block c.args.b) c.geometry.result.now n c.in_ok-group.field-0 c.in-Some.group c.without_block-cleared.result (record { 0 = c.args.b } ∷ []) (subst IsGeometry (sym c.geometry.ensures.value) ok) c.geometry.ensures.value
    c.in_ok-group.ensures.same c.in-Some.is c.in_ok-group.ensures.group within c.in_ok-group.ensures.value c.requires c.without_block-cleared.ensures.number c.without_block-cleared.ensures.returns
    (all_told (g.S.MetaRead.store new) (g.S.MetaRead.changing new)) c.amend_group.ensures
