use Rattle.std.proofs.Common.{◌≡◌, ◌<◌, ◌≤◌, inl, inr, ℕ, true, false, ◌&&◌, Some, None, sym, ap, ◌∙◌, arith}
use Rattle.std.specs.Prelude.{nat_le, nat_lt}
use Rattle.std.proofs.lemmas.Bool.{and_cases, and_parts, leb-true, leb-false, ltb-true, ltb-false}
use Rattle.lufs_base.specs.Layout.{blocks_of}
use Rattle.lufs_base.specs.declared.geometry.Geometry.{Geometry}
use Rattle.volume_model.specs.Format.{inodes_of, dinode_bytes}
use Rattle.meta_store.specs.Deltas.{inode_delta}
use Rattle.meta_draft.specs.Drafted.{with_delta}
use Rattle.file_map.proofs.StoreKept.{unchanged_then}
use Rattle.file_map.proofs.DroppedInodes.{none_dropped, past_dropped, low_dropped, used_result, taken_result, blocks_told, back_told}
use Rattle.file_map.proofs.drop.drop_inode.Goals as goal

pub returns-then-not-may_be_used-clause-dropped : goal.returns-then-not-may_be_used-clause-dropped
returns-then-not-may_be_used-clause-dropped g c =
    let told = g.S.MetaRead.store c.args.store.now in
    let i = c.args.i.0 in
    let test : (nat_le 2 i && nat_lt i (inodes_of told.geometry)) ≡ false =
    ap (λ (h : Geometry). nat_le 2 i && nat_lt i (inodes_of h)) (sym c.geometry.ensures.value) ∙ sym c.may_be_used.ensures ∙ c.if-not-may_be_used.true in
    elim (and_cases (nat_le 2 i) (nat_lt i (inodes_of told.geometry)) test) [
      | inl low ↦ low_dropped told.content told.geometry c.args.draft.now.change i (leb-false 2 i low)
      | inr past ↦ past_dropped told.content told.geometry c.args.draft.now.change i (ltb-false i (inodes_of told.geometry) past)
    ]

pub returns-in_default-clause-dropped : goal.returns-in_default-clause-dropped
returns-in_default-clause-dropped g c =
    let told = g.S.MetaRead.store c.args.store.now in
    let i = c.args.i.0 in
    let test : (nat_le 2 i && nat_lt i (inodes_of told.geometry)) ≡ true =
    ap (λ (h : Geometry). nat_le 2 i && nat_lt i (inodes_of h)) (sym c.geometry.ensures.value) ∙ sym c.may_be_used.ensures ∙ c.if-not-may_be_used.false in
    none_dropped told.content told.geometry c.args.draft.now.change i c.in_ok-d.field-0 (ltb-true i (inodes_of told.geometry) (and_parts (nat_le 2 i) (nat_lt i (inodes_of told.geometry)) test).1)
    c.in_default.is c.in_ok-d.ensures.read.value

pub returns-clause-dropped : goal.returns-clause-dropped
returns-clause-dropped g c =
    let told = g.S.MetaRead.store c.args.store.now in
    let read = g.S.MetaRead.store c.inode.new.store in
    let last = g.S.MetaRead.store c.blocks_of_record.new.store in
    let old = c.args.draft.now.change in
    let mid = c.put_inode.new.self.change in
    let new = c.free_all.new.draft.change in
    let i = c.args.i in
    let d = c.in-Some.d in
    let freed = c.in_ok-freed.freed.items in
    let test : (nat_le 2 i.0 && nat_lt i.0 (inodes_of told.geometry)) ≡ true =
    ap (λ (h : Geometry). nat_le 2 i.0 && nat_lt i.0 (inodes_of h)) (sym c.geometry.ensures.value) ∙ sym c.may_be_used.ensures ∙ c.if-not-may_be_used.false in
    let parts = and_parts (nat_le 2 i.0) (nat_lt i.0 (inodes_of told.geometry)) test in
    let some : 0 < blocks_of told.geometry = omega arith in
    let unchanged = unchanged_then c.in_ok-d.ensures.unchanged c.in_ok-freed.ensures.unchanged in
    let put : mid ≡ with_delta old (inode_delta told.geometry i.0 (dinode_bytes None)) =
    c.in_ok-put_inode.ensures.ok ∙ ap (λ (h : Geometry). with_delta old (inode_delta h i.0 (dinode_bytes None))) c.geometry.ensures.value in
    used_result c.free_all.result told.content told.geometry old mid new i c.in_ok-d.field-0 d freed (leb-true 2 i.0 parts.0) (ltb-true i.0 (inodes_of told.geometry) parts.1) some c.in-Some.is
    c.in_ok-d.ensures.read.value
    (blocks_told told.content read.content told.geometry read.geometry old d freed c.in_ok-d.ensures.unchanged.content c.in_ok-d.ensures.unchanged.geometry c.in_ok-freed.ensures.blocks)
    put
    (back_told told.content last.content told.geometry last.geometry mid new (Some i) freed c.deref.result.now c.free_all.result unchanged.content unchanged.geometry c.deref.ensures.value
    c.free_all.ensures.back)

pub returns-clause-taken : goal.returns-clause-taken
returns-clause-taken g c =
    taken_result c.free_all.result c.geometry.result.now c.args.draft.now.change c.put_inode.new.self.change c.free_all.new.draft.change c.args.i.0 c.in_ok-put_inode.ensures.ok c.free_all.ensures.taken
