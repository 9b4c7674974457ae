use Rattle.std.proofs.Common.{IfSome, option_map, subst, arith}
use Rattle.std.proofs.lemmas.List.{length-take}
use Rattle.lufs_base.specs.declared.geometry.Geometry.{Geometry}
use Rattle.volume_model.specs.Format.{IsGroup}
use Rattle.cyl_groups.specs.Group.{record_of, HasSizesOf}
use Rattle.meta_store.specs.Changes.{changed}
use Rattle.meta_draft.proofs.ReadRecords.{group_told}
use Rattle.meta_draft.proofs.draft.Draft.group.Goals as goal

pub slice_bounds-group_record-end : goal.slice_bounds-group_record-end
slice_bounds-group_record-end g c = omega (arith, length-take 416 c.block.new.out, c.block.auto.out)

pub group_record-requires-clause-record : goal.group_record-requires-clause-record
group_record-requires-clause-record g c = omega (arith, length-take 416 c.block.new.out, c.block.auto.out)

pub returns-clause-read : goal.returns-clause-read
returns-clause-read g c =
    let told = g.S.MetaRead.store c.args.store.now in
    let found = c.group_record.result in
    let same = c.geometry.ensures.value in
    record {
      value = group_told told.geometry c.geometry.result.now (option_map (changed c.args.self.now.change) told.content) c.args.n c.group_block.result.0 c.block.new.out found same c.group_block.ensures
          c.in_ok-block.ensures.bytes c.group_record.ensures.value;
      sizes = subst (λ (h : Geometry). IfSome found (HasSizesOf h)) same c.group_record.ensures.sizes;
      group = subst (λ (h : Geometry). IfSome found (λ x. IsGroup h c.args.n (record_of x))) same c.group_record.ensures.group;
    }
