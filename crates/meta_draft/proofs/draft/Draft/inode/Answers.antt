use Rattle.std.proofs.Common.{ℕ, ◌+◌, ◌-◌, ◌%◌, IfSome, option_map, subst, arith}
use Rattle.lufs_base.specs.declared.geometry.Geometry.{Geometry}
use Rattle.volume_model.specs.Format.{IsDinode}
use Rattle.meta_store.specs.Changes.{changed}
use Rattle.meta_draft.proofs.ReadRecords.{inode_told, inode_inside}
use Rattle.meta_draft.proofs.draft.Draft.inode.Goals as goal

pub block-requires-clause-inside : goal.block-requires-clause-inside
block-requires-clause-inside g c =
    let told = g.S.MetaRead.store c.args.store.now in
    inode_inside told.geometry c.geometry.result.now c.args.i.0 c.inode_place-place.result c.geometry.ensures.value c.geometry.ensures.in_range c.requires.inside c.inode_place-place.ensures

pub returns-clause-read : goal.returns-clause-read
returns-clause-read g c =
    let told = g.S.MetaRead.store c.args.store.now in
    let place = c.inode_place-place.result in
    let at : ℕ = place % 4096 in
    let found = c.used_record.result in
    record {
      value = inode_told told.geometry c.geometry.result.now (option_map (changed c.args.self.now.change) told.content) c.args.i.0 place (at + 128 - at) c.block.new.out found c.geometry.ensures.value c.inode_place-place.ensures
          c.in_ok-block.ensures.bytes (omega arith) c.used_record.ensures.value;
      inode = subst (λ (h : Geometry). IfSome found (IsDinode h.version)) c.geometry.ensures.value c.used_record.ensures.inode;
    }
