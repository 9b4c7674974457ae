use Rattle.std.proofs.Common.{◌*◌, refl, arith}
use Rattle.std.specs.Prelude.{nat_lt}
use Rattle.std.proofs.lemmas.Bool.{and_parts, ltb-true}
use Rattle.lufs_base.specs.Layout.{blocks_of, region_of}
use Rattle.volume_model.specs.Format.{is_body_region}
use Rattle.meta_store.proofs.PlainSteps.{filled}
use Rattle.meta_store.proofs.plain.PlainStoreMetaStore.fill.Goals as goal

pub returns-clause-ok : goal.returns-clause-ok
returns-clause-ok c =
    let s = c.args.self.now in
    let g = s.geometry in
    let b = c.args.b.0 in
    let body = c.requires.may.body in
    filled g s.image.items c.put.new.image.items s.held.items s.taken.items s.freed.items b (4096 * b) c.args.bytes.now s.in_range (omega (arith, s.whole))
    (ltb-true b (blocks_of g) (and_parts (nat_lt b (blocks_of g)) (is_body_region (region_of g b)) body).0) c.requires.size body refl c.put.ensures
