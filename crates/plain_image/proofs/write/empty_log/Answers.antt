use Rattle.std.proofs.Common.{[], ◌∷◌, ap, ◌∙◌}
use Rattle.volume_model.specs.declared.device_call.DeviceCall.TheVariants.{Flush}
use Rattle.sector_disk.proofs.MadeCalls.{write_makes, flush_makes, begun_of, begun_more, begun_then, makes_some, makes_then, made_then, made_of, fits_still}
use Rattle.std.specs.Prelude.{IsOk, is_ok}
use Rattle.plain_image.specs.WrittenBack.{emptying}
use Rattle.plain_image.proofs.BlockSteps.{flush_content}
use Rattle.plain_image.proofs.LogEmptied.{header_call, header_makes, header_written, written_from}
use Rattle.plain_image.proofs.write.empty_log.Goals as goal

pub returns-in_err-write-clause-calls : goal.returns-in_err-write-clause-calls
returns-in_err-write-clause-calls g c =
    let gn = c.args.g.now in
    let h = c.args.header.now in
    let old = g.D.Disk.told c.args.disk.now in
    let mid = g.D.Disk.told c.flush.new.self in
    let flushed = c.in_ok-flush.ensures.ok in
    let makes = header_makes c.write.result gn h c.write_header.new.out c.header_sector.result mid _ c.header_sector.ensures c.write_header.ensures
    (write_makes c.write.result c.header_sector.result c.write_header.new.out mid (g.D.Disk.told c.write.new.self) (fits_still _ _ _ flushed) c.write.ensures.ok c.write.ensures.err) in
    makes_some c.from_residual-in_err-write.result (Flush ∷ emptying gn h) old _ c.from_residual-in_err-write.ensures.0
    (begun_then (Flush ∷ []) (emptying gn h) old mid _ c.requires.counted flushed (begun_more (header_call gn h ∷ []) (Flush ∷ []) mid _ (begun_of c.write.result _ _ _ makes)))

pub returns-clause-calls : goal.returns-clause-calls
returns-clause-calls g c =
    let gn = c.args.g.now in
    let h = c.args.header.now in
    let old = g.D.Disk.told c.args.disk.now in
    let mid = g.D.Disk.told c.flush.new.self in
    let last = g.D.Disk.told c.write.new.self in
    let flushed = c.in_ok-flush.ensures.ok in
    let went : IsOk c.write.result = ap is_ok c.in_ok-write.was in
    let makes = header_makes c.write.result gn h c.write_header.new.out c.header_sector.result mid last c.header_sector.ensures c.write_header.ensures
    (write_makes c.write.result c.header_sector.result c.write_header.new.out mid last (fits_still _ _ _ flushed) c.write.ensures.ok c.write.ensures.err) in
    let made = made_then (Flush ∷ []) (header_call gn h ∷ []) old mid last flushed (made_of c.write.result _ _ _ went makes) in
    makes_then c.flush-2.result (Flush ∷ (header_call gn h ∷ [])) (Flush ∷ []) old last _ c.requires.counted made
    (flush_makes c.flush-2.result last (g.D.Disk.told c.flush-2.new.self) (fits_still _ _ _ made) c.flush-2.ensures.ok c.flush-2.ensures.err)

pub returns-clause-partly : goal.returns-clause-partly
returns-clause-partly g c =
    let gn = c.args.g.now in
    let h = c.args.header.now in
    let old = g.D.Disk.told c.args.disk.now in
    let mid = g.D.Disk.told c.flush.new.self in
    let last = g.D.Disk.told c.write.new.self in
    let new = g.D.Disk.told c.flush-2.new.self in
    let flushed = flush_content c.flush.result old mid c.flush.ensures.ok c.flush.ensures.err in
    let after = flush_content c.flush-2.result last new c.flush-2.ensures.ok c.flush-2.ensures.err in
    header_written gn h old new old.sectors (g.met.D.Disk.size c.args.disk.now) c.requires.room
    (after ∙ written_from gn h c.write_header.new.out c.header_sector.result old.present mid.present last.present c.header_sector.ensures c.write_header.ensures flushed c.in_ok-write.ensures.ok.content)
