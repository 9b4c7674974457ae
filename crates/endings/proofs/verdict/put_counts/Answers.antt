use Rattle.std.proofs.Common.{[], ◌∷◌, ◌++◌}
use Rattle.std.specs.Prelude.{codes}
use Rattle.volume_model.specs.Texts.{field}
use Rattle.endings.proofs.PutTexts.{puts_both, puts_first, puts_cut, puts_as, counts_in_four}
use Rattle.endings.proofs.verdict.put_counts.Goals as goal

pub returns-in_err-put_field : goal.returns-in_err-put_field
returns-in_err-put_field g c =
    let inodes = field (codes "clean inodes") c.args.counts.now.inodes in
    let blocks = field (codes " blocks") c.args.counts.now.blocks in
    let free = field (codes " free") c.args.counts.now.free in
    let error = c.in_err-put_field.field-0.0 in
    puts_as _ _ c.from_residual.result _ _ (counts_in_four c.args.counts.now)
    (puts_cut {T = Unit {0}} ((inodes ++ blocks) ++ free) (10 ∷ []) error c.from_residual.result _ _ c.from_residual.ensures.0
    (puts_first {T = Unit {0}} (inodes ++ blocks) free error error _ _ (puts_first inodes blocks error error _ _ c.in_err-put_field.ensures)))

pub returns-in_err-put_field-2 : goal.returns-in_err-put_field-2
returns-in_err-put_field-2 g c =
    let inodes = field (codes "clean inodes") c.args.counts.now.inodes in
    let blocks = field (codes " blocks") c.args.counts.now.blocks in
    let free = field (codes " free") c.args.counts.now.free in
    let error = c.in_err-put_field-2.field-0.0 in
    puts_as _ _ c.from_residual-in_err-put_field-2.result _ _ (counts_in_four c.args.counts.now)
    (puts_cut {T = Unit {0}} ((inodes ++ blocks) ++ free) (10 ∷ []) error c.from_residual-in_err-put_field-2.result _ _ c.from_residual-in_err-put_field-2.ensures.0
    (puts_first {T = Unit {0}} (inodes ++ blocks) free error error _ _
    (puts_both inodes blocks c.in_ok-put_field.field-0 _ _ (g.K.Sink.told c.put_field.new.out) _ c.in_ok-put_field.ensures c.in_err-put_field-2.ensures)))

pub returns-in_err-put_field-3 : goal.returns-in_err-put_field-3
returns-in_err-put_field-3 g c =
    let inodes = field (codes "clean inodes") c.args.counts.now.inodes in
    let blocks = field (codes " blocks") c.args.counts.now.blocks in
    let free = field (codes " free") c.args.counts.now.free in
    let error = c.in_err-put_field-3.field-0.0 in
    puts_as _ _ c.from_residual-in_err-put_field-3.result _ _ (counts_in_four c.args.counts.now)
    (puts_cut {T = Unit {0}} ((inodes ++ blocks) ++ free) (10 ∷ []) error c.from_residual-in_err-put_field-3.result _ _ c.from_residual-in_err-put_field-3.ensures.0
    (puts_both (inodes ++ blocks) free c.in_ok-put_field-2.field-0 _ _ (g.K.Sink.told c.put_field-2.new.out) _
    (puts_both inodes blocks c.in_ok-put_field.field-0 _ _ (g.K.Sink.told c.put_field.new.out) _ c.in_ok-put_field.ensures c.in_ok-put_field-2.ensures) c.in_err-put_field-3.ensures))

pub returns : goal.returns
returns g c =
    let inodes = field (codes "clean inodes") c.args.counts.now.inodes in
    let blocks = field (codes " blocks") c.args.counts.now.blocks in
    let free = field (codes " free") c.args.counts.now.free in
    puts_as _ _ c.put.result _ _ (counts_in_four c.args.counts.now)
    (puts_both ((inodes ++ blocks) ++ free) (10 ∷ []) c.in_ok-put_field-3.field-0 c.put.result _ (g.K.Sink.told c.put_field-3.new.out) _
    (puts_both (inodes ++ blocks) free c.in_ok-put_field-2.field-0 _ _ (g.K.Sink.told c.put_field-2.new.out) _
    (puts_both inodes blocks c.in_ok-put_field.field-0 _ _ (g.K.Sink.told c.put_field.new.out) _ c.in_ok-put_field.ensures c.in_ok-put_field-2.ensures) c.in_ok-put_field-3.ensures)
    c.put.ensures)
