use Rattle.std.proofs.Common.{◌*◌, true, false, ap, arith, ◌∙◌, List, ℕ}
use Rattle.std.specs.Prelude.{not, bytes_eq}
use Rattle.plain_image.proofs.BlockSteps.{told_other, told_as, write_stopped, on_err}
use Rattle.plain_image.proofs.write.write_block.Goals as goal

pub returns-then-eq-clause-told : goal.returns-then-eq-clause-told
returns-then-eq-clause-told g c =
    let o = (g.D.Disk.told c.args.disk.now).present in
    told_as o c.args.bytes.now c.args.b (not c.eq.result) false (ap not c.if-eq.true)
    (told_other o c.read.new.out c.args.bytes.now c.args.b (8 * c.from-first.result) c.eq.result (omega (arith, c.from-first.ensures)) (omega (arith, c.read.auto.out)) c.in_ok-read.ensures.bytes (c.eq.ensures ∙ ap (λ (l : List ℕ). bytes_eq l c.args.bytes.now) c.as_slice.ensures))

pub returns-in_err-write-clause-stopped : goal.returns-in_err-write-clause-stopped
returns-in_err-write-clause-stopped g c =
    let o = (g.D.Disk.told c.args.disk.now).present in
    let other = told_as o c.args.bytes.now c.args.b (not c.eq.result) true (ap not c.if-eq.false)
    (told_other o c.read.new.out c.args.bytes.now c.args.b (8 * c.from-first.result) c.eq.result (omega (arith, c.from-first.ensures)) (omega (arith, c.read.auto.out)) c.in_ok-read.ensures.bytes (c.eq.ensures ∙ ap (λ (l : List ℕ). bytes_eq l c.args.bytes.now) c.as_slice.ensures)) in
    on_err c.from_residual-in_err-write.result (write_stopped c.args.b (8 * c.from-first.result) c.args.bytes.now (g.D.Disk.told c.args.disk.now) (g.D.Disk.told c.read.new.self) (g.D.Disk.told c.write.new.self)
    (omega (arith, c.from-first.ensures)) c.in_ok-read.ensures.unwritten other c.in_err-write.ensures.err)

pub returns-clause-told : goal.returns-clause-told
returns-clause-told g c =
    let o = (g.D.Disk.told c.args.disk.now).present in
    told_as o c.args.bytes.now c.args.b (not c.eq.result) true (ap not c.if-eq.false)
    (told_other o c.read.new.out c.args.bytes.now c.args.b (8 * c.from-first.result) c.eq.result (omega (arith, c.from-first.ensures)) (omega (arith, c.read.auto.out)) c.in_ok-read.ensures.bytes (c.eq.ensures ∙ ap (λ (l : List ℕ). bytes_eq l c.args.bytes.now) c.as_slice.ensures))
