use Rattle.std.proofs.Common.{◌≡◌, ℕ, List, ◌+◌, ◌-◌, ◌*◌, take, drop, ap, ◌∙◌, arith}
use Rattle.log_scan.proofs.ring.Piece.sector.Goals as goal

pub returns-clause-value : goal.returns-clause-value
returns-clause-value c =
    let k = c.args.i - c.args.self.now.first in
    let size : 512 * (c.args.i - c.args.self.now.first) + 512 - 512 * (c.args.i - c.args.self.now.first) ≡ 512 = omega arith in
    ap (λ (n : ℕ). take n (drop (512 * k) c.deref.result.now)) size
    ∙ ap (λ (l : List ℕ). take 512 (drop (512 * k) l)) c.deref.ensures.value
