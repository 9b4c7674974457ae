use Rattle.std.proofs.Common.{◌≡◌, ℕ, ◌+◌, ◌-◌, ◌*◌, List, take, drop, ap, ◌∙◌, arith}
use Rattle.meta_store.proofs.plain.PlainStoreMetaRead.block.Goals as goal

pub returns-clause-bytes : goal.returns-clause-bytes
returns-clause-bytes c =
    let at = 4096 * c.args.b.0 in
    let image : List ℕ = c.args.self.now.image.items in
    let size : at + 4096 - at ≡ 4096 = omega arith in
    let place : at ≡ 512 * (8 * c.args.b.0) = omega arith in
    c.copy_from_slice.ensures.after
    ∙ ap (λ (l : List ℕ). take (at + 4096 - at) (drop at l)) c.deref.ensures.value
    ∙ ap (λ (n : ℕ). take n (drop at image)) size
    ∙ ap (λ (n : ℕ). take 4096 (drop n image)) place
