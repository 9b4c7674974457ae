use Rattle.std.proofs.Common.{◌≡◌, ◌+◌, ◌-◌, ◌*◌, ◌/◌, ◌%◌, ℕ, List, length, take, drop, refl, ap, ◌∙◌, arith}
use Rattle.meta_store.proofs.BlockRows.{row_read}
use Rattle.meta_store.proofs.plain.PlainStoreMetaRead.blocks.Goals as goal

pub returns-clause-bytes : goal.returns-clause-bytes
returns-clause-bytes c =
    let out : List ℕ = c.copy_from_slice.new.self in
    let image : List ℕ = c.args.self.now.image.items in
    let at = 4096 * c.args.first.0 in
    let size : at + length c.args.out.now - at ≡ 512 * (length out / 512) = omega (arith, c.requires.whole, c.copy_from_slice.ensures.len) in
    let place : at ≡ 512 * (8 * c.args.first.0) = omega arith in
    row_read image c.args.first.0 (length out / 512) out (omega (arith, c.requires.whole, c.copy_from_slice.ensures.len)) refl (
    c.copy_from_slice.ensures.after
    ∙ ap (λ (l : List ℕ). take (at + length c.args.out.now - at) (drop at l)) c.deref.ensures.value
    ∙ ap (λ (n : ℕ). take n (drop at image)) size
    ∙ ap (λ (n : ℕ). take (512 * (length out / 512)) (drop n image)) place)
