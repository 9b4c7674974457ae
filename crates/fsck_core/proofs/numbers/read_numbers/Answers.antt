use Rattle.std.proofs.Common.{◌≡◌, ℕ, ◌+◌, ◌-◌, ◌++◌, List, length, drop, take, ap, ◌∙◌, arith, length-append, length-drop, length-take-le}
use Rattle.fsck_core.proofs.BlocksTold.{numbers_told}
use Rattle.fsck_core.proofs.numbers.read_numbers.Goals as goal

pub returns-clause-numbers : goal.returns-clause-numbers
returns-clause-numbers g c =
    let k = c.pointers_held-held.result in
    let first = c.copy_from_slice.new.self in
    let old = c.args.numbers.now in
    let most = c.pointers_held-held.ensures.most in
    let direct : length c.args.d.now.direct ≡ 12 = omega (arith, c.type_inv.d) in
    let copied = c.copy_from_slice.ensures.after in
    let front : length first ≡ length c.args.d.now.direct = ap (λ (xs : List ℕ). length xs) copied in
    let mid = first ++ drop 12 old in
    let room : length (drop 12 mid) ≡ 1024 =
    omega (arith, direct, front, length-append first (drop 12 old), length-drop 12 old, length-drop 12 mid, c.requires.numbers) in
    let held : length (take (12 + k - 12) (drop 12 mid)) ≡ k = length-take-le (12 + k - 12) (drop 12 mid) (omega (arith, room, most)) ∙ (omega arith) in
    numbers_told (g.S.MetaRead.store c.args.store.now).content c.args.d.now old first c.read_pointers.new.out c.block.new.out k _ _
    direct copied c.requires.numbers most c.requires.some c.in_ok-block.ensures.bytes c.pointers_held-held.ensures.rest held c.read_pointers.ensures
