use Rattle.std.proofs.Common.{rules, arith, ◌≡◌, ◌≤◌, ◌+◌, ◌*◌, ◌++◌, ◌∷◌, [], length, List, ℕ, subst, sym, ap}
use Rattle.sector_disk.proofs.mem_disk.MemDiskDisk.write.Goals as goal
use Rattle.sector_disk.specs.Disk.{GoesWith}
use Rattle.sector_disk.specs.MemDisk.{State, told_record, opening_of}
use Rattle.sector_disk.proofs.Told.{told_failed, told_write, told_as}
use Rattle.lufs_base.specs.Causes.{counted}
use Rattle.volume_model.specs.declared.device_call.DeviceCall.TheVariants.{Write}

pub invariant_of-self-then-is_named : goal.invariant_of-self-then-is_named
invariant_of-self-then-is_named c =
    let s = c.self.inside in
    let bytes = c.args.bytes.now in
    let calls : c.list.new.calls.items ≡ s.calls.items ++ Write c.args.first bytes ∷ [] = search rules in
    let fits : 512 * c.args.first + length bytes ≤ length s.image.items = omega (arith, ap (λ (v : State). length v.image) c.self.view_is) in
    let failed : c.saturating_add-self-inside-then-is_named.result ≡ counted s.faults = search rules in
    subst (λ (n : ℕ). GoesWith (told_record c.list.new.opening s.image.items c.list.new.calls.items) n s.image.items) (sym failed)
    (told_as _ _ _ _ (counted s.faults) s.image.items c.list.ensures.opening calls
    (told_failed (told_record s.opening s.image.items s.calls.items) s.faults c.args.first bytes s.image.items c.requires.whole.1 fits c.self.invariant))

pub invariant_of-self-2 : goal.invariant_of-self-2
invariant_of-self-2 c =
    let s = c.self.inside in
    let bytes = c.args.bytes.now in
    let calls : c.list.new.calls.items ≡ s.calls.items ++ Write c.args.first bytes ∷ [] = search rules in
    let fits : 512 * c.args.first + length bytes ≤ length s.image.items = omega (arith, ap (λ (v : State). length v.image) c.self.view_is) in
    let kept : opening_of c.list.new.opening c.put.new.image.items ≡ opening_of s.opening s.image.items = search (rules, c.list.ensures.kept) in
    told_as _ _ _ _ s.faults c.put.new.image.items kept calls
    (subst (λ (i : List ℕ). GoesWith (record { opening = opening_of s.opening s.image.items; calls = s.calls.items ++ Write c.args.first bytes ∷ [] }) s.faults i) (sym c.put.ensures)
    (told_write (told_record s.opening s.image.items s.calls.items) s.faults c.args.first bytes s.image.items c.requires.whole.1 fits c.self.invariant))
