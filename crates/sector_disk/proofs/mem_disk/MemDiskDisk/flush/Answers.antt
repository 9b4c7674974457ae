use Rattle.std.proofs.Common.{rules, ◌≡◌, ◌++◌, ◌∷◌, []}
use Rattle.sector_disk.proofs.mem_disk.MemDiskDisk.flush.Goals as goal
use Rattle.sector_disk.specs.MemDisk.{told_record}
use Rattle.sector_disk.proofs.Told.{told_flush, told_as}
use Rattle.volume_model.specs.declared.device_call.DeviceCall.TheVariants.{Flush}

pub invariant_of-self-else-is_err : goal.invariant_of-self-else-is_err
invariant_of-self-else-is_err c =
    let s = c.self.inside in
    let calls : c.list.new.calls.items ≡ s.calls.items ++ Flush ∷ [] = search rules in
    told_as _ _ _ _ s.faults s.image.items c.list.ensures.opening calls (told_flush (told_record s.opening s.image.items s.calls.items) s.faults s.image.items c.self.invariant)
