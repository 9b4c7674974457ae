use Rattle.sector_disk.proofs.mem_disk.MemDiskDisk.read.Goals as goal

-- the call is the one that was looked up
pub returns-then-is_named-clause-only_named : goal.returns-then-is_named-clause-only_named
returns-then-is_named-clause-only_named c =
    rw (← c.self.view_is, ← c.deref.ensures.value, ← c.saturating_add-self-inside.ensures) (c.is_named.ensures.0 c.if-is_named.true)
