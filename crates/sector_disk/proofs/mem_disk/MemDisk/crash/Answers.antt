use Rattle.std.proofs.Common.{rules, ◌≡◌, subst}
use Rattle.std.proofs.lemmas.Result.{IfOk-weaker}
use Rattle.volume_model.specs.Crash.{IsOfSectors}
use Rattle.sector_disk.specs.MemDisk.{State, record_of}
use Rattle.sector_disk.proofs.CrashSteps.{crash_is_outcome}
use Rattle.sector_disk.proofs.mem_disk.MemDisk.crash.Goals as goal
use Rattle.sector_disk.proofs.mem_disk.MemDisk.crash.Goals.{in-Some, in-None}

pub returns-clause-outcome : goal.returns-clause-outcome
returns-clause-outcome c =
    let s = c.args.self.now in
    let is : IsOfSectors (record_of s) = subst (λ (v : State). IsOfSectors (record_of v)) c.self.view_is c.self.invariant.record_is in
    let opening : c.match-self.opening.now ≡ s.opening = elim c.match-self.branch [ in-Some w ↦ search rules | in-None w ↦ search rules ] in
    let calls : c.deref.result.now ≡ s.calls = search rules in
    IfOk-weaker c.crash_image.result _ _ (λ image h. crash_is_outcome (record_of s) c.args.n c.args.choice.now image.items is.calls (rw (← opening, ← calls) h)) c.crash_image.ensures.ok
