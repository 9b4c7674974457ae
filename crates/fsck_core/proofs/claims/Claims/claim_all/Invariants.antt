use Rattle.std.proofs.Common.{◌≡◌, ◌<◌, ◌≤◌, ℕ, ◌+◌, List, ◌++◌, All, length, take}
use Rattle.fsck_core.specs.Claimed.{HasClaimed, blocks_claimed}
use Rattle.fsck_core.proofs.claims.Claims.claim_all.Given as goal

abbrev pub invariant-loop-b : goal.invariant-loop-b
invariant-loop-b l = record {
  room : length l.self.bits.items ≡ length l.fn.self.bits.items;
  count : l.self.count ≤ l.fn.self.count + l.b-index + 1;
  claimed : (total : ℕ) (blocks : List ℕ) → All (λ b. b < total) (blocks_claimed l.d l.numbers) → HasClaimed total blocks l.fn.self
      → HasClaimed total (blocks ++ blocks_claimed l.d (take l.b-index l.numbers)) l.self;
}
