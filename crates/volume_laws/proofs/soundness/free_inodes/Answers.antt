use Rattle.std.proofs.Common.{◌≡◌, ◌+◌, length, subst}
use Rattle.volume_model.specs.Sound.{reading_of, held_inodes, clear_inodes_of, Tree, free_inodes_of}
use Rattle.volume_laws.proofs.FreeInodes.{bit_and_node, clear_and_used}
use Rattle.volume_laws.proofs.soundness.free_inodes.Goals as goal

pub returns-clause-bit : goal.returns-clause-bit
returns-clause-bit c g blocks hands i sound low within = bit_and_node g blocks hands sound i low within

pub returns-clause-clear : goal.returns-clause-clear
returns-clause-clear c g blocks tree hands ok stands =
    subst (λ (t : Tree). clear_inodes_of g (reading_of g blocks) + length (held_inodes hands) ≡ free_inodes_of g t) stands.stands
    (clear_and_used g blocks hands stands.sound ok)
