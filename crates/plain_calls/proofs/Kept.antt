-- What hold of a hand keeps: with a hand of nothing, and over calls that change nothing.
use Rattle.std.proofs.Common.{[], ◌∷◌, refl}
use Rattle.lufs_base.specs.declared.geometry.Geometry.{Geometry}
use Rattle.volume_model.specs.Format.{Blocks}
use Rattle.volume_model.specs.Sound.{Tree, StandsFor}
use Rattle.change_laws.proofs.SameHands.{sound_same}
use Rattle.block_alloc.specs.Marking.{no_hand}

pub without_empty : (g : Geometry) (blocks : Blocks) (tree : Tree) → StandsFor g blocks tree (no_hand ∷ []) → StandsFor g blocks tree []
without_empty g blocks tree stands = record { sound = sound_same (no_hand ∷ []) [] (record { blocks = λ n. refl; inodes = λ n. refl }) g blocks stands.sound; stands = stands.stands }

pub with_empty : (g : Geometry) (blocks : Blocks) (tree : Tree) → StandsFor g blocks tree [] → StandsFor g blocks tree (no_hand ∷ [])
with_empty g blocks tree stands = record { sound = sound_same [] (no_hand ∷ []) (record { blocks = λ n. refl; inodes = λ n. refl }) g blocks stands.sound; stands = stands.stands }
