-- The record of a group by which a part of a hand is put back.
use Rattle.std.specs.Prelude.{◌≡◌, ◌<◌, ℕ, false, true, All, List, ◌∷◌, Some}
use Rattle.lufs_base.specs.declared.geometry.Geometry.{Geometry}
use Rattle.lufs_base.specs.declared.numbers.BlockNo.{BlockNo}
use Rattle.volume_model.specs.declared.hand.Hand.{Hand}
use Rattle.volume_model.specs.Format.{GroupRecord, IsGroup, is_body}
use Rattle.volume_model.specs.Sound.{Reading, record_at, is_claimed, is_among, has_right_counts, IsStored}
use Rattle.volume_laws.specs.Changes.{with_group}
use Rattle.change_laws.specs.Marks.{IsOfGroup, HasHandPut}
use Rattle.meta_store.specs.Changes.{numbers_in}
use Rattle.meta_store.specs.Conditions.{HasBitsOf}

-- In the record of group n the bits of the part are cleared, and these blocks, which are its blocks, are given back by it.
-- Where the part is held, nothing claims them, and these are all bits of blocks that change.
pub record Returns (g : Geometry) (part : Hand) (n : ℕ) (old new : GroupRecord) (returned : List BlockNo) : Type 0 where
  pub within : n < g.groups
  pub group : IsGroup g n new
  pub counts : has_right_counts g new ≡ true
  pub of_its_group : IsOfGroup g n part
  pub put : HasHandPut g n false part old new
  pub numbers : numbers_in returned ≡ part.blocks
  pub body : All (λ b. is_body g b.0 ≡ true) returned
  pub unclaimed : (r : Reading) (hands : List Hand) → IsStored g r (part ∷ hands) → All (λ b. is_claimed r b.0 ≡ false) returned
  pub bits : (r : Reading) (hands : List Hand) → IsStored g r (part ∷ hands) → record_at r n ≡ Some old
      → HasBitsOf g (λ b. false) (λ b. is_among b part.blocks) r (with_group r n (Some new))
