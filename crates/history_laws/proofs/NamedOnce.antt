-- In a sound volume a block has one place in one file.
use Rattle.std.proofs.Common.{◌≡◌, ℕ, List, Some, sym, ap, ◌∙◌}
use Rattle.std.specs.Prelude.{Contains}
use Rattle.lufs_base.specs.declared.geometry.Geometry.{Geometry}
use Rattle.volume_model.specs.declared.hand.Hand.{Hand}
use Rattle.volume_model.specs.Format.{Blocks}
use Rattle.volume_model.specs.Sound.{Reading, reading_of, Claim, Part, AtIndex, AtPointer, claims_of, index_claim, IsLaid, Sound}
use Rattle.volume_laws.proofs.ClaimFacts.{index_claimed}
use Rattle.volume_laws.proofs.LaidClaims.{one_claim, sound_is_laid}
use Rattle.history_laws.specs.Named.{named_block, AgreeOnPlaces}
use Rattle.history_laws.proofs.NamedBlocks.{named_in_record}

abbrev index_of : Part → ℕ
index_of (AtIndex index) = index
index_of (AtPointer name) = 0

-- the claim of a block that is named
pub record ClaimsNamed (r : Reading) (ino index b : ℕ) : Type 0 where
  pub claim : Claim
  pub among : Contains (claims_of r) claim
  pub inode : claim.inode ≡ ino
  pub part : claim.part ≡ AtIndex index
  pub block : claim.block ≡ b

pub claims_named : (r : Reading) (ino index b : ℕ) → named_block r ino index ≡ Some b → ClaimsNamed r ino index b
claims_named r ino index b names =
    let at = named_in_record r ino index b names in
    record { claim = index_claim ino at.0 index; among = index_claimed r ino at.0 index at.1 at.3; inode = λ t. ino; part = λ t. AtIndex index; block = at.2 }

pub agree_once : (g : Geometry) (r : Reading) → IsLaid g r → AgreeOnPlaces r r
agree_once g r laid ino index other at b one two =
    let first = claims_named r ino index b one in
    let second = claims_named r other at b two in
    let same : second.claim ≡ first.claim = one_claim g r laid first.claim second.claim first.among second.among (second.block ∙ sym first.block) in
    (sym first.inode ∙ sym (ap (λ (c : Claim). c.inode) same) ∙ second.inode, ap index_of (sym first.part ∙ sym (ap (λ (c : Claim). c.part) same) ∙ second.part))

pub named_once : (g : Geometry) (blocks : Blocks) (hands : List Hand) → Sound g blocks hands → AgreeOnPlaces (reading_of g blocks) (reading_of g blocks)
named_once g blocks hands sound = agree_once g (reading_of g blocks) (sound_is_laid g blocks hands sound)
