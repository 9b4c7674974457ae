-- A volume that is opened with the owners that its bits give is one that the next change finds as it should.
use Rattle.std.proofs.Common.{◌≡◌, ℕ, cond, Bool, true, false, not, ◌&&◌, ◌||◌, List, refl, sym, ap, ◌∙◌}
use Rattle.std.specs.Prelude.{nat_lt}
use Rattle.std.proofs.lemmas.Bool.{false≢true, true≢false, and_parts, ltb-true}
use Rattle.std.proofs.lemmas.List.Elements.{All-nil}
use Rattle.lufs_base.specs.Layout.{IsGeometry, blocks_of, region_of}
use Rattle.lufs_base.specs.declared.geometry.Geometry.{Geometry}
use Rattle.volume_model.specs.declared.hand.Hand.{Hand}
use Rattle.volume_model.specs.declared.log.Header.{Header}
use Rattle.volume_model.specs.Format.{Image, Blocks, block, is_body, is_body_region}
use Rattle.volume_model.specs.Crash.{Record, present_of}
use Rattle.volume_model.specs.Sound.{Reading, reading_of, is_claimed, is_among, held_blocks, block_bit, differ, IsStored, Sound}
use Rattle.volume_laws.proofs.SoundParts.{in_parts}
use Rattle.journal_model.specs.Journals.{Owner, Live, Released, new_journal}
use Rattle.journal_model.specs.Versions.{Running}
use Rattle.journal_model.specs.BlockRoles.{is_claimed as has_claim}
use Rattle.journal_model.specs.Batches.{is_freed_owner}
use Rattle.journal_model.specs.Safety.{MayBegin}
use Rattle.history_laws.specs.VolumeRoles.{role_of}
use Rattle.history_laws.proofs.OpenedVolumes.{content_of_new}
use Rattle.history_laws.proofs.VolumeRolesLaws.{volume_begins}
use Rattle.store_laws.specs.Tied.{is_live, owners_by_bits, IsRead, running_image}
use Rattle.store_laws.proofs.MovedRoles.{claim_of_role}

owner_of : Bool → Owner
owner_of released = cond released Released Live

same_bit : (p q : Bool) → differ p q ≡ false → p ≡ q
same_bit true true same = refl
same_bit true false same = absurd (true≢false same)
same_bit false true same = absurd (true≢false same)
same_bit false false same = refl

live_if : (body bit : Bool) → body ≡ true → is_live (cond (body && not bit) Released Live) ≡ bit
live_if true true is = refl
live_if true false is = refl
live_if false bit is = absurd (false≢true is)

owned_if : (body bit : Bool) → (body ≡ true → bit ≡ true) → ◌≡◌ {A = Owner} (cond (body && not bit) Released Live) Live
owned_if true bit set = ap (λ (t : Bool). cond (not t) Released Live) (set refl)
owned_if false bit set = refl

none_freed : (released : Bool) → is_freed_owner (cond released Released Live) ≡ false
none_freed true = refl
none_freed false = refl

module _ (g : Geometry) (blocks : Blocks) (hands : List Hand) (ok : IsGeometry g) (sound : Sound g blocks hands) where
  abbrev r : Reading
  r = reading_of g blocks

  stored : IsStored g r hands
  stored = ((in_parts g blocks hands).0 sound).0

  bit_of : (b : ℕ) → is_body g b ≡ true → block_bit g r b ≡ (is_claimed r b || is_among b (held_blocks hands))
  bit_of b body =
      let within = ltb-true b (blocks_of g) (and_parts (nat_lt b (blocks_of g)) (is_body_region (region_of g b)) body).0 in
      same_bit (block_bit g r b) (is_claimed r b || is_among b (held_blocks hands))
      (sym (ap (λ (t : Bool). t && differ (block_bit g r b) (is_claimed r b || is_among b (held_blocks hands))) body) ∙ stored.block_bits b within)

  claimed_set : (b : ℕ) → has_claim (role_of g r b) ≡ true → is_body g b ≡ true → block_bit g r b ≡ true
  claimed_set b claimed body =
      let is : is_claimed r b ≡ true = sym (claim_of_role g blocks hands stored b body) ∙ claimed in
      bit_of b body ∙ ap (λ (t : Bool). t || is_among b (held_blocks hands)) is

  pub begins_by_bits : MayBegin g (role_of g r) (owners_by_bits g r)
  begins_by_bits =
      volume_begins g blocks hands ok sound (owners_by_bits g r) (λ b claimed. owned_if (is_body g b) (block_bit g r b) (claimed_set b claimed)) (λ b free. none_freed (is_body g b && not (block_bit g r b)))

pub read_by_bits : (g : Geometry) (h : Header) (r : Record)
    → IsRead g (λ v. role_of g (reading_of g (block (present_of r)))) (present_of r) (new_journal h (owners_by_bits g (reading_of g (block (present_of r)))))
read_by_bits g h r =
    let owners = owners_by_bits g (reading_of g (block (present_of r))) in
    let same : running_image g r (new_journal h owners) ≡ present_of r = content_of_new g h owners (present_of r) Running in
    record {
      claimed = λ b. ap (λ (image : Image). role_of g (reading_of g (block image)) b) (sym same);
      owners = λ b body.
          live_if (is_body g b) (block_bit g (reading_of g (block (present_of r))) b) body ∙ ap (λ (image : Image). block_bit g (reading_of g (block image)) b) (sym same);
      suited = All-nil _;
    }
