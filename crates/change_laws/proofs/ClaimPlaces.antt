-- Where claims are, in a reading that is stored.
use Rattle.std.proofs.Common.{◌≡◌, ◌≢◌, true, false, List, sym, ap, ◌∙◌, arith}
use Rattle.std.specs.Prelude.{Contains, ◌==◌}
use Rattle.std.proofs.lemmas.Bool.{ltb-true, le-ltb}
use Rattle.lufs_base.specs.declared.geometry.Geometry.{Geometry}
use Rattle.volume_model.specs.declared.hand.Hand.{Hand}
use Rattle.volume_model.specs.Format.{is_body}
use Rattle.volume_model.specs.Sound.{Reading, Claim, claims_of, claims_on, IsLaid, held_blocks, is_among, IsStored}
use Rattle.volume_laws.proofs.ClaimFacts.{claims_its_block}
use Rattle.volume_laws.proofs.LaidClaims.{one_claim, body_of_claim}
use Rattle.change_laws.specs.Hands.{times}
use Rattle.change_laws.proofs.Counts.{any_counted, among_counted}
use Rattle.change_laws.proofs.Places.{claims_bodies, claimed_once, places_of_stored}

module _ (g : Geometry) (r : Reading) (hands : List Hand) (stored : IsStored g r hands) where
  pub stored_laid : IsLaid g r
  stored_laid = record { bodies = claims_bodies g r hands stored; once = λ b body. claimed_once g r hands stored b }

  pub apart_by : {X : Type 0} (key : Claim → X) (claim other : Claim) → Contains (claims_of r) claim → Contains (claims_of r) other
      → key claim ≢ key other → claim.block ≢ other.block
  apart_by key claim other here there away = λ same. away (ap key (one_claim g r stored_laid other claim there here same))

  pub body_claimed : (claim : Claim) → Contains (claims_of r) claim → is_body g claim.block ≡ true
  body_claimed claim here = body_of_claim g r stored_laid claim here

  pub claimed_unheld : (claim : Claim) → Contains (claims_of r) claim → is_among claim.block (held_blocks hands) ≡ false
  claimed_unheld claim here =
      let b = claim.block in
      let some = ltb-true 0 (claims_on r b) (sym (any_counted (λ c. c.block == b) (claims_of r)) ∙ claims_its_block r claim here) in
      let once = (places_of_stored g r hands stored).block_once b in
      among_counted b (held_blocks hands) ∙ le-ltb 0 (times b (held_blocks hands)) (omega (arith, some, once))
