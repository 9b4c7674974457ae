-- A block of a hand that a store fills is written in place.
use Rattle.std.proofs.Common.{◌≡◌, ◌⊎◌, inl, inr, ℕ, ◌*◌, ◌/◌, true, false, List, length, refl, ap, subst, ◌∙◌, arith}
use Rattle.lufs_base.specs.declared.geometry.Geometry.{Geometry}
use Rattle.volume_model.specs.declared.hand.Hand.{Hand}
use Rattle.volume_model.specs.Format.{block, is_body}
use Rattle.volume_model.specs.Crash.{Record, present_of}
use Rattle.volume_model.specs.Sound.{reading_of, is_claimed, block_bit, IsStored, Sound}
use Rattle.volume_laws.proofs.SoundParts.{in_parts}
use Rattle.journal_model.specs.Journals.{Owner, Live, Released, Freed, Journal}
use Rattle.journal_model.specs.Versions.{Version, Running}
use Rattle.journal_model.specs.BlockRoles.{Roles, is_metadata, is_claimed as has_claim}
use Rattle.journal_model.specs.Batches.{is_held, is_freed_owner}
use Rattle.journal_model.specs.Safety.{IsSafe}
use Rattle.journal_model.specs.Steps.{IsRawWrite}
use Rattle.journal_laws.proofs.OwnerFacts.{released_owner}
use Rattle.journal_laws.proofs.RawPlaces.{raw_place}
use Rattle.journal_laws.proofs.ReleasedBlocks.{may_be_given_out}
use Rattle.journal_laws.proofs.RoleFacts.{unclaimed_no_metadata}
use Rattle.meta_store.specs.Changing.{AllTold}
use Rattle.meta_store.specs.Conditions.{MayFill}
use Rattle.store_laws.specs.Tied.{IsRead, TellsRunning, running_image}
use Rattle.store_laws.proofs.AmendedRecords.{told_if}
use Rattle.store_laws.proofs.MovedRoles.{live_is, claim_of_role}

module _ (g : Geometry) (roles : Roles) (r : Record) (j : Journal) (hands : List Hand) (told : AllTold) (b : ℕ) (safe : IsSafe g roles r j) (read : IsRead g roles (present_of r) j)
    (tells : TellsRunning g (present_of r) j told) (sound : Sound g (block (running_image g r j)) hands) (may : MayFill b told)
    (given : (block_bit g (reading_of g (block (running_image g r j))) b ≡ true) ⊎ (told.changing.is_released b ≡ true)) where
  stored : IsStored g (reading_of g (block (running_image g r j))) hands
  stored = ((in_parts g (block (running_image g r j)) hands).0 sound).0

  body : is_body g b ≡ true
  body = subst (λ (h : Geometry). is_body h b ≡ true) tells.geometry may.body

  unclaimed : is_claimed (reading_of g (block (running_image g r j))) b ≡ false
  unclaimed = told_if (λ h i. is_claimed (reading_of h (block i)) b ≡ false) g told.read.geometry (running_image g r j) told.read.content tells.geometry tells.content may.unclaimed

  pub in_hand : has_claim (roles Running b) ≡ false
  in_hand = ap has_claim (read.claimed b) ∙ claim_of_role g (block (running_image g r j)) hands stored b body ∙ unclaimed

  not_freed : (owner : Owner) → (owner ≡ Live) ⊎ (((tid : ℕ) → owner ≡ Freed tid → ⊥)) → is_freed_owner owner ≡ false
  not_freed Live why = refl
  not_freed Released why = refl
  not_freed (Freed tid) (inl live) = ap is_freed_owner live
  not_freed (Freed tid) (inr none) = absurd (none tid refl)

  pub unfreed : is_freed_owner (j.owners b) ≡ false
  unfreed = elim given [
    | inl set ↦ not_freed (j.owners b) (inl (live_is (j.owners b) (read.owners b body ∙ set)))
    | inr free ↦ not_freed (j.owners b) (inr (λ tid same. released_owner j b (Freed tid) refl (tells.released b free) same))
  ]

  place : ((v : Version) → is_metadata (roles v b) ≡ false) × (is_held j b ≡ false)
  place = elim given [
    | inl set ↦ raw_place g roles r j b safe (inr (in_hand, live_is (j.owners b) (read.owners b body ∙ set)))
    | inr free ↦
        let gone = may_be_given_out g roles r j safe b (tells.released b free) in
        (λ v. unclaimed_no_metadata (roles v b) (gone.0.unclaimed v), gone.1)
  ]

  pub filled : (bytes : List ℕ) → length bytes ≡ 4096 → IsRawWrite g roles j (8 * b) bytes
  filled bytes long =
      let at : b ≡ (8 * b) / 8 = omega arith in
      record {
        body = subst (λ (c : ℕ). is_body g c ≡ true) at body;
        whole = omega (arith, long);
        inside = omega (arith, long);
        place = subst (λ (c : ℕ). (v : Version) → is_metadata (roles v c) ≡ false) at place.0;
        free = subst (λ (c : ℕ). is_held j c ≡ false) at place.1;
      }
