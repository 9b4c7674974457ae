-- The roles of a block from version to version.
use Rattle.std.proofs.Common.{◌≡◌, ◌⊎◌, inl, inr, ℕ, true, false, refl, sym, ap, ◌∙◌}
use Rattle.std.proofs.lemmas.Bool.{cases_Bool, false_from_ne_true, true_from_ne_false, false≢true}
use Rattle.lufs_base.specs.declared.geometry.Geometry.{Geometry}
use Rattle.journal_model.specs.Journals.{Journal}
use Rattle.journal_model.specs.Versions.{Version, Published, Sealed, Running}
use Rattle.journal_model.specs.BlockRoles.{Role, Metadata, Roles, is_metadata, is_claimed}
use Rattle.journal_model.specs.Kept.{IsNextRole, HaveRoles}
use Rattle.journal_laws.proofs.RollKept.{metadata_is_claimed}

pub unclaimed_no_metadata : (role : Role) → is_claimed role ≡ false → is_metadata role ≡ false
unclaimed_no_metadata role none = false_from_ne_true (is_metadata role) (λ is. false≢true (sym none ∙ metadata_is_claimed role is))

pub same_is_next : (role : Role) → IsNextRole role role
same_is_next role = record { same = λ before after. refl }

module _ (g : Geometry) (roles : Roles) (j : Journal) (are : HaveRoles g roles j) (b : ℕ) where
  -- what published and running claim, sealed claims
  pub sealed_claims : is_claimed (roles Published b) ≡ true → is_claimed (roles Running b) ≡ true → is_claimed (roles Sealed b) ≡ true
  sealed_claims first last = true_from_ne_false (is_claimed (roles Sealed b)) (λ none. false≢true (sym (are.freed b first none) ∙ last))

  -- and all as the same
  pub role_stays : is_claimed (roles Published b) ≡ true → is_claimed (roles Running b) ≡ true → roles Running b ≡ roles Published b
  role_stays first last =
      let middle = sealed_claims first last in
      (are.running b).same middle last ∙ (are.sealed b).same first middle

  -- the published version has metadata of a later one as such, or not at all
  pub published_role : (v : Version) (n : ℕ) → roles v b ≡ Metadata n → (roles Published b ≡ Metadata n) ⊎ (is_metadata (roles Published b) ≡ false)
  published_role Published n role = inl role
  published_role Sealed n role = elim (cases_Bool (is_metadata (roles Published b))) [
    | inl some ↦ inl (sym ((are.sealed b).same (metadata_is_claimed (roles Published b) some) (ap is_claimed role)) ∙ role)
    | inr none ↦ inr none
  ]
  published_role Running n role = elim (cases_Bool (is_metadata (roles Published b))) [
    | inl some ↦ inl (sym (role_stays (metadata_is_claimed (roles Published b) some) (ap is_claimed role)) ∙ role)
    | inr none ↦ inr none
  ]
