-- The content of a plain store after a change that it takes stands for what the content with the change laid over it does.
use Rattle.std.proofs.Common.{◌≡◌, ◌<◌, ℕ, true, false, List, map, take, refl, sym, ap, ◌∙◌, subst}
use Rattle.std.specs.Prelude.{◌==◌, not}
use Rattle.std.proofs.lemmas.List.Elements.{All-map}
use Rattle.lufs_base.specs.Layout.{IsGeometry, blocks_of}
use Rattle.lufs_base.specs.declared.geometry.Geometry.{Geometry}
use Rattle.volume_model.specs.declared.hand.Hand.{Hand}
use Rattle.volume_model.specs.Format.{Image, Blocks, block, is_body}
use Rattle.volume_model.specs.Sound.{Reading, reading_of, Claim, claims_of, is_claimed, read_length, AgreeWhereRead, Tree, StandsFor}
use Rattle.volume_laws.proofs.ClaimFacts.{claims_are_body}
use Rattle.volume_laws.proofs.Counting.{any_of_map, of_one_among}
use Rattle.volume_laws.proofs.SameTree.{same_tree}
use Rattle.volume_laws.proofs.SoundParts.{in_parts}
use Rattle.volume_laws.proofs.UnclaimedBlocks.{nothing_read}
use Rattle.change_laws.proofs.ClaimPlaces.{stored_laid}
use Rattle.meta_store.specs.declared.change.Change.{Change}
use Rattle.meta_store.specs.Store.{no_disk, plain_told}
use Rattle.meta_store.specs.Changing.{Changing, IsAsBefore, all_told}
use Rattle.meta_store.specs.Changes.{frees, Applies}
use Rattle.meta_store.specs.Conditions.{MayApply}
use Rattle.meta_draft.specs.Drafted.{drafted_blocks}
use Rattle.block_alloc.proofs.MarkedStands.{agree_inside}

-- a plain store that tells the same as before is as before
pub told_same : (g h : Geometry) (image now : Image) (before after : Changing) → IsAsBefore (all_told (plain_told g image) before) (all_told (plain_told h now) after)
    → all_told (plain_told h now) after ≡ all_told (plain_told g image) before
told_same g h image now before after same = λ t. record {
  read = record { geometry = same.read.geometry t; content = same.read.content t; disk = no_disk };
  changing = record {
    is_released = λ b. same.changing.released b t;
    held = same.changing.held t;
    is_taken = λ b. same.changing.taken b t;
    is_freed = λ b. same.changing.freed b t;
    room = same.changing.room t;
  };
}

-- a claimed block is a body block
claimed_body : (g : Geometry) (blocks : Blocks) (tree : Tree) (hands : List Hand) (b : ℕ) → StandsFor g blocks tree hands → is_claimed (reading_of g blocks) b ≡ true → is_body g b ≡ true
claimed_body g blocks tree hands b stands claimed =
    let r = reading_of g blocks in
    of_one_among b (map (λ (claim : Claim). claim.block) (claims_of r)) (λ c. is_body g c ≡ true)
    (All-map (λ c. is_body g c ≡ true) (λ claim. claim.block) (claims_of r) (claims_are_body g blocks hands stands.sound))
    (any_of_map (λ m. m == b) (λ claim. claim.block) (claims_of r) ∙ claimed)

module _ (g h : Geometry) (image now : Image) (before after : Changing) (change : Change) (old tree : Tree) (held hands : List Hand) (ok : IsGeometry g) (was : StandsFor g (block image) old held)
    (stands : StandsFor g (drafted_blocks change image) tree hands) (may : MayApply change (all_told (plain_told g image) before))
    (applied : Applies change (all_told (plain_told g image) before) (all_told (plain_told h now) after)) where
  abbrev drafted : Blocks
  drafted = drafted_blocks change image

  abbrev r : Reading
  r = reading_of g drafted

  -- the blocks that are freed as the draft has them, and all others as they are now
  mid : Blocks
  mid b = elim (frees change b) [ true ↦ drafted b | false ↦ block now b ]

  inside : (b : ℕ) → b < blocks_of g → mid b ≡ drafted b
  unfolding mid
  inside b below =
      (elim (frees change b) as (λ f. frees change b ≡ f → (let m : List ℕ = elim f [ true ↦ drafted b | false ↦ block now b ] in m) ≡ drafted b) [
        | true ↦ λ is. refl
        | false ↦ λ is. applied.content.blocks b below (ap not is)
      ]) refl

  here : (b : ℕ) → take (read_length g r b) (block now b) ≡ take (read_length g r b) (mid b)
  unfolding mid
  here b =
      (elim (frees change b) as (λ f. frees change b ≡ f → take (read_length g r b) (block now b) ≡ take (read_length g r b) (let m : List ℕ = elim f [ true ↦ drafted b | false ↦ block now b ] in m)) [
        | true ↦ λ is.
            let given_up = may.content.marked b is in
            let none : read_length g r b ≡ 0 = nothing_read g r b (claimed_body g (block image) old held b was given_up.claimed) given_up.unclaimed in
            ap (λ (n : ℕ). take n (block now b)) none ∙ sym (ap (λ (n : ℕ). take n (drafted b)) none)
        | false ↦ λ is. refl
      ]) refl

  agree : AgreeWhereRead g drafted (block now)
  agree b =
      let stored = ((in_parts g drafted hands).0 stands.sound).0 in
      here b ∙ agree_inside g drafted mid (stored_laid g r hands stored) inside b

  pub stands_applied : StandsFor h (block now) tree hands
  stands_applied = subst (λ (k : Geometry). StandsFor k (block now) tree hands) (sym applied.geometry) (same_tree g drafted (block now) tree hands ok agree stands)
