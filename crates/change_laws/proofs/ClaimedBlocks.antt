-- The blocks that an inode claims: its numbers that aren't 0, and those of its pointer blocks.
use Rattle.std.proofs.Common.{◌≡◌, ℕ, ◌+◌, Bool, true, false, not, cond, List, [], ◌∷◌, ◌++◌, length, map, replicate, zero, suc, Some, refl, sym, ap, ◌∙◌}
use Rattle.std.specs.Prelude.{◌==◌}
use Rattle.std.specs.List.{filter, list_all}
use Rattle.std.proofs.lemmas.List.{map-append, length-map}
use Rattle.std.proofs.lemmas.List.Folds.{list_all-map}
use Rattle.lufs_base.specs.declared.geometry.Geometry.{Geometry}
use Rattle.volume_model.specs.Format.{is_body}
use Rattle.volume_model.specs.Sound.{NamedPointer, UsedInode, Claim, index_claims, pointer_claim, claims_in}
use Rattle.change_laws.specs.Exchange.{claimed_blocks}

-- a number that claims a block
abbrev pub claims_one : ℕ → Bool
claims_one b = not (b == 0)

blocks_of_filter : (claims : List Claim) → map (λ c. c.block) (filter (λ c. claims_one c.block) claims) ≡ filter claims_one (map (λ c. c.block) claims)
blocks_of_filter [] = refl
blocks_of_filter (claim ∷ claims) =
    let rest = blocks_of_filter claims in
    let kept : List Claim = filter (λ c. claims_one c.block) claims in
    let step : (t : Bool) → map (λ (c : Claim). c.block) (cond t (claim ∷ kept) kept) ≡ cond t (claim.block ∷ filter claims_one (map (λ c. c.block) claims)) (filter claims_one (map (λ c. c.block) claims)) = λ t.
    elim t as (λ t. map (λ (c : Claim). c.block) (cond t (claim ∷ kept) kept) ≡ cond t (claim.block ∷ filter claims_one (map (λ c. c.block) claims)) (filter claims_one (map (λ c. c.block) claims))) [
      | true ↦ ap (λ (l : List ℕ). claim.block ∷ l) rest
      | false ↦ rest
    ] in
    step (claims_one claim.block)

blocks_of_pointers : (i : ℕ) (pointers : List NamedPointer) → map (λ (c : Claim). c.block) (map (pointer_claim i) pointers) ≡ map (λ p. p.block) pointers
blocks_of_pointers i [] = refl
blocks_of_pointers i (p ∷ pointers) = ap (λ (l : List ℕ). p.block ∷ l) (blocks_of_pointers i pointers)

blocks_of_indexes : (i index : ℕ) (numbers : List ℕ) → map (λ (c : Claim). c.block) (index_claims i index numbers) ≡ numbers
blocks_of_indexes i index [] = refl
blocks_of_indexes i index (number ∷ numbers) = ap (λ (l : List ℕ). number ∷ l) (blocks_of_indexes i (index + 1) numbers)

pub blocks_claimed : (i : ℕ) (u : UsedInode) → claimed_blocks i (Some u) ≡ filter claims_one (map (λ p. p.block) u.pointers ++ u.numbers)
blocks_claimed i u =
    blocks_of_filter (map (pointer_claim i) u.pointers ++ index_claims i 0 u.numbers)
    ∙ ap (filter claims_one) (map-append (λ (c : Claim). c.block) (map (pointer_claim i) u.pointers) (index_claims i 0 u.numbers)
    ∙ (λ t. blocks_of_pointers i u.pointers t ++ blocks_of_indexes i 0 u.numbers t))

pub count_of_claims : (i : ℕ) (u : UsedInode) → length (claims_in i u) ≡ length (claimed_blocks i (Some u))
count_of_claims i u = sym (length-map (claims_in i u) (λ (c : Claim). c.block))

pub bodies_by_blocks : (g : Geometry) (i : ℕ) (u : UsedInode) → list_all (is_body g) (claimed_blocks i (Some u)) ≡ list_all (λ claim. is_body g claim.block) (claims_in i u)
bodies_by_blocks g i u = list_all-map (is_body g) (λ (c : Claim). c.block) (claims_in i u)

pub no_zeros : (n : ℕ) → filter claims_one (replicate n 0) ≡ []
no_zeros zero = refl
no_zeros (suc n) = no_zeros n
