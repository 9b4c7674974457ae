-- What the claim of a block says of it: which deltas may lie on it, and how many bytes of it are metadata.
use Rattle.std.proofs.Common.{◌≡◌, ◌≤◌, inl, inr, ℕ, eqb, Bool, true, false, not, ◌&&◌, List, [], ◌∷◌, ◌++◌, map, Some, refl, sym, ap, ◌∙◌, subst, arith, ◌+◌}
use Rattle.std.specs.Prelude.{slice_index_or}
use Rattle.std.specs.List.{All, Contains, list_any, range_with_len}
use Rattle.std.proofs.lemmas.Bool.{cases_Bool, false≢true, and_from, and_left, and_right, eq-eqb, eqb-true, or_cases}
use Rattle.std.proofs.lemmas.List.Folds.{list_any_at, list_any_none}
use Rattle.std.proofs.lemmas.List.Elements.{All-nil, All-cons, All-append, All-filter, All-contains, All-contains_itself}
use Rattle.lufs_base.specs.declared.geometry.Geometry.{Geometry}
use Rattle.lufs_base.specs.declared.delta.DeltaKind.{DeltaKind}
use Rattle.lufs_base.specs.declared.delta.DeltaKind.TheVariants.{Group, Inode, Chunk, Pointers, Zero, LinkText, Cancel}
use Rattle.volume_model.specs.Sound.{UsedInode, Reading, inodes_in, used_at, NamedPointer, AtIndex, Claim, index_claims, pointer_claim, claims_in, claims_at, claims_of, is_claimed, IsLaid, metadata_claim_length, metadata_length}
use Rattle.volume_laws.proofs.Members.{Contains_head, Contains_behind, All_range, All_flat_map}
use Rattle.volume_laws.proofs.ClaimFacts.{claims_its_block, all_claims_of}
use Rattle.volume_laws.proofs.LaidClaims.{one_claim, metadata_of_claim}
use Rattle.meta_store.specs.Suited.{suits_claim, suits_claims, suits_block}
use Rattle.meta_store.specs.Conditions.{StaysClaimed}

-- a member that passes the test
pub some_passes : {X : Type 0} (p : X → Bool) (xs : List X) → list_any p xs ≡ true → (x : X) × Contains xs x × (p x ≡ true)
some_passes p [] any = absurd (false≢true any)
some_passes {X} p (x ∷ xs) any = elim (or_cases (p x) (list_any p xs) any) [
  | inl here ↦ (x, Contains_head x xs, here)
  | inr rest ↦ let more = some_passes p xs rest in (more.0, Contains_behind x xs more.0 more.1, more.2)
]

pub passes_of : {X : Type 0} (p : X → Bool) (xs : List X) (x : X) → Contains xs x → p x ≡ true → list_any p xs ≡ true
passes_of p xs x here passes = list_any_at p xs here.0 x here.1 (ap p here.2 ∙ passes)

pub claim_of : (r : Reading) (b : ℕ) → is_claimed r b ≡ true → (claim : Claim) × Contains (claims_of r) claim × (claim.block ≡ b)
claim_of r b claimed =
    let found = some_passes (λ (claim : Claim). eqb claim.block b) (claims_of r) claimed in
    (found.0, found.1, eqb-true found.0.block b found.2)

-- a claim is of the inode that makes it
index_inodes : (i at : ℕ) (numbers : List ℕ) → All (λ claim. claim.inode ≡ i) (index_claims i at numbers)
index_inodes i at [] = All-nil (λ (claim : Claim). claim.inode ≡ i)
index_inodes i at (number ∷ numbers) =
    All-cons (λ (claim : Claim). claim.inode ≡ i) (record { block = number; inode = i; part = AtIndex at }) (index_claims i (at + 1) numbers) refl (index_inodes i (at + 1) numbers)

pointer_inodes : (i : ℕ) (pointers : List NamedPointer) → All (λ claim. claim.inode ≡ i) (map (pointer_claim i) pointers)
pointer_inodes i [] = All-nil (λ (claim : Claim). claim.inode ≡ i)
pointer_inodes i (p ∷ pointers) = All-cons (λ (claim : Claim). claim.inode ≡ i) (pointer_claim i p) (map (pointer_claim i) pointers) refl (pointer_inodes i pointers)

pub inodes_of_claims : (i : ℕ) (u : UsedInode) → All (λ claim. claim.inode ≡ i) (claims_in i u)
inodes_of_claims i u =
    All-filter (λ (claim : Claim). not (eqb claim.block 0)) (λ (claim : Claim). claim.inode ≡ i) (map (pointer_claim i) u.pointers ++ index_claims i 0 u.numbers)
    (All-append (λ (claim : Claim). claim.inode ≡ i) (map (pointer_claim i) u.pointers) (index_claims i 0 u.numbers) (pointer_inodes i u.pointers) (index_inodes i 0 u.numbers))

-- it stands among the claims of that inode, which is in use
pub record IsOwn (r : Reading) (claim : Claim) : Type 0 where
  pub owner : UsedInode
  pub used : used_at r claim.inode ≡ Some owner
  pub among : Contains (claims_in claim.inode owner) claim

pub own_claim : (r : Reading) (claim : Claim) → Contains (claims_of r) claim → IsOwn r claim
unfolding claims_of
own_claim r claim here =
    All-contains (IsOwn r) (claims_of r) claim
    (All_flat_map (IsOwn r) (claims_at r) (range_with_len 0 (inodes_in r))
    (All_range (λ i. All (IsOwn r) (claims_at r i)) (inodes_in r) (λ i below.
    all_claims_of (IsOwn r) i (used_at r i) (λ u used k d inside.
    let c : Claim = slice_index_or (claims_in i u) k d in
    let its : c.inode ≡ i = inodes_of_claims i u k d inside in
    let among : Contains (claims_in i u) c = All-contains_itself (claims_in i u) k d inside in
    record { owner = u; used = ap (used_at r) its ∙ used; among = subst (λ (j : ℕ). Contains (claims_in j u) c) (sym its) among })))) here

module _ (g : Geometry) (r : Reading) (laid : IsLaid g r) (claim : Claim) (here : Contains (claims_of r) claim) where
  -- of the kinds that lie on claimed blocks, those suit the block that suit the claim
  pub suits_by_claim : (kind : DeltaKind) → suits_claims r kind claim.block ≡ suits_claim r kind claim
  suits_by_claim kind = elim (cases_Bool (suits_claim r kind claim)) [
    | inl suits ↦
        passes_of (λ (c : Claim). eqb c.block claim.block && suits_claim r kind c) (claims_of r) claim here
        (and_from (eqb claim.block claim.block) (suits_claim r kind claim) (eq-eqb claim.block claim.block refl) suits)
        ∙ sym suits
    | inr not_so ↦
        list_any_none (λ (c : Claim). eqb c.block claim.block && suits_claim r kind c) (claims_of r) (λ k d inside.
        let c : Claim = slice_index_or (claims_of r) k d in
        let there : Contains (claims_of r) c = All-contains_itself (claims_of r) k d inside in
        elim (cases_Bool (eqb c.block claim.block)) [
          | inl same ↦
              let one : c ≡ claim = one_claim g r laid claim c here there (eqb-true c.block claim.block same) in
              and_right (eqb c.block claim.block) (suits_claim r kind c) (ap (suits_claim r kind) one ∙ not_so)
          | inr away ↦ and_left (eqb c.block claim.block) (suits_claim r kind c) away
        ])
        ∙ sym not_so
  ]

-- kinds that lie on records suit by where the block lies
pub kinds_by_claims : (g : Geometry) (r s : Reading) (b : ℕ) → ((kind : DeltaKind) → suits_claims s kind b ≡ suits_claims r kind b)
    → (kind : DeltaKind) → suits_block g s kind b ≡ suits_block g r kind b
kinds_by_claims g r s b same Group = refl
kinds_by_claims g r s b same Inode = refl
kinds_by_claims g r s b same Chunk = same Chunk
kinds_by_claims g r s b same Pointers = same Pointers
kinds_by_claims g r s b same Zero = same Zero
kinds_by_claims g r s b same LinkText = same LinkText
kinds_by_claims g r s b same Cancel = refl

-- a block that two readings claim in the same way
module _ (g : Geometry) (r s : Reading) (laid : IsLaid g r) (laid_too : IsLaid g s) (claim : Claim) (here : Contains (claims_of r) claim) (there : Contains (claims_of s) claim)
    (kinds : (kind : DeltaKind) → suits_claim s kind claim ≡ suits_claim r kind claim) where
  pub stays_so : (suits_claim r Chunk claim ≡ false → metadata_claim_length s claim ≡ metadata_claim_length r claim) → StaysClaimed g r s claim.block
  stays_so same = record {
    claimed = claims_its_block s claim there;
    kinds = kinds_by_claims g r s claim.block (λ kind. suits_by_claim g s laid_too claim there kind ∙ kinds kind ∙ sym (suits_by_claim g r laid claim here kind));
    length = λ no_chunk. metadata_of_claim g s laid_too claim there ∙ same (sym (suits_by_claim g r laid claim here Chunk) ∙ no_chunk) ∙ sym (metadata_of_claim g r laid claim here);
  }

  pub grows_so : metadata_claim_length r claim ≤ metadata_claim_length s claim → metadata_length g r claim.block ≤ metadata_length g s claim.block
  grows_so less = omega (arith, less, metadata_of_claim g r laid claim here, metadata_of_claim g s laid_too claim there)
