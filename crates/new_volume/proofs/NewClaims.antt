-- Which inode of a new volume is in use, what it claims, and what the groups' records are.
use Rattle.std.proofs.Common.{◌≡◌, ◌≢◌, ◌<◌, ℕ, zero, suc, ◌-◌, not, [], ◌∷◌, length, replicate, Some, None, refl, ap, ◌∙◌, arith}
use Rattle.std.specs.Prelude.{◌==◌, slice_get, option_and_then}
use Rattle.std.specs.Option.{option_flatten, option_map_or}
use Rattle.std.proofs.lemmas.Bool.{cond-true, not_from_false}
use Rattle.lufs_base.specs.Layout.{IsGeometry}
use Rattle.lufs_base.specs.declared.geometry.Geometry.{Geometry}
use Rattle.volume_model.specs.Format.{inodes_of}
use Rattle.volume_model.specs.Sound.{UsedInode, Unused, Reading, used_of, used_at, record_at, Claim, AtIndex, claims_in, claims_at, claims_of}
use Rattle.volume_model.specs.MkfsImage.{root_block, made_group}
use Rattle.volume_laws.proofs.Members.{entry_of_range}
use Rattle.new_volume.proofs.Runs.{only_2}
use Rattle.new_volume.proofs.RootBlock.{root_is_some}
use Rattle.new_volume.proofs.NewReading.{new_root_inode, new_reading}

-- inodes that are all unused
unused_past : (n k : ℕ) → option_and_then used_of (slice_get (replicate n Unused) k) ≡ None
unused_past zero k = refl
unused_past (suc n) zero = refl
unused_past (suc n) (suc k) = unused_past n k

pub copy_at : (n k : ℕ) → k < n → slice_get (replicate n Unused) k ≡ Some Unused
copy_at zero k below = absurd (omega arith)
copy_at (suc n) zero below = refl
copy_at (suc n) (suc k) below = copy_at n k (omega arith)

module _ (g : Geometry) (moment : ℕ) (ok : IsGeometry g) where
  abbrev pub r : Reading
  r = new_reading g moment

  abbrev pub root : UsedInode
  root = new_root_inode g moment

  -- which inodes are in use, and what the groups say
  pub used_elsewhere : (i : ℕ) → i ≢ 2 → used_at r i ≡ None
  used_elsewhere zero other = refl
  used_elsewhere (suc zero) other = refl
  used_elsewhere (suc (suc zero)) other = absurd (other refl)
  used_elsewhere (suc (suc (suc k))) other = unused_past (inodes_of g - 3) k

  pub record_there : (n : ℕ) → n < g.groups → record_at r n ≡ Some (made_group g n)
  record_there n within = ap option_flatten (entry_of_range (λ k. Some (made_group g k)) g.groups n within)

  -- the root claims its block, and nothing else is claimed
  abbrev pub root_claim : Claim
  root_claim = record { block = root_block g; inode = 2; part = AtIndex 0 }

  pub root_claims : claims_in 2 root ≡ root_claim ∷ []
  root_claims = cond-true (not (root_block g == 0)) (root_claim ∷ []) [] (not_from_false _ (root_is_some g))

  pub new_claims : claims_of r ≡ root_claim ∷ []
  unfolding claims_of
  new_claims =
      only_2 (claims_at r) (length (replicate (inodes_of g - 3) Unused)) (λ i other. ap (λ u. option_map_or (claims_in i) u []) (used_elsewhere i other)) ∙ root_claims
