-- Replays that give the same metadata agree but in the bytes of files.
use Rattle.std.proofs.Common.{◌≡◌, ◌<◌, ℕ, zero, suc, ◌+◌, ◌*◌, min, List, length, take, drop, slice_index, refl, sym, ◌∙◌, arith}
use Rattle.std.proofs.lemmas.List.{ext_get_or, length-take, length-drop, get_or-take}
use Rattle.lufs_base.specs.declared.geometry.Geometry.{Geometry}
use Rattle.volume_model.specs.declared.log.Tx.{Tx}
use Rattle.volume_model.specs.Format.{Image, block}
use Rattle.volume_model.specs.Log.{replayed}
use Rattle.volume_model.specs.Sound.{reading_of, metadata_length, AgreeButInFileBytes}
use Rattle.volume_model.proofs.ReplayLaws.{length-replayed, byte_replayed}
use Rattle.journal_model.specs.BlockRoles.{Role, Metadata}
use Rattle.journal_model.specs.SafeImages.{GivesMetadata}
use Rattle.journal_laws.proofs.Outcomes.{byte_in_block}
use Rattle.history_laws.specs.Published.{AreRolesOf}

size_of_block : (image : Image) (b : ℕ) → length (block image b) ≡ min 4096 (length (drop (512 * (8 * b)) image))
size_of_block image b = length-take 4096 (drop (512 * (8 * b)) image)

-- the fronts of two blocks that have the same bytes there
pub same_front : (one other : Image) (b m : ℕ) → length other ≡ length one
    → ((i : ℕ) → i < m → i < 4096 → 4096 * b + i < length one → slice_index other (4096 * b + i) ≡ slice_index one (4096 * b + i))
    → take m (block other b) ≡ take m (block one b)
same_front one other b m size same =
    let front : length (take m (block one b)) ≡ min m (length (block one b)) = length-take m (block one b) in
    let other_front : length (take m (block other b)) ≡ min m (length (block other b)) = length-take m (block other b) in
    let drops : length (drop (512 * (8 * b)) one) ≡ length (drop (512 * (8 * b)) other) = omega (arith, length-drop (512 * (8 * b)) one, length-drop (512 * (8 * b)) other, size) in
    let blocks : length (block other b) ≡ length (block one b) = omega (arith, size_of_block one b, size_of_block other b, drops) in
    ext_get_or 0 (take m (block other b)) (take m (block one b)) (omega (arith, front, other_front, blocks)) (λ i below.
    let low : i < m = omega (arith, below, other_front) in
    let inside : i < 4096 = omega (arith, below, other_front, size_of_block other b) in
    let there : 4096 * b + i < length one = omega (arith, below, other_front, size_of_block other b, length-drop (512 * (8 * b)) other, size) in
    get_or-take m (block other b) i 0 low ∙ byte_in_block other b i inside ∙ same i low inside there ∙ sym (byte_in_block one b i inside) ∙ sym (get_or-take m (block one b) i 0 low))

module _ (g : Geometry) (role : ℕ → Role) (home image : Image) (all txs : List Tx) (size : length image ≡ length home) (gives : GivesMetadata role home all image txs) where
  same_size : length (replayed image txs) ≡ length (replayed home all)
  same_size = length-replayed image txs ∙ size ∙ sym (length-replayed home all)

  -- a byte of metadata
  same_byte : (b n i : ℕ) → role b ≡ Metadata n → i < n → 4096 * b + i < length (replayed home all) → slice_index (replayed image txs) (4096 * b + i) ≡ slice_index (replayed home all) (4096 * b + i)
  same_byte b n i is low there =
      byte_replayed image txs (4096 * b + i) (omega (arith, there, same_size, length-replayed image txs))
      ∙ gives.each b n i is low
      ∙ sym (byte_replayed home all (4096 * b + i) (omega (arith, there, length-replayed home all)))

  pub agree_by_metadata : AreRolesOf g role (reading_of g (block (replayed home all))) → AgreeButInFileBytes g (block (replayed home all)) (block (replayed image txs))
  agree_by_metadata are b = by_length (metadata_length g (reading_of g (block (replayed home all))) b) refl
    where
      by_length : (m : ℕ) → metadata_length g (reading_of g (block (replayed home all))) b ≡ m → take m (block (replayed image txs) b) ≡ take m (block (replayed home all) b)
      by_length zero is = refl
      by_length (suc m) is =
          let there = are.metadata b (omega (arith, is)) in
          same_front (replayed home all) (replayed image txs) b (suc m) same_size (λ i low inside room. same_byte b there.0 i there.1 (omega (arith, low, is, there.2)) room)
