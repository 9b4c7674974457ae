-- What the records of a new volume say.
use Rattle.std.proofs.Common.{◌≡◌, ◌≢◌, ◌<◌, ◌≤◌, ℕ, suc, ◌+◌, ◌-◌, ◌*◌, ◌/◌, ◌%◌, ◌^◌, if◌then◌else◌, List, [], ◌∷◌, take, drop, map, replicate, Option, Some, None, refl, ap, subst, ◌∙◌, arith}
use Rattle.std.specs.Prelude.{IfSome, ◌==◌}
use Rattle.std.specs.List.{range_with_len}
use Rattle.std.proofs.Math.Nat.{div-eq_of_lt, mod-eq_of_lt, mod-lt, div-add-mod', div-lt_iff_lt-mul, mul-le-mul_right}
use Rattle.std.proofs.lemmas.Bool.{cond-true, cond-false, cond_both, eqb-true, eq-eqb}
use Rattle.lufs_base.specs.Layout.{IsGeometry, group_start, blocks_of, inode_address}
use Rattle.lufs_base.specs.declared.geometry.Geometry.{Geometry}
use Rattle.lufs_base.specs.declared.geometry.Region.TheVariants.{GroupBlock, Inodes, Body}
use Rattle.volume_model.specs.declared.directory.Slot.{Slot}
use Rattle.volume_model.specs.Format.{Image, block, inodes_of, group_of, group_bytes, dinode_of, dinode_bytes, chunk_of, chunk_bytes, new_directory}
use Rattle.volume_model.specs.Sound.{Single, UsedInode, Unused, InUse, Reading, group_at, state_of, state_at, block_numbered, reading_of}
use Rattle.volume_model.specs.MkfsImage.{root_block, made_group, made_root, block_with, made_in, IsMkfsImage}
use Rattle.volume_laws.proofs.Members.{All_range, map_same}
use Rattle.volume_laws.proofs.GroupRecords.{group_back}
use Rattle.volume_laws.proofs.InodeRecords.{inode_back, free_back}
use Rattle.new_volume.proofs.Groups.{groups_rise, first_group}
use Rattle.new_volume.proofs.BlockSectors.{zeros_in_zeros}
use Rattle.new_volume.proofs.RootBlock.{root_is_some, root_inside, root_in_body}
use Rattle.new_volume.proofs.MadeBlocks.{made_there}
use Rattle.new_volume.proofs.Runs.{copies}
use Rattle.new_volume.proofs.NewRecords.{made_is_group, length-made_group, length-dinode, root_is_inode, front_of_block, record_2, record_of_zeros, chunk_reads}

-- the root as its record, its block and its chunk have it
abbrev pub new_root_inode : Geometry → ℕ → UsedInode
new_root_inode g moment = record {
  inode = made_root g moment;
  pointers = record { name = Single; block = 0 } ∷ [];
  numbers = root_block g ∷ replicate 1035 0;
  chunks = Some (new_directory 2 2) ∷ [];
}

-- each group's record, and the root alone
abbrev pub new_reading : Geometry → ℕ → Reading
new_reading g moment = record {
  groups = map (λ n. Some (made_group g n)) (range_with_len 0 g.groups);
  inodes = Unused ∷ (Unused ∷ (InUse (new_root_inode g moment) ∷ replicate (inodes_of g - 3) Unused));
}

-- where an inode's record lies
block_of_address : (a p : ℕ) → (4096 * (a + 1) + 128 * p) / 4096 ≡ a + 1 + p / 32
block_of_address a p = omega arith

place_of_address : (a p : ℕ) → (4096 * (a + 1) + 128 * p) % 4096 ≡ 128 * (p % 32)
place_of_address a p = omega arith

-- the bytes of a record in its block
abbrev record_in : ℕ → List ℕ → List ℕ
record_in p bytes = take 128 (drop (128 * (p % 32)) bytes)

-- what stands in an image that mkfs made
module _ (g : Geometry) (moment : ℕ) (ok : IsGeometry g) (old new : Image) (is : IsMkfsImage g moment old new) where
  group_there : (n : ℕ) → n < g.groups → group_at g (block new) n ≡ Some (made_group g n)
  group_there n within =
      let inside : group_start g n < blocks_of g = omega (arith, groups_rise g n g.groups within, ok.bpg_low) in
      ap (λ (bytes : List ℕ). group_of g n (take 416 bytes)) (made_there g moment ok old new is (group_start g n) (GroupBlock n) (within, refl) inside)
      ∙ ap (group_of g n) (front_of_block (group_bytes (made_group g n)) (length-made_group g n)) ∙ group_back g n (made_group g n) ok (made_is_group g n ok within)

  -- an inode block
  inode_block_there : (n p : ℕ) → n < g.groups → p < g.ipg
      → block new (group_start g n + 1 + p / 32) ≡ (if (group_start g n + 1 + p / 32) == (group_start g 0 + 1) then block_with 256 (dinode_bytes (Some (made_root g moment))) else replicate 4096 0)
  inode_block_there n p within below =
      let inside : group_start g n + 1 + p / 32 < blocks_of g = omega (arith, groups_rise g n g.groups within, ok.room, below) in
      made_there g moment ok old new is (group_start g n + 1 + p / 32) (Inodes n) (within, omega arith, omega (arith, below, ok.ipg_step)) inside

  -- a record of it that is not the root's is zeros
  other_record : (n p : ℕ) → n < g.groups → p < g.ipg → (n ≡ 0 → p ≢ 2) → record_in p (block new (group_start g n + 1 + p / 32)) ≡ replicate 128 0
  other_record n p within below other =
      let root_record = dinode_bytes (Some (made_root g moment)) in
      ap (record_in p) (inode_block_there n p within below)
      ∙ cond_both ((group_start g n + 1 + p / 32) == (group_start g 0 + 1)) (block_with 256 root_record) (replicate 4096 0) (λ bytes. record_in p bytes ≡ replicate 128 0)
      (λ here.
      let same : group_start g n + 1 + p / 32 ≡ group_start g 0 + 1 = eqb-true _ _ here in
      let first : n ≡ 0 = first_group g n ok (omega (arith, same)) in
      let early : p < 32 = omega (arith, same) in
      record_of_zeros root_record (p % 32) (length-dinode g moment) (omega arith) (λ two. other first (omega (arith, two, early))))
      (λ elsewhere. zeros_in_zeros (128 * (p % 32)) 128 4096 (omega arith))

  -- the bytes of an inode's record
  record_there : (i : ℕ) → i < inodes_of g → i ≢ 2 → take 128 (drop (inode_address g i % 4096) (block new (inode_address g i / 4096))) ≡ replicate 128 0
  record_there i inside other =
      let n = i / g.ipg in
      let p = i % g.ipg in
      let some : 0 < g.ipg = omega (arith, ok.ipg_low) in
      let split : n * g.ipg + p ≡ i = div-add-mod' i g.ipg in
      let not_root : n ≡ 0 → p ≢ 2 = λ first two.
      let none : n * g.ipg ≡ 0 * g.ipg = ap (λ (k : ℕ). k * g.ipg) first in
      other (omega (arith, two, none, split)) in
      ap (λ (k : ℕ). take 128 (drop k (block new (inode_address g i / 4096)))) (place_of_address (group_start g n) p)
      ∙ ap (λ (k : ℕ). take 128 (drop (128 * (p % 32)) (block new k))) (block_of_address (group_start g n) p)
      ∙ other_record n p ((div-lt_iff_lt-mul some).1 inside) (mod-lt i some) not_root

  root_there : take 128 (drop (inode_address g 2 % 4096) (block new (inode_address g 2 / 4096))) ≡ dinode_bytes (Some (made_root g moment))
  root_there =
      let low : 2 < g.ipg = omega (arith, ok.ipg_low) in
      let n : 2 / g.ipg ≡ 0 = div-eq_of_lt low in
      let p : 2 % g.ipg ≡ 2 = mod-eq_of_lt low in
      let at : inode_address g 2 ≡ 4096 * (group_start g 0 + 1) + 128 * 2 = ap (λ (k : ℕ). 4096 * (group_start g k + 1) + 128 * (2 % g.ipg)) n ∙ ap (λ (k : ℕ). 4096 * (group_start g 0 + 1) + 128 * k) p in
      let where_it_is : inode_address g 2 / 4096 ≡ group_start g 0 + 1 = omega (arith, at) in
      let place : inode_address g 2 % 4096 ≡ 256 = omega (arith, at) in
      let inside : group_start g 0 + 1 < blocks_of g = omega (arith, groups_rise g 0 g.groups ok.groups_low, ok.bpg_low) in
      let there = made_there g moment ok old new is (group_start g 0 + 1) (Inodes 0) (ok.groups_low, omega arith, omega (arith, ok.ipg_low)) inside in
      ap (λ (k : ℕ). take 128 (drop k (block new (inode_address g 2 / 4096)))) place
      ∙ ap (λ (k : ℕ). take 128 (drop 256 (block new k))) where_it_is
      ∙ ap (λ (l : List ℕ). take 128 (drop 256 l)) (there ∙ cond-true _ _ (replicate 4096 0) (eq-eqb (group_start g 0 + 1) (group_start g 0 + 1) refl))
      ∙ record_2 (dinode_bytes (Some (made_root g moment))) (length-dinode g moment)

  unused_there : (i : ℕ) → i < inodes_of g → i ≢ 2 → state_at g (block new) i ≡ Unused
  unfolding dinode_bytes
  unused_there i inside other =
      ap (λ (bytes : List ℕ). state_of (block new) (dinode_of g.version bytes)) (record_there i inside other) ∙ ap (state_of (block new)) (free_back g.version)

  root_chunk_there : block new (root_block g) ≡ block_with 0 (chunk_bytes (new_directory 2 2))
  root_chunk_there =
      let b = root_block g in
      let there : made_in g moment b (Body 0) ≡ Some (block_with 0 (chunk_bytes (new_directory 2 2))) = cond-true (b == b) (Some (block_with 0 (chunk_bytes (new_directory 2 2)))) None (eq-eqb b b refl) in
      subst (λ (o : Option (List ℕ)). IfSome o (λ bytes. block new b ≡ bytes)) there (made_there g moment ok old new is b (Body 0) (root_in_body g ok) (root_inside g ok))

  root_state : moment < 2 ^ 64 → state_at g (block new) 2 ≡ InUse (new_root_inode g moment)
  root_state fits =
      let chunk : chunk_of (take 512 (drop 0 (block_numbered (block new) (root_block g)))) ≡ Some (new_directory 2 2) =
      ap (λ (bytes : List ℕ). chunk_of (take 512 (drop 0 bytes))) (cond-false (root_block g == 0) [] (block new (root_block g)) (root_is_some g) ∙ root_chunk_there) ∙ chunk_reads in
      ap (λ (bytes : List ℕ). state_of (block new) (dinode_of g.version bytes)) root_there
      ∙ ap (state_of (block new)) (inode_back g.version (made_root g moment) (root_is_inode g moment ok fits))
      ∙ ap (λ (o : Option (List Slot)). InUse (record { inode = made_root g moment; pointers = record { name = Single; block = 0 } ∷ []; numbers = root_block g ∷ replicate 1035 0; chunks = o ∷ [] })) chunk

  -- so the records are those of the groups, and of the root
  pub new_reading_there : moment < 2 ^ 64 → reading_of g (block new) ≡ new_reading g moment
  unfolding reading_of
  new_reading_there fits =
      let more : 1 * g.ipg ≤ g.groups * g.ipg = mul-le-mul_right g.ipg ok.groups_low in
      let m = inodes_of g - 3 in
      let size : inodes_of g ≡ suc (suc (suc m)) = omega (arith, more, ok.ipg_low) in
      let groups = map_same (group_at g (block new)) (λ n. Some (made_group g n)) (range_with_len 0 g.groups) (All_range _ g.groups group_there) in
      let first = unused_there 0 (omega (arith, size)) (λ same. omega (arith, same)) in
      let second = unused_there 1 (omega (arith, size)) (λ same. omega (arith, same)) in
      let root = root_state fits in
      let rest : map (state_at g (block new)) (range_with_len 3 m) ≡ replicate m Unused = copies (state_at g (block new)) Unused 3 m (λ i low high. unused_there i (omega (arith, high, size)) (λ same. omega (arith, same, low))) in
      let inodes : map (state_at g (block new)) (range_with_len 0 (inodes_of g)) ≡ Unused ∷ (Unused ∷ (InUse (new_root_inode g moment) ∷ replicate m Unused)) =
      ap (λ (k : ℕ). map (state_at g (block new)) (range_with_len 0 k)) size ∙ (λ i. first i ∷ (second i ∷ (root i ∷ rest i))) in
      λ i. record { groups = groups i; inodes = inodes i }
