-- The blocks that mkfs builds are those of its definition.
use Rattle.std.proofs.Common.{◌≡◌, ◌≤◌, ℕ, ◌+◌, ◌-◌, ◌*◌, ◌/◌, List, [], ◌++◌, Some, length, drop, replicate, refl, ap, sym, ◌∙◌, arith, append_assoc}
use Rattle.std.proofs.Math.Seq.{drop-append_seam}
use Rattle.std.proofs.lemmas.List.{replicate-append-replicate, length-append}
use Rattle.new_volume.specs.Mkfs.{IsRoom, group_block_of, first_metadata, other_metadata}
use Rattle.new_volume.proofs.Groups.{length-group_block}
use Rattle.lufs_base.specs.declared.geometry.Geometry.{Geometry}
use Rattle.volume_model.specs.MkfsImage.{first_bits, used_inodes, used_blocks, made_group, made_root, block_with}
use Rattle.volume_model.specs.Format.{dinode_bytes, new_directory, chunk_bytes}

pub group_of_parts : (g : Geometry) (n inodes blocks : ℕ) (inode_bits block_bits : List ℕ) → inodes ≡ used_inodes n → blocks ≡ used_blocks g n
    → inode_bits ≡ first_bits inodes 128 → block_bits ≡ first_bits blocks 256
    → record { number = n; free_inodes = g.ipg - inodes; free_blocks = g.bpg - blocks; inode_bits = inode_bits; block_bits = block_bits } ≡ made_group g n
group_of_parts g n inodes blocks inode_bits block_bits inodes_are blocks_are inode_bits_are block_bits_are =
    ap (λ (bits : List ℕ). record { number = n; free_inodes = g.ipg - inodes; free_blocks = g.bpg - blocks; inode_bits = bits; block_bits = block_bits }) (inode_bits_are ∙ ap (λ (k : ℕ). first_bits k 128) inodes_are)
    ∙ ap (λ (bits : List ℕ). record { number = n; free_inodes = g.ipg - inodes; free_blocks = g.bpg - blocks; inode_bits = first_bits (used_inodes n) 128; block_bits = bits }) (block_bits_are ∙ ap (λ (k : ℕ). first_bits k 256) blocks_are)
    ∙ ap (λ (k : ℕ). record { number = n; free_inodes = g.ipg - k; free_blocks = g.bpg - blocks; inode_bits = first_bits (used_inodes n) 128; block_bits = first_bits (used_blocks g n) 256 }) inodes_are
    ∙ ap (λ (k : ℕ). record { number = n; free_inodes = g.ipg - used_inodes n; free_blocks = g.bpg - k; inode_bits = first_bits (used_inodes n) 128; block_bits = first_bits (used_blocks g n) 256 }) blocks_are

-- zeros are room, and so is a group's metadata
pub room_of_zeros : (g : Geometry) (bytes : List ℕ) → bytes ≡ replicate (4096 * (1 + g.ipg / 32)) 0 → IsRoom g bytes
room_of_zeros g bytes is =
    let split : 4096 * (1 + g.ipg / 32) ≡ 4096 + 4096 * (g.ipg / 32) = omega arith in
    (replicate 4096 0, refl, is ∙ ap (λ (n : ℕ). replicate n 0) split ∙ sym (replicate-append-replicate 4096 (4096 * (g.ipg / 32)) 0))

pub room_of_metadata : (g : Geometry) (n : ℕ) (bytes : List ℕ) → bytes ≡ other_metadata g n → IsRoom g bytes
room_of_metadata g n bytes is = (group_block_of g n, length-group_block g n, is)

pub group_block_put : (g : Geometry) (n : ℕ) (old block new : List ℕ) → IsRoom g old → block ≡ group_block_of g n → length block ≡ 4096
    → new ≡ block ++ drop 4096 old → new ≡ other_metadata g n
group_block_put g n old block new room same size is =
    let zeros : List ℕ = replicate (4096 * (g.ipg / 32)) 0 in
    let rest : drop 4096 old ≡ zeros = ap (drop 4096) room.2 ∙ ap (λ (k : ℕ). drop k (room.0 ++ zeros)) (sym room.1) ∙ drop-append_seam room.0 zeros in
    is ∙ ap (λ (l : List ℕ). block ++ l) rest ∙ ap (λ (l : List ℕ). l ++ zeros) same

pub length-room : (g : Geometry) (bytes : List ℕ) → IsRoom g bytes → 4096 ≤ length bytes
length-room g bytes room = omega (arith, ap length room.2, length-append room.0 (replicate (4096 * (g.ipg / 32)) 0), room.1)

-- the blocks of the first group's metadata, added one after the other
pub first_metadata_of_parts : (g : Geometry) (moment : ℕ) (none group inode chunk one two three four : List ℕ) → none ≡ [] → one ≡ none ++ group → group ≡ group_block_of g 0
    → two ≡ one ++ inode → inode ≡ block_with 256 (dinode_bytes (Some (made_root g moment))) → three ≡ two ++ replicate (4096 * (g.ipg / 32 - 1)) 0
    → four ≡ three ++ chunk → chunk ≡ block_with 0 (chunk_bytes (new_directory 2 2)) → four ≡ first_metadata g moment
first_metadata_of_parts g moment none group inode chunk one two three four none_is one_is group_is two_is inode_is three_is four_is chunk_is =
    let zeros : List ℕ = replicate (4096 * (g.ipg / 32 - 1)) 0 in
    let front : one ≡ group_block_of g 0 = one_is ∙ ap (λ (l : List ℕ). l ++ group) none_is ∙ group_is in
    let inodes : three ≡ (group_block_of g 0 ++ block_with 256 (dinode_bytes (Some (made_root g moment)))) ++ zeros =
    three_is ∙ ap (λ (l : List ℕ). l ++ zeros) (two_is ∙ ap (λ (l : List ℕ). l ++ inode) front ∙ ap (λ (l : List ℕ). group_block_of g 0 ++ l) inode_is) in
    four_is ∙ ap (λ (l : List ℕ). l ++ chunk) inodes ∙ ap (λ (l : List ℕ). ((group_block_of g 0 ++ block_with 256 (dinode_bytes (Some (made_root g moment)))) ++ zeros) ++ l) chunk_is
    ∙ append_assoc (group_block_of g 0 ++ block_with 256 (dinode_bytes (Some (made_root g moment)))) zeros (block_with 0 (chunk_bytes (new_directory 2 2)))
    ∙ append_assoc (group_block_of g 0) (block_with 256 (dinode_bytes (Some (made_root g moment)))) (zeros ++ block_with 0 (chunk_bytes (new_directory 2 2)))
