-- The inode records of a group, which stand in a row of blocks.
use Rattle.std.proofs.Common.{◌≡◌, ◌<◌, ℕ, ◌+◌, ◌-◌, ◌*◌, ◌/◌, ◌%◌, List, length, take, drop, Option, sym, ap, ◌∙◌, arith}
use Rattle.std.proofs.lemmas.List.{drop-take, drop-drop, take-take}
use Rattle.std.proofs.lemmas.Nat.{div-mul-add, mod-mul-add}
use Rattle.lufs_base.specs.Layout.{group_start, inode_address}
use Rattle.lufs_base.specs.declared.geometry.Geometry.{Geometry}
use Rattle.volume_model.specs.declared.inode.Dinode.{Dinode}
use Rattle.volume_model.specs.Format.{Blocks, block, dinode_of}
use Rattle.volume_model.specs.Sound.{inode_at}
use Rattle.fsck_core.specs.Tables.{AreOfGroup}

-- where the record of inode k of group n stands
address_in_group : (g : Geometry) (n k : ℕ) → k < g.ipg → inode_address g (n * g.ipg + k) ≡ 4096 * (group_start g n + 1) + 128 * k
address_in_group g n k within =
    ap (λ (q : ℕ). 4096 * (group_start g q + 1) + 128 * ((n * g.ipg + k) % g.ipg)) (div-mul-add n g.ipg k within)
    ∙ ap (λ (r : ℕ). 4096 * (group_start g n + 1) + 128 * r) (mod-mul-add n g.ipg k within)

-- the record in its block, and in the row of blocks
record_in_row : (table : List ℕ) (j m : ℕ) → m + 128 < 4097 → take 128 (drop m (block table j)) ≡ take 128 (drop (4096 * j + m) table)
record_in_row table j m inside =
    let from = 512 * (8 * j) in
    let rest : List ℕ = drop from table in
    let parts : 4096 ≡ m + (4096 - m) = omega (arith, inside) in
    let place : from + m ≡ 4096 * j + m = omega arith in
    ap (λ (n : ℕ). take 128 (drop m (take n rest))) parts
    ∙ ap (λ (l : List ℕ). take 128 l) (drop-take m (4096 - m) rest)
    ∙ take-take 128 (4096 - m) (drop m rest) (omega (arith, inside))
    ∙ ap (λ (l : List ℕ). take 128 l) (drop-drop m from table)
    ∙ ap (λ (n : ℕ). take 128 (drop n table)) place

-- the record of an inode of the group is what stands at its place in the row
record_of_group : (g : Geometry) (blocks : Blocks) (n k : ℕ) (table : List ℕ) → AreOfGroup g blocks n table → length table ≡ 128 * g.ipg → k < g.ipg
    → inode_at g blocks (n * g.ipg + k) ≡ dinode_of g.version (take 128 (drop (128 * k) table))
record_of_group g blocks n k table are size within =
    let i = n * g.ipg + k in
    let at = inode_address g i in
    let j = k / 32 in
    let m = 128 * (k % 32) in
    let address = address_in_group g n k within in
    let its_block : at / 4096 ≡ group_start g n + 1 + j = ap (λ (a : ℕ). a / 4096) address ∙ omega arith in
    let its_place : at % 4096 ≡ m = ap (λ (a : ℕ). a % 4096) address ∙ omega arith in
    let in_row : 4096 * j + m ≡ 128 * k = omega arith in
    ap (λ (b : ℕ). dinode_of g.version (take 128 (drop (at % 4096) (blocks b)))) its_block
    ∙ ap (λ (p : ℕ). dinode_of g.version (take 128 (drop p (blocks (group_start g n + 1 + j))))) its_place
    ∙ ap (λ (bytes : List ℕ). dinode_of g.version (take 128 (drop m bytes))) (sym (are j (omega (arith, size, within))))
    ∙ ap (dinode_of g.version) (record_in_row table j m (omega arith))
    ∙ ap (λ (p : ℕ). dinode_of g.version (take 128 (drop p table))) in_row

-- what was read at its place
pub told_in_group : (g : Geometry) (blocks : Blocks) (n k size : ℕ) (table : List ℕ) (found : Option (Option Dinode)) → AreOfGroup g blocks n table → length table ≡ 128 * g.ipg → k < g.ipg
    → size ≡ 128 → found ≡ dinode_of g.version (take size (drop (128 * k) table)) → inode_at g blocks (n * g.ipg + k) ≡ found
told_in_group g blocks n k size table found are whole within long value =
    record_of_group g blocks n k table are whole within ∙ ap (λ (m : ℕ). dinode_of g.version (take m (drop (128 * k) table))) (sym long) ∙ sym value
