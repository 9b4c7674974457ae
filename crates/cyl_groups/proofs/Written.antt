-- A group record written piece by piece.
use Rattle.std.proofs.Common.{◌≡◌, ℕ, ◌+◌, List, ◌++◌, length, take, drop, replicate, refl, ap, sym, ◌∙◌, arith}
use Rattle.std.proofs.lemmas.List.{drop-drop, length-append}
use borrow.Rule.Slice.PartMut.{put_mid}
use Rattle.lufs_base.specs.Fields.{field_bytes, put_at}
use Rattle.volume_model.specs.Format.{GroupRecord, group_bytes}
use Rattle.volume_model.proofs.Pieces.{length-put_at, pieces, whole_piece}

-- a write to a part of the record
pub part_put : (out bytes part : List ℕ) (at n : ℕ) → part ≡ bytes → length bytes ≡ n → put_mid at n out part ≡ put_at out at bytes
part_put out bytes part at n is size =
    ap (λ (l : List ℕ). take at out ++ (l ++ drop n (drop at out))) is
    ∙ ap (λ (l : List ℕ). take at out ++ (bytes ++ l)) (drop-drop n at out ∙ ap (λ (k : ℕ). drop (at + k) out) (sym size))

-- a record written piece by piece
pub written : (out : List ℕ) (r : GroupRecord) → length out ≡ 416 → length r.inode_bits ≡ 128 → length r.block_bits ≡ 256
    → put_at (put_at (put_at (put_at (put_at (put_at (put_at out 0 (field_bytes 4 0x00090255)) 4 (field_bytes 4 r.number)) 8 (field_bytes 4 r.free_inodes))
    12 (field_bytes 4 r.free_blocks)) 16 (replicate 16 0)) 32 r.inode_bits) 160 r.block_bits ≡ group_bytes r
unfolding group_bytes
written out r long inodes blocks =
    let m = field_bytes 4 0x00090255 in
    let n = field_bytes 4 r.number in
    let i = field_bytes 4 r.free_inodes in
    let b = field_bytes 4 r.free_blocks in
    let z : List ℕ = replicate 16 0 in
    let o1 = put_at out 0 m in
    let o2 = put_at o1 4 n in
    let o3 = put_at o2 8 i in
    let o4 = put_at o3 12 b in
    let o5 = put_at o4 16 z in
    let l1 : length o1 ≡ 416 = length-put_at out m 0 (omega arith) ∙ long in
    let l2 : length o2 ≡ 416 = length-put_at o1 n 4 (omega arith) ∙ l1 in
    let l3 : length o3 ≡ 416 = length-put_at o2 i 8 (omega arith) ∙ l2 in
    let l4 : length o4 ≡ 416 = length-put_at o3 b 12 (omega arith) ∙ l3 in
    let l5 : length o5 ≡ 416 = length-put_at o4 z 16 (omega arith) ∙ l4 in
    let x5 : List ℕ = r.inode_bits ++ r.block_bits in
    let x4 : List ℕ = z ++ x5 in
    let x3 : List ℕ = b ++ x4 in
    let x2 : List ℕ = i ++ x3 in
    let x1 : List ℕ = n ++ x2 in
    let s5 : length x5 ≡ 384 = omega (arith, length-append r.inode_bits r.block_bits) in
    pieces o5 r.inode_bits r.block_bits 32 160 (omega arith) (omega arith)
    ∙ pieces o4 z x5 16 32 refl (omega arith) ∙ pieces o3 b x4 12 16 refl (omega arith) ∙ pieces o2 i x3 8 12 refl (omega arith)
    ∙ pieces o1 n x2 4 8 refl (omega arith) ∙ pieces out m x1 0 4 refl (omega arith) ∙ whole_piece out (m ++ x1) (omega arith)
