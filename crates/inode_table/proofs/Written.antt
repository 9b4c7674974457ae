-- An inode written field by field.
use Rattle.std.proofs.Common.{◌≡◌, ℕ, ◌+◌, List, ◌++◌, length, take, drop, replicate, Some, refl, ap, ◌∙◌, arith}
use Rattle.std.proofs.lemmas.List.{append_assoc, length-append}
use Rattle.lufs_base.specs.Fields.{field_bytes, put_at}
use Rattle.volume_model.specs.declared.inode.Dinode.{Dinode}
use Rattle.volume_model.specs.Format.{numbers_bytes, dinode_bytes}
use Rattle.volume_model.proofs.Pieces.{length-put_at, pieces}
use Rattle.inode_table.proofs.Rows.{length-numbers_bytes}

-- an inode written field by field, over zeros
pub written : (d : Dinode) → length d.direct ≡ 12 → length d.indirect ≡ 3
    → put_at (put_at (put_at (put_at (put_at (put_at (put_at (put_at (put_at (replicate 128 0) 0 (field_bytes 2 d.mode)) 2 (field_bytes 2 d.links))
    4 (field_bytes 4 d.uid)) 8 (field_bytes 4 d.gid)) 16 (field_bytes 8 d.size)) 24 (field_bytes 8 d.mtime)) 32 (numbers_bytes d.direct))
    80 (numbers_bytes d.indirect)) 92 (field_bytes 4 d.blocks) ≡ dinode_bytes (Some d)
unfolding dinode_bytes
written d direct indirect =
    let front : List ℕ =
    put_at (put_at (put_at (put_at (put_at (put_at (replicate 128 0) 0 (field_bytes 2 d.mode)) 2 (field_bytes 2 d.links)) 4 (field_bytes 4 d.uid))
    8 (field_bytes 4 d.gid)) 16 (field_bytes 8 d.size)) 24 (field_bytes 8 d.mtime) in
    let xs = numbers_bytes d.direct in
    let ys = numbers_bytes d.indirect in
    let zs = field_bytes 4 d.blocks in
    let x_long : length xs ≡ 48 = omega (arith, length-numbers_bytes d.direct) in
    let y_long : length ys ≡ 12 = omega (arith, length-numbers_bytes d.indirect) in
    let long : length front ≡ 128 = refl in
    let all_long : length (xs ++ (ys ++ zs)) ≡ 64 = omega (arith, length-append xs (ys ++ zs), length-append ys zs) in
    let later : put_at (put_at (put_at front 32 xs) 80 ys) 92 zs ≡ put_at (put_at front 32 xs) 80 (ys ++ zs) =
    pieces (put_at front 32 xs) ys zs 80 92 (omega arith) (omega (arith, length-put_at front xs 32 (omega arith))) in
    let all : put_at (put_at front 32 xs) 80 (ys ++ zs) ≡ put_at front 32 (xs ++ (ys ++ zs)) =
    pieces front xs (ys ++ zs) 32 80 (omega arith) (omega (arith, length-append ys zs)) in
    let place : 32 + length (xs ++ (ys ++ zs)) ≡ 96 = omega arith in
    let end : drop (32 + length (xs ++ (ys ++ zs))) front ≡ replicate 32 0 = ap (λ (k : ℕ). drop k front) place in
    later ∙ all ∙ ap (λ (l : List ℕ). take 32 front ++ ((xs ++ (ys ++ zs)) ++ l)) end
    ∙ ap (λ (l : List ℕ). take 32 front ++ l)
    (append_assoc xs (ys ++ zs) (replicate 32 0) ∙ ap (λ (l : List ℕ). xs ++ l) (append_assoc ys zs (replicate 32 0)))
