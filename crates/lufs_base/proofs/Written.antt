-- What a slice holds after a write: through its rest from a byte on, and after an earlier write.
use Rattle.std.proofs.Common.{◌≡◌, ℕ, ◌+◌, ◌-◌, ◌≤◌, List, [], ◌++◌, length, take, drop, ap, sym, ◌∙◌, arith, length-append, length-drop}
use Rattle.std.proofs.lemmas.List.{append_assoc, append-nil, drop-drop, drop_all, length-take-le, take_rest}
use Rattle.std.proofs.Math.Seq.{take-append_seam, drop-append-add}
use borrow.Rule.Slice.PartMut.{put_mid}
use Rattle.lufs_base.specs.Fields.{put_at}

pub put_mid_is_put_at : (out bytes part : List ℕ) (at n : ℕ) → at + n ≤ length out → length bytes ≡ n
    → part ≡ bytes ++ drop n (take (length out - at) (drop at out)) → put_mid at (length out - at) out part ≡ put_at out at bytes
put_mid_is_put_at out bytes part at n fits size is =
    let rest : part ≡ bytes ++ drop (at + length bytes) out =
    is ∙ ap (λ (l : List ℕ). bytes ++ drop n l) (take_rest out at) ∙ ap (λ (l : List ℕ). bytes ++ l) (drop-drop n at out)
    ∙ ap (λ (k : ℕ). bytes ++ drop (at + k) out) (sym size) in
    let end : drop (length out - at) (drop at out) ≡ [] = drop_all (length out - at) (drop at out) (omega (arith, length-drop at out)) in
    ap (λ (l : List ℕ). take at out ++ (part ++ l)) end ∙ ap (λ (l : List ℕ). take at out ++ l) (append-nil part ∙ rest)

-- bytes that are written directly after those from byte `from` on
pub put_at_behind : (front bytes old : List ℕ) (from at : ℕ) → from ≤ length old → at ≡ from + length front
    → put_at (put_at old from front) at bytes ≡ put_at old from (front ++ bytes)
put_at_behind front bytes old from at fits is =
    let written = take from old ++ front in
    let rest = drop (from + length front) old in
    let whole : put_at old from front ≡ written ++ rest = sym (append_assoc (take from old) front rest) in
    let long : length written ≡ at = length-append (take from old) front ∙ omega (arith, length-take-le from old fits) in
    let cut : take at (put_at old from front) ≡ written =
    ap (take at) whole ∙ ap (λ (k : ℕ). take k (written ++ rest)) (sym long) ∙ take-append_seam written rest in
    let size : from + length front + length bytes ≡ from + length (front ++ bytes) = omega (arith, length-append front bytes) in
    let last = drop (from + length (front ++ bytes)) old in
    let behind : drop (at + length bytes) (put_at old from front) ≡ last =
    ap (drop (at + length bytes)) whole ∙ ap (λ (k : ℕ). drop (k + length bytes) (written ++ rest)) (sym long)
    ∙ drop-append-add written rest (length bytes) ∙ drop-drop (length bytes) (from + length front) old ∙ ap (λ (k : ℕ). drop k old) size in
    ap (λ (l : List ℕ). l ++ (bytes ++ drop (at + length bytes) (put_at old from front))) cut
    ∙ ap (λ (l : List ℕ). written ++ (bytes ++ l)) behind ∙ append_assoc (take from old) front (bytes ++ last)
    ∙ ap (λ (l : List ℕ). take from old ++ l) (sym (append_assoc front bytes last))

-- bytes that are written over a whole slice
pub put_at_all : (old bytes : List ℕ) → length bytes ≡ length old → put_at old 0 bytes ≡ bytes
put_at_all old bytes size =
    ap (λ (l : List ℕ). bytes ++ l) (drop_all (0 + length bytes) old (omega arith)) ∙ append-nil bytes
