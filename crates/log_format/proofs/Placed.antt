-- Bytes that are written at a place of a list, one part after the other.
use Rattle.std.proofs.Common.{◌≡◌, ℕ, ◌+◌, ◌-◌, ◌≤◌, List, [], ◌++◌, length, take, drop, replicate, refl, sym, ap, ◌∙◌, arith, append_assoc, length-append}
use Rattle.std.proofs.lemmas.List.{append-nil, drop-drop, drop_all, take-take, drop_at, take_at, take_rest, length-take-le, length-drop}
use borrow.Rule.Slice.PartMut.{put_mid}
use Rattle.std.specs.List.{copy_within}
use Rattle.lufs_base.specs.Fields.{put_at}

length_front : (old a : List ℕ) (at : ℕ) → at ≤ length old → length (take at old ++ a) ≡ at + length a
length_front old a at inside = length-append (take at old) a ∙ ap (λ (n : ℕ). n + length a) (length-take-le at old inside)

-- the bytes up to the end of what was written
pub take-put_at : (old a : List ℕ) (at end : ℕ) → at ≤ length old → end ≡ at + length a → take end (put_at old at a) ≡ take at old ++ a
take-put_at old a at end inside is =
    ap (λ (l : List ℕ). take end l) (sym (append_assoc (take at old) a (drop (at + length a) old)))
    ∙ take_at (take at old ++ a) (drop (at + length a) old) end (length_front old a at inside ∙ sym is)

-- and those after it
pub drop-put_at : (old a : List ℕ) (at end : ℕ) → at ≤ length old → end ≡ at + length a → drop end (put_at old at a) ≡ drop end old
drop-put_at old a at end inside is =
    ap (λ (l : List ℕ). drop end l) (sym (append_assoc (take at old) a (drop (at + length a) old)))
    ∙ drop_at (take at old ++ a) (drop (at + length a) old) end (length_front old a at inside ∙ sym is)
    ∙ ap (λ (n : ℕ). drop n old) (sym is)

-- a part that reaches to the end
pub put_last : (old a : List ℕ) (at : ℕ) → length old ≤ at + length a → put_at old at a ≡ take at old ++ a
put_last old a at reaches =
    ap (λ (l : List ℕ). take at old ++ (a ++ l)) (drop_all (at + length a) old reaches) ∙ ap (λ (l : List ℕ). take at old ++ l) (append-nil a)

-- zeros over the rest of a list
pub clear_rest : (old part front : List ℕ) (at k : ℕ) → k ≡ length old - at → part ≡ replicate (length (take k (drop at old))) 0 → take at old ≡ front
    → put_mid at k old part ≡ front ++ replicate (length old - at) 0
clear_rest old part front at k k_is part_is front_is =
    let rest : take k (drop at old) ≡ drop at old = ap (λ (n : ℕ). take n (drop at old)) k_is ∙ take_rest old at in
    let size : length (take k (drop at old)) ≡ length old - at = ap length rest ∙ length-drop at old in
    let zeros : part ≡ replicate (length old - at) 0 = part_is ∙ ap (λ (n : ℕ). replicate n 0) size in
    let end : drop k (drop at old) ≡ [] = drop_all k (drop at old) (omega (arith, length-drop at old)) in
    ap (λ (l : List ℕ). take at old ++ (part ++ l)) end
    ∙ ap (λ (l : List ℕ). take at old ++ l) (append-nil part ∙ zeros)
    ∙ ap (λ (l : List ℕ). l ++ replicate (length old - at) 0) front_is

-- a part of the list itself
pub copied : (old : List ℕ) (from to n end : ℕ) → end - from ≡ n → from + n ≤ length old
    → copy_within old from end to ≡ put_at old to (take n (drop from old))
copied old from to n end size inside =
    let long : length (take n (drop from old)) ≡ n = length-take-le n (drop from old) (omega (arith, length-drop from old)) in
    ap (λ (k : ℕ). (take to old ++ take k (drop from old)) ++ drop (to + k) old) size
    ∙ ap (λ (k : ℕ). (take to old ++ take n (drop from old)) ++ drop (to + k) old) (sym long)
    ∙ append_assoc (take to old) (take n (drop from old)) (drop (to + length (take n (drop from old))) old)

-- what lies before it, and what lies from there on
pub take_before-put_at : (old a : List ℕ) (at n : ℕ) → at ≤ length old → n ≤ at → take n (put_at old at a) ≡ take n old
take_before-put_at old a at n inside below =
    sym (take-take n at (put_at old at a) below)
    ∙ ap (λ (l : List ℕ). take n l) (take_at (take at old) (a ++ drop (at + length a) old) at (length-take-le at old inside))
    ∙ take-take n at old below

pub drop_to-put_at : (old a : List ℕ) (at : ℕ) → at ≤ length old → drop at (put_at old at a) ≡ a ++ drop (at + length a) old
drop_to-put_at old a at inside = drop_at (take at old) (a ++ drop (at + length a) old) at (length-take-le at old inside)

-- a part over a shorter one at the same place
pub put_over : (old a b : List ℕ) (at : ℕ) → at ≤ length old → length a ≤ length b → put_at (put_at old at a) at b ≡ put_at old at b
put_over old a b at inside shorter =
    let sum : at + length a + (length b - length a) ≡ at + length b = omega arith in
    let rest : drop (at + length b) (put_at old at a) ≡ drop (at + length b) old =
    ap (λ (n : ℕ). drop n (put_at old at a)) (sym sum)
    ∙ sym (drop-drop (length b - length a) (at + length a) (put_at old at a))
    ∙ ap (λ (l : List ℕ). drop (length b - length a) l) (drop-put_at old a at (at + length a) inside refl)
    ∙ drop-drop (length b - length a) (at + length a) old
    ∙ ap (λ (n : ℕ). drop n old) sum in
    ap (λ (l : List ℕ). l ++ (b ++ drop (at + length b) (put_at old at a))) (take_before-put_at old a at at inside (omega arith))
    ∙ ap (λ (l : List ℕ). take at old ++ (b ++ l)) rest

-- a part that was written as a slice of the list
pub put_mid_at : (old part : List ℕ) (at k : ℕ) → k ≡ length part → put_mid at k old part ≡ put_at old at part
put_mid_at old part at k is =
    ap (λ (l : List ℕ). take at old ++ (part ++ l)) (drop-drop k at old ∙ ap (λ (n : ℕ). drop (at + n) old) is)
