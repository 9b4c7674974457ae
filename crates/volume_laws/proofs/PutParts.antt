-- A part that is put into a list: where two lists agree but there, where a list stands after another one, and where the part is one element.
use Rattle.std.proofs.Common.{◌≡◌, ◌<◌, ◌≤◌, ℕ, ◌+◌, List, [], ◌∷◌, ◌++◌, length, take, drop, get_or, set, sym, ap, ◌∙◌, arith}
use Rattle.std.proofs.lemmas.List.{ext_get_or, get_or-take, get_or-drop, drop-drop, length-take-le, length-drop, take-append-drop, take-set, drop-set, drop_more, append_assoc}
use Rattle.std.proofs.Math.Seq.{take-append-add, drop-append-add}
use Rattle.lufs_base.specs.Fields.{put_at}

-- lists that agree but in n elements from j on
module _ (xs ys : List ℕ) (j n : ℕ) (size : length ys ≡ length xs) (fits : j + n ≤ length xs) where
  same_front : ((k : ℕ) → k < j → get_or ys k 0 ≡ get_or xs k 0) → take j ys ≡ take j xs
  same_front before =
      let long = length-take-le j ys (omega (arith, size, fits)) in
      let other = length-take-le j xs (omega (arith, fits)) in
      ext_get_or 0 (take j ys) (take j xs) (long ∙ sym other) (λ k less.
      let below : k < j = omega (arith, less, long) in
      get_or-take j ys k 0 below ∙ before k below ∙ sym (get_or-take j xs k 0 below))

  same_rest : ((k : ℕ) → j + n ≤ k → k < length xs → get_or ys k 0 ≡ get_or xs k 0) → drop (j + n) ys ≡ drop (j + n) xs
  same_rest after =
      let long = length-drop (j + n) ys in
      let other = length-drop (j + n) xs in
      ext_get_or 0 (drop (j + n) ys) (drop (j + n) xs) (omega (arith, long, other, size)) (λ k less.
      get_or-drop (j + n) ys k 0 ∙ after ((j + n) + k) (omega arith) (omega (arith, less, long, size)) ∙ sym (get_or-drop (j + n) xs k 0))

  pub part_put : ((k : ℕ) → k < j → get_or ys k 0 ≡ get_or xs k 0) → ((k : ℕ) → j + n ≤ k → k < length xs → get_or ys k 0 ≡ get_or xs k 0)
      → ys ≡ put_at xs j (take n (drop j ys))
  part_put before after =
      let part : List ℕ = take n (drop j ys) in
      let long : length part ≡ n = length-take-le n (drop j ys) (omega (arith, length-drop j ys, size, fits)) in
      let rest : drop n (drop j ys) ≡ drop (j + length part) xs =
      drop-drop n j ys ∙ same_rest after ∙ ap (λ (k : ℕ). drop (j + k) xs) (sym long) in
      sym (take-append-drop j ys) ∙ ap (λ (l : List ℕ). l ++ drop j ys) (same_front before)
      ∙ ap (λ (l : List ℕ). take j xs ++ l) (sym (take-append-drop n (drop j ys)) ∙ ap (λ (l : List ℕ). part ++ l) rest)

-- a list after m others
pub put_after : (front xs part : List ℕ) (m j : ℕ) → length front ≡ m → put_at (front ++ xs) (m + j) part ≡ front ++ put_at xs j part
put_after front xs part m j size =
    let at : m + j ≡ length front + j = omega (arith, size) in
    let end : (m + j) + length part ≡ length front + (j + length part) = omega (arith, size) in
    ap (λ (k : ℕ). take k (front ++ xs) ++ (part ++ drop ((m + j) + length part) (front ++ xs))) at
    ∙ ap (λ (l : List ℕ). l ++ (part ++ drop ((m + j) + length part) (front ++ xs))) (take-append-add front xs j)
    ∙ ap (λ (k : ℕ). (front ++ take j xs) ++ (part ++ drop k (front ++ xs))) end
    ∙ ap (λ (l : List ℕ). (front ++ take j xs) ++ (part ++ l)) (drop-append-add front xs (j + length part))
    ∙ append_assoc front (take j xs) (part ++ drop (j + length part) xs)

-- one element
pub put_one : (xs : List ℕ) (k v : ℕ) → k < length xs → put_at xs k (v ∷ []) ≡ set xs k v
put_one xs k v below =
    sym (sym (take-append-drop k (set xs k v)) ∙ ap (λ (l : List ℕ). l ++ drop k (set xs k v)) (take-set xs k v)
    ∙ ap (λ (l : List ℕ). take k xs ++ l) (drop-set xs k v below))

pub one_taken : (xs : List ℕ) (j : ℕ) → j < length xs → take 1 (drop j xs) ≡ get_or xs j 0 ∷ []
one_taken xs j below = ap (take 1) (drop_more xs j 0 below)
