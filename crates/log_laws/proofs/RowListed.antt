-- The row of one transaction at the front of what is left of the ring, and the listing that goes on after it.
use Rattle.std.proofs.Common.{◌≡◌, ℕ, zero, suc, ◌+◌, ◌%◌, ◌<◌, eqb, true, false, List, [], ◌∷◌, ◌++◌, length, drop, refl, sym, ap, ◌∙◌, arith}
use Rattle.std.specs.List.{All}
use Rattle.std.proofs.lemmas.Bool.{and_parts, and_left, eqb-true, ne_eqb, cond-true, cond-false}
use Rattle.std.proofs.lemmas.List.{drop_at}
use Rattle.std.proofs.lemmas.List.Elements.{All-head, All-tail}
use Rattle.std.proofs.lemmas.List.Sums.{take_while-cons}
use Rattle.lufs_base.specs.Fields.{u32_at}
use Rattle.lufs_base.specs.Layout.{ring_of}
use Rattle.lufs_base.specs.declared.geometry.Geometry.{Geometry}
use Rattle.lufs_base.specs.declared.delta.Delta.{Delta}
use Rattle.volume_model.specs.declared.log.Header.{Header}
use Rattle.volume_model.specs.declared.log.Tx.{Tx}
use Rattle.volume_model.specs.Log.{Run, Short, Whole, run_of, run_after, front_of, belongs_to, Transactions, Listed, with_tx, row_of, payload_of, transactions_at, transactions_from}

-- the row of this transaction ends before these sectors
abbrev pub EndsBefore : (epoch tid : ℕ) → List (List ℕ) → Type 0
EndsBefore epoch tid [] = Unit {0}
EndsBefore epoch tid (s ∷ rest) = belongs_to epoch tid s ≡ false

pub row_before : (epoch tid : ℕ) (row rest : List (List ℕ)) → All (λ s. belongs_to epoch tid s ≡ true) row → EndsBefore epoch tid rest → row_of epoch tid (row ++ rest) ≡ row
row_before epoch tid [] [] all ends = refl
row_before epoch tid [] (s ∷ rest) all ends =
    take_while-cons (belongs_to epoch tid) s rest ∙ cond-false (belongs_to epoch tid s) (s ∷ row_of epoch tid rest) [] ends
row_before epoch tid (s ∷ row) rest all ends =
    let here : belongs_to epoch tid s ≡ true = All-head (λ (x : List ℕ). belongs_to epoch tid x ≡ true) s row all in
    take_while-cons (belongs_to epoch tid) s (row ++ rest)
    ∙ cond-true (belongs_to epoch tid s) (s ∷ row_of epoch tid (row ++ rest)) [] here
    ∙ ap (λ (l : List (List ℕ)). s ∷ l) (row_before epoch tid row rest (All-tail (λ (x : List ℕ). belongs_to epoch tid x ≡ true) s row all) ends)

-- sectors of another transaction end a row
pub other_ends : (epoch tid other : ℕ) (row rest : List (List ℕ)) → (tid ≡ other → ⊥) → 0 < length row → All (λ s. belongs_to epoch other s ≡ true) row → EndsBefore epoch tid (row ++ rest)
other_ends epoch tid other [] rest differ some all = absurd (omega arith)
other_ends epoch tid other (s ∷ row) rest differ some all =
    let here : belongs_to epoch other s ≡ true = All-head (λ (x : List ℕ). belongs_to epoch other x ≡ true) s row all in
    let named : u32_at s 504 ≡ other = eqb-true _ _ (and_parts _ _ here).0 in
    and_left (eqb (u32_at s 504) tid) (eqb (u32_at s 508) epoch) (ne_eqb (u32_at s 504) tid (λ same. differ (sym same ∙ named)))

-- the transactions by the row at the front, and its run
pub by_row : (g : Geometry) (h : Header) (tid at more : ℕ) (rest row : List (List ℕ)) (run : Run)
    → row_of h.epoch tid rest ≡ row → run_of g tid (payload_of row) ≡ run
    → transactions_from g (ring_of g) h (suc more) tid at rest ≡ transactions_at run tid ((h.head + at) % ring_of g) (length row) (λ _. transactions_from g (ring_of g) h more (tid + 1) (at + length row) (drop (length row) rest))
unfolding transactions_from
by_row g h tid at more rest row run row_is is =
    let listing : List (List ℕ) → Run → Transactions = λ r u.
    transactions_at u tid ((h.head + at) % ring_of g) (length r) (λ _. transactions_from g (ring_of g) h more (tid + 1) (at + length r) (drop (length r) rest)) in
    ap (λ (r : List (List ℕ)). listing r (run_of g tid (payload_of r))) row_is ∙ ap (λ (u : Run). listing row u) is

-- no bytes are no transaction
pub empty_is_short : (g : Geometry) (tid : ℕ) → run_of g tid [] ≡ Short
unfolding run_after front_of
empty_is_short g tid = refl

-- a whole transaction at the front is listed, and the listing goes on after it
pub tx_listed : (g : Geometry) (h : Header) (tid at more : ℕ) (row rest : List (List ℕ)) (deltas : List Delta)
    → All (λ s. belongs_to h.epoch tid s ≡ true) row → EndsBefore h.epoch tid rest → run_of g tid (payload_of row) ≡ Whole deltas
    → transactions_from g (ring_of g) h (suc more) tid at (row ++ rest)
    ≡ with_tx (record { tid = tid; first = (h.head + at) % ring_of g; sectors = length row; deltas = deltas }) (transactions_from g (ring_of g) h more (tid + 1) (at + length row) rest)
tx_listed g h tid at more row rest deltas all ends is =
    let tx : Tx = record { tid = tid; first = (h.head + at) % ring_of g; sectors = length row; deltas = deltas } in
    by_row g h tid at more (row ++ rest) row (Whole deltas) (row_before h.epoch tid row rest all ends) is
    ∙ ap (λ (l : List (List ℕ)). with_tx tx (transactions_from g (ring_of g) h more (tid + 1) (at + length row) l)) (drop_at row rest (length row) refl)

-- a short run ends the listing
pub short_ends : (g : Geometry) (h : Header) (n tid at : ℕ) (row rest : List (List ℕ)) → All (λ s. belongs_to h.epoch tid s ≡ true) row → EndsBefore h.epoch tid rest
    → run_of g tid (payload_of row) ≡ Short → transactions_from g (ring_of g) h n tid at (row ++ rest) ≡ Listed []
unfolding transactions_from
short_ends g h zero tid at row rest all ends is = refl
short_ends g h (suc n) tid at row rest all ends is = by_row g h tid at n (row ++ rest) row Short (row_before h.epoch tid row rest all ends) is
