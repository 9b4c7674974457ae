-- The transactions of the ring, one after the other.
use Rattle.std.proofs.Common.{◌≡◌, ℕ, suc, zero, ◌+◌, ◌-◌, ◌*◌, ◌%◌, ◌^◌, ◌<◌, ◌≤◌, false, List, [], ◌∷◌, ◌++◌, length, take, drop, refl, sym, ap, subst, ◌∙◌, arith, append_assoc, length-take, inl, inr, eqb}
use Rattle.std.specs.List.{All, prefix_len, range_with_len}
use Rattle.std.proofs.lemmas.Bool.{cases_lt, ne_eqb, and_left, cond-false}
use Rattle.std.proofs.lemmas.List.{drop-drop, get_or-take, get_or-drop, get_or_past, length_push}
use Rattle.std.proofs.lemmas.List.Elements.{All-drop, All-map, All-head}
use Rattle.lufs_base.specs.Fields.{AreBytes, u32_at, number_in}
use Rattle.lufs_base.specs.Layout.{ring_of}
use Rattle.lufs_base.specs.declared.geometry.Geometry.{Geometry}
use Rattle.lufs_base.specs.declared.delta.Delta.{Delta}
use Rattle.volume_model.specs.declared.log.Header.{Header}
use Rattle.volume_model.specs.declared.log.Tx.{Tx}
use Rattle.volume_model.specs.Log.{Run, Short, Whole, run_of, run_after, front_of, belongs_to, Transactions, Listed, BadRun, with_tx, row_of, payload_of, transactions_at, transactions_from}
use Rattle.volume_model.specs.Format.{sector, sectors_of, sectors_in}
use Rattle.log_scan.proofs.RingSteps.{length-row_of}

-- the transactions with these in front
abbrev pub with_front : List Tx → Transactions → Transactions
with_front txs (Listed more) = Listed (txs ++ more)
with_front txs (BadRun tid place) = BadRun tid place

pub with_front-nil : (listing : Transactions) → with_front [] listing ≡ listing
with_front-nil (Listed more) = refl
with_front-nil (BadRun tid place) = refl

pub with_front-push : (txs : List Tx) (tx : Tx) (listing : Transactions) → with_front txs (with_tx tx listing) ≡ with_front (txs ++ tx ∷ []) listing
with_front-push txs tx (Listed more) = ap (λ (l : List Tx). Listed l) (sym (append_assoc txs (tx ∷ []) more))
with_front-push txs tx (BadRun tid place) = refl

-- the transactions by the run at the front, whose payload is that of the row of so many sectors
pub by_run : (g : Geometry) (h : Header) (tid at sectors more : ℕ) (rest : List (List ℕ)) (payload : List ℕ) (run : Run)
    → sectors ≡ length (row_of h.epoch tid rest) → payload ≡ payload_of (take sectors rest) → run_of g tid payload ≡ run
    → transactions_from g (ring_of g) h (suc more) tid at rest ≡ transactions_at run tid ((h.head + at) % ring_of g) sectors (λ _. transactions_from g (ring_of g) h more (tid + 1) (at + sectors) (drop sectors rest))
unfolding transactions_from
by_run g h tid at sectors more rest payload run count joined is =
    let row : take sectors rest ≡ row_of h.epoch tid rest = ap (λ (n : ℕ). take n rest) (count ∙ length-row_of h.epoch tid rest) in
    let found : run_of g tid (payload_of (row_of h.epoch tid rest)) ≡ run = ap (λ (l : List ℕ). run_of g tid l) (sym (joined ∙ ap payload_of row)) ∙ is in
    ap (λ (r : Run). transactions_at r tid ((h.head + at) % ring_of g) (length (row_of h.epoch tid rest)) (λ _. transactions_from g (ring_of g) h more (tid + 1) (at + length (row_of h.epoch tid rest)) (drop (length (row_of h.epoch tid rest)) rest))) found
    ∙ ap (λ (n : ℕ). transactions_at run tid ((h.head + at) % ring_of g) n (λ _. transactions_from g (ring_of g) h more (tid + 1) (at + n) (drop n rest))) (sym count)

-- no bytes are no transaction
pub empty_is_short : (g : Geometry) (tid : ℕ) → run_of g tid [] ≡ Short
unfolding run_after front_of
empty_is_short g tid = refl

-- the parts of bytes are bytes
sector_has_bytes : (bytes : List ℕ) (k : ℕ) → AreBytes bytes → AreBytes (sector bytes k)
sector_has_bytes bytes k are i =
    elim (cases_lt i 512) [
      | inl below ↦ subst (λ (n : ℕ). n < 256) (sym (get_or-take 512 (drop (512 * k) bytes) i 0 below ∙ get_or-drop (512 * k) bytes i 0)) (are (512 * k + i))
      | inr past ↦
          let end : length (take 512 (drop (512 * k) bytes)) ≤ i = omega (arith, length-take 512 (drop (512 * k) bytes)) in
          subst (λ (n : ℕ). n < 256) (sym (get_or_past (take 512 (drop (512 * k) bytes)) i 0 end)) (omega arith)
    ]

pub sectors_have_bytes : (bytes : List ℕ) (at : ℕ) → AreBytes bytes → All AreBytes (drop at (sectors_in bytes))
sectors_have_bytes bytes at are =
    All-drop AreBytes at (sectors_in bytes) (All-map AreBytes (sector bytes) (range_with_len 0 (sectors_of bytes)) (λ k d below. sector_has_bytes bytes _ are))

u32_fits : (s : List ℕ) (at : ℕ) → AreBytes s → u32_at s at < 2 ^ 32
unfolding number_in
u32_fits s at are =
    let part : AreBytes (drop at s) = λ i. subst (λ (n : ℕ). n < 256) (sym (get_or-drop at s i 0)) (are (at + i)) in
    omega (arith, part 0, part 1, part 2, part 3)

-- a sector has no number above those of 32 bits
no_row : (epoch tid : ℕ) (rest : List (List ℕ)) → 2 ^ 32 ≤ tid → All AreBytes rest → 0 ≡ length (row_of epoch tid rest)
no_row epoch tid [] high are = refl
no_row epoch tid (s ∷ rest) high are =
    let fits = u32_fits s 504 (All-head AreBytes s rest are) in
    let other : eqb (u32_at s 504) tid ≡ false = ne_eqb (u32_at s 504) tid (λ same. omega (arith, fits, same)) in
    let none : prefix_len (belongs_to epoch tid) (s ∷ rest) ≡ 0 =
    cond-false (belongs_to epoch tid s) (1 + prefix_len (belongs_to epoch tid) rest) 0 (and_left (eqb (u32_at s 504) tid) (eqb (u32_at s 508) epoch) other) in
    sym (length-row_of epoch tid (s ∷ rest) ∙ none)

pub no_number_above : (g : Geometry) (h : Header) (more tid at : ℕ) (rest : List (List ℕ)) → 2 ^ 32 ≤ tid → All AreBytes rest → transactions_from g (ring_of g) h more tid at rest ≡ Listed []
unfolding transactions_from
no_number_above g h zero tid at rest high are = refl
no_number_above g h (suc more) tid at rest high are = by_run g h tid at 0 more rest [] Short (no_row h.epoch tid rest high are) refl (empty_is_short g tid)

-- the listing goes on after the transaction at its front
pub listing_more : (g : Geometry) (h : Header) (tid at sectors : ℕ) (txs more : List Tx) (tx : Tx) (ring : List (List ℕ)) (whole : Transactions)
    → ((n : ℕ) → transactions_from g (ring_of g) h (suc n) tid at (drop at ring) ≡ with_tx tx (transactions_from g (ring_of g) h n (tid + 1) (at + sectors) (drop sectors (drop at ring))))
    → more ≡ txs ++ tx ∷ [] → length txs < ring_of g
    → with_front txs (transactions_from g (ring_of g) h (suc (ring_of g - length txs)) tid at (drop at ring)) ≡ whole
    → with_front more (transactions_from g (ring_of g) h (suc (ring_of g - length more)) (tid + 1) (at + sectors) (drop (at + sectors) ring)) ≡ whole
listing_more g h tid at sectors txs more tx ring whole step pushed room so_far =
    let count : length more ≡ length txs + 1 = ap length pushed ∙ length_push txs tx in
    let fuel : suc (ring_of g - length more) ≡ ring_of g - length txs = omega arith in
    ap (λ (l : List Tx). with_front l (transactions_from g (ring_of g) h (suc (ring_of g - length more)) (tid + 1) (at + sectors) (drop (at + sectors) ring))) pushed
    ∙ ap (λ (n : ℕ). with_front (txs ++ tx ∷ []) (transactions_from g (ring_of g) h n (tid + 1) (at + sectors) (drop (at + sectors) ring))) fuel
    ∙ ap (λ (l : List (List ℕ)). with_front (txs ++ tx ∷ []) (transactions_from g (ring_of g) h (ring_of g - length txs) (tid + 1) (at + sectors) l)) (sym (drop-drop sectors at ring))
    ∙ sym (with_front-push txs tx (transactions_from g (ring_of g) h (ring_of g - length txs) (tid + 1) (at + sectors) (drop sectors (drop at ring))))
    ∙ ap (λ (t : Transactions). with_front txs t) (sym (step (ring_of g - length txs)))
    ∙ so_far

-- a whole run has a sector
pub whole_has_sectors : (g : Geometry) (tid sectors : ℕ) (rest : List (List ℕ)) (payload : List ℕ) (deltas : List Delta)
    → payload ≡ payload_of (take sectors rest) → run_of g tid payload ≡ Whole deltas → 0 < sectors
whole_has_sectors g tid zero rest payload deltas joined is =
    let short : run_of g tid payload ≡ Short = ap (λ (l : List ℕ). run_of g tid l) joined ∙ empty_is_short g tid in
    absurd (cc)
whole_has_sectors g tid (suc n) rest payload deltas joined is = omega arith
