-- What the deltas of a log lay, block by block, is what its replay gives.
use Rattle.std.proofs.Common.{◌≡◌, ◌≤◌, ◌<◌, inl, inr, ℕ, zero, suc, ◌+◌, ◌-◌, ◌*◌, ◌/◌, ◌%◌, eqb, leb, ltb, Bool, true, false, not, ◌&&◌, cond, List, [], ◌∷◌, ◌++◌, length, drop, slice_index, Option, Some, None, refl, sym, ap, subst, ◌∙◌, arith}
use Rattle.std.specs.Option.{unwrap_or}
use Rattle.std.specs.List.{AllByRecursion, list_any, filter, filter_map, last_or, cons_option}
use Rattle.std.proofs.lemmas.Bool.{cases_Bool, false≢true, and_parts, and_cases, and_left, and_right, eqb-true, eqb-false, leb-true, lt-leb, le-ltb, not-false, cases_order}
use Rattle.std.proofs.lemmas.List.{ext_get_or}
use Rattle.std.proofs.lemmas.List.Elements.{recursion_from_All}
use Rattle.lufs_base.specs.Kinds.{has_bytes}
use Rattle.lufs_base.specs.Layout.{ring_of}
use Rattle.lufs_base.specs.declared.geometry.Geometry.{Geometry}
use Rattle.lufs_base.specs.declared.delta.Delta.{Delta}
use Rattle.lufs_base.specs.declared.delta.DeltaKind.{DeltaKind}
use Rattle.lufs_base.specs.declared.delta.DeltaKind.TheVariants.{Group, Inode, Chunk, Pointers, Zero, LinkText, Cancel}
use Rattle.volume_model.specs.declared.log.Header.{Header}
use Rattle.volume_model.specs.declared.log.Tx.{Tx}
use Rattle.volume_model.specs.Format.{Image}
use Rattle.volume_model.specs.Log.{Transactions, Listed, BadRun, Log, WithHeader, Run, Whole, Short, Bad, may_be_logged, is_part_of_block, is_cancel, is_zero_block, with_tx, transactions_at, transactions_from, row_of, payload_of, run_of, ring_from, log_after, log_with, log_of, cancels, live_deltas, byte_of, given_at, replayed, recovered, recovered_by, lays_on}
use Rattle.volume_model.proofs.ReplayLaws.{length-replayed, byte_replayed}
use Rattle.log_laws.proofs.WholeRun.{whole_loggable}
use Rattle.meta_store.specs.LaidSize.{length-laid_over}
use Rattle.meta_store.specs.Laid.{given_in_block, laid_byte, laid_over, laid_on, IsWithinBlock, AreWithinBlocks}
use Rattle.meta_store.proofs.LaidBlocks.{laid_over_at}

-- a cancel gives no byte
pub cancel_gives_none : (d : Delta) (i : ℕ) (kind : DeltaKind) → is_cancel kind ≡ true → cond (has_bytes kind) (Some (slice_index d.bytes i)) (cond (is_zero_block kind) (Some 0) None) ≡ None
cancel_gives_none d i Group is = absurd (false≢true is)
cancel_gives_none d i Inode is = absurd (false≢true is)
cancel_gives_none d i Chunk is = absurd (false≢true is)
cancel_gives_none d i Pointers is = absurd (false≢true is)
cancel_gives_none d i Zero is = absurd (false≢true is)
cancel_gives_none d i LinkText is = absurd (false≢true is)
cancel_gives_none d i Cancel is = refl

pub none_or_none : (test : Bool) (given : Option ℕ) → given ≡ None → cond test given None ≡ None
none_or_none true given is = is
none_or_none false given is = refl

-- a delta of another block covers no byte of this one
elsewhere : (b address : ℕ) (d : Delta) → 4096 * b ≤ address → address < 4096 * b + 4096 → IsWithinBlock d → (d.home / 4096 ≡ b → ⊥) → (leb d.home address && ltb address (d.home + d.len)) ≡ false
elsewhere b address d low high within other =
    elim (cases_order (d.home / 4096) b) [
      | inl same ↦ absurd (other same)
      | inr (inl before) ↦ and_right (leb d.home address) (ltb address (d.home + d.len)) (le-ltb address (d.home + d.len) (omega (arith, before, low, within)))
      | inr (inr behind) ↦ and_left (leb d.home address) (ltb address (d.home + d.len)) (lt-leb d.home address (omega (arith, behind, high)))
    ]

gives_nothing : (b address : ℕ) (d : Delta) → 4096 * b ≤ address → address < 4096 * b + 4096 → IsWithinBlock d → lays_on b d ≡ false → given_at address d ≡ None
gives_nothing b address d low high within not_here =
    elim (and_cases (eqb (d.home / 4096) b) (not (is_cancel d.kind)) not_here) [
      | inl other ↦ ap (λ (test : Bool). cond test (byte_of d (address - d.home)) None) (elsewhere b address d low high within (eqb-false (d.home / 4096) b other))
      | inr cancel ↦ none_or_none (leb d.home address && ltb address (d.home + d.len)) (byte_of d (address - d.home)) (cancel_gives_none d (address - d.home) d.kind (not-false (is_cancel d.kind) cancel))
    ]

-- the deltas of the block give for its byte what all deltas give
pub given_by_block : (b place address : ℕ) (deltas : List Delta) → place < 4096 → address ≡ 4096 * b + place → AllByRecursion IsWithinBlock deltas
    → filter_map (given_in_block place) (filter (lays_on b) deltas) ≡ filter_map (given_at address) deltas
given_by_block b place address [] low is within = refl
given_by_block b place address (d ∷ deltas) low is within =
    let rest = given_by_block b place address deltas low is within.1 in
    elim (cases_Bool (lays_on b d)) [
      | inl here ↦
          let its_block : d.home / 4096 ≡ b = eqb-true (d.home / 4096) b (and_parts (eqb (d.home / 4096) b) (not (is_cancel d.kind)) here).0 in
          let its_byte : 4096 * (d.home / 4096) + place ≡ address = ap (λ (n : ℕ). 4096 * n + place) its_block ∙ sym is in
          ap (λ (test : Bool). filter_map (given_in_block place) (cond test (d ∷ filter (lays_on b) deltas) (filter (lays_on b) deltas))) here
          ∙ ap (λ (a : ℕ). cons_option (given_at a d) (filter_map (given_in_block place) (filter (lays_on b) deltas))) its_byte
          ∙ ap (λ (l : List ℕ). cons_option (given_at address d) l) rest
      | inr other ↦
          ap (λ (test : Bool). filter_map (given_in_block place) (cond test (d ∷ filter (lays_on b) deltas) (filter (lays_on b) deltas))) other
          ∙ rest
          ∙ ap (λ (given : Option ℕ). cons_option given (filter_map (given_at address) deltas)) (sym (gives_nothing b address d (omega (arith, is)) (omega (arith, is, low)) within.0 other))
    ]

filter_within : (keeps : Delta → Bool) (deltas more : List Delta) → AllByRecursion IsWithinBlock deltas → AllByRecursion IsWithinBlock more → AllByRecursion IsWithinBlock (filter keeps deltas ++ more)
filter_within keeps [] more within rest = rest
filter_within keeps (d ∷ deltas) more within rest =
    let behind = filter_within keeps deltas more within.1 rest in
    elim (keeps d) as (λ kept. AllByRecursion IsWithinBlock (cond kept (d ∷ filter keeps deltas) (filter keeps deltas) ++ more)) [
      | true ↦ (within.0, behind)
      | false ↦ behind
    ]

live_within : (txs : List Tx) → AreWithinBlocks txs → AllByRecursion IsWithinBlock (live_deltas txs)
live_within [] within = tt
live_within (tx ∷ later) within =
    filter_within (λ d. not (list_any (cancels (d.home / 4096)) later)) tx.deltas (live_deltas later) within.0 (live_within later within.1)

replayed_byte : (image : Image) (txs : List Tx) (i : ℕ) → AreWithinBlocks txs → laid_byte (laid_on txs (i / 4096)) (i % 4096) (slice_index image i)
    ≡ unwrap_or (last_or None (filter_map (given_at i) (live_deltas txs))) (slice_index image i)
unfolding laid_on
replayed_byte image txs i within =
    let low : i % 4096 < 4096 = omega arith in
    let parts : i ≡ 4096 * (i / 4096) + i % 4096 = omega arith in
    ap (λ (l : List ℕ). unwrap_or (last_or None l) (slice_index image i)) (given_by_block (i / 4096) (i % 4096) i (live_deltas txs) low parts (live_within txs within))

pub replay_laid : (image : Image) (txs : List Tx) (deltas_of : ℕ → List Delta) → ((b : ℕ) → deltas_of b ≡ laid_on txs b) → AreWithinBlocks txs → replayed image txs ≡ laid_over deltas_of image
replay_laid image txs deltas_of same within =
    let size = length-replayed image txs in
    let laid = length-laid_over deltas_of image in
    ext_get_or 0 (replayed image txs) (laid_over deltas_of image) (size ∙ sym laid) (λ i below.
    let inside : i < length image = omega (arith, below, size) in
    byte_replayed image txs i inside
    ∙ sym (replayed_byte image txs i within)
    ∙ ap (λ (l : List Delta). laid_byte l (i % 4096) (slice_index image i)) (sym (same (i / 4096)))
    ∙ sym (laid_over_at deltas_of image i inside))

part_within : (kind : DeltaKind) (place len : ℕ) → place < 4096 → is_part_of_block kind place len ≡ true → place + len ≤ 4096
part_within Group place len low is = let p = and_parts (eqb place 0) (eqb len 416) is in omega (arith, eqb-true place 0 p.0, eqb-true len 416 p.1)
part_within Inode place len low is = let p = and_parts (eqb (place % 128) 0) (eqb len 128) is in omega (arith, low, eqb-true (place % 128) 0 p.0, eqb-true len 128 p.1)
part_within Chunk place len low is = let p = and_parts (eqb (place % 512) 0) (eqb len 512) is in omega (arith, low, eqb-true (place % 512) 0 p.0, eqb-true len 512 p.1)
part_within Pointers place len low is = leb-true (place + len) 4096 (and_parts _ (leb (place + len) 4096) is).1
part_within Zero place len low is = let p = and_parts (eqb place 0) (eqb len 4096) is in omega (arith, eqb-true place 0 p.0, eqb-true len 4096 p.1)
part_within LinkText place len low is =
    let p = and_parts _ (leb len 1024) is in
    let q = and_parts (eqb place 0) (leb 1 len) p.0 in
    omega (arith, eqb-true place 0 q.0, leb-true len 1024 p.1)
part_within Cancel place len low is = let p = and_parts (eqb place 0) (eqb len 4096) is in omega (arith, eqb-true place 0 p.0, eqb-true len 4096 p.1)

pub logged_within : (g : Geometry) (kind : DeltaKind) (home len : ℕ) → may_be_logged g kind home len ≡ true → home % 4096 + len ≤ 4096
unfolding may_be_logged
logged_within g kind home len is =
    let low : home % 4096 < 4096 = omega arith in
    part_within kind (home % 4096) len low (and_parts _ (is_part_of_block kind (home % 4096) len) is).1

run_within : (g : Geometry) (tid : ℕ) (payload : List ℕ) (deltas : List Delta) → run_of g tid payload ≡ Whole deltas → AllByRecursion IsWithinBlock deltas
run_within g tid payload deltas is =
    recursion_from_All IsWithinBlock deltas (λ k d inside. logged_within g _ _ _ ((whole_loggable g tid payload deltas is).table k d inside))

by_more : (tx : Tx) (more : Transactions) (txs : List Tx) → AllByRecursion IsWithinBlock tx.deltas → ((later : List Tx) → more ≡ Listed later → AreWithinBlocks later)
    → with_tx tx more ≡ Listed txs → AreWithinBlocks txs
by_more tx (Listed later) txs within rest is = let same : tx ∷ later ≡ txs = cc in subst (λ (l : List Tx). AreWithinBlocks l) same (within, rest later refl)
by_more tx (BadRun tid place) txs within rest is = absurd (cc)

by_run : (g : Geometry) (tid place sectors : ℕ) (payload : List ℕ) (run : Run) (more : Unit {0} → Transactions) (txs : List Tx) → run_of g tid payload ≡ run
    → ((later : List Tx) → more tt ≡ Listed later → AreWithinBlocks later) → transactions_at run tid place sectors more ≡ Listed txs → AreWithinBlocks txs
by_run g tid place sectors payload (Whole deltas) more txs run rest is =
    by_more (record { tid = tid; first = place; sectors = sectors; deltas = deltas }) (more tt) txs (run_within g tid payload deltas run) rest is
by_run g tid place sectors payload Short more txs run rest is = let same : [] ≡ txs = cc in subst (λ (l : List Tx). AreWithinBlocks l) same tt
by_run g tid place sectors payload Bad more txs run rest is = absurd (cc)

from_within : (g : Geometry) (places : ℕ) (h : Header) (n tid at : ℕ) (ring : List (List ℕ)) (txs : List Tx) → transactions_from g places h n tid at ring ≡ Listed txs → AreWithinBlocks txs
unfolding transactions_from
from_within g places h zero tid at ring txs is = let same : [] ≡ txs = cc in subst (λ (l : List Tx). AreWithinBlocks l) same tt
from_within g places h (suc n) tid at ring txs is =
    let row = row_of h.epoch tid ring in
    by_run g tid ((h.head + at) % places) (length row) (payload_of row) (run_of g tid (payload_of row)) (λ _. transactions_from g places h n (tid + 1) (at + length row) (drop (length row) ring)) txs refl
    (λ later more. from_within g places h n (tid + 1) (at + length row) (drop (length row) ring) later more) is

by_header : (g : Geometry) (at_place : ℕ → List ℕ) (found : Option Header) (h : Header) (txs : List Tx) → log_after g at_place found ≡ WithHeader h (Listed txs) → AreWithinBlocks txs
by_header g at_place None h txs is = absurd (cc)
by_header g at_place (Some found) h txs is =
    let ring : List (List ℕ) = ring_from (ring_of g) found.head at_place in
    let from : transactions_from g (ring_of g) found (suc (ring_of g)) found.tid 0 ring ≡ Listed txs = cc in
    from_within g (ring_of g) found (suc (ring_of g)) found.tid 0 ring txs from

by_sectors : (g : Geometry) (header : List ℕ) (at_place : ℕ → List ℕ) (h : Header) (txs : List Tx) → log_with g header at_place ≡ WithHeader h (Listed txs) → AreWithinBlocks txs
unfolding log_with
by_sectors g header at_place h txs is = by_header g at_place _ h txs is

-- each delta of a log lies within one block
pub log_within : (g : Geometry) (image : Image) (h : Header) (txs : List Tx) → log_of g image ≡ WithHeader h (Listed txs) → AreWithinBlocks txs
log_within g image h txs is = by_sectors g _ _ h txs is

pub recovered_laid : (g : Geometry) (image : Image) (h : Header) (txs : List Tx) (deltas_of : ℕ → List Delta) → log_of g image ≡ WithHeader h (Listed txs) → ((b : ℕ) → deltas_of b ≡ laid_on txs b)
    → recovered g image ≡ Some (laid_over deltas_of image)
recovered_laid g image h txs deltas_of is same =
    ap (λ (log : Log). recovered_by image log) is ∙ ap (λ (i : Image). Some i) (replay_laid image txs deltas_of same (log_within g image h txs is))
