-- How many bytes, sectors and deltas a transaction has.
use Rattle.std.proofs.Common.{◌≡◌, ℕ, suc, ◌+◌, ◌-◌, ◌*◌, ◌/◌, ◌%◌, ◌^◌, ◌≤◌, ◌<◌, inl, inr, true, false, List, [], ◌∷◌, ◌++◌, length, take, replicate, get_or, cond, refl, sym, ap, ◌∙◌, arith, append_assoc, length-append}
use Rattle.std.specs.List.{All, AllPairs, flat_map}
use Rattle.std.proofs.Math.Nat.{mul-le-mul}
use Rattle.std.proofs.lemmas.Bool.{and_parts, eqb-true, leb-true, ltb-true, cond-true, cond-false}
use Rattle.std.proofs.lemmas.List.{take_at, replicate-append-replicate, length-replicate}
use Rattle.std.proofs.lemmas.List.Elements.{All-head, All-tail}
use Rattle.std.proofs.lemmas.List.Sums.{sum_by-cons}
use Rattle.lufs_base.specs.Layout.{IsGeometry, blocks_of}
use Rattle.lufs_base.specs.declared.geometry.Geometry.{Geometry}
use Rattle.lufs_base.specs.declared.delta.Delta.{Delta}
use Rattle.lufs_base.specs.declared.delta.DeltaKind.{DeltaKind}
use Rattle.lufs_base.specs.declared.delta.DeltaKind.TheVariants.{Group, Inode, Chunk, Pointers, Zero, LinkText, Cancel}
use Rattle.volume_model.specs.Log.{logged_len, delta_bytes, is_zero_block, is_part_of_block, may_be_logged, may_precede, AreLoggable, tx_sectors, delta_record, commit_record, records_of, tx_payload}
use Rattle.log_laws.proofs.DeltaOrder.{rises_of}

pub length-records_of : (deltas : List Delta) (tid : ℕ) → length (records_of deltas tid) ≡ length (flat_map delta_record deltas) + 16
length-records_of deltas tid = length-append (flat_map delta_record deltas) (commit_record tid (length deltas))

flat_size : (deltas : List Delta) → All (λ d. length d.bytes ≡ logged_len d.kind d.len) deltas → length (flat_map delta_record deltas) ≡ delta_bytes deltas
flat_size [] bytes = refl
flat_size (d ∷ rest) bytes =
    let here : length d.bytes ≡ logged_len d.kind d.len = All-head (λ (e : Delta). length e.bytes ≡ logged_len e.kind e.len) d rest bytes in
    let behind = flat_size rest (All-tail (λ (e : Delta). length e.bytes ≡ logged_len e.kind e.len) d rest bytes) in
    let sum = sum_by-cons (λ (e : Delta). 16 + logged_len e.kind e.len) d rest in
    omega (arith, length-append (delta_record d) (flat_map delta_record rest), here, behind, sum)

pub records_size : (g : Geometry) (deltas : List Delta) (tid : ℕ) → AreLoggable g deltas → length (records_of deltas tid) ≡ delta_bytes deltas + 16
records_size g deltas tid are = length-records_of deltas tid ∙ ap (λ (n : ℕ). n + 16) (flat_size deltas are.bytes)

-- the payload is what the records and zeros fill of the sectors
pub payload_filled : (g : Geometry) (deltas : List Delta) (tid size : ℕ) (out : List ℕ) → AreLoggable g deltas → size ≡ 512 * tx_sectors deltas → length out ≡ size
    → out ≡ records_of deltas tid ++ replicate (size - length (records_of deltas tid)) 0 → take (504 * (length out / 512)) out ≡ tx_payload deltas tid
payload_filled g deltas tid size out are size_is long out_is =
    let records : List ℕ = records_of deltas tid in
    let bytes : length (records_of deltas tid) ≡ delta_bytes deltas + 16 = records_size g deltas tid are in
    let zeros = 504 * tx_sectors deltas - length records in
    let rest = size - length records - zeros in
    let count : 504 * (length out / 512) ≡ 504 * tx_sectors deltas = omega (arith, bytes) in
    let sum : zeros + rest ≡ size - length records = omega (arith, bytes) in
    let whole : length (records ++ replicate zeros 0) ≡ 504 * tx_sectors deltas = omega (arith, bytes, length-append records (replicate zeros 0), length-replicate {A = ℕ} zeros 0) in
    let split : out ≡ (records ++ replicate zeros 0) ++ replicate rest 0 =
    out_is
    ∙ ap (λ (n : ℕ). records ++ replicate n 0) (sym sum)
    ∙ ap (λ (l : List ℕ). records ++ l) (sym (replicate-append-replicate zeros rest 0))
    ∙ sym (append_assoc records (replicate zeros 0) (replicate rest 0)) in
    ap (λ (n : ℕ). take n out) count
    ∙ ap (λ (l : List ℕ). take (504 * tx_sectors deltas) l) split
    ∙ take_at (records ++ replicate zeros 0) (replicate rest 0) (504 * tx_sectors deltas) whole

-- a number of a kind and a home that rises along a transaction
rank : DeltaKind → ℕ → ℕ
rank kind home = 2 * home + cond (is_zero_block kind) 0 1

rank_rises : (d : Delta) (kind : DeltaKind) (home : ℕ) → may_precede d kind home ≡ true → rank d.kind d.home < rank kind home
unfolding rank
rank_rises d kind home may =
    elim (rises_of d kind home may) [
      | inl less ↦ elim (is_zero_block d.kind) as (λ b. 2 * d.home + cond b 0 1 < rank kind home) [ true ↦ omega arith | false ↦ omega arith ]
      | inr laid ↦ omega (arith, cond-true {A = ℕ} (is_zero_block d.kind) 0 1 laid.1, cond-false {A = ℕ} (is_zero_block kind) 0 1 laid.2)
    ]

rank_low : (kind : DeltaKind) (home : ℕ) → rank kind home ≤ 2 * home + 1
unfolding rank
rank_low kind home = elim (is_zero_block kind) as (λ b. 2 * home + cond b 0 1 ≤ 2 * home + 1) [ true ↦ omega arith | false ↦ omega arith ]

count_below : (deltas : List Delta) (low high : ℕ) → low ≤ high → All (λ d. low ≤ rank d.kind d.home) deltas → All (λ d. rank d.kind d.home < high) deltas
    → AllPairs (λ d later. rank d.kind d.home < rank later.kind later.home) deltas → length deltas + low ≤ high
count_below [] low high room above below rise = omega arith
count_below (d ∷ rest) low high room above below rise =
    let here : low ≤ rank d.kind d.home = All-head (λ (e : Delta). low ≤ rank e.kind e.home) d rest above in
    let top : rank d.kind d.home < high = All-head (λ (e : Delta). rank e.kind e.home < high) d rest below in
    let behind = count_below rest (rank d.kind d.home + 1) high (omega arith)
    (λ k x inside. omega (arith, rise 0 (suc k) x (omega arith) (omega (arith, inside))))
    (All-tail (λ (e : Delta). rank e.kind e.home < high) d rest below)
    (λ i j x less inside. rise (suc i) (suc j) x (omega (arith, less)) (omega (arith, inside))) in
    omega (arith, here, behind)

pub few_blocks : (g : Geometry) → IsGeometry g → blocks_of g ≤ 139267
few_blocks g is = let groups : g.groups * g.bpg ≤ 64 * 2048 = mul-le-mul is.groups_high is.bpg_high in omega (arith, groups, is.log_high)

pub low_home : (g : Geometry) (kind : DeltaKind) (home len : ℕ) → may_be_logged g kind home len ≡ true → home / 4096 < blocks_of g
unfolding may_be_logged
low_home g kind home len may = ltb-true _ _ (and_parts _ _ (and_parts _ _ may).0).0

part_is_short : (kind : DeltaKind) (place len : ℕ) → is_part_of_block kind place len ≡ true → len ≤ 4096
part_is_short Group place len part = omega (arith, eqb-true len 416 (and_parts _ _ part).1)
part_is_short Inode place len part = omega (arith, eqb-true len 128 (and_parts _ _ part).1)
part_is_short Chunk place len part = omega (arith, eqb-true len 512 (and_parts _ _ part).1)
part_is_short Pointers place len part = omega (arith, leb-true (place + len) 4096 (and_parts _ _ part).1)
part_is_short Zero place len part = omega (arith, eqb-true len 4096 (and_parts _ _ part).1)
part_is_short LinkText place len part = omega (arith, leb-true len 1024 (and_parts _ _ part).1)
part_is_short Cancel place len part = omega (arith, eqb-true len 4096 (and_parts _ _ part).1)

pub low_len : (g : Geometry) (kind : DeltaKind) (home len : ℕ) → may_be_logged g kind home len ≡ true → len ≤ 4096
unfolding may_be_logged
low_len g kind home len may = part_is_short kind (home % 4096) len (and_parts _ _ may).1

pub few_deltas : (g : Geometry) (deltas : List Delta) → IsGeometry g → AreLoggable g deltas → length deltas < 2 ^ 32
few_deltas g deltas is are =
    let count = count_below deltas 0 1140875264 (omega arith) (λ k x inside. omega arith)
    (λ k x inside.
    let d : Delta = get_or deltas k x in
    omega (arith, few_blocks g is, low_home g d.kind d.home d.len (are.table k x inside), rank_low d.kind d.home))
    (λ i j x less inside. rank_rises _ _ _ (are.order i j x less inside)) in
    omega (arith, count)
