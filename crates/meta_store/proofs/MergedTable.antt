-- What is merged of deltas that may be logged may be logged, each by itself.
use Rattle.std.proofs.Common.{◌≡◌, ◌<◌, ◌≤◌, inl, inr, ℕ, ◌+◌, ◌-◌, ◌/◌, ◌%◌, eqb, leb, Bool, true, false, ◌&&◌, cond, List, [], ◌∷◌, ◌++◌, length, map, suc, take, drop, min, max, Some, refl, sym, ap, ◌∙◌, arith, length-take, length-drop, length-append}
use Rattle.std.specs.Prelude.{All, AllPairs, nat_lt}
use Rattle.std.proofs.lemmas.Bool.{cases_Bool, cases_lt, true≢false, and_parts, and_from, eqb-true, eq-eqb, leb-true, le-leb}
use Rattle.std.proofs.lemmas.List.Elements.{All-map, All-weaker}
use Rattle.std.proofs.lemmas.List.Kept.{AllPairs-cons}
use Rattle.lufs_base.specs.Layout.{blocks_of, region_of}
use Rattle.lufs_base.specs.declared.geometry.Geometry.{Geometry}
use Rattle.lufs_base.specs.declared.delta.Delta.{Delta}
use Rattle.lufs_base.specs.declared.delta.DeltaKind.{DeltaKind}
use Rattle.lufs_base.specs.declared.delta.DeltaKind.TheVariants.{Group, Inode, Chunk, Pointers, Zero, LinkText, Cancel}
use Rattle.volume_model.specs.Log.{AreLoggable, may_precede, type_of, kind_of, logged_len, may_be_logged, is_home_of, is_part_of_block}
use Rattle.meta_store.specs.Laid.{IsWithinBlock}
use Rattle.meta_store.specs.Changes.{is_group_at, amended}
use Rattle.meta_store.proofs.LogLaid.{logged_within}
use Rattle.meta_store.specs.Merged.{is_group, is_whole_block, is_same_kind, is_pointers, share_block, touches, meets, replaces, joined, replacing, merged}
use Rattle.meta_store.proofs.MergeSteps.{merged_all}

-- the delta may be logged, with just its bytes
pub record IsLoggable (g : Geometry) (d : Delta) : Type 0 where
  pub table : may_be_logged g d.kind d.home d.len ≡ true
  pub bytes : length d.bytes ≡ logged_len d.kind d.len

pub table_parts : (g : Geometry) (kind : DeltaKind) (home len : ℕ) → may_be_logged g kind home len ≡ true
    → ((nat_lt (home / 4096) (blocks_of g) && is_home_of kind (region_of g (home / 4096))) ≡ true) × (is_part_of_block kind (home % 4096) len ≡ true)
unfolding may_be_logged
table_parts g kind home len is = and_parts (nat_lt (home / 4096) (blocks_of g) && is_home_of kind (region_of g (home / 4096))) (is_part_of_block kind (home % 4096) len) is

table_from : (g : Geometry) (kind : DeltaKind) (home len : ℕ) → (nat_lt (home / 4096) (blocks_of g) && is_home_of kind (region_of g (home / 4096))) ≡ true
    → is_part_of_block kind (home % 4096) len ≡ true → may_be_logged g kind home len ≡ true
unfolding may_be_logged
table_from g kind home len front is = and_from (nat_lt (home / 4096) (blocks_of g) && is_home_of kind (region_of g (home / 4096))) (is_part_of_block kind (home % 4096) len) front is

kind_back : (kind : DeltaKind) → kind_of (type_of kind) ≡ Some kind
kind_back Group = refl
kind_back Inode = refl
kind_back Chunk = refl
kind_back Pointers = refl
kind_back Zero = refl
kind_back LinkText = refl
kind_back Cancel = refl

pub same_kind : (kind other : DeltaKind) → is_same_kind kind other ≡ true → kind ≡ other
same_kind kind other is =
    let types : type_of kind ≡ type_of other = eqb-true (type_of kind) (type_of other) is in
    let both : Some kind ≡ Some other = sym (kind_back kind) ∙ ap kind_of types ∙ kind_back other in
    cc

-- what meets another delta is of its kind, lies in its block, and at its place or next to it
pub record Meets (d older : Delta) : Type 0 where
  pub kind : d.kind ≡ older.kind
  pub block : d.home / 4096 ≡ older.home / 4096
  pub place : is_pointers d.kind ≡ false → d.home ≡ older.home
  pub low : d.home ≤ older.home + older.len
  pub high : older.home ≤ d.home + d.len

pub meets_by : (d older : Delta) → meets d older ≡ true → Meets d older
meets_by d older is =
    let first = and_parts (is_same_kind d.kind older.kind && share_block d older) (cond (is_pointers d.kind) (touches d older) (eqb d.home older.home)) is in
    let front = and_parts (is_same_kind d.kind older.kind) (share_block d older) first.0 in
    elim (cases_Bool (is_pointers d.kind)) [
      | inl pointers ↦
          let touch : touches d older ≡ true = ap (λ (test : Bool). cond test (touches d older) (eqb d.home older.home)) (sym pointers) ∙ first.1 in
          let both = and_parts (leb d.home (older.home + older.len)) (leb older.home (d.home + d.len)) touch in
          record {
            kind = same_kind d.kind older.kind front.0;
            block = eqb-true (d.home / 4096) (older.home / 4096) front.1;
            place = λ not_pointers. absurd (true≢false (sym pointers ∙ not_pointers));
            low = leb-true d.home (older.home + older.len) both.0;
            high = leb-true older.home (d.home + d.len) both.1;
          }
      | inr other ↦
          let same : d.home ≡ older.home = eqb-true d.home older.home (ap (λ (test : Bool). cond test (touches d older) (eqb d.home older.home)) (sym other) ∙ first.1) in
          record {
            kind = same_kind d.kind older.kind front.0;
            block = eqb-true (d.home / 4096) (older.home / 4096) front.1;
            place = λ not_pointers. same;
            low = omega (arith, same);
            high = omega (arith, same);
          }
    ]

-- both parts of a block together are one that may be logged
joined_part : (kind : DeltaKind) (p q len older_len : ℕ) → p < 4096 → q < 4096 → is_part_of_block kind p len ≡ true → is_part_of_block kind q older_len ≡ true → (is_pointers kind ≡ false → p ≡ q)
    → is_part_of_block kind (min p q) (max (p + len) (q + older_len) - min p q) ≡ true
joined_part Group p q len older_len low older_low is older_is place =
    let a = and_parts (eqb p 0) (eqb len 416) is in
    let b = and_parts (eqb q 0) (eqb older_len 416) older_is in
    let l = eqb-true len 416 a.1 in
    let m = eqb-true older_len 416 b.1 in
    let z = eqb-true p 0 a.0 in
    let same = place refl in
    and_from (eqb (min p q) 0) (eqb (max (p + len) (q + older_len) - min p q) 416) (eq-eqb (min p q) 0 (omega (arith, z, same))) (eq-eqb (max (p + len) (q + older_len) - min p q) 416 (omega (arith, z, same, l, m)))
joined_part Inode p q len older_len low older_low is older_is place =
    let a = and_parts (eqb (p % 128) 0) (eqb len 128) is in
    let b = and_parts (eqb (q % 128) 0) (eqb older_len 128) older_is in
    let l = eqb-true len 128 a.1 in
    let m = eqb-true older_len 128 b.1 in
    let z = eqb-true (p % 128) 0 a.0 in
    let same = place refl in
    let least : min p q ≡ p = omega (arith, same) in
    and_from (eqb (min p q % 128) 0) (eqb (max (p + len) (q + older_len) - min p q) 128) (ap (λ (k : ℕ). eqb (k % 128) 0) least ∙ a.0) (eq-eqb (max (p + len) (q + older_len) - min p q) 128 (omega (arith, same, l, m)))
joined_part Chunk p q len older_len low older_low is older_is place =
    let a = and_parts (eqb (p % 512) 0) (eqb len 512) is in
    let b = and_parts (eqb (q % 512) 0) (eqb older_len 512) older_is in
    let l = eqb-true len 512 a.1 in
    let m = eqb-true older_len 512 b.1 in
    let same = place refl in
    let least : min p q ≡ p = omega (arith, same) in
    and_from (eqb (min p q % 512) 0) (eqb (max (p + len) (q + older_len) - min p q) 512) (ap (λ (k : ℕ). eqb (k % 512) 0) least ∙ a.0) (eq-eqb (max (p + len) (q + older_len) - min p q) 512 (omega (arith, same, l, m)))
joined_part Pointers p q len older_len low older_low is older_is place =
    let a = and_parts ((eqb (p % 4) 0 && eqb (len % 4) 0) && leb 4 len) (leb (p + len) 4096) is in
    let a2 = and_parts (eqb (p % 4) 0 && eqb (len % 4) 0) (leb 4 len) a.0 in
    let a3 = and_parts (eqb (p % 4) 0) (eqb (len % 4) 0) a2.0 in
    let b = and_parts ((eqb (q % 4) 0 && eqb (older_len % 4) 0) && leb 4 older_len) (leb (q + older_len) 4096) older_is in
    let b2 = and_parts (eqb (q % 4) 0 && eqb (older_len % 4) 0) (leb 4 older_len) b.0 in
    let b3 = and_parts (eqb (q % 4) 0) (eqb (older_len % 4) 0) b2.0 in
    let p4 = eqb-true (p % 4) 0 a3.0 in
    let q4 = eqb-true (q % 4) 0 b3.0 in
    let l4 = eqb-true (len % 4) 0 a3.1 in
    let m4 = eqb-true (older_len % 4) 0 b3.1 in
    let long = leb-true 4 len a2.1 in
    let end = leb-true (p + len) 4096 a.1 in
    let older_end = leb-true (q + older_len) 4096 b.1 in
    let all = max (p + len) (q + older_len) - min p q in
    let least4 : min p q % 4 ≡ 0 = elim (cases_lt p q) [ inl first ↦ omega (arith, first, p4) | inr second ↦ omega (arith, second, q4) ] in
    let all4 : all % 4 ≡ 0 = elim (cases_lt p q) [
      | inl first ↦ elim (cases_lt (p + len) (q + older_len)) [ inl shorter ↦ omega (arith, first, shorter, p4, q4, m4) | inr longer ↦ omega (arith, first, longer, l4) ]
      | inr second ↦ elim (cases_lt (p + len) (q + older_len)) [ inl shorter ↦ omega (arith, second, shorter, m4) | inr longer ↦ omega (arith, second, longer, p4, q4, l4) ]
    ] in
    and_from ((eqb (min p q % 4) 0 && eqb (all % 4) 0) && leb 4 all) (leb (min p q + all) 4096)
    (and_from (eqb (min p q % 4) 0 && eqb (all % 4) 0) (leb 4 all) (and_from (eqb (min p q % 4) 0) (eqb (all % 4) 0) (eq-eqb (min p q % 4) 0 least4) (eq-eqb (all % 4) 0 all4)) (le-leb 4 all (omega (arith, long))))
    (le-leb (min p q + all) 4096 (omega (arith, end, older_end)))
joined_part Zero p q len older_len low older_low is older_is place =
    let a = and_parts (eqb p 0) (eqb len 4096) is in
    let b = and_parts (eqb q 0) (eqb older_len 4096) older_is in
    let l = eqb-true len 4096 a.1 in
    let m = eqb-true older_len 4096 b.1 in
    let z = eqb-true p 0 a.0 in
    let same = place refl in
    and_from (eqb (min p q) 0) (eqb (max (p + len) (q + older_len) - min p q) 4096) (eq-eqb (min p q) 0 (omega (arith, z, same))) (eq-eqb (max (p + len) (q + older_len) - min p q) 4096 (omega (arith, z, same, l, m)))
joined_part LinkText p q len older_len low older_low is older_is place =
    let a = and_parts (eqb p 0 && leb 1 len) (leb len 1024) is in
    let a2 = and_parts (eqb p 0) (leb 1 len) a.0 in
    let b = and_parts (eqb q 0 && leb 1 older_len) (leb older_len 1024) older_is in
    let z = eqb-true p 0 a2.0 in
    let same = place refl in
    let all = max (p + len) (q + older_len) - min p q in
    and_from (eqb (min p q) 0 && leb 1 all) (leb all 1024)
    (and_from (eqb (min p q) 0) (leb 1 all) (eq-eqb (min p q) 0 (omega (arith, z, same))) (le-leb 1 all (omega (arith, z, same, leb-true 1 len a2.1))))
    (le-leb all 1024 (omega (arith, z, same, leb-true len 1024 a.1, leb-true older_len 1024 b.1)))
joined_part Cancel p q len older_len low older_low is older_is place =
    let a = and_parts (eqb p 0) (eqb len 4096) is in
    let b = and_parts (eqb q 0) (eqb older_len 4096) older_is in
    let l = eqb-true len 4096 a.1 in
    let m = eqb-true older_len 4096 b.1 in
    let z = eqb-true p 0 a.0 in
    let same = place refl in
    and_from (eqb (min p q) 0) (eqb (max (p + len) (q + older_len) - min p q) 4096) (eq-eqb (min p q) 0 (omega (arith, z, same))) (eq-eqb (max (p + len) (q + older_len) - min p q) 4096 (omega (arith, z, same, l, m)))

joined_table : (g : Geometry) (d older : Delta) → Meets d older → may_be_logged g d.kind d.home d.len ≡ true → may_be_logged g older.kind older.home older.len ≡ true
    → may_be_logged g d.kind (joined d older).home (joined d older).len ≡ true
joined_table g d older met is older_is =
    let own = table_parts g d.kind d.home d.len is in
    let its = table_parts g older.kind older.home older.len older_is in
    let home = min d.home older.home in
    let p = d.home % 4096 in
    let q = older.home % 4096 in
    let block : d.home / 4096 ≡ home / 4096 = omega (arith, met.block) in
    let place : min p q ≡ home % 4096 = omega (arith, met.block) in
    let size : max (p + d.len) (q + older.len) - min p q ≡ (joined d older).len = omega (arith, met.block) in
    let kind : is_part_of_block d.kind q older.len ≡ true = ap (λ (k : DeltaKind). is_part_of_block k q older.len) met.kind ∙ its.1 in
    table_from g d.kind home (joined d older).len
    (ap (λ (b : ℕ). nat_lt b (blocks_of g) && is_home_of d.kind (region_of g b)) (sym block) ∙ own.0)
    (ap (λ (k : ℕ). is_part_of_block d.kind k (joined d older).len) (sym place)
    ∙ ap (λ (n : ℕ). is_part_of_block d.kind (min p q) n) (sym size)
    ∙ joined_part d.kind p q d.len older.len (omega arith) (omega arith) own.1 kind (λ other. ap (λ (k : ℕ). k % 4096) (met.place other)))

joined_size : (d older : Delta) → d.home ≤ older.home + older.len → older.home ≤ d.home + d.len → length d.bytes ≡ d.len → length older.bytes ≡ older.len → length (joined d older).bytes ≡ (joined d older).len
joined_size d older low high size older_size =
    let front : List ℕ = take (d.home - older.home) older.bytes in
    let rest : List ℕ = drop (d.home + d.len - older.home) older.bytes in
    omega (arith, low, high, size, older_size, length-append front (d.bytes ++ rest), length-append d.bytes rest, length-take (d.home - older.home) older.bytes, length-drop (d.home + d.len - older.home) older.bytes)

pub logged_len_of : (kind : DeltaKind) (len : ℕ) → is_whole_block kind ≡ false → logged_len kind len ≡ len
logged_len_of Group len part = refl
logged_len_of Inode len part = refl
logged_len_of Chunk len part = refl
logged_len_of Pointers len part = refl
logged_len_of Zero len part = absurd (true≢false part)
logged_len_of LinkText len part = refl
logged_len_of Cancel len part = absurd (true≢false part)

pub replacing_loggable : (g : Geometry) (d older : Delta) → replaces d older ≡ true → IsLoggable g d → IsLoggable g older → IsLoggable g (replacing d older)
replacing_loggable g d older is own its = elim (cases_Bool (is_whole_block d.kind)) [
  | inl whole ↦ rw whole own
  | inr part ↦
      let met = meets_by d older (ap (λ (test : Bool). cond test (share_block d older) (meets d older)) (sym part) ∙ is) in
      let size : length d.bytes ≡ d.len = own.bytes ∙ logged_len_of d.kind d.len part in
      let older_size : length older.bytes ≡ older.len = its.bytes ∙ ap (λ (k : DeltaKind). logged_len k older.len) (sym met.kind) ∙ logged_len_of d.kind older.len part in
      rw part (record {
        table = joined_table g d older met own.table its.table;
        bytes = joined_size d older met.low met.high size older_size ∙ sym (logged_len_of d.kind (joined d older).len part);
      })
]

pub merged_loggable : (g : Geometry) (deltas : List Delta) (d : Delta) → All (IsLoggable g) deltas → IsLoggable g d → All (IsLoggable g) (merged deltas d)
merged_loggable g = merged_all (IsLoggable g) (replacing_loggable g)

pub each_loggable : (g : Geometry) (deltas : List Delta) → AreLoggable g deltas → All (IsLoggable g) deltas
each_loggable g deltas are = λ k d inside. record { table = are.table k d inside; bytes = are.bytes k d inside }

pub are_loggable : (g : Geometry) (deltas : List Delta) → All (IsLoggable g) deltas → AllPairs (λ d later. may_precede d later.kind later.home ≡ true) deltas → AreLoggable g deltas
are_loggable g deltas each order = record { table = λ k d inside. (each k d inside).table; order = order; bytes = λ k d inside. (each k d inside).bytes }

pub all_within : (g : Geometry) (deltas : List Delta) → AreLoggable g deltas → All IsWithinBlock deltas
all_within g deltas are = All-weaker (λ d. may_be_logged g d.kind d.home d.len ≡ true) IsWithinBlock (λ d is. logged_within g d.kind d.home d.len is) deltas are.table

-- deltas that change nothing but their bytes are in the same order
pairs_map : {X : Type 0} (R : X → X → Type 0) (f : X → X) → ((x y : X) → R x y → R (f x) (f y)) → (xs : List X) → AllPairs R xs → AllPairs R (map f xs)
pairs_map R f keep [] pairs = λ i j d before inside. absurd (omega (arith, inside))
pairs_map {X} R f keep (x ∷ xs) pairs =
    AllPairs-cons R (f x) (map f xs) (All-map (R (f x)) f xs (All-weaker (R x) (λ y. R (f x) (f y)) (keep x) xs (λ k d inside. pairs 0 (suc k) d (omega arith) (omega (arith, inside)))))
    (pairs_map R f keep xs (λ i j d before inside. pairs (suc i) (suc j) d (omega (arith, before)) (omega (arith, inside))))

amended_loggable : (g : Geometry) (home : ℕ) (bytes : List ℕ) (d : Delta) → IsLoggable g d → IsLoggable g (amended home bytes d)
amended_loggable g home bytes d own = elim (cases_Bool (is_group_at home (length bytes) d)) [
  | inl here ↦ rw here (record {
    table = own.table;
    bytes = sym (eqb-true (length d.bytes) (length bytes) (and_parts (is_group d.kind && eqb d.home home) (eqb (length d.bytes) (length bytes)) here).1) ∙ own.bytes;
  })
  | inr other ↦ rw other own
]

kind_kept : (home : ℕ) (bytes : List ℕ) (d : Delta) → (amended home bytes d).kind ≡ d.kind
kind_kept home bytes d = elim (is_group_at home (length bytes) d) as (λ here. (cond here (record d { bytes = bytes }) d).kind ≡ d.kind) [ true ↦ refl | false ↦ refl ]

home_kept : (home : ℕ) (bytes : List ℕ) (d : Delta) → (amended home bytes d).home ≡ d.home
home_kept home bytes d = elim (is_group_at home (length bytes) d) as (λ here. (cond here (record d { bytes = bytes }) d).home ≡ d.home) [ true ↦ refl | false ↦ refl ]

precedes_kept : (home : ℕ) (bytes : List ℕ) (d : Delta) (kind : DeltaKind) (at : ℕ) → may_precede (amended home bytes d) kind at ≡ may_precede d kind at
unfolding may_precede
precedes_kept home bytes d kind at = elim (is_group_at home (length bytes) d) as (λ here. may_precede (cond here (record d { bytes = bytes }) d) kind at ≡ may_precede d kind at) [ true ↦ refl | false ↦ refl ]

pub all_amended : (g : Geometry) (home : ℕ) (bytes : List ℕ) (held : List Delta) → AreLoggable g held → AreLoggable g (map (amended home bytes) held)
all_amended g home bytes held are =
    are_loggable g (map (amended home bytes) held)
    (All-map (IsLoggable g) (amended home bytes) held (All-weaker (IsLoggable g) (λ d. IsLoggable g (amended home bytes d)) (amended_loggable g home bytes) held (each_loggable g held are)))
    (pairs_map (λ d later. may_precede d later.kind later.home ≡ true) (amended home bytes)
    (λ d later is.
    ap (λ (k : DeltaKind). may_precede (amended home bytes d) k (amended home bytes later).home) (kind_kept home bytes later)
    ∙ ap (λ (at : ℕ). may_precede (amended home bytes d) later.kind at) (home_kept home bytes later)
    ∙ precedes_kept home bytes d later.kind later.home
    ∙ is) held are.order)
