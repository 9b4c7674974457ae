-- Deltas that are merged stand in the order of a transaction.
use Rattle.std.proofs.Common.{◌≡◌, ◌<◌, ◌≤◌, ◌⊎◌, inl, inr, ℕ, ◌+◌, ◌/◌, ◌%◌, eqb, leb, ltb, Bool, true, false, not, ◌&&◌, ◌||◌, cond, List, [], ◌∷◌, suc, min, refl, sym, ap, subst, ◌∙◌, arith}
use Rattle.std.specs.Prelude.{All, AllPairs}
use Rattle.std.specs.List.{filter}
use Rattle.std.proofs.lemmas.Bool.{cases_Bool, cases_lt, true≢false, false≢true, both_ways, and_parts, and_from, and_cases, or_left, or_right, or_cases, not_from_false, eqb-true, eqb-false, eq-eqb, ne_eqb, leb-false, le-leb, ltb-true, ltb-false, lt-ltb}
use Rattle.std.proofs.lemmas.List.Elements.{All-cons, All-head, All-tail, All-nil, All-weaker, All-filter, filter_passes}
use Rattle.std.proofs.lemmas.List.Kept.{AllPairs-cons, AllPairs-filter}
use Rattle.lufs_base.specs.Kinds.{has_bytes}
use Rattle.lufs_base.specs.declared.geometry.Geometry.{Geometry}
use Rattle.lufs_base.specs.declared.delta.Delta.{Delta}
use Rattle.lufs_base.specs.declared.delta.DeltaKind.{DeltaKind}
use Rattle.lufs_base.specs.declared.delta.DeltaKind.TheVariants.{Group, Inode, Chunk, Pointers, Zero, LinkText, Cancel}
use Rattle.volume_model.specs.Log.{AreLoggable, may_precede, is_part_of_block, is_zero_block, is_cancel}
use Rattle.meta_store.specs.Merged.{is_whole_block, is_same_kind, is_pointers, share_block, touches, meets, replaces, joined, replacing, stands_beside, placed, merged, all_merged}
use Rattle.meta_store.proofs.LogLaid.{logged_within}
use Rattle.meta_store.proofs.MergeSteps.{replaced_in_block, placed_all}
use Rattle.meta_store.proofs.MergedTable.{IsLoggable, table_parts, same_kind, meets_by, replacing_loggable, merged_loggable, each_loggable, are_loggable}

-- what `may_precede` asks, as facts
pub record Precedes (d : Delta) (kind : DeltaKind) (home : ℕ) : Type 0 where
  pub homes : (d.home < home) ⊎ ((d.home ≡ home) × (is_zero_block d.kind ≡ true) × (is_zero_block kind ≡ false))
  pub bytes : has_bytes d.kind ≡ true → has_bytes kind ≡ true → d.home + d.len ≤ home
  pub cancels : (is_cancel d.kind || is_cancel kind) ≡ true → d.home / 4096 ≡ home / 4096 → ⊥

homes_from : (d : Delta) (kind : DeltaKind) (home : ℕ) → (d.home < home) ⊎ ((d.home ≡ home) × (is_zero_block d.kind ≡ true) × (is_zero_block kind ≡ false))
    → (ltb d.home home || (eqb d.home home && is_zero_block d.kind && not (is_zero_block kind))) ≡ true
homes_from d kind home (inl below) = or_left (ltb d.home home) (eqb d.home home && is_zero_block d.kind && not (is_zero_block kind)) (lt-ltb d.home home below)
homes_from d kind home (inr (same, zero, other)) =
    or_right (ltb d.home home) (eqb d.home home && is_zero_block d.kind && not (is_zero_block kind))
    (and_from (eqb d.home home && is_zero_block d.kind) (not (is_zero_block kind)) (and_from (eqb d.home home) (is_zero_block d.kind) (eq-eqb d.home home same) zero) (not_from_false (is_zero_block kind) other))

not_or : (p q : Bool) → (p ≡ true → q ≡ true) → (not p || q) ≡ true
not_or true q is = is refl
not_or false q is = refl

none_equal : (p : Bool) (m n : ℕ) → (p ≡ true → m ≡ n → ⊥) → (not p || not (eqb m n)) ≡ true
none_equal p m n other = not_or p (not (eqb m n)) (λ is. not_from_false (eqb m n) (ne_eqb m n (other is)))

pub precedes_from : (d : Delta) (kind : DeltaKind) (home : ℕ) → Precedes d kind home → may_precede d kind home ≡ true
unfolding may_precede
precedes_from d kind home p =
    let homes = ltb d.home home || (eqb d.home home && is_zero_block d.kind && not (is_zero_block kind)) in
    let bytes = not (has_bytes d.kind && has_bytes kind) || leb (d.home + d.len) home in
    let cancels = not (is_cancel d.kind || is_cancel kind) || not (eqb (d.home / 4096) (home / 4096)) in
    and_from (homes && bytes) cancels
    (and_from homes bytes (homes_from d kind home p.homes)
    (not_or (has_bytes d.kind && has_bytes kind) (leb (d.home + d.len) home) (λ both.
    le-leb (d.home + d.len) home (p.bytes (and_parts (has_bytes d.kind) (has_bytes kind) both).0 (and_parts (has_bytes d.kind) (has_bytes kind) both).1))))
    (none_equal (is_cancel d.kind || is_cancel kind) (d.home / 4096) (home / 4096) p.cancels)

-- homes never fall
pub homes_rise : (d : Delta) (kind : DeltaKind) (home : ℕ) → may_precede d kind home ≡ true → d.home ≤ home
unfolding may_precede
homes_rise d kind home is =
    let homes = ltb d.home home || (eqb d.home home && is_zero_block d.kind && not (is_zero_block kind)) in
    let bytes = not (has_bytes d.kind && has_bytes kind) || leb (d.home + d.len) home in
    let cancels = not (is_cancel d.kind || is_cancel kind) || not (eqb (d.home / 4096) (home / 4096)) in
    elim (or_cases (ltb d.home home) (eqb d.home home && is_zero_block d.kind && not (is_zero_block kind)) (and_parts homes bytes (and_parts (homes && bytes) cancels is).0).0) [
      | inl below ↦ omega (arith, ltb-true d.home home below)
      | inr same ↦ omega (arith, eqb-true d.home home (and_parts (eqb d.home home) (is_zero_block d.kind) (and_parts (eqb d.home home && is_zero_block d.kind) (not (is_zero_block kind)) same).0).0)
    ]

-- Two deltas of one block of which the later one neither replaces nor excludes the older one: it is of a part of the block,
-- and the older one is a zero block, or of its kind and at another place.
pub record IsApart (d older : Delta) : Type 0 where
  pub part : is_whole_block d.kind ≡ false
  pub kinds : (is_zero_block older.kind ≡ true) ⊎ ((d.kind ≡ older.kind) × (meets d older ≡ false))

by_replaces : (whole share met : Bool) → cond whole share met ≡ false → share ≡ true → (whole ≡ false) × (met ≡ false)
by_replaces true share met is here = absurd (both_ways share is here)
by_replaces false share met is here = (refl, is)

by_excludes : (whole share same zero : Bool) → not (((not whole && share) && not same) && not zero) ≡ true → whole ≡ false → share ≡ true → (zero ≡ true) ⊎ (same ≡ true)
by_excludes true share same zero is part here = absurd (true≢false part)
by_excludes false false same zero is part here = absurd (false≢true here)
by_excludes false true true zero is part here = inr refl
by_excludes false true false true is part here = inl refl
by_excludes false true false false is part here = absurd (false≢true is)

pub apart_from : (d older : Delta) → replaces d older ≡ false → stands_beside d older ≡ true → d.home / 4096 ≡ older.home / 4096 → IsApart d older
apart_from d older other beside block =
    let here : share_block d older ≡ true = eq-eqb (d.home / 4096) (older.home / 4096) block in
    let by = by_replaces (is_whole_block d.kind) (share_block d older) (meets d older) other here in
    record {
      part = by.0;
      kinds = elim (by_excludes (is_whole_block d.kind) (share_block d older) (is_same_kind d.kind older.kind) (is_zero_block older.kind) beside by.0 here) [
        | inl zero ↦ inl zero
        | inr same ↦ inr (same_kind d.kind older.kind same, by.1)
      ];
    }

by_meets : (same share here : Bool) → ((same && share) && here) ≡ false → same ≡ true → share ≡ true → here ≡ false
by_meets true true here is kinds block = is
by_meets true false here is kinds block = absurd (false≢true block)
by_meets false share here is kinds block = absurd (false≢true kinds)

same_from : (kind other : DeltaKind) → kind ≡ other → is_same_kind kind other ≡ true
same_from kind other is = subst (λ (k : DeltaKind). is_same_kind kind k ≡ true) is (eq-eqb _ _ refl)

-- deltas of one kind and block that don't meet lie at different places, and pointers don't touch
pub record DontMeet (d older : Delta) : Type 0 where
  pub homes : d.home ≡ older.home → ⊥
  pub pointers : is_pointers d.kind ≡ true → (d.home + d.len < older.home) ⊎ (older.home + older.len < d.home)

by_touches : (d older : Delta) → touches d older ≡ false → (d.home + d.len < older.home) ⊎ (older.home + older.len < d.home)
by_touches d older is = elim (and_cases (leb d.home (older.home + older.len)) (leb older.home (d.home + d.len)) is) [
  | inl low ↦ inr (omega (arith, leb-false d.home (older.home + older.len) low))
  | inr high ↦ inl (omega (arith, leb-false older.home (d.home + d.len) high))
]

by_places : (pointers : Bool) (d older : Delta) → cond pointers (touches d older) (eqb d.home older.home) ≡ false → (d.home ≡ older.home → ⊥) × (pointers ≡ true → (d.home + d.len < older.home) ⊎ (older.home + older.len < d.home))
by_places true d older is =
    let ends = by_touches d older is in
    ((λ same. elim ends [ inl before ↦ absurd (omega (arith, same, before)) | inr behind ↦ absurd (omega (arith, same, behind)) ]), (λ pointers. ends))
by_places false d older is = (eqb-false d.home older.home is, (λ pointers. absurd (false≢true pointers)))

pub dont_meet : (d older : Delta) → d.kind ≡ older.kind → d.home / 4096 ≡ older.home / 4096 → meets d older ≡ false → DontMeet d older
dont_meet d older kinds block other =
    let is = by_meets (is_same_kind d.kind older.kind) (share_block d older) (cond (is_pointers d.kind) (touches d older) (eqb d.home older.home)) other (same_from d.kind older.kind kinds) (eq-eqb (d.home / 4096) (older.home / 4096) block) in
    let by = by_places (is_pointers d.kind) d older is in
    record { homes = by.0; pointers = by.1 }

-- of two parts of a block of one kind the first one ends where the second one begins, or before
parts_apart : (kind : DeltaKind) (p q len later_len : ℕ) → p < q → is_part_of_block kind p len ≡ true → is_part_of_block kind q later_len ≡ true → (is_pointers kind ≡ true → p + len ≤ q) → p + len ≤ q
parts_apart Group p q len later_len before is later_is pointers = absurd (omega (arith, before, eqb-true q 0 (and_parts (eqb q 0) (eqb later_len 416) later_is).0))
parts_apart Inode p q len later_len before is later_is pointers =
    let a = and_parts (eqb (p % 128) 0) (eqb len 128) is in
    omega (arith, before, eqb-true (p % 128) 0 a.0, eqb-true len 128 a.1, eqb-true (q % 128) 0 (and_parts (eqb (q % 128) 0) (eqb later_len 128) later_is).0)
parts_apart Chunk p q len later_len before is later_is pointers =
    let a = and_parts (eqb (p % 512) 0) (eqb len 512) is in
    omega (arith, before, eqb-true (p % 512) 0 a.0, eqb-true len 512 a.1, eqb-true (q % 512) 0 (and_parts (eqb (q % 512) 0) (eqb later_len 512) later_is).0)
parts_apart Pointers p q len later_len before is later_is pointers = pointers refl
parts_apart Zero p q len later_len before is later_is pointers = absurd (omega (arith, before, eqb-true q 0 (and_parts (eqb q 0) (eqb later_len 4096) later_is).0))
parts_apart LinkText p q len later_len before is later_is pointers =
    absurd (omega (arith, before, eqb-true q 0 (and_parts (eqb q 0) (leb 1 later_len) (and_parts (eqb q 0 && leb 1 later_len) (leb later_len 1024) later_is).0).0))
parts_apart Cancel p q len later_len before is later_is pointers = absurd (omega (arith, before, eqb-true q 0 (and_parts (eqb q 0) (eqb later_len 4096) later_is).0))

-- the same for two deltas of one kind and block
ends_before : (g : Geometry) (first second : Delta) → IsLoggable g first → IsLoggable g second → first.kind ≡ second.kind → first.home / 4096 ≡ second.home / 4096
    → first.home < second.home → (is_pointers first.kind ≡ true → first.home + first.len ≤ second.home) → first.home + first.len ≤ second.home
ends_before g first second own its kinds block before pointers =
    let part = (table_parts g first.kind first.home first.len own.table).1 in
    let later = ap (λ (k : DeltaKind). is_part_of_block k (second.home % 4096) second.len) kinds ∙ (table_parts g second.kind second.home second.len its.table).1 in
    let places : first.home % 4096 + first.len ≤ second.home % 4096 =
    parts_apart first.kind (first.home % 4096) (second.home % 4096) first.len second.len (omega (arith, block, before)) part later (λ is. omega (arith, block, pointers is)) in
    omega (arith, block, places)

-- a delta of its whole block begins with the block
whole_begins : (kind : DeltaKind) (place len : ℕ) → is_whole_block kind ≡ true → is_part_of_block kind place len ≡ true → place ≡ 0
whole_begins Group place len whole is = absurd (false≢true whole)
whole_begins Inode place len whole is = absurd (false≢true whole)
whole_begins Chunk place len whole is = absurd (false≢true whole)
whole_begins Pointers place len whole is = absurd (false≢true whole)
whole_begins Zero place len whole is = eqb-true place 0 (and_parts (eqb place 0) (eqb len 4096) is).0
whole_begins LinkText place len whole is = absurd (false≢true whole)
whole_begins Cancel place len whole is = eqb-true place 0 (and_parts (eqb place 0) (eqb len 4096) is).0

whole_at : (g : Geometry) (d : Delta) → IsLoggable g d → is_whole_block d.kind ≡ true → d.home % 4096 ≡ 0
whole_at g d own whole = whole_begins d.kind (d.home % 4096) d.len whole (table_parts g d.kind d.home d.len own.table).1

zero_is_whole : (kind : DeltaKind) → is_zero_block kind ≡ true → is_whole_block kind ≡ true
zero_is_whole kind is = or_left (is_zero_block kind) (is_cancel kind) is

cancel_is_whole : (kind : DeltaKind) → is_cancel kind ≡ true → is_whole_block kind ≡ true
cancel_is_whole kind is = or_right (is_zero_block kind) (is_cancel kind) is

within : (g : Geometry) (d : Delta) → IsLoggable g d → d.home % 4096 + d.len ≤ 4096
within g d own = logged_within g d.kind d.home d.len own.table

-- A delta whose home is before that of an older one, which it neither replaces nor excludes, ends before it.
new_ends : (g : Geometry) (d older : Delta) → IsLoggable g d → IsLoggable g older → replaces d older ≡ false → stands_beside d older ≡ true → d.home < older.home → d.home + d.len ≤ older.home
new_ends g d older own its other beside before = elim (cases_lt (d.home / 4096) (older.home / 4096)) [
  | inl blocks ↦ omega (arith, blocks, within g d own)
  | inr behind ↦
      let block : d.home / 4096 ≡ older.home / 4096 = omega (arith, before, behind) in
      elim (apart_from d older other beside block).kinds [
        | inl zero ↦ absurd (omega (arith, block, before, whole_at g older its (zero_is_whole older.kind zero)))
        | inr same ↦
            let apart = dont_meet d older same.0 block same.1 in
            ends_before g d older own its same.0 block before (λ pointers. elim (apart.pointers pointers) [ inl first ↦ omega (arith, first) | inr second ↦ absurd (omega (arith, before, second)) ])
      ]
]

-- so it may precede it and all that follow it
new_first : (g : Geometry) (d older later : Delta) → IsLoggable g d → IsLoggable g older → IsLoggable g later → replaces d older ≡ false → stands_beside d older ≡ true
    → d.home < older.home → older.home ≤ later.home → may_precede d later.kind later.home ≡ true
new_first g d older later own its more other beside before rises =
    let ends = new_ends g d older own its other beside before in
    precedes_from d later.kind later.home (record {
      homes = inl (omega (arith, before, rises));
      bytes = λ has have. omega (arith, ends, rises);
      cancels = λ is block. elim (or_cases (is_cancel d.kind) (is_cancel later.kind) is) [
        | inl cancel ↦
            let here : d.home / 4096 ≡ older.home / 4096 = omega (arith, before, rises, block) in
            absurd (both_ways (is_whole_block d.kind) (apart_from d older other beside here).part (cancel_is_whole d.kind cancel))
        | inr cancel ↦ absurd (omega (arith, before, rises, block, whole_at g later more (cancel_is_whole later.kind cancel)))
      ];
    })

not_zero : (kind : DeltaKind) → is_whole_block kind ≡ false → is_zero_block kind ≡ false
not_zero Group part = refl
not_zero Inode part = refl
not_zero Chunk part = refl
not_zero Pointers part = refl
not_zero Zero part = part
not_zero LinkText part = refl
not_zero Cancel part = refl

zero_has_none : (kind : DeltaKind) → is_zero_block kind ≡ true → has_bytes kind ≡ true → ⊥
zero_has_none Group zero has = false≢true zero
zero_has_none Inode zero has = false≢true zero
zero_has_none Chunk zero has = false≢true zero
zero_has_none Pointers zero has = false≢true zero
zero_has_none Zero zero has = false≢true has
zero_has_none LinkText zero has = false≢true zero
zero_has_none Cancel zero has = false≢true zero

zero_no_cancel : (kind : DeltaKind) → is_zero_block kind ≡ true → is_cancel kind ≡ true → ⊥
zero_no_cancel Group zero has = false≢true zero
zero_no_cancel Inode zero has = false≢true zero
zero_no_cancel Chunk zero has = false≢true zero
zero_no_cancel Pointers zero has = false≢true zero
zero_no_cancel Zero zero has = false≢true has
zero_no_cancel LinkText zero has = false≢true zero
zero_no_cancel Cancel zero has = false≢true zero

-- An older delta whose home isn't behind that of a delta that neither replaces nor excludes it may precede this one.
old_in_block : (g : Geometry) (d older : Delta) → IsLoggable g d → IsLoggable g older → IsApart d older → d.home / 4096 ≡ older.home / 4096 → older.home ≤ d.home → Precedes older d.kind d.home
old_in_block g d older own its apart block behind = elim apart.kinds [
  | inl zero ↦ record {
    homes = elim (cases_lt older.home d.home) [
      | inl before ↦ inl before
      | inr same ↦ inr (omega (arith, same, behind), zero, not_zero d.kind apart.part)
    ];
    bytes = λ has have. absurd (zero_has_none older.kind zero has);
    cancels = λ is here. elim (or_cases (is_cancel older.kind) (is_cancel d.kind) is) [
      | inl cancel ↦ zero_no_cancel older.kind zero cancel
      | inr cancel ↦ both_ways (is_whole_block d.kind) apart.part (cancel_is_whole d.kind cancel)
    ];
  }
  | inr same ↦
      let places = dont_meet d older same.0 block same.1 in
      let before : older.home < d.home = elim (cases_lt older.home d.home) [ inl is ↦ is | inr at ↦ absurd (places.homes (omega (arith, at, behind))) ] in
      record {
        homes = inl before;
        bytes = λ has have. ends_before g older d its own (sym same.0) (sym block) before (λ pointers.
            elim (places.pointers (ap is_pointers same.0 ∙ pointers)) [ inl first ↦ absurd (omega (arith, before, first)) | inr second ↦ omega (arith, second) ]);
        cancels = λ is here. elim (or_cases (is_cancel older.kind) (is_cancel d.kind) is) [
          | inl cancel ↦ both_ways (is_whole_block d.kind) apart.part (cancel_is_whole d.kind (ap is_cancel same.0 ∙ cancel))
          | inr cancel ↦ both_ways (is_whole_block d.kind) apart.part (cancel_is_whole d.kind cancel)
        ];
      }
]

old_first : (g : Geometry) (d older : Delta) → IsLoggable g d → IsLoggable g older → replaces d older ≡ false → stands_beside d older ≡ true → older.home ≤ d.home → may_precede older d.kind d.home ≡ true
old_first g d older own its other beside behind = elim (cases_lt (older.home / 4096) (d.home / 4096)) [
  | inl blocks ↦
      precedes_from older d.kind d.home (record {
        homes = inl (omega (arith, blocks));
        bytes = λ has have. omega (arith, blocks, within g older its);
        cancels = λ is here. absurd (omega (arith, blocks, here));
      })
  | inr back ↦
      let block : d.home / 4096 ≡ older.home / 4096 = omega (arith, back, behind) in
      precedes_from older d.kind d.home (old_in_block g d older own its (apart_from d older other beside block) block behind)
]

replacing_kind : (d older : Delta) → (replacing d older).kind ≡ d.kind
replacing_kind d older = elim (is_whole_block d.kind) as (λ whole. (cond whole d (joined d older)).kind ≡ d.kind) [ true ↦ refl | false ↦ refl ]

replacing_block : (d older : Delta) → replaces d older ≡ true → (replacing d older).home / 4096 ≡ d.home / 4096
replacing_block d older is =
    let block = replaced_in_block d older is in
    elim (is_whole_block d.kind) as (λ whole. (cond whole d (joined d older)).home / 4096 ≡ d.home / 4096) [
      | true ↦ refl
      | false ↦ omega (arith, block)
    ]

-- whether a delta stands beside another one, by its kind and its block
abbrev beside_in : DeltaKind → (b : ℕ) → Delta → Bool
beside_in kind b older = not (((not (is_whole_block kind) && eqb b (older.home / 4096)) && not (is_same_kind kind older.kind)) && not (is_zero_block older.kind))

-- what stands beside a delta stands beside what this becomes where it replaces another one
still_beside : (d older other : Delta) → replaces d older ≡ true → stands_beside d other ≡ true → stands_beside (replacing d older) other ≡ true
still_beside d older other is beside =
    ap (λ (kind : DeltaKind). beside_in kind ((replacing d older).home / 4096) other) (replacing_kind d older)
    ∙ ap (λ (b : ℕ). beside_in d.kind b other) (replacing_block d older is)
    ∙ beside

-- a delta that may precede two others may precede what the one becomes where it replaces the other one
still_first : (first d older : Delta) → replaces d older ≡ true → may_precede first d.kind d.home ≡ true → may_precede first older.kind older.home ≡ true
    → may_precede first (replacing d older).kind (replacing d older).home ≡ true
still_first first d older is before before_older = elim (cases_Bool (is_whole_block d.kind)) [
  | inl whole ↦ rw whole before
  | inr part ↦
      let met = meets_by d older (ap (λ (test : Bool). cond test (share_block d older) (meets d older)) (sym part) ∙ is) in
      let least : may_precede first d.kind (min d.home older.home) ≡ true = elim (cases_lt d.home older.home) [
        | inl low ↦ subst (λ (home : ℕ). may_precede first d.kind home ≡ true) (omega (arith, low)) before
        | inr high ↦ subst (λ (home : ℕ). may_precede first d.kind home ≡ true) (omega (arith, high)) (ap (λ (kind : DeltaKind). may_precede first kind older.home) met.kind ∙ before_older)
      ] in
      rw part least
]

abbrev Ordered : List Delta → Type 0
Ordered deltas = AllPairs (λ d later. may_precede d later.kind later.home ≡ true) deltas

abbrev IsFirst : Delta → Delta → Type 0
IsFirst d later = may_precede d later.kind later.home ≡ true

after_first : (d : Delta) (deltas : List Delta) → Ordered (d ∷ deltas) → All (IsFirst d) deltas
after_first d deltas order = λ k x inside. order 0 (suc k) x (omega arith) (omega (arith, inside))

ordered_rest : (d : Delta) (deltas : List Delta) → Ordered (d ∷ deltas) → Ordered deltas
ordered_rest d deltas order = λ i j x before inside. order (suc i) (suc j) x (omega (arith, before)) (omega (arith, inside))

none_ordered : Ordered []
none_ordered = λ i j x before inside. absurd (omega (arith, inside))

-- A delta goes first of those before which it comes and of which it replaces and excludes none.
goes_first : (g : Geometry) (d older : Delta) (deltas : List Delta) → IsLoggable g d → All (IsLoggable g) (older ∷ deltas) → replaces d older ≡ false → stands_beside d older ≡ true
    → d.home < older.home → Ordered (older ∷ deltas) → All (IsFirst d) (older ∷ deltas)
goes_first g d older deltas own all other beside before order =
    let its = All-head (IsLoggable g) older deltas all in
    let rest = All-tail (IsLoggable g) older deltas all in
    let follow = after_first older deltas order in
    All-cons (IsFirst d) older deltas (new_first g d older older own its its other beside before (omega arith))
    (λ k later inside. new_first g d older _ own its (rest k later inside) other beside before (homes_rise older _ _ (follow k later inside)))

placed_order : (g : Geometry) (deltas : List Delta) (d : Delta) → All (IsLoggable g) deltas → IsLoggable g d → All (λ older. stands_beside d older ≡ true) deltas → Ordered deltas → Ordered (placed deltas d)
unfolding placed
placed_order g [] d all own beside order = AllPairs-cons IsFirst d [] (All-nil (IsFirst d)) none_ordered
placed_order g (older ∷ deltas) d all own beside order =
    let its = All-head (IsLoggable g) older deltas all in
    let rest = All-tail (IsLoggable g) older deltas all in
    let beside_it = All-head (λ x. stands_beside d x ≡ true) older deltas beside in
    let beside_rest = All-tail (λ x. stands_beside d x ≡ true) older deltas beside in
    let order_rest = ordered_rest older deltas order in
    elim (cases_Bool (replaces d older)) [
      | inl is ↦ rw is (placed_order g deltas (replacing d older) rest (replacing_loggable g d older is own its)
          (All-weaker (λ x. stands_beside d x ≡ true) (λ x. stands_beside (replacing d older) x ≡ true) (λ x here. still_beside d older x is here) deltas beside_rest) order_rest)
      | inr other ↦ rw other (elim (cases_Bool (ltb d.home older.home)) [
        | inl before ↦ rw before (AllPairs-cons IsFirst d (older ∷ deltas) (goes_first g d older deltas own all other beside_it (ltb-true d.home older.home before) order) order)
        | inr behind ↦ rw behind (AllPairs-cons IsFirst older (placed deltas d)
            (placed_all (IsFirst older) (still_first older) deltas d (after_first older deltas order) (old_first g d older own its other beside_it (omega (arith, ltb-false d.home older.home behind))))
            (placed_order g deltas d rest own beside_rest order_rest))
      ])
    ]

-- A delta that may be logged, merged into deltas that may be those of one transaction, gives such deltas.
pub merged_are_loggable : (g : Geometry) (deltas : List Delta) (d : Delta) → AreLoggable g deltas → IsLoggable g d → AreLoggable g (merged deltas d)
unfolding merged
merged_are_loggable g deltas d are own =
    let each = each_loggable g deltas are in
    are_loggable g (merged deltas d) (merged_loggable g deltas d each own)
    (placed_order g (filter (stands_beside d) deltas) d (All-filter (stands_beside d) (IsLoggable g) deltas each) own (filter_passes (stands_beside d) deltas)
    (AllPairs-filter IsFirst (stands_beside d) deltas are.order))

pub all_merged_are_loggable : (g : Geometry) (deltas more : List Delta) → AreLoggable g deltas → All (IsLoggable g) more → AreLoggable g (all_merged deltas more)
unfolding all_merged
all_merged_are_loggable g deltas [] are own = are
all_merged_are_loggable g deltas (d ∷ more) are own =
    all_merged_are_loggable g (merged deltas d) more (merged_are_loggable g deltas d are (All-head (IsLoggable g) d more own)) (All-tail (IsLoggable g) d more own)
