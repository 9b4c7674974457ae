-- Group records among the deltas that a transaction holds, where others are merged in.
use Rattle.std.proofs.Common.{◌≡◌, ◌≢◌, ◌<◌, inl, inr, ℕ, ◌/◌, ◌%◌, Bool, true, false, not, ◌&&◌, cond, suc, List, [], ◌∷◌, length, sym, ap, ◌∙◌, arith, min}
use Rattle.std.specs.Prelude.{All, AllPairs, ◌==◌, nat_lt, slice_index_or}
use Rattle.std.specs.List.{list_any, filter}
use Rattle.std.proofs.lemmas.Bool.{cases_Bool, and_parts, and_from, and_left, and_right, or_left, or_right, or_cases, eqb-true, eq-eqb, ne_eqb, false≢true, not_from_false}
use Rattle.std.proofs.lemmas.List.Elements.{All-head, All-tail, All-filter}
use Rattle.lufs_base.specs.declared.geometry.Geometry.{Geometry}
use Rattle.lufs_base.specs.declared.delta.Delta.{Delta}
use Rattle.lufs_base.specs.declared.delta.DeltaKind.{DeltaKind}
use Rattle.lufs_base.specs.declared.delta.DeltaKind.TheVariants.{Group}
use Rattle.volume_model.specs.Log.{is_part_of_block, logged_len, is_zero_block}
use Rattle.meta_store.specs.Changes.{is_group_at}
use Rattle.meta_store.specs.Merged.{is_group, is_same_kind, share_block, is_pointers, is_whole_block, meets, joined, replaces, replacing, excludes, stands_beside, placed, merged, all_merged}
use Rattle.meta_store.proofs.MergeSteps.{placed_last, placed_replaced, placed_before, placed_after, merged_is, replaced_in_block}
use Rattle.meta_store.proofs.MergedTable.{IsLoggable, table_parts, meets_by, replacing_loggable, merged_loggable}

-- a delta of a group record, which may be logged
pub record IsGroupDelta (g : Geometry) (d : Delta) : Type 0 where
  pub kind : d.kind ≡ Group
  pub loggable : IsLoggable g d

pub part_of_group : (g : Geometry) (d : Delta) → IsGroupDelta g d → (d.home % 4096 ≡ 0) × (d.len ≡ 416)
part_of_group g d is =
    let part : is_part_of_block Group (d.home % 4096) d.len ≡ true =
    ap (λ (kind : DeltaKind). is_part_of_block kind (d.home % 4096) d.len) (sym is.kind) ∙ (table_parts g d.kind d.home d.len is.loggable.table).1 in
    let both = and_parts (d.home % 4096 == 0) (d.len == 416) part in
    (eqb-true (d.home % 4096) 0 both.0, eqb-true d.len 416 both.1)

-- it is one of 416 bytes at its home
at_home : (g : Geometry) (d : Delta) (home : ℕ) → IsGroupDelta g d → d.home ≡ home → is_group_at home 416 d ≡ true
at_home g d home is place =
    let size : length d.bytes ≡ 416 = is.loggable.bytes ∙ ap (λ (kind : DeltaKind). logged_len kind d.len) is.kind ∙ (part_of_group g d is).1 in
    and_from (is_group d.kind && d.home == home) (length d.bytes == 416) (and_from (is_group d.kind) (d.home == home) (ap is_group is.kind) (eq-eqb d.home home place))
    (eq-eqb (length d.bytes) 416 size)

-- its home
home_of : (home : ℕ) (d : Delta) → is_group_at home 416 d ≡ true → d.home ≡ home
home_of home d is = eqb-true d.home home (and_parts (is_group d.kind) (d.home == home) (and_parts (is_group d.kind && d.home == home) (length d.bytes == 416) is).0).1

-- where it replaces an older one, it stays at its place
replacing_group : (g : Geometry) (d older : Delta) → replaces d older ≡ true → IsGroupDelta g d → IsLoggable g older
    → IsGroupDelta g (replacing d older) × ((replacing d older).home ≡ d.home)
replacing_group g d older is own its =
    let part : is_whole_block d.kind ≡ false = ap is_whole_block own.kind in
    let meet : meets d older ≡ true = ap (λ (t : Bool). cond t (share_block d older) (meets d older)) (sym part) ∙ is in
    let met = meets_by d older meet in
    let place : d.home ≡ older.home = met.place (ap is_pointers own.kind) in
    let result : replacing d older ≡ joined d older = ap (λ (t : Bool). cond t d (joined d older)) part in (
      record { kind = ap (λ (e : Delta). e.kind) result ∙ own.kind; loggable = replacing_loggable g d older is own.loggable its },
      ap (λ (e : Delta). e.home) result ∙ (let same : min d.home older.home ≡ d.home = omega (arith, place) in same),
    )

-- among the deltas it is there once it is placed
placed_has : (g : Geometry) (home : ℕ) (deltas : List Delta) (d : Delta) → All (IsLoggable g) deltas → IsGroupDelta g d → d.home ≡ home
    → list_any (is_group_at home 416) (placed deltas d) ≡ true
placed_has g home [] d each own place =
    ap (list_any (is_group_at home 416)) (placed_last d) ∙ or_left (is_group_at home 416 d) false (at_home g d home own place)
placed_has g home (older ∷ deltas) d each own place =
    let its = All-head (IsLoggable g) older deltas each in
    let rest = All-tail (IsLoggable g) older deltas each in
    elim (cases_Bool (replaces d older)) [
      | inl replaced ↦
          let next = replacing_group g d older replaced own its in
          ap (list_any (is_group_at home 416)) (placed_replaced d older deltas replaced) ∙ placed_has g home deltas (replacing d older) rest next.0 (next.1 ∙ place)
      | inr beside ↦ elim (cases_Bool (nat_lt d.home older.home)) [
        | inl before ↦
            ap (list_any (is_group_at home 416)) (placed_before d older deltas beside before)
            ∙ or_left (is_group_at home 416 d) (list_any (is_group_at home 416) (older ∷ deltas)) (at_home g d home own place)
        | inr after ↦
            ap (list_any (is_group_at home 416)) (placed_after d older deltas beside after)
            ∙ or_right (is_group_at home 416 older) (list_any (is_group_at home 416) (placed deltas d)) (placed_has g home deltas d rest own place)
      ]
    ]

-- what replaces another lies in its block still
replacing_block : (d older : Delta) → replaces d older ≡ true → (replacing d older).home / 4096 ≡ d.home / 4096
replacing_block d older is = elim (cases_Bool (is_whole_block d.kind)) [
  | inl whole ↦ ap (λ (t : Bool). (cond t d (joined d older)).home / 4096) whole
  | inr part ↦
      let same = replaced_in_block d older is in
      ap (λ (t : Bool). (cond t d (joined d older)).home / 4096) part ∙ (let there : min d.home older.home / 4096 ≡ d.home / 4096 = omega (arith, same) in there)
]

-- one of another block leaves it there
placed_keeps : (home : ℕ) (deltas : List Delta) (e : Delta) → e.home / 4096 ≢ home / 4096 → list_any (is_group_at home 416) deltas ≡ true
    → list_any (is_group_at home 416) (placed deltas e) ≡ true
placed_keeps home [] e away there = absurd (false≢true there)
placed_keeps home (older ∷ deltas) e away there =
    let test : Delta → Bool = is_group_at home 416 in
    elim (or_cases (test older) (list_any test deltas) there) [
      | inl here ↦
          let beside : replaces e older ≡ false = elim (cases_Bool (replaces e older)) [
            | inl replaced ↦ absurd (away (replaced_in_block e older replaced ∙ ap (λ (k : ℕ). k / 4096) (home_of home older here)))
            | inr not ↦ not
          ] in
          elim (cases_Bool (nat_lt e.home older.home)) [
            | inl before ↦ ap (list_any test) (placed_before e older deltas beside before) ∙ or_right (test e) (list_any test (older ∷ deltas)) there
            | inr after ↦ ap (list_any test) (placed_after e older deltas beside after) ∙ or_left (test older) (list_any test (placed deltas e)) here
          ]
      | inr behind ↦ elim (cases_Bool (replaces e older)) [
        | inl replaced ↦
            ap (list_any test) (placed_replaced e older deltas replaced)
            ∙ placed_keeps home deltas (replacing e older) (λ same. away (sym (replacing_block e older replaced) ∙ same)) behind
        | inr beside ↦ elim (cases_Bool (nat_lt e.home older.home)) [
          | inl before ↦ ap (list_any test) (placed_before e older deltas beside before) ∙ or_right (test e) (list_any test (older ∷ deltas)) there
          | inr after ↦ ap (list_any test) (placed_after e older deltas beside after) ∙ or_right (test older) (list_any test (placed deltas e)) (placed_keeps home deltas e away behind)
        ]
      ]
    ]

-- and isn't excluded by it
filter_keeps : (home : ℕ) (deltas : List Delta) (e : Delta) → e.home / 4096 ≢ home / 4096 → list_any (is_group_at home 416) deltas ≡ true
    → list_any (is_group_at home 416) (filter (stands_beside e) deltas) ≡ true
filter_keeps home [] e away there = absurd (false≢true there)
filter_keeps home (older ∷ deltas) e away there =
    let test : Delta → Bool = is_group_at home 416 in
    elim (or_cases (test older) (list_any test deltas) there) [
      | inl here ↦
          let apart : share_block e older ≡ false = ne_eqb (e.home / 4096) (older.home / 4096) (λ same. away (same ∙ ap (λ (k : ℕ). k / 4096) (home_of home older here))) in
          let front : (not (is_whole_block e.kind) && share_block e older) ≡ false = and_right (not (is_whole_block e.kind)) (share_block e older) apart in
          let kept : stands_beside e older ≡ true =
          not_from_false (excludes e older)
          (and_left (not (is_whole_block e.kind) && share_block e older && not (is_same_kind e.kind older.kind)) (not (is_zero_block older.kind))
          (and_left (not (is_whole_block e.kind) && share_block e older) (not (is_same_kind e.kind older.kind)) front)) in
          ap (λ (t : Bool). list_any test (cond t (older ∷ filter (stands_beside e) deltas) (filter (stands_beside e) deltas))) kept
          ∙ or_left (test older) (list_any test (filter (stands_beside e) deltas)) here
      | inr behind ↦
          let rest = filter_keeps home deltas e away behind in
          elim (stands_beside e older) as (λ t. list_any test (cond t (older ∷ filter (stands_beside e) deltas) (filter (stands_beside e) deltas)) ≡ true) [
            | true ↦ or_right (test older) (list_any test (filter (stands_beside e) deltas)) rest
            | false ↦ rest
          ]
    ]

merged_has : (g : Geometry) (home : ℕ) (held : List Delta) (d : Delta) → All (IsLoggable g) held → IsGroupDelta g d → d.home ≡ home
    → list_any (is_group_at home 416) (merged held d) ≡ true
merged_has g home held d each own place =
    ap (list_any (is_group_at home 416)) (merged_is held d)
    ∙ placed_has g home (filter (stands_beside d) held) d (All-filter (stands_beside d) (IsLoggable g) held each) own place

merged_keeps : (home : ℕ) (held : List Delta) (e : Delta) → e.home / 4096 ≢ home / 4096 → list_any (is_group_at home 416) held ≡ true
    → list_any (is_group_at home 416) (merged held e) ≡ true
merged_keeps home held e away there =
    ap (list_any (is_group_at home 416)) (merged_is held e) ∙ placed_keeps home (filter (stands_beside e) held) e away (filter_keeps home held e away there)

all_merged_keep : (home : ℕ) (held more : List Delta) → All (λ e. e.home / 4096 ≢ home / 4096) more → list_any (is_group_at home 416) held ≡ true
    → list_any (is_group_at home 416) (all_merged held more) ≡ true
unfolding all_merged
all_merged_keep home held [] away there = there
all_merged_keep home held (e ∷ more) away there =
    all_merged_keep home (merged held e) more (All-tail (λ (x : Delta). x.home / 4096 ≢ home / 4096) e more away)
    (merged_keeps home held e (All-head (λ (x : Delta). x.home / 4096 ≢ home / 4096) e more away) there)

-- a list that rises, without its first
rest_rises : (d : Delta) (more : List Delta) → AllPairs (λ a b. a.home < b.home) (d ∷ more) → AllPairs (λ a b. a.home < b.home) more
rest_rises d more rises i j e before inside = rises (suc i) (suc j) e (omega (arith, before)) (omega (arith, inside))

-- each of these records is held after they were merged in
pub all_merged_have : (g : Geometry) (home : ℕ) (held deltas : List Delta) → All (IsLoggable g) held → All (IsGroupDelta g) deltas → AllPairs (λ a b. a.home < b.home) deltas
    → list_any (is_group_at home 416) deltas ≡ true → list_any (is_group_at home 416) (all_merged held deltas) ≡ true
unfolding all_merged
all_merged_have g home held [] each records rises there = absurd (false≢true there)
all_merged_have g home held (d ∷ more) each records rises there =
    let test : Delta → Bool = is_group_at home 416 in
    let own = All-head (IsGroupDelta g) d more records in
    let others = All-tail (IsGroupDelta g) d more records in
    elim (or_cases (test d) (list_any test more) there) [
      | inl here ↦
          let place = home_of home d here in
          let away : All (λ (e : Delta). e.home / 4096 ≢ home / 4096) more = λ k e inside same.
          let later = rises 0 (suc k) e (omega arith) (omega (arith, inside)) in
          absurd (omega (arith, later, place, same, (part_of_group g d own).0, (part_of_group g (slice_index_or more k e) (others k e inside)).0)) in
          all_merged_keep home (merged held d) more away (merged_has g home held d each own place)
      | inr behind ↦
          all_merged_have g home (merged held d) more (merged_loggable g held d each own.loggable) others (rest_rises d more rises) behind
    ]
