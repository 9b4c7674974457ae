-- Laying deltas that were merged is laying them one after the other.
use Rattle.std.proofs.Common.{◌≡◌, ◌<◌, ◌≤◌, inl, inr, ℕ, suc, ◌+◌, ◌-◌, ◌/◌, ◌%◌, eqb, leb, ltb, Bool, true, false, not, ◌&&◌, ◌||◌, cond, List, [], ◌∷◌, ◌++◌, length, take, drop, slice_index, Option, Some, None, refl, sym, ap, subst, ◌∙◌, arith, length-take}
use Rattle.std.specs.Prelude.{All, AllPairs}
use Rattle.std.specs.List.{filter}
use Rattle.std.proofs.lemmas.Bool.{cases_Bool, cases_lt, true≢false, false≢true, and_parts, and_from, and_left, and_right, or_cases, eqb-true, eqb-false, leb-true, ltb-true, le-leb, lt-leb, lt-ltb, le-ltb, not-true}
use Rattle.std.proofs.lemmas.List.{get_or-take, get_or-drop, get_or_append_left, get_or-append_right}
use Rattle.std.proofs.lemmas.List.Elements.{All-head, All-tail, All-cons, All-weaker}
use Rattle.lufs_base.specs.Kinds.{has_bytes}
use Rattle.lufs_base.specs.declared.geometry.Geometry.{Geometry}
use Rattle.lufs_base.specs.declared.delta.Delta.{Delta}
use Rattle.lufs_base.specs.declared.delta.DeltaKind.{DeltaKind}
use Rattle.lufs_base.specs.declared.delta.DeltaKind.TheVariants.{Group, Inode, Chunk, Pointers, Zero, LinkText, Cancel}
use Rattle.volume_model.specs.Log.{may_precede, is_zero_block, is_cancel, is_part_of_block, byte_of, given_at}
use Rattle.meta_store.specs.Laid.{IsWithinBlock}
use Rattle.meta_store.specs.Merged.{is_whole_block, share_block, meets, replaces, joined, replacing, stands_beside, placed, merged}
use Rattle.meta_store.proofs.LogLaid.{logged_within, cancel_gives_none, none_or_none}
use Rattle.meta_store.proofs.MergeSteps.{placed_replaced, placed_before, placed_after, placed_last, replaced_in_block}
use Rattle.meta_store.proofs.MergedTable.{IsLoggable, meets_by, replacing_loggable, table_parts, logged_len_of}
use Rattle.meta_draft.proofs.Later.{later, last_given, given_first, none_given, later_none, later_later}

-- what these deltas give for the byte at this address
abbrev pub last_at : ℕ → List Delta → Option ℕ
last_at a deltas = last_given (λ d. given_at a d) deltas

abbrev covers : (a : ℕ) (d : Delta) → Bool
covers a d = leb d.home a && ltb a (d.home + d.len)

cancel_none : (a : ℕ) (d : Delta) → is_cancel d.kind ≡ true → given_at a d ≡ None
cancel_none a d cancel = none_or_none (covers a d) (byte_of d (a - d.home)) (cancel_gives_none d (a - d.home) d.kind cancel)

-- in the order in which a transaction may hold them
abbrev pub AreOrdered : List Delta → Type 0
AreOrdered deltas = AllPairs (λ d next. may_precede d next.kind next.home ≡ true) deltas

first_ordered : (d : Delta) (deltas : List Delta) → AreOrdered (d ∷ deltas) → All (λ x. may_precede d x.kind x.home ≡ true) deltas
first_ordered d deltas order = λ k x inside. order 0 (suc k) x (omega arith) (omega (arith, inside))

rest_ordered : (d : Delta) (deltas : List Delta) → AreOrdered (d ∷ deltas) → AreOrdered deltas
rest_ordered d deltas order = λ i j x before inside. order (suc i) (suc j) x (omega (arith, before)) (omega (arith, inside))

not_covered : (a : ℕ) (d : Delta) → covers a d ≡ false → given_at a d ≡ None
not_covered a d none = ap (λ (test : Bool). cond test (byte_of d (a - d.home)) None) none

before_none : (a : ℕ) (d : Delta) → a < d.home → given_at a d ≡ None
before_none a d before = not_covered a d (and_left (leb d.home a) (ltb a (d.home + d.len)) (lt-leb d.home a before))

after_none : (a : ℕ) (d : Delta) → d.home + d.len ≤ a → given_at a d ≡ None
after_none a d past = not_covered a d (and_right (leb d.home a) (ltb a (d.home + d.len)) (le-ltb a (d.home + d.len) past))

-- a delta gives nothing outside of its block
elsewhere_none : (a : ℕ) (d : Delta) → IsWithinBlock d → (d.home / 4096 ≡ a / 4096 → ⊥) → given_at a d ≡ None
elsewhere_none a d within other = elim (cases_lt a d.home) [
  | inl before ↦ before_none a d before
  | inr from ↦ elim (cases_lt a (d.home + d.len)) [
    | inl below ↦ absurd (other (omega (arith, from, below, within)))
    | inr past ↦ after_none a d past
  ]
]

zero_kind : (kind : DeltaKind) → is_zero_block kind ≡ true → kind ≡ Zero
zero_kind Group is = absurd (false≢true is)
zero_kind Inode is = absurd (false≢true is)
zero_kind Chunk is = absurd (false≢true is)
zero_kind Pointers is = absurd (false≢true is)
zero_kind Zero is = refl
zero_kind LinkText is = absurd (false≢true is)
zero_kind Cancel is = absurd (false≢true is)

-- a zero block is a whole block
zero_whole : (g : Geometry) (d : Delta) → IsLoggable g d → is_zero_block d.kind ≡ true → (d.home % 4096 ≡ 0) × (d.len ≡ 4096)
zero_whole g d own zero_is =
    let part = (table_parts g d.kind d.home d.len own.table).1 in
    let as_zero : is_part_of_block Zero (d.home % 4096) d.len ≡ true = subst (λ (kind : DeltaKind). is_part_of_block kind (d.home % 4096) d.len ≡ true) (zero_kind d.kind zero_is) part in
    let both = and_parts (eqb (d.home % 4096) 0) (eqb d.len 4096) as_zero in
    (eqb-true (d.home % 4096) 0 both.0, eqb-true d.len 4096 both.1)

part_has_bytes : (kind : DeltaKind) → is_whole_block kind ≡ false → (has_bytes kind ≡ true) × (is_zero_block kind ≡ false)
part_has_bytes Group part = (refl, refl)
part_has_bytes Inode part = (refl, refl)
part_has_bytes Chunk part = (refl, refl)
part_has_bytes Pointers part = (refl, refl)
part_has_bytes Zero part = absurd (true≢false part)
part_has_bytes LinkText part = (refl, refl)
part_has_bytes Cancel part = absurd (true≢false part)

-- what a delta with bytes gives
of_bytes : (a : ℕ) (d : Delta) → is_whole_block d.kind ≡ false → given_at a d ≡ cond (covers a d) (Some (slice_index d.bytes (a - d.home))) None
of_bytes a d part =
    ap (λ (test : Bool). cond (covers a d) (cond test (Some (slice_index d.bytes (a - d.home))) (cond (is_zero_block d.kind) (Some 0) None)) None) (part_has_bytes d.kind part).0

covered_by : (a : ℕ) (d : Delta) → d.home ≤ a → a < d.home + d.len → covers a d ≡ true
covered_by a d from below = and_from (leb d.home a) (ltb a (d.home + d.len)) (le-leb d.home a from) (lt-ltb a (d.home + d.len) below)

some_bytes : (a : ℕ) (d : Delta) → is_whole_block d.kind ≡ false → d.home ≤ a → a < d.home + d.len → given_at a d ≡ Some (slice_index d.bytes (a - d.home))
some_bytes a d part from below =
    of_bytes a d part ∙ ap (λ (test : Bool). cond test (Some (slice_index d.bytes (a - d.home))) None) (covered_by a d from below)

-- a byte of what two deltas cover together
byte_of_both : (d older : Delta) (i : ℕ) → d.home ≤ older.home + older.len → older.home ≤ d.home + d.len → length d.bytes ≡ d.len → length older.bytes ≡ older.len
    → (i < d.home - older.home → slice_index (joined d older).bytes i ≡ slice_index older.bytes i)
    × (d.home - older.home ≤ i → i < d.home - older.home + d.len → slice_index (joined d older).bytes i ≡ slice_index d.bytes (i - (d.home - older.home)))
    × (d.home - older.home + d.len ≤ i → slice_index (joined d older).bytes i ≡ slice_index older.bytes (d.home + d.len - older.home + (i - (d.home - older.home) - d.len)))
byte_of_both d older i low high size older_size =
    let f = d.home - older.home in
    let front : List ℕ = take f older.bytes in
    let rest : List ℕ = drop (d.home + d.len - older.home) older.bytes in
    let front_size : length front ≡ f = omega (arith, low, older_size, length-take f older.bytes) in (
      (λ before. get_or_append_left front (d.bytes ++ rest) 0 i (omega (arith, before, front_size)) ∙ get_or-take f older.bytes i 0 before),
      (λ from below. get_or-append_right front (d.bytes ++ rest) f i 0 front_size from ∙ get_or_append_left d.bytes rest 0 (i - f) (omega (arith, from, below, size))),
      (λ past.
          get_or-append_right front (d.bytes ++ rest) f i 0 front_size (omega (arith, past))
          ∙ get_or-append_right d.bytes rest d.len (i - f) 0 size (omega (arith, past))
          ∙ get_or-drop (d.home + d.len - older.home) older.bytes (i - f - d.len) 0),
    )

joined_gives : (a : ℕ) (d older : Delta) → is_whole_block d.kind ≡ false → is_whole_block older.kind ≡ false → d.home ≤ older.home + older.len → older.home ≤ d.home + d.len
    → length d.bytes ≡ d.len → length older.bytes ≡ older.len → given_at a (joined d older) ≡ later (given_at a d) (given_at a older)
joined_gives a d older part older_part low high size older_size =
    let both = joined d older in
    let i = a - both.home in
    let bytes = byte_of_both d older i low high size older_size in
    elim (cases_lt a both.home) [
      | inl before ↦
          before_none a both before ∙ sym (ap (λ (o : Option ℕ). later o (given_at a older)) (before_none a d (omega (arith, before))) ∙ before_none a older (omega (arith, before)))
      | inr from ↦ elim (cases_lt a (both.home + both.len)) [
        | inr past ↦
            after_none a both past ∙ sym (ap (λ (o : Option ℕ). later o (given_at a older)) (after_none a d (omega (arith, past))) ∙ after_none a older (omega (arith, past)))
        | inl below ↦
            some_bytes a both part from below
            ∙ elim (cases_lt a d.home) [
              | inl before ↦
                  ap (λ (x : ℕ). Some x) (bytes.0 (omega (arith, before, from)) ∙ ap (λ (k : ℕ). slice_index older.bytes k) (let same : i ≡ a - older.home = omega (arith, before, from) in same))
                  ∙ sym (ap (λ (o : Option ℕ). later o (given_at a older)) (before_none a d before) ∙ some_bytes a older older_part (omega (arith, before, from)) (omega (arith, before, low)))
              | inr own ↦ elim (cases_lt a (d.home + d.len)) [
                | inl inside ↦
                    ap (λ (x : ℕ). Some x) (bytes.1 (omega (arith, own)) (omega (arith, own, inside)) ∙ ap (λ (k : ℕ). slice_index d.bytes k) (let same : i - (d.home - older.home) ≡ a - d.home = omega (arith, own) in same))
                    ∙ sym (ap (λ (o : Option ℕ). later o (given_at a older)) (some_bytes a d part own inside))
                | inr after ↦
                    ap (λ (x : ℕ). Some x)
                    (bytes.2 (omega (arith, own, after))
                    ∙ ap (λ (k : ℕ). slice_index older.bytes k) (let same : d.home + d.len - older.home + (i - (d.home - older.home) - d.len) ≡ a - older.home = omega (arith, own, after, high) in same))
                    ∙ sym (ap (λ (o : Option ℕ). later o (given_at a older)) (after_none a d after) ∙ some_bytes a older older_part (omega (arith, after, high)) (omega (arith, after, below)))
              ]
            ]
      ]
    ]

-- the first parts of the order between two deltas
order_parts : (d x : Delta) → may_precede d x.kind x.home ≡ true
    → ((ltb d.home x.home || (eqb d.home x.home && is_zero_block d.kind && not (is_zero_block x.kind))) ≡ true) × ((not (has_bytes d.kind && has_bytes x.kind) || leb (d.home + d.len) x.home) ≡ true)
unfolding may_precede
order_parts d x is =
    let home = ltb d.home x.home || (eqb d.home x.home && is_zero_block d.kind && not (is_zero_block x.kind)) in
    let apart = not (has_bytes d.kind && has_bytes x.kind) || leb (d.home + d.len) x.home in
    let first = and_parts (home && apart) _ is in
    and_parts home apart first.0

not_below : (d x : Delta) → may_precede d x.kind x.home ≡ true → d.home ≤ x.home
not_below d x is = elim (or_cases (ltb d.home x.home) (eqb d.home x.home && is_zero_block d.kind && not (is_zero_block x.kind)) (order_parts d x is).0) [
  | inl before ↦ omega (arith, ltb-true d.home x.home before)
  | inr same ↦
      let both = and_parts (eqb d.home x.home && is_zero_block d.kind) (not (is_zero_block x.kind)) same in
      let home = eqb-true d.home x.home (and_parts (eqb d.home x.home) (is_zero_block d.kind) both.0).0 in
      omega (arith, home)
]

-- what comes after a delta with bytes gives nothing where it does
none_after_bytes : (g : Geometry) (a : ℕ) (d x : Delta) → is_whole_block d.kind ≡ false → IsWithinBlock d → IsLoggable g x → d.home ≤ a → a < d.home + d.len → may_precede d x.kind x.home ≡ true → given_at a x ≡ None
none_after_bytes g a d x part within own from below is =
    let parts = order_parts d x is in
    let bytes = part_has_bytes d.kind part in
    let higher : d.home < x.home = elim (or_cases (ltb d.home x.home) (eqb d.home x.home && is_zero_block d.kind && not (is_zero_block x.kind)) parts.0) [
      | inl before ↦ ltb-true d.home x.home before
      | inr same ↦
          let both = and_parts (eqb d.home x.home && is_zero_block d.kind) (not (is_zero_block x.kind)) same in
          absurd (false≢true (sym bytes.1 ∙ (and_parts (eqb d.home x.home) (is_zero_block d.kind) both.0).1))
    ] in
    elim (cases_Bool (is_whole_block x.kind)) [
      | inl whole ↦ elim (or_cases (is_zero_block x.kind) (is_cancel x.kind) whole) [
        | inl zero_is ↦ let start = zero_whole g x own zero_is in before_none a x (omega (arith, start.0, higher, within, below))
        | inr cancel ↦ cancel_none a x cancel
      ]
      | inr bytes_too ↦ elim (or_cases (not (has_bytes d.kind && has_bytes x.kind)) (leb (d.home + d.len) x.home) parts.1) [
        | inl no_bytes ↦ absurd (true≢false (sym (and_from (has_bytes d.kind) (has_bytes x.kind) bytes.0 (part_has_bytes x.kind bytes_too).0) ∙ not-true (has_bytes d.kind && has_bytes x.kind) no_bytes))
        | inr apart ↦ before_none a x (omega (arith, leb-true (d.home + d.len) x.home apart, below))
      ]
    ]

covered_from : (a : ℕ) (d : Delta) (y : ℕ) → given_at a d ≡ Some y → (d.home ≤ a) × (a < d.home + d.len)
covered_from a d y is = elim (cases_Bool (covers a d)) [
  | inl here ↦ let both = and_parts (leb d.home a) (ltb a (d.home + d.len)) here in (leb-true d.home a both.0, ltb-true a (d.home + d.len) both.1)
  | inr none ↦ let nothing : Some y ≡ None = sym is ∙ not_covered a d none in absurd (cc)
]

zero_gives : (a : ℕ) (d : Delta) → is_zero_block d.kind ≡ true → d.home ≤ a → a < d.home + d.len → given_at a d ≡ Some 0
zero_gives a d zero_is from below =
    ap (λ (test : Bool). cond test (byte_of d (a - d.home)) None) (covered_by a d from below)
    ∙ ap (λ (kind : DeltaKind). cond (has_bytes kind) (Some (slice_index d.bytes (a - d.home))) (cond (is_zero_block kind) (Some 0) None)) (zero_kind d.kind zero_is)

unless_given : (o p q : Option ℕ) → (o ≡ None → q ≡ None) → later o p ≡ later o (later p q)
unless_given (Some y) p q none = refl
unless_given None p q none = sym (ap (λ (r : Option ℕ). later p r) (none refl) ∙ later_none p)

swapped : (o p : Option ℕ) → ((y : ℕ) → o ≡ Some y → p ≡ None) → later o p ≡ later p o
swapped (Some y) p none = sym (ap (λ (r : Option ℕ). later r (Some y)) (none y refl))
swapped None p none = sym (later_none p)

-- a delta in the place of an older one gives what both give
replaced_gives : (g : Geometry) (a : ℕ) (d older : Delta) (more : List Delta) → replaces d older ≡ true → IsLoggable g d → IsLoggable g older → All (IsLoggable g) more → AreOrdered (older ∷ more)
    → (is_cancel d.kind ≡ true → d.home / 4096 ≡ a / 4096 → ⊥) → later (given_at a (replacing d older)) (last_at a more) ≡ later (given_at a d) (last_at a (older ∷ more))
replaced_gives g a d older more is own its rest order away =
    let first = given_first (λ x. given_at a x) older more in
    let block = replaced_in_block d older is in
    let older_within : IsWithinBlock older = logged_within g older.kind older.home older.len its.table in
    elim (cases_Bool (is_whole_block d.kind)) [
      | inl whole ↦
          ap (λ (test : Bool). later (given_at a (cond test d (joined d older))) (last_at a more)) whole
          ∙ unless_given (given_at a d) (last_at a more) (given_at a older) (λ none. elsewhere_none a older older_within (λ same.
          elim (or_cases (is_zero_block d.kind) (is_cancel d.kind) whole) [
            | inl zero_is ↦
                let start = zero_whole g d own zero_is in
                let gives = zero_gives a d zero_is (omega (arith, start.0, same, block)) (omega (arith, start.0, start.1, same, block)) in
                let wrong : Some 0 ≡ None = sym gives ∙ none in absurd (cc)
            | inr cancel ↦ away cancel (block ∙ same)
          ]))
          ∙ ap (λ (o : Option ℕ). later (given_at a d) o) (sym first)
      | inr part ↦
          let met = meets_by d older (ap (λ (test : Bool). cond test (share_block d older) (meets d older)) (sym part) ∙ is) in
          let older_part : is_whole_block older.kind ≡ false = ap is_whole_block (sym met.kind) ∙ part in
          let both = joined_gives a d older part older_part met.low met.high (own.bytes ∙ logged_len_of d.kind d.len part) (its.bytes ∙ logged_len_of older.kind older.len older_part) in
          ap (λ (test : Bool). later (given_at a (cond test d (joined d older))) (last_at a more)) part
          ∙ ap (λ (o : Option ℕ). later o (last_at a more)) both
          ∙ later_later (given_at a d) (given_at a older) (last_at a more)
          ∙ ap (λ (o : Option ℕ). later (given_at a d) o)
          (swapped (given_at a older) (last_at a more) (λ y given.
          let here = covered_from a older y given in
          none_given (λ x. given_at a x) more (λ k x inside. none_after_bytes g a older _ older_part older_within (rest k x inside) here.0 here.1 (first_ordered older more order k x inside)))
          ∙ sym first)
    ]

-- what is merged before an older delta gives nothing where that or a later one does
before_gives : (g : Geometry) (a : ℕ) (d older : Delta) (more : List Delta) → replaces d older ≡ false → d.home < older.home → IsLoggable g d → All (IsLoggable g) (older ∷ more)
    → AreOrdered (older ∷ more) → AreOrdered (d ∷ (older ∷ more)) → later (given_at a d) (last_at a (older ∷ more)) ≡ later (last_at a (older ∷ more)) (given_at a d)
before_gives g a d older more other before own all order merged_order =
    swapped (given_at a d) (last_at a (older ∷ more)) (λ y given.
    let here = covered_from a d y given in
    let within : IsWithinBlock d = logged_within g d.kind d.home d.len own.table in
    none_given (λ x. given_at a x) (older ∷ more) (elim (cases_Bool (is_whole_block d.kind)) [
      | inr part ↦ λ k x inside. none_after_bytes g a d _ part within (all k x inside) here.0 here.1 (first_ordered d (older ∷ more) merged_order k x inside)
      | inl whole ↦ elim (or_cases (is_zero_block d.kind) (is_cancel d.kind) whole) [
        | inr cancel ↦ let wrong : Some y ≡ None = sym given ∙ cancel_none a d cancel in absurd (cc)
        | inl zero_is ↦
            let start = zero_whole g d own zero_is in
            let apart : share_block d older ≡ false = ap (λ (test : Bool). cond test (share_block d older) (meets d older)) (sym whole) ∙ other in
            let past : a < older.home = elim (cases_lt a older.home) [
              | inl low ↦ low
              | inr high ↦ absurd (eqb-false (d.home / 4096) (older.home / 4096) apart (omega (arith, start.0, start.1, before, high, here.1)))
            ] in
            let higher : All (λ x. older.home ≤ x.home) (older ∷ more) =
            All-cons (λ x. older.home ≤ x.home) older more (omega arith) (All-weaker (λ x. may_precede older x.kind x.home ≡ true) (λ x. older.home ≤ x.home) (λ x is. not_below older x is) more (first_ordered older more order)) in
            All-weaker (λ x. older.home ≤ x.home) (λ x. given_at a x ≡ None) (λ x high. before_none a x (omega (arith, past, high))) (older ∷ more) higher
      ]
    ]))

away_still : (a : ℕ) (d older : Delta) → replaces d older ≡ true → (is_cancel d.kind ≡ true → d.home / 4096 ≡ a / 4096 → ⊥)
    → is_cancel (replacing d older).kind ≡ true → (replacing d older).home / 4096 ≡ a / 4096 → ⊥
away_still a d older is away = elim (cases_Bool (is_whole_block d.kind)) [
  | inl whole ↦ rw whole away
  | inr part ↦ rw part (λ cancel same. away cancel (let block = replaced_in_block d older is in omega (arith, block, same)))
]

-- the deltas with one more in its place give what that gives, or else what they gave
placed_gives : (g : Geometry) (a : ℕ) (deltas : List Delta) (d : Delta) → All (IsLoggable g) deltas → IsLoggable g d → AreOrdered deltas → AreOrdered (placed deltas d)
    → (is_cancel d.kind ≡ true → d.home / 4096 ≡ a / 4096 → ⊥) → last_at a (placed deltas d) ≡ later (given_at a d) (last_at a deltas)
placed_gives g a [] d all own order merged_order away =
    ap (last_at a) (placed_last d) ∙ given_first (λ x. given_at a x) d [] ∙ sym (later_none (given_at a d))
placed_gives g a (older ∷ more) d all own order merged_order away =
    let f = λ (x : Delta). given_at a x in
    let its = All-head (IsLoggable g) older more all in
    let rest = All-tail (IsLoggable g) older more all in
    elim (cases_Bool (replaces d older)) [
      | inl is ↦
          let step = placed_replaced d older more is in
          ap (last_at a) step
          ∙ placed_gives g a more (replacing d older) rest (replacing_loggable g d older is own its) (rest_ordered older more order) (subst (λ (l : List Delta). AreOrdered l) step merged_order) (away_still a d older is away)
          ∙ replaced_gives g a d older more is own its rest order away
      | inr other ↦ elim (cases_Bool (ltb d.home older.home)) [
        | inl before ↦
            let step = placed_before d older more other before in
            ap (last_at a) step
            ∙ given_first f d (older ∷ more)
            ∙ sym (before_gives g a d older more other (ltb-true d.home older.home before) own all order (subst (λ (l : List Delta). AreOrdered l) step merged_order))
        | inr after ↦
            let step = placed_after d older more other after in
            ap (last_at a) step
            ∙ given_first f older (placed more d)
            ∙ ap (λ (o : Option ℕ). later o (given_at a older))
            (placed_gives g a more d rest own (rest_ordered older more order) (rest_ordered older (placed more d) (subst (λ (l : List Delta). AreOrdered l) step merged_order)) away)
            ∙ later_later (given_at a d) (last_at a more) (given_at a older)
            ∙ ap (λ (o : Option ℕ). later (given_at a d) o) (sym (given_first f older more))
      ]
    ]

-- a list of elements that all pass the test
all_kept : {X : Type 0} (p : X → Bool) (xs : List X) → All (λ x. p x ≡ true) xs → filter p xs ≡ xs
all_kept p [] all = refl
all_kept {X} p (x ∷ xs) all =
    ap (λ (test : Bool). cond test (x ∷ filter p xs) (filter p xs)) (All-head (λ x. p x ≡ true) x xs all) ∙ ap (λ (l : List X). x ∷ l) (all_kept p xs (All-tail (λ x. p x ≡ true) x xs all))

-- where all deltas stand beside the new one, that is put in its place among them
merged_placed : (deltas : List Delta) (d : Delta) → All (λ older. stands_beside d older ≡ true) deltas → merged deltas d ≡ placed deltas d
unfolding merged
merged_placed deltas d beside = ap (λ (l : List Delta). placed l d) (all_kept (stands_beside d) deltas beside)

-- the deltas with one more merged into them give what that gives, or else what they gave
pub merged_gives : (g : Geometry) (a : ℕ) (deltas : List Delta) (d : Delta) → All (IsLoggable g) deltas → IsLoggable g d → AreOrdered deltas → AreOrdered (merged deltas d)
    → All (λ older. stands_beside d older ≡ true) deltas → (is_cancel d.kind ≡ true → d.home / 4096 ≡ a / 4096 → ⊥) → last_at a (merged deltas d) ≡ later (given_at a d) (last_at a deltas)
merged_gives g a deltas d all own order merged_order beside away =
    let same = merged_placed deltas d beside in
    ap (last_at a) same ∙ placed_gives g a deltas d all own order (subst (λ (l : List Delta). AreOrdered l) same merged_order) away
