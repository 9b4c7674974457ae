-- The steps by which a delta is merged into others, and that what is merged stays within its block.
use Rattle.std.proofs.Common.{◌≡◌, inl, inr, ◌/◌, eqb, ltb, Bool, true, false, ◌&&◌, cond, List, [], ◌∷◌, ◌++◌, refl, sym, ap, ◌∙◌, arith}
use Rattle.std.specs.Prelude.{All}
use Rattle.std.specs.List.{filter}
use Rattle.std.proofs.lemmas.Bool.{cases_Bool, and_parts, eqb-true}
use Rattle.std.proofs.lemmas.List.Elements.{All-cons, All-head, All-tail, All-nil, All-filter}
use Rattle.lufs_base.specs.declared.delta.Delta.{Delta}
use Rattle.meta_store.specs.Laid.{IsWithinBlock}
use Rattle.meta_store.specs.Merged.{is_whole_block, is_same_kind, share_block, is_pointers, touches, meets, replaces, joined, replacing, stands_beside, placed, merged, all_merged}

pub placed_last : (d : Delta) → placed [] d ≡ d ∷ []
unfolding placed
placed_last d = refl

pub placed_replaced : (d older : Delta) (deltas : List Delta) → replaces d older ≡ true → placed (older ∷ deltas) d ≡ placed deltas (replacing d older)
unfolding placed
placed_replaced d older deltas is =
    ap (λ (test : Bool). cond test (placed deltas (replacing d older)) (cond (ltb d.home older.home) (d ∷ (older ∷ deltas)) (older ∷ placed deltas d))) is

pub placed_before : (d older : Delta) (deltas : List Delta) → replaces d older ≡ false → ltb d.home older.home ≡ true → placed (older ∷ deltas) d ≡ d ∷ (older ∷ deltas)
unfolding placed
placed_before d older deltas other before =
    ap (λ (test : Bool). cond test (placed deltas (replacing d older)) (cond (ltb d.home older.home) (d ∷ (older ∷ deltas)) (older ∷ placed deltas d))) other
    ∙ ap (λ (test : Bool). cond test (d ∷ (older ∷ deltas)) (older ∷ placed deltas d)) before

pub placed_after : (d older : Delta) (deltas : List Delta) → replaces d older ≡ false → ltb d.home older.home ≡ false → placed (older ∷ deltas) d ≡ older ∷ placed deltas d
unfolding placed
placed_after d older deltas other after =
    ap (λ (test : Bool). cond test (placed deltas (replacing d older)) (cond (ltb d.home older.home) (d ∷ (older ∷ deltas)) (older ∷ placed deltas d))) other
    ∙ ap (λ (test : Bool). cond test (d ∷ (older ∷ deltas)) (older ∷ placed deltas d)) after

-- what is merged is placed among the deltas that stand beside it
pub merged_is : (deltas : List Delta) (d : Delta) → merged deltas d ≡ placed (filter (stands_beside d) deltas) d
unfolding merged
merged_is deltas d = refl

-- what replaces another delta lies in its block
pub replaced_in_block : (d older : Delta) → replaces d older ≡ true → d.home / 4096 ≡ older.home / 4096
replaced_in_block d older is = elim (cases_Bool (is_whole_block d.kind)) [
  | inl whole ↦ eqb-true (d.home / 4096) (older.home / 4096) (ap (λ (test : Bool). cond test (share_block d older) (meets d older)) (sym whole) ∙ is)
  | inr part ↦
      let meet : meets d older ≡ true = ap (λ (test : Bool). cond test (share_block d older) (meets d older)) (sym part) ∙ is in
      let both = (and_parts (is_same_kind d.kind older.kind && share_block d older) (cond (is_pointers d.kind) (touches d older) (eqb d.home older.home)) meet).0 in
      eqb-true (d.home / 4096) (older.home / 4096) (and_parts (is_same_kind d.kind older.kind) (share_block d older) both).1
]

joined_within : (d older : Delta) → d.home / 4096 ≡ older.home / 4096 → IsWithinBlock d → IsWithinBlock older → IsWithinBlock (joined d older)
joined_within d older same within old_within = omega (arith, same, within, old_within)

pub replacing_within : (d older : Delta) → replaces d older ≡ true → IsWithinBlock d → IsWithinBlock older → IsWithinBlock (replacing d older)
replacing_within d older is within old_within =
    elim (is_whole_block d.kind) as (λ whole. IsWithinBlock (cond whole d (joined d older))) [
      | true ↦ within
      | false ↦ joined_within d older (replaced_in_block d older is) within old_within
    ]

-- what holds of the deltas and of one more holds of all, if it is kept where one replaces another
pub placed_all : (P : Delta → Type 0) → ((d older : Delta) → replaces d older ≡ true → P d → P older → P (replacing d older)) → (deltas : List Delta) (d : Delta) → All P deltas → P d → All P (placed deltas d)
unfolding placed
placed_all P kept [] d all own = All-cons P d [] own (All-nil P)
placed_all P kept (older ∷ deltas) d all own =
    let first = All-head P older deltas all in
    let rest = All-tail P older deltas all in
    elim (cases_Bool (replaces d older)) [
      | inl is ↦ rw is (placed_all P kept deltas (replacing d older) rest (kept d older is own first))
      | inr other ↦ rw other (elim (ltb d.home older.home) as (λ before. All P (cond before (d ∷ (older ∷ deltas)) (older ∷ placed deltas d))) [
        | true ↦ All-cons P d (older ∷ deltas) own all
        | false ↦ All-cons P older (placed deltas d) first (placed_all P kept deltas d rest own)
      ])
    ]

-- the same where deltas are merged
pub merged_all : (P : Delta → Type 0) → ((d older : Delta) → replaces d older ≡ true → P d → P older → P (replacing d older)) → (deltas : List Delta) (d : Delta) → All P deltas → P d → All P (merged deltas d)
unfolding merged
merged_all P kept deltas d all own = placed_all P kept (filter (stands_beside d) deltas) d (All-filter (stands_beside d) P deltas all) own

pub merged_within : (deltas : List Delta) (d : Delta) → All IsWithinBlock deltas → IsWithinBlock d → All IsWithinBlock (merged deltas d)
merged_within = merged_all IsWithinBlock replacing_within

pub all_merged_none : (deltas : List Delta) → all_merged deltas [] ≡ deltas
unfolding all_merged
all_merged_none deltas = refl

-- one delta more
pub all_merged_more : (deltas more : List Delta) (d : Delta) → all_merged deltas (more ++ d ∷ []) ≡ merged (all_merged deltas more) d
unfolding all_merged
all_merged_more deltas [] d = refl
all_merged_more deltas (first ∷ more) d = all_merged_more (merged deltas first) more d

pub all_merged_within : (deltas more : List Delta) → All IsWithinBlock deltas → All IsWithinBlock more → All IsWithinBlock (all_merged deltas more)
unfolding all_merged
all_merged_within deltas [] all within = all
all_merged_within deltas (d ∷ more) all within =
    all_merged_within (merged deltas d) more (merged_within deltas d all (All-head IsWithinBlock d more within)) (All-tail IsWithinBlock d more within)
