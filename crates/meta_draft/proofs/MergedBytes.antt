-- How many bytes of a log merged deltas take.
use Rattle.std.proofs.Common.{◌≡◌, ◌≤◌, inl, inr, ℕ, ◌+◌, ltb, Bool, true, false, not, cond, List, [], ◌∷◌, refl, sym, ap, ◌∙◌, arith}
use Rattle.std.specs.List.{filter}
use Rattle.std.proofs.lemmas.Bool.{cases_Bool}
use Rattle.std.proofs.lemmas.List.Sums.{sum_by-cons}
use Rattle.std.proofs.lemmas.List.Filters.{sum_by-filter_both}
use Rattle.lufs_base.specs.declared.delta.Delta.{Delta}
use Rattle.volume_model.specs.Log.{logged_len, delta_bytes}
use Rattle.meta_store.specs.Merged.{is_whole_block, share_block, meets, replaces, joined, replacing, stands_beside, placed, merged}
use Rattle.meta_store.proofs.MergeSteps.{placed_replaced, placed_before, placed_after, placed_last}
use Rattle.meta_store.proofs.MergedTable.{meets_by, logged_len_of}

-- the bytes that a delta takes, with those at its head
abbrev bytes_of : Delta → ℕ
bytes_of d = 16 + logged_len d.kind d.len

replacing_bytes : (d older : Delta) → replaces d older ≡ true → bytes_of (replacing d older) ≤ bytes_of d + bytes_of older
replacing_bytes d older is = elim (cases_Bool (is_whole_block d.kind)) [
  | inl whole ↦ rw whole (omega arith)
  | inr part ↦
      let met = meets_by d older (ap (λ (test : Bool). cond test (share_block d older) (meets d older)) (sym part) ∙ is) in
      let older_part : is_whole_block older.kind ≡ false = ap is_whole_block (sym met.kind) ∙ part in
      let all = logged_len_of d.kind (joined d older).len part in
      let own = logged_len_of d.kind d.len part in
      let its = logged_len_of older.kind older.len older_part in
      rw part (omega (arith, all, own, its, met.low, met.high))
]

placed_bytes : (deltas : List Delta) (d : Delta) → delta_bytes (placed deltas d) ≤ delta_bytes deltas + bytes_of d
placed_bytes [] d =
    let all = ap delta_bytes (placed_last d) in
    let one : delta_bytes (d ∷ []) ≡ bytes_of d = omega (arith, sum_by-cons bytes_of d []) in
    omega (arith, all, one)
placed_bytes (older ∷ more) d =
    let both : delta_bytes (older ∷ more) ≡ bytes_of older + delta_bytes more = sum_by-cons bytes_of older more in
    elim (cases_Bool (replaces d older)) [
      | inl is ↦
          let all = ap delta_bytes (placed_replaced d older more is) in
          let left = placed_bytes more (replacing d older) in
          let place = replacing_bytes d older is in
          omega (arith, all, both, left, place)
      | inr other ↦ elim (cases_Bool (ltb d.home older.home)) [
        | inl before ↦
            let all = ap delta_bytes (placed_before d older more other before) in
            let one : delta_bytes (d ∷ (older ∷ more)) ≡ bytes_of d + delta_bytes (older ∷ more) = sum_by-cons bytes_of d (older ∷ more) in
            omega (arith, all, one)
        | inr after ↦
            let all = ap delta_bytes (placed_after d older more other after) in
            let one : delta_bytes (older ∷ placed more d) ≡ bytes_of older + delta_bytes (placed more d) = sum_by-cons bytes_of older (placed more d) in
            let left = placed_bytes more d in
            omega (arith, all, one, both, left)
      ]
    ]

pub merged_no_longer : (deltas : List Delta) (d : Delta) → delta_bytes (merged deltas d) ≤ delta_bytes deltas + bytes_of d
unfolding merged
merged_no_longer deltas d =
    let kept = filter (stands_beside d) deltas in
    let both = sum_by-filter_both (stands_beside d) (λ older. not (stands_beside d older)) (λ older. refl) bytes_of deltas in
    omega (arith, both, placed_bytes kept d)
