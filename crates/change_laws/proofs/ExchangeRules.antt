-- What an exchange keeps: how many places each block and each inode has, and so all rules of what is stored.
use Rattle.std.proofs.Common.{◌≡◌, ◌<◌, inl, inr, ℕ, ◌+◌, Bool, true, false, not, ◌&&◌, List, [], ◌∷◌, ◌++◌, Option, Some, None, refl, sym, ap, ◌∙◌, arith}
use Rattle.std.specs.Prelude.{nat_lt, is_some, ◌==◌}
use Rattle.std.specs.List.{list_all}
use Rattle.std.specs.Option.{option_map_or}
use Rattle.std.proofs.lemmas.Bool.{cases_eq, eq-eqb, ne_eqb, le-ltb, not_from_true}
use Rattle.std.proofs.lemmas.List.{length-set}
use Rattle.lufs_base.specs.declared.geometry.Geometry.{Geometry}
use Rattle.volume_model.specs.declared.hand.Hand.{Hand}
use Rattle.volume_model.specs.Format.{is_body}
use Rattle.volume_model.specs.Sound.{UsedInode, InodeState, NoRecord, Unused, InUse, Reading, inodes_in, used_of, used_at, Claim, claims_of, IsLaid, held_inodes, held_blocks, is_bad_state, is_bad_inode, has_right_numbers, IsStored}
use Rattle.volume_laws.specs.Changes.{with_state}
use Rattle.volume_laws.proofs.ListParts.{entry_set, entry_kept}
use Rattle.volume_laws.proofs.Counting.{one_if}
use Rattle.change_laws.specs.Hands.{times, HaveTheSame}
use Rattle.change_laws.specs.Exchange.{claimed_blocks, used_inodes, IsRightState, Exchanges}
use Rattle.change_laws.proofs.Counts.{times-append, times-cons, holds_by}
use Rattle.change_laws.proofs.Places.{places_of_block, places_of_inode, HavePlaces, HasRightRecords, records_of_stored, places_of_stored, bits_of_stored, stored_of_places}
use Rattle.change_laws.proofs.OneInode.{used_changed, used_other, claims_counted}

-- what a right state keeps of the rules on single inodes
right_state : (g : Geometry) (i : ℕ) (state : InodeState) → IsRightState g i state → is_bad_state i (Some state) ≡ false
right_state g i NoRecord right = absurd right
right_state g i Unused right = refl
right_state g i (InUse u) right = le-ltb i 2 right.usable

right_numbers : (g : Geometry) (i : ℕ) (state : InodeState) → IsRightState g i state → option_map_or (λ u. not (has_right_numbers g i u)) (used_of state) false ≡ false
right_numbers g i NoRecord right = absurd right
right_numbers g i Unused right = refl
right_numbers g i (InUse u) right = not_from_true (has_right_numbers g i u) right.numbers

right_chunks : (g : Geometry) (i : ℕ) (state : InodeState) → IsRightState g i state → option_map_or (λ u. not (list_all is_some u.chunks)) (used_of state) false ≡ false
right_chunks g i NoRecord right = absurd right
right_chunks g i Unused right = refl
right_chunks g i (InUse u) right = not_from_true (list_all is_some u.chunks) right.chunks

-- how often inode j stands where inode i alone does, if it is in use
times_used : (i j : ℕ) (o : Option UsedInode) → times j (used_inodes i o) ≡ one_if (i == j && is_some o)
times_used i j None = elim (i == j) as (λ t. 0 ≡ one_if (t && false)) [ true ↦ refl | false ↦ refl ]
times_used i j (Some u) =
    let none : times j (i ∷ []) ≡ one_if (i == j) + 0 = times-cons j i [] in
    let both : (t : Bool) → one_if t + 0 ≡ one_if (t && true) = elim [ true ↦ (let one : 1 + 0 ≡ 1 = omega arith in one) | false ↦ (let one : 0 + 0 ≡ 0 = omega arith in one) ] in
    none ∙ both (i == j)

module _ (g : Geometry) (r : Reading) (i : ℕ) (state : InodeState) (hands others : List Hand) (within : i < inodes_in r) where
  abbrev s : Reading
  s = with_state r i state

  size : inodes_in s ≡ inodes_in r
  size = length-set r.inodes i state

  module _ (exchanged : HaveTheSame (claimed_blocks i (used_at r i) ++ held_blocks hands) (claimed_blocks i (used_of state) ++ held_blocks others)) where
    pub blocks_kept : (b : ℕ) → places_of_block s others b ≡ places_of_block r hands b
    blocks_kept b = omega (
      arith,
      claims_counted r i state within b,
      exchanged b,
      times-append b (claimed_blocks i (used_at r i)) (held_blocks hands),
      times-append b (claimed_blocks i (used_of state)) (held_blocks others),
    )

    pub still_laid : IsStored g r hands → IsLaid g s
    still_laid stored =
        let old = places_of_stored g r hands stored in
        record {
          bodies = holds_by (λ (claim : Claim). claim.block) (λ b. is_body g b ≡ true) (claims_of s) (λ b some. old.block_body b (omega (arith, some, blocks_kept b)));
          once = λ b body. (let once = old.block_once b in omega (arith, once, blocks_kept b));
        }

  module _ (exchanged : HaveTheSame (used_inodes i (used_at r i) ++ held_inodes hands) (used_inodes i (used_of state) ++ held_inodes others)) where
    pub inodes_kept : (j : ℕ) → places_of_inode s others j ≡ places_of_inode r hands j
    inodes_kept j =
        let counts : one_if (i == j && is_some (used_of state)) + times j (held_inodes others) ≡ one_if (i == j && is_some (used_at r i)) + times j (held_inodes hands) =
        omega (
          arith,
          exchanged j,
          times-append j (used_inodes i (used_at r i)) (held_inodes hands),
          times-append j (used_inodes i (used_of state)) (held_inodes others),
          times_used i j (used_at r i),
          times_used i j (used_of state),
        ) in
        elim (cases_eq j i) [
          | inl same ↦
              let is : (i == j) ≡ true = eq-eqb i j (sym same) in
              let new : one_if (i == j && is_some (used_of state)) ≡ one_if (is_some (used_at s j)) =
              ap (λ (t : Bool). one_if (t && is_some (used_of state))) is ∙ ap (λ (o : Option UsedInode). one_if (is_some o)) (sym (ap (used_at s) same ∙ used_changed r i state within)) in
              let old : one_if (i == j && is_some (used_at r i)) ≡ one_if (is_some (used_at r j)) =
              ap (λ (t : Bool). one_if (t && is_some (used_at r i))) is ∙ ap (λ (k : ℕ). one_if (is_some (used_at r k))) (sym same) in
              omega (arith, counts, new, old)
          | inr away ↦
              let is : (i == j) ≡ false = ne_eqb i j (λ same. away (sym same)) in
              let new : one_if (i == j && is_some (used_of state)) ≡ 0 = ap (λ (t : Bool). one_if (t && is_some (used_of state))) is in
              let old : one_if (i == j && is_some (used_at r i)) ≡ 0 = ap (λ (t : Bool). one_if (t && is_some (used_at r i))) is in
              let rest : one_if (is_some (used_at s j)) ≡ one_if (is_some (used_at r j)) = ap (λ (o : Option UsedInode). one_if (is_some o)) (used_other r i state within j away) in
              omega (arith, counts, new, old, rest)
        ]

  -- a rule on single inodes that held of all holds of all, where it holds of the new state
  by_inode : (bad : ℕ → Option UsedInode → Bool) → bad i (used_of state) ≡ false → (j : ℕ) → bad j (used_at r j) ≡ false → bad j (used_at s j) ≡ false
  by_inode bad right j kept = elim (cases_eq j i) [
    | inl same ↦ ap (λ (k : ℕ). bad k (used_at s k)) same ∙ ap (bad i) (used_changed r i state within) ∙ right
    | inr away ↦ ap (bad j) (used_other r i state within j away) ∙ kept
  ]

  inode_rule : is_bad_state i (Some state) ≡ false → (j : ℕ) → is_bad_inode r j ≡ false → is_bad_inode s j ≡ false
  inode_rule right j kept = elim (cases_eq j i) [
    | inl same ↦ ap (is_bad_inode s) same ∙ ap (is_bad_state i) (entry_set r.inodes i state within) ∙ right
    | inr away ↦ ap (is_bad_state j) (entry_kept r.inodes i state j away) ∙ kept
  ]

  records_kept : IsRightState g i state → HasRightRecords g r → HasRightRecords g s
  records_kept right records = record {
    groups = records.groups;
    inodes = λ j below. inode_rule (right_state g i state right) j (records.inodes j (omega (arith, below, size)));
    numbers = λ j below.
        by_inode (λ k o. option_map_or (λ u. not (has_right_numbers g k u)) o false) (right_numbers g i state right) j (records.numbers j (omega (arith, below, size)));
    chunks = λ j below.
        by_inode (λ k o. option_map_or (λ u. not (list_all is_some u.chunks)) o false) (right_chunks g i state right) j (records.chunks j (omega (arith, below, size)));
    counts = records.counts;
  }

pub exchange_stored : (g : Geometry) (r : Reading) (i : ℕ) (state : InodeState) (hands others : List Hand)
    → IsStored g r hands → Exchanges g r i state hands others → IsStored g (with_state r i state) others
exchange_stored g r i state hands others stored exchange =
    let s = with_state r i state in
    let size : inodes_in s ≡ inodes_in r = length-set r.inodes i state in
    let old = places_of_stored g r hands stored in
    let bits = bits_of_stored g r hands stored in
    let blocks = blocks_kept g r i state hands others exchange.within exchange.blocks in
    let inodes = inodes_kept g r i state hands others exchange.within exchange.inodes in
    let places : HavePlaces g s others = record {
      block_once = λ b. (let once = old.block_once b in omega (arith, once, blocks b));
      block_body = λ b some. old.block_body b (omega (arith, some, blocks b));
      inode_once = λ j. (let once = old.inode_once j in omega (arith, once, inodes j));
      inode_usable = λ j some. (let usable = old.inode_usable j (omega (arith, some, inodes j)) in (usable.0, omega (arith, usable.1, size)));
    } in
    stored_of_places g s others places (records_kept g r i state hands others exchange.within exchange.right (records_of_stored g r hands stored)) (record {
      inodes = λ j low below. bits.inodes j low (omega (arith, below, size)) ∙ ap (λ (k : ℕ). nat_lt 0 k) (sym (inodes j));
      blocks = λ b body. bits.blocks b body ∙ ap (λ (k : ℕ). nat_lt 0 k) (sym (blocks b));
    })
