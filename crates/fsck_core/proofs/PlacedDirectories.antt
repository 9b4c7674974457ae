-- The tables and the steps up say which directories have their one place in the tree.
use Rattle.std.proofs.Common.{◌≡◌, ◌≢◌, ◌<◌, ℕ, zero, suc, ◌+◌, ◌-◌, ◌==◌, Bool, true, false, not, ◌&&◌, ◌||◌, cond, List, [], ◌∷◌, length, slice_index, slice_index_or, slice_set, slice_get, Option, None, refl, sym, ap, inl, inr, ◌∙◌, arith}
use Rattle.std.specs.Prelude.{bytes_eq, if◌then◌else◌}
use Rattle.std.proofs.lemmas.Bool.{cases_Bool, cases_eq, eqb-true, eqb-false, eq-eqb, or_left}
use Rattle.std.proofs.lemmas.List.{length-set, get_or-set_same, get_or-set_other}
use Rattle.std.specs.List.{list_any, range_with_len}
use Rattle.std.specs.Option.{option_flatten}
use Rattle.volume_model.specs.Sound.{Names, is_directory_in, parent_at, namers_of, ancestor_of, leads_to_root, has_right_parent, has_bad_parent}
use Rattle.fsck_core.specs.declared.names.Namer.{Namer}
use Rattle.fsck_core.specs.declared.names.Namer.TheVariants.{Nobody}
use Rattle.fsck_core.specs.declared.names.NameTables.{NameTables}
use Rattle.fsck_core.specs.NameTables.{namer_in, HasNames}
use Rattle.fsck_core.specs.declared.inodes.Brief.{Brief}
use Rattle.fsck_core.specs.StepsUp.{is_directory_record, is_placed, is_misplaced, stepped, IsClosed, LeadsUp}

or_false : (b : Bool) → b ≡ (b || false)
or_false true = refl
or_false false = refl

-- the record at a place, both ways
pub record_at_place : (inodes : List (Option Brief)) (i : ℕ) → option_flatten (slice_get inodes i) ≡ slice_index_or inodes i None
record_at_place [] i = refl
record_at_place (d ∷ inodes) zero = refl
record_at_place (d ∷ inodes) (suc i) = record_at_place inodes i

any_from_next : (p : ℕ → Bool) (len a : ℕ) → list_any p (range_with_len (a + 1) len) ≡ list_any (λ k. p (suc k)) (range_with_len a len)
any_from_next p zero a = refl
any_from_next p (suc len) a =
    let e : a + 1 ≡ suc a = omega arith in
    ap (λ (b : Bool). b || list_any p (range_with_len (a + 1 + 1) len)) (ap p e) ∙ ap (λ (b : Bool). p (suc a) || b) (any_from_next p len (a + 1))

module _ (m : Names) (n : ℕ) (above : List ℕ) (size : length above ≡ n) (root : 2 < n → slice_index above 2 ≡ 2) (others : (i : ℕ) → i < n → i ≢ 2 → slice_index above i ≡ parent_at m i) (inside : (i : ℕ) → i < n → parent_at m i < n) where
  above_is_closed : IsClosed above
  above_is_closed i less = elim (cases_eq i 2) [
    | inl two ↦
        let at : slice_index above i ≡ 2 = ap (slice_index above) two ∙ root (omega (arith, size)) in
        omega (arith, size, at)
    | inr other ↦ omega (arith, size, others i (omega (arith, size)) other, inside i (omega (arith, size)))
  ]

  stays_at_root : 2 < n → (steps : ℕ) → stepped above steps 2 ≡ 2
  stays_at_root here zero = refl
  stays_at_root here (suc steps) = ap (stepped above steps) (root here) ∙ stays_at_root here steps

  -- So many steps up are at the root where that many or fewer were at it.
  ends_at_root : (steps i : ℕ) → i < n → (stepped above steps i == 2) ≡ list_any (λ k. ancestor_of m k i == 2) (range_with_len 0 (suc steps))
  ends_at_root zero i less = or_false (i == 2)
  ends_at_root (suc steps) i less =
      let p : ℕ → Bool = λ k. ancestor_of m k i == 2 in
      elim (cases_Bool (i == 2)) [
        | inl two ↦
            let is : i ≡ 2 = eqb-true i 2 two in
            let stays : stepped above (suc steps) i ≡ 2 = ap (stepped above (suc steps)) is ∙ stays_at_root (omega arith) (suc steps) in
            eq-eqb (stepped above (suc steps) i) 2 stays ∙ sym (or_left (i == 2) (list_any p (range_with_len 1 (suc steps))) two)
        | inr other ↦
            let next : slice_index above i ≡ parent_at m i = others i less (eqb-false i 2 other) in
            ap (λ (k : ℕ). stepped above steps k == 2) next ∙ ends_at_root steps (parent_at m i) (inside i less) ∙ sym (any_from_next p (suc steps) 0)
            ∙ ap (λ (b : Bool). b || list_any p (range_with_len 1 (suc steps))) (sym other)
      ]

  leads_up : (far : List ℕ) → LeadsUp above (n - 1) far → (i : ℕ) → i < n → (slice_index far i == 2) ≡ leads_to_root n m i
  leads_up far leads i less =
      let whole : suc (n - 1) ≡ n = omega arith in
      ap (λ (k : ℕ). k == 2) (leads.each above_is_closed i (omega (arith, size))) ∙ ends_at_root (n - 1) i less
      ∙ ap (λ (len : ℕ). list_any (λ k. ancestor_of m k i == 2) (range_with_len 0 len)) whole

nobody_names : (root at leads : Bool) → cond root (true && at) (false && leads) ≡ (root && at)
nobody_names true at leads = refl
nobody_names false at leads = refl

one_names : (root at same ends leads : Bool) → ends ≡ leads → cond root (false && at) ((same && true) && leads) ≡ (not root && (same && ends))
one_names true at same ends leads e = refl
one_names false at true ends leads e = sym e
one_names false at false ends leads e = refl

many_name : (root at same leads : Bool) → cond root (false && at) ((same && false) && leads) ≡ false
many_name true at same leads = refl
many_name false at true leads = refl
many_name false at false leads = refl

-- what the table has of those that name a directory is enough to say whether it has its one place
placed_by_entry : (i parent far : ℕ) (namers : List ℕ) (leads : Bool) → (far == 2) ≡ leads
    → (if i == 2 then bytes_eq namers [] && parent == 2 else bytes_eq namers (parent ∷ []) && leads) ≡ is_placed i (namer_in namers) parent far
placed_by_entry i parent far [] leads same = nobody_names (i == 2) (parent == 2) leads
placed_by_entry i parent far (j ∷ []) leads same = one_names (i == 2) (parent == 2) (j == parent) (far == 2) leads same
placed_by_entry i parent far (j ∷ (k ∷ more)) leads same = many_name (i == 2) (parent == 2) (j == parent) leads

pub misplaced_is : (n : ℕ) (m : Names) (inodes : List (Option Brief)) (t : NameTables) (above far : List ℕ) → HasNames n n m t
    → ((i : ℕ) → i < n → is_directory_in m i ≡ is_directory_record (option_flatten (slice_get inodes i))) → ((i : ℕ) → i < n → parent_at m i < n)
    → above ≡ slice_set t.parents.items 2 2 → LeadsUp above (n - 1) far → (i : ℕ) → i < n → is_misplaced inodes t far i ≡ has_bad_parent n m i
misplaced_is n m inodes t above far has directories inside set leads i less =
    let parents = t.parents.items in
    let size : length above ≡ n = ap length set ∙ length-set parents 2 2 ∙ has.sizes.parents in
    let root : 2 < n → slice_index above 2 ≡ 2 =
    λ here. ap (λ (xs : List ℕ). slice_index xs 2) set ∙ get_or-set_same parents 2 2 0 (omega (arith, has.sizes.parents)) in
    let others : (k : ℕ) → k < n → k ≢ 2 → slice_index above k ≡ parent_at m k =
    λ k below other. ap (λ (xs : List ℕ). slice_index xs k) set ∙ get_or-set_other parents 2 k 2 0 other ∙ has.parents k below in
    let directory : is_directory_record (slice_index_or inodes i None) ≡ is_directory_in m i = ap is_directory_record (sym (record_at_place inodes i)) ∙ sym (directories i less) in
    let ends = leads_up m n above size root others inside far leads i less in
    let right : is_placed i (slice_index_or t.namers.items i Nobody) (slice_index parents i) (slice_index far i) ≡ has_right_parent n m i =
    ap (λ (namer : Namer). is_placed i namer (slice_index parents i) (slice_index far i)) (has.namers i less)
    ∙ ap (λ (parent : ℕ). is_placed i (namer_in (namers_of n m i)) parent (slice_index far i)) (has.parents i less)
    ∙ sym (placed_by_entry i (parent_at m i) (slice_index far i) (namers_of n m i) (leads_to_root n m i) ends) in
    ap (λ (b : Bool). b && not (is_placed i (slice_index_or t.namers.items i Nobody) (slice_index parents i) (slice_index far i))) directory
    ∙ ap (λ (b : Bool). is_directory_in m i && not b) right
