-- An inode that stays in use and claims some held blocks more: what it claims is counted, and what is stored stays right.
use Rattle.std.proofs.Common.{◌≡◌, ◌<◌, ◌≤◌, inl, inr, ℕ, ◌+◌, ◌-◌, eqb, Bool, true, false, not, ◌&&◌, ◌||◌, cond, List, [], ◌∷◌, ◌++◌, length, take, drop, get_or, set, slice_index, Option, Some, refl, sym, ap, ◌∙◌, arith}
use Rattle.std.specs.Prelude.{◌==◌, nat_le, nat_lt, is_some, sum_by}
use Rattle.std.specs.List.{filter, list_all}
use Rattle.std.proofs.lemmas.Bool.{cases_lt, and_from, eqb-true, eq-eqb, not_from_false}
use Rattle.std.proofs.lemmas.List.{length-drop, length-take-le, get_or-drop, get_or-take, get_or_past}
use Rattle.std.proofs.lemmas.List.Sums.{sum_by-cons, sum_by-set, length-filter, AllPass-from_list_all, list_all-from_AllPass}
use Rattle.lufs_base.specs.Fields.{are_zeros}
use Rattle.lufs_base.specs.declared.geometry.Geometry.{Geometry}
use Rattle.volume_model.specs.declared.hand.Hand.{Hand}
use Rattle.volume_model.specs.Format.{is_body, is_file}
use Rattle.volume_model.specs.Sound.{UsedInode, InUse, Reading, used_at, claims_in, held_inodes, held_blocks, size_in_blocks, first_index, has_right_size, has_right_numbers, IsStored}
use Rattle.volume_laws.proofs.ClaimFacts.{used_within}
use Rattle.volume_laws.proofs.Counting.{one_if}
use Rattle.volume_laws.proofs.FieldFacts.{fields_of_numbers, count_of_numbers}
use Rattle.volume_laws.proofs.StoredClaims.{right_numbers}
use Rattle.change_laws.specs.Hands.{times, HaveTheSame}
use Rattle.change_laws.specs.Exchange.{claimed_blocks, used_inodes, Exchanges}
use Rattle.change_laws.specs.Plans.{HoldMore}
use Rattle.change_laws.proofs.Counts.{times-append, times-cons, holds_of, holds_of_all}
use Rattle.change_laws.proofs.InodeRights.{usable}
use Rattle.change_laws.proofs.ClaimedBlocks.{claims_one, count_of_claims, bodies_by_blocks}
use Rattle.change_laws.proofs.NewInodes.{test_of_all}

-- 1 for a number that is x, and not 0
abbrev weight : (x y : ℕ) → ℕ
weight x y = one_if (claims_one y && y == x)

times_kept : (x : ℕ) (xs : List ℕ) → times x (filter claims_one xs) ≡ sum_by (weight x) xs
times_kept x [] = refl
times_kept x (y ∷ ys) =
    let rest = times_kept x ys in
    let kept : List ℕ = filter claims_one ys in
    let step : (t : Bool) → times x (cond t (y ∷ kept) kept) ≡ one_if (t && y == x) + times x kept = λ t.
    elim t as (λ t. times x (cond t (y ∷ kept) kept) ≡ one_if (t && y == x) + times x kept) [
      | true ↦ times-cons x y kept
      | false ↦ (let same : times x kept ≡ 0 + times x kept = omega arith in same)
    ] in
    step (claims_one y) ∙ ap (λ (k : ℕ). weight x y + k) rest ∙ sym (sum_by-cons (weight x) y ys)

-- a number in the place of 0
module _ (numbers : List ℕ) (k b : ℕ) (within : k < length numbers) (empty : slice_index numbers k ≡ 0) (some : eqb b 0 ≡ false) where
  pub times_attached : (x : ℕ) → times x (filter claims_one (set numbers k b)) ≡ times x (b ∷ []) + times x (filter claims_one numbers)
  times_attached x =
      let none : weight x (get_or numbers k 0) ≡ 0 = ap (weight x) empty in
      let one : weight x b ≡ one_if (b == x) = ap (λ (t : Bool). one_if (not t && b == x)) some in
      omega (arith, times_kept x numbers, times_kept x (set numbers k b), sum_by-set (weight x) numbers k b 0 within, none, one, times-cons x b [])

  pub length_attached : length (filter claims_one (set numbers k b)) ≡ length (filter claims_one numbers) + 1
  length_attached =
      let count : ℕ → ℕ = λ y. one_if (claims_one y) in
      let none : count (get_or numbers k 0) ≡ 0 = ap count empty in
      let one : count b ≡ 1 = ap (λ (t : Bool). one_if (not t)) some in
      omega (arith, length-filter claims_one numbers, length-filter claims_one (set numbers k b), sum_by-set count numbers k b 0 within, none, one)

-- numbers past some index are 0
pub zero_at : (numbers : List ℕ) (s k : ℕ) → are_zeros (drop s numbers) ≡ true → s ≤ k → slice_index numbers k ≡ 0
zero_at numbers s k zeros past =
    let at : s + (k - s) ≡ k = omega (arith, past) in
    let moved : slice_index (drop s numbers) (k - s) ≡ slice_index numbers k = get_or-drop s numbers (k - s) 0 ∙ ap (slice_index numbers) at in
    elim (cases_lt (k - s) (length (drop s numbers))) [
      | inl inside ↦ sym moved ∙ eqb-true _ 0 (AllPass-from_list_all (λ b. b == 0) (drop s numbers) zeros (k - s) 0 inside)
      | inr outside ↦ sym moved ∙ get_or_past (drop s numbers) (k - s) 0 outside
    ]

pub zeros_from : (numbers : List ℕ) (s : ℕ) → ((k : ℕ) → s ≤ k → k < length numbers → (d : ℕ) → get_or numbers k d ≡ 0) → are_zeros (drop s numbers) ≡ true
zeros_from numbers s each = list_all-from_AllPass (λ b. b == 0) (drop s numbers) (λ j d less.
    eq-eqb (get_or (drop s numbers) j d) 0 (get_or-drop s numbers j d ∙ each (s + j) (omega arith) (omega (arith, less, length-drop s numbers)) d))

pub filled_from : (numbers : List ℕ) (s : ℕ) → s ≤ length numbers → ((k : ℕ) → k < s → (d : ℕ) → eqb (get_or numbers k d) 0 ≡ false)
    → list_all (λ number. not (number == 0)) (take s numbers) ≡ true
filled_from numbers s fits each = list_all-from_AllPass (λ number. not (number == 0)) (take s numbers) (λ j d less.
    let below : j < s = omega (arith, less, length-take-le s numbers fits) in
    ap (λ (n : ℕ). not (n == 0)) (get_or-take s numbers j d below) ∙ not_from_false (eqb (get_or numbers j d) 0) (each j below d))

-- An inode claims these blocks more.
pub record ClaimsMore (i : ℕ) (u v : UsedInode) (taken : List ℕ) : Type 0 where
  pub blocks : (x : ℕ) → times x (claimed_blocks i (Some v)) ≡ times x taken + times x (claimed_blocks i (Some u))
  pub count : length (claimed_blocks i (Some v)) ≡ length (claimed_blocks i (Some u)) + length taken

-- the parts of the rule on numbers that speak of no claims
pub record HasRightPlaces (g : Geometry) (v : UsedInode) : Type 0 where
  pub size : has_right_size g v.inode ≡ true
  pub none_past : are_zeros (drop (size_in_blocks v.inode.size) v.numbers) ≡ true
  pub pointers : list_all (λ p. p.block == 0 || nat_lt (first_index p.name) (size_in_blocks v.inode.size)) v.pointers ≡ true
  pub no_hole : (is_file v.inode.mode || (nat_le (size_in_blocks v.inode.size) (length v.numbers)
      && list_all (λ number. not (number == 0)) (take (size_in_blocks v.inode.size) v.numbers))) ≡ true

-- what was held and isn't any more are body blocks
pub bodies_held : (g : Geometry) (r : Reading) (hands after : List Hand) (inodes taken : List ℕ) → IsStored g r hands → HoldMore hands after inodes taken
    → list_all (is_body g) taken ≡ true
bodies_held g r hands after inodes taken stored held = test_of_all g taken (holds_of_all (λ b. is_body g b ≡ true) taken (λ b some.
    holds_of (λ c. is_body g c ≡ true) (held_blocks hands) b stored.apart.blocks_body (omega (arith, held.blocks b, times-append b taken (held_blocks after), some))))

module _ (g : Geometry) (r : Reading) (i : ℕ) (u v : UsedInode) (taken : List ℕ) (hands after : List Hand) (stored : IsStored g r hands)
    (used : used_at r i ≡ Some u) (more : ClaimsMore i u v taken) (held : HoldMore hands after [] taken) where
  pub exchange_blocks : HaveTheSame (claimed_blocks i (used_at r i) ++ held_blocks hands) (claimed_blocks i (Some v) ++ held_blocks after)
  exchange_blocks x =
      let old = ap (λ (o : Option UsedInode). times x (claimed_blocks i o ++ held_blocks hands)) used in
      omega (
        arith,
        old,
        more.blocks x,
        held.blocks x,
        times-append x (claimed_blocks i (Some v)) (held_blocks after),
        times-append x (claimed_blocks i (Some u)) (held_blocks hands),
        times-append x taken (held_blocks after),
      )

  bodies : list_all (λ claim. is_body g claim.block) (claims_in i v) ≡ true
  bodies =
      let old : list_all (is_body g) (claimed_blocks i (Some u)) ≡ true = bodies_by_blocks g i u ∙ (fields_of_numbers g i u (right_numbers g r i u hands stored used)).bodies in
      sym (bodies_by_blocks g i v) ∙ test_of_all g (claimed_blocks i (Some v)) (holds_of_all (λ b. is_body g b ≡ true) (claimed_blocks i (Some v)) (λ b some.
      elim (cases_lt 0 (times b taken)) [
        | inl new ↦ holds_of (λ c. is_body g c ≡ true) taken b (AllPass-from_list_all (is_body g) taken (bodies_held g r hands after [] taken stored held)) new
        | inr none ↦
            holds_of (λ c. is_body g c ≡ true) (claimed_blocks i (Some u)) b (AllPass-from_list_all (is_body g) (claimed_blocks i (Some u)) old)
            (omega (arith, some, none, more.blocks b))
      ]))

  pub right_with_more : HasRightPlaces g v → v.inode.blocks ≡ u.inode.blocks + length taken → has_right_numbers g i v ≡ true
  right_with_more places blocks =
      let counted : v.inode.blocks ≡ length (claims_in i v) = omega (
        arith,
        blocks,
        count_of_numbers g i u (right_numbers g r i u hands stored used),
        more.count,
        count_of_claims i u,
        count_of_claims i v,
      ) in
      and_from _ _
      (and_from _ _
      (and_from _ _ (and_from (has_right_size g v.inode) (list_all (λ claim. is_body g claim.block) (claims_in i v)) places.size bodies)
      (and_from _ _ places.none_past places.pointers)) places.no_hole)
      (eq-eqb v.inode.blocks (length (claims_in i v)) counted)

  pub exchange_with_more : HasRightPlaces g v → v.inode.blocks ≡ u.inode.blocks + length taken → list_all is_some v.chunks ≡ true → Exchanges g r i (InUse v) hands after
  exchange_with_more places blocks chunks = record {
    within = used_within r i u used;
    right = record { usable = usable g r hands i u stored used; numbers = right_with_more places blocks; chunks = chunks };
    blocks = exchange_blocks;
    inodes = λ j. (let old = ap (λ (o : Option UsedInode). times j (used_inodes i o ++ held_inodes hands)) used in
        omega (arith, old, held.inodes j, times-append j (i ∷ []) (held_inodes hands), times-append j (i ∷ []) (held_inodes after)));
  }
