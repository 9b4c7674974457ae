-- A file without the numbers from an index on: what it claims less, its places, its bytes, and that what is stored stays right.
use Rattle.std.proofs.Common.{◌≡◌, ◌<◌, ◌≤◌, inl, inr, ℕ, zero, suc, ◌+◌, ◌-◌, eqb, Bool, true, false, not, cond, List, [], ◌∷◌, ◌++◌, length, map, take, drop, slice_index, Option, Some, None, refl, sym, ap, ◌∙◌, arith}
use Rattle.std.specs.Prelude.{◌==◌, nat_le, is_some}
use Rattle.std.specs.List.{filter, list_all, range_with_len}
use Rattle.std.proofs.lemmas.Bool.{cases_Bool, and_parts, and_from, cond-true, eq-eqb}
use Rattle.std.proofs.lemmas.List.{append-nil, length-append, length-take-le, take-append-drop, take-append-le, take_all, get_or-take, get_or_append_left}
use Rattle.std.proofs.lemmas.List.Elements.{filter-append}
use Rattle.std.proofs.lemmas.List.FromFn.{length-map-range_with_len, map-range_with_len_more}
use Rattle.std.proofs.lemmas.List.Sums.{AllPass-from_list_all}
use Rattle.std.proofs.Math.Seq.{drop-append_seam}
use Rattle.lufs_base.specs.Fields.{are_zeros}
use Rattle.lufs_base.specs.declared.geometry.Geometry.{Geometry}
use Rattle.volume_model.specs.declared.hand.Hand.{Hand}
use Rattle.volume_model.specs.Format.{Blocks, is_body}
use Rattle.volume_model.specs.Sound.{NamedPointer, UsedInode, InUse, Reading, used_at, claims_in, held_inodes, held_blocks, size_in_blocks, has_right_size, has_right_numbers, IsStored, file_block, file_blocks}
use Rattle.volume_laws.proofs.Members.{All_range, map_same}
use Rattle.volume_laws.proofs.ClaimFacts.{used_within}
use Rattle.volume_laws.proofs.FieldFacts.{fields_of_numbers, count_of_numbers}
use Rattle.volume_laws.proofs.StoredClaims.{right_numbers}
use Rattle.change_laws.specs.Hands.{times, HaveTheSame}
use Rattle.change_laws.specs.Exchange.{claimed_blocks, used_inodes, Exchanges}
use Rattle.change_laws.specs.Plans.{HoldMore, blocks_past}
use Rattle.change_laws.proofs.Counts.{times-append, holds_of, holds_of_all}
use Rattle.change_laws.proofs.InodeRights.{usable}
use Rattle.change_laws.proofs.ClaimedBlocks.{claims_one, blocks_claimed, count_of_claims, bodies_by_blocks}
use Rattle.change_laws.proofs.NewInodes.{test_of_all}
use Rattle.change_laws.proofs.Extended.{ClaimsMore, HasRightPlaces}

-- zeros claim nothing
pub zeros_claim_nothing : (numbers : List ℕ) → are_zeros numbers ≡ true → filter claims_one numbers ≡ []
zeros_claim_nothing [] zeros = refl
zeros_claim_nothing (b ∷ numbers) zeros =
    let parts = and_parts (b == 0) (are_zeros numbers) zeros in
    ap (λ (t : Bool). cond (not t) (b ∷ filter claims_one numbers) (filter claims_one numbers)) parts.0 ∙ zeros_claim_nothing numbers parts.1

abbrev pointers_in : UsedInode → List ℕ
pointers_in u = filter claims_one (map (λ p. p.block) u.pointers)

-- what an inode claims, before and after an index
claims_split : (i s : ℕ) (u : UsedInode) → claimed_blocks i (Some u) ≡ pointers_in u ++ (filter claims_one (take s u.numbers) ++ filter claims_one (drop s u.numbers))
claims_split i s u =
    blocks_claimed i u ∙ filter-append claims_one (map (λ p. p.block) u.pointers) u.numbers
    ∙ ap (λ (l : List ℕ). pointers_in u ++ l)
    (ap (filter claims_one) (sym (take-append-drop s u.numbers)) ∙ filter-append claims_one (take s u.numbers) (drop s u.numbers))

module _ (i s : ℕ) (u v : UsedInode) (zeros : List ℕ) (are : are_zeros zeros ≡ true) (numbers : v.numbers ≡ take s u.numbers ++ zeros) where
  claims_left : claimed_blocks i (Some v) ≡ pointers_in v ++ filter claims_one (take s u.numbers)
  claims_left =
      blocks_claimed i v ∙ filter-append claims_one (map (λ p. p.block) v.pointers) v.numbers
      ∙ ap (λ (l : List ℕ). pointers_in v ++ l)
      (ap (filter claims_one) numbers ∙ filter-append claims_one (take s u.numbers) zeros ∙ ap (λ (l : List ℕ). filter claims_one (take s u.numbers) ++ l) (zeros_claim_nothing zeros are)
      ∙ append-nil (filter claims_one (take s u.numbers)))

  -- with the pointer block
  pub cut_with_pointer : nat_le s 12 ≡ true → pointers_in v ≡ [] → ClaimsMore i v u (blocks_past u s)
  cut_with_pointer low none =
      let p = pointers_in u in
      let front : List ℕ = filter claims_one (take s u.numbers) in
      let rest : List ℕ = filter claims_one (drop s u.numbers) in
      let past : blocks_past u s ≡ p ++ rest =
      ap (λ (t : Bool). filter claims_one (cond t (map (λ q. q.block) u.pointers) [] ++ drop s u.numbers)) low ∙ filter-append claims_one (map (λ q. q.block) u.pointers) (drop s u.numbers) in
      let old : claimed_blocks i (Some u) ≡ p ++ (front ++ rest) = claims_split i s u in
      let new : claimed_blocks i (Some v) ≡ front = claims_left ∙ ap (λ (l : List ℕ). l ++ front) none in
      record {
        blocks = λ x. omega (arith, ap (times x) past, ap (times x) old, ap (times x) new, times-append x p (front ++ rest), times-append x front rest, times-append x p rest);
        count = omega (arith, ap length past, ap length old, ap length new, length-append p (front ++ rest), length-append front rest, length-append p rest);
      }

  -- and without it
  pub cut_but_pointer : nat_le s 12 ≡ false → v.pointers ≡ u.pointers → ClaimsMore i v u (blocks_past u s)
  cut_but_pointer high same =
      let p = pointers_in u in
      let front : List ℕ = filter claims_one (take s u.numbers) in
      let rest : List ℕ = filter claims_one (drop s u.numbers) in
      let past : blocks_past u s ≡ rest = ap (λ (t : Bool). filter claims_one (cond t (map (λ q. q.block) u.pointers) [] ++ drop s u.numbers)) high in
      let old : claimed_blocks i (Some u) ≡ p ++ (front ++ rest) = claims_split i s u in
      let new : claimed_blocks i (Some v) ≡ p ++ front =
      claims_left ∙ ap (λ (l : List NamedPointer). filter claims_one (map (λ q. q.block) l) ++ front) same in
      record {
        blocks = λ x. omega (arith, ap (times x) past, ap (times x) old, ap (times x) new, times-append x p (front ++ rest), times-append x front rest, times-append x p front);
        count = omega (arith, ap length past, ap length old, ap length new, length-append p (front ++ rest), length-append front rest, length-append p front);
      }

  -- the numbers past the index are 0, and those below are as they were
  pub none_left_past : s ≤ length u.numbers → are_zeros (drop s v.numbers) ≡ true
  none_left_past fits =
      let long = length-take-le s u.numbers fits in
      ap (λ (l : List ℕ). are_zeros (drop s l)) numbers ∙ ap (λ (n : ℕ). are_zeros (drop n (take s u.numbers ++ zeros))) (sym long)
      ∙ ap are_zeros (drop-append_seam (take s u.numbers) zeros) ∙ are

  pub number_left : s ≤ length u.numbers → (index : ℕ) → index < s → slice_index v.numbers index ≡ slice_index u.numbers index
  number_left fits index below =
      let long = length-take-le s u.numbers fits in
      ap (λ (l : List ℕ). slice_index l index) numbers ∙ get_or_append_left (take s u.numbers) zeros 0 index (omega (arith, below, long)) ∙ get_or-take s u.numbers index 0 below

-- a front of what is made of the first numbers
front_of_range : {X : Type 0} (f : ℕ → X) (s m : ℕ) → take s (map f (range_with_len 0 (s + m))) ≡ map f (range_with_len 0 s)
front_of_range f s zero =
    let same : s + zero ≡ s = omega arith in
    let long = length-map-range_with_len f 0 s in
    ap (λ (n : ℕ). take s (map f (range_with_len 0 n))) same ∙ take_all s (map f (range_with_len 0 s)) (omega (arith, long))
front_of_range {X} f s (suc m) =
    let more : s + suc m ≡ (s + m) + 1 = omega arith in
    let at : 0 + (s + m) ≡ s + m = omega arith in
    let long = length-map-range_with_len f 0 (s + m) in
    ap (λ (n : ℕ). take s (map f (range_with_len 0 n))) more ∙ ap (take s) (map-range_with_len_more f 0 (s + m) (s + m) at)
    ∙ take-append-le s (map f (range_with_len 0 (s + m))) (f (s + m) ∷ []) (omega (arith, long)) ∙ front_of_range f s m

-- the bytes of the blocks that are left
pub blocks_cut : (blocks others : Blocks) (u v : UsedInode) (s : ℕ) → size_in_blocks v.inode.size ≡ s → s ≤ size_in_blocks u.inode.size
    → ((index : ℕ) → index < s → slice_index v.numbers index ≡ slice_index u.numbers index)
    → ((index : ℕ) → index < s → eqb (slice_index u.numbers index) 0 ≡ false → take 4096 (others (slice_index u.numbers index)) ≡ take 4096 (blocks (slice_index u.numbers index)))
    → file_blocks others v ≡ take s (file_blocks blocks u)
blocks_cut blocks others u v s size fewer numbers same =
    let new : ℕ → Option (List ℕ) = λ index. file_block others (slice_index v.numbers index) in
    let old : ℕ → Option (List ℕ) = λ index. file_block blocks (slice_index u.numbers index) in
    let m = size_in_blocks u.inode.size - s in
    let whole : size_in_blocks u.inode.size ≡ s + m = omega (arith, fewer) in
    let each : map new (range_with_len 0 s) ≡ map old (range_with_len 0 s) =
    map_same new old (range_with_len 0 s) (All_range (λ index. new index ≡ old index) s (λ index less.
    let number = slice_index u.numbers index in
    ap (file_block others) (numbers index less) ∙ elim (cases_Bool (eqb number 0)) [
      | inl none ↦ cond-true (eqb number 0) None (Some (take 4096 (others number))) none ∙ sym (cond-true (eqb number 0) None (Some (take 4096 (blocks number))) none)
      | inr some ↦ ap (λ (bytes : List ℕ). cond (eqb number 0) None (Some bytes)) (same index less some)
    ])) in
    ap (λ (n : ℕ). map new (range_with_len 0 n)) size ∙ each ∙ sym (ap (λ (n : ℕ). take s (map old (range_with_len 0 n))) whole ∙ front_of_range old s m)

-- an inode that claims less
module _ (g : Geometry) (r : Reading) (i : ℕ) (u v : UsedInode) (dropped : List ℕ) (hands after : List Hand) (stored : IsStored g r hands)
    (used : used_at r i ≡ Some u) (less : ClaimsMore i v u dropped) (held : HoldMore after hands [] dropped) where
  pub exchange_less : HaveTheSame (claimed_blocks i (used_at r i) ++ held_blocks hands) (claimed_blocks i (Some v) ++ held_blocks after)
  exchange_less x =
      let old = ap (λ (o : Option UsedInode). times x (claimed_blocks i o ++ held_blocks hands)) used in
      omega (
        arith,
        old,
        less.blocks x,
        held.blocks x,
        times-append x (claimed_blocks i (Some v)) (held_blocks after),
        times-append x (claimed_blocks i (Some u)) (held_blocks hands),
        times-append x dropped (held_blocks hands),
      )

  bodies : list_all (λ claim. is_body g claim.block) (claims_in i v) ≡ true
  bodies =
      let old : list_all (is_body g) (claimed_blocks i (Some u)) ≡ true = bodies_by_blocks g i u ∙ (fields_of_numbers g i u (right_numbers g r i u hands stored used)).bodies in
      sym (bodies_by_blocks g i v) ∙ test_of_all g (claimed_blocks i (Some v)) (holds_of_all (λ b. is_body g b ≡ true) (claimed_blocks i (Some v)) (λ b some.
      holds_of (λ c. is_body g c ≡ true) (claimed_blocks i (Some u)) b (AllPass-from_list_all (is_body g) (claimed_blocks i (Some u)) old) (omega (arith, some, less.blocks b))))

  right_with_less : HasRightPlaces g v → v.inode.blocks + length dropped ≡ u.inode.blocks → has_right_numbers g i v ≡ true
  right_with_less places blocks =
      let counted : v.inode.blocks ≡ length (claims_in i v) = omega (
        arith,
        blocks,
        count_of_numbers g i u (right_numbers g r i u hands stored used),
        less.count,
        count_of_claims i u,
        count_of_claims i v,
      ) in
      and_from _ _
      (and_from _ _
      (and_from _ _ (and_from (has_right_size g v.inode) (list_all (λ claim. is_body g claim.block) (claims_in i v)) places.size bodies)
      (and_from _ _ places.none_past places.pointers)) places.no_hole)
      (eq-eqb v.inode.blocks (length (claims_in i v)) counted)

  pub exchange_with_less : HasRightPlaces g v → v.inode.blocks + length dropped ≡ u.inode.blocks → list_all is_some v.chunks ≡ true → Exchanges g r i (InUse v) hands after
  exchange_with_less places blocks chunks = record {
    within = used_within r i u used;
    right = record { usable = usable g r hands i u stored used; numbers = right_with_less places blocks; chunks = chunks };
    blocks = exchange_less;
    inodes = λ j. (let old = ap (λ (o : Option UsedInode). times j (used_inodes i o ++ held_inodes hands)) used in
        omega (arith, old, held.inodes j, times-append j (i ∷ []) (held_inodes hands), times-append j (i ∷ []) (held_inodes after)));
  }
