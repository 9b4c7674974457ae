-- A check of two volumes with the same home blocks finds the same, also where they aren't sound.
use Rattle.std.proofs.Common.{◌≡◌, ◌<◌, inl, inr, ℕ, ◌+◌, ◌/◌, ◌%◌, Bool, true, false, not, cond, List, [], ◌∷◌, ◌++◌, map, take, Option, Some, None, refl, sym, ap, ◌∙◌, subst, arith}
use Rattle.std.specs.Prelude.{find, is_some, ◌==◌}
use Rattle.std.specs.List.{All, Contains, range_with_len, slice_get}
use Rattle.std.specs.Option.{option_map, option_map_or, option_or, option_flatten}
use Rattle.std.proofs.lemmas.Bool.{cases_Bool, cases_eq, not-false, false≢true}
use Rattle.std.proofs.lemmas.List.Elements.{All-nil, All-cons, All-append, All-filter, All-contains, All-weaker, All-head, All-tail}
use Rattle.std.proofs.lemmas.List.Sums.{AllPass-from_list_all}
use Rattle.lufs_base.specs.Layout.{IsGeometry, group_start, inode_address}
use Rattle.lufs_base.specs.declared.geometry.Geometry.{Geometry}
use Rattle.volume_model.specs.declared.finding.Kind.{Kind}
use Rattle.volume_model.specs.declared.finding.Kind.TheVariants.{Group, Inode, Fields, Root, Twice, Chunk, Name, Parent, Links, InodeBit, BlockBit, Count}
use Rattle.volume_model.specs.declared.inode.Dinode.{Dinode}
use Rattle.volume_model.specs.Format.{Blocks, GroupRecord, inodes_of, is_body}
use Rattle.volume_model.specs.Sound.{InodeState, Reading, reading_of, group_at, inode_at, state_at, state_of, used_of, used_at, UsedInode, NamedPointer, inodes_in, AtIndex, Claim, index_claims, pointer_claim, claims_in, claims_at, claims_of, metadata_length, is_bad_state, is_bad_inode, has_right_fields, has_bad_fields, first_of_kind, first_of_kinds, finding_of, verdict_on, verdict_of_reading, verdict_of}
use Rattle.volume_laws.proofs.Members.{All_range, All_flat_map, map_same, entry_of_range, Contains_range}
use Rattle.volume_laws.proofs.Searches.{none_found}
use Rattle.volume_laws.proofs.FieldFacts.{fields_of_test}
use Rattle.volume_laws.proofs.ClaimFacts.{length-inodes, used_in_volume, all_claims_of}
use Rattle.volume_laws.proofs.SameReading.{group_record_block, inode_record_block, state_same, group_same, inode_same}
use Rattle.plain_image.specs.HomeBlocks.{IsHome, HaveSameHomes}
use Rattle.plain_image.proofs.SameHomes.{body_is_home}

-- each claim that inode i makes is its own
of_pointers : (i : ℕ) (pointers : List NamedPointer) → All (λ (c : Claim). c.inode ≡ i) (map (pointer_claim i) pointers)
of_pointers i [] = All-nil (λ (c : Claim). c.inode ≡ i)
of_pointers i (p ∷ pointers) = All-cons (λ (c : Claim). c.inode ≡ i) (pointer_claim i p) (map (pointer_claim i) pointers) refl (of_pointers i pointers)

of_indexes : (i index : ℕ) (numbers : List ℕ) → All (λ (c : Claim). c.inode ≡ i) (index_claims i index numbers)
of_indexes i index [] = All-nil (λ (c : Claim). c.inode ≡ i)
of_indexes i index (number ∷ numbers) =
    All-cons (λ (c : Claim). c.inode ≡ i) (record { block = number; inode = i; part = AtIndex index }) (index_claims i (index + 1) numbers) refl (of_indexes i (index + 1) numbers)

own_claims : (i : ℕ) (u : UsedInode) → All (λ (c : Claim). c.inode ≡ i) (claims_in i u)
own_claims i u =
    All-filter (λ (c : Claim). not (c.block == 0)) (λ c. c.inode ≡ i) (map (pointer_claim i) u.pointers ++ index_claims i 0 u.numbers)
    (All-append (λ (c : Claim). c.inode ≡ i) (map (pointer_claim i) u.pointers) (index_claims i 0 u.numbers) (of_pointers i u.pointers) (of_indexes i 0 u.numbers))

right_of : (g : Geometry) (r : Reading) (i : ℕ) (u : UsedInode) → has_bad_fields g r i ≡ false → used_at r i ≡ Some u → has_right_fields g i u ≡ true
right_of g r i u good used = not-false (has_right_fields g i u) (subst (λ (o : Option UsedInode). option_map_or (λ x. not (has_right_fields g i x)) o false ≡ false) used good)

claims_of_one : (g : Geometry) (r : Reading) (i : ℕ) → has_bad_fields g r i ≡ false → (j : ℕ) → All (λ (c : Claim). c.inode ≡ i → is_body g c.block ≡ true) (claims_at r j)
claims_of_one g r i good j =
    all_claims_of (λ (c : Claim). c.inode ≡ i → is_body g c.block ≡ true) j (used_at r j) (λ u used. elim (cases_eq j i) [
      | inl same ↦
          let right = right_of g r j u (subst (λ (x : ℕ). has_bad_fields g r x ≡ false) (sym same) good) used in
          All-weaker (λ (c : Claim). is_body g c.block ≡ true) (λ (c : Claim). c.inode ≡ i → is_body g c.block ≡ true) (λ c body owner. body) (claims_in j u)
          (AllPass-from_list_all (λ (c : Claim). is_body g c.block) (claims_in j u) (fields_of_test g j u right).bodies)
      | inr other ↦
          All-weaker (λ (c : Claim). c.inode ≡ j) (λ (c : Claim). c.inode ≡ i → is_body g c.block ≡ true) (λ c own owner. absurd (other (sym own ∙ owner))) (claims_in j u) (own_claims j u)
    ])

bodies_of_one : (g : Geometry) (r : Reading) (i : ℕ) → has_bad_fields g r i ≡ false → (claim : Claim) → Contains (claims_of r) claim → claim.inode ≡ i → is_body g claim.block ≡ true
unfolding claims_of
bodies_of_one g r i good claim here =
    All-contains (λ (c : Claim). c.inode ≡ i → is_body g c.block ≡ true) (claims_of r) claim
    (All_flat_map (λ (c : Claim). c.inode ≡ i → is_body g c.block ≡ true) (claims_at r) (range_with_len 0 (inodes_in r))
    (All_range (λ j. All (λ (c : Claim). c.inode ≡ i → is_body g c.block ≡ true) (claims_at r j)) (inodes_in r) (λ j within. claims_of_one g r i good j))) here

-- the same is found in lists where the same passes
find_same : (p q : ℕ → Bool) (xs : List ℕ) → All (λ x. p x ≡ q x) xs → find p xs ≡ find q xs
find_same p q [] each = refl
find_same p q (x ∷ xs) each =
    ap (λ (b : Bool). cond b (Some x) (find p xs)) (All-head (λ x. p x ≡ q x) x xs each)
    ∙ ap (λ (o : Option ℕ). cond (q x) (Some x) o) (find_same p q xs (All-tail (λ x. p x ≡ q x) x xs each))

find_in_range : (p q : ℕ → Bool) (n : ℕ) → ((i : ℕ) → i < n → p i ≡ q i) → find p (range_with_len 0 n) ≡ find q (range_with_len 0 n)
find_in_range p q n each = find_same p q (range_with_len 0 n) (All_range (λ i. p i ≡ q i) n each)

-- what stands for an inode is bad by its record alone
bad_by_record : (blocks others : Blocks) (i : ℕ) (o : Option (Option Dinode)) → is_bad_state i (Some (state_of others o)) ≡ is_bad_state i (Some (state_of blocks o))
bad_by_record blocks others i None = refl
bad_by_record blocks others i (Some None) = refl
bad_by_record blocks others i (Some (Some d)) = refl

-- the first of the rules that are looked at by records alone decides the verdict
decided : (g : Geometry) (r q : Reading) (first second : Option (Kind × ℕ)) (third : Kind × ℕ)
    → verdict_on g q (option_or first (option_or second (Some third))) ≡ verdict_on g r (option_or first (option_or second (Some third)))
decided g r q (Some x) second third = refl
decided g r q None (Some x) third = refl
decided g r q None None third = refl

module _ (g : Geometry) (ok : IsGeometry g) where
  group_home : (n : ℕ) → n < g.groups → IsHome g (group_start g n)
  group_home n within = record { low = omega arith; high = (group_record_block g n ok within).0 }

  inode_home : (i : ℕ) → i < inodes_of g → IsHome g (inode_address g i / 4096)
  inode_home i within =
      let n = i / g.ipg in
      let b = inode_address g i / 4096 in
      let at : b ≡ group_start g n + 1 + (i % g.ipg) / 32 = omega arith in
      record { low = omega (arith, at); high = (inode_record_block g i ok within).0 }

  module _ (blocks others : Blocks) (same : HaveSameHomes g blocks others) where
    same_group : (n : ℕ) → n < g.groups → group_at g others n ≡ group_at g blocks n
    same_group n within = group_same g blocks others ok n within (ap (take (metadata_length g (reading_of g blocks) (group_start g n))) (same (group_start g n) (group_home n within)))

    same_inode : (i : ℕ) → i < inodes_of g → inode_at g others i ≡ inode_at g blocks i
    same_inode i within =
        let b = inode_address g i / 4096 in
        inode_same g blocks others ok i within (ap (take (metadata_length g (reading_of g blocks) b)) (same b (inode_home i within)))

    -- an inode whose fields are right has the same state in both
    same_state : (i : ℕ) → i < inodes_of g → has_bad_fields g (reading_of g blocks) i ≡ false → state_at g others i ≡ state_at g blocks i
    same_state i within good =
        state_same g blocks others i (λ claim here owner.
        ap (take (metadata_length g (reading_of g blocks) claim.block)) (same claim.block (body_is_home g ok claim.block (bodies_of_one g (reading_of g blocks) i good claim here owner))))
        within (same_inode i within)

    still_good : (i : ℕ) → i < inodes_of g → has_bad_fields g (reading_of g blocks) i ≡ false → has_bad_fields g (reading_of g others) i ≡ false
    still_good i within good =
        ap (λ (o : Option UsedInode). option_map_or (λ u. not (has_right_fields g i u)) o false)
        (used_in_volume g others i within ∙ ap used_of (same_state i within good) ∙ sym (used_in_volume g blocks i within)) ∙ good

    groups_same : (reading_of g others).groups ≡ (reading_of g blocks).groups
    unfolding reading_of
    groups_same = map_same (group_at g others) (group_at g blocks) (range_with_len 0 g.groups) (All_range (λ n. group_at g others n ≡ group_at g blocks n) g.groups same_group)

    first_group : first_of_kind g (reading_of g others) [] Group ≡ first_of_kind g (reading_of g blocks) [] Group
    first_group = ap (λ (l : List (Option GroupRecord)). find (λ n. not (is_some (option_flatten (slice_get l n)))) (range_with_len 0 g.groups)) groups_same

    bad_inode_same : (i : ℕ) → i < inodes_of g → is_bad_inode (reading_of g others) i ≡ is_bad_inode (reading_of g blocks) i
    unfolding reading_of
    bad_inode_same i within =
        ap (is_bad_state i) (entry_of_range (state_at g others) (inodes_of g) i within)
        ∙ ap (λ (o : Option (Option Dinode)). is_bad_state i (Some (state_of others o))) (same_inode i within) ∙ bad_by_record blocks others i (inode_at g blocks i)
        ∙ sym (ap (is_bad_state i) (entry_of_range (state_at g blocks) (inodes_of g) i within))

    first_inode : first_of_kind g (reading_of g others) [] Inode ≡ first_of_kind g (reading_of g blocks) [] Inode
    first_inode =
        ap (λ (n : ℕ). find (is_bad_inode (reading_of g others)) (range_with_len 0 n)) (length-inodes g others)
        ∙ find_in_range (is_bad_inode (reading_of g others)) (is_bad_inode (reading_of g blocks)) (inodes_of g) bad_inode_same
        ∙ sym (ap (λ (n : ℕ). find (is_bad_inode (reading_of g blocks)) (range_with_len 0 n)) (length-inodes g blocks))

  bad_fields_same : (blocks others : Blocks) → HaveSameHomes g blocks others → (i : ℕ) → i < inodes_of g → has_bad_fields g (reading_of g others) i ≡ has_bad_fields g (reading_of g blocks) i
  bad_fields_same blocks others same i within = elim (cases_Bool (has_bad_fields g (reading_of g blocks) i)) [
    | inl bad ↦ elim (cases_Bool (has_bad_fields g (reading_of g others) i)) [
      | inl too ↦ too ∙ sym bad
      | inr good ↦ absurd (false≢true (sym (still_good others blocks (λ b home. sym (same b home)) i within good) ∙ bad))
    ]
    | inr good ↦ still_good blocks others same i within good ∙ sym good
  ]

  module _ (blocks others : Blocks) (same : HaveSameHomes g blocks others) where
    first_fields : first_of_kind g (reading_of g others) [] Fields ≡ first_of_kind g (reading_of g blocks) [] Fields
    first_fields =
        ap (λ (n : ℕ). find (has_bad_fields g (reading_of g others)) (range_with_len 0 n)) (length-inodes g others)
        ∙ find_in_range (has_bad_fields g (reading_of g others)) (has_bad_fields g (reading_of g blocks)) (inodes_of g) (bad_fields_same blocks others same)
        ∙ sym (ap (λ (n : ℕ). find (has_bad_fields g (reading_of g blocks)) (range_with_len 0 n)) (length-inodes g blocks))

    -- where all fields are right the whole reading is the same
    whole_same : ((i : ℕ) → i < inodes_of g → has_bad_fields g (reading_of g blocks) i ≡ false) → reading_of g others ≡ reading_of g blocks
    unfolding reading_of
    whole_same good =
        let inodes : map (state_at g others) (range_with_len 0 (inodes_of g)) ≡ map (state_at g blocks) (range_with_len 0 (inodes_of g)) =
        map_same (state_at g others) (state_at g blocks) (range_with_len 0 (inodes_of g))
        (All_range (λ i. state_at g others i ≡ state_at g blocks i) (inodes_of g) (λ i within. same_state blocks others same i within (good i within))) in
        ap (λ (l : List (Option GroupRecord)). record { groups = l; inodes = map (state_at g others) (range_with_len 0 (inodes_of g)) }) (groups_same blocks others same)
        ∙ ap (λ (l : List InodeState). record { groups = map (group_at g blocks) (range_with_len 0 g.groups); inodes = l }) inodes

  by_fields : (blocks others : Blocks) → HaveSameHomes g blocks others → (fields : Option ℕ) → first_of_kind g (reading_of g blocks) [] Fields ≡ fields
      → verdict_of_reading g (reading_of g others) ≡ verdict_of_reading g (reading_of g blocks)
  unfolding finding_of
  by_fields blocks others same None none =
      ap (verdict_of_reading g) (whole_same blocks others same (λ i within.
      none_found (has_bad_fields g (reading_of g blocks)) (range_with_len 0 (inodes_in (reading_of g blocks))) none i (Contains_range (inodes_in (reading_of g blocks)) i (omega (arith, within, length-inodes g blocks)))))
  by_fields blocks others same (Some n) found =
      let r = reading_of g blocks in
      let q = reading_of g others in
      let rest : List Kind = Root ∷ (Twice ∷ (Chunk ∷ (Name ∷ (Parent ∷ (Links ∷ (InodeBit ∷ (BlockBit ∷ (Count ∷ [])))))))) in
      let shown : Option ℕ → Option ℕ → Option ℕ → Option (Kind × ℕ) → Option (Kind × ℕ) = λ a b c more. option_or (option_map (λ n. (Group, n)) a) (option_or (option_map (λ n. (Inode, n)) b) (option_or (option_map (λ n. (Fields, n)) c) more)) in
      ap (λ (a : Option ℕ). verdict_on g q (shown a (first_of_kind g q [] Inode) (first_of_kind g q [] Fields) (first_of_kinds g q [] rest))) (first_group blocks others same)
      ∙ ap (λ (b : Option ℕ). verdict_on g q (shown (first_of_kind g r [] Group) b (first_of_kind g q [] Fields) (first_of_kinds g q [] rest))) (first_inode blocks others same)
      ∙ ap (λ (c : Option ℕ). verdict_on g q (shown (first_of_kind g r [] Group) (first_of_kind g r [] Inode) c (first_of_kinds g q [] rest))) (first_fields blocks others same ∙ found)
      ∙ decided g r q (option_map (λ n. (Group, n)) (first_of_kind g r [] Group)) (option_map (λ n. (Inode, n)) (first_of_kind g r [] Inode)) (Fields, n)
      ∙ sym (ap (λ (c : Option ℕ). verdict_on g r (shown (first_of_kind g r [] Group) (first_of_kind g r [] Inode) c (first_of_kinds g r [] rest))) found)

  pub same_verdict : (blocks others : Blocks) → HaveSameHomes g blocks others → verdict_of g others ≡ verdict_of g blocks
  unfolding verdict_of
  same_verdict blocks others same = by_fields blocks others same (first_of_kind g (reading_of g blocks) [] Fields) refl
