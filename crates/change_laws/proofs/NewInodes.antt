-- A record with just some held blocks, and a free one: what the inode leads to, and that what is stored stays right.
use Rattle.std.proofs.Common.{◌≡◌, ◌<◌, ◌≤◌, inl, inr, ℕ, zero, suc, ◌-◌, eqb, Bool, true, false, not, ◌&&◌, ◌||◌, cond, List, [], ◌∷◌, ◌++◌, length, map, take, drop, replicate, slice_index, Option, Some, None, refl, sym, ap, ◌∙◌, subst, arith}
use Rattle.std.specs.Prelude.{All, ◌==◌, nat_le, nat_lt, is_some}
use Rattle.std.specs.List.{filter, list_all}
use Rattle.std.specs.Option.{option_map}
use Rattle.std.proofs.lemmas.Bool.{cases_Bool, and_parts, and_from, or_right, cond-true, le-leb, eqb-true, eq-eqb, not_from_false, false≢true}
use Rattle.std.proofs.lemmas.List.{append-nil, append_assoc, length-append}
use Rattle.std.proofs.lemmas.List.Elements.{All-head, All-tail, filter-append}
use Rattle.std.proofs.lemmas.List.Folds.{list_all-append}
use Rattle.std.proofs.Math.Seq.{take-append_seam, drop-append_seam}
use Rattle.lufs_base.specs.Fields.{are_zeros}
use Rattle.lufs_base.specs.Layout.{IsGeometry}
use Rattle.lufs_base.specs.declared.geometry.Geometry.{Geometry}
use Rattle.volume_model.specs.declared.inode.Dinode.{Dinode}
use Rattle.volume_model.specs.declared.hand.Hand.{Hand}
use Rattle.volume_model.specs.Format.{Blocks, is_body, is_file, pointers_of}
use Rattle.volume_model.specs.Sound.{UsedInode, InodeState, InUse, reading_of, state_at, state_of, NamedPointer, named_pointers, used_inode, used_of, used_at, inodes_in, pointers_at, chunks_at, claims_in, held_inodes, held_blocks, size_in_blocks, has_right_size, has_right_numbers, IsStored, Node, with_node, pointer_names, node_of, tree_of}
use Rattle.volume_laws.proofs.ClaimFacts.{length-inodes}
use Rattle.volume_laws.proofs.StoredClaims.{stored_is_laid}
use Rattle.volume_laws.proofs.BodyBlocks.{none_before}
use Rattle.volume_laws.proofs.Counting.{one_if}
use Rattle.change_laws.specs.Hands.{times}
use Rattle.change_laws.specs.Exchange.{claimed_blocks, used_inodes, Exchanges}
use Rattle.change_laws.specs.Plans.{OnlyInodeChanges, WritesRecord, HasJustBlocks, HoldMore}
use Rattle.change_laws.proofs.Counts.{times-append, times-cons, holds_of, holds_of_all}
use Rattle.change_laws.proofs.InodeWrites.{written_record, stored_after}
use Rattle.change_laws.proofs.ClaimedBlocks.{claims_one, blocks_claimed, count_of_claims, bodies_by_blocks, no_zeros}

-- a body block has a number other than 0
pub body_number : (g : Geometry) (b : ℕ) → IsGeometry g → is_body g b ≡ true → eqb b 0 ≡ false
body_number g b ok body = elim (cases_Bool (eqb b 0)) [
  | inl none ↦ absurd (false≢true (sym (none_before g ok 0 (omega (arith, ok.log_low))) ∙ ap (is_body g) (sym (eqb-true b 0 none)) ∙ body))
  | inr some ↦ some
]

pub all_zeros : (n : ℕ) → are_zeros (replicate n 0) ≡ true
all_zeros zero = refl
all_zeros (suc n) = all_zeros n

-- what a record with just these blocks leads to
module _ (g : Geometry) (blocks : Blocks) (i : ℕ) (d : Dinode) (numbers : List ℕ) (ok : IsGeometry g) (just : HasJustBlocks d numbers)
    (bodies : list_all (is_body g) numbers ≡ true) where
  abbrev u : UsedInode
  u = used_inode blocks d

  abbrev rest : List ℕ
  rest = replicate (12 - length numbers) 0 ++ replicate 1024 0

  pub numbers_are : u.numbers ≡ numbers ++ rest
  numbers_are =
      let none : pointers_at blocks (slice_index d.indirect 0) ≡ replicate 1024 0 =
      cond-true (eqb (slice_index d.indirect 0) 0) (replicate 1024 0) (pointers_of (blocks (slice_index d.indirect 0))) (eq-eqb (slice_index d.indirect 0) 0 just.indirect) in
      (λ t. just.direct t ++ (append-nil (pointers_at blocks (slice_index d.indirect 0)) ∙ none) t)
      ∙ append_assoc numbers (replicate (12 - length numbers) 0) (replicate 1024 0)

  rest_is_zeros : are_zeros rest ≡ true
  rest_is_zeros =
      list_all-append (λ b. b == 0) (replicate (12 - length numbers) 0) (replicate 1024 0)
      ∙ and_from (are_zeros (replicate (12 - length numbers) 0)) (are_zeros (replicate 1024 0)) (all_zeros (12 - length numbers)) (all_zeros 1024)

  all_kept : (l : List ℕ) → list_all (is_body g) l ≡ true → filter claims_one l ≡ l
  all_kept [] all = refl
  all_kept (b ∷ l) all =
      let parts = and_parts (is_body g b) (list_all (is_body g) l) all in
      ap (λ (t : Bool). cond (not t) (b ∷ filter claims_one l) (filter claims_one l)) (body_number g b ok parts.0) ∙ ap (λ (m : List ℕ). b ∷ m) (all_kept l parts.1)

  pub claims_are : claimed_blocks i (Some u) ≡ numbers
  claims_are =
      let pointer = slice_index d.indirect 0 in
      let none : filter claims_one (pointer ∷ u.numbers) ≡ filter claims_one u.numbers =
      ap (λ (t : Bool). cond (not t) (pointer ∷ filter claims_one u.numbers) (filter claims_one u.numbers)) (eq-eqb pointer 0 just.indirect) in
      let zeros : filter claims_one rest ≡ [] =
      filter-append claims_one (replicate (12 - length numbers) 0) (replicate 1024 0) ∙ (λ t. no_zeros (12 - length numbers) t ++ no_zeros 1024 t) in
      blocks_claimed i u ∙ none ∙ ap (filter claims_one) numbers_are ∙ filter-append claims_one numbers rest ∙ (λ t. all_kept numbers bodies t ++ zeros t) ∙ append-nil numbers

  nonzero : (l : List ℕ) → list_all (is_body g) l ≡ true → list_all (λ number. not (number == 0)) l ≡ true
  nonzero [] all = refl
  nonzero (b ∷ l) all =
      let parts = and_parts (is_body g b) (list_all (is_body g) l) all in
      and_from (not (b == 0)) (list_all (λ number. not (number == 0)) l) (not_from_false (b == 0) (body_number g b ok parts.0)) (nonzero l parts.1)

  pub just_right : has_right_size g d ≡ true → size_in_blocks d.size ≡ length numbers → has_right_numbers g i u ≡ true
  just_right size count =
      let s = size_in_blocks d.size in
      let first = and_from (has_right_size g d) (list_all (λ claim. is_body g claim.block) (claims_in i u)) size (sym (bodies_by_blocks g i u) ∙ ap (list_all (is_body g)) claims_are ∙ bodies) in
      let past : are_zeros (drop s u.numbers) ≡ true =
      (λ t. are_zeros (drop (count t) (numbers_are t))) ∙ ap are_zeros (drop-append_seam numbers rest) ∙ rest_is_zeros in
      let pointer : ((slice_index d.indirect 0 == 0 || nat_lt 12 s) && true) ≡ true = ap (λ (t : Bool). (t || nat_lt 12 s) && true) (eq-eqb (slice_index d.indirect 0) 0 just.indirect) in
      let none_past = and_from _ _ past pointer in
      let long : s ≤ length u.numbers = omega (arith, count, ap length numbers_are, length-append numbers rest) in
      let filled : list_all (λ number. not (number == 0)) (take s u.numbers) ≡ true =
      (λ t. list_all (λ number. not (number == 0)) (take (count t) (numbers_are t))) ∙ ap (list_all (λ number. not (number == 0))) (take-append_seam numbers rest) ∙ nonzero numbers bodies in
      let no_hole : (nat_le s (length u.numbers) && list_all (λ number. not (number == 0)) (take s u.numbers)) ≡ true =
      and_from _ _ (le-leb s (length u.numbers) long) filled in
      let counted : (d.blocks == length (claims_in i u)) ≡ true =
      eq-eqb d.blocks (length (claims_in i u)) (just.blocks ∙ sym (count_of_claims i u ∙ ap length claims_are)) in
      and_from _ _ (and_from _ _ (and_from _ _ first none_past) (or_right (is_file d.mode) _ no_hole)) counted

  pub first_number : (b : ℕ) (others : List ℕ) → numbers ≡ b ∷ others → slice_index u.numbers 0 ≡ b
  first_number b others is = ap (λ (l : List ℕ). slice_index l 0) (numbers_are ∙ ap (λ (l : List ℕ). l ++ rest) is)

  pub no_names : pointer_names u ≡ []
  no_names = ap (λ (t : Bool). map (λ (p : NamedPointer). p.name) (cond (not t) (named_pointers d) [])) (eq-eqb (slice_index d.indirect 0) 0 just.indirect)

pub test_of_all : (g : Geometry) (numbers : List ℕ) → All (λ b. is_body g b ≡ true) numbers → list_all (is_body g) numbers ≡ true
test_of_all g [] all = refl
test_of_all g (b ∷ numbers) all =
    and_from (is_body g b) (list_all (is_body g) numbers) (All-head (λ c. is_body g c ≡ true) b numbers all) (test_of_all g numbers (All-tail (λ c. is_body g c ≡ true) b numbers all))

-- what was held, and is made now
module _ (g : Geometry) (blocks others : Blocks) (i : ℕ) (d : Dinode) (numbers : List ℕ) (hands after : List Hand) (ok : IsGeometry g)
    (stored : IsStored g (reading_of g blocks) hands) (more : HoldMore hands after (i ∷ []) numbers) (writes : WritesRecord g blocks others i (Some d)) where
  held_inode : 1 ≤ times i (held_inodes hands)
  held_inode =
      let here : one_if (i == i) ≡ 1 = cond-true (i == i) 1 0 (eq-eqb i i refl) in
      omega (arith, more.inodes i, times-append i (i ∷ []) (held_inodes after), times-cons i i [], here)

  was_free : used_at (reading_of g blocks) i ≡ None
  was_free = holds_of (λ j. used_at (reading_of g blocks) j ≡ None) (held_inodes hands) i stored.apart.inodes_free held_inode

  may_be : 2 ≤ i
  may_be = (holds_of (λ j. (2 ≤ j) × (j < inodes_in (reading_of g blocks))) (held_inodes hands) i stored.apart.inodes_usable held_inode).0

  pub held_bodies : list_all (is_body g) numbers ≡ true
  held_bodies =
      test_of_all g numbers (holds_of_all (λ b. is_body g b ≡ true) numbers (λ b some.
      holds_of (λ c. is_body g c ≡ true) (held_blocks hands) b stored.apart.blocks_body (omega (arith, more.blocks b, times-append b numbers (held_blocks after), some))))

  only : OnlyInodeChanges g blocks others i
  only = written_record g blocks others i ok writes.within (stored_is_laid g (reading_of g blocks) hands stored) writes.agree

  state : state_at g others i ≡ InUse (used_inode others d)
  state = ap (state_of others) writes.there

  pub made_stored : HasJustBlocks d numbers → has_right_size g d ≡ true → size_in_blocks d.size ≡ length numbers
      → list_all is_some (chunks_at others d) ≡ true → IsStored g (reading_of g others) after
  made_stored just size count chunks =
      let r = reading_of g blocks in
      let v = used_inode others d in
      let claims : claimed_blocks i (Some v) ≡ numbers = claims_are g others i d numbers ok just held_bodies in
      let exchange : Exchanges g r i (InUse v) hands after = record {
        within = omega (arith, writes.within, length-inodes g blocks);
        right = record { usable = may_be; numbers = just_right g others i d numbers ok just held_bodies size count; chunks = chunks };
        blocks = λ b. ap (λ (l : List ℕ). times b (l ++ held_blocks after)) claims ∙ more.blocks b
            ∙ ap (λ (o : Option UsedInode). times b (claimed_blocks i o ++ held_blocks hands)) (sym was_free);
        inodes = λ j. more.inodes j ∙ ap (λ (o : Option UsedInode). times j (used_inodes i o ++ held_inodes hands)) (sym was_free);
      } in
      stored_after g blocks others i hands after stored only (subst (λ (s : InodeState). Exchanges g r i s hands after) (sym state) exchange)

  pub made_tree : (node : Node) → node_of others (used_inode others d) ≡ node → tree_of g others ≡ with_node (tree_of g blocks) i (Some node)
  made_tree node is =
      only.tree ∙ ap (λ (s : InodeState). with_node (tree_of g blocks) i (option_map (node_of others) (used_of s))) state
      ∙ ap (λ (n : Node). with_node (tree_of g blocks) i (Some n)) is
