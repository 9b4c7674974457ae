-- A content in which a hand is marked, group by group.
use Rattle.std.proofs.Common.{◌≡◌, ◌≢◌, ◌<◌, ◌≤◌, inl, inr, ℕ, ◌+◌, Bool, true, false, not, List, [], ◌∷◌, Option, Some, None, refl, sym, ap, ◌∙◌, subst, arith}
use Rattle.std.specs.Prelude.{All, is_some, ◌==◌}
use Rattle.std.specs.List.{list_any, count_by}
use Rattle.std.specs.Option.{option_map_or}
use Rattle.std.proofs.lemmas.Bool.{cases_order, not-false, or_parts, or_left, or_right, or_cases, eqb-true, eq-eqb, false_from_ne_true, both_ways, false≢true}
use Rattle.lufs_base.specs.Fields.{put_at}
use Rattle.lufs_base.specs.Layout.{IsGeometry, group_start}
use Rattle.lufs_base.specs.declared.geometry.Geometry.{Geometry}
use Rattle.volume_model.specs.declared.hand.Hand.{Hand}
use Rattle.volume_model.specs.Format.{Blocks, GroupRecord, group_bytes, is_body}
use Rattle.volume_model.specs.Sound.{Reading, InodeState, reading_of, record_at, Claim, claims_of, IsLaid, held_inodes, is_among, has_right_counts, has_bad_count, is_bad_group, IsStored}
use Rattle.volume_laws.specs.Changes.{with_group}
use Rattle.change_laws.specs.Marks.{group_of_inode, group_of_block, HasHandPut}
use Rattle.change_laws.proofs.OneGroup.{record_put, record_kept}
use Rattle.block_alloc.specs.Marks.{has_of_group, IsMarked, MarksRecord, AreMarkedTo}
use Rattle.block_alloc.proofs.HandPut.{has_none}
use Rattle.block_alloc.proofs.RecordReplaced.{reading_replaced, tree_kept}

-- the claims are by the inodes alone
pub claims_by_inodes : (r s : Reading) → s.inodes ≡ r.inodes → claims_of s ≡ claims_of r
unfolding claims_of
claims_by_inodes r s same = ap (λ (inodes : List InodeState). claims_of (record { groups = []; inodes = inodes })) same

pub laid_by_inodes : (g : Geometry) (r s : Reading) → s.inodes ≡ r.inodes → IsLaid g r → IsLaid g s
laid_by_inodes g r s same laid =
    let claims = claims_by_inodes r s same in
    record {
      bodies = subst (λ (l : List Claim). All (λ claim. is_body g claim.block ≡ true) l) (sym claims) laid.bodies;
      once = subst (λ (l : List Claim). (b : ℕ) → is_body g b ≡ true → count_by (λ claim. claim.block == b) l ≤ 1) (sym claims) laid.once;
    }

-- one that is among them passes
any_of_one : (q : ℕ → Bool) (i : ℕ) (xs : List ℕ) → is_among i xs ≡ true → q i ≡ true → list_any q xs ≡ true
any_of_one q i [] among passes = absurd (false≢true among)
any_of_one q i (x ∷ xs) among passes = elim (or_cases (x == i) (is_among i xs) among) [
  | inl here ↦ or_left (q x) (list_any q xs) (ap q (eqb-true x i here) ∙ passes)
  | inr there ↦ or_right (q x) (list_any q xs) (any_of_one q i xs there passes)
]

-- where the hand has nothing of the group, none of it is among what it has
none_of_group : (q : ℕ → Bool) (i : ℕ) (xs : List ℕ) → list_any q xs ≡ false → q i ≡ true → is_among i xs ≡ false
none_of_group q i xs none passes = false_from_ne_true (is_among i xs) (λ among. both_ways (list_any q xs) none (any_of_one q i xs among passes))

pub none_put : (g : Geometry) (n : ℕ) (hand : Hand) (old : GroupRecord) → has_of_group g hand n ≡ false → HasHandPut g n true hand old old
none_put g n hand old none =
    let in_group : ℕ → Bool = λ i. group_of_inode g i == n in
    let block_in_group : ℕ → Bool = λ b. group_of_block g b == n in
    let parts = or_parts (list_any in_group (held_inodes (hand ∷ []))) (list_any block_in_group hand.blocks) none in
    has_none g n hand old (λ i same. none_of_group in_group i (held_inodes (hand ∷ [])) parts.0 (eq-eqb (group_of_inode g i) n same))
    (λ b same. none_of_group block_in_group b hand.blocks parts.1 (eq-eqb (group_of_block g b) n same))

-- counts that aren't bad
pub right_counts : (g : Geometry) (r : Reading) (n : ℕ) (old : GroupRecord) → record_at r n ≡ Some old → has_bad_count g r n ≡ false → has_right_counts g old ≡ true
right_counts g r n old is right =
    not-false (has_right_counts g old) (sym (ap (λ (o : Option GroupRecord). option_map_or (λ group. not (has_right_counts g group)) o false) is) ∙ right)

pub some_record : (r : Reading) (n : ℕ) → is_bad_group r n ≡ false → (old : GroupRecord) × (record_at r n ≡ Some old)
some_record r n good =
    (elim (record_at r n) as (λ o. record_at r n ≡ o → is_some o ≡ true → (old : GroupRecord) × (record_at r n ≡ Some old)) [
      | None ↦ λ is some. absurd (false≢true some)
      | Some old ↦ λ is some. (old, is)
    ]) refl (not-false (is_some (record_at r n)) good)

module _ (g : Geometry) (blocks mid : Blocks) (hand : Hand) (n : ℕ) (hands : List Hand) (stored : IsStored g (reading_of g blocks) hands) (within : n < g.groups)
    (before : AreMarkedTo g blocks mid hand n) where
  abbrev r : Reading
  r = reading_of g blocks

  -- a group of which the hand has nothing
  pub marked_without : has_of_group g hand n ≡ false → AreMarkedTo g blocks mid hand (n + 1)
  marked_without none =
      let there = some_record r n (stored.groups n within) in
      let old = there.0 in
      let right = right_counts g r n old there.1 (stored.counts n within) in
      let mine : MarksRecord g n hand (record_at r n) (record_at (reading_of g mid) n) =
      subst (λ (o : Option GroupRecord). MarksRecord g n hand (record_at r n) o) (sym (before.left n (omega arith)))
      (subst (λ (o : Option GroupRecord). MarksRecord g n hand o o) (sym there.1) (right, none_put g n hand old none)) in
      record {
        inodes = before.inodes;
        tree = before.tree;
        marked = λ m below. elim (cases_order m n) [
          | inl here ↦ subst (λ (k : ℕ). MarksRecord g k hand (record_at r k) (record_at (reading_of g mid) k)) (sym here) mine
          | inr other ↦ elim other [ inl low ↦ before.marked m low | inr past ↦ absurd (omega (arith, past, below)) ]
        ];
        left = λ m past. before.left m (omega (arith, past));
      }

  -- a group whose record is replaced
  module _ (others : Blocks) (old new : GroupRecord) (ok : IsGeometry g) (laid : IsLaid g r) (was : record_at r n ≡ Some old) (marked : IsMarked g n hand old new)
      (elsewhere : (b : ℕ) → b ≢ group_start g n → others b ≡ mid b) (here : others (group_start g n) ≡ put_at (mid (group_start g n)) 0 (group_bytes new)) where
    laid_before : IsLaid g (reading_of g mid)
    laid_before = laid_by_inodes g r (reading_of g mid) before.inodes laid

    reading : reading_of g others ≡ with_group (reading_of g mid) n (Some new)
    reading = reading_replaced g mid others n new ok laid_before within marked.group elsewhere here

    good : is_bad_group (reading_of g mid) n ≡ false
    good = ap (λ (o : Option GroupRecord). not (is_some o)) (before.left n (omega arith) ∙ was)

    there : record_at (reading_of g others) n ≡ Some new
    there = ap (λ (s : Reading). record_at s n) reading ∙ record_put (reading_of g mid) n new good

    beside : (m : ℕ) → m ≢ n → record_at (reading_of g others) m ≡ record_at (reading_of g mid) m
    beside m away = ap (λ (s : Reading). record_at s m) reading ∙ record_kept (reading_of g mid) n new m away

    pub marked_with : AreMarkedTo g blocks others hand (n + 1)
    marked_with =
        let mine : MarksRecord g n hand (record_at r n) (record_at (reading_of g others) n) =
        subst (λ (o : Option GroupRecord). MarksRecord g n hand (record_at r n) o) (sym there)
        (subst (λ (o : Option GroupRecord). MarksRecord g n hand o (Some new)) (sym was) (marked.counts, marked.put)) in
        record {
          inodes = ap (λ (s : Reading). s.inodes) reading ∙ before.inodes;
          tree = tree_kept g mid others n new ok laid_before within marked.group elsewhere here ∙ before.tree;
          marked = λ m below. elim (cases_order m n) [
            | inl same ↦ subst (λ (k : ℕ). MarksRecord g k hand (record_at r k) (record_at (reading_of g others) k)) (sym same) mine
            | inr other ↦ elim other [
              | inl low ↦ subst (λ (o : Option GroupRecord). MarksRecord g m hand (record_at r m) o) (sym (beside m (λ same. absurd (omega (arith, same, low))))) (before.marked m low)
              | inr past ↦ absurd (omega (arith, past, below))
            ]
          ];
          left = λ m past. beside m (λ same. absurd (omega (arith, same, past))) ∙ before.left m (omega (arith, past));
        }

-- nothing is marked at first
pub none_marked : (g : Geometry) (blocks : Blocks) (hand : Hand) → AreMarkedTo g blocks blocks hand 0
none_marked g blocks hand = record { inodes = refl; tree = refl; marked = λ m below. absurd (omega (arith, below)); left = λ m past. refl }
