-- A reading with another record of one group: its bits, and what is stored.
use Rattle.std.proofs.Common.{◌≡◌, ◌≢◌, ◌<◌, ◌≤◌, inl, inr, ℕ, ◌%◌, Bool, true, false, not, ◌||◌, List, length, Option, Some, None, refl, sym, ap, ◌∙◌, subst}
use Rattle.std.specs.Prelude.{All, is_some, slice_get, ◌==◌}
use Rattle.std.specs.List.{count_by, list_any}
use Rattle.std.specs.Option.{option_map_or, option_flatten}
use Rattle.std.proofs.lemmas.Bool.{cases_eq, not-false, not_from_true, false≢true}
use Rattle.std.proofs.lemmas.Option.{slice_get_within}
use Rattle.lufs_base.specs.declared.geometry.Geometry.{Geometry}
use Rattle.volume_model.specs.declared.hand.Hand.{Hand}
use Rattle.volume_model.specs.Format.{is_body, GroupRecord, bit_at}
use Rattle.volume_model.specs.Sound.{Reading, inodes_in, used_at, record_at, Claim, claims_of, is_claimed, held_inodes, held_blocks, is_among, AreApart, is_bad_group, inode_bit, block_bit, has_right_counts, has_bad_count, IsStored}
use Rattle.volume_laws.specs.Changes.{with_group}
use Rattle.volume_laws.proofs.ListParts.{entry_set, entry_kept}
use Rattle.change_laws.specs.Marks.{group_of_inode, group_of_block, place_of_block, Marks}
use Rattle.change_laws.proofs.Places.{taken_block, taken_inode, bits_of_stored, claimed_once, stored_if}

-- a group with a record is one of the list
group_within : (groups : List (Option GroupRecord)) (n : ℕ) → is_some (option_flatten (slice_get groups n)) ≡ true → n < length groups
group_within groups n there =
    (elim (slice_get groups n) as (λ o. slice_get groups n ≡ o → is_some (option_flatten o) ≡ true → n < length groups) [
      | None ↦ λ is some. absurd (false≢true some)
      | Some group ↦ λ is some. slice_get_within groups n group is
    ]) refl there

module _ (r : Reading) (n : ℕ) (group : GroupRecord) where
  -- no claim changes
  pub same_claims : claims_of (with_group r n (Some group)) ≡ claims_of r
  unfolding claims_of
  same_claims = refl

  pub record_put : is_bad_group r n ≡ false → record_at (with_group r n (Some group)) n ≡ Some group
  record_put right = ap option_flatten (entry_set r.groups n (Some group) (group_within r.groups n (not-false (is_some (record_at r n)) right)))

  pub record_kept : (m : ℕ) → m ≢ n → record_at (with_group r n (Some group)) m ≡ record_at r m
  record_kept m away = ap option_flatten (entry_kept r.groups n (Some group) m away)

module _ (g : Geometry) (r : Reading) (n : ℕ) (group : GroupRecord) (hands others : List Hand) (stored : IsStored g r hands) (marks : Marks g r n group hands others) where
  abbrev s : Reading
  s = with_group r n (Some group)

  put : record_at s n ≡ Some group
  put = record_put r n group (stored.groups n marks.within)

  group_rule : (m : ℕ) → m < g.groups → is_bad_group s m ≡ false
  group_rule m within = elim (cases_eq m n) [
    | inl same ↦ ap (is_bad_group s) same ∙ ap (λ (o : Option GroupRecord). not (is_some o)) put
    | inr away ↦ ap (λ (o : Option GroupRecord). not (is_some o)) (record_kept r n group m away) ∙ stored.groups m within
  ]

  count_rule : (m : ℕ) → m < g.groups → has_bad_count g s m ≡ false
  count_rule m within = elim (cases_eq m n) [
    | inl same ↦
        ap (has_bad_count g s) same ∙ ap (λ (o : Option GroupRecord). option_map_or (λ group. not (has_right_counts g group)) o false) put
        ∙ not_from_true (has_right_counts g group) marks.counts
    | inr away ↦
        ap (λ (o : Option GroupRecord). option_map_or (λ group. not (has_right_counts g group)) o false) (record_kept r n group m away) ∙ stored.counts m within
  ]

  inode_bit_put : (i : ℕ) → 2 ≤ i → i < inodes_in s → inode_bit g s i ≡ (is_some (used_at s i) || is_among i (held_inodes others))
  inode_bit_put i low within =
      let bit : Option GroupRecord → Bool = λ o. option_map_or (λ group. bit_at group.inode_bits (i % g.ipg)) o false in
      elim (cases_eq (group_of_inode g i) n) [
        | inl same ↦ ap (λ (m : ℕ). bit (record_at s m)) same ∙ ap bit put ∙ marks.inode_bits i low within same
        | inr away ↦
            ap bit (record_kept r n group (group_of_inode g i) away)
            ∙ (bits_of_stored g r hands stored).inodes i low within ∙ sym (taken_inode r hands i)
            ∙ ap (λ (t : Bool). is_some (used_at r i) || t) (sym (marks.other_inodes i low within away))
      ]

  claimed_same : (b : ℕ) → is_claimed s b ≡ is_claimed r b
  claimed_same b = ap (list_any (λ claim. claim.block == b)) (same_claims r n group)

  block_bit_put : (b : ℕ) → is_body g b ≡ true → block_bit g s b ≡ (is_claimed s b || is_among b (held_blocks others))
  block_bit_put b body =
      let bit : Option GroupRecord → Bool = λ o. option_map_or (λ group. bit_at group.block_bits (place_of_block g b)) o false in
      let now : (is_claimed r b || is_among b (held_blocks others)) ≡ (is_claimed s b || is_among b (held_blocks others)) =
      ap (λ (t : Bool). t || is_among b (held_blocks others)) (sym (claimed_same b)) in
      elim (cases_eq (group_of_block g b) n) [
        | inl same ↦ ap (λ (m : ℕ). bit (record_at s m)) same ∙ ap bit put ∙ marks.block_bits b body same ∙ now
        | inr away ↦
            ap bit (record_kept r n group (group_of_block g b) away)
            ∙ (bits_of_stored g r hands stored).blocks b body ∙ sym (taken_block r hands b)
            ∙ ap (λ (t : Bool). is_claimed r b || t) (sym (marks.other_blocks b body away)) ∙ now
      ]

  apart_beside : AreApart g s others
  apart_beside = record {
    inodes = marks.apart.inodes;
    blocks = marks.apart.blocks;
    inodes_usable = marks.apart.inodes_usable;
    inodes_free = marks.apart.inodes_free;
    blocks_body = marks.apart.blocks_body;
    blocks_free = subst (λ (claims : List Claim). All (λ b. list_any (λ claim. claim.block == b) claims ≡ false) (held_blocks others)) (sym (same_claims r n group)) marks.apart.blocks_free;
  }

  pub mark_stored : IsStored g s others
  mark_stored = stored_if g s others (record {
    groups = group_rule;
    inodes = stored.inodes;
    numbers = stored.numbers;
    chunks = stored.chunks;
    counts = count_rule;
  }) (λ b. subst (λ (claims : List Claim). count_by (λ claim. claim.block == b) claims ≤ 1) (sym (same_claims r n group)) (claimed_once g r hands stored b))
      apart_beside inode_bit_put block_bit_put
