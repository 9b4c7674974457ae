-- The records of a new volume break no rule, and name the tree that has the root alone.
use Rattle.std.proofs.Common.{◌≡◌, ◌<◌, ℕ, zero, suc, ◌+◌, ◌-◌, Bool, true, false, not, ◌&&◌, ◌||◌, ◌≤◌, ◌*◌, inl, inr, subst, cond, List, [], ◌∷◌, length, map, replicate, Option, Some, None, is_some, refl, sym, ap, ◌∙◌, arith}
use Rattle.std.specs.Prelude.{◌==◌, nat_le, filter, slice_index_or, bytes_eq, Contains, option_map}
use Rattle.std.specs.List.{list_any, list_all, count_by}
use Rattle.std.specs.Option.{option_map_or}
use Rattle.std.proofs.lemmas.Bool.{cases_eq, ne_eqb, cond-false, and_from, and_left, not_from_true, not_from_false}
use Rattle.std.proofs.lemmas.List.{length-replicate}
use Rattle.std.proofs.Math.Nat.{mul-le-mul_right}
use Rattle.lufs_base.specs.Layout.{IsGeometry}
use Rattle.lufs_base.specs.declared.geometry.Geometry.{Geometry}
use Rattle.volume_model.specs.declared.finding.Kind.{Kind}
use Rattle.volume_model.specs.declared.finding.Kind.TheVariants.{Group, Inode, Fields, Root, Twice, Chunk, Name, Parent, Links, InodeBit, BlockBit, Count}
use Rattle.volume_model.specs.Format.{Blocks, inodes_of, is_body, GroupRecord, is_directory}
use Rattle.volume_model.specs.Sound.{InodeState, UsedInode, Unused, Reading, Names, inodes_in, used_of, used_at, slots_of, names_in_reading, is_used_in, is_directory_in, names_at, entries_at, parent_at, Claim, claims_in, is_bad_group, is_bad_inode, is_bad_state, has_right_fields, has_bad_fields, is_no_directory, is_claimed_twice, namers_of, links_to, has_bad_slots, has_bad_chunk, names_unused, has_bad_parent, has_bad_links, numbers_of_kind, is_broken, node_of, tree_of_reading}
use Rattle.volume_model.specs.MkfsImage.{root_block}
use Rattle.new_volume.specs.NewVolume.{new_root, new_tree}
use Rattle.new_volume.proofs.NewReading.{new_root_inode, new_reading}
use Rattle.new_volume.proofs.NewClaims.{used_elsewhere, copy_at, record_there, root_claims, new_claims}
use Rattle.new_volume.proofs.RootBlock.{root_is_some, root_is_body}
use Rattle.new_volume.proofs.NewBits.{right_inode_bit, right_block_bit, right_count}
use Rattle.new_volume.proofs.Runs.{nowhere, only_2, sum_only_2, in_range}

at_most_once : (test : Bool) → nat_le 2 (0 + cond test 1 0) ≡ false
at_most_once true = refl
at_most_once false = refl

module _ (g : Geometry) (moment : ℕ) (ok : IsGeometry g) where
  abbrev r : Reading
  r = new_reading g moment

  abbrev root : UsedInode
  root = new_root_inode g moment

  abbrev m : Names
  m = names_in_reading r

  -- the inodes of the reading are those of the volume
  within : (i : ℕ) → i < inodes_in r → i < inodes_of g
  within i inside =
      let more : 1 * g.ipg ≤ g.groups * g.ipg = mul-le-mul_right g.ipg ok.groups_low in
      omega (arith, inside, more, ok.ipg_low, length-replicate {A = InodeState} (inodes_of g - 3) Unused)

  -- what is said of the names of an inode, by what is in use there
  abbrev seen : Option UsedInode → Names
  seen u i = option_map slots_of u

  -- rule by rule
  right_fields : has_right_fields g 2 root ≡ true
  right_fields =
      let body : list_all (λ claim. is_body g claim.block) (claims_in 2 root) ≡ true = ap (list_all (λ (claim : Claim). is_body g claim.block)) (root_claims g moment ok) ∙ and_from _ _ (root_is_body g ok) refl in
      let no_hole : (not (root_block g == 0) && true) ≡ true = and_from _ _ (not_from_false _ (root_is_some g)) refl in
      let count : (1 == length (claims_in 2 root)) ≡ true = ap (λ (l : List Claim). 1 == length l) (root_claims g moment ok) in
      and_from _ _ refl (and_from _ _ (and_from _ _ (and_from _ _ (and_from _ _ refl body) refl) no_hole) count)

  right_group : (n : ℕ) → n < g.groups → is_bad_group r n ≡ false
  right_group n within = ap (λ (o : Option GroupRecord). not (is_some o)) (record_there g moment ok n within)

  right_inode : (i : ℕ) → i < inodes_of g → is_bad_inode r i ≡ false
  right_inode zero inside = refl
  right_inode (suc zero) inside = refl
  right_inode (suc (suc zero)) inside = refl
  right_inode (suc (suc (suc k))) inside = ap (is_bad_state (suc (suc (suc k)))) (copy_at (inodes_of g - 3) k (omega (arith, inside)))

  right_twice : (b : ℕ) → is_claimed_twice r b ≡ false
  right_twice b = ap (λ (claims : List Claim). nat_le 2 (count_by (λ claim. claim.block == b) claims)) (new_claims g moment ok) ∙ at_most_once (root_block g == b)

  right_parent : has_bad_parent (inodes_in r) m 2 ≡ false
  right_parent =
      let none : namers_of (inodes_in r) m 2 ≡ [] =
      only_2 _ (length (replicate (inodes_of g - 3) Unused)) (λ i other. ap (λ (u : Option UsedInode). map (λ s. i) (filter (λ s. s.ino == 2) (entries_at (seen u) i))) (used_elsewhere g moment ok i other)) in
      ap (λ (namers : List ℕ). not (bytes_eq namers [] && parent_at m 2 == 2)) none

  right_links : has_bad_links r 2 ≡ false
  right_links =
      let two : links_to (inodes_in r) m 2 ≡ 2 =
      sum_only_2 _ (length (replicate (inodes_of g - 3) Unused)) (λ i other. ap (λ (u : Option UsedInode). count_by (λ s. s.ino == 2) (names_at (seen u) i)) (used_elsewhere g moment ok i other)) in
      ap (λ (links : ℕ). not (2 == links)) two

  -- no rule is broken
  pub new_rule_kept : (kind : Kind) (n : ℕ) → Contains (numbers_of_kind g r kind) n → is_broken g r [] kind n ≡ false
  new_rule_kept Group n here = right_group n (in_range g.groups n here)
  new_rule_kept Inode n here = right_inode n (within n (in_range (inodes_in r) n here))
  new_rule_kept Fields n here =
      nowhere (has_bad_fields g r) (not_from_true _ right_fields) (λ i other. ap (λ (u : Option UsedInode). option_map_or (λ u. not (has_right_fields g i u)) u false) (used_elsewhere g moment ok i other)) n
  new_rule_kept Root n here =
      let first : here.0 ≡ 0 = omega (arith, here.1) in
      let two : 2 ≡ n = ap (λ k. slice_index_or (2 ∷ []) k n) (sym first) ∙ here.2 in
      ap (is_no_directory m) (sym two)
  new_rule_kept Twice n here = right_twice n
  new_rule_kept Chunk n here =
      nowhere (has_bad_chunk r) refl (λ i other. ap (λ (u : Option UsedInode). option_map_or (λ u. not (list_all is_some u.chunks)) u false || has_bad_slots (seen u) i) (used_elsewhere g moment ok i other)) n
  new_rule_kept Name n here =
      nowhere (names_unused m) refl (λ i other. ap (λ (u : Option UsedInode). list_any (λ s. not (is_used_in m s.ino)) (names_at (seen u) i)) (used_elsewhere g moment ok i other)) n
  new_rule_kept Parent n here =
      nowhere (has_bad_parent (inodes_in r) m) right_parent (λ i other. and_left _ _ (ap (λ (u : Option UsedInode). is_directory_in (seen u) i) (used_elsewhere g moment ok i other))) n
  new_rule_kept Links n here =
      nowhere (has_bad_links r) right_links (λ i other. ap (λ (u : Option UsedInode). option_map_or (λ u. not (u.inode.links == links_to (inodes_in r) m i)) u false) (used_elsewhere g moment ok i other)) n
  new_rule_kept InodeBit n here = right_inode_bit g moment ok n (within n (in_range (inodes_in r) n here))
  new_rule_kept BlockBit n here = right_block_bit g moment ok n
  new_rule_kept Count n here = right_count g moment ok n (in_range g.groups n here)

  -- and the root is the one node
  new_node : (blocks : Blocks) (i : ℕ) → tree_of_reading blocks r i ≡ new_tree moment i
  new_node blocks i = elim (cases_eq i 2) [
    | inl same ↦ subst (λ (k : ℕ). tree_of_reading blocks r k ≡ new_tree moment k) (sym same) refl
    | inr other ↦
        ap (option_map (node_of blocks)) (used_elsewhere g moment ok i other)
        ∙ sym (cond-false (i == 2) (Some (new_root moment)) None (ne_eqb i 2 other))
  ]

  pub new_tree_read : (blocks : Blocks) → tree_of_reading blocks r ≡ new_tree moment
  new_tree_read blocks = λ t i. new_node blocks i t
