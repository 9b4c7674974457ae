-- Writes that change one inode alone, one after another.
use Rattle.std.proofs.Common.{◌≡◌, ◌<◌, inl, inr, ℕ, ◌+◌, ◌/◌, ◌%◌, not, List, [], ◌∷◌, ◌++◌, map, set, Option, Some, None, sym, ap, ◌∙◌, subst, arith}
use Rattle.std.specs.Prelude.{◌==◌}
use Rattle.std.specs.List.{All, Contains, range_with_len}
use Rattle.std.specs.Option.{option_map, option_map_or}
use Rattle.std.proofs.lemmas.List.Elements.{All-nil, All-cons, All-append, All-filter, All-contains}
use Rattle.std.proofs.lemmas.Bool.{cases_eq}
use Rattle.std.proofs.lemmas.List.{set-get_or, set-set}
use Rattle.std.proofs.lemmas.List.FromFn.{get_or-map-range_with_len}
use Rattle.lufs_base.specs.Layout.{IsGeometry, inode_address}
use Rattle.lufs_base.specs.declared.geometry.Geometry.{Geometry}
use Rattle.volume_model.specs.declared.hand.Hand.{Hand}
use Rattle.volume_model.specs.Format.{Blocks, inodes_of}
use Rattle.volume_model.specs.Sound.{InodeState, UsedInode, Reading, reading_of, state_at, used_of, used_at, inodes_in, NamedPointer, AtIndex, Claim, index_claims, pointer_claim, claims_in, claims_at, claims_of, IsLaid, read_length, held_blocks, IsStored, AgreeWhereRead, Node, Tree, with_node, node_of, tree_of}
use Rattle.volume_laws.specs.Changes.{AgreeWhereReadBut, with_state}
use Rattle.volume_laws.proofs.Members.{All_range, All_flat_map}
use Rattle.volume_laws.proofs.ClaimFacts.{length-inodes, used_in_volume}
use Rattle.volume_laws.proofs.SameReading.{reading_same}
use Rattle.volume_laws.proofs.SameTree.{agree_in_metadata, same_tree_of}
use Rattle.volume_laws.proofs.LessAgreement.{agree_in_metadata_but}
use Rattle.volume_laws.proofs.RecordChanges.{only_inode, claims_beside_inode}
use Rattle.volume_laws.proofs.BodyChanges.{only_owner, claims_of_others}
use Rattle.volume_laws.proofs.OneEntry.{node_there, other_node, one_state, one_node}
use Rattle.volume_laws.proofs.NodeFacts.{with_its_node}
use Rattle.change_laws.specs.Hands.{HaveTheSame}
use Rattle.change_laws.specs.Exchange.{claimed_blocks, Exchanges}
use Rattle.change_laws.specs.Plans.{OnlyInodeChanges}
use Rattle.change_laws.proofs.ExchangeRules.{exchange_stored, still_laid}

-- of two nodes in the place of one inode's the later one counts
pub later_node : (tree : Tree) (i : ℕ) (node other : Option Node) → with_node (with_node tree i node) i other ≡ with_node tree i other
later_node tree i node other =
    let each : (k : ℕ) → with_node (with_node tree i node) i other k ≡ with_node tree i other k = λ k. elim (cases_eq k i) [
      | inl here ↦ node_there (with_node tree i node) i other k here ∙ sym (node_there tree i other k here)
      | inr away ↦ other_node (with_node tree i node) i other k away ∙ other_node tree i node k away ∙ sym (other_node tree i other k away)
    ] in
    λ t k. each k t

-- a state that it has changes nothing
state_again : (g : Geometry) (blocks : Blocks) (i : ℕ) → i < inodes_of g → with_state (reading_of g blocks) i (state_at g blocks i) ≡ reading_of g blocks
unfolding reading_of
state_again g blocks i within =
    let states : List InodeState = map (state_at g blocks) (range_with_len 0 (inodes_of g)) in
    let s = state_at g blocks i in
    let here = get_or-map-range_with_len (state_at g blocks) 0 (inodes_of g) i i s within (let same : 0 + i ≡ i = omega arith in same) in
    ap (λ (l : List InodeState). record { groups = (reading_of g blocks).groups; inodes = l })
    (ap (set states i) (sym here) ∙ set-get_or states i s)

-- each claim is of an inode of the reading
of_pointers : (i n : ℕ) (pointers : List NamedPointer) → i < n → All (λ (c : Claim). c.inode < n) (map (pointer_claim i) pointers)
of_pointers i n [] within = All-nil (λ (c : Claim). c.inode < n)
of_pointers i n (p ∷ pointers) within = All-cons (λ (c : Claim). c.inode < n) (pointer_claim i p) (map (pointer_claim i) pointers) within (of_pointers i n pointers within)

of_indexes : (i n index : ℕ) (numbers : List ℕ) → i < n → All (λ (c : Claim). c.inode < n) (index_claims i index numbers)
of_indexes i n index [] within = All-nil (λ (c : Claim). c.inode < n)
of_indexes i n index (number ∷ numbers) within =
    All-cons (λ (c : Claim). c.inode < n) (record { block = number; inode = i; part = AtIndex index }) (index_claims i (index + 1) numbers) within
    (of_indexes i n (index + 1) numbers within)

of_inode : (i n : ℕ) (o : Option UsedInode) → i < n → All (λ (c : Claim). c.inode < n) (option_map_or (claims_in i) o [])
of_inode i n None within = All-nil (λ (c : Claim). c.inode < n)
of_inode i n (Some u) within =
    All-filter (λ (c : Claim). not (c.block == 0)) (λ c. c.inode < n) (map (pointer_claim i) u.pointers ++ index_claims i 0 u.numbers)
    (All-append (λ (c : Claim). c.inode < n) (map (pointer_claim i) u.pointers) (index_claims i 0 u.numbers) (of_pointers i n u.pointers within)
    (of_indexes i n 0 u.numbers within))

claimant_within : (r : Reading) (claim : Claim) → Contains (claims_of r) claim → claim.inode < inodes_in r
unfolding claims_of
claimant_within r claim here =
    let n = inodes_in r in
    All-contains (λ (c : Claim). c.inode < n) (claims_of r) claim
    (All_flat_map (λ (c : Claim). c.inode < n) (claims_at r) (range_with_len 0 n)
    (All_range (λ i. All (λ (c : Claim). c.inode < n) (claims_at r i)) n (λ i within. of_inode i n (used_at r i) within))) here

-- the tree has what the state leads to
node_of_state : (g : Geometry) (blocks : Blocks) (i : ℕ) → i < inodes_of g → tree_of g blocks i ≡ option_map (node_of blocks) (used_of (state_at g blocks i))
unfolding tree_of
node_of_state g blocks i within = ap (option_map (node_of blocks)) (used_in_volume g blocks i within)

-- what claims a block is an inode of the volume
claimed_by_inode : (g : Geometry) (blocks : Blocks) (claim : Claim) → Contains (claims_of (reading_of g blocks)) claim → claim.inode < inodes_of g
claimed_by_inode g blocks claim here =
    let inside = claimant_within (reading_of g blocks) claim here in
    omega (arith, inside, length-inodes g blocks)

module _ (g : Geometry) (blocks others : Blocks) (i : ℕ) (ok : IsGeometry g) (within : i < inodes_of g) where
  -- with the same reading the states are the same but perhaps for what they lead to
  pub unread : AgreeWhereRead g blocks others → OnlyInodeChanges g blocks others i
  unread agree =
      let same : reading_of g others ≡ reading_of g blocks = reading_same g blocks others ok (agree_in_metadata g blocks others agree) in
      let tree : tree_of g others ≡ tree_of g blocks = same_tree_of g blocks others ok agree in
      record {
        within = within;
        reading = sym (state_again g others i within) ∙ ap (λ (r : Reading). with_state r i (state_at g others i)) same;
        tree = sym (with_its_node (tree_of g others) i (option_map (node_of others) (used_of (state_at g others i))) (node_of_state g others i within))
            ∙ ap (λ (t : Tree). with_node t i (option_map (node_of others) (used_of (state_at g others i)))) tree;
      }

  pub written_record : IsLaid g (reading_of g blocks) → AgreeWhereReadBut g blocks others (inode_address g i / 4096) (inode_address g i % 4096) 128
      → OnlyInodeChanges g blocks others i
  written_record laid agree =
      let mostly = agree_in_metadata_but g blocks others (inode_address g i / 4096) (inode_address g i % 4096) 128 agree in
      let only = only_inode g blocks others ok laid i within mostly in
      record {
        within = within;
        reading = one_state g blocks others i within only;
        tree = one_node g blocks others i within only (λ j away. claims_beside_inode g blocks others ok laid i within agree j);
      }

pub written_block : (g : Geometry) (blocks others : Blocks) (claim : Claim) (at n : ℕ) → IsGeometry g → IsLaid g (reading_of g blocks)
    → Contains (claims_of (reading_of g blocks)) claim → AgreeWhereReadBut g blocks others claim.block at n → OnlyInodeChanges g blocks others claim.inode
written_block g blocks others claim at n ok laid here agree =
    let within = claimed_by_inode g blocks claim here in
    let mostly = agree_in_metadata_but g blocks others claim.block at n agree in
    let only = only_owner g blocks others ok laid claim here at n mostly in
    record {
      within = within;
      reading = one_state g blocks others claim.inode within only;
      tree = one_node g blocks others claim.inode within only (claims_of_others g blocks others ok laid claim here (read_length g (reading_of g blocks)) at n agree);
    }

pub one_after_another : (g : Geometry) (blocks middle others : Blocks) (i : ℕ) → OnlyInodeChanges g blocks middle i → OnlyInodeChanges g middle others i
    → OnlyInodeChanges g blocks others i
one_after_another g blocks middle others i first second =
    let s = state_at g others i in
    let node = option_map (node_of others) (used_of s) in
    record {
      within = first.within;
      reading = second.reading ∙ ap (λ (r : Reading). with_state r i s) first.reading
          ∙ ap (λ (l : List InodeState). record (reading_of g blocks) { inodes = l }) (set-set (reading_of g blocks).inodes i (state_at g middle i) s);
      tree = second.tree ∙ ap (λ (t : Tree). with_node t i node) first.tree
          ∙ later_node (tree_of g blocks) i (option_map (node_of middle) (used_of (state_at g middle i))) node;
    }

module _ (g : Geometry) (blocks others : Blocks) (i : ℕ) (hands after : List Hand) (stored : IsStored g (reading_of g blocks) hands)
    (only : OnlyInodeChanges g blocks others i) where
  pub stored_after : Exchanges g (reading_of g blocks) i (state_at g others i) hands after → IsStored g (reading_of g others) after
  stored_after exchange =
      subst (λ (r : Reading). IsStored g r after) (sym only.reading) (exchange_stored g (reading_of g blocks) i (state_at g others i) hands after stored exchange)

  pub laid_after : HaveTheSame (claimed_blocks i (used_at (reading_of g blocks) i) ++ held_blocks hands) (claimed_blocks i (used_of (state_at g others i)) ++ held_blocks after)
      → IsLaid g (reading_of g others)
  laid_after exchanged =
      let within : i < inodes_in (reading_of g blocks) = omega (arith, only.within, length-inodes g blocks) in
      subst (λ (r : Reading). IsLaid g r) (sym only.reading) (still_laid g (reading_of g blocks) i (state_at g others i) hands after within exchanged stored)
