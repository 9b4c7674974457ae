-- A file that lacks its pointer block gets it, and then a block.
use Rattle.std.proofs.Common.{◌≡◌, ◌≢◌, ◌<◌, ◌≤◌, ℕ, suc, ◌/◌, eqb, leb, Bool, true, false, ◌&&◌, if◌then◌else◌, List, [], ◌∷◌, length, take, Option, Some, None, refl, sym, ap, ◌∙◌, arith}
use Rattle.std.specs.Prelude.{nat_le, slice_set}
use Rattle.std.specs.Option.{option_map}
use Rattle.std.proofs.lemmas.Bool.{and_parts, leb-true, eq-eqb, eqb-true, cond-true}
use Rattle.std.proofs.lemmas.List.Elements.{All-head}
use Rattle.lufs_base.specs.Layout.{inode_address}
use Rattle.lufs_base.specs.declared.geometry.Geometry.{Geometry}
use Rattle.volume_model.specs.declared.hand.Hand.{Hand}
use Rattle.volume_model.specs.Format.{Image, Blocks, inodes_of}
use Rattle.volume_model.specs.Sound.{Single, UsedInode, reading_of, used_at, held_blocks, FileNode, Node, File, Tree, with_node, PointerName, node_of, tree_of}
use Rattle.volume_laws.proofs.ClaimFacts.{length-inodes, used_within}
use Rattle.volume_laws.proofs.Counting.{times_apart}
use Rattle.volume_laws.proofs.OneEntry.{node_there}
use Rattle.change_laws.specs.Hands.{one_block}
use Rattle.change_laws.specs.Plans.{HoldMore}
use Rattle.change_laws.proofs.Counts.{times-cons}
use Rattle.change_laws.proofs.InodeWrites.{later_node}
use Rattle.meta_store.specs.declared.change.Change.{Change}
use Rattle.meta_draft.specs.Drafted.{drafted_blocks}
use Rattle.draft_laws.specs.Drafts.{IsDraft, Draws, MayAttach, links_at}
use Rattle.draft_laws.proofs.Continues.{held_free}
use Rattle.draft_laws.proofs.NewSteps.{held_by, once_first, beside_records}
use Rattle.file_map.specs.Attached.{pointers_lacking, with_block_at, HasPlaceFor, LacksPointers, MayGetBlock, LeavesAllBut}

-- a node of the tree is of an inode of the volume
pub node_inside : (g : Geometry) (blocks : Blocks) (i : ℕ) (node : Node) → tree_of g blocks i ≡ Some node → i < inodes_of g
unfolding tree_of
node_inside g blocks i node stands = used_inside (used_at (reading_of g blocks) i) refl stands
  where
    used_inside : (o : Option UsedInode) → used_at (reading_of g blocks) i ≡ o → option_map (node_of blocks) o ≡ Some node → i < inodes_of g
    used_inside None is both = absurd (cc)
    used_inside (Some u) is both = omega (arith, used_within (reading_of g blocks) i u is, length-inodes g blocks)

-- of two blocks the hands give up the second one, and then the first
pub second_first : (hands after : List Hand) (b p : ℕ) → HoldMore hands after [] (b ∷ p ∷ []) → HoldMore hands (one_block b ∷ after) [] (p ∷ [])
second_first hands after b p held = record {
  inodes = held.inodes;
  blocks = λ n. (
      let rest = held_blocks after in
      omega (arith, held.blocks n, times-cons n b (p ∷ rest), times-cons n p rest, times-cons n p (b ∷ rest), times-cons n b rest)
      );
}

pub then_first : (after : List Hand) (b : ℕ) → HoldMore (one_block b ∷ after) after [] (b ∷ [])
then_first after b = record { inodes = λ n. refl; blocks = λ n. refl }

-- they aren't the same
pub two_apart : (g : Geometry) (base : Image) (taken : ℕ → Bool) (change : Change) (hands after : List Hand) (b p : ℕ) → IsDraft g base taken change hands
    → HoldMore hands after [] (b ∷ p ∷ []) → b ≢ p
two_apart g base taken change hands after b p draft held = λ same.
    let once = times_apart b (held_blocks hands) draft.stored.apart.blocks in
    let first = times-cons b b (p ∷ held_blocks after) in
    let second = times-cons b p (held_blocks after) in
    let one : ℕ = 1 in
    let here : (if eqb b b then 1 else 0) ≡ one = cond-true (eqb b b) 1 0 (eq-eqb b b refl) in
    let there : (if eqb p b then 1 else 0) ≡ one = cond-true (eqb p b) 1 0 (eq-eqb p b (sym same)) in
    omega (arith, once, held.blocks b, first, second, here, there)

-- one is lacking
pub lacks_one : (file : FileNode) (index p : ℕ) → length (p ∷ []) ≡ pointers_lacking file index → (nat_le 12 index && eqb (length file.pointers) 0) ≡ true
lacks_one file index p is = by_test (nat_le 12 index && eqb (length file.pointers) 0) is
  where
    by_test : (t : Bool) → ◌≡◌ {A = ℕ} 1 (if t then 1 else 0) → t ≡ true
    by_test true same = refl
    by_test false same = absurd (omega (arith, same))

pub no_names : (names : List PointerName) → eqb (length names) 0 ≡ true → names ≡ []
no_names [] none = refl
no_names (name ∷ names) none = absurd (omega (arith, eqb-true (suc (length names)) 0 none))

module _ (g : Geometry) (base : Image) (taken : ℕ → Bool) (old middle new : Change) (hands after : List Hand) (i index b p : ℕ) (file : FileNode) (draft : IsDraft g base taken old hands)
    (may : MayGetBlock g base taken old i index b (p ∷ []) hands after file) where
  abbrev file_with : FileNode
  file_with = record file { pointers = Single ∷ [] }

  needs : (12 ≤ index) × (file.pointers ≡ [])
  needs =
      let both = and_parts (nat_le 12 index) (eqb (length file.pointers) 0) (lacks_one file index p may.lacking) in
      (leb-true 12 index both.0, no_names file.pointers both.1)

  pub lacks : LacksPointers g base taken old i p hands (one_block b ∷ after) file
  lacks = record {
    stands = may.stands;
    above = omega (arith, needs.0, may.below);
    none = needs.1;
    held = second_first hands after b p may.held;
    new = All-head (MayAttach g base taken old) p [] may.attach;
  }

  module _ (first : Draws g base taken old middle i (Some (File file_with)) (links_at g (drafted_blocks old base) i) (one_block b ∷ after)) where
    pub place : HasPlaceFor g base taken middle i index b (one_block b ∷ after) after file_with
    place = record {
      stands = ap (λ (t : Tree). t i) first.tree ∙ node_there (tree_of g (drafted_blocks old base)) i (Some (File file_with)) i refl;
      below = may.below;
      hole = may.hole;
      pointers = λ high. refl;
      held = then_first after b;
      new = may.new;
    }

    -- the block has the bytes that it had
    pub bytes_stay : LeavesAllBut p (inode_address g i / 4096) old middle → drafted_blocks middle base b ≡ drafted_blocks old base b
    bytes_stay leaves =
        let blocks = drafted_blocks old base in
        let free = held_free g (reading_of g blocks) hands draft.stored b (held_by hands after [] (b ∷ p ∷ []) b may.held (once_first b (p ∷ []))) in
        leaves base b (two_apart g base taken old hands after b p draft may.held) (beside_records g b i draft.geometry free.0 (node_inside g blocks i (File file) may.stands))

    abbrev node_with : List ℕ → Option Node
    node_with bytes = Some (File (with_block_at file index bytes))

    with_same : (bytes : List ℕ) → with_block_at file_with index bytes ≡ with_block_at file index bytes
    with_same bytes =
        let high : leb 12 index ≡ true = (and_parts (nat_le 12 index) (eqb (length file.pointers) 0) (lacks_one file index p may.lacking)).0 in
        let one : List PointerName = Single ∷ [] in
        let its : (if nat_le 12 index then one else one) ≡ one = ap (λ (t : Bool). if t then one else one) high in
        let same : (if nat_le 12 index then one else file.pointers) ≡ one = ap (λ (t : Bool). if t then one else file.pointers) high in
        ap (λ (l : List PointerName). record file { blocks = slice_set file.blocks index (Some bytes); pointers = l }) (its ∙ sym same)

    pub both_drawn : LeavesAllBut p (inode_address g i / 4096) old middle
        → Draws g base taken middle new i (Some (File (with_block_at file_with index (take 4096 (drafted_blocks middle base b))))) (links_at g (drafted_blocks middle base) i) after
        → Draws g base taken old new i (Some (File (with_block_at file index (take 4096 (drafted_blocks old base b))))) (links_at g (drafted_blocks old base) i) after
    both_drawn leaves second =
        let tree = tree_of g (drafted_blocks old base) in
        let node = ap (λ (f : FileNode). Some (File f)) (with_same (take 4096 (drafted_blocks middle base b))) ∙ ap (λ (l : List ℕ). node_with (take 4096 l)) (bytes_stay leaves) in
        record {
          draft = second.draft;
          tree = second.tree ∙ ap (λ (t : Tree). with_node t i (Some (File (with_block_at file_with index (take 4096 (drafted_blocks middle base b)))))) first.tree
              ∙ later_node tree i (Some (File file_with)) (Some (File (with_block_at file_with index (take 4096 (drafted_blocks middle base b)))))
              ∙ ap (with_node tree i) node;
          own_links = second.own_links ∙ first.own_links;
          others = λ k away. second.others k away ∙ first.others k away;
        }
