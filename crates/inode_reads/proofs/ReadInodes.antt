-- An inode that was read is the node that the tree of its volume has there.
use Rattle.std.proofs.Common.{◌≡◌, ◌≢◌, ◌<◌, ◌≤◌, ℕ, ◌+◌, ◌*◌, false, List, length, drop, Option, Some, None, IfSome, refl, sym, ap, ◌∙◌, subst, arith, length-drop}
use Rattle.std.specs.Prelude.{IsSomeAnd}
use Rattle.std.specs.List.{slice_get}
use Rattle.std.specs.Option.{option_map, option_and_then, option_flatten}
use Rattle.std.proofs.lemmas.Option.{slice_get_past}
use Rattle.std.proofs.lemmas.Bool.{ltb-false}
use Rattle.std.proofs.lemmas.List.{length-take-le}
use Rattle.lufs_base.specs.Layout.{blocks_of}
use Rattle.lufs_base.specs.declared.geometry.Geometry.{Geometry}
use Rattle.volume_model.specs.declared.inode.Dinode.{Dinode}
use Rattle.volume_model.specs.declared.hand.Hand.{Hand}
use Rattle.volume_model.specs.Format.{Blocks, Image, block, sectors_of, inodes_of}
use Rattle.volume_model.specs.Sound.{UsedInode, InodeState, used_of, state_of, used_inode, reading_of, used_at, inode_at, Node, File, Directory, Link, Tree, node_of, tree_of, StandsFor, IsStored, HasRightLinks, IsRightTree, Sound, NoRecord, Unused, InUse, is_bad_state}
use Rattle.volume_laws.proofs.ClaimFacts.{length-inodes, used_in_volume, used_within}
use Rattle.volume_laws.proofs.SoundParts.{in_parts}
use Rattle.volume_laws.proofs.NodeFacts.{node_in_tree}
use Rattle.volume_laws.proofs.NodeFields.{mode_of_its_node, attributes_of_its_node, blocks_of_its_node, links_of_inode}
use Rattle.volume_laws.specs.Nodes.{mode_of_node, attributes_of_node}
use Rattle.history_model.specs.Places.{attributes_in}
use Rattle.history_model.specs.Replies.{type_bits}
use Rattle.history_rules.proofs.LinkRangeLaws.{links-counted}
use Rattle.inode_reads.proofs.ReadSizes.{size_of_node_read}
use Rattle.meta_store.specs.NoChange.{no_change}
use Rattle.meta_store.specs.Changes.{changed}
use Rattle.meta_store.proofs.ImageLaid.{nothing_over}
use Rattle.inode_reads.specs.InodeOf.{IsRecordOf, IsInodeOf}

of_state : (blocks : Blocks) (o : Option (Option Dinode)) → option_map (used_inode blocks) (option_flatten o) ≡ used_of (state_of blocks o)
of_state blocks None = refl
of_state blocks (Some None) = refl
of_state blocks (Some (Some d)) = refl

-- an inode of the volume that was read with no change
pub read_is : (content : Option Image) (g : Geometry) (i : ℕ) (found : Option Dinode) → i < inodes_of g
    → IfSome (option_map (changed no_change) content) (λ image. found ≡ option_flatten (inode_at g (block image) i))
    → IfSome content (λ image. option_map (used_inode (block image)) found ≡ used_at (reading_of g (block image)) i)
read_is None g i found within read = tt
read_is (Some image) g i found within read =
    ap (option_map (used_inode (block image))) (read ∙ ap (λ (same : Image). option_flatten (inode_at g (block same) i)) (nothing_over image))
    ∙ of_state (block image) (inode_at g (block image) i) ∙ sym (used_in_volume g (block image) i within)

-- one that the volume doesn't have isn't in use
pub unused_past : (content : Option Image) (g : Geometry) (i : ℕ) → inodes_of g ≤ i
    → IfSome content (λ image. ◌≡◌ {A = Option UsedInode} None (used_at (reading_of g (block image)) i))
unused_past None g i past = tt
unused_past (Some image) g i past =
    sym (ap (λ (o : Option InodeState). option_and_then used_of o) (slice_get_past (reading_of g (block image)).inodes i (omega (arith, past, length-inodes g (block image)))))

-- two names of the same
same_mode : (node : Node) → mode_of_node node ≡ type_bits node + (attributes_in node).rights
same_mode (File file) = refl
same_mode (Directory directory) = refl
same_mode (Link link) = refl

same_attributes : (node : Node) → attributes_of_node node ≡ attributes_in node
same_attributes (File file) = refl
same_attributes (Directory directory) = refl
same_attributes (Link link) = refl

-- an inode in use isn't one of the first two
real_state : (i : ℕ) (o : Option InodeState) (u : UsedInode) → option_and_then used_of o ≡ Some u → is_bad_state i o ≡ false → 2 ≤ i
real_state i None u used right = absurd (cc)
real_state i (Some NoRecord) u used right = absurd (cc)
real_state i (Some Unused) u used right = absurd (cc)
real_state i (Some (InUse v)) u used right = ltb-false i 2 right

module _ (g : Geometry) (image : Image) (room : 8 * blocks_of g ≤ sectors_of image) (i : ℕ) (d : Dinode) (hands : List Hand)
    (sound : Sound g (block image) hands) (used : used_at (reading_of g (block image)) i ≡ Some (used_inode (block image) d)) where
  parts : IsStored g (reading_of g (block image)) hands × IsRightTree g (tree_of g (block image)) × HasRightLinks (reading_of g (block image))
  parts = (in_parts g (block image) hands).0 sound

  sizes : (b : ℕ) → b < blocks_of g → length (block image b) ≡ 4096
  sizes b below = length-take-le (512 * 8) (drop (512 * (8 * b)) image) (omega (arith, length-drop (512 * (8 * b)) image, room, below))

  real : i ≢ 0
  real none =
      let r = reading_of g (block image) in
      let two = real_state i (slice_get r.inodes i) (used_inode (block image) d) used (parts.0.inodes i (used_within r i (used_inode (block image) d) used)) in
      omega (arith, none, two)

  record_of_node : IsRecordOf g (tree_of g (block image)) i d (node_of (block image) (used_inode (block image) d))
  record_of_node =
      let blocks = block image in
      let u = used_inode blocks d in
      let node = node_of blocks u in
      let there = node_in_tree g blocks i u used in
      record {
        mode = mode_of_its_node g blocks i u node used there ∙ same_mode node;
        attributes = attributes_of_its_node g blocks i u node used there ∙ same_attributes node;
        size = size_of_node_read g blocks i u hands sizes parts.0 used;
        blocks = blocks_of_its_node g blocks i u node hands parts.0 used there;
        links = links_of_inode g blocks i u parts.2 used ∙ sym (links-counted g (tree_of g blocks) i real);
      }

  some_is : IsInodeOf g (tree_of g (block image)) i (Some d)
  some_is =
      subst (λ (o : Option Node). IsSomeAnd o (IsRecordOf g (tree_of g (block image)) i d)) (sym (node_in_tree g (block image) i (used_inode (block image) d) used)) record_of_node

none_is : (g : Geometry) (blocks : Blocks) (i : ℕ) → ◌≡◌ {A = Option UsedInode} None (used_at (reading_of g blocks) i) → tree_of g blocks i ≡ None
unfolding tree_of
none_is g blocks i none = ap (option_map (node_of blocks)) (sym none)

is_of_tree : (g : Geometry) (image : Image) (i : ℕ) (found : Option Dinode) (hands : List Hand) → 8 * blocks_of g ≤ sectors_of image → Sound g (block image) hands
    → option_map (used_inode (block image)) found ≡ used_at (reading_of g (block image)) i → IsInodeOf g (tree_of g (block image)) i found
is_of_tree g image i None hands room sound read = none_is g (block image) i read
is_of_tree g image i (Some d) hands room sound read = some_is g image room i d hands sound (sym read)

-- what was read is the node of the tree
pub by_tree : (content : Option Image) (g : Geometry) (i : ℕ) (found : Option Dinode) → IfSome content (λ image. 8 * blocks_of g ≤ sectors_of image)
    → IfSome content (λ image. option_map (used_inode (block image)) found ≡ used_at (reading_of g (block image)) i)
    → IfSome content (λ image. (tree : Tree) (hands : List Hand) → StandsFor g (block image) tree hands → IsInodeOf g tree i found)
by_tree None g i found room read = tt
by_tree (Some image) g i found room read = λ tree hands stands.
    subst (λ (t : Tree). IsInodeOf g t i found) stands.stands (is_of_tree g image i found hands room stands.sound read)
