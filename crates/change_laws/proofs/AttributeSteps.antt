-- A record with other attributes and links: what is stored stays right, and the node has the attributes.
use Rattle.std.proofs.Common.{◌≡◌, ℕ, true, List, ◌++◌, Option, Some, refl, sym, ap, ◌∙◌, subst}
use Rattle.std.specs.Prelude.{is_some}
use Rattle.std.specs.List.{list_all}
use Rattle.std.specs.Option.{option_map}
use Rattle.lufs_base.specs.Layout.{IsGeometry}
use Rattle.lufs_base.specs.declared.geometry.Geometry.{Geometry}
use Rattle.volume_model.specs.declared.inode.Dinode.{Dinode}
use Rattle.volume_model.specs.declared.hand.Hand.{Hand}
use Rattle.volume_model.specs.Format.{Blocks}
use Rattle.volume_model.specs.Sound.{UsedInode, InodeState, InUse, Reading, reading_of, state_at, used_of, used_at, IsLaid, held_inodes, held_blocks, has_right_numbers, IsStored, Attributes, Node, with_node, attributes_of, node_of, tree_of}
use Rattle.volume_laws.specs.Changes.{with_state}
use Rattle.volume_laws.proofs.ClaimFacts.{used_within}
use Rattle.volume_laws.proofs.StoredClaims.{right_numbers, stored_is_laid}
use Rattle.volume_laws.proofs.NodeFacts.{node_in_tree, node_is, with_its_node}
use Rattle.change_laws.specs.Hands.{times}
use Rattle.change_laws.specs.Exchange.{claimed_blocks, used_inodes, Exchanges}
use Rattle.change_laws.specs.Plans.{OnlyInodeChanges, WritesRecord, KeepsBlocks, with_attributes}
use Rattle.change_laws.proofs.InodeWrites.{written_record, stored_after}
use Rattle.change_laws.proofs.InodeRights.{kept_right, usable, chunks_read}
use Rattle.change_laws.proofs.RecordReads.{state_kept, same_old_node}
use Rattle.change_laws.proofs.NodeParts.{node_kept, own_attributes}

-- an inode that stays in use, with the same claims, exchanges nothing
pub exchanges_nothing : (g : Geometry) (r : Reading) (i : ℕ) (u v : UsedInode) (hands : List Hand) → IsStored g r hands → used_at r i ≡ Some u
    → has_right_numbers g i v ≡ true → list_all is_some v.chunks ≡ true → claimed_blocks i (Some v) ≡ claimed_blocks i (Some u) → Exchanges g r i (InUse v) hands hands
exchanges_nothing g r i u v hands stored used right chunks claims = record {
  within = used_within r i u used;
  right = record { usable = usable g r hands i u stored used; numbers = right; chunks = chunks };
  blocks = λ b. ap (λ (l : List ℕ). times b (l ++ held_blocks hands)) (claims ∙ ap (claimed_blocks i) (sym used));
  inodes = λ j. ap (λ (o : Option UsedInode). times j (used_inodes i o ++ held_inodes hands)) (sym used);
}

module _ (g : Geometry) (blocks others : Blocks) (i : ℕ) (u : UsedInode) (d : Dinode) (hands : List Hand) (ok : IsGeometry g) (stored : IsStored g (reading_of g blocks) hands)
    (used : used_at (reading_of g blocks) i ≡ Some u) (writes : WritesRecord g blocks others i (Some d)) (keeps : KeepsBlocks u.inode d) where
  laid : IsLaid g (reading_of g blocks)
  laid = stored_is_laid g (reading_of g blocks) hands stored

  only : OnlyInodeChanges g blocks others i
  only = written_record g blocks others i ok writes.within laid writes.agree

  state : state_at g others i ≡ InUse (record u { inode = d })
  state = state_kept g blocks others ok laid i d writes u used keeps

  pub set_reading : reading_of g others ≡ with_state (reading_of g blocks) i (InUse (record u { inode = d }))
  set_reading = only.reading ∙ ap (with_state (reading_of g blocks) i) state

  pub set_stored : IsStored g (reading_of g others) hands
  set_stored =
      let r = reading_of g blocks in
      let v : UsedInode = record u { inode = d } in
      let right = kept_right g i u d keeps (right_numbers g r i u hands stored used) in
      let exchange = exchanges_nothing g r i u v hands stored used right (chunks_read g r hands i u stored used) refl in
      stored_after g blocks others i hands hands stored only (subst (λ (s : InodeState). Exchanges g r i s hands hands) (sym state) exchange)

  node_set : tree_of g others ≡ with_node (tree_of g blocks) i (Some (with_attributes (attributes_of d) (node_of blocks u)))
  node_set =
      only.tree ∙ ap (λ (s : InodeState). with_node (tree_of g blocks) i (option_map (node_of others) (used_of s))) state
      ∙ ap (λ (n : Node). with_node (tree_of g blocks) i (Some n))
      (node_kept others u d keeps ∙ ap (with_attributes (attributes_of d)) (same_old_node g blocks others ok laid i d writes u used))

  pub set_tree : (node : Node) → tree_of g blocks i ≡ Some node → tree_of g others ≡ with_node (tree_of g blocks) i (Some (with_attributes (attributes_of d) node))
  set_tree node stands =
      node_set ∙ ap (λ (n : Node). with_node (tree_of g blocks) i (Some (with_attributes (attributes_of d) n))) (node_is g blocks i u node used stands)

  pub tree_kept : attributes_of d ≡ attributes_of u.inode → tree_of g others ≡ tree_of g blocks
  tree_kept same =
      node_set ∙ ap (λ (n : Node). with_node (tree_of g blocks) i (Some n)) (ap (λ (a : Attributes). with_attributes a (node_of blocks u)) same ∙ own_attributes blocks u)
      ∙ with_its_node (tree_of g blocks) i (Some (node_of blocks u)) (node_in_tree g blocks i u used)
