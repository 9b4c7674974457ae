-- The node of an inode by the record that was read.
use Rattle.std.proofs.Common.{◌≡◌, ◌<◌, ◌≤◌, ℕ, Option, Some, None, IfSome, refl, sym, ap, ◌∙◌, arith}
use Rattle.std.specs.Option.{option_map, option_and_then, option_flatten}
use Rattle.std.proofs.lemmas.Option.{slice_get_past}
use Rattle.lufs_base.specs.declared.geometry.Geometry.{Geometry}
use Rattle.volume_model.specs.declared.inode.Dinode.{Dinode}
use Rattle.volume_model.specs.Format.{Blocks, Image, block, inodes_of}
use Rattle.volume_model.specs.Sound.{UsedInode, InodeState, used_of, state_of, used_inode, reading_of, used_at, inode_at, Node, node_of, tree_of}
use Rattle.volume_laws.proofs.ClaimFacts.{length-inodes, used_in_volume}

of_state : (blocks : Blocks) (o : Option (Option Dinode)) → option_map (used_inode blocks) (option_flatten o) ≡ used_of (state_of blocks o)
of_state blocks None = refl
of_state blocks (Some None) = refl
of_state blocks (Some (Some d)) = refl

-- an inode of the volume that was read
pub read_is : (content : Option Image) (g : Geometry) (i : ℕ) (found : Option Dinode) → i < inodes_of g
    → IfSome content (λ image. found ≡ option_flatten (inode_at g (block image) i))
    → IfSome content (λ image. option_map (used_inode (block image)) found ≡ used_at (reading_of g (block image)) i)
read_is None g i found within read = tt
read_is (Some image) g i found within read =
    ap (option_map (used_inode (block image))) read ∙ of_state (block image) (inode_at g (block image) i) ∙ sym (used_in_volume g (block image) i within)

-- one that the volume doesn't have isn't in use
pub unused_past : (content : Option Image) (g : Geometry) (i : ℕ) → inodes_of g ≤ i
    → IfSome content (λ image. ◌≡◌ {A = Option UsedInode} None (used_at (reading_of g (block image)) i))
unused_past None g i past = tt
unused_past (Some image) g i past =
    sym (ap (λ (o : Option InodeState). option_and_then used_of o) (slice_get_past (reading_of g (block image)).inodes i (omega (arith, past, length-inodes g (block image)))))

-- the node that is read from a record
abbrev pub node_read : Blocks → Option Dinode → Option Node
node_read blocks found = option_map (λ d. node_of blocks (used_inode blocks d)) found

twice : (blocks : Blocks) (found : Option Dinode) → option_map (node_of blocks) (option_map (used_inode blocks) found) ≡ node_read blocks found
twice blocks None = refl
twice blocks (Some d) = refl

pub node_of_read : (g : Geometry) (blocks : Blocks) (i : ℕ) (found : Option Dinode) → option_map (used_inode blocks) found ≡ used_at (reading_of g blocks) i → tree_of g blocks i ≡ node_read blocks found
unfolding tree_of
node_of_read g blocks i found read = ap (option_map (node_of blocks)) (sym read) ∙ twice blocks found
