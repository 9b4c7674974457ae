-- What a directory of a store is, read with no change.
use Rattle.std.proofs.Common.{◌≡◌, ℕ, false, Option, Some, None, IfSome, subst}
use Rattle.std.specs.Option.{option_map}
use Rattle.lufs_base.specs.declared.geometry.Geometry.{Geometry}
use Rattle.volume_model.specs.Format.{Image, block}
use Rattle.volume_model.specs.Sound.{reading_of, has_bad_numbers, Tree, tree_of}
use Rattle.volume_laws.proofs.SoundParts.{in_parts}
use Rattle.meta_store.specs.NoChange.{no_change}
use Rattle.meta_store.specs.Changes.{changed}
use Rattle.meta_store.proofs.ImageLaid.{nothing_over}
use Rattle.dir_reads.proofs.StoredNumbers.{stored_numbers}
use Rattle.inode_reads.proofs.ByTree.{ByTree}

-- what is answered of an inode whose numbers are right, by the tree
pub as_it_is : (g now_g : Geometry) (content now : Option Image) (i : ℕ) (P : Tree → Type 0) → now_g ≡ g → now ≡ content
    → IfSome (option_map (changed no_change) now) (λ image. has_bad_numbers now_g (reading_of now_g (block image)) i ≡ false → P (tree_of now_g (block image)))
    → ByTree g content P
as_it_is g now_g None now i P same_g same given = tt
as_it_is g now_g (Some image) now i P same_g same given = λ tree hands stands.
    let says : Geometry → Image → Type 0 = λ h im. has_bad_numbers h (reading_of h (block im)) i ≡ false → P (tree_of h (block im)) in
    let here = subst (λ (o : Option Image). IfSome (option_map (changed no_change) o) (says now_g)) same given in
    let plain : says g image = subst (λ (h : Geometry). says h image) same_g (subst (says now_g) (nothing_over image) here) in
    subst P stands.stands (plain (stored_numbers g (reading_of g (block image)) hands i ((in_parts g (block image) hands).0 stands.sound).0))
