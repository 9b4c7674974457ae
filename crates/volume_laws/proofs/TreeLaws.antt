-- A sound volume stands for one tree, and mounting it gives one shape.
use Rattle.std.proofs.Common.{◌≡◌, [], Option, Some, None, refl, sym, ◌∙◌}
use Rattle.std.specs.Prelude.{IsSomeAnd, List}
use Rattle.lufs_base.specs.declared.geometry.Geometry.{Geometry}
use Rattle.volume_model.specs.declared.hand.Hand.{Hand}
use Rattle.volume_model.specs.Format.{Image, block, Blocks, geometry_of}
use Rattle.volume_model.specs.Log.{recovered}
use Rattle.volume_model.specs.Sound.{Sound, Tree, shape_of, StandsFor, tree_of, MountsAs, HasShape, Opens, OpensWith}

pub sound_stands : (g : Geometry) (blocks : Blocks) (hands : List Hand) → Sound g blocks hands → StandsFor g blocks (tree_of g blocks) hands
sound_stands g blocks hands sound = record { sound = sound; stands = refl }

pub stands_once : (g : Geometry) (blocks : Blocks) (tree other : Tree) (hands others : List Hand)
    → StandsFor g blocks tree hands → StandsFor g blocks other others → tree ≡ other
stands_once g blocks tree other hands others h k = sym h.stands ∙ k.stands

-- a recovered image that is sound has a shape
shape_of_content : (g : Geometry) (content : Option Image) → IsSomeAnd content (λ image. Sound g (block image) [])
    → (shape : Tree) × IsSomeAnd content (λ image. HasShape g image shape)
shape_of_content g None sound = absurd sound
shape_of_content g (Some image) sound = (shape_of (tree_of g (block image)), record { sound = sound; has = refl })

shape_with : (image : Image) (geometry : Option Geometry) → IsSomeAnd geometry (λ g. OpensWith g image)
    → (shape : Tree) × IsSomeAnd geometry (λ g. IsSomeAnd (recovered g image) (λ content. HasShape g content shape))
shape_with image None opens = absurd opens
shape_with image (Some g) opens = shape_of_content g (recovered g image) opens.sound

pub opened_mounts : (image : Image) → Opens image → (shape : Tree) × MountsAs image shape
opened_mounts image opens = shape_with image (geometry_of image) opens

-- and no other
one_of_content : (g : Geometry) (content : Option Image) (shape other : Tree) → IsSomeAnd content (λ image. HasShape g image shape)
    → IsSomeAnd content (λ image. HasShape g image other) → shape ≡ other
one_of_content g None shape other h k = absurd h
one_of_content g (Some image) shape other h k = sym h.has ∙ k.has

one_with : (image : Image) (geometry : Option Geometry) (shape other : Tree)
    → IsSomeAnd geometry (λ g. IsSomeAnd (recovered g image) (λ content. HasShape g content shape))
    → IsSomeAnd geometry (λ g. IsSomeAnd (recovered g image) (λ content. HasShape g content other)) → shape ≡ other
one_with image None shape other h k = absurd h
one_with image (Some g) shape other h k = one_of_content g (recovered g image) shape other h k

pub mounts_once : (image : Image) (shape other : Tree) → MountsAs image shape → MountsAs image other → shape ≡ other
mounts_once image shape other h k = one_with image (geometry_of image) shape other h k
