-- What the reads of records give of a content.
use Rattle.std.specs.Prelude.{◌≡◌, ℕ, Option, IfSome, option_map}
use Rattle.std.specs.Option.{option_flatten}
use Rattle.volume_model.specs.declared.inode.Dinode.{Dinode}
use Rattle.volume_model.specs.Format.{block, IsGroup, IsDinode}
use Rattle.volume_model.specs.Sound.{group_at, inode_at}
use Rattle.cyl_groups.specs.declared.group.Group.{Group}
use Rattle.cyl_groups.specs.Group.{record_of, HasSizesOf}
use Rattle.meta_store.specs.Store.{StoreTold}

-- The answer is inode i, if its record is one in use. A free record and bytes that are no record give none.
pub record IsInodeRead (i : ℕ) (answer : Option Dinode) (told : StoreTold) : Type 0 where
  pub value : IfSome told.content (λ image. answer ≡ option_flatten (inode_at told.geometry (block image) i))
  pub inode : IfSome answer (IsDinode told.geometry.version)

-- The answer is group n, if its bytes are a record of it.
pub record IsGroupRead (n : ℕ) (answer : Option Group) (told : StoreTold) : Type 0 where
  pub value : IfSome told.content (λ image. option_map record_of answer ≡ group_at told.geometry (block image) n)
  pub sizes : IfSome answer (HasSizesOf told.geometry)
  pub group : IfSome answer (λ x. IsGroup told.geometry n (record_of x))
