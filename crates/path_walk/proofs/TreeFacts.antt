-- What holds of the tree that the content of a store stands for.
use Rattle.std.proofs.Common.{◌≡◌, ℕ, false, List, Option, Some, None, IfSome, ap, subst}
use Rattle.std.specs.Option.{option_map}
use Rattle.lufs_base.specs.declared.geometry.Geometry.{Geometry}
use Rattle.volume_model.specs.declared.hand.Hand.{Hand}
use Rattle.volume_model.specs.Format.{Image, Blocks, block}
use Rattle.volume_model.specs.Sound.{reading_of, has_bad_numbers, Tree, tree_of, StandsFor}
use Rattle.volume_laws.proofs.SoundParts.{in_parts}
use Rattle.meta_store.specs.declared.change.Change.{Change}
use Rattle.meta_store.specs.Store.{StoreTold, IsUnchanged}
use Rattle.meta_store.specs.Changes.{changed}
use Rattle.meta_draft.specs.Drafted.{drafted}
use Rattle.dir_reads.proofs.StoredNumbers.{stored_numbers}
use Rattle.path_walk.specs.Answers.{HoldsOfTree}

-- the same of a content and its geometry
abbrev pub OfTree : Option Image → Geometry → (Tree → Type 0) → Type 0
OfTree content g holds = IfSome content (λ image. (tree : Tree) (hands : List Hand) → StandsFor g (block image) tree hands → holds tree)

pub of_one : {H K : Tree → Type 0} (content : Option Image) (g : Geometry) → ((tree : Tree) → H tree → K tree) → OfTree content g H → OfTree content g K
of_one None g then first = tt
of_one (Some image) g then first = λ tree hands stands. then tree (first tree hands stands)

pub of_two : {H K L : Tree → Type 0} (content : Option Image) (g : Geometry) → ((tree : Tree) → H tree → K tree → L tree) → OfTree content g H → OfTree content g K → OfTree content g L
of_two None g then first second = tt
of_two (Some image) g then first second = λ tree hands stands. then tree (first tree hands stands) (second tree hands stands)

-- what holds of the tree after reads held before
pub before_reads : (H : Tree → Type 0) (change : Change) (old new : StoreTold) → IsUnchanged old new → HoldsOfTree (drafted change new) H → HoldsOfTree (drafted change old) H
before_reads H change old new same holds =
    subst (λ (o : Option Image). OfTree o old.geometry H) (ap (option_map (changed change)) same.content)
    (subst (λ (g : Geometry). OfTree (option_map (changed change) new.content) g H) same.geometry holds)

-- no number in the record of an inode is wrong
pub right_numbers : (g : Geometry) (blocks : Blocks) (tree : Tree) (hands : List Hand) (i : ℕ) → StandsFor g blocks tree hands → has_bad_numbers g (reading_of g blocks) i ≡ false
right_numbers g blocks tree hands i stands = stored_numbers g (reading_of g blocks) hands i ((in_parts g blocks hands).0 stands.sound).0

-- what is answered of a tree whose numbers are right
pub of_answer : (P : Tree → Type 0) (content : Option Image) (g : Geometry) (i : ℕ)
    → IfSome content (λ image. has_bad_numbers g (reading_of g (block image)) i ≡ false → P (tree_of g (block image))) → OfTree content g P
of_answer P None g i answers = tt
of_answer P (Some image) g i answers = λ tree hands stands. subst P stands.stands (answers (right_numbers g (block image) tree hands i stands))
