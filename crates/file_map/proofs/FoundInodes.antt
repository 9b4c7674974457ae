-- An inode that was asked for is what the records of the volume say of it.
use Rattle.std.proofs.Common.{◌≡◌, ◌<◌, ◌≤◌, inl, inr, ℕ, eqb, Bool, true, false, not, ◌&&◌, if◌then◌else◌, List, [], map, take, slice_index, Option, Some, None, Result, Ok, Err, IfSome, IfOk, refl, sym, ap, subst, ◌∙◌, arith}
use Rattle.std.specs.Prelude.{nat_lt}
use Rattle.std.specs.Option.{option_map, option_map_or, option_and_then, option_flatten}
use Rattle.std.proofs.lemmas.Option.{slice_get_past}
use Rattle.std.proofs.lemmas.Bool.{cases_Bool, not-false, not-true, not_from_false, eq-eqb, lt-ltb, false≢true}
use Rattle.lufs_base.specs.Layout.{blocks_of}
use Rattle.lufs_base.specs.declared.geometry.Geometry.{Geometry}
use Rattle.volume_model.specs.declared.inode.Dinode.{Dinode}
use Rattle.volume_model.specs.Format.{Blocks, Image, block, inodes_of}
use Rattle.volume_model.specs.Sound.{UsedInode, InodeState, used_of, state_of, used_inode, reading_of, used_at, inode_at, numbers_of, has_right_numbers, has_bad_numbers}
use Rattle.volume_laws.proofs.ClaimFacts.{length-inodes, used_in_volume}
use Rattle.block_numbers.proofs.RightNumbers.{numbers_inside, pointer_inside}
use Rattle.file_map.specs.Mapped.{numbered, numbered_within, block_mapped}

of_state : (blocks : Blocks) (o : Option (Option Dinode)) → option_map (used_inode blocks) (option_flatten o) ≡ used_of (state_of blocks o)
of_state blocks None = refl
of_state blocks (Some None) = refl
of_state blocks (Some (Some d)) = refl

-- an inode of the volume that was read
pub read_is : (content : Option Image) (g : Geometry) (i : ℕ) (found : Option Dinode) → i < inodes_of g
    → IfSome content (λ image. found ≡ option_flatten (inode_at g (block image) i))
    → IfSome content (λ image. option_map (used_inode (block image)) found ≡ used_at (reading_of g (block image)) i)
read_is None g i found within read = tt
read_is (Some image) g i found within read =
    ap (option_map (used_inode (block image))) read ∙ of_state (block image) (inode_at g (block image) i) ∙ sym (used_in_volume g (block image) i within)

-- one that the volume doesn't have isn't in use
pub unused_past : (content : Option Image) (g : Geometry) (i : ℕ) → inodes_of g ≤ i
    → IfSome content (λ image. ◌≡◌ {A = Option UsedInode} None (used_at (reading_of g (block image)) i))
unused_past None g i past = tt
unused_past (Some image) g i past =
    sym (ap (λ (o : Option InodeState). option_and_then used_of o) (slice_get_past (reading_of g (block image)).inodes i (omega (arith, past, length-inodes g (block image)))))

-- the numbers of an inode in use, where none is wrong
pub numbers_right : (g : Geometry) (blocks : Blocks) (i : ℕ) (u : UsedInode) → used_at (reading_of g blocks) i ≡ Some u → has_bad_numbers g (reading_of g blocks) i ≡ false
    → has_right_numbers g i u ≡ true
numbers_right g blocks i u used right =
    not-false (has_right_numbers g i u) (subst (λ (o : Option UsedInode). option_map_or (λ v. not (has_right_numbers g i v)) o false ≡ false) used right)

-- a number of the volume
within_is : (total number : ℕ) → number < total → numbered_within total number ≡ numbered number
within_is total number below = elim (cases_Bool (eqb number 0)) [
  | inl none ↦
      ap (λ (b : Bool). if not b && nat_lt number total then Some number else None) none
      ∙ sym (ap (λ (b : Bool). if b then None else Some number) none)
  | inr some ↦
      ap (λ (b : Bool). if not b && nat_lt number total then Some number else None) some
      ∙ ap (λ (b : Bool). if b then Some number else None) (lt-ltb number total below)
      ∙ sym (ap (λ (b : Bool). if b then None else Some number) some)
]

-- what isn't in use has no block
pub none_mapped : (content : Option Image) (g : Geometry) (i index : ℕ) (found : Option Dinode) → found ≡ None
    → IfSome content (λ image. option_map (used_inode (block image)) found ≡ used_at (reading_of g (block image)) i)
    → IfSome content (λ image. has_bad_numbers g (reading_of g (block image)) i ≡ false → ◌≡◌ {A = Option ℕ} None (block_mapped (reading_of g (block image)) i index))
none_mapped None g i index found none read = tt
none_mapped (Some image) g i index found none read = λ right.
    sym (ap (λ (o : Option UsedInode). option_and_then (λ u. numbered (slice_index u.numbers index)) o)
    (sym read ∙ ap (option_map (used_inode (block image))) none))

-- the block of an inode in use, by the numbers that were read
pub some_mapped : (content now : Option Image) (g h : Geometry) (i index count : ℕ) (found : Option Dinode) (d : Dinode) (numbers : List ℕ) (answer : Option ℕ) → 0 < blocks_of g
    → found ≡ Some d → h ≡ g → now ≡ content → index < count
    → IfSome content (λ image. option_map (used_inode (block image)) found ≡ used_at (reading_of g (block image)) i)
    → IfSome now (λ image. slice_index d.indirect 0 < blocks_of h → (k : ℕ) → k < count → slice_index numbers k ≡ slice_index (numbers_of (block image) d) k)
    → answer ≡ numbered_within (blocks_of g) (slice_index numbers index)
    → IfSome content (λ image. has_bad_numbers g (reading_of g (block image)) i ≡ false → answer ≡ block_mapped (reading_of g (block image)) i index)
some_mapped None now g h i index count found d numbers answer some is geometry same below used read given = tt
some_mapped (Some image) now g h i index count found d numbers answer some is geometry same below used read given = λ right.
    let blocks = block image in
    let u = used_inode blocks d in
    let there : used_at (reading_of g blocks) i ≡ Some u = sym used ∙ ap (option_map (used_inode blocks)) is in
    let numbers_ok = numbers_right g blocks i u there right in
    let inside : slice_index d.indirect 0 < blocks_of h = subst (λ (k : Geometry). slice_index d.indirect 0 < blocks_of k) (sym geometry) (pointer_inside g i blocks d numbers_ok some) in
    let here = subst (λ (o : Option Image). IfSome o (λ image. slice_index d.indirect 0 < blocks_of h → (k : ℕ) → k < count → slice_index numbers k ≡ slice_index (numbers_of (block image) d) k)) same read in
    let number_is : slice_index numbers index ≡ slice_index (numbers_of blocks d) index = here inside index below in
    given ∙ ap (numbered_within (blocks_of g)) number_is
    ∙ within_is (blocks_of g) (slice_index (numbers_of blocks d) index) (numbers_inside g i u numbers_ok some index)
    ∙ sym (ap (λ (o : Option UsedInode). option_and_then (λ v. numbered (slice_index v.numbers index)) o) there)
