-- What is known of a file that got a block, where the content is told.
use Rattle.std.proofs.Common.{◌≡◌, ◌≢◌, ℕ, suc, ◌/◌, eqb, Bool, true, false, not, ◌&&◌, cond, if◌then◌else◌, List, [], ◌∷◌, length, map, take, slice_index, Option, Some, None, IfSome, refl, sym, ap, subst, ◌∙◌, arith}
use Rattle.std.specs.Prelude.{nat_le}
use Rattle.std.specs.List.{filter}
use Rattle.std.specs.Option.{option_map}
use Rattle.std.proofs.lemmas.Bool.{le-leb}
use Rattle.lufs_base.specs.Layout.{inode_address}
use Rattle.lufs_base.specs.declared.geometry.Geometry.{Geometry}
use Rattle.volume_model.specs.declared.hand.Hand.{Hand}
use Rattle.volume_model.specs.Format.{Image, Blocks}
use Rattle.volume_model.specs.Sound.{Single, NamedPointer, PointerName, UsedInode, reading_of, used_at, pointer_names, FileNode, File, node_of, tree_of}
use Rattle.change_laws.proofs.FileNodes.{file_of_tree}
use Rattle.change_laws.proofs.NumberReads.{pointer_blocks}
use Rattle.meta_store.specs.declared.change.Change.{Change}
use Rattle.meta_draft.specs.Drafted.{drafted_blocks}
use Rattle.draft_laws.specs.Drafts.{IsDraft, Draws, links_at}
use Rattle.file_map.specs.Attached.{with_block_at, HasPlaceFor, MayGetBlock, LeavesAllBut}
use Rattle.file_map.proofs.AttachedBlocks.{BlockTold, PointersTold}
use Rattle.file_map.proofs.AttachedBoth.{lacks, place, both_drawn}
use Rattle.file_map.proofs.AttachedNumbers.{one_named}

abbrev pub AttachedTold : Option Image → Geometry → (old new : Change) → (i index b : ℕ) → (pointers : List ℕ) → Type 0
AttachedTold content g old new i index b pointers =
    IfSome content (λ base. (taken : ℕ → Bool) (hands after : List Hand) (file : FileNode) → IsDraft g base taken old hands → MayGetBlock g base taken old i index b pointers hands after file
    → Draws g base taken old new i (Some (File (with_block_at file index (take 4096 (drafted_blocks old base b))))) (links_at g (drafted_blocks old base) i) after)

-- a file of the tree that has a pointer block has just the one
pub one_pointer : (g : Geometry) (blocks : Blocks) (i : ℕ) (file : FileNode) → tree_of g blocks i ≡ Some (File file) → eqb (length file.pointers) 0 ≡ false → file.pointers ≡ Single ∷ []
unfolding tree_of
one_pointer g blocks i file stands some = by_inode (used_at (reading_of g blocks) i) refl stands
  where
    by_inode : (o : Option UsedInode) → used_at (reading_of g blocks) i ≡ o → option_map (node_of blocks) o ≡ Some (File file) → file.pointers ≡ Single ∷ []
    by_inode None is both = absurd (cc)
    by_inode (Some u) is both =
        let names : file.pointers ≡ pointer_names u = ap (λ (f : FileNode). f.pointers) (file_of_tree g blocks i u file is stands).same in
        let pointer : NamedPointer = record { name = Single; block = slice_index u.inode.indirect 0 } in
        let its = pointer_blocks g blocks i u is in
        let named : pointer_names u ≡ map (λ p. p.name) (cond (not (eqb pointer.block 0)) (pointer ∷ []) []) =
        ap (λ (l : List NamedPointer). map (λ p. p.name) (filter (λ p. not (eqb p.block 0)) l)) its in
        names ∙ named ∙ one_named (eqb pointer.block 0) pointer refl (sym (ap (λ (l : List PointerName). eqb (length l) 0) (names ∙ named)) ∙ some)

none_lacking : (t : Bool) → ◌≡◌ {A = ℕ} 0 (if t then 1 else 0) → t ≡ false
none_lacking true same = absurd (omega (arith, same))
none_lacking false same = refl

lacks_few : (t : Bool) (n : ℕ) → ◌≡◌ {A = ℕ} (suc (suc n)) (if t then 1 else 0) → ⊥
lacks_few true n same = omega (arith, same)
lacks_few false n same = omega (arith, same)

place_alone : (g : Geometry) (base : Image) (taken : ℕ → Bool) (old : Change) (i index b : ℕ) (hands after : List Hand) (file : FileNode) → MayGetBlock g base taken old i index b [] hands after file
    → HasPlaceFor g base taken old i index b hands after file
place_alone g base taken old i index b hands after file may = record {
  stands = may.stands;
  below = may.below;
  hole = may.hole;
  pointers = λ high. (
      let none = none_lacking (nat_le 12 index && eqb (length file.pointers) 0) may.lacking in
      one_pointer g (drafted_blocks old base) i file may.stands (sym (ap (λ (t : Bool). t && eqb (length file.pointers) 0) (le-leb 12 index high)) ∙ none)
      );
  held = may.held;
  new = may.new;
}

-- without a pointer block
pub alone_told : (content : Option Image) (g : Geometry) (old new : Change) (i index b : ℕ) (pointers : List ℕ) → length pointers ≢ 1 → BlockTold content g old new i index b
    → AttachedTold content g old new i index b pointers
alone_told None g old new i index b pointers other block = tt
alone_told (Some base) g old new i index b [] other block = λ taken hands after file draft may.
    block taken hands after file draft (place_alone g base taken old i index b hands after file may)
alone_told (Some base) g old new i index b (p ∷ []) other block = absurd (other refl)
alone_told (Some base) g old new i index b (p ∷ (q ∷ more)) other block = λ taken hands after file draft may.
    absurd (lacks_few (nat_le 12 index && eqb (length file.pointers) 0) (length more) may.lacking)

-- with one
pub both_told : (content now : Option Image) (g h : Geometry) (old middle new : Change) (i index b p : ℕ) → now ≡ content → h ≡ g → PointersTold content g old middle i p
    → LeavesAllBut p (inode_address g i / 4096) old middle → BlockTold now h middle new i index b → AttachedTold content g old new i index b (p ∷ [])
both_told None now g h old middle new i index b p same geometry first leaves second = tt
both_told (Some base) now g h old middle new i index b p same geometry first leaves second = λ taken hands after file draft may.
    let second_now = subst (λ (o : Option Image). BlockTold o g middle new i index b) same (subst (λ (k : Geometry). BlockTold now k middle new i index b) geometry second) in
    let its = first taken hands _ file draft (lacks g base taken old middle new hands after i index b p file draft may) in
    both_drawn g base taken old middle new hands after i index b p file draft may its leaves
    (second_now taken _ after _ its.draft (place g base taken old middle new hands after i index b p file draft may its))
