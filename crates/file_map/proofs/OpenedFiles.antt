-- A file of a draft with its record, and what follows of that.
use Rattle.std.proofs.Common.{◌≡◌, ◌≤◌, ℕ, suc, ◌+◌, eqb, Bool, not, List, [], ◌∷◌, ◌++◌, length, map, Option, Some, None, refl, sym, ap, ◌∙◌, arith}
use Rattle.std.specs.Option.{option_map}
use Rattle.std.proofs.lemmas.List.{length-append, length-map}
use Rattle.std.proofs.lemmas.List.Sums.{length-filter, count_by-le-length}
use Rattle.lufs_base.specs.declared.geometry.Geometry.{Geometry}
use Rattle.volume_model.specs.declared.hand.Hand.{Hand}
use Rattle.volume_model.specs.declared.inode.Dinode.{Dinode}
use Rattle.volume_model.specs.Format.{Image, Blocks, IsDinode}
use Rattle.volume_model.specs.Sound.{UsedInode, reading_of, used_at, used_inode, NamedPointer, Claim, index_claims, pointer_claim, IsStored, FileNode, Node, File, node_of, tree_of}
use Rattle.volume_laws.proofs.StoredClaims.{right_numbers}
use Rattle.volume_laws.proofs.FieldFacts.{count_of_numbers, HasRightFields, fields_of_numbers}
use Rattle.volume_laws.proofs.NumberChange.{numbers_of_used}
use Rattle.change_laws.specs.Plans.{HasInode}
use Rattle.change_laws.proofs.FileNodes.{IsFileOf, file_of_tree}
use Rattle.change_laws.proofs.NumberReads.{pointer_blocks}
use Rattle.meta_store.specs.declared.change.Change.{Change}
use Rattle.meta_draft.specs.Drafted.{drafted_blocks}
use Rattle.draft_laws.specs.Drafts.{IsDraft, links_at}

length-index_claims : (i a : ℕ) (numbers : List ℕ) → length (index_claims i a numbers) ≡ length numbers
length-index_claims i a [] = refl
length-index_claims i a (n ∷ numbers) = ap (λ (k : ℕ). suc k) (length-index_claims i (a + 1) numbers)

-- an inode has few blocks
few_blocks : (g : Geometry) (blocks : Blocks) (hands : List Hand) (i : ℕ) (u : UsedInode) → IsStored g (reading_of g blocks) hands → used_at (reading_of g blocks) i ≡ Some u → u.inode.blocks ≤ 1037
few_blocks g blocks hands i u stored used =
    let all = map (pointer_claim i) u.pointers ++ index_claims i 0 u.numbers in
    let test : Claim → Bool = λ claim. not (eqb claim.block 0) in
    let count = count_of_numbers g i u (right_numbers g (reading_of g blocks) i u hands stored used) in
    let both = length-append (map (pointer_claim i) u.pointers) (index_claims i 0 u.numbers) in
    let mapped = length-map u.pointers (pointer_claim i) in
    let one : length u.pointers ≡ 1 = ap (λ (l : List NamedPointer). length l) (pointer_blocks g blocks i u used) in
    omega (arith, count, length-filter test all, count_by-le-length test all, both, mapped, one, length-index_claims i 0 u.numbers, numbers_of_used g blocks i u used)

-- inode i is this file, and has this record
pub record IsOpened (g : Geometry) (blocks : Blocks) (hands : List Hand) (i : ℕ) (d : Dinode) (file : FileNode) : Type 0 where
  pub has : HasInode g blocks hands i (used_inode blocks d) (File file)
  pub dinode : IsDinode g.version d
  pub few : d.blocks ≤ 1037
  pub fields : HasRightFields g i (used_inode blocks d)
  pub is : IsFileOf blocks (used_inode blocks d) file
  pub links : ◌≡◌ {A = Option ℕ} (Some d.links) (links_at g blocks i)

pub opened : (g : Geometry) (base : Image) (taken : ℕ → Bool) (change : Change) (hands : List Hand) (i : ℕ) (d : Dinode) (file : FileNode) → IsDraft g base taken change hands → IsDinode g.version d
    → used_at (reading_of g (drafted_blocks change base)) i ≡ Some (used_inode (drafted_blocks change base) d) → tree_of g (drafted_blocks change base) i ≡ Some (File file)
    → IsOpened g (drafted_blocks change base) hands i d file
opened g base taken change hands i d file draft is used stands =
    let blocks = drafted_blocks change base in
    let u = used_inode blocks d in
    record {
      has = record { geometry = draft.geometry; stored = draft.stored; used = used; stands = stands };
      dinode = is;
      few = few_blocks g blocks hands i u draft.stored used;
      fields = fields_of_numbers g i u (right_numbers g (reading_of g blocks) i u hands draft.stored used);
      is = file_of_tree g blocks i u file used stands;
      links = sym (ap (option_map (λ (v : UsedInode). v.inode.links)) used);
    }

-- what isn't in use is no file
pub no_file : (g : Geometry) (blocks : Blocks) (i : ℕ) (file : FileNode) → ◌≡◌ {A = Option UsedInode} None (used_at (reading_of g blocks) i) → tree_of g blocks i ≡ Some (File file) → ⊥
unfolding tree_of
no_file g blocks i file unused stands =
    let both : ◌≡◌ {A = Option Node} None (Some (File file)) = ap (option_map (node_of blocks)) unused ∙ stands in
    absurd (cc)
