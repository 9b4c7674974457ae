-- A held block that a directory claims as its next direct one.
use Rattle.std.proofs.Common.{◌≡◌, ◌<◌, ℕ, ◌+◌, ◌*◌, eqb, true, false, ◌||◌, List, [], ◌∷◌, ◌++◌, length, take, set, slice_index, Some, sym, ap, ◌∙◌, subst, arith}
use Rattle.std.specs.Prelude.{◌==◌, nat_lt}
use Rattle.std.specs.List.{list_all}
use Rattle.std.proofs.lemmas.Bool.{and_parts}
use Rattle.std.proofs.lemmas.List.{set-append_left}
use Rattle.lufs_base.specs.Layout.{IsGeometry}
use Rattle.lufs_base.specs.declared.geometry.Geometry.{Geometry}
use Rattle.volume_model.specs.declared.inode.Dinode.{Dinode}
use Rattle.volume_model.specs.declared.directory.Slot.{Slot}
use Rattle.volume_model.specs.declared.hand.Hand.{Hand}
use Rattle.volume_model.specs.Format.{Blocks, is_body, chunk_of}
use Rattle.volume_model.specs.Sound.{Single, UsedInode, reading_of, used_inode, used_at, named_pointers, numbers_of, pointers_at, size_in_blocks, first_index, IsLaid, IsStored, DirectoryNode, Directory, with_node, attributes_of, tree_of}
use Rattle.volume_laws.proofs.StoredClaims.{stored_is_laid}
use Rattle.volume_laws.proofs.TreeClaims.{direct_size}
use Rattle.volume_laws.proofs.BodyChanges.{has_record}
use Rattle.change_laws.specs.Plans.{WritesRecord, GrowsByChunk, HoldMore}
use Rattle.change_laws.proofs.RecordReads.{numbers_stay}
use Rattle.change_laws.proofs.NewInodes.{body_number}
use Rattle.change_laws.proofs.Extended.{bodies_held}
use Rattle.change_laws.proofs.GrowthSteps.{one_more_claim, attached_tree, attached_stored}
use Rattle.change_laws.proofs.NextBlock.{next_is_empty, next_within, pointers_stay_needed}

-- the next direct block
module _ (g : Geometry) (blocks others : Blocks) (i k b : ℕ) (u : UsedInode) (d : Dinode) (directory : DirectoryNode) (slots : List Slot) (hands after : List Hand) (ok : IsGeometry g)
    (stored : IsStored g (reading_of g blocks) hands) (used : used_at (reading_of g blocks) i ≡ Some u) (stands : tree_of g blocks i ≡ Some (Directory directory))
    (writes : WritesRecord g blocks others i (Some d)) (grows : GrowsByChunk u.inode d) (direct : d.direct ≡ set u.inode.direct k b) (indirect : d.indirect ≡ u.inode.indirect)
    (count : d.blocks ≡ u.inode.blocks + 1) (below : k < 12) (eight : length directory.chunks ≡ 8 * k) (held : HoldMore hands after [] (b ∷ []))
    (there : chunk_of (take 512 (others b)) ≡ Some slots) where
  laid : IsLaid g (reading_of g blocks)
  laid = stored_is_laid g (reading_of g blocks) hands stored

  some : eqb b 0 ≡ false
  some = body_number g b ok (and_parts (is_body g b) true (bodies_held g (reading_of g blocks) hands after [] (b ∷ []) stored held)).0

  within : k < length u.numbers
  within = next_within g blocks i k u directory hands stored used stands eight (omega (arith, below))

  numbers : numbers_of others d ≡ set u.numbers k b
  numbers =
      let has = has_record g blocks i u used in
      let e = has.dinode in
      let rest = pointers_at others (slice_index e.indirect 0) ++ [] in
      let size : length e.direct ≡ 12 = direct_size g.version _ e has.there in
      subst (λ (v : UsedInode). d.direct ≡ set v.inode.direct k b → d.indirect ≡ v.inode.indirect → numbers_of others d ≡ set v.numbers k b) has.leads (λ first second.
      (λ t. first t ++ (pointers_at others (slice_index (second t) 0) ++ []))
      ∙ sym (set-append_left e.direct rest k b (omega (arith, below, size)))
      ∙ ap (λ (l : List ℕ). set l k b) (numbers_stay g blocks others ok laid i writes.within writes.agree e has.there)) direct indirect

  pointers : named_pointers d ≡ u.pointers
  pointers =
      let has = has_record g blocks i u used in
      subst (λ (v : UsedInode). d.indirect ≡ v.inode.indirect → named_pointers d ≡ v.pointers) has.leads
      (λ same t. record { name = Single; block = slice_index (same t) 0 } ∷ []) indirect

  pub direct_tree : tree_of g others ≡ with_node (tree_of g blocks) i (Some (Directory (record { attributes = attributes_of d; chunks = directory.chunks ++ (slots ∷ []) })))
  direct_tree = attached_tree g blocks others i u d directory slots hands ok stored used stands writes grows k b (b ∷ []) after eight some there numbers within

  pub direct_stored : IsStored g (reading_of g others) after
  direct_stored =
      let v = used_inode others d in
      let more = one_more_claim i k b u v numbers pointers within (next_is_empty g blocks i k u directory hands stored used stands eight) some in
      let needed = (λ t. list_all (λ p. p.block == 0 || nat_lt (first_index p.name) (size_in_blocks d.size)) (pointers t))
      ∙ pointers_stay_needed g blocks i k u directory hands stored used stands eight d grows in
      attached_stored g blocks others i u d directory slots hands ok stored used stands writes grows k b (b ∷ []) after eight some there numbers within more (omega (arith, below)) needed count held
