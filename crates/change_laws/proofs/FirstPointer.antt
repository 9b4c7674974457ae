-- A held block that a directory claims as the first one by a pointer block, which was held too.
use Rattle.std.proofs.Common.{◌≡◌, ◌<◌, ℕ, ◌+◌, ◌*◌, eqb, Bool, true, false, not, ◌&&◌, ◌||◌, cond, List, [], ◌∷◌, ◌++◌, length, map, take, set, replicate, slice_index, Some, refl, sym, ap, ◌∙◌, subst, arith}
use Rattle.std.specs.Prelude.{◌==◌, nat_lt}
use Rattle.std.specs.List.{filter, list_all}
use Rattle.std.proofs.lemmas.Bool.{and_parts, or_right, cond-true, cond-false, lt-ltb}
use Rattle.std.proofs.lemmas.List.{set-append_right}
use Rattle.lufs_base.specs.Layout.{IsGeometry}
use Rattle.lufs_base.specs.declared.geometry.Geometry.{Geometry}
use Rattle.volume_model.specs.declared.inode.Dinode.{Dinode}
use Rattle.volume_model.specs.declared.directory.Slot.{Slot}
use Rattle.volume_model.specs.declared.hand.Hand.{Hand}
use Rattle.volume_model.specs.Format.{Blocks, is_body, chunk_of, pointers_of}
use Rattle.volume_model.specs.Sound.{UsedInode, reading_of, used_inode, used_at, numbers_of, pointers_at, size_in_blocks, IsStored, DirectoryNode, Directory, with_node, attributes_of, tree_of}
use Rattle.volume_laws.proofs.TreeClaims.{direct_size}
use Rattle.volume_laws.proofs.BodyChanges.{has_record}
use Rattle.change_laws.specs.Hands.{times}
use Rattle.change_laws.specs.Exchange.{claimed_blocks}
use Rattle.change_laws.specs.Plans.{WritesRecord, GrowsByChunk, HoldMore}
use Rattle.change_laws.proofs.Counts.{times-cons}
use Rattle.change_laws.proofs.ClaimedBlocks.{claims_one, blocks_claimed}
use Rattle.change_laws.proofs.NewInodes.{body_number}
use Rattle.change_laws.proofs.Extended.{ClaimsMore, bodies_held, times_attached, length_attached}
use Rattle.change_laws.proofs.DirectoryGrowth.{chunks_of_directory}
use Rattle.change_laws.proofs.GrowthSteps.{attached_tree, attached_stored}
use Rattle.change_laws.proofs.NextBlock.{next_is_empty, next_within, no_pointer}

-- the first block by a pointer block
module _ (g : Geometry) (blocks others : Blocks) (i p b : ℕ) (u : UsedInode) (d : Dinode) (directory : DirectoryNode) (slots : List Slot) (hands after : List Hand) (ok : IsGeometry g)
    (stored : IsStored g (reading_of g blocks) hands) (used : used_at (reading_of g blocks) i ≡ Some u) (stands : tree_of g blocks i ≡ Some (Directory directory))
    (writes : WritesRecord g blocks others i (Some d)) (grows : GrowsByChunk u.inode d) (direct : d.direct ≡ u.inode.direct) (indirect : slice_index d.indirect 0 ≡ p)
    (count : d.blocks ≡ u.inode.blocks + 2) (eight : length directory.chunks ≡ 8 * 12) (held : HoldMore hands after [] (p ∷ (b ∷ [])))
    (row : pointers_of (others p) ≡ b ∷ replicate 1023 0) (there : chunk_of (take 512 (others b)) ≡ Some slots) where
  both : (is_body g p ≡ true) × (is_body g b ≡ true)
  both =
      let first = and_parts (is_body g p) (list_all (is_body g) (b ∷ [])) (bodies_held g (reading_of g blocks) hands after [] (p ∷ (b ∷ [])) stored held) in
      (first.0, (and_parts (is_body g b) true first.1).0)

  some_pointer : eqb p 0 ≡ false
  some_pointer = body_number g p ok both.0

  some : eqb b 0 ≡ false
  some = body_number g b ok both.1

  none : (slice_index u.inode.indirect 0 == 0) ≡ true
  none = no_pointer g blocks i 12 u directory hands stored used stands eight refl

  within : 12 < length u.numbers
  within = next_within g blocks i 12 u directory hands stored used stands eight (omega arith)

  numbers : numbers_of others d ≡ set u.numbers 12 b
  numbers =
      let has = has_record g blocks i u used in
      let e = has.dinode in
      let size : length e.direct ≡ 12 = direct_size g.version _ e has.there in
      let zeros : List ℕ = replicate 1024 0 in
      let new : pointers_at others (slice_index d.indirect 0) ≡ b ∷ replicate 1023 0 =
      ap (pointers_at others) indirect ∙ cond-false (eqb p 0) zeros (pointers_of (others p)) some_pointer ∙ row in
      subst (λ (v : UsedInode). d.direct ≡ v.inode.direct → (slice_index v.inode.indirect 0 == 0) ≡ true → numbers_of others d ≡ set v.numbers 12 b) has.leads (λ first empty.
      let old : pointers_at blocks (slice_index e.indirect 0) ≡ zeros =
      cond-true (eqb (slice_index e.indirect 0) 0) zeros (pointers_of (blocks (slice_index e.indirect 0))) empty in
      (λ t. first t ++ (new t ++ []))
      ∙ sym (ap (λ (l : List ℕ). set (e.direct ++ (l ++ [])) 12 b) old ∙ set-append_right e.direct (zeros ++ []) 12 12 b size (omega arith))) direct none

  pointers_before : map (λ q. q.block) u.pointers ≡ slice_index u.inode.indirect 0 ∷ []
  pointers_before =
      let has = has_record g blocks i u used in
      subst (λ (v : UsedInode). map (λ q. q.block) v.pointers ≡ slice_index v.inode.indirect 0 ∷ []) has.leads refl

  claims : ClaimsMore i u (used_inode others d) (p ∷ (b ∷ []))
  claims =
      let v = used_inode others d in
      let empty = next_is_empty g blocks i 12 u directory hands stored used stands eight in
      let more : List ℕ = filter claims_one (set u.numbers 12 b) in
      let rest : List ℕ = filter claims_one u.numbers in
      let new : claimed_blocks i (Some v) ≡ p ∷ more =
      blocks_claimed i v ∙ (λ t. filter claims_one (indirect t ∷ numbers t)) ∙ ap (λ (s : Bool). cond (not s) (p ∷ more) more) some_pointer in
      let old : claimed_blocks i (Some u) ≡ rest =
      blocks_claimed i u ∙ ap (λ (l : List ℕ). filter claims_one (l ++ u.numbers)) pointers_before
      ∙ ap (λ (s : Bool). cond (not s) (slice_index u.inode.indirect 0 ∷ rest) rest) none in
      record {
        blocks = λ x. omega (
          arith,
          ap (times x) new,
          ap (times x) old,
          times-cons x p more,
          times-cons x p (b ∷ []),
          times_attached u.numbers 12 b within empty some x,
        );
        count = omega (arith, ap length new, ap length old, length_attached u.numbers 12 b within empty some);
      }

  pub pointer_tree : tree_of g others ≡ with_node (tree_of g blocks) i (Some (Directory (record { attributes = attributes_of d; chunks = directory.chunks ++ (slots ∷ []) })))
  pointer_tree = attached_tree g blocks others i u d directory slots hands ok stored used stands writes grows 12 b (p ∷ (b ∷ [])) after eight some there numbers within

  pub pointer_stored : IsStored g (reading_of g others) after
  pointer_stored =
      let counts = chunks_of_directory g blocks i u directory hands stored used stands in
      let past : nat_lt 12 (size_in_blocks d.size) ≡ true = lt-ltb 12 (size_in_blocks d.size) (omega (arith, grows.size, counts.size, eight)) in
      let needed : ((slice_index d.indirect 0 == 0 || nat_lt 12 (size_in_blocks d.size)) && true) ≡ true =
      ap (λ (t : Bool). t && true) (or_right (slice_index d.indirect 0 == 0) (nat_lt 12 (size_in_blocks d.size)) past) in
      attached_stored g blocks others i u d directory slots hands ok stored used stands writes grows 12 b (p ∷ (b ∷ [])) after eight some there numbers within claims (omega arith) needed count held
