-- The steps of a file that write its record alone: more indexes, a direct block, and a pointer block.
use Rattle.std.proofs.Common.{◌≡◌, ◌<◌, ◌≤◌, ℕ, ◌+◌, ◌-◌, ◌*◌, ◌/◌, Bool, true, not, ◌&&◌, ◌||◌, cond, List, [], ◌∷◌, ◌++◌, length, map, take, drop, set, replicate, slice_index, Option, Some, None, refl, sym, ap, ◌∙◌, arith}
use Rattle.std.specs.Prelude.{◌==◌, nat_lt}
use Rattle.std.specs.List.{filter, list_all, range_with_len}
use Rattle.std.proofs.lemmas.Bool.{and_parts, or_right, eq-eqb, lt-ltb}
use Rattle.lufs_base.specs.Fields.{are_zeros}
use Rattle.lufs_base.specs.declared.geometry.Geometry.{Geometry}
use Rattle.volume_model.specs.declared.inode.Dinode.{Dinode}
use Rattle.volume_model.specs.declared.hand.Hand.{Hand}
use Rattle.volume_model.specs.Format.{Blocks, is_body, is_file, pointers_of}
use Rattle.volume_model.specs.Sound.{NamedPointer, Single, UsedInode, InUse, reading_of, state_at, used_inode, named_pointers, numbers_of, size_in_blocks, first_index, most_blocks, IsLaid, FileNode, File, with_node, attributes_of, file_block, file_blocks, pointer_names, tree_of}
use Rattle.volume_laws.specs.Changes.{with_state, with_block}
use Rattle.volume_laws.proofs.FieldFacts.{HasRightFields, fields_of_numbers}
use Rattle.volume_laws.proofs.StoredClaims.{right_numbers, stored_is_laid}
use Rattle.volume_laws.proofs.NumberChange.{numbers_of_used}
use Rattle.change_laws.specs.Hands.{times}
use Rattle.change_laws.specs.Exchange.{claimed_blocks}
use Rattle.change_laws.specs.Plans.{HasInode, ChangesInode, OnlyInodeChanges, WritesRecord, HoldMore}
use Rattle.change_laws.proofs.Counts.{times-cons}
use Rattle.change_laws.proofs.InodeWrites.{written_record}
use Rattle.change_laws.proofs.InodeRights.{same_file}
use Rattle.change_laws.proofs.RecordReads.{state_written, same_old_node}
use Rattle.change_laws.proofs.NumberReads.{same_pointers, same_numbers, numbers_with_direct, numbers_by_pointer, numbers_without_pointer, pointer_blocks}
use Rattle.change_laws.proofs.ClaimedBlocks.{claims_one, blocks_claimed}
use Rattle.change_laws.proofs.NewInodes.{body_number}
use Rattle.change_laws.proofs.Extended.{ClaimsMore, bodies_held, zero_at}
use Rattle.change_laws.proofs.GrowthSteps.{same_claims, one_more_claim}
use Rattle.change_laws.proofs.NextBlock.{still_needed}
use Rattle.change_laws.proofs.FileNodes.{IsFileOf, file_of_tree, blocks_by_node, blocks_attached, blocks_lengthened}
use Rattle.change_laws.proofs.FilePlaces.{file_places, file_fits, past_attached, past_larger, file_stored_with, file_tree_with}

-- the names of the same pointer blocks
pub same_names : (blocks : Blocks) (u : UsedInode) (d : Dinode) → named_pointers d ≡ u.pointers → pointer_names (used_inode blocks d) ≡ pointer_names u
same_names blocks u d same = ap (λ (l : List NamedPointer). map (λ p. p.name) (filter (λ p. not (p.block == 0)) l)) same

module _ (g : Geometry) (blocks others : Blocks) (i : ℕ) (u : UsedInode) (d : Dinode) (file : FileNode) (hands : List Hand) (has : HasInode g blocks hands i u (File file))
    (writes : WritesRecord g blocks others i (Some d)) (type : d.mode / 512 ≡ u.inode.mode / 512) where
  laid : IsLaid g (reading_of g blocks)
  laid = stored_is_laid g (reading_of g blocks) hands has.stored

  only : OnlyInodeChanges g blocks others i
  only = written_record g blocks others i has.geometry writes.within laid writes.agree

  state : state_at g others i ≡ InUse (used_inode others d)
  state = state_written g blocks others has.geometry laid i d writes

  reading : reading_of g others ≡ with_state (reading_of g blocks) i (InUse (used_inode others d))
  reading = only.reading ∙ ap (with_state (reading_of g blocks) i) state

  was : IsFileOf blocks u file
  was = file_of_tree g blocks i u file has.used has.stands

  still : is_file d.mode ≡ true
  still = same_file d.mode u.inode.mode type ∙ was.is

  right : HasRightFields g i u
  right = fields_of_numbers g i u (right_numbers g (reading_of g blocks) i u hands has.stored has.used)

  same_blocks : file_blocks others u ≡ file_blocks blocks u
  same_blocks = blocks_by_node blocks others u was.is (same_old_node g blocks others has.geometry laid i d writes u has.used)

  pub lengthened : d.direct ≡ u.inode.direct → d.indirect ≡ u.inode.indirect → d.blocks ≡ u.inode.blocks → size_in_blocks u.inode.size ≤ size_in_blocks d.size
      → d.size ≤ 4096 * most_blocks g
      → ChangesInode g blocks others i (InUse (used_inode others d)) (Some (File (record file {
        attributes = attributes_of d;
        size = d.size;
        blocks = file.blocks ++ replicate (size_in_blocks d.size - size_in_blocks u.inode.size) None;
      }))) hands
  lengthened direct indirect count more few =
      let v = used_inode others d in
      let s = size_in_blocks u.inode.size in
      let t = size_in_blocks d.size in
      let numbers = same_numbers g blocks others has.geometry laid i u d has.used writes direct indirect in
      let pointers = same_pointers g blocks others has.geometry laid i u d has.used writes indirect in
      let past = ap (λ (l : List ℕ). are_zeros (drop t l)) numbers ∙ past_larger u.numbers s t more right.none_past in
      let needed = ap (list_all (λ p. p.block == 0 || nat_lt (first_index p.name) t)) pointers ∙ still_needed s t u.pointers more right.pointers_needed in
      let node : FileNode = record file { attributes = attributes_of d; size = d.size; blocks = file.blocks ++ replicate (t - s) None } in
      let bytes : file_blocks others v ≡ node.blocks =
      blocks_lengthened others u v numbers (λ index high. zero_at u.numbers s index right.none_past high) more
      ∙ ap (λ (l : List (Option (List ℕ))). l ++ replicate (t - s) None) (same_blocks ∙ ap (λ (f : FileNode). f.blocks) (sym was.same)) in
      record {
        reading = reading;
        stored = file_stored_with g blocks others i u d [] hands hands has.stored has.used only state still
            (same_claims i u v numbers pointers) (file_places g v still few past needed) (omega (arith, count)) (record { inodes = λ j. refl; blocks = λ b. refl });
        tree = file_tree_with g blocks others i u d [] hands hands has.stored has.used only state still node bytes
            (same_names others u d pointers ∙ ap (λ (f : FileNode). f.pointers) (sym was.same));
      }

  pub attached_direct : (k b : ℕ) (after : List Hand) → d.size ≡ u.inode.size → d.direct ≡ set u.inode.direct k b → d.indirect ≡ u.inode.indirect
      → d.blocks ≡ u.inode.blocks + 1 → k < 12 → k < size_in_blocks u.inode.size → slice_index u.numbers k ≡ 0 → HoldMore hands after [] (b ∷ [])
      → ChangesInode g blocks others i (InUse (used_inode others d))
      (Some (File (with_block (record file { attributes = attributes_of d }) k (Some (take 4096 (others b)))))) after
  attached_direct k b after size direct indirect count low below empty held =
      let v = used_inode others d in
      let s = size_in_blocks u.inode.size in
      let same : size_in_blocks d.size ≡ s = ap size_in_blocks size in
      let some = body_number g b has.geometry (and_parts (is_body g b) true (bodies_held g (reading_of g blocks) hands after [] (b ∷ []) has.stored held)).0 in
      let within : k < length u.numbers = omega (arith, low, numbers_of_used g blocks i u has.used) in
      let numbers = numbers_with_direct g blocks others has.geometry laid i u d has.used writes k b low direct indirect in
      let pointers = same_pointers g blocks others has.geometry laid i u d has.used writes indirect in
      let past = (λ t. are_zeros (drop (same t) (numbers t))) ∙ past_attached u.numbers s k b below right.none_past in
      let needed = (λ t. list_all (λ p. p.block == 0 || nat_lt (first_index p.name) (same t)) (pointers t)) ∙ right.pointers_needed in
      let few : d.size ≤ 4096 * most_blocks g = omega (arith, size, file_fits g u.inode was.is right.size) in
      let node : FileNode = record { attributes = attributes_of d; size = file.size; blocks = set file.blocks k (Some (take 4096 (others b))); pointers = file.pointers } in
      let bytes : file_blocks others v ≡ node.blocks =
      blocks_attached others u v k b numbers size below within some
      ∙ ap (λ (l : List (Option (List ℕ))). set l k (Some (take 4096 (others b)))) (same_blocks ∙ ap (λ (f : FileNode). f.blocks) (sym was.same)) in
      record {
        reading = reading;
        stored = file_stored_with g blocks others i u d (b ∷ []) hands after has.stored has.used only state still
            (one_more_claim i k b u v numbers pointers within empty some) (file_places g v still few past needed) count held;
        tree = file_tree_with g blocks others i u d (b ∷ []) hands after has.stored has.used only state still node bytes
            (same_names others u d pointers ∙ ap (λ (f : FileNode). f.pointers) (sym was.same))
            ∙ ap (λ (n : ℕ). with_node (tree_of g blocks) i (Some (File (record { attributes = attributes_of d; size = n; blocks = node.blocks; pointers = node.pointers }))))
            (size ∙ ap (λ (f : FileNode). f.size) (sym was.same));
      }

  pub attached_pointer : (p : ℕ) (after : List Hand) → d.size ≡ u.inode.size → d.direct ≡ u.inode.direct → slice_index u.inode.indirect 0 ≡ 0 → slice_index d.indirect 0 ≡ p
      → d.blocks ≡ u.inode.blocks + 1 → 12 < size_in_blocks u.inode.size → pointers_of (others p) ≡ replicate 1024 0 → HoldMore hands after [] (p ∷ [])
      → ChangesInode g blocks others i (InUse (used_inode others d)) (Some (File (record file { attributes = attributes_of d; pointers = Single ∷ [] }))) after
  attached_pointer p after size direct none indirect count above row held =
      let v = used_inode others d in
      let s = size_in_blocks u.inode.size in
      let same : size_in_blocks d.size ≡ s = ap size_in_blocks size in
      let some = body_number g p has.geometry (and_parts (is_body g p) true (bodies_held g (reading_of g blocks) hands after [] (p ∷ []) has.stored held)).0 in
      let empty : (slice_index u.inode.indirect 0 == 0) ≡ true = eq-eqb (slice_index u.inode.indirect 0) 0 none in
      let numbers : numbers_of others d ≡ u.numbers =
      numbers_by_pointer g blocks others has.geometry laid i u d has.used writes p (replicate 1024 0) direct indirect some row
      ∙ sym (numbers_without_pointer g blocks i u has.used empty) in
      let past = (λ t. are_zeros (drop (same t) (numbers t))) ∙ right.none_past in
      let needed : ((slice_index d.indirect 0 == 0 || nat_lt 12 (size_in_blocks d.size)) && true) ≡ true =
      ap (λ (t : Bool). t && true) (or_right (slice_index d.indirect 0 == 0) (nat_lt 12 (size_in_blocks d.size)) (lt-ltb 12 (size_in_blocks d.size) (omega (arith, same, above)))) in
      let few : d.size ≤ 4096 * most_blocks g = omega (arith, size, file_fits g u.inode was.is right.size) in
      let kept : List ℕ = filter claims_one u.numbers in
      let new : claimed_blocks i (Some v) ≡ p ∷ kept =
      blocks_claimed i v ∙ (λ t. filter claims_one (indirect t ∷ numbers t)) ∙ ap (λ (t : Bool). cond (not t) (p ∷ kept) kept) some in
      let old : claimed_blocks i (Some u) ≡ kept =
      blocks_claimed i u ∙ ap (λ (l : List NamedPointer). filter claims_one (map (λ q. q.block) l ++ u.numbers)) (pointer_blocks g blocks i u has.used)
      ∙ ap (λ (t : Bool). cond (not t) (slice_index u.inode.indirect 0 ∷ kept) kept) empty in
      let more : ClaimsMore i u v (p ∷ []) = record {
        blocks = λ x. omega (arith, ap (times x) new, ap (times x) old, times-cons x p kept, times-cons x p []);
        count = omega (arith, ap length new, ap length old);
      } in
      let names : pointer_names v ≡ Single ∷ [] =
      ap (λ (b : ℕ). map (λ (q : NamedPointer). q.name) (filter (λ (q : NamedPointer). not (q.block == 0)) (record { name = Single; block = b } ∷ []))) indirect
      ∙ ap (λ (t : Bool). map (λ (q : NamedPointer). q.name) (cond (not t) (record { name = Single; block = p } ∷ []) [])) some in
      let node : FileNode = record { attributes = attributes_of d; size = file.size; blocks = file.blocks; pointers = Single ∷ [] } in
      let bytes : file_blocks others v ≡ node.blocks =
      (λ t. map (λ index. file_block others (slice_index (numbers t) index)) (range_with_len 0 (same t))) ∙ same_blocks ∙ ap (λ (f : FileNode). f.blocks) (sym was.same) in
      record {
        reading = reading;
        stored = file_stored_with g blocks others i u d (p ∷ []) hands after has.stored has.used only state still more (file_places g v still few past needed) count held;
        tree = file_tree_with g blocks others i u d (p ∷ []) hands after has.stored has.used only state still node bytes names
            ∙ ap (λ (n : ℕ). with_node (tree_of g blocks) i (Some (File (record { attributes = attributes_of d; size = n; blocks = file.blocks; pointers = Single ∷ [] }))))
            (size ∙ ap (λ (f : FileNode). f.size) (sym was.same));
      }
