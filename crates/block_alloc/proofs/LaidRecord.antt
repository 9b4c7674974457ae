-- The delta of the record of a group, laid over an image.
use Rattle.std.proofs.Common.{◌≡◌, ◌≢◌, ◌<◌, ◌≤◌, ℕ, ◌+◌, ◌*◌, ◌/◌, ◌%◌, Bool, true, ◌&&◌, cond, List, [], ◌∷◌, ◌++◌, length, take, drop, slice_index, refl, sym, ap, ◌∙◌, arith, length-take, length-drop}
use Rattle.std.specs.Prelude.{◌==◌}
use Rattle.std.proofs.lemmas.Bool.{and_left, eq-eqb, ne_eqb}
use Rattle.std.proofs.lemmas.List.FromFn.{fill_by_all}
use Rattle.lufs_base.specs.Fields.{put_at}
use Rattle.lufs_base.specs.Layout.{IsGeometry, group_start, blocks_of}
use Rattle.lufs_base.specs.declared.geometry.Geometry.{Geometry}
use Rattle.lufs_base.specs.declared.delta.Delta.{Delta}
use Rattle.lufs_base.proofs.Places.{group_fits}
use Rattle.volume_model.specs.Format.{Image, block, GroupRecord, IsGroup, group_bytes}
use Rattle.meta_store.specs.Laid.{laid_part, laid_block, laid_over}
use Rattle.meta_store.specs.Changes.{deltas_on}
use Rattle.meta_store.proofs.LaidBlocks.{nothing_laid, block_laid_over}
use Rattle.meta_store.proofs.LaidParts.{part_laid}
use Rattle.meta_store.specs.Deltas.{group_delta}
use Rattle.block_alloc.proofs.RecordReplaced.{length-group_bytes}

-- the part of a block that the delta covers
part_is_record : (g : Geometry) (n : ℕ) (new : GroupRecord) (part : List ℕ) → length (group_bytes new) ≡ 416 → length part ≡ 416 → laid_part (group_delta g n (group_bytes new)) part ≡ group_bytes new
unfolding laid_part
part_is_record g n new part size covered =
    sym (fill_by_all (λ i. slice_index (group_bytes new) i) (group_bytes new) (length part) 0 (size ∙ sym covered) (λ k below. refl))

module _ (g : Geometry) (n : ℕ) (new : GroupRecord) (image : Image) (ok : IsGeometry g) (within : n < g.groups) (group : IsGroup g n new) (whole : 4096 * blocks_of g ≤ length image) where
  abbrev d : Delta
  d = group_delta g n (group_bytes new)

  abbrev at : ℕ
  at = group_start g n

  abbrev after : Image
  after = laid_over (deltas_on (d ∷ [])) image

  home : d.home / 4096 ≡ at
  home = omega arith

  pub record_elsewhere : (b : ℕ) → b ≢ at → block after b ≡ block image b
  record_elsewhere b away =
      let none : deltas_on (d ∷ []) b ≡ [] =
      ap (λ (t : Bool). cond t (d ∷ []) []) (and_left (d.home / 4096 == b) true (ne_eqb (d.home / 4096) b (λ same. away (sym same ∙ home)))) in
      sym (block_laid_over (deltas_on (d ∷ [])) image b) ∙ ap (λ (ds : List Delta). laid_block ds (block image b)) none ∙ sym (nothing_laid (block image b))

  pub record_here : block after at ≡ put_at (block image at) 0 (group_bytes new)
  record_here =
      let x : List ℕ = block image at in
      let one : deltas_on (d ∷ []) at ≡ d ∷ [] = ap (λ (t : Bool). cond (t && true) (d ∷ []) []) (eq-eqb (d.home / 4096) at home) in
      let inside : at < blocks_of g = omega (arith, group_fits g n within, ok.bpg_low) in
      let room : 4096 * at + 4096 ≤ length image = omega (arith, whole, inside) in
      let size : length x ≡ 4096 = omega (arith, room, length-take 4096 (drop (512 * (8 * at)) image), length-drop (512 * (8 * at)) image) in
      let bytes_size = length-group_bytes g n new group in
      let front : length (take 416 x) ≡ 416 = omega (arith, size, length-take 416 x) in
      let place : 0 ≡ d.home % 4096 = omega arith in
      let laid : take 0 x ++ (laid_part d (take 416 x) ++ drop 416 x) ≡ laid_block (d ∷ []) x = part_laid d x 0 416 size place refl in
      let end : 416 ≡ 0 + length (group_bytes new) = omega (arith, bytes_size) in
      sym (block_laid_over (deltas_on (d ∷ [])) image at)
      ∙ ap (λ (ds : List Delta). laid_block ds x) one
      ∙ sym laid
      ∙ ap (λ (l : List ℕ). l ++ drop 416 x) (part_is_record g n new (take 416 x) bytes_size front)
      ∙ ap (λ (k : ℕ). group_bytes new ++ drop k x) end
