use Rattle.std.proofs.Common.{◌≡◌, ◌<◌, ◌≤◌, ◌*◌, true, take, ap, sym, subst, ◌∙◌, arith}
use Rattle.lufs_base.specs.Fields.{are_zeros}
use Rattle.lufs_base.specs.Layout.{blocks_of}
use Rattle.lufs_base.specs.declared.geometry.Geometry.{Geometry}
use Rattle.volume_model.specs.Format.{Image, block, sectors_of}
use Rattle.volume_model.specs.Worked.{smallest}
use Rattle.meta_store.specs.declared.change.Change.{Change}
use Rattle.meta_store.specs.declared.plain.PlainStore.{PlainStore}
use Rattle.meta_store.specs.Conditions.{MayApply}
use Rattle.meta_store.specs.Plain.{is_free}
use Rattle.meta_store.specs.Worked.{record_with, taking}
use Rattle.meta_store.proofs.PlainSteps.{told_of}
use Rattle.meta_store.proofs.BlockTaken.{block_taken}
use Rattle.meta_store.proofs.tests.take_block.Goals as goal

pub is_released-requires : goal.is_released-requires
is_released-requires c =
    let same = ap (λ (s : PlainStore). s.geometry) (c.block-2.ensures.same ∙ c.block.ensures.same) ∙ c.requires in
    record { inside = subst (λ (g : Geometry). 38 < blocks_of g) (sym same) (omega arith) }

pub apply-requires : goal.apply-requires
apply-requires c =
    let s = c.block-2.new.self in
    let image : Image = s.image.items in
    let first = c.block.new.self in
    let same : s.geometry ≡ smallest = ap (λ (s : PlainStore). s.geometry) (c.block-2.ensures.same ∙ c.block.ensures.same) ∙ c.requires in
    let its_image : image ≡ c.args.store.now.image.items = ap (λ (s : PlainStore). s.image.items) (c.block-2.ensures.same ∙ c.block.ensures.same) in
    let room : 8 * blocks_of smallest ≤ sectors_of image = subst (λ (g : Geometry). 8 * blocks_of g ≤ sectors_of image) same s.whole in
    let zeros : are_zeros (block image 36) ≡ true =
    ap (λ (i : Image). are_zeros (block i 36)) its_image ∙ ap are_zeros (sym c.block.ensures.bytes) ∙ sym c.are_zeros.ensures ∙ c.if-not-are_zeros.false in
    let bytes : take 416 (block image 35) ≡ record_with 7 =
    ap (λ (i : Image). take 416 (block i 35)) (ap (λ (s : PlainStore). s.image.items) c.block-2.ensures.same) ∙ ap (take 416) (sym c.block-2.ensures.bytes)
    ∙ c.begins_with.ensures c.if-not-begins_with.false ∙ c.as_slice.ensures.value ∙ c.in_ok-group_record.ensures in
    let free : is_free smallest image 38 ≡ true = subst (λ (g : Geometry). is_free g image 38 ≡ true) same (sym c.is_released.ensures ∙ c.if-not-is_released.false) in
    let may = block_taken image s.held.items s.taken.items s.freed.items (omega (arith, room)) zeros bytes free in
    record {
      may = subst (λ (change : Change). MayApply change (told_of s.geometry image s.held.items s.taken.items s.freed.items)) (sym c.in_ok-taking.ensures)
          (subst (λ (g : Geometry). MayApply taking (told_of g image s.held.items s.taken.items s.freed.items)) (sym same) may);
    }
