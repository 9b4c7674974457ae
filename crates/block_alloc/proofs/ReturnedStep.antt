-- One part of a hand is put back: the record of its group is read, the bit is cleared, and the record is amended.
use Rattle.std.proofs.Common.{◌≡◌, ◌<◌, ℕ, ◌*◌, true, List, Option, Some, IfSome, option_map, sym, ap, ◌∙◌, subst}
use Rattle.std.specs.Prelude.{All}
use Rattle.std.specs.List.{list_any}
use Rattle.std.proofs.lemmas.Bool.{false≢true}
use Rattle.lufs_base.specs.Layout.{IsGeometry, group_start}
use Rattle.lufs_base.specs.declared.geometry.Geometry.{Geometry}
use Rattle.lufs_base.specs.declared.numbers.BlockNo.{BlockNo}
use Rattle.volume_model.specs.declared.hand.Hand.{Hand}
use Rattle.volume_model.specs.Format.{Image, block, group_bytes}
use Rattle.volume_model.specs.Sound.{group_at}
use Rattle.cyl_groups.specs.declared.group.Group.{Group}
use Rattle.cyl_groups.specs.Group.{record_of}
use Rattle.meta_store.specs.Changing.{AllTold, IsAsBefore}
use Rattle.meta_store.specs.Changes.{Amends, is_group_at}
use Rattle.meta_store.specs.Conditions.{MayAmend}
use Rattle.block_alloc.specs.Records.{IsReadGroup}
use Rattle.block_alloc.specs.Marking.{holds_group, IsHeldHand, no_hand, HasPutBack}
use Rattle.block_alloc.specs.Returning.{Returns}
use Rattle.block_alloc.proofs.PutBackSteps.{put_back_then, nothing_put_back}
use Rattle.block_alloc.proofs.ReturnedHand.{IsTold, may_amend, put_back_by, told_part}

-- the number of a group that was read
pub read_number : (g h : Geometry) (n : ℕ) (found : Option Group) (x : Group) → h ≡ g → found ≡ Some x → IsReadGroup g n found → (x.number ≡ n) × IsReadGroup h x.number (Some x)
read_number g h n found x same is read =
    let its : IsReadGroup g n (Some x) = subst (IsReadGroup g n) is read in
    let number : x.number ≡ n = its.1.number in
    (number, subst (λ (k : Geometry). IsReadGroup k x.number (Some x)) (sym same) (subst (λ (k : ℕ). IsReadGroup g k (Some x)) (sym number) its))

module _ (old mid : AllTold) (part : Hand) (h : Geometry) (n : ℕ) (found : Option Group) (x cleared : Group) (returned : List BlockNo) (ok : IsGeometry h) (its : h ≡ old.read.geometry)
    (same : IsAsBefore old mid) (is : found ≡ Some x) (read : IsReadGroup old.read.geometry n found) (within : n < old.read.geometry.groups)
    (value : IfSome old.read.content (λ image. option_map record_of found ≡ group_at old.read.geometry (block image) n)) (held : IsHeldHand part old)
    (number : cleared.number ≡ x.number) (returns : Returns h part x.number (record_of x) (record_of cleared) returned) where
  x_number : x.number ≡ n
  x_number = (read_number old.read.geometry h n found x its is read).0

  mid_is : mid.read.geometry ≡ h
  mid_is = same.read.geometry ∙ sym its

  content : IfSome mid.read.content (IsTold h part x.number (record_of x))
  content =
      let first = told_part old.read.geometry part n old.read.content found x within is value held.stands in
      let second : IfSome old.read.content (IsTold old.read.geometry part x.number (record_of x)) =
      subst (λ (k : ℕ). IfSome old.read.content (IsTold old.read.geometry part k (record_of x))) (sym x_number) first in
      let third : IfSome old.read.content (IsTold h part x.number (record_of x)) =
      subst (λ (k : Geometry). IfSome old.read.content (IsTold k part x.number (record_of x))) (sym its) second in
      subst (λ (o : Option Image). IfSome o (IsTold h part x.number (record_of x))) (sym same.read.content) third

  pub step_may : holds_group old n ≡ true → All (λ b. old.changing.is_taken b.0 ≡ true) returned
      → MayAmend (4096 * group_start mid.read.geometry cleared.number) (group_bytes (record_of cleared)) returned mid
  step_may holds taken =
      let holds_mid : holds_group mid x.number ≡ true =
      ap (λ (k : Geometry). list_any (is_group_at (4096 * group_start k x.number) 416) mid.changing.held) same.read.geometry
      ∙ ap (list_any (is_group_at (4096 * group_start old.read.geometry x.number) 416)) same.changing.held
      ∙ ap (λ (m : ℕ). list_any (is_group_at (4096 * group_start old.read.geometry m) 416) old.changing.held) x_number ∙ holds in
      subst (λ (m : ℕ). MayAmend (4096 * group_start mid.read.geometry m) (group_bytes (record_of cleared)) returned mid) (sym number)
      (may_amend h part x.number (record_of x) (record_of cleared) returned ok returns mid mid_is holds_mid (λ k d inside. same.changing.taken _ ∙ taken k d inside) content)

  pub step_whole : (new : AllTold) → Amends (4096 * group_start mid.read.geometry cleared.number) (group_bytes (record_of cleared)) returned mid new → HasPutBack part no_hand old new
  step_whole new amends =
      let at : Amends (4096 * group_start mid.read.geometry x.number) (group_bytes (record_of cleared)) returned mid new =
      subst (λ (m : ℕ). Amends (4096 * group_start mid.read.geometry m) (group_bytes (record_of cleared)) returned mid new) number amends in
      let ok_mid : IsGeometry mid.read.geometry = subst IsGeometry (sym mid_is) ok in
      let returns_mid : Returns mid.read.geometry part x.number (record_of x) (record_of cleared) returned =
      subst (λ (k : Geometry). Returns k part x.number (record_of x) (record_of cleared) returned) (sym mid_is) returns in
      let content_mid : IfSome mid.read.content (IsTold mid.read.geometry part x.number (record_of x)) =
      subst (λ (k : Geometry). IfSome mid.read.content (IsTold k part x.number (record_of x))) (sym mid_is) content in
      put_back_then part part no_hand old mid new (λ b among. among) (λ b among. absurd (false≢true among)) (nothing_put_back part old mid same)
      (put_back_by mid new part x.number (record_of x) (record_of cleared) returned ok_mid returns_mid content_mid at)
