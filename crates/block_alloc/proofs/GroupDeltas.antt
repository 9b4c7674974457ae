-- The deltas that mark a hand, as a store takes them.
use Rattle.std.proofs.Common.{◌≡◌, ◌<◌, ◌≤◌, inl, ℕ, suc, zero, ◌*◌, ◌/◌, ◌%◌, Bool, true, false, ◌&&◌, List, [], ◌∷◌, length, Option, Some, None, IfSome, refl, sym, ap, ◌∙◌, subst, arith}
use Rattle.std.specs.Prelude.{All, ◌==◌, nat_lt, slice_get, slice_index_or}
use Rattle.std.specs.List.{list_any}
use Rattle.std.specs.Option.{option_flatten}
use Rattle.std.proofs.lemmas.Bool.{and_from, and_left, or_from, or_left, or_right, lt-ltb, false≢true}
use Rattle.std.proofs.lemmas.List.Elements.{All-head, All-tail, All-weaker}
use Rattle.lufs_base.specs.Layout.{IsGeometry, group_start, blocks_of, region_of}
use Rattle.lufs_base.specs.declared.geometry.Geometry.{Geometry}
use Rattle.lufs_base.specs.declared.geometry.Region.TheVariants.{GroupBlock}
use Rattle.lufs_base.specs.declared.delta.Delta.{Delta}
use Rattle.lufs_base.specs.declared.delta.DeltaKind.TheVariants.{Group}
use Rattle.lufs_base.proofs.Places.{only_region}
use Rattle.volume_model.specs.declared.hand.Hand.{Hand}
use Rattle.volume_model.specs.Log.{AreLoggable, may_be_logged, is_home_of, is_part_of_block, is_cancel}
use Rattle.volume_model.specs.Format.{group_bytes}
use Rattle.volume_laws.proofs.SameReading.{group_record_block}
use Rattle.cyl_groups.specs.declared.group.Group.{Group as GroupInMemory}
use Rattle.meta_store.proofs.MergedOrder.{precedes_from}
use Rattle.meta_store.proofs.MergedTable.{IsLoggable, are_loggable}
use Rattle.meta_store.specs.Deltas.{group_delta}
use Rattle.block_alloc.specs.Marks.{MarksGroup, AreMarkings}
use Rattle.block_alloc.proofs.RecordReplaced.{length-group_bytes}
use Rattle.block_alloc.proofs.HeldRecords.{IsGroupDelta, part_of_group}

-- a record of a group may be logged
pub record_logged : (g : Geometry) (n : ℕ) → IsGeometry g → n < g.groups → may_be_logged g Group (4096 * group_start g n) 416 ≡ true
unfolding may_be_logged
record_logged g n ok within =
    let b = group_start g n in
    let home = 4096 * b in
    let at : home / 4096 ≡ b = omega arith in
    let place : home % 4096 ≡ 0 = omega arith in
    let here = group_record_block g n ok within in
    let region : GroupBlock n ≡ region_of g b = only_region g b (GroupBlock n) ok (within, refl) in
    and_from (nat_lt (home / 4096) (blocks_of g) && is_home_of Group (region_of g (home / 4096))) (is_part_of_block Group (home % 4096) 416)
    (and_from (nat_lt (home / 4096) (blocks_of g)) (is_home_of Group (region_of g (home / 4096))) (lt-ltb (home / 4096) (blocks_of g) (omega (arith, at, here.0)))
    (ap (λ (k : ℕ). is_home_of Group (region_of g k)) at ∙ sym (ap (is_home_of Group) region)))
    (ap (λ (k : ℕ). is_part_of_block Group k 416) place)

-- a delta that marks a group
pub marks_logged : (g : Geometry) (n : ℕ) (hand : Hand) (found : Option GroupInMemory) (d : Delta) → IsGeometry g → MarksGroup g n hand found d → IsGroupDelta g d
marks_logged g n hand found d ok marks =
    let own : Delta = group_delta g n (group_bytes marks.new) in
    subst (IsGroupDelta g) (sym marks.is) (record {
      kind = refl;
      loggable = record { table = record_logged g n ok marks.within; bytes = length-group_bytes g n marks.new marks.marked.group };
    })

module _ (g : Geometry) (records : List (Option GroupInMemory)) (hand : Hand) (n : ℕ) (deltas : List Delta) (ok : IsGeometry g) (markings : AreMarkings g records hand n deltas) where
  pub each_group : All (IsGroupDelta g) deltas
  each_group =
      All-weaker (λ (d : Delta). (m : ℕ) × (m < n) × MarksGroup g m hand (option_flatten (slice_get records m)) d) (IsGroupDelta g)
      (λ d its. marks_logged g its.0 hand (option_flatten (slice_get records its.0)) d ok its.2) deltas markings.each

  pub each_home : All (λ d. (m : ℕ) × (m < g.groups) × (d.kind ≡ Group) × (d.home ≡ 4096 * group_start g m)) deltas
  each_home =
      All-weaker (λ (d : Delta). (m : ℕ) × (m < n) × MarksGroup g m hand (option_flatten (slice_get records m)) d)
      (λ (d : Delta). (m : ℕ) × (m < g.groups) × (d.kind ≡ Group) × (d.home ≡ 4096 * group_start g m))
      (λ d its. (its.0, its.2.within, ap (λ (e : Delta). e.kind) its.2.is, ap (λ (e : Delta). e.home) its.2.is)) deltas markings.each

  pub are_logged : AreLoggable g deltas
  are_logged =
      are_loggable g deltas (All-weaker (IsGroupDelta g) (IsLoggable g) (λ d is. is.loggable) deltas each_group) (λ i j d before inside.
      let first = slice_index_or deltas i d in
      let later = slice_index_or deltas j d in
      let is_first = each_group i d (omega (arith, before, inside)) in
      let is_later = each_group j d inside in
      let less = markings.rising i j d before inside in
      precedes_from first later.kind later.home (record {
        homes = inl less;
        bytes = λ has had. omega (arith, less, (part_of_group g first is_first).0, (part_of_group g first is_first).1, (part_of_group g later is_later).0);
        cancels = λ cancel. absurd (false≢true (sym (or_from (is_cancel first.kind) (is_cancel later.kind) (ap is_cancel is_first.kind) (ap is_cancel is_later.kind)) ∙ cancel));
      }))

-- none of them cancels a block
pub none_cancelled : (g : Geometry) (deltas : List Delta) (b : ℕ) → All (IsGroupDelta g) deltas → list_any (λ d. is_cancel d.kind && d.home / 4096 == b) deltas ≡ false
none_cancelled g [] b each = refl
none_cancelled g (d ∷ deltas) b each =
    let own = All-head (IsGroupDelta g) d deltas each in
    or_from (is_cancel d.kind && d.home / 4096 == b) (list_any (λ d. is_cancel d.kind && d.home / 4096 == b) deltas)
    (and_left (is_cancel d.kind) (d.home / 4096 == b) (ap is_cancel own.kind)) (none_cancelled g deltas b (All-tail (IsGroupDelta g) d deltas each))

-- one that passes at a place
pub any_at : {X : Type 0} (q : X → Bool) (xs : List X) (k : ℕ) (d : X) → k < length xs → q (slice_index_or xs k d) ≡ true → list_any q xs ≡ true
any_at q [] k d inside passes = absurd (omega (arith, inside))
any_at q (x ∷ xs) zero d inside passes = or_left (q x) (list_any q xs) passes
any_at q (x ∷ xs) (suc k) d inside passes = or_right (q x) (list_any q xs) (any_at q xs k d (omega (arith, inside)) passes)

pub room_enough : (o : Option ℕ) (a b : ℕ) → a ≤ b → IfSome o (λ room. b ≤ room) → IfSome o (λ room. a ≤ room)
room_enough None a b less room = tt
room_enough (Some r) a b less room = omega (arith, less, room)
