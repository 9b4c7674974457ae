-- A mount: each moment of it is crash safe, with no entry yet.
use Rattle.std.proofs.Common.{◌≡◌, ◌≤◌, ◌<◌, inl, inr, ℕ, zero, suc, ◌/◌, ◌%◌, true, List, [], length, slice_index, Option, Some, None, refl, sym, ap, ◌∙◌, subst, arith, length-append, get_or-take}
use Rattle.std.specs.Prelude.{IfSome, IsSomeAnd}
use Rattle.std.proofs.lemmas.Bool.{cases_lt}
use Rattle.lufs_base.specs.declared.geometry.Geometry.{Geometry}
use Rattle.volume_model.specs.declared.device_call.DeviceCall.{DeviceCall}
use Rattle.volume_model.specs.Format.{Image, block, geometry_of}
use Rattle.volume_model.specs.Log.{recovered}
use Rattle.volume_model.specs.Crash.{Record, with_calls, Outcome, present_of}
use Rattle.volume_model.specs.Sound.{reading_of, UsedInode, Tree, FileNode, File, tree_of, StandsFor, shape_of, HasShape, MountsAs}
use Rattle.volume_model.proofs.CrashLaws.{grows}
use Rattle.history_model.specs.Histories.{entry_at, replay_of}
use Rattle.history_model.specs.Touched.{Settled}
use Rattle.history_model.specs.CrashSafety.{byte_named, HasByte, HasKept, IsCrashSafeAt}
use Rattle.journal_model.specs.Mount.{Found, Stage, HomeWrite, HomeFlush, NewHeader, HeaderFlush, MountStep, IsMounting}
use Rattle.journal_laws.proofs.MountImages.{mount_begins, mount_keeps}
use Rattle.journal_laws.proofs.MountOutcomes.{same_by, left_by_mount}
use Rattle.journal_laws.proofs.MountedVolumes.{tree_stays}
use Rattle.history_laws.specs.Additions.{AddsAfter}
use Rattle.history_laws.specs.Named.{HasByteOf}
use Rattle.history_laws.specs.Sessions.{MayBeMounted, Mounts, Began, Went, no_history}
use Rattle.history_laws.proofs.NamedBlocks.{named_by_shape, named_in_record, byte_by_tree}
use Rattle.history_laws.proofs.PastMoments.{past}

pub opening_first : (g : Geometry) (moment : ℕ) (opening : Tree) → replay_of g moment opening [] 0 ≡ opening
unfolding replay_of
opening_first g moment opening = refl

-- What stands for a tree has the bytes of its files.
pub stands_with_bytes : (g : Geometry) (content : Image) (tree : Tree) (ino p value : ℕ) → StandsFor g (block content) tree [] → HasByteOf tree ino p value → HasKept g content ino p value
stands_with_bytes g content tree ino p value stands has =
    let byte : HasByteOf (tree_of g (block content)) ino p value = subst (λ (t : Tree). HasByteOf t ino p value) (sym stands.stands) has in
    let named = named_by_shape g (block content) tree ino p value (ap shape_of stands.stands) has in
    let u = named_in_record (reading_of g (block content)) ino (p / 4096) named.0 named.1 in
    let place : p % 4096 < 4096 = omega arith in
    subst (λ (o : Option UsedInode). IsSomeAnd o (λ u. byte_named content u p ≡ value)) (sym u.1)
    (ap (λ (number : ℕ). slice_index (block content number) (p % 4096)) u.2
    ∙ sym (get_or-take 4096 (block content named.0) (p % 4096) 0 place)
    ∙ byte_by_tree g (block content) ino p value named.0 byte named.1)

some_and : {X : Type 0} (P Q : X → Type 0) (o : Option X) → ((x : X) → P x → Q x) → IsSomeAnd o P → IsSomeAnd o Q
some_and P Q None step is = absurd is
some_and P Q (Some x) step is = step x is

adds_nothing : (n : ℕ) → AddsAfter n no_history no_history
adds_nothing n = record { entries = tt; commits = ([], refl); within = tt }

one_call : (g : Geometry) (found : Found) (home : Image) (stage next : Stage) (calls : List DeviceCall) → MountStep g found home stage calls next → length calls ≤ 1
one_call g found home stage _ _ (HomeWrite b left is) = omega arith
one_call g found home stage _ _ (HomeFlush is) = omega arith
one_call g found home stage _ _ (NewHeader is) = omega arith
one_call g found home stage _ _ (HeaderFlush is) = omega arith

module _ (g : Geometry) (moment : ℕ) (opening : Tree) (found : Found) (start : Record) (may : MayBeMounted g found start opening) where
  pub mounting : (r : Record) (stage : Stage) → Mounts g found start r stage → IsMounting g found (present_of start) r stage
  mounting _ _ (Began left all) = mount_begins g found (present_of start) may.log start left refl may.sectors may.settled all
  mounting _ _ (Went r stage next calls mounts step) = mount_keeps g found (present_of start) r stage next calls (mounting r stage mounts) step

  -- now
  mount_now : (r : Record) (stage : Stage) → IsMounting g found (present_of start) r stage → IsCrashSafeAt g moment opening no_history r (length r.calls)
  mount_now r stage m image left = (0, inl refl, record { mounts = mounts; told = told; bytes = bytes; idents = (same_by g found (present_of start) image (left_by_mount g found (present_of start) r stage image m left)).idents })
    where
      first : replay_of g moment opening [] 0 ≡ opening
      first = opening_first g moment opening

      stands : IsSomeAnd (recovered g image) (λ content. StandsFor g (block content) opening [])
      stands = tree_stays g found (present_of start) r stage image opening m left may.tree

      shaped : IsSomeAnd (recovered g image) (λ content. HasShape g content (shape_of (replay_of g moment opening [] 0)))
      shaped = some_and (λ content. StandsFor g (block content) opening []) (λ content. HasShape g content (shape_of (replay_of g moment opening [] 0))) (recovered g image)
          (λ content is. record { sound = is.sound; has = ap shape_of is.stands ∙ sym (ap shape_of first) }) stands

      mounts : MountsAs image (shape_of (replay_of g moment opening [] 0))
      mounts = subst (λ (o : Option Geometry). IsSomeAnd o (λ k. IsSomeAnd (recovered k image) (λ content. HasShape k content (shape_of (replay_of g moment opening [] 0))))) (sym (m.each image left).geometry) shaped

      told : (i : ℕ) → IfSome (entry_at [] i) (λ e. e.sync ≡ true → IfSome e.told (λ told. told ≤ length r.calls → i ≤ 0))
      told zero = tt
      told (suc i) = tt

      bytes : (ino p value : ℕ) (file : FileNode) → replay_of g moment opening [] 0 ino ≡ Some (File file) → HasByte file p value
          → Settled g moment opening [] (length r.calls) ino p → IsSomeAnd (recovered g image) (λ content. HasKept g content ino p value)
      bytes ino p value file is has settled =
          some_and (λ content. StandsFor g (block content) opening []) (λ content. HasKept g content ino p value) (recovered g image)
          (λ content there. stands_with_bytes g content opening ino p value there (record { file = file; is = sym (ap (λ (t : Tree). t ino) first) ∙ is; has = has })) stands

  before_step : (r : Record) (calls : List DeviceCall) (n : ℕ) → length calls ≤ 1 → n < length (with_calls r calls).calls → n ≤ length r.calls
  before_step r calls n few within = omega (arith, within, few, length-append r.calls calls)

  -- at each moment before
  pub mount_safe : (r : Record) (stage : Stage) → Mounts g found start r stage → (n : ℕ) → length start.calls ≤ n → n < length r.calls → IsCrashSafeAt g moment opening no_history r n
  mount_safe _ _ (Began left all) n from before = absurd (omega (arith, from, before))
  mount_safe _ _ (Went r stage next calls mounts step) n from before =
      let within = before_step r calls n (one_call g found (present_of r) stage next calls step) before in
      past g moment opening n no_history no_history (adds_nothing n) r calls within
      (elim (cases_lt n (length r.calls)) [
        | inl earlier ↦ mount_safe r stage mounts n from earlier
        | inr here ↦ let at : length r.calls ≡ n = omega (arith, here, within) in
            subst (IsCrashSafeAt g moment opening no_history r) at (mount_now r stage (mounting r stage mounts))
      ])

  pub mount_geometry : (r : Record) (stage : Stage) → Mounts g found start r stage → (n : ℕ) (image : Image) → length start.calls ≤ n → n < length r.calls → Outcome r n image → geometry_of image ≡ Some g
  mount_geometry _ _ (Began left all) n image from before out = absurd (omega (arith, from, before))
  mount_geometry _ _ (Went r stage next calls mounts step) n image from before out =
      let within = before_step r calls n (one_call g found (present_of r) stage next calls step) before in
      let old = (grows r calls n image within).0 out in
      elim (cases_lt n (length r.calls)) [
        | inl earlier ↦ mount_geometry r stage mounts n image from earlier old
        | inr here ↦ let at : n ≡ length r.calls = omega (arith, here, within) in
            ((mounting r stage mounts).each image (subst (λ (m : ℕ). Outcome r m image) at old)).geometry
      ]

  -- up to now
  pub mount_up_to_now : (r : Record) (stage : Stage) → Mounts g found start r stage → (n : ℕ) → length start.calls ≤ n → n ≤ length r.calls → IsCrashSafeAt g moment opening no_history r n
  mount_up_to_now r stage mounts n from within = elim (cases_lt n (length r.calls)) [
    | inl earlier ↦ mount_safe r stage mounts n from earlier
    | inr here ↦ let at : length r.calls ≡ n = omega (arith, here, within) in
        subst (IsCrashSafeAt g moment opening no_history r) at (mount_now r stage (mounting r stage mounts))
  ]
