-- The home blocks of a disk, written one after the other.
use Rattle.std.proofs.Common.{◌≡◌, ◌<◌, ◌≤◌, ℕ, suc, ◌+◌, ◌-◌, ◌*◌, ◌/◌, Bool, true, false, cond, List, [], ◌∷◌, ◌++◌, length, take, drop, Option, Some, None, IfSome, refl, sym, ap, ◌∙◌, subst, arith, append-nil}
use Rattle.std.specs.Prelude.{option_map, bytes_eq, not}
use Rattle.std.specs.List.{filter, range_with_len}
use Rattle.std.proofs.lemmas.List.{map-append}
use Rattle.std.proofs.lemmas.List.Elements.{All-push}
use Rattle.std.proofs.lemmas.List.Quantifiers.{all_pairs_push}
use Rattle.lufs_base.specs.Layout.{group_start, blocks_of}
use Rattle.lufs_base.specs.declared.geometry.Geometry.{Geometry}
use Rattle.volume_model.specs.declared.device_call.DeviceCall.{DeviceCall}
use Rattle.volume_model.specs.Format.{Image, block}
use Rattle.volume_model.specs.Crash.{image_after}
use Rattle.sector_disk.specs.Disk.{DiskTold, HasMade}
use Rattle.sector_disk.proofs.MadeCalls.{made_then, no_calls, CanCount}
use Rattle.plain_image.specs.HomeBlocks.{IsHome, differs}
use Rattle.plain_image.specs.WrittenBack.{home_call, home_calls}
use Rattle.plain_image.specs.HomesWritten.{is_other, block_calls, changed_below, HasHomes}
use Rattle.plain_image.proofs.ChangedLists.{changed_more}
use Rattle.plain_image.proofs.HomeSectors.{IsWrittenUpTo, written_below, block_still}

-- a content that is told has room for the volume
abbrev pub HasRoom : Geometry → Option Image → Type 0
HasRoom g o = IfSome o (λ image. 4096 * blocks_of g ≤ length image)

pub room_of : (g : Geometry) (o : Option Image) (sectors : ℕ) → IfSome o (λ image. length image / 512 ≡ sectors) → 8 * blocks_of g ≤ sectors → HasRoom g o
room_of g None sectors size fits = tt
room_of g (Some image) sectors size fits = omega (arith, size, fits)

-- a block of the image, as a part of it
pub slice_is : (image : Image) (b at : ℕ) → at ≡ 4096 * b → take ((at + 4096) - at) (drop at image) ≡ block image b
slice_is image b at place =
    let count : (at + 4096) - at ≡ 4096 = omega arith in
    let start : at ≡ 512 * (8 * b) = omega (arith, place) in
    ap (λ (n : ℕ). take n (drop at image)) count ∙ ap (λ (n : ℕ). take 4096 (drop n image)) start

module _ (g : Geometry) (image : Image) (enough : 4096 * blocks_of g ≤ length image) where
  same_content : (o : Option Image) → o ≡ option_map (λ (i : Image). image_after i []) o
  same_content None = refl
  same_content (Some i) = refl

  told_first : (o : Option Image) → IfSome o (λ before. [] ≡ changed_below g image before (group_start g 0))
  told_first None = tt
  told_first (Some before) =
      let none : group_start g 0 - group_start g 0 ≡ 0 = omega arith in
      ap (λ (m : ℕ). filter (differs image before) (range_with_len (group_start g 0) m)) (sym none)

  pub homes_none : (old : DiskTold) → CanCount old → HasHomes g image (group_start g 0) old old
  homes_none old fits = record {
    written = [];
    homes = λ k d below. absurd (omega (arith, below));
    below = λ k d below. absurd (omega (arith, below));
    rising = λ i j d less below. absurd (omega (arith, below));
    made = record { sectors = refl; content = same_content old.present; listed = no_calls old.listed; count = omega (arith, fits) };
    told = told_first old.present;
  }

  -- what stands there differs where what stood there before did
  pub still_differs : (n : ℕ) (home : IsHome g n) (written : List ℕ) (wrote : Bool) (before : Image) → 4096 * blocks_of g ≤ length before → written ≡ changed_below g image before n
      → wrote ≡ is_other (image_after before (home_calls image written)) n (block image n) → wrote ≡ differs image before n
  still_differs n home written wrote before room told other =
      let mid : Image = image_after before (home_calls image written) in
      let is : IsWrittenUpTo g image n before mid =
      subst (λ (l : List ℕ). IsWrittenUpTo g image n before (image_after before (home_calls image l))) (sym told) (written_below g image before room enough n home.low (omega (arith, home.high))) in
      other ∙ ap (λ (l : List ℕ). not (bytes_eq l (block image n))) (block_still g image before room enough n home mid is)

  told_next : (n : ℕ) (home : IsHome g n) (written : List ℕ) (wrote : Bool) (o now : Option Image) → HasRoom g o → now ≡ option_map (λ (i : Image). image_after i (home_calls image written)) o
      → IfSome now (λ i. wrote ≡ is_other i n (block image n)) → IfSome o (λ before. written ≡ changed_below g image before n)
      → IfSome o (λ before. written ++ cond wrote (n ∷ []) [] ≡ changed_below g image before (n + 1))
  told_next n home written wrote None now room content other told = tt
  told_next n home written wrote (Some before) now room content other told =
      let here : wrote ≡ is_other (image_after before (home_calls image written)) n (block image n) = subst (λ (o : Option Image). IfSome o (λ i. wrote ≡ is_other i n (block image n))) content other in
      let differ : wrote ≡ differs image before n = still_differs n home written wrote before room told here in
      let s : ℕ = group_start g 0 in
      let m : ℕ = n - s in
      let at : s + m ≡ n = omega (arith, home.low) in
      let next : n + 1 - s ≡ suc m = omega (arith, home.low) in
      let p : ℕ → Bool = differs image before in
      ap (λ (l : List ℕ). l ++ cond wrote (n ∷ []) []) told ∙ ap (λ (b : Bool). changed_below g image before n ++ cond b (n ∷ []) []) differ
      ∙ ap (λ (k : ℕ). changed_below g image before n ++ cond (p k) (k ∷ []) []) (sym at) ∙ sym (changed_more p s m)
      ∙ ap (λ (k : ℕ). filter p (range_with_len s k)) (sym next)

  -- one block more
  pub homes_more : (n : ℕ) (home : IsHome g n) (wrote : Bool) (old mid new : DiskTold) → HasRoom g old.present → HasHomes g image n old mid
      → HasMade (block_calls n (block image n) wrote) mid new → IfSome mid.present (λ i. wrote ≡ is_other i n (block image n)) → HasHomes g image (n + 1) old new
  homes_more n home true old mid new room has made other = record {
    written = has.written ++ n ∷ [];
    homes = All-push (IsHome g) has.written n has.homes home;
    below = All-push (λ b. b < n + 1) has.written n (λ k d less. omega (arith, has.below k d less)) (omega arith);
    rising = all_pairs_push (λ b c. b < c) has.written n has.rising has.below;
    made = subst (λ (calls : List DeviceCall). HasMade calls old new) (sym (map-append (home_call image) has.written (n ∷ [])))
        (made_then (home_calls image has.written) (home_call image n ∷ []) old mid new has.made made);
    told = told_next n home has.written true old.present mid.present room has.made.content other has.told;
  }
  homes_more n home false old mid new room has made other = record {
    written = has.written;
    homes = has.homes;
    below = λ k d less. omega (arith, has.below k d less);
    rising = has.rising;
    made = subst (λ (calls : List DeviceCall). HasMade calls old new) (append-nil (home_calls image has.written)) (made_then (home_calls image has.written) [] old mid new has.made made);
    told = told_kept old.present (told_next n home has.written false old.present mid.present room has.made.content other has.told);
  }
    where
      told_kept : (o : Option Image) → IfSome o (λ before. has.written ++ [] ≡ changed_below g image before (n + 1)) → IfSome o (λ before. has.written ≡ changed_below g image before (n + 1))
      told_kept None is = tt
      told_kept (Some before) is = sym (append-nil has.written) ∙ is
