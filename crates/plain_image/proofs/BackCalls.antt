-- The calls that write an image back: all of them, or the first ones where one failed.
use Rattle.std.proofs.Common.{◌≡◌, ◌<◌, ◌≤◌, inl, inr, ℕ, suc, ◌+◌, ◌-◌, ◌*◌, Bool, true, cond, List, [], ◌∷◌, ◌++◌, length, Option, Some, None, Result, IfSome, sym, ap, ◌∙◌, subst, arith, append-nil, append_assoc}
use Rattle.std.specs.Prelude.{IsErr, option_map}
use Rattle.std.specs.List.{filter, range_with_len}
use Rattle.std.proofs.lemmas.List.{map-append}
use Rattle.std.proofs.lemmas.List.Elements.{All-push}
use Rattle.std.proofs.lemmas.List.Quantifiers.{all_pairs_push}
use Rattle.lufs_base.specs.Layout.{group_start, blocks_of}
use Rattle.lufs_base.specs.declared.geometry.Geometry.{Geometry}
use Rattle.volume_model.specs.declared.device_call.DeviceCall.{DeviceCall}
use Rattle.volume_model.specs.declared.device_call.DeviceCall.TheVariants.{Flush}
use Rattle.volume_model.specs.declared.log.Header.{Header}
use Rattle.volume_model.specs.Format.{Image, block}
use Rattle.volume_model.specs.Crash.{image_after}
use Rattle.sector_disk.specs.Disk.{DiskTold, HasMade, HasMadePartly, Makes}
use Rattle.sector_disk.proofs.MadeCalls.{HasBegun, makes_then, makes_some, begun_then, begun_more, begun_none, fits_still, CanCount}
use Rattle.plain_image.specs.HomeBlocks.{IsHome, differs, changed_blocks}
use Rattle.plain_image.specs.WrittenBack.{home_call, home_calls, emptying, calls_that_write, write_back_calls, WritesHomes}
use Rattle.plain_image.specs.HomesWritten.{is_other, IsStoppedAt, changed_below, HasHomes, HasStopped}
use Rattle.plain_image.proofs.ChangedLists.{filter_split}
use Rattle.plain_image.proofs.HomesLoop.{HasRoom, still_differs}

module _ {T E : Type 0} (result : Result T E) (g : Geometry) (h : Header) (image : Image) (old new : DiskTold) (fits : CanCount old) where
  -- all home blocks are written, and the log is emptied, or in part
  pub all_form : (mid : DiskTold) → HasHomes g image (blocks_of g) old mid → Makes (Flush ∷ emptying g h) result mid new → WritesHomes g h image result old new
  all_form mid has makes = record {
    written = has.written;
    homes = has.homes;
    rising = has.rising;
    makes = makes_then result (home_calls image has.written) (Flush ∷ emptying g h) old mid new fits has.made makes;
  }

  all_told : (o : Option Image) (written : List ℕ) → IfSome o (λ before. written ≡ changed_below g image before (blocks_of g)) → Makes (calls_that_write g h image written) result old new
      → IfSome o (λ before. Makes (write_back_calls g h image before) result old new)
  all_told None written told makes = tt
  all_told (Some before) written told makes = subst (λ (l : List ℕ). Makes (calls_that_write g h image l) result old new) told makes

  pub all_calls : (mid : DiskTold) → HasHomes g image (blocks_of g) old mid → Makes (Flush ∷ emptying g h) result mid new
      → IfSome old.present (λ before. Makes (write_back_calls g h image before) result old new)
  all_calls mid has makes = all_told old.present has.written has.told (makes_then result (home_calls image has.written) (Flush ∷ emptying g h) old mid new fits has.made makes)

  -- the calls, after those of the first blocks
  split : (written tail : List ℕ) → home_calls image written ++ (home_calls image tail ++ (Flush ∷ emptying g h)) ≡ calls_that_write g h image (written ++ tail)
  split written tail =
      sym (append_assoc (home_calls image written) (home_calls image tail) (Flush ∷ emptying g h))
      ∙ ap (λ (calls : List DeviceCall). calls ++ (Flush ∷ emptying g h)) (sym (map-append (home_call image) written tail))

  begun_as : (written tail : List ℕ) (mid : DiskTold) → HasMade (home_calls image written) old mid → HasBegun (home_calls image tail ++ (Flush ∷ emptying g h)) mid new
      → HasBegun (calls_that_write g h image (written ++ tail)) old new
  begun_as written tail mid made begun =
      subst (λ (calls : List DeviceCall). HasBegun calls old new) (split written tail)
      (begun_then (home_calls image written) (home_calls image tail ++ (Flush ∷ emptying g h)) old mid new fits made begun)

  begun_next : (n : ℕ) (tail : List ℕ) (mid : DiskTold) → CanCount mid → HasMadePartly (8 * n) (block image n) mid new → HasBegun (home_calls image (n ∷ tail) ++ (Flush ∷ emptying g h)) mid new
  begun_next n tail mid fit partly =
      begun_more (home_call image n ∷ []) (home_calls image tail ++ (Flush ∷ emptying g h)) mid new
      (record { sectors = partly.sectors; tells = partly.tells; listed = (1, partly.listed); count = omega (arith, partly.count, fit) })

  form_stopped : (failed : IsErr result) (s : HasStopped g image old new) → IsStoppedAt s.at (block image s.at) s.mid new → WritesHomes g h image result old new
  form_stopped failed s (inl none) = record {
    written = s.before.written;
    homes = s.before.homes;
    rising = s.before.rising;
    makes = makes_some result _ old new failed
        (subst (λ (l : List ℕ). HasBegun (calls_that_write g h image l) old new) (append-nil s.before.written)
        (begun_as s.before.written [] s.mid s.before.made (begun_none (Flush ∷ emptying g h) s.mid new none)));
  }
  form_stopped failed s (inr partly) = record {
    written = s.before.written ++ s.at ∷ [];
    homes = All-push (IsHome g) s.before.written s.at s.before.homes s.home;
    rising = all_pairs_push (λ b c. b < c) s.before.written s.at s.before.rising s.before.below;
    makes = makes_some result _ old new failed
        (begun_as s.before.written (s.at ∷ []) s.mid s.before.made (begun_next s.at [] s.mid (fits_still _ _ _ s.before.made) partly.0));
  }

  pub stopped_form : (failed : IsErr result) → HasStopped g image old new → WritesHomes g h image result old new
  stopped_form failed s = form_stopped failed s s.stops

  module _ (enough : 4096 * blocks_of g ≤ length image) (failed : IsErr result) (s : HasStopped g image old new) where
    -- the home blocks from this one on that differ
    abbrev behind : Image → List ℕ
    behind before = filter (differs image before) (range_with_len s.at (blocks_of g - s.at))

    two_parts : (before : Image) → changed_blocks g image before ≡ changed_below g image before s.at ++ behind before
    two_parts before =
        let low : ℕ = group_start g 0 in
        let count : blocks_of g - low ≡ (s.at - low) + (blocks_of g - s.at) = omega (arith, s.home.low, s.home.high) in
        let at : low + (s.at - low) ≡ s.at = omega (arith, s.home.low) in
        ap (λ (k : ℕ). filter (differs image before) (range_with_len low k)) count ∙ filter_split (differs image before) low (s.at - low) (blocks_of g - s.at)
        ∙ ap (λ (a : ℕ). changed_below g image before s.at ++ filter (differs image before) (range_with_len a (blocks_of g - s.at))) at

    this_first : (before : Image) → differs image before s.at ≡ true → behind before ≡ s.at ∷ filter (differs image before) (range_with_len (s.at + 1) (blocks_of g - s.at - 1))
    this_first before other =
        let count : blocks_of g - s.at ≡ suc (blocks_of g - s.at - 1) = omega (arith, s.home.high) in
        let rest : List ℕ = filter (differs image before) (range_with_len (s.at + 1) (blocks_of g - s.at - 1)) in
        ap (λ (k : ℕ). filter (differs image before) (range_with_len s.at k)) count ∙ ap (λ (b : Bool). cond b (s.at ∷ rest) rest) other

    begun_told : (o : Option Image) → HasRoom g o → s.mid.present ≡ option_map (λ (i : Image). image_after i (home_calls image s.before.written)) o
        → IfSome o (λ before. s.before.written ≡ changed_below g image before s.at) → IsStoppedAt s.at (block image s.at) s.mid new
        → IfSome o (λ before. Makes (write_back_calls g h image before) result old new)
    begun_told None room content told stops = tt
    begun_told (Some before) room content told (inl none) =
        let all : s.before.written ++ behind before ≡ changed_blocks g image before = ap (λ (l : List ℕ). l ++ behind before) told ∙ sym (two_parts before) in
        makes_some result _ old new failed
        (subst (λ (l : List ℕ). HasBegun (calls_that_write g h image l) old new) all
        (begun_as s.before.written (behind before) s.mid s.before.made (begun_none (home_calls image (behind before) ++ (Flush ∷ emptying g h)) s.mid new none)))
    begun_told (Some before) room content told (inr partly) =
        let here : is_other (image_after before (home_calls image s.before.written)) s.at (block image s.at) ≡ true =
        subst (λ (o : Option Image). IfSome o (λ i. is_other i s.at (block image s.at) ≡ true)) content partly.1 in
        let other : differs image before s.at ≡ true = sym (still_differs g image enough s.at s.home s.before.written true before room told (sym here)) in
        let tail : List ℕ = filter (differs image before) (range_with_len (s.at + 1) (blocks_of g - s.at - 1)) in
        let all : s.before.written ++ (s.at ∷ tail) ≡ changed_blocks g image before =
        ap (λ (l : List ℕ). s.before.written ++ l) (sym (this_first before other)) ∙ ap (λ (l : List ℕ). l ++ behind before) told ∙ sym (two_parts before) in
        makes_some result _ old new failed
        (subst (λ (l : List ℕ). HasBegun (calls_that_write g h image l) old new) all
        (begun_as s.before.written (s.at ∷ tail) s.mid s.before.made (begun_next s.at tail s.mid (fits_still _ _ _ s.before.made) partly.0)))

    pub stopped_calls : HasRoom g old.present → IfSome old.present (λ before. Makes (write_back_calls g h image before) result old new)
    stopped_calls room = begun_told old.present room s.before.made.content s.before.told s.stops
