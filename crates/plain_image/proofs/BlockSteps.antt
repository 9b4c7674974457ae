-- One block of a disk, compared and written.
use Rattle.std.proofs.Common.{◌≡◌, ◌*◌, ◌/◌, ◌⊎◌, inl, inr, ℕ, Bool, true, List, [], ◌∷◌, length, Option, Some, None, Result, Ok, Err, IfSome, refl, sym, ap, ◌∙◌, subst, arith}
use Rattle.std.specs.Prelude.{bytes_eq, not, option_map, is_some, OnOk, OnErr}
use Rattle.lufs_base.specs.Causes.{counted}
use Rattle.volume_model.specs.declared.device_call.DeviceCall.TheVariants.{Write, Flush}
use Rattle.volume_model.specs.Crash.{Record, with_calls, IsPartlyWritten, image_after}
use Rattle.volume_model.specs.Format.{Image, block, sectors_from}
use Rattle.sector_disk.specs.Disk.{DiskTold, IsUnwritten, HasMade, HasMadePartly}
use Rattle.plain_image.specs.HomesWritten.{is_other, IsStoppedAt}

-- what was read tells whether the block is other bytes
pub told_other : (o : Option Image) (there bytes : List ℕ) (b first : ℕ) (same : Bool) → first ≡ 8 * b → length there ≡ 4096
    → IfSome o (λ image. there ≡ sectors_from image first (length there / 512)) → same ≡ bytes_eq there bytes → IfSome o (λ before. not same ≡ is_other before b bytes)
told_other None there bytes b first same place long read is = tt
told_other (Some image) there bytes b first same place long read is =
    let count : length there / 512 ≡ 8 = omega (arith, long) in
    let block_is : there ≡ block image b = read ∙ ap (λ (k : ℕ). sectors_from image k (length there / 512)) place ∙ ap (sectors_from image (8 * b)) count in
    ap not (is ∙ ap (λ (l : List ℕ). bytes_eq l bytes) block_is)

pub told_as : (o : Option Image) (bytes : List ℕ) (b : ℕ) (x y : Bool) → x ≡ y → IfSome o (λ before. x ≡ is_other before b bytes) → IfSome o (λ before. y ≡ is_other before b bytes)
told_as o bytes b x y same is = subst (λ (z : Bool). IfSome o (λ before. z ≡ is_other before b bytes)) same is

told_turned : (o : Option Image) (bytes : List ℕ) (b : ℕ) → IfSome o (λ before. true ≡ is_other before b bytes) → IfSome o (λ before. is_other before b bytes ≡ true)
told_turned None bytes b is = tt
told_turned (Some image) bytes b is = sym is

-- a write that failed, on a disk that wasn't written since it was another
pub write_stopped : (b first : ℕ) (bytes : List ℕ) (old mid new : DiskTold) → first ≡ 8 * b → IsUnwritten old mid → IfSome old.present (λ before. true ≡ is_other before b bytes)
    → HasMadePartly first bytes mid new ⊎ IsUnwritten mid new → IsStoppedAt b bytes old new
write_stopped b first bytes old mid new place same other (inr none) =
    inl (record { sectors = none.sectors ∙ same.sectors; content = none.content ∙ same.content; listed = none.listed ∙ same.listed; calls = none.calls ∙ same.calls })
write_stopped b first bytes old mid new place same other (inl partly) = inr (left, told_turned old.present bytes b other)
  where
    at : HasMadePartly (8 * b) bytes mid new
    at = subst (λ (k : ℕ). HasMadePartly k bytes mid new) place partly

    left : HasMadePartly (8 * b) bytes old new
    left = record {
      sectors = at.sectors ∙ same.sectors;
      tells = at.tells ∙ ap is_some same.content;
      content = subst (λ (o : Option Image). IfSome o (λ before. IfSome new.present (IsPartlyWritten (8 * b) bytes before))) same.content at.content;
      listed = at.listed ∙ ap (option_map (λ (r : Record). with_calls r (Write (8 * b) bytes ∷ []))) same.listed;
      count = at.count ∙ ap counted same.calls;
    }

-- a fact of what answered an error, or not
pub on_err : {T E : Type 0} {P : Type 0} (result : Result T E) → P → OnErr result P
on_err (Ok x) p = tt
on_err (Err e) p = p

pub on_ok : {T E : Type 0} {P : Type 0} (result : Result T E) → P → OnOk result P
on_ok (Ok x) p = p
on_ok (Err e) p = tt

-- a flush changes no content
pub flush_content : {T E : Type 0} (result : Result T E) (old new : DiskTold) → OnOk result (HasMade (Flush ∷ []) old new) → OnErr result (IsUnwritten old new) → new.present ≡ old.present
flush_content (Ok x) old new made none = made.content ∙ flushed old.present
  where
    flushed : (o : Option Image) → option_map (λ (i : Image). image_after i (Flush ∷ [])) o ≡ o
    flushed None = refl
    flushed (Some i) = refl
flush_content (Err e) old new made none = none.content
