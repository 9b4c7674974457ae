-- The log of a disk, emptied by a header of the next epoch.
use Rattle.std.proofs.Common.{◌≡◌, ◌≤◌, inr, ℕ, ◌+◌, ◌*◌, ◌/◌, List, [], ◌∷◌, length, Option, Some, None, Result, IfSome, refl, sym, ap, ◌∙◌, subst, arith}
use Rattle.std.specs.Prelude.{option_map}
use Rattle.std.proofs.lemmas.List.{length-replicate}
use Rattle.lufs_base.specs.Layout.{header_sector}
use Rattle.lufs_base.specs.declared.geometry.Geometry.{Geometry}
use Rattle.volume_model.specs.declared.device_call.DeviceCall.{DeviceCall}
use Rattle.volume_model.specs.declared.device_call.DeviceCall.TheVariants.{Write}
use Rattle.volume_model.specs.declared.log.Header.{Header}
use Rattle.volume_model.specs.Format.{Image, overwritten}
use Rattle.volume_model.specs.Log.{header_bytes}
use Rattle.volume_model.specs.Crash.{IsPartlyWritten, image_after}
use Rattle.volume_model.proofs.Sectors.{length-overwritten}
use Rattle.journal_model.specs.Mount.{next_epoch}
use Rattle.sector_disk.specs.Disk.{DiskTold, Makes}
use Rattle.plain_image.specs.HomesWritten.{IsHeaderPartly}

pub header_size : (h : Header) → length (header_bytes h) ≡ 512
unfolding header_bytes
header_size h = omega (arith, length-replicate {A = ℕ} 496 0)

abbrev pub header_call : Geometry → Header → DeviceCall
header_call g h = Write (header_sector g) (header_bytes (next_epoch h))

-- the write of these bytes is that of the header
pub header_makes : {T E : Type 0} (result : Result T E) (g : Geometry) (h : Header) (bytes : List ℕ) (first : ℕ) (old new : DiskTold) → first ≡ header_sector g → bytes ≡ header_bytes (next_epoch h)
    → Makes (Write first bytes ∷ []) result old new → Makes (header_call g h ∷ []) result old new
header_makes result g h bytes first old new place is makes =
    subst (λ (call : DeviceCall). Makes (call ∷ []) result old new) (ap (λ (k : ℕ). Write k bytes) place ∙ ap (λ (l : List ℕ). Write (header_sector g) l) is) makes

-- all of it
all_written : (first : ℕ) (bytes : List ℕ) (o n : Option Image) → IfSome o (λ before. 512 * first + length bytes ≤ length before) → n ≡ option_map (λ (i : Image). overwritten i first bytes) o
    → IfSome o (λ before. IfSome n (IsPartlyWritten first bytes before))
all_written first bytes None n fits is = tt
all_written first bytes (Some before) n fits is =
    subst (λ (o : Option Image). IfSome o (IsPartlyWritten first bytes before)) (sym is) (record { size = length-overwritten before first bytes fits; each = λ k. inr refl })

fits_told : (h : Header) (o : Option Image) (sectors : ℕ) → IfSome o (λ i. length i / 512 ≡ sectors) → 25 ≤ sectors → IfSome o (λ before. 512 * 24 + length (header_bytes h) ≤ length before)
fits_told h None sectors size fits = tt
fits_told h (Some i) sectors size fits = omega (arith, header_size h, size, fits)

pub header_written : (g : Geometry) (h : Header) (old new : DiskTold) (sectors : ℕ) → IfSome old.present (λ i. length i / 512 ≡ sectors) → 25 ≤ sectors
    → new.present ≡ option_map (λ (i : Image). overwritten i (header_sector g) (header_bytes (next_epoch h))) old.present → IsHeaderPartly g h old new
header_written g h old new sectors size fits is =
    all_written (header_sector g) (header_bytes (next_epoch h)) old.present new.present (fits_told (next_epoch h) old.present sectors size fits) is

-- the content after the write of the header
pub written_from : (g : Geometry) (h : Header) (bytes : List ℕ) (first : ℕ) (before mid after : Option Image) → first ≡ header_sector g → bytes ≡ header_bytes (next_epoch h) → mid ≡ before
    → after ≡ option_map (λ (i : Image). image_after i (Write first bytes ∷ [])) mid → after ≡ option_map (λ (i : Image). overwritten i (header_sector g) (header_bytes (next_epoch h))) before
written_from g h bytes first before mid after place is same after_is =
    after_is ∙ ap (λ (o : Option Image). option_map (λ (i : Image). overwritten i first bytes) o) same
    ∙ ap (λ (k : ℕ). option_map (λ (i : Image). overwritten i k bytes) before) place ∙ ap (λ (l : List ℕ). option_map (λ (i : Image). overwritten i (header_sector g) l) before) is
