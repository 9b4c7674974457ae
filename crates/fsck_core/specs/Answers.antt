-- What the answers of the parts of a check say.
use Rattle.std.specs.Prelude.{◌≡◌, ℕ, [], Option, Some, None, Result, Ok, Err, IfSome}
use Rattle.lufs_base.specs.declared.geometry.Geometry.{Geometry}
use Rattle.volume_model.specs.declared.finding.Kind.{Kind}
use Rattle.volume_model.specs.declared.finding.Verdict.{Verdict}
use Rattle.volume_model.specs.Format.{Blocks, block}
use Rattle.volume_model.specs.Sound.{reading_of, finding_of, verdict_of}
use Rattle.meta_store.specs.Store.{StoreTold}
use Rattle.meta_store.specs.declared.error.StoreError.{StoreError}
use Rattle.fsck_core.specs.declared.stop.Stop.{Stop}
use Rattle.fsck_core.specs.declared.stop.Stop.TheVariants.{Found, Failed}

-- how a check goes on where this is the lowest number for which a rule is broken
abbrev pub unless_found : Kind → Option ℕ → Result (Unit {0}) Stop
unless_found kind None = Ok tt
unless_found kind (Some number) = Err (Found kind number)

-- The answer of a part of a check of these blocks: what it keeps is so, or it has found what the check finds. A failure
-- says nothing of the blocks.
abbrev pub IsPart : {T : Type 0} → Geometry → Blocks → (T → Type 0) → Result T Stop → Type 0
IsPart g blocks Keeps (Ok kept) = Keeps kept
IsPart g blocks Keeps (Err (Found kind number)) = finding_of g (reading_of g blocks) [] ≡ Some (kind, number)
IsPart g blocks Keeps (Err (Failed error)) = Unit {0}

-- the same of the blocks that a store tells
abbrev pub IsPartOf : {T : Type 0} → StoreTold → (Geometry → Blocks → T → Type 0) → Result T Stop → Type 0
IsPartOf told Keeps result = IfSome told.content (λ image. IsPart told.geometry (block image) (Keeps told.geometry (block image)) result)

-- the answer of a check of these blocks
abbrev pub IsVerdict : Geometry → Blocks → Result Verdict StoreError → Type 0
IsVerdict g blocks (Ok verdict) = verdict ≡ verdict_of g blocks
IsVerdict g blocks (Err error) = Unit {0}

abbrev pub IsVerdictOf : StoreTold → Result Verdict StoreError → Type 0
IsVerdictOf told result = IfSome told.content (λ image. IsVerdict told.geometry (block image) result)
