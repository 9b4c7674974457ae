-- What a check knows of a store between its parts.
use Rattle.std.proofs.Common.{◌≡◌, ℕ, List, [], length, Option, Some, None, Result, Ok, Err, IfSome, sym, ap, ◌∙◌, subst}
use Rattle.lufs_base.specs.declared.geometry.Geometry.{Geometry}
use Rattle.volume_model.specs.declared.finding.Counts.{Counts}
use Rattle.volume_model.specs.declared.finding.Kind.{Kind}
use Rattle.volume_model.specs.declared.finding.Kind.TheVariants.{Group as of_groups}
use Rattle.volume_model.specs.declared.finding.Verdict.TheVariants.{Clean, Finding}
use Rattle.volume_model.specs.Format.{Image, Blocks, block}
use Rattle.volume_model.specs.Sound.{reading_of, first_of_kind, finding_of, counts_of, verdict_of, verdict_on}
use Rattle.cyl_groups.specs.declared.group.Group.{Group}
use Rattle.meta_store.specs.Store.{StoreTold, IsUnchanged}
use Rattle.fsck_core.specs.declared.stop.Stop.{Stop}
use Rattle.fsck_core.specs.declared.stop.Stop.TheVariants.{Found}
use Rattle.fsck_core.specs.Answers.{IsPart, IsPartOf, IsVerdictOf}
use Rattle.fsck_core.specs.Tables.{AreGroups}
use Rattle.fsck_core.proofs.RecordSteps.{no_bad_group}

-- what there is in a volume where no rule is broken
abbrev pub Says : Geometry → Blocks → Counts → Type 0
Says g blocks counts = (counts ≡ counts_of g (reading_of g blocks)) × (finding_of g (reading_of g blocks) [] ≡ None)

pub mapped : (P Q : Image → Type 0) (content : Option Image) → ((image : Image) → P image → Q image) → IfSome content P → IfSome content Q
mapped P Q None each told = tt
mapped P Q (Some image) each told = each image told

pub both : (P Q R : Image → Type 0) (content : Option Image) → ((image : Image) → P image → Q image → R image) → IfSome content P → IfSome content Q → IfSome content R
both P Q R None each first second = tt
both P Q R (Some image) each first second = each image first second

-- what was so of the blocks is still so, and was so before
pub carried : (P : Geometry → Image → Type 0) (old mid : StoreTold) → IsUnchanged old mid → IfSome old.content (P old.geometry) → IfSome mid.content (P mid.geometry)
carried P old mid same told =
    subst (λ (c : Option Image). IfSome c (P mid.geometry)) (sym same.content) (subst (λ (g : Geometry). IfSome old.content (P g)) (sym same.geometry) told)

pub groups_known : (old mid : StoreTold) (groups : List Group) → IsUnchanged old mid → IfSome old.content (λ image. AreGroups old.geometry (block image) groups)
    → length groups ≡ old.geometry.groups
    → IfSome mid.content (λ image. first_of_kind mid.geometry (reading_of mid.geometry (block image)) [] of_groups ≡ None)
groups_known old mid groups same told size =
    carried (λ g image. first_of_kind g (reading_of g (block image)) [] of_groups ≡ None) old mid same
    (mapped (λ image. AreGroups old.geometry (block image) groups) (λ image. first_of_kind old.geometry (reading_of old.geometry (block image)) [] of_groups ≡ None) old.content
    (λ image so. no_bad_group old.geometry (block image) groups so size) told)

-- the verdict by what was found
pub clean_verdict : (told : StoreTold) (counts : Counts) (result : Result Counts Stop) → IsPartOf told Says result → result ≡ Ok counts → IsVerdictOf told (Ok (Clean counts))
unfolding verdict_of
clean_verdict told counts result part is =
    mapped (λ image. IsPart told.geometry (block image) (Says told.geometry (block image)) result) (λ image. Clean counts ≡ verdict_of told.geometry (block image)) told.content
    (λ image so. one_clean told.geometry (block image) (subst (λ (r : Result Counts Stop). IsPart told.geometry (block image) (Says told.geometry (block image)) r) is so)) part
  where
    one_clean : (g : Geometry) (blocks : Blocks) → Says g blocks counts → Clean counts ≡ verdict_on g (reading_of g blocks) (finding_of g (reading_of g blocks) [])
    one_clean g blocks so = ap Clean so.0 ∙ sym (ap (verdict_on g (reading_of g blocks)) so.1)

pub finding_verdict : (told : StoreTold) (kind : Kind) (n : ℕ) (result : Result Counts Stop) → IsPartOf told Says result → result ≡ Err (Found kind n) → IsVerdictOf told (Ok (Finding kind n))
unfolding verdict_of
finding_verdict told kind n result part is =
    mapped (λ image. IsPart told.geometry (block image) (Says told.geometry (block image)) result) (λ image. Finding kind n ≡ verdict_of told.geometry (block image)) told.content
    (λ image so. sym (ap (verdict_on told.geometry (reading_of told.geometry (block image)))
    (subst (λ (r : Result Counts Stop). IsPart told.geometry (block image) (Says told.geometry (block image)) r) is so))) part
