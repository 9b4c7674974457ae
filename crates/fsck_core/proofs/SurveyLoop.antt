-- The loop over the inodes that aren't settled, of the blocks that a store tells.
use Rattle.std.proofs.Common.{◌≡◌, ◌<◌, ◌≤◌, ℕ, ◌+◌, List, [], length, drop, get_or, Option, None, Result, Ok, Err, IfSome, sym, subst, arith}
use Rattle.std.specs.Prelude.{IsErrAnd}
use Rattle.std.proofs.lemmas.List.{drop_more, drop_all}
use Rattle.lufs_base.specs.declared.geometry.Geometry.{Geometry}
use Rattle.volume_model.specs.declared.finding.Kind.TheVariants.{Group as of_groups}
use Rattle.volume_model.specs.Format.{Image, Blocks, block, inodes_of}
use Rattle.volume_model.specs.Sound.{reading_of, first_of_kind}
use Rattle.meta_store.specs.Store.{StoreTold, IsUnchanged}
use Rattle.fsck_core.specs.declared.claims.Claims.{Claims}
use Rattle.fsck_core.specs.declared.inodes.Brief.{Brief}
use Rattle.fsck_core.specs.declared.inodes.Unsettled.{Unsettled}
use Rattle.fsck_core.specs.declared.stop.Stop.{Stop}
use Rattle.fsck_core.specs.declared.stop.Stop.TheVariants.{Found, Failed}
use Rattle.fsck_core.specs.declared.survey.Survey.{Survey}
use Rattle.fsck_core.specs.Answers.{IsPart}
use Rattle.fsck_core.specs.Inodes.{AreKept}
use Rattle.fsck_core.specs.Survey.{IsSurvey, Knows, IsHere}
use Rattle.fsck_core.proofs.LookSteps.{mapped, both, carried}
use Rattle.fsck_core.proofs.SurveyTold.{HasLooked, IsNext, next_looked, all_looked}

-- what is known of the inodes
pub told_known : (told : StoreTold) (briefs : List (Option Brief)) (unsettled : List Unsettled) (claims : Claims)
    → IfSome told.content (λ image. AreKept told.geometry (block image) (inodes_of told.geometry) briefs unsettled claims) → length briefs ≡ inodes_of told.geometry
    → IfSome told.content (λ image. first_of_kind told.geometry (reading_of told.geometry (block image)) [] of_groups ≡ None)
    → IfSome told.content (λ image. Knows told.geometry (block image) briefs)
told_known told briefs unsettled claims kept size groups =
    both (λ image. AreKept told.geometry (block image) (inodes_of told.geometry) briefs unsettled claims)
    (λ image. first_of_kind told.geometry (reading_of told.geometry (block image)) [] of_groups ≡ None)
    (λ image. Knows told.geometry (block image) briefs) told.content (λ image are none. record { briefs_are = are.briefs_are; size = size; groups = none }) kept groups

-- before the first one
pub told_first : (told : StoreTold) (briefs : List (Option Brief)) (unsettled : List Unsettled) (claims : Claims) (s : Survey)
    → IfSome told.content (λ image. AreKept told.geometry (block image) (inodes_of told.geometry) briefs unsettled claims)
    → ((blocks : Blocks) → AreKept told.geometry blocks (inodes_of told.geometry) briefs unsettled claims → IsSurvey told.geometry (reading_of told.geometry blocks) 0 s)
    → IfSome told.content (λ image. HasLooked told.geometry (block image) (drop 0 unsettled) s)
told_first told briefs unsettled claims s kept begun =
    mapped (λ image. AreKept told.geometry (block image) (inodes_of told.geometry) briefs unsettled claims) (λ image. HasLooked told.geometry (block image) unsettled s) told.content
    (λ image are. record { seen = 0; count = inodes_of told.geometry; size = omega arith; survey = begun (block image) are; rest_are = sym are.unsettled_are }) kept

next_at : (g : Geometry) (blocks : Blocks) (briefs : List (Option Brief)) (xs : List Unsettled) (k : ℕ) (d : Unsettled) (s : Survey) → k < length xs → Knows g blocks briefs
    → HasLooked g blocks (drop k xs) s → IsNext g blocks briefs (get_or xs k d) (drop (k + 1) xs) s
next_at g blocks briefs xs k d s below knows looked =
    next_looked g blocks briefs (get_or xs k d) (drop (k + 1) xs) s knows (subst (λ (l : List Unsettled). HasLooked g blocks l s) (drop_more xs k d below) looked)

-- the next one
pub told_next : (old mid : StoreTold) (briefs : List (Option Brief)) (xs : List Unsettled) (k : ℕ) (d : Unsettled) (s : Survey) → IsUnchanged old mid
    → IfSome old.content (λ image. Knows old.geometry (block image) briefs) → k < length xs
    → IfSome old.content (λ image. HasLooked old.geometry (block image) (drop k xs) s)
    → IfSome mid.content (λ image. IsHere mid.geometry (block image) briefs (get_or xs k d).ino (get_or xs k d).inode)
told_next old mid briefs xs k d s same known below looked =
    carried (λ g image. IsHere g (block image) briefs (get_or xs k d).ino (get_or xs k d).inode) old mid same
    (both (λ image. Knows old.geometry (block image) briefs) (λ image. HasLooked old.geometry (block image) (drop k xs) s)
    (λ image. IsHere old.geometry (block image) briefs (get_or xs k d).ino (get_or xs k d).inode) old.content
    (λ image knows has. (next_at old.geometry (block image) briefs xs k d s below knows has).at) known looked)

-- what is so of the blocks of an unchanged store was so before
pub carried_back : (P : Geometry → Image → Type 0) (old mid : StoreTold) → IsUnchanged old mid → IfSome mid.content (P mid.geometry) → IfSome old.content (P old.geometry)
carried_back P old mid same told =
    subst (λ (c : Option Image). IfSome c (P old.geometry)) same.content (subst (λ (g : Geometry). IfSome mid.content (P g)) same.geometry told)

-- which was looked at
pub told_more : (old mid : StoreTold) (briefs : List (Option Brief)) (xs : List Unsettled) (k : ℕ) (d : Unsettled) (s t : Survey) → IsUnchanged old mid
    → IfSome old.content (λ image. Knows old.geometry (block image) briefs) → k < length xs
    → IfSome old.content (λ image. HasLooked old.geometry (block image) (drop k xs) s)
    → IfSome mid.content (λ image. IsSurvey mid.geometry (reading_of mid.geometry (block image)) (get_or xs k d).ino s
    → IsSurvey mid.geometry (reading_of mid.geometry (block image)) ((get_or xs k d).ino + 1) t)
    → IfSome old.content (λ image. HasLooked old.geometry (block image) (drop (k + 1) xs) t)
told_more old mid briefs xs k d s t same known below looked step =
    let o = get_or xs k d in
    both (λ image. IsNext old.geometry (block image) briefs o (drop (k + 1) xs) s)
    (λ image. IsSurvey old.geometry (reading_of old.geometry (block image)) o.ino s → IsSurvey old.geometry (reading_of old.geometry (block image)) (o.ino + 1) t)
    (λ image. HasLooked old.geometry (block image) (drop (k + 1) xs) t) old.content (λ image next on. next.after t (on next.survey))
    (both (λ image. Knows old.geometry (block image) briefs) (λ image. HasLooked old.geometry (block image) (drop k xs) s)
    (λ image. IsNext old.geometry (block image) briefs o (drop (k + 1) xs) s) old.content
    (λ image knows has. next_at old.geometry (block image) briefs xs k d s below knows has) known looked)
    (carried_back (λ g image. IsSurvey g (reading_of g (block image)) o.ino s → IsSurvey g (reading_of g (block image)) (o.ino + 1) t) old mid same step)

-- a part that ended early ends the whole
pub part_stopped : {S T : Type 0} (P : S → Type 0) (Keeps : T → Type 0) (g : Geometry) (blocks : Blocks) (stop : Stop) (result : Result T Stop)
    → IsPart g blocks P (Err stop) → IsErrAnd result (λ e. e ≡ stop) → IsPart g blocks Keeps result
part_stopped P Keeps g blocks stop (Ok kept) part given = absurd given
part_stopped {S} P Keeps g blocks stop (Err e) part given = by_stop e (subst (λ (x : Stop). IsPart g blocks P (Err x)) (sym given) part)
  where
    by_stop : (x : Stop) → IsPart g blocks P (Err x) → IsPart g blocks Keeps (Err x)
    by_stop (Found kind number) so = so
    by_stop (Failed error) so = so

pub told_stopped : {S T : Type 0} (P : Geometry → Image → ℕ → S → Type 0) (Keeps : Geometry → Blocks → T → Type 0) (old mid : StoreTold) (briefs : List (Option Brief)) (xs : List Unsettled) (k : ℕ) (d : Unsettled)
    (s : Survey) (stop : Stop) (result : Result T Stop) → IsUnchanged old mid
    → IfSome old.content (λ image. Knows old.geometry (block image) briefs) → k < length xs
    → IfSome old.content (λ image. HasLooked old.geometry (block image) (drop k xs) s)
    → IfSome mid.content (λ image. IsSurvey mid.geometry (reading_of mid.geometry (block image)) (get_or xs k d).ino s → IsPart mid.geometry (block image) (P mid.geometry image (get_or xs k d).ino) (Err stop))
    → IsErrAnd result (λ e. e ≡ stop) → IfSome old.content (λ image. IsPart old.geometry (block image) (Keeps old.geometry (block image)) result)
told_stopped P Keeps old mid briefs xs k d s stop result same known below looked part given =
    let o = get_or xs k d in
    both (λ image. IsNext old.geometry (block image) briefs o (drop (k + 1) xs) s)
    (λ image. IsSurvey old.geometry (reading_of old.geometry (block image)) o.ino s → IsPart old.geometry (block image) (P old.geometry image o.ino) (Err stop))
    (λ image. IsPart old.geometry (block image) (Keeps old.geometry (block image)) result) old.content
    (λ image next ends. part_stopped (P old.geometry image o.ino) (Keeps old.geometry (block image)) old.geometry (block image) stop result (ends next.survey) given)
    (both (λ image. Knows old.geometry (block image) briefs) (λ image. HasLooked old.geometry (block image) (drop k xs) s)
    (λ image. IsNext old.geometry (block image) briefs o (drop (k + 1) xs) s) old.content
    (λ image knows has. next_at old.geometry (block image) briefs xs k d s below knows has) known looked)
    (carried_back (λ g image. IsSurvey g (reading_of g (block image)) o.ino s → IsPart g (block image) (P g image o.ino) (Err stop)) old mid same part)

-- after the last one
pub told_all : (told : StoreTold) (briefs : List (Option Brief)) (xs : List Unsettled) (k : ℕ) (s : Survey) → IfSome told.content (λ image. Knows told.geometry (block image) briefs)
    → length xs ≤ k → IfSome told.content (λ image. HasLooked told.geometry (block image) (drop k xs) s)
    → IfSome told.content (λ image. IsSurvey told.geometry (reading_of told.geometry (block image)) (inodes_of told.geometry) s)
told_all told briefs xs k s known end looked =
    both (λ image. Knows told.geometry (block image) briefs) (λ image. HasLooked told.geometry (block image) (drop k xs) s)
    (λ image. IsSurvey told.geometry (reading_of told.geometry (block image)) (inodes_of told.geometry) s) told.content
    (λ image knows has. all_looked told.geometry (block image) briefs s knows (subst (λ (l : List Unsettled). HasLooked told.geometry (block image) l s) (drop_all k xs end) has)) known looked
