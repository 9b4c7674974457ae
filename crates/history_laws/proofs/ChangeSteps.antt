-- The running version changes: a call takes blocks, is carried out, or changes nothing.
use Rattle.std.proofs.Common.{◌≡◌, ◌≤◌, inl, ℕ, suc, ◌/◌, List, [], length, Option, Some, None, refl, sym, ◌∙◌, subst, arith}
use Rattle.std.proofs.lemmas.Bool.{false≢true}
use Rattle.lufs_base.specs.declared.geometry.Geometry.{Geometry}
use Rattle.tree_types.specs.declared.history.Entry.{Entry}
use Rattle.volume_model.specs.declared.hand.Hand.{Hand}
use Rattle.volume_model.specs.Crash.{Record, with_calls, present_of}
use Rattle.volume_model.specs.Sound.{Reading, Tree, shape_of}
use Rattle.history_model.specs.Histories.{replay_of}
use Rattle.journal_model.specs.Journals.{SealedTx, Journal}
use Rattle.journal_model.specs.Versions.{Version, Published, Sealed, Running}
use Rattle.journal_model.specs.BlockRoles.{Role, Changes, moved}
use Rattle.journal_model.specs.Safety.{IsSafe}
use Rattle.journal_model.specs.Steps.{Step, Apply}
use Rattle.journal_laws.proofs.KeptSteps.{step_keeps}
use Rattle.journal_laws.proofs.Outcomes.{no_calls}
use Rattle.history_laws.specs.Named.{named_block, HasByteOf}
use Rattle.history_laws.specs.KeptBytes.{AreBytesKept}
use Rattle.history_laws.specs.Applied.{with_running, IsApplied}
use Rattle.history_laws.specs.Published.{reading_in, IsVersionOf, IsSealedBefore}
use Rattle.history_laws.specs.Volumes.{Volume, readings_of, IsRunningAs, KeepsHistory}
use Rattle.history_laws.specs.VolumeSteps.{IsPassing}
use Rattle.history_laws.proofs.AppliedBytes.{applied_kept}
use Rattle.history_laws.proofs.VersionsStay.{version_stays}

-- a change leaves the members, and what is read of the logged versions
same_members : (g : Geometry) (v : Volume) (to : ℕ → Role) (k : Journal) → Step g v.roles (present_of v.r) v.j (Changes to) [] k → k.members ≡ v.j.members
same_members g v _ _ (Apply change to running roles deltas) = refl

same_sealed : (g : Geometry) (v : Volume) (to : ℕ → Role) (k : Journal) → Step g v.roles (present_of v.r) v.j (Changes to) [] k → k.sealed ≡ v.j.sealed
same_sealed g v _ _ (Apply change to running roles deltas) = refl

changed_reading : (g : Geometry) (v : Volume) (to : ℕ → Role) (k : Journal) → Step g v.roles (present_of v.r) v.j (Changes to) [] k → (w : Version)
    → reading_in g k (present_of v.r) w ≡ with_running (readings_of g v) (reading_in g k (present_of v.r) Running) w
changed_reading g v _ _ (Apply change to running roles deltas) Published = refl
changed_reading g v _ _ (Apply change to running roles deltas) Sealed = refl
changed_reading g v _ _ (Apply change to running roles deltas) Running = refl

running_unchanged : {X : Type 0} (f : Version → X) (w : Version) → with_running f (f Running) w ≡ f w
running_unchanged f Published = refl
running_unchanged f Sealed = refl
running_unchanged f Running = refl

sealed_with : (entries : List Entry) (n x : ℕ) (held : Version → ℕ) (o : Option SealedTx) → IsSealedBefore entries n held o → IsSealedBefore entries n (with_running held x) o
sealed_with entries n x held None is = is
sealed_with entries n x held (Some s) is = is

-- bytes are kept by any readings that name the same
pub same_names_kept : (g : Geometry) (moment : ℕ) (opening : Tree) (entries : List Entry) (r : Record) (readings others : Version → Reading) (held : Version → ℕ)
    → ((w : Version) (ino index : ℕ) → named_block (others w) ino index ≡ named_block (readings w) ino index)
    → AreBytesKept g moment opening entries r readings held → AreBytesKept g moment opening entries r others held
same_names_kept g moment opening entries r readings others held same kept = record {
  order = kept.order;
  places = λ w ino index other at b one two. kept.places w ino index other at b (sym (same w ino index) ∙ one) (sym (same Running other at) ∙ two);
  published = λ ino p value b image has names free left. kept.published ino p value b image has (sym (same Published ino (p / 4096)) ∙ names) free left;
  sealed = λ ino p value b has names free. kept.sealed ino p value b has (sym (same Sealed ino (p / 4096)) ∙ names) free;
  running = λ ino p value b has names free. kept.running ino p value b has (sym (same Running ino (p / 4096)) ∙ names) free;
  to_sealed = λ ino p value b has names within.
      let one = kept.to_sealed ino p value b has (sym (same Sealed ino (p / 4096)) ∙ names) within in (same Published ino (p / 4096) ∙ one.0, one.1);
  to_running = λ ino p value b has names within.
      let one = kept.to_running ino p value b has (sym (same Running ino (p / 4096)) ∙ names) within in (same Sealed ino (p / 4096) ∙ one.0, one.1);
  begun = kept.begun;
}

module _ (g : Geometry) (moment : ℕ) (opening : Tree) (first : ℕ) (v : Volume) (keeps : KeepsHistory g moment opening first v) where
  at_rest : (P : Record → Type 0) → P (with_calls v.r []) → P v.r
  at_rest P = subst P (no_calls v.r)

  -- whatever the change is, by what it keeps of bytes
  change_keeps : (to : ℕ → Role) (k : Journal) (hands : List Hand) (count : ℕ) → Step g v.roles (present_of v.r) v.j (Changes to) [] k → 1 ≤ v.j.members
      → IsRunningAs g (moved (Changes to) v.roles) (present_of v.r) k hands (shape_of (replay_of g moment opening v.h.entries count))
      → AreBytesKept g moment opening v.h.entries v.r (with_running (readings_of g v) (reading_in g k (present_of v.r) Running)) (with_running v.held count)
      → KeepsHistory g moment opening first (record v { j = k; roles = moved (Changes to) v.roles; held = with_running v.held count; hands = hands })
  change_keeps to k hands count step inside running bytes =
      let published = shape_of (replay_of g moment opening v.h.entries (v.held Published)) in
      let sealed = shape_of (replay_of g moment opening v.h.entries (v.held Sealed)) in
      record {
        safe = at_rest (λ q. IsSafe g (moved (Changes to) v.roles) q k) (step_keeps g v.roles v.r v.j k (Changes to) [] keeps.safe step);
        versions = record {
          published = at_rest (λ q. IsVersionOf g (moved (Changes to) v.roles) (present_of q) k Published published)
              (version_stays g v.roles v.r v.j k (Changes to) [] keeps.safe step Published refl published keeps.versions.published);
          sealed = at_rest (λ q. IsVersionOf g (moved (Changes to) v.roles) (present_of q) k Sealed sealed)
              (version_stays g v.roles v.r v.j k (Changes to) [] keeps.safe step Sealed refl sealed keeps.versions.sealed);
          published_boundary = keeps.versions.published_boundary;
          sealed_boundary = keeps.versions.sealed_boundary;
        };
        running = running;
        bytes = subst (λ (readings : Version → Reading). AreBytesKept g moment opening v.h.entries v.r readings (with_running v.held count))
            (λ t w. sym (changed_reading g v to k step w) t) bytes;
        told = keeps.told;
        sealed = subst (IsSealedBefore v.h.entries (length v.r.calls) (with_running v.held count)) (sym (same_sealed g v to k step))
            (sealed_with v.h.entries (length v.r.calls) count v.held v.j.sealed keeps.sealed);
        idle = λ none. absurd (omega (arith, none, inside, same_members g v to k step));
        legal = keeps.legal;
        within = keeps.within;
        earlier = keeps.earlier;
        geometry = keeps.geometry;
      }

  pub applying_keeps : (to : ℕ → Role) (k : Journal) (hands : List Hand) → Step g v.roles (present_of v.r) v.j (Changes to) [] k → 1 ≤ v.j.members
      → IsRunningAs g (moved (Changes to) v.roles) (present_of v.r) k hands (shape_of (replay_of g moment opening v.h.entries (suc (v.held Running))))
      → IsApplied g moment opening v.h.entries v.r (readings_of g v) (v.held Running) (reading_in g k (present_of v.r) Running)
      → KeepsHistory g moment opening first (record v { j = k; roles = moved (Changes to) v.roles; held = with_running v.held (suc (v.held Running)); hands = hands })
  applying_keeps to k hands step inside running applied =
      change_keeps to k hands (suc (v.held Running)) step inside running
      (applied_kept g moment opening v.h.entries v.r (readings_of g v) v.held (reading_in g k (present_of v.r) Running) keeps.bytes applied)

  same_held : ◌≡◌ {A = Version → ℕ} (with_running v.held (v.held Running)) v.held
  same_held = λ t w. running_unchanged v.held w t

  pub taking_keeps : (to : ℕ → Role) (k : Journal) (hands : List Hand) → Step g v.roles (present_of v.r) v.j (Changes to) [] k → 1 ≤ v.j.members
      → IsRunningAs g (moved (Changes to) v.roles) (present_of v.r) k hands (shape_of (replay_of g moment opening v.h.entries (v.held Running)))
      → ((ino index : ℕ) → named_block (reading_in g k (present_of v.r) Running) ino index ≡ named_block (readings_of g v Running) ino index)
      → KeepsHistory g moment opening first (record v { j = k; roles = moved (Changes to) v.roles; hands = hands })
  taking_keeps to k hands step inside running same =
      subst (λ (held : Version → ℕ). KeepsHistory g moment opening first (record v { j = k; roles = moved (Changes to) v.roles; held = held; hands = hands })) same_held
      (change_keeps to k hands (v.held Running) step inside running
      (subst (λ (held : Version → ℕ). AreBytesKept g moment opening v.h.entries v.r (with_running (readings_of g v) (reading_in g k (present_of v.r) Running)) held) (sym same_held)
      (same_names_kept g moment opening v.h.entries v.r (readings_of g v) (with_running (readings_of g v) (reading_in g k (present_of v.r) Running)) v.held by_version keeps.bytes)))
    where
      by_version : (w : Version) (ino index : ℕ) → named_block (with_running (readings_of g v) (reading_in g k (present_of v.r) Running) w) ino index ≡ named_block (readings_of g v w) ino index
      by_version Published ino index = refl
      by_version Sealed ino index = refl
      by_version Running ino index = same ino index

  -- an entry that changes nothing
  passes : (passing : IsPassing g moment opening v.h.entries (v.held Running))
      → IsApplied g moment opening v.h.entries v.r (readings_of g v) (v.held Running) (readings_of g v Running)
  passes passing = record {
    entry = passing.entry;
    is = passing.is;
    claims = λ ino index b names. inl names;
    once = keeps.bytes.places Running;
    stays = λ ino p value b has names leaves. (names, subst (λ (t : Tree). HasByteOf t ino p value) passing.same has);
    touched = λ ino p value b has names touches. absurd (false≢true (sym (passing.untouched ino p) ∙ touches));
  }

  pub passing_keeps : IsPassing g moment opening v.h.entries (v.held Running) → KeepsHistory g moment opening first (record v { held = with_running v.held (suc (v.held Running)) })
  passing_keeps passing = record {
    safe = keeps.safe;
    versions = record {
      published = keeps.versions.published;
      sealed = keeps.versions.sealed;
      published_boundary = keeps.versions.published_boundary;
      sealed_boundary = keeps.versions.sealed_boundary;
    };
    running = subst (λ (t : Tree). IsRunningAs g v.roles (present_of v.r) v.j v.hands (shape_of t)) (sym passing.same) keeps.running;
    bytes = subst (λ (readings : Version → Reading). AreBytesKept g moment opening v.h.entries v.r readings (with_running v.held (suc (v.held Running))))
        (λ t w. running_unchanged (readings_of g v) w t)
        (applied_kept g moment opening v.h.entries v.r (readings_of g v) v.held (readings_of g v Running) keeps.bytes (passes passing));
    told = keeps.told;
    sealed = sealed_with v.h.entries (length v.r.calls) (suc (v.held Running)) v.held v.j.sealed keeps.sealed;
    idle = keeps.idle;
    legal = keeps.legal;
    within = keeps.within;
    earlier = keeps.earlier;
    geometry = keeps.geometry;
  }
