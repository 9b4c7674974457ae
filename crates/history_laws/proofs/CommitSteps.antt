-- A commit begins and ends: versions move, and with them the entries that they hold.
use Rattle.std.proofs.Common.{◌≡◌, ◌≤◌, inl, inr, ℕ, true, List, [], ◌∷◌, ◌++◌, length, map, Option, Some, None, refl, sym, subst, arith}
use Rattle.std.specs.Prelude.{IfSome, Contains}
use Rattle.std.specs.List.{AllByRecursion}
use Rattle.std.proofs.lemmas.List.{map-append}
use Rattle.std.proofs.lemmas.List.Elements.{Contains-append_left, Contains-append_right}
use Rattle.lufs_base.specs.declared.geometry.Geometry.{Geometry}
use Rattle.tree_types.specs.declared.waiting.Cause.{Cause}
use Rattle.tree_types.specs.declared.history.Entry.{Entry}
use Rattle.tree_types.specs.declared.history.Commit.{Commit}
use Rattle.volume_model.specs.declared.device_call.DeviceCall.{DeviceCall}
use Rattle.volume_model.specs.declared.device_call.DeviceCall.TheVariants.{Flush}
use Rattle.volume_model.specs.Format.{block}
use Rattle.volume_model.specs.Crash.{Record, with_calls, present_of}
use Rattle.volume_model.specs.Sound.{Reading, Sound, Tree, shape_of}
use Rattle.history_model.specs.Histories.{History, entry_at, replay_of}
use Rattle.history_model.specs.CrashSafety.{IsBoundary}
use Rattle.journal_model.specs.Journals.{Journal}
use Rattle.journal_model.specs.Versions.{Version, Published, Sealed, Running, content_of}
use Rattle.journal_model.specs.BlockRoles.{Seals, Publishes, moved, moved_from}
use Rattle.journal_model.specs.Safety.{IsSafe}
use Rattle.journal_model.specs.Steps.{Step, Seal, Publish}
use Rattle.journal_laws.proofs.KeptSteps.{step_keeps}
use Rattle.journal_laws.proofs.Outcomes.{no_calls}
use Rattle.journal_laws.proofs.Replays.{each_both}
use Rattle.journal_laws.proofs.SealStep.{with_sealed}
use Rattle.history_laws.specs.Additions.{AddsAfter}
use Rattle.history_laws.specs.KeptBytes.{AreBytesKept, AreToldPublished}
use Rattle.history_laws.specs.Published.{reading_in, IsVersionOf}
use Rattle.history_laws.specs.Volumes.{Volume, readings_of, IsRunningAs, KeepsHistory}
use Rattle.history_laws.proofs.MovedBytes.{seal_kept, publish_kept}
use Rattle.history_laws.proofs.Moments.{same_entries, few_calls, earlier_called, earlier_added, geometry_called}
use Rattle.history_laws.proofs.VersionsStay.{version_stays, running_stays}
use Rattle.history_laws.proofs.VolumeFacts.{carried_readings}

-- a boundary stays one as commits are added, and the last one is
old_boundary : (h : History) (c : Commit) (k : ℕ) → IsBoundary h k → IsBoundary (record h { commits = h.commits ++ c ∷ [] }) k
old_boundary h c k (inl none) = inl none
old_boundary h c k (inr some) =
    inr (subst (λ (l : List ℕ). Contains l k) (sym (map-append (λ (c : Commit). c.boundary) h.commits (c ∷ [])))
    (Contains-append_left (map (λ (c : Commit). c.boundary) h.commits) (c.boundary ∷ []) k some))

new_boundary : (h : History) (c : Commit) → IsBoundary (record h { commits = h.commits ++ c ∷ [] }) c.boundary
new_boundary h c =
    inr (subst (λ (l : List ℕ). Contains l c.boundary) (sym (map-append (λ (c : Commit). c.boundary) h.commits (c ∷ [])))
    (Contains-append_right (map (λ (c : Commit). c.boundary) h.commits) (c.boundary ∷ []) c.boundary (0, omega arith, refl)))

told_more : (entries : List Entry) (k m : ℕ) → k ≤ m → AreToldPublished entries k → AreToldPublished entries m
told_more entries k m more told = record { told = λ i. for_entry (entry_at entries i) i (told.told i); fsyncs = told.fsyncs }
  where
    for_reply : (o : Option ℕ) (i : ℕ) → IfSome o (λ told. i ≤ k) → IfSome o (λ told. i ≤ m)
    for_reply None i low = tt
    for_reply (Some t) i low = let here : i ≤ k = low in omega (arith, here, more)

    for_entry : (o : Option Entry) (i : ℕ) → IfSome o (λ e. e.sync ≡ true → IfSome e.told (λ told. i ≤ k)) → IfSome o (λ e. e.sync ≡ true → IfSome e.told (λ told. i ≤ m))
    for_entry None i low = tt
    for_entry (Some e) i low = λ sync. for_reply e.told i (low sync)

module _ (g : Geometry) (moment : ℕ) (opening : Tree) (first : ℕ) (v : Volume) (keeps : KeepsHistory g moment opening first v) where
  -- with nothing in hand the running version may be sealed
  running_version : v.hands ≡ [] → IsVersionOf g v.roles (present_of v.r) v.j Running (shape_of (replay_of g moment opening v.h.entries (v.held Running)))
  running_version none = record {
    content = record { sound = subst (Sound g (block (content_of g v.j Running (present_of v.r)))) none keeps.running.sound; has = keeps.running.has };
    read = keeps.running.read;
  }

  abbrev commit_of : Cause → Commit
  commit_of cause = record { boundary = v.held Running; cause = cause }

  within : (cause : Cause) → AllByRecursion (λ (c : Commit). c.boundary ≤ length v.h.entries) (v.h.commits ++ commit_of cause ∷ [])
  within cause = each_both (λ (c : Commit). c.boundary ≤ length v.h.entries) v.h.commits (commit_of cause ∷ []) keeps.within (keeps.bytes.order.all, tt)

  adds : (cause : Cause) (n : ℕ) → AddsAfter n v.h (record v.h { commits = v.h.commits ++ commit_of cause ∷ [] })
  adds cause n = record { entries = same_entries n v.h.entries; commits = (commit_of cause ∷ [], refl); within = keeps.within }

  at_rest : (P : Record → Type 0) → P (with_calls v.r []) → P v.r
  at_rest P = subst P (no_calls v.r)

  pub seal_keeps : (cause : Cause) (k : Journal) → Step g v.roles (present_of v.r) v.j Seals [] k
      → KeepsHistory g moment opening first (record v {
        j = k;
        roles = moved Seals v.roles;
        held = λ w. v.held (moved_from Seals w);
        h = record v.h { commits = v.h.commits ++ record { boundary = v.held Running; cause = cause } ∷ [] };
      })
  seal_keeps cause _ (Seal none idle fits number) =
      let published = shape_of (replay_of g moment opening v.h.entries (v.held Published)) in
      let running = shape_of (replay_of g moment opening v.h.entries (v.held Running)) in
      record {
        safe = at_rest (λ q. IsSafe g (moved Seals v.roles) q (with_sealed g v.j)) (step_keeps g v.roles v.r v.j _ Seals [] keeps.safe (Seal none idle fits number));
        versions = record {
          published = at_rest (λ q. IsVersionOf g (moved Seals v.roles) (present_of q) (with_sealed g v.j) Published published)
              (version_stays g v.roles v.r v.j _ Seals [] keeps.safe (Seal none idle fits number) Published refl published keeps.versions.published);
          sealed = at_rest (λ q. IsVersionOf g (moved Seals v.roles) (present_of q) (with_sealed g v.j) Sealed running)
              (version_stays g v.roles v.r v.j _ Seals [] keeps.safe (Seal none idle fits number) Sealed refl running (running_version (keeps.idle idle)));
          published_boundary = old_boundary v.h (commit_of cause) (v.held Published) keeps.versions.published_boundary;
          sealed_boundary = new_boundary v.h (commit_of cause);
        };
        running = at_rest (λ q. IsRunningAs g (moved Seals v.roles) (present_of q) (with_sealed g v.j) v.hands running)
            (running_stays g v.roles v.r v.j _ Seals [] keeps.safe (Seal none idle fits number) refl v.hands running keeps.running.sound keeps.running.has keeps.running.read);
        bytes = subst (λ (readings : Version → Reading). AreBytesKept g moment opening v.h.entries v.r readings (λ w. v.held (moved_from Seals w)))
            (sym (at_rest (λ q. ◌≡◌ {A = Version → Reading} (reading_in g (with_sealed g v.j) (present_of q)) (λ w. readings_of g v (moved_from Seals w)))
            (carried_readings g moment opening first v keeps _ Seals [] (Seal none idle fits number) (λ w. refl))))
            (seal_kept g moment opening v.h.entries v.r (readings_of g v) v.held keeps.bytes);
        told = keeps.told;
        sealed = λ some. absurd (omega (arith, some));
        idle = keeps.idle;
        legal = keeps.legal;
        within = within cause;
        earlier = earlier_added g moment opening first v keeps _ (λ n before. adds cause n);
        geometry = keeps.geometry;
      }

  pub publish_keeps : (calls : List DeviceCall) (k : Journal) → Step g v.roles (present_of v.r) v.j Publishes calls k
      → KeepsHistory g moment opening first (record v { r = with_calls v.r calls; j = k; roles = moved Publishes v.roles; held = λ w. v.held (moved_from Publishes w) })
  publish_keeps _ _ (Publish s is whole) =
      let few = few_calls g v.roles (present_of v.r) v.j _ Publishes (Flush ∷ []) (Publish s is whole) in
      let sealed = shape_of (replay_of g moment opening v.h.entries (v.held Sealed)) in
      let running = shape_of (replay_of g moment opening v.h.entries (v.held Running)) in
      record {
        safe = step_keeps g v.roles v.r v.j _ Publishes (Flush ∷ []) keeps.safe (Publish s is whole);
        versions = record {
          published = version_stays g v.roles v.r v.j _ Publishes (Flush ∷ []) keeps.safe (Publish s is whole) Published refl sealed keeps.versions.sealed;
          sealed = version_stays g v.roles v.r v.j _ Publishes (Flush ∷ []) keeps.safe (Publish s is whole) Sealed refl sealed keeps.versions.sealed;
          published_boundary = keeps.versions.sealed_boundary;
          sealed_boundary = keeps.versions.sealed_boundary;
        };
        running = running_stays g v.roles v.r v.j _ Publishes (Flush ∷ []) keeps.safe (Publish s is whole) refl v.hands running keeps.running.sound keeps.running.has keeps.running.read;
        bytes = subst (λ (readings : Version → Reading). AreBytesKept g moment opening v.h.entries (with_calls v.r (Flush ∷ [])) readings (λ w. v.held (moved_from Publishes w)))
            (sym (carried_readings g moment opening first v keeps _ Publishes (Flush ∷ []) (Publish s is whole) (λ w. refl)))
            (publish_kept g moment opening v.h.entries v.r keeps.safe.sectors (readings_of g v) v.held keeps.bytes);
        told = told_more v.h.entries (v.held Published) (v.held Sealed) keeps.bytes.order.sealed keeps.told;
        sealed = omega arith;
        idle = keeps.idle;
        legal = keeps.legal;
        within = keeps.within;
        earlier = earlier_called g moment opening first v keeps (Flush ∷ []) few;
        geometry = geometry_called g moment opening first v keeps (Flush ∷ []) few;
      }
