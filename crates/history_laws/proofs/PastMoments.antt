-- Crash safety at an earlier moment, with the history that there is now.
use Rattle.std.proofs.Common.{◌≡◌, ◌≤◌, ◌<◌, ◌⊎◌, inl, inr, ℕ, zero, suc, ◌-◌, true, false, List, [], ◌∷◌, length, map, Option, Some, None, sym, ap, ◌∙◌, subst, arith}
use Rattle.std.specs.Prelude.{IfSome, IsSomeAnd, Contains}
use Rattle.std.specs.List.{AllByRecursion}
use Rattle.std.proofs.lemmas.List.{map-append}
use Rattle.std.proofs.lemmas.List.Elements.{Contains-append_cases, Contains-push_cases, Contains-append_left}
use Rattle.lufs_base.specs.declared.geometry.Geometry.{Geometry}
use Rattle.tree_types.specs.declared.history.Entry.{Entry}
use Rattle.tree_types.specs.declared.history.Commit.{Commit}
use Rattle.volume_model.specs.declared.device_call.DeviceCall.{DeviceCall}
use Rattle.volume_model.specs.Format.{Image}
use Rattle.volume_model.specs.Crash.{Record, with_calls}
use Rattle.volume_model.specs.Sound.{Tree, MountsAs, shape_of}
use Rattle.volume_model.proofs.CrashLaws.{grows}
use Rattle.history_model.specs.Histories.{History, entry_at, replay_of}
use Rattle.history_model.specs.Touched.{tree_before, touches_byte, IsAcknowledged, Settled}
use Rattle.history_model.specs.CrashSafety.{RecoversTo, IsBoundary, IsCrashSafeAt}
use Rattle.history_laws.specs.Additions.{IsSameEntry, AddsAfter}
use Rattle.history_laws.proofs.MoreEntries.{replayed_same, new_holds, old_holds, old_is}

-- a reply that was given by then was given already
told_before : (n : ℕ) (old new : Option ℕ) → (new ≡ old) ⊎ ((old ≡ None) × IsSomeAnd new (λ told. n < told)) → IsSomeAnd new (λ told. told ≤ n) → IsSomeAnd old (λ told. told ≤ n)
told_before n old new (inl same) by_then = subst (λ (o : Option ℕ). IsSomeAnd o (λ told. told ≤ n)) same by_then
told_before n old None (inr late) by_then = absurd by_then
told_before n old (Some t) (inr late) by_then = absurd (let past : n < t = late.1 in let low : t ≤ n = by_then in omega (arith, past, low))

told_still : (n : ℕ) (old new : Option ℕ) (P : Type 0) → (new ≡ old) ⊎ ((old ≡ None) × IsSomeAnd new (λ told. n < told)) → IfSome old (λ told. told ≤ n → P) → IfSome new (λ told. told ≤ n → P)
told_still n old new P (inl same) holds = subst (λ (o : Option ℕ). IfSome o (λ told. told ≤ n → P)) (sym same) holds
told_still n old None P (inr late) holds = tt
told_still n old (Some t) P (inr late) holds = λ low. absurd (let past : n < t = late.1 in omega (arith, past, low))

untold_still : (n : ℕ) (told : Option ℕ) (P : Type 0) → IfSome told (λ t. n < t) → IfSome told (λ t. t ≤ n → P)
untold_still n None P late = tt
untold_still n (Some t) P late = λ low. absurd (let past : n < t = late in omega (arith, past, low))

untold_not : (n : ℕ) (told : Option ℕ) → IfSome told (λ t. n < t) → IsSomeAnd told (λ t. t ≤ n) → ⊥
untold_not n None late low = low
untold_not n (Some t) late low = let past : n < t = late in let by_then : t ≤ n = low in omega (arith, past, by_then)

boundary_within : (commits : List Commit) (most b : ℕ) → AllByRecursion (λ c. c.boundary ≤ most) commits → Contains (map (λ c. c.boundary) commits) b → b ≤ most
boundary_within [] most b all here = absurd (omega (arith, here.1))
boundary_within (c ∷ commits) most b all here = elim (Contains-append_cases (c.boundary ∷ []) (map (λ (c : Commit). c.boundary) commits) b here) [
  | inl first ↦ elim (Contains-push_cases [] c.boundary b first) [
    | inl none ↦ absurd (omega (arith, none.1))
    | inr same ↦ let low : c.boundary ≤ most = all.0 in omega (arith, low, same)
  ]
  | inr later ↦ boundary_within commits most b all.1 later
]

module _ (g : Geometry) (moment : ℕ) (opening : Tree) (n : ℕ) (h k : History) (adds : AddsAfter n h k) where
  same_tree : (b : ℕ) → b ≤ length h.entries → replay_of g moment opening k.entries b ≡ replay_of g moment opening h.entries b
  unfolding replay_of
  same_tree b within = replayed_same n g moment opening h.entries k.entries b adds.entries within

  -- told synchronous entries
  abbrev TellsUpTo : (i b : ℕ) → Entry → Type 0
  TellsUpTo i b e = e.sync ≡ true → IfSome e.told (λ told. told ≤ n → i ≤ b)

  tells_same : (i b : ℕ) (e f : Entry) → IsSameEntry n e f → TellsUpTo i b e → TellsUpTo i b f
  tells_same i b e f same holds sync = told_still n e.told f.told (i ≤ b) same.told (holds (sym (ap (λ (x : Entry). x.sync) same.same) ∙ sync))

  tells_still : (i b : ℕ) → IfSome (entry_at h.entries i) (TellsUpTo i b) → IfSome (entry_at k.entries i) (TellsUpTo i b)
  tells_still zero b holds = tt
  tells_still (suc i) b holds =
      new_holds n (TellsUpTo (suc i) b) (TellsUpTo (suc i) b) h.entries k.entries i adds.entries (tells_same (suc i) b)
      (λ f late sync. untold_still n f.told (suc i ≤ b) late) holds

  -- settled bytes
  acknowledged_same : (tree : Tree) (ino : ℕ) (e f : Entry) → IsSameEntry n e f → IsAcknowledged tree n ino f → IsAcknowledged tree n ino e
  acknowledged_same tree ino e f same ack =
      let was = subst (IsAcknowledged tree n ino) same.same ack in
      record { call = was.call; reply = was.reply; told = told_before n e.told f.told same.told ack.told }

  acknowledged_before : (ino j : ℕ) → IsSomeAnd (entry_at k.entries j) (IsAcknowledged (tree_before g moment opening k.entries j) n ino)
      → IsSomeAnd (entry_at h.entries j) (IsAcknowledged (tree_before g moment opening h.entries j) n ino)
  acknowledged_before ino zero ack = absurd ack
  acknowledged_before ino (suc j) ack =
      (old_is n (IsAcknowledged (tree_before g moment opening h.entries (suc j)) n ino) (IsAcknowledged (tree_before g moment opening k.entries (suc j)) n ino) h.entries k.entries j adds.entries
      (λ within e f same ack. subst (λ (t : Tree). IsAcknowledged t n ino e) (same_tree (suc j - 1) (omega (arith, within))) (acknowledged_same (tree_before g moment opening k.entries (suc j)) ino e f same ack))
      (λ f late ack. untold_not n f.told late ack.told) ack).1

  abbrev LeavesByte : (tree : Tree) → (ino p : ℕ) → Entry → Type 0
  LeavesByte tree ino p e = e.start < n → touches_byte tree e ino p ≡ false

  leaves_same : (tree : Tree) (ino p : ℕ) (e f : Entry) → IsSameEntry n e f → LeavesByte tree ino p f → LeavesByte tree ino p e
  leaves_same tree ino p e f same leaves = subst (LeavesByte tree ino p) same.same leaves

  untouched_before : (ino p i : ℕ) → IfSome (entry_at k.entries i) (LeavesByte (tree_before g moment opening k.entries i) ino p)
      → IfSome (entry_at h.entries i) (LeavesByte (tree_before g moment opening h.entries i) ino p)
  untouched_before ino p zero leaves = tt
  untouched_before ino p (suc i) leaves =
      old_holds n (LeavesByte (tree_before g moment opening h.entries (suc i)) ino p) (LeavesByte (tree_before g moment opening k.entries (suc i)) ino p) h.entries k.entries i adds.entries
      (λ within e f same leaves. subst (λ (t : Tree). LeavesByte t ino p e) (same_tree (suc i - 1) (omega (arith, within))) (leaves_same (tree_before g moment opening k.entries (suc i)) ino p e f same leaves))
      leaves

  settled_before : (ino p : ℕ) → Settled g moment opening k.entries n ino p → Settled g moment opening h.entries n ino p
  settled_before ino p (j, since) = (
    j,
    record {
      acknowledged = elim since.acknowledged [
        | inl opens ↦ inl opens
        | inr ack ↦ inr (acknowledged_before ino j ack)
      ];
      untouched = λ i past. untouched_before ino p i (since.untouched i past);
    },
  )

  boundary_still : (b : ℕ) → IsBoundary h b → IsBoundary k b × (b ≤ length h.entries)
  boundary_still b (inl none) = (inl none, omega (arith, none))
  boundary_still b (inr some) = (
    inr (subst (λ (l : List ℕ). Contains l b) (sym (ap (map (λ (c : Commit). c.boundary)) adds.commits.1 ∙ map-append (λ (c : Commit). c.boundary) h.commits adds.commits.0))
        (Contains-append_left (map (λ (c : Commit). c.boundary) h.commits) (map (λ (c : Commit). c.boundary) adds.commits.0) b some)),
    boundary_within h.commits (length h.entries) b adds.within some,
  )

  recovers_still : (image : Image) (b : ℕ) → b ≤ length h.entries → RecoversTo g moment opening h n image b → RecoversTo g moment opening k n image b
  recovers_still image b within recovers = record {
    mounts = subst (λ (t : Tree). MountsAs image (shape_of t)) (sym (same_tree b within)) recovers.mounts;
    told = λ i. tells_still i b (recovers.told i);
    bytes = λ ino p value file is has settled. recovers.bytes ino p value file (sym (ap (λ (t : Tree). t ino) (same_tree b within)) ∙ is) has (settled_before ino p settled);
    idents = recovers.idents;
  }

  pub past : (r : Record) (more : List DeviceCall) → n ≤ length r.calls → IsCrashSafeAt g moment opening h r n → IsCrashSafeAt g moment opening k (with_calls r more) n
  past r more within safe image out =
      let found = safe image ((grows r more n image within).0 out) in
      let boundary = boundary_still found.0 found.1 in
      (found.0, boundary.0, recovers_still image found.0 boundary.1 found.2)
