-- A volume that keeps its history is crash safe at each moment up to now, and so at each before the next call is listed.
use Rattle.std.proofs.Common.{◌≡◌, ◌≤◌, ◌<◌, inl, inr, ℕ, List, [], ◌∷◌, length, Some, refl, sym, subst, arith, length-append}
use Rattle.std.proofs.lemmas.Bool.{cases_lt}
use Rattle.std.proofs.lemmas.List.{append-nil}
use Rattle.lufs_base.specs.declared.geometry.Geometry.{Geometry}
use Rattle.tree_types.specs.declared.history.Entry.{Entry}
use Rattle.volume_model.specs.declared.device_call.DeviceCall.{DeviceCall}
use Rattle.volume_model.specs.Format.{Image, geometry_of}
use Rattle.volume_model.specs.Crash.{Record, with_calls, Outcome}
use Rattle.volume_model.specs.Sound.{Tree}
use Rattle.volume_model.proofs.CrashLaws.{grows}
use Rattle.history_model.specs.Histories.{History}
use Rattle.history_model.specs.CrashSafety.{IsCrashSafeAt}
use Rattle.journal_model.specs.Journals.{Journal}
use Rattle.journal_model.specs.BlockRoles.{Roles, Move}
use Rattle.journal_model.specs.Steps.{Step, Admit, Leave, Apply, RawWrite, Seal, LogWrite, Publish, Pick, RollWrite, RollFlush, Trim, TrimFlush}
use Rattle.journal_laws.proofs.Outcomes.{no_calls}
use Rattle.history_laws.specs.Additions.{AreMoreEntries, AddsAfter}
use Rattle.history_laws.specs.Volumes.{Volume, KeepsHistory}
use Rattle.history_laws.proofs.NowSafe.{now_safe}
use Rattle.history_laws.proofs.PastMoments.{past}

pub same_entries : (n : ℕ) (entries : List Entry) → AreMoreEntries n entries entries
same_entries n [] = tt
same_entries n (e ∷ entries) = (record { same = refl; told = inl refl }, same_entries n entries)

-- a step of the journal makes one call at most
pub few_calls : (g : Geometry) (roles : Roles) (home : Image) (j k : Journal) (move : Move) (calls : List DeviceCall) → Step g roles home j move calls k → length calls ≤ 1
few_calls g roles home j _ _ _ (Admit need fits) = omega arith
few_calls g roles home j _ _ _ (Leave members unspent left one some none) = omega arith
few_calls g roles home j _ _ _ (Apply change to running roles_move deltas_move) = omega arith
few_calls g roles home j _ _ _ (RawWrite first bytes may) = omega arith
few_calls g roles home j _ _ _ (Seal none idle fits number) = omega arith
few_calls g roles home j _ _ _ (LogWrite s n sealed turn) = omega arith
few_calls g roles home j _ _ _ (Publish s sealed whole) = omega arith
few_calls g roles home j _ _ _ (Pick held idle some laid) = omega arith
few_calls g roles home j _ _ _ (RollWrite batch b left writing next) = omega arith
few_calls g roles home j _ _ _ (RollFlush batch writing done) = omega arith
few_calls g roles home j _ _ _ (Trim batch kept) = omega arith
few_calls g roles home j _ _ _ (TrimFlush batch trimmed) = omega arith

module _ (g : Geometry) (moment : ℕ) (opening : Tree) (first : ℕ) (v : Volume) (keeps : KeepsHistory g moment opening first v) where
  pub now : IsCrashSafeAt g moment opening v.h v.r (length v.r.calls)
  now = now_safe g moment opening v.h v.roles v.r v.j v.held keeps.safe keeps.versions keeps.bytes keeps.told keeps.sealed

  pub up_to_now : (n : ℕ) → first ≤ n → n ≤ length v.r.calls → IsCrashSafeAt g moment opening v.h v.r n
  up_to_now n from within = elim (cases_lt n (length v.r.calls)) [
    | inl before ↦ keeps.earlier n from before
    | inr here ↦ let at : length v.r.calls ≡ n = omega (arith, here, within) in subst (IsCrashSafeAt g moment opening v.h v.r) at now
  ]

  pub geometry_up_to_now : (n : ℕ) (image : Image) → first ≤ n → n ≤ length v.r.calls → Outcome v.r n image → geometry_of image ≡ Some g
  geometry_up_to_now n image from within left = elim (cases_lt n (length v.r.calls)) [
    | inl before ↦ keeps.geometry n image from before left
    | inr here ↦ let at : n ≡ length v.r.calls = omega (arith, here, within) in (keeps.safe.each image (subst (λ (m : ℕ). Outcome v.r m image) at left)).geometry
  ]

  adds_nothing : (n : ℕ) → AddsAfter n v.h v.h
  adds_nothing n = record { entries = same_entries n v.h.entries; commits = ([], sym (append-nil v.h.commits)); within = keeps.within }

  module _ (calls : List DeviceCall) (few : length calls ≤ 1) where
    before_call : (n : ℕ) → n < length (with_calls v.r calls).calls → n ≤ length v.r.calls
    before_call n within = omega (arith, within, few, length-append v.r.calls calls)

    pub earlier_called : (n : ℕ) → first ≤ n → n < length (with_calls v.r calls).calls → IsCrashSafeAt g moment opening v.h (with_calls v.r calls) n
    earlier_called n from within =
        past g moment opening n v.h v.h (adds_nothing n) v.r calls (before_call n within) (up_to_now n from (before_call n within))

    pub geometry_called : (n : ℕ) (image : Image) → first ≤ n → n < length (with_calls v.r calls).calls → Outcome (with_calls v.r calls) n image → geometry_of image ≡ Some g
    geometry_called n image from within left =
        geometry_up_to_now n image from (before_call n within) ((grows v.r calls n image (before_call n within)).0 left)

  -- with what the history has more, and no call more
  pub earlier_added : (h : History) → ((n : ℕ) → n < length v.r.calls → AddsAfter n v.h h) → (n : ℕ) → first ≤ n → n < length v.r.calls → IsCrashSafeAt g moment opening h v.r n
  earlier_added h adds n from before =
      subst (λ (q : Record). IsCrashSafeAt g moment opening h q n) (no_calls v.r)
      (past g moment opening n v.h h (adds n before) v.r [] (omega (arith, before)) (keeps.earlier n from before))
