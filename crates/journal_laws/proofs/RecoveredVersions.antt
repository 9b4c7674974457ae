-- What a mount lists of an image that a crash left, and what a replay of it gives: the published version, or the sealed one.
use Rattle.std.proofs.Common.{◌≡◌, ◌≤◌, ◌<◌, ◌⊎◌, inl, inr, ℕ, zero, suc, ◌+◌, ◌*◌, ◌/◌, eqb, Bool, true, false, List, [], ◌∷◌, ◌++◌, length, take, drop, slice_index, Option, Some, None, refl, sym, ap, ◌∙◌, subst, arith}
use Rattle.std.specs.Prelude.{IfSome}
use Rattle.std.proofs.lemmas.Bool.{cases_Bool, cond-true, cond-false, eqb-false, false_from_ne_true, false≢true}
use Rattle.lufs_base.specs.declared.geometry.Geometry.{Geometry}
use Rattle.volume_model.specs.declared.device_call.DeviceCall.{DeviceCall}
use Rattle.volume_model.specs.declared.log.Header.{Header}
use Rattle.volume_model.specs.declared.log.Tx.{Tx}
use Rattle.volume_model.specs.Format.{Image}
use Rattle.volume_model.specs.Log.{Listed, WithHeader, log_of}
use Rattle.volume_model.specs.Crash.{Record, with_calls, Outcome, present_of}
use Rattle.volume_model.specs.Sound.{HasNoLaterIdent}
use Rattle.log_laws.specs.LogOnImage.{ring_sector, HasLog}
use Rattle.log_laws.proofs.ImageSteps.{mounts, no_later_ident}
use Rattle.log_laws.proofs.JournalSteps.{step_trim}
use Rattle.log_laws.specs.LogRing.{IsLogRing}
use Rattle.std.proofs.lemmas.List.{take-append-drop}
use Rattle.journal_model.specs.Journals.{SealedTx, Roll, Idle, Writing, Home, Trimmed, Journal}
use Rattle.journal_model.specs.Versions.{Version, Published, Sealed, Running, is_logged, tx_in, tx_written, written_txs, header_after, txs_after, txs_of}
use Rattle.journal_model.specs.LaidBlocks.{replayed_byte, is_laid_by}
use Rattle.journal_model.specs.BlockRoles.{FileBytes, Roles, Move, moved, is_metadata}
use Rattle.journal_model.specs.Batches.{home_count, trimmed_count}
use Rattle.journal_model.specs.SafeImages.{GivesMetadata}
use Rattle.journal_model.specs.Safety.{IsSafe}
use Rattle.journal_model.specs.Recovery.{Recovers}
use Rattle.journal_model.specs.Steps.{Step}
use Rattle.journal_laws.proofs.Replays.{stands_replayed}
use Rattle.journal_laws.proofs.VersionTxs.{rest_lies, not_laid_by_rest}

abbrev no_txs : List Tx
no_txs = []

none_taken : (k : ℕ) → take k no_txs ≡ []
none_taken zero = refl
none_taken (suc k) = refl

-- the first few of what is being written: none, or the sealed transaction
written_front : (o : Option SealedTx) (k : ℕ) → (take k (tx_written o) ≡ []) ⊎ ((take k (tx_written o) ≡ tx_in o) × IfSome o (λ s. 1 ≤ s.written))
written_front None k = inl (none_taken k)
written_front (Some s) zero = inl refl
written_front (Some s) (suc k) = elim (cases_Bool (eqb s.written 0)) [
  | inl none ↦ inl (ap (λ (l : List Tx). take (suc k) l) (cond-true (eqb s.written 0) [] (s.tx ∷ []) none))
  | inr some ↦ inr (
    ap (λ (l : List Tx). take (suc k) l) (cond-false (eqb s.written 0) [] (s.tx ∷ []) some) ∙ ap (λ (l : List Tx). s.tx ∷ l) (none_taken k),
    (let differ = eqb-false s.written 0 some in omega (arith, differ)),
  )
]

-- the newest header leaves nothing out, or what is at home
trims_what_is_home : (roll : Roll) → (trimmed_count roll ≡ 0) ⊎ (trimmed_count roll ≡ home_count roll)
trims_what_is_home Idle = inl refl
trims_what_is_home (Writing batch) = inl refl
trims_what_is_home (Home batch) = inl refl
trims_what_is_home (Trimmed batch) = inr refl

abbrev is_published : Version → Bool
is_published Published = true
is_published Sealed = false
is_published Running = false

published_is_not_sealed : Published ≡ Sealed → ⊥
published_is_not_sealed same = false≢true (sym (ap is_published same))

module _ (g : Geometry) (roles : Roles) (r : Record) (j : Journal) (image : Image) (safe : IsSafe g roles r j) (left : Outcome r (length r.calls) image) where
  all_given : (v : Version) (n : ℕ) → is_logged v ≡ true → n ≡ 0 → GivesMetadata (roles v) (present_of r) (txs_of g j v) image (txs_after g j n v)
  all_given v n logged none =
      subst (λ (k : ℕ). GivesMetadata (roles v) (present_of r) (txs_of g j v) image (txs_after g j k v)) (sym none) ((safe.each image left).whole v logged)

  metadata_given : (v : Version) (n : ℕ) → is_logged v ≡ true → (n ≡ 0) ⊎ (n ≡ trimmed_count j.roll) → GivesMetadata (roles v) (present_of r) (txs_of g j v) image (txs_after g j n v)
  metadata_given v n logged (inl none) = all_given v n logged none
  metadata_given v n logged (inr trims) = elim (trims_what_is_home j.roll) [
    | inl none ↦ all_given v n logged (trims ∙ none)
    | inr home ↦ subst (λ (k : ℕ). GivesMetadata (roles v) (present_of r) (txs_of g j v) image (txs_after g j k v)) (sym (trims ∙ home)) ((safe.each image left).rest v logged)
  ]

  -- bytes of files stay
  file_stays : (v : Version) (n b i : ℕ) → roles v b ≡ FileBytes → i < 4096 → replayed_byte image (txs_after g j n v) (4096 * b + i) ≡ slice_index image (4096 * b + i)
  file_stays v n b i file inside =
      let block : b ≡ (4096 * b + i) / 4096 = omega (arith, inside) in
      let none : is_laid_by (txs_of g j v) b ≡ false =
      false_from_ne_true (is_laid_by (txs_of g j v) b) (λ laid. false≢true (sym (ap is_metadata file) ∙ safe.versions.laid v b laid)) in
      stands_replayed image (txs_after g j n v) (4096 * b + i) (rest_lies g roles r j safe n v)
      (subst (λ (c : ℕ). is_laid_by (txs_after g j n v) c ≡ false) block (not_laid_by_rest g j n v b none))

  version_of : (v : Version) (n : ℕ) (h : Header) → is_logged v ≡ true → (v ≡ Sealed → IfSome j.sealed (λ s. 1 ≤ s.written)) → (n ≡ 0) ⊎ (n ≡ trimmed_count j.roll)
      → HasNoLaterIdent g image → log_of g image ≡ WithHeader h (Listed (txs_after g j n v)) → Recovers g roles (present_of r) j image v
  version_of v n h logged written trims idents log =
      record {
        header = h;
        count = n;
        trimmed = trims;
        log = log;
        logged = logged;
        sealed = written;
        metadata = metadata_given v n logged trims;
        files = file_stays v n;
        idents = idents;
      }

  by_header : (n : ℕ) (h : Header) → (n ≡ 0) ⊎ (n ≡ trimmed_count j.roll) → HasLog g h image (drop n j.committed) (tx_written j.sealed)
      → Recovers g roles (present_of r) j image Published ⊎ Recovers g roles (present_of r) j image Sealed
  by_header n h trims has =
      let some = mounts g h image (drop n j.committed) (tx_written j.sealed) has in
      let idents = no_later_ident g h image (drop n j.committed) (tx_written j.sealed) has in
      let lists : (l : List Tx) → take some.count (tx_written j.sealed) ≡ l → log_of g image ≡ WithHeader h (Listed (drop n j.committed ++ l)) =
      λ l is. some.listed ∙ ap (λ (later : List Tx). WithHeader h (Listed (drop n j.committed ++ later))) is in
      elim (written_front j.sealed some.count) [
        | inl none ↦ inl (version_of Published n h refl (λ other. absurd (published_is_not_sealed other)) trims idents (lists [] none))
        | inr whole ↦ inr (version_of Sealed n h refl (λ same. whole.1) trims idents (lists (tx_in j.sealed) whole.0))
      ]

  pub recovers : Recovers g roles (present_of r) j image Published ⊎ Recovers g roles (present_of r) j image Sealed
  recovers =
      let s = safe.each image left in
      let n = trimmed_count j.roll in
      let split : j.committed ≡ take n j.committed ++ drop n j.committed = sym (take-append-drop n j.committed) in
      elim s.header [
        | inl old ↦ by_header 0 j.oldest (inl refl) (record { header = old; ring = s.ring })
        | inr new ↦ by_header n (header_after g j n) (inr refl) (record {
          header = new;
          ring = step_trim g j.oldest (ring_sector g image) (take n j.committed) (drop n j.committed) (written_txs j)
              (subst (λ (l : List Tx). IsLogRing g j.oldest (ring_sector g image) l (written_txs j)) split s.ring);
        })
      ]

-- a call of a step that failed, and is listed or not
pub after_failure : (g : Geometry) (roles : Roles) (r after : Record) (j k : Journal) (move : Move) (calls : List DeviceCall) (image : Image) → IsSafe g roles r j
    → Step g roles (present_of r) j move calls k → IsSafe g (moved move roles) (with_calls r calls) k → (after ≡ r) ⊎ (after ≡ with_calls r calls) → Outcome after (length after.calls) image
    → (Recovers g roles (present_of r) j image Published ⊎ Recovers g roles (present_of r) j image Sealed)
    ⊎ (Recovers g (moved move roles) (present_of (with_calls r calls)) k image Published ⊎ Recovers g (moved move roles) (present_of (with_calls r calls)) k image Sealed)
after_failure g roles r after j k move calls image safe step next (inl same) left =
    inl (recovers g roles r j image safe (subst (λ (q : Record). Outcome q (length q.calls) image) same left))
after_failure g roles r after j k move calls image safe step next (inr more) left =
    inr (recovers g (moved move roles) (with_calls r calls) k image next (subst (λ (q : Record). Outcome q (length q.calls) image) more left))
