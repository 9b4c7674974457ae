-- What later transactions give over the same bytes, and the running version on whatever a crash leaves.
use Rattle.std.proofs.Common.{◌≡◌, ◌<◌, ◌≤◌, inl, inr, ℕ, ◌+◌, ◌*◌, ◌/◌, Bool, true, false, ◌||◌, not, cond, List, [], ◌∷◌, ◌++◌, drop, slice_index, Option, Some, None, is_some, IsSome, refl, sym, ap, ◌∙◌, subst, arith}
use Rattle.std.specs.List.{filter, AllByRecursion}
use Rattle.std.specs.Option.{unwrap_or}
use Rattle.std.proofs.lemmas.Bool.{false_from_ne_true, false≢true}
use Rattle.std.proofs.lemmas.List.{append-nil}
use Rattle.std.proofs.lemmas.List.Elements.{filter_agree}
use Rattle.std.proofs.Math.Bool.{or-false}
use Rattle.lufs_base.specs.declared.geometry.Geometry.{Geometry}
use Rattle.lufs_base.specs.declared.delta.Delta.{Delta}
use Rattle.volume_model.specs.declared.log.Tx.{Tx}
use Rattle.volume_model.specs.Format.{Image}
use Rattle.volume_model.specs.Log.{live_deltas}
use Rattle.volume_model.specs.Crash.{Record, present_of}
use Rattle.journal_model.specs.Journals.{Journal}
use Rattle.journal_model.specs.Versions.{Version, Published, later_of, txs_after, txs_of}
use Rattle.journal_model.specs.LaidBlocks.{given_by, replayed_byte, is_laid_by, is_cancelled_in, is_cancelled_by}
use Rattle.journal_model.specs.BlockRoles.{Roles, is_claimed}
use Rattle.journal_model.specs.Batches.{home_count}
use Rattle.journal_model.specs.SafeImages.{GivesMetadata, IsSafeImage}
use Rattle.journal_model.specs.Safety.{IsSafe}
use Rattle.journal_laws.proofs.Replays.{LiesInBlock, LieInBlocks, each_left, else_by, given_by_parts, not_laid_gives_none, cancelled-append}
use Rattle.journal_laws.proofs.RollFacts.{all_lie, committed_loggable}
use Rattle.journal_laws.proofs.RoleFacts.{published_role}
use Rattle.journal_laws.proofs.VersionTxs.{rest_lies}

over_same : (later before all : Option ℕ) (x y : ℕ) → unwrap_or before x ≡ unwrap_or all y → unwrap_or (else_by later before) x ≡ unwrap_or (else_by later all) y
over_same None before all x y same = same
over_same (Some byte) before all x y same = refl

given_over : (later before all : Option ℕ) (x y : ℕ) → IsSome later → unwrap_or (else_by later before) x ≡ unwrap_or (else_by later all) y
given_over None before all x y is = absurd (false≢true is)
given_over (Some byte) before all x y is = refl

-- Bytes that read the same by some transactions do so by these and later ones, which don't cancel their block.
pub later_over : (image other : Image) (before all later : List Tx) (address : ℕ) → LieInBlocks before → LieInBlocks all → is_cancelled_by later (address / 4096) ≡ false
    → replayed_byte image before address ≡ replayed_byte other all address → replayed_byte image (before ++ later) address ≡ replayed_byte other (all ++ later) address
later_over image other before all later a lie lie_all kept same =
    ap (λ (o : Option ℕ). unwrap_or o (slice_index image a)) (given_by_parts before later a false kept lie)
    ∙ over_same (given_by (live_deltas later) a) (given_by (live_deltas before) a) (given_by (live_deltas all) a) (slice_index image a) (slice_index other a) same
    ∙ sym (ap (λ (o : Option ℕ). unwrap_or o (slice_index other a)) (given_by_parts all later a false kept lie_all))

-- What the later ones give reads the same over all images.
pub given_later : (image other : Image) (before all later : List Tx) (address : ℕ) → LieInBlocks before → LieInBlocks all → IsSome (given_by (live_deltas later) address)
    → replayed_byte image (before ++ later) address ≡ replayed_byte other (all ++ later) address
given_later image other before all later a lie lie_all some =
    let c = is_cancelled_by later (a / 4096) in
    ap (λ (o : Option ℕ). unwrap_or o (slice_index image a)) (given_by_parts before later a c refl lie)
    ∙ given_over (given_by (live_deltas later) a) (cond c None (given_by (live_deltas before) a)) (cond c None (given_by (live_deltas all) a)) (slice_index image a) (slice_index other a) some
    ∙ sym (ap (λ (o : Option ℕ). unwrap_or o (slice_index other a)) (given_by_parts all later a c refl lie_all))

only_later : (later before : Option ℕ) (c : Bool) → before ≡ None → IsSome (else_by later (cond c None before)) → IsSome later
only_later (Some byte) before c none is = refl
only_later None None true none is = is
only_later None None false none is = is
only_later None (Some byte) c none is = absurd (false≢true (sym (ap is_some none)))

-- What all of them give, and those before lay nothing over, the later ones give.
pub given_by_later : (before later : List Tx) (address : ℕ) → LieInBlocks before → is_laid_by before (address / 4096) ≡ false → IsSome (given_by (live_deltas (before ++ later)) address)
    → IsSome (given_by (live_deltas later) address)
given_by_later before later a lie none some =
    let c = is_cancelled_by later (a / 4096) in
    only_later (given_by (live_deltas later) a) (given_by (live_deltas before) a) c (not_laid_gives_none before a lie none)
    (subst (λ (o : Option ℕ). IsSome o) (given_by_parts before later a c refl lie) some)

-- a transaction of no deltas changes nothing
pub cancelled_none : (txs : List Tx) (e : Tx) (b : ℕ) → e.deltas ≡ [] → is_cancelled_by (txs ++ e ∷ []) b ≡ is_cancelled_by txs b
cancelled_none txs e b none =
    cancelled-append txs (e ∷ []) b
    ∙ ap (λ (l : List Delta). is_cancelled_by txs b || (is_cancelled_in l b || false)) none
    ∙ or-false (is_cancelled_by txs b)

pub live_none : (txs : List Tx) (e : Tx) → e.deltas ≡ [] → live_deltas (txs ++ e ∷ []) ≡ live_deltas txs
live_none [] e none = append-nil (filter (λ d. true) e.deltas) ∙ ap (filter (λ d. true)) none
live_none (tx ∷ later) e none =
    ap (λ (l : List Delta). l ++ live_deltas (later ++ e ∷ []))
    (filter_agree (λ (d : Delta). not (is_cancelled_by (later ++ e ∷ []) (d.home / 4096))) (λ (d : Delta). not (is_cancelled_by later (d.home / 4096)))
    (λ d. ap not (cancelled_none later e (d.home / 4096) none)) tx.deltas)
    ∙ ap (λ (l : List Delta). filter (λ (d : Delta). not (is_cancelled_by later (d.home / 4096))) tx.deltas ++ l) (live_none later e none)

module _ (g : Geometry) (roles : Roles) (r : Record) (j : Journal) (safe : IsSafe g roles r j) where
  -- A version's metadata is the published one's, which its later transactions don't cancel, or those give it.
  pub version_bytes : (v : Version) (image : Image) (front : List Tx) → LieInBlocks front → GivesMetadata (roles Published) (present_of r) (txs_of g j Published) image (front ++ [])
      → GivesMetadata (roles v) (present_of r) (txs_of g j v) image (front ++ later_of g j v)
  version_bytes v image front lie published =
      record {
        each = λ b n i role inside.
            let a : ℕ = 4096 * b + i in
            let within : i < 4096 = let size : n ≤ 4096 = safe.versions.sizes v b n role in omega (arith, inside, size) in
            let block : b ≡ a / 4096 = omega (arith, within) in
            let all : LieInBlocks j.committed = all_lie g j.committed (committed_loggable g roles r j safe) in
            let home = present_of r in
            elim (published_role g roles j safe.versions b v n role) [
              | inl same ↦
                  later_over image home front j.committed (later_of g j v) a lie all
                  (subst (λ (c : ℕ). is_cancelled_by (later_of g j v) c ≡ false) block
                  (false_from_ne_true (is_cancelled_by (later_of g j v) b) (λ c. false≢true (sym (safe.versions.cancelled v b c) ∙ ap is_claimed role))))
                  (ap (λ (l : List Tx). replayed_byte image l a) (sym (append-nil front)) ∙ published.each b n i same inside
                  ∙ ap (λ (l : List Tx). replayed_byte home l a) (append-nil j.committed))
              | inr other ↦
                  given_later image home front j.committed (later_of g j v) a lie all
                  (given_by_later j.committed (later_of g j v) a all
                  (subst (λ (c : ℕ). is_laid_by j.committed c ≡ false) block
                  (false_from_ne_true (is_laid_by j.committed b) (λ laid. false≢true (sym other
                  ∙ safe.versions.laid Published b (ap (λ (l : List Tx). is_laid_by l b) (append-nil j.committed) ∙ laid)))))
                  (safe.versions.covered v b n i role other inside))
            ];
      }

  pub version_whole : (v : Version) (image : Image) → IsSafeImage g roles (present_of r) j image → GivesMetadata (roles v) (present_of r) (txs_of g j v) image (txs_of g j v)
  version_whole v image is = version_bytes v image j.committed (all_lie g j.committed (committed_loggable g roles r j safe)) (is.whole Published refl)

  pub version_rest : (v : Version) (image : Image) → IsSafeImage g roles (present_of r) j image
      → GivesMetadata (roles v) (present_of r) (txs_of g j v) image (txs_after g j (home_count j.roll) v)
  version_rest v image is =
      version_bytes v image (drop (home_count j.roll) j.committed)
      (each_left (λ tx. AllByRecursion LiesInBlock tx.deltas) (drop (home_count j.roll) j.committed) [] (rest_lies g roles r j safe (home_count j.roll) Published)) (is.rest Published refl)
