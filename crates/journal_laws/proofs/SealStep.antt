-- A commit begins: the running transaction is sealed, and an empty one opens.
use Rattle.std.proofs.Common.{◌≡◌, ◌<◌, ◌≤◌, inl, inr, ℕ, ◌+◌, ◌*◌, ◌%◌, ◌^◌, true, false, List, [], ◌∷◌, ◌++◌, length, drop, Option, Some, None, refl, sym, ap, ◌∙◌, subst, arith, append_assoc, length-append}
use Rattle.std.specs.List.{list_any}
use Rattle.std.specs.Prelude.{IsSome}
use Rattle.std.proofs.lemmas.Bool.{false≢true, or_cases}
use Rattle.std.proofs.lemmas.List.{append-nil}
use Rattle.std.proofs.lemmas.List.Elements.{All-nil}
use Rattle.lufs_base.specs.Layout.{ring_of}
use Rattle.lufs_base.specs.declared.geometry.Geometry.{Geometry}
use Rattle.lufs_base.specs.declared.delta.Delta.{Delta}
use Rattle.volume_model.specs.declared.log.Tx.{Tx}
use Rattle.volume_model.specs.Format.{Image}
use Rattle.volume_model.specs.Log.{live_deltas, tx_sectors, may_be_logged, logged_len, lays_on}
use Rattle.volume_model.specs.Crash.{Record, with_calls, present_of}
use Rattle.log_laws.specs.TxsInRing.{sectors_of_txs}
use Rattle.journal_model.specs.Journals.{SealedTx, Journal}
use Rattle.journal_model.specs.Versions.{Version, Published, Sealed, Running, is_logged, next_header, running_tx, later_of, txs_after, txs_of}
use Rattle.journal_model.specs.LaidBlocks.{given_by, is_cancelled_by}
use Rattle.journal_model.specs.BlockRoles.{Roles, Seals, moved, moved_from, is_claimed}
use Rattle.journal_model.specs.Batches.{home_count}
use Rattle.journal_model.specs.Room.{used_sectors}
use Rattle.journal_model.specs.SafeImages.{GivesMetadata, IsSafeImage}
use Rattle.journal_model.specs.Kept.{IsNextRole}
use Rattle.journal_model.specs.Safety.{IsSafe}
use Rattle.journal_laws.proofs.OpenSteps.{without_calls, roll_kept}
use Rattle.journal_laws.proofs.RoleFacts.{role_stays, same_is_next}
use Rattle.journal_laws.proofs.VersionBytes.{cancelled_none, live_none, version_whole, version_rest}

-- the sealed journal
abbrev pub with_sealed : Geometry → Journal → Journal
with_sealed g j = record j { sealed = Some (record { tx = running_tx g j; written = 0 }); running = [] }

-- of a journal with nothing sealed
module _ (g : Geometry) (roles : Roles) (r : Record) (i : Journal) where
  abbrev j : Journal
  j = record i { sealed = None }

  abbrev tx : Tx
  tx = running_tx g j

  abbrev k : Journal
  k = with_sealed g j

  abbrev opened : Tx
  opened = running_tx g k

  abbrev after : Roles
  after = moved Seals roles

  later_cancels : (v : Version) (b : ℕ) → is_cancelled_by (later_of g k v) b ≡ is_cancelled_by (later_of g j (moved_from Seals v)) b
  later_cancels Published b = refl
  later_cancels Sealed b = refl
  later_cancels Running b = cancelled_none (tx ∷ []) opened b refl

  rest_cancels : (n : ℕ) (v : Version) (b : ℕ) → is_cancelled_by (txs_after g k n v) b ≡ is_cancelled_by (txs_after g j n (moved_from Seals v)) b
  rest_cancels n Published b = refl
  rest_cancels n Sealed b = refl
  rest_cancels n Running b =
      ap (λ (l : List Tx). is_cancelled_by l b) (sym (append_assoc (drop n j.committed) (tx ∷ []) (opened ∷ [])))
      ∙ cancelled_none (drop n j.committed ++ tx ∷ []) opened b refl

  pub same_live : (v : Version) → live_deltas (txs_of g k v) ≡ live_deltas (txs_of g j (moved_from Seals v))
  same_live Published = refl
  same_live Sealed = refl
  same_live Running = ap live_deltas (sym (append_assoc j.committed (tx ∷ []) (opened ∷ []))) ∙ live_none (j.committed ++ tx ∷ []) opened refl

  module _ (safe : IsSafe g roles r j) where
    whole_sealed : (image : Image) → IsSafeImage g roles (present_of r) j image → (v : Version) → is_logged v ≡ true → GivesMetadata (after v) (present_of r) (txs_of g k v) image (txs_of g k v)
    whole_sealed image is Published logged = is.whole Published refl
    whole_sealed image is Sealed logged = version_whole g roles r j safe Running image is
    whole_sealed image is Running logged = absurd (false≢true logged)

    rest_sealed : (image : Image) → IsSafeImage g roles (present_of r) j image → (v : Version) → is_logged v ≡ true
        → GivesMetadata (after v) (present_of r) (txs_of g k v) image (txs_after g k (home_count k.roll) v)
    rest_sealed image is Published logged = is.rest Published refl
    rest_sealed image is Sealed logged = version_rest g roles r j safe Running image is
    rest_sealed image is Running logged = absurd (false≢true logged)

    next_after : (b : ℕ) → IsNextRole (roles Published b) (roles Running b)
    next_after b = record { same = λ before later. role_stays g roles j safe.versions b before later }

    seals : j.members ≡ 0 → used_sectors j + tx_sectors j.running ≤ ring_of g → (next_header g j).tid + 1 < 2 ^ 32 → IsSafe g after r k
    seals none room number =
        let v = safe.versions in
        let o = safe.owners in
        let nil : length (j.committed ++ []) ≡ length j.committed = ap length (append-nil j.committed) in
        let push : length (j.committed ++ tx ∷ []) ≡ length j.committed + 1 = length-append j.committed (tx ∷ []) in
        record {
          sectors = safe.sectors;
          each = λ image left.
              let old = safe.each image left in
              record { geometry = old.geometry; header = old.header; ring = old.ring; whole = whole_sealed image old; rest = rest_sealed image old };
          present = record {
            header = safe.present.header;
            sealed = record { within = omega arith; stands = record { each = λ m below. absurd (omega (arith, below)) } };
            rolled = safe.present.rolled;
          };
          versions = record {
            loggable = record {
              table = All-nil (λ (d : Delta). may_be_logged g d.kind d.home d.len ≡ true);
              order = λ m n d less below. absurd (omega (arith, below));
              bytes = All-nil (λ (d : Delta). length d.bytes ≡ logged_len d.kind d.len);
            };
            places = λ u b. v.places (moved_from Seals u) b;
            sizes = λ u b n. v.sizes (moved_from Seals u) b n;
            laid = λ u b laid. v.laid (moved_from Seals u) b (ap (list_any (lays_on b)) (sym (same_live u)) ∙ laid);
            covered = λ u b n m role other inside.
                subst (λ (l : List Delta). IsSome (given_by l (4096 * b + m))) (sym (same_live u)) (v.covered (moved_from Seals u) b n m role other inside);
            cancelled = λ u b c. v.cancelled (moved_from Seals u) b (sym (later_cancels u b) ∙ c);
            sealed = next_after;
            running = λ b. same_is_next (roles Running b);
            freed = λ b first last. last;
          };
          roll = roll_kept g roles after j k j.roll
              (λ batch of is. record {
                some = is.some;
                committed = is.committed;
                held = is.held;
                left = is.left;
                cancelled = λ u b held c. is.cancelled (moved_from Seals u) b held (sym (rest_cancels batch.count u b) ∙ c);
              }) safe.roll;
          owners = record {
            claimed = o.claimed;
            gone = λ b unclaimed freed.
                let gone = o.gone b unclaimed freed in
                record { unclaimed = λ u. gone.unclaimed (moved_from Seals u); uncancelled = later_cancels Running b ∙ gone.uncancelled };
            in_hand = o.in_hand;
            freed_last = λ b unclaimed is. elim (or_cases (is_claimed (roles Running b)) false is) [
              | inl claimed ↦ absurd (false≢true (sym unclaimed ∙ claimed))
              | inr cancelled ↦ absurd (false≢true cancelled)
            ];
            freed_low = o.freed_low;
            freed_high = λ b tid is. let high = o.freed_high b tid is in omega (arith, high, nil, push);
          };
          room = record {
            oldest = safe.room.oldest;
            sealed = record {
              stand = (
                record {
                  number = omega (arith, nil);
                  first = ap (λ (l : List Tx). (j.oldest.head + sectors_of_txs l) % ring_of g) (append-nil j.committed);
                  size = refl;
                  loggable = v.loggable;
                },
                tt,
              );
              room = omega (arith, room);
              numbers = omega (arith, number, nil);
            };
            number = omega (arith, number, nil, push);
            fits = λ some. elim some [ inl has ↦ absurd (omega (arith, has)) | inr inside ↦ absurd (omega (arith, inside, none)) ];
            unspent = safe.room.unspent;
          };
        }

pub keeps_seal : (g : Geometry) (roles : Roles) (r : Record) (j : Journal) → IsSafe g roles r j → j.sealed ≡ None → j.members ≡ 0 → used_sectors j + tx_sectors j.running ≤ ring_of g
    → (next_header g j).tid + 1 < 2 ^ 32 → IsSafe g (moved Seals roles) (with_calls r []) (with_sealed g j)
keeps_seal g roles r j safe none members room number =
    without_calls g (moved Seals roles) r (with_sealed g j)
    (subst (λ (o : Option SealedTx). IsSafe g roles r (record j { sealed = o }) → j.members ≡ 0 → used_sectors j + tx_sectors j.running ≤ ring_of g → (next_header g (record j { sealed = o })).tid + 1 < 2 ^ 32
    → IsSafe g (moved Seals roles) r (with_sealed g (record j { sealed = o }))) (sym none) (seals g roles r j) safe members room number)

-- the versions have the same live deltas
pub sealed_live : (g : Geometry) (roles : Roles) (r : Record) (j : Journal) (v : Version) → j.sealed ≡ None → live_deltas (txs_of g (with_sealed g j) v) ≡ live_deltas (txs_of g j (moved_from Seals v))
sealed_live g roles r j v none =
    subst (λ (o : Option SealedTx). live_deltas (txs_of g (with_sealed g (record j { sealed = o })) v) ≡ live_deltas (txs_of g (record j { sealed = o }) (moved_from Seals v))) (sym none)
    (same_live g roles r j v)
