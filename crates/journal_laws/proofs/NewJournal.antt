-- After a mount the log is empty, and the journal of an empty log is safe.
use Rattle.std.proofs.Common.{◌≡◌, ◌<◌, ◌≤◌, ◌⊎◌, inl, inr, ℕ, ◌+◌, ◌*◌, ◌%◌, true, false, List, [], length, slice_index, Some, refl, sym, ap, ◌∙◌, subst, arith}
use Rattle.std.specs.Prelude.{◌||◌}
use Rattle.std.proofs.Math.Nat.{mod-eq_of_lt}
use Rattle.std.proofs.lemmas.Bool.{cases_Bool, false≢true, or_from, both_ways}
use Rattle.lufs_base.specs.Layout.{ring_of}
use Rattle.lufs_base.specs.declared.geometry.Geometry.{Geometry}
use Rattle.volume_model.specs.declared.log.Header.{Header}
use Rattle.volume_model.specs.Format.{Image, geometry_of}
use Rattle.volume_model.specs.Log.{MayBeHeader, Listed, WithHeader, log_of, trailer_of}
use Rattle.volume_model.specs.Crash.{Record, IsOfSectors, Outcome, present_of}
use Rattle.log_laws.specs.LogRing.{IsLogRing}
use Rattle.log_laws.specs.LogOnImage.{ring_sector}
use Rattle.log_laws.specs.TxsInRing.{trimmed}
use Rattle.journal_model.specs.Journals.{Owner, Freed, new_journal}
use Rattle.journal_model.specs.Versions.{Version, Published, Sealed, Running, is_logged, later_of, txs_after, txs_of}
use Rattle.journal_model.specs.BlockRoles.{Role, Metadata, is_metadata, is_claimed}
use Rattle.journal_model.specs.Batches.{is_freed_owner}
use Rattle.journal_model.specs.LaidBlocks.{replayed_byte, is_laid_by, is_cancelled_by}
use Rattle.journal_model.specs.SafeImages.{HasHeader, GivesMetadata}
use Rattle.journal_model.specs.Kept.{HaveRoles, HaveOwners, HasRoom}
use Rattle.journal_model.specs.Safety.{IsSafe, MayBegin}
use Rattle.journal_model.specs.Mount.{Found, Mounted, next_epoch, IsOutsideLog, IsMounting, IsMountImage}
use Rattle.journal_laws.proofs.Outcomes.{present_left}
use Rattle.journal_laws.proofs.MountImages.{next_may, outside_log}
use Rattle.journal_laws.proofs.MountOutcomes.{empty_ring, empty_log}

-- Of a volume whose log is empty in whatever a crash leaves, and whose metadata is the same there as what is present.
pub record IsEmptied (g : Geometry) (role : ℕ → Role) (h : Header) (home image : Image) : Type 0 where
  pub geometry : geometry_of image ≡ Some g
  pub header : HasHeader g image h
  pub ring : IsLogRing g h (ring_sector g image) [] []
  pub metadata : (b n i : ℕ) → role b ≡ Metadata n → i < n → slice_index image (4096 * b + i) ≡ slice_index home (4096 * b + i)

-- nothing trimmed leaves the header
pub nothing_trimmed : (g : Geometry) (h : Header) → h.head < ring_of g → trimmed g h [] ≡ h
nothing_trimmed g h low =
    let head : (h.head + 0) % ring_of g ≡ h.head = ap (λ (n : ℕ). n % ring_of g) (let same : h.head + 0 ≡ h.head = omega arith in same) ∙ mod-eq_of_lt low in
    let tid : h.tid + 0 ≡ h.tid = omega arith in
    ap (λ (n : ℕ). record { epoch = h.epoch; head = n; tid = h.tid + 0 }) head ∙ ap (λ (n : ℕ). record { epoch = h.epoch; head = h.head; tid = n }) tid

module _ (g : Geometry) (h : Header) (owners : ℕ → Owner) where
  nothing_laid : (v : Version) (b : ℕ) → is_laid_by (txs_of g (new_journal h owners) v) b ≡ false
  nothing_laid Published b = refl
  nothing_laid Sealed b = refl
  nothing_laid Running b = refl

  nothing_cancelled : (v : Version) (b : ℕ) → is_cancelled_by (later_of g (new_journal h owners) v) b ≡ false
  nothing_cancelled Published b = refl
  nothing_cancelled Sealed b = refl
  nothing_cancelled Running b = refl

  module _ (role : ℕ → Role) (home image : Image) (same : (b n i : ℕ) → role b ≡ Metadata n → i < n → slice_index image (4096 * b + i) ≡ slice_index home (4096 * b + i)) where
    gives_all : (v : Version) → is_logged v ≡ true → GivesMetadata role home (txs_of g (new_journal h owners) v) image (txs_of g (new_journal h owners) v)
    gives_all Published logged = record { each = same }
    gives_all Sealed logged = record { each = same }
    gives_all Running logged = absurd (false≢true logged)

    gives_rest : (v : Version) → is_logged v ≡ true → GivesMetadata role home (txs_of g (new_journal h owners) v) image (txs_after g (new_journal h owners) 0 v)
    gives_rest Published logged = record { each = same }
    gives_rest Sealed logged = record { each = same }
    gives_rest Running logged = absurd (false≢true logged)

  -- no block is freed
  module _ (role : ℕ → Role) (may : MayBegin g role owners) where
    none_freed : (b tid : ℕ) → owners b ≡ Freed tid → ⊥
    none_freed b tid freed =
        let test : is_freed_owner (owners b) ≡ true = ap is_freed_owner freed in
        elim (cases_Bool (is_claimed (role b))) [
          | inl claimed ↦ false≢true (sym (ap is_freed_owner (may.claimed b claimed)) ∙ test)
          | inr unclaimed ↦ false≢true (sym (may.unclaimed b unclaimed) ∙ test)
        ]

    new_owners : HaveOwners g (λ v. role) (new_journal h owners)
    new_owners = record {
      claimed = may.claimed;
      gone = λ b unclaimed kept. record { unclaimed = λ v. unclaimed; uncancelled = refl };
      in_hand = λ b unclaimed live. refl;
      freed_last = λ b unclaimed some. absurd (both_ways (is_claimed (role b) || false) (or_from (is_claimed (role b)) false unclaimed refl) some);
      freed_low = λ b tid freed. absurd (none_freed b tid freed);
      freed_high = λ b tid freed. absurd (none_freed b tid freed);
    }

    new_roles : HaveRoles g (λ v. role) (new_journal h owners)
    new_roles = record {
      loggable = record {
        table = λ k d below. absurd (omega (arith, below));
        order = λ i k d less below. absurd (omega (arith, below));
        bytes = λ k d below. absurd (omega (arith, below));
      };
      places = λ v. may.places;
      sizes = λ v. may.sizes;
      laid = λ v b laid. absurd (both_ways (is_laid_by (txs_of g (new_journal h owners) v) b) (nothing_laid v b) laid);
      covered = λ v b n i is not below. absurd (both_ways (is_metadata (role b)) not (ap is_metadata is));
      cancelled = λ v b some. absurd (both_ways (is_cancelled_by (later_of g (new_journal h owners) v) b) (nothing_cancelled v b) some);
      sealed = λ b. record { same = λ before after. refl };
      running = λ b. record { same = λ before after. refl };
      freed = λ b claimed unclaimed. absurd (both_ways (is_claimed (role b)) unclaimed claimed);
    }

    new_room : MayBeHeader g h → HasRoom g (new_journal h owners)
    new_room header = record {
      oldest = header;
      sealed = record { stand = tt; room = omega arith; numbers = omega (arith, header.tid_high) };
      number = omega (arith, header.tid_high);
      fits = λ open_now. elim open_now [
        | inl some ↦ absurd (omega (arith, some))
        | inr some ↦ absurd (omega (arith, some))
      ];
      unspent = λ none. refl;
    }

    pub new_is_safe : (r : Record) → IsOfSectors r → MayBeHeader g h → ((image : Image) → Outcome r (length r.calls) image → IsEmptied g role h (present_of r) image)
        → IsSafe g (λ v. role) r (new_journal h owners)
    new_is_safe r ok header each =
        let same : trimmed g h [] ≡ h = nothing_trimmed g h header.head_low in
        record {
          sectors = ok;
          each = λ image left.
              let is = each image left in
              record {
                geometry = is.geometry;
                header = inl is.header;
                ring = is.ring;
                whole = gives_all role (present_of r) image is.metadata;
                rest = gives_rest role (present_of r) image is.metadata;
              };
          present = record {
            header = subst (λ (k : Header). HasHeader g (present_of r) k) (sym same) (each (present_of r) (present_left r ok)).header;
            sealed = tt;
            rolled = tt;
          };
          versions = new_roles;
          roll = tt;
          owners = new_owners;
          room = new_room header;
        }

module _ (g : Geometry) (found : Found) (first : Image) (r : Record) (m : IsMounting g found first r Mounted) where
  ended : IsMountImage g found first Mounted (present_of r)
  ended = m.each (present_of r) (present_left r m.sectors)

  header_of_end : (image : Image) → HasHeader g image (next_epoch found.header) ⊎ HasHeader g image (next_epoch found.header) → HasHeader g image (next_epoch found.header)
  header_of_end image (inl is) = is
  header_of_end image (inr is) = is

  pub log_of_end : log_of g (present_of r) ≡ WithHeader (next_epoch found.header) (Listed [])
  log_of_end = empty_log g found first (present_of r) Mounted m.began ended m.newest

  pub earlier_idents : (place : ℕ) → place < ring_of g → (trailer_of (ring_sector g (present_of r) place)).ident < (next_epoch found.header).epoch
  earlier_idents place below =
      let kept : (trailer_of (ring_sector g (present_of r) place)).ident ≤ found.header.epoch =
      subst (λ (s : List ℕ). (trailer_of s).ident ≤ found.header.epoch) (sym (ended.ring place below)) (m.began.idents place below) in
      omega (arith, kept)

  pub end_content : (address : ℕ) → IsOutsideLog g address → slice_index (present_of r) address ≡ replayed_byte first found.txs address
  end_content = ended.home refl

  pub opened_is_safe : (role : ℕ → Role) (owners : ℕ → Owner) → MayBegin g role owners → IsSafe g (λ v. role) r (new_journal (next_epoch found.header) owners)
  opened_is_safe role owners may =
      new_is_safe g (next_epoch found.header) owners role may r m.sectors (next_may g found first m.began)
      (λ image left.
      let is = m.each image left in
      record {
        geometry = is.geometry;
        header = header_of_end image is.header;
        ring = empty_ring g found first image Mounted m.began is;
        metadata = λ b n i metadata below.
            let out : IsOutsideLog g (4096 * b + i) = outside_log g b i (may.places b (ap is_claimed metadata)) (omega (arith, below, may.sizes b n metadata)) in
            is.home refl (4096 * b + i) out ∙ sym (ended.home refl (4096 * b + i) out);
      })
