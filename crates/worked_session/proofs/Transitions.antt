-- From stage to stage, one step of the volume each.
use Rattle.std.proofs.Common.{◌≡◌, ◌≤◌, ◌<◌, ℕ, suc, ◌+◌, ◌*◌, ◌/◌, ◌^◌, List, [], ◌∷◌, ◌++◌, length, slice_index, Some, None, refl, sym, ap, ◌∙◌, subst, arith}
use Rattle.std.specs.Prelude.{nat_lt}
use Rattle.std.proofs.lemmas.Bool.{and_parts, ltb-true}
use Rattle.lufs_base.specs.Layout.{ring_of, blocks_of, region_of}
use Rattle.tree_types.specs.declared.history.Entry.{Entry}
use Rattle.tree_types.specs.declared.waiting.Cause.{Cause}
use Rattle.volume_model.specs.declared.device_call.DeviceCall.{DeviceCall}
use Rattle.volume_model.specs.declared.device_call.DeviceCall.TheVariants.{Write, Flush}
use Rattle.volume_model.specs.Format.{Image, Blocks, is_body_region}
use Rattle.volume_model.specs.Crash.{Record, with_calls, present_of}
use Rattle.volume_model.specs.Log.{tx_sectors}
use Rattle.volume_model.specs.Worked.{smallest}
use Rattle.log_laws.specs.LogOnImage.{tx_write, IsInOneTurn}
use Rattle.history_model.specs.Histories.{History}
use Rattle.history_model.specs.WorkedTrees.{new_tree}
use Rattle.journal_model.specs.Journals.{SealedTx, Journal}
use Rattle.journal_model.specs.Versions.{Version, Published, Running, next_header, running_tx}
use Rattle.journal_model.specs.BlockRoles.{Stays, Seals, Publishes, moved, moved_from}
use Rattle.journal_model.specs.Room.{used_sectors, HasSpaceFor}
use Rattle.journal_model.specs.Steps.{IsRawWrite, published_owner, Admit, RawWrite, Seal, LogWrite, Publish}
use Rattle.journal_laws.proofs.Outcomes.{no_calls, present_after, byte_written, blocks_fit}
use Rattle.journal_laws.proofs.RollFacts.{geometry_at_home}
use Rattle.history_laws.specs.RawWrites.{WritesTouched}
use Rattle.history_laws.specs.Applied.{with_running}
use Rattle.history_laws.specs.Volumes.{Volume, readings_of}
use Rattle.history_laws.specs.VolumeSteps.{VolumeStep, IsBegun, IsPassing, with_told, MayBeTold, Quiet, Leaves, Writes, Passes, CommitBegins, CommitEnds, Begins, Tells}
use Rattle.history_laws.specs.Sessions.{Session, Steps}
use Rattle.history_laws.specs.WorkedSession.{new_disk}
use Rattle.worked_session.specs.Stages.{at_volume, Leads, Here, Goes, Stage}
use Rattle.worked_session.proofs.StageSteps.{keeps, carry, carry_at}

module _ {from : Volume} {j : Journal} {h : History} {held : Version → ℕ} {map_of : Blocks} {those : List ℕ} (s : Stage from j h held map_of those) where
  abbrev here : Volume
  here = at_volume s.r j s.roles h held

  -- the same, seen from here on
  pub from_here : Stage here j h held map_of those
  from_here = record { r = s.r; roles = s.roles; session = s.session; since = Here; read = s.read; blocks = s.blocks; metadata = s.metadata }

  -- a step that leaves the disk and the journal
  beside : (new : History) (holds : Version → ℕ) → VolumeStep smallest 1000 new_tree here (at_volume s.r j s.roles new holds) → Stage from j new holds map_of those
  beside new holds step = record {
    r = s.r;
    roles = s.roles;
    session = Steps here (at_volume s.r j s.roles new holds) s.session step;
    since = Goes here (at_volume s.r j s.roles new holds) s.since step;
    read = s.read;
    blocks = s.blocks;
    metadata = s.metadata;
  }

  pub begins : (e : Entry) → IsBegun smallest 1000 new_tree h.entries (length s.r.calls) e → Stage from j (record h { entries = h.entries ++ e ∷ [] }) held map_of those
  begins e begun = beside (record h { entries = h.entries ++ e ∷ [] }) held (Begins e begun)

  pub tells : (k : ℕ) → MayBeTold h.entries (held Published) k → Stage from j (record h { entries = with_told (length s.r.calls) h.entries k }) held map_of those
  tells k may = beside (record h { entries = with_told (length s.r.calls) h.entries k }) held (Tells k may)

  pub passes : IsPassing smallest 1000 new_tree h.entries (held Running) → Stage from j h (with_running held (suc (held Running))) map_of those
  passes passing = beside h (with_running held (suc (held Running))) (Passes passing)

  pub admits : (need : ℕ) → HasSpaceFor smallest j need → Stage from (record j { members = j.members + 1; unspent = j.unspent + need }) h held map_of those
  admits need fits =
      let k : Journal = record j { members = j.members + 1; unspent = j.unspent + need } in
      let w = at_volume (with_calls s.r []) k s.roles h held in
      let step : VolumeStep smallest 1000 new_tree here w = Quiet [] k (Admit need fits) refl in
      carry from j h held map_of those s k Stays [] (Admit need fits) refl h held (Steps here w s.session step) (Goes here w s.since step)

  pub leaves : (members unspent left : ℕ) → j.members ≡ members + 1 → j.unspent ≡ unspent + left → (members ≡ 0 → unspent ≡ 0) → Stage from (record j { members = members; unspent = unspent }) h held map_of those
  leaves members unspent left one some none =
      let k : Journal = record j { members = members; unspent = unspent } in
      let w = at_volume s.r k s.roles h held in
      let step : VolumeStep smallest 1000 new_tree here w = Leaves members unspent left one some none (λ last. refl) in
      record {
        r = s.r;
        roles = s.roles;
        session = Steps here w s.session step;
        since = Goes here w s.since step;
        read = record { claimed = s.read.claimed; owners = s.read.owners; suited = s.read.suited };
        blocks = s.blocks;
        metadata = s.metadata;
      }

  pub seals : (cause : Cause) → j.sealed ≡ None → j.members ≡ 0 → used_sectors j + tx_sectors j.running ≤ ring_of smallest → (next_header smallest j).tid + 1 < 2 ^ 32
      → Stage from (record j { sealed = Some (record { tx = running_tx smallest j; written = 0 }); running = [] }) (record h { commits = h.commits ++ record { boundary = held Running; cause = cause } ∷ [] })
      (λ w. held (moved_from Seals w)) map_of those
  seals cause none idle fits number =
      let k : Journal = record j { sealed = Some (record { tx = running_tx smallest j; written = 0 }); running = [] } in
      let new : History = record h { commits = h.commits ++ record { boundary = held Running; cause = cause } ∷ [] } in
      let holds : Version → ℕ = λ w. held (moved_from Seals w) in
      let w = at_volume s.r k (moved Seals s.roles) new holds in
      let step : VolumeStep smallest 1000 new_tree here w = CommitBegins cause k (Seal none idle fits number) in
      carry from j h held map_of those s k Seals [] (Seal none idle fits number) refl new holds
      (subst (λ (q : Record). Session smallest 1000 new_tree new_disk (at_volume q k (moved Seals s.roles) new holds)) (sym (no_calls s.r)) (Steps here w s.session step))
      (subst (λ (q : Record). Leads from (at_volume q k (moved Seals s.roles) new holds)) (sym (no_calls s.r)) (Goes here w s.since step))

  pub logs : (t : SealedTx) (n : ℕ) → j.sealed ≡ Some t → IsInOneTurn smallest t.tx t.written n → Stage from (record j { sealed = Some (record t { written = t.written + n }) }) h held map_of those
  logs t n is turn =
      let k : Journal = record j { sealed = Some (record t { written = t.written + n }) } in
      let calls : List DeviceCall = tx_write smallest j.oldest.epoch t.tx t.written n ∷ [] in
      let w = at_volume (with_calls s.r calls) k s.roles h held in
      let step : VolumeStep smallest 1000 new_tree here w = Quiet calls k (LogWrite t n is turn) refl in
      carry from j h held map_of those s k Stays calls (LogWrite t n is turn) refl h held (Steps here w s.session step) (Goes here w s.since step)

  pub publishes : (t : SealedTx) → j.sealed ≡ Some t → t.written ≡ t.tx.sectors
      → Stage from (record j { committed = j.committed ++ t.tx ∷ []; sealed = None; owners = λ b. published_owner t.tx.tid (j.owners b) }) h (λ w. held (moved_from Publishes w)) map_of those
  publishes t is whole =
      let k : Journal = record j { committed = j.committed ++ t.tx ∷ []; sealed = None; owners = λ b. published_owner t.tx.tid (j.owners b) } in
      let holds : Version → ℕ = λ w. held (moved_from Publishes w) in
      let w = at_volume (with_calls s.r (Flush ∷ [])) k (moved Publishes s.roles) h holds in
      let step : VolumeStep smallest 1000 new_tree here w = CommitEnds (Flush ∷ []) k (Publish t is whole) in
      carry from j h held map_of those s k Publishes (Flush ∷ []) (Publish t is whole) refl h holds (Steps here w s.session step) (Goes here w s.since step)

  -- with the bytes where they were written
  pub writes : (first : ℕ) (bytes : List ℕ) → IsRawWrite smallest s.roles j first bytes → WritesTouched smallest 1000 new_tree h.entries s.r (held Running) (readings_of smallest here) first bytes
      → (w : Stage from j h held map_of those) × ((i : ℕ) → i < length bytes → slice_index (present_of w.r) (512 * first + i) ≡ slice_index bytes i)
  writes first bytes raw touched =
      let calls : List DeviceCall = Write first bytes ∷ [] in
      let w = at_volume (with_calls s.r calls) j s.roles h held in
      let step : VolumeStep smallest 1000 new_tree here w = Writes first bytes raw touched in
      let next = carry_at from j h held map_of those s j Stays calls (RawWrite first bytes raw) refl h held (Steps here w s.session step) (Goes here w s.since step) in
      let safe = (keeps from j h held map_of those s).safe in
      let low = ltb-true (first / 8) (blocks_of smallest) (and_parts (nat_lt (first / 8) (blocks_of smallest)) (is_body_region (region_of smallest (first / 8))) raw.body).0 in
      let fits : 512 * first + length bytes ≤ length (present_of s.r) = omega (arith, low, raw.inside, blocks_fit smallest (present_of s.r) (geometry_at_home smallest s.roles s.r j safe)) in (
        next.0,
        λ i within. ap (λ (q : Record). slice_index (present_of q) (512 * first + i)) next.1 ∙ ap (λ (image : Image). slice_index image (512 * first + i)) (present_after s.r calls)
            ∙ byte_written (present_of s.r) first bytes i fits within,
      )
