-- The oldest transactions are picked to be rolled.
use Rattle.std.proofs.Common.{◌≡◌, ◌≤◌, inl, inr, ℕ, false, List, [], ◌++◌, length, take, drop, sym, ap, ◌∙◌, subst, arith}
use Rattle.std.proofs.lemmas.Bool.{true≢false, cases_Bool}
use Rattle.std.proofs.lemmas.List.{append-nil, take_all, drop_all}
use Rattle.lufs_base.specs.Layout.{IsGeometry}
use Rattle.lufs_base.specs.declared.geometry.Geometry.{Geometry}
use Rattle.volume_model.specs.declared.log.Tx.{Tx}
use Rattle.volume_model.specs.Crash.{Record, with_calls, present_of}
use Rattle.volume_model.specs.Sound.{is_among}
use Rattle.journal_model.specs.Journals.{Batch, Roll, Idle, Writing, Live, Journal}
use Rattle.journal_model.specs.Versions.{Published, Running, header_after, later_of}
use Rattle.journal_model.specs.LaidBlocks.{is_laid_by, is_cancelled_by}
use Rattle.journal_model.specs.BlockRoles.{Roles, is_claimed}
use Rattle.journal_model.specs.Batches.{is_freed_owner, home_count, trimmed_count}
use Rattle.journal_model.specs.SafeImages.{HasHeader}
use Rattle.journal_model.specs.Kept.{HaveRoles, IsBatch, HaveOwners}
use Rattle.journal_model.specs.Safety.{IsSafe}
use Rattle.journal_laws.proofs.Outcomes.{no_calls}
use Rattle.journal_laws.proofs.RollKept.{with_roll, versions_kept, owners_kept, room_kept, image_kept, metadata_is_claimed}

-- a batch of all transactions that were committed
abbrev pub whole_batch : Journal → List ℕ → Batch
whole_batch j held = record { count = length j.committed; held = held; left = held }

whole_is_batch : (g : Geometry) (roles : Roles) (j : Journal) (held : List ℕ) → HaveRoles g roles j → 1 ≤ length j.committed → ((b : ℕ) → is_among b held ≡ is_laid_by j.committed b)
    → IsBatch g roles (with_roll j (Writing (whole_batch j held))) (whole_batch j held)
whole_is_batch g roles j held versions some is =
    let all : take (length j.committed) j.committed ≡ j.committed = take_all (length j.committed) j.committed (omega arith) in
    let none : drop (length j.committed) j.committed ≡ [] = drop_all (length j.committed) j.committed (omega arith) in
    record {
      some = some;
      committed = omega arith;
      held = λ b. is b ∙ ap (λ (l : List Tx). is_laid_by l b) (sym all);
      left = λ b among. among;
      cancelled = λ v b among cancelled. versions.cancelled v b (sym (ap (λ (l : List Tx). is_cancelled_by (l ++ later_of g j v) b) none) ∙ cancelled);
    }

-- a block in a hand isn't one that a committed transaction lays bytes over
hand_not_laid : (g : Geometry) (roles : Roles) (j : Journal) (b : ℕ) → HaveRoles g roles j → HaveOwners g roles j → is_claimed (roles Running b) ≡ false → j.owners b ≡ Live
    → is_laid_by j.committed b ≡ false
hand_not_laid g roles j b versions owners unclaimed live =
    elim (cases_Bool (is_laid_by j.committed b)) [
      | inl laid ↦
          let gone = owners.gone b unclaimed (ap is_freed_owner live) in
          let metadata = versions.laid Published b (ap (λ (l : List Tx). is_laid_by l b) (append-nil j.committed) ∙ laid) in
          absurd (true≢false (sym (metadata_is_claimed (roles Published b) metadata) ∙ gone.unclaimed Published))
      | inr none ↦ none
    ]

pub keeps_pick : (g : Geometry) (roles : Roles) (r : Record) (j : Journal) (held : List ℕ) → IsGeometry g → IsSafe g roles r j
    → j.roll ≡ Idle → 1 ≤ length j.committed → ((b : ℕ) → is_among b held ≡ is_laid_by j.committed b)
    → IsSafe g roles (with_calls r []) (record j { roll = Writing (record { count = length j.committed; held = held; left = held }) })
keeps_pick g roles r j held geometry safe idle some is =
    let roll : Roll = Writing (whole_batch j held) in
    let trims : trimmed_count roll ≡ trimmed_count j.roll = sym (ap trimmed_count idle) in
    let homes : home_count roll ≡ home_count j.roll = sym (ap home_count idle) in
    subst (λ (q : Record). IsSafe g roles q (with_roll j roll)) (sym (no_calls r)) (record {
      sectors = safe.sectors;
      each = λ image left. image_kept g roles (present_of r) j roll image trims homes (safe.each image left);
      present = record {
        header = subst (λ (n : ℕ). HasHeader g (present_of r) (header_after g j n)) (sym trims) safe.present.header;
        sealed = safe.present.sealed;
        rolled = λ b i among left below. absurd (true≢false (sym among ∙ left));
      };
      versions = versions_kept g roles j roll safe.versions;
      roll = whole_is_batch g roles j held safe.versions some is;
      owners = owners_kept g roles j roll safe.owners (λ b unclaimed live. is b ∙ hand_not_laid g roles j b safe.versions safe.owners unclaimed live);
      room = room_kept g j roll safe.room;
    })
