-- A commit, and a call that goes in and out.
use Rattle.std.proofs.Common.{◌≡◌, ◌≤◌, ◌<◌, ℕ, ◌+◌, ◌^◌, List, [], ◌∷◌, ◌++◌, None, refl, subst, arith}
use Rattle.lufs_base.specs.Layout.{ring_of}
use Rattle.tree_types.specs.declared.waiting.Cause.TheVariants as cause
use Rattle.volume_model.specs.Format.{Blocks}
use Rattle.volume_model.specs.Log.{tx_sectors}
use Rattle.volume_model.specs.Worked.{smallest}
use Rattle.log_laws.specs.LogOnImage.{IsInOneTurn}
use Rattle.history_model.specs.Histories.{History}
use Rattle.journal_model.specs.Journals.{SealedTx, Journal}
use Rattle.journal_model.specs.Versions.{Version, Published, Sealed, Running, next_header, running_tx}
use Rattle.journal_model.specs.BlockRoles.{Seals, Publishes, moved_from}
use Rattle.journal_model.specs.Room.{used_sectors}
use Rattle.history_laws.specs.Volumes.{Volume}
use Rattle.worked_session.specs.Journals.{committed}
use Rattle.worked_session.specs.Stages.{Stage}
use Rattle.worked_session.proofs.Transitions.{seals, logs, publishes}

-- what a commit asks of a journal
pub record MayCommit (j : Journal) : Type 0 where
  pub none : j.sealed ≡ None
  pub idle : j.members ≡ 0
  pub fits : used_sectors j + tx_sectors j.running ≤ ring_of smallest
  pub number : (next_header smallest j).tid + 1 < 2 ^ 32
  pub turn : IsInOneTurn smallest (running_tx smallest j) 0 (tx_sectors j.running)

module _ {from : Volume} {j : Journal} {h : History} {held : Version → ℕ} {map_of : Blocks} {those : List ℕ} (s : Stage from j h held map_of those) where
  commit : MayCommit j
      → Stage from (committed j) (record h { commits = h.commits ++ record { boundary = held Running; cause = cause.Ending } ∷ [] }) (λ w. held (moved_from Seals (moved_from Publishes w))) map_of those
  commit may =
      let n = tx_sectors j.running in
      let t : SealedTx = record { tx = running_tx smallest j; written = 0 } in
      let written : SealedTx = record { tx = running_tx smallest j; written = 0 + n } in
      let sealed_so = seals s cause.Ending may.none may.idle may.fits may.number in
      let logged = logs sealed_so t n refl may.turn in
      let all : 0 + n ≡ n = omega arith in
      publishes logged written refl all

  each_holds : (n : ℕ) → held Running ≡ n → (w : Version) → held (moved_from Seals (moved_from Publishes w)) ≡ n
  each_holds n is Published = is
  each_holds n is Sealed = is
  each_holds n is Running = is

  -- and each version then holds as many entries
  pub commits : (n : ℕ) → held Running ≡ n → MayCommit j
      → Stage from (committed j) (record h { commits = h.commits ++ record { boundary = held Running; cause = cause.Ending } ∷ [] }) (λ w. n) map_of those
  commits n is may =
      subst (λ (f : Version → ℕ). Stage from (committed j) (record h { commits = h.commits ++ record { boundary = held Running; cause = cause.Ending } ∷ [] }) f map_of those) (λ t w. each_holds n is w t) (commit may)
