-- The journals between the calls of the worked session.
use Rattle.std.specs.Prelude.{ℕ, ◌+◌, List, [], ◌∷◌, ◌++◌, map, None}
use Rattle.tree_types.specs.declared.waiting.Cause.TheVariants as cause
use Rattle.tree_types.specs.declared.history.Entry.{Entry}
use Rattle.volume_model.specs.MkfsImage.{made_header}
use Rattle.volume_model.specs.Worked.{smallest}
use Rattle.history_model.specs.Histories.{History}
use Rattle.journal_model.specs.Journals.{Owner, Journal, new_journal}
use Rattle.journal_model.specs.Versions.{running_tx}
use Rattle.journal_model.specs.Mount.{next_epoch}
use Rattle.journal_model.specs.Steps.{published_owner}
use Rattle.store_laws.specs.Tied.{owners_by_bits, journal_after}
use Rattle.worked_session.specs.FourChanges.{mkdir_change, rmdir_change, create_change, write_change, new_reading}

-- as the mount leaves it
abbrev pub first_owners : ℕ → Owner
first_owners = owners_by_bits smallest new_reading

abbrev pub first_journal : Journal
first_journal = new_journal (next_epoch made_header) first_owners

-- with one call inside, and with that one gone out
abbrev pub inside : Journal → Journal
inside j = record j { members = j.members + 1; unspent = j.unspent + 4000 }

abbrev pub left_by : Journal → Journal
left_by j = record j { members = 0; unspent = 0 }

-- with the running transaction committed
abbrev pub committed : Journal → Journal
committed j = record j {
  committed = j.committed ++ running_tx smallest j ∷ [];
  sealed = None;
  running = [];
  owners = λ b. published_owner (running_tx smallest j).tid (j.owners b);
}

-- after each of the four calls, and after the commits
abbrev pub with_directory : Journal
with_directory = left_by (journal_after smallest (inside first_journal) mkdir_change)

abbrev pub journal_one : Journal
journal_one = committed with_directory

abbrev pub without_directory : Journal
without_directory = left_by (journal_after smallest (inside journal_one) rmdir_change)

abbrev pub journal_two : Journal
journal_two = committed without_directory

abbrev pub with_file : Journal
with_file = left_by (journal_after smallest (inside journal_two) create_change)

abbrev pub with_letters : Journal
with_letters = left_by (journal_after smallest (inside with_file) write_change)

abbrev pub journal_three : Journal
journal_three = committed with_letters

-- a history of these entries, with commits at these boundaries
abbrev pub history_of : List Entry → List ℕ → History
history_of entries boundaries = record { entries = entries; commits = map (λ n. record { boundary = n; cause = cause.Ending }) boundaries; rolls = [] }
