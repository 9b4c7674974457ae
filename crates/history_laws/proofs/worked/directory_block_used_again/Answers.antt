-- The entries are computed; of crashes, by what is proved of each session.
use Rattle.std.proofs.Common.{◌≡◌, [], true, false, refl, lit≤, lit<, length}
use Rattle.volume_model.specs.Sound.{free_blocks_of, free_inodes_of}
use Rattle.volume_model.specs.MkfsImage.{made_header}
use Rattle.volume_model.specs.Worked.{smallest}
use Rattle.history_model.specs.Places.{links_in}
use Rattle.history_model.specs.Walk.{walk_of}
use Rattle.history_model.specs.Ends.{ends_of}
use Rattle.history_model.specs.Refusals.{decision_at}
use Rattle.history_model.specs.Edits.{edited}
use Rattle.history_model.specs.Replies.{reply_of, tree_after}
use Rattle.history_model.specs.Histories.{Legal}
use Rattle.history_model.specs.WorkedTrees.{new_tree}
use Rattle.history_laws.specs.WorkedSession.{new_disk}
use Rattle.history_laws.proofs.Moments.{up_to_now}
use Rattle.history_laws.proofs.SessionsBegin.{session_begins}
use Rattle.history_laws.proofs.NewDisk.{new_disk_mounts}
use Rattle.history_laws.proofs.SessionSteps.{session_keeps}
use Rattle.history_laws.proofs.WorkedTreesReplayed.{tree_is}
use Rattle.history_laws.proofs.WorkedBytesSettled.{once_told, before_that}
use Rattle.history_laws.proofs.WorkedCrashes.{left_by}
use Rattle.history_laws.proofs.worked.directory_block_used_again.Goals as goal

pub returns-clause-legal : goal.returns-clause-legal
unfolding free_blocks_of links_in free_inodes_of walk_of ends_of decision_at edited reply_of tree_after Legal
returns-clause-legal c = λ when. (
  record {
    cred = refl;
    reply = record { call = λ e. cc; reply = λ _. refl; made = refl; usable = record { low = lit≤ tt; high = lit< tt; free = refl } };
    sync = λ e. absurd (let f : false ≡ true = e in cc);
  },
  (
    record {
      cred = refl;
      reply = record { call = λ e. cc; reply = λ _. refl; made = refl; usable = tt };
      sync = λ e. absurd (let f : false ≡ true = e in cc);
    },
    (
      record {
        cred = refl;
        reply = record { call = λ e. cc; reply = λ _. refl; made = refl; usable = record { low = lit≤ tt; high = lit< tt; free = refl } };
        sync = λ e. absurd (let f : false ≡ true = e in cc);
      },
      (
        record {
          cred = refl;
          reply = record { call = λ e. cc; reply = λ _. refl; made = refl; usable = tt };
          sync = λ e. absurd (let f : false ≡ true = e in cc);
        },
        (
          record {
            cred = refl;
            reply = record { call = λ e. cc; reply = λ _. refl; made = refl; usable = tt };
            sync = λ e. refl;
          },
          tt,
        ),
      ),
    ),
  ),
)

pub returns-clause-trees : goal.returns-clause-trees
returns-clause-trees c = tree_is

pub returns-clause-settled : goal.returns-clause-settled
returns-clause-settled c = λ when told n p is low less. once_told when told n p is low

pub returns-clause-unsettled : goal.returns-clause-unsettled
returns-clause-unsettled c = λ when n p began later less settled. before_that when n p settled.0 began later less settled.1

pub returns-clause-begins : goal.returns-clause-begins
returns-clause-begins c = session_begins smallest 1000 new_tree (record { header = made_header; txs = [] }) new_disk new_disk_mounts

pub returns-clause-crash : goal.returns-clause-crash
returns-clause-crash c = λ when start v n image session entries commits low high is.
    let (k, boundary, recovers) = up_to_now smallest 1000 new_tree (length start.calls) v (session_keeps smallest 1000 new_tree start v session) n low high image is in
    left_by when v.h n k image entries commits boundary recovers

pub returns-clause-not_committed : goal.returns-clause-not_committed
returns-clause-not_committed c = refl

pub returns-clause-committed : goal.returns-clause-committed
returns-clause-committed c = refl
