-- Each entry's caller, reply and inode are computed.
use Rattle.std.proofs.Common.{◌≡◌, true, false, refl, lit≤, lit<}
use Rattle.volume_model.specs.Sound.{free_blocks_of, free_inodes_of}
use Rattle.history_model.specs.Places.{links_in}
use Rattle.history_model.specs.Walk.{walk_of}
use Rattle.history_model.specs.Ends.{ends_of}
use Rattle.history_model.specs.Refusals.{decision_at}
use Rattle.history_model.specs.Edits.{edited}
use Rattle.history_model.specs.Replies.{reply_of, tree_after}
use Rattle.history_model.specs.Histories.{Legal}
use Rattle.worked_history.proofs.histories.legal_history.Goals as goal

pub returns : goal.returns
unfolding free_blocks_of links_in free_inodes_of walk_of ends_of decision_at edited reply_of tree_after Legal
returns c = (
  record {
    cred = refl;
    reply = record {
      call = λ e. cc;
      reply = λ _. refl;
      made = refl;
      usable = record { low = lit≤ tt; high = lit< tt; free = refl };
    };
    sync = λ e. absurd (let f : false ≡ true = e in cc);
  },
  (
    record {
      cred = refl;
      reply = record {
        call = λ e. cc;
        reply = λ _. refl;
        made = refl;
        usable = tt;
      };
      sync = λ e. absurd (let f : false ≡ true = e in cc);
    },
    (
      record {
        cred = refl;
        reply = record {
          call = λ e. cc;
          reply = λ _. refl;
          made = refl;
          usable = tt;
        };
        sync = λ e. absurd (let f : false ≡ true = e in cc);
      },
      tt,
    ),
  ),
)
