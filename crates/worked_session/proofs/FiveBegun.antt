-- Each of the five entries may begin after those before it.
use Rattle.std.proofs.Common.{◌≡◌, ℕ, true, false, [], ◌∷◌, None, refl, lit≤, lit<}
use Rattle.volume_model.specs.Sound.{free_blocks_of, free_inodes_of}
use Rattle.volume_model.specs.Worked.{smallest}
use Rattle.history_model.specs.Places.{links_in}
use Rattle.history_model.specs.Walk.{walk_of}
use Rattle.history_model.specs.Ends.{ends_of}
use Rattle.history_model.specs.Refusals.{decision_at}
use Rattle.history_model.specs.Edits.{edited}
use Rattle.history_model.specs.Replies.{reply_of, tree_after}
use Rattle.history_model.specs.WorkedTrees.{new_tree}
use Rattle.history_laws.specs.VolumeSteps.{IsBegun}
use Rattle.history_laws.specs.WorkedSession.{Times}
use Rattle.worked_session.specs.FiveEntries.{entry_one, entry_two, entry_three, entry_four, entry_five}

-- an entry that begins at this call of the disk, and isn't told
abbrev pub since : ℕ → Times
since n = record { start = n; at = n; told = None }

pub one_begins : (n : ℕ) → IsBegun smallest 1000 new_tree [] n (entry_one (since n))
unfolding free_blocks_of links_in free_inodes_of walk_of ends_of decision_at edited reply_of tree_after
one_begins n = record {
  right = record {
    cred = refl;
    reply = record { call = λ e. cc; reply = λ _. refl; made = refl; usable = record { low = lit≤ tt; high = lit< tt; free = refl } };
    sync = λ e. absurd (let f : false ≡ true = e in cc);
  };
  start = refl;
  told = refl;
  fsync = λ is. absurd (let f : false ≡ true = is in cc);
}

pub two_begins : (one : Times) (n : ℕ) → IsBegun smallest 1000 new_tree (entry_one one ∷ []) n (entry_two (since n))
unfolding free_blocks_of links_in free_inodes_of walk_of ends_of decision_at edited reply_of tree_after
two_begins one n = record {
  right = record {
    cred = refl;
    reply = record { call = λ e. cc; reply = λ _. refl; made = refl; usable = tt };
    sync = λ e. absurd (let f : false ≡ true = e in cc);
  };
  start = refl;
  told = refl;
  fsync = λ is. absurd (let f : false ≡ true = is in cc);
}

pub three_begins : (one two : Times) (n : ℕ) → IsBegun smallest 1000 new_tree (entry_one one ∷ (entry_two two ∷ [])) n (entry_three (since n))
unfolding free_blocks_of links_in free_inodes_of walk_of ends_of decision_at edited reply_of tree_after
three_begins one two n = record {
  right = record {
    cred = refl;
    reply = record { call = λ e. cc; reply = λ _. refl; made = refl; usable = record { low = lit≤ tt; high = lit< tt; free = refl } };
    sync = λ e. absurd (let f : false ≡ true = e in cc);
  };
  start = refl;
  told = refl;
  fsync = λ is. absurd (let f : false ≡ true = is in cc);
}

pub four_begins : (one two three : Times) (n : ℕ) → IsBegun smallest 1000 new_tree (entry_one one ∷ (entry_two two ∷ (entry_three three ∷ []))) n (entry_four (since n))
unfolding free_blocks_of links_in free_inodes_of walk_of ends_of decision_at edited reply_of tree_after
four_begins one two three n = record {
  right = record {
    cred = refl;
    reply = record { call = λ e. cc; reply = λ _. refl; made = refl; usable = tt };
    sync = λ e. absurd (let f : false ≡ true = e in cc);
  };
  start = refl;
  told = refl;
  fsync = λ is. absurd (let f : false ≡ true = is in cc);
}

pub five_begins : (one two three four : Times) (n : ℕ) → IsBegun smallest 1000 new_tree (entry_one one ∷ (entry_two two ∷ (entry_three three ∷ (entry_four four ∷ [])))) n (entry_five (since n))
unfolding free_blocks_of links_in free_inodes_of walk_of ends_of decision_at edited reply_of tree_after
five_begins one two three four n = record {
  right = record {
    cred = refl;
    reply = record { call = λ e. cc; reply = λ _. refl; made = refl; usable = tt };
    sync = λ e. refl;
  };
  start = refl;
  told = refl;
  fsync = λ is ok. refl;
}
