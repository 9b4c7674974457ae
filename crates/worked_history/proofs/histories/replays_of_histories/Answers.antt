-- Each row is computed.
use Rattle.std.proofs.Common.{refl}
use Rattle.volume_model.specs.Sound.{free_blocks_of, free_inodes_of}
use Rattle.volume_model.specs.Sound.{shape_of}
use Rattle.std.specs.Fmt.{digits}
use Rattle.history_model.specs.Places.{links_in}
use Rattle.history_model.specs.Walk.{walk_of}
use Rattle.history_model.specs.Ends.{ends_of}
use Rattle.history_model.specs.Refusals.{decision_at}
use Rattle.history_model.specs.Edits.{edited}
use Rattle.history_model.specs.Replies.{reply_of, tree_after, wanted_of}
use Rattle.history_model.specs.Numbers.{number_below, mode_of, bytes_of_hex}
use Rattle.history_model.specs.Lines.{line_of, lines_of}
use Rattle.history_model.specs.ReplyText.{text_of_reply, reply_text_of}
use Rattle.history_model.specs.Histories.{replay_of}
use Rattle.history_model.specs.HistoryText.{history_text_of, session_text_of, load_text_of}
use Rattle.worked_history.proofs.histories.replays_of_histories.Goals as goal

pub returns-clause-nothing : goal.returns-clause-nothing
unfolding free_blocks_of shape_of digits links_in free_inodes_of walk_of ends_of decision_at edited reply_of tree_after wanted_of number_below mode_of bytes_of_hex line_of lines_of text_of_reply reply_text_of replay_of history_text_of session_text_of load_text_of
returns-clause-nothing c = refl

pub returns-clause-made : goal.returns-clause-made
unfolding free_blocks_of shape_of digits links_in free_inodes_of walk_of ends_of decision_at edited reply_of tree_after wanted_of number_below mode_of bytes_of_hex line_of lines_of text_of_reply reply_text_of replay_of history_text_of session_text_of load_text_of
returns-clause-made c = refl

pub returns-clause-all : goal.returns-clause-all
unfolding free_blocks_of shape_of digits links_in free_inodes_of walk_of ends_of decision_at edited reply_of tree_after wanted_of number_below mode_of bytes_of_hex line_of lines_of text_of_reply reply_text_of replay_of history_text_of session_text_of load_text_of
returns-clause-all c = refl

pub returns-clause-past_the_end : goal.returns-clause-past_the_end
unfolding free_blocks_of shape_of digits links_in free_inodes_of walk_of ends_of decision_at edited reply_of tree_after wanted_of number_below mode_of bytes_of_hex line_of lines_of text_of_reply reply_text_of replay_of history_text_of session_text_of load_text_of
returns-clause-past_the_end c = refl

pub returns-clause-other_inode : goal.returns-clause-other_inode
unfolding free_blocks_of shape_of digits links_in free_inodes_of walk_of ends_of decision_at edited reply_of tree_after wanted_of number_below mode_of bytes_of_hex line_of lines_of text_of_reply reply_text_of replay_of history_text_of session_text_of load_text_of
returns-clause-other_inode c = refl

pub returns-clause-fault : goal.returns-clause-fault
unfolding free_blocks_of shape_of digits links_in free_inodes_of walk_of ends_of decision_at edited reply_of tree_after wanted_of number_below mode_of bytes_of_hex line_of lines_of text_of_reply reply_text_of replay_of history_text_of session_text_of load_text_of
returns-clause-fault c = refl

pub returns-clause-locked : goal.returns-clause-locked
unfolding free_blocks_of shape_of digits links_in free_inodes_of walk_of ends_of decision_at edited reply_of tree_after wanted_of number_below mode_of bytes_of_hex line_of lines_of text_of_reply reply_text_of replay_of history_text_of session_text_of load_text_of
returns-clause-locked c = refl

pub returns-clause-nomem : goal.returns-clause-nomem
unfolding free_blocks_of shape_of digits links_in free_inodes_of walk_of ends_of decision_at edited reply_of tree_after wanted_of number_below mode_of bytes_of_hex line_of lines_of text_of_reply reply_text_of replay_of history_text_of session_text_of load_text_of
returns-clause-nomem c = refl

pub returns-clause-first_caller : goal.returns-clause-first_caller
unfolding free_blocks_of shape_of digits links_in free_inodes_of walk_of ends_of decision_at edited reply_of tree_after wanted_of number_below mode_of bytes_of_hex line_of lines_of text_of_reply reply_text_of replay_of history_text_of session_text_of load_text_of
returns-clause-first_caller c = refl

pub returns-clause-later_caller : goal.returns-clause-later_caller
unfolding free_blocks_of shape_of digits links_in free_inodes_of walk_of ends_of decision_at edited reply_of tree_after wanted_of number_below mode_of bytes_of_hex line_of lines_of text_of_reply reply_text_of replay_of history_text_of session_text_of load_text_of
returns-clause-later_caller c = refl
