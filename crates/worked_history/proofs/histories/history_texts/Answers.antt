-- Each row is computed.
use Rattle.std.proofs.Common.{refl}
use Rattle.volume_model.specs.Sound.{free_blocks_of, free_inodes_of}
use Rattle.volume_model.specs.Sound.{shape_of}
use Rattle.std.specs.Fmt.{digits}
use Rattle.history_model.specs.Places.{links_in}
use Rattle.history_model.specs.Walk.{walk_of}
use Rattle.history_model.specs.Ends.{ends_of}
use Rattle.history_model.specs.Refusals.{decision_at}
use Rattle.history_model.specs.Edits.{edited}
use Rattle.history_model.specs.Replies.{reply_of, tree_after, wanted_of}
use Rattle.history_model.specs.Numbers.{number_below, mode_of, bytes_of_hex}
use Rattle.history_model.specs.Lines.{line_of, lines_of}
use Rattle.history_model.specs.ReplyText.{text_of_reply, reply_text_of}
use Rattle.history_model.specs.Histories.{replay_of}
use Rattle.history_model.specs.HistoryText.{history_text_of, session_text_of, load_text_of}
use Rattle.worked_history.proofs.histories.history_texts.Goals as goal

pub returns-clause-three_lines : goal.returns-clause-three_lines
unfolding free_blocks_of shape_of digits links_in free_inodes_of walk_of ends_of decision_at edited reply_of tree_after wanted_of number_below mode_of bytes_of_hex line_of lines_of text_of_reply reply_text_of replay_of history_text_of session_text_of load_text_of
returns-clause-three_lines c = refl

pub returns-clause-from_the_command : goal.returns-clause-from_the_command
unfolding free_blocks_of shape_of digits links_in free_inodes_of walk_of ends_of decision_at edited reply_of tree_after wanted_of number_below mode_of bytes_of_hex line_of lines_of text_of_reply reply_text_of replay_of history_text_of session_text_of load_text_of
returns-clause-from_the_command c = refl

pub returns-clause-not_told : goal.returns-clause-not_told
unfolding free_blocks_of shape_of digits links_in free_inodes_of walk_of ends_of decision_at edited reply_of tree_after wanted_of number_below mode_of bytes_of_hex line_of lines_of text_of_reply reply_text_of replay_of history_text_of session_text_of load_text_of
returns-clause-not_told c = refl

pub returns-clause-refused : goal.returns-clause-refused
unfolding free_blocks_of shape_of digits links_in free_inodes_of walk_of ends_of decision_at edited reply_of tree_after wanted_of number_below mode_of bytes_of_hex line_of lines_of text_of_reply reply_text_of replay_of history_text_of session_text_of load_text_of
returns-clause-refused c = refl

pub returns-clause-in_order : goal.returns-clause-in_order
unfolding free_blocks_of shape_of digits links_in free_inodes_of walk_of ends_of decision_at edited reply_of tree_after wanted_of number_below mode_of bytes_of_hex line_of lines_of text_of_reply reply_text_of replay_of history_text_of session_text_of load_text_of
returns-clause-in_order c = refl

pub returns-clause-causes : goal.returns-clause-causes
unfolding free_blocks_of shape_of digits links_in free_inodes_of walk_of ends_of decision_at edited reply_of tree_after wanted_of number_below mode_of bytes_of_hex line_of lines_of text_of_reply reply_text_of replay_of history_text_of session_text_of load_text_of
returns-clause-causes c = refl

pub returns-clause-session : goal.returns-clause-session
unfolding free_blocks_of shape_of digits links_in free_inodes_of walk_of ends_of decision_at edited reply_of tree_after wanted_of number_below mode_of bytes_of_hex line_of lines_of text_of_reply reply_text_of replay_of history_text_of session_text_of load_text_of
returns-clause-session c = refl

pub returns-clause-session_left : goal.returns-clause-session_left
unfolding free_blocks_of shape_of digits links_in free_inodes_of walk_of ends_of decision_at edited reply_of tree_after wanted_of number_below mode_of bytes_of_hex line_of lines_of text_of_reply reply_text_of replay_of history_text_of session_text_of load_text_of
returns-clause-session_left c = refl

pub returns-clause-no_lines : goal.returns-clause-no_lines
unfolding free_blocks_of shape_of digits links_in free_inodes_of walk_of ends_of decision_at edited reply_of tree_after wanted_of number_below mode_of bytes_of_hex line_of lines_of text_of_reply reply_text_of replay_of history_text_of session_text_of load_text_of
returns-clause-no_lines c = refl

pub returns-clause-load : goal.returns-clause-load
unfolding free_blocks_of shape_of digits links_in free_inodes_of walk_of ends_of decision_at edited reply_of tree_after wanted_of number_below mode_of bytes_of_hex line_of lines_of text_of_reply reply_text_of replay_of history_text_of session_text_of load_text_of
returns-clause-load c = refl
