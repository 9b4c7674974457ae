-- Each row is computed.
use Rattle.std.proofs.Common.{refl}
use Rattle.volume_model.specs.Sound.{free_blocks_of, free_inodes_of}
use Rattle.volume_model.specs.Sound.{shape_of}
use Rattle.std.specs.Fmt.{digits}
use Rattle.history_model.specs.Places.{links_in}
use Rattle.history_model.specs.Walk.{walk_of}
use Rattle.history_model.specs.Ends.{ends_of}
use Rattle.history_model.specs.Refusals.{decision_at}
use Rattle.history_model.specs.Edits.{edited}
use Rattle.history_model.specs.Replies.{reply_of, tree_after, wanted_of}
use Rattle.history_model.specs.Numbers.{number_below, mode_of, bytes_of_hex}
use Rattle.history_model.specs.Lines.{line_of, lines_of}
use Rattle.history_model.specs.ReplyText.{text_of_reply, reply_text_of}
use Rattle.history_model.specs.Histories.{replay_of}
use Rattle.history_model.specs.HistoryText.{history_text_of, session_text_of, load_text_of}
use Rattle.worked_history.proofs.histories.bytes_touched.Goals as goal

pub returns-clause-given : goal.returns-clause-given
unfolding free_blocks_of shape_of digits links_in free_inodes_of walk_of ends_of decision_at edited reply_of tree_after wanted_of number_below mode_of bytes_of_hex line_of lines_of text_of_reply reply_text_of replay_of history_text_of session_text_of load_text_of
returns-clause-given c = refl

pub returns-clause-claimed : goal.returns-clause-claimed
unfolding free_blocks_of shape_of digits links_in free_inodes_of walk_of ends_of decision_at edited reply_of tree_after wanted_of number_below mode_of bytes_of_hex line_of lines_of text_of_reply reply_text_of replay_of history_text_of session_text_of load_text_of
returns-clause-claimed c = refl

pub returns-clause-zeroed : goal.returns-clause-zeroed
unfolding free_blocks_of shape_of digits links_in free_inodes_of walk_of ends_of decision_at edited reply_of tree_after wanted_of number_below mode_of bytes_of_hex line_of lines_of text_of_reply reply_text_of replay_of history_text_of session_text_of load_text_of
returns-clause-zeroed c = refl

pub returns-clause-cut : goal.returns-clause-cut
unfolding free_blocks_of shape_of digits links_in free_inodes_of walk_of ends_of decision_at edited reply_of tree_after wanted_of number_below mode_of bytes_of_hex line_of lines_of text_of_reply reply_text_of replay_of history_text_of session_text_of load_text_of
returns-clause-cut c = refl

pub returns-clause-grown : goal.returns-clause-grown
unfolding free_blocks_of shape_of digits links_in free_inodes_of walk_of ends_of decision_at edited reply_of tree_after wanted_of number_below mode_of bytes_of_hex line_of lines_of text_of_reply reply_text_of replay_of history_text_of session_text_of load_text_of
returns-clause-grown c = refl

pub returns-clause-fault : goal.returns-clause-fault
unfolding free_blocks_of shape_of digits links_in free_inodes_of walk_of ends_of decision_at edited reply_of tree_after wanted_of number_below mode_of bytes_of_hex line_of lines_of text_of_reply reply_text_of replay_of history_text_of session_text_of load_text_of
returns-clause-fault c = refl

pub returns-clause-refused : goal.returns-clause-refused
unfolding free_blocks_of shape_of digits links_in free_inodes_of walk_of ends_of decision_at edited reply_of tree_after wanted_of number_below mode_of bytes_of_hex line_of lines_of text_of_reply reply_text_of replay_of history_text_of session_text_of load_text_of
returns-clause-refused c = refl

pub returns-clause-removed : goal.returns-clause-removed
unfolding free_blocks_of shape_of digits links_in free_inodes_of walk_of ends_of decision_at edited reply_of tree_after wanted_of number_below mode_of bytes_of_hex line_of lines_of text_of_reply reply_text_of replay_of history_text_of session_text_of load_text_of
returns-clause-removed c = refl

pub returns-clause-other_file : goal.returns-clause-other_file
unfolding free_blocks_of shape_of digits links_in free_inodes_of walk_of ends_of decision_at edited reply_of tree_after wanted_of number_below mode_of bytes_of_hex line_of lines_of text_of_reply reply_text_of replay_of history_text_of session_text_of load_text_of
returns-clause-other_file c = refl
