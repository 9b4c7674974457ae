-- Each row is computed.
use Rattle.std.proofs.Common.{refl}
use Rattle.volume_model.specs.Sound.{free_blocks_of, free_inodes_of}
use Rattle.volume_model.specs.Sound.{shape_of}
use Rattle.std.specs.Fmt.{digits}
use Rattle.history_model.specs.Places.{links_in}
use Rattle.history_model.specs.Walk.{walk_of}
use Rattle.history_model.specs.Ends.{ends_of}
use Rattle.history_model.specs.Refusals.{decision_at}
use Rattle.history_model.specs.Edits.{edited}
use Rattle.history_model.specs.Replies.{reply_of, tree_after, wanted_of}
use Rattle.history_model.specs.Numbers.{number_below, mode_of, bytes_of_hex}
use Rattle.history_model.specs.Lines.{line_of, lines_of}
use Rattle.history_model.specs.ReplyText.{text_of_reply, reply_text_of}
use Rattle.history_model.specs.Histories.{replay_of}
use Rattle.history_model.specs.HistoryText.{history_text_of, session_text_of, load_text_of}
use Rattle.worked_history.proofs.calls.times.Goals as goal

pub returns-clause-create : goal.returns-clause-create
unfolding free_blocks_of shape_of digits links_in free_inodes_of walk_of ends_of decision_at edited reply_of tree_after wanted_of number_below mode_of bytes_of_hex line_of lines_of text_of_reply reply_text_of replay_of history_text_of session_text_of load_text_of
returns-clause-create c = refl

pub returns-clause-link : goal.returns-clause-link
unfolding free_blocks_of shape_of digits links_in free_inodes_of walk_of ends_of decision_at edited reply_of tree_after wanted_of number_below mode_of bytes_of_hex line_of lines_of text_of_reply reply_text_of replay_of history_text_of session_text_of load_text_of
returns-clause-link c = refl

pub returns-clause-remove : goal.returns-clause-remove
unfolding free_blocks_of shape_of digits links_in free_inodes_of walk_of ends_of decision_at edited reply_of tree_after wanted_of number_below mode_of bytes_of_hex line_of lines_of text_of_reply reply_text_of replay_of history_text_of session_text_of load_text_of
returns-clause-remove c = refl

pub returns-clause-chmod : goal.returns-clause-chmod
unfolding free_blocks_of shape_of digits links_in free_inodes_of walk_of ends_of decision_at edited reply_of tree_after wanted_of number_below mode_of bytes_of_hex line_of lines_of text_of_reply reply_text_of replay_of history_text_of session_text_of load_text_of
returns-clause-chmod c = refl

pub returns-clause-write : goal.returns-clause-write
unfolding free_blocks_of shape_of digits links_in free_inodes_of walk_of ends_of decision_at edited reply_of tree_after wanted_of number_below mode_of bytes_of_hex line_of lines_of text_of_reply reply_text_of replay_of history_text_of session_text_of load_text_of
returns-clause-write c = refl

pub returns-clause-trunc : goal.returns-clause-trunc
unfolding free_blocks_of shape_of digits links_in free_inodes_of walk_of ends_of decision_at edited reply_of tree_after wanted_of number_below mode_of bytes_of_hex line_of lines_of text_of_reply reply_text_of replay_of history_text_of session_text_of load_text_of
returns-clause-trunc c = refl

pub returns-clause-rename : goal.returns-clause-rename
unfolding free_blocks_of shape_of digits links_in free_inodes_of walk_of ends_of decision_at edited reply_of tree_after wanted_of number_below mode_of bytes_of_hex line_of lines_of text_of_reply reply_text_of replay_of history_text_of session_text_of load_text_of
returns-clause-rename c = refl

pub returns-clause-rename_unchanged : goal.returns-clause-rename_unchanged
unfolding free_blocks_of shape_of digits links_in free_inodes_of walk_of ends_of decision_at edited reply_of tree_after wanted_of number_below mode_of bytes_of_hex line_of lines_of text_of_reply reply_text_of replay_of history_text_of session_text_of load_text_of
returns-clause-rename_unchanged c = refl
