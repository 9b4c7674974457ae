-- Each row is computed.
use Rattle.std.proofs.Common.{refl}
use Rattle.volume_model.specs.Sound.{free_blocks_of, free_inodes_of}
use Rattle.volume_model.specs.Sound.{shape_of}
use Rattle.std.specs.Fmt.{digits}
use Rattle.history_model.specs.Places.{links_in}
use Rattle.history_model.specs.Walk.{walk_of}
use Rattle.history_model.specs.Ends.{ends_of}
use Rattle.history_model.specs.Refusals.{decision_at}
use Rattle.history_model.specs.Edits.{edited}
use Rattle.history_model.specs.Replies.{reply_of, tree_after, wanted_of}
use Rattle.history_model.specs.Numbers.{number_below, mode_of, bytes_of_hex}
use Rattle.history_model.specs.Lines.{line_of, lines_of}
use Rattle.history_model.specs.ReplyText.{text_of_reply, reply_text_of}
use Rattle.history_model.specs.Histories.{replay_of}
use Rattle.history_model.specs.HistoryText.{history_text_of, session_text_of, load_text_of}
use Rattle.worked_history.proofs.calls.directories_made.Goals as goal

pub returns-clause-beside_files : goal.returns-clause-beside_files
unfolding free_blocks_of shape_of digits links_in free_inodes_of walk_of ends_of decision_at edited reply_of tree_after wanted_of number_below mode_of bytes_of_hex line_of lines_of text_of_reply reply_text_of replay_of history_text_of session_text_of load_text_of
returns-clause-beside_files c = refl

pub returns-clause-nested : goal.returns-clause-nested
unfolding free_blocks_of shape_of digits links_in free_inodes_of walk_of ends_of decision_at edited reply_of tree_after wanted_of number_below mode_of bytes_of_hex line_of lines_of text_of_reply reply_text_of replay_of history_text_of session_text_of load_text_of
returns-clause-nested c = refl
