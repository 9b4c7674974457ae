-- Each row is computed.
use Rattle.std.proofs.Common.{refl}
use Rattle.volume_model.specs.Sound.{free_blocks_of, free_inodes_of}
use Rattle.volume_model.specs.Sound.{shape_of}
use Rattle.std.specs.Fmt.{digits}
use Rattle.history_model.specs.Places.{links_in}
use Rattle.history_model.specs.Walk.{walk_of}
use Rattle.history_model.specs.Ends.{ends_of}
use Rattle.history_model.specs.Refusals.{decision_at}
use Rattle.history_model.specs.Edits.{edited}
use Rattle.history_model.specs.Replies.{reply_of, tree_after, wanted_of}
use Rattle.history_model.specs.Numbers.{number_below, mode_of, bytes_of_hex}
use Rattle.history_model.specs.Lines.{line_of, lines_of}
use Rattle.history_model.specs.ReplyText.{text_of_reply, reply_text_of}
use Rattle.worked_history.proofs.renames.renames_done.Goals as goal

pub returns-clause-file : goal.returns-clause-file
unfolding free_blocks_of shape_of digits links_in free_inodes_of walk_of ends_of decision_at edited reply_of tree_after wanted_of number_below mode_of bytes_of_hex line_of lines_of text_of_reply reply_text_of
returns-clause-file c = refl

pub returns-clause-replaced_file : goal.returns-clause-replaced_file
unfolding free_blocks_of shape_of digits links_in free_inodes_of walk_of ends_of decision_at edited reply_of tree_after wanted_of number_below mode_of bytes_of_hex line_of lines_of text_of_reply reply_text_of
returns-clause-replaced_file c = refl

pub returns-clause-replaced_name : goal.returns-clause-replaced_name
unfolding free_blocks_of shape_of digits links_in free_inodes_of walk_of ends_of decision_at edited reply_of tree_after wanted_of number_below mode_of bytes_of_hex line_of lines_of text_of_reply reply_text_of
returns-clause-replaced_name c = refl

pub returns-clause-moved_directory : goal.returns-clause-moved_directory
unfolding free_blocks_of shape_of digits links_in free_inodes_of walk_of ends_of decision_at edited reply_of tree_after wanted_of number_below mode_of bytes_of_hex line_of lines_of text_of_reply reply_text_of
returns-clause-moved_directory c = refl

pub returns-clause-replaced_directory : goal.returns-clause-replaced_directory
unfolding free_blocks_of shape_of digits links_in free_inodes_of walk_of ends_of decision_at edited reply_of tree_after wanted_of number_below mode_of bytes_of_hex line_of lines_of text_of_reply reply_text_of
returns-clause-replaced_directory c = refl

pub returns-clause-replaced_below : goal.returns-clause-replaced_below
unfolding free_blocks_of shape_of digits links_in free_inodes_of walk_of ends_of decision_at edited reply_of tree_after wanted_of number_below mode_of bytes_of_hex line_of lines_of text_of_reply reply_text_of
returns-clause-replaced_below c = refl

pub returns-clause-symbolic_link : goal.returns-clause-symbolic_link
unfolding free_blocks_of shape_of digits links_in free_inodes_of walk_of ends_of decision_at edited reply_of tree_after wanted_of number_below mode_of bytes_of_hex line_of lines_of text_of_reply reply_text_of
returns-clause-symbolic_link c = refl
