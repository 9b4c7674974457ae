-- How one call of a script is served: its reply, the inode that it made, and the content after it.
use Rattle.std.specs.Prelude.{◌≡◌, ◌≢◌, ◌⊎◌, ℕ, true, false, ◌&&◌, IsTrue, [], Option, IfSome, is_some, unwrap_or}
use Rattle.lufs_base.specs.declared.geometry.Geometry.{Geometry}
use Rattle.volume_model.specs.Format.{Image, block}
use Rattle.volume_model.specs.Sound.{Tree, StandsFor}
use Rattle.tree_types.specs.declared.credentials.Cred.{Cred}
use Rattle.tree_types.specs.declared.call.Call.{Call}
use Rattle.tree_types.specs.declared.reply.Refusal.TheVariants as refusal
use Rattle.tree_types.specs.declared.reply.Reply.{Reply}
use Rattle.tree_types.specs.declared.reply.Reply.TheVariants as reply
use Rattle.history_model.specs.Replies.{reply_of, tree_after}
use Rattle.history_model.specs.Histories.{is_ok, is_carried_out, makes_inode, IsUsable}
use Rattle.script_text.specs.ShortReplies.{is_short}

-- the tree after a call that got this reply, and that made this inode if it made one
abbrev pub tree_served : Geometry → (moment : ℕ) → Tree → Cred → Call → Reply → (ino : Option ℕ) → Tree
tree_served g moment tree cred call answer ino = elim (is_carried_out answer) [ true ↦ tree_after g tree cred (unwrap_or ino 0) moment call | false ↦ tree ]

-- The call got the reply of its tree, if there was memory. An inode is named just where one was made, which was free. After
-- it the content stands for the tree after the call, and nothing is held.
pub record IsServed (g : Geometry) (moment : ℕ) (tree : Tree) (cred : Cred) (call : Call) (answer : Reply) (ino : Option ℕ) (image : Image) : Type 0 where
  pub answered : (answer ≡ reply.Refused refusal.Nomem) ⊎ (answer ≡ reply_of g tree cred call)
  pub is_call : answer ≢ reply.Refused refusal.Syntax
  pub made : is_some ino ≡ (makes_inode call && is_ok answer)
  pub usable : IfSome ino (IsUsable g tree)
  pub stands : StandsFor g (block image) (tree_served g moment tree cred call answer ino) []
  pub short : IsTrue (is_short answer)
