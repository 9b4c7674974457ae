-- What a call is answered that is asked, on a tree.
use Rattle.std.specs.Prelude.{◌≡◌, ℕ, Bool, true, false, ◌&&◌, Ok}
use Rattle.lufs_base.specs.declared.geometry.Geometry.{Geometry}
use Rattle.lufs_base.specs.Name.{IsName}
use Rattle.tree_types.specs.declared.credentials.Cred.{Cred}
use Rattle.tree_types.specs.declared.call.Call.{Call}
use Rattle.tree_types.specs.declared.reply.Reply.{Reply}
use Rattle.tree_types.specs.declared.reply.Reply.TheVariants as reply
use Rattle.volume_model.specs.Sound.{Tree}
use Rattle.history_model.specs.Ends.{One, ends_of}
use Rattle.history_model.specs.Wants.{wants_at, blocks_in}
use Rattle.history_model.specs.Refusals.{Proceed, decision_at}
use Rattle.history_model.specs.Replies.{reply_of, tree_after}
use Rattle.history_model.specs.Histories.{makes_inode, is_ok}
use Rattle.name_ops.specs.declared.wanted.Wanted.{Wanted}
use Rattle.name_ops.specs.declared.wanted.Wanted.TheVariants as wanted
use Rattle.path_walk.specs.Answers.{end_of}
use Rattle.path_walk.specs.declared.walked.Walked.{Walked}
use Rattle.call_ops.specs.declared.asked.Asked.{Asked}
use Rattle.call_ops.specs.declared.asked.Asked.TheVariants.{Told, Wants}
use Rattle.call_ops.specs.Served.{changes_names}

-- It is the reply of the call on this tree. The call leaves the tree as it is, and makes no inode.
pub record IsReplyAlone (g : Geometry) (tree : Tree) (cred : Cred) (call : Call) (reply : Reply) : Type 0 where
  pub replied : reply ≡ reply_of g tree cred call
  pub same_tree : (ino moment : ℕ) → tree_after g tree cred ino moment call ≡ tree
  pub no_inode : makes_inode call && is_ok reply ≡ false

-- On this tree the walk of the call ends so, nothing refuses the call, and it wants an inode or none and so many blocks. It
-- changes names.
pub record IsWanting (g : Geometry) (tree : Tree) (cred : Cred) (call : Call) (walked : Walked) (is_inode_wanted : Bool) (blocks_wanted : ℕ) : Type 0 where
  pub ends : ends_of tree cred call ≡ Ok (One (end_of walked))
  pub decision : decision_at g tree cred call (One (end_of walked)) ≡ Proceed
  pub inode : is_inode_wanted ≡ (wants_at tree call (One (end_of walked))).inode
  pub blocks : blocks_wanted ≡ blocks_in (wants_at tree call (One (end_of walked)))
  pub names : changes_names call ≡ true

abbrev pub IsAskedOn : Geometry → Tree → Cred → Call → Asked → Type 0
IsAskedOn g tree cred call (Told reply) = IsReplyAlone g tree cred call reply
IsAskedOn g tree cred call (Wants walked inode blocks) = IsWanting g tree cred call walked inode blocks

-- the name that the walk ended in is one that a directory may give, where something is wanted
abbrev pub HasName : Asked → Type 0
HasName (Told reply) = Unit {0}
HasName (Wants walked inode blocks) = IsName walked.name

-- what a call that changes names is answered where its walk ends so, by what it wants
abbrev pub answer_by : Walked → Wanted → Asked
answer_by walked (wanted.Refused why) = Told (reply.Refused why)
answer_by walked (wanted.Wants inode fresh others) = Wants walked inode others
