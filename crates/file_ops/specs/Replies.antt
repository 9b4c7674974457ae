-- What a call is answered whose walk has ended.
use Rattle.std.specs.Prelude.{◌≡◌, Option, Some, None, Ok}
use Rattle.lufs_base.specs.declared.geometry.Geometry.{Geometry}
use Rattle.tree_types.specs.declared.credentials.Cred.{Cred}
use Rattle.tree_types.specs.declared.call.Call.{Call}
use Rattle.tree_types.specs.declared.reply.Refusal.{Refusal}
use Rattle.tree_types.specs.declared.reply.Reply.{Reply}
use Rattle.volume_model.specs.Sound.{Tree}
use Rattle.history_model.specs.Walk.{WalkEnd}
use Rattle.history_model.specs.Ends.{One}
use Rattle.history_model.specs.Refusals.{Decision, Refuse, Proceed}
use Rattle.history_model.specs.Replies.{walked_reply}

-- it is the reply of the call where the walk of its one path ends so
abbrev pub IsReplyTo : Geometry → Tree → Cred → Call → WalkEnd → Reply → Type 0
IsReplyTo g tree cred call p reply = reply ≡ walked_reply g tree cred call (Ok (One p))

-- a call goes on where nothing refuses it
abbrev pub decision_by : Option Refusal → Decision
decision_by None = Proceed
decision_by (Some refusal) = Refuse refusal
