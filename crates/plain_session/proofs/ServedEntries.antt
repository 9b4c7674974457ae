-- The entry of a call that was served.
use Rattle.std.proofs.Common.{ℕ, inl, inr, sym, ap, ◌∙◌}
use Rattle.std.proofs.lemmas.Bool.{true≢false}
use Rattle.lufs_base.specs.declared.geometry.Geometry.{Geometry}
use Rattle.tree_types.specs.declared.call.Call.{Call}
use Rattle.tree_types.specs.declared.reply.Reply.{Reply}
use Rattle.tree_types.specs.declared.history.Entry.{Entry}
use Rattle.volume_model.specs.Format.{Image}
use Rattle.volume_model.specs.Sound.{Tree}
use Rattle.history_model.specs.Histories.{is_carried_out, IsRightEntry}
use Rattle.plain_calls.specs.Served.{IsServed}

-- it is right, if its reply, its inode and its caller are those of the call
pub right_entry : (g : Geometry) (moment : ℕ) (tree : Tree) (e : Entry) (c : Call) (image : Image) → IsServed g moment tree e.cred c e.reply e.ino image → IsRightEntry g tree e c
right_entry g moment tree e c image served = record {
  call = served.is_call;
  reply = λ carried. elim served.answered [
    | inl none ↦ absurd (true≢false (sym carried ∙ ap (λ (r : Reply). is_carried_out r) none))
    | inr told ↦ told
  ];
  made = served.made;
  usable = served.usable;
}
