-- A right tree stays right under every call.
use Rattle.std.proofs.Common.{◌≡◌, ℕ, true, refl}
use Rattle.lufs_base.specs.declared.geometry.Geometry.{Geometry}
use Rattle.tree_types.specs.declared.credentials.Cred.{Cred}
use Rattle.tree_types.specs.declared.call.Call.{Call}
use Rattle.tree_types.specs.declared.call.Call.TheVariants as call
use Rattle.volume_model.specs.Sound.{Tree}
use Rattle.history_model.specs.Histories.{makes_inode, IsUsable}
use Rattle.history_model.specs.Replies.{tree_after}
use Rattle.history_model.specs.Right.{IsRightWithin}
use Rattle.history_rules.proofs.KeptNameLaws.{right_kept}
use Rattle.history_rules.proofs.NamedRightLaws.{right_named}
use Rattle.history_rules.proofs.RemovedRightLaws.{right_removed}
use Rattle.history_rules.proofs.RemovedDirectoryLaws.{right_emptied}
use Rattle.history_rules.proofs.MadeDirectoryLaws.{right_made}
use Rattle.history_rules.proofs.RenameLaws.{right_renamed}

pub right_after : (g : Geometry) (tree : Tree) (cred : Cred) (ino moment : ℕ) (c : Call) → (makes_inode c ≡ true → IsUsable g tree ino) → IsRightWithin g tree → IsRightWithin g (tree_after g tree cred ino moment c)
right_after g tree cred ino moment (call.Create path mode) usable = right_named g tree cred ino moment (call.Create path mode) refl usable
right_after g tree cred ino moment (call.Link old new) usable = right_named g tree cred ino moment (call.Link old new) refl usable
right_after g tree cred ino moment (call.Symlink text path) usable = right_named g tree cred ino moment (call.Symlink text path) refl usable
right_after g tree cred ino moment (call.Mkdir path mode) usable = right_made g tree cred ino moment path mode (usable refl)
right_after g tree cred ino moment (call.Rename old new) usable = right_renamed g tree cred ino moment old new
right_after g tree cred ino moment (call.Remove path) usable = right_removed g tree cred ino moment path
right_after g tree cred ino moment (call.Rmdir path) usable = right_emptied g tree cred ino moment path
right_after g tree cred ino moment c usable = right_kept g tree cred ino moment c refl
