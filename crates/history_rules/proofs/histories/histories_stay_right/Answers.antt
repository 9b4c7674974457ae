-- By what each call keeps.
use Rattle.tree_types.specs.declared.call.Call.{Call}
use Rattle.volume_model.specs.Sound.{Tree}
use Rattle.history_model.specs.Right.{IsRightWithin}
use Rattle.history_model.specs.Ranges.{HasLinksInRange, HasSizesInRange, HasText}
use Rattle.history_rules.specs.Used.{HasRightFiles}
use Rattle.history_rules.proofs.AfterRightLaws.{right_after}
use Rattle.history_rules.proofs.LinkRangeLaws.{links_kept}
use Rattle.history_rules.proofs.RightFileLaws.{files_right}
use Rattle.history_rules.proofs.SizeLaws.{sizes_kept}
use Rattle.history_rules.proofs.RightHistoryLaws.{history_keeps, any_calls}
use Rattle.history_rules.proofs.histories.histories_stay_right.Goals as goal

pub returns-clause-names : goal.returns-clause-names
returns-clause-names c = λ g moment opening entries k legal right.
    history_keeps (IsRightWithin g) (λ (c : Call). Unit {0}) g moment (λ tree cred ino c usable _ before. right_after g tree cred ino moment c usable before) opening entries k legal (any_calls entries) right

pub returns-clause-links : goal.returns-clause-links
returns-clause-links c = λ g moment opening entries k legal right range.
    (history_keeps (λ (t : Tree). IsRightWithin g t × HasLinksInRange g t) (λ (c : Call). Unit {0}) g moment
    (λ tree cred ino c usable _ before. (right_after g tree cred ino moment c usable before.0, links_kept g tree cred ino moment c usable before.0 before.1))
    opening entries k legal (any_calls entries) (right, range)).1

pub returns-clause-files : goal.returns-clause-files
returns-clause-files c = λ g moment opening entries k legal files.
    history_keeps HasRightFiles (λ (c : Call). Unit {0}) g moment (λ tree cred ino c usable _ before. files_right g tree cred ino moment c before) opening entries k legal (any_calls entries) files

pub returns-clause-sizes : goal.returns-clause-sizes
returns-clause-sizes c = λ g moment opening entries k legal texts sized.
    history_keeps HasSizesInRange HasText g moment (λ tree cred ino c usable text before. sizes_kept g tree cred ino moment c usable text before) opening entries k legal texts sized
