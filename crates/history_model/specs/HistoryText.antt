-- The text of a history, and the lines that sum a session up.
use Rattle.std.specs.Prelude.{ℕ, ◌-◌, Bool, not, ◌&&◌, if◌then◌else◌, List, [], ◌∷◌, ◌++◌, length, codes, Option, is_some, option_map}
use Rattle.std.specs.List.{flat_map, count_by}
use Rattle.std.specs.Option.{option_map_or}
use Rattle.tree_types.specs.declared.waiting.Wait.{Wait}
use Rattle.tree_types.specs.declared.waiting.Wait.TheVariants as wait
use Rattle.tree_types.specs.declared.waiting.Cause.{Cause}
use Rattle.tree_types.specs.declared.waiting.Cause.TheVariants as cause
use Rattle.tree_types.specs.declared.history.Entry.{Entry}
use Rattle.tree_types.specs.declared.history.Commit.{Commit}
use Rattle.tree_types.specs.declared.history.RollNote.{RollNote}
use Rattle.volume_model.specs.Texts.{field}
use Rattle.history_model.specs.ReplyText.{spaced, after_space, text_of_reply}
use Rattle.history_model.specs.Histories.{History, is_ok}

-- a space and a number, or `-` where there is none
abbrev pub spaced_or_dash : Option ℕ → List ℕ
spaced_or_dash number = option_map_or spaced number (codes " -")

-- the numbers of an answer, in the order of its parts; `InHand` has 1 where it is of an inode
abbrev pub wait_text : Wait → List ℕ
wait_text (wait.Full used sealed pending need ring) = spaced used ++ (spaced sealed ++ (spaced pending ++ (spaced need ++ spaced ring)))
wait_text (wait.Closing members) = spaced members
wait_text (wait.Unreleased released free wanted) = spaced released ++ (spaced free ++ spaced wanted)
wait_text (wait.InHand inode wanted free held) = spaced (if inode then 1 else 0) ++ (spaced wanted ++ (spaced free ++ spaced held))
wait_text (wait.Changed taken_at now) = spaced taken_at ++ spaced now
wait_text (wait.Uncommitted entry published) = spaced entry ++ spaced published

abbrev pub cause_text : Cause → List ℕ
cause_text (cause.SyncWaits entry) = codes "sync" ++ spaced entry
cause_text (cause.Full w) = codes "full" ++ wait_text w
cause_text (cause.Unreleased w) = codes "unreleased" ++ wait_text w
cause_text (cause.Half used ring) = codes "half" ++ (spaced used ++ spaced ring)
cause_text (cause.Asked place) = codes "asked" ++ spaced place
cause_text cause.Ending = codes "ending"

-- The line of an entry. Its three moments are counted from the listed calls that the disk had made before the command.
abbrev pub entry_line : (before : ℕ) → Entry → List ℕ
entry_line before e =
    codes "entry" ++ (spaced e.stream ++ (spaced e.line ++ (spaced_or_dash e.ino ++ (spaced (e.start - before) ++ (spaced (e.at - before)
    ++ (spaced_or_dash (option_map (λ told. told - before) e.told) ++ ((if e.sync then codes " s" else codes " a")
    ++ (after_space (text_of_reply e.reply) ++ (10 ∷ [])))))))))

abbrev pub commit_line : Commit → List ℕ
commit_line c = field (codes "commit") c.boundary ++ (after_space (cause_text c.cause) ++ (10 ∷ []))

abbrev pub roll_line : RollNote → List ℕ
roll_line r = field (codes "roll") r.through ++ (after_space (cause_text r.cause) ++ (10 ∷ []))

-- the text of the history of a session with so many streams, in this epoch and at this moment
unfoldable pub history_text_of : (epoch moment streams before : ℕ) → History → List ℕ
history_text_of epoch moment streams before h =
    codes "session" ++ (spaced epoch ++ (spaced moment ++ (spaced streams ++ (10 ∷ []))))
    ++ (flat_map (entry_line before) h.entries ++ (flat_map commit_line h.commits ++ flat_map roll_line h.rolls))

abbrev pub is_told : Entry → Bool
is_told e = is_some e.told

abbrev pub told_count : List Entry → ℕ
told_count entries = count_by is_told entries

-- how a session of scripts with so many lines ended: what was answered and what is left, and how often it committed and
-- rolled
unfoldable pub session_text_of : (lines : ℕ) → History → List ℕ
session_text_of lines h =
    field (codes "answered") (told_count h.entries) ++ (field (codes " left") (lines - told_count h.entries)
    ++ (field (codes " commits") (length h.commits) ++ (field (codes " rolls") (length h.rolls) ++ (10 ∷ []))))

-- the same of `load`, which also tells how many lines were answered ok
unfoldable pub load_text_of : (lines : ℕ) → History → List ℕ
load_text_of lines h =
    field (codes "lines") lines ++ (field (codes " ok") (count_by (λ e. is_told e && is_ok e.reply) h.entries)
    ++ (field (codes " refused") (count_by (λ e. is_told e && not (is_ok e.reply)) h.entries)
    ++ (field (codes " left") (lines - told_count h.entries)
    ++ (field (codes " commits") (length h.commits) ++ (field (codes " rolls") (length h.rolls) ++ (10 ∷ []))))))
