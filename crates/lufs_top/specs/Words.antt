-- The words of a command.
use Rattle.std.specs.Prelude.{Bool, true, not, ◌&&◌, if◌then◌else◌, ℕ, List, [], ◌∷◌, map, Option, Some, None, bytes_eq, codes, option_and_then, option_map, String, string_bytes}
use Rattle.std.specs.List.{list_all}
use Rattle.std.specs.declared.alloc.Global.{Global}
use Rattle.drive_command.specs.Ending.{history_name, out_name}
use Rattle.lufs_top.specs.Numbers.{number_of}
use Rattle.lufs_top.specs.declared.words.Command.{Command as SpokenCommand}
use Rattle.lufs_top.specs.declared.words.Command.TheVariants as spoken
use Rattle.lufs_top.specs.declared.numbers.VolumeNumbers.{VolumeNumbers}

-- what the words ask for, with the names and the numbers in them
pub data Command : Type 0 where
  scan : (volume : List ℕ) → Command
  check : (volume : List ℕ) → Command
  mkfs : (volume : List ℕ) → VolumeNumbers → Command
  drive : (volume schedule script : List ℕ) → Command

-- the command that a value of the code is
abbrev pub command_meant : SpokenCommand → Command
command_meant (spoken.Scan volume) = scan volume.now
command_meant (spoken.Check volume) = check volume.now
command_meant (spoken.Mkfs volume numbers) = mkfs volume.now numbers
command_meant (spoken.Drive volume schedule script) = drive volume.now schedule.now script.now

-- the name of standard output, which names no volume
abbrev pub standard_output : List ℕ
standard_output = codes "-"

-- the word is that of the command, and the name one that a volume can have
abbrev pub names_volume : (command word name : List ℕ) → Bool
names_volume command word name = bytes_eq word command && not (bytes_eq name standard_output)

-- the numbers of a new volume, if each of these words is one
unfoldable pub numbers_of : (groups bpg ipg log : List ℕ) → Option VolumeNumbers
numbers_of groups bpg ipg log =
    option_and_then (λ n. option_and_then (λ b. option_and_then (λ i. option_map (λ l.
    record { groups = n; bpg = b; ipg = i; log = l }) (number_of log)) (number_of ipg)) (number_of bpg)) (number_of groups)

-- the command of one name
abbrev pub on_volume : (word name : List ℕ) → Option Command
on_volume word name =
    if names_volume (codes "scan") word name then Some (scan name) else if names_volume (codes "check") word name then Some (check name) else None

-- two names differ
abbrev pub differ : (name other : List ℕ) → Bool
differ name other = not (bytes_eq name other)

-- no two of these names are the same
abbrev pub all_differ : List (List ℕ) → Bool
all_differ [] = true
all_differ (name ∷ names) = list_all (differ name) names && all_differ names

-- standard output, and what a session uses: its volume, its schedule, its script, its history and its replies
abbrev pub session_names : (volume schedule script : List ℕ) → List (List ℕ)
session_names volume schedule script = standard_output ∷ volume ∷ schedule ∷ script ∷ history_name volume ∷ out_name script ∷ []

-- the command of a name and the numbers of a new volume
abbrev pub new_volume_of : (word name : List ℕ) → Option VolumeNumbers → Option Command
new_volume_of word name numbers = if names_volume (codes "mkfs") word name then option_map (mkfs name) numbers else None

-- the command of three names
abbrev pub session_of : (word volume schedule script : List ℕ) → Option Command
session_of word volume schedule script =
    if bytes_eq word (codes "drive") && all_differ (session_names volume schedule script) then Some (drive volume schedule script) else None

-- `scan VOL`, `check VOL`, `mkfs VOL G BPG IPG L` and `drive VOL SCHEDULE SCRIPT`
abbrev pub command_in : List (List ℕ) → Option Command
command_in (word ∷ name ∷ []) = on_volume word name
command_in (word ∷ volume ∷ schedule ∷ script ∷ []) = session_of word volume schedule script
command_in (word ∷ name ∷ groups ∷ bpg ∷ ipg ∷ log ∷ []) =
    new_volume_of word name (numbers_of groups bpg ipg log)
command_in words = None

-- the command of the words as they are handed in
unfoldable pub command_of : List (String Global) → Option Command
command_of words = command_in (map string_bytes words)
