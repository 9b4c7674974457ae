-- The texts of replies.
use Rattle.std.specs.Prelude.{ℕ, ◌+◌, ◌/◌, ◌%◌, Bool, if◌then◌else◌, List, [], ◌∷◌, ◌++◌, length, codes}
use Rattle.std.specs.List.{flat_map}
use Rattle.std.specs.Fmt.{decimal}
use Rattle.tree_types.specs.declared.reply.Refusal.{Refusal}
use Rattle.tree_types.specs.declared.reply.Refusal.TheVariants as refusal
use Rattle.tree_types.specs.declared.reply.StatInfo.{StatInfo}
use Rattle.tree_types.specs.declared.reply.Reply.{Reply}
use Rattle.tree_types.specs.declared.reply.Reply.TheVariants as reply
use Rattle.volume_model.specs.Format.{is_directory, is_link}
use Rattle.history_model.specs.Numbers.{hex_digit}

-- the word for a refusal
abbrev pub refusal_word : Refusal → List ℕ
refusal_word refusal.Syntax = codes "syntax"
refusal_word refusal.Locked = codes "locked"
refusal_word refusal.Noent = codes "noent"
refusal_word refusal.Notdir = codes "notdir"
refusal_word refusal.Loop = codes "loop"
refusal_word refusal.Denied = codes "denied"
refusal_word refusal.Exist = codes "exist"
refusal_word refusal.Isdir = codes "isdir"
refusal_word refusal.Notempty = codes "notempty"
refusal_word refusal.Inval = codes "inval"
refusal_word refusal.Nametoolong = codes "nametoolong"
refusal_word refusal.Mlink = codes "mlink"
refusal_word refusal.Fbig = codes "fbig"
refusal_word refusal.Noinodes = codes "noinodes"
refusal_word refusal.Nospace = codes "nospace"
refusal_word refusal.Fault = codes "fault"
refusal_word refusal.Nomem = codes "nomem"

-- a space and a number
abbrev pub spaced : ℕ → List ℕ
spaced n = 32 ∷ decimal n

-- a space and a word
abbrev pub after_space : List ℕ → List ℕ
after_space word = 32 ∷ word

abbrev pub type_word : (mode : ℕ) → List ℕ
type_word mode = if is_directory mode then codes "dir" else (if is_link mode then codes "link" else codes "file")

-- the rights as three octal digits
abbrev pub rights_text : (mode : ℕ) → List ℕ
rights_text mode = (48 + mode / 64 % 8) ∷ ((48 + mode / 8 % 8) ∷ ((48 + mode % 8) ∷ []))

abbrev pub info_text : StatInfo → List ℕ
info_text info =
    spaced info.ino ++ (after_space (type_word info.mode) ++ (after_space (rights_text info.mode) ++ (spaced info.links
    ++ (spaced info.uid ++ (spaced info.gid ++ (spaced info.size ++ (spaced info.mtime ++ spaced info.blocks)))))))

-- two hexadecimal digits a byte
abbrev pub hex_text : List ℕ → List ℕ
hex_text bytes = flat_map (λ b. hex_digit (b / 16) ∷ (hex_digit (b % 16) ∷ [])) bytes

-- the bytes that were read, or `-` where there are none
abbrev pub read_text : List ℕ → List ℕ
read_text [] = codes "-"
read_text (b ∷ bytes) = hex_text (b ∷ bytes)

abbrev pub names_text : List (List ℕ) → (more : Bool) → List ℕ
names_text names more = spaced (length names) ++ ((if more then codes " more" else codes " end") ++ flat_map after_space names)

-- the text of a reply, without the number of its line
unfoldable pub text_of_reply : Reply → List ℕ
text_of_reply reply.Done = codes "ok"
text_of_reply (reply.Stat info) = codes "ok" ++ info_text info
text_of_reply (reply.Read bytes) = codes "ok" ++ after_space (read_text bytes)
text_of_reply (reply.Names names more) = codes "ok" ++ names_text names more
text_of_reply (reply.Text text) = codes "ok" ++ after_space text
text_of_reply (reply.Df blocks inodes) = codes "ok" ++ (spaced blocks ++ spaced inodes)
text_of_reply (reply.Refused why) = refusal_word why

-- the line in which a reply is given
unfoldable pub reply_text_of : (line : ℕ) → Reply → List ℕ
reply_text_of line told = decimal line ++ (after_space (text_of_reply told) ++ (10 ∷ []))
