-- The lines of a script, and the calls that they are.
use Rattle.std.specs.Prelude.{ℕ, ◌^◌, ◌==◌, nat_le, nat_lt, Bool, true, false, ◌&&◌, ◌||◌, if◌then◌else◌, List, [], ◌∷◌, length, drop, bytes_eq, codes, Option, Some, None, option_and_then, option_map}
use Rattle.std.specs.List.{list_all, filter, filter_map, slice_split, enumerate_from}
use Rattle.std.specs.Option.{option_map_or}
use Rattle.lufs_base.specs.Name.{is_name}
use Rattle.tree_types.specs.declared.credentials.Cred.{Cred}
use Rattle.tree_types.specs.declared.call.Call.{Call}
use Rattle.tree_types.specs.declared.call.Call.TheVariants as call
use Rattle.tree_types.specs.declared.call.Line.{Line}
use Rattle.history_model.specs.Walk.{is_empty}
use Rattle.history_model.specs.Numbers.{number_below, mode_of, bytes_of_hex}

abbrev pub without_empty_rest : List (List ℕ) → List (List ℕ)
without_empty_rest [] = []
without_empty_rest (line ∷ []) = if is_empty line then [] else line ∷ []
without_empty_rest (line ∷ (next ∷ lines)) = line ∷ without_empty_rest (next ∷ lines)

-- A script is cut at each line feed. What stands after the last one is a line too, unless it is empty.
abbrev pub texts_in : (script : List ℕ) → List (List ℕ)
texts_in script = without_empty_rest (slice_split (λ b. b == 10) script)

abbrev pub begins_with : (byte : ℕ) → List ℕ → Bool
begins_with byte [] = false
begins_with byte (b ∷ bytes) = b == byte

-- the line is empty or of spaces alone, or its first byte is `#`
abbrev pub is_skipped : List ℕ → Bool
is_skipped text = list_all (λ b. b == 32) text || begins_with 35 text

-- the most bytes of a line
abbrev pub longest_line : ℕ
longest_line = 36864

-- the line isn't too long, and each byte is a visible ASCII character or a space
abbrev pub is_text : List ℕ → Bool
is_text text = nat_le (length text) longest_line && list_all (λ b. nat_le 0x20 b && nat_le b 0x7E) text

-- what stands between spaces
abbrev pub words_of : List ℕ → List (List ℕ)
words_of text = filter (λ word. nat_lt 0 (length word)) (slice_split (λ b. b == 32) text)

-- the word, if it is a path: it begins with a slash
abbrev pub path_of : List ℕ → Option (List ℕ)
path_of word = if begins_with 47 word then Some word else None

-- the word, if it is a name that a directory may give
abbrev pub name_of : List ℕ → Option (List ℕ)
name_of word = if is_name word then Some word else None

-- a number of 32 bits, and one of 64
abbrev pub u32_of : List ℕ → Option ℕ
u32_of word = number_below (2 ^ 32) word

abbrev pub u64_of : List ℕ → Option ℕ
u64_of word = number_below (2 ^ 64) word

-- the most bytes that one line may read
abbrev pub most_read : ℕ
most_read = 4096

abbrev pub count_of : List ℕ → Option ℕ
count_of word = option_and_then (λ n. if nat_le 1 n && nat_le n most_read then Some n else None) (u32_of word)

-- The words after the first one, read as what each call is given.
abbrev pub Arguments : Type 0
Arguments = List (List ℕ)

abbrev pub one_path : (List ℕ → Call) → Arguments → Option Call
one_path make (path ∷ []) = option_map make (path_of path)
one_path make words = None

abbrev pub two_paths : (List ℕ → List ℕ → Call) → Arguments → Option Call
two_paths make (old ∷ (new ∷ [])) = option_and_then (λ p. option_map (make p) (path_of new)) (path_of old)
two_paths make words = None

abbrev pub path_and_mode : (List ℕ → ℕ → Call) → Arguments → Option Call
path_and_mode make (path ∷ (mode ∷ [])) = option_and_then (λ p. option_map (make p) (mode_of mode)) (path_of path)
path_and_mode make words = None

abbrev pub symlink_of : Arguments → Option Call
symlink_of (text ∷ (path ∷ [])) = option_map (call.Symlink text) (path_of path)
symlink_of words = None

abbrev pub chown_of : Arguments → Option Call
chown_of (path ∷ (uid ∷ (gid ∷ []))) = option_and_then (λ p. option_and_then (λ u. option_map (call.Chown p u) (u32_of gid)) (u32_of uid)) (path_of path)
chown_of words = None

abbrev pub write_of : Arguments → Option Call
write_of (path ∷ (offset ∷ (hex ∷ []))) = option_and_then (λ p. option_and_then (λ o. option_map (call.Write p o) (bytes_of_hex hex)) (u64_of offset)) (path_of path)
write_of words = None

abbrev pub trunc_of : Arguments → Option Call
trunc_of (path ∷ (size ∷ [])) = option_and_then (λ p. option_map (call.Trunc p) (u64_of size)) (path_of path)
trunc_of words = None

abbrev pub read_of : Arguments → Option Call
read_of (path ∷ (offset ∷ (count ∷ []))) = option_and_then (λ p. option_and_then (λ o. option_map (call.Read p o) (count_of count)) (u64_of offset)) (path_of path)
read_of words = None

abbrev pub list_of : Arguments → Option Call
list_of (path ∷ []) = option_map (λ p. call.List p None) (path_of path)
list_of (path ∷ (after ∷ [])) = option_and_then (λ p. option_map (λ a. call.List p (Some a)) (name_of after)) (path_of path)
list_of words = None

abbrev pub df_of : Arguments → Option Call
df_of [] = Some call.Df
df_of words = None

abbrev pub become_of : Arguments → Option Call
become_of (uid ∷ (gid ∷ [])) = option_and_then (λ u. option_map (call.Become u) (u32_of gid)) (u32_of uid)
become_of words = None

abbrev pub Table : Type 0
Table = List (List ℕ × (Arguments → Option Call))

-- the calls that change the tree, by their first words
abbrev pub changing_calls : Table
changing_calls =
    (codes "create", path_and_mode call.Create)
    ∷ ((codes "mkdir", path_and_mode call.Mkdir)
    ∷ ((codes "link", two_paths call.Link)
    ∷ ((codes "symlink", symlink_of)
    ∷ ((codes "rename", two_paths call.Rename)
    ∷ ((codes "remove", one_path call.Remove)
    ∷ ((codes "rmdir", one_path call.Rmdir)
    ∷ ((codes "chmod", path_and_mode call.Chmod)
    ∷ ((codes "chown", chown_of)
    ∷ ((codes "write", write_of)
    ∷ ((codes "trunc", trunc_of) ∷ []))))))))))

-- the others
abbrev pub other_calls : Table
other_calls =
    (codes "fsync", one_path call.Fsync)
    ∷ ((codes "read", read_of)
    ∷ ((codes "stat", one_path call.Stat)
    ∷ ((codes "lstat", one_path call.Lstat)
    ∷ ((codes "list", list_of)
    ∷ ((codes "readlink", one_path call.Readlink)
    ∷ ((codes "df", df_of)
    ∷ ((codes "as", become_of) ∷ [])))))))

abbrev pub call_in : Table → (word : List ℕ) → Arguments → Option Call
call_in [] word arguments = None
call_in (row ∷ table) word arguments = elim (bytes_eq row.0 word) [ true ↦ row.1 arguments | false ↦ call_in table word arguments ]

-- a call, and whether its reply waits until it is committed
pub record Request : Type 0 where
  pub sync : Bool
  pub call : Call

abbrev pub is_fsync : Call → Bool
is_fsync (call.Fsync path) = true
is_fsync other = false

abbrev pub marked_request : (word : List ℕ) → Arguments → Option Request
marked_request word arguments = option_map (λ c. record { sync = true; call = c }) (call_in changing_calls word arguments)

abbrev pub or_other : Option Call → Option Call → Option Call
or_other (Some c) other = Some c
or_other None other = other

abbrev pub plain_request : (word : List ℕ) → Arguments → Option Request
plain_request word arguments =
    option_map (λ c. record { sync = is_fsync c; call = c }) (or_other (call_in changing_calls word arguments) (call_in other_calls word arguments))

-- A `!` directly before the first word makes a call that changes the tree synchronous; `fsync` always is.
abbrev pub request_in : List (List ℕ) → Option Request
request_in [] = None
request_in (word ∷ arguments) = if begins_with 33 word then marked_request (drop 1 word) arguments else plain_request word arguments

abbrev pub request_of : (text : List ℕ) → Option Request
request_of text = if is_text text then request_in (words_of text) else None

-- the line of this number, for a caller; none where it is skipped, and without a call where it is none
unfoldable pub line_of : (number : ℕ) → Cred → (text : List ℕ) → Option Line
line_of number cred text =
    let request = request_of text in
    if is_skipped text then None
    else Some (record {
      number = number;
      cred = cred;
      sync = option_map_or (λ r. r.sync) request false;
      call = option_map (λ r. r.call) request;
    })

-- as whom a stream begins
abbrev pub first_caller : Cred
first_caller = record { uid = 0; gid = 0 }

-- the lines of a script that aren't skipped; all lines are numbered, from 1
unfoldable pub lines_of : (script : List ℕ) → List Line
lines_of script = filter_map (λ numbered. line_of numbered.0 first_caller numbered.1) (enumerate_from 1 (texts_in script))
