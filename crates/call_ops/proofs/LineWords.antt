-- The call of a line has words that are right.
use Rattle.std.proofs.Common.{◌≡◌, ◌≤◌, ◌<◌, ◌+◌, ◌-◌, ◌*◌, ℕ, Bool, true, false, cond, List, [], ◌∷◌, Option, Some, None, IfSome, refl, ap, subst, arith, option_map, bytes_eq}
use Rattle.std.proofs.lemmas.Bool.{leb-true, le-leb, lt-ltb, eqb-false, and_parts, and_from}
use Rattle.std.proofs.lemmas.List.Elements.{All-from_recursion}
use Rattle.std.specs.Prelude.{nat_lt, nat_le, drop, option_and_then, ◌==◌, ◌&&◌, length, IsTrue}
use Rattle.std.specs.List.{list_all, filter_map, cons_option, slice_split, enumerate_from, All, AllByRecursion}
use Rattle.std.specs.Option.{option_map_or}
use Rattle.tree_types.specs.declared.credentials.Cred.{Cred}
use Rattle.tree_types.specs.declared.call.Call.{Call}
use Rattle.tree_types.specs.declared.call.Call.TheVariants as call
use Rattle.tree_types.specs.declared.call.Line.{Line}
use Rattle.history_model.specs.Numbers.{is_octal, rights_of, mode_of, bytes_of_hex}
use Rattle.history_model.specs.Lines.{Arguments, Table, Request, begins_with, path_of, name_of, u32_of, u64_of, count_of, is_text, is_skipped, longest_line, words_of, one_path, two_paths, path_and_mode, symlink_of, chown_of, write_of, trunc_of, read_of, list_of, df_of, become_of, changing_calls, other_calls, call_in, is_fsync, marked_request, or_other, plain_request, request_in, request_of, line_of, lines_of, texts_in, first_caller}
use Rattle.call_ops.specs.Served.{is_path_byte, is_mode, has_right_words, HasRightWords}
use Rattle.call_ops.proofs.SplitParts.{parts_all, kept_all}

abbrev IsRight : Call → Type 0
IsRight c = IsTrue (has_right_words c)

abbrev IsWord : List ℕ → Type 0
IsWord word = list_all is_path_byte word ≡ true

abbrev AreWords : List (List ℕ) → Type 0
AreWords words = AllByRecursion IsWord words

-- a character of a line that is no space
visible : (b : ℕ) → (b == 32) ≡ false → nat_le 0x20 b && nat_le b 0x7E ≡ true → is_path_byte b ≡ true
visible b other is =
    let both = and_parts (nat_le 0x20 b) (nat_le b 0x7E) is in
    let low : 0x20 ≤ b = leb-true 0x20 b both.0 in
    let apart : b ≡ 32 → ⊥ = eqb-false b 32 other in
    let above : 0x21 ≤ b = omega arith in
    and_from (nat_le 0x21 b) (nat_le b 0x7E) (le-leb 0x21 b above) both.1

all_words : (words : List (List ℕ)) → AllByRecursion (λ word. (nat_lt 0 (length word) ≡ true) × IsWord word) words → AreWords words
all_words [] all = tt
all_words (word ∷ words) all = (all.0.1, all_words words all.1)

words_right : (text : List ℕ) → list_all (λ b. nat_le 0x20 b && nat_le b 0x7E) text ≡ true → AreWords (words_of text)
words_right text is =
    all_words (words_of text)
    (kept_all IsWord (λ word. nat_lt 0 (length word)) (slice_split (λ b. b == 32) text) (parts_all (λ b. nat_le 0x20 b && nat_le b 0x7E) is_path_byte 32 visible text is))

-- three octal digits
octal_below : (b : ℕ) → is_octal b ≡ true → b - 48 ≤ 7
octal_below b is =
    let both = and_parts (nat_le 48 b) (nat_le b 55) is in
    let high : b ≤ 55 = leb-true b 55 both.1 in
    omega arith

rights_right : (a b c mode : ℕ) → rights_of a b c ≡ Some mode → is_mode mode ≡ true
rights_right a b c mode is = by_digits (is_octal a) (is_octal b) (is_octal c) refl refl refl is where
  by_digits : (x y z : Bool) → is_octal a ≡ x → is_octal b ≡ y → is_octal c ≡ z → cond (x && y && z) (Some (64 * (a - 48) + 8 * (b - 48) + (c - 48))) None ≡ Some mode → is_mode mode ≡ true
  by_digits true true true p q r found =
      let first = octal_below a p in
      let second = octal_below b q in
      let third = octal_below c r in
      let same : 64 * (a - 48) + 8 * (b - 48) + (c - 48) ≡ mode = cc in
      let small : mode < 512 = omega arith in
      lt-ltb mode 512 small
  by_digits true true false p q r found = absurd (let e : None ≡ Some mode = found in cc)
  by_digits true false z p q r found = absurd (let e : None ≡ Some mode = found in cc)
  by_digits false y z p q r found = absurd (let e : None ≡ Some mode = found in cc)

mode_right : (word : List ℕ) (mode : ℕ) → mode_of word ≡ Some mode → is_mode mode ≡ true
unfolding mode_of
mode_right [] mode is = absurd (let e : None ≡ Some mode = is in cc)
mode_right (a ∷ []) mode is = absurd (let e : None ≡ Some mode = is in cc)
mode_right (a ∷ (b ∷ [])) mode is = absurd (let e : None ≡ Some mode = is in cc)
mode_right (a ∷ (b ∷ (c ∷ []))) mode is = rights_right a b c mode is
mode_right (z ∷ (a ∷ (b ∷ (c ∷ [])))) mode is = by_first (z == 48) is where
  by_first : (t : Bool) → cond t (rights_of a b c) None ≡ Some mode → is_mode mode ≡ true
  by_first true found = rights_right a b c mode found
  by_first false found = absurd (let e : None ≡ Some mode = found in cc)
mode_right (z ∷ (a ∷ (b ∷ (c ∷ (d ∷ more))))) mode is = absurd (let e : None ≡ Some mode = is in cc)

path_right : (word path : List ℕ) → IsWord word → path_of word ≡ Some path → IsWord path
path_right word path right is = by_slash (begins_with 47 word) is where
  by_slash : (t : Bool) → cond t (Some word) None ≡ Some path → IsWord path
  by_slash true found = let same : word ≡ path = cc in subst IsWord same right
  by_slash false found = absurd (let e : None ≡ Some path = found in cc)

-- a call whose arguments are read
module _ {X : Type 0} (c : Call) where
  mapped : (f : X → Call) (o : Option X) → ((x : X) → o ≡ Some x → IsRight (f x)) → option_map f o ≡ Some c → IsRight c
  mapped f None right is = absurd (let e : None ≡ Some c = is in cc)
  mapped f (Some x) right is = let same : f x ≡ c = cc in subst IsRight same (right x refl)

  chained : (f : X → Option Call) (o : Option X) → ((x : X) → o ≡ Some x → f x ≡ Some c → IsRight c) → option_and_then f o ≡ Some c → IsRight c
  chained f None right is = absurd (let e : None ≡ Some c = is in cc)
  chained f (Some x) right is = right x refl is

abbrev Reads : (Arguments → Option Call) → Type 0
Reads read = (arguments : Arguments) → AreWords arguments → (c : Call) → read arguments ≡ Some c → IsRight c

none_read : (c : Call) → None ≡ Some c → IsRight c
none_read c is = absurd (let e : None ≡ Some c = is in cc)

one_reads : (make : List ℕ → Call) → ((path : List ℕ) → IsWord path → IsRight (make path)) → Reads (one_path make)
one_reads make right (path ∷ []) words c is = mapped c make (path_of path) (λ p found. right p (path_right path p words.0 found)) is
one_reads make right [] words c is = none_read c is
one_reads make right (path ∷ (other ∷ more)) words c is = none_read c is

two_read : (make : List ℕ → List ℕ → Call) → ((old new : List ℕ) → IsRight (make old new)) → Reads (two_paths make)
two_read make right (old ∷ (new ∷ [])) words c is =
    chained c (λ p. option_map (make p) (path_of new)) (path_of old) (λ p first found. mapped c (make p) (path_of new) (λ q second. right p q) found) is
two_read make right other words c is = none_read c is

mode_reads : (make : List ℕ → ℕ → Call) → ((path : List ℕ) (mode : ℕ) → IsWord path → is_mode mode ≡ true → IsRight (make path mode)) → Reads (path_and_mode make)
mode_reads make right (path ∷ (mode ∷ [])) words c is =
    chained c (λ p. option_map (make p) (mode_of mode)) (path_of path)
    (λ p first found. mapped c (make p) (mode_of mode) (λ m second. right p m (path_right path p words.0 first) (mode_right mode m second)) found) is
mode_reads make right other words c is = none_read c is

symlink_reads : Reads symlink_of
symlink_reads (text ∷ (path ∷ [])) words c is = mapped c (call.Symlink text) (path_of path) (λ p found. refl) is
symlink_reads other words c is = none_read c is

chown_reads : Reads chown_of
chown_reads (path ∷ (uid ∷ (gid ∷ []))) words c is =
    chained c (λ p. option_and_then (λ u. option_map (call.Chown p u) (u32_of gid)) (u32_of uid)) (path_of path)
    (λ p first read. chained c (λ u. option_map (call.Chown p u) (u32_of gid)) (u32_of uid) (λ u second more. mapped c (call.Chown p u) (u32_of gid) (λ x third. refl) more) read) is
chown_reads other words c is = none_read c is

write_reads : Reads write_of
write_reads (path ∷ (offset ∷ (hex ∷ []))) words c is =
    chained c (λ p. option_and_then (λ o. option_map (call.Write p o) (bytes_of_hex hex)) (u64_of offset)) (path_of path)
    (λ p first read. chained c (λ o. option_map (call.Write p o) (bytes_of_hex hex)) (u64_of offset) (λ o second more. mapped c (call.Write p o) (bytes_of_hex hex) (λ x third. refl) more) read) is
write_reads other words c is = none_read c is

trunc_reads : Reads trunc_of
trunc_reads (path ∷ (size ∷ [])) words c is = chained c (λ p. option_map (call.Trunc p) (u64_of size)) (path_of path) (λ p first read. mapped c (call.Trunc p) (u64_of size) (λ x second. refl) read) is
trunc_reads other words c is = none_read c is

read_reads : Reads read_of
read_reads (path ∷ (offset ∷ (count ∷ []))) words c is =
    chained c (λ p. option_and_then (λ o. option_map (call.Read p o) (count_of count)) (u64_of offset)) (path_of path)
    (λ p first read. chained c (λ o. option_map (call.Read p o) (count_of count)) (u64_of offset) (λ o second more. mapped c (call.Read p o) (count_of count) (λ x third. refl) more) read) is
read_reads other words c is = none_read c is

list_reads : Reads list_of
list_reads (path ∷ []) words c is = mapped c (λ p. call.List p None) (path_of path) (λ p found. path_right path p words.0 found) is
list_reads (path ∷ (after ∷ [])) words c is =
    chained c (λ p. option_map (λ a. call.List p (Some a)) (name_of after)) (path_of path)
    (λ p first read. mapped c (λ a. call.List p (Some a)) (name_of after) (λ x second. path_right path p words.0 first) read) is
list_reads other words c is = none_read c is

df_reads : Reads df_of
df_reads [] words c is = let same : call.Df ≡ c = cc in subst IsRight same refl
df_reads other words c is = none_read c is

become_reads : Reads become_of
become_reads (uid ∷ (gid ∷ [])) words c is =
    chained c (λ u. option_map (call.Become u) (u32_of gid)) (u32_of uid) (λ u first read. mapped c (call.Become u) (u32_of gid) (λ x second. refl) read) is
become_reads other words c is = none_read c is

both_right : (path : List ℕ) (mode : ℕ) → IsWord path → is_mode mode ≡ true → list_all is_path_byte path && is_mode mode ≡ true
both_right path mode word small = and_from (list_all is_path_byte path) (is_mode mode) word small

changing_read : AllByRecursion (λ row. Reads row.1) changing_calls
changing_read = (
  mode_reads call.Create both_right,
  (
    mode_reads call.Mkdir both_right,
    (
      two_read call.Link (λ p q. refl),
      (
        symlink_reads,
        (
          two_read call.Rename (λ p q. refl),
          (
            one_reads call.Remove (λ p word. word),
            (one_reads call.Rmdir (λ p word. word), (mode_reads call.Chmod (λ p m word small. refl), (chown_reads, (write_reads, (trunc_reads, tt))))),
          ),
        ),
      ),
    ),
  ),
)

others_read : AllByRecursion (λ row. Reads row.1) other_calls
others_read = (
  one_reads call.Fsync (λ p word. refl),
  (
    read_reads,
    (
      one_reads call.Stat (λ p word. word),
      (one_reads call.Lstat (λ p word. word), (list_reads, (one_reads call.Readlink (λ p word. refl), (df_reads, (become_reads, tt))))),
    ),
  ),
)

row_reads : (table : Table) → AllByRecursion (λ row. Reads row.1) table → (word : List ℕ) → Reads (call_in table word)
row_reads [] all word arguments words c is = none_read c is
row_reads (row ∷ table) all word arguments words c is = by_word (bytes_eq row.0 word) (row_reads table all.1 word arguments words c) is where
  by_word : (same : Bool) → (call_in table word arguments ≡ Some c → IsRight c) → (let o : Option Call = elim same [ true ↦ row.1 arguments | false ↦ call_in table word arguments ] in o) ≡ Some c → IsRight c
  by_word true more found = all.0 arguments words c found
  by_word false more found = more found

of_call : (sync : Call → Bool) (o : Option Call) (request : Request) → option_map (λ c. record { sync = sync c; call = c }) o ≡ Some request → o ≡ Some request.call
of_call sync None request is = absurd (let e : None ≡ Some request = is in cc)
of_call sync (Some c) request is =
    let made : Request = record { sync = sync c; call = c } in
    let same : made ≡ request = cc in
    ap (λ (r : Request). Some r.call) same

either : (o other : Option Call) (c : Call) → (o ≡ Some c → IsRight c) → (other ≡ Some c → IsRight c) → or_other o other ≡ Some c → IsRight c
either None other c first second is = second is
either (Some d) other c first second is = first is

request_in_right : (words : List (List ℕ)) → AreWords words → (request : Request) → request_in words ≡ Some request → IsRight request.call
request_in_right [] all request is = absurd (let e : None ≡ Some request = is in cc)
request_in_right (word ∷ arguments) all request is = by_mark (begins_with 33 word) is where
  by_mark : (marked : Bool) → cond marked (marked_request (drop 1 word) arguments) (plain_request word arguments) ≡ Some request → IsRight request.call
  by_mark true is = row_reads changing_calls changing_read (drop 1 word) arguments all.1 request.call (of_call (λ c. true) (call_in changing_calls (drop 1 word) arguments) request is)
  by_mark false is =
      either (call_in changing_calls word arguments) (call_in other_calls word arguments) request.call (row_reads changing_calls changing_read word arguments all.1 request.call)
      (row_reads other_calls others_read word arguments all.1 request.call) (of_call is_fsync (or_other (call_in changing_calls word arguments) (call_in other_calls word arguments)) request is)

request_right : (text : List ℕ) (request : Request) → request_of text ≡ Some request → IsRight request.call
request_right text request is = by_text (is_text text) refl is where
  by_text : (t : Bool) → is_text text ≡ t → cond t (request_in (words_of text)) None ≡ Some request → IsRight request.call
  by_text true right found =
      request_in_right (words_of text) (words_right text (and_parts (nat_le (length text) longest_line) (list_all (λ b. nat_le 0x20 b && nat_le b 0x7E) text) right).1) request found
  by_text false right found = absurd (let e : None ≡ Some request = found in cc)

-- the line of this request, if it is one
abbrev line_with : (number : ℕ) → Cred → Option Request → Line
line_with number cred request = record { number = number; cred = cred; sync = option_map_or (λ r. r.sync) request false; call = option_map (λ r. r.call) request }

pub line_right : (number : ℕ) (cred : Cred) (text : List ℕ) → IfSome (line_of number cred text) HasRightWords
unfolding line_of
line_right number cred text = by_skip (is_skipped text) where
  with_request : (o : Option Request) → request_of text ≡ o → HasRightWords (line_with number cred o)
  with_request None is = tt
  with_request (Some request) is = request_right text request is

  by_skip : (skipped : Bool) → IfSome (cond skipped None (Some (line_with number cred (request_of text)))) HasRightWords
  by_skip true = tt
  by_skip false = with_request (request_of text) refl

all_lines : (numbered : List (ℕ × List ℕ)) → AllByRecursion HasRightWords (filter_map (λ n. line_of n.0 first_caller n.1) numbered)
all_lines [] = tt
all_lines (n ∷ numbered) = with_line (line_of n.0 first_caller n.1) (line_right n.0 first_caller n.1) (all_lines numbered) where
  with_line : (o : Option Line) → IfSome o HasRightWords → AllByRecursion HasRightWords (filter_map (λ n. line_of n.0 first_caller n.1) numbered)
      → AllByRecursion HasRightWords (cons_option o (filter_map (λ n. line_of n.0 first_caller n.1) numbered))
  with_line None right more = more
  with_line (Some line) right more = (right, more)

pub lines_right : (script : List ℕ) → All HasRightWords (lines_of script)
unfolding lines_of
lines_right script = All-from_recursion HasRightWords (filter_map (λ n. line_of n.0 first_caller n.1) (enumerate_from 1 (texts_in script))) (all_lines (enumerate_from 1 (texts_in script)))
