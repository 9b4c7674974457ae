-- A call of a line gives a link that it makes a text.
use Rattle.std.proofs.Common.{◌≡◌, ◌≤◌, ◌<◌, ℕ, Bool, true, false, cond, List, [], ◌∷◌, length, Option, Some, None, refl, ap, subst, arith, option_map, bytes_eq}
use Rattle.std.proofs.lemmas.Bool.{ltb-true}
use Rattle.std.specs.Prelude.{nat_lt, drop, option_and_then, ◌==◌}
use Rattle.std.specs.List.{filter, slice_split, AllByRecursion}
use Rattle.tree_types.specs.declared.call.Call.{Call}
use Rattle.tree_types.specs.declared.call.Call.TheVariants as call
use Rattle.history_model.specs.Numbers.{mode_of, bytes_of_hex}
use Rattle.history_model.specs.Lines.{Arguments, Table, Request, begins_with, path_of, name_of, u32_of, u64_of, count_of, is_text, words_of, one_path, two_paths, path_and_mode, symlink_of, chown_of, write_of, trunc_of, read_of, list_of, df_of, become_of, changing_calls, other_calls, call_in, is_fsync, marked_request, or_other, plain_request, request_in, request_of}
use Rattle.history_model.specs.Ranges.{HasText}

abbrev AreWords : List (List ℕ) → Type 0
AreWords words = AllByRecursion (λ word. 1 ≤ length word) words

are_words : (parts : List (List ℕ)) → AreWords (filter (λ word. nat_lt 0 (length word)) parts)
are_words [] = tt
are_words (part ∷ parts) = by_test (nat_lt 0 (length part)) refl (are_words parts) where
  by_test : (b : Bool) → nat_lt 0 (length part) ≡ b → AreWords (filter (λ word. nat_lt 0 (length word)) parts)
      → AreWords (cond b (part ∷ filter (λ word. nat_lt 0 (length word)) parts) (filter (λ word. nat_lt 0 (length word)) parts))
  by_test true is more = (let some : 0 < length part = ltb-true 0 (length part) is in omega arith, more)
  by_test false is more = more

-- what a call is of which its arguments are read
module _ {X : Type 0} (c : Call) where
  mapped : (f : X → Call) (o : Option X) → ((x : X) → HasText (f x)) → option_map f o ≡ Some c → HasText c
  mapped f None text is = absurd (let e : None ≡ Some c = is in cc)
  mapped f (Some x) text is = let same : f x ≡ c = cc in subst HasText same (text x)

  chained : (f : X → Option Call) (o : Option X) → ((x : X) → f x ≡ Some c → HasText c) → option_and_then f o ≡ Some c → HasText c
  chained f None text is = absurd (let e : None ≡ Some c = is in cc)
  chained f (Some x) text is = text x is

abbrev Reads : (Arguments → Option Call) → Type 0
Reads read = (arguments : Arguments) → AreWords arguments → (c : Call) → read arguments ≡ Some c → HasText c

none_read : (c : Call) → None ≡ Some c → HasText c
none_read c is = absurd (let e : None ≡ Some c = is in cc)

one_reads : (make : List ℕ → Call) → ((path : List ℕ) → HasText (make path)) → Reads (one_path make)
one_reads make text (path ∷ []) words c is = mapped c make (path_of path) text is
one_reads make text other words c is = none_read c is

two_read : (make : List ℕ → List ℕ → Call) → ((old new : List ℕ) → HasText (make old new)) → Reads (two_paths make)
two_read make text (old ∷ (new ∷ [])) words c is = chained c (λ p. option_map (make p) (path_of new)) (path_of old) (λ p read. mapped c (make p) (path_of new) (text p) read) is
two_read make text other words c is = none_read c is

mode_reads : (make : List ℕ → ℕ → Call) → ((path : List ℕ) (mode : ℕ) → HasText (make path mode)) → Reads (path_and_mode make)
mode_reads make text (path ∷ (mode ∷ [])) words c is = chained c (λ p. option_map (make p) (mode_of mode)) (path_of path) (λ p read. mapped c (make p) (mode_of mode) (text p) read) is
mode_reads make text other words c is = none_read c is

symlink_reads : Reads symlink_of
symlink_reads (text ∷ (path ∷ [])) words c is = mapped c (call.Symlink text) (path_of path) (λ p. words.0) is
symlink_reads other words c is = none_read c is

chown_reads : Reads chown_of
chown_reads (path ∷ (uid ∷ (gid ∷ []))) words c is =
    chained c (λ p. option_and_then (λ u. option_map (call.Chown p u) (u32_of gid)) (u32_of uid)) (path_of path)
    (λ p read. chained c (λ u. option_map (call.Chown p u) (u32_of gid)) (u32_of uid) (λ u more. mapped c (call.Chown p u) (u32_of gid) (λ x. tt) more) read) is
chown_reads other words c is = none_read c is

write_reads : Reads write_of
write_reads (path ∷ (offset ∷ (hex ∷ []))) words c is =
    chained c (λ p. option_and_then (λ o. option_map (call.Write p o) (bytes_of_hex hex)) (u64_of offset)) (path_of path)
    (λ p read. chained c (λ o. option_map (call.Write p o) (bytes_of_hex hex)) (u64_of offset) (λ o more. mapped c (call.Write p o) (bytes_of_hex hex) (λ x. tt) more) read) is
write_reads other words c is = none_read c is

trunc_reads : Reads trunc_of
trunc_reads (path ∷ (size ∷ [])) words c is = chained c (λ p. option_map (call.Trunc p) (u64_of size)) (path_of path) (λ p read. mapped c (call.Trunc p) (u64_of size) (λ x. tt) read) is
trunc_reads other words c is = none_read c is

read_reads : Reads read_of
read_reads (path ∷ (offset ∷ (count ∷ []))) words c is =
    chained c (λ p. option_and_then (λ o. option_map (call.Read p o) (count_of count)) (u64_of offset)) (path_of path)
    (λ p read. chained c (λ o. option_map (call.Read p o) (count_of count)) (u64_of offset) (λ o more. mapped c (call.Read p o) (count_of count) (λ x. tt) more) read) is
read_reads other words c is = none_read c is

list_reads : Reads list_of
list_reads (path ∷ []) words c is = mapped c (λ p. call.List p None) (path_of path) (λ x. tt) is
list_reads (path ∷ (after ∷ [])) words c is =
    chained c (λ p. option_map (λ a. call.List p (Some a)) (name_of after)) (path_of path) (λ p read. mapped c (λ a. call.List p (Some a)) (name_of after) (λ x. tt) read) is
list_reads other words c is = none_read c is

df_reads : Reads df_of
df_reads [] words c is = let same : call.Df ≡ c = cc in subst HasText same tt
df_reads other words c is = none_read c is

become_reads : Reads become_of
become_reads (uid ∷ (gid ∷ [])) words c is =
    chained c (λ u. option_map (call.Become u) (u32_of gid)) (u32_of uid) (λ u read. mapped c (call.Become u) (u32_of gid) (λ x. tt) read) is
become_reads other words c is = none_read c is

changing_text : AllByRecursion (λ row. Reads row.1) changing_calls
changing_text = (
  mode_reads call.Create (λ p m. tt),
  (
    mode_reads call.Mkdir (λ p m. tt),
    (
      two_read call.Link (λ p q. tt),
      (
        symlink_reads,
        (
          two_read call.Rename (λ p q. tt),
          (
            one_reads call.Remove (λ p. tt),
            (one_reads call.Rmdir (λ p. tt), (mode_reads call.Chmod (λ p m. tt), (chown_reads, (write_reads, (trunc_reads, tt))))),
          ),
        ),
      ),
    ),
  ),
)

other_text : AllByRecursion (λ row. Reads row.1) other_calls
other_text = (
  one_reads call.Fsync (λ p. tt),
  (
    read_reads,
    (one_reads call.Stat (λ p. tt), (one_reads call.Lstat (λ p. tt), (list_reads, (one_reads call.Readlink (λ p. tt), (df_reads, (become_reads, tt)))))),
  ),
)

row_text : (table : Table) → AllByRecursion (λ row. Reads row.1) table → (word : List ℕ) → Reads (call_in table word)
row_text [] all word arguments words c is = none_read c is
row_text (row ∷ table) all word arguments words c is = by_word (bytes_eq row.0 word) (row_text table all.1 word arguments words c) is where
  by_word : (same : Bool) → (call_in table word arguments ≡ Some c → HasText c) → (let o : Option Call = elim same [ true ↦ row.1 arguments | false ↦ call_in table word arguments ] in o) ≡ Some c → HasText c
  by_word true more found = all.0 arguments words c found
  by_word false more found = more found

of_call : (sync : Call → Bool) (o : Option Call) (request : Request) → option_map (λ c. record { sync = sync c; call = c }) o ≡ Some request → o ≡ Some request.call
of_call sync None request is = absurd (let e : None ≡ Some request = is in cc)
of_call sync (Some c) request is =
    let made : Request = record { sync = sync c; call = c } in
    let same : made ≡ request = cc in
    ap (λ (r : Request). Some r.call) same

either : (o other : Option Call) (c : Call) → (o ≡ Some c → HasText c) → (other ≡ Some c → HasText c) → or_other o other ≡ Some c → HasText c
either None other c first second is = second is
either (Some d) other c first second is = first is

words_text : (words : List (List ℕ)) → AreWords words → (request : Request) → request_in words ≡ Some request → HasText request.call
words_text [] all request is = absurd (let e : None ≡ Some request = is in cc)
words_text (word ∷ arguments) all request is = by_mark (begins_with 33 word) is where
  by_mark : (marked : Bool) → cond marked (marked_request (drop 1 word) arguments) (plain_request word arguments) ≡ Some request → HasText request.call
  by_mark true is = row_text changing_calls changing_text (drop 1 word) arguments all.1 request.call (of_call (λ c. true) (call_in changing_calls (drop 1 word) arguments) request is)
  by_mark false is =
      either (call_in changing_calls word arguments) (call_in other_calls word arguments) request.call (row_text changing_calls changing_text word arguments all.1 request.call)
      (row_text other_calls other_text word arguments all.1 request.call) (of_call is_fsync (or_other (call_in changing_calls word arguments) (call_in other_calls word arguments)) request is)

pub request_text : (text : List ℕ) (request : Request) → request_of text ≡ Some request → HasText request.call
request_text text request is = by_text (is_text text) is where
  by_text : (b : Bool) → cond b (request_in (words_of text)) None ≡ Some request → HasText request.call
  by_text true is = words_text (words_of text) (are_words (slice_split (λ b. b == 32) text)) request is
  by_text false is = absurd (let e : None ≡ Some request = is in cc)
