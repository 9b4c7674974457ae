-- Bytes stay kept at a write that gives them the bytes that are there, or lies on what an entry under way touches.
use Rattle.std.proofs.Common.{◌≡◌, ◌<◌, ◌≤◌, ◌⊎◌, inl, inr, ℕ, ◌+◌, ◌-◌, ◌*◌, ◌/◌, ◌%◌, nat_le, nat_lt, ◌&&◌, if◌then◌else◌, Bool, true, false, List, [], ◌∷◌, ◌++◌, length, take, drop, slice_index, Option, Some, None, unwrap_or, refl, ap, ◌∙◌, sym, arith, length-take-le, get_or-take, get_or-drop, get_or-append-add}
use Rattle.std.specs.Prelude.{IfSome, IsSomeAnd}
use Rattle.std.proofs.lemmas.Bool.{false≢true}
use Rattle.std.proofs.lemmas.List.{length_push, get_or_append_left}
use Rattle.lufs_base.specs.declared.geometry.Geometry.{Geometry}
use Rattle.tree_types.specs.declared.history.Entry.{Entry}
use Rattle.volume_model.specs.declared.device_call.DeviceCall.TheVariants.{Write}
use Rattle.volume_model.specs.Format.{Image, overwritten}
use Rattle.volume_model.specs.Crash.{Record, with_calls, IsInside, IsOfSectors, present_of}
use Rattle.volume_model.specs.Sound.{Reading, Tree}
use Rattle.history_model.specs.Histories.{entry_at}
use Rattle.history_model.specs.Touched.{touches_byte, tree_before}
use Rattle.journal_model.specs.Versions.{Version, Published, Sealed, Running}
use Rattle.journal_laws.proofs.Outcomes.{byte_of_same_sector, present_after, present_left, size_of_present, sectors_after, left_by_write}
use Rattle.history_laws.specs.Named.{Names, byte_in}
use Rattle.history_laws.specs.KeptBytes.{IsUntouchedBefore, AreLeft, ArePresent, AreBytesKept}
use Rattle.history_laws.specs.RawWrites.{given_to, IsTouchedSince, WritesTouched}
use Rattle.history_laws.proofs.MovedBytes.{started_less, begun_later}

three : (a from to : ℕ) → from ≤ to → (a < from) ⊎ ((from ≤ a) × (a < to)) ⊎ (to ≤ a)
three a from to le = grind arith

given : (from to a : ℕ) (x : Option ℕ) → from ≤ a → a < to → (if nat_le from a && nat_lt a to then x else None) ≡ x
given from to a x low high = grind arith

not_given_before : (from to a : ℕ) (x : Option ℕ) → a < from → (if nat_le from a && nat_lt a to then x else None) ≡ None
not_given_before from to a x low = grind arith

not_given_after : (from to a : ℕ) (x : Option ℕ) → to ≤ a → (if nat_le from a && nat_lt a to then x else None) ≡ None
not_given_after from to a x high = grind arith

-- byte a of a list in three parts, of which the one in the middle stands at `from`
pub in_first : (front bytes rest : List ℕ) (a : ℕ) → a < length front → slice_index (front ++ (bytes ++ rest)) a ≡ slice_index front a
in_first front bytes rest a below = get_or_append_left front (bytes ++ rest) 0 a below

in_middle : (front bytes rest : List ℕ) (from a j : ℕ) → length front ≡ from → from + j ≡ a → j < length bytes → slice_index (front ++ (bytes ++ rest)) a ≡ slice_index bytes j
in_middle front bytes rest from a j size at below =
    ap (slice_index (front ++ (bytes ++ rest))) (sym at ∙ ap (λ (n : ℕ). n + j) (sym size)) ∙ get_or-append-add front (bytes ++ rest) j 0 ∙ get_or_append_left bytes rest 0 j below

pub in_rest : (front bytes rest : List ℕ) (from a j : ℕ) → length front ≡ from → from + (length bytes + j) ≡ a → slice_index (front ++ (bytes ++ rest)) a ≡ slice_index rest j
in_rest front bytes rest from a j size at =
    ap (slice_index (front ++ (bytes ++ rest))) (sym at ∙ ap (λ (n : ℕ). n + (length bytes + j)) (sym size)) ∙ get_or-append-add front (bytes ++ rest) (length bytes + j) 0 ∙ get_or-append-add bytes rest j 0

-- a byte of the image with these sectors laid over
byte_overwritten : (image : Image) (first : ℕ) (bytes : List ℕ) (a : ℕ) → 512 * first + length bytes ≤ length image
    → slice_index (overwritten image first bytes) a ≡ unwrap_or (given_to first bytes a) (slice_index image a)
byte_overwritten image first bytes a inside =
    let from = 512 * first in
    let to = 512 * first + length bytes in
    let front : length (take (512 * first) image) ≡ 512 * first = length-take-le (512 * first) image (omega (arith, inside)) in
    let here : Option ℕ = Some (slice_index bytes (a - 512 * first)) in
    elim (three a (512 * first) (512 * first + length bytes) (omega arith)) [
      | inl low ↦ in_first (take (512 * first) image) bytes (drop (512 * first + length bytes) image) a (omega (arith, low, front))
          ∙ get_or-take (512 * first) image a 0 low
          ∙ ap (λ (o : Option ℕ). unwrap_or o (slice_index image a)) (sym (not_given_before (512 * first) (512 * first + length bytes) a here low))
      | inr (inl both) ↦ in_middle (take (512 * first) image) bytes (drop (512 * first + length bytes) image) (512 * first) a (a - 512 * first) front (omega (arith, both.0)) (omega (arith, both.0, both.1))
          ∙ ap (λ (o : Option ℕ). unwrap_or o (slice_index image a)) (sym (given (512 * first) (512 * first + length bytes) a here both.0 both.1))
      | inr (inr high) ↦ in_rest (take (512 * first) image) bytes (drop (512 * first + length bytes) image) (512 * first) a (a - (512 * first + length bytes)) front (omega (arith, high))
          ∙ get_or-drop (512 * first + length bytes) image (a - (512 * first + length bytes)) 0
          ∙ ap (slice_index image) (omega (arith, high))
          ∙ ap (λ (o : Option ℕ). unwrap_or o (slice_index image a)) (sym (not_given_after (512 * first) (512 * first + length bytes) a here high))
    ]

touch_clash : (n m : ℕ) (T : Entry → Bool) (o : Option Entry) → n < m → IfSome o (λ e. e.start < m → T e ≡ false) → IsSomeAnd o (λ e. (e.start ≤ n) × (T e ≡ true)) → ⊥
touch_clash n m T None less leaves touched = touched
touch_clash n m T (Some e) less leaves touched = let early : e.start ≤ n = touched.0 in false≢true (sym (leaves (omega (arith, early, less))) ∙ touched.1)

whenever : (m : ℕ) (P : Entry → Type 0) (o : Option Entry) → IfSome o P → IfSome o (λ e. e.start < m → P e)
whenever m P None leaves = tt
whenever m P (Some e) leaves = λ started. leaves

module _ (g : Geometry) (moment : ℕ) (opening : Tree) (entries : List Entry) (r : Record) (first : ℕ) (bytes : List ℕ) (readings : Version → Reading) (held : Version → ℕ)
    (ok : IsOfSectors r) (inside : IsInside (length r.opening) (Write first bytes)) (kept : AreBytesKept g moment opening entries r readings held)
    (touched : WritesTouched g moment opening entries r (held Running) readings first bytes) where
  abbrev written : Record
  written = with_calls r (Write first bytes ∷ [])

  one_more : length written.calls ≡ length r.calls + 1
  one_more = length_push r.calls (Write first bytes)

  never : (k ino p : ℕ) → k ≤ held Running → IsUntouchedBefore g moment opening entries k (length written.calls) ino p
      → IsTouchedSince g moment opening entries (held Running) (length r.calls) ino p → ⊥
  never k ino p low free (i, past, some) =
      touch_clash (length r.calls) (length written.calls) (λ e. touches_byte (tree_before g moment opening entries i) e ino p) (entry_at entries i) (omega (arith, one_more))
      (free i (omega (arith, low, past))) some

  choose : (v : Version) (ino p value b x : ℕ) → Names (readings v) ino p b → x ≡ value → byte_in (present_of r) b p ≡ value
      → (IsTouchedSince g moment opening entries (held Running) (length r.calls) ino p → ⊥) → (o : Option ℕ) → given_to first bytes (4096 * b + p % 4096) ≡ o → unwrap_or o x ≡ value
  choose v ino p value b x names old present not None is = old
  choose v ino p value b x names old present not (Some w) is = elim (touched v ino p b w names is) [
    | inl same ↦ same ∙ present
    | inr some ↦ absurd (not some)
  ]

  left_written : AreLeft g moment opening entries written (held Published) (readings Published)
  left_written ino p value b image has names free out =
      let one = left_by_write r first bytes image (sectors_after r (Write first bytes) ok inside) out in
      let a = 4096 * b + p % 4096 in
      let free_before : IsUntouchedBefore g moment opening entries (held Published) (length r.calls) ino p =
      λ i past. started_less (length r.calls) (length written.calls) (λ e. touches_byte (tree_before g moment opening entries i) e ino p ≡ false) (entry_at entries i) (omega (arith, one_more)) (free i past) in
      let old : byte_in one.0 b p ≡ value = kept.published ino p value b one.0 has names free_before one.1 in
      let present : byte_in (present_of r) b p ≡ value = kept.published ino p value b (present_of r) has names free_before (present_left r ok) in
      let not = never (held Published) ino p (omega (arith, kept.order.sealed, kept.order.running)) free in
      elim (one.2.each ((4096 * b + p % 4096) / 512)) [
        | inl same ↦ byte_of_same_sector image one.0 a (a / 512) refl same ∙ old
        | inr new ↦ byte_of_same_sector image (overwritten one.0 first bytes) a (a / 512) refl new
            ∙ byte_overwritten one.0 first bytes a (omega (arith, one.1.size, inside.1))
            ∙ choose Published ino p value b (byte_in one.0 b p) names old present not (given_to first bytes (4096 * b + p % 4096)) refl
      ]

  present_written : (v : Version) → held v ≤ held Running → ArePresent g moment opening entries r (held v) (readings v) → ArePresent g moment opening entries written (held v) (readings v)
  present_written v low stands ino p value b has names free =
      let a = 4096 * b + p % 4096 in
      let before : byte_in (present_of r) b p ≡ value = stands ino p value b has names free in
      let not = never (held v) ino p low (λ i past. whenever (length written.calls) (λ e. touches_byte (tree_before g moment opening entries i) e ino p ≡ false) (entry_at entries i) (free i past)) in
      ap (λ (i : Image). slice_index i a) (present_after r (Write first bytes ∷ []))
      ∙ byte_overwritten (present_of r) first bytes a (omega (arith, inside.1, size_of_present r ok))
      ∙ choose v ino p value b (byte_in (present_of r) b p) names before before not (given_to first bytes (4096 * b + p % 4096)) refl

  pub write_kept : AreBytesKept g moment opening entries written readings held
  write_kept = record {
    order = kept.order;
    places = kept.places;
    published = left_written;
    sealed = present_written Sealed kept.order.running kept.sealed;
    running = present_written Running (omega arith) kept.running;
    to_sealed = kept.to_sealed;
    to_running = kept.to_running;
    begun = λ i. begun_later (length r.calls) (length written.calls) (entry_at entries i) (omega (arith, one_more)) (kept.begun i);
  }
