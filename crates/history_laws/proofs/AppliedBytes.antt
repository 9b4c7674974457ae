-- Bytes stay kept where an entry is applied to the running version.
use Rattle.std.proofs.Common.{◌≡◌, inl, inr, ℕ, suc, false, List, Option, ap, sym, subst, arith}
use Rattle.std.specs.Prelude.{IfSome}
use Rattle.std.proofs.lemmas.Bool.{cases_Bool, cases_lt}
use Rattle.std.proofs.lemmas.Option.{slice_get_within}
use Rattle.lufs_base.specs.declared.geometry.Geometry.{Geometry}
use Rattle.tree_types.specs.declared.history.Entry.{Entry}
use Rattle.volume_model.specs.Crash.{Record}
use Rattle.volume_model.specs.Sound.{Reading, Tree}
use Rattle.history_model.specs.Histories.{entry_at, replay_of}
use Rattle.history_model.specs.Touched.{touches_byte, tree_before}
use Rattle.journal_model.specs.Versions.{Version, Published, Sealed, Running}
use Rattle.history_laws.specs.Named.{AgreeOnPlaces}
use Rattle.history_laws.specs.KeptBytes.{IsUntouchedAfter, ArePresent, KeepPlaces, AreBytesKept}
use Rattle.history_laws.specs.Applied.{with_running, LeavesFree, IsApplied}

module _ (g : Geometry) (moment : ℕ) (opening : Tree) (entries : List Entry) (r : Record) (readings : Version → Reading) (held : Version → ℕ) (new : Reading)
    (kept : AreBytesKept g moment opening entries r readings held) (applied : IsApplied g moment opening entries r readings (held Running) new) where
  abbrev k : ℕ
  k = held Running

  abbrev Leaves : (ino p i : ℕ) → Type 0
  Leaves ino p i = IfSome (entry_at entries i) (λ e. touches_byte (tree_before g moment opening entries i) e ino p ≡ false)

  same_tree : tree_before g moment opening entries (suc k) ≡ replay_of g moment opening entries k
  same_tree = ap (replay_of g moment opening entries) (omega arith)

  to_entry : (ino p : ℕ) → Leaves ino p (suc k) → touches_byte (replay_of g moment opening entries k) applied.entry ino p ≡ false
  to_entry ino p leaves =
      subst (λ (t : Tree). touches_byte t applied.entry ino p ≡ false) same_tree
      (subst (λ (o : Option Entry). IfSome o (λ e. touches_byte (tree_before g moment opening entries (suc k)) e ino p ≡ false)) applied.is leaves)

  of_entry : (ino p : ℕ) → touches_byte (replay_of g moment opening entries k) applied.entry ino p ≡ false → Leaves ino p (suc k)
  of_entry ino p leaves =
      subst (λ (o : Option Entry). IfSome o (λ e. touches_byte (tree_before g moment opening entries (suc k)) e ino p ≡ false)) (sym applied.is)
      (subst (λ (t : Tree). touches_byte t applied.entry ino p ≡ false) (sym same_tree) leaves)

  untouched_all : (ino p : ℕ) → touches_byte (replay_of g moment opening entries k) applied.entry ino p ≡ false → IsUntouchedAfter g moment opening entries (suc k) ino p
      → IsUntouchedAfter g moment opening entries k ino p
  untouched_all ino p first rest i past = elim (cases_lt (suc k) i) [
    | inl later ↦ rest i later
    | inr here ↦ let at : suc k ≡ i = omega (arith, here, past) in subst (Leaves ino p) at (of_entry ino p first)
  ]

  to_running : KeepPlaces g moment opening entries (held Sealed) (readings Sealed) (suc k) new
  to_running ino p value b has names within =
      let one = applied.stays ino p value b has names (to_entry ino p (within (suc k) (omega (arith, kept.order.running)) (omega arith))) in
      kept.to_running ino p value b one.1 one.0 (λ i low high. within i low (omega (arith, high)))

  present : ArePresent g moment opening entries r (suc k) new
  present ino p value b has names free = elim (cases_Bool (touches_byte (replay_of g moment opening entries k) applied.entry ino p)) [
    | inl touched ↦ applied.touched ino p value b has names touched
    | inr stays ↦
        let one = applied.stays ino p value b has names stays in
        kept.running ino p value b one.1 one.0 (untouched_all ino p stays free)
  ]

  apart : (v : Version) → ((b : ℕ) → LeavesFree (readings Published) b × LeavesFree (readings Sealed) b → LeavesFree (readings v) b) → AgreeOnPlaces (readings v) new
  apart v free ino index other at b one two = elim (applied.claims other at b two) [
    | inl old ↦ kept.places v ino index other at b one old
    | inr fresh ↦ absurd (free b fresh ino index one)
  ]

  places : (v : Version) → AgreeOnPlaces (with_running readings new v) new
  places Published = apart Published (λ b fresh. fresh.0)
  places Sealed = apart Sealed (λ b fresh. fresh.1)
  places Running = applied.once

  pub applied_kept : AreBytesKept g moment opening entries r (with_running readings new) (with_running held (suc k))
  applied_kept = record {
    order = record { sealed = kept.order.sealed; running = omega (arith, kept.order.running); all = slice_get_within entries k applied.entry applied.is };
    places = places;
    published = kept.published;
    sealed = kept.sealed;
    running = present;
    to_sealed = kept.to_sealed;
    to_running = to_running;
    begun = kept.begun;
  }
