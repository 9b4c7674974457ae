-- Bytes stay kept at a seal, at a flush, and where the sealed version becomes the published one.
use Rattle.std.proofs.Common.{◌≡◌, ◌<◌, ◌≤◌, ℕ, ◌+◌, false, List, [], ◌∷◌, length, Option, Some, None, ap, ◌∙◌, arith}
use Rattle.std.specs.Prelude.{IfSome}
use Rattle.std.proofs.lemmas.List.{length_push}
use Rattle.lufs_base.specs.declared.geometry.Geometry.{Geometry}
use Rattle.tree_types.specs.declared.history.Entry.{Entry}
use Rattle.volume_model.specs.declared.device_call.DeviceCall.TheVariants.{Flush}
use Rattle.volume_model.specs.Format.{Image}
use Rattle.volume_model.specs.Crash.{Record, with_calls, IsOfSectors, Outcome, present_of}
use Rattle.volume_model.specs.Sound.{Reading, Tree}
use Rattle.history_model.specs.Histories.{entry_at}
use Rattle.history_model.specs.Touched.{touches_byte, tree_before}
use Rattle.journal_model.specs.Versions.{Version, Published, Sealed, Running}
use Rattle.journal_model.specs.BlockRoles.{Seals, Publishes, moved_from}
use Rattle.journal_laws.proofs.Outcomes.{present_after, present_left, sectors_after, left_by_flush}
use Rattle.history_laws.specs.Named.{byte_in}
use Rattle.history_laws.specs.KeptBytes.{AreLeft, ArePresent, KeepPlaces, AreBytesKept}

pub started_less : (n m : ℕ) (P : Entry → Type 0) (o : Option Entry) → n ≤ m → IfSome o (λ e. e.start < m → P e) → IfSome o (λ e. e.start < n → P e)
started_less n m P None less leaves = tt
started_less n m P (Some e) less leaves = λ started. leaves (omega (arith, started, less))

all_started : (n m : ℕ) (P : Entry → Type 0) (o : Option Entry) → n < m → IfSome o (λ e. e.start < m → P e) → IfSome o (λ e. e.start ≤ n) → IfSome o P
all_started n m P None less leaves begun = tt
all_started n m P (Some e) less leaves begun = let early : e.start ≤ n = begun in leaves (omega (arith, early, less))

pub begun_later : (n m : ℕ) (o : Option Entry) → n ≤ m → IfSome o (λ e. e.start ≤ n) → IfSome o (λ e. e.start ≤ m)
begun_later n m None more begun = tt
begun_later n m (Some e) more begun = let early : e.start ≤ n = begun in omega (arith, early, more)

module _ (g : Geometry) (moment : ℕ) (opening : Tree) (entries : List Entry) where
  keep_all : (k : ℕ) (reading : Reading) → KeepPlaces g moment opening entries k reading k reading
  keep_all k reading ino p value b has names within = (names, has)

  pub seal_kept : (r : Record) (readings : Version → Reading) (held : Version → ℕ) → AreBytesKept g moment opening entries r readings held
      → AreBytesKept g moment opening entries r (λ v. readings (moved_from Seals v)) (λ v. held (moved_from Seals v))
  seal_kept r readings held kept = record {
    order = record { sealed = omega (arith, kept.order.sealed, kept.order.running); running = omega arith; all = kept.order.all };
    places = λ v. kept.places (moved_from Seals v);
    published = kept.published;
    sealed = kept.running;
    running = kept.running;
    to_sealed = λ ino p value b has names within.
        let one = kept.to_running ino p value b has names (λ i low high. within i (omega (arith, kept.order.sealed, low)) high) in
        kept.to_sealed ino p value b one.1 one.0 (λ i low high. within i low (omega (arith, kept.order.running, high)));
    to_running = keep_all (held Running) (readings Running);
    begun = kept.begun;
  }

  module _ (r : Record) (ok : IsOfSectors r) where
    abbrev flushed : Record
    flushed = with_calls r (Flush ∷ [])

    one_more : length flushed.calls ≡ length r.calls + 1
    one_more = length_push r.calls Flush

    present_same : present_of flushed ≡ present_of r
    present_same = present_after r (Flush ∷ [])

    left_after : (image : Image) → Outcome flushed (length flushed.calls) image → image ≡ present_of r
    left_after image out = left_by_flush r image (sectors_after r Flush ok tt) out

    left_still : (k : ℕ) (reading : Reading) → AreLeft g moment opening entries r k reading → AreLeft g moment opening entries flushed k reading
    left_still k reading left ino p value b image has names free out =
        ap (λ (i : Image). byte_in i b p) (left_after image out)
        ∙ left ino p value b (present_of r) has names
        (λ i past. started_less (length r.calls) (length flushed.calls) (λ e. touches_byte (tree_before g moment opening entries i) e ino p ≡ false) (entry_at entries i) (omega (arith, one_more)) (free i past))
        (present_left r ok)

    present_still : (k : ℕ) (reading : Reading) → ArePresent g moment opening entries r k reading → ArePresent g moment opening entries flushed k reading
    present_still k reading present ino p value b has names free = ap (λ (i : Image). byte_in i b p) present_same ∙ present ino p value b has names free

    -- what is present is all that a crash may leave after a flush
    left_present : (k : ℕ) (reading : Reading) → ((i : ℕ) → IfSome (entry_at entries i) (λ e. e.start ≤ length r.calls)) → ArePresent g moment opening entries r k reading
        → AreLeft g moment opening entries flushed k reading
    left_present k reading begun present ino p value b image has names free out =
        ap (λ (i : Image). byte_in i b p) (left_after image out)
        ∙ present ino p value b has names
        (λ i past. all_started (length r.calls) (length flushed.calls) (λ e. touches_byte (tree_before g moment opening entries i) e ino p ≡ false) (entry_at entries i) (omega (arith, one_more)) (free i past) (begun i))

    begun_still : ((i : ℕ) → IfSome (entry_at entries i) (λ e. e.start ≤ length r.calls)) → (i : ℕ) → IfSome (entry_at entries i) (λ e. e.start ≤ length flushed.calls)
    begun_still begun i = begun_later (length r.calls) (length flushed.calls) (entry_at entries i) (omega (arith, one_more)) (begun i)

    pub flush_kept : (readings : Version → Reading) (held : Version → ℕ) → AreBytesKept g moment opening entries r readings held → AreBytesKept g moment opening entries flushed readings held
    flush_kept readings held kept = record {
      order = kept.order;
      places = kept.places;
      published = left_still (held Published) (readings Published) kept.published;
      sealed = present_still (held Sealed) (readings Sealed) kept.sealed;
      running = present_still (held Running) (readings Running) kept.running;
      to_sealed = kept.to_sealed;
      to_running = kept.to_running;
      begun = begun_still kept.begun;
    }

    pub publish_kept : (readings : Version → Reading) (held : Version → ℕ) → AreBytesKept g moment opening entries r readings held
        → AreBytesKept g moment opening entries flushed (λ v. readings (moved_from Publishes v)) (λ v. held (moved_from Publishes v))
    publish_kept readings held kept = record {
      order = record { sealed = omega arith; running = kept.order.running; all = kept.order.all };
      places = λ v. kept.places (moved_from Publishes v);
      published = left_present (held Sealed) (readings Sealed) kept.begun kept.sealed;
      sealed = present_still (held Sealed) (readings Sealed) kept.sealed;
      running = present_still (held Running) (readings Running) kept.running;
      to_sealed = keep_all (held Sealed) (readings Sealed);
      to_running = kept.to_running;
      begun = begun_still kept.begun;
    }
