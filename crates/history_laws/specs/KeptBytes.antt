-- Which bytes of files stand in the blocks that the versions of a volume name.
use Rattle.std.specs.Prelude.{◌≡◌, ◌≤◌, ◌<◌, ℕ, true, false, List, length, IfSome}
use Rattle.std.specs.Option.{option_map_or}
use Rattle.lufs_base.specs.declared.geometry.Geometry.{Geometry}
use Rattle.tree_types.specs.declared.history.Entry.{Entry}
use Rattle.volume_model.specs.Format.{Image}
use Rattle.volume_model.specs.Crash.{Record, Outcome, present_of}
use Rattle.volume_model.specs.Sound.{Reading, Tree}
use Rattle.history_model.specs.Lines.{is_fsync}
use Rattle.history_model.specs.Histories.{entry_at, is_ok, replay_of}
use Rattle.history_model.specs.Touched.{touches_byte, tree_before, Settled}
use Rattle.journal_model.specs.Versions.{Version, Published, Sealed, Running}
use Rattle.history_laws.specs.Named.{Names, byte_in, HasByteOf, AgreeOnPlaces}

-- no entry after number `from`, up to number `to`, touches byte p of file `ino`
abbrev pub IsUntouchedWithin : Geometry → (moment : ℕ) → (opening : Tree) → List Entry → (from to ino p : ℕ) → Type 0
IsUntouchedWithin g moment opening entries from to ino p =
    (i : ℕ) → from < i → i ≤ to → IfSome (entry_at entries i) (λ e. touches_byte (tree_before g moment opening entries i) e ino p ≡ false)

-- no entry after number k does
abbrev pub IsUntouchedAfter : Geometry → (moment : ℕ) → (opening : Tree) → List Entry → (k ino p : ℕ) → Type 0
IsUntouchedAfter g moment opening entries k ino p =
    (i : ℕ) → k < i → IfSome (entry_at entries i) (λ e. touches_byte (tree_before g moment opening entries i) e ino p ≡ false)

-- no entry after number k that began before listed call n does
abbrev pub IsUntouchedBefore : Geometry → (moment : ℕ) → (opening : Tree) → List Entry → (k n ino p : ℕ) → Type 0
IsUntouchedBefore g moment opening entries k n ino p =
    (i : ℕ) → k < i → IfSome (entry_at entries i) (λ e. e.start < n → touches_byte (tree_before g moment opening entries i) e ino p ≡ false)

-- What a crash may leave now has the bytes of the tree of the first k entries, each in its block, but for those that a later
-- entry touches which began before now.
abbrev pub AreLeft : Geometry → (moment : ℕ) → (opening : Tree) → List Entry → Record → (k : ℕ) → Reading → Type 0
AreLeft g moment opening entries r k reading =
    (ino p value b : ℕ) (image : Image) → HasByteOf (replay_of g moment opening entries k) ino p value → Names reading ino p b
    → IsUntouchedBefore g moment opening entries k (length r.calls) ino p → Outcome r (length r.calls) image → byte_in image b p ≡ value

-- What is present has them, but for those that a later entry touches.
abbrev pub ArePresent : Geometry → (moment : ℕ) → (opening : Tree) → List Entry → Record → (k : ℕ) → Reading → Type 0
ArePresent g moment opening entries r k reading =
    (ino p value b : ℕ) → HasByteOf (replay_of g moment opening entries k) ino p value → Names reading ino p b
    → IsUntouchedAfter g moment opening entries k ino p → byte_in (present_of r) b p ≡ value

-- A byte that the second reading names, for the first k entries, and that none of those after number i touches: the first
-- one names it in the same block, and the first i entries give it the same value.
abbrev pub KeepPlaces : Geometry → (moment : ℕ) → (opening : Tree) → List Entry → (i : ℕ) → Reading → (k : ℕ) → Reading → Type 0
KeepPlaces g moment opening entries i before k after =
    (ino p value b : ℕ) → HasByteOf (replay_of g moment opening entries k) ino p value → Names after ino p b
    → IsUntouchedWithin g moment opening entries i k ino p → Names before ino p b × HasByteOf (replay_of g moment opening entries i) ino p value

-- each version holds the first so many entries, a later one no fewer
pub record AreHeld (entries : List Entry) (held : Version → ℕ) : Type 0 where
  pub sealed : held Published ≤ held Sealed
  pub running : held Sealed ≤ held Running
  pub all : held Running ≤ length entries

-- The versions, of these readings, keep the bytes of the entries that they hold.
pub record AreBytesKept (g : Geometry) (moment : ℕ) (opening : Tree) (entries : List Entry) (r : Record) (readings : Version → Reading) (held : Version → ℕ) : Type 0 where
  pub order : AreHeld entries held
  pub places : (v : Version) → AgreeOnPlaces (readings v) (readings Running)
  pub published : AreLeft g moment opening entries r (held Published) (readings Published)
  pub sealed : ArePresent g moment opening entries r (held Sealed) (readings Sealed)
  pub running : ArePresent g moment opening entries r (held Running) (readings Running)
  pub to_sealed : KeepPlaces g moment opening entries (held Published) (readings Published) (held Sealed) (readings Sealed)
  pub to_running : KeepPlaces g moment opening entries (held Sealed) (readings Sealed) (held Running) (readings Running)
  -- no entry begins later than now
  pub begun : (i : ℕ) → IfSome (entry_at entries i) (λ e. e.start ≤ length r.calls)

-- A crash after n listed calls leaves each settled byte of the tree of the first k entries in the block that the reading
-- names for it.
abbrev pub IsCrashKept : Geometry → (moment : ℕ) → (opening : Tree) → List Entry → Record → (n k : ℕ) → Reading → Type 0
IsCrashKept g moment opening entries r n k reading =
    (ino p value b : ℕ) (image : Image) → HasByteOf (replay_of g moment opening entries k) ino p value → Names reading ino p b
    → Settled g moment opening entries n ino p → Outcome r n image → byte_in image b p ≡ value

-- The synchronous entries whose replies were given are among the first k, and each fsync that was answered ok is
-- synchronous.
pub record AreToldPublished (entries : List Entry) (k : ℕ) : Type 0 where
  pub told : (i : ℕ) → IfSome (entry_at entries i) (λ e. e.sync ≡ true → IfSome e.told (λ told. i ≤ k))
  pub fsyncs : (i : ℕ) → IfSome (entry_at entries i) (λ e. option_map_or is_fsync e.call false ≡ true → is_ok e.reply ≡ true → e.sync ≡ true)

-- the first k entries began before listed call n
abbrev pub BeganBefore : List Entry → (k n : ℕ) → Type 0
BeganBefore entries k n = (i : ℕ) → i ≤ k → IfSome (entry_at entries i) (λ e. e.start < n)
