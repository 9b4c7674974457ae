-- What each step of a roll needs of a safe journal: where its blocks lie, and its transactions in two parts.
use Rattle.std.proofs.Common.{◌≡◌, ◌<◌, ◌≤◌, inl, inr, ℕ, ◌+◌, ◌-◌, ◌*◌, ◌/◌, ◌%◌, eqb, ltb, Bool, true, false, cond, List, [], ◌∷◌, ◌++◌, length, take, drop, ◌^◌, Some, refl, sym, ap, ◌∙◌, subst, arith, append_assoc, length-append, length-take}
use Rattle.std.specs.List.{list_any, AllByRecursion}
use Rattle.std.proofs.Math.Nat.{mod-lt, mod-eq_of_lt}
use Rattle.std.proofs.lemmas.Bool.{true≢false, cases_lt, and_parts, or_cases, lt-ltb, eqb-true}
use Rattle.std.proofs.lemmas.List.{take-append-drop}
use Rattle.std.proofs.lemmas.List.Elements.{All-weaker, recursion_from_All}
use Rattle.std.proofs.lemmas.List.Sums.{sum_by-append}
use Rattle.lufs_base.specs.Layout.{IsGeometry, blocks_of, ring_of, group_start, region_in, region_of}
use Rattle.lufs_base.specs.declared.geometry.Geometry.{Geometry}
use Rattle.lufs_base.specs.declared.geometry.Region.TheVariants.{Boot, Super, Log}
use Rattle.lufs_base.specs.declared.delta.Delta.{Delta}
use Rattle.lufs_base.specs.declared.delta.DeltaKind.{DeltaKind}
use Rattle.lufs_base.specs.declared.delta.DeltaKind.TheVariants.{Group, Inode, Chunk, Pointers, Zero, LinkText, Cancel}
use Rattle.volume_model.specs.declared.log.Header.{Header}
use Rattle.volume_model.specs.declared.log.Tx.{Tx}
use Rattle.volume_model.specs.Format.{Image, geometry_of}
use Rattle.volume_model.specs.Log.{is_home_of, may_be_logged, AreLoggable, live_deltas, MayBeHeader, lays_on}
use Rattle.volume_model.specs.Crash.{Record, present_of}
use Rattle.log_laws.specs.TxsInRing.{sectors_of_txs, StandFrom, trimmed}
use Rattle.log_laws.specs.LogRing.{IsLogRing}
use Rattle.log_laws.specs.LogOnImage.{ring_sector}
use Rattle.log_laws.proofs.TxSize.{low_home}
use Rattle.log_laws.proofs.RingKept.{turned}
use Rattle.journal_model.specs.Journals.{Journal}
use Rattle.journal_model.specs.Versions.{Version, Published, Sealed, Running, sealed_txs, written_txs, running_tx, header_after, later_of, txs_after, txs_of}
use Rattle.journal_model.specs.LaidBlocks.{is_laid_by}
use Rattle.journal_model.specs.BlockRoles.{Metadata, Roles, is_claimed}
use Rattle.journal_model.specs.Kept.{HasRoom}
use Rattle.journal_model.specs.Safety.{IsSafe}
use Rattle.journal_laws.proofs.Outcomes.{present_left, blocks_fit}
use Rattle.journal_laws.proofs.Replays.{LieInBlocks, loggable_lie, each_both, each_taken, each_live}

-- no delta lies before the groups
not_in_boot : (kind : DeltaKind) → is_home_of kind Boot ≡ false
not_in_boot Group = refl
not_in_boot Inode = refl
not_in_boot Chunk = refl
not_in_boot Pointers = refl
not_in_boot Zero = refl
not_in_boot LinkText = refl
not_in_boot Cancel = refl

not_in_super : (kind : DeltaKind) → is_home_of kind Super ≡ false
not_in_super Group = refl
not_in_super Inode = refl
not_in_super Chunk = refl
not_in_super Pointers = refl
not_in_super Zero = refl
not_in_super LinkText = refl
not_in_super Cancel = refl

not_in_log : (kind : DeltaKind) → is_home_of kind Log ≡ false
not_in_log Group = refl
not_in_log Inode = refl
not_in_log Chunk = refl
not_in_log Pointers = refl
not_in_log Zero = refl
not_in_log LinkText = refl
not_in_log Cancel = refl

not_before_groups : (g : Geometry) (kind : DeltaKind) (b : ℕ) → b < group_start g 0 → is_home_of kind (region_of g b) ≡ false
not_before_groups g kind b before =
    let after = region_in g ((b - (3 + g.log / 8)) / g.bpg) ((b - (3 + g.log / 8)) % g.bpg) in
    elim (ltb b 2) as (λ t. is_home_of kind (cond t Boot (cond (ltb b 3) Super (cond (ltb b (3 + g.log / 8)) Log after))) ≡ false) [
      | true ↦ not_in_boot kind
      | false ↦ elim (ltb b 3) as (λ t. is_home_of kind (cond t Super (cond (ltb b (3 + g.log / 8)) Log after)) ≡ false) [
        | true ↦ not_in_super kind
        | false ↦
            ap (λ (t : Bool). is_home_of kind (cond t Log after)) (let inside : b < 3 + g.log / 8 = omega (arith, before) in lt-ltb b (3 + g.log / 8) inside)
            ∙ not_in_log kind
      ]
    ]

pub low_region : (g : Geometry) (kind : DeltaKind) (home len : ℕ) → may_be_logged g kind home len ≡ true → group_start g 0 ≤ home / 4096
unfolding may_be_logged
low_region g kind home len may =
    elim (cases_lt (home / 4096) (group_start g 0)) [
      | inl before ↦ absurd (true≢false (sym (and_parts (ltb (home / 4096) (blocks_of g)) _ (and_parts _ _ may).0).1 ∙ not_before_groups g kind (home / 4096) before))
      | inr from ↦ from
    ]

-- the delta's block is one of the groups
abbrev pub LiesInGroups : Geometry → Delta → Type 0
LiesInGroups g d = (group_start g 0 ≤ d.home / 4096) × (d.home / 4096 < blocks_of g)

pub loggable_in_groups : (g : Geometry) (deltas : List Delta) → AreLoggable g deltas → AllByRecursion (LiesInGroups g) deltas
loggable_in_groups g deltas are =
    recursion_from_All (LiesInGroups g) deltas
    (All-weaker (λ (d : Delta). may_be_logged g d.kind d.home d.len ≡ true) (LiesInGroups g) (λ d may. (low_region g d.kind d.home d.len may, low_home g d.kind d.home d.len may)) deltas are.table)

abbrev pub AllLoggable : Geometry → List Tx → Type 0
AllLoggable g txs = AllByRecursion (λ tx. AreLoggable g tx.deltas) txs

pub all_lie : (g : Geometry) (txs : List Tx) → AllLoggable g txs → LieInBlocks txs
all_lie g [] all = tt
all_lie g (tx ∷ txs) all = (loggable_lie g tx.deltas all.0, all_lie g txs all.1)

all_in_groups : (g : Geometry) (txs : List Tx) → AllLoggable g txs → AllByRecursion (λ tx. AllByRecursion (LiesInGroups g) tx.deltas) txs
all_in_groups g [] all = tt
all_in_groups g (tx ∷ txs) all = (loggable_in_groups g tx.deltas all.0, all_in_groups g txs all.1)

pub all_stand : (g : Geometry) (head at tid : ℕ) (txs : List Tx) → StandFrom g head at tid txs → AllLoggable g txs
all_stand g head at tid [] stand = tt
all_stand g head at tid (tx ∷ txs) stand = (stand.0.loggable, all_stand g head (at + tx.sectors) (tid + 1) txs stand.1)

laid_in_groups : (g : Geometry) (deltas : List Delta) (b : ℕ) → AllByRecursion (LiesInGroups g) deltas → list_any (lays_on b) deltas ≡ true → (group_start g 0 ≤ b) × (b < blocks_of g)
laid_in_groups g [] b all laid = absurd (true≢false (sym laid))
laid_in_groups g (d ∷ deltas) b all laid =
    elim (or_cases (lays_on b d) (list_any (lays_on b) deltas) laid) [
      | inl here ↦
          let at : d.home / 4096 ≡ b = eqb-true (d.home / 4096) b (and_parts (eqb (d.home / 4096) b) _ here).0 in
          subst (λ (c : ℕ). (group_start g 0 ≤ c) × (c < blocks_of g)) at all.0
      | inr later ↦ laid_in_groups g deltas b all.1 later
    ]

-- a block that loggable transactions lay bytes over is one of the groups
pub laid_place : (g : Geometry) (txs : List Tx) (b : ℕ) → AllLoggable g txs → is_laid_by txs b ≡ true → (group_start g 0 ≤ b) × (b < blocks_of g)
laid_place g txs b all laid = laid_in_groups g (live_deltas txs) b (each_live (LiesInGroups g) txs (all_in_groups g txs all)) laid

-- the oldest transactions, and those of a version after them
pub parts_of : (g : Geometry) (j : Journal) (n : ℕ) (v : Version) → take n j.committed ++ txs_after g j n v ≡ txs_of g j v
parts_of g j n v = sym (append_assoc (take n j.committed) (drop n j.committed) (later_of g j v)) ∙ ap (λ (l : List Tx). l ++ later_of g j v) (take-append-drop n j.committed)

-- a header after no transactions is the oldest
pub header_after_none : (g : Geometry) (j : Journal) → MayBeHeader g j.oldest → header_after g j 0 ≡ j.oldest
header_after_none g j may =
    let same : j.oldest.head + 0 ≡ j.oldest.head = omega arith in
    let head : (j.oldest.head + 0) % ring_of g ≡ j.oldest.head = ap (λ (n : ℕ). n % ring_of g) same ∙ mod-eq_of_lt may.head_low in
    let number : j.oldest.tid + 0 ≡ j.oldest.tid = omega arith in
    ap (λ (n : ℕ). record { epoch = j.oldest.epoch; head = n; tid = j.oldest.tid + 0 }) head
    ∙ ap (λ (n : ℕ). record { epoch = j.oldest.epoch; head = j.oldest.head; tid = n }) number

-- a header that trims is that of two, one after the other
pub trimmed_twice : (g : Geometry) (h : Header) (front rest : List Tx) → trimmed g (trimmed g h front) rest ≡ trimmed g h (front ++ rest)
trimmed_twice g h front rest =
    let sum : sectors_of_txs (front ++ rest) ≡ sectors_of_txs front + sectors_of_txs rest = sum_by-append (λ (t : Tx). t.sectors) front rest in
    let count : length (front ++ rest) ≡ length front + length rest = length-append front rest in
    let head : ((h.head + sectors_of_txs front) % ring_of g + sectors_of_txs rest) % ring_of g ≡ (h.head + sectors_of_txs (front ++ rest)) % ring_of g =
    turned g h.head (sectors_of_txs front) (sectors_of_txs rest) ∙ ap (λ (n : ℕ). (h.head + n) % ring_of g) (sym sum) in
    let number : h.tid + length front + length rest ≡ h.tid + length (front ++ rest) = omega (arith, count) in
    ap (λ (n : ℕ). record { epoch = h.epoch; head = n; tid = h.tid + length front + length rest }) head
    ∙ ap (λ (n : ℕ). record { epoch = h.epoch; head = (h.head + sectors_of_txs (front ++ rest)) % ring_of g; tid = n }) number

-- the header after some of the transactions may be one
pub header_after_may : (g : Geometry) (j : Journal) (n : ℕ) → IsGeometry g → HasRoom g j → MayBeHeader g (header_after g j n)
header_after_may g j n geometry room =
    let part : length (take n j.committed) ≤ length j.committed = omega (arith, length-take n j.committed) in
    let high : j.oldest.tid + length (j.committed ++ sealed_txs j) < 2 ^ 32 = room.number in
    let below : (j.oldest.head + sectors_of_txs (take n j.committed)) % ring_of g < ring_of g = mod-lt (j.oldest.head + sectors_of_txs (take n j.committed)) (omega (arith, geometry.log_low)) in
    record {
      epoch_low = room.oldest.epoch_low;
      epoch_high = room.oldest.epoch_high;
      head_low = below;
      head_high = omega (arith, below, geometry.log_high);
      tid_low = omega (arith, room.oldest.tid_low);
      tid_high = omega (arith, high, part, length-append j.committed (sealed_txs j));
    }

module _ (g : Geometry) (roles : Roles) (r : Record) (j : Journal) (safe : IsSafe g roles r j) where
  abbrev home : Image
  home = present_of r

  -- what stands there
  pub ring_at_home : IsLogRing g j.oldest (ring_sector g home) j.committed (written_txs j)
  ring_at_home = (safe.each home (present_left r safe.sectors)).ring

  pub geometry_at_home : geometry_of home ≡ Some g
  geometry_at_home = (safe.each home (present_left r safe.sectors)).geometry

  pub size_of_opening : 4096 * blocks_of g ≤ length r.opening
  size_of_opening = let size = (present_left r safe.sectors).size in omega (arith, size, blocks_fit g home geometry_at_home)

  pub committed_loggable : AllLoggable g j.committed
  committed_loggable = all_stand g j.oldest.head 0 j.oldest.tid j.committed ring_at_home.begins.stand

  later_loggable : (v : Version) → AllLoggable g (later_of g j v)
  later_loggable Published = tt
  later_loggable Sealed = all_stand g j.oldest.head _ _ (sealed_txs j) safe.room.sealed.stand
  later_loggable Running =
      each_both (λ (tx : Tx). AreLoggable g tx.deltas) (sealed_txs j) (running_tx g j ∷ [])
      (all_stand g j.oldest.head _ _ (sealed_txs j) safe.room.sealed.stand) (safe.versions.loggable, tt)

  pub version_loggable : (v : Version) → AllLoggable g (txs_of g j v)
  version_loggable v = each_both (λ (tx : Tx). AreLoggable g tx.deltas) j.committed (later_of g j v) committed_loggable (later_loggable v)

  pub oldest_loggable : (n : ℕ) → AllLoggable g (take n j.committed)
  oldest_loggable n = each_taken (λ (tx : Tx). AreLoggable g tx.deltas) n j.committed committed_loggable

  -- a byte of metadata lies in the groups
  pub metadata_place : (v : Version) (b n i : ℕ) → roles v b ≡ Metadata n → i < n → (group_start g 0 ≤ b) × (b < blocks_of g) × (i < 4096)
  metadata_place v b n i role below =
      let place = safe.versions.places v b (ap is_claimed role) in
      (place.0, place.1, let size : n ≤ 4096 = safe.versions.sizes v b n role in omega (arith, size, below))
