-- Why commits and rolls were begun, as far as a history shows it.
use Rattle.std.specs.Prelude.{◌≡◌, ◌≢◌, ◌≤◌, ◌<◌, ◌⊎◌, ℕ, ◌+◌, ◌*◌, true, false, List, [], ◌∷◌, length, map, slice_get, Option, Some, None, IsSomeAnd, IfSome, AllPairs, Contains}
use Rattle.std.specs.List.{filter_map, AllByRecursion}
use Rattle.lufs_base.specs.Layout.{need_of, ring_of}
use Rattle.lufs_base.specs.declared.geometry.Geometry.{Geometry}
use Rattle.tree_types.specs.declared.waiting.Wait.{Wait}
use Rattle.tree_types.specs.declared.waiting.Wait.TheVariants as wait
use Rattle.tree_types.specs.declared.waiting.Cause.{Cause}
use Rattle.tree_types.specs.declared.waiting.Cause.TheVariants as cause
use Rattle.tree_types.specs.declared.history.Entry.{Entry}
use Rattle.tree_types.specs.declared.history.Commit.{Commit}
use Rattle.history_model.specs.Histories.{History, entry_at}
use Rattle.volume_model.specs.Log.{Fits}

-- The bytes of the schedule that the session was driven by; none where streams ran by themselves until the volume was
-- unmounted.
abbrev pub Schedule : Type 0
Schedule = Option (List ℕ)

-- the numbers rise strictly, from above this one on, and none is above the last
abbrev pub RiseWithin : (from last : ℕ) → List ℕ → Type 0
RiseWithin from last [] = Unit {0}
RiseWithin from last (n ∷ ns) = (from < n) × (n ≤ last) × RiseWithin n last ns

-- entry e is the first synchronous one after these entries, of so many
pub record IsFirstSynchronous (entries : List Entry) (after last e : ℕ) : Type 0 where
  pub past : after < e
  pub within : e ≤ last
  pub sync : IsSomeAnd (entry_at entries e) (λ x. x.sync ≡ true)
  pub first : (k : ℕ) → after < k → k < e → IfSome (entry_at entries k) (λ x. x.sync ≡ false)

-- the numbers are those of a changing line for which there was no room in the log
abbrev pub IsFull : Geometry → Wait → Type 0
IsFull g (wait.Full used sealed pending need ring) = (need ≡ need_of g) × (ring ≡ ring_of g) × (¬ (Fits ring used sealed pending need))
IsFull g other = ⊥

-- the numbers are those of a line for which there were blocks, but too few of them released
abbrev pub IsUnreleased : Wait → Type 0
IsUnreleased (wait.Unreleased released free wanted) = (released < wanted) × (wanted ≤ free)
IsUnreleased other = ⊥

-- the schedule has this byte at this place
abbrev pub AsksAt : Schedule → (byte place : ℕ) → Type 0
AsksAt None byte place = ⊥
AsksAt (Some bytes) byte place = slice_get bytes place ≡ Some byte

-- The session was asked to end: by a byte `e`, or where there is no schedule, once all lines were entered, as P says.
abbrev pub IsAskedToEnd : Schedule → (P : Type 0) → Type 0
IsAskedToEnd None P = P
IsAskedToEnd (Some bytes) P = Contains bytes 101

-- why a commit of the entries after `previous`, up to this boundary, was begun
abbrev pub IsCommitCause : Geometry → Schedule → List Entry → (previous boundary : ℕ) → Cause → Type 0
IsCommitCause g schedule entries previous boundary (cause.SyncWaits e) = IsFirstSynchronous entries previous boundary e
IsCommitCause g schedule entries previous boundary (cause.Full w) = IsFull g w
IsCommitCause g schedule entries previous boundary (cause.Unreleased w) = IsUnreleased w
IsCommitCause g schedule entries previous boundary (cause.Half used ring) = ⊥
IsCommitCause g schedule entries previous boundary (cause.Asked place) = AsksAt schedule 99 place
IsCommitCause g schedule entries previous boundary cause.Ending = IsAskedToEnd schedule (boundary ≡ length entries)

-- why a roll up to transaction `through`, of a session with so many commits, was begun
abbrev pub IsRollCause : Geometry → Schedule → (commits through : ℕ) → Cause → Type 0
IsRollCause g schedule commits through (cause.SyncWaits e) = ⊥
IsRollCause g schedule commits through (cause.Full w) = IsFull g w
IsRollCause g schedule commits through (cause.Unreleased w) = IsUnreleased w
IsRollCause g schedule commits through (cause.Half used ring) = (ring ≡ ring_of g) × (ring < 2 * used)
IsRollCause g schedule commits through (cause.Asked place) = AsksAt schedule 114 place
IsRollCause g schedule commits through cause.Ending = IsAskedToEnd schedule ((through ≡ commits) ⊎ (through + 1 ≡ commits))

-- each commit has its cause, where the first one follows this boundary
abbrev pub AreCaused : Geometry → Schedule → List Entry → (previous : ℕ) → List Commit → Type 0
AreCaused g schedule entries previous [] = Unit {0}
AreCaused g schedule entries previous (c ∷ commits) =
    IsCommitCause g schedule entries previous c.boundary c.cause × AreCaused g schedule entries c.boundary commits

abbrev pub place_asked : Cause → Option ℕ
place_asked (cause.Asked place) = Some place
place_asked other = None

-- no two of them name one place of the schedule
abbrev pub AskApart : List Cause → Type 0
AskApart causes = AllPairs (λ p q. p ≢ q) (filter_map place_asked causes)

-- The commits of a history: each holds an entry more than the one before it, and has its cause.
pub record AreRightCommits (g : Geometry) (schedule : Schedule) (h : History) : Type 0 where
  pub rise : RiseWithin 0 (length h.entries) (map (λ c. c.boundary) h.commits)
  pub causes : AreCaused g schedule h.entries 0 h.commits
  pub places : AskApart (map (λ c. c.cause) h.commits)

-- The rolls of a history: each goes to a later transaction, which was committed, and has its cause. Transactions are
-- numbered as the commits are, from 1.
pub record AreRightRolls (g : Geometry) (schedule : Schedule) (h : History) : Type 0 where
  pub rise : RiseWithin 0 (length h.commits) (map (λ r. r.through) h.rolls)
  pub causes : AllByRecursion (λ r. IsRollCause g schedule (length h.commits) r.through r.cause) h.rolls
  pub places : AskApart (map (λ r. r.cause) h.rolls)
