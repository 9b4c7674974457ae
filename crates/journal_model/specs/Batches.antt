-- What a roll holds, what it has brought home, and which blocks may be given out.
use Rattle.std.specs.Prelude.{ℕ, Bool, true, false, not, ◌&&◌, List, [], Option, Some, None}
use Rattle.volume_model.specs.Sound.{is_among}
use Rattle.journal_model.specs.Journals.{Batch, Roll, Idle, Writing, Home, Trimmed, Owner, Live, Released, Freed, Journal}

abbrev pub batch_of : Roll → Option Batch
batch_of Idle = None
batch_of (Writing batch) = Some batch
batch_of (Home batch) = Some batch
batch_of (Trimmed batch) = Some batch

abbrev pub held_by : Option Batch → List ℕ
held_by None = []
held_by (Some batch) = batch.held

-- block b is held by a batch
abbrev pub is_held : Journal → ℕ → Bool
is_held j b = is_among b (held_by (batch_of j.roll))

-- how many of the oldest transactions each image that a crash leaves has at home
abbrev pub home_count : Roll → ℕ
home_count Idle = 0
home_count (Writing batch) = 0
home_count (Home batch) = batch.count
home_count (Trimmed batch) = batch.count

-- how many of them the newest header leaves out
abbrev pub trimmed_count : Roll → ℕ
trimmed_count Idle = 0
trimmed_count (Writing batch) = 0
trimmed_count (Home batch) = 0
trimmed_count (Trimmed batch) = batch.count

abbrev pub is_released_owner : Owner → Bool
is_released_owner Live = false
is_released_owner Released = true
is_released_owner (Freed tid) = false

abbrev pub is_freed_owner : Owner → Bool
is_freed_owner Live = false
is_freed_owner Released = false
is_freed_owner (Freed tid) = true

-- block b may be given out
abbrev pub is_released : Journal → ℕ → Bool
is_released j b = is_released_owner (j.owners b) && not (is_held j b)
