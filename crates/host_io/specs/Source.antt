-- What a source tells of itself, and what is taken from it.
use Rattle.std.specs.Prelude.{◌≡◌, ◌≢◌, ◌≤◌, ◌<◌, ℕ, ◌+◌, List, [], length, take, drop, Option, option_map, Result, Err, OnErr, IfOk, IfSome}
use Rattle.lufs_base.specs.Causes.{counted}
use Rattle.host_io.specs.declared.whole.ReadError.{ReadError}
use Rattle.host_io.specs.declared.whole.ReadError.TheVariants.{Fault, TooLong}

-- What a source tells of itself at one moment.
pub record SourceTold : Type 0 where
  -- the bytes that it has left, where it tells them
  pub left : Option (List ℕ)
  -- how many takes failed
  pub faults : ℕ

-- the first n bytes of these are at the front of the buffer; none only where there are none
pub record GivesFirst (n : ℕ) (buffer bytes : List ℕ) : Type 0 where
  pub within : n ≤ length bytes
  pub given : take n buffer ≡ take n bytes
  pub end : n ≡ 0 → bytes ≡ []

-- the first bytes of what is left are taken, or at an error none
pub record Takes {E : Type 0} (result : Result ℕ E) (buffer : List ℕ) (old new : SourceTold) : Type 0 where
  pub room : IfOk result (λ n. n ≤ length buffer)
  pub given : IfOk result (λ n. IfSome old.left (GivesFirst n buffer))
  pub ok : IfOk result (λ n. new ≡ record old { left = option_map (drop n) old.left })
  pub err : OnErr result (new ≡ record old { faults = counted old.faults })

-- A source read whole, where no more bytes than `limit` may be read: what it had left was read; or that is too much, and
-- one byte past the limit was taken; or a take failed, which was the last.
pub record ReadsWhole (limit : ℕ) (result : Result (List ℕ) ReadError) (old new : SourceTold) : Type 0 where
  pub bytes : IfOk result (λ bytes. IfSome old.left (λ left. bytes ≡ left))
  pub within : IfOk result (λ bytes. length bytes ≤ limit)
  pub end : IfOk result (λ bytes. new.left ≡ option_map (λ left. []) old.left)
  pub too_long : result ≡ Err TooLong → IfSome old.left (λ left. limit < length left)
  pub past : result ≡ Err TooLong → new.left ≡ option_map (drop (limit + 1)) old.left
  pub fault : result ≡ Err Fault → new.faults ≡ counted old.faults
  pub no_fault : result ≢ Err Fault → new.faults ≡ old.faults
