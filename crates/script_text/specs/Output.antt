-- What an output holds, and what a put adds to it.
use Rattle.std.specs.Prelude.{◌≡◌, ◌≤◌, ◌<◌, ℕ, ◌+◌, Bool, true, List, ◌++◌, length}

-- The bytes that were put, whether none is missing, and a number of bytes: fewer always find room.
pub record Told : Type 0 where
  pub text : List ℕ
  pub whole : Bool
  pub room : ℕ

-- The bytes are put after those that are there. An output that misses bytes goes on missing them; none is missed that finds
-- room.
pub record Puts (bytes : List ℕ) (old new : Told) : Type 0 where
  pub stays : new.whole ≡ true → old.whole ≡ true
  pub text : new.whole ≡ true → new.text ≡ old.text ++ bytes
  pub sure : old.whole ≡ true → length bytes < old.room → new.whole ≡ true
  pub room : new.whole ≡ true → old.room ≤ new.room + length bytes
