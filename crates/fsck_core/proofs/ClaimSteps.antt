-- What one more claim changes.
use Rattle.std.proofs.Common.{◌≡◌, ◌≢◌, ℕ, ◌+◌, ◌*◌, ◌/◌, ◌%◌, ◌^◌, ◌<◌, ◌≤◌, min, eqb, slice_index, None, nat_le, Bool, true, false, ◌==◌, ◌||◌, List, [], ◌∷◌, ◌++◌, length, Option, Some, inl, inr, refl, sym, ap, ◌∙◌, length-append, arith}
use Rattle.std.proofs.lemmas.Bool.{cases_eq, eq-eqb, ne_eqb, le-leb, lt-leb}
use Rattle.std.proofs.lemmas.List.Folds.{list_any-append}
use Rattle.std.proofs.lemmas.Nat.Bits.{bit_at-zero}
use Rattle.std.specs.List.{find, list_any, range_with_len}
use Rattle.std.specs.Option.{option_map_or}
use Rattle.volume_model.specs.Format.{bit_at, HasBit}
use Rattle.fsck_core.specs.declared.claims.Claims.{Claims}
use Rattle.fsck_core.specs.Claimed.{HasClaimed, times}
use Rattle.fsck_core.proofs.FirstTwice.{times-push_same, times-push_other, times-there, times-none, find_alike, find_lower}

or_right_false : (there : Bool) → (there || (false || false)) ≡ there
or_right_false true = refl
or_right_false false = refl

or_right_true : (there : Bool) → (there || (true || false)) ≡ true
or_right_true true = refl
or_right_true false = refl

-- whether a block is among these and b
there_other : (b c : ℕ) (blocks : List ℕ) → c ≢ b → list_any (λ a. a == c) (blocks ++ b ∷ []) ≡ list_any (λ a. a == c) blocks
there_other b c blocks apart =
    list_any-append (λ a. a == c) blocks (b ∷ [])
    ∙ ap (λ (t : Bool). list_any (λ a. a == c) blocks || (t || false)) (ne_eqb b c (λ same. apart (sym same))) ∙ or_right_false _

there_same : (b : ℕ) (blocks : List ℕ) → list_any (λ a. a == b) (blocks ++ b ∷ []) ≡ true
there_same b blocks =
    list_any-append (λ a. a == b) blocks (b ∷ []) ∙ ap (λ (t : Bool). list_any (λ a. a == b) blocks || (t || false)) (eq-eqb b b refl) ∙ or_right_true _

twice_other : (b c : ℕ) (blocks : List ℕ) → c ≢ b → nat_le 2 (times c (blocks ++ b ∷ [])) ≡ nat_le 2 (times c blocks)
twice_other b c blocks apart = ap (nat_le 2) (times-push_other b c blocks apart)

-- a block that was claimed is claimed again
pub claimed_again : (total b : ℕ) (blocks : List ℕ) (old new : Claims) → b < total → HasClaimed total blocks old → bit_at old.bits.items b ≡ true
    → new.bits.items ≡ old.bits.items → new.count ≡ old.count + 1 → new.twice ≡ Some (option_map_or (λ a. min a b) old.twice b)
    → HasClaimed total (blocks ++ b ∷ []) new
claimed_again total b blocks old new within has was bits count twice =
    let there : list_any (λ a. a == b) blocks ≡ true = sym (has.each b within) ∙ was in
    let least = times-there b blocks there in
    let more : 2 ≤ times b (blocks ++ b ∷ []) = omega (arith, times-push_same b blocks) in
    let found =
    find_lower (λ c. nat_le 2 (times c blocks)) (λ c. nat_le 2 (times c (blocks ++ b ∷ []))) b (λ c apart. twice_other b c blocks apart)
    (le-leb 2 (times b (blocks ++ b ∷ [])) more) 0 total (omega arith) (omega arith) in
    record {
      room = omega (arith, has.room, ap length bits);
      each = λ c below. elim (cases_eq c b) [
        | inl same ↦
            ap (λ (l : List ℕ). bit_at l c) bits ∙ ap (bit_at old.bits.items) same ∙ was ∙ sym (there_same b blocks)
            ∙ ap (λ (k : ℕ). list_any (λ a. a == k) (blocks ++ b ∷ [])) (sym same)
        | inr apart ↦ ap (λ (l : List ℕ). bit_at l c) bits ∙ has.each c below ∙ sym (there_other b c blocks apart)
      ];
      count = omega (arith, has.count, length-append blocks (b ∷ []));
      twice = twice ∙ ap (λ (o : Option ℕ). Some (option_map_or (λ a. min a b) o b)) has.twice ∙ sym found;
    }

-- a block that wasn't claimed is claimed
pub claimed_first : (total b : ℕ) (blocks : List ℕ) (old new : Claims) → b < total → HasClaimed total blocks old → bit_at old.bits.items b ≡ false
    → HasBit b true old.bits.items new.bits.items → length new.bits.items ≡ length old.bits.items → new.count ≡ old.count + 1 → new.twice ≡ old.twice
    → HasClaimed total (blocks ++ b ∷ []) new
claimed_first total b blocks old new within has was put size count twice =
    let there : list_any (λ a. a == b) blocks ≡ false = sym (has.each b within) ∙ was in
    let none = times-none b blocks there in
    let once : times b (blocks ++ b ∷ []) < 2 = omega (arith, times-push_same b blocks) in
    let before : times b blocks < 2 = omega arith in
    let found =
    find_alike (λ c. nat_le 2 (times c blocks)) (λ c. nat_le 2 (times c (blocks ++ b ∷ []))) (range_with_len 0 total) (λ c. elim (cases_eq c b) [
      | inl same ↦
          ap (λ (k : ℕ). nat_le 2 (times k (blocks ++ b ∷ []))) same ∙ lt-leb 2 (times b (blocks ++ b ∷ [])) once ∙ sym (lt-leb 2 (times b blocks) before)
          ∙ ap (λ (k : ℕ). nat_le 2 (times k blocks)) (sym same)
      | inr apart ↦ twice_other b c blocks apart
    ]) in
    record {
      room = omega (arith, has.room, size);
      each = λ c below. elim (cases_eq c b) [
        | inl same ↦
            ap (bit_at new.bits.items) same ∙ put.bit ∙ sym (there_same b blocks) ∙ ap (λ (k : ℕ). list_any (λ a. a == k) (blocks ++ b ∷ [])) (sym same)
        | inr apart ↦ put.others c apart ∙ has.each c below ∙ sym (there_other b c blocks apart)
      ];
      count = omega (arith, has.count, length-append blocks (b ∷ []));
      twice = twice ∙ has.twice ∙ sym found;
    }

none_twice : (numbers : List ℕ) → None ≡ find (λ b. nat_le 2 (times b [])) numbers
none_twice [] = refl
none_twice (b ∷ numbers) = none_twice numbers

-- bits of zeros, of a volume where nothing is claimed
pub claimed_none : (total : ℕ) (c : Claims) → total < 8 * length c.bits.items → ((i : ℕ) → slice_index c.bits.items i ≡ 0) → c.count ≡ 0 → c.twice ≡ None
    → HasClaimed total [] c
claimed_none total c room zeros count twice = record {
  room = room;
  each = λ b below.
      ap (λ (k : ℕ). eqb (k / 2 ^ (b % 8) % 2) 1) (zeros (b / 8)) ∙ ap (λ (k : ℕ). eqb k 1) (bit_at-zero (b % 8));
  count = count;
  twice = twice ∙ none_twice (range_with_len 0 total);
}
