-- Which blocks of files the four readings name: none, and at the end block 38.
use Rattle.std.proofs.Common.{◌≡◌, ℕ, zero, suc, false, ◌&&◌, not, [], ◌∷◌, replicate, Option, Some, None, refl, sym, ap, ◌∙◌, arith}
use Rattle.std.specs.Prelude.{nat_lt, slice_get, slice_index, option_and_then, ◌==◌}
use Rattle.std.proofs.lemmas.Bool.{cond-false, le-ltb, and_left}
use Rattle.volume_model.specs.Sound.{Unused, used_of, claims_of}
use Rattle.volume_model.specs.Worked.{smallest}
use Rattle.journal_model.specs.BlockRoles.{Unclaimed}
use Rattle.history_laws.specs.Named.{block_at_index, named_block}
use Rattle.history_laws.specs.VolumeRoles.{role_of}
use Rattle.worked_session.specs.FourChanges.{file_three, used_with, new_reading, reading_of_directory, reading_of_file, reading_of_letters}
use Rattle.worked_session.proofs.FourTrees.{unused_past}

pub clash : {X : Type 0} (o : Option ℕ) (b : ℕ) → o ≡ None → o ≡ Some b → X
clash o b none some = absurd (let is : None ≡ Some b = sym none ∙ some in cc)

-- past the inodes in use nothing is named
past_names : (n i index : ℕ) → option_and_then (λ u. block_at_index u index) (option_and_then used_of (slice_get (replicate n Unused) i)) ≡ None
past_names n i index = ap (option_and_then (λ u. block_at_index u index)) (unused_past n i)

pub new_names : (ino index : ℕ) → named_block new_reading ino index ≡ None
new_names zero index = refl
new_names (suc zero) index = refl
new_names (suc (suc zero)) index = refl
new_names (suc (suc (suc i))) index = past_names 29 i index

pub directory_names : (ino index : ℕ) → named_block reading_of_directory ino index ≡ None
directory_names zero index = refl
directory_names (suc zero) index = refl
directory_names (suc (suc zero)) index = refl
directory_names (suc (suc (suc zero))) index = refl
directory_names (suc (suc (suc (suc i)))) index = past_names 28 i index

below_none : (index : ℕ) → nat_lt index 0 ≡ false
below_none index = le-ltb index 0 (omega arith)

pub file_names : (ino index : ℕ) → named_block reading_of_file ino index ≡ None
file_names zero index = refl
file_names (suc zero) index = refl
file_names (suc (suc zero)) index = refl
file_names (suc (suc (suc zero))) index =
    let u = used_with (file_three 0 []) [] in
    cond-false (nat_lt index 0 && not (slice_index u.numbers index == 0)) (Some (slice_index u.numbers index)) None (and_left (nat_lt index 0) (not (slice_index u.numbers index == 0)) (below_none index))
file_names (suc (suc (suc (suc i)))) index = past_names 28 i index

pub record IsLettered (ino index b : ℕ) : Type 0 where
  pub file : ino ≡ 3
  pub first : index ≡ 0
  pub block : b ≡ 38

some_is : {a b : ℕ} → Some a ≡ Some b → a ≡ b
some_is is = cc

pub letters_names : (ino index b : ℕ) → named_block reading_of_letters ino index ≡ Some b → IsLettered ino index b
letters_names zero index b is = clash None b refl is
letters_names (suc zero) index b is = clash None b refl is
letters_names (suc (suc zero)) index b is = clash None b refl is
letters_names (suc (suc (suc zero))) zero b is = record { file = refl; first = refl; block = sym (some_is is) }
letters_names (suc (suc (suc zero))) (suc index) b is =
    let u = used_with (file_three 3 (38 ∷ [])) [] in
    let past : nat_lt (suc index) 1 ≡ false = le-ltb (suc index) 1 (omega arith) in
    let none : named_block reading_of_letters 3 (suc index) ≡ None =
    cond-false (nat_lt (suc index) 1 && not (slice_index u.numbers (suc index) == 0)) (Some (slice_index u.numbers (suc index))) None (and_left (nat_lt (suc index) 1) (not (slice_index u.numbers (suc index) == 0)) past) in
    clash (named_block reading_of_letters 3 (suc index)) b none is
letters_names (suc (suc (suc (suc i)))) index b is = clash (named_block reading_of_letters (suc (suc (suc (suc i)))) index) b (past_names 28 i index) is

pub free_before_letters : role_of smallest reading_of_file 38 ≡ Unclaimed
unfolding claims_of role_of
free_before_letters = refl
