-- Entries that are the same but for what was told of them, with others after them.
use Rattle.std.proofs.Common.{◌≡◌, ◌≤◌, ◌<◌, inl, inr, ℕ, zero, suc, List, [], ◌∷◌, ◌++◌, length, take, slice_get, Option, Some, None, unwrap_or, refl, sym, ap, ◌∙◌, subst, arith}
use Rattle.std.specs.Prelude.{IfSome}
use Rattle.std.specs.List.{cons_option, filter_map, last_or}
use Rattle.lufs_base.specs.declared.geometry.Geometry.{Geometry}
use Rattle.tree_types.specs.declared.credentials.Cred.{Cred}
use Rattle.tree_types.specs.declared.call.Call.{Call}
use Rattle.tree_types.specs.declared.call.Call.TheVariants as call
use Rattle.tree_types.specs.declared.history.Entry.{Entry}
use Rattle.volume_model.specs.Sound.{Tree}
use Rattle.history_model.specs.Lines.{first_caller}
use Rattle.history_model.specs.Histories.{after_call, replayed_on, replay_of, becomes, caller_of, IsRightReply, IsRightAfter, EachAfter, Legal}
use Rattle.history_laws.specs.Additions.{AreMoreEntries}
use Rattle.history_laws.specs.VolumeSteps.{with_told}

abbrev told_as : Entry → Option ℕ → Entry
told_as e told = record e { told = told }

-- the entries are the first ones of the others
abbrev pub AreLike : (old new : List Entry) → Type 0
AreLike [] new = Unit {0}
AreLike (e ∷ old) [] = ⊥
AreLike (e ∷ old) (f ∷ new) = (f ≡ told_as e f.told) × AreLike old new

after_told : (g : Geometry) (moment : ℕ) (tree : Tree) (e : Entry) (told : Option ℕ) (c : Option Call) → after_call g moment tree (told_as e told) c ≡ after_call g moment tree e c
after_told g moment tree e told None = refl
after_told g moment tree e told (Some c) = refl

after_like : (g : Geometry) (moment : ℕ) (tree : Tree) (e f : Entry) → f ≡ told_as e f.told → after_call g moment tree f f.call ≡ after_call g moment tree e e.call
after_like g moment tree e f same = ap (λ (x : Entry). after_call g moment tree x x.call) same ∙ after_told g moment tree e f.told e.call

pub replayed_like : (g : Geometry) (moment : ℕ) (tree : Tree) (old new : List Entry) (b : ℕ) → AreLike old new → b ≤ length old → replayed_on g moment tree (take b new) ≡ replayed_on g moment tree (take b old)
replayed_like g moment tree old new zero like within = refl
replayed_like g moment tree [] new (suc b) like within = absurd (omega (arith, within))
replayed_like g moment tree (e ∷ old) [] (suc b) like within = absurd like
replayed_like g moment tree (e ∷ old) (f ∷ new) (suc b) (here, like) within =
    ap (λ (t : Tree). replayed_on g moment t (take b new)) (after_like g moment tree e f here)
    ∙ replayed_like g moment (after_call g moment tree e e.call) old new b like (omega (arith, within))

pub tree_like : (g : Geometry) (moment : ℕ) (opening : Tree) (old new : List Entry) (b : ℕ) → AreLike old new → b ≤ length old → replay_of g moment opening new b ≡ replay_of g moment opening old b
unfolding replay_of
tree_like g moment opening old new b like within = replayed_like g moment opening old new b like within

pub like_long : (old new : List Entry) → AreLike old new → length old ≤ length new
like_long [] new like = omega arith
like_long (e ∷ old) [] like = absurd like
like_long (e ∷ old) (f ∷ new) (here, like) = omega (arith, like_long old new like)

-- what holds of a new entry at a place holds of an old one there, whatever was told
pub old_like : (P Q : Entry → Type 0) (old new : List Entry) (i : ℕ) → AreLike old new → (i < length old → (e : Entry) (t : Option ℕ) → Q (told_as e t) → P e)
    → IfSome (slice_get new i) Q → IfSome (slice_get old i) P
old_like P Q [] new i like step holds = tt
old_like P Q (e ∷ old) [] i like step holds = absurd like
old_like P Q (e ∷ old) (f ∷ new) zero like step holds = step (omega arith) e f.told (subst Q like.0 holds)
old_like P Q (e ∷ old) (f ∷ new) (suc i) like step holds = old_like P Q old new i like.1 (λ within. step (omega (arith, within))) holds

-- and the other way round
pub new_like : (P : Entry → Type 0) (old new : List Entry) (i : ℕ) → AreLike old new → i < length old → ((e : Entry) (t : Option ℕ) → P e → P (told_as e t))
    → IfSome (slice_get old i) P → IfSome (slice_get new i) P
new_like P [] new i like within step holds = absurd (omega (arith, within))
new_like P (e ∷ old) [] i like within step holds = absurd like
new_like P (e ∷ old) (f ∷ new) zero like within step holds = subst P (sym like.0) (step e f.told holds)
new_like P (e ∷ old) (f ∷ new) (suc i) like within step holds = new_like P old new i like.1 (omega (arith, within)) step holds

-- one entry more
pub like_more : (entries : List Entry) (e : Entry) → AreLike entries (entries ++ e ∷ [])
like_more [] e = tt
like_more (f ∷ entries) e = (refl, like_more entries e)

pub holds_more : (P : Entry → Type 0) (entries : List Entry) (e : Entry) (i : ℕ) → P e → IfSome (slice_get entries i) P → IfSome (slice_get (entries ++ e ∷ []) i) P
holds_more P [] e zero last holds = last
holds_more P [] e (suc i) last holds = tt
holds_more P (f ∷ entries) e zero last holds = holds
holds_more P (f ∷ entries) e (suc i) last holds = holds_more P entries e i last holds

pub adds_one : (n : ℕ) (entries : List Entry) (e : Entry) → e.told ≡ None → AreMoreEntries n entries (entries ++ e ∷ [])
adds_one n [] e untold = (subst (λ (o : Option ℕ). IfSome o (λ t. n < t)) (sym untold) tt, tt)
adds_one n (f ∷ entries) e untold = (record { same = refl; told = inl refl }, adds_one n entries e untold)

-- one told
pub like_told : (n : ℕ) (entries : List Entry) (k : ℕ) → AreLike entries (with_told n entries k)
like_told n [] k = tt
like_told n (e ∷ entries) zero = (refl, all_like entries)
  where
    all_like : (l : List Entry) → AreLike l l
    all_like [] = tt
    all_like (e ∷ l) = (refl, all_like l)
like_told n (e ∷ entries) (suc k) = (refl, like_told n entries k)

pub holds_told : (P : Entry → Type 0) (n : ℕ) (entries : List Entry) (k i : ℕ) → (k ≡ i → (e : Entry) → slice_get entries k ≡ Some e → P e → P (told_as e (Some n)))
    → IfSome (slice_get entries i) P → IfSome (slice_get (with_told n entries k) i) P
holds_told P n [] k i here holds = tt
holds_told P n (e ∷ entries) zero zero here holds = here refl e refl holds
holds_told P n (e ∷ entries) zero (suc i) here holds = holds
holds_told P n (e ∷ entries) (suc k) zero here holds = holds
holds_told P n (e ∷ entries) (suc k) (suc i) here holds = holds_told P n entries k i (λ same. here (ap suc same)) holds

pub tells_one : (m n : ℕ) (entries : List Entry) (k : ℕ) → m < n → IfSome (slice_get entries k) (λ e. e.told ≡ None) → AreMoreEntries m entries (with_told n entries k)
tells_one m n [] k less untold = tt
tells_one m n (e ∷ entries) zero less untold = (record { same = refl; told = inr (untold, less) }, all_same entries)
  where
    all_same : (l : List Entry) → AreMoreEntries m l l
    all_same [] = tt
    all_same (e ∷ l) = (record { same = refl; told = inl refl }, all_same l)
tells_one m n (e ∷ entries) (suc k) less untold = (record { same = refl; told = inl refl }, tells_one m n entries k less untold)

-- the entries are the others, whatever was told
abbrev pub AreSame : (old new : List Entry) → Type 0
AreSame [] [] = Unit {0}
AreSame [] (f ∷ new) = ⊥
AreSame (e ∷ old) [] = ⊥
AreSame (e ∷ old) (f ∷ new) = (f ≡ told_as e f.told) × AreSame old new

all_same : (l : List Entry) → AreSame l l
all_same [] = tt
all_same (e ∷ l) = (refl, all_same l)

same_one_more : (old new : List Entry) (e f : Entry) → f ≡ told_as e f.told → AreSame old new → AreSame (old ++ e ∷ []) (new ++ f ∷ [])
same_one_more [] [] e f last same = (last, tt)
same_one_more [] (y ∷ new) e f last same = absurd same
same_one_more (x ∷ old) [] e f last same = absurd same
same_one_more (x ∷ old) (y ∷ new) e f last (here, same) = (here, same_one_more old new e f last same)

same_told : (n : ℕ) (entries : List Entry) (k : ℕ) → AreSame entries (with_told n entries k)
same_told n [] k = tt
same_told n (e ∷ entries) zero = (refl, all_same entries)
same_told n (e ∷ entries) (suc k) = (refl, same_told n entries k)

becomes_told : (stream : ℕ) (e : Entry) (t : Option ℕ) (c : Option Call) → becomes stream (told_as e t) c ≡ becomes stream e c
becomes_told stream e t None = refl
becomes_told stream e t (Some (call.Become uid gid)) = refl
becomes_told stream e t (Some other) = refl

becoming_same : (stream : ℕ) (old new : List Entry) → AreSame old new → filter_map (λ e. becomes stream e e.call) new ≡ filter_map (λ e. becomes stream e e.call) old
becoming_same stream [] [] same = refl
becoming_same stream [] (f ∷ new) same = absurd same
becoming_same stream (e ∷ old) [] same = absurd same
becoming_same stream (e ∷ old) (f ∷ new) (here, same) =
    ap (λ (o : Option Cred). cons_option o (filter_map (λ (x : Entry). becomes stream x x.call) new)) (ap (λ (x : Entry). becomes stream x x.call) here ∙ becomes_told stream e f.told e.call)
    ∙ ap (cons_option (becomes stream e e.call)) (becoming_same stream old new same)

caller_same : (stream : ℕ) (old new : List Entry) → AreSame old new → caller_of stream new ≡ caller_of stream old
caller_same stream old new same = ap (λ (l : List Cred). unwrap_or (last_or None l) first_caller) (becoming_same stream old new same)

module _ (g : Geometry) (moment : ℕ) where
  on_same : (tree : Tree) (old new : List Entry) → AreSame old new → replayed_on g moment tree new ≡ replayed_on g moment tree old
  on_same tree [] [] same = refl
  on_same tree [] (f ∷ new) same = absurd same
  on_same tree (e ∷ old) [] same = absurd same
  on_same tree (e ∷ old) (f ∷ new) (here, same) =
      ap (λ (t : Tree). replayed_on g moment t new) (after_like g moment tree e f here) ∙ on_same (after_call g moment tree e e.call) old new same

  module _ (opening : Tree) where
    right_told : (before : List Entry) (e : Entry) (t : Option ℕ) → IsRightAfter g moment opening before e → IsRightAfter g moment opening before (told_as e t)
    right_told before e t right = record { cred = right.cred; reply = by_call e.call right.reply; sync = right.sync }
      where
        by_call : (c : Option Call) → IsRightReply g (replayed_on g moment opening before) e c → IsRightReply g (replayed_on g moment opening before) (told_as e t) c
        by_call None is = record { reply = is.reply; made = is.made }
        by_call (Some c) is = record { call = is.call; reply = is.reply; made = is.made; usable = is.usable }

    right_after : (old new : List Entry) (e : Entry) → AreSame old new → IsRightAfter g moment opening old e → IsRightAfter g moment opening new e
    right_after old new e same right = record {
      cred = right.cred ∙ sym (caller_same e.stream old new same);
      reply = subst (λ (t : Tree). IsRightReply g t e e.call) (sym (on_same opening old new same)) right.reply;
      sync = right.sync;
    }

    each_same : (before now old new : List Entry) → AreSame before now → AreSame old new → EachAfter (IsRightAfter g moment opening) before old → EachAfter (IsRightAfter g moment opening) now new
    each_same before now [] [] same like each = tt
    each_same before now [] (f ∷ new) same like each = absurd like
    each_same before now (e ∷ old) [] same like each = absurd like
    each_same before now (e ∷ old) (f ∷ new) same (here, like) (right, each) = (
      subst (IsRightAfter g moment opening now) (sym here) (right_told now e f.told (right_after before now e same right)),
      each_same (before ++ e ∷ []) (now ++ f ∷ []) old new (same_one_more before now e f here same) like each,
    )

    pub legal_told : (n : ℕ) (entries : List Entry) (k : ℕ) → Legal g moment opening entries → Legal g moment opening (with_told n entries k)
    unfolding Legal
    legal_told n entries k legal = each_same [] [] entries (with_told n entries k) tt (same_told n entries k) legal
