-- Histories that grow, and moments one after the other.
use Rattle.std.proofs.Common.{◌≡◌, ◌≤◌, ◌<◌, ◌↔◌, ℕ, zero, suc, ◌+◌, inl, inr, false, List, [], ◌∷◌, ◌++◌, length, take, refl, sym, ap, subst, arith, append_assoc}
use Rattle.std.specs.Prelude.{IfSome}
use Rattle.std.proofs.lemmas.List.{append-nil, take-append-le}
use Rattle.std.proofs.lemmas.Bool.Decides.{leb_tells}
use Rattle.lufs_base.specs.declared.geometry.Geometry.{Geometry}
use Rattle.tree_types.specs.declared.history.Entry.{Entry}
use Rattle.volume_model.specs.Crash.{Record}
use Rattle.volume_model.specs.Sound.{Tree}
use Rattle.history_model.specs.Histories.{History, entry_at, replayed_on, replay_of, after_call, EachAfter, Legal, IsRightAfter}
use Rattle.history_model.specs.Touched.{touches_byte, tree_before, Settled}
use Rattle.history_model.specs.CrashSafety.{IsCrashSafeAt, CrashSafe}

pub replay-append : (g : Geometry) (moment : ℕ) (opening : Tree) (entries more : List Entry) (k : ℕ) → k ≤ length entries
    → replay_of g moment opening (entries ++ more) k ≡ replay_of g moment opening entries k
unfolding replay_of
replay-append g moment opening entries more k within = ap (replayed_on g moment opening) (take-append-le k entries more within)

take_whole : (entries : List Entry) → take (length entries) entries ≡ entries
take_whole [] = refl
take_whole (e ∷ entries) = ap (λ (es : List Entry). e ∷ es) (take_whole entries)

pub replay-whole : (g : Geometry) (moment : ℕ) (opening : Tree) (entries : List Entry)
    → replay_of g moment opening entries (length entries) ≡ replayed_on g moment opening entries
unfolding replay_of
replay-whole g moment opening entries = ap (replayed_on g moment opening) (take_whole entries)

pub replayed-last : (g : Geometry) (moment : ℕ) (tree : Tree) (entries : List Entry) (e : Entry)
    → replayed_on g moment tree (entries ++ e ∷ []) ≡ after_call g moment (replayed_on g moment tree entries) e e.call
replayed-last g moment tree [] e = refl
replayed-last g moment tree (x ∷ entries) e = replayed-last g moment (after_call g moment tree x x.call) entries e

module _ (P : List Entry → Entry → Type 0) (e : Entry) where
  each_to : (before entries : List Entry) → EachAfter P before (entries ++ e ∷ []) → EachAfter P before entries × P (before ++ entries) e
  each_to before [] (here, rest) = (tt, subst (λ (es : List Entry). P es e) (sym (append-nil before)) here)
  each_to before (x ∷ entries) (here, rest) =
      let more = each_to (before ++ x ∷ []) entries rest in
      ((here, more.0), subst (λ (es : List Entry). P es e) (append_assoc before (x ∷ []) entries) more.1)

  each_from : (before entries : List Entry) → EachAfter P before entries → P (before ++ entries) e → EachAfter P before (entries ++ e ∷ [])
  each_from before [] each here = (subst (λ (es : List Entry). P es e) (append-nil before) here, tt)
  each_from before (x ∷ entries) (first, rest) here =
      (first, each_from (before ++ x ∷ []) entries rest (subst (λ (es : List Entry). P es e) (sym (append_assoc before (x ∷ []) entries)) here))

pub legal-last : (g : Geometry) (moment : ℕ) (opening : Tree) (entries : List Entry) (e : Entry)
    → Legal g moment opening (entries ++ e ∷ []) ↔ (Legal g moment opening entries × IsRightAfter g moment opening entries e)
unfolding Legal
legal-last g moment opening entries e =
    (each_to (IsRightAfter g moment opening) e [] entries, (λ (legal, here). each_from (IsRightAfter g moment opening) e [] entries legal here))

pub safe-one : (g : Geometry) (moment : ℕ) (opening : Tree) (h : History) (r : Record) (n : ℕ)
    → IsCrashSafeAt g moment opening h r n ↔ CrashSafe g moment opening h r n n
safe-one g moment opening h r n = (
  (λ safe. λ m low high. let same : n ≡ m = omega arith in subst (IsCrashSafeAt g moment opening h r) same safe),
  (λ safe. safe n (omega arith) (omega arith)),
)

pub safe-join : (g : Geometry) (moment : ℕ) (opening : Tree) (h : History) (r : Record) (first middle next last : ℕ) → next ≤ middle + 1
    → CrashSafe g moment opening h r first middle → CrashSafe g moment opening h r next last → CrashSafe g moment opening h r first last
safe-join g moment opening h r first middle next last meet before after n low high =
    elim (leb_tells n middle) [
      | inl (_, within) ↦ before n low within
      | inr (_, past) ↦ after n (omega arith) high
    ]

-- an empty history has no entry
no_entry : (Q : Entry → Type 0) (i : ℕ) → IfSome (entry_at [] i) Q
no_entry Q zero = tt
no_entry Q (suc i) = tt

pub settled-opening : (g : Geometry) (moment : ℕ) (opening : Tree) (n ino p : ℕ) → Settled g moment opening [] n ino p
settled-opening g moment opening n ino p = (
  0,
  record {
    acknowledged = inl refl;
    untouched = λ i past. no_entry (λ e. e.start < n → touches_byte (tree_before g moment opening [] i) e ino p ≡ false) i;
  },
)
