-- Texts that are put one after the other.
use Rattle.std.proofs.Common.{◌≡◌, ℕ, ◌+◌, List, [], ◌∷◌, ◌++◌, length, take, Option, Some, None, Result, Ok, Err, refl, sym, ◌∙◌, ap, subst, arith, append_assoc}
use Rattle.std.specs.Prelude.{min, option_map, IsErr, codes}
use Rattle.std.proofs.Math.Seq.{take-append-add}
use Rattle.std.proofs.lemmas.List.{take-append-le, take_min}
use Rattle.std.specs.Fmt.{decimal}
use Rattle.lufs_base.specs.Causes.{counted}
use Rattle.volume_model.specs.declared.finding.Counts.{Counts}
use Rattle.volume_model.specs.declared.finding.Kind.{Kind}
use Rattle.volume_model.specs.declared.finding.Verdict.TheVariants.{Clean, Finding}
use Rattle.volume_model.specs.Texts.{field, verdict_text, word_of}
use Rattle.host_io.specs.Outside.{SinkTold, Puts}
use Rattle.endings.specs.Lines.{named_line, counted_line}

appended_twice : (a b : List ℕ) (held : Option (List ℕ)) → option_map (λ h. h ++ b) (option_map (λ h. h ++ a) held) ≡ option_map (λ h. h ++ (a ++ b)) held
appended_twice a b None = refl
appended_twice a b (Some h) = ap (λ (l : List ℕ). Some l) (append_assoc h a b)

-- the first bytes of one text are the first of both
front_of_first : (a b : List ℕ) (n : ℕ) → (k : ℕ) × (take k (a ++ b) ≡ take n a)
front_of_first a b n = (min n (length a), take-append-le (min n (length a)) a b (omega arith) ∙ take_min n a)

pub puts_both : {T E : Type 0} (a b : List ℕ) (first : T) (result : Result T E) (old mid new : SinkTold) → Puts {E = E} a (Ok first) old mid → Puts b result mid new → Puts (a ++ b) result old new
puts_both a b first (Ok x) old mid new was is = record {
  ok = is.ok ∙ ap (λ (k : SinkTold). let new : SinkTold = record k { held = option_map (λ h. h ++ b) k.held } in new) was.ok ∙ ap (λ (held : Option (List ℕ)). let new : SinkTold = record old { held = held } in new) (appended_twice a b old.held);
  err = tt;
}
puts_both a b first (Err e) old mid new was is = record {
  ok = tt;
  err =
      let n = is.err.0 in (
        length a + n,
        is.err.1
            ∙ ap (λ (k : SinkTold). let new : SinkTold = record { held = option_map (λ h. h ++ take n b) k.held; faults = counted k.faults } in new) was.ok
            ∙ ap (λ (held : Option (List ℕ)). let new : SinkTold = record { held = held; faults = counted old.faults } in new) (appended_twice a (take n b) old.held ∙ ap (λ (l : List ℕ). option_map (λ h. h ++ l) old.held) (sym (take-append-add a b n))),
      );
}

pub puts_first : {T U E F : Type 0} (a b : List ℕ) (e : E) (f : F) (old new : SinkTold) → Puts {T = T} a (Err e) old new → Puts {T = U} (a ++ b) (Err f) old new
puts_first a b e f old new is = record {
  ok = tt;
  err =
      let k = front_of_first a b is.err.0 in
      (k.0, is.err.1 ∙ ap (λ (l : List ℕ). let new : SinkTold = record { held = option_map (λ h. h ++ l) old.held; faults = counted old.faults } in new) (sym k.1));
}

pub puts_as : {T E : Type 0} (a b : List ℕ) (result : Result T E) (old new : SinkTold) → a ≡ b → Puts a result old new → Puts b result old new
puts_as a b result old new same is = subst (λ (l : List ℕ). Puts l result old new) same is

-- a first text that was cut cuts both
pub puts_cut : {T U E F : Type 0} (a b : List ℕ) (e : E) (result : Result U F) (old new : SinkTold) → IsErr result → Puts {T = T} a (Err e) old new → Puts (a ++ b) result old new
puts_cut a b e (Ok x) old new fails is = absurd (cc (fails))
puts_cut a b e (Err f) old new fails is = puts_first a b e f old new is

-- words, a blank, a name and the end of the line
pub line_in_two : (words name : List ℕ) → (words ++ 32 ∷ []) ++ (name ++ 10 ∷ []) ≡ named_line words name
line_in_two words name = append_assoc words (32 ∷ []) (name ++ 10 ∷ [])

-- words, a blank, a name, a blank, a number and the end of the line
pub line_in_three : (words name number : List ℕ) → ((words ++ 32 ∷ []) ++ (name ++ 32 ∷ [])) ++ (number ++ 10 ∷ []) ≡ named_line words (name ++ (32 ∷ number))
line_in_three words name number =
    append_assoc (words ++ 32 ∷ []) (name ++ 32 ∷ []) (number ++ 10 ∷ [])
    ∙ append_assoc words (32 ∷ []) ((name ++ 32 ∷ []) ++ (number ++ 10 ∷ []))
    ∙ ap (λ (l : List ℕ). words ++ (32 ∷ l)) (append_assoc name (32 ∷ []) (number ++ 10 ∷ []) ∙ sym (append_assoc name (32 ∷ number) (10 ∷ [])))

-- words, a blank, a name in two parts, and the end of the line
pub line_of_two : (words name suffix : List ℕ) → ((words ++ 32 ∷ []) ++ (name ++ suffix)) ++ 10 ∷ [] ≡ named_line words (name ++ suffix)
line_of_two words name suffix = append_assoc (words ++ 32 ∷ []) (name ++ suffix) (10 ∷ []) ∙ append_assoc words (32 ∷ []) ((name ++ suffix) ++ 10 ∷ [])

-- words, a blank and a number
pub field_in_two : (words : List ℕ) (number : ℕ) → (words ++ 32 ∷ []) ++ decimal number ≡ field words number
field_in_two words number = append_assoc words (32 ∷ []) (decimal number)

-- the line of a sound volume: the counts, and the end of the line
pub counts_in_four : (counts : Counts)
    → ((field (codes "clean inodes") counts.inodes ++ field (codes " blocks") counts.blocks) ++ field (codes " free") counts.free) ++ 10 ∷ [] ≡ verdict_text (Clean counts)
unfolding verdict_text
counts_in_four counts =
    let inodes = field (codes "clean inodes") counts.inodes in
    let blocks = field (codes " blocks") counts.blocks in
    let free = field (codes " free") counts.free in
    append_assoc (inodes ++ blocks) free (10 ∷ []) ∙ append_assoc inodes blocks (free ++ 10 ∷ [])

-- the line of a finding
pub finding_line : (kind : Kind) (number : ℕ) → counted_line (codes "unsound") (word_of kind) number ≡ verdict_text (Finding kind number)
unfolding verdict_text
finding_line kind number = refl
