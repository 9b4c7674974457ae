-- Names with suffixes, and tests that no two names are the same.
use Rattle.std.proofs.Common.{◌≡◌, ◌≢◌, ◌<◌, ℕ, ◌+◌, List, [], ◌∷◌, ◌++◌, Bool, true, false, refl, sym, ◌∙◌, ap, arith, length-append}
use Rattle.std.specs.Prelude.{Option, None, Some, length, drop, unwrap_or, not, ◌&&◌, ◌||◌, bytes_eq, codes}
use Rattle.std.specs.List.{last_or}
use Rattle.std.proofs.lemmas.Bool.{false_from_ne_true}
use Rattle.std.proofs.lemmas.Slice.Eq.{bytes_eq-Decides}
use Rattle.std.proofs.Math.Seq.{drop-append_seam}
use Rattle.std.specs.Prelude.{String}
use Rattle.std.specs.declared.alloc.Global.{Global}
use Rattle.lufs_top.specs.Words.{Command, command_of, all_differ, session_names, standard_output}
use Rattle.drive_command.specs.Ending.{history_name, out_name}

differ_test : (a b : List ℕ) → a ≢ b → not (bytes_eq a b) ≡ true
differ_test a b other = ap not (false_from_ne_true (bytes_eq a b) (λ same. other ((bytes_eq-Decides a b).0 same)))

shorter : (a b : List ℕ) → length a < length b → a ≢ b
shorter a b less same = let lengths = ap length same in omega (arith, lengths, less)

-- the last of a list is that of what was put after another
last-append : (o : Option ℕ) (a b : List ℕ) (x : ℕ) → last_or o (a ++ x ∷ b) ≡ last_or (Some x) b
last-append o [] b x = refl
last-append o (y ∷ a) b x = last-append (Some y) a b x

pub no_history_is_output : (volume : List ℕ) → standard_output ≢ history_name volume
no_history_is_output volume = shorter _ _ (omega (arith, length-append volume (codes ".history")))

pub no_replies_are_output : (script : List ℕ) → standard_output ≢ out_name script
no_replies_are_output script = shorter _ _ (omega (arith, length-append script (codes ".out")))

-- the one ends in y, the other in t
pub no_history_is_replies : (volume script : List ℕ) → history_name volume ≢ out_name script
no_history_is_replies volume script same =
    let ends : 121 ≡ 116 = ap (λ (o : Option ℕ). unwrap_or o 0) (sym (last-append None volume _ _) ∙ ap (last_or None) same ∙ last-append None script _ _) in
    omega (arith, ends)

no_volume_is_history : (volume : List ℕ) → volume ≢ history_name volume
no_volume_is_history volume = shorter _ _ (omega (arith, length-append volume (codes ".history")))

no_script_is_replies : (script : List ℕ) → script ≢ out_name script
no_script_is_replies script = shorter _ _ (omega (arith, length-append script (codes ".out")))

-- the tests of ten pairs, with those that always pass
ten_tests : (ov os oc vs vc sc sh ch vo so : Bool)
    → ((ov && (os && oc)) && ((vs && (vc && sc)) && ((sh && ch) && (vo && so))))
    ≡ (ov && (os && (oc && (true && (true && true))))) && ((vs && (vc && (true && (vo && true)))) && ((sc && (sh && (so && true))) && ((ch && (true && true)) && ((true && true) && (true && true)))))
ten_tests false os oc vs vc sc sh ch vo so = refl
ten_tests true false oc vs vc sc sh ch vo so = refl
ten_tests true true false vs vc sc sh ch vo so = refl
ten_tests true true true false vc sc sh ch vo so = refl
ten_tests true true true true false sc sh ch vo so = refl
ten_tests true true true true true false sh ch false so = refl
ten_tests true true true true true false sh ch true so = refl
ten_tests true true true true true true false ch false so = refl
ten_tests true true true true true true false ch true so = refl
ten_tests true true true true true true true false false so = refl
ten_tests true true true true true true true false true false = refl
ten_tests true true true true true true true false true true = refl
ten_tests true true true true true true true true false so = refl
ten_tests true true true true true true true true true false = refl
ten_tests true true true true true true true true true true = refl

-- what is left of the tests of all pairs
pub apart_tests : (volume schedule script : List ℕ)
    → ((not (bytes_eq standard_output volume) && (not (bytes_eq standard_output schedule) && not (bytes_eq standard_output script)))
    && ((not (bytes_eq volume schedule) && (not (bytes_eq volume script) && not (bytes_eq schedule script)))
    && ((not (bytes_eq schedule (history_name volume)) && not (bytes_eq script (history_name volume)))
    && (not (bytes_eq volume (out_name script)) && not (bytes_eq schedule (out_name script))))))
    ≡ all_differ (session_names volume schedule script)
apart_tests volume schedule script =
    rw (
      differ_test standard_output (history_name volume) (no_history_is_output volume),
      differ_test standard_output (out_name script) (no_replies_are_output script),
      differ_test volume (history_name volume) (no_volume_is_history volume),
      differ_test script (out_name script) (no_script_is_replies script),
      differ_test (history_name volume) (out_name script) (no_history_is_replies volume script),
    )
    (ten_tests (not (bytes_eq standard_output volume)) (not (bytes_eq standard_output schedule)) (not (bytes_eq standard_output script))
    (not (bytes_eq volume schedule)) (not (bytes_eq volume script)) (not (bytes_eq schedule script))
    (not (bytes_eq schedule (history_name volume))) (not (bytes_eq script (history_name volume)))
    (not (bytes_eq volume (out_name script))) (not (bytes_eq schedule (out_name script))))

-- a list is another with a suffix just where what follows the other is the suffix
pub suffix_told : (name stem rest suffix : List ℕ) (r : Bool) → name ≡ stem ++ rest → r ≡ bytes_eq rest suffix → (r ≡ true → name ≡ stem ++ suffix) × (name ≡ stem ++ suffix → r ≡ true)
suffix_told name stem rest suffix r split is = (
  λ yes. split ∙ ap (λ (l : List ℕ). stem ++ l) ((bytes_eq-Decides rest suffix).0 (sym is ∙ yes)),
  λ same. is ∙ (bytes_eq-Decides rest suffix).1 (sym (drop-append_seam stem rest) ∙ ap (drop (length stem)) (sym split ∙ same) ∙ drop-append_seam stem suffix),
)

-- the last of three tests, where the others passed, is that of all
pub last_of_three : (x y z all w : Bool) → x ≡ true → y ≡ true → w ≡ z → (x && (y && z)) ≡ all → w ≡ all
last_of_three true true z all w one two is same = is ∙ same
last_of_three false y z all w one two is same = absurd (cc (one))
last_of_three true false z all w one two is same = absurd (cc (two))

-- words of other numbers than these are no command
pub no_command : (words : List (String Global)) → length words ≢ 2 → length words ≢ 4 → length words ≢ 6 → None ≡ command_of words
unfolding command_of
no_command [] two four six = refl
no_command (a ∷ []) two four six = refl
no_command (a ∷ b ∷ []) two four six = absurd (two refl)
no_command (a ∷ b ∷ c ∷ []) two four six = refl
no_command (a ∷ b ∷ c ∷ d ∷ []) two four six = absurd (four refl)
no_command (a ∷ b ∷ c ∷ d ∷ e ∷ []) two four six = refl
no_command (a ∷ b ∷ c ∷ d ∷ e ∷ f ∷ []) two four six = absurd (six refl)
no_command (a ∷ b ∷ c ∷ d ∷ e ∷ f ∷ g ∷ more) two four six = refl
