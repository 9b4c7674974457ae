-- What is asked of a store decides what an `rmdir` is answered.
use Rattle.std.proofs.Common.{◌≡◌, ℕ, Bool, true, false, not, List, [], ◌∷◌, Option, Some, None, refl, sym, ap, ◌∙◌}
use Rattle.lufs_base.specs.declared.geometry.Geometry.{Geometry}
use Rattle.volume_model.specs.Sound.{Tree}
use Rattle.tree_types.specs.declared.credentials.Cred.{Cred}
use Rattle.tree_types.specs.declared.call.Call.TheVariants.{Rmdir}
use Rattle.tree_types.specs.declared.reply.Refusal.TheVariants.{Noent, Notdir, Denied, Notempty, Inval}
use Rattle.history_model.specs.Places.{is_directory_in, is_dots, may}
use Rattle.history_model.specs.Walk.{WalkEnd, first_of}
use Rattle.history_model.specs.Ends.{One}
use Rattle.history_model.specs.Wants.{wants_at, nothing}
use Rattle.history_model.specs.Refusals.{Decision, Refuse, Unchanged, Proceed, on_found, is_empty_in, decision_at}
use Rattle.name_ops.specs.Asked.{asked}
use Rattle.name_ops.specs.declared.wanted.Wanted.{Wanted}
use Rattle.name_ops.specs.declared.wanted.Wanted.TheVariants.{Refused, Wants}

-- the decision by the tests of the refusals
abbrev by_tests : (directory may empty dots : Bool) → Decision
by_tests d m e n = first_of ((not d, Refuse Notdir) ∷ ((not m, Refuse Denied) ∷ ((not e, Refuse Notempty) ∷ ((n, Refuse Inval) ∷ [])))) Proceed

never_unchanged : (d m e n : Bool) → by_tests d m e n ≡ Unchanged → ⊥
never_unchanged false m e n is = let is_not : Refuse Notdir ≡ Unchanged = is in cc
never_unchanged true false e n is = let is_not : Refuse Denied ≡ Unchanged = is in cc
never_unchanged true true false n is = let is_not : Refuse Notempty ≡ Unchanged = is in cc
never_unchanged true true true true is = let is_not : Refuse Inval ≡ Unchanged = is in cc
never_unchanged true true true false is = let is_not : Proceed ≡ Unchanged = is in cc

module _ (g : Geometry) (tree : Tree) (cred : Cred) (path : List ℕ) (p : WalkEnd) where
  abbrev pub decision : Decision
  decision = decision_at g tree cred (Rmdir path) (One p)

  abbrev pub answer : Wanted
  answer = asked decision (wants_at tree (Rmdir path) (One p))

  abbrev by_found : Option ℕ → Decision
  by_found found = first_of (on_found found (λ i.
      (not (is_directory_in tree i), Refuse Notdir)
      ∷ ((not (may tree cred p.dir 2), Refuse Denied)
      ∷ ((not (is_empty_in tree i), Refuse Notempty)
      ∷ ((is_dots p.name, Refuse Inval) ∷ []))))) Proceed

  tested : (found : Option ℕ) → p.found ≡ found → decision ≡ by_found found
  unfolding decision_at
  tested found is = ap by_found is

  pub not_found : p.found ≡ None → decision ≡ Refuse Noent
  not_found none = tested None none

  pub noent : p.found ≡ None → Refused Noent ≡ answer
  noent none = sym (ap (λ (x : Decision). asked x nothing) (not_found none))

  module _ (i : ℕ) (found : p.found ≡ Some i) where
    decided : (d m e n : Bool) → is_directory_in tree i ≡ d → may tree cred p.dir 2 ≡ m → is_empty_in tree i ≡ e → is_dots p.name ≡ n → decision ≡ by_tests d m e n
    decided d m e n is right empty dots = tested (Some i) found ∙ (λ t. by_tests (is t) (right t) (empty t) (dots t))

    answered : (d m e n : Bool) → is_directory_in tree i ≡ d → may tree cred p.dir 2 ≡ m → is_empty_in tree i ≡ e → is_dots p.name ≡ n → asked (by_tests d m e n) nothing ≡ answer
    answered d m e n is right empty dots = sym (ap (λ (x : Decision). asked x nothing) (decided d m e n is right empty dots))

    pub notdir : is_directory_in tree i ≡ false → Refused Notdir ≡ answer
    notdir plain = answered false (may tree cred p.dir 2) (is_empty_in tree i) (is_dots p.name) plain refl refl refl

    module _ (is : is_directory_in tree i ≡ true) where
      pub denied : may tree cred p.dir 2 ≡ false → Refused Denied ≡ answer
      denied no_right = answered true false (is_empty_in tree i) (is_dots p.name) is no_right refl refl

      module _ (right : may tree cred p.dir 2 ≡ true) where
        pub notempty : is_empty_in tree i ≡ false → Refused Notempty ≡ answer
        notempty some = answered true true false (is_dots p.name) is right some refl

        module _ (empty : is_empty_in tree i ≡ true) where
          pub inval : is_dots p.name ≡ true → Refused Inval ≡ answer
          inval dots = answered true true true true is right empty dots

          pub wants : is_dots p.name ≡ false → Wants false [] 0 ≡ answer
          wants no_dots = answered true true true false is right empty no_dots

  -- one that isn't refused changes something
  pub changes : decision ≡ Unchanged → ⊥
  changes same = by_name p.found refl
    where
      by_name : (found : Option ℕ) → p.found ≡ found → ⊥
      by_name None none = let is_not : Refuse Noent ≡ Unchanged = sym (not_found none) ∙ same in cc
      by_name (Some i) found =
          never_unchanged (is_directory_in tree i) (may tree cred p.dir 2) (is_empty_in tree i) (is_dots p.name) (sym (tested (Some i) found) ∙ same)
