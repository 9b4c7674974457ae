-- What is asked of a store decides what a `remove` is answered.
use Rattle.std.proofs.Common.{◌≡◌, ℕ, Bool, true, false, not, List, [], ◌∷◌, Option, Some, None, refl, sym, ap, ◌∙◌}
use Rattle.lufs_base.specs.declared.geometry.Geometry.{Geometry}
use Rattle.volume_model.specs.Sound.{Tree}
use Rattle.tree_types.specs.declared.credentials.Cred.{Cred}
use Rattle.tree_types.specs.declared.call.Call.TheVariants.{Remove}
use Rattle.tree_types.specs.declared.reply.Refusal.TheVariants.{Noent, Denied, Isdir}
use Rattle.history_model.specs.Places.{is_directory_in, may}
use Rattle.history_model.specs.Walk.{WalkEnd, first_of}
use Rattle.history_model.specs.Ends.{One}
use Rattle.history_model.specs.Wants.{wants_at, nothing}
use Rattle.history_model.specs.Refusals.{Decision, Refuse, Unchanged, Proceed, on_found, decision_at}
use Rattle.name_ops.specs.Asked.{asked}
use Rattle.name_ops.specs.declared.wanted.Wanted.{Wanted}
use Rattle.name_ops.specs.declared.wanted.Wanted.TheVariants.{Refused, Wants}

-- the decision by the tests of the refusals
abbrev by_tests : (may directory : Bool) → Decision
by_tests m d = first_of ((not m, Refuse Denied) ∷ ((d, Refuse Isdir) ∷ [])) Proceed

never_unchanged : (m d : Bool) → by_tests m d ≡ Unchanged → ⊥
never_unchanged false d is = let is_not : Refuse Denied ≡ Unchanged = is in cc
never_unchanged true true is = let is_not : Refuse Isdir ≡ Unchanged = is in cc
never_unchanged true false is = let is_not : Proceed ≡ Unchanged = is in cc

module _ (g : Geometry) (tree : Tree) (cred : Cred) (path : List ℕ) (p : WalkEnd) where
  abbrev pub decision : Decision
  decision = decision_at g tree cred (Remove path) (One p)

  abbrev pub answer : Wanted
  answer = asked decision (wants_at tree (Remove path) (One p))

  abbrev m : Bool
  m = may tree cred p.dir 2

  tested : (found : Option ℕ) → p.found ≡ found → decision ≡ first_of (on_found found (λ i. (not m, Refuse Denied) ∷ ((is_directory_in tree i, Refuse Isdir) ∷ []))) Proceed
  unfolding decision_at
  tested found is = ap (λ (o : Option ℕ). first_of (on_found o (λ i. (not m, Refuse Denied) ∷ ((is_directory_in tree i, Refuse Isdir) ∷ []))) Proceed) is

  pub not_found : p.found ≡ None → decision ≡ Refuse Noent
  not_found none = tested None none

  pub noent : p.found ≡ None → Refused Noent ≡ answer
  noent none = sym (ap (λ (x : Decision). asked x nothing) (not_found none))

  module _ (i : ℕ) (found : p.found ≡ Some i) where
    pub denied : m ≡ false → Refused Denied ≡ answer
    denied no_right = sym (ap (λ (x : Decision). asked x nothing) (tested (Some i) found ∙ ap (λ (b : Bool). by_tests b (is_directory_in tree i)) no_right))

    allowed : m ≡ true → decision ≡ by_tests true (is_directory_in tree i)
    allowed right = tested (Some i) found ∙ ap (λ (b : Bool). by_tests b (is_directory_in tree i)) right

    pub isdir : m ≡ true → is_directory_in tree i ≡ true → Refused Isdir ≡ answer
    isdir right is = sym (ap (λ (x : Decision). asked x nothing) (allowed right ∙ ap (by_tests true) is))

    pub wants : m ≡ true → is_directory_in tree i ≡ false → Wants false [] 0 ≡ answer
    wants right plain = sym (ap (λ (x : Decision). asked x nothing) (allowed right ∙ ap (by_tests true) plain))

  -- one that isn't refused changes something
  pub changes : decision ≡ Unchanged → ⊥
  changes same = by_name p.found refl
    where
      by_name : (found : Option ℕ) → p.found ≡ found → ⊥
      by_name None none = let is_not : Refuse Noent ≡ Unchanged = sym (not_found none) ∙ same in cc
      by_name (Some i) found = never_unchanged m (is_directory_in tree i) (sym (tested (Some i) found) ∙ same)
