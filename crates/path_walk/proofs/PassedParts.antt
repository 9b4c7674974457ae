-- A part of a path that was looked up over a store.
use Rattle.std.proofs.Common.{◌≡◌, ℕ, Bool, false, List, ◌∷◌, Option, Some, None, Result, Ok, Err, IfSome, refl, sym, subst, ◌∙◌}
use Rattle.std.specs.Option.{option_map}
use Rattle.std.specs.Result.{IsErr, IsErrAnd}
use Rattle.std.proofs.lemmas.Bool.{false≢true}
use Rattle.tree_types.specs.declared.credentials.Cred.{Cred}
use Rattle.tree_types.specs.declared.reply.Refusal.{Refusal}
use Rattle.volume_model.specs.Format.{block}
use Rattle.volume_model.specs.Sound.{Tree, reading_of, has_bad_numbers, tree_of}
use Rattle.meta_store.specs.declared.change.Change.{Change}
use Rattle.meta_store.specs.Store.{StoreTold, IsUnchanged}
use Rattle.meta_store.specs.Changes.{changed}
use Rattle.meta_draft.specs.Drafted.{drafted}
use Rattle.dir_reads.proofs.StoreSteps.{unchanged_then}
use Rattle.history_model.specs.Places.{lookup}
use Rattle.history_model.specs.Walk.{refused_part, step_of, is_empty}
use Rattle.path_walk.specs.declared.error.WalkError.{WalkError}
use Rattle.path_walk.specs.declared.error.WalkError.TheVariants.{Refused, Disk, Mem as no_memory}
use Rattle.path_walk.specs.declared.part_lookup.Lead.{Lead}
use Rattle.path_walk.specs.declared.walking.Stop.{Stop}
use Rattle.path_walk.specs.Answers.{HoldsOfTree}
use Rattle.path_walk.specs.Parts.{IsLead, AnswersPart}
use Rattle.path_walk.specs.Steps.{step_taken}
use Rattle.path_walk.specs.Stops.{CameTo}
use Rattle.path_walk.proofs.TreeFacts.{of_one, of_two, before_reads, of_answer}
use Rattle.path_walk.proofs.WalkSteps.{Leads, ComesTo, stops, comes_to}

-- why it can't be looked up
pub refused_there : (change : Change) (start : StoreTold) (cred : Cred) (at : ℕ) (part : List ℕ) (why : Option Refusal) (w : Refusal) → why ≡ Some w
    → HoldsOfTree (drafted change start) (λ tree. why ≡ refused_part tree cred at part) → HoldsOfTree (drafted change start) (λ tree. refused_part tree cred at part ≡ Some w)
refused_there change start cred at part why w some refusal = of_one (option_map (changed change) start.content) start.geometry (λ tree is. sym is ∙ some) refusal

-- what it leads to
pub leads_there : (change : Change) (start then after : StoreTold) (same_then : IsUnchanged start then) (same_after : IsUnchanged then after) (cred : Cred) (follow : Bool) (at : ℕ) (part : List ℕ) (last : Bool)
    (why : Option Refusal) (lead : Lead) → why ≡ None → HoldsOfTree (drafted change start) (λ tree. why ≡ refused_part tree cred at part)
    → IfSome (drafted change then).content (λ image. has_bad_numbers then.geometry (reading_of then.geometry (block image)) at ≡ false
    → option_map (λ i. i.0) lead.found ≡ lookup (tree_of then.geometry (block image)) at part)
    → HoldsOfTree (drafted change after) (λ tree. step_taken lead.next ≡ step_of tree last follow (option_map (λ i. i.0) lead.found))
    → HoldsOfTree (drafted change start) (λ tree. IsLead tree cred follow at part last lead)
leads_there change start then after same_then same_after cred follow at part last why lead none refusal looked steps =
    let content = option_map (changed change) start.content in
    let found : Option ℕ = option_map (λ i. i.0) lead.found in
    let told_looked : HoldsOfTree (drafted change start) (λ tree. found ≡ lookup tree at part) =
    before_reads (λ tree. found ≡ lookup tree at part) change start then same_then
    (of_answer (λ tree. found ≡ lookup tree at part) (option_map (changed change) then.content) then.geometry at looked) in
    let told_step : HoldsOfTree (drafted change start) (λ tree. step_taken lead.next ≡ step_of tree last follow found) =
    before_reads (λ tree. step_taken lead.next ≡ step_of tree last follow found) change start after (unchanged_then same_then same_after) steps in
    let both : HoldsOfTree (drafted change start) (λ tree. (found ≡ lookup tree at part) × (step_taken lead.next ≡ step_of tree last follow found)) =
    of_two content start.geometry (λ tree looked is. (looked, is)) told_looked told_step in
    of_two content start.geometry (λ tree (is : why ≡ refused_part tree cred at part) (s : (found ≡ lookup tree at part) × (step_taken lead.next ≡ step_of tree last follow found)).
    record { none = sym is ∙ none; looked = s.0; is = s.1 }) refusal both

came_without : (tree : Tree) (cred : Cred) (follow : Bool) (dir at : ℕ) (parts left : List (List ℕ)) (part : List ℕ) (rest after : List (List ℕ)) (last : Bool) (e : WalkError) → left ≡ part ∷ rest
    → Leads tree cred follow dir parts at left → AnswersPart tree cred follow at part last (Err e) → CameTo tree cred follow dir parts after (Err e)
came_without tree cred follow dir at parts left part rest after last (Refused why) next leads refused = stops tree cred follow dir at parts left part rest why (Some why) next refl leads (sym refused)
came_without tree cred follow dir at parts left part rest after last Disk next leads refused = tt
came_without tree cred follow dir at parts left part rest after last no_memory next leads refused = tt

handed_on : (tree : Tree) (cred : Cred) (follow : Bool) (dir : ℕ) (parts after : List (List ℕ)) (result : Result Stop WalkError) (e : WalkError) → IsErr result → IsErrAnd result (λ x. x ≡ e)
    → CameTo tree cred follow dir parts after (Err e) → CameTo tree cred follow dir parts after result
handed_on tree cred follow dir parts after (Ok stop) e is same came = absurd (false≢true is)
handed_on tree cred follow dir parts after (Err x) e is same came = subst (λ (y : WalkError). CameTo tree cred follow dir parts after (Err y)) (sym same) came

module _ (change : Change) (start now : StoreTold) (same : IsUnchanged start now) (cred : Cred) (follow : Bool) (dir at : ℕ) (parts left : List (List ℕ)) (part : List ℕ) (rest : List (List ℕ)) (last : Bool)
    (next : left ≡ part ∷ rest) (is_last : last ≡ is_empty rest) (leads : HoldsOfTree (drafted change start) (λ tree. Leads tree cred follow dir parts at left)) where
  -- it can't be looked up
  pub stops_there : (after : List (List ℕ)) (result : Result Stop WalkError) (e : WalkError) → IsErr result → IsErrAnd result (λ x. x ≡ e)
      → HoldsOfTree (drafted change now) (λ tree. AnswersPart tree cred follow at part last (Err e)) → HoldsOfTree (drafted change start) (λ tree. CameTo tree cred follow dir parts after result)
  stops_there after result e is equal told =
      of_two (option_map (changed change) start.content) start.geometry
      (λ tree before refused. handed_on tree cred follow dir parts after result e is equal (came_without tree cred follow dir at parts left part rest after last e next before refused)) leads
      (before_reads (λ tree. AnswersPart tree cred follow at part last (Err e)) change start now same told)

  -- the walk came to it
  pub comes_there : (lead : Lead) → HoldsOfTree (drafted change now) (λ tree. IsLead tree cred follow at part last lead)
      → HoldsOfTree (drafted change start) (λ tree. ComesTo tree cred follow dir parts at part rest (option_map (λ i. i.0) lead.found) (step_taken lead.next))
  comes_there lead told =
      of_two (option_map (changed change) start.content) start.geometry
      (λ tree before (is : IsLead tree cred follow at part last lead).
      comes_to tree cred follow dir at parts left part rest None (option_map (λ i. i.0) lead.found) last (step_taken lead.next) next refl is_last before (sym is.none) is.looked is.is) leads
      (before_reads (λ tree. IsLead tree cred follow at part last lead) change start now same told)
