-- A walk goes on over a part, ends at it, or follows a link there.
use Rattle.std.proofs.Common.{◌≡◌, ℕ, zero, suc, Bool, List, [], ◌∷◌, Option, Some, None, Result, Ok, Err, sym, ap, subst, ◌∙◌}
use Rattle.tree_types.specs.declared.credentials.Cred.{Cred}
use Rattle.tree_types.specs.declared.reply.Refusal.{Refusal}
use Rattle.tree_types.specs.declared.reply.Refusal.TheVariants.{Noent, Loop}
use Rattle.volume_model.specs.Sound.{Tree}
use Rattle.history_model.specs.Places.{lookup}
use Rattle.history_model.specs.Walk.{WalkEnd, Step, Ends, Missing, Follows, Goes, end_at, refused_part, step_of, is_empty}
use Rattle.history_model.specs.Walks.{Walks, NoParts, Stops, Last, NotThere, TooMany, Followed, Onward, step_at}
use Rattle.path_walk.specs.Stops.{ComesToLink}

-- the walk comes from the first directory with its parts to the second one with those
abbrev pub Leads : Tree → Cred → (follow : Bool) → (dir : ℕ) → (parts : List (List ℕ)) → (at : ℕ) → (left : List (List ℕ)) → Type 0
Leads tree cred follow dir parts at left = (links : ℕ) (end : Result WalkEnd Refusal) → Walks tree cred follow links at left end → Walks tree cred follow links dir parts end

-- The walk came to this part of directory `at`, which may be looked up there: what is found, and the step that is next.
pub record ComesTo (tree : Tree) (cred : Cred) (follow : Bool) (dir : ℕ) (parts : List (List ℕ)) (at : ℕ) (part : List ℕ) (rest : List (List ℕ)) (found : Option ℕ) (step : Step) : Type 0 where
  pub leads : Leads tree cred follow dir parts at (part ∷ rest)
  pub none : refused_part tree cred at part ≡ None
  pub looked : found ≡ lookup tree at part
  pub is : step ≡ step_at tree follow at part rest

pub no_part : (tree : Tree) (cred : Cred) (follow : Bool) (dir at : ℕ) (parts left : List (List ℕ)) → Leads tree cred follow dir parts at left → left ≡ []
    → (links : ℕ) → Walks tree cred follow links dir parts (Err Noent)
no_part tree cred follow dir at parts left leads none links =
    leads links (Err Noent) (subst (λ (l : List (List ℕ)). Walks tree cred follow links at l (Err Noent)) (sym none) NoParts)

pub stops : (tree : Tree) (cred : Cred) (follow : Bool) (dir at : ℕ) (parts left : List (List ℕ)) (part : List ℕ) (rest : List (List ℕ)) (refusal : Refusal) (why : Option Refusal)
    → left ≡ part ∷ rest → why ≡ Some refusal → Leads tree cred follow dir parts at left → why ≡ refused_part tree cred at part
    → (links : ℕ) → Walks tree cred follow links dir parts (Err refusal)
stops tree cred follow dir at parts left part rest refusal why next some leads is links =
    leads links (Err refusal) (subst (λ (l : List (List ℕ)). Walks tree cred follow links at l (Err refusal)) (sym next) (Stops (sym is ∙ some)))

pub ends : {tree : Tree} {cred : Cred} {follow : Bool} {dir at : ℕ} {parts : List (List ℕ)} {part : List ℕ} {rest : List (List ℕ)} {found : Option ℕ}
    → ComesTo tree cred follow dir parts at part rest found Ends → (links : ℕ) → Walks tree cred follow links dir parts (Ok (record { dir = at; name = part; found = found }))
ends {tree} {cred} {follow} {dir} {at} {parts} {part} {rest} {found} comes links =
    subst (λ (o : Option ℕ). Walks tree cred follow links dir parts (Ok (record { dir = at; name = part; found = o }))) (sym comes.looked)
    (comes.leads links (Ok (end_at tree at part)) (Last comes.none (sym comes.is)))

pub not_there : {tree : Tree} {cred : Cred} {follow : Bool} {dir at : ℕ} {parts : List (List ℕ)} {part : List ℕ} {rest : List (List ℕ)} {found : Option ℕ}
    → ComesTo tree cred follow dir parts at part rest found Missing → (links : ℕ) → Walks tree cred follow links dir parts (Err Noent)
not_there comes links = comes.leads links (Err Noent) (NotThere comes.none (sym comes.is))

pub comes_to_link : {tree : Tree} {cred : Cred} {follow : Bool} {dir at : ℕ} {parts : List (List ℕ)} {part : List ℕ} {rest : List (List ℕ)} {found : Option ℕ} {text : List ℕ}
    → ComesTo tree cred follow dir parts at part rest found (Follows text) → ComesToLink tree cred follow dir parts at text rest
comes_to_link comes = record {
  more = λ links end walks. comes.leads (suc links) end (Followed comes.none (sym comes.is) walks);
  no_more = comes.leads zero (Err Loop) (TooMany comes.none (sym comes.is));
}

pub goes : {tree : Tree} {cred : Cred} {follow : Bool} {dir at i : ℕ} {parts : List (List ℕ)} {part : List ℕ} {rest : List (List ℕ)} {found : Option ℕ}
    → ComesTo tree cred follow dir parts at part rest found (Goes i) → Leads tree cred follow dir parts i rest
goes comes links end walks = comes.leads links end (Onward comes.none (sym comes.is) walks)

-- a part that was read
pub comes_to : (tree : Tree) (cred : Cred) (follow : Bool) (dir at : ℕ) (parts left : List (List ℕ)) (part : List ℕ) (rest : List (List ℕ)) (why : Option Refusal) (found : Option ℕ) (last : Bool)
    (step : Step) → left ≡ part ∷ rest → why ≡ None → last ≡ is_empty rest → Leads tree cred follow dir parts at left → why ≡ refused_part tree cred at part → found ≡ lookup tree at part
    → step ≡ step_of tree last follow found → ComesTo tree cred follow dir parts at part rest found step
comes_to tree cred follow dir at parts left part rest why found last step next none is_last leads refusal looked is = record {
  leads = subst (Leads tree cred follow dir parts at) next leads;
  none = sym refusal ∙ none;
  looked = looked;
  is = is ∙ ap (λ (b : Bool). step_of tree b follow found) is_last ∙ ap (step_of tree (is_empty rest) follow) looked;
}
