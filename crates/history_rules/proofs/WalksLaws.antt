-- The walk is the relation.
use Rattle.std.proofs.Common.{◌≡◌, ◌↔◌, ℕ, zero, suc, Bool, List, [], ◌∷◌, ◌++◌, Option, Some, None, Result, Err, refl, ap, subst, ◌∙◌}
use Rattle.tree_types.specs.declared.credentials.Cred.{Cred}
use Rattle.tree_types.specs.declared.reply.Refusal.{Refusal}
use Rattle.tree_types.specs.declared.reply.Refusal.TheVariants.{Loop}
use Rattle.volume_model.specs.Sound.{Tree}
use Rattle.history_model.specs.Walk.{WalkEnd, Step, Ends, Missing, Follows, Goes, parts_of, start_of, end_at, refused_part, or_refused, after_step, walk_parts, walk_within, most_followed, root, walk_of}
use Rattle.history_model.specs.Walks.{Walks, NoParts, Stops, Last, NotThere, TooMany, Followed, Onward, step_at}

module _ (tree : Tree) (cred : Cred) (follow : Bool) where
  abbrev Again : Type 0
  Again = ℕ → List (List ℕ) → Result WalkEnd Refusal

  -- what a link leads to is a walk
  abbrev IsFurther : ℕ → Again → Type 0
  IsFurther links again = (dir : ℕ) (part : List ℕ) (rest : List (List ℕ)) (text : List ℕ) → refused_part tree cred dir part ≡ None → step_at tree follow dir part rest ≡ Follows text
      → Walks tree cred follow links dir (part ∷ rest) (again (start_of dir text) (parts_of text ++ rest))

  module _ (links : ℕ) (again : Again) (further : IsFurther links again) where
    by_step : (dir : ℕ) (part : List ℕ) (rest : List (List ℕ)) (go : ℕ → Result WalkEnd Refusal) → ((i : ℕ) → Walks tree cred follow links i rest (go i))
        → refused_part tree cred dir part ≡ None → (step : Step) → step_at tree follow dir part rest ≡ step
        → Walks tree cred follow links dir (part ∷ rest) (after_step rest again go (end_at tree dir part) step)
    by_step dir part rest go on none Ends is = Last none is
    by_step dir part rest go on none Missing is = NotThere none is
    by_step dir part rest go on none (Follows text) is = further dir part rest text none is
    by_step dir part rest go on none (Goes i) is = Onward none is (on i)

    by_refusal : (dir : ℕ) (part : List ℕ) (rest : List (List ℕ)) (go : ℕ → Result WalkEnd Refusal) → ((i : ℕ) → Walks tree cred follow links i rest (go i))
        → (o : Option Refusal) → refused_part tree cred dir part ≡ o
        → Walks tree cred follow links dir (part ∷ rest) (or_refused o (after_step rest again go (end_at tree dir part) (step_at tree follow dir part rest)))
    by_refusal dir part rest go on (Some refusal) is = Stops is
    by_refusal dir part rest go on None is = by_step dir part rest go on is (step_at tree follow dir part rest) refl

    parts_walk : (parts : List (List ℕ)) (dir : ℕ) → Walks tree cred follow links dir parts (walk_parts again tree cred follow dir parts)
    parts_walk [] dir = NoParts
    parts_walk (part ∷ rest) dir =
        by_refusal dir part rest (λ i. walk_parts again tree cred follow i rest) (λ i. parts_walk rest i) (refused_part tree cred dir part) refl

  within_walks : (links dir : ℕ) (parts : List (List ℕ)) → Walks tree cred follow links dir parts (walk_within links tree cred follow dir parts)
  within_walks zero dir parts = parts_walk zero (λ i more. Err Loop) (λ dir part rest text none is. TooMany none is) parts dir
  within_walks (suc links) dir parts =
      parts_walk (suc links) (walk_within links tree cred follow)
      (λ dir part rest text none is. Followed none is (within_walks links (start_of dir text) (parts_of text ++ rest))) parts dir

  again_of : ℕ → Again
  again_of zero = λ i more. Err Loop
  again_of (suc links) = walk_within links tree cred follow

  within_is : (links dir : ℕ) (parts : List (List ℕ)) → walk_within links tree cred follow dir parts ≡ walk_parts (again_of links) tree cred follow dir parts
  unfolding again_of
  within_is zero dir parts = refl
  within_is (suc links) dir parts = refl

  abbrev step_from : (links : ℕ) → (rest : List (List ℕ)) → WalkEnd → Step → Result WalkEnd Refusal
  step_from links rest place step = after_step rest (again_of links) (λ i. walk_parts (again_of links) tree cred follow i rest) place step

  stepped : (links dir : ℕ) (part : List ℕ) (rest : List (List ℕ)) (step : Step) → refused_part tree cred dir part ≡ None → step_at tree follow dir part rest ≡ step
      → walk_parts (again_of links) tree cred follow dir (part ∷ rest) ≡ step_from links rest (end_at tree dir part) step
  stepped links dir part rest step none is =
      ap (λ (o : Option Refusal). or_refused o (step_from links rest (end_at tree dir part) (step_at tree follow dir part rest))) none
      ∙ ap (step_from links rest (end_at tree dir part)) is

  one_end : {links dir : ℕ} {parts : List (List ℕ)} {end : Result WalkEnd Refusal} → Walks tree cred follow links dir parts end → walk_parts (again_of links) tree cred follow dir parts ≡ end
  unfolding again_of
  one_end NoParts = refl
  one_end (Stops {links} {dir} {part} {rest} {refusal} is) =
      ap (λ (o : Option Refusal). or_refused o (step_from links rest (end_at tree dir part) (step_at tree follow dir part rest))) is
  one_end (Last {links} {dir} {part} {rest} none is) = stepped links dir part rest Ends none is
  one_end (NotThere {links} {dir} {part} {rest} none is) = stepped links dir part rest Missing none is
  one_end (TooMany {dir} {part} {rest} {text} none is) = stepped zero dir part rest (Follows text) none is
  one_end (Followed {links} {dir} {part} {rest} {text} {end} none is more) =
      stepped (suc links) dir part rest (Follows text) none is ∙ within_is links (start_of dir text) (parts_of text ++ rest) ∙ one_end more
  one_end (Onward {links} {dir} {i} {part} {rest} {end} none is more) = stepped links dir part rest (Goes i) none is ∙ one_end more

pub walk_is : (tree : Tree) (cred : Cred) (path : List ℕ) (follow : Bool) (end : Result WalkEnd Refusal)
    → (walk_of tree cred path follow ≡ end) ↔ Walks tree cred follow most_followed root (parts_of path) end
unfolding walk_of
walk_is tree cred path follow end = (
  (λ is. subst (Walks tree cred follow most_followed root (parts_of path)) is (within_walks tree cred follow most_followed root (parts_of path))),
  (λ walks. within_is tree cred follow most_followed root (parts_of path) ∙ one_end tree cred follow walks),
)
