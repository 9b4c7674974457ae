-- What a walk ends with.
use Rattle.std.proofs.Common.{◌≡◌, ℕ, zero, suc, Bool, true, false, not, cond, List, [], ◌∷◌, ◌++◌, Option, Some, None, Result, Ok, Err, refl, subst}
use Rattle.std.proofs.lemmas.Bool.{not-false}
use Rattle.std.specs.Prelude.{nat_lt, length}
use Rattle.tree_types.specs.declared.credentials.Cred.{Cred}
use Rattle.tree_types.specs.declared.reply.Refusal.{Refusal}
use Rattle.tree_types.specs.declared.reply.Refusal.TheVariants.{Noent, Loop, Notdir, Denied, Nametoolong}
use Rattle.volume_model.specs.Sound.{Tree}
use Rattle.history_model.specs.Places.{lookup, is_directory_in, may}
use Rattle.history_model.specs.Walk.{WalkEnd, Step, Ends, Missing, Follows, Goes, first_of, parts_of, start_of, end_at, refused_part, or_refused, after_step, step_of, is_empty, walk_parts, walk_within, most_followed, root, walk_of}

abbrev EndsRight : Tree → WalkEnd → Type 0
EndsRight tree p = (is_directory_in tree p.dir ≡ true) × (lookup tree p.dir p.name ≡ p.found)

abbrev EndsRightAlways : Tree → (ℕ → Result WalkEnd Refusal) → Type 0
EndsRightAlways tree go = (i : ℕ) (p : WalkEnd) → go i ≡ Ok p → EndsRight tree p

passes : (o : Option Refusal) (next : Result WalkEnd Refusal) (p : WalkEnd) → or_refused o next ≡ Ok p → (o ≡ None) × (next ≡ Ok p)
passes (Some refusal) next p is = absurd (let e : Err refusal ≡ Ok p = is in cc)
passes None next p is = (refl, is)

not_first : (b : Bool) (x : Refusal) (rest : Option Refusal) → cond b (Some x) rest ≡ None → b ≡ false
not_first true x rest is = absurd (let e : Some x ≡ None = is in cc)
not_first false x rest is = refl

in_directory : (tree : Tree) (cred : Cred) (dir : ℕ) (part : List ℕ) → refused_part tree cred dir part ≡ None → is_directory_in tree dir ≡ true
in_directory tree cred dir part is =
    not-false (is_directory_in tree dir)
    (not_first (not (is_directory_in tree dir)) Notdir (first_of ((not (may tree cred dir 1), Some Denied) ∷ ((nat_lt 255 (length part), Some Nametoolong) ∷ [])) None) is)

step_ends : (tree : Tree) (again : ℕ → List (List ℕ) → Result WalkEnd Refusal) → ((i : ℕ) (parts : List (List ℕ)) (p : WalkEnd) → again i parts ≡ Ok p → EndsRight tree p)
    → (rest : List (List ℕ)) (go : ℕ → Result WalkEnd Refusal) → EndsRightAlways tree go → (place : WalkEnd) → EndsRight tree place
    → (step : Step) (p : WalkEnd) → after_step rest again go place step ≡ Ok p → EndsRight tree p
step_ends tree again further rest go on place here Ends p is =
    let P : Result WalkEnd Refusal → Type 0 = λ r. elim r [ Ok q ↦ EndsRight tree q | Err e ↦ Unit {0} ] in subst P is here
step_ends tree again further rest go on place here Missing p is = absurd (let e : Err Noent ≡ Ok p = is in cc)
step_ends tree again further rest go on place here (Follows text) p is = further (start_of place.dir text) (parts_of text ++ rest) p is
step_ends tree again further rest go on place here (Goes i) p is = on i p is

parts_end : (tree : Tree) (cred : Cred) (follow : Bool) (again : ℕ → List (List ℕ) → Result WalkEnd Refusal)
    → ((i : ℕ) (parts : List (List ℕ)) (p : WalkEnd) → again i parts ≡ Ok p → EndsRight tree p)
    → (parts : List (List ℕ)) (dir : ℕ) (p : WalkEnd) → walk_parts again tree cred follow dir parts ≡ Ok p → EndsRight tree p
parts_end tree cred follow again further [] dir p is = absurd (let e : Err Noent ≡ Ok p = is in cc)
parts_end tree cred follow again further (part ∷ rest) dir p is =
    let step = step_of tree (is_empty rest) follow (lookup tree dir part) in
    let go = λ (i : ℕ). walk_parts again tree cred follow i rest in
    let both = passes (refused_part tree cred dir part) (after_step rest again go (end_at tree dir part) step) p is in
    step_ends tree again further rest go (λ i q e. parts_end tree cred follow again further rest i q e)
    (end_at tree dir part) (in_directory tree cred dir part both.0, refl) step p both.1

within_ends : (links : ℕ) (tree : Tree) (cred : Cred) (follow : Bool) (dir : ℕ) (parts : List (List ℕ)) (p : WalkEnd)
    → walk_within links tree cred follow dir parts ≡ Ok p → EndsRight tree p
within_ends zero tree cred follow dir parts p is =
    parts_end tree cred follow (λ i more. Err Loop) (λ i more q e. absurd (let f : Err Loop ≡ Ok q = e in cc)) parts dir p is
within_ends (suc links) tree cred follow dir parts p is =
    parts_end tree cred follow (walk_within links tree cred follow) (within_ends links tree cred follow) parts dir p is

pub walk_ends : (tree : Tree) (cred : Cred) (path : List ℕ) (follow : Bool) (p : WalkEnd)
    → walk_of tree cred path follow ≡ Ok p → (is_directory_in tree p.dir ≡ true) × (lookup tree p.dir p.name ≡ p.found)
unfolding walk_of
walk_ends tree cred path follow p is = within_ends most_followed tree cred follow root (parts_of path) p is
