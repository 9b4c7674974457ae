-- Where the path of a call ends, by its walk.
use Rattle.std.proofs.Common.{◌≡◌, ℕ, Bool, true, false, List, Result, Ok, Err, ap, ◌∙◌}
use Rattle.std.specs.Prelude.{IfOk}
use Rattle.tree_types.specs.declared.credentials.Cred.{Cred}
use Rattle.tree_types.specs.declared.reply.Refusal.{Refusal}
use Rattle.tree_types.specs.declared.reply.Refusal.TheVariants.{Nametoolong}
use Rattle.volume_model.specs.Sound.{Tree}
use Rattle.history_model.specs.Walk.{WalkEnd, walk_of}
use Rattle.history_model.specs.Ends.{WalkEnds, One, is_long, and_then, unless_long, end_of}
use Rattle.path_walk.specs.Answers.{AnswersWalk}
use Rattle.path_walk.specs.Answers.{end_of as place_of}
use Rattle.path_walk.specs.declared.error.WalkError.{WalkError}
use Rattle.path_walk.specs.declared.error.WalkError.TheVariants.{Refused, Disk, Mem as no_memory}
use Rattle.path_walk.specs.declared.walked.Walked.{Walked}
use Rattle.call_ops.specs.Ended.{ends_by, answer_of}

abbrev one_end : Result WalkEnd Refusal → Result WalkEnds Refusal
one_end walk = and_then walk (λ p. Ok (One p))

module _ (tree : Tree) (cred : Cred) (follow : Bool) (path : List ℕ) where
  short_end : is_long path ≡ false → (walk : Result WalkEnd Refusal) → walk_of tree cred path follow ≡ walk → end_of tree cred follow path ≡ one_end walk
  short_end short walk is = ap (λ (long : Bool). unless_long long (one_end (walk_of tree cred path follow))) short ∙ ap one_end is

  pub walk_answered : is_long path ≡ false → (walk : Result Walked WalkError) → AnswersWalk (walk_of tree cred path follow) walk
      → IfOk (answer_of walk) (λ end. end_of tree cred follow path ≡ ends_by end)
  walk_answered short (Ok walked) is = short_end short (Ok (place_of walked)) is
  walk_answered short (Err (Refused why)) is = short_end short (Err why) is
  walk_answered short (Err Disk) is = tt
  walk_answered short (Err no_memory) is = tt

one_walked : (walk : Result WalkEnd Refusal) (p : WalkEnd) → one_end walk ≡ Ok (One p) → walk ≡ Ok p
one_walked (Ok q) p is = let same : One q ≡ One p = cc in let alike : q ≡ p = cc in ap (λ (x : WalkEnd). Ok x) alike
one_walked (Err why) p is = absurd (let e : Err why ≡ Ok (One p) = is in cc)

short_walked : (long : Bool) (walk : Result WalkEnd Refusal) (p : WalkEnd) → unless_long long (one_end walk) ≡ Ok (One p) → walk ≡ Ok p
short_walked true walk p is = absurd (let e : Err Nametoolong ≡ Ok (One p) = is in cc)
short_walked false walk p is = one_walked walk p is

-- the walk behind the end
pub walk_to_end : (tree : Tree) (cred : Cred) (follow : Bool) (path : List ℕ) (p : WalkEnd) → end_of tree cred follow path ≡ Ok (One p) → walk_of tree cred path follow ≡ Ok p
walk_to_end tree cred follow path p is = short_walked (is_long path) (walk_of tree cred path follow) p is
