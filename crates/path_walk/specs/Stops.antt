-- How far a walk came that follows no link yet.
use Rattle.std.specs.Prelude.{ℕ, zero, suc, Bool, List, ◌++◌, Result, Ok, Err}
use Rattle.tree_types.specs.declared.credentials.Cred.{Cred}
use Rattle.tree_types.specs.declared.reply.Refusal.{Refusal}
use Rattle.tree_types.specs.declared.reply.Refusal.TheVariants.{Loop}
use Rattle.volume_model.specs.Sound.{Tree}
use Rattle.history_model.specs.Walk.{WalkEnd, parts_of, start_of}
use Rattle.history_model.specs.Walks.{Walks}
use Rattle.path_walk.specs.declared.error.WalkError.{WalkError}
use Rattle.path_walk.specs.declared.error.WalkError.TheVariants.{Refused, Disk, Mem as no_memory}
use Rattle.path_walk.specs.declared.walking.Stop.{Stop}
use Rattle.path_walk.specs.declared.walking.Stop.TheVariants.{End, Link}
use Rattle.path_walk.specs.Answers.{end_of}

-- The walk along these parts comes to a link with this text in directory `base`, where these parts are left.
pub record ComesToLink (tree : Tree) (cred : Cred) (follow : Bool) (dir : ℕ) (parts : List (List ℕ)) (base : ℕ) (text : List ℕ) (left : List (List ℕ)) : Type 0 where
  pub more : (links : ℕ) (end : Result WalkEnd Refusal) → Walks tree cred follow links (start_of base text) (parts_of text ++ left) end → Walks tree cred follow (suc links) dir parts end
  pub no_more : Walks tree cred follow zero dir parts (Err Loop)

-- It ends or is refused, however many links it may follow, or comes to the first link that it is to follow.
abbrev pub CameTo : Tree → Cred → (follow : Bool) → (dir : ℕ) → (parts left : List (List ℕ)) → Result Stop WalkError → Type 0
CameTo tree cred follow dir parts left (Ok (End walked)) = (links : ℕ) → Walks tree cred follow links dir parts (Ok (end_of walked))
CameTo tree cred follow dir parts left (Ok (Link base text)) = ComesToLink tree cred follow dir parts base.0 text.items left
CameTo tree cred follow dir parts left (Err (Refused why)) = (links : ℕ) → Walks tree cred follow links dir parts (Err why)
CameTo tree cred follow dir parts left (Err Disk) = Unit {0}
CameTo tree cred follow dir parts left (Err no_memory) = Unit {0}
