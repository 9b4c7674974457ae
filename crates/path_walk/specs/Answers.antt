-- What a walk over a store is answered, by the tree that the content of the store stands for.
use Rattle.std.specs.Prelude.{◌≡◌, List, Result, Ok, Err, option_map, IfSome}
use Rattle.volume_model.specs.declared.hand.Hand.{Hand}
use Rattle.volume_model.specs.Format.{block}
use Rattle.volume_model.specs.Sound.{Tree, StandsFor}
use Rattle.tree_types.specs.declared.reply.Refusal.{Refusal}
use Rattle.meta_store.specs.Store.{StoreTold}
use Rattle.meta_store.specs.declared.error.StoreError.{StoreError}
use Rattle.meta_store.specs.declared.error.StoreError.TheVariants as store_error
use Rattle.history_model.specs.Walk.{WalkEnd}
use Rattle.path_walk.specs.declared.error.WalkError.{WalkError}
use Rattle.path_walk.specs.declared.error.WalkError.TheVariants.{Refused, Disk, Mem as no_memory}
use Rattle.path_walk.specs.declared.walked.Walked.{Walked}

-- this holds of each tree that the content stands for, where it is told
abbrev pub HoldsOfTree : StoreTold → (Tree → Type 0) → Type 0
HoldsOfTree told holds = IfSome told.content (λ image. (tree : Tree) (hands : List Hand) → StandsFor told.geometry (block image) tree hands → holds tree)

-- where a walk ended, as the code says it
abbrev pub end_of : Walked → WalkEnd
end_of walked = record { dir = walked.dir.0; name = walked.name; found = option_map (λ i. i.0) walked.found }

-- The walk is answered by where it ends or why it is refused, unless the disk fails or memory is short.
abbrev pub AnswersWalk : Result WalkEnd Refusal → Result Walked WalkError → Type 0
AnswersWalk walk (Ok walked) = walk ≡ Ok (end_of walked)
AnswersWalk walk (Err (Refused why)) = walk ≡ Err why
AnswersWalk walk (Err Disk) = Unit {0}
AnswersWalk walk (Err no_memory) = Unit {0}

-- the error of a store as that of a walk
abbrev pub walk_error : StoreError → WalkError
walk_error store_error.Disk = Disk
walk_error store_error.Mem = no_memory
