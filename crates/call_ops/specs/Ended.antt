-- Where the path of a call ends, as the code says it.
use Rattle.std.specs.Prelude.{Result, Ok, Err}
use Rattle.tree_types.specs.declared.reply.Refusal.{Refusal}
use Rattle.meta_store.specs.declared.error.StoreError.{StoreError}
use Rattle.meta_store.specs.declared.error.StoreError.TheVariants as store_error
use Rattle.history_model.specs.Ends.{WalkEnds, One}
use Rattle.path_walk.specs.Answers.{end_of}
use Rattle.path_walk.specs.declared.error.WalkError.{WalkError}
use Rattle.path_walk.specs.declared.error.WalkError.TheVariants.{Refused, Disk, Mem as no_memory}
use Rattle.path_walk.specs.declared.walked.Walked.{Walked}

-- the ends of a call of one path
abbrev pub ends_by : Result Walked Refusal → Result WalkEnds Refusal
ends_by (Ok walked) = Ok (One (end_of walked))
ends_by (Err why) = Err why

-- a walk that is refused is answered so, and else as its store answers
abbrev pub answer_of : Result Walked WalkError → Result (Result Walked Refusal) StoreError
answer_of (Ok walked) = Ok (Ok walked)
answer_of (Err (Refused why)) = Ok (Err why)
answer_of (Err Disk) = Err store_error.Disk
answer_of (Err no_memory) = Err store_error.Mem
