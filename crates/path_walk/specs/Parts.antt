-- What is answered of a part of a path that is looked up.
use Rattle.std.specs.Prelude.{◌≡◌, ℕ, Bool, List, Option, Some, None, option_map, Result, Ok, Err}
use Rattle.volume_model.specs.Sound.{Tree}
use Rattle.tree_types.specs.declared.credentials.Cred.{Cred}
use Rattle.history_model.specs.Places.{lookup}
use Rattle.history_model.specs.Walk.{refused_part, step_of}
use Rattle.path_walk.specs.declared.error.WalkError.{WalkError}
use Rattle.path_walk.specs.declared.error.WalkError.TheVariants.{Refused, Disk, Mem as no_memory}
use Rattle.path_walk.specs.declared.part_lookup.Lead.{Lead}
use Rattle.path_walk.specs.Steps.{step_taken}

-- The part may be looked up in inode `dir` and names this inode there, and so the walk goes on.
pub record IsLead (tree : Tree) (cred : Cred) (follow : Bool) (dir : ℕ) (part : List ℕ) (last : Bool) (lead : Lead) : Type 0 where
  pub none : refused_part tree cred dir part ≡ None
  pub looked : option_map (λ i. i.0) lead.found ≡ lookup tree dir part
  pub is : step_taken lead.next ≡ step_of tree last follow (option_map (λ i. i.0) lead.found)

-- It is answered by that, or by why it may not, unless the disk fails or memory is short.
abbrev pub AnswersPart : Tree → Cred → (follow : Bool) → (dir : ℕ) → (part : List ℕ) → (last : Bool) → Result Lead WalkError → Type 0
AnswersPart tree cred follow dir part last (Ok lead) = IsLead tree cred follow dir part last lead
AnswersPart tree cred follow dir part last (Err (Refused why)) = refused_part tree cred dir part ≡ Some why
AnswersPart tree cred follow dir part last (Err Disk) = Unit {0}
AnswersPart tree cred follow dir part last (Err no_memory) = Unit {0}
