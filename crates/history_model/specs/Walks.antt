-- The walk as a relation: one rule for each way in which a part of a path is passed.
use Rattle.std.specs.Prelude.{◌≡◌, ℕ, zero, suc, Bool, List, [], ◌∷◌, ◌++◌, Some, None, Result, Ok, Err}
use Rattle.tree_types.specs.declared.credentials.Cred.{Cred}
use Rattle.tree_types.specs.declared.reply.Refusal.{Refusal}
use Rattle.tree_types.specs.declared.reply.Refusal.TheVariants.{Noent, Loop}
use Rattle.volume_model.specs.Sound.{Tree}
use Rattle.history_model.specs.Places.{lookup}
use Rattle.history_model.specs.Walk.{WalkEnd, Step, Ends, Missing, Follows, Goes, parts_of, start_of, end_at, refused_part, step_of, is_empty}

-- how a walk goes on after this part of directory `dir`, where these parts are left
abbrev pub step_at : Tree → (follow : Bool) → (dir : ℕ) → (part : List ℕ) → (rest : List (List ℕ)) → Step
step_at tree follow dir part rest = step_of tree (is_empty rest) follow (lookup tree dir part)

-- A walk along these parts from this inode, which may follow so many links more, ends so.
pub data Walks (tree : Tree) (cred : Cred) (follow : Bool) : (links dir : ℕ) → (parts : List (List ℕ)) → Result WalkEnd Refusal → Type 0 where
  NoParts : {links dir : ℕ} → Walks tree cred follow links dir [] (Err Noent)
  -- the part can't be looked up
  Stops : {links dir : ℕ} {part : List ℕ} {rest : List (List ℕ)} {refusal : Refusal}
      → refused_part tree cred dir part ≡ Some refusal → Walks tree cred follow links dir (part ∷ rest) (Err refusal)
  -- the last part
  Last : {links dir : ℕ} {part : List ℕ} {rest : List (List ℕ)}
      → refused_part tree cred dir part ≡ None → step_at tree follow dir part rest ≡ Ends
      → Walks tree cred follow links dir (part ∷ rest) (Ok (end_at tree dir part))
  -- nothing is found in the middle
  NotThere : {links dir : ℕ} {part : List ℕ} {rest : List (List ℕ)}
      → refused_part tree cred dir part ≡ None → step_at tree follow dir part rest ≡ Missing
      → Walks tree cred follow links dir (part ∷ rest) (Err Noent)
  -- a link, where no more may be followed
  TooMany : {dir : ℕ} {part : List ℕ} {rest : List (List ℕ)} {text : List ℕ}
      → refused_part tree cred dir part ≡ None → step_at tree follow dir part rest ≡ Follows text
      → Walks tree cred follow zero dir (part ∷ rest) (Err Loop)
  -- a link, whose parts stand in its place
  Followed : {links dir : ℕ} {part : List ℕ} {rest : List (List ℕ)} {text : List ℕ} {end : Result WalkEnd Refusal}
      → refused_part tree cred dir part ≡ None → step_at tree follow dir part rest ≡ Follows text
      → Walks tree cred follow links (start_of dir text) (parts_of text ++ rest) end
      → Walks tree cred follow (suc links) dir (part ∷ rest) end
  -- anything else, from which the walk goes on
  Onward : {links dir i : ℕ} {part : List ℕ} {rest : List (List ℕ)} {end : Result WalkEnd Refusal}
      → refused_part tree cred dir part ≡ None → step_at tree follow dir part rest ≡ Goes i
      → Walks tree cred follow links i rest end
      → Walks tree cred follow links dir (part ∷ rest) end
