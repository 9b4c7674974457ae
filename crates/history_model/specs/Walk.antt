-- The walk along a path, from the root.
use Rattle.std.specs.Prelude.{ℕ, zero, suc, ◌==◌, nat_lt, Bool, true, false, not, ◌&&◌, if◌then◌else◌, List, [], ◌∷◌, ◌++◌, length, Option, Some, None, Result, Ok, Err}
use Rattle.std.specs.List.{filter, slice_split}
use Rattle.tree_types.specs.declared.credentials.Cred.{Cred}
use Rattle.tree_types.specs.declared.reply.Refusal.{Refusal}
use Rattle.tree_types.specs.declared.reply.Refusal.TheVariants.{Notdir, Denied, Nametoolong, Noent, Loop}
use Rattle.volume_model.specs.Sound.{Node, File, Directory, Link, Tree, dot}
use Rattle.history_model.specs.Places.{is_directory_in, lookup, may}

-- the first of these whose test holds, or else the last
abbrev pub first_of : {X : Type 0} → List (Bool × X) → (last : X) → X
first_of [] last = last
first_of (row ∷ rows) last = if row.0 then row.1 else first_of rows last

abbrev pub or_dot : List (List ℕ) → List (List ℕ)
or_dot [] = dot ∷ []
or_dot (part ∷ parts) = part ∷ parts

-- The parts of a path or of the text of a link: what stands between its slashes, without empty parts. Where there are
-- none, it is the one part `.`.
abbrev pub parts_of : List ℕ → List (List ℕ)
parts_of path = or_dot (filter (λ part. nat_lt 0 (length part)) (slice_split (λ b. b == 47) path))

-- the inode of the root
abbrev pub root : ℕ
root = 2

-- how many symbolic links a walk may follow
abbrev pub most_followed : ℕ
most_followed = 8

-- where a walk ends: the directory, the last name, and the inode that the directory gives it, if there is one
pub record WalkEnd : Type 0 where
  pub dir : ℕ
  pub name : List ℕ
  pub found : Option ℕ

-- how a walk goes on after a part: it ends there, what it needs isn't there, it follows a link with this text, or it goes
-- on from this inode
pub data Step : Type 0 where
  Ends : Step
  Missing : Step
  Follows : (text : List ℕ) → Step
  Goes : (i : ℕ) → Step

abbrev pub is_empty : {X : Type 0} → List X → Bool
is_empty [] = true
is_empty (x ∷ xs) = false

-- the step on the inode that was found; `last` says that no part is left, `follow` that a link there is followed
abbrev pub step_on : (last follow : Bool) → (i : ℕ) → Option Node → Step
step_on last follow i None = if last then Ends else Goes i
step_on last follow i (Some (File file)) = if last then Ends else Goes i
step_on last follow i (Some (Directory directory)) = if last then Ends else Goes i
step_on last follow i (Some (Link link)) = if last && not follow then Ends else Follows link.text

abbrev pub step_of : Tree → (last follow : Bool) → (found : Option ℕ) → Step
step_of tree last follow None = if last then Ends else Missing
step_of tree last follow (Some i) = step_on last follow i (tree i)

-- why a part can't be looked up where the walk stands
abbrev pub part_refusals : Tree → Cred → (dir : ℕ) → (part : List ℕ) → List (Bool × Option Refusal)
part_refusals tree cred dir part =
    (not (is_directory_in tree dir), Some Notdir)
    ∷ ((not (may tree cred dir 1), Some Denied)
    ∷ ((nat_lt 255 (length part), Some Nametoolong) ∷ []))

abbrev pub refused_part : Tree → Cred → (dir : ℕ) → (part : List ℕ) → Option Refusal
refused_part tree cred dir part = first_of (part_refusals tree cred dir part) None

-- where a text begins: at the root where its first byte is a slash, else in the directory of the link
abbrev pub start_of : (dir : ℕ) → (text : List ℕ) → ℕ
start_of dir [] = dir
start_of dir (b ∷ bytes) = if b == 47 then root else dir

abbrev pub end_at : Tree → (dir : ℕ) → (name : List ℕ) → WalkEnd
end_at tree dir name = record { dir = dir; name = name; found = lookup tree dir name }

abbrev pub or_refused : Option Refusal → Result WalkEnd Refusal → Result WalkEnd Refusal
or_refused (Some refusal) next = Err refusal
or_refused None next = next

-- The walk after a part: `go` goes on from an inode with the parts that are left, and `again` from a directory with these
-- parts.
abbrev pub after_step : (rest : List (List ℕ)) → (again : ℕ → List (List ℕ) → Result WalkEnd Refusal) → (go : ℕ → Result WalkEnd Refusal) → WalkEnd → Step → Result WalkEnd Refusal
after_step rest again go end Ends = Ok end
after_step rest again go end Missing = Err Noent
after_step rest again go end (Follows text) = again (start_of end.dir text) (parts_of text ++ rest)
after_step rest again go end (Goes i) = go i

-- the walk along these parts from an inode; `again` walks on where a link is followed
abbrev pub walk_parts : (again : ℕ → List (List ℕ) → Result WalkEnd Refusal) → Tree → Cred → (follow : Bool) → (dir : ℕ) → (parts : List (List ℕ)) → Result WalkEnd Refusal
walk_parts again tree cred follow dir [] = Err Noent
walk_parts again tree cred follow dir (part ∷ rest) =
    or_refused (refused_part tree cred dir part)
    (after_step rest again (λ i. walk_parts again tree cred follow i rest) (end_at tree dir part) (step_of tree (is_empty rest) follow (lookup tree dir part)))

-- the walk that may follow so many links more
abbrev pub walk_within : (links : ℕ) → Tree → Cred → (follow : Bool) → (dir : ℕ) → (parts : List (List ℕ)) → Result WalkEnd Refusal
walk_within zero tree cred follow = walk_parts (λ dir parts. Err Loop) tree cred follow
walk_within (suc links) tree cred follow = walk_parts (walk_within links tree cred follow) tree cred follow

-- the walk of a path; `follow` says that a link at its end is followed
unfoldable pub walk_of : Tree → Cred → (path : List ℕ) → (follow : Bool) → Result WalkEnd Refusal
walk_of tree cred path follow = walk_within most_followed tree cred follow root (parts_of path)
