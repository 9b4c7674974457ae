-- A walk with its links is answered as the model says.
use Rattle.std.proofs.Common.{◌≡◌, ℕ, zero, suc, Bool, List, [], ◌++◌, Result, Ok, Err, Option, Some, None, IfSome, sym, ap, subst, ◌∙◌}
use Rattle.std.specs.Option.{option_map}
use Rattle.std.specs.Result.{IsErr, IsErrAnd}
use Rattle.std.proofs.lemmas.Bool.{false≢true}
use Rattle.std.proofs.lemmas.List.{append-nil}
use Rattle.lufs_base.specs.declared.geometry.Geometry.{Geometry}
use Rattle.volume_model.specs.declared.hand.Hand.{Hand}
use Rattle.volume_model.specs.Format.{Image, Blocks, block}
use Rattle.tree_types.specs.declared.credentials.Cred.{Cred}
use Rattle.tree_types.specs.declared.reply.Refusal.{Refusal}
use Rattle.tree_types.specs.declared.reply.Refusal.TheVariants.{Loop}
use Rattle.volume_model.specs.Sound.{Tree, StandsFor}
use Rattle.meta_store.specs.declared.change.Change.{Change}
use Rattle.meta_store.specs.NoChange.{no_change}
use Rattle.meta_store.specs.Store.{StoreTold}
use Rattle.meta_store.specs.Changes.{changed}
use Rattle.meta_store.proofs.ImageLaid.{nothing_over}
use Rattle.meta_draft.specs.Drafted.{drafted}
use Rattle.history_model.specs.Walk.{WalkEnd, parts_of, start_of, most_followed, root, walk_of}
use Rattle.history_model.specs.Walks.{Walks}
use Rattle.history_rules.proofs.WalksLaws.{walk_is}
use Rattle.path_walk.specs.declared.error.WalkError.{WalkError}
use Rattle.path_walk.specs.declared.error.WalkError.TheVariants.{Refused, Disk, Mem as no_memory}
use Rattle.path_walk.specs.declared.walked.Walked.{Walked}
use Rattle.path_walk.specs.declared.walking.Stop.TheVariants.{End}
use Rattle.path_walk.specs.Answers.{HoldsOfTree, AnswersWalk, end_of}
use Rattle.path_walk.specs.Stops.{ComesToLink, CameTo}

-- the walk of the path ends as one from this directory with these parts, which may follow so many links more
abbrev pub Reaches : Tree → Cred → (follow : Bool) → (path : List ℕ) → (links dir : ℕ) → (parts : List (List ℕ)) → Type 0
Reaches tree cred follow path links dir parts =
    (end : Result WalkEnd Refusal) → Walks tree cred follow links dir parts end → Walks tree cred follow most_followed root (parts_of path) end

pub at_root : (tree : Tree) (cred : Cred) (follow : Bool) (path : List ℕ) (parts : List (List ℕ)) → parts ≡ parts_of path ++ [] → Reaches tree cred follow path most_followed root parts
at_root tree cred follow path parts is end walks = subst (λ (l : List (List ℕ)). Walks tree cred follow most_followed root l end) (is ∙ append-nil (parts_of path)) walks

pub over_link : (tree : Tree) (cred : Cred) (follow : Bool) (path : List ℕ) (links left dir next base : ℕ) (text : List ℕ) (parts rest more : List (List ℕ)) → links ≡ suc left → next ≡ start_of base text
    → more ≡ parts_of text ++ rest → Reaches tree cred follow path links dir parts → ComesToLink tree cred follow dir parts base text rest → Reaches tree cred follow path left next more
over_link tree cred follow path links left dir next base text parts rest more one_less begins put reaches comes end walks =
    reaches end (subst (λ (n : ℕ). Walks tree cred follow n dir parts end) (sym one_less)
    (comes.more left end (subst (λ (l : List (List ℕ)). Walks tree cred follow left (start_of base text) l end) put (subst (λ (d : ℕ). Walks tree cred follow left d more end) begins walks))))

pub too_many : (tree : Tree) (cred : Cred) (follow : Bool) (path : List ℕ) (links dir base : ℕ) (text : List ℕ) (parts rest : List (List ℕ)) → links ≡ zero
    → Reaches tree cred follow path links dir parts → ComesToLink tree cred follow dir parts base text rest → walk_of tree cred path follow ≡ Err Loop
too_many tree cred follow path links dir base text parts rest none reaches comes =
    (walk_is tree cred path follow (Err Loop)).1 (reaches (Err Loop) (subst (λ (n : ℕ). Walks tree cred follow n dir parts (Err Loop)) (sym none) comes.no_more))

pub at_end : (tree : Tree) (cred : Cred) (follow : Bool) (path : List ℕ) (links dir : ℕ) (parts left : List (List ℕ)) (walked : Walked) → Reaches tree cred follow path links dir parts
    → CameTo tree cred follow dir parts left (Ok (End walked)) → walk_of tree cred path follow ≡ Ok (end_of walked)
at_end tree cred follow path links dir parts left walked reaches came = (walk_is tree cred path follow (Ok (end_of walked))).1 (reaches (Ok (end_of walked)) (came links))

pub without_end : (tree : Tree) (cred : Cred) (follow : Bool) (path : List ℕ) (links dir : ℕ) (parts left : List (List ℕ)) (e : WalkError) → Reaches tree cred follow path links dir parts
    → CameTo tree cred follow dir parts left (Err e) → AnswersWalk (walk_of tree cred path follow) (Err e)
without_end tree cred follow path links dir parts left (Refused why) reaches came = (walk_is tree cred path follow (Err why)).1 (reaches (Err why) (came links))
without_end tree cred follow path links dir parts left Disk reaches came = tt
without_end tree cred follow path links dir parts left no_memory reaches came = tt

-- the same error, handed on
pub handed_on : (walk : Result WalkEnd Refusal) (result : Result Walked WalkError) (e : WalkError) → IsErr result → IsErrAnd result (λ x. x ≡ e) → AnswersWalk walk (Err e) → AnswersWalk walk result
handed_on walk (Ok walked) e is same answers = absurd (false≢true is)
handed_on walk (Err x) e is same answers = subst (λ (y : WalkError). AnswersWalk walk (Err y)) (sym same) answers

no_change_told : (H : Tree → Type 0) (content : Option Image) (g : Geometry)
    → IfSome (option_map (changed no_change) content) (λ image. (tree : Tree) (hands : List Hand) → StandsFor g (block image) tree hands → H tree)
    → IfSome content (λ image. (tree : Tree) (hands : List Hand) → StandsFor g (block image) tree hands → H tree)
no_change_told H None g holds = tt
no_change_told H (Some image) g holds = λ tree hands stands. holds tree hands (subst (λ (blocks : Blocks). StandsFor g blocks tree hands) (sym (ap (λ (under : Image). block under) (nothing_over image))) stands)

-- what holds with no change
pub with_no_change : (H : Tree → Type 0) (change : Change) (told : StoreTold) → change ≡ no_change → HoldsOfTree (drafted change told) H → HoldsOfTree told H
with_no_change H change told none holds = no_change_told H told.content told.geometry (subst (λ (k : Change). HoldsOfTree (drafted k told) H) none holds)
