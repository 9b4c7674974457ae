-- A draft at its end is a change that a store takes of the running version.
use Rattle.std.proofs.Common.{◌≡◌, ◌≤◌, ℕ, Bool, true, List, Option, Some, IfSome, sym, subst, ◌||◌}
use Rattle.std.specs.Prelude.{All}
use Rattle.lufs_base.specs.declared.geometry.Geometry.{Geometry}
use Rattle.volume_model.specs.declared.hand.Hand.{Hand}
use Rattle.volume_model.specs.Format.{Image, block}
use Rattle.volume_model.specs.Crash.{Record, present_of}
use Rattle.volume_model.specs.Log.{AreLoggable, delta_bytes}
use Rattle.volume_model.specs.Sound.{reading_of, is_among, IsRightTree, Tree, tree_of, Sound}
use Rattle.journal_model.specs.Journals.{Journal}
use Rattle.journal_model.specs.BlockRoles.{Roles}
use Rattle.meta_store.specs.declared.change.Change.{Change}
use Rattle.meta_store.specs.Changing.{AllTold}
use Rattle.meta_store.specs.Changes.{changed}
use Rattle.meta_store.specs.Conditions.{IsInBlock, MayFollow}
use Rattle.draft_laws.specs.Drafts.{IsDraft, HaveLinksOf, HoldsNoneOf}
use Rattle.draft_laws.proofs.Ends.{follows_at_end, stands_at_end}
use Rattle.store_laws.specs.Tied.{IsRead, TellsRunning, MayChange, running_image, running_with}

-- what follows of one content does of a content that is told
told_follows : (change : Change) (taken : ℕ → Bool) (g told : Geometry) (base : Image) (content : Option Image) → told ≡ g → content ≡ Some base
    → MayFollow g change taken (reading_of g (block base)) (reading_of g (block (changed change base)))
    → IfSome content (λ image. MayFollow told change taken (reading_of told (block image)) (reading_of told (block (changed change image))))
told_follows change taken g told base content same is follows =
    subst (λ (o : Option Image). IfSome o (λ image. MayFollow told change taken (reading_of told (block image)) (reading_of told (block (changed change image))))) (sym is)
    (subst (λ (h : Geometry). MayFollow h change taken (reading_of h (block base)) (reading_of h (block (changed change base)))) (sym same) follows)

pub draft_is_change : (g : Geometry) (roles : Roles) (r : Record) (j : Journal) (hands after : List Hand) (told : AllTold) (change : Change) (tree : Tree) → IsRead g roles (present_of r) j
    → TellsRunning g (present_of r) j told → Sound g (block (running_image g r j)) hands
    → IsDraft g (running_image g r j) (λ b. told.changing.is_taken b || is_among b change.taken) change after → HoldsNoneOf (reading_of g (block (running_image g r j))) after
    → tree_of g (running_with g r j change) ≡ tree → IsRightTree g tree → HaveLinksOf g (running_with g r j change) tree
    → All (λ b. told.changing.is_released b ≡ true) change.taken → IfSome told.changing.room (λ room. delta_bytes change.deltas ≤ room)
    → MayChange g roles r j hands told change after
draft_is_change g roles r j hands after told change tree read tells sound draft none is right links released room =
    let base = running_image g r j in
    let taken : ℕ → Bool = λ b. told.changing.is_taken b || is_among b change.taken in
    record {
      read = read;
      tells = tells;
      takes = record {
        taken = released;
        deltas = subst (λ (h : Geometry). AreLoggable h change.deltas) (sym tells.geometry) draft.recorded.deltas;
        cancels = draft.recorded.cancels;
        raw = subst (λ (h : Geometry). All (IsInBlock h) change.raw) (sym tells.geometry) draft.recorded.raw;
        room = room;
        content = told_follows change taken g told.read.geometry base told.read.content tells.geometry tells.content (follows_at_end g base taken change after draft none);
      };
      sound = sound;
      sound_after = (stands_at_end g base taken change after draft tree is right links).sound;
    }
