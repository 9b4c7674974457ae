-- A change that takes no block may be applied, where it is a draft of the content and nothing is held that was claimed before.
use Rattle.std.proofs.Common.{◌≡◌, ◌≤◌, ℕ, Bool, true, false, ◌||◌, List, [], Option, Some, None, IfSome, refl, sym, ap, ◌∙◌, subst, arith}
use Rattle.std.specs.List.{All}
use Rattle.lufs_base.specs.declared.geometry.Geometry.{Geometry}
use Rattle.volume_model.specs.declared.hand.Hand.{Hand}
use Rattle.volume_model.specs.Format.{Image, block}
use Rattle.volume_model.specs.Log.{delta_bytes}
use Rattle.volume_model.specs.Sound.{reading_of, is_among}
use Rattle.meta_store.specs.declared.change.Change.{Change}
use Rattle.meta_store.specs.Changing.{AllTold}
use Rattle.meta_store.specs.NoChange.{no_change}
use Rattle.meta_store.specs.Conditions.{MayFollow, MayApply}
use Rattle.meta_draft.specs.Drafted.{drafted_blocks}
use Rattle.draft_laws.specs.Drafts.{IsRecorded, IsDraft, HoldsNoneOf}
use Rattle.draft_laws.proofs.Ends.{follows_at_end}
use Rattle.plan_ends.specs.Planned.{IsTight}

pub nothing_recorded : (g : Geometry) → IsRecorded g no_change
nothing_recorded g = record {
  deltas = record { table = λ k d inside. absurd (omega (arith, inside)); order = λ i j d first inside. absurd (omega (arith, inside)); bytes = λ k d inside. absurd (omega (arith, inside)) };
  cancels = λ b. refl;
  raw = λ k w inside. absurd (omega (arith, inside));
}

no_more : (b : Bool) → (b || false) ≡ b
no_more true = refl
no_more false = refl

-- MayFollow asks of `taken` just its values
same_taken : (taken : ℕ → Bool) (change : Change) → change.taken ≡ [] → (λ b. taken b || is_among b change.taken) ≡ taken
same_taken taken change none = λ t b. (ap (λ (l : List ℕ). taken b || is_among b l) none ∙ no_more (taken b)) t

content_follows : (content : Option Image) (g : Geometry) (taken : ℕ → Bool) (change : Change) → change.taken ≡ []
    → IfSome content (λ base. IsTight g base taken change)
    → IfSome content (λ base. MayFollow g change (λ b. taken b || is_among b change.taken) (reading_of g (block base)) (reading_of g (drafted_blocks change base)))
content_follows None g taken change none drafts = tt
content_follows (Some base) g taken change none drafts =
    subst (λ (t : ℕ → Bool). MayFollow g change t (reading_of g (block base)) (reading_of g (drafted_blocks change base))) (sym (same_taken taken change none))
    (follows_at_end g base taken change drafts.0 drafts.1 drafts.2)

pub may_apply : (change : Change) (told : AllTold) → change.taken ≡ [] → IsRecorded told.read.geometry change
    → IfSome told.changing.room (λ room. delta_bytes change.deltas ≤ room)
    → IfSome told.read.content (λ base. IsTight told.read.geometry base told.changing.is_taken change)
    → MayApply change told
may_apply change told none recorded room drafts = record {
  taken = subst (λ (l : List ℕ). All (λ b. told.changing.is_released b ≡ true) l) (sym none) (λ k b inside. absurd (omega (arith, inside)));
  deltas = recorded.deltas;
  cancels = recorded.cancels;
  raw = recorded.raw;
  room = room;
  content = content_follows told.read.content told.read.geometry told.changing.is_taken change none drafts;
}
