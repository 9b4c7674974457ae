-- What a call that is planned stands on, and what its plan is.
use Rattle.std.specs.Prelude.{◌≡◌, ◌≢◌, ℕ, Bool, true, List, [], ◌∷◌, length, All, Option, None, Result, Ok, IfSome, is_some, unwrap_or}
use Rattle.lufs_base.specs.declared.geometry.Geometry.{Geometry}
use Rattle.volume_model.specs.declared.hand.Hand.{Hand}
use Rattle.volume_model.specs.Format.{Image, block}
use Rattle.volume_model.specs.Sound.{reading_of, held_inodes, Tree, tree_of, StandsFor}
use Rattle.tree_types.specs.declared.credentials.Cred.{Cred}
use Rattle.tree_types.specs.declared.call.Call.{Call}
use Rattle.tree_types.specs.declared.reply.Refusal.{Refusal}
use Rattle.tree_types.specs.declared.reply.Reply.{Reply}
use Rattle.tree_types.specs.declared.reply.Reply.TheVariants as reply
use Rattle.history_model.specs.Places.{links_in}
use Rattle.history_model.specs.Ends.{WalkEnds, ends_of}
use Rattle.history_model.specs.Wants.{Wanted, wants_at, blocks_in}
use Rattle.history_model.specs.Refusals.{Proceed, decision_at}
use Rattle.history_model.specs.Replies.{reply_of, refusal_of, tree_after}
use Rattle.change_laws.specs.Plans.{HoldMore}
use Rattle.meta_store.specs.declared.change.Change.{Change}
use Rattle.meta_store.specs.Changing.{AllTold}
use Rattle.meta_store.specs.NoChange.{no_change}
use Rattle.meta_draft.specs.Drafted.{drafted_blocks}
use Rattle.draft_laws.specs.Drafts.{IsDraft, HoldsNoneOf, links_at}

-- the inode of a hand, which is 0 where it has none
abbrev pub ino_of : Hand → ℕ
ino_of hand = unwrap_or hand.inode 0

-- the others hold all that these do but what is in the hand
abbrev pub IsSpent : Hand → (hands others : List Hand) → Type 0
IsSpent hand hands others = HoldMore hands others (held_inodes (hand ∷ [])) hand.blocks

-- The hand has just as much as is wanted.
pub record IsHandFor (wanted : Wanted) (hand : Hand) : Type 0 where
  pub inode : is_some hand.inode ≡ wanted.inode
  pub blocks : length hand.blocks ≡ blocks_in wanted

-- A call whose walks end so may be planned on a store that tells this, with this hand of those that are held. What it wants
-- now is what the hand has, which the running transaction took; after it the others are held.
pub record MayPlan (told : AllTold) (image : Image) (tree : Tree) (cred : Cred) (call : Call) (ends : WalkEnds) (held : List Hand) (hand : Hand) (after : List Hand) : Type 0 where
  pub stands : StandsFor told.read.geometry (block image) tree held
  pub walked : ends_of tree cred call ≡ Ok ends
  pub spent : IsSpent hand held after
  pub taken : All (λ b. told.changing.is_taken b ≡ true) hand.blocks
  pub wanted : decision_at told.read.geometry tree cred call ends ≡ Proceed → IsHandFor (wants_at tree call ends) hand

-- The plan of a call: it answers what the call is answered. One that is refused changes nothing. After any other the content
-- stands for the tree after the call, and just the other hands are held.
pub record IsPlanned (g : Geometry) (image : Image) (tree : Tree) (cred : Cred) (call : Call) (ino moment : ℕ) (after : List Hand) (change : Change) (answer : Reply) : Type 0 where
  pub replied : answer ≡ reply_of g tree cred call
  pub refused : (why : Refusal) → answer ≡ reply.Refused why → change ≡ no_change
  pub done : refusal_of answer ≡ None → StandsFor g (drafted_blocks change image) (tree_after g tree cred ino moment call) after

-- The change is the draft of a tree: what its content has as its tree, with as many links in each record as names.
pub record IsDrawn (g : Geometry) (base : Image) (taken : ℕ → Bool) (change : Change) (tree : Tree) (hands : List Hand) : Type 0 where
  pub draft : IsDraft g base taken change hands
  pub draws : tree_of g (drafted_blocks change base) ≡ tree
  pub links : (i : ℕ) → i ≢ 0 → IfSome (links_at g (drafted_blocks change base) i) (λ links. links ≡ links_in g tree i)

-- The change is a draft while some hands are held, of which the volume claimed nothing before.
abbrev pub IsTight : Geometry → (base : Image) → (taken : ℕ → Bool) → Change → Type 0
IsTight g base taken change = (hands : List Hand) × IsDraft g base taken change hands × HoldsNoneOf (reading_of g (block base)) hands
