-- A draft after an inode was freed with its blocks, where the content is told.
use Rattle.std.proofs.Common.{◌≡◌, ◌≢◌, ◌<◌, ◌≤◌, inl, inr, ℕ, ◌+◌, eqb, Bool, true, false, not, cond, List, [], ◌∷◌, ◌++◌, map, slice_index, Option, Some, None, IfSome, Result, Ok, Err, refl, sym, ap, ◌∙◌, subst, arith}
use Rattle.std.specs.Prelude.{All, ◌==◌, nat_lt, slice_get, OnOk}
use Rattle.std.specs.Option.{option_map, option_and_then, option_flatten}
use Rattle.std.proofs.lemmas.Bool.{cases_eq, cases_lt, eq-eqb, ne_eqb, lt-ltb, both_ways}
use Rattle.lufs_base.specs.Layout.{IsGeometry, blocks_of}
use Rattle.lufs_base.specs.declared.geometry.Geometry.{Geometry}
use Rattle.lufs_base.specs.declared.numbers.Ino.{Ino}
use Rattle.volume_model.specs.declared.hand.Hand.{Hand}
use Rattle.volume_model.specs.declared.inode.Dinode.{Dinode}
use Rattle.volume_model.specs.Format.{Image, Blocks, block, inodes_of, dinode_bytes}
use Rattle.volume_model.specs.Sound.{UsedInode, InodeState, NoRecord, Unused, InUse, used_of, is_bad_state, Reading, reading_of, used_at, used_inode, inode_at, numbers_of, held_inodes, held_blocks, Node, Tree, with_node, node_of, tree_of}
use Rattle.volume_laws.proofs.ClaimFacts.{length-inodes}
use Rattle.volume_laws.proofs.StoredClaims.{right_numbers}
use Rattle.change_laws.specs.Hands.{times}
use Rattle.change_laws.specs.Exchange.{claimed_blocks}
use Rattle.change_laws.specs.Plans.{HasInode, HoldMore}
use Rattle.meta_store.specs.declared.change.Change.{Change}
use Rattle.meta_store.specs.declared.change.Freed.{Freed}
use Rattle.meta_store.specs.declared.error.StoreError.{StoreError}
use Rattle.meta_store.specs.Changes.{changed}
use Rattle.meta_store.specs.Deltas.{inode_delta}
use Rattle.meta_draft.specs.Drafted.{drafted_blocks, with_delta}
use Rattle.draft_laws.specs.Drafts.{IsDraft, Draws, links_at}
use Rattle.draft_laws.specs.Freeing.{KeepsTree}
use Rattle.draft_laws.proofs.FreedInode.{freed_drawn, all_claimed}
use Rattle.block_numbers.proofs.RightNumbers.{pointer_inside}
use Rattle.file_map.specs.Freed.{hand_of, WasClaimed}
use Rattle.file_map.specs.Dropped.{IsAsItWas, freed_of}
use Rattle.file_map.proofs.FoundInodes.{read_is, unused_past}
use Rattle.file_map.proofs.GroupShares.{numbers}
use Rattle.file_map.proofs.GivenShares.{Back}
use Rattle.file_map.proofs.DroppedBlocks.{freed_is, all_were}

-- of each draft of the content that is told in which the inode is what it was
abbrev pub Dropped : Option Image → Geometry → (old new : Change) → (i : ℕ) → Type 0
Dropped content g old new i = IfSome content (λ base. (taken : ℕ → Bool) (hands : List Hand) → IsDraft g base taken old hands → IsAsItWas g base old i
    → Draws g base taken old new i None None hands)

abbrev pub DroppedAt : Option Image → Geometry → (old new : Change) → (i : ℕ) → Result Unit StoreError → Type 0
DroppedAt content g old new i result = IfSome content (λ base. (taken : ℕ → Bool) (hands : List Hand) → IsDraft g base taken old hands → IsAsItWas g base old i
    → OnOk result (Draws g base taken old new i None None hands))

abbrev pub BackAt : Option Image → Geometry → (old new : Change) → Option Ino → List Freed → Result Unit StoreError → Type 0
BackAt content g old new inode freed result = IfSome content (λ base. (taken : ℕ → Bool) (hands : List Hand)
    → IsDraft g base taken old (hand_of inode freed ∷ hands) → All (WasClaimed g base) freed → OnOk result (KeepsTree g base taken old new hands))

-- a tree without a node there
without_none : (tree : Tree) (i : ℕ) → tree i ≡ None → tree ≡ with_node tree i None
without_none tree i none =
    let each : (k : ℕ) → tree k ≡ with_node tree i None k = λ k. elim (cases_eq k i) [
      | inl same ↦ ap tree same ∙ none ∙ sym (ap (λ (t : Bool). elim t as (λ _. Option Node) [ true ↦ None | false ↦ tree k ]) (eq-eqb k i same))
      | inr away ↦ sym (ap (λ (t : Bool). elim t as (λ _. Option Node) [ true ↦ None | false ↦ tree k ]) (ne_eqb k i away))
    ] in
    λ t k. each k t

no_node : (g : Geometry) (blocks : Blocks) (i : ℕ) → used_at (reading_of g blocks) i ≡ None → tree_of g blocks i ≡ None
unfolding tree_of
no_node g blocks i none = ap (option_map (node_of blocks)) none

its_node : (g : Geometry) (blocks : Blocks) (i : ℕ) (u : UsedInode) → used_at (reading_of g blocks) i ≡ Some u → tree_of g blocks i ≡ Some (node_of blocks u)
unfolding tree_of
its_node g blocks i u used = ap (option_map (node_of blocks)) used

-- what isn't in use
unused_drawn : (g : Geometry) (base : Image) (taken : ℕ → Bool) (change : Change) (hands : List Hand) (i : ℕ) → IsDraft g base taken change hands
    → used_at (reading_of g (drafted_blocks change base)) i ≡ None → Draws g base taken change change i None None hands
unused_drawn g base taken change hands i draft none =
    let blocks = drafted_blocks change base in
    record {
      draft = draft;
      tree = without_none (tree_of g blocks) i (no_node g blocks i none);
      own_links = ap (option_map (λ (u : UsedInode). u.inode.links)) none;
      others = λ k away. refl;
    }

pub none_dropped : (content : Option Image) (g : Geometry) (old : Change) (i : ℕ) (found : Option Dinode) → i < inodes_of g → found ≡ None
    → IfSome (option_map (changed old) content) (λ image. found ≡ option_flatten (inode_at g (block image) i)) → Dropped content g old old i
none_dropped None g old i found within none read = tt
none_dropped (Some base) g old i found within none read = λ taken hands draft was.
    let blocks = drafted_blocks old base in
    let is = read_is (Some (changed old base)) g i found within read in
    unused_drawn g base taken old hands i draft (sym is ∙ ap (option_map (used_inode blocks)) none)

-- one that the volume doesn't have, or that can't be in use
pub past_dropped : (content : Option Image) (g : Geometry) (old : Change) (i : ℕ) → inodes_of g ≤ i → Dropped content g old old i
past_dropped None g old i past = tt
past_dropped (Some base) g old i past = λ taken hands draft was. unused_drawn g base taken old hands i draft (sym (unused_past (Some (changed old base)) g i past))

low_unused : (i : ℕ) (o : Option InodeState) → i < 2 → is_bad_state i o ≡ false → option_and_then used_of o ≡ None
low_unused i None low right = refl
low_unused i (Some NoRecord) low right = refl
low_unused i (Some Unused) low right = refl
low_unused i (Some (InUse u)) low right = absurd (both_ways (nat_lt i 2) right (lt-ltb i 2 low))

pub low_dropped : (content : Option Image) (g : Geometry) (old : Change) (i : ℕ) → i < 2 → Dropped content g old old i
low_dropped None g old i low = tt
low_dropped (Some base) g old i low = λ taken hands draft was.
    let blocks = drafted_blocks old base in
    let r = reading_of g blocks in
    elim (cases_lt i (inodes_of g)) [
      | inl within ↦ unused_drawn g base taken old hands i draft (low_unused i (slice_get r.inodes i) low (draft.stored.inodes i (omega (arith, within, length-inodes g blocks))))
      | inr past ↦ unused_drawn g base taken old hands i draft (sym (unused_past (Some (changed old base)) g i past))
    ]

-- one in use
pub used_dropped : (content : Option Image) (g : Geometry) (old mid new : Change) (i : Ino) (found : Option Dinode) (d : Dinode) (freed : List Freed) → 2 ≤ i.0 → i.0 < inodes_of g → 0 < blocks_of g
    → found ≡ Some d → IfSome (option_map (changed old) content) (λ image. found ≡ option_flatten (inode_at g (block image) i.0))
    → IfSome (option_map (changed old) content) (λ image. slice_index d.indirect 0 < blocks_of g → freed ≡ freed_of d (numbers_of (block image) d))
    → mid ≡ with_delta old (inode_delta g i.0 (dinode_bytes None)) → Back content g mid new (Some i) freed → Dropped content g old new i.0
used_dropped None g old mid new i found d freed usable within some is read blocks_are put back = tt
used_dropped (Some base) g old mid new i found d freed usable within some is read blocks_are put back = λ taken hands draft was.
    let blocks = drafted_blocks old base in
    let u = used_inode blocks d in
    let used : used_at (reading_of g blocks) i.0 ≡ Some u = sym (read_is (Some (changed old base)) g i.0 found within read) ∙ ap (option_map (used_inode blocks)) is in
    let before : used_at (reading_of g (block base)) i.0 ≡ Some u = sym was ∙ used in
    let right = right_numbers g (reading_of g blocks) i.0 u hands draft.stored used in
    let freed_are : freed ≡ freed_of d u.numbers = blocks_are (pointer_inside g i.0 blocks d right some) in
    let claimed : numbers freed ≡ claimed_blocks i.0 (Some u) = ap numbers freed_are ∙ freed_is g blocks i.0 d used right in
    let after = hand_of (Some i) freed ∷ hands in
    let has : HasInode g blocks hands i.0 u (node_of blocks u) = record { geometry = draft.geometry; stored = draft.stored; used = used; stands = its_node g blocks i.0 u used } in
    let more : HoldMore after hands (i.0 ∷ []) (claimed_blocks i.0 (Some u)) = record {
      inodes = λ n. refl;
      blocks = λ b. ap (λ (l : List ℕ). times b (l ++ held_blocks hands)) (sym claimed);
    } in
    let were = all_were g base draft.start i.0 u draft.began before in
    let freed_were = subst (λ (l : List Freed). All (WasClaimed g base) l) (sym freed_are) were in
    let first = freed_drawn g base taken old hands after i.0 u (node_of blocks u) draft has (all_claimed g (block base) draft.start i.0 u draft.began before) more in
    let drawn = subst (λ (c : Change). Draws g base taken old c i.0 None None after) (sym put) first in
    let last = back taken hands drawn.draft freed_were in
    record {
      draft = last.draft;
      tree = last.tree ∙ drawn.tree;
      own_links = ap (option_map (λ (v : UsedInode). v.inode.links)) (last.used i.0) ∙ drawn.own_links;
      others = λ k away. last.used k ∙ drawn.others k away;
    }

-- by the result of the last call
pub used_result : (result : Result Unit StoreError) (content : Option Image) (g : Geometry) (old mid new : Change) (i : Ino) (found : Option Dinode) (d : Dinode) (freed : List Freed)
    → 2 ≤ i.0 → i.0 < inodes_of g → 0 < blocks_of g
    → found ≡ Some d → IfSome (option_map (changed old) content) (λ image. found ≡ option_flatten (inode_at g (block image) i.0))
    → IfSome (option_map (changed old) content) (λ image. slice_index d.indirect 0 < blocks_of g → freed ≡ freed_of d (numbers_of (block image) d))
    → mid ≡ with_delta old (inode_delta g i.0 (dinode_bytes None)) → BackAt content g mid new (Some i) freed result → DroppedAt content g old new i.0 result
used_result (Ok x) content g old mid new i found d freed usable within some is read blocks_are put back =
    used_dropped content g old mid new i found d freed usable within some is read blocks_are put back
used_result (Err e) None g old mid new i found d freed usable within some is read blocks_are put back = tt
used_result (Err e) (Some base) g old mid new i found d freed usable within some is read blocks_are put back = λ taken hands draft was. tt

pub taken_result : (result : Result Unit StoreError) (g : Geometry) (old mid new : Change) (i : ℕ) → mid ≡ with_delta old (inode_delta g i (dinode_bytes None)) → OnOk result (new.taken ≡ mid.taken) → OnOk result (new.taken ≡ old.taken)
taken_result (Ok x) g old mid new i put kept = kept ∙ ap (λ (c : Change). c.taken) put
taken_result (Err e) g old mid new i put kept = tt

-- what was read of a store that is unchanged
pub blocks_told : (content now : Option Image) (g h : Geometry) (change : Change) (d : Dinode) (freed : List Freed) → now ≡ content → h ≡ g
    → IfSome (option_map (changed change) now) (λ image. slice_index d.indirect 0 < blocks_of h → freed ≡ freed_of d (numbers_of (block image) d))
    → IfSome (option_map (changed change) content) (λ image. slice_index d.indirect 0 < blocks_of g → freed ≡ freed_of d (numbers_of (block image) d))
blocks_told content now g h change d freed same geometry read =
    let here = subst (λ (k : Geometry). IfSome (option_map (changed change) now) (λ image. slice_index d.indirect 0 < blocks_of k → freed ≡ freed_of d (numbers_of (block image) d))) geometry read in
    subst (λ (o : Option Image). IfSome (option_map (changed change) o) (λ image. slice_index d.indirect 0 < blocks_of g → freed ≡ freed_of d (numbers_of (block image) d))) same here

pub back_told : (content now : Option Image) (g h : Geometry) (mid new : Change) (inode : Option Ino) (freed items : List Freed) (result : Result Unit StoreError) → now ≡ content → h ≡ g
    → items ≡ freed → BackAt now h mid new inode items result → BackAt content g mid new inode freed result
back_told content now g h mid new inode freed items result same geometry is back =
    let here = subst (λ (o : Option Image). BackAt o h mid new inode items result) same back in
    let there = subst (λ (k : Geometry). BackAt content k mid new inode items result) geometry here in
    subst (λ (l : List Freed). BackAt content g mid new inode l result) is there
