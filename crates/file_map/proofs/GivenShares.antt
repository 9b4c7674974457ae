-- A draft after blocks were given up, where the content is told: of one group, and group after group.
use Rattle.std.proofs.Common.{◌≡◌, ◌<◌, ◌≤◌, ℕ, ◌+◌, Bool, true, false, List, [], ◌∷◌, ◌++◌, map, Option, Some, None, IfSome, Result, Ok, refl, sym, ap, subst, ◌∙◌, arith}
use Rattle.std.specs.Prelude.{All, OnOk, is_some, not, nat_lt, ◌==◌}
use Rattle.std.specs.List.{filter}
use Rattle.std.specs.Option.{option_map}
use Rattle.std.proofs.lemmas.Bool.{and_parts, eqb-true, both_ways}
use Rattle.std.proofs.lemmas.List.Elements.{All-nil, All-cons, All-head, All-tail, All-map, All-weaker, All-filter, filter_passes}
use Rattle.lufs_base.specs.declared.geometry.Geometry.{Geometry}
use Rattle.lufs_base.specs.declared.numbers.Ino.{Ino}
use Rattle.volume_model.specs.declared.hand.Hand.{Hand}
use Rattle.volume_model.specs.Format.{Image, Blocks, block, is_body, inodes_of, GroupRecord, IsGroup, group_bytes}
use Rattle.volume_model.specs.Sound.{reading_of, record_at, group_at, inodes_in, used_at, is_claimed, metadata_length, held_inodes, held_blocks, has_right_counts, Tree, tree_of}
use Rattle.volume_laws.proofs.ClaimFacts.{length-inodes}
use Rattle.volume_laws.proofs.FreeBits.{record_in_volume}
use Rattle.change_laws.specs.Hands.{HoldTheSame}
use Rattle.change_laws.specs.Marks.{group_of_inode, group_of_block, IsOfGroup, HasHandPut}
use Rattle.cyl_groups.specs.declared.group.Group.{Group}
use Rattle.cyl_groups.specs.Group.{record_of}
use Rattle.meta_store.specs.declared.change.Change.{Change}
use Rattle.meta_store.specs.declared.change.Freed.{Freed}
use Rattle.meta_store.specs.declared.error.StoreError.{StoreError}
use Rattle.meta_store.specs.Changes.{changed}
use Rattle.meta_store.specs.Deltas.{group_delta}
use Rattle.meta_draft.specs.Drafted.{drafted_blocks, with_delta}
use Rattle.draft_laws.specs.Drafts.{IsDraft}
use Rattle.draft_laws.specs.Freeing.{with_all_freed, GivesUp, KeepsTree}
use Rattle.draft_laws.proofs.FreedInode.{hands_alike}
use Rattle.draft_laws.proofs.GivenBack.{hand_given_back}
use Rattle.file_map.specs.Freed.{hand_of, is_block_of, inode_in, IsInodeOf, WasClaimed, GivesBack}
use Rattle.file_map.proofs.GroupShares.{share, rest, inode_from, hand_divided, all_left, inode_left, none_left, no_inode_left, empty_hand}

-- of each draft of the content that is told
abbrev pub Back : Option Image → Geometry → (old new : Change) → Option Ino → List Freed → Type 0
Back content g old new inode freed = IfSome content (λ base. (taken : ℕ → Bool) (hands : List Hand)
    → IsDraft g base taken old (hand_of inode freed ∷ hands) → All (WasClaimed g base) freed → KeepsTree g base taken old new hands)

-- the same, with what is still held of group n and later ones
abbrev pub BackTo : Option Image → Geometry → (n : ℕ) → (old new : Change) → Option Ino → List Freed → Type 0
BackTo content g n old new inode freed = IfSome content (λ base. (taken : ℕ → Bool) (hands : List Hand)
    → IsDraft g base taken old (hand_of inode freed ∷ hands) → All (WasClaimed g base) freed
    → KeepsTree g base taken old new (hand_of (inode_from g n inode) (rest g n freed) ∷ hands))

same_tree : (g : Geometry) (base : Image) (taken : ℕ → Bool) (change : Change) (hands : List Hand) → IsDraft g base taken change hands → KeepsTree g base taken change change hands
same_tree g base taken change hands draft = record { draft = draft; tree = refl; used = λ k. refl }

tree_then : (g : Geometry) (base : Image) (taken : ℕ → Bool) (old mid new : Change) (hands others : List Hand) → KeepsTree g base taken old mid hands → KeepsTree g base taken mid new others
    → KeepsTree g base taken old new others
tree_then g base taken old mid new hands others first second = record {
  draft = second.draft;
  tree = second.tree ∙ first.tree;
  used = λ k. second.used k ∙ first.used k;
}

-- nothing to give up
pub empty_back : (content : Option Image) (g : Geometry) (old : Change) (inode : Option Ino) (freed : List Freed) → inode ≡ None → freed ≡ [] → Back content g old old inode freed
empty_back None g old inode freed no_inode no_block = tt
empty_back (Some base) g old inode freed no_inode no_block = λ taken hands draft was.
    let without = subst (λ (o : Option Ino). IsDraft g base taken old (hand_of o freed ∷ hands)) no_inode draft in
    let none = subst (λ (l : List Freed). IsDraft g base taken old (hand_of None l ∷ hands)) no_block without in
    same_tree g base taken old hands (hands_alike g base taken old (hand_of None [] ∷ hands) hands (empty_hand hands) none)

-- a record of a group can be read
pub unread_back : (content : Option Image) (g : Geometry) (old : Change) (n : ℕ) (inode : Option Ino) (freed : List Freed) (found : Option Group) → n < g.groups → found ≡ None
    → IfSome (option_map (changed old) content) (λ image. option_map record_of found ≡ group_at g (block image) n) → Back content g old old inode freed
unread_back None g old n inode freed found within none read = tt
unread_back (Some base) g old n inode freed found within none read = λ taken hands draft was.
    let blocks = drafted_blocks old base in
    let is : record_at (reading_of g blocks) n ≡ option_map record_of found = record_in_volume g blocks n within ∙ sym read in
    let bad : not (is_some (record_at (reading_of g blocks) n)) ≡ true =
    ap (λ (o : Option GroupRecord). not (is_some o)) is ∙ ap (λ (o : Option Group). not (is_some (option_map record_of o))) none in
    absurd (both_ways (not (is_some (record_at (reading_of g blocks) n))) (draft.stored.groups n within) bad)

inode_of_group : (g : Geometry) (n : ℕ) (inode : Option Ino) (freed : List Freed) → IfSome inode (IsInodeOf g n)
    → All (λ i. group_of_inode g i ≡ n) (held_inodes (hand_of inode freed ∷ []))
inode_of_group g n None freed of_group = All-nil (λ i. group_of_inode g i ≡ n)
inode_of_group g n (Some i) freed of_group = All-cons (λ i. group_of_inode g i ≡ n) i.0 [] of_group.1 (All-nil (λ i. group_of_inode g i ≡ n))

hand_of_group : (g : Geometry) (n : ℕ) (inode : Option Ino) (freed : List Freed) → IfSome inode (IsInodeOf g n) → All (λ f. is_block_of g n f ≡ true) freed
    → IsOfGroup g n (hand_of inode freed)
hand_of_group g n inode freed of_group of_blocks = record {
  inode = inode_of_group g n inode freed of_group;
  blocks = All-map (λ b. group_of_block g b ≡ n) (λ (f : Freed). f.block.0) freed
      (All-weaker (λ (f : Freed). is_block_of g n f ≡ true) (λ f. group_of_block g f.block.0 ≡ n)
      (λ f is. eqb-true (group_of_block g f.block.0) n (and_parts (is_body g f.block.0) (group_of_block g f.block.0 == n) is).1) freed of_blocks);
}

gives_up : (g : Geometry) (base : Image) (inode : Option Ino) (freed : List Freed) → All (WasClaimed g base) freed → GivesUp g base (hand_of inode freed) freed
gives_up g base inode freed was = record {
  blocks = refl;
  claimed = All-map (λ b. is_claimed (reading_of g (block base)) b ≡ true) (λ (f : Freed). f.block.0) freed
      (All-weaker (WasClaimed g base) (λ f. is_claimed (reading_of g (block base)) f.block.0 ≡ true) (λ f is. is.claimed) freed was);
  metadata = All-weaker (WasClaimed g base) (λ f. f.meta ≡ nat_lt 0 (metadata_length g (reading_of g (block base)) f.block.0)) (λ f is. is.metadata) freed was;
}

pub record Clears (g : Geometry) (n : ℕ) (hand : Hand) (old new : GroupRecord) : Type 0 where
  pub group : IsGroup g n new
  pub counts : has_right_counts g new ≡ true
  pub put : HasHandPut g n false hand old new

-- the blocks of one group, and an inode of it
pub share_back : (content : Option Image) (g : Geometry) (old new : Change) (n : ℕ) (inode : Option Ino) (freed : List Freed) (found : Option Group) (group cleared : Group)
    → n < g.groups → found ≡ Some group
    → IfSome (option_map (changed old) content) (λ image. option_map record_of found ≡ group_at g (block image) n)
    → Clears g n (hand_of inode freed) (record_of group) (record_of cleared)
    → IfSome inode (IsInodeOf g n) → All (λ f. is_block_of g n f ≡ true) freed
    → new ≡ with_delta (with_all_freed old freed) (group_delta g n (group_bytes (record_of cleared)))
    → Back content g old new inode freed
share_back None g old new n inode freed found group cleared within some read clears of_group of_blocks is = tt
share_back (Some base) g old new n inode freed found group cleared within some read clears of_group of_blocks is = λ taken hands draft was.
    let blocks = drafted_blocks old base in
    let there : record_at (reading_of g blocks) n ≡ Some (record_of group) = record_in_volume g blocks n within ∙ sym read ∙ ap (option_map record_of) some in
    subst (λ (c : Change). KeepsTree g base taken old c hands) (sym is)
    (hand_given_back g base taken old n (hand_of inode freed) hands (record_of group) (record_of cleared) freed draft within there clears.group clears.counts
    (hand_of_group g n inode freed of_group of_blocks) clears.put (gives_up g base inode freed was))

-- a record with the bits cleared, by the geometry and the group that the code has
pub cleared_here : (g h : Geometry) (n m : ℕ) (hand : Hand) (old new : GroupRecord) → h ≡ g → m ≡ n → IsGroup h m new → has_right_counts h new ≡ true → HasHandPut h m false hand old new
    → Clears g n hand old new
cleared_here g h n m hand old new geometry number is_group counts put =
    subst (λ (k : Geometry). Clears k n hand old new) geometry (subst (λ (j : ℕ). Clears h j hand old new) number (record { group = is_group; counts = counts; put = put }))

-- at the beginning all is held
pub back_begins : (content : Option Image) (g : Geometry) (old : Change) (inode : Option Ino) (freed : List Freed) → BackTo content g 0 old old inode freed
back_begins None g old inode freed = tt
back_begins (Some base) g old inode freed = λ taken hands draft was.
    let all = subst (λ (l : List Freed). IsDraft g base taken old (hand_of inode l ∷ hands)) (sym (all_left g freed)) draft in
    same_tree g base taken old (hand_of (inode_from g 0 inode) (rest g 0 freed) ∷ hands)
    (subst (λ (o : Option Ino). IsDraft g base taken old (hand_of o (rest g 0 freed) ∷ hands)) (sym (inode_left g inode)) all)

-- what a draft holds is of the volume
bodies_in : (g : Geometry) (freed : List Freed) (more : List ℕ) → All (λ b. is_body g b ≡ true) (map (λ f. f.block.0) freed ++ more) → All (λ f. is_body g f.block.0 ≡ true) freed
bodies_in g [] more body = All-nil (λ (f : Freed). is_body g f.block.0 ≡ true)
bodies_in g (f ∷ freed) more body =
    let others = map (λ (f : Freed). f.block.0) freed ++ more in
    All-cons (λ (f : Freed). is_body g f.block.0 ≡ true) f freed (All-head (λ b. is_body g b ≡ true) f.block.0 others body)
    (bodies_in g freed more (All-tail (λ b. is_body g b ≡ true) f.block.0 others body))

bodies_of : (g : Geometry) (base : Image) (taken : ℕ → Bool) (change : Change) (inode : Option Ino) (freed : List Freed) (hands : List Hand)
    → IsDraft g base taken change (hand_of inode freed ∷ hands) → All (λ f. is_body g f.block.0 ≡ true) freed
bodies_of g base taken change inode freed hands draft = bodies_in g freed (held_blocks hands) draft.stored.apart.blocks_body

inode_within : (g : Geometry) (base : Image) (taken : ℕ → Bool) (change : Change) (inode : Option Ino) (freed : List Freed) (hands : List Hand)
    → IsDraft g base taken change (hand_of inode freed ∷ hands) → IfSome inode (λ i. i.0 < inodes_of g)
inode_within g base taken change None freed hands draft = tt
inode_within g base taken change (Some i) freed hands draft =
    let blocks = drafted_blocks change base in
    let usable = All-head (λ j. (2 ≤ j) × (j < inodes_in (reading_of g blocks))) i.0 (held_inodes hands) draft.stored.apart.inodes_usable in
    omega (arith, usable.1, length-inodes g blocks)

-- one group more
pub back_more : (content : Option Image) (g : Geometry) (n : ℕ) (old mid new : Change) (inode : Option Ino) (freed : List Freed) → BackTo content g n old mid inode freed
    → Back content g mid new (inode_in g n inode) (share g n freed) → BackTo content g (n + 1) old new inode freed
back_more None g n old mid new inode freed before step = tt
back_more (Some base) g n old mid new inode freed before step = λ taken hands draft was.
    let first = before taken hands draft was in
    let left = hand_of (inode_from g (n + 1) inode) (rest g (n + 1) freed) ∷ hands in
    let body = bodies_of g base taken old inode freed hands draft in
    let divided = hands_alike g base taken mid (hand_of (inode_from g n inode) (rest g n freed) ∷ hands) (hand_of (inode_in g n inode) (share g n freed) ∷ left)
    (hand_divided g n inode freed hands body) first.draft in
    tree_then g base taken old mid new (hand_of (inode_from g n inode) (rest g n freed) ∷ hands) left first
    (step taken left divided (All-filter (is_block_of g n) (WasClaimed g base) freed was))

-- and at the end nothing is held
pub back_ends : (content : Option Image) (g : Geometry) (old new : Change) (inode : Option Ino) (freed : List Freed) → BackTo content g g.groups old new inode freed
    → Back content g old new inode freed
back_ends None g old new inode freed before = tt
back_ends (Some base) g old new inode freed before = λ taken hands draft was.
    let last = before taken hands draft was in
    let body = bodies_of g base taken old inode freed hands draft in
    let within = inode_within g base taken old inode freed hands draft in
    let ok = draft.geometry in
    let no_inode = subst (λ (o : Option Ino). IsDraft g base taken new (hand_of o (rest g g.groups freed) ∷ hands)) (no_inode_left g ok inode within) last.draft in
    let none = subst (λ (l : List Freed). IsDraft g base taken new (hand_of None l ∷ hands)) (none_left g ok freed body) no_inode in
    record {
      draft = hands_alike g base taken new (hand_of None [] ∷ hands) hands (empty_hand hands) none;
      tree = last.tree;
      used = last.used;
    }

-- the share of a group, by what the code has of it
pub share_passes : (g h k : Geometry) (n : ℕ) (freed items part : List Freed) → h ≡ g → k ≡ g → items ≡ share h n freed → part ≡ items → All (λ f. is_block_of k n f ≡ true) part
share_passes g h k n freed items part first second is same =
    subst (λ (x : Geometry). All (λ f. is_block_of x n f ≡ true) part) (first ∙ sym second)
    (subst (λ (l : List Freed). All (λ f. is_block_of h n f ≡ true) l) (sym (same ∙ is)) (filter_passes (is_block_of h n) freed))

pub share_by : (g h : Geometry) (n : ℕ) (freed items part : List Freed) → h ≡ g → items ≡ share h n freed → part ≡ items → part ≡ share g n freed
share_by g h n freed items part geometry is same = same ∙ is ∙ ap (λ (x : Geometry). share x n freed) geometry

pub step_back : (content now : Option Image) (g h k : Geometry) (mid new : Change) (n : ℕ) (inode its : Option Ino) (freed part : List Freed) → now ≡ content → k ≡ g → h ≡ g
    → its ≡ inode_in h n inode → part ≡ share g n freed → Back now k mid new its part → Back content g mid new (inode_in g n inode) (share g n freed)
step_back content now g h k mid new n inode its freed part same first second inode_is part_is back =
    let here = subst (λ (o : Option Image). Back o k mid new its part) same back in
    let there = subst (λ (x : Geometry). Back content x mid new its part) first here in
    let with_inode = subst (λ (o : Option Ino). Back content g mid new o part) (inode_is ∙ ap (λ (x : Geometry). inode_in x n inode) second) there in
    subst (λ (l : List Freed). Back content g mid new (inode_in g n inode) l) part_is with_inode
