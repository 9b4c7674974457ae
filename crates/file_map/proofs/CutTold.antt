-- What is known of a file that got another size, where the content is told.
use Rattle.std.proofs.Common.{◌≡◌, ◌<◌, ◌≤◌, ℕ, ◌+◌, ◌-◌, ◌*◌, ◌/◌, ◌^◌, eqb, min, Bool, true, false, List, [], ◌∷◌, ◌++◌, length, map, drop, slice_index, Option, Some, None, IfSome, OnOk, Result, Ok, Err, refl, sym, ap, subst, ◌∙◌, arith}
use Rattle.std.specs.Prelude.{All}
use Rattle.std.specs.Option.{option_map}
use Rattle.std.proofs.lemmas.List.{length-map}
use Rattle.std.proofs.lemmas.List.Elements.{All-weaker, All-map}
use Rattle.lufs_base.specs.Fields.{are_zeros}
use Rattle.lufs_base.specs.Layout.{blocks_of}
use Rattle.lufs_base.specs.declared.geometry.Geometry.{Geometry}
use Rattle.volume_model.specs.declared.hand.Hand.{Hand}
use Rattle.volume_model.specs.declared.inode.Dinode.{Dinode}
use Rattle.volume_model.specs.Format.{Image, Blocks, block, IsDinode}
use Rattle.volume_model.specs.Sound.{UsedInode, used_inode, numbers_of, reading_of, used_at, is_claimed, size_in_blocks, FileNode, Node, File, tree_of}
use Rattle.volume_laws.proofs.FieldFacts.{count_of_numbers}
use Rattle.volume_laws.proofs.NumberChange.{numbers_of_used}
use Rattle.volume_laws.proofs.StoredClaims.{right_numbers}
use Rattle.change_laws.specs.Exchange.{claimed_blocks}
use Rattle.change_laws.specs.Plans.{HoldMore, blocks_past}
use Rattle.change_laws.proofs.ClaimedBlocks.{count_of_claims}
use Rattle.change_laws.proofs.FileNodes.{file_of_tree}
use Rattle.change_laws.proofs.FilePlaces.{file_fits}
use Rattle.meta_store.specs.declared.change.Change.{Change}
use Rattle.meta_store.specs.declared.change.Freed.{Freed}
use Rattle.meta_store.specs.declared.error.StoreError.{StoreError}
use Rattle.meta_store.specs.Changes.{changed}
use Rattle.meta_draft.specs.Drafted.{drafted_blocks}
use Rattle.draft_laws.specs.Drafts.{IsDraft, Draws, links_at}
use Rattle.draft_laws.specs.Freeing.{KeepsTree}
use Rattle.block_numbers.proofs.RightNumbers.{pointer_inside}
use Rattle.file_map.specs.Attached.{with_record}
use Rattle.file_map.specs.Freed.{hand_of, WasClaimed}
use Rattle.file_map.specs.Cut.{with_size, sized, lost, PutsCut}
use Rattle.file_map.proofs.OpenedFiles.{IsOpened, opened, no_file}
use Rattle.file_map.proofs.AttachedBlocks.{change_as, used_as, IsFound}
use Rattle.file_map.proofs.CutLists.{lost_past, few_past}
use Rattle.file_map.proofs.CutFreed.{lost_were}
use Rattle.file_map.proofs.CutDrawn.{lengthened, cut_drawn}

-- given up after it was drawn
kept_after : (g : Geometry) (base : Image) (taken : ℕ → Bool) (old middle new : Change) (i : ℕ) (drawn : Option Node) (links : Option ℕ) (after hands : List Hand)
    → Draws g base taken old middle i drawn links after → KeepsTree g base taken middle new hands → Draws g base taken old new i drawn links hands
kept_after g base taken old middle new i drawn links after hands draws keeps = record {
  draft = keeps.draft;
  tree = keeps.tree ∙ draws.tree;
  own_links = ap (option_map (λ u. u.inode.links)) (keeps.used i) ∙ draws.own_links;
  others = λ k away. keeps.used k ∙ draws.others k away;
}

module _ (g : Geometry) (base : Image) (taken : ℕ → Bool) (old middle new : Change) (hands : List Hand) (i size : ℕ) (d : Dinode) (file : FileNode) (draft : IsDraft g base taken old hands)
    (opens : IsOpened g (drafted_blocks old base) hands i d file) (fits : size < 2 ^ 64) (numbers : List ℕ) (less : size_in_blocks size < size_in_blocks d.size)
    (same : (k : ℕ) → k < size_in_blocks d.size → slice_index numbers k ≡ slice_index (numbers_of (drafted_blocks old base) d) k)
    (untouched : used_at (reading_of g (block base)) i ≡ used_at (reading_of g (drafted_blocks old base)) i) where
  abbrev blocks : Blocks
  blocks = drafted_blocks old base

  abbrev u : UsedInode
  u = used_inode blocks d

  abbrev kept : ℕ
  kept = size_in_blocks size

  abbrev past : ℕ
  past = size_in_blocks d.size

  abbrev list : List Freed
  list = lost d numbers kept past

  abbrev after : List Hand
  after = hand_of None list ∷ hands

  its : map (λ (f : Freed). f.block.0) list ≡ blocks_past u kept
  its =
      let most = file_fits g d opens.is.is opens.fields.size in
      lost_past blocks d numbers kept past (omega (arith, less)) (omega (arith, numbers_of_used g blocks i u opens.has.used, most)) same opens.fields.none_past

  count : length list ≡ length (blocks_past u kept)
  count = sym (length-map list (λ (f : Freed). f.block.0)) ∙ ap (λ (l : List ℕ). length l) its

  enough : length list ≤ d.blocks
  enough =
      let right = right_numbers g (reading_of g blocks) i u hands opens.has.stored opens.has.used in
      omega (arith, count, few_past i u kept, count_of_claims i u, count_of_numbers g i u right)

  held : HoldMore after hands [] (blocks_past u kept)
  held = subst (λ (l : List ℕ). HoldMore after hands [] l) its (record { inodes = λ n. refl; blocks = λ n. refl })

  were : All (WasClaimed g base) list
  were = lost_were g base draft.start i u draft.began (untouched ∙ opens.has.used) opens.is.is d numbers kept past refl (omega (arith, less)) same

  claimed : All (λ b. is_claimed (reading_of g (block base)) b ≡ true) (blocks_past u kept)
  claimed =
      subst (λ (l : List ℕ). All (λ b. is_claimed (reading_of g (block base)) b ≡ true) l) its
      (All-map (λ b. is_claimed (reading_of g (block base)) b ≡ true) (λ (f : Freed). f.block.0) list
      (All-weaker (WasClaimed g base) (λ (f : Freed). is_claimed (reading_of g (block base)) f.block.0 ≡ true) (λ f was. was.claimed) list were))

  pub shortened : PutsCut g old middle i d size (length list) kept past
      → ((taken : ℕ → Bool) (hands : List Hand) → IsDraft g base taken middle (hand_of None list ∷ hands) → All (WasClaimed g base) list → KeepsTree g base taken middle new hands)
      → Draws g base taken old new i (Some (File (with_size file size))) (links_at g blocks i) hands
  shortened puts gives =
      let drawn = cut_drawn g base taken old hands i size d file draft opens fits after (length list) less count enough held claimed middle puts in
      kept_after g base taken old middle new i (Some (File (with_size file size))) (links_at g blocks i) after hands drawn (gives taken hands drawn.draft were)

abbrev pub CutTold : Option Image → Geometry → (old new : Change) → (i size : ℕ) → Type 0
CutTold content g old new i size =
    IfSome content (λ base. (taken : ℕ → Bool) (hands : List Hand) (file : FileNode) → IsDraft g base taken old hands → tree_of g (drafted_blocks old base) i ≡ Some (File file)
    → (size_in_blocks size < size_in_blocks file.size → used_at (reading_of g (block base)) i ≡ used_at (reading_of g (drafted_blocks old base)) i)
    → Draws g base taken old new i (Some (File (with_size file size))) (links_at g (drafted_blocks old base) i) hands)

-- the same of the inode with this record, which loses blocks
abbrev pub ShortTold : Option Image → Geometry → (old new : Change) → (i : ℕ) → Dinode → (size : ℕ) → Type 0
ShortTold content g old new i d size =
    IfSome content (λ base. (taken : ℕ → Bool) (hands : List Hand) (file : FileNode) → IsDraft g base taken old hands
    → used_at (reading_of g (drafted_blocks old base)) i ≡ Some (used_inode (drafted_blocks old base) d) → tree_of g (drafted_blocks old base) i ≡ Some (File file)
    → used_at (reading_of g (block base)) i ≡ used_at (reading_of g (drafted_blocks old base)) i
    → Draws g base taken old new i (Some (File (with_size file size))) (links_at g (drafted_blocks old base) i) hands)

-- what was freed, where the content is told
abbrev pub FreedTold : Option Image → Geometry → (old new : Change) → List Freed → Type 0
FreedTold content g old new list =
    IfSome content (λ base. (taken : ℕ → Bool) (hands : List Hand) → IsDraft g base taken old (hand_of None list ∷ hands) → All (WasClaimed g base) list → KeepsTree g base taken old new hands)

-- the numbers that were read of a record
abbrev pub NumbersTold : Option Image → Geometry → Change → Dinode → (count : ℕ) → List ℕ → Type 0
NumbersTold content g old d count numbers =
    IfSome (option_map (changed old) content) (λ image. slice_index d.indirect 0 < blocks_of g → (k : ℕ) → k < count → slice_index numbers k ≡ slice_index (numbers_of (block image) d) k)

pub short_told : (content now : Option Image) (g h : Geometry) (old middle new : Change) (i size kept past : ℕ) (d : Dinode) (numbers : List ℕ) (list : List Freed) → IsDinode g.version d → size < 2 ^ 64
    → 0 < blocks_of g → kept ≡ size_in_blocks size → past ≡ min (size_in_blocks d.size) 1036 → kept < past → now ≡ content → h ≡ g → list ≡ lost d numbers kept past
    → NumbersTold content g old d past numbers → PutsCut g old middle i d size (length list) kept past → FreedTold now h middle new list → ShortTold content g old new i d size
short_told None now g h old middle new i size kept past d numbers list is fits some kept_is past_is less same geometry list_is read puts gives = tt
short_told (Some base) now g h old middle new i size kept past d numbers list is fits some kept_is past_is less same geometry list_is read puts gives = λ taken hands file draft used stands untouched.
    let blocks = drafted_blocks old base in
    let opens = opened g base taken old hands i d file draft is used stands in
    let most = file_fits g d opens.is.is opens.fields.size in
    let all : past ≡ size_in_blocks d.size = omega (arith, past_is, most) in
    let right = right_numbers g (reading_of g blocks) i (used_inode blocks d) hands opens.has.stored opens.has.used in
    let its = read (pointer_inside g i blocks d right some) in
    let list_now : list ≡ lost d numbers (size_in_blocks size) (size_in_blocks d.size) = list_is ∙ (λ t. lost d numbers (kept_is t) (all t)) in
    let frees = subst (λ (o : Option Image). FreedTold o g middle new list) same (subst (λ (k : Geometry). FreedTold now k middle new list) geometry gives) in
    shortened g base taken old middle new hands i size d file draft opens fits numbers (omega (arith, less, kept_is, all)) (λ k below. its k (omega (arith, below, all))) untouched
    (subst (λ (l : List Freed). PutsCut g old middle i d size (length l) (size_in_blocks size) (size_in_blocks d.size)) list_now
    (subst (λ (m : ℕ). PutsCut g old middle i d size (length list) m (size_in_blocks d.size)) kept_is (subst (λ (m : ℕ). PutsCut g old middle i d size (length list) kept m) all puts)))
    (λ taken hands. subst (λ (l : List Freed). IsDraft g base taken middle (hand_of None l ∷ hands) → All (WasClaimed g base) l → KeepsTree g base taken middle new hands) list_now (frees taken hands))

-- an inode that loses blocks
pub cut_short : (content now : Option Image) (g h : Geometry) (old new : Change) (i size : ℕ) (found : Option Dinode) (d : Dinode) → found ≡ Some d → size_in_blocks size < min (size_in_blocks d.size) 1036
    → now ≡ content → h ≡ g → IsFound content g old i found → ShortTold now h old new i d size → CutTold content g old new i size
cut_short None now g h old new i size found d is less same geometry read short = tt
cut_short (Some base) now g h old new i size found d is less same geometry read short = λ taken hands file draft stands untouched.
    let blocks = drafted_blocks old base in
    let used = used_as g base old i found d is read in
    let its = subst (λ (o : Option Image). ShortTold o g old new i d size) same (subst (λ (k : Geometry). ShortTold now k old new i d size) geometry short) in
    let size_is : file.size ≡ d.size = ap (λ (f : FileNode). f.size) (file_of_tree g blocks i (used_inode blocks d) file used stands).same in
    its taken hands file draft used stands (untouched (omega (arith, less, size_is)))

-- and one that doesn't
pub cut_long : (content : Option Image) (g : Geometry) (old new : Change) (i size : ℕ) (found : Option Dinode) (d : Dinode) → found ≡ Some d → IsDinode g.version d → size ≤ 4096 * 1036
    → min (size_in_blocks d.size) 1036 ≤ size_in_blocks size → new ≡ with_record g old i (sized d size 0) → IsFound content g old i found → CutTold content g old new i size
cut_long None g old new i size found d is dinode few more put read = tt
cut_long (Some base) g old new i size found d is dinode few more put read = λ taken hands file draft stands untouched.
    let blocks = drafted_blocks old base in
    let opens = opened g base taken old hands i d file draft dinode (used_as g base old i found d is read) stands in
    let most = file_fits g d opens.is.is opens.fields.size in
    change_as g base taken old (with_record g old i (sized d size 0)) new i (with_size file size) (links_at g blocks i) hands put
    (lengthened g base taken old hands i size d file draft opens (omega (arith, few)) (omega (arith, more, most)) few)

pub cut_none : (content : Option Image) (g : Geometry) (old new : Change) (i size : ℕ) (found : Option Dinode) → found ≡ None → IsFound content g old i found → CutTold content g old new i size
cut_none None g old new i size found none read = tt
cut_none (Some base) g old new i size found none read = λ taken hands file draft stands untouched.
    absurd (no_file g (drafted_blocks old base) i file (sym (ap (option_map (used_inode (drafted_blocks old base))) none) ∙ read) stands)

-- what was given back at Ok
pub given_ok : (content : Option Image) (g : Geometry) (old new : Change) (freed : List Freed) (result : Result Unit StoreError)
    → IfSome content (λ base. (taken : ℕ → Bool) (hands : List Hand) → IsDraft g base taken old (hand_of None freed ∷ hands) → All (WasClaimed g base) freed
    → OnOk result (KeepsTree g base taken old new hands))
    → OnOk result (FreedTold content g old new freed)
given_ok content g old new freed (Ok x) gives = gives
given_ok content g old new freed (Err e) gives = tt
