-- A draft begins with no change, and at its end a store may take the change.
use Rattle.std.proofs.Common.{◌≡◌, ◌<◌, ◌≤◌, inl, inr, ℕ, ◌*◌, ◌/◌, Bool, true, false, not, ◌&&◌, ◌||◌, List, Option, Some, None, IfSome, refl, sym, ap, ◌∙◌, subst, arith}
use Rattle.std.specs.Prelude.{nat_lt, nat_le, ◌==◌, slice_index_or, IsSomeAnd}
use Rattle.std.specs.List.{Contains}
use Rattle.std.specs.Option.{option_map, option_map_or, option_flatten}
use Rattle.std.proofs.lemmas.Bool.{cases_Bool, both_ways, and_left, and_right, and_from, and_parts, false≢true, eq-eqb, le-leb, ltb-false, leb-true, not-false}
use Rattle.std.proofs.lemmas.List.Elements.{All-contains, Contains-get_or}
use Rattle.lufs_base.specs.Layout.{IsGeometry, blocks_of}
use Rattle.lufs_base.specs.declared.geometry.Geometry.{Geometry}
use Rattle.lufs_base.specs.declared.delta.Delta.{Delta}
use Rattle.lufs_base.specs.declared.delta.DeltaKind.TheVariants.{Chunk}
use Rattle.volume_model.specs.declared.hand.Hand.{Hand}
use Rattle.volume_model.specs.declared.inode.Dinode.{Dinode}
use Rattle.volume_model.specs.Format.{Image, Blocks, block, sectors_of, inodes_of, is_body}
use Rattle.volume_model.specs.Log.{is_cancel}
use Rattle.volume_model.specs.Sound.{UsedInode, Reading, reading_of, inodes_in, inode_at, used_inode, used_at, is_claimed, held_blocks, is_among, block_bit, metadata_length, IsLaid, IsStored, Names, names_in_reading, names_in_tree, links_to, has_right_links, HasRightLinks, IsRightTree, Node, Tree, node_of, tree_of, StandsFor}
use Rattle.volume_laws.proofs.ClaimFacts.{length-inodes, used_within}
use Rattle.volume_laws.proofs.StoredClaims.{stored_is_laid}
use Rattle.volume_laws.proofs.SoundParts.{in_parts, names_same}
use Rattle.volume_laws.proofs.Counting.{of_one_among}
use Rattle.volume_laws.proofs.BodyChanges.{HasRecord, has_record}
use Rattle.volume_laws.proofs.NodeFields.{links_of_inode}
use Rattle.change_laws.specs.Plans.{HasInode, HoldMore}
use Rattle.change_laws.proofs.Counts.{times-append, holds_of, holds_of_all}
use Rattle.meta_store.specs.declared.change.Change.{Change}
use Rattle.meta_store.specs.NoChange.{no_change}
use Rattle.meta_store.specs.Changes.{frees, frees_metadata}
use Rattle.meta_store.specs.Conditions.{MayFollow}
use Rattle.meta_store.proofs.ImageLaid.{nothing_over}
use Rattle.meta_store.specs.Suited.{suits_block, suits}
use Rattle.meta_draft.specs.Drafted.{drafted_blocks}
use Rattle.draft_laws.specs.Follows.{is_loose, FollowsSoFar}
use Rattle.draft_laws.specs.Drafts.{IsDraft, HaveLinksOf, HoldsNoneOf}
use Rattle.draft_laws.proofs.MetadataLengths.{suited_some}
use Rattle.draft_laws.proofs.Continues.{held_free, none_of_free, of_no_body}

not_both : (bit : Bool) → (not bit && bit) ≡ false
not_both true = refl
not_both false = refl

not_either : (bit : Bool) → (bit && not bit) ≡ false
not_either true = refl
not_either false = refl

-- nothing is loose at the beginning
begins_tight : (g : Geometry) (r : Reading) (hands : List Hand) → IsStored g r hands → (b : ℕ) → is_loose r hands b ≡ false
begins_tight g r hands stored b = elim (cases_Bool (is_among b (held_blocks hands))) [
  | inl held ↦ and_left (is_claimed r b) (is_among b (held_blocks hands)) (held_free g r hands stored b held).1
  | inr free ↦ and_right (is_claimed r b) (is_among b (held_blocks hands)) free
]

nothing_so_far : (g : Geometry) (taken loose : ℕ → Bool) (r : Reading) → FollowsSoFar g no_change taken loose r r
nothing_so_far g taken loose r = record {
  raw_before = λ k w inside. absurd (omega (arith, inside));
  raw_after = λ k w inside. absurd (omega (arith, inside));
  suited = λ k d inside. absurd (omega (arith, inside));
  loosened = λ k d inside. absurd (omega (arith, inside));
  given = λ b place from below. absurd (omega (arith, from, below));
  stays = λ b claimed unfreed tight. record { claimed = claimed; kinds = λ kind. refl; length = λ no_chunk. refl };
  grows = λ b claimed unfreed tight. omega arith;
  claimed = λ b was now. absurd (both_ways (is_claimed r b) was now);
  marked = λ b freed. absurd (false≢true freed);
  bits = record { set = λ b body. not_both (block_bit g r b); cleared = λ b body. not_either (block_bit g r b) };
}

pub nothing_drafted : (base : Image) → drafted_blocks no_change base ≡ block base
nothing_drafted base = ap (λ (image : Image). block image) (nothing_over base)

pub draft_begun : (g : Geometry) (base : Image) (taken : ℕ → Bool) (hands : List Hand) → IsGeometry g → 8 * blocks_of g ≤ sectors_of base → IsStored g (reading_of g (block base)) hands
    → IsDraft g base taken no_change hands
draft_begun g base taken hands ok room stored =
    let r = reading_of g (block base) in
    let same : reading_of g (drafted_blocks no_change base) ≡ r = ap (reading_of g) (nothing_drafted base) in
    record {
      geometry = ok;
      room = room;
      start = hands;
      began = stored;
      recorded = record {
        deltas = record { table = λ k d inside. absurd (omega (arith, inside)); order = λ i j d first inside. absurd (omega (arith, inside)); bytes = λ k d inside. absurd (omega (arith, inside)) };
        cancels = λ b. refl;
        raw = λ k w inside. absurd (omega (arith, inside));
      };
      stored = subst (λ (x : Reading). IsStored g x hands) (sym same) stored;
      follows = subst (λ (x : Reading). FollowsSoFar g no_change taken (is_loose r hands) r x) (sym same) (nothing_so_far g taken (is_loose r hands) r);
    }

no_metadata : (n : ℕ) → nat_lt 0 n ≡ false → n ≡ 0
no_metadata n none = omega (arith, ltb-false 0 n none)

module _ (g : Geometry) (base : Image) (taken : ℕ → Bool) (change : Change) (hands : List Hand) (draft : IsDraft g base taken change hands) where
  abbrev before : Reading
  before = reading_of g (block base)

  abbrev s : Reading
  s = reading_of g (drafted_blocks change base)

  before_laid : IsLaid g before
  before_laid = stored_is_laid g before draft.start draft.began

  s_laid : IsLaid g s
  s_laid = stored_is_laid g s hands draft.stored

  module _ (none : HoldsNoneOf before hands) where
    tight : (b : ℕ) → is_loose before hands b ≡ false
    tight b = elim (cases_Bool (is_among b (held_blocks hands))) [
      | inl held ↦ and_left (is_claimed before b) (is_among b (held_blocks hands)) (of_one_among b (held_blocks hands) (λ c. is_claimed before c ≡ false) none held)
      | inr free ↦ and_right (is_claimed before b) (is_among b (held_blocks hands)) free
    ]

    each_suited : (e : Delta) → Contains change.deltas e → suits g s e ≡ true
    each_suited e here = All-contains (λ (d : Delta). is_loose before hands (d.home / 4096) ≡ false → suits g s d ≡ true) change.deltas e draft.follows.suited here (tight (e.home / 4096))

    on_metadata : (e : Delta) → Contains change.deltas e → is_cancel e.kind ≡ false → 0 < metadata_length g s (e.home / 4096)
    on_metadata e here lays =
        suited_some g (drafted_blocks change base) hands draft.stored e.kind (e.home / 4096) (ap (λ (t : Bool). t || suits_block g s e.kind (e.home / 4096)) (sym lays) ∙ each_suited e here)

    -- a block that was claimed, and isn't freed as metadata
    grown : (b : ℕ) → frees_metadata change b ≡ false → metadata_length g before b ≤ metadata_length g s b
    grown b kept = elim (cases_Bool (is_body g b)) [
      | inr no_body ↦ omega (arith, of_no_body g before b before_laid no_body, of_no_body g s b s_laid no_body)
      | inl body ↦ elim (cases_Bool (is_claimed before b)) [
        | inr free ↦ omega (arith, none_of_free g before b body free)
        | inl claimed ↦ elim (cases_Bool (frees change b)) [
          | inr unfreed ↦ draft.follows.grows b claimed unfreed (tight b)
          | inl freed ↦ omega (arith, no_metadata (metadata_length g before b) (sym (draft.follows.marked b freed).metadata ∙ kept))
        ]
      ]
    ]

    fresh : (b : ℕ) → metadata_length g before b ≡ 0 → 0 < metadata_length g s b → taken b ≡ true
    fresh b empty some = elim (cases_Bool (is_body g b)) [
      | inr no_body ↦ absurd (omega (arith, empty, some, of_no_body g before b before_laid no_body, of_no_body g s b s_laid no_body))
      | inl body ↦ elim (cases_Bool (is_claimed s b)) [
        | inr free ↦ absurd (omega (arith, some, none_of_free g s b body free))
        | inl now ↦ elim (cases_Bool (is_claimed before b)) [
          | inr free ↦ (draft.follows.claimed b free now).in_transaction
          | inl claimed ↦ elim (cases_Bool (frees change b)) [
            | inl freed ↦ absurd (both_ways (is_claimed s b) (draft.follows.marked b freed).unclaimed now)
            | inr unfreed ↦ elim (cases_Bool (suits_block g before Chunk b)) [
              | inl chunk ↦ absurd (omega (arith, empty, suited_some g (block base) draft.start draft.began Chunk b chunk))
              | inr no_chunk ↦ absurd (omega (arith, empty, some, (draft.follows.stays b claimed unfreed (tight b)).length no_chunk))
            ]
          ]
        ]
      ]
    ]

    pub follows_at_end : MayFollow g change taken before s
    follows_at_end = record {
      raw_before = draft.follows.raw_before;
      raw_after = draft.follows.raw_after;
      deltas = λ k d inside. on_metadata (slice_index_or change.deltas k d) (Contains-get_or change.deltas k d inside);
      suited = λ k d inside. each_suited (slice_index_or change.deltas k d) (Contains-get_or change.deltas k d inside);
      kept = grown;
      given = draft.follows.given;
      fresh = fresh;
      stays = λ b claimed unfreed. draft.follows.stays b claimed unfreed (tight b);
      claimed = draft.follows.claimed;
      marked = draft.follows.marked;
      bits = draft.follows.bits;
    }

  -- the links
  link_tests : (i : ℕ) (o : Option UsedInode) → used_at s i ≡ o → i < inodes_in s → HaveLinksOf g (drafted_blocks change base) (tree_of g (drafted_blocks change base))
      → (option_map_or (λ u. not (has_right_links u.inode)) o false ≡ false) × (option_map_or (λ u. not (u.inode.links == links_to (inodes_in s) (names_in_reading s) i)) o false ≡ false)
  unfolding tree_of
  link_tests i None used inside links = (refl, refl)
  link_tests i (Some u) used inside links =
      let blocks = drafted_blocks change base in
      let within : i < inodes_of g = omega (arith, inside, length-inodes g blocks) in
      let own = subst (λ (o : Option UsedInode). IfSome (option_map (λ u. u.inode.links) o) (λ links. (1 ≤ links) × (links ≤ 32767) × (links ≡ links_to (inodes_of g) (names_in_tree (tree_of g blocks)) i))) used (links i within) in
      let count : links_to (inodes_of g) (names_in_tree (tree_of g blocks)) i ≡ links_to (inodes_in s) (names_in_reading s) i =
      ap (λ (m : Names). links_to (inodes_of g) m i) (names_same blocks s) ∙ ap (λ (k : ℕ). links_to k (names_in_reading s) i) (sym (length-inodes g blocks)) in (
        ap not (and_from (nat_le 1 u.inode.links) (nat_le u.inode.links 32767) (le-leb 1 u.inode.links own.0) (le-leb u.inode.links 32767 own.1)),
        ap not (eq-eqb u.inode.links (links_to (inodes_in s) (names_in_reading s) i) (own.2 ∙ count)),
      )

  right_links : HaveLinksOf g (drafted_blocks change base) (tree_of g (drafted_blocks change base)) → HasRightLinks s
  right_links links =
      record {
        range = λ i inside. (link_tests i (used_at s i) refl inside links).0;
        counted = λ i inside. (link_tests i (used_at s i) refl inside links).1;
      }

  pub stands_at_end : (tree : Tree) → tree_of g (drafted_blocks change base) ≡ tree → IsRightTree g tree → HaveLinksOf g (drafted_blocks change base) tree → StandsFor g (drafted_blocks change base) tree hands
  stands_at_end tree is right links = record {
    sound = (in_parts g (drafted_blocks change base) hands).1 (
      draft.stored,
      subst (λ (t : Tree). IsRightTree g t) (sym is) right,
      right_links (subst (λ (t : Tree). HaveLinksOf g (drafted_blocks change base) t) (sym is) links),
    );
    stands = is;
  }

-- an inode that the tree has is in use
used_case : (blocks : Blocks) (o : Option UsedInode) (node : Node) → option_map (node_of blocks) o ≡ Some node → (u : UsedInode) × (o ≡ Some u)
used_case blocks None node is = absurd (cc)
used_case blocks (Some u) node is = (u, refl)

node_in_use : (g : Geometry) (blocks : Blocks) (i : ℕ) (node : Node) → tree_of g blocks i ≡ Some node → (u : UsedInode) × (used_at (reading_of g blocks) i ≡ Some u)
unfolding tree_of
node_in_use g blocks i node stands = used_case blocks (used_at (reading_of g blocks) i) node stands

-- the record of an inode that the tree has
leads_back : (g : Geometry) (blocks : Blocks) (hands : List Hand) (i : ℕ) (u : UsedInode) (node : Node) → IsGeometry g → IsStored g (reading_of g blocks) hands → HasRecord g blocks i u
    → used_at (reading_of g blocks) i ≡ Some u → tree_of g blocks i ≡ Some node → IsSomeAnd (option_flatten (inode_at g blocks i)) (λ d. HasInode g blocks hands i (used_inode blocks d) node)
leads_back g blocks hands i u node ok stored has used stands =
    let d = has.dinode in
    let found : option_flatten (inode_at g blocks i) ≡ Some d = ap option_flatten has.there in
    subst (λ (o : Option Dinode). IsSomeAnd o (λ d. HasInode g blocks hands i (used_inode blocks d) node)) (sym found)
    (record { geometry = ok; stored = stored; used = used ∙ ap (λ (v : UsedInode). Some v) (sym has.leads); stands = stands })

pub node_has_inode : (g : Geometry) (blocks : Blocks) (hands : List Hand) (i : ℕ) (node : Node) → IsGeometry g → IsStored g (reading_of g blocks) hands → tree_of g blocks i ≡ Some node
    → IsSomeAnd (option_flatten (inode_at g blocks i)) (λ d. HasInode g blocks hands i (used_inode blocks d) node)
node_has_inode g blocks hands i node ok stored stands =
    let found = node_in_use g blocks i node stands in
    leads_back g blocks hands i found.0 node ok stored (has_record g blocks i found.0 found.1) found.1 stands

-- the links of a content that stands for a tree
link_here : (g : Geometry) (blocks : Blocks) (tree : Tree) (i : ℕ) (o : Option UsedInode) → HasRightLinks (reading_of g blocks) → tree_of g blocks ≡ tree → used_at (reading_of g blocks) i ≡ o
    → IfSome (option_map (λ u. u.inode.links) o) (λ links. (1 ≤ links) × (links ≤ 32767) × (links ≡ links_to (inodes_of g) (names_in_tree tree) i))
link_here g blocks tree i None right stands used = tt
link_here g blocks tree i (Some u) right stands used =
    let r = reading_of g blocks in
    let inside = used_within r i u used in
    let range : has_right_links u.inode ≡ true =
    not-false (has_right_links u.inode) (subst (λ (o : Option UsedInode). option_map_or (λ u. not (has_right_links u.inode)) o false ≡ false) used (right.range i inside)) in
    let both = and_parts (nat_le 1 u.inode.links) (nat_le u.inode.links 32767) range in (
      leb-true 1 u.inode.links both.0,
      leb-true u.inode.links 32767 both.1,
      links_of_inode g blocks i u right used ∙ ap (λ (t : Tree). links_to (inodes_of g) (names_in_tree t) i) stands,
    )

pub links_of_tree : (g : Geometry) (blocks : Blocks) (tree : Tree) (hands : List Hand) → StandsFor g blocks tree hands → HaveLinksOf g blocks tree
links_of_tree g blocks tree hands stands i within = link_here g blocks tree i (used_at (reading_of g blocks) i) ((in_parts g blocks hands).0 stands.sound).2 stands.stands refl

pub holds_none : (g : Geometry) (base : Image) (hands after : List Hand) (inodes blocks : List ℕ) → IsStored g (reading_of g (block base)) hands → HoldMore hands after inodes blocks
    → HoldsNoneOf (reading_of g (block base)) after
holds_none g base hands after inodes blocks stored more =
    let r = reading_of g (block base) in
    holds_of_all (λ b. is_claimed r b ≡ false) (held_blocks after) (λ b some.
    holds_of (λ c. is_claimed r c ≡ false) (held_blocks hands) b stored.apart.blocks_free (omega (arith, more.blocks b, times-append b blocks (held_blocks after), some)))
