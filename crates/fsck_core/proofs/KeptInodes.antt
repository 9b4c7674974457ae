-- What is kept of the inodes, with one more.
use Rattle.std.proofs.Common.{◌≡◌, ◌<◌, ◌≤◌, ℕ, ◌+◌, Bool, true, false, not, if◌then◌else◌, List, [], ◌∷◌, ◌++◌, length, slice_index, Option, Some, None, inl, inr, refl, sym, ap, subst, ◌∙◌, arith, append-nil}
use Rattle.std.specs.Prelude.{option_map, slice_get}
use Rattle.std.proofs.lemmas.Option.{slice_get-map, slice_get_cases}
use Rattle.std.specs.List.{flat_map, range_with_len}
use Rattle.std.specs.Option.{option_flatten, option_map_or}
use Rattle.std.proofs.lemmas.Bool.{and_parts, eqb-true}
use Rattle.std.proofs.lemmas.List.{length-map, map-append, map-id}
use Rattle.std.proofs.lemmas.List.Concat.{flat_map-append}
use Rattle.std.proofs.lemmas.List.FromFn.{map-range_with_len_more}
use Rattle.lufs_base.specs.Layout.{blocks_of}
use Rattle.lufs_base.specs.declared.geometry.Geometry.{Geometry}
use Rattle.volume_model.specs.declared.inode.Dinode.{Dinode}
use Rattle.volume_model.specs.Format.{Blocks, inodes_of, is_directory}
use Rattle.volume_model.specs.Sound.{Reading, UsedInode, reading_of, inode_at, used_inode, chunks_at, has_right_fields}
use Rattle.fsck_core.specs.declared.claims.Claims.{Claims}
use Rattle.fsck_core.specs.declared.inodes.Brief.{Brief}
use Rattle.fsck_core.specs.declared.inodes.Unsettled.{Unsettled}
use Rattle.fsck_core.specs.Claimed.{used_with, blocks_claimed, HasClaimed}
use Rattle.fsck_core.specs.Inodes.{brief_of, AreBriefs, is_settled, unsettled_of, unsettled_from, settled_in, blocks_at, settled_blocks, other_blocks, AreKept}
use Rattle.fsck_core.proofs.ClaimBridges.{blocks-claims_at}
use Rattle.fsck_core.proofs.RecordSteps.{inode_in, used_by_record, more_inodes}
use Rattle.fsck_core.proofs.WithZeros.{claimed-with_zeros, fields-with_zeros, fields_anywhere, direct_numbers}

range_more : (i : ℕ) → range_with_len 0 (i + 1) ≡ range_with_len 0 i ++ i ∷ []
range_more i = sym (map-id (range_with_len 0 (i + 1))) ∙ map-range_with_len_more (λ (k : ℕ). k) 0 i i (omega arith) ∙ ap (λ (ks : List ℕ). ks ++ i ∷ []) (map-id (range_with_len 0 i))

-- the lists of some numbers, and of one more
pub flat_more : {X : Type 0} (f : ℕ → List X) (i : ℕ) → flat_map f (range_with_len 0 (i + 1)) ≡ flat_map f (range_with_len 0 i) ++ f i
flat_more f i = ap (flat_map f) (range_more i) ∙ flat_map-append f (range_with_len 0 i) (i ∷ []) ∙ ap (λ l. flat_map f (range_with_len 0 i) ++ l) (append-nil (f i))

pub briefs_size : (g : Geometry) (blocks : Blocks) (briefs : List (Option Brief)) (are : AreBriefs g blocks briefs) → length are.inodes ≡ length briefs
briefs_size g blocks briefs are = sym (ap length are.are ∙ length-map are.inodes brief_of)

briefs_more : (g : Geometry) (blocks : Blocks) (briefs : List (Option Brief)) (n : ℕ) (d : Option Dinode) → AreBriefs g blocks briefs → length briefs ≡ n
    → inode_at g blocks n ≡ Some d → ((u : Dinode) → d ≡ Some u → 2 ≤ n) → AreBriefs g blocks (briefs ++ brief_of d ∷ [])
briefs_more g blocks briefs n d are size next high =
    let count : length are.inodes ≡ n = briefs_size g blocks briefs are ∙ size in
    record {
      inodes = are.inodes ++ d ∷ [];
      records = more_inodes g blocks are.inodes d are.records (ap (inode_at g blocks) count ∙ next) (λ u low is. omega (arith, low, count, high u is));
      are = ap (λ (l : List (Option Brief)). l ++ brief_of d ∷ []) are.are ∙ sym (map-append brief_of are.inodes (d ∷ []));
    }

unsettled_more : (g : Geometry) (blocks : Blocks) (n : ℕ) (d : Option Dinode) → inode_at g blocks n ≡ Some d → unsettled_from g blocks 0 (n + 1) ≡ unsettled_from g blocks 0 n ++ unsettled_of g n d
unsettled_more g blocks n d next =
    flat_more (λ i. unsettled_of g i (option_flatten (inode_at g blocks i))) n
    ∙ ap (λ (o : Option (Option Dinode)). unsettled_from g blocks 0 n ++ unsettled_of g n (option_flatten o)) next

-- whether an inode is settled, by its record
settled_of : (g : Geometry) (blocks : Blocks) (d : Option Dinode) → option_map_or (λ u. is_settled g u.inode) (option_map (used_inode blocks) d) false ≡ option_map_or (is_settled g) d false
settled_of g blocks None = refl
settled_of g blocks (Some d) = refl

pub settled_by_record : (g : Geometry) (blocks : Blocks) (i : ℕ) (d : Option Dinode) → i < inodes_of g → inode_at g blocks i ≡ Some d
    → settled_in g (reading_of g blocks) i ≡ option_map_or (is_settled g) d false
settled_by_record g blocks i d below record_is =
    ap (λ (o : Option UsedInode). option_map_or (λ u. is_settled g u.inode) o false) (used_by_record g blocks i d below record_is) ∙ settled_of g blocks d

-- what the test of a settled inode says
pub record IsSettled (g : Geometry) (d : Dinode) : Type 0 where
  pub other : is_directory d.mode ≡ false
  pub none : slice_index d.indirect 0 ≡ 0
  pub right : has_right_fields g 0 (used_with d d.direct []) ≡ true

not_true : (b : Bool) → not b ≡ true → b ≡ false
not_true true is = absurd (cc)
not_true false is = refl

pub settled_tests : (g : Geometry) (d : Dinode) → is_settled g d ≡ true → IsSettled g d
settled_tests g d test =
    let two = and_parts _ _ test in
    let one = and_parts _ _ two.1 in
    record { other = not_true (is_directory d.mode) two.0; none = eqb-true (slice_index d.indirect 0) 0 one.0; right = one.1 }

settled_blocks_of : (g : Geometry) (blocks : Blocks) (i : ℕ) (d : Dinode) → i < inodes_of g → inode_at g blocks i ≡ Some (Some d) → is_settled g d ≡ true → length d.direct ≡ 12
    → blocks_at (reading_of g blocks) i ≡ blocks_claimed d d.direct
settled_blocks_of g blocks i d below record_is test size =
    blocks-claims_at blocks (reading_of g blocks) i d (used_by_record g blocks i (Some d) below record_is)
    ∙ ap (λ (l : List ℕ). blocks_claimed d l) (sym (direct_numbers blocks d size (settled_tests g d test).none)) ∙ claimed-with_zeros d d.direct

settled_more : (g : Geometry) (r : Reading) (i : ℕ) (settled : Bool) (here : List ℕ) → settled_in g r i ≡ settled → (settled ≡ true → blocks_at r i ≡ here)
    → settled_blocks g r (i + 1) ≡ settled_blocks g r i ++ (if settled then here else [])
settled_more g r i settled here test blocks =
    flat_more (λ j. if settled_in g r j then blocks_at r j else []) i
    ∙ ap (λ (b : Bool). settled_blocks g r i ++ (if b then blocks_at r i else [])) test ∙ ap (λ (l : List ℕ). settled_blocks g r i ++ l) (of_case settled blocks)
  where
    of_case : (b : Bool) → (b ≡ true → blocks_at r i ≡ here) → (if b then blocks_at r i else []) ≡ (if b then here else [])
    of_case true blocks = blocks refl
    of_case false blocks = refl

-- an inode that isn't in use
pub kept_none : (g : Geometry) (blocks : Blocks) (n : ℕ) (briefs more : List (Option Brief)) (unsettled : List Unsettled) (c : Claims) → length briefs ≡ n → n < inodes_of g
    → inode_at g blocks n ≡ Some None → more ≡ briefs ++ None ∷ [] → AreKept g blocks n briefs unsettled c → AreKept g blocks (n + 1) more unsettled c
kept_none g blocks n briefs more unsettled c size below next is kept =
    let r = reading_of g blocks in
    let same = settled_more g r n false [] (settled_by_record g blocks n None below next) (λ never. absurd (cc)) ∙ append-nil (settled_blocks g r n) in
    record {
      briefs_are = subst (λ (l : List (Option Brief)). AreBriefs g blocks l) (sym is) (briefs_more g blocks briefs n None kept.briefs_are size next (λ u never. absurd (cc)));
      unsettled_are = kept.unsettled_are ∙ sym (append-nil (unsettled_from g blocks 0 n)) ∙ sym (unsettled_more g blocks n None next);
      claimed = subst (λ (l : List ℕ). HasClaimed (blocks_of g) l c) (sym same) kept.claimed;
    }

-- one that is settled, whose blocks were claimed
pub kept_settled : (g : Geometry) (blocks : Blocks) (n : ℕ) (briefs more : List (Option Brief)) (unsettled : List Unsettled) (c e : Claims) (d : Dinode) → length briefs ≡ n → n < inodes_of g
    → inode_at g blocks n ≡ Some (Some d) → 2 ≤ n → more ≡ briefs ++ brief_of (Some d) ∷ [] → is_settled g d ≡ true → length d.direct ≡ 12
    → ((before : List ℕ) → HasClaimed (blocks_of g) before c → HasClaimed (blocks_of g) (before ++ blocks_claimed d d.direct) e)
    → AreKept g blocks n briefs unsettled c → AreKept g blocks (n + 1) more unsettled e
kept_settled g blocks n briefs more unsettled c e d size below next high is test long claimed kept =
    let r = reading_of g blocks in
    let blocks_are = settled_more g r n true (blocks_claimed d d.direct) (settled_by_record g blocks n (Some d) below next ∙ test) (λ _. settled_blocks_of g blocks n d below next test long) in
    let none : unsettled_of g n (Some d) ≡ [] = ap (λ (b : Bool). if b then [] else (record { ino = n; inode = d } ∷ [])) test in
    record {
      briefs_are = subst (λ (l : List (Option Brief)). AreBriefs g blocks l) (sym is) (briefs_more g blocks briefs n (Some d) kept.briefs_are size next (λ u some. high));
      unsettled_are = kept.unsettled_are ∙ sym (append-nil (unsettled_from g blocks 0 n)) ∙ ap (λ (l : List Unsettled). unsettled_from g blocks 0 n ++ l) (sym none)
          ∙ sym (unsettled_more g blocks n (Some d) next);
      claimed = subst (λ (l : List ℕ). HasClaimed (blocks_of g) l e) (sym blocks_are) (claimed (settled_blocks g r n) kept.claimed);
    }

-- and one that isn't
pub kept_unsettled : (g : Geometry) (blocks : Blocks) (n : ℕ) (briefs more : List (Option Brief)) (unsettled others : List Unsettled) (c : Claims) (d : Dinode) → length briefs ≡ n → n < inodes_of g
    → inode_at g blocks n ≡ Some (Some d) → 2 ≤ n → more ≡ briefs ++ brief_of (Some d) ∷ [] → is_settled g d ≡ false
    → others ≡ unsettled ++ record { ino = n; inode = d } ∷ [] → AreKept g blocks n briefs unsettled c → AreKept g blocks (n + 1) more others c
kept_unsettled g blocks n briefs more unsettled others c d size below next high is test pushed kept =
    let r = reading_of g blocks in
    let same = settled_more g r n false [] (settled_by_record g blocks n (Some d) below next ∙ test) (λ never. absurd (cc)) ∙ append-nil (settled_blocks g r n) in
    let one : unsettled_of g n (Some d) ≡ record { ino = n; inode = d } ∷ [] = ap (λ (b : Bool). if b then [] else (record { ino = n; inode = d } ∷ [])) test in
    record {
      briefs_are = subst (λ (l : List (Option Brief)). AreBriefs g blocks l) (sym is) (briefs_more g blocks briefs n (Some d) kept.briefs_are size next (λ u some. high));
      unsettled_are = pushed ∙ ap (λ (l : List Unsettled). l ++ record { ino = n; inode = d } ∷ []) kept.unsettled_are
          ∙ ap (λ (l : List Unsettled). unsettled_from g blocks 0 n ++ l) (sym one) ∙ sym (unsettled_more g blocks n (Some d) next);
      claimed = subst (λ (l : List ℕ). HasClaimed (blocks_of g) l c) (sym same) kept.claimed;
    }

-- what is kept of inode i
flat_brief : (o : Option (Option Dinode)) → option_flatten (option_map brief_of o) ≡ brief_of (option_flatten o)
flat_brief None = refl
flat_brief (Some None) = refl
flat_brief (Some (Some d)) = refl

pub brief_at : (g : Geometry) (blocks : Blocks) (briefs : List (Option Brief)) (i : ℕ) (are : AreBriefs g blocks briefs)
    → option_flatten (slice_get briefs i) ≡ brief_of (option_flatten (slice_get are.inodes i))
brief_at g blocks briefs i are =
    ap (λ (l : List (Option Brief)). option_flatten (slice_get l i)) are.are
    ∙ ap (λ (o : Option (Option Brief)). option_flatten o) (slice_get-map brief_of are.inodes i) ∙ flat_brief (slice_get are.inodes i)

-- the record of each inode
pub record_of_inode : (g : Geometry) (blocks : Blocks) (briefs : List (Option Brief)) (i : ℕ) → AreBriefs g blocks briefs → i < length briefs
    → inode_at g blocks i ≡ Some (option_flatten (inode_at g blocks i))
record_of_inode g blocks briefs i are below = elim (slice_get_cases are.inodes i).1 [
  | inl here ↦
      let is : inode_at g blocks i ≡ Some here.0 = inode_in g blocks are.inodes i here.0 are.records here.2 in
      is ∙ ap (λ (o : Option (Option Dinode)). Some (option_flatten o)) (sym is)
  | inr past ↦ absurd (omega (arith, past.0, below, briefs_size g blocks briefs are))
]

-- the blocks of those that aren't settled, with one more
pub other_more : (g : Geometry) (r : Reading) (i : ℕ) (settled : Bool) (here : List ℕ) → settled_in g r i ≡ settled → (settled ≡ false → blocks_at r i ≡ here)
    → other_blocks g r (i + 1) ≡ other_blocks g r i ++ (if settled then [] else here)
other_more g r i settled here test blocks =
    flat_more (λ j. if settled_in g r j then [] else blocks_at r j) i
    ∙ ap (λ (b : Bool). other_blocks g r i ++ (if b then [] else blocks_at r i)) test ∙ ap (λ (l : List ℕ). other_blocks g r i ++ l) (of_case settled blocks)
  where
    of_case : (b : Bool) → (b ≡ false → blocks_at r i ≡ here) → (if b then [] else blocks_at r i) ≡ (if b then [] else here)
    of_case true blocks = refl
    of_case false blocks = blocks refl

-- a settled inode has right fields, with the numbers that it has
pub settled_fields : (g : Geometry) (blocks : Blocks) (i : ℕ) (d : Dinode) → length d.direct ≡ 12 → is_settled g d ≡ true → has_right_fields g i (used_inode blocks d) ≡ true
settled_fields g blocks i d size test =
    let are = settled_tests g d test in
    let chunks = chunks_at blocks d in
    ap (λ (l : List ℕ). has_right_fields g i (used_with d l chunks)) (sym (direct_numbers blocks d size are.none))
    ∙ fields-with_zeros g i d d.direct chunks ∙ fields_anywhere g i 0 d d.direct chunks [] ∙ are.right
