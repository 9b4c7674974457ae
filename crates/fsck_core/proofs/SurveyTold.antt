-- What was seen of the inodes of the blocks that a store tells, with one more.
use Rattle.std.proofs.Common.{◌≡◌, ◌<◌, ◌≤◌, ℕ, ◌+◌, ◌*◌, ◌/◌, zero, suc, ◌==◌, nat_le, Bool, true, false, not, cond, ◌&&◌, ◌||◌, if◌then◌else◌, List, [], ◌∷◌, ◌++◌, map, take, drop, length, slice_index, Option, Some, None, is_none, IfSome, refl, sym, ap, subst, ◌∙◌, inl, inr, arith}
use Rattle.std.specs.Prelude.{slice_get}
use Rattle.std.specs.List.{find, list_all, range_with_len}
use Rattle.std.specs.Option.{option_map, option_map_or, option_flatten, is_some, unwrap_or}
use Rattle.std.proofs.Math.Nat.{mul-le-mul_left}
use Rattle.std.proofs.lemmas.Bool.{cases_Bool, cases_lt, eq-eqb, leb-false, lt-leb, true≢false, false_from_ne_true}
use Rattle.std.proofs.lemmas.List.{append-nil, append_assoc}
use Rattle.std.proofs.lemmas.List.Elements.{All-nil, All-cons}
use Rattle.std.proofs.lemmas.List.Sums.{sum_by-append}
use Rattle.lufs_base.specs.Layout.{IsGeometry, blocks_of}
use Rattle.lufs_base.specs.declared.geometry.Geometry.{Geometry}
use Rattle.volume_model.specs.declared.directory.Slot.{Slot}
use Rattle.volume_model.specs.declared.inode.Dinode.{Dinode}
use Rattle.volume_model.specs.declared.finding.Kind.TheVariants.{Group as of_groups, Inode as of_inodes, Fields as of_fields}
use Rattle.volume_model.specs.Format.{Image, Blocks, block, inodes_of, is_directory, is_body}
use Rattle.volume_model.specs.Sound.{Reading, UsedInode, reading_of, inode_at, used_at, used_inode, numbers_of, chunks_at, chunk_at, slots_of, names_in_reading, is_used_in, has_bad_bytes, has_right_fields, has_bad_fields, first_of_kind, finding_of}
use Rattle.volume_laws.proofs.ClaimFacts.{length-inodes}
use Rattle.volume_laws.proofs.TreeClaims.{direct_size}
use Rattle.fsck_core.specs.declared.claims.Claims.{Claims}
use Rattle.fsck_core.specs.declared.inodes.Brief.{Brief}
use Rattle.fsck_core.specs.declared.inodes.Unsettled.{Unsettled}
use Rattle.fsck_core.specs.declared.survey.Survey.{Survey}
use Rattle.fsck_core.specs.Claimed.{used_with, blocks_claimed, times, with_zeros, HasClaimed}
use Rattle.fsck_core.specs.Inodes.{brief_of, is_settled, unsettled_of, unsettled_from, blocks_at, settled_blocks, other_blocks}
use Rattle.fsck_core.specs.Slots.{is_used_among, chunks_in, slots_in_chunks}
use Rattle.fsck_core.specs.Survey.{HasSeenNames, IsSurvey, Knows, IsHere, AreChunksOf}
use Rattle.fsck_core.proofs.ClaimBridges.{blocks-claims_at, no_blocks-claims_at}
use Rattle.fsck_core.proofs.DirectoryChunks.{chunks_of_blocks}
use Rattle.fsck_core.proofs.FieldRules.{bodies_of_fields}
use Rattle.fsck_core.proofs.Findings.{none_in_range, fails_in_range, first_in_range, found_at_kind}
use Rattle.fsck_core.proofs.Nonzero.{nonzero_at}
use Rattle.fsck_core.proofs.KeptInodes.{briefs_size, brief_at, record_of_inode, settled_by_record, settled_tests, settled_fields, other_more}
use Rattle.fsck_core.proofs.RecordSteps.{used_by_record, used_by_records, no_bad_inode}
use Rattle.fsck_core.proofs.SurveySteps.{names_of_unused, names_of_other, names_past_bad}
use Rattle.fsck_core.proofs.WithZeros.{chunks-with_zeros}

-- inode i is in use
state_here : (g : Geometry) (blocks : Blocks) (briefs : List (Option Brief)) (i : ℕ) (d : Dinode) → IsHere g blocks briefs i d
    → used_at (reading_of g blocks) i ≡ Some (used_inode blocks d)
state_here g blocks briefs i d at = used_by_record g blocks i (Some d) at.inside at.here

-- which inodes are in use, by the list
used_alike : (blocks : Blocks) (d : Option Dinode) → is_some (option_map slots_of (option_map (used_inode blocks) d)) ≡ is_some (brief_of d)
used_alike blocks None = refl
used_alike blocks (Some d) = refl

used_by_list : (g : Geometry) (blocks : Blocks) (briefs : List (Option Brief)) → Knows g blocks briefs → (j : ℕ)
    → is_used_in (names_in_reading (reading_of g blocks)) j ≡ is_used_among briefs j
used_by_list g blocks briefs knows j =
    let are = knows.briefs_are in
    let size = briefs_size g blocks briefs are ∙ knows.size in
    ap (λ (o : Option UsedInode). is_some (option_map slots_of o)) (used_by_records g blocks are.inodes j are.records size)
    ∙ used_alike blocks (option_flatten (slice_get are.inodes j))
    ∙ ap (λ (o : Option Brief). is_some o) (sym (brief_at g blocks briefs j are))

-- the names of inode i where it is no directory
pub told_other : (g : Geometry) (content : Option Image) (briefs : List (Option Brief)) (i : ℕ) (d : Dinode) (s : Survey)
    → IfSome content (λ image. IsHere g (block image) briefs i d) → is_directory d.mode ≡ false
    → IfSome content (λ image. s.claims.twice ≡ None → HasSeenNames (inodes_of g) i (reading_of g (block image)) s
    → HasSeenNames (inodes_of g) (i + 1) (reading_of g (block image)) s)
told_other g None briefs i d s at other = tt
told_other g (Some image) briefs i d s at other = λ once has.
    names_of_other (block image) (inodes_of g) i (reading_of g (block image)) d s has (state_here g (block image) briefs i d at) other at.inside

some_bad : (twice bad : Option ℕ) → (is_none twice && is_none bad) ≡ false → twice ≡ None → (k : ℕ) × (bad ≡ Some k)
some_bad None None is none = absurd (true≢false is)
some_bad None (Some k) is none = (k, refl)
some_bad (Some b) bad is none = absurd (cc)

-- where names are no longer looked at
pub told_past : (g : Geometry) (content : Option Image) (i : ℕ) (s : Survey) → (is_none s.claims.twice && is_none s.bad_chunk) ≡ false
    → IfSome content (λ image. s.claims.twice ≡ None → HasSeenNames (inodes_of g) i (reading_of g (block image)) s
    → HasSeenNames (inodes_of g) (i + 1) (reading_of g (block image)) s)
told_past g None i s past = tt
told_past g (Some image) i s past = λ once has.
    let bad = some_bad s.claims.twice s.bad_chunk past once in
    names_past_bad (inodes_of g) i bad.0 (reading_of g (block image)) s has bad.1

none_bad : (twice bad : Option ℕ) → (is_none twice && is_none bad) ≡ true → bad ≡ None
none_bad None None is = refl
none_bad None (Some k) is = absurd (cc)
none_bad (Some b) bad is = absurd (cc)

-- the chunks of a directory
chunks_of_directory : (blocks : Blocks) (d : Dinode) (numbers : List ℕ) → is_directory d.mode ≡ true → numbers ≡ numbers_of blocks d
    → chunks_at blocks d ≡ map (chunk_at blocks numbers) (range_with_len 0 (d.size / 512))
chunks_of_directory blocks d numbers directory read =
    ap (λ (b : Bool). if b then map (chunk_at blocks (numbers_of blocks d)) (range_with_len 0 (d.size / 512)) else []) directory
    ∙ ap (λ (l : List ℕ). map (chunk_at blocks l) (range_with_len 0 (d.size / 512))) (sym read)

bytes_by_chunks : (blocks : Blocks) (r : Reading) (i : ℕ) (d : Dinode) (all : Bool) → used_at r i ≡ Some (used_inode blocks d)
    → list_all is_some (chunks_at blocks d) ≡ all → has_bad_bytes r i ≡ not all
bytes_by_chunks blocks r i d all used chunks =
    ap (λ (o : Option UsedInode). option_map_or (λ u. not (list_all is_some u.chunks)) o false) used ∙ ap not chunks

-- the chunks of a directory, where its blocks stand one after the other
are_chunks : (g : Geometry) (blocks : Blocks) (briefs : List (Option Brief)) (i : ℕ) (d : Dinode) (chunks : List (Option (List Slot))) → IsHere g blocks briefs i d → is_directory d.mode ≡ true
    → chunks ≡ chunks_at blocks d → AreChunksOf (inodes_of g) (reading_of g blocks) briefs i chunks
are_chunks g blocks briefs i d chunks at directory same =
    let r = reading_of g blocks in
    let used = state_here g blocks briefs i d at in
    let some : slots_of (used_inode blocks d) ≡ Some (slots_in_chunks (chunks_at blocks d)) =
    ap (λ (b : Bool). if b then Some (slots_in_chunks (chunks_at blocks d)) else None) directory in
    record {
      bad = λ none. bytes_by_chunks blocks r i d false used (ap (list_all is_some) (sym same) ∙ none);
      good = λ slots are. record {
        inside = at.inside;
        used = used_by_list g blocks briefs at.knows;
        bytes = bytes_by_chunks blocks r i d true used (ap (list_all is_some) (sym same) ∙ are.0);
        directory =
            ap (λ (o : Option UsedInode). option_map_or is_some (option_map slots_of o) false) used
            ∙ ap (λ (o : Option (List Slot)). is_some o) some;
        slots_are =
            ap (λ (o : Option UsedInode). option_map_or (λ slots. unwrap_or slots []) (option_map slots_of o) []) used
            ∙ ap (λ (o : Option (List Slot)). unwrap_or o []) some
            ∙ ap slots_in_chunks (sym same) ∙ sym are.1;
      };
    }

pub some_above : (n : ℕ) → (n ≡ 0 → ⊥) → 0 < n
some_above zero some = absurd (some refl)
some_above (suc n) some = omega arith

pub told_looked : (g : Geometry) (content : Option Image) (briefs : List (Option Brief)) (i : ℕ) (d : Dinode) (numbers bytes : List ℕ) (s t : Survey)
    → IfSome content (λ image. IsHere g (block image) briefs i d) → IfSome content (λ image. with_zeros numbers ≡ numbers_of (block image) d)
    → is_directory d.mode ≡ true → (is_none s.claims.twice && is_none s.bad_chunk) ≡ true
    → ((k : ℕ) → k < (d.size + 4095) / 4096 → 0 < slice_index numbers k)
    → IfSome content (λ image. (k : ℕ) → k < (d.size + 4095) / 4096 → take 4096 (drop (4096 * k) bytes) ≡ block image (slice_index numbers k))
    → ((n : ℕ) (r : Reading) → AreChunksOf n r briefs i (chunks_in bytes (d.size / 512)) → s.bad_chunk ≡ None → HasSeenNames n i r s → HasSeenNames n (i + 1) r t)
    → IfSome content (λ image. s.claims.twice ≡ None → HasSeenNames (inodes_of g) i (reading_of g (block image)) s
    → HasSeenNames (inodes_of g) (i + 1) (reading_of g (block image)) t)
told_looked g None briefs i d numbers bytes s t at read directory looks there stand looked = tt
told_looked g (Some image) briefs i d numbers bytes s t at read directory looks there stand looked = λ once has.
    let n = d.size / 512 in
    let same : chunks_in bytes n ≡ chunks_at (block image) d =
    chunks_of_blocks (block image) numbers bytes n (λ k below.
    let inside : k < (d.size + 4095) / 4096 = omega (arith, below) in
    (there k inside, stand k inside))
    ∙ chunks-with_zeros (block image) numbers (range_with_len 0 n)
    ∙ sym (chunks_of_directory (block image) d (with_zeros numbers) directory read) in
    looked (inodes_of g) (reading_of g (block image)) (are_chunks g (block image) briefs i d (chunks_in bytes n) at directory same)
    (none_bad s.claims.twice s.bad_chunk looks) has

-- the first inode whose fields are wrong
found_fields : (g : Geometry) (blocks : Blocks) (briefs : List (Option Brief)) (i : ℕ) (d : Dinode) (s : Survey) → IsHere g blocks briefs i d
    → IsSurvey g (reading_of g blocks) i s → has_right_fields g i (used_inode blocks d) ≡ false → finding_of g (reading_of g blocks) [] ≡ Some (of_fields, i)
found_fields g blocks briefs i d s at has wrong =
    let r = reading_of g blocks in
    let bad : has_bad_fields g r i ≡ true =
    ap (λ (o : Option UsedInode). option_map_or (λ u. not (has_right_fields g i u)) o false) (state_here g blocks briefs i d at) ∙ ap not wrong in
    found_at_kind g r (of_groups ∷ (of_inodes ∷ [])) of_fields _ i refl
    (All-cons (λ kind. first_of_kind g r [] kind ≡ None) of_groups (of_inodes ∷ []) at.knows.groups
    (All-cons (λ kind. first_of_kind g r [] kind ≡ None) of_inodes [] (no_bad_inode g blocks at.knows.briefs_are.inodes at.knows.briefs_are.records (briefs_size g blocks briefs at.knows.briefs_are ∙ at.knows.size)) (All-nil (λ kind. first_of_kind g r [] kind ≡ None))))
    (ap (λ (n : ℕ). find (has_bad_fields g r) (range_with_len 0 n)) (length-inodes g blocks)
    ∙ first_in_range (has_bad_fields g r) i (inodes_of g) has.fields bad at.inside)

-- a pointer block that is none of the body
pointer_wrong : (g : Geometry) (blocks : Blocks) (i : ℕ) (d : Dinode) → (slice_index d.indirect 0 == 0 || is_body g (slice_index d.indirect 0)) ≡ false
    → has_right_fields g i (used_inode blocks d) ≡ false
pointer_wrong g blocks i d wrong = false_from_ne_true (has_right_fields g i (used_inode blocks d)) (λ right.
    let p = slice_index d.indirect 0 in
    let bodies = bodies_of_fields g i d (numbers_of blocks d) (chunks_at blocks d) right in
    elim (cases_Bool (p == 0)) [
      | inl none ↦ true≢false (sym (ap (λ (b : Bool). b || is_body g p) none) ∙ wrong)
      | inr some ↦
          let body : is_body g p ≡ true = nonzero_at (λ b. is_body g b ≡ true) (p ∷ numbers_of blocks d) 0 bodies (omega arith) (λ is. true≢false (sym (eq-eqb p 0 is) ∙ some)) in
          true≢false (sym (ap (λ (b : Bool). b || is_body g p) some ∙ body) ∙ wrong)
    ])

pub told_pointer_wrong : (g : Geometry) (content : Option Image) (briefs : List (Option Brief)) (i : ℕ) (d : Dinode) (s : Survey)
    → IfSome content (λ image. IsHere g (block image) briefs i d)
    → (slice_index d.indirect 0 == 0 || is_body g (slice_index d.indirect 0)) ≡ false
    → IfSome content (λ image. IsSurvey g (reading_of g (block image)) i s → finding_of g (reading_of g (block image)) [] ≡ Some (of_fields, i))
told_pointer_wrong g None briefs i d s at wrong = tt
told_pointer_wrong g (Some image) briefs i d s at wrong = λ has.
    found_fields g (block image) briefs i d s at has (pointer_wrong g (block image) i d wrong)

pub told_fields_wrong : (g : Geometry) (content : Option Image) (briefs : List (Option Brief)) (i : ℕ) (d : Dinode) (numbers : List ℕ) (s : Survey)
    → IfSome content (λ image. IsHere g (block image) briefs i d) → IfSome content (λ image. numbers ≡ numbers_of (block image) d)
    → ((chunks : List (Option (List Slot))) → has_right_fields g i (used_with d numbers chunks) ≡ false)
    → IfSome content (λ image. IsSurvey g (reading_of g (block image)) i s → finding_of g (reading_of g (block image)) [] ≡ Some (of_fields, i))
told_fields_wrong g None briefs i d numbers s at read wrong = tt
told_fields_wrong g (Some image) briefs i d numbers s at read wrong = λ has.
    let chunks = chunks_at (block image) d in
    found_fields g (block image) briefs i d s at has
    (ap (λ (l : List ℕ). has_right_fields g i (used_with d l chunks)) (sym read) ∙ wrong chunks)

-- what was seen of names, where only what is claimed has changed
abbrev pub with_claims : Survey → Claims → Survey
with_claims s claims = record { claims = claims; names = s.names; bad_chunk = s.bad_chunk; bad_name = s.bad_name }

pub told_names : (g h : Geometry) (content now : Option Image) (i : ℕ) (s t : Survey) (claims : Claims) → h ≡ g → now ≡ content
    → IfSome now (λ image. claims.twice ≡ None → HasSeenNames (inodes_of h) i (reading_of h (block image)) (with_claims s claims)
    → HasSeenNames (inodes_of h) (i + 1) (reading_of h (block image)) t)
    → IfSome content (λ image. claims.twice ≡ None → HasSeenNames (inodes_of g) i (reading_of g (block image)) s
    → HasSeenNames (inodes_of g) (i + 1) (reading_of g (block image)) t)
told_names g h None now i s t claims geometry same step = tt
told_names g h (Some image) now i s t claims geometry same step = λ once has.
    let here = subst (λ (k : Geometry). claims.twice ≡ None → HasSeenNames (inodes_of k) i (reading_of k (block image)) (with_claims s claims)
    → HasSeenNames (inodes_of k) (i + 1) (reading_of k (block image)) t) geometry
    (subst (λ (o : Option Image). IfSome o (λ image. claims.twice ≡ None → HasSeenNames (inodes_of h) i (reading_of h (block image)) (with_claims s claims)
    → HasSeenNames (inodes_of h) (i + 1) (reading_of h (block image)) t)) same step) in
    here once (record { chunk = has.chunk; name = has.name; tables = has.tables })

-- a block that isn't claimed twice with more wasn't before
once_before : (total : ℕ) (before more : List ℕ) (s t : Claims) → HasClaimed total before s → HasClaimed total (before ++ more) t → t.twice ≡ None → s.twice ≡ None
once_before total before more s t had has once =
    had.twice ∙ none_in_range (λ b. nat_le 2 (times b before)) total (λ k below.
    let after : nat_le 2 (times k (before ++ more)) ≡ false = fails_in_range (λ b. nat_le 2 (times b (before ++ more))) total k (sym has.twice ∙ once) below in
    let sum : times k (before ++ more) ≡ times k before + times k more = sum_by-append (λ c. cond (c == k) 1 0) before more in
    let few : times k (before ++ more) < 2 = leb-false 2 (times k (before ++ more)) after in
    lt-leb 2 (times k before) (omega (arith, sum, few)))

claimed_more : (g : Geometry) (blocks : Blocks) (briefs : List (Option Brief)) (i : ℕ) (d : Dinode) (first here : List ℕ) → IsHere g blocks briefs i d → blocks_at (reading_of g blocks) i ≡ here
    → first ++ other_blocks g (reading_of g blocks) (i + 1) ≡ (first ++ other_blocks g (reading_of g blocks) i) ++ here
claimed_more g blocks briefs i d first here at is =
    let r = reading_of g blocks in
    let open_here = settled_by_record g blocks i (Some d) at.inside at.here ∙ at.unsettled in
    ap (λ (l : List ℕ). first ++ l) (other_more g r i false here open_here (λ _. is)) ∙ sym (append_assoc first (other_blocks g r i) here)

fields_more : (g : Geometry) (r : Reading) (i : ℕ) → ((k : ℕ) → k < i → has_bad_fields g r k ≡ false) → has_bad_fields g r i ≡ false
    → (k : ℕ) → k < i + 1 → has_bad_fields g r k ≡ false
fields_more g r i before here k below = elim (cases_lt k i) [
  | inl less ↦ before k less
  | inr last ↦ let same : k ≡ i = omega (arith, last, below) in ap (has_bad_fields g r) same ∙ here
]

-- an inode with right fields, whose blocks were claimed and whose names were looked at
pub told_seen : (g : Geometry) (content : Option Image) (briefs : List (Option Brief)) (i : ℕ) (d : Dinode) (numbers : List ℕ) (s t : Survey) (claims : Claims)
    → IfSome content (λ image. IsHere g (block image) briefs i d) → IfSome content (λ image. numbers ≡ numbers_of (block image) d)
    → ((chunks : List (Option (List Slot))) → has_right_fields g i (used_with d numbers chunks) ≡ true)
    → ((blocks : List ℕ) → HasClaimed (blocks_of g) blocks s.claims → HasClaimed (blocks_of g) (blocks ++ blocks_claimed d numbers) claims)
    → t.claims ≡ claims
    → IfSome content (λ image. claims.twice ≡ None → HasSeenNames (inodes_of g) i (reading_of g (block image)) s
    → HasSeenNames (inodes_of g) (i + 1) (reading_of g (block image)) t)
    → IfSome content (λ image. IsSurvey g (reading_of g (block image)) i s → IsSurvey g (reading_of g (block image)) (i + 1) t)
told_seen g None briefs i d numbers s t claims at read right claimed same names = tt
told_seen g (Some image) briefs i d numbers s t claims at read right claimed same names = λ has.
    let r = reading_of g (block image) in
    let used = state_here g (block image) briefs i d at in
    let chunks = chunks_at (block image) d in
    let good : has_bad_fields g r i ≡ false =
    ap (λ (o : Option UsedInode). option_map_or (λ u. not (has_right_fields g i u)) o false) used
    ∙ ap not (ap (λ (l : List ℕ). has_right_fields g i (used_with d l chunks)) (sym read) ∙ right chunks) in
    let of_inode : blocks_at r i ≡ blocks_claimed d numbers =
    blocks-claims_at (block image) r i d used ∙ ap (λ (l : List ℕ). blocks_claimed d l) (sym read) in
    let first = settled_blocks g r (inodes_of g) in
    let before = first ++ other_blocks g r i in
    let more = claimed before has.claimed in
    record {
      fields = fields_more g r i has.fields good;
      claimed =
          subst (λ (c : Claims). HasClaimed (blocks_of g) (first ++ other_blocks g r (i + 1)) c) (sym same)
          (subst (λ (l : List ℕ). HasClaimed (blocks_of g) l claims) (sym (claimed_more g (block image) briefs i d first (blocks_claimed d numbers) at of_inode)) more);
      names = λ once.
          let after : claims.twice ≡ None = ap (λ (c : Claims). c.twice) (sym same) ∙ once in
          names after (has.names (once_before (blocks_of g) before (blocks_claimed d numbers) s.claims claims has.claimed more after));
    }

-- an inode that isn't in use
unused_passed : (g : Geometry) (blocks : Blocks) (i : ℕ) (s : Survey) → i < inodes_of g → inode_at g blocks i ≡ Some None → IsSurvey g (reading_of g blocks) i s
    → IsSurvey g (reading_of g blocks) (i + 1) s
unused_passed g blocks i s below record_is has =
    let r = reading_of g blocks in
    let none : used_at r i ≡ None = used_by_record g blocks i None below record_is in
    let first = settled_blocks g r (inodes_of g) in
    let same = other_more g r i false [] (settled_by_record g blocks i None below record_is) (λ _. no_blocks-claims_at r i none) ∙ append-nil (other_blocks g r i) in
    record {
      fields = fields_more g r i has.fields (ap (λ (o : Option UsedInode). option_map_or (λ u. not (has_right_fields g i u)) o false) none);
      claimed = subst (λ (l : List ℕ). HasClaimed (blocks_of g) (first ++ l) s.claims) (sym same) has.claimed;
      names = λ once. names_of_unused (inodes_of g) i r s (has.names once) none below;
    }

-- one that is settled
settled_passed : (g : Geometry) (blocks : Blocks) (i : ℕ) (d : Dinode) (s : Survey) → i < inodes_of g → inode_at g blocks i ≡ Some (Some d) → is_settled g d ≡ true
    → IsSurvey g (reading_of g blocks) i s → IsSurvey g (reading_of g blocks) (i + 1) s
settled_passed g blocks i d s below record_is test has =
    let r = reading_of g blocks in
    let used : used_at r i ≡ Some (used_inode blocks d) = used_by_record g blocks i (Some d) below record_is in
    let size : length d.direct ≡ 12 = direct_size g.version _ d record_is in
    let first = settled_blocks g r (inodes_of g) in
    let same = other_more g r i true [] (settled_by_record g blocks i (Some d) below record_is ∙ test) (λ never. absurd (cc)) ∙ append-nil (other_blocks g r i) in
    record {
      fields = fields_more g r i has.fields
          (ap (λ (o : Option UsedInode). option_map_or (λ u. not (has_right_fields g i u)) o false) used ∙ ap not (settled_fields g blocks i d size test));
      claimed = subst (λ (l : List ℕ). HasClaimed (blocks_of g) (first ++ l) s.claims) (sym same) has.claimed;
      names = λ once. names_of_other blocks (inodes_of g) i r d s (has.names once) used (settled_tests g d test).other below;
    }

-- What was seen before these, which are those that aren't settled among the inodes after it.
pub record HasLooked (g : Geometry) (blocks : Blocks) (rest : List Unsettled) (s : Survey) : Type 0 where
  pub seen : ℕ
  pub count : ℕ
  pub size : seen + count ≡ inodes_of g
  pub survey : IsSurvey g (reading_of g blocks) seen s
  pub rest_are : unsettled_from g blocks seen count ≡ rest

-- The next one, and what was seen of all before it.
pub record IsNext (g : Geometry) (blocks : Blocks) (briefs : List (Option Brief)) (next : Unsettled) (rest : List Unsettled) (s : Survey) : Type 0 where
  pub at : IsHere g blocks briefs next.ino next.inode
  pub survey : IsSurvey g (reading_of g blocks) next.ino s
  pub after : (t : Survey) → IsSurvey g (reading_of g blocks) (next.ino + 1) t → HasLooked g blocks rest t

first_of : {X : Type 0} (x y : X) (xs ys : List X) → x ∷ xs ≡ y ∷ ys → (x ≡ y) × (xs ≡ ys)
first_of x y xs ys same = (cc, cc)

none_first : {X : Type 0} (y : X) (ys : List X) → [] ≡ y ∷ ys → ⊥
none_first y ys same = cc

-- one inode on: it isn't in use or it is settled, or it is the next one
one_on : {Goal : Type 0} (g : Geometry) (blocks : Blocks) (seen : ℕ) (d : Option Dinode) (s : Survey) (behind rest : List Unsettled) → seen < inodes_of g → inode_at g blocks seen ≡ Some d
    → IsSurvey g (reading_of g blocks) seen s → unsettled_of g seen d ++ behind ≡ rest
    → (IsSurvey g (reading_of g blocks) (seen + 1) s → behind ≡ rest → Goal)
    → ((u : Dinode) → inode_at g blocks seen ≡ Some (Some u) → is_settled g u ≡ false → record { ino = seen; inode = u } ∷ behind ≡ rest → Goal) → Goal
one_on g blocks seen None s behind rest below record_is has is passed stopped = passed (unused_passed g blocks seen s below record_is has) is
one_on {Goal} g blocks seen (Some u) s behind rest below record_is has is passed stopped = by_test (is_settled g u) refl is
  where
    by_test : (test : Bool) → is_settled g u ≡ test → (if test then [] else (record { ino = seen; inode = u } ∷ [])) ++ behind ≡ rest → Goal
    by_test true test is = passed (settled_passed g blocks seen u s below record_is test has) is
    by_test false test is = stopped u record_is test is

next_from : (g : Geometry) (blocks : Blocks) (briefs : List (Option Brief)) (next : Unsettled) (rest : List Unsettled) (s : Survey) → Knows g blocks briefs → (seen count : ℕ)
    → seen + count ≡ inodes_of g → IsSurvey g (reading_of g blocks) seen s → unsettled_from g blocks seen count ≡ next ∷ rest → IsNext g blocks briefs next rest s
next_from g blocks briefs next rest s knows seen zero size has are = absurd (none_first next rest are)
next_from g blocks briefs next rest s knows seen (suc count) size has are =
    let below : seen < inodes_of g = omega (arith, size) in
    let more : seen + 1 + count ≡ inodes_of g = omega (arith, size) in
    let behind = unsettled_from g blocks (seen + 1) count in
    one_on g blocks seen (option_flatten (inode_at g blocks seen)) s behind (next ∷ rest) below
    (record_of_inode g blocks briefs seen knows.briefs_are (omega (arith, below, knows.size))) has are
    (λ so is. next_from g blocks briefs next rest s knows (seen + 1) count more so is)
    (λ u record_is test is.
    let both = first_of (record { ino = seen; inode = u }) next behind rest is in
    subst (λ (n : Unsettled). IsNext g blocks briefs n rest s) both.0 (record {
      at = record { knows = knows; inside = below; here = record_is; unsettled = test };
      survey = has;
      after = λ t so. record { seen = seen + 1; count = count; size = more; survey = so; rest_are = both.1 };
    }))

pub next_looked : (g : Geometry) (blocks : Blocks) (briefs : List (Option Brief)) (next : Unsettled) (rest : List Unsettled) (s : Survey) → Knows g blocks briefs
    → HasLooked g blocks (next ∷ rest) s → IsNext g blocks briefs next rest s
next_looked g blocks briefs next rest s knows looked = next_from g blocks briefs next rest s knows looked.seen looked.count looked.size looked.survey looked.rest_are

all_from : (g : Geometry) (blocks : Blocks) (briefs : List (Option Brief)) (s : Survey) → Knows g blocks briefs → (seen count : ℕ)
    → seen + count ≡ inodes_of g → IsSurvey g (reading_of g blocks) seen s → unsettled_from g blocks seen count ≡ [] → IsSurvey g (reading_of g blocks) (inodes_of g) s
all_from g blocks briefs s knows seen zero size has are =
    let end : seen ≡ inodes_of g = omega (arith, size) in
    subst (λ (n : ℕ). IsSurvey g (reading_of g blocks) n s) end has
all_from g blocks briefs s knows seen (suc count) size has are =
    let below : seen < inodes_of g = omega (arith, size) in
    let more : seen + 1 + count ≡ inodes_of g = omega (arith, size) in
    one_on g blocks seen (option_flatten (inode_at g blocks seen)) s (unsettled_from g blocks (seen + 1) count) [] below
    (record_of_inode g blocks briefs seen knows.briefs_are (omega (arith, below, knows.size))) has are
    (λ so is. all_from g blocks briefs s knows (seen + 1) count more so is)
    (λ u record_is test is. absurd (none_first (record { ino = seen; inode = u }) (unsettled_from g blocks (seen + 1) count) (sym is)))

pub all_looked : (g : Geometry) (blocks : Blocks) (briefs : List (Option Brief)) (s : Survey) → Knows g blocks briefs → HasLooked g blocks [] s → IsSurvey g (reading_of g blocks) (inodes_of g) s
all_looked g blocks briefs s knows looked = all_from g blocks briefs s knows looked.seen looked.count looked.size looked.survey looked.rest_are

-- the room for what inodes claim
pub few_inodes : (g : Geometry) → IsGeometry g → inodes_of g ≤ 65536
few_inodes g is = omega (arith, mul-le-mul_left g.groups is.ipg_high, is.groups_high)
