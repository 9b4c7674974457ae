-- What a check finds by the rules that are left, once the records and the inodes were looked at.
use Rattle.std.proofs.Common.{◌≡◌, ◌<◌, inl, inr, ℕ, Bool, true, false, not, List, [], ◌∷◌, ◌++◌, length, map, Option, Some, None, Ok, Err, refl, sym, ap, ◌∙◌, subst, arith}
use Rattle.std.specs.Prelude.{is_some, cond, ◌==◌, slice_get, option_map, find, Result, IsErrAnd, if◌then◌else◌}
use Rattle.std.specs.List.{range_with_len, filter, list_any}
use Rattle.std.specs.Option.{option_flatten, option_map_or}
use Rattle.std.proofs.lemmas.Bool.{cases_lt, or_parts, eqb-true, not-false, true≢false}
use Rattle.std.proofs.lemmas.List.Elements.{All-nil, All-cons, All-append}
use Rattle.lufs_base.specs.Layout.{blocks_of}
use Rattle.lufs_base.specs.declared.geometry.Geometry.{Geometry}
use Rattle.volume_model.specs.declared.directory.Slot.{Slot}
use Rattle.volume_model.specs.declared.finding.Kind.{Kind}
use Rattle.volume_model.specs.declared.finding.Kind.TheVariants.{Group as of_groups, Inode as of_inodes, Fields, Root, Twice, Chunk, Name, Parent, Links}
use Rattle.volume_model.specs.declared.inode.Dinode.{Dinode}
use Rattle.volume_model.specs.Format.{Blocks, inodes_of, is_directory}
use Rattle.volume_model.specs.Sound.{Reading, Names, UsedInode, reading_of, inodes_in, used_at, used_inode, slots_of, names_in_reading, slots_at, parent_at, is_used_in, names_unused, is_directory_in, claims_of, has_bad_fields, has_bad_chunk, has_bad_parent, has_bad_links, all_kinds, first_of_kind, finding_of}
use Rattle.volume_laws.proofs.ClaimFacts.{length-inodes}
use Rattle.cyl_groups.specs.declared.group.Group.{Group}
use Rattle.fsck_core.specs.declared.inodes.Brief.{Brief}
use Rattle.fsck_core.specs.declared.stop.Stop.{Stop}
use Rattle.fsck_core.specs.declared.survey.Survey.{Survey}
use Rattle.fsck_core.specs.Answers.{unless_found, IsPart}
use Rattle.fsck_core.specs.declared.stop.Stop.TheVariants.{Found}
use Rattle.fsck_core.specs.Claimed.{HasClaimed}
use Rattle.fsck_core.specs.NameTables.{HasNames}
use Rattle.fsck_core.specs.Survey.{IsSurvey}
use Rattle.fsck_core.specs.Inodes.{brief_of, AreBriefs}
use Rattle.fsck_core.specs.Tables.{AreGroups}
use Rattle.fsck_core.specs.StepsUp.{is_directory_record}
use Rattle.fsck_core.proofs.ClaimBridges.{blocks_before, blocks_before-all, twice_of_claims}
use Rattle.fsck_core.proofs.ClaimParts.{claimed_in_parts}
use Rattle.fsck_core.proofs.KeptInodes.{briefs_size, brief_at}
use Rattle.fsck_core.proofs.Findings.{NoneOf, none_in_range, fails_in_range, found_at_kind}
use Rattle.fsck_core.proofs.RecordSteps.{used_past, used_by_records, no_bad_group, no_bad_inode}

directory_case : (blocks : Blocks) (test : Bool) (slots : List Slot) → option_map_or (λ o. is_some o) (Some (if test then Some slots else None)) false ≡ test
directory_case blocks true slots = refl
directory_case blocks false slots = refl

directory_of_used : (blocks : Blocks) (d : Option Dinode)
    → option_map_or is_some (option_map slots_of (option_map (used_inode blocks) d)) false ≡ is_directory_record (brief_of d)
directory_of_used blocks None = refl
directory_of_used blocks (Some d) = directory_case blocks (is_directory d.mode) _

-- the records of which these are the briefs
records_size : (g : Geometry) (blocks : Blocks) (briefs : List (Option Brief)) (are : AreBriefs g blocks briefs) → length briefs ≡ inodes_of g → length are.inodes ≡ inodes_of g
records_size g blocks briefs are size = briefs_size g blocks briefs are ∙ size

-- it is a directory just where the record is one
pub directory_by_records : (g : Geometry) (blocks : Blocks) (briefs : List (Option Brief)) (i : ℕ) → AreBriefs g blocks briefs → length briefs ≡ inodes_of g
    → is_directory_in (names_in_reading (reading_of g blocks)) i ≡ is_directory_record (option_flatten (slice_get briefs i))
directory_by_records g blocks briefs i are size =
    ap (λ (o : Option UsedInode). option_map_or is_some (option_map slots_of o) false) (used_by_records g blocks are.inodes i are.records (records_size g blocks briefs are size))
    ∙ directory_of_used blocks (option_flatten (slice_get are.inodes i))
    ∙ ap is_directory_record (sym (brief_at g blocks briefs i are))

inode_of_used : (blocks : Blocks) (d : Option Dinode) → option_map (λ u. u.inode) (option_map (used_inode blocks) d) ≡ d
inode_of_used blocks None = refl
inode_of_used blocks (Some d) = refl

pub brief_by_records : (g : Geometry) (blocks : Blocks) (briefs : List (Option Brief)) (i : ℕ) → AreBriefs g blocks briefs → length briefs ≡ inodes_of g
    → brief_of (option_map (λ u. u.inode) (used_at (reading_of g blocks) i)) ≡ option_flatten (slice_get briefs i)
brief_by_records g blocks briefs i are size =
    ap (λ (o : Option UsedInode). brief_of (option_map (λ u. u.inode) o)) (used_by_records g blocks are.inodes i are.records (records_size g blocks briefs are size))
    ∙ ap brief_of (inode_of_used blocks (option_flatten (slice_get are.inodes i)))
    ∙ sym (brief_at g blocks briefs i are)

-- the root, by its record
pub root_by_records : (g : Geometry) (blocks : Blocks) (briefs : List (Option Brief)) (is : Bool) (found : Option ℕ) → AreBriefs g blocks briefs → length briefs ≡ inodes_of g
    → is_directory_record (option_flatten (slice_get briefs 2)) ≡ is → (if not is then Some 2 else None) ≡ found
    → found ≡ first_of_kind g (reading_of g blocks) [] Root
root_by_records g blocks briefs is found are size record_is found_is =
    sym (ap (λ (b : Bool). if not b then Some 2 else None) (directory_by_records g blocks briefs 2 are size ∙ record_is) ∙ found_is)

-- where no directory names an unused inode, the second slot of each names an inode that there is
used_below : (g : Geometry) (blocks : Blocks) (i : ℕ) → is_used_in (names_in_reading (reading_of g blocks)) i ≡ true → i < inodes_of g
used_below g blocks i used = elim (cases_lt i (inodes_of g)) [
  | inl below ↦ below
  | inr past ↦ absurd (true≢false (sym used ∙ ap (λ (o : Option UsedInode). is_some (option_map slots_of o)) (used_past g blocks i past)))
]

second_of : (m : Names) (total : ℕ) (slots : List Slot) → 0 < total → ((i : ℕ) → is_used_in m i ≡ true → i < total)
    → list_any (λ s. not (is_used_in m s.ino)) (filter (λ s. not (s.ino == 0)) slots) ≡ false
    → option_map_or (λ s. s.ino) (slice_get slots 1) 0 < total
second_of m total [] some below none = some
second_of m total (s ∷ []) some below none = some
second_of m total (s ∷ (t ∷ slots)) some below none = second_case m total s t slots (s.ino == 0) (t.ino == 0) some below (λ is. eqb-true t.ino 0 is) none
  where
    second_case : (m : Names) (total : ℕ) (s t : Slot) (slots : List Slot) (first second : Bool) → 0 < total → ((i : ℕ) → is_used_in m i ≡ true → i < total)
        → (second ≡ true → t.ino ≡ 0)
        → list_any (λ s. not (is_used_in m s.ino)) (cond (not first) (s ∷ cond (not second) (t ∷ filter (λ s. not (s.ino == 0)) slots) (filter (λ s. not (s.ino == 0)) slots)) (cond (not second) (t ∷ filter (λ s. not (s.ino == 0)) slots) (filter (λ s. not (s.ino == 0)) slots))) ≡ false
        → t.ino < total
    second_case m total s t slots first true some below is none = omega (arith, some, is refl)
    second_case m total s t slots true false some below is none =
        below t.ino (not-false (is_used_in m t.ino) (or_parts (not (is_used_in m t.ino)) _ none).0)
    second_case m total s t slots false false some below is none =
        below t.ino (not-false (is_used_in m t.ino) (or_parts (not (is_used_in m t.ino)) _ (or_parts (not (is_used_in m s.ino)) _ none).1).0)

pub parent_below : (g : Geometry) (blocks : Blocks) (i : ℕ) → i < inodes_of g → names_unused (names_in_reading (reading_of g blocks)) i ≡ false
    → parent_at (names_in_reading (reading_of g blocks)) i < inodes_of g
parent_below g blocks i below none =
    let m = names_in_reading (reading_of g blocks) in
    second_of m (inodes_of g) (slots_at m i) (omega (arith, below)) (used_below g blocks) none

-- a rule that is not broken
pub passed : (kind : Kind) (found : Option ℕ) (done : Unit {0}) → Ok done ≡ unless_found kind found → found ≡ None
passed kind None done says = refl
passed kind (Some n) done says = absurd cc

finding_part : {T : Type 0} (Keeps : T → Type 0) (g : Geometry) (blocks : Blocks) (kind : Kind) (n : ℕ) (stop : Stop) → Found kind n ≡ stop
    → finding_of g (reading_of g blocks) [] ≡ Some (kind, n) → IsPart g blocks Keeps (Err stop)
finding_part Keeps g blocks kind n stop is found = subst (λ (s : Stop). IsPart g blocks Keeps (Err s)) is found

-- a rule that is broken, where none of those before it is
pub stopped : {T : Type 0} (Keeps : T → Type 0) (g : Geometry) (blocks : Blocks) (before : List Kind) (kind : Kind) (after : List Kind) (found : Option ℕ) (stop : Stop) (result : Result T Stop)
    → all_kinds ≡ before ++ kind ∷ after → NoneOf g (reading_of g blocks) before → found ≡ first_of_kind g (reading_of g blocks) [] kind
    → Err stop ≡ unless_found kind found → IsErrAnd result (λ e. e ≡ stop) → IsPart g blocks Keeps result
stopped Keeps g blocks before kind after found stop (Ok kept) order none first says given = absurd given
stopped Keeps g blocks before kind after None stop (Err e) order none first says given = absurd cc
stopped Keeps g blocks before kind after (Some n) stop (Err e) order none first says given =
    let same : stop ≡ Found kind n = cc in
    finding_part Keeps g blocks kind n e (sym same ∙ sym given) (found_at_kind g (reading_of g blocks) before kind after n order none (sym first))

-- one kind more of which there is none
pub none_more : (g : Geometry) (r : Reading) (kinds : List Kind) (kind : Kind) (found : Option ℕ) → NoneOf g r kinds → found ≡ first_of_kind g r [] kind → found ≡ None
    → NoneOf g r (kinds ++ kind ∷ [])
none_more g r kinds kind found none first is =
    All-append (λ k. first_of_kind g r [] k ≡ None) kinds (kind ∷ []) none
    (All-cons (λ k. first_of_kind g r [] k ≡ None) kind [] (sym first ∙ is) (All-nil (λ k. first_of_kind g r [] k ≡ None)))

-- the kinds that were looked for as the records were read
pub none_of_records : (g : Geometry) (blocks : Blocks) (groups : List Group) (briefs : List (Option Brief)) (s : Survey) → AreGroups g blocks groups → length groups ≡ g.groups
    → AreBriefs g blocks briefs → length briefs ≡ inodes_of g → IsSurvey g (reading_of g blocks) (inodes_of g) s
    → NoneOf g (reading_of g blocks) (of_groups ∷ (of_inodes ∷ (Fields ∷ [])))
none_of_records g blocks groups briefs s are_groups groups_size are size seen =
    let r = reading_of g blocks in
    let P : Kind → Type 0 = λ k. first_of_kind g r [] k ≡ None in
    let fields : first_of_kind g r [] Fields ≡ None =
    ap (λ (n : ℕ). find (has_bad_fields g r) (range_with_len 0 n)) (length-inodes g blocks) ∙ none_in_range (has_bad_fields g r) (inodes_of g) seen.fields in
    All-cons P of_groups (of_inodes ∷ (Fields ∷ [])) (no_bad_group g blocks groups are_groups groups_size)
    (All-cons P of_inodes (Fields ∷ []) (no_bad_inode g blocks are.inodes are.records (records_size g blocks briefs are size)) (All-cons P Fields [] fields (All-nil P)))

-- what was claimed, of a reading
pub claimed_by_all : (g : Geometry) (blocks : Blocks) (s : Survey) → IsSurvey g (reading_of g blocks) (inodes_of g) s
    → HasClaimed (blocks_of g) (map (λ claim. claim.block) (claims_of (reading_of g blocks))) s.claims
claimed_by_all g blocks s seen =
    let r = reading_of g blocks in
    subst (λ (l : List ℕ). HasClaimed (blocks_of g) l s.claims) (ap (blocks_before r) (sym (length-inodes g blocks)) ∙ blocks_before-all r)
    (claimed_in_parts g r (inodes_of g) (blocks_of g) s.claims seen.claimed)

pub twice_first : (g : Geometry) (blocks : Blocks) (s : Survey) → IsSurvey g (reading_of g blocks) (inodes_of g) s
    → s.claims.twice ≡ first_of_kind g (reading_of g blocks) [] Twice
twice_first g blocks s seen = twice_of_claims (reading_of g blocks) (blocks_of g) s.claims (claimed_by_all g blocks s seen)

pub chunk_first : (g : Geometry) (blocks : Blocks) (s : Survey) → IsSurvey g (reading_of g blocks) (inodes_of g) s → s.claims.twice ≡ None
    → s.bad_chunk ≡ first_of_kind g (reading_of g blocks) [] Chunk
chunk_first g blocks s seen once =
    (seen.names once).chunk ∙ ap (λ (n : ℕ). find (has_bad_chunk (reading_of g blocks)) (range_with_len 0 n)) (sym (length-inodes g blocks))

pub name_first : (g : Geometry) (blocks : Blocks) (s : Survey) → IsSurvey g (reading_of g blocks) (inodes_of g) s → s.claims.twice ≡ None → s.bad_chunk ≡ None
    → s.bad_name ≡ first_of_kind g (reading_of g blocks) [] Name
name_first g blocks s seen once right =
    (seen.names once).name right ∙ ap (λ (n : ℕ). find (names_unused (names_in_reading (reading_of g blocks))) (range_with_len 0 n)) (sym (length-inodes g blocks))

-- the names of all directories
pub names_of_all : (g : Geometry) (blocks : Blocks) (s : Survey) (n : ℕ) → IsSurvey g (reading_of g blocks) (inodes_of g) s → s.claims.twice ≡ None → s.bad_chunk ≡ None
    → inodes_of g ≡ n → HasNames n n (names_in_reading (reading_of g blocks)) s.names
names_of_all g blocks s n seen once right size =
    subst (λ (k : ℕ). HasNames k k (names_in_reading (reading_of g blocks)) s.names) size ((seen.names once).tables right)

pub parents_below : (g : Geometry) (blocks : Blocks) (s : Survey) (n : ℕ) → IsSurvey g (reading_of g blocks) (inodes_of g) s → s.claims.twice ≡ None → s.bad_chunk ≡ None → s.bad_name ≡ None
    → inodes_of g ≡ n → (i : ℕ) → i < n → parent_at (names_in_reading (reading_of g blocks)) i < n
parents_below g blocks s n seen once right used size i below =
    let m = names_in_reading (reading_of g blocks) in
    let here : i < inodes_of g = omega (arith, below, size) in
    let found = parent_below g blocks i here (fails_in_range (names_unused m) (inodes_of g) i (sym ((seen.names once).name right) ∙ used) here) in
    omega (arith, found, size)

-- the first directory without its one place
pub parent_first : (g : Geometry) (blocks : Blocks) (briefs : List (Option Brief)) (s : Survey) (found : Option ℕ) → AreBriefs g blocks briefs → length briefs ≡ inodes_of g
    → IsSurvey g (reading_of g blocks) (inodes_of g) s → s.claims.twice ≡ None → s.bad_chunk ≡ None → s.bad_name ≡ None
    → ((m : Names) → HasNames (length briefs) (length briefs) m s.names
    → ((i : ℕ) → i < length briefs → is_directory_in m i ≡ is_directory_record (option_flatten (slice_get briefs i)))
    → ((i : ℕ) → i < length briefs → parent_at m i < length briefs)
    → found ≡ find (has_bad_parent (length briefs) m) (range_with_len 0 (length briefs)))
    → found ≡ first_of_kind g (reading_of g blocks) [] Parent
parent_first g blocks briefs s found are size seen once right used says =
    let m = names_in_reading (reading_of g blocks) in
    says m (names_of_all g blocks s (length briefs) seen once right (sym size)) (λ i below. directory_by_records g blocks briefs i are size)
    (parents_below g blocks s (length briefs) seen once right used (sym size))
    ∙ ap (λ (n : ℕ). find (has_bad_parent n m) (range_with_len 0 n)) (size ∙ sym (length-inodes g blocks))

-- the first inode with other links
pub links_first : (g : Geometry) (blocks : Blocks) (briefs : List (Option Brief)) (s : Survey) (found : Option ℕ) → AreBriefs g blocks briefs → length briefs ≡ inodes_of g
    → IsSurvey g (reading_of g blocks) (inodes_of g) s → s.claims.twice ≡ None → s.bad_chunk ≡ None
    → ((r : Reading) → inodes_in r ≡ length briefs
    → ((i : ℕ) → i < inodes_in r → brief_of (option_map (λ u. u.inode) (used_at r i)) ≡ option_flatten (slice_get briefs i))
    → HasNames (inodes_in r) (inodes_in r) (names_in_reading r) s.names
    → found ≡ find (has_bad_links r) (range_with_len 0 (inodes_in r)))
    → found ≡ first_of_kind g (reading_of g blocks) [] Links
links_first g blocks briefs s found are size seen once right says =
    says (reading_of g blocks) (length-inodes g blocks ∙ sym size) (λ i below. brief_by_records g blocks briefs i are size)
    (names_of_all g blocks s (inodes_in (reading_of g blocks)) seen once right (sym (length-inodes g blocks)))
