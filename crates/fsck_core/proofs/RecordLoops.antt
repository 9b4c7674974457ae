-- What a check knows of a store while it reads one record after the other.
use Rattle.std.proofs.Common.{◌≡◌, ◌<◌, ◌≤◌, ◌+◌, ◌*◌, ℕ, true, List, [], ◌∷◌, ◌++◌, length, Option, Some, None, IfSome, option_map, refl, sym, ap, subst, ◌∙◌, arith, length-append}
use Rattle.std.proofs.Math.Nat.{mul-le-mul_right}
use Rattle.std.proofs.lemmas.Bool.{lt-ltb}
use Rattle.volume_model.specs.declared.inode.Dinode.{Dinode}
use Rattle.volume_model.specs.declared.finding.Kind.TheVariants.{Group as of_groups, Inode as of_inodes}
use Rattle.volume_model.specs.Format.{Image, Blocks, block, inodes_of}
use Rattle.volume_model.specs.Sound.{reading_of, group_at, inode_at, finding_of, first_of_kind, state_of, is_bad_state}
use Rattle.lufs_base.specs.declared.geometry.Geometry.{Geometry}
use Rattle.cyl_groups.specs.declared.group.Group.{Group}
use Rattle.cyl_groups.specs.Group.{record_of}
use Rattle.fsck_core.specs.declared.inodes.Inodes.{Inodes}
use Rattle.fsck_core.specs.declared.claims.Claims.{Claims}
use Rattle.fsck_core.specs.declared.inodes.Brief.{Brief}
use Rattle.fsck_core.specs.declared.inodes.Unsettled.{Unsettled}
use Rattle.fsck_core.specs.Inodes.{AreKept, HasKept}
use Rattle.fsck_core.specs.Tables.{AreGroups}
use Rattle.fsck_core.proofs.KeptInodes.{briefs_size, kept_none}
use Rattle.fsck_core.proofs.RecordSteps.{more_groups, bad_group_found, bad_inode_found}

-- before the first group
pub groups_begun : (g : Geometry) (content : Option Image) → IfSome content (λ image. AreGroups g (block image) [])
groups_begun g None = tt
groups_begun g (Some image) = refl

pub groups_more : (g h : Geometry) (content now : Option Image) (groups : List Group) (n : ℕ) (found : Option Group) (x : Group) → h ≡ g → now ≡ content → length groups ≡ n
    → found ≡ Some x → IfSome now (λ image. option_map record_of found ≡ group_at h (block image) n)
    → IfSome content (λ image. AreGroups g (block image) groups) → IfSome content (λ image. AreGroups g (block image) (groups ++ x ∷ []))
groups_more g h None now groups n found x geometry same size is told before = tt
groups_more g h (Some image) now groups n found x geometry same size is told before =
    let here : option_map record_of found ≡ group_at h (block image) n = rw same at told in
    let next : group_at g (block image) (length groups) ≡ Some (record_of x) =
    ap (group_at g (block image)) size ∙ ap (λ (k : Geometry). group_at k (block image) n) (sym geometry) ∙ sym here ∙ ap (option_map record_of) is in
    more_groups g (block image) groups x before next

pub group_missing : (g h : Geometry) (content now : Option Image) (groups : List Group) (n : ℕ) (found : Option Group) → h ≡ g → now ≡ content → length groups ≡ n → n < g.groups
    → found ≡ None → IfSome now (λ image. option_map record_of found ≡ group_at h (block image) n)
    → IfSome content (λ image. AreGroups g (block image) groups) → IfSome content (λ image. finding_of g (reading_of g (block image)) [] ≡ Some (of_groups, n))
group_missing g h None now groups n found geometry same size below is told before = tt
group_missing g h (Some image) now groups n found geometry same size below is told before =
    let here : option_map record_of found ≡ group_at h (block image) n = rw same at told in
    let next : group_at g (block image) (length groups) ≡ None =
    ap (group_at g (block image)) size ∙ ap (λ (k : Geometry). group_at k (block image) n) (sym geometry) ∙ sym here ∙ ap (option_map record_of) is in
    bad_group_found g (block image) groups before (omega (arith, size, below)) next ∙ ap (λ (k : ℕ). Some (of_groups, k)) size

-- an inode whose record the check may not keep is what it finds
pub inode_bad : (g : Geometry) (blocks : Blocks) (n : ℕ) (briefs : List (Option Brief)) (unsettled : List Unsettled) (claims : Claims) → length briefs ≡ n → n < inodes_of g
    → first_of_kind g (reading_of g blocks) [] of_groups ≡ None → is_bad_state n (Some (state_of blocks (inode_at g blocks n))) ≡ true → AreKept g blocks n briefs unsettled claims
    → finding_of g (reading_of g blocks) [] ≡ Some (of_inodes, n)
inode_bad g blocks n briefs unsettled claims size below groups bad kept =
    let inodes = kept.briefs_are.inodes in
    let count : length inodes ≡ n = briefs_size g blocks briefs kept.briefs_are ∙ size in
    bad_inode_found g blocks inodes kept.briefs_are.records (omega (arith, count, below)) groups
    (ap (λ (j : ℕ). is_bad_state j (Some (state_of blocks (inode_at g blocks j)))) count ∙ bad)
    ∙ ap (λ (j : ℕ). Some (of_inodes, j)) count

-- the state of an inode that has no record, and of one in use that may not be
pub no_record_is_bad : (n : ℕ) (blocks : Blocks) (found : Option (Option Dinode)) → found ≡ None → is_bad_state n (Some (state_of blocks found)) ≡ true
no_record_is_bad n blocks found none = ap (λ (o : Option (Option Dinode)). is_bad_state n (Some (state_of blocks o))) none

pub low_in_use_is_bad : (n : ℕ) (blocks : Blocks) (found : Option (Option Dinode)) (d : Dinode) → found ≡ Some (Some d) → n < 2 → is_bad_state n (Some (state_of blocks found)) ≡ true
low_in_use_is_bad n blocks found d is low = ap (λ (o : Option (Option Dinode)). is_bad_state n (Some (state_of blocks o))) is ∙ lt-ltb n 2 low

-- an inode of a group is one of the volume
pub inside_volume : (g : Geometry) (n k : ℕ) → n < g.groups → k < g.ipg → n * g.ipg + k < inodes_of g
inside_volume g n k group within =
    let whole : (n + 1) * g.ipg ≤ inodes_of g = mul-le-mul_right g.ipg (omega (arith, group)) in
    let apart : (n + 1) * g.ipg ≡ n * g.ipg + g.ipg = omega arith in
    omega (arith, whole, apart, within)

-- an inode that isn't in use is kept as the next one
pub free_kept : (g : Geometry) (blocks : Blocks) (n : ℕ) (before after : Inodes) → length before.briefs.items ≡ n → n < inodes_of g → inode_at g blocks n ≡ Some None
    → after.briefs.items ≡ before.briefs.items ++ None ∷ [] → after.unsettled ≡ before.unsettled → after.claims ≡ before.claims
    → AreKept g blocks n before.briefs.items before.unsettled.items before.claims → AreKept g blocks (n + 1) after.briefs.items after.unsettled.items after.claims
free_kept g blocks n before after size below next pushed unsettled claims kept =
    subst (λ (c : Claims). AreKept g blocks (n + 1) after.briefs.items after.unsettled.items c) (sym claims)
    (subst (λ (l : List Unsettled). AreKept g blocks (n + 1) after.briefs.items l before.claims) (sym (ap (λ v. v.items) unsettled))
    (kept_none g blocks n before.briefs.items after.briefs.items before.unsettled.items before.claims size below next pushed kept))

pub free_room : (g : Geometry) (n : ℕ) (before after : Inodes) → after.briefs.items ≡ before.briefs.items ++ None ∷ [] → after.unsettled ≡ before.unsettled → after.claims ≡ before.claims
    → HasKept g n before.briefs.items before.unsettled.items before.claims → HasKept g (n + 1) after.briefs.items after.unsettled.items after.claims
free_room g n before after pushed unsettled claims room = record {
  briefs_size = ap length pushed ∙ omega (arith, room.briefs_size, length-append before.briefs.items (None ∷ []));
  unsettled_most = omega (arith, room.unsettled_most, ap (λ v. length v.items) unsettled);
  bits = omega (arith, room.bits, ap (λ (c : Claims). length c.bits.items) claims);
  count = omega (arith, room.count, ap (λ (c : Claims). c.count) claims);
}
