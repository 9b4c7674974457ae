-- The volume that is recovered is the same: contents that agree outside the log agree wherever something is read.
use Rattle.std.proofs.Common.{◌≡◌, ◌<◌, ◌≤◌, ◌⊎◌, inl, inr, ℕ, ◌+◌, ◌*◌, false, [], length, take, drop, slice_index, Option, refl, sym, ap, ◌∙◌, subst, arith}
use Rattle.std.specs.Prelude.{IsSomeAnd, nat_lt}
use Rattle.std.proofs.lemmas.Bool.{cases_Bool, cases_lt, cond-true, cond-false, and_left, both_ways, le-ltb}
use Rattle.std.proofs.lemmas.List.{ext_get_or, length-take-le, length-drop}
use Rattle.lufs_base.specs.Layout.{IsGeometry, group_start, blocks_of, region_of}
use Rattle.lufs_base.specs.declared.geometry.Geometry.{Geometry}
use Rattle.lufs_base.specs.declared.geometry.Region.TheVariants.{Log}
use Rattle.lufs_base.proofs.Places.{only_region}
use Rattle.volume_model.specs.Format.{Image, block, is_body, is_body_region}
use Rattle.volume_model.specs.Log.{recovered_by, recovered, replayed}
use Rattle.volume_model.specs.Crash.{Record, Outcome}
use Rattle.volume_model.specs.Sound.{Reading, reading_of, claims_of, IsLaid, claim_length, record_length, length_of_records, greatest_on, read_length, AgreeWhereRead, Sound, Tree, tree_of, StandsFor, OpensWith, Opens}
use Rattle.volume_model.proofs.ReplayLaws.{length-replayed, byte_replayed}
use Rattle.volume_laws.proofs.BodyBlocks.{none_before}
use Rattle.volume_laws.proofs.LaidClaims.{greatest_below, max-zero, body_of_claim, sound_is_laid}
use Rattle.volume_laws.proofs.SameTree.{same_tree}
use Rattle.journal_model.specs.Mount.{Found, Stage, IsOutsideLog, IsFoundIn, IsMounting}
use Rattle.journal_laws.proofs.Outcomes.{byte_in_block, blocks_fit}
use Rattle.journal_laws.proofs.MountImages.{IsInGroups, numbers}
use Rattle.journal_laws.proofs.MountOutcomes.{Refound, inside_image, what_is_recovered, recovered_bytes, no_later_ident, left_by_mount}

-- the block is none of the log's, nor past the volume's end
abbrev IsReadable : Geometry → ℕ → Type 0
IsReadable g b = (b < 3) ⊎ IsInGroups g b

readable_or_not : (g : Geometry) (b : ℕ) → IsReadable g b ⊎ ((3 ≤ b) × (b < group_start g 0)) ⊎ (blocks_of g ≤ b)
readable_or_not g b = elim (cases_lt b 3) [
  | inl low ↦ inl (inl low)
  | inr more ↦ elim (cases_lt b (group_start g 0)) [
    | inl log ↦ inr (inl (more, log))
    | inr group ↦ elim (cases_lt b (blocks_of g)) [
      | inl inside ↦ inl (inr (group, inside))
      | inr past ↦ inr (inr past)
    ]
  ]
]

-- nothing is read of the others
unread_by : (g : Geometry) (r : Reading) (b : ℕ) → IsLaid g r → is_body g b ≡ false → length_of_records g b ≡ 0 → read_length g r b ≡ 0
unfolding read_length
unread_by g r b laid other none =
    let claims : greatest_on (claim_length r) (claims_of r) b ≤ 0 =
    greatest_below (claim_length r) (claims_of r) b 0
    (λ c there same. absurd (both_ways (is_body g b) other (ap (is_body g) (sym same) ∙ body_of_claim g r laid c there))) in
    max-zero (length_of_records g b) (greatest_on (claim_length r) (claims_of r) b) 0 none claims (omega arith)

unread : (g : Geometry) (r : Reading) (b : ℕ) → IsGeometry g → IsLaid g r → ((3 ≤ b) × (b < group_start g 0)) ⊎ (blocks_of g ≤ b) → read_length g r b ≡ 0
unread g r b ok laid (inl log) =
    let region : Log ≡ region_of g b = only_region g b Log ok log in
    unread_by g r b laid (none_before g ok b log.1)
    (elim (cases_Bool (nat_lt b (blocks_of g))) [
      | inl here ↦ cond-true (nat_lt b (blocks_of g)) (record_length (region_of g b)) 0 here ∙ sym (ap record_length region)
      | inr past ↦ cond-false (nat_lt b (blocks_of g)) (record_length (region_of g b)) 0 past
    ])
unread g r b ok laid (inr past) =
    let test : nat_lt b (blocks_of g) ≡ false = le-ltb b (blocks_of g) past in
    unread_by g r b laid (and_left (nat_lt b (blocks_of g)) (is_body_region (region_of g b)) test)
    (cond-false (nat_lt b (blocks_of g)) (record_length (region_of g b)) 0 test)

readable_outside : (g : Geometry) (b i : ℕ) → IsReadable g b → i < 4096 → IsOutsideLog g (4096 * b + i)
readable_outside g b i (inl low) inside = inl (omega (arith, low, inside))
readable_outside g b i (inr group) inside = inr (omega (arith, group.0), omega (arith, group.1, inside))

readable_inside : (g : Geometry) (b : ℕ) → IsGeometry g → IsReadable g b → b < blocks_of g
readable_inside g b ok (inl low) = omega (arith, low)
readable_inside g b ok (inr group) = group.1

same_block : (b : ℕ) (content other : Image) → 4096 * b + 4096 ≤ length content → 4096 * b + 4096 ≤ length other
    → ((i : ℕ) → i < 4096 → slice_index other (4096 * b + i) ≡ slice_index content (4096 * b + i)) → block other b ≡ block content b
same_block b content other room other_room same =
    let size : (image : Image) → 4096 * b + 4096 ≤ length image → length (block image b) ≡ 4096 = λ image fits.
    length-take-le 4096 (drop (512 * (8 * b)) image) (omega (arith, length-drop (512 * (8 * b)) image, fits)) in
    ext_get_or 0 (block other b) (block content b) (size other other_room ∙ sym (size content room))
    (λ i below.
    let inside : i < 4096 = omega (arith, below, size other other_room) in
    byte_in_block other b i inside ∙ same i inside ∙ sym (byte_in_block content b i inside))

-- Contents that agree outside the log agree where the first is read.
pub agree_outside_log : (g : Geometry) (content other : Image) → IsGeometry g → 4096 * blocks_of g ≤ length content → 4096 * blocks_of g ≤ length other
    → IsLaid g (reading_of g (block content)) → ((address : ℕ) → IsOutsideLog g address → slice_index other address ≡ slice_index content address)
    → AgreeWhereRead g (block content) (block other)
agree_outside_log g content other ok room other_room laid same b =
    let r = reading_of g (block content) in
    elim (readable_or_not g b) [
      | inl readable ↦
          let inside = readable_inside g b ok readable in
          ap (take (read_length g r b))
          (same_block b content other (omega (arith, inside, room)) (omega (arith, inside, other_room)) (λ i below. same (4096 * b + i) (readable_outside g b i readable below)))
      | inr not ↦
          let none = unread g r b ok laid not in
          ap (λ (n : ℕ). take n (block other b)) none ∙ sym (ap (λ (n : ℕ). take n (block content b)) none)
    ]

module _ (g : Geometry) (found : Found) (first image : Image) (began : IsFoundIn g found first) (f : Refound g found first image) where
  agree : IsLaid g (reading_of g (block (replayed first found.txs))) → AgreeWhereRead g (block (replayed first found.txs)) (block (replayed image f.again.txs))
  agree laid =
      agree_outside_log g (replayed first found.txs) (replayed image f.again.txs) (numbers g found first began)
      (omega (arith, length-replayed first found.txs, blocks_fit g first began.geometry))
      (omega (arith, length-replayed image f.again.txs, blocks_fit g image f.geometry)) laid
      (λ address out. recovered_bytes g found first image f address out ∙ sym (byte_replayed first found.txs address (inside_image g first address began.geometry out)))

-- What an image of a mount stands for, an image that a crash leaves of it stands for too.
pub tree_stays : (g : Geometry) (found : Found) (first : Image) (r : Record) (stage : Stage) (image : Image) (tree : Tree) → IsMounting g found first r stage → Outcome r (length r.calls) image
    → StandsFor g (block (replayed first found.txs)) tree [] → IsSomeAnd (recovered g image) (λ content. StandsFor g (block content) tree [])
tree_stays g found first r stage image tree m left stands =
    let f = left_by_mount g found first r stage image m left in
    let before : Image = replayed first found.txs in
    let after : Image = replayed image f.again.txs in
    let laid = sound_is_laid g (block before) [] stands.sound in
    subst (λ (o : Option Image). IsSomeAnd o (λ content. StandsFor g (block content) tree [])) (sym (what_is_recovered g found first image f))
    (same_tree g (block before) (block after) tree [] (numbers g found first m.began) (agree g found first image m.began f laid) stands)

-- the content of an image that opens is sound
sound_content : (g : Geometry) (found : Found) (first : Image) → IsFoundIn g found first → Opens first → Sound g (block (replayed first found.txs)) []
sound_content g found first began opens =
    let with : OpensWith g first = subst (λ (o : Option Geometry). IsSomeAnd o (λ g. OpensWith g first)) began.geometry opens in
    subst (λ (o : Option Image). IsSomeAnd o (λ content. Sound g (block content) [])) (ap (recovered_by first) began.log) with.sound

-- it opens
pub opens_still : (g : Geometry) (found : Found) (first : Image) (r : Record) (stage : Stage) (image : Image) → IsMounting g found first r stage → Outcome r (length r.calls) image
    → Opens first → Opens image
opens_still g found first r stage image m left opens =
    let f = left_by_mount g found first r stage image m left in
    let before : Image = replayed first found.txs in
    let sound = sound_content g found first m.began opens in
    let stands = tree_stays g found first r stage image (tree_of g (block before)) m left (record { sound = sound; stands = refl }) in
    let there = subst (λ (o : Option Image). IsSomeAnd o (λ content. StandsFor g (block content) (tree_of g (block before)) [])) (what_is_recovered g found first image f) stands in
    subst (λ (o : Option Geometry). IsSomeAnd o (λ g. OpensWith g image)) (sym f.geometry) record {
      sound = subst (λ (o : Option Image). IsSomeAnd o (λ content. Sound g (block content) [])) (sym (what_is_recovered g found first image f)) there.sound;
      idents = no_later_ident g found first image f;
    }
