-- A part of a hand is put back by the record of its group.
use Rattle.std.proofs.Common.{◌≡◌, ◌<◌, ◌≤◌, inl, inr, ℕ, ◌+◌, ◌*◌, ◌/◌, ◌%◌, Bool, true, false, not, ◌&&◌, ◌||◌, List, ◌∷◌, Option, Some, None, IfSome, option_map, refl, sym, ap, ◌∙◌, subst, arith}
use Rattle.std.specs.Prelude.{All, is_some}
use Rattle.std.specs.List.{list_any}
use Rattle.std.proofs.Math.Nat.{mul-le-mul_right}
use Rattle.std.proofs.lemmas.Bool.{cases_order, true≢false}
use Rattle.lufs_base.specs.Layout.{IsGeometry, group_start}
use Rattle.lufs_base.specs.declared.geometry.Geometry.{Geometry}
use Rattle.lufs_base.specs.declared.delta.DeltaKind.TheVariants.{Group as of_group}
use Rattle.lufs_base.specs.declared.numbers.BlockNo.{BlockNo}
use Rattle.volume_model.specs.declared.hand.Hand.{Hand}
use Rattle.volume_model.specs.Format.{Image, block, GroupRecord, group_of, group_bytes, is_body}
use Rattle.volume_model.specs.Log.{may_be_logged}
use Rattle.volume_model.specs.Sound.{Reading, reading_of, group_at, record_at, is_claimed, is_among, IsStored, Tree, StandsFor}
use Rattle.volume_laws.specs.Changes.{with_group}
use Rattle.volume_laws.proofs.FreeBits.{record_in_volume}
use Rattle.volume_laws.proofs.GroupRecords.{group_back}
use Rattle.volume_laws.proofs.SoundParts.{in_parts}
use Rattle.change_laws.proofs.ClaimPlaces.{stored_laid}
use Rattle.change_laws.proofs.HandBits.{back_marks}
use Rattle.change_laws.proofs.OneGroup.{mark_stored}
use Rattle.sector_disk.specs.Disk.{DiskTold, IsUnwritten}
use Rattle.cyl_groups.specs.declared.group.Group.{Group}
use Rattle.cyl_groups.specs.Group.{record_of}
use Rattle.meta_store.specs.Changing.{AllTold, IsAsBefore}
use Rattle.meta_store.specs.Changes.{HasContent, Amends, with_part, numbers_in, is_group_at}
use Rattle.meta_store.specs.Conditions.{HasBitsOf, MayAmend}
use Rattle.block_alloc.specs.Marking.{holds_group, IsInTransaction, IsHeldHand, no_hand, HasPutBack}
use Rattle.block_alloc.specs.Returning.{Returns}
use Rattle.block_alloc.proofs.GroupDeltas.{record_logged}
use Rattle.block_alloc.proofs.PutBackSteps.{places_stay, stands_alike, IsElsewhere}
use Rattle.block_alloc.proofs.TakenBefore.{over_disk, told_again}
use Rattle.block_alloc.proofs.RecordReplaced.{length-group_bytes}
use Rattle.block_alloc.proofs.ReturnedRecord.{with_record, record_beside, reading_then, stands_again}

-- groups that begin at one block are one
one_start : (g : Geometry) (m n : ℕ) → IsGeometry g → group_start g m ≡ group_start g n → m ≡ n
one_start g m n ok same = elim (cases_order m n) [
  | inl is ↦ is
  | inr other ↦ elim other [
    | inl low ↦ (let rows : (m + 1) * g.bpg ≤ n * g.bpg = mul-le-mul_right g.bpg (omega (arith, low)) in absurd (omega (arith, rows, same, ok.bpg_low)))
    | inr high ↦ (let rows : (n + 1) * g.bpg ≤ m * g.bpg = mul-le-mul_right g.bpg (omega (arith, high)) in absurd (omega (arith, rows, same, ok.bpg_low)))
  ]
]

-- what a content that is told holds of it
pub record IsTold (g : Geometry) (part : Hand) (n : ℕ) (old : GroupRecord) (image : Image) : Type 0 where
  pub was : record_at (reading_of g (block image)) n ≡ Some old
  pub stands : (tree : Tree) × (hands : List Hand) × StandsFor g (block image) tree (part ∷ hands)

module _ (g : Geometry) (part : Hand) (n : ℕ) (old new : GroupRecord) (returned : List BlockNo) (ok : IsGeometry g) (returns : Returns g part n old new returned) where
  abbrev home : ℕ
  home = 4096 * group_start g n

  unclaimed_told : (content : Option Image) → IfSome content (IsTold g part n old)
      → IfSome content (λ image. All (λ b. is_claimed (reading_of g (block image)) b.0 ≡ false) returned)
  unclaimed_told None told = tt
  unclaimed_told (Some image) told = returns.unclaimed (reading_of g (block image)) told.stands.1 ((in_parts g (block image) (part ∷ told.stands.1)).0 told.stands.2.sound).0

  bits_told : (content : Option Image) → IfSome content (IsTold g part n old)
      → IfSome content (λ image. HasBitsOf g (λ b. false) (λ b. is_among b (numbers_in returned)) (reading_of g (block image))
      (reading_of g (with_part (block image) (home / 4096) (home % 4096) (group_bytes new))))
  bits_told None told = tt
  bits_told (Some image) told =
      let r = reading_of g (block image) in
      let hands = told.stands.1 in
      let stored = ((in_parts g (block image) (part ∷ hands)).0 told.stands.2.sound).0 in
      let bits = returns.bits r hands stored told.was in
      subst (λ (numbers : List ℕ). HasBitsOf g (λ b. false) (λ b. is_among b numbers) r (reading_of g (with_record g (block image) n new))) (sym returns.numbers)
      (subst (λ (x : Reading). HasBitsOf g (λ b. false) (λ b. is_among b part.blocks) r x)
      (sym (reading_then g (block image) n old new ok (stored_laid g r (part ∷ hands) stored) returns.within returns.group told.was)) bits)

  -- the store takes it
  pub may_amend : (told : AllTold) → told.read.geometry ≡ g → holds_group told n ≡ true → All (λ b. told.changing.is_taken b.0 ≡ true) returned
      → IfSome told.read.content (IsTold g part n old) → MayAmend (4096 * group_start told.read.geometry n) (group_bytes new) returned told
  may_amend told same held taken content =
      let size = length-group_bytes g n new returns.group in
      let h = told.read.geometry in
      let place : may_be_logged h of_group (4096 * group_start h n) 416 ≡ true = ap (λ (k : Geometry). may_be_logged k of_group (4096 * group_start k n) 416) same ∙ record_logged g n ok returns.within in
      record {
        place = ap (may_be_logged h of_group (4096 * group_start h n)) size ∙ place;
        held = ap (λ (k : ℕ). list_any (is_group_at (4096 * group_start h n) k) told.changing.held) size ∙ held;
        group = λ m at.
            let same_start : group_start h m ≡ group_start h n = omega (arith, at) in
            let its : m ≡ n = one_start g m n ok (sym (ap (λ (k : Geometry). group_start k m) same) ∙ same_start ∙ ap (λ (k : Geometry). group_start k n) same) in
            ap (λ (o : Option GroupRecord). is_some o) (ap (λ (k : Geometry). group_of k m (group_bytes new)) same ∙ ap (λ (k : ℕ). group_of g k (group_bytes new)) its
            ∙ group_back g n new ok returns.group);
        body = subst (λ (k : Geometry). All (λ b. is_body k b.0 ≡ true) returned) (sym same) returns.body;
        taken = taken;
        unclaimed = subst (λ (k : Geometry). IfSome told.read.content (λ image. All (λ b. is_claimed (reading_of k (block image)) b.0 ≡ false) returned)) (sym same)
            (unclaimed_told told.read.content content);
        bits = subst (λ (k : Geometry). IfSome told.read.content (λ image. HasBitsOf k (λ b. false) (λ b. is_among b (numbers_in returned)) (reading_of k (block image))
            (reading_of k (with_part (block image) (4096 * group_start k n / 4096) (4096 * group_start k n % 4096) (group_bytes new))))) (sym same) (bits_told told.read.content content);
      }

  stands_told : (content now : Option Image) → IfSome content (IsTold g part n old)
      → HasContent g (λ c. true) (λ image. with_part (block image) (home / 4096) (home % 4096) (group_bytes new)) content now → (tree : Tree) (hands : List Hand)
      → IfSome content (λ image. IfSome now (λ after. StandsFor g (block image) tree (part ∷ hands) → StandsFor g (block after) tree (no_hand ∷ hands)))
  stands_told None now told has tree hands = tt
  stands_told (Some image) None told has tree hands = tt
  stands_told (Some image) (Some after) told has tree hands = λ stands.
      let r = reading_of g (block image) in
      let first = ((in_parts g (block image) (part ∷ told.stands.1)).0 told.stands.2.sound).0 in
      let again : IsStored g r (part ∷ hands) → IsStored g (with_group r n (Some new)) hands = λ stored.
      mark_stored g r n new (part ∷ hands) hands stored (back_marks g r n part hands old new ok returns.within told.was returns.counts returns.of_its_group stored returns.put) in
      let left : StandsFor g (block after) tree hands =
      stands_again g (block image) n old new ok (stored_laid g r (part ∷ told.stands.1) first) returns.within returns.group told.was (block after) (λ b inside. has.blocks b inside refl) tree (part ∷ hands)
      hands again stands in
      stands_alike g (block after) tree hands (no_hand ∷ hands) (record { blocks = λ b. refl; inodes = λ i. refl }) left

  elsewhere_told : (content now : Option Image) → HasContent g (λ c. true) (λ image. with_part (block image) (home / 4096) (home % 4096) (group_bytes new)) content now → IsElsewhere g content now
  elsewhere_told None now has = tt
  elsewhere_told (Some image) None has = tt
  elsewhere_told (Some image) (Some after) has = λ b inside away. has.blocks b inside refl ∙ record_beside g (block image) n new b (away n returns.within)

and_true : (x : Bool) → x ≡ (x && true)
and_true true = refl
and_true false = refl

unwritten : (old new : DiskTold) → new ≡ old → IsUnwritten old new
unwritten old new same = record {
  sectors = ap (λ (d : DiskTold). d.sectors) same;
  content = ap (λ (d : DiskTold). d.present) same;
  listed = ap (λ (d : DiskTold). d.listed) same;
  calls = ap (λ (d : DiskTold). d.calls) same;
}

-- The part is put back where the store has the record.
pub put_back_by : (told after : AllTold) (part : Hand) (n : ℕ) (old new : GroupRecord) (returned : List BlockNo) → IsGeometry told.read.geometry
    → Returns told.read.geometry part n old new returned → IfSome told.read.content (IsTold told.read.geometry part n old)
    → Amends (4096 * group_start told.read.geometry n) (group_bytes new) returned told after → HasPutBack part no_hand told after
put_back_by told after part n old new returned ok returns content amends =
    let g = told.read.geometry in
    let numbers = returns.numbers in
    record {
      geometry = amends.geometry;
      tells = amends.content.tells;
      stands = λ tree hands. stands_told g part n old new returned ok returns told.read.content after.read.content content amends.content tree hands;
      elsewhere = elsewhere_told g part n old new returned ok returns told.read.content after.read.content amends.content;
      released = λ b. amends.released b ∙ ap (λ (t : Bool). told.changing.is_released b || t) (ap (is_among b) numbers ∙ and_true (is_among b part.blocks));
      taken = λ b. amends.taken b ∙ ap (λ (t : Bool). told.changing.is_taken b && not t) (ap (is_among b) numbers ∙ and_true (is_among b part.blocks));
      freed = amends.freed;
      held = λ other bytes. ap (list_any (is_group_at other bytes)) amends.held ∙ places_stay (4096 * group_start g n) other bytes (group_bytes new) told.changing.held;
      room = amends.room;
      disk = unwritten told.read.disk after.read.disk amends.disk;
    }

-- what was read of the content that is told
pub told_part : (g : Geometry) (part : Hand) (n : ℕ) (content : Option Image) (found : Option Group) (x : Group) → n < g.groups → found ≡ Some x
    → IfSome content (λ image. option_map record_of found ≡ group_at g (block image) n)
    → IfSome content (λ image. (tree : Tree) × (hands : List Hand) × StandsFor g (block image) tree (part ∷ hands)) → IfSome content (IsTold g part n (record_of x))
told_part g part n None found x within is value stands = tt
told_part g part n (Some image) found x within is value stands = record {
  was = record_in_volume g (block image) n within ∙ sym value ∙ ap (option_map record_of) is;
  stands = stands;
}

-- a record that couldn't be read is of a content that isn't told
pub untold : (g : Geometry) (part : Hand) (n : ℕ) (content : Option Image) (found : Option Group) → n < g.groups → found ≡ None
    → IfSome content (λ image. option_map record_of found ≡ group_at g (block image) n)
    → IfSome content (λ image. (tree : Tree) × (hands : List Hand) × StandsFor g (block image) tree (part ∷ hands)) → content ≡ None
untold g part n None found within is value stands = refl
untold g part n (Some image) found within is value stands =
    let stored = ((in_parts g (block image) (part ∷ stands.1)).0 stands.2.sound).0 in
    let none : record_at (reading_of g (block image)) n ≡ None = record_in_volume g (block image) n within ∙ sym value ∙ ap (option_map record_of) is in
    absurd (true≢false (ap (λ (o : Option GroupRecord). not (is_some o)) (sym none) ∙ stored.groups n within))

-- a hand of a store that was only read
in_transaction_over : (hand : Hand) (old mid : AllTold) → IsInTransaction hand old → IsInTransaction hand (over_disk old mid)
in_transaction_over hand old mid holds = record { of_volume = holds.of_volume; apart = holds.apart; inode = holds.inode; blocks = holds.blocks; taken = holds.taken }

pub held_before : (hand : Hand) (old mid : AllTold) → IsAsBefore old mid → IsHeldHand hand old → IsHeldHand hand mid
held_before hand old mid same held =
    subst (λ (m : AllTold). IsHeldHand hand m) (sym (told_again old mid same))
    (record { holds = in_transaction_over hand old mid held.holds; stands = held.stands })
