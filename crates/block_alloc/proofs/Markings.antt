-- The deltas that mark a hand, one group after the other.
use Rattle.std.proofs.Common.{◌≡◌, ◌<◌, ◌≤◌, inl, inr, ℕ, ◌+◌, ◌*◌, true, false, ◌&&◌, List, [], ◌∷◌, ◌++◌, length, get_or, Option, Some, None, option_map, refl, sym, ap, ◌∙◌, subst, arith}
use Rattle.std.specs.Prelude.{All, is_some, ◌==◌, if◌then◌else◌, slice_get, slice_index_or}
use Rattle.std.specs.List.{list_any}
use Rattle.std.specs.Option.{option_flatten}
use Rattle.std.proofs.Math.Nat.{mul-le-mul_right}
use Rattle.std.proofs.lemmas.Bool.{cases_order, and_cases, and_from, or_left, or_right, eq-eqb, both_ways, not-false}
use Rattle.std.proofs.lemmas.Option.{slice_get-get_or}
use Rattle.std.proofs.lemmas.List.Elements.{All-nil, All-push, All-weaker}
use Rattle.std.proofs.lemmas.List.Sums.{sum_by-append}
use Rattle.std.proofs.lemmas.List.Folds.{list_any-append}
use Rattle.std.proofs.lemmas.List.Quantifiers.{all_pairs_push}
use Rattle.lufs_base.specs.Layout.{IsGeometry, group_start, blocks_of}
use Rattle.lufs_base.specs.declared.geometry.Geometry.{Geometry}
use Rattle.lufs_base.specs.declared.delta.Delta.{Delta}
use Rattle.lufs_base.specs.declared.delta.DeltaKind.TheVariants.{Group as of_group}
use Rattle.volume_model.specs.declared.hand.Hand.{Hand}
use Rattle.volume_model.specs.Format.{Image, Blocks, block, GroupRecord, IsGroup, bit_at, group_bytes}
use Rattle.volume_model.specs.Log.{logged_len}
use Rattle.volume_model.specs.Sound.{reading_of, record_at, is_bad_group, held_inodes, is_among}
use Rattle.change_laws.specs.Marks.{HasHandPut}
use Rattle.change_laws.proofs.ClaimPlaces.{stored_laid}
use Rattle.cyl_groups.specs.declared.group.Group.{Group}
use Rattle.cyl_groups.specs.Group.{record_of}
use Rattle.meta_store.specs.LaidSize.{length-laid_over}
use Rattle.meta_store.specs.Laid.{laid_over}
use Rattle.meta_store.specs.Changes.{deltas_on, is_group_at}
use Rattle.meta_store.proofs.ImageLaid.{nothing_over, laid_over_append}
use Rattle.meta_store.specs.Deltas.{group_delta}
use Rattle.block_alloc.specs.Records.{AreRecords, IsReadGroup, AreReadGroups}
use Rattle.block_alloc.specs.Marks.{has_of_group, IsCountedGroup, MarksGroup, AreMarkedTo, AreMarkings}
use Rattle.block_alloc.proofs.Chosen.{record_kept}
use Rattle.block_alloc.proofs.CountedGroups.{counts_right}
use Rattle.block_alloc.proofs.RecordReplaced.{length-group_bytes}
use Rattle.block_alloc.proofs.LaidRecord.{record_elsewhere, record_here}
use Rattle.block_alloc.proofs.MarkedContent.{none_marked, marked_without, marked_with}

pub no_markings : (g : Geometry) (records : List (Option Group)) (hand : Hand) → AreMarkings g records hand 0 []
no_markings g records hand = record {
  each = All-nil (λ (d : Delta). (m : ℕ) × (m < 0) × MarksGroup g m hand (option_flatten (slice_get records m)) d);
  rising = λ i j d before inside. absurd (omega (arith, inside));
  few = omega arith;
  all = λ m below. absurd (omega (arith, below));
  laid = λ image hands whole so stored. subst (λ (after : Image). AreMarkedTo g (block image) (block after) hand 0) (sym (nothing_over image)) (none_marked g (block image) hand);
}

some_of_map : (o : Option Group) → is_some (option_map record_of o) ≡ is_some o
some_of_map None = refl
some_of_map (Some x) = refl

-- where all records can be read, the record of a group was
read_there : (g : Geometry) (blocks : Blocks) (records : List (Option Group)) (n : ℕ) → AreRecords (reading_of g blocks) records → is_bad_group (reading_of g blocks) n ≡ false
    → is_some (option_flatten (slice_get records n)) ≡ true
read_there g blocks records n so good =
    let r = reading_of g blocks in
    let found : Option Group = option_flatten (slice_get records n) in
    sym (some_of_map found) ∙ ap is_some (sym (record_kept r records n so)) ∙ not-false (is_some (record_at r n)) good

-- the record of a group begins before that of a later one
starts_rise : (g : Geometry) (m n : ℕ) → IsGeometry g → m < n → group_start g m < group_start g n
starts_rise g m n ok less =
    let rows : (m + 1) * g.bpg ≤ n * g.bpg = mul-le-mul_right g.bpg (omega (arith, less)) in
    omega (arith, rows, ok.bpg_low)

pub group_here : (g : Geometry) (n : ℕ) (new : GroupRecord) → length (group_bytes new) ≡ 416 → is_group_at (4096 * group_start g n) 416 (group_delta g n (group_bytes new)) ≡ true
group_here g n new size =
    and_from (4096 * group_start g n == 4096 * group_start g n) (length (group_bytes new) == 416) (eq-eqb (4096 * group_start g n) (4096 * group_start g n) refl)
    (eq-eqb (length (group_bytes new)) 416 size)

module _ (g : Geometry) (records : List (Option Group)) (hand : Hand) (n : ℕ) (deltas : List Delta) (ok : IsGeometry g) (within : n < g.groups)
    (before : AreMarkings g records hand n deltas) where
  abbrev its_group : Option Group
  its_group = option_flatten (slice_get records n)

  -- the deltas so far are of the groups before one more
  still : All (λ (d : Delta). (m : ℕ) × (m < n + 1) × MarksGroup g m hand (option_flatten (slice_get records m)) d) deltas
  still =
      All-weaker (λ (d : Delta). (m : ℕ) × (m < n) × MarksGroup g m hand (option_flatten (slice_get records m)) d)
      (λ (d : Delta). (m : ℕ) × (m < n + 1) × MarksGroup g m hand (option_flatten (slice_get records m)) d) (λ d marks. (marks.0, omega (arith, marks.1), marks.2)) deltas before.each

  pub marking_without : (is_some its_group && has_of_group g hand n) ≡ false → AreMarkings g records hand (n + 1) deltas
  marking_without none = record {
    each = still;
    rising = before.rising;
    few = omega (arith, before.few);
    all = λ m below has_some read. elim (cases_order m n) [
      | inl here ↦
          let mine : (is_some its_group && has_of_group g hand n) ≡ true =
          and_from (is_some its_group) (has_of_group g hand n) (ap (λ (k : ℕ). is_some (option_flatten (slice_get records k))) (sym here) ∙ read)
          (ap (has_of_group g hand) (sym here) ∙ has_some) in
          absurd (both_ways (is_some its_group && has_of_group g hand n) none mine)
      | inr other ↦ elim other [ inl low ↦ before.all m low has_some read | inr past ↦ absurd (omega (arith, past, below)) ]
    ];
    laid = λ image hands whole so stored.
        let nothing : has_of_group g hand n ≡ false = elim (and_cases (is_some its_group) (has_of_group g hand n) none) [
          | inl unread ↦ absurd (both_ways (is_some its_group) unread (read_there g (block image) records n so (stored.groups n within)))
          | inr empty ↦ empty
        ] in
        marked_without g (block image) (block (laid_over (deltas_on deltas) image)) hand n hands stored within (before.laid image hands whole so stored) nothing;
  }

  module _ (d : Delta) (marks : MarksGroup g n hand its_group d) where
    its_size : length (group_bytes marks.new) ≡ 416
    its_size = length-group_bytes g n marks.new marks.marked.group

    its_bytes : 16 + logged_len d.kind d.len ≡ 432
    its_bytes = ap (λ (e : Delta). 16 + logged_len e.kind e.len) marks.is

    one_here : is_group_at (4096 * group_start g n) 416 d ≡ true
    one_here = ap (is_group_at (4096 * group_start g n) 416) marks.is ∙ group_here g n marks.new its_size

    earlier : (k : ℕ) (e : Delta) → k < length deltas → (slice_index_or deltas k e).home < d.home
    earlier k e inside =
        let there = before.each k e inside in
        let less = starts_rise g there.0 n ok there.1 in
        let mine : d.home ≡ 4096 * group_start g n = ap (λ (x : Delta). x.home) marks.is in
        let its : (slice_index_or deltas k e).home ≡ 4096 * group_start g there.0 = ap (λ (x : Delta). x.home) there.2.is in
        omega (arith, less, mine, its)

    pub marking_with : AreMarkings g records hand (n + 1) (deltas ++ d ∷ [])
    marking_with = record {
      each = All-push (λ (e : Delta). (m : ℕ) × (m < n + 1) × MarksGroup g m hand (option_flatten (slice_get records m)) e) deltas d still (n, omega arith, marks);
      rising = all_pairs_push (λ (a b : Delta). a.home < b.home) deltas d before.rising earlier;
      few = omega (arith, before.few, sum_by-append (λ (e : Delta). 16 + logged_len e.kind e.len) deltas (d ∷ []), its_bytes);
      all = λ m below has_some read.
          let place : ℕ = 4096 * group_start g m in
          list_any-append (is_group_at place 416) deltas (d ∷ []) ∙ elim (cases_order m n) [
            | inl here ↦
                or_right (list_any (is_group_at place 416) deltas) (list_any (is_group_at place 416) (d ∷ []))
                (or_left (is_group_at place 416 d) false (ap (λ (k : ℕ). is_group_at (4096 * group_start g k) 416 d) here ∙ one_here))
            | inr other ↦ elim other [
              | inl low ↦ or_left (list_any (is_group_at place 416) deltas) (list_any (is_group_at place 416) (d ∷ [])) (before.all m low has_some read)
              | inr past ↦ absurd (omega (arith, past, below))
            ]
          ];
      laid = λ image hands whole so stored.
          let mid : Image = laid_over (deltas_on deltas) image in
          let own : Delta = group_delta g n (group_bytes marks.new) in
          let room : 4096 * blocks_of g ≤ length mid = omega (arith, whole, length-laid_over (deltas_on deltas) image) in
          let was : record_at (reading_of g (block image)) n ≡ Some (record_of marks.old) =
          record_kept (reading_of g (block image)) records n so ∙ ap (option_map record_of) marks.was in
          let after : AreMarkedTo g (block image) (block (laid_over (deltas_on (own ∷ [])) mid)) hand (n + 1) =
          marked_with g (block image) (block mid) hand n hands stored within (before.laid image hands whole so stored) (block (laid_over (deltas_on (own ∷ [])) mid)) (record_of marks.old)
          marks.new ok (stored_laid g (reading_of g (block image)) hands stored) was marks.marked (record_elsewhere g n marks.new mid ok within marks.marked.group room)
          (record_here g n marks.new mid ok within marks.marked.group room) in
          let same : laid_over (deltas_on (own ∷ [])) mid ≡ laid_over (deltas_on (deltas ++ d ∷ [])) image =
          ap (λ (e : Delta). laid_over (deltas_on (e ∷ [])) mid) (sym marks.is) ∙ laid_over_append deltas (d ∷ []) image in
          subst (λ (i : Image). AreMarkedTo g (block image) (block i) hand (n + 1)) same after;
    }

-- the bits that were put are by the bits before
put_by_bits : (g : Geometry) (m n : ℕ) (hand : Hand) (old mid new : GroupRecord) → m ≡ n → mid.inode_bits ≡ old.inode_bits → mid.block_bits ≡ old.block_bits
    → HasHandPut g m true hand mid new → HasHandPut g n true hand old new
put_by_bits g m n hand old mid new number inode_bits block_bits put =
    let here : HasHandPut g n true hand mid new = subst (λ (k : ℕ). HasHandPut g k true hand mid new) number put in
    record {
      inode_bits = λ place below. here.inode_bits place below
          ∙ ap (λ (bits : List ℕ). if is_among (n * g.ipg + place) (held_inodes (hand ∷ [])) then true else bit_at bits place) inode_bits;
      block_bits = λ place below. here.block_bits place below
          ∙ ap (λ (bits : List ℕ). if is_among (group_start g n + place) hand.blocks then true else bit_at bits place) block_bits;
    }

-- the delta that the code makes of the marked group
pub delta_marks : (g : Geometry) (n : ℕ) (hand : Hand) (found : Option Group) (old mid new : Group) (home : ℕ) (bytes : List ℕ) → n < g.groups → has_of_group g hand n ≡ true
    → found ≡ Some old → IsReadGroup g n found → mid.number ≡ old.number → mid.inode_bits ≡ old.inode_bits → mid.block_bits ≡ old.block_bits
    → IsCountedGroup g new → new.number ≡ mid.number → HasHandPut g mid.number true hand (record_of mid) (record_of new)
    → home ≡ 4096 * group_start g n → bytes ≡ group_bytes (record_of new) → MarksGroup g n hand found (record { kind = of_group; home = home; len = 416; bytes = bytes })
delta_marks g n hand found old mid new home bytes within has_some was read number inode_bits block_bits counted same put home_is bytes_are =
    let old_read : IsReadGroup g n (Some old) = subst (IsReadGroup g n) was read in
    let its_number : mid.number ≡ n = number ∙ old_read.1.number in
    record {
      within = within;
      has_some = has_some;
      old = old;
      was = was;
      new = record_of new;
      marked = record {
        group = subst (λ (k : ℕ). IsGroup g k (record_of new)) (same ∙ its_number) counted.group;
        counts = counts_right g new counted;
        put = put_by_bits g mid.number n hand (record_of old) (record_of mid) (record_of new) its_number inode_bits block_bits put;
      };
      is = λ t. record { kind = of_group; home = home_is t; len = 416; bytes = bytes_are t };
    }

-- what was read at a place
pub read_at : (g : Geometry) (records : List (Option Group)) (n : ℕ) (found : Option Group) → n < length records → found ≡ get_or records n found → AreReadGroups g records
    → IsReadGroup g n found
read_at g records n found inside is read =
    subst (λ (o : Option (Option Group)). IsReadGroup g n (option_flatten o)) (slice_get-get_or records n found inside ∙ ap (λ (o : Option Group). Some o) (sym is)) (read n)

pub found_at : (records : List (Option Group)) (n : ℕ) (found : Option Group) → n < length records → found ≡ get_or records n found → found ≡ option_flatten (slice_get records n)
found_at records n found inside is = sym (ap option_flatten (slice_get-get_or records n found inside ∙ ap (λ (o : Option Group). Some o) (sym is)))
