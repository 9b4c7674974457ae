-- A group record that is amended among the held deltas is laid over them as one delta more would be.
use Rattle.std.proofs.Common.{◌≡◌, inl, inr, ℕ, ◌+◌, ◌-◌, ◌*◌, ◌/◌, ◌%◌, eqb, leb, ltb, Bool, true, false, ◌&&◌, ◌||◌, cond, List, [], ◌∷◌, map, length, slice_index, Option, Some, None, refl, sym, ap, subst, ◌∙◌, arith}
use Rattle.std.specs.Prelude.{nat_lt, All, slice_index_or}
use Rattle.std.specs.List.{list_any}
use Rattle.std.proofs.lemmas.Bool.{cases_eq, cases_lt, false≢true, eqb-true, eq-eqb, ne_eqb, and_parts, and_from, and_left, and_right, cond-true, cond-false, lt-leb, le-ltb}
use Rattle.std.proofs.lemmas.List.Elements.{All-head, All-tail}
use Rattle.std.proofs.Math.Bool.{or-false}
use Rattle.lufs_base.specs.Layout.{blocks_of, group_start, region_of}
use Rattle.lufs_base.specs.declared.geometry.Geometry.{Geometry}
use Rattle.lufs_base.specs.declared.geometry.Region.{Region}
use Rattle.lufs_base.specs.declared.geometry.Region.TheVariants.{Boot, Super, Log, GroupBlock, Inodes, Body}
use Rattle.lufs_base.specs.declared.delta.Delta.{Delta}
use Rattle.lufs_base.specs.declared.delta.DeltaKind.{DeltaKind}
use Rattle.lufs_base.specs.declared.delta.DeltaKind.TheVariants.{Group, Inode, Chunk, Pointers, Zero, LinkText, Cancel}
use Rattle.volume_model.specs.Log.{AreLoggable, may_be_logged, is_home_of, is_part_of_block, is_cancel, logged_len, byte_of, given_at}
use Rattle.meta_store.specs.Laid.{IsWithinBlock}
use Rattle.meta_store.specs.Merged.{is_group}
use Rattle.meta_store.specs.Changes.{is_group_at, amended}
use Rattle.meta_store.proofs.LogLaid.{logged_within}
use Rattle.meta_store.proofs.MergedTable.{IsLoggable, table_parts, each_loggable, all_amended}
use Rattle.meta_draft.proofs.Later.{later, last_given, given_first, none_given}
use Rattle.meta_store.specs.Deltas.{group_delta}
use Rattle.journal_model.specs.LaidBlocks.{given_by, is_cancelled_in}
use Rattle.journal_model.specs.Changes.{IsMerged}
use Rattle.journal_laws.proofs.Replays.{else_by, given-append}
use Rattle.store_laws.proofs.MergedAll.{same_later}

-- only group records lie where one does
only_groups : (kind : DeltaKind) (region : Region) → is_home_of Group region ≡ true → is_home_of kind region ≡ true → kind ≡ Group
only_groups kind Boot home is = absurd (false≢true home)
only_groups kind Super home is = absurd (false≢true home)
only_groups kind Log home is = absurd (false≢true home)
only_groups Group (GroupBlock n) home is = refl
only_groups Inode (GroupBlock n) home is = absurd (false≢true is)
only_groups Chunk (GroupBlock n) home is = absurd (false≢true is)
only_groups Pointers (GroupBlock n) home is = absurd (false≢true is)
only_groups Zero (GroupBlock n) home is = absurd (false≢true is)
only_groups LinkText (GroupBlock n) home is = absurd (false≢true is)
only_groups Cancel (GroupBlock n) home is = absurd (false≢true is)
only_groups kind (Inodes n) home is = absurd (false≢true home)
only_groups kind (Body n) home is = absurd (false≢true home)

elsewhere_none : (a : ℕ) (d : Delta) → IsWithinBlock d → (d.home / 4096 ≡ a / 4096 → ⊥) → given_at a d ≡ None
elsewhere_none a d within other = elim (cases_lt a d.home) [
  | inl before ↦ ap (λ (test : Bool). cond test (byte_of d (a - d.home)) None) (and_left (leb d.home a) (ltb a (d.home + d.len)) (lt-leb d.home a before))
  | inr from ↦ elim (cases_lt a (d.home + d.len)) [
    | inl below ↦ absurd (other (omega (arith, from, below, within)))
    | inr past ↦ ap (λ (test : Bool). cond test (byte_of d (a - d.home)) None) (and_right (leb d.home a) (ltb a (d.home + d.len)) (le-ltb a (d.home + d.len) past))
  ]
]

-- a place that some bytes of a group record cover is covered by any others
covered_alike : (test : Bool) (x y : ℕ) → cond test (Some x) None ≡ None → cond test (Some y) None ≡ None
covered_alike true x y none = absurd (let clash : Some x ≡ None = none in cc)
covered_alike false x y none = refl

module _ (g : Geometry) (n : ℕ) (bytes : List ℕ) (may : may_be_logged g Group (4096 * group_start g n) (length bytes) ≡ true) where
  abbrev home : ℕ
  home = 4096 * group_start g n

  abbrev d : Delta
  d = group_delta g n bytes

  -- its place in the table
  front : is_home_of Group (region_of g (home / 4096)) ≡ true
  front = (and_parts (nat_lt (home / 4096) (blocks_of g)) (is_home_of Group (region_of g (home / 4096))) (table_parts g Group home (length bytes) may).0).1

  pub long : length bytes ≡ 416
  long = eqb-true (length bytes) 416 (and_parts (eqb (home % 4096) 0) (eqb (length bytes) 416) (table_parts g Group home (length bytes) may).1).1

  pub own : IsLoggable g d
  own = record { table = subst (λ (len : ℕ). may_be_logged g Group home len ≡ true) long may; bytes = long }

  at_place : Delta → Bool
  at_place e = is_group_at home (length bytes) e

  -- what lies on the block is the group's record
  record IsRecord (e : Delta) : Type 0 where
    pub is : e ≡ record { kind = Group; home = home; len = 416; bytes = e.bytes }
    pub here : at_place e ≡ true

  on_block : (e : Delta) → IsLoggable g e → e.home / 4096 ≡ home / 4096 → IsRecord e
  unfolding at_place
  on_block e its same =
      let parts = table_parts g e.kind e.home e.len its.table in
      let region : is_home_of e.kind (region_of g (home / 4096)) ≡ true =
      ap (λ (b : ℕ). is_home_of e.kind (region_of g b)) (sym same) ∙ (and_parts (nat_lt (e.home / 4096) (blocks_of g)) (is_home_of e.kind (region_of g (e.home / 4096))) parts.0).1 in
      let kind : e.kind ≡ Group = only_groups e.kind (region_of g (home / 4096)) front region in
      let part : is_part_of_block Group (e.home % 4096) e.len ≡ true = sym (ap (λ (k : DeltaKind). is_part_of_block k (e.home % 4096) e.len) kind) ∙ parts.1 in
      let both = and_parts (eqb (e.home % 4096) 0) (eqb e.len 416) part in
      let place : e.home ≡ home = omega (arith, same, eqb-true (e.home % 4096) 0 both.0) in
      let len : e.len ≡ 416 = eqb-true e.len 416 both.1 in
      let size : length e.bytes ≡ length bytes = its.bytes ∙ ap (λ (k : DeltaKind). logged_len k e.len) kind ∙ len ∙ sym long in
      record {
        is = λ t. record { kind = kind t; home = place t; len = len t; bytes = e.bytes };
        here = and_from (is_group e.kind && eqb e.home home) (eqb (length e.bytes) (length bytes)) (and_from (is_group e.kind) (eqb e.home home) (ap is_group kind) (eq-eqb e.home home place)) (eq-eqb (length e.bytes) (length bytes) size);
      }

  -- and becomes the amended one
  becomes : (e : Delta) → IsRecord e → amended home bytes e ≡ d
  unfolding at_place
  becomes e is = cond-true (is_group_at home (length bytes) e) (record e { bytes = bytes }) e is.here ∙ ap (λ (x : Delta). record x { bytes = bytes }) is.is

  stays : (e : Delta) → (e.home / 4096 ≡ home / 4096 → ⊥) → at_place e ≡ false
  unfolding at_place
  stays e away =
      and_left (is_group e.kind && eqb e.home home) (eqb (length e.bytes) (length bytes)) (and_right (is_group e.kind) (eqb e.home home) (ne_eqb e.home home (λ same. away (ap (λ (m : ℕ). m / 4096) same))))

  unchanged : (e : Delta) → at_place e ≡ false → amended home bytes e ≡ e
  unfolding at_place
  unchanged e other = cond-false (is_group_at home (length bytes) e) (record e { bytes = bytes }) e other

  module _ (a : ℕ) where
    -- where the byte isn't of that block
    beside_each : (held : List Delta) → All (IsLoggable g) held → (a / 4096 ≡ home / 4096 → ⊥) → last_given (λ e. given_at a e) (map (amended home bytes) held) ≡ last_given (λ e. given_at a e) held
    beside_each [] all away = refl
    beside_each (e ∷ held) all away =
        let its = All-head (IsLoggable g) e held all in
        let same : given_at a (amended home bytes e) ≡ given_at a e = elim (cases_eq (e.home / 4096) (home / 4096)) [
          | inl here ↦
              let at = on_block e its here in
              ap (given_at a) (becomes e at)
              ∙ elsewhere_none a d (logged_within g Group home 416 own.table) (λ there. away (sym there))
              ∙ sym (elsewhere_none a e (logged_within g e.kind e.home e.len its.table) (λ there. away (sym there ∙ here)))
          | inr other ↦ ap (given_at a) (unchanged e (stays e other))
        ] in
        given_first (λ e. given_at a e) (amended home bytes e) (map (amended home bytes) held)
        ∙ (λ t. later (beside_each held (All-tail (IsLoggable g) e held all) away t) (same t))
        ∙ sym (given_first (λ e. given_at a e) e held)

    -- where it is, the record's byte
    value : Bool → Option ℕ
    value any = cond any (given_at a d) None

    later_value : (some : Bool) → later (value some) (given_at a d) ≡ given_at a d
    unfolding value
    later_value true = twice (given_at a d)
      where
        twice : (o : Option ℕ) → later o o ≡ o
        twice (Some x) = refl
        twice None = refl
    later_value false = refl

    later_none : (o : Option ℕ) → later o None ≡ o
    later_none (Some x) = refl
    later_none None = refl

    on_each : (held : List Delta) → All (IsLoggable g) held → a / 4096 ≡ home / 4096 → last_given (λ e. given_at a e) (map (amended home bytes) held) ≡ value (list_any at_place held)
    unfolding value
    on_each [] all there = refl
    on_each (e ∷ held) all there =
        let its = All-head (IsLoggable g) e held all in
        let rest = on_each held (All-tail (IsLoggable g) e held all) there in
        given_first (λ e. given_at a e) (amended home bytes e) (map (amended home bytes) held)
        ∙ ap (λ (o : Option ℕ). later o (given_at a (amended home bytes e))) rest
        ∙ elim (cases_eq (e.home / 4096) (home / 4096)) [
          | inl here ↦
              let at = on_block e its here in
              ap (λ (o : Option ℕ). later (value (list_any at_place held)) o) (ap (given_at a) (becomes e at)) ∙ later_value (list_any at_place held) ∙ sym (ap (λ (t : Bool). value (t || list_any at_place held)) at.here)
          | inr other ↦
              ap (λ (o : Option ℕ). later (value (list_any at_place held)) o)
              (ap (given_at a) (unchanged e (stays e other)) ∙ elsewhere_none a e (logged_within g e.kind e.home e.len its.table) (λ same. other (same ∙ there)))
              ∙ later_none (value (list_any at_place held)) ∙ sym (ap (λ (t : Bool). value (t || list_any at_place held)) (stays e other))
        ]

    -- what isn't covered now, wasn't
    none_was : (held : List Delta) → All (IsLoggable g) held → a / 4096 ≡ home / 4096 → given_at a d ≡ None → All (λ e. given_at a e ≡ None) held
    none_was held all there none = λ k e inside.
        let x = slice_index_or held k e in
        let its = all k e inside in
        elim (cases_eq (x.home / 4096) (home / 4096)) [
          | inl here ↦ ap (given_at a) (on_block x its here).is ∙ covered_alike (leb home a && ltb a (home + 416)) (slice_index bytes (a - home)) (slice_index x.bytes (a - home)) none
          | inr other ↦ elsewhere_none a x (logged_within g x.kind x.home x.len its.table) (λ same. other (same ∙ there))
        ]

    by_value : (held : List Delta) → All (IsLoggable g) held → a / 4096 ≡ home / 4096 → (o : Option ℕ) → given_at a d ≡ o → given_at a d ≡ later (given_at a d) (last_given (λ e. given_at a e) held)
    by_value held all there (Some x) is = is ∙ sym (ap (λ (o : Option ℕ). later o (last_given (λ e. given_at a e) held)) is)
    by_value held all there None is = is ∙ sym (none_given (λ e. given_at a e) held (none_was held all there is)) ∙ sym (ap (λ (o : Option ℕ). later o (last_given (λ e. given_at a e) held)) is)

    pub amended_gives : (held : List Delta) → All (IsLoggable g) held → list_any (is_group_at home (length bytes)) held ≡ true
        → last_given (λ e. given_at a e) (map (amended home bytes) held) ≡ later (given_at a d) (last_given (λ e. given_at a e) held)
    unfolding at_place value
    amended_gives held all some = elim (cases_eq (a / 4096) (home / 4096)) [
      | inl there ↦ on_each held all there ∙ ap value some ∙ by_value held all there (given_at a d) refl
      | inr away ↦ beside_each held all away ∙ sym (ap (λ (o : Option ℕ). later o (last_given (λ e. given_at a e) held)) (elsewhere_none a d (logged_within g Group home 416 own.table) (λ same. away (sym same))))
    ]

  cancels_kept : (held : List Delta) (b : ℕ) → is_cancelled_in (map (amended home bytes) held) b ≡ is_cancelled_in held b
  cancels_kept [] b = refl
  cancels_kept (e ∷ held) b =
      let same : (is_cancel (amended home bytes e).kind && eqb ((amended home bytes e).home / 4096) b) ≡ (is_cancel e.kind && eqb (e.home / 4096) b) =
      elim (is_group_at home (length bytes) e) as (λ here. (is_cancel (cond here (record e { bytes = bytes }) e).kind && eqb ((cond here (record e { bytes = bytes }) e).home / 4096) b) ≡ (is_cancel e.kind && eqb (e.home / 4096) b))
      [ true ↦ refl | false ↦ refl ] in
      λ t. same t || cancels_kept held b t

  pub amended_is_merged : (held : List Delta) → AreLoggable g held → list_any (is_group_at home (length bytes)) held ≡ true → IsMerged g held (d ∷ []) (map (amended home bytes) held)
  amended_is_merged held are some = record {
    loggable = all_amended g home bytes held are;
    cancels = λ b. cancels_kept held b ∙ sym (or-false (is_cancelled_in held b));
    void = λ a cancelled. absurd (false≢true cancelled);
    last = λ a none. amended_gives a held (each_loggable g held are) some ∙ same_later (given_at a d) (given_by held a) ∙ sym (given-append held (d ∷ []) a ∙ ap (λ (o : Option ℕ). else_by o (given_by held a)) (given_first (λ e. given_at a e) d []));
  }
