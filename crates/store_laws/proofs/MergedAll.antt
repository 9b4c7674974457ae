-- Deltas that are merged one after the other into those of a transaction are laid over them as a journal asks.
use Rattle.std.proofs.Common.{◌≡◌, ◌≤◌, inl, inr, ℕ, suc, ◌+◌, ◌/◌, eqb, Bool, true, false, not, ◌&&◌, ◌||◌, List, [], ◌∷◌, length, Option, Some, None, IsSome, refl, sym, ap, subst, ◌∙◌, arith}
use Rattle.std.specs.Prelude.{All, slice_index_or}
use Rattle.std.specs.List.{list_any}
use Rattle.std.proofs.lemmas.Bool.{cases_Bool, true≢false, false≢true, eqb-true, eq-eqb, ne_eqb, and_parts, and_from, and_right, or_cases, or_left, or_right, not-true}
use Rattle.std.proofs.lemmas.List.Elements.{All-head, All-tail, All-weaker, All-contains}
use Rattle.std.proofs.lemmas.List.Sums.{sum_by-cons}
use Rattle.std.proofs.Math.Bool.{or-false}
use Rattle.lufs_base.specs.declared.geometry.Geometry.{Geometry}
use Rattle.lufs_base.specs.declared.delta.Delta.{Delta}
use Rattle.lufs_base.specs.declared.delta.DeltaKind.{DeltaKind}
use Rattle.volume_model.specs.Log.{AreLoggable, may_be_logged, may_precede, is_cancel, is_zero_block, given_at, logged_len, delta_bytes, lays_on}
use Rattle.volume_model.specs.Sound.{Reading, IsLaid}
use Rattle.meta_store.specs.Suited.{suits_block, suits}
use Rattle.meta_store.specs.Merged.{is_whole_block, stands_beside, merged, all_merged}
use Rattle.meta_store.proofs.MergeSteps.{merged_all}
use Rattle.meta_store.proofs.MergedTable.{IsLoggable, each_loggable}
use Rattle.meta_store.proofs.MergedOrder.{merged_are_loggable, all_merged_are_loggable}
use Rattle.meta_draft.proofs.Later.{later, given_first, later_later}
use Rattle.meta_draft.proofs.MergedBytes.{merged_no_longer}
use Rattle.meta_draft.proofs.MergedLays.{last_at, AreOrdered, merged_gives}
use Rattle.draft_laws.proofs.Cancels.{beside_apart, cancels_kept, cancels_beside, cancels_there}
use Rattle.draft_laws.proofs.ClaimUses.{some_passes}
use Rattle.draft_laws.proofs.MergedElsewhere.{each_beside, merged_whole}
use Rattle.draft_laws.proofs.Merging.{by_place}
use Rattle.draft_laws.proofs.SuitedBeside.{suited_beside}
use Rattle.journal_model.specs.LaidBlocks.{given_by, is_cancelled_in}
use Rattle.journal_model.specs.Changes.{IsMerged}
use Rattle.journal_laws.proofs.MergedDeltas.{table_lies, given_is_laid}
use Rattle.journal_laws.proofs.Replays.{else_by, given-append}

-- a cancelled block has no other delta
cancel_apart : (d : Delta) (kind : DeltaKind) (home : ℕ) → may_precede d kind home ≡ true → (is_cancel d.kind || is_cancel kind) ≡ true → d.home / 4096 ≡ home / 4096 → ⊥
unfolding may_precede
cancel_apart d kind home may cancel same =
    let last = (and_parts _ (not (is_cancel d.kind || is_cancel kind) || not (eqb (d.home / 4096) (home / 4096))) may).1 in
    elim (or_cases (not (is_cancel d.kind || is_cancel kind)) (not (eqb (d.home / 4096) (home / 4096))) last) [
      | inl none ↦ true≢false (sym cancel ∙ not-true (is_cancel d.kind || is_cancel kind) none)
      | inr apart ↦ true≢false (sym (eq-eqb (d.home / 4096) (home / 4096) same) ∙ not-true (eqb (d.home / 4096) (home / 4096)) apart)
    ]

first_ordered : (d : Delta) (deltas : List Delta) → AreOrdered (d ∷ deltas) → All (λ x. may_precede d x.kind x.home ≡ true) deltas
first_ordered d deltas order = λ k x inside. order 0 (suc k) x (omega arith) (omega (arith, inside))

rest_ordered : (d : Delta) (deltas : List Delta) → AreOrdered (d ∷ deltas) → AreOrdered deltas
rest_ordered d deltas order = λ i j x before inside. order (suc i) (suc j) x (omega (arith, before)) (omega (arith, inside))

rest_loggable : (g : Geometry) (d : Delta) (deltas : List Delta) → AreLoggable g (d ∷ deltas) → AreLoggable g deltas
rest_loggable g d deltas are = record {
  table = All-tail (λ x. may_be_logged g x.kind x.home x.len ≡ true) d deltas are.table;
  order = rest_ordered d deltas are.order;
  bytes = All-tail (λ x. length x.bytes ≡ logged_len x.kind x.len) d deltas are.bytes;
}

abbrev cancels_block : ℕ → Delta → Bool
cancels_block b d = is_cancel d.kind && eqb (d.home / 4096) b

-- of a block that is cancelled nothing is laid
none_beside_cancel : (deltas : List Delta) (b : ℕ) → AreOrdered deltas → is_cancelled_in deltas b ≡ true → list_any (lays_on b) deltas ≡ true → ⊥
none_beside_cancel [] b order cancelled laid = false≢true laid
none_beside_cancel (d ∷ deltas) b order cancelled laid =
    elim (or_cases (cancels_block b d) (is_cancelled_in deltas b) cancelled) [
      | inl here ↦
          let c = and_parts (is_cancel d.kind) (eqb (d.home / 4096) b) here in
          elim (or_cases (lays_on b d) (list_any (lays_on b) deltas) laid) [
            | inl lays ↦ true≢false (sym c.0 ∙ not-true (is_cancel d.kind) (and_parts (eqb (d.home / 4096) b) (not (is_cancel d.kind)) lays).1)
            | inr rest ↦
                let e = some_passes (lays_on b) deltas rest in
                let at = and_parts (eqb (e.0.home / 4096) b) (not (is_cancel e.0.kind)) e.2 in
                cancel_apart d e.0.kind e.0.home (All-contains (λ x. may_precede d x.kind x.home ≡ true) deltas e.0 (first_ordered d deltas order) e.1) (or_left (is_cancel d.kind) (is_cancel e.0.kind) c.0)
                (eqb-true (d.home / 4096) b c.1 ∙ sym (eqb-true (e.0.home / 4096) b at.0))
          ]
      | inr later_on ↦
          elim (or_cases (lays_on b d) (list_any (lays_on b) deltas) laid) [
            | inl lays ↦
                let at = and_parts (eqb (d.home / 4096) b) (not (is_cancel d.kind)) lays in
                let e = some_passes (cancels_block b) deltas later_on in
                let c = and_parts (is_cancel e.0.kind) (eqb (e.0.home / 4096) b) e.2 in
                cancel_apart d e.0.kind e.0.home (All-contains (λ x. may_precede d x.kind x.home ≡ true) deltas e.0 (first_ordered d deltas order) e.1) (or_right (is_cancel d.kind) (is_cancel e.0.kind) c.0)
                (eqb-true (d.home / 4096) b at.0 ∙ sym (eqb-true (e.0.home / 4096) b c.1))
            | inr rest ↦ none_beside_cancel deltas b (rest_ordered d deltas order) later_on rest
          ]
    ]

pub no_value : (o : Option ℕ) → (IsSome o → ⊥) → o ≡ None
no_value None none = refl
no_value (Some byte) none = absurd (none refl)

-- and none of its bytes is given
pub cancelled_gives_none : (g : Geometry) (deltas : List Delta) (a : ℕ) → AreLoggable g deltas → is_cancelled_in deltas (a / 4096) ≡ true → given_by deltas a ≡ None
cancelled_gives_none g deltas a are cancelled =
    no_value (given_by deltas a) (λ some. none_beside_cancel deltas (a / 4096) are.order cancelled (given_is_laid deltas a (table_lies g deltas are.table) some))

pub same_later : (o p : Option ℕ) → later o p ≡ else_by o p
same_later None p = refl
same_later (Some byte) p = refl

or_or : (x y z : Bool) → ((x || y) || z) ≡ (x || (y || z))
or_or true y z = refl
or_or false y z = refl

module _ (g : Geometry) (s : Reading) (laid : IsLaid g s) where
  abbrev Suits : Delta → Type 0
  Suits e = suits g s e ≡ true

  -- nothing is laid on this block
  abbrev NoneOn : List Delta → ℕ → Type 0
  NoneOn more b = All (λ d. is_cancel d.kind ≡ false → b ≡ d.home / 4096 → ⊥) more

  -- What the deltas are into which more are merged: they suit the reading but on blocks that are to be cancelled, and nothing
  -- more is laid on blocks that they cancel.
  pub record MayMerge (deltas more : List Delta) : Type 0 where
    pub are : AreLoggable g deltas
    pub are_more : AreLoggable g more
    pub suited_more : All Suits more
    pub suited : All (λ e. is_cancelled_in more (e.home / 4096) ≡ false → Suits e) deltas
    pub apart : All (λ e. is_cancel e.kind ≡ true → NoneOn more (e.home / 4096)) deltas

  -- what the merged deltas are
  pub record AreMerged (deltas more : List Delta) : Type 0 where
    pub suited : All Suits (all_merged deltas more)
    pub cancels : (b : ℕ) → is_cancelled_in (all_merged deltas more) b ≡ (is_cancelled_in deltas b || is_cancelled_in more b)
    pub last : (a : ℕ) → is_cancelled_in more (a / 4096) ≡ false → last_at a (all_merged deltas more) ≡ later (last_at a more) (last_at a deltas)

  record OneMerged (deltas : List Delta) (d : Delta) : Type 0 where
    pub cancels : (b : ℕ) → is_cancelled_in (merged deltas d) b ≡ (is_cancelled_in deltas b || cancels_block b d)
    pub last : (a : ℕ) → (is_cancel d.kind ≡ true → d.home / 4096 ≡ a / 4096 → ⊥) → last_at a (merged deltas d) ≡ later (given_at a d) (last_at a deltas)

  suits_its : (d : Delta) → is_cancel d.kind ≡ false → Suits d → suits_block g s d.kind (d.home / 4096) ≡ true
  suits_its d lays is = sym (ap (λ (t : Bool). t || suits_block g s d.kind (d.home / 4096)) lays) ∙ is

  -- a delta that lays bytes stands beside an older one
  one_beside : (d older : Delta) (more : List Delta) → AreLoggable g (d ∷ more) → Suits d → is_cancel d.kind ≡ false → (is_cancelled_in (d ∷ more) (older.home / 4096) ≡ false → Suits older)
      → (is_cancel older.kind ≡ true → NoneOn (d ∷ more) (older.home / 4096)) → stands_beside d older ≡ true
  one_beside d older more are is lays suited apart = elim (cases_Bool (is_cancel older.kind)) [
    | inl cancel ↦
        let away = All-head (λ d. is_cancel d.kind ≡ false → older.home / 4096 ≡ d.home / 4096 → ⊥) d more (apart cancel) lays in
        beside_apart d older (ne_eqb (d.home / 4096) (older.home / 4096) (λ same. away (sym same)))
    | inr lays_too ↦ elim (cases_Bool (eqb (d.home / 4096) (older.home / 4096))) [
      | inr away ↦ beside_apart d older away
      | inl same ↦ elim (cases_Bool (is_cancelled_in more (older.home / 4096))) [
        | inl cancelled ↦
            let c = some_passes (cancels_block (older.home / 4096)) more cancelled in
            let at = and_parts (is_cancel c.0.kind) (eqb (c.0.home / 4096) (older.home / 4096)) c.2 in
            absurd (cancel_apart d c.0.kind c.0.home (All-contains (λ x. may_precede d x.kind x.home ≡ true) more c.0 (first_ordered d more are.order) c.1) (or_right (is_cancel d.kind) (is_cancel c.0.kind) at.0)
            (eqb-true (d.home / 4096) (older.home / 4096) same ∙ sym (eqb-true (c.0.home / 4096) (older.home / 4096) at.1)))
        | inr kept ↦
            let none : is_cancelled_in (d ∷ more) (older.home / 4096) ≡ false = ap (λ (t : Bool). (t && eqb (d.home / 4096) (older.home / 4096)) || is_cancelled_in more (older.home / 4096)) lays ∙ kept in
            suited_beside g s d older laid (suits_its d lays is) (inl (suits_its older lays_too (suited none)))
      ]
    ]
  ]

  module _ (deltas more : List Delta) (d : Delta) (may : MayMerge deltas (d ∷ more)) where
    own : IsLoggable g d
    own = All-head (IsLoggable g) d more (each_loggable g (d ∷ more) may.are_more)

    its : Suits d
    its = All-head Suits d more may.suited_more

    next_are : AreLoggable g (merged deltas d)
    next_are = merged_are_loggable g deltas d may.are own

    module _ (lays : is_cancel d.kind ≡ false) where
      beside : All (λ older. stands_beside d older ≡ true) deltas
      beside = λ k e inside. one_beside d (slice_index_or deltas k e) more may.are_more its lays (may.suited k e inside) (may.apart k e inside)

      lays_one : OneMerged deltas d
      lays_one = record {
        cancels = λ b.
            cancels_kept deltas d b lays (λ k e inside cancel same.
            All-head (λ d. is_cancel d.kind ≡ false → (slice_index_or deltas k e).home / 4096 ≡ d.home / 4096 → ⊥) d more (may.apart k e inside cancel) lays same)
            ∙ sym (or-false (is_cancelled_in deltas b)) ∙ ap (λ (t : Bool). is_cancelled_in deltas b || (t && eqb (d.home / 4096) b)) (sym lays);
        last = λ a away. merged_gives g a deltas d (each_loggable g deltas may.are) own may.are.order next_are.order beside away;
      }

      lays_next : MayMerge (merged deltas d) more
      lays_next = record {
        are = next_are;
        are_more = rest_loggable g d more may.are_more;
        suited_more = All-tail Suits d more may.suited_more;
        suited = merged_all (λ e. is_cancelled_in more (e.home / 4096) ≡ false → Suits e)
            (λ x older is its _. by_place (λ kind b. is_cancelled_in more b ≡ false → (is_cancel kind || suits_block g s kind b) ≡ true) x older is its) deltas d
            (λ k e inside none. may.suited k e inside (ap (λ (t : Bool). (t && eqb (d.home / 4096) ((slice_index_or deltas k e).home / 4096)) || is_cancelled_in more ((slice_index_or deltas k e).home / 4096)) lays ∙ none))
            (λ none. its);
        apart = merged_all (λ e. is_cancel e.kind ≡ true → NoneOn more (e.home / 4096)) (λ x older is its _. by_place (λ kind b. is_cancel kind ≡ true → NoneOn more b) x older is its) deltas d
            (λ k e inside cancel. All-tail (λ d. is_cancel d.kind ≡ false → (slice_index_or deltas k e).home / 4096 ≡ d.home / 4096 → ⊥) d more (may.apart k e inside cancel))
            (λ cancel. absurd (true≢false (sym cancel ∙ lays)));
      }

    module _ (cancel : is_cancel d.kind ≡ true) where
      whole : is_whole_block d.kind ≡ true
      whole = or_right (is_zero_block d.kind) (is_cancel d.kind) cancel

      cancel_one : OneMerged deltas d
      cancel_one = record {
        cancels = λ b. elim (cases_Bool (eqb (d.home / 4096) b)) [
          | inl same ↦
              subst (λ (c : ℕ). is_cancelled_in (merged deltas d) c ≡ true) (eqb-true (d.home / 4096) b same) (cancels_there deltas d cancel whole)
              ∙ sym (or_right (is_cancelled_in deltas b) (cancels_block b d) (and_from (is_cancel d.kind) (eqb (d.home / 4096) b) cancel same))
          | inr away ↦
              cancels_beside deltas d b (λ same. true≢false (sym (eq-eqb (d.home / 4096) b same) ∙ away))
              ∙ sym (or-false (is_cancelled_in deltas b)) ∙ ap (λ (t : Bool). is_cancelled_in deltas b || t) (sym (and_right (is_cancel d.kind) (eqb (d.home / 4096) b) away))
        ];
        last = λ a away. merged_gives g a deltas d (each_loggable g deltas may.are) own may.are.order next_are.order (each_beside d deltas whole) away;
      }

      cancel_next : MayMerge (merged deltas d) more
      cancel_next = record {
        are = next_are;
        are_more = rest_loggable g d more may.are_more;
        suited_more = All-tail Suits d more may.suited_more;
        suited = merged_whole (λ e. is_cancelled_in more (e.home / 4096) ≡ false → Suits e) d whole (λ none. its) deltas may.are.order
            (λ k e inside away none.
            let b = (slice_index_or deltas k e).home / 4096 in
            may.suited k e inside (ap (λ (t : Bool). t || is_cancelled_in more b) (and_right (is_cancel d.kind) (eqb (d.home / 4096) b) (ne_eqb (d.home / 4096) b (λ same. away (sym same)))) ∙ none));
        apart = merged_whole (λ e. is_cancel e.kind ≡ true → NoneOn more (e.home / 4096)) d whole
            (λ is k e inside lays same.
            cancel_apart d (slice_index_or more k e).kind (slice_index_or more k e).home (first_ordered d more may.are_more.order k e inside)
            (or_left (is_cancel d.kind) (is_cancel (slice_index_or more k e).kind) cancel) same) deltas may.are.order
            (λ k e inside away is. All-tail (λ d. is_cancel d.kind ≡ false → (slice_index_or deltas k e).home / 4096 ≡ d.home / 4096 → ⊥) d more (may.apart k e inside is));
      }

    -- what the rest makes of it
    joined_up : OneMerged deltas d → AreMerged (merged deltas d) more → AreMerged deltas (d ∷ more)
    unfolding all_merged
    joined_up one rest = record {
      suited = rest.suited;
      cancels = λ b. rest.cancels b ∙ ap (λ (t : Bool). t || is_cancelled_in more b) (one.cancels b) ∙ or_or (is_cancelled_in deltas b) (cancels_block b d) (is_cancelled_in more b);
      last = λ a none.
          let away : is_cancel d.kind ≡ true → d.home / 4096 ≡ a / 4096 → ⊥ = λ cancel same.
          true≢false (sym (or_left (cancels_block (a / 4096) d) (is_cancelled_in more (a / 4096)) (and_from (is_cancel d.kind) (eqb (d.home / 4096) (a / 4096)) cancel (eq-eqb (d.home / 4096) (a / 4096) same))) ∙ none) in
          let rest_none : is_cancelled_in more (a / 4096) ≡ false = elim (cases_Bool (is_cancelled_in more (a / 4096))) [
            | inl cancelled ↦ absurd (true≢false (sym (or_right (cancels_block (a / 4096) d) (is_cancelled_in more (a / 4096)) cancelled) ∙ none))
            | inr kept ↦ kept
          ] in
          rest.last a rest_none
          ∙ ap (later (last_at a more)) (one.last a away)
          ∙ sym (later_later (last_at a more) (given_at a d) (last_at a deltas))
          ∙ ap (λ (o : Option ℕ). later o (last_at a deltas)) (sym (given_first (λ e. given_at a e) d more));
    }

  pub are_merged : (deltas more : List Delta) → MayMerge deltas more → AreMerged deltas more
  unfolding all_merged
  are_merged deltas [] may = record {
    suited = All-weaker (λ e. false ≡ false → Suits e) Suits (λ e is. is refl) deltas may.suited;
    cancels = λ b. sym (or-false (is_cancelled_in deltas b));
    last = λ a none. refl;
  }
  are_merged deltas (d ∷ more) may = elim (cases_Bool (is_cancel d.kind)) [
    | inl cancel ↦ joined_up deltas more d may (cancel_one deltas more d may cancel) (are_merged (merged deltas d) more (cancel_next deltas more d may cancel))
    | inr lays ↦ joined_up deltas more d may (lays_one deltas more d may lays) (are_merged (merged deltas d) more (lays_next deltas more d may lays))
  ]

  pub is_merged : (deltas more : List Delta) → MayMerge deltas more → IsMerged g deltas more (all_merged deltas more)
  is_merged deltas more may =
      let all = are_merged deltas more may in
      let loggable = all_merged_are_loggable g deltas more may.are (each_loggable g more may.are_more) in
      record {
        loggable = loggable;
        cancels = all.cancels;
        void = λ a cancelled. cancelled_gives_none g (all_merged deltas more) a loggable (all.cancels (a / 4096) ∙ or_right (is_cancelled_in deltas (a / 4096)) (is_cancelled_in more (a / 4096)) cancelled);
        last = λ a none. all.last a none ∙ same_later (last_at a more) (last_at a deltas) ∙ sym (given-append deltas more a);
      }

-- merged deltas take no more bytes than each by itself
pub all_merged_bytes : (deltas more : List Delta) → delta_bytes (all_merged deltas more) ≤ delta_bytes deltas + delta_bytes more
unfolding all_merged
all_merged_bytes deltas [] = omega arith
all_merged_bytes deltas (d ∷ more) =
    let rest = all_merged_bytes (merged deltas d) more in
    let one = merged_no_longer deltas d in
    omega (arith, rest, one, sum_by-cons (λ (e : Delta). 16 + logged_len e.kind e.len) d more)
