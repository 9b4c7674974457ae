-- The steps in which a directory is made and removed: what a change asks for can be met.
use Rattle.std.proofs.Common.{◌≡◌, ◌<◌, ◌≤◌, inl, inr, ℕ, ◌+◌, ◌*◌, ◌/◌, eqb, leb, ltb, Bool, true, false, ◌&&◌, ◌||◌, cond, [], ◌∷◌, length, Option, Some, None, is_some, IsSome, refl, sym, ap, ◌∙◌, subst, arith}
use Rattle.std.specs.List.{last_or, cons_option}
use Rattle.std.proofs.lemmas.Bool.{cases_Bool, true≢false, false≢true, or_cases, and_from, eqb-true, le-leb, lt-ltb, cond-true, cond-false}
use Rattle.std.proofs.lemmas.List.Elements.{All-from_recursion}
use Rattle.std.proofs.lemmas.List.Kept.{AllPairs-cons}
use Rattle.lufs_base.specs.declared.delta.Delta.{Delta}
use Rattle.lufs_base.specs.declared.delta.DeltaKind.TheVariants.{Chunk}
use Rattle.volume_model.specs.Format.{Image, is_body}
use Rattle.volume_model.specs.Log.{AreLoggable, given_at, is_cancel, logged_len, may_be_logged, may_precede}
use Rattle.volume_model.specs.Sound.{is_among}
use Rattle.volume_model.specs.Worked.{smallest}
use Rattle.journal_model.specs.Journals.{Live, Journal}
use Rattle.journal_model.specs.LaidBlocks.{given_by, is_cancelled_in}
use Rattle.journal_model.specs.BlockRoles.{Role, Metadata, FileBytes, Unclaimed, Changes, is_metadata, is_claimed}
use Rattle.journal_model.specs.Batches.{is_released}
use Rattle.journal_model.specs.Changes.{owner_after, MovesRoles, MovesDeltas}
use Rattle.journal_model.specs.Steps.{Step, Apply}
use Rattle.journal_model.specs.Worked.{mounted_at, delta_of, zero_block, removal, with_directory}
use Rattle.journal_laws.specs.Worked.{with_block, making, reserved}
use Rattle.journal_laws.proofs.Replays.{given-append}
use Rattle.journal_laws.proofs.MergedDeltas.{some_else}

abbrev other_block : ℕ → Role
other_block b = cond (eqb b 37) (Metadata 4096) Unclaimed

abbrev bytes_of : Role → ℕ
bytes_of (Metadata n) = n
bytes_of FileBytes = 0
bytes_of Unclaimed = 0

few_bytes : (has : Bool) (b : ℕ) → bytes_of (with_block has b) ≤ 4096
few_bytes has b = elim (eqb b 38) as (λ t. bytes_of (cond t (cond has (Metadata 4096) Unclaimed) (other_block b)) ≤ 4096) [
  | true ↦ elim has as (λ t. bytes_of (cond t (Metadata 4096) Unclaimed) ≤ 4096) [ true ↦ omega arith | false ↦ omega arith ]
  | false ↦ elim (eqb b 37) as (λ t. bytes_of (cond t (Metadata 4096) Unclaimed) ≤ 4096) [ true ↦ omega arith | false ↦ omega arith ]
]

sizes : (has : Bool) (b n : ℕ) → with_block has b ≡ Metadata n → n ≤ 4096
sizes has b n role = let is : bytes_of (with_block has b) ≡ n = ap bytes_of role in omega (arith, is, few_bytes has b)

-- only block 38 is another with the directory than without it
same_beside : (b : ℕ) → eqb b 38 ≡ false → with_block true b ≡ with_block false b
same_beside b other = cond-false (eqb b 38) (Metadata 4096) (other_block b) other ∙ sym (cond-false (eqb b 38) Unclaimed (other_block b) other)

only_one : (b : ℕ) → is_among b (38 ∷ []) ≡ true → 38 ≡ b
only_one b is = elim (or_cases (eqb 38 b) false is) [ inl here ↦ eqb-true 38 b here | inr none ↦ absurd (false≢true none) ]

-- a block that is claimed only with the directory is block 38
new_one : (b : ℕ) → is_claimed (with_block false b) ≡ false → is_claimed (with_block true b) ≡ true → 38 ≡ b
new_one b before now = elim (cases_Bool (eqb b 38)) [
  | inl here ↦ sym (eqb-true b 38 here)
  | inr other ↦ absurd (false≢true (sym before ∙ ap is_claimed (sym (same_beside b other)) ∙ now))
]

-- one that is claimed without it is so with it
claimed_with : (b : ℕ) → is_claimed (with_block false b) ≡ true → with_block true b ≡ with_block false b
claimed_with b claimed = elim (cases_Bool (eqb b 38)) [
  | inl here ↦ absurd (false≢true (sym (ap is_claimed (cond-true (eqb b 38) Unclaimed (other_block b) here)) ∙ claimed))
  | inr other ↦ same_beside b other
]

abbrev making_in : Journal
making_in = reserved (mounted_at 0 1) 1000

-- the zero block gives all bytes of block 38
zeros_given : (i : ℕ) → i < 4096 → IsSome (given_by making.deltas (4096 * 38 + i))
zeros_given i inside =
    let a : ℕ = 4096 * 38 + i in
    let zeros : Delta = zero_block 155648 in
    let covers : (leb 155648 a && ltb a 159744) ≡ true = and_from (leb 155648 a) (ltb a 159744) (le-leb 155648 a (omega arith)) (lt-ltb a 159744 (omega (arith, inside))) in
    let one : given_at a zeros ≡ Some 0 = cond-true (leb 155648 a && ltb a 159744) (Some 0) None covers in
    let given : IsSome (given_by (zeros ∷ []) a) = ap (λ (o : Option ℕ). is_some (last_or None (cons_option o []))) one in
    subst (λ (o : Option ℕ). IsSome o) (sym (given-append (zeros ∷ []) (delta_of Chunk 155648 512 5 ∷ []) a))
    (some_else (given_by (delta_of Chunk 155648 512 5 ∷ []) a) (given_by (zeros ∷ []) a) given)

making_roles : MovesRoles smallest (λ v. with_block false) making_in making (with_block true)
making_roles = record {
  taken = λ b is. subst (λ (c : ℕ). is_released making_in c ≡ true) (only_one b is) refl;
  given_back = λ b is. absurd (false≢true is);
  freed = λ b is. absurd (false≢true is);
  kept = λ b claimed none. claimed_with b claimed;
  claimed = λ b before now. subst (λ (c : ℕ). (is_body smallest c ≡ true) × (owner_after smallest making_in making c ≡ Live)) (new_one b before now) (refl, refl);
  covered = λ b n i before role inside.
      subst (λ (c : ℕ). IsSome (given_by making.deltas (4096 * c + i))) (new_one b before (ap is_claimed role))
      (zeros_given i (let size = sizes true b n role in omega (arith, size, inside)));
  sizes = sizes true;
}

making_loggable : AreLoggable smallest making.deltas
unfolding may_be_logged may_precede
making_loggable = record {
  table = All-from_recursion (λ (d : Delta). may_be_logged smallest d.kind d.home d.len ≡ true) making.deltas (refl, (refl, tt));
  order = AllPairs-cons (λ (d later : Delta). may_precede d later.kind later.home ≡ true) (zero_block 155648) (delta_of Chunk 155648 512 5 ∷ [])
      (All-from_recursion (λ (later : Delta). may_precede (zero_block 155648) later.kind later.home ≡ true) (delta_of Chunk 155648 512 5 ∷ []) (refl, tt))
      (λ i j d less below. absurd (omega (arith, less, below)));
  bytes = All-from_recursion (λ (d : Delta). length d.bytes ≡ logged_len d.kind d.len) making.deltas (refl, (refl, tt));
}

making_deltas : MovesDeltas smallest (λ v. with_block false) making_in making (with_block true) making.deltas
making_deltas = record {
  merged = record {
    loggable = making_loggable;
    cancels = λ b. refl;
    void = λ a c. absurd (false≢true c);
    last = λ a kept. refl;
  };
  table = making_loggable.table;
  laid = All-from_recursion (λ (d : Delta). is_cancel d.kind ≡ false → is_metadata (with_block true (d.home / 4096)) ≡ true) making.deltas ((λ other. refl), ((λ other. refl), tt));
  cancels = λ b. refl;
  room = omega arith;
}

pub directory_made : (home : Image) → Step smallest (λ v. with_block false) home making_in (Changes (with_block true)) []
    (record making_in { running = making.deltas; owners = owner_after smallest making_in making; unspent = 456 })
directory_made home = Apply making (with_block true) making.deltas making_roles making_deltas

abbrev removing_in : Journal
removing_in = reserved with_directory 16

removal_roles : MovesRoles smallest (λ v. with_block true) removing_in removal (with_block false)
removal_roles = record {
  taken = λ b is. absurd (false≢true is);
  given_back = λ b is. absurd (false≢true is);
  freed = λ b is. subst (λ (c : ℕ). (is_claimed (with_block true c) ≡ true) × (is_claimed (with_block false c) ≡ false)) (only_one b is) (refl, refl);
  kept = λ b claimed none. elim (cases_Bool (eqb b 38)) [
    | inl here ↦ absurd (false≢true (sym none ∙ ap (λ (c : ℕ). is_among c (38 ∷ [])) (eqb-true b 38 here)))
    | inr other ↦ sym (same_beside b other)
  ];
  claimed = λ b before now. absurd (false≢true (sym before ∙ ap is_claimed (claimed_with b now) ∙ now));
  covered = λ b n i before role inside. absurd (false≢true (sym before ∙ ap is_claimed (claimed_with b (ap is_claimed role)) ∙ ap is_claimed role));
  sizes = sizes false;
}

removal_loggable : AreLoggable smallest removal.deltas
unfolding may_be_logged
removal_loggable = record {
  table = All-from_recursion (λ (d : Delta). may_be_logged smallest d.kind d.home d.len ≡ true) removal.deltas (refl, tt);
  order = λ i j d less below. absurd (omega (arith, less, below));
  bytes = All-from_recursion (λ (d : Delta). length d.bytes ≡ logged_len d.kind d.len) removal.deltas (refl, tt);
}

nothing_given : (a : ℕ) → given_by removal.deltas a ≡ None
nothing_given a = elim (leb 155648 a && ltb a 159744) as (λ t. last_or {A = ℕ} None (cons_option (cond t None None) []) ≡ None) [ true ↦ refl | false ↦ refl ]

removal_cancels : (b : ℕ) → is_cancelled_in removal.deltas b ≡ (is_among b (38 ∷ []) && is_metadata (with_block true b))
removal_cancels b = elim (cases_Bool (eqb 38 b)) [
  | inl here ↦ subst (λ (c : ℕ). is_cancelled_in removal.deltas c ≡ (is_among c (38 ∷ []) && is_metadata (with_block true c))) (eqb-true 38 b here) refl
  | inr other ↦ ap (λ (t : Bool). t || false) other ∙ sym (ap (λ (t : Bool). (t || false) && is_metadata (with_block true b)) other)
]

removal_deltas : MovesDeltas smallest (λ v. with_block true) removing_in removal (with_block false) removal.deltas
removal_deltas = record {
  merged = record {
    loggable = removal_loggable;
    cancels = λ b. refl;
    void = λ a c. nothing_given a;
    last = λ a kept. refl;
  };
  table = removal_loggable.table;
  laid = All-from_recursion (λ (d : Delta). is_cancel d.kind ≡ false → is_metadata (with_block false (d.home / 4096)) ≡ true) removal.deltas ((λ other. absurd (true≢false other)), tt);
  cancels = removal_cancels;
  room = omega arith;
}

pub directory_removed : (home : Image) → Step smallest (λ v. with_block true) home removing_in (Changes (with_block false)) []
    (record removing_in { running = removal.deltas; owners = owner_after smallest removing_in removal; unspent = 0 })
directory_removed home = Apply removal (with_block false) removal.deltas removal_roles removal_deltas
