-- What deltas that are laid over others give, and which blocks they lay bytes over.
use Rattle.std.proofs.Common.{◌≡◌, ◌≤◌, ◌⊎◌, inl, inr, ℕ, ◌+◌, ◌-◌, ◌/◌, ◌%◌, eqb, leb, ltb, true, false, not, ◌&&◌, cond, List, [], ◌∷◌, ◌++◌, slice_index, Option, Some, None, is_some, IsSome, refl, sym, ap, ◌∙◌, subst, arith}
use Rattle.std.specs.List.{All, list_any, filter, last_or, cons_option, AllByRecursion}
use Rattle.std.proofs.lemmas.Bool.{cases_Bool, true≢false, false≢true, and_parts, and_from, or_cases, or_left, or_right, not-true, not_from_false, false_from_ne_true, true_from_ne_false, leb-true, eqb-true, le-leb, lt-ltb, cond-true, cond-false}
use Rattle.std.proofs.lemmas.List.{append-nil}
use Rattle.std.proofs.lemmas.List.Elements.{All-weaker, recursion_from_All}
use Rattle.std.proofs.lemmas.List.Folds.{list_any-append}
use Rattle.lufs_base.specs.Kinds.{has_bytes}
use Rattle.lufs_base.specs.declared.geometry.Geometry.{Geometry}
use Rattle.lufs_base.specs.declared.delta.Delta.{Delta}
use Rattle.lufs_base.specs.declared.delta.DeltaKind.{DeltaKind}
use Rattle.lufs_base.specs.declared.delta.DeltaKind.TheVariants.{Group, Inode, Chunk, Pointers, Zero, LinkText, Cancel}
use Rattle.volume_model.specs.declared.log.Tx.{Tx}
use Rattle.volume_model.specs.Log.{is_part_of_block, may_be_logged, is_zero_block, is_cancel, live_deltas, byte_of, given_at, lays_on}
use Rattle.journal_model.specs.LaidBlocks.{given_by, is_laid_by, is_cancelled_in, is_cancelled_by}
use Rattle.journal_model.specs.Changes.{IsMerged}
use Rattle.journal_laws.proofs.Replays.{LiesInBlock, survives, lies_in_block, live-append, else_by, given-append, not_laid_gives_none}

-- the deltas of the table lie in their blocks
pub table_lies : (g : Geometry) (deltas : List Delta) → All (λ d. may_be_logged g d.kind d.home d.len ≡ true) deltas → AllByRecursion LiesInBlock deltas
table_lies g deltas table = recursion_from_All LiesInBlock deltas (All-weaker (λ (d : Delta). may_be_logged g d.kind d.home d.len ≡ true) LiesInBlock (lies_in_block g) deltas table)

-- of one transaction all deltas are live
all_pass : {X : Type 0} (xs : List X) → filter (λ x. true) xs ≡ xs
all_pass [] = refl
all_pass {X = X} (x ∷ xs) = ap (λ (l : List X). x ∷ l) (all_pass xs)

pub live_one : (tx : Tx) → live_deltas (tx ∷ []) ≡ tx.deltas
live_one tx = append-nil (filter (λ d. true) tx.deltas) ∙ all_pass tx.deltas

-- what survives of the deltas on a block
laid_survive : (later : List Tx) (b : ℕ) (ds : List Delta) → list_any (lays_on b) (filter (survives later) ds) ≡ true → (list_any (lays_on b) ds ≡ true) × (is_cancelled_by later b ≡ false)
laid_survive later b [] laid = absurd (false≢true laid)
laid_survive later b (d ∷ ds) laid = elim (cases_Bool (survives later d)) [
  | inl stays ↦
      elim (or_cases (lays_on b d) (list_any (lays_on b) (filter (survives later) ds))
      (sym (ap (list_any (lays_on b)) (cond-true (survives later d) (d ∷ filter (survives later) ds) (filter (survives later) ds) stays)) ∙ laid)) [
        | inl here ↦
            let at : d.home / 4096 ≡ b = eqb-true (d.home / 4096) b (and_parts (eqb (d.home / 4096) b) (not (is_cancel d.kind)) here).0 in
            (or_left (lays_on b d) (list_any (lays_on b) ds) here, ap (is_cancelled_by later) (sym at) ∙ not-true (is_cancelled_by later (d.home / 4096)) stays)
        | inr after ↦ let rest = laid_survive later b ds after in (or_right (lays_on b d) (list_any (lays_on b) ds) rest.0, rest.1)
      ]
  | inr gone ↦
      let rest = laid_survive later b ds (sym (ap (list_any (lays_on b)) (cond-false (survives later d) (d ∷ filter (survives later) ds) (filter (survives later) ds) gone)) ∙ laid) in
      (or_right (lays_on b d) (list_any (lays_on b) ds) rest.0, rest.1)
]

survive_laid : (later : List Tx) (b : ℕ) (ds : List Delta) → list_any (lays_on b) ds ≡ true → is_cancelled_by later b ≡ false → list_any (lays_on b) (filter (survives later) ds) ≡ true
survive_laid later b [] laid kept = absurd (false≢true laid)
survive_laid later b (d ∷ ds) laid kept = elim (or_cases (lays_on b d) (list_any (lays_on b) ds) laid) [
  | inl here ↦
      let at : d.home / 4096 ≡ b = eqb-true (d.home / 4096) b (and_parts (eqb (d.home / 4096) b) (not (is_cancel d.kind)) here).0 in
      let stays : survives later d ≡ true = not_from_false (is_cancelled_by later (d.home / 4096)) (ap (is_cancelled_by later) at ∙ kept) in
      ap (list_any (lays_on b)) (cond-true (survives later d) (d ∷ filter (survives later) ds) (filter (survives later) ds) stays) ∙ or_left (lays_on b d) _ here
  | inr after ↦
      let rest = survive_laid later b ds after kept in
      elim (survives later d) as (λ c. list_any (lays_on b) (cond c (d ∷ filter (survives later) ds) (filter (survives later) ds)) ≡ true) [
        | true ↦ or_right (lays_on b d) (list_any (lays_on b) (filter (survives later) ds)) rest
        | false ↦ rest
      ]
]

-- A block that transactions lay bytes over, they do in their later part, or in the part before and the later one doesn't cancel it.
pub laid_parts : (before later : List Tx) (b : ℕ) → is_laid_by (before ++ later) b ≡ true → ((is_laid_by before b ≡ true) × (is_cancelled_by later b ≡ false)) ⊎ (is_laid_by later b ≡ true)
laid_parts before later b laid =
    elim (or_cases (list_any (lays_on b) (filter (survives later) (live_deltas before))) (is_laid_by later b)
    (sym (ap (list_any (lays_on b)) (live-append before later) ∙ list_any-append (lays_on b) (filter (survives later) (live_deltas before)) (live_deltas later)) ∙ laid)) [
      | inl first ↦ inl (laid_survive later b (live_deltas before) first)
      | inr last ↦ inr last
    ]

pub laid_before : (before later : List Tx) (b : ℕ) → is_laid_by before b ≡ true → is_cancelled_by later b ≡ false → is_laid_by (before ++ later) b ≡ true
laid_before before later b laid kept =
    ap (list_any (lays_on b)) (live-append before later) ∙ list_any-append (lays_on b) (filter (survives later) (live_deltas before)) (live_deltas later)
    ∙ or_left (list_any (lays_on b) (filter (survives later) (live_deltas before))) _ (survive_laid later b (live_deltas before) laid kept)

-- a delta that lays bytes gives its first one
some_bytes : (kind : DeltaKind) (place len : ℕ) → is_part_of_block kind place len ≡ true → 1 ≤ len
some_bytes Group place len part = let p : (eqb place 0 ≡ true) × (eqb len 416 ≡ true) = and_parts _ _ part in omega (arith, eqb-true len 416 p.1)
some_bytes Inode place len part = let p : (eqb (place % 128) 0 ≡ true) × (eqb len 128 ≡ true) = and_parts _ _ part in omega (arith, eqb-true len 128 p.1)
some_bytes Chunk place len part = let p : (eqb (place % 512) 0 ≡ true) × (eqb len 512 ≡ true) = and_parts _ _ part in omega (arith, eqb-true len 512 p.1)
some_bytes Pointers place len part =
    let three : ((eqb (place % 4) 0 && eqb (len % 4) 0 && leb 4 len) ≡ true) × (leb (place + len) 4096 ≡ true) = and_parts _ _ part in
    let two : ((eqb (place % 4) 0 && eqb (len % 4) 0) ≡ true) × (leb 4 len ≡ true) = and_parts _ _ three.0 in
    omega (arith, leb-true 4 len two.1)
some_bytes Zero place len part = let p : (eqb place 0 ≡ true) × (eqb len 4096 ≡ true) = and_parts _ _ part in omega (arith, eqb-true len 4096 p.1)
some_bytes LinkText place len part =
    let two : ((eqb place 0 && leb 1 len) ≡ true) × (leb len 1024 ≡ true) = and_parts _ _ part in
    let one : (eqb place 0 ≡ true) × (leb 1 len ≡ true) = and_parts _ _ two.0 in
    leb-true 1 len one.1
some_bytes Cancel place len part = let p : (eqb place 0 ≡ true) × (eqb len 4096 ≡ true) = and_parts _ _ part in omega (arith, eqb-true len 4096 p.1)

byte_given : (kind : DeltaKind) (some : ℕ) → is_cancel kind ≡ false → is_some (cond (has_bytes kind) (Some some) (cond (is_zero_block kind) (Some 0) None)) ≡ true
byte_given Group some none = refl
byte_given Inode some none = refl
byte_given Chunk some none = refl
byte_given Pointers some none = refl
byte_given Zero some none = refl
byte_given LinkText some none = refl
byte_given Cancel some none = absurd (true≢false none)

gives_first : (g : Geometry) (b : ℕ) (d : Delta) → may_be_logged g d.kind d.home d.len ≡ true → lays_on b d ≡ true → (d.home / 4096 ≡ b) × IsSome (given_at d.home d)
unfolding may_be_logged
gives_first g b d may laid =
    let lies = and_parts (eqb (d.home / 4096) b) (not (is_cancel d.kind)) laid in
    let len : 1 ≤ d.len = some_bytes d.kind (d.home % 4096) d.len (and_parts _ (is_part_of_block d.kind (d.home % 4096) d.len) may).1 in
    let covers : (leb d.home d.home && ltb d.home (d.home + d.len)) ≡ true =
    and_from (leb d.home d.home) (ltb d.home (d.home + d.len)) (le-leb d.home d.home (omega arith)) (lt-ltb d.home (d.home + d.len) (omega (arith, len))) in (
      eqb-true (d.home / 4096) b lies.0,
      ap is_some (cond-true (leb d.home d.home && ltb d.home (d.home + d.len)) (byte_of d (d.home - d.home)) None covers)
          ∙ byte_given d.kind (slice_index d.bytes (d.home - d.home)) (not-true (is_cancel d.kind) lies.1),
    )

pub some_else : (later earlier : Option ℕ) → IsSome earlier → IsSome (else_by later earlier)
some_else None earlier is = is
some_else (Some byte) earlier is = refl

pub some_later : (later earlier : Option ℕ) → IsSome later → IsSome (else_by later earlier)
some_later None earlier is = absurd (false≢true is)
some_later (Some byte) earlier is = refl

-- deltas that lay bytes over a block give one of its bytes
pub gives_some : (g : Geometry) (deltas : List Delta) (b : ℕ) → AllByRecursion (λ d. may_be_logged g d.kind d.home d.len ≡ true) deltas → list_any (lays_on b) deltas ≡ true
    → (address : ℕ) × (address / 4096 ≡ b) × IsSome (given_by deltas address)
gives_some g [] b table laid = absurd (false≢true laid)
gives_some g (d ∷ deltas) b table laid = elim (or_cases (lays_on b d) (list_any (lays_on b) deltas) laid) [
  | inl here ↦
      let first = gives_first g b d table.0 here in (
        d.home,
        first.0,
        subst (λ (o : Option ℕ). IsSome o) (sym (given-append (d ∷ []) deltas d.home))
            (some_else (given_by deltas d.home) (given_by (d ∷ []) d.home) (gives_alone (given_at d.home d) first.1)),
      )
  | inr after ↦
      let rest = gives_some g deltas b table.1 after in
      (rest.0, rest.1, subst (λ (o : Option ℕ). IsSome o) (sym (given-append (d ∷ []) deltas rest.0)) (some_later (given_by deltas rest.0) (given_by (d ∷ []) rest.0) rest.2))
]
  where
    gives_alone : (o : Option ℕ) → IsSome o → IsSome (last_or None (cons_option o []))
    gives_alone None is = is
    gives_alone (Some byte) is = refl

-- and give bytes only of blocks that they lay bytes over
pub given_is_laid : (deltas : List Delta) (address : ℕ) → AllByRecursion LiesInBlock deltas → IsSome (given_by deltas address) → list_any (lays_on (address / 4096)) deltas ≡ true
given_is_laid deltas a lie some =
    let alone : Tx = record { tid = 0; first = 0; sectors = 0; deltas = deltas } in
    true_from_ne_false (list_any (lays_on (a / 4096)) deltas) (λ none.
    let nothing : given_by (live_deltas (alone ∷ [])) a ≡ None = not_laid_gives_none (alone ∷ []) a (lie, tt) (ap (list_any (lays_on (a / 4096))) (live_one alone) ∙ none) in
    false≢true (sym (ap is_some (sym (ap (λ (l : List Delta). given_by l a) (live_one alone)) ∙ nothing)) ∙ some))

either_given : (later earlier : Option ℕ) → IsSome (else_by later earlier) → IsSome later ⊎ IsSome earlier
either_given None earlier is = inr is
either_given (Some byte) earlier is = inl refl

module _ (g : Geometry) (deltas more all : List Delta) (merged : IsMerged g deltas more all) where
  -- a byte has the last value where its block isn't cancelled
  pub merged_gives : (address : ℕ) → is_cancelled_in more (address / 4096) ≡ false → given_by all address ≡ else_by (given_by more address) (given_by deltas address)
  merged_gives a kept = merged.last a kept ∙ given-append deltas more a

  -- what they lay bytes over, one of the two does, and the later ones don't cancel it
  pub merged_laid : (b : ℕ) → AllByRecursion LiesInBlock deltas → AllByRecursion LiesInBlock more → list_any (lays_on b) all ≡ true
      → (is_cancelled_in more b ≡ false) × ((list_any (lays_on b) deltas ≡ true) ⊎ (list_any (lays_on b) more ≡ true))
  merged_laid b lie lie_more laid =
      let found = gives_some g all b (recursion_from_All (λ (d : Delta). may_be_logged g d.kind d.home d.len ≡ true) all merged.loggable.table) laid in
      let a : ℕ = found.0 in
      let kept : is_cancelled_in more (a / 4096) ≡ false =
      false_from_ne_true (is_cancelled_in more (a / 4096)) (λ c. false≢true (sym (ap is_some (merged.void a c)) ∙ found.2)) in (
        ap (is_cancelled_in more) (sym found.1) ∙ kept,
        elim (either_given (given_by more a) (given_by deltas a) (subst (λ (o : Option ℕ). IsSome o) (merged_gives a kept) found.2)) [
          | inl later ↦ inr (ap (λ (c : ℕ). list_any (lays_on c) more) (sym found.1) ∙ given_is_laid more a lie_more later)
          | inr earlier ↦ inl (ap (λ (c : ℕ). list_any (lays_on c) deltas) (sym found.1) ∙ given_is_laid deltas a lie earlier)
        ],
      )
