-- What a replay gives for a byte, by the transactions in two parts; and bytes that a roll wrote home.
use Rattle.std.proofs.Common.{◌≡◌, ◌<◌, ◌≤◌, ◌⊎◌, inl, inr, ℕ, ◌+◌, ◌-◌, ◌/◌, ◌%◌, eqb, leb, ltb, Bool, true, false, not, ◌&&◌, ◌||◌, cond, List, [], ◌∷◌, ◌++◌, take, drop, slice_index, Option, Some, None, refl, sym, ap, ◌∙◌, subst, arith, append_assoc}
use Rattle.std.specs.List.{list_any, filter, filter_map, last_or, cons_option, AllByRecursion}
use Rattle.std.specs.Option.{unwrap_or}
use Rattle.std.proofs.lemmas.Bool.{true≢false, cases_Bool, and_parts, and_from, or_parts, or_right, not_from_false, leb-true, ltb-true, eqb-true, eq-eqb}
use Rattle.std.proofs.lemmas.List.{take-append-drop}
use Rattle.std.proofs.lemmas.List.Elements.{All-weaker, recursion_from_All, filter-append, filter_map-append}
use Rattle.std.proofs.lemmas.List.Folds.{list_any-append}
use Rattle.lufs_base.specs.declared.geometry.Geometry.{Geometry}
use Rattle.lufs_base.specs.declared.delta.Delta.{Delta}
use Rattle.lufs_base.specs.declared.delta.DeltaKind.{DeltaKind}
use Rattle.lufs_base.specs.declared.delta.DeltaKind.TheVariants.{Group, Inode, Chunk, Pointers, Zero, LinkText, Cancel}
use Rattle.lufs_base.specs.Kinds.{has_bytes}
use Rattle.volume_model.specs.declared.log.Tx.{Tx}
use Rattle.volume_model.specs.Format.{Image}
use Rattle.volume_model.specs.Log.{is_part_of_block, may_be_logged, is_zero_block, is_cancel, AreLoggable, cancels, live_deltas, byte_of, given_at, lays_on}
use Rattle.journal_model.specs.LaidBlocks.{given_by, replayed_byte, is_laid_by, is_cancelled_by}

-- a delta of the table ends in its block
part_inside : (kind : DeltaKind) (place len : ℕ) → place < 4096 → is_part_of_block kind place len ≡ true → place + len ≤ 4096
part_inside Group place len below part = let p : (eqb place 0 ≡ true) × (eqb len 416 ≡ true) = and_parts _ _ part in omega (arith, eqb-true place 0 p.0, eqb-true len 416 p.1)
part_inside Inode place len below part = let p : (eqb (place % 128) 0 ≡ true) × (eqb len 128 ≡ true) = and_parts _ _ part in omega (arith, eqb-true (place % 128) 0 p.0, eqb-true len 128 p.1)
part_inside Chunk place len below part = let p : (eqb (place % 512) 0 ≡ true) × (eqb len 512 ≡ true) = and_parts _ _ part in omega (arith, eqb-true (place % 512) 0 p.0, eqb-true len 512 p.1)
part_inside Pointers place len below part = leb-true _ _ (and_parts _ _ part).1
part_inside Zero place len below part = let p : (eqb place 0 ≡ true) × (eqb len 4096 ≡ true) = and_parts _ _ part in omega (arith, eqb-true place 0 p.0, eqb-true len 4096 p.1)
part_inside LinkText place len below part =
    let two : ((eqb place 0 && leb 1 len) ≡ true) × (leb len 1024 ≡ true) = and_parts _ _ part in
    let one : (eqb place 0 ≡ true) × (leb 1 len ≡ true) = and_parts _ _ two.0 in
    omega (arith, eqb-true place 0 one.0, leb-true len 1024 two.1)
part_inside Cancel place len below part = let p : (eqb place 0 ≡ true) × (eqb len 4096 ≡ true) = and_parts _ _ part in omega (arith, eqb-true place 0 p.0, eqb-true len 4096 p.1)

cancel_has_none : (kind : DeltaKind) → is_cancel kind ≡ true → (has_bytes kind ≡ false) × (is_zero_block kind ≡ false)
cancel_has_none Group is = absurd (true≢false (sym is))
cancel_has_none Inode is = absurd (true≢false (sym is))
cancel_has_none Chunk is = absurd (true≢false (sym is))
cancel_has_none Pointers is = absurd (true≢false (sym is))
cancel_has_none Zero is = absurd (true≢false (sym is))
cancel_has_none LinkText is = absurd (true≢false (sym is))
cancel_has_none Cancel is = (refl, refl)

-- a delta gives bytes of the block that it lays bytes over, and no others
abbrev pub LiesInBlock : Delta → Type 0
LiesInBlock d = (address : ℕ) → (given_at address d ≡ None) ⊎ (lays_on (address / 4096) d ≡ true)

abbrev pub LieInBlocks : List Tx → Type 0
LieInBlocks txs = AllByRecursion (λ tx. AllByRecursion LiesInBlock tx.deltas) txs

pub lies_in_block : (g : Geometry) (d : Delta) → may_be_logged g d.kind d.home d.len ≡ true → LiesInBlock d
unfolding may_be_logged
lies_in_block g d may a =
    let part = part_inside d.kind (d.home % 4096) d.len (omega arith) (and_parts _ (is_part_of_block d.kind (d.home % 4096) d.len) may).1 in
    elim (cases_Bool (leb d.home a && ltb a (d.home + d.len))) [
      | inl covers ↦
          let parts = and_parts (leb d.home a) (ltb a (d.home + d.len)) covers in
          let low = leb-true d.home a parts.0 in
          let high = ltb-true a (d.home + d.len) parts.1 in
          let here : d.home / 4096 ≡ a / 4096 = omega (arith, low, high, part) in
          elim (cases_Bool (is_cancel d.kind)) [
            | inl cancel ↦
                let none = cancel_has_none d.kind cancel in
                inl (ap (λ (b : Bool). cond b (byte_of d (a - d.home)) None) covers
                ∙ ap (λ (b : Bool). cond b (Some (slice_index d.bytes (a - d.home))) (cond (is_zero_block d.kind) (Some 0) None)) none.0
                ∙ ap (λ (b : Bool). cond b (Some 0) None) none.1)
            | inr other ↦ inr (and_from (eqb (d.home / 4096) (a / 4096)) (not (is_cancel d.kind)) (eq-eqb _ _ here) (not_from_false _ other))
          ]
      | inr leaves ↦ inl (ap (λ (b : Bool). cond b (byte_of d (a - d.home)) None) leaves)
    ]

pub loggable_lie : (g : Geometry) (deltas : List Delta) → AreLoggable g deltas → AllByRecursion LiesInBlock deltas
loggable_lie g deltas are =
    recursion_from_All LiesInBlock deltas (All-weaker (λ (d : Delta). may_be_logged g d.kind d.home d.len ≡ true) LiesInBlock (lies_in_block g) deltas are.table)

-- a fact of each element of a list in two parts
module _ {X : Type 0} (P : X → Type 0) where
  pub each_both : (xs ys : List X) → AllByRecursion P xs → AllByRecursion P ys → AllByRecursion P (xs ++ ys)
  each_both [] ys first second = second
  each_both (x ∷ xs) ys first second = (first.0, each_both xs ys first.1 second)

  pub each_left : (xs ys : List X) → AllByRecursion P (xs ++ ys) → AllByRecursion P xs
  each_left [] ys all = tt
  each_left (x ∷ xs) ys all = (all.0, each_left xs ys all.1)

  pub each_right : (xs ys : List X) → AllByRecursion P (xs ++ ys) → AllByRecursion P ys
  each_right [] ys all = all
  each_right (x ∷ xs) ys all = each_right xs ys all.1

  pub each_taken : (n : ℕ) (xs : List X) → AllByRecursion P xs → AllByRecursion P (take n xs)
  each_taken n xs all = each_left (take n xs) (drop n xs) (subst (AllByRecursion P) (sym (take-append-drop n xs)) all)

  each_filtered : (p : X → Bool) (xs : List X) → AllByRecursion P xs → AllByRecursion P (filter p xs)
  each_filtered p [] all = tt
  each_filtered p (x ∷ xs) all =
      let rest = each_filtered p xs all.1 in
      elim (p x) as (λ c. AllByRecursion P (cond c (x ∷ filter p xs) (filter p xs))) [
        | true ↦ (all.0, rest)
        | false ↦ rest
      ]

-- the delta's block isn't cancelled later
abbrev pub survives : List Tx → Delta → Bool
survives later d = not (is_cancelled_by later (d.home / 4096))

pub each_live : (P : Delta → Type 0) (txs : List Tx) → AllByRecursion (λ tx. AllByRecursion P tx.deltas) txs → AllByRecursion P (live_deltas txs)
each_live P [] all = tt
each_live P (tx ∷ later) all =
    each_both P (filter (survives later) tx.deltas) (live_deltas later) (each_filtered P (survives later) tx.deltas all.0) (each_live P later all.1)

pub live_lie : (txs : List Tx) → LieInBlocks txs → AllByRecursion LiesInBlock (live_deltas txs)
live_lie txs lie = each_live LiesInBlock txs lie

-- two filters, one after the other
filter_twice : {X : Type 0} (p q both : X → Bool) → ((x : X) → both x ≡ (q x && p x)) → (xs : List X) → filter both xs ≡ filter q (filter p xs)
filter_twice p q both is [] = refl
filter_twice {X = X} p q both is (x ∷ xs) =
    let rest = filter_twice p q both is xs in
    ap (λ (c : Bool). cond c (x ∷ filter both xs) (filter both xs)) (is x)
    ∙ elim (p x) as (λ c. cond (q x && c) (x ∷ filter both xs) (filter both xs) ≡ filter q (cond c (x ∷ filter p xs) (filter p xs))) [
      | true ↦ elim (q x) as (λ d. cond (d && true) (x ∷ filter both xs) (filter both xs) ≡ cond d (x ∷ filter q (filter p xs)) (filter q (filter p xs))) [
        | true ↦ ap (λ (l : List X). x ∷ l) rest
        | false ↦ rest
      ]
      | false ↦ elim (q x) as (λ d. cond (d && false) (x ∷ filter both xs) (filter both xs) ≡ filter q (filter p xs)) [
        | true ↦ rest
        | false ↦ rest
      ]
    ]

not_either : (a b : Bool) → not (a || b) ≡ (not b && not a)
not_either true true = refl
not_either true false = refl
not_either false true = refl
not_either false false = refl

-- the live deltas of transactions, and of later ones after them
pub live-append : (before later : List Tx) → live_deltas (before ++ later) ≡ filter (survives later) (live_deltas before) ++ live_deltas later
live-append [] later = refl
live-append (tx ∷ before) later =
    let front : filter (survives (before ++ later)) tx.deltas ≡ filter (survives later) (filter (survives before) tx.deltas) =
    filter_twice (survives before) (survives later) (survives (before ++ later)) (λ d.
    ap not (list_any-append (cancels (d.home / 4096)) before later) ∙ not_either (is_cancelled_by before (d.home / 4096)) (is_cancelled_by later (d.home / 4096))) tx.deltas in
    ap (λ (l : List Delta). l ++ live_deltas (before ++ later)) front
    ∙ ap (λ (l : List Delta). filter (survives later) (filter (survives before) tx.deltas) ++ l) (live-append before later)
    ∙ sym (append_assoc (filter (survives later) (filter (survives before) tx.deltas)) (filter (survives later) (live_deltas before)) (live_deltas later))
    ∙ ap (λ (l : List Delta). l ++ live_deltas later) (sym (filter-append (survives later) (filter (survives before) tx.deltas) (live_deltas before)))

-- what later deltas give, or else what earlier ones do
abbrev pub else_by : Option ℕ → Option ℕ → Option ℕ
else_by None earlier = earlier
else_by (Some byte) earlier = Some byte

last_is_some : (byte : ℕ) (xs : List ℕ) → (last : ℕ) × (last_or (Some byte) xs ≡ Some last)
last_is_some byte [] = (byte, refl)
last_is_some byte (x ∷ xs) = last_is_some x xs

last_else : (o : Option ℕ) (xs : List ℕ) → last_or o xs ≡ else_by (last_or None xs) o
last_else o [] = refl
last_else o (x ∷ xs) = let last = last_is_some x xs in last.1 ∙ sym (ap (λ (l : Option ℕ). else_by l o) last.1)

last_joined : (o : Option ℕ) (xs ys : List ℕ) → last_or o (xs ++ ys) ≡ last_or (last_or o xs) ys
last_joined o [] ys = refl
last_joined o (x ∷ xs) ys = last_joined (Some x) xs ys

-- what deltas give, and more deltas after them
pub given-append : (xs ys : List Delta) (address : ℕ) → given_by (xs ++ ys) address ≡ else_by (given_by ys address) (given_by xs address)
given-append xs ys a =
    ap (last_or None) (filter_map-append (given_at a) xs ys) ∙ last_joined None (filter_map (given_at a) xs) (filter_map (given_at a) ys)
    ∙ last_else (given_by xs a) (filter_map (given_at a) ys)

-- deltas that lay nothing over a block give none of its bytes
given_none : (deltas : List Delta) (a : ℕ) → AllByRecursion LiesInBlock deltas → list_any (lays_on (a / 4096)) deltas ≡ false → filter_map (given_at a) deltas ≡ []
given_none [] a lie none = refl
given_none (d ∷ deltas) a lie none =
    let parts = or_parts (lays_on (a / 4096) d) (list_any (lays_on (a / 4096)) deltas) none in
    elim (lie.0 a) [
      | inl here ↦ ap (λ (o : Option ℕ). cons_option o (filter_map (given_at a) deltas)) here ∙ given_none deltas a lie.1 parts.1
      | inr there ↦ absurd (true≢false (sym there ∙ parts.0))
    ]

pub not_laid_gives_none : (txs : List Tx) (address : ℕ) → LieInBlocks txs → is_laid_by txs (address / 4096) ≡ false → given_by (live_deltas txs) address ≡ None
not_laid_gives_none txs a lie none = ap (last_or None) (given_none (live_deltas txs) a (live_lie txs lie) none)

-- what is left of the deltas for a byte, where its block is cancelled later or not
survivor : (later : List Tx) (a : ℕ) (c : Bool) (d : Delta) → is_cancelled_by later (a / 4096) ≡ c → LiesInBlock d → (rest : List ℕ) (ds : List Delta)
    → filter_map (given_at a) (filter (survives later) ds) ≡ cond c [] rest
    → filter_map (given_at a) (cond (survives later d) (d ∷ filter (survives later) ds) (filter (survives later) ds)) ≡ cond c [] (cons_option (given_at a d) rest)
survivor later a c d is lies rest ds hyp = elim (lies a) [
  | inl none ↦ elim (survives later d) as (λ s. filter_map (given_at a) (cond s (d ∷ filter (survives later) ds) (filter (survives later) ds)) ≡ cond c [] (cons_option (given_at a d) rest)) [
    | true ↦ ap (λ (o : Option ℕ). cons_option o (filter_map (given_at a) (filter (survives later) ds))) none ∙ hyp ∙ ap (λ (o : Option ℕ). cond c [] (cons_option o rest)) (sym none)
    | false ↦ hyp ∙ ap (λ (o : Option ℕ). cond c [] (cons_option o rest)) (sym none)
  ]
  | inr there ↦
      let here : d.home / 4096 ≡ a / 4096 = eqb-true _ _ (and_parts (eqb (d.home / 4096) (a / 4096)) (not (is_cancel d.kind)) there).0 in
      let s : survives later d ≡ not c = ap (λ (b : ℕ). not (is_cancelled_by later b)) here ∙ ap not is in
      ap (λ (k : Bool). filter_map (given_at a) (cond k (d ∷ filter (survives later) ds) (filter (survives later) ds))) s
      ∙ (elim c as (λ c. filter_map (given_at a) (filter (survives later) ds) ≡ cond c [] rest → filter_map (given_at a) (cond (not c) (d ∷ filter (survives later) ds) (filter (survives later) ds)) ≡ cond c [] (cons_option (given_at a d) rest)) [
        | true ↦ λ h. h
        | false ↦ λ h. ap (cons_option (given_at a d)) h
      ]) hyp
]

survivors : (later : List Tx) (a : ℕ) (ds : List Delta) (c : Bool) → is_cancelled_by later (a / 4096) ≡ c → AllByRecursion LiesInBlock ds
    → filter_map (given_at a) (filter (survives later) ds) ≡ cond c [] (filter_map (given_at a) ds)
survivors later a [] true is lie = refl
survivors later a [] false is lie = refl
survivors later a (d ∷ ds) c is lie = survivor later a c d is lie.0 (filter_map (given_at a) ds) ds (survivors later a ds c is lie.1)

last_cond : (c : Bool) (xs : List ℕ) → last_or None (cond c [] xs) ≡ cond c None (last_or None xs)
last_cond true xs = refl
last_cond false xs = refl

-- What transactions give for a byte, and later ones after them: what the later ones give, or else what those before them do, but
-- nothing where its block is cancelled later.
pub given_by_parts : (before later : List Tx) (address : ℕ) (c : Bool) → is_cancelled_by later (address / 4096) ≡ c → LieInBlocks before
    → given_by (live_deltas (before ++ later)) address ≡ else_by (given_by (live_deltas later) address) (cond c None (given_by (live_deltas before) address))
given_by_parts before later a c is lie =
    ap (λ (l : List Delta). given_by l a) (live-append before later) ∙ given-append (filter (survives later) (live_deltas before)) (live_deltas later) a
    ∙ ap (else_by (given_by (live_deltas later) a)) (ap (last_or None) (survivors later a (live_deltas before) c is (live_lie before lie)) ∙ last_cond c (filter_map (given_at a) (live_deltas before)))

-- what later transactions lay bytes over, all of them do
pub laid_later : (before later : List Tx) (b : ℕ) → is_laid_by later b ≡ true → is_laid_by (before ++ later) b ≡ true
laid_later before later b laid =
    ap (list_any (lays_on b)) (live-append before later) ∙ list_any-append (lays_on b) (filter (survives later) (live_deltas before)) (live_deltas later)
    ∙ or_right (list_any (lays_on b) (filter (survives later) (live_deltas before))) _ laid

pub cancelled-append : (before later : List Tx) (b : ℕ) → is_cancelled_by (before ++ later) b ≡ (is_cancelled_by before b || is_cancelled_by later b)
cancelled-append before later b = list_any-append (cancels b) before later

-- a byte that images share reads the same in both
pub same_replayed : (image other : Image) (txs : List Tx) (address : ℕ) → slice_index image address ≡ slice_index other address
    → replayed_byte image txs address ≡ replayed_byte other txs address
same_replayed image other txs a same = ap (unwrap_or (given_by (live_deltas txs) a)) same

-- where nothing is laid over its block it reads as it stands
pub stands_replayed : (image : Image) (txs : List Tx) (address : ℕ) → LieInBlocks txs → is_laid_by txs (address / 4096) ≡ false
    → replayed_byte image txs address ≡ slice_index image address
stands_replayed image txs a lie none = ap (λ (o : Option ℕ). unwrap_or o (slice_index image a)) (not_laid_gives_none txs a lie none)

replaced : (given : Option ℕ) (new old : ℕ) → new ≡ unwrap_or given old → unwrap_or given new ≡ unwrap_or given old
replaced None new old is = is
replaced (Some byte) new old is = refl

-- a byte that was replayed reads as it is
pub twice_replayed : (image other : Image) (txs : List Tx) (address : ℕ) → slice_index image address ≡ replayed_byte other txs address
    → replayed_byte image txs address ≡ replayed_byte other txs address
twice_replayed image other txs a is = replaced (given_by (live_deltas txs) a) (slice_index image a) (slice_index other a) is

over_rolled : (later before : Option ℕ) (c : Bool) (old : ℕ) → old ≡ unwrap_or before old → unwrap_or later old ≡ unwrap_or (else_by later (cond c None before)) old
over_rolled (Some byte) before c old same = refl
over_rolled None before true old same = refl
over_rolled None before false old same = same

-- Bytes that hold what the transactions before give read the same by the later ones as by all of them.
pub rolled : (image : Image) (before later : List Tx) (address : ℕ) → LieInBlocks before → slice_index image address ≡ replayed_byte image before address
    → replayed_byte image later address ≡ replayed_byte image (before ++ later) address
rolled image before later a lie same =
    over_rolled (given_by (live_deltas later) a) (given_by (live_deltas before) a) (is_cancelled_by later (a / 4096)) (slice_index image a) same
    ∙ ap (λ (o : Option ℕ). unwrap_or o (slice_index image a)) (sym (given_by_parts before later a (is_cancelled_by later (a / 4096)) refl lie))

over_home : (later before : Option ℕ) (new old : ℕ) → new ≡ unwrap_or before old → unwrap_or (else_by later before) new ≡ unwrap_or (else_by later before) old
over_home (Some byte) before new old put = refl
over_home None None new old put = put
over_home None (Some byte) new old put = refl

-- A byte that is written as the transactions before leave it reads by all of them as it did, unless a later one cancels its block.
pub goes_home : (new home : Image) (before later : List Tx) (address : ℕ) → LieInBlocks before → is_cancelled_by later (address / 4096) ≡ false
    → slice_index new address ≡ replayed_byte home before address → replayed_byte new (before ++ later) address ≡ replayed_byte home (before ++ later) address
goes_home new home before later a lie kept put =
    let all = given_by_parts before later a false kept lie in
    ap (λ (o : Option ℕ). unwrap_or o (slice_index new a)) all
    ∙ over_home (given_by (live_deltas later) a) (given_by (live_deltas before) a) (slice_index new a) (slice_index home a) put
    ∙ sym (ap (λ (o : Option ℕ). unwrap_or o (slice_index home a)) all)
