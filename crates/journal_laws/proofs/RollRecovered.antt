-- What a mount recovers after a step of a roll, it might have recovered before it.
use Rattle.std.proofs.Common.{◌≡◌, ◌<◌, ◌≤◌, ◌⊎◌, inl, inr, ℕ, ◌+◌, ◌*◌, ◌/◌, ◌%◌, eqb, ltb, Bool, true, false, not, cond, List, [], ◌∷◌, ◌++◌, length, take, drop, slice_index, Option, Some, None, refl, sym, ap, ◌∙◌, subst, arith, drop_at}
use Rattle.std.specs.List.{All, filter, AllByRecursion}
use Rattle.std.proofs.Math.Nat.{mod-lt}
use Rattle.std.proofs.Math.Seq.{take-nil}
use Rattle.std.proofs.lemmas.Bool.{true≢false, cases_Bool, cases_eq, lt-ltb, le-ltb}
use Rattle.std.proofs.lemmas.List.{append-nil}
use Rattle.std.proofs.lemmas.List.Elements.{All-drop, All-head, filter-append}
use Rattle.lufs_base.specs.Layout.{IsGeometry, ring_of}
use Rattle.lufs_base.specs.declared.geometry.Geometry.{Geometry}
use Rattle.volume_model.specs.declared.log.Header.{Header}
use Rattle.volume_model.specs.declared.log.Tx.{Tx}
use Rattle.volume_model.specs.Format.{Image}
use Rattle.volume_model.specs.Log.{Listed, BadRun, Log, NoHeader, WithHeader, log_of}
use Rattle.log_laws.specs.TxsInRing.{StandFrom, IsWritten}
use Rattle.log_laws.specs.LogOnImage.{ring_sector, HasLog, MountsSome}
use Rattle.log_laws.proofs.ImageSteps.{mounts, tx_whole}
use Rattle.journal_model.specs.Journals.{SealedTx, Journal}
use Rattle.journal_model.specs.Versions.{Version, tx_in, tx_written, sealed_txs, written_txs, txs_after, txs_of}
use Rattle.journal_model.specs.LaidBlocks.{replayed_byte, is_laid_by}
use Rattle.journal_model.specs.BlockRoles.{FileBytes, Roles, is_metadata}
use Rattle.journal_model.specs.Kept.{HaveRoles}
use Rattle.journal_laws.proofs.Replays.{LieInBlocks, each_right, stands_replayed, laid_later}
use Rattle.journal_laws.proofs.RollFacts.{parts_of}

-- a mount leaves the bytes of files as they stand
pub files_stay : (g : Geometry) (roles : Roles) (j : Journal) (image : Image) (v : Version) (n b i : ℕ) → HaveRoles g roles j → LieInBlocks (txs_of g j v) → roles v b ≡ FileBytes → i < 4096
    → replayed_byte image (txs_after g j n v) (4096 * b + i) ≡ slice_index image (4096 * b + i)
files_stay g roles j image v n b i h lie role inside =
    let a : ℕ = 4096 * b + i in
    let block_of : a / 4096 ≡ b = omega (arith, inside) in
    let before : List Tx = take n j.committed in
    let after : List Tx = txs_after g j n v in
    let both : before ++ after ≡ txs_of g j v = parts_of g j n v in
    let not_laid : is_laid_by after b ≡ false = elim (cases_Bool (is_laid_by after b)) [
      | inl laid ↦
          let all : is_laid_by (txs_of g j v) b ≡ true = sym (ap (λ (l : List Tx). is_laid_by l b) both) ∙ laid_later before after b laid in
          absurd (true≢false (sym (h.laid v b all) ∙ ap is_metadata role))
      | inr none ↦ none
    ] in
    stands_replayed image after a (each_right _ before after (subst LieInBlocks (sym both) lie)) (ap (is_laid_by after) block_of ∙ not_laid)

-- Two lists that are one, whose fronts have low numbers and whose ends have high ones, have the same end.
abbrev pub AllLow : ℕ → List Tx → Type 0
AllLow number txs = AllByRecursion (λ tx. ltb tx.tid number ≡ true) txs

abbrev pub AllHigh : ℕ → List Tx → Type 0
AllHigh number txs = AllByRecursion (λ tx. ltb tx.tid number ≡ false) txs

abbrev is_high : ℕ → Tx → Bool
is_high number tx = not (ltb tx.tid number)

none_high : (number : ℕ) (txs : List Tx) → AllLow number txs → filter (is_high number) txs ≡ []
none_high number [] low = refl
none_high number (tx ∷ txs) low = ap (λ (b : Bool). cond (not b) (tx ∷ filter (is_high number) txs) (filter (is_high number) txs)) low.0 ∙ none_high number txs low.1

all_high : (number : ℕ) (txs : List Tx) → AllHigh number txs → filter (is_high number) txs ≡ txs
all_high number [] high = refl
all_high number (tx ∷ txs) high =
    ap (λ (b : Bool). cond (not b) (tx ∷ filter (is_high number) txs) (filter (is_high number) txs)) high.0 ∙ ap (λ (l : List Tx). tx ∷ l) (all_high number txs high.1)

end_of : (number : ℕ) (front end : List Tx) → AllLow number front → AllHigh number end → filter (is_high number) (front ++ end) ≡ end
end_of number front end low high =
    filter-append (is_high number) front end ∙ ap (λ (l : List Tx). l ++ filter (is_high number) end) (none_high number front low) ∙ all_high number end high

pub same_ends : (number : ℕ) (front end other others : List Tx) → AllLow number front → AllLow number other → AllHigh number end → AllHigh number others → front ++ end ≡ other ++ others → end ≡ others
same_ends number front end other others low lows high highs same =
    sym (end_of number front end low high) ∙ ap (filter (is_high number)) same ∙ end_of number other others lows highs

pub stand_low : (g : Geometry) (head at tid number : ℕ) (txs : List Tx) → StandFrom g head at tid txs → tid + length txs ≤ number → AllLow number txs
stand_low g head at tid number [] stand within = tt
stand_low g head at tid number (tx ∷ txs) stand within =
    (lt-ltb tx.tid number (omega (arith, stand.0.number, within)), stand_low g head (at + tx.sectors) (tid + 1) number txs stand.1 (omega (arith, within)))

pub stand_high : (g : Geometry) (head at tid number : ℕ) (txs : List Tx) → StandFrom g head at tid txs → number ≤ tid → AllHigh number txs
stand_high g head at tid number [] stand from = tt
stand_high g head at tid number (tx ∷ txs) stand from =
    (le-ltb tx.tid number (omega (arith, stand.0.number, from)), stand_high g head (at + tx.sectors) (tid + 1) number txs stand.1 (omega (arith, from)))

-- the transaction whose sectors may be written is the sealed one
written_or_none : (o : Option SealedTx) → (tx_written o ≡ []) ⊎ (tx_written o ≡ tx_in o)
written_or_none None = inl refl
written_or_none (Some s) = elim (eqb s.written 0) as (λ b. (cond b [] (s.tx ∷ []) ≡ []) ⊎ (cond b [] (s.tx ∷ []) ≡ s.tx ∷ [])) [ true ↦ inl refl | false ↦ inr refl ]

one_or_none : (o : Option SealedTx) → (tx_in o ≡ []) ⊎ ((tx : Tx) × (tx_in o ≡ tx ∷ []))
one_or_none None = inl refl
one_or_none (Some s) = inr (s.tx, refl)

pub few_written : (j : Journal) → (written_txs j ≡ []) ⊎ ((tx : Tx) × (written_txs j ≡ tx ∷ []))
few_written j = elim (written_or_none j.sealed) [
  | inl none ↦ inl none
  | inr all ↦ elim (one_or_none j.sealed) [
    | inl none ↦ inl (all ∙ none)
    | inr one ↦ inr (one.0, all ∙ one.1)
  ]
]

pub written_high : (number : ℕ) (j : Journal) → AllHigh number (sealed_txs j) → AllHigh number (written_txs j)
written_high number j high = elim (written_or_none j.sealed) [
  | inl none ↦ subst (AllHigh number) (sym none) tt
  | inr all ↦ subst (AllHigh number) (sym all) high
]

-- what a log lists
listed_in : Log → List Tx
listed_in NoHeader = []
listed_in (WithHeader h (Listed txs)) = txs
listed_in (WithHeader h (BadRun tid place)) = []

pub same_list : (h other : Header) (txs others : List Tx) → WithHeader h (Listed txs) ≡ WithHeader other (Listed others) → txs ≡ others
unfolding listed_in
same_list h other txs others same = ap listed_in same

-- a transaction that stands written is listed
written_is_listed : (g : Geometry) (h : Header) (image : Image) (txs : List Tx) (tx : Tx) → HasLog g h image txs (tx ∷ []) → IsWritten g h.epoch (ring_sector g image) tx
    → log_of g image ≡ WithHeader h (Listed (txs ++ tx ∷ []))
written_is_listed g h image txs tx has written =
    let some : MountsSome g h image (txs ++ tx ∷ []) [] = mounts g h image (txs ++ tx ∷ []) [] (tx_whole g h image txs [] tx has written) in
    some.listed ∙ ap (λ (l : List Tx). WithHeader h (Listed l)) (ap (λ (l : List Tx). (txs ++ tx ∷ []) ++ l) (take-nil some.count) ∙ append-nil (txs ++ tx ∷ []))

-- one that is listed stands written
listed_is_written : (g : Geometry) (h : Header) (image : Image) (txs : List Tx) (tx : Tx) (some : MountsSome g h image txs (tx ∷ [])) → some.count ≡ 1 → IsWritten g h.epoch (ring_sector g image) tx
listed_is_written g h image txs tx some one =
    let all : All (IsWritten g h.epoch (ring_sector g image)) (txs ++ tx ∷ []) =
    subst (λ (n : ℕ). All (IsWritten g h.epoch (ring_sector g image)) (txs ++ take n (tx ∷ []))) one some.log.ring.begins.written in
    let end : drop (length txs) (txs ++ tx ∷ []) ≡ tx ∷ [] = drop_at txs (tx ∷ []) (length txs) refl in
    All-head (IsWritten g h.epoch (ring_sector g image)) tx [] (subst (All (IsWritten g h.epoch (ring_sector g image))) end (All-drop (IsWritten g h.epoch (ring_sector g image)) (length txs) (txs ++ tx ∷ []) all))

-- With one ring, a list after any of the transactions tells what is listed after all of them.
module _ (g : Geometry) (first h header : Header) (old new : Image) (number : ℕ) (all txs front later : List Tx) (geometry : IsGeometry g) (epoch : h.epoch ≡ first.epoch)
    (ring : (place : ℕ) → place < ring_of g → ring_sector g new place ≡ ring_sector g old place) (low_txs : AllLow number txs) (low_front : AllLow number front) (high_later : AllHigh number later)
    (lists : log_of g new ≡ WithHeader header (Listed (front ++ later))) where
  -- the end of a list is what comes later
  is_later : (end : List Tx) → AllHigh number end → log_of g new ≡ WithHeader h (Listed (txs ++ end)) → end ≡ later
  is_later end high is = same_ends number txs end front later low_txs low_front high high_later (same_list h header (txs ++ end) (front ++ later) (sym is ∙ lists))

  with_later : (end : List Tx) → end ≡ later → log_of g old ≡ WithHeader first (Listed (all ++ end)) → log_of g old ≡ WithHeader first (Listed (all ++ later))
  with_later end same is = is ∙ ap (λ (l : List Tx). WithHeader first (Listed (all ++ l))) same

  none_later : HasLog g first old all [] → HasLog g h new txs [] → log_of g old ≡ WithHeader first (Listed (all ++ later))
  none_later has_old has_new =
      let before : MountsSome g first old all [] = mounts g first old all [] has_old in
      let after : MountsSome g h new txs [] = mounts g h new txs [] has_new in
      let listed : log_of g new ≡ WithHeader h (Listed (txs ++ [])) = after.listed ∙ ap (λ (l : List Tx). WithHeader h (Listed (txs ++ l))) (take-nil after.count) in
      with_later (take before.count []) (take-nil before.count ∙ is_later [] tt listed) before.listed

  one_later : (tx : Tx) → AllHigh number (tx ∷ []) → HasLog g first old all (tx ∷ []) → HasLog g h new txs (tx ∷ []) → log_of g old ≡ WithHeader first (Listed (all ++ later))
  one_later tx high has_old has_new =
      let before : MountsSome g first old all (tx ∷ []) = mounts g first old all (tx ∷ []) has_old in
      let after : MountsSome g h new txs (tx ∷ []) = mounts g h new txs (tx ∷ []) has_new in
      let place_of : (i : ℕ) → (tx.first + i) % ring_of g < ring_of g = λ i. mod-lt (tx.first + i) (omega (arith, geometry.log_low)) in
      elim (cases_eq before.count 1) [
        | inl one ↦
            let here : IsWritten g first.epoch (ring_sector g old) tx = listed_is_written g first old all tx before one in
            let there : IsWritten g h.epoch (ring_sector g new) tx =
            subst (λ (n : ℕ). IsWritten g n (ring_sector g new) tx) (sym epoch) (record { each = λ i below. ring ((tx.first + i) % ring_of g) (place_of i) ∙ here.each i below }) in
            with_later (take before.count (tx ∷ [])) (ap (λ (n : ℕ). take n (tx ∷ [])) one ∙ is_later (tx ∷ []) high (written_is_listed g h new txs tx has_new there)) before.listed
        | inr other ↦ elim (cases_eq after.count 1) [
          | inl one ↦
              let there : IsWritten g h.epoch (ring_sector g new) tx = listed_is_written g h new txs tx after one in
              let here : IsWritten g first.epoch (ring_sector g old) tx =
              subst (λ (n : ℕ). IsWritten g n (ring_sector g old) tx) epoch (record { each = λ i below. sym (ring ((tx.first + i) % ring_of g) (place_of i)) ∙ there.each i below }) in
              let listed : log_of g new ≡ WithHeader h (Listed (txs ++ tx ∷ [])) = after.listed ∙ ap (λ (n : ℕ). WithHeader h (Listed (txs ++ take n (tx ∷ [])))) one in
              with_later (tx ∷ []) (is_later (tx ∷ []) high listed) (written_is_listed g first old all tx has_old here)
          | inr neither ↦
              let before_none : before.count ≡ 0 = omega (arith, before.within, other) in
              let after_none : after.count ≡ 0 = omega (arith, after.within, neither) in
              let listed : log_of g new ≡ WithHeader h (Listed (txs ++ [])) = after.listed ∙ ap (λ (n : ℕ). WithHeader h (Listed (txs ++ take n (tx ∷ [])))) after_none in
              with_later (take before.count (tx ∷ [])) (ap (λ (n : ℕ). take n (tx ∷ [])) before_none ∙ is_later [] tt listed) before.listed
        ]
      ]

  pub same_later : (more : List Tx) → (more ≡ []) ⊎ ((tx : Tx) × (more ≡ tx ∷ [])) → AllHigh number more → HasLog g first old all more → HasLog g h new txs more
      → log_of g old ≡ WithHeader first (Listed (all ++ later))
  same_later more few high has_old has_new = elim few [
    | inl none ↦ none_later (subst (HasLog g first old all) none has_old) (subst (HasLog g h new txs) none has_new)
    | inr one ↦ one_later one.0 (subst (AllHigh number) one.1 high) (subst (HasLog g first old all) one.1 has_old) (subst (HasLog g h new txs) one.1 has_new)
  ]
