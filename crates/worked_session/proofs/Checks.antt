-- What a change does to two readings is found by tests on the blocks of a volume.
use Rattle.std.proofs.Common.{◌≡◌, ◌<◌, ◌≤◌, inl, inr, ℕ, ◌/◌, eqb, leb, ltb, Bool, true, false, not, ◌&&◌, ◌||◌, cond, List, [], ◌∷◌, refl, sym, ap, subst, ◌∙◌, arith}
use Rattle.std.specs.Prelude.{nat_lt, All}
use Rattle.std.specs.List.{list_all, range_with_len}
use Rattle.std.proofs.lemmas.Bool.{cases_lt, true≢false, false≢true, eqb-true, eq-eqb, and_parts, or_cases, leb-true, ltb-true, le-ltb, not-true, cond-false}
use Rattle.std.proofs.lemmas.List.Elements.{All-contains, All-weaker, All-nil}
use Rattle.std.proofs.lemmas.List.Sums.{AllPass-from_list_all}
use Rattle.lufs_base.specs.Layout.{blocks_of, region_of}
use Rattle.lufs_base.specs.declared.geometry.Geometry.{Geometry}
use Rattle.lufs_base.specs.declared.delta.DeltaKind.{DeltaKind}
use Rattle.lufs_base.specs.declared.delta.DeltaKind.TheVariants.{Group, Inode, Chunk, Pointers, Zero, LinkText, Cancel}
use Rattle.volume_model.specs.Format.{is_body, is_body_region}
use Rattle.volume_model.specs.Log.{is_cancel}
use Rattle.volume_model.specs.Sound.{Reading, is_claimed, is_among, block_bit, claims_of, greatest_on, metadata_claim_length, record_length, length_of_records, metadata_length, IsLaid}
use Rattle.volume_laws.proofs.ClaimFacts.{claims_its_block}
use Rattle.volume_laws.proofs.LaidClaims.{body_of_claim, greatest_below}
use Rattle.volume_laws.proofs.Members.{Contains_head, Contains_behind, Contains_range}
use Rattle.meta_store.specs.declared.change.Change.{Change}
use Rattle.meta_store.specs.declared.change.RawWrite.{RawWrite}
use Rattle.meta_store.specs.Changes.{frees, frees_metadata}
use Rattle.meta_store.specs.Suited.{suits_block, suits}
use Rattle.meta_store.specs.Conditions.{is_given, StaysClaimed, ComesClaimed, IsGivenUp, HasBitsOf, MayFollow}
use Rattle.draft_laws.proofs.ClaimUses.{some_passes, claim_of}

-- both are true, or both false
abbrev pub agree : Bool → Bool → Bool
agree x y = cond x y (not y)

agreed : (x y : Bool) → agree x y ≡ true → x ≡ y
agreed true y is = sym is
agreed false true is = absurd (false≢true is)
agreed false false is = refl

abbrev pub kinds : List DeltaKind
kinds = Chunk ∷ (Pointers ∷ (Zero ∷ (LinkText ∷ [])))

-- the tests on one block
abbrev pub grows_ok : Geometry → Change → Reading → Reading → ℕ → Bool
grows_ok g change r s b = frees_metadata change b || leb (metadata_length g r b) (metadata_length g s b)

abbrev pub given_ok : Geometry → Change → Reading → Reading → ℕ → Bool
given_ok g change r s b = leb (metadata_length g s b) (metadata_length g r b) || list_all (λ place. is_given change.deltas b place) (range_with_len 0 (metadata_length g s b))

abbrev pub fresh_ok : Geometry → (ℕ → Bool) → Reading → Reading → ℕ → Bool
fresh_ok g taken r s b = not (eqb (metadata_length g r b) 0) || (eqb (metadata_length g s b) 0 || taken b)

abbrev pub stays_ok : Geometry → Change → Reading → Reading → ℕ → Bool
stays_ok g change r s b =
    not (is_claimed r b)
    || (frees change b
    || (is_claimed s b && (list_all (λ kind. agree (suits_block g s kind b) (suits_block g r kind b)) kinds && (suits_block g r Chunk b || eqb (metadata_length g s b) (metadata_length g r b)))))

abbrev pub comes_ok : Geometry → Change → (ℕ → Bool) → Reading → Reading → ℕ → Bool
comes_ok g change taken r s b =
    is_claimed r b
    || (not (is_claimed s b)
    || (is_body g b && (taken b && (block_bit g s b && (not (suits_block g s Chunk b) || list_all (λ place. is_given change.deltas b place) (range_with_len 0 4096))))))

abbrev pub bits_ok : Geometry → Change → Reading → Reading → ℕ → Bool
bits_ok g change r s b = agree (not (block_bit g r b) && block_bit g s b) (is_among b change.taken) && agree (block_bit g r b && not (block_bit g s b)) (frees change b)

abbrev pub freed_ok : Geometry → Change → Reading → Reading → ℕ → Bool
freed_ok g change r s b = is_claimed r b && (not (is_claimed s b) && agree (frees_metadata change b) (nat_lt 0 (metadata_length g r b)))

-- the tests on all blocks, each on one line
pub record ArePassed (g : Geometry) (change : Change) (taken : ℕ → Bool) (r s : Reading) : Type 0 where
  pub unwritten : change.raw ≡ []
  pub metadata : list_all (λ d. is_cancel d.kind || ltb 0 (metadata_length g s (d.home / 4096))) change.deltas ≡ true
  pub suited : list_all (suits g s) change.deltas ≡ true
  pub grows : list_all (grows_ok g change r s) (range_with_len 0 (blocks_of g)) ≡ true
  pub given : list_all (given_ok g change r s) (range_with_len 0 (blocks_of g)) ≡ true
  pub fresh : list_all (fresh_ok g taken r s) (range_with_len 0 (blocks_of g)) ≡ true
  pub stays : list_all (stays_ok g change r s) (range_with_len 0 (blocks_of g)) ≡ true
  pub comes : list_all (comes_ok g change taken r s) (range_with_len 0 (blocks_of g)) ≡ true
  pub bits : list_all (bits_ok g change r s) (range_with_len 0 (blocks_of g)) ≡ true
  pub freed : list_all (λ f. freed_ok g change r s f.block.0) change.freed ≡ true

pub on_each : (p : ℕ → Bool) (n b : ℕ) → list_all p (range_with_len 0 n) ≡ true → b < n → p b ≡ true
on_each p n b all within = All-contains (λ k. p k ≡ true) (range_with_len 0 n) b (AllPass-from_list_all p (range_with_len 0 n) all) (Contains_range n b within)

module _ (g : Geometry) where
  pub body_within : (b : ℕ) → is_body g b ≡ true → b < blocks_of g
  body_within b body = ltb-true b (blocks_of g) (and_parts (nat_lt b (blocks_of g)) (is_body_region (region_of g b)) body).0

  claimed_within : (t : Reading) → IsLaid g t → (b : ℕ) → is_claimed t b ≡ true → b < blocks_of g
  claimed_within t ok b claimed =
      let found = claim_of t b claimed in
      body_within b (sym (ap (is_body g) found.2) ∙ body_of_claim g t ok found.0 found.1)

  pub none_past : (t : Reading) → IsLaid g t → (b : ℕ) → blocks_of g ≤ b → metadata_length g t b ≡ 0
  unfolding metadata_length
  none_past t ok b past =
      let low : greatest_on (metadata_claim_length t) (claims_of t) b ≤ 0 =
      greatest_below (metadata_claim_length t) (claims_of t) b 0 (λ c here on.
      let within = claimed_within t ok b (ap (is_claimed t) (sym on) ∙ claims_its_block t c here) in
      absurd (omega (arith, within, past))) in
      let records : length_of_records g b ≡ 0 = cond-false (nat_lt b (blocks_of g)) (record_length (region_of g b)) 0 (le-ltb b (blocks_of g) past) in
      omega (arith, low, records)

module _ (g : Geometry) (change : Change) (taken : ℕ → Bool) (r s : Reading) (laid : IsLaid g r) (laid_too : IsLaid g s) (passed : ArePassed g change taken r s) where
  kept_so : (b : ℕ) → frees_metadata change b ≡ false → metadata_length g r b ≤ metadata_length g s b
  kept_so b free = elim (cases_lt b (blocks_of g)) [
    | inr past ↦ omega (arith, none_past g r laid b past)
    | inl within ↦ elim (or_cases (frees_metadata change b) (leb (metadata_length g r b) (metadata_length g s b)) (on_each (grows_ok g change r s) (blocks_of g) b passed.grows within)) [
      | inl freed ↦ absurd (true≢false (sym freed ∙ free))
      | inr low ↦ leb-true (metadata_length g r b) (metadata_length g s b) low
    ]
  ]

  given_so : (b place : ℕ) → metadata_length g r b ≤ place → place < metadata_length g s b → is_given change.deltas b place ≡ true
  given_so b place from below = elim (cases_lt b (blocks_of g)) [
    | inr past ↦ absurd (omega (arith, below, none_past g s laid_too b past))
    | inl within ↦ elim (or_cases (leb (metadata_length g s b) (metadata_length g r b)) (list_all (λ place. is_given change.deltas b place) (range_with_len 0 (metadata_length g s b)))
        (on_each (given_ok g change r s) (blocks_of g) b passed.given within)) [
          | inl low ↦ absurd (omega (arith, from, below, leb-true (metadata_length g s b) (metadata_length g r b) low))
          | inr all ↦ on_each (λ place. is_given change.deltas b place) (metadata_length g s b) place all below
        ]
  ]

  fresh_so : (b : ℕ) → metadata_length g r b ≡ 0 → 0 < metadata_length g s b → taken b ≡ true
  fresh_so b none some = elim (cases_lt b (blocks_of g)) [
    | inr past ↦ absurd (omega (arith, some, none_past g s laid_too b past))
    | inl within ↦
        elim (or_cases (not (eqb (metadata_length g r b) 0)) (eqb (metadata_length g s b) 0 || taken b) (on_each (fresh_ok g taken r s) (blocks_of g) b passed.fresh within)) [
          | inl had ↦ absurd (true≢false (sym (eq-eqb (metadata_length g r b) 0 none) ∙ not-true (eqb (metadata_length g r b) 0) had))
          | inr rest ↦ elim (or_cases (eqb (metadata_length g s b) 0) (taken b) rest) [
            | inl nothing ↦ absurd (omega (arith, some, eqb-true (metadata_length g s b) 0 nothing))
            | inr is ↦ is
          ]
        ]
  ]

  each_kind : (b : ℕ) → list_all (λ kind. agree (suits_block g s kind b) (suits_block g r kind b)) kinds ≡ true → All (λ k. agree (suits_block g s k b) (suits_block g r k b) ≡ true) kinds
  each_kind b all = AllPass-from_list_all (λ k. agree (suits_block g s k b) (suits_block g r k b)) kinds all

  kinds_so : (b : ℕ) → list_all (λ kind. agree (suits_block g s kind b) (suits_block g r kind b)) kinds ≡ true → (kind : DeltaKind) → suits_block g s kind b ≡ suits_block g r kind b
  kinds_so b all Group = refl
  kinds_so b all Inode = refl
  kinds_so b all Chunk = agreed (suits_block g s Chunk b) (suits_block g r Chunk b) (All-contains (λ k. agree (suits_block g s k b) (suits_block g r k b) ≡ true) kinds Chunk (each_kind b all) (Contains_head Chunk (Pointers ∷ (Zero ∷ (LinkText ∷ [])))))
  kinds_so b all Pointers =
      agreed (suits_block g s Pointers b) (suits_block g r Pointers b) (All-contains (λ k. agree (suits_block g s k b) (suits_block g r k b) ≡ true) kinds Pointers (each_kind b all)
      (Contains_behind Chunk (Pointers ∷ (Zero ∷ (LinkText ∷ []))) Pointers (Contains_head Pointers (Zero ∷ (LinkText ∷ [])))))
  kinds_so b all Zero =
      agreed (suits_block g s Zero b) (suits_block g r Zero b) (All-contains (λ k. agree (suits_block g s k b) (suits_block g r k b) ≡ true) kinds Zero (each_kind b all)
      (Contains_behind Chunk (Pointers ∷ (Zero ∷ (LinkText ∷ []))) Zero (Contains_behind Pointers (Zero ∷ (LinkText ∷ [])) Zero (Contains_head Zero (LinkText ∷ [])))))
  kinds_so b all LinkText =
      agreed (suits_block g s LinkText b) (suits_block g r LinkText b) (All-contains (λ k. agree (suits_block g s k b) (suits_block g r k b) ≡ true) kinds LinkText (each_kind b all)
      (Contains_behind Chunk (Pointers ∷ (Zero ∷ (LinkText ∷ []))) LinkText (Contains_behind Pointers (Zero ∷ (LinkText ∷ [])) LinkText (Contains_behind Zero (LinkText ∷ []) LinkText (Contains_head LinkText [])))))
  kinds_so b all Cancel = refl

  stays_so : (b : ℕ) → is_claimed r b ≡ true → frees change b ≡ false → StaysClaimed g r s b
  stays_so b claimed free =
      let within = claimed_within g r laid b claimed in
      let test = on_each (stays_ok g change r s) (blocks_of g) b passed.stays within in
      elim (or_cases (not (is_claimed r b)) _ test) [
        | inl none ↦ absurd (true≢false (sym claimed ∙ not-true (is_claimed r b) none))
        | inr rest ↦ elim (or_cases (frees change b) _ rest) [
          | inl freed ↦ absurd (true≢false (sym freed ∙ free))
          | inr all ↦
              let two = and_parts (is_claimed s b) _ all in
              let three = and_parts (list_all (λ kind. agree (suits_block g s kind b) (suits_block g r kind b)) kinds) _ two.1 in
              record {
                claimed = two.0;
                kinds = kinds_so b three.0;
                length = λ no_chunk. elim (or_cases (suits_block g r Chunk b) (eqb (metadata_length g s b) (metadata_length g r b)) three.1) [
                  | inl chunk ↦ absurd (true≢false (sym chunk ∙ no_chunk))
                  | inr same ↦ eqb-true (metadata_length g s b) (metadata_length g r b) same
                ];
              }
        ]
      ]

  comes_so : (b : ℕ) → is_claimed r b ≡ false → is_claimed s b ≡ true → ComesClaimed g change taken s b
  comes_so b free claimed =
      let within = claimed_within g s laid_too b claimed in
      elim (or_cases (is_claimed r b) _ (on_each (comes_ok g change taken r s) (blocks_of g) b passed.comes within)) [
        | inl was ↦ absurd (true≢false (sym was ∙ free))
        | inr rest ↦ elim (or_cases (not (is_claimed s b)) _ rest) [
          | inl none ↦ absurd (true≢false (sym claimed ∙ not-true (is_claimed s b) none))
          | inr all ↦
              let two = and_parts (is_body g b) _ all in
              let three = and_parts (taken b) _ two.1 in
              let four = and_parts (block_bit g s b) _ three.1 in
              record {
                body = two.0;
                in_transaction = three.0;
                bit = four.0;
                whole = λ chunk place low. elim (or_cases (not (suits_block g s Chunk b)) (list_all (λ place. is_given change.deltas b place) (range_with_len 0 4096)) four.1) [
                  | inl none ↦ absurd (true≢false (sym chunk ∙ not-true (suits_block g s Chunk b) none))
                  | inr given ↦ on_each (λ place. is_given change.deltas b place) 4096 place given low
                ];
              }
        ]
      ]

  marked_so : (b : ℕ) → frees change b ≡ true → IsGivenUp g change r s b
  marked_so b freed =
      let found = some_passes (λ f. eqb f.block.0 b) change.freed freed in
      let test : freed_ok g change r s found.0.block.0 ≡ true =
      All-contains (λ f. freed_ok g change r s f.block.0 ≡ true) change.freed found.0 (AllPass-from_list_all (λ f. freed_ok g change r s f.block.0) change.freed passed.freed) found.1 in
      let here : freed_ok g change r s b ≡ true = subst (λ (c : ℕ). freed_ok g change r s c ≡ true) (eqb-true found.0.block.0 b found.2) test in
      let one = and_parts (is_claimed r b) _ here in
      let two = and_parts (not (is_claimed s b)) _ one.1 in
      record { claimed = one.0; unclaimed = not-true (is_claimed s b) two.0; metadata = agreed (frees_metadata change b) (nat_lt 0 (metadata_length g r b)) two.1 }

  deltas_so : All (λ d. is_cancel d.kind ≡ false → 0 < metadata_length g s (d.home / 4096)) change.deltas
  deltas_so =
      All-weaker (λ d. (is_cancel d.kind || ltb 0 (metadata_length g s (d.home / 4096))) ≡ true) (λ d. is_cancel d.kind ≡ false → 0 < metadata_length g s (d.home / 4096)) (λ d either lays.
      elim (or_cases (is_cancel d.kind) (ltb 0 (metadata_length g s (d.home / 4096))) either) [
        | inl cancel ↦ absurd (true≢false (sym cancel ∙ lays))
        | inr some ↦ ltb-true 0 (metadata_length g s (d.home / 4096)) some
      ]) change.deltas (AllPass-from_list_all (λ d. is_cancel d.kind || ltb 0 (metadata_length g s (d.home / 4096))) change.deltas passed.metadata)

  bits_so : HasBitsOf g (λ b. is_among b change.taken) (frees change) r s
  bits_so =
      let both = λ (b : ℕ) (body : is_body g b ≡ true).
      and_parts (agree (not (block_bit g r b) && block_bit g s b) (is_among b change.taken)) (agree (block_bit g r b && not (block_bit g s b)) (frees change b))
      (on_each (bits_ok g change r s) (blocks_of g) b passed.bits (body_within g b body)) in
      record {
        set = λ b body. agreed (not (block_bit g r b) && block_bit g s b) (is_among b change.taken) (both b body).0;
        cleared = λ b body. agreed (block_bit g r b && not (block_bit g s b)) (frees change b) (both b body).1;
      }

  pub follows_by_tests : MayFollow g change taken r s
  follows_by_tests = record {
    raw_before = subst (λ (l : List RawWrite). All (λ w. metadata_length g r (w.first / 8) ≡ 0) l) (sym passed.unwritten) (All-nil (λ w. metadata_length g r (w.first / 8) ≡ 0));
    raw_after = subst (λ (l : List RawWrite). All (λ w. metadata_length g s (w.first / 8) ≡ 0) l) (sym passed.unwritten) (All-nil (λ w. metadata_length g s (w.first / 8) ≡ 0));
    deltas = deltas_so;
    suited = AllPass-from_list_all (suits g s) change.deltas passed.suited;
    kept = kept_so;
    given = given_so;
    fresh = fresh_so;
    stays = stays_so;
    claimed = comes_so;
    marked = marked_so;
    bits = bits_so;
  }
