-- Contents with deltas laid over them: where they agree with what they were, and what stands where a delta was laid.
use Rattle.std.proofs.Common.{◌≡◌, ◌≢◌, ◌<◌, ◌≤◌, inl, inr, ℕ, ◌+◌, ◌*◌, ◌/◌, ◌%◌, false, List, ◌++◌, length, take, drop, refl, sym, ap, ◌∙◌, subst, arith}
use Rattle.std.specs.Prelude.{All, nat_lt}
use Rattle.std.proofs.lemmas.Bool.{cases_eq, and_parts, ltb-true}
use Rattle.std.proofs.lemmas.List.{length-take-le, drop-drop}
use Rattle.std.proofs.Math.Seq.{take-append_seam, drop-append_seam}
use Rattle.lufs_base.specs.Fields.{put_at}
use Rattle.lufs_base.specs.Layout.{blocks_of, region_of}
use Rattle.lufs_base.specs.declared.geometry.Geometry.{Geometry}
use Rattle.lufs_base.specs.declared.delta.Delta.{Delta}
use Rattle.volume_model.specs.Format.{Image, Blocks, sectors_of}
use Rattle.volume_model.specs.Log.{is_cancel, is_home_of}
use Rattle.volume_model.proofs.Pieces.{length-put_at}
use Rattle.volume_laws.specs.Changes.{AgreeBut}
use Rattle.volume_laws.proofs.LaidBytes.{bytes_there}
use Rattle.volume_laws.proofs.LessAgreement.{front_of_part, rest_of_part}
use Rattle.volume_laws.proofs.ReadLengths.{same_front}
use Rattle.meta_store.specs.declared.change.Change.{Change}
use Rattle.meta_store.specs.Conditions.{IsInBlock}
use Rattle.meta_store.specs.Changes.{changed}
use Rattle.meta_store.proofs.LogLaid.{logged_within}
use Rattle.meta_store.proofs.MergedTable.{IsLoggable, table_parts}
use Rattle.meta_draft.specs.Drafted.{drafted_blocks}
use Rattle.draft_laws.specs.Laying.{bytes_laid, with_laid}
use Rattle.draft_laws.proofs.OneLaid.{laid_there, laid_beside, length-bytes_laid, length-changed, whole_block}

-- each block of the volume has its size
abbrev pub AreSized : Geometry → Blocks → Type 0
AreSized g blocks = (b : ℕ) → b < blocks_of g → length (blocks b) ≡ 4096

pub drafted_sized : (g : Geometry) (base : Image) (change : Change) → 8 * blocks_of g ≤ sectors_of base → All (IsInBlock g) change.raw → AreSized g (drafted_blocks change base)
drafted_sized g base change room raw b inside =
    let size = length-changed g base change (let whole : 4096 * blocks_of g ≤ length base = omega (arith, room) in whole) raw in
    whole_block (changed change base) b (omega (arith, room, size, inside))

module _ (old bytes : List ℕ) (at : ℕ) (fits : at + length bytes ≤ length old) where
  abbrev rest : List ℕ
  rest = drop (at + length bytes) old

  front_size : length (take at old) ≡ at
  front_size = length-take-le at old (omega (arith, fits))

  front_stays : take at (put_at old at bytes) ≡ take at old
  front_stays = ap (λ (k : ℕ). take k (take at old ++ (bytes ++ rest))) (sym front_size) ∙ take-append_seam (take at old) (bytes ++ rest)

  from_there : drop at (put_at old at bytes) ≡ bytes ++ rest
  from_there = ap (λ (k : ℕ). drop k (take at old ++ (bytes ++ rest))) (sym front_size) ∙ drop-append_seam (take at old) (bytes ++ rest)

  rest_stays : drop (at + length bytes) (put_at old at bytes) ≡ rest
  rest_stays = sym (drop-drop (length bytes) at (put_at old at bytes)) ∙ ap (drop (length bytes)) from_there ∙ drop-append_seam bytes rest

module _ (g : Geometry) (blocks : Blocks) (d : Delta) (sized : AreSized g blocks) (own : IsLoggable g d) (lays : is_cancel d.kind ≡ false) where
  abbrev b : ℕ
  b = d.home / 4096

  abbrev at : ℕ
  at = d.home % 4096

  pub inside : b < blocks_of g
  inside = ltb-true b (blocks_of g) (and_parts (nat_lt b (blocks_of g)) (is_home_of d.kind (region_of g b)) (table_parts g d.kind d.home d.len own.table).0).0

  count : length (bytes_laid d) ≡ d.len
  count = length-bytes_laid d lays own.bytes

  fits : at + length (bytes_laid d) ≤ length (blocks b)
  fits = omega (arith, logged_within g d.kind d.home d.len own.table, count, sized b inside)

  pub here : with_laid blocks d b ≡ put_at (blocks b) at (bytes_laid d)
  here = laid_there blocks b at (bytes_laid d) b refl

  pub away : (c : ℕ) → c ≢ b → with_laid blocks d c ≡ blocks c
  away c other = laid_beside blocks b at (bytes_laid d) c other

  pub sized_with : AreSized g (with_laid blocks d)
  sized_with c within = elim (cases_eq c b) [
    | inl same ↦ ap (λ (k : ℕ). length (with_laid blocks d k)) same ∙ ap length here ∙ length-put_at (blocks b) (bytes_laid d) at fits ∙ sized b inside
    | inr other ↦ ap length (away c other) ∙ sized c within
  ]

  pub agree_but : (lengths : ℕ → ℕ) → AgreeBut lengths blocks (with_laid blocks d) b at d.len
  agree_but lengths =
      let new = with_laid blocks d in
      let end = at + length (bytes_laid d) in
      let same_end : end ≡ at + d.len = omega (arith, count) in
      record {
        elsewhere = λ c other. ap (take (lengths c)) (away c other);
        before = front_of_part at (lengths b) (blocks b) (new b) (ap (take at) here ∙ front_stays (blocks b) (bytes_laid d) at fits);
        after = subst (λ (e : ℕ). drop e (take (lengths b) (new b)) ≡ drop e (take (lengths b) (blocks b))) same_end
            (rest_of_part end (lengths b) (blocks b) (new b) (ap (drop end) here ∙ rest_stays (blocks b) (bytes_laid d) at fits));
      }

  pub there : take d.len (drop at (with_laid blocks d b)) ≡ bytes_laid d
  there =
      ap (λ (l : List ℕ). take d.len (drop at l)) here ∙ ap (λ (n : ℕ). take n (drop at (put_at (blocks b) at (bytes_laid d)))) (sym count)
      ∙ bytes_there (blocks b) (bytes_laid d) at fits

  -- where nothing of the block counts, nothing changes that does
  pub unread : (lengths : ℕ → ℕ) → lengths b ≡ 0 → (c : ℕ) → take (lengths c) (with_laid blocks d c) ≡ take (lengths c) (blocks c)
  unread lengths none c = elim (cases_eq c b) [
    | inl same ↦
        let zero : lengths c ≡ 0 = ap lengths same ∙ none in
        ap (λ (m : ℕ). take m (with_laid blocks d c)) zero ∙ sym (ap (λ (m : ℕ). take m (blocks c)) zero)
    | inr other ↦ ap (take (lengths c)) (away c other)
  ]

-- agreement after agreement
pub agree_through : (lengths : ℕ → ℕ) (blocks middle others : Blocks) (b at n : ℕ) → ((c : ℕ) → take (lengths c) (middle c) ≡ take (lengths c) (blocks c))
    → AgreeBut lengths middle others b at n → AgreeBut lengths blocks others b at n
agree_through lengths blocks middle others b at n first second = record {
  elsewhere = λ c other. second.elsewhere c other ∙ first c;
  before = second.before ∙ ap (take at) (first b);
  after = second.after ∙ ap (drop (at + n)) (first b);
}

pub agree_after : (lengths : ℕ → ℕ) (blocks middle others : Blocks) (b at n : ℕ) → AgreeBut lengths blocks middle b at n → ((c : ℕ) → take (lengths c) (others c) ≡ take (lengths c) (middle c))
    → AgreeBut lengths blocks others b at n
agree_after lengths blocks middle others b at n first second = record {
  elsewhere = λ c other. second c ∙ first.elsewhere c other;
  before = ap (take at) (second b) ∙ first.before;
  after = ap (drop (at + n)) (second b) ∙ first.after;
}

-- bytes past what counts of a block
pub unread_past : (g : Geometry) (blocks : Blocks) (d : Delta) → AreSized g blocks → IsLoggable g d → is_cancel d.kind ≡ false → (lengths : ℕ → ℕ) → lengths (d.home / 4096) ≤ d.home % 4096
    → (c : ℕ) → take (lengths c) (with_laid blocks d c) ≡ take (lengths c) (blocks c)
unread_past g blocks d sized own lays lengths past c = elim (cases_eq c (d.home / 4096)) [
  | inl same ↦
      let b = d.home / 4096 in
      let fit = fits g blocks d sized own lays in
      let front : take (d.home % 4096) (with_laid blocks d b) ≡ take (d.home % 4096) (blocks b) =
      ap (take (d.home % 4096)) (here g blocks d sized own lays) ∙ front_stays (blocks b) (bytes_laid d) (d.home % 4096) fit in
      subst (λ (k : ℕ). take (lengths k) (with_laid blocks d k) ≡ take (lengths k) (blocks k)) (sym same)
      (same_front (lengths b) (d.home % 4096) (with_laid blocks d b) (blocks b) front past)
  | inr other ↦ ap (take (lengths c)) (away g blocks d sized own lays c other)
]

-- bytes put into one block
pub put_agree : (lengths : ℕ → ℕ) (blocks others : Blocks) (b at : ℕ) (bytes : List ℕ) → at + length bytes ≤ length (blocks b) → ((c : ℕ) → c ≢ b → others c ≡ blocks c) → others b ≡ put_at (blocks b) at bytes
    → AgreeBut lengths blocks others b at (length bytes)
put_agree lengths blocks others b at bytes within elsewhere put = record {
  elsewhere = λ c other. ap (take (lengths c)) (elsewhere c other);
  before = front_of_part at (lengths b) (blocks b) (others b) (ap (take at) put ∙ front_stays (blocks b) bytes at within);
  after = rest_of_part (at + length bytes) (lengths b) (blocks b) (others b) (ap (drop (at + length bytes)) put ∙ rest_stays (blocks b) bytes at within);
}
