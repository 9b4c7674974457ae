-- Bytes laid over a part of one block of a whole content.
use Rattle.std.proofs.Common.{◌≡◌, ◌≢◌, ◌<◌, ◌≤◌, inl, inr, ℕ, ◌+◌, ◌-◌, Bool, true, false, List, ◌++◌, length, take, drop, refl, sym, ap, ◌∙◌, subst, arith}
use Rattle.std.proofs.lemmas.Bool.{cases_eq, cases_lt, eq-eqb, ne_eqb}
use Rattle.std.proofs.lemmas.List.{length-take-le, drop-drop, get_or_append_left}
use Rattle.std.proofs.Math.Seq.{take-append_seam, drop-append_seam, get_or-append_right}
use Rattle.lufs_base.specs.Fields.{AreBytes, put_at}
use Rattle.lufs_base.specs.Layout.{blocks_of}
use Rattle.lufs_base.specs.declared.geometry.Geometry.{Geometry}
use Rattle.volume_model.specs.Format.{Blocks, IsWhole}
use Rattle.volume_model.proofs.Pieces.{length-put_at, rest_is_bytes}
use Rattle.volume_laws.specs.Changes.{with_bytes, AgreeBut}
use Rattle.volume_laws.proofs.WholeBlocks.{part_is_bytes}
use Rattle.volume_laws.proofs.LessAgreement.{front_of_part, rest_of_part}

-- the block that the bytes are laid over, and another one
laid_there : (blocks : Blocks) (b at : ℕ) (bytes : List ℕ) (c : ℕ) → c ≡ b → with_bytes blocks b at bytes c ≡ put_at (blocks c) at bytes
laid_there blocks b at bytes c same = ap (λ (t : Bool). elim t [ true ↦ put_at (blocks c) at bytes | false ↦ blocks c ]) (eq-eqb c b same)

laid_beside : (blocks : Blocks) (b at : ℕ) (bytes : List ℕ) (c : ℕ) → c ≢ b → with_bytes blocks b at bytes c ≡ blocks c
laid_beside blocks b at bytes c away = ap (λ (t : Bool). elim t [ true ↦ put_at (blocks c) at bytes | false ↦ blocks c ]) (ne_eqb c b away)

-- the parts of a list that bytes were put into
module _ (old bytes : List ℕ) (at : ℕ) (fits : at + length bytes ≤ length old) where
  abbrev rest : List ℕ
  rest = drop (at + length bytes) old

  front_size : length (take at old) ≡ at
  front_size = length-take-le at old (omega (arith, fits))

  front_stays : take at (put_at old at bytes) ≡ take at old
  front_stays = ap (λ (k : ℕ). take k (take at old ++ (bytes ++ rest))) (sym front_size) ∙ take-append_seam (take at old) (bytes ++ rest)

  from_there : drop at (put_at old at bytes) ≡ bytes ++ rest
  from_there = ap (λ (k : ℕ). drop k (take at old ++ (bytes ++ rest))) (sym front_size) ∙ drop-append_seam (take at old) (bytes ++ rest)

  pub bytes_there : take (length bytes) (drop at (put_at old at bytes)) ≡ bytes
  bytes_there = ap (take (length bytes)) from_there ∙ take-append_seam bytes rest

  rest_stays : drop (at + length bytes) (put_at old at bytes) ≡ rest
  rest_stays = sym (drop-drop (length bytes) at (put_at old at bytes)) ∙ ap (drop (length bytes)) from_there ∙ drop-append_seam bytes rest

-- two lists of bytes, one after the other
both_are_bytes : (xs ys : List ℕ) → AreBytes xs → AreBytes ys → AreBytes (xs ++ ys)
both_are_bytes xs ys first second i = elim (cases_lt i (length xs)) [
  | inl inside ↦ subst (λ (b : ℕ). b < 256) (sym (get_or_append_left xs ys 0 i inside)) (first i)
  | inr past ↦ subst (λ (b : ℕ). b < 256) (sym (get_or-append_right xs ys i 0 past)) (second (i - length xs))
]

module _ (g : Geometry) (blocks : Blocks) (b at : ℕ) (bytes : List ℕ) (whole : IsWhole g blocks) (within : b < blocks_of g) (fits : at + length bytes ≤ 4096) where
  in_block : at + length bytes ≤ length (blocks b)
  in_block = omega (arith, fits, whole.size b within)

  pub laid_agree : (lengths : ℕ → ℕ) → AgreeBut lengths blocks (with_bytes blocks b at bytes) b at (length bytes)
  laid_agree lengths =
      let new = with_bytes blocks b at bytes in
      let here : new b ≡ put_at (blocks b) at bytes = laid_there blocks b at bytes b refl in
      let end = at + length bytes in
      record {
        elsewhere = λ c away. ap (take (lengths c)) (laid_beside blocks b at bytes c away);
        before = front_of_part at (lengths b) (blocks b) (new b) (ap (take at) here ∙ front_stays (blocks b) bytes at in_block);
        after = rest_of_part end (lengths b) (blocks b) (new b) (ap (drop end) here ∙ rest_stays (blocks b) bytes at in_block);
      }

  pub laid_bytes : take (length bytes) (drop at (with_bytes blocks b at bytes b)) ≡ bytes
  laid_bytes = ap (λ (l : List ℕ). take (length bytes) (drop at l)) (laid_there blocks b at bytes b refl) ∙ bytes_there (blocks b) bytes at in_block

  pub laid_whole : AreBytes bytes → IsWhole g (with_bytes blocks b at bytes)
  laid_whole are =
      let new = with_bytes blocks b at bytes in
      let here : new b ≡ put_at (blocks b) at bytes = laid_there blocks b at bytes b refl in
      let old = blocks b in
      let old_are = whole.bytes b within in
      let new_are : AreBytes (put_at old at bytes) =
      both_are_bytes (take at old) (bytes ++ drop (at + length bytes) old) (part_is_bytes at 0 old old_are)
      (both_are_bytes bytes (drop (at + length bytes) old) are (rest_is_bytes (at + length bytes) old old_are)) in
      record {
        size = λ c below. elim (cases_eq c b) [
          | inl same ↦ ap (λ (k : ℕ). length (new k)) same ∙ ap length here ∙ length-put_at old bytes at in_block ∙ whole.size b within
          | inr away ↦ ap length (laid_beside blocks b at bytes c away) ∙ whole.size c below
        ];
        bytes = λ c below. elim (cases_eq c b) [
          | inl same ↦ subst AreBytes (sym (ap new same ∙ here)) new_are
          | inr away ↦ subst AreBytes (sym (laid_beside blocks b at bytes c away)) (whole.bytes c below)
        ];
      }
