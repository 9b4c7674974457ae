-- What agrees but in some bytes agrees so in fewer bytes too.
use Rattle.std.proofs.Common.{◌≡◌, ◌≤◌, inl, inr, ℕ, ◌+◌, ◌-◌, List, [], length, take, drop, sym, ap, ◌∙◌, arith}
use Rattle.std.proofs.lemmas.Bool.{cases_lt}
use Rattle.std.proofs.lemmas.List.{take-take, drop-take, drop_all, take_all, length-take-le}
use Rattle.lufs_base.specs.declared.geometry.Geometry.{Geometry}
use Rattle.volume_model.specs.Format.{Blocks}
use Rattle.volume_model.specs.Sound.{reading_of, read_length, metadata_length}
use Rattle.volume_laws.specs.Changes.{AgreeBut, AgreeWhereReadBut, AgreeInMetadataBut}
use Rattle.volume_laws.proofs.ReadLengths.{same_front, metadata_is_read}

short : (m : ℕ) (l : List ℕ) → length (take m l) ≤ m
short m l = elim (cases_lt (length l) m) [
  | inl less ↦ omega (arith, ap length (take_all m l (omega (arith, less))), less)
  | inr long ↦ omega (arith, length-take-le m l (omega (arith, long)))
]

-- both parts of fewer bytes
pub front_of_part : (at m : ℕ) (x y : List ℕ) → take at y ≡ take at x → take at (take m y) ≡ take at (take m x)
front_of_part at m x y same = elim (cases_lt at m) [
  | inl before ↦
      let cut : (l : List ℕ) → take at (take m l) ≡ take at l = λ l. take-take at m l (omega (arith, before)) in
      cut y ∙ same ∙ sym (cut x)
  | inr past ↦
      let cut : (l : List ℕ) → take at (take m l) ≡ take m (take at l) = λ l.
      take_all at (take m l) (omega (arith, short m l, past)) ∙ sym (take-take m at l past) in
      cut y ∙ ap (take m) same ∙ sym (cut x)
]

pub rest_of_part : (at m : ℕ) (x y : List ℕ) → drop at y ≡ drop at x → drop at (take m y) ≡ drop at (take m x)
rest_of_part at m x y same = elim (cases_lt at m) [
  | inl before ↦
      let k = m - at in
      let whole : at + k ≡ m = omega (arith, before) in
      let cut : (l : List ℕ) → drop at (take m l) ≡ take k (drop at l) = λ l. ap (λ (j : ℕ). drop at (take j l)) (sym whole) ∙ drop-take at k l in
      cut y ∙ ap (take k) same ∙ sym (cut x)
  | inr past ↦
      let none : (l : List ℕ) → drop at (take m l) ≡ [] = λ l. drop_all at (take m l) (omega (arith, short m l, past)) in
      none y ∙ sym (none x)
]

less_agreement : (lengths more : ℕ → ℕ) (blocks others : Blocks) (b at n : ℕ) → ((c : ℕ) → lengths c ≤ more c)
    → AgreeBut more blocks others b at n → AgreeBut lengths blocks others b at n
less_agreement lengths more blocks others b at n less agree =
    let m = lengths b in
    let x : List ℕ = take (more b) (blocks b) in
    let y : List ℕ = take (more b) (others b) in
    let cut : (l : List ℕ) → take m l ≡ take m (take (more b) l) = λ l. sym (take-take m (more b) l (less b)) in
    record {
      elsewhere = λ c away. same_front (lengths c) (more c) (others c) (blocks c) (agree.elsewhere c away) (less c);
      before = ap (take at) (cut (others b)) ∙ front_of_part at m x y agree.before ∙ sym (ap (take at) (cut (blocks b)));
      after = ap (drop (at + n)) (cut (others b)) ∙ rest_of_part (at + n) m x y agree.after ∙ sym (ap (drop (at + n)) (cut (blocks b)));
    }

pub agree_in_metadata_but : (g : Geometry) (blocks others : Blocks) (b at n : ℕ) → AgreeWhereReadBut g blocks others b at n → AgreeInMetadataBut g blocks others b at n
agree_in_metadata_but g blocks others b at n =
    less_agreement (metadata_length g (reading_of g blocks)) (read_length g (reading_of g blocks)) blocks others b at n (metadata_is_read g (reading_of g blocks))
