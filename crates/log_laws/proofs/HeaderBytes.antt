-- A log header and its sector determine each other.
use Rattle.std.proofs.Common.{◌≡◌, ℕ, List, ◌++◌, length, drop, replicate, Some, refl, sym, ap, ◌∙◌, arith, length-drop}
use Rattle.lufs_base.specs.Fields.{AreBytes, u32_at, field_bytes, put_at}
use Rattle.lufs_base.specs.declared.geometry.Geometry.{Geometry}
use Rattle.lufs_base.proofs.Spelling.{read_back_of}
use Rattle.volume_model.proofs.Pieces.{field_again, zeros_again}
use Rattle.volume_model.specs.declared.log.Header.{Header}
use Rattle.volume_model.specs.Log.{header_of, header_bytes, MayBeHeader}
use Rattle.log_laws.proofs.HeaderTests.{a_header, is_header_of}

pub header_reads : (g : Geometry) (h : Header) → MayBeHeader g h → header_of g (header_bytes h) ≡ Some h
unfolding header_bytes
header_reads g h may =
    let tid_on : List ℕ = field_bytes 4 h.tid ++ replicate 496 0 in
    let head_on : List ℕ = field_bytes 4 h.head ++ tid_on in
    let epoch_on : List ℕ = field_bytes 4 h.epoch ++ head_on in
    let magic : u32_at (header_bytes h) 0 ≡ 0x4C554653 = read_back_of 4 0x4C554653 epoch_on (omega arith) in
    let epoch : u32_at (header_bytes h) 4 ≡ h.epoch = read_back_of 4 h.epoch head_on (omega (arith, may.epoch_high)) in
    let head : u32_at (header_bytes h) 8 ≡ h.head = read_back_of 4 h.head tid_on (omega (arith, may.head_high)) in
    let tid : u32_at (header_bytes h) 12 ≡ h.tid = read_back_of 4 h.tid (replicate 496 0) (omega (arith, may.tid_high)) in
    sym (a_header g (header_bytes h) h record {
      magic = magic;
      zeros = refl;
      epoch = omega (arith, may.epoch_low);
      head = omega (arith, may.head_low);
      tid = omega (arith, may.tid_low);
    } (
    ap (λ (n : ℕ). record { epoch = n; head = h.head; tid = h.tid }) (sym epoch)
    ∙ ap (λ (n : ℕ). record { epoch = u32_at (header_bytes h) 4; head = n; tid = h.tid }) (sym head)
    ∙ ap (λ (n : ℕ). record { epoch = u32_at (header_bytes h) 4; head = u32_at (header_bytes h) 8; tid = n }) (sym tid)
    ))

-- the four fields written over zeros
pub header_written : (h : Header) (size : ℕ) (zeros one two three out : List ℕ) → size ≡ 512 → zeros ≡ replicate size 0
    → one ≡ put_at zeros 0 (field_bytes 4 0x4C554653) → two ≡ put_at one 4 (field_bytes 4 h.epoch)
    → three ≡ put_at two 8 (field_bytes 4 h.head) → out ≡ put_at three 12 (field_bytes 4 h.tid) → out ≡ header_bytes h
unfolding header_bytes
header_written h size zeros one two three out size_is zeros_is one_is two_is three_is is =
    is
    ∙ ap (λ (l : List ℕ). put_at l 12 (field_bytes 4 h.tid)) (three_is
    ∙ ap (λ (l : List ℕ). put_at l 8 (field_bytes 4 h.head)) (two_is
    ∙ ap (λ (l : List ℕ). put_at l 4 (field_bytes 4 h.epoch)) (one_is
    ∙ ap (λ (l : List ℕ). put_at l 0 (field_bytes 4 0x4C554653)) (zeros_is
    ∙ ap (λ (n : ℕ). replicate n 0) size_is))))

pub header_spells : (g : Geometry) (h : Header) (s : List ℕ) → AreBytes s → length s ≡ 512 → header_of g s ≡ Some h → header_bytes h ≡ s
unfolding header_bytes
header_spells g h s are size is =
    let found = is_header_of g s h is in
    let zeros = zeros_again 496 (drop 16 s) (omega (arith, length-drop 16 s, size)) found.0.zeros in
    let tid = field_again 4 12 16 s _ are (omega arith) (omega (arith, size)) zeros in
    let head = field_again 4 8 12 s _ are (omega arith) (omega (arith, size)) tid in
    let epoch = field_again 4 4 8 s _ are (omega arith) (omega (arith, size)) head in
    let magic = field_again 4 0 4 s _ are (omega arith) (omega (arith, size)) epoch in
    ap header_bytes found.1
    ∙ ap (λ (n : ℕ). field_bytes 4 n ++ (field_bytes 4 (u32_at s 4) ++ (field_bytes 4 (u32_at s 8) ++ (field_bytes 4 (u32_at s 12) ++ replicate 496 0)))) (sym found.0.magic)
    ∙ magic
