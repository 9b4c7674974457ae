-- What is read of the blocks that a store tells.
use Rattle.std.proofs.Common.{◌≡◌, ◌<◌, ℕ, zero, suc, ◌+◌, ◌-◌, ◌*◌, ◌≤◌, eqb, Bool, false, if◌then◌else◌, List, ◌∷◌, ◌++◌, map, length, take, drop, replicate, slice_index, Option, Some, None, IfSome, option_map, refl, sym, ap, ◌∙◌, arith}
use Rattle.std.proofs.lemmas.Bool.{ne_eqb}
use Rattle.std.proofs.Math.Seq.{take-append_seam}
use Rattle.std.proofs.lemmas.List.{append-nil, append_assoc, drop-drop, drop-replicate, length-append, length-map}
use Rattle.std.proofs.lemmas.List.FromFn.{length-range_with_len}
use Rattle.std.specs.List.{range_with_len}
use borrow.Rule.Slice.PartMut.{put_mid}
use Rattle.lufs_base.specs.Fields.{number_in, u32_at}
use Rattle.lufs_base.specs.Layout.{group_start}
use Rattle.lufs_base.specs.declared.geometry.Geometry.{Geometry}
use Rattle.volume_model.specs.declared.inode.Dinode.{Dinode}
use Rattle.volume_model.specs.Format.{Image, block, group_of, pointers_of}
use Rattle.volume_model.specs.Sound.{group_at, pointers_at, numbers_of}
use Rattle.cyl_groups.specs.declared.group.Group.{Group}
use Rattle.cyl_groups.specs.Group.{record_of}
use Rattle.fsck_core.specs.Claimed.{with_zeros}
use Rattle.fsck_core.proofs.DirectoryChunks.{range_parts}

-- the record that was read of group n
pub group_told : (g read : Geometry) (content : Option Image) (n b : ℕ) (bytes : List ℕ) (found read_as : Option Group) → read ≡ g → b ≡ group_start read n
    → IfSome content (λ image. bytes ≡ block image b) → found ≡ read_as → option_map record_of read_as ≡ group_of read n (take 416 bytes)
    → IfSome content (λ image. option_map record_of found ≡ group_at g (block image) n)
group_told g read None n b bytes found read_as geometry place told same value = tt
group_told g read (Some image) n b bytes found read_as geometry place told same value =
    ap (option_map record_of) same ∙ value
    ∙ ap (λ (xs : List ℕ). group_of read n (take 416 xs)) (told ∙ ap (block image) place)
    ∙ ap (λ (h : Geometry). group_at h (block image) n) geometry

-- the numbers of an inode, put in two parts
parts_put : (old first rest : List ℕ) (k n : ℕ) → length first ≡ 12 → length old ≡ 1036 → length rest ≡ k → take (12 + k) (put_mid 12 n (put_mid 0 12 old first) rest) ≡ first ++ rest
parts_put old first rest k n front size back =
    let mid = put_mid 0 12 old first in
    let begins : take 12 mid ≡ first = ap (λ (m : ℕ). take m mid) (sym front) ∙ take-append_seam first (drop 12 old) in
    let behind = drop n (drop 12 mid) in
    let long : 12 + k ≡ length (first ++ rest) = omega (arith, front, back, length-append first rest) in
    ap (λ (m : ℕ). take m (take 12 mid ++ (rest ++ behind))) long
    ∙ ap (λ (xs : List ℕ). take (length (first ++ rest)) (xs ++ (rest ++ behind))) begins
    ∙ ap (take (length (first ++ rest))) (sym (append_assoc first rest behind))
    ∙ take-append_seam (first ++ rest) behind

-- a number of zeros
zero_number : (r : ℕ) → number_in 4 (replicate (suc (suc (suc (suc r)))) 0) ≡ 0
unfolding number_in
zero_number r = refl

-- the numbers of a pointer block with zeros after its first k
abbrev number_at : List ℕ → ℕ → ℕ
number_at bytes i = u32_at bytes (4 * i)

number_past : (bytes : List ℕ) (k i : ℕ) → drop (4 * k) bytes ≡ replicate (4096 - 4 * k) 0 → k ≤ i → i < 1024 → number_at bytes i ≡ 0
number_past bytes k i zeros past below =
    let place : 4 * i ≡ 4 * k + (4 * i - 4 * k) = omega (arith, past) in
    let rest : 4096 - 4 * k - (4 * i - 4 * k) ≡ suc (suc (suc (suc (4092 - 4 * i)))) = omega (arith, past, below) in
    ap (λ (p : ℕ). number_in 4 (drop p bytes)) place ∙ ap (number_in 4) (sym (drop-drop (4 * i - 4 * k) (4 * k) bytes))
    ∙ ap (λ (l : List ℕ). number_in 4 (drop (4 * i - 4 * k) l)) zeros ∙ ap (number_in 4) (drop-replicate (4 * i - 4 * k) (4096 - 4 * k) 0)
    ∙ ap (λ (n : ℕ). number_in 4 (replicate n 0)) rest ∙ zero_number (4092 - 4 * i)

numbers_past : (bytes : List ℕ) (k a n : ℕ) → drop (4 * k) bytes ≡ replicate (4096 - 4 * k) 0 → k ≤ a → a + n ≤ 1024 → map (number_at bytes) (range_with_len a n) ≡ replicate n 0
numbers_past bytes k a zero zeros past below = refl
numbers_past bytes k a (suc n) zeros past below =
    ap (λ (x : ℕ). x ∷ map (number_at bytes) (range_with_len (a + 1) n)) (number_past bytes k a zeros past (omega (arith, below)))
    ∙ ap (λ (l : List ℕ). 0 ∷ l) (numbers_past bytes k (a + 1) n zeros (omega (arith, past)) (omega (arith, below)))

held_numbers : (bytes : List ℕ) (k : ℕ) → drop (4 * k) bytes ≡ replicate (4096 - 4 * k) 0 → k ≤ 1024 → pointers_of bytes ≡ map (number_at bytes) (range_with_len 0 k) ++ replicate (1024 - k) 0
held_numbers bytes k zeros most =
    let both : 1024 ≡ k + (1024 - k) = omega (arith, most) in
    ap (λ (n : ℕ). map (number_at bytes) (range_with_len 0 n)) both ∙ range_parts (number_at bytes) 0 k (1024 - k)
    ∙ ap (λ (l : List ℕ). map (number_at bytes) (range_with_len 0 k) ++ l) (numbers_past bytes k (0 + k) (1024 - k) zeros (omega arith) (omega (arith, most)))

-- the numbers of an inode with a pointer block, as far as there are any
pub numbers_told : (content : Option Image) (d : Dinode) (old first rest bytes : List ℕ) (k m n : ℕ) → length d.direct ≡ 12 → first ≡ d.direct → length old ≡ 1036 → k ≤ 1024
    → (slice_index d.indirect 0 ≡ 0 → ⊥) → IfSome content (λ image. bytes ≡ block image (slice_index d.indirect 0)) → drop (4 * k) bytes ≡ replicate (4096 - 4 * k) 0
    → m ≡ k → rest ≡ map (λ i. u32_at bytes (4 * i)) (range_with_len 0 m)
    → IfSome content (λ image. with_zeros (take (12 + k) (put_mid 12 n (put_mid 0 12 old first) rest)) ≡ numbers_of (block image) d)
numbers_told None d old first rest bytes k m n direct copied size most some told zeros count held = tt
numbers_told (Some image) d old first rest bytes k m n direct copied size most some told zeros count held =
    let p = slice_index d.indirect 0 in
    let front : length first ≡ 12 = ap length copied ∙ direct in
    let read : rest ≡ map (number_at bytes) (range_with_len 0 k) = held ∙ ap (λ (j : ℕ). map (number_at bytes) (range_with_len 0 j)) count in
    let long : length rest ≡ k = ap length read ∙ length-map (range_with_len 0 k) (number_at bytes) ∙ length-range_with_len 0 k in
    let is : eqb p 0 ≡ false = ne_eqb p 0 some in
    let pointers : pointers_at (block image) p ≡ rest ++ replicate (1024 - k) 0 =
    ap (λ (b : Bool). if b then replicate 1024 0 else pointers_of (block image p)) is ∙ ap (λ (xs : List ℕ). pointers_of xs) (sym told) ∙ held_numbers bytes k zeros most
    ∙ ap (λ (l : List ℕ). l ++ replicate (1024 - k) 0) (sym read) in
    let left : 1036 - length (first ++ rest) ≡ 1024 - k = omega (arith, front, long, length-append first rest) in
    ap with_zeros (parts_put old first rest k n front size long)
    ∙ ap (λ (j : ℕ). (first ++ rest) ++ replicate j 0) left ∙ append_assoc first rest (replicate (1024 - k) 0)
    ∙ ap (λ (xs : List ℕ). xs ++ (rest ++ replicate (1024 - k) 0)) copied
    ∙ ap (λ (xs : List ℕ). d.direct ++ xs) (sym pointers ∙ sym (append-nil (pointers_at (block image) p)))
