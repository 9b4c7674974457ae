-- Sectors of images: an image is what its sectors are, and a write changes those that it names.
use Rattle.std.proofs.Common.{◌≡◌, ◌<◌, ◌≤◌, ℕ, zero, suc, ◌+◌, ◌-◌, ◌*◌, ◌/◌, ◌%◌, List, [], ◌++◌, length, take, drop, slice_index, sym, ap, ◌∙◌, arith}
use Rattle.std.proofs.lemmas.List.{ext_get_or, get_or-take, get_or-drop, length-append, length-drop, length-take-le, take_at, drop-append-le, take-append-le, drop-drop, drop-take, take-take, drop_all}
use Rattle.std.proofs.Math.Seq.{drop-append-add}
use Rattle.std.specs.List.{flat_map, range_with_len}
use Rattle.volume_model.specs.Format.{Image, sector, overwritten}

-- a byte of a sector
pub byte_in_sector : (image : Image) (k j : ℕ) → j < 512 → slice_index (sector image k) j ≡ slice_index image (512 * k + j)
byte_in_sector image k j below =
    get_or-take 512 (drop (512 * k) image) j 0 below ∙ get_or-drop (512 * k) image j 0

-- images of one size with the same sectors are the same
pub same_sectors : (a b : Image) → length a ≡ length b → ((k : ℕ) → sector a k ≡ sector b k) → a ≡ b
same_sectors a b size each =
    ext_get_or 0 a b size (λ i below.
    let at : 512 * (i / 512) + i % 512 ≡ i = omega arith in
    let byte : (c : Image) → slice_index c i ≡ slice_index (sector c (i / 512)) (i % 512) = λ c.
    ap (λ (n : ℕ). slice_index c n) (sym at) ∙ sym (byte_in_sector c (i / 512) (i % 512) (omega arith)) in
    byte a ∙ ap (λ (s : List ℕ). slice_index s (i % 512)) (each (i / 512)) ∙ sym (byte b))

-- no sector stands after the end
pub sector_past : (image : Image) (k : ℕ) → length image ≤ 512 * k → sector image k ≡ []
sector_past image k past = ap (take 512) (drop_all (512 * k) image past)

pub length-sector : (image : Image) (k : ℕ) → 512 * k + 512 ≤ length image → length (sector image k) ≡ 512
length-sector image k fits = length-take-le 512 (drop (512 * k) image) (omega (arith, length-drop (512 * k) image))

-- a write inside an image keeps its size
pub length-overwritten : (image : Image) (first : ℕ) (bytes : List ℕ) → 512 * first + length bytes ≤ length image → length (overwritten image first bytes) ≡ length image
length-overwritten image first bytes fits =
    let front = length-take-le (512 * first) image (omega (arith, fits)) in
    let back = length-drop (512 * first + length bytes) image in
    omega (arith, fits, front, back, length-append (take (512 * first) image) (bytes ++ drop (512 * first + length bytes) image), length-append bytes (drop (512 * first + length bytes) image))

-- it leaves the sectors before it
pub sector_before : (image : Image) (first : ℕ) (bytes : List ℕ) (k : ℕ) → 512 * first + length bytes ≤ length image → k < first
    → sector (overwritten image first bytes) k ≡ sector image k
sector_before image first bytes k fits below =
    let front = length-take-le (512 * first) image (omega (arith, fits)) in
    let rest = bytes ++ drop (512 * first + length bytes) image in
    let skip : drop (512 * k) (take (512 * first) image ++ rest) ≡ drop (512 * k) (take (512 * first) image) ++ rest =
    drop-append-le (512 * k) (take (512 * first) image) rest (omega (arith, front, below)) in
    let left : 512 ≤ length (drop (512 * k) (take (512 * first) image)) = omega (arith, length-drop (512 * k) (take (512 * first) image), front, below) in
    let at : 512 * k + (512 * first - 512 * k) ≡ 512 * first = omega (arith, below) in
    let same : drop (512 * k) (take (512 * first) image) ≡ take (512 * first - 512 * k) (drop (512 * k) image) =
    ap (λ (n : ℕ). drop (512 * k) (take n image)) (sym at) ∙ drop-take (512 * k) (512 * first - 512 * k) image in
    ap (take 512) skip ∙ take-append-le 512 (drop (512 * k) (take (512 * first) image)) rest left
    ∙ ap (take 512) same ∙ take-take 512 (512 * first - 512 * k) (drop (512 * k) image) (omega (arith, below))

-- it puts its own sectors
pub sector_within : (image : Image) (first : ℕ) (bytes : List ℕ) (k i : ℕ) → 512 * first + length bytes ≤ length image → first + i ≡ k → 512 * i + 512 ≤ length bytes
    → sector (overwritten image first bytes) k ≡ sector bytes i
sector_within image first bytes k i fits at inside =
    let front = length-take-le (512 * first) image (omega (arith, fits)) in
    let rest = bytes ++ drop (512 * first + length bytes) image in
    let place : 512 * k ≡ length (take (512 * first) image) + 512 * i = omega (arith, front, at) in
    let skip : drop (512 * k) (take (512 * first) image ++ rest) ≡ drop (512 * i) bytes ++ drop (512 * first + length bytes) image =
    ap (λ (n : ℕ). drop n (take (512 * first) image ++ rest)) place ∙ drop-append-add (take (512 * first) image) rest (512 * i)
    ∙ drop-append-le (512 * i) bytes (drop (512 * first + length bytes) image) (omega (arith, inside)) in
    ap (take 512) skip ∙ take-append-le 512 (drop (512 * i) bytes) (drop (512 * first + length bytes) image) (omega (arith, inside, length-drop (512 * i) bytes))

-- it leaves the sectors after it
pub sector_behind : (image : Image) (first : ℕ) (bytes : List ℕ) (k : ℕ) → 512 * first + length bytes ≤ length image → 512 * first + length bytes ≤ 512 * k
    → sector (overwritten image first bytes) k ≡ sector image k
sector_behind image first bytes k fits past =
    let front = length-take-le (512 * first) image (omega (arith, fits)) in
    let j = 512 * k - (512 * first + length bytes) in
    let place : 512 * k ≡ length (take (512 * first) image) + (length bytes + j) = omega (arith, front, past) in
    let back : (512 * first + length bytes) + j ≡ 512 * k = omega (arith, past) in
    ap (take 512)
    (ap (λ (n : ℕ). drop n (overwritten image first bytes)) place
    ∙ drop-append-add (take (512 * first) image) (bytes ++ drop (512 * first + length bytes) image) (length bytes + j)
    ∙ drop-append-add bytes (drop (512 * first + length bytes) image) j
    ∙ drop-drop j (512 * first + length bytes) image ∙ ap (λ (n : ℕ). drop n image) back)

-- an image that is put together of n sectors
pub length-sectors : (f : ℕ → List ℕ) (a n : ℕ) → ((i : ℕ) → i < n → length (f (a + i)) ≡ 512) → length (flat_map f (range_with_len a n)) ≡ 512 * n
length-sectors f a zero whole = omega arith
length-sectors f a (suc n) whole =
    let here : length (f a) ≡ 512 = ap (λ (i : ℕ). length (f i)) (let at : a ≡ a + 0 = omega arith in at) ∙ whole 0 (omega arith) in
    let rest = length-sectors f (a + 1) n (λ i below. ap (λ (j : ℕ). length (f j)) (let at : (a + 1) + i ≡ a + (i + 1) = omega arith in at) ∙ whole (i + 1) (omega (arith, below))) in
    omega (arith, here, rest, length-append (f a) (flat_map f (range_with_len (a + 1) n)))

pub sector_of_sectors : (f : ℕ → List ℕ) (a n k : ℕ) → ((i : ℕ) → i < n → length (f (a + i)) ≡ 512) → k < n → sector (flat_map f (range_with_len a n)) k ≡ f (a + k)
sector_of_sectors f a zero k whole below = absurd (omega (arith, below))
sector_of_sectors f a (suc n) zero whole below =
    let at : a + 0 ≡ a = omega arith in
    let here : length (f a) ≡ 512 = ap (λ (i : ℕ). length (f i)) (sym at) ∙ whole 0 (omega arith) in
    take_at (f a) (flat_map f (range_with_len (a + 1) n)) 512 here ∙ ap f (sym at)
sector_of_sectors f a (suc n) (suc k) whole below =
    let at : a + 0 ≡ a = omega arith in
    let here : length (f a) ≡ 512 = ap (λ (i : ℕ). length (f i)) (sym at) ∙ whole 0 (omega arith) in
    let place : 512 * suc k ≡ length (f a) + 512 * k = omega (arith, here) in
    let next : (a + 1) + k ≡ a + suc k = omega arith in
    ap (take 512) (ap (λ (m : ℕ). drop m (f a ++ flat_map f (range_with_len (a + 1) n))) place ∙ drop-append-add (f a) (flat_map f (range_with_len (a + 1) n)) (512 * k))
    ∙ sector_of_sectors f (a + 1) n k (λ i less. ap (λ (j : ℕ). length (f j)) (let there : (a + 1) + i ≡ a + (i + 1) = omega arith in there) ∙ whole (i + 1) (omega (arith, less))) (omega (arith, below))
    ∙ ap f next
