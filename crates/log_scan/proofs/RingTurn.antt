-- The ring as two reads give it: from the head on, and then up to it.
use Rattle.std.proofs.Common.{◌≡◌, ℕ, ◌+◌, ◌-◌, ◌*◌, ◌/◌, ◌%◌, ◌<◌, ◌≤◌, List, [], ◌++◌, length, take, drop, Option, Some, None, Result, Ok, Err, IfSome, OnOk, sym, ap, ◌∙◌, inl, inr, arith, length-append, length-drop}
use Rattle.std.proofs.Math.Nat.{mod-eq_of_lt, add-mod_right}
use Rattle.std.proofs.lemmas.Bool.{cases_lt}
use Rattle.std.proofs.lemmas.List.{append-nil, drop-drop, drop-take, drop_all, drop_at, drop-append-le, take-append-le, take-take, take_at}
use Rattle.std.proofs.lemmas.List.FromFn.{fill_by_all}
use borrow.Rule.Slice.PartMut.{put_mid}
use Rattle.lufs_base.specs.Layout.{ring_of, ring_place}
use Rattle.lufs_base.specs.declared.geometry.Geometry.{Geometry}
use Rattle.volume_model.specs.Format.{Image, sector, sectors_from, sectors_of, sectors_in}
use Rattle.volume_model.specs.Log.{ring_from}
use Rattle.log_scan.proofs.RingSteps.{length-sectors_in, get_or-sectors_in}

-- a sector of joined bytes
sector_in_front : (front back : List ℕ) (k : ℕ) → 512 * k + 512 ≤ length front → sector (front ++ back) k ≡ sector front k
sector_in_front front back k inside =
    ap (λ (l : List ℕ). take 512 l) (drop-append-le (512 * k) front back (omega arith))
    ∙ take-append-le 512 (drop (512 * k) front) back (omega (arith, length-drop (512 * k) front))

sector_in_back : (front back : List ℕ) (n k : ℕ) → length front ≡ 512 * n → sector (front ++ back) (n + k) ≡ sector back k
sector_in_back front back n k size =
    let place : 512 * (n + k) ≡ 512 * n + 512 * k = omega arith in
    ap (λ (m : ℕ). take 512 (drop m (front ++ back))) place
    ∙ ap (λ (l : List ℕ). take 512 l) (sym (drop-drop (512 * k) (512 * n) (front ++ back)))
    ∙ ap (λ (l : List ℕ). take 512 (drop (512 * k) l)) (drop_at front back (512 * n) size)

-- a sector of a part of an image
sector_of_part : (image : Image) (first n k : ℕ) → k < n → sector (sectors_from image first n) k ≡ sector image (first + k)
sector_of_part image first n k below =
    let rest : 512 * n ≡ 512 * k + (512 * n - 512 * k) = omega arith in
    let place : 512 * first + 512 * k ≡ 512 * (first + k) = omega arith in
    ap (λ (m : ℕ). take 512 (drop (512 * k) (take m (drop (512 * first) image)))) rest
    ∙ ap (λ (l : List ℕ). take 512 l) (drop-take (512 * k) (512 * n - 512 * k) (drop (512 * first) image))
    ∙ take-take 512 (512 * n - 512 * k) (drop (512 * k) (drop (512 * first) image)) (omega arith)
    ∙ ap (λ (l : List ℕ). take 512 l) (drop-drop (512 * k) (512 * first) image)
    ∙ ap (λ (m : ℕ). take 512 (drop m image)) place

sector_turned : (g : Geometry) (head k : ℕ) (image : Image) (front back : List ℕ) → head < ring_of g → k < ring_of g
    → length front ≡ 512 * (ring_of g - head)
    → front ≡ sectors_from image (ring_place g head) (ring_of g - head) → back ≡ sectors_from image (ring_place g 0) head
    → sector (front ++ back) k ≡ sector image (ring_place g ((head + k) % ring_of g))
sector_turned g head k image front back inside below size front_is back_is =
    elim (cases_lt k (ring_of g - head)) [
      | inl early ↦
          let here : (head + k) % ring_of g ≡ head + k = mod-eq_of_lt (omega arith) in
          let place : 25 + head + k ≡ 25 + (head + k) % ring_of g = omega (arith, here) in
          sector_in_front front back k (omega arith)
          ∙ ap (λ (l : List ℕ). sector l k) front_is
          ∙ sector_of_part image (25 + head) (ring_of g - head) k early
          ∙ ap (λ (m : ℕ). sector image m) place
      | inr late ↦
          let from : k ≡ ring_of g - head + (k - (ring_of g - head)) = omega arith in
          let sum : head + k ≡ k - (ring_of g - head) + ring_of g = omega arith in
          let there : (head + k) % ring_of g ≡ k - (ring_of g - head) =
          ap (λ (n : ℕ). n % ring_of g) sum ∙ add-mod_right (k - (ring_of g - head)) (ring_of g) ∙ mod-eq_of_lt (omega arith) in
          let place : 25 + (k - (ring_of g - head)) ≡ 25 + (head + k) % ring_of g = omega (arith, there) in
          ap (λ (m : ℕ). sector (front ++ back) m) from
          ∙ sector_in_back front back (ring_of g - head) (k - (ring_of g - head)) size
          ∙ ap (λ (l : List ℕ). sector l (k - (ring_of g - head))) back_is
          ∙ sector_of_part image 25 head (k - (ring_of g - head)) (omega arith)
          ∙ ap (λ (m : ℕ). sector image m) place
    ]

ring_turned : (g : Geometry) (head : ℕ) (image : Image) (front back : List ℕ) → head < ring_of g
    → length front ≡ 512 * (ring_of g - head) → length back ≡ 512 * head
    → front ≡ sectors_from image (ring_place g head) (ring_of g - head) → back ≡ sectors_from image (ring_place g 0) head
    → sectors_in (front ++ back) ≡ ring_from (ring_of g) head (λ place. sector image (ring_place g place))
ring_turned g head image front back inside front_size back_size front_is back_is =
    let count : sectors_of (front ++ back) ≡ ring_of g = omega (arith, length-append front back) in
    fill_by_all (λ (k : ℕ). sector image (ring_place g ((head + k) % ring_of g))) (sectors_in (front ++ back)) (ring_of g) [] (length-sectors_in (front ++ back) ∙ count)
    (λ k below.
    get_or-sectors_in (front ++ back) k [] (omega (arith, count))
    ∙ sector_turned g head k image front back inside below front_size front_is back_is)

pub ring_read : {T E : Type 0} (g : Geometry) (head turn k here start : ℕ) (present : Option Image) (front rest back : List ℕ) (result : Result T E) → head < ring_of g
    → turn ≡ 512 * (ring_of g - head) → length front ≡ turn → length back ≡ 512 * head → length (front ++ rest) ≤ turn + k → here ≡ ring_place g head → start ≡ ring_place g 0
    → IfSome present (λ image. front ≡ sectors_from image here (length front / 512))
    → OnOk result (IfSome present (λ image. back ≡ sectors_from image start (length back / 512)))
    → IfSome present (λ image. OnOk result (sectors_in (put_mid turn k (front ++ rest) back) ≡ ring_from (ring_of g) head (λ place. sector image (ring_place g place))))
ring_read g head turn k here start None front rest back result inside turn_is front_size back_size whole here_is start_is front_is back_is = tt
ring_read g head turn k here start (Some image) front rest back (Err e) inside turn_is front_size back_size whole here_is start_is front_is back_is = tt
ring_read g head turn k here start (Some image) front rest back (Ok x) inside turn_is front_size back_size whole here_is start_is front_is back_is =
    let ends : drop k (drop turn (front ++ rest)) ≡ [] = drop_all k (drop turn (front ++ rest)) (omega (arith, length-drop turn (front ++ rest))) in
    let joined : put_mid turn k (front ++ rest) back ≡ front ++ back =
    ap (λ (l : List ℕ). take turn (front ++ rest) ++ (back ++ l)) ends
    ∙ ap (λ (l : List ℕ). take turn (front ++ rest) ++ l) (append-nil back)
    ∙ ap (λ (l : List ℕ). l ++ back) (take_at front rest turn front_size) in
    let front_count : length front / 512 ≡ ring_of g - head = omega arith in
    let back_count : length back / 512 ≡ head = omega arith in
    ap sectors_in joined
    ∙ ring_turned g head image front back inside (front_size ∙ turn_is) back_size
    (front_is ∙ ap (λ (n : ℕ). sectors_from image here n) front_count ∙ ap (λ (k : ℕ). sectors_from image k (ring_of g - head)) here_is)
    (back_is ∙ ap (λ (n : ℕ). sectors_from image start n) back_count ∙ ap (λ (k : ℕ). sectors_from image k head) start_is)
