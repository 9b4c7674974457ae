-- The records of a transaction that are cut before the end of its commit record are a short run.
use Rattle.std.proofs.Common.{◌≡◌, ℕ, zero, suc, ◌+◌, ◌-◌, ◌^◌, ◌<◌, ◌≤◌, inl, inr, true, ltb, eqb, cond, ◌&&◌, List, [], ◌∷◌, ◌++◌, length, take, drop, get_or, refl, sym, ap, subst, ◌∙◌, arith, append_assoc, length-append, length-take}
use Rattle.std.specs.List.{list_all, flat_map}
use Rattle.std.proofs.Math.Seq.{take-append-add}
use Rattle.std.proofs.lemmas.Bool.{and_from, lt-ltb, le-ltb, cond-true, cond-false, cases_lt}
use Rattle.std.proofs.lemmas.List.{drop_at, get_or_at}
use Rattle.lufs_base.specs.Fields.{u32_at, u64_at, field_bytes}
use Rattle.lufs_base.specs.Layout.{IsGeometry}
use Rattle.lufs_base.specs.declared.geometry.Geometry.{Geometry}
use Rattle.lufs_base.specs.declared.delta.Delta.{Delta}
use Rattle.lufs_base.specs.declared.delta.DeltaKind.TheVariants.{Group, Inode, Chunk, Pointers, Zero, LinkText, Cancel}
use Rattle.lufs_base.proofs.Spelling.{read_back_of}
use Rattle.volume_model.specs.Log.{type_of, kind_of, logged_len, may_be_logged, may_precede, Short, Front, Logged, Commit, Cut, Wrong, front_of_kind, is_commit, front_of, run_after, AreLoggable, record_head, delta_record}
use Rattle.log_laws.proofs.RunFront.{run_by_front}
use Rattle.log_laws.proofs.RunRead.{kind_named, follows_all, front_logged}
use Rattle.log_laws.proofs.TxSize.{few_blocks, low_home, low_len}

-- fewer bytes than the head of a record
front_short : (g : Geometry) (tid : ℕ) (before : List Delta) (bytes : List ℕ) → length bytes < 16 → front_of g tid before bytes ≡ Cut
unfolding front_of
front_short g tid before bytes short = cond-true (ltb (length bytes) 16) Cut _ (lt-ltb (length bytes) 16 short)

front_cut_by_fields : (g : Geometry) (tid : ℕ) (before : List Delta) (d : Delta) (bytes : List ℕ) → 16 ≤ length bytes → length bytes < 16 + logged_len d.kind d.len
    → u64_at bytes 0 ≡ d.home → u32_at bytes 8 ≡ d.len → u32_at bytes 12 ≡ type_of d.kind
    → may_be_logged g d.kind d.home d.len ≡ true → list_all (λ e. may_precede e d.kind d.home) before ≡ true → front_of g tid before bytes ≡ Cut
unfolding front_of
front_cut_by_fields g tid before d bytes head short home len type may follows =
    let is_type : ℕ → Front = λ n. cond (eqb n 8) (cond (is_commit tid before bytes) Commit Wrong) (front_of_kind g before bytes (kind_of n)) in
    let at_home : ℕ → ℕ → Front = λ h l.
    cond (may_be_logged g d.kind h l && list_all (λ e. may_precede e d.kind h) before)
    (cond (ltb (length bytes) (16 + logged_len d.kind l)) Cut (Logged (record { kind = d.kind; home = h; len = l; bytes = take (logged_len d.kind l) (drop 16 bytes) })))
    Wrong in
    cond-false (ltb (length bytes) 16) Cut (is_type (u32_at bytes 12)) (le-ltb (length bytes) 16 head)
    ∙ ap is_type type
    ∙ kind_named d.kind (cond (is_commit tid before bytes) Commit Wrong) (front_of_kind g before bytes)
    ∙ ap (λ (h : ℕ). at_home h (u32_at bytes 8)) home
    ∙ ap (λ (l : ℕ). at_home d.home l) len
    ∙ cond-true (may_be_logged g d.kind d.home d.len && list_all (λ e. may_precede e d.kind d.home) before) _ Wrong (and_from _ _ may follows)
    ∙ cond-true (ltb (length bytes) (16 + logged_len d.kind d.len)) Cut _ (lt-ltb (length bytes) (16 + logged_len d.kind d.len) short)

-- the head of a record, and some of its bytes
front_cut : (g : Geometry) (tid : ℕ) (before : List Delta) (d : Delta) (part : List ℕ) → IsGeometry g
    → may_be_logged g d.kind d.home d.len ≡ true → length part < logged_len d.kind d.len → list_all (λ e. may_precede e d.kind d.home) before ≡ true
    → front_of g tid before (record_head d.home d.len (type_of d.kind) ++ part) ≡ Cut
front_cut g tid before d part is may short follows =
    let home_low = low_home g d.kind d.home d.len may in
    let blocks = few_blocks g is in
    let bytes : List ℕ = record_head d.home d.len (type_of d.kind) ++ part in
    let type_low : type_of d.kind < 256 ^ 4 = elim d.kind as (λ k. type_of k < 256 ^ 4) [
      | Group ↦ omega arith
      | Inode ↦ omega arith
      | Chunk ↦ omega arith
      | Pointers ↦ omega arith
      | Zero ↦ omega arith
      | LinkText ↦ omega arith
      | Cancel ↦ omega arith
    ] in
    let home : u64_at bytes 0 ≡ d.home = read_back_of 8 d.home (field_bytes 4 d.len ++ (field_bytes 4 (type_of d.kind) ++ part)) (omega (arith, home_low, blocks)) in
    let len : u32_at bytes 8 ≡ d.len = read_back_of 4 d.len (field_bytes 4 (type_of d.kind) ++ part) (omega (arith, low_len g d.kind d.home d.len may)) in
    let type : u32_at bytes 12 ≡ type_of d.kind = read_back_of 4 (type_of d.kind) part type_low in
    front_cut_by_fields g tid before d bytes (omega arith) (omega (arith, short)) home len type may follows

-- a front of joined lists that takes the first one
pub take_past : (n k : ℕ) (xs ys : List ℕ) → length xs ≡ n → n ≤ k → take k (xs ++ ys) ≡ xs ++ take (k - n) ys
take_past n k xs ys size past =
    let sum : k ≡ length xs + (k - n) = omega arith in
    ap (λ (m : ℕ). take m (xs ++ ys)) sum ∙ take-append-add xs ys (k - n)

-- a front of the records of the rest, whatever 16 bytes end them
pub cut_rest : (g : Geometry) (tid n k : ℕ) (before rest : List Delta) (ending : List ℕ) → IsGeometry g → AreLoggable g (before ++ rest) → k < length (flat_map delta_record rest) + 16
    → run_after g tid n before (take k (flat_map delta_record rest ++ ending)) ≡ Short
unfolding run_after
cut_rest g tid zero k before rest ending is are short = refl
cut_rest g tid (suc n) k before [] ending is are short =
    run_by_front g tid n before (take k ending) Cut (front_short g tid before (take k ending) (omega (arith, length-take k ending)))
cut_rest g tid (suc n) k before (d ∷ rest) ending is are short =
    let tail : List ℕ = flat_map delta_record rest ++ ending in
    let whole : List ℕ = flat_map delta_record (d ∷ rest) ++ ending in
    let split : whole ≡ delta_record d ++ tail = append_assoc (delta_record d) (flat_map delta_record rest) ending in
    let place : get_or (before ++ d ∷ rest) (length before) d ≡ d = get_or_at before d rest d (length before) refl in
    let inside : length before < length (before ++ d ∷ rest) = omega (arith, length-append before (d ∷ rest)) in
    let may : may_be_logged g d.kind d.home d.len ≡ true =
    subst (λ (e : Delta). may_be_logged g e.kind e.home e.len ≡ true) place (are.table (length before) d inside) in
    let size : length d.bytes ≡ logged_len d.kind d.len =
    subst (λ (e : Delta). length e.bytes ≡ logged_len e.kind e.len) place (are.bytes (length before) d inside) in
    let follows = follows_all g before rest d are in
    let long : length (delta_record d) ≡ 16 + logged_len d.kind d.len = omega (arith, size) in
    elim (cases_lt k 16) [
      | inl none ↦ run_by_front g tid n before (take k whole) Cut (front_short g tid before (take k whole) (omega (arith, length-take k whole)))
      | inr head ↦ elim (cases_lt k (16 + logged_len d.kind d.len)) [
        | inl part ↦
            let front : List ℕ = record_head d.home d.len (type_of d.kind) in
            let bytes : take k whole ≡ front ++ take (k - 16) (d.bytes ++ tail) =
            ap (λ (l : List ℕ). take k l) split
            ∙ take_past 16 k front (d.bytes ++ tail) refl head in
            ap (λ (l : List ℕ). run_after g tid (suc n) before l) bytes
            ∙ run_by_front g tid n before (front ++ take (k - 16) (d.bytes ++ tail)) Cut
            (front_cut g tid before d (take (k - 16) (d.bytes ++ tail)) is may (omega (arith, length-take (k - 16) (d.bytes ++ tail))) follows)
        | inr past ↦
            let rest_of : List ℕ = take (k - (16 + logged_len d.kind d.len)) tail in
            let bytes : take k whole ≡ delta_record d ++ rest_of =
            ap (λ (l : List ℕ). take k l) split
            ∙ take_past (16 + logged_len d.kind d.len) k (delta_record d) tail long past in
            let pushed : (before ++ d ∷ []) ++ rest ≡ before ++ d ∷ rest = append_assoc before (d ∷ []) rest in
            let left : k - (16 + logged_len d.kind d.len) < length (flat_map delta_record rest) + 16 =
            omega (arith, short, long, length-append (delta_record d) (flat_map delta_record rest)) in
            ap (λ (l : List ℕ). run_after g tid (suc n) before l) bytes
            ∙ run_by_front g tid n before (delta_record d ++ rest_of) (Logged d) (front_logged g tid before d rest_of is may size follows)
            ∙ ap (λ (l : List ℕ). run_after g tid n (before ++ d ∷ []) l) (drop_at (delta_record d) rest_of (16 + logged_len d.kind d.len) long)
            ∙ cut_rest g tid n (k - (16 + logged_len d.kind d.len)) (before ++ d ∷ []) rest ending is (subst (λ (l : List Delta). AreLoggable g l) (sym pushed) are) left
      ]
    ]
