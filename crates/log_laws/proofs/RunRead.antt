-- The run of a transaction's own records is whole, with its deltas.
use Rattle.std.proofs.Common.{◌≡◌, ℕ, zero, suc, ◌+◌, ◌^◌, ◌<◌, ◌≤◌, true, ltb, eqb, cond, ◌&&◌, Option, Some, List, [], ◌∷◌, ◌++◌, length, take, drop, replicate, get_or, refl, sym, ap, subst, ◌∙◌, arith, append_assoc, length-append}
use Rattle.std.specs.List.{list_all, flat_map}
use Rattle.std.proofs.lemmas.Bool.{and_from, eq-eqb, lt-ltb, le-ltb, cond-true, cond-false}
use Rattle.std.proofs.lemmas.List.{append-nil, drop_at, take_at, get_or_at, get_or_append_left, length-replicate}
use Rattle.std.proofs.lemmas.List.Sums.{list_all-from_AllPass}
use Rattle.lufs_base.specs.Fields.{u32_at, u64_at, field_bytes, are_zeros}
use Rattle.lufs_base.specs.Layout.{IsGeometry}
use Rattle.lufs_base.specs.declared.geometry.Geometry.{Geometry}
use Rattle.lufs_base.specs.declared.delta.Delta.{Delta}
use Rattle.lufs_base.specs.declared.delta.DeltaKind.{DeltaKind}
use Rattle.lufs_base.specs.declared.delta.DeltaKind.TheVariants.{Group, Inode, Chunk, Pointers, Zero, LinkText, Cancel}
use Rattle.lufs_base.proofs.Spelling.{read_back_of}
use Rattle.volume_model.specs.Log.{type_of, kind_of, logged_len, may_be_logged, may_precede, Whole, Front, Logged, Commit, Cut, Wrong, front_of_kind, is_commit, front_of, run_after, AreLoggable, delta_record, commit_record}
use Rattle.log_laws.proofs.RunFront.{run_by_front}
use Rattle.log_laws.proofs.TxSize.{few_blocks, low_home, low_len}

-- a record's type names its kind, and isn't that of a commit record
pub kind_named : (kind : DeltaKind) (ends : Front) (front : Option DeltaKind → Front) → cond (eqb (type_of kind) 8) ends (front (kind_of (type_of kind))) ≡ front (Some kind)
kind_named Group ends front = refl
kind_named Inode ends front = refl
kind_named Chunk ends front = refl
kind_named Pointers ends front = refl
kind_named Zero ends front = refl
kind_named LinkText ends front = refl
kind_named Cancel ends front = refl

-- the front of bytes that begin with a record that may stand there
front_by_fields : (g : Geometry) (tid : ℕ) (before : List Delta) (d : Delta) (bytes : List ℕ) → 16 + logged_len d.kind d.len ≤ length bytes
    → u64_at bytes 0 ≡ d.home → u32_at bytes 8 ≡ d.len → u32_at bytes 12 ≡ type_of d.kind → take (logged_len d.kind d.len) (drop 16 bytes) ≡ d.bytes
    → may_be_logged g d.kind d.home d.len ≡ true → list_all (λ e. may_precede e d.kind d.home) before ≡ true → front_of g tid before bytes ≡ Logged d
unfolding front_of
front_by_fields g tid before d bytes room home len type content may follows =
    let is_type : ℕ → Front = λ n. cond (eqb n 8) (cond (is_commit tid before bytes) Commit Wrong) (front_of_kind g before bytes (kind_of n)) in
    let at_home : ℕ → ℕ → Front = λ h l.
    cond (may_be_logged g d.kind h l && list_all (λ e. may_precede e d.kind h) before)
    (cond (ltb (length bytes) (16 + logged_len d.kind l)) Cut (Logged (record { kind = d.kind; home = h; len = l; bytes = take (logged_len d.kind l) (drop 16 bytes) })))
    Wrong in
    cond-false (ltb (length bytes) 16) Cut (is_type (u32_at bytes 12)) (le-ltb (length bytes) 16 (omega (arith, room)))
    ∙ ap is_type type
    ∙ kind_named d.kind (cond (is_commit tid before bytes) Commit Wrong) (front_of_kind g before bytes)
    ∙ ap (λ (h : ℕ). at_home h (u32_at bytes 8)) home
    ∙ ap (λ (l : ℕ). at_home d.home l) len
    ∙ cond-true (may_be_logged g d.kind d.home d.len && list_all (λ e. may_precede e d.kind d.home) before) _ Wrong (and_from _ _ may follows)
    ∙ cond-false (ltb (length bytes) (16 + logged_len d.kind d.len)) Cut _ (le-ltb (length bytes) (16 + logged_len d.kind d.len) room)
    ∙ ap (λ (l : List ℕ). Logged (record { kind = d.kind; home = d.home; len = d.len; bytes = l })) content

-- one record at the front
pub front_logged : (g : Geometry) (tid : ℕ) (before : List Delta) (d : Delta) (rest : List ℕ) → IsGeometry g
    → may_be_logged g d.kind d.home d.len ≡ true → length d.bytes ≡ logged_len d.kind d.len → list_all (λ e. may_precede e d.kind d.home) before ≡ true
    → front_of g tid before (delta_record d ++ rest) ≡ Logged d
front_logged g tid before d rest is may size follows =
    let home_low = low_home g d.kind d.home d.len may in
    let blocks = few_blocks g is in
    let kind_on : List ℕ = d.bytes ++ rest in
    let type_low : type_of d.kind < 256 ^ 4 = elim d.kind as (λ k. type_of k < 256 ^ 4) [
      | Group ↦ omega arith
      | Inode ↦ omega arith
      | Chunk ↦ omega arith
      | Pointers ↦ omega arith
      | Zero ↦ omega arith
      | LinkText ↦ omega arith
      | Cancel ↦ omega arith
    ] in
    let home : u64_at (delta_record d ++ rest) 0 ≡ d.home =
    read_back_of 8 d.home (field_bytes 4 d.len ++ (field_bytes 4 (type_of d.kind) ++ kind_on)) (omega (arith, home_low, blocks)) in
    let len : u32_at (delta_record d ++ rest) 8 ≡ d.len =
    read_back_of 4 d.len (field_bytes 4 (type_of d.kind) ++ kind_on) (omega (arith, low_len g d.kind d.home d.len may)) in
    let type : u32_at (delta_record d ++ rest) 12 ≡ type_of d.kind = read_back_of 4 (type_of d.kind) kind_on type_low in
    let room : 16 + logged_len d.kind d.len ≤ length (delta_record d ++ rest) = omega (arith, length-append d.bytes rest, size) in
    front_by_fields g tid before d (delta_record d ++ rest) room home len type (take_at d.bytes rest (logged_len d.kind d.len) size) may follows

zeros_pass : (n : ℕ) → are_zeros (replicate n 0) ≡ true
zeros_pass zero = refl
zeros_pass (suc n) = zeros_pass n

-- the commit record at the front
front_commit : (g : Geometry) (tid zeros : ℕ) (before : List Delta) → tid < 2 ^ 32 → length before < 2 ^ 32 → zeros < 504
    → front_of g tid before (commit_record tid (length before) ++ replicate zeros 0) ≡ Commit
unfolding front_of
front_commit g tid zeros before low few short =
    let bytes : List ℕ = commit_record tid (length before) ++ replicate zeros 0 in
    let type_on : List ℕ = field_bytes 4 8 ++ replicate zeros 0 in
    let home : u64_at bytes 0 ≡ tid = read_back_of 8 tid (field_bytes 4 (length before) ++ type_on) (omega (arith, low)) in
    let len : u32_at bytes 8 ≡ length before = read_back_of 4 (length before) type_on (omega (arith, few)) in
    let type : u32_at bytes 12 ≡ 8 = read_back_of 4 8 (replicate zeros 0) (omega arith) in
    let size : length (replicate {A = ℕ} zeros 0) ≡ zeros = length-replicate {A = ℕ} zeros 0 in
    let right : is_commit tid before bytes ≡ true =
    and_from _ _ (and_from _ _ (and_from _ _ (eq-eqb _ _ home) (eq-eqb _ _ len)) (lt-ltb (length (replicate {A = ℕ} zeros 0)) 504 (omega (arith, size, short)))) (zeros_pass zeros) in
    cond-false (ltb (length bytes) 16) Cut _ (le-ltb (length bytes) 16 (omega arith))
    ∙ cond-true (eqb (u32_at bytes 12) 8) (cond (is_commit tid before bytes) Commit Wrong) _ (eq-eqb _ _ type)
    ∙ cond-true (is_commit tid before bytes) Commit Wrong right

-- the next delta may stand after all before it
pub follows_all : (g : Geometry) (before rest : List Delta) (d : Delta) → AreLoggable g (before ++ d ∷ rest) → list_all (λ e. may_precede e d.kind d.home) before ≡ true
follows_all g before rest d are =
    list_all-from_AllPass (λ e. may_precede e d.kind d.home) before (λ k x inside.
    let count : length (before ++ d ∷ rest) ≡ length before + suc (length rest) = length-append before (d ∷ rest) in
    let pair = are.order k (length before) x inside (omega (arith, count)) in
    subst (λ (e : Delta). may_precede e d.kind d.home ≡ true) (get_or_append_left before (d ∷ rest) x k inside)
    (subst (λ (later : Delta). may_precede (get_or (before ++ d ∷ rest) k x) later.kind later.home ≡ true) (get_or_at before d rest x (length before) refl) pair))

-- the run of the records of the rest, after these deltas
pub run_rest : (g : Geometry) (tid n zeros : ℕ) (before rest : List Delta) → IsGeometry g → AreLoggable g (before ++ rest) → length rest < n
    → tid < 2 ^ 32 → length (before ++ rest) < 2 ^ 32 → zeros < 504
    → run_after g tid n before (flat_map delta_record rest ++ (commit_record tid (length (before ++ rest)) ++ replicate zeros 0)) ≡ Whole (before ++ rest)
run_rest g tid zero zeros before rest is are room low few short = absurd (omega (arith, room))
run_rest g tid (suc n) zeros before [] is are room low few short =
    let none : before ++ [] ≡ before = append-nil before in
    let count : length (before ++ []) ≡ length before = ap length none in
    ap (λ (k : ℕ). run_after g tid (suc n) before (commit_record tid k ++ replicate zeros 0)) count
    ∙ run_by_front g tid n before (commit_record tid (length before) ++ replicate zeros 0) Commit (front_commit g tid zeros before low (omega (arith, few, count)) short)
    ∙ ap (λ (l : List Delta). Whole l) (sym none)
run_rest g tid (suc n) zeros before (d ∷ rest) is are room low few short =
    let tail : List ℕ = flat_map delta_record rest ++ (commit_record tid (length (before ++ d ∷ rest)) ++ replicate zeros 0) in
    let place : get_or (before ++ d ∷ rest) (length before) d ≡ d = get_or_at before d rest d (length before) refl in
    let inside : length before < length (before ++ d ∷ rest) = omega (arith, length-append before (d ∷ rest)) in
    let may : may_be_logged g d.kind d.home d.len ≡ true =
    subst (λ (e : Delta). may_be_logged g e.kind e.home e.len ≡ true) place (are.table (length before) d inside) in
    let size : length d.bytes ≡ logged_len d.kind d.len =
    subst (λ (e : Delta). length e.bytes ≡ logged_len e.kind e.len) place (are.bytes (length before) d inside) in
    let front = front_logged g tid before d tail is may size (follows_all g before rest d are) in
    let pushed : (before ++ d ∷ []) ++ rest ≡ before ++ d ∷ rest = append_assoc before (d ∷ []) rest in
    let behind : drop (16 + logged_len d.kind d.len) (delta_record d ++ tail) ≡ tail =
    drop_at (delta_record d) tail (16 + logged_len d.kind d.len) (omega (arith, size)) in
    let more = run_rest g tid n zeros (before ++ d ∷ []) rest is (subst (λ (l : List Delta). AreLoggable g l) (sym pushed) are) (omega (arith, room)) low
    (subst (λ (l : List Delta). length l < 2 ^ 32) (sym pushed) few) short in
    ap (λ (l : List ℕ). run_after g tid (suc n) before l) (append_assoc (delta_record d) (flat_map delta_record rest) (commit_record tid (length (before ++ d ∷ rest)) ++ replicate zeros 0))
    ∙ run_by_front g tid n before (delta_record d ++ tail) (Logged d) front
    ∙ ap (λ (l : List ℕ). run_after g tid n (before ++ d ∷ []) l) behind
    ∙ subst (λ (l : List Delta). run_after g tid n (before ++ d ∷ []) (flat_map delta_record rest ++ (commit_record tid (length l) ++ replicate zeros 0)) ≡ Whole l) pushed more
