-- What stands at the front of bytes stays where more bytes come after them, unless they end too early or there is
-- a commit record.
use Rattle.std.proofs.Common.{◌≡◌, ℕ, ◌+◌, ◌≤◌, Bool, true, false, ltb, eqb, cond, ◌&&◌, List, ◌++◌, length, take, drop, Option, Some, None, inl, inr, refl, sym, ap, ◌∙◌, arith, length-append, length-drop}
use Rattle.std.specs.List.{list_all}
use Rattle.std.proofs.lemmas.Bool.{cases_Bool, lt-ltb, le-ltb, ltb-true, ltb-false, cond-true, cond-false, false≢true}
use Rattle.std.proofs.lemmas.List.{drop-append-le, take-append-le}
use Rattle.std.proofs.lemmas.List.Folds.{list_all-append}
use Rattle.lufs_base.specs.Fields.{number_in, u32_at, u64_at, are_zeros}
use Rattle.lufs_base.specs.declared.geometry.Geometry.{Geometry}
use Rattle.lufs_base.specs.declared.delta.Delta.{Delta}
use Rattle.lufs_base.specs.declared.delta.DeltaKind.{DeltaKind}
use Rattle.lufs_base.proofs.Spelling.{number_in_same}
use Rattle.volume_model.specs.Log.{kind_of, logged_len, may_be_logged, may_precede, Front, Logged, Commit, Cut, Wrong, front_delta, is_commit, is_delta, front_of_kind, front_of}

-- a number that lies within the bytes
number_more : (n at : ℕ) (bytes more : List ℕ) → at + n ≤ length bytes → number_in n (drop at (bytes ++ more)) ≡ number_in n (drop at bytes)
number_more n at bytes more inside =
    number_in_same n (drop at (bytes ++ more)) (drop at bytes)
    (ap (λ (l : List ℕ). take n l) (drop-append-le at bytes more (omega arith)) ∙ take-append-le n (drop at bytes) more (omega (arith, length-drop at bytes)))

-- a delta or a wrong record stands there
abbrev pub IsSettled : Front → Type 0
IsSettled (Logged d) = Unit {0}
IsSettled Commit = ⊥
IsSettled Cut = ⊥
IsSettled Wrong = Unit {0}

-- what is no commit record is none with more bytes after it
no_commit_more : (a l m y z : Bool) → (m ≡ true → l ≡ true) → (a && l && y) ≡ false → (a && m && (y && z)) ≡ false
no_commit_more false l m y z less none = refl
no_commit_more true l false y z less none = refl
no_commit_more true false true y z less none = absurd (false≢true (less refl))
no_commit_more true true true false z less none = refl
no_commit_more true true true true z less none = absurd (false≢true (sym none))

commit_more : (tid : ℕ) (before : List Delta) (bytes more : List ℕ) → 16 ≤ length bytes → is_commit tid before bytes ≡ false → is_commit tid before (bytes ++ more) ≡ false
commit_more tid before bytes more room none =
    let home : u64_at (bytes ++ more) 0 ≡ u64_at bytes 0 = number_more 8 0 bytes more (omega arith) in
    let len : u32_at (bytes ++ more) 8 ≡ u32_at bytes 8 = number_more 4 8 bytes more (omega arith) in
    let rest : drop 16 (bytes ++ more) ≡ drop 16 bytes ++ more = drop-append-le 16 bytes more room in
    let same : Bool = eqb (u64_at bytes 0) tid && eqb (u32_at bytes 8) (length before) in
    ap (λ (n : ℕ). eqb n tid && eqb (u32_at (bytes ++ more) 8) (length before) && ltb (length (drop 16 (bytes ++ more))) 504 && are_zeros (drop 16 (bytes ++ more))) home
    ∙ ap (λ (n : ℕ). eqb (u64_at bytes 0) tid && eqb n (length before) && ltb (length (drop 16 (bytes ++ more))) 504 && are_zeros (drop 16 (bytes ++ more))) len
    ∙ ap (λ (l : List ℕ). same && ltb (length l) 504 && are_zeros l) rest
    ∙ ap (λ (b : Bool). same && ltb (length (drop 16 bytes ++ more)) 504 && b) (list_all-append (λ b. eqb b 0) (drop 16 bytes) more)
    ∙ no_commit_more same (ltb (length (drop 16 bytes)) 504) (ltb (length (drop 16 bytes ++ more)) 504) (are_zeros (drop 16 bytes)) (are_zeros more)
    (λ test. lt-ltb _ _ (omega (arith, ltb-true (length (drop 16 bytes ++ more)) 504 test, length-append (drop 16 bytes) more))) none

-- the front of bytes that begin with such a head, by their kind
kind_more : (g : Geometry) (before : List Delta) (bytes more : List ℕ) (kind : Option DeltaKind) → 16 ≤ length bytes
    → IsSettled (front_of_kind g before bytes kind) → front_of_kind g before (bytes ++ more) kind ≡ front_of_kind g before bytes kind
kind_more g before bytes more None room settled = refl
kind_more g before bytes more (Some kind) room settled =
    let home : u64_at (bytes ++ more) 0 ≡ u64_at bytes 0 = number_more 8 0 bytes more (omega arith) in
    let len : u32_at (bytes ++ more) 8 ≡ u32_at bytes 8 = number_more 4 8 bytes more (omega arith) in
    let size : ℕ = logged_len kind (u32_at bytes 8) in
    let long : List ℕ = bytes ++ more in
    let at : ℕ → ℕ → List ℕ → Front = λ h l all.
    cond (may_be_logged g kind h l && list_all (λ d. may_precede d kind h) before)
    (cond (ltb (length all) (16 + logged_len kind l)) Cut (Logged (record { kind = kind; home = h; len = l; bytes = take (logged_len kind l) (drop 16 all) }))) Wrong in
    let fields : front_of_kind g before long (Some kind) ≡ at (u64_at bytes 0) (u32_at bytes 8) long =
    ap (λ (n : ℕ). at n (u32_at long 8) long) home ∙ ap (λ (n : ℕ). at (u64_at bytes 0) n long) len in
    let right : Bool = is_delta g kind before bytes in
    let read : List ℕ → Front = λ all.
    cond (ltb (length all) (16 + size)) Cut (Logged (record { kind = kind; home = u64_at bytes 0; len = u32_at bytes 8; bytes = take size (drop 16 all) })) in
    elim (cases_Bool right) [
      | inr other ↦ fields ∙ cond-false right (read long) Wrong other ∙ sym (cond-false right (read bytes) Wrong other)
      | inl may ↦
          let there : front_of_kind g before bytes (Some kind) ≡ read bytes = cond-true right (read bytes) Wrong may in
          elim (cases_Bool (ltb (length bytes) (16 + size))) [
            | inl cut ↦
                let short : front_of_kind g before bytes (Some kind) ≡ Cut = there ∙ cond-true (ltb (length bytes) (16 + size)) Cut _ cut in
                absurd (rw short at settled)
            | inr whole ↦
                let fits : 16 + size ≤ length bytes = ltb-false (length bytes) (16 + size) whole in
                let more_whole : ltb (length long) (16 + size) ≡ false = le-ltb (length long) (16 + size) (omega (arith, fits, length-append bytes more)) in
                let content : take size (drop 16 long) ≡ take size (drop 16 bytes) =
                ap (λ (l : List ℕ). take size l) (drop-append-le 16 bytes more room) ∙ take-append-le size (drop 16 bytes) more (omega (arith, fits, length-drop 16 bytes)) in
                fields ∙ cond-true right (read long) Wrong may ∙ cond-false (ltb (length long) (16 + size)) Cut _ more_whole
                ∙ ap (λ (l : List ℕ). Logged (record { kind = kind; home = u64_at bytes 0; len = u32_at bytes 8; bytes = l })) content
                ∙ sym (there ∙ cond-false (ltb (length bytes) (16 + size)) Cut _ whole)
          ]
    ]

pub front_more : (g : Geometry) (tid : ℕ) (before : List Delta) (bytes more : List ℕ) → IsSettled (front_of g tid before bytes)
    → front_of g tid before (bytes ++ more) ≡ front_of g tid before bytes
unfolding front_of
front_more g tid before bytes more settled =
    let long : List ℕ = bytes ++ more in
    let ends : List ℕ → Front = λ all. cond (is_commit tid before all) Commit Wrong in
    let by_type : ℕ → List ℕ → Front = λ n all. cond (eqb n 8) (ends all) (front_of_kind g before all (kind_of n)) in
    elim (cases_Bool (ltb (length bytes) 16)) [
      | inl cut ↦
          let short : front_of g tid before bytes ≡ Cut = cond-true (ltb (length bytes) 16) Cut (by_type (u32_at bytes 12) bytes) cut in
          absurd (rw short at settled)
      | inr room ↦
          let fits : 16 ≤ length bytes = ltb-false (length bytes) 16 room in
          let type : u32_at long 12 ≡ u32_at bytes 12 = number_more 4 12 bytes more (omega arith) in
          let here : front_of g tid before bytes ≡ by_type (u32_at bytes 12) bytes = cond-false (ltb (length bytes) 16) Cut (by_type (u32_at bytes 12) bytes) room in
          let there : front_of g tid before long ≡ by_type (u32_at bytes 12) long =
          cond-false (ltb (length long) 16) Cut (by_type (u32_at long 12) long) (le-ltb (length long) 16 (omega (arith, fits, length-append bytes more)))
          ∙ ap (λ (n : ℕ). by_type n long) type in
          elim (cases_Bool (eqb (u32_at bytes 12) 8)) [
            | inl last ↦
                let commit : by_type (u32_at bytes 12) bytes ≡ ends bytes = cond-true (eqb (u32_at bytes 12) 8) (ends bytes) _ last in
                elim (cases_Bool (is_commit tid before bytes)) [
                  | inl is ↦
                      let ended : front_of g tid before bytes ≡ Commit = here ∙ commit ∙ cond-true (is_commit tid before bytes) Commit Wrong is in
                      absurd (rw ended at settled)
                  | inr none ↦
                      there ∙ cond-true (eqb (u32_at bytes 12) 8) (ends long) _ last
                      ∙ cond-false (is_commit tid before long) Commit Wrong (commit_more tid before bytes more fits none)
                      ∙ sym (here ∙ commit ∙ cond-false (is_commit tid before bytes) Commit Wrong none)
                ]
            | inr other ↦
                let kind : by_type (u32_at bytes 12) bytes ≡ front_of_kind g before bytes (kind_of (u32_at bytes 12)) = cond-false (eqb (u32_at bytes 12) 8) (ends bytes) _ other in
                there ∙ cond-false (eqb (u32_at bytes 12) 8) (ends long) _ other
                ∙ kind_more g before bytes more (kind_of (u32_at bytes 12)) fits (rw (here ∙ kind) at settled)
                ∙ sym (here ∙ kind)
          ]
    ]

-- a delta at the front lies within the bytes
kind_fits : (g : Geometry) (before : List Delta) (bytes : List ℕ) (kind : Option DeltaKind) (d : Delta) → front_of_kind g before bytes kind ≡ Logged d → 16 + logged_len d.kind d.len ≤ length bytes
kind_fits g before bytes None d is = absurd (cc)
kind_fits g before bytes (Some kind) d is =
    let size : ℕ = logged_len kind (u32_at bytes 8) in
    let found : Delta = front_delta kind bytes in
    let read : Front = cond (ltb (length bytes) (16 + size)) Cut (Logged found) in
    elim (cases_Bool (is_delta g kind before bytes)) [
      | inr other ↦ let none : front_of_kind g before bytes (Some kind) ≡ Wrong = cond-false (is_delta g kind before bytes) read Wrong other in absurd (cc)
      | inl right ↦
          let there : front_of_kind g before bytes (Some kind) ≡ read = cond-true (is_delta g kind before bytes) read Wrong right in
          elim (cases_Bool (ltb (length bytes) (16 + size))) [
            | inl cut ↦ let short : read ≡ Cut = cond-true (ltb (length bytes) (16 + size)) Cut (Logged found) cut in absurd (cc)
            | inr room ↦
                let whole : read ≡ Logged found = cond-false (ltb (length bytes) (16 + size)) Cut (Logged found) room in
                let same : found ≡ d = cc in
                let count : size ≡ logged_len d.kind d.len = ap (λ (e : Delta). logged_len e.kind e.len) same in
                omega (arith, count, ltb-false (length bytes) (16 + size) room)
          ]
    ]

pub logged_fits : (g : Geometry) (tid : ℕ) (before : List Delta) (bytes : List ℕ) (d : Delta) → front_of g tid before bytes ≡ Logged d → 16 + logged_len d.kind d.len ≤ length bytes
unfolding front_of
logged_fits g tid before bytes d is =
    let commit : Front = cond (is_commit tid before bytes) Commit Wrong in
    let logged : Front = front_of_kind g before bytes (kind_of (u32_at bytes 12)) in
    let there : Front = cond (eqb (u32_at bytes 12) 8) commit logged in
    elim (cases_Bool (ltb (length bytes) 16)) [
      | inl cut ↦ let short : front_of g tid before bytes ≡ Cut = cond-true (ltb (length bytes) 16) Cut there cut in absurd (cc)
      | inr room ↦
          let found : front_of g tid before bytes ≡ there = cond-false (ltb (length bytes) 16) Cut there room in
          elim (cases_Bool (eqb (u32_at bytes 12) 8)) [
            | inl last ↦
                let ends : there ≡ commit = cond-true (eqb (u32_at bytes 12) 8) commit logged last in
                elim (cases_Bool (is_commit tid before bytes)) [
                  | inl it ↦ let yes : commit ≡ Commit = cond-true (is_commit tid before bytes) Commit Wrong it in absurd (cc)
                  | inr none ↦ let no : commit ≡ Wrong = cond-false (is_commit tid before bytes) Commit Wrong none in absurd (cc)
                ]
            | inr other ↦
                let next : there ≡ logged = cond-false (eqb (u32_at bytes 12) 8) commit logged other in
                kind_fits g before bytes (kind_of (u32_at bytes 12)) d (sym next ∙ sym found ∙ is)
          ]
    ]
