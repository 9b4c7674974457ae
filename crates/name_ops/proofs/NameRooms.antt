-- How many blocks a directory wants for a name, by where it has room.
use Rattle.std.proofs.Common.{◌≡◌, ◌≢◌, ◌<◌, ◌≤◌, inl, inr, ℕ, ◌+◌, ◌-◌, ◌*◌, ◌/◌, ◌==◌, Bool, true, false, if◌then◌else◌, List, length, Some, None, refl, sym, ap, ◌∙◌, arith}
use Rattle.std.specs.Prelude.{nat_lt}
use Rattle.std.proofs.lemmas.Bool.{cases_eq, cases_lt, eq-eqb, ne_eqb, lt-ltb, le-ltb}
use Rattle.volume_model.specs.Sound.{Tree, directory_blocks}
use Rattle.history_model.specs.Places.{chunks_in}
use Rattle.history_model.specs.Refusals.{cannot_grow}
use Rattle.history_model.specs.Wants.{has_no_room}
use Rattle.dir_reads.specs.Rooms.{room_for}
use Rattle.dir_reads.specs.declared.space.Room.TheVariants.{Fits, NewChunk, NewBlock, Past}
use Rattle.name_ops.specs.Asked.{name_blocks, blocks_by}

-- the blocks of one chunk more
abbrev more : ℕ → ℕ
more n = directory_blocks (n + 1) - directory_blocks n

-- the pointer blocks of so many blocks
abbrev pointers : ℕ → ℕ
pointers m = if nat_lt 12 m then 1 else 0

pointer_if : (m : ℕ) → 12 < m → pointers m ≡ 1
pointer_if m is = ap (λ (b : Bool). let k : ℕ = if b then 1 else 0 in k) (lt-ltb 12 m is)

no_pointer : (m : ℕ) → m ≤ 12 → pointers m ≡ 0
no_pointer m is = ap (λ (b : Bool). let k : ℕ = if b then 1 else 0 in k) (le-ltb 12 m is)

-- where more than none are wanted, it is one, and two for the first chunk past the direct blocks
two_more : (n : ℕ) → n ≡ 96 → more n ≡ 2
two_more n is = ap more is

one_more : (n : ℕ) → n ≢ 96 → more n ≢ 0 → more n ≡ 1
one_more n other some = elim (cases_lt n 96) [
  | inl low ↦ omega (arith, low, some, no_pointer ((n + 7) / 8) (omega (arith, low)), no_pointer ((n + 1 + 7) / 8) (omega (arith, low)))
  | inr high ↦ omega (arith, high, other, some, pointer_if ((n + 7) / 8) (omega (arith, high, other)), pointer_if ((n + 1 + 7) / 8) (omega (arith, high)))
]

module _ (tree : Tree) (dir : ℕ) (name : List ℕ) (size : ℕ) (is : size ≡ 512 * length (chunks_in tree dir)) where
  abbrev n : ℕ
  n = length (chunks_in tree dir)

  by_size : (m : ℕ) → m ≡ more n → m ≢ 0 → (if size == 49152 then Some 2 else Some 1) ≡ Some m
  by_size m same some = elim (cases_eq size 49152) [
    | inl full ↦ ap (λ (b : Bool). if b then Some 2 else Some 1) (eq-eqb size 49152 full) ∙ ap (λ (k : ℕ). Some k) (sym (same ∙ two_more n (omega (arith, full, is))))
    | inr other ↦
        ap (λ (b : Bool). if b then Some 2 else Some 1) (ne_eqb size 49152 other)
        ∙ ap (λ (k : ℕ). Some k) (sym (same ∙ one_more n (λ e. other (omega (arith, is, e))) (λ none. some (same ∙ none))))
  ]

  by_more : (m : ℕ) → m ≡ more n → blocks_by (if m == 0 then NewChunk else NewBlock) size ≡ Some m
  by_more m same = elim (cases_eq m 0) [
    | inl none ↦ ap (λ (b : Bool). blocks_by (if b then NewChunk else NewBlock) size) (eq-eqb m 0 none) ∙ ap (λ (k : ℕ). Some k) (sym none)
    | inr some ↦ ap (λ (b : Bool). blocks_by (if b then NewChunk else NewBlock) size) (ne_eqb m 0 some) ∙ by_size m same some
  ]

  by_growth : (past lacks : Bool)
      → blocks_by (if past then Past else (if lacks then (if (if lacks then more n else 0) == 0 then NewChunk else NewBlock) else Fits)) size ≡ (if past then None else Some (if lacks then more n else 0))
  by_growth true lacks = refl
  by_growth false false = refl
  by_growth false true = by_more (more n) refl

  pub blocks_by_room : blocks_by (room_for tree dir name) size ≡ name_blocks tree dir name
  blocks_by_room = by_growth (cannot_grow tree dir name) (has_no_room tree dir name)
