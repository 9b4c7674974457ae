-- Where there is room, by whether a chunk has room and how many chunks there are.
use Rattle.std.proofs.Common.{◌≡◌, ◌<◌, ◌≤◌, inl, inr, ℕ, ◌+◌, ◌-◌, ◌/◌, ◌%◌, eqb, Bool, true, false, not, ◌&&◌, if◌then◌else◌, List, length, Option, Some, None, IfSome, is_some, refl, sym, ap, subst, ◌∙◌, arith}
use Rattle.std.specs.Prelude.{nat_le, nat_lt, ◌==◌}
use Rattle.std.specs.List.{list_any}
use Rattle.std.proofs.lemmas.Bool.{cases_eq, ne_eqb, eq-eqb, lt-leb, lt-ltb, ltb-true, false≢true}
use Rattle.std.proofs.lemmas.List.FromFn.{length-map-range_with_len}
use Rattle.lufs_base.specs.declared.geometry.Geometry.{Geometry}
use Rattle.volume_model.specs.declared.directory.Slot.{Slot}
use Rattle.volume_model.specs.Format.{Image, Blocks, block, room_in}
use Rattle.volume_model.specs.Sound.{Tree, directory_blocks, reading_of, has_bad_numbers, tree_of}
use Rattle.history_model.specs.Places.{chunks_in}
use Rattle.dir_reads.specs.Chunks.{chunks_of, slots_of_chunk, IsOpened}
use Rattle.dir_reads.specs.Rooms.{room_for, room_after}
use Rattle.dir_reads.specs.declared.chunk_list.Opened.{Opened}
use Rattle.dir_reads.specs.declared.space.Room.{Room}
use Rattle.dir_reads.specs.declared.space.Room.TheVariants.{Fits, NewChunk, NewBlock, Past}

-- where there is room, by whether one of so many chunks has it
abbrev pub room_by : (some : Bool) → (n : ℕ) → Room
room_by some n =
    if nat_le 2048 n && not some then Past
    else (if not some then (if (if not some then directory_blocks (n + 1) - directory_blocks n else 0) == 0 then NewChunk else NewBlock) else Fits)

fits : (n : ℕ) → room_by true n ≡ Fits
fits n = elim (nat_le 2048 n) as (λ b. (if b && false then Past else Fits) ≡ Fits) [ true ↦ refl | false ↦ refl ]

-- a new block: perhaps a pointer block too
more_blocks : (a : ℕ) (t u : Bool) → (t ≡ true → u ≡ true) → eqb (a + 1 + (if u then 1 else 0) - (a + (if t then 1 else 0))) 0 ≡ false
more_blocks a true true so = ne_eqb _ _ (omega arith)
more_blocks a true false so = absurd (false≢true (so refl))
more_blocks a false true so = ne_eqb _ _ (omega arith)
more_blocks a false false so = ne_eqb _ _ (omega arith)

needs_block : (n : ℕ) → n % 8 ≡ 0 → eqb (directory_blocks (n + 1) - directory_blocks n) 0 ≡ false
needs_block n whole =
    let a = (n + 7) / 8 in
    let next : (n + 1 + 7) / 8 ≡ a + 1 = omega (arith, whole) in
    ap (λ (b : ℕ). eqb (b + (if nat_lt 12 b then 1 else 0) - (a + (if nat_lt 12 a then 1 else 0))) 0) next
    ∙ more_blocks a (nat_lt 12 a) (nat_lt 12 (a + 1)) (λ more. lt-ltb 12 (a + 1) (let above : 12 < a + 1 = omega (arith, ltb-true 12 a more) in above))

needs_none : (n : ℕ) → (n % 8 ≡ 0 → ⊥) → eqb (directory_blocks (n + 1) - directory_blocks n) 0 ≡ true
needs_none n part =
    let a = (n + 7) / 8 in
    let same : (n + 1 + 7) / 8 ≡ a = omega (arith, part) in
    let d = a + (if nat_lt 12 a then 1 else 0) in
    ap (λ (b : ℕ). eqb (b + (if nat_lt 12 b then 1 else 0) - d) 0) same ∙ eq-eqb (d - d) 0 (omega arith)

after_some : (n : ℕ) → n ≤ 2048 → room_by false n ≡ room_after n
after_some n most = elim (cases_eq n 2048) [
  | inl full ↦ ap (λ (m : ℕ). room_by false m) full ∙ sym (ap room_after full)
  | inr less ↦
      let below : nat_le 2048 n ≡ false = lt-leb 2048 n (omega (arith, most, less)) in
      let other : eqb n 2048 ≡ false = ne_eqb n 2048 less in
      let rest = if directory_blocks (n + 1) - directory_blocks n == 0 then NewChunk else NewBlock in
      let next = if n % 8 == 0 then NewBlock else NewChunk in
      ap (λ (b : Bool). if b && true then Past else rest) below
      ∙ elim (cases_eq (n % 8) 0) [
        | inl whole ↦
            ap (λ (b : Bool). if b then NewChunk else NewBlock) (needs_block n whole)
            ∙ sym (ap (λ (b : Bool). if b then NewBlock else NewChunk) (eq-eqb (n % 8) 0 whole))
        | inr part ↦
            ap (λ (b : Bool). if b then NewChunk else NewBlock) (needs_none n part)
            ∙ sym (ap (λ (b : Bool). if b then NewBlock else NewChunk) (ne_eqb (n % 8) 0 part))
      ]
      ∙ sym (ap (λ (b : Bool). if b then Past else next) other)
]

abbrev pub has_room : (name : List ℕ) → List (List Slot) → Bool
has_room name chunks = list_any (λ chunk. is_some (room_in chunk name)) chunks

-- the same of a tree, by the chunks that were read
by_tree : (tree : Tree) (dir : ℕ) (name : List ℕ) → room_for tree dir name ≡ room_by (has_room name (chunks_in tree dir)) (length (chunks_in tree dir))
by_tree tree dir name = refl

of_chunks : (blocks : Blocks) (tree : Tree) (dir : ℕ) (name : List ℕ) (opened : Opened) (some : Bool) → chunks_in tree dir ≡ chunks_of blocks opened
    → some ≡ has_room name (chunks_of blocks opened) → room_for tree dir name ≡ room_by some opened.count
of_chunks blocks tree dir name opened some is test =
    by_tree tree dir name ∙ ap (λ (chunks : List (List Slot)). room_by (has_room name chunks) (length chunks)) is
    ∙ ap (λ (b : Bool). room_by b (length (chunks_of blocks opened))) (sym test)
    ∙ ap (λ (n : ℕ). room_by some n) (length-map-range_with_len (slots_of_chunk blocks opened.numbers.items) 0 opened.count)

-- a chunk has room
pub room_told : (content now : Option Image) (g : Geometry) (dir : ℕ) (name : List ℕ) (opened : Opened) (some : Bool) (room : Room) → now ≡ content → room_by some opened.count ≡ room
    → IfSome content (λ image. IsOpened g (block image) dir opened) → IfSome now (λ image. some ≡ has_room name (chunks_of (block image) opened))
    → IfSome content (λ image. has_bad_numbers g (reading_of g (block image)) dir ≡ false → room ≡ room_for (tree_of g (block image)) dir name)
room_told None now g dir name opened some room same is opens read = tt
room_told (Some image) now g dir name opened some room same is opens read = λ right.
    let here = subst (λ (o : Option Image). IfSome o (λ i. some ≡ has_room name (chunks_of (block i) opened))) same read in
    sym (of_chunks (block image) (tree_of g (block image)) dir name opened some (opens right) here ∙ is)

pub fits_told : (some : Bool) (n : ℕ) → some ≡ true → room_by some n ≡ Fits
fits_told some n so = ap (λ (b : Bool). room_by b n) so ∙ fits n

pub after_told : (some : Bool) (n : ℕ) (room : Room) → some ≡ false → n ≤ 2048 → room ≡ room_after n → room_by some n ≡ room
after_told some n room not_so most is = ap (λ (b : Bool). room_by b n) not_so ∙ after_some n most ∙ sym is
