-- The bits of a hand put in the record of a group, one after the other.
use Rattle.std.proofs.Common.{◌≡◌, ◌≢◌, ◌<◌, ◌≤◌, inl, inr, ℕ, ◌+◌, ◌-◌, ◌*◌, ◌/◌, ◌%◌, Bool, true, false, ◌||◌, List, [], ◌∷◌, ◌++◌, length, take, get_or, Option, Some, None, refl, sym, ap, ◌∙◌, subst, arith}
use Rattle.std.specs.Prelude.{All, ◌==◌, if◌then◌else◌}
use Rattle.std.specs.List.{cons_option}
use Rattle.std.proofs.Math.Nat.{div-add-mod'}
use Rattle.std.proofs.lemmas.Nat.{div-mul-add}
use Rattle.std.proofs.lemmas.Bool.{cases_eq, cases_lt, eq-eqb, ne_eqb, both_ways}
use Rattle.std.proofs.lemmas.List.{take_more}
use Rattle.std.proofs.lemmas.List.Elements.{All-head}
use Rattle.std.proofs.lemmas.List.Folds.{list_any-append}
use Rattle.lufs_base.specs.Layout.{IsGeometry, group_start}
use Rattle.lufs_base.specs.declared.geometry.Geometry.{Geometry}
use Rattle.volume_model.specs.declared.hand.Hand.{Hand}
use Rattle.volume_model.specs.Format.{GroupRecord, bit_at, is_body, HasBit}
use Rattle.volume_model.specs.Sound.{held_inodes, is_among}
use Rattle.volume_laws.proofs.BodyBlocks.{none_before}
use Rattle.change_laws.specs.Hands.{one_block, one_inode}
use Rattle.change_laws.specs.Marks.{group_of_inode, group_of_block, place_of_block, HasHandPut, HasBlockPut, HasInodePut}

-- a bit of one member, at its place
bit_of_one : (start place other n : ℕ) (value : Bool) (old new : List ℕ) → n ≡ start + place → HasBit place value old new
    → bit_at new other ≡ (if is_among (start + other) (n ∷ []) then value else bit_at old other)
bit_of_one start place other n value old new at put = elim (cases_eq other place) [
  | inl same ↦
      let is : (n == start + other) ≡ true = eq-eqb n (start + other) (omega (arith, same, at)) in
      ap (bit_at new) same ∙ put.bit ∙ sym (ap (λ (t : Bool). if (t || false) then value else bit_at old other) is)
  | inr away ↦
      let is : (n == start + other) ≡ false = ne_eqb n (start + other) (λ same. away (omega (arith, same, at))) in
      put.others other away ∙ sym (ap (λ (t : Bool). if (t || false) then value else bit_at old other) is)
]

-- the bits of one block or one inode
pub block_put : (g : Geometry) (n b place : ℕ) (value : Bool) (old new : GroupRecord) → b ≡ group_start g n + place → HasBlockPut place value old new
    → HasHandPut g n value (one_block b) old new
block_put g n b place value old new at put = record {
  inode_bits = λ other below. ap (λ (bits : List ℕ). bit_at bits other) put.inode_bits;
  block_bits = λ other below. bit_of_one (group_start g n) place other b value old.block_bits new.block_bits at put.bits;
}

pub inode_put : (g : Geometry) (n i place : ℕ) (value : Bool) (old new : GroupRecord) → i ≡ n * g.ipg + place → HasInodePut place value old new
    → HasHandPut g n value (one_inode i) old new
inode_put g n i place value old new at put = record {
  inode_bits = λ other below. bit_of_one (n * g.ipg) place other i value old.inode_bits new.inode_bits at put.bits;
  block_bits = λ other below. ap (λ (bits : List ℕ). bit_at bits other) put.block_bits;
}

-- the group of a place in group n
pub group_of_place : (g : Geometry) (n place : ℕ) → place < g.bpg → group_of_block g (group_start g n + place) ≡ n
group_of_place g n place below =
    let away : group_start g n + place - group_start g 0 ≡ n * g.bpg + place = omega arith in
    ap (λ (k : ℕ). k / g.bpg) away ∙ div-mul-add n g.bpg place below

pub group_of_inode_place : (g : Geometry) (n place : ℕ) → place < g.ipg → group_of_inode g (n * g.ipg + place) ≡ n
group_of_inode_place g n place below = div-mul-add n g.ipg place below

-- what is of another group has no bit here
pub no_block_put : (g : Geometry) (n b : ℕ) (old : GroupRecord) → group_of_block g b ≢ n → HasHandPut g n true (one_block b) old old
no_block_put g n b old away = record {
  inode_bits = λ other below. refl;
  block_bits = λ other below.
      let is : (b == group_start g n + other) ≡ false = ne_eqb b (group_start g n + other) (λ same. away (ap (group_of_block g) same ∙ group_of_place g n other below)) in
      sym (ap (λ (t : Bool). if (t || false) then true else bit_at old.block_bits other) is);
}

pub no_inode_put : (g : Geometry) (n i : ℕ) (old : GroupRecord) → group_of_inode g i ≢ n → HasHandPut g n true (one_inode i) old old
no_inode_put g n i old away = record {
  inode_bits = λ other below.
      let is : (i == n * g.ipg + other) ≡ false = ne_eqb i (n * g.ipg + other) (λ same. away (ap (group_of_inode g) same ∙ group_of_inode_place g n other below)) in
      sym (ap (λ (t : Bool). if (t || false) then true else bit_at old.inode_bits other) is);
  block_bits = λ other below. refl;
}

pub nothing_put : (g : Geometry) (n : ℕ) (old : GroupRecord) → HasHandPut g n true (record { inode = None; blocks = [] }) old old
nothing_put g n old = record { inode_bits = λ other below. refl; block_bits = λ other below. refl }

both_set : (first last bit : Bool) → (if last then true else (if first then true else bit)) ≡ (if (first || last) then true else bit)
both_set true true bit = refl
both_set true false bit = refl
both_set false true bit = refl
both_set false false bit = refl

-- one block more
pub block_more : (g : Geometry) (n : ℕ) (inode : Option ℕ) (blocks : List ℕ) (b : ℕ) (old mid new : GroupRecord)
    → HasHandPut g n true (record { inode = inode; blocks = blocks }) old mid → HasHandPut g n true (one_block b) mid new
    → HasHandPut g n true (record { inode = inode; blocks = blocks ++ b ∷ [] }) old new
block_more g n inode blocks b old mid new first last = record {
  inode_bits = λ place below. last.inode_bits place below ∙ first.inode_bits place below;
  block_bits = λ place below.
      let at = group_start g n + place in
      let is = bit_at old.block_bits place in
      last.block_bits place below
      ∙ ap (λ (t : Bool). if is_among at (b ∷ []) then true else t) (first.block_bits place below)
      ∙ both_set (is_among at blocks) (is_among at (b ∷ [])) is
      ∙ ap (λ (t : Bool). if t then true else is) (sym (list_any-append (λ m. m == at) blocks (b ∷ [])));
}

-- a hand that has nothing of the group leaves its record
pub has_none : (g : Geometry) (n : ℕ) (hand : Hand) (old : GroupRecord) → ((i : ℕ) → group_of_inode g i ≡ n → is_among i (held_inodes (hand ∷ [])) ≡ false)
    → ((b : ℕ) → group_of_block g b ≡ n → is_among b hand.blocks ≡ false) → HasHandPut g n true hand old old
has_none g n hand old no_inode no_block = record {
  inode_bits = λ place below.
      sym (ap (λ (t : Bool). if t then true else bit_at old.inode_bits place) (no_inode (n * g.ipg + place) (group_of_inode_place g n place below)));
  block_bits = λ place below.
      sym (ap (λ (t : Bool). if t then true else bit_at old.block_bits place) (no_block (group_start g n + place) (group_of_place g n place below)));
}

-- what holds of the inode of a hand
pub of_inode : (P : ℕ → Type 0) (hand : Hand) (i : ℕ) → hand.inode ≡ Some i → All P (held_inodes (hand ∷ [])) → P i
of_inode P hand i is each = All-head P i [] (subst (λ (o : Option ℕ). All P (cons_option o [])) is each)

-- an inode of group n, and a body block of it, by its place there
pub inode_at_place : (g : Geometry) (i n : ℕ) → group_of_inode g i ≡ n → n * g.ipg + i % g.ipg ≡ i
inode_at_place g i n group = ap (λ (k : ℕ). k * g.ipg + i % g.ipg) (sym group) ∙ div-add-mod' i g.ipg

pub block_at_place : (g : Geometry) (b n : ℕ) → IsGeometry g → is_body g b ≡ true → group_of_block g b ≡ n → group_start g n + place_of_block g b ≡ b
block_at_place g b n ok body group =
    let away = b - group_start g 0 in
    let parts : away / g.bpg * g.bpg + away % g.bpg ≡ away = div-add-mod' away g.bpg in
    let mine : n * g.bpg + away % g.bpg ≡ away = ap (λ (k : ℕ). k * g.bpg + away % g.bpg) (sym group) ∙ parts in
    let low : group_start g 0 ≤ b = elim (cases_lt b (group_start g 0)) [
      | inl before ↦ absurd (both_ways (is_body g b) (none_before g ok b before) body)
      | inr after ↦ after
    ] in
    omega (arith, mine, low)

-- the block at a place that the code computed
pub marked_block : (g : Geometry) (b n first : ℕ) (old new : GroupRecord) → IsGeometry g → is_body g b ≡ true → first ≡ group_start g 0 → (b - first) / g.bpg ≡ n
    → HasBlockPut ((b - first) % g.bpg) true old new → HasHandPut g n true (one_block b) old new
marked_block g b n first old new ok body start group put =
    let its_group : group_of_block g b ≡ n = ap (λ (k : ℕ). (b - k) / g.bpg) (sym start) ∙ group in
    block_put g n b (place_of_block g b) true old new (sym (block_at_place g b n ok body its_group)) (subst (λ (k : ℕ). HasBlockPut ((b - k) % g.bpg) true old new) start put)

pub other_block : (g : Geometry) (b n first : ℕ) (old : GroupRecord) → first ≡ group_start g 0 → (b - first) / g.bpg ≢ n → HasHandPut g n true (one_block b) old old
other_block g b n first old start away = no_block_put g n b old (λ same. away (ap (λ (k : ℕ). (b - k) / g.bpg) start ∙ same))

pub marked_inode : (g : Geometry) (i n : ℕ) (o : Option ℕ) (old new : GroupRecord) → o ≡ Some i → i / g.ipg ≡ n → HasInodePut (i % g.ipg) true old new
    → HasHandPut g n true (record { inode = o; blocks = [] }) old new
marked_inode g i n o old new is group put =
    subst (λ (p : Option ℕ). HasHandPut g n true (record { inode = p; blocks = [] }) old new) (sym is)
    (inode_put g n i (i % g.ipg) true old new (sym (inode_at_place g i n group)) put)

-- the next block of a list
pub next_block : (g : Geometry) (n m : ℕ) (inode : Option ℕ) (blocks : List ℕ) (k b : ℕ) (old mid new : GroupRecord) → k < length blocks → get_or blocks k 0 ≡ b → m ≡ n
    → HasHandPut g n true (record { inode = inode; blocks = take k blocks }) old mid → HasHandPut g m true (one_block b) mid new
    → HasHandPut g n true (record { inode = inode; blocks = take (k + 1) blocks }) old new
next_block g n m inode blocks k b old mid new inside is number first last =
    let next : take (k + 1) blocks ≡ take k blocks ++ b ∷ [] = take_more blocks k 0 inside ∙ ap (λ (x : ℕ). take k blocks ++ x ∷ []) is in
    subst (λ (l : List ℕ). HasHandPut g n true (record { inode = inode; blocks = l }) old new) (sym next)
    (block_more g n inode (take k blocks) b old mid new first (subst (λ (j : ℕ). HasHandPut g j true (one_block b) mid new) number last))
