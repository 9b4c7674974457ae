-- The clear bits of a sound volume: its body blocks that are neither claimed nor held.
use Rattle.std.proofs.Common.{◌≡◌, ℕ, zero, suc, ◌+◌, ◌-◌, ◌*◌, ◌/◌, ◌%◌, ◌<◌, ◌≤◌, inl, inr, Bool, true, false, not, ◌&&◌, ◌||◌, List, ◌++◌, length, take, map, Option, Some, None, refl, sym, ap, ◌∙◌, arith}
use Rattle.std.specs.Prelude.{All, ◌==◌, is_some, if◌then◌else◌}
use Rattle.std.specs.List.{list_any}
use Rattle.std.specs.Option.{option_flatten, option_map_or}
use Rattle.std.proofs.lemmas.Nat.{div-mul-add, mod-mul-add}
use Rattle.std.proofs.lemmas.Bool.{cases_Bool, cases_lt, and_parts, ltb-true, lt-ltb, le-ltb, not-false, false≢true}
use Rattle.std.proofs.lemmas.Option.{cond_some}
use Rattle.std.proofs.lemmas.List.{length-append, length-map}
use Rattle.std.proofs.lemmas.List.Elements.{All-append, All-map, All-weaker}
use Rattle.std.proofs.lemmas.List.Folds.{list_any-append}
use Rattle.std.proofs.lemmas.List.Sums.{sum_by-append}
use Rattle.lufs_base.specs.Layout.{IsGeometry, group_start, blocks_of, region_of}
use Rattle.lufs_base.specs.declared.geometry.Geometry.{Geometry}
use Rattle.volume_model.specs.declared.finding.Kind.TheVariants.{Group, BlockBit}
use Rattle.volume_model.specs.declared.hand.Hand.{Hand}
use Rattle.volume_model.specs.Format.{Blocks, body_blocks_of, is_body_region, is_body, GroupRecord, bit_at, clear_bits, named_group, has_reserved, is_group, group_of}
use Rattle.volume_model.specs.Sound.{Reading, reading_of, group_at, record_at, Claim, claims_of, claims_on, is_claimed, held_blocks, is_among, block_bit, differ, clear_in, clear_blocks_of, Sound}
use Rattle.volume_model.proofs.SetBits.{each_set}
use Rattle.volume_laws.proofs.Members.{Contains_range, entry_of_range}
use Rattle.volume_laws.proofs.SoundRules.{rule_kept}
use Rattle.volume_laws.proofs.ClaimFacts.{claims_are_body, claimed_once}
use Rattle.volume_laws.proofs.BodyBlocks.{none_before, body_at, by_groups, bodies_counted}
use Rattle.volume_laws.proofs.Counting.{one_if, total, times, total_same, sum_of_range, sum_of_map, any_of_map, times_none, times_apart, of_one_among, left_over}

clear_one : (bit : Bool) → (if bit then 0 else 1) ≡ one_if (not bit)
clear_one true = refl
clear_one false = refl

pub clear_counted : (bits : List ℕ) (n : ℕ) → clear_bits bits n ≡ total (λ place. one_if (not (bit_at bits place))) n
unfolding clear_bits
clear_counted bits zero = refl
clear_counted bits (suc n) = omega (arith, clear_counted bits n, clear_one (bit_at bits n))

-- the bits of what is never free are set
reserved_set : (g : Geometry) (n : ℕ) (bytes : List ℕ) (group : GroupRecord) → group_of g n bytes ≡ Some group → (place : ℕ) → place ≤ g.ipg / 32 → bit_at group.block_bits place ≡ true
unfolding group_of
reserved_set g n bytes group is place low =
    let below : place < 1 + g.ipg / 32 = omega (arith, low) in
    let found = cond_some (is_group g n bytes) (named_group bytes) group is in
    let reserved : has_reserved g (named_group bytes) ≡ true = (and_parts _ _ found.0).1 in
    ap (λ (r : GroupRecord). bit_at r.block_bits place) (sym found.1)
    ∙ each_set (named_group bytes).block_bits (1 + g.ipg / 32) (and_parts _ _ reserved).0 place below

-- the record of group n
pub record_in_volume : (g : Geometry) (blocks : Blocks) (n : ℕ) → n < g.groups → record_at (reading_of g blocks) n ≡ group_at g blocks n
unfolding reading_of
record_in_volume g blocks n within = ap option_flatten (entry_of_range (group_at g blocks) g.groups n within)

-- the bit of the block at a place of group n
bit_in_group : (g : Geometry) (r : Reading) (n place : ℕ) (group : GroupRecord) → record_at r n ≡ Some group → place < g.bpg
    → block_bit g r (group_start g n + place) ≡ bit_at group.block_bits place
bit_in_group g r n place group here below =
    let away = group_start g n + place - group_start g 0 in
    let from : away ≡ n * g.bpg + place = omega arith in
    let row : away / g.bpg ≡ n = ap (λ (k : ℕ). k / g.bpg) from ∙ div-mul-add n g.bpg place below in
    let column : away % g.bpg ≡ place = ap (λ (k : ℕ). k % g.bpg) from ∙ mod-mul-add n g.bpg place below in
    ap (λ (o : Option GroupRecord). option_map_or (λ group. bit_at group.block_bits (away % g.bpg)) o false) (ap (record_at r) row ∙ here)
    ∙ ap (bit_at group.block_bits) column

pub of_some : {X : Type 0} (f : X → ℕ) (o : Option X) (t : ℕ) → is_some o ≡ true → ((x : X) → o ≡ Some x → f x ≡ t) → option_map_or f o 0 ≡ t
of_some f None t there each = absurd (false≢true there)
of_some f (Some x) t there each = each x refl

pub same_answers : (p q : Bool) → differ p q ≡ false → p ≡ q
same_answers true true agree = refl
same_answers true false agree = agree
same_answers false q agree = sym agree

-- the blocks that inodes claim, and those that are held
abbrev taken : Reading → List Hand → List ℕ
taken r hands = map (λ claim. claim.block) (claims_of r) ++ held_blocks hands

module _ (g : Geometry) (blocks : Blocks) (hands : List Hand) (sound : Sound g blocks hands) where
  -- the bit of a body block says whether it is claimed or held
  pub bit_of_body : (b : ℕ) → is_body g b ≡ true → block_bit g (reading_of g blocks) b ≡ (is_claimed (reading_of g blocks) b || is_among b (held_blocks hands))
  bit_of_body b body =
      let r = reading_of g blocks in
      let below = ltb-true b (blocks_of g) (and_parts _ (is_body_region (region_of g b)) body).0 in
      let bad = differ (block_bit g r b) (is_claimed r b || is_among b (held_blocks hands)) in
      let kept : (is_body g b && bad) ≡ false = rule_kept sound BlockBit b (Contains_range (blocks_of g) b below) in
      same_answers (block_bit g r b) (is_claimed r b || is_among b (held_blocks hands)) (ap (λ (t : Bool). t && bad) (sym body) ∙ kept)

  bit_of_taken : (b : ℕ) → is_body g b ≡ true → block_bit g (reading_of g blocks) b ≡ is_among b (taken (reading_of g blocks) hands)
  bit_of_taken b body =
      let r = reading_of g blocks in
      let claimed : list_any (λ m. m == b) (map (λ claim. claim.block) (claims_of r)) ≡ is_claimed r b =
      any_of_map (λ m. m == b) (λ claim. claim.block) (claims_of r) in
      bit_of_body b body ∙ ap (λ (t : Bool). t || is_among b (held_blocks hands)) (sym claimed)
      ∙ sym (list_any-append (λ m. m == b) (map (λ claim. claim.block) (claims_of r)) (held_blocks hands))

  taken_bodies : All (λ b. is_body g b ≡ true) (taken (reading_of g blocks) hands)
  taken_bodies =
      let claimed = map (λ (claim : Claim). claim.block) (claims_of (reading_of g blocks)) in
      All-append (λ b. is_body g b ≡ true) claimed (held_blocks hands)
      (All-map (λ b. is_body g b ≡ true) (λ claim. claim.block) (claims_of (reading_of g blocks)) (claims_are_body g blocks hands sound))
      sound.apart.blocks_body

  taken_once : (b : ℕ) → is_body g b ≡ true → times b (taken (reading_of g blocks) hands) ≤ 1
  taken_once b body =
      let r = reading_of g blocks in
      let claimed = map (λ (claim : Claim). claim.block) (claims_of r) in
      let both : times b (taken r hands) ≡ times b claimed + times b (held_blocks hands) =
      sum_by-append (λ m. one_if (m == b)) claimed (held_blocks hands) in
      let once : times b claimed ≡ claims_on r b = sum_of_map (λ m. one_if (m == b)) (λ claim. claim.block) (claims_of r) in
      elim (cases_Bool (is_among b (held_blocks hands))) [
        | inl held ↦
            let free : is_among b claimed ≡ false =
            any_of_map (λ m. m == b) (λ claim. claim.block) (claims_of r)
            ∙ of_one_among b (held_blocks hands) (λ c. is_claimed r c ≡ false) sound.apart.blocks_free held in
            omega (arith, both, times_none b claimed free, times_apart b (held_blocks hands) sound.apart.blocks)
        | inr away ↦ omega (arith, both, once, claimed_once g blocks hands sound b body, times_none b (held_blocks hands) away)
      ]

  -- a bit of a group is clear where a body block is left
  clear_place : IsGeometry g → (n place : ℕ) → n < g.groups → place < g.bpg → (group : GroupRecord) → record_at (reading_of g blocks) n ≡ Some group
      → one_if (not (bit_at group.block_bits place))
      ≡ one_if (is_body g (group_start g n + place) && not (is_among (group_start g n + place) (taken (reading_of g blocks) hands)))
  clear_place ok n place within below group here =
      let r = reading_of g blocks in
      let b = group_start g n + place in
      let among = is_among b (taken r hands) in
      elim (cases_lt (g.ipg / 32) place) [
        | inl behind ↦
            let body : is_body g b ≡ true = body_at g ok n place within below ∙ lt-ltb (g.ipg / 32) place behind in
            let bit : bit_at group.block_bits place ≡ among = sym (bit_in_group g r n place group here below) ∙ bit_of_taken b body in
            ap (λ (t : Bool). one_if (not t)) bit ∙ sym (ap (λ (t : Bool). one_if (t && not among)) body)
        | inr low ↦
            let record_block : is_body g b ≡ false = body_at g ok n place within below ∙ le-ltb (g.ipg / 32) place low in
            let set : bit_at group.block_bits place ≡ true =
            reserved_set g n (take 416 (blocks (group_start g n))) group (sym (record_in_volume g blocks n within) ∙ here) place low in
            ap (λ (t : Bool). one_if (not t)) set ∙ sym (ap (λ (t : Bool). one_if (t && not among)) record_block)
      ]

  clear_in_group : IsGeometry g → (n : ℕ) → n < g.groups → clear_in g (reading_of g blocks) n
      ≡ total (λ place. one_if (is_body g (group_start g n + place) && not (is_among (group_start g n + place) (taken (reading_of g blocks) hands)))) g.bpg
  clear_in_group ok n within =
      let r = reading_of g blocks in
      let left : ℕ → ℕ = λ place. one_if (is_body g (group_start g n + place) && not (is_among (group_start g n + place) (taken r hands))) in
      let there : is_some (record_at r n) ≡ true = not-false (is_some (record_at r n)) (rule_kept sound Group n (Contains_range g.groups n within)) in
      of_some (λ (group : GroupRecord). clear_bits group.block_bits g.bpg) (record_at r n) (total left g.bpg) there (λ group here.
      clear_counted group.block_bits g.bpg
      ∙ total_same (λ place. one_if (not (bit_at group.block_bits place))) left g.bpg (λ place below. clear_place ok n place within below group here))

  -- the clear bits, the claims and what is held are all body blocks
  pub clear_and_taken : IsGeometry g → clear_blocks_of g (reading_of g blocks) + (length (claims_of (reading_of g blocks)) + length (held_blocks hands)) ≡ body_blocks_of g
  clear_and_taken ok =
      let r = reading_of g blocks in
      let claimed = map (λ (claim : Claim). claim.block) (claims_of r) in
      let left : ℕ → ℕ = λ b. one_if (is_body g b && not (is_among b (taken r hands))) in
      let clear : clear_blocks_of g r ≡ total left (blocks_of g) =
      sum_of_range (clear_in g r) g.groups
      ∙ total_same (clear_in g r) (λ n. total (λ place. left (group_start g n + place)) g.bpg) g.groups (clear_in_group ok)
      ∙ sym (by_groups g left (λ b before. ap (λ (t : Bool). one_if (t && not (is_among b (taken r hands)))) (none_before g ok b before))) in
      let inside : All (λ b. b < blocks_of g) (taken r hands) =
      All-weaker (λ b. is_body g b ≡ true) (λ b. b < blocks_of g) (λ b body. ltb-true b (blocks_of g) (and_parts _ (is_body_region (region_of g b)) body).0) (taken r hands) taken_bodies in
      let all : total left (blocks_of g) + length (taken r hands) ≡ total (λ b. one_if (is_body g b)) (blocks_of g) =
      left_over (is_body g) (taken r hands) (blocks_of g) inside taken_bodies taken_once in
      omega (arith, clear, all, bodies_counted g ok, length-append claimed (held_blocks hands), length-map (claims_of r) (λ claim. claim.block))
