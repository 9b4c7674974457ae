-- One delta laid over an image is its bytes put into one block.
use Rattle.std.proofs.Common.{◌≡◌, ◌≢◌, ◌<◌, ◌≤◌, inl, inr, ℕ, ◌+◌, ◌-◌, ◌*◌, ◌/◌, ◌%◌, eqb, Bool, true, false, not, ◌&&◌, cond, List, [], ◌∷◌, ◌++◌, length, take, drop, replicate, slice_index, Some, None, refl, sym, ap, ◌∙◌, arith, length-take, length-drop}
use Rattle.std.specs.Prelude.{All, nat_lt}
use Rattle.std.specs.Option.{unwrap_or}
use Rattle.std.proofs.lemmas.Bool.{cases_eq, and_parts, ltb-true, eq-eqb, ne_eqb, true≢false}
use Rattle.std.proofs.lemmas.List.{ext_get_or, length-replicate, get_or-replicate, drop-drop}
use Rattle.std.proofs.lemmas.List.Elements.{All-weaker}
use Rattle.std.proofs.lemmas.List.FromFn.{get_or-map-range_with_len}
use Rattle.lufs_base.specs.Fields.{put_at}
use Rattle.lufs_base.specs.Kinds.{has_bytes}
use Rattle.lufs_base.specs.Layout.{blocks_of, region_of}
use Rattle.lufs_base.specs.declared.geometry.Geometry.{Geometry}
use Rattle.lufs_base.specs.declared.delta.Delta.{Delta}
use Rattle.lufs_base.specs.declared.delta.DeltaKind.{DeltaKind}
use Rattle.lufs_base.specs.declared.delta.DeltaKind.TheVariants.{Group, Inode, Chunk, Pointers, Zero, LinkText, Cancel}
use Rattle.volume_model.specs.Format.{Image, Blocks, block}
use Rattle.volume_model.specs.Crash.{image_after}
use Rattle.volume_model.specs.Log.{logged_len, is_cancel, is_zero_block, is_home_of, byte_of}
use Rattle.volume_laws.specs.Changes.{with_bytes}
use Rattle.meta_store.specs.declared.change.Change.{Change}
use Rattle.meta_store.specs.Conditions.{IsInBlock}
use Rattle.meta_store.specs.Laid.{laid_block, laid_part, laid_over}
use Rattle.meta_store.specs.LaidSize.{length-laid_over}
use Rattle.meta_store.specs.Changes.{writes_of, deltas_on, changed}
use Rattle.meta_store.proofs.LaidBlocks.{block_laid_over, nothing_laid}
use Rattle.meta_store.proofs.LaidParts.{part_laid, length-laid_part}
use Rattle.meta_store.proofs.LogLaid.{logged_within}
use Rattle.meta_store.proofs.MergedTable.{IsLoggable, table_parts}
use Rattle.meta_store.proofs.PlainSteps.{raw_fits, raw_size}
use Rattle.draft_laws.specs.Laying.{bytes_laid, with_laid}

laid_part_at : (d : Delta) (bytes : List ℕ) (i : ℕ) → i < length bytes → slice_index (laid_part d bytes) i ≡ unwrap_or (byte_of d i) (slice_index bytes i)
unfolding laid_part
laid_part_at d bytes i below = get_or-map-range_with_len (λ i. unwrap_or (byte_of d i) (slice_index bytes i)) 0 (length bytes) i i 0 below (omega arith)

-- a byte that a delta lays
byte_laid : (kind : DeltaKind) (len : ℕ) (bytes : List ℕ) (byte i : ℕ) → is_cancel kind ≡ false → i < len
    → unwrap_or (cond (has_bytes kind) (Some (slice_index bytes i)) (cond (is_zero_block kind) (Some 0) None)) byte ≡ slice_index (cond (is_zero_block kind) (replicate len 0) bytes) i
byte_laid Group len bytes byte i lays below = refl
byte_laid Inode len bytes byte i lays below = refl
byte_laid Chunk len bytes byte i lays below = refl
byte_laid Pointers len bytes byte i lays below = refl
byte_laid Zero len bytes byte i lays below = sym (get_or-replicate len i 0 0 below)
byte_laid LinkText len bytes byte i lays below = refl
byte_laid Cancel len bytes byte i lays below = absurd (true≢false lays)

size_laid : (kind : DeltaKind) (len : ℕ) (bytes : List ℕ) → is_cancel kind ≡ false → length bytes ≡ logged_len kind len → length (cond (is_zero_block kind) (replicate len 0) bytes) ≡ len
size_laid Group len bytes lays size = size
size_laid Inode len bytes lays size = size
size_laid Chunk len bytes lays size = size
size_laid Pointers len bytes lays size = size
size_laid Zero len bytes lays size = length-replicate len 0
size_laid LinkText len bytes lays size = size
size_laid Cancel len bytes lays size = absurd (true≢false lays)

module _ (d : Delta) (lays : is_cancel d.kind ≡ false) (size : length d.bytes ≡ logged_len d.kind d.len) where
  pub length-bytes_laid : length (bytes_laid d) ≡ d.len
  length-bytes_laid = size_laid d.kind d.len d.bytes lays size

  -- the part that it covers
  whole_part : (part : List ℕ) → length part ≡ d.len → laid_part d part ≡ bytes_laid d
  whole_part part count =
      let all = length-laid_part d part in
      let its = length-bytes_laid in
      ext_get_or 0 (laid_part d part) (bytes_laid d) (all ∙ count ∙ sym its) (λ i below.
      let inside : i < length part = omega (arith, below, all) in
      laid_part_at d part i inside ∙ byte_laid d.kind d.len d.bytes (slice_index part i) i lays (omega (arith, inside, count)))

  -- its block
  pub block_with : (bytes : List ℕ) → length bytes ≡ 4096 → d.home % 4096 + d.len ≤ 4096 → laid_block (d ∷ []) bytes ≡ put_at bytes (d.home % 4096) (bytes_laid d)
  block_with bytes count within =
      let home = d.home % 4096 in
      let end = home + d.len in
      let span : end - home ≡ d.len = omega arith in
      let part : List ℕ = take (end - home) (drop home bytes) in
      let part_size : length part ≡ d.len = omega (arith, length-take (end - home) (drop home bytes), length-drop home bytes, count, within) in
      let rest : drop (end - home) (drop home bytes) ≡ drop (home + length (bytes_laid d)) bytes =
      ap (λ (k : ℕ). drop k (drop home bytes)) span ∙ drop-drop d.len home bytes ∙ ap (λ (k : ℕ). drop (home + k) bytes) (sym length-bytes_laid) in
      sym (part_laid d bytes home end count refl (omega (arith, within)))
      ∙ (λ t. take home bytes ++ (whole_part part part_size t ++ rest t))

-- any other block
nothing_on : (d : Delta) (b : ℕ) → (d.home / 4096 ≡ b → ⊥) → deltas_on (d ∷ []) b ≡ []
nothing_on d b other = ap (λ (test : Bool). cond (test && not (is_cancel d.kind)) (d ∷ []) []) (ne_eqb (d.home / 4096) b other)

one_on : (d : Delta) (b : ℕ) → is_cancel d.kind ≡ false → d.home / 4096 ≡ b → deltas_on (d ∷ []) b ≡ d ∷ []
one_on d b lays here =
    ap (λ (test : Bool). cond (eqb (d.home / 4096) b && not test) (d ∷ []) []) lays
    ∙ ap (λ (test : Bool). cond (test && true) (d ∷ []) []) (eq-eqb (d.home / 4096) b here)

pub laid_there : (blocks : Blocks) (b at : ℕ) (bytes : List ℕ) (c : ℕ) → c ≡ b → with_bytes blocks b at bytes c ≡ put_at (blocks c) at bytes
laid_there blocks b at bytes c same = ap (λ (t : Bool). elim t [ true ↦ put_at (blocks c) at bytes | false ↦ blocks c ]) (eq-eqb c b same)

pub laid_beside : (blocks : Blocks) (b at : ℕ) (bytes : List ℕ) (c : ℕ) → c ≢ b → with_bytes blocks b at bytes c ≡ blocks c
laid_beside blocks b at bytes c away = ap (λ (t : Bool). elim t [ true ↦ put_at (blocks c) at bytes | false ↦ blocks c ]) (ne_eqb c b away)

pub whole_block : (image : Image) (b : ℕ) → 4096 * b + 4096 ≤ length image → length (block image b) ≡ 4096
whole_block image b inside = omega (arith, inside, length-take 4096 (drop (512 * (8 * b)) image), length-drop (512 * (8 * b)) image)

-- a delta laid over an image
pub blocks_with : (g : Geometry) (image : Image) (d : Delta) → 4096 * blocks_of g ≤ length image → IsLoggable g d → is_cancel d.kind ≡ false
    → block (laid_over (deltas_on (d ∷ [])) image) ≡ with_laid (block image) d
blocks_with g image d room own lays =
    let home = d.home / 4096 in
    let within : d.home % 4096 + d.len ≤ 4096 = logged_within g d.kind d.home d.len own.table in
    let inside : home < blocks_of g = ltb-true home (blocks_of g) (and_parts (nat_lt home (blocks_of g)) (is_home_of d.kind (region_of g home)) (table_parts g d.kind d.home d.len own.table).0).0 in
    let each : (b : ℕ) → block (laid_over (deltas_on (d ∷ [])) image) b ≡ with_laid (block image) d b = λ b.
    sym (block_laid_over (deltas_on (d ∷ [])) image b)
    ∙ elim (cases_eq b home) [
      | inl here ↦
          ap (λ (l : List Delta). laid_block l (block image b)) (one_on d b lays (sym here))
          ∙ block_with d lays own.bytes (block image b) (whole_block image b (omega (arith, here, inside, room))) within
          ∙ sym (laid_there (block image) home (d.home % 4096) (bytes_laid d) b here)
      | inr away ↦
          ap (λ (l : List Delta). laid_block l (block image b)) (nothing_on d b (λ same. away (sym same)))
          ∙ sym (nothing_laid (block image b))
          ∙ sym (laid_beside (block image) home (d.home % 4096) (bytes_laid d) b away)
    ] in
    λ t b. each b t

-- an image that a change was made to has the size that it had
pub length-changed : (g : Geometry) (image : Image) (change : Change) → 4096 * blocks_of g ≤ length image → All (IsInBlock g) change.raw → length (changed change image) ≡ length image
length-changed g image change room raw =
    length-laid_over (deltas_on change.deltas) (image_after image (writes_of change.raw))
    ∙ raw_size image change.raw (All-weaker (IsInBlock g) (λ w. 512 * w.first + length w.bytes ≤ length image) (λ w is. raw_fits g image w room is) change.raw raw)
