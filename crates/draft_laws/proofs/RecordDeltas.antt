-- Deltas of records may be logged, and lie where such records lie.
use Rattle.std.proofs.Common.{◌≡◌, ◌<◌, ◌≤◌, ℕ, ◌+◌, ◌*◌, ◌/◌, ◌%◌, eqb, leb, Bool, true, ◌&&◌, List, ◌++◌, length, replicate, Option, Some, None, IfSome, refl, ap, ◌∙◌, arith, length-append}
use Rattle.std.specs.Prelude.{nat_lt}
use Rattle.std.proofs.lemmas.Bool.{and_parts, and_from, lt-ltb, le-leb, eq-eqb, false≢true}
use Rattle.lufs_base.specs.Fields.{field_bytes}
use Rattle.lufs_base.specs.Layout.{IsGeometry, blocks_of, region_of, group_start, inode_address}
use Rattle.lufs_base.specs.declared.geometry.Geometry.{Geometry}
use Rattle.lufs_base.specs.declared.geometry.Region.{Region}
use Rattle.lufs_base.specs.declared.geometry.Region.TheVariants.{Boot, Super, Log, GroupBlock, Inodes, Body}
use Rattle.lufs_base.specs.declared.delta.DeltaKind.{DeltaKind}
use Rattle.lufs_base.specs.declared.delta.DeltaKind.TheVariants.{Group, Inode, Chunk, Pointers, Zero, LinkText, Cancel}
use Rattle.volume_model.specs.declared.inode.Dinode.{Dinode}
use Rattle.volume_model.specs.declared.directory.Slot.{Slot}
use Rattle.volume_model.specs.Format.{inodes_of, is_body, is_body_region, IsDinode, dinode_bytes, numbers_bytes, GroupRecord, IsGroup, group_bytes, IsChunk, chunk_bytes}
use Rattle.volume_model.specs.Log.{may_be_logged, is_home_of, is_part_of_block}
use Rattle.volume_model.specs.Sound.{Reading, record_length}
use Rattle.volume_laws.proofs.Rows.{length-row}
use Rattle.volume_laws.proofs.RecordPlaces.{aligned}
use Rattle.volume_laws.proofs.SameReading.{group_record_block, inode_record_block}
use Rattle.dir_blocks.proofs.WrittenSlots.{length-slots}
use Rattle.meta_store.proofs.MergedTable.{IsLoggable}
use Rattle.meta_store.specs.Suited.{suits_block}
use Rattle.meta_store.specs.Deltas.{group_delta, inode_delta, chunk_delta, pointers_delta, zero_delta, text_delta}

pub table_of : (g : Geometry) (kind : DeltaKind) (home len : ℕ) → nat_lt (home / 4096) (blocks_of g) ≡ true → is_home_of kind (region_of g (home / 4096)) ≡ true
    → is_part_of_block kind (home % 4096) len ≡ true → may_be_logged g kind home len ≡ true
unfolding may_be_logged
table_of g kind home len inside region part =
    and_from (nat_lt (home / 4096) (blocks_of g) && is_home_of kind (region_of g (home / 4096))) (is_part_of_block kind (home % 4096) len)
    (and_from (nat_lt (home / 4096) (blocks_of g)) (is_home_of kind (region_of g (home / 4096))) inside region) part

inodes_region : (region : Region) → record_length region ≡ 4096 → is_home_of Inode region ≡ true
inodes_region Boot is = absurd (omega (arith, is))
inodes_region Super is = absurd (omega (arith, is))
inodes_region Log is = absurd (omega (arith, is))
inodes_region (GroupBlock n) is = absurd (omega (arith, is))
inodes_region (Inodes n) is = refl
inodes_region (Body n) is = absurd (omega (arith, is))

group_region : (region : Region) → record_length region ≡ 416 → is_home_of Group region ≡ true
group_region Boot is = absurd (omega (arith, is))
group_region Super is = absurd (omega (arith, is))
group_region Log is = absurd (omega (arith, is))
group_region (GroupBlock n) is = refl
group_region (Inodes n) is = absurd (omega (arith, is))
group_region (Body n) is = absurd (omega (arith, is))

-- a record of an inode, or a free one, in its 128 bytes
abbrev pub IsRecord : Geometry → Option Dinode → Type 0
IsRecord g d = IfSome d (IsDinode g.version)

long : (xs ys a b c e f h k : List ℕ) → length xs ≡ 48 → length ys ≡ 12 → length a ≡ 2 → length b ≡ 2 → length c ≡ 4 → length e ≡ 4 → length f ≡ 8 → length h ≡ 8 → length k ≡ 4
    → length (a ++ (b ++ (c ++ (e ++ (replicate 4 0 ++ (f ++ (h ++ (xs ++ (ys ++ (k ++ replicate 32 0)))))))))) ≡ 128
long xs ys a b c e f h k x y al bl cl el fl hl kl =
    let one : length (k ++ replicate 32 0) ≡ 36 = omega (arith, length-append k (replicate 32 0), kl) in
    let two : length (ys ++ (k ++ replicate 32 0)) ≡ 48 = omega (arith, length-append ys (k ++ replicate 32 0), y, one) in
    let three : length (xs ++ (ys ++ (k ++ replicate 32 0))) ≡ 96 = omega (arith, length-append xs (ys ++ (k ++ replicate 32 0)), x, two) in
    let rest : List ℕ = xs ++ (ys ++ (k ++ replicate 32 0)) in
    omega (
      arith,
      three,
      al,
      bl,
      cl,
      el,
      fl,
      hl,
      length-append h rest,
      length-append f (h ++ rest),
      length-append (replicate 4 0) (f ++ (h ++ rest)),
      length-append e (replicate 4 0 ++ (f ++ (h ++ rest))),
      length-append c (e ++ (replicate 4 0 ++ (f ++ (h ++ rest)))),
      length-append b (c ++ (e ++ (replicate 4 0 ++ (f ++ (h ++ rest))))),
      length-append a (b ++ (c ++ (e ++ (replicate 4 0 ++ (f ++ (h ++ rest)))))),
    )

pub length-record : (g : Geometry) (d : Option Dinode) → IsRecord g d → length (dinode_bytes d) ≡ 128
unfolding dinode_bytes
length-record g None is = refl
length-record g (Some d) is =
    long (numbers_bytes d.direct) (numbers_bytes d.indirect) (field_bytes 2 d.mode) (field_bytes 2 d.links) (field_bytes 4 d.uid) (field_bytes 4 d.gid) (field_bytes 8 d.size) (field_bytes 8 d.mtime) (field_bytes 4 d.blocks)
    (omega (arith, length-row d.direct, is.direct_size)) (omega (arith, length-row d.indirect, is.indirect_size))
    refl refl refl refl refl refl refl

length-group : (g : Geometry) (n : ℕ) (group : GroupRecord) → IsGroup g n group → length (group_bytes group) ≡ 416
unfolding group_bytes
length-group g n r is =
    let a : List ℕ = field_bytes 4 0x00090255 in
    let b : List ℕ = field_bytes 4 r.number in
    let c : List ℕ = field_bytes 4 r.free_inodes in
    let e : List ℕ = field_bytes 4 r.free_blocks in
    let bits : List ℕ = r.inode_bits ++ r.block_bits in
    let size : length bits ≡ 384 = omega (arith, length-append r.inode_bits r.block_bits, is.inode_bits_size, is.block_bits_size) in
    omega (
      arith,
      size,
      length-append (replicate 16 0) bits,
      length-append e (replicate 16 0 ++ bits),
      length-append c (e ++ (replicate 16 0 ++ bits)),
      length-append b (c ++ (e ++ (replicate 16 0 ++ bits))),
      length-append a (b ++ (c ++ (e ++ (replicate 16 0 ++ bits)))),
    )

module _ (g : Geometry) (i : ℕ) (d : Option Dinode) (ok : IsGeometry g) (within : i < inodes_of g) (is : IsRecord g d) where
  pub inode_loggable : IsLoggable g (inode_delta g i (dinode_bytes d))
  inode_loggable =
      let b = inode_address g i / 4096 in
      let place = inode_record_block g i ok within in
      record {
        table = table_of g Inode (inode_address g i) 128 (lt-ltb b (blocks_of g) place.0) (inodes_region (region_of g b) place.1)
            (and_from (eqb (inode_address g i % 4096 % 128) 0) (eqb 128 128) (eq-eqb (inode_address g i % 4096 % 128) 0 (omega (arith, aligned g i))) refl);
        bytes = length-record g d is;
      }

  pub inode_suited : (s : Reading) → suits_block g s Inode (inode_address g i / 4096) ≡ true
  inode_suited s =
      let b = inode_address g i / 4096 in
      let place = inode_record_block g i ok within in
      and_from (nat_lt b (blocks_of g)) (is_home_of Inode (region_of g b)) (lt-ltb b (blocks_of g) place.0) (inodes_region (region_of g b) place.1)

module _ (g : Geometry) (n : ℕ) (group : GroupRecord) (ok : IsGeometry g) (within : n < g.groups) (is : IsGroup g n group) where
  group_home : (4096 * group_start g n) / 4096 ≡ group_start g n
  group_home = omega arith

  pub group_loggable : IsLoggable g (group_delta g n (group_bytes group))
  group_loggable =
      let place = group_record_block g n ok within in
      record {
        table = table_of g Group (4096 * group_start g n) 416 (ap (λ (b : ℕ). nat_lt b (blocks_of g)) group_home ∙ lt-ltb (group_start g n) (blocks_of g) place.0)
            (ap (λ (b : ℕ). is_home_of Group (region_of g b)) group_home ∙ group_region (region_of g (group_start g n)) place.1)
            (and_from (eqb ((4096 * group_start g n) % 4096) 0) (eqb 416 416) (eq-eqb ((4096 * group_start g n) % 4096) 0 (omega arith)) refl);
        bytes = length-group g n group is;
      }

  pub group_suited : (s : Reading) → suits_block g s Group ((4096 * group_start g n) / 4096) ≡ true
  group_suited s =
      let place = group_record_block g n ok within in
      ap (suits_block g s Group) group_home
      ∙ and_from (nat_lt (group_start g n) (blocks_of g)) (is_home_of Group (region_of g (group_start g n))) (lt-ltb (group_start g n) (blocks_of g) place.0) (group_region (region_of g (group_start g n)) place.1)

-- deltas on body blocks
body_parts : (g : Geometry) (b : ℕ) → is_body g b ≡ true → (nat_lt b (blocks_of g) ≡ true) × (is_body_region (region_of g b) ≡ true)
body_parts g b body = and_parts (nat_lt b (blocks_of g)) (is_body_region (region_of g b)) body

-- the kinds that lie on body blocks
abbrev lies_on_body : DeltaKind → Bool
lies_on_body kind = is_home_of kind (Body 0)

of_chunk : (region : Region) → is_body_region region ≡ true → is_home_of Chunk region ≡ true
of_chunk Boot body = absurd (false≢true body)
of_chunk Super body = absurd (false≢true body)
of_chunk Log body = absurd (false≢true body)
of_chunk (GroupBlock n) body = absurd (false≢true body)
of_chunk (Inodes n) body = absurd (false≢true body)
of_chunk (Body n) body = refl

of_pointers : (region : Region) → is_body_region region ≡ true → is_home_of Pointers region ≡ true
of_pointers Boot body = absurd (false≢true body)
of_pointers Super body = absurd (false≢true body)
of_pointers Log body = absurd (false≢true body)
of_pointers (GroupBlock n) body = absurd (false≢true body)
of_pointers (Inodes n) body = absurd (false≢true body)
of_pointers (Body n) body = refl

of_zeros : (region : Region) → is_body_region region ≡ true → is_home_of Zero region ≡ true
of_zeros Boot body = absurd (false≢true body)
of_zeros Super body = absurd (false≢true body)
of_zeros Log body = absurd (false≢true body)
of_zeros (GroupBlock n) body = absurd (false≢true body)
of_zeros (Inodes n) body = absurd (false≢true body)
of_zeros (Body n) body = refl

of_text : (region : Region) → is_body_region region ≡ true → is_home_of LinkText region ≡ true
of_text Boot body = absurd (false≢true body)
of_text Super body = absurd (false≢true body)
of_text Log body = absurd (false≢true body)
of_text (GroupBlock n) body = absurd (false≢true body)
of_text (Inodes n) body = absurd (false≢true body)
of_text (Body n) body = refl

of_cancel : (region : Region) → is_body_region region ≡ true → is_home_of Cancel region ≡ true
of_cancel Boot body = absurd (false≢true body)
of_cancel Super body = absurd (false≢true body)
of_cancel Log body = absurd (false≢true body)
of_cancel (GroupBlock n) body = absurd (false≢true body)
of_cancel (Inodes n) body = absurd (false≢true body)
of_cancel (Body n) body = refl

home_of_body : (kind : DeltaKind) (region : Region) → is_body_region region ≡ true → lies_on_body kind ≡ true → is_home_of kind region ≡ true
home_of_body Group region body lies = absurd (false≢true lies)
home_of_body Inode region body lies = absurd (false≢true lies)
home_of_body Chunk region body lies = of_chunk region body
home_of_body Pointers region body lies = of_pointers region body
home_of_body Zero region body lies = of_zeros region body
home_of_body LinkText region body lies = of_text region body
home_of_body Cancel region body lies = of_cancel region body

pub body_table : (g : Geometry) (kind : DeltaKind) (home b place len : ℕ) → lies_on_body kind ≡ true → is_body g b ≡ true → home ≡ 4096 * b + place → place < 4096 → is_part_of_block kind place len ≡ true
    → may_be_logged g kind home len ≡ true
body_table g kind home b place len lies body is low part =
    let its : home / 4096 ≡ b = omega (arith, is, low) in
    let there : home % 4096 ≡ place = omega (arith, is, low) in
    let parts = body_parts g b body in
    table_of g kind home len (ap (λ (c : ℕ). nat_lt c (blocks_of g)) its ∙ parts.0)
    (ap (λ (c : ℕ). is_home_of kind (region_of g c)) its ∙ home_of_body kind (region_of g b) parts.1 lies)
    (ap (λ (p : ℕ). is_part_of_block kind p len) there ∙ part)

pub chunk_loggable : (g : Geometry) (b k : ℕ) (slots : List Slot) → is_body g b ≡ true → k < 8 → IsChunk slots → IsLoggable g (chunk_delta b k (chunk_bytes slots))
chunk_loggable g b k slots body low chunk = record {
  table = body_table g Chunk (4096 * b + 512 * k) b (512 * k) 512 refl body refl (omega (arith, low))
      (and_from (eqb ((512 * k) % 512) 0) (eqb 512 512) (eq-eqb ((512 * k) % 512) 0 (omega arith)) refl);
  bytes = length-slots slots chunk.right ∙ chunk.full;
}

pub zero_loggable : (g : Geometry) (b : ℕ) → is_body g b ≡ true → IsLoggable g (zero_delta b)
zero_loggable g b body = record {
  table = body_table g Zero (4096 * b) b 0 4096 refl body (omega arith) (omega arith) refl;
  bytes = refl;
}

pub pointers_loggable : (g : Geometry) (b j : ℕ) (numbers : List ℕ) → is_body g b ≡ true → 0 < length numbers → j + length numbers ≤ 1024 → IsLoggable g (pointers_delta b j (numbers_bytes numbers))
pointers_loggable g b j numbers body some fits =
    let size = length-row numbers in
    let len = length (numbers_bytes numbers) in
    let p = 4 * j in
    record {
      table = body_table g Pointers (4096 * b + 4 * j) b p len refl body refl (omega (arith, some, fits))
          (and_from (eqb (p % 4) 0 && eqb (len % 4) 0 && leb 4 len) (leb (p + len) 4096)
          (and_from (eqb (p % 4) 0 && eqb (len % 4) 0) (leb 4 len)
          (and_from (eqb (p % 4) 0) (eqb (len % 4) 0) (eq-eqb (p % 4) 0 (omega arith)) (eq-eqb (len % 4) 0 (omega (arith, size))))
          (le-leb 4 len (omega (arith, size, some))))
          (le-leb (p + len) 4096 (omega (arith, size, fits))));
      bytes = refl;
    }

pub text_loggable : (g : Geometry) (b : ℕ) (text : List ℕ) → is_body g b ≡ true → 1 ≤ length text → length text ≤ 1024 → IsLoggable g (text_delta b text)
text_loggable g b text body some few = record {
  table = body_table g LinkText (4096 * b) b 0 (length text) refl body (omega arith) (omega arith)
      (and_from (leb 1 (length text)) (leb (length text) 1024) (le-leb 1 (length text) some) (le-leb (length text) 1024 few));
  bytes = refl;
}
