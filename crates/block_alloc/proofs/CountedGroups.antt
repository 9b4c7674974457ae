-- A group with right counts, after one of its bits was put.
use Rattle.std.proofs.Common.{◌≡◌, ◌<◌, ◌≤◌, ℕ, ◌+◌, ◌*◌, ◌/◌, ◌^◌, Bool, true, false, List, length, refl, sym, ap, ◌∙◌, subst, arith}
use Rattle.lufs_base.specs.Fields.{AreBytes}
use Rattle.lufs_base.specs.Layout.{IsGeometry}
use Rattle.lufs_base.specs.declared.geometry.Geometry.{Geometry}
use Rattle.volume_model.specs.Format.{IsGroup, bit_at, clear_bits, HasBit}
use Rattle.volume_model.specs.Sound.{has_right_counts}
use Rattle.change_laws.specs.Marks.{HasBlockPut, HasInodePut}
use Rattle.change_laws.proofs.OneBit.{block_group, inode_group, counts_if}
use Rattle.cyl_groups.specs.declared.group.Group.{Group}
use Rattle.cyl_groups.specs.Group.{record_of, IsCounted, HasSizesOf, OnlyBlocks, OnlyInodes}
use Rattle.block_alloc.specs.Marks.{IsCountedGroup}
use Rattle.block_alloc.proofs.Counted.{clear_at_most}

module _ (g : Geometry) (old new : Group) (place : ℕ) (value : Bool) (ok : IsGeometry g) (before : IsCountedGroup g old) (counted : IsCounted new) where
  pub block_counted : HasBlockPut place value (record_of old) (record_of new) → OnlyBlocks old new → g.ipg / 32 < place → place < g.bpg → length new.block_bits ≡ 256
      → AreBytes new.block_bits → IsCountedGroup g new
  block_counted put others low below size bytes =
      let sizes : HasSizesOf g new = record { ipg = others.ipg ∙ before.sizes.ipg; bpg = others.bpg ∙ before.sizes.bpg } in
      let fits : new.free_blocks < 2 ^ 32 = omega (arith, counted.blocks, clear_at_most new.block_bits new.bpg, sizes.bpg, ok.bpg_high) in
      record {
        sizes = sizes;
        group = subst (λ (n : ℕ). IsGroup g n (record_of new)) (sym others.number)
            (block_group g old.number place value (record_of old) (record_of new) before.group put low below fits size bytes);
        counted = counted;
      }

  pub inode_counted : HasInodePut place value (record_of old) (record_of new) → OnlyInodes old new → 2 ≤ old.number * g.ipg + place → place < g.ipg → length new.inode_bits ≡ 128
      → AreBytes new.inode_bits → IsCountedGroup g new
  inode_counted put others low below size bytes =
      let sizes : HasSizesOf g new = record { ipg = others.ipg ∙ before.sizes.ipg; bpg = others.bpg ∙ before.sizes.bpg } in
      let fits : new.free_inodes < 2 ^ 32 = omega (arith, counted.inodes, clear_at_most new.inode_bits new.ipg, sizes.ipg, ok.ipg_high) in
      record {
        sizes = sizes;
        group = subst (λ (n : ℕ). IsGroup g n (record_of new)) (sym others.number)
            (inode_group g old.number place value (record_of old) (record_of new) before.group put low below fits size bytes);
        counted = counted;
      }

-- the same of what a call left there
pub block_left : (g : Geometry) (old new x : Group) (place : ℕ) (value : Bool) → IsGeometry g → IsCountedGroup g old → x ≡ new → HasBit place value old.block_bits new.block_bits
    → IsCounted new → OnlyBlocks old new → g.ipg / 32 < place → place < g.bpg → length x.block_bits ≡ 256 → AreBytes x.block_bits → IsCountedGroup g x
block_left g old new x place value ok before same bit counted others low below size bytes =
    let put : HasBlockPut place value (record_of old) (record_of new) = record {
      bits = record { bit = bit.bit; others = bit.others };
      number = others.number;
      free_inodes = others.free_inodes;
      inode_bits = others.inode_bits;
    } in
    subst (IsCountedGroup g) (sym same)
    (block_counted g old new place value ok before counted put others low below (subst (λ (y : Group). length y.block_bits ≡ 256) same size) (subst (λ (y : Group). AreBytes y.block_bits) same bytes))

pub inode_left : (g : Geometry) (old new x : Group) (place : ℕ) (value : Bool) → IsGeometry g → IsCountedGroup g old → x ≡ new → HasBit place value old.inode_bits new.inode_bits
    → IsCounted new → OnlyInodes old new → 2 ≤ old.number * g.ipg + place → place < g.ipg → length x.inode_bits ≡ 128 → AreBytes x.inode_bits → IsCountedGroup g x
inode_left g old new x place value ok before same bit counted others low below size bytes =
    let put : HasInodePut place value (record_of old) (record_of new) = record {
      bits = record { bit = bit.bit; others = bit.others };
      number = others.number;
      free_blocks = others.free_blocks;
      block_bits = others.block_bits;
    } in
    subst (IsCountedGroup g) (sym same)
    (inode_counted g old new place value ok before counted put others low below (subst (λ (y : Group). length y.inode_bits ≡ 128) same size) (subst (λ (y : Group). AreBytes y.inode_bits) same bytes))

-- a group with its counts by its bits
pub with_counts : (g : Geometry) (x y : Group) → IsGeometry g → HasSizesOf g x → IsGroup g x.number (record_of x) → y.number ≡ x.number → y.ipg ≡ x.ipg → y.bpg ≡ x.bpg
    → y.inode_bits ≡ x.inode_bits → y.block_bits ≡ x.block_bits → y.free_inodes ≡ clear_bits x.inode_bits g.ipg → y.free_blocks ≡ clear_bits x.block_bits g.bpg → IsCountedGroup g y
with_counts g x y ok sizes group number ipg bpg inode_bits block_bits free_inodes free_blocks =
    let y_ipg : y.ipg ≡ g.ipg = ipg ∙ sizes.ipg in
    let y_bpg : y.bpg ≡ g.bpg = bpg ∙ sizes.bpg in
    let inodes : y.free_inodes ≡ clear_bits y.inode_bits y.ipg =
    free_inodes ∙ ap (λ (bits : List ℕ). clear_bits bits g.ipg) (sym inode_bits) ∙ ap (clear_bits y.inode_bits) (sym y_ipg) in
    let blocks : y.free_blocks ≡ clear_bits y.block_bits y.bpg =
    free_blocks ∙ ap (λ (bits : List ℕ). clear_bits bits g.bpg) (sym block_bits) ∙ ap (clear_bits y.block_bits) (sym y_bpg) in
    record {
      sizes = record { ipg = y_ipg; bpg = y_bpg };
      group = record {
        number = refl;
        number_fits = omega (arith, number, group.number_fits);
        free_inodes_fits = omega (arith, inodes, clear_at_most y.inode_bits y.ipg, y_ipg, ok.ipg_high);
        free_blocks_fits = omega (arith, blocks, clear_at_most y.block_bits y.bpg, y_bpg, ok.bpg_high);
        inode_bits_size = ap length inode_bits ∙ group.inode_bits_size;
        inode_bits_bytes = subst AreBytes (sym inode_bits) group.inode_bits_bytes;
        block_bits_size = ap length block_bits ∙ group.block_bits_size;
        block_bits_bytes = subst AreBytes (sym block_bits) group.block_bits_bytes;
        inode_bits_end = subst (λ (bits : List ℕ). (i : ℕ) → g.ipg ≤ i → bit_at bits i ≡ false) (sym inode_bits) group.inode_bits_end;
        block_bits_end = subst (λ (bits : List ℕ). (i : ℕ) → g.bpg ≤ i → bit_at bits i ≡ false) (sym block_bits) group.block_bits_end;
        reserved_blocks = subst (λ (bits : List ℕ). (i : ℕ) → i ≤ g.ipg / 32 → bit_at bits i ≡ true) (sym block_bits) group.reserved_blocks;
        reserved_inodes = λ first. subst (λ (bits : List ℕ). (i : ℕ) → i < 2 → bit_at bits i ≡ true) (sym inode_bits) (group.reserved_inodes (sym number ∙ first));
      };
      counted = record { inodes = inodes; blocks = blocks };
    }

-- the counts of such a group, as the test reads them
pub counts_right : (g : Geometry) (x : Group) → IsCountedGroup g x → has_right_counts g (record_of x) ≡ true
counts_right g x is =
    counts_if g (record_of x) (is.counted.inodes ∙ ap (clear_bits x.inode_bits) is.sizes.ipg) (is.counted.blocks ∙ ap (clear_bits x.block_bits) is.sizes.bpg)
