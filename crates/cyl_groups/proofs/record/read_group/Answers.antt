use Rattle.std.proofs.Common.{◌≡◌, ◌-◌, length, drop, ap, sym, ◌∙◌, arith}
use Rattle.lufs_base.specs.Fields.{AreBytes}
use Rattle.volume_model.specs.Format.{GroupRecord, named_group, has_clear_rest, has_reserved}
use Rattle.volume_model.proofs.Pieces.{rest_is_bytes}
use Rattle.cyl_groups.proofs.RecordTests.{Passes, no_group, a_group, bits_of_tests, front_is_bytes, found}
use Rattle.cyl_groups.proofs.record.read_group.Goals as goal

pub returns-then-get_u32-ne-MAGIC-clause-value : goal.returns-then-get_u32-ne-MAGIC-clause-value
returns-then-get_u32-ne-MAGIC-clause-value c =
    no_group c.args.g.now c.args.n c.args.bytes.now (λ is. omega (arith, is.magic))

pub returns-then-group-n-clause-value : goal.returns-then-group-n-clause-value
returns-then-group-n-clause-value c =
    no_group c.args.g.now c.args.n c.args.bytes.now (λ is. omega (arith, is.number))

pub returns-then-not-are_zeros-clause-value : goal.returns-then-not-are_zeros-clause-value
returns-then-not-are_zeros-clause-value c =
    no_group c.args.g.now c.args.n c.args.bytes.now (λ is. cc (is.gap, c.are_zeros.ensures, c.if-not-are_zeros.true))

pub returns-then-not-has_clear_rest-clause-value : goal.returns-then-not-has_clear_rest-clause-value
returns-then-not-has_clear_rest-clause-value c =
    let bytes = c.args.bytes.now in
    let r : GroupRecord = record {
      number = c.get_u32.result;
      free_inodes = c.get_u32-2.result;
      free_blocks = c.get_u32-3.result;
      inode_bits = c.copy_from_slice.new.self;
      block_bits = c.copy_from_slice-2.new.self;
    } in
    let same : r ≡ named_group bytes =
    found bytes r c.get_u32.ensures c.get_u32-2.ensures c.get_u32-3.ensures c.copy_from_slice.ensures.after c.requires.record
    c.copy_from_slice-2.ensures.after in
    no_group c.args.g.now c.args.n c.args.bytes.now (λ is. cc (is.rest, same, c.has_clear_rest.ensures, c.if-not-has_clear_rest.true))

pub returns-then-not-has_reserved-clause-value : goal.returns-then-not-has_reserved-clause-value
returns-then-not-has_reserved-clause-value c =
    let bytes = c.args.bytes.now in
    let r : GroupRecord = record {
      number = c.get_u32.result;
      free_inodes = c.get_u32-2.result;
      free_blocks = c.get_u32-3.result;
      inode_bits = c.copy_from_slice.new.self;
      block_bits = c.copy_from_slice-2.new.self;
    } in
    let same : r ≡ named_group bytes =
    found bytes r c.get_u32.ensures c.get_u32-2.ensures c.get_u32-3.ensures c.copy_from_slice.ensures.after c.requires.record
    c.copy_from_slice-2.ensures.after in
    no_group c.args.g.now c.args.n c.args.bytes.now (λ is. cc (is.reserved, same, c.has_reserved.ensures, c.if-not-has_reserved.true))

pub returns-clause-value : goal.returns-clause-value
returns-clause-value c =
    let bytes = c.args.bytes.now in
    let r : GroupRecord = record {
      number = c.get_u32.result;
      free_inodes = c.get_u32-2.result;
      free_blocks = c.get_u32-3.result;
      inode_bits = c.copy_from_slice.new.self;
      block_bits = c.copy_from_slice-2.new.self;
    } in
    let same : r ≡ named_group bytes =
    found bytes r c.get_u32.ensures c.get_u32-2.ensures c.get_u32-3.ensures c.copy_from_slice.ensures.after c.requires.record
    c.copy_from_slice-2.ensures.after in
    let passes : Passes c.args.g.now c.args.n bytes = record {
      magic = omega arith;
      number = omega arith;
      gap = sym c.are_zeros.ensures ∙ c.if-not-are_zeros.false;
      rest = ap (has_clear_rest c.args.g.now) (sym same) ∙ sym c.has_clear_rest.ensures ∙ c.if-not-has_clear_rest.false;
      reserved = ap (has_reserved c.args.g.now) (sym same) ∙ sym c.has_reserved.ensures ∙ c.if-not-has_reserved.false;
    } in
    a_group c.args.g.now c.args.n bytes r passes same

pub returns-clause-group : goal.returns-clause-group
returns-clause-group c =
    let bytes = c.args.bytes.now in
    let r : GroupRecord = record {
      number = c.get_u32.result;
      free_inodes = c.get_u32-2.result;
      free_blocks = c.get_u32-3.result;
      inode_bits = c.copy_from_slice.new.self;
      block_bits = c.copy_from_slice-2.new.self;
    } in
    let same : r ≡ named_group bytes =
    found bytes r c.get_u32.ensures c.get_u32-2.ensures c.get_u32-3.ensures c.copy_from_slice.ensures.after c.requires.record
    c.copy_from_slice-2.ensures.after in
    let bits = bits_of_tests c.args.g.now r c.requires.geometry (sym c.has_clear_rest.ensures ∙ c.if-not-has_clear_rest.false) (sym c.has_reserved.ensures ∙ c.if-not-has_reserved.false) in
    let are : AreBytes bytes = λ i. (c.type_inv.bytes i).fits in
    record {
      number = omega arith;
      number_fits = omega arith;
      free_inodes_fits = omega arith;
      free_blocks_fits = omega arith;
      inode_bits_size = omega arith;
      inode_bits_bytes = λ i. rw c.copy_from_slice.ensures.after (front_is_bytes 128 (drop 32 bytes) (rest_is_bytes 32 bytes are) i);
      block_bits_size = omega arith;
      block_bits_bytes = λ i. rw c.copy_from_slice-2.ensures.after (front_is_bytes (length bytes - 160) (drop 160 bytes) (rest_is_bytes 160 bytes are) i);
      inode_bits_end = bits.inode_bits_end;
      block_bits_end = bits.block_bits_end;
      reserved_blocks = bits.reserved_blocks;
      reserved_inodes = λ first. bits.reserved_inodes (omega arith);
    }
