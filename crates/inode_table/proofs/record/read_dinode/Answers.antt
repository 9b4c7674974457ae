use Rattle.std.proofs.Common.{ap, ◌∙◌, arith, sym, length, drop, slice_index}
use Rattle.std.proofs.lemmas.List.{drop-drop}
use Rattle.std.proofs.lemmas.Bool.{and_parts}
use Rattle.lufs_base.specs.Fields.{number_in, u32_at}
use Rattle.inode_table.proofs.Rows.{length-numbers_in, number_of_row}
use Rattle.volume_model.specs.Format.{is_mode, has_indirect}
use Rattle.inode_table.proofs.record.read_dinode.Goals as goal

pub returns-clause-inode : goal.returns-clause-inode
returns-clause-inode c =
    let bytes = c.args.bytes.now in
    let test = and_parts _ _ (sym c.is_dinode.ensures ∙ c.if-not-is_dinode.false) in
    let mode = and_parts _ _ (and_parts _ _ test.0).0 in
    let second = ap (λ l. slice_index l 1) c.get_numbers-2.ensures.value ∙ number_of_row 3 1 (drop 80 bytes) (omega arith) ∙ ap (number_in 4) (drop-drop 4 80 bytes) in
    let third = ap (λ l. slice_index l 2) c.get_numbers-2.ensures.value ∙ number_of_row 3 2 (drop 80 bytes) (omega arith) ∙ ap (number_in 4) (drop-drop 8 80 bytes) in
    record {
      mode = ap is_mode c.get_u16.ensures ∙ mode.0;
      links_fits = omega arith;
      uid_fits = omega arith;
      gid_fits = omega arith;
      size_fits = omega arith;
      mtime_fits = omega arith;
      direct_size = ap length c.get_numbers.ensures.value ∙ length-numbers_in 12 (drop 32 bytes);
      direct_fits = c.get_numbers.ensures.fits;
      indirect_size = ap length c.get_numbers-2.ensures.value ∙ length-numbers_in 3 (drop 80 bytes);
      indirect_fits = c.get_numbers-2.ensures.fits;
      blocks_fits = omega arith;
      indirect_in_version = ap (λ n. has_indirect c.args.version n (slice_index c.get_numbers-2.result 2)) second ∙ ap (has_indirect c.args.version (u32_at bytes 84)) third ∙ test.1;
    }
