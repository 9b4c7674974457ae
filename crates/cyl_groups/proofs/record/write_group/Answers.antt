use Rattle.std.proofs.Common.{◌≡◌, ℕ, ◌-◌, List, length, take, drop, replicate, ap, ◌∙◌, arith, rules}
use Rattle.std.proofs.lemmas.List.{length-take-le, length-drop}
use borrow.Rule.Slice.PartMut.{put_mid}
use Rattle.lufs_base.specs.Fields.{field_bytes, put_at}
use Rattle.cyl_groups.specs.Group.{record_of}
use Rattle.cyl_groups.proofs.Written.{part_put, written}
use Rattle.cyl_groups.proofs.record.write_group.Goals as goal

pub returns : goal.returns
returns c =
    let x = c.args.group.now in
    let out = c.args.out.now in
    let head = c.put_u32-4.new.out in
    let z : List ℕ = replicate 16 0 in
    let magic = c.put_u32.ensures in
    let number = c.put_u32-2.ensures ∙ ap (λ (l : List ℕ). put_at l 4 (field_bytes 4 x.number)) magic in
    let free_inodes = c.put_u32-3.ensures ∙ ap (λ (l : List ℕ). put_at l 8 (field_bytes 4 x.free_inodes)) number in
    let free_blocks = c.put_u32-4.ensures ∙ ap (λ (l : List ℕ). put_at l 12 (field_bytes 4 x.free_blocks)) free_inodes in
    let gap_size : length (take 16 (drop 16 head)) ≡ 16 = length-take-le 16 (drop 16 head) (omega (arith, length-drop 16 head)) in
    let zeros : c.fill.new.self ≡ z = c.fill.ensures.after (search rules) ∙ ap (λ (n : ℕ). replicate n 0) gap_size in
    let gap = part_put head z c.fill.new.self 16 16 zeros (omega arith) in
    let inodes = part_put (put_mid 16 16 head c.fill.new.self) x.inode_bits c.copy_from_slice.new.self 32 128 c.copy_from_slice.ensures.after (omega arith) in
    let blocks = part_put (put_mid 32 128 (put_mid 16 16 head c.fill.new.self) c.copy_from_slice.new.self) x.block_bits c.copy_from_slice-2.new.self 160 (length (put_mid 32 128 (put_mid 16 16 head c.fill.new.self) c.copy_from_slice.new.self) - 160) c.copy_from_slice-2.ensures.after (omega arith) in
    blocks
    ∙ ap (λ (l : List ℕ). put_at l 160 x.block_bits)
    (inodes ∙ ap (λ (l : List ℕ). put_at l 32 x.inode_bits) (gap ∙ ap (λ (l : List ℕ). put_at l 16 z) free_blocks))
    ∙ written out (record_of x) c.requires (omega arith) (omega arith)
