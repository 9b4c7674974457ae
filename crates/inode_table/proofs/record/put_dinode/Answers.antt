use Rattle.std.proofs.Common.{◌≡◌, ℕ, List, replicate, ap, ◌∙◌, rules, arith}
use Rattle.lufs_base.specs.Fields.{field_bytes, put_at}
use Rattle.volume_model.specs.Format.{numbers_bytes}
use Rattle.inode_table.proofs.Written.{written}
use Rattle.inode_table.proofs.record.put_dinode.Goals as goal

pub returns : goal.returns
returns c =
    let d = c.args.d.now in
    let zeros : c.fill.new.self ≡ replicate 128 0 = c.fill.ensures.after (search rules) ∙ ap (λ (n : ℕ). replicate n 0) c.requires in
    let mode = c.put_u16.ensures ∙ ap (λ (l : List ℕ). put_at l 0 (field_bytes 2 d.mode)) zeros in
    let links = c.put_u16-2.ensures ∙ ap (λ (l : List ℕ). put_at l 2 (field_bytes 2 d.links)) mode in
    let uid = c.put_u32.ensures ∙ ap (λ (l : List ℕ). put_at l 4 (field_bytes 4 d.uid)) links in
    let gid = c.put_u32-2.ensures ∙ ap (λ (l : List ℕ). put_at l 8 (field_bytes 4 d.gid)) uid in
    let size = c.put_u64.ensures ∙ ap (λ (l : List ℕ). put_at l 16 (field_bytes 8 d.size)) gid in
    let mtime = c.put_u64-2.ensures ∙ ap (λ (l : List ℕ). put_at l 24 (field_bytes 8 d.mtime)) size in
    let direct = c.put_numbers.ensures ∙ ap (λ (l : List ℕ). put_at l 32 (numbers_bytes d.direct)) mtime in
    let indirect = c.put_numbers-2.ensures ∙ ap (λ (l : List ℕ). put_at l 80 (numbers_bytes d.indirect)) direct in
    let blocks = c.put_u32-3.ensures ∙ ap (λ (l : List ℕ). put_at l 92 (field_bytes 4 d.blocks)) indirect in
    blocks ∙ written d (omega arith) (omega arith)
