use Rattle.std.proofs.Common.{◌≡◌, ℕ, ◌*◌, List, ◌++◌, length, take, ◌+◌, ap, ◌∙◌, sym, arith}
use Rattle.std.proofs.lemmas.List.{append-nil, drop_all, take_all}
use Rattle.lufs_base.specs.Fields.{put_at}
use Rattle.volume_model.specs.Format.{numbers_bytes}
use Rattle.inode_table.proofs.Rows.{length-numbers_bytes}
use Rattle.meta_draft.proofs.draft.bytes_of.Goals as goal

put_whole : (old bytes : List ℕ) → length bytes ≡ length old → put_at old 0 bytes ≡ bytes
put_whole old bytes size =
    ap (λ (l : List ℕ). bytes ++ l) (drop_all (0 + length bytes) old (omega (arith, size))) ∙ append-nil bytes

pub returns-clause-bytes : goal.returns-clause-bytes
returns-clause-bytes c =
    let numbers : List ℕ = c.args.numbers.now in
    let items : List ℕ = c.in_ok-bytes.bytes.items in
    let n = c.in_ok-bytes.bytes.len in
    let out : List ℕ = c.put_numbers.new.out in
    let slice : List ℕ = c.as_mut_slice.result.now in
    let asked : n ≡ 4 * length numbers = c.in_ok-bytes.ensures.len in
    let slice_size : length slice ≡ n = c.as_mut_slice.ensures.len in
    let same : length slice ≡ length items = ap length c.as_mut_slice.ensures.value in
    let spelled = length-numbers_bytes numbers in
    let out_is : out ≡ numbers_bytes numbers = c.put_numbers.ensures ∙ put_whole slice (numbers_bytes numbers) (omega (arith, spelled, asked, slice_size)) in
    let size : length out ≡ n = ap length out_is ∙ spelled ∙ sym asked in
    ap (λ (l : List ℕ). take n (out ++ l)) (drop_all (length out) items (omega (arith, size, same, slice_size)))
    ∙ ap (take n) (append-nil out)
    ∙ take_all n out (omega (arith, size))
    ∙ out_is
