use Rattle.std.proofs.Common.{◌≡◌, Bool, true, false, ◌&&◌, refl, ap, sym, ◌∙◌, take, drop}
use Rattle.std.proofs.lemmas.Bool.{and_from}
use Rattle.lufs_base.specs.Fields.{u16_at, u32_at}
use Rattle.std.proofs.lemmas.List.{take_rest}
use Rattle.lufs_base.specs.Fields.{are_zeros}
use Rattle.volume_model.specs.Format.{is_mode, has_indirect}
use Rattle.inode_table.proofs.record.is_dinode.Goals as goal

cases_and : (a b : Bool) → b ≡ false → (a && b) ≡ false
cases_and true b fails = fails
cases_and false b fails = refl

third_fails : (a b c d : Bool) → c ≡ false → false ≡ (a && b && c && d)
third_fails a b c d fails =
    let first : (a && b && c) ≡ false = cases_and (a && b) c fails in
    sym (ap (λ (x : Bool). x && d) first)

fourth_decides : (a b c d : Bool) → a ≡ true → b ≡ true → c ≡ true → d ≡ (a && b && c && d)
fourth_decides a b c d x y z = sym (ap (λ (t : Bool). t && d) (and_from (a && b) c (and_from a b x y) z))

pub returns-then-not-are_zeros-2 : goal.returns-then-not-are_zeros-2
returns-then-not-are_zeros-2 c =
    let bytes = c.args.bytes.now in
    let rest = ap are_zeros (take_rest bytes 96) in
    let end : are_zeros (drop 96 bytes) ≡ false = cc (rest, c.are_zeros-2.ensures, c.if-not-are_zeros-2.true) in
    third_fails (is_mode (u16_at bytes 0)) (are_zeros (take 4 (drop 12 bytes))) (are_zeros (drop 96 bytes)) (has_indirect c.args.version (u32_at bytes 84) (u32_at bytes 88)) end

pub returns : goal.returns
returns c =
    let bytes = c.args.bytes.now in
    let rest = ap are_zeros (take_rest bytes 96) in
    let mode : is_mode (u16_at bytes 0) ≡ true = cc (c.get_u16.ensures, c.is_mode.ensures, c.if-not-is_mode.false) in
    let gap : are_zeros (take 4 (drop 12 bytes)) ≡ true = cc (c.are_zeros.ensures, c.if-not-are_zeros.false) in
    let end : are_zeros (drop 96 bytes) ≡ true = cc (rest, c.are_zeros-2.ensures, c.if-not-are_zeros-2.false) in
    let indirect : c.has_indirect.result ≡ has_indirect c.args.version (u32_at bytes 84) (u32_at bytes 88) =
    cc (c.has_indirect.ensures, c.get_u32.ensures, c.get_u32-2.ensures) in
    indirect ∙ fourth_decides (is_mode (u16_at bytes 0)) (are_zeros (take 4 (drop 12 bytes))) (are_zeros (drop 96 bytes)) _ mode gap end
