use Rattle.std.proofs.Common.{◌≡◌, ℕ, ◌*◌, ◌-◌, ◌/◌, ◌++◌, List, length, take, drop, refl, sym, ap, ◌∙◌, arith}
use Rattle.std.specs.List.{flat_map}
use Rattle.std.proofs.lemmas.List.{drop_all}
use Rattle.volume_model.specs.Format.{pieces_of}
use Rattle.volume_model.specs.Log.{trailer_bytes, carrying}
use Rattle.log_format.proofs.SectorSteps.{piece_count, front_step, back_step}
use Rattle.log_format.proofs.transaction.make_sectors.Goals as goal

pub loop-i-init : goal.loop-i-init
loop-i-init c =
    let out = c.args.out.now in
    record {
      size = refl;
      inside = omega arith;
      front = refl;
      back = drop_all (512 * (length out / 512)) out (omega arith)
          ∙ sym (ap (λ (l : List (List ℕ)). flat_map (λ piece. piece ++ trailer_bytes c.args.trailer.now) l) (drop_all (length out / 512) _ (omega (arith, piece_count out))));
    }

pub loop-i-preserved : goal.loop-i-preserved
loop-i-preserved c =
    let out = c.args.out.now in
    let i = c.loop-i.i - 1 in
    record {
      size = omega arith;
      inside = omega arith;
      front = front_step out c.loop-i.out c.make_sector.new.out _ i c.loop-i.i (omega arith) (omega arith) c.make_sector.ensures c.loop-i.invariant.front;
      back = back_step out c.loop-i.out c.make_sector.new.out c.args.trailer.now i c.loop-i.i (omega arith) (omega arith) c.loop-i.invariant.size c.make_sector.ensures
          c.loop-i.invariant.front c.loop-i.invariant.back;
    }

pub returns : goal.returns
unfolding carrying
returns c =
    let none : c.loop-i.i ≡ 0 = omega arith in
    let payload = take (504 * (length c.args.out.now / 512)) c.args.out.now in
    ap (λ (n : ℕ). drop (512 * n) c.loop-i.out) (sym none)
    ∙ c.loop-i.invariant.back
    ∙ ap (λ (n : ℕ). flat_map (λ piece. piece ++ trailer_bytes c.args.trailer.now) (drop n (pieces_of 504 payload))) none
