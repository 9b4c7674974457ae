use Rattle.std.proofs.Common.{◌≡◌, Bool, not, Some, slice_get, sym, ap, ◌∙◌}
use Rattle.std.proofs.lemmas.Option.{slice_get_read}
use Rattle.fsck_core.proofs.BitSteps.{bad_count_in}
use Rattle.fsck_core.proofs.bits.has_bad_count.Goals as goal

pub returns : goal.returns
returns c = λ blocks so.
    let g = c.args.g.now in
    let groups = c.args.groups.now in
    let n = c.args.n in
    let x = c.index-groups-n.result in
    let here : slice_get groups n ≡ Some x = slice_get_read groups g.groups n x (sym c.requires.groups) c.requires.inside c.index-groups-n.is in
    ap (λ (t : Bool). not t) c.has_right_counts.ensures ∙ bad_count_in g blocks groups n x so c.requires.groups here
