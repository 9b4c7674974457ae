use Rattle.std.proofs.Common.{◌∙◌, sym, ap, refl}
use Rattle.host_io.specs.Places.{here_of}
use Rattle.host_io.proofs.NamedLemmas.{places_of-absent, places_of-first, here_of-place_with}
use Rattle.host_io.proofs.named.find.Goals as goal

pub returns-in_err-i : goal.returns-in_err-i
returns-in_err-i g c = rw (c.from_residual.ensures, places_of-absent c.args.name.now c.args.entries.now c.in_err-i.ensures.entry) refl

pub returns : goal.returns
returns g c =
    c.as_ref.ensures.value
    ∙ sym (here_of-place_with _)
    ∙ sym (ap here_of (places_of-first c.args.name.now c.args.entries.now c.in_ok-i.i c.index-entries-i.result c.in_ok-i.ensures.entry))
