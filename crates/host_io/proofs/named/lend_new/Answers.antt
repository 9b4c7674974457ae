use Rattle.std.proofs.Common.{List, [], ◌∷◌, ◌++◌, ◌∙◌, ap}
use Rattle.host_io.specs.declared.named.Named.{Named}
use Rattle.host_io.specs.Places.{with_place}
use Rattle.host_io.specs.Named.{place_with, places_of}
use Rattle.host_io.proofs.NamedLemmas.{places_of-push}
use Rattle.host_io.proofs.named.lend_new.Goals as goal

pub returns-in_ok-push-in-Err-clause-ok : goal.returns-in_ok-push-in-Err-clause-ok
returns-in_ok-push-in-Err-clause-ok g c =
    let x : Named g.row.T.Denot = record { name = c.in_ok-kept.kept; held = c.in-Err.held } in
    let pushed = c.in_ok-push-in-Err.ensures.items ∙ ap (λ (es : List (Named g.row.T.Denot)). es ++ x ∷ []) c.in-Err.ensures.err.1 in
    ap places_of pushed
    ∙ places_of-push c.args.name.now x c.args.entries.now.items c.in-Err.ensures.absent c.in_ok-kept.ensures
    ∙ ap (λ h. with_place (places_of c.args.entries.now.items) c.args.name.now (place_with h)) c.in-Err.ensures.err.0
