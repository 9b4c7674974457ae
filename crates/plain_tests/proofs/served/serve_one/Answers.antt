use Rattle.std.proofs.Common.{[], refl, sym, ◌∙◌}
use Rattle.volume_model.specs.Format.{block}
use Rattle.volume_model.specs.Sound.{tree_of}
use Rattle.volume_laws.proofs.VerdictLaws.{clean_is_sound}
use Rattle.plain_calls.proofs.ServedCalls.{stands_there}
use Rattle.plain_tests.proofs.served.serve_one.Goals as goal

-- a volume that was found clean is sound
pub serve-served-requires-clause-stands : goal.serve-served-requires-clause-stands
serve-served-requires-clause-stands c =
    let s = c.args.store in
    let now = c.check.new.store in
    let same = c.in_ok-check.ensures.unchanged in
    let tree = tree_of s.geometry (block s.image.items) in
    let sound = (clean_is_sound s.geometry (block s.image.items) c.in-Clean.counts).0 (sym c.in_ok-check.ensures.verdict ∙ c.in-Clean.is) in
    (tree, stands_there s.geometry now.geometry s.image.items now.image.items tree [] same.geometry same.content (record { sound = sound.0; stands = refl }))
