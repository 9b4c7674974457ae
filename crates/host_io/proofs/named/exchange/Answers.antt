use Rattle.std.proofs.Common.{◌∙◌, ap, sym}
use Rattle.host_io.specs.declared.named.Named.{Named}
use Rattle.host_io.specs.Places.{with_place}
use Rattle.host_io.specs.Named.{IsFirst, IsAbsent, place_with, places_of}
use Rattle.host_io.proofs.NamedLemmas.{places_of-absent, places_of-read, places_of-set}
use Rattle.host_io.proofs.named.exchange.Goals as goal

pub returns-in-Some-clause-old : goal.returns-in-Some-clause-old
returns-in-Some-clause-old g c =
    let first : IsFirst c.args.name.now c.args.entries.now.items c.in-Some.i = rw (← c.deref.ensures.value) c.in-Some.ensures.entry in
    places_of-read c.args.name.now _ c.in-Some.i c.index_mut.result.now c.index_mut.ensures.value first ∙ ap place_with (sym c.replace.ensures.value)

pub returns-in-Some-clause-new : goal.returns-in-Some-clause-new
returns-in-Some-clause-new g c =
    let first : IsFirst c.args.name.now c.args.entries.now.items c.in-Some.i = rw (← c.deref.ensures.value) c.in-Some.ensures.entry in
    let x : Named g.row.T.Denot = record { name = c.index_mut.result.now.name; held = c.replace.new.dest } in
    let same = ap (λ (e : Named g.row.T.Denot). e.name) c.index_mut.ensures.value in
    places_of-set c.args.name.now x _ c.in-Some.i c.index_mut.result.now first same
    ∙ ap (λ h. with_place (places_of c.args.entries.now.items) c.args.name.now (place_with h)) c.replace.ensures.after

pub returns-in-None-clause-none : goal.returns-in-None-clause-none
returns-in-None-clause-none g c =
    let absent : IsAbsent c.args.name.now c.args.entries.now.items = rw (← c.deref.ensures.value) c.in-None.ensures.entry in
    places_of-absent c.args.name.now _ absent
