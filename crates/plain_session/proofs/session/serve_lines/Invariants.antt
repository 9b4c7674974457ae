-- The lines so far are entered and told, and their history is legal.
use Rattle.std.proofs.Common.{◌≡◌, ◌≤◌, ◌+◌, [], length, vec_capacity}
use Rattle.std.specs.List.{AllByRecursion}
use Rattle.std.specs.Vec.Iter.{into_iter_items, into_iter_len}
use Rattle.volume_model.specs.Format.{block}
use Rattle.volume_model.specs.Sound.{Tree, StandsFor}
use Rattle.plain_session.proofs.UnderWay.{UnderWay}
use Rattle.plain_session.proofs.Histories.{IsPlain, Goes}
use Rattle.plain_session.proofs.ScriptLines.{IsOfScript}
use Rattle.plain_session.proofs.session.serve_lines.Given as goal

abbrev pub invariant-lines : goal.invariant-lines
invariant-lines g l = record {
  under_way : UnderWay l.fn.lines.items l.fn.turns l.fn.calls (g.K.Sink.told l.fn.sink) (g.K.Sink.told l.sink) (into_iter_items l.line-iterator) l.left l.entries.items;
  of_script : AllByRecursion IsOfScript (into_iter_items l.line-iterator);
  plain : AllByRecursion IsPlain l.entries.items;
  goes : (opening : Tree) → StandsFor l.fn.store.geometry (block l.fn.store.image.items) opening [] → Goes l.fn.store.geometry l.fn.moment opening l.entries.items l.store.image.items;
  geometry : l.store.geometry ≡ l.fn.store.geometry;
  places : length l.entries.items + length (into_iter_items l.line-iterator) ≤ vec_capacity l.entries;
  left : into_iter_len l.line-iterator ≡ length (into_iter_items l.line-iterator);
}
