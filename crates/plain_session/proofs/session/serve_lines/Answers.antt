-- The session goes on from line to line, or ends.
use Rattle.std.proofs.Common.{◌≡◌, ◌<◌, ◌≤◌, ℕ, ◌-◌, List, [], ◌∷◌, ◌++◌, map, length, Some, inl, inr, refl, sym, ap, subst, ◌∙◌, arith}
use Rattle.std.specs.List.{AllByRecursion}
use Rattle.std.specs.Vec.Iter.{into_iter_items}
use Rattle.lufs_base.specs.declared.geometry.Geometry.{Geometry}
use Rattle.tree_types.specs.declared.call.Line.{Line}
use Rattle.tree_types.specs.declared.history.Entry.{Entry}
use Rattle.volume_model.specs.Format.{block}
use Rattle.volume_model.specs.Sound.{StandsFor}
use Rattle.history_model.specs.Histories.{replayed_on}
use Rattle.call_ops.proofs.LineWords.{lines_right}
use Rattle.plain_session.specs.ServedLines.{served_line, turns_of}
use Rattle.plain_session.specs.Sessions.{HasServed, HasToldAll, HasLostReply}
use Rattle.plain_session.proofs.ScriptLines.{IsOfScript, script_lines}
use Rattle.plain_session.proofs.UnderWay.{UnderWay, begins, stops, untold, loses, goes_on, ends, all_with}
use Rattle.plain_session.proofs.Histories.{IsPlain, Goes, history_begins}
use Rattle.plain_session.proofs.EnteredLines.{few_turns, enough_turns, at_error, at_no_error, with_told, of_line_with, of_moment_with, plain_line, entered_over, places_kept, goes_on_untold, goes_on_told, served_so_far, served_with}
use Rattle.plain_session.proofs.session.serve_lines.Goals as goal

nothing_left : (lines : List Line) → length lines ≡ 0 → lines ≡ []
nothing_left [] none = refl
nothing_left (line ∷ lines) none = absurd (omega arith)

pub lines-init : goal.lines-init
lines-init g c =
    let rest = sym c.into_iter-line-iterator.ensures.into_iter_gives.0 in
    let empty = sym c.in_ok-entries.ensures.items in
    let told = g.K.Sink.told c.args.sink.now in
    let all = ap length c.into_iter-line-iterator.ensures.into_iter_gives.0 in
    let many = c.args.lines.ok.0 in
    record {
      under_way = subst (λ (es : List Entry). UnderWay c.args.lines.items c.args.turns c.args.calls told told (into_iter_items c.into_iter-line-iterator.result) c.args.turns es) empty
          (subst (λ (ls : List Line). UnderWay c.args.lines.items c.args.turns c.args.calls told told ls c.args.turns []) rest (begins c.args.lines.items c.args.turns c.args.calls told));
      of_script = subst (AllByRecursion IsOfScript) (sym c.requires.lines.1 ∙ rest) (script_lines c.requires.lines.0 (lines_right c.requires.lines.0));
      plain = subst (AllByRecursion IsPlain) empty tt;
      goes = λ opening stands. subst (λ (es : List Entry). Goes c.args.store.geometry c.args.moment opening es c.args.store.image.items) empty (history_begins c.args.store.geometry c.args.moment opening c.args.store.image.items stands);
      geometry = refl;
      places = let none = ap length c.in_ok-entries.ensures.items in let taken = c.in_ok-entries.ensures.capacity in let asked = c.len.ensures in omega (arith, none, taken, asked, all, many);
      left = omega (arith, all, many, c.into_iter-line-iterator.ensures.into_iter_gives.1);
    }

pub returns-then-left-turns-clause-deaf : goal.returns-then-left-turns-clause-deaf
returns-then-left-turns-clause-deaf g c =
    let at = subst (λ (ls : List Line). UnderWay c.args.lines.items c.args.turns c.args.calls (g.K.Sink.told c.args.sink.now) (g.K.Sink.told c.lines.sink) ls c.lines.left c.lines.entries.items) c.in-Some.ensures.steps.0 c.lines.invariant.under_way in
    stops _ _ _ _ _ c.in-Some.line _ c.lines.left _ at (few_turns _ _ _ c.if-left-turns.true (c.turns_of-turns.ensures ∙ ap turns_of c.served_line-line.ensures))

pub returns-then-left-turns-clause-served : goal.returns-then-left-turns-clause-served
returns-then-left-turns-clause-served g c = λ opening stands.
    served_so_far _ _ opening _ _ _ _ _ _ _ _ _ c.lines.invariant.under_way (c.lines.invariant.goes opening stands) (returns-then-left-turns-clause-deaf g c)

pub enter-entered-requires-clause-stands : goal.enter-entered-requires-clause-stands
enter-entered-requires-clause-stands g c =
    let goes = c.lines.invariant.goes c.requires.stands.0 c.requires.stands.1 in
    (_, subst (λ (h : Geometry). StandsFor h (block c.lines.store.image.items) (replayed_on c.args.store.geometry c.args.moment c.requires.stands.0 c.lines.entries.items) []) (sym c.lines.invariant.geometry) goes.stands)

pub returns-then-left-turns-2-clause-deaf : goal.returns-then-left-turns-2-clause-deaf
returns-then-left-turns-2-clause-deaf g c =
    let line = c.in-Some.line in
    let e = c.enter-entered.result.entry in
    let at = subst (λ (ls : List Line). UnderWay c.args.lines.items c.args.turns c.args.calls (g.K.Sink.told c.args.sink.now) (g.K.Sink.told c.lines.sink) ls c.lines.left c.lines.entries.items) c.in-Some.ensures.steps.0 c.lines.invariant.under_way in
    let needed : c.turns_of-turns.result ≡ turns_of (served_line line) = c.turns_of-turns.ensures ∙ ap turns_of c.served_line-line.ensures in
    let over = entered_over c.args.store.geometry c.lines.store.geometry c.args.moment c.args.calls c.lines.store.image.items c.enter-entered.result.store.image.items line c.served_line-line.result e c.lines.invariant.geometry c.served_line-line.ensures
    c.enter-entered.ensures.of_line c.enter-entered.ensures.cred c.enter-entered.ensures.sync c.enter-entered.ensures.of_moment c.enter-entered.ensures.untold c.enter-entered.ensures.right c.enter-entered.ensures.answered c.enter-entered.ensures.stands in
    subst (λ (es : List Entry). HasToldAll (map served_line c.args.lines.items) c.args.turns (g.K.Sink.told c.args.sink.now) (g.K.Sink.told c.lines.sink) es) (sym c.keep.ensures.entries)
    (untold _ _ _ _ _ line _ c.lines.left c.lines.entries.items at e over.of_line (enough_turns _ _ _ c.if-left-turns.false needed) (subst (λ (n : ℕ). c.lines.left < n) needed c.if-left-turns-2.true) over.untold)

pub returns-then-left-turns-2-clause-served : goal.returns-then-left-turns-2-clause-served
returns-then-left-turns-2-clause-served g c = λ opening stands.
    let line = c.in-Some.line in
    let e = c.enter-entered.result.entry in
    let at = subst (λ (ls : List Line). UnderWay c.args.lines.items c.args.turns c.args.calls (g.K.Sink.told c.args.sink.now) (g.K.Sink.told c.lines.sink) ls c.lines.left c.lines.entries.items) c.in-Some.ensures.steps.0 c.lines.invariant.under_way in
    let needed : c.turns_of-turns.result ≡ turns_of (served_line line) = c.turns_of-turns.ensures ∙ ap turns_of c.served_line-line.ensures in
    let over = entered_over c.args.store.geometry c.lines.store.geometry c.args.moment c.args.calls c.lines.store.image.items c.enter-entered.result.store.image.items line c.served_line-line.result e c.lines.invariant.geometry c.served_line-line.ensures
    c.enter-entered.ensures.of_line c.enter-entered.ensures.cred c.enter-entered.ensures.sync c.enter-entered.ensures.of_moment c.enter-entered.ensures.untold c.enter-entered.ensures.right c.enter-entered.ensures.answered c.enter-entered.ensures.stands in
    let of = subst (AllByRecursion IsOfScript) c.in-Some.ensures.steps.0 c.lines.invariant.of_script in
    subst (λ (es : List Entry). HasServed c.args.store.geometry c.args.moment opening c.args.lines.items c.args.turns c.args.calls (g.K.Sink.told c.args.sink.now) (g.K.Sink.told c.lines.sink) es c.enter-entered.result.store.image.items) (sym c.keep.ensures.entries)
    (served_with _ _ opening _ _ _ _ _ _ line _ _ _ e _ at over.of_line over.of_moment
    (goes_on_untold _ _ _ opening _ _ _ line e (c.lines.invariant.goes opening stands) c.lines.invariant.plain of.0 over)
    (inl (subst (λ (es : List Entry). HasToldAll (map served_line c.args.lines.items) c.args.turns (g.K.Sink.told c.args.sink.now) (g.K.Sink.told c.lines.sink) es) c.keep.ensures.entries (returns-then-left-turns-2-clause-deaf g c))))

pub returns-then-is_err-clause-deaf : goal.returns-then-is_err-clause-deaf
returns-then-is_err-clause-deaf g c =
    let line = c.in-Some.line in
    let e = c.enter-entered.result.entry in
    let at = subst (λ (ls : List Line). UnderWay c.args.lines.items c.args.turns c.args.calls (g.K.Sink.told c.args.sink.now) (g.K.Sink.told c.lines.sink) ls c.lines.left c.lines.entries.items) c.in-Some.ensures.steps.0 c.lines.invariant.under_way in
    let needed : c.turns_of-turns.result ≡ turns_of (served_line line) = c.turns_of-turns.ensures ∙ ap turns_of c.served_line-line.ensures in
    let over = entered_over c.args.store.geometry c.lines.store.geometry c.args.moment c.args.calls c.lines.store.image.items c.enter-entered.result.store.image.items line c.served_line-line.result e c.lines.invariant.geometry c.served_line-line.ensures
    c.enter-entered.ensures.of_line c.enter-entered.ensures.cred c.enter-entered.ensures.sync c.enter-entered.ensures.of_moment c.enter-entered.ensures.untold c.enter-entered.ensures.right c.enter-entered.ensures.answered c.enter-entered.ensures.stands in
    let puts = at_error c.put_reply.result (sym c.is_err.ensures.value ∙ c.if-is_err.true) c.put_reply.ensures.err in
    subst (λ (es : List Entry). HasLostReply (map served_line c.args.lines.items) c.args.turns (g.K.Sink.told c.args.sink.now) (g.K.Sink.told c.put_reply.new.sink) es) (sym c.keep-then-is_err.ensures.entries)
    (loses _ _ _ _ _ line _ c.lines.left c.lines.entries.items at e over.of_line (subst (λ (n : ℕ). n ≤ c.lines.left) needed c.if-left-turns-2.false) over.untold (g.K.Sink.told c.put_reply.new.sink) puts.0 puts.1)

pub returns-then-is_err-clause-served : goal.returns-then-is_err-clause-served
returns-then-is_err-clause-served g c = λ opening stands.
    let line = c.in-Some.line in
    let e = c.enter-entered.result.entry in
    let at = subst (λ (ls : List Line). UnderWay c.args.lines.items c.args.turns c.args.calls (g.K.Sink.told c.args.sink.now) (g.K.Sink.told c.lines.sink) ls c.lines.left c.lines.entries.items) c.in-Some.ensures.steps.0 c.lines.invariant.under_way in
    let needed : c.turns_of-turns.result ≡ turns_of (served_line line) = c.turns_of-turns.ensures ∙ ap turns_of c.served_line-line.ensures in
    let over = entered_over c.args.store.geometry c.lines.store.geometry c.args.moment c.args.calls c.lines.store.image.items c.enter-entered.result.store.image.items line c.served_line-line.result e c.lines.invariant.geometry c.served_line-line.ensures
    c.enter-entered.ensures.of_line c.enter-entered.ensures.cred c.enter-entered.ensures.sync c.enter-entered.ensures.of_moment c.enter-entered.ensures.untold c.enter-entered.ensures.right c.enter-entered.ensures.answered c.enter-entered.ensures.stands in
    let of = subst (AllByRecursion IsOfScript) c.in-Some.ensures.steps.0 c.lines.invariant.of_script in
    subst (λ (es : List Entry). HasServed c.args.store.geometry c.args.moment opening c.args.lines.items c.args.turns c.args.calls (g.K.Sink.told c.args.sink.now) (g.K.Sink.told c.put_reply.new.sink) es c.enter-entered.result.store.image.items) (sym c.keep-then-is_err.ensures.entries)
    (served_with _ _ opening _ _ _ _ _ _ line _ _ _ e _ at over.of_line over.of_moment
    (goes_on_untold _ _ _ opening _ _ _ line e (c.lines.invariant.goes opening stands) c.lines.invariant.plain of.0 over)
    (inr (subst (λ (es : List Entry). HasLostReply (map served_line c.args.lines.items) c.args.turns (g.K.Sink.told c.args.sink.now) (g.K.Sink.told c.put_reply.new.sink) es) c.keep-then-is_err.ensures.entries (returns-then-is_err-clause-deaf g c))))

pub lines-preserved : goal.lines-preserved
lines-preserved g c =
    let line = c.in-Some.line in
    let e = c.enter-entered.result.entry in
    let at = subst (λ (ls : List Line). UnderWay c.args.lines.items c.args.turns c.args.calls (g.K.Sink.told c.args.sink.now) (g.K.Sink.told c.lines.sink) ls c.lines.left c.lines.entries.items) c.in-Some.ensures.steps.0 c.lines.invariant.under_way in
    let needed : c.turns_of-turns.result ≡ turns_of (served_line line) = c.turns_of-turns.ensures ∙ ap turns_of c.served_line-line.ensures in
    let over = entered_over c.args.store.geometry c.lines.store.geometry c.args.moment c.args.calls c.lines.store.image.items c.enter-entered.result.store.image.items line c.served_line-line.result e c.lines.invariant.geometry c.served_line-line.ensures
    c.enter-entered.ensures.of_line c.enter-entered.ensures.cred c.enter-entered.ensures.sync c.enter-entered.ensures.of_moment c.enter-entered.ensures.untold c.enter-entered.ensures.right c.enter-entered.ensures.answered c.enter-entered.ensures.stands in
    let of = subst (AllByRecursion IsOfScript) c.in-Some.ensures.steps.0 c.lines.invariant.of_script in
    let rest : List Line = into_iter_items c.next.new.self in
    let told : Entry = with_told e (Some c.args.calls) in
    let kept : c.keep-in-lines.new.entries.items ≡ c.lines.entries.items ++ told ∷ [] = c.keep-in-lines.ensures.entries in
    let is = of_line_with (served_line line) e (Some c.args.calls) over.of_line in
    let puts = at_no_error c.put_reply.result (sym c.is_err.ensures.value ∙ c.if-is_err.false) c.put_reply.ensures.ok in
    let more = goes_on _ _ _ _ _ line rest c.lines.left c.lines.entries.items at told is (subst (λ (n : ℕ). n ≤ c.lines.left) needed c.if-left-turns-2.false) c.args.calls refl (of_moment_with c.args.calls e over.of_moment) (g.K.Sink.told c.put_reply.new.sink) puts in
    let under : List Entry → ℕ → Type 0 = λ es left. UnderWay c.args.lines.items c.args.turns c.args.calls (g.K.Sink.told c.args.sink.now) (g.K.Sink.told c.put_reply.new.sink) rest left es in
    record {
      under_way = subst (λ (es : List Entry). under es (c.lines.left - c.turns_of-turns.result)) (sym kept) (subst (λ (n : ℕ). under (c.lines.entries.items ++ told ∷ []) (c.lines.left - n)) (sym needed) more);
      of_script = of.1;
      plain = subst (AllByRecursion IsPlain) (sym kept) (all_with IsPlain c.lines.entries.items told c.lines.invariant.plain (plain_line line told of.0 is));
      goes = λ opening stands. subst (λ (es : List Entry). Goes c.args.store.geometry c.args.moment opening es c.enter-entered.result.store.image.items) (sym kept)
          (goes_on_told _ _ _ opening _ _ _ line e (c.lines.invariant.goes opening stands) c.lines.invariant.plain of.0 over (Some c.args.calls));
      geometry = c.enter-entered.ensures.geometry ∙ c.lines.invariant.geometry;
      places = places_kept c.lines.entries.items _ told line _ rest _ _ kept c.in-Some.ensures.steps.0 c.lines.invariant.places c.keep-in-lines.ensures.room;
      left = let was = c.lines.invariant.left in let gone = c.in-Some.ensures.steps.1 in let short = ap length c.in-Some.ensures.steps.0 in omega arith;
    }

pub returns-clause-deaf : goal.returns-clause-deaf
returns-clause-deaf g c =
    let none = c.in-None.ensures.steps in
    let empty : into_iter_items c.lines.line-iterator ≡ [] = nothing_left _ (sym c.lines.invariant.left ∙ none.0) in
    ends _ _ _ _ _ c.lines.left _ (subst (λ (ls : List Line). UnderWay c.args.lines.items c.args.turns c.args.calls (g.K.Sink.told c.args.sink.now) (g.K.Sink.told c.lines.sink) ls c.lines.left c.lines.entries.items) empty c.lines.invariant.under_way)

pub returns-clause-served : goal.returns-clause-served
returns-clause-served g c = λ opening stands.
    served_so_far _ _ opening _ _ _ _ _ _ _ _ _ c.lines.invariant.under_way (c.lines.invariant.goes opening stands) (returns-clause-deaf g c)
