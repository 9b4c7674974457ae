-- A session in the middle: what was served of the lines so far, and how it goes on and ends.
use Rattle.std.proofs.Common.{◌≡◌, ◌<◌, ◌≤◌, ℕ, ◌+◌, ◌-◌, Bool, cond, List, [], ◌∷◌, ◌++◌, length, map, take, Option, Some, None, option_map, IsSome, refl, sym, ap, subst, ◌∙◌, arith, append_assoc}
use Rattle.std.specs.List.{AllByRecursion}
use Rattle.std.proofs.lemmas.Bool.{le-leb, lt-leb}
use Rattle.std.proofs.lemmas.List.{append-nil, length-append}
use Rattle.lufs_base.specs.Causes.{counted}
use Rattle.tree_types.specs.declared.call.Line.{Line}
use Rattle.tree_types.specs.declared.history.Entry.{Entry}
use Rattle.history_model.specs.Histories.{IsEntryOf, AreOfFirstLines}
use Rattle.history_model.specs.ReplyText.{reply_text_of}
use Rattle.host_io.specs.Outside.{SinkTold}
use Rattle.plain_session.specs.ServedLines.{served_line, turns_of, entered_in, told_in}
use Rattle.plain_session.specs.Sessions.{IsTold, IsOfMoment, told_text, told_texts, AreFirstTold, HasToldAll, HasLostReply}
use Rattle.plain_session.proofs.ScriptLines.{two_turns}

-- the sink holds these bytes more
abbrev pub holds_more : SinkTold → List ℕ → SinkTold
holds_more old bytes = record old { held = option_map (λ held. held ++ bytes) old.held }

-- So many turns are left for the rest of the lines. The others are entered, in order, and told; the sink holds their replies.
pub record UnderWay (lines : List Line) (turns calls : ℕ) (old now : SinkTold) (rest : List Line) (left : ℕ) (entries : List Entry) : Type 0 where
  pub of_lines : (more : List Entry) → AreOfFirstLines 0 (map served_line rest) more → AreOfFirstLines 0 (map served_line lines) (entries ++ more)
  pub entered : entered_in turns (map served_line lines) ≡ length entries + entered_in left (map served_line rest)
  pub told_lines : told_in turns (map served_line lines) ≡ length entries + told_in left (map served_line rest)
  pub told : AllByRecursion IsTold entries
  pub moments : AllByRecursion (IsOfMoment calls) entries
  pub held : now ≡ holds_more old (told_texts entries)

module _ {X : Type 0} (P : X → Type 0) where
  pub all_with : (xs : List X) (x : X) → AllByRecursion P xs → P x → AllByRecursion P (xs ++ x ∷ [])
  all_with [] x all here = (here, tt)
  all_with (y ∷ xs) x (first, all) here = (first, all_with xs x all here)

-- the texts with one entry more
texts_with : (entries : List Entry) (e : Entry) → told_texts (entries ++ e ∷ []) ≡ told_texts entries ++ told_text e e.told
texts_with [] e = append-nil (told_text e e.told)
texts_with (x ∷ entries) e = ap (λ (t : List ℕ). told_text x x.told ++ t) (texts_with entries e) ∙ sym (append_assoc (told_text x x.told) (told_texts entries) (told_text e e.told))

length_with : (entries : List Entry) (e : Entry) → length (entries ++ e ∷ []) ≡ length entries + 1
length_with entries e = length-append entries (e ∷ [])

more_bytes : (held : Option (List ℕ)) (texts bytes : List ℕ)
    → option_map (λ (h : List ℕ). h ++ bytes) (option_map (λ (h : List ℕ). h ++ texts) held) ≡ option_map (λ (h : List ℕ). h ++ (texts ++ bytes)) held
more_bytes None texts bytes = refl
more_bytes (Some h) texts bytes = ap (λ (t : List ℕ). Some t) (append_assoc h texts bytes)

first_told : (entries : List Entry) → AllByRecursion IsTold entries → AreFirstTold (length entries) entries
first_told [] all = refl
first_told (e ∷ entries) (here, all) = (here, first_told entries all)

first_told_but : (entries : List Entry) (e : Entry) → AllByRecursion IsTold entries → e.told ≡ None → AreFirstTold (length entries) (entries ++ e ∷ [])
first_told_but [] e all none = (none, refl)
first_told_but (x ∷ entries) e (here, all) none = (here, first_told_but entries e all none)

no_turns : (lines : List Line) → entered_in 0 lines ≡ 0
no_turns [] = refl
no_turns (line ∷ lines) = ap (λ (b : Bool). cond b (1 + entered_in (0 - turns_of line) lines) 0) (lt-leb (turns_of line) 1 (two_turns line))

no_bytes : (held : Option (List ℕ)) → option_map (λ (h : List ℕ). h ++ []) held ≡ held
no_bytes None = refl
no_bytes (Some h) = ap (λ (t : List ℕ). Some t) (append-nil h)

pub begins : (lines : List Line) (turns calls : ℕ) (old : SinkTold) → UnderWay lines turns calls old old lines turns []
begins lines turns calls old = record {
  of_lines = λ more are. are;
  entered = omega (arith);
  told_lines = omega (arith);
  told = tt;
  moments = tt;
  held = ap (λ (h : Option (List ℕ)). record old { held = h }) (sym (no_bytes old.held));
}

module _ (lines : List Line) (turns calls : ℕ) (old now : SinkTold) (line : Line) (rest : List Line) (left : ℕ) (entries : List Entry) (at : UnderWay lines turns calls old now (line ∷ rest) left entries) where
  -- how many are entered and told, where the turns reach for this line, and where they don't
  enters : turns_of (served_line line) ≤ left + 1 → entered_in left (map served_line (line ∷ rest)) ≡ 1 + entered_in (left - turns_of (served_line line)) (map served_line rest)
  enters enough = ap (λ (b : Bool). cond b (1 + entered_in (left - turns_of (served_line line)) (map served_line rest)) 0) (le-leb (turns_of (served_line line)) (left + 1) enough)

  enters_none : left + 1 < turns_of (served_line line) → entered_in left (map served_line (line ∷ rest)) ≡ 0
  enters_none few = ap (λ (b : Bool). cond b (1 + entered_in (left - turns_of (served_line line)) (map served_line rest)) 0) (lt-leb (turns_of (served_line line)) (left + 1) few)

  tells : turns_of (served_line line) ≤ left → told_in left (map served_line (line ∷ rest)) ≡ 1 + told_in (left - turns_of (served_line line)) (map served_line rest)
  tells enough = ap (λ (b : Bool). cond b (1 + told_in (left - turns_of (served_line line)) (map served_line rest)) 0) (le-leb (turns_of (served_line line)) left enough)

  tells_none : left < turns_of (served_line line) → told_in left (map served_line (line ∷ rest)) ≡ 0
  tells_none few = ap (λ (b : Bool). cond b (1 + told_in (left - turns_of (served_line line)) (map served_line rest)) 0) (lt-leb (turns_of (served_line line)) left few)

  -- no turn is left in which the line is entered
  pub stops : left + 1 < turns_of (served_line line) → HasToldAll (map served_line lines) turns old now entries
  stops few =
      let entered = enters_none few in
      let told = tells_none (omega (arith, few)) in
      let all : told_in turns (map served_line lines) ≡ length entries = omega (arith, at.told_lines, told) in
      record {
        entered = omega (arith, at.entered, entered);
        told = subst (λ (n : ℕ). AreFirstTold n entries) (sym all) (first_told entries at.told);
        held = at.held;
      }

  module _ (e : Entry) (is : IsEntryOf 0 (served_line line) e) where
    -- the lines up to this one are entered
    pub of_more : (more : List Entry) → AreOfFirstLines 0 (map served_line rest) more → AreOfFirstLines 0 (map served_line lines) (entries ++ e ∷ [] ++ more)
    of_more more are = subst (λ (es : List Entry). AreOfFirstLines 0 (map served_line lines) es) (sym (append_assoc entries (e ∷ []) more)) (at.of_lines (e ∷ more) (is, are))

    pub of_these : AreOfFirstLines 0 (map served_line lines) (entries ++ e ∷ [])
    of_these = at.of_lines (e ∷ []) (is, tt)

    -- it is entered in the last turn that is left
    pub untold : turns_of (served_line line) ≤ left + 1 → left < turns_of (served_line line) → e.told ≡ None → HasToldAll (map served_line lines) turns old now (entries ++ e ∷ [])
    untold enough few none =
        let no_turn : left - turns_of (served_line line) ≡ 0 = omega (arith, few) in
        let nothing : entered_in (left - turns_of (served_line line)) (map served_line rest) ≡ 0 = ap (λ (n : ℕ). entered_in n (map served_line rest)) no_turn ∙ no_turns (map served_line rest) in
        let told = tells_none few in
        let entered = enters enough in
        let all : told_in turns (map served_line lines) ≡ length entries = omega (arith, at.told_lines, told) in
        let longer = length_with entries e in
        let same : told_texts (entries ++ e ∷ []) ≡ told_texts entries = texts_with entries e ∙ ap (λ (o : Option ℕ). told_texts entries ++ told_text e o) none ∙ append-nil (told_texts entries) in
        record {
          entered = omega (arith, at.entered, entered, nothing, longer);
          told = subst (λ (n : ℕ). AreFirstTold n (entries ++ e ∷ [])) (sym all) (first_told_but entries e at.told none);
          held = at.held ∙ ap (λ (t : List ℕ). holds_more old t) (sym same);
        }

    -- its reply is lost
    pub loses : turns_of (served_line line) ≤ left → e.told ≡ None → (after : SinkTold) (n : ℕ)
        → after ≡ record { held = option_map (λ (held : List ℕ). held ++ take n (reply_text_of e.line e.reply)) now.held; faults = counted now.faults }
        → HasLostReply (map served_line lines) turns old after (entries ++ e ∷ [])
    loses enough none after n puts =
        let told = tells enough in
        let longer = length_with entries e in
        let same : told_texts (entries ++ e ∷ []) ≡ told_texts entries = texts_with entries e ∙ ap (λ (o : Option ℕ). told_texts entries ++ told_text e o) none ∙ append-nil (told_texts entries) in
        let lost : List ℕ = take n (reply_text_of e.line e.reply) in
        let bytes : List ℕ → SinkTold = λ texts. record { held = option_map (λ (held : List ℕ). held ++ (texts ++ lost)) old.held; faults = counted old.faults } in
        record {
          before = entries;
          last = e;
          whole = refl;
          told = at.told;
          lost = none;
          within = omega (arith, at.told_lines, told, longer);
          bytes = n;
          held = puts ∙ ap (λ (s : SinkTold). record { held = option_map (λ (held : List ℕ). held ++ lost) s.held; faults = counted s.faults }) at.held
              ∙ ap (λ (h : Option (List ℕ)). record { held = h; faults = counted old.faults }) (more_bytes old.held (told_texts entries) lost)
              ∙ ap bytes (sym same);
        }

    -- its reply is given, and the session goes on
    pub goes_on : turns_of (served_line line) ≤ left → (moment : ℕ) → e.told ≡ Some moment → IsOfMoment calls e → (after : SinkTold) → after ≡ holds_more now (reply_text_of e.line e.reply)
        → UnderWay lines turns calls old after rest (left - turns_of (served_line line)) (entries ++ e ∷ [])
    goes_on enough moment some of_moment after puts =
        let told = tells enough in
        let entered = enters (omega (arith, enough)) in
        let longer = length_with entries e in
        let is_told : IsTold e = subst (λ (o : Option ℕ). IsSome o) (sym some) refl in
        let text : told_text e e.told ≡ reply_text_of e.line e.reply = ap (λ (o : Option ℕ). told_text e o) some in
        record {
          of_lines = of_more;
          entered = omega (arith, at.entered, entered, longer);
          told_lines = omega (arith, at.told_lines, told, longer);
          told = all_with IsTold entries e at.told is_told;
          moments = all_with (IsOfMoment calls) entries e at.moments of_moment;
          held = puts ∙ ap (λ (s : SinkTold). holds_more s (reply_text_of e.line e.reply)) at.held
              ∙ ap (λ (h : Option (List ℕ)). record old { held = h }) (more_bytes old.held (told_texts entries) (reply_text_of e.line e.reply))
              ∙ ap (λ (t : List ℕ). holds_more old t) (ap (λ (t : List ℕ). told_texts entries ++ t) (sym text) ∙ sym (texts_with entries e));
        }

-- all lines are told
pub ends : (lines : List Line) (turns calls : ℕ) (old now : SinkTold) (left : ℕ) (entries : List Entry) → UnderWay lines turns calls old now [] left entries
    → HasToldAll (map served_line lines) turns old now entries
ends lines turns calls old now left entries at =
    let all : told_in turns (map served_line lines) ≡ length entries = omega (arith, at.told_lines) in
    record {
      entered = omega (arith, at.entered);
      told = subst (λ (n : ℕ). AreFirstTold n entries) (sym all) (first_told entries at.told);
      held = at.held;
    }
