-- A line that is entered: how the history goes on with it, and what a session has served that ends there.
use Rattle.std.proofs.Common.{◌≡◌, ◌<◌, ◌≤◌, ◌⊎◌, inl, ℕ, ◌+◌, ◌-◌, false, true, List, [], ◌∷◌, ◌++◌, length, map, Option, Some, None, Result, Ok, Err, OnOk, OnErr, is_err, refl, ap, subst, ◌∙◌, arith}
use Rattle.std.proofs.lemmas.List.{append-nil, length-append}
use Rattle.std.specs.List.{AllByRecursion}
use Rattle.lufs_base.specs.declared.geometry.Geometry.{Geometry}
use Rattle.tree_types.specs.declared.call.Call.{Call}
use Rattle.tree_types.specs.declared.call.Line.{Line}
use Rattle.tree_types.specs.declared.history.Entry.{Entry}
use Rattle.volume_model.specs.Format.{Image, block}
use Rattle.volume_model.specs.Sound.{Tree, StandsFor}
use Rattle.history_model.specs.Histories.{after_call, replayed_on, AreOfFirstLines, IsRightReply, IsEntryOf}
use Rattle.host_io.specs.Outside.{SinkTold}
use Rattle.plain_session.specs.ServedLines.{served_line}
use Rattle.plain_session.specs.Sessions.{IsOfMoment, IsAnswered, HasToldAll, HasLostReply, HasServed}
use Rattle.plain_session.proofs.ScriptLines.{IsOfScript, may_serve}
use Rattle.plain_session.proofs.UnderWay.{UnderWay, all_with, of_these}
use Rattle.plain_session.proofs.Histories.{IsPlain, Goes, plain_entry, history_goes_on}

-- a line that has few turns left isn't entered
pub few_turns : (left turns needed : ℕ) → left < turns - 1 → turns ≡ needed → left + 1 < needed
few_turns left turns needed few same = omega (arith, few, same)

pub enough_turns : (left turns needed : ℕ) → turns - 1 ≤ left → turns ≡ needed → needed ≤ left + 1
enough_turns left turns needed enough same = omega (arith, enough, same)

-- the put failed, or it didn't
pub at_error : {T E P : Type 0} (r : Result T E) → is_err r ≡ true → OnErr r P → P
at_error (Ok x) failed given = absurd (cc)
at_error (Err e) failed given = given

pub at_no_error : {T E P : Type 0} (r : Result T E) → is_err r ≡ false → OnOk r P → P
at_no_error (Ok x) went given = given
at_no_error (Err e) went given = absurd (cc)

-- when a reply was given, or that it wasn't, changes nothing else of its entry
abbrev pub with_told : Entry → Option ℕ → Entry
with_told e told = record e { told = told }

right_with : (g : Geometry) (tree : Tree) (e : Entry) (told : Option ℕ) (c : Option Call) → IsRightReply g tree e c → IsRightReply g tree (with_told e told) c
right_with g tree e told None right = record { reply = right.reply; made = right.made }
right_with g tree e told (Some c) right = record { call = right.call; reply = right.reply; made = right.made; usable = right.usable }

answered_with : (g : Geometry) (tree : Tree) (e : Entry) (told : Option ℕ) (c : Option Call) → IsAnswered g tree e c → IsAnswered g tree (with_told e told) c
answered_with g tree e told None answered = tt
answered_with g tree e told (Some c) answered = answered

after_with : (g : Geometry) (moment : ℕ) (tree : Tree) (e : Entry) (told : Option ℕ) (c : Option Call) → after_call g moment tree e c ≡ after_call g moment tree (with_told e told) c
after_with g moment tree e told None = refl
after_with g moment tree e told (Some c) = refl

pub of_line_with : (line : Line) (e : Entry) (told : Option ℕ) → IsEntryOf 0 line e → IsEntryOf 0 line (with_told e told)
of_line_with line e told is = record { of_stream = is.of_stream; number = is.number; call = is.call; sync = is.sync }

pub of_moment_with : (calls : ℕ) (e : Entry) → IsOfMoment calls e → IsOfMoment calls (with_told e (Some calls))
of_moment_with calls e is = record { of_stream = is.of_stream; start = is.start; end = is.end; told = refl }

-- the entry of a line of a script makes nobody another caller
pub plain_line : (line : Line) (e : Entry) → IsOfScript line → IsEntryOf 0 (served_line line) e → IsPlain e
plain_line line e of is = plain_entry (served_line line) e (may_serve line of.words) is

-- What is known of an entry that was served over one image, which led to another.
pub record IsEnteredOver (g : Geometry) (moment calls : ℕ) (old new : Image) (line : Line) (e : Entry) : Type 0 where
  pub of_line : IsEntryOf 0 (served_line line) e
  pub cred : e.cred ≡ line.cred
  pub sync : e.sync ≡ false
  pub of_moment : IsOfMoment calls e
  pub untold : e.told ≡ None
  pub right : (tree : Tree) → StandsFor g (block old) tree [] → IsRightReply g tree e e.call
  pub answered : (tree : Tree) → StandsFor g (block old) tree [] → IsAnswered g tree e e.call
  pub stands : (tree : Tree) → StandsFor g (block old) tree [] → StandsFor g (block new) (after_call g moment tree e e.call) []

-- the same, of the line as it is served and at an equal geometry
pub entered_over : (g here : Geometry) (moment calls : ℕ) (old new : Image) (line served : Line) (e : Entry) → here ≡ g → served ≡ served_line line
    → IsEntryOf 0 served e → e.cred ≡ served.cred → e.sync ≡ false → IsOfMoment calls e → e.told ≡ None
    → ((tree : Tree) → StandsFor here (block old) tree [] → IsRightReply here tree e e.call)
    → ((tree : Tree) → StandsFor here (block old) tree [] → IsAnswered here tree e e.call)
    → ((tree : Tree) → StandsFor here (block old) tree [] → StandsFor here (block new) (after_call here moment tree e e.call) [])
    → IsEnteredOver g moment calls old new line e
entered_over g here moment calls old new line served e same is_served of_line cred sync of_moment untold right answered stands = record {
  of_line = subst (λ (l : Line). IsEntryOf 0 l e) is_served of_line;
  cred = cred ∙ ap (λ (l : Line). l.cred) is_served;
  sync = sync;
  of_moment = of_moment;
  untold = untold;
  right = subst (λ (h : Geometry). (tree : Tree) → StandsFor h (block old) tree [] → IsRightReply h tree e e.call) same right;
  answered = subst (λ (h : Geometry). (tree : Tree) → StandsFor h (block old) tree [] → IsAnswered h tree e e.call) same answered;
  stands = subst (λ (h : Geometry). (tree : Tree) → StandsFor h (block old) tree [] → StandsFor h (block new) (after_call h moment tree e e.call) []) same stands;
}

-- the entries that were kept have their places, and so have those to come
pub places_kept : (entries kept : List Entry) (e : Entry) (line : Line) (before rest : List Line) (places more : ℕ)
    → kept ≡ entries ++ e ∷ [] → before ≡ line ∷ rest → length entries + length before ≤ places → places ≤ more → length kept + length rest ≤ more
places_kept entries kept e line before rest places more keeps steps fit grown =
    let longer = ap length keeps ∙ length-append entries (e ∷ []) in
    let shorter = ap length steps in
    omega (arith, longer, shorter, fit, grown)

module _ (g : Geometry) (moment calls : ℕ) (opening : Tree) (entries : List Entry) (old new : Image) (line : Line) (e : Entry) (at : Goes g moment opening entries old) (plain : AllByRecursion IsPlain entries) (of : IsOfScript line) (is : IsEnteredOver g moment calls old new line e) where
  -- the history goes on with it
  pub goes_on_untold : Goes g moment opening (entries ++ e ∷ []) new
  goes_on_untold = history_goes_on g moment opening entries old new e at plain (is.cred ∙ of.cred) is.sync
      (is.right (replayed_on g moment opening entries) at.stands) (is.answered (replayed_on g moment opening entries) at.stands) (is.stands (replayed_on g moment opening entries) at.stands)

  pub goes_on_told : (told : Option ℕ) → Goes g moment opening (entries ++ with_told e told ∷ []) new
  goes_on_told told = history_goes_on g moment opening entries old new (with_told e told) at plain (is.cred ∙ of.cred) is.sync
      (right_with g (replayed_on g moment opening entries) e told e.call (is.right (replayed_on g moment opening entries) at.stands))
      (answered_with g (replayed_on g moment opening entries) e told e.call (is.answered (replayed_on g moment opening entries) at.stands))
      (subst (λ (t : Tree). StandsFor g (block new) t []) (after_with g moment (replayed_on g moment opening entries) e told e.call) (is.stands (replayed_on g moment opening entries) at.stands))

-- the session ends before its next line
pub served_so_far : (g : Geometry) (moment : ℕ) (opening : Tree) (lines : List Line) (turns calls : ℕ) (old now : SinkTold) (rest : List Line) (left : ℕ) (entries : List Entry) (image : Image)
    → UnderWay lines turns calls old now rest left entries → Goes g moment opening entries image → HasToldAll (map served_line lines) turns old now entries
    → HasServed g moment opening lines turns calls old now entries image
served_so_far g moment opening lines turns calls old now rest left entries image at goes told = record {
  legal = goes.legal;
  answered = goes.answered;
  of_lines = subst (λ (es : List Entry). AreOfFirstLines 0 (map served_line lines) es) (append-nil entries) (at.of_lines [] tt);
  stands = goes.stands;
  moments = at.moments;
  sink = inl told;
}

-- it ends with this line
pub served_with : (g : Geometry) (moment : ℕ) (opening : Tree) (lines : List Line) (turns calls : ℕ) (old now after : SinkTold) (line : Line) (rest : List Line) (left : ℕ) (entries : List Entry) (e : Entry) (image : Image)
    → UnderWay lines turns calls old now (line ∷ rest) left entries → IsEntryOf 0 (served_line line) e → IsOfMoment calls e → Goes g moment opening (entries ++ e ∷ []) image
    → HasToldAll (map served_line lines) turns old after (entries ++ e ∷ []) ⊎ HasLostReply (map served_line lines) turns old after (entries ++ e ∷ [])
    → HasServed g moment opening lines turns calls old after (entries ++ e ∷ []) image
served_with g moment opening lines turns calls old now after line rest left entries e image at is of_moment goes sink = record {
  legal = goes.legal;
  answered = goes.answered;
  of_lines = of_these lines turns calls old now line rest left entries at e is;
  stands = goes.stands;
  moments = all_with (IsOfMoment calls) entries e at.moments of_moment;
  sink = sink;
}
