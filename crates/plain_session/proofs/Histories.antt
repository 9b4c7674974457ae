-- The history of a session in the middle, and how it goes on.
use Rattle.std.proofs.Common.{◌≡◌, ℕ, false, List, [], ◌∷◌, ◌++◌, Option, Some, None, unwrap_or, IfSome, IsTrue, refl, sym, ap, subst, ◌∙◌, append_assoc}
use Rattle.std.proofs.lemmas.Bool.{true≢false}
use Rattle.std.proofs.lemmas.List.{append-nil}
use Rattle.std.specs.List.{AllByRecursion, filter_map, cons_option, last_or}
use Rattle.lufs_base.specs.declared.geometry.Geometry.{Geometry}
use Rattle.tree_types.specs.declared.credentials.Cred.{Cred}
use Rattle.tree_types.specs.declared.call.Call.{Call}
use Rattle.tree_types.specs.declared.call.Call.TheVariants as call
use Rattle.tree_types.specs.declared.call.Line.{Line}
use Rattle.tree_types.specs.declared.history.Entry.{Entry}
use Rattle.volume_model.specs.Format.{Image, block}
use Rattle.volume_model.specs.Sound.{Tree, StandsFor}
use Rattle.history_model.specs.Lines.{first_caller}
use Rattle.history_model.specs.Histories.{becomes, caller_of, after_call, replayed_on, IsRightReply, EachAfter, Legal, IsEntryOf}
use Rattle.history_rules.proofs.HistoryLaws.{legal-last, replayed-last}
use Rattle.call_ops.specs.Served.{is_served}
use Rattle.plain_session.specs.ServedLines.{MayServe}
use Rattle.plain_session.specs.Sessions.{IsAnswered, AreAnswered}

-- the entry makes nobody another caller
abbrev pub IsPlain : Entry → Type 0
IsPlain e = (stream : ℕ) → becomes stream e e.call ≡ None

-- The entries so far are legal and answered, and the image stands for the tree after them.
pub record Goes (g : Geometry) (moment : ℕ) (opening : Tree) (entries : List Entry) (image : Image) : Type 0 where
  pub legal : Legal g moment opening entries
  pub answered : AreAnswered g moment opening entries
  pub stands : StandsFor g (block image) (replayed_on g moment opening entries) []

served_is_plain : (stream : ℕ) (e : Entry) (c : Call) → IsTrue (is_served c) → becomes stream e (Some c) ≡ None
served_is_plain stream e (call.Create path mode) served = refl
served_is_plain stream e (call.Mkdir path mode) served = refl
served_is_plain stream e (call.Link old new) served = refl
served_is_plain stream e (call.Symlink text path) served = refl
served_is_plain stream e (call.Rename old new) served = refl
served_is_plain stream e (call.Remove path) served = refl
served_is_plain stream e (call.Rmdir path) served = refl
served_is_plain stream e (call.Chmod path mode) served = refl
served_is_plain stream e (call.Chown path uid gid) served = refl
served_is_plain stream e (call.Write path offset bytes) served = refl
served_is_plain stream e (call.Trunc path size) served = refl
served_is_plain stream e (call.Fsync path) served = refl
served_is_plain stream e (call.Read path offset count) served = refl
served_is_plain stream e (call.Stat path) served = refl
served_is_plain stream e (call.Lstat path) served = refl
served_is_plain stream e (call.List path after) served = refl
served_is_plain stream e (call.Readlink path) served = refl
served_is_plain stream e call.Df served = refl
served_is_plain stream e (call.Become uid gid) served = absurd (true≢false (sym served))

pub plain_entry : (line : Line) (e : Entry) → MayServe line → IsEntryOf 0 line e → IsPlain e
plain_entry line e may is = λ stream. ap (λ (o : Option Call). becomes stream e o) is.call ∙ by_call stream line.call may.served where
  by_call : (stream : ℕ) (o : Option Call) → IfSome o (λ c. IsTrue (is_served c)) → becomes stream e o ≡ None
  by_call stream None served = refl
  by_call stream (Some c) served = served_is_plain stream e c served

nobody : (stream : ℕ) (entries : List Entry) → AllByRecursion IsPlain entries → filter_map (λ e. becomes stream e e.call) entries ≡ []
nobody stream [] all = refl
nobody stream (e ∷ entries) (here, all) =
    ap (λ (o : Option Cred). cons_option o (filter_map (λ e. becomes stream e e.call) entries)) (here stream) ∙ nobody stream entries all

same_caller : (stream : ℕ) (entries : List Entry) → AllByRecursion IsPlain entries → caller_of stream entries ≡ first_caller
same_caller stream entries all = ap (λ (creds : List Cred). unwrap_or (last_or None creds) first_caller) (nobody stream entries all)

each_with : (P : List Entry → Entry → Type 0) (e : Entry) (before entries : List Entry) → EachAfter P before entries → P (before ++ entries) e → EachAfter P before (entries ++ e ∷ [])
each_with P e before [] each here = (subst (λ (es : List Entry). P es e) (append-nil before) here, tt)
each_with P e before (x ∷ entries) (first, rest) here =
    (first, each_with P e (before ++ x ∷ []) entries rest (subst (λ (es : List Entry). P es e) (sym (append_assoc before (x ∷ []) entries)) here))

pub history_begins : (g : Geometry) (moment : ℕ) (opening : Tree) (image : Image) → StandsFor g (block image) opening [] → Goes g moment opening [] image
unfolding Legal
history_begins g moment opening image stands = record { legal = tt; answered = tt; stands = stands }

pub history_goes_on : (g : Geometry) (moment : ℕ) (opening : Tree) (entries : List Entry) (old new : Image) (e : Entry) → Goes g moment opening entries old → AllByRecursion IsPlain entries
    → e.cred ≡ first_caller → e.sync ≡ false → IsRightReply g (replayed_on g moment opening entries) e e.call → IsAnswered g (replayed_on g moment opening entries) e e.call
    → StandsFor g (block new) (after_call g moment (replayed_on g moment opening entries) e e.call) [] → Goes g moment opening (entries ++ e ∷ []) new
history_goes_on g moment opening entries old new e at plain cred sync right answered stands = record {
  legal = (legal-last g moment opening entries e).1 (
    at.legal,
    record {
      cred = cred ∙ sym (same_caller e.stream entries plain);
      reply = right;
      sync = λ waits. absurd (true≢false (sym waits ∙ sync));
    },
  );
  answered = each_with (λ before e. IsAnswered g (replayed_on g moment opening before) e e.call) e [] entries at.answered answered;
  stands = subst (λ (t : Tree). StandsFor g (block new) t []) (sym (replayed-last g moment opening entries e)) stands;
}
