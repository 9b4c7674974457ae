use Rattle.std.proofs.Common.{◌≡◌, true, false, cond, None, Bool, refl, sym, ap, ◌∙◌, arith}
use Rattle.std.proofs.lemmas.Bool.{ne_eqb, and_left}
use Rattle.volume_model.specs.Log.{Commit, Wrong, kind_of}
use Rattle.log_format.specs.Heads.{may_follow}
use Rattle.log_format.proofs.RunPieces.{front_cut, front_commit, front_no_kind, front_refused, front_too_long, front_is_delta, and_no}
use Rattle.log_format.proofs.run_reader.find_front.Goals as goal

pub returns-then-bytes-lt-HEAD-clause-value : goal.returns-then-bytes-lt-HEAD-clause-value
returns-then-bytes-lt-HEAD-clause-value c = λ before known. front_cut c.args.g.now c.args.tid before c.args.bytes.now (omega arith)

pub returns-then-is_commit-clause-value : goal.returns-then-is_commit-clause-value
returns-then-is_commit-clause-value c =
    λ before known.
    front_commit c.args.g.now c.args.tid before c.args.tally.now c.args.bytes.now c.get_u32-record_type.result c.is_commit.result known (omega arith) c.get_u32-record_type.ensures
    c.if-record_type-eq-COMMIT.true c.is_commit.ensures
    ∙ ap (λ (b : Bool). cond b Commit Wrong) (let is : c.is_commit.result ≡ true = cc in is)

pub returns-then-record_type-eq-COMMIT-clause-value : goal.returns-then-record_type-eq-COMMIT-clause-value
returns-then-record_type-eq-COMMIT-clause-value c =
    λ before known.
    front_commit c.args.g.now c.args.tid before c.args.tally.now c.args.bytes.now c.get_u32-record_type.result c.is_commit.result known (omega arith) c.get_u32-record_type.ensures
    c.if-record_type-eq-COMMIT.true c.is_commit.ensures
    ∙ ap (λ (b : Bool). cond b Commit Wrong) (let is : c.is_commit.result ≡ false = cc in is)

pub returns-in_default-clause-value : goal.returns-in_default-clause-value
returns-in_default-clause-value c =
    λ before known.
    let none : kind_of c.get_u32-record_type.result ≡ None = cc in
    front_no_kind c.args.g.now c.args.tid before c.args.bytes.now c.get_u32-record_type.result (omega arith) c.get_u32-record_type.ensures
    (ne_eqb c.get_u32-record_type.result 8 c.if-record_type-eq-COMMIT.false) none

pub returns-then-not-may_be_logged-clause-value : goal.returns-then-not-may_be_logged-clause-value
returns-then-not-may_be_logged-clause-value c =
    λ before known.
    let no : c.may_be_logged.result ≡ false = cc in
    front_refused c.args.g.now c.args.tid before c.args.tally.now c.args.bytes.now c.get_u32-record_type.result c.get_u64-home.result c.get_u32-len.result c.in-Some.kind
    c.may_be_logged.result (may_follow c.args.tally.now.last c.in-Some.kind c.get_u64-home.result) known (omega arith) c.get_u32-record_type.ensures
    (ne_eqb c.get_u32-record_type.result 8 c.if-record_type-eq-COMMIT.false) (sym c.kind_of.ensures ∙ c.in-Some.is) c.get_u64-home.ensures c.get_u32-len.ensures
    c.may_be_logged.ensures.value refl (and_left c.may_be_logged.result (may_follow c.args.tally.now.last c.in-Some.kind c.get_u64-home.result) no)

pub returns-then-not-may_follow-clause-value : goal.returns-then-not-may_follow-clause-value
returns-then-not-may_follow-clause-value c =
    λ before known.
    let no : c.may_follow.result ≡ false = cc in
    front_refused c.args.g.now c.args.tid before c.args.tally.now c.args.bytes.now c.get_u32-record_type.result c.get_u64-home.result c.get_u32-len.result c.in-Some.kind
    c.may_be_logged.result c.may_follow.result known (omega arith) c.get_u32-record_type.ensures
    (ne_eqb c.get_u32-record_type.result 8 c.if-record_type-eq-COMMIT.false) (sym c.kind_of.ensures ∙ c.in-Some.is) c.get_u64-home.ensures c.get_u32-len.ensures
    c.may_be_logged.ensures.value c.may_follow.ensures (and_no c.may_be_logged.result c.may_follow.result no)

pub returns-then-bytes-logged_len-clause-value : goal.returns-then-bytes-logged_len-clause-value
returns-then-bytes-logged_len-clause-value c =
    λ before known.
    let may : c.may_be_logged.result ≡ true = cc in
    let follows : c.may_follow.result ≡ true = cc in
    front_too_long c.args.g.now c.args.tid before c.args.tally.now c.args.bytes.now c.get_u32-record_type.result c.get_u64-home.result c.get_u32-len.result c.in-Some.kind
    c.may_be_logged.result c.may_follow.result known (omega arith) c.get_u32-record_type.ensures
    (ne_eqb c.get_u32-record_type.result 8 c.if-record_type-eq-COMMIT.false) (sym c.kind_of.ensures ∙ c.in-Some.is) c.get_u64-home.ensures c.get_u32-len.ensures
    c.may_be_logged.ensures.value c.may_follow.ensures may follows (omega (arith, c.logged_len.ensures))

pub returns-clause-value : goal.returns-clause-value
returns-clause-value c =
    λ before known.
    let may : c.may_be_logged.result ≡ true = cc in
    let follows : c.may_follow.result ≡ true = cc in
    front_is_delta c.args.g.now c.args.tid before c.args.tally.now c.args.bytes.now c.get_u32-record_type.result c.get_u64-home.result c.get_u32-len.result c.in-Some.kind
    c.may_be_logged.result c.may_follow.result known (omega arith) c.get_u32-record_type.ensures
    (ne_eqb c.get_u32-record_type.result 8 c.if-record_type-eq-COMMIT.false) (sym c.kind_of.ensures ∙ c.in-Some.is) c.get_u64-home.ensures c.get_u32-len.ensures
    c.may_be_logged.ensures.value c.may_follow.ensures may follows (omega (arith, c.logged_len.ensures))
