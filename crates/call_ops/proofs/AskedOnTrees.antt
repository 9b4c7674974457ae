-- What a call is answered that is asked, on a tree.
use Rattle.std.proofs.Common.{◌≡◌, ◌+◌, ℕ, Bool, true, false, cond, ◌&&◌, List, [], ◌∷◌, Option, Some, None, Result, Ok, Err, refl, ap, sym, ◌∙◌, arith}
use Rattle.std.specs.List.{AllByRecursion}
use Rattle.std.proofs.lemmas.Bool.{false≢true, and_right}
use Rattle.lufs_base.specs.declared.geometry.Geometry.{Geometry}
use Rattle.tree_types.specs.declared.credentials.Cred.{Cred}
use Rattle.tree_types.specs.declared.call.Call.{Call}
use Rattle.tree_types.specs.declared.call.Call.TheVariants as call
use Rattle.tree_types.specs.declared.reply.Refusal.{Refusal}
use Rattle.tree_types.specs.declared.reply.Reply.{Reply}
use Rattle.tree_types.specs.declared.reply.Reply.TheVariants as reply
use Rattle.volume_model.specs.Sound.{Tree}
use Rattle.history_model.specs.Walk.{WalkEnd, first_of}
use Rattle.history_model.specs.Ends.{WalkEnds, One, ends_of}
use Rattle.history_model.specs.Wants as model
use Rattle.history_model.specs.Wants.{wants_at, blocks_in}
use Rattle.history_model.specs.Refusals.{Decision, Refuse, Unchanged, Proceed, Rows, refusals_at, decision_at}
use Rattle.history_model.specs.Replies.{decided, reply_at, decided_reply, walked_reply, walked_tree, reply_of, tree_after}
use Rattle.history_model.specs.Histories.{makes_inode, is_ok}
use Rattle.history_rules.proofs.RefusedLaws.{refused_tree}
use Rattle.file_ops.specs.Replies.{IsReplyTo}
use Rattle.name_ops.specs.Asked.{asked}
use Rattle.name_ops.specs.declared.wanted.Wanted.{Wanted}
use Rattle.name_ops.specs.declared.wanted.Wanted.TheVariants as wanted
use Rattle.name_ops.proofs.PlannedCalls.{refused_as}
use Rattle.path_walk.specs.Answers.{end_of}
use Rattle.path_walk.specs.declared.walked.Walked.{Walked}
use Rattle.call_ops.specs.Served.{changes_names, tells}
use Rattle.call_ops.specs.Asked.{IsReplyAlone, IsAskedOn, answer_by}

same_decided : {X : Type 0} (d : Decision) (x : X) → decided d x x ≡ x
same_decided (Refuse why) x = refl
same_decided Unchanged x = refl
same_decided Proceed x = refl

-- a call that tells of an inode edits nothing
module _ (g : Geometry) (tree : Tree) (cred : Cred) (p : WalkEnd) where
  told_edits : (ino moment : ℕ) (c : Call) → tells c ≡ true → walked_tree g tree cred ino moment c (Ok (One p)) ≡ tree
  told_edits ino moment (call.Stat path) is = same_decided (decision_at g tree cred (call.Stat path) (One p)) tree
  told_edits ino moment (call.Lstat path) is = same_decided (decision_at g tree cred (call.Lstat path) (One p)) tree
  told_edits ino moment (call.List path after) is = same_decided (decision_at g tree cred (call.List path after) (One p)) tree
  told_edits ino moment other is = absurd (false≢true is)

makes_none : (c : Call) → tells c ≡ true → makes_inode c ≡ false
makes_none (call.Stat path) is = refl
makes_none (call.Lstat path) is = refl
makes_none (call.List path after) is = refl
makes_none other is = absurd (false≢true is)

module _ (g : Geometry) (tree : Tree) (cred : Cred) (c : Call) where
  -- a refusal changes nothing
  refused_alone : (why : Refusal) → reply_of g tree cred c ≡ reply.Refused why → IsReplyAlone g tree cred c (reply.Refused why)
  refused_alone why is = record {
    replied = sym is;
    same_tree = λ ino moment. refused_tree g tree cred c why ino moment is;
    no_inode = and_right (makes_inode c) false refl;
  }

  pub not_walked : (why : Refusal) → ends_of tree cred c ≡ Err why → IsReplyAlone g tree cred c (reply.Refused why)
  unfolding reply_of
  not_walked why is = refused_alone why (ap (λ (e : Result WalkEnds Refusal). walked_reply g tree cred c e) is)

  module _ (p : WalkEnd) (ends : ends_of tree cred c ≡ Ok (One p)) where
    pub by_refusal : (why : Refusal) → decision_at g tree cred c (One p) ≡ Refuse why → IsReplyAlone g tree cred c (reply.Refused why)
    unfolding reply_of
    by_refusal why is = refused_alone why
        (ap (λ (e : Result WalkEnds Refusal). walked_reply g tree cred c e) ends ∙ ap (λ (d : Decision). decided_reply d (reply_at g tree c (One p))) is)

    pub told_alone : (answer : Reply) → tells c ≡ true → IsReplyTo g tree cred c p answer → IsReplyAlone g tree cred c answer
    unfolding reply_of tree_after
    told_alone answer told is = record {
      replied = is ∙ sym (ap (λ (e : Result WalkEnds Refusal). walked_reply g tree cred c e) ends);
      same_tree = λ ino moment. ap (λ (e : Result WalkEnds Refusal). walked_tree g tree cred ino moment c e) ends ∙ told_edits g tree cred p ino moment c told;
      no_inode = ap (λ (b : Bool). b && is_ok answer) (makes_none c told);
    }

-- no row leaves a call without a refusal and unchanged
abbrev Refuses : Rows → Type 0
Refuses rows = AllByRecursion (λ row. row.1 ≡ Unchanged → ⊥) rows

refuses_first : (rows : Rows) → Refuses rows → first_of rows Proceed ≡ Unchanged → ⊥
refuses_first [] all is = let e : Proceed ≡ Unchanged = is in cc
refuses_first (row ∷ rows) all is = by_test row.0 (λ more. refuses_first rows all.1 more) is where
  by_test : (b : Bool) → (first_of rows Proceed ≡ Unchanged → ⊥) → cond b row.1 (first_of rows Proceed) ≡ Unchanged → ⊥
  by_test true later e = all.0 e
  by_test false later e = later e

refusal : (why : Refusal) → Refuse why ≡ Unchanged → ⊥
refusal why is = cc

module _ (g : Geometry) (tree : Tree) (cred : Cred) where
  remove_refuses : (path : List ℕ) (dir : ℕ) (name : List ℕ) (found : Option ℕ) → Refuses (refusals_at g tree cred (call.Remove path) (One (record { dir = dir; name = name; found = found })))
  remove_refuses path dir name None = (refusal _, tt)
  remove_refuses path dir name (Some i) = (refusal _, (refusal _, tt))

  rmdir_refuses : (path : List ℕ) (dir : ℕ) (name : List ℕ) (found : Option ℕ) → Refuses (refusals_at g tree cred (call.Rmdir path) (One (record { dir = dir; name = name; found = found })))
  rmdir_refuses path dir name None = (refusal _, tt)
  rmdir_refuses path dir name (Some i) = (refusal _, (refusal _, (refusal _, (refusal _, tt))))

  names_refuse : (c : Call) (p : WalkEnd) → changes_names c ≡ true → Refuses (refusals_at g tree cred c (One p))
  names_refuse (call.Create path mode) p is = (refusal _, (refusal _, (refusal _, (refusal _, (refusal _, tt)))))
  names_refuse (call.Mkdir path mode) p is = (refusal _, (refusal _, (refusal _, (refusal _, (refusal _, (refusal _, tt))))))
  names_refuse (call.Remove path) p is = remove_refuses path p.dir p.name p.found
  names_refuse (call.Rmdir path) p is = rmdir_refuses path p.dir p.name p.found
  names_refuse other p is = absurd (false≢true is)

  goes_on : (c : Call) (p : WalkEnd) → changes_names c ≡ true → decision_at g tree cred c (One p) ≡ Unchanged → ⊥
  unfolding decision_at
  goes_on c p is unchanged = refuses_first (refusals_at g tree cred c (One p)) (names_refuse c p is) unchanged

-- none wants blocks of a file
none_fresh : (others : ℕ) → others ≡ 0 + others
none_fresh others = omega arith

others_wanted : (tree : Tree) (c : Call) (p : WalkEnd) → changes_names c ≡ true → let w = wants_at tree c (One p) in w.others ≡ blocks_in w
others_wanted tree (call.Create path mode) p is = none_fresh (wants_at tree (call.Create path mode) (One p)).others
others_wanted tree (call.Mkdir path mode) p is = none_fresh (wants_at tree (call.Mkdir path mode) (One p)).others
others_wanted tree (call.Remove path) p is = none_fresh 0
others_wanted tree (call.Rmdir path) p is = none_fresh 0
others_wanted tree other p is = absurd (false≢true is)

-- what is wanted is what the call wants where it proceeds
record IsProceeding (d : Decision) (w : model.Wanted) (is_inode_wanted : Bool) (blocks_wanted : ℕ) : Type 0 where
  decision : d ≡ Proceed
  inode : is_inode_wanted ≡ w.inode
  blocks : blocks_wanted ≡ w.others

proceeding : (d : Decision) (w : model.Wanted) (inode : Bool) (fresh : List ℕ) (others : ℕ) → (d ≡ Unchanged → ⊥) → wanted.Wants inode fresh others ≡ asked d w → IsProceeding d w inode others
proceeding (Refuse why) w inode fresh others goes is = absurd (let e : wanted.Wants inode fresh others ≡ wanted.Refused why = is in cc)
proceeding Unchanged w inode fresh others goes is = absurd (goes refl)
proceeding Proceed w inode fresh others goes is =
    let e : wanted.Wants inode fresh others ≡ wanted.Wants w.inode w.fresh w.others = is in
    record { decision = refl; inode = cc; blocks = cc }

pub answered : (g : Geometry) (tree : Tree) (cred : Cred) (c : Call) (walked : Walked) (w : Wanted) → changes_names c ≡ true → ends_of tree cred c ≡ Ok (One (end_of walked))
    → w ≡ asked (decision_at g tree cred c (One (end_of walked))) (wants_at tree c (One (end_of walked))) → IsAskedOn g tree cred c (answer_by walked w)
answered g tree cred c walked (wanted.Refused why) names ends is =
    let d = decision_at g tree cred c (One (end_of walked)) in
    by_refusal g tree cred c (end_of walked) ends why (refused_as d (wants_at tree c (One (end_of walked))) why is)
answered g tree cred c walked (wanted.Wants inode fresh others) names ends is =
    let d = decision_at g tree cred c (One (end_of walked)) in
    let goes = proceeding d (wants_at tree c (One (end_of walked))) inode fresh others (goes_on g tree cred c (end_of walked) names) is in
    record {
      ends = ends;
      decision = goes.decision;
      inode = goes.inode;
      blocks = goes.blocks ∙ others_wanted tree c (end_of walked) names;
      names = names;
    }
