use Rattle.std.proofs.Common.{◌≡◌, ℕ, false, List, Option, Some, IfSome, ap, sym, ◌∙◌, subst}
use Rattle.std.specs.Option.{IsSomeAnd, option_map}
use Rattle.lufs_base.specs.declared.numbers.Ino.{Ino}
use Rattle.tree_types.specs.declared.call.Call.TheVariants as call
use Rattle.tree_types.specs.declared.reply.Refusal.TheVariants.{Noent}
use Rattle.tree_types.specs.declared.reply.Reply.TheVariants.{Refused, Names}
use Rattle.volume_model.specs.Format.{Image, block}
use Rattle.volume_model.specs.Sound.{Tree, reading_of, has_bad_numbers, tree_of}
use Rattle.history_model.specs.Names.{names_told, names_after}
use Rattle.meta_store.specs.Changes.{changed}
use Rattle.meta_store.specs.declared.change.Change.{Change}
use Rattle.dir_reads.specs.Names.{first_names}
use Rattle.inode_reads.specs.InodeOf.{IsInodeOf}
use Rattle.inode_reads.proofs.ByTree.{always, follows, follows_both}
use Rattle.path_walk.specs.Answers.{end_of}
use Rattle.file_ops.specs.Replies.{IsReplyTo, decision_by}
use Rattle.file_ops.proofs.AsItIs.{as_it_is}
use Rattle.file_ops.proofs.ListReplies.{list_none, list_refused, list_told}
use Rattle.file_ops.proofs.listing.list.Goals as goal

pub returns-in_default-clause-value : goal.returns-in_default-clause-value
returns-in_default-clause-value g c path =
    let store = g.S.MetaRead.store c.args.store.now in
    let p = end_of c.args.walked.now in
    let cred = c.args.cred.now in
    let after : Option (List ℕ) = option_map (λ n. n.now) c.args.after in
    always store.geometry store.content (λ (tree : Tree). IsReplyTo store.geometry tree cred (call.List path after) p (Refused Noent))
    (λ tree. list_none store.geometry cred path after p tree (ap (option_map (λ (i : Ino). i.0)) c.in_default.is))

pub returns-in-Some-refusal_of-clause-value : goal.returns-in-Some-refusal_of-clause-value
returns-in-Some-refusal_of-clause-value g c path =
    let store = g.S.MetaRead.store c.args.store.now in
    let p = end_of c.args.walked.now in
    let cred = c.args.cred.now in
    let after : Option (List ℕ) = option_map (λ n. n.now) c.args.after in
    let i = c.in-Some.i.0 in
    let some : p.found ≡ Some i = ap (option_map (λ (i : Ino). i.0)) c.in-Some.is in
    let why = c.in-Some-refusal_of.why in
    follows store.geometry store.content (λ (tree : Tree). IsInodeOf store.geometry tree i c.in_ok-found.found)
    (λ (tree : Tree). IsReplyTo store.geometry tree cred (call.List path after) p (Refused why))
    (λ tree is. list_refused store.geometry cred path after p tree why (ap decision_by (sym c.in-Some-refusal_of.is) ∙ c.refusal_of.ensures store.geometry tree p
    (subst (λ (o : Option ℕ). IsSomeAnd o (λ k. IsInodeOf store.geometry tree k c.in_ok-found.found)) (sym some) is)))
    c.in_ok-found.ensures.tree

pub returns-clause-value : goal.returns-clause-value
returns-clause-value g c path =
    let store = g.S.MetaRead.store c.args.store.now in
    let now = g.S.MetaRead.store c.read_inode.new.store in
    let p = end_of c.args.walked.now in
    let cred = c.args.cred.now in
    let after : Option (List ℕ) = option_map (λ n. n.now) c.args.after in
    let i = c.in-Some.i.0 in
    let some : p.found ≡ Some i = ap (option_map (λ (i : Ino). i.0)) c.in-Some.is in
    let names = c.in_ok-names.names in
    let more = c.in_ok-names.more in
    let are_first : Tree → Type 0 = λ tree. (names, more) ≡ first_names names_told (names_after tree i after) in
    let told = subst (λ (change : Change). IfSome (option_map (changed change) now.content) (λ (image : Image). has_bad_numbers now.geometry (reading_of now.geometry (block image)) i ≡ false
    → are_first (tree_of now.geometry (block image)))) c.new-draft.ensures c.in_ok-names.ensures.value in
    follows_both store.geometry store.content (λ (tree : Tree). IsInodeOf store.geometry tree i c.in_ok-found.found) are_first
    (λ (tree : Tree). IsReplyTo store.geometry tree cred (call.List path after) p (Names names more))
    (λ tree is first. list_told store.geometry cred path after p tree i names more some (ap decision_by (sym c.in_default-refusal_of.is) ∙ c.refusal_of.ensures store.geometry tree p
    (subst (λ (o : Option ℕ). IsSomeAnd o (λ k. IsInodeOf store.geometry tree k c.in_ok-found.found)) (sym some) is)) first)
    c.in_ok-found.ensures.tree
    (as_it_is store.geometry now.geometry store.content now.content i are_first c.in_ok-found.ensures.unchanged.geometry c.in_ok-found.ensures.unchanged.content told)
