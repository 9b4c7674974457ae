-- A refused call changes nothing and claims nothing.
use Rattle.std.proofs.Common.{◌≡◌, ℕ, Option, Some, None, refl, Result, Ok, Err}
use Rattle.std.specs.Option.{option_map_or}
use Rattle.lufs_base.specs.declared.geometry.Geometry.{Geometry}
use Rattle.tree_types.specs.declared.credentials.Cred.{Cred}
use Rattle.tree_types.specs.declared.call.Call.{Call}
use Rattle.tree_types.specs.declared.call.Call.TheVariants as call
use Rattle.tree_types.specs.declared.reply.Refusal.{Refusal}
use Rattle.tree_types.specs.declared.reply.Reply.{Reply}
use Rattle.tree_types.specs.declared.reply.Reply.TheVariants as reply
use Rattle.volume_model.specs.Sound.{Tree}
use Rattle.history_model.specs.Places.{file_in}
use Rattle.history_model.specs.Ends.{WalkEnds, One, ends_of}
use Rattle.history_model.specs.FileBytes.{bytes_read}
use Rattle.history_model.specs.Refusals.{Decision, Refuse, Unchanged, Proceed, decision_at}
use Rattle.history_model.specs.Wants.{nothing, wants_at}
use Rattle.history_model.specs.Effects.{edits_at}
use Rattle.history_model.specs.Edits.{edited_all}
use Rattle.history_model.specs.Replies.{info_of, text_in, stat_reply, read_reply, list_reply, readlink_reply, reply_at, decided_reply, walked_reply, reply_of, decided, walked_tree, tree_after, walked_wants, wanted_of}

not_refused_on : {X : Type 0} (f : X → Reply) (o : Option X) (why : Refusal) → ((x : X) → f x ≡ reply.Refused why → ⊥) → option_map_or f o reply.Done ≡ reply.Refused why → ⊥
not_refused_on f None why each is = cc
not_refused_on f (Some x) why each is = each x is

-- what is told is no refusal
not_refused : (g : Geometry) (tree : Tree) (c : Call) (ends : WalkEnds) (why : Refusal) → reply_at g tree c ends ≡ reply.Refused why → ⊥
not_refused g tree (call.Read path offset count) (One p) why is =
    not_refused_on (λ i. read_reply tree i offset count) p.found why (λ i. not_refused_on (λ file. reply.Read (bytes_read file offset count)) (file_in tree i) why (λ file e. cc)) is
not_refused g tree (call.Stat path) (One p) why is =
    not_refused_on (stat_reply g tree) p.found why (λ i. not_refused_on (λ node. reply.Stat (info_of g tree i node)) (tree i) why (λ node e. cc)) is
not_refused g tree (call.Lstat path) (One p) why is =
    not_refused_on (stat_reply g tree) p.found why (λ i. not_refused_on (λ node. reply.Stat (info_of g tree i node)) (tree i) why (λ node e. cc)) is
not_refused g tree (call.List path after) (One p) why is = not_refused_on (λ i. list_reply tree i after) p.found why (λ i e. cc) is
not_refused g tree (call.Readlink path) (One p) why is =
    not_refused_on (readlink_reply tree) p.found why (λ i. not_refused_on (λ node. reply.Text (text_in node)) (tree i) why (λ node e. cc)) is
not_refused g tree c ends why is = cc

refused_same : {X : Type 0} (g : Geometry) (tree : Tree) (c : Call) (ends : WalkEnds) (why : Refusal) (same changed : X) (decision : Decision)
    → decided_reply decision (reply_at g tree c ends) ≡ reply.Refused why → decided decision same changed ≡ same
refused_same g tree c ends why same changed (Refuse other) is = refl
refused_same g tree c ends why same changed Unchanged is = refl
refused_same g tree c ends why same changed Proceed is = absurd (not_refused g tree c ends why is)

module _ (g : Geometry) (tree : Tree) (cred : Cred) (c : Call) (why : Refusal) where
  walked_same : (ino moment : ℕ) (ends : Result WalkEnds Refusal) → walked_reply g tree cred c ends ≡ reply.Refused why → walked_tree g tree cred ino moment c ends ≡ tree
  walked_same ino moment (Err other) is = refl
  walked_same ino moment (Ok ends) is = refused_same g tree c ends why tree (edited_all (edits_at g tree cred ino moment c ends) tree) (decision_at g tree cred c ends) is

  walked_nothing : (ends : Result WalkEnds Refusal) → walked_reply g tree cred c ends ≡ reply.Refused why → walked_wants g tree cred c ends ≡ nothing
  walked_nothing (Err other) is = refl
  walked_nothing (Ok ends) is = refused_same g tree c ends why nothing (wants_at tree c ends) (decision_at g tree cred c ends) is

  pub refused_tree : (ino moment : ℕ) → reply_of g tree cred c ≡ reply.Refused why → tree_after g tree cred ino moment c ≡ tree
  unfolding reply_of tree_after
  refused_tree ino moment is = walked_same ino moment (ends_of tree cred c) is

  pub refused_wants : reply_of g tree cred c ≡ reply.Refused why → wanted_of g tree cred c ≡ nothing
  unfolding reply_of wanted_of
  refused_wants is = walked_nothing (ends_of tree cred c) is
