-- The reply of a served call on a tree that content stands for is a short one.
use Rattle.std.proofs.Common.{◌≡◌, ◌≤◌, ℕ, true, List, length, take, Option, Some, None, Result, Ok, Err, refl, arith}
use Rattle.std.specs.Prelude.{nat_le}
use Rattle.std.specs.List.{list_all}
use Rattle.std.specs.Option.{option_map_or}
use Rattle.std.proofs.lemmas.Bool.{and_from, le-leb, false≢true}
use Rattle.std.proofs.lemmas.List.{length-take}
use Rattle.lufs_base.specs.declared.geometry.Geometry.{Geometry}
use Rattle.tree_types.specs.declared.credentials.Cred.{Cred}
use Rattle.tree_types.specs.declared.call.Call.{Call}
use Rattle.tree_types.specs.declared.call.Call.TheVariants as call
use Rattle.tree_types.specs.declared.reply.Refusal.{Refusal}
use Rattle.tree_types.specs.declared.reply.Reply.{Reply}
use Rattle.tree_types.specs.declared.reply.Reply.TheVariants as reply
use Rattle.volume_model.specs.Format.{Blocks}
use Rattle.volume_model.specs.Sound.{Node, Tree, tree_of}
use Rattle.history_model.specs.Ends.{WalkEnds, NoPath, One, Two, ends_of}
use Rattle.history_model.specs.Walk.{WalkEnd}
use Rattle.history_model.specs.Refusals.{Decision, Refuse, Unchanged, Proceed, decision_at}
use Rattle.history_model.specs.Replies.{info_of, list_reply, reply_at, decided_reply, walked_reply, reply_of}
use Rattle.history_model.specs.Names.{names_after}
use Rattle.script_text.specs.ShortReplies.{is_short}
use Rattle.call_ops.specs.Served.{is_served}
use Rattle.plain_calls.proofs.Inside.{EndsInside, ends_inside}
use Rattle.plain_calls.proofs.ShortNames.{is_short_name, listed_short, front_is_short}

info_short : (g : Geometry) (tree : Tree) (i : ℕ) (node : Option Node) → is_short (option_map_or (λ n. reply.Stat (info_of g tree i n)) node reply.Done) ≡ true
info_short g tree i None = refl
info_short g tree i (Some node) = refl

on_found_short : (found : Option ℕ) (tell : ℕ → Reply) → ((i : ℕ) → is_short (tell i) ≡ true) → is_short (option_map_or tell found reply.Done) ≡ true
on_found_short None tell each = refl
on_found_short (Some i) tell each = each i

module _ (g : Geometry) (blocks : Blocks) where
  abbrev tree : Tree
  tree = tree_of g blocks

  list_short : (i : ℕ) (after : Option (List ℕ)) → is_short (list_reply tree i after) ≡ true
  list_short i after =
      let names = names_after tree i after in
      let few : length (take 16 names) ≤ 16 = omega (arith, length-take 16 names) in
      and_from (nat_le (length (take 16 names)) 16) (list_all is_short_name (take 16 names)) (le-leb (length (take 16 names)) 16 few) (front_is_short 16 names (listed_short g blocks i after))

  told_short : (c : Call) (p : WalkEnd) → is_served c ≡ true → is_short (reply_at g tree c (One p)) ≡ true
  told_short (call.Create path mode) p served = refl
  told_short (call.Mkdir path mode) p served = refl
  told_short (call.Remove path) p served = refl
  told_short (call.Rmdir path) p served = refl
  told_short (call.Stat path) p served = on_found_short p.found _ (λ i. info_short g tree i (tree i))
  told_short (call.Lstat path) p served = on_found_short p.found _ (λ i. info_short g tree i (tree i))
  told_short (call.List path after) p served = on_found_short p.found _ (λ i. list_short i after)
  told_short other p served = absurd (false≢true served)

  decided_short : (d : Decision) (told : Reply) → is_short told ≡ true → is_short (decided_reply d told) ≡ true
  decided_short (Refuse why) told short = refl
  decided_short Unchanged told short = refl
  decided_short Proceed told short = short

  walked_short : (cred : Cred) (c : Call) (ends : Result WalkEnds Refusal) → is_served c ≡ true → EndsInside ends → is_short (walked_reply g tree cred c ends) ≡ true
  walked_short cred c (Ok NoPath) served inside = absurd inside
  walked_short cred c (Ok (One p)) served inside = decided_short (decision_at g tree cred c (One p)) (reply_at g tree c (One p)) (told_short c p served)
  walked_short cred c (Ok (Two p q)) served inside = absurd inside
  walked_short cred c (Err why) served inside = refl

  pub reply_short : (cred : Cred) (c : Call) → is_served c ≡ true → is_short (reply_of g tree cred c) ≡ true
  unfolding reply_of
  reply_short cred c served = walked_short cred c (ends_of tree cred c) served (ends_inside tree cred c served)
