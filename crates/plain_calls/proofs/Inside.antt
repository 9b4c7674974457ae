-- The reply of a served call comes from its tree: it is no refusal of the outside.
use Rattle.std.proofs.Common.{◌≡◌, ℕ, zero, suc, Bool, true, false, List, [], ◌∷◌, Option, Some, None, Result, Ok, Err, refl, ap}
use Rattle.std.specs.Prelude.{if◌then◌else◌, length, not, nat_lt, ◌++◌}
use Rattle.std.specs.List.{AllByRecursion}
use Rattle.std.proofs.lemmas.Bool.{false≢true}
use Rattle.std.specs.Option.{option_map_or}
use Rattle.lufs_base.specs.declared.geometry.Geometry.{Geometry}
use Rattle.tree_types.specs.declared.credentials.Cred.{Cred}
use Rattle.tree_types.specs.declared.call.Call.{Call}
use Rattle.tree_types.specs.declared.call.Call.TheVariants as call
use Rattle.tree_types.specs.declared.reply.Refusal.{Refusal}
use Rattle.tree_types.specs.declared.reply.Refusal.TheVariants.{Notdir, Denied, Nametoolong, Loop}
use Rattle.tree_types.specs.declared.reply.Reply.{Reply}
use Rattle.tree_types.specs.declared.reply.Reply.TheVariants as reply
use Rattle.volume_model.specs.Sound.{Node, Tree}
use Rattle.history_model.specs.Walk.{WalkEnd, Step, Ends, Missing, Follows, Goes, most_followed, root, first_of, is_empty, parts_of, start_of, end_at, or_refused, step_of, after_step, walk_parts, walk_within, walk_of}
use Rattle.history_model.specs.Places.{lookup, is_directory_in, may}
use Rattle.history_model.specs.Ends.{WalkEnds, NoPath, One, Two, and_then, unless_long, is_long, ends_of}
use Rattle.history_model.specs.Refusals.{Decision, Refuse, Unchanged, Proceed, Rows, on_found, decision_at, create_refusals, mkdir_refusals, remove_refusals, rmdir_refusals, list_refusals, stat_refusals}
use Rattle.history_model.specs.Replies.{info_of, reply_at, decided_reply, walked_reply, reply_of}
use Rattle.history_model.specs.Histories.{is_outside, is_carried_out}
use Rattle.call_ops.specs.Served.{is_served}

abbrev Inside : Result WalkEnd Refusal → Type 0
Inside (Ok p) = Unit {0}
Inside (Err why) = is_outside why ≡ false

-- the walk may stop at a part
part_inside : (first second third : Bool) (next : Result WalkEnd Refusal) → Inside next
    → Inside (or_refused (first_of ((first, Some Notdir) ∷ ((second, Some Denied) ∷ ((third, Some Nametoolong) ∷ []))) None) next)
part_inside true second third next inside = refl
part_inside false true third next inside = refl
part_inside false false true next inside = refl
part_inside false false false next inside = inside

step_inside : (rest : List (List ℕ)) (again : ℕ → List (List ℕ) → Result WalkEnd Refusal) (go : ℕ → Result WalkEnd Refusal) (end : WalkEnd) (step : Step)
    → ((dir : ℕ) (parts : List (List ℕ)) → Inside (again dir parts)) → ((i : ℕ) → Inside (go i)) → Inside (after_step rest again go end step)
step_inside rest again go end Ends anew on = tt
step_inside rest again go end Missing anew on = refl
step_inside rest again go end (Follows text) anew on = anew (start_of end.dir text) (parts_of text ++ rest)
step_inside rest again go end (Goes i) anew on = on i

module _ (tree : Tree) (cred : Cred) (follow : Bool) where
  parts_inside : (again : ℕ → List (List ℕ) → Result WalkEnd Refusal) → ((dir : ℕ) (parts : List (List ℕ)) → Inside (again dir parts))
      → (parts : List (List ℕ)) (dir : ℕ) → Inside (walk_parts again tree cred follow dir parts)
  parts_inside again anew [] dir = refl
  parts_inside again anew (part ∷ rest) dir =
      part_inside (not (is_directory_in tree dir)) (not (may tree cred dir 1)) (nat_lt 255 (length part)) _
      (step_inside rest again (λ i. walk_parts again tree cred follow i rest) (end_at tree dir part) (step_of tree (is_empty rest) follow (lookup tree dir part)) anew
      (λ i. parts_inside again anew rest i))

  within_inside : (links : ℕ) (dir : ℕ) (parts : List (List ℕ)) → Inside (walk_within links tree cred follow dir parts)
  within_inside zero dir parts = parts_inside (λ dir parts. Err Loop) (λ dir parts. refl) parts dir
  within_inside (suc links) dir parts = parts_inside (walk_within links tree cred follow) (within_inside links) parts dir

  walk_inside : (path : List ℕ) → Inside (walk_of tree cred path follow)
  unfolding walk_of
  walk_inside path = within_inside most_followed root (parts_of path)

-- a served call has one path
abbrev pub EndsInside : Result WalkEnds Refusal → Type 0
EndsInside (Ok NoPath) = ⊥
EndsInside (Ok (One p)) = Unit {0}
EndsInside (Ok (Two p q)) = ⊥
EndsInside (Err why) = is_outside why ≡ false

end_inside : (long : Bool) (walk : Result WalkEnd Refusal) → Inside walk → EndsInside (unless_long long (and_then walk (λ p. Ok (One p))))
end_inside true walk inside = refl
end_inside false (Ok p) inside = tt
end_inside false (Err why) inside = inside

pub ends_inside : (tree : Tree) (cred : Cred) (c : Call) → is_served c ≡ true → EndsInside (ends_of tree cred c)
unfolding ends_of
ends_inside tree cred (call.Create path mode) served = end_inside (is_long path) (walk_of tree cred path false) (walk_inside tree cred false path)
ends_inside tree cred (call.Mkdir path mode) served = end_inside (is_long path) (walk_of tree cred path false) (walk_inside tree cred false path)
ends_inside tree cred (call.Remove path) served = end_inside (is_long path) (walk_of tree cred path false) (walk_inside tree cred false path)
ends_inside tree cred (call.Rmdir path) served = end_inside (is_long path) (walk_of tree cred path false) (walk_inside tree cred false path)
ends_inside tree cred (call.Stat path) served = end_inside (is_long path) (walk_of tree cred path true) (walk_inside tree cred true path)
ends_inside tree cred (call.Lstat path) served = end_inside (is_long path) (walk_of tree cred path false) (walk_inside tree cred false path)
ends_inside tree cred (call.List path after) served = end_inside (is_long path) (walk_of tree cred path true) (walk_inside tree cred true path)
ends_inside tree cred other served = absurd (false≢true served)

abbrev Allowed : Decision → Type 0
Allowed (Refuse why) = is_outside why ≡ false
Allowed Unchanged = Unit {0}
Allowed Proceed = Unit {0}

abbrev AllAllowed : Rows → Type 0
AllAllowed rows = AllByRecursion (λ row. Allowed row.1) rows

either_allowed : (first rest : Decision) → Allowed first → Allowed rest → (b : Bool) → Allowed (if b then first else rest)
either_allowed first rest first_may rest_may b = elim b as (λ t. Allowed (if t then first else rest)) [ true ↦ first_may | false ↦ rest_may ]

rows_allowed : (rows : Rows) → AllAllowed rows → Allowed (first_of rows Proceed)
rows_allowed [] all = tt
rows_allowed (row ∷ rows) all = either_allowed row.1 (first_of rows Proceed) all.0 (rows_allowed rows all.1) row.0

found_allowed : (found : Option ℕ) (rows : ℕ → Rows) → ((i : ℕ) → AllAllowed (rows i)) → AllAllowed (on_found found rows)
found_allowed None rows each = (refl, tt)
found_allowed (Some i) rows each = each i

module _ (g : Geometry) (tree : Tree) (cred : Cred) (p : WalkEnd) where
  decision_allowed : (c : Call) → is_served c ≡ true → Allowed (decision_at g tree cred c (One p))
  unfolding decision_at
  decision_allowed (call.Create path mode) served = rows_allowed (create_refusals g tree cred p) (refl, (refl, (refl, (refl, (refl, tt)))))
  decision_allowed (call.Mkdir path mode) served = rows_allowed (mkdir_refusals g tree cred p) (refl, (refl, (refl, (refl, (refl, (refl, tt))))))
  decision_allowed (call.Remove path) served = rows_allowed (remove_refusals tree cred p) (found_allowed p.found _ (λ i. (refl, (refl, tt))))
  decision_allowed (call.Rmdir path) served = rows_allowed (rmdir_refusals tree cred p) (found_allowed p.found _ (λ i. (refl, (refl, (refl, (refl, tt))))))
  decision_allowed (call.Stat path) served = rows_allowed (stat_refusals p) (found_allowed p.found _ (λ i. tt))
  decision_allowed (call.Lstat path) served = rows_allowed (stat_refusals p) (found_allowed p.found _ (λ i. tt))
  decision_allowed (call.List path after) served = rows_allowed (list_refusals tree cred p) (found_allowed p.found _ (λ i. (refl, (refl, tt))))
  decision_allowed other served = absurd (false≢true served)

refused_carried : (why : Refusal) → is_outside why ≡ false → is_carried_out (reply.Refused why) ≡ true
refused_carried why inside = ap (λ (b : Bool). let carried : Bool = elim b [ true ↦ false | false ↦ true ] in carried) inside

info_carried : (g : Geometry) (tree : Tree) (i : ℕ) (node : Option Node) → is_carried_out (option_map_or (λ n. reply.Stat (info_of g tree i n)) node reply.Done) ≡ true
info_carried g tree i None = refl
info_carried g tree i (Some node) = refl

on_found_carried : (found : Option ℕ) (tell : ℕ → Reply) → ((i : ℕ) → is_carried_out (tell i) ≡ true) → is_carried_out (option_map_or tell found reply.Done) ≡ true
on_found_carried None tell each = refl
on_found_carried (Some i) tell each = each i

module _ (g : Geometry) (tree : Tree) (cred : Cred) where
  told_carried : (c : Call) (p : WalkEnd) → is_served c ≡ true → is_carried_out (reply_at g tree c (One p)) ≡ true
  told_carried (call.Create path mode) p served = refl
  told_carried (call.Mkdir path mode) p served = refl
  told_carried (call.Remove path) p served = refl
  told_carried (call.Rmdir path) p served = refl
  told_carried (call.Stat path) p served = on_found_carried p.found _ (λ i. info_carried g tree i (tree i))
  told_carried (call.Lstat path) p served = on_found_carried p.found _ (λ i. info_carried g tree i (tree i))
  told_carried (call.List path after) p served = on_found_carried p.found _ (λ i. refl)
  told_carried other p served = absurd (false≢true served)

  decided_carried : (d : Decision) (told : Reply) → Allowed d → is_carried_out told ≡ true → is_carried_out (decided_reply d told) ≡ true
  decided_carried (Refuse why) told allowed carried = refused_carried why allowed
  decided_carried Unchanged told allowed carried = refl
  decided_carried Proceed told allowed carried = carried

  walked_carried : (c : Call) (ends : Result WalkEnds Refusal) → is_served c ≡ true → EndsInside ends → is_carried_out (walked_reply g tree cred c ends) ≡ true
  walked_carried c (Ok NoPath) served inside = absurd inside
  walked_carried c (Ok (One p)) served inside = decided_carried (decision_at g tree cred c (One p)) (reply_at g tree c (One p)) (decision_allowed g tree cred p c served) (told_carried c p served)
  walked_carried c (Ok (Two p q)) served inside = absurd inside
  walked_carried c (Err why) served inside = refused_carried why inside

  pub reply_carried : (c : Call) → is_served c ≡ true → is_carried_out (reply_of g tree cred c) ≡ true
  unfolding reply_of
  reply_carried c served = walked_carried c (ends_of tree cred c) served (ends_inside tree cred c served)
