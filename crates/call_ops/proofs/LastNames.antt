-- The name that a walk ends in which follows no link at its end: the last part of the path, which a directory may give.
use Rattle.std.proofs.Common.{◌≡◌, ◌≤◌, ℕ, Bool, true, false, not, cond, List, [], ◌∷◌, ◌++◌, Option, Some, None, Result, Ok, Err, refl, arith}
use Rattle.std.specs.Prelude.{◌==◌, ◌&&◌, nat_lt, nat_le, length}
use Rattle.std.specs.List.{list_all, filter, slice_split, AllByRecursion}
use Rattle.std.proofs.lemmas.Bool.{ltb-true, ltb-false, le-leb, not_from_false, and_from}
use Rattle.lufs_base.specs.Name.{is_name_byte, IsName}
use Rattle.tree_types.specs.declared.credentials.Cred.{Cred}
use Rattle.tree_types.specs.declared.reply.Refusal.{Refusal}
use Rattle.tree_types.specs.declared.reply.Refusal.TheVariants.{Notdir, Denied, Nametoolong}
use Rattle.volume_model.specs.Sound.{Node, File, Directory, Link, Tree}
use Rattle.history_model.specs.Places.{is_directory_in, lookup, may}
use Rattle.history_model.specs.Walk.{WalkEnd, Ends, Missing, Follows, Goes, first_of, or_dot, parts_of, step_on, step_of, refused_part, walk_of}
use Rattle.history_model.specs.Walks.{Walks, NoParts, Stops, Last, NotThere, TooMany, Followed, Onward, step_at}
use Rattle.history_rules.proofs.WalksLaws.{walk_is}
use Rattle.call_ops.specs.Served.{is_path_byte}
use Rattle.call_ops.proofs.SplitParts.{parts_all, kept_all}

-- a part of a path, of any length
abbrev IsPart : List ℕ → Type 0
IsPart part = (nat_lt 0 (length part) ≡ true) × (list_all is_name_byte part ≡ true)

-- a character of a path that is no slash
of_name : (b : ℕ) → (b == 47) ≡ false → is_path_byte b ≡ true → is_name_byte b ≡ true
of_name b other is = and_from (nat_le 0x21 b && nat_le b 0x7E) (not (b == 47)) is (not_from_false (b == 47) other)

with_dot : (parts : List (List ℕ)) → AllByRecursion IsPart parts → AllByRecursion IsPart (or_dot parts)
with_dot [] all = ((refl, refl), tt)
with_dot (part ∷ parts) all = all

parts_right : (path : List ℕ) → list_all is_path_byte path ≡ true → AllByRecursion IsPart (parts_of path)
parts_right path is =
    with_dot (filter (λ part. nat_lt 0 (length part)) (slice_split (λ b. b == 47) path))
    (kept_all (λ part. list_all is_name_byte part ≡ true) (λ part. nat_lt 0 (length part)) (slice_split (λ b. b == 47) path) (parts_all is_path_byte is_name_byte 47 of_name path is))

-- the last of the parts, if there are any, is one
abbrev HasLastPart : List (List ℕ) → Type 0
HasLastPart [] = Unit {0}
HasLastPart (part ∷ []) = IsPart part
HasLastPart (part ∷ (next ∷ rest)) = HasLastPart (next ∷ rest)

last_right : (parts : List (List ℕ)) → AllByRecursion IsPart parts → HasLastPart parts
last_right [] all = tt
last_right (part ∷ []) all = all.0
last_right (part ∷ (next ∷ rest)) all = last_right (next ∷ rest) all.1

-- parts in the place of a link change nothing of the last one
last_kept : (parts : List (List ℕ)) (next : List ℕ) (rest : List (List ℕ)) → HasLastPart (next ∷ rest) → HasLastPart (parts ++ (next ∷ rest))
last_kept [] next rest has = has
last_kept (part ∷ []) next rest has = has
last_kept (part ∷ (second ∷ parts)) next rest has = last_kept (second ∷ parts) next rest has

-- a walk ends at the last part alone
no_end_on : (i : ℕ) (o : Option Node) → step_on false false i o ≡ Ends → ⊥
no_end_on i None is = let e : Goes i ≡ Ends = is in cc
no_end_on i (Some (File file)) is = let e : Goes i ≡ Ends = is in cc
no_end_on i (Some (Directory directory)) is = let e : Goes i ≡ Ends = is in cc
no_end_on i (Some (Link link)) is = let e : Follows link.text ≡ Ends = is in cc

no_end : (tree : Tree) (found : Option ℕ) → step_of tree false false found ≡ Ends → ⊥
no_end tree None is = let e : Missing ≡ Ends = is in cc
no_end tree (Some i) is = no_end_on i (tree i) is

-- no link is followed there
no_link_on : (i : ℕ) (o : Option Node) (text : List ℕ) → step_on true false i o ≡ Follows text → ⊥
no_link_on i None text is = let e : Ends ≡ Follows text = is in cc
no_link_on i (Some (File file)) text is = let e : Ends ≡ Follows text = is in cc
no_link_on i (Some (Directory directory)) text is = let e : Ends ≡ Follows text = is in cc
no_link_on i (Some (Link link)) text is = let e : Ends ≡ Follows text = is in cc

no_link : (tree : Tree) (found : Option ℕ) (text : List ℕ) → step_of tree true false found ≡ Follows text → ⊥
no_link tree None text is = let e : Ends ≡ Follows text = is in cc
no_link tree (Some i) text is = no_link_on i (tree i) text is

-- a part that is looked up isn't too long
not_refused : (b : Bool) (x : Refusal) (rest : Option Refusal) → cond b (Some x) rest ≡ None → (b ≡ false) × (rest ≡ None)
not_refused true x rest is = absurd (let e : Some x ≡ None = is in cc)
not_refused false x rest is = (refl, is)

not_long : (tree : Tree) (cred : Cred) (dir : ℕ) (part : List ℕ) → refused_part tree cred dir part ≡ None → length part ≤ 255
not_long tree cred dir part is =
    let far : Option Refusal = first_of ((nat_lt 255 (length part), Some Nametoolong) ∷ []) None in
    let searched : Option Refusal = first_of ((not (may tree cred dir 1), Some Denied) ∷ ((nat_lt 255 (length part), Some Nametoolong) ∷ [])) None in
    let in_directory = not_refused (not (is_directory_in tree dir)) Notdir searched is in
    let allowed = not_refused (not (may tree cred dir 1)) Denied far in_directory.1 in
    ltb-false 255 (length part) (not_refused (nat_lt 255 (length part)) Nametoolong None allowed.1).0

named : (part : List ℕ) → IsPart part → length part ≤ 255 → IsName part
named part is short =
    let some : 1 ≤ length part = omega (arith, ltb-true 0 (length part) is.0) in
    and_from (nat_le 1 (length part) && nat_le (length part) 255) (list_all is_name_byte part)
    (and_from (nat_le 1 (length part)) (nat_le (length part) 255) (le-leb 1 (length part) some) (le-leb (length part) 255 short)) is.1

abbrev EndsInName : Result WalkEnd Refusal → Type 0
EndsInName (Ok p) = IsName p.name
EndsInName (Err why) = Unit {0}

module _ (tree : Tree) (cred : Cred) where
  last_named : (dir : ℕ) (part : List ℕ) (rest : List (List ℕ)) → refused_part tree cred dir part ≡ None → step_at tree false dir part rest ≡ Ends → HasLastPart (part ∷ rest) → IsName part
  last_named dir part [] none is last = named part last (not_long tree cred dir part none)
  last_named dir part (next ∷ rest) none is last = absurd (no_end tree (lookup tree dir part) is)

  last_after_link : (dir : ℕ) (part : List ℕ) (rest : List (List ℕ)) (text : List ℕ) → step_at tree false dir part rest ≡ Follows text → HasLastPart (part ∷ rest) → HasLastPart (parts_of text ++ rest)
  last_after_link dir part [] text is last = absurd (no_link tree (lookup tree dir part) text is)
  last_after_link dir part (next ∷ rest) text is last = last_kept (parts_of text) next rest last

  last_onward : (part : List ℕ) (rest : List (List ℕ)) → HasLastPart (part ∷ rest) → HasLastPart rest
  last_onward part [] last = tt
  last_onward part (next ∷ rest) last = last

  ends_in_name : {links dir : ℕ} {parts : List (List ℕ)} {end : Result WalkEnd Refusal} → Walks tree cred false links dir parts end → HasLastPart parts → EndsInName end
  ends_in_name NoParts last = tt
  ends_in_name (Stops {links} {dir} {part} {rest} {refusal} is) last = tt
  ends_in_name (Last {links} {dir} {part} {rest} none is) last = last_named dir part rest none is last
  ends_in_name (NotThere {links} {dir} {part} {rest} none is) last = tt
  ends_in_name (TooMany {dir} {part} {rest} {text} none is) last = tt
  ends_in_name (Followed {links} {dir} {part} {rest} {text} {end} none is more) last = ends_in_name more (last_after_link dir part rest text is last)
  ends_in_name (Onward {links} {dir} {i} {part} {rest} {end} none is more) last = ends_in_name more (last_onward part rest last)

  pub name_right : (path : List ℕ) (p : WalkEnd) → list_all is_path_byte path ≡ true → walk_of tree cred path false ≡ Ok p → IsName p.name
  name_right path p right is = ends_in_name ((walk_is tree cred path false (Ok p)).0 is) (last_right (parts_of path) (parts_right path right))
