-- What is asked of a store decides what a `create` is answered.
use Rattle.std.proofs.Common.{◌≡◌, ℕ, ◌+◌, arith, Bool, true, false, not, if◌then◌else◌, List, [], ◌∷◌, Some, None, refl, sym, ap, ◌∙◌}
use Rattle.std.specs.Prelude.{is_some}
use Rattle.lufs_base.specs.declared.geometry.Geometry.{Geometry}
use Rattle.volume_model.specs.Sound.{Tree, free_inodes_of, free_blocks_of}
use Rattle.tree_types.specs.declared.credentials.Cred.{Cred}
use Rattle.tree_types.specs.declared.call.Call.TheVariants.{Create}
use Rattle.tree_types.specs.declared.reply.Refusal.{Refusal}
use Rattle.tree_types.specs.declared.reply.Refusal.TheVariants.{Denied, Exist, Fbig, Noinodes, Nospace}
use Rattle.history_model.specs.Places.{may}
use Rattle.history_model.specs.Walk.{WalkEnd, first_of}
use Rattle.history_model.specs.Ends.{One}
use Rattle.history_model.specs.Wants as model
use Rattle.history_model.specs.Wants.{create_wants, wants_at, blocks_for_name, lacks}
use Rattle.history_model.specs.Refusals.{Refuse, Proceed, cannot_grow, has_no_inode, decision_at}
use Rattle.name_ops.specs.Asked.{asked, name_blocks, lack_by}
use Rattle.name_ops.specs.declared.wanted.Wanted.{Wanted}
use Rattle.name_ops.specs.declared.wanted.Wanted.TheVariants.{Refused, Wants}

-- the answer by the tests of the refusals
abbrev by_tests : (may found past inodes space : Bool) → model.Wanted → Wanted
by_tests m f c n s wanted =
    asked (first_of ((not m, Refuse Denied) ∷ ((f, Refuse Exist) ∷ ((c, Refuse Fbig) ∷ ((n, Refuse Noinodes) ∷ ((s, Refuse Nospace) ∷ []))))) Proceed) wanted

module _ (g : Geometry) (tree : Tree) (cred : Cred) (path : List ℕ) (mode : ℕ) (p : WalkEnd) where
  abbrev pub answer : Wanted
  answer = asked (decision_at g tree cred (Create path mode) (One p)) (wants_at tree (Create path mode) (One p))

  abbrev m : Bool
  m = may tree cred p.dir 2

  abbrev f : Bool
  f = is_some p.found

  abbrev c : Bool
  c = cannot_grow tree p.dir p.name

  abbrev n : Bool
  n = has_no_inode g tree

  abbrev s : Bool
  s = lacks g tree (create_wants tree p)

  abbrev w : model.Wanted
  w = create_wants tree p

  tested : answer ≡ by_tests m f c n s w
  unfolding decision_at
  tested = refl

  pub denied : m ≡ false → Refused Denied ≡ answer
  denied is = sym (tested ∙ ap (λ (b : Bool). by_tests b f c n s w) is)

  allowed : m ≡ true → answer ≡ by_tests true f c n s w
  allowed is = tested ∙ ap (λ (b : Bool). by_tests b f c n s w) is

  pub there : m ≡ true → f ≡ true → Refused Exist ≡ answer
  there is found = sym (allowed is ∙ ap (λ (b : Bool). by_tests true b c n s w) found)

  absent : m ≡ true → f ≡ false → answer ≡ by_tests true false c n s w
  absent is none = allowed is ∙ ap (λ (b : Bool). by_tests true b c n s w) none

  past_if : (b : Bool) (k : ℕ) → None ≡ (if b then None else Some k) → b ≡ true
  past_if true k is = refl
  past_if false k is = absurd (let e : None ≡ Some k = is in cc)

  pub past : m ≡ true → f ≡ false → None ≡ name_blocks tree p.dir p.name → Refused Fbig ≡ answer
  past is none room = sym (absent is none ∙ ap (λ (b : Bool). by_tests true false b n s w) (past_if c (blocks_for_name tree p.dir p.name) room))

  room_if : (b : Bool) (k j : ℕ) → Some j ≡ (if b then None else Some k) → (b ≡ false) × (j ≡ k)
  room_if true k j is = absurd (let e : Some j ≡ None = is in cc)
  room_if false k j is = (refl, let e : Some j ≡ Some k = is in cc)

  -- by what is free
  by_lack : (a b : Bool) (why : Refusal) → Some why ≡ (if a then Some Noinodes else (if b then Some Nospace else None)) → Refused why ≡ by_tests true false false a b w
  by_lack true b why is = let e : Some why ≡ Some Noinodes = is in ap (λ (r : Refusal). Refused r) (cc)
  by_lack false true why is = let e : Some why ≡ Some Nospace = is in ap (λ (r : Refusal). Refused r) (cc)
  by_lack false false why is = absurd (let e : Some why ≡ None = is in cc)

  by_enough : (a b : Bool) → None ≡ (if a then Some Noinodes else (if b then Some Nospace else None)) → Wants true [] w.others ≡ by_tests true false false a b w
  by_enough true b is = absurd (let e : None ≡ Some Noinodes = is in cc)
  by_enough false true is = absurd (let e : None ≡ Some Nospace = is in cc)
  by_enough false false is = refl

  roomy : m ≡ true → f ≡ false → (others : ℕ) → Some others ≡ name_blocks tree p.dir p.name → (answer ≡ by_tests true false false n s w) × (others ≡ w.others)
  roomy is none others room =
      let has = room_if c (blocks_for_name tree p.dir p.name) others room in
      (absent is none ∙ ap (λ (b : Bool). by_tests true false b n s w) has.0, has.1)

  none_more : (k : ℕ) → 0 + k ≡ k
  none_more k = omega arith

  pub lacking : m ≡ true → f ≡ false → (others : ℕ) → Some others ≡ name_blocks tree p.dir p.name → (why : Refusal) → Some why ≡ lack_by true others (free_inodes_of g tree) (free_blocks_of g tree)
      → Refused why ≡ answer
  lacking is none others room why lack =
      let has = roomy is none others room in
      by_lack n s why (lack ∙ ap (λ (k : ℕ). lack_by true k (free_inodes_of g tree) (free_blocks_of g tree)) (has.1 ∙ sym (none_more w.others))) ∙ sym has.0

  pub enough : m ≡ true → f ≡ false → (others : ℕ) → Some others ≡ name_blocks tree p.dir p.name → None ≡ lack_by true others (free_inodes_of g tree) (free_blocks_of g tree)
      → Wants true [] others ≡ answer
  enough is none others room lack =
      let has = roomy is none others room in
      ap (λ (k : ℕ). Wants true [] k) has.1
      ∙ by_enough n s (lack ∙ ap (λ (k : ℕ). lack_by true k (free_inodes_of g tree) (free_blocks_of g tree)) (has.1 ∙ sym (none_more w.others))) ∙ sym has.0
