-- Names that make a tree still do where an inode has another name, maybe in another directory, in place of the one that it had.
use Rattle.std.proofs.Common.{◌≡◌, ◌≢◌, ◌≤◌, ◌<◌, ◌⊎◌, ℕ, zero, suc, ◌+◌, ◌==◌, Bool, true, false, not, ◌&&◌, cond, List, Option, Some, None, refl, sym, ap, subst, inl, inr, ◌∙◌, arith, bytes_eq}
use Rattle.std.proofs.lemmas.Bool.{cases_Bool, cases_eq, true≢false, eq-eqb, ne_eqb, not_from_false, not-true}
use Rattle.std.proofs.lemmas.Slice.Eq.{bytes_eq-Decides}
use Rattle.std.specs.Prelude.{is_some}
use Rattle.std.specs.List.{list_any, count_by}
use Rattle.volume_model.specs.declared.directory.Slot.{Slot}
use Rattle.volume_model.specs.Sound.{Names, MakeATree, dot, dot_dot, is_used_in, is_directory_in, slots_at, parent_at, names_unused, ancestor_of}
use Rattle.history_rules.proofs.EnterLaws.{slot_sum}
use Rattle.history_rules.proofs.SlotRuleLaws.{one_if, of_inode, any_none, none_any, any_fewer, of_name, of_unused, of_entry, in_use, count_unused}
use Rattle.history_rules.proofs.LinkLaws.{free_names_none}
use Rattle.history_rules.proofs.RightNameLaws.{directory_of, slots_none, entry_other, no_zero}
use Rattle.history_rules.proofs.ChangedRightLaws.{BeginsAs}
use Rattle.history_rules.proofs.EnterRightLaws.{no_name, at_most, unused_by, none_unused}
use Rattle.history_rules.proofs.LeaveRightLaws.{without}
use Rattle.history_rules.proofs.DroppedRightLaws.{entry_own}
use Rattle.history_rules.proofs.CountedLaws.{sum_at, IsCounted, none_apart, counted, listed_below, counted_right}

-- so many steps up from directory k lead to the root, and none of those before it is inode i
abbrev pub LeadsApart : Names → (i steps k : ℕ) → Type 0
LeadsApart m i zero k = k ≡ 2
LeadsApart m i (suc steps) k = (k ≢ i) × LeadsApart m i steps (parent_at m k)

-- Inode i has the new name in directory `new`, in place of the old one in `old`. Before, inode r had the new name, or none
-- did and r is 0. If r is gone, nothing else named it; if it is a directory, it is gone, and it was above none. A directory i
-- wasn't above `new`.
pub record IsRenamed (n : ℕ) (m after : Names) (old new i r : ℕ) (old_name new_name : List ℕ) : Type 0 where
  pub old_is : is_directory_in m old ≡ true
  pub old_less : old < n
  pub new_is : is_directory_in m new ≡ true
  pub new_less : new < n
  pub real : i ≢ 0
  pub less : i < n
  pub in_use : is_used_in m i ≡ true
  pub other : i ≢ r
  pub new_other : new ≢ r
  pub not_root : r ≢ 2
  pub old_not_dot : old_name ≢ dot
  pub old_not_dot_dot : old_name ≢ dot_dot
  pub new_not_dot : new_name ≢ dot
  pub new_not_dot_dot : new_name ≢ dot_dot
  pub listed : 0 < sum_at (of_entry i) m old
  pub room : sum_at (of_name new_name) m new ≤ of_name new_name r new_name
  pub childless : (k : ℕ) → k < n → is_directory_in m k ≡ true → parent_at m k ≢ r
  pub steps : ℕ
  pub leads : LeadsApart m i steps new
  pub directories : (k : ℕ) → is_directory_in after k ≡ true → (is_directory_in m k ≡ true) × (k ≢ r)
  pub keeps : (k : ℕ) → is_directory_in m k ≡ true → k ≢ r → is_directory_in after k ≡ true
  pub uses : (k : ℕ) → k ≢ r → is_used_in m k ≡ true → is_used_in after k ≡ true
  pub stays_or_gone : (is_used_in m r ≡ true → is_used_in after r ≡ true)
      ⊎ ((r ≢ 0) × ((k : ℕ) → k < n → k ≢ r → is_directory_in m k ≡ true → sum_at (of_inode r) m k ≡ one_if (k == new)))
  pub sums : (k : ℕ) → k < n → is_directory_in after k ≡ true → (v : ℕ → List ℕ → ℕ) → ((name : List ℕ) → v 0 name ≡ 0)
      → sum_at v after k + (cond (k == old) (v i old_name) 0 + (cond (k == new) (v r new_name) 0 + cond (k == i) (v old dot_dot) 0))
      ≡ sum_at v m k + (cond (k == new) (v i new_name) 0 + cond (k == i) (v new dot_dot) 0)
  pub begins : (k : ℕ) → k < n → is_directory_in after k ≡ true → BeginsAs k (parent_at m k) (slots_at m k) → BeginsAs k (cond (k == i) new (parent_at m k)) (slots_at after k)

used_directory : (o : Option (Option (List Slot))) → directory_of o ≡ true → is_some o ≡ true
used_directory None is = absurd (true≢false (sym is))
used_directory (Some slots) is = refl

none_if : (b : Bool) (x : ℕ) → x ≡ 0 → cond b x 0 ≡ 0
none_if true x is = is
none_if false x is = refl

-- the name of the directory above is no entry
no_entry : (k ino : ℕ) → of_entry k ino dot_dot ≡ 0
no_entry k ino = none_if (not (ino == 0)) 0 refl

up_name : (name : List ℕ) (ino : ℕ) → ino ≢ 0 → of_name name ino dot_dot ≡ cond (bytes_eq dot_dot name) 1 0
up_name name ino real = ap (λ (b : Bool). cond (not b) (cond (bytes_eq dot_dot name) 1 0) 0) (ne_eqb ino 0 real)

module _ (n : ℕ) (m : Names) (right : MakeATree n m) (after : Names) (old new i r : ℕ) (old_name new_name : List ℕ) (is_renamed : IsRenamed n m after old new i r old_name new_name) where
  abbrev up : ℕ → ℕ
  up k = cond (k == i) new (parent_at m k)

  rules : IsCounted n m (parent_at m)
  rules = counted n m right

  up_at : up i ≡ new
  up_at = ap (λ (b : Bool). cond b new (parent_at m i)) (eq-eqb i i refl)

  up_else : (k : ℕ) → k ≢ i → up k ≡ parent_at m k
  up_else k apart = ap (λ (b : Bool). cond b new (parent_at m k)) (ne_eqb k i apart)

  real_directory : (k : ℕ) → k < n → is_directory_in m k ≡ true → k ≢ 0
  real_directory k less is e = no_zero n m right (omega arith) (ap (is_directory_in m) (sym e) ∙ is)

  -- a directory that moves was below the old one
  was_below : is_directory_in m i ≡ true → ((i == 2) ≡ false) × (old ≡ parent_at m i)
  was_below is = listed_below n m (parent_at m) rules i old is_renamed.less is_renamed.old_less is is_renamed.listed

  was_directory : (k : ℕ) → is_directory_in after k ≡ true → is_directory_in m k ≡ true
  was_directory k is = (is_renamed.directories k is).0

  now_begins : (k : ℕ) → k < n → is_directory_in after k ≡ true → BeginsAs k (up k) (slots_at after k)
  now_begins k less is = is_renamed.begins k less is (rules.begins k less (was_directory k is))

  now_once : (k : ℕ) → k < n → is_directory_in after k ≡ true → (name : List ℕ) → sum_at (of_name name) after k ≤ 1
  now_once k less is name =
      let was = rules.once k less (was_directory k is) name in
      let change = is_renamed.sums k less is (of_name name) (λ l. refl) in
      let from = up_name name old (real_directory old is_renamed.old_less is_renamed.old_is) in
      let to = up_name name new (real_directory new is_renamed.new_less is_renamed.new_is) in
      let above : cond (k == i) (of_name name old dot_dot) 0 ≡ cond (k == i) (of_name name new dot_dot) 0 = ap (λ (x : ℕ). cond (k == i) x 0) (from ∙ sym to) in
      elim (cases_Bool (bytes_eq new_name name)) [
        | inr differ ↦ let none = none_if (k == new) (of_name name i new_name) (no_name (not (i == 0)) (bytes_eq new_name name) differ) in omega (arith, was, change, above, none)
        | inl same ↦
            let is_name : new_name ≡ name = (bytes_eq-Decides new_name name).0 same in
            elim (cases_eq k new) [
              | inr apart ↦
                  let none : cond (k == new) (of_name name i new_name) 0 ≡ 0 = ap (λ (b : Bool). cond b (of_name name i new_name) 0) (ne_eqb k new apart) in
                  omega (arith, was, change, above, none)
              | inl at ↦
                  let here : (k == new) ≡ true = eq-eqb k new at in
                  let lost : cond (k == new) (of_name name r new_name) 0 ≡ of_name name r new_name = ap (λ (b : Bool). cond b (of_name name r new_name) 0) here in
                  let gained : cond (k == new) (of_name name i new_name) 0 ≡ of_name name i new_name = ap (λ (b : Bool). cond b (of_name name i new_name) 0) here in
                  let room : sum_at (of_name name) m new ≤ of_name name r new_name = subst (λ (l : List ℕ). sum_at (of_name l) m new ≤ of_name l r new_name) is_name is_renamed.room in
                  let fits : sum_at (of_name name) m k ≤ of_name name r new_name = subst (λ (h : ℕ). sum_at (of_name name) m h ≤ of_name name r new_name) (sym at) room in
                  let one = at_most (not (i == 0)) (bytes_eq new_name name) in
                  omega (arith, fits, change, above, lost, gained, one)
            ]
      ]

  -- what is named was in use
  named_was_used : (k : ℕ) → k < n → is_directory_in after k ≡ true → list_any (λ s. not (is_used_in m s.ino)) (in_use (slots_at after k)) ≡ false
  named_was_used k less is =
      let v : ℕ → List ℕ → ℕ = of_unused (is_used_in m) in
      let was : count_by (λ s. not (is_used_in m s.ino)) (in_use (slots_at m k)) ≡ 0 = any_none (λ (s : Slot). not (is_used_in m s.ino)) (in_use (slots_at m k)) (rules.used k less (was_directory k is)) in
      let change = is_renamed.sums k less is v (λ l. refl) in
      let by : ℕ → Bool → ℕ = λ ino used. unused_by (not (ino == 0)) used in
      let none_i : v i new_name ≡ 0 = ap (by i) is_renamed.in_use ∙ none_unused (not (i == 0)) in
      let none_up : v new dot_dot ≡ 0 = ap (by new) (used_directory (m new) is_renamed.new_is) ∙ none_unused (not (new == 0)) in
      let first = none_if (k == new) (v i new_name) none_i in
      let second = none_if (k == i) (v new dot_dot) none_up in
      let none : count_by (λ s. not (is_used_in m s.ino)) (in_use (slots_at after k)) ≡ 0 =
      omega (arith, change, first, second, was, count_unused (is_used_in m) (slots_at m k), count_unused (is_used_in m) (slots_at after k)) in
      none_any (λ (s : Slot). not (is_used_in m s.ino)) (in_use (slots_at after k)) none

  now_used : (k : ℕ) → k < n → is_directory_in after k ≡ true → names_unused after k ≡ false
  now_used k less is = by_case is_renamed.stays_or_gone where
    by_case : (is_used_in m r ≡ true → is_used_in after r ≡ true)
        ⊎ ((r ≢ 0) × ((j : ℕ) → j < n → j ≢ r → is_directory_in m j ≡ true → sum_at (of_inode r) m j ≡ one_if (j == new)))
        → names_unused after k ≡ false
    by_case (inl stays) =
        any_fewer (λ (s : Slot). not (is_used_in m s.ino)) (λ (s : Slot). not (is_used_in after s.ino)) (λ s not_now. less_used s.ino not_now) (in_use (slots_at after k)) (named_was_used k less is)
      where
        all_used : (j : ℕ) → is_used_in m j ≡ true → is_used_in after j ≡ true
        all_used j used = elim (cases_eq j r) [
          | inl same ↦ ap (is_used_in after) same ∙ stays (ap (is_used_in m) (sym same) ∙ used)
          | inr apart ↦ is_renamed.uses j apart used
        ]

        less_used : (j : ℕ) → not (is_used_in after j) ≡ true → not (is_used_in m j) ≡ true
        less_used j not_now = elim (cases_Bool (is_used_in m j)) [
          | inl used ↦ absurd (true≢false (sym (all_used j used) ∙ not-true (is_used_in after j) not_now))
          | inr free ↦ not_from_false (is_used_in m j) free
        ]
    by_case (inr gone) =
        let change = is_renamed.sums k less is (of_inode r) (free_names_none r gone.0) in
        let was = gone.1 k less (is_renamed.directories k is).1 (was_directory k is) in
        let own : cond (k == new) (of_inode r r new_name) 0 ≡ one_if (k == new) = ap (λ (b : Bool). cond (k == new) (one_if b) 0) (eq-eqb r r refl) in
        let none_i = none_if (k == new) (of_inode r i new_name) (ap one_if (ne_eqb i r is_renamed.other)) in
        let none_up = none_if (k == i) (of_inode r new dot_dot) (ap one_if (ne_eqb new r is_renamed.new_other)) in
        let none : slot_sum (of_inode r) (slots_at after k) ≡ 0 = omega (arith, change, was, own, none_i, none_up) in
        without (is_used_in m) (is_used_in after) r is_renamed.uses (slots_at after k) (named_was_used k less is) none

  now_above : (k : ℕ) → k < n → is_directory_in after k ≡ true → (is_directory_in after (up k) ≡ true) × (up k < n)
  now_above k less is = elim (cases_eq k i) [
    | inl same ↦
        let at : up k ≡ new = ap up same ∙ up_at in
        (ap (is_directory_in after) at ∙ is_renamed.keeps new is_renamed.new_is is_renamed.new_other, let below = is_renamed.new_less in omega (arith, at, below))
    | inr apart ↦
        let was = was_directory k is in
        let at = up_else k apart in
        let next = rules.above k less was in
        (ap (is_directory_in after) at ∙ is_renamed.keeps (parent_at m k) next.0 (is_renamed.childless k less was), omega (arith, at, next.1))
  ]

  now_top : (k : ℕ) → k < n → is_directory_in after k ≡ true → (k == 2) ≡ true → up k ≡ 2
  now_top k less is root = elim (cases_eq k i) [
    | inl same ↦ absurd (true≢false (sym root ∙ ap (λ (h : ℕ). h == 2) same ∙ (was_below (ap (is_directory_in m) (sym same) ∙ was_directory k is)).0))
    | inr apart ↦ up_else k apart ∙ rules.top k less (was_directory k is) root
  ]

  module _ (j : ℕ) (low : j < n) (is_j : is_directory_in after j ≡ true) where
    change : (k : ℕ) → sum_at (of_entry k) after j + (cond (j == old) (of_entry k i old_name) 0 + cond (j == new) (of_entry k r new_name) 0) ≡ sum_at (of_entry k) m j + cond (j == new) (of_entry k i new_name) 0
    change k =
        omega (
          arith,
          is_renamed.sums j low is_j (of_entry k) (λ l. refl),
          none_if (j == i) (of_entry k old dot_dot) (no_entry k old),
          none_if (j == i) (of_entry k new dot_dot) (no_entry k new),
        )

    entries_else : (k : ℕ) → k < n → is_directory_in after k ≡ true → k ≢ i → sum_at (of_entry k) after j ≡ one_if (not (k == 2) && j == up k)
    entries_else k less is apart =
        let other : (i == k) ≡ false = ne_eqb i k (λ e. apart (sym e)) in
        let not_r : (r == k) ≡ false = ne_eqb r k (λ e. (is_renamed.directories k is).1 (sym e)) in
        let same : sum_at (of_entry k) after j ≡ sum_at (of_entry k) m j =
        omega (
          arith,
          change k,
          none_if (j == old) (of_entry k i old_name) (entry_other k i old_name other),
          none_if (j == new) (of_entry k r new_name) (entry_other k r new_name not_r),
          none_if (j == new) (of_entry k i new_name) (entry_other k i new_name other),
        ) in
        same ∙ rules.entries k j less low (was_directory k is) ∙ (λ t. one_if (not (k == 2) && j == sym (up_else k apart) t))

    entries_own : is_directory_in after i ≡ true → sum_at (of_entry i) after j ≡ one_if (not (i == 2) && j == up i)
    entries_own is =
        let below = was_below (was_directory i is) in
        let was : sum_at (of_entry i) m j ≡ one_if (j == old) = rules.entries i j is_renamed.less low (was_directory i is) ∙ (λ t. one_if (not (below.0 t) && j == sym below.1 t)) in
        let now : one_if (not (i == 2) && j == up i) ≡ one_if (j == new) = λ t. one_if (not (below.0 t) && j == up_at t) in
        let lost : cond (j == old) (of_entry i i old_name) 0 ≡ one_if (j == old) =
        ap (λ (x : ℕ). cond (j == old) x 0) (entry_own i old_name is_renamed.real is_renamed.old_not_dot is_renamed.old_not_dot_dot) in
        let gained : cond (j == new) (of_entry i i new_name) 0 ≡ one_if (j == new) =
        ap (λ (x : ℕ). cond (j == new) x 0) (entry_own i new_name is_renamed.real is_renamed.new_not_dot is_renamed.new_not_dot_dot) in
        let none = none_if (j == new) (of_entry i r new_name) (entry_other i r new_name (ne_eqb r i (λ e. is_renamed.other (sym e)))) in
        omega (arith, change i, was, now, lost, gained, none)

  now_entries : (k j : ℕ) → k < n → j < n → is_directory_in after k ≡ true → sum_at (of_entry k) after j ≡ one_if (not (k == 2) && j == up k)
  now_entries k j less low is = elim (cases_Bool (is_directory_in after j)) [
    | inl is_j ↦ elim (cases_eq k i) [
      | inl same ↦
          subst (λ (h : ℕ). sum_at (of_entry h) after j ≡ one_if (not (h == 2) && j == up h)) (sym same)
          (entries_own j low is_j (ap (is_directory_in after) (sym same) ∙ is))
      | inr apart ↦ entries_else j low is_j k less is apart
    ]
    | inr none ↦
        let next = now_above k less is in
        ap (slot_sum (of_entry k)) (slots_none (after j) none)
        ∙ sym (none_apart k j (up k) (λ e. true≢false (sym (ap (is_directory_in after) e ∙ next.0) ∙ none)))
  ]

  -- steps up that don't pass the inode are the same
  apart_leads : (steps k : ℕ) → k < n → is_directory_in after k ≡ true → LeadsApart m i steps k → ancestor_of after steps k ≡ 2
  apart_leads zero k less is leads = leads
  apart_leads (suc steps) k less is leads =
      let at = up_else k leads.0 in
      let next = now_above k less is in
      ap (ancestor_of after steps) ((now_begins k less is).1 ∙ at)
      ∙ apart_leads steps (parent_at m k) (omega (arith, at, next.1)) (ap (is_directory_in after) (sym at) ∙ next.0) leads.1

  all_lead : (steps k : ℕ) → k < n → is_directory_in after k ≡ true → ancestor_of m steps k ≡ 2 → (s : ℕ) × (ancestor_of after s k ≡ 2)
  all_lead zero k less is two = (0, two)
  all_lead (suc steps) k less is two = elim (cases_eq k i) [
    | inl same ↦
        let first : parent_at after k ≡ new = (now_begins k less is).1 ∙ ap up same ∙ up_at in (
          suc is_renamed.steps,
          ap (ancestor_of after is_renamed.steps) first
              ∙ apart_leads is_renamed.steps new is_renamed.new_less (is_renamed.keeps new is_renamed.new_is is_renamed.new_other) is_renamed.leads,
        )
    | inr apart ↦
        let at = up_else k apart in
        let next = now_above k less is in
        let more = all_lead steps (parent_at m k) (omega (arith, at, next.1)) (ap (is_directory_in after) (sym at) ∙ next.0) two in
        (suc more.0, ap (ancestor_of after more.0) ((now_begins k less is).1 ∙ at) ∙ more.1)
  ]

  pub renamed_right : MakeATree n after
  renamed_right = counted_right n after up (record {
    root = is_renamed.keeps 2 right.root (λ e. is_renamed.not_root (sym e));
    begins = now_begins;
    once = now_once;
    used = now_used;
    top = now_top;
    entries = now_entries;
    above = now_above;
    leads = λ k less is. let was = rules.leads k less (was_directory k is) in all_lead was.0 k less is was.1;
  })
