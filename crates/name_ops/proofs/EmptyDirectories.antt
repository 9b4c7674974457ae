-- An empty directory names itself and the one above it alone, and that is the one that names it.
use Rattle.std.proofs.Common.{◌≡◌, ◌≢◌, ◌<◌, ℕ, ◌+◌, ◌==◌, true, false, not, cond, List, [], ◌∷◌, Some, refl, sym, ap, ◌∙◌, arith}
use Rattle.std.specs.List.{count_by}
use Rattle.std.proofs.lemmas.Bool.{true≢false, ne_eqb, not_from_false}
use Rattle.std.proofs.lemmas.List.Sums.{sum_by-cons}
use Rattle.lufs_base.specs.declared.geometry.Geometry.{Geometry}
use Rattle.volume_model.specs.declared.directory.Slot.{Slot}
use Rattle.volume_model.specs.Format.{inodes_of}
use Rattle.volume_model.specs.Sound.{DirectoryNode, Directory, Tree, Names, names_in_tree, slots_at, parent_at, has_twice}
use Rattle.volume_model.specs.Sound.{is_directory_in as is_directory_at}
use Rattle.history_model.specs.Places.{directory_slots, is_directory_in, is_dots, lookup}
use Rattle.history_model.specs.Refusals.{is_empty_in}
use Rattle.history_model.specs.Right.{IsRightWithin}
use Rattle.history_rules.proofs.MakeLaws.{directory_in}
use Rattle.history_rules.proofs.EnterLaws.{slot_sum}
use Rattle.history_rules.proofs.SlotRuleLaws.{one_if, of_entry, of_inode, in_use}
use Rattle.history_rules.proofs.RightNameLaws.{entry_other}
use Rattle.history_rules.proofs.ChangedRightLaws.{BeginsAs, begin_parts, good_parts}
use Rattle.history_rules.proofs.DroppedRightLaws.{row_alike}
use Rattle.history_rules.proofs.CountedLaws.{sum_at, listed_below}
use Rattle.history_rules.proofs.RemovedRightLaws.{slots_as}
use Rattle.history_rules.proofs.RemovedDirectoryLaws.{not_dots}
use Rattle.history_rules.proofs.RenamedRightLaws.{rules, directory_less, as_name, real_directory, real_above, name_listed, empty_entries, not_empty}

two_used : (s t : Slot) (more : List Slot) → not (s.ino == 0) ≡ true → not (t.ino == 0) ≡ true → in_use (s ∷ (t ∷ more)) ≡ s ∷ (t ∷ in_use more)
two_used s t more first second = λ x. cond (first x) (s ∷ cond (second x) (t ∷ in_use more) (in_use more)) (cond (second x) (t ∷ in_use more) (in_use more))

two_sum : (v : ℕ → List ℕ → ℕ) (s t : Slot) (more : List Slot) → slot_sum v (s ∷ (t ∷ more)) ≡ v s.ino s.name + (v t.ino t.name + slot_sum v more)
two_sum v s t more = omega (arith, sum_by-cons (λ (x : Slot). v x.ino x.name) s (t ∷ more), sum_by-cons (λ (x : Slot). v x.ino x.name) t more)

-- Slots of a directory without an entry for inode k name it just where it is the one above. For the second slot that is
-- seen by another one in its place, which names the directory itself.
row_above : (k own parent : ℕ) → k ≢ 0 → own ≢ 0 → parent ≢ 0 → own ≢ k → (slots : List Slot) → BeginsAs own parent slots → has_twice (in_use slots) ≡ false → slot_sum (of_entry k) slots ≡ 0
    → slot_sum (of_inode k) slots ≡ one_if (parent == k)
row_above k own parent real used above other [] is once none = absurd (true≢false (sym is.0))
row_above k own parent real used above other (s ∷ []) is once none = absurd (true≢false (sym is.0))
row_above k own parent real used above other (s ∷ (t ∷ more)) is once none =
    let parts = begin_parts own s t more is.0 in
    let u : Slot = record t { ino = own } in
    let s_used : not (s.ino == 0) ≡ true = not_from_false (s.ino == 0) (ne_eqb s.ino 0 (λ e. used (sym parts.2 ∙ e))) in
    let t_used : not (t.ino == 0) ≡ true = not_from_false (t.ino == 0) (ne_eqb t.ino 0 (λ e. above (sym is.1 ∙ e))) in
    let u_used : not (own == 0) ≡ true = not_from_false (own == 0) (ne_eqb own 0 used) in
    let still_once : has_twice (in_use (s ∷ (u ∷ more))) ≡ false = ap has_twice (two_used s u more s_used u_used) ∙ sym (ap has_twice (two_used s t more s_used t_used)) ∙ once in
    let alike = row_alike k own own real used used other other (s ∷ (u ∷ more)) (is.0, refl) still_once in
    let s_else : (s.ino == k) ≡ false = ne_eqb s.ino k (λ e. other (sym parts.2 ∙ e)) in
    let own_else : (own == k) ≡ false = ne_eqb own k other in
    let s_none : of_inode k s.ino s.name ≡ 0 = ap one_if s_else in
    let u_none : of_inode k own t.name ≡ 0 = ap one_if own_else in
    let t_is : of_inode k t.ino t.name ≡ one_if (parent == k) = ap (λ (h : ℕ). one_if (h == k)) is.1 in
    omega (
      arith,
      alike,
      none,
      two_sum (of_inode k) s u more,
      two_sum (of_entry k) s u more,
      two_sum (of_inode k) s t more,
      two_sum (of_entry k) s t more,
      s_none,
      u_none,
      t_is,
      entry_other k s.ino s.name s_else,
      entry_other k own t.name own_else,
    )

module _ (g : Geometry) (tree : Tree) (right : IsRightWithin g tree) (dir i : ℕ) (name : List ℕ) (is_dir : is_directory_in tree dir ≡ true) (found : lookup tree dir name ≡ Some i)
    (is : is_directory_in tree i ≡ true) (empty : is_empty_in tree i ≡ true) (no_dots : is_dots name ≡ false) where
  abbrev m : Names
  m = names_in_tree tree

  d : (d : DirectoryNode) × (tree dir ≡ Some (Directory d))
  d = directory_in (tree dir) is_dir

  less : i < inodes_of g
  less = directory_less g tree right i is

  as_one : is_directory_at m i ≡ true
  as_one = as_name g tree right i is

  listed : 0 < sum_at (of_entry i) m dir
  listed = name_listed g tree right dir d.0 name i d.1 found (not_dots name no_dots).0 (not_dots name no_dots).1

  pub apart : i ≢ dir
  apart same = not_empty g tree right i empty dir i listed (sym same)

  above_is : dir ≡ parent_at m i
  above_is = (listed_below (inodes_of g) m (parent_at m) (rules g tree right) i dir less (directory_less g tree right dir is_dir) as_one listed).1

  pub names_above : (k : ℕ) → k ≢ 0 → i ≢ k → count_by (λ s. s.ino == k) (directory_slots tree i) ≡ cond (dir == k) 1 0
  names_above k real other =
      ap (λ (slots : List Slot). count_by (λ s. s.ino == k) slots) (sym (slots_as (tree i)))
      ∙ row_above k i (parent_at m i) real (real_directory g tree right i less as_one) (real_above g tree right i less as_one) other (slots_at m i) ((rules g tree right).begins i less as_one)
      (good_parts (is_directory_at m i) i (slots_at m i) as_one (right.names.slots i less)).1 (empty_entries g tree right i empty k)
      ∙ ap (λ (h : ℕ). one_if (h == k)) (sym above_is)
