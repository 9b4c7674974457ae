-- The trees that the volume has after the four changes, and after the entries.
use Rattle.std.proofs.Common.{◌≡◌, ◌≢◌, ◌≤◌, ℕ, zero, suc, ◌+◌, List, [], ◌∷◌, ◌++◌, length, replicate, Option, None, refl, sym, ap, ◌∙◌, arith}
use Rattle.std.specs.Prelude.{codes, slice_get, option_map, option_and_then}
use Rattle.volume_model.specs.Format.{Blocks, new_directory}
use Rattle.volume_model.specs.Sound.{UsedInode, Unused, Reading, reading_of, used_of, used_at, Node, Tree, node_of, tree_of, shape_of_node, shape_of, free_blocks_of, free_inodes_of}
use Rattle.volume_model.specs.Worked.{smallest}
use Rattle.history_model.specs.Places.{links_in}
use Rattle.history_model.specs.Walk.{walk_of}
use Rattle.history_model.specs.Ends.{ends_of}
use Rattle.history_model.specs.Refusals.{decision_at}
use Rattle.history_model.specs.Edits.{edited, edited_all}
use Rattle.history_model.specs.Replies.{reply_of, tree_after}
use Rattle.history_model.specs.Histories.{replay_of}
use Rattle.history_model.specs.WorkedTrees.{directory_of, empty_file, new_tree, tree_of_nodes}
use Rattle.history_rules.proofs.SmallTreeLaws.{past_nodes}
use Rattle.history_laws.specs.WorkedSession.{Times, lettered_file, tree_with_directory, tree_with_letters}
use Rattle.history_laws.proofs.WorkedTreesReplayed.{of_mkdir, of_rmdir, of_create, all_elsewhere, tree_is}
use Rattle.worked_session.specs.FourChanges.{root_naming, new_reading, reading_of_directory, reading_of_file, reading_of_letters}
use Rattle.worked_session.specs.FiveEntries.{entry_one, entry_two, entry_three, entry_four, tree_with_file, times_of}

-- past the inodes in use there is none
pub unused_past : (n i : ℕ) → option_and_then used_of (slice_get (replicate n Unused) i) ≡ None
unused_past zero i = refl
unused_past (suc n) zero = refl
unused_past (suc n) (suc i) = unused_past n i

-- the shape of a node that may be there
abbrev shape_at : Blocks → Option UsedInode → Option Node
shape_at x o = option_map shape_of_node (option_map (node_of x) o)

nothing_past : (nodes : List Node) (i : ℕ) → 2 + length nodes ≤ i → shape_of (tree_of_nodes nodes) i ≡ None
unfolding shape_of
nothing_past nodes i past = ap (option_map shape_of_node) (past_nodes nodes i past)

new_at : (x : Blocks) (i : ℕ) → shape_at x (used_at new_reading i) ≡ shape_of new_tree i
unfolding shape_of
new_at x zero = refl
new_at x (suc zero) = refl
new_at x (suc (suc zero)) = refl
new_at x (suc (suc (suc i))) = ap (shape_at x) (unused_past 29 i) ∙ sym (nothing_past (directory_of (new_directory 2 2 ∷ []) ∷ []) (suc (suc (suc i))) (omega arith))

directory_at : (x : Blocks) (i : ℕ) → shape_at x (used_at reading_of_directory i) ≡ shape_of tree_with_directory i
unfolding shape_of
directory_at x zero = refl
directory_at x (suc zero) = refl
directory_at x (suc (suc zero)) = refl
directory_at x (suc (suc (suc zero))) = refl
directory_at x (suc (suc (suc (suc i)))) =
    ap (shape_at x) (unused_past 28 i) ∙ sym (nothing_past (directory_of (root_naming (codes "d") ∷ []) ∷ (directory_of (new_directory 3 2 ∷ []) ∷ [])) (suc (suc (suc (suc i)))) (omega arith))

file_at : (x : Blocks) (i : ℕ) → shape_at x (used_at reading_of_file i) ≡ shape_of tree_with_file i
unfolding shape_of
file_at x zero = refl
file_at x (suc zero) = refl
file_at x (suc (suc zero)) = refl
file_at x (suc (suc (suc zero))) = refl
file_at x (suc (suc (suc (suc i)))) =
    ap (shape_at x) (unused_past 28 i) ∙ sym (nothing_past (directory_of (root_naming (codes "f") ∷ []) ∷ (empty_file ∷ [])) (suc (suc (suc (suc i)))) (omega arith))

letters_at : (x : Blocks) (i : ℕ) → shape_at x (used_at reading_of_letters i) ≡ shape_of tree_with_letters i
unfolding shape_of
letters_at x zero = refl
letters_at x (suc zero) = refl
letters_at x (suc (suc zero)) = refl
letters_at x (suc (suc (suc zero))) = refl
letters_at x (suc (suc (suc (suc i)))) =
    ap (shape_at x) (unused_past 28 i) ∙ sym (nothing_past (directory_of (root_naming (codes "f") ∷ []) ∷ (lettered_file ∷ [])) (suc (suc (suc (suc i)))) (omega arith))

-- a volume that reads so has that shape
shape_by : (x : Blocks) (r : Reading) (tree : Tree) → reading_of smallest x ≡ r → ((i : ℕ) → shape_at x (used_at r i) ≡ shape_of tree i) → shape_of (tree_of smallest x) ≡ shape_of tree
unfolding tree_of shape_of
shape_by x r tree is same = λ t i. (ap (λ (s : Reading). shape_at x (used_at s i)) is ∙ same i) t

pub new_shape : (x : Blocks) → reading_of smallest x ≡ new_reading → shape_of (tree_of smallest x) ≡ shape_of new_tree
new_shape x is = shape_by x new_reading new_tree is (new_at x)

pub directory_shape : (x : Blocks) → reading_of smallest x ≡ reading_of_directory → shape_of (tree_of smallest x) ≡ shape_of tree_with_directory
directory_shape x is = shape_by x reading_of_directory tree_with_directory is (directory_at x)

pub file_shape : (x : Blocks) → reading_of smallest x ≡ reading_of_file → shape_of (tree_of smallest x) ≡ shape_of tree_with_file
file_shape x is = shape_by x reading_of_file tree_with_file is (file_at x)

pub letters_shape : (x : Blocks) → reading_of smallest x ≡ reading_of_letters → shape_of (tree_of smallest x) ≡ shape_of tree_with_letters
letters_shape x is = shape_by x reading_of_letters tree_with_letters is (letters_at x)

-- the trees after the entries
pub after_one : (one : Times) → replay_of smallest 1000 new_tree (entry_one one ∷ []) 1 ≡ tree_with_directory
unfolding replay_of
after_one one = tree_is (λ i. one) 1 (1, omega arith, refl)

pub after_two : (one two : Times) → replay_of smallest 1000 new_tree (entry_one one ∷ (entry_two two ∷ [])) 2 ≡ new_tree
unfolding replay_of
after_two one two = tree_is (times_of one two two two two) 2 (2, omega arith, refl)

by_three : (one two three : Times) → replay_of smallest 1000 new_tree (entry_one one ∷ (entry_two two ∷ (entry_three three ∷ []))) 3 ≡ edited_all (of_mkdir ++ (of_rmdir ++ of_create)) new_tree
unfolding free_blocks_of links_in free_inodes_of walk_of ends_of decision_at edited reply_of tree_after replay_of
by_three one two three = refl

after_three_at : (i : ℕ) → edited_all (of_mkdir ++ (of_rmdir ++ of_create)) new_tree i ≡ tree_with_file i
unfolding edited
after_three_at zero = refl
after_three_at (suc zero) = refl
after_three_at (suc (suc zero)) = refl
after_three_at (suc (suc (suc zero))) = refl
after_three_at (suc (suc (suc (suc i)))) =
    let k = suc (suc (suc (suc i))) in
    let not_two : k ≢ 2 = λ same. omega (arith, same) in
    let not_three : k ≢ 3 = λ same. omega (arith, same) in
    all_elsewhere (of_mkdir ++ (of_rmdir ++ of_create)) new_tree k (not_three, (not_two, (not_two, (not_two, (not_two, (not_three, (not_three, (not_two, (not_two, tt)))))))))
    ∙ past_nodes (directory_of (new_directory 2 2 ∷ []) ∷ []) k (omega arith)
    ∙ sym (past_nodes (directory_of (root_naming (codes "f") ∷ []) ∷ (empty_file ∷ [])) k (omega arith))

pub after_three : (one two three : Times) → replay_of smallest 1000 new_tree (entry_one one ∷ (entry_two two ∷ (entry_three three ∷ []))) 3 ≡ tree_with_file
after_three one two three = by_three one two three ∙ (λ t i. after_three_at i t)

pub after_four : (one two three four : Times) → replay_of smallest 1000 new_tree (entry_one one ∷ (entry_two two ∷ (entry_three three ∷ (entry_four four ∷ [])))) 4 ≡ tree_with_letters
unfolding replay_of tree_after decision_at ends_of walk_of links_in free_inodes_of free_blocks_of edited
after_four one two three four = tree_is (times_of one two three four four) 5 (3, omega arith, refl)
