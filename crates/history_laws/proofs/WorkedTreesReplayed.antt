-- The trees of the worked session, number by number.
use Rattle.std.proofs.Common.{◌≡◌, ◌≢◌, ◌≤◌, ◌<◌, ℕ, zero, suc, List, [], ◌∷◌, Some, None, refl, sym, subst, ◌∙◌, arith}
use Rattle.std.specs.Prelude.{Contains, codes, ◌++◌}
use Rattle.std.specs.List.{AllByRecursion}
use Rattle.volume_model.specs.Format.{new_directory}
use Rattle.volume_model.specs.Sound.{File, Tree, dot_dot, free_blocks_of, free_inodes_of}
use Rattle.volume_model.specs.Worked.{smallest}
use Rattle.history_model.specs.Places.{links_in}
use Rattle.history_model.specs.Walk.{walk_of}
use Rattle.history_model.specs.Ends.{ends_of}
use Rattle.history_model.specs.FileBytes.{written}
use Rattle.history_model.specs.Lines.{first_caller}
use Rattle.history_model.specs.Refusals.{decision_at}
use Rattle.history_model.specs.Edits.{Edit, Make, Drop, Enter, TakeOut, Point, SetParent, SetAttributes, SetTime, SetFile, entered_in, taken_out_of, pointed_in, on_chunks, with_attributes, with_time, edited, edited_all}
use Rattle.history_model.specs.Effects.{new_file, new_subdirectory}
use Rattle.history_model.specs.Replies.{reply_of, tree_after}
use Rattle.history_model.specs.Histories.{replay_of}
use Rattle.history_model.specs.WorkedTrees.{with_rights, directory_of, new_tree, first_chunk, slot}
use Rattle.history_rules.proofs.SmallTreeLaws.{past_nodes}
use Rattle.history_rules.proofs.NodeLaws.{with_node-other, on_node-other}
use Rattle.history_laws.specs.WorkedSession.{Times, letters, five_entries, committed_at, tree_with_directory, lettered_file, tree_with_letters, tree_at}

-- the inode that an edit changes
abbrev pub at_edit : Edit → ℕ
at_edit (Make i node) = i
at_edit (Drop i) = i
at_edit (Enter dir name i) = dir
at_edit (TakeOut dir name) = dir
at_edit (Point dir name i) = dir
at_edit (SetParent dir parent) = dir
at_edit (SetAttributes i a) = i
at_edit (SetTime i moment) = i
at_edit (SetFile i file) = i

edit_elsewhere : (edit : Edit) (tree : Tree) (k : ℕ) → k ≢ at_edit edit → edited edit tree k ≡ tree k
unfolding edited
edit_elsewhere (Make i node) tree k other = with_node-other tree i k (Some node) other
edit_elsewhere (Drop i) tree k other = with_node-other tree i k None other
edit_elsewhere (Enter dir name i) tree k other = on_node-other tree dir k (on_chunks (λ chunks. entered_in chunks name i)) other
edit_elsewhere (TakeOut dir name) tree k other = on_node-other tree dir k (on_chunks (λ chunks. taken_out_of chunks name)) other
edit_elsewhere (Point dir name i) tree k other = on_node-other tree dir k (on_chunks (λ chunks. pointed_in chunks name i)) other
edit_elsewhere (SetParent dir parent) tree k other = on_node-other tree dir k (on_chunks (λ chunks. pointed_in chunks dot_dot parent)) other
edit_elsewhere (SetAttributes i a) tree k other = on_node-other tree i k (with_attributes a) other
edit_elsewhere (SetTime i moment) tree k other = on_node-other tree i k (with_time moment) other
edit_elsewhere (SetFile i file) tree k other = with_node-other tree i k (Some (File file)) other

pub all_elsewhere : (edits : List Edit) (tree : Tree) (k : ℕ) → AllByRecursion (λ e. k ≢ at_edit e) edits → edited_all edits tree k ≡ tree k
all_elsewhere [] tree k others = refl
all_elsewhere (edit ∷ edits) tree k others = all_elsewhere edits (edited edit tree) k others.1 ∙ edit_elsewhere edit tree k others.0

-- the edits of the four calls that change the tree
abbrev pub of_mkdir : List Edit
of_mkdir = Make 3 (new_subdirectory first_caller 0x1ed 1000 3 2) ∷ (Enter 2 (codes "d") 3 ∷ (SetTime 2 1000 ∷ []))

abbrev pub of_rmdir : List Edit
of_rmdir = TakeOut 2 (codes "d") ∷ (SetTime 2 1000 ∷ (Drop 3 ∷ []))

abbrev pub of_create : List Edit
of_create = Make 3 (new_file first_caller 0x1a4 1000) ∷ (Enter 2 (codes "f") 3 ∷ (SetTime 2 1000 ∷ []))

abbrev pub of_write : List Edit
of_write = SetFile 3 (written (record { attributes = with_rights 0x1a4; size = 0; blocks = []; pointers = [] }) 0 letters) ∷ (SetTime 3 1000 ∷ [])

by_edits : (when : ℕ → Times) → replay_of smallest 1000 new_tree (five_entries when) 1 ≡ edited_all of_mkdir new_tree
unfolding free_blocks_of links_in free_inodes_of walk_of ends_of decision_at edited reply_of tree_after replay_of
by_edits when = refl

by_two : (when : ℕ → Times) → replay_of smallest 1000 new_tree (five_entries when) 2 ≡ edited_all (of_mkdir ++ of_rmdir) new_tree
unfolding free_blocks_of links_in free_inodes_of walk_of ends_of decision_at edited reply_of tree_after replay_of
by_two when = refl

by_all : (when : ℕ → Times) → replay_of smallest 1000 new_tree (five_entries when) 5 ≡ edited_all (of_mkdir ++ (of_rmdir ++ (of_create ++ of_write))) new_tree
unfolding free_blocks_of links_in free_inodes_of walk_of ends_of decision_at edited reply_of tree_after replay_of
by_all when = refl

past_root : (k : ℕ) → 4 ≤ k → new_tree k ≡ None
past_root k past = past_nodes (directory_of (new_directory 2 2 ∷ []) ∷ []) k (omega arith)

not_two : (k : ℕ) → 4 ≤ k → k ≢ 2
not_two k past same = omega (arith, past, same)

not_three : (k : ℕ) → 4 ≤ k → k ≢ 3
not_three k past same = omega (arith, past, same)

made_past : (when : ℕ → Times) (k : ℕ) → 4 ≤ k → replay_of smallest 1000 new_tree (five_entries when) 1 k ≡ tree_with_directory k
made_past when k past =
    let two = not_two k past in
    let three = not_three k past in
    (λ t. by_edits when t k) ∙ all_elsewhere of_mkdir new_tree k (three, (two, (two, tt))) ∙ past_root k past
    ∙ sym (past_nodes (directory_of (first_chunk 2 2 (slot 3 488 (codes "d") ∷ []) ∷ []) ∷ (directory_of (new_directory 3 2 ∷ []) ∷ [])) k (omega arith))

removed_past : (when : ℕ → Times) (k : ℕ) → 4 ≤ k → replay_of smallest 1000 new_tree (five_entries when) 2 k ≡ new_tree k
removed_past when k past =
    let two = not_two k past in
    let three = not_three k past in
    (λ t. by_two when t k) ∙ all_elsewhere (of_mkdir ++ of_rmdir) new_tree k (three, (two, (two, (two, (two, (three, tt))))))

synced_past : (when : ℕ → Times) (k : ℕ) → 4 ≤ k → replay_of smallest 1000 new_tree (five_entries when) 5 k ≡ tree_with_letters k
synced_past when k past =
    let two = not_two k past in
    let three = not_three k past in
    (λ t. by_all when t k) ∙ all_elsewhere (of_mkdir ++ (of_rmdir ++ (of_create ++ of_write))) new_tree k
    (three, (two, (two, (two, (two, (three, (three, (two, (two, (three, (three, tt))))))))))) ∙ past_root k past
    ∙ sym (past_nodes (directory_of (first_chunk 2 2 (slot 3 488 (codes "f") ∷ []) ∷ []) ∷ (lettered_file ∷ [])) k (omega arith))

none_yet : (when : ℕ → Times) → replay_of smallest 1000 new_tree (five_entries when) 0 ≡ new_tree
unfolding replay_of
none_yet when = refl

directory_made : (when : ℕ → Times) (i : ℕ) → replay_of smallest 1000 new_tree (five_entries when) 1 i ≡ tree_with_directory i
unfolding free_blocks_of links_in free_inodes_of walk_of ends_of decision_at edited reply_of tree_after replay_of
directory_made when zero = refl
directory_made when (suc zero) = refl
directory_made when (suc (suc zero)) = refl
directory_made when (suc (suc (suc zero))) = refl
directory_made when (suc (suc (suc (suc i)))) = made_past when (suc (suc (suc (suc i)))) (omega arith)

directory_removed : (when : ℕ → Times) (i : ℕ) → replay_of smallest 1000 new_tree (five_entries when) 2 i ≡ new_tree i
unfolding free_blocks_of links_in free_inodes_of walk_of ends_of decision_at edited reply_of tree_after replay_of
directory_removed when zero = refl
directory_removed when (suc zero) = refl
directory_removed when (suc (suc zero)) = refl
directory_removed when (suc (suc (suc zero))) = refl
directory_removed when (suc (suc (suc (suc i)))) = removed_past when (suc (suc (suc (suc i)))) (omega arith)

file_synced : (when : ℕ → Times) (i : ℕ) → replay_of smallest 1000 new_tree (five_entries when) 5 i ≡ tree_with_letters i
unfolding free_blocks_of links_in free_inodes_of walk_of ends_of decision_at edited reply_of tree_after replay_of
file_synced when zero = refl
file_synced when (suc zero) = refl
file_synced when (suc (suc zero)) = refl
file_synced when (suc (suc (suc zero))) = refl
file_synced when (suc (suc (suc (suc i)))) = synced_past when (suc (suc (suc (suc i)))) (omega arith)

pub tree_is : (when : ℕ → Times) (k : ℕ) → Contains (0 ∷ committed_at) k → replay_of smallest 1000 new_tree (five_entries when) k ≡ tree_at k
tree_is when k (zero, less, is) = subst (λ (k : ℕ). replay_of smallest 1000 new_tree (five_entries when) k ≡ tree_at k) is (none_yet when)
tree_is when k (suc zero, less, is) = subst (λ (k : ℕ). replay_of smallest 1000 new_tree (five_entries when) k ≡ tree_at k) is (λ t i. directory_made when i t)
tree_is when k (suc (suc zero), less, is) = subst (λ (k : ℕ). replay_of smallest 1000 new_tree (five_entries when) k ≡ tree_at k) is (λ t i. directory_removed when i t)
tree_is when k (suc (suc (suc zero)), less, is) = subst (λ (k : ℕ). replay_of smallest 1000 new_tree (five_entries when) k ≡ tree_at k) is (λ t i. file_synced when i t)
tree_is when k (suc (suc (suc (suc i))), less, is) = absurd (let past : suc (suc (suc (suc i))) < 4 = less in omega arith)
