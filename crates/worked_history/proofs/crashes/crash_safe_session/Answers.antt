-- What a crash leaves is the image itself, before the flush and after it.
use Rattle.std.proofs.Common.{◌≡◌, ◌≤◌, ◌<◌, ℕ, zero, suc, ◌/◌, ◌%◌, true, false, List, [], ◌∷◌, Option, Some, None, refl, sym, ap, subst, inl, inr, ◌∙◌, arith, lit≤, lit<}
use Rattle.std.specs.Prelude.{codes, slice_index, slice_get, IfSome, IsSomeAnd}
use Rattle.std.specs.Option.{option_flatten}
use Rattle.tree_types.specs.declared.history.Commit.{Commit}
use Rattle.volume_model.specs.Format.{Image, block}
use Rattle.volume_model.specs.Log.{recovered}
use Rattle.volume_model.specs.Crash.{Outcome, IsOfSectors}
use Rattle.volume_model.specs.Sound.{FileNode, File, Tree, MountsAs, reading_of, used_at, free_blocks_of, free_inodes_of, shape_of}
use Rattle.volume_model.specs.Worked.{smallest}
use Rattle.volume_model.proofs.CrashLaws.{present_is_outcome, one_outcome}
use Rattle.history_model.specs.Places.{links_in}
use Rattle.history_model.specs.Walk.{walk_of}
use Rattle.history_model.specs.Ends.{ends_of}
use Rattle.history_model.specs.Refusals.{decision_at}
use Rattle.history_model.specs.Edits.{edited}
use Rattle.history_model.specs.Replies.{reply_of, tree_after}
use Rattle.history_model.specs.Histories.{replay_of, entry_at}
use Rattle.history_model.specs.Touched.{Settled, touches_byte, tree_before}
use Rattle.history_model.specs.CrashSafety.{byte_named, HasByte, HasKept, RecoversTo, IsBoundary, IsCrashSafeAt}
use Rattle.history_model.specs.WorkedTrees.{directory_of, first_chunk, slot}
use Rattle.worked_history.specs.Images.{file_image, file_of, tree_of_file, first_letters, other_letters, read_and_synced, one_commit, one_flush}
use Rattle.worked_history.proofs.FileImageLaws.{length_there, recovered_there, mounts_there, idents_there, byte_there}
use Rattle.history_rules.proofs.SmallTreeLaws.{past_nodes}
use Rattle.worked_history.proofs.crashes.crash_safe_session.Goals as goal

pub returns-clause-opening : goal.returns-clause-opening
returns-clause-opening c = mounts_there

of_sectors : IsOfSectors one_flush
of_sectors = record { opening = ap (λ (n : ℕ). n % 512) length_there; calls = (tt, tt) }

left_before : (image : Image) → Outcome one_flush 0 image → image ≡ file_image
left_before image is = (one_outcome one_flush 0 image of_sectors refl).0 is

left_after : (image : Image) → Outcome one_flush 1 image → image ≡ file_image
left_after image is = (one_outcome one_flush 1 image of_sectors refl).0 is

-- no entry changes the tree
same_tree : (bytes : List ℕ) (commits : List Commit) → (k : ℕ) → k ≤ 2 → replay_of smallest 1000 (tree_of_file bytes) (read_and_synced commits).entries k ≡ tree_of_file bytes
unfolding free_blocks_of links_in free_inodes_of walk_of ends_of decision_at edited reply_of tree_after replay_of
same_tree bytes commits zero low = refl
same_tree bytes commits (suc zero) low = refl
same_tree bytes commits (suc (suc zero)) low = refl
same_tree bytes commits (suc (suc (suc k))) low = absurd (omega arith)

-- the one file of the tree
file_is : (bytes : List ℕ) (ino : ℕ) (file : FileNode) → tree_of_file bytes ino ≡ Some (File file) → (ino ≡ 3) × (Some (File file) ≡ Some (file_of bytes))
file_is bytes zero file is = absurd (let e : None ≡ Some (File file) = is in cc)
file_is bytes (suc zero) file is = absurd (let e : None ≡ Some (File file) = is in cc)
file_is bytes (suc (suc zero)) file is = absurd (let e : Some (directory_of (first_chunk 2 2 (slot 3 488 (codes "a") ∷ []) ∷ [])) ≡ Some (File file) = is in cc)
file_is bytes (suc (suc (suc zero))) file is = (refl, sym is)
file_is bytes (suc (suc (suc (suc ino)))) file is =
    absurd (let e : None ≡ Some (File file) = sym (past_nodes (directory_of (first_chunk 2 2 (slot 3 488 (codes "a") ∷ []) ∷ []) ∷ (file_of bytes ∷ [])) (suc (suc (suc (suc ino)))) (omega arith)) ∙ is in cc)

kept_byte : (ino p value : ℕ) (file : FileNode) → tree_of_file first_letters ino ≡ Some (File file) → HasByte file p value → HasKept smallest file_image ino p value
kept_byte ino p value file is has =
    let at = file_is first_letters ino file is in
    let same : file ≡ record { attributes = record { rights = 0x1a4; uid = 7; gid = 8; mtime = 2000 }; size = 4096; blocks = Some first_letters ∷ []; pointers = [] } = cc in
    let moved = subst (λ (f : FileNode). HasByte f p value) same has in
    let below : p < 4096 = moved.below in
    let first : p / 4096 ≡ 0 = omega arith in
    let byte : slice_index first_letters (p % 4096) ≡ value =
    subst (λ (k : ℕ). IsSomeAnd (option_flatten (slice_get (Some first_letters ∷ []) k)) (λ bytes. slice_index bytes (p % 4096) ≡ value)) first moved.claimed in
    subst (λ (i : ℕ). HasKept smallest file_image i p value) (sym at.0) (subst (HasKept smallest file_image 3 p) byte (byte_there p below))

-- the image recovers to the first k entries
recovers : (commits : List Commit) (n k : ℕ) → k ≤ 2
    → ((i : ℕ) → IfSome (entry_at (read_and_synced commits).entries i) (λ e. e.sync ≡ true → IfSome e.told (λ told. told ≤ n → i ≤ k)))
    → RecoversTo smallest 1000 (tree_of_file first_letters) (read_and_synced commits) n file_image k
recovers commits n k low told = record {
  mounts = subst (λ (tree : Tree). MountsAs file_image (shape_of tree)) (sym (same_tree first_letters commits k low)) mounts_there;
  told = told;
  bytes = λ ino p value file is has settled.
      subst (λ (o : Option Image). IsSomeAnd o (λ content. HasKept smallest content ino p value)) (sym recovered_there)
      (kept_byte ino p value file (ap (λ (tree : Tree). tree ino) (sym (same_tree first_letters commits k low)) ∙ is) has);
  idents = idents_there;
}

-- before the flush nothing was told of the fsync
none_told : (commits : List Commit) (i : ℕ) → IfSome (entry_at (read_and_synced commits).entries i) (λ e. e.sync ≡ true → IfSome e.told (λ told. told ≤ 0 → i ≤ 0))
none_told commits zero = tt
none_told commits (suc zero) = λ sync. absurd (let e : false ≡ true = sync in cc)
none_told commits (suc (suc zero)) = λ sync past. absurd (let late : 1 ≤ 0 = past in omega arith)
none_told commits (suc (suc (suc i))) = tt

both_there : (i : ℕ) → IfSome (entry_at (read_and_synced one_commit).entries i) (λ e. e.sync ≡ true → IfSome e.told (λ told. told ≤ 1 → i ≤ 2))
both_there zero = tt
both_there (suc zero) = λ sync. absurd (let e : false ≡ true = sync in cc)
both_there (suc (suc zero)) = λ sync past. lit≤ tt
both_there (suc (suc (suc i))) = tt

safe_before : (commits : List Commit) → IsCrashSafeAt smallest 1000 (tree_of_file first_letters) (read_and_synced commits) one_flush 0
safe_before commits image is =
    (0, inl refl, subst (λ (left : Image). RecoversTo smallest 1000 (tree_of_file first_letters) (read_and_synced commits) 0 left 0) (sym (left_before image is)) (recovers commits 0 0 (lit≤ tt) (none_told commits)))

safe_after : IsCrashSafeAt smallest 1000 (tree_of_file first_letters) (read_and_synced one_commit) one_flush 1
safe_after image is =
    (2, inr (0, lit< tt, refl), subst (λ (left : Image). RecoversTo smallest 1000 (tree_of_file first_letters) (read_and_synced one_commit) 1 left 2) (sym (left_after image is)) (recovers one_commit 1 2 (lit≤ tt) both_there))

safe_at : (n : ℕ) → n ≤ 1 → IsCrashSafeAt smallest 1000 (tree_of_file first_letters) (read_and_synced one_commit) one_flush n
safe_at zero high = safe_before one_commit
safe_at (suc zero) high = safe_after
safe_at (suc (suc n)) high = absurd (omega arith)

pub returns-clause-safe : goal.returns-clause-safe
returns-clause-safe c = λ n low high. safe_at n high

pub returns-clause-before_it_was_told : goal.returns-clause-before_it_was_told
returns-clause-before_it_was_told c = safe_before []

pub returns-clause-not_committed : goal.returns-clause-not_committed
returns-clause-not_committed c = λ safe. by_boundary (safe 1 (lit≤ tt) (lit≤ tt) file_image (present_is_outcome one_flush 1 of_sectors)) where
  by_boundary : ((k : ℕ) × IsBoundary (read_and_synced []) k × RecoversTo smallest 1000 (tree_of_file first_letters) (read_and_synced []) 1 file_image k) → ⊥
  by_boundary (k, inl zero_is, recovers_to) = let late : 2 ≤ k = recovers_to.told 2 refl (lit≤ tt) in omega (arith, zero_is, late)
  by_boundary (k, inr inside, recovers_to) = let less : inside.0 < 0 = inside.1 in omega arith

-- the two boundaries
boundary_low : (k : ℕ) → IsBoundary (read_and_synced one_commit) k → k ≤ 2
boundary_low k (inl zero_is) = omega (arith, zero_is)
boundary_low k (inr (zero, less, is)) = let two : 2 ≡ k = is in omega (arith, two)
boundary_low k (inr (suc j, less, is)) = absurd (let past : suc j < 1 = less in omega (arith, past))

-- the opening settles the file, which no entry touches
settled : Settled smallest 1000 (tree_of_file other_letters) (read_and_synced one_commit).entries 0 3 1
settled = (0, record { acknowledged = inl refl; untouched = λ i past. none_began i }) where
  none_began : (i : ℕ) → IfSome (entry_at (read_and_synced one_commit).entries i) (λ e. e.start < 0 → touches_byte (tree_before smallest 1000 (tree_of_file other_letters) (read_and_synced one_commit).entries i) e 3 1 ≡ false)
  none_began zero = tt
  none_began (suc zero) = λ began. absurd (let less : 0 < 0 = began in omega arith)
  none_began (suc (suc zero)) = λ began. absurd (let less : 0 < 0 = began in omega arith)
  none_began (suc (suc (suc i))) = tt

one_value : {X : Type 0} (o : Option X) (f : X → ℕ) (a b : ℕ) → IsSomeAnd o (λ x. f x ≡ a) → IsSomeAnd o (λ x. f x ≡ b) → a ≡ b
one_value None f a b first second = absurd first
one_value (Some x) f a b first second = sym first ∙ second

pub returns-clause-other_byte : goal.returns-clause-other_byte
returns-clause-other_byte c = λ safe. by_boundary (safe file_image (present_is_outcome one_flush 0 of_sectors)) where
  by_boundary : ((k : ℕ) × IsBoundary (read_and_synced one_commit) k × RecoversTo smallest 1000 (tree_of_file other_letters) (read_and_synced one_commit) 0 file_image k) → ⊥
  by_boundary (k, at, recovers_to) =
      let node : FileNode = record { attributes = record { rights = 0x1a4; uid = 7; gid = 8; mtime = 2000 }; size = 4096; blocks = Some other_letters ∷ []; pointers = [] } in
      let is : replay_of smallest 1000 (tree_of_file other_letters) (read_and_synced one_commit).entries k 3 ≡ Some (File node) =
      ap (λ (tree : Tree). tree 3) (same_tree other_letters one_commit k (boundary_low k at)) in
      let kept : IsSomeAnd (recovered smallest file_image) (λ content. HasKept smallest content 3 1 97) = recovers_to.bytes 3 1 97 node is (record { below = lit< tt; claimed = refl }) settled in
      let there : HasKept smallest file_image 3 1 97 = subst (λ (o : Option Image). IsSomeAnd o (λ content. HasKept smallest content 3 1 97)) recovered_there kept in
      let same : 101 ≡ 97 = one_value (used_at (reading_of smallest (block file_image)) 3) (λ u. byte_named file_image u 1) 101 97 (byte_there 1 (lit< tt)) there in
      omega (arith, same)
