-- What a crash of the worked session leaves, by what is proved of each session.
use Rattle.std.proofs.Common.{◌≡◌, ◌≤◌, ◌<◌, ℕ, zero, suc, true, List, [], ◌∷◌, Option, Some, None, refl, sym, subst, inl, inr, ◌∙◌, lit<, arith}
use Rattle.std.specs.Prelude.{◌++◌, Contains, IfSome, IsSomeAnd, map, replicate, slice_index}
use Rattle.tree_types.specs.declared.history.Entry.{Entry}
use Rattle.volume_model.specs.Format.{Image}
use Rattle.volume_model.specs.Log.{recovered}
use Rattle.volume_model.specs.Sound.{FileNode, File, Tree, MountsAs, shape_of}
use Rattle.volume_model.specs.Worked.{smallest}
use Rattle.history_model.specs.Histories.{History, entry_at, replay_of}
use Rattle.history_model.specs.Touched.{Settled}
use Rattle.history_model.specs.CrashSafety.{HasByte, HasKept, IsBoundary, RecoversTo}
use Rattle.history_model.specs.WorkedTrees.{with_rights, new_tree}
use Rattle.history_laws.specs.WorkedSession.{Times, letters, five_entries, committed_at, tree_at, HasLetters, IsLeftBy}
use Rattle.history_laws.proofs.WorkedTreesReplayed.{tree_is}
use Rattle.history_laws.proofs.WorkedBytesSettled.{once_told}

one_of : (h : History) (k : ℕ) → map (λ c. c.boundary) h.commits ≡ committed_at → IsBoundary h k → Contains (0 ∷ committed_at) k
one_of h k same (inl none) = (0, lit< tt, sym none)
one_of h k same (inr inside) = by_place (subst (λ (boundaries : List ℕ). Contains boundaries k) same inside) where
  by_place : Contains committed_at k → Contains (0 ∷ committed_at) k
  by_place (zero, less, is) = (1, lit< tt, is)
  by_place (suc zero, less, is) = (2, lit< tt, is)
  by_place (suc (suc zero), less, is) = (3, lit< tt, is)
  by_place (suc (suc (suc i)), less, is) = absurd (let past : suc (suc (suc i)) < 3 = less in omega arith)

last_one : (k : ℕ) → Contains (0 ∷ committed_at) k → 5 ≤ k → k ≡ 5
last_one k (zero, less, is) high = let e : 0 ≡ k = is in omega (arith, e, high)
last_one k (suc zero, less, is) high = let e : 1 ≡ k = is in omega (arith, e, high)
last_one k (suc (suc zero), less, is) high = let e : 2 ≡ k = is in omega (arith, e, high)
last_one k (suc (suc (suc zero)), less, is) high = sym is
last_one k (suc (suc (suc (suc i))), less, is) high = absurd (let past : suc (suc (suc (suc i))) < 4 = less in omega arith)

abbrev the_file : FileNode
the_file = record { attributes = with_rights 0x1a4; size = 3; blocks = Some (letters ++ replicate 4093 0) ∷ []; pointers = [] }

has_letter : (p : ℕ) → p < 3 → HasByte the_file p (slice_index letters p)
has_letter zero less = record { below = less; claimed = refl }
has_letter (suc zero) less = record { below = less; claimed = refl }
has_letter (suc (suc zero)) less = record { below = less; claimed = refl }
has_letter (suc (suc (suc p))) less = absurd (omega arith)

by_reply : (o : Option ℕ) (n k : ℕ) (image : Image) → Contains (0 ∷ committed_at) k → IfSome o (λ told. told ≤ n → 5 ≤ k)
    → ((told : ℕ) → o ≡ Some told → told ≤ n → k ≡ 5 → HasLetters image) → IfSome o (λ told. told ≤ n → (k ≡ 5) × HasLetters image)
by_reply None n k image is owed there = tt
by_reply (Some told) n k image is owed there = λ low. let five : k ≡ 5 = last_one k is (owed low) in (five, there told refl low five)

pub left_by : (when : ℕ → Times) (h : History) (n k : ℕ) (image : Image) → h.entries ≡ five_entries when → map (λ c. c.boundary) h.commits ≡ committed_at
    → IsBoundary h k → RecoversTo smallest 1000 new_tree h n image k → IsLeftBy when n image
left_by when h n k image same commits boundary recovers =
    let is : Contains (0 ∷ committed_at) k = one_of h k commits boundary in
    let mounts : MountsAs image (shape_of (replay_of smallest 1000 new_tree (five_entries when) k)) =
    subst (λ (entries : List Entry). MountsAs image (shape_of (replay_of smallest 1000 new_tree entries k))) same recovers.mounts in
    let owed : IfSome (when 5).told (λ told. told ≤ n → 5 ≤ k) =
    subst (λ (entries : List Entry). IfSome (entry_at entries 5) (λ e. e.sync ≡ true → IfSome e.told (λ told. told ≤ n → 5 ≤ k))) same (recovers.told 5) refl in
    let bytes : (p value : ℕ) (file : FileNode) → replay_of smallest 1000 new_tree (five_entries when) k 3 ≡ Some (File file) → HasByte file p value
    → Settled smallest 1000 new_tree (five_entries when) n 3 p → IsSomeAnd (recovered smallest image) (λ content. HasKept smallest content 3 p value) =
    subst (λ (entries : List Entry). (p value : ℕ) (file : FileNode) → replay_of smallest 1000 new_tree entries k 3 ≡ Some (File file) → HasByte file p value
    → Settled smallest 1000 new_tree entries n 3 p → IsSomeAnd (recovered smallest image) (λ content. HasKept smallest content 3 p value)) same
    (λ p value file. recovers.bytes 3 p value file) in
    let at : replay_of smallest 1000 new_tree (five_entries when) k ≡ tree_at k = tree_is when k is in
    record {
      boundary = k;
      is = is;
      mounts = subst (λ (tree : Tree). MountsAs image (shape_of tree)) at mounts;
      told = by_reply (when 5).told n k image is owed (λ told said low five p less.
          let node : tree_at k 3 ≡ Some (File the_file) = subst (λ (k : ℕ). tree_at k 3 ≡ Some (File the_file)) (sym five) refl in
          bytes p (slice_index letters p) the_file ((λ t. at t 3) ∙ node) (has_letter p less) (once_told when told n p said low));
    }
