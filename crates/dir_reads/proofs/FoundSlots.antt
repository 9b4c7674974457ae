-- What is found in the chunks of a directory is what the tree says of it.
use Rattle.std.proofs.Common.{◌≡◌, ℕ, eqb, Bool, true, false, not, ◌||◌, cond, List, [], ◌∷◌, ◌++◌, length, Option, Some, None, Result, Ok, Err, IfSome, IfOk, refl, sym, ap, subst, ◌∙◌, arith}
use Rattle.std.specs.Prelude.{find}
use Rattle.std.specs.List.{filter, list_any}
use Rattle.std.specs.Option.{option_map, option_map_or, option_or}
use Rattle.std.proofs.lemmas.Bool.{ne_eqb}
use Rattle.std.proofs.lemmas.List.Folds.{find-append, list_any-append}
use Rattle.lufs_base.specs.declared.geometry.Geometry.{Geometry}
use Rattle.volume_model.specs.declared.directory.Slot.{Slot}
use Rattle.volume_model.specs.Format.{Image, block}
use Rattle.volume_model.specs.Sound.{Node, Tree, reading_of, has_bad_numbers, tree_of}
use Rattle.meta_store.specs.declared.error.StoreError.{StoreError}
use Rattle.history_model.specs.Places.{chunks_of_node, chunks_in, slots_in_node, directory_slots, has_name, lookup}
use Rattle.history_model.specs.Refusals.{is_empty_in}
use Rattle.dir_reads.specs.Chunks.{chunks_of, slots_in, first_inode, IsOpened}
use Rattle.history_model.specs.Names.{in_order, names_after}
use Rattle.dir_reads.specs.Names.{is_entry, names_in, first_names}
use Rattle.dir_reads.specs.declared.chunk_list.Opened.{Opened}

-- What holds of the chunks of the opened directory holds of the tree.
pub on_tree : {T X : Type 0} (h : T → X) (F : List (List Slot) → X) (G : Tree → X) (content now : Option Image) (g : Geometry) (dir : ℕ) (opened : Opened) (result : Result T StoreError)
    → now ≡ content → ((tree : Tree) → G tree ≡ F (chunks_in tree dir)) → IfSome content (λ image. IsOpened g (block image) dir opened)
    → IfSome now (λ image. IfOk result (λ x. h x ≡ F (chunks_of (block image) opened)))
    → IfSome content (λ image. has_bad_numbers g (reading_of g (block image)) dir ≡ false → IfOk result (λ x. h x ≡ G (tree_of g (block image))))
on_tree h F G None now g dir opened result same by opens read = tt
on_tree h F G (Some image) now g dir opened (Err error) same by opens read = λ right. tt
on_tree h F G (Some image) now g dir opened (Ok x) same by opens read = λ right.
    let here = subst (λ (o : Option Image). IfSome o (λ i. h x ≡ F (chunks_of (block i) opened))) same read in
    here ∙ sym (by (tree_of g (block image)) ∙ ap F (opens right))

slots_by_chunks : (o : Option Node) → option_map_or slots_in_node o [] ≡ slots_in (option_map_or chunks_of_node o [])
slots_by_chunks None = refl
slots_by_chunks (Some node) = refl

-- the slots of a directory are those of its chunks
pub slots_in_tree : (tree : Tree) (i : ℕ) → directory_slots tree i ≡ slots_in (chunks_in tree i)
slots_in_tree tree i = slots_by_chunks (tree i)

pub looked_up : (dir : ℕ) (name : List ℕ) (tree : Tree) → lookup tree dir name ≡ first_inode name (slots_in (chunks_in tree dir))
looked_up dir name tree = ap (first_inode name) (slots_in_tree tree dir)

map_or : {T U : Type 0} (f : T → U) (a b : Option T) → option_map f (option_or a b) ≡ option_or (option_map f a) (option_map f b)
map_or f None b = refl
map_or f (Some x) b = refl

-- the first in some slots, and else in those that follow
first_append : (name : List ℕ) (xs ys : List Slot) → first_inode name (xs ++ ys) ≡ option_or (first_inode name xs) (first_inode name ys)
first_append name xs ys =
    ap (option_map (λ s. s.ino)) (find-append (has_name name) xs ys) ∙ map_or (λ (s : Slot). s.ino) (find (has_name name) xs) (find (has_name name) ys)

-- none in this chunk
pub not_here : (name : List ℕ) (chunk : List Slot) (found : Option ℕ) → found ≡ first_inode name chunk → found ≡ None → (rest : List (List Slot))
    → first_inode name (slots_in (chunk ∷ rest)) ≡ first_inode name (slots_in rest)
not_here name chunk found is none rest =
    first_append name chunk (slots_in rest) ∙ ap (λ (o : Option ℕ). option_or o (first_inode name (slots_in rest))) (sym is ∙ none)

-- one in this chunk
pub found_here : (name : List ℕ) (chunk : List Slot) (found : Option ℕ) (i : ℕ) → found ≡ first_inode name chunk → found ≡ Some i → (rest : List (List Slot))
    → first_inode name (slots_in (chunk ∷ rest)) ≡ Some i
found_here name chunk found i is some rest =
    first_append name chunk (slots_in rest) ∙ ap (λ (o : Option ℕ). option_or o (first_inode name (slots_in rest))) (sym is ∙ some)

any_in_chunks : (p : Slot → Bool) (chunks : List (List Slot)) → list_any p (slots_in chunks) ≡ list_any (list_any p) chunks
any_in_chunks p [] = refl
any_in_chunks p (chunk ∷ chunks) =
    list_any-append p chunk (slots_in chunks) ∙ ap (λ (b : Bool). list_any p chunk || b) (any_in_chunks p chunks)

none_left : (p : Slot → Bool) (slots : List Slot) → eqb (length (filter p slots)) 0 ≡ not (list_any p slots)
none_left p [] = refl
none_left p (s ∷ slots) = elim (p s) as (λ b. eqb (length (cond b (s ∷ filter p slots) (filter p slots))) 0 ≡ not (b || list_any p slots)) [
  | true ↦ ne_eqb _ _ (omega arith)
  | false ↦ none_left p slots
]

-- a directory is empty where no chunk names anything
pub empty_by_chunks : (dir : ℕ) (tree : Tree) → is_empty_in tree dir ≡ not (list_any (list_any is_entry) (chunks_in tree dir))
empty_by_chunks dir tree =
    none_left is_entry (directory_slots tree dir)
    ∙ ap (λ (slots : List Slot). not (list_any is_entry slots)) (slots_in_tree tree dir)
    ∙ ap not (any_in_chunks is_entry (chunks_in tree dir))

-- a chunk that the test passes, and one that it doesn't
pub any_here : (f : List Slot → Bool) (chunk : List Slot) (test : Bool) → test ≡ f chunk → test ≡ true → (rest : List (List Slot)) → list_any f (chunk ∷ rest) ≡ true
any_here f chunk test is so rest = ap (λ (b : Bool). b || list_any f rest) (sym is ∙ so)

pub none_here : (f : List Slot → Bool) (chunk : List Slot) (test : Bool) → test ≡ f chunk → test ≡ false → (rest : List (List Slot)) → list_any f (chunk ∷ rest) ≡ list_any f rest
none_here f chunk test is not_so rest = ap (λ (b : Bool). b || list_any f rest) (sym is ∙ not_so)

-- the same of the opposite answer
pub told_not : (content : Option Image) (opened : Opened) (some : Bool) (F : List (List Slot) → Bool) → IfSome content (λ image. some ≡ F (chunks_of (block image) opened))
    → IfSome content (λ image. not some ≡ not (F (chunks_of (block image) opened)))
told_not None opened some F told = tt
told_not (Some image) opened some F told = ap not told

-- the names of a directory are those of its chunks
pub names_listed : (dir most : ℕ) (after : Option (List ℕ)) (tree : Tree)
    → ◌≡◌ {A = List (List ℕ) × Bool} (first_names most (names_after tree dir after)) (first_names most (in_order (names_in after (slots_in (chunks_in tree dir)))))
names_listed dir most after tree = ap (λ (slots : List Slot). first_names most (in_order (names_in after slots))) (slots_in_tree tree dir)
