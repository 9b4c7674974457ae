-- What is answered of a directory in a store, by the tree of its content.
use Rattle.std.specs.Prelude.{◌≡◌, ℕ, false, Result, IfSome, IfOk}
use Rattle.volume_model.specs.Format.{block}
use Rattle.volume_model.specs.Sound.{reading_of, has_bad_numbers, Tree, tree_of}
use Rattle.meta_store.specs.declared.error.StoreError.{StoreError}
use Rattle.meta_store.specs.Store.{StoreTold}

-- Where the content is told, and no number in the record of inode `dir` is wrong, what is answered at Ok is as P says of the
-- tree.
abbrev pub AnswersOfTree : {T : Type 0} → StoreTold → (dir : ℕ) → (P : Tree → T → Type 0) → Result T StoreError → Type 0
AnswersOfTree told dir P result =
    IfSome told.content (λ image. has_bad_numbers told.geometry (reading_of told.geometry (block image)) dir ≡ false
    → IfOk result (P (tree_of told.geometry (block image))))
