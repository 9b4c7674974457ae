-- What is answered of an inode in a store, by what the records of its content say.
use Rattle.std.specs.Prelude.{◌≡◌, ℕ, false, Result, IfSome, IfOk}
use Rattle.volume_model.specs.Format.{block}
use Rattle.volume_model.specs.Sound.{Reading, reading_of, has_bad_numbers, FileNode, tree_of}
use Rattle.history_model.specs.Places.{file_in}
use Rattle.meta_store.specs.declared.error.StoreError.{StoreError}
use Rattle.meta_store.specs.Store.{StoreTold}

-- Where the content is told, and no number in the record of inode i is wrong, what is answered at Ok is as P says of the
-- reading.
abbrev pub AnswersOfReading : {T : Type 0} → StoreTold → (i : ℕ) → (P : Reading → T → Type 0) → Result T StoreError → Type 0
AnswersOfReading told i P result =
    IfSome told.content (λ image. has_bad_numbers told.geometry (reading_of told.geometry (block image)) i ≡ false
    → IfOk result (P (reading_of told.geometry (block image))))

-- The same where inode i is a file of the tree, as P says of that file.
abbrev pub AnswersOfFile : {T : Type 0} → StoreTold → (i : ℕ) → (P : FileNode → T → Type 0) → Result T StoreError → Type 0
AnswersOfFile told i P result =
    IfSome told.content (λ image. has_bad_numbers told.geometry (reading_of told.geometry (block image)) i ≡ false
    → IfSome (file_in (tree_of told.geometry (block image)) i) (λ file. IfOk result (P file)))
