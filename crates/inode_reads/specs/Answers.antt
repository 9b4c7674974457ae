-- What is answered of a store, by the tree that its content stands for.
use Rattle.std.specs.Prelude.{Result, List, IfSome, IfOk}
use Rattle.volume_model.specs.declared.hand.Hand.{Hand}
use Rattle.volume_model.specs.Format.{block}
use Rattle.volume_model.specs.Sound.{Tree, StandsFor}
use Rattle.meta_store.specs.Store.{StoreTold}

-- Where the content is told and stands for a tree while something is held, what is answered at Ok is as P says of that tree.
abbrev pub AnswersByTree : {T E : Type 0} → StoreTold → (P : Tree → T → Type 0) → Result T E → Type 0
AnswersByTree told P result =
    IfSome told.content (λ image. (tree : Tree) (hands : List Hand) → StandsFor told.geometry (block image) tree hands → IfOk result (P tree))
