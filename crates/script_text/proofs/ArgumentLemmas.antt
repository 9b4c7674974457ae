-- A call made of its arguments.
use Rattle.std.proofs.Common.{◌≡◌, ℕ, List, [], ◌∷◌, Some, None, refl}
use Rattle.std.specs.Prelude.{Option, option_and_then, option_map}
use Rattle.tree_types.specs.declared.call.Call.{Call}
use Rattle.history_model.specs.Numbers.{mode_of}
use Rattle.history_model.specs.Lines.{path_of, Arguments, one_path, two_paths, path_and_mode}
use Rattle.script_text.specs.Arguments.{only_path, path_pair, path_mode_pair}

pub one_path_is : (make : List ℕ → Call) (words : Arguments) → one_path make words ≡ option_map make (only_path words)
one_path_is make [] = refl
one_path_is make (path ∷ []) = refl
one_path_is make (path ∷ (more ∷ words)) = refl

mapped_twice : {X Y Z : Type 0} (make : X → Y → Z) (first : Option X) (second : Option Y)
    → option_and_then (λ x. option_map (make x) second) first ≡ option_map (λ (pair : X × Y). make pair.0 pair.1) (option_and_then (λ x. option_map (λ y. (x, y)) second) first)
mapped_twice make None second = refl
mapped_twice make (Some x) None = refl
mapped_twice make (Some x) (Some y) = refl

pub two_paths_are : (make : List ℕ → List ℕ → Call) (words : Arguments) → two_paths make words ≡ option_map (λ pair. make pair.0 pair.1) (path_pair words)
two_paths_are make [] = refl
two_paths_are make (old ∷ []) = refl
two_paths_are make (old ∷ (new ∷ [])) = mapped_twice make (path_of old) (path_of new)
two_paths_are make (old ∷ (new ∷ (more ∷ words))) = refl

pub path_and_mode_are : (make : List ℕ → ℕ → Call) (words : Arguments) → path_and_mode make words ≡ option_map (λ pair. make pair.0 pair.1) (path_mode_pair words)
path_and_mode_are make [] = refl
path_and_mode_are make (path ∷ []) = refl
path_and_mode_are make (path ∷ (mode ∷ [])) = mapped_twice make (path_of path) (mode_of mode)
path_and_mode_are make (path ∷ (mode ∷ (more ∷ words))) = refl
