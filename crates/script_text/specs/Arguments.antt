-- What the words after the first one give to a call.
use Rattle.std.specs.Prelude.{ℕ, List, [], ◌∷◌, Option, None, option_and_then, option_map}
use Rattle.history_model.specs.Numbers.{mode_of}
use Rattle.history_model.specs.Lines.{path_of, Arguments}

-- the one path
abbrev pub only_path : Arguments → Option (List ℕ)
only_path (path ∷ []) = path_of path
only_path words = None

-- two paths
abbrev pub path_pair : Arguments → Option (List ℕ × List ℕ)
path_pair (old ∷ (new ∷ [])) = option_and_then (λ p. option_map (λ q. (p, q)) (path_of new)) (path_of old)
path_pair words = None

-- a path and rights
abbrev pub path_mode_pair : Arguments → Option (List ℕ × ℕ)
path_mode_pair (path ∷ (mode ∷ [])) = option_and_then (λ p. option_map (λ m. (p, m)) (mode_of mode)) (path_of path)
path_mode_pair words = None
