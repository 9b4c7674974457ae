-- The text of a link, and a step of a walk as the code says it.
use Rattle.std.specs.Prelude.{ℕ, List, Option, Some, None}
use Rattle.std.specs.Option.{option_map_or}
use Rattle.volume_model.specs.Sound.{Node, File, Directory, Link, Tree}
use Rattle.history_model.specs.Walk.{Step, Ends, Missing, Follows, Goes}
use Rattle.path_walk.specs.declared.steps.Next.{Next}
use Rattle.path_walk.specs.declared.steps.Next.TheVariants as next

-- the text of a node, if it is a link
abbrev pub text_of_node : Node → Option (List ℕ)
text_of_node (File file) = None
text_of_node (Directory directory) = None
text_of_node (Link link) = Some link.text

abbrev pub text_at : Tree → ℕ → Option (List ℕ)
text_at tree i = option_map_or text_of_node (tree i) None

abbrev pub step_taken : Next → Step
step_taken next.End = Ends
step_taken next.Missing = Missing
step_taken (next.Follow text) = Follows text.items
step_taken (next.Go i) = Goes i.0
