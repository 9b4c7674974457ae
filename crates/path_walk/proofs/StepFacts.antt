-- A step of a walk by the text of the link, if there is one.
use Rattle.std.proofs.Common.{◌≡◌, ℕ, Bool, false, not, ◌&&◌, if◌then◌else◌, List, Option, Some, None, sym, ap, ◌∙◌}
use Rattle.std.specs.Option.{option_map_or}
use Rattle.volume_model.specs.Sound.{Node, File, Directory, Link, Tree}
use Rattle.history_model.specs.Walk.{Ends, Follows, step_on, step_of}
use Rattle.path_walk.specs.Steps.{text_of_node, text_at}

followed : (last follow : Bool) (i : ℕ) (text : List ℕ) (node : Option Node) → (last && not follow) ≡ false → Some text ≡ option_map_or text_of_node node None → step_on last follow i node ≡ Follows text
followed last follow i text None goes is = absurd (cc)
followed last follow i text (Some (File file)) goes is = absurd (cc)
followed last follow i text (Some (Directory directory)) goes is = absurd (cc)
followed last follow i text (Some (Link link)) goes is =
    let same : link.text ≡ text = cc in
    ap (λ (b : Bool). if b then Ends else Follows link.text) goes ∙ ap (λ (t : List ℕ). Follows t) same

-- a link that is followed
pub link_followed : (tree : Tree) (last follow : Bool) (i : ℕ) (text : List ℕ) (found : Option ℕ) → found ≡ Some i → (last && not follow) ≡ false → Some text ≡ text_at tree i
    → Follows text ≡ step_of tree last follow found
link_followed tree last follow i text found some goes is = sym (ap (step_of tree last follow) some ∙ followed last follow i text (tree i) goes is)
