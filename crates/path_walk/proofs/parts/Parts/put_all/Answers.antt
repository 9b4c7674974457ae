use Rattle.std.proofs.Common.{◌∷◌, ◌++◌, ℕ, List, [], map, ap, ◌∙◌, append_assoc}
use Rattle.std.proofs.lemmas.List.{map-append}
use denote.Ref.{Bor}
use Rattle.path_walk.proofs.parts.Parts.put_all.Goals as goal

pub loop-part-preserved : goal.loop-part-preserved
loop-part-preserved c =
    let l = c.loop-part in
    let bytes = λ (part : Bor (List ℕ)). part.now in
    let part = c.in-Some.part in
    let done = l.invariant.done in
    let left = c.pop.new.self.items in
    record {
      done = part.now ∷ done;
      parts = l.invariant.parts ∙ ap (λ (parts : List (Bor (List ℕ))). map bytes parts ++ done) c.in-Some.ensures.items
          ∙ ap (λ (parts : List (List ℕ)). parts ++ done) (map-append bytes left (part ∷ [])) ∙ append_assoc (map bytes left) (part.now ∷ []) done;
      put = c.in_ok-put.ensures ∙ ap (λ (parts : List (List ℕ)). part.now ∷ parts) l.invariant.put;
    }
