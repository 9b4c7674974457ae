use Rattle.std.proofs.Common.{◌≡◌, List, ℕ, ◌++◌, Some, None, sym, ◌∙◌, ap}
use Rattle.std.specs.Prelude.{bytes_eq}
use Rattle.std.proofs.lemmas.Bool.Decides.{Decides-eqb}
use Rattle.std.proofs.lemmas.Slice.Eq.{strip_prefix_is}
use Rattle.lufs_top.proofs.NameTests.{suffix_told}
use Rattle.lufs_top.proofs.words.is_suffixed.Goals as goal

pub returns-in-Some : goal.returns-in-Some
returns-in-Some c =
    let rest = c.in-Some.rest.now in
    let split : c.as_bytes.result.now ≡ c.as_bytes-2.result.now ++ rest = strip_prefix_is Decides-eqb c.as_bytes.result.now c.as_bytes-2.result.now (Some c.in-Some.rest) c.in-Some.ensures.cases in
    suffix_told c.args.name.now c.args.stem.now rest c.args.suffix.now c.eq.result
    (sym c.as_bytes.ensures.value ∙ split ∙ ap (λ (l : List ℕ). l ++ rest) c.as_bytes-2.ensures.value)
    (c.eq.ensures ∙ ap (bytes_eq rest) c.as_bytes-in-Some.ensures.value)

pub returns-in-None : goal.returns-in-None
returns-in-None c =
    let none = strip_prefix_is Decides-eqb c.as_bytes.result.now c.as_bytes-2.result.now None c.in-None.ensures.cases in
    (λ no. absurd (cc (no)), λ same. absurd (none c.args.suffix.now (c.as_bytes.ensures.value ∙ same ∙ ap (λ (l : List ℕ). l ++ c.args.suffix.now) (sym c.as_bytes-2.ensures.value))))
