-- Lists of asks, one after the other.
use Rattle.std.proofs.Common.{◌≡◌, inl, inr, ℕ, List, [], ◌∷◌, ◌++◌, Option, Some, None, refl, sym, ◌∙◌, ap, append_assoc}
use Rattle.std.proofs.lemmas.List.{append-nil}
use Rattle.std.specs.Prelude.{option_map}
use Rattle.host_io.specs.declared.host.Ask.{Ask}
use Rattle.host_io.specs.declared.host.AskKind.{AskKind}
use Rattle.host_io.specs.declared.host.AskAnswer.TheVariants as answers
use Rattle.host_io.specs.declared.host.HostError.{HostError}
use Rattle.host_io.specs.declared.host.HostError.TheVariants as hosts
use Rattle.host_io.specs.Outside.{Outside, after_ask, refused_with}
use Rattle.lufs_top.specs.Run.{AsksInOrder}

-- asks that are added after others
pub added : (a b : List Ask) (old mid new : Option (List Ask)) → mid ≡ option_map (λ asks. asks ++ a) old → new ≡ option_map (λ asks. asks ++ b) mid → new ≡ option_map (λ asks. asks ++ (a ++ b)) old
added a b None mid new first second = second ∙ ap (option_map (λ asks. asks ++ b)) first
added a b (Some asks) mid new first second = second ∙ ap (option_map (λ asks. asks ++ b)) first ∙ ap (λ (l : List Ask). Some l) (append_assoc asks a b)

pub none_added : (asks : Option (List Ask)) → asks ≡ option_map (λ asks. asks ++ []) asks
none_added None = refl
none_added (Some asks) = ap (λ (l : List Ask). Some l) (sym (append-nil asks))

-- no ask is made of these
pub no_asks : (plan : List (AskKind × List ℕ)) (old new : Outside) → new.asks ≡ old.asks → AsksInOrder plan old new
no_asks plan old new same = ([], tt, same ∙ none_added old.asks)

-- the first of these was given, and then the others were asked for
pub given_first : (kind : AskKind) (name : List ℕ) (plan : List (AskKind × List ℕ)) (old mid new : Outside) → mid ≡ after_ask kind name (Some answers.Given) old
    → AsksInOrder plan mid new → AsksInOrder ((kind, name) ∷ plan) old new
given_first kind name plan old mid new taken more =
    let ask : Ask = record { kind = kind; name = name; answer = answers.Given } in
    (ask ∷ more.0, (refl, refl, inr refl, more.1), added (ask ∷ []) more.0 old.asks mid.asks new.asks (ap (λ (o : Outside). o.asks) taken) more.2)

-- the first of these was refused
pub refused_asks : (kind : AskKind) (name : List ℕ) (plan : List (AskKind × List ℕ)) (error : HostError) (old new : Outside) → new.asks ≡ (after_ask kind name (refused_with error) old).asks
    → AsksInOrder ((kind, name) ∷ plan) old new
refused_asks kind name plan hosts.Missing old new is = (record { kind = kind; name = name; answer = answers.Missing } ∷ [], (refl, refl, inl refl, tt), is)
refused_asks kind name plan hosts.Failed old new is = (record { kind = kind; name = name; answer = answers.Failed } ∷ [], (refl, refl, inl refl, tt), is)
refused_asks kind name plan hosts.Mem old new is = no_asks _ old new is
