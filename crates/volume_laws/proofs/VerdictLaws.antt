-- What a check answers, and whether the volume is sound.
use Rattle.std.proofs.Common.{◌≡◌, ◌↔◌, ℕ, [], Option, Some, None, refl, sym, ◌∙◌, ap, arith}
use Rattle.std.proofs.lemmas.List.Elements.{All-nil}
use Rattle.lufs_base.specs.declared.geometry.Geometry.{Geometry}
use Rattle.volume_model.specs.declared.finding.Kind.{Kind}
use Rattle.volume_model.specs.declared.finding.Counts.{Counts}
use Rattle.volume_model.specs.declared.finding.Verdict.TheVariants.{Clean, Finding}
use Rattle.volume_model.specs.Format.{Blocks}
use Rattle.volume_model.specs.Sound.{Reading, reading_of, AreApart, Sound, finding_of, counts_of, verdict_on, verdict_of}

-- nothing is held twice where nothing is held
none_held : (g : Geometry) (r : Reading) → AreApart g r []
none_held g r = record {
  inodes = λ i j d before inside. absurd (omega arith);
  blocks = λ i j d before inside. absurd (omega arith);
  inodes_usable = All-nil _;
  inodes_free = All-nil _;
  blocks_body = All-nil _;
  blocks_free = All-nil _;
}

answer_clean : (g : Geometry) (r : Reading) (o : Option (Kind × ℕ)) (counts : Counts) → verdict_on g r o ≡ Clean counts → (o ≡ None) × (counts ≡ counts_of g r)
answer_clean g r None counts is = (refl, let same : counts ≡ counts_of g r = cc in same)
answer_clean g r (Some finding) counts is = absurd cc

answer_found : (g : Geometry) (r : Reading) (o : Option (Kind × ℕ)) (kind : Kind) (n : ℕ) → verdict_on g r o ≡ Finding kind n → o ≡ Some (kind, n)
answer_found g r None kind n is = absurd cc
answer_found g r (Some (k, m)) kind n is = cc

pub clean_is_sound : (g : Geometry) (blocks : Blocks) (counts : Counts)
    → (verdict_of g blocks ≡ Clean counts) ↔ (Sound g blocks [] × (counts ≡ counts_of g (reading_of g blocks)))
unfolding verdict_of
clean_is_sound g blocks counts =
    let r = reading_of g blocks in (
      λ is. let clean = answer_clean g r (finding_of g r []) counts is in (record { rules = clean.0; apart = none_held g r }, clean.1),
      λ sound. ap (verdict_on g r) sound.0.rules ∙ ap Clean (sym sound.1),
    )

pub finding_is_answered : (g : Geometry) (blocks : Blocks) (kind : Kind) (n : ℕ)
    → (verdict_of g blocks ≡ Finding kind n) ↔ (finding_of g (reading_of g blocks) [] ≡ Some (kind, n))
unfolding verdict_of
finding_is_answered g blocks kind n =
    let r = reading_of g blocks in (answer_found g r (finding_of g r []) kind n, λ found. ap (verdict_on g r) found)
