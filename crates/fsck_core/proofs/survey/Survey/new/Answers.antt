use Rattle.std.proofs.Common.{ℕ, List, refl, sym, subst, append-nil, arith}
use Rattle.lufs_base.specs.Layout.{blocks_of}
use Rattle.volume_model.specs.Format.{inodes_of}
use Rattle.volume_model.specs.Sound.{names_in_reading}
use Rattle.fsck_core.specs.Claimed.{HasClaimed}
use Rattle.fsck_core.specs.Inodes.{settled_blocks}
use Rattle.fsck_core.specs.NameTables.{HasNames}
use Rattle.fsck_core.proofs.survey.Survey.new.Goals as goal

pub returns-clause-seen : goal.returns-clause-seen
returns-clause-seen c = λ g r count has. record {
  fields = λ i below. absurd (omega (arith, below));
  claimed = subst (λ (l : List ℕ). HasClaimed (blocks_of g) l c.args.claims) (sym (append-nil (settled_blocks g r (inodes_of g)))) has;
  names = λ once. record {
    chunk = refl;
    name = λ none. refl;
    tables = λ none. subst (λ (n : ℕ). HasNames n 0 (names_in_reading r) c.in_ok-new.field-0) (sym count) (c.in_ok-new.ensures.names (names_in_reading r));
  };
}
