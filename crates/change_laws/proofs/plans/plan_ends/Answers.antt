use Rattle.std.proofs.Common.{subst, sym}
use Rattle.volume_model.specs.Sound.{Reading, Tree, IsStored, IsRightTree, HasRightLinks}
use Rattle.volume_laws.proofs.SoundParts.{in_parts}
use Rattle.change_laws.proofs.plans.plan_ends.Goals as goal

pub returns : goal.returns
returns c g blocks r tree hands reads stored stands right links = record {
  sound = (in_parts g blocks hands).1 (
    subst (λ (x : Reading). IsStored g x hands) (sym reads) stored,
    subst (λ (t : Tree). IsRightTree g t) (sym stands) right,
    subst (λ (x : Reading). HasRightLinks x) (sym reads) links,
  );
  stands = stands;
}
