use Rattle.fsck_core.proofs.LookSteps.{groups_known}
use Rattle.fsck_core.proofs.StoreSteps.{unchanged_then}
use Rattle.fsck_core.proofs.verdict.look.Goals as goal

pub read_inodes-requires : goal.read_inodes-requires
read_inodes-requires g c = record {
  groups = groups_known (g.S.MetaRead.store c.args.store.now) (g.S.MetaRead.store c.read_groups.new.store) c.in_ok-groups.groups.items c.read_groups.ensures.unchanged
      c.in_ok-groups.ensures.part c.in_ok-groups.ensures.size;
}

pub survey_inodes-requires-clause-groups : goal.survey_inodes-requires-clause-groups
survey_inodes-requires-clause-groups g c =
    groups_known (g.S.MetaRead.store c.args.store.now) (g.S.MetaRead.store c.read_inodes.new.store) c.in_ok-groups.groups.items
    (unchanged_then c.read_groups.ensures.unchanged c.read_inodes.ensures.unchanged) c.in_ok-groups.ensures.part c.in_ok-groups.ensures.size
