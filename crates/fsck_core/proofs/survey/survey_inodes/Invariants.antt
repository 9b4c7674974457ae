use Rattle.std.proofs.Common.{◌≡◌, ◌≤◌, ◌+◌, ◌*◌, length, drop, IfSome}
use Rattle.volume_model.specs.Format.{block, inodes_of}
use Rattle.sector_disk.specs.Disk.{NoneFailed}
use Rattle.meta_store.specs.Store.{IsUnchanged}
use Rattle.fsck_core.specs.Survey.{HasRoom}
use Rattle.fsck_core.proofs.SurveyTold.{HasLooked}
use Rattle.fsck_core.proofs.survey.survey_inodes.Given as goal

-- those so far were looked at
abbrev pub invariant-loop-one : goal.invariant-loop-one
invariant-loop-one g l = record {
  unchanged : IsUnchanged (g.S.MetaRead.store l.fn.store) (g.S.MetaRead.store l.store);
  none_failed : NoneFailed (g.S.MetaRead.store l.fn.store).disk (g.S.MetaRead.store l.store).disk;
  buffer_size : length l.buffer ≡ 4096;
  numbers_size : length l.numbers ≡ 1036;
  room : HasRoom (g.S.MetaRead.store l.fn.store).geometry l.survey;
  counted : l.survey.claims.count ≤ 13 * inodes_of (g.S.MetaRead.store l.fn.store).geometry + 1037 * l.one-index;
  looked : IfSome (g.S.MetaRead.store l.fn.store).content (λ image. HasLooked (g.S.MetaRead.store l.fn.store).geometry (block image) (drop l.one-index l.unsettled) l.survey);
}
