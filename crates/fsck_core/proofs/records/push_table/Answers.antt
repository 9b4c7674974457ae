use Rattle.std.proofs.Common.{◌≡◌, ◌<◌, ◌+◌, ◌-◌, ◌*◌, ℕ, Option, Some, None, sym, ap, subst, ◌∙◌, arith}
use Rattle.std.specs.Result.{result_ok}
use Rattle.volume_model.specs.declared.inode.Dinode.{Dinode}
use Rattle.volume_model.specs.Format.{Blocks}
use Rattle.volume_model.specs.Sound.{inode_at}
use Rattle.fsck_core.specs.declared.inodes.Inodes.{Inodes}
use Rattle.fsck_core.specs.Inodes.{AreKept, HasKept}
use Rattle.fsck_core.specs.Tables.{AreOfGroup}
use Rattle.fsck_core.proofs.InodeRows.{told_in_group}
use Rattle.fsck_core.proofs.RecordLoops.{inode_bad, no_record_is_bad, low_in_use_is_bad, inside_volume, free_kept, free_room}
use Rattle.fsck_core.proofs.records.push_table.Goals as goal
use Rattle.fsck_core.proofs.records.push_table.Goals.{in-Ok-None+in_ok-push_free-in-Ok-None, in-Ok-Some+in_ok-push_used-in-Ok-Some}

pub returns-in_default-clause-part : goal.returns-in_default-clause-part
returns-in_default-clause-part c = λ blocks are groups kept.
    let g = c.args.g.now in
    let l = c.loop-k in
    let i = c.args.n * g.ipg + l.k in
    let within : l.k < g.ipg = omega (arith, c.loop-k-test.true, l.auto.k-end) in
    let read : result_ok c.read_dinode.result ≡ Some (Some c.in-Ok-Some.d) = ap result_ok c.in-Ok-Some.is ∙ ap (λ (o : Option Dinode). Some o) c.in-Ok-Some.field-0-is in
    let told : inode_at g blocks i ≡ Some (Some c.in-Ok-Some.d) =
    told_in_group g blocks c.args.n l.k (128 * l.k + 128 - 128 * l.k) c.args.table.now (result_ok c.read_dinode.result) are c.requires.size within (omega arith) c.read_dinode.ensures.value ∙ read in
    inode_bad g blocks i l.inodes.briefs.items l.inodes.unsettled.items l.inodes.claims l.invariant.room.briefs_size (inside_volume g c.args.n l.k c.requires.group within) groups
    (low_in_use_is_bad i blocks (inode_at g blocks i) c.in-Ok-Some.d told (omega (arith, c.if-i-ge2.false))) (l.invariant.kept blocks are kept)

pub returns-in_default-2-clause-part : goal.returns-in_default-2-clause-part
returns-in_default-2-clause-part c = λ blocks are groups kept.
    let g = c.args.g.now in
    let l = c.loop-k in
    let i = c.args.n * g.ipg + l.k in
    let within : l.k < g.ipg = omega (arith, c.loop-k-test.true, l.auto.k-end) in
    let told : inode_at g blocks i ≡ None =
    told_in_group g blocks c.args.n l.k (128 * l.k + 128 - 128 * l.k) c.args.table.now (result_ok c.read_dinode.result) are c.requires.size within (omega arith) c.read_dinode.ensures.value ∙ ap result_ok c.in_default.is in
    inode_bad g blocks i l.inodes.briefs.items l.inodes.unsettled.items l.inodes.claims l.invariant.room.briefs_size (inside_volume g c.args.n l.k c.requires.group within) groups
    (no_record_is_bad i blocks (inode_at g blocks i) told) (l.invariant.kept blocks are kept)

pub loop-k-preserved : goal.loop-k-preserved
loop-k-preserved c =
    let g = c.args.g.now in
    let l = c.loop-k in
    let i = c.args.n * g.ipg + l.k in
    let after = c.match-read_dinode-2.inodes in
    let within : l.k < g.ipg = omega (arith, c.loop-k-test.true, l.auto.k-end) in
    let below = inside_volume g c.args.n l.k c.requires.group within in
    let next : i + 1 ≡ c.args.n * g.ipg + (l.k + 1) = omega arith in
    let told : (blocks : Blocks) → AreOfGroup g blocks c.args.n c.args.table.now → inode_at g blocks i ≡ result_ok c.read_dinode.result = λ blocks are.
    told_in_group g blocks c.args.n l.k (128 * l.k + 128 - 128 * l.k) c.args.table.now (result_ok c.read_dinode.result) are c.requires.size within (omega arith) c.read_dinode.ensures.value in
    elim c.match-read_dinode-2.branch [
      | in-Ok-None+in_ok-push_free-in-Ok-None w ↦
          let is : result_ok c.read_dinode.result ≡ Some None = cc in
          let ensures = w.in_ok-push_free-in-Ok-None.ensures in
          record {
            kept = λ blocks are kept.
                subst (λ (n : ℕ). AreKept g blocks n after.briefs.items after.unsettled.items after.claims) next
                (subst (λ (s : Inodes). AreKept g blocks (i + 1) s.briefs.items s.unsettled.items s.claims) (sym w.inodes-is)
                (free_kept g blocks i l.inodes w.push_free.new.self l.invariant.room.briefs_size below (told blocks are ∙ is) ensures.briefs ensures.unsettled ensures.claims
                (l.invariant.kept blocks are kept)));
            room = subst (λ (n : ℕ). HasKept g n after.briefs.items after.unsettled.items after.claims) next
                (subst (λ (s : Inodes). HasKept g (i + 1) s.briefs.items s.unsettled.items s.claims) (sym w.inodes-is)
                (free_room g i l.inodes w.push_free.new.self ensures.briefs ensures.unsettled ensures.claims l.invariant.room));
          }
      | in-Ok-Some+in_ok-push_used-in-Ok-Some w ↦
          record {
            kept = λ blocks are kept.
                subst (λ (n : ℕ). AreKept g blocks n after.briefs.items after.unsettled.items after.claims) next
                (subst (λ (s : Inodes). AreKept g blocks (i + 1) s.briefs.items s.unsettled.items s.claims) (sym w.inodes-is)
                (w.in_ok-push_used-in-Ok-Some.ensures.kept blocks below (told blocks are ∙ cc) (omega (arith, w.if-i-ge2.true)) (l.invariant.kept blocks are kept)));
            room = subst (λ (n : ℕ). HasKept g n after.briefs.items after.unsettled.items after.claims) next
                (subst (λ (s : Inodes). HasKept g (i + 1) s.briefs.items s.unsettled.items s.claims) (sym w.inodes-is) w.in_ok-push_used-in-Ok-Some.ensures.room);
          }
    ]
