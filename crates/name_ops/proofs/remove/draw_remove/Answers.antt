use Rattle.std.proofs.Common.{Option, ap, subst, ◌∙◌}
use Rattle.std.specs.Option.{option_map}
use Rattle.lufs_base.specs.declared.numbers.Ino.{Ino}
use Rattle.volume_model.specs.declared.inode.Dinode.{Dinode}
use Rattle.meta_store.specs.Changing.{all_told}
use Rattle.path_walk.specs.Answers.{end_of}
use Rattle.name_ops.proofs.AskedStores.{IsReadByTree}
use Rattle.name_ops.proofs.RemovedStores.{told_no_name, told_no_inode, told_removed}
use Rattle.name_ops.proofs.remove.draw_remove.Goals as goal

pub returns-in_default-clause-drawn : goal.returns-in_default-clause-drawn
returns-in_default-clause-drawn g c =
    let told = all_told (g.S.MetaRead.store c.args.store.now) (g.S.MetaRead.changing c.args.store.now) in
    told_no_name told.read.content told c.args.moment (end_of c.args.walked.now) c.new-draft.result.change (ap (option_map (λ (i : Ino). i.0)) c.in_default.is)

pub returns-in_default-2-clause-drawn : goal.returns-in_default-2-clause-drawn
returns-in_default-2-clause-drawn g c =
    let told = all_told (g.S.MetaRead.store c.args.store.now) (g.S.MetaRead.changing c.args.store.now) in
    told_no_inode told.read.content told c.args.moment (end_of c.args.walked.now) c.in-Some.i.0 c.new-draft.result.change c.requires (g.met.S.MetaRead.size c.args.store.now)
    (ap (option_map (λ (i : Ino). i.0)) c.in-Some.is)
    (subst (λ (o : Option Dinode). IsReadByTree told.read.content told.read.geometry c.in-Some.i.0 o) c.in_default-2.is c.in_ok-d.ensures.tree)

pub returns-clause-drawn : goal.returns-clause-drawn
returns-clause-drawn g c =
    let told = all_told (g.S.MetaRead.store c.args.store.now) (g.S.MetaRead.changing c.args.store.now) in
    let first = g.S.MetaRead.store c.read_inode.new.store in
    let second = g.S.MetaRead.store c.remove.new.store in
    let third = g.S.MetaRead.store c.set_time.new.store in
    let same_first = c.in_ok-d.ensures.unchanged in
    let same_second = c.in_ok-remove.ensures.unchanged in
    let same_third = c.in_ok-set_time.ensures.unchanged in
    told_removed told.read.content first.content second.content third.content told first.geometry second.geometry third.geometry c.args.moment (end_of c.args.walked.now) c.in-Some.i.0 c.in-Some-2.d
    c.new-draft.result.change c.remove.new.draft.change c.set_time.new.draft.change c.lose_name.new.draft.change
    c.requires (g.met.S.MetaRead.size c.args.store.now)
    same_first.content (same_second.content ∙ same_first.content) (same_third.content ∙ same_second.content ∙ same_first.content)
    same_first.geometry (same_second.geometry ∙ same_first.geometry) (same_third.geometry ∙ same_second.geometry ∙ same_first.geometry)
    (ap (option_map (λ (i : Ino). i.0)) c.in-Some.is)
    (subst (λ (o : Option Dinode). IsReadByTree told.read.content told.read.geometry c.in-Some.i.0 o) c.in-Some-2.is c.in_ok-d.ensures.tree)
    c.new-draft.ensures
    c.in_ok-remove.ensures.drawn c.in_ok-set_time.ensures.drawn c.in_ok-lose_name.ensures.dropped c.in_ok-lose_name.ensures.kept_link
