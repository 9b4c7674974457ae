use Rattle.std.proofs.Common.{ap, ◌∙◌}
use Rattle.std.specs.Option.{option_map}
use Rattle.lufs_base.specs.declared.numbers.Ino.{Ino}
use Rattle.meta_store.specs.Changing.{all_told}
use Rattle.path_walk.specs.Answers.{end_of}
use Rattle.name_ops.proofs.RemovedDirectoryStores.{told_no_name, told_emptied}
use Rattle.name_ops.proofs.rmdir.draw_rmdir.Goals as goal

pub returns-in_default-clause-drawn : goal.returns-in_default-clause-drawn
returns-in_default-clause-drawn g c =
    let told = all_told (g.S.MetaRead.store c.args.store.now) (g.S.MetaRead.changing c.args.store.now) in
    told_no_name told.read.content told c.args.moment (end_of c.args.walked.now) c.new-draft.result.change (ap (option_map (λ (i : Ino). i.0)) c.in_default.is)

pub returns-clause-drawn : goal.returns-clause-drawn
returns-clause-drawn g c =
    let told = all_told (g.S.MetaRead.store c.args.store.now) (g.S.MetaRead.changing c.args.store.now) in
    let second = g.S.MetaRead.store c.remove.new.store in
    let third = g.S.MetaRead.store c.set_time.new.store in
    let fourth = g.S.MetaRead.store c.lose_link.new.store in
    let same_second = c.in_ok-remove.ensures.unchanged in
    let same_third = c.in_ok-set_time.ensures.unchanged in
    let same_fourth = c.in_ok-lose_link.ensures.unchanged in
    told_emptied told.read.content second.content third.content fourth.content told second.geometry third.geometry fourth.geometry c.args.moment (end_of c.args.walked.now) c.in-Some.i.0
    c.new-draft.result.change c.remove.new.draft.change c.set_time.new.draft.change c.lose_link.new.draft.change c.drop_inode.new.draft.change
    c.requires (g.met.S.MetaRead.size c.args.store.now)
    same_second.content (same_third.content ∙ same_second.content) (same_fourth.content ∙ same_third.content ∙ same_second.content)
    same_second.geometry (same_third.geometry ∙ same_second.geometry) (same_fourth.geometry ∙ same_third.geometry ∙ same_second.geometry)
    (ap (option_map (λ (i : Ino). i.0)) c.in-Some.is) c.new-draft.ensures
    c.in_ok-remove.ensures.drawn c.in_ok-set_time.ensures.drawn c.in_ok-lose_link.ensures.drawn c.in_ok-drop_inode.ensures.dropped
