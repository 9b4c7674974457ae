use Rattle.std.proofs.Common.{Some, ap, ◌∙◌}
use Rattle.lufs_base.specs.declared.geometry.Geometry.{Geometry}
use Rattle.volume_model.specs.declared.inode.Dinode.{Dinode}
use Rattle.volume_model.specs.Format.{dinode_bytes}
use Rattle.meta_store.specs.declared.change.Change.{Change}
use Rattle.meta_store.specs.Changing.{all_told}
use Rattle.meta_store.specs.Changes.{numbers_in}
use Rattle.meta_store.specs.NoChange.{no_change}
use Rattle.meta_store.specs.Deltas.{inode_delta}
use Rattle.meta_draft.specs.Drafted.{with_delta}
use Rattle.path_walk.specs.Answers.{end_of}
use Rattle.name_ops.proofs.PlannedStores.{told_no_inode}
use Rattle.name_ops.proofs.CreatedStores.{creating, create_makes, told_created}
use Rattle.name_ops.proofs.create.draw_create.Goals as goal

pub returns-in_default-clause-drawn : goal.returns-in_default-clause-drawn
returns-in_default-clause-drawn g c =
    let told = all_told (g.S.MetaRead.store c.args.store.now) (g.S.MetaRead.changing c.args.store.now) in
    let p = end_of c.args.walked.now in
    told_no_inode c.args.cred.now (creating c.args.mode) p (create_makes c.args.cred.now c.args.mode p) told.read.content told c.geometry.result.now c.args.moment c.args.hand.now c.new-draft.result.change
    c.geometry.ensures.value c.in_default.ensures.none

pub returns-clause-drawn : goal.returns-clause-drawn
returns-clause-drawn g c =
    let told = all_told (g.S.MetaRead.store c.args.store.now) (g.S.MetaRead.changing c.args.store.now) in
    let later = g.S.MetaRead.store c.enter.new.store in
    let i = c.in-Some.i.0 in
    let file = c.new_file-file.result in
    let put = c.in_ok-put_inode.ensures.ok
    ∙ ap (λ (change : Change). with_delta change (inode_delta c.geometry.result.now i (dinode_bytes (Some file)))) c.new-draft.ensures
    ∙ ap (λ (h : Geometry). with_delta no_change (inode_delta h i (dinode_bytes (Some file)))) c.geometry.ensures.value
    ∙ ap (λ (d : Dinode). with_delta no_change (inode_delta told.read.geometry i (dinode_bytes (Some d)))) c.new_file-file.ensures.value in
    told_created told.read.content later.content told later.geometry c.args.cred.now c.args.mode c.args.moment (end_of c.args.walked.now) c.args.hand.now i
    c.put_inode.new.self.change c.enter.new.draft.change c.set_time.new.draft.change (numbers_in c.as_slice.result.now)
    c.geometry.ensures.in_range (g.met.S.MetaRead.size c.args.store.now) c.in_ok-enter.ensures.unchanged.content c.in_ok-enter.ensures.unchanged.geometry
    c.in-Some.ensures.some c.requires.mode c.new_file-file.ensures.fits.0 c.new_file-file.ensures.fits.1 c.ranges.moment.fits
    put (ap numbers_in c.as_slice.ensures.value ∙ c.in_ok-fresh.ensures)
    (c.in_ok-enter.ensures.drawn c.in-Some.ensures.range.0) c.in_ok-set_time.ensures.drawn
