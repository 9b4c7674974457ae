use Rattle.std.proofs.Common.{sym, ap, ◌∙◌}
use Rattle.lufs_base.specs.declared.geometry.Geometry.{Geometry}
use Rattle.volume_model.specs.declared.inode.Dinode.{Dinode}
use Rattle.meta_store.specs.declared.change.Change.{Change}
use Rattle.meta_store.specs.Changing.{all_told}
use Rattle.meta_store.specs.Changes.{numbers_in}
use Rattle.meta_store.specs.NoChange.{no_change}
use Rattle.path_walk.specs.Answers.{end_of}
use Rattle.name_ops.specs.NewRecords.{with_directory}
use Rattle.name_ops.proofs.PlannedStores.{told_no_inode}
use Rattle.name_ops.proofs.MadeDirectoryStores.{making_directory, mkdir_makes, told_no_block, told_no_parent, told_made}
use Rattle.name_ops.proofs.mkdir.draw_mkdir.Goals as goal

pub returns-in_default-clause-drawn : goal.returns-in_default-clause-drawn
returns-in_default-clause-drawn g c =
    let told = all_told (g.S.MetaRead.store c.args.store.now) (g.S.MetaRead.changing c.args.store.now) in
    let p = end_of c.args.walked.now in
    told_no_inode c.args.cred.now (making_directory c.args.mode) p (mkdir_makes c.args.cred.now c.args.mode p) told.read.content told c.geometry.result.now c.args.moment c.args.hand.now c.new-draft.result.change
    c.geometry.ensures.value c.in_default.ensures.none

pub returns-in_default-split_first-clause-drawn : goal.returns-in_default-split_first-clause-drawn
returns-in_default-split_first-clause-drawn g c =
    let told = all_told (g.S.MetaRead.store c.args.store.now) (g.S.MetaRead.changing c.args.store.now) in
    told_no_block told.read.content told c.args.cred.now c.args.mode c.args.moment (end_of c.args.walked.now) c.args.hand.now c.new-draft.result.change
    c.geometry.ensures.in_range (g.met.S.MetaRead.size c.args.store.now)
    c.as_slice.result.now (ap numbers_in c.as_slice.ensures.value ∙ c.in_ok-blocks.ensures) c.in_default-split_first.ensures.cases

pub returns-then-parent-eq0-clause-drawn : goal.returns-then-parent-eq0-clause-drawn
returns-then-parent-eq0-clause-drawn g c =
    let told = all_told (g.S.MetaRead.store c.args.store.now) (g.S.MetaRead.changing c.args.store.now) in
    told_no_parent told.read.content told c.args.cred.now c.args.mode c.args.moment (end_of c.args.walked.now) c.args.hand.now c.new-draft.result.change c.if-parent-eq0.true

pub returns-clause-drawn : goal.returns-clause-drawn
returns-clause-drawn g c =
    let told = all_told (g.S.MetaRead.store c.args.store.now) (g.S.MetaRead.changing c.args.store.now) in
    let later = g.S.MetaRead.store c.enter.new.store in
    let last = g.S.MetaRead.store c.set_time.new.store in
    let i = c.in-Some.i.0 in
    let b = c.in-Some-split_first.b.now.0 in
    let p = end_of c.args.walked.now in
    let record_of = c.new_directory-directory.result in
    let put = c.in_ok-put_directory.ensures.ok
    ∙ ap (λ (change : Change). with_directory c.geometry.result.now i p.dir b record_of change) c.new-draft.ensures
    ∙ ap (λ (h : Geometry). with_directory h i p.dir b record_of no_change) c.geometry.ensures.value
    ∙ ap (λ (d : Dinode). with_directory told.read.geometry i p.dir b d no_change) c.new_directory-directory.ensures.value in
    told_made told.read.content later.content last.content told later.geometry last.geometry c.args.cred.now c.args.mode c.args.moment p c.args.hand.now i b (numbers_in c.in-Some-split_first.fresh.now)
    c.put_directory.new.draft.change c.enter.new.draft.change c.set_time.new.draft.change c.gain_link.new.draft.change
    c.geometry.ensures.in_range (g.met.S.MetaRead.size c.args.store.now) c.in_ok-enter.ensures.unchanged.content c.in_ok-enter.ensures.unchanged.geometry
    (c.in_ok-set_time.ensures.unchanged.content ∙ c.in_ok-enter.ensures.unchanged.content) (c.in_ok-set_time.ensures.unchanged.geometry ∙ c.in_ok-enter.ensures.unchanged.geometry)
    c.in-Some.ensures.some
    (sym c.in_ok-blocks.ensures ∙ sym (ap numbers_in c.as_slice.ensures.value) ∙ ap numbers_in c.in-Some-split_first.ensures.cases.0)
    c.requires.mode c.new_directory-directory.ensures.fits.0 c.new_directory-directory.ensures.fits.1 c.ranges.moment.fits c.new_directory-directory.ensures.fits.2 c.in_ok-put_directory.ensures.chunk
    put (c.in_ok-enter.ensures.drawn c.in-Some.ensures.range.0) c.in_ok-set_time.ensures.drawn c.in_ok-gain_link.ensures.drawn
