use Rattle.std.proofs.Common.{sym, ap, ◌∙◌}
use Rattle.std.specs.Option.{option_map}
use Rattle.meta_store.specs.Changes.{changed}
use Rattle.meta_draft.specs.Drafted.{drafted}
use Rattle.path_walk.proofs.LinkTexts.{no_inode, no_link, a_link}
use Rattle.path_walk.proofs.links.link_text.Goals as goal

pub returns-in_default-clause-value : goal.returns-in_default-clause-value
returns-in_default-clause-value g c =
    let told = drafted c.args.draft.now.change (g.S.MetaRead.store c.args.store.now) in
    no_inode told.content told.geometry c.args.i.0 c.in_ok-d.field-0 c.in_default.is c.in_ok-d.ensures.value

pub returns-then-not-is_link-clause-value : goal.returns-then-not-is_link-clause-value
returns-then-not-is_link-clause-value g c =
    let told = drafted c.args.draft.now.change (g.S.MetaRead.store c.args.store.now) in
    no_link told.content told.geometry c.args.i.0 c.in_ok-d.field-0 c.in-Some.d c.in-Some.is (sym c.is_link.ensures ∙ c.if-not-is_link.true) c.in_ok-d.ensures.value

pub returns-clause-value : goal.returns-clause-value
returns-clause-value g c =
    let change = c.args.draft.now.change in
    let told = drafted change (g.S.MetaRead.store c.args.store.now) in
    let now = drafted change (g.S.MetaRead.store c.used_inode.new.store) in
    a_link told.content now.content told.geometry now.geometry c.args.i.0 told.geometry.version c.in_ok-d.field-0 c.in-Some.d c.in_ok-text.text.items c.in-Some.is
    (sym c.is_link.ensures ∙ c.if-not-is_link.false) c.in_ok-d.ensures.inode (ap (option_map (changed change)) c.in_ok-d.ensures.unchanged.content)
    c.in_ok-d.ensures.unchanged.geometry c.in_ok-d.ensures.value c.in_ok-text.ensures.value
