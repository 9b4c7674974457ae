-- The draft of a `remove`, where the content is told.
use Rattle.std.proofs.Common.{◌≡◌, ◌≢◌, inl, inr, ℕ, Bool, List, Option, Some, None, IfSome, sym, ap, ◌∙◌, subst}
use Rattle.std.specs.Prelude.{is_some, IsSomeAnd}
use Rattle.std.proofs.lemmas.Bool.{cases_eq, false≢true}
use Rattle.lufs_base.specs.Layout.{IsGeometry}
use Rattle.lufs_base.specs.declared.geometry.Geometry.{Geometry}
use Rattle.volume_model.specs.declared.hand.Hand.{Hand}
use Rattle.volume_model.specs.declared.inode.Dinode.{Dinode}
use Rattle.volume_model.specs.Format.{Image}
use Rattle.volume_model.specs.Sound.{Node, Tree}
use Rattle.tree_types.specs.declared.call.Call.TheVariants.{Remove}
use Rattle.tree_types.specs.declared.reply.Refusal.TheVariants.{Noent}
use Rattle.history_model.specs.Places.{links_in}
use Rattle.history_model.specs.Walk.{WalkEnd}
use Rattle.history_model.specs.Edits.{TakeOut, SetTime, edited}
use Rattle.history_model.specs.Refusals.{Refuse, Proceed}
use Rattle.history_rules.proofs.MakeLaws.{directory_in}
use Rattle.history_rules.proofs.NamedRightLaws.{found_used}
use Rattle.meta_store.specs.declared.change.Change.{Change}
use Rattle.meta_store.specs.Changing.{AllTold}
use Rattle.meta_store.specs.NoChange.{no_change}
use Rattle.draft_laws.specs.Drafts.{IsDraft, Draws}
use Rattle.dir_ops.proofs.ToldEdits.{EditsDrafts}
use Rattle.file_map.specs.Dropped.{IsAsItWas}
use Rattle.inode_reads.specs.InodeOf.{IsRecordOf}
use Rattle.plan_ends.specs.Planned.{ino_of}
use Rattle.name_ops.proofs.AskedStores.{IsReadByTree}
use Rattle.name_ops.proofs.PlannedStores.{HasRoom}
use Rattle.name_ops.proofs.LostLinks.{LosesInDrafts}
use Rattle.name_ops.proofs.DecidedRemove.{not_found}
use Rattle.name_ops.proofs.WantedRemove.{remove}
use Rattle.name_ops.proofs.OnePathPlans.{Drawn}
use Rattle.name_ops.proofs.TakenOut.{right, ends, begun}
use Rattle.name_ops.proofs.Removed.{as_it_was, dropped, kept}

-- of each draft of the content that has inode i as it was
abbrev pub DropsInDrafts : Option Image → Geometry → (old new : Change) → (i : ℕ) → Type 0
DropsInDrafts content g old new i = IfSome content (λ base. (taken : ℕ → Bool) (hands : List Hand) → IsDraft g base taken old hands → IsAsItWas g base old i → Draws g base taken old new i None None hands)

-- the same content of the same geometry
pub edits_as : (content other : Option Image) (g h : Geometry) (old new : Change) (i : ℕ) (edit : Tree → Tree) → other ≡ content → h ≡ g → EditsDrafts other h old new i edit → EditsDrafts content g old new i edit
edits_as content other g h old new i edit same alike edits =
    subst (λ (x : Geometry). EditsDrafts content x old new i edit) alike (subst (λ (c : Option Image). EditsDrafts c h old new i edit) same edits)

pub loses_as : (content other : Option Image) (g h : Geometry) (old new : Change) (i : ℕ) → other ≡ content → h ≡ g → LosesInDrafts other h old new i → LosesInDrafts content g old new i
loses_as content other g h old new i same alike loses =
    subst (λ (x : Geometry). LosesInDrafts content x old new i) alike (subst (λ (c : Option Image). LosesInDrafts c h old new i) same loses)

pub drops_as : (content other : Option Image) (g h : Geometry) (old new : Change) (i : ℕ) → other ≡ content → h ≡ g → DropsInDrafts other h old new i → DropsInDrafts content g old new i
drops_as content other g h old new i same alike drops =
    subst (λ (x : Geometry). DropsInDrafts content x old new i) alike (subst (λ (c : Option Image). DropsInDrafts c h old new i) same drops)

-- a name that isn't there is refused
pub told_no_name : (content : Option Image) (told : AllTold) (moment : ℕ) (p : WalkEnd) (change : Change) → p.found ≡ None → Drawn remove content told moment p change
told_no_name None told moment p change none tree cred path hand held after = tt
told_no_name (Some image) told moment p change none tree cred path hand held after = λ may go.
    absurd (let e : Refuse Noent ≡ Proceed = sym (not_found told.read.geometry tree cred path p none) ∙ go in cc)

-- what a name leads to is in use
pub told_no_inode : (content : Option Image) (told : AllTold) (moment : ℕ) (p : WalkEnd) (i : ℕ) (change : Change) → IsGeometry told.read.geometry → HasRoom content told.read.geometry → p.found ≡ Some i
    → IsReadByTree content told.read.geometry i None → Drawn remove content told moment p change
told_no_inode None told moment p i change ok room found read tree cred path hand held after = tt
told_no_inode (Some image) told moment p i change ok room found read tree cred path hand held after = λ may go.
    let g = told.read.geometry in
    let is_right = right told image tree cred (Remove path) p held after hand may in
    let is_in = ends told image tree cred (Remove path) p held after hand may in
    let named = is_in.1 ∙ found in
    let d = directory_in (tree p.dir) is_in.0 in
    absurd (false≢true (sym (ap (λ (o : Option Node). is_some o) (read tree held may.stands)) ∙ (found_used g tree is_right p.dir d.0 p.name i d.1 named).1))

-- the links in its record
links_read : (g : Geometry) (tree : Tree) (i : ℕ) (d : Dinode) (o : Option Node) → IsSomeAnd o (IsRecordOf g tree i d) → d.links ≡ links_in g tree i
links_read g tree i d None is = absurd is
links_read g tree i d (Some node) is = is.links

pub told_removed : (content first second third : Option Image) (told : AllTold) (g h k : Geometry) (moment : ℕ) (p : WalkEnd) (i : ℕ) (d : Dinode) (none one two three : Change)
    → IsGeometry told.read.geometry → HasRoom content told.read.geometry → first ≡ content → second ≡ content → third ≡ content → g ≡ told.read.geometry → h ≡ told.read.geometry → k ≡ told.read.geometry
    → p.found ≡ Some i → IsReadByTree content told.read.geometry i (Some d) → none ≡ no_change
    → EditsDrafts first g none one p.dir (edited (TakeOut p.dir p.name)) → EditsDrafts second h one two p.dir (edited (SetTime p.dir moment))
    → (d.links ≡ 1 → DropsInDrafts third k two three i) → (d.links ≢ 1 → LosesInDrafts third k two three i)
    → Drawn remove content told moment p three
told_removed None first second third told g h k moment p i d none one two three ok room same_first same_second same_third alike_first alike_second alike_third found read empty takes times drops loses tree cred path hand held after = tt
told_removed (Some image) first second third told g h k moment p i d none one two three ok room same_first same_second same_third alike_first alike_second alike_third found read empty takes times drops loses tree cred path hand held after = λ may go.
    let real = told.read.geometry in
    let taken = told.changing.is_taken in
    let takes_here = subst (λ (c : Change). EditsDrafts (Some image) real c one p.dir (edited (TakeOut p.dir p.name))) empty
    (edits_as (Some image) first real g none one p.dir (edited (TakeOut p.dir p.name)) same_first alike_first takes) in
    let times_here = edits_as (Some image) second real h one two p.dir (edited (SetTime p.dir moment)) same_second alike_second times in
    let out = takes_here taken held (begun told image tree cred (Remove path) p held after hand may ok room) in
    let timed = times_here taken held out.draft in
    let links : d.links ≡ links_in real tree i = links_read real tree i d (tree i) (read tree held may.stands) in
    elim (cases_eq d.links 1) [
      | inl last ↦
          let drops_here = drops_as (Some image) third real k two three i same_third alike_third (drops last) in
          dropped told image tree cred path (ino_of hand) moment p held after hand i may go found one two three out timed (sym links ∙ last)
          (drops_here taken held timed.draft (as_it_was told image tree cred path (ino_of hand) moment p held after hand i may go found one two three out timed))
      | inr more ↦
          let loses_here = loses_as (Some image) third real k two three i same_third alike_third (loses more) in
          kept told image tree cred path (ino_of hand) moment p held after hand i may go found one two three out timed (λ e. more (links ∙ e)) (loses_here taken held timed.draft)
    ]
