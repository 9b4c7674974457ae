-- The plan of a call that makes an inode with one name, where the content is told.
use Rattle.std.proofs.Common.{◌≡◌, ◌≢◌, ◌≤◌, ◌<◌, ℕ, ◌*◌, Bool, true, false, List, [], ◌∷◌, Option, Some, None, IfSome, refl, sym, ap, ◌∙◌, subst, arith}
use Rattle.std.specs.Prelude.{unwrap_or}
use Rattle.std.specs.List.{All}
use Rattle.lufs_base.specs.Layout.{IsGeometry, blocks_of}
use Rattle.lufs_base.specs.declared.geometry.Geometry.{Geometry}
use Rattle.volume_model.specs.declared.hand.Hand.{Hand}
use Rattle.volume_model.specs.Format.{Image, block, sectors_of, inodes_of}
use Rattle.volume_model.specs.Sound.{Tree, StandsFor}
use Rattle.tree_types.specs.declared.credentials.Cred.{Cred}
use Rattle.tree_types.specs.declared.call.Call.{Call}
use Rattle.tree_types.specs.declared.reply.Refusal.{Refusal}
use Rattle.tree_types.specs.declared.reply.Reply.{Reply}
use Rattle.tree_types.specs.declared.reply.Reply.TheVariants as reply
use Rattle.history_model.specs.Places.{is_directory_in}
use Rattle.history_model.specs.Walk.{WalkEnd, first_of}
use Rattle.history_model.specs.Ends.{One}
use Rattle.history_model.specs.Edits.{Enter, edited}
use Rattle.history_model.specs.Wants as model
use Rattle.history_model.specs.Wants.{wants_at}
use Rattle.history_model.specs.Refusals.{Decision, Refuse, Unchanged, Proceed, decision_at}
use Rattle.history_model.specs.Replies.{reply_at, tree_after}
use Rattle.history_model.specs.Histories.{IsUsable}
use Rattle.history_rules.proofs.MakeLaws.{refusing}
use Rattle.meta_store.specs.declared.change.Change.{Change}
use Rattle.meta_store.specs.Changing.{AllTold}
use Rattle.meta_store.specs.NoChange.{no_change}
use Rattle.draft_laws.specs.Drafts.{IsRecorded, IsDraft}
use Rattle.dir_ops.specs.Edits.{DrawsTree, MayEnter}
use Rattle.plan_ends.specs.Planned.{ino_of, MayPlan, IsHandFor, IsPlanned, IsDrawn, IsTight}
use Rattle.name_ops.specs.Asked.{asked}
use Rattle.name_ops.specs.declared.wanted.Wanted.{Wanted}
use Rattle.name_ops.specs.declared.wanted.Wanted.TheVariants.{Refused, Wants}
use Rattle.name_ops.proofs.MadeNodes.{ends_in_directory, has_some, usable}
use Rattle.name_ops.proofs.PlannedCalls.{refused_as, refused_planned, unchanged_tight, done_planned, carried_tight}

-- The call makes an inode: it is refused or carried out, wants an inode, and answers no more than that it is done.
pub record MakesInode (g : Geometry) (tree : Tree) (cred : Cred) (call : Call) (p : WalkEnd) : Type 0 where
  pub decides : decision_at g tree cred call (One p) ≢ Unchanged
  pub answer : reply_at g tree call (One p) ≡ reply.Done
  pub inode : (wants_at tree call (One p)).inode ≡ true

-- rows that all refuse leave nothing as it is
pub rows_decide : (rows : List (Bool × Refusal)) → first_of (refusing rows) Proceed ≢ Unchanged
rows_decide [] is = let e : Proceed ≡ Unchanged = is in cc
rows_decide ((true, why) ∷ rows) is = let e : Refuse why ≡ Unchanged = is in cc
rows_decide ((false, why) ∷ rows) is = rows_decide rows is

-- what it is answered that isn't refused
carried : (d : Decision) (wanted : model.Wanted) (inode : Bool) (fresh : List ℕ) (others : ℕ) → d ≢ Unchanged → Wants inode fresh others ≡ asked d wanted → d ≡ Proceed
carried (Refuse r) wanted inode fresh others decides is = absurd (let e : Wants inode fresh others ≡ Refused r = is in cc)
carried Unchanged wanted inode fresh others decides is = absurd (decides refl)
carried Proceed wanted inode fresh others decides is = refl

-- the blocks of the volume are told
abbrev pub HasRoom : Option Image → Geometry → Type 0
HasRoom content g = IfSome content (λ image. 8 * blocks_of g ≤ sectors_of image)

-- what is answered that is asked, of each tree and path
abbrev pub AnswersOf : Option Image → Geometry → Cred → (call : List ℕ → Call) → WalkEnd → List Hand → Wanted → Type 0
AnswersOf content g cred call p held wanted = (tree : Tree) (path : List ℕ) → IfSome content (λ image. StandsFor g (block image) tree held → is_directory_in tree p.dir ≡ true
    → wanted ≡ asked (decision_at g tree cred (call path) (One p)) (wants_at tree (call path) (One p)))

-- for each tree, path and hands after with which the call may be planned
abbrev pub Plannable : Option Image → AllTold → Cred → (call : List ℕ → Call) → WalkEnd → (held : List Hand) → Hand → Type 0
Plannable content told cred call p held hand =
    IfSome content (λ image. (tree : Tree) × (path : List ℕ) × (after : List Hand) × MayPlan told image tree cred (call path) (One p) held hand after)

abbrev pub Planned : Option Image → AllTold → Cred → (call : List ℕ → Call) → (moment : ℕ) → WalkEnd → (held : List Hand) → Hand → Change → Reply → Type 0
Planned content told cred call moment p held hand change answer = (tree : Tree) (path : List ℕ) (after : List Hand) → IfSome content (λ image.
    MayPlan told image tree cred (call path) (One p) held hand after → IsPlanned told.read.geometry image tree cred (call path) (ino_of hand) moment after change answer)

abbrev pub Drawn : Option Image → AllTold → Cred → (call : List ℕ → Call) → (moment : ℕ) → WalkEnd → Hand → Change → Type 0
Drawn content told cred call moment p hand change = (tree : Tree) (path : List ℕ) (held after : List Hand) → IfSome content (λ image.
    MayPlan told image tree cred (call path) (One p) held hand after → decision_at told.read.geometry tree cred (call path) (One p) ≡ Proceed
    → IsDrawn told.read.geometry image told.changing.is_taken change (tree_after told.read.geometry tree cred (ino_of hand) moment (call path)) after)

abbrev pub Enters : Option Image → Geometry → (old new : Change) → WalkEnd → (fresh : List ℕ) → (i : ℕ) → Type 0
Enters content g old new p fresh i = IfSome content (λ base. (taken : ℕ → Bool) (hands after : List Hand) → IsDraft g base taken old hands
    → MayEnter g base taken old p.dir p.name fresh hands after → DrawsTree g base taken old new p.dir (edited (Enter p.dir p.name i)) after)

module _ (cred : Cred) (call : List ℕ → Call) (p : WalkEnd) (makes : (g : Geometry) (tree : Tree) (path : List ℕ) → MakesInode g tree cred (call path) p) where
  -- the hand has an inode, which may be used
  pub its_inode : (told : AllTold) (image : Image) (tree : Tree) (path : List ℕ) (held after : List Hand) (hand : Hand) → MayPlan told image tree cred (call path) (One p) held hand after
      → decision_at told.read.geometry tree cred (call path) (One p) ≡ Proceed → (i : ℕ) × (hand.inode ≡ Some i) × IsUsable told.read.geometry tree i
  its_inode told image tree path held after hand may go =
      let fits = may.wanted go in
      let i = has_some hand.inode (fits.inode ∙ (makes told.read.geometry tree path).inode) in
      (i.0, i.1, usable told image tree cred (call path) p held after hand may i.0 i.1)

  pub told_refused : (content : Option Image) (told : AllTold) (moment : ℕ) (held : List Hand) (hand : Hand) (why : Refusal) → IsGeometry told.read.geometry → HasRoom content told.read.geometry
      → AnswersOf content told.read.geometry cred call p held (Refused why) → Planned content told cred call moment p held hand no_change (reply.Refused why)
  told_refused None told moment held hand why ok room asks tree path after = tt
  told_refused (Some image) told moment held hand why ok room asks tree path after = λ may.
      refused_planned told image tree cred (call path) (One p) (ino_of hand) moment held after hand ok room may why
      (refused_as (decision_at told.read.geometry tree cred (call path) (One p)) (wants_at tree (call path) (One p)) why
      (asks tree path may.stands (ends_in_directory tree cred (call path) p may.walked)))

  pub told_nothing : (content : Option Image) (told : AllTold) (held : List Hand) (hand : Hand) → IsGeometry told.read.geometry → HasRoom content told.read.geometry
      → Plannable content told cred call p held hand → IfSome content (λ base. IsTight told.read.geometry base told.changing.is_taken no_change)
  told_nothing None told held hand ok room may = tt
  told_nothing (Some image) told held hand ok room may = unchanged_tight told image may.0 cred (call may.1) (One p) 0 0 held may.2 hand ok room may.3

  -- the hand always has an inode
  pub told_no_inode : (content : Option Image) (told : AllTold) (h : Geometry) (moment : ℕ) (hand : Hand) (change : Change) → h ≡ told.read.geometry
      → IfSome hand.inode (λ i. 0 < i → inodes_of h ≤ i) → Drawn content told cred call moment p hand change
  told_no_inode None told h moment hand change alike none tree path held after = tt
  told_no_inode (Some image) told h moment hand change alike none tree path held after = λ may go.
      let i = its_inode told image tree path held after hand may go in
      let its = i.2 in
      let past = subst (λ (o : Option ℕ). IfSome o (λ i. 0 < i → inodes_of h ≤ i)) i.1 none (omega (arith, its.low)) in
      absurd (omega (arith, past, its.high, ap inodes_of alike))

  module _ (inode : Bool) (fresh : List ℕ) (others : ℕ) (change result : Change) where
    goes : (g : Geometry) (tree : Tree) (path : List ℕ) → Wants inode fresh others ≡ asked (decision_at g tree cred (call path) (One p)) (wants_at tree (call path) (One p))
        → decision_at g tree cred (call path) (One p) ≡ Proceed
    goes g tree path is = carried (decision_at g tree cred (call path) (One p)) (wants_at tree (call path) (One p)) inode fresh others (makes g tree path).decides is

    pub told_done : (content : Option Image) (told : AllTold) (moment : ℕ) (held : List Hand) (hand : Hand) → IsGeometry told.read.geometry → HasRoom content told.read.geometry
        → AnswersOf content told.read.geometry cred call p held (Wants inode fresh others) → Drawn content told cred call moment p hand change → (IsRecorded told.read.geometry change → result ≡ change)
        → Planned content told cred call moment p held hand result reply.Done
    told_done None told moment held hand ok room asks draws whole tree path after = tt
    told_done (Some image) told moment held hand ok room asks draws whole tree path after = λ may.
        let go = goes told.read.geometry tree path (asks tree path may.stands (ends_in_directory tree cred (call path) p may.walked)) in
        let drawn = draws tree path held after may go in
        let i = its_inode told image tree path held after hand may go in
        let same : i.0 ≡ ino_of hand = sym (ap (λ (o : Option ℕ). unwrap_or o 0) i.1) in
        subst (λ (c : Change). IsPlanned told.read.geometry image tree cred (call path) (ino_of hand) moment after c reply.Done) (sym (whole drawn.draft.recorded))
        (done_planned told image tree cred (call path) (One p) (ino_of hand) moment held after hand ok room may change drawn go (makes told.read.geometry tree path).answer
        (λ makes_one. subst (λ (n : ℕ). IsUsable told.read.geometry tree n) same i.2))

    pub told_tight : (content : Option Image) (told : AllTold) (moment : ℕ) (held : List Hand) (hand : Hand) → IsGeometry told.read.geometry → HasRoom content told.read.geometry
        → AnswersOf content told.read.geometry cred call p held (Wants inode fresh others) → Drawn content told cred call moment p hand change → (IsRecorded told.read.geometry change → result ≡ change)
        → Plannable content told cred call p held hand → IfSome content (λ base. IsTight told.read.geometry base told.changing.is_taken result)
    told_tight None told moment held hand ok room asks draws whole may = tt
    told_tight (Some image) told moment held hand ok room asks draws whole all =
        let tree = all.0 in
        let path = all.1 in
        let after = all.2 in
        let may = all.3 in
        let go = goes told.read.geometry tree path (asks tree path may.stands (ends_in_directory tree cred (call path) p may.walked)) in
        let drawn = draws tree path held after may go in
        subst (λ (c : Change). IsTight told.read.geometry image told.changing.is_taken c) (sym (whole drawn.draft.recorded))
        (carried_tight told image tree cred (call path) (One p) (ino_of hand) moment held after hand ok room may change drawn)

-- of a store that tells the same
moved_may : (told now : AllTold) (image : Image) (tree : Tree) (cred : Cred) (call : Call) (p : WalkEnd) (held : List Hand) (hand : Hand) (after : List Hand) → now.read.geometry ≡ told.read.geometry
    → now.changing.is_taken ≡ told.changing.is_taken → MayPlan told image tree cred call (One p) held hand after → MayPlan now image tree cred call (One p) held hand after
moved_may told now image tree cred call p held hand after alike taken may = record {
  stands = subst (λ (h : Geometry). StandsFor h (block image) tree held) (sym alike) may.stands;
  walked = may.walked;
  spent = may.spent;
  taken = subst (λ (t : ℕ → Bool). All (λ b. t b ≡ true) hand.blocks) (sym taken) may.taken;
  wanted = subst (λ (h : Geometry). decision_at h tree cred call (One p) ≡ Proceed → IsHandFor (wants_at tree call (One p)) hand) (sym alike) may.wanted;
}

pub moved_drawn : (content : Option Image) (told now : AllTold) (cred : Cred) (call : List ℕ → Call) (moment : ℕ) (p : WalkEnd) (hand : Hand) (change : Change) → now.read.content ≡ content
    → now.read.geometry ≡ told.read.geometry → ((b : ℕ) → now.changing.is_taken b ≡ told.changing.is_taken b) → Drawn now.read.content now cred call moment p hand change
    → Drawn content told cred call moment p hand change
moved_drawn None told now cred call moment p hand change same alike taken draws tree path held after = tt
moved_drawn (Some image) told now cred call moment p hand change same alike taken draws tree path held after = λ may go.
    let same_taken : now.changing.is_taken ≡ told.changing.is_taken = λ t b. taken b t in
    let here = subst (λ (c : Option Image). Drawn c now cred call moment p hand change) same draws in
    let drawn = here tree path held after (moved_may told now image tree cred (call path) p held hand after alike same_taken may)
    (subst (λ (h : Geometry). decision_at h tree cred (call path) (One p) ≡ Proceed) (sym alike) go) in
    subst (λ (t : ℕ → Bool). IsDrawn told.read.geometry image t change (tree_after told.read.geometry tree cred (ino_of hand) moment (call path)) after) same_taken
    (subst (λ (h : Geometry). IsDrawn h image now.changing.is_taken change (tree_after h tree cred (ino_of hand) moment (call path)) after) alike drawn)

-- a change of fewer bytes has room
pub room_for : (room : Option ℕ) (bytes need : ℕ) → bytes ≤ need → IfSome room (λ n. need ≤ n) → IfSome room (λ n. bytes ≤ n)
room_for None bytes need less has = tt
room_for (Some n) bytes need less has = omega (arith, less, has)
