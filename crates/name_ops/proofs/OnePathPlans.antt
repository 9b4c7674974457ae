-- The plan of a call with one path that makes no inode and answers no more than that it is done, where the content is told.
use Rattle.std.proofs.Common.{◌≡◌, ◌≤◌, ℕ, Bool, true, false, List, Option, Some, None, IfSome, refl, sym, subst, arith}
use Rattle.std.specs.List.{All}
use Rattle.lufs_base.specs.Layout.{IsGeometry}
use Rattle.lufs_base.specs.declared.geometry.Geometry.{Geometry}
use Rattle.volume_model.specs.declared.hand.Hand.{Hand}
use Rattle.volume_model.specs.Format.{Image, block}
use Rattle.volume_model.specs.Sound.{Tree, StandsFor}
use Rattle.tree_types.specs.declared.credentials.Cred.{Cred}
use Rattle.tree_types.specs.declared.call.Call.{Call}
use Rattle.tree_types.specs.declared.reply.Refusal.{Refusal}
use Rattle.tree_types.specs.declared.reply.Reply.{Reply}
use Rattle.tree_types.specs.declared.reply.Reply.TheVariants as reply
use Rattle.history_model.specs.Walk.{WalkEnd}
use Rattle.history_model.specs.Ends.{One}
use Rattle.history_model.specs.Wants as model
use Rattle.history_model.specs.Wants.{wants_at}
use Rattle.history_model.specs.Refusals.{Decision, Refuse, Unchanged, Proceed, decision_at}
use Rattle.history_model.specs.Replies.{reply_at, tree_after}
use Rattle.history_model.specs.Histories.{makes_inode}
use Rattle.meta_store.specs.declared.change.Change.{Change}
use Rattle.meta_store.specs.Changing.{AllTold}
use Rattle.meta_store.specs.NoChange.{no_change}
use Rattle.draft_laws.specs.Drafts.{IsRecorded}
use Rattle.plan_ends.specs.Planned.{ino_of, MayPlan, IsHandFor, IsPlanned, IsDrawn, IsTight}
use Rattle.name_ops.specs.Asked.{asked}
use Rattle.name_ops.specs.declared.wanted.Wanted.{Wanted}
use Rattle.name_ops.specs.declared.wanted.Wanted.TheVariants.{Refused, Wants}
use Rattle.name_ops.proofs.PlannedStores.{HasRoom}
use Rattle.name_ops.proofs.PlannedCalls.{refused_as, refused_planned, unchanged_tight, carried_planned, carried_tight}

-- one that wants something is carried out, if it isn't left as it is
goes_on : (d : Decision) (wanted : model.Wanted) (inode : Bool) (fresh : List ℕ) (others : ℕ) → (d ≡ Unchanged → ⊥) → Wants inode fresh others ≡ asked d wanted → d ≡ Proceed
goes_on (Refuse why) wanted inode fresh others changes is = absurd (let e : Wants inode fresh others ≡ Refused why = is in cc)
goes_on Unchanged wanted inode fresh others changes is = absurd (changes refl)
goes_on Proceed wanted inode fresh others changes is = refl

-- a change of fewer bytes has room
pub room_left : (room : Option ℕ) (bytes need : ℕ) → bytes ≤ need → IfSome room (λ n. need ≤ n) → IfSome room (λ n. bytes ≤ n)
room_left None bytes need less has = tt
room_left (Some n) bytes need less has = omega (arith, less, has)

module _ (call : (path : List ℕ) → Call) where
  -- what is answered that asks
  abbrev pub Answers : Option Image → Geometry → Cred → WalkEnd → Wanted → Type 0
  Answers content g cred p wanted = (tree : Tree) (hands : List Hand) (path : List ℕ) → IfSome content (λ image. StandsFor g (block image) tree hands
      → wanted ≡ asked (decision_at g tree cred (call path) (One p)) (wants_at tree (call path) (One p)))

  -- for each tree, path and hands with which the call may be planned
  abbrev pub Plannable : Option Image → AllTold → Cred → WalkEnd → Type 0
  Plannable content told cred p =
      IfSome content (λ image. (tree : Tree) × (path : List ℕ) × (hand : Hand) × (held : List Hand) × (after : List Hand) × MayPlan told image tree cred (call path) (One p) held hand after)

  abbrev pub Planned : Option Image → AllTold → Cred → (moment : ℕ) → WalkEnd → Change → Reply → Type 0
  Planned content told cred moment p change answer = (tree : Tree) (path : List ℕ) (hand : Hand) (held after : List Hand) → IfSome content (λ image.
      MayPlan told image tree cred (call path) (One p) held hand after → IsPlanned told.read.geometry image tree cred (call path) (ino_of hand) moment after change answer)

  abbrev pub Drawn : Option Image → AllTold → (moment : ℕ) → WalkEnd → Change → Type 0
  Drawn content told moment p change = (tree : Tree) (cred : Cred) (path : List ℕ) (hand : Hand) (held after : List Hand) → IfSome content (λ image.
      MayPlan told image tree cred (call path) (One p) held hand after → decision_at told.read.geometry tree cred (call path) (One p) ≡ Proceed
      → IsDrawn told.read.geometry image told.changing.is_taken change (tree_after told.read.geometry tree cred (ino_of hand) moment (call path)) after)

  -- of a store that tells the same
  moved_may : (told now : AllTold) (image : Image) (tree : Tree) (cred : Cred) (path : List ℕ) (p : WalkEnd) (held : List Hand) (hand : Hand) (after : List Hand) → now.read.geometry ≡ told.read.geometry
      → now.changing.is_taken ≡ told.changing.is_taken → MayPlan told image tree cred (call path) (One p) held hand after → MayPlan now image tree cred (call path) (One p) held hand after
  moved_may told now image tree cred path p held hand after alike taken may = record {
    stands = subst (λ (h : Geometry). StandsFor h (block image) tree held) (sym alike) may.stands;
    walked = may.walked;
    spent = may.spent;
    taken = subst (λ (t : ℕ → Bool). All (λ b. t b ≡ true) hand.blocks) (sym taken) may.taken;
    wanted = subst (λ (h : Geometry). decision_at h tree cred (call path) (One p) ≡ Proceed → IsHandFor (wants_at tree (call path) (One p)) hand) (sym alike) may.wanted;
  }

  pub moved_drawn : (content : Option Image) (told now : AllTold) (moment : ℕ) (p : WalkEnd) (change : Change) → now.read.content ≡ content → now.read.geometry ≡ told.read.geometry
      → ((b : ℕ) → now.changing.is_taken b ≡ told.changing.is_taken b) → Drawn now.read.content now moment p change → Drawn content told moment p change
  moved_drawn None told now moment p change same alike taken draws tree cred path hand held after = tt
  moved_drawn (Some image) told now moment p change same alike taken draws tree cred path hand held after = λ may go.
      let same_taken : now.changing.is_taken ≡ told.changing.is_taken = λ t b. taken b t in
      let here = subst (λ (c : Option Image). Drawn c now moment p change) same draws in
      let drawn = here tree cred path hand held after (moved_may told now image tree cred path p held hand after alike same_taken may)
      (subst (λ (h : Geometry). decision_at h tree cred (call path) (One p) ≡ Proceed) (sym alike) go) in
      subst (λ (t : ℕ → Bool). IsDrawn told.read.geometry image t change (tree_after told.read.geometry tree cred (ino_of hand) moment (call path)) after) same_taken
      (subst (λ (h : Geometry). IsDrawn h image now.changing.is_taken change (tree_after h tree cred (ino_of hand) moment (call path)) after) alike drawn)

  pub told_refused : (content : Option Image) (told : AllTold) (cred : Cred) (moment : ℕ) (p : WalkEnd) (why : Refusal) → IsGeometry told.read.geometry → HasRoom content told.read.geometry
      → Answers content told.read.geometry cred p (Refused why) → Planned content told cred moment p no_change (reply.Refused why)
  told_refused None told cred moment p why ok room asks tree path hand held after = tt
  told_refused (Some image) told cred moment p why ok room asks tree path hand held after = λ may.
      refused_planned told image tree cred (call path) (One p) (ino_of hand) moment held after hand ok room may why
      (refused_as (decision_at told.read.geometry tree cred (call path) (One p)) (wants_at tree (call path) (One p)) why (asks tree held path may.stands))

  pub told_nothing : (content : Option Image) (told : AllTold) (cred : Cred) (p : WalkEnd) → IsGeometry told.read.geometry → HasRoom content told.read.geometry
      → Plannable content told cred p → IfSome content (λ base. IsTight told.read.geometry base told.changing.is_taken no_change)
  told_nothing None told cred p ok room may = tt
  told_nothing (Some image) told cred p ok room may = unchanged_tight told image may.0 cred (call may.1) (One p) 0 0 may.3 may.4 may.2 ok room may.5

  module _ (changes : (g : Geometry) (tree : Tree) (cred : Cred) (path : List ℕ) (p : WalkEnd) → decision_at g tree cred (call path) (One p) ≡ Unchanged → ⊥)
      (inode : Bool) (fresh : List ℕ) (others : ℕ) (change result : Change) where
    pub told_done : (content : Option Image) (told : AllTold) (cred : Cred) (moment : ℕ) (p : WalkEnd) → IsGeometry told.read.geometry → HasRoom content told.read.geometry
        → Answers content told.read.geometry cred p (Wants inode fresh others) → Drawn content told moment p change → (IsRecorded told.read.geometry change → result ≡ change)
        → ((g : Geometry) (tree : Tree) (path : List ℕ) → reply_at g tree (call path) (One p) ≡ reply.Done) → ((path : List ℕ) → makes_inode (call path) ≡ false)
        → Planned content told cred moment p result reply.Done
    told_done None told cred moment p ok room asks draws whole says makes tree path hand held after = tt
    told_done (Some image) told cred moment p ok room asks draws whole says makes tree path hand held after = λ may.
        let g = told.read.geometry in
        let go = goes_on (decision_at g tree cred (call path) (One p)) (wants_at tree (call path) (One p)) inode fresh others (changes g tree cred path p) (asks tree held path may.stands) in
        let drawn = draws tree cred path hand held after may go in
        subst (λ (c : Change). IsPlanned g image tree cred (call path) (ino_of hand) moment after c reply.Done) (sym (whole drawn.draft.recorded))
        (carried_planned told image tree cred (call path) (One p) (ino_of hand) moment held after hand ok room may change drawn go (says g tree path) (makes path))

    pub told_tight : (content : Option Image) (told : AllTold) (cred : Cred) (moment : ℕ) (p : WalkEnd) → IsGeometry told.read.geometry → HasRoom content told.read.geometry
        → Answers content told.read.geometry cred p (Wants inode fresh others) → Drawn content told moment p change → (IsRecorded told.read.geometry change → result ≡ change)
        → Plannable content told cred p → IfSome content (λ base. IsTight told.read.geometry base told.changing.is_taken result)
    told_tight None told cred moment p ok room asks draws whole may = tt
    told_tight (Some image) told cred moment p ok room asks draws whole all =
        let g = told.read.geometry in
        let tree = all.0 in
        let path = all.1 in
        let hand = all.2 in
        let held = all.3 in
        let after = all.4 in
        let may = all.5 in
        let go = goes_on (decision_at g tree cred (call path) (One p)) (wants_at tree (call path) (One p)) inode fresh others (changes g tree cred path p) (asks tree held path may.stands) in
        let drawn = draws tree cred path hand held after may go in
        subst (λ (c : Change). IsTight g image told.changing.is_taken c) (sym (whole drawn.draft.recorded))
        (carried_tight told image tree cred (call path) (One p) (ino_of hand) moment held after hand ok room may change drawn)
