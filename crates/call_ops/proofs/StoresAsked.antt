-- What a call on names is answered that a store is asked for, and its plan, by the call.
use Rattle.std.proofs.Common.{◌≡◌, ℕ, Bool, true, false, List, Option, Some, None, IfSome, Result, Ok, Err, sym, ◌∙◌, subst}
use Rattle.std.specs.Prelude.{IfOk}
use Rattle.std.specs.List.{list_all}
use Rattle.std.proofs.lemmas.Bool.{true≢false}
use Rattle.lufs_base.specs.Name.{is_name}
use Rattle.lufs_base.specs.declared.geometry.Geometry.{Geometry}
use Rattle.volume_model.specs.declared.hand.Hand.{Hand}
use Rattle.volume_model.specs.Format.{Image, block}
use Rattle.volume_model.specs.Sound.{Tree, StandsFor}
use Rattle.tree_types.specs.declared.credentials.Cred.{Cred}
use Rattle.tree_types.specs.declared.call.Call.{Call}
use Rattle.tree_types.specs.declared.reply.Refusal.{Refusal}
use Rattle.tree_types.specs.declared.reply.Reply.{Reply}
use Rattle.tree_types.specs.declared.reply.Reply.TheVariants as reply
use Rattle.history_model.specs.Places.{is_directory_in}
use Rattle.history_model.specs.Walk.{WalkEnd}
use Rattle.history_model.specs.Ends.{One, end_of, ends_of}
use Rattle.history_model.specs.Wants.{wants_at}
use Rattle.history_model.specs.Refusals.{decision_at}
use Rattle.history_rules.proofs.WalkLaws.{walk_ends}
use Rattle.meta_store.specs.declared.change.Change.{Change}
use Rattle.meta_store.specs.declared.error.StoreError.{StoreError}
use Rattle.meta_store.specs.Changing.{AllTold}
use Rattle.plan_ends.specs.Planned.{ino_of, MayPlan, IsPlanned}
use Rattle.name_ops.specs.Asked.{asked}
use Rattle.name_ops.specs.declared.wanted.Wanted.{Wanted}
use Rattle.inode_reads.proofs.ByTree.{ByTree, follows, follows_both}
use Rattle.file_ops.specs.Replies.{IsReplyTo}
use Rattle.path_walk.specs.Answers.{end_of as place_of}
use Rattle.path_walk.specs.declared.walked.Walked.{Walked}
use Rattle.call_ops.specs.Served.{changes_names, tells, is_path_byte}
use Rattle.call_ops.specs.Ended.{ends_by}
use Rattle.call_ops.specs.declared.asked.Asked.{Asked}
use Rattle.call_ops.specs.Asked.{IsReplyAlone, IsAskedOn, answer_by}
use Rattle.call_ops.proofs.LastNames.{name_right}
use Rattle.call_ops.proofs.EndsAnswered.{walk_to_end}
use Rattle.call_ops.proofs.AskedOnTrees.{not_walked, told_alone, answered}

-- what is answered where the walk of the call ends so
abbrev pub IsAnswer : Geometry → Tree → Cred → WalkEnd → Call → Wanted → Type 0
IsAnswer g tree cred p call wanted = wanted ≡ asked (decision_at g tree cred call (One p)) (wants_at tree call (One p))

module _ (content : Option Image) (g : Geometry) (cred : Cred) (p : WalkEnd) (held : List Hand) (result : Result Wanted StoreError) where
  abbrev pub AnswersCall : Call → Type 0
  AnswersCall call = (tree : Tree) → IfSome content (λ image. StandsFor g (block image) tree held → is_directory_in tree p.dir ≡ true → IfOk result (IsAnswer g tree cred p call))

-- of a call that is answered so wherever its walk ends, and whatever is held
pub wherever : (content : Option Image) (g : Geometry) (cred : Cred) (p : WalkEnd) (held : List Hand) (result : Result Wanted StoreError) (call : Call)
    → ((tree : Tree) (hands : List Hand) → IfSome content (λ image. StandsFor g (block image) tree hands → IfOk result (IsAnswer g tree cred p call)))
    → AnswersCall content g cred p held result call
wherever None g cred p held result call answers tree = tt
wherever (Some image) g cred p held result call answers tree = λ stands directory. answers tree held stands

module _ (told : AllTold) (cred : Cred) (p : WalkEnd) (held : List Hand) (hand : Hand) (moment : ℕ) (result : Result (Change × Reply) StoreError) where
  abbrev pub PlansCall : Call → Type 0
  PlansCall call = (tree : Tree) (after : List Hand) → IfSome told.read.content (λ image.
      MayPlan told image tree cred call (One p) held hand after
      → IfOk result (λ planned. IsPlanned told.read.geometry image tree cred call (ino_of hand) moment after planned.0 planned.1))

-- what holds of each tree holds while these hands are held
pub while_held : (content : Option Image) (g : Geometry) (P : Tree → Type 0) (held : List Hand) → ByTree g content P → (tree : Tree) → IfSome content (λ image. StandsFor g (block image) tree held → P tree)
while_held None g P held holds tree = tt
while_held (Some image) g P held holds tree = λ stands. holds tree held stands

-- a call whose one path was walked
module _ (content : Option Image) (g : Geometry) (cred : Cred) (call : Call) (follow : Bool) (path : List ℕ) (has_path : (tree : Tree) (who : Cred) → ends_of tree who call ≡ end_of tree who follow path) where
  abbrev pub EndsSo : Result Walked Refusal → Type 0
  EndsSo end = ByTree g content (λ tree. end_of tree cred follow path ≡ ends_by end)

  pub none_walked : (why : Refusal) → EndsSo (Err why) → ByTree g content (λ tree. IsReplyAlone g tree cred call (reply.Refused why))
  none_walked why ended =
      follows g content (λ tree. end_of tree cred follow path ≡ Err why) (λ tree. IsReplyAlone g tree cred call (reply.Refused why))
      (λ tree is. not_walked g tree cred call why (has_path tree cred ∙ is)) ended

  module _ (walked : Walked) (ended : EndsSo (Ok walked)) where
    pub all_told_of : (now : Option Image) (h : Geometry) (answer : Reply) → now ≡ content → h ≡ g → tells call ≡ true → ByTree h now (λ tree. IsReplyTo h tree cred call (place_of walked) answer)
        → ByTree g content (λ tree. IsReplyAlone g tree cred call answer)
    all_told_of now h answer same alike told answers =
        follows_both g content (λ tree. end_of tree cred follow path ≡ Ok (One (place_of walked))) (λ tree. IsReplyTo g tree cred call (place_of walked) answer) (λ tree. IsReplyAlone g tree cred call answer)
        (λ tree ends is. told_alone g tree cred call (place_of walked) (has_path tree cred ∙ ends) answer told is) ended
        (subst (λ (o : Option Image). ByTree g o (λ tree. IsReplyTo g tree cred call (place_of walked) answer)) same
        (subst (λ (k : Geometry). ByTree k now (λ tree. IsReplyTo k tree cred call (place_of walked) answer)) alike answers))

-- a call that changes names
module _ (g : Geometry) (cred : Cred) (call : Call) (path : List ℕ) (has_path : (tree : Tree) (who : Cred) → ends_of tree who call ≡ end_of tree who false path) (walked : Walked) where
  abbrev Ended : Option Image → Type 0
  Ended content = ByTree g content (λ tree. end_of tree cred false path ≡ Ok (One (place_of walked)))

  -- its path ends in a name
  pub always_named : (content : Option Image) → list_all is_path_byte path ≡ true → Ended content → is_name walked.name ≡ false → (P : Tree → Type 0) → ByTree g content P
  always_named None bytes ended unnamed P = tt
  always_named (Some image) bytes ended unnamed P = λ tree hands stands.
      absurd (true≢false (sym (name_right tree cred path (place_of walked) bytes (walk_to_end tree cred false path (place_of walked) (ended tree hands stands))) ∙ unnamed))

  pub asked_held : (content now : Option Image) (h : Geometry) (held : List Hand) (wanted : Wanted) (result : Asked) → now ≡ content → h ≡ g → changes_names call ≡ true → Ended content
      → AnswersCall now h cred (place_of walked) held (Ok wanted) call → result ≡ answer_by walked wanted → (tree : Tree) → IfSome content (λ image. StandsFor g (block image) tree held → IsAskedOn g tree cred call result)
  asked_held None now h held wanted result same alike names ended answers is tree = tt
  asked_held (Some image) now h held wanted result same alike names ended answers is tree = λ stands.
      let p = place_of walked in
      let ends = ended tree held stands in
      let directory = (walk_ends tree cred path false p (walk_to_end tree cred false path p ends)).0 in
      let here = subst (λ (o : Option Image). AnswersCall o g cred p held (Ok wanted) call) same (subst (λ (k : Geometry). AnswersCall now k cred p held (Ok wanted) call) alike answers) in
      subst (IsAskedOn g tree cred call) (sym is) (answered g tree cred call walked wanted names (has_path tree cred ∙ ends) (here tree stands directory))
