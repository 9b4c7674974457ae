-- How a call is served: told at once, or carried out.
use Rattle.std.proofs.Common.{◌≡◌, inl, inr, ℕ, Bool, true, false, ◌&&◌, List, [], Option, Some, None, IfSome, refl, sym, ap, ◌∙◌, subst}
use Rattle.std.specs.Prelude.{is_some, unwrap_or}
use Rattle.lufs_base.specs.declared.geometry.Geometry.{Geometry}
use Rattle.volume_model.specs.declared.hand.Hand.{Hand}
use Rattle.volume_model.specs.Format.{Image, block}
use Rattle.volume_model.specs.Sound.{Tree, StandsFor}
use Rattle.tree_types.specs.declared.credentials.Cred.{Cred}
use Rattle.tree_types.specs.declared.call.Call.{Call}
use Rattle.tree_types.specs.declared.reply.Refusal.TheVariants as refusal
use Rattle.tree_types.specs.declared.reply.Reply.{Reply}
use Rattle.tree_types.specs.declared.reply.Reply.TheVariants as reply
use Rattle.history_model.specs.Replies.{reply_of, tree_after}
use Rattle.history_model.specs.Histories.{is_ok, is_carried_out, makes_inode, IsUsable}
use Rattle.script_text.specs.ShortReplies.{is_short}
use Rattle.plan_ends.specs.Planned.{ino_of}
use Rattle.path_walk.specs.Answers.{end_of}
use Rattle.path_walk.specs.declared.walked.Walked.{Walked}
use Rattle.call_ops.specs.Served.{is_served}
use Rattle.call_ops.specs.declared.asked.Asked.{Asked}
use Rattle.call_ops.specs.declared.asked.Asked.TheVariants.{Told, Wants}
use Rattle.call_ops.specs.Asked.{IsReplyAlone, IsWanting, IsAskedOn}
use Rattle.plain_calls.specs.InHand.{HasEnough}
use Rattle.plain_calls.specs.Served.{IsServed}
use Rattle.plain_calls.proofs.Enough.{enough, makes_wanted, answered_done}
use Rattle.plain_calls.proofs.Inside.{reply_carried}
use Rattle.plain_calls.proofs.ShortReplies.{reply_short}

abbrev after_by : Bool → (after tree : Tree) → Tree
after_by carried after tree = elim carried [ true ↦ after | false ↦ tree ]

module _ (g : Geometry) (moment : ℕ) (tree : Tree) (cred : Cred) (c : Call) (served : is_served c ≡ true) where
  -- it tells its reply, and the tree stays
  pub served_told : (answer : Reply) (image now : Image) → StandsFor g (block image) tree [] → StandsFor g (block now) tree [] → IsReplyAlone g tree cred c answer → IsServed g moment tree cred c answer None now
  served_told answer image now was stands alone =
      let carried : is_carried_out answer ≡ true = ap is_carried_out alone.replied ∙ reply_carried g tree cred c served in
      record {
        answered = inr alone.replied;
        is_call = λ is. (let e : false ≡ true = sym (ap is_carried_out is) ∙ carried in cc);
        made = sym alone.no_inode;
        usable = tt;
        stands = subst (λ (t : Tree). StandsFor g (block now) t []) (sym (ap (λ (b : Bool). after_by b (tree_after g tree cred 0 moment c) tree) carried ∙ alone.same_tree 0 moment)) stands;
        short = ap is_short alone.replied ∙ subst (λ (t : Tree). is_short (reply_of g t cred c) ≡ true) stands.stands (reply_short g (block now) cred c served);
      }

and_true : (b : Bool) → (b && true) ≡ b
and_true true = refl
and_true false = refl

module _ (g : Geometry) (moment : ℕ) (tree : Tree) (cred : Cred) (c : Call) where
  pub served_done : (walked : Walked) (inode : Bool) (n : ℕ) (hand : Hand) (answer : Reply) (now : Image) → IsWanting g tree cred c walked inode n → is_some hand.inode ≡ inode → IfSome hand.inode (IsUsable g tree)
      → answer ≡ reply_of g tree cred c → StandsFor g (block now) (tree_after g tree cred (ino_of hand) moment c) [] → IsServed g moment tree cred c answer hand.inode now
  served_done walked inode n hand answer now wanting has usable replied stands =
      let done : answer ≡ reply.Done = replied ∙ answered_done g tree cred (end_of walked) c wanting.ends wanting.decision wanting.names in
      record {
        answered = inr replied;
        is_call = λ is. (let e : reply.Done ≡ reply.Refused refusal.Syntax = sym done ∙ is in cc);
        made = has ∙ wanting.inode ∙ makes_wanted g tree cred (end_of walked) c wanting.names ∙ sym (ap (λ (r : Reply). makes_inode c && is_ok r) done ∙ and_true (makes_inode c));
        usable = usable;
        stands = subst (λ (t : Tree). StandsFor g (block now) t []) (sym (ap (λ (r : Reply). after_by (is_carried_out r) (tree_after g tree cred (unwrap_or hand.inode 0) moment c) tree) done)) stands;
        short = ap is_short done;
      }

-- what is asked is told alone, or wanted
module _ (g : Geometry) (image : Image) (tree : Tree) (cred : Cred) (c : Call) (held : List Hand) (none : held ≡ []) (asked : Asked) (stands : StandsFor g (block image) tree [])
    (answer : StandsFor g (block image) tree held → IsAskedOn g tree cred c asked) where
  asked_on : IsAskedOn g tree cred c asked
  asked_on = subst (λ (l : List Hand). StandsFor g (block image) tree l → IsAskedOn g tree cred c asked) none answer stands

  pub told_alone : (told : Reply) → asked ≡ Told told → IsReplyAlone g tree cred c told
  told_alone told is = subst (IsAskedOn g tree cred c) is asked_on

  pub wants_it : (walked : Walked) (inode : Bool) (n : ℕ) → asked ≡ Wants walked inode n → IsWanting g tree cred c walked inode n
  wants_it walked inode n is = subst (IsAskedOn g tree cred c) is asked_on

-- a content that is told as before stands as before
pub stands_here : (g : Geometry) (image now : Image) (tree : Tree) (hands : List Hand) → Some now ≡ Some image → StandsFor g (block image) tree hands → StandsFor g (block now) tree hands
stands_here g image now tree hands same stands = subst (λ (o : Option Image). IfSome o (λ x. StandsFor g (block x) tree hands)) (sym same) stands

pub stands_there : (g h : Geometry) (image now : Image) (tree : Tree) (hands : List Hand) → h ≡ g → Some now ≡ Some image → StandsFor g (block image) tree hands → StandsFor h (block now) tree hands
stands_there g h image now tree hands alike same stands = subst (λ (k : Geometry). StandsFor k (block now) tree hands) (sym alike) (stands_here g image now tree hands same stands)

pub wants_there : (g h : Geometry) (tree : Tree) (cred : Cred) (c : Call) (walked : Walked) (inode : Bool) (n : ℕ) → h ≡ g → IsWanting g tree cred c walked inode n → IsWanting h tree cred c walked inode n
wants_there g h tree cred c walked inode n alike wanting = subst (λ (k : Geometry). IsWanting k tree cred c walked inode n) (sym alike) wanting

pub enough_there : (g : Geometry) (tree : Tree) (cred : Cred) (c : Call) (walked : Walked) (inode : Bool) (n : ℕ) → IsWanting g tree cred c walked inode n → HasEnough g tree inode n
enough_there g tree cred c walked inode n wanting = enough g tree cred (end_of walked) c inode n wanting.decision wanting.inode wanting.blocks wanting.names

-- the same of stores whose geometry stays
pub served_at : (g h k : Geometry) (moment : ℕ) (tree : Tree) (cred : Cred) (c : Call) (walked : Walked) (inode : Bool) (n : ℕ) (hand : Hand) (answer : Reply) (now : Image) → h ≡ g → k ≡ h
    → IsWanting h tree cred c walked inode n → is_some hand.inode ≡ inode → IfSome hand.inode (IsUsable h tree) → answer ≡ reply_of h tree cred c
    → StandsFor k (block now) (tree_after h tree cred (ino_of hand) moment c) [] → IsServed g moment tree cred c answer hand.inode now
served_at g h k moment tree cred c walked inode n hand answer now first second wanting has usable replied stands =
    subst (λ (x : Geometry). IsServed x moment tree cred c answer hand.inode now) first
    (served_done h moment tree cred c walked inode n hand answer now wanting has usable replied (subst (λ (x : Geometry). StandsFor x (block now) (tree_after h tree cred (ino_of hand) moment c) []) second stands))

and_false : (b : Bool) → (b && false) ≡ false
and_false true = refl
and_false false = refl

-- without memory nothing changed
pub served_without_memory : (g h : Geometry) (moment : ℕ) (tree : Tree) (cred : Cred) (c : Call) (now : Image) → h ≡ g → StandsFor h (block now) tree []
    → IsServed g moment tree cred c (reply.Refused refusal.Nomem) None now
served_without_memory g h moment tree cred c now alike stands = record {
  answered = inl refl;
  is_call = λ is. (let e : reply.Refused refusal.Nomem ≡ reply.Refused refusal.Syntax = is in cc);
  made = sym (and_false (makes_inode c));
  usable = tt;
  stands = subst (λ (x : Geometry). StandsFor x (block now) tree []) alike stands;
  short = refl;
}
