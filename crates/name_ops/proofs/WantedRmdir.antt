-- What an `rmdir` is answered that asks a store, where the content is told.
use Rattle.std.proofs.Common.{◌≡◌, ℕ, Bool, true, false, List, [], Option, Some, None, IfSome, sym, ap, ◌∙◌, subst}
use Rattle.std.specs.Prelude.{is_some}
use Rattle.std.specs.Option.{option_map}
use Rattle.std.proofs.lemmas.Bool.{true≢false, false≢true}
use Rattle.lufs_base.specs.declared.geometry.Geometry.{Geometry}
use Rattle.volume_model.specs.declared.hand.Hand.{Hand}
use Rattle.volume_model.specs.declared.inode.Dinode.{Dinode}
use Rattle.volume_model.specs.Format.{Image, block}
use Rattle.volume_model.specs.Sound.{reading_of, has_bad_numbers, Tree, tree_of, StandsFor}
use Rattle.volume_laws.proofs.SoundParts.{in_parts}
use Rattle.tree_types.specs.declared.credentials.Cred.{Cred}
use Rattle.tree_types.specs.declared.call.Call.{Call}
use Rattle.tree_types.specs.declared.call.Call.TheVariants.{Rmdir}
use Rattle.tree_types.specs.declared.reply.Refusal.TheVariants.{Noent, Notdir, Denied, Notempty, Inval}
use Rattle.history_model.specs.Places.{is_directory_in, is_dots, may}
use Rattle.history_model.specs.Walk.{WalkEnd}
use Rattle.history_model.specs.Refusals.{is_empty_in}
use Rattle.meta_store.specs.declared.change.Change.{Change}
use Rattle.meta_store.specs.Changes.{changed}
use Rattle.meta_store.specs.NoChange.{no_change}
use Rattle.meta_store.proofs.ImageLaid.{nothing_over}
use Rattle.dir_reads.proofs.StoredNumbers.{stored_numbers}
use Rattle.name_ops.specs.Asked.{IsWritable}
use Rattle.name_ops.specs.declared.wanted.Wanted.{Wanted}
use Rattle.name_ops.specs.declared.wanted.Wanted.TheVariants.{Refused, Wants}
use Rattle.name_ops.proofs.WantedCreate.{Writable}
use Rattle.name_ops.proofs.WantedRemove.{IsKind}
use Rattle.name_ops.proofs.OnePathPlans.{Answers}
use Rattle.name_ops.proofs.DecidedRmdir.{answer, noent, notdir, denied, notempty, inval, wants}

abbrev pub rmdir : (path : List ℕ) → Call
rmdir path = Rmdir path

-- what holds of each tree that the content stands for
abbrev Tells : Option Image → Geometry → (Tree → Type 0) → Type 0
Tells content g P = (tree : Tree) (hands : List Hand) → IfSome content (λ image. StandsFor g (block image) tree hands → P tree)

with_both : (content : Option Image) (g : Geometry) (P Q : Tree → Type 0) → Tells content g P → Tells content g Q → Tells content g (λ tree. P tree × Q tree)
with_both None g P Q first second tree hands = tt
with_both (Some image) g P Q first second tree hands = λ stands. (first tree hands stands, second tree hands stands)

tells_too : (content : Option Image) (g : Geometry) (P Q : Tree → Type 0) → ((tree : Tree) → P tree → Q tree) → Tells content g P → Tells content g Q
tells_too None g P Q then first tree hands = tt
tells_too (Some image) g P Q then first tree hands = λ stands. then tree (first tree hands stands)

told_answer : (content : Option Image) (g : Geometry) (cred : Cred) (p : WalkEnd) (wanted : Wanted) (P : Tree → Type 0) → Tells content g P → ((tree : Tree) (path : List ℕ) → P tree → wanted ≡ answer g tree cred path p)
    → Answers rmdir content g cred p wanted
told_answer None g cred p wanted P tells gives tree hands path = tt
told_answer (Some image) g cred p wanted P tells gives tree hands path = λ stands. gives tree path (tells tree hands stands)

-- whether inode i names nothing besides itself and the one above it, of each tree
abbrev pub IsEmptyAt : Option Image → Geometry → (i : ℕ) → Bool → Type 0
IsEmptyAt content g i empty = (tree : Tree) (hands : List Hand) → IfSome content (λ image. StandsFor g (block image) tree hands → empty ≡ is_empty_in tree i)

-- the same of a store with a change
abbrev pub IsEmptyIn : Option Image → Geometry → Change → (i : ℕ) → Bool → Type 0
IsEmptyIn content g change i empty =
    IfSome (option_map (changed change) content) (λ image. has_bad_numbers g (reading_of g (block image)) i ≡ false → empty ≡ is_empty_in (tree_of g (block image)) i)

pub told_empty : (content : Option Image) (g : Geometry) (change : Change) (i : ℕ) (empty : Bool) → change ≡ no_change → IsEmptyIn content g change i empty → IsEmptyAt content g i empty
told_empty None g change i empty none told tree hands = tt
told_empty (Some image) g change i empty none told tree hands = λ stands.
    let same : changed change image ≡ image = ap (λ (c : Change). changed c image) none ∙ nothing_over image in
    let here = subst (λ (x : Image). has_bad_numbers g (reading_of g (block x)) i ≡ false → empty ≡ is_empty_in (tree_of g (block x)) i) same told in
    let parts = (in_parts g (block image) hands).0 stands.sound in
    here (stored_numbers g (reading_of g (block image)) hands i parts.0) ∙ ap (λ (t : Tree). is_empty_in t i) stands.stands

pub told_noent : (content : Option Image) (g : Geometry) (cred : Cred) (p : WalkEnd) → p.found ≡ None → Answers rmdir content g cred p (Refused Noent)
told_noent None g cred p none tree hands path = tt
told_noent (Some image) g cred p none tree hands path = λ stands. noent g tree cred path p none

-- what the record of the directory says of the right to change its names
no_right : (g : Geometry) (tree : Tree) (cred : Cred) (dir : ℕ) (found : Option Dinode) → is_some found ≡ false → IsWritable g tree cred dir found → may tree cred dir 2 ≡ false
no_right g tree cred dir None none writable = writable
no_right g tree cred dir (Some d) none writable = absurd (true≢false none)

has_right : (g : Geometry) (tree : Tree) (cred : Cred) (dir : ℕ) (found : Option Dinode) → is_some found ≡ true → IsWritable g tree cred dir found → may tree cred dir 2 ≡ true
has_right g tree cred dir None some writable = absurd (false≢true some)
has_right g tree cred dir (Some d) some writable = writable.0

module _ (content : Option Image) (g : Geometry) (cred : Cred) (p : WalkEnd) (i : ℕ) (found : p.found ≡ Some i) (directory : Bool) (kind : IsKind content g i directory) where
  of_kind : (b : Bool) → directory ≡ b → Tells content g (λ tree. is_directory_in tree i ≡ b)
  of_kind b is = tells_too content g (λ tree. directory ≡ is_directory_in tree i) (λ tree. is_directory_in tree i ≡ b) (λ tree same. sym same ∙ is) kind

  pub told_notdir : directory ≡ false → Answers rmdir content g cred p (Refused Notdir)
  told_notdir plain =
      told_answer content g cred p (Refused Notdir) (λ tree. is_directory_in tree i ≡ false) (of_kind false plain) (λ tree path is. notdir g tree cred path p i found is)

  module _ (is : directory ≡ true) (dinode : Option Dinode) (first : Option Image) (h : Geometry) (same : first ≡ content) (alike : h ≡ g) (writable : Writable first h cred p.dir dinode) where
    here : Writable content g cred p.dir dinode
    here = subst (λ (k : Geometry). Writable content k cred p.dir dinode) alike (subst (λ (c : Option Image). Writable c h cred p.dir dinode) same writable)

    -- the directory, and whether its name may go
    of_right : (b : Bool) → ((tree : Tree) → IsWritable g tree cred p.dir dinode → may tree cred p.dir 2 ≡ b)
        → Tells content g (λ tree. (is_directory_in tree i ≡ true) × (may tree cred p.dir 2 ≡ b))
    of_right b by =
        with_both content g (λ tree. is_directory_in tree i ≡ true) (λ tree. may tree cred p.dir 2 ≡ b) (of_kind true is)
        (tells_too content g (λ tree. IsWritable g tree cred p.dir dinode) (λ tree. may tree cred p.dir 2 ≡ b) by here)

    pub told_denied : is_some dinode ≡ false → Answers rmdir content g cred p (Refused Denied)
    told_denied none =
        told_answer content g cred p (Refused Denied) (λ tree. (is_directory_in tree i ≡ true) × (may tree cred p.dir 2 ≡ false)) (of_right false (λ tree. no_right g tree cred p.dir dinode none))
        (λ tree path all. denied g tree cred path p i found all.0 all.1)

    module _ (some : is_some dinode ≡ true) (empty : Bool) (second : Option Image) (k : Geometry) (still : second ≡ content) (as_still : k ≡ g) (emptiness : IsEmptyAt second k i empty) where
      empty_here : IsEmptyAt content g i empty
      empty_here = subst (λ (x : Geometry). IsEmptyAt content x i empty) as_still (subst (λ (c : Option Image). IsEmptyAt c k i empty) still emptiness)

      of_empty : (b : Bool) → empty ≡ b → Tells content g (λ tree. ((is_directory_in tree i ≡ true) × (may tree cred p.dir 2 ≡ true)) × (is_empty_in tree i ≡ b))
      of_empty b it_is =
          with_both content g (λ tree. (is_directory_in tree i ≡ true) × (may tree cred p.dir 2 ≡ true)) (λ tree. is_empty_in tree i ≡ b) (of_right true (λ tree. has_right g tree cred p.dir dinode some))
          (tells_too content g (λ tree. empty ≡ is_empty_in tree i) (λ tree. is_empty_in tree i ≡ b) (λ tree alike. sym alike ∙ it_is) empty_here)

      pub told_notempty : empty ≡ false → Answers rmdir content g cred p (Refused Notempty)
      told_notempty full =
          told_answer content g cred p (Refused Notempty) (λ tree. ((is_directory_in tree i ≡ true) × (may tree cred p.dir 2 ≡ true)) × (is_empty_in tree i ≡ false)) (of_empty false full)
          (λ tree path all. notempty g tree cred path p i found all.0.0 all.0.1 all.1)

      pub told_inval : empty ≡ true → is_dots p.name ≡ true → Answers rmdir content g cred p (Refused Inval)
      told_inval none dots =
          told_answer content g cred p (Refused Inval) (λ tree. ((is_directory_in tree i ≡ true) × (may tree cred p.dir 2 ≡ true)) × (is_empty_in tree i ≡ true)) (of_empty true none)
          (λ tree path all. inval g tree cred path p i found all.0.0 all.0.1 all.1 dots)

      pub told_wants : empty ≡ true → is_dots p.name ≡ false → Answers rmdir content g cred p (Wants false [] 0)
      told_wants none no_dots =
          told_answer content g cred p (Wants false [] 0) (λ tree. ((is_directory_in tree i ≡ true) × (may tree cred p.dir 2 ≡ true)) × (is_empty_in tree i ≡ true)) (of_empty true none)
          (λ tree path all. wants g tree cred path p i found all.0.0 all.0.1 all.1 no_dots)
