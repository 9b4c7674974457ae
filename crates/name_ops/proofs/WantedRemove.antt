-- What a `remove` is answered that asks a store, where the content is told.
use Rattle.std.proofs.Common.{◌≡◌, ℕ, Bool, true, false, List, [], Option, Some, None, IfSome, refl, sym, ap, ◌∙◌, subst}
use Rattle.std.specs.Prelude.{is_some}
use Rattle.std.specs.Option.{option_map_or}
use Rattle.std.proofs.lemmas.Bool.{true≢false, false≢true}
use Rattle.lufs_base.specs.declared.geometry.Geometry.{Geometry}
use Rattle.volume_model.specs.declared.hand.Hand.{Hand}
use Rattle.volume_model.specs.declared.inode.Dinode.{Dinode}
use Rattle.volume_model.specs.Format.{Image, block}
use Rattle.volume_model.specs.Sound.{Node, Tree, StandsFor}
use Rattle.tree_types.specs.declared.credentials.Cred.{Cred}
use Rattle.tree_types.specs.declared.call.Call.{Call}
use Rattle.tree_types.specs.declared.call.Call.TheVariants.{Remove}
use Rattle.tree_types.specs.declared.reply.Refusal.TheVariants.{Noent, Denied, Isdir}
use Rattle.history_model.specs.Places.{is_directory_node, is_directory_in, may}
use Rattle.history_model.specs.Walk.{WalkEnd}
use Rattle.inode_reads.specs.InodeOf.{IsInodeOf}
use Rattle.name_ops.specs.Asked.{IsWritable}
use Rattle.name_ops.specs.declared.wanted.Wanted.TheVariants.{Refused, Wants}
use Rattle.name_ops.proofs.AskedStores.{IsReadByTree}
use Rattle.name_ops.proofs.WantedCreate.{Writable}
use Rattle.name_ops.proofs.OnePathPlans.{Answers}
use Rattle.name_ops.proofs.DecidedRemove.{noent, denied, isdir, wants}

-- whether inode i is a directory, of each tree
abbrev pub IsKind : Option Image → Geometry → (i : ℕ) → Bool → Type 0
IsKind content g i is = (tree : Tree) (hands : List Hand) → IfSome content (λ image. StandsFor g (block image) tree hands → is ≡ is_directory_in tree i)

pub told_no_directory : (content : Option Image) (g : Geometry) (i : ℕ) → IsReadByTree content g i None → IsKind content g i false
told_no_directory None g i read tree hands = tt
told_no_directory (Some image) g i read tree hands = λ stands. sym (ap (λ (o : Option Node). option_map_or is_directory_node o false) (read tree hands stands))

pub told_directory : (content : Option Image) (g : Geometry) (i : ℕ) (d : Dinode) (is : Bool) → ((tree : Tree) → IsInodeOf g tree i (Some d) → is ≡ is_directory_in tree i) → IsReadByTree content g i (Some d)
    → IsKind content g i is
told_directory None g i d is by_tree read tree hands = tt
told_directory (Some image) g i d is by_tree read tree hands = λ stands. by_tree tree (read tree hands stands)

abbrev pub remove : (path : List ℕ) → Call
remove path = Remove path

pub told_noent : (content : Option Image) (g : Geometry) (cred : Cred) (p : WalkEnd) → p.found ≡ None → Answers remove content g cred p (Refused Noent)
told_noent None g cred p none tree hands path = tt
told_noent (Some image) g cred p none tree hands path = λ stands. noent g tree cred path p none

none_there : (o : Option Dinode) → is_some o ≡ false → o ≡ None
none_there None is = refl
none_there (Some d) is = absurd (true≢false is)

some_there : (o : Option Dinode) → is_some o ≡ true → (d : Dinode) × (o ≡ Some d)
some_there None is = absurd (false≢true is)
some_there (Some d) is = (d, refl)

module _ (found : Option Dinode) (i : ℕ) where
  pub told_denied : (content : Option Image) (g : Geometry) (cred : Cred) (p : WalkEnd) → p.found ≡ Some i → Writable content g cred p.dir found → is_some found ≡ false → Answers remove content g cred p (Refused Denied)
  told_denied None g cred p is writable none tree hands path = tt
  told_denied (Some image) g cred p is writable none tree hands path = λ stands.
      denied g tree cred path p i is (subst (λ (o : Option Dinode). IsWritable g tree cred p.dir o) (none_there found none) (writable tree hands stands))

  has_right : (g : Geometry) (tree : Tree) (cred : Cred) (dir : ℕ) → IsWritable g tree cred dir found → is_some found ≡ true → may tree cred dir 2 ≡ true
  has_right g tree cred dir writable some = let d = some_there found some in (subst (λ (o : Option Dinode). IsWritable g tree cred dir o) d.1 writable).0

  pub told_isdir : (content now : Option Image) (g h : Geometry) (cred : Cred) (p : WalkEnd) → now ≡ content → h ≡ g → p.found ≡ Some i → Writable content g cred p.dir found → is_some found ≡ true
      → (directory : Bool) → directory ≡ true → IsKind now h i directory → Answers remove content g cred p (Refused Isdir)
  told_isdir None now g h cred p same alike is writable some directory sure kind tree hands path = tt
  told_isdir (Some image) now g h cred p same alike is writable some directory sure kind tree hands path = λ stands.
      let here = subst (λ (k : Geometry). IsKind (Some image) k i directory) alike (subst (λ (c : Option Image). IsKind c h i directory) same kind) in
      isdir g tree cred path p i is (has_right g tree cred p.dir (writable tree hands stands) some) (sym (here tree hands stands) ∙ sure)

  pub told_wants : (content now : Option Image) (g h : Geometry) (cred : Cred) (p : WalkEnd) → now ≡ content → h ≡ g → p.found ≡ Some i → Writable content g cred p.dir found → is_some found ≡ true
      → (directory : Bool) → directory ≡ false → IsKind now h i directory → Answers remove content g cred p (Wants false [] 0)
  told_wants None now g h cred p same alike is writable some directory sure kind tree hands path = tt
  told_wants (Some image) now g h cred p same alike is writable some directory sure kind tree hands path = λ stands.
      let here = subst (λ (k : Geometry). IsKind (Some image) k i directory) alike (subst (λ (c : Option Image). IsKind c h i directory) same kind) in
      wants g tree cred path p i is (has_right g tree cred p.dir (writable tree hands stands) some) (sym (here tree hands stands) ∙ sure)
